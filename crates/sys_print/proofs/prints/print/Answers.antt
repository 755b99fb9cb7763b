use Rattle.std.proofs.Common.{◌≡◌, ◌<◌, ◌∙◌, sym, ap, length, rules, tests}
use Rattle.system_model.specs.Prints.{ask_piece, print}
use Rattle.sys_print.specs.Worlds.{view_world}
use Rattle.sys_print.proofs.Pieces.{prints_some}
use Rattle.sys_print.proofs.prints.print.Goals as goal

pub returns : goal.returns
returns c =
    let w = view_world c.args.world.now in
    let some : 0 < length c.args.text.now = search (rules, tests) in
    let bytes = c.deref.result.now in
    let same : ask_piece (view_world c.in_ok-world.world) 0 bytes ≡ print w c.args.text.now =
    ap (λ w. ask_piece w 0 bytes) c.in_ok-world.ensures
    ∙ ap (λ b. ask_piece w 0 b) (c.deref.ensures.value ∙ c.in_ok-bytes.ensures.spelled)
    ∙ sym (prints_some w c.args.text.now some) in
    rw (← same) c.ask_piece.ensures
