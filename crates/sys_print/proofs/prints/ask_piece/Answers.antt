use Rattle.std.proofs.Common.{◌≡◌, ◌∙◌, sym, ap, take, drop}
use Rattle.system_model.specs.World.{begin_wait}
use Rattle.system_model.specs.Prints.{twrite}
use Rattle.sys_print.specs.Worlds.{view_world}
use Rattle.sys_print.specs.Printing.{view_request}
use Rattle.sys_print.proofs.Pieces.{asks_piece}
use Rattle.sys_print.proofs.prints.ask_piece.Goals as goal

pub returns-clause-printing : goal.returns-clause-printing
returns-clause-printing c =
    let w = view_world c.args.world in
    let tag_is : c.in-Ok.tag ≡ c.from-2.result = sym c.from-2.ensures in
    asks_piece w (view_world c.in_ok-world.world) (view_request c.in_ok-request.request) c.from-2.result c.args.written c.args.bytes.now c.split_at.result.0.now c.in_ok-left.left.items
    (c.from-2.ensures ∙ c.in-Ok.ensures.1 ∙ c.in_ok-free_tag.ensures) (c.split_at.ensures.front ∙ ap (λ n. take n c.args.bytes.now) c.min.ensures) (c.in_ok-left.ensures.items ∙ c.split_at.ensures.back ∙ ap (λ n. drop n c.args.bytes.now) c.min.ensures)
    (c.in_ok-request.ensures.request ∙ ap (λ t. twrite w t c.split_at.result.0.now) tag_is) (c.in_ok-world.ensures ∙ ap (λ t. begin_wait t w) (c.from.ensures ∙ tag_is))
