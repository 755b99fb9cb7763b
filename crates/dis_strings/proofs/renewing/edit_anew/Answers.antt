use Rattle.std.proofs.Common.{refl, sym, ◌∙◌}
use Rattle.dis_strings.proofs.Edits.{edited_anew, edited_live, edited_made, edited_sole}
use Rattle.dis_strings.specs.Renewing.{edited}
use Rattle.dis_strings.proofs.renewing.edit_anew.Goals as goal

pub renew-requires : goal.renew-requires
renew-requires c =
    let r = c.requires.fits in
    edited_sole c.args.heap.now c.apply.new.heap c.args.block.serial r.0 (edited r.0 c.args.change) (c.in-Ok.ensures.edited r.0 r.1) c.requires.sole

pub unreachable-requires : goal.unreachable-requires
unreachable-requires c =
    let r = c.requires.fits in
    c.requires.room
    (sym (edited_made c.args.heap.now c.apply.new.heap c.args.block.serial r.0 (edited r.0 c.args.change) (c.in-Ok.ensures.edited r.0 r.1))
    ∙ c.in-Err-renew.ensures.only_full refl)

pub returns-clause-anew : goal.returns-clause-anew
returns-clause-anew c =
    λ s t.
    let e = c.in-Ok.ensures.edited s t in
    edited_anew c.args.heap.now c.apply.new.heap c.args.block.serial s (edited s c.args.change) e c.renew.new.self c.in-Ok-renew.renewed.serial
    c.in-Ok-renew.ensures.serial (c.in-Ok-renew.ensures.ok _ (edited_live c.args.heap.now c.apply.new.heap c.args.block.serial s (edited s c.args.change) e))
    c.in-Ok-renew.ensures.outside
