use Rattle.std.proofs.lemmas.Result.{err_from_is_err_and}
use Rattle.std.specs.List.{flat_map}
use Rattle.dis_format.specs.Parts.{link_parts}
use Rattle.dis_format.specs.Writing.{put_all}
use Rattle.dis_writing.proofs.Steps.{item_goes_on, item_ends}
use Rattle.dis_writing.proofs.sections.put_links.Goals as goal

pub returns-in_err-put_link : goal.returns-in_err-put_link
returns-in_err-put_link c =
    let p = err_from_is_err_and c.from_residual.result c.from_residual.ensures.1 in
    rw (p.1, p.2)
    (item_ends link_parts c.in_err-put_link.field-0.0 c.args.links.now c.loop-link.link-index c.link-item.result
    c.loop-link.out.items
    (put_all c.args.out.now.items (flat_map link_parts c.args.links.now)) c.loop-link-test.true c.link-item.is
    c.in_err-put_link.ensures
    c.loop-link.invariant)

pub loop-link-preserved : goal.loop-link-preserved
loop-link-preserved c =
    item_goes_on link_parts c.args.links.now c.loop-link.link-index c.link-item.result c.loop-link.out.items
    c.put_link.new.out.items
    (put_all c.args.out.now.items (flat_map link_parts c.args.links.now)) c.loop-link-test.true c.link-item.is
    c.in_ok-put_link.ensures
    c.loop-link.invariant
