use Rattle.std.proofs.Common.{◌≡◌, ◌++◌, drop}
use Rattle.std.specs.List.{flat_map}
use Rattle.dis_text.specs.Listing.{link_line}
use Rattle.dis_text.proofs.sections.put_links.Given as goal

abbrev pub invariant-loop-link : goal.invariant-loop-link
invariant-loop-link l = l.out.items ++ flat_map link_line (drop l.link-index l.links)
    ≡ l.fn.out.items ++ flat_map link_line l.links
