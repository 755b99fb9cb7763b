use Rattle.std.proofs.Common.{◌≡◌, drop}
use Rattle.std.specs.List.{flat_map}
use Rattle.dis_format.specs.Parts.{link_parts}
use Rattle.dis_format.specs.Writing.{put_all}
use Rattle.dis_writing.proofs.sections.put_links.Given as goal

abbrev pub invariant-loop-link : goal.invariant-loop-link
invariant-loop-link l = put_all l.out.items (flat_map link_parts (drop l.link-index l.links))
    ≡ put_all l.fn.out.items (flat_map link_parts l.links)
