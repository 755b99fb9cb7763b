use Rattle.std.proofs.Common.{◌≡◌, ◌++◌, drop}
use Rattle.std.specs.List.{flat_map}
use Rattle.dis_text.specs.Listing.{item_line}
use Rattle.dis_text.proofs.sections.put_items.Given as goal

abbrev pub invariant-loop-item : goal.invariant-loop-item
invariant-loop-item l = l.out.items ++ flat_map item_line (drop l.item-index l.items)
    ≡ l.fn.out.items ++ flat_map item_line l.items
