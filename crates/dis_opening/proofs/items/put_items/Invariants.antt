use Rattle.std.proofs.Common.{◌≡◌, drop}
use Rattle.dis_counts.specs.Opening.{with_items}
use Rattle.dis_opening.specs.Loading.{view_loading, Holds}
use Rattle.dis_opening.proofs.items.put_items.Given as goal

-- What is left to be put in comes to the same.
abbrev pub invariant-loop-item : goal.invariant-loop-item
invariant-loop-item l = record {
  same : with_items l.code.object (view_loading l.fn.loading) l.items ≡ with_items l.code.object (view_loading l.loading) (drop l.item-index l.items);
  holds : Holds l.fn.loading l.loading;
}
