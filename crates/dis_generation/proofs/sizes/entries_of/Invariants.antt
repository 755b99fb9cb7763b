use Rattle.std.proofs.Common.{◌≡◌, ◌≤◌, ◌++◌, ◌+◌, map, drop}
use Rattle.slot_code.specs.View.{view_function}
use Rattle.dis_objects.specs.Objects.{most_instructions}
use Rattle.dis_objects.specs.Sites.{functions_size, entries_from}
use Rattle.dis_generation.proofs.sizes.entries_of.Given as goal

-- The entries so far and those that are left are the whole.
abbrev pub invariant-loop-f : goal.invariant-loop-f
invariant-loop-f l = record {
  within : l.place ≤ most_instructions;
  made : l.entries.items ++ entries_from l.place (map view_function (drop l.f-index l.functions))
      ≡ entries_from l.first (map view_function l.functions);
  counted : l.place + functions_size (map view_function (drop l.f-index l.functions))
      ≡ l.first + functions_size (map view_function l.functions);
}
