use Rattle.std.proofs.Common.{◌≡◌, ◌≤◌, List, ℕ, length, drop}
use Rattle.std.specs.Ordering.{nat_cmp}
use Rattle.std.specs.Cmp.Lexicographic.{slice_cmp}
use Rattle.std.specs.BTreeMap.{get_by}
use Rattle.limbo_includes.specs.Shelf.{place_from}
use Rattle.limbo_includes.proofs.shelf.index.Given as goal

-- the texts from here on are found
abbrev pub invariant-loop-number : goal.invariant-loop-number
invariant-loop-number l = record {
  within : l.number ≤ length l.texts;
  found : (path : List ℕ) → get_by (slice_cmp nat_cmp path) l.places ≡ place_from l.number (drop l.number l.texts) path;
}

abbrev pub decreases-loop-number : goal.decreases-loop-number
decreases-loop-number l = l.number
