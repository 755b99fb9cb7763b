use Rattle.std.proofs.Common.{◌≡◌, ℕ, ◌*◌, ◌<◌, false, take, length, get_or}
use Rattle.limbo_layout.specs.Layout.{is_in}
use Rattle.value_tables.proofs.descs.marks_of.Given as goal

-- Each word is marked that begins at a place so far.
abbrev pub invariant-loop-place : goal.invariant-loop-place
invariant-loop-place l =
    (length l.marks.items ≡ l.words)
    × ((w : ℕ) → w < l.words → get_or l.marks.items w false ≡ is_in (4 * w) (take l.place-index l.places))
