-- What holds of layouts.
use Rattle.std.specs.Prelude.{◌≡◌, ℕ, ◌+◌, ◌%◌, ◌≤◌, List, [], ◌∷◌}
use Rattle.std.specs.Int.{next_multiple_of}
use Rattle.limbo_types.specs.Types.{Ty, Adt}
use Rattle.limbo_layout.specs.Adts.{Def, Has}
use Rattle.limbo_layout.specs.Layout.{Room, Laid, AllLaid, behind, nothing, in_order}
use Rattle.limbo_layout.specs.Paths.{HoldsWithin}

-- A type takes one room at most.
abbrev pub OneLayout : Type 0
OneLayout = (defs : List Def) (t : Ty) (r s : Room) → Laid defs t r → Laid defs t s → r ≡ s

-- An adt that has a layout doesn't hold itself as a value.
abbrev pub HoldsNotItself : Type 0
HoldsNotItself = (defs : List Def) (n : ℕ) (r : Room) → Laid defs (Adt n) r → HoldsWithin defs n n → ⊥

-- where a part stands, and its room
pub record Placed : Type 0 where
  pub at : ℕ
  pub room : Room

abbrev pub places : Room → List Room → List Placed
places w [] = []
places w (p ∷ ps) = record { at = next_multiple_of w.size p.align; room = p } ∷ places (behind w p) ps

-- Each part begins where those before it have ended, or later, and all end by a place.
abbrev pub AreApart : (from upto : ℕ) → List Placed → Type 0
AreApart from upto [] = from ≤ upto
AreApart from upto (p ∷ ps) = (from ≤ p.at) × AreApart (p.at + p.room.size) upto ps

-- The parts of a whole don't overlap, and lie inside it.
abbrev pub PartsLieApart : Type 0
PartsLieApart = (rs : List Room) → AreApart 0 (in_order rs).size (places nothing rs)

-- A part stands at a multiple of its alignment, and a whole takes a multiple of its own.
abbrev pub AreAligned : Type 0
AreAligned =
    (defs : List Def) (ts : List Ty) (rs : List Room) → AllLaid defs ts rs →
    ((p : Placed) → Has (places nothing rs) p → p.at % p.room.align ≡ 0) × ((in_order rs).size % (in_order rs).align ≡ 0)
