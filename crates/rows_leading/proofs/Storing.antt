-- Rows that write to places and fill arrays and lists.
use Rattle.std.proofs.Common.{◌≡◌, ℕ, ℤ, ◌<◌, Bool, true, false, List, Option, Some, inl, inr, arith}
use Rattle.std.specs.Prelude.{slice_get}
use Rattle.limbo_types.specs.Types.{Ty}
use Rattle.limbo_typed.specs.Typed as typed
use Rattle.limbo_meaning.specs.Places.{Root, Local, Global, Element, Target, Way}
use Rattle.core_code.specs.Code as core
use Rattle.core_code.specs.Code.{Instr}
use Rattle.core_code.specs.Machine as code
use Rattle.dis_meaning.specs.Process.{Process}
use Rattle.dis_memory.specs.Blocks.{World}
use Rattle.value_words.specs.Facts.{Facts}
use Rattle.value_follows.specs.Sides.{sides}
use Rattle.value_follows.specs.Rows.{RowGoes}
use Rattle.value_bases.proofs.Bases.{bases_hold}
use Rattle.rows_moving.proofs.Writing.{writes_go}
use Rattle.rows_lists.proofs.Chaining.{cells_go}
use Rattle.rows_making.proofs.BoxConses.{box_cells_go}
use Rattle.rows_places.proofs.CharacterWrites.{character_writes_go}
use Rattle.rows_places.proofs.Filling.{element_goes}
use Rattle.rows_places.proofs.FillingWholes.{element_whole_goes}
use Rattle.rows_places.proofs.OtherWholes.{other_whole_goes}
use Rattle.rows_places.proofs.WholeWrites.{element_wholes_go, global_wholes_go, local_wholes_go, target_wholes_go}
use Rattle.rows_places.proofs.Others.{other_goes}
use Rattle.rows_places.proofs.Writes.{element_writes_go, global_writes_go, target_writes_go}
use Rattle.rows_leading.specs.Leading.{IsStored}
use Rattle.rows_leading.proofs.Deciding.{Stored, number, reference, box, stored}

module _ (m : typed.Module) (k : Facts) (i : ℕ) (x : World)
    (p : code.Process) (q : Process) (ready : (sides m).ready k i x p q) (t : Ty) (fits : IsStored m t) where
  abbrev pub Here : Instr → Type 0
  Here instr = slice_get p.frame.code p.frame.pc ≡ Some instr

  abbrev pub Row : Type 0
  Row = RowGoes m k i x p q

  module _ (operands part : List ℕ) (from : ℕ) where
    by_place : (root : Root) (parts : List ℕ) → Stored t
        → Here (core.Write t (record { root = root; parts = parts; character = false }) operands part from) → Row
    by_place (Local v) parts (number e) here = writes_go m (bases_hold m) t v parts operands part from (inl e) k i x p q ready here
    by_place (Local v) parts (reference e) here = writes_go m (bases_hold m) t v parts operands part from (inr e) k i x p q ready here
    by_place (Global v) parts (number e) here =
        global_writes_go m (bases_hold m) t v parts operands part from (inl e) k i x p q ready here
    by_place (Global v) parts (reference e) here =
        global_writes_go m (bases_hold m) t v parts operands part from (inr e) k i x p q ready here
    by_place Element parts (number e) here =
        element_writes_go m (bases_hold m) t parts operands part from (inl e) k i x p q ready here
    by_place Element parts (reference e) here =
        element_writes_go m (bases_hold m) t parts operands part from (inr e) k i x p q ready here
    by_place Target parts (number e) here =
        target_writes_go m (bases_hold m) t parts operands part from (inl e) k i x p q ready here
    by_place Target parts (reference e) here =
        target_writes_go m (bases_hold m) t parts operands part from (inr e) k i x p q ready here
    by_place (Local v) parts (box e) here = local_wholes_go m (bases_hold m) t v parts operands part from (e, fits.1) k i x p q ready here
    by_place (Global v) parts (box e) here = global_wholes_go m (bases_hold m) t v parts operands part from (e, fits.1) k i x p q ready here
    by_place Element parts (box e) here = element_wholes_go m (bases_hold m) t parts operands part from (e, fits.1) k i x p q ready here
    by_place Target parts (box e) here = target_wholes_go m (bases_hold m) t parts operands part from (e, fits.1) k i x p q ready here

    at_place : (root : Root) (parts : List ℕ) (character : Bool)
        → Here (core.Write t (record { root = root; parts = parts; character = character }) operands part from) → Row
    at_place root parts true here = character_writes_go m (bases_hold m) t root parts operands part from k i x p q ready here
    at_place root parts false here = by_place root parts (stored m t fits) here

    pub written : (w : Way) → Here (core.Write t w operands part from) → Row
    written w here = at_place w.root w.parts w.character here

  element_so : (array : ℕ) (index : ℤ) (from : ℕ) → Stored t → Here (core.Element t array index from) → Row
  element_so a z from (number e) here = element_goes m (bases_hold m) t a z from (inl e) k i x p q ready here
  element_so a z from (reference e) here = element_goes m (bases_hold m) t a z from (inr e) k i x p q ready here
  element_so a z from (box e) here = element_whole_goes m (bases_hold m) t a z from (e, fits.1) k i x p q ready here

  pub element : (array : ℕ) (index : ℤ) (from : ℕ) → Here (core.Element t array index from) → Row
  element a z from here = element_so a z from (stored m t fits) here

  other_so : (array loop from : ℕ) → Stored t → Here (core.Other t array loop from) → Row
  other_so a l from (number e) here = other_goes m (bases_hold m) t a l from (inl e) k i x p q ready here
  other_so a l from (reference e) here = other_goes m (bases_hold m) t a l from (inr e) k i x p q ready here
  other_so a l from (box e) here = other_whole_goes m (bases_hold m) t a l from (e, fits.1) k i x p q ready here

  pub other : (array loop from : ℕ) → Here (core.Other t array loop from) → Row
  other a l from here = other_so a l from (stored m t fits) here

  cell_so : (into item : ℕ) (back : Option ℕ) → (item < into) → Stored t → Here (core.Cell t into item back) → Row
  cell_so into item back below (number e) here =
      cells_go m (bases_hold m) t into item back (inl e) (λ same. omega (arith, below, same)) k i x p q ready here
  cell_so into item back below (reference e) here =
      cells_go m (bases_hold m) t into item back (inr e) (λ same. omega (arith, below, same)) k i x p q ready here
  cell_so into item back below (box e) here = box_cells_go m (bases_hold m) t into item back e fits.1 k i x p q ready here

  pub cell : (into item : ℕ) (back : Option ℕ) → (item < into) → Here (core.Cell t into item back) → Row
  cell into item back below here = cell_so into item back below (stored m t fits) here
