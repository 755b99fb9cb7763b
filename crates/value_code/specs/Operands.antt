-- Operands of the machine for slots, variables and places.
use Rattle.std.specs.Prelude.{ℕ, pos, ◌+◌, List, [], ◌∷◌, slice_index_or}
use Rattle.limbo_types.specs.Types as ty
use Rattle.limbo_types.specs.Types.{Ty}
use Rattle.limbo_layout.specs.Adts.{Def}
use Rattle.limbo_meaning.specs.Places.{Root, Local, Global, Element, Target, Way}
use Rattle.limbo_meaning.specs.Operations.{item_of}
use Rattle.dis_isa.specs.declared.inst.Middle.{Middle}
use Rattle.dis_isa.specs.declared.inst.Operand as isa
use Rattle.dis_isa.specs.declared.inst.Operand.TheVariants as operand
use Rattle.dis_isa.specs.declared.op.Op.TheVariants as op
use Rattle.value_frames.specs.Frames.{Form, Nowhere, AsNumber, AsReference, Boxed, form_of, within, within_row, variable_place}
use Rattle.value_frames.specs.Frames.{number_place, reference_place, passing_place, element_place}
use Rattle.value_moves.specs.Operands.{Code, inst, own, of_own, behind}
use Rattle.value_heaps.specs.Blocks.{globals_place}

abbrev pub first_slot : List ℕ → ℕ
first_slot rs = slice_index_or rs 0 0

abbrev pub second_slot : List ℕ → ℕ
second_slot rs = slice_index_or rs 1 0

-- What the code of a function sees: the adts, the types of the module's variables, and its own.
pub record Scene : Type 0 where
  pub adts : List Def
  pub globals : List Ty
  pub variables : List Ty

module _ (s : Scene) where
  abbrev pub number : ℕ → isa.Operand
  number r = own (number_place s.adts s.variables r)

  abbrev pub number_middle : ℕ → Middle
  number_middle r = of_own (number_place s.adts s.variables r)

  abbrev pub reference : ℕ → isa.Operand
  reference r = own (reference_place s.adts s.variables r)

  abbrev pub reference_middle : ℕ → Middle
  reference_middle r = of_own (reference_place s.adts s.variables r)

  -- A byte of a slot's record.
  abbrev pub in_box : (slot at : ℕ) → isa.Operand
  in_box r at = behind (reference_place s.adts s.variables r) at

  abbrev pub by_form : Form → (slot : ℕ) → isa.Operand
  by_form AsNumber r = number r
  by_form AsReference r = reference r
  by_form Boxed r = in_box r 0
  by_form Nowhere r = own passing_place

  -- The value of a slot, of a type; and a part of it.
  abbrev pub in_slot : Ty → (slot : ℕ) → isa.Operand
  in_slot t r = by_form (form_of t) r

  abbrev pub part_in_slot : Ty → (part : List ℕ) → (slot : ℕ) → isa.Operand
  part_in_slot t [] r = in_slot t r
  part_in_slot t (n ∷ ns) r = in_box r (within s.adts t (n ∷ ns))

  -- ---- places

  -- The type of the value with which a place begins, where the first of its operands is a value of this type.
  abbrev pub adt_of : Ty → Ty
  adt_of (ty.RefAdt n) = ty.Adt n
  adt_of (ty.RefPick n k) = ty.Adt n
  adt_of t = t

  abbrev pub root_type : Root → (first : Ty) → Ty
  root_type (Local x) t = slice_index_or s.variables x ty.Nothing
  root_type (Global x) t = slice_index_or s.globals x ty.Nothing
  root_type Element t = item_of t
  root_type Target t = adt_of t

  -- What stands there, so many bytes from the root on; of an element once its address is there.
  abbrev pub at_root : Root → (operands : List ℕ) → (at : ℕ) → isa.Operand
  at_root (Local x) rs at = own (variable_place s.adts s.variables x + at)
  at_root (Global x) rs at = operand.Mp (pos (globals_place + within_row s.adts s.globals x + at))
  at_root Element rs at = behind element_place at
  at_root Target rs at = in_box (first_slot rs) at

  abbrev pub at_place : Way → (first : Ty) → (operands : List ℕ) → isa.Operand
  at_place w t rs = at_root w.root rs (within s.adts (root_type w.root t) w.parts)

  -- The address of an element is looked up first.
  abbrev pub looked_up : Root → (operands : List ℕ) → Code
  looked_up Element rs =
      inst op.Indx (reference (first_slot rs)) (of_own element_place) (number (second_slot rs)) ∷ []
  looked_up r rs = []
