-- What rows of places find of their operands, wherever the module's code goes on; and that part of an array lies within the array.
use Rattle.std.proofs.Common.{◌≡◌, ℕ, zero, suc, ◌+◌, ◌≤◌, Bool, true, false, List, [], ◌∷◌, Option, Some, refl, sym, ◌∙◌, subst, arith, inl, inr}
use Rattle.std.specs.Prelude.{slice_get}
use Rattle.limbo_types.specs.Types as ty
use Rattle.limbo_types.specs.Types.{Ty}
use Rattle.limbo_typed.specs.Typed as typed
use Rattle.limbo_kept.specs.Trees.{WayIs, BeginsAt}
use Rattle.limbo_meaning.specs.Places.{Root, Local, Global, Element, Target, Way, count_of}
use Rattle.limbo_meaning.specs.Trees.{Read}
use Rattle.limbo_meaning.specs.Values as value
use Rattle.core_code.specs.Code as core
use Rattle.core_code.specs.Code.{Instr}
use Rattle.core_typing.specs.Held as held
use Rattle.core_typing.specs.Needs.{AreThese, IsA, Finds}
use Rattle.core_typing.specs.Going.{IsTold, RootIsTold, Agrees}
use Rattle.core_typing.specs.Written.{told}
use Rattle.value_words.specs.Forms.{Elements}
use Rattle.value_words.specs.Facts.{Facts, IsFormed, IsPart}
use Rattle.value_code.specs.Objects.{of_function}
use Rattle.value_follows.specs.Stands.{GoesOn, scope}
use Rattle.value_follows.proofs.Standing.{same_some, finds}

-- Where a place begins with what a slot refers to, the code in front tells of which type that slot's value is; an index is an int.
abbrev pub BeginsSo : (tells : ℕ → Option Ty) → held.Slots → Root → (operands : List ℕ) → Type 0
BeginsSo tells known Element (r ∷ c ∷ rs) = IsTold tells known r × IsA known c ty.Int
BeginsSo tells known Element rs = ⊥
BeginsSo tells known Target (r ∷ rs) = IsTold tells known r
BeginsSo tells known Target [] = ⊥
BeginsSo tells known root rs = Unit {0}

abbrev pub EndsSo : held.Slots → (character : Bool) → Root → (operands : List ℕ) → Type 0
EndsSo known true root rs = (c : ℕ) × (slice_get rs (count_of root) ≡ Some c) × IsA known c ty.Int
EndsSo known false root rs = Unit {0}

abbrev pub OperandsFit : (tells : ℕ → Option Ty) → held.Slots → Instr → Type 0
OperandsFit tells known (core.Give t (Read w) into from) = BeginsSo tells known w.root from × EndsSo known w.character w.root from
OperandsFit tells known (core.Write t w operands part from) =
    BeginsSo tells known w.root operands × EndsSo known w.character w.root operands
OperandsFit tells known i = Unit {0}

pub record PlacesFit (m : typed.Module) : Type 0 where
  -- so it is wherever the module's code goes on
  pub operands : (f : typed.Function) (pc : ℕ) (known : held.Slots) (i : Instr) → GoesOn m f pc known →
      slice_get (of_function m f).code pc ≡ Some i → OperandsFit (told (of_function m f).code pc) known i
  -- part of an array lies within the array
  pub parts : (k : Facts) (item : Ty) (b : ℕ) (p : value.Part) → IsPart k item (Some b) (Some p) →
      (block : ℕ) × (long : ℕ) × IsFormed k (Elements item long) block p.array × (p.start + p.long ≤ long)

-- ---- so it is

-- Of operands of types in order, the one of a number is there.
operand_is : (known : held.Slots) (rs : List ℕ) (us : List Ty) (n : ℕ) (t : Ty) → AreThese known rs us → slice_get us n ≡ Some t
    → (c : ℕ) × (slice_get rs n ≡ Some c) × IsA known c t
operand_is known [] [] n t these e = absurd cc
operand_is known (r ∷ rs) (u ∷ us) zero t these e =
    let same : u ≡ t = same_some u t e in (r, refl, subst (IsA known r) same these.0)
operand_is known (r ∷ rs) (u ∷ us) (suc n) t these e = operand_is known rs us n t these.1 e
operand_is known [] (u ∷ us) n t these e = absurd these
operand_is known (r ∷ rs) [] n t these e = absurd these

module _ (m : typed.Module) (f : typed.Function) (tells : ℕ → Option Ty) (known : held.Slots) where
  -- an int stands where one is asked for
  begins_so : (root : Root) (rs : List ℕ) (us : List Ty) (t : Ty) → AreThese known rs us → BeginsAt (scope m f) root us t
      → RootIsTold tells known root rs → BeginsSo tells known root rs
  begins_so (Local x) rs us t these begins told = tt
  begins_so (Global x) rs us t these begins told = tt
  begins_so Element [] us t these begins told = absurd (let c = operand_is known [] us 0 (ty.ArrayOf t) these begins.0 in let e = c.1 in cc)
  begins_so Element (r ∷ []) us t these begins told = absurd (let c = operand_is known (r ∷ []) us 1 ty.Int these begins.1 in let e = c.1 in cc)
  begins_so Element (r ∷ c ∷ rs) us t these begins told =
      let d = operand_is known (r ∷ c ∷ rs) us 1 ty.Int these begins.1 in
      (told, subst (λ s. IsA known s ty.Int) (sym (same_some c d.0 d.1)) d.2)
  begins_so Target [] us t these begins told = absurd (let c = operand_is known [] us 0 begins.2.0 these begins.2.1 in let e = c.1 in cc)
  begins_so Target (r ∷ rs) us t these begins told = told

  ends_so : (character : Bool) (root : Root) (rs : List ℕ) (us : List Ty) → AreThese known rs us
      → (character ≡ true → slice_get us (count_of root) ≡ Some ty.Int) → EndsSo known character root rs
  ends_so true root rs us these indexed = operand_is known rs us (count_of root) ty.Int these (indexed refl)
  ends_so false root rs us these indexed = tt

  way_fits : (w : Way) (rs : List ℕ) (us : List Ty) (t : Ty) → AreThese known rs us → WayIs (scope m f) w us t
      → RootIsTold tells known w.root rs → BeginsSo tells known w.root rs × EndsSo known w.character w.root rs
  way_fits w rs us t these is told = (begins_so w.root rs us is.root these is.begins told, ends_so w.character w.root rs us these is.indexed)

  operands_fit : (pc : ℕ) (i : Instr) → Finds (scope m f) f.of.answer known i
      → Agrees (scope m f) f.of.answer (of_function m f).code pc known i → (told (of_function m f).code pc ≡ tells) → OperandsFit tells known i
  operands_fit pc (core.Give t (Read w) into from) found agree e =
      way_fits w from found.0 t found.1 found.2.0 (subst (λ s. RootIsTold s known w.root from) e agree)
  operands_fit pc (core.Write t w operands part from) found agree e =
      way_fits w operands found.0 t found.1 found.2 (subst (λ s. RootIsTold s known w.root operands) e agree.1)
  operands_fit pc i found agree e = tt

pub agrees_there : (m : typed.Module) (f : typed.Function) (pc : ℕ) (known : held.Slots) (i : Instr) → GoesOn m f pc known
    → slice_get (of_function m f).code pc ≡ Some i → Agrees (scope m f) f.of.answer (of_function m f).code pc known i
agrees_there m f pc known i goes here =
    let g = goes 1 in
    subst (λ (j : Instr). Agrees (scope m f) f.of.answer (of_function m f).code pc known j) (same_some g.0 i (sym g.1 ∙ here)) g.3

part_fits : (k : Facts) (item : Ty) (b : ℕ) (p : value.Part) → IsPart k item (Some b) (Some p)
    → (block : ℕ) × (long : ℕ) × IsFormed k (Elements item long) block p.array × (p.start + p.long ≤ long)
part_fits k item b p (inl whole) = (b, p.long, whole.0, omega (arith, whole.1))
part_fits k item b p (inr part) = (part.1.0, part.1.1.0, part.1.1.1.0, part.1.1.1.1)

pub places_fit : (m : typed.Module) → PlacesFit m
places_fit m = record {
  operands = λ f pc known i goes here.
      operands_fit m f (told (of_function m f).code pc) known pc i (finds m f pc known i goes here) (agrees_there m f pc known i goes here) refl;
  parts = part_fits;
}
