-- How far a process is at the last instruction of a row behind whose step it comes, and at the begin of the next row.
use Rattle.std.proofs.Common.{◌≡◌, ℕ, zero, suc, ◌+◌, ◌<◌, ◌≤◌, ◌&&◌, Bool, true, false, List, [], ◌∷◌, ◌++◌, length, Option, Some, None}
use Rattle.std.proofs.Common.{refl, ap, ◌∙◌, arith, if◌then◌else◌, inl, inr}
use Rattle.std.specs.Prelude.{slice_get, slice_index_or, nat_eq}
use Rattle.std.proofs.lemmas.Bool.Decides.{eqb_tells}
use Rattle.limbo_typed.specs.Typed as typed
use Rattle.core_code.specs.Code.{Instr, Give, Place, Gather, Pick, Known, Write, CopyInto, Cell, Call, Print, Skip, Truth, Element, Next, Other, Start}
use Rattle.core_code.specs.Code.{Keep, Take, Drop, Mirror, Unless, Jump, Back, Return}
use Rattle.core_typing.specs.Held as held
use Rattle.core_typing.specs.Going.{stand, behind}
use Rattle.dis_isa.specs.declared.inst.Inst.{Inst}
use Rattle.dis_meaning.specs.Process.{Process}
use Rattle.value_code.specs.Objects.{of_function, size_at, sizes}
use Rattle.value_moves.specs.Operands.{Code}
use Rattle.value_follows.specs.Stands.{place_of, GoesOn}
use Rattle.value_follows.specs.Rows.{Row, is_tidied, rank, place}
use Rattle.value_follows.proofs.Standing.{goes_behind}
use Rattle.value_follows.proofs.Paces.{places_are}

-- ---- ranks

and_false : (b : Bool) → (b && false) ≡ false
and_false true = refl
and_false false = refl

unlike : (a b : ℕ) → a < b → nat_eq a b ≡ false
unlike a b l = elim (eqb_tells a b) [
  | inl y ↦ (let e = y.1 in absurd (omega (arith, e, l)))
  | inr y ↦ y.0
]

alike : (a b : ℕ) → a ≡ b → nat_eq a b ≡ true
alike a b e = elim (eqb_tells a b) [ inl y ↦ y.0 | inr y ↦ absurd (y.1 e) ]

pub rank_mid : (r : Row) (far : ℕ) → suc far < r.size → rank r far ≡ 2 + far
rank_mid r zero l = refl
rank_mid r (suc n) l =
    ap (λ (b : Bool). if is_tidied r.instr && b then 1 else 2 + suc n) (unlike (suc (suc n)) r.size l)
    ∙ ap (λ (b : Bool). if b then 1 else 2 + suc n) (and_false (is_tidied r.instr))

pub rank_last : (r : Row) (far : ℕ) → 0 < far → suc far ≡ r.size → is_tidied r.instr ≡ true → rank r far ≡ 1
rank_last r zero p e t = absurd (omega (arith, p))
rank_last r (suc n) p e t =
    ap (λ (b : Bool). if b && nat_eq (suc (suc n)) r.size then 1 else 2 + suc n) t
    ∙ ap (λ (b : Bool). if b then 1 else 2 + suc n) (alike (suc (suc n)) r.size e)

-- ---- the next row

tail_some : (xs : Code) (i : Inst) → length (xs ++ i ∷ []) ≡ 0 → ⊥
tail_some [] i e = absurd cc
tail_some (x ∷ xs) i e = absurd cc

module _ (m : typed.Module) (f : typed.Function) where
  abbrev instrs : List Instr
  instrs = (of_function m f).code

  abbrev size_of_it : (pc : ℕ) → Instr → ℕ
  size_of_it pc i = size_at m f.of.answer (of_function m f) pc (Some i)

  -- where an instruction has no code of the machine's, the next one comes
  abbrev Comes : (pc : ℕ) → held.Slots → Instr → Type 0
  Comes pc known i =
      (after : held.Slots) × (0 < length (behind m.adts pc known i)) × (slice_index_or (behind m.adts pc known i) 0 (stand (suc pc) after) ≡ stand (suc pc) after)

  comes_next : (pc : ℕ) (known : held.Slots) (i : Instr) → size_of_it pc i ≡ 0 → Comes pc known i
  comes_next pc known (Give t o into from) e = (_, omega arith, refl)
  comes_next pc known (Place t v j k into from) e = (_, omega arith, refl)
  comes_next pc known (Gather t o into from) e = (_, omega arith, refl)
  comes_next pc known (Pick t k into from) e = (_, omega arith, refl)
  comes_next pc known (Known v into) e = (_, omega arith, refl)
  comes_next pc known (Write t w os part from) e = (_, omega arith, refl)
  comes_next pc known (CopyInto a s from) e = (_, omega arith, refl)
  comes_next pc known (Cell t into item back) e = (_, omega arith, refl)
  comes_next pc known (Call t g into from) e = (_, omega arith, refl)
  comes_next pc known (Print ps into from) e = (_, omega arith, refl)
  comes_next pc known (Skip k into d from n) e = absurd cc
  comes_next pc known (Truth into from) e = (_, omega arith, refl)
  comes_next pc known (Element t a z from) e = (_, omega arith, refl)
  comes_next pc known (Start l) e = (_, omega arith, refl)
  comes_next pc known (Next a l zs n) e = absurd cc
  comes_next pc known (Other t a l from) e = (_, omega arith, refl)
  comes_next pc known (Keep l from n) e = (_, omega arith, refl)
  comes_next pc known (Take l from n k) e = absurd cc
  comes_next pc known (Drop r k) e = (_, omega arith, refl)
  comes_next pc known (Mirror d n) e = absurd cc
  comes_next pc known (Unless r n) e = absurd cc
  comes_next pc known (Jump n) e = absurd cc
  comes_next pc known (Back n) e = absurd cc
  comes_next pc known (Return None) e = absurd (tail_some _ _ e)
  comes_next pc known (Return (Some r)) e = absurd (tail_some _ _ e)

  there_below : (is : List Instr) (n : ℕ) (i : Instr) → slice_get is n ≡ Some i → n < length is
  there_below [] n i e = absurd cc
  there_below (j ∷ is) zero i e = omega arith
  there_below (j ∷ is) (suc n) i e = let l = there_below is n i e in omega (arith, l)

  abbrev AtRow : (number pc : ℕ) → Process → Type 0
  AtRow number pc q = (known : held.Slots) → GoesOn m f pc known → q.frame.pc ≡ place_of m number f pc → place m q ≡ 2

  module _ (number pc : ℕ) (q : Process) (there : slice_get m.functions number ≡ Some f) (known : held.Slots) (goes : GoesOn m f pc known)
      (at : q.frame.pc ≡ place_of m number f pc) where
    here_begins : (i : Instr) → slice_get instrs pc ≡ Some i → (size : ℕ) → size_of_it pc i ≡ size → (size ≡ 0 → AtRow number (suc pc) q) → place m q ≡ 2
    here_begins i here (suc n) size next =
        (places_are m).ranked number f pc i 0 q there here (omega (arith, size)) (omega (arith, at))
    here_begins i here zero size next =
        let comes = comes_next pc known i size in
        let h : sizes m f.of.answer (of_function m f) (suc pc) ≡ sizes m f.of.answer (of_function m f) pc + size_of_it pc i =
        ap (λ (o : Option Instr). sizes m f.of.answer (of_function m f) pc + size_at m f.of.answer (of_function m f) pc o) here in
        next refl comes.0 (goes_behind m f pc known i goes here 0 (suc pc) comes.0 comes.1 comes.2) (omega (arith, at, h, size))

  -- A process at a place where code goes on is at the begin of a row.
  begins_row : (fuel number pc : ℕ) (q : Process) → slice_get m.functions number ≡ Some f → length instrs ≤ pc + fuel → AtRow number pc q
  begins_row zero number pc q there l known goes at =
      let g = goes 1 in
      let b = there_below instrs pc g.0 g.1 in
      absurd (omega (arith, b, l))
  begins_row (suc fuel) number pc q there l known goes at =
      let g = goes 1 in
      here_begins number pc q there known goes at g.0 g.1 (size_of_it pc g.0) refl
      (λ e. begins_row fuel number (suc pc) q there (omega (arith, l)))

  pub at_row : (number pc : ℕ) (known : held.Slots) (q : Process) → slice_get m.functions number ≡ Some f → GoesOn m f pc known
      → q.frame.pc ≡ place_of m number f pc → place m q ≡ 2
  at_row number pc known q there goes at = begins_row (length instrs) number pc q there (omega arith) known goes at
