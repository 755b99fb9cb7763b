-- Where the code of a function begins, the machine's process is at the begin of a row.
use Rattle.std.proofs.Common.{◌≡◌, ℕ, zero, suc, ◌+◌, ◌<◌, List, [], ◌∷◌, ◌++◌, length, Option, Some, None, refl, ap, ◌∙◌, arith}
use Rattle.std.specs.Prelude.{slice_get}
use Rattle.limbo_typed.specs.Typed as typed
use Rattle.limbo_meaning.specs.Program.{routine_of}
use Rattle.core_code.specs.Code.{Instr, Return}
use Rattle.core_code.specs.Statements.{block_code}
use Rattle.dis_isa.specs.declared.inst.Middle.TheVariants as middle
use Rattle.dis_isa.specs.declared.inst.Operand.TheVariants as operand
use Rattle.dis_isa.specs.declared.op.Op.TheVariants as op
use Rattle.dis_meaning.specs.Process.{Process}
use Rattle.value_words.proofs.Rows.{is_there}
use Rattle.value_moves.specs.Operands.{inst}
use Rattle.value_code.specs.Code.{returned}
use Rattle.value_code.specs.Objects.{of_function, size_at, sizes, base_of, blank_site}
use Rattle.value_follows.specs.Rows.{place}
use Rattle.value_follows.proofs.Paces.{places_are}

-- ---- lists

last_there : {A : Type 0} (xs : List A) (a : A) → slice_get (xs ++ a ∷ []) (length xs) ≡ Some a
last_there [] a = refl
last_there (x ∷ xs) a = last_there xs a

one_longer : {A : Type 0} (xs : List A) (a : A) → length (xs ++ a ∷ []) ≡ suc (length xs)
one_longer [] a = refl
one_longer (x ∷ xs) a = ap suc (one_longer xs a)

module _ (m : typed.Module) (n : ℕ) (f : typed.Function) (there : slice_get m.functions n ≡ Some f) where
  abbrev code : List Instr
  code = (of_function m f).code

  abbrev size_here : (pc : ℕ) → Option Instr → ℕ
  size_here pc o = size_at m f.of.answer (of_function m f) pc o

  abbrev size_to : (pc : ℕ) → ℕ
  size_to pc = sizes m f.of.answer (of_function m f) pc

  -- what stands in front of the return at the end
  abbrev front : List Instr
  front = block_code m.adts [] (routine_of f).body

  -- A row of some instructions begins there.
  record RowBegins (pc : ℕ) : Type 0 where
    at : ℕ
    instr : Instr
    is : slice_get code at ≡ Some instr
    some : 0 < size_here at (Some instr)
    same : size_to at ≡ size_to pc

  begins_from : (d pc : ℕ) → pc + d ≡ length front → RowBegins pc
  begins_from zero pc e =
      let last : slice_get code pc ≡ Some (Return None) =
      ap (slice_get code) (let g : pc ≡ length front = omega (arith, e) in g) ∙ last_there front (Return None) in
      let size : size_here pc (Some (Return None)) ≡ suc (length (returned (blank_site m f.of.answer (of_function m f) pc) None)) =
      one_longer (returned (blank_site m f.of.answer (of_function m f) pc) None) (inst op.Ret operand.None middle.None operand.None) in
      record { at = pc; instr = Return None; is = last; some = omega (arith, size); same = refl }
  begins_from (suc d) pc e =
      let long = one_longer front (Return None) in
      let here = is_there code pc (omega (arith, e, long)) in
      go (begins_from d (suc pc) (omega (arith, e))) here.0 here.1 (size_here pc (Some here.0)) refl
    where
      go : RowBegins (suc pc) → (i : Instr) → slice_get code pc ≡ Some i → (s : ℕ) → size_here pc (Some i) ≡ s → RowBegins pc
      go more i is (suc s) g = record { at = pc; instr = i; is = is; some = omega (arith, g); same = refl }
      go more i is zero g =
          let none : size_here pc (slice_get code pc) ≡ 0 = ap (size_here pc) is ∙ g in
          let step : size_to (suc pc) ≡ size_to pc = omega (arith, none) in
          record { at = more.at; instr = more.instr; is = more.is; some = more.some; same = more.same ∙ step }

  pub place_begins : (q : Process) → q.frame.pc ≡ base_of m n → place m q ≡ 2
  place_begins q e =
      let r = begins_from (length front) 0 (omega arith) in
      let same = r.same in
      (places_are m).ranked n f r.at r.instr 0 q there r.is r.some (omega (arith, e, same))
