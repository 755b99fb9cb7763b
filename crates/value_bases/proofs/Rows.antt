-- The code of each instruction stands in the object, and where it begins there is some.
use Rattle.std.proofs.Common.{◌≡◌, ℕ, zero, suc, ◌+◌, ◌-◌, ◌<◌, List, [], ◌∷◌, ◌++◌, length, take, Some, None, inl, inr, refl, ap}
use Rattle.std.proofs.Common.{subst, arith, ◌∙◌}
use Rattle.std.specs.Prelude.{slice_get}
use Rattle.limbo_layout.specs.Adts.{Has}
use Rattle.limbo_typed.specs.Typed as typed
use Rattle.limbo_meaning.specs.Program.{routine_of}
use Rattle.core_code.specs.Code.{Instr, Return}
use Rattle.core_code.specs.Statements.{block_code}
use Rattle.value_heaps.specs.Blocks.{Constant}
use Rattle.value_code.specs.Data.{Datum}
use Rattle.value_code.specs.Objects.{of_function, constants, constants_from, datum_constant, datum_bytes, end_of, data_begins, data_at}
use Rattle.value_code.specs.Objects.{object_of}
use Rattle.value_code.proofs.Having.{objects_have}
use Rattle.value_follows.specs.Stands.{place_of}
use Rattle.value_follows.specs.Rows.{RowStands}

-- ---- lists

is_within : {A : Type 0} (xs : List A) (n : ℕ) (a : A) → slice_get xs n ≡ Some a → n < length xs
is_within [] n a e = absurd cc
is_within (x ∷ xs) zero a e = omega arith
is_within (x ∷ xs) (suc n) a e = let h = is_within xs n a e in omega (arith, h)

last_there : {A : Type 0} (xs : List A) (a : A) → slice_get (xs ++ a ∷ []) (length xs) ≡ Some a
last_there [] a = refl
last_there (x ∷ xs) a = last_there xs a

one_longer : {A : Type 0} (xs : List A) (a : A) → length (xs ++ a ∷ []) ≡ suc (length xs)
one_longer [] a = refl
one_longer (x ∷ xs) a = ap suc (one_longer xs a)

ends_with : {A : Type 0} (xs : List A) (a : A) → slice_get (xs ++ a ∷ []) (length (xs ++ a ∷ []) - 1) ≡ Some a
ends_with xs a =
    let long = one_longer xs a in
    let same : length (xs ++ a ∷ []) - 1 ≡ length xs = omega (arith, long) in
    ap (slice_get (xs ++ a ∷ [])) same ∙ last_there xs a

module _ (m : typed.Module) where
  -- ---- a constant comes from a datum

  record ComesFrom (at : ℕ) (ds : List Datum) (c : Constant) : Type 0 where
    number : ℕ
    datum : Datum
    there : slice_get ds number ≡ Some datum
    is : datum_constant m (end_of m at (take number ds)) datum ≡ c

  comes_from : (at : ℕ) (ds : List Datum) (c : Constant) → Has (constants_from m at ds) c → ComesFrom at ds c
  comes_from at [] c h = absurd h
  comes_from at (d ∷ ds) c (inl e) = record { number = 0; datum = d; there = refl; is = e }
  comes_from at (d ∷ ds) c (inr h) =
      let r = comes_from (at + datum_bytes m d) ds c h in
      record { number = suc r.number; datum = r.datum; there = r.there; is = r.is }

  module _ (number : ℕ) (f : typed.Function) (pc : ℕ) (instr : Instr) (there : slice_get m.functions number ≡ Some f)
      (here : slice_get (of_function m f).code pc ≡ Some instr) where
    pub row_stands : RowStands m number f pc instr
    row_stands = record {
      at = data_begins m number f pc;
      insts = λ j i e. objects_have.code m number f pc instr j i there here e;
      stand = λ c h.
          let r = comes_from (data_begins m number f pc) (data_at m f.of.answer (of_function m f) pc instr) c h in
          subst (λ (d : Constant). Has (constants m) d) r.is
          (objects_have.datum m number f pc instr r.number r.datum there here r.there);
    }

    -- each function ends with a return
    pub inside : place_of m number f pc < length (object_of m).insts
    inside =
        objects_have.within m number f pc None there (is_within (of_function m f).code pc instr here)
        (ends_with (block_code m.adts [] (routine_of f).body) (Return None))
