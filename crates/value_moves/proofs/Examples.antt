-- Words to which no byte can be moved, though all that is asked of whole words holds of them.
use Rattle.std.proofs.Common.{◌≡◌, ℕ, zero, suc, ℤ, pos, List, [], ◌∷◌, Some, None, refl, arith, inl, inr}
use Rattle.std.specs.Prelude.{slice_get}
use Rattle.limbo_layout.specs.Layout.{number}
use Rattle.limbo_values.specs.declared.number.Kind.TheVariants.{Byte, Int}
use Rattle.limbo_values.specs.Numbers.{InRange}
use Rattle.dis_meaning.specs.Words.{Word, Plain, Refer, Found, Wrong, type_check}
use Rattle.dis_meaning.specs.Numbers.{with_number_at}
use Rattle.value_heaps.specs.Blocks.{ReferOnlyThere, AreWhole, IsWithin}
use Rattle.value_moves.specs.Writing.{BeginsPlain}

-- A byte at 1 lies in a word that refers. No word begins in it, so that nothing is asked of any.
among : List Word
among = Refer None ∷ []

no_word : (w : ℕ) → IsWithin 1 1 w → ⊥
no_word w h = let a = h.0 in let b = h.1 in omega (arith, a, b)

whole_words : AreWhole among 1 1
unfolding among
whole_words = (λ w h. absurd (no_word w h), in_range)
  where
    in_range : (k : ℕ) (z : ℤ) → slice_get (Refer None ∷ []) k ≡ Some (Plain z) → InRange Int z
    in_range zero z e = absurd cc
    in_range (suc k) z e = absurd cc

refer_only : ReferOnlyThere among 1 (number 1)
refer_only w s e h = absurd (no_word w h)

-- Yet none can be stored there, and it doesn't begin as it has to.
none_stored : with_number_at Byte among (pos 1) (pos 7) ≡ Wrong type_check
unfolding among
none_stored = refl

begins_wrong : BeginsPlain among 1 1 → ⊥
unfolding among
begins_wrong h = elim (h (omega arith)) [
  | inl e ↦ absurd (omega (arith, e))
  | inr z ↦ let e = z.1 in absurd cc
]

-- What is no byte changes the one before it.
not_a_byte : with_number_at Byte (Plain (pos 0) ∷ []) (pos 1) (pos 256) ≡ Found (Plain (pos 16777216) ∷ [])
not_a_byte = refl
