-- The number at the front of a text, in 64 bits.
use Rattle.std.proofs.Common.{◌≡◌, ℕ, ℤ, pos, Bool, true, false, cond, List, [], ◌∷◌, ◌==◌, refl, sym, ap, ◌∙◌, w64}
use Rattle.std.specs.Prelude.{neg_ℤ}
use Rattle.std.specs.Int.{int_wrap, int_wrapping_neg}
use lib.IntN.{+ℤ_idl}
use Rattle.std.proofs.lemmas.Int.{wrapping_neg_is, int_wrap-sub_right, SFits-int_wrap}
use Rattle.inf_text.specs.InFront.{low_bits, number_after, signed_number, number_in_front, behind_blanks}
use Rattle.limbo_values.specs.Conversions.{signed_digits, number_in}

low_is : (n : ℕ) → low_bits n ≡ int_wrap w64 (pos n)
unfolding int_wrap
low_is n = refl

negated : (n : ℕ) → int_wrapping_neg w64 (low_bits n) ≡ int_wrap w64 (neg_ℤ (pos n))
negated n =
    ap (int_wrapping_neg w64) (low_is n) ∙ wrapping_neg_is w64 (int_wrap w64 (pos n)) (SFits-int_wrap w64 (pos n))
    ∙ ap (int_wrap w64) (sym (+ℤ_idl (neg_ℤ (int_wrap w64 (pos n)))))
    ∙ int_wrap-sub_right w64 (pos 0) (pos n) ∙ ap (int_wrap w64) (+ℤ_idl (neg_ℤ (pos n)))

chosen : (minus plus : Bool) (x y z : ℤ) (x' y' z' : ℤ) → x ≡ int_wrap w64 x' → y ≡ int_wrap w64 y' → z ≡ int_wrap w64 z'
    → cond minus x (cond plus y z) ≡ int_wrap w64 (cond minus x' (cond plus y' z'))
chosen true plus x y z x' y' z' p q r = p
chosen false true x y z x' y' z' p q r = q
chosen false false x y z x' y' z' p q r = r

signed_is : (text : List ℕ) → signed_number text ≡ int_wrap w64 (signed_digits text)
signed_is [] = low_is 0
signed_is (c ∷ cs) =
    chosen (c == 45) (c == 43) _ _ _ _ _ _ (negated (number_after 0 cs)) (low_is (number_after 0 cs)) (low_is (number_after 0 (c ∷ cs)))

pub front_is : (text : List ℕ) → number_in_front text ≡ int_wrap w64 (number_in text)
front_is text = signed_is (behind_blanks text)
