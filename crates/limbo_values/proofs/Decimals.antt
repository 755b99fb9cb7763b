-- The text of a number, read again.
use Rattle.std.proofs.Common.{◌≡◌, ℕ, suc, ◌+◌, ◌-◌, ◌*◌, ◌/◌, ◌%◌, ◌^◌, ◌<◌, ◌≤◌, ℤ, pos, negsuc, List, [], ◌∷◌, ◌++◌, true, false, cond, ◌&&◌, ◌||◌, refl, sym, ap, ap₂, ◌∙◌, arith, append_assoc, append-nil, le-leb, ne_eqb}
use Rattle.std.specs.Prelude.{neg_ℤ}
use Rattle.std.specs.Fmt.{decimal}
use Rattle.std.proofs.Math.Nat.{div-add-mod'}
use Rattle.std.proofs.lemmas.Fmt.{decimal_by_steps}
use Rattle.std.proofs.lemmas.Int.{ints}
use Rattle.inf_text.specs.InFront.{is_blank, is_digit, behind_blanks, number_after}
use Rattle.limbo_values.specs.declared.number.Kind.{Kind}
use Rattle.limbo_values.specs.declared.number.Kind.TheVariants.{Byte, Int, Big}
use Rattle.limbo_values.specs.Numbers.{InRange, wrapped}
use Rattle.limbo_values.specs.Conversions.{signed_digits, number_in, number_text, number_read}
use Rattle.limbo_values.proofs.Ranges.{within}

digit_is : (d : ℕ) → d < 10 → is_digit (48 + d) ≡ true
digit_is d h = ap₂ ◌&&◌ (le-leb 48 (48 + d) (omega arith)) (le-leb (48 + d) 57 (omega arith))

-- a digit at the front is taken into the number
taken : (n d : ℕ) (cs : List ℕ) → d < 10 → number_after n ((48 + d) ∷ cs) ≡ number_after (10 * n + d) cs
taken n d cs h =
    let worth : (48 + d) - 48 ≡ d = omega arith in
    ap (λ t. cond t (number_after (10 * n + ((48 + d) - 48)) cs) n) (digit_is d h) ∙ ap (λ x. number_after (10 * n + x) cs) worth

-- digits that write n, of which the first is c
record Writes (n : ℕ) (ds : List ℕ) : Type 0 where
  first : ℕ
  others : List ℕ
  begins : ds ≡ (48 + first) ∷ others
  small : first < 10
  worth : (more : List ℕ) → number_after 0 (ds ++ more) ≡ number_after n more

one : (n : ℕ) → n < 10 → Writes n ((48 + n) ∷ [])
one n h = record { first = n; others = []; begins = refl; small = h; worth = λ more. worth_is more }
  where
    worth_is : (more : List ℕ) → number_after 0 ((48 + n) ∷ more) ≡ number_after n more
    worth_is more = taken 0 n more h ∙ ap (λ x. number_after x more) (omega arith)

further : (n : ℕ) (ds : List ℕ) → 10 ≤ n → Writes (n / 10) ds → Writes n (ds ++ ((48 + n % 10) ∷ []))
further n ds h w = record {
  first = w.first;
  others = w.others ++ ((48 + n % 10) ∷ []);
  begins = ap (λ xs. xs ++ ((48 + n % 10) ∷ [])) w.begins;
  small = w.small;
  worth = λ more.
      ap (number_after 0) (append_assoc ds ((48 + n % 10) ∷ []) more) ∙ w.worth ((48 + n % 10) ∷ more)
      ∙ taken (n / 10) (n % 10) more (omega arith) ∙ ap (λ x. number_after x more) (omega (arith, div-add-mod' n 10));
}

written : (n : ℕ) → n < 2 ^ 64 → Writes n (decimal n)
written n h = decimal_by_steps Writes one further n h

worth_of : (n : ℕ) → n < 2 ^ 64 → number_after 0 (decimal n) ≡ n
worth_of n h = let w = written n h in ap (number_after 0) (sym (append-nil (decimal n))) ∙ w.worth []

no_blank : (d : ℕ) → d < 10 → is_blank (48 + d) ≡ false
no_blank d h =
    let no_tab_or_newline = ap₂ ◌||◌ (ne_eqb (48 + d) 9 (omega arith)) (ne_eqb (48 + d) 10 (omega arith)) in
    ap₂ ◌||◌ (ap₂ ◌||◌ no_tab_or_newline (ne_eqb (48 + d) 13 (omega arith))) (ne_eqb (48 + d) 32 (omega arith))

-- a text that begins with a digit has no blank and no sign at the front
plain : (d : ℕ) (cs : List ℕ) → d < 10 → number_in ((48 + d) ∷ cs) ≡ pos (number_after 0 ((48 + d) ∷ cs))
plain d cs h =
    ap (λ t. signed_digits (cond t (behind_blanks cs) ((48 + d) ∷ cs))) (no_blank d h)
    ∙ ap₂ (λ s t. cond s (neg_ℤ (pos (number_after 0 cs))) (cond t (pos (number_after 0 cs)) (pos (number_after 0 ((48 + d) ∷ cs)))))
    (ne_eqb (48 + d) 45 (omega arith)) (ne_eqb (48 + d) 43 (omega arith))

pub number_in-text : (z : ℤ) → InRange Big z → number_in (number_text z) ≡ z
number_in-text (pos n) r =
    let below = r.below in
    let h : n < 2 ^ 64 = omega (arith, ints) in
    let w = written n h in
    ap number_in w.begins ∙ plain w.first w.others w.small ∙ ap (λ cs. pos (number_after 0 cs)) (sym w.begins) ∙ ap pos (worth_of n h)
number_in-text (negsuc n) r =
    let above = r.above in
    ap (λ m. neg_ℤ (pos m)) (worth_of (suc n) (omega (arith, ints)))

wider : (kind : Kind) (z : ℤ) → InRange kind z → InRange Big z
wider Byte z r = let above = r.above in let below = r.below in record { above = omega (arith, ints); below = omega (arith, ints) }
wider Int z r = let above = r.above in let below = r.below in record { above = omega (arith, ints); below = omega (arith, ints) }
wider Big z r = r

pub read_back : (kind : Kind) (z : ℤ) → InRange kind z → number_read kind (number_text z) ≡ z
read_back kind z r = ap (wrapped kind) (number_in-text z (wider kind z r)) ∙ within kind z r
