-- Words among which one refers to a block name it, and words that name a block have one that refers to it.
use Rattle.std.proofs.Common.{◌≡◌, ℕ, zero, suc, ◌+◌, ◌<◌, Bool, true, false, List, [], ◌∷◌, ◌++◌, ◌⊎◌, inl, inr, Some}
use Rattle.std.proofs.Common.{refl, sym, subst, arith, if◌then◌else◌}
use Rattle.std.specs.Prelude.{nat_eq}
use Rattle.std.proofs.lemmas.Bool.{eqb-true, eq-eqb}
use Rattle.limbo_layout.specs.Adts.{Has}
use Rattle.dis_meaning.specs.Words.{Word, Refer}
use Rattle.dis_meaning.specs.Counts.{refers, in_words}

pub either : (a b : ℕ) → 0 < a + b → (0 < a) ⊎ (0 < b)
either zero b p = inr (omega arith)
either (suc a) b p = inl (omega arith)

pub one_or_none : (b : Bool) → 0 < (if b then 1 else 0) → b ≡ true
one_or_none true p = refl
one_or_none false p = absurd (omega arith)

pub one_if : (b : Bool) → b ≡ true → 0 < (if b then 1 else 0)
one_if true e = omega arith
one_if false e = absurd cc

-- ---- one word that refers to a block

pub refers_same : (q b : ℕ) → 0 < refers q (Refer (Some b)) → b ≡ q
refers_same q b p = eqb-true b q (one_or_none (nat_eq b q) p)

pub refers_it : (b : ℕ) → 0 < refers b (Refer (Some b))
refers_it b = one_if (nat_eq b b) (eq-eqb b b refl)

-- ---- lists of words

pub has_counts : (ws : List Word) (b : ℕ) → Has ws (Refer (Some b)) → 0 < in_words b ws
has_counts [] b h = absurd h
has_counts (w ∷ ws) b (inl e) = let r = subst (λ v. 0 < refers b v) (sym e) (refers_it b) in omega arith
has_counts (w ∷ ws) b (inr h) = let r = has_counts ws b h in omega arith

pub has_first : (us ws : List Word) (w : Word) → Has us w → Has (us ++ ws) w
has_first [] ws w h = absurd h
has_first (u ∷ us) ws w (inl e) = inl e
has_first (u ∷ us) ws w (inr h) = inr (has_first us ws w h)

pub has_second : (us ws : List Word) (w : Word) → Has ws w → Has (us ++ ws) w
has_second [] ws w h = h
has_second (u ∷ us) ws w h = inr (has_second us ws w h)

pub in_both : (us ws : List Word) (n : ℕ) → in_words n (us ++ ws) ≡ in_words n us + in_words n ws
in_both [] ws n = omega arith
in_both (u ∷ us) ws n = let e = in_both us ws n in omega arith
