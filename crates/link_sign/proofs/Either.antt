-- Texts clash or are apart: the first text with the signature of another one before it decides.
use Rattle.std.proofs.Common.{◌≡◌, ℕ, Bool, true, false, ◌==◌, ◌⊎◌, inl, inr, List, [], ◌∷◌, ◌++◌, get_or, Option, None, Some}
use Rattle.std.proofs.Common.{refl, sym, subst, append_assoc}
use Rattle.std.proofs.lemmas.List.{append-nil}
use Rattle.std.proofs.lemmas.Slice.Eq.{bytes_eq-Decides}
use Rattle.std.specs.Str.{bytes_eq}
use Rattle.limbo_layout.specs.Adts.{Has}
use Rattle.link_sign.specs.TypeText.{place}
use Rattle.link_sign.specs.Signature.{fold}
use Rattle.link_sign.specs.Clashes.{AreApart, IsFirstClash}
use Rattle.link_sign.proofs.Apart.{found, none_passes, apart_more}
use Rattle.link_sign.proofs.Opening.{eq_from_test, test_from_eq}

abbrev Either : List (List ℕ) → Type 0
Either texts = ((first : List ℕ) × (second : List ℕ) × IsFirstClash texts first second) ⊎ AreApart texts

-- the next text clashes with one of those before, which are apart, or is apart from all
module _ (before : List (List ℕ)) (y : List ℕ) (ys : List (List ℕ)) (apart : AreApart before)
    (more : AreApart (before ++ y ∷ []) → Either (before ++ y ∷ ys)) where
  by_text : (k : ℕ) (b : Bool) → bytes_eq (get_or before k y) y ≡ b → Has before (get_or before k y) → fold (get_or before k y) ≡ fold y
      → Either (before ++ y ∷ ys)
  by_text k true h stands one =
      let is = (bytes_eq-Decides (get_or before k y) y).0 h in
      more (apart_more before y apart (λ t ht g. apart t y ht (subst (λ z. Has before z) is stands) g))
  by_text k false h stands one = inl (
    get_or before k y,
    y,
    record {
      before = before;
      behind = ys;
      stands = refl;
      apart_before = apart;
      stands_before = stands;
      differ = λ d. let t = (bytes_eq-Decides (get_or before k y) y).1 d in cc;
      one_sign = one;
    },
  )

  by_place : (o : Option ℕ) → place (λ t. fold t == fold y) before ≡ o → Either (before ++ y ∷ ys)
  by_place None e =
      more (apart_more before y apart
      (λ s hs g. absurd (none_passes (λ t. fold t == fold y) before s e hs (test_from_eq (fold s) (fold y) g))))
  by_place (Some k) e =
      let f = found (λ t. fold t == fold y) before k y e in
      by_text k (bytes_eq (get_or before k y) y) refl f.stands (eq_from_test (fold (get_or before k y)) (fold y) f.passes)

either_from : (behind before : List (List ℕ)) → AreApart before → Either (before ++ behind)
either_from [] before apart = inr (subst AreApart (sym (append-nil before)) apart)
either_from (y ∷ ys) before apart =
    by_place before y ys apart (λ a. subst Either (append_assoc before (y ∷ []) ys) (either_from ys (before ++ y ∷ []) a))
    (place (λ t. fold t == fold y) before) refl

pub either : (texts : List (List ℕ)) → Either texts
either texts = either_from texts [] (λ s t hs ht e. absurd hs)
