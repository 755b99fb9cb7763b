-- Two functions of one label are one.
use Rattle.std.proofs.Common.{◌≡◌, ℕ, List, [], ◌∷◌, Option, None, Some, refl, ap}
use Rattle.limbo_defined.specs.Labels.{label, ending}

one_ending : (p q : Option (List ℕ)) → ending p ≡ ending q → p ≡ q
one_ending None None e = refl
one_ending None (Some b) e = absurd cc
one_ending (Some a) None e = absurd cc
one_ending (Some a) (Some b) e = let f : a ≡ b = cc in ap Some f

pub one_label : (a b : List ℕ) (p q : Option (List ℕ)) → label a p ≡ label b q → (a ≡ b) × (p ≡ q)
one_label [] [] p q e = (refl, one_ending p q e)
one_label [] (y ∷ b) None q e = absurd cc
one_label [] (y ∷ b) (Some n) q e = absurd cc
one_label (x ∷ a) [] p None e = absurd cc
one_label (x ∷ a) [] p (Some n) e = absurd cc
one_label (x ∷ a) (y ∷ b) p q e =
    let f : x ≡ y = cc in
    let g : label a p ≡ label b q = cc in
    let r = one_label a b p q g in
    (let s : a ≡ b = r.0 in cc, r.1)
