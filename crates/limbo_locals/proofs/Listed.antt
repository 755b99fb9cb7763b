-- Things of the first names, so many.
use Rattle.std.proofs.Common.{◌≡◌, ◌<◌, ◌+◌, ◌++◌, ◌∷◌, [], ℕ, List, map, length, get_or, sym, ap, ◌∙◌}
use Rattle.std.proofs.lemmas.List.{map-append, append_assoc}
use Rattle.limbo_tree.specs.declared.name.Name as code_name
use Rattle.limbo_locals.proofs.Pushed.{first, one_first}

-- one more, for the next name
pub one_more_each : {A B : Type 0} (view : A → B) (make : List ℕ → B) (old now later : List A) (names : List code_name.Name) (i : ℕ)
    (x : code_name.Name) (a : A) → later ≡ now ++ a ∷ [] → view a ≡ make x.text → x ≡ get_or names i x → i < length names
    → map view now ≡ map view old ++ map make (first i names) → map view later ≡ map view old ++ map make (first (i + 1) names)
one_more_each {A} {B} view make old now later names i x a p q is l h =
    ap (map view) p ∙ map-append view now (a ∷ []) ∙ ap (λ (w : B). map view now ++ w ∷ []) q
    ∙ ap (λ (ts : List B). ts ++ make x.text ∷ []) h
    ∙ append_assoc (map view old) (map make (first i names)) (make x.text ∷ [])
    ∙ ap (λ (ts : List B). map view old ++ ts)
    (sym (map-append make (first i names) (x.text ∷ [])) ∙ ap (map make) (sym (one_first names i x is l)))
