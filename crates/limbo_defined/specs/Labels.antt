-- A function's label: one text for its name, or for its adt's name and its own, so that functions can be found by an index of texts.
use Rattle.std.specs.Prelude.{ℕ, List, [], ◌∷◌, ◌++◌, map, Option, None, Some}
use Rattle.limbo_top.specs.Tops.{Definition}
use Rattle.limbo_defined.specs.Wanted.{Wanted}

abbrev pub ending : Option (List ℕ) → List ℕ
ending None = 0 ∷ []
ending (Some name) = 2 ∷ name

abbrev pub marked : List ℕ → List ℕ
marked [] = []
marked (c ∷ cs) = 1 ∷ c ∷ marked cs

-- Each character of the first name stands behind a 1; then a 0, or a 2 and the second name. So two functions of one label are one.
abbrev pub label : List ℕ → Option (List ℕ) → List ℕ
label name part = marked name ++ ending part

abbrev pub labels : List Definition → List (List ℕ)
labels ds = map (λ d. label d.name d.part) ds

abbrev pub wanted_labels : List Wanted → List (List ℕ)
wanted_labels ws = map (λ w. label w.name w.part) ws
