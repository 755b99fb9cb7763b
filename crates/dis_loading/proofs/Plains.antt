-- Types of plain words.
use Rattle.std.proofs.Common.{◌≡◌, ℕ, List, [], ◌∷◌, length, refl, ap, ◌∙◌}
use Rattle.dis_file.specs.declared.types.TypeDesc.{TypeDesc}
use Rattle.dis_memory.specs.Step.{type_of_size}
use Rattle.dis_loading.specs.Growing.{Extends, HasPlainType}

empty : (xs : List ℕ) → length xs ≡ 0 → xs ≡ []
empty [] e = refl
empty (x ∷ xs) e = absurd cc

pub plain_is : (d : TypeDesc) (size : ℕ) → d.size ≡ size → length d.map ≡ 0 → d ≡ type_of_size size []
plain_is d size e l = ap (λ s. type_of_size s d.map) e ∙ ap (type_of_size size) (empty d.map l)

pub extended : (old new : List TypeDesc) (size : ℕ) → Extends old new → HasPlainType old size → HasPlainType new size
extended old new size e h = record { number = h.number; there = e h.number _ h.there }
