-- Strings of all items, one by one and as a list.
use Rattle.std.proofs.Common.{◌≡◌, ℕ, zero, suc, List, [], ◌∷◌, Some, refl, sym, subst}
use Rattle.std.specs.Prelude.{slice_get}
use Rattle.std.specs.Str.{IsUtf8}
use Rattle.dis_file.specs.declared.object.Item.{Item}
use Rattle.dis_objects.specs.Spelled.{IsSpelled, AreSpelled}

pub spelled_all : (items : List Item) → AreSpelled items → (n : ℕ) (item : Item) → slice_get items n ≡ Some item → item.kind ≡ 3 → IsUtf8 item.content
spelled_all [] h n item e k = absurd cc
spelled_all (i ∷ is) h zero item e k = let same : i ≡ item = cc in subst (λ (j : Item). IsSpelled j) same h.0 k
spelled_all (i ∷ is) h (suc n) item e k = spelled_all is h.1 n item e k

pub all_spelled : (items : List Item) → ((n : ℕ) (item : Item) → slice_get items n ≡ Some item → item.kind ≡ 3 → IsUtf8 item.content) → AreSpelled items
all_spelled [] h = tt
all_spelled (i ∷ is) h = ((λ k. h 0 i refl k), all_spelled is (λ n item e k. h (suc n) item e k))
