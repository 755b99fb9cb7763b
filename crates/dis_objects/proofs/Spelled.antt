-- Items that are spelled, one more behind them, and one of them by its number.
use Rattle.std.proofs.Common.{◌≡◌, ℕ, zero, suc, List, [], ◌∷◌, ◌++◌, Some, subst, sym}
use Rattle.std.specs.Prelude.{slice_get}
use Rattle.dis_file.specs.declared.object.Item.{Item}
use Rattle.dis_objects.specs.Spelled.{IsSpelled, AreSpelled}

pub one_more : (xs : List Item) (x : Item) → AreSpelled xs → IsSpelled x → AreSpelled (xs ++ x ∷ [])
one_more [] x all is = (is, tt)
one_more (y ∷ ys) x all is = (all.0, one_more ys x all.1 is)

pub spelled_at : (xs : List Item) (n : ℕ) (x : Item) → AreSpelled xs → slice_get xs n ≡ Some x → IsSpelled x
spelled_at [] n x all e = absurd cc
spelled_at (y ∷ ys) zero x all e = let same : y ≡ x = cc in subst IsSpelled same all.0
spelled_at (y ∷ ys) (suc n) x all e = spelled_at ys n x all.1 e

-- behind a push
pub pushed : (old new : List Item) (x : Item) → new ≡ old ++ x ∷ [] → AreSpelled old → IsSpelled x → AreSpelled new
pushed old new x e all is = subst AreSpelled (sym e) (one_more old x all is)
