-- Types in a row that aren't the same.
use Rattle.std.proofs.Common.{◌≡◌, ◌<◌, ℕ, zero, suc, List, [], ◌∷◌, length, get_or, map, sym, ap, ◌∙◌, arith}
use Rattle.limbo_types.specs.declared.ty.Ty as code_ty
use Rattle.limbo_types.specs.Types.{Ty}
use Rattle.limbo_types.specs.View.{view_ty}

same_first : (x y : Ty) (xs ys : List Ty) → x ∷ xs ≡ y ∷ ys → x ≡ y
same_first x y xs ys h = cc

same_rest : (x y : Ty) (xs ys : List Ty) → x ∷ xs ≡ y ∷ ys → xs ≡ ys
same_rest x y xs ys h = cc

pub differ : (ts us : List code_ty.Ty) (i : ℕ) (t u : code_ty.Ty) → i < length ts → i < length us → t ≡ get_or ts i t → u ≡ get_or us i u
    → (view_ty t ≡ view_ty u → ⊥) → map view_ty ts ≡ map view_ty us → ⊥
differ [] us i t u l k e f n h = absurd (omega arith)
differ (x ∷ ts) [] i t u l k e f n h = absurd (omega arith)
differ (x ∷ ts) (y ∷ us) zero t u l k e f n h =
    n (ap view_ty e ∙ same_first (view_ty x) (view_ty y) (map view_ty ts) (map view_ty us) h ∙ sym (ap view_ty f))
differ (x ∷ ts) (y ∷ us) (suc i) t u l k e f n h =
    differ ts us i t u (omega arith) (omega arith) e f n (same_rest (view_ty x) (view_ty y) (map view_ty ts) (map view_ty us) h)
