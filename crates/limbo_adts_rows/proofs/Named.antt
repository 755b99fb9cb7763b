-- Numbers that name something, in rows of one adt.
use Rattle.std.proofs.Common.{◌≡◌, ℕ, zero, suc, List, [], ◌∷◌, ◌++◌, Some, None, inl, inr, sym, subst}
use Rattle.std.specs.Prelude.{slice_get}
use Rattle.limbo_types.specs.declared.ty.Ty as code_ty
use Rattle.limbo_types.specs.declared.ty.Ty.TheVariants as make
use Rattle.limbo_types.specs.Types.{Ty}
use Rattle.limbo_types.specs.View.{view_ty, view_tys}
use Rattle.limbo_types.proofs.View.{view_ty-Int}
use Rattle.limbo_layout.specs.Adts.{Def, Has, field_types, Names, AllName, AreNamed}
use Rattle.limbo_adts_rows.specs.Rows.{one}

pub push_named : (defs : List Def) (xs : List code_ty.Ty) → AllName defs 0 (view_tys xs) → AllName defs 0 (view_tys (xs ++ (make.Int ∷ [])))
push_named defs [] k = (rw view_ty-Int tt, tt)
push_named defs (x ∷ xs) k = (k.0, push_named defs xs k.1)

pub one_named : (t : Ty) → Names (one t) 0 t → AreNamed (one t) 0
one_named t k zero d u e h =
    let g : record { name = []; fields = record { name = []; ty = t } ∷ []; picks = [] } ≡ d = cc in
    elim (subst (λ (z : Def). Has (field_types z) u) (sym g) h) [
      | inl f ↦ subst (λ (z : Ty). Names (one t) 0 z) f k
      | inr f ↦ absurd f
    ]
one_named t k (suc n) d u e h = absurd cc
