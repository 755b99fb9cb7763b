-- A written type means one type at most.
use Rattle.std.proofs.Common.{◌≡◌, refl, sym, ap, subst, ◌∙◌}
use Rattle.std.proofs.lemmas.Option.{same_Some}
use Rattle.limbo_tree.specs.Types as tree
use Rattle.limbo_types.specs.Types as ty
use Rattle.limbo_types.specs.Types.{Ty, Tys}
use Rattle.limbo_scope.specs.declared.meaning.Meaning.{Meaning}
use Rattle.limbo_context.specs.Context.{Context, Body}
use Rattle.limbo_body_types.specs.Means as means
use Rattle.limbo_body_types.specs.Means.{Means, AllMean, IsNamed, MeansType}
use Rattle.limbo_body_types.proofs.Names.{one_named, not_both, one_adt, one_variant}

module _ (c : Context) (b : Body) where
  -- ---- by the form of a type

  pub from_array : (t : tree.Ty) (u : Ty) → Means c b (tree.ArrayOf t) u → (v : Ty) × (u ≡ ty.ArrayOf v) × Means c b t v
  from_array _ _ (means.array t u w) = (u, refl, w)

  pub from_list : (t : tree.Ty) (u : Ty) → Means c b (tree.ListOf t) u → (v : Ty) × (u ≡ ty.ListOf v) × Means c b t v
  from_list _ _ (means.list t u w) = (u, refl, w)

  pub from_chan : (t : tree.Ty) (u : Ty) → Means c b (tree.ChanOf t) u → (v : Ty) × (u ≡ ty.ChanOf v) × Means c b t v
  from_chan _ _ (means.chan t u w) = (u, refl, w)

  pub from_tuple : (ts : tree.Tys) (u : Ty) → Means c b (tree.Tuple ts) u → (us : Tys) × (u ≡ ty.Tuple us) × AllMean c b ts us
  from_tuple _ _ (means.tuple ts us w) = (us, refl, w)

  pub from_named : (q : tree.Qual) (u : Ty) → Means c b (tree.Named q) u → (m : Meaning) × IsNamed c b q m × MeansType c m u
  from_named _ _ (means.named_type q m u d s) = (m, d, s)

  from_byte : (u : Ty) → Means c b tree.Byte u → u ≡ ty.Byte
  from_byte _ means.byte = refl

  from_int : (u : Ty) → Means c b tree.Int u → u ≡ ty.Int
  from_int _ means.int = refl

  from_big : (u : Ty) → Means c b tree.Big u → u ≡ ty.Big
  from_big _ means.big = refl

  from_chars : (u : Ty) → Means c b tree.String u → u ≡ ty.Chars
  from_chars _ means.chars = refl

  from_none : (us : Tys) → AllMean c b tree.NoTys us → us ≡ ty.NoTys
  from_none _ means.no_more = refl

  pub from_more : (t : tree.Ty) (ts : tree.Tys) (us : Tys) → AllMean c b (tree.MoreTys t ts) us
      → (v : Ty) × (vs : Tys) × (us ≡ ty.MoreTys v vs) × Means c b t v × AllMean c b ts vs
  from_more _ _ _ (means.and_more t ts u us x y) = (u, us, refl, x, y)

  -- ---- a name

  one_meant : (m n : Meaning) (u v : Ty) → m ≡ n → MeansType c m u → MeansType c n v → u ≡ v
  one_meant m n u v e s r = same_Some u v (sym (subst (λ (z : Meaning). MeansType c z u) e s) ∙ r)

  one_name : (q : tree.Qual) (u v : Ty) → Means c b (tree.Named q) u → Means c b (tree.Named q) v → u ≡ v
  one_name q u v x y =
      let f = from_named q u x in
      let g = from_named q v y in
      one_meant f.0 g.0 u v (one_named c b q f.0 g.0 f.1 g.1) f.2 g.2

  one_ref : (q : tree.Qual) (u v : Ty) → Means c b (tree.RefTo q) u → Means c b (tree.RefTo q) v → u ≡ v
  one_ref _ _ _ (means.ref_adt q m a d s) (means.ref_adt _ n i e r) =
      let f : ty.Adt a ≡ ty.Adt i = one_meant m n (ty.Adt a) (ty.Adt i) (one_named c b q m n d e) s r in
      let g : a ≡ i = cc in
      ap ty.RefAdt g
  one_ref _ _ _ (means.ref_adt q m a d s) (means.ref_variant _ i w x) = absurd (not_both c b q m i w x d)
  one_ref _ _ _ (means.ref_variant q a v x) (means.ref_adt _ m i d s) = absurd (not_both c b q m a v x d)
  one_ref _ _ _ (means.ref_variant q a v x) (means.ref_variant _ i w y) =
      ap (λ z. ty.RefPick z v) (one_adt c b q a v i w x y) ∙ ap (λ z. ty.RefPick i z) (one_variant c b q a v i w x y)

  -- ---- a type

  mutual
    pub one_type : (t : tree.Ty) (u v : Ty) → Means c b t u → Means c b t v → u ≡ v
    one_type _ _ v means.byte y = sym (from_byte v y)
    one_type _ _ v means.int y = sym (from_int v y)
    one_type _ _ v means.big y = sym (from_big v y)
    one_type _ _ v means.chars y = sym (from_chars v y)
    one_type _ _ v (means.array t u x) y = let f = from_array t v y in ap ty.ArrayOf (one_type t u f.0 x f.2) ∙ sym f.1
    one_type _ _ v (means.list t u x) y = let f = from_list t v y in ap ty.ListOf (one_type t u f.0 x f.2) ∙ sym f.1
    one_type _ _ v (means.chan t u x) y = let f = from_chan t v y in ap ty.ChanOf (one_type t u f.0 x f.2) ∙ sym f.1
    one_type _ _ v (means.tuple ts us x) y = let f = from_tuple ts v y in ap ty.Tuple (all_one ts us f.0 x f.2) ∙ sym f.1
    one_type _ _ v (means.named_type q m u d s) y = one_name q u v (means.named_type q m u d s) y
    one_type _ _ v (means.ref_adt q m a d s) y = one_ref q (ty.RefAdt a) v (means.ref_adt q m a d s) y
    one_type _ _ v (means.ref_variant q a w x) y = one_ref q (ty.RefPick a w) v (means.ref_variant q a w x) y

    all_one : (ts : tree.Tys) (us vs : Tys) → AllMean c b ts us → AllMean c b ts vs → us ≡ vs
    all_one _ _ vs means.no_more y = sym (from_none vs y)
    all_one _ _ vs (means.and_more t ts u us x z) y =
        let f = from_more t ts vs y in
        ap (λ w. ty.MoreTys w us) (one_type t u f.0 x f.3) ∙ ap (λ w. ty.MoreTys f.0 w) (all_one ts us f.1 z f.4) ∙ sym f.2
