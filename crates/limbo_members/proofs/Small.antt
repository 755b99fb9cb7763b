-- The types of all fields that members give an adt are such as values may have.
use Rattle.std.proofs.Common.{◌≡◌, ◌≤◌, ◌++◌, ◌∷◌, [], ℕ, Bool, List, sym, subst}
use Rattle.limbo_tree.specs.Decls as decls
use Rattle.limbo_tree.specs.Decls.{Member, VarMember, FnMember, ConMember, TypeMember, AdtMember, Members, NoMembers, MoreMembers}
use Rattle.limbo_types.specs.Types.{Ty}
use Rattle.limbo_layout.specs.Adts.{Field, Variant, Def, types_of, variant_types, field_types}
use Rattle.limbo_typed.specs.Sound.{Each}
use Rattle.limbo_written.specs.limbo_permits.Permits.{nodes, most_nodes}
use Rattle.limbo_context.specs.Context.{Context, Body}
use Rattle.limbo_locals.specs.limbo_local.Points.{Point}
use Rattle.limbo_locals.specs.limbo_local.Members.{Inside, nothing_inside, fields, showing_adt, variants_in, named_variants}
use Rattle.limbo_locals.specs.limbo_local.Members.{AreFields, AreVariants, open_adt, AddsToAdt, AllAddToAdt}
use Rattle.limbo_members.proofs.Named.{each_both, types_both, variant_types_both}

abbrev pub IsSmall : Ty → Type 0
IsSmall t = nodes t ≤ most_nodes

abbrev pub AreSmall : List Ty → Type 0
AreSmall ts = Each (λ t. nodes t ≤ most_nodes) ts

-- Those of the fields, and of the adts inside.
pub record SmallInside (g : Inside) : Type 0 where
  pub fields : AreSmall (types_of g.fields)
  pub adts : Each (λ d. AreSmall (field_types d)) g.adts

both : (xs ys : List Ty) → AreSmall xs → AreSmall ys → AreSmall (xs ++ ys)
both xs ys h k = each_both (λ t. nodes t ≤ most_nodes) xs ys h k

small_fields : (ns : List (List ℕ)) (t : Ty) → IsSmall t → AreSmall (types_of (fields ns t))
small_fields [] t h = tt
small_fields (n ∷ ns) t h = (h, small_fields ns t h)

small_variants : (ns : List (List ℕ)) (gs : List Field) → AreSmall (types_of gs) → AreSmall (variant_types (named_variants ns gs))
small_variants [] gs h = tt
small_variants (n ∷ ns) gs h = both (types_of gs) (variant_types (named_variants ns gs)) h (small_variants ns gs h)

module _ (c : Context) (b : Body) where
  written_fields : (fs : List decls.Field) (gs : List Field) → AreFields c b fs gs → AreSmall (types_of gs)
  written_fields [] gs h = subst (λ (z : List Field). AreSmall (types_of z)) (sym h) tt
  written_fields (f ∷ fs) gs h =
      subst (λ (z : List Field). AreSmall (types_of z)) (sym h.4)
      (subst (λ (z : List Ty). AreSmall z) (sym (types_both (fields f.names h.0) h.1))
      (both (types_of (fields f.names h.0)) (types_of h.1) (small_fields f.names h.0 h.2.permitted.small) (written_fields fs h.1 h.3)))

  written_variants : (vs : List decls.Variant) (ws : List Variant) → AreVariants c b vs ws → AreSmall (variant_types ws)
  written_variants [] ws h = subst (λ (z : List Variant). AreSmall (variant_types z)) (sym h) tt
  written_variants (v ∷ vs) ws h =
      subst (λ (z : List Variant). AreSmall (variant_types z)) (sym h.4)
      (subst (λ (z : List Ty). AreSmall z) (sym (variant_types_both (named_variants v.names h.0) h.1))
      (both (variant_types (named_variants v.names h.0)) (variant_types h.1)
      (small_variants v.names h.0 (written_fields v.fields h.0 h.2)) (written_variants vs h.1 h.3)))

nothing_small : (g : Inside) → g ≡ nothing_inside → SmallInside g
nothing_small g is = subst (λ (z : Inside). SmallInside z) (sym is) (record { fields = tt; adts = tt })

mutual
  pub small_member : (m : Bool) (x : Member) (p : Point) (g : Inside) (q : Point) → AddsToAdt m x p g q → SmallInside g
  small_member m (VarMember ns t) p g q h =
      subst (λ (z : Inside). SmallInside z) (sym h.2) (record { fields = small_fields ns h.0 h.1.permitted.small; adts = tt })
  small_member m (FnMember ns f) p g q h = nothing_small g h.3
  small_member m (ConMember ns e) p g q h = nothing_small g h.3
  small_member m (TypeMember ns t) p g q h = nothing_small g h.2
  small_member m (AdtMember n ms pick) p g q h =
      let s = small_all m _ ms (open_adt n (variants_in pick) p) h.0 h.2 h.3 in
      subst (λ (z : Inside). SmallInside z) (sym h.5)
      (record {
        fields = tt;
        adts = (
          both (types_of h.0.fields) (variant_types h.1) s.fields (written_variants h.2.context h.2.body (variants_in pick) h.1 h.4),
          s.adts,
        );
      })

  pub small_all : (m : Bool) (a : ℕ) (ms : Members) (p : Point) (g : Inside) (q : Point) → AllAddToAdt m a ms p g q → SmallInside g
  small_all m a NoMembers p g q h = nothing_small g h.0
  small_all m a (MoreMembers x xs) p g q h =
      let s = small_member m x p h.0 h.2 h.3 in
      let t = small_all m a xs (showing_adt a h.2) h.1 q h.4 in
      subst (λ (z : Inside). SmallInside z) (sym h.5)
      (record {
        fields =
            subst (λ (z : List Ty). AreSmall z) (sym (types_both h.0.fields h.1.fields))
            (both (types_of h.0.fields) (types_of h.1.fields) s.fields t.fields);
        adts = each_both (λ (d : Def). AreSmall (field_types d)) h.0.adts h.1.adts s.adts t.adts;
      })
