-- Types that are written in a source are named in its context.
use Rattle.std.proofs.Common.{◌≡◌, ◌⊎◌, inl, inr, ◌++◌, ◌∷◌, [], ℕ, List, Option, Some, length, slice_get, sym, subst}
use Rattle.std.proofs.lemmas.Option.{slice_get_within}
use Rattle.limbo_tree.specs.Types as tree
use Rattle.limbo_types.specs.Types as ty
use Rattle.limbo_types.specs.Types.{Ty, Tys}
use Rattle.limbo_types.specs.View.{tys_of}
use Rattle.limbo_declarations.specs.Rows.{Row}
use Rattle.limbo_entries.specs.Entries.{Entry, IsTable}
use Rattle.limbo_layout.specs.Adts.{Field, Variant, Def, Names, AllName, Has, types_of, variant_types, field_types}
use Rattle.limbo_typed.specs.Sound.{Each, IsSettled, AllSettled}
use Rattle.limbo_context.specs.Context.{Context}
use Rattle.limbo_type_names.specs.Numbers.{number_of}
use Rattle.limbo_type_names.specs.Means as means
use Rattle.limbo_type_names.specs.Means.{Means, AllMean, Stands, RefersTo}
use Rattle.limbo_source_adts.specs.Inside.{numbers_inside}
use Rattle.limbo_source_adts.specs.Definitions as defs
use Rattle.limbo_source_adts.specs.Definitions.{FieldsAre, VariantsAre, AdtsAre}
use Rattle.limbo_source_adts.specs.Modules.{modules_of}
use Rattle.limbo_stated_sound.specs.Named.{IsNamedIn}
use Rattle.limbo_source_sound.proofs.There.{adt_there, adt_in, variant_there, module_there}

-- what is written names something of these, and is no open `nil`
module _ (top : List Row) (es : List Entry) (m : ℕ) (table : IsTable top es) (ds : List Def) (are : AdtsAre es m 0 es ds) where
  abbrev InThere : Ty → Type 0
  InThere u = Names ds (length (modules_of es)) u × IsSettled u

  mutual
    pub means_there : (scope : Option ℕ) (t : tree.Ty) (u : Ty) → Means es m scope t u → InThere u
    means_there _ _ _ (means.byte scope) = (tt, tt)
    means_there _ _ _ (means.int scope) = (tt, tt)
    means_there _ _ _ (means.big scope) = (tt, tt)
    means_there _ _ _ (means.chars scope) = (tt, tt)
    means_there _ _ _ (means.array scope t u w) = means_there scope t u w
    means_there _ _ _ (means.list scope t u w) = means_there scope t u w
    means_there _ _ _ (means.chan scope t u w) = means_there scope t u w
    means_there _ _ _ (means.tuple scope ts us w) = all_there scope ts us w
    means_there _ _ _ (means.named scope q k u d s) = stands_there k u s
    means_there _ _ _ (means.ref_to scope q k u d r) = refers_there k u r

    pub all_there : (scope : Option ℕ) (ts : tree.Tys) (us : Tys) → AllMean es m scope ts us
        → AllName ds (length (modules_of es)) us × AllSettled us
    all_there _ _ _ (means.no_more scope) = (tt, tt)
    all_there _ _ _ (means.and_more scope t ts u us a b) =
        let x = means_there scope t u a in
        let y = all_there scope ts us b in
        ((x.0, y.0), (x.1, y.1))

    pub stands_there : (k : ℕ) (u : Ty) → Stands es m k u → InThere u
    stands_there _ _ (means.adt k e i a) =
        let y = adt_there top es m table ds are k e i a in
        (slice_get_within ds (number_of es k e) y.0 y.1, tt)
    stands_there _ _ (means.module_type k e i a) = (module_there top es m table ds are k e i a, tt)
    stands_there _ _ (means.by_type k e t u i a w) = means_there e.within t u w
    stands_there _ _ (means.imported k e source j u i a d s) = stands_there j u s

    refers_there : (k : ℕ) (u : Ty) → RefersTo es m k u → InThere u
    refers_there _ _ (means.of_adt k n s) = stands_there k (ty.Adt n) s
    refers_there _ _ (means.of_variant k a v w) = (variant_there top es m table ds are k a v w, tt)

-- ---- fields

has_either : (xs ys : List Ty) (t : Ty) → Has (xs ++ ys) t → Has xs t ⊎ Has ys t
has_either [] ys t h = inr h
has_either (x ∷ xs) ys t (inl e) = inl (inl e)
has_either (x ∷ xs) ys t (inr h) = elim (has_either xs ys t h) [
  | inl a ↦ inl (inr a)
  | inr b ↦ inr b
]

module _ (es : List Entry) (m : ℕ) (P : Ty → Type 0) (holds : (scope : Option ℕ) (t : tree.Ty) (u : Ty) → Means es m scope t u → P u) where
  fields_hold : (ks : List ℕ) (fs : List Field) (t : Ty) → FieldsAre es m ks fs → Has (types_of fs) t → P t
  fields_hold _ _ t defs.no_fields h = absurd h
  fields_hold _ _ t (defs.a_field k e w value f ks fs i is n x rest) (inl p) = subst P p (holds e.within w f.ty x)
  fields_hold _ _ t (defs.a_field k e w value f ks fs i is n x rest) (inr h) = fields_hold ks fs t rest h
  fields_hold _ _ t (defs.no_field k e ks fs i is rest) h = fields_hold ks fs t rest h

  variants_hold : (ks : List ℕ) (vs : List Variant) (t : Ty) → VariantsAre es m ks vs → Has (variant_types vs) t → P t
  variants_hold _ _ t defs.no_variants h = absurd h
  variants_hold _ _ t (defs.a_variant k e v ks vs i w n f rest) h = elim (has_either (types_of v.fields) (variant_types vs) t h) [
    | inl a ↦ fields_hold (numbers_inside es k) v.fields t f a
    | inr b ↦ variants_hold ks vs t rest b
  ]
  variants_hold _ _ t (defs.no_variant k e ks vs i w rest) h = variants_hold ks vs t rest h

  pub adts_hold : (ds : List Def) → AdtsAre es m 0 es ds → (n : ℕ) (d : Def) (t : Ty) → slice_get ds n ≡ Some d → Has (field_types d) t
      → P t
  adts_hold ds are n d t h has =
      let x = adt_in es m 0 es ds n d are h in
      elim (has_either (types_of d.fields) (variant_types d.picks) t has) [
        | inl b ↦ fields_hold (numbers_inside es x.0) d.fields t x.1.fields b
        | inr b ↦ variants_hold (numbers_inside es x.0) d.picks t x.1.variants b
      ]

-- ---- in a context

module _ (top : List Row) (es : List Entry) (m : ℕ) (c : Context) (table : IsTable top es) (are : AdtsAre es m 0 es c.adts)
    (all : c.modules ≡ modules_of es) where
  pub means_in : (scope : Option ℕ) (t : tree.Ty) (u : Ty) → Means es m scope t u → IsNamedIn c u
  means_in scope t u w =
      subst (λ (z : List (List ℕ)). Names c.adts (length z) u × IsSettled u) (sym all) (means_there top es m table c.adts are scope t u w)

  pub stands_in : (k : ℕ) (u : Ty) → Stands es m k u → IsNamedIn c u
  stands_in k u w =
      subst (λ (z : List (List ℕ)). Names c.adts (length z) u × IsSettled u) (sym all) (stands_there top es m table c.adts are k u w)

  each_in : (us : List Ty) → AllName c.adts (length c.modules) (tys_of us) → AllSettled (tys_of us) → Each (IsNamedIn c) us
  each_in [] a b = tt
  each_in (u ∷ us) a b = ((a.0, b.0), each_in us a.1 b.1)

  pub all_in : (scope : Option ℕ) (ts : tree.Tys) (us : List Ty) → AllMean es m scope ts (tys_of us) → Each (IsNamedIn c) us
  all_in scope ts us w =
      let x = all_there top es m table c.adts are scope ts (tys_of us) w in
      each_in us (subst (λ (z : List (List ℕ)). AllName c.adts (length z) (tys_of us)) (sym all) x.0) x.1
