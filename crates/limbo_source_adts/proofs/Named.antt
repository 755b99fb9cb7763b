-- The numbers in types name adts, variants and modules that are there.
use Rattle.std.proofs.Common.{◌≡◌, ◌+◌, ◌<◌, ◌≤◌, ◌∷◌, ◌++◌, ◌&&◌, if◌then◌else◌, [], ◌⊎◌, inl, inr, ℕ, zero, suc, List, Option, Some, Bool, true, false, length, take, slice_get, count_by, refl, sym, ap, subst, ◌∙◌, add-zero, arith}
use Rattle.limbo_tree.specs.Types as tree
use Rattle.limbo_types.specs.Types as ty
use Rattle.limbo_types.specs.Types.{Ty, Tys}
use Rattle.limbo_declarations.specs.Rows.{Row}
use Rattle.limbo_entries.specs.Entries.{Entry, IsEntry, IsTable}
use Rattle.limbo_naming.specs.Naming.{is_adt, is_module, is_variant}
use Rattle.limbo_layout.specs.Adts.{Field, Variant, Def, Names, AllName, AreNamed, HasVariant, Has, types_of, variant_types}
use Rattle.limbo_headers.specs.limbo_type_names.Numbers.{number_of, is_inside}
use Rattle.limbo_headers.specs.limbo_type_names.Counts.{is_adt_entry, is_module_entry, is_variant_in}
use Rattle.limbo_headers.specs.limbo_type_names.Means as means
use Rattle.limbo_headers.specs.limbo_type_names.Means.{Means, AllMean, Stands, RefersTo, IsVariant}
use Rattle.limbo_headers.proofs.limbo_type_names_lemmas.Knowing.{one_entry}
use Rattle.limbo_source_adts.specs.Inside.{inside_from, numbers_inside}
use Rattle.limbo_source_adts.specs.Definitions as defs
use Rattle.limbo_source_adts.specs.Definitions.{FieldsAre, VariantsAre, IsAdt, AdtsAre}
use Rattle.std.proofs.lemmas.Option.{slice_get_within}
use Rattle.limbo_source_adts.specs.Modules.{modules_of}
use Rattle.limbo_source_adts.proofs.Insides.{itself}
use Rattle.limbo_source_adts.proofs.Counts.{adt_counts, module_counts, variant_counts, count_yes, count_no}
use Rattle.limbo_source_adts.proofs.Outer.{outer_adt}

unlike : {A : Type 0} → (b : Bool) → b ≡ true → b ≡ false → A
unlike b x y = let z : true ≡ false = sym x ∙ y in absurd cc

module _ (es : List Entry) (m : ℕ) where
  -- ---- an adt's place in the list

  adt_at : (k : ℕ) (xs : List Entry) (ds : List Def) (i : ℕ) (e : Entry) → AdtsAre es m k xs ds → slice_get xs i ≡ Some e → is_adt e.row.means ≡ true
      → (d : Def) × (slice_get ds (count_by is_adt_entry (take i xs)) ≡ Some d) × IsAdt es m (k + i) d
  adt_at _ _ _ i e (defs.no_adts k) h a = absurd cc
  adt_at _ _ _ zero e (defs.an_adt k x d xs ds v is rest) h a = (d, refl, subst (λ (z : ℕ). IsAdt es m z d) (sym (add-zero k)) is)
  adt_at _ _ _ (suc i) e (defs.an_adt k x d xs ds v is rest) h a =
      let y = adt_at (suc k) xs ds i e rest h a in
      let n : suc k + i ≡ k + suc i = omega arith in
      (y.0, ap (λ z. slice_get (d ∷ ds) z) (count_yes is_adt_entry x (take i xs) v) ∙ y.1, subst (λ (z : ℕ). IsAdt es m z y.0) n y.2)
  adt_at _ _ _ zero e (defs.no_adt k x xs ds is rest) h a =
      let p : x ≡ e = cc in unlike (is_adt x.row.means) (subst (λ (z : Entry). is_adt z.row.means ≡ true) (sym p) a) is
  adt_at _ _ _ (suc i) e (defs.no_adt k x xs ds is rest) h a =
      let y = adt_at (suc k) xs ds i e rest h a in
      let n : suc k + i ≡ k + suc i = omega arith in
      (y.0, ap (λ z. slice_get ds z) (count_no is_adt_entry x (take i xs) is) ∙ y.1, subst (λ (z : ℕ). IsAdt es m z y.0) n y.2)

  adt_in : (k : ℕ) (xs : List Entry) (ds : List Def) (n : ℕ) (d : Def) → AdtsAre es m k xs ds → slice_get ds n ≡ Some d → (j : ℕ) × IsAdt es m j d
  adt_in _ _ _ n d (defs.no_adts k) h = absurd cc
  adt_in _ _ _ zero d (defs.an_adt k x d' xs ds v is rest) h = let p : d' ≡ d = cc in (k, subst (λ (z : Def). IsAdt es m k z) p is)
  adt_in _ _ _ (suc n) d (defs.an_adt k x d' xs ds v is rest) h = adt_in (suc k) xs ds n d rest h
  adt_in _ _ _ n d (defs.no_adt k x xs ds is rest) h = adt_in (suc k) xs ds n d rest h

  -- no more adts than declarations
  pub fewer : (k : ℕ) (xs : List Entry) (ds : List Def) → AdtsAre es m k xs ds → length ds ≤ length xs
  fewer _ _ _ (defs.no_adts k) = omega arith
  fewer _ _ _ (defs.an_adt k x d xs ds v is rest) = let l = fewer (suc k) xs ds rest in omega arith
  fewer _ _ _ (defs.no_adt k x xs ds is rest) = let l = fewer (suc k) xs ds rest in omega arith

  -- ---- a variant's place in its adt

  uncons : (k : ℕ) (ks : List ℕ) (vs : List Variant) (x : Entry) → VariantsAre es m (k ∷ ks) vs → IsEntry es k x
      → ((is_variant x.row.means ≡ true) × ((v : Variant) × (more : List Variant) × (vs ≡ v ∷ more) × VariantsAre es m ks more))
      ⊎ ((is_variant x.row.means ≡ false) × VariantsAre es m ks vs)
  uncons _ _ _ x (defs.a_variant k e v ks vs i w n f rest) at =
      inl (subst (λ (z : Entry). is_variant z.row.means ≡ true) (one_entry es k e x i at) w, (v, vs, refl, rest))
  uncons _ _ _ x (defs.no_variant k e ks vs i w rest) at = inr (subst (λ (z : Entry). is_variant z.row.means ≡ false) (one_entry es k e x i at) w, rest)

  and_true : (a b : Bool) → (a && b) ≡ true → (a ≡ true) × (b ≡ true)
  and_true true b h = (refl, h)
  and_true false b h = absurd cc

  step : (a k : ℕ) (x : Entry) (xs : List Entry) (ks : List ℕ) (vs : List Variant) (e : Entry) (i : ℕ) (b v : Bool) → is_inside (Some a) x.within ≡ b
      → is_variant x.row.means ≡ v → IsEntry es k x → VariantsAre es m ((if b then k ∷ [] else []) ++ ks) vs
      → ((j : ℕ) (more : List Variant) → VariantsAre es m ks more → slice_get xs j ≡ Some e → count_by (is_variant_in a) (take j xs) < length more)
      → slice_get (x ∷ xs) i ≡ Some e → is_variant_in a e ≡ true → count_by (is_variant_in a) (take i (x ∷ xs)) < length vs
  step a k x xs ks vs e i true true f g at are ih h w = elim (uncons k ks vs x are at) [
    | inl y ↦ yes i h y.1
    | inr y ↦ unlike (is_variant x.row.means) g y.0
  ]
    where
      yes : (n : ℕ) → slice_get (x ∷ xs) n ≡ Some e → ((v : Variant) × (more : List Variant) × (vs ≡ v ∷ more) × VariantsAre es m ks more)
          → count_by (is_variant_in a) (take n (x ∷ xs)) < length vs
      yes zero h' y = let l : length vs ≡ suc (length y.1) = ap length y.2 in omega arith
      yes (suc n) h' y =
          let l : length vs ≡ suc (length y.1) = ap length y.2 in
          let c = count_yes (is_variant_in a) x (take n xs) (ap (λ z. z && is_inside (Some a) x.within) g ∙ f) in
          let d = ih n y.1 y.3 h' in
          omega arith
  step a k x xs ks vs e i true false f g at are ih h w = elim (uncons k ks vs x are at) [
    | inl y ↦ unlike (is_variant x.row.means) y.0 g
    | inr y ↦ no i h y.1
  ]
    where
      no : (n : ℕ) → slice_get (x ∷ xs) n ≡ Some e → VariantsAre es m ks vs → count_by (is_variant_in a) (take n (x ∷ xs)) < length vs
      no zero h' y = let p : x ≡ e = cc in unlike (is_variant x.row.means) (and_true (is_variant x.row.means) (is_inside (Some a) x.within) (subst (λ (z : Entry). is_variant_in a z ≡ true) (sym p) w)).0 g
      no (suc n) h' y =
          let c = count_no (is_variant_in a) x (take n xs) (ap (λ z. z && is_inside (Some a) x.within) g) in
          let d = ih n vs y h' in
          omega arith
  step a k x xs ks vs e i false v f g at are ih h w = no i h
    where
      and_no : (b : Bool) → (b && false) ≡ false
      and_no true = refl
      and_no false = refl

      no : (n : ℕ) → slice_get (x ∷ xs) n ≡ Some e → count_by (is_variant_in a) (take n (x ∷ xs)) < length vs
      no zero h' =
          let p : x ≡ e = cc in
          unlike (is_inside (Some a) x.within) (and_true (is_variant x.row.means) (is_inside (Some a) x.within) (subst (λ (z : Entry). is_variant_in a z ≡ true) (sym p) w)).1 f
      no (suc n) h' =
          let c = count_no (is_variant_in a) x (take n xs) (ap (λ z. is_variant x.row.means && z) f ∙ and_no (is_variant x.row.means)) in
          let d = ih n vs are h' in
          omega arith

  variant_at : (a k : ℕ) (xs : List Entry) (vs : List Variant) (e : Entry) (i : ℕ) → ((j : ℕ) (f : Entry) → slice_get xs j ≡ Some f → IsEntry es (k + j) f)
      → VariantsAre es m (inside_from k xs a) vs → slice_get xs i ≡ Some e → is_variant_in a e ≡ true → count_by (is_variant_in a) (take i xs) < length vs
  variant_at a k [] vs e i at are h w = absurd cc
  variant_at a k (x ∷ xs) vs e i at are h w =
      step a k x xs (inside_from (suc k) xs a) vs e i (is_inside (Some a) x.within) (is_variant x.row.means) refl refl
      (subst (λ (z : ℕ). IsEntry es z x) (add-zero k) (at zero x refl)) are
      (λ j more are' h'. variant_at a (suc k) xs more e j
      (λ l f g. let n : k + suc l ≡ suc k + l = omega arith in subst (λ (z : ℕ). IsEntry es z f) n (at (suc l) f g)) are' h' w)
      h w

-- ---- modules

modules_at : (xs : List Entry) (i : ℕ) (e : Entry) → slice_get xs i ≡ Some e → is_module e.row.means ≡ true → count_by is_module_entry (take i xs) < length (modules_of xs)
modules_at [] i e h a = absurd cc
modules_at (x ∷ xs) i e h a = go i (is_module x.row.means) refl h (λ j g. modules_at xs j e g a)
  where
    go : (n : ℕ) (b : Bool) → is_module x.row.means ≡ b → slice_get (x ∷ xs) n ≡ Some e
        → ((j : ℕ) → slice_get xs j ≡ Some e → count_by is_module_entry (take j xs) < length (modules_of xs))
        → count_by is_module_entry (take n (x ∷ xs)) < length (modules_of (x ∷ xs))
    go zero true f g ih = rw f (omega arith)
    go (suc n) true f g ih = let c = count_yes is_module_entry x (take n xs) f in let d = ih n g in rw f (omega arith)
    go zero false f g ih = let p : x ≡ e = cc in unlike (is_module x.row.means) (subst (λ (z : Entry). is_module z.row.means ≡ true) (sym p) a) f
    go (suc n) false f g ih = let c = count_no is_module_entry x (take n xs) f in let d = ih n g in rw f (omega arith)

-- ---- what is named is there

module _ (top : List Row) (es : List Entry) (m : ℕ) (table : IsTable top es) (ds : List Def) (are : AdtsAre es m 0 es ds) where
  adt_there : (k : ℕ) (e : Entry) → IsEntry es k e → is_adt e.row.means ≡ true → (d : Def) × (slice_get ds (number_of es k e) ≡ Some d) × IsAdt es m k d
  adt_there k e i a =
      let y = adt_at es m 0 es ds k e are i a in
      let z : 0 + k ≡ k = omega arith in
      (y.0, ap (λ n. slice_get ds n) (adt_counts es k e a) ∙ y.1, subst (λ (n : ℕ). IsAdt es m n y.0) z y.2)

  variant_there : (k a v : ℕ) → IsVariant es k a v → HasVariant ds a v
  variant_there k a v w =
      let o = outer_adt top es table k w.place w.entry w.outer w.there w.is w.within w.outer_there in
      let y = adt_there w.place w.outer w.outer_there o in
      let c = variant_at es m w.place 0 es y.0.picks w.entry k (λ j f g. let z : j ≡ 0 + j = omega arith in subst (λ (n : ℕ). IsEntry es n f) z g) y.2.variants w.there
      (ap (λ z. z && is_inside (Some w.place) w.entry.within) w.is ∙ ap (λ z. is_inside (Some w.place) z) w.within ∙ itself w.place) in
      let n = variant_counts es k w.entry w.place w.is w.within in
      let p = w.variant_is in
      record { def = y.0; there = ap (λ z. slice_get ds z) w.adt_is ∙ y.1; variant = omega arith }

  mutual
    means_named : (scope : Option ℕ) (t : tree.Ty) (u : Ty) → Means es m scope t u → Names ds (length (modules_of es)) u
    means_named _ _ _ (means.byte scope) = tt
    means_named _ _ _ (means.int scope) = tt
    means_named _ _ _ (means.big scope) = tt
    means_named _ _ _ (means.chars scope) = tt
    means_named _ _ _ (means.array scope t u w) = means_named scope t u w
    means_named _ _ _ (means.list scope t u w) = means_named scope t u w
    means_named _ _ _ (means.chan scope t u w) = means_named scope t u w
    means_named _ _ _ (means.tuple scope ts us w) = all_named scope ts us w
    means_named _ _ _ (means.named scope q k u d s) = stands_named k u s
    means_named _ _ _ (means.ref_to scope q k u d r) = refers_named k u r

    all_named : (scope : Option ℕ) (ts : tree.Tys) (us : Tys) → AllMean es m scope ts us → AllName ds (length (modules_of es)) us
    all_named _ _ _ (means.no_more scope) = tt
    all_named _ _ _ (means.and_more scope t ts u us a b) = (means_named scope t u a, all_named scope ts us b)

    stands_named : (k : ℕ) (u : Ty) → Stands es m k u → Names ds (length (modules_of es)) u
    stands_named _ _ (means.adt k e i a) = let y = adt_there k e i a in slice_get_within ds (number_of es k e) y.0 y.1
    stands_named _ _ (means.module_type k e i a) = let l = modules_at es k e i a in let n = module_counts es k e a in omega arith
    stands_named _ _ (means.by_type k e t u i a w) = means_named e.within t u w
    stands_named _ _ (means.imported k e source j u i a d s) = stands_named j u s

    refers_named : (k : ℕ) (u : Ty) → RefersTo es m k u → Names ds (length (modules_of es)) u
    refers_named _ _ (means.of_adt k n s) = stands_named k (ty.Adt n) s
    refers_named _ _ (means.of_variant k a v w) = variant_there k a v w

  fields_named : (ks : List ℕ) (fs : List Field) (t : Ty) → FieldsAre es m ks fs → Has (types_of fs) t → Names ds (length (modules_of es)) t
  fields_named _ _ t defs.no_fields h = absurd h
  fields_named _ _ t (defs.a_field k e w value f ks fs i is n x rest) (inl p) =
      subst (λ (z : Ty). Names ds (length (modules_of es)) z) p (means_named e.within w f.ty x)
  fields_named _ _ t (defs.a_field k e w value f ks fs i is n x rest) (inr h) = fields_named ks fs t rest h
  fields_named _ _ t (defs.no_field k e ks fs i is rest) h = fields_named ks fs t rest h

  has_either : (xs ys : List Ty) (t : Ty) → Has (xs ++ ys) t → Has xs t ⊎ Has ys t
  has_either [] ys t h = inr h
  has_either (x ∷ xs) ys t (inl e) = inl (inl e)
  has_either (x ∷ xs) ys t (inr h) = elim (has_either xs ys t h) [
    | inl a ↦ inl (inr a)
    | inr b ↦ inr b
  ]

  variants_named : (ks : List ℕ) (vs : List Variant) (t : Ty) → VariantsAre es m ks vs → Has (variant_types vs) t → Names ds (length (modules_of es)) t
  variants_named _ _ t defs.no_variants h = absurd h
  variants_named _ _ t (defs.a_variant k e v ks vs i w n f rest) h = elim (has_either (types_of v.fields) (variant_types vs) t h) [
    | inl a ↦ fields_named (numbers_inside es k) v.fields t f a
    | inr b ↦ variants_named ks vs t rest b
  ]
  variants_named _ _ t (defs.no_variant k e ks vs i w rest) h = variants_named ks vs t rest h

  pub are_named : AreNamed ds (length (modules_of es))
  are_named n d t h has =
      let x = adt_in es m 0 es ds n d are h in
      let a = x.1 in
      elim (has_either (types_of d.fields) (variant_types d.picks) t has) [
        | inl b ↦ fields_named (numbers_inside es x.0) d.fields t a.fields b
        | inr b ↦ variants_named (numbers_inside es x.0) d.picks t a.variants b
      ]
