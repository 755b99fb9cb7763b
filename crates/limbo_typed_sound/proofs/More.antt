-- What holds by a context's lists holds by those of the module that it describes.
use Rattle.std.proofs.Common.{◌≡◌, ◌<◌, ◌≤◌, inl, inr, ℕ, List, [], ◌∷◌, ◌++◌, length, get_or, Option, Some, None, refl, sym, subst, arith}
use Rattle.std.specs.Prelude.{slice_get}
use Rattle.inf_text.specs.Options.{◌>>=◌}
use Rattle.std.proofs.lemmas.Option.{slice_get_within, slice_get-get_or}
use Rattle.limbo_types.specs.Types as ty
use Rattle.limbo_types.specs.Types.{Ty, Tys, Tuple, Adt, RefAdt, RefPick}
use Rattle.limbo_layout.specs.Adts.{Def, Variant, Names, AllName, Has, field_types, tag, parts, types_of, variant_types}
use Rattle.limbo_tree.specs.Types as written
use Rattle.limbo_tree.specs.declared.operators.UnaryOp.{UnaryOp}
use Rattle.limbo_typed.specs.Typed.{Module}
use Rattle.limbo_typed.specs.Sound.{IsSettled, AllSettled, IsNamed, Each}
use Rattle.limbo_fields.specs.Fields as fields
use Rattle.limbo_scope.specs.declared.meaning.Meaning.{Meaning}
use Rattle.limbo_scope.specs.declared.meaning.Meaning.TheVariants as meaning
use Rattle.limbo_context.specs.declared.context.Imported.{Imported}
use Rattle.limbo_context.specs.Context.{Context, Body}
use Rattle.limbo_body_types.specs.Means as means
use Rattle.limbo_body_types.specs.Means.{Means, AllMean, declared_type, type_meant}
use Rattle.limbo_prefixes.specs.Rows as rows
use Rattle.limbo_prefixes.specs.Rows.{OneRow, UnaryRow}
use Rattle.limbo_places.specs.Targets as targets
use Rattle.limbo_places.specs.Targets.{Selects}
use Rattle.limbo_calls.specs.Calls.{FieldsOf, Constructs}
use Rattle.limbo_typed.specs.Typed.{Expr, Exprs}
use Rattle.limbo_typed_sound.specs.Describing.{Begins, HasTypes}
use Rattle.limbo_typed_sound.proofs.Lists.{each_at}

-- a list is as long as one that it begins, or longer
pub no_longer : {A : Type 0} (xs ys : List A) → Begins xs ys → (n : ℕ) → n < length xs → n < length ys
no_longer [] ys b n l = absurd (omega arith)
no_longer (x ∷ xs) ys b n l =
    let e = slice_get-get_or (x ∷ xs) n x l in slice_get_within ys n (get_or (x ∷ xs) n x) (b n (get_or (x ∷ xs) n x) e)

module _ (old new : List Def) (begins : Begins old new) (before after : ℕ) (more : before ≤ after) where
  mutual
    pub more_names : (t : Ty) → Names old before t → Names new after t
    more_names (ty.ArrayOf t) h = more_names t h
    more_names (ty.ListOf t) h = more_names t h
    more_names (ty.ChanOf t) h = more_names t h
    more_names (Tuple ts) h = more_all_names ts h
    more_names (Adt n) h = no_longer old new begins n h
    more_names (RefAdt n) h = no_longer old new begins n h
    more_names (RefPick n v) h = record { def = h.def; there = begins n h.def h.there; variant = h.variant }
    more_names (ty.Module n) h = omega arith
    more_names _ h = tt

    more_all_names : (ts : Tys) → AllName old before ts → AllName new after ts
    more_all_names ty.NoTys h = tt
    more_all_names (ty.MoreTys t ts) h = (more_names t h.0, more_all_names ts h.1)

module _ (old new : List Def) (begins : Begins old new) where
  more_parts : (name : List ℕ) (of : Ty) (k : ℕ) (t : Ty) → fields.Names old name of k t → fields.Names new name of k t
  more_parts name _ _ _ (fields.of_adt n d k t h p) = fields.of_adt n d k t (begins n d h) p
  more_parts name _ _ _ (fields.of_ref n d k t h p) = fields.of_ref n d k t (begins n d h) p
  more_parts name _ _ _ (fields.of_variant n v d k t h p) = fields.of_variant n v d k t (begins n d h) p
  more_parts name _ _ _ (fields.of_tuple ts k t i p) = fields.of_tuple ts k t i p

  pub more_selects : (name : List ℕ) (e x : Expr) → Selects old name e x → Selects new name e x
  more_selects name _ _ (targets.Selects.in_place of p k t h n s) =
      targets.Selects.in_place of p k t h (more_parts name of k t n) s
  more_selects name _ _ (targets.Selects.in_value of n k t h i m s) =
      targets.Selects.in_value of n k t h i (more_parts name of k t m) s
  more_selects name _ _ (targets.in_target adt e k t h n s) = targets.in_target adt e k t h (more_parts name _ k t n) s

  pub more_rows : (o : UnaryOp) (t : Ty) (row : OneRow) → UnaryRow old o t row → UnaryRow new o t row
  more_rows _ _ _ (rows.altered o u k e) = rows.altered o u k e
  more_rows _ _ _ rows.denied = rows.denied
  more_rows _ _ _ (rows.head t s) = rows.head t s
  more_rows _ _ _ (rows.tail t s) = rows.tail t s
  more_rows _ _ _ (rows.UnaryRow.length s t i k) = rows.UnaryRow.length s t i k
  more_rows _ _ _ (rows.UnaryRow.tag n t r i) =
      rows.UnaryRow.tag n t r (record { def = i.def; there = begins n i.def i.there; variants = i.variants })
  more_rows _ _ _ (rows.converted o from to e) = rows.converted o from to e
  more_rows _ _ _ (rows.read_number o to t e n i) = rows.read_number o to t e n i
  more_rows _ _ _ (rows.number_text k) = rows.number_text k
  more_rows _ _ _ rows.bytes_text = rows.bytes_text
  more_rows _ _ _ rows.nil_text = rows.nil_text

  pub more_constructs : (adt : ℕ) (variant : Option ℕ) (es : Exprs) (e : Expr) → Constructs old adt variant es e
      → Constructs new adt variant es e
  more_constructs adt variant es e c = record {
    types = c.types;
    fields = record { def = c.fields.def; there = begins adt c.fields.def c.fields.there; fields = c.fields.fields };
    values = c.values;
    arguments = c.arguments;
    gives = c.gives;
  }

-- ---- the types of fields

has_left : (xs ys : List Ty) (t : Ty) → Has xs t → Has (xs ++ ys) t
has_left [] ys t h = absurd h
has_left (x ∷ xs) ys t (inl e) = inl e
has_left (x ∷ xs) ys t (inr h) = inr (has_left xs ys t h)

has_right : (xs ys : List Ty) (t : Ty) → Has ys t → Has (xs ++ ys) t
has_right [] ys t h = h
has_right (x ∷ xs) ys t h = inr (has_right xs ys t h)

pub has_at : (xs : List Ty) (n : ℕ) (t : Ty) → slice_get xs n ≡ Some t → Has xs t
has_at xs n t e = each_at (Has xs) xs n t e (all_in xs xs (λ u h. h))
  where
    all_in : (ys zs : List Ty) → ((u : Ty) → Has ys u → Has zs u) → Each (Has zs) ys
    all_in [] zs f = tt
    all_in (y ∷ ys) zs f = (f y (inl refl), all_in ys zs (λ u h. f u (inr h)))

in_variants : (vs : List Variant) (v : ℕ) (w : Variant) (t : Ty) → slice_get vs v ≡ Some w → Has (types_of w.fields) t
    → Has (variant_types vs) t
in_variants vs v w t e h = each_at (λ (x : Variant). Has (types_of x.fields) t → Has (variant_types vs) t) vs v w e (all vs vs (λ u k. k)) h
  where
    all : (xs ys : List Variant) → ((u : Ty) → Has (variant_types xs) u → Has (variant_types ys) u)
        → Each (λ (x : Variant). Has (types_of x.fields) t → Has (variant_types ys) t) xs
    all [] ys f = tt
    all (x ∷ xs) ys f = (
      λ k. f t (has_left (types_of x.fields) (variant_types xs) t k),
      all xs ys (λ u k. f u (has_right (types_of x.fields) (variant_types xs) u k)),
    )

module _ (m : Module) (types : HasTypes m) where
  -- ---- the types of what a value is made of

  pub part_named : (n : ℕ) (d : Def) (k : ℕ) (t : Ty) → slice_get m.adts n ≡ Some d → slice_get (parts d) k ≡ Some t → IsNamed m t
  part_named n d k t h e = of_tag d.picks (field_types d) (types.fields n d t h) (has_at (parts d) k t e)
    where
      of_tag : (vs : List Variant) (ts : List Ty) → (Has ts t → IsNamed m t) → Has (tag vs ++ ts) t → IsNamed m t
      of_tag [] ts f i = f i
      of_tag (v ∷ vs) ts f (inl q) = subst (λ (z : Ty). IsNamed m z) q (tt, tt)
      of_tag (v ∷ vs) ts f (inr i) = f i

  each_named : (ts : List Ty) (P : Ty → Type 0) → ((t : Ty) → Has ts t → P t) → Each P ts
  each_named [] P f = tt
  each_named (t ∷ ts) P f = (f t (inl refl), each_named ts P (λ u h. f u (inr h)))

  pub fields_named : (adt : ℕ) (variant : Option ℕ) (ts : List Ty) → FieldsOf m.adts adt variant ts → Each (IsNamed m) ts
  fields_named adt None ts f =
      subst (λ (z : List Ty). Each (IsNamed m) z) (sym f.fields.1)
      (each_named (types_of f.def.fields) (IsNamed m) (λ t h. types.fields adt f.def t f.there
      (has_left (types_of f.def.fields) (variant_types f.def.picks) t h)))
  fields_named adt (Some v) ts f =
      let w = f.fields.0 in
      subst (λ (z : List Ty). Each (IsNamed m) z) (sym f.fields.2)
      (each_named (types_of f.def.fields ++ types_of w.fields) (IsNamed m) (λ t h. types.fields adt f.def t f.there (go w f.fields.1 t h)))
    where
      over : (xs ys zs : List Ty) (t : Ty) → (Has ys t → Has zs t) → Has (xs ++ ys) t → Has (xs ++ zs) t
      over [] ys zs t g i = g i
      over (x ∷ xs) ys zs t g (inl q) = inl q
      over (x ∷ xs) ys zs t g (inr i) = inr (over xs ys zs t g i)

      go : (w : Variant) → slice_get f.def.picks v ≡ Some w → (t : Ty) → Has (types_of f.def.fields ++ types_of w.fields) t
          → Has (field_types f.def) t
      go w e t h = over (types_of f.def.fields) (types_of w.fields) (variant_types f.def.picks) t (in_variants f.def.picks v w t e) h

-- ---- types that are written

module _ (c : Context) (types : Each IsSettled c.types) where
  declared_settled : (m : Meaning) (t : Ty) → declared_type c m ≡ Some t → IsSettled t
  declared_settled (meaning.Type n) t e = each_at IsSettled c.types n t e types
  declared_settled (meaning.Adt n) t e = let q : Adt n ≡ t = cc in subst IsSettled q tt
  declared_settled (meaning.Module n) t e = let q : ty.Module n ≡ t = cc in subst IsSettled q tt
  declared_settled _ t e = absurd cc

  imported_settled : (o : Option Imported) (t : Ty) → (o >>= λ i. declared_type c i.member) ≡ Some t → IsSettled t
  imported_settled None t e = absurd cc
  imported_settled (Some i) t e = declared_settled i.member t e

  meant_settled : (m : Meaning) (t : Ty) → type_meant c m ≡ Some t → IsSettled t
  meant_settled (meaning.Import n) t e = imported_settled (slice_get c.imports n) t e
  meant_settled (meaning.Type n) t e = declared_settled (meaning.Type n) t e
  meant_settled (meaning.Adt n) t e = declared_settled (meaning.Adt n) t e
  meant_settled (meaning.Module n) t e = declared_settled (meaning.Module n) t e
  meant_settled _ t e = absurd cc

  mutual
    pub means_settled : (b : Body) (t : written.Ty) (u : Ty) → Means c b t u → IsSettled u
    means_settled b _ _ means.byte = tt
    means_settled b _ _ means.int = tt
    means_settled b _ _ means.big = tt
    means_settled b _ _ means.chars = tt
    means_settled b _ _ (means.array t u h) = means_settled b t u h
    means_settled b _ _ (means.list t u h) = means_settled b t u h
    means_settled b _ _ (means.chan t u h) = means_settled b t u h
    means_settled b _ _ (means.tuple ts us h) = all_mean_settled b ts us h
    means_settled b _ _ (means.named_type q m u n h) = meant_settled m u h
    means_settled b _ _ (means.ref_adt q m a n h) = tt
    means_settled b _ _ (means.ref_variant q a v h) = tt

    all_mean_settled : (b : Body) (ts : written.Tys) (us : Tys) → AllMean c b ts us → AllSettled us
    all_mean_settled b _ _ means.no_more = tt
    all_mean_settled b _ _ (means.and_more t ts u us h k) = (means_settled b t u h, all_mean_settled b ts us k)
