-- Fields and variants, as they are written.
use Rattle.std.proofs.Common.{◌≡◌, ◌<◌, ◌+◌, ◌++◌, ◌∷◌, [], ℕ, zero, suc, List, length, map, take, get_or, refl, sym, ap, subst, ◌∙◌}
use Rattle.std.proofs.Common.{append_assoc, arith}
use Rattle.std.proofs.lemmas.List.{map_more, append-nil, length-map}
use Rattle.limbo_tree.specs.Decls as decls
use Rattle.limbo_types.specs.Types.{Ty}
use Rattle.limbo_layout.specs.Adts.{Field, Variant}
use Rattle.limbo_causes.specs.declared.fault.Cause as code
use Rattle.limbo_causes.specs.Causes.{Cause, FailsBy}
use Rattle.limbo_causes.proofs.Telling.{fails_weaker}
use Rattle.limbo_context.specs.Context.{Context, Body}
use Rattle.limbo_written.specs.Written.{MeansPermitted, FailsAsType}
use Rattle.limbo_locals.specs.limbo_local.Members.{fields, AreFields, AreVariants, bare, named_variants}
use Rattle.limbo_locals.specs.limbo_local.Failing as failing
use Rattle.limbo_locals.specs.limbo_local.Failing.{FailsFields, FailsVariants}
use Rattle.limbo_members.specs.Written.{AddsFields, AddsVariants}

-- ---- the next of a list, as it is viewed

module _ {A B : Type 0} (view : A → B) where
  pub viewed_at : (xs : List A) (i : ℕ) (x : A) → i < length xs → x ≡ get_or xs i x → view x ≡ get_or (map view xs) i (view x)
  viewed_at [] i x l is = absurd (omega arith)
  viewed_at (y ∷ ys) zero x l is = ap view is
  viewed_at (y ∷ ys) (suc i) x l is = viewed_at ys i x (omega arith) is

  pub viewed_below : (xs : List A) (i : ℕ) → i < length xs → i < length (map view xs)
  viewed_below xs i l = subst (λ (n : ℕ). i < n) (sym (length-map xs view)) l

  pub viewed_more : (xs : List A) (i : ℕ) (x : A) → i < length xs → x ≡ get_or xs i x
      → map view (take (i + 1) xs) ≡ map view (take i xs) ++ view x ∷ []
  viewed_more xs i x l is = map_more view xs i x l ∙ ap (λ (z : A). map view (take i xs) ++ view z ∷ []) (sym is)

-- ---- fields

module _ (c : Context) (b : Body) where
  fields_push : (fs : List decls.Field) (gs : List Field) (f : decls.Field) (u : Ty) → AreFields c b fs gs → MeansPermitted c b f.of u
      → AreFields c b (fs ++ f ∷ []) (gs ++ fields f.names u)
  fields_push [] gs f u h m =
      (u, [], m, refl, ap (λ (z : List Field). z ++ fields f.names u) h ∙ sym (append-nil (fields f.names u)))
  fields_push (k ∷ ks) gs f u h m = (
    h.0,
    h.1 ++ fields f.names u,
    h.2,
    fields_push ks h.1 f u h.3 m,
    ap (λ (z : List Field). z ++ fields f.names u) h.4 ∙ append_assoc (fields k.names h.0) h.1 (fields f.names u),
  )

  pub fields_on : (fs gs : List decls.Field) (f : decls.Field) (now later : List Field) → gs ≡ fs ++ f ∷ [] → AreFields c b fs now
      → AddsFields c b f now later → AreFields c b gs later
  fields_on fs gs f now later p h a =
      subst (λ (z : List decls.Field). AreFields c b z later) (sym p)
      (subst (λ (z : List Field). AreFields c b (fs ++ f ∷ []) z) (sym a.2) (fields_push fs now f a.0 h a.1))

  fields_fail : (fs : List decls.Field) (i : ℕ) (f : decls.Field) (k : Cause) → i < length fs → f ≡ get_or fs i f
      → FailsAsType c b f.of k → FailsFields c b fs k
  fields_fail [] i f k l e h = absurd (omega arith)
  fields_fail (g ∷ gs) zero f k l e h = failing.this_field g gs k (subst (λ (z : decls.Field). FailsAsType c b z.of k) e h)
  fields_fail (g ∷ gs) (suc i) f k l e h = failing.later_field g gs k (fields_fail gs i f k (omega arith) e h)

  pub some_field_fails : (fs : List decls.Field) (i : ℕ) (f : decls.Field) (g : code.Cause) → i < length fs → f ≡ get_or fs i f
      → FailsBy g (FailsAsType c b f.of) → FailsBy g (FailsFields c b fs)
  some_field_fails fs i f g l e h = fails_weaker g _ _ (λ k x. fields_fail fs i f k l e x) h

  -- ---- variants

  variants_push : (vs : List decls.Variant) (us : List Variant) (v : decls.Variant) (gs : List Field) → AreVariants c b vs us
      → AreFields c b v.fields gs → AreVariants c b (vs ++ v ∷ []) (us ++ named_variants v.names gs)
  variants_push [] us v gs h m =
      (gs, [], m, refl, ap (λ (z : List Variant). z ++ named_variants v.names gs) h ∙ sym (append-nil (named_variants v.names gs)))
  variants_push (w ∷ ws) us v gs h m = (
    h.0,
    h.1 ++ named_variants v.names gs,
    h.2,
    variants_push ws h.1 v gs h.3 m,
    ap (λ (z : List Variant). z ++ named_variants v.names gs) h.4
        ∙ append_assoc (named_variants w.names h.0) h.1 (named_variants v.names gs),
  )

  pub variants_on : (vs ws : List decls.Variant) (v : decls.Variant) (now later : List Variant) → ws ≡ vs ++ v ∷ []
      → AreVariants c b vs now → AddsVariants c b v now later → AreVariants c b ws later
  variants_on vs ws v now later p h a =
      subst (λ (z : List decls.Variant). AreVariants c b z later) (sym p)
      (subst (λ (z : List Variant). AreVariants c b (vs ++ v ∷ []) z) (sym a.2) (variants_push vs now v a.0 h a.1))

  variants_fail : (vs : List decls.Variant) (i : ℕ) (v : decls.Variant) (k : Cause) → i < length vs → v ≡ get_or vs i v
      → FailsFields c b v.fields k → FailsVariants c b vs k
  variants_fail [] i v k l e h = absurd (omega arith)
  variants_fail (w ∷ ws) zero v k l e h =
      failing.this_variant w ws k (subst (λ (z : decls.Variant). FailsFields c b z.fields k) e h)
  variants_fail (w ∷ ws) (suc i) v k l e h = failing.later_variant w ws k (variants_fail ws i v k (omega arith) e h)

  pub some_variant_fails : (vs : List decls.Variant) (i : ℕ) (v : decls.Variant) (g : code.Cause) → i < length vs → v ≡ get_or vs i v
      → FailsBy g (FailsFields c b v.fields) → FailsBy g (FailsVariants c b vs)
  some_variant_fails vs i v g l e h = fails_weaker g _ _ (λ k x. variants_fail vs i v k l e x) h

pub bare_push : (vs : List decls.Variant) (v : decls.Variant) → bare (vs ++ v ∷ []) ≡ bare vs ++ named_variants v.names []
bare_push [] v = append-nil (named_variants v.names [])
bare_push (w ∷ ws) v =
    ap (λ (z : List Variant). named_variants w.names [] ++ z) (bare_push ws v)
    ∙ sym (append_assoc (named_variants w.names []) (bare ws) (named_variants v.names []))
