-- Fields, variants and adts that are collected one after the other.
use Rattle.std.proofs.Common.{◌≡◌, ◌+◌, ◌++◌, ◌∷◌, [], ℕ, suc, true, false, List, Option, Box, Global, length, take, refl, sym, ap, subst, arith}
use Rattle.limbo_tree.specs.Types as tree
use Rattle.limbo_tree.specs.Exprs.{Expr}
use Rattle.limbo_types.specs.declared.ty.Ty as code_ty
use Rattle.limbo_types.specs.Types.{Ty}
use Rattle.limbo_types.specs.View.{view_ty}
use Rattle.std.specs.Borrow.{Bor}
use Rattle.limbo_tree.specs.declared.decl.Member as code_member
use Rattle.limbo_tree.specs.declared.decl.Variant as code_variant
use Rattle.limbo_tree.specs.declared.decl.Field as code_field
use Rattle.limbo_declarations.specs.declared.row.Declared as code
use Rattle.limbo_declarations.specs.declared.row.Declared.TheVariants as declared
use Rattle.limbo_declarations.specs.View.{view_declared}
use Rattle.limbo_declarations.specs.Rows as told
use Rattle.limbo_declarations.specs.Rows.{Declared}
use Rattle.limbo_entries.specs.Entries.{Entry, IsEntry}
use Rattle.limbo_naming.specs.Naming.{is_adt, is_variant, is_variable}
use Rattle.limbo_layout.specs.Adts.{Field, Variant, Def}
use Rattle.limbo_headers.specs.limbo_type_names.Means.{Means}
use Rattle.limbo_headers.specs.declared.header.Heading.{Heading}
use Rattle.limbo_headers.specs.declared.header.Heading.TheVariants as heading
use Rattle.limbo_headers.specs.Headers.{Heads, has_heading}
use Rattle.limbo_source_adts.specs.Inside.{numbers_inside}
use Rattle.limbo_source_adts.specs.Definitions.{FieldsAre, no_fields, a_field, no_field, VariantsAre, no_variants, a_variant, no_variant, IsAdt, AdtsAre, no_adts, an_adt, no_adt}

module _ (es : List Entry) (m : ℕ) where
  -- ---- fields

  field_push : (ks : List ℕ) (fs : List Field) (k : ℕ) (e : Entry) (t : tree.Ty) (value : Option Expr) (f : Field) → FieldsAre es m ks fs → IsEntry es k e
      → e.row.means ≡ told.Variable t value → f.name ≡ e.row.name → Means es m e.within t f.ty → FieldsAre es m (ks ++ (k ∷ [])) (fs ++ (f ∷ []))
  field_push _ _ k e t value f no_fields i w n h = a_field k e t value f [] [] i w n h no_fields
  field_push _ _ k e t value f (a_field k' e' t' value' f' ks fs i' w' n' h' rest) i w n h =
      a_field k' e' t' value' f' (ks ++ (k ∷ [])) (fs ++ (f ∷ [])) i' w' n' h' (field_push ks fs k e t value f rest i w n h)
  field_push _ _ k e t value f (no_field k' e' ks fs i' w' rest) i w n h =
      no_field k' e' (ks ++ (k ∷ [])) (fs ++ (f ∷ [])) i' w' (field_push ks fs k e t value f rest i w n h)

  field_skip : (ks : List ℕ) (fs : List Field) (k : ℕ) (e : Entry) → FieldsAre es m ks fs → IsEntry es k e → is_variable e.row.means ≡ false
      → FieldsAre es m (ks ++ (k ∷ [])) fs
  field_skip _ _ k e no_fields i w = no_field k e [] [] i w no_fields
  field_skip _ _ k e (a_field k' e' t' value' f' ks fs i' w' n' h' rest) i w =
      a_field k' e' t' value' f' (ks ++ (k ∷ [])) fs i' w' n' h' (field_skip ks fs k e rest i w)
  field_skip _ _ k e (no_field k' e' ks fs i' w' rest) i w = no_field k' e' (ks ++ (k ∷ [])) fs i' w' (field_skip ks fs k e rest i w)

  pub field_more : (ks : List ℕ) (fs : List Field) (k : ℕ) (e : Entry) (b : Box code_ty.Ty Global) (f : Field) → FieldsAre es m ks fs → IsEntry es k e
      → Heads es m e (heading.Variable b) → f.name ≡ e.row.name → f.ty ≡ view_ty b.value → FieldsAre es m (ks ++ (k ∷ [])) (fs ++ (f ∷ []))
  field_more ks fs k e b f are i h n t = field_push ks fs k e h.0 h.1 f are i h.2 n (subst (λ (z : Ty). Means es m e.within h.0 z) (sym t) h.3)

  no_variable : (d : Declared) → has_heading d ≡ false → is_variable d ≡ false
  no_variable (told.Variable t v) x = absurd cc
  no_variable _ x = refl

  other_heading : (e : Entry) (h : Heading) → Heads es m e h → ((b : Box code_ty.Ty Global) → h ≡ heading.Variable b → ⊥) → is_variable e.row.means ≡ false
  other_heading e (heading.Variable b) w never = absurd (never b refl)
  other_heading e (heading.Function b) w never = ap is_variable w.1
  other_heading e (heading.Exception ts) w never = ap is_variable w.1
  other_heading e heading.Other w never = no_variable e.row.means w

  pub field_none : (ks : List ℕ) (fs : List Field) (k : ℕ) (e : Entry) (h : Heading) → FieldsAre es m ks fs → IsEntry es k e → Heads es m e h
      → ((b : Box code_ty.Ty Global) → h ≡ heading.Variable b → ⊥) → FieldsAre es m (ks ++ (k ∷ [])) fs
  field_none ks fs k e h are i w never = field_skip ks fs k e are i (other_heading e h w never)

  -- ---- variants

  pub variant_push : (ks : List ℕ) (vs : List Variant) (k : ℕ) (e : Entry) (v : Variant) → VariantsAre es m ks vs → IsEntry es k e → is_variant e.row.means ≡ true
      → v.name ≡ e.row.name → FieldsAre es m (numbers_inside es k) v.fields → VariantsAre es m (ks ++ (k ∷ [])) (vs ++ (v ∷ []))
  variant_push _ _ k e v no_variants i w n h = a_variant k e v [] [] i w n h no_variants
  variant_push _ _ k e v (a_variant k' e' v' ks vs i' w' n' h' rest) i w n h =
      a_variant k' e' v' (ks ++ (k ∷ [])) (vs ++ (v ∷ [])) i' w' n' h' (variant_push ks vs k e v rest i w n h)
  variant_push _ _ k e v (no_variant k' e' ks vs i' w' rest) i w n h =
      no_variant k' e' (ks ++ (k ∷ [])) (vs ++ (v ∷ [])) i' w' (variant_push ks vs k e v rest i w n h)

  pub variant_skip : (ks : List ℕ) (vs : List Variant) (k : ℕ) (e : Entry) → VariantsAre es m ks vs → IsEntry es k e → is_variant e.row.means ≡ false
      → VariantsAre es m (ks ++ (k ∷ [])) vs
  variant_skip _ _ k e no_variants i w = no_variant k e [] [] i w no_variants
  variant_skip _ _ k e (a_variant k' e' v' ks vs i' w' n' h' rest) i w =
      a_variant k' e' v' (ks ++ (k ∷ [])) vs i' w' n' h' (variant_skip ks vs k e rest i w)
  variant_skip _ _ k e (no_variant k' e' ks vs i' w' rest) i w = no_variant k' e' (ks ++ (k ∷ [])) vs i' w' (variant_skip ks vs k e rest i w)

  -- ---- adts

  adt_push : (k n : ℕ) (xs : List Entry) (ds : List Def) (e : Entry) (d : Def) → AdtsAre es m k xs ds → n ≡ k + length xs → is_adt e.row.means ≡ true → IsAdt es m n d
      → AdtsAre es m k (xs ++ (e ∷ [])) (ds ++ (d ∷ []))
  adt_push _ n _ _ e d (no_adts k) is v w =
      let p : n ≡ k = omega arith in
      an_adt k e d [] [] v (subst (λ (z : ℕ). IsAdt es m z d) p w) (no_adts (suc k))
  adt_push _ n _ _ e d (an_adt k e' d' xs ds b a rest) is v w =
      an_adt k e' d' (xs ++ (e ∷ [])) (ds ++ (d ∷ [])) b a (adt_push (suc k) n xs ds e d rest (omega arith) v w)
  adt_push _ n _ _ e d (no_adt k e' xs ds a rest) is v w =
      no_adt k e' (xs ++ (e ∷ [])) (ds ++ (d ∷ [])) a (adt_push (suc k) n xs ds e d rest (omega arith) v w)

  adt_skip : (k : ℕ) (xs : List Entry) (ds : List Def) (e : Entry) → AdtsAre es m k xs ds → is_adt e.row.means ≡ false → AdtsAre es m k (xs ++ (e ∷ [])) ds
  adt_skip _ _ _ e (no_adts k) w = no_adt k e [] [] w (no_adts (suc k))
  adt_skip _ _ _ e (an_adt k e' d' xs ds b a rest) w = an_adt k e' d' (xs ++ (e ∷ [])) ds b a (adt_skip (suc k) xs ds e rest w)
  adt_skip _ _ _ e (no_adt k e' xs ds a rest) w = no_adt k e' (xs ++ (e ∷ [])) ds a (adt_skip (suc k) xs ds e rest w)

  -- the adts to a place, and one place further
  pub adt_more : (n : ℕ) (ds : List Def) (e : Entry) (d : Def) → take (n + 1) es ≡ take n es ++ (e ∷ []) → length (take n es) ≡ n → AdtsAre es m 0 (take n es) ds
      → is_adt e.row.means ≡ true → IsAdt es m n d → AdtsAre es m 0 (take (n + 1) es) (ds ++ (d ∷ []))
  adt_more n ds e d is l a v w =
      subst (λ (z : List Entry). AdtsAre es m 0 z (ds ++ (d ∷ []))) (sym is) (adt_push 0 n (take n es) ds e d a (omega arith) v w)

  pub adt_none : (n : ℕ) (ds : List Def) (e : Entry) → take (n + 1) es ≡ take n es ++ (e ∷ []) → AdtsAre es m 0 (take n es) ds → is_adt e.row.means ≡ false
      → AdtsAre es m 0 (take (n + 1) es) ds
  adt_none n ds e is a w = subst (λ (z : List Entry). AdtsAre es m 0 z ds) (sym is) (adt_skip 0 (take n es) ds e a w)

-- ---- declarations of the code by their forms

pub not_case : (d : code.Declared) → ((fs : Bor (List code_field.Field)) → d ≡ declared.Case fs → ⊥) → is_variant (view_declared d) ≡ false
not_case (declared.Case fs) a = absurd (a fs refl)
not_case _ a = refl

pub not_adt : (d : code.Declared) → ((ms : Bor (List code_member.Member)) (pick : Option (Bor (List code_variant.Variant))) → d ≡ declared.Adt ms pick → ⊥)
    → is_adt (view_declared d) ≡ false
not_adt (declared.Adt ms pick) a = absurd (a ms pick refl)
not_adt _ a = refl
