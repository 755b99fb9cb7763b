-- Types of fields, each number of which names something.
use Rattle.std.proofs.Common.{◌≡◌, ◌<◌, ◌≤◌, ◌+◌, ◌++◌, ◌∷◌, [], ◌⊎◌, inl, inr, ℕ, zero, suc, List, Option, Some, length, map, take}
use Rattle.std.proofs.Common.{get_or}
use Rattle.std.proofs.Common.{refl, sym, ap, subst, ◌∙◌, append_assoc, arith, true}
use Rattle.std.specs.Prelude.{slice_get, option_map}
use Rattle.std.proofs.lemmas.List.{append-nil, length-map}
use Rattle.std.proofs.lemmas.Option.{slice_get-get_or, slice_get-map, slice_get_within}
use Rattle.limbo_types.specs.Types.{Ty}
use Rattle.limbo_types.specs.View.{view_ty}
use Rattle.limbo_layout.specs.declared.def.Field as code_field
use Rattle.limbo_layout.specs.declared.def.Variant as code_variant
use Rattle.limbo_layout.specs.declared.def.AdtDef as code_def
use Rattle.limbo_layout.specs.Adts.{Field, Variant, Def, Has, Names, AreNamed, types_of, variant_types, field_types}
use Rattle.limbo_layout.specs.View.{view_field, view_fields, view_variant, view_def, view_defs}
use Rattle.limbo_typed.specs.Sound.{Each}
use Rattle.limbo_allowed.specs.Choosing.{is_named}
use Rattle.limbo_allowed.proofs.Decided.{all_are_named}
use Rattle.limbo_members.specs.Tables.{AllNameIn}
use Rattle.limbo_members.proofs.Fielded.{viewed_more}

-- ---- of each of a list

pub each_both : {A : Type 0} (P : A → Type 0) (xs ys : List A) → Each P xs → Each P ys → Each P (xs ++ ys)
each_both P [] ys h k = k
each_both P (x ∷ xs) ys h k = (h.0, each_both P xs ys h.1 k)

pub each_has : {A : Type 0} (P : A → Type 0) (ts : List A) (t : A) → Each P ts → Has ts t → P t
each_has P [] t h k = absurd k
each_has P (u ∷ ts) t h k = elim k [ inl e ↦ subst P e h.0 | inr l ↦ each_has P ts t h.1 l ]

pub viewed_there : {A B : Type 0} (view : A → B) (xs : List A) (i : ℕ) (x : A) → x ≡ get_or xs i x → i < length xs
    → slice_get (map view xs) i ≡ Some (view x)
viewed_there {A} {B} view xs i x is l =
    slice_get-map view xs i
    ∙ ap (λ (o : Option A). option_map view o)
    (slice_get-get_or xs i x l ∙ ap (λ (z : A). let r : Option A = Some z in r) (sym is))

-- ---- types of fields

pub types_both : (fs gs : List Field) → types_of (fs ++ gs) ≡ types_of fs ++ types_of gs
types_both [] gs = refl
types_both (f ∷ fs) gs = ap (λ (z : List Ty). f.ty ∷ z) (types_both fs gs)

pub variant_types_both : (vs ws : List Variant) → variant_types (vs ++ ws) ≡ variant_types vs ++ variant_types ws
variant_types_both [] ws = refl
variant_types_both (v ∷ vs) ws =
    ap (λ (z : List Ty). types_of v.fields ++ z) (variant_types_both vs ws)
    ∙ sym (append_assoc (types_of v.fields) (variant_types vs) (variant_types ws))

pub variant_types_push : (vs : List Variant) (v : Variant) → variant_types (vs ++ v ∷ []) ≡ variant_types vs ++ types_of v.fields
variant_types_push vs v = variant_types_both vs (v ∷ []) ∙ ap (λ (z : List Ty). variant_types vs ++ z) (append-nil (types_of v.fields))

module _ (defs : List Def) (modules : ℕ) where
  pub fields_more : (fs : List code_field.Field) (i : ℕ) (f : code_field.Field) → i < length fs → f ≡ get_or fs i f
      → is_named defs modules (view_ty f.ty) ≡ true → AllNameIn defs modules (types_of (view_fields (take i fs)))
      → AllNameIn defs modules (types_of (view_fields (take (i + 1) fs)))
  fields_more fs i f l is so h =
      subst (λ (z : List Ty). AllNameIn defs modules z)
      (sym (types_both (view_fields (take i fs)) (view_field f ∷ [])) ∙ ap types_of (sym (viewed_more view_field fs i f l is)))
      (each_both (λ t. Names defs modules t) (types_of (view_fields (take i fs))) (view_ty f.ty ∷ []) h
      ((all_are_named defs modules (view_ty f.ty)).0 so, tt))

  pub variants_more : (vs : List code_variant.Variant) (i : ℕ) (v : code_variant.Variant) → i < length vs → v ≡ get_or vs i v
      → AllNameIn defs modules (types_of (view_variant v).fields) → AllNameIn defs modules (variant_types (map view_variant (take i vs)))
      → AllNameIn defs modules (variant_types (map view_variant (take (i + 1) vs)))
  variants_more vs i v l is so h =
      subst (λ (z : List Ty). AllNameIn defs modules z)
      (sym (variant_types_push (map view_variant (take i vs)) (view_variant v))
      ∙ ap variant_types (sym (viewed_more view_variant vs i v l is)))
      (each_both (λ t. Names defs modules t) (variant_types (map view_variant (take i vs))) (types_of (view_variant v).fields) h so)

-- ---- of the first adts, so many

pub below_or_last : (n i : ℕ) → n < i + 1 → (n < i) ⊎ (n ≡ i)
below_or_last n zero l = inr (omega arith)
below_or_last zero (suc i) l = inl (omega arith)
below_or_last (suc n) (suc i) l = elim (below_or_last n i (omega arith)) [ inl p ↦ inl (omega arith) | inr e ↦ inr (ap suc e) ]

abbrev pub NamedTo : List Def → (modules : ℕ) → List Def → ℕ → Type 0
NamedTo all modules defs i = (n : ℕ) (d : Def) → n < i → slice_get defs n ≡ Some d → AllNameIn all modules (field_types d)

pub defs_more : (modules : ℕ) (ds : List code_def.AdtDef) (i : ℕ) (d : code_def.AdtDef) → i < length ds → d ≡ get_or ds i d
    → AllNameIn (view_defs ds) modules (field_types (view_def d)) → NamedTo (view_defs ds) modules (view_defs ds) i
    → NamedTo (view_defs ds) modules (view_defs ds) (i + 1)
defs_more modules ds i d l is so h n e b at =
    elim (below_or_last n i b) [
      | inl p ↦ h n e p at
      | inr q ↦
          let s : Some (view_def d) ≡ Some e = sym (viewed_there view_def ds i d is l) ∙ ap (slice_get (view_defs ds)) (sym q) ∙ at in
          let t : view_def d ≡ e = cc in subst (λ (z : Def). AllNameIn (view_defs ds) modules (field_types z)) t so
    ]

pub defs_all : (modules : ℕ) (ds : List code_def.AdtDef) (i : ℕ) → length ds ≤ i → NamedTo (view_defs ds) modules (view_defs ds) i
    → AreNamed (view_defs ds) modules
defs_all modules ds i l h n d t at has =
    let w : n < length (view_defs ds) = slice_get_within (view_defs ds) n d at in
    let m : length (view_defs ds) ≡ length ds = length-map ds view_def in
    each_has (λ u. Names (view_defs ds) modules u) (field_types d) t (h n d (omega arith) at) has
