-- What adts are made of, and adts that take the place of others.
use Rattle.std.proofs.Common.{◌≡◌, ◌<◌, ◌≤◌, ◌+◌, ◌++◌, ◌∷◌, [], ℕ, zero, suc, List, Option, Some, None, length, map, take, get_or}
use Rattle.std.proofs.Common.{refl, sym, ap, ◌∙◌, append_assoc, arith}
use Rattle.std.specs.Prelude.{Result, Ok, Err, OnOk}
use Rattle.std.proofs.lemmas.List.{map-append, length-map}
use Rattle.limbo_types.specs.declared.ty.Ty as code_ty
use Rattle.limbo_types.specs.Types.{Ty, Int}
use Rattle.limbo_types.specs.View.{view_ty}
use Rattle.limbo_layout.specs.declared.def.Field as code_field
use Rattle.limbo_layout.specs.declared.def.Variant as code_variant
use Rattle.limbo_layout.specs.declared.def.AdtDef as code_def
use Rattle.limbo_layout.specs.Adts.{Def, types_of, variant_types, tag}
use Rattle.limbo_layout.specs.View.{view_field, view_fields, view_variant, view_def, view_defs}
use Rattle.limbo_refusals.specs.declared.fault.ExprFault.{ExprFault}
use Rattle.limbo_refusals.specs.Refusals as refusals
use Rattle.limbo_refusals.specs.Refusals.{Refusal, Refuses}
use Rattle.limbo_members.proofs.Fielded.{viewed_more}
use Rattle.limbo_members.proofs.Named.{types_both, variant_types_push}
use Rattle.limbo_members.proofs.Permitted.{pushed_types}

pub on_two : {T E : Type 0} (r : Result T E) {A B C : Type 0} → OnOk r A → OnOk r B → (A → B → C) → OnOk r C
on_two (Ok x) a b f = f a b
on_two (Err e) a b f = tt

abbrev ToldRefusal : Option Refusal → (Refusal → Type 0) → Type 0
ToldRefusal o P = elim o [ None ↦ Unit {0} | Some r ↦ P r ]

weaker : (o : Option Refusal) (P Q : Refusal → Type 0) → ((r : Refusal) → P r → Q r) → ToldRefusal o P → ToldRefusal o Q
weaker None P Q f h = tt
weaker (Some r) P Q f h = f r h

pub refuses_weaker : (f : ExprFault) (P Q : Refusal → Type 0) → ((r : Refusal) → P r → Q r) → Refuses f P → Refuses f Q
refuses_weaker f P Q h told_of = weaker (refusals.told f) P Q h told_of

-- ---- parts

pub field_types_more : (old now later : List code_ty.Ty) (fs : List code_field.Field) (i : ℕ) (f : code_field.Field) (u : code_ty.Ty)
    → later ≡ now ++ u ∷ [] → view_ty u ≡ view_ty f.ty → i < length fs → f ≡ get_or fs i f
    → map view_ty now ≡ map view_ty old ++ types_of (view_fields (take i fs))
    → map view_ty later ≡ map view_ty old ++ types_of (view_fields (take (i + 1) fs))
field_types_more old now later fs i f u p q l is h =
    pushed_types now later u (view_ty f.ty) p q
    ∙ ap (λ (z : List Ty). z ++ view_ty f.ty ∷ []) h
    ∙ append_assoc (map view_ty old) (types_of (view_fields (take i fs))) (view_ty f.ty ∷ [])
    ∙ ap (λ (z : List Ty). map view_ty old ++ z)
    (sym (types_both (view_fields (take i fs)) (view_field f ∷ [])) ∙ ap types_of (sym (viewed_more view_field fs i f l is)))

pub variant_types_more : (old now later : List Ty) (vs : List code_variant.Variant) (i : ℕ) (v : code_variant.Variant)
    → later ≡ now ++ types_of (view_variant v).fields → i < length vs → v ≡ get_or vs i v
    → now ≡ old ++ variant_types (map view_variant (take i vs)) → later ≡ old ++ variant_types (map view_variant (take (i + 1) vs))
variant_types_more old now later vs i v p l is h =
    p ∙ ap (λ (z : List Ty). z ++ types_of (view_variant v).fields) h
    ∙ append_assoc old (variant_types (map view_variant (take i vs))) (types_of (view_variant v).fields)
    ∙ ap (λ (z : List Ty). old ++ z)
    (sym (variant_types_push (map view_variant (take i vs)) (view_variant v))
    ∙ ap variant_types (sym (viewed_more view_variant vs i v l is)))

pub tag_some : (ps : List code_variant.Variant) → 1 ≤ length ps → tag (map view_variant ps) ≡ Int ∷ []
tag_some [] l = absurd (omega arith)
tag_some (p ∷ ps) l = refl

-- ---- other adts

front_viewed : (n : ℕ) (ds : List code_def.AdtDef) → view_defs (take n ds) ≡ take n (view_defs ds)
front_viewed zero ds = refl
front_viewed (suc n) [] = refl
front_viewed (suc n) (d ∷ ds) = ap (λ (z : List Def). view_def d ∷ z) (front_viewed n ds)

pub made_of : (first : ℕ) (copies front all more : List code_def.AdtDef) (old : List Def) → front ≡ take first copies → all ≡ front ++ more
    → view_defs copies ≡ old → view_defs all ≡ take first old ++ view_defs more
made_of first copies front all more old p q h =
    ap view_defs q ∙ map-append view_def front more
    ∙ ap (λ (z : List Def). z ++ view_defs more) (ap view_defs p ∙ front_viewed first copies ∙ ap (take first) h)

pub length_defs : (ds : List code_def.AdtDef) → length ds ≡ length (view_defs ds)
length_defs ds = sym (length-map ds view_def)
