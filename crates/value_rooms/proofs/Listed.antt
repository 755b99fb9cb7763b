-- The parts of adts, one after the other.
use Rattle.std.proofs.Common.{◌≡◌, ℕ, suc, Bool, true, false, ◌==◌, rules, tests, ◌+◌, ◌<◌, List, [], ◌∷◌, ◌++◌, map, length, take, get_or, refl, sym, ap, ◌∙◌, append_assoc, append-nil}
use Rattle.std.proofs.lemmas.List.{take_more}
use Rattle.limbo_types.specs.Types as ty
use Rattle.limbo_types.specs.Types.{Ty}
use Rattle.limbo_types.specs.View.{view_ty}
use Rattle.limbo_layout.specs.Adts.{tag, types_of, variant_types}
use Rattle.limbo_layout.specs.View.{view_field, view_fields, view_variant}
use Rattle.limbo_layout.specs.declared.def.Field as code_field
use Rattle.limbo_layout.specs.declared.def.Variant as code_variant

types-append : (fs gs : List code_field.Field) → types_of (view_fields (fs ++ gs)) ≡ types_of (view_fields fs) ++ types_of (view_fields gs)
types-append [] gs = refl
types-append (f ∷ fs) gs = ap (λ (ts : List Ty). (view_field f).ty ∷ ts) (types-append fs gs)

pub types-more : (fs : List code_field.Field) (i : ℕ) (f : code_field.Field) → i < length fs → f ≡ get_or fs i f
    → types_of (view_fields (take i fs)) ++ (view_ty f.ty ∷ []) ≡ types_of (view_fields (take (i + 1) fs))
types-more fs i f l e =
    ap (λ (x : code_field.Field). types_of (view_fields (take i fs)) ++ (view_ty x.ty ∷ [])) e
    ∙ sym (types-append (take i fs) (get_or fs i f ∷ []))
    ∙ ap (λ (gs : List code_field.Field). types_of (view_fields gs)) (sym (take_more fs i f l))

variants-append : (vs us : List code_variant.Variant)
    → variant_types (map view_variant (vs ++ us)) ≡ variant_types (map view_variant vs) ++ variant_types (map view_variant us)
variants-append [] us = refl
variants-append (v ∷ vs) us =
    ap (λ (ts : List Ty). types_of (view_fields v.fields.items) ++ ts) (variants-append vs us)
    ∙ sym (append_assoc (types_of (view_fields v.fields.items)) (variant_types (map view_variant vs)) (variant_types (map view_variant us)))

pub variants-more : (vs : List code_variant.Variant) (i : ℕ) (v : code_variant.Variant) → i < length vs → v ≡ get_or vs i v
    → variant_types (map view_variant (take i vs)) ++ types_of (view_fields v.fields.items) ≡ variant_types (map view_variant (take (i + 1) vs))
variants-more vs i v l e =
    ap (λ (ts : List Ty). variant_types (map view_variant (take i vs)) ++ ts) (sym (append-nil (types_of (view_fields v.fields.items))))
    ∙ ap (λ (x : code_variant.Variant). variant_types (map view_variant (take i vs)) ++ variant_types (map view_variant (x ∷ []))) e
    ∙ sym (variants-append (take i vs) (get_or vs i v ∷ []))
    ∙ ap (λ (us : List code_variant.Variant). variant_types (map view_variant us)) (sym (take_more vs i v l))

pub no_tag : (vs : List code_variant.Variant) (b : Bool) → b ≡ (length vs == 0) → b ≡ true → [] ≡ tag (map view_variant vs)
no_tag [] b e f = refl
no_tag (v ∷ vs) b e f = absurd (let g : true ≡ (suc (length vs) == 0) = sym f ∙ e in search (rules, tests))

pub one_tag : (vs : List code_variant.Variant) (b : Bool) → b ≡ (length vs == 0) → b ≡ false → ty.Int ∷ [] ≡ tag (map view_variant vs)
one_tag [] b e f = absurd (let g : false ≡ (0 == 0) = sym f ∙ e in search (rules, tests))
one_tag (v ∷ vs) b e f = refl
