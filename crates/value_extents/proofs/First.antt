-- The first parts of a type.
use Rattle.std.proofs.Common.{◌≡◌, ℕ, zero, suc, ◌+◌, ◌-◌, ◌<◌, ◌≤◌, List, [], ◌∷◌, ◌++◌, take, drop, map}
use Rattle.std.proofs.Common.{length, get_or, refl, sym, ap, ◌∙◌, arith}
use Rattle.std.specs.Prelude.{slice_get}
use Rattle.std.proofs.lemmas.List.{at_drop_more}
use Rattle.limbo_types.specs.Types as ty
use Rattle.limbo_types.specs.Types.{Ty}
use Rattle.limbo_types.specs.View.{view_ty, view_tys}
use Rattle.limbo_types.specs.declared.ty.Ty as code_ty
use Rattle.limbo_layout.specs.Adts.{Def, listed, parts, types_of, variant_types}
use Rattle.limbo_layout.specs.View.{view_def, view_defs, view_field, view_fields, view_variant}
use Rattle.limbo_layout.specs.declared.def.AdtDef.{AdtDef}
use Rattle.limbo_layout.specs.declared.def.Field as code_field
use Rattle.limbo_layout.specs.declared.def.Variant as code_variant
use Rattle.core_code.specs.Terms.{part_types, parts_there}
use Rattle.value_extents.specs.Extent.{Extent, all_behind, all_extents, extent, extents_of}
use Rattle.value_extents.proofs.Rounds.{behind-types}

pub take-both : {A : Type 0} (n : ℕ) (xs ys : List A) → take n (xs ++ ys) ≡ take n xs ++ take (n - length xs) ys
take-both zero [] ys = refl
take-both zero (x ∷ xs) ys = let e : 0 ≡ 0 - length (x ∷ xs) = omega arith in ap (λ k. take k ys) e
take-both (suc n) [] ys = let e : suc n ≡ suc n - 0 = omega arith in ap (λ k. take k ys) e
take-both (suc n) (x ∷ xs) ys =
    let e : n - length xs ≡ suc n - length (x ∷ xs) = omega arith in
    ap (λ zs. x ∷ zs) (take-both n xs ys) ∙ ap (λ k. x ∷ take n xs ++ take k ys) e

pub behind-take : (table : List Extent) (w : Extent) (n : ℕ) (ts us : List Ty)
    → all_behind w (extents_of table (take n (ts ++ us)))
    ≡ all_behind (all_behind w (extents_of table (take n ts))) (extents_of table (take (n - length ts) us))
behind-take table w n ts us =
    ap (λ (vs : List Ty). all_behind w (extents_of table vs)) (take-both n ts us)
    ∙ behind-types table w (take n ts) (take (n - length ts) us)

pub types-take : (n : ℕ) (fs : List code_field.Field) → types_of (view_fields (take n fs)) ≡ take n (types_of (view_fields fs))
types-take zero [] = refl
types-take (suc n) [] = refl
types-take zero (f ∷ fs) = refl
types-take (suc n) (f ∷ fs) = ap (λ (ts : List Ty). (view_field f).ty ∷ ts) (types-take n fs)

pub types-length : (fs : List code_field.Field) → length (types_of (view_fields fs)) ≡ length fs
types-length [] = refl
types-length (f ∷ fs) = ap suc (types-length fs)

-- the fields of the next variant, and then those of the others
pub variant-next : (table : List Extent) (w : Extent) (picks : List code_variant.Variant) (i : ℕ) (v : code_variant.Variant)
    → i < length picks → v ≡ get_or picks i v → (n : ℕ)
    → all_behind w (extents_of table (take n (variant_types (map view_variant (drop i picks)))))
    ≡ all_behind (all_behind w (extents_of table (take n (types_of (view_fields v.fields.items)))))
    (extents_of table (take (n - length v.fields.items) (variant_types (map view_variant (drop (i + 1) picks)))))
variant-next table w picks i v l e n =
    let rest = drop (i + 1) picks in
    at_drop_more (λ vs. all_behind w (extents_of table (take n (variant_types (map view_variant vs))))) picks i v (omega arith)
    ∙ ap (λ (x : code_variant.Variant). all_behind w (extents_of table (take n (variant_types (map view_variant (x ∷ rest)))))) (sym e)
    ∙ behind-take table w n (types_of (view_fields v.fields.items)) (variant_types (map view_variant rest))
    ∙ ap (λ (k : ℕ). all_behind (all_behind w (extents_of table (take n (types_of (view_fields v.fields.items)))))
    (extents_of table (take (n - k) (variant_types (map view_variant rest))))) (types-length v.fields.items)

pub variant-whole : (table : List Extent) (w : Extent) (picks : List code_variant.Variant) (i : ℕ) (v : code_variant.Variant)
    → i < length picks → v ≡ get_or picks i v
    → all_behind w (extents_of table (variant_types (map view_variant (drop i picks))))
    ≡ all_behind (all_behind w (extents_of table (types_of (view_fields v.fields.items))))
    (extents_of table (variant_types (map view_variant (drop (i + 1) picks))))
variant-whole table w picks i v l e =
    let rest = drop (i + 1) picks in
    at_drop_more (λ vs. all_behind w (extents_of table (variant_types (map view_variant vs)))) picks i v (omega arith)
    ∙ ap (λ (x : code_variant.Variant). all_behind w (extents_of table (variant_types (map view_variant (x ∷ rest))))) (sym e)
    ∙ behind-types table w (types_of (view_fields v.fields.items)) (variant_types (map view_variant rest))

-- ---- the parts of an adt in a list of definitions

there : (all : List Def) (defs : List AdtDef) (n : ℕ) (d : AdtDef) → n < length defs → d ≡ get_or defs n d
    → parts (view_def d) ≡ parts_there all (slice_get (view_defs defs) n)
there all [] n d l e = absurd (omega arith)
there all (c ∷ defs) zero d l e = ap (λ (x : AdtDef). parts (view_def x)) e
there all (c ∷ defs) (suc n) d l e = there all defs n d (omega arith) e

pub parts-found : (defs : List AdtDef) (n : ℕ) (d : AdtDef) → n < length defs → d ≡ get_or defs n d
    → parts (view_def d) ≡ part_types (view_defs defs) (ty.Adt n)
parts-found defs n d l e = there (view_defs defs) defs n d l e

none_there : (all : List Def) (defs : List AdtDef) (n : ℕ) → length defs ≤ n → [] ≡ parts_there all (slice_get (view_defs defs) n)
none_there all [] n l = refl
none_there all (c ∷ defs) zero l = absurd (omega arith)
none_there all (c ∷ defs) (suc n) l = none_there all defs n (omega arith)

pub parts-none : (defs : List AdtDef) (n : ℕ) → length defs ≤ n → [] ≡ part_types (view_defs defs) (ty.Adt n)
parts-none defs n l = none_there (view_defs defs) defs n l

-- the first types of a tuple
pub tuple-take : (table : List Extent) (n : ℕ) (ts : List code_ty.Ty)
    → all_extents table (view_tys (take n ts)) ≡ extents_of table (take n (listed (view_tys ts)))
tuple-take table zero [] = refl
tuple-take table (suc n) [] = refl
tuple-take table zero (t ∷ ts) = refl
tuple-take table (suc n) (t ∷ ts) = ap (λ es. extent table (view_ty t) ∷ es) (tuple-take table n ts)
