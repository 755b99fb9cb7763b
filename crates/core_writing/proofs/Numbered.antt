-- Numbers in a row, and the fields of variants.
use Rattle.std.proofs.Common.{◌≡◌, ℕ, zero, suc, ◌+◌, ◌<◌, List, [], ◌∷◌, ◌++◌, map, take, drop, length, get_or, refl, sym, ap, ◌∙◌}
use Rattle.std.proofs.Common.{◌-◌, arith, add-zero, add-one, append_assoc}
use Rattle.std.proofs.Common.{Option, Some, None}
use Rattle.std.proofs.Math.Seq.{drop-cons}
use Rattle.std.proofs.lemmas.List.{map-append, length-append}
use Rattle.limbo_layout.specs.Adts.{Def, listed, types_of, variant_types}
use Rattle.limbo_layout.specs.View.{view_fields, view_variant}
use Rattle.limbo_layout.specs.declared.def.Field as code_field
use Rattle.limbo_layout.specs.declared.def.Variant as code_variant
use Rattle.limbo_types.specs.Types.{Ty, Tuple}
use Rattle.limbo_types.specs.View.{tys_of}
use Rattle.limbo_typed.specs.declared.operation.Operation.{Operation}
use Rattle.limbo_typed.specs.declared.operation.Operation.TheVariants as operation
use Rattle.core_parts.specs.declared.drops.Moved as code_moved
use Rattle.core_parts.specs.Nodes.{view_moved}
use Rattle.core_writing.specs.Gathering.{move_into, tuple_of, whole_of}
use Rattle.core_code.specs.Terms.{Moved, numbers_from, moves_into, adt_numbers, part_numbers, variant_of}

numbers_more : (defs : List Def) (from n : ℕ) → numbers_from defs from (suc n) ≡ numbers_from defs from n ++ (from + n) ∷ []
numbers_more defs from zero = ap (λ k. k ∷ []) (sym (add-zero from))
numbers_more defs from (suc n) =
    let e : suc from + n ≡ from + suc n = omega arith in
    ap (λ ns. from ∷ ns) (numbers_more defs (suc from) n ∙ ap (λ k. numbers_from defs (suc from) n ++ k ∷ []) e)

pub numbers_on : (defs : List Def) (from n : ℕ) (base ns next : List ℕ) → ns ≡ base ++ numbers_from defs from n
    → next ≡ ns ++ (from + n) ∷ [] → next ≡ base ++ numbers_from defs from (n + 1)
numbers_on defs from n base ns next e f =
    f ∙ ap (λ ks. ks ++ (from + n) ∷ []) e ∙ append_assoc base (numbers_from defs from n) ((from + n) ∷ [])
    ∙ ap (λ ks. base ++ ks) (sym (ap (λ k. numbers_from defs from k) (add-one n) ∙ numbers_more defs from n))

-- ---- variants

types_length : (fs : List code_field.Field) → length (types_of (view_fields fs)) ≡ length fs
types_length [] = refl
types_length (f ∷ fs) = ap (λ n. suc n) (types_length fs)

pub fields_on : (vs : List code_variant.Variant) (i : ℕ) (v : code_variant.Variant) (sum len next : ℕ) → i < length vs
    → v ≡ get_or vs i v → len ≡ length v.fields.items → next ≡ sum + len
    → next + length (variant_types (map view_variant (drop (i + 1) vs))) ≡ sum + length (variant_types (map view_variant (drop i vs)))
fields_on vs i v sum len next below at el en =
    let rest = variant_types (map view_variant (drop (i + 1) vs)) in
    let e = ap (λ us. length (variant_types (map view_variant us))) (drop-cons vs i v below ∙ ap (λ x. x ∷ drop (suc i) vs) (sym at)
    ∙ ap (λ k. v ∷ drop k vs) (sym (add-one i))) in
    let f = length-append (types_of (view_fields v.fields.items)) rest in
    let g = types_length v.fields.items in
    omega (arith, e, f, g, el, en)

pub map_take : (n : ℕ) (vs : List code_variant.Variant) → map view_variant (take n vs) ≡ take n (map view_variant vs)
map_take zero vs = refl
map_take (suc n) [] = refl
map_take (suc n) (v ∷ vs) = ap (λ us. view_variant v ∷ us) (map_take n vs)

pub fields_length : (fs : List code_field.Field) → length (view_fields fs) ≡ length fs
fields_length [] = refl
fields_length (f ∷ fs) = ap (λ n. suc n) (fields_length fs)

pub no_adt : (defs : List Def) (o : Operation) (k : ℕ) → ((n : ℕ) (v : Option ℕ) → o ≡ operation.Adt n v → ⊥)
    → part_numbers defs o k ≡ numbers_from defs 0 k
no_adt defs (operation.Adt n v) k h = absurd (h n v refl)
no_adt defs _ k h = refl

pub no_variant : (defs : List Def) (o : Operation) → ((n : ℕ) (v : Option ℕ) → o ≡ operation.Adt n v → ⊥) → None ≡ variant_of defs o
no_variant defs (operation.Adt n v) h = absurd (h n v refl)
no_variant defs _ h = refl

-- ---- operands that move

pub moves_on : (defs : List Def) (ts : List Ty) (into : ℕ) (ns : List ℕ) (i : ℕ) (n s : ℕ) (rest more : List ℕ)
    (ms next : List code_moved.Moved) (m : code_moved.Moved) → i < length ns → n ≡ get_or ns i n → rest ≡ s ∷ more
    → next ≡ ms ++ m ∷ [] → view_moved m ≡ move_into defs ts into n s
    → map view_moved next ++ moves_into defs ts into (drop (i + 1) ns) more ≡ map view_moved ms ++ moves_into defs ts into (drop i ns) rest
moves_on defs ts into ns i n s rest more ms next m below at er en em =
    let d = drop-cons ns i n below ∙ ap (λ x. x ∷ drop (suc i) ns) (sym at) ∙ ap (λ k. n ∷ drop k ns) (sym (add-one i)) in
    let left = moves_into defs ts into (drop (i + 1) ns) more in
    rw (en, er, d) (ap (λ xs. xs ++ left) (map-append view_moved ms (m ∷ [])) ∙ append_assoc (map view_moved ms) (view_moved m ∷ []) left
    ∙ ap (λ (v : Moved). map view_moved ms ++ v ∷ left) em)

pub moves_none : (defs : List Def) (ts : List Ty) (into : ℕ) (ns : List ℕ) → moves_into defs ts into ns [] ≡ []
moves_none defs ts into [] = refl
moves_none defs ts into (n ∷ ns) = refl

pub variant_is : (defs : List Def) (d : Def) (v k common from rest : ℕ) (one two : List ℕ) → one ≡ numbers_from defs 1 common
    → two ≡ one ++ numbers_from defs from rest → common ≡ length d.fields
    → from ≡ (1 + length d.fields) + length (variant_types (take v d.picks)) → rest ≡ k - common
    → two ≡ adt_numbers defs (Some d) (Some v) k
variant_is defs d v k common from rest one two eo et ec ef er = rw (et, eo, ef, er, ec) refl

-- ---- operands that are a tuple

listed_tys : (ts : List Ty) → listed (tys_of ts) ≡ ts
listed_tys [] = refl
listed_tys (t ∷ ts) = ap (λ us. t ∷ us) (listed_tys ts)

pub tuple_is : (defs : List Def) (from : ℕ) (ts : List Ty) (into : ℕ) (ss ns : List ℕ) (t : Ty) → t ≡ Tuple (tys_of ts)
    → ns ≡ numbers_from defs from (length ss) → whole_of defs t None ns into ss ≡ tuple_of defs from ts into ss
tuple_is defs from ts into ss ns t et en = rw (et, en, listed_tys ts) refl
