-- The parts of types, as the code has them.
use Rattle.std.proofs.Common.{◌≡◌, ℕ, zero, suc, ◌+◌, ◌<◌, ◌≤◌, inl, inr, min, List, [], ◌∷◌, Vec, Global, map, take, drop, length, get_or, refl, sym, ap, ◌∙◌, arith}
use Rattle.std.specs.Prelude.{slice_get, slice_index_or}
use Rattle.std.specs.Int.{next_multiple_of}
use Rattle.std.proofs.lemmas.Bool.Decides.{leb_tells}
use Rattle.std.proofs.lemmas.List.{at_drop_more, take_min, take-map}
use Rattle.limbo_types.specs.declared.ty.Ty as code_ty
use Rattle.limbo_types.specs.declared.ty.Ty.TheVariants as make
use Rattle.limbo_types.specs.Types as ty
use Rattle.limbo_types.specs.Types.{Ty, Tys}
use Rattle.limbo_types.specs.View.{tys_of, view_ty}
use Rattle.limbo_types.proofs.Forms.{HasForm, has_form}
use Rattle.limbo_layout.specs.Adts.{Def, listed, parts}
use Rattle.limbo_layout.specs.Layout.{Room, limit}
use Rattle.core_code.specs.Terms.{part_types, parts_there}
use Rattle.value_frames.specs.Frames.{within, within_row}
use Rattle.value_rooms.specs.Cut.{cut}
use Rattle.value_rooms.specs.Tables.{view_parts}
use Rattle.value_rooms.proofs.Cutting.{cut_small, lost_size}

pub listed-row : (ts : List Ty) → listed (tys_of ts) ≡ ts
listed-row [] = refl
listed-row (t ∷ ts) = ap (λ (us : List Ty). t ∷ us) (listed-row ts)

-- ---- the parts of an adt, by its number

row_at : (all : List (Vec code_ty.Ty Global)) (n : ℕ) (ts : Vec code_ty.Ty Global) → n < length all → ts ≡ get_or all n ts
    → map view_ty ts.items ≡ slice_index_or (view_parts all) n []
row_at [] n ts l e = absurd (omega arith)
row_at (us ∷ all) zero ts l e = ap (λ (v : Vec code_ty.Ty Global). map view_ty v.items) e
row_at (us ∷ all) (suc n) ts l e = row_at all n ts (omega arith) e

row_past : (all : List (Vec code_ty.Ty Global)) (n : ℕ) → length all ≤ n → [] ≡ slice_index_or (view_parts all) n []
row_past [] n l = refl
row_past (us ∷ all) zero l = absurd (omega arith)
row_past (us ∷ all) (suc n) l = row_past all n (omega arith)

parts_at : (all defs : List Def) (n : ℕ) → slice_index_or (map parts defs) n [] ≡ parts_there all (slice_get defs n)
parts_at all [] n = refl
parts_at all (d ∷ defs) zero = refl
parts_at all (d ∷ defs) (suc n) = parts_at all defs n

pub adt_parts : (defs : List Def) (all : List (Vec code_ty.Ty Global)) (n : ℕ) (ts : Vec code_ty.Ty Global) → view_parts all ≡ map parts defs
    → n < length all → ts ≡ get_or all n ts → map view_ty ts.items ≡ part_types defs (ty.Adt n)
adt_parts defs all n ts e l f =
    row_at all n ts l f ∙ ap (λ (tss : List (List Ty)). slice_index_or tss n []) e ∙ parts_at defs defs n

pub adt_none : (defs : List Def) (all : List (Vec code_ty.Ty Global)) (n : ℕ) → view_parts all ≡ map parts defs → length all ≤ n
    → [] ≡ part_types defs (ty.Adt n)
adt_none defs all n e l =
    row_past all n l ∙ ap (λ (tss : List (List Ty)). slice_index_or tss n []) e ∙ parts_at defs defs n

pub no_parts : (defs : List Def) (t : code_ty.Ty) → ((ts : Vec code_ty.Ty Global) → t ≡ make.Tuple ts → ⊥) → ((n : ℕ) → t ≡ make.Adt n → ⊥)
    → [] ≡ part_types defs (view_ty t)
no_parts defs t tuple adt = go (view_ty t) (has_form t)
  where
    go : (v : Ty) → HasForm t v → [] ≡ part_types defs v
    go (ty.Tuple ts) h = absurd (tuple h.0 h.1)
    go (ty.Adt n) h = absurd (adt h.0 h.1)
    go _ h = refl

-- ---- a type in a row

pub type_at : (ts : List code_ty.Ty) (n : ℕ) (t : code_ty.Ty) → n < length ts → t ≡ get_or ts n t
    → view_ty t ≡ slice_index_or (map view_ty ts) n ty.Nothing
type_at [] n t l e = absurd (omega arith)
type_at (u ∷ ts) zero t l e = ap view_ty e
type_at (u ∷ ts) (suc n) t l e = type_at ts n t (omega arith) e

pub type_past : (ts : List code_ty.Ty) (n : ℕ) → length ts ≤ n → ty.Nothing ≡ slice_index_or (map view_ty ts) n ty.Nothing
type_past [] n l = refl
type_past (u ∷ ts) zero l = absurd (omega arith)
type_past (u ∷ ts) (suc n) l = type_past ts n (omega arith)

pub first_types : (n k : ℕ) (ts : List code_ty.Ty) → k ≡ min n (length ts) → map view_ty (take k ts) ≡ take n (map view_ty ts)
first_types n k ts e =
    ap (λ (j : ℕ). map view_ty (take j ts)) e ∙ ap (λ (us : List code_ty.Ty). map view_ty us) (take_min n ts) ∙ sym (take-map view_ty n ts)

-- ---- places behind what is told only as far as it may go

pub place_exact : (r : Room) (a : ℕ) → next_multiple_of (cut r).size a ≤ limit → next_multiple_of (cut r).size a ≡ next_multiple_of r.size a
place_exact r a h = elim (leb_tells r.size limit) [
  | inl k ↦ ap (λ (z : Room). next_multiple_of z.size a) (cut_small r k.1)
  | inr k ↦ absurd (let l = lost_size r k.1 in omega arith)
]

pub place_large : (r : Room) (a : ℕ) → limit < next_multiple_of (cut r).size a → limit < next_multiple_of r.size a
place_large r a h = elim (leb_tells r.size limit) [
  | inl k ↦ let e = ap (λ (z : Room). next_multiple_of z.size a) (cut_small r k.1) in omega arith
  | inr k ↦ omega arith
]

-- ---- a way on

pub within_next : (defs : List Def) (t : Ty) (ns : List ℕ) (i n : ℕ) → i < length ns → n ≡ get_or ns i n
    → within defs t (drop i ns)
    ≡ within_row defs (part_types defs t) n + within defs (slice_index_or (part_types defs t) n ty.Nothing) (drop (i + 1) ns)
within_next defs t ns i n l e =
    at_drop_more (λ ms. within defs t ms) ns i n (omega arith) ∙ ap (λ (m : ℕ). within defs t (m ∷ drop (i + 1) ns)) (sym e)
