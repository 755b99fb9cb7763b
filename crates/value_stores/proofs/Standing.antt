-- Parts of a value stand where they lie, and a value stands with another part where that is written.
use Rattle.std.proofs.Common.{◌≡◌, ℕ, zero, suc, ◌+◌, ◌<◌, ◌≤◌, ◌⊎◌, ◌%◌, List, [], ◌∷◌, length, Some, refl, sym, ap, ◌∙◌, subst}
use Rattle.std.proofs.Common.{arith, inl, inr}
use Rattle.std.specs.Prelude.{slice_get, slice_set, slice_index_or}
use Rattle.limbo_types.specs.Types as ty
use Rattle.limbo_types.specs.Types.{Ty}
use Rattle.limbo_types.specs.View.{tys_of}
use Rattle.limbo_layout.specs.Adts.{Def}
use Rattle.limbo_layout.specs.Layout as layout
use Rattle.limbo_layout.specs.Layout.{Room, Laid, AllLaid, nothing, all_behind, in_order}
use Rattle.limbo_layout.specs.Laying.{rooms_of}
use Rattle.limbo_layout.proofs.Rooms.{rounded_grows}
use Rattle.limbo_values.specs.declared.number.Kind.{Kind}
use Rattle.limbo_values.specs.declared.number.Kind.TheVariants as kind
use Rattle.limbo_typed.specs.Fitting.{of_kind}
use Rattle.limbo_meaning.specs.Values.{Value, Values, MoreValues, Parts, row, parts_of}
use Rattle.limbo_meaning.specs.Places.{value_part, put_part, with_part}
use Rattle.core_code.specs.Rooms.{rooms_in}
use Rattle.core_code.specs.Terms.{part_types}
use Rattle.dis_meaning.specs.Words.{Word}
use Rattle.value_words.specs.Contents.{content, AreInRange}
use Rattle.value_words.specs.Facts.{Facts}
use Rattle.value_words.specs.Stands.{IsReference, Stands, a_number, a_text, a_name, an_array, no_words, a_tuple, an_adt, AllStand}
use Rattle.value_words.proofs.Parts as parts
use Rattle.value_frames.specs.Frames.{room_for, row_of, within_row, within, type_within}
use Rattle.value_stores.specs.Paths.{HasPath, room_within}
use Rattle.value_stores.proofs.Rooms.{in_row, listed_back, place_of, part_laid, part_ends, opened, room_there, place_there}
use Rattle.value_stores.proofs.Lying.{suits_there}

pub put_row : (n : ℕ) (x : Value) (vs : List Value) → put_part n x (row vs) ≡ row (slice_set vs n x)
put_row zero x [] = refl
put_row (suc n) x [] = refl
put_row zero x (v ∷ vs) = refl
put_row (suc n) x (v ∷ vs) = ap (λ (us : Values). MoreValues v us) (put_row n x vs)

pub part_is : (vs : List Value) (n : ℕ) (v : Value) → slice_get vs n ≡ Some v → value_part n (row vs) ≡ v
part_is [] n v e = absurd cc
part_is (u ∷ vs) zero v e = cc
part_is (u ∷ vs) (suc n) v e = part_is vs n v e

module _ (defs : List Def) where
  no_number_parts : (k : Kind) (n : ℕ) (u : Ty) → slice_get (part_types defs (of_kind k)) n ≡ Some u → ⊥
  no_number_parts kind.Byte n u f = cc
  no_number_parts kind.Int n u f = cc
  no_number_parts kind.Big n u f = cc

  no_reference_parts : (t : Ty) (n : ℕ) (u : Ty) → IsReference t → slice_get (part_types defs t) n ≡ Some u → ⊥
  no_reference_parts ty.Nil n u h f = cc
  no_reference_parts (ty.ListOf t) n u h f = cc
  no_reference_parts (ty.ChanOf t) n u h f = cc
  no_reference_parts (ty.RefAdt m) n u h f = cc
  no_reference_parts (ty.RefPick m k) n u h f = cc
  no_reference_parts (ty.Module m) n u h f = cc
  no_reference_parts _ n u h f = h

  module _ (t : Ty) (laid : Laid defs t (room_for defs t)) (n : ℕ) (there : n < length (part_types defs t)) where
    abbrev ts : List Ty
    ts = part_types defs t

    abbrev u : Ty
    u = slice_index_or (part_types defs t) n ty.Nothing

    is_type : slice_get (part_types defs t) n ≡ Some u
    is_type = in_row (part_types defs t) n ty.Nothing there

    pub all_laid : AllLaid defs ts (rooms_of (rooms_in defs) ts)
    all_laid = (opened defs t (room_for defs t) n u laid is_type).0

    pub room_is : room_for defs t ≡ in_order (rooms_of (rooms_in defs) ts)
    room_is = (opened defs t (room_for defs t) n u laid is_type).1

    pub step_laid : Laid defs u (room_for defs u)
    step_laid = part_laid defs ts (rooms_of (rooms_in defs) ts) n u (room_for defs u) all_laid is_type (room_there defs ts n u is_type)

    pub step_suits : (at : ℕ) → at % (room_for defs t).align ≡ 0 → (at + within_row defs ts n) % (room_for defs u).align ≡ 0
    step_suits at a =
        subst (λ (o : ℕ). (at + o) % (room_for defs u).align ≡ 0) (place_there defs ts n u is_type)
        (suits_there defs at ts (rooms_of (rooms_in defs) ts) n u (room_for defs u) all_laid is_type (room_there defs ts n u is_type)
        (subst (λ (r : Room). at % r.align ≡ 0) room_is a))

    pub step_ends : within_row defs ts n + (room_for defs u).size ≤ (room_for defs t).size
    step_ends =
        let a = part_ends defs nothing (rooms_of (rooms_in defs) ts) n (room_for defs u) (room_there defs ts n u is_type) in
        let b = place_there defs ts n u is_type in
        let c = rounded_grows (all_behind nothing (rooms_of (rooms_in defs) ts)) in
        let d = ap (λ (r : Room). r.size) room_is in
        omega (arith, a, b, c, d)

  -- ---- where a path leads

  pub path_laid : (t : Ty) (part : List ℕ) → HasPath defs t part → Laid defs t (room_for defs t)
      → Laid defs (type_within defs t part) (room_within defs t part)
  path_laid t [] p l = l
  path_laid t (n ∷ ns) p l = path_laid (slice_index_or (part_types defs t) n ty.Nothing) ns p.1 (step_laid t l n p.0)

  pub path_ends : (t : Ty) (part : List ℕ) → HasPath defs t part → Laid defs t (room_for defs t)
      → within defs t part + (room_within defs t part).size ≤ (room_for defs t).size
  path_ends t [] p l = omega arith
  path_ends t (n ∷ ns) p l =
      let a = path_ends (slice_index_or (part_types defs t) n ty.Nothing) ns p.1 (step_laid t l n p.0) in
      let b = step_ends t l n p.0 in
      omega (arith, a, b)

  module _ (k : Facts) where
    -- what has parts as its type has them as a value
    parts_are : (words : List Word) (at : ℕ) (t : Ty) (v : Value) (n : ℕ) (u : Ty) → Stands defs k words at t v
        → slice_get (part_types defs t) n ≡ Some u → (vs : List Value) × (v ≡ Parts (row vs))
    parts_are words _ _ _ n u (a_number at j z e i) f = absurd (no_number_parts j n u f)
    parts_are words _ _ _ n u (a_text at r s e h) f = absurd cc
    parts_are words _ _ _ n u (a_name at t r m i e h) f = absurd (no_reference_parts t n u i f)
    parts_are words _ _ _ n u (an_array at t r p e h) f = absurd cc
    parts_are words _ _ _ n u (no_words at) f = absurd cc
    parts_are words _ _ _ n u (a_tuple at ts rs vs l all) f = (vs, refl)
    parts_are words _ _ _ n u (an_adt at m d rs vs e l all) f = (vs, refl)

    -- ---- one of a row

    pub row_part : (words : List Word) (at : ℕ) (ts : List Ty) (vs : List Value) (n : ℕ) (t : Ty)
        → AllStand defs k words at nothing ts (rooms_of (rooms_in defs) ts) vs → slice_get ts n ≡ Some t
        → Stands defs k words (at + within_row defs ts n) t (value_part n (row vs))
    row_part words at ts vs n t all e =
        subst (λ (o : ℕ). Stands defs k words (at + o) t (value_part n (row vs))) (place_there defs ts n t e)
        (parts.part_among defs k words at nothing ts (rooms_of (rooms_in defs) ts) vs n t (room_for defs t) all e
        (room_there defs ts n t e))

    pub step_stands : (t : Ty) → Laid defs t (room_for defs t) → (n : ℕ) → n < length (part_types defs t) → (words : List Word) (at : ℕ)
        (v : Value) → Stands defs k words at t v
        → Stands defs k words (at + within_row defs (part_types defs t) n) (slice_index_or (part_types defs t) n ty.Nothing)
        (value_part n (parts_of v))
    step_stands t laid n there words at v h =
        let u = slice_index_or (part_types defs t) n ty.Nothing in
        let e = in_row (part_types defs t) n ty.Nothing there in
        let vs = parts_are words at t v n u h e in
        subst (λ (x : Value). Stands defs k words (at + within_row defs (part_types defs t) n) u (value_part n (parts_of x))) (sym vs.1)
        (row_part words at (part_types defs t) vs.0 n u
        (parts.parts_stand defs k words at t v h vs.0 vs.1 (rooms_of (rooms_in defs) (part_types defs t)) (all_laid t laid n there)) e)

    -- ---- what is written

    -- All bytes but so many from one on are as they were.
    abbrev pub Else : (target others : List Word) (to size : ℕ) → Type 0
    Else target others to size = (b : ℕ) → (b < to) ⊎ (to + size ≤ b) → content others b ≡ content target b

    module _ (target others : List Word) (ranges : AreInRange target) (in_range : AreInRange others) where
      one_written : (at : ℕ) (t : Ty) (whole : Room) (v w : Value) (rs : List Room) (n : ℕ) (u : Ty) (r : Room) (o size : ℕ)
          → Stands defs k target at t v → Laid defs t whole → at % whole.align ≡ 0 → AllLaid defs (part_types defs t) rs
          → slice_get (part_types defs t) n ≡ Some u → slice_get rs n ≡ Some r → Else target others (at + o) size
          → place_of defs nothing rs n r ≤ o → o + size ≤ place_of defs nothing rs n r + r.size
          → Stands defs k others (at + place_of defs nothing rs n r) u w → Stands defs k others at t (with_part (n ∷ []) w v)
      one_written at t whole v w rs n u r o size h l a ls e f else low high s =
          parts.replaced defs k target others ranges in_range at t whole v w rs n u r h l a ls e f
          (λ p i q j. else (at + p + q) (inl (omega (arith, i, j, low))))
          (λ p i i' q j. else (at + p + q) (inr (omega (arith, i, high)))) s

      pub path_written : (at : ℕ) (t : Ty) (part : List ℕ) (v x : Value) → HasPath defs t part → Laid defs t (room_for defs t)
          → at % (room_for defs t).align ≡ 0 → Else target others (at + within defs t part) (room_within defs t part).size
          → Stands defs k target at t v → Stands defs k others (at + within defs t part) (type_within defs t part) x
          → Stands defs k others at t (with_part part x v)
      path_written at t [] v x p l a else h s =
          subst (λ (o : ℕ). Stands defs k others o t x) (let e : at + 0 ≡ at = omega arith in e) s
      path_written at t (n ∷ ns) v x p l a else h s =
          let ts = part_types defs t in
          let u = slice_index_or ts n ty.Nothing in
          let e = in_row ts n ty.Nothing p.0 in
          let here = at + within_row defs ts n in
          let o = within defs u ns in
          let sum : at + (within_row defs ts n + o) ≡ here + o = omega arith in
          let inner =
          path_written here u ns (value_part n (parts_of v)) x p.1 (step_laid t l n p.0) (step_suits t l n p.0 at a)
          (subst (λ (b : ℕ). Else target others b (room_within defs t (n ∷ ns)).size) sum else) (step_stands t l n p.0 target at v h)
          (subst (λ (b : ℕ). Stands defs k others b (type_within defs t (n ∷ ns)) x) sum s) in
          let same = place_there defs ts n u e in
          let ends = path_ends u ns p.1 (step_laid t l n p.0) in
          one_written at t (room_for defs t) v (with_part ns x (value_part n (parts_of v))) (rooms_of (rooms_in defs) ts) n u
          (room_for defs u) (within_row defs ts n + o) (room_within defs t (n ∷ ns)).size h l a (all_laid t l n p.0) e
          (room_there defs ts n u e) else (omega (arith, same)) (omega (arith, same, ends))
          (subst (λ (b : ℕ). Stands defs k others (at + b) u (with_part ns x (value_part n (parts_of v)))) (sym same) inner)

      -- one of a row, as a part of a tuple of these types
      pub row_written : (at : ℕ) (ts : List Ty) (vs : List Value) (n : ℕ) (t : Ty) (x : Value) (o size : ℕ)
          → AllLaid defs ts (rooms_of (rooms_in defs) ts) → at % (row_of defs ts).align ≡ 0 → slice_get ts n ≡ Some t
          → Else target others (at + o) size → within_row defs ts n ≤ o → o + size ≤ within_row defs ts n + (room_for defs t).size
          → AllStand defs k target at nothing ts (rooms_of (rooms_in defs) ts) vs
          → Stands defs k others (at + within_row defs ts n) t x
          → AllStand defs k others at nothing ts (rooms_of (rooms_in defs) ts) (slice_set vs n x)
      row_written at ts vs n t x o size l a e else low high all s =
          let whole = ty.Tuple (tys_of ts) in
          let back = listed_back ts in
          let rs = rooms_of (rooms_in defs) ts in
          let l' = subst (λ (us : List Ty). AllLaid defs us rs) (sym back) l in
          let same = place_there defs ts n t e in
          let h : Stands defs k target at whole (Parts (row vs)) =
          a_tuple at (tys_of ts) rs vs l' (subst (λ (us : List Ty). AllStand defs k target at nothing us rs vs) (sym back) all) in
          let after = one_written at whole (in_order rs) (Parts (row vs)) x rs n t (room_for defs t) o size h
          (layout.of_tuple (tys_of ts) rs l') a l' (ap (λ (us : List Ty). slice_get us n) back ∙ e) (room_there defs ts n t e) else
          (omega (arith, same, low)) (omega (arith, same, high))
          (subst (λ (b : ℕ). Stands defs k others (at + b) t x) (sym same) s) in
          subst (λ (us : List Ty). AllStand defs k others at nothing us rs (slice_set vs n x)) back
          (parts.parts_stand defs k others at whole (Parts (put_part n x (row vs))) after (slice_set vs n x) (ap Parts (put_row n x vs))
          rs l')
