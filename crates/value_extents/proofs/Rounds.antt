-- The table of the code has what the definitions give, round by round.
use Rattle.std.proofs.Common.{◌≡◌, ℕ, zero, suc, ◌+◌, ◌*◌, ◌≤◌, inl, inr, min, max, List, [], ◌∷◌, ◌++◌, map, length, take}
use Rattle.std.proofs.Common.{Option, Some, None, refl, sym, ap, ◌∙◌, arith, length-append}
use Rattle.std.proofs.lemmas.Bool.Decides.{leb_tells, nat_tests}
use Rattle.std.specs.Prelude.{slice_get, slice_index_or, nat_lt}
use Rattle.std.specs.Int.{next_multiple_of}
use Rattle.limbo_types.specs.Types as ty
use Rattle.limbo_types.specs.Types.{Ty, Tys}
use Rattle.limbo_types.specs.View.{tys_of}
use Rattle.limbo_layout.specs.Adts.{Def, parts}
use Rattle.limbo_layout.specs.Layout as layout
use Rattle.limbo_layout.specs.Layout.{Room}
use Rattle.limbo_layout.specs.Laying.{room, all_rooms, rooms_of, room_at}
use Rattle.limbo_meaning.specs.Values.{Value, Values, NoValues, nothing, formed, all_formed, by_def, adt_formed, references, all_references}
use Rattle.limbo_meaning.specs.Operations.{rooms_after, size_of}
use Rattle.limbo_meaning.specs.Evaluation.{is_some}
use Rattle.core_code.specs.Terms.{count_of, count_all}
use Rattle.value_extents.specs.Extent.{Extent, most, told, empty, behind, all_behind, rounded, in_order, extent, all_extents, extents_of}
use Rattle.value_extents.specs.Extent.{table_after, table_of}

-- ---- parts in order

make : ℕ → ℕ → ℕ → Extent
make s a c = record { size = s; align = a; count = c }

-- what is cut off from one part is cut off from the whole
ends : (w p a : ℕ) → min (next_multiple_of (min w most) a + min p most) most ≡ min (next_multiple_of w a + p) most
ends w p a = elim (leb_tells w most) [
  | inl h ↦
      let e : min w most ≡ w = omega arith in
      ap (λ (n : ℕ). min (next_multiple_of n a + min p most) most) e ∙ omega arith
  | inr h ↦
      let e : min w most ≡ most = omega arith in
      ap (λ (n : ℕ). min (next_multiple_of n a + min p most) most) e ∙ omega arith
]

pub told_behind : (w p : Room) (c d : ℕ) → behind (told w c) (told p d) ≡ told (layout.behind w p) (c + d)
unfolding make
told_behind w p c d =
    let e = ends w.size p.size p.align in
    let f : min (min c most + min d most) most ≡ min (c + d) most = omega arith in
    ap (λ (s : ℕ). make s (max w.align p.align) (min (min c most + min d most) most)) e
    ∙ ap (λ (k : ℕ). make (min (next_multiple_of w.size p.align + p.size) most) (max w.align p.align) k) f

told_rounded : (w : Room) (c : ℕ) → rounded (told w c) ≡ told (layout.rounded w) c
unfolding make
told_rounded w c =
    let a : min (next_multiple_of (min w.size most) w.align) most ≡ min (next_multiple_of (min w.size most) w.align + min 0 most) most =
    omega arith in
    let b : min (next_multiple_of w.size w.align + 0) most ≡ min (next_multiple_of w.size w.align) most = omega arith in
    ap (λ (s : ℕ). make s w.align (min c most)) (a ∙ ends w.size 0 w.align ∙ b)

-- ---- types, by tables that tell the same of each adt

module _ (table : List Extent) (rooms : List Room) (adt : ℕ → Value → Value) where
  abbrev references_of : Ty → ℕ
  references_of t = length (references (formed adt t nothing))

  abbrev references_among : Tys → ℕ
  references_among ts = length (all_references (all_formed adt ts NoValues))

  abbrev Agree : Type 0
  Agree = (n : ℕ) → slice_index_or table n empty ≡ told (room_at rooms n) (length (references (adt n nothing)))

  among_more : (t : Ty) (ts : Tys) → references_among (ty.MoreTys t ts) ≡ references_of t + references_among ts
  among_more t ts = length-append (references (formed adt t nothing)) (all_references (all_formed adt ts NoValues))

  mutual
    pub of_type : Agree → (t : Ty) → extent table t ≡ told (room rooms t) (references_of t)
    of_type h (ty.Tuple ts) =
        let whole = layout.all_behind layout.nothing (all_rooms rooms ts) in
        let e : 0 + references_among ts ≡ references_among ts = omega arith in
        ap rounded (of_types h ts layout.nothing 0 ∙ ap (λ (k : ℕ). told whole k) e) ∙ told_rounded whole (references_among ts)
    of_type h (ty.Adt n) = h n
    of_type h ty.Byte = refl
    of_type h ty.Int = refl
    of_type h ty.Big = refl
    of_type h ty.Chars = refl
    of_type h ty.Nothing = refl
    of_type h _ = refl

    pub of_types : Agree → (ts : Tys) (w : Room) (c : ℕ)
        → all_behind (told w c) (all_extents table ts) ≡ told (layout.all_behind w (all_rooms rooms ts)) (c + references_among ts)
    of_types h ty.NoTys w c =
        let e : c ≡ c + references_among ty.NoTys = omega arith in ap (λ (k : ℕ). told w k) e
    of_types h (ty.MoreTys t ts) w c =
        let r = room rooms t in
        let d = references_of t in
        let e : c + d + references_among ts ≡ c + references_among (ty.MoreTys t ts) = let m = among_more t ts in omega arith in
        ap (λ (x : Extent). all_behind (behind (told w c) x) (all_extents table ts)) (of_type h t)
        ∙ ap (λ (x : Extent). all_behind x (all_extents table ts)) (told_behind w r c d)
        ∙ of_types h ts (layout.behind w r) (c + d)
        ∙ ap (λ (k : ℕ). told (layout.all_behind (layout.behind w r) (all_rooms rooms ts)) k) e

  -- Each reference takes 4 bytes.
  abbrev AreBelow : Type 0
  AreBelow = (n : ℕ) → 4 * length (references (adt n nothing)) ≤ (room_at rooms n).size

  mutual
    pub below_type : AreBelow → (t : Ty) → 4 * references_of t ≤ (room rooms t).size
    below_type h (ty.Tuple ts) = let a = below_types h ts layout.nothing 0 (omega arith) in omega arith
    below_type h (ty.Adt n) = h n
    below_type h ty.Byte = omega arith
    below_type h ty.Int = omega arith
    below_type h ty.Big = omega arith
    below_type h ty.Chars = omega arith
    below_type h ty.Nothing = omega arith
    below_type h _ = omega arith

    pub below_types : AreBelow → (ts : Tys) (w : Room) (c : ℕ) → 4 * c ≤ w.size
        → 4 * (c + references_among ts) ≤ (layout.all_behind w (all_rooms rooms ts)).size
    below_types h ty.NoTys w c l = omega arith
    below_types h (ty.MoreTys t ts) w c l =
        let r = room rooms t in
        let m = among_more t ts in
        let a = below_type h t in
        let b = below_types h ts (layout.behind w r) (c + references_of t) (omega arith) in
        omega arith

-- types in a row, and as the parts of a tuple
pub extents-row : (table : List Extent) (ts : List Ty) → extents_of table ts ≡ all_extents table (tys_of ts)
extents-row table [] = refl
extents-row table (t ∷ ts) = ap (λ (es : List Extent). extent table t ∷ es) (extents-row table ts)

pub rooms-row : (rooms : List Room) (ts : List Ty) → rooms_of rooms ts ≡ all_rooms rooms (tys_of ts)
rooms-row rooms [] = refl
rooms-row rooms (t ∷ ts) = ap (λ (rs : List Room). room rooms t ∷ rs) (rooms-row rooms ts)

-- ---- rounds

-- how many references an adt's value has, by those of its parts
abbrev counted : (Tys → Values → Values) → Option Def → ℕ
counted all None = 0
counted all (Some d) = length (all_references (all (tys_of (parts d)) NoValues))

by_parts : (one : Ty → Value → Value) (all : Tys → Values → Values) (d : Option Def)
    → length (references (by_def one all d nothing)) ≡ counted all d
by_parts one all None = refl
by_parts one all (Some d) = refl

-- what is told of a definition is told of it in a table
mapped : (f : Def → Extent) (g : Def → Room) (all : Tys → Values → Values)
    → ((d : Def) → f d ≡ told (g d) (counted all (Some d))) → (defs : List Def) (n : ℕ)
    → slice_index_or (map f defs) n empty ≡ told (room_at (map g defs) n) (counted all (slice_get defs n))
mapped f g all h [] n = refl
mapped f g all h (d ∷ defs) zero = h d
mapped f g all h (d ∷ defs) (suc n) = mapped f g all h defs n

at_first : (defs : List Def) (n : ℕ) → slice_index_or [] n empty ≡ told (room_at (map (λ d. layout.nothing) defs) n) 0
at_first [] n = refl
at_first (d ∷ defs) zero = refl
at_first (d ∷ defs) (suc n) = at_first defs n

after_rounds : (defs : List Def) (k : ℕ) → Agree (table_after defs k) (rooms_after defs k) (adt_formed defs k)
after_rounds defs zero n = at_first defs n
after_rounds defs (suc k) n =
    let table = table_after defs k in
    let rooms = rooms_after defs k in
    let adt = adt_formed defs k in
    mapped (λ d. in_order (extents_of table (parts d))) (λ d. layout.in_order (rooms_of rooms (parts d))) (all_formed adt)
    (λ d. ap in_order (extents-row table (parts d)) ∙ of_type table rooms adt (after_rounds defs k) (ty.Tuple (tys_of (parts d)))
    ∙ ap (λ (rs : List Room). told (layout.in_order rs) (counted (all_formed adt) (Some d))) (sym (rooms-row rooms (parts d))))
    defs n
    ∙ ap (λ (c : ℕ). told (room_at (rooms_after defs (suc k)) n) c) (sym (by_parts (formed adt) (all_formed adt) (slice_get defs n)))

mapped_below : (g : Def → Room) (all : Tys → Values → Values) → ((d : Def) → 4 * counted all (Some d) ≤ (g d).size)
    → (defs : List Def) (n : ℕ) → 4 * counted all (slice_get defs n) ≤ (room_at (map g defs) n).size
mapped_below g all h [] n = omega arith
mapped_below g all h (d ∷ defs) zero = h d
mapped_below g all h (d ∷ defs) (suc n) = mapped_below g all h defs n

below_rounds : (defs : List Def) (k : ℕ) → AreBelow (table_after defs k) (rooms_after defs k) (adt_formed defs k)
below_rounds defs zero n = omega arith
below_rounds defs (suc k) n =
    let table = table_after defs k in
    let rooms = rooms_after defs k in
    let adt = adt_formed defs k in
    let a = mapped_below (λ d. layout.in_order (rooms_of rooms (parts d))) (all_formed adt)
    (λ d. let b = below_type table rooms adt (below_rounds defs k) (ty.Tuple (tys_of (parts d))) in
    let e = ap (λ (rs : List Room). (layout.in_order rs).size) (rooms-row rooms (parts d)) in
    omega arith) defs n in
    let c = by_parts (formed adt) (all_formed adt) (slice_get defs n) in
    omega arith

-- ---- what the table of the code has

pub told_type : (defs : List Def) (t : Ty) → extent (table_of defs) t ≡ told (room (rooms_after defs (length defs)) t) (count_of defs t)
told_type defs t =
    of_type (table_of defs) (rooms_after defs (length defs)) (adt_formed defs (length defs)) (after_rounds defs (length defs)) t

pub references_small : (defs : List Def) (t : Ty) → 4 * count_of defs t ≤ size_of defs t
references_small defs t =
    below_type (table_of defs) (rooms_after defs (length defs)) (adt_formed defs (length defs)) (below_rounds defs (length defs)) t

pub count-row : (defs : List Def) (ts : List Ty)
    → length (all_references (all_formed (adt_formed defs (length defs)) (tys_of ts) NoValues)) ≡ count_all defs ts
count-row defs [] = refl
count-row defs (t ∷ ts) =
    length-append (references (formed (adt_formed defs (length defs)) t nothing))
    (all_references (all_formed (adt_formed defs (length defs)) (tys_of ts) NoValues))
    ∙ ap (λ (k : ℕ). count_of defs t + k) (count-row defs ts)

pub told_row : (defs : List Def) (ts : List Ty)
    → all_behind empty (extents_of (table_of defs) ts)
    ≡ told (layout.all_behind layout.nothing (rooms_of (rooms_after defs (length defs)) ts)) (count_all defs ts)
told_row defs ts =
    let rooms = rooms_after defs (length defs) in
    let among = references_among (table_of defs) rooms (adt_formed defs (length defs)) (tys_of ts) in
    ap (λ (es : List Extent). all_behind empty es) (extents-row (table_of defs) ts)
    ∙ of_types (table_of defs) rooms (adt_formed defs (length defs)) (after_rounds defs (length defs)) (tys_of ts) layout.nothing 0
    ∙ ap (λ (rs : List Room). told (layout.all_behind layout.nothing rs) (0 + among)) (sym (rooms-row rooms ts))
    ∙ ap (λ (k : ℕ). told (layout.all_behind layout.nothing (rooms_of rooms ts)) k) (omega (arith, count-row defs ts))

-- ---- first parts

-- What stands behind the first of some parts and of those that follow.
pub behind-types : (table : List Extent) (w : Extent) (ts us : List Ty)
    → all_behind w (extents_of table (ts ++ us)) ≡ all_behind (all_behind w (extents_of table ts)) (extents_of table us)
behind-types table w [] us = refl
behind-types table w (t ∷ ts) us = behind-types table (behind w (extent table t)) ts us

pub count-append : (defs : List Def) (ts us : List Ty) → count_all defs (ts ++ us) ≡ count_all defs ts + count_all defs us
count-append defs [] us = omega arith
count-append defs (t ∷ ts) us = let e = count-append defs ts us in omega arith

pub count-next : (defs : List Def) (ts : List Ty) (n : ℕ) (d : Ty) → count_of defs d ≡ 0
    → count_all defs (take (suc n) ts) ≡ count_all defs (take n ts) + count_of defs (slice_index_or ts n d)
count-next defs [] zero d e = omega arith
count-next defs [] (suc n) d e = omega arith
count-next defs (t ∷ ts) zero d e = omega arith
count-next defs (t ∷ ts) (suc n) d e = let a = count-next defs ts n d e in omega arith

-- ---- a type as a whole

pub any : (xs : List (Option ℕ)) → nat_lt 0 (min (length xs) most) ≡ is_some xs
any [] = refl
any (x ∷ xs) = grind (arith, nat_tests)
