-- The table of the code has what the definitions give, as far as it is told.
use Rattle.std.proofs.Common.{◌≡◌, ℕ, zero, suc, ◌≤◌, List, [], ◌∷◌, map, length, refl, ap, ◌∙◌, arith}
use Rattle.std.specs.Prelude.{slice_index_or}
use Rattle.limbo_types.specs.Types as ty
use Rattle.limbo_types.specs.Types.{Ty, Tys}
use Rattle.limbo_types.specs.View.{tys_of}
use Rattle.limbo_layout.specs.Adts.{Def, parts}
use Rattle.limbo_layout.specs.Layout as layout
use Rattle.limbo_layout.specs.Layout.{Room, limit, nothing}
use Rattle.limbo_layout.specs.Laying.{room, all_rooms, rooms_of, room_at}
use Rattle.limbo_layout.proofs.Rooms.{align_grows, behind-nothing}
use Rattle.limbo_meaning.specs.Operations.{rooms_after}
use Rattle.value_frames.specs.Frames.{room_for, row_of}
use Rattle.value_rooms.specs.Cut.{all_behind, all_taken, behind, cut, rounded, taken}
use Rattle.value_rooms.specs.Tables.{table_after, table_of}
use Rattle.value_rooms.proofs.Cutting.{cut_behind, cut_rounded}

-- ---- types, by tables that tell the same of each adt

module _ (table : List Room) (rooms : List Room) where
  abbrev Agree : Type 0
  Agree = (n : ℕ) → slice_index_or table n nothing ≡ cut (room_at rooms n)

  mutual
    pub of_type : Agree → (t : Ty) → taken table t ≡ cut (room rooms t)
    of_type h (ty.Tuple ts) = ap rounded (of_types h ts nothing) ∙ cut_rounded (layout.all_behind nothing (all_rooms rooms ts))
    of_type h (ty.Adt n) = h n
    of_type h ty.Byte = refl
    of_type h ty.Int = refl
    of_type h ty.Big = refl
    of_type h ty.Nothing = refl
    of_type h _ = refl

    pub of_types : Agree → (ts : Tys) (w : Room) → all_behind (cut w) (all_taken table ts) ≡ cut (layout.all_behind w (all_rooms rooms ts))
    of_types h ty.NoTys w = refl
    of_types h (ty.MoreTys t ts) w =
        ap (λ (x : Room). all_behind (behind (cut w) x) (all_taken table ts)) (of_type h t)
        ∙ ap (λ (x : Room). all_behind x (all_taken table ts)) (cut_behind w (room rooms t))
        ∙ of_types h ts (layout.behind w (room rooms t))

pub rooms-row : (rooms : List Room) (ts : List Ty) → all_rooms rooms (tys_of ts) ≡ rooms_of rooms ts
rooms-row rooms [] = refl
rooms-row rooms (t ∷ ts) = ap (λ (rs : List Room). room rooms t ∷ rs) (rooms-row rooms ts)

-- ---- rounds

mapped : (f : List Ty → Room) (g : Def → Room) → ((d : Def) → f (parts d) ≡ cut (g d)) → (defs : List Def) (n : ℕ)
    → slice_index_or (map f (map parts defs)) n nothing ≡ cut (room_at (map g defs) n)
mapped f g h [] n = refl
mapped f g h (d ∷ defs) zero = h d
mapped f g h (d ∷ defs) (suc n) = mapped f g h defs n

at_first : (defs : List Def) (n : ℕ) → slice_index_or [] n nothing ≡ cut (room_at (map (λ d. nothing) defs) n)
at_first [] n = refl
at_first (d ∷ defs) zero = refl
at_first (d ∷ defs) (suc n) = at_first defs n

after_rounds : (defs : List Def) (k : ℕ) → Agree (table_after (map parts defs) k) (rooms_after defs k)
after_rounds defs zero n = at_first defs n
after_rounds defs (suc k) n =
    let table = table_after (map parts defs) k in
    let rooms = rooms_after defs k in
    mapped (λ ts. taken table (ty.Tuple (tys_of ts))) (λ d. layout.in_order (rooms_of rooms (parts d)))
    (λ d. of_type table rooms (after_rounds defs k) (ty.Tuple (tys_of (parts d)))
    ∙ ap (λ (rs : List Room). cut (layout.in_order rs)) (rooms-row rooms (parts d)))
    defs n

pub count-parts : (defs : List Def) → length (map parts defs) ≡ length defs
count-parts [] = refl
count-parts (d ∷ defs) = ap suc (count-parts defs)

pub agrees : (defs : List Def) → Agree (table_of (map parts defs)) (rooms_after defs (length defs))
agrees defs n =
    ap (λ (k : ℕ). slice_index_or (table_after (map parts defs) k) n nothing) (count-parts defs) ∙ after_rounds defs (length defs) n

-- ---- what the table of the code has

pub cut_type : (defs : List Def) (t : Ty) → taken (table_of (map parts defs)) t ≡ cut (room_for defs t)
cut_type defs t = of_type (table_of (map parts defs)) (rooms_after defs (length defs)) (agrees defs) t

pub cut_row : (defs : List Def) (ts : List Ty) → all_behind nothing (all_taken (table_of (map parts defs)) (tys_of ts)) ≡ cut (row_of defs ts)
cut_row defs ts =
    of_types (table_of (map parts defs)) (rooms_after defs (length defs)) (agrees defs) (tys_of ts) nothing
    ∙ ap (λ (rs : List Room). cut (layout.all_behind nothing rs)) (rooms-row (rooms_after defs (length defs)) ts)

-- ---- a room alone

adt_aligned : (defs : List Def) (k n : ℕ) → 1 ≤ (room_at (rooms_after defs k) n).align
adt_aligned defs zero n = go defs n
  where
    go : (ds : List Def) (n : ℕ) → 1 ≤ (room_at (map (λ (d : Def). nothing) ds) n).align
    go [] n = omega arith
    go (d ∷ ds) zero = omega arith
    go (d ∷ ds) (suc n) = go ds n
adt_aligned defs (suc k) n = go defs n
  where
    go : (ds : List Def) (n : ℕ) → 1 ≤ (room_at (map (λ (d : Def). layout.in_order (rooms_of (rooms_after defs k) (parts d))) ds) n).align
    go [] n = omega arith
    go (d ∷ ds) zero = align_grows nothing (rooms_of (rooms_after defs k) (parts d))
    go (d ∷ ds) (suc n) = go ds n

pub aligned : (defs : List Def) (t : Ty) → 1 ≤ (room_for defs t).align
aligned defs (ty.Tuple ts) = align_grows nothing (all_rooms (rooms_after defs (length defs)) ts)
aligned defs (ty.Adt n) = adt_aligned defs (length defs) n
aligned defs ty.Byte = omega arith
aligned defs ty.Int = omega arith
aligned defs ty.Big = omega arith
aligned defs ty.Nothing = omega arith
aligned defs _ = omega arith

-- what is told of a type, put behind nothing
pub alone : (defs : List Def) (t : Ty) → behind nothing (taken (table_of (map parts defs)) t) ≡ cut (room_for defs t)
alone defs t =
    ap (λ (r : Room). behind nothing r) (cut_type defs t)
    ∙ cut_behind nothing (room_for defs t)
    ∙ ap cut (behind-nothing (room_for defs t) (aligned defs t))
