-- Adts fit where what is told of each does.
use Rattle.std.proofs.Common.{◌≡◌, ℕ, zero, suc, ◌<◌, ◌≤◌, inl, inr, List, [], ◌∷◌, map, length, refl, ap, ◌∙◌, arith}
use Rattle.std.specs.Prelude.{slice_index_or}
use Rattle.std.proofs.lemmas.Bool.Decides.{leb_tells}
use Rattle.limbo_types.specs.Types as ty
use Rattle.limbo_layout.specs.Adts.{Def, parts}
use Rattle.limbo_layout.specs.Layout.{Room, limit, nothing}
use Rattle.value_frames.specs.Frames.{room_for}
use Rattle.value_rooms.specs.Cut.{cut}
use Rattle.value_rooms.specs.Tables.{AdtsFit, table_of}
use Rattle.value_rooms.proofs.Cutting.{cut_small, small_cut}
use Rattle.value_rooms.proofs.Rounds.{agrees}

past : (rooms : List Room) (n : ℕ) → length rooms ≤ n → slice_index_or rooms n nothing ≡ nothing
past [] n l = refl
past (r ∷ rs) zero l = absurd (omega arith)
past (r ∷ rs) (suc n) l = past rs n (omega arith)

pub all_fit : (defs : List Def) (table : List Room) → table ≡ table_of (map parts defs)
    → ((n : ℕ) → n < length table → (slice_index_or table n nothing).size ≤ limit) → AdtsFit defs
all_fit defs table e h n =
    let at : slice_index_or table n nothing ≡ cut (room_for defs (ty.Adt n)) =
    ap (λ (rs : List Room). slice_index_or rs n nothing) e ∙ agrees defs n in
    let s : (slice_index_or table n nothing).size ≤ limit = elim (leb_tells (length table) n) [
      | inl l ↦ let f : (slice_index_or table n nothing).size ≡ 0 = ap (λ (r : Room). r.size) (past table n l.1) in omega arith
      | inr l ↦ h n l.1
    ] in
    let f = ap (λ (r : Room). r.size) at in
    small_cut (room_for defs (ty.Adt n)) (omega arith)

pub none_larger : (defs : List Def) (table : List Room) → table ≡ table_of (map parts defs) → (n : ℕ)
    → limit < (slice_index_or table n nothing).size → AdtsFit defs → ⊥
none_larger defs table e n l fit =
    let at : slice_index_or table n nothing ≡ room_for defs (ty.Adt n) =
    ap (λ (rs : List Room). slice_index_or rs n nothing) e ∙ agrees defs n ∙ cut_small (room_for defs (ty.Adt n)) (fit n) in
    let f = ap (λ (r : Room). r.size) at in
    let g = fit n in
    omega arith
