use Rattle.std.proofs.Common.{◌≡◌, ℕ, ◌<◌, ◌≤◌, List, map, take, ap, subst, ◌∙◌, arith}
use Rattle.std.specs.Prelude.{slice_index_or}
use Rattle.std.specs.Int.{next_multiple_of}
use Rattle.limbo_types.specs.Types.{Ty, Nothing}
use Rattle.limbo_types.specs.View.{view_ty}
use Rattle.limbo_layout.specs.Layout.{Room, limit}
use Rattle.limbo_layout.specs.View.{view_defs}
use Rattle.value_frames.specs.Frames.{room_for, row_of}
use Rattle.value_rooms.specs.Cut.{cut}
use Rattle.value_rooms.proofs.PartsThere.{first_types, place_exact, place_large}
use Rattle.value_rooms.proofs.rooms.Rooms.within_row.Goals as goal

pub returns-then-at-gt-LIMIT-clause-too_large : goal.returns-then-at-gt-LIMIT-clause-too_large
returns-then-at-gt-LIMIT-clause-too_large c e =
    let defs = view_defs c.args.self.now in
    let ts = map view_ty c.args.types.now in
    let n = c.args.number in
    let a = (room_for defs (slice_index_or ts n Nothing)).align in
    let row = row_of defs (take n ts) in
    let before : c.in_ok-before.before ≡ cut row =
    c.in_ok-before.ensures ∙ ap (λ (us : List Ty). cut (row_of defs us)) (first_types n c.min.result c.args.types.now c.min.ensures) in
    let at : c.next_multiple_of-at.result ≡ next_multiple_of (cut row).size a =
    c.next_multiple_of-at.ensures.value
    ∙ ap (λ (s : ℕ). next_multiple_of s c.in_ok-align.align) (c.size.ensures.value ∙ ap (λ (r : Room). r.size) before)
    ∙ ap (λ (k : ℕ). next_multiple_of (cut row).size k) c.in_ok-align.ensures.align in
    place_large row a (subst (λ (k : ℕ). limit < k) at (omega arith))

pub returns-clause-at : goal.returns-clause-at
returns-clause-at c =
    let defs = view_defs c.args.self.now in
    let ts = map view_ty c.args.types.now in
    let n = c.args.number in
    let a = (room_for defs (slice_index_or ts n Nothing)).align in
    let row = row_of defs (take n ts) in
    let before : c.in_ok-before.before ≡ cut row =
    c.in_ok-before.ensures ∙ ap (λ (us : List Ty). cut (row_of defs us)) (first_types n c.min.result c.args.types.now c.min.ensures) in
    let at : c.next_multiple_of-at.result ≡ next_multiple_of (cut row).size a =
    c.next_multiple_of-at.ensures.value
    ∙ ap (λ (s : ℕ). next_multiple_of s c.in_ok-align.align) (c.size.ensures.value ∙ ap (λ (r : Room). r.size) before)
    ∙ ap (λ (k : ℕ). next_multiple_of (cut row).size k) c.in_ok-align.ensures.align in
    at ∙ place_exact row a (subst (λ (k : ℕ). k ≤ limit) at (omega arith))
