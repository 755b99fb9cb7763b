-- A region that was moved from a record of a chain to slots of the frame stands there.
use Rattle.std.proofs.Common.{◌≡◌, ◌⊎◌, ℕ, Bool, true, false, ◌+◌, ◌-◌, ◌*◌, ◌/◌, ◌<◌, ◌≤◌, List, Option, Some, refl, sym, ap, ◌∙◌, subst, arith, inl, inr}
use Rattle.std.specs.Prelude.{slice_get}
use Rattle.heap_model.specs.Heap.{Heap}
use Rattle.limbo_layout.specs.Adts.{Def}
use Rattle.limbo_layout.specs.Layout.{is_in}
use Rattle.limbo_types.specs.Types.{Ty}
use Rattle.core_code.specs.Slots as core
use Rattle.core_typing.specs.Held as held
use Rattle.dis_meaning.specs.Words.{Word, Plain, Refer, Address, Found}
use Rattle.dis_memory.specs.Blocks.{Block}
use Rattle.dis_memory.specs.Copies.{as_marked}
use Rattle.value_words.specs.Contents.{AreInRange}
use Rattle.value_words.specs.Facts.{Facts}
use Rattle.value_frames.specs.Frames.{number_place}
use Rattle.core_typing.specs.Held.{slots_in}
use Rattle.value_frames.specs.Standing.{RegionStands}
use Rattle.value_frames.specs.Slots.{ElseAsWas}
use Rattle.value_moves.proofs.Changing.{low_or_high}
use Rattle.value_moves.proofs.Copying.{Gives}
use Rattle.rows_turning.proofs.Copied.{AreCopied}
use Rattle.rows_turning.proofs.Regions.{region_moves}

module _ (defs : List Def) (types : List Ty) (slot : ℕ) where
  abbrev to : ℕ
  to = number_place defs types slot

  pub region_returns : (k : Facts) (x : Heap Block) (frame : ℕ) (inner words others : List Word) (hs : held.Region) (g : core.Region) (own : List ℕ)
      → AreCopied inner words others 8 to (2 * slots_in hs) → RegionStands defs k x frame inner 8 hs g own → RegionStands defs k x frame others to hs g own
  region_returns k x frame inner words others hs g own copied stands =
      region_moves defs k inner others x frame 8 to hs g own
      (λ u l.
      let a : (8 + 4 * u) / 4 ≡ 8 / 4 + u = omega arith in
      let b : (to + 4 * u) / 4 ≡ to / 4 + u = omega arith in
      record {
        whole = omega arith;
        whole_too = omega arith;
        same = ap (slice_get others) b ∙ copied.same u l ∙ ap (slice_get inner) (sym a);
      })
      stands

  -- all else is as it was
  pub copied_else : (inner words others : List Word) (n : ℕ) → AreCopied inner words others 8 to (2 * n) → ElseAsWas words others to (8 * n)
  copied_else inner words others n copied = record {
    each = λ w out. elim (low_or_high (4 * w) to) [
      | inl low ↦ copied.rest w (inl (omega (arith, low)))
      | inr high ↦ elim (low_or_high (4 * w) (to + 8 * n)) [
        | inl within ↦ absurd (out (high, within))
        | inr past ↦ copied.rest w (inr (omega (arith, past)))
      ]
    ];
  }

-- ---- each word is of the kind that it was

marked_refers : (b : Bool) (r : Option ℕ) → as_marked b (Refer r) ≡ Found (Refer r) → b ≡ true
marked_refers true r e = refl
marked_refers false r e = absurd cc

refers_marked : (w : Word) → as_marked true w ≡ Found w → (r : Option ℕ) × (w ≡ Refer r)
refers_marked (Plain z) e = absurd cc
refers_marked (Refer r) e = (r, refl)
refers_marked (Address at o) e = absurd cc

module _ (source target others : List Word) (from to count : ℕ) (offsets : List ℕ) (copied : AreCopied source target others from to count)
    (here : (j : ℕ) → j < count → Gives source (from / 4 + j) (as_marked (is_in (4 * j) offsets)))
    (gone : (j : ℕ) → j < count → Gives target (to / 4 + j) (as_marked (is_in (4 * j) offsets))) where
  within_or : (w : ℕ) → ((j : ℕ) × (j < count) × (w ≡ to / 4 + j)) ⊎ ((w < to / 4) ⊎ (to / 4 + count ≤ w))
  within_or w = elim (low_or_high w (to / 4)) [
    | inl low ↦ inr (inl low)
    | inr high ↦ elim (low_or_high w (to / 4 + count)) [
      | inl less ↦ inl (record_of w high less)
      | inr past ↦ inr (inr past)
    ]
  ]
    where
      record_of : (w : ℕ) → to / 4 ≤ w → w < to / 4 + count → (j : ℕ) × (j < count) × (w ≡ to / 4 + j)
      record_of w high less = (w - to / 4, omega (arith, high, less), omega (arith, high))

  same_kind : (a b : List Word) (u v j : ℕ) → Gives a u (as_marked (is_in (4 * j) offsets)) → Gives b v (as_marked (is_in (4 * j) offsets))
      → (r : Option ℕ) → slice_get a u ≡ Some (Refer r) → (s : Option ℕ) × (slice_get b v ≡ Some (Refer s))
  same_kind a b u v j g h r e =
      let is : g.0 ≡ Refer r = same_word g.0 (Refer r) (sym g.1 ∙ e) in
      let marked = marked_refers (is_in (4 * j) offsets) r (subst (λ (w : Word). as_marked (is_in (4 * j) offsets) w ≡ Found w) is g.2) in
      let s = refers_marked h.0 (subst (λ (c : Bool). as_marked c h.0 ≡ Found h.0) marked h.2) in
      (s.0, h.1 ∙ ap (λ (w : Word). Some w) s.1)
    where
      same_word : (v w : Word) → Some v ≡ Some w → v ≡ w
      same_word v w e = cc

  pub copied_refer : (w : ℕ) (r : Option ℕ) → slice_get others w ≡ Some (Refer r) → (s : Option ℕ) × (slice_get target w ≡ Some (Refer s))
  copied_refer w r e = elim (within_or w) [
    | inl (j, less, at) ↦
        let s = same_kind source target (from / 4 + j) (to / 4 + j) j (here j less) (gone j less) r
        (sym (copied.same j less) ∙ ap (slice_get others) (sym at) ∙ e) in
        (s.0, ap (slice_get target) at ∙ s.1)
    | inr out ↦ (r, sym (copied.rest w out) ∙ e)
  ]

  pub copied_referred : (w : ℕ) (s : Option ℕ) → slice_get target w ≡ Some (Refer s) → (r : Option ℕ) × (slice_get others w ≡ Some (Refer r))
  copied_referred w s e = elim (within_or w) [
    | inl (j, less, at) ↦
        let r = same_kind target source (to / 4 + j) (from / 4 + j) j (gone j less) (here j less) s (ap (slice_get target) (sym at) ∙ e) in
        (r.0, ap (slice_get others) at ∙ copied.same j less ∙ r.1)
    | inr out ↦ (s, copied.rest w out ∙ e)
  ]

  pub copied_ranged : AreInRange source → AreInRange target → AreInRange others
  copied_ranged ranged before w z e = elim (within_or w) [
    | inl (j, less, at) ↦ ranged (from / 4 + j) z (sym (copied.same j less) ∙ ap (slice_get others) (sym at) ∙ e)
    | inr out ↦ before w z (sym (copied.rest w out) ∙ e)
  ]
