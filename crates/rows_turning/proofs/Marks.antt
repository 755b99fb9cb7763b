-- The words of a region of slots are moved by its type as they are, from the words of a frame and from those of a record of a chain.
use Rattle.std.proofs.Common.{◌≡◌, ◌⊎◌, ℕ, Bool, true, false, zero, suc, ◌+◌, ◌*◌, ◌/◌, ◌%◌, ◌<◌, ◌≤◌, List, [], ◌∷◌, ◌++◌, map, Option, Some, refl, sym, ap, ◌∙◌, subst, arith, inl, inr}
use Rattle.std.specs.Prelude.{slice_get}
use Rattle.std.specs.List.{range_with_len}
use Rattle.limbo_types.specs.Types.{Ty}
use Rattle.limbo_layout.specs.Adts.{Def, Has}
use Rattle.limbo_layout.specs.Laying.{rooms_of}
use Rattle.core_code.specs.Rooms.{rooms_in}
use Rattle.limbo_layout.specs.Layout.{AllLaid, is_in}
use Rattle.dis_meaning.specs.Words.{Word, Plain, Refer, Address, Found, plain}
use Rattle.dis_memory.specs.Copies.{as_marked}
use Rattle.value_words.proofs.Blank.{mapped, has_map}
use Rattle.value_words.proofs.Rows.{is_there}
use Rattle.value_heaps.proofs.Marks.{among, is_among}
use Rattle.value_frames.specs.Frames.{linkage_bytes, row_of, number_place, reference_place, frame_bytes, frame_references}
use Rattle.value_frames.specs.Frames.{region_references, turn_bytes, turn_references}
use Rattle.value_frames.specs.Types.{AreOf}
use Rattle.value_moves.proofs.Copying.{Gives}
use Rattle.value_follows.proofs.Putting.{number_word}

has_range : (from count d : ℕ) → d < count → Has (range_with_len from count) (from + d)
has_range from zero d l = absurd (omega (arith, l))
has_range from (suc n) zero l = inl (omega arith)
has_range from (suc n) (suc d) l = inr (subst (Has (range_with_len (from + 1) n)) (omega arith) (has_range (from + 1) n d (omega (arith, l))))

-- the words of a region that refer are each slot's second
pub refers_second : (from n s : ℕ) → s < n → Has (region_references from n) (from + 8 * s + 4)
refers_second from n s l = has_map (λ s. from + 8 * s + 4) (range_with_len 0 n) s (subst (Has (range_with_len 0 n)) (omega arith) (has_range 0 n s l))

pub second_refers : (from n o : ℕ) → Has (region_references from n) o → (s : ℕ) × (from + 8 * s + 4 ≡ o)
second_refers from n o h = let a = mapped (λ s. from + 8 * s + 4) (range_with_len 0 n) o h in (a.0, a.2)

unreferring : (w : Word) → ((r : Option ℕ) → w ≡ Refer r → ⊥) → plain w ≡ Found w
unreferring (Plain z) none = refl
unreferring (Refer r) none = absurd (none r refl)
unreferring (Address at to) none = refl

-- Each first word of a slot doesn't refer, and each second does.
pub record AreSlots (words : List Word) (k n : ℕ) : Type 0 where
  pub numbers : (s : ℕ) → s < n → (w : Word) × (slice_get words (k + 2 * s) ≡ Some w) × ((r : Option ℕ) → w ≡ Refer r → ⊥)
  pub references : (s : ℕ) → s < n → (r : Option ℕ) × (slice_get words (k + (2 * s + 1)) ≡ Some (Refer r))

module _ (words : List Word) (k n : ℕ) (are : AreSlots words k n) where
  even : (j s : ℕ) → j ≡ 2 * s → j < 2 * n → Gives words (k + j) (as_marked (is_in (4 * j) (region_references 0 n)))
  even j s e l =
      let w = are.numbers s (omega (arith, e, l)) in
      let here : slice_get words (k + j) ≡ Some w.0 = ap (λ (j : ℕ). slice_get words (k + j)) e ∙ w.1 in
      go (is_in (4 * j) (region_references 0 n)) refl w.0 here w.2
    where
      go : (b : Bool) → is_in (4 * j) (region_references 0 n) ≡ b → (w : Word) → slice_get words (k + j) ≡ Some w → ((r : Option ℕ) → w ≡ Refer r → ⊥)
          → Gives words (k + j) (as_marked (is_in (4 * j) (region_references 0 n)))
      go true f w here none =
          let a = second_refers 0 n (4 * j) (among (4 * j) (region_references 0 n) f) in let g = a.1 in absurd (omega (arith, g, e))
      go false f w here none = (w, here, ap (λ (b : Bool). as_marked b w) f ∙ unreferring w none)

  odd : (j s : ℕ) → j ≡ 2 * s + 1 → j < 2 * n → Gives words (k + j) (as_marked (is_in (4 * j) (region_references 0 n)))
  odd j s e l =
      let r = are.references s (omega (arith, e, l)) in
      let here : slice_get words (k + j) ≡ Some (Refer r.0) = ap (λ (j : ℕ). slice_get words (k + j)) e ∙ r.1 in
      let at : 0 + 8 * s + 4 ≡ 4 * j = omega (arith, e) in
      let is = is_among (4 * j) (region_references 0 n) (subst (Has (region_references 0 n)) at (refers_second 0 n s (omega (arith, e, l)))) in
      (Refer r.0, here, ap (λ (b : Bool). as_marked b (Refer r.0)) is)

  -- so they are moved as they are
  pub slots_give : (j : ℕ) → j < 2 * n → Gives words (k + j) (as_marked (is_in (4 * j) (region_references 0 n)))
  slots_give j l = elim (halves j) [
    | inl (s, e) ↦ even j s e l
    | inr (s, e) ↦ odd j s e l
  ]
    where
      halves : (j : ℕ) → ((s : ℕ) × (j ≡ 2 * s)) ⊎ ((s : ℕ) × (j ≡ 2 * s + 1))
      halves j = go (j % 2) refl
        where
          go : (d : ℕ) → j % 2 ≡ d → ((s : ℕ) × (j ≡ 2 * s)) ⊎ ((s : ℕ) × (j ≡ 2 * s + 1))
          go zero e = inl (j / 2, omega (arith, e))
          go (suc zero) e = inr (j / 2, omega (arith, e))
          go (suc (suc d)) e = absurd (omega (arith, e))

-- A record of a chain has a region of slots behind its first two words.
pub turns_are_slots : (n : ℕ) (inner : List Word) → AreOf (turn_bytes n) (turn_references n) inner → AreSlots inner 2 n
turns_are_slots n inner are = record {
  numbers = λ s l.
      let many = are.many in
      let w = is_there inner (2 + 2 * s) (omega (arith, l, many)) in
      (w.0, w.1, λ r e. apart s (are.only (2 + 2 * s) r (w.1 ∙ ap (λ (v : Word). Some v) e)));
  references = λ s l.
      let r = are.refer (8 + 8 * s + 4) (inr (inr (refers_second 8 n s l))) in
      let at : (8 + 8 * s + 4) / 4 ≡ 2 + (2 * s + 1) = omega arith in
      (r.0, ap (slice_get inner) (sym at) ∙ r.1);
}
  where
    apart : (s : ℕ) → Has (turn_references n) (4 * (2 + 2 * s)) → ⊥
    apart s (inl e) = omega (arith, e)
    apart s (inr (inl e)) = omega (arith, e)
    apart s (inr (inr h)) = let a = second_refers 8 n (4 * (2 + 2 * s)) h in let e = a.1 in omega (arith, e)

-- So do the slots of a frame stand, from any one on.
pub frames_are_slots : (defs : List Def) (types : List Ty) (n : ℕ) (words : List Word) → AllLaid defs types (rooms_of (rooms_in defs) types)
    → AreOf (frame_bytes defs types n) (frame_references defs types n) words → (from count : ℕ) → from + count ≤ n
    → AreSlots words (number_place defs types from / 4) count
frames_are_slots defs types n words laid are from count l = record {
  numbers = λ s less.
      let w = number_word defs types n words laid are (from + s) (omega (arith, l, less)) in
      let at : number_place defs types (from + s) / 4 ≡ number_place defs types from / 4 + 2 * s = omega arith in
      (w.old, ap (slice_get words) (sym at) ∙ w.there, w.no_refer);
  references = λ s less.
      let has = has_behind (map (λ o. linkage_bytes + o) (row_of defs types).references) _ (reference_place defs types (from + s))
      (inr (has_map (λ s. reference_place defs types s) (range_with_len 0 n) (from + s)
      (subst (Has (range_with_len 0 n)) (omega arith) (has_range 0 n (from + s) (omega (arith, l, less)))))) in
      let r = are.refer (reference_place defs types (from + s)) has in
      let at : reference_place defs types (from + s) / 4 ≡ number_place defs types from / 4 + (2 * s + 1) = omega arith in
      (r.0, ap (slice_get words) (sym at) ∙ r.1);
}
  where
    has_behind : (xs ys : List ℕ) (o : ℕ) → Has ys o → Has (xs ++ ys) o
    has_behind [] ys o h = h
    has_behind (x ∷ xs) ys o h = inr (has_behind xs ys o h)
