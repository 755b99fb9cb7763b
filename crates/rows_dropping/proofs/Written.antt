-- What words refer to into which a value was written; and the record of a value that was written into it.
use Rattle.std.proofs.Common.{◌≡◌, ◌⊎◌, ℕ, pos, ◌+◌, ◌-◌, ◌*◌, ◌/◌, ◌%◌, ◌<◌, List, [], ◌∷◌, Option, Some, None}
use Rattle.std.proofs.Common.{refl, sym, ap, ◌∙◌, subst, arith, inl, inr}
use Rattle.std.specs.Prelude.{slice_get}
use Rattle.limbo_types.specs.Types as ty
use Rattle.limbo_types.specs.Types.{Ty}
use Rattle.limbo_layout.specs.Adts.{Def, Has}
use Rattle.limbo_layout.specs.Layout.{Laid, AllLaid}
use Rattle.limbo_layout.specs.Laying.{rooms_of}
use Rattle.limbo_meaning.specs.Values.{Value}
use Rattle.core_code.specs.Rooms.{rooms_in}
use Rattle.dis_meaning.specs.Words.{Word, Plain, Refer, Address, Found, word_at}
use Rattle.value_words.specs.Facts.{Facts}
use Rattle.value_words.specs.Contents as contents
use Rattle.value_words.specs.Contents.{content, content_of, content_in}
use Rattle.value_frames.specs.Frames.{AsNumber, AsReference, form_of, room_for, box_bytes, number_place, reference_place, frame_bytes, frame_references}
use Rattle.value_frames.specs.Types.{AreOf}
use Rattle.value_frames.proofs.Replacing.{kinds_stay}
use Rattle.value_moves.specs.Writing.{Writes, Lies, HasRoom}
use Rattle.value_moves.proofs.Moving.{values_move}
use Rattle.value_moves.proofs.Changing.{low_or_high}
use Rattle.value_follows.proofs.RootedValues.{has_at}
use Rattle.value_follows.proofs.Putting.{NumberWord, number_word}
use Rattle.rows_dropping.proofs.Boxes.{Boxes, room_in, has_where, content_first}

refers_here : (w : Word) (k : ℕ) (r : Option ℕ) → content_of w k ≡ contents.Reference r 0 → w ≡ Refer r
refers_here (Plain z) k r e = absurd cc
refers_here (Refer s) k r e = let f : s ≡ r = cc in ap Refer f
refers_here (Address p a) k r e = absurd cc

pub refers_at : (o : Option Word) (k : ℕ) (r : Option ℕ) → content_in o k ≡ Some (contents.Reference r 0) → o ≡ Some (Refer r)
refers_at None k r e = absurd cc
refers_at (Some w) k r e = ap Some (refers_here w k r (let f : content_of w k ≡ contents.Reference r 0 = cc in f))

pub written_refers : (target others source : List Word) (to from size : ℕ) → Writes target others to source from size → (d : ℕ)
    → Has others (Refer (Some d)) → Has source (Refer (Some d)) ⊎ Has target (Refer (Some d))
written_refers target others source to from size w d h =
    let j = has_where others (Refer (Some d)) h in
    let here : content others (4 * j.0) ≡ Some (contents.Reference (Some d) 0) = content_first others j.0 ∙ ap (λ o. content_in o 0) j.1 in
    elim (low_or_high (4 * j.0) to) [
      | inl low ↦ inr (in_target j.0 (sym (w.bytes (4 * j.0) (inl low)) ∙ here))
      | inr high ↦ elim (low_or_high (4 * j.0) (to + size)) [
        | inl within ↦
            let o : ℕ = 4 * j.0 - to in
            let at : 4 * j.0 ≡ to + o = omega (arith, high) in
            inl (in_source (from + o) (sym (w.there o (omega (arith, within, high))) ∙ (ap (content others) (sym at) ∙ here)))
        | inr past ↦ inr (in_target j.0 (sym (w.bytes (4 * j.0) (inr past)) ∙ here))
      ]
    ]
  where
    in_target : (j : ℕ) → content target (4 * j) ≡ Some (contents.Reference (Some d) 0) → Has target (Refer (Some d))
    in_target j e = has_at target j (Refer (Some d)) (refers_at (slice_get target j) 0 (Some d) (sym (content_first target j) ∙ e))

    in_source : (c : ℕ) → content source c ≡ Some (contents.Reference (Some d) 0) → Has source (Refer (Some d))
    in_source c e = has_at source (c / 4) (Refer (Some d)) (refers_at (slice_get source (c / 4)) (c % 4) (Some d) e)

-- ---- the record of a value that was written into it

pub written_boxes : (defs : List Def) (t : Ty) (laid : Laid defs t (room_for defs t)) (k : Facts) (source target others : List Word) (from : ℕ) (v : Value)
    → Lies defs k source from t (room_for defs t) v → AreOf (box_bytes defs t) (room_for defs t).references target
    → Writes target others 0 source from (room_for defs t).size → Boxes defs t k others v
written_boxes defs t laid k source target others from v lies kind writes = (
  kinds_stay.all (box_bytes defs t) (room_for defs t).references target others kind writes.many writes.refer writes.referred
      (writes.ranged lies.whole.1 kind.ranged),
  (values_move.stands defs k source target others from 0 t (room_for defs t) v lies (room_in defs t laid target kind) writes).0.stands,
)

-- ---- the room in a slot

module _ (defs : List Def) (types : List Ty) (slots : ℕ) (words : List Word) (laid : AllLaid defs types (rooms_of (rooms_in defs) types))
    (kind : AreOf (frame_bytes defs types slots) (frame_references defs types slots) words) (s : ℕ) (l : s < slots) where
  abbrev n_at : ℕ
  n_at = number_place defs types s

  abbrev r_at : ℕ
  r_at = reference_place defs types s

  old : NumberWord defs types slots words laid kind s l
  old = number_word defs types slots words laid kind s l

  other_word : (w : ℕ) (to : Option ℕ) → slice_get words w ≡ Some (Refer to) → w ≡ n_at / 4 → ⊥
  other_word w to e f =
      let o = old in
      let g : Some o.old ≡ Some (Refer to) = sym o.there ∙ (ap (slice_get words) (sym f) ∙ e) in
      o.no_refer to (let h : o.old ≡ Refer to = cc in h)

  pub number_room : (t : Ty) → form_of t ≡ AsNumber → Laid defs t (room_for defs t) → HasRoom defs words n_at t (room_for defs t)
  number_room ty.Byte e fits =
      let many = kind.many in
      record {
        laid = fits;
        aligned = omega arith;
        whole = (λ w h. let a = h.0 in let c = h.1 in omega (arith, many, a, c, l), kind.ranged);
        begins = λ some. inl (omega arith);
        only = λ w to f h. let a = h.0 in let c = h.1 in absurd (other_word w to f (omega (arith, a, c)));
        refer = λ o h. absurd h;
      }
  number_room ty.Int e fits =
      let many = kind.many in
      record {
        laid = fits;
        aligned = omega arith;
        whole = (λ w h. let a = h.0 in let c = h.1 in omega (arith, many, a, c, l), kind.ranged);
        begins = λ some. inl (omega arith);
        only = λ w to f h. let a = h.0 in let c = h.1 in absurd (other_word w to f (omega (arith, a, c)));
        refer = λ o h. absurd h;
      }
  number_room t e fits = absurd cc

  abbrev ReferenceRoom : Ty → Type 0
  ReferenceRoom t = HasRoom defs words r_at t (room_for defs t)

  pub reference_room : (r : Option ℕ) → word_at words (pos r_at) ≡ Found (Refer r) → (t : Ty) → form_of t ≡ AsReference
      → Laid defs t (room_for defs t) → (room_for defs t).size ≡ 4 → (room_for defs t).align ≡ 4 → (room_for defs t).references ≡ 0 ∷ []
      → ReferenceRoom t
  reference_room r word t e fits size align refs =
      let many = kind.many in
      let zero_on : r_at + 0 ≡ r_at = omega arith in
      record {
        laid = fits;
        aligned = subst (λ n. r_at % n ≡ 0) (sym align) (omega arith);
        whole = (λ w h. let a = h.0 in let c = h.1 in omega (arith, many, a, c, l, size), kind.ranged);
        begins = λ some. inl (omega arith);
        only = λ w to f h.
            let a = h.0 in
            let c = h.1 in (0, subst (λ (os : List ℕ). Has os 0) (sym refs) (inl refl), omega (arith, a, c, size));
        refer = λ o h. at_zero o (subst (λ (os : List ℕ). Has os o) refs h);
      }
    where
      at_zero : (o : ℕ) → Has (0 ∷ []) o → (c : Option ℕ) × (word_at words (pos (r_at + o)) ≡ Found (Refer c))
      at_zero o (inl f) = (r, ap (λ (n : ℕ). word_at words (pos n)) (let g : r_at + o ≡ r_at = omega (arith, f) in g) ∙ word)
      at_zero o (inr f) = absurd f
