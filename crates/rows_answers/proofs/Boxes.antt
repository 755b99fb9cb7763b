-- The words of records that have values: room for such a value, and what they refer to.
use Rattle.std.proofs.Common.{◌≡◌, ℕ, suc, pos, ◌+◌, ◌*◌, ◌/◌, ◌%◌, ◌<◌, List, [], ◌∷◌, Option, Some, None}
use Rattle.std.proofs.Common.{refl, ap, ◌∙◌, arith, inl, inr}
use Rattle.std.proofs.Math.Nat.{zero-mod}
use Rattle.std.specs.Prelude.{slice_get}
use Rattle.heap_model.specs.Facts.{Covers}
use Rattle.limbo_types.specs.Types.{Ty}
use Rattle.limbo_layout.specs.Adts.{Def, Has}
use Rattle.limbo_layout.specs.Layout.{Laid}
use Rattle.limbo_meaning.specs.Values.{Value, references}
use Rattle.limbo_meaning.specs.Origins.{Name}
use Rattle.dis_meaning.specs.Words.{Word, Plain, Refer, Address, word_at}
use Rattle.value_words.specs.Facts.{Facts, Grows}
use Rattle.value_words.specs.Stands.{Stands}
use Rattle.value_words.specs.Contents as contents
use Rattle.value_words.specs.Contents.{content, content_of, content_in, NamesAt}
use Rattle.value_words.proofs.Bytes.{word_there}
use Rattle.value_words.proofs.Covered.{covered}
use Rattle.value_words.proofs.Later.{stands_later}
use Rattle.value_heaps.proofs.Marks.{at_word}
use Rattle.value_frames.specs.Frames.{room_for, box_bytes}
use Rattle.value_frames.specs.Types.{AreOf}
use Rattle.value_moves.specs.Writing.{Lies, HasRoom}
use Rattle.value_follows.proofs.RootedValues.{covers_those}

pub has_where : (ws : List Word) (w : Word) → Has ws w → (j : ℕ) × (slice_get ws j ≡ Some w)
has_where [] w h = absurd h
has_where (u ∷ ws) w (inl e) = (0, ap Some e)
has_where (u ∷ ws) w (inr h) = let r = has_where ws w h in (suc r.0, r.1)

-- a byte tells to what a word refers
refers_so : (w : Word) (r : Option ℕ) → content_of w 0 ≡ contents.Reference r 0 → w ≡ Refer r
refers_so (Plain z) r e = absurd cc
refers_so (Refer s) r e = cc
refers_so (Address p a) r e = absurd cc

refers_in : (o : Option Word) (r : Option ℕ) → content_in o 0 ≡ Some (contents.Reference r 0) → o ≡ Some (Refer r)
refers_in None r e = absurd cc
refers_in (Some w) r e = ap Some (refers_so w r cc)

pub content_first : (ws : List Word) (j : ℕ) → content ws (4 * j) ≡ content_in (slice_get ws j) 0
content_first ws j =
    let e : 4 * j / 4 ≡ j = omega arith in
    let f : 4 * j % 4 ≡ 0 = omega arith in
    ap (λ n. content_in (slice_get ws n) (4 * j % 4)) e ∙ ap (λ n. content_in (slice_get ws j) n) f

module _ (defs : List Def) (t : Ty) where
  -- these words, of a record for a type, stand for a value
  abbrev pub Boxes : Facts → List Word → Value → Type 0
  Boxes k ws v = AreOf (box_bytes defs t) (room_for defs t).references ws × Stands defs k ws 0 t v

  pub boxes_later : (k now : Facts) (ws : List Word) (v : Value) → Grows k now → Boxes k ws v → Boxes now ws v
  boxes_later k now ws v grows b = (b.0, stands_later defs k now ws grows 0 t v b.1)

  module _ (laid : Laid defs t (room_for defs t)) where
    pub room_in : (ws : List Word) → AreOf (box_bytes defs t) (room_for defs t).references ws → HasRoom defs ws 0 t (room_for defs t)
    room_in ws kind =
        let many = kind.many in
        record {
          laid = laid;
          aligned = zero-mod (room_for defs t).align;
          whole = (λ w h. let below = h.1 in omega (arith, many, below), kind.ranged);
          begins = λ some. inl refl;
          only = λ w to e h. (4 * w, kind.only w to e, omega arith);
          refer = λ o h.
              let r = kind.refer o h in
              let even = at_word defs t (room_for defs t) o laid h in
              let e : 0 + o ≡ o = omega arith in
              (r.0, ap (λ (a : ℕ). word_at ws (pos a)) e ∙ word_there ws o (Refer r.0) even r.1);
        }

    pub lies_in : (k : Facts) (ws : List Word) (v : Value) → Boxes k ws v → Lies defs k ws 0 t (room_for defs t) v
    lies_in k ws v b =
        let room = room_in ws b.0 in
        record { laid = laid; aligned = room.aligned; whole = room.whole; only = room.only; stands = b.1 }

    -- what they refer to is named by the value, or is a text
    pub boxes_cover : (k : Facts) (ws : List Word) (v : Value) (names : ℕ → ℕ) → ((n : ℕ) → Name (references v) n → 0 < names n) → Boxes k ws v
        → (d : ℕ) → Has ws (Refer (Some d)) → Covers k (λ n. 0 < names n) d
    boxes_cover k ws v names named b d h =
        let j = has_where ws (Refer (Some d)) h in
        let e : (0 + 4 * j.0) / 4 ≡ j.0 = omega arith in
        covers_those defs k names (references v) d named
        (covered defs k ws 0 t (room_for defs t) v (4 * j.0) d laid b.1 (b.0.only j.0 (Some d) j.1)
        (word_there ws (0 + 4 * j.0) (Refer (Some d)) (omega arith) (ap (slice_get ws) e ∙ j.1)))
