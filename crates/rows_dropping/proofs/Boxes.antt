-- The words of records that have values: moved into another record, and with one reference less.
use Rattle.std.proofs.Common.{◌≡◌, ℕ, zero, suc, pos, ◌+◌, ◌*◌, ◌/◌, ◌%◌, ◌<◌, List, [], ◌∷◌, length, Option, Some, None}
use Rattle.std.proofs.Common.{refl, sym, ap, ◌∙◌, subst, arith, inl, inr}
use Rattle.std.proofs.Math.Nat.{zero-mod}
use Rattle.std.specs.Prelude.{slice_get, slice_set, slice_index_or}
use Rattle.heap_model.specs.Facts.{Covers}
use Rattle.limbo_types.specs.Types.{Ty}
use Rattle.limbo_layout.specs.Adts.{Def, Has}
use Rattle.limbo_layout.specs.Layout.{Laid}
use Rattle.limbo_meaning.specs.Values.{Value, references, nothing}
use Rattle.limbo_meaning.specs.Origins.{Name}
use Rattle.core_code.specs.Slots as core
use Rattle.core_code.specs.Terms.{count_of}
use Rattle.dis_meaning.specs.Words.{Word, Plain, Refer, Address, Found, word_at}
use Rattle.value_words.specs.Facts.{Facts, Grows}
use Rattle.value_words.specs.Stands.{Stands}
use Rattle.value_words.specs.Contents as contents
use Rattle.value_words.specs.Contents.{content, content_of, content_in, NamesAt}
use Rattle.value_words.proofs.Blank.{laid_within}
use Rattle.value_words.proofs.Bytes.{word_there}
use Rattle.value_words.proofs.Covered.{covered}
use Rattle.value_words.proofs.Dropped.{stands_without}
use Rattle.value_words.proofs.Named.{counted, names_there}
use Rattle.value_words.proofs.Later.{stands_later}
use Rattle.value_heaps.proofs.Marks.{at_word}
use Rattle.value_frames.specs.Frames.{room_for, box_bytes, names_at}
use Rattle.value_frames.specs.Types.{AreOf}
use Rattle.value_frames.proofs.Replacing.{kinds_stay}
use Rattle.value_moves.specs.Writing.{Writes, Lies, HasRoom}
use Rattle.value_moves.proofs.Moving.{values_move}
use Rattle.value_follows.proofs.RootedValues.{has_at, covers_those}
use Rattle.number_effects.specs.Giving.{with_word, WordStored}
use Rattle.rows_dropping.proofs.Named.{names_right}

pub has_where : (ws : List Word) (w : Word) → Has ws w → (j : ℕ) × (slice_get ws j ≡ Some w)
has_where [] w h = absurd h
has_where (u ∷ ws) w (inl e) = (0, ap Some e)
has_where (u ∷ ws) w (inr h) = let r = has_where ws w h in (suc r.0, r.1)

-- a byte tells to what a word refers
refers_so : (w : Word) (r : Option ℕ) → content_of w 0 ≡ contents.Reference r 0 → w ≡ Refer r
refers_so (Plain z) r e = absurd cc
refers_so (Refer s) r e = cc
refers_so (Address p a) r e = absurd cc

refers_in : (o : Option Word) (r : Option ℕ) → content_in o 0 ≡ Some (contents.Reference r 0) → o ≡ Some (Refer r)
refers_in None r e = absurd cc
refers_in (Some w) r e = ap Some (refers_so w r cc)

pub content_first : (ws : List Word) (j : ℕ) → content ws (4 * j) ≡ content_in (slice_get ws j) 0
content_first ws j =
    let e : 4 * j / 4 ≡ j = omega arith in
    let f : 4 * j % 4 ≡ 0 = omega arith in
    ap (λ n. content_in (slice_get ws n) (4 * j % 4)) e ∙ ap (λ n. content_in (slice_get ws j) n) f

module _ (defs : List Def) (t : Ty) where
  -- these words, of a record for a type, stand for a value
  abbrev pub Boxes : Facts → List Word → Value → Type 0
  Boxes k ws v = AreOf (box_bytes defs t) (room_for defs t).references ws × Stands defs k ws 0 t v

  pub boxes_later : (k now : Facts) (ws : List Word) (v : Value) → Grows k now → Boxes k ws v → Boxes now ws v
  boxes_later k now ws v grows b = (b.0, stands_later defs k now ws grows 0 t v b.1)

  module _ (laid : Laid defs t (room_for defs t)) where
    pub room_in : (ws : List Word) → AreOf (box_bytes defs t) (room_for defs t).references ws → HasRoom defs ws 0 t (room_for defs t)
    room_in ws kind =
        let many = kind.many in
        record {
          laid = laid;
          aligned = zero-mod (room_for defs t).align;
          whole = (λ w h. let below = h.1 in omega (arith, many, below), kind.ranged);
          begins = λ some. inl refl;
          only = λ w to e h. (4 * w, kind.only w to e, omega arith);
          refer = λ o h.
              let r = kind.refer o h in
              let even = at_word defs t (room_for defs t) o laid h in
              let e : 0 + o ≡ o = omega arith in
              (r.0, ap (λ (a : ℕ). word_at ws (pos a)) e ∙ word_there ws o (Refer r.0) even r.1);
        }

    pub lies_in : (k : Facts) (ws : List Word) (v : Value) → Boxes k ws v → Lies defs k ws 0 t (room_for defs t) v
    lies_in k ws v b =
        let room = room_in ws b.0 in
        record { laid = laid; aligned = room.aligned; whole = room.whole; only = room.only; stands = b.1 }

    -- what they refer to is named by the value, or is a text
    pub boxes_cover : (k : Facts) (ws : List Word) (v : Value) (names : ℕ → ℕ) → ((n : ℕ) → Name (references v) n → 0 < names n) → Boxes k ws v
        → (d : ℕ) → Has ws (Refer (Some d)) → Covers k (λ n. 0 < names n) d
    boxes_cover k ws v names named b d h =
        let j = has_where ws (Refer (Some d)) h in
        let e : (0 + 4 * j.0) / 4 ≡ j.0 = omega arith in
        covers_those defs k names (references v) d named
        (covered defs k ws 0 t (room_for defs t) v (4 * j.0) d laid b.1 (b.0.only j.0 (Some d) j.1)
        (word_there ws (0 + 4 * j.0) (Refer (Some d)) (omega arith) (ap (slice_get ws) e ∙ j.1)))

    -- ---- a value that is moved from one to another

    module _ (k : Facts) (source target others : List Word) (v : Value) (from : Boxes k source v)
        (to : AreOf (box_bytes defs t) (room_for defs t).references target)
        (writes : Writes target others 0 source 0 (room_for defs t).size) where
      pub moved_kind : AreOf (box_bytes defs t) (room_for defs t).references others
      moved_kind =
          kinds_stay.all (box_bytes defs t) (room_for defs t).references target others to writes.many
          writes.refer writes.referred (writes.ranged from.0.ranged to.ranged)

      pub moved_boxes : Boxes k others v
      moved_boxes =
          (moved_kind, (values_move.stands defs k source target others 0 0 t (room_for defs t) v (lies_in k source v from) (room_in target to) writes).0.stands)

      -- it refers to what the other does
      pub moved_refers : (d : ℕ) → Has others (Refer (Some d)) → Has source (Refer (Some d))
      moved_refers d h =
          let j = has_where others (Refer (Some d)) h in
          let has = moved_kind.only j.0 (Some d) j.1 in
          let inside = is_inside (4 * j.0) has in
          let zero : 0 + 4 * j.0 ≡ 4 * j.0 = omega arith in
          let there : content others (4 * j.0) ≡ content source (4 * j.0) =
          ap (content others) (sym zero) ∙ writes.there (4 * j.0) inside ∙ ap (content source) zero in
          let same : content source (4 * j.0) ≡ Some (contents.Reference (Some d) 0) =
          sym there ∙ content_first others j.0 ∙ ap (λ o. content_in o 0) j.1 in
          has_at source j.0 (Refer (Some d)) (refers_in (slice_get source j.0) (Some d) (sym (content_first source j.0) ∙ same))
        where
          is_inside : (o : ℕ) → Has (room_for defs t).references o → o < (room_for defs t).size
          is_inside o h = let l = laid_within defs t (room_for defs t) laid o h in omega (arith, l)

    -- ---- a value with one reference less

    module _ (k : Facts) (ws : List Word) (v : Value) (box : Boxes k ws v) (n : ℕ) (l : n < count_of defs t) where
      abbrev pub offset : ℕ
      offset = slice_index_or (names_at defs t) n 0

      abbrev pub less : List Word
      less = with_word ws offset (Refer None)

      names : NamesAt defs t (names_at defs t)
      names = names_right defs t (room_for defs t) laid

      pub is_here : slice_get (names_at defs t) n ≡ Some offset
      is_here =
          let long = counted defs t (names_at defs t) nothing names in
          index_there (names_at defs t) n 0 (omega (arith, l, long))
        where
          index_there : (os : List ℕ) (n d : ℕ) → n < length os → slice_get os n ≡ Some (slice_index_or os n d)
          index_there [] n d l = absurd (omega (arith, l))
          index_there (o ∷ os) zero d l = refl
          index_there (o ∷ os) (suc n) d l = index_there os n d (omega (arith, l))

      -- the word that goes is one that refers
      pub offset_there : (r : Option ℕ) × (word_at ws (pos offset) ≡ Found (Refer r))
      offset_there =
          let there = names_there defs k ws 0 t v (names_at defs t) n offset box.1 names is_here in
          let e : 0 + offset ≡ offset = omega arith in
          (there.block, ap (λ (a : ℕ). word_at ws (pos a)) (sym e) ∙ there.word)

      pub less_boxes : WordStored ws offset (Refer None) → Boxes k less (core.without n v)
      less_boxes stored =
          let stands = stands_without defs k ws 0 t v (names_at defs t) n offset box.1 names is_here in
          let e : 0 + offset ≡ offset = omega arith in (
            kinds_stay.all (box_bytes defs t) (room_for defs t).references ws less box.0 stored.changes.many
                stored.changes.refer stored.changes.referred (stored.ranged (λ z e. absurd cc) box.0.ranged),
            subst (λ (a : ℕ). Stands defs k (slice_set ws (a / 4) (Refer None)) 0 t (core.without n v)) e stands,
          )

-- words of which one refers to nothing refer to no more
pub fewer : (ws : List Word) (j d : ℕ) → Has (slice_set ws j (Refer None)) (Refer (Some d)) → Has ws (Refer (Some d))
fewer [] zero d h = absurd h
fewer [] (suc j) d h = absurd h
fewer (w ∷ ws) zero d (inl e) = absurd cc
fewer (w ∷ ws) zero d (inr h) = inr h
fewer (w ∷ ws) (suc j) d (inl e) = inl e
fewer (w ∷ ws) (suc j) d (inr h) = inr (fewer ws j d h)
