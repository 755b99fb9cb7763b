-- A frame as it is made has references to nothing where its type says so, and else zeros.
use Rattle.std.proofs.Common.{◌≡◌, ℕ, zero, suc, ◌+◌, ◌*◌, ◌/◌, ◌%◌, ◌<◌, ◌≤◌, ◌⊎◌, pos, Bool, true, false, List, [], ◌∷◌, map}
use Rattle.std.proofs.Common.{replicate, length, Some, None, refl, sym, ap, ◌∙◌, subst, arith, inl, inr, Option}
use Rattle.std.specs.Prelude.{slice_get}
use Rattle.std.specs.List.{range_with_len}
use Rattle.std.proofs.lemmas.List.{get_or_past, length-replicate}
use Rattle.std.proofs.lemmas.List.FromFn.{get_or-map-range_with_len, length-map-range_with_len}
use Rattle.heap_model.specs.Heap.{Heap}
use Rattle.limbo_types.specs.Types as ty
use Rattle.limbo_types.specs.Types.{Ty}
use Rattle.limbo_layout.specs.Adts.{Def, Has}
use Rattle.limbo_layout.specs.Layout.{Room, nothing, AllLaid, is_in}
use Rattle.limbo_layout.specs.Laying.{rooms_of}
use Rattle.limbo_layout.proofs.Rooms.{has_left, has_right, has_cases}
use Rattle.limbo_meaning.specs.Values as value
use Rattle.limbo_meaning.specs.Values.{Value, zero_of, all_fitted}
use Rattle.core_code.specs.Rooms.{rooms_in}
use Rattle.core_code.specs.Slots as core
use Rattle.core_typing.specs.Held as held
use Rattle.dis_file.specs.References as file
use Rattle.dis_file.specs.declared.types.TypeDesc.{TypeDesc}
use Rattle.dis_meaning.specs.Words.{Word, Refer, Found, word_at, blank, blanks, blank_word}
use Rattle.dis_memory.specs.Blocks.{Block}
use Rattle.value_words.specs.Contents as contents
use Rattle.value_words.specs.Contents.{content, content_in, AreBlank, IsOfReference}
use Rattle.value_words.specs.Facts.{Facts}
use Rattle.value_words.specs.Stands.{AllStand}
use Rattle.value_words.proofs.Aligned.{IsPower, all_power}
use Rattle.value_words.proofs.Blank.{has_map, mapped, all_within, all_zero}
use Rattle.value_words.proofs.Bytes.{word_there, zero_byte}
use Rattle.value_heaps.proofs.Marks.{all_even, marks_is, among, is_among}
use Rattle.value_heaps.proofs.Made.{word_by, get_blanks, blanks_in_range}
use Rattle.value_frames.specs.Frames.{linkage_bytes, frame_bytes, frame_references, row_of, spare_place, number_place, reference_place}
use Rattle.value_frames.specs.Types.{desc, AreOf}
use Rattle.value_frames.specs.Standing.{SlotStands, a_value, nothing_there, WordsAre}
use Rattle.value_frames.specs.Beginning.{FramesBegin}

-- ---- the map of a type

length_blanks : (desc : TypeDesc) (from count : ℕ) → length (blanks desc from count) ≡ count
length_blanks desc from zero = refl
length_blanks desc from (suc n) = ap suc (length_blanks desc (suc from) n)

pub is_inside : {A : Type 0} (xs : List A) (n : ℕ) (a : A) → slice_get xs n ≡ Some a → n < length xs
is_inside [] n a e = absurd cc
is_inside (x ∷ xs) zero a e = omega arith
is_inside (x ∷ xs) (suc n) a e = let l = is_inside xs n a e in omega (arith, l)

abbrev by_offsets : List ℕ → ℕ → Bool
by_offsets os w = is_in (4 * w) os

marks_of : (size : ℕ) (os : List ℕ) (w : ℕ) → w < (size + 3) / 4 → file.marks (desc size os).map w ≡ is_in (4 * w) os
marks_of size os w l =
    marks_is (map (by_offsets os) (range_with_len 0 ((size + 3) / 4))) w
    ∙ get_or-map-range_with_len (by_offsets os) 0 ((size + 3) / 4) w w false l (omega arith)

marks_past : (size : ℕ) (os : List ℕ) (w : ℕ) → (size + 3) / 4 ≤ w → file.marks (desc size os).map w ≡ false
marks_past size os w l =
    let long = length-map-range_with_len (by_offsets os) 0 ((size + 3) / 4) in
    marks_is (map (by_offsets os) (range_with_len 0 ((size + 3) / 4))) w
    ∙ get_or_past (map (by_offsets os) (range_with_len 0 ((size + 3) / 4))) w false (omega (arith, long, l))

-- ---- the words of a type

module _ (size : ℕ) (offsets : List ℕ) where
  abbrev made_words : List Word
  made_words = blank (desc size offsets)

  word_is : (w : ℕ) → w < size / 4 → slice_get made_words w ≡ Some (word_by (is_in (4 * w) offsets))
  word_is w l =
      get_blanks (desc size offsets) 0 (size / 4) w l
      ∙ ap (λ k. Some (blank_word (desc size offsets) k)) (let e : 0 + w ≡ w = omega arith in e)
      ∙ ap (λ b. Some (word_by b)) (marks_of size offsets w (omega (arith, l)))

  refers_there : (o : ℕ) → Has offsets o → o % 4 ≡ 0 → o / 4 < size / 4 → slice_get made_words (o / 4) ≡ Some (Refer None)
  refers_there o h a l =
      let e : 4 * (o / 4) ≡ o = omega (arith, a) in
      word_is (o / 4) l ∙ ap (λ b. Some (word_by b)) (ap (λ m. is_in m offsets) e ∙ is_among o offsets h)

  long : length made_words ≡ size / 4
  long = length_blanks (desc size offsets) 0 (size / 4)

  refers_only : (w : ℕ) (r : Option ℕ) → slice_get made_words w ≡ Some (Refer r) → Has offsets (4 * w)
  refers_only w r e =
      let l = is_inside made_words w (Refer r) e in
      by (is_in (4 * w) offsets) refl (word_is w (omega (arith, l, long)))
    where
      by : (b : Bool) → is_in (4 * w) offsets ≡ b → slice_get made_words w ≡ Some (word_by (is_in (4 * w) offsets)) → Has offsets (4 * w)
      by true f g = among (4 * w) offsets f
      by false f g =
          let h : slice_get made_words w ≡ Some (word_by false) = g ∙ ap (λ b. Some (word_by b)) f in
          absurd cc

  pub kind_of : ((o : ℕ) → Has offsets o → (o % 4 ≡ 0) × (o / 4 < size / 4)) → AreOf size offsets made_words
  kind_of lie = record {
    many = long;
    ranged = λ k z e. blanks_in_range (desc size offsets) 0 (size / 4) k z e;
    refer = λ o h. (None, refers_there o h (lie o h).0 (lie o h).1);
    only = refers_only;
  }

-- ---- rows

in_range : (from count d s : ℕ) → d < count → from + d ≡ s → Has (range_with_len from count) s
in_range from zero d s l e = absurd (omega (arith, l))
in_range from (suc n) zero s l e = inl (omega (arith, e))
in_range from (suc n) (suc d) s l e = inr (in_range (from + 1) n d s (omega (arith, l)) (omega (arith, e)))

of_range : (from count s : ℕ) → Has (range_with_len from count) s → s < from + count
of_range from zero s h = absurd h
of_range from (suc n) s (inl e) = omega (arith, e)
of_range from (suc n) s (inr h) = let l = of_range (from + 1) n s h in omega (arith, l)

is_copy : {A : Type 0} (n s : ℕ) (x y : A) → slice_get (replicate n x) s ≡ Some y → (s < n) × (x ≡ y)
is_copy zero s x y e = absurd cc
is_copy (suc n) zero x y e = (omega arith, cc)
is_copy (suc n) (suc s) x y e = let r = is_copy n s x y e in let l = r.0 in (omega (arith, l), r.1)

zeros_of : (defs : List Def) (ts : List Ty) → all_fitted defs ts [] ≡ map (zero_of defs) ts
zeros_of defs [] = refl
zeros_of defs (t ∷ ts) = ap (λ vs. zero_of defs t ∷ vs) (zeros_of defs ts)

suits_linkage : (a : ℕ) → IsPower a → linkage_bytes % a ≡ 0
suits_linkage a (inl e) = ap (λ n. 32 % n) e
suits_linkage a (inr (inl e)) = ap (λ n. 32 % n) e
suits_linkage a (inr (inr e)) = ap (λ n. 32 % n) e

-- ---- a frame

module _ (defs : List Def) (types : List Ty) (n : ℕ) (laid : AllLaid defs types (rooms_of (rooms_in defs) types)) where
  abbrev rooms : List Room
  rooms = rooms_of (rooms_in defs) types

  abbrev row : Room
  row = row_of defs types

  abbrev size : ℕ
  size = frame_bytes defs types n

  abbrev offsets : List ℕ
  offsets = frame_references defs types n

  abbrev words : List Word
  words = blank (desc size offsets)

  abbrev spare : ℕ
  spare = spare_place defs types

  abbrev of_slots : List ℕ
  of_slots = map (λ s. reference_place defs types s) (range_with_len 0 n)

  even_in : (p : ℕ) → Has row.references p → p % 4 ≡ 0
  even_in p h = (all_even defs nothing types rooms (λ q i. absurd i) laid p h).0

  within_row : (p : ℕ) → Has row.references p → p + 4 ≤ row.size
  within_row p h = all_within defs nothing types rooms (λ q i. absurd i) laid p h

  power : IsPower row.align
  power = all_power defs nothing types rooms (inl refl) laid

  refers_at : (o : ℕ) → Has offsets o → o % 4 ≡ 0 → o / 4 < size / 4 → word_at words (pos o) ≡ Found (Refer None)
  refers_at o h a l = word_there words o (Refer None) a (refers_there size offsets o h a l)

  -- the offsets among those of the variables, or behind them
  place_of : (o : ℕ) → Has offsets o → ((p : ℕ) × Has row.references p × (linkage_bytes + p ≡ o)) ⊎ (linkage_bytes + row.size ≤ o)
  place_of o h = elim (has_cases (map (λ o. linkage_bytes + o) row.references) (spare ∷ of_slots) o h) [
    | inl i ↦ inl (let m = mapped (λ o. linkage_bytes + o) row.references o i in m)
    | inr (inl e) ↦ inr (omega (arith, e))
    | inr (inr i) ↦ inr (let m = mapped (λ s. reference_place defs types s) (range_with_len 0 n) o i in let e = m.2 in omega (arith, e))
  ]

  row_blank : AreBlank words linkage_bytes row
  row_blank = record {
    refer = λ o h.
        let a = even_in o h in
        let l = within_row o h in
        refers_there size offsets (linkage_bytes + o)
        (has_left (map (λ o. linkage_bytes + o) row.references) (spare ∷ of_slots) (linkage_bytes + o)
        (has_map (λ o. linkage_bytes + o) row.references o h))
        (omega (arith, a)) (omega (arith, l));
    zeros = λ o l. zero_or o l (is_in (4 * ((linkage_bytes + o) / 4)) offsets) refl
        (word_is size offsets ((linkage_bytes + o) / 4) (omega (arith, l)));
  }
    where
      zero_or : (o : ℕ) → o < row.size → (b : Bool) → is_in (4 * ((linkage_bytes + o) / 4)) offsets ≡ b
          → slice_get words ((linkage_bytes + o) / 4) ≡ Some (word_by (is_in (4 * ((linkage_bytes + o) / 4)) offsets))
          → (content words (linkage_bytes + o) ≡ Some (contents.Byte 0)) ⊎ IsOfReference row o
      zero_or o l true e f = elim (place_of (4 * ((linkage_bytes + o) / 4)) (among (4 * ((linkage_bytes + o) / 4)) offsets e)) [
        | inl m ↦ let q = m.2 in inr (m.0, m.1, omega (arith, q), omega (arith, q))
        | inr m ↦ absurd (omega (arith, m, l))
      ]
      zero_or o l false e f =
          inl (ap (λ w. content_in w ((linkage_bytes + o) % 4)) (f ∙ ap (λ b. Some (word_by b)) e)
          ∙ ap (λ b. Some (contents.Byte b)) (zero_byte ((linkage_bytes + o) % 4) (omega arith)))

  lies : (o : ℕ) → Has offsets o → (o % 4 ≡ 0) × (o / 4 < size / 4)
  lies o h = elim (has_cases (map (λ o. linkage_bytes + o) row.references) (spare ∷ of_slots) o h) [
    | inl i ↦
        let m = mapped (λ o. linkage_bytes + o) row.references o i in
        let e = m.2 in
        let a = even_in m.0 m.1 in
        let l = within_row m.0 m.1 in
        (omega (arith, a, e), omega (arith, l, e))
    | inr (inl e) ↦ (omega (arith, e), omega (arith, e))
    | inr (inr i) ↦
        let m = mapped (λ s. reference_place defs types s) (range_with_len 0 n) o i in
        let e = m.2 in
        let l = of_range 0 n m.0 m.1 in
        (omega (arith, e), omega (arith, e, l))
  ]

  kind : AreOf size offsets words
  kind = kind_of size offsets lies

  slot_there : (s : ℕ) → s < n → word_at words (pos (reference_place defs types s)) ≡ Found (Refer None)
  slot_there s l =
      refers_at (reference_place defs types s)
      (has_right (map (λ o. linkage_bytes + o) row.references) (spare ∷ of_slots) (reference_place defs types s)
      (inr (has_map (λ s. reference_place defs types s) (range_with_len 0 n) s (in_range 0 n s s l (omega arith)))))
      (omega arith) (omega (arith, l))

  module _ (k : Facts) (x : Heap Block) (frame : ℕ) where
    each_slot : (s : ℕ) (h : held.Held) (l : core.Slot) → slice_get (replicate n held.empty) s ≡ Some h
        → slice_get (replicate n core.empty) s ≡ Some l
        → SlotStands defs k x frame words (number_place defs types s) (reference_place defs types s) h l []
    each_slot s h l e f =
        let a = is_copy n s held.empty h e in
        let b = is_copy n s core.empty l f in
        subst (λ (i : held.Held). SlotStands defs k x frame words (number_place defs types s) (reference_place defs types s) i l []) a.1
        (subst (λ (i : core.Slot).
        SlotStands defs k x frame words (number_place defs types s) (reference_place defs types s) held.empty i []) b.1
        (a_value words (number_place defs types s) (reference_place defs types s) ty.Nothing [] value.nothing
        (refl, (None, slot_there s a.0, nothing_there)) (λ m q g. absurd cc)))

    begun : (are : WordsAre defs k x frame [] types (replicate n held.empty) (map (zero_of defs) types) (replicate n core.empty) words)
        × ((s : ℕ) → are.own s ≡ [])
    begun = (
      record {
        laid = laid;
        kind = subst (λ (m : ℕ). AreOf (frame_bytes defs types m) (frame_references defs types m) words)
            (sym (length-replicate n core.empty)) kind;
        values = subst (λ (vs : List Value). AllStand defs k words linkage_bytes nothing types rooms vs) (zeros_of defs types)
            (all_zero defs k words kind.ranged linkage_bytes row nothing types rooms (λ p h. absurd h) laid power refl (omega arith)
            (omega arith) (suits_linkage row.align power) row_blank);
        as_many = length-replicate n held.empty ∙ sym (length-replicate n core.empty);
        own = λ s. [];
        none_past = λ s l. refl;
        busy_bare = λ s e. refl;
        each = λ s h l free. each_slot s h l;
        single = λ s. tt;
        apart = λ s r b i j. absurd i;
      },
      λ s. refl,
    )

pub frames_begin : FramesBegin
frames_begin = record {
  marks = marks_of;
  past = marks_past;
  kind = λ size offsets e lie. kind_of size offsets (λ o h.
      let a = (lie o h).0 in
      let l = (lie o h).1 in
      (a, omega (arith, a, e, l)));
  begins = λ defs k x frame types n l. begun defs types n l k x frame;
}
