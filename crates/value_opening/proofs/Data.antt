-- The data of the module's code as they stand when all items are put.
use Rattle.std.proofs.Common.{◌≡◌, ℕ, suc, ◌+◌, ◌*◌, ◌/◌, ◌<◌, ◌≤◌, ◌⊎◌, ◌%◌, inl, inr, List, [], ◌∷◌, map}
use Rattle.std.proofs.Common.{Bool, true, false, Some, None, refl, sym, ap, ◌∙◌, subst, arith}
use Rattle.std.specs.Prelude.{slice_get}
use Rattle.limbo_types.specs.Types as ty
use Rattle.limbo_types.specs.Types.{Ty}
use Rattle.limbo_layout.specs.Adts.{Def, Has}
use Rattle.limbo_layout.specs.Layout.{Room, Laid, is_alone, reference, number, is_in}
use Rattle.limbo_layout.proofs.Rooms.{has_left, has_right, has_cases}
use Rattle.limbo_typed.specs.Typed as typed
use Rattle.limbo_typed.specs.Sound.{Each}
use Rattle.limbo_values.specs.declared.number.Kind.TheVariants as kind
use Rattle.limbo_meaning.specs.Values.{Value, zero_of}
use Rattle.limbo_meaning.specs.Values as value
use Rattle.core_code.proofs.Rounds.{rounds_give_rooms}
use Rattle.dis_meaning.specs.Words as words
use Rattle.dis_meaning.specs.Words.{Refer, blank, blank_word}
use Rattle.dis_objects.specs.Spelled.{AreSpelled}
use Rattle.value_words.specs.Contents as contents
use Rattle.value_words.specs.Contents.{content, content_in, AreBlank, IsOfReference}
use Rattle.value_words.specs.Facts.{Facts}
use Rattle.value_words.specs.Stands.{Stands}
use Rattle.value_words.proofs.Blank.{has_map, mapped, laid_within, stands_zero}
use Rattle.value_words.proofs.Bytes.{zero_byte}
use Rattle.value_words.proofs.Aligned.{IsPower, laid_power}
use Rattle.value_heaps.specs.Blocks.{Constant, HasConstant}
use Rattle.value_heaps.proofs.Marks.{among, is_among, at_word}
use Rattle.value_heaps.proofs.Made.{word_by, get_blanks}
use Rattle.value_frames.specs.Frames.{room_for}
use Rattle.value_frames.specs.Types.{desc, AreOf}
use Rattle.value_frames.proofs.Beginning.{frames_begin}
use Rattle.value_code.specs.Data.{Datum, Text, Word, Long, Zero, datum_room}
use Rattle.value_code.specs.Objects.{datum_bytes, end_of, data_references, items_from, placed, constants_from}
use Rattle.value_opening.specs.Puts.{Put, OfText, OfNumber, item_of, text_of, texts_of, Takes, TakesAll}
use Rattle.value_opening.specs.Putting.{IsPut, ArePut, AllApart}
use Rattle.value_opening.specs.Laws.{WordsMade}
use Rattle.value_opening.specs.Opening.{puts_from, Suits}
use Rattle.value_opening.proofs.Regions.{HasTexts, text_here, texts_rest, kind_after, stands_apart, first_put, number_stands, text_stands}

-- ---- words as they are made

module _ (size : ℕ) (offsets : List ℕ) (whole : size % 4 ≡ 0) where
  abbrev made : List words.Word
  made = blank (desc size offsets)

  pub word_is : (w : ℕ) → w < size / 4 → slice_get made w ≡ Some (word_by (is_in (4 * w) offsets))
  word_is w l =
      get_blanks (desc size offsets) 0 (size / 4) w l
      ∙ ap (λ k. Some (blank_word (desc size offsets) k)) (let e : 0 + w ≡ w = omega arith in e)
      ∙ ap (λ b. Some (word_by b)) (frames_begin.marks size offsets w (omega (arith, l)))

  -- From a byte on they are as they were made.
  abbrev pub AreNew : List words.Word → (from : ℕ) → Type 0
  AreNew ws from = (w : ℕ) → from ≤ 4 * w → slice_get ws w ≡ slice_get made w

  -- Such words are blank where a room has those of the references that lie there.
  pub blank_there : (ws : List words.Word) (from at : ℕ) (r : Room) → from % 4 ≡ 0 → from ≤ at → at + r.size ≤ size → AreNew ws from
      → ((o : ℕ) → Has r.references o → Has offsets (at + o) × ((at + o) % 4 ≡ 0) × (o + 4 ≤ r.size))
      → ((w : ℕ) → Has offsets (4 * w) → 4 * w < at + r.size → at < 4 * w + 4 → (o : ℕ) × Has r.references o × (at + o ≡ 4 * w))
      → AreBlank ws at r
  blank_there ws from at r even behind fits new here only = record { refer = refers; zeros = zeros }
    where
      refers : (o : ℕ) → Has r.references o → slice_get ws ((at + o) / 4) ≡ Some (Refer None)
      refers o h =
          let a = here o h in
          let b = a.1 in
          let c = a.2 in
          let e : 4 * ((at + o) / 4) ≡ at + o = omega (arith, b) in
          new ((at + o) / 4) (omega (arith, e, behind))
          ∙ word_is ((at + o) / 4) (omega (arith, e, fits, c, whole))
          ∙ ap (λ b. Some (word_by b)) (ap (λ n. is_in n offsets) e ∙ is_among (at + o) offsets a.0)

      zeros : (o : ℕ) → o < r.size → (content ws (at + o) ≡ Some (contents.Byte 0)) ⊎ IsOfReference r o
      zeros o l = go (is_in (4 * ((at + o) / 4)) offsets) refl
          (new ((at + o) / 4) (omega (arith, even, behind)) ∙ word_is ((at + o) / 4) (omega (arith, l, fits, whole)))
        where
          go : (b : Bool) → is_in (4 * ((at + o) / 4)) offsets ≡ b
              → slice_get ws ((at + o) / 4) ≡ Some (word_by (is_in (4 * ((at + o) / 4)) offsets))
              → (content ws (at + o) ≡ Some (contents.Byte 0)) ⊎ IsOfReference r o
          go true e f =
              let q = only ((at + o) / 4) (among (4 * ((at + o) / 4)) offsets e) (omega (arith, l)) (omega arith) in
              let g = q.2 in
              inr (q.0, q.1, omega (arith, g), omega (arith, g))
          go false e f =
              inl (ap (λ w. content_in w ((at + o) % 4)) (f ∙ ap (λ b. Some (word_by b)) e)
              ∙ ap (λ b. Some (contents.Byte b)) (zero_byte ((at + o) % 4) (omega arith)))

  -- What is in a row of words of a type, of a room that has those of its references that lie there, is a constant.
  pub constant_there : (defs : List Def) (k : Facts) (ws : List words.Word) (at : ℕ) (t : Ty) (v : Value) (r : Room)
      → AreOf size offsets ws → Laid defs t r → at % r.align ≡ 0 → at + r.size ≤ size
      → ((q : ℕ) → Has offsets q → at ≤ q → q < at + r.size → (o : ℕ) × Has r.references o × (at + o ≡ q))
      → Stands defs k ws at t v → HasConstant defs k ws (record { at = at; type = t; value = v })
  constant_there defs k ws at t v r kind laid aligned fits only s = record {
    room = r;
    laid = laid;
    aligned = aligned;
    whole = (λ w i. let many = kind.many in let l = i.1 in omega (arith, many, l, fits, whole), kind.ranged);
    stands = s;
    refer_only = λ w to e i. only (4 * w) (kind.only w to e) i.0 i.1;
  }

pub words_made : WordsMade
words_made = record {
  refer = λ size offsets o whole h even l.
      let e : 4 * (o / 4) ≡ o = omega (arith, even) in
      word_is size offsets whole (o / 4) (omega (arith, whole, l))
      ∙ ap (λ b. Some (word_by b)) (ap (λ n. is_in n offsets) e ∙ is_among o offsets h);
  zero = λ size offsets w whole l none.
      word_is size offsets whole w l ∙ ap (λ b. Some (word_by b)) (not_in (4 * w) offsets none);
}
  where
    not_in : (n : ℕ) (ms : List ℕ) → (Has ms n → ⊥) → is_in n ms ≡ false
    not_in n ms none = go (is_in n ms) refl
      where
        go : (b : Bool) → is_in n ms ≡ b → b ≡ false
        go true e = absurd (none (among n ms e))
        go false e = refl

-- ---- data

module _ (m : typed.Module) where
  abbrev defs : List Def
  defs = m.adts

  abbrev type_of : Datum → Ty
  type_of (Text t) = ty.Chars
  type_of (Word z) = ty.Int
  type_of (Long z) = ty.Big
  type_of (Zero t) = t

  datum_laid : (d : Datum) → Suits m d → Laid defs (type_of d) (datum_room defs d)
  datum_laid (Text t) s = is_alone ty.Chars reference refl
  datum_laid (Word z) s = is_alone ty.Int (number 4) refl
  datum_laid (Long z) s = is_alone ty.Big (number 8) refl
  datum_laid (Zero t) s = subst (λ (r : Room). Laid defs t r) (sym (rounds_give_rooms.rooms defs t s.0 s.1)) s.1

  pub end_grows : (ds : List Datum) (at : ℕ) → at ≤ end_of m at ds
  end_grows [] at = omega arith
  end_grows (d ∷ ds) at = let l = end_grows ds (at + datum_bytes m d) in omega (arith, l)

  -- Words that refer among data are at whole words.
  pub references_lie : (ds : List Datum) (at : ℕ) → at % 8 ≡ 0 → Each (Suits m) ds → (q : ℕ) → Has (data_references m at ds) q
      → (at ≤ q) × (q % 4 ≡ 0) × (q + 4 ≤ end_of m at ds)
  references_lie [] at even s q h = absurd h
  references_lie (d ∷ ds) at even s q h =
      elim (has_cases (map (λ o. at + o) (datum_room defs d).references) (data_references m (at + datum_bytes m d) ds) q h) [
        | inl i ↦
            let o = mapped (λ o. at + o) (datum_room defs d).references q i in
            let e = o.2 in
            let a = at_word defs (type_of d) (datum_room defs d) o.0 (datum_laid d s.0) o.1 in
            let l = laid_within defs (type_of d) (datum_room defs d) (datum_laid d s.0) o.0 o.1 in
            let g = end_grows ds (at + datum_bytes m d) in
            (omega (arith, e), omega (arith, e, a, even), omega (arith, e, l, g))
        | inr i ↦
            let r = references_lie ds (at + datum_bytes m d) (omega (arith, even)) s.1 q i in
            let a = r.0 in
            (omega (arith, a), r.1, r.2)
      ]

  -- what is put for data lies behind what is before them
  pub puts_behind : (ds : List Datum) (from long at : ℕ) → from + long ≤ at → AllApart from long (puts_from m at ds)
  puts_behind [] from long at l = tt
  puts_behind (Text t ∷ ds) from long at l = (inl l, puts_behind ds from long (at + datum_bytes m (Text t)) (omega (arith, l)))
  puts_behind (Word z ∷ ds) from long at l = (inl l, puts_behind ds from long (at + datum_bytes m (Word z)) (omega (arith, l)))
  puts_behind (Long z ∷ ds) from long at l = (inl l, puts_behind ds from long (at + datum_bytes m (Long z)) (omega (arith, l)))
  puts_behind (Zero t ∷ ds) from long at l = puts_behind ds from long (at + datum_bytes m (Zero t)) (omega (arith, l))

  -- the items of data are those of what is put
  pub data_items : (ds : List Datum) (at : ℕ) → items_from m at ds ≡ map item_of (puts_from m at ds)
  data_items [] at = refl
  data_items (Text t ∷ ds) at = ap (λ is. item_of (OfText at t) ∷ is) (data_items ds (at + datum_bytes m (Text t)))
  data_items (Word z ∷ ds) at = ap (λ is. item_of (OfNumber at kind.Int z) ∷ is) (data_items ds (at + datum_bytes m (Word z)))
  data_items (Long z ∷ ds) at = ap (λ is. item_of (OfNumber at kind.Big z) ∷ is) (data_items ds (at + datum_bytes m (Long z)))
  data_items (Zero t ∷ ds) at = data_items ds (at + datum_bytes m (Zero t))

  module _ (size : ℕ) (offsets : List ℕ) (whole : size % 4 ≡ 0) where
    -- From a byte on the references are those of these data.
    abbrev pub Only : (at : ℕ) → List Datum → Type 0
    Only at ds = (q : ℕ) → Has offsets q → at ≤ q → Has (data_references m at ds) q

    abbrev pub All : (at : ℕ) → List Datum → Type 0
    All at ds = (q : ℕ) → Has (data_references m at ds) q → Has offsets q

    module _ (d : Datum) (ds : List Datum) (at : ℕ) (even : at % 8 ≡ 0) (s : Each (Suits m) (d ∷ ds)) (only : Only at (d ∷ ds))
        (all : All at (d ∷ ds)) (ends : end_of m at (d ∷ ds) ≤ size) where
      abbrev room : Room
      room = datum_room defs d

      abbrev next : ℕ
      next = at + datum_bytes m d

      fits : at + room.size ≤ size
      fits = let g = end_grows ds next in omega (arith, g, ends)

      only_here : (q : ℕ) → Has offsets q → at ≤ q → q < at + room.size → (o : ℕ) × Has room.references o × (at + o ≡ q)
      only_here q h a l = elim (has_cases (map (λ o. at + o) room.references) (data_references m next ds) q (only q h a)) [
        | inl i ↦ mapped (λ o. at + o) room.references q i
        | inr i ↦ absurd (let r = references_lie ds next (omega (arith, even)) s.1 q i in let b = r.0 in omega (arith, b, l))
      ]

      here : (o : ℕ) → Has room.references o → Has offsets (at + o) × ((at + o) % 4 ≡ 0) × (o + 4 ≤ room.size)
      here o h = (
        all (at + o) (has_left (map (λ o. at + o) room.references) (data_references m next ds) (at + o)
            (has_map (λ o. at + o) room.references o h)),
        (let a = at_word defs (type_of d) room o (datum_laid d s.0) h in omega (arith, a, even)),
        laid_within defs (type_of d) room (datum_laid d s.0) o h,
      )

      only_next : Only next ds
      only_next q h a =
          elim (has_cases (map (λ o. at + o) room.references) (data_references m next ds) q (only q h (omega (arith, a)))) [
            | inl i ↦ absurd (
                let o = mapped (λ o. at + o) room.references q i in
                let e = o.2 in
                let l = laid_within defs (type_of d) room (datum_laid d s.0) o.0 o.1 in
                omega (arith, e, l, a))
            | inr i ↦ i
          ]

      all_next : All next ds
      all_next q h = all q (has_right (map (λ o. at + o) room.references) (data_references m next ds) q h)

      aligned : at % room.align ≡ 0
      aligned = go (laid_power defs (type_of d) room (datum_laid d s.0))
        where
          go : IsPower room.align → at % room.align ≡ 0
          go (inl e) = ap (λ n. at % n) e ∙ (let f : at % 1 ≡ 0 = omega arith in f)
          go (inr (inl e)) = ap (λ n. at % n) e ∙ (let f : at % 4 ≡ 0 = omega (arith, even) in f)
          go (inr (inr e)) = ap (λ n. at % n) e ∙ even

    -- data take what is put for them
    pub data_take : (ds : List Datum) (at : ℕ) → at % 8 ≡ 0 → Each (Suits m) ds → Only at ds → All at ds → end_of m at ds ≤ size
        → AreSpelled (items_from m at ds) → TakesAll size offsets (puts_from m at ds)
    data_take [] at even s only all ends spelled = tt
    data_take (Text t ∷ ds) at even s only all ends spelled = (
      (omega (arith, even), all at (inl (let e : at + 0 ≡ at = omega arith in e)), spelled.0 refl),
      data_take ds (at + 8) (omega (arith, even)) s.1 (only_next (Text t) ds at even s only all ends)
          (all_next (Text t) ds at even s only all ends) ends spelled.1,
    )
    data_take (Word z ∷ ds) at even s only all ends spelled =
        let f = fits (Word z) ds at even s only all ends in (
          (
            (
              omega (arith, even),
              (
                omega (arith, even, f, whole),
                λ h.
                    let o = only_here (Word z) ds at even s only all ends (4 * (at / 4)) h (omega (arith, even)) (omega (arith, even)) in
                    o.1,
              ),
            ),
            s.0,
          ),
          data_take ds (at + 8) (omega (arith, even)) s.1 (only_next (Word z) ds at even s only all ends)
              (all_next (Word z) ds at even s only all ends) ends spelled.1,
        )
    data_take (Long z ∷ ds) at even s only all ends spelled =
        let f = fits (Long z) ds at even s only all ends in (
          (
            (
              omega (arith, even),
              (
                omega (arith, even, f, whole),
                λ h.
                    let o = only_here (Long z) ds at even s only all ends (4 * (at / 4)) h (omega (arith, even)) (omega (arith, even)) in o.1,
              ),
              (
                omega (arith, even, f, whole),
                λ h.
                    let o = only_here (Long z) ds at even s only all ends (4 * suc (at / 4)) h (omega (arith, even)) (omega (arith, even)) in
                    o.1,
              ),
            ),
            s.0,
          ),
          data_take ds (at + 8) (omega (arith, even)) s.1 (only_next (Long z) ds at even s only all ends)
              (all_next (Long z) ds at even s only all ends) ends spelled.1,
        )
    data_take (Zero t ∷ ds) at even s only all ends spelled =
        data_take ds (at + datum_bytes m (Zero t)) (omega (arith, even)) s.1 (only_next (Zero t) ds at even s only all ends)
        (all_next (Zero t) ds at even s only all ends) ends spelled

    -- ---- the constants

    module _ (k : Facts) where
      -- One, once what was put for it stands there, and the others lie behind it.
      module _ (d : Datum) (ds : List Datum) (at : ℕ) (even : at % 8 ≡ 0) (s : Each (Suits m) (d ∷ ds)) (only : Only at (d ∷ ds))
          (all : All at (d ∷ ds)) (ends : end_of m at (d ∷ ds) ≤ size) where
        first_there : (ws others : List words.Word) (n : ℕ) → AreOf size offsets ws
            → ArePut size offsets ws others n (puts_from m (next d ds at even s only all ends) ds) → (v : Value)
            → Stands defs k ws at (type_of d) v → HasConstant defs k others (placed m at (type_of d) v)
        first_there ws others n kind rest v stands =
            let r = room d ds at even s only all ends in
            let l = datum_laid d s.0 in
            let a = aligned d ds at even s only all ends in
            let ps = puts_from m (next d ds at even s only all ends) ds in
            constant_there size offsets whole defs k others at (type_of d) v r
            (kind_after size offsets ws others n ps rest kind) l a
            (fits d ds at even s only all ends) (only_here d ds at even s only all ends)
            (stands_apart size offsets defs k ws others n ps rest kind at (type_of d) r v l a
            (puts_behind ds at r.size (next d ds at even s only all ends) (omega arith)) stands)

        -- a number or a text
        new_still : (ws between : List words.Word) (n : ℕ) (p : Put) → IsPut size offsets ws between n p → AreNew size offsets whole ws at
            → Rattle.value_opening.specs.Puts.place p + Rattle.value_opening.specs.Puts.extent p
            ≤ next d ds at even s only all ends
            → AreNew size offsets whole between (next d ds at even s only all ends)
        new_still ws between n p one new l w h = (one.changes).words w (inr (omega (arith, l, h))) ∙ new w (omega (arith, h))

      pub data_stand : (ds : List Datum) (at : ℕ) → at % 8 ≡ 0 → Each (Suits m) ds → Only at ds → All at ds → end_of m at ds ≤ size
          → (ws others : List words.Word) (n : ℕ) → ArePut size offsets ws others n (puts_from m at ds) → AreOf size offsets ws
          → HasTexts k n (texts_of (puts_from m at ds)) → AreNew size offsets whole ws at
          → (c : Constant) → Has (constants_from m at ds) c → HasConstant defs k others c
      data_stand [] at even s only all ends ws others n put are texts new c h = absurd h
      data_stand (Text t ∷ ds) at even s only all ends ws others n put are texts new c h =
          let p = OfText at t in
          let ps = puts_from m (at + 8) ds in
          let f = first_put size offsets ws others n (p ∷ ps) put p ps refl in
          let one = f.1 in
          elim h [
            | inl e ↦ subst (λ (c : Constant). HasConstant defs k others c) e
                (first_there (Text t) ds at even s only all ends f.0 others (n + 1) one.kind f.2 (value.Chars t)
                (text_stands size offsets defs k ws f.0 n at t one
                (text_here k n (texts_of (p ∷ ps)) t refl texts)))
            | inr i ↦ data_stand ds (at + 8) (omega (arith, even)) s.1 (only_next (Text t) ds at even s only all ends)
                (all_next (Text t) ds at even s only all ends) ends f.0 others (n + 1) f.2 one.kind
                (texts_rest k n (t ∷ []) (texts_of ps) texts)
                (new_still (Text t) ds at even s only all ends ws f.0 n p one new (omega arith)) c i
          ]
      data_stand (Word z ∷ ds) at even s only all ends ws others n put are texts new c h =
          let p = OfNumber at kind.Int z in
          let ps = puts_from m (at + 8) ds in
          let f = first_put size offsets ws others n (p ∷ ps) put p ps refl in
          let one = f.1 in
          elim h [
            | inl e ↦ subst (λ (c : Constant). HasConstant defs k others c) e
                (first_there (Word z) ds at even s only all ends f.0 others (n + 0) one.kind f.2 (value.Num z)
                (number_stands size offsets defs k ws f.0 n at kind.Int z one s.0))
            | inr i ↦ data_stand ds (at + 8) (omega (arith, even)) s.1 (only_next (Word z) ds at even s only all ends)
                (all_next (Word z) ds at even s only all ends) ends f.0 others (n + 0) f.2 one.kind
                (texts_rest k n [] (texts_of ps) texts)
                (new_still (Word z) ds at even s only all ends ws f.0 n p one new (omega arith)) c i
          ]
      data_stand (Long z ∷ ds) at even s only all ends ws others n put are texts new c h =
          let p = OfNumber at kind.Big z in
          let ps = puts_from m (at + 8) ds in
          let f = first_put size offsets ws others n (p ∷ ps) put p ps refl in
          let one = f.1 in
          elim h [
            | inl e ↦ subst (λ (c : Constant). HasConstant defs k others c) e
                (first_there (Long z) ds at even s only all ends f.0 others (n + 0) one.kind f.2 (value.Num z)
                (number_stands size offsets defs k ws f.0 n at kind.Big z one s.0))
            | inr i ↦ data_stand ds (at + 8) (omega (arith, even)) s.1 (only_next (Long z) ds at even s only all ends)
                (all_next (Long z) ds at even s only all ends) ends f.0 others (n + 0) f.2 one.kind
                (texts_rest k n [] (texts_of ps) texts)
                (new_still (Long z) ds at even s only all ends ws f.0 n p one new (omega arith)) c i
          ]
      data_stand (Zero t ∷ ds) at even s only all ends ws others n put are texts new c h =
          let d = Zero t in
          let on = next d ds at even s only all ends in
          elim h [
            | inl e ↦ subst (λ (c : Constant). HasConstant defs k others c) e
                (first_there d ds at even s only all ends ws others n are put (zero_of defs t)
                (stands_zero defs k ws are.ranged at t (room_for defs t) (datum_laid d s.0) (aligned d ds at even s only all ends)
                (blank_there size offsets whole ws at at (room_for defs t) (omega (arith, even)) (omega arith)
                (fits d ds at even s only all ends) new (here d ds at even s only all ends)
                (λ w g l b. only_here d ds at even s only all ends (4 * w) g (omega (arith, b, even)) l))))
            | inr i ↦ data_stand ds on (omega (arith, even)) s.1 (only_next d ds at even s only all ends)
                (all_next d ds at even s only all ends) ends ws others n put are texts (λ w l. new w (omega (arith, l))) c i
          ]
