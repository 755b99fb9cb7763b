-- What lies in a block, and for what it stands once part of it is written.
use Rattle.std.proofs.Common.{◌≡◌, ℕ, zero, suc, pos, ◌+◌, ◌*◌, ◌<◌, ◌≤◌, ◌⊎◌, ◌%◌, ◌/◌, List, [], ◌∷◌, length, Option, Some}
use Rattle.std.proofs.Common.{refl, sym, ap, ◌∙◌, subst, arith, inl, inr}
use Rattle.std.specs.Prelude.{slice_get, slice_set}
use Rattle.std.proofs.Math.Nat.{mul-mod_left, mul-le-mul_right, mul_assoc, suc-mul, zero-mod}
use Rattle.std.proofs.lemmas.Nat.{div-add-mod'}
use Rattle.std.proofs.lemmas.Bool.Decides.{eqb_tells, leb_tells}
use Rattle.heap_model.specs.Facts.{Chars}
use Rattle.limbo_types.specs.Types as ty
use Rattle.limbo_types.specs.Types.{Ty}
use Rattle.limbo_layout.specs.Adts.{Def, Has}
use Rattle.limbo_layout.specs.Layout.{Room, Laid, AllLaid, nothing, all_behind}
use Rattle.limbo_layout.specs.Laying.{rooms_of}
use Rattle.limbo_values.specs.declared.number.Kind.TheVariants.{Int}
use Rattle.limbo_values.specs.Numbers.{InRange}
use Rattle.limbo_meaning.specs.Values.{Value}
use Rattle.limbo_meaning.specs.Memory as source
use Rattle.limbo_meaning.specs.Memory.{HeapValue}
use Rattle.limbo_meaning.specs.Places.{with_part}
use Rattle.core_code.specs.Rooms.{rooms_in}
use Rattle.core_code.proofs.Rounds.{rounds_give_rooms}
use Rattle.dis_file.specs.declared.types.TypeDesc.{TypeDesc}
use Rattle.dis_meaning.specs.Words.{Word, Refer}
use Rattle.dis_memory.specs.Blocks as block
use Rattle.dis_memory.specs.Blocks.{Block}
use Rattle.value_words.specs.Contents.{AreInRange}
use Rattle.value_words.specs.Facts.{Facts}
use Rattle.value_words.specs.Forms as form
use Rattle.value_words.specs.Forms.{Cells, Adts, Instances}
use Rattle.value_words.specs.Stands.{Stands, AllStand}
use Rattle.value_words.proofs.Aligned.{laid_power}
use Rattle.value_words.proofs.Blank.{laid_within}
use Rattle.value_words.proofs.Moved.{moved}
use Rattle.value_words.proofs.Rows.{below, set_other, set_same}
use Rattle.value_heaps.specs.Types.{desc_of}
use Rattle.value_heaps.specs.Blocks.{Constant, HasConstant, IsBlock, elements, cell, record_of, channel, instance_of, AreWhole}
use Rattle.value_heaps.specs.Blocks.{ReferOnlyThere, IsWithin, globals_place}
use Rattle.value_heaps.proofs.Formed as formed
use Rattle.value_heaps.proofs.Marks.{laid_size}
use Rattle.value_frames.specs.Frames.{room_for, row_of, within_row, within}
use Rattle.value_moves.specs.Writing.{Writes, Lies}
use Rattle.value_stores.specs.Paths.{room_within, RowLies}
use Rattle.value_stores.specs.Stores.{IsPlaced, PartIsWritten, ConstantsApart, BlocksChange, AllBlocksChange}
use Rattle.value_stores.proofs.Rooms.{at_words, by_four, part_ends, room_there, place_there}
use Rattle.value_stores.proofs.Parts.{parts_lie, only_stays, whole_stays}
use Rattle.value_stores.proofs.Standing.{path_ends}

-- ---- one of a list replaced

set_long : {A : Type 0} (xs : List A) (i : ℕ) (y : A) → length (slice_set xs i y) ≡ length xs
set_long [] zero y = refl
set_long [] (suc i) y = refl
set_long (x ∷ xs) zero y = refl
set_long (x ∷ xs) (suc i) y = ap suc (set_long xs i y)

set_gives : {A : Type 0} (xs : List A) (i : ℕ) (x y z : A) → slice_get xs i ≡ Some x → slice_get (slice_set xs i y) i ≡ Some z → y ≡ z
set_gives xs i x y z e f = let g : Some y ≡ Some z = sym (set_same xs i y x e) ∙ f in cc

-- ---- places of elements

multiple : (i n a : ℕ) → n % a ≡ 0 → (i * n) % a ≡ 0
multiple i n a e =
    let f : n ≡ n / a * a = let d = div-add-mod' n a in omega (arith, d, e) in
    ap (λ m. (i * m) % a) f ∙ ap (λ m. m % a) (sym (mul_assoc i (n / a) a)) ∙ mul-mod_left (i * (n / a)) a

before_next : (i j size : ℕ) → i < j → i * size + size ≤ j * size
before_next i j size l = let a = mul-le-mul_right size l in let b = suc-mul i size in omega (arith, a, b)

elements_apart : (i j size : ℕ) → (j ≡ i → ⊥) → (j * size + size ≤ i * size) ⊎ (i * size + size ≤ j * size)
elements_apart i j size n = elim (leb_tells i j) [
  | inl y ↦ let l = y.1 in inr (before_next i j size (omega (arith, n, l)))
  | inr y ↦ let l = y.1 in inl (before_next j i size (omega (arith, l)))
]

same_element : (i j o size byte : ℕ) → o < size → j * size + o ≡ byte → i * size ≤ byte → byte < i * size + size → j ≡ i
same_element i j o size byte l e f g = elim (eqb_tells j i) [
  | inl y ↦ y.1
  | inr y ↦ elim (elements_apart i j size y.1) [
    | inl m ↦ absurd (omega (arith, l, e, f, m))
    | inr m ↦ absurd (omega (arith, e, g, m))
  ]
]

-- ---- what is written

module _ (target others : List Word) (to : ℕ) (source : List Word) (from size : ℕ) (w : Writes target others to source from size) where
  -- what lies apart stands as it stood
  stays_apart : (defs : List Def) (k : Facts) (at : ℕ) (t : Ty) (r : Room) (v : Value) → AreInRange target → AreInRange others
      → Laid defs t r → at % r.align ≡ 0 → (at + r.size ≤ to) ⊎ (to + size ≤ at) → Stands defs k target at t v
      → Stands defs k others at t v
  stays_apart defs k at t r v ranges in_range l a apart h =
      moved target others ranges in_range defs k at at t r v l a (λ o i. w.bytes (at + o) (outside o i apart)) h
    where
      outside : (o : ℕ) → o < r.size → (at + r.size ≤ to) ⊎ (to + size ≤ at) → (at + o < to) ⊎ (to + size ≤ at + o)
      outside o i (inl m) = inl (omega (arith, i, m))
      outside o i (inr m) = inr (omega (arith, m))

  -- a word that refers to something is among those around, or as it was
  refers_within : (at whole : ℕ) → at % 4 ≡ 0 → at ≤ to → to + size ≤ at + whole → (word b : ℕ)
      → slice_get others word ≡ Some (Refer (Some b)) → IsWithin at whole word ⊎ (slice_get target word ≡ Some (Refer (Some b)))
  refers_within at whole a low high word b e = elim (leb_tells (4 * word + 4) to) [
    | inl y ↦ inr (sym (w.words word (inl y.1)) ∙ e)
    | inr y ↦ elim (leb_tells (to + size) (4 * word)) [
      | inl z ↦ inr (sym (w.words word (inr z.1)) ∙ e)
      | inr z ↦ let l = y.1 in let m = z.1 in inl (omega (arith, a, low, l), omega (arith, high, m))
    ]
  ]

placed : (defs : List Def) (k : Facts) (words : List Word) (at : ℕ) (t : Ty) (v : Value) → Lies defs k words at t (room_for defs t) v
    → IsPlaced defs k words at t v
placed defs k words at t v l = (l, parts_lie.another defs k words at t (room_for defs t) v l)

module _ (defs : List Def) (globals : List Ty) (constants : List Constant) (k : Facts) (serial : ℕ) where
  abbrev Stand : HeapValue → Block → Type 0
  Stand v b = IsBlock defs globals constants k serial v b

  -- a value lies there with part of it written
  new_value : (words others : List Word) (at : ℕ) (t : Ty) (part : List ℕ) (v u : Value) → Lies defs k words at t (room_for defs t) v
      → PartIsWritten defs k words others at t part u → Lies defs k others at t (room_for defs t) (with_part part u v)
  new_value words others at t part v u l p =
      parts_lie.written defs k words others at t part v u p.source p.from p.path l p.writes p.lies

  -- ---- arrays

  record Elements (t : Ty) (words : List Word) (vs : List Value) (r : Room) : Type 0 where
    formed : k.form serial ≡ Some (form.Elements t (length vs))
    laid : Laid defs t r
    counted : InRange Int (pos (length vs))
    whole : AreWhole words 0 (length vs * r.size)
    each : (i : ℕ) (v : Value) → slice_get vs i ≡ Some v → Stands defs k words (i * r.size) t v
    only : (w : ℕ) (to : Option ℕ) → slice_get words w ≡ Some (Refer to)
        → (i : ℕ) × (i < length vs) × ((o : ℕ) × Has r.references o × (i * r.size + o ≡ 4 * w))

  array_of : (t : Ty) (desc : TypeDesc) (long n : ℕ) (words : List Word) (vs : List Value)
      → Stand (source.Elements vs) (block.Array desc long words) → k.form serial ≡ Some (form.Elements t n)
      → (length vs ≡ long) × (long ≡ n) × (desc ≡ desc_of (room_for defs t)) × Elements t words vs (room_for defs t)
  array_of t desc long n words vs b e =
      let a = formed.are_elements defs globals constants k serial (source.Elements vs) (block.Array desc long words) t n b e in
      let f : source.Elements vs ≡ source.Elements a.values = a.value in
      let g : block.Array desc long words ≡ block.Array (desc_of a.room) n a.words = a.is in
      let values : vs ≡ a.values = cc in
      let many : long ≡ n = cc in
      let type : desc ≡ desc_of a.room = cc in
      let same : words ≡ a.words = cc in
      let room : room_for defs t ≡ a.room = rounds_give_rooms.rooms defs t a.room a.laid in
      let count : length a.values ≡ n = a.count in (
        ap length values ∙ count ∙ sym many,
        many,
        type ∙ ap desc_of (sym room),
        subst (λ (r : Room). Elements t words vs r) (sym room)
            (subst (λ (us : List Value). Elements t words us a.room) (sym values)
            (subst (λ (ws : List Word). Elements t ws a.values a.room) (sym same)
            (record {
              formed = e ∙ ap (λ (m : ℕ). Some (form.Elements t m)) (sym count);
              laid = a.laid;
              counted = subst (λ (m : ℕ). InRange Int (pos m)) (sym count) a.counted;
              whole = subst (λ (m : ℕ). AreWhole a.words 0 (m * a.room.size)) (sym count) a.whole;
              each = a.each;
              only = λ w to h.
                  let x = a.only w to h in
                  (x.0, subst (λ (m : ℕ). x.0 < m) (sym count) x.1, x.2);
            }))),
      )

  module _ (t : Ty) (words : List Word) (vs : List Value) (r : Room) (a : Elements t words vs r) (i : ℕ) (v : Value)
      (there : slice_get vs i ≡ Some v) where
    within_all : i * r.size + r.size ≤ length vs * r.size
    within_all = before_next i (length vs) r.size (below vs i v there)

    no_reference : 0 < r.size → ((i * r.size) % 4 ≡ 0 → ⊥) → (to : Option ℕ) → slice_get words (i * r.size / 4) ≡ Some (Refer to) → ⊥
    no_reference l odd to e =
        let x = a.only (i * r.size / 4) to e in
        let o = x.2 in
        let m = at_words defs t r o.0 a.laid o.1 in
        odd (by_four (i * r.size) r.align (laid_power defs t r a.laid) m (multiple i r.size r.align (laid_size defs t r a.laid)))

    element_lies : Lies defs k words (i * r.size) t r v
    element_lies =
        let all = within_all in
        record {
          laid = a.laid;
          aligned = multiple i r.size r.align (laid_size defs t r a.laid);
          whole = (λ w h. a.whole.0 w (omega arith, let q = h.1 in omega (arith, q, all)), a.whole.1);
          only = λ w to e h.
              let x = a.only w to e in
              let o = x.2 in
              let inside = laid_within defs t r a.laid o.0 o.1 in
              let here = o.2 in
              let low = h.0 in
              let high = h.1 in
              let same = same_element i x.0 o.0 r.size (4 * w) (omega (arith, inside)) here low high in
              (o.0, o.1, ap (λ (j : ℕ). j * r.size + o.0) (sym same) ∙ here);
          stands = a.each i v there;
        }

  module _ (t : Ty) (words others : List Word) (vs : List Value) (i : ℕ) (v u : Value) (part : List ℕ)
      (a : Elements t words vs (room_for defs t)) (e : slice_get vs i ≡ Some v)
      (p : PartIsWritten defs k words others (i * (room_for defs t).size) t part u) where
    abbrev r : Room
    r = room_for defs t

    abbrev us : List Value
    us = slice_set vs i (with_part part u v)

    abbrev to : ℕ
    to = i * (room_for defs t).size + within defs t part

    abbrev size : ℕ
    size = (room_within defs t part).size

    many : length us ≡ length vs
    many = set_long vs i (with_part part u v)

    new_lies : Lies defs k others (i * (room_for defs t).size) t r (with_part part u v)
    new_lies = new_value words others (i * r.size) t part v u (element_lies t words vs r a i v e) p

    each_stands : (j : ℕ) (x : Value) → slice_get us j ≡ Some x → Stands defs k others (j * (room_for defs t).size) t x
    each_stands j x f = elim (eqb_tells j i) [
      | inl y ↦
          let same = y.1 in
          let is = set_gives vs i v (with_part part u v) x e (ap (slice_get us) (sym same) ∙ f) in
          subst (λ (m : ℕ). Stands defs k others (m * r.size) t x) (sym same)
          (subst (λ (z : Value). Stands defs k others (i * r.size) t z) is new_lies.stands)
      | inr y ↦
          let ends = path_ends defs t part p.path a.laid in
          let apart : (j * r.size + r.size ≤ to) ⊎ (to + size ≤ j * r.size) = elim (elements_apart i j r.size y.1) [
            | inl m ↦ inl (omega (arith, m))
            | inr m ↦ inr (omega (arith, m, ends))
          ] in
          stays_apart words others to p.source p.from size p.writes defs k (j * r.size) t r x a.whole.1 p.lies.whole.1 a.laid
          (multiple j r.size r.align (laid_size defs t r a.laid)) apart (a.each j x (sym (set_other vs i j (with_part part u v) y.1) ∙ f))
    ]

    element_stands : Stand (source.Elements us) (block.Array (desc_of (room_for defs t)) (length us) others)
    element_stands =
        elements t r others us (a.formed ∙ ap (λ (m : ℕ). Some (form.Elements t m)) (sym many)) a.laid
        (subst (λ (m : ℕ). InRange Int (pos m)) (sym many) a.counted)
        (subst (λ (m : ℕ). AreWhole others 0 (m * r.size)) (sym many)
        (whole_stays words others to p.source p.from size p.writes 0 (length vs * r.size) p.lies.whole.1 a.whole))
        each_stands
        (λ w refer f. let s = p.writes.refer w refer f in let h = a.only w s.0 s.1 in (h.0, subst (λ (m : ℕ). h.0 < m) (sym many) h.1, h.2))

  element : (t : Ty) (desc : TypeDesc) (long n : ℕ) (words others : List Word) (vs : List Value) (i : ℕ) (v u : Value) (part : List ℕ)
      → Stand (source.Elements vs) (block.Array desc long words) → k.form serial ≡ Some (form.Elements t n) → slice_get vs i ≡ Some v
      → PartIsWritten defs k words others (i * (room_for defs t).size) t part u
      → Stand (source.Elements (slice_set vs i (with_part part u v))) (block.Array desc long others)
  element t desc long n words others vs i v u part b e f p =
      let a = array_of t desc long n words vs b e in
      let us = slice_set vs i (with_part part u v) in
      subst (λ (d : TypeDesc). Stand (source.Elements us) (block.Array d long others)) (sym a.2)
      (subst (λ (m : ℕ). Stand (source.Elements us) (block.Array (desc_of (room_for defs t)) m others))
      (set_long vs i (with_part part u v) ∙ a.0) (element_stands t words others vs i v u part a.3 f p))

  -- ---- the adt of a `ref`

  record RecordIs (n : ℕ) (words : List Word) (v : Value) (r : Room) : Type 0 where
    laid : Laid defs (ty.Adt n) r
    whole : AreWhole words 0 r.size
    stands : Stands defs k words 0 (ty.Adt n) v
    there : ReferOnlyThere words 0 r
    only : (w b : ℕ) → slice_get words w ≡ Some (Refer (Some b)) → IsWithin 0 r.size w

  record_is : (n : ℕ) (words : List Word) (v : Value) → Stand (source.Record v) (block.Record words) → k.form serial ≡ Some (Adts n)
      → RecordIs n words v (room_for defs (ty.Adt n))
  record_is n words v b e =
      let a = formed.is_adt defs globals constants k serial (source.Record v) (block.Record words) n b e in
      let f : source.Record v ≡ source.Record a.parts = a.value in
      let g : block.Record words ≡ block.Record a.words = a.is in
      let value : v ≡ a.parts = cc in
      let same : words ≡ a.words = cc in
      let room : room_for defs (ty.Adt n) ≡ a.room = rounds_give_rooms.rooms defs (ty.Adt n) a.room a.laid in
      subst (λ (r : Room). RecordIs n words v r) (sym room)
      (subst (λ (x : Value). RecordIs n words x a.room) (sym value)
      (subst (λ (ws : List Word). RecordIs n ws a.parts a.room) (sym same)
      (record { laid = a.laid; whole = a.whole; stands = a.stands; there = a.there; only = a.only })))

  record_lies : (n : ℕ) (words : List Word) (v : Value) → Stand (source.Record v) (block.Record words) → k.form serial ≡ Some (Adts n)
      → Lies defs k words 0 (ty.Adt n) (room_for defs (ty.Adt n)) v
  record_lies n words v b e =
      let a = record_is n words v b e in
      record {
        laid = a.laid;
        aligned = zero-mod (room_for defs (ty.Adt n)).align;
        whole = a.whole;
        only = a.there;
        stands = a.stands;
      }

  record_part : (n : ℕ) (words others : List Word) (v u : Value) (part : List ℕ) → Stand (source.Record v) (block.Record words)
      → k.form serial ≡ Some (Adts n) → PartIsWritten defs k words others 0 (ty.Adt n) part u
      → Stand (source.Record (with_part part u v)) (block.Record others)
  record_part n words others v u part b e p =
      let t = ty.Adt n in
      let a = record_is n words v b e in
      let new = new_value words others 0 t part v u (record_lies n words v b e) p in
      let ends = path_ends defs t part p.path a.laid in
      let to = 0 + within defs t part in
      let size = (room_within defs t part).size in
      record_of n (room_for defs t) others (with_part part u v) e a.laid new.whole new.stands new.only
      (λ w c f. elim (refers_within words others to p.source p.from size p.writes 0 (room_for defs t).size refl (omega arith)
      (omega (arith, ends)) w c f) [
        | inl y ↦ y
        | inr y ↦ a.only w c y
      ])

  -- ---- the module's instance

  record InstanceIs (words : List Word) (vs : List Value) : Type 0 where
    formed : k.form serial ≡ Some Instances
    lies : RowLies defs k words globals_place globals vs
    only : (w b : ℕ) → slice_get words w ≡ Some (Refer (Some b)) → IsWithin globals_place (row_of defs globals).size w
        ⊎ ((text : List ℕ) × (k.fact b ≡ Some (Chars text)))
    fixed : (c : Constant) → Has constants c → HasConstant defs k words c

  instance_is : (v : HeapValue) (b : Block) → Stand v b → (object : ℕ) (words : List Word) (vs : List Value) → v ≡ source.Instance vs
      → b ≡ block.Instance object words → InstanceIs words vs
  instance_is _ _ (elements t r ws us f l few whole each only) object words vs e g = absurd cc
  instance_is _ _ (cell t r ws v tail rest f l whole s there only i older) object words vs e g = absurd cc
  instance_is _ _ (record_of n r ws v f l whole s there only) object words vs e g = absurd cc
  instance_is _ _ (channel t desc f) object words vs e g = absurd cc
  instance_is _ _ (instance_of o rs ws us f l whole all there only fixed) object words vs e g =
      let values : us ≡ vs = cc in
      let same : ws ≡ words = cc in
      let rooms : rs ≡ rooms_of (rooms_in defs) globals = sym (rounds_give_rooms.rows defs globals rs l) in
      subst (λ (xs : List Value). InstanceIs words xs) values
      (subst (λ (xs : List Word). InstanceIs xs us) same
      (record {
        formed = f;
        lies = record {
          laid = subst (λ (qs : List Room). AllLaid defs globals qs) rooms l;
          aligned = refl;
          whole = subst (λ (qs : List Room). AreWhole ws globals_place (all_behind nothing qs).size) rooms whole;
          only = subst (λ (qs : List Room). ReferOnlyThere ws globals_place (all_behind nothing qs)) rooms there;
          stand = subst (λ (qs : List Room). AllStand defs k ws globals_place nothing globals qs us) rooms all;
        };
        only = subst (λ (qs : List Room). (w b : ℕ) → slice_get ws w ≡ Some (Refer (Some b))
            → IsWithin globals_place (all_behind nothing qs).size w ⊎ ((text : List ℕ) × (k.fact b ≡ Some (Chars text)))) rooms only;
        fixed = fixed;
      }))

  global : (object : ℕ) (words others : List Word) (vs : List Value) (g : ℕ) (t : Ty) (v u : Value) (part : List ℕ)
      → Stand (source.Instance vs) (block.Instance object words) → ConstantsApart defs globals constants → slice_get globals g ≡ Some t
      → slice_get vs g ≡ Some v → PartIsWritten defs k words others (globals_place + within_row defs globals g) t part u
      → Stand (source.Instance (slice_set vs g (with_part part u v))) (block.Instance object others)
  global object words others vs g t v u part b apart e f p =
      let a = instance_is (source.Instance vs) (block.Instance object words) b object words vs refl refl in
      let rs = rooms_of (rooms_in defs) globals in
      let place = globals_place + within_row defs globals g in
      let to = place + within defs t part in
      let size = (room_within defs t part).size in
      let old = parts_lie.of_row defs k words globals_place globals vs g t v a.lies e f in
      let inner = path_ends defs t part p.path old.laid in
      let outer = part_ends defs nothing rs g (room_for defs t) (room_there defs globals g t e) in
      let same = place_there defs globals g t e in
      let low : globals_place ≤ to = omega arith in
      let high : to + size ≤ globals_place + (row_of defs globals).size = omega (arith, inner, outer, same) in
      let new = parts_lie.row_written defs k words others globals_place globals vs g t part v u p.source p.from a.lies e f p.path p.writes
      p.lies in
      instance_of object rs others (slice_set vs g (with_part part u v)) a.formed new.laid new.whole new.stand new.only
      (λ w c h.
      elim (refers_within words others to p.source p.from size p.writes globals_place (row_of defs globals).size refl low high w c h) [
        | inl y ↦ inl y
        | inr y ↦ a.only w c y
      ])
      (λ c h.
      let o = a.fixed c h in
      let room = ap (λ (r : Room). r.size) (rounds_give_rooms.rooms defs c.type o.room o.laid) in
      let away : (c.at + o.room.size ≤ to) ⊎ (to + size ≤ c.at) = elim (apart c h) [
        | inl m ↦ inl (omega (arith, m, low, room))
        | inr m ↦ inr (omega (arith, m, high))
      ] in
      record {
        room = o.room;
        laid = o.laid;
        aligned = o.aligned;
        whole = whole_stays words others to p.source p.from size p.writes c.at o.room.size p.lies.whole.1 o.whole;
        stands = stays_apart words others to p.source p.from size p.writes defs k c.at c.type o.room c.value o.whole.1 p.lies.whole.1 o.laid
            o.aligned away o.stands;
        refer_only = only_stays words others to p.source p.from size p.writes c.at o.room o.refer_only;
      })

  -- ---- cells

  cell_lies : (t : Ty) (words : List Word) (v : Value) (tail rest : Option ℕ) → Stand (source.Cell v tail) (block.Cell words rest)
      → k.form serial ≡ Some (Cells t) → Lies defs k words 0 t (room_for defs t) v
  cell_lies t words v tail rest b e =
      let a = formed.is_cell defs globals constants k serial (source.Cell v tail) (block.Cell words rest) t b e in
      let f : source.Cell v tail ≡ source.Cell a.head a.tail = a.value in
      let g : block.Cell words rest ≡ block.Cell a.words a.rest = a.is in
      let value : v ≡ a.head = cc in
      let same : words ≡ a.words = cc in
      let room : room_for defs t ≡ a.room = rounds_give_rooms.rooms defs t a.room a.laid in
      subst (λ (r : Room). Lies defs k words 0 t r v) (sym room)
      (subst (λ (x : Value). Lies defs k words 0 t a.room x) (sym value)
      (subst (λ (ws : List Word). Lies defs k ws 0 t a.room a.head) (sym same)
      (record {
        laid = a.laid;
        aligned = zero-mod a.room.align;
        whole = a.whole;
        only = a.there;
        stands = a.stands;
      })))

  pub change : BlocksChange defs globals constants k serial
  change = record {
    array_is = λ t desc long n words vs b e. let a = array_of t desc long n words vs b e in (a.0, a.1, a.2);
    element_lies = λ t desc long n words vs i v b e f.
        placed defs k words (i * (room_for defs t).size) t v
        (element_lies t words vs (room_for defs t) (array_of t desc long n words vs b e).3 i v f);
    element = λ t desc long n words others vs i v u part b e f p. element t desc long n words others vs i v u part b e f p;
    record_lies = λ n words v b e. placed defs k words 0 (ty.Adt n) v (record_lies n words v b e);
    record_part = λ n words others v u part b e p. record_part n words others v u part b e p;
    global_lies = λ object words vs g t v b e f.
        let a = instance_is (source.Instance vs) (block.Instance object words) b object words vs refl refl in
        placed defs k words (globals_place + within_row defs globals g) t v
        (parts_lie.of_row defs k words globals_place globals vs g t v a.lies e f);
    global = λ object words others vs g t v u part b apart e f p. global object words others vs g t v u part b apart e f p;
    cell_lies = λ t words v tail rest b e. placed defs k words 0 t v (cell_lies t words v tail rest b e);
  }

pub blocks_change : AllBlocksChange
blocks_change defs globals constants k serial = change defs globals constants k serial
