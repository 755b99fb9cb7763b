-- An operand moves to its part of what is put together in a slot.
use Rattle.std.proofs.Common.{◌≡◌, ◌⊎◌, ℕ, zero, suc, pos, ◌+◌, ◌-◌, ◌*◌, ◌/◌, ◌%◌, ◌<◌, ◌≤◌, true, List, [], ◌∷◌, length, Option, Some, None, refl}
use Rattle.std.proofs.Common.{sym, ap, subst, ◌∙◌, arith, inl, inr}
use Rattle.std.proofs.Math.Nat.{zero-mod}
use Rattle.std.specs.Prelude.{slice_get, slice_index_or}
use Rattle.process_model.specs.Follows.{Only}
use Rattle.heap_model.specs.Heap as heap
use Rattle.heap_model.specs.Heap.{there}
use Rattle.heap_model.specs.Facts.{Free, Inner}
use Rattle.heap_model.proofs.Growing.{grows_same}
use Rattle.limbo_types.specs.Types as ty
use Rattle.limbo_types.specs.Types.{Ty}
use Rattle.limbo_layout.specs.Adts.{Def, Has, parts, listed}
use Rattle.limbo_layout.specs.Layout.{Laid}
use Rattle.limbo_typed.specs.Typed as typed
use Rattle.limbo_typed.specs.Fitting.{HasPart}
use Rattle.limbo_meaning.specs.Process.{Shared}
use Rattle.limbo_meaning.specs.Values.{Value, Parts, parts_of, references, among}
use Rattle.limbo_meaning.specs.Places.{put_part}
use Rattle.core_code.specs.Machine as code
use Rattle.core_code.specs.Slots as core
use Rattle.core_code.specs.Slots.{Holds}
use Rattle.core_code.specs.Terms.{part_types, parts_there}
use Rattle.core_typing.specs.Held as held
use Rattle.dis_meaning.specs.Words.{Word, Plain, Refer, Address, word_at}
use Rattle.dis_meaning.specs.Process.{Process}
use Rattle.dis_memory.specs.Blocks.{World}
use Rattle.value_words.specs.Contents as contents
use Rattle.value_words.specs.Contents.{content, content_in}
use Rattle.value_words.specs.Forms.{OwnedBy}
use Rattle.value_words.specs.Facts.{Facts}
use Rattle.value_words.specs.Stands as memory
use Rattle.value_words.proofs.Bytes.{word_there}
use Rattle.value_heaps.proofs.Marks.{at_word}
use Rattle.value_frames.specs.Frames.{box_bytes, room_for, within, answer_place, passing_place, linkage_bytes, spare_place}
use Rattle.value_frames.specs.Frames.{frame_bytes, frame_references}
use Rattle.value_frames.specs.Slots.{ElseAsWas}
use Rattle.value_frames.proofs.Slots.{slots_change}
use Rattle.value_moves.specs.Changing.{Changes}
use Rattle.value_words.specs.Contents.{AreInRange}
use Rattle.value_follows.proofs.Standing.{stands_on}
use Rattle.value_follows.proofs.Putting.{word_same}
use Rattle.value_frames.specs.Types.{AreOf}
use Rattle.value_frames.proofs.Later.{frames_later}
use Rattle.value_frames.proofs.Replacing.{kinds_stay}
use Rattle.value_moves.specs.Writing.{Writes, Lies, HasRoom}
use Rattle.value_moves.proofs.Changing.{low_or_high}
use Rattle.value_moves.proofs.Moving.{values_move}
use Rattle.value_stores.specs.Paths.{HasPath}
use Rattle.value_stores.proofs.Parts.{parts_lie}
use Rattle.value_follows.specs.Stands.{types_of, Awaited}
use Rattle.value_follows.specs.Sides.{sides}
use Rattle.value_follows.specs.Rows.{Base}
use Rattle.value_follows.proofs.RootedValues.{has_at, stands_laid}
use Rattle.value_follows.proofs.Several.{moved_to}
use Rattle.value_follows.proofs.Waiting.{stands_anew}
use Rattle.rows_forming.proofs.Blocks.{written_world, written_sets, written_alike, written_changes}
use Rattle.rows_forming.proofs.Builds.{Builds, box_place}
use Rattle.rows_forming.proofs.Gathers.{refers_outside}

pub has_where : (ws : List Word) (v : Word) → Has ws v → (w : ℕ) × (slice_get ws w ≡ Some v)
has_where [] v h = absurd h
has_where (u ∷ ws) v (inl e) = (0, ap (λ (a : Word). Some a) e)
has_where (u ∷ ws) v (inr h) = let w = has_where ws v h in (suc w.0, w.1)

-- bytes of a reference are those of a word that refers so
refers_there : (o : Option Word) (c d : ℕ) (r : Option ℕ) → content_in o c ≡ Some (contents.Reference r d) → o ≡ Some (Refer r)
refers_there None c d r e = absurd cc
refers_there (Some (Plain z)) c d r e = absurd cc
refers_there (Some (Refer s)) c d r e = let f : s ≡ r = cc in ap (λ (a : Option ℕ). Some (Refer a)) f
refers_there (Some (Address p a)) c d r e = absurd cc

-- what is written refers to what the words did, or what is moved does
pub written_from : (target others : List Word) (to : ℕ) (source : List Word) (from size : ℕ) → Writes target others to source from size → (n : ℕ)
    → Has others (Refer (Some n)) → Has target (Refer (Some n)) ⊎ Has source (Refer (Some n))
written_from target others to source from size w n h =
    let j = has_where others (Refer (Some n)) h in
    let first : 4 * j.0 / 4 ≡ j.0 = omega arith in
    let even : 4 * j.0 % 4 ≡ 0 = omega arith in
    let here : content others (4 * j.0) ≡ Some (contents.Reference (Some n) 0) =
    ap (λ (z : ℕ). content_in (slice_get others z) (4 * j.0 % 4)) first
    ∙ (ap (λ (z : ℕ). content_in (slice_get others j.0) z) even ∙ ap (λ (o : Option Word). content_in o 0) j.1) in
    let old : content target (4 * j.0) ≡ content others (4 * j.0) → Has target (Refer (Some n)) = λ e.
    has_at target (4 * j.0 / 4) (Refer (Some n)) (refers_there (slice_get target (4 * j.0 / 4)) (4 * j.0 % 4) 0 (Some n) (e ∙ here)) in
    elim (low_or_high (4 * j.0) to) [
      | inl low ↦ inl (old (sym (w.bytes (4 * j.0) (inl low))))
      | inr high ↦ elim (low_or_high (4 * j.0) (to + size)) [
        | inl in_it ↦
            let d : ℕ = 4 * j.0 - to in
            let at : to + d ≡ 4 * j.0 = omega (arith, high) in
            let there : content source (from + d) ≡ Some (contents.Reference (Some n) 0) =
            sym (w.there d (omega (arith, at, in_it))) ∙ (ap (content others) at ∙ here) in
            inr (has_at source ((from + d) / 4) (Refer (Some n)) (refers_there (slice_get source ((from + d) / 4)) ((from + d) % 4) 0 (Some n) there))
        | inr past ↦ inl (old (sym (w.bytes (4 * j.0) (inr past))))
      ]
    ]

found_there : {A : Type 0} (xs : List A) (n : ℕ) (d y : A) → slice_get xs n ≡ Some y → (n < length xs) × (slice_index_or xs n d ≡ y)
found_there [] n d y e = absurd cc
found_there (x ∷ xs) zero d y e = (omega arith, cc)
found_there (x ∷ xs) (suc n) d y e = let r = found_there xs n d y e in let l = r.0 in (omega (arith, l), r.1)

-- a part has its type
pub part_type : (defs : List Def) (t : Ty) (k : ℕ) (w d : Ty) → HasPart defs t k w
    → (k < length (part_types defs t)) × (slice_index_or (part_types defs t) k d ≡ w)
part_type defs (ty.Tuple ts) k w d h = found_there (listed ts) k d w h
part_type defs (ty.Adt a) k w d h =
    subst (λ (ts : List Ty). (k < length ts) × (slice_index_or ts k d ≡ w)) (sym (ap (parts_there defs) h.1)) (found_there (parts h.0) k d w h.2)
part_type defs t k w d h = absurd h

-- what a slot names its process does
pub slot_among : (slots : core.Slots) (r n : ℕ) → 0 < core.slot_names (core.slot slots r) n → 0 < core.slots_name slots n
slot_among [] zero n l = absurd (omega (arith, l))
slot_among [] (suc r) n l = absurd (omega (arith, l))
slot_among (s ∷ slots) zero n l = omega (arith, l)
slot_among (s ∷ slots) (suc r) n l = let h = slot_among slots r n l in omega (arith, h)

pub named_by_process : (p : code.Process) (r : ℕ) (v : Value) → core.slot p.frame.slots r ≡ Holds v → (n : ℕ) → 0 < among n (references v)
    → 0 < code.process_names p n
named_by_process p r v e n h =
    let a = slot_among p.frame.slots r n (subst (λ s. 0 < core.slot_names s n) (sym e) h) in omega (arith, a)

-- ---- room for the part

module _ (defs : List Def) (t : Ty) (inner : List Word) (laid : Laid defs t (room_for defs t))
    (kind : AreOf (box_bytes defs t) (room_for defs t).references inner) where
  pub box_room : HasRoom defs inner 0 t (room_for defs t)
  box_room =
      let many = kind.many in
      record {
        laid = laid;
        aligned = zero-mod (room_for defs t).align;
        whole = (λ u h. let below = h.1 in omega (arith, many, below), kind.ranged);
        begins = λ l. inl refl;
        only = λ u to e h. (4 * u, kind.only u to e, omega arith);
        refer = λ o h.
            let r = kind.refer o h in
            let even = at_word defs t (room_for defs t) o laid h in
            (r.0, word_there inner (0 + o) (Refer r.0) (omega (arith, even)) (ap (λ (z : ℕ). slice_get inner (z / 4)) (omega arith) ∙ r.1));
      }

  pub box_lies : (k : Facts) (v : Value) → memory.Stands defs k inner 0 t v → Lies defs k inner 0 t (room_for defs t) v
  box_lies k v s =
      let room = box_room in
      record { laid = laid; aligned = room.aligned; whole = room.whole; only = room.only; stands = s }

-- ---- the words then

module _ (defs : List Def) (k : Facts) (t : Ty) (inner : List Word) (value : Value)
    (kind : AreOf (box_bytes defs t) (room_for defs t).references inner) (is : memory.Stands defs k inner 0 t value) (part : ℕ)
    (within_types : part < length (part_types defs t)) where
  abbrev pub part_ty : Ty
  part_ty = slice_index_or (part_types defs t) part ty.Nothing

  abbrev pub place : ℕ
  place = within defs t (part ∷ [])

  path : HasPath defs t (part ∷ [])
  path = (within_types, tt)

  laid : Laid defs t (room_for defs t)
  laid = stands_laid defs k inner 0 t value is

  pub part_room : HasRoom defs inner place part_ty (room_for defs part_ty)
  part_room =
      let e : 0 + place ≡ place = omega arith in
      subst (λ (a : ℕ). HasRoom defs inner a part_ty (room_for defs part_ty)) e
      (parts_lie.room defs inner 0 t (part ∷ []) path (box_room defs t inner laid kind))

  module _ (source others : List Word) (from : ℕ) (v : Value) (lies : Lies defs k source from part_ty (room_for defs part_ty) v)
      (writes : Writes inner others place source from (room_for defs part_ty).size) where
    pub put_stands : memory.Stands defs k others 0 t (Parts (put_part part v (parts_of value)))
    put_stands =
        let e : place ≡ 0 + place = omega arith in
        (parts_lie.written defs k inner others 0 t (part ∷ []) value v source from path (box_lies defs t inner laid kind k value is)
        (subst (λ (a : ℕ). Writes inner others a source from (room_for defs part_ty).size) e writes)
        (subst (λ (a : ℕ). Lies defs k others a part_ty (room_for defs part_ty) v) e
        (values_move.stands defs k source inner others from place part_ty (room_for defs part_ty) v lies part_room writes).0)).stands

    pub put_kind : AreOf (box_bytes defs t) (room_for defs t).references others
    put_kind =
        kinds_stay.all (box_bytes defs t) (room_for defs t).references inner others kind writes.many writes.refer writes.referred
        (writes.ranged lies.whole.1 kind.ranged)

-- ---- the row goes on

other_block : (s : ℕ) (k : Facts) (b c : ℕ) → k.form c ≡ Some (OwnedBy s) → (k.form b ≡ Some (OwnedBy s) → ⊥) → b ≡ c → ⊥
other_block s k b c e other same = other (ap k.form same ∙ e)

module _ (m : typed.Module) (b : Base m) (number : ℕ) (f : typed.Function) (t : Ty) (into far box : ℕ) (inner : List Word) (value : Value)
    (known : held.Slots) (i : ℕ) (p : code.Process) (q : Process) (k : Facts) (w : Shared) (x : World)
    (s : Builds m number f t into far box inner value known k i x p q) (worlds : (sides m).worlds k w x) where
  pub owned : (r c : ℕ) → Has (s.stands.is.words.own r) c → Free k c
  owned r c h =
      ((frames_later m.adts k x.heap q.frame.serial (into ∷ []) (types_of m s.stands.is.function) s.stands.is.known p.frame.variables p.frame.slots
      q.frame.words s.stands.is.words).owned r c h).0

  not_box : (r c : ℕ) → Has (s.stands.is.words.own r) c → c ≡ box → ⊥
  not_box r c h same = s.apart r (subst (λ (d : ℕ). Has (s.stands.is.words.own r) d) same h)

  -- with other words in the record, which stand for a value that names what the other does and what the slot names
  module _ (words : List Word) (v : Value) (kind : AreOf (box_bytes m.adts t) (room_for m.adts t).references words)
      (stands : memory.Stands m.adts k words 0 t v) (led : (n : ℕ) → Has words (Refer (Some n)) → there (heap.at x.heap n) ≡ true)
      (named : (n : ℕ) → 0 < among n (references v) → 0 < code.process_names p n)
      (leads : (n : ℕ) → 0 < core.slot_names (core.slot p.frame.slots into) n → 0 < among n (references v)) where
    pub led_so : (n : ℕ) → Has words (Refer (Some n)) → (there (heap.at x.heap n) ≡ true) × (Inner k n → ⊥)
    led_so n h = (led n h, refers_outside m.adts k t words v kind stands n h)

    abbrev pub world_on : World
    world_on = written_world m i k w x worlds box inner words s.there s.free s.made led_so

    pub changes_on : (sides m).changes (Only i) k k x world_on
    changes_on = written_changes m i k w x worlds box inner words s.there s.free s.made led_so

    pub alike_on : (sides m).worlds k w world_on
    alike_on = written_alike m i k w x worlds box inner words s.there s.free s.made led_so

    pub builds_on : Builds m number f t into (suc far) box words v known k i world_on p (moved_to q (suc q.frame.pc) q.frame.words)
    builds_on =
        let sets = written_sets m i k w x worlds box inner words s.there s.free s.made led_so in
        let are = s.stands.is.words in
        let after = (frames_later m.adts k x.heap q.frame.serial (into ∷ []) (types_of m s.stands.is.function) s.stands.is.known p.frame.variables
        p.frame.slots q.frame.words are).later k world_on.heap (grows_same k) (λ r c h. (owned r c h, sets.apart c (not_box r c h))) in
        let anew = stands_anew m k k i x world_on (into ∷ []) Awaited p q s.stands (grows_same k) (omega arith)
        (λ c free made other. (free, sets.apart c (other_block q.frame.serial k c box s.formed other))) (into ∷ []) p.frame.pc (suc q.frame.pc)
        s.stands.is.known p.frame.variables p.frame.slots q.frame.words q.made refl after.0
        (λ r c h. s.stands.is.mine r c (subst (λ (o : ℕ → List ℕ). Has (o r) c) after.1 h)) s.stands.goes refl in
        record {
          stands = record { number = anew.stands.number; is = anew.stands.is; goes = anew.stands.goes; waits = anew.stands.waits };
          number_is = anew.number ∙ s.number_is;
          function_is = anew.function ∙ s.function_is;
          known_is = anew.known ∙ s.known_is;
          pc = (let e = s.pc in omega (arith, e));
          spare = s.spare;
          none_made = s.none_made;
          word = s.word;
          there = sets.here;
          free = s.free;
          made = s.made;
          formed = s.formed;
          kind = kind;
          is = stands;
          apart = λ r h. s.apart r (subst (λ (o : ℕ → List ℕ). Has (o r) box) (anew.own ∙ after.1) h);
          named = named;
          leads = leads;
        }

  -- with other words in front of the variables
  module _ (words : List Word) (changes : Changes q.frame.words words passing_place 4) (ranged : AreInRange words) where
    passed_stays : (at : ℕ) → (4 * (at / 4) + 4 ≤ passing_place) ⊎ (passing_place + 4 ≤ 4 * (at / 4))
        → word_at words (pos at) ≡ word_at q.frame.words (pos at)
    passed_stays at h = word_same q.frame.words words at (changes.words (at / 4) h)

    else_as_was : ElseAsWas q.frame.words words 0 linkage_bytes
    else_as_was = record {
      each = λ u no. elim (low_or_high (4 * u) linkage_bytes) [
        | inl low ↦ absurd (no (omega arith, low))
        | inr high ↦ changes.words u (inr (omega (arith, high)))
      ];
    }

    pub builds_passed : Builds m number f t into (suc far) box inner value known k i x p (moved_to q (suc q.frame.pc) words)
    builds_passed =
        let is = s.stands.is in
        let are = is.words in
        let types = types_of m is.function in
        let kind = kinds_stay.all (frame_bytes m.adts types (length p.frame.slots)) (frame_references m.adts types (length p.frame.slots))
        q.frame.words words are.kind changes.many changes.refer changes.referred ranged in
        let after = slots_change.linkage m.adts k x.heap q.frame.serial (into ∷ []) types is.known p.frame.variables p.frame.slots q.frame.words
        words are else_as_was kind in
        let on = stands_on m k i x (into ∷ []) Awaited p q s.stands (into ∷ []) p.frame.pc (suc q.frame.pc) is.known p.frame.variables p.frame.slots
        words q.made refl after.0 (λ r c h. is.mine r c (subst (λ (o : ℕ → List ℕ). Has (o r) c) after.1 h)) s.stands.goes
        (passed_stays answer_place (inl (omega arith))) in
        record {
          stands = record { number = on.stands.number; is = on.stands.is; goes = on.stands.goes; waits = on.stands.waits };
          number_is = on.number ∙ s.number_is;
          function_is = on.function ∙ s.function_is;
          known_is = on.known ∙ s.known_is;
          pc = (let e = s.pc in omega (arith, e));
          spare = passed_stays (spare_place m.adts (types_of m f)) (inr (omega arith)) ∙ s.spare;
          none_made = s.none_made;
          word = passed_stays (box_place m number f t into) (inr (omega arith)) ∙ s.word;
          there = s.there;
          free = s.free;
          made = s.made;
          formed = s.formed;
          kind = s.kind;
          is = s.is;
          apart = λ r h. s.apart r (subst (λ (o : ℕ → List ℕ). Has (o r) box) (on.own ∙ after.1) h);
          named = s.named;
          leads = s.leads;
        }
