-- Where the part was, the new record gets zero.
use Rattle.std.proofs.Common.{◌≡◌, ℕ, suc, pos, ◌+◌, ◌*◌, ◌/◌, ◌<◌, true, List, [], ◌∷◌, ◌++◌, Option, Some, None}
use Rattle.std.proofs.Common.{refl, sym, ap, ◌∙◌, subst, arith, inl, inr}
use Rattle.std.proofs.lemmas.Int.{ints}
use Rattle.std.specs.Prelude.{slice_get}
use Rattle.system_model.specs.Limits.{frames_limit}
use Rattle.heap_model.specs.Heap.{at, there, in_one}
use Rattle.heap_model.specs.Facts.{Covers}
use Rattle.heap_model.proofs.Growing.{grows_same}
use Rattle.limbo_types.specs.Types as ty
use Rattle.limbo_types.specs.Types.{Ty}
use Rattle.limbo_layout.specs.Adts.{Def, Has}
use Rattle.limbo_layout.specs.Layout.{Room}
use Rattle.limbo_values.specs.declared.number.Kind.{Kind}
use Rattle.limbo_values.specs.declared.number.Kind.TheVariants as kind
use Rattle.limbo_values.specs.Numbers.{InRange}
use Rattle.limbo_values.proofs.Ranges.{within as within_range}
use Rattle.limbo_typed.specs.Typed as typed
use Rattle.limbo_typed.specs.Fitting.{of_kind}
use Rattle.limbo_meaning.specs.Process.{Shared}
use Rattle.limbo_meaning.specs.Values.{Value, Num, Parts, references, zero_of, among}
use Rattle.limbo_meaning.specs.Origins.{Name}
use Rattle.limbo_meaning.specs.Places.{put_part}
use Rattle.core_code.specs.Machine as code
use Rattle.core_code.proofs.Names.{zero_fitted}
use Rattle.core_code.proofs.Rounds.{rounds_give_rooms}
use Rattle.core_typing.specs.Held as held
use Rattle.dis_isa.specs.declared.inst.Inst.{Inst}
use Rattle.dis_isa.specs.declared.inst.Operand as isa
use Rattle.dis_isa.specs.declared.inst.Operand.TheVariants as operand
use Rattle.dis_isa.specs.declared.inst.Middle.TheVariants as middle
use Rattle.dis_isa.specs.declared.op.Op.{Op}
use Rattle.dis_isa.specs.declared.op.Op.TheVariants as op
use Rattle.dis_meaning.specs.Words.{Word, Plain, Refer, Access, Found, ◌>>=◌, number_in}
use Rattle.dis_meaning.specs.Numbers.{number_row, Moves}
use Rattle.dis_meaning.specs.Process.{Process}
use Rattle.dis_memory.specs.Blocks.{Block, World, Instance}
use Rattle.dis_memory.specs.Naming.{inside}
use Rattle.dis_memory.specs.Places.{source_of}
use Rattle.dis_memory.specs.Step.{obey}
use Rattle.value_words.specs.Contents as contents
use Rattle.value_words.specs.Contents.{AreInRange, content, content_in}
use Rattle.value_words.specs.Facts.{Facts}
use Rattle.value_words.specs.Stands.{Stands, a_number, no_words}
use Rattle.value_roots.proofs.Words.{has_counts}
use Rattle.value_heaps.specs.Blocks.{HasConstant, IsWithin}
use Rattle.value_frames.specs.Frames.{AsReference, form_of, spare_place, room_for, box_bytes, within, type_within}
use Rattle.value_frames.proofs.Replacing.{kinds_stay}
use Rattle.value_moves.specs.Operands.{inst, behind}
use Rattle.value_moves.specs.Spots.{Leads}
use Rattle.value_moves.specs.Changing.{Changes, bytes_in}
use Rattle.value_moves.specs.Writing.{Writes, Lies}
use Rattle.value_moves.proofs.Leading.{spots_lead}
use Rattle.value_moves.proofs.Changing.{low_or_high}
use Rattle.value_moves.proofs.Moving.{values_move}
use Rattle.value_stores.proofs.Parts.{parts_lie}
use Rattle.value_code.specs.Data.{OfRecord, nil_word}
use Rattle.value_code.specs.Objects.{object_of, type_number, constants, placed}
use Rattle.number_effects.specs.Stepping.{Reaches}
use Rattle.number_effects.specs.Giving.{after, with_word}
use Rattle.number_effects.proofs.Numbers.{numbers_work}
use Rattle.number_effects.proofs.Reading.{operands_are_read}
use Rattle.number_effects.proofs.Records.{words_move}
use Rattle.value_follows.specs.Stands.{types_of}
use Rattle.value_follows.specs.Sides.{sides, HoldTheSame}
use Rattle.value_follows.specs.Rows.{Base}
use Rattle.value_follows.proofs.Slots.{number_there}
use Rattle.value_follows.proofs.Standing.{instance_here}
use Rattle.value_follows.proofs.RootedValues.{among_join, has_at}
use Rattle.rows_moving.proofs.References.{one_word, zero_stands}
use Rattle.rows_dropping.proofs.Spare.{OnWay}
use Rattle.rows_dropping.proofs.Sparing.{world_filled, process_filled, way_filled, mine_filled, worlds_filled, changes_filled, fill_steps}
use Rattle.rows_dropping.proofs.Boxes.{Boxes, lies_in, boxes_cover, fewer, has_where, content_first}
use Rattle.rows_dropping.proofs.Boxed.{inner_there}
use Rattle.rows_dropping.proofs.Moving.{DoesMove}
use Rattle.rows_dropping.proofs.Got.{BothGot, got_on}
use Rattle.rows_dropping.proofs.Stages.{Comes}
use Rattle.rows_dropping.proofs.Written.{written_refers, refers_at}
use Rattle.rows_dropping.proofs.Tidying.{nil_read}
use Rattle.rows_dropping.proofs.Picking.{Picks, instr, u, v, named_v, Has_of}
use Rattle.rows_dropping.proofs.PickInto.{part_type, reference_is}

-- what was stored, as written from where it stands then
writes_again : (target others : List Word) (to size : ℕ) → Changes target others to size → AreInRange others → Writes target others to others to size
writes_again target others to size c ranged = record {
  many = c.many;
  there = λ o l. refl;
  bytes = c.bytes;
  words = c.words;
  refer = c.refer;
  referred = c.referred;
  ranged = λ s t. ranged;
}

number_size : (defs : List Def) (j : Kind) → (room_for defs (of_kind j)).size ≡ bytes_in j
number_size defs kind.Byte = refl
number_size defs kind.Int = refl
number_size defs kind.Big = refl

zero_range : (j : Kind) → InRange j (pos 0)
zero_range kind.Byte = record { above = omega (arith, ints); below = omega (arith, ints) }
zero_range kind.Int = record { above = omega (arith, ints); below = omega (arith, ints) }
zero_range kind.Big = record { above = omega (arith, ints); below = omega (arith, ints) }

number_zero : (defs : List Def) (j : Kind) → zero_of defs (of_kind j) ≡ Num (pos 0)
number_zero defs kind.Byte = ap Num (within_range kind.Byte (pos 0) (zero_range kind.Byte))
number_zero defs kind.Int = ap Num (within_range kind.Int (pos 0) (zero_range kind.Int))
number_zero defs kind.Big = ap Num (within_range kind.Big (pos 0) (zero_range kind.Big))

numbers_bare : (defs : List Def) (j : Kind) (o : ℕ) → Has (room_for defs (of_kind j)).references o → ⊥
numbers_bare defs kind.Byte o h = h
numbers_bare defs kind.Int o h = h
numbers_bare defs kind.Big o h = h

-- words of which a number was written refer to what they did
unchanged_refers : (target others : List Word) (to size : ℕ) → Changes target others to size
    → ((c : ℕ) (r : Option ℕ) → slice_get target c ≡ Some (Refer r) → IsWithin to size c → ⊥) → (d : ℕ)
    → Has others (Refer (Some d)) → Has target (Refer (Some d))
unchanged_refers target others to size changes none d h =
    let j = has_where others (Refer (Some d)) h in
    let here : content others (4 * j.0) ≡ Some (contents.Reference (Some d) 0) = content_first others j.0 ∙ ap (λ o. content_in o 0) j.1 in
    elim (low_or_high (4 * j.0) to) [
      | inl low ↦ same j.0 (sym (changes.bytes (4 * j.0) (inl low)) ∙ here)
      | inr high ↦ elim (low_or_high (4 * j.0) (to + size)) [
        | inl below ↦ let r = changes.refer j.0 (Some d) j.1 in absurd (none j.0 r.0 r.1 (high, below))
        | inr past ↦ same j.0 (sym (changes.bytes (4 * j.0) (inr past)) ∙ here)
      ]
    ]
  where
    same : (j : ℕ) → content target (4 * j) ≡ Some (contents.Reference (Some d) 0) → Has target (Refer (Some d))
    same j e = has_at target j (Refer (Some d)) (refers_at (slice_get target j) 0 (Some d) (sym (content_first target j) ∙ e))

zero_given : (x : World) (q : Process) (j : Kind) → source_of j x q (operand.Imm (pos 0)) ≡ Found (pos 0)
zero_given x q kind.Byte = operands_are_read.source_given x q kind.Byte (pos 0)
zero_given x q kind.Int = operands_are_read.source_given x q kind.Int (pos 0)
zero_given x q kind.Big = operands_are_read.source_given x q kind.Big (pos 0)

module _ (m : typed.Module) (b : Base m) (i : ℕ) (p : code.Process) (t : Ty) (n into from : ℕ) (known : held.Slots) (a : Picks m p t n into from known)
    (part_live : List ℕ) where
  abbrev part : Value
  part = u m b i p t n into from known a

  abbrev whole_value : Value
  whole_value = v m b i p t n into from known a

  abbrev zero_part : Value
  zero_part = zero_of m.adts t

  abbrev pub left : Value
  left = Parts (put_part n zero_part a.values)

  abbrev Has_whole : Facts → List Word → Type 0
  Has_whole = Has_of m b i p t n into from known a a.whole whole_value

  abbrev Has_left : Facts → List Word → Type 0
  Has_left = Has_of m b i p t n into from known a a.whole left

  abbrev place_in : ℕ
  place_in = within m.adts a.whole (n ∷ [])

  named_left : (c : ℕ) → Name (references left) c → 0 < code.process_names p c
  named_left c h =
      let x = a.taken in
      let e = ap (λ rs. among c rs) (x.other zero_part) in
      let f = among_join c x.front (references zero_part ++ x.behind) in
      let g = among_join c (references zero_part) x.behind in
      let z = zero_fitted c m.adts t in
      let e' = ap (λ rs. among c rs) x.now in
      let f' = among_join c x.front (references part ++ x.behind) in
      let g' = among_join c (references part) x.behind in
      named_v m b i p t n into from known a c (omega (arith, h, e, f, g, z, e', f', g'))

  -- the part lies in the record of the whole
  part_in : (k : Facts) (inner : List Word) → Boxes m.adts a.whole k inner whole_value → Lies m.adts k inner place_in t (room_for m.adts t) part
  part_in k inner so =
      let lies = parts_lie.there m.adts k inner 0 a.whole (n ∷ []) whole_value a.path (lies_in m.adts a.whole a.laid k inner whole_value so) in
      let zero_on : 0 + place_in ≡ place_in = omega arith in
      subst (λ c. Lies m.adts k inner c t (room_for m.adts t) part) zero_on
      (subst (λ y. Lies m.adts k inner (0 + place_in) y (room_for m.adts y) part) a.ends lies)

  -- zero in its place leaves the whole without it
  left_boxes : (k : Facts) (inner others source : List Word) (at_source : ℕ) → Boxes m.adts a.whole k inner whole_value
      → Writes inner others place_in source at_source (room_for m.adts t).size → AreInRange others → Stands m.adts k others place_in t zero_part
      → Boxes m.adts a.whole k others left
  left_boxes k inner others source at_source so writes ranged stands =
      let lies = part_in k inner so in
      let zero_lies : Lies m.adts k others place_in t (room_for m.adts t) zero_part =
      record {
        laid = lies.laid;
        aligned = lies.aligned;
        whole = (λ w h. let l = lies.whole.0 w h in let many = writes.many in omega (arith, l, many), ranged);
        only = λ w to e h. let r = writes.refer w to e in lies.only w r.0 r.1 h;
        stands = stands;
      } in
      let zero_on : place_in ≡ 0 + place_in = omega arith in
      let writes' : Writes inner others (0 + place_in) source at_source (room_for m.adts (type_within m.adts a.whole (n ∷ []))).size =
      subst (λ y. Writes inner others (0 + place_in) source at_source (room_for m.adts y).size) (sym a.ends)
      (subst (λ c. Writes inner others c source at_source (room_for m.adts t).size) zero_on writes) in
      let lies' : Lies m.adts k others (0 + place_in) (type_within m.adts a.whole (n ∷ [])) (room_for m.adts (type_within m.adts a.whole (n ∷ []))) zero_part =
      subst (λ y. Lies m.adts k others (0 + place_in) y (room_for m.adts y) zero_part) (sym a.ends)
      (subst (λ c. Lies m.adts k others c t (room_for m.adts t) zero_part) zero_on zero_lies) in
      let done = parts_lie.written m.adts k inner others 0 a.whole (n ∷ []) whole_value zero_part source at_source a.path
      (lies_in m.adts a.whole a.laid k inner whole_value so) writes' lies' in (
        kinds_stay.all (box_bytes m.adts a.whole) (room_for m.adts a.whole).references inner others so.0 writes.many writes.refer writes.referred ranged,
        done.stands,
      )

  -- a part without words is as it was
  pub nothing_left : (far : ℕ) (k : Facts) (x : World) (q : Process) → t ≡ ty.Nothing → BothGot m i p into t part_live part Has_whole known far k x q
      → BothGot m i p into t part_live part Has_left known far k x q
  nothing_left far k x q e s =
      let c = s.spares.mine in
      let lies = part_in k c.inner c.so in
      let none : (room_for m.adts t).size ≡ 0 = ap (λ y. (room_for m.adts y).size) e in
      record {
        spares = record {
          way = s.spares.way;
          mine = record {
            block = c.block;
            inner = c.inner;
            word = c.word;
            there = c.there;
            unknown = c.unknown;
            made = c.made;
            formed = c.formed;
            apart = c.apart;
            covered = c.covered;
            so = left_boxes k c.inner c.inner c.inner place_in c.so
                (record {
                  many = refl;
                  there = λ o l. refl;
                  bytes = λ y h. refl;
                  words = λ y h. refl;
                  refer = λ y r h. (r, h);
                  referred = λ y r h. (r, h);
                  ranged = λ h g. g;
                }) c.so.0.ranged
                (nothing_stands k c.inner part e lies.stands);
          };
        };
        got = s.got;
      }
    where
      nothing_stands : (k : Facts) (ws : List Word) (y : Value) → t ≡ ty.Nothing → Stands m.adts k ws place_in t y → Stands m.adts k ws place_in t zero_part
      nothing_stands k ws y e h =
          subst (λ z. Stands m.adts k ws place_in z (zero_of m.adts z)) (sym e) (no_words place_in)

  -- ---- by one instruction

  module _ (far : ℕ) (k : Facts) (w : Shared) (x : World) (q : Process) (s : BothGot m i p into t part_live part Has_whole known far k x q)
      (hold : HoldTheSame m k i x p q) (worlds : (sides m).worlds k w x) where
    abbrev way : OnWay m i p known (into ∷ []) far k x q
    way = s.spares.way

    abbrev at_spare : ℕ
    at_spare = spare_place m.adts (types_of m way.stands.is.function)

    abbrev inner : List Word
    inner = s.spares.mine.inner

    abbrev lead : Leads x q (behind at_spare place_in) inner place_in
    lead = (spots_lead.inner x q at_spare s.spares.mine.block inner place_in s.spares.mine.word s.spares.mine.there).0

    -- which writes zero there
    module _ (move : Inst) (reaches : Reaches (object_of m ∷ []) x q (object_of m) move) (others source : List Word) (at_source : ℕ)
        (writes : Writes inner others place_in source at_source (room_for m.adts t).size) (ranged : AreInRange others)
        (stands : Stands m.adts k others place_in t zero_part)
        (from_there : (d : ℕ) → Has others (Refer (Some d)) → there (at x.heap d) ≡ true)
        (obeys : obey frames_limit (object_of m) x q move move.op ≡ after x q lead.place others) where
      boxes_so : Boxes m.adts a.whole k others left
      boxes_so = left_boxes k inner others source at_source s.spares.mine.so writes ranged stands

      covered : (d : ℕ) → Has others (Refer (Some d)) → Covers k (λ c. 0 < code.process_names p c) d
      covered d h = boxes_cover m.adts a.whole a.laid k others left (code.process_names p) named_left boxes_so d h

      zero_comes : Comes m b i p (instr m b i p t n into from known a) a.here known (into ∷ []) from a.whole
          (BothGot m i p into t part_live part Has_left known (suc far)) k w x q
      zero_comes = record {
        now = k;
        world = world_filled m i p known (into ∷ []) far k x q way w worlds at_spare Has_whole Has_left s.spares.mine others from_there covered;
        process = process_filled m i p known (into ∷ []) far k x q way w worlds at_spare Has_whole Has_left s.spares.mine others from_there covered;
        goes = fill_steps m i p known (into ∷ []) far k x q way w worlds at_spare Has_whole Has_left s.spares.mine others from_there covered place_in move
            reaches obeys;
        changes = changes_filled m i p known (into ∷ []) far k x q way w worlds at_spare Has_whole Has_left s.spares.mine others from_there covered;
        worlds = worlds_filled m i p known (into ∷ []) far k x q way w worlds at_spare Has_whole Has_left s.spares.mine others from_there covered;
        after = record {
          spares = record {
            way = way_filled m i p known (into ∷ []) far k x q way w worlds at_spare Has_whole Has_left s.spares.mine others from_there covered;
            mine = mine_filled m i p known (into ∷ []) far k x q way w worlds at_spare Has_whole Has_left s.spares.mine others from_there covered boxes_so;
          };
          got = got_on m i p into t part_live part way.stands.is.function k k x
              (world_filled m i p known (into ∷ []) far k x q way w worlds at_spare Has_whole Has_left s.spares.mine others from_there covered) q
              (process_filled m i p known (into ∷ []) far k x q way w worlds at_spare Has_whole Has_left s.spares.mine others from_there covered)
              refl (grows_same k) (λ c h. refl) s.got;
        };
      }

    -- the record's own words
    own_there : (d : ℕ) → Has inner (Refer (Some d)) → there (at x.heap d) ≡ true
    own_there d h =
        inner_there m k i w x p q (into ∷ []) way.stands.is hold worlds s.spares.mine.block inner s.spares.mine.there d h

    -- a number
    pub number_comes : (j : Kind) (o : Op) → number_row o ≡ Some (Moves j) → t ≡ of_kind j
        → Reaches (object_of m ∷ []) x q (object_of m) (inst o (operand.Imm (pos 0)) middle.None (behind at_spare place_in))
        → Comes m b i p (instr m b i p t n into from known a) a.here known (into ∷ []) from a.whole
        (BothGot m i p into t part_live part Has_left known (suc far)) k w x q
    number_comes j o row e reaches =
        let lies = part_in k inner s.spares.mine.so in
        let old = number_there m.adts k inner place_in t part j e lies.stands in
        let move = inst o (operand.Imm (pos 0)) middle.None (behind at_spare place_in) in
        let stored = numbers_work.moves frames_limit (object_of m) x q move j (pos 0) inner place_in lead old.number row (zero_given x q j) old.found in
        let size : bytes_in j ≡ (room_for m.adts t).size = sym (ap (λ y. (room_for m.adts y).size) e ∙ number_size m.adts j) in
        let changes = stored.0.changes (λ g. zero_range j) in
        let ranged = stored.0.ranged (zero_range j) s.spares.mine.so.0.ranged in
        zero_comes move reaches stored.0.others stored.0.others place_in
        (subst (λ c. Writes inner stored.0.others place_in stored.0.others place_in c) size
        (writes_again inner stored.0.others place_in (bytes_in j) changes ranged)) ranged
        (subst (λ y. Stands m.adts k stored.0.others place_in y (zero_of m.adts y)) (sym e)
        (subst (λ y. Stands m.adts k stored.0.others place_in (of_kind j) y) (sym (number_zero m.adts j))
        (a_number place_in j (pos 0) (stored.0.there (zero_range j)) (zero_range j))))
        (λ d h. own_there d (unchanged_refers inner stored.0.others place_in (bytes_in j) changes
        (λ c r g h. no_references j e (lies.only c r g (subst (λ y. IsWithin place_in y c) size h)).0 (lies.only c r g (subst (λ y. IsWithin place_in y c) size h)).1) d h))
        stored.1
      where
        no_references : (j : Kind) → t ≡ of_kind j → (o : ℕ) → Has (room_for m.adts t).references o → ⊥
        no_references j e o h = numbers_bare m.adts j o (subst (λ y. Has (room_for m.adts y).references o) e h)

    -- an int
    pub int_comes : t ≡ ty.Int
        → Reaches (object_of m ∷ []) x q (object_of m) (inst op.Movw (operand.Imm (pos 0)) middle.None (behind at_spare place_in))
        → Comes m b i p (instr m b i p t n into from known a) a.here known (into ∷ []) from a.whole
        (BothGot m i p into t part_live part Has_left known (suc far)) k w x q
    int_comes e reaches =
        let lies = part_in k inner s.spares.mine.so in
        let old = number_there m.adts k inner place_in t part kind.Int e lies.stands in
        let word = operands_are_read.int_is_plain inner place_in old.number old.found in
        let move = inst op.Movw (operand.Imm (pos 0)) middle.None (behind at_spare place_in) in
        let stored = words_move.word frames_limit (object_of m) x q move (Plain (pos 0)) inner place_in lead word.0 refl
        (operands_are_read.source_plain_given x q (pos 0)) word.1 in
        let others = with_word inner place_in (Plain (pos 0)) in
        let size : 4 ≡ (room_for m.adts t).size = sym (ap (λ y. (room_for m.adts y).size) e) in
        let ranged = stored.0.ranged (λ z g. subst (InRange kind.Int) (let h : pos 0 ≡ z = cc in h) (zero_range kind.Int)) s.spares.mine.so.0.ranged in
        zero_comes move reaches others others place_in
        (subst (λ c. Writes inner others place_in others place_in c) size (writes_again inner others place_in 4 stored.0.changes ranged)) ranged
        (subst (λ y. Stands m.adts k others place_in y (zero_of m.adts y)) (sym e)
        (subst (λ y. Stands m.adts k others place_in ty.Int y) (sym (number_zero m.adts kind.Int))
        (a_number place_in kind.Int (pos 0) (ap (λ (c : Access Word). c >>= number_in) stored.0.there) (zero_range kind.Int))))
        (λ d h. own_there d (unchanged_refers inner others place_in 4 stored.0.changes
        (λ c r g h. no_int e (lies.only c r g (subst (λ y. IsWithin place_in y c) size h)).0 (lies.only c r g (subst (λ y. IsWithin place_in y c) size h)).1) d h))
        stored.1
      where
        no_int : t ≡ ty.Int → (o : ℕ) → Has (room_for m.adts t).references o → ⊥
        no_int e o h = numbers_bare m.adts kind.Int o (subst (λ y. Has (room_for m.adts y).references o) e h)

    -- a reference
    pub reference_comes : form_of t ≡ AsReference
        → Reaches (object_of m ∷ []) x q (object_of m) (inst op.Movp nil_word middle.None (behind at_spare place_in))
        → Comes m b i p (instr m b i p t n into from known a) a.here known (into ∷ []) from a.whole
        (BothGot m i p into t part_live part Has_left known (suc far)) k w x q
    reference_comes form reaches =
        let lies = part_in k inner s.spares.mine.so in
        let old = one_word m.adts k inner place_in t part form lies.stands in
        let move = inst op.Movp nil_word middle.None (behind at_spare place_in) in
        let stored = words_move.reference frames_limit (object_of m) x q move None inner place_in lead old.refers refl
        (nil_read m b k i w x p q (into ∷ []) way.stands.is hold worlds) old.word in
        let others = with_word inner place_in (Refer None) in
        let ranged = stored.0.ranged (λ z e. absurd cc) s.spares.mine.so.0.ranged in
        let size : 4 ≡ (room_for m.adts t).size = sym (ap (λ (r : Room). r.size) (reference_is m.adts t form)) in
        zero_comes move reaches others others place_in
        (subst (λ c. Writes inner others place_in others place_in c) size (writes_again inner others place_in 4 stored.0.changes ranged)) ranged
        (zero_stands m.adts k others place_in t form stored.0.there)
        (λ d h. own_there d (fewer inner (place_in / 4) d h))
        stored.1

    -- a value of parts, from the module's data
    pub zeros_come : (where_so : Process → Type 0) (move : ℕ → isa.Operand → isa.Operand → Inst) → DoesMove m.adts t where_so move → where_so q
        → (at_data : ℕ) → Has (constants m) (placed m at_data t zero_part)
        → Reaches (object_of m ∷ []) x q (object_of m) (move (type_number m (OfRecord t)) (operand.Mp (pos at_data)) (behind at_spare place_in))
        → Comes m b i p (instr m b i p t n into from known a) a.here known (into ∷ []) from a.whole
        (BothGot m i p into t part_live part Has_left known (suc far)) k w x q
    zeros_come where_so move does so at_data has reaches =
        let there_so = instance_here m b k i w x p q (into ∷ []) way.stands.is hold worlds.0 in
        let constant = there_so.2 (placed m at_data t zero_part) has in
        let lies = constant_lies k there_so.0 at_data constant in
        let room = values_move.room m.adts k inner place_in t (room_for m.adts t) part (part_in k inner s.spares.mine.so) in
        let inst_here = move (type_number m (OfRecord t)) (operand.Mp (pos at_data)) (behind at_spare place_in) in
        let lead_data = (spots_lead.of_module x q 0 there_so.0 at_data there_so.1).0 in
        let moved = does k frames_limit (object_of m) x q zero_part (type_number m (OfRecord t)) (operand.Mp (pos at_data)) (behind at_spare place_in)
        there_so.0 inner at_data place_in lead_data lead lies room (part_type m b i p t n into from known a far k x q way) so in
        let stands = (values_move.stands m.adts k there_so.0 inner moved.0 at_data place_in t (room_for m.adts t) zero_part lies room moved.1).0.stands in
        zero_comes inst_here reaches moved.0 there_so.0 at_data moved.1 (moved.1.ranged lies.whole.1 s.spares.mine.so.0.ranged) stands
        (λ d h. elim (written_refers inner moved.0 there_so.0 place_in at_data (room_for m.adts t).size moved.1 d h) [
          | inl c ↦ data_there there_so.0 there_so.1 d c
          | inr c ↦ own_there d c
        ])
        moved.2
      where
        constant_lies : (k : Facts) (ws : List Word) (at_data : ℕ) → HasConstant m.adts k ws (placed m at_data t zero_part)
            → Lies m.adts k ws at_data t (room_for m.adts t) zero_part
        constant_lies k ws at_data h =
            subst (λ r. Lies m.adts k ws at_data t r zero_part) (sym (rounds_give_rooms.rooms m.adts t h.room h.laid))
            (record { laid = h.laid; aligned = h.aligned; whole = h.whole; only = h.refer_only; stands = h.stands })

        data_there : (ws : List Word) → at x.heap q.frame.instance ≡ Some (Instance 0 ws) → (d : ℕ) → Has ws (Refer (Some d)) → there (at x.heap d) ≡ true
        data_there ws e d h =
            worlds.0.closed.closed q.frame.instance d (ap there e)
            (subst (λ (o : Option Block). 0 < in_one inside o d) (sym e) (has_counts ws d h))
