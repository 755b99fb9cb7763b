-- The part comes into its slot: as a number or a reference at once, or into a record that is made for it.
use Rattle.std.proofs.Common.{◌≡◌, ◌⊎◌, ℕ, suc, pos, ◌+◌, ◌*◌, ◌/◌, ◌%◌, ◌≤◌, List, [], ◌∷◌, length, Some}
use Rattle.std.proofs.Common.{refl, sym, ap, ◌∙◌, subst, arith, inl, inr}
use Rattle.std.specs.Prelude.{slice_get}
use Rattle.system_model.specs.Limits.{frames_limit}
use Rattle.heap_model.proofs.Growing.{grows_same}
use Rattle.limbo_types.specs.Types as ty
use Rattle.limbo_types.specs.Types.{Ty}
use Rattle.limbo_layout.specs.Adts.{Def, Has}
use Rattle.limbo_layout.specs.Layout.{Room, reference}
use Rattle.limbo_typed.specs.Typed as typed
use Rattle.limbo_meaning.specs.Process.{Shared}
use Rattle.limbo_meaning.specs.Values.{Value}
use Rattle.core_code.specs.Machine as code
use Rattle.core_code.specs.Slots as core
use Rattle.core_code.specs.Slots.{Holds}
use Rattle.core_typing.specs.Held as held
use Rattle.core_typing.specs.Held.{Of, type_held}
use Rattle.dis_isa.specs.declared.inst.Inst.{Inst}
use Rattle.dis_isa.specs.declared.inst.Operand as isa
use Rattle.dis_isa.specs.declared.inst.Operand.TheVariants as operand
use Rattle.dis_isa.specs.declared.inst.Middle.TheVariants as middle
use Rattle.dis_isa.specs.declared.op.Op.TheVariants as op
use Rattle.dis_meaning.specs.Words.{Word, Refer, Found, ◌>>=◌, word_at}
use Rattle.dis_meaning.specs.Process.{Process}
use Rattle.dis_memory.specs.Blocks.{Record, World, next_serial}
use Rattle.dis_memory.specs.Places.{with_words_at}
use Rattle.dis_memory.specs.Process.{next}
use Rattle.dis_memory.specs.Step.{obey}
use Rattle.value_words.specs.Facts.{Facts}
use Rattle.value_words.specs.Stands.{Stands}
use Rattle.value_frames.specs.Frames.{AsNumber, AsReference, form_of, answer_place, number_place, reference_place, spare_place, room_for, within}
use Rattle.value_frames.specs.Frames.{frame_bytes, frame_references}
use Rattle.value_frames.specs.Types.{AreOf}
use Rattle.value_frames.specs.Standing.{WordsAre, SlotStands, a_value, ValueStands, NamesOnly}
use Rattle.value_frames.specs.Slots.{ElseAsWas}
use Rattle.value_frames.proofs.Slots.{slots_change}
use Rattle.value_frames.proofs.Replacing.{kinds_stay}
use Rattle.value_frames.proofs.Later.{frames_later}
use Rattle.value_moves.specs.Operands.{inst, own, behind}
use Rattle.value_moves.specs.Spots.{Leads}
use Rattle.value_moves.specs.Writing.{Writes, Lies, HasRoom}
use Rattle.value_moves.proofs.Leading.{spots_lead}
use Rattle.value_moves.proofs.Changing.{low_or_high}
use Rattle.value_moves.proofs.Moving.{values_move}
use Rattle.value_stores.proofs.Parts.{parts_lie}
use Rattle.value_code.specs.Data.{OfRecord}
use Rattle.value_code.specs.Objects.{object_of, of_function, type_number, told_at}
use Rattle.value_code.proofs.Having.{objects_have}
use Rattle.number_effects.specs.Giving.{with_word, StoresWord}
use Rattle.number_effects.specs.Stepping.{Reaches}
use Rattle.number_effects.proofs.Records.{words_move}
use Rattle.number_effects.proofs.Stepping.{steps_obey}
use Rattle.block_effects.proofs.Giving.{stores_behind}
use Rattle.value_follows.specs.Stands.{types_of}
use Rattle.value_follows.specs.Sides.{sides, HoldTheSame}
use Rattle.value_follows.specs.Rows.{Base}
use Rattle.value_follows.proofs.Putting.{word_same}
use Rattle.value_follows.proofs.Single.{nothing_changes}
use Rattle.rows_dropping.proofs.Spare.{OnWay, Changed, words_after, way_then, moved}
use Rattle.rows_dropping.proofs.Making.{new_worlds, new_changes, new_changed, new_is, new_made, new_formed, unmade, making, with_new}
use Rattle.rows_dropping.proofs.Sparing.{record_desc, new_words, new_bare}
use Rattle.rows_dropping.proofs.Boxes.{Boxes, lies_in}
use Rattle.rows_dropping.proofs.Boxed.{BoxIs, box_is}
use Rattle.rows_dropping.proofs.Moving.{DoesMove}
use Rattle.rows_dropping.proofs.Passing.{link_change}
use Rattle.rows_dropping.proofs.Steps.{in_code}
use Rattle.rows_dropping.proofs.Stages.{Comes}
use Rattle.rows_dropping.proofs.Written.{number_room, reference_room}
use Rattle.rows_dropping.proofs.Picking.{Picks, instr, u, v, told_way, from_idle, Starts, IntoNew, has_got}

module _ (m : typed.Module) (b : Base m) (i : ℕ) (p : code.Process) (t : Ty) (n into from : ℕ) (known : held.Slots) (a : Picks m p t n into from known) where
  abbrev u_here : Value
  u_here = u m b i p t n into from known a

  abbrev v_here : Value
  v_here = v m b i p t n into from known a

  module _ (far : ℕ) (k : Facts) (x : World) (q : Process) (s : OnWay m i p known (into ∷ []) far k x q) where
    abbrev f : typed.Function
    f = s.stands.is.function

    abbrev types : List Ty
    types = types_of m f

    abbrev n_at : ℕ
    n_at = number_place m.adts types into

    abbrev r_at : ℕ
    r_at = reference_place m.adts types into

    -- the types that the row names have their numbers
    pub part_type : slice_get (object_of m).types (type_number m (OfRecord t)) ≡ Some (record_desc m.adts t)
    part_type =
        objects_have.types m s.stands.is.number f p.frame.pc (instr m b i p t n into from known a) (OfRecord t) s.stands.is.there
        (in_code m b i p (instr m b i p t n into from known a) a.here known (into ∷ []) far k x q s) (inl refl)

    pub whole_type : slice_get (object_of m).types (type_number m (OfRecord a.whole)) ≡ Some (record_desc m.adts a.whole)
    whole_type =
        subst (λ z. slice_get (object_of m).types (type_number m (OfRecord z)) ≡ Some (record_desc m.adts z))
        (told_way m b i p t n into from known a (into ∷ []) far k x q s)
        (objects_have.types m s.stands.is.number f p.frame.pc (instr m b i p t n into from known a)
        (OfRecord (told_at m f.of.answer (of_function m f) p.frame.pc from)) s.stands.is.there
        (in_code m b i p (instr m b i p t n into from known a) a.here known (into ∷ []) far k x q s) (inr (inl refl)))

    -- ---- the words of the slot are others

    module _ (k' : Facts) (x' : World) (c : ℕ) (d : Changed m i p s.stands.is.words.own q.frame.serial c k k' x x') (others : List Word)
        (else_so : ElseAsWas q.frame.words others n_at 8)
        (kind : AreOf (frame_bytes m.adts types (length p.frame.slots)) (frame_references m.adts types (length p.frame.slots)) others) where
      pub into_words : (after : WordsAre m.adts k' x'.heap q.frame.serial (into ∷ []) types s.stands.is.known p.frame.variables p.frame.slots others)
          × (after.own ≡ s.stands.is.words.own)
      into_words =
          let before = words_after m i p known (into ∷ []) far k k' x x' q s c d in
          let owned = (frames_later m.adts k' x'.heap q.frame.serial (into ∷ []) types s.stands.is.known p.frame.variables p.frame.slots q.frame.words
          before.0).owned in
          let change = slots_change.within m.adts k' k' x'.heap x'.heap q.frame.serial (into ∷ []) types s.stands.is.known p.frame.variables
          p.frame.slots q.frame.words others into before.0 (inl refl) (grows_same k') else_so kind (λ r e h. ((owned r e h).0, refl)) in
          (change.0, change.1 ∙ before.1)

      pub into_same : (place : ℕ) → (4 * (place / 4) + 4 ≤ n_at) → word_at others (pos place) ≡ word_at q.frame.words (pos place)
      into_same place l = word_same q.frame.words others place (else_so.each (place / 4) (λ h. let e = h.0 in absurd (omega (arith, e, l))))

      abbrev pub into_process : Process
      into_process =
          moved m i p known (into ∷ []) far k k' x x' q s c d (into ∷ []) others into_words.0 into_words.1 (into_same answer_place (omega arith))

      abbrev pub into_way : OnWay m i p known (into ∷ []) (suc far) k' x' into_process
      into_way =
          way_then m i p known (into ∷ []) far k k' x x' q s c d (into ∷ []) others into_words.0 into_words.1 (into_same answer_place (omega arith))

    -- ---- the part, where it stands

    module _ (w : Shared) (hold : HoldTheSame m k i x p q) (worlds : (sides m).worlds k w x) where
      pub known_here : type_held (held.slot s.stands.is.known from) ≡ Some a.whole
      known_here = ap (λ (h : held.Slots). type_held (held.slot h from)) s.known_so ∙ a.known_so

      pub box : BoxIs m k i w x p q (into ∷ []) s.stands.is hold worlds from a.below_from (from_idle m b i p t n into from known a) a.whole a.form known_here
      box = box_is m k i w x p q (into ∷ []) s.stands.is hold worlds from a.below_from (from_idle m b i p t n into from known a) a.whole a.form known_here

      same_held : (y z : Value) → ◌≡◌ {A = core.Slot} (Holds y) (Holds z) → y ≡ z
      same_held y z e = cc

      pub boxes_v : Boxes m.adts a.whole k box.inner v_here
      boxes_v = subst (λ y. Boxes m.adts a.whole k box.inner y) (same_held box.value v_here (sym box.holds ∙ a.holds_so)) box.boxes

      abbrev pub part_place : ℕ
      part_place = within m.adts a.whole (n ∷ [])

      pub part_lies : Lies m.adts k box.inner part_place t (room_for m.adts t) u_here
      part_lies =
          let lies = parts_lie.there m.adts k box.inner 0 a.whole (n ∷ []) v_here a.path (lies_in m.adts a.whole a.laid k box.inner v_here boxes_v) in
          let zero_on : 0 + part_place ≡ part_place = omega arith in
          subst (λ c. Lies m.adts k box.inner c t (room_for m.adts t) u_here) zero_on
          (subst (λ y. Lies m.adts k box.inner (0 + part_place) y (room_for m.adts y) u_here) a.ends lies)

      abbrev pub from_at : ℕ
      from_at = reference_place m.adts types from

      abbrev pub lead_part : Leads x q (behind from_at part_place) box.inner part_place
      lead_part = (spots_lead.inner x q from_at box.block box.inner part_place box.word box.there).0

-- ---- a record is made for it

module _ (m : typed.Module) (b : Base m) (i : ℕ) (p : code.Process) (t : Ty) (n into from : ℕ) (known : held.Slots) (a : Picks m p t n into from known)
    (far : ℕ) (k : Facts) (w : Shared) (x : World) (q : Process) (s : Starts m b i p t n into from known a far k x q) (worlds : (sides m).worlds k w x) where
  abbrev at_into : ℕ
  at_into = reference_place m.adts (types_of m s.way.stands.is.function) into

  abbrev new_inst : Inst
  new_inst = inst op.New (operand.Imm (pos (type_number m (OfRecord t)))) middle.None (own at_into)

  abbrev world_then : World
  world_then = with_new m i k w x q.frame.serial (new_words m.adts t) worlds (new_bare m.adts t)

  abbrev facts_then : Facts
  facts_then = making m i k w x q.frame.serial (new_words m.adts t) worlds (new_bare m.adts t)

  abbrev lead : Leads x q (own at_into) q.frame.words at_into
  lead = (spots_lead.own x q at_into).0

  new_stores : StoresWord (obey frames_limit (object_of m) x q new_inst op.New) world_then q lead.place q.frame.words at_into (Refer (Some (next_serial x)))
  new_stores =
      words_move.new frames_limit (object_of m) x q new_inst (type_number m (OfRecord t)) (record_desc m.adts t) q.frame.words at_into lead s.idle.0 (inl refl)
      refl (part_type m b i p t n into from known a far k x q s.way) s.idle.1

  abbrev others : List Word
  others = with_word q.frame.words at_into (Refer (Some (next_serial x)))

  new_else : ElseAsWas q.frame.words others (number_place m.adts (types_of m s.way.stands.is.function) into) 8
  new_else = record {
    each = λ c other. elim (low_or_high (4 * c) (number_place m.adts (types_of m s.way.stands.is.function) into)) [
      | inl low ↦ new_stores.0.changes.words c (inl (omega (arith, low)))
      | inr high ↦ elim (low_or_high (4 * c) (number_place m.adts (types_of m s.way.stands.is.function) into + 8)) [
        | inl within ↦ absurd (other (high, within))
        | inr past ↦ new_stores.0.changes.words c (inr (omega (arith, past)))
      ]
    ];
  }

  new_frame_kind : AreOf (frame_bytes m.adts (types_of m s.way.stands.is.function) (length p.frame.slots))
      (frame_references m.adts (types_of m s.way.stands.is.function) (length p.frame.slots)) others
  new_frame_kind =
      kinds_stay.all (frame_bytes m.adts (types_of m s.way.stands.is.function) (length p.frame.slots))
      (frame_references m.adts (types_of m s.way.stands.is.function) (length p.frame.slots)) q.frame.words others
      s.way.stands.is.words.kind new_stores.0.changes.many new_stores.0.changes.refer new_stores.0.changes.referred
      (new_stores.0.ranged (λ z e. absurd cc) s.way.stands.is.words.kind.ranged)

  change_then : Changed m i p s.way.stands.is.words.own q.frame.serial (next_serial x) k facts_then x world_then
  change_then =
      new_changed m i k w x q.frame.serial (new_words m.adts t) worlds (new_bare m.adts t) p s.way.stands.is.words.own s.way.stands.is.mine

  abbrev process_then : Process
  process_then = into_process m b i p t n into from known a far k x q s.way facts_then world_then (next_serial x) change_then others new_else new_frame_kind

  pub makes_one : Reaches (object_of m ∷ []) x q (object_of m) new_inst
      → Comes m b i p (instr m b i p t n into from known a) a.here known (into ∷ []) from a.whole
      (IntoNew m b i p t n into from known a (suc far)) k w x q
  makes_one reaches = record {
    now = facts_then;
    world = world_then;
    process = process_then;
    goes = steps_obey.stores frames_limit (object_of m ∷ []) x q (object_of m) new_inst world_then lead.place others _ reaches new_stores.1
        (stores_behind x q (Record (new_words m.adts t)) lead.place others _ ((spots_lead.own x q at_into).1 others));
    changes = new_changes m i k w x q.frame.serial (new_words m.adts t) worlds (new_bare m.adts t);
    worlds = new_worlds m i k w x q.frame.serial (new_words m.adts t) worlds (new_bare m.adts t);
    after = record {
      way = into_way m b i p t n into from known a far k x q s.way facts_then world_then (next_serial x) change_then others new_else new_frame_kind;
      mine = record {
        block = next_serial x;
        inner = new_words m.adts t;
        word = new_stores.0.there;
        there = new_is m i k w x q.frame.serial (new_words m.adts t) worlds (new_bare m.adts t);
        unknown = (unmade m i k w x q.frame.serial (new_words m.adts t) worlds (new_bare m.adts t)).fact;
        made = new_made m i k w x q.frame.serial (new_words m.adts t) worlds (new_bare m.adts t);
        formed = new_formed m i k w x q.frame.serial (new_words m.adts t) worlds (new_bare m.adts t);
        apart = λ y h. change_then.apart y
            (subst (λ (o : ℕ → List ℕ). Has (o y) (next_serial x))
            (into_words m b i p t n into from known a far k x q s.way facts_then world_then (next_serial x) change_then others new_else new_frame_kind).1 h);
        covered = λ c h. absurd (new_bare m.adts t c h);
        so = refl;
      };
      spare = into_same m b i p t n into from known a far k x q s.way facts_then world_then (next_serial x) change_then others new_else new_frame_kind
          (spare_place m.adts (types_of m s.way.stands.is.function)) (omega arith) ∙ s.spare;
    };
  }

-- ---- a number or a reference comes into the slot itself

simple_size : (defs : List Def) (t : Ty) → (form_of t ≡ AsNumber) ⊎ (form_of t ≡ AsReference) → (room_for defs t).size ≤ 4
simple_size defs ty.Byte e = omega arith
simple_size defs ty.Int e = omega arith
simple_size defs ty.Big e = absurd (elim e [ inl g ↦ cc | inr g ↦ cc ])
simple_size defs ty.Nothing e = omega arith
simple_size defs (ty.Tuple ts) e = absurd (elim e [ inl g ↦ cc | inr g ↦ cc ])
simple_size defs (ty.Adt c) e = absurd (elim e [ inl g ↦ cc | inr g ↦ cc ])
simple_size defs ty.Chars e = omega arith
simple_size defs ty.Nil e = omega arith
simple_size defs (ty.ArrayOf z) e = omega arith
simple_size defs (ty.ListOf z) e = omega arith
simple_size defs (ty.ChanOf z) e = omega arith
simple_size defs (ty.RefAdt c) e = omega arith
simple_size defs (ty.RefPick c j) e = omega arith
simple_size defs (ty.Module c) e = omega arith

pub reference_is : (defs : List Def) (t : Ty) → form_of t ≡ AsReference → room_for defs t ≡ reference
reference_is defs ty.Chars e = refl
reference_is defs ty.Nil e = refl
reference_is defs (ty.ArrayOf z) e = refl
reference_is defs (ty.ListOf z) e = refl
reference_is defs (ty.ChanOf z) e = refl
reference_is defs (ty.RefAdt c) e = refl
reference_is defs (ty.RefPick c j) e = refl
reference_is defs (ty.Module c) e = refl
reference_is defs z e = absurd cc

module _ (m : typed.Module) (b : Base m) (i : ℕ) (p : code.Process) (t : Ty) (n into from : ℕ) (known : held.Slots) (a : Picks m p t n into from known)
    (part_live : List ℕ) (part_names : NamesOnly part_live (u m b i p t n into from known a))
    (move : ℕ → isa.Operand → isa.Operand → Inst) (does : DoesMove m.adts t (λ p. Unit {0}) move)
    (far : ℕ) (k : Facts) (w : Shared) (x : World) (q : Process) (s : Starts m b i p t n into from known a far k x q) (hold : HoldTheSame m k i x p q)
    (worlds : (sides m).worlds k w x) where
  abbrev n_into : ℕ
  n_into = number_place m.adts (types_of m s.way.stands.is.function) into

  abbrev r_into : ℕ
  r_into = reference_place m.adts (types_of m s.way.stands.is.function) into

  abbrev from_slot : ℕ
  from_slot = reference_place m.adts (types_of m s.way.stands.is.function) from

  abbrev box_here : BoxIs m k i w x p q (into ∷ []) s.way.stands.is hold worlds from a.below_from (from_idle m b i p t n into from known a) a.whole a.form
      (known_here m b i p t n into from known a far k x q s.way w hold worlds)
  box_here = box m b i p t n into from known a far k x q s.way w hold worlds

  abbrev place_in : ℕ
  place_in = part_place m b i p t n into from known a far k x q s.way w hold worlds

  -- at this byte of the slot, where there is room
  module _ (to : ℕ) (first : n_into ≤ to) (last : to + 4 ≤ n_into + 8) (room : HasRoom m.adts q.frame.words to t (room_for m.adts t))
      (simple : (form_of t ≡ AsNumber) ⊎ (form_of t ≡ AsReference)) where
    abbrev lead_to : Leads x q (own to) q.frame.words to
    lead_to = (spots_lead.own x q to).0

    abbrev inst_here : Inst
    inst_here = move (type_number m (OfRecord t)) (behind from_slot place_in) (own to)

    moves_here : (others : List Word) × Writes q.frame.words others to box_here.inner place_in (room_for m.adts t).size
        × (obey frames_limit (object_of m) x q inst_here inst_here.op ≡ (with_words_at x q lead_to.place others >>= λ y. Found (next y)))
    moves_here =
        does k frames_limit (object_of m) x q (u m b i p t n into from known a) (type_number m (OfRecord t)) (behind from_slot place_in) (own to)
        box_here.inner q.frame.words place_in to (lead_part m b i p t n into from known a far k x q s.way w hold worlds) lead_to
        (part_lies m b i p t n into from known a far k x q s.way w hold worlds) room (part_type m b i p t n into from known a far k x q s.way) tt

    stands_there : Stands m.adts k moves_here.0 to t (u m b i p t n into from known a)
    stands_there =
        (values_move.stands m.adts k box_here.inner q.frame.words moves_here.0 place_in to t (room_for m.adts t) (u m b i p t n into from known a)
        (part_lies m b i p t n into from known a far k x q s.way w hold worlds) room moves_here.1).0.stands

    outside : (c : ℕ) → (4 * c + 4 ≤ to) ⊎ (to + 4 ≤ 4 * c) → slice_get moves_here.0 c ≡ slice_get q.frame.words c
    outside c (inl l) = moves_here.1.words c (inl l)
    outside c (inr l) = let few = simple_size m.adts t simple in moves_here.1.words c (inr (omega (arith, l, few)))

    else_here : ElseAsWas q.frame.words moves_here.0 n_into 8
    else_here = record {
      each = λ c other. elim (low_or_high (4 * c) n_into) [
        | inl low ↦ let even : n_into % 4 ≡ 0 = omega arith in outside c (inl (omega (arith, low, first, even)))
        | inr high ↦ elim (low_or_high (4 * c) (n_into + 8)) [
          | inl within ↦ absurd (other (high, within))
          | inr past ↦ outside c (inr (omega (arith, past, last)))
        ]
      ];
    }

    kind_here : AreOf (frame_bytes m.adts (types_of m s.way.stands.is.function) (length p.frame.slots))
        (frame_references m.adts (types_of m s.way.stands.is.function) (length p.frame.slots)) moves_here.0
    kind_here =
        kinds_stay.all (frame_bytes m.adts (types_of m s.way.stands.is.function) (length p.frame.slots))
        (frame_references m.adts (types_of m s.way.stands.is.function) (length p.frame.slots)) q.frame.words moves_here.0
        s.way.stands.is.words.kind moves_here.1.many moves_here.1.refer moves_here.1.referred
        (moves_here.1.ranged box_here.boxes.0.ranged s.way.stands.is.words.kind.ranged)

    abbrev none_changes : Changed m i p s.way.stands.is.words.own q.frame.serial (length x.heap) k k x x
    none_changes = link_change m i p known (into ∷ []) far k x q s.way t a.part_small w worlds

    comes_into : (SlotStands m.adts k x.heap q.frame.serial moves_here.0 n_into r_into (Of t part_live) (Holds (u m b i p t n into from known a)) [])
        → Reaches (object_of m ∷ []) x q (object_of m) inst_here
        → Comes m b i p (instr m b i p t n into from known a) a.here known (into ∷ []) from a.whole
        ((has_got m b i p t n into from known a part_live).at (suc far)) k w x q
    comes_into slot reaches = record {
      now = k;
      world = x;
      process = into_process m b i p t n into from known a far k x q s.way k x (length x.heap) none_changes moves_here.0 else_here kind_here;
      goes = steps_obey.stores frames_limit (object_of m ∷ []) x q (object_of m) inst_here x lead_to.place moves_here.0 _ reaches moves_here.2
          ((spots_lead.own x q to).1 moves_here.0);
      changes = nothing_changes m k i x;
      worlds = worlds;
      after = record {
        way = into_way m b i p t n into from known a far k x q s.way k x (length x.heap) none_changes moves_here.0 else_here kind_here;
        got = slot;
        spare = into_same m b i p t n into from known a far k x q s.way k x (length x.heap) none_changes moves_here.0 else_here kind_here
            (spare_place m.adts (types_of m s.way.stands.is.function)) (omega arith) ∙ s.spare;
      };
    }

  -- a number
  module _ (form : form_of t ≡ AsNumber) where
    abbrev room_number : HasRoom m.adts q.frame.words n_into t (room_for m.adts t)
    room_number =
        number_room m.adts (types_of m s.way.stands.is.function) (length p.frame.slots) q.frame.words s.way.stands.is.words.laid
        s.way.stands.is.words.kind into a.below_into t form a.part_laid

    pub number_comes : Reaches (object_of m ∷ []) x q (object_of m) (move (type_number m (OfRecord t)) (behind from_slot place_in) (own n_into))
        → Comes m b i p (instr m b i p t n into from known a) a.here known (into ∷ []) from a.whole
        ((has_got m b i p t n into from known a part_live).at (suc far)) k w x q
    number_comes reaches =
        let first : n_into ≤ n_into = omega arith in
        let last : n_into + 4 ≤ n_into + 8 = omega arith in
        let others = (moves_here n_into first last room_number (inl form)).0 in
        comes_into n_into first last room_number (inl form)
        (a_value others n_into r_into t part_live (u m b i p t n into from known a)
        (subst (λ g. ValueStands m.adts k others n_into r_into g t (u m b i p t n into from known a)) (sym form) (
          stands_there n_into first last room_number (inl form),
          (
            s.idle.0,
            word_same q.frame.words others r_into (outside n_into first last room_number (inl form) (r_into / 4) (inr (omega arith))) ∙ s.idle.1,
            s.idle.2,
          ),
        )) part_names) reaches

  -- a reference
  module _ (form : form_of t ≡ AsReference) where
    abbrev room_reference : HasRoom m.adts q.frame.words r_into t (room_for m.adts t)
    room_reference =
        let is = reference_is m.adts t form in
        reference_room m.adts (types_of m s.way.stands.is.function) (length p.frame.slots) q.frame.words s.way.stands.is.words.laid
        s.way.stands.is.words.kind into a.below_into s.idle.0 s.idle.1 t form a.part_laid
        (ap (λ (r : Room). r.size) is) (ap (λ (r : Room). r.align) is) (ap (λ (r : Room). r.references) is)

    pub reference_comes : Reaches (object_of m ∷ []) x q (object_of m) (move (type_number m (OfRecord t)) (behind from_slot place_in) (own r_into))
        → Comes m b i p (instr m b i p t n into from known a) a.here known (into ∷ []) from a.whole
        ((has_got m b i p t n into from known a part_live).at (suc far)) k w x q
    reference_comes reaches =
        let first : n_into ≤ r_into = omega arith in
        let last : r_into + 4 ≤ n_into + 8 = omega arith in
        let others = (moves_here r_into first last room_reference (inr form)).0 in
        comes_into r_into first last room_reference (inr form)
        (a_value others n_into r_into t part_live (u m b i p t n into from known a)
        (subst (λ g. ValueStands m.adts k others n_into r_into g t (u m b i p t n into from known a)) (sym form)
        (stands_there r_into first last room_reference (inr form))) part_names) reaches
