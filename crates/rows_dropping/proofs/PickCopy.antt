-- Another record is made for the value from which the part comes, and gets the value.
use Rattle.std.proofs.Common.{◌≡◌, ℕ, suc, ◌<◌, true, List, [], ◌∷◌, Some, None}
use Rattle.std.proofs.Common.{refl, sym, subst, arith, inl, inr}
use Rattle.system_model.specs.Limits.{frames_limit}
use Rattle.heap_model.specs.Heap.{at, there}
use Rattle.heap_model.specs.Facts.{Covers}
use Rattle.heap_model.proofs.Growing.{grows_same}
use Rattle.limbo_types.specs.Types.{Ty}
use Rattle.limbo_layout.specs.Adts.{Has}
use Rattle.limbo_typed.specs.Typed as typed
use Rattle.limbo_meaning.specs.Process.{Shared}
use Rattle.limbo_meaning.specs.Values.{Value}
use Rattle.core_code.specs.Machine as code
use Rattle.core_typing.specs.Held as held
use Rattle.dis_isa.specs.declared.inst.Inst.{Inst}
use Rattle.dis_isa.specs.declared.inst.Operand as isa
use Rattle.dis_meaning.specs.Words.{Word, Refer, Found, ◌>>=◌}
use Rattle.dis_meaning.specs.Process.{Process}
use Rattle.dis_memory.specs.Blocks.{World}
use Rattle.dis_memory.specs.Places.{with_words_at}
use Rattle.dis_memory.specs.Process.{next}
use Rattle.dis_memory.specs.Step.{obey}
use Rattle.value_words.specs.Facts.{Facts}
use Rattle.value_frames.specs.Frames.{reference_place, spare_place, room_for, box_bytes}
use Rattle.value_frames.specs.Types.{AreOf}
use Rattle.value_moves.specs.Operands.{behind}
use Rattle.value_moves.specs.Spots.{Leads}
use Rattle.value_moves.specs.Writing.{Writes}
use Rattle.value_moves.proofs.Leading.{spots_lead}
use Rattle.value_code.specs.Data.{OfRecord}
use Rattle.value_code.specs.Objects.{object_of, type_number}
use Rattle.number_effects.specs.Stepping.{Reaches}
use Rattle.value_follows.specs.Stands.{types_of}
use Rattle.value_follows.specs.Sides.{sides, HoldTheSame}
use Rattle.value_follows.specs.Rows.{Base}
use Rattle.rows_dropping.proofs.Spare.{OnWay}
use Rattle.rows_dropping.proofs.Making.{new_worlds, new_changes}
use Rattle.rows_dropping.proofs.Sparing.{new_words, new_bare, new_kind, new_inst, new_steps, new_spares, new_stored, change_then, world_then, facts_then, process_then}
use Rattle.rows_dropping.proofs.Sparing.{world_filled, process_filled, way_filled, mine_filled, worlds_filled, changes_filled, fill_steps}
use Rattle.rows_dropping.proofs.Boxes.{Boxes, lies_in, room_in, boxes_cover}
use Rattle.rows_dropping.proofs.Boxed.{BoxIs, inner_there}
use Rattle.rows_dropping.proofs.Moving.{DoesMove}
use Rattle.rows_dropping.proofs.Got.{HasGot, BothGot, got_on}
use Rattle.rows_dropping.proofs.Stages.{Comes}
use Rattle.rows_dropping.proofs.Written.{written_refers, written_boxes}
use Rattle.rows_dropping.proofs.Picking.{Picks, instr, u, v, named_v, from_idle, IsNew, Has_of}
use Rattle.rows_dropping.proofs.PickInto.{whole_type, box, boxes_v, known_here}

module _ (m : typed.Module) (b : Base m) (i : ℕ) (p : code.Process) (t : Ty) (n into from : ℕ) (known : held.Slots) (a : Picks m p t n into from known)
    (part_live : List ℕ) where
  abbrev part : Value
  part = u m b i p t n into from known a

  -- ---- a record is made

  module _ (far : ℕ) (k : Facts) (w : Shared) (x : World) (q : Process) (s : HasGot m i p into t part_live part known far k x q)
      (worlds : (sides m).worlds k w x) where
    abbrev type_so : ℕ
    type_so = type_number m (OfRecord a.whole)

    abbrev world_new : World
    world_new =
        world_then m i p known (into ∷ []) far k x q s.way w worlds a.whole (None, s.spare) type_so (whole_type m b i p t n into from known a far k x q s.way)

    abbrev facts_new : Facts
    facts_new =
        facts_then m i p known (into ∷ []) far k x q s.way w worlds a.whole (None, s.spare) type_so (whole_type m b i p t n into from known a far k x q s.way)

    abbrev process_new : Process
    process_new =
        process_then m i p known (into ∷ []) far k x q s.way w worlds a.whole (None, s.spare) type_so
        (whole_type m b i p t n into from known a far k x q s.way)

    pub makes_spare : Reaches (object_of m ∷ []) x q (object_of m)
        (new_inst m i p known (into ∷ []) far k x q s.way w worlds a.whole (None, s.spare) type_so (whole_type m b i p t n into from known a far k x q s.way))
        → Comes m b i p (instr m b i p t n into from known a) a.here known (into ∷ []) from a.whole
        (BothGot m i p into t part_live part (IsNew m b i p t n into from known a a.whole) known (suc far)) k w x q
    makes_spare reaches =
        let types_so = whole_type m b i p t n into from known a far k x q s.way in
        record {
          now = facts_new;
          world = world_new;
          process = process_new;
          goes = new_steps m i p known (into ∷ []) far k x q s.way w worlds a.whole (None, s.spare) type_so types_so reaches;
          changes = new_changes m i k w x q.frame.serial (new_words m.adts a.whole) worlds (new_bare m.adts a.whole);
          worlds = new_worlds m i k w x q.frame.serial (new_words m.adts a.whole) worlds (new_bare m.adts a.whole);
          after = record {
            spares = new_spares m i p known (into ∷ []) far k x q s.way w worlds a.whole (None, s.spare) type_so types_so;
            got = got_on m i p into t part_live part s.way.stands.is.function k facts_new x world_new q process_new refl
                (change_then m i p known (into ∷ []) far k x q s.way w worlds a.whole (None, s.spare) type_so types_so).grows
                (λ c h. let low = h.0 in
                (new_stored m i p known (into ∷ []) far k x q s.way w worlds a.whole (None, s.spare) type_so types_so).changes.words c
                (inr (omega (arith, low)))) s.got;
          };
        }

  -- ---- it gets the value

  module _ (where_so : Process → Type 0) (move : ℕ → isa.Operand → isa.Operand → Inst) (does : DoesMove m.adts a.whole where_so move)
      (far : ℕ) (k : Facts) (w : Shared) (x : World) (q : Process)
      (s : BothGot m i p into t part_live part (IsNew m b i p t n into from known a a.whole) known far k x q) (so : where_so q)
      (hold : HoldTheSame m k i x p q) (worlds : (sides m).worlds k w x) where
    abbrev way : OnWay m i p known (into ∷ []) far k x q
    way = s.spares.way

    abbrev at_spare : ℕ
    at_spare = spare_place m.adts (types_of m way.stands.is.function)

    abbrev at_from : ℕ
    at_from = reference_place m.adts (types_of m way.stands.is.function) from

    abbrev whole_value : Value
    whole_value = v m b i p t n into from known a

    abbrev box_here : BoxIs m k i w x p q (into ∷ []) way.stands.is hold worlds from a.below_from (from_idle m b i p t n into from known a) a.whole a.form
        (known_here m b i p t n into from known a far k x q way w hold worlds)
    box_here = box m b i p t n into from known a far k x q way w hold worlds

    boxes_here : Boxes m.adts a.whole k box_here.inner whole_value
    boxes_here = boxes_v m b i p t n into from known a far k x q way w hold worlds

    kind_so : AreOf (box_bytes m.adts a.whole) (room_for m.adts a.whole).references s.spares.mine.inner
    kind_so =
        subst (λ ws. AreOf (box_bytes m.adts a.whole) (room_for m.adts a.whole).references ws) (sym s.spares.mine.so) (new_kind m.adts a.whole a.laid)

    abbrev lead_from : Leads x q (behind at_from 0) box_here.inner 0
    lead_from = (spots_lead.inner x q at_from box_here.block box_here.inner 0 box_here.word box_here.there).0

    abbrev lead_to : Leads x q (behind at_spare 0) s.spares.mine.inner 0
    lead_to = (spots_lead.inner x q at_spare s.spares.mine.block s.spares.mine.inner 0 s.spares.mine.word s.spares.mine.there).0

    abbrev inst_here : Inst
    inst_here = move (type_number m (OfRecord a.whole)) (behind at_from 0) (behind at_spare 0)

    moves_here : (others : List Word) × Writes s.spares.mine.inner others 0 box_here.inner 0 (room_for m.adts a.whole).size
        × (obey frames_limit (object_of m) x q inst_here inst_here.op ≡ (with_words_at x q lead_to.place others >>= λ y. Found (next y)))
    moves_here =
        does k frames_limit (object_of m) x q whole_value (type_number m (OfRecord a.whole)) (behind at_from 0) (behind at_spare 0)
        box_here.inner s.spares.mine.inner 0 0 lead_from lead_to (lies_in m.adts a.whole a.laid k box_here.inner whole_value boxes_here)
        (room_in m.adts a.whole a.laid s.spares.mine.inner kind_so) (whole_type m b i p t n into from known a far k x q way) so

    boxes_so : Boxes m.adts a.whole k moves_here.0 whole_value
    boxes_so =
        written_boxes m.adts a.whole a.laid k box_here.inner s.spares.mine.inner moves_here.0 0 whole_value
        (lies_in m.adts a.whole a.laid k box_here.inner whole_value boxes_here) kind_so moves_here.1

    covered : (d : ℕ) → Has moves_here.0 (Refer (Some d)) → Covers k (λ c. 0 < code.process_names p c) d
    covered d h = boxes_cover m.adts a.whole a.laid k moves_here.0 whole_value (code.process_names p) (named_v m b i p t n into from known a) boxes_so d h

    live : (d : ℕ) → Has moves_here.0 (Refer (Some d)) → there (at x.heap d) ≡ true
    live d h = elim (written_refers s.spares.mine.inner moves_here.0 box_here.inner 0 0 (room_for m.adts a.whole).size moves_here.1 d h) [
      | inl c ↦ inner_there m k i w x p q (into ∷ []) way.stands.is hold worlds box_here.block box_here.inner box_here.there d c
      | inr c ↦ absurd (new_bare m.adts a.whole d (subst (λ ws. Has ws (Refer (Some d))) s.spares.mine.so c))
    ]

    abbrev New_so : Facts → List Word → Type 0
    New_so = IsNew m b i p t n into from known a a.whole

    abbrev Has_so : Facts → List Word → Type 0
    Has_so = Has_of m b i p t n into from known a a.whole whole_value

    pub copies : Reaches (object_of m ∷ []) x q (object_of m) inst_here
        → Comes m b i p (instr m b i p t n into from known a) a.here known (into ∷ []) from a.whole
        (BothGot m i p into t part_live part Has_so known (suc far)) k w x q
    copies reaches = record {
      now = k;
      world = world_filled m i p known (into ∷ []) far k x q way w worlds at_spare New_so Has_so s.spares.mine moves_here.0 live covered;
      process = process_filled m i p known (into ∷ []) far k x q way w worlds at_spare New_so Has_so s.spares.mine moves_here.0 live covered;
      goes = fill_steps m i p known (into ∷ []) far k x q way w worlds at_spare New_so Has_so s.spares.mine moves_here.0 live covered 0 inst_here reaches
          moves_here.2;
      changes = changes_filled m i p known (into ∷ []) far k x q way w worlds at_spare New_so Has_so s.spares.mine moves_here.0 live covered;
      worlds = worlds_filled m i p known (into ∷ []) far k x q way w worlds at_spare New_so Has_so s.spares.mine moves_here.0 live covered;
      after = record {
        spares = record {
          way = way_filled m i p known (into ∷ []) far k x q way w worlds at_spare New_so Has_so s.spares.mine moves_here.0 live covered;
          mine = mine_filled m i p known (into ∷ []) far k x q way w worlds at_spare New_so Has_so s.spares.mine moves_here.0 live covered boxes_so;
        };
        got = got_on m i p into t part_live part way.stands.is.function k k x
            (world_filled m i p known (into ∷ []) far k x q way w worlds at_spare New_so Has_so s.spares.mine moves_here.0 live covered) q
            (process_filled m i p known (into ∷ []) far k x q way w worlds at_spare New_so Has_so s.spares.mine moves_here.0 live covered)
            refl (grows_same k) (λ c h. refl) s.got;
      };
    }
