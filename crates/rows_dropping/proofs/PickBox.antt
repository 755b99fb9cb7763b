-- The record that was made for the part gets its value, and is that of its slot from then on.
use Rattle.std.proofs.Common.{◌≡◌, ℕ, suc, ◌<◌, true, List, [], ◌∷◌, Some}
use Rattle.std.proofs.Common.{refl, sym, subst, arith, inl, inr}
use Rattle.process_model.specs.Follows.{Only}
use Rattle.system_model.specs.Limits.{frames_limit}
use Rattle.heap_model.specs.Heap.{at, there}
use Rattle.heap_model.specs.Facts.{Covers}
use Rattle.limbo_types.specs.Types.{Ty}
use Rattle.limbo_layout.specs.Adts.{Has}
use Rattle.limbo_typed.specs.Typed as typed
use Rattle.limbo_meaning.specs.Process.{Shared}
use Rattle.limbo_meaning.specs.Values.{Value}
use Rattle.core_code.specs.Machine as code
use Rattle.core_typing.specs.Held as held
use Rattle.core_typing.specs.Held.{Of}
use Rattle.dis_isa.specs.declared.inst.Inst.{Inst}
use Rattle.dis_isa.specs.declared.inst.Operand as isa
use Rattle.dis_meaning.specs.Words.{Word, Refer, Found, ◌>>=◌}
use Rattle.dis_meaning.specs.Process.{Process}
use Rattle.dis_memory.specs.Blocks.{Record, World}
use Rattle.dis_memory.specs.Places.{with_words_at}
use Rattle.dis_memory.specs.Process.{next}
use Rattle.dis_memory.specs.Step.{obey}
use Rattle.value_words.specs.Facts.{Facts}
use Rattle.value_frames.specs.Frames.{Boxed, form_of, number_place, reference_place, room_for, box_bytes}
use Rattle.value_frames.specs.Types.{AreOf}
use Rattle.value_frames.specs.Standing.{WordsAre, a_value, ValueStands, NamesOnly}
use Rattle.value_moves.specs.Operands.{behind}
use Rattle.value_moves.specs.Spots.{Leads}
use Rattle.value_moves.specs.Writing.{Writes}
use Rattle.value_moves.proofs.Leading.{spots_lead}
use Rattle.value_code.specs.Data.{OfRecord}
use Rattle.value_code.specs.Objects.{object_of, type_number}
use Rattle.number_effects.specs.Stepping.{Reaches}
use Rattle.number_effects.proofs.Stepping.{steps_obey}
use Rattle.value_follows.specs.Stands.{types_of}
use Rattle.value_follows.specs.Sides.{sides, HoldTheSame}
use Rattle.value_follows.specs.Rows.{Base}
use Rattle.rows_dropping.proofs.Spare.{Changed, words_after, way_then, moved}
use Rattle.rows_dropping.proofs.Making.{with_other, other_is, other_worlds, other_changes, other_changed}
use Rattle.rows_dropping.proofs.Making.{telling, told_so, told_worlds, told_changes, told_changed}
use Rattle.rows_dropping.proofs.Sparing.{new_bare, new_kind}
use Rattle.rows_dropping.proofs.Boxes.{Boxes, room_in, boxes_cover, boxes_later}
use Rattle.rows_dropping.proofs.Boxed.{BoxIs, inner_there}
use Rattle.rows_dropping.proofs.Moving.{DoesMove}
use Rattle.rows_dropping.proofs.Stages.{Comes}
use Rattle.rows_dropping.proofs.Written.{written_refers, written_boxes}
use Rattle.rows_dropping.proofs.Picking.{Picks, instr, u, named_u, from_idle, IntoNew, has_got}
use Rattle.rows_dropping.proofs.PickInto.{part_type, box, known_here, part_place, part_lies, lead_part}

module _ (m : typed.Module) (b : Base m) (i : ℕ) (p : code.Process) (t : Ty) (n into from : ℕ) (known : held.Slots) (a : Picks m p t n into from known)
    (form : form_of t ≡ Boxed) (part_live : List ℕ) (part_names : NamesOnly part_live (u m b i p t n into from known a))
    (where_so : Process → Type 0) (move : ℕ → isa.Operand → isa.Operand → Inst) (does : DoesMove m.adts t where_so move)
    (far : ℕ) (k : Facts) (w : Shared) (x : World) (q : Process) (s : IntoNew m b i p t n into from known a far k x q) (so : where_so q)
    (hold : HoldTheSame m k i x p q) (worlds : (sides m).worlds k w x) where
  abbrev part : Value
  part = u m b i p t n into from known a

  abbrev at_into : ℕ
  at_into = reference_place m.adts (types_of m s.way.stands.is.function) into

  abbrev n_into : ℕ
  n_into = number_place m.adts (types_of m s.way.stands.is.function) into

  abbrev at_from : ℕ
  at_from = reference_place m.adts (types_of m s.way.stands.is.function) from

  abbrev box_here : BoxIs m k i w x p q (into ∷ []) s.way.stands.is hold worlds from a.below_from (from_idle m b i p t n into from known a) a.whole a.form
      (known_here m b i p t n into from known a far k x q s.way w hold worlds)
  box_here = box m b i p t n into from known a far k x q s.way w hold worlds

  abbrev place_in : ℕ
  place_in = part_place m b i p t n into from known a far k x q s.way w hold worlds

  kind_so : AreOf (box_bytes m.adts t) (room_for m.adts t).references s.mine.inner
  kind_so = subst (λ ws. AreOf (box_bytes m.adts t) (room_for m.adts t).references ws) (sym s.mine.so) (new_kind m.adts t a.part_laid)

  abbrev lead_to : Leads x q (behind at_into 0) s.mine.inner 0
  lead_to = (spots_lead.inner x q at_into s.mine.block s.mine.inner 0 s.mine.word s.mine.there).0

  abbrev inst_here : Inst
  inst_here = move (type_number m (OfRecord t)) (behind at_from place_in) (behind at_into 0)

  moves_here : (others : List Word) × Writes s.mine.inner others 0 box_here.inner place_in (room_for m.adts t).size
      × (obey frames_limit (object_of m) x q inst_here inst_here.op ≡ (with_words_at x q lead_to.place others >>= λ y. Found (next y)))
  moves_here =
      does k frames_limit (object_of m) x q part (type_number m (OfRecord t)) (behind at_from place_in) (behind at_into 0)
      box_here.inner s.mine.inner place_in 0 (lead_part m b i p t n into from known a far k x q s.way w hold worlds) lead_to
      (part_lies m b i p t n into from known a far k x q s.way w hold worlds) (room_in m.adts t a.part_laid s.mine.inner kind_so)
      (part_type m b i p t n into from known a far k x q s.way) so

  boxes_so : Boxes m.adts t k moves_here.0 part
  boxes_so =
      written_boxes m.adts t a.part_laid k box_here.inner s.mine.inner moves_here.0 place_in part
      (part_lies m b i p t n into from known a far k x q s.way w hold worlds) kind_so moves_here.1

  covered : (d : ℕ) → Has moves_here.0 (Refer (Some d)) → Covers k (λ c. 0 < code.process_names p c) d
  covered d h = boxes_cover m.adts t a.part_laid k moves_here.0 part (code.process_names p) (named_u m b i p t n into from known a) boxes_so d h

  live : (d : ℕ) → Has moves_here.0 (Refer (Some d)) → there (at x.heap d) ≡ true
  live d h = elim (written_refers s.mine.inner moves_here.0 box_here.inner 0 place_in (room_for m.adts t).size moves_here.1 d h) [
    | inl c ↦ inner_there m k i w x p q (into ∷ []) s.way.stands.is hold worlds box_here.block box_here.inner box_here.there d c
    | inr c ↦ absurd (new_bare m.adts t d (subst (λ ws. Has ws (Refer (Some d))) s.mine.so c))
  ]

  abbrev named : ℕ → Type 0
  named c = 0 < code.process_names p c

  abbrev world_then : World
  world_then = with_other m i k w x s.mine.block s.mine.inner moves_here.0 worlds s.mine.there s.mine.unknown s.mine.made live named covered

  filled_worlds : (sides m).worlds k w world_then
  filled_worlds = other_worlds m i k w x s.mine.block s.mine.inner moves_here.0 worlds s.mine.there s.mine.unknown s.mine.made live named covered

  filled_is : at world_then.heap s.mine.block ≡ Some (Record moves_here.0)
  filled_is = other_is m i k w x s.mine.block s.mine.inner moves_here.0 worlds s.mine.there s.mine.unknown s.mine.made live named covered

  abbrev facts_then : Facts
  facts_then = telling m i k w world_then s.mine.block moves_here.0 filled_worlds filled_is s.mine.unknown s.mine.made named covered

  abbrev fills : Changed m i p s.way.stands.is.words.own q.frame.serial s.mine.block k k x world_then
  fills =
      other_changed m i k w x s.mine.block s.mine.inner moves_here.0 worlds s.mine.there s.mine.unknown s.mine.made live named covered p
      s.way.stands.is.words.own q.frame.serial s.mine.apart s.mine.formed

  abbrev tells : Changed m i p s.way.stands.is.words.own q.frame.serial s.mine.block k facts_then world_then world_then
  tells =
      told_changed m i k w world_then s.mine.block moves_here.0 filled_worlds filled_is s.mine.unknown s.mine.made named covered p
      s.way.stands.is.words.own q.frame.serial s.mine.apart s.mine.formed

  change_then : Changed m i p s.way.stands.is.words.own q.frame.serial s.mine.block k facts_then x world_then
  change_then = record {
    grows = tells.grows;
    more = omega arith;
    keeps = λ c free made ne. ((tells.keeps c free made ne).0, (fills.keeps c free made ne).1);
    facts = tells.facts;
    apart = s.mine.apart;
    other = λ e. s.mine.formed;
  }

  changes_then : (sides m).changes (Only i) k facts_then x world_then
  changes_then =
      let one = other_changes m i k w x s.mine.block s.mine.inner moves_here.0 worlds s.mine.there s.mine.unknown s.mine.made live named covered in
      let two = told_changes m i k w world_then s.mine.block moves_here.0 filled_worlds filled_is s.mine.unknown s.mine.made named covered in (
        record {
          grows = tells.grows;
          there = one.0.there;
          free = λ c j f e ne. ((two.0.free c j f e ne).0, (one.0.free c j f e ne).1);
          carriers = one.0.carriers;
        },
        omega arith,
      )

  words_then : (after : WordsAre m.adts facts_then world_then.heap q.frame.serial (into ∷ []) (types_of m s.way.stands.is.function) s.way.stands.is.known
      p.frame.variables p.frame.slots q.frame.words) × (after.own ≡ s.way.stands.is.words.own)
  words_then = words_after m i p known (into ∷ []) far k facts_then x world_then q s.way s.mine.block change_then

  abbrev process_then : Process
  process_then = moved m i p known (into ∷ []) far k facts_then x world_then q s.way s.mine.block change_then (into ∷ []) q.frame.words
      words_then.0 words_then.1 refl

  pub boxes_come : Reaches (object_of m ∷ []) x q (object_of m) inst_here
      → Comes m b i p (instr m b i p t n into from known a) a.here known (into ∷ []) from a.whole
      ((has_got m b i p t n into from known a part_live).at (suc far)) k w x q
  boxes_come reaches = record {
    now = facts_then;
    world = world_then;
    process = process_then;
    goes = steps_obey.stores frames_limit (object_of m ∷ []) x q (object_of m) inst_here x lead_to.place moves_here.0 _ reaches moves_here.2
        ((spots_lead.inner x q at_into s.mine.block s.mine.inner 0 s.mine.word s.mine.there).1 moves_here.0);
    changes = changes_then;
    worlds = told_worlds m i k w world_then s.mine.block moves_here.0 filled_worlds filled_is s.mine.unknown s.mine.made named covered;
    after = record {
      way = way_then m i p known (into ∷ []) far k facts_then x world_then q s.way s.mine.block change_then (into ∷ []) q.frame.words
          words_then.0 words_then.1 refl;
      got = a_value q.frame.words n_into at_into t part_live part
          (subst (λ g. ValueStands m.adts facts_then q.frame.words n_into at_into g t part) (sym form) (
            s.mine.block,
            moves_here.0,
            s.mine.word,
            record {
              carries = told_so m i k w world_then s.mine.block moves_here.0 filled_worlds filled_is s.mine.unknown s.mine.made named covered;
              kind = boxes_so.0;
            },
            (boxes_later m.adts t k facts_then moves_here.0 part tells.grows boxes_so).1,
          )) part_names;
      spare = s.spare;
    };
  }
