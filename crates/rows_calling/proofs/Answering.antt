-- The address of where a call's answer goes is stored in the frame that is made.
use Rattle.std.proofs.Common.{◌≡◌, ℕ, ℤ, false, suc, pos, ◌+◌, ◌*◌, ◌/◌, ◌<◌, ◌≤◌, List, [], ◌∷◌, length, Some, inl, inr, refl, ap, ◌∙◌, subst, arith}
use Rattle.std.specs.Prelude.{slice_get, replicate}
use Rattle.process_model.specs.Process.{Went}
use Rattle.process_ways.specs.Ways.{Way}
use Rattle.system_model.specs.Limits.{frames_limit}
use Rattle.limbo_layout.specs.Adts.{Has}
use Rattle.limbo_typed.specs.Typed as typed
use Rattle.limbo_meaning.specs.Process.{Shared}
use Rattle.core_code.specs.Code.{Instr}
use Rattle.core_code.specs.Machine as code
use Rattle.core_typing.specs.Held as held
use Rattle.dis_isa.specs.declared.inst.Inst.{Inst}
use Rattle.dis_isa.specs.declared.inst.Middle.TheVariants as middle
use Rattle.dis_isa.specs.declared.inst.Operand as isa
use Rattle.dis_isa.specs.declared.op.Op.TheVariants as op
use Rattle.dis_meaning.specs.Words.{Word, Plain, Found, word_at}
use Rattle.dis_meaning.specs.Process.{Frame, Process, at_pc, with_words, with_frames}
use Rattle.dis_meaning.specs.Places.{address, with_frame_words}
use Rattle.dis_memory.specs.Blocks.{World}
use Rattle.dis_memory.specs.Places.{memory}
use Rattle.dis_memory.specs.Step.{obey}
use Rattle.value_words.specs.Contents.{AreInRange}
use Rattle.value_words.specs.Facts.{Facts}
use Rattle.value_frames.specs.Frames.{linkage_bytes, answer_place, made_place, spare_place, reference_place, frame_bytes, frame_references}
use Rattle.value_frames.specs.Types.{AreOf}
use Rattle.value_frames.specs.Slots.{ElseAsWas}
use Rattle.value_frames.proofs.Slots.{slots_change}
use Rattle.value_frames.proofs.Replacing.{kinds_stay}
use Rattle.value_moves.specs.Changing.{Changes}
use Rattle.value_moves.specs.Operands.{inst, behind}
use Rattle.value_moves.specs.Spots.{Leads, LeadsAndStores}
use Rattle.value_moves.proofs.Changing.{low_or_high}
use Rattle.value_moves.proofs.Leading.{spots_lead}
use Rattle.value_code.specs.Objects.{of_function, object_of}
use Rattle.number_effects.specs.Giving.{with_word, StoresWord}
use Rattle.number_effects.specs.Stepping.{Reaches, on_next}
use Rattle.number_effects.proofs.Records.{words_move}
use Rattle.number_effects.proofs.Stepping.{steps_obey}
use Rattle.value_follows.specs.Stands.{types_of, Awaited}
use Rattle.value_follows.specs.Sides.{sides, HoldTheSame}
use Rattle.value_follows.specs.Rooted.{BusyLead, PlaceAccounted}
use Rattle.value_follows.specs.Rows.{place, is_tidied, row_of, Base}
use Rattle.value_follows.proofs.Putting.{word_same}
use Rattle.value_follows.proofs.Single.{nothing_changes}
use Rattle.value_follows.proofs.Several.{Next}
use Rattle.value_follows.proofs.Standing.{all_wait}
use Rattle.rows_calling.proofs.OnTheWay.{On}
use Rattle.rows_calling.proofs.Linking.{linkage_word}
use Rattle.rows_calling.proofs.Making.{Called, Made, made_words, made_stored, making_by}

-- Where something is stored in the linkage of the frame that is made, it stands for what it stood for.
module _ (m : typed.Module) (k : Facts) (x : World) (ng : ℕ) (g : typed.Function) (h : code.Frame) (c : Frame) (called : Called m k x ng g h c)
    (others : List Word) (to size : ℕ) (high : to + size ≤ 32) (changes : Changes c.words others to size) (ranged : AreInRange others) where
  linkage_else : ElseAsWas c.words others 0 linkage_bytes
  linkage_else = record {
    each = λ w out. elim (low_or_high (4 * w) linkage_bytes) [
      | inl below ↦ absurd (out (omega arith, below))
      | inr above ↦ changes.words w (inr (omega (arith, high, above)))
    ];
  }

  linkage_kind : AreOf (frame_bytes m.adts (types_of m g) (length h.slots)) (frame_references m.adts (types_of m g) (length h.slots)) others
  linkage_kind =
      kinds_stay.all (frame_bytes m.adts (types_of m g) (length h.slots)) (frame_references m.adts (types_of m g) (length h.slots)) c.words others
      called.words.kind changes.many changes.refer changes.referred ranged

  pub called_linked : Called m k x ng g h (with_words c others)
  called_linked =
      let after = slots_change.linkage m.adts k x.heap c.serial [] (types_of m g) (replicate (of_function m g).slots held.empty) h.variables h.slots
      c.words others called.words linkage_else linkage_kind in
      record {
        there = called.there;
        code = called.code;
        answer = called.answer;
        many = called.many;
        instance = called.instance;
        formed = called.formed;
        words = after.0;
        bare = λ s. ap (λ (o : ℕ → List ℕ). o s) after.1 ∙ called.bare s;
        fresh = called.fresh;
        spare = word_same c.words others (spare_place m.adts (types_of m g)) (changes.words (spare_place m.adts (types_of m g) / 4) (inr (omega (arith, high)))) ∙ called.spare;
      }

-- the instruction
abbrev pub addressing : isa.Operand → Inst
addressing from = inst op.Lea from middle.None (behind made_place answer_place)

-- ahead of the next instruction nothing of theirs is another
abbrev pub on_further : (m : typed.Module) (k : Facts) (i : ℕ) (x : World) (busy : List ℕ) (n : ℕ) (f : typed.Function) (j : ℕ) (p : code.Process)
    (q : Process) → On m k i x busy n f j p q → (made : List Frame) → On m k i x busy n f (suc j) p (with_frames q (at_pc q.frame (suc q.frame.pc)) q.below made)
on_further m k i x busy n f j p q on made =
    let at = on.pc in
    record {
      process = on.process;
      there = on.there;
      code = on.code;
      answer = on.answer;
      many = on.many;
      instance = on.instance;
      formed = on.formed;
      known = on.known;
      words = on.words;
      mine = on.mine;
      fresh = on.fresh;
      goes = on.goes;
      waits = all_wait m k i x Awaited p.frame.answer q.frame (at_pc q.frame (suc q.frame.pc)) p.below q.below refl refl on.waits;
      pc = omega (arith, at);
      spare = on.spare;
    }

module _ (m : typed.Module) (b : Base m) (i : ℕ) (p : code.Process) (n : ℕ) (f : typed.Function) (ng : ℕ) (g : typed.Function) (h : code.Frame)
    (named : (o : ℕ) → 0 < code.frame_names h o → 0 < code.process_names p o) (k : Facts) (w : Shared) (x : World) (busy : List ℕ) (j : ℕ)
    (q : Process) (c : Frame) (on : On m k i x busy n f j p q) (called : Called m k x ng g h c) (has : Made q c) (hold : HoldTheSame m k i x p q)
    (worlds : (sides m).worlds k w x) (from : isa.Operand) (it : Word)
    (plainly : (z : ℤ) → it ≡ Plain z → ⊥) (reach : Reaches (object_of m ∷ []) x q (object_of m) (addressing from)) where
  abbrev pub frame_then : Frame
  frame_then = with_words c (with_word c.words answer_place it)

  abbrev pub process_then : Process
  process_then = with_frames q (at_pc q.frame (suc q.frame.pc)) q.below (frame_then ∷ [])

  lead : LeadsAndStores x q (behind made_place answer_place) c.words answer_place (λ new. memory x (with_frame_words q c.serial new))
  lead =
      spots_lead.frame x q made_place c.serial 0 c.words answer_place has.address (made_words m k i x busy n f j p q on c has)

  stored : (source : List Word) (at : ℕ) (s : Leads x q from source at) (v : Word) → slice_get source (at / 4) ≡ Some v
      → address q s.place ≡ it
      → StoresWord (obey frames_limit (object_of m) x q (addressing from) op.Lea) x q lead.0.place c.words answer_place it
  stored source at s v e same =
      let old = linkage_word m.adts (types_of m g) (length h.slots) c.words called.words.kind 4 (omega arith) in
      subst (λ (a : Word). StoresWord (obey frames_limit (object_of m) x q (addressing from) op.Lea) x q lead.0.place c.words answer_place a) same
      (words_move.lea frames_limit (object_of m) x q (addressing from) source at s v c.words answer_place lead.0 old.0 refl e old.1)

  pub answer_step : (source : List Word) (at : ℕ) (s : Leads x q from source at) (v : Word) → slice_get source (at / 4) ≡ Some v
      → address q s.place ≡ it → (instr : Instr)
      → slice_get p.frame.code p.frame.pc ≡ Some instr → is_tidied instr ≡ false → suc j < (row_of m f p.frame.pc instr).size
      → ((s : ℕ) → Has busy s → PlaceAccounted m k i x (code.process_names p) q.frame (reference_place m.adts (types_of m f) s))
      → BusyLead m k i x busy p process_then → (l : ℕ)
      → (Called m k x ng g h frame_then → Made process_then frame_then
      → word_at frame_then.words (pos answer_place) ≡ Found it → HoldTheSame m k i x p process_then → Way (sides m) (place m) l k i x p process_then)
      → Next m b i p l k w x q
  answer_step source at s v e same instr here plain more accounted busy_lead l way =
      let does = stored source at s v e same in
      let others = with_word c.words answer_place it in
      let step = steps_obey.stores frames_limit (object_of m ∷ []) x q (object_of m) (addressing from) x lead.0.place others
      (memory x (with_frame_words q c.serial others)) reach does.1 (lead.1 others)
      ∙ ap (λ (r : Process). Went x (on_next (memory x r))) (made_stored m k i x busy n f j p q on c has others) in
      let now = on_further m k i x busy n f j p q on (frame_then ∷ []) in
      let then_called = called_linked m k x ng g h c called others answer_place 4 (omega arith) does.0.changes
      (does.0.ranged (λ z e. absurd (plainly z e)) called.words.kind.ranged) in
      let made : Made process_then frame_then = record { made = refl; address = has.address; newer = has.newer } in
      making_by m b i p n f ng g h named k k w x x busy busy j q process_then frame_then on hold worlds instr here plain more step
      (nothing_changes m k i x) worlds now then_called made accounted busy_lead l (way then_called made does.0.there)
