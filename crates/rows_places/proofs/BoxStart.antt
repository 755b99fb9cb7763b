-- A record is made for a slot's value within a row, so many instructions behind its begin.
use Rattle.std.proofs.Common.{◌≡◌, ℕ, false, suc, pos, ◌+◌, ◌<◌, List, [], ◌∷◌, length, Some, refl, sym, ap, subst, ◌∙◌, arith, inl}
use Rattle.std.specs.Prelude.{slice_get}
use Rattle.process_model.specs.Process.{Went}
use Rattle.limbo_types.specs.Types.{Ty}
use Rattle.limbo_layout.specs.Adts.{Has}
use Rattle.limbo_layout.specs.Layout.{Laid}
use Rattle.limbo_typed.specs.Typed as typed
use Rattle.limbo_meaning.specs.Process.{Shared}
use Rattle.system_model.specs.Limits.{frames_limit}
use Rattle.core_code.specs.Code.{Instr}
use Rattle.core_code.specs.Machine as code
use Rattle.core_typing.specs.Held as held
use Rattle.core_typing.specs.Needs.{IsClean}
use Rattle.dis_isa.specs.declared.inst.Inst.{Inst}
use Rattle.dis_isa.specs.declared.inst.Operand.TheVariants as operand
use Rattle.dis_isa.specs.declared.inst.Middle.TheVariants as middle
use Rattle.dis_isa.specs.declared.op.Op.TheVariants as op
use Rattle.dis_meaning.specs.Words.{Word, Refer, Access, Found}
use Rattle.dis_meaning.specs.Process.{Process, Printing, with_frames, with_words}
use Rattle.std.specs.Prelude.{Option}
use Rattle.dis_meaning.specs.Places.{Spot}
use Rattle.dis_memory.specs.Blocks.{World, Record, next_serial}
use Rattle.dis_memory.specs.Places.{memory, with_words_at}
use Rattle.dis_memory.specs.Step.{obey}
use Rattle.value_words.specs.Facts.{Facts, Grows}
use Rattle.value_frames.specs.Frames.{reference_place, box_bytes, room_for}
use Rattle.value_frames.specs.Types.{desc}
use Rattle.value_moves.specs.Operands.{inst, own}
use Rattle.value_moves.specs.Spots.{Leads}
use Rattle.value_moves.proofs.Leading.{spots_lead}
use Rattle.value_code.specs.Objects.{object_of, of_function, size_at}
use Rattle.number_effects.specs.Giving.{with_word, WordStored, StoresWord}
use Rattle.number_effects.proofs.Giving.{results_go}
use Rattle.number_effects.proofs.Records.{words_move}
use Rattle.number_effects.proofs.Stepping.{steps_obey}
use Rattle.value_follows.specs.Stands.{types_of, place_of, Awaited, Ready}
use Rattle.value_follows.specs.Sides.{sides, HoldTheSame}
use Rattle.value_follows.specs.Rows.{is_tidied, Base}
use Rattle.value_follows.proofs.Standing.{stands_on, code_here}
use Rattle.value_follows.proofs.Putting.{at_rest}
use Rattle.value_follows.proofs.Several.{Next, moved_to}
use Rattle.rows_boxes.proofs.Blocks.{new_alike, new_changes, new_grows}
use Rattle.rows_boxes.proofs.Boxing.{Boxing, boxing_holds, boxing_later}
use Rattle.rows_boxes.proofs.Starting.{new_words, new_bare, steps_silently, further, world_then, facts_then, process_then, boxing_then, stored_there}
use Rattle.rows_places.proofs.Last.{there, begins_at, reaches_here, hold_there}

-- a record on its way, where the process is at another place of the row
boxing_at : (m : typed.Module) (number : ℕ) (f : typed.Function) (t : Ty) (into j l box : ℕ) (inner : List Word) (k : Facts) (i : ℕ) (x : World)
    (p : code.Process) (q : Process) → Boxing m number f t into j box inner k i x p q → (pc : ℕ) → pc ≡ place_of m number f p.frame.pc + l
    → Boxing m number f t into l box inner k i x p (moved_to q pc q.frame.words)
boxing_at m number f t into j l box inner k i x p q s pc e =
    let is = s.stands.is in
    let on = stands_on m k i x (into ∷ []) Awaited p q s.stands (into ∷ []) p.frame.pc pc is.known p.frame.variables p.frame.slots q.frame.words q.made
    refl is.words is.mine s.stands.goes refl in
    record {
      stands = record { number = on.stands.number; is = on.stands.is; goes = on.stands.goes; waits = on.stands.waits };
      number_is = on.number ∙ s.number_is;
      function_is = on.function ∙ s.function_is;
      pc = e;
      spare = s.spare;
      none_made = s.none_made;
      word = s.word;
      there = s.there;
      none = s.none;
      made = s.made;
      formed = s.formed;
      kind = s.kind;
      bare = s.bare;
      apart = λ r h. s.apart r (subst (λ (o : ℕ → List ℕ). Has (o r) box) on.own h);
      unnamed = s.unnamed;
    }

module _ (m : typed.Module) (b : Base m) (k : Facts) (i : ℕ) (w : Shared) (x : World) (p : code.Process) (q : Process) (ready : Ready m k i x p q)
    (hold : HoldTheSame m k i x p q) (worlds : (sides m).worlds k w x) (instr : Instr) (here : slice_get p.frame.code p.frame.pc ≡ Some instr)
    (pc : ℕ) (pr : Option Printing) (j : ℕ) (so_far : pc ≡ q.frame.pc + j) (t : Ty) (laid : Laid m.adts t (room_for m.adts t)) (into : ℕ)
    (few : into < length p.frame.slots) (clean : IsClean (held.slot ready.stands.is.known into)) (type : ℕ)
    (typed_so : slice_get (object_of m).types type ≡ Some (desc (box_bytes m.adts t) (room_for m.adts t).references)) where
  abbrev at : Process
  at = there m b k i w x p q ready hold worlds instr here pc pr j so_far

  abbrev number : ℕ
  number = ready.stands.is.number

  abbrev function : typed.Function
  function = ready.stands.is.function

  abbrev pub to : ℕ
  to = reference_place m.adts (types_of m function) into

  abbrev pub serial : ℕ
  serial = next_serial x

  abbrev pub others : List Word
  others = with_word q.frame.words to (Refer (Some serial))

  abbrev pub behind : Process
  behind = moved_to q (suc pc) others

  abbrev new_inst : Inst
  new_inst = inst op.New (operand.Imm (pos type)) middle.None (own to)

  abbrev leads_there : Leads x at (own to) q.frame.words to
  leads_there = (spots_lead.own x at to).0

  abbrev pub world : World
  world = world_then m b k i w x p q ready hold worlds instr here t laid into few clean

  abbrev pub facts : Facts
  facts = facts_then m b k i w x p q ready hold worlds instr here t laid into few clean

  goes_there : StoresWord (obey frames_limit (object_of m) x at new_inst op.New) world at leads_there.place q.frame.words to (Refer (Some serial))
  goes_there =
      let rest = (at_rest m k i x p q ready into few clean).0 in
      words_move.new frames_limit (object_of m) x at new_inst type (desc (box_bytes m.adts t) (room_for m.adts t).references) q.frame.words to
      leads_there rest.0 (inl refl) refl typed_so rest.1

  same_spot : (s s' : Spot) → ◌≡◌ {A = Access Spot} (Found s) (Found s') → s ≡ s'
  same_spot s s' e = cc

  same_place : (spots_lead.own world at to).0.place ≡ leads_there.place
  same_place =
      let later = results_go.later x (Record (new_words m.adts t)) at (own to) q.frame.words to leads_there in
      same_spot (spots_lead.own world at to).0.place leads_there.place
      (sym (spots_lead.own world at to).0.found ∙ (later.0.found ∙ ap (λ (s : Spot). Found s) later.1))

  module _ (is : begins_at m b k i w x p q ready hold worlds instr here pc pr j so_far new_inst) where
    new_made : (sides m).code.step x at ≡ Went world behind
    new_made =
        steps_obey.stores frames_limit (object_of m ∷ []) x at (object_of m) new_inst world leads_there.place others _
        (reaches_here m b k i w x p q ready hold worlds instr here pc pr j so_far new_inst is) goes_there.1
        (subst (λ (s : Spot). with_words_at world at s others ≡ Found (memory world (with_frames at (with_words at.frame others) at.below at.made)))
        same_place ((spots_lead.own world at to).1 others))

    pub stored : WordStored q.frame.words to (Refer (Some serial))
    stored = stored_there m b k i w x p q ready hold worlds instr here t laid into few clean type typed_so

    pub started : (n : ℕ) → is_tidied instr ≡ false → suc j < size_at m function.of.answer (of_function m function) p.frame.pc (Some instr)
        → ((now : Facts) (v : Shared) (y : World) → Grows k facts → Grows facts now
        → Boxing m number function t into (suc j) serial (new_words m.adts t) now i y p behind → HoldTheSame m now i y p behind
        → (sides m).worlds now v y → Next m b i p n now v y behind)
        → Next m b i p (suc n) k w x at
    started n plain long rest =
        let words = new_words m.adts t in
        let first = process_then m b k i w x p q ready hold worlds instr here t laid into few clean in
        let boxed = boxing_at m number function t into 1 (suc j) serial words facts i world p first
        (boxing_then m b k i w x p q ready hold worlds instr here t laid into few clean stored) (suc pc)
        (let e = ready.pc in omega (arith, e, so_far)) in
        let alike = new_alike m i k w x worlds q.frame.serial words (new_bare m.adts t) in
        let hold_now = hold_there m b k i w x p q ready hold worlds instr here pc pr j so_far in
        let live = b.there_again x world at behind new_made worlds.0.closed (λ c h. hold_now.same.live c (hold_now.same.roots c h)) in
        steps_silently m b i p (suc n) k facts w x world at behind new_made
        (new_changes m i k w x worlds q.frame.serial words (new_bare m.adts t)) alike
        (further m b i p number function instr ready.stands.is.there (code_here m k i x p q ready instr here) plain j at behind long
        (let e = ready.pc in omega (arith, e, so_far)) (let e = ready.pc in omega (arith, e, so_far))) (
          boxing_holds m number function t into b (suc j) serial words i p behind facts world boxed w alike live,
          λ now y v left h e.
              rest now v y (new_grows m i k w x worlds q.frame.serial words (new_bare m.adts t)) left.0.grows
              (boxing_later m number function t into b (suc j) serial words i p behind facts now world y boxed left h) h e,
        )
