-- Rows that give a value which lies behind what a word refers to: a record is made, and the value is moved there, by one instruction or by
-- two; where the word refers to nothing, both processes end as broken.
use Rattle.std.proofs.Common.{◌≡◌, ◌⊎◌, ℕ, suc, pos, ◌<◌, ◌≤◌, Bool, true, false, List, [], ◌∷◌, length, Some, None, refl, sym, ap, subst, ◌∙◌, arith, inl, inr}
use Rattle.std.specs.Prelude.{slice_get}
use Rattle.limbo_types.specs.Types.{Ty}
use Rattle.limbo_layout.specs.Layout.{Laid, limit}
use Rattle.limbo_typed.specs.Typed as typed
use Rattle.limbo_meaning.specs.Process.{Shared}
use Rattle.limbo_meaning.specs.Trees.{Work}
use Rattle.limbo_meaning.specs.Values.{Value}
use Rattle.system_model.specs.Limits.{frames_limit}
use Rattle.core_code.specs.Code.{Instr}
use Rattle.core_code.specs.Machine as code
use Rattle.core_code.specs.Slots as core
use Rattle.core_code.specs.Slots.{Holds}
use Rattle.core_typing.specs.Going.{got_by}
use Rattle.core_typing.specs.Held as held
use Rattle.core_typing.specs.Needs.{Finds}
use Rattle.dis_isa.specs.declared.inst.Inst.{Inst}
use Rattle.dis_isa.specs.declared.inst.Operand as isa
use Rattle.dis_isa.specs.declared.inst.Operand.TheVariants as operand
use Rattle.dis_isa.specs.declared.inst.Middle.TheVariants as middle
use Rattle.dis_isa.specs.declared.op.Op.TheVariants as op
use Rattle.dis_meaning.specs.Words.{Word, Plain, Refer, Found, Raises, ◌>>=◌, word_at, number_in}
use Rattle.dis_memory.specs.Raising.{nil_text}
use Rattle.dis_memory.specs.Step.{obey}
use Rattle.limbo_meaning.specs.Exceptions.{dereference_of_nil}
use Rattle.process_model.specs.Process.{Ends}
use Rattle.system_model.specs.Ending.{Broken}
use Rattle.number_effects.proofs.Stepping.{steps_obey}
use Rattle.rows_places.proofs.BoxMoves.{nil_once, nil_twice}
use Rattle.dis_meaning.specs.Process.{Process}
use Rattle.dis_memory.specs.Blocks.{World}
use Rattle.value_words.specs.Facts.{Facts}
use Rattle.value_frames.specs.Frames.{Boxed, form_of, room_for, passing_place}
use Rattle.value_frames.specs.Standing.{NamesOnly}
use Rattle.value_moves.specs.Operands.{Code, inst, behind, moved}
use Rattle.value_moves.specs.Spots.{Leads}
use Rattle.value_code.specs.Data.{OfRecord}
use Rattle.value_code.specs.Operands.{reference, in_box}
use Rattle.value_code.specs.Code.{Site, code_of}
use Rattle.value_code.specs.Objects.{object_of, of_function, size_at, type_number, blank_site}
use Rattle.value_code.proofs.Having.{objects_have}
use Rattle.number_effects.specs.Giving.{with_word}
use Rattle.number_effects.proofs.Reading.{operands_are_read}
use Rattle.number_effects.proofs.Records.{words_move}
use Rattle.value_follows.specs.Stands.{scope, types_of}
use Rattle.value_follows.specs.Sides.{sides, HoldTheSame}
use Rattle.value_follows.specs.Rows.{Base, InstrGoes, RowGoes, RowStands, site_of}
use Rattle.value_follows.proofs.Several.{Next, moved_to}
use Rattle.rows_boxes.proofs.Boxing.{Boxing, box_place}
use Rattle.rows_boxes.proofs.Whole.{small_range}
use Rattle.rows_boxes.proofs.Starting.{new_words}
use Rattle.rows_boxes.proofs.Filling.{reaches_on, ends_alike, full_goes}
use Rattle.rows_boxes.proofs.Giving.{gives, starts}
use Rattle.rows_boxes.proofs.Numbers.{finds_on, uses_on, passes_words}
use Rattle.rows_boxes.proofs.Passing.{passing_leads, passing_word}
use Rattle.rows_boxes.proofs.Typed.{MovesWhere, AnyHow, HasPassing, is_sized, sizing, moves_once, moves_twice}
use Rattle.rows_boxes.proofs.Moving.{SourceLies, target_leads, box_room, write_fills, write_goes}

module _ (m : typed.Module) (b : Base m) (t : Ty) (form : form_of t ≡ Boxed) (o : Work) (into : ℕ) (from : List ℕ)
    (small : (room_for m.adts t).size ≤ limit) (rooms : (f : typed.Function) (known : held.Slots) → Finds (scope m f) f.of.answer known (gives m b t o into from) → Laid m.adts t (room_for m.adts t))
    (source : Site → isa.Operand)
    (code_is : (c : Site) → code_of c (gives m b t o into from) ≡ inst op.New (operand.Imm (pos (c.type_number (OfRecord t)))) middle.None (reference c.scene into)
    ∷ moved c.scene.adts t (c.type_number (OfRecord t)) (source c) (in_box c.scene into 0)) where
  abbrev pub instr : Instr
  instr = gives m b t o into from

  -- What the row gives, wherever the record is on its way, with a source that stands for it; and that the other gives it, too.
  pub record Gives (p : code.Process) (c : Site) (q : Process) (k : Facts) (w : Shared) (x : World) : Type 0 where
    pub value : Value
    pub lies : SourceLies m t k x value
    pub leads : Leads x q (source c) lies.words lies.at
    pub names : NamesOnly (got_by m.adts t o) value
    pub does : (sides m).program.step w p ≡ code.goes_on w p (core.put p.frame.slots into (Holds value))

  -- Or the word refers to nothing, and the other ends as broken.
  pub record Stops (p : code.Process) (c : Site) (q : Process) (w : Shared) : Type 0 where
    pub word : ℕ
    pub offset : ℕ
    pub source_is : source c ≡ behind word offset
    pub nothing : word_at q.frame.words (pos word) ≡ Found (Refer None)
    pub does : (sides m).program.step w p ≡ Ends w (Broken dereference_of_nil)

  abbrev pub AllGive : ℕ → code.Process → Type 0
  AllGive i p =
      (number : ℕ) (f : typed.Function) (row : RowStands m number f p.frame.pc instr) (j box : ℕ) (inner : List Word) (q : Process) (k : Facts) (w : Shared)
      (x : World) → Boxing m number f t into j box inner k i x p q → HoldTheSame m k i x p q → (sides m).worlds k w x →
      Gives p (site_of m number f p.frame.pc row.at) q k w x ⊎ Stops p (site_of m number f p.frame.pc row.at) q w

  module _ (i : ℕ) (p : code.Process) (here : slice_get p.frame.code p.frame.pc ≡ Some instr) (all : AllGive i p) (number : ℕ) (f : typed.Function)
      (there : slice_get m.functions number ≡ Some f) (in_code : slice_get (of_function m f).code p.frame.pc ≡ Some instr)
      (row : RowStands m number f p.frame.pc instr) where
    abbrev site : Site
    site = site_of m number f p.frame.pc row.at

    abbrev size : ℕ
    size = size_at m f.of.answer (of_function m f) p.frame.pc (Some instr)

    -- the last instruction moves the value
    last_goes : (j box : ℕ) (inner : List Word) (q : Process) (k : Facts) (w : Shared) (x : World) (s : Boxing m number f t into j box inner k i x p q)
        → HoldTheSame m k i x p q → (sides m).worlds k w x → (so : Process → Type 0) → so q → (last : Inst)
        → MovesWhere m.adts t (type_number m (OfRecord t)) (source site) (behind (box_place m number f t into) 0) so last
        → ((r off : ℕ) → source site ≡ behind r off → word_at q.frame.words (pos r) ≡ Found (Refer None)
        → obey frames_limit (object_of m) x q last last.op ≡ Raises nil_text)
        → slice_get (code_of site instr) j ≡ Some last → size ≡ suc j → Next m b i p 0 k w x q
    last_goes j box inner q k w x s hold worlds so is last moves raises at long = elim (all number f row j box inner q k w x s hold worlds) [
      | inl given ↦ value_goes given
      | inr stops ↦
          ends_alike m b number f t into j box inner i p q k w x s hold worlds 0 (Broken dereference_of_nil)
          (steps_obey.raises frames_limit (object_of m ∷ []) x q (object_of m) last nil_text
          (reaches_on m b number f t into j box inner i p q k w x s hold worlds instr row last at)
          (raises stops.word stops.offset stops.source_is stops.nothing))
          stops.does
    ]
      where
        value_goes : Gives p site q k w x → Next m b i p 0 k w x q
        value_goes given =
            let laid = rooms s.stands.is.function s.stands.is.known (finds_on m b t o into from number f j box inner i p q k x s here) in
            let room = box_room m b number f t into j box inner i p q k w x s hold worlds laid in
            let d = target_leads m b number f t into j box inner i p q k w x s hold worlds laid in
            let types = objects_have.types m number f p.frame.pc instr (OfRecord t) there in_code (inl refl) in
            let move = moves k frames_limit (object_of m) x q given.value given.lies.words inner given.lies.at 0 given.leads d given.lies.lies room types is in
            full_goes m b number f t into j box inner i p q k w x s hold worlds move.0 (got_by m.adts t o) given.value
            (write_fills m b number f t into j box inner i p q k w x s hold worlds laid given.value given.lies move.0 move.1 (got_by m.adts t o) given.names)
            form (uses_on m b t o into from number f j box inner i p q k x s here).0 instr here (λ slots. refl) long
            (write_goes m b number f t into j box inner i p q k w x s hold worlds laid given.value given.lies move.0 move.1 last
            (reaches_on m b number f t into j box inner i p q k w x s hold worlds instr row last at) move.2)
            given.does

    -- where one instruction does so
    once_goes : is_sized m.adts t ≡ false → size ≡ 2 → (box : ℕ) (q : Process) (k : Facts) (w : Shared) (x : World)
        → Boxing m number f t into 1 box (new_words m.adts t) k i x p q → HoldTheSame m k i x p q → (sides m).worlds k w x → Next m b i p 0 k w x q
    once_goes e long box q k w x s hold worlds =
        let move = moves_once m.adts t (type_number m (OfRecord t)) (source site) (behind (box_place m number f t into) 0) form e in
        last_goes 1 box (new_words m.adts t) q k w x s hold worlds AnyHow tt move.0 move.2
        (λ r off is none.
        nil_once frames_limit (object_of m) x q r off none (behind (box_place m number f t into) 0) (type_number m (OfRecord t)) m.adts t form move.0
        (ap (λ o. moved m.adts t (type_number m (OfRecord t)) o (behind (box_place m number f t into) 0)) (sym is) ∙ move.1))
        (ap (λ (c : Code). slice_get c 1) (code_is site) ∙ ap (λ (c : Code). slice_get c 0) move.1) long

    -- where the size comes first
    twice_goes : is_sized m.adts t ≡ true → size ≡ 3 → (box : ℕ) (q : Process) (k : Facts) (w : Shared) (x : World)
        → Boxing m number f t into 1 box (new_words m.adts t) k i x p q → HoldTheSame m k i x p q → (sides m).worlds k w x → Next m b i p 1 k w x q
    twice_goes e long box q k w x s hold worlds =
        let bytes = (room_for m.adts t).size in
        let inner = new_words m.adts t in
        let move = moves_twice m.adts t (type_number m (OfRecord t)) (source site) (behind (box_place m number f t into) 0) form e in
        let old = passing_word m.adts (types_of m s.stands.is.function) (length p.frame.slots) q.frame.words s.stands.is.words.kind in
        let stored = words_move.word frames_limit (object_of m) x q (sizing bytes) (Plain (pos bytes)) q.frame.words passing_place
        (passing_leads m b number f t into 1 box inner i p q k w x s) old.old refl (operands_are_read.source_plain_given x q (pos bytes)) old.plainly in
        let with_size : Process = moved_to q (suc q.frame.pc) (with_word q.frame.words passing_place (Plain (pos bytes))) in
        passes_words m b t o into from number f there i p here in_code row 1 box inner q k w x s hold worlds (sizing bytes)
        (ap (λ (c : Code). slice_get c 1) (code_is site) ∙ ap (λ (c : Code). slice_get c 0) move.1)
        (with_word q.frame.words passing_place (Plain (pos bytes))) stored.0.changes
        (stored.0.ranged (λ z g. small_range bytes z small g) s.stands.is.words.kind.ranged)
        stored.1 0 (subst (λ (n : ℕ). 2 < n) (sym long) (omega arith))
        (λ now v y u h g.
        last_goes 2 box inner with_size now v y u h g (HasPassing bytes) (ap (λ a. a >>= number_in) stored.0.there) move.0 move.2
        (λ r off is none.
        nil_twice frames_limit (object_of m) y with_size r off none (behind (box_place m number f t into) 0) (type_number m (OfRecord t)) m.adts t form
        (sizing bytes) move.0
        (ap (λ o. moved m.adts t (type_number m (OfRecord t)) o (behind (box_place m number f t into) 0)) (sym is) ∙ move.1))
        (ap (λ (c : Code). slice_get c 2) (code_is site) ∙ ap (λ (c : Code). slice_get c 1) move.1) long)

  pub whole_goes : ((i : ℕ) (p : code.Process) → slice_get p.frame.code p.frame.pc ≡ Some instr → AllGive i p) → InstrGoes m instr
  whole_goes all k i x p q ready here = go (is_sized m.adts t) refl
    where
      length_is : (f : typed.Function) (pc : ℕ) → size_at m f.of.answer (of_function m f) pc (Some instr)
          ≡ suc (length (moved m.adts t 0 (source (blank_site m f.of.answer (of_function m f) pc)) (in_box (blank_site m f.of.answer (of_function m f) pc).scene into 0)))
      length_is f pc = ap (λ (c : Code). length c) (code_is (blank_site m f.of.answer (of_function m f) pc))

      once : is_sized m.adts t ≡ false → (f : typed.Function) (pc : ℕ) → size_at m f.of.answer (of_function m f) pc (Some instr) ≡ 2
      once e f pc =
          length_is f pc
          ∙ ap (λ (c : Code). suc (length c)) (moves_once m.adts t 0 (source (blank_site m f.of.answer (of_function m f) pc))
          (in_box (blank_site m f.of.answer (of_function m f) pc).scene into 0) form e).1

      twice : is_sized m.adts t ≡ true → (f : typed.Function) (pc : ℕ) → size_at m f.of.answer (of_function m f) pc (Some instr) ≡ 3
      twice e f pc =
          length_is f pc
          ∙ ap (λ (c : Code). suc (length c)) (moves_twice m.adts t 0 (source (blank_site m f.of.answer (of_function m f) pc))
          (in_box (blank_site m f.of.answer (of_function m f) pc).scene into 0) form e).1

      go : (c : Bool) → is_sized m.adts t ≡ c → RowGoes m k i x p q
      go false e = (
        1,
        starts m b t o into from 0 rooms (λ c. ap (λ (l : Code). slice_get l 0) (code_is c))
            (λ f pc. subst (λ (n : ℕ). 1 < n) (sym (once e f pc)) (omega arith)) k i x p q ready here
            (λ number f there in_code row box r now w y s hold worlds.
            once_goes i p here (all i p here) number f there in_code row e (once e f p.frame.pc) box r now w y s hold worlds),
      )
      go true e = (
        2,
        starts m b t o into from 1 rooms (λ c. ap (λ (l : Code). slice_get l 0) (code_is c))
            (λ f pc. subst (λ (n : ℕ). 1 < n) (sym (twice e f pc)) (omega arith)) k i x p q ready here
            (λ number f there in_code row box r now w y s hold worlds.
            twice_goes i p here (all i p here) number f there in_code row e (twice e f p.frame.pc) box r now w y s hold worlds),
      )
