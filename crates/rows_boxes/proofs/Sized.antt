-- Rows that make a record and fill it by one last instruction, which may find the size of the value in the linkage.
use Rattle.std.proofs.Common.{◌≡◌, ℕ, suc, pos, ◌<◌, ◌≤◌, Bool, true, false, List, [], ◌∷◌, ◌++◌, length, Some, refl, sym, ap, subst, ◌∙◌, arith, if◌then◌else◌}
use Rattle.std.specs.Prelude.{slice_get}
use Rattle.limbo_types.specs.Types.{Ty}
use Rattle.limbo_layout.specs.Layout.{Laid, limit}
use Rattle.limbo_typed.specs.Typed as typed
use Rattle.limbo_meaning.specs.Process.{Shared}
use Rattle.limbo_meaning.specs.Trees.{Work}
use Rattle.system_model.specs.Limits.{frames_limit}
use Rattle.core_code.specs.Code.{Instr}
use Rattle.core_code.specs.Machine as code
use Rattle.core_typing.specs.Held as held
use Rattle.core_typing.specs.Needs.{Finds}
use Rattle.dis_isa.specs.declared.inst.Inst.{Inst}
use Rattle.dis_isa.specs.declared.inst.Operand.TheVariants as operand
use Rattle.dis_isa.specs.declared.inst.Middle.TheVariants as middle
use Rattle.dis_isa.specs.declared.op.Op.TheVariants as op
use Rattle.dis_meaning.specs.Words.{Word, Plain, ◌>>=◌, number_in}
use Rattle.dis_meaning.specs.Process.{Process}
use Rattle.dis_memory.specs.Blocks.{World}
use Rattle.value_words.specs.Facts.{Facts}
use Rattle.value_frames.specs.Frames.{room_for, passing_place}
use Rattle.value_moves.specs.Operands.{Code, inst}
use Rattle.value_code.specs.Data.{OfRecord}
use Rattle.value_code.specs.Operands.{reference}
use Rattle.value_code.specs.Code.{Site, code_of}
use Rattle.value_code.specs.Objects.{object_of, of_function, size_at, blank_site}
use Rattle.number_effects.specs.Giving.{with_word}
use Rattle.number_effects.proofs.Reading.{operands_are_read}
use Rattle.number_effects.proofs.Records.{words_move}
use Rattle.value_follows.specs.Stands.{scope, types_of}
use Rattle.value_follows.specs.Sides.{sides, HoldTheSame}
use Rattle.value_follows.specs.Rows.{Base, InstrGoes, RowGoes, RowStands, site_of}
use Rattle.value_follows.proofs.Several.{Next, moved_to}
use Rattle.rows_boxes.proofs.Boxing.{Boxing}
use Rattle.rows_boxes.proofs.Starting.{new_words}
use Rattle.rows_boxes.proofs.Giving.{gives, starts}
use Rattle.rows_boxes.proofs.Numbers.{passes_words}
use Rattle.rows_boxes.proofs.Passing.{passing_leads, passing_word}
use Rattle.rows_boxes.proofs.Typed.{HasPassing, sizing}
use Rattle.rows_boxes.proofs.Whole.{small_range}

-- where the size comes first, it is there
abbrev pub SizeThere : (size : ℕ) → Bool → Process → Type 0
SizeThere n true q = HasPassing n q
SizeThere n false q = Unit {0}

module _ (m : typed.Module) (b : Base m) (t : Ty) (o : Work) (into : ℕ) (from : List ℕ)
    (small : (room_for m.adts t).size ≤ limit) (rooms : (f : typed.Function) (known : held.Slots)
    → Finds (scope m f) f.of.answer known (gives m b t o into from) → Laid m.adts t (room_for m.adts t))
    (first_is : (c : Site) → slice_get (code_of c (gives m b t o into from)) 0
    ≡ Some (inst op.New (operand.Imm (pos (c.type_number (OfRecord t)))) middle.None (reference c.scene into)))
    (sized : Bool) (last : Site → Inst)
    (code_is : (c : Site) → c.scene.adts ≡ m.adts → code_of c (gives m b t o into from)
    ≡ inst op.New (operand.Imm (pos (c.type_number (OfRecord t)))) middle.None (reference c.scene into)
    ∷ ((if sized then sizing (room_for m.adts t).size ∷ [] else []) ++ (last c ∷ []))) where
  abbrev pub instr : Instr
  instr = gives m b t o into from

  -- What the last instruction does, in whichever function the row stands.
  abbrev pub LastGoes : (i : ℕ) → code.Process → Type 0
  LastGoes i p =
      (number : ℕ) (f : typed.Function) (there : slice_get m.functions number ≡ Some f)
      (in_code : slice_get (of_function m f).code p.frame.pc ≡ Some instr) (row : RowStands m number f p.frame.pc instr)
      (j box : ℕ) (inner : List Word) (q : Process) (k : Facts) (w : Shared) (x : World) → Boxing m number f t into j box inner k i x p q →
      HoldTheSame m k i x p q → (sides m).worlds k w x → SizeThere (room_for m.adts t).size sized q →
      slice_get (code_of (site_of m number f p.frame.pc row.at) instr) j ≡ Some (last (site_of m number f p.frame.pc row.at)) →
      size_at m f.of.answer (of_function m f) p.frame.pc (Some instr) ≡ suc j → Next m b i p 0 k w x q

  module _ (i : ℕ) (p : code.Process) (here : slice_get p.frame.code p.frame.pc ≡ Some instr) (goes : LastGoes i p) (number : ℕ) (f : typed.Function)
      (there : slice_get m.functions number ≡ Some f) (in_code : slice_get (of_function m f).code p.frame.pc ≡ Some instr)
      (row : RowStands m number f p.frame.pc instr) where
    abbrev site : Site
    site = site_of m number f p.frame.pc row.at

    abbrev size : ℕ
    size = size_at m f.of.answer (of_function m f) p.frame.pc (Some instr)

    once_goes : sized ≡ false → (box : ℕ) (q : Process) (k : Facts) (w : Shared) (x : World)
        → Boxing m number f t into 1 box (new_words m.adts t) k i x p q → HoldTheSame m k i x p q → (sides m).worlds k w x → Next m b i p 0 k w x q
    once_goes e box q k w x s hold worlds =
        goes number f there in_code row 1 box (new_words m.adts t) q k w x s hold worlds (subst (λ (c : Bool). SizeThere (room_for m.adts t).size c q) (sym e) tt)
        (ap (λ (c : Code). slice_get c 1) (code_is site refl)
        ∙ ap (λ (c : Bool). slice_get ((if c then sizing (room_for m.adts t).size ∷ [] else []) ++ (last site ∷ [])) 0) e)
        (ap (λ (c : Code). length c) (code_is (blank_site m f.of.answer (of_function m f) p.frame.pc) refl)
        ∙ ap (λ (c : Bool). suc (length ((if c then sizing (room_for m.adts t).size ∷ [] else [])
        ++ (last (blank_site m f.of.answer (of_function m f) p.frame.pc) ∷ [])))) e)

    twice_goes : sized ≡ true → (box : ℕ) (q : Process) (k : Facts) (w : Shared) (x : World)
        → Boxing m number f t into 1 box (new_words m.adts t) k i x p q → HoldTheSame m k i x p q → (sides m).worlds k w x → Next m b i p 1 k w x q
    twice_goes e box q k w x s hold worlds =
        let bytes = (room_for m.adts t).size in
        let inner = new_words m.adts t in
        let long : size ≡ 3 =
        ap (λ (c : Code). length c) (code_is (blank_site m f.of.answer (of_function m f) p.frame.pc) refl)
        ∙ ap (λ (c : Bool). suc (length ((if c then sizing (room_for m.adts t).size ∷ [] else [])
        ++ (last (blank_site m f.of.answer (of_function m f) p.frame.pc) ∷ [])))) e in
        let old = passing_word m.adts (types_of m s.stands.is.function) (length p.frame.slots) q.frame.words s.stands.is.words.kind in
        let stored = words_move.word frames_limit (object_of m) x q (sizing bytes) (Plain (pos bytes)) q.frame.words passing_place
        (passing_leads m b number f t into 1 box inner i p q k w x s) old.old refl (operands_are_read.source_plain_given x q (pos bytes)) old.plainly in
        let with_size : Process = moved_to q (suc q.frame.pc) (with_word q.frame.words passing_place (Plain (pos bytes))) in
        passes_words m b t o into from number f there i p here in_code row 1 box inner q k w x s hold worlds (sizing bytes)
        (ap (λ (c : Code). slice_get c 1) (code_is site refl)
        ∙ ap (λ (c : Bool). slice_get ((if c then sizing (room_for m.adts t).size ∷ [] else []) ++ (last site ∷ [])) 0) e)
        (with_word q.frame.words passing_place (Plain (pos bytes))) stored.0.changes
        (stored.0.ranged (λ z g. small_range bytes z small g) s.stands.is.words.kind.ranged)
        stored.1 0 (subst (λ (n : ℕ). 2 < n) (sym long) (omega arith))
        (λ now v y u h g.
        goes number f there in_code row 2 box inner with_size now v y u h g
        (subst (λ (c : Bool). SizeThere bytes c with_size) (sym e) (ap (λ a. a >>= number_in) stored.0.there))
        (ap (λ (c : Code). slice_get c 2) (code_is site refl)
        ∙ ap (λ (c : Bool). slice_get ((if c then sizing (room_for m.adts t).size ∷ [] else []) ++ (last site ∷ [])) 1) e) long)

  pub sized_goes : ((i : ℕ) (p : code.Process) → slice_get p.frame.code p.frame.pc ≡ Some instr → LastGoes i p) → InstrGoes m instr
  sized_goes all k i x p q ready here = go sized refl
    where
      long : (f : typed.Function) (pc : ℕ) (c : Bool) → 1 < suc (length ((if c then sizing (room_for m.adts t).size ∷ [] else [])
          ++ (last (blank_site m f.of.answer (of_function m f) pc) ∷ [])))
      long f pc true = omega arith
      long f pc false = omega arith

      more : (f : typed.Function) (pc : ℕ) → 1 < size_at m f.of.answer (of_function m f) pc (Some instr)
      more f pc =
          subst (λ (n : ℕ). 1 < n) (sym (ap (λ (c : Code). length c) (code_is (blank_site m f.of.answer (of_function m f) pc) refl))) (long f pc sized)

      go : (c : Bool) → sized ≡ c → RowGoes m k i x p q
      go false e = (
        1,
        starts m b t o into from 0 rooms first_is more k i x p q ready here
            (λ number f there in_code row box r now w y s hold worlds.
            once_goes i p here (all i p here) number f there in_code row e box r now w y s hold worlds),
      )
      go true e = (
        2,
        starts m b t o into from 1 rooms first_is more k i x p q ready here
            (λ number f there in_code row box r now w y s hold worlds.
            twice_goes i p here (all i p here) number f there in_code row e box r now w y s hold worlds),
      )
