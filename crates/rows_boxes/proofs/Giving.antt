-- Rows that give a value which gets a box: the record is made, and the rest of the row fills it.
use Rattle.std.proofs.Common.{◌≡◌, ℕ, suc, pos, ◌<◌, List, [], Some, refl, sym, subst, arith, inl}
use Rattle.std.specs.Prelude.{slice_get}
use Rattle.process_ways.specs.Ways.{Way}
use Rattle.limbo_types.specs.Types.{Ty}
use Rattle.limbo_layout.specs.Layout.{Laid}
use Rattle.limbo_layout.specs.Adts.{Def}
use Rattle.limbo_kept.specs.Operating.{HasRoom}
use Rattle.limbo_typed.specs.Typed as typed
use Rattle.limbo_meaning.specs.Process.{Shared}
use Rattle.limbo_meaning.specs.Trees.{Work}
use Rattle.core_code.specs.Code.{Instr, Give}
use Rattle.core_code.specs.Machine as code
use Rattle.core_code.proofs.Rounds.{rounds_give_rooms}
use Rattle.core_typing.specs.Held as held
use Rattle.core_typing.specs.Needs.{Finds}
use Rattle.dis_isa.specs.declared.inst.Operand.TheVariants as operand
use Rattle.dis_isa.specs.declared.inst.Middle.TheVariants as middle
use Rattle.dis_isa.specs.declared.op.Op.TheVariants as op
use Rattle.dis_meaning.specs.Process.{Process}
use Rattle.dis_memory.specs.Blocks.{World}
use Rattle.value_words.specs.Facts.{Facts}
use Rattle.value_frames.specs.Frames.{room_for}
use Rattle.value_moves.specs.Operands.{inst}
use Rattle.value_code.specs.Data.{OfRecord}
use Rattle.value_code.specs.Operands.{reference}
use Rattle.value_code.specs.Code.{Site, code_of}
use Rattle.value_code.specs.Objects.{of_function, size_at, type_number}
use Rattle.value_code.proofs.Having.{objects_have}
use Rattle.value_follows.specs.Stands.{scope}
use Rattle.value_follows.specs.Sides.{sides, HoldTheSame}
use Rattle.value_follows.specs.Rows.{place, Base, RowStands, site_of}
use Rattle.value_follows.proofs.Standing.{finds, code_here}
use Rattle.value_follows.proofs.Slots.{uses}
use Rattle.value_follows.proofs.Several.{Next}
use Rattle.value_follows.proofs.Jumps.{row as row_at}
use Rattle.rows_boxes.proofs.Blocks.{new_alike, new_changes}
use Rattle.rows_boxes.proofs.Boxing.{Boxing, boxing_holds, boxing_way}
use Rattle.rows_boxes.proofs.Starting.{new_words, new_bare, steps_silently, further, world_then, facts_then, process_then, boxing_then, stored_there, goes_new}

-- a type that has a layout has it in its room
pub room_laid : (defs : List Def) (t : Ty) → HasRoom defs t → Laid defs t (room_for defs t)
room_laid defs t h = subst (Laid defs t) (sym (rounds_give_rooms.rooms defs t h.0 h.1)) h.1

module _ (m : typed.Module) (b : Base m) (t : Ty) (o : Work) (into : ℕ) (from : List ℕ) where
  abbrev pub gives : Instr
  gives = Give t o into from

  -- What the rest of the row does once the record is there, in whichever function it stands.
  abbrev pub Rest : (n i : ℕ) → code.Process → Type 0
  Rest n i p =
      (number : ℕ) (f : typed.Function) (there : slice_get m.functions number ≡ Some f)
      (in_code : slice_get (of_function m f).code p.frame.pc ≡ Some gives) (row : RowStands m number f p.frame.pc gives)
      (box : ℕ) (q : Process) (k : Facts) (w : Shared) (x : World) → Boxing m number f t into 1 box (new_words m.adts t) k i x p q →
      HoldTheSame m k i x p q → (sides m).worlds k w x → Next m b i p n k w x q

  pub starts : (n : ℕ)
      → ((f : typed.Function) (known : held.Slots) → Finds (scope m f) f.of.answer known gives → Laid m.adts t (room_for m.adts t))
      → ((c : Site) → slice_get (code_of c gives) 0 ≡ Some (inst op.New (operand.Imm (pos (c.type_number (OfRecord t)))) middle.None (reference c.scene into)))
      → ((f : typed.Function) (pc : ℕ) → 1 < size_at m f.of.answer (of_function m f) pc (Some gives))
      → (k : Facts) (i : ℕ) (x : World) (p : code.Process) (q : Process) → (sides m).ready k i x p q
      → slice_get p.frame.code p.frame.pc ≡ Some gives → Rest n i p → Way (sides m) (place m) (suc (suc n)) k i x p q
  starts n laid first_is long k i x p q r here rest = (
    r.1,
    λ now y w left hold worlds.
        let ready = (b.ready_later k now i x y p q r.0 left hold).0 in
        let is = ready.stands.is in
        let in_code = code_here m now i y p q ready gives here in
        let found = finds m is.function p.frame.pc is.known gives ready.stands.goes in_code in
        let few = (uses m now i y [] p.frame q.frame is p.frame.pc gives in_code).0 in
        let lies = laid is.function is.known found in
        let row = row_at m b now i w y p q ready hold worlds gives here in
        let type = type_number m (OfRecord t) in
        let typed_so = objects_have.types m is.number is.function p.frame.pc gives (OfRecord t) is.there in_code (inl refl) in
        let stored = stored_there m b now i w y p q ready hold worlds gives here t lies into few found.3 type typed_so in
        let step = goes_new m b now i w y p q ready hold worlds gives here t lies into few found.3 type typed_so
        (first_is (site_of m is.number is.function p.frame.pc row.at)) in
        let boxing = boxing_then m b now i w y p q ready hold worlds gives here t lies into few found.3 stored in
        let facts = facts_then m b now i w y p q ready hold worlds gives here t lies into few found.3 in
        let world = world_then m b now i w y p q ready hold worlds gives here t lies into few found.3 in
        let r = process_then m b now i w y p q ready hold worlds gives here t lies into few found.3 in
        let alike = new_alike m i now w y worlds q.frame.serial (new_words m.adts t) (new_bare m.adts t) in
        let live = b.there_again y world q r step worlds.0.closed (λ c h. hold.same.live c (hold.same.roots c h)) in
        steps_silently m b i p (suc n) now facts w y world q r step
        (new_changes m i now w y worlds q.frame.serial (new_words m.adts t) (new_bare m.adts t)) alike
        (further m b i p is.number is.function gives is.there in_code refl 0 q r (long is.function p.frame.pc)
        (let e = ready.pc in omega (arith, e)) (let e = ready.pc in omega (arith, e)))
        (boxing_way m is.number is.function t into b n 1 _ (new_words m.adts t) i p r facts world boxing
        (boxing_holds m is.number is.function t into b 1 _ (new_words m.adts t) i p r facts world boxing w alike live)
        (λ then v z s h e. rest is.number is.function is.there in_code row _ r then v z s h e)),
  )
