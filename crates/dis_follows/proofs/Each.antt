-- Whatever a process of the object does next, the process of the code that it stands for does too.
use Rattle.std.proofs.Common.{◌≡◌, ℕ, suc, pos, [], ◌∷◌, Some, refl, ap, ◌∙◌, arith}
use Rattle.std.specs.Prelude.{slice_get}
use Rattle.limbo_values.specs.declared.number.Kind.TheVariants.{Byte, Int, Big}
use Rattle.limbo_typed.specs.declared.operation.Operation.{Operation}
use Rattle.limbo_typed.specs.declared.operation.Operation.TheVariants as operation
use Rattle.system_model.specs.Values.{Num}
use Rattle.system_model.specs.Limits.{frames_limit}
use Rattle.typed_meaning.specs.World as program
use Rattle.slot_code.specs.Code.{Spot, Operand, Inst, Move, Hand, Alter, Operate, Branch, Jump, Skip, Back, Begin, Call, Format, Print}
use Rattle.slot_code.specs.Code.{Return, Leave, Module}
use Rattle.slot_code.specs.Machine as machine
use Rattle.dis_meaning.specs.World.{World}
use Rattle.dis_meaning.specs.Process.{Process}
use Rattle.dis_meaning.specs.Step as dis_step
use Rattle.dis_objects.specs.Code.{place}
use Rattle.dis_objects.specs.Objects.{context, object_of}
use Rattle.dis_objects.specs.Proper.{IsProper}
use Rattle.dis_follows.specs.Stands.{Known, Decides, Passes, IsReturn, return_inst, Running, Ready, WorldStands}
use Rattle.dis_follows.specs.Stands as stands
use Rattle.dis_follows.specs.Paces as paces
use Rattle.dis_follows.proofs.Decided.{Goal}
use Rattle.dis_follows.proofs.Rows as rows
use Rattle.dis_follows.proofs.Simple.{move_goes, hand_goes}
use Rattle.dis_follows.proofs.Operations.{arithmetic_goes, shift_goes, alters}
use Rattle.dis_follows.proofs.Converted.{convert_goes}
use Rattle.dis_follows.proofs.Passing.{byte_big_first, byte_big_second, big_byte_first, big_byte_second}
use Rattle.dis_follows.proofs.Compared.{compare_goes, compare_denied, compare_affirmed}
use Rattle.dis_follows.proofs.Denied.{not_goes, not_denied, not_affirmed}
use Rattle.dis_follows.proofs.Jumps.{jump_goes, skip_goes, back_goes, branch_goes}
use Rattle.dis_follows.proofs.JumpsOn.{jumps_on_goes}
use Rattle.dis_follows.proofs.Begins.{begins_goes, format_goes}
use Rattle.dis_follows.proofs.Framings.{call_frames, print_frames}
use Rattle.dis_follows.proofs.Passed.{passes_arguments}
use Rattle.dis_follows.proofs.Addressed.{keeps_address}
use Rattle.dis_follows.proofs.Calls.{calls_function}
use Rattle.dis_follows.proofs.Texts.{gives_format}
use Rattle.dis_follows.proofs.Printed.{gives_arguments}
use Rattle.dis_follows.proofs.PrintAddressed.{keeps_print_address}
use Rattle.dis_follows.proofs.Prints.{prints_goes}
use Rattle.dis_follows.proofs.Answers.{return_goes, leave_goes}
use Rattle.dis_follows.proofs.Returns.{ends_goes, goes_back_goes}
use Rattle.dis_follows.proofs.Entry.{enters_goes, loads_goes, leaves_goes}

module _ (m : Module) (proper : IsProper m) (k : Known) (number : ℕ) (w : program.World) (x : World) (ws : WorldStands m k w x)
    (p : machine.Process) (r : Process) where
  abbrev G : Type 0
  G = Goal m proper k number w x ws p r (dis_step.step frames_limit (object_of m ∷ []) x r)

  -- ---- at the begin of an instruction

  alters_goes : (h : Running m k p r 0 []) (o : Operation) (into : Spot) (from : Operand) → h.frame.inst ≡ Alter o into from → G
  alters_goes h (operation.Alter u j) into from e =
      alters m proper (paces.place m) k number w x ws p r h (Alter (operation.Alter u j) into from) e u j into from refl
  alters_goes h operation.Not into from e = not_goes m proper k number w x ws p r h into from e
  alters_goes h (operation.Convert Byte Big) into from e = byte_big_first m proper k number w x ws p r into from h e
  alters_goes h (operation.Convert Big Byte) into from e = big_byte_first m proper k number w x ws p r into from h e
  alters_goes h (operation.Convert Byte Byte) into from e = convert_goes m proper (paces.place m) k number w x ws p r h Byte Byte into from
      tt e
  alters_goes h (operation.Convert Byte Int) into from e = convert_goes m proper (paces.place m) k number w x ws p r h Byte Int into from tt
      e
  alters_goes h (operation.Convert Int Byte) into from e = convert_goes m proper (paces.place m) k number w x ws p r h Int Byte into from tt
      e
  alters_goes h (operation.Convert Int Int) into from e = convert_goes m proper (paces.place m) k number w x ws p r h Int Int into from tt e
  alters_goes h (operation.Convert Int Big) into from e = convert_goes m proper (paces.place m) k number w x ws p r h Int Big into from tt e
  alters_goes h (operation.Convert Big Int) into from e = convert_goes m proper (paces.place m) k number w x ws p r h Big Int into from tt e
  alters_goes h (operation.Convert Big Big) into from e = convert_goes m proper (paces.place m) k number w x ws p r h Big Big into from tt e
  alters_goes h o into from e = absurd (rows.proper_at m proper k w x ws p r 0 h (Alter o into from) e).0

  operates_goes : (h : Running m k p r 0 []) (o : Operation) (into : Spot) (left right : Operand) → h.frame.inst ≡ Operate o into left right
      → G
  operates_goes h (operation.Arithmetic o j) into left right e = arithmetic_goes m proper (paces.place m) k number w x ws p r h o j into
      left right e
  operates_goes h (operation.Shift s j) into left right e = shift_goes m proper (paces.place m) k number w x ws p r h s j into left right e
  operates_goes h (operation.Compare c j) into left right e = compare_goes m proper k number w x ws p r h c j into left right e
  operates_goes h o into left right e = absurd (rows.proper_at m proper k w x ws p r 0 h (Operate o into left right) e).0

  begin_goes : (h : Running m k p r 0 []) (i : Inst) → h.frame.inst ≡ i → G
  begin_goes h (Move into from) e = move_goes m proper (paces.place m) k number w x ws p r h into from e
  begin_goes h (Hand into from) e = hand_goes m proper (paces.place m) k number w x ws p r h into from e
  begin_goes h (Alter o into from) e = alters_goes h o into from e
  begin_goes h (Operate o into left right) e = operates_goes h o into left right e
  begin_goes h (Branch j c left right n) e = branch_goes m proper (paces.place m) k number w x ws p r h j c left right n e
  begin_goes h (Jump n) e = jump_goes m proper (paces.place m) k number w x ws p r h n e
  begin_goes h (Skip n) e = skip_goes m proper (paces.place m) k number w x ws p r h n e
  begin_goes h (Back n) e = back_goes m proper (paces.place m) k number w x ws p r h n e
  begin_goes h (Begin f) e = begins_goes m proper k number w x ws p r h f e
  begin_goes h (Call j f n into) e = call_frames m proper k number w x ws p r h j f n into e
  begin_goes h (Format ps) e = format_goes m proper k number w x ws p r h ps e
  begin_goes h (Print n into) e = print_frames m proper k number w x ws p r h n into e
  begin_goes h (Return value) e = return_goes m proper k number w x ws p r h value e
  begin_goes h Leave e = leave_goes m proper k number w x ws p r h e

  -- ---- within its code

  denied : (h : Running m k p r 1 []) → Decides m h.frame.inst p.frame (Num (pos 0)) → (i : Inst) → h.frame.inst ≡ i
      → Decides m i p.frame (Num (pos 0)) → G
  denied h dec (Operate (operation.Compare c j) into left right) e d = compare_denied m proper k number w x ws p r h c j into left right e
      dec
  denied h dec (Alter operation.Not into from) e d = not_denied m proper k number w x ws p r h into from e dec
  denied h dec i e d = absurd d

  affirmed : (h : Running m k p r 3 []) → Decides m h.frame.inst p.frame (Num (pos 1)) → (i : Inst) → h.frame.inst ≡ i
      → Decides m i p.frame (Num (pos 1)) → G
  affirmed h dec (Operate (operation.Compare c j) into left right) e d = compare_affirmed m proper k number w x ws p r h c j into left right
      e dec
  affirmed h dec (Alter operation.Not into from) e d = not_affirmed m proper k number w x ws p r h into from e dec
  affirmed h dec i e d = absurd d

  passing : (h : Running m k p r 1 []) (z : _)
      → Rattle.dis_meaning.specs.Numbers.number_at Int r.frame.words (pos Rattle.dis_objects.specs.Frames.passing_place)
      ≡ Rattle.dis_meaning.specs.Words.Found z → (i : Inst) → h.frame.inst ≡ i → Passes m i p.frame z → G
  passing h z there (Alter (operation.Convert Byte Big) into from) e d = byte_big_second m proper k number w x ws p r into from h e z d
      there
  passing h z there (Alter (operation.Convert Big Byte) into from) e d = big_byte_second m proper k number w x ws p r into from h e z d
      there
  passing h z there i e d = absurd d

  -- The return behind the answer of the first function.
  return_there : (h : Running m k p r 1 []) (i : Inst) → h.frame.inst ≡ i → IsReturn m i
      → slice_get (object_of m).insts r.frame.pc ≡ Some return_inst
  return_there h (Return value) e is = by_code (rows.coded_at m proper k w x ws p r 1 h (Return value) e).code.1.0
    where
      by_code : slice_get (object_of m).insts (suc (place (context m p.frame.function h.frame.function) p.frame.pc)) ≡ Some return_inst
          → slice_get (object_of m).insts r.frame.pc ≡ Some return_inst
      by_code c = ap (slice_get (object_of m).insts) (h.frame.here ∙ omega arith) ∙ c
  return_there h Leave e is = by_code (rows.coded_at m proper k w x ws p r 1 h Leave e).code.1.0
    where
      by_code : slice_get (object_of m).insts (suc (place (context m p.frame.function h.frame.function) p.frame.pc)) ≡ Some return_inst
          → slice_get (object_of m).insts r.frame.pc ≡ Some return_inst
      by_code c = ap (slice_get (object_of m).insts) (h.frame.here ∙ omega arith) ∙ c
  return_there h i e is = absurd is

  pub goes : Ready m k p r → G
  goes (stands.enters h) = enters_goes m proper k number w x ws p r 0 h refl
  goes (stands.loads l h) = loads_goes m proper k number w x ws p r 1 h refl l
  goes (stands.leaves l h a) = leaves_goes m proper k number w x ws p r 2 h refl l a
  goes (stands.begins h) = begin_goes h h.frame.inst refl
  goes (stands.denies h dec) = denied h dec h.frame.inst refl dec
  goes (stands.affirms h dec) = affirmed h dec h.frame.inst refl dec
  goes (stands.passes h z d there) = passing h z there h.frame.inst refl d
  goes (stands.jumps_on pc at far h) = jumps_on_goes m proper k number w x ws p r pc at far.place h
  goes (stands.framed n h has) = passes_arguments m proper k number w x ws p r n h has
  goes (stands.passed n h has) = keeps_address m proper k number w x ws p r n h has
  goes (stands.addressed n h has answers) = calls_function m proper k number w x ws p r n h has answers
  goes (stands.prints n h blank) = gives_format m proper k number w x ws p r n h blank
  goes (stands.formatted n h format) = gives_arguments m proper k number w x ws p r n h format
  goes (stands.printed n h format has) = keeps_print_address m proper k number w x ws p r n h format has
  goes (stands.answering n h format has answers) = prints_goes m proper k number w x ws p r n h format has answers
  goes (stands.goes_back f fs below there far instance h) = goes_back_goes m proper k number w x ws p r f fs below there far.place instance
      h
  goes (stands.ends h is last) = ends_goes m proper k number w x ws p r h is last (return_there h h.frame.inst refl is)
