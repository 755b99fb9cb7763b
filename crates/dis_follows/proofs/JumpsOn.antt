-- A jump to where the other code is already, and how far the begin of a row is.
use Rattle.std.proofs.Common.{◌≡◌, ℕ, ◌<◌, pos, List, [], ◌∷◌, Some, sym, subst, arith}
use Rattle.std.specs.Prelude.{slice_get}
use Rattle.process_model.specs.Follows.{Matches}
use Rattle.dis_isa.specs.declared.inst.Operand.TheVariants as operand
use Rattle.limbo_values.specs.declared.number.Kind.TheVariants.{Byte, Int, Big}
use Rattle.limbo_typed.specs.declared.operation.Operation.TheVariants as operation
use Rattle.system_model.specs.Limits.{frames_limit}
use Rattle.typed_meaning.specs.World as program
use Rattle.slot_code.specs.Code.{Inst, Move, Hand, Alter, Operate, Branch, Jump, Skip, Back, Begin, Call, Format, Print, Return, Leave}
use Rattle.slot_code.specs.Code.{Function, Module}
use Rattle.slot_code.specs.Machine as machine
use Rattle.slot_code.specs.Machine.{value_of}
use Rattle.dis_meaning.specs.Words.{Found}
use Rattle.dis_meaning.specs.World.{World}
use Rattle.dis_meaning.specs.Process.{Process}
use Rattle.dis_meaning.specs.Step as dis_step
use Rattle.dis_meaning.specs.Step.{target, jumps, branch}
use Rattle.dis_objects.specs.Frames.{Callee, made_at}
use Rattle.dis_objects.specs.Code.{place, jump_to, size}
use Rattle.dis_objects.specs.Objects.{context, object_of}
use Rattle.dis_objects.specs.Proper.{IsProper, ProperInst}
use Rattle.dis_follows.specs.Stands.{Known, Running, begins, at_place, WorldStands, sides}
use Rattle.dis_follows.specs.Paces as paces
use Rattle.dis_follows.proofs.Paces.{place_is}
use Rattle.dis_follows.proofs.Jumps.{is_target}
use Rattle.dis_follows.proofs.Runs.{step_is, as_known}
use Rattle.dis_follows.proofs.Frames.{get_within}
use Rattle.dis_follows.proofs.Obeys.{jumps_to}
use Rattle.dis_follows.proofs.Advances.{rests}

-- ---- each instruction becomes one at least

pub some_size : (m : Module) (f : Function) (pc : ℕ) (cs : List Callee) (i : Inst) → ProperInst m f cs pc i → 0 < size i
some_size m f pc cs (Move into x) p = omega arith
some_size m f pc cs (Hand into x) p = omega arith
some_size m f pc cs (Alter (operation.Alter u k) into x) p = omega arith
some_size m f pc cs (Alter operation.Not into x) p = omega arith
some_size m f pc cs (Alter (operation.Convert Byte Byte) into x) p = omega arith
some_size m f pc cs (Alter (operation.Convert Byte Int) into x) p = omega arith
some_size m f pc cs (Alter (operation.Convert Byte Big) into x) p = omega arith
some_size m f pc cs (Alter (operation.Convert Int Byte) into x) p = omega arith
some_size m f pc cs (Alter (operation.Convert Int Int) into x) p = omega arith
some_size m f pc cs (Alter (operation.Convert Int Big) into x) p = omega arith
some_size m f pc cs (Alter (operation.Convert Big Byte) into x) p = omega arith
some_size m f pc cs (Alter (operation.Convert Big Int) into x) p = omega arith
some_size m f pc cs (Alter (operation.Convert Big Big) into x) p = omega arith
some_size m f pc cs (Alter o into x) p = absurd p.0
some_size m f pc cs (Operate (operation.Arithmetic o k) into x y) p = omega arith
some_size m f pc cs (Operate (operation.Shift s k) into x y) p = omega arith
some_size m f pc cs (Operate (operation.Compare o k) into x y) p = omega arith
some_size m f pc cs (Operate o into x y) p = absurd p.0
some_size m f pc cs (Branch k o x y n) p = omega arith
some_size m f pc cs (Jump n) p = omega arith
some_size m f pc cs (Skip n) p = omega arith
some_size m f pc cs (Back n) p = omega arith
some_size m f pc cs (Begin g) p = omega arith
some_size m f pc cs (Call k g n into) p = omega arith
some_size m f pc cs (Format ps) p = omega arith
some_size m f pc cs (Print n into) p = omega arith
some_size m f pc cs (Return x) p = omega arith
some_size m f pc cs Leave p = omega arith

module _ (m : Module) (proper : IsProper m) (k : Known) (p : machine.Process) (r : Process) (h : Running m k p r 0 []) where
  -- At the begin of a row.
  pub begin_place : paces.place m r ≡ 3
  begin_place =
      place_is m r p.frame.function h.frame.function p.frame.pc h.frame.inst 0 h.frame.found h.frame.there
      (some_size m h.frame.function p.frame.pc (made_at h.frame.function.code p.frame.pc) h.frame.inst
      ((proper.functions p.frame.function h.frame.function h.frame.found).each p.frame.pc h.frame.inst h.frame.there)) h.frame.here

module _ (m : Module) (proper : IsProper m) (k : Known) (number : ℕ) (w : program.World) (x : World) (ws : WorldStands m k w x)
    (p : machine.Process) (r : Process) where
  pub jumps_on_goes : (pc : ℕ) → slice_get (object_of m).insts r.frame.pc ≡ Some (jump_to pc) → paces.place m r ≡ 0
      → Running m k p (at_place m r pc) 0 []
      → Matches (sides m) (paces.place m) (paces.place m r) k number w x p (dis_step.step frames_limit (object_of m ∷ []) x r)
  jumps_on_goes pc at far h =
      let C = context m p.frame.function h.frame.function in
      let l = get_within h.frame.function.code p.frame.pc h.frame.inst h.frame.there in
      let here : place C p.frame.pc ≡ pc = omega (arith, h.frame.here) in
      let target_is = is_target m proper (paces.place m) k number w x ws p (at_place m r pc) h p.frame.pc l in
      let target_is' : target (object_of m) (operand.Imm (pos pc)) ≡ Found pc =
      subst (λ n. target (object_of m) (operand.Imm (pos n)) ≡ Found n) here target_is in
      let steps = step_is m k w x r (jump_to pc) (jumps x r pc) ws h.frame.instance at
      (jumps_to frames_limit (object_of m) x r pc target_is') in
      let begin = begin_place m proper k p (at_place m r pc) h in
      subst (Matches (sides m) (paces.place m) (paces.place m r) k number w x p) (sym steps)
      (rests m (paces.place m) k number x w p (paces.place m r) k x (at_place m r pc) (as_known k) (begins h) ws
      (omega (arith, far, begin)))
