-- Returns with a value and without one.
use Rattle.std.proofs.Common.{◌≡◌, ℕ, suc, ℤ, pos, List, [], ◌∷◌, Some, refl, sym, ap, ◌∙◌, subst, arith}
use Rattle.std.specs.Prelude.{slice_get}
use Rattle.dis_isa.specs.declared.inst.Operand as isa
use Rattle.dis_isa.specs.declared.inst.Operand.TheVariants as operand
use Rattle.limbo_values.specs.declared.number.Kind.{Kind}
use Rattle.limbo_values.specs.declared.number.Kind.TheVariants.{Byte, Int, Big}
use Rattle.limbo_values.specs.Numbers.{InRange}
use Rattle.limbo_values.proofs.Ranges.{within}
use Rattle.system_model.specs.Values.{Num}
use Rattle.system_model.specs.Limits.{frames_limit}
use Rattle.typed_meaning.specs.World as program
use Rattle.slot_code.specs.Code.{Operand, Return, Leave, Function, Module}
use Rattle.slot_code.specs.Machine as machine
use Rattle.slot_code.specs.Step as slot_step
use Rattle.dis_meaning.specs.Words.{Found}
use Rattle.dis_meaning.specs.World.{World}
use Rattle.dis_meaning.specs.Process.{Frame, Process}
use Rattle.dis_meaning.specs.Places.{source_of}
use Rattle.dis_meaning.specs.Step as dis_step
use Rattle.dis_objects.specs.Frames.{made_at}
use Rattle.dis_objects.specs.Code.{Context, place, moving, source, size}
use Rattle.dis_objects.specs.Objects.{context, object_of}
use Rattle.dis_objects.specs.Proper.{IsProper}
use Rattle.dis_follows.specs.Stands.{Known, StackStands, IsReturn, return_inst, Running, WorldStands}
use Rattle.dis_follows.proofs.Operands.{taken}
use Rattle.dis_follows.proofs.Zeros.{zero_within}
use Rattle.dis_follows.proofs.Returns.{last_returns}
use Rattle.dis_follows.proofs.Below.{returns_below}
use Rattle.dis_follows.proofs.Rows as rows
use Rattle.dis_follows.proofs.Decided.{Goal}

zero_read : (j : Kind) (x : World) (r : Process) → source_of j x r (operand.Imm (pos 0)) ≡ Found (pos 0)
zero_read Byte x r = ap Found (within Byte (pos 0) (zero_within Byte))
zero_read Int x r = refl
zero_read Big x r = refl

module _ (m : Module) (proper : IsProper m) (k : Known) (number : ℕ) (w : program.World) (x : World) (ws : WorldStands m k w x)
    (p : machine.Process) (r : Process) (h : Running m k p r 0 []) where
  abbrev F : Function
  F = h.frame.function

  abbrev C : Context
  C = context m p.frame.function F

  abbrev P : ℕ
  P = place C p.frame.pc

  goes : IsReturn m h.frame.inst → size h.frame.inst ≡ 2 → (s : isa.Operand) (z : ℤ) → InRange F.answer z
      → source_of F.answer x r s ≡ Found z
      → slot_step.obey frames_limit m.functions w p h.frame.inst ≡ machine.returns w p p.below (Num z)
      → slice_get (object_of m).insts P ≡ Some (moving F.answer s (operand.IndFp (pos 16) (pos 0)))
      → slice_get (object_of m).insts (suc P) ≡ Some return_inst
      → Goal m proper k number w x ws p r (dis_step.step frames_limit (object_of m ∷ []) x r)
  goes is two s z range reads does code later = by p.below r.below refl refl
    where
      by : (gs : List machine.Frame) (rs : List Frame) → p.below ≡ gs → r.below ≡ rs
          → Goal m proper k number w x ws p r (dis_step.step frames_limit (object_of m ∷ []) x r)
      by [] rs e f = last_returns m proper k number w x ws p r h e is two s z range reads code later
      by (g ∷ gs) (q ∷ rs) e f = returns_below m proper k number w x ws p r h g gs q rs e f two s z range reads does code later
      by (g ∷ gs) [] e f =
          let st : StackStands m F r.frame (g ∷ gs) [] =
          subst (λ rs. StackStands m F r.frame (g ∷ gs) rs) f (subst (λ gs. StackStands m F r.frame gs r.below) e h.stack) in absurd st

  pub return_goes : (o : Operand) → h.frame.inst ≡ Return o
      → Goal m proper k number w x ws p r (dis_step.step frames_limit (object_of m ∷ []) x r)
  return_goes o e =
      let c = rows.coded_at m proper k w x ws p r 0 h (Return o) e in
      let q = rows.proper_at m proper k w x ws p r 0 h (Return o) e in
      let a = taken m k w x ws p.frame r F (made_at F.code p.frame.pc) h.frame.has h.frame.instance h.frame.first F.answer o c.at q.0
      (rows.few_of m proper k w x ws p r 0 h (Return o) e o (λ i. omega arith)) c.constants in
      goes (subst (IsReturn m) (sym e) tt) (ap size e) (source C o c.at) a.number a.range a.reads
      (ap (slot_step.obey frames_limit m.functions w p) e ∙ ap (machine.returns w p p.below) a.is) c.code.0 c.code.1.0

  pub leave_goes : h.frame.inst ≡ Leave → Goal m proper k number w x ws p r (dis_step.step frames_limit (object_of m ∷ []) x r)
  leave_goes e =
      let c = rows.coded_at m proper k w x ws p r 0 h Leave e in
      goes (subst (IsReturn m) (sym e) tt) (ap size e) (operand.Imm (pos 0)) (pos 0) (zero_within F.answer) (zero_read F.answer x r)
      (ap (slot_step.obey frames_limit m.functions w p) e) c.code.0 c.code.1.0
