-- `!` as a value.
use Rattle.std.proofs.Common.{◌≡◌, ℕ, suc, ◌+◌, ℤ, pos, [], ◌∷◌, Ok, refl, sym, ap, ◌∙◌, subst, arith}
use Rattle.std.specs.Prelude.{slice_get}
use Rattle.std.specs.Ordering.{int_eq}
use Rattle.dis_isa.specs.declared.inst.Operand.TheVariants as operand
use Rattle.dis_isa.specs.declared.inst.Middle.TheVariants as middle
use Rattle.dis_isa.specs.declared.op.Op.TheVariants as op
use Rattle.limbo_values.specs.declared.number.Kind.TheVariants.{Int}
use Rattle.limbo_values.specs.declared.operator.Comparison.TheVariants as comparison
use Rattle.limbo_values.specs.Operators.{compared, truth}
use Rattle.limbo_typed.specs.declared.operation.Operation.TheVariants as operation
use Rattle.system_model.specs.Values.{Value, Num}
use Rattle.system_model.specs.Limits.{frames_limit}
use Rattle.typed_meaning.specs.Values.{result_of}
use Rattle.typed_meaning.specs.World as program
use Rattle.slot_code.specs.Code.{Spot, Operand, Alter, Module}
use Rattle.slot_code.specs.Machine as machine
use Rattle.slot_code.specs.Machine.{value_of}
use Rattle.slot_code.specs.Step as slot_step
use Rattle.dis_meaning.specs.World.{World}
use Rattle.dis_meaning.specs.Process.{Process}
use Rattle.dis_meaning.specs.Step as dis_step
use Rattle.dis_meaning.specs.Step.{branch}
use Rattle.dis_objects.specs.Code.{source, inst}
use Rattle.dis_objects.specs.Objects.{object_of}
use Rattle.dis_objects.specs.Proper.{IsProper, IsOwn}
use Rattle.dis_follows.specs.Stands.{Known, Decides, Running, WorldStands}
use Rattle.dis_follows.proofs.Runs.{step_is}
use Rattle.dis_follows.proofs.Operands.{taken}
use Rattle.dis_follows.proofs.Obeys.{branches}
use Rattle.dis_follows.proofs.Rows as rows
use Rattle.dis_follows.proofs.Decided.{own_value, Goal, decides, denies_goes, affirms_goes}
use Rattle.dis_follows.proofs.Compared.{C, CS, P, Row, as_row, target_is}

equal_is : (a : ℤ) → compared comparison.Equal a (pos 0) ≡ int_eq a (pos 0)
equal_is a = refl

module _ (m : Module) (proper : IsProper m) (k : Known) (number : ℕ) (w : program.World) (x : World) (ws : WorldStands m k w x)
    (p : machine.Process) (r : Process) where
  abbrev not_row : (offset : ℕ) (h : Running m k p r offset []) (into : Spot) (o : Operand)
      → (e : h.frame.inst ≡ Alter operation.Not into o)
      → Row m proper k number w x ws p r offset h (Alter operation.Not into o)
  not_row offset h into o e =
      let q = rows.proper_at m proper k w x ws p r offset h (Alter operation.Not into o) e in
      let d = rows.coded_at m proper k w x ws p r offset h (Alter operation.Not into o) e in
      record {
        into = into;
        op = op.Beqw;
        left = source (C m proper k number w x ws p r offset h) o d.at;
        right = middle.Imm (pos 0);
        code = d.code;
        four = refl;
        kind = q.2;
        written = q.1;
        on = q.5;
      }

  denied_value : (h : Running m k p r 0 []) (into : Spot) (o : Operand) → h.frame.inst ≡ Alter operation.Not into o → IsOwn o → (a : ℤ)
      → value_of w p.frame o ≡ Num a → Decides m h.frame.inst p.frame (Num (truth (compared comparison.Equal a (pos 0))))
  denied_value h into o e own a va =
      subst (λ i. Decides m i p.frame (Num (truth (compared comparison.Equal a (pos 0))))) (sym e)
      (λ v. ap (λ u. result_of operation.Not (u ∷ [])) (own_value p.frame o own v w ∙ va) ∙ ap (λ b. Ok (Num (truth b))) (sym (equal_is a)))

  pub not_goes : (h : Running m k p r 0 []) (into : Spot) (o : Operand) → h.frame.inst ≡ Alter operation.Not into o
      → Goal m proper k number w x ws p r (dis_step.step frames_limit (object_of m ∷ []) x r)
  not_goes h into o e =
      let i = Alter operation.Not into o in
      let d = rows.coded_at m proper k w x ws p r 0 h i e in
      let q = rows.proper_at m proper k w x ws p r 0 h i e in
      let row = not_row 0 h into o e in
      let here = P m proper k number w x ws p r 0 h in
      let a = taken m k w x ws p.frame r h.frame.function (CS m proper k number w x ws p r 0 h) h.frame.has h.frame.instance h.frame.first
      Int o
      d.at q.3 (rows.few_of m proper k w x ws p r 0 h i e o (λ i. omega arith)) d.constants in
      let third : here + 3 ≡ suc (suc (suc here)) = omega arith in
      let there = rows.at_row m proper k w x ws p r 0 h (inst op.Beqw row.left row.right (operand.Imm (pos (here + 3)))) here
      (omega arith) row.code.0 in
      decides m proper k number w x ws p r h (as_row m proper k number w x ws p r 0 h i e row) (compared comparison.Equal a.number (pos 0))
      (step_is m k w x r (inst op.Beqw row.left row.right (operand.Imm (pos (here + 3))))
      (branch x r (compared comparison.Equal a.number (pos 0)) (here + 3)) ws h.frame.instance there
      (branches frames_limit (object_of m) x r comparison.Equal Int row.left (operand.Imm (pos (here + 3))) row.right a.number (pos 0)
      (here + 3)
      a.reads refl (target_is m proper k number w x ws p r (here + 3) _ (ap (slice_get (object_of m).insts) third ∙ row.code.1.1.1.0))))
      (denied_value h into o e q.4 a.number a.is)

  not_does : (offset : ℕ) (h : Running m k p r offset []) (into : Spot) (o : Operand) (v : Value)
      → (e : h.frame.inst ≡ Alter operation.Not into o) → Decides m h.frame.inst p.frame v
      → slot_step.obey frames_limit m.functions w p h.frame.inst ≡ machine.next w p into v
  not_does offset h into o v e dec =
      ap (slot_step.obey frames_limit m.functions w p) e ∙ ap (slot_step.gives w p into) (subst (λ i. Decides m i p.frame v) e dec w)

  pub not_denied : (h : Running m k p r 1 []) (into : Spot) (o : Operand) → h.frame.inst ≡ Alter operation.Not into o
      → Decides m h.frame.inst p.frame (Num (pos 0)) → Goal m proper k number w x ws p r (dis_step.step frames_limit (object_of m ∷ []) x r)
  not_denied h into o e dec =
      let i = Alter operation.Not into o in
      denies_goes m proper k number w x ws p r h (as_row m proper k number w x ws p r 1 h i e (not_row 1 h into o e))
      (rows.few_into m proper k w x ws p r 1 h i e into (λ i. omega arith)) (not_does 1 h into o (Num (pos 0)) e dec)

  pub not_affirmed : (h : Running m k p r 3 []) (into : Spot) (o : Operand) → h.frame.inst ≡ Alter operation.Not into o
      → Decides m h.frame.inst p.frame (Num (pos 1)) → Goal m proper k number w x ws p r (dis_step.step frames_limit (object_of m ∷ []) x r)
  not_affirmed h into o e dec =
      let i = Alter operation.Not into o in
      affirms_goes m proper k number w x ws p r h (as_row m proper k number w x ws p r 3 h i e (not_row 3 h into o e))
      (rows.few_into m proper k w x ws p r 3 h i e into (λ i. omega arith)) (not_does 3 h into o (Num (pos 1)) e dec)
