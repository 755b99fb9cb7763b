-- Comparisons and `!` as values, from their branch on.
use Rattle.std.proofs.Common.{◌≡◌, ℕ, suc, ◌+◌, ℤ, pos, List, [], ◌∷◌, length, Some, refl, sym, ap, ◌∙◌, subst, arith, if◌then◌else◌}
use Rattle.std.specs.Prelude.{slice_get}
use Rattle.std.proofs.lemmas.Bool.{le-leb}
use Rattle.dis_isa.specs.declared.inst.Inst as code_inst
use Rattle.dis_isa.specs.declared.inst.Operand.TheVariants as operand
use Rattle.limbo_values.specs.declared.number.Kind.{Kind}
use Rattle.limbo_values.specs.declared.operator.Comparison.{Comparison}
use Rattle.limbo_values.specs.Operators.{compared, truth}
use Rattle.limbo_typed.specs.declared.operation.Operation.TheVariants as operation
use Rattle.system_model.specs.Values.{Value, Num}
use Rattle.system_model.specs.Limits.{frames_limit}
use Rattle.typed_meaning.specs.Values.{result_of}
use Rattle.typed_meaning.specs.World as program
use Rattle.slot_code.specs.Code.{Spot, Operand, Inst, Operate, Function, Module}
use Rattle.slot_code.specs.Machine as machine
use Rattle.slot_code.specs.Machine.{value_of}
use Rattle.slot_code.specs.Step as slot_step
use Rattle.dis_meaning.specs.Words.{Found, Wrong, bad_jump}
use Rattle.dis_meaning.specs.World.{World}
use Rattle.dis_meaning.specs.Process.{Process}
use Rattle.dis_meaning.specs.Step as dis_step
use Rattle.dis_meaning.specs.Step.{branch, target}
use Rattle.dis_objects.specs.Frames.{Callee, made_at}
use Rattle.dis_objects.specs.Code as objects
use Rattle.dis_objects.specs.Code.{Context, spot_kind, place, place_of, source, branch_op, inst, size, source_data, middle_data, data_bytes}
use Rattle.dis_objects.specs.Objects.{context, object_of}
use Rattle.dis_objects.specs.Proper.{IsProper, IsOwn}
use Rattle.dis_follows.specs.Stands.{Known, Decides, Running, WorldStands}
use Rattle.dis_follows.proofs.Lookups.{data_front, data_back}
use Rattle.dis_follows.proofs.Runs.{step_is}
use Rattle.dis_follows.proofs.Frames.{get_within}
use Rattle.dis_follows.proofs.Operands.{taken, middled}
use Rattle.dis_follows.proofs.Obeys.{branches}
use Rattle.dis_follows.proofs.Rows as rows
use Rattle.dis_follows.proofs.Decided.{Deciding, own_value, Goal, decides, denies_goes, affirms_goes}

module _ (m : Module) (proper : IsProper m) (k : Known) (number : ℕ) (w : program.World) (x : World) (ws : WorldStands m k w x)
    (p : machine.Process) (r : Process) where
  abbrev pub F : (offset : ℕ) → Running m k p r offset [] → Function
  F offset h = h.frame.function

  abbrev pub C : (offset : ℕ) → Running m k p r offset [] → Context
  C offset h = context m p.frame.function h.frame.function

  abbrev pub CS : (offset : ℕ) → Running m k p r offset [] → List Callee
  CS offset h = made_at h.frame.function.code p.frame.pc

  abbrev pub P : (offset : ℕ) → Running m k p r offset [] → ℕ
  P offset h = place (C offset h) p.frame.pc

  abbrev pub Row : (offset : ℕ) (h : Running m k p r offset []) → Inst → Type 0
  Row offset h i = Deciding m h.frame.function (C offset h) (CS offset h) p.frame.pc (object_of m).insts i (P offset h)

  abbrev pub as_row : (offset : ℕ) (h : Running m k p r offset []) (i : Inst) → h.frame.inst ≡ i → Row offset h i
      → Row offset h h.frame.inst
  as_row offset h i e d = record {
    into = d.into;
    op = d.op;
    left = d.left;
    right = d.right;
    code = d.code;
    four = ap size e ∙ d.four;
    kind = d.kind;
    written = d.written;
    on = d.on;
  }

  -- ---- a comparison

  abbrev compare_row : (offset : ℕ) (h : Running m k p r offset []) (c : Comparison) (j : Kind) (into : Spot) (left right : Operand)
      → (e : h.frame.inst ≡ Operate (operation.Compare c j) into left right)
      → Row offset h (Operate (operation.Compare c j) into left right)
  compare_row offset h c j into left right e =
      let q = rows.proper_at m proper k w x ws p r offset h (Operate (operation.Compare c j) into left right) e in
      let d = rows.coded_at m proper k w x ws p r offset h (Operate (operation.Compare c j) into left right) e in
      record {
        into = into;
        op = branch_op c j;
        left = source (C offset h) left d.at;
        right = objects.middle_of (C offset h) right (d.at + data_bytes (source_data j left));
        code = d.code;
        four = refl;
        kind = q.2;
        written = q.1;
        on = q.7;
      }

  pub target_is : (n : ℕ) (i : code_inst.Inst) → slice_get (object_of m).insts n ≡ Some i
      → target (object_of m) (operand.Imm (pos n)) ≡ Found n
  target_is n i e =
      let l = get_within (object_of m).insts n i e in
      ap (λ b. if b then Found n else Wrong bad_jump) (le-leb (suc n) (length (object_of m).insts) (omega (arith, l)))

  compared_value : (h : Running m k p r 0 []) (c : Comparison) (j : Kind) (into : Spot) (left right : Operand)
      → h.frame.inst ≡ Operate (operation.Compare c j) into left right → IsOwn left → IsOwn right → (a b : ℤ)
      → value_of w p.frame left ≡ Num a → value_of w p.frame right ≡ Num b → Decides m h.frame.inst p.frame (Num (truth (compared c a b)))
  compared_value h c j into left right e ol or a b va vb =
      subst (λ i. Decides m i p.frame (Num (truth (compared c a b)))) (sym e)
      (λ v. ap (λ u. result_of (operation.Compare c j) (u ∷ value_of v p.frame right ∷ [])) (own_value p.frame left ol v w ∙ va)
      ∙ ap (λ u. result_of (operation.Compare c j) (Num a ∷ u ∷ [])) (own_value p.frame right or v w ∙ vb))

  pub compare_goes : (h : Running m k p r 0 []) (c : Comparison) (j : Kind) (into : Spot) (left right : Operand)
      → h.frame.inst ≡ Operate (operation.Compare c j) into left right
      → Goal m proper k number w x ws p r (dis_step.step frames_limit (object_of m ∷ []) x r)
  compare_goes h c j into left right e =
      let i = Operate (operation.Compare c j) into left right in
      let d = rows.coded_at m proper k w x ws p r 0 h i e in
      let q = rows.proper_at m proper k w x ws p r 0 h i e in
      let row = compare_row 0 h c j into left right e in
      let sd = source_data j left in
      let a = taken m k w x ws p.frame r (F 0 h) (CS 0 h) h.frame.has h.frame.instance h.frame.first j left d.at q.3
      (rows.few_of m proper k w x ws p r 0 h i e left (λ i. omega arith)) (data_front m ws.words d.at sd (middle_data j right) d.constants)
      in
      let b = middled m k w x ws p.frame r (F 0 h) (CS 0 h) h.frame.has h.frame.instance h.frame.first j right (d.at + data_bytes sd) q.4
      (rows.few_of m proper k w x ws p r 0 h i e right (λ i. omega arith)) (data_back m ws.words d.at sd (middle_data j right) d.constants)
      in
      let third : P 0 h + 3 ≡ suc (suc (suc (P 0 h))) = omega arith in
      let there = rows.at_row m proper k w x ws p r 0 h (inst (branch_op c j) row.left row.right (operand.Imm (pos (P 0 h + 3)))) (P 0 h)
      (omega arith) row.code.0 in
      decides m proper k number w x ws p r h (as_row 0 h i e row) (compared c a.number b.number)
      (step_is m k w x r (inst (branch_op c j) row.left row.right (operand.Imm (pos (P 0 h + 3))))
      (branch x r (compared c a.number b.number) (P 0 h + 3)) ws h.frame.instance there
      (branches frames_limit (object_of m) x r c j row.left (operand.Imm (pos (P 0 h + 3))) row.right a.number b.number (P 0 h + 3) a.reads
      b.reads (target_is (P 0 h + 3) _ (ap (slice_get (object_of m).insts) third ∙ row.code.1.1.1.0))))
      (compared_value h c j into left right e q.5 q.6 a.number b.number a.is b.is)

  -- What it does in the other code.
  compare_does : (offset : ℕ) (h : Running m k p r offset []) (c : Comparison) (j : Kind) (into : Spot) (left right : Operand) (v : Value)
      → (e : h.frame.inst ≡ Operate (operation.Compare c j) into left right) → Decides m h.frame.inst p.frame v
      → slot_step.obey frames_limit m.functions w p h.frame.inst ≡ machine.next w p into v
  compare_does offset h c j into left right v e dec =
      ap (slot_step.obey frames_limit m.functions w p) e
      ∙ ap (slot_step.gives w p into) (subst (λ i. Decides m i p.frame v) e dec w)

  pub compare_denied : (h : Running m k p r 1 []) (c : Comparison) (j : Kind) (into : Spot) (left right : Operand)
      → h.frame.inst ≡ Operate (operation.Compare c j) into left right → Decides m h.frame.inst p.frame (Num (pos 0))
      → Goal m proper k number w x ws p r (dis_step.step frames_limit (object_of m ∷ []) x r)
  compare_denied h c j into left right e dec =
      let i = Operate (operation.Compare c j) into left right in
      denies_goes m proper k number w x ws p r h (as_row 1 h i e (compare_row 1 h c j into left right e))
      (rows.few_into m proper k w x ws p r 1 h i e into (λ i. omega arith)) (compare_does 1 h c j into left right (Num (pos 0)) e dec)

  pub compare_affirmed : (h : Running m k p r 3 []) (c : Comparison) (j : Kind) (into : Spot) (left right : Operand)
      → h.frame.inst ≡ Operate (operation.Compare c j) into left right → Decides m h.frame.inst p.frame (Num (pos 1))
      → Goal m proper k number w x ws p r (dis_step.step frames_limit (object_of m ∷ []) x r)
  compare_affirmed h c j into left right e dec =
      let i = Operate (operation.Compare c j) into left right in
      affirms_goes m proper k number w x ws p r h (as_row 3 h i e (compare_row 3 h c j into left right e))
      (rows.few_into m proper k w x ws p r 3 h i e into (λ i. omega arith)) (compare_does 3 h c j into left right (Num (pos 1)) e dec)
