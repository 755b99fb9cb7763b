use Rattle.std.proofs.Common.{arith, ◌∙◌, [], sym}
use Rattle.std.proofs.lemmas.List.{nil_from_length}
use Rattle.limbo_types.proofs.View.{view_ty-Nothing}
use Rattle.limbo_typed.specs.View.{view_pattern}
use Rattle.limbo_meaning.specs.Evaluation.{operands_for}
use Rattle.limbo_meaning.specs.Program.{aims_in}
use Rattle.core_writing.proofs.Forms.{no_type, no_byte}
use Rattle.core_writing.proofs.Typing.{type_assign, type_copy, type_none, type_first, size_first}
use Rattle.core_writing.proofs.types.+types.Goals as goal

pub type_of-returns-in_ok-t-in-Assign : goal.type_of-returns-in_ok-t-in-Assign
type_of-returns-in_ok-t-in-Assign t c = λ defs.
    (rw c.deref-in-Assign.ensures at (c.in_ok-t-in-Assign.ensures {u = tt} defs))
    ∙ type_assign defs c.args.e.now c.in-Assign.pattern c.in-Assign.value c.in-Assign.is

pub type_of-returns-in_ok-t-in-Copy : goal.type_of-returns-in_ok-t-in-Copy
type_of-returns-in_ok-t-in-Copy t c = λ defs.
    (c.in_ok-t-in-Copy.ensures {u = tt} defs)
    ∙ type_copy defs c.args.e.now _ c.in-Copy.array c.in-Copy.from c.in-Copy.value c.in-Copy.is c.deref-in-Copy.ensures

pub type_of-returns-in_ok-t-in_default : goal.type_of-returns-in_ok-t-in_default
type_of-returns-in_ok-t-in_default t c = λ defs.
    let d = c.in_default in
    (c.in_ok-t-in_default.ensures {u = tt})
    ∙ sym (no_type defs c.args.e.now d.not-Read d.not-Lazy d.not-Assign d.not-Update d.not-Step d.not-Copy d.not-Filled d.not-Channel
    d.not-Print d.not-OpenNil d.not-CallThrough d.not-Load d.not-Send d.not-Receive)

pub printed_type-returns-in_ok-t-in_default : goal.printed_type-returns-in_ok-t-in_default
printed_type-returns-in_ok-t-in_default t c = λ defs.
    rw (no_byte c.args.e.now c.in_default.not-Byte) (c.in_ok-t-in_default.ensures {u = tt} defs)

pub operand_type-returns : goal.operand_type-returns
operand_type-returns t c = λ defs. rw c.if-operand.false (c.in_ok-t-2.ensures {u = tt} defs)

pub operand_type-returns-then-operand : goal.operand_type-returns-then-operand
operand_type-returns-then-operand t c = λ defs. rw c.if-operand.true (c.in_ok-t.ensures {u = tt} defs)

pub assigned_type-returns : goal.assigned_type-returns
assigned_type-returns t c = λ defs.
    let aims = rw c.new-aims.ensures.items at (c.in_ok-add_aims.ensures {u = tt}) in
    let at = rw (c.deref.ensures.value, c.deref-2.ensures.value, aims) at c.behind_all.ensures in
    let none = nil_from_length c.behind_all.result.now (c.in-None.ensures {u = tt}).cases in
    rw (← (c.in_ok-operands.ensures {u = tt}).terms, view_ty-Nothing)
    (type_none defs (operands_for (aims_in [] (view_pattern c.args.pattern.now))) c.in_ok-operands.operands.items
    c.behind_all.result.now at none)

pub assigned_type-returns-in-Some : goal.assigned_type-returns-in-Some
assigned_type-returns-in-Some t c = λ defs.
    let aims = rw c.new-aims.ensures.items at (c.in_ok-add_aims.ensures {u = tt}) in
    let at = rw (c.deref.ensures.value, c.deref-2.ensures.value, aims) at c.behind_all.ensures in
    rw (← (c.in_ok-operands.ensures {u = tt}).terms)
    ((c.in_ok-t-in-Some.ensures {u = tt} defs)
    ∙ type_first defs (operands_for (aims_in [] (view_pattern c.args.pattern.now))) c.in_ok-operands.operands.items
    c.behind_all.result.now _ c.in-Some.operand.now at (c.in-Some.ensures {u = tt}).cases.0)

pub assigned_type-operand_type-requires : goal.assigned_type-operand_type-requires
assigned_type-operand_type-requires t c =
    let aims = rw c.new-aims.ensures.items at (c.in_ok-add_aims.ensures {u = tt}) in
    let at = rw (c.deref.ensures.value, c.deref-2.ensures.value, aims) at c.behind_all.ensures in
    let small = size_first [] (operands_for (aims_in [] (view_pattern c.args.pattern.now))) c.in_ok-operands.operands.items
    c.behind_all.result.now _ c.in-Some.operand.now at (c.in-Some.ensures {u = tt}).cases.0 in
    let size = (c.in_ok-operands.ensures {u = tt}).size [] in
    (omega (arith, small, size), tt)
