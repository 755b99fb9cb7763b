use Rattle.std.proofs.Common.{arith}
use Rattle.limbo_types.specs.View.{view_ty}
use Rattle.limbo_typed.specs.View.{view_expr, view_exprs, view_optional}
use Rattle.core_writing.proofs.Collected.{print_is}
use Rattle.core_writing.proofs.Forms.{seen_assign, seen_copy, seen_print}
use Rattle.core_writing.proofs.operands.add_operands.Goals as goal

pub returns-in_ok-add_assigned-in-Assign-clause-terms : goal.returns-in_ok-add_assigned-in-Assign-clause-terms
returns-in_ok-add_assigned-in-Assign-clause-terms c =
    let form = seen_assign c.args.e.now c.in-Assign.pattern c.in-Assign.value c.in-Assign.is in
    rw (form, ← c.deref-in-Assign.ensures, ← c.deref-in-Assign-2.ensures) (c.in_ok-add_assigned-in-Assign.ensures {u = tt}).terms

pub returns-in_ok-add_three-in-Copy-clause-terms : goal.returns-in_ok-add_three-in-Copy-clause-terms
returns-in_ok-add_three-in-Copy-clause-terms c =
    let form = seen_copy c.args.e.now c.in-Copy.array c.in-Copy.from c.in-Copy.value c.in-Copy.is in
    rw (form, ← c.deref-in-Copy.ensures, ← c.deref-in-Copy-2.ensures, ← c.deref-in-Copy-3.ensures)
    (c.in_ok-add_three-in-Copy.ensures {u = tt}).terms

pub returns-in_ok-add_three-in-Copy-clause-size : goal.returns-in_ok-add_three-in-Copy-clause-size
returns-in_ok-add_three-in-Copy-clause-size c = λ defs.
    let form = seen_copy c.args.e.now c.in-Copy.array c.in-Copy.from c.in-Copy.value c.in-Copy.is in
    let size = (c.in_ok-add_three-in-Copy.ensures {u = tt}).size defs in
    rw (form, ← c.deref-in-Copy.ensures, ← c.deref-in-Copy-2.ensures, ← c.deref-in-Copy-3.ensures) (omega (arith, size))

pub returns-in_ok-add_printed-in-Print-clause-terms : goal.returns-in_ok-add_printed-in-Print-clause-terms
returns-in_ok-add_printed-in-Print-clause-terms c =
    let p = c.in-Print in
    let form = seen_print c.args.e.now p.printed p.module p.file p.format p.args p.is in
    let told = (c.in_ok-add_printed-in-Print.ensures {u = tt}).terms (view_ty c.args.e.now.ty) p.format.items in
    rw (
      form,
      print_is (view_ty c.args.e.now.ty) p.printed (view_expr p.module.value) (view_optional p.file) p.format.items
          (view_exprs p.args.items),
      ← c.deref-in-Print.ensures.value,
    ) told

pub returns-in_ok-add_printed-in-Print-clause-size : goal.returns-in_ok-add_printed-in-Print-clause-size
returns-in_ok-add_printed-in-Print-clause-size c = λ defs.
    let p = c.in-Print in
    let form = seen_print c.args.e.now p.printed p.module p.file p.format p.args p.is in
    let size = (c.in_ok-add_printed-in-Print.ensures {u = tt}).size defs in
    rw (form, ← c.deref-in-Print.ensures.value) (omega (arith, size))
