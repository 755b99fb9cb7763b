use Rattle.std.proofs.Common.{option_map, ap}
use Rattle.std.specs.List.{Contains}
use Rattle.limbo_tree.specs.View.{view_type, view_types, view_expr}
use Rattle.limbo_declarations.specs.View.{view_declared}
use Rattle.limbo_type_names.specs.Working.{entries_in}
use Rattle.limbo_headers.specs.Refusals.{Writes, IsTypeOf, of_variable, of_function, of_exception}
use Rattle.limbo_headers.proofs.Telling.{one_fails, one_weaker}
use Rattle.limbo_headers.proofs.headings.heading_of.Goals as goal

pub returns-in_ok-new-in-Ok-clause-heads : goal.returns-in_ok-new-in-Ok-clause-heads
returns-in_ok-new-in-Ok-clause-heads c = (
  view_type c.in-Variable.of.now,
  option_map (λ e. view_expr e.now) c.in-Variable.value,
  ap view_declared c.in-Variable.is,
  rw c.in_ok-new-in-Ok.ensures.ok c.in-Ok.ensures.means,
)

pub returns-in-Err-clause-fails : goal.returns-in-Err-clause-fails
returns-in-Err-clause-fails c =
    let n = c.args.names.now.naming.now in
    let d = c.args.entry.row.declared in
    one_fails (entries_in n) n.implemented c.args.entry.within (Writes d) c.in-Variable.of.now (of_variable c.in-Variable.of c.in-Variable.value c.in-Variable.is) c.in-Err.fault
    c.in-Err.ensures.fails

pub returns-in-Err-function_header-clause-fails : goal.returns-in-Err-function_header-clause-fails
returns-in-Err-function_header-clause-fails c =
    let n = c.args.names.now.naming.now in
    let d = c.args.entry.row.declared in
    one_weaker (entries_in n) n.implemented c.args.entry.within (IsTypeOf c.in-Function.of.now) (Writes d) (λ t p. of_function c.in-Function.of t c.in-Function.is p)
    c.in-Err-function_header.fault c.in-Err-function_header.ensures.fails

pub returns-in-Ok-types_in-clause-heads : goal.returns-in-Ok-types_in-clause-heads
unfolding view_types
returns-in-Ok-types_in-clause-heads c = (view_types c.in-Exception.values.now, ap view_declared c.in-Exception.is, c.in-Ok-types_in.ensures.means)

pub returns-in-Err-types_in-clause-fails : goal.returns-in-Err-types_in-clause-fails
returns-in-Err-types_in-clause-fails c =
    let n = c.args.names.now.naming.now in
    let d = c.args.entry.row.declared in
    one_weaker (entries_in n) n.implemented c.args.entry.within (Contains c.in-Exception.values.now) (Writes d) (λ t p. of_exception c.in-Exception.values t c.in-Exception.is p)
    c.in-Err-types_in.fault c.in-Err-types_in.ensures.fails
