-- The operands of nodes, which are evaluated one behind the other.
use Rattle.std.specs.Prelude.{ℕ, ◌+◌, Bool, true, false, List, [], ◌∷◌}
use Rattle.limbo_types.specs.Types.{Ty}
use Rattle.limbo_layout.specs.Adts.{Def}
use Rattle.limbo_typed.specs.declared.print.Printed.{Printed}
use Rattle.limbo_typed.specs.declared.print.Piece.{Piece}
use Rattle.limbo_typed.specs.Typed as typed
use Rattle.limbo_typed.specs.View.{view_expr}
use Rattle.limbo_meaning.specs.Trees.{Term, Missing, Node, Terms, NoTerms, MoreTerms}
use Rattle.limbo_meaning.specs.Program.{term_of, node_of, terms_of, printed_of, as_printed, printing}
use Rattle.core_frames.specs.Sizes.{expr_size}
use Rattle.core_writing.specs.declared.operands.Operand.{Operand}

-- an expression as it is printed
abbrev pub printed : typed.Expr → Term
printed (typed.Of t n) = as_printed t (node_of t n)

abbrev pub term_as : (is_printed : Bool) → typed.Expr → Term
term_as true e = printed e
term_as false e = term_of e

abbrev pub terms_as : (are_printed : Bool) → typed.Exprs → Terms
terms_as true es = printed_of es
terms_as false es = terms_of es

abbrev pub view_operand : Operand → Term
view_operand o = term_as o.printed (view_expr o.expr.now)

abbrev pub terms_in : List Operand → Terms
terms_in [] = NoTerms
terms_in (o ∷ os) = MoreTerms (view_operand o) (terms_in os)

-- what the operands count in the frame
abbrev pub operands_size : List Def → List Operand → ℕ
operands_size defs [] = 0
operands_size defs (o ∷ os) = expr_size defs (view_expr o.expr.now) + operands_size defs os

-- the operands of a tree that is a node behind them, and none of another
abbrev pub operands_in : Term → Terms
operands_in (Node t o ts) = ts
operands_in t = NoTerms

-- those of a print: of one that is in this part of the language its arguments
abbrev pub printing_node : Printed → Ty → List Piece → (file : typed.Optional) → Terms → Term
printing_node w t ps typed.Absent ts = printing w t ps ts
printing_node w t ps (typed.Present f) ts = Missing

abbrev pub printed_operands : Printed → Ty → List Piece → (file : typed.Optional) → typed.Exprs → Terms
printed_operands w t ps file es = operands_in (printing_node w t ps file (printed_of es))
