-- What the code keeps while it evaluates, as constants and outcomes.
use Rattle.std.specs.Prelude.{ℕ, List, map}
use Rattle.std.specs.Borrow.{Bor}
use Rattle.limbo_tree.specs.declared.expr.Expr as code_expr
use Rattle.limbo_tree.specs.Exprs as tree
use Rattle.limbo_tree.specs.View.{view_expr}
use Rattle.limbo_constants.specs.declared.constant.Constant.{Constant}
use Rattle.limbo_constants.specs.declared.constant.Constant.TheVariants as constant
use Rattle.limbo_constants.specs.declared.constant.Outcome.{Outcome}
use Rattle.limbo_constants.specs.declared.constant.Outcome.TheVariants as outcome
use Rattle.limbo_constants.specs.declared.operand.Held.{Held}
use Rattle.limbo_constants.specs.declared.operand.Held.TheVariants.{Lent, Made}
use Rattle.limbo_constants.specs.declared.operand.Operand.{Operand}
use Rattle.limbo_constants.specs.declared.operand.Operand.TheVariants.{Number, Chars}
use Rattle.limbo_constants.specs.declared.operand.Found.{Found}
use Rattle.limbo_constants.specs.declared.operand.Found.TheVariants.{Gives, Raises}

-- the characters, whether they are lent or were made
abbrev pub view_held : Held → List ℕ
view_held (Lent text) = text.now
view_held (Made text) = text

abbrev pub view_operand : Operand → Constant
view_operand (Number a) = constant.Number a
view_operand (Chars text) = constant.Chars (view_held text)

abbrev pub view_found : Found → Outcome
view_found (Gives a) = outcome.Gives (view_operand a)
view_found (Raises sort) = outcome.Raises sort

-- parts of trees
abbrev pub view_parts : List (Bor code_expr.Expr) → List tree.Expr
view_parts parts = map (λ part. view_expr part.now) parts
