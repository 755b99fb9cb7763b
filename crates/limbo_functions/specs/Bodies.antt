-- The statements of a function (Limbo Language Reference, functions and statements).
use Rattle.std.specs.Prelude.{◌≡◌, ◌≢◌, ◌⊎◌}
use Rattle.limbo_tree.specs.Stmts as tree
use Rattle.limbo_types.specs.Types.{Nothing}
use Rattle.limbo_typed.specs.Typed.{Function, Stmt, Stmts}
use Rattle.limbo_paths.specs.Paths.{Answers}
use Rattle.limbo_context.specs.Context.{Callee}
use Rattle.limbo_stmt_values.specs.limbo_local.Points.{Point}
use Rattle.limbo_stmt_values.specs.limbo_stating.Reasons.{Reason, NoReturn}
use Rattle.limbo_stmt_values.specs.limbo_stating.Around.{Around}
use Rattle.limbo_stmt_values.specs.limbo_stating.Stating.{StatesBlock}
use Rattle.limbo_stmt_values.specs.limbo_stating.FailsToState.{FailsBlock}
use Rattle.limbo_stmt_values.specs.limbo_stating.Functions.{Definition, body_of}

-- A block is these statements, each path of which ends in an answer, if there is one to give.
pub record IsBody (v : Around) (p : Point) (b : tree.Block) (zs : Stmts) (q : Point) : Type 0 where
  pub stmt : Stmt
  pub states : StatesBlock v p b stmt q
  pub are : zs ≡ body_of stmt
  pub answers : (v.answer ≡ Nothing) ⊎ Answers q.context.adts zs

-- The block fails, or a path ends without an answer.
pub data FailsBody (v : Around) (p : Point) (b : tree.Block) : Reason → Type 0 where
  in_block : (k : Reason) → FailsBlock v p b k → FailsBody v p b k
  no_answer : (z : Stmt) (q : Point) → v.answer ≢ Nothing → StatesBlock v p b z q → (Answers q.context.adts (body_of z) → ⊥)
      → FailsBody v p b NoReturn

-- the function of these statements, behind which the checking has come to this point
abbrev pub function_of : Callee → Definition → Stmts → Point → Function
function_of f d zs q = record {
  name = d.name;
  owner = f.owner;
  of = f.of;
  variables = q.body.variables;
  catches = q.catches;
  body = zs;
}
