-- How many places the evaluation of expressions may need, each of eight bytes for an argument and thirteen for a temporary of each kind.
use Rattle.std.specs.Prelude.{ℕ, suc, ◌+◌, max, Option, Some, None}
use Rattle.limbo_typed.specs.Typed as typed
use Rattle.limbo_typed.specs.Typed.{Of}

-- One for each node; a place that is written is one more, and a print has its module and its format.
abbrev mutual
  pub expr_places : typed.Expr → ℕ
  expr_places (Of t n) = suc (inner_places n)

  pub inner_places : typed.Node → ℕ
  inner_places (typed.Apply o es) = exprs_places es
  inner_places (typed.Lazy c l r) = expr_places l + expr_places r
  inner_places (typed.Assign p e) = suc (expr_places e)
  inner_places (typed.Update o p e) = suc (expr_places e)
  inner_places (typed.Step o g p) = 1
  inner_places (typed.Call f es) = exprs_places es
  inner_places (typed.Print w m file ps es) = suc (suc (exprs_places es))
  inner_places n = 0

  pub exprs_places : typed.Exprs → ℕ
  exprs_places typed.NoExprs = 0
  exprs_places (typed.MoreExprs e es) = expr_places e + exprs_places es

abbrev pub optional_places : Option typed.Expr → ℕ
optional_places None = 0
optional_places (Some e) = expr_places e

-- The most that an expression of a statement needs, or of those in it.
abbrev mutual
  pub stmt_places : typed.Stmt → ℕ
  stmt_places (typed.Block ss) = stmts_places ss
  stmt_places (typed.Declare xs e) = optional_places e
  stmt_places (typed.Eval e) = expr_places e
  stmt_places (typed.If c ss others) = max (expr_places c) (max (stmts_places ss) (stmts_places others))
  stmt_places (typed.While c ss) = max (optional_places c) (stmts_places ss)
  stmt_places (typed.Do ss c) = max (optional_places c) (stmts_places ss)
  stmt_places (typed.For first c next ss) =
      max (optional_places first) (max (optional_places c) (max (optional_places next) (stmts_places ss)))
  stmt_places (typed.Return e) = optional_places e
  stmt_places s = 0

  pub stmts_places : typed.Stmts → ℕ
  stmts_places typed.NoStmts = 0
  stmts_places (typed.MoreStmts s ss) = max (stmt_places s) (stmts_places ss)
