-- How large a function's frame and a module's variables may be, and how many nodes a module has.
use Rattle.std.specs.Prelude.{ℕ, suc, ◌+◌, ◌*◌, ◌<◌, ◌≡◌, ◌⊎◌, max, List, [], ◌∷◌, length, map, Option, Some, None, slice_get}
use Rattle.limbo_types.specs.Types.{Ty, Nothing}
use Rattle.limbo_typed.specs.Typed as typed
use Rattle.limbo_typed.specs.Typed.{Of, Function, Module}
use Rattle.slot_code.specs.Code as code
use Rattle.slot_code.specs.Layout.{end_of}
use Rattle.typed_lower.specs.Statements.{number_kind}

-- ---- the nodes of expressions

-- What a node takes: the bytes of its value, rounded up to 8, and 16 more. A value of this part is a number or a reference, or there is
-- none.
abbrev pub node_size : Ty → ℕ
node_size Nothing = 16
node_size _ = 24

-- A place that is written is a node of its own, and so are the module and the format of a print. Nodes that aren't in this part have no
-- others in them yet.
abbrev mutual
  pub expr_size : typed.Expr → ℕ
  expr_size (Of t n) = node_size t + inner_size n

  pub inner_size : typed.Node → ℕ
  inner_size (typed.Apply o es) = exprs_size es
  inner_size (typed.Lazy c l r) = expr_size l + expr_size r
  inner_size (typed.Assign p e) = 24 + expr_size e
  inner_size (typed.Update o p e) = 24 + expr_size e
  inner_size (typed.Step o g p) = 24
  inner_size (typed.Call f es) = exprs_size es
  inner_size (typed.Print w m file ps es) = 48 + exprs_size es
  inner_size (typed.Load i e) = expr_size e
  inner_size n = 0

  pub exprs_size : typed.Exprs → ℕ
  exprs_size typed.NoExprs = 0
  exprs_size (typed.MoreExprs e es) = expr_size e + exprs_size es

abbrev pub optional_size : Option typed.Expr → ℕ
optional_size None = 0
optional_size (Some e) = expr_size e

-- ---- statements

-- A declaration is an assignment to each of its variables.
abbrev pub declared_size : List ℕ → Option typed.Expr → ℕ
declared_size xs e = 24 * suc (length xs) + optional_size e

-- The greatest sum that the nodes of one statement have, of a statement and those in it. The condition of an `if` and of a loop is a
-- statement of its own, and so is what a `for` begins with and what it does between two turns.
abbrev mutual
  pub stmt_size : typed.Stmt → ℕ
  stmt_size (typed.Block ss) = stmts_size ss
  stmt_size (typed.Declare xs e) = declared_size xs e
  stmt_size (typed.Eval e) = expr_size e
  stmt_size (typed.If c ss others) = max (expr_size c) (max (stmts_size ss) (stmts_size others))
  stmt_size (typed.While c ss) = max (optional_size c) (stmts_size ss)
  stmt_size (typed.Do ss c) = max (optional_size c) (stmts_size ss)
  stmt_size (typed.For first c next ss) =
      max (optional_size first) (max (optional_size c) (max (optional_size next) (stmts_size ss)))
  stmt_size (typed.Return e) = optional_size e
  stmt_size s = 0

  pub stmts_size : typed.Stmts → ℕ
  stmts_size typed.NoStmts = 0
  stmts_size (typed.MoreStmts s ss) = max (stmt_size s) (stmts_size ss)

-- ---- frames and variables of modules

-- A frame's size in bytes: 40, the variables as they are laid, and the greatest sum of a statement.
abbrev pub frame_size : Function → ℕ
frame_size f = 40 + end_of 0 (map (λ v. number_kind v.ty) f.variables) + stmts_size f.body

abbrev pub globals_size : Module → ℕ
globals_size m = end_of 0 (map (λ v. number_kind v.ty) m.globals)

-- A frame has at most so many bytes, and so have the variables of a module.
abbrev pub largest_frame : ℕ
largest_frame = 65536

-- A function of the module would have a larger frame.
pub record LargeFrame (m : Module) : Type 0 where
  pub number : ℕ
  pub function : Function
  pub there : slice_get m.functions number ≡ Some function
  pub large : largest_frame < frame_size function

-- That is so, or the module's variables are larger.
abbrev pub FrameTooLarge : Module → Type 0
FrameTooLarge m = LargeFrame m ⊎ (largest_frame < globals_size m)

-- ---- how many nodes a module has: itself, its functions, their statements, and the expressions in those

abbrev mutual
  pub expr_nodes : typed.Expr → ℕ
  expr_nodes (Of t n) = suc (inner_nodes n)

  pub inner_nodes : typed.Node → ℕ
  inner_nodes (typed.Apply o es) = exprs_nodes es
  inner_nodes (typed.Lazy c l r) = expr_nodes l + expr_nodes r
  inner_nodes (typed.Assign p e) = suc (expr_nodes e)
  inner_nodes (typed.Update o p e) = suc (expr_nodes e)
  inner_nodes (typed.Step o g p) = 1
  inner_nodes (typed.Call f es) = exprs_nodes es
  inner_nodes (typed.Print w m file ps es) = 2 + exprs_nodes es
  inner_nodes (typed.Load i e) = expr_nodes e
  inner_nodes n = 0

  pub exprs_nodes : typed.Exprs → ℕ
  exprs_nodes typed.NoExprs = 0
  exprs_nodes (typed.MoreExprs e es) = expr_nodes e + exprs_nodes es

abbrev pub optional_nodes : Option typed.Expr → ℕ
optional_nodes None = 0
optional_nodes (Some e) = expr_nodes e

abbrev mutual
  pub stmt_nodes : typed.Stmt → ℕ
  stmt_nodes (typed.Block ss) = suc (stmts_nodes ss)
  stmt_nodes (typed.Declare xs e) = suc (length xs + optional_nodes e)
  stmt_nodes (typed.Eval e) = suc (expr_nodes e)
  stmt_nodes (typed.If c ss others) = suc (expr_nodes c + (stmts_nodes ss + stmts_nodes others))
  stmt_nodes (typed.While c ss) = suc (optional_nodes c + stmts_nodes ss)
  stmt_nodes (typed.Do ss c) = suc (optional_nodes c + stmts_nodes ss)
  stmt_nodes (typed.For first c next ss) =
      suc (optional_nodes first + (optional_nodes c + (optional_nodes next + stmts_nodes ss)))
  stmt_nodes (typed.Return e) = suc (optional_nodes e)
  stmt_nodes s = 1

  pub stmts_nodes : typed.Stmts → ℕ
  stmts_nodes typed.NoStmts = 0
  stmts_nodes (typed.MoreStmts s ss) = stmt_nodes s + stmts_nodes ss

abbrev pub functions_nodes : List Function → ℕ
functions_nodes [] = 0
functions_nodes (f ∷ fs) = suc (stmts_nodes f.body) + functions_nodes fs

abbrev pub nodes : Module → ℕ
nodes m = suc (functions_nodes m.functions)

-- how many instructions the functions have
abbrev pub instructions : List code.Function → ℕ
instructions [] = 0
instructions (f ∷ fs) = length f.code + instructions fs
