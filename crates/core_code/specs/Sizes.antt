-- How many nodes a checked module has: itself, its functions, their statements, and the expressions and places in these. And how many
-- instructions for each.
use Rattle.std.specs.Prelude.{ℕ, suc, ◌+◌, ◌*◌, ◌≤◌, List, [], ◌∷◌, length, Option, Some, None}
use Rattle.limbo_types.specs.Types as ty
use Rattle.limbo_types.specs.Types.{Ty}
use Rattle.limbo_layout.specs.Adts.{Def}
use Rattle.limbo_typed.specs.Typed as typed
use Rattle.limbo_typed.specs.Typed.{Of, At}
use Rattle.limbo_meaning.specs.Operations.{item_of}
use Rattle.limbo_meaning.specs.Trees.{Done}
use Rattle.limbo_meaning.specs.Program.{term_of, before, routine_of, program_of}
use Rattle.core_code.specs.Code.{Function}
use Rattle.core_code.specs.Statements.{Around, whole, block_code, function_of, code_of}
use Rattle.core_code.specs.Nodes.{node_of}

module _ (defs : List Def) where
  -- Each counts once, and once more for each reference of its value. A read is its place, and a new array an expression of its type. What
  -- has no code yet counts once.
  abbrev mutual
    pub expr_nodes : typed.Expr → ℕ
    expr_nodes (Of t n) = inner_nodes t n

    pub inner_nodes : Ty → typed.Node → ℕ
    inner_nodes t (typed.Read p) = place_nodes p
    inner_nodes t (typed.Part e n) = node_of defs t + expr_nodes e
    inner_nodes t (typed.Apply o es) = node_of defs t + exprs_nodes es
    inner_nodes t (typed.Lazy c l r) = node_of defs t + (expr_nodes l + expr_nodes r)
    inner_nodes t (typed.Assign p e) = node_of defs t + (pattern_nodes p + expr_nodes e)
    inner_nodes t (typed.Update o p e) = node_of defs t + (place_nodes p + expr_nodes e)
    inner_nodes t (typed.Step o g p) = node_of defs t + place_nodes p
    inner_nodes t (typed.Copy a i e) = node_of defs t + (expr_nodes a + (expr_nodes i + expr_nodes e))
    inner_nodes t (typed.Filled l is rest) =
        node_of defs (ty.ArrayOf (item_of t)) + (optional_nodes l + (items_nodes is + optional_nodes rest))
    inner_nodes t (typed.Call f es) = node_of defs t + exprs_nodes es
    inner_nodes t (typed.Print w m file ps es) = node_of defs t + exprs_nodes es
    inner_nodes t n = node_of defs t

    pub exprs_nodes : typed.Exprs → ℕ
    exprs_nodes typed.NoExprs = 0
    exprs_nodes (typed.MoreExprs e es) = expr_nodes e + exprs_nodes es

    pub optional_nodes : typed.Optional → ℕ
    optional_nodes typed.Absent = 0
    optional_nodes (typed.Present e) = expr_nodes e

    pub items_nodes : typed.Items → ℕ
    items_nodes typed.NoItems = 0
    items_nodes (typed.MoreItems i e is) = expr_nodes e + items_nodes is

    pub place_nodes : typed.Place → ℕ
    place_nodes (At t p) = node_of defs t + way_nodes p

    -- what leads to a place
    pub way_nodes : typed.PlaceNode → ℕ
    way_nodes (typed.Field p n) = place_nodes p
    way_nodes (typed.Element a i) = expr_nodes a + expr_nodes i
    way_nodes (typed.Character p i) = place_nodes p + expr_nodes i
    way_nodes (typed.Target e) = expr_nodes e
    way_nodes p = 0

    pub pattern_nodes : typed.Pattern → ℕ
    pattern_nodes (typed.ToPlace p) = place_nodes p
    pattern_nodes typed.ToNothing = 0
    pattern_nodes (typed.ToParts ps) = patterns_nodes ps

    pub patterns_nodes : typed.Patterns → ℕ
    patterns_nodes typed.NoPatterns = 0
    patterns_nodes (typed.MorePatterns p ps) = pattern_nodes p + patterns_nodes ps

  abbrev pub some_nodes : Option typed.Expr → ℕ
  some_nodes None = 0
  some_nodes (Some e) = expr_nodes e

  -- A declaration is a statement with an assignment to each of its variables.
  abbrev mutual
    pub stmt_nodes : typed.Stmt → ℕ
    stmt_nodes (typed.Block ss) = suc (stmts_nodes ss)
    stmt_nodes (typed.Declare xs e) = 2 + (length xs + some_nodes e)
    stmt_nodes (typed.Eval e) = suc (expr_nodes e)
    stmt_nodes (typed.If c ss others) = suc (expr_nodes c + (stmts_nodes ss + stmts_nodes others))
    stmt_nodes (typed.While c ss) = suc (some_nodes c + stmts_nodes ss)
    stmt_nodes (typed.Do ss c) = suc (some_nodes c + stmts_nodes ss)
    stmt_nodes (typed.For first c next ss) = suc (some_nodes first + (some_nodes c + (some_nodes next + stmts_nodes ss)))
    stmt_nodes (typed.Return e) = suc (some_nodes e)
    stmt_nodes s = 1

    pub stmts_nodes : typed.Stmts → ℕ
    stmts_nodes typed.NoStmts = 0
    stmts_nodes (typed.MoreStmts s ss) = stmt_nodes s + stmts_nodes ss

  abbrev pub function_nodes : typed.Function → ℕ
  function_nodes f = suc (stmts_nodes f.body)

  abbrev pub functions_nodes : List typed.Function → ℕ
  functions_nodes [] = 0
  functions_nodes (f ∷ fs) = function_nodes f + functions_nodes fs

abbrev pub module_nodes : typed.Module → ℕ
module_nodes m = suc (functions_nodes m.adts m.functions)

abbrev pub instructions : List Function → ℕ
instructions [] = 0
instructions (f ∷ fs) = length f.code + instructions fs

-- Code has at most eight instructions a node: that of an expression with the drops of what it got, of a statement, of a function, and of a
-- module.
pub record EightANode : Type 0 where
  pub expressions : (defs : List Def) (e : typed.Expr) → length (whole defs (term_of e)) ≤ 8 * expr_nodes defs e
  pub statements : (defs : List Def) (types : List Ty) (around : List Around) (s : typed.Stmt) →
      length (block_code defs around (before types s Done)) ≤ 8 * stmt_nodes defs s
  pub functions : (defs : List Def) (f : typed.Function) → length (function_of defs (routine_of f)).code ≤ 8 * function_nodes defs f
  pub modules : (m : typed.Module) → instructions (code_of (program_of m)).functions ≤ 8 * module_nodes m
