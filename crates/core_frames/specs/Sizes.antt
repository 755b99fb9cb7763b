-- How large a function's frame and a module's variables may be, where there are values of all types.
use Rattle.std.specs.Prelude.{ℕ, ◌+◌, ◌<◌, ◌≡◌, ◌⊎◌, max, List, [], ◌∷◌, map, Option, Some, None, slice_get, slice_index_or}
use Rattle.std.specs.Prelude.{if◌then◌else◌}
use Rattle.std.specs.Int.{next_multiple_of}
use Rattle.limbo_types.specs.Types as ty
use Rattle.limbo_types.specs.Types.{Ty}
use Rattle.limbo_layout.specs.Adts.{Def}
use Rattle.limbo_layout.specs.Layout.{nothing, all_behind}
use Rattle.limbo_layout.specs.Laying.{rooms_of}
use Rattle.limbo_typed.specs.Typed as typed
use Rattle.limbo_typed.specs.Typed.{Of, At, Function, Module}
use Rattle.limbo_typed.specs.Sound.{type_at}
use Rattle.limbo_meaning.specs.Operations.{size_of, item_of}
use Rattle.limbo_meaning.specs.Evaluation.{may_hold}
use Rattle.limbo_meaning.specs.Program.{term_of}
use Rattle.core_code.specs.Rooms.{rooms_in}

abbrev pub types_in : List typed.Var → List Ty
types_in vs = map (λ v. v.ty) vs

module _ (defs : List Def) where
  -- The bytes of a value, rounded up to 8; and what a node counts: its value's, and 16 more.
  abbrev pub value_size : Ty → ℕ
  value_size t = next_multiple_of (size_of defs t) 8

  abbrev pub node_size : Ty → ℕ
  node_size t = value_size t + 16

  -- ---- the nodes of expressions

  -- A read is its place, a new array an expression of its type, and what an update gives a value of its place's type. Of a print the
  -- module and the format are nodes too. What isn't in this part of the language has no others in it.
  abbrev mutual
    pub expr_size : typed.Expr → ℕ
    expr_size (Of t n) = inner_size t n

    pub inner_size : Ty → typed.Node → ℕ
    inner_size t (typed.Read p) = place_size p
    inner_size t (typed.Part e n) = node_size t + expr_size e
    inner_size t (typed.Apply o es) = node_size t + exprs_size es
    inner_size t (typed.Lazy c l r) = node_size t + (expr_size l + expr_size r)
    inner_size t (typed.Assign p e) = node_size t + (pattern_size p + expr_size e)
    inner_size t (typed.Update o p e) = node_size (type_at p) + (place_size p + expr_size e)
    inner_size t (typed.Step o g p) = node_size (type_at p) + place_size p
    inner_size t (typed.Copy a i e) = node_size t + (expr_size a + (expr_size i + expr_size e))
    inner_size t (typed.Filled l is rest) =
        node_size (ty.ArrayOf (item_of t)) + (optional_size l + (held_size is + (rest_held rest + max (greatest is) (rest_alone rest))))
    inner_size t (typed.Call f es) = node_size t + exprs_size es
    inner_size t (typed.Print w m file ps es) = node_size t + (48 + exprs_size es)
    inner_size t (typed.Load i e) = node_size t + expr_size e
    inner_size t n = node_size t

    pub exprs_size : typed.Exprs → ℕ
    exprs_size typed.NoExprs = 0
    exprs_size (typed.MoreExprs e es) = expr_size e + exprs_size es

    pub optional_size : typed.Optional → ℕ
    optional_size typed.Absent = 0
    optional_size (typed.Present e) = expr_size e

    -- the elements that may hold references, together, and of the others the greatest
    pub held_size : typed.Items → ℕ
    held_size typed.NoItems = 0
    held_size (typed.MoreItems i e is) = (if may_hold defs (term_of e) then expr_size e else 0) + held_size is

    pub greatest : typed.Items → ℕ
    greatest typed.NoItems = 0
    greatest (typed.MoreItems i e is) = max (if may_hold defs (term_of e) then 0 else expr_size e) (greatest is)

    -- the element of `*`
    pub rest_held : typed.Optional → ℕ
    rest_held typed.Absent = 0
    rest_held (typed.Present e) = if may_hold defs (term_of e) then expr_size e else 0

    pub rest_alone : typed.Optional → ℕ
    rest_alone typed.Absent = 0
    rest_alone (typed.Present e) = if may_hold defs (term_of e) then 0 else expr_size e

    -- a place, and what leads to it
    pub place_size : typed.Place → ℕ
    place_size (At t p) = node_size t + way_size p

    pub way_size : typed.PlaceNode → ℕ
    way_size (typed.Field p n) = place_size p
    way_size (typed.Element a i) = expr_size a + expr_size i
    way_size (typed.Character p i) = place_size p + expr_size i
    way_size (typed.Target e) = expr_size e
    way_size p = 0

    -- the places that are written
    pub pattern_size : typed.Pattern → ℕ
    pattern_size (typed.ToPlace p) = place_size p
    pattern_size typed.ToNothing = 0
    pattern_size (typed.ToParts ps) = patterns_size ps

    pub patterns_size : typed.Patterns → ℕ
    patterns_size typed.NoPatterns = 0
    patterns_size (typed.MorePatterns p ps) = pattern_size p + patterns_size ps

  abbrev pub some_size : Option typed.Expr → ℕ
  some_size None = 0
  some_size (Some e) = expr_size e

  -- ---- statements, in a function with variables of these types

  module _ (types : List Ty) where
    abbrev pub variable_size : ℕ → ℕ
    variable_size x = node_size (slice_index_or types x ty.Int)

    abbrev pub variables_size : List ℕ → ℕ
    variables_size [] = 0
    variables_size (x ∷ xs) = variable_size x + variables_size xs

    -- A declaration is an assignment to each of its variables, which are of one type.
    abbrev pub assignment_size : List ℕ → ℕ
    assignment_size [] = node_size ty.Int
    assignment_size (x ∷ xs) = variable_size x

    abbrev pub declared_size : List ℕ → Option typed.Expr → ℕ
    declared_size xs e = assignment_size xs + (variables_size xs + some_size e)

    -- The greatest sum that the nodes of one statement have, of a statement and those in it. The condition of an `if` and of a loop is a
    -- statement of its own, and so is what a `for` begins with and what it does between two turns.
    abbrev mutual
      pub stmt_size : typed.Stmt → ℕ
      stmt_size (typed.Block ss) = stmts_size ss
      stmt_size (typed.Declare xs e) = declared_size xs e
      stmt_size (typed.Eval e) = expr_size e
      stmt_size (typed.If c ss others) = max (expr_size c) (max (stmts_size ss) (stmts_size others))
      stmt_size (typed.While c ss) = max (some_size c) (stmts_size ss)
      stmt_size (typed.Do ss c) = max (some_size c) (stmts_size ss)
      stmt_size (typed.For first c next ss) = max (some_size first) (max (some_size c) (max (some_size next) (stmts_size ss)))
      stmt_size (typed.Return e) = some_size e
      stmt_size s = 0

      pub stmts_size : typed.Stmts → ℕ
      stmts_size typed.NoStmts = 0
      stmts_size (typed.MoreStmts s ss) = max (stmt_size s) (stmts_size ss)

  -- ---- frames

  -- Where variables of these types end, each laid at the next place that suits it.
  abbrev pub laid_size : List Ty → ℕ
  laid_size ts = (all_behind nothing (rooms_of (rooms_in defs) ts)).size

  -- A frame's size in bytes: 40, the variables as they are laid, and the greatest sum of a statement.
  abbrev pub frame_size : Function → ℕ
  frame_size f = 40 + laid_size (types_in f.variables) + stmts_size (types_in f.variables) f.body

abbrev pub globals_size : Module → ℕ
globals_size m = laid_size m.adts (types_in m.globals)

-- A frame has at most so many bytes, and so have the variables of a module.
abbrev pub largest_frame : ℕ
largest_frame = 65536

-- A function of the module would have a larger frame.
pub record LargeFrame (m : Module) : Type 0 where
  pub number : ℕ
  pub function : Function
  pub there : slice_get m.functions number ≡ Some function
  pub large : largest_frame < frame_size m.adts function

-- That is so, or the module's variables are larger.
abbrev pub FrameTooLarge : Module → Type 0
FrameTooLarge m = LargeFrame m ⊎ (largest_frame < globals_size m)
