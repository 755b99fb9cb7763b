-- What holds of every node holds of each in a module; so each module stores what may be stored, where anything may be.
use Rattle.std.proofs.Common.{List, [], ◌∷◌, Option, None, Some}
use Rattle.limbo_layout.specs.Adts.{Def}
use Rattle.limbo_typed.specs.Typed as typed
use Rattle.limbo_typed.specs.Typed.{Expr, Of, Node, Exprs, NoExprs, MoreExprs, Optional, Absent, Present, Items, Place, At, PlaceNode}
use Rattle.limbo_typed.specs.Typed.{Pattern, Patterns, AltHead, Stmt, Stmts, Bodies, Function, Module}
use Rattle.limbo_typed.specs.Sound.{Each}
use Rattle.limbo_kept.specs.Permitting.{Anything}
use Rattle.limbo_kept.specs.Nodes.{AllNodes, InNode, InEach, InOptional, InItems, InPlace, InPlaceNode, InPattern, InPatterns, InOption}
use Rattle.limbo_kept.specs.Nodes.{InReceived, InAltHead, InStmt, InStmts, InBodies}
use Rattle.limbo_kept.specs.Storing.{CopiesWell, StoresWell, StoresAllowed}

module _ (P : Node → Type 0) (all : (n : Node) → P n) where
  mutual
    in_expr : (e : Expr) → AllNodes P e
    in_expr (Of t n) = (all n, in_node n)

    in_node : (n : Node) → InNode P n
    in_node (typed.Number n) = tt
    in_node (typed.Chars s) = tt
    in_node typed.Nil = tt
    in_node typed.OpenNil = tt
    in_node (typed.Read p) = in_place p
    in_node (typed.Part e k) = in_expr e
    in_node (typed.Apply o es) = in_each es
    in_node (typed.Lazy c l r) = (in_expr l, in_expr r)
    in_node (typed.Assign p e) = (in_pattern p, in_expr e)
    in_node (typed.Update o p e) = (in_place p, in_expr e)
    in_node (typed.Step o g p) = in_place p
    in_node (typed.Copy a i e) = (in_expr a, in_expr i, in_expr e)
    in_node (typed.Filled l is rest) = (in_optional l, in_items is, in_optional rest)
    in_node (typed.Channel size) = in_optional size
    in_node (typed.Call f es) = in_each es
    in_node (typed.CallThrough e i f es) = (in_expr e, in_each es)
    in_node (typed.Print which e file ps es) = (in_expr e, in_optional file, in_each es)
    in_node (typed.Load i e) = in_expr e
    in_node (typed.Send c e) = (in_expr c, in_expr e)
    in_node (typed.Receive c) = in_expr c

    in_each : (es : Exprs) → InEach P es
    in_each NoExprs = tt
    in_each (MoreExprs e es) = (in_expr e, in_each es)

    in_optional : (e : Optional) → InOptional P e
    in_optional Absent = tt
    in_optional (Present e) = in_expr e

    in_items : (is : Items) → InItems P is
    in_items typed.NoItems = tt
    in_items (typed.MoreItems i e is) = (in_expr e, in_items is)

    in_place : (p : Place) → InPlace P p
    in_place (At t n) = in_place_node n

    in_place_node : (n : PlaceNode) → InPlaceNode P n
    in_place_node (typed.Local x) = tt
    in_place_node (typed.Global x) = tt
    in_place_node (typed.Field whole k) = in_place whole
    in_place_node (typed.Element a i) = (in_expr a, in_expr i)
    in_place_node (typed.Character text i) = (in_place text, in_expr i)
    in_place_node (typed.Target e) = in_expr e

    in_pattern : (p : Pattern) → InPattern P p
    in_pattern (typed.ToPlace p) = in_place p
    in_pattern typed.ToNothing = tt
    in_pattern (typed.ToParts ps) = in_patterns ps

    in_patterns : (ps : Patterns) → InPatterns P ps
    in_patterns typed.NoPatterns = tt
    in_patterns (typed.MorePatterns p ps) = (in_pattern p, in_patterns ps)

  in_option : (e : Option Expr) → InOption P e
  in_option None = tt
  in_option (Some e) = in_expr e

  in_received : (p : Option Pattern) → InReceived P p
  in_received None = tt
  in_received (Some p) = in_pattern p

  in_heads : (hs : List AltHead) → Each (InAltHead P) hs
  in_heads [] = tt
  in_heads (typed.Receives p c ∷ hs) = ((in_received p, in_expr c), in_heads hs)
  in_heads (typed.Sends c e ∷ hs) = ((in_expr c, in_expr e), in_heads hs)
  in_heads (typed.WaitsNot ∷ hs) = (tt, in_heads hs)

  mutual
    in_stmt : (s : Stmt) → InStmt P s
    in_stmt typed.Empty = tt
    in_stmt (typed.Block ss) = in_stmts ss
    in_stmt (typed.Declare xs e) = in_option e
    in_stmt (typed.Eval e) = in_expr e
    in_stmt (typed.If c ss others) = (in_expr c, in_stmts ss, in_stmts others)
    in_stmt (typed.While c ss) = (in_option c, in_stmts ss)
    in_stmt (typed.Do ss c) = (in_stmts ss, in_option c)
    in_stmt (typed.For first c next ss) = (in_option first, in_option c, in_option next, in_stmts ss)
    in_stmt (typed.Case e heads arms) = (in_expr e, in_bodies arms)
    in_stmt (typed.Alt heads arms) = (in_heads heads, in_bodies arms)
    in_stmt (typed.Pick e heads arms) = (in_expr e, in_bodies arms)
    in_stmt (typed.Break n) = tt
    in_stmt (typed.Continue n) = tt
    in_stmt (typed.Return e) = in_option e
    in_stmt typed.Exit = tt
    in_stmt (typed.Spawn e) = in_expr e
    in_stmt (typed.Raise e) = in_expr e
    in_stmt (typed.RaiseDeclared n es) = in_each es
    in_stmt (typed.RaiseAgain n) = tt
    in_stmt (typed.Handle ss n heads arms) = (in_stmts ss, in_bodies arms)

    pub in_stmts : (ss : Stmts) → InStmts P ss
    in_stmts typed.NoStmts = tt
    in_stmts (typed.MoreStmts s ss) = (in_stmt s, in_stmts ss)

    in_bodies : (bs : Bodies) → InBodies P bs
    in_bodies typed.NoBodies = tt
    in_bodies (typed.MoreBodies ss bs) = (in_stmts ss, in_bodies bs)

-- ---- where anything may be stored

copies_well : (defs : List Def) (n : Node) → CopiesWell Anything defs n
copies_well defs (typed.Copy a i e) = λ t same. tt
copies_well defs _ = tt

anything_well : (defs : List Def) (n : Node) → StoresWell Anything defs n
anything_well defs n = record { places = λ p here object held. tt; copies = copies_well defs n }

pub anything_allowed : (m : Module) → StoresAllowed Anything m
anything_allowed m = go m.functions
  where
    go : (fs : List Function) → Each (λ (f : Function). InStmts (StoresWell Anything m.adts) f.body) fs
    go [] = tt
    go (f ∷ fs) = (in_stmts (StoresWell Anything m.adts) (anything_well m.adts) f.body, go fs)
