-- Something holds of each node of the typed expressions that stand in an expression, or in a statement.
use Rattle.std.specs.Prelude.{Option, None, Some}
use Rattle.limbo_typed.specs.Typed.{Expr, Of, Node, Exprs, NoExprs, MoreExprs, Optional, Absent, Present, Items, NoItems, MoreItems}
use Rattle.limbo_typed.specs.Typed.{Read, Part, Apply, Lazy, Assign, Update, Step, Copy, Filled, Channel}
use Rattle.limbo_typed.specs.Typed.{Call, CallThrough, Print, Load, Send, Receive}
use Rattle.limbo_typed.specs.Typed.{Place, At, PlaceNode, Field, Element, Character, Target}
use Rattle.limbo_typed.specs.Typed.{Pattern, ToPlace, ToNothing, ToParts, Patterns, NoPatterns, MorePatterns}
use Rattle.limbo_typed.specs.Typed.{AltHead, Receives, Sends, WaitsNot, Stmt, Stmts, NoStmts, MoreStmts, Bodies, NoBodies, MoreBodies}
use Rattle.limbo_typed.specs.Typed.{Block, Declare, Eval, If, While, Do, For, Case, Alt, Pick, Return, Spawn, Raise, RaiseDeclared, Handle}
use Rattle.limbo_typed.specs.Sound.{Each}

module _ (P : Node → Type 0) where
  -- ---- expressions

  abbrev mutual
    -- of the expression's own node, and of each in its parts
    pub AllNodes : Expr → Type 0
    AllNodes (Of t n) = P n × InNode n

    -- of each node in the parts that a node has
    pub InNode : Node → Type 0
    InNode (Read p) = InPlace p
    InNode (Part e k) = AllNodes e
    InNode (Apply o es) = InEach es
    InNode (Lazy c l r) = AllNodes l × AllNodes r
    InNode (Assign p e) = InPattern p × AllNodes e
    InNode (Update o p e) = InPlace p × AllNodes e
    InNode (Step o g p) = InPlace p
    InNode (Copy a i e) = AllNodes a × AllNodes i × AllNodes e
    InNode (Filled length is rest) = InOptional length × InItems is × InOptional rest
    InNode (Channel size) = InOptional size
    InNode (Call f es) = InEach es
    InNode (CallThrough e i f es) = AllNodes e × InEach es
    InNode (Print which e file ps es) = AllNodes e × InOptional file × InEach es
    InNode (Load i e) = AllNodes e
    InNode (Send c e) = AllNodes c × AllNodes e
    InNode (Receive c) = AllNodes c
    InNode _ = Unit {0}

    pub InEach : Exprs → Type 0
    InEach NoExprs = Unit {0}
    InEach (MoreExprs e es) = AllNodes e × InEach es

    pub InOptional : Optional → Type 0
    InOptional Absent = Unit {0}
    InOptional (Present e) = AllNodes e

    pub InItems : Items → Type 0
    InItems NoItems = Unit {0}
    InItems (MoreItems i e is) = AllNodes e × InItems is

    pub InPlace : Place → Type 0
    InPlace (At t n) = InPlaceNode n

    pub InPlaceNode : PlaceNode → Type 0
    InPlaceNode (Field whole k) = InPlace whole
    InPlaceNode (Element a i) = AllNodes a × AllNodes i
    InPlaceNode (Character text i) = InPlace text × AllNodes i
    InPlaceNode (Target e) = AllNodes e
    InPlaceNode _ = Unit {0}

    pub InPattern : Pattern → Type 0
    InPattern (ToPlace p) = InPlace p
    InPattern ToNothing = Unit {0}
    InPattern (ToParts ps) = InPatterns ps

    pub InPatterns : Patterns → Type 0
    InPatterns NoPatterns = Unit {0}
    InPatterns (MorePatterns p ps) = InPattern p × InPatterns ps

  -- ---- statements

  abbrev pub InOption : Option Expr → Type 0
  InOption None = Unit {0}
  InOption (Some e) = AllNodes e

  abbrev pub InReceived : Option Pattern → Type 0
  InReceived None = Unit {0}
  InReceived (Some p) = InPattern p

  abbrev pub InAltHead : AltHead → Type 0
  InAltHead (Receives p c) = InReceived p × AllNodes c
  InAltHead (Sends c e) = AllNodes c × AllNodes e
  InAltHead WaitsNot = Unit {0}

  abbrev mutual
    pub InStmt : Stmt → Type 0
    InStmt (Block ss) = InStmts ss
    InStmt (Declare xs e) = InOption e
    InStmt (Eval e) = AllNodes e
    InStmt (If c ss others) = AllNodes c × InStmts ss × InStmts others
    InStmt (While c ss) = InOption c × InStmts ss
    InStmt (Do ss c) = InStmts ss × InOption c
    InStmt (For first c next ss) = InOption first × InOption c × InOption next × InStmts ss
    InStmt (Case e heads arms) = AllNodes e × InBodies arms
    InStmt (Alt heads arms) = Each InAltHead heads × InBodies arms
    InStmt (Pick e heads arms) = AllNodes e × InBodies arms
    InStmt (Return e) = InOption e
    InStmt (Spawn e) = AllNodes e
    InStmt (Raise e) = AllNodes e
    InStmt (RaiseDeclared n es) = InEach es
    InStmt (Handle ss n heads arms) = InStmts ss × InBodies arms
    InStmt _ = Unit {0}

    pub InStmts : Stmts → Type 0
    InStmts NoStmts = Unit {0}
    InStmts (MoreStmts s ss) = InStmt s × InStmts ss

    pub InBodies : Bodies → Type 0
    InBodies NoBodies = Unit {0}
    InBodies (MoreBodies ss bs) = InStmts ss × InBodies bs
