-- Checked modules of the whole language, as trees: names are numbers, and each expression and each place has its type. What of the
-- code holds no type and no tree is the code's own: operations, pieces of formats, constants, patterns of arms.
use Rattle.std.specs.Prelude.{ℕ, ℤ, List, Option}
use Rattle.limbo_types.specs.Types.{Ty, FnTy}
use Rattle.limbo_adts.specs.limbo_layout.Adts.{Def}
use Rattle.limbo_typed.specs.declared.operation.Operation.{Operation}
use Rattle.limbo_typed.specs.declared.operation.Connective.{Connective}
use Rattle.limbo_typed.specs.declared.operation.Given.{Given}
use Rattle.limbo_typed.specs.declared.print.Printed.{Printed}
use Rattle.limbo_typed.specs.declared.print.Piece.{Piece}
use Rattle.limbo_typed.specs.declared.stmt.CasePattern.{CasePattern}
use Rattle.limbo_typed.specs.declared.stmt.HandlerPattern.{HandlerPattern}
use Rattle.limbo_typed.specs.declared.module.Initial.{Initial}

-- Expressions (Limbo Language Reference, expressions). An operation with the operands that it takes is one form; a form of its
-- own has what isn't evaluated once from the left to the right, what assigns, calls and waits.
mutual
  pub data Expr : Type 0 where
    Of : Ty → Node → Expr

  pub data Node : Type 0 where
    Number : ℤ → Node
    Chars : List ℕ → Node
    Nil : Node
    OpenNil : Node
    Read : Place → Node
    Part : Expr → (part : ℕ) → Node
    Apply : Operation → Exprs → Node
    Lazy : Connective → Expr → Expr → Node
    Assign : Pattern → Expr → Node
    Update : Operation → Place → Expr → Node
    Step : Operation → Given → Place → Node
    Copy : (array from value : Expr) → Node
    Filled : (length : Optional) → Items → (rest : Optional) → Node
    Channel : (size : Optional) → Node
    Call : (function : ℕ) → Exprs → Node
    CallThrough : Expr → (interface function : ℕ) → Exprs → Node
    Print : Printed → Expr → (file : Optional) → List Piece → Exprs → Node
    Load : (interface : ℕ) → Expr → Node
    Send : (channel value : Expr) → Node
    Receive : (channel : Expr) → Node

  pub data Exprs : Type 0 where
    NoExprs : Exprs
    MoreExprs : Expr → Exprs → Exprs

  -- an expression that may be absent
  pub data Optional : Type 0 where
    Absent : Optional
    Present : Expr → Optional

  -- the elements that an initialiser names, each by its index
  pub data Items : Type 0 where
    NoItems : Items
    MoreItems : (index : ℤ) → Expr → Items → Items

  -- what can be assigned to, and where that is
  pub data Place : Type 0 where
    At : Ty → PlaceNode → Place

  pub data PlaceNode : Type 0 where
    Local : ℕ → PlaceNode
    Global : ℕ → PlaceNode
    Field : Place → (part : ℕ) → PlaceNode
    Element : (array index : Expr) → PlaceNode
    Character : Place → (index : Expr) → PlaceNode
    Target : (reference : Expr) → PlaceNode

  -- where an assigned value goes: into a place, nowhere, or its parts each their own way
  pub data Pattern : Type 0 where
    ToPlace : Place → Pattern
    ToNothing : Pattern
    ToParts : Patterns → Pattern

  pub data Patterns : Type 0 where
    NoPatterns : Patterns
    MorePatterns : Pattern → Patterns → Patterns

-- What an arm of an `alt` waits for; nothing is `*`.
pub data AltHead : Type 0 where
  Receives : Option Pattern → (channel : Expr) → AltHead
  Sends : (channel value : Expr) → AltHead
  WaitsNot : AltHead

-- Which variants an arm of a `pick` takes, none for `*`, and its variable.
pub record PickHead : Type 0 where
  pub variants : List ℕ
  pub variable : ℕ

-- Which exceptions an arm of a handler takes, and its variable, where the handler has a name.
pub record HandlerHead : Type 0 where
  pub patterns : List HandlerPattern
  pub variable : Option ℕ

-- Statements (Limbo Language Reference, statements). Of arms the heads stand in one row, and the bodies in another, in the same
-- order. A `break` or `continue` says how many loops and branches stand between it and the one that it speaks of.
mutual
  pub data Stmt : Type 0 where
    Empty : Stmt
    Block : Stmts → Stmt
    Declare : (variables : List ℕ) → Option Expr → Stmt
    Eval : Expr → Stmt
    If : Expr → Stmts → Stmts → Stmt
    While : (condition : Option Expr) → Stmts → Stmt
    Do : Stmts → (condition : Option Expr) → Stmt
    For : (first condition next : Option Expr) → Stmts → Stmt
    Case : Expr → List (List CasePattern) → Bodies → Stmt
    Alt : List AltHead → Bodies → Stmt
    Pick : Expr → List PickHead → Bodies → Stmt
    Break : ℕ → Stmt
    Continue : ℕ → Stmt
    Return : Option Expr → Stmt
    Exit : Stmt
    Spawn : Expr → Stmt
    Raise : Expr → Stmt
    RaiseDeclared : (exception : ℕ) → Exprs → Stmt
    RaiseAgain : (caught : ℕ) → Stmt
    Handle : Stmts → (caught : ℕ) → List HandlerHead → Bodies → Stmt

  pub data Stmts : Type 0 where
    NoStmts : Stmts
    MoreStmts : Stmt → Stmts → Stmts

  pub data Bodies : Type 0 where
    NoBodies : Bodies
    MoreBodies : Stmts → Bodies → Bodies

-- A variable of a function or of a module.
pub record Var : Type 0 where
  pub name : List ℕ
  pub ty : Ty

-- A function, and the adt that it belongs to where it is a method. Its parameters are the first of its variables; so many places
-- has it in which caught exceptions stay.
pub record Function : Type 0 where
  pub name : List ℕ
  pub owner : Option ℕ
  pub of : FnTy
  pub variables : List Var
  pub catches : ℕ
  pub body : Stmts

-- A function as a module type declares it, and a module type.
pub record Signature : Type 0 where
  pub name : List ℕ
  pub of : FnTy

pub record Interface : Type 0 where
  pub name : List ℕ
  pub functions : List Signature

-- A function that the module itself declares, and the number of its definition.
pub record Declared : Type 0 where
  pub name : List ℕ
  pub of : FnTy
  pub function : ℕ

-- A declared exception: its module's name, its own, and the types of its values.
pub record Exception : Type 0 where
  pub module_name : List ℕ
  pub name : List ℕ
  pub values : List Ty

-- A module: what it has, what it declares, and the adts, module types and exceptions that it names. A global without an initial value
-- begins with zero or `nil`. The names of the module types stand beside the adts too.
pub record Module : Type 0 where
  pub name : List ℕ
  pub adts : List Def
  pub modules : List (List ℕ)
  pub globals : List Var
  pub initials : List Initial
  pub functions : List Function
  pub declared : List Declared
  pub interfaces : List Interface
  pub system : Option ℕ
  pub exceptions : List Exception
