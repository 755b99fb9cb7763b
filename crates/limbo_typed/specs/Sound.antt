-- What the checker promises of a module: that each number in it names something, that no `nil` is left open, and that the types fit.
-- Not said here, but by the checker's own rules: that stores make no cycle, that values of module types and of `FD` stay where they
-- may, that types have a layout, that the ranges of a `case` don't overlap, that arrays, lists and modules are compared with `nil`
-- alone, that a function with an answer ends each path, and that what is raised again was caught.
use Rattle.std.specs.Prelude.{ℕ, ◌≡◌, ◌<◌, ◌+◌, ◌⊎◌, Bool, true, false, List, []}
use Rattle.std.specs.Prelude.{◌∷◌, ◌++◌, map, take, length, Option, Some, None, slice_get}
use Rattle.limbo_types.specs.Types as ty
use Rattle.limbo_types.specs.Types.{Ty, Tys, FnTy}
use Rattle.limbo_adts.specs.limbo_layout.Adts.{Names, AreNamed, listed}
use Rattle.limbo_typed.specs.declared.print.Printed.{Printed}
use Rattle.limbo_typed.specs.declared.print.Printed.TheVariants as printed
use Rattle.limbo_typed.specs.declared.print.Hole.{Hole}
use Rattle.limbo_typed.specs.declared.print.Hole.TheVariants as hole
use Rattle.limbo_typed.specs.declared.print.Piece.{Piece}
use Rattle.limbo_typed.specs.declared.print.Piece.TheVariants as piece
use Rattle.limbo_typed.specs.declared.stmt.CasePattern.{CasePattern}
use Rattle.limbo_typed.specs.declared.stmt.CasePattern.TheVariants as case
use Rattle.limbo_typed.specs.declared.stmt.HandlerPattern.{HandlerPattern}
use Rattle.limbo_typed.specs.declared.stmt.HandlerPattern.TheVariants as handler
use Rattle.limbo_typed.specs.declared.module.Initial.{Initial}
use Rattle.limbo_typed.specs.Typed.{Expr, Of, Node, Exprs, NoExprs, MoreExprs, Optional, Absent, Present, Items, NoItems, MoreItems}
use Rattle.limbo_typed.specs.Typed.{Number, Chars, Nil, OpenNil, Read, Part, Apply, Lazy, Assign, Update, Step, Copy, Filled, Channel}
use Rattle.limbo_typed.specs.Typed.{Call, CallThrough, Print, Load, Send, Receive}
use Rattle.limbo_typed.specs.Typed.{Place, At, PlaceNode, Local, Global, Field, Element, Character, Target}
use Rattle.limbo_typed.specs.Typed.{Pattern, ToPlace, ToNothing, ToParts, Patterns, NoPatterns, MorePatterns}
use Rattle.limbo_typed.specs.Typed.{AltHead, Receives, Sends, WaitsNot, PickHead, HandlerHead, Stmt, Stmts, NoStmts, MoreStmts}
use Rattle.limbo_typed.specs.Typed.{Bodies, NoBodies, MoreBodies, Empty, Block, Declare, Eval, If, While, Do, For, Case, Alt, Pick}
use Rattle.limbo_typed.specs.Typed.{Break, Continue, Return, Exit, Spawn, Raise, RaiseDeclared, RaiseAgain, Handle}
use Rattle.limbo_typed.specs.Typed.{Var, Function, Signature, Interface, Declared, Exception, Module}
use Rattle.limbo_typed.specs.Fitting as fits
use Rattle.limbo_typed.specs.Fitting.{HasPart, HasNil, IsRefOf, Stands, AllStand, Gives, IsNumber, IsConstant, of_kind}

abbrev pub type_of : Expr → Ty
type_of (Of t n) = t

abbrev pub types_of : Exprs → List Ty
types_of NoExprs = []
types_of (MoreExprs e es) = type_of e ∷ types_of es

abbrev pub type_at : Place → Ty
type_at (At t n) = t

abbrev pub Each : {A : Type 0} → (A → Type 0) → List A → Type 0
Each P [] = Unit {0}
Each P (x ∷ xs) = P x × Each P xs

-- ---- what numbers name

-- A list has this variable, of this type.
abbrev pub HasVariable : List Var → ℕ → Ty → Type 0
HasVariable vs x t = (v : Var) × (slice_get vs x ≡ Some v) × (v.ty ≡ t)

-- No `nil` of which nothing says what it stands for has a part in a type.
abbrev mutual
  pub IsSettled : Ty → Type 0
  IsSettled ty.Nil = ⊥
  IsSettled (ty.ArrayOf t) = IsSettled t
  IsSettled (ty.ListOf t) = IsSettled t
  IsSettled (ty.ChanOf t) = IsSettled t
  IsSettled (ty.Tuple ts) = AllSettled ts
  IsSettled t = Unit {0}

  pub AllSettled : Tys → Type 0
  AllSettled ty.NoTys = Unit {0}
  AllSettled (ty.MoreTys t ts) = IsSettled t × AllSettled ts

-- A type of the module: each number in it names an adt, a variant of it, or a module type, and no `nil` in it is open.
abbrev pub IsNamed : Module → Ty → Type 0
IsNamed m t = Names m.adts (length m.interfaces) t × IsSettled t

abbrev pub NamesAll : Module → List Ty → Type 0
NamesAll m ts = Each (IsNamed m) ts

-- A function of this number takes such arguments, and has this answer.
abbrev pub Takes : FnTy → List Ty → Ty → Type 0
Takes f ts t = AllStand ts f.args × (f.answer ≡ t)

pub record HasFunction (m : Module) (number : ℕ) (args : List Ty) (answer : Ty) : Type 0 where
  pub function : Function
  pub there : slice_get m.functions number ≡ Some function
  pub takes : Takes function.of args answer

pub record HasMember (m : Module) (interface number : ℕ) (args : List Ty) (answer : Ty) : Type 0 where
  pub of : Interface
  pub there : slice_get m.interfaces interface ≡ Some of
  pub member : Signature
  pub declared : slice_get of.functions number ≡ Some member
  pub takes : Takes member.of args answer

pub record HasException (m : Module) (number : ℕ) (values : List Ty) : Type 0 where
  pub exception : Exception
  pub there : slice_get m.exceptions number ≡ Some exception
  pub takes : AllStand values exception.values

-- The type of `Sys`, which the module names.
abbrev pub IsSystem : Module → Ty → Type 0
IsSystem m t = (n : ℕ) × (m.system ≡ Some n) × (t ≡ ty.Module n)

-- ---- formats

abbrev pub type_of_hole : Hole → List Ty
type_of_hole (hole.Decimal k) = of_kind k ∷ []
type_of_hole hole.Chars = ty.Chars ∷ []
type_of_hole hole.Character = ty.Int ∷ []
type_of_hole hole.Hexadecimal = ty.Int ∷ []
type_of_hole hole.Error = []

-- the types of the arguments that a format takes
abbrev pub holes : List Piece → List Ty
holes [] = []
holes (piece.Chars t ∷ ps) = holes ps
holes (piece.Hole h ∷ ps) = type_of_hole h ++ holes ps

abbrev pub printed_type : Printed → Ty
printed_type printed.Print = ty.Int
printed_type printed.Fprint = ty.Int
printed_type printed.Sprint = ty.Chars

-- ---- types of places and channels

-- what a `ref` names
abbrev pub IsTarget : Ty → Ty → Type 0
IsTarget r (ty.Adt n) = IsRefOf n r
IsTarget r _ = ⊥

abbrev pub IsArray : Ty → Type 0
IsArray (ty.ArrayOf t) = Unit {0}
IsArray _ = ⊥

-- what the variable of an arm of a `pick` names
abbrev pub picked : (adt : ℕ) → (variants : List ℕ) → Ty
picked n (v ∷ []) = ty.RefPick n v
picked n _ = ty.RefAdt n

abbrev pub IsChannel : Ty → Type 0
IsChannel (ty.ChanOf t) = Unit {0}
IsChannel _ = ⊥

-- ---- expressions

module _ (m : Module) (variables : List Var) where
  abbrev mutual
    -- An expression whose parts have the types that are asked of them.
    pub SoundExpr : Expr → Type 0
    SoundExpr (Of t n) = IsNamed m t × SoundNode t n

    pub SoundNode : Ty → Node → Type 0
    SoundNode t (Number n) = IsNumber t n
    SoundNode t (Chars s) = t ≡ ty.Chars
    SoundNode t Nil = HasNil t
    SoundNode t OpenNil = ⊥
    SoundNode t (Read p) = SoundPlace p × (type_at p ≡ t)
    SoundNode t (Part e n) = SoundExpr e × HasPart m.adts (type_of e) n t
    SoundNode t (Apply o es) = SoundExprs es × Gives m.adts o (types_of es) t
    SoundNode t (Lazy c l r) = SoundInt l × SoundInt r × (t ≡ ty.Int)
    SoundNode t (Assign p e) = SoundExpr e × SoundPattern p (type_of e) × Stands (type_of e) t
    SoundNode t (Update o p e) =
        SoundPlace p × SoundExpr e × Gives m.adts o (type_at p ∷ type_of e ∷ []) (type_at p) × (type_at p ≡ t)
    SoundNode t (Step o g p) = SoundPlace p × Gives m.adts o (type_at p ∷ []) (type_at p) × (type_at p ≡ t)
    SoundNode t (Copy a i e) =
        SoundExpr a × SoundInt i × SoundExpr e × IsArray t × (type_of a ≡ t) × (type_of e ≡ t)
    SoundNode t (Filled n is rest) =
        (item : Ty) × (t ≡ ty.ArrayOf item) × SoundOptional n ty.Int × SoundItems is item × SoundOptional rest item
    SoundNode t (Channel n) = IsChannel t × SoundOptional n ty.Int
    SoundNode t (Call f es) = SoundExprs es × HasFunction m f (types_of es) t
    SoundNode t (CallThrough e n f es) =
        SoundExpr e × (type_of e ≡ ty.Module n) × SoundExprs es × HasMember m n f (types_of es) t
    SoundNode t (Print which e file ps es) =
        SoundExpr e × IsSystem m (type_of e) × SoundFile which file × SoundExprs es × (types_of es ≡ holes ps)
        × (t ≡ printed_type which)
    SoundNode t (Load n e) = SoundExpr e × (type_of e ≡ ty.Chars) × (t ≡ ty.Module n)
    SoundNode t (Send c e) = SoundExpr c × SoundExpr e × (type_of c ≡ ty.ChanOf t) × Stands (type_of e) t
    SoundNode t (Receive c) = SoundExpr c × fits.Receives (type_of c) t

    pub SoundExprs : Exprs → Type 0
    SoundExprs NoExprs = Unit {0}
    SoundExprs (MoreExprs e es) = SoundExpr e × SoundExprs es

    pub SoundInt : Expr → Type 0
    SoundInt (Of t n) = (t ≡ ty.Int) × SoundNode t n

    -- an expression that may be absent, and else stands for this type
    pub SoundOptional : Optional → Ty → Type 0
    SoundOptional Absent t = Unit {0}
    SoundOptional (Present e) t = SoundExpr e × Stands (type_of e) t

    pub SoundItems : Items → Ty → Type 0
    SoundItems NoItems t = Unit {0}
    SoundItems (MoreItems i e is) t = SoundExpr e × Stands (type_of e) t × SoundItems is t

    -- a file stands in `fprint` alone
    pub SoundFile : Printed → Optional → Type 0
    SoundFile printed.Fprint (Present e) = SoundExpr e × ((n : ℕ) × IsRefOf n (type_of e))
    SoundFile printed.Print Absent = Unit {0}
    SoundFile printed.Sprint Absent = Unit {0}
    SoundFile _ _ = ⊥

    pub SoundPlace : Place → Type 0
    SoundPlace (At t n) = IsNamed m t × SoundPlaceNode t n

    pub SoundPlaceNode : Ty → PlaceNode → Type 0
    SoundPlaceNode t (Local x) = HasVariable variables x t
    SoundPlaceNode t (Global x) = HasVariable m.globals x t
    SoundPlaceNode t (Field p n) = SoundPlace p × HasPart m.adts (type_at p) n t
    SoundPlaceNode t (Element a i) = SoundExpr a × SoundInt i × (type_of a ≡ ty.ArrayOf t)
    SoundPlaceNode t (Character p i) = SoundPlace p × SoundInt i × (type_at p ≡ ty.Chars) × (t ≡ ty.Int)
    SoundPlaceNode t (Target e) = SoundExpr e × IsTarget (type_of e) t

    -- a pattern for values of this type
    pub SoundPattern : Pattern → Ty → Type 0
    SoundPattern (ToPlace p) t = SoundPlace p × Stands t (type_at p)
    SoundPattern ToNothing t = Unit {0}
    SoundPattern (ToParts ps) t = (parts : Tys) × (t ≡ ty.Tuple parts) × SoundPatterns ps (listed parts)

    pub SoundPatterns : Patterns → List Ty → Type 0
    SoundPatterns NoPatterns [] = Unit {0}
    SoundPatterns (MorePatterns p ps) (t ∷ ts) = SoundPattern p t × SoundPatterns ps ts
    SoundPatterns _ _ = ⊥

  abbrev pub SoundOption : Option Expr → Type 0
  SoundOption None = Unit {0}
  SoundOption (Some e) = SoundExpr e

  abbrev pub SoundCondition : Option Expr → Type 0
  SoundCondition None = Unit {0}
  SoundCondition (Some e) = SoundInt e

  -- ---- heads of arms

  abbrev pub HasSomeVariable : ℕ → Type 0
  HasSomeVariable x = x < length variables

  -- variables that get zero or `nil`, or a value
  abbrev pub SoundDeclared : List ℕ → Option Expr → Type 0
  SoundDeclared xs None = Each HasSomeVariable xs
  SoundDeclared xs (Some e) = SoundExpr e × Each (λ x. (t : Ty) × HasVariable variables x t × Stands (type_of e) t) xs

  abbrev pub SoundCasePattern : Ty → CasePattern → Type 0
  SoundCasePattern t (case.One c) = IsConstant t c
  SoundCasePattern t (case.Range c d) = IsConstant t c × IsConstant t d
  SoundCasePattern t case.Any = Unit {0}

  abbrev pub SoundReceived : Option Pattern → Ty → Type 0
  SoundReceived None t = Unit {0}
  SoundReceived (Some p) t = SoundPattern p t

  abbrev pub SoundAltHead : AltHead → Type 0
  SoundAltHead (Receives p c) = SoundExpr c × ((t : Ty) × fits.Receives (type_of c) t × SoundReceived p t)
  SoundAltHead (Sends c e) = SoundExpr c × SoundExpr e × ((t : Ty) × (type_of c ≡ ty.ChanOf t) × Stands (type_of e) t)
  SoundAltHead WaitsNot = Unit {0}

  -- an arm names variants of the adt, and its variable has a `ref` of the adt, or of the one variant that it names
  abbrev pub SoundPickHead : (adt : ℕ) → PickHead → Type 0
  SoundPickHead n h = Each (λ v. IsNamed m (ty.RefPick n v)) h.variants × HasVariable variables h.variable (picked n h.variants)

  abbrev pub SoundHandlerPattern : HandlerPattern → Type 0
  SoundHandlerPattern (handler.Declared n) = n < length m.exceptions
  SoundHandlerPattern _ = Unit {0}

  -- a declared exception whose values have these types
  abbrev pub Carries : Tys → HandlerPattern → Type 0
  Carries parts (handler.Declared n) = (e : Exception) × (slice_get m.exceptions n ≡ Some e) × (e.values ≡ listed parts)
  Carries parts _ = ⊥

  -- an arm's variable has the exception's text, or the tuple of its values
  abbrev pub HasCaught : List HandlerPattern → Option ℕ → Type 0
  HasCaught ps None = Unit {0}
  HasCaught ps (Some x) =
      HasVariable variables x ty.Chars ⊎ ((parts : Tys) × HasVariable variables x (ty.Tuple parts) × Each (Carries parts) ps)

  abbrev pub SoundHandlerHead : HandlerHead → Type 0
  SoundHandlerHead h = Each SoundHandlerPattern h.patterns × HasCaught h.patterns h.variable

-- ---- statements

abbrev pub IsCased : Ty → Type 0
IsCased t = (t ≡ ty.Int) ⊎ ((t ≡ ty.Big) ⊎ (t ≡ ty.Chars))

abbrev pub is_call : Expr → Bool
is_call (Of t (Call f es)) = true
is_call (Of t (CallThrough e n f es)) = true
is_call _ = false

abbrev pub bodies : Bodies → ℕ
bodies NoBodies = 0
bodies (MoreBodies ss bs) = bodies bs + 1

module _ (m : Module) (f : Function) where
  -- A value that is returned, where the function has an answer.
  abbrev pub SoundReturn : Option Expr → Type 0
  SoundReturn None = f.of.answer ≡ ty.Nothing
  SoundReturn (Some e) = SoundExpr m f.variables e × Stands (type_of e) f.of.answer

  -- A statement in loops and branches, the innermost first: true is a loop.
  abbrev mutual
    pub SoundStmt : List Bool → Stmt → Type 0
    SoundStmt around Empty = Unit {0}
    SoundStmt around (Block ss) = SoundStmts around ss
    SoundStmt around (Declare xs e) = SoundDeclared m f.variables xs e
    SoundStmt around (Eval e) = SoundExpr m f.variables e
    SoundStmt around (If c ss others) = SoundInt m f.variables c × SoundStmts around ss × SoundStmts around others
    SoundStmt around (While c ss) = SoundCondition m f.variables c × SoundStmts (true ∷ around) ss
    SoundStmt around (Do ss c) = SoundStmts (true ∷ around) ss × SoundCondition m f.variables c
    SoundStmt around (For first c next ss) =
        SoundOption m f.variables first × SoundCondition m f.variables c × SoundOption m f.variables next
        × SoundStmts (true ∷ around) ss
    SoundStmt around (Case e heads arms) =
        SoundExpr m f.variables e × IsCased (type_of e) × Each (Each (SoundCasePattern m f.variables (type_of e))) heads
        × (length heads ≡ bodies arms) × SoundBodies (false ∷ around) arms
    SoundStmt around (Alt heads arms) =
        Each (SoundAltHead m f.variables) heads × (length heads ≡ bodies arms) × SoundBodies (false ∷ around) arms
    SoundStmt around (Pick e heads arms) =
        SoundExpr m f.variables e × ((n : ℕ) × IsRefOf n (type_of e) × Each (SoundPickHead m f.variables n) heads)
        × (length heads ≡ bodies arms) × SoundBodies (false ∷ around) arms
    SoundStmt around (Break n) = n < length around
    SoundStmt around (Continue n) = slice_get around n ≡ Some true
    SoundStmt around (Return e) = SoundReturn e
    SoundStmt around Exit = Unit {0}
    SoundStmt around (Spawn e) = SoundExpr m f.variables e × (is_call e ≡ true) × (type_of e ≡ ty.Nothing)
    SoundStmt around (Raise e) = SoundExpr m f.variables e × (type_of e ≡ ty.Chars)
    SoundStmt around (RaiseDeclared n es) = SoundExprs m f.variables es × HasException m n (types_of es)
    SoundStmt around (RaiseAgain n) = n < f.catches
    SoundStmt around (Handle ss n heads arms) =
        SoundStmts around ss × (n < f.catches) × Each (SoundHandlerHead m f.variables) heads
        × (length heads ≡ bodies arms) × SoundBodies around arms

    pub SoundStmts : List Bool → Stmts → Type 0
    SoundStmts around NoStmts = Unit {0}
    SoundStmts around (MoreStmts s ss) = SoundStmt around s × SoundStmts around ss

    pub SoundBodies : List Bool → Bodies → Type 0
    SoundBodies around NoBodies = Unit {0}
    SoundBodies around (MoreBodies ss bs) = SoundStmts around ss × SoundBodies around bs

-- ---- modules

abbrev pub HasOwner : Module → Option ℕ → Type 0
HasOwner m None = Unit {0}
HasOwner m (Some n) = n < length m.adts

-- A function: its parameters are its first variables, and its body is sound.
pub record SoundFunction (m : Module) (f : Function) : Type 0 where
  pub parameters : take (length f.of.args) (map (λ v. v.ty) f.variables) ≡ f.of.args
  pub named : Each (λ v. IsNamed m v.ty) f.variables
  pub answer : IsNamed m f.of.answer
  pub owner : HasOwner m f.owner
  pub body : SoundStmts m f [] f.body

-- What a global begins with is a constant of its type.
abbrev pub SoundInitial : Module → Initial → Type 0
SoundInitial m i = (t : Ty) × HasVariable m.globals i.global t × IsConstant t i.value

-- What the module declares has a definition with the declared name and type.
pub record SoundDeclaration (m : Module) (d : Declared) : Type 0 where
  pub function : Function
  pub there : slice_get m.functions d.function ≡ Some function
  pub name : function.name ≡ d.name
  pub of : function.of ≡ d.of

abbrev pub SoundSignature : Module → Signature → Type 0
SoundSignature m s = NamesAll m s.of.args × IsNamed m s.of.answer

abbrev pub HasSystem : Module → Option ℕ → Type 0
HasSystem m None = Unit {0}
HasSystem m (Some n) = n < length m.interfaces

pub record IsSound (m : Module) : Type 0 where
  pub adts : AreNamed m.adts (length m.interfaces)
  pub modules : map (λ i. i.name) m.interfaces ≡ m.modules
  pub globals : Each (λ v. IsNamed m v.ty) m.globals
  pub initials : Each (SoundInitial m) m.initials
  pub functions : Each (SoundFunction m) m.functions
  pub declared : Each (SoundDeclaration m) m.declared
  pub interfaces : Each (λ i. Each (SoundSignature m) i.functions) m.interfaces
  pub system : HasSystem m m.system
  pub exceptions : Each (λ e. NamesAll m e.values) m.exceptions
