-- What holds of calls.
use Rattle.std.specs.Prelude.{ℕ, ◌≡◌, List, Option, Some, slice_get}
use Rattle.limbo_types.specs.Types.{FnTy}
use Rattle.limbo_layout.specs.Adts.{Def}
use Rattle.limbo_typed.specs.Typed.{Expr, Of, Exprs, Module, Var, Function, Interface, Signature}
use Rattle.limbo_typed.specs.Sound.{SoundNode, IsSystem, type_of}
use Rattle.limbo_arguments.specs.Parts.{SoundParts}
use Rattle.limbo_calls.specs.Calls.{Calls, CallsThrough, Constructs}
use Rattle.limbo_calls.specs.Prints.{Output, Prints}

-- Parts are one call at most.
abbrev pub OneCall : Type 0
OneCall = (function : ℕ) (of : FnTy) (args : Exprs) (e f : Expr) → Calls function of args e → Calls function of args f → e ≡ f

abbrev pub OneThrough : Type 0
OneThrough =
    (system : Option ℕ) (instance : Expr) (interface function : ℕ) (of : FnTy) (args : Exprs) (e f : Expr)
    → CallsThrough system instance interface function of args e → CallsThrough system instance interface function of args f → e ≡ f

abbrev pub OneConstruct : Type 0
OneConstruct =
    (defs : List Def) (adt : ℕ) (variant : Option ℕ) (args : Exprs) (e f : Expr)
    → Constructs defs adt variant args e → Constructs defs adt variant args f → e ≡ f

abbrev pub OnePrint : Type 0
OnePrint =
    (fd : Option ℕ) (output : Output) (instance : Expr) (text : List ℕ) (args : Exprs) (e f : Expr)
    → Prints fd output instance text args e → Prints fd output instance text args f → e ≡ f

-- An expression fits its parts, if these are sound.
abbrev pub IsFit : Module → List Var → Expr → Type 0
IsFit m vs (Of t n) = SoundParts m vs n → SoundNode m vs t n

-- A call of a function of the module, of the type that it has.
abbrev pub CallsAreSound : Type 0
CallsAreSound =
    (m : Module) (vs : List Var) (function : ℕ) (f : Function) (args : Exprs) (e : Expr)
    → slice_get m.functions function ≡ Some f → Calls function f.of args e → IsFit m vs e

-- A call of a function that a module's type declares.
abbrev pub ThroughAreSound : Type 0
ThroughAreSound =
    (m : Module) (vs : List Var) (instance : Expr) (interface function : ℕ) (i : Interface) (s : Signature) (args : Exprs) (e : Expr)
    → slice_get m.interfaces interface ≡ Some i → slice_get i.functions function ≡ Some s
    → CallsThrough m.system instance interface function s.of args e → IsFit m vs e

abbrev pub ConstructsAreSound : Type 0
ConstructsAreSound =
    (m : Module) (vs : List Var) (adt : ℕ) (variant : Option ℕ) (args : Exprs) (e : Expr)
    → Constructs m.adts adt variant args e → IsFit m vs e

-- A print through a value of the module's `Sys`.
abbrev pub PrintsAreSound : Type 0
PrintsAreSound =
    (m : Module) (vs : List Var) (fd : Option ℕ) (output : Output) (instance : Expr) (text : List ℕ) (args : Exprs) (e : Expr)
    → IsSystem m (type_of instance) → Prints fd output instance text args e → IsFit m vs e
