-- What holds of elements, slices, targets, parts, references and steps.
use Rattle.std.specs.Prelude.{ℕ, ◌≡◌, List}
use Rattle.limbo_types.specs.Types.{Int}
use Rattle.limbo_layout.specs.Adts.{Def}
use Rattle.limbo_tree.specs.declared.operators.PostfixOp.{PostfixOp}
use Rattle.limbo_typed.specs.declared.operation.Given.{Given}
use Rattle.limbo_typed.specs.Typed.{Expr, Optional, Var, Module}
use Rattle.limbo_typed.specs.Sound.{type_of, IsNamed, SoundExpr, SoundOptional}
use Rattle.limbo_places.specs.Elements.{Indexes}
use Rattle.limbo_places.specs.Slices.{Slices}
use Rattle.limbo_places.specs.Targets.{Dereferences, Selects, Refers}
use Rattle.limbo_places.specs.Steps.{Steps}

-- Each is one expression at most.
abbrev pub OneIndex : Type 0
OneIndex = (base index e f : Expr) → Indexes base index e → Indexes base index f → e ≡ f

abbrev pub OneSlice : Type 0
OneSlice = (base : Expr) (from to : Optional) (e f : Expr) → Slices base from to e → Slices base from to f → e ≡ f

abbrev pub OneTarget : Type 0
OneTarget = (reference e f : Expr) → Dereferences reference e → Dereferences reference f → e ≡ f

abbrev pub OnePart : Type 0
OnePart = (defs : List Def) (name : List ℕ) (base e f : Expr) → Selects defs name base e → Selects defs name base f → e ≡ f

abbrev pub OneReference : Type 0
OneReference = (value e f : Expr) → Refers value e → Refers value f → e ≡ f

abbrev pub OneStep : Type 0
OneStep = (op : PostfixOp) (given : Given) (e f g : Expr) → Steps op given e f → Steps op given e g → f ≡ g

-- Each is sound where its parts are, in a module that has its type.
abbrev pub IndexesAreSound : Type 0
IndexesAreSound = (m : Module) (vs : List Var) (base index e : Expr) → Indexes base index e → SoundExpr m vs base
    → SoundExpr m vs index → IsNamed m (type_of e) → SoundExpr m vs e

abbrev pub SlicesAreSound : Type 0
SlicesAreSound = (m : Module) (vs : List Var) (base : Expr) (from to : Optional) (e : Expr) → Slices base from to e
    → SoundExpr m vs base → SoundOptional m vs from Int → SoundOptional m vs to Int → SoundExpr m vs e

abbrev pub TargetsAreSound : Type 0
TargetsAreSound = (m : Module) (vs : List Var) (reference e : Expr) → Dereferences reference e → SoundExpr m vs reference
    → IsNamed m (type_of e) → SoundExpr m vs e

abbrev pub PartsAreSound : Type 0
PartsAreSound = (m : Module) (vs : List Var) (name : List ℕ) (base e : Expr) → Selects m.adts name base e → SoundExpr m vs base
    → IsNamed m (type_of e) → SoundExpr m vs e

abbrev pub ReferencesAreSound : Type 0
ReferencesAreSound = (m : Module) (vs : List Var) (value e : Expr) → Refers value e → SoundExpr m vs value → IsNamed m (type_of e)
    → SoundExpr m vs e

abbrev pub StepsAreSound : Type 0
StepsAreSound = (m : Module) (vs : List Var) (op : PostfixOp) (given : Given) (e f : Expr) → Steps op given e f → SoundExpr m vs e
    → SoundExpr m vs f
