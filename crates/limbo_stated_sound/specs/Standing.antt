-- A body of a function of a module has come to a point, and goes on from there.
use Rattle.std.specs.Prelude.{◌≡◌, ◌<◌, ◌≤◌, ℕ, List, length, Some, slice_get}
use Rattle.limbo_typed.specs.Typed.{Function, Module}
use Rattle.limbo_typed.specs.Sound.{Each, IsNamed, NamesAll}
use Rattle.limbo_scope.specs.declared.meaning.Meaning.TheVariants as meaning
use Rattle.limbo_scope.specs.Scopes.{Scope, seen}
use Rattle.limbo_context.specs.declared.context.Imported.{Imported}
use Rattle.limbo_context.specs.declared.context.Origin.TheVariants as origin
use Rattle.limbo_context.specs.Context.{Context}
use Rattle.limbo_stating.specs.limbo_local.Points.{Point}
use Rattle.limbo_stating.specs.Around.{Around}
use Rattle.limbo_typed_sound.specs.Describing.{Begins, HasTypes, Describes, IsWell}

-- ---- modules

-- The types that a module's lists speak of are named, those of the values of exceptions too.
pub record HasAllTypes (m : Module) : Type 0 where
  pub types : HasTypes m
  pub exceptions : Each (λ e. NamesAll m e.values) m.exceptions

-- The module has what the lists of a context have to which bodies add, and maybe more.
pub record Covers (m : Module) (c : Context) : Type 0 where
  pub adts : Begins c.adts m.adts
  pub modules : length c.modules ≤ length m.interfaces
  pub interfaces : Begins c.interfaces m.interfaces
  pub exceptions : Begins c.exceptions m.exceptions

-- ---- points

-- A name that is seen as an exception's is that of one of the context's.
abbrev pub RaisesKnown : Context → List Scope → Type 0
RaisesKnown c scopes = (name : List ℕ) (n : ℕ) → seen name scopes ≡ Some (meaning.Exception n) → n < length c.exceptions

-- The context describes the module, the body is well in it, and names of exceptions are known.
pub record StandsIn (m : Module) (p : Point) : Type 0 where
  pub describes : Describes m p.context
  pub well : IsWell m p.context p.body
  pub raises : RaisesKnown p.context p.body.scopes

-- ---- statements

-- What stands around a statement is that of the function: its answer, and a handler that it has.
pub record IsAround (m : Module) (f : Function) (v : Around) : Type 0 where
  pub answer : f.of.answer ≡ v.answer
  pub named : IsNamed m v.answer
  pub caught : (n : ℕ) → v.caught ≡ Some n → n < f.catches

-- The function has what there is where a statement leads: its variables begin with those, and it has as many handlers, or more.
pub record Reaches (f : Function) (q : Point) : Type 0 where
  pub variables : Begins q.body.variables f.variables
  pub catches : q.catches ≤ f.catches

-- ---- functions

-- The scopes around the functions of a module: an imported name is one of the context's, and comes through no variable of a function;
-- a name of an exception is known.
pub record IsOutside (c : Context) (scopes : List Scope) : Type 0 where
  pub known : (name : List ℕ) (n : ℕ) → seen name scopes ≡ Some (meaning.Import n) → n < length c.imports
  pub imported : (name : List ℕ) (n x : ℕ) (i : Imported) → seen name scopes ≡ Some (meaning.Import n)
      → slice_get c.imports n ≡ Some i → i.origin ≡ origin.Local x → ⊥
  pub raises : RaisesKnown c scopes

-- Before a function is checked: what the module has, and what its functions lead to.
pub record Opens (m : Module) (scopes : List Scope) (c : Context) : Type 0 where
  pub describes : Describes m c
  pub outside : IsOutside c scopes
