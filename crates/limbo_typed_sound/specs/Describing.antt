-- A context describes a module, and bodies are well in it.
use Rattle.std.specs.Prelude.{ℕ, ◌≡◌, ◌<◌, ◌≤◌, List, length, Some, slice_get}
use Rattle.limbo_types.specs.Types as ty
use Rattle.limbo_types.specs.Types.{Ty, FnTy}
use Rattle.limbo_layout.specs.Adts.{Def, Has, field_types}
use Rattle.limbo_typed.specs.Typed.{Var, Function, Module}
use Rattle.limbo_typed.specs.Fitting.{IsConstant}
use Rattle.limbo_typed.specs.Sound.{Each, HasVariable, IsSettled, IsNamed, NamesAll, SoundSignature}
use Rattle.limbo_scope.specs.declared.meaning.Meaning.TheVariants as meaning
use Rattle.limbo_scope.specs.Scopes.{seen}
use Rattle.limbo_context.specs.declared.context.Imported.{Imported}
use Rattle.limbo_context.specs.declared.context.Origin.TheVariants as origin
use Rattle.limbo_context.specs.Context.{Context, Body, Callee}

-- The second list begins as the first: what has a number in the first has it in the second.
abbrev pub Begins : {A : Type 0} → List A → List A → Type 0
Begins {A} xs ys = (n : ℕ) (x : A) → slice_get xs n ≡ Some x → slice_get ys n ≡ Some x

-- ---- the types of a module

abbrev pub IsNamedFunction : Module → FnTy → Type 0
IsNamedFunction m f = NamesAll m f.args × IsNamed m f.answer

-- The types that a module's lists speak of are named: of fields, of globals, and of what functions take and give.
pub record HasTypes (m : Module) : Type 0 where
  pub fields : (n : ℕ) (d : Def) (t : Ty) → slice_get m.adts n ≡ Some d → Has (field_types d) t → IsNamed m t
  pub globals : Each (λ v. IsNamed m v.ty) m.globals
  pub functions : Each (λ f. IsNamedFunction m f.of) m.functions
  pub interfaces : Each (λ i. Each (SoundSignature m) i.functions) m.interfaces

-- ---- the context

-- The module has a function of this number and this type.
abbrev pub HasFunctionOf : Module → ℕ → FnTy → Type 0
HasFunctionOf m n of = (f : Function) × (slice_get m.functions n ≡ Some f) × (f.of ≡ of)

-- What is imported through a variable of the module is a member of the module type that the variable has.
abbrev pub IsThrough : List Var → Imported → Type 0
IsThrough globals i = (x : ℕ) (v : Var) → i.origin ≡ origin.Global x → slice_get globals x ≡ Some v → v.ty ≡ ty.Module i.interface

-- What the numbers of a context lead to, they lead to in the module, which may have more: what bodies declare is added to its lists.
pub record Describes (m : Module) (c : Context) : Type 0 where
  pub adts : Begins c.adts m.adts
  pub modules : length c.modules ≤ length m.interfaces
  pub interfaces : Begins c.interfaces m.interfaces
  pub globals : Begins c.globals m.globals
  pub functions : (n : ℕ) (f : Callee) → slice_get c.functions n ≡ Some f → HasFunctionOf m n f.of
  pub system : c.system ≡ m.system
  pub fd : (n : ℕ) → c.fd ≡ Some n → n < length m.adts
  pub constants : Each (λ v. IsConstant v.ty v.value) c.constants
  pub types : Each IsSettled c.types
  pub imports : Each (IsThrough c.globals) c.imports

-- ---- bodies

-- The variables of a body have types of the module, and a name that is imported through a variable of the function is a member of the
-- module type that the variable has.
pub record IsWell (m : Module) (c : Context) (b : Body) : Type 0 where
  pub named : Each (λ v. IsNamed m v.ty) b.variables
  pub imported : (name : List ℕ) (n x : ℕ) (i : Imported) → seen name b.scopes ≡ Some (meaning.Import n)
      → slice_get c.imports n ≡ Some i → i.origin ≡ origin.Local x → HasVariable b.variables x (ty.Module i.interface)
