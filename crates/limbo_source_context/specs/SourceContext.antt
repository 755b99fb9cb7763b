-- What is known in the bodies of a source's functions (Limbo Language Reference, declarations, scope and modules).
use Rattle.std.specs.Prelude.{◌≡◌, ◌<◌, ℕ, List, Option, None, Some, Bool, true, length}
use Rattle.limbo_layout.specs.Adts.{Def}
use Rattle.limbo_layout.specs.Layout.{Fits}
use Rattle.limbo_types.specs.Types.{Adt}
use Rattle.limbo_tree.specs.Exprs.{Expr}
use Rattle.limbo_tree.specs.Decls.{FnType, are_params}
use Rattle.limbo_constants.specs.declared.constant.Constant as source
use Rattle.limbo_declarations.specs.Rows as rows
use Rattle.limbo_entries.specs.declared.entry.Entry as code_entry
use Rattle.limbo_entries.specs.Entries.{Entry, IsEntry}
use Rattle.limbo_entries.specs.View.{entries_of}
use Rattle.limbo_constant_values.specs.Values.{Comes}
use Rattle.limbo_type_names.specs.declared.fault.TypesFault.TheVariants as types_fault
use Rattle.limbo_headers.specs.Refusals.{FailsHeading}
use Rattle.limbo_source_adts.specs.Definitions.{AdtsAre}
use Rattle.limbo_source_adts.specs.Modules.{modules_of}
use Rattle.limbo_scope.specs.declared.meaning.Meaning.{Meaning}
use Rattle.limbo_scope.specs.Scopes.{Scope}
use Rattle.limbo_context.specs.Context.{Context}
use Rattle.limbo_meanings.specs.declared.kind.Kind.TheVariants as kind
use Rattle.limbo_meanings.specs.Kinds.{place, has_kind}
use Rattle.limbo_meanings.specs.Meanings.{AreMeanings}
use Rattle.limbo_meanings.specs.Names.{outermost_scopes}
use Rattle.limbo_exports.specs.System.{IsFirst, HasNone, is_system, is_fd, module_number, adt_number}
use Rattle.limbo_exports.specs.Exports.{AreExports}
use Rattle.limbo_outline.specs.Outline.{ConstantsAre, TypesAre, GlobalsAre, FunctionsAre, ExceptionsAre, ScopesAre}
use Rattle.limbo_outline_members.specs.Members.{InterfacesAre}
use Rattle.limbo_imports.specs.Imports.{ImportsAre, IsMissing}
use Rattle.limbo_source_context.specs.Beginning.{BeginsOtherwise}
use Rattle.limbo_source_context.specs.declared.fault.ContextFault.{ContextFault}
use Rattle.limbo_source_context.specs.declared.fault.ContextFault.TheVariants as fault

-- The first declaration for which the test holds, where there is one.
abbrev pub IsFound : (Entry → Bool) → List Entry → Option ℕ → Type 0
IsFound test es None = HasNone test es
IsFound test es (Some k) = IsFirst test es k

-- What the names of all declarations mean in the implemented module, which has the number m, and to those who come through a module;
-- and which declarations are the built-in module and its adt of file descriptors.
pub record AreMeant (es : List Entry) (m : ℕ) (means others : List (Option Meaning)) (system fd : Option ℕ) : Type 0 where
  pub system_is : IsFound is_system es system
  pub fd_is : IsFound (is_fd system) es fd
  pub meanings : AreMeanings es m means
  pub exports : AreExports es m system others

-- The lists to which names lead: each of them has what is told of the declarations of its kind, in the order of the table.
pub record IsContext (es : List Entry) (m : ℕ) (module_name : List ℕ) (c : Context) : Type 0 where
  pub means : List (Option Meaning)
  pub others : List (Option Meaning)
  pub system : Option ℕ
  pub fd : Option ℕ
  pub meant : AreMeant es m means others system fd
  pub adts : AdtsAre es m 0 es c.adts
  pub modules : c.modules ≡ modules_of es
  pub members : ScopesAre es m kind.Adt means c.members
  pub interfaces : InterfacesAre es m system c.interfaces
  pub exports : ScopesAre es m kind.Module others c.exports
  pub globals : GlobalsAre es m c.globals
  pub constants : ConstantsAre es m c.constants
  pub types : TypesAre es m c.types
  pub functions : FunctionsAre es m c.functions
  pub imports : ImportsAre es m means others c.imports
  pub exceptions : ExceptionsAre es m module_name c.exceptions
  pub is_system : c.system ≡ module_number means system
  pub is_fd : c.fd ≡ adt_number means fd

-- Each adt has a layout.
abbrev pub AllFit : List Def → Type 0
AllFit defs = (n : ℕ) → n < length defs → Fits defs (Adt n)

-- The scopes in which a body begins: the members of the implemented module, and in them the top level.
abbrev pub AreOutermost : List Entry → (m : ℕ) → List Scope → Type 0
AreOutermost es m scopes = (means : List (Option Meaning)) × AreMeanings es m means × (scopes ≡ outermost_scopes m means es)

-- ---- refusals

-- The declaration of this number is a variable of the module, by a value that is no constant, as `nil`: it has no type.
pub record HasNoType (es : List Entry) (m : ℕ) (k : ℕ) : Type 0 where
  pub entry : Entry
  pub expr : Expr
  pub there : IsEntry es k entry
  pub global : has_kind es m (place kind.Global) entry ≡ true
  pub is : entry.row.means ≡ rows.Inferred expr
  pub no_constant : (c : source.Constant) → Comes es m entry.within None expr c → ⊥

-- The declaration of this number imports a name from what is no module.
pub record HasNoImport (es : List Entry) (m : ℕ) (k : ℕ) : Type 0 where
  pub means : List (Option Meaning)
  pub others : List (Option Meaning)
  pub system : Option ℕ
  pub fd : Option ℕ
  pub meant : AreMeant es m means others system fd
  pub missing : IsMissing es m means others k

-- There is an adt of this number, and it has no layout.
pub record HasNoLayout (es : List Entry) (m : ℕ) (n : ℕ) : Type 0 where
  pub defs : List Def
  pub adts : AdtsAre es m 0 es defs
  pub there : n < length defs
  pub unfit : Fits defs (Adt n) → ⊥

-- Why a source has no context.
abbrev pub Fails : List code_entry.Entry → (m : ℕ) → ContextFault → Type 0
Fails all m fault.NoMemory = Unit {0}
Fails all m (fault.Unknown k at) = FailsHeading all m (types_fault.Unknown k at)
Fails all m (fault.NotAType k at) = FailsHeading all m (types_fault.NotAType k at)
Fails all m (fault.TooLarge n) = HasNoLayout (entries_of all) m n
Fails all m (fault.NoType k) = HasNoType (entries_of all) m k
Fails all m (fault.NotThere k) = HasNoImport (entries_of all) m k
Fails all m (fault.BadInitial k) = BeginsOtherwise (entries_of all) m k

-- The parameters of a function that is declared are written as the grammar has them: before each type stands a name, or `nil`.
abbrev pub HaveParams : List Entry → Type 0
HaveParams es = (k : ℕ) (e : Entry) (f : FnType) → IsEntry es k e → e.row.means ≡ rows.Function f → are_params f.params ≡ true
