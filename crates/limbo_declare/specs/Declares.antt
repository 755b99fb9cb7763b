-- What a source declares, with the texts that it includes (Limbo Language Reference, declarations, modules and scope).
use Rattle.std.specs.Prelude.{◌≡◌, ℕ, List, Option, None, Some, ◌++◌}
use Rattle.std.specs.List.{Contains}
use Rattle.limbo_tree.specs.Decls.{Members}
use Rattle.limbo_tree.specs.Sources as sources
use Rattle.limbo_declarations.specs.Rows.{Row, Module, rows_of_members}
use Rattle.limbo_declarations.specs.Scopes.{DeclIsOnce, FnIsOnce}
use Rattle.limbo_top.specs.Tops.{Placed, Definition, declared, definitions, DeclaresModule, Alone}
use Rattle.limbo_top.specs.TopLevel.{IsTopLevel, HasNoModule, DeclaresTwice}
use Rattle.limbo_entries.specs.Entries.{Entry, IsEntry, IsTable, AreOnce, HasTwice}
use Rattle.limbo_defined.specs.Defined.{IsDeclared, IsNested, IsDefined, AllDefined, AllKnown, AreDefinedOnce}
use Rattle.limbo_unknown.specs.Lacking.{HasUnknown}
use Rattle.limbo_constant_values.specs.Values.{AllHaveValues, AllInitial, IsNotConstant}
use Rattle.limbo_declare.specs.declared.fault.NameFault.{NameFault}
use Rattle.limbo_declare.specs.declared.fault.NameFault.TheVariants.{NoMemory, Twice, Unknown, NoModule, NotConstant}

-- The implemented module, and the functions that declare themselves.
pub record Parts (implements : List ℕ) (tops : List Placed) : Type 0 where
  pub path : List ℕ
  pub members : Members
  pub alone : List Row
  pub is_module : DeclaresModule (declared tops) implements path members
  pub are_alone : Alone (rows_of_members path members) (definitions tops) alone

-- The names of the top level: what is declared, the module's members, and the functions that declare themselves.
abbrev pub names_of : {implements : List ℕ} {tops : List Placed} → Parts implements tops → List Row
names_of {tops = tops} p = declared tops ++ rows_of_members p.path p.members ++ p.alone

-- What has a number of its own: all of them but the members, which stand inside the module.
abbrev pub numbered : {implements : List ℕ} {tops : List Placed} → Parts implements tops → List Row
numbered {tops = tops} p = declared tops ++ p.alone

-- These are all declarations by number, each scope with each name once, and `m` is the number of the implemented module.
pub record AreNumbered {implements : List ℕ} {tops : List Placed} (p : Parts implements tops) (es : List Entry) (m : ℕ) : Type 0 where
  pub table : IsTable (numbered p) es
  pub once : AreOnce es
  pub is_module : IsEntry es m (record { within = None; row = record { path = p.path; name = implements; means = Module p.members } })

-- The scopes inside a declaration, and a function's parameters where it is defined, declare each name once.
abbrev pub IsOnceIn : sources.Top → Type 0
IsOnceIn (sources.Declared d) = DeclIsOnce d
IsOnceIn (sources.Defined name part of body) = FnIsOnce of
IsOnceIn (sources.Include path) = Unit {0}

abbrev pub AreOnceInside : List Placed → Type 0
AreOnceInside tops = (s : Placed) → Contains tops s → IsOnceIn s.top

-- A source that implements the module of this name, with what stands at its top level, declares this: `es` are its declarations by
-- number, and `m` is the number of the implemented module.
pub record Declares (implements : List ℕ) (tops : List Placed) (es : List Entry) (m : ℕ) : Type 0 where
  pub parts : Parts implements tops
  pub top : IsTopLevel implements tops (names_of parts)
  pub once_inside : AreOnceInside tops
  pub numbers : AreNumbered parts es m
  pub defined : AllDefined (rows_of_members parts.path parts.members) (names_of parts) (definitions tops)
  pub known : AllKnown (rows_of_members parts.path parts.members) (names_of parts) (definitions tops)
  pub defined_once : AreDefinedOnce (definitions tops)
  pub names : HasUnknown es m → ⊥
  pub have_values : AllHaveValues es m
  pub initial : AllInitial es m

-- ---- refusals

-- A name is declared twice in one scope, or a function is defined twice.
pub data FailsTwice (implements : List ℕ) (tops : List Placed) : Type 0 where
  at_top : DeclaresTwice implements tops → FailsTwice implements tops
  in_scope : (s : Placed) → Contains tops s → (IsOnceIn s.top → ⊥) → FailsTwice implements tops
  inside : (p : Parts implements tops) → HasTwice (numbered p) → FailsTwice implements tops
  defined : (AreDefinedOnce (definitions tops) → ⊥) → FailsTwice implements tops

-- A declared function isn't defined, a definition's adt doesn't declare it, or a name that is written isn't there.
pub data FailsUnknown (implements : List ℕ) (tops : List Placed) : Type 0 where
  undefined : (p : Parts implements tops) (path name : List ℕ) (part : Option (List ℕ))
      → IsDeclared (rows_of_members p.path p.members) (names_of p) path name part → (IsDefined (definitions tops) name part → ⊥)
      → FailsUnknown implements tops
  nested : (p : Parts implements tops) (path name : List ℕ) → IsNested (names_of p) path name → FailsUnknown implements tops
  undeclared : (p : Parts implements tops) (d : Definition) (function : List ℕ) → Contains (definitions tops) d → d.part ≡ Some function
      → ((path : List ℕ) → IsDeclared (rows_of_members p.path p.members) (names_of p) path d.name (Some function) → ⊥)
      → FailsUnknown implements tops
  not_there : (p : Parts implements tops) (es : List Entry) (m : ℕ) → AreNumbered p es m → HasUnknown es m
      → FailsUnknown implements tops

-- What must be constant isn't.
pub record FailsConstant (implements : List ℕ) (tops : List Placed) : Type 0 where
  pub parts : Parts implements tops
  pub entries : List Entry
  pub implemented : ℕ
  pub number : ℕ
  pub numbers : AreNumbered parts entries implemented
  pub bad : IsNotConstant entries implemented number

-- What each refusal says of a source.
abbrev pub Fails : (implements : List ℕ) → List Placed → NameFault → Type 0
Fails implements tops NoMemory = Unit {0}
Fails implements tops (Twice path at) = FailsTwice implements tops
Fails implements tops (Unknown path at) = FailsUnknown implements tops
Fails implements tops NoModule = HasNoModule implements tops
Fails implements tops (NotConstant path at) = FailsConstant implements tops

-- What each refusal says of a table of declarations.
abbrev pub FailsTable : List Entry → (m : ℕ) → NameFault → Type 0
FailsTable es m NoMemory = Unit {0}
FailsTable es m (Twice path at) = ⊥
FailsTable es m (Unknown path at) = HasUnknown es m
FailsTable es m NoModule = ⊥
FailsTable es m (NotConstant path at) = (k : ℕ) × IsNotConstant es m k
