-- The typed module of a source (Limbo Language Reference, modules).
use Rattle.std.specs.Prelude.{◌≡◌, ℕ, List, length}
use Rattle.limbo_top.specs.Tops.{Placed}
use Rattle.limbo_entries.specs.Entries.{Entry}
use Rattle.limbo_headers.specs.declared.header.Heading.{Heading}
use Rattle.limbo_source_adts.specs.Definitions.{AreHeaded}
use Rattle.limbo_scope.specs.Scopes.{Scope}
use Rattle.limbo_context.specs.Context.{Context}
use Rattle.limbo_typed.specs.Typed.{Function, Module}
use Rattle.limbo_source_context.specs.SourceContext.{IsContext, AreOutermost}
use Rattle.limbo_source_context.specs.Beginning.{AreBeginnings, AllBeginSo}
use Rattle.limbo_declared_types.specs.Permitted.{AllPermitted}
use Rattle.limbo_stmt_values.specs.limbo_stating.Functions.{Definition, AreFunctions}
use Rattle.limbo_functions.specs.limbo_stated_sound.Named.{IsMadeOf}
use Rattle.limbo_modules.specs.Definitions.{AreDefinitions}
use Rattle.limbo_modules.specs.Declaring.{AreDeclared}

-- What is known around the functions: the lists to which names lead, and the scopes in which bodies begin. Each declaration has the types
-- that it writes, and these are permitted; each variable begins with a constant of its type.
pub record IsAround (es : List Entry) (m : ℕ) (name : List ℕ) (c : Context) (scopes : List Scope) : Type 0 where
  pub context : IsContext es m name c
  pub outermost : AreOutermost es m scopes
  pub headings : List Heading
  pub many : length headings ≡ length es
  pub headed : AreHeaded es m headings
  pub permitted : AllPermitted es m c
  pub begin : AllBeginSo es m c.globals

-- A source that implements the module of this name, and with all that it includes has this at its top level and these declarations, is this
-- typed module: each function is the typed one that its definition is.
pub record IsModule (name : List ℕ) (tops : List Placed) (es : List Entry) (m : ℕ) (checked : Module) : Type 0 where
  pub context : Context
  pub scopes : List Scope
  pub around : IsAround es m name context scopes
  pub definitions : List Definition
  pub are_definitions : AreDefinitions es m tops (length context.functions) definitions
  pub behind : Context
  pub functions : AreFunctions name scopes context.functions definitions context checked.functions behind
  pub declared : AreDeclared es m context.functions checked.declared
  pub initials : AreBeginnings es m checked.initials
  pub named : checked.name ≡ name
  pub made : IsMadeOf checked behind checked.functions
