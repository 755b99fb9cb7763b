-- Why a source is no typed module (Limbo Language Reference, declarations, types, functions and statements).
use Rattle.std.specs.Prelude.{◌≡◌, ◌<◌, ℕ, List, length, Option, None, Some}
use Rattle.limbo_top.specs.Tops.{Placed}
use Rattle.limbo_entries.specs.declared.entry.Entry as code_entry
use Rattle.limbo_entries.specs.Entries.{Entry}
use Rattle.limbo_entries.specs.View.{entries_of}
use Rattle.limbo_type_names.specs.declared.fault.TypesFault.{TypesFault}
use Rattle.limbo_type_names.specs.declared.fault.TypesFault.TheVariants as types
use Rattle.limbo_type_names.specs.Refusals.{FailsAt}
use Rattle.limbo_scope.specs.Scopes.{Scope}
use Rattle.limbo_context.specs.Context.{Context}
use Rattle.limbo_refusals.specs.Refusals.{Refusal, TypeTooLarge}
use Rattle.limbo_causes.specs.Causes.{Cause, Unknown, Refused, nothing}
use Rattle.limbo_source_context.specs.SourceContext as source
use Rattle.limbo_source_context.specs.SourceContext.{IsContext}
use Rattle.limbo_source_context.specs.declared.fault.ContextFault.{ContextFault}
use Rattle.limbo_source_context.specs.declared.fault.ContextFault.TheVariants as fault
use Rattle.limbo_declared_types.specs.Permitted.{IsForbiddenAt}
use Rattle.limbo_stmt_values.specs.limbo_stating.Reasons.{Reason, ByPart}
use Rattle.limbo_stmt_values.specs.limbo_stating.Functions.{Definition, FailsSomeFunction}
use Rattle.limbo_modules.specs.Definitions.{HasNone, AreDefinitions}
use Rattle.limbo_modules.specs.Modules.{IsAround}

-- the cause of what is declared by `type`: want of memory tells none
abbrev pub type_cause : TypesFault → Option Cause
type_cause types.NoMemory = None
type_cause (types.Unknown k at) = Some Unknown
type_cause (types.NotAType k at) = Some nothing
type_cause (types.TypeTooLarge k) = Some (Refused TypeTooLarge)

-- the cause of what is known around the functions
abbrev pub context_cause : ContextFault → Option Cause
context_cause fault.NoMemory = None
context_cause (fault.Unknown k at) = Some Unknown
context_cause (fault.NotAType k at) = Some nothing
context_cause (fault.TooLarge n) = Some (Refused TypeTooLarge)
context_cause (fault.NoType k) = Some nothing
context_cause (fault.NotThere k) = Some nothing
context_cause (fault.BadInitial k) = Some nothing

-- A name by `type` stands for no type; what is known around the functions isn't there; a type isn't permitted; a function isn't defined, or
-- one of the functions fails.
pub data FailsModule (name : List ℕ) (tops : List Placed) (es : List Entry) (m : ℕ) : Reason → Type 0 where
  by_type : (all : List code_entry.Entry) (f : TypesFault) (k : Cause) → entries_of all ≡ es → FailsAt all m f → type_cause f ≡ Some k
      → FailsModule name tops es m (ByPart k)
  by_context : (all : List code_entry.Entry) (f : ContextFault) (k : Cause) → entries_of all ≡ es → source.Fails all m f
      → context_cause f ≡ Some k → FailsModule name tops es m (ByPart k)
  forbidden : (c : Context) (n : ℕ) (r : Refusal) → IsContext es m name c → IsForbiddenAt es m c n r
      → FailsModule name tops es m (ByPart (Refused r))
  undefined : (c : Context) (n : ℕ) → IsContext es m name c → n < length c.functions → HasNone es m tops n
      → FailsModule name tops es m (ByPart Unknown)
  in_function : (c : Context) (scopes : List Scope) (ds : List Definition) (k : Reason) → IsAround es m name c scopes
      → AreDefinitions es m tops (length c.functions) ds → FailsSomeFunction name scopes c.functions ds c k
      → FailsModule name tops es m k
