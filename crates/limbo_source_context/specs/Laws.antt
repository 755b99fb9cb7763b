-- What holds of the context that a source gives.
use Rattle.std.specs.Prelude.{◌≡◌, ◌≢◌, ℕ, List, length}
use Rattle.limbo_typed.specs.declared.module.Initial.{Initial}
use Rattle.limbo_entries.specs.declared.entry.Entry as code_entry
use Rattle.limbo_entries.specs.Entries.{Entry, AreOnce}
use Rattle.limbo_entries.specs.View.{entries_of}
use Rattle.limbo_headers.specs.declared.header.Heading.{Heading}
use Rattle.limbo_source_adts.specs.Definitions.{AreHeaded}
use Rattle.limbo_context.specs.Context.{Context}
use Rattle.limbo_source_context.specs.SourceContext.{IsContext, AllFit, HaveParams, Fails}
use Rattle.limbo_source_context.specs.Beginning.{AreBeginnings, AllBeginSo}
use Rattle.limbo_source_context.specs.declared.fault.ContextFault.{ContextFault}
use Rattle.limbo_source_context.specs.declared.fault.ContextFault.TheVariants.{NoMemory}

-- It is one at most, where each scope has each name once.
abbrev pub OneContext : Type 0
OneContext =
    (es : List Entry) (m : ℕ) (module_name : List ℕ) (c d : Context) → AreOnce es
    → IsContext es m module_name c → IsContext es m module_name d → c ≡ d

-- The variables of its module begin with one list of constants at most.
abbrev pub OneBeginnings : Type 0
OneBeginnings =
    (es : List Entry) (m : ℕ) (xs ys : List Initial) → AreOnce es → AreBeginnings es m xs → AreBeginnings es m ys → xs ≡ ys

-- A source that is refused by another cause than want of memory has no context with which all is right: whose variables begin with
-- values of their types, whose adts have layouts, and beside which the types are told with which each declaration is declared. Its
-- parameters are written as the grammar has them: what stands in no list of arguments could fail and be told all the same.
abbrev pub FailsOrContext : Type 0
FailsOrContext =
    (all : List code_entry.Entry) (m : ℕ) (module_name : List ℕ) (e : ContextFault) (c : Context) (headings : List Heading)
    → AreOnce (entries_of all) → HaveParams (entries_of all) → e ≢ NoMemory → Fails all m e
    → IsContext (entries_of all) m module_name c → AllBeginSo (entries_of all) m c.globals → AreHeaded (entries_of all) m headings
    → length headings ≡ length (entries_of all) → AllFit c.adts → ⊥
