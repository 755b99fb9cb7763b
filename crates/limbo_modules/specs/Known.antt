-- What is known around the functions, as the code has it.
use Rattle.std.specs.Prelude.{◌≡◌, ℕ, List, map}
use Rattle.limbo_entries.specs.Entries.{Entry}
use Rattle.limbo_context.specs.View.{view_context}
use Rattle.limbo_meanings.specs.Meanings.{AreMeanings}
use Rattle.limbo_source_context.specs.Beginning.{AreBeginnings}
use Rattle.limbo_source_context.specs.declared.source.SourceContext as code_known
use Rattle.limbo_modules.specs.Modules.{IsAround}

pub record IsKnown (es : List Entry) (m : ℕ) (name : List ℕ) (k : code_known.SourceContext) : Type 0 where
  pub around : IsAround es m name (view_context k.context) k.scopes
  pub meanings : AreMeanings es m k.meanings.items
  pub initials : AreBeginnings es m k.initials.items
