-- The adts of a module.
use Rattle.std.specs.Prelude.{ℕ, List}
use Rattle.limbo_layout.specs.declared.def.AdtDef as code_def
use Rattle.limbo_layout.specs.Adts.{Def}
use Rattle.limbo_layout.specs.View.{view_defs}

-- Adts by their numbers, and the names of modules by theirs.
pub record Table : Type 0 where
  pub adts : List code_def.AdtDef
  pub modules : List (List ℕ)

abbrev pub defs_of : Table → List Def
defs_of t = view_defs t.adts
