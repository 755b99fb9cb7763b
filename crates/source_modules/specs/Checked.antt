-- The typed module that a source is, with the texts that it includes, by what the files tell (Limbo Language Reference, modules, include).
use Rattle.std.specs.Prelude.{ℕ, List}
use Rattle.inf_ports.specs.Outside.{Told}
use Rattle.limbo_tree.specs.Sources.{Source}
use Rattle.limbo_top.specs.Tops.{Placed}
use Rattle.limbo_entries.specs.Entries.{Entry}
use Rattle.limbo_declare.specs.Declares.{Declares}
use Rattle.limbo_typed.specs.Typed.{Module}
use Rattle.limbo_modules.specs.Modules.{IsModule}
use Rattle.limbo_modules.specs.First.{DeclaresInit}
use Rattle.source_names.specs.Declares.{HasRow}

-- The tree of the source at this path is this typed module: its names and types hold, and those of the texts that it includes. `es` are all
-- declarations by number, and `m` is the number of the implemented module.
pub record IsChecked (told : Told) (path : List ℕ) (tree : Source) (es : List Entry) (m : ℕ) (checked : Module) : Type 0 where
  pub name : List ℕ
  pub row : List Placed
  pub has : HasRow told path tree name row
  pub declares : Declares name row es m
  pub is : IsModule name row es m checked

-- The same, and it declares `init` as a first module has to.
pub record IsFirst (told : Told) (path : List ℕ) (tree : Source) (checked : Module) : Type 0 where
  pub entries : List Entry
  pub implemented : ℕ
  pub is : IsChecked told path tree entries implemented checked
  pub begins : DeclaresInit entries implemented checked

-- The same, and it doesn't.
pub record IsOther (told : Told) (path : List ℕ) (tree : Source) (checked : Module) : Type 0 where
  pub entries : List Entry
  pub implemented : ℕ
  pub is : IsChecked told path tree entries implemented checked
  pub begins_not : DeclaresInit entries implemented checked → ⊥
