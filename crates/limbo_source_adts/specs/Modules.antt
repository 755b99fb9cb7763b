-- The names of the module types of a source.
use Rattle.std.specs.Prelude.{if◌then◌else◌, List, [], ◌∷◌, ◌++◌, ℕ}
use Rattle.limbo_entries.specs.Entries.{Entry}
use Rattle.limbo_naming.specs.Naming.{is_module}

-- A module's place is the number by which types name it.
abbrev pub modules_of : List Entry → List (List ℕ)
modules_of [] = []
modules_of (e ∷ es) = (if is_module e.row.means then e.row.name ∷ [] else []) ++ modules_of es
