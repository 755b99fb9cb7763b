-- The definitions of functions, without where they stand.
use Rattle.std.specs.Prelude.{ℕ, List, map, Option, None, Some}
use Rattle.std.specs.Borrow.{Bor}
use Rattle.limbo_tree.specs.declared.source.Function as code_function
use Rattle.limbo_tree.specs.View.{name_of, view_fn, view_block}
use Rattle.limbo_stmt_values.specs.limbo_stating.Functions.{Definition}

-- The name of a function itself: that of an adt's function stands behind the adt's.
abbrev pub own_name : (name : List ℕ) → (part : Option (List ℕ)) → List ℕ
own_name name None = name
own_name name (Some part) = part

abbrev pub definition_of : code_function.Function → Definition
definition_of f = record { name = own_name f.name.text (name_of f.part); of = view_fn f.of; block = view_block f.body }

abbrev pub definitions_of : List (Bor code_function.Function) → List Definition
definitions_of fs = map (λ f. definition_of f.now) fs
