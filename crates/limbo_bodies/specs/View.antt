-- The names of the code's parameters.
use Rattle.std.specs.Prelude.{ℕ, List, Option, option_map, map}
use Rattle.std.specs.Borrow.{Bor}
use Rattle.limbo_tree.specs.declared.name.Name as code_name

abbrev pub view_parameter : Option (Bor code_name.Name) → Option (List ℕ)
view_parameter name = option_map (λ n. n.now.text) name

abbrev pub names_seen : List (Option (Bor code_name.Name)) → List (Option (List ℕ))
names_seen names = map view_parameter names
