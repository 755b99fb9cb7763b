-- The row of the code.
use Rattle.std.specs.Prelude.{List, map}
use Rattle.limbo_tree.specs.declared.source.Source.{Source}
use Rattle.limbo_includes.specs.declared.included.Included.{Included}
use Rattle.limbo_includes.specs.declared.included.Standing as code_standing
use Rattle.limbo_includes.specs.Includes.{Given, Standing}
use Rattle.std.specs.Prelude.{ℕ}

abbrev pub view_standing : code_standing.Standing → Standing
view_standing s = record { path = s.path.now; top = s.top.now }

abbrev pub view_row : List code_standing.Standing → List Standing
view_row row = map view_standing row

abbrev pub given : List ℕ → Source → List Included → Given
given path source included = record { path = path; source = source.tops.items; included = included }
