-- The rows of the table of operations on numbers, as the definitions have them.
use Rattle.dis_meaning.specs.Numbers.{Row, Calculates, Shifts, Converts, Moves, Branches}
use Rattle.dis_numbers.specs.declared.table.Row as code_row
use Rattle.dis_numbers.specs.declared.table.Row.TheVariants as row

abbrev pub view_row : code_row.Row → Row
view_row (row.Calculates kind operator) = Calculates kind operator
view_row (row.Shifts kind shift) = Shifts kind shift
view_row (row.Converts from to) = Converts from to
view_row (row.Moves kind) = Moves kind
view_row (row.Branches kind comparison) = Branches kind comparison
