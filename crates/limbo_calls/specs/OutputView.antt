-- What is printed to, without how it lies in memory.
use Rattle.limbo_typed.specs.View.{view_expr}
use Rattle.limbo_calls.specs.declared.printing.Output as code_output
use Rattle.limbo_calls.specs.declared.printing.Output.TheVariants as code
use Rattle.limbo_calls.specs.Prints.{Output, Print, Fprint, Sprint}

abbrev pub view_output : code_output.Output → Output
view_output code.Print = Print
view_output (code.Fprint file) = Fprint (view_expr file.value)
view_output code.Sprint = Sprint
