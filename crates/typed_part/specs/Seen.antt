-- What stands around a statement, without how it lies in memory.
use Rattle.std.specs.Prelude.{ℕ, suc, List, [], ◌∷◌, map, Option, None, Some}
use Rattle.limbo_values.specs.declared.number.Kind.{Kind}
use Rattle.limbo_types.specs.View.{view_ty}
use Rattle.limbo_typed.specs.View.{view_var, view_function}
use Rattle.limbo_typed.specs.Typed as typed
use Rattle.typed_part.specs.Part.{Inside}
use Rattle.typed_part.specs.declared.operations.OneOrTwo as code_operands
use Rattle.typed_part.specs.declared.inside.Inside as code_inside
use Rattle.typed_part.specs.declared.inside.Loops as code_loops
use Rattle.typed_part.specs.declared.inside.Loops.{Loops-F, fold-Loops}

abbrev pub view_inside : code_inside.Inside → Inside
view_inside i = record {
  variables = map view_var i.variables.now;
  answer = view_ty i.answer.now;
  globals = map view_var i.globals.now;
  functions = map view_function i.functions.now;
  system = i.system;
  loaded = i.loaded;
}

-- what stands around a function's statements where the module begins by loading `Sys` into this variable
abbrev pub function_inside : typed.Module → (loaded : Option ℕ) → typed.Function → Inside
function_inside m loaded f = record {
  variables = f.variables;
  answer = f.of.answer;
  globals = m.globals;
  functions = m.functions;
  system = m.system;
  loaded = loaded;
}

-- how many loops there are around
abbrev pub loops_step : Loops-F ℕ → ℕ
loops_step Loops-F.Outside = 0
loops_step (Loops-F.Within l) = suc l.now

unfoldable pub depth : code_loops.Loops → ℕ
depth = fold-Loops ℕ loops_step

-- the kinds of an operation's operands, in a row
abbrev pub view_operands : code_operands.OneOrTwo → List Kind
view_operands o = o.first ∷ elim o.second [ None ↦ [] | Some k ↦ k ∷ [] ]
