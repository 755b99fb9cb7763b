use Rattle.std.proofs.Common.{◌≡◌, drop, map}
use Rattle.limbo_typed.specs.View.{view_var}
use Rattle.typed_part.specs.Part.{all, is_word, types_in}
use Rattle.typed_part.proofs.functions.are_words.Given as goal

abbrev pub invariant-loop-variable : goal.invariant-loop-variable
invariant-loop-variable l =
    all is_word (types_in (map view_var (drop l.variable-index l.variables))) ≡ all is_word (types_in (map view_var l.variables))
