-- What holds of paths.
use Rattle.std.specs.Prelude.{List}
use Rattle.limbo_layout.specs.Adts.{Def}
use Rattle.limbo_typed.specs.Typed.{Stmts}
use Rattle.limbo_paths.specs.Paths.{Way, Through, LeaveAll, Answers}
use Rattle.limbo_paths.specs.Runs.{RunAll}

-- Control leaves statements only on the ways that the rules give.
abbrev pub RunsAreWays : Type 0
RunsAreWays = (defs : List Def) (ss : Stmts) (w : Way) → RunAll defs ss w → LeaveAll defs ss w

-- No execution of a body that answers runs to its end, however often its loops go round.
abbrev pub AnswersNeverEnd : Type 0
AnswersNeverEnd = (defs : List Def) (body : Stmts) → Answers defs body → RunAll defs body Through → ⊥
