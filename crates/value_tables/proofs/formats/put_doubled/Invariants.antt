use Rattle.std.proofs.Common.{◌≡◌, ◌++◌, drop}
use Rattle.value_code.specs.Code.{doubled}
use Rattle.value_tables.proofs.formats.put_doubled.Given as goal

-- The text so far and what is left are the whole.
abbrev pub invariant-loop-c : goal.invariant-loop-c
invariant-loop-c l = l.text ++ doubled (drop l.c-index l.chars) ≡ l.fn.text ++ doubled l.chars
