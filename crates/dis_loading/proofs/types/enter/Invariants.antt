use Rattle.std.proofs.Common.{◌≡◌, ◌++◌, drop}
use Rattle.dis_loading.proofs.types.enter.Given as goal

-- The types so far and those that are left are those that stood there and all that come.
abbrev pub invariant-loop-desc : goal.invariant-loop-desc
invariant-loop-desc l = l.types.items ++ drop l.desc-index l.more ≡ l.fn.types.items ++ l.more
