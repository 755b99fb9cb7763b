use Rattle.std.proofs.Common.{◌≡◌, take}
use Rattle.limbo_scope.specs.Laws.{declared_all}
use Rattle.limbo_entries.specs.View.{entries_of}
use Rattle.limbo_meanings.specs.Names.{names_in}
use Rattle.limbo_meanings.proofs.scopes.declare_all.Given as goal

abbrev pub invariant-loop-number : goal.invariant-loop-number
invariant-loop-number l =
    l.scopes ≡ declared_all (names_in l.scope (take l.number l.meanings) (take l.number (entries_of l.table.entries.items))) l.fn.scopes
