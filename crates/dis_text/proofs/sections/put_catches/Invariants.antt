use Rattle.std.proofs.Common.{◌≡◌, ◌++◌, drop}
use Rattle.std.specs.List.{flat_map}
use Rattle.dis_text.specs.Listing.{catch_line}
use Rattle.dis_text.proofs.sections.put_catches.Given as goal

abbrev pub invariant-loop-handler : goal.invariant-loop-handler
invariant-loop-handler l = l.out.items ++ flat_map catch_line (drop l.handler-index l.handlers)
    ≡ l.fn.out.items ++ flat_map catch_line l.handlers
