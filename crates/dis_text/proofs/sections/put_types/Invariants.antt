use Rattle.std.proofs.Common.{◌≡◌, ◌++◌, drop}
use Rattle.dis_text.specs.Listing.{numbered, type_line}
use Rattle.dis_text.proofs.sections.put_types.Given as goal

abbrev pub invariant-loop-place : goal.invariant-loop-place
invariant-loop-place l = l.out.items ++ numbered type_line l.place (drop l.place l.types)
    ≡ l.fn.out.items ++ numbered type_line 0 l.types
