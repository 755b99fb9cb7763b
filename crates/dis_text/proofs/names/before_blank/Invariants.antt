use Rattle.std.proofs.Common.{◌≡◌, ◌++◌, take, drop}
use Rattle.dis_text.specs.Listing.{before_blank}
use Rattle.dis_text.proofs.names.before_blank.Given as goal

abbrev pub invariant-loop-i : goal.invariant-loop-i
invariant-loop-i l = take l.i l.text ++ before_blank (drop l.i l.text) ≡ before_blank l.text
