use Rattle.std.proofs.Common.{take}
use Rattle.std.specs.Ordering.{nat_cmp}
use Rattle.std.specs.BTreeMap.{get}
use Rattle.link_sign.specs.Clashes.{texts_of}
use Rattle.link_sign.proofs.Apart.{Knows}
use Rattle.link_sign.proofs.clashing.clash.Given as goal

-- no two of the texts so far clash, and the map has the place of the first with each signature
abbrev pub invariant-loop-number : goal.invariant-loop-number
invariant-loop-number l = Knows (get nat_cmp l.firsts) (texts_of (take l.number l.texts))
