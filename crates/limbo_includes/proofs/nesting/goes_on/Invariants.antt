use Rattle.std.proofs.Common.{◌≡◌, false, take}
use Rattle.std.specs.List.{Contains}
use Rattle.limbo_includes.specs.declared.links.Link.{Link}
use Rattle.limbo_includes.specs.Links.{is_marked}
use Rattle.limbo_includes.proofs.nesting.goes_on.Given as goal

abbrev pub invariant-loop-link : goal.invariant-loop-link
invariant-loop-link l = (k : Link) → Contains (take l.link-index l.links) k → is_marked l.marks k.from ≡ false
