use Rattle.std.proofs.Common.{◌≡◌, ◌++◌, drop}
use Rattle.limbo_includes.specs.Links.{links_in}
use Rattle.limbo_includes.proofs.links.push_links.Given as goal

-- those so far and those that are left are all
abbrev pub invariant-loop-top : goal.invariant-loop-top
invariant-loop-top l =
    l.links.items ++ links_in l.shelf.texts.now l.from l.path (drop l.top-index l.tops)
    ≡ l.fn.links.items ++ links_in l.shelf.texts.now l.from l.path l.tops
