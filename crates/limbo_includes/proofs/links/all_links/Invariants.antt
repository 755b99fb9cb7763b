use Rattle.std.proofs.Common.{◌≡◌, ◌++◌, drop, map}
use Rattle.limbo_includes.specs.Links.{links_from, page_of}
use Rattle.limbo_includes.proofs.links.all_links.Given as goal

-- those so far and those that are left are all
abbrev pub invariant-loop-number : goal.invariant-loop-number
invariant-loop-number l =
    l.links.items ++ links_from l.shelf.texts.now l.number (map page_of (drop l.number l.shelf.texts.now))
    ≡ links_from l.shelf.texts.now 0 (map page_of l.shelf.texts.now)
