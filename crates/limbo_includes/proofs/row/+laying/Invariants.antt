use Rattle.std.proofs.Common.{◌+◌, ◌*◌, ◌-◌, take}
use Rattle.limbo_includes.specs.Laying.{AreSeen, IsLaid}
use Rattle.limbo_includes.proofs.row.+laying.Given as goal

-- A text counts above what stands in it: there one include more leads.
abbrev pub decreases-put_all : goal.decreases-put_all
decreases-put_all l = (16 - l.depth) * 3 + 2

abbrev pub decreases-put : goal.decreases-put
decreases-put l = (16 - l.depth) * 3 + 1

abbrev pub decreases-put_text : goal.decreases-put_text
decreases-put_text l = (16 - l.depth) * 3

-- what is laid out so far
abbrev pub invariant-put_all-loop-top : goal.invariant-put_all-loop-top
invariant-put_all-loop-top l = AreSeen l.shelf.texts.now l.fn.row → IsLaid l.shelf.texts.now l.path (take l.top-index l.tops) l.fn.row l.row
