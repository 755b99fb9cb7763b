use Rattle.std.proofs.Common.{ℕ, List, []}
use Rattle.limbo_adts.specs.Table.{defs_of}
use Rattle.link_sign.specs.TypeText.{Spells}
use Rattle.link_sign.specs.Drafts.{items_of, whole, rounds}
use Rattle.link_sign.proofs.text.put_rest.Given as goal

-- what is spelled behind what is written is what was to be spelled
abbrev pub invariant-loop-item : goal.invariant-loop-item
invariant-loop-item l =
    (text : List ℕ) → Spells (defs_of l.adts) l.adts.modules l.opened (whole l.adts.modules l.draft) text
    → Spells (defs_of l.adts) l.adts.modules [] (whole l.adts.modules l.fn.draft) text

abbrev pub decreases-loop-item : goal.decreases-loop-item
decreases-loop-item l = rounds (defs_of l.adts) l.adts.modules l.opened (items_of l.draft)
