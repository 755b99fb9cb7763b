use Rattle.std.proofs.Common.{◌≡◌, ◌<◌, ◌++◌, ◌∷◌, [], length, sym, subst, ◌∙◌, arith}
use Rattle.limbo_entries.specs.View.{entries_of, view_entry}
use Rattle.limbo_meanings.specs.Kinds.{place}
use Rattle.limbo_meanings.specs.Meanings.{AreCounts}
use Rattle.limbo_meanings.proofs.Counting.{counted_on, few}
use Rattle.limbo_meanings.proofs.meanings.next_meaning.Goals as goal

pub returns-in-Some-clause-counted : goal.returns-in-Some-clause-counted
returns-in-Some-clause-counted c = λ before are.
    let es = entries_of c.args.table.now.entries.items in
    let n = few c.in-Some.kind in
    let e = c.requires.each in
    let l : place c.in-Some.kind < length c.args.counts.now = omega arith in
    rw c.next.ensures.counted
    (counted_on es c.args.implemented before (view_entry c.args.entry) c.in-Some.kind c.args.counts.now (sym c.kind_of.ensures ∙ c.in-Some.is) l are)
