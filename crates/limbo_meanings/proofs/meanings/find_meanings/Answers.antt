use Rattle.std.proofs.Common.{◌≡◌, ◌<◌, ◌≤◌, ◌+◌, length, get_or, take, ◌∙◌, arith}
use Rattle.std.proofs.lemmas.List.{length-append}
use Rattle.std.proofs.lemmas.Option.{slice_get_within}
use Rattle.limbo_entries.specs.View.{entries_of, view_entry}
use Rattle.limbo_meanings.proofs.Places.{as_many, entry_at, one_more}
use Rattle.limbo_meanings.proofs.Counting.{room, one_meant}
use Rattle.limbo_meanings.proofs.meanings.find_meanings.Goals as goal

pub next_meaning-requires-clause-room : goal.next_meaning-requires-clause-room
next_meaning-requires-clause-room c = λ p.
    let all = c.args.table.now.entries.items in
    let i = c.loop-entry.entry-index in
    let l : i < length all = rw c.deref-entry-items.ensures.value at c.loop-entry-test.true in
    let m = as_many all in
    let s = c.args.table.now.small in
    room (entries_of all) c.args.implemented i c.loop-entry.counts p c.loop-entry.invariant.counts (omega arith) (omega arith)

pub loop-entry-preserved : goal.loop-entry-preserved
loop-entry-preserved c =
    let all = c.args.table.now.entries.items in
    let es = entries_of all in
    let i = c.loop-entry.entry-index in
    let e = c.entry-item.result in
    let l : i < length all = rw c.deref-entry-items.ensures.value at c.loop-entry-test.true in
    let f : e ≡ get_or all i e = rw c.deref-entry-items.ensures.value at c.entry-item.is in
    let a = c.next_meaning.auto.counts in
    let b = c.loop-entry.invariant.each in
    record {
      each = omega arith;
      counts = rw (one_more all i e l f) (c.next_meaning.ensures.counted (take i es) c.loop-entry.invariant.counts);
      as_many = rw c.in_ok-push.ensures.items (simp length-append (let h = c.loop-entry.invariant.as_many in omega arith));
      meanings = rw c.in_ok-push.ensures.items
          (one_meant es c.args.implemented c.loop-entry.all.items i (view_entry e) c.next_meaning.result c.loop-entry.invariant.as_many (entry_at all i e l f)
          (c.next_meaning.ensures.meaning (take i es) c.loop-entry.invariant.counts) c.loop-entry.invariant.meanings);
    }

pub returns-clause-meanings : goal.returns-clause-meanings
returns-clause-meanings c = λ k e h.
    let all = c.args.table.now.entries.items in
    let m = as_many all in
    let w = slice_get_within (entries_of all) k e h in
    let low : length all ≤ c.loop-entry.entry-index = rw c.deref-entry-items.ensures.value at c.loop-entry-test.false in
    c.loop-entry.invariant.meanings k e (omega arith) h
