use Rattle.std.proofs.Common.{◌≡◌, ◌<◌, ◌≤◌, length, get_or, take, ◌∙◌, arith}
use Rattle.std.proofs.lemmas.List.{length-append}
use Rattle.limbo_entries.specs.View.{entries_of, view_entry}
use Rattle.limbo_naming.proofs.Places.{entry_at, as_many}
use Rattle.limbo_type_names.proofs.Rows.{outer_before, one_more}
use Rattle.limbo_type_names.proofs.Counting.{one_numbered, all_numbered}
use Rattle.limbo_type_names.proofs.numbers.number_all.Goals as goal

pub next-requires-clause-there : goal.next-requires-clause-there
next-requires-clause-there c = λ a w.
    let all = c.args.table.now.entries.items in
    let i = c.loop-entry.entry-index in
    let e = c.entry-item.result in
    let h = outer_before all c.args.table.now.outwards i a e (rw c.deref-entry-items.ensures.value at c.loop-entry-test.true) (rw c.deref-entry-items.ensures.value at c.entry-item.is) w in
    let l : i < length all = rw c.deref-entry-items.ensures.value at c.loop-entry-test.true in
    let k = c.loop-entry.invariant.many in omega arith

pub loop-entry-preserved : goal.loop-entry-preserved
loop-entry-preserved c =
    let all = c.args.table.now.entries.items in
    let i = c.loop-entry.entry-index in
    let e = c.entry-item.result in
    let l : i < length all = rw c.deref-entry-items.ensures.value at c.loop-entry-test.true in
    let f : e ≡ get_or all i e = rw c.deref-entry-items.ensures.value at c.entry-item.is in
    let on = c.next.ensures.counts (take i (entries_of all)) c.loop-entry.invariant.counts in
    record {
      counts = rw (one_more all i e l f) on.1;
      many = c.next.ensures.many ∙ c.loop-entry.invariant.many;
      as_many = rw c.in_ok-push.ensures.items (simp length-append (let h = c.loop-entry.invariant.as_many in omega arith));
      numbers = rw c.in_ok-push.ensures.items
          (one_numbered (entries_of all) c.loop-entry.numbers.items i c.next.result (view_entry e) c.loop-entry.invariant.as_many (entry_at all i e l f) on.0
          c.loop-entry.invariant.numbers);
    }

pub returns : goal.returns
returns c =
    let all = c.args.table.now.entries.items in
    let m = as_many all in
    let a = c.loop-entry.invariant.as_many in
    let low : length all ≤ c.loop-entry.entry-index = rw c.deref-entry-items.ensures.value at c.loop-entry-test.false in
    let high : c.loop-entry.entry-index ≤ length all = rw c.deref-entry-items.ensures.value at c.loop-entry.auto.entry-index-end in
    all_numbered (entries_of all) c.loop-entry.numbers.items (omega arith) c.loop-entry.invariant.numbers
