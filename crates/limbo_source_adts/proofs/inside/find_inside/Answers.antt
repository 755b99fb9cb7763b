use Rattle.std.proofs.Common.{◌≡◌, ◌<◌, length, get_or, take, ap, ◌∙◌, arith}
use Rattle.limbo_entries.specs.View.{entries_of, view_entry}
use Rattle.limbo_naming.proofs.Places.{as_many}
use Rattle.limbo_order.specs.View.{rows}
use Rattle.limbo_headers.proofs.limbo_type_names_lemmas.Rows.{outer_before, one_more}
use Rattle.limbo_source_adts.proofs.Insides.{rows_many, take_many, with_many, one_inside, none_inside}
use Rattle.limbo_source_adts.proofs.inside.find_inside.Goals as goal
use Rattle.limbo_source_adts.proofs.inside.find_inside.Goals.{in-None, in-Some+in_ok-push_number-in-Some}

pub push_number-requires : goal.push_number-requires
push_number-requires c =
    let all = c.args.table.now.entries.items in
    let i = c.loop-number.number in
    let e = c.entry-item.result in
    let h = outer_before all c.args.table.now.outwards i c.in-Some.outer e (rw c.deref-entry-items.ensures.value at c.loop-number-test.true)
    (rw c.deref-entry-items.ensures.value at c.entry-item.is) c.in-Some.is in
    let l : i < length all = rw c.deref-entry-items.ensures.value at c.loop-number-test.true in
    let a = rows_many c.loop-number.all.items in
    let b = c.loop-number.invariant.many in
    record { there = omega arith }

pub loop-number-preserved : goal.loop-number-preserved
loop-number-preserved c =
    let all = c.args.table.now.entries.items in
    let es = entries_of all in
    let i = c.loop-number.number in
    let e = c.entry-item.result in
    let l : i < length all = rw c.deref-entry-items.ensures.value at c.loop-number-test.true in
    let f : e ≡ get_or all i e = rw c.deref-entry-items.ensures.value at c.entry-item.is in
    let m = as_many all in
    let n : length (take i es) ≡ i = take_many es i (omega arith) in
    let old = rows c.loop-number.all.items in
    elim c.match-entry.branch [
      | in-None w ↦ rw (w.all-is, one_more all i e l f) (record {
        many = c.loop-number.invariant.many;
        each = none_inside (take i es) i (view_entry e) old n w.in-None.is c.loop-number.invariant.each;
      })
      | in-Some+in_ok-push_number-in-Some w ↦ rw (w.all-is, one_more all i e l f) (record {
        many = ap length w.in_ok-push_number-in-Some.ensures ∙ with_many old w.in-Some.outer i ∙ c.loop-number.invariant.many;
        each = rw w.in_ok-push_number-in-Some.ensures (one_inside (take i es) i (view_entry e) old n w.in-Some.outer w.in-Some.is c.loop-number.invariant.each);
      })
    ]
