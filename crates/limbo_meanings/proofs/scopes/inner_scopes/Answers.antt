use Rattle.std.proofs.Common.{◌≡◌, ◌<◌, ◌≤◌, None, length, get_or, take, sym, ap, ◌∙◌, arith}
use Rattle.std.proofs.lemmas.List.{take_more}
use Rattle.limbo_entries.specs.View.{entries_of, view_entry}
use Rattle.limbo_meanings.proofs.Places.{as_many, entry_at, outer_before, one_more, take_many}
use Rattle.limbo_meanings.proofs.Inside.{repeated_twice, many_entry, one_inside}
use Rattle.limbo_meanings.proofs.scopes.inner_scopes.Goals as goal

pub declare_entry-requires : goal.declare_entry-requires
declare_entry-requires c = record {
  there = λ a w.
      let all = c.args.table.now.entries.items in
      let i = c.loop-number.number in
      let h = outer_before all c.args.table.now.outwards i a c.entry-item.result (rw c.deref-entry-items.ensures.value at c.loop-number-test.true)
      (rw c.deref-entry-items.ensures.value at c.entry-item.is) w in
      let l : i < length all = rw c.deref-entry-items.ensures.value at c.loop-number-test.true in
      let m = c.loop-number.invariant.many in
      omega arith;
}

pub returns-in-Err-clause-twice : goal.returns-in-Err-clause-twice
returns-in-Err-clause-twice c = λ e once.
    let all = c.args.table.now.entries.items in
    let i = c.loop-number.number in
    let l : i < length all = rw c.deref-entry-items.ensures.value at c.loop-number-test.true in
    let f : c.entry-item.result ≡ get_or all i c.entry-item.result = rw c.deref-entry-items.ensures.value at c.entry-item.is in
    repeated_twice (entries_of all) c.args.meanings.now i (view_entry c.entry-item.result) c.loop-number.rows.items (entry_at all i c.entry-item.result l f)
    c.loop-number.invariant.each (c.in-Err.ensures.twice e) once

pub loop-number-preserved : goal.loop-number-preserved
loop-number-preserved c =
    let all = c.args.table.now.entries.items in
    let es = entries_of all in
    let xs = c.args.meanings.now in
    let i = c.loop-number.number in
    let e = c.entry-item.result in
    let o = get_or xs i None in
    let rs = c.loop-number.rows.items in
    let l : i < length all = rw c.deref-entry-items.ensures.value at c.loop-number-test.true in
    let f : e ≡ get_or all i e = rw c.deref-entry-items.ensures.value at c.entry-item.is in
    let m = as_many all in
    let n = c.requires.many in
    let lx : i < length xs = omega arith in
    let t : length (take i xs) ≡ length (take i es) = take_many xs i (omega arith) ∙ sym (take_many es i (omega arith)) in
    record {
      many = ap length c.in-Ok.ensures.declared ∙ many_entry (view_entry e) o rs ∙ c.loop-number.invariant.many;
      each = rw c.in-Ok.ensures.declared (rw (one_more all i e l f) (rw (take_more xs i None lx)
          (one_inside (take i xs) (take i es) o (view_entry e) rs t c.loop-number.invariant.each)));
    }
