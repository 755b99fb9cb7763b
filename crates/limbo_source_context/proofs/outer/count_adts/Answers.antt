use Rattle.std.proofs.Common.{◌≡◌, ◌<◌, ◌+◌, count_by, take, length, get_or, sym, ap, ◌∙◌}
use Rattle.limbo_entries.specs.View.{entries_of, view_entry}
use Rattle.limbo_type_names.specs.Counts.{is_adt_entry}
use Rattle.limbo_meanings.proofs.Places.{one_more}
use Rattle.limbo_meanings.proofs.Counting.{count_yes, count_no}
use Rattle.limbo_source_context.proofs.outer.count_adts.Goals as goal
use Rattle.limbo_source_context.proofs.outer.count_adts.Goals.{then-is_adt, else-is_adt}

pub loop-entry-preserved : goal.loop-entry-preserved
loop-entry-preserved c =
    let all = c.args.table.now.entries.items in
    let es = entries_of all in
    let i = c.loop-entry.entry-index in
    let e = c.entry-item.result in
    let l : i < length all = rw c.deref-entry-items.ensures.value at c.loop-entry-test.true in
    let f : e ≡ get_or all i e = rw c.deref-entry-items.ensures.value at c.entry-item.is in
    let p = ap (count_by is_adt_entry) (sym (one_more all i e l f)) in
    elim c.if-is_adt.branch [
      | then-is_adt w ↦
          w.count-is ∙ ap (λ n. n + 1) c.loop-entry.invariant
          ∙ sym (count_yes is_adt_entry (take i es) (view_entry e) (sym c.is_adt.ensures ∙ w.if-is_adt.true)) ∙ p
      | else-is_adt w ↦
          w.count-is ∙ c.loop-entry.invariant
          ∙ sym (count_no is_adt_entry (take i es) (view_entry e) (sym c.is_adt.ensures ∙ w.if-is_adt.false)) ∙ p
    ]
