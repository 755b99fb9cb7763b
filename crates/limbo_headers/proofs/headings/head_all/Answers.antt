use Rattle.std.proofs.Common.{◌≡◌, ◌<◌, length, get_or, sym, subst, ◌∙◌, arith}
use Rattle.std.proofs.lemmas.List.{length-append}
use Rattle.limbo_entries.specs.View.{view_entry}
use Rattle.limbo_type_names.proofs.limbo_naming_lemmas.Places.{entry_at, state_at}
use Rattle.limbo_type_names.specs.declared.fault.TypesFault.{TypesFault}
use Rattle.limbo_type_names.specs.Working.{entries_in}
use Rattle.limbo_headers.specs.Refusals.{FailsHeading}
use Rattle.limbo_headers.proofs.Telling.{told_at, one_told}
use Rattle.limbo_headers.proofs.headings.head_all.Goals as goal

pub returns-in-Err-clause-fails : goal.returns-in-Err-clause-fails
returns-in-Err-clause-fails c =
    let n = c.args.names.now.naming.now in
    let all = n.table.now.entries.items in
    let x = c.index.result.now in
    let many : c.len-number-end.result ≡ length all = rw c.table-table.ensures at c.len-number-end.ensures ∙ n.table.now.entries.ok.0 in
    let l : c.loop-number.number < length all = omega arith in
    let f : x ≡ get_or all c.loop-number.number x = rw c.table-table.ensures at c.index.ensures in
    subst (λ (z : TypesFault). FailsHeading all n.implemented z) (sym c.at_number.ensures)
    (told_at all n.implemented c.loop-number.number x (state_at all c.loop-number.number x l f) c.in-Err.fault c.in-Err.ensures.fails)

pub loop-number-preserved : goal.loop-number-preserved
loop-number-preserved c =
    let n = c.args.names.now.naming.now in
    let all = n.table.now.entries.items in
    let x = c.index.result.now in
    let many : c.len-number-end.result ≡ length all = rw c.table-table.ensures at c.len-number-end.ensures ∙ n.table.now.entries.ok.0 in
    let l : c.loop-number.number < length all = omega arith in
    let f : x ≡ get_or all c.loop-number.number x = rw c.table-table.ensures at c.index.ensures in
    record {
      many = rw c.in_ok-push-in-Ok.ensures.items (simp length-append (let h = c.loop-number.invariant.many in omega arith));
      heads = rw c.in_ok-push-in-Ok.ensures.items
          (one_told (entries_in n) n.implemented c.loop-number.all.items c.in-Ok.heading c.loop-number.number (view_entry x) c.loop-number.invariant.many
          (entry_at all c.loop-number.number x l f) c.in-Ok.ensures.heads c.loop-number.invariant.heads);
    }
