use Rattle.std.proofs.Common.{◌≡◌, ◌<◌, ◌++◌, ◌∷◌, [], length, get_or, take, sym, ap, ◌∙◌}
use Rattle.limbo_entries.specs.View.{entries_of, view_entry}
use Rattle.limbo_headers.proofs.limbo_type_names_lemmas.Rows.{one_more}
use Rattle.limbo_source_adts.specs.Modules.{modules_of}
use Rattle.limbo_source_adts.proofs.Modules.{modules_push}
use Rattle.limbo_source_adts.proofs.adts.module_names.Goals as goal

pub loop-entry-preserved : goal.loop-entry-preserved
loop-entry-preserved c =
    let all = c.args.table.now.entries.items in
    let i = c.loop-entry.entry-index in
    let e = c.entry-item.result in
    let l : i < length all = rw c.deref-entry-items.ensures.value at c.loop-entry-test.true in
    let f : e ≡ get_or all i e = rw c.deref-entry-items.ensures.value at c.entry-item.is in
    c.in_ok-push_module.ensures ∙ ap (λ ns. ns ++ modules_of (view_entry e ∷ [])) c.loop-entry.invariant ∙ sym (modules_push (take i (entries_of all)) (view_entry e))
    ∙ ap modules_of (sym (one_more all i e l f))
