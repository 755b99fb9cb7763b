use Rattle.std.proofs.Common.{◌++◌, ◌∷◌, [], List, sym, ap, ◌∙◌, subst}
use Rattle.limbo_tree.specs.declared.source.Function as code_function
use Rattle.limbo_tree.specs.declared.source.Top as code_top
use Rattle.limbo_tree.specs.View.{view_top}
use Rattle.limbo_top.specs.Tops.{Placed}
use Rattle.limbo_entries.specs.View.{entries_of}
use Rattle.limbo_modules.specs.Found.{standing, AreFound}
use Rattle.limbo_modules.proofs.Defining.{kept, not_defined}
use Rattle.limbo_modules.proofs.finding.note.Goals as goal

pub returns-in-Define-clause-found : goal.returns-in-Define-clause-found
returns-in-Define-clause-found c = λ before are.
    let es = entries_of c.args.table.now.entries.items in
    let path = c.args.standing.path.now in
    let P : Placed → Type 0 = λ s. AreFound es c.args.implemented (before ++ s ∷ []) c.note_definition.new.found in
    subst P
    (ap (λ (f : code_function.Function). standing path f) c.deref.ensures
    ∙ ap (λ (t : code_top.Top). let s : Placed = record { path = path; top = view_top t } in s) (sym c.in-Define.is))
    (c.note_definition.ensures.found before are)

pub returns-in_default-clause-found : goal.returns-in_default-clause-found
returns-in_default-clause-found c = λ before are.
    let es = entries_of c.args.table.now.entries.items in
    let path = c.args.standing.path.now in
    let t = c.args.standing.top.now in
    kept es c.args.implemented before (record { path = path; top = view_top t }) c.args.found.now
    (λ n d. not_defined es c.args.implemented n path t d c.in_default.not-Define) are
