use Rattle.std.proofs.Common.{◌≡◌, List, Some, slice_get, subst}
use Rattle.std.proofs.lemmas.Result.{IfErr-weaker}
use Rattle.limbo_layout.specs.declared.def.AdtDef as code_def
use Rattle.limbo_layout.specs.View.{view_def, view_defs}
use Rattle.limbo_refusals.specs.Refusals.{Refuses}
use Rattle.limbo_entries.specs.Entries.{Entry, IsEntry}
use Rattle.limbo_entries.specs.View.{entries_of}
use Rattle.limbo_naming.proofs.Places.{state_at}
use Rattle.limbo_type_names.specs.Numbers.{number_of}
use Rattle.limbo_context.specs.View.{view_context}
use Rattle.limbo_declared_types.specs.Permitted.{ForbidsAdt}
use Rattle.limbo_declared_types.specs.Asked.{ForbidsAdtAt}
use Rattle.limbo_declared_types.proofs.Lists.{refuses_weaker, seen_there}
use Rattle.limbo_declared_types.proofs.Telling.{of_table}
use Rattle.limbo_declared_types.proofs.permitting.permit_adt.Goals as goal

pub returns-in-Some-clause-refused : goal.returns-in-Some-clause-refused
returns-in-Some-clause-refused c =
    let es = entries_of c.args.table.now.entries.items in
    let k = c.args.number in
    let d = c.in-Some.def.now in
    let n = c.number.result in
    let w = c.in-Some.ensures.lookup in
    let at : slice_get (view_defs c.args.context.now.adts.adts) n ≡ Some (view_def d) =
    subst (λ (ds : List code_def.AdtDef). slice_get (view_defs ds) n ≡ Some (view_def d)) c.defs.ensures
    (seen_there view_def c.defs.result.now n d (state_at c.defs.result.now n d w.3.0 w.1)) in
    let is : (e : Entry) → IsEntry es k e → n ≡ number_of es k e =
    of_table c.args.table.now c.args.implemented c.args.names.now c.requires.types
    (λ a m. (e : Entry) → IsEntry (entries_of a.entries.items) k e → n ≡ number_of (entries_of a.entries.items) k e) c.number.ensures in
    let x = view_context c.args.context.now in
    IfErr-weaker c.allow_def.result (λ f. Refuses f (ForbidsAdt x (view_def d))) (λ f. Refuses f (ForbidsAdtAt es x k))
    (λ f h. refuses_weaker f (ForbidsAdt x (view_def d)) (ForbidsAdtAt es x k)
    (λ r b. (view_def d, λ e i. subst (λ z. slice_get x.adts z ≡ Some (view_def d)) (is e i) at, b)) h) c.allow_def.ensures.refused
