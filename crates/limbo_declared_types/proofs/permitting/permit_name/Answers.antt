use Rattle.std.proofs.Common.{subst}
use Rattle.std.proofs.lemmas.Result.{IfOk-weaker}
use Rattle.limbo_types.specs.Types.{Ty}
use Rattle.limbo_types.specs.View.{view_ty}
use Rattle.limbo_entries.specs.View.{entries_of}
use Rattle.limbo_type_names.specs.Means.{Stands}
use Rattle.limbo_type_names.proofs.Unique.{one_stands}
use Rattle.limbo_context.specs.View.{view_context}
use Rattle.limbo_permits.specs.Permits.{Permits}
use Rattle.limbo_declared_types.proofs.Telling.{of_table}
use Rattle.limbo_declared_types.proofs.permitting.permit_name.Goals as goal

pub returns-in-Some-clause-permitted : goal.returns-in-Some-clause-permitted
returns-in-Some-clause-permitted c =
    let es = entries_of c.args.table.now.entries.items in
    let m = c.args.implemented in
    let k = c.args.number in
    let t = view_ty c.in-Some.of.now in
    let s : Stands es m k t =
    of_table c.args.table.now m c.args.names.now c.requires.types (λ a n. Stands (entries_of a.entries.items) n k t)
    c.in-Some.ensures.some
    in
    let Permitted : Ty → Type 0 = λ u. Permits (view_context c.args.context.now) u in
    IfOk-weaker c.permit_type.result (λ _. Permitted t) (λ _. (u : Ty) → Stands es m k u → Permitted u)
    (λ _ p u a. subst Permitted (one_stands es m c.requires.once k t u s a) p) c.permit_type.ensures.permitted
