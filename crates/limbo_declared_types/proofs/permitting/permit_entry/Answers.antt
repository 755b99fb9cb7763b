use Rattle.std.proofs.Common.{◌<◌, length, ap, subst, arith}
use Rattle.std.proofs.lemmas.Result.{on_ok_weaker, IfErr-weaker}
use Rattle.limbo_tree.specs.View.{view_type}
use Rattle.limbo_refusals.specs.Refusals.{Refuses}
use Rattle.limbo_declarations.specs.View.{view_declared}
use Rattle.limbo_entries.specs.Entries.{Entry}
use Rattle.limbo_entries.specs.View.{entries_of, view_entry}
use Rattle.limbo_naming.specs.Naming.{is_adt}
use Rattle.limbo_naming.proofs.Places.{entry_at, state_at, one_entry}
use Rattle.limbo_source_adts.proofs.Collecting.{not_adt}
use Rattle.limbo_context.specs.View.{view_context}
use Rattle.limbo_declared_types.specs.Permitted.{IsPermittedAt, IsForbiddenAt}
use Rattle.limbo_declared_types.specs.Asked.{ForbidsHeading, ForbidsName, ForbidsAdtAt}
use Rattle.limbo_declared_types.proofs.Lists.{refuses_weaker}
use Rattle.limbo_declared_types.proofs.Telling.{no_name, headed, headed_not, named, named_not, an_adt_is, an_adt_not}
use Rattle.limbo_declared_types.proofs.permitting.permit_entry.Goals as goal

pub returns-in-Alias-clause-permitted : goal.returns-in-Alias-clause-permitted
returns-in-Alias-clause-permitted c =
    let all = c.args.table.now.entries.items in
    let es = entries_of all in
    let m = c.args.implemented in
    let x = view_context c.args.context.now in
    let k = c.args.number in
    let y = c.index-entry.result.now in
    let at = entry_at all k y c.requires.there c.index-entry.ensures in
    on_ok_weaker c.permit_name.result
    (λ p e i. subst (λ (z : Entry). IsPermittedAt es m x k z) (one_entry es k (view_entry y) e at i)
    (named es m x k (view_entry y) (view_type c.in-Alias._of.now) at (ap view_declared c.in-Alias.is) p)) c.permit_name.ensures.permitted

pub returns-in-Alias-clause-refused : goal.returns-in-Alias-clause-refused
returns-in-Alias-clause-refused c =
    let all = c.args.table.now.entries.items in
    let es = entries_of all in
    let m = c.args.implemented in
    let x = view_context c.args.context.now in
    let k = c.args.number in
    let y = c.index-entry.result.now in
    let at = entry_at all k y c.requires.there c.index-entry.ensures in
    IfErr-weaker c.permit_name.result (λ f. Refuses f (ForbidsName es m x k)) (λ f. Refuses f (IsForbiddenAt es m x k))
    (λ f h. refuses_weaker f (ForbidsName es m x k) (IsForbiddenAt es m x k)
    (λ r b. named_not es m x k (view_entry y) (view_type c.in-Alias._of.now) r at (ap view_declared c.in-Alias.is) b) h)
    c.permit_name.ensures.refused

pub returns-in-Adt-clause-permitted : goal.returns-in-Adt-clause-permitted
returns-in-Adt-clause-permitted c =
    let all = c.args.table.now.entries.items in
    let es = entries_of all in
    let m = c.args.implemented in
    let x = view_context c.args.context.now in
    let k = c.args.number in
    let y = c.index-entry.result.now in
    let at = entry_at all k y c.requires.there c.index-entry.ensures in
    on_ok_weaker c.permit_adt.result
    (λ p e i. subst (λ (z : Entry). IsPermittedAt es m x k z) (one_entry es k (view_entry y) e at i)
    (an_adt_is es m x k (view_entry y) at (ap (λ d. is_adt (view_declared d)) c.in-Adt.is) p)) c.permit_adt.ensures.allowed

pub returns-in-Adt-clause-refused : goal.returns-in-Adt-clause-refused
returns-in-Adt-clause-refused c =
    let all = c.args.table.now.entries.items in
    let es = entries_of all in
    let m = c.args.implemented in
    let x = view_context c.args.context.now in
    let k = c.args.number in
    let y = c.index-entry.result.now in
    let at = entry_at all k y c.requires.there c.index-entry.ensures in
    IfErr-weaker c.permit_adt.result (λ f. Refuses f (ForbidsAdtAt es x k)) (λ f. Refuses f (IsForbiddenAt es m x k))
    (λ f h. refuses_weaker f (ForbidsAdtAt es x k) (IsForbiddenAt es m x k)
    (λ r b. an_adt_not es m x k (view_entry y) r at (ap (λ d. is_adt (view_declared d)) c.in-Adt.is) b) h) c.permit_adt.ensures.refused

pub returns-in_default : goal.returns-in_default
returns-in_default c =
    let all = c.args.table.now.entries.items in
    let es = entries_of all in
    let m = c.args.implemented in
    let x = view_context c.args.context.now in
    let k = c.args.number in
    let y = c.index-entry.result.now in
    let at = entry_at all k y c.requires.there c.index-entry.ensures in
    let h = c.index-headings-number.result in
    let a = c.requires.there in
    let b = c.requires.many in
    let l : k < length c.args.headings.now = omega arith in
    let w = c.requires.headed k (view_entry y) h at (state_at c.args.headings.now k h l c.index-headings-number.is) in
    record {
      permitted = on_ok_weaker c.permit_heading.result
          (λ p e i. subst (λ (z : Entry). IsPermittedAt es m x k z) (one_entry es k (view_entry y) e at i)
          (headed es m x c.requires.once k (view_entry y) h w p (not_adt y.row.declared c.in_default.not-Adt)
          (no_name y.row.declared c.in_default.not-Alias))) c.permit_heading.ensures.permitted;
      refused = IfErr-weaker c.permit_heading.result (λ f. Refuses f (ForbidsHeading x h)) (λ f. Refuses f (IsForbiddenAt es m x k))
          (λ f g. refuses_weaker f (ForbidsHeading x h) (IsForbiddenAt es m x k)
          (λ r q. headed_not es m x k (view_entry y) h r at w q) g) c.permit_heading.ensures.refused;
    }
