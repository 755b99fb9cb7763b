use Rattle.std.proofs.Common.{◌≡◌, refl, sym, ap, ◌∙◌}
use Rattle.limbo_declarations.specs.Rows as rows
use Rattle.limbo_top.proofs.module.implemented.Goals as goal

pub returns-in-None-clause-none : goal.returns-in-None-clause-none
returns-in-None-clause-none c = λ path ms h. c.in-None.ensures.absent (record { path = path; name = c.args.name.now; means = rows.Module ms }) h refl

pub returns-in-None-members_in-clause-none : goal.returns-in-None-members_in-clause-none
returns-in-None-members_in-clause-none c =
    λ path ms h.
    let s = c.in-Some.ensures.only (record { path = path; name = c.args.name.now; means = rows.Module ms }) h refl in
    c.in-None-members_in.ensures.none ms (ap (λ (r : rows.Row). r.means) (sym s))
