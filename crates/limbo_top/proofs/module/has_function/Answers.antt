use Rattle.std.proofs.Common.{◌≡◌, refl, sym, ap}
use Rattle.limbo_declarations.specs.Rows as rows
use Rattle.limbo_top.proofs.module.has_function.Goals as goal

pub returns-in-None-clause-no : goal.returns-in-None-clause-no
returns-in-None-clause-no c = λ e h. c.in-None.ensures.absent (record { path = h.path; name = c.args.name.now; means = rows.Function h.of }) h.there refl

pub returns-in-None-function_in-clause-no : goal.returns-in-None-function_in-clause-no
returns-in-None-function_in-clause-no c =
    λ e h.
    let s = c.in-Some.ensures.only (record { path = h.path; name = c.args.name.now; means = rows.Function h.of }) h.there refl in
    c.in-None-function_in.ensures.none h.of (ap (λ (r : rows.Row). r.means) (sym s))
