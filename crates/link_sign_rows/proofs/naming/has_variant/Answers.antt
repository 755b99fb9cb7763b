use Rattle.std.proofs.Common.{◌∙◌, subst, ◌<◌}
use Rattle.link_sign_rows.proofs.Named.{from_test, variant_there}
use Rattle.link_sign_rows.proofs.naming.has_variant.Goals as goal

pub returns-in-Some : goal.returns-in-Some
returns-in-Some c = λ h.
    variant_there c.args.defs.now c.args.adt c.args.variant c.in-Some.def.now c.in-Some.ensures.lookup.3.0 c.in-Some.ensures.lookup.1
    (subst (λ n. c.args.variant < n) (c.len.ensures ∙ c.in-Some.def.now.picks.ok.0) (from_test c.args.variant c.len.result h))
