use Rattle.std.proofs.Common.{◌≡◌, [], map, sym, ap, subst, ◌∙◌}
use Rattle.limbo_tree.specs.View.{view_param}
use Rattle.limbo_declarations.specs.Names.{AreOnce}
use Rattle.limbo_declarations.specs.Scopes.{present}
use Rattle.limbo_bodies.specs.Bodies.{parameter_names}
use Rattle.limbo_bodies.specs.View.{names_seen}
use Rattle.limbo_bodies.proofs.Once.{names_present, repeated}
use Rattle.limbo_bodies.proofs.beginning.begin_body.Goals as goal

pub returns-clause-twice : goal.returns-clause-twice
returns-clause-twice c = λ e once.
    let params = map view_param c.args.function.now.params.items in
    let are : names_seen c.deref-2.result.now ≡ parameter_names params =
    ap names_seen c.deref-2.ensures.value ∙ c.in_ok-names.ensures ∙ ap (λ ps. parameter_names (map view_param ps)) c.deref.ensures.value in
    let once_seen = subst AreOnce (sym (ap present are ∙ names_present params)) once in
    repeated _ _ _ [] c.args.scopes c.in_ok-enter.ensures.entered once_seen (c.in-Err.ensures.twice e)
