use Rattle.std.proofs.Common.{List, map, sym, ap, ◌∙◌, subst}
use Rattle.limbo_adts.specs.Table.{defs_of}
use Rattle.limbo_typed.specs.declared.expr.Place as code_place
use Rattle.limbo_typed.specs.declared.expr.Pattern as code_pattern
use Rattle.limbo_typed.specs.Typed as tree
use Rattle.limbo_typed.specs.View.{view_pattern, view_place, patterns_of}
use Rattle.limbo_typed.proofs.View.{view_pattern-Place, view_pattern-Nothing, view_pattern-Tuple}
use Rattle.limbo_stores.specs.declared.outcome.Store.TheVariants.{Allowed}
use Rattle.limbo_stores.specs.Stores.{RefusesPattern}
use Rattle.limbo_stores.specs.Telling.{Tells}
use Rattle.limbo_stores.proofs.Told.{to_place, to_nothing}
use Rattle.limbo_stores.proofs.Stored.{rest_next, rest_done}
use Rattle.limbo_stores.proofs.storing.+patterns.Goals as goal

pub pattern_store-returns-in-Place : goal.pattern_store-returns-in-Place
pattern_store-returns-in-Place t c =
    subst (λ (z : tree.Pattern). Tells c.place_store.result (RefusesPattern (defs_of c.args.adts.now) c.args.fd z))
    (ap (λ (p : code_place.Place). tree.ToPlace (view_place p)) c.deref.ensures
    ∙ sym (ap view_pattern c.in-Place.is ∙ view_pattern-Place c.in-Place.place))
    (to_place (defs_of c.args.adts.now) c.args.fd (view_place c.deref.result.now) c.place_store.result c.place_store.ensures)

pub pattern_store-returns-in-Nothing : goal.pattern_store-returns-in-Nothing
pattern_store-returns-in-Nothing t c =
    subst (λ (z : tree.Pattern). Tells Allowed (RefusesPattern (defs_of c.args.adts.now) c.args.fd z))
    (sym (ap view_pattern c.in-Nothing.is ∙ view_pattern-Nothing)) (to_nothing (defs_of c.args.adts.now) c.args.fd)

pub pattern_store-returns-in-Tuple : goal.pattern_store-returns-in-Tuple
pattern_store-returns-in-Tuple t c =
    subst (λ (z : tree.Pattern). Tells c.parts_store.result (RefusesPattern (defs_of c.args.adts.now) c.args.fd z))
    (ap (λ (ps : List code_pattern.Pattern). tree.ToParts (patterns_of (map view_pattern ps))) c.deref-in-Tuple.ensures.value
    ∙ sym (ap view_pattern c.in-Tuple.is ∙ view_pattern-Tuple c.in-Tuple.parts))
    c.parts_store.ensures

pub parts_store-returns : goal.parts_store-returns
parts_store-returns t c =
    rest_done (defs_of c.args.adts.now) c.args.fd c.args.parts.now c.loop-part.part-index c.loop-part.told c.loop-part-test.false
    c.loop-part.invariant

pub parts_store-loop-part-preserved : goal.parts_store-loop-part-preserved
parts_store-loop-part-preserved t c =
    rest_next (defs_of c.args.adts.now) c.args.fd c.args.parts.now c.loop-part.part-index c.part-item.result c.loop-part.told
    c.pattern_store.result c.worse-told.result c.loop-part-test.true c.part-item.is c.pattern_store.ensures c.worse-told.ensures
    c.loop-part.invariant
