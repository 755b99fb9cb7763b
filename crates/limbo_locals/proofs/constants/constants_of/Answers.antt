use Rattle.std.proofs.Common.{rules, ◌≡◌, ◌<◌, ◌++◌, ◌∷◌, [], List, length, map, sym, subst, ◌∙◌, ap, ◌+◌, ℕ}
use Rattle.std.proofs.lemmas.List.{map-append, length-map}
use Rattle.limbo_tree.specs.View.{view_expr, view_name, names_of}
use Rattle.limbo_context.specs.Context.{Valued}
use Rattle.limbo_context.specs.View.{view_context, view_body, view_valued}
use Rattle.limbo_locals.proofs.Counted.{Counted, counted_more, counted_fails}
use Rattle.limbo_locals.proofs.constants.constants_of.Goals as goal

pub returns-in-Err-clause-refused : goal.returns-in-Err-clause-refused
returns-in-Err-clause-refused c =
    let b : c.loop-place.place < length c.args.names.now = search rules in
    let l : c.loop-place.place < length (names_of c.args.names.now) =
    subst (λ (n : ℕ). c.loop-place.place < n) (sym (length-map c.args.names.now view_name)) b in
    let is : c.in-Ok.number ≡ c.loop-place.place = search rules in
    counted_fails (view_context c.args.context.now) (view_context c.loop-place.context) (view_body c.args.body.now)
    (view_body c.loop-place.body) (view_expr c.args.e.now) (names_of c.args.names.now) (map view_valued c.loop-place.values.items)
    c.loop-place.place c.loop-place.invariant c.in-Ok.number c.in-Err.fault.cause l is c.in-Err.ensures.refused

pub loop-place-preserved : goal.loop-place-preserved
loop-place-preserved c =
    let b : c.loop-place.place < length c.args.names.now = search rules in
    let l : c.loop-place.place < length (names_of c.args.names.now) =
    subst (λ (n : ℕ). c.loop-place.place < n) (sym (length-map c.args.names.now view_name)) b in
    let is : c.in-Ok.number ≡ c.loop-place.place = search rules in
    let items : map view_valued c.push.new.self.items ≡ map view_valued c.loop-place.values.items ++ view_valued c.in-Ok-constant_at.v ∷ []
    = ap (map view_valued) c.in_ok-push-in-Ok-constant_at.ensures.items ∙ map-append view_valued c.loop-place.values.items
    (c.in-Ok-constant_at.v ∷ []) in
    subst
    (λ (vs : List Valued). Counted (view_context c.args.context.now) (view_context c.constant_at.new.context) (view_body c.args.body.now)
    (view_body c.constant_at.new.body) (view_expr c.args.e.now) (names_of c.args.names.now) vs (c.loop-place.place + 1)) (sym items)
    (counted_more (view_context c.args.context.now) (view_context c.loop-place.context) (view_body c.args.body.now)
    (view_body c.loop-place.body) (view_expr c.args.e.now) (names_of c.args.names.now) (map view_valued c.loop-place.values.items)
    c.loop-place.place c.loop-place.invariant (view_context c.constant_at.new.context) (view_body c.constant_at.new.body)
    (view_valued c.in-Ok-constant_at.v) c.in-Ok.number l is c.in-Ok-constant_at.ensures.constant c.in-Ok-constant_at.ensures.context
    c.in-Ok-constant_at.ensures.scopes)
