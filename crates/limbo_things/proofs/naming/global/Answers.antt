use Rattle.std.proofs.Common.{◌≡◌, ◌≤◌, Some, length, refl, sym, ap, ◌∙◌}
use Rattle.std.specs.Prelude.{slice_get}
use Rattle.std.proofs.lemmas.Option.{slice_get_past, slice_get_read}
use Rattle.limbo_typed.specs.Typed as tree
use Rattle.limbo_typed.proofs.View.{view_place_node-Global}
use Rattle.limbo_things.proofs.Found.{variable_at, no_variable}
use Rattle.limbo_things.proofs.naming.global.Goals as goal

pub returns-in_ok-read-in-Some : goal.returns-in_ok-read-in-Some
returns-in_ok-read-in-Some c =
    let there : slice_get c.args.variables.now c.args.number ≡ Some c.in-Some.variable.now =
    slice_get_read c.args.variables.now (length c.args.variables.now) c.args.number c.in-Some.variable.now refl
    c.in-Some.ensures.lookup.3.0 c.in-Some.ensures.lookup.1 in
    ap Some (c.in_ok-read-in-Some.ensures ∙ rw (view_place_node-Global c.args.number) refl)
    ∙ sym (variable_at (λ x. tree.Global x) c.args.variables.now c.args.number c.in-Some.variable.now there)

pub returns-in-None : goal.returns-in-None
returns-in-None c =
    let past : length c.args.variables.now ≤ c.args.number = c.in-None.ensures.lookup.3 in
    sym (no_variable (λ x. tree.Global x) c.args.variables.now c.args.number (slice_get_past c.args.variables.now c.args.number past))
