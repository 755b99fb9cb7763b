use Rattle.std.proofs.Common.{◌≡◌, ap, ◌∙◌, rules, w32, to_z, of_z, subst}
use Rattle.std.specs.Option.{option_map}
use Rattle.limbo_values.specs.declared.number.Kind.TheVariants.{Int}
use Rattle.dis_meaning.specs.Words.{◌>>=◌}
use Rattle.dis_memory.specs.Arrays.{of_one_type}
use Rattle.dis_memory.specs.Kinds.{elements_at}
use Rattle.dis_memory.specs.Places.{given_of, source_reference}
use Rattle.dis_kinds.specs.Views.{view_elements}
use Rattle.dis_places.specs.View.{view_process, view_world}
use Rattle.dis_results.specs.Going.{Goes}
use Rattle.dis_results.proofs.Onward.{goes_same}
use Rattle.dis_slices.specs.Overs.{sliced}
use Rattle.dis_slices.proofs.slices.slicela.Goals as goal

pub returns-in-Ok-of_one_type-clause-goes : goal.returns-in-Ok-of_one_type-clause-goes
returns-in-Ok-of_one_type-clause-goes c =
    let m = c.args.memory.now in
    let x = view_world m in
    let p = view_process c.args.process.now in
    let i = c.args.inst in
    let s = option_map (view_elements m) c.in-Ok.source in
    let t = option_map (view_elements m) c.in-Ok-target_elements.target in
    let at = c.in-Ok-given_int.at in
    let whole : to_z w32 (of_z w32 at) ≡ at = search rules in
    λ o. goes_same m c.slice_at.new.memory c.args.process.now c.slice_at.new.process c.slice_at.result _ _
    (ap
    (λ a. a >>= λ s. given_of Int x p i.middle >>= λ at. source_reference x p i.dst >>= elements_at x >>= of_one_type s >>= λ t. sliced x p s t at)
    c.in-Ok.ensures
    ∙ ap (λ a. a >>= λ at. source_reference x p i.dst >>= elements_at x >>= of_one_type s >>= λ t. sliced x p s t at) c.in-Ok-given_int.ensures
    ∙ ap (λ a. a >>= of_one_type s >>= λ t. sliced x p s t at) c.in-Ok-target_elements.ensures.elements
    ∙ ap (λ a. a >>= λ t. sliced x p s t at) c.in-Ok-of_one_type.ensures)
    (subst (λ n. Goes m c.args.process.now c.slice_at.result (sliced x p s t n) c.slice_at.new.memory c.slice_at.new.process) whole c.slice_at.ensures.goes)
