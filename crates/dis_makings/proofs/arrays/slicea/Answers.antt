use Rattle.std.proofs.Common.{◌≡◌, ap, ◌∙◌, subst, rules, w32, to_z, of_z}
use Rattle.std.specs.Prelude.{Some, None}
use Rattle.std.specs.Option.{option_map}
use Rattle.dis_meaning.specs.Words.{◌>>=◌}
use Rattle.dis_memory.specs.Arrays.{sliced}
use Rattle.dis_kinds.specs.Views.{view_elements}
use Rattle.dis_places.specs.View.{view_process, view_spot, view_world}
use Rattle.dis_results.specs.Going.{Goes}
use Rattle.dis_results.proofs.Onward.{goes_same}
use Rattle.dis_makings.proofs.Sliced.{here, placed, ended}
use Rattle.dis_makings.proofs.arrays.slicea.Goals as goal

pub returns-in-Some-clause-goes : goal.returns-in-Some-clause-goes
returns-in-Some-clause-goes c =
    let m = c.args.memory.now in
    let x = view_world m in
    let p = view_process c.args.process.now in
    let i = c.args.inst in
    let from = c.in-Ok.from in
    let to = c.in-Ok-given_int.to in
    let d = view_spot c.in-Ok-spot_of.spot in
    let es = Some (view_elements m c.in-Some.elements) in
    let whole_from : to_z w32 (of_z w32 from) ≡ from = search rules in
    let whole_to : to_z w32 (of_z w32 to) ≡ to = search rules in
    λ o. goes_same m c.give_within.new.memory c.args.process.now c.give_within.new.process c.give_within.result _ _
    (ap (λ a. a >>= ended o x p i) c.in-Ok.ensures
    ∙ ap (λ a. a >>= placed o x p i from) c.in-Ok-given_int.ensures
    ∙ ap (λ a. a >>= here o x p i from to) c.in-Ok-spot_of.ensures
    ∙ ap (λ a. a >>= λ es. sliced o x p i d es from to) c.in-Ok-elements_here.ensures.elements
    ∙ ap (λ es. sliced o x p i d (option_map (view_elements m) es) from to) c.in-Some.is)
    (subst (λ n. Goes m c.args.process.now c.give_within.result (sliced o x p i d es n to) c.give_within.new.memory c.give_within.new.process) whole_from
    (subst (λ n. Goes m c.args.process.now c.give_within.result (sliced o x p i d es (to_z w32 (of_z w32 from)) n) c.give_within.new.memory c.give_within.new.process) whole_to
    (c.give_within.ensures.goes o i)))

pub returns-in-None-clause-goes : goal.returns-in-None-clause-goes
returns-in-None-clause-goes c =
    let m = c.args.memory.now in
    let x = view_world m in
    let p = view_process c.args.process.now in
    let i = c.args.inst in
    let from = c.in-Ok.from in
    let to = c.in-Ok-given_int.to in
    let d = view_spot c.in-Ok-spot_of.spot in
    let whole_from : to_z w32 (of_z w32 from) ≡ from = search rules in
    let whole_to : to_z w32 (of_z w32 to) ≡ to = search rules in
    λ o. goes_same m c.give_nil.new.memory c.args.process.now c.give_nil.new.process c.give_nil.result _ _
    (ap (λ a. a >>= ended o x p i) c.in-Ok.ensures
    ∙ ap (λ a. a >>= placed o x p i from) c.in-Ok-given_int.ensures
    ∙ ap (λ a. a >>= here o x p i from to) c.in-Ok-spot_of.ensures
    ∙ ap (λ a. a >>= λ es. sliced o x p i d es from to) c.in-Ok-elements_here.ensures.elements
    ∙ ap (λ es. sliced o x p i d (option_map (view_elements m) es) from to) c.in-None.is)
    (subst (λ n. Goes m c.args.process.now c.give_nil.result (sliced o x p i d None n to) c.give_nil.new.memory c.give_nil.new.process) whole_from
    (subst (λ n. Goes m c.args.process.now c.give_nil.result (sliced o x p i d None (to_z w32 (of_z w32 from)) n) c.give_nil.new.memory c.give_nil.new.process) whole_to
    (c.give_nil.ensures.goes o i)))
