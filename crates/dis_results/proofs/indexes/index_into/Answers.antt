use Rattle.std.proofs.Common.{rules, ◌≡◌, ap, ◌∙◌, subst, to_z, of_z, w32}
use Rattle.std.specs.Option.{option_map}
use Rattle.dis_meaning.specs.Words.{◌>>=◌}
use Rattle.dis_memory.specs.Arrays.{element_address}
use Rattle.dis_memory.specs.Results.{gives_plain_at}
use Rattle.dis_places.specs.View.{view_process, view_spot, view_world}
use Rattle.dis_kinds.specs.Views.{view_elements}
use Rattle.dis_results.specs.Going.{Goes}
use Rattle.dis_results.proofs.Indexed.{given, indexed}
use Rattle.dis_results.proofs.Onward.{goes_same}
use Rattle.dis_results.proofs.indexes.index_into.Goals as goal

pub returns-in-Some-clause-goes : goal.returns-in-Some-clause-goes
returns-in-Some-clause-goes c =
    let m = c.args.memory.now in
    let x = view_world m in
    let p = view_process c.args.process.now in
    let i = c.args.inst in
    let es = option_map (view_elements m) c.args.elements in
    let whole : to_z w32 (of_z w32 c.in-Ok-source_int.index) ≡ c.in-Ok-source_int.index = search rules in
    λ o. goes_same m c.give_address.new.memory c.args.process.now c.give_address.new.process c.give_address.result _ _
    (ap (λ a. a >>= λ d. indexed o x p i d es) c.in-Ok.ensures
    ∙ ap (λ a. a >>= λ index. given o x p i (view_spot c.in-Ok.spot) es index) c.in-Ok-source_int.ensures
    ∙ ap (λ es. given o x p i (view_spot c.in-Ok.spot) (option_map (view_elements m) es) c.in-Ok-source_int.index) c.in-Some.is)
    (subst
    (λ n. Goes m c.args.process.now c.give_address.result
    (gives_plain_at x p (view_spot c.in-Ok.spot) (element_address o x p i (view_elements m c.in-Some.elements) n))
    c.give_address.new.memory c.give_address.new.process)
    whole (c.give_address.ensures.goes o i))
