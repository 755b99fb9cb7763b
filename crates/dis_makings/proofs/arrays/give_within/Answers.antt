use Rattle.std.proofs.Common.{◌+◌, ◌-◌, ap, ◌∙◌, subst, w32, to_z, of_z}
use Rattle.std.proofs.lemmas.Int.{to_z-of_z}
use Rattle.limbo_values.specs.Texts.{bounds_in}
use Rattle.dis_meaning.specs.Words.{Found, ◌>>=◌}
use Rattle.dis_memory.specs.Blocks as blocks
use Rattle.dis_memory.specs.Raising.{unless_raised}
use Rattle.dis_memory.specs.Results.{gives_block_at}
use Rattle.dis_kinds.specs.Views.{view_elements}
use Rattle.dis_places.specs.View.{view_process, view_spot, view_world}
use Rattle.dis_results.specs.Going.{Goes}
use Rattle.dis_makings.proofs.arrays.give_within.Goals as goal

pub returns-in-Err-clause-goes : goal.returns-in-Err-clause-goes
returns-in-Err-clause-goes c =
    let m = c.args.memory.now in
    let e = view_elements m c.args.elements in
    λ o i. subst
    (λ b. Goes m c.args.process.now c.give_reference.result
    (gives_block_at (view_world m) (view_process c.args.process.now) (view_spot c.args.spot)
    (unless_raised b >>= λ b. Found (blocks.Part e.array (e.start + b.0) (b.1 - b.0)))) c.give_reference.new.memory c.give_reference.new.process)
    (c.in-Err.ensures
    ∙ ap (λ n. bounds_in c.args.elements.long n (to_z w32 (of_z w32 c.args.to))) (to_z-of_z w32 c.args.from c.ranges.from)
    ∙ ap (bounds_in c.args.elements.long c.args.from) (to_z-of_z w32 c.args.to c.ranges.to))
    c.give_reference.ensures.goes
