use Rattle.std.proofs.Common.{ap}
use Rattle.std.specs.Option.{option_map}
use Rattle.ref_heap.specs.declared.word.Ref.{Ref}
use Rattle.dis_meaning.specs.Words.{Found, ◌>>=◌}
use Rattle.dis_memory.specs.Blocks as blocks
use Rattle.dis_memory.specs.Results.{gives_block_at}
use Rattle.dis_places.specs.View.{view_process, view_spot, view_world}
use Rattle.dis_places.specs.Words.{view_words}
use Rattle.dis_results.proofs.Onward.{goes_same}
use Rattle.dis_makings.proofs.Gone.{given}
use Rattle.dis_lists.proofs.Linked.{untouched_on}
use Rattle.dis_lists.proofs.fronts.cons_at.Goals as goal

pub returns-in-Ok-clause-goes : goal.returns-in-Ok-clause-goes
returns-in-Ok-clause-goes c =
    let m = c.args.memory.now in
    let x = view_world m in
    let p = view_process c.args.process.now in
    let s = view_spot c.args.spot in
    let ws = view_words c.args.element.now in
    λ o i. goes_same m c.store_cell-outcome.new.memory c.args.process.now c.go_on.new.process c.go_on.result _ _
    (ap (λ a. a >>= λ rest. gives_block_at x p s (Found (blocks.Cell ws rest))) c.in-Ok.ensures.block)
    (given m c.store_cell-outcome.new.memory c.args.process.now c.store_cell-outcome.new.process c.go_on.new.process s
    (blocks.Cell ws (option_map (λ (r : Ref). r.serial) c.in-Ok.rest)) c.store_cell-outcome.result c.go_on.result c.go_on.ensures.same
    c.store_cell-outcome.ensures.stores c.go_on.ensures.on)

pub returns-in-Ok-clause-kept : goal.returns-in-Ok-clause-kept
returns-in-Ok-clause-kept c =
    untouched_on c.args.memory.now c.store_cell-outcome.new.memory c.args.process.now c.store_cell-outcome.new.process c.go_on.new.process
    c.store_cell-outcome.result c.go_on.result c.go_on.ensures.same c.store_cell-outcome.ensures.kept c.go_on.ensures.kept
