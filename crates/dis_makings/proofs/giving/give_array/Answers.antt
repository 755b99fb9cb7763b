use Rattle.std.proofs.Common.{sym, subst}
use Rattle.dis_memory.specs.Blocks as blocks
use Rattle.dis_memory.specs.Results.{gives_block_at}
use Rattle.dis_places.specs.Blocks.{type_by}
use Rattle.dis_places.specs.View.{view_process, view_spot, view_world}
use Rattle.dis_results.specs.Going.{told, Goes}
use Rattle.dis_makings.proofs.Gone.{given}
use Rattle.dis_makings.proofs.giving.give_array.Goals as goal

pub returns-in-Ok-clause-goes : goal.returns-in-Ok-clause-goes
returns-in-Ok-clause-goes c =
    let m = c.args.memory.now in
    let desc = type_by m.tables c.args.element in
    subst
    (λ l. Goes m c.args.process.now c.go_on.result
    (gives_block_at (view_world m) (view_process c.args.process.now) (view_spot c.args.spot) (told (blocks.blank_array desc) l)) c.store_array-outcome.new.memory c.go_on.new.process)
    (sym c.in-Ok.is)
    (given m c.store_array-outcome.new.memory c.args.process.now c.store_array-outcome.new.process c.go_on.new.process (view_spot c.args.spot)
    (blocks.blank_array desc c.in-Ok.long) c.store_array-outcome.result c.go_on.result c.go_on.ensures.same c.store_array-outcome.ensures.stores c.go_on.ensures.on)

pub returns-in-Err-clause-goes : goal.returns-in-Err-clause-goes
returns-in-Err-clause-goes c =
    let m = c.args.memory.now in
    subst
    (λ l. Goes m c.args.process.now c.give_reference.result
    (gives_block_at (view_world m) (view_process c.args.process.now) (view_spot c.args.spot) (told (blocks.blank_array (type_by m.tables c.args.element)) l))
    c.give_reference.new.memory c.give_reference.new.process)
    (sym c.in-Err.is) c.give_reference.ensures.goes
