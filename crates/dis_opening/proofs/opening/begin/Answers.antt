use Rattle.std.proofs.Common.{ap, ◌∙◌}
use Rattle.ref_heap.specs.Words.{cells, naming}
use Rattle.dis_opening.proofs.Beginning.{bare_given, begun_proper, begun_so, begun_exact}
use Rattle.dis_opening.proofs.opening.begin.Goals as goal

pub add-requires-clause-held : goal.add-requires-clause-held
add-requires-clause-held c =
    bare_given c.in_ok-heap.heap (naming (cells c.wide.result)) (λ n. ap (λ w. naming (cells w) n) c.wide.ensures ∙ c.requires.bare n)

pub invariant_of-memory : goal.invariant_of-memory
invariant_of-memory c =
    record { proper = begun_proper c.in_ok-heap.heap c.add.new.self c.wide.result (c.in_ok-heap.ensures {u = tt}).blocks (c.in-Ok.ensures {u = tt}).ok }

pub returns-clause-begun : goal.returns-clause-begun
returns-clause-begun c =
    let h = c.in_ok-heap.ensures {u = tt} in let a = c.in-Ok.ensures {u = tt} in
    begun_so c.args.tables c.in_ok-heap.heap c.add.new.self c.args.words.items c.wide.result c.in-Ok.block c.new-2.result.items c.opening_world.result
    h.made c.wide.ensures a.ok a.serial c.new-2.ensures.items c.opening_world.ensures

pub returns-clause-exact : goal.returns-clause-exact
returns-clause-exact c =
    let h = c.in_ok-heap.ensures {u = tt} in let a = c.in-Ok.ensures {u = tt} in
    begun_exact c.in_ok-heap.heap c.add.new.self c.args.words.items c.wide.result c.in-Ok.block c.new-3.result.items
    h.made h.blocks c.wide.ensures c.requires.bare a.serial a.outside c.new-3.ensures.items
