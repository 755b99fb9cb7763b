use Rattle.std.proofs.Common.{sym, ap, ◌∙◌, arith}
use Rattle.dis_memory.specs.Blocks.{with_heap}
use Rattle.dis_places.specs.Blocks.{view_heap}
use Rattle.dis_places.specs.View.{view_world}
use Rattle.dis_blocks.proofs.Made.{add_proper, view_length, view_new}
use Rattle.dis_opening.proofs.making.make.Goals as goal

pub invariant_of-memory : goal.invariant_of-memory
invariant_of-memory c =
    let m = c.args.memory.now in
    record { proper = add_proper m.heap c.add.new.self c.args.kind c.args.words c.add.result c.add.ensures.ok c.add.ensures.err m.proper c.requires.proper }

pub returns-in-Ok-clause-serial : goal.returns-in-Ok-clause-serial
returns-in-Ok-clause-serial c = c.in-Ok.ensures.serial ∙ sym (view_length c.args.memory.now.tables c.args.memory.now.heap)

pub returns-in-Ok-clause-world : goal.returns-in-Ok-clause-world
returns-in-Ok-clause-world c =
    let m = c.args.memory.now in
    ap (λ h. with_heap (view_world m) (view_heap m.tables h)) c.in-Ok.ensures.ok
    ∙ ap (λ hs. with_heap (view_world m) hs) (view_new m.tables m.heap c.args.kind c.args.words)

pub returns-in-Ok-clause-held : goal.returns-in-Ok-clause-held
returns-in-Ok-clause-held c = λ n. let o = c.in-Ok.ensures.outside n in let b = c.requires.bare n in omega (arith, o, b)
