use Rattle.dis_memory.specs.Operands.{target}
use Rattle.dis_memory.specs.Places.{source_word, middle_word}
use Rattle.dis_places.specs.View.{view_process, view_world}
use Rattle.dis_places.specs.Words.{view_word}
use Rattle.dis_numbers.proofs.Branching.{words_branch}
use Rattle.dis_numbers.proofs.branches.branch_words.Goals as goal

pub returns-in-Ok-target-clause-goes : goal.returns-in-Ok-target-clause-goes
returns-in-Ok-target-clause-goes c =
    let m = c.args.memory.now in
    let p = c.args.process.now in
    let i = c.args.inst in
    words_branch m p c.branch-process.new.process c.in-Ok-compare_words.taken c.in-Ok-target.pc c.stands.ensures c.branch-process.ensures
    c.args.code.now.object i (target c.args.code.now.object i.dst) c.in-Ok-target.ensures c.args.comparison
    (source_word (view_world m) (view_process p) i.src) (middle_word (view_world m) (view_process p) i.middle)
    (view_word c.in-Ok.left) (view_word c.in-Ok-middle_word.right)
    c.in-Ok.ensures c.in-Ok-middle_word.ensures c.in-Ok-compare_words.ensures
