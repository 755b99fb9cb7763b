use Rattle.std.proofs.Common.{arith}
use Rattle.slot_code.specs.View.{view_operand}
use Rattle.slot_code.specs.Code as code
use Rattle.dis_generation.specs.Site.{function_of}
use Rattle.dis_objects.proofs.Walks.{count_within}
use Rattle.dis_generation.proofs.Ready.{code_short}
use Rattle.dis_generation.proofs.emit.emit_branch.Goals as goal

pub source-src-requires-clause-operand : goal.source-src-requires-clause-operand
source-src-requires-clause-operand c = λ k. let n = count_within k (function_of c.args.site.now).code c.args.pc
    (code.Branch c.args.kind c.args.comparison (view_operand c.args.left) (view_operand c.args.right) c.args.passes) c.requires.there in
    omega (arith, n)

pub middle_of-middle-requires-clause-operand : goal.middle_of-middle-requires-clause-operand
middle_of-middle-requires-clause-operand c = λ k. let n = count_within k (function_of c.args.site.now).code c.args.pc
    (code.Branch c.args.kind c.args.comparison (view_operand c.args.left) (view_operand c.args.right) c.args.passes) c.requires.there in
    omega (arith, n)

pub overflow_add-pc : goal.overflow_add-pc
overflow_add-pc c =
    let w = (c.requires.stands.proper.each _ _ c.requires.there).3.within in
    let s = code_short _ _ _ _ _ _ _ c.requires.stands in
    omega (arith, w, s)

pub overflow_add-pc-2 : goal.overflow_add-pc-2
overflow_add-pc-2 c =
    let w = (c.requires.stands.proper.each _ _ c.requires.there).3.within in
    let s = code_short _ _ _ _ _ _ _ c.requires.stands in
    omega (arith, w, s)

pub to_place-target-requires-clause-within : goal.to_place-target-requires-clause-within
to_place-target-requires-clause-within c =
    let w = (c.requires.stands.proper.each _ _ c.requires.there).3.within in
    omega (arith, w)
