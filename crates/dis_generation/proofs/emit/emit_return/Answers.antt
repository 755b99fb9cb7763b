use Rattle.std.proofs.Common.{arith}
use Rattle.slot_code.specs.View.{view_operand}
use Rattle.slot_code.specs.Code as code
use Rattle.dis_generation.specs.Site.{function_of}
use Rattle.dis_objects.proofs.Walks.{count_within}
use Rattle.dis_generation.proofs.emit.emit_return.Goals as goal

pub source-src-requires-clause-operand : goal.source-src-requires-clause-operand
source-src-requires-clause-operand c = λ k. let n = count_within k (function_of c.args.site.now).code c.args.pc
    (code.Return (view_operand c.args.value)) c.requires.there in omega (arith, n)
