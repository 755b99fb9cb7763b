use Rattle.limbo_type_names.specs.Working.{entries_in}
use Rattle.limbo_headers.specs.Refusals.{IsParamType, IsAnswerType, IsTypeOf, of_param, of_answer}
use Rattle.limbo_headers.proofs.Telling.{one_weaker}
use Rattle.limbo_headers.proofs.functions.function_header.Goals as goal

pub returns-in-Err-clause-fails : goal.returns-in-Err-clause-fails
returns-in-Err-clause-fails c =
    let n = c.args.names.now.naming.now in
    one_weaker (entries_in n) n.implemented c.args.scope (IsParamType c.args.of.now.params.items) (IsTypeOf c.args.of.now) (λ t p. of_param p) c.in-Err.fault
    (rw c.deref.ensures.value at c.in-Err.ensures.fails)

pub returns-in-Err-answer_type-clause-fails : goal.returns-in-Err-answer_type-clause-fails
returns-in-Err-answer_type-clause-fails c =
    let n = c.args.names.now.naming.now in
    one_weaker (entries_in n) n.implemented c.args.scope (IsAnswerType c.args.of.now.answer) (IsTypeOf c.args.of.now) (λ t p. of_answer p) c.in-Err-answer_type.fault
    c.in-Err-answer_type.ensures.fails
