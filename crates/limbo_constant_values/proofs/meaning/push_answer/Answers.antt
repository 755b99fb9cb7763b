use Rattle.std.proofs.Common.{option_copied, ap, ◌∙◌}
use Rattle.limbo_tree.specs.View.{view_expr}
use Rattle.limbo_entries.specs.View.{entries_of}
use Rattle.limbo_constant_values.specs.Answers.{answers_of, answer_in}
use Rattle.limbo_constant_values.proofs.Answering.{same_answers, one_more, answered, answers_pushed}
use Rattle.limbo_constant_values.proofs.meaning.push_answer.Goals as goal

pub returns-then-is_some : goal.returns-then-is_some
returns-then-is_some c = λ parts are.
    same_answers (entries_of c.args.naming.now.table.now.entries.items) c.args.naming.now.implemented c.requires.names.sight.once c.args.place.scope (option_copied c.args.place.counter)
    c.args.values.now parts (answers_of c.args.all.now.items) are (view_expr c.args.part.now)
    (λ x a. answered c.answer_for.result c.is_some.result _ c.is_some.ensures c.if-is_some.true
    (c.answer_for.ensures ∙ ap (λ z. answer_in (answers_of z) (view_expr c.args.part.now)) c.deref.ensures.value))

pub returns-in_ok-push-in-Some : goal.returns-in_ok-push-in-Some
returns-in_ok-push-in-Some c = λ parts are.
    rw (c.in_ok-push-in-Some.ensures.items, answers_pushed c.args.all.now.items _)
    (one_more (entries_of c.args.naming.now.table.now.entries.items) c.args.naming.now.implemented c.requires.names.sight.once c.args.place.scope (option_copied c.args.place.counter)
    c.args.values.now parts (answers_of c.args.all.now.items) are (view_expr c.args.part.now) c.in-Some.constant.now c.in-Some.ensures.some)
