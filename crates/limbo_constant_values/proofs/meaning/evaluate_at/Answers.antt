use Rattle.std.proofs.Common.{sym}
use Rattle.std.proofs.lemmas.Result.{IfOk-weaker}
use Rattle.limbo_constant_values.specs.Answers.{answers_of}
use Rattle.limbo_constant_values.proofs.meaning.evaluate_at.Goals as goal

pub returns : goal.returns
returns c = IfOk-weaker c.evaluate.result _ _ (λ v h. record {
  answers = answers_of c.in_ok-all.all.items;
  are = rw (sym c.in_ok-parts.ensures.in_order, sym c.deref.ensures.value) c.in_ok-all.ensures;
  gives = h;
}) c.evaluate.ensures.comes_to
