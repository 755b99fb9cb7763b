use Rattle.limbo_value_forms.proofs.Once.{form_once}
use Rattle.limbo_value_forms.proofs.laws.one_form.Goals as goal

pub returns : goal.returns
returns c =
    form_once (record {
      between = c.one_expression.ensures.between;
      before = c.one_expression.ensures.before;
      bytes = c.one_expression.ensures.bytes;
      copied = c.one_expression-2.ensures.copied;
    })
