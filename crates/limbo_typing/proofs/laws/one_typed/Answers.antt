use Rattle.limbo_typing.proofs.Once.{one_thing, one_value, one_typed, one_pattern}
use Rattle.limbo_typing.proofs.Lower.{OneBelow}
use Rattle.limbo_typing.proofs.laws.one_typed.Goals as goal

pub returns : goal.returns
returns c =
    let below : OneBelow = record { form = c.one_form.ensures; assigned = c.one_expression.ensures.assigned } in
    record {
      typed = λ k b b' b'' e x y h i. one_typed below k b b' e x h b'' y i;
      value = λ k b b' b'' e x y h i. one_value below k b b' e x h b'' y i;
      thing = λ k b b' b'' e s t h i. one_thing below k b b' e s h b'' t i;
      pattern = λ k b b' b'' e p q h i. one_pattern below k b b' e p h b'' q i;
    }
