use Rattle.limbo_typing.proofs.Failing.{not_thing, not_value, not_typed, not_pattern}
use Rattle.limbo_typing.proofs.Lower.{OneBelow}
use Rattle.limbo_typing.proofs.laws.fails_or_types.Goals as goal

pub returns : goal.returns
returns c =
    let below : OneBelow = record { form = c.one_form.ensures; assigned = c.one_expression.ensures.assigned } in
    record {
      typed = λ k b b' e cause x f h. not_typed below k b e cause f b' x h;
      value = λ k b b' e cause x f h. not_value below k b e cause f b' x h;
      thing = λ k b b' e cause t f h. not_thing below k b e cause f b' t h;
      pattern = λ k b b' e cause p f h. not_pattern below k b e cause f b' p h;
    }
