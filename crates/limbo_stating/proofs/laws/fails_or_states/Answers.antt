use Rattle.limbo_stating.proofs.Lower.{OneBelow, NoneBelow}
use Rattle.limbo_stating.proofs.Failing.{not_stated, not_block, not_module}
use Rattle.limbo_stating.proofs.laws.fails_or_states.Goals as goal

pub returns : goal.returns
returns c =
    let below : OneBelow = record {
      typed = c.one_typed.ensures.typed;
      value = c.one_typed.ensures.value;
      settled = c.settled_values.ensures.once;
      each = c.one_settled.ensures.each;
      name = c.one_thing.ensures.name;
      declared = c.one_declared.ensures;
    } in
    let none : NoneBelow = record {
      typed = c.fails_or_types.ensures.typed;
      value = c.fails_or_types.ensures.value;
      each = c.failing_values.ensures.each;
      declares = c.fails_or_declares.ensures;
    } in
    record {
      statement = λ v s p q k z g h. not_stated below none v p s k g z q h;
      block = λ v d p q k z g h. not_block below none v p d k g z q h;
      functions = λ m scopes fs ds e i k gs g h. not_module below none m scopes fs ds e k g gs i h;
    }
