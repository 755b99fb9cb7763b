use Rattle.limbo_stating.proofs.Lower.{OneBelow}
use Rattle.limbo_stating.proofs.Once.{one_stated, one_block, one_module}
use Rattle.limbo_stating.proofs.laws.one_statement.Goals as goal

pub returns : goal.returns
returns c =
    let below : OneBelow = record {
      typed = c.one_typed.ensures.typed;
      value = c.one_typed.ensures.value;
      settled = c.settled_values.ensures.once;
      each = c.one_settled.ensures.each;
      name = c.one_thing.ensures.name;
      declared = c.one_declared.ensures;
    } in
    record {
      statement = λ v s p q r y z h k. one_stated below v p s y z q r h k;
      block = λ v b p q r y z h k. one_block below v p b y z q r h k;
      functions = one_module below;
    }
