use Rattle.limbo_types.specs.Types.{ChanOf, Tuple}
use Rattle.limbo_types.specs.View.{tys_of}
use Rattle.limbo_typed.specs.declared.operation.Operation.TheVariants as op
use Rattle.limbo_typed.specs.Typed.{Of, Apply, Channel, Absent}
use Rattle.limbo_typed.specs.Sound.{types_of}
use Rattle.limbo_literals.proofs.Literals.{one_equal, one_list, one_fill, one_size}
use Rattle.limbo_literals.proofs.laws.one_literal.Goals as goal

pub returns : goal.returns
returns c = record {
  tuple = λ es e f h k. one_equal e f (Of (Tuple (tys_of (types_of es))) (Apply op.Tuple es)) h k;
  list = one_list;
  filled_array = one_fill;
  new_array = one_size;
  channel = λ t e f h k. one_equal e f (Of (ChanOf t) (Channel Absent)) h k;
}
