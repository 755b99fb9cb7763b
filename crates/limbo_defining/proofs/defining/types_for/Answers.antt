use Rattle.std.proofs.Common.{◌∙◌, sym}
use Rattle.limbo_defining.proofs.Lefts.{no_tuple, tuple_is, other_many}
use Rattle.limbo_defining.proofs.defining.types_for.Goals as goal

pub returns-then-items-len-clause-tuple : goal.returns-then-items-len-clause-tuple
returns-then-items-len-clause-tuple c = tuple_is c.args.t.now c.in-Tuple.types c.deref.result.now c.in-Tuple.is c.deref.ensures.value

pub returns-else-items-len-clause-none : goal.returns-else-items-len-clause-none
returns-else-items-len-clause-none c = other_many c.args.items.now c.args.t.now c.in-Tuple.types c.in-Tuple.is (λ e. c.if-items-len.false (e ∙ sym (c.len.ensures ∙ c.in-Tuple.types.ok.0)))

pub returns-in_default : goal.returns-in_default
returns-in_default c = record { tuple = tt; many = tt; none = no_tuple c.args.items.now c.args.t.now c.in_default.not-Tuple }
