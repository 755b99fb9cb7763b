use Rattle.std.proofs.Common.{◌∙◌, arith}
use Rattle.std.proofs.lemmas.Option.{slice_get_within, slice_get-get_or}
use Rattle.limbo_constant_values.proofs.Filling.{ready_next, done_more}
use Rattle.limbo_constant_values.proofs.values.fill.Goals as goal

pub set_value-requires-clause-ready : goal.set_value-requires-clause-ready
set_value-requires-clause-ready c =
    ready_next c.args.naming.now c.requires.names c.args.order.now c.requires.behind c.loop-number.values.items c.loop-number.invariant.sound c.loop-number.number-index _
    (slice_get-get_or c.args.order.now c.loop-number.number-index 0 c.loop-number-test.true) c.loop-number.invariant.done

pub loop-number-preserved : goal.loop-number-preserved
loop-number-preserved c = record {
  many = c.in_ok-set_value.ensures.sets.same_length ∙ c.loop-number.invariant.many;
  sound = c.in_ok-set_value.ensures.sets.sound;
  done =
      done_more c.args.naming.now c.requires.names c.args.order.now c.loop-number.values.items c.set_value.new.values.items c.loop-number.number-index _
      c.in_ok-set_value.ensures.sets (slice_get-get_or c.args.order.now c.loop-number.number-index 0 c.loop-number-test.true) c.loop-number.invariant.done;
}

pub returns-clause-done : goal.returns-clause-done
returns-clause-done c = λ i n h. let l = slice_get_within c.args.order.now i n h in c.loop-number.invariant.done i n (omega arith) h
