use Rattle.limbo_calls.proofs.Calls.{one_call, one_through, one_construct}
use Rattle.limbo_calls.proofs.Prints.{one_print}
use Rattle.limbo_calls.proofs.laws.one_call.Goals as goal

pub returns : goal.returns
returns c = record { call = one_call; call_through = one_through; construct = one_construct; print = one_print }
