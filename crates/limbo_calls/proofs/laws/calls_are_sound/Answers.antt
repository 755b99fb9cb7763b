use Rattle.limbo_calls.proofs.Calls.{call_fits, through_fits, construct_fits}
use Rattle.limbo_calls.proofs.Prints.{print_fits}
use Rattle.limbo_calls.proofs.laws.calls_are_sound.Goals as goal

pub returns : goal.returns
returns c = record { call = call_fits; call_through = through_fits; construct = construct_fits; print = print_fits }
