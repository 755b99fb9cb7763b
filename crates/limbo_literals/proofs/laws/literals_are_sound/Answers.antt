use Rattle.limbo_literals.proofs.Literals.{tuple_fits, list_fits, fill_fits, size_fits, make_fits}
use Rattle.limbo_literals.proofs.laws.literals_are_sound.Goals as goal

pub returns : goal.returns
returns c = record { tuple = tuple_fits; list = list_fits; filled_array = fill_fits; new_array = size_fits; channel = make_fits }
