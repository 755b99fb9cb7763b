use Rattle.limbo_stated_sound.proofs.Whole.{function_sound, functions_sound}
use Rattle.limbo_stated_sound.proofs.laws.functions_are_sound.Goals as goal

pub returns : goal.returns
returns c = record { one = function_sound; all = functions_sound }
