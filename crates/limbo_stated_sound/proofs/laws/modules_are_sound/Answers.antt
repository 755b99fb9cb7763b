use Rattle.limbo_stated_sound.proofs.Modules.{module_sound, checked_sound}
use Rattle.limbo_stated_sound.proofs.laws.modules_are_sound.Goals as goal

pub returns : goal.returns
returns c = record {
  functions = λ m name scopes ds k e gs ready proper are made. module_sound m name scopes ds k e gs ready proper are made;
  whole = λ m name scopes ds k e gs ready proper are made i d. checked_sound m name scopes ds k e gs ready proper are made i d;
}
