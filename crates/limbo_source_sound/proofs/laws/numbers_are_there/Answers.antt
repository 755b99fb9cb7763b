use Rattle.limbo_source_sound.proofs.Numbers.{owners_there, fd_there, system_there}
use Rattle.limbo_source_sound.proofs.laws.numbers_are_there.Goals as goal

pub returns : goal.returns
returns c = record {
  owners = λ top es m name k table is. owners_there top es m name k table is;
  fd = λ top es m n name k table is h. fd_there top es m name k table is n h;
  system = λ es m n name k is h. system_there es m name k is n h;
}
