-- All that the object of a module has.
use Rattle.value_code.specs.Laws.{ObjectsHave}
use Rattle.value_code.proofs.Sizes.{sizes_agree}
use Rattle.value_code.proofs.Codes as codes
use Rattle.value_code.proofs.Types as types
use Rattle.value_code.proofs.Constants as constants

pub objects_have : ObjectsHave
objects_have = record {
  code = λ m n f pc i j c e h there. codes.code_stands m n f pc i j c e h there;
  next = λ m n f pc i e h. codes.next m n f pc i h;
  places = λ m n f pc. codes.places m n f pc;
  within = λ m n f pc r e l h. codes.within m n f pc r e l h;
  entry_place = λ m n f. codes.entry_place m n f;
  types = λ m n f pc i d e h k. types.types m n f pc i d e h k;
  frames = λ m n f e. types.frames m n f e;
  datum = λ m n f pc i k d e h there. constants.datum m n f pc i k d e h there;
  sizes_agree = λ c d i s. sizes_agree c d i s;
}
