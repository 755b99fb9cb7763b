use Rattle.limbo_stated_sound.proofs.Naming.{declared_named}
use Rattle.limbo_stated_sound.proofs.Modules.{stated_named, block_named, functions_named}
use Rattle.limbo_stated_sound.proofs.laws.lists_stay_named.Goals as goal

pub returns : goal.returns
returns c = record {
  declaration = declared_named;
  statement = λ v s p q z n h. stated_named v p s z q h n;
  block = λ v b p q z n h. block_named v p b z q h n;
  functions = functions_named;
}
