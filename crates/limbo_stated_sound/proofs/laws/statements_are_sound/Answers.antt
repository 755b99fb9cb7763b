use Rattle.limbo_stated_sound.proofs.Standing.{known_of}
use Rattle.limbo_stated_sound.proofs.Stated.{stated, all_stated, block, arms_stated}
use Rattle.limbo_stated_sound.proofs.laws.statements_are_sound.Goals as goal

pub returns : goal.returns
returns c = record {
  statement = λ m f v x p q z t s d a r i h. stated m t f v p x z q d (known_of m p s) a r i h;
  row = λ m f v x p q z t s d a r i h. all_stated m t f v p x z q d (known_of m p s) a r i h;
  block = λ m f v x p q z t s d a r i h. block m t f v p x z q d (known_of m p s) a r i h;
  arms = λ m f o v x p q hs bs t s d b a r i h. arms_stated m t f o v p x hs bs q d (known_of m p s) b a r i h;
}
