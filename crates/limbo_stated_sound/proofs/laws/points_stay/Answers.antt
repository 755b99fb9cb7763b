use Rattle.limbo_stated_sound.proofs.Standing.{known_of, stands_of}
use Rattle.limbo_stated_sound.proofs.Going.{fits_covered, go, go_all, go_block, go_arms}
use Rattle.limbo_stated_sound.proofs.Staying.{declared_known}
use Rattle.limbo_stated_sound.proofs.laws.points_stay.Goals as goal

pub returns : goal.returns
returns c = record {
  declaration = λ m name d p q z t s v i h.
      stands_of m q v (declared_known m t.types name d p q z (fits_covered m t q v) (known_of m p s) i h);
  statement = λ m a x p q z t s v i h. stands_of m q v (go m t a p x z q v (known_of m p s) i h);
  row = λ m a x p q z t s v i h. stands_of m q v (go_all m t a p x z q v (known_of m p s) i h);
  block = λ m a x p q z t s v i h. stands_of m q v (go_block m t a p x z q v (known_of m p s) i h);
  arms = λ m o a x p q hs bs t s v b i h. stands_of m q v (go_arms m t o a p x hs bs q v (known_of m p s) b i h);
}
