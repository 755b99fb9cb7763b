use Rattle.limbo_typed_sound.specs.Describing.{IsWell}
use Rattle.limbo_typed_sound.proofs.Bodies.{defines_well, permitted_named}
use Rattle.limbo_typed_sound.proofs.Leading.{of_typed, of_value, of_pattern}
use Rattle.limbo_typed_sound.proofs.laws.bodies_stay_well.Goals as goal

pub returns : goal.returns
returns c = record {
  typed = λ m k b b' e x d w h.
      of_typed k (λ a z. IsWell m k a → IsWell m k z) (λ a i. i) (λ a y z f g i. g (f i))
      (λ a z s t p i j q. defines_well m k a z s t p q (permitted_named m k d t i j)) b e x b' h w;
  value = λ m k b b' e x d w h.
      of_value k (λ a z. IsWell m k a → IsWell m k z) (λ a i. i) (λ a y z f g i. g (f i))
      (λ a z s t p i j q. defines_well m k a z s t p q (permitted_named m k d t i j)) b e x b' h w;
  pattern = λ m k b b' e l d w h.
      of_pattern k (λ a z. IsWell m k a → IsWell m k z) (λ a i. i) (λ a y z f g i. g (f i))
      (λ a z s t p i j q. defines_well m k a z s t p q (permitted_named m k d t i j)) b e l b' h w;
}
