use Rattle.limbo_typed_sound.specs.Laws.{Grows}
use Rattle.limbo_typed_sound.proofs.Bodies.{stays, goes_on, defines_grows}
use Rattle.limbo_typed_sound.proofs.Leading.{of_typed, of_value, of_pattern}
use Rattle.limbo_typed_sound.proofs.laws.variables_only_grow.Goals as goal

pub returns : goal.returns
returns c = record {
  typed = λ k b b' e x h. of_typed k Grows stays goes_on (λ b d e t p i s j. defines_grows b d e t p j) b e x b' h;
  value = λ k b b' e x h. of_value k Grows stays goes_on (λ b d e t p i s j. defines_grows b d e t p j) b e x b' h;
  pattern = λ k b b' e q h. of_pattern k Grows stays goes_on (λ b d e t p i s j. defines_grows b d e t p j) b e q b' h;
}
