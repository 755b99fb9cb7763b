use Rattle.limbo_typed_sound.proofs.Ready.{sound, asked}
use Rattle.limbo_typed_sound.proofs.Typed.{in_typed, in_value}
use Rattle.limbo_typed_sound.proofs.laws.typed_trees_are_sound.Goals as goal

pub returns : goal.returns
returns c = record {
  typed = λ m k b b' e x vs s h g i. sound m vs x (in_typed m vs k s.types s.describes b e x b' h s.well s.numbers g) i;
  value = λ m k b b' e x vs s h g i. sound m vs x (in_value m vs k s.types s.describes b e x b' h s.well s.numbers g) i;
  typed_as = λ m k b b' e x vs t s h g n f a.
      asked m vs t x f a (in_typed m vs k s.types s.describes b e x b' h s.well s.numbers g) n;
  value_as = λ m k b b' e x vs t s h g n f a.
      asked m vs t x f a (in_value m vs k s.types s.describes b e x b' h s.well s.numbers g) n;
}
