use Rattle.limbo_typed_sound.proofs.Patterns.{takes_sound}
use Rattle.limbo_typed_sound.proofs.Typed.{in_pattern}
use Rattle.limbo_typed_sound.proofs.laws.patterns_are_sound.Goals as goal

pub returns : goal.returns
returns c = λ m k b b' e p vs t s h g takes. takes_sound m vs p t takes (in_pattern m vs k s.types s.describes b e p b' h s.well s.numbers
    g)
