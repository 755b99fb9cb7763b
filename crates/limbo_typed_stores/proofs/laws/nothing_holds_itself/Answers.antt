use Rattle.limbo_typed_stores.proofs.Told.{never_holds}
use Rattle.limbo_typed_stores.specs.Stored.{NeverHoldsItself}
use Rattle.limbo_typed_stores.proofs.Typed.{in_typed, in_value, in_thing, in_pattern}
use Rattle.limbo_typed_stores.proofs.laws.nothing_holds_itself.Goals as goal

pub returns : goal.returns
returns c = record {
  typed = λ k b b' e x h. in_typed k (NeverHoldsItself k) (never_holds k) b e x b' h;
  value = λ k b b' e x h. in_value k (NeverHoldsItself k) (never_holds k) b e x b' h;
  thing = λ k b b' e t h. in_thing k (NeverHoldsItself k) (never_holds k) b e t b' h;
  pattern = λ k b b' e p h. in_pattern k (NeverHoldsItself k) (never_holds k) b e p b' h;
}
