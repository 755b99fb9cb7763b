use Rattle.limbo_typed_stores.specs.Stored.{IsAllowed}
use Rattle.limbo_typed_stores.proofs.Typed.{in_typed, in_value, in_thing, in_pattern}
use Rattle.limbo_typed_stores.proofs.laws.stores_stand.Goals as goal

pub returns : goal.returns
returns c = record {
  typed = λ k b b' e x h. in_typed k (IsAllowed k) (λ n h. h) b e x b' h;
  value = λ k b b' e x h. in_value k (IsAllowed k) (λ n h. h) b e x b' h;
  thing = λ k b b' e t h. in_thing k (IsAllowed k) (λ n h. h) b e t b' h;
  pattern = λ k b b' e p h. in_pattern k (IsAllowed k) (λ n h. h) b e p b' h;
}
