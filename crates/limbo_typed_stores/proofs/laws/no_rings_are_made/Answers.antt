use Rattle.limbo_typed_stores.proofs.Told.{no_ring}
use Rattle.limbo_typed_stores.specs.Stored.{MakesNoRing}
use Rattle.limbo_typed_stores.proofs.Typed.{in_typed, in_value, in_thing, in_pattern}
use Rattle.limbo_typed_stores.proofs.laws.no_rings_are_made.Goals as goal

pub returns : goal.returns
returns c = record {
  typed = λ k b b' e x h. in_typed k (MakesNoRing k) (no_ring k) b e x b' h;
  value = λ k b b' e x h. in_value k (MakesNoRing k) (no_ring k) b e x b' h;
  thing = λ k b b' e t h. in_thing k (MakesNoRing k) (no_ring k) b e t b' h;
  pattern = λ k b b' e p h. in_pattern k (MakesNoRing k) (no_ring k) b e p b' h;
}
