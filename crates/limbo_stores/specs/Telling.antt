-- What is told of a store.
use Rattle.limbo_refusals.specs.Refusals.{Refusal, NotPlace, CyclicStore, NoneIs}
use Rattle.limbo_stores.specs.declared.outcome.Store.{Store}
use Rattle.limbo_stores.specs.declared.outcome.Store.TheVariants.{Allowed, Opaque, Cyclic}

-- That it is allowed, where no refusal holds of it; else the first that holds: that it is into an opaque value comes first.
abbrev pub Tells : Store → (Refusal → Type 0) → Type 0
Tells Allowed Holds = NoneIs Holds
Tells Opaque Holds = Holds NotPlace
Tells Cyclic Holds = (Holds NotPlace → ⊥) × Holds CyclicStore
