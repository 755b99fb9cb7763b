-- What is allowed never comes to hold itself, and makes no ring.
use Rattle.std.proofs.Common.{List, refl}
use Rattle.limbo_types.specs.Types.{Ty}
use Rattle.limbo_layout.specs.Adts.{Def}
use Rattle.limbo_typed.specs.Typed.{Node}
use Rattle.limbo_refusals.specs.Refusals.{CyclicStore}
use Rattle.limbo_adts.specs.Reaches.{Reaches}
use Rattle.limbo_stores.specs.Stores as stores
use Rattle.limbo_stores.specs.Stores.{Closes}
use Rattle.limbo_stores.specs.Laws.{NeverReaches}
use Rattle.limbo_stores.proofs.Places.{stores_never_close, copies_never_close, sends_never_close}
use Rattle.limbo_stores.proofs.Rings.{stores_make_no_ring}
use Rattle.limbo_context.specs.Context.{Context}
use Rattle.limbo_typed_stores.specs.Stored as stored
use Rattle.limbo_typed_stores.specs.Stored.{IsAllowed, StoresIn, NeverHoldsItself, MakesNoRing}

never_closes : (defs : List Def) (n : Node) → (Closes defs n → ⊥) → (object part : Ty) → StoresIn n object part
    → NeverReaches defs part object
never_closes defs _ none _ _ (stored.into_place n p object s h) =
    stores_never_close defs p object h (λ c. none (stores.by_place n p s c))
never_closes defs _ none _ _ (stored.into_array array from value t e) = copies_never_close defs array from value t e none
never_closes defs _ none _ _ (stored.into_channel channel value t e) = sends_never_close defs channel value t e none

pub never_holds : (c : Context) (n : Node) → IsAllowed c n → NeverHoldsItself c n
never_holds c n h object part s = never_closes c.adts n (h CyclicStore) object part s

pub no_ring : (c : Context) (n : Node) → IsAllowed c n → MakesNoRing c n
no_ring c n h object part s o before after typed none changes =
    let never : NeverReaches c.adts part object = never_holds c n h object part s in
    let apart : Reaches c.adts part object → ⊥ = λ r. never object r refl in
    let made = stores_make_no_ring c.adts object part o before after apart typed none changes in
    made.0
