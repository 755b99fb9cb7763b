-- What a node of a typed tree stores (Limbo Language Reference, assignment; Sys).
use Rattle.std.specs.Prelude.{ℕ, ◌≡◌, Some}
use Rattle.limbo_types.specs.Types.{Ty, ArrayOf, ChanOf}
use Rattle.limbo_typed.specs.Typed.{Expr, Node, Place, Copy, Send}
use Rattle.limbo_typed.specs.Sound.{type_of, type_at}
use Rattle.limbo_refusals.specs.Refusals.{NoneIs}
use Rattle.limbo_stores.specs.Stores.{holder, StoresInto, RefusesStore}
use Rattle.limbo_stores.specs.Heaps.{Heap, IsTyped, HasNoRing, Stores}
use Rattle.limbo_stores.specs.Laws.{NeverReaches}
use Rattle.limbo_context.specs.Context.{Context}

-- Nothing refuses what the node stores.
abbrev pub IsAllowed : Context → Node → Type 0
IsAllowed c n = NoneIs (RefusesStore c.adts c.fd n)

-- The node stores values of a type into an object of a type: into a place that the object holds, into an array from an index on, into a
-- channel.
pub data StoresIn : Node → (object part : Ty) → Type 0 where
  into_place : (n : Node) (p : Place) (object : Ty) → StoresInto n p → holder p ≡ Some object → StoresIn n object (type_at p)
  into_array : (array from value : Expr) (t : Ty) → type_of array ≡ ArrayOf t → StoresIn (Copy array from value) (ArrayOf t) t
  into_channel : (channel value : Expr) (t : Ty) → type_of channel ≡ ChanOf t → StoresIn (Send channel value) (ChanOf t) t

-- What the node stores never comes to hold the object into which it is stored: its type doesn't reach the object's.
abbrev pub NeverHoldsItself : Context → Node → Type 0
NeverHoldsItself c n = (object part : Ty) → StoresIn n object part → NeverReaches c.adts part object

-- A heap without a ring has none behind what the node stores either.
abbrev pub MakesNoRing : Context → Node → Type 0
MakesNoRing c n =
    (object part : Ty) → StoresIn n object part → (o : ℕ) (before after : Heap)
    → IsTyped c.adts before → HasNoRing before → Stores c.adts object part o before after → HasNoRing after
