-- What holds of stores that aren't refused.
use Rattle.std.specs.Prelude.{ℕ, ◌≡◌, List, Some}
use Rattle.limbo_types.specs.Types.{Ty, ArrayOf, ChanOf}
use Rattle.limbo_layout.specs.Adts.{Def}
use Rattle.limbo_adts.specs.Reaches.{Part, Reaches, plain}
use Rattle.limbo_typed.specs.Typed.{Expr, Place, Copy, Send, Module, Var}
use Rattle.limbo_typed.specs.Sound.{type_of, type_at, SoundPlace}
use Rattle.limbo_stores.specs.Stores.{holder, CanClose, Closes}
use Rattle.limbo_stores.specs.Heaps.{Heap, IsTyped, HasNoRing, LiesIn, Stores}

-- Whatever a value of the first type comes to hold, it isn't of the second.
abbrev pub NeverReaches : List Def → Ty → Ty → Type 0
NeverReaches defs t object = (u : Ty) → Reaches defs t u → plain u ≡ plain object → ⊥

-- What is stored into a place that can't close never comes to hold the object that holds the place.
abbrev pub StoresNeverClose : Type 0
StoresNeverClose =
    (defs : List Def) (p : Place) (object : Ty) → holder p ≡ Some object → (CanClose defs p → ⊥) → NeverReaches defs (type_at p) object

-- What is copied into an array, where that isn't refused, never comes to hold the array.
abbrev pub CopiesNeverClose : Type 0
CopiesNeverClose =
    (defs : List Def) (array from value : Expr) (t : Ty) → type_of array ≡ ArrayOf t → (Closes defs (Copy array from value) → ⊥)
    → NeverReaches defs t (ArrayOf t)

-- What is sent on a channel, where that isn't refused, never comes to hold the channel.
abbrev pub SendsNeverClose : Type 0
SendsNeverClose =
    (defs : List Def) (channel value : Expr) (t : Ty) → type_of channel ≡ ChanOf t → (Closes defs (Send channel value) → ⊥)
    → NeverReaches defs t (ChanOf t)

-- A store into a part whose type doesn't reach the object's makes no ring; and where the part lies in the object, the heap stays typed.
abbrev pub StoresMakeNoRing : Type 0
StoresMakeNoRing =
    (defs : List Def) (object part : Ty) (o : ℕ) (before after : Heap) → (Reaches defs part object → ⊥)
    → IsTyped defs before → HasNoRing before → Stores defs object part o before after
    → HasNoRing after × (LiesIn defs object part → IsTyped defs after)

-- A place of a checked module lies in the object that holds it.
abbrev pub PlacesLieInHolders : Type 0
PlacesLieInHolders =
    (m : Module) (variables : List Var) (p : Place) (object : Ty) → SoundPlace m variables p → holder p ≡ Some object
    → LiesIn m.adts object (type_at p)

-- So does an element in its array, and a value that was sent in its channel.
abbrev pub PartsLieIn : Type 0
PartsLieIn = (defs : List Def) (object part : Ty) → Part defs object part → LiesIn defs object part
