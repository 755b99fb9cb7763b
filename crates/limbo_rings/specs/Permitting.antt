-- What the checker allows to be stored is allowed in the sense of the meaning.
use Rattle.std.specs.Prelude.{List}
use Rattle.limbo_types.specs.Types.{Ty}
use Rattle.limbo_typed.specs.Typed as typed
use Rattle.limbo_typed.specs.Typed.{Module, Var}
use Rattle.limbo_layout.specs.Adts.{Def}
use Rattle.limbo_typed.specs.Sound.{SoundPlace}
use Rattle.limbo_stores.specs.Stores.{CanClose, Closes}
use Rattle.limbo_meaning.specs.Values.{Value}
use Rattle.limbo_meaning.specs.Places.{Place}
use Rattle.limbo_meaning.specs.Program.{way_of}
use Rattle.limbo_kept.specs.Permitting.{NeverBack}
use Rattle.limbo_kept.specs.Storing.{StoresWell}
use Rattle.limbo_rings.specs.Storing.{IsAllowed}

-- The type of the value with which a place begins: of a variable, an element or a target, of which it is a part.
abbrev pub root_type : typed.Place → Ty
root_type (typed.At t (typed.Field whole n)) = root_type whole
root_type (typed.At t (typed.Character text i)) = root_type text
root_type (typed.At t n) = t

-- A place of a checked module, with the values of its operands.
abbrev pub place_of : typed.Place → List Value → Place
place_of (typed.At t n) vs = record { type = t; way = way_of n; operands = vs }

-- Where nothing that is stored at a place of a module can close a ring, each write there is allowed.
abbrev pub AllowedIsAllowed : Type 0
AllowedIsAllowed =
    (m : Module) (variables : List Var) (p : typed.Place) → SoundPlace m variables p → (CanClose m.adts p → ⊥) →
    (vs : List Value) → IsAllowed m.adts (root_type p) (place_of p vs)

-- A node that no store of closes, as the checker asks of each, stores only what never comes to hold the object into which it is stored.
abbrev pub WhatDoesNotCloseIsAllowed : Type 0
WhatDoesNotCloseIsAllowed = (defs : List Def) (n : typed.Node) → (Closes defs n → ⊥) → StoresWell NeverBack defs n
