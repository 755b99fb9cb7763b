-- What may be stored where. Values on the heap are reclaimed as soon as nothing names them: so there is a choice by which no value comes to
-- hold itself.
use Rattle.std.specs.Prelude.{◌≡◌, List, Option, None, Some}
use Rattle.limbo_types.specs.Types as ty
use Rattle.limbo_types.specs.Types.{Ty}
use Rattle.limbo_layout.specs.Adts.{Def}
use Rattle.limbo_adts.specs.Reaches.{Reaches}
use Rattle.limbo_meaning.specs.Places.{Root, Element, Target}

-- What may be stored: whatever fits, or only what never comes to hold the object into which it is stored.
pub data Stores : Type 0 where
  Anything : Stores
  NeverBack : Stores

-- Values of a type may be stored into an object of a type.
abbrev pub MayStore : Stores → List Def → (object part : Ty) → Type 0
MayStore Anything defs object part = Unit {0}
MayStore NeverBack defs object part = Reaches defs part object → ⊥

-- The type of the heap object in which a place lies that begins with a value of a type: none holds a variable.
abbrev pub holder : Root → Ty → Option Ty
holder Element t = Some (ty.ArrayOf t)
holder Target (ty.Adt n) = Some (ty.RefAdt n)
holder _ t = None

-- Values of a type may be written at a place that begins so.
abbrev pub MayWrite : Stores → List Def → Root → (root part : Ty) → Type 0
MayWrite stores defs at root part = (object : Ty) → holder at root ≡ Some object → MayStore stores defs object part
