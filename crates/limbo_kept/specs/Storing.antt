-- A module stores only what may be stored. What it receives or sends on channels isn't asked here: that has no meaning yet.
use Rattle.std.specs.Prelude.{◌≡◌, List, Some}
use Rattle.limbo_types.specs.Types.{Ty, ArrayOf}
use Rattle.limbo_layout.specs.Adts.{Def}
use Rattle.limbo_typed.specs.Typed.{Node, Copy, Place, Function, Module}
use Rattle.limbo_typed.specs.Sound.{Each, type_of, type_at}
use Rattle.limbo_stores.specs.Stores.{holder, StoresInto}
use Rattle.limbo_kept.specs.Permitting.{Stores, MayStore}
use Rattle.limbo_kept.specs.Nodes.{InStmts}

-- What is copied into an array may be stored into it.
abbrev pub CopiesWell : Stores → List Def → Node → Type 0
CopiesWell stores defs (Copy array from value) = (t : Ty) → type_of array ≡ ArrayOf t → MayStore stores defs (ArrayOf t) t
CopiesWell stores defs _ = Unit {0}

-- What a node stores may be stored: into each of its places that a heap object holds, and into an array by copying.
pub record StoresWell (stores : Stores) (defs : List Def) (n : Node) : Type 0 where
  pub places : (p : Place) → StoresInto n p → (object : Ty) → holder p ≡ Some object → MayStore stores defs object (type_at p)
  pub copies : CopiesWell stores defs n

-- Each node in the body of each function stores what may be stored.
abbrev pub StoresAllowed : Stores → Module → Type 0
StoresAllowed stores m = Each (λ (f : Function). InStmts (StoresWell stores m.adts) f.body) m.functions
