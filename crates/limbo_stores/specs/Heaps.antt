-- Heaps, as far as it matters which values name which.
use Rattle.std.specs.Prelude.{ℕ, ◌≡◌, ◌⊎◌, List, Option, Some}
use Rattle.limbo_types.specs.Types.{Ty}
use Rattle.limbo_layout.specs.Adts.{Def, Has}
use Rattle.limbo_adts.specs.Reaches.{Part, Reaches, plain}
use Rattle.limbo_typed.specs.Fitting.{HasNil}

-- The type of each value that there is, and the values that each names.
pub record Heap : Type 0 where
  pub type_of : ℕ → Option Ty
  pub names : ℕ → List ℕ

-- A value of one type may name one of another: a part of the first type reaches the second.
pub record MayName (defs : List Def) (of to : Ty) : Type 0 where
  pub part : Ty
  pub is_part : Part defs of part
  pub reaches : Reaches defs part to

-- Value x may name value y, as their types say.
pub record IsTypedName (defs : List Def) (h : Heap) (x y : ℕ) : Type 0 where
  pub of : Ty
  pub to : Ty
  pub x_is : h.type_of x ≡ Some of
  pub y_is : h.type_of y ≡ Some to
  pub may : MayName defs of to

-- What is on the heap is what references and strings name, and each value names others as its type lets it.
pub record IsTyped (defs : List Def) (h : Heap) : Type 0 where
  pub on_heap : (x : ℕ) (t : Ty) → h.type_of x ≡ Some t → HasNil t
  pub names : (x y : ℕ) → Has (h.names x) y → IsTypedName defs h x y

-- Names lead from x to y, one or more.
pub data Leads (h : Heap) : ℕ → ℕ → Type 0 where
  at_once : (x y : ℕ) → Has (h.names x) y → Leads h x y
  further : (x y z : ℕ) → Has (h.names x) y → Leads h y z → Leads h x z

-- No value names itself, through any number of names.
abbrev pub HasNoRing : Heap → Type 0
HasNoRing h = (x : ℕ) → Leads h x x → ⊥

-- Value y may stand in a part of this type.
pub record Stands (defs : List Def) (h : Heap) (part : Ty) (y : ℕ) : Type 0 where
  pub to : Ty
  pub y_is : h.type_of y ≡ Some to
  pub reached : Reaches defs part to

-- A store into a part of object o: values keep their types, and each new name is o's, of a value that may stand in the part. Names may go.
-- The type by which the object is held may be that of a `ref` of its adt, where its own is that of a `ref` of the variant.
pub record Stores (defs : List Def) (object part : Ty) (o : ℕ) (before after : Heap) : Type 0 where
  pub own : Ty
  pub o_is : before.type_of o ≡ Some own
  pub held_as : plain own ≡ plain object
  pub types_stay : (x : ℕ) → after.type_of x ≡ before.type_of x
  pub names : (x y : ℕ) → Has (after.names x) y → Has (before.names x) y ⊎ ((x ≡ o) × Stands defs before part y)

-- A part of this type lies in an object of that type: what it may name, the object may name.
abbrev pub LiesIn : List Def → (object part : Ty) → Type 0
LiesIn defs object part = (to : Ty) → HasNil to → Reaches defs part to → MayName defs object to
