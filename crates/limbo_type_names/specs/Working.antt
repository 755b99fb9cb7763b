-- What is known while types are found.
use Rattle.std.specs.Prelude.{◌≡◌, ◌<◌, ◌⊎◌, ℕ, List, Option, None, Some, Bool, length, slice_get}
use Rattle.std.specs.List.{Contains}
use Rattle.inf_text.specs.declared.span.Span.{Span}
use Rattle.limbo_tree.specs.declared.types.TypeTree as code_type
use Rattle.limbo_types.specs.Types.{Ty}
use Rattle.limbo_types.specs.View.{view_ty}
use Rattle.limbo_entries.specs.Entries.{Entry}
use Rattle.limbo_entries.specs.View.{entries_of}
use Rattle.limbo_naming.specs.declared.naming.Naming.{Naming}
use Rattle.limbo_naming.specs.Naming.{Lacks}
use Rattle.limbo_naming.specs.Qualified.{Qualified}
use Rattle.limbo_naming.specs.Direct.{IsDeclared}
use Rattle.limbo_naming.specs.Told.{Knows}
use Rattle.limbo_type_names.specs.declared.counted.Counted.{Counted}
use Rattle.limbo_type_names.specs.declared.known.Known.{Known}
use Rattle.limbo_type_names.specs.declared.fault.TypeFault.{TypeFault}
use Rattle.limbo_type_names.specs.declared.fault.TypeFault.TheVariants.{NoMemory, Unknown, NotAType}
use Rattle.limbo_type_names.specs.Numbers.{AreNumbers}
use Rattle.limbo_type_names.specs.Means.{Stands, IsNoType, IsNoAdt, NamesNoType}
use Rattle.limbo_type_names.specs.Writes.{HasUnknown, HasNoType}
use Rattle.limbo_type_names.specs.Needs.{NeedsType}

abbrev pub Types : Type 0
Types = List (Option Counted)

-- the declarations whose names are told
abbrev pub entries_in : Naming → List Entry
entries_in n = entries_of n.table.now.entries.items

-- What a declaration stands for, or that it stands for no type.
abbrev pub Settles : List Entry → (m : ℕ) → (k : ℕ) → Option Counted → Type 0
Settles es m k None = IsNoType es m k
Settles es m k (Some c) = Stands es m k (view_ty c.ty)

-- It is known of a declaration what it stands for.
pub record IsDone (es : List Entry) (m : ℕ) (types : Types) (k : ℕ) : Type 0 where
  pub found : Option Counted
  pub there : slice_get types k ≡ Some found
  pub settles : Settles es m k found

-- It is known of each.
pub record AreTypes (es : List Entry) (m : ℕ) (types : Types) : Type 0 where
  pub many : length types ≡ length es
  pub done : (k : ℕ) → k < length es → IsDone es m types k

-- ---- by what the code knows

abbrev pub IsKnown : Known → ℕ → Type 0
IsKnown s k = IsDone (entries_in s.naming.now) s.naming.now.implemented s.types.now k

pub record Sees (s : Known) : Type 0 where
  pub names : Knows s.naming.now
  pub numbers : AreNumbers (entries_in s.naming.now) s.numbers.now

-- It is known what each of these names stands for that is written in a scope.
abbrev pub AreReady : Known → (scope : Option ℕ) → List Qualified → Type 0
AreReady s scope names =
    (q : Qualified) (k : ℕ) → Contains names q → IsDeclared (entries_in s.naming.now) s.naming.now.implemented scope q k → IsKnown s k

-- A declaration is no type, or stands for one that is no adt as a value.
abbrev pub StandsForNoAdt : List Entry → (m : ℕ) → (k : ℕ) → Type 0
StandsForNoAdt es m k = IsNoType es m k ⊎ ((t : Ty) × Stands es m k t × IsNoAdt t)

-- What is said of one name that stands at a place.
abbrev pub FailsName : List Entry → (m : ℕ) → (scope : Option ℕ) → Qualified → (behind_ref : Bool) → Span → TypeFault → Type 0
FailsName es m scope q r at NoMemory = Unit {0}
FailsName es m scope q r at (Unknown s) = (s ≡ at) × Lacks es m scope q
FailsName es m scope q r at (NotAType s) = (s ≡ at) × NamesNoType es m scope q r

-- One of these types fails so.
abbrev pub FailsPart : List Entry → (m : ℕ) → (scope : Option ℕ) → List code_type.TypeTree → TypeFault → Type 0
FailsPart es m scope parts NoMemory = Unit {0}
FailsPart es m scope parts (Unknown at) = (p : code_type.TypeTree) × Contains parts p × HasUnknown es m scope p at
FailsPart es m scope parts (NotAType at) = (p : code_type.TypeTree) × Contains parts p × HasNoType es m scope p at

-- ---- needs

-- The row has what some names name, and nothing else.
pub record AreNeeds (n : Naming) (scope : Option ℕ) (names : List Qualified) (row : List ℕ) : Type 0 where
  pub sound : (k : ℕ) → Contains row k → (q : Qualified) × Contains names q × IsDeclared (entries_in n) n.implemented scope q k
  pub complete : (q : Qualified) (k : ℕ) → Contains names q → IsDeclared (entries_in n) n.implemented scope q k → Contains row k

-- The row has what a declaration needs, and nothing else.
pub record AreNeedsOf (n : Naming) (k : ℕ) (row : List ℕ) : Type 0 where
  pub sound : (j : ℕ) → Contains row j → NeedsType (entries_in n) n.implemented k j
  pub complete : (j : ℕ) → NeedsType (entries_in n) n.implemented k j → Contains row j

-- Each stands behind all that it needs.
abbrev pub AreBehind : Naming → (order : List ℕ) → Type 0
AreBehind n order =
    (i k r : ℕ) → slice_get order i ≡ Some k → NeedsType (entries_in n) n.implemented k r
    → (j : ℕ) × (j < i) × (slice_get order j ≡ Some r)

-- One more is known.
pub record Sets (n : Naming) (k : ℕ) (old new : Types) : Type 0 where
  pub same_length : length new ≡ length old
  pub kept : (j : ℕ) → IsDone (entries_in n) n.implemented old j → IsDone (entries_in n) n.implemented new j
  pub here : IsDone (entries_in n) n.implemented new k
