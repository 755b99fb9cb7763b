-- Names that are written and aren't there.
use Rattle.std.specs.Prelude.{ℕ, List, Option, None, Some}
use Rattle.std.specs.List.{Contains}
use Rattle.inf_text.specs.declared.span.Span.{Span}
use Rattle.limbo_entries.specs.Entries.{Entry, IsEntry}
use Rattle.limbo_entries.specs.View.{entries_of}
use Rattle.limbo_naming.specs.Qualified.{Qualified}
use Rattle.limbo_naming.specs.Naming.{Lacks}
use Rattle.limbo_naming.specs.declared.naming.Naming.{Naming}
use Rattle.limbo_unknown.specs.Written.{written}

-- A declaration writes a name that isn't there in its scope; the implemented module has the number `m`.
pub record HasUnknown (es : List Entry) (m : ℕ) : Type 0 where
  pub number : ℕ
  pub entry : Entry
  pub there : IsEntry es number entry
  pub name : Qualified
  pub writes : Contains (written entry.row) name
  pub lacks : Lacks es m entry.within name

-- One of these names isn't there.
pub record LacksOne (es : List Entry) (m : ℕ) (scope : Option ℕ) (names : List Qualified) : Type 0 where
  pub name : Qualified
  pub among : Contains names name
  pub lacks : Lacks es m scope name

abbrev pub LacksOneOf : Naming → Option ℕ → List Qualified → Type 0
LacksOneOf n scope names = LacksOne (entries_of n.table.now.entries.items) n.implemented scope names

-- What is told of names: a place where one that isn't there stands, or nothing where all are there.
abbrev pub IsTold : Naming → Option ℕ → List Qualified → Option Span → Type 0
IsTold n scope names None = LacksOneOf n scope names → ⊥
IsTold n scope names (Some at) = LacksOneOf n scope names
