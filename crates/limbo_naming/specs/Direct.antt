-- What a written name names, itself not followed.
use Rattle.std.specs.Prelude.{◌≡◌, ◌↔◌, ℕ, List, Option}
use Rattle.limbo_entries.specs.Entries.{Entry, AreOnce, Finds}
use Rattle.limbo_entries.specs.View.{entries_of}
use Rattle.limbo_naming.specs.declared.naming.Named.{Named}
use Rattle.limbo_naming.specs.declared.naming.Named.TheVariants as named
use Rattle.limbo_naming.specs.declared.naming.Naming.{Naming}
use Rattle.limbo_naming.specs.Qualified.{Qualified, Simple, Member, Part}
use Rattle.limbo_naming.specs.Naming.{Leads, Names, Lacks, IsMemberOf, IsPartOf}

-- A name that is written in a scope names the declaration of this number: what stands before `->` or `.` is followed to a module or an
-- adt, what is named in it isn't followed. So it is known there whether it is declared by `type`, as a variable, or imported.
pub data IsDeclared (es : List Entry) (m : ℕ) (scope : Option ℕ) : Qualified → ℕ → Type 0 where
  simple : (name : List ℕ) (k : ℕ) → Finds es m name scope k → IsDeclared es m scope (Simple name) k
  member : (q : Qualified) (name : List ℕ) (o k : ℕ) → Names es m scope q o → IsMemberOf es o name k
      → IsDeclared es m scope (Member q name) k
  part : (q : Qualified) (name : List ℕ) (o k : ℕ) → Names es m scope q o → IsPartOf es o name k → IsDeclared es m scope (Part q name) k

-- What is told of it: its number; that the name isn't there; or that what stands before it has no members or parts, or names nothing.
abbrev pub TellsDeclared : List Entry → (m : ℕ) → (scope : Option ℕ) → Qualified → Named → Type 0
TellsDeclared es m scope q (named.Found k) = IsDeclared es m scope q k
TellsDeclared es m scope q named.Unknown = Lacks es m scope q
TellsDeclared es m scope q named.Nothing = (Lacks es m scope q → ⊥) × ((k : ℕ) → IsDeclared es m scope q k → ⊥)

abbrev pub DeclaresOf : Naming → (scope : Option ℕ) → Qualified → Named → Type 0
DeclaresOf n scope q result = TellsDeclared (entries_of n.table.now.entries.items) n.implemented scope q result

-- ---- what holds of it, where each scope has each name once

abbrev pub OneDeclared : Type 0
OneDeclared =
    (es : List Entry) (m : ℕ) (scope : Option ℕ) (q : Qualified) (j k : ℕ)
    → AreOnce es → IsDeclared es m scope q j → IsDeclared es m scope q k → j ≡ k

-- What a name names is what its declaration leads to.
abbrev pub NamesByDeclared : Type 0
NamesByDeclared =
    (es : List Entry) (m : ℕ) (scope : Option ℕ) (q : Qualified) (r : ℕ)
    → Names es m scope q r ↔ ((k : ℕ) × IsDeclared es m scope q k × Leads es m k r)

abbrev pub LacksOrDeclares : Type 0
LacksOrDeclares =
    (es : List Entry) (m : ℕ) (scope : Option ℕ) (q : Qualified) (k : ℕ)
    → AreOnce es → Lacks es m scope q → IsDeclared es m scope q k → ⊥
