-- What names name (Limbo Language Reference, scope, modules and adts).
use Rattle.std.specs.Prelude.{◌≡◌, ℕ, Bool, true, false, List, Option, None, Some}
use Rattle.limbo_declarations.specs.Rows.{Declared, Module, Adt, Case, Variable}
use Rattle.limbo_entries.specs.Entries.{Entry, IsEntry, IsMember, HasNone, Finds}
use Rattle.limbo_naming.specs.Qualified.{Qualified, Simple, Member, Part, row_stands_for}

abbrev pub is_variable : Declared → Bool
is_variable (Variable t value) = true
is_variable _ = false

abbrev pub is_module : Declared → Bool
is_module (Module ms) = true
is_module _ = false

abbrev pub is_adt : Declared → Bool
is_adt (Adt ms pick) = true
is_adt _ = false

abbrev pub is_variant : Declared → Bool
is_variant (Case fs) = true
is_variant _ = false

-- An adt and a variant have parts.
abbrev pub has_parts : Declared → Bool
has_parts (Adt ms pick) = true
has_parts (Case fs) = true
has_parts _ = false

-- The module of this number has a member of this name. Its variables are for the implementing module alone.
pub record IsMemberOf (es : List Entry) (o : ℕ) (name : List ℕ) (k : ℕ) : Type 0 where
  pub outer : Entry
  pub there : IsEntry es o outer
  pub of_module : is_module outer.row.means ≡ true
  pub member : IsMember es (Some o) name k
  pub seen : is_variable member.entry.row.means ≡ false

-- The adt of this number, or the adt of the variant of this number, has a part of this name: a member or a variant of the adt. A
-- variant's own fields come first.
pub data IsPartOf (es : List Entry) (o : ℕ) (name : List ℕ) (k : ℕ) : Type 0 where
  of_adt : (outer : Entry) → IsEntry es o outer → is_adt outer.row.means ≡ true → IsMember es (Some o) name k → IsPartOf es o name k
  of_variant : (outer : Entry) → IsEntry es o outer → is_variant outer.row.means ≡ true → IsMember es (Some o) name k
      → IsPartOf es o name k
  of_its_adt : (outer : Entry) → IsEntry es o outer → is_variant outer.row.means ≡ true → HasNone es (Some o) name
      → IsMember es outer.within name k → IsPartOf es o name k

-- What a declaration leads to, and what a name that is written in a scope names; the implemented module has the number `m`. Names of
-- types, imported names and variables are followed to a module, an adt, or whatever stands for itself. Where they go in a circle,
-- they lead nowhere.
mutual
  pub data Leads (es : List Entry) (m : ℕ) : ℕ → ℕ → Type 0 where
    itself : (j : ℕ) (e : Entry) → IsEntry es j e → row_stands_for e.row ≡ None → Leads es m j j
    onward : (j r : ℕ) (e : Entry) (q : Qualified) → IsEntry es j e → row_stands_for e.row ≡ Some q
        → Names es m e.within q r → Leads es m j r

  pub data Names (es : List Entry) (m : ℕ) : Option ℕ → Qualified → ℕ → Type 0 where
    simple : (scope : Option ℕ) (name : List ℕ) (k r : ℕ) → Finds es m name scope k → Leads es m k r
        → Names es m scope (Simple name) r
    member : (scope : Option ℕ) (q : Qualified) (name : List ℕ) (o k r : ℕ) → Names es m scope q o → IsMemberOf es o name k
        → Leads es m k r → Names es m scope (Member q name) r
    part : (scope : Option ℕ) (q : Qualified) (name : List ℕ) (o k r : ℕ) → Names es m scope q o → IsPartOf es o name k
        → Leads es m k r → Names es m scope (Part q name) r

-- A name isn't there: nothing of it is found in the scope, or the module or adt before it has no such member or part.
pub data Lacks (es : List Entry) (m : ℕ) (scope : Option ℕ) : Qualified → Type 0 where
  unknown : (name : List ℕ) → ((k : ℕ) → Finds es m name scope k → ⊥) → Lacks es m scope (Simple name)
  no_member : (q : Qualified) (name : List ℕ) (o : ℕ) (e : Entry) → Names es m scope q o → IsEntry es o e
      → is_module e.row.means ≡ true → ((k : ℕ) → IsMemberOf es o name k → ⊥) → Lacks es m scope (Member q name)
  no_part : (q : Qualified) (name : List ℕ) (o : ℕ) (e : Entry) → Names es m scope q o → IsEntry es o e
      → has_parts e.row.means ≡ true → ((k : ℕ) → IsPartOf es o name k → ⊥) → Lacks es m scope (Part q name)
  before_member : (q : Qualified) (name : List ℕ) → Lacks es m scope q → Lacks es m scope (Member q name)
  before_part : (q : Qualified) (name : List ℕ) → Lacks es m scope q → Lacks es m scope (Part q name)
