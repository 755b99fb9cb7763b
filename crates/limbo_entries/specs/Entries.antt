-- The declarations of the top level and of all that stands inside them, by numbers (Limbo Language Reference, declarations and scope).
use Rattle.std.specs.Prelude.{◌≡◌, ℕ, ◌+◌, ◌<◌, List, [], ◌∷◌, ◌++◌, map, Option, None, Some, slice_get}
use Rattle.std.specs.List.{Contains}
use Rattle.limbo_declarations.specs.Rows.{Row, Declared, Module, Adt, Case, rows_of_members, rows_of_adt, rows_of_fields}

-- What a declaration declares inside: the members of a module, the members and variants of an adt, the fields of a variant.
abbrev pub inside_of : (path : List ℕ) → Declared → List Row
inside_of p (Module ms) = rows_of_members p ms
inside_of p (Adt ms pick) = rows_of_adt p ms pick
inside_of p (Case fs) = rows_of_fields p fs
inside_of p _ = []

abbrev pub inside : Row → List Row
inside r = inside_of r.path r.means

-- A declaration, and the number of the one inside which it stands: none at the top level.
pub record Entry : Type 0 where
  pub within : Option ℕ
  pub row : Row

abbrev pub IsEntry : List Entry → ℕ → Entry → Type 0
IsEntry es k e = slice_get es k ≡ Some e

-- It stands where declarations may stand: at the top level, or inside one of a smaller number.
pub data Stands (top : List Row) (es : List Entry) (k : ℕ) : Option ℕ → Row → Type 0 where
  at_top : (r : Row) → slice_get top k ≡ Some r → Stands top es k None r
  within_other : (j : ℕ) (outer : Entry) (r : Row) → IsEntry es j outer → j < k → Contains (inside outer.row) r
      → Stands top es k (Some j) r

-- Rows where they stand: at the top level, or inside the declaration of this number.
abbrev pub all_within : Option ℕ → List Row → List Entry
all_within scope rows = map (λ r. record { within = scope; row = r }) rows

-- What stands inside these declarations, one after the other, if the first of them has this number.
abbrev pub all_inside : ℕ → List Entry → List Entry
all_inside number [] = []
all_inside number (e ∷ es) = all_within (Some number) (inside e.row) ++ all_inside (number + 1) es

-- All declarations of a top level whose rows are these. Those of the top level come first, in order; then, declaration by declaration,
-- what stands inside it.
pub record IsTable (top : List Row) (es : List Entry) : Type 0 where
  pub first : (k : ℕ) (r : Row) → slice_get top k ≡ Some r → IsEntry es k (record { within = None; row = r })
  pub inner : (j : ℕ) (outer : Entry) (r : Row) → IsEntry es j outer → Contains (inside outer.row) r
      → (k : ℕ) × IsEntry es k (record { within = Some j; row = r })
  pub only : (k : ℕ) (e : Entry) → IsEntry es k e → Stands top es k e.within e.row
  pub ordered : es ≡ all_within None top ++ all_inside 0 es

-- ---- names

-- A declaration of this name stands at the top level, or inside the one of this number.
pub record IsMember (es : List Entry) (scope : Option ℕ) (name : List ℕ) (k : ℕ) : Type 0 where
  pub entry : Entry
  pub there : IsEntry es k entry
  pub stands : entry.within ≡ scope
  pub named : entry.row.name ≡ name

-- Each scope declares a name once.
abbrev pub AreOnce : List Entry → Type 0
AreOnce es = (scope : Option ℕ) (name : List ℕ) (j k : ℕ) → IsMember es scope name j → IsMember es scope name k → j ≡ k

abbrev pub HasNone : List Entry → Option ℕ → List ℕ → Type 0
HasNone es scope name = (k : ℕ) → IsMember es scope name k → ⊥

-- What a name is in a scope, if the implemented module has this number: the innermost declaration counts, and at the top level the
-- members of the implemented module are names too.
pub data Finds (es : List Entry) (implemented : ℕ) (name : List ℕ) : Option ℕ → ℕ → Type 0 where
  here : (scope : Option ℕ) (k : ℕ) → IsMember es scope name k → Finds es implemented name scope k
  in_module : (k : ℕ) → HasNone es None name → IsMember es (Some implemented) name k → Finds es implemented name None k
  further : (j : ℕ) (outer : Entry) (k : ℕ) → HasNone es (Some j) name → IsEntry es j outer
      → Finds es implemented name outer.within k → Finds es implemented name (Some j) k

-- ---- names that are declared twice

-- Two rows declare one name.
pub record IsTwiceIn (rows : List Row) : Type 0 where
  pub i : ℕ
  pub j : ℕ
  pub one : Row
  pub other : Row
  pub before : i < j
  pub there : slice_get rows i ≡ Some one
  pub and_there : slice_get rows j ≡ Some other
  pub same : one.name ≡ other.name

-- What stands at the top level or inside something that does.
pub data IsAmong (top : List Row) : Row → Type 0 where
  at_top : (r : Row) → Contains top r → IsAmong top r
  within_other : (outer r : Row) → IsAmong top outer → Contains (inside outer) r → IsAmong top r

-- A scope has a name twice: the top level, or what stands inside a declaration.
pub data HasTwice (top : List Row) : Type 0 where
  outermost : IsTwiceIn top → HasTwice top
  inner : (r : Row) → IsAmong top r → IsTwiceIn (inside r) → HasTwice top

-- This row has the name again, behind another of the scope.
pub data IsAgain (top : List Row) (r : Row) : Type 0 where
  outermost : (twice : IsTwiceIn top) → twice.other ≡ r → IsAgain top r
  inner : (o : Row) → IsAmong top o → (twice : IsTwiceIn (inside o)) → twice.other ≡ r → IsAgain top r
