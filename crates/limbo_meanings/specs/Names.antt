-- The scopes that declarations make, by what their names mean (Limbo Language Reference, scope).
use Rattle.std.specs.Prelude.{◌≡◌, ℕ, zero, suc, ◌==◌, Bool, true, false, if◌then◌else◌, List, [], ◌∷◌, ◌++◌, length}
use Rattle.std.specs.Prelude.{Option, None, Some, slice_get, replicate}
use Rattle.std.specs.FinMap.{empty}
use Rattle.limbo_scope.specs.declared.meaning.Meaning.{Meaning}
use Rattle.limbo_scope.specs.Scopes.{Scope, entered, declared, declared_here}
use Rattle.limbo_scope.specs.Laws.{declared_all}
use Rattle.limbo_entries.specs.Entries.{Entry}

-- Two scopes are one: the top level, or what stands inside the declaration of a number.
abbrev pub same_scope : Option ℕ → Option ℕ → Bool
same_scope None None = true
same_scope None (Some b) = false
same_scope (Some a) None = false
same_scope (Some a) (Some b) = a == b

-- a name, where it means something
abbrev pub listed : List ℕ → Option Meaning → List (List ℕ × Meaning)
listed name None = []
listed name (Some x) = (name, x) ∷ []

abbrev pub here : Option ℕ → Entry → Option Meaning → List (List ℕ × Meaning)
here scope e x = if same_scope scope e.within then listed e.row.name x else []

-- The names that stand in a scope, in order, each with its meaning; the meanings of all declarations are these.
abbrev pub names_in : Option ℕ → List (Option Meaning) → List Entry → List (List ℕ × Meaning)
names_in scope [] es = []
names_in scope (x ∷ xs) [] = []
names_in scope (x ∷ xs) (e ∷ es) = here scope e x ++ names_in scope xs es

-- The scope of what stands inside the declaration of a number.
abbrev pub scope_inside : ℕ → List (Option Meaning) → List Entry → List Scope
scope_inside a xs es = declared_all (names_in (Some a) xs es) (entered [])

-- The scopes in which a body begins: the members of the implemented module, and in them the top level.
abbrev pub outermost_scopes : (m : ℕ) → List (Option Meaning) → List Entry → List Scope
outermost_scopes m xs es = declared_all (names_in None xs es) (entered (scope_inside m xs es))

-- Of each declaration the scope of what stands inside it.
pub record AreInner (xs : List (Option Meaning)) (es : List Entry) (rows : List (List Scope)) : Type 0 where
  pub many : length rows ≡ length es
  pub each : (a : ℕ) (row : List Scope) → slice_get rows a ≡ Some row → row ≡ scope_inside a xs es

-- ---- one name more

abbrev pub empty_each : ℕ → List (List Scope)
empty_each n = replicate n (entered [])

-- a name in the row of a declaration
abbrev pub with_name : List (List Scope) → (a : ℕ) → List ℕ → Meaning → List (List Scope)
with_name [] a name x = []
with_name (r ∷ rs) zero name x = declared name x r ∷ rs
with_name (r ∷ rs) (suc a) name x = r ∷ with_name rs a name x

abbrev pub in_row : Option ℕ → List ℕ → Meaning → List (List Scope) → List (List Scope)
in_row None name x rs = rs
in_row (Some a) name x rs = with_name rs a name x

-- the name of an entry, where it means something, in the row of what it stands in
abbrev pub with_entry : Entry → Option Meaning → List (List Scope) → List (List Scope)
with_entry e None rs = rs
with_entry e (Some x) rs = in_row e.within e.row.name x rs

-- The name stands in the row already.
pub record IsRepeated (name : List ℕ) (scope : Option ℕ) (rs : List (List Scope)) : Type 0 where
  pub outer : ℕ
  pub row : List Scope
  pub meaning : Meaning
  pub within : scope ≡ Some outer
  pub there : slice_get rs outer ≡ Some row
  pub repeated : declared_here name row ≡ Some meaning
