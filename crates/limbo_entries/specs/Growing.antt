-- A table that grows: it has what stands inside the first of its declarations. What its scopes say of it.
use Rattle.std.specs.Prelude.{◌≡◌, ◌+◌, ◌-◌, ◌<◌, ◌≤◌, ℕ, List, ◌++◌, take, Option, None, Some, length, slice_get}
use Rattle.std.specs.List.{Contains}
use Rattle.limbo_declarations.specs.Names.{names, IsAt}
use Rattle.limbo_declarations.specs.Rows.{Row}
use Rattle.limbo_declarations.specs.View.{rows_of, view_row}
use Rattle.limbo_entries.specs.declared.scope.Scope as code_scope
use Rattle.limbo_entries.specs.declared.entry.Entry as code_entry
use Rattle.limbo_entries.specs.Entries.{Entry, IsEntry, Stands, inside, all_within, all_inside}
use Rattle.limbo_entries.specs.View.{entries_of, keys}

-- The declarations of a scope stand behind each other from its first number on: these are their names, and no other declaration stands
-- in the scope.
pub record IsScope (all : List (Option ℕ × List ℕ)) (number : Option ℕ) (scope : code_scope.Scope) : Type 0 where
  pub there : (name : List ℕ) (k : ℕ) → IsAt (names scope.names.rows.items) k name → slice_get all (scope.first + k) ≡ Some (number, name)
  pub none_before : (name : List ℕ) (k : ℕ) → slice_get all k ≡ Some (number, name) → scope.first ≤ k
  pub no_other : (name : List ℕ) (k : ℕ) → slice_get all k ≡ Some (number, name)
      → IsAt (names scope.names.rows.items) (k - scope.first) name

-- The scopes inside the first declarations, in order.
abbrev pub AreScopes : List (Option ℕ × List ℕ) → List code_scope.Scope → Type 0
AreScopes all scopes = (j : ℕ) (s : code_scope.Scope) → slice_get scopes j ≡ Some s → IsScope all (Some j) s

-- What stands inside another stands behind it.
abbrev pub LeadsOutwards : List (Option ℕ × List ℕ) → Type 0
LeadsOutwards all = (j k : ℕ) (name : List ℕ) → slice_get all k ≡ Some (Some j, name) → j < k

-- The table of a top level, as far as it has what stands inside the first declarations, so many of them.
pub record IsTableTo (top : List Row) (es : List Entry) (many : ℕ) : Type 0 where
  pub first : (k : ℕ) (r : Row) → slice_get top k ≡ Some r → IsEntry es k (record { within = None; row = r })
  pub inner : (j : ℕ) (outer : Entry) (r : Row) → j < many → IsEntry es j outer → Contains (inside outer.row) r
      → (k : ℕ) × IsEntry es k (record { within = Some j; row = r })
  pub only : (k : ℕ) (e : Entry) → IsEntry es k e → Stands top es k e.within e.row
  pub ordered : es ≡ all_within None top ++ all_inside 0 (take many es)

-- The same of the entries of the code, with the scopes.
pub record IsGrown (top : List Row) (es : List code_entry.Entry) (outermost : code_scope.Scope) (scopes : List code_scope.Scope) (many : ℕ)
    : Type 0 where
  pub is_table : IsTableTo top (entries_of es) many
  pub at_top : IsScope (keys es) None outermost
  pub top_rows : rows_of outermost.names.rows.items ≡ top
  pub are_scopes : AreScopes (keys es) scopes
  pub inner_rows : (j : ℕ) (e : code_entry.Entry) (s : code_scope.Scope) → slice_get es j ≡ Some e → slice_get scopes j ≡ Some s
      → rows_of s.names.rows.items ≡ inside (view_row e.row)
  pub as_many : length scopes ≡ many
  pub none_further : (j k : ℕ) (name : List ℕ) → slice_get (keys es) k ≡ Some (Some j, name) → j < many
