-- What is known while values are found.
use Rattle.std.specs.Prelude.{◌≡◌, ◌⊎◌, ◌<◌, ℕ, List, Option, None, Some, length, slice_get}
use Rattle.limbo_tree.specs.Exprs as tree
use Rattle.limbo_tree.specs.Exprs.{Expr}
use Rattle.limbo_constants.specs.declared.constant.Constant as constant
use Rattle.limbo_declarations.specs.Rows.{Constant}
use Rattle.limbo_entries.specs.Entries.{Entry, IsEntry}
use Rattle.limbo_entries.specs.View.{entries_of}
use Rattle.limbo_naming.specs.declared.naming.Naming.{Naming}
use Rattle.limbo_constant_values.specs.Values.{HasValue, Comes, AllHaveValues, initial_value}
use Rattle.limbo_constant_values.specs.Needs.{NeedsValue}
use Rattle.limbo_constant_values.specs.Answers.{IsKnown}

abbrev pub Values : Type 0
Values = List (Option constant.Constant)

-- What is known is so.
abbrev pub AreSound : Naming → Values → Type 0
AreSound n values = (r : ℕ) (c : constant.Constant) → IsKnown values r c → HasValue (entries_of n.table.now.entries.items) n.implemented r c

-- What has a value is known.
abbrev pub AreComplete : Naming → Values → Type 0
AreComplete n values =
    (r : ℕ) (c : constant.Constant) → HasValue (entries_of n.table.now.entries.items) n.implemented r c → IsKnown values r c

-- An initial value is `nil` or constant.
abbrev pub IsInitial : Naming → (k : ℕ) → Type 0
IsInitial n k =
    (e : Entry) (expr : Expr) → IsEntry (entries_of n.table.now.entries.items) k e → initial_value e.row.means ≡ Some expr
    → (expr ≡ tree.Nil) ⊎ ((c : constant.Constant) × Comes (entries_of n.table.now.entries.items) n.implemented e.within None expr c)

-- What a declaration needs is known, if it has a value.
abbrev pub AreReady : Naming → (k : ℕ) → Values → Type 0
AreReady n k values =
    (r : ℕ) (c : constant.Constant) → NeedsValue (entries_of n.table.now.entries.items) n.implemented k r
    → HasValue (entries_of n.table.now.entries.items) n.implemented r c → IsKnown values r c

-- It is known, if it is a constant.
abbrev pub IsDone : Naming → (k : ℕ) → Values → Type 0
IsDone n k values =
    (e : Entry) (expr : Expr) (iota : ℕ) → IsEntry (entries_of n.table.now.entries.items) k e → e.row.means ≡ Constant expr iota
    → (c : constant.Constant) × IsKnown values k c

-- Each stands behind all that it needs.
abbrev pub AreBehind : Naming → (order : List ℕ) → Type 0
AreBehind n order =
    (i k r : ℕ) → slice_get order i ≡ Some k → NeedsValue (entries_of n.table.now.entries.items) n.implemented k r
    → (j : ℕ) × (j < i) × (slice_get order j ≡ Some r)

-- One more is known.
pub record Sets (n : Naming) (k : ℕ) (old new : Values) : Type 0 where
  pub same_length : length new ≡ length old
  pub sound : AreSound n new
  pub kept : (r : ℕ) (c : constant.Constant) → IsKnown old r c → IsKnown new r c
  pub here : IsDone n k new

-- The values of the constants, and no others.
pub record AreValues (es : List Entry) (m : ℕ) (values : Values) : Type 0 where
  pub known : (r : ℕ) (c : constant.Constant) → IsKnown values r c → HasValue es m r c
  pub complete : (r : ℕ) (c : constant.Constant) → HasValue es m r c → IsKnown values r c
  pub all : AllHaveValues es m
