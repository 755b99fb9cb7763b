-- The values of constants, and which initial values are constant (Limbo Language Reference, constant expressions).
use Rattle.std.specs.Prelude.{◌≡◌, ◌≢◌, ◌⊎◌, ℕ, pos, List, Option, None, Some, codes}
use Rattle.std.specs.List.{Contains}
use Rattle.limbo_values.specs.declared.number.Kind.TheVariants.{Int}
use Rattle.limbo_tree.specs.Exprs as tree
use Rattle.limbo_tree.specs.Exprs.{Expr}
use Rattle.limbo_constants.specs.declared.constant.Constant as constant
use Rattle.limbo_constants.specs.declared.constant.Constant.TheVariants.{Number}
use Rattle.limbo_constants.specs.Constants.{Meant, constant_in, of_kind}
use Rattle.limbo_constants.specs.Asked.{asked}
use Rattle.limbo_declarations.specs.Rows.{Declared, Constant, Variable, Inferred}
use Rattle.limbo_entries.specs.Entries.{Entry, IsEntry, Finds}
use Rattle.limbo_naming.specs.Qualified.{Qualified, of_expr}
use Rattle.limbo_naming.specs.Naming.{Names}

abbrev pub iota_name : List ℕ
iota_name = codes "iota"

-- the value of `iota` for a name that so many names stand before
abbrev pub counted_value : ℕ → constant.Constant
counted_value i = Number (of_kind Int (pos i))

mutual
  -- The constant of this number has this value.
  pub data HasValue (es : List Entry) (m : ℕ) : ℕ → constant.Constant → Type 0 where
    value : (k : ℕ) (e : Entry) (expr : Expr) (iota : ℕ) (c : constant.Constant) → IsEntry es k e → e.row.means ≡ Constant expr iota
        → Comes es m e.within (Some iota) expr c → HasValue es m k c

  -- A constant expression that is written in a scope comes to this value. In the declaration of a constant `iota` counts its names.
  pub data Comes (es : List Entry) (m : ℕ) : Option ℕ → Option ℕ → Expr → constant.Constant → Type 0 where
    comes : (scope : Option ℕ) (iota : Option ℕ) (expr : Expr) (c : constant.Constant) (meant : Meant)
        → ((part : Expr) (a : constant.Constant) → Contains (asked expr) part → meant part ≡ Some a → IsMeant es m scope iota part a)
        → constant_in meant expr ≡ Some c → Comes es m scope iota expr c

  -- A name in it means this constant: that which it names, or `iota`, where no declaration has that name.
  pub data IsMeant (es : List Entry) (m : ℕ) : Option ℕ → Option ℕ → Expr → constant.Constant → Type 0 where
    named : (scope : Option ℕ) (iota : Option ℕ) (part : Expr) (q : Qualified) (r : ℕ) (a : constant.Constant)
        → of_expr part ≡ Some q → Names es m scope q r → HasValue es m r a → IsMeant es m scope iota part a
    counted : (scope : Option ℕ) (i : ℕ) → ((k : ℕ) → Finds es m iota_name scope k → ⊥)
        → IsMeant es m scope (Some i) (tree.Name iota_name) (counted_value i)

-- the initial value that is written for a variable
abbrev pub initial_value : Declared → Option Expr
initial_value (Variable t v) = v
initial_value (Inferred e) = Some e
initial_value _ = None

-- What stands where a constant must, and is none: a constant without a value, or an initial value that is neither constant nor `nil`.
pub data IsNotConstant (es : List Entry) (m : ℕ) (k : ℕ) : Type 0 where
  no_value : (e : Entry) (expr : Expr) (iota : ℕ) → IsEntry es k e → e.row.means ≡ Constant expr iota
      → ((c : constant.Constant) → HasValue es m k c → ⊥) → IsNotConstant es m k
  initial : (e : Entry) (expr : Expr) → IsEntry es k e → initial_value e.row.means ≡ Some expr → expr ≢ tree.Nil
      → ((c : constant.Constant) → Comes es m e.within None expr c → ⊥) → IsNotConstant es m k

-- Each constant has a value.
abbrev pub AllHaveValues : List Entry → (m : ℕ) → Type 0
AllHaveValues es m =
    (k : ℕ) (e : Entry) (expr : Expr) (iota : ℕ) → IsEntry es k e → e.row.means ≡ Constant expr iota
    → (c : constant.Constant) × HasValue es m k c

-- Each initial value is `nil` or constant.
abbrev pub AllInitial : List Entry → (m : ℕ) → Type 0
AllInitial es m =
    (k : ℕ) (e : Entry) (expr : Expr) → IsEntry es k e → initial_value e.row.means ≡ Some expr
    → (expr ≡ tree.Nil) ⊎ ((c : constant.Constant) × Comes es m e.within None expr c)
