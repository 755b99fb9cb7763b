-- Which constants variables begin with (Limbo Language Reference, declarations and constant expressions).
use Rattle.std.specs.Prelude.{◌≡◌, ℕ, List, Option, None, Some}
use Rattle.limbo_tree.specs.Exprs.{Expr}
use Rattle.limbo_constants.specs.declared.constant.Constant as constant
use Rattle.limbo_entries.specs.Entries.{Entry, IsEntry}
use Rattle.limbo_constant_values.specs.Values.{Comes, initial_value}
use Rattle.limbo_constant_values.specs.Answers.{IsKnown}

-- The initial value of the variable of this number comes to this constant.
pub record HasInitial (es : List Entry) (m : ℕ) (k : ℕ) (c : constant.Constant) : Type 0 where
  pub entry : Entry
  pub expr : Expr
  pub there : IsEntry es k entry
  pub written : initial_value entry.row.means ≡ Some expr
  pub comes : Comes es m entry.within None expr c

-- The constants to which initial values come, and no others.
pub record AreInitials (es : List Entry) (m : ℕ) (initials : List (Option constant.Constant)) : Type 0 where
  pub known : (k : ℕ) (c : constant.Constant) → IsKnown initials k c → HasInitial es m k c
  pub complete : (k : ℕ) (c : constant.Constant) → HasInitial es m k c → IsKnown initials k c
