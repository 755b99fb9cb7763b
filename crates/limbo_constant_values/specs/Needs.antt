-- Which constants a constant needs.
use Rattle.std.specs.Prelude.{◌≡◌, ℕ, List, Some}
use Rattle.std.specs.List.{Contains}
use Rattle.limbo_tree.specs.Exprs.{Expr}
use Rattle.limbo_constants.specs.Asked.{asked}
use Rattle.limbo_declarations.specs.Rows.{Constant}
use Rattle.limbo_entries.specs.Entries.{Entry, IsEntry}
use Rattle.limbo_naming.specs.Qualified.{Qualified, of_expr}
use Rattle.limbo_naming.specs.Naming.{Names}

-- The constant k has a name in its expression that names the declaration r.
pub record NeedsValue (es : List Entry) (m k r : ℕ) : Type 0 where
  pub entry : Entry
  pub expr : Expr
  pub iota : ℕ
  pub part : Expr
  pub name : Qualified
  pub there : IsEntry es k entry
  pub means : entry.row.means ≡ Constant expr iota
  pub asks : Contains (asked expr) part
  pub is_name : of_expr part ≡ Some name
  pub names : Names es m entry.within name r
