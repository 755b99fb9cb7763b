-- Names as they are written (Limbo Language Reference, types and expressions).
use Rattle.std.specs.Prelude.{ℕ, List, Option, None, Some, option_map}
use Rattle.limbo_tree.specs.Types.{Qual, Ty, RefTo, Named}
use Rattle.limbo_tree.specs.Exprs as tree
use Rattle.limbo_tree.specs.Exprs.{Expr}
use Rattle.limbo_declarations.specs.Rows.{Row, Declared, Alias, Variable, Imported}

-- A name; a member of the module that what stands before `->` leads to; a part of the adt that what stands before `.` leads to.
pub data Qualified : Type 0 where
  Simple : List ℕ → Qualified
  Member : Qualified → List ℕ → Qualified
  Part : Qualified → List ℕ → Qualified

abbrev pub with_member : Qualified → Option (List ℕ) → Qualified
with_member q None = q
with_member q (Some name) = Member q name

abbrev pub with_part : Qualified → Option (List ℕ) → Qualified
with_part q None = q
with_part q (Some name) = Part q name

-- the name of a type
abbrev pub of_type : Qual → Qualified
of_type q = with_part (with_member (Simple q.first) q.member) q.part

-- an expression that is a name
abbrev pub of_expr : Expr → Option Qualified
of_expr (tree.Name name) = Some (Simple name)
of_expr (tree.Arrow base name) = option_map (λ q. Member q name) (of_expr base)
of_expr (tree.Dot base name) = option_map (λ q. Part q name) (of_expr base)
of_expr _ = None

-- the type is a name, or a reference to what is named
abbrev pub named_type : Ty → Option Qualified
named_type (Named q) = Some (of_type q)
named_type (RefTo q) = Some (of_type q)
named_type _ = None

-- What a declaration stands for by its own words: a name of a type for what that names; a variable for its type; an imported name
-- for the module's member. Any other stands for itself.
abbrev pub stands_for : (name : List ℕ) → Declared → Option Qualified
stands_for name (Alias t) = named_type t
stands_for name (Variable t value) = named_type t
stands_for name (Imported source) = Some (Member (Simple source) name)
stands_for name _ = None

abbrev pub row_stands_for : Row → Option Qualified
row_stands_for r = stands_for r.name r.means
