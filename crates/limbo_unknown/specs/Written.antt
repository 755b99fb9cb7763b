-- The names that declarations write (Limbo Language Reference, declarations and scope).
use Rattle.std.specs.Prelude.{ℕ, nat_eq, List, [], ◌∷◌, ◌++◌, Bool, true, false, ◌&&◌, if◌then◌else◌, Option, None, Some, codes}
use Rattle.std.specs.Cmp.Lexicographic.{pointwise}
use Rattle.limbo_tree.specs.Types.{Ty, Tys, ArrayOf, ListOf, ChanOf, RefTo, Named, Tuple, NoTys, MoreTys}
use Rattle.limbo_tree.specs.Exprs as tree
use Rattle.limbo_tree.specs.Exprs.{Expr}
use Rattle.limbo_tree.specs.Decls.{Param, FnType}
use Rattle.limbo_declarations.specs.Rows.{Row, Declared, Constant, Alias, Variable, Inferred, Imported, Exception, Function}
use Rattle.limbo_constants.specs.Asked.{asked}
use Rattle.limbo_naming.specs.Qualified.{Qualified, Simple, Member, of_type}

-- ---- types

abbrev mutual
  pub in_type : Ty → List Qualified
  in_type (ArrayOf t) = in_type t
  in_type (ListOf t) = in_type t
  in_type (ChanOf t) = in_type t
  in_type (RefTo q) = of_type q ∷ []
  in_type (Named q) = of_type q ∷ []
  in_type (Tuple ts) = in_types ts
  in_type _ = []

  pub in_types : Tys → List Qualified
  in_types NoTys = []
  in_types (MoreTys t ts) = in_type t ++ in_types ts

abbrev pub in_params : List Param → List Qualified
in_params [] = []
in_params (p ∷ ps) = in_type p.of ++ in_params ps

abbrev pub in_answer : Option Ty → List Qualified
in_answer None = []
in_answer (Some t) = in_type t

-- What a function takes and answers. Its exceptions may have any names.
abbrev pub in_function : FnType → List Qualified
in_function f = in_params f.params ++ in_answer f.answer

-- ---- expressions

abbrev pub is_iota : List ℕ → Bool
is_iota name = pointwise nat_eq name (codes "iota")

-- A name alone. In the expression of a constant `iota` is declared.
abbrev pub simple : (in_constant : Bool) → List ℕ → List Qualified
simple in_constant name = if in_constant && is_iota name then [] else Simple name ∷ []

-- The first name of `n`, of `m->n` and of `x.n`.
abbrev pub first : (in_constant : Bool) → Expr → List Qualified
first c (tree.Name name) = simple c name
first c (tree.Arrow base name) = first c base
first c (tree.Dot base name) = first c base
first c _ = []

abbrev pub in_parts : (in_constant : Bool) → List Expr → List Qualified
in_parts c [] = []
in_parts c (e ∷ es) = first c e ++ in_parts c es

-- Of a constant expression the first names of the parts whose meaning is asked for. Parts of any other form are no names.
abbrev pub in_expr : (in_constant : Bool) → Expr → List Qualified
in_expr c e = in_parts c (asked e)

abbrev pub in_value : Option Expr → List Qualified
in_value None = []
in_value (Some e) = in_expr false e

-- ---- declarations

-- What stands inside a module, an adt or a variant is a declaration of its own.
abbrev pub written_in : (name : List ℕ) → Declared → List Qualified
written_in name (Constant e iota) = in_expr true e
written_in name (Alias t) = in_type t
written_in name (Variable t value) = in_type t ++ in_value value
written_in name (Inferred e) = in_expr false e
written_in name (Imported source) = Member (Simple source) name ∷ []
written_in name (Exception ts) = in_types ts
written_in name (Function f) = in_function f
written_in name _ = []

abbrev pub written : Row → List Qualified
written r = written_in r.name r.means
