-- The types of functions, variables and exceptions by their declarations (Limbo Language Reference, declarations).
use Rattle.std.specs.Prelude.{◌≡◌, ℕ, List, [], ◌∷◌, ◌++◌, Option, None, Some, Bool, true, false}
use Rattle.limbo_tree.specs.Types as tree
use Rattle.limbo_tree.specs.Exprs.{Expr}
use Rattle.limbo_tree.specs.Decls as decls
use Rattle.limbo_tree.specs.View as view
use Rattle.limbo_types.specs.Types.{Ty, FnTy, Nothing}
use Rattle.limbo_types.specs.View.{view_ty, view_tys, view_fn, tys_of}
use Rattle.limbo_declarations.specs.Rows as rows
use Rattle.limbo_declarations.specs.Rows.{Declared}
use Rattle.limbo_entries.specs.Entries.{Entry}
use Rattle.limbo_type_names.specs.Means.{Means, AllMean}
use Rattle.limbo_headers.specs.declared.header.Heading.{Heading}
use Rattle.limbo_headers.specs.declared.header.Heading.TheVariants as heading

-- something once for each name
abbrev pub each_name : {A B : Type 0} → List A → B → List B
each_name [] t = []
each_name (n ∷ ns) t = t ∷ each_name ns t

-- The types of the arguments that a function takes, in order: several names may be written before one type.
abbrev pub argument_types : List decls.Param → List tree.Ty
argument_types [] = []
argument_types (p ∷ ps) = each_name p.names p.of ++ argument_types ps

-- Whether the first parameter is written with `self`.
abbrev pub takes_self : List decls.Param → Bool
takes_self [] = false
takes_self (p ∷ ps) = p.is_self

-- What a function answers: nothing where no type is written.
pub data AnswerMeans (es : List Entry) (m : ℕ) (scope : Option ℕ) : Option tree.Ty → Ty → Type 0 where
  no_answer : AnswerMeans es m scope None Nothing
  an_answer : (t : tree.Ty) (u : Ty) → Means es m scope t u → AnswerMeans es m scope (Some t) u

-- What a function that is written in a scope takes and answers.
pub record IsHeader (es : List Entry) (m : ℕ) (scope : Option ℕ) (f : decls.FnType) (of : FnTy) (self_first : Bool) : Type 0 where
  pub args : AllMean es m scope (view.tys_of (argument_types f.params)) (tys_of of.args)
  pub answer : AnswerMeans es m scope f.answer of.answer
  pub self_is : self_first ≡ takes_self f.params

-- A variable, a field, a function and an exception have types.
abbrev pub has_heading : Declared → Bool
has_heading (rows.Variable t value) = true
has_heading (rows.Function f) = true
has_heading (rows.Exception ts) = true
has_heading _ = false

-- What is told of a declaration: of a variable or a field the type that its type means where it stands; of a function what it takes and
-- answers; of an exception the types of its values.
abbrev pub Heads : List Entry → (m : ℕ) → Entry → Heading → Type 0
Heads es m e (heading.Variable u) =
    (t : tree.Ty) × (value : Option Expr) × (e.row.means ≡ rows.Variable t value) × Means es m e.within t (view_ty u.value)
Heads es m e (heading.Function h) =
    (f : decls.FnType) × (e.row.means ≡ rows.Function f) × IsHeader es m e.within f (view_fn h.value.of) h.value.takes_self
Heads es m e (heading.Exception us) =
    (ts : tree.Tys) × (e.row.means ≡ rows.Exception ts) × AllMean es m e.within ts (view_tys us.items)
Heads es m e heading.Other = has_heading e.row.means ≡ false
