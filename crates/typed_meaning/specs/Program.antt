-- The functions of a checked module, as trees of which nothing is done yet, and what its variables begin with.
use Rattle.std.specs.Prelude.{ℕ, suc, nat_eq, if◌then◌else◌, List, [], ◌∷◌, map, length, option_map, Option, Some, None, slice_index_or}
use Rattle.limbo_types.specs.Types.{Ty, Byte, Int}
use Rattle.limbo_values.specs.declared.number.Kind.TheVariants as kind
use Rattle.limbo_typed.specs.declared.module.Initial.{Initial}
use Rattle.limbo_typed.specs.declared.operation.Given.TheVariants as given
use Rattle.limbo_typed.specs.declared.operation.Operation.TheVariants as operation
use Rattle.limbo_typed.specs.declared.print.Printed.{Printed}
use Rattle.limbo_typed.specs.declared.print.Printed.TheVariants as printed
use Rattle.limbo_typed.specs.declared.print.Piece.{Piece}
use Rattle.limbo_typed.specs.declared.stmt.Constant.{Constant}
use Rattle.limbo_typed.specs.declared.stmt.Constant.TheVariants as constant
use Rattle.limbo_typed.specs.Typed as typed
use Rattle.limbo_typed.specs.Typed.{Of}
use Rattle.system_model.specs.Values.{Value, Num, zero_value}
use Rattle.typed_meaning.specs.Values.{fitted}
use Rattle.typed_meaning.specs.Trees.{PlaceNode, Local, Global, Place, At, Term, Missing, Literal, Read, Apply, Lazy, Store, Change, Call}
use Rattle.typed_meaning.specs.Trees.{Print, Terms, NoTerms, MoreTerms, Stm, Over, Eval, Set, If, Enter, Break, Continue, Return, Leave}
use Rattle.typed_meaning.specs.Trees.{Looping, Block, Done, Then, tested}

-- ---- expressions

-- A variable of the function or of the module. Other places aren't in this part, and so are these terms, which never come to a value.
abbrev pub place_node : typed.PlaceNode → Option PlaceNode
place_node (typed.Local x) = Some (Local x)
place_node (typed.Global x) = Some (Global x)
place_node _ = None

abbrev pub place_of : typed.Place → Option Place
place_of (typed.At t n) = option_map (At t) (place_node n)

abbrev pub place_to : typed.Pattern → Option Place
place_to (typed.ToPlace p) = place_of p
place_to _ = None

abbrev pub at_place : Option Place → (Place → Term) → Term
at_place None use_it = Missing
at_place (Some p) use_it = use_it p

-- A print on the standard output; the format holds its holes.
abbrev pub printing : Printed → typed.Optional → List Piece → Terms → Term
printing printed.Print typed.Absent ps ts = Print ps ts
printing _ file ps ts = Missing

-- What is printed of an argument: a byte stands there as an int of the same value.
abbrev pub as_printed : Ty → Term → Term
as_printed Byte t = Apply (operation.Convert kind.Byte kind.Int) (MoreTerms t NoTerms)
as_printed _ t = t

-- `p op= e`, `++` and `--` read the place first; what they give goes there.
abbrev mutual
  pub term_of : typed.Expr → Term
  term_of (Of t n) = node_of t n

  pub node_of : Ty → typed.Node → Term
  node_of t (typed.Number n) = Literal t (fitted t (Num n))
  node_of t (typed.Read p) = at_place (place_of p) Read
  node_of t (typed.Apply o es) = Apply o (terms_of es)
  node_of t (typed.Lazy c l r) = Lazy c (term_of l) (term_of r)
  node_of t (typed.Assign p e) = at_place (place_to p) (λ q. Store q (term_of e))
  node_of t (typed.Update o p e) =
      at_place (place_of p) (λ q. Change o given.New q (MoreTerms (Read q) (MoreTerms (term_of e) NoTerms)))
  node_of t (typed.Step o g p) = at_place (place_of p) (λ q. Change o g q (MoreTerms (Read q) NoTerms))
  node_of t (typed.Call f es) = Call t f (terms_of es)
  node_of t (typed.Print w m file ps es) = printing w file ps (printed_of es)
  node_of t _ = Missing

  pub terms_of : typed.Exprs → Terms
  terms_of typed.NoExprs = NoTerms
  terms_of (typed.MoreExprs e es) = MoreTerms (term_of e) (terms_of es)

  pub printed_of : typed.Exprs → Terms
  printed_of typed.NoExprs = NoTerms
  printed_of (typed.MoreExprs (Of t n) es) = MoreTerms (as_printed t (node_of t n)) (printed_of es)

-- ---- statements

-- An assignment of what `load` gives leaves no trace in this part: the module that is loaded is `Sys`, which is there from the start.
abbrev pub is_load : typed.Node → Option Stm
is_load (typed.Assign p (Of t (typed.Load i e))) = Some Over
is_load _ = None

abbrev pub evaluated : typed.Expr → Stm
evaluated (Of t n) = elim (is_load n) [ None ↦ Eval (node_of t n) | Some s ↦ s ]

abbrev pub optional : Option typed.Expr → Option Term
optional e = option_map term_of e

abbrev pub return_of : Option typed.Expr → Stm
return_of None = Leave
return_of (Some e) = Return (term_of e)

-- What a `for` begins with is a statement of its own.
abbrev pub first_of : Option typed.Expr → Block → Block
first_of None rest = rest
first_of (Some e) rest = Then (evaluated e) rest

module _ (types : List Ty) where
  -- The variable of this number.
  abbrev pub local : ℕ → Place
  local x = At (slice_index_or types x Int) (Local x)

  -- What is declared without a value gets zero each time.
  abbrev pub declared_value : Option typed.Expr → Term
  declared_value None = Literal Int zero_value
  declared_value (Some e) = term_of e

  -- A statement in front of what follows it, and statements in front of what follows them. A block, and a loop, end in a step of their own.
  abbrev mutual
    pub before : typed.Stmt → Block → Block
    before typed.Empty rest = Then Over rest
    before (typed.Block ss) rest = all_before ss (Then Over rest)
    before (typed.Declare xs e) rest = Then (Set (map local xs) (declared_value e)) rest
    before (typed.Eval e) rest = Then (evaluated e) rest
    before (typed.If c ss others) rest = Then (If (term_of c) (all_before ss Done) (all_before others Done)) rest
    before (typed.While c ss) rest = tested (Looping (optional c) None (all_before ss Done)) (Then Over rest)
    before (typed.Do ss c) rest = Then (Enter (Looping (optional c) None (all_before ss Done))) (Then Over rest)
    before (typed.For first c n ss) rest =
        first_of first (tested (Looping (optional c) (optional n) (all_before ss Done)) (Then Over rest))
    before (typed.Break n) rest = Then (Break n) rest
    before (typed.Continue n) rest = Then (Continue n) rest
    before (typed.Return e) rest = Then (return_of e) rest
    before _ rest = Then (Eval Missing) rest

    pub all_before : typed.Stmts → Block → Block
    all_before typed.NoStmts rest = rest
    all_before (typed.MoreStmts s ss) rest = before s (all_before ss rest)

-- ---- modules

-- A function: how many variables it has, parameters and all, and what its body does.
pub record Routine : Type 0 where
  pub variables : ℕ
  pub body : Block

abbrev pub routine_of : typed.Function → Routine
routine_of f = record { variables = length f.variables; body = all_before (map (λ v. v.ty) f.variables) f.body Done }

abbrev pub routines_of : typed.Module → List Routine
routines_of m = map routine_of m.functions

abbrev pub constant_value : Constant → Value
constant_value (constant.Number n) = Num n
constant_value (constant.Chars s) = zero_value

-- A variable of the module begins with the constant that it is declared with, or with zero.
abbrev pub initial_of : ℕ → List Initial → Value
initial_of n [] = zero_value
initial_of n (i ∷ is) = if nat_eq i.global n then constant_value i.value else initial_of n is

abbrev pub initials_from : ℕ → List typed.Var → List Initial → List Value
initials_from n [] is = []
initials_from n (v ∷ vs) is = fitted v.ty (initial_of n is) ∷ initials_from (suc n) vs is

abbrev pub globals_of : typed.Module → List Value
globals_of m = initials_from 0 m.globals m.initials
