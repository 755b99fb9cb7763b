-- The functions of a checked module, as trees of which nothing is done yet, and what its variables begin with.
use Rattle.std.specs.Prelude.{ℕ, suc, pos, max, true, false, nat_eq, if◌then◌else◌, List, [], ◌∷◌, ◌++◌, map, Option, Some, None}
use Rattle.std.specs.Prelude.{slice_index_or, unsigned_abs}
use Rattle.std.specs.Option.{option_map}
use Rattle.limbo_types.specs.Types.{Ty, Byte, Int}
use Rattle.limbo_layout.specs.Adts.{Def}
use Rattle.limbo_values.specs.declared.number.Kind.TheVariants as kind
use Rattle.limbo_typed.specs.declared.module.Initial.{Initial}
use Rattle.limbo_typed.specs.declared.operation.Given.TheVariants as given
use Rattle.limbo_typed.specs.declared.operation.Operation.{Operation}
use Rattle.limbo_typed.specs.declared.operation.Operation.TheVariants as operation
use Rattle.limbo_typed.specs.declared.print.Printed.{Printed}
use Rattle.limbo_typed.specs.declared.print.Printed.TheVariants as printed
use Rattle.limbo_typed.specs.declared.print.Piece.{Piece}
use Rattle.limbo_typed.specs.declared.stmt.Constant.TheVariants as constant
use Rattle.limbo_typed.specs.Typed as typed
use Rattle.limbo_typed.specs.Typed.{Of}
use Rattle.limbo_meaning.specs.Values.{Value, Num, nothing, fitted}
use Rattle.limbo_meaning.specs.Places.{Root, Local, Global, Element, Target, Way}
use Rattle.limbo_meaning.specs.Operations.{constant_value, item_of}
use Rattle.limbo_meaning.specs.Trees.{Aim, Work, Literal, Nil, Operate, Read, Assign, TakePart, Copy, Link, NewChannel, Call, Print, Sprint}
use Rattle.limbo_meaning.specs.Trees.{Term, Evaluated, Missing, Node, Lazy, Update, Fill, Terms, NoTerms, MoreTerms, Items, NoItems}
use Rattle.limbo_meaning.specs.Trees.{MoreItems}
use Rattle.limbo_meaning.specs.Trees.{Stm, Over, Eval, If, Enter, Break, Continue, Return, Leave}
use Rattle.limbo_meaning.specs.Trees.{Looping, Block, Done, Then, tested}

abbrev pub terms_before : Terms → Terms → Terms
terms_before NoTerms us = us
terms_before (MoreTerms t ts) us = MoreTerms t (terms_before ts us)

abbrev pub only_term : Term → Terms
only_term t = MoreTerms t NoTerms

-- ---- places

-- The way to a place, from its root on.
abbrev pub began : Root → Way
began r = record { root = r; parts = []; character = false }

abbrev pub to_part : ℕ → Way → Way
to_part n w = record { root = w.root; parts = w.parts ++ n ∷ []; character = w.character }

abbrev pub to_character : Way → Way
to_character w = record { root = w.root; parts = w.parts; character = true }

abbrev pub way_of : typed.PlaceNode → Way
way_of (typed.Local x) = began (Local x)
way_of (typed.Global x) = began (Global x)
way_of (typed.Field (typed.At t p) n) = to_part n (way_of p)
way_of (typed.Element a i) = began Element
way_of (typed.Character (typed.At t p) i) = to_character (way_of p)
way_of (typed.Target e) = began Target

-- The places of a pattern, each with the part of the value that goes there.
abbrev mutual
  pub aims_in : (part : List ℕ) → typed.Pattern → List Aim
  aims_in ns (typed.ToPlace (typed.At t p)) = record { part = ns; type = t; way = way_of p } ∷ []
  aims_in ns typed.ToNothing = []
  aims_in ns (typed.ToParts ps) = aims_among ns 0 ps

  pub aims_among : (part : List ℕ) → (from : ℕ) → typed.Patterns → List Aim
  aims_among ns n typed.NoPatterns = []
  aims_among ns n (typed.MorePatterns p ps) = aims_in (ns ++ n ∷ []) p ++ aims_among ns (suc n) ps

-- ---- expressions

-- How long an array is whose length isn't written: one more than its greatest index.
abbrev pub long_enough : typed.Items → ℕ
long_enough typed.NoItems = 0
long_enough (typed.MoreItems i e is) = max (suc (unsigned_abs i)) (long_enough is)

-- What is printed of an argument: a byte stands there as an int of the same value.
abbrev pub as_printed : Ty → Term → Term
as_printed Byte t = Node Int (Operate (operation.Convert kind.Byte kind.Int)) (only_term t)
as_printed _ t = t

-- A list of items is made cell by cell.
abbrev pub operating : Operation → Work
operating operation.List = Link
operating o = Operate o

-- A print on the standard output, or a string that is made as for one; the format holds its holes.
abbrev pub printing : Printed → Ty → List Piece → Terms → Term
printing printed.Print t ps ts = Node t (Print ps) ts
printing printed.Sprint t ps ts = Node t (Sprint ps) ts
printing printed.Fprint t ps ts = Missing

abbrev mutual
  pub term_of : typed.Expr → Term
  term_of (Of t n) = node_of t n

  pub node_of : Ty → typed.Node → Term
  node_of t (typed.Number n) = Node t (Literal (constant.Number n)) NoTerms
  node_of t (typed.Chars s) = Node t (Literal (constant.Chars s)) NoTerms
  node_of t typed.Nil = Node t Nil NoTerms
  node_of t (typed.Read (typed.At u p)) = Node u (Read (way_of p)) (operands_at p)
  node_of t (typed.Part e n) = Node t (TakePart n) (only_term (term_of e))
  node_of t (typed.Apply o es) = Node t (operating o) (terms_of es)
  node_of t (typed.Lazy c l r) = Lazy c (term_of l) (term_of r)
  node_of t (typed.Assign p e) = Node t (Assign (aims_in [] p)) (terms_before (operands_to p) (only_term (term_of e)))
  node_of t (typed.Update o (typed.At u p) e) = Update o given.New u (way_of p) (operands_at p) (only_term (term_of e))
  node_of t (typed.Step o g (typed.At u p)) = Update o g u (way_of p) (operands_at p) NoTerms
  node_of t (typed.Copy a i e) = Node t Copy (MoreTerms (term_of a) (MoreTerms (term_of i) (only_term (term_of e))))
  node_of t (typed.Filled l is rest) = Fill (item_of t) (length_term l is) (items_of is) (terms_if rest)
  node_of t (typed.Channel typed.Absent) = Node t NewChannel NoTerms
  node_of t (typed.Call f es) = Node t (Call f) (terms_of es)
  node_of t (typed.Print w m typed.Absent ps es) = printing w t ps (printed_of es)
  node_of t _ = Missing

  pub terms_of : typed.Exprs → Terms
  terms_of typed.NoExprs = NoTerms
  terms_of (typed.MoreExprs e es) = MoreTerms (term_of e) (terms_of es)

  pub terms_if : typed.Optional → Terms
  terms_if typed.Absent = NoTerms
  terms_if (typed.Present e) = only_term (term_of e)

  pub length_term : typed.Optional → typed.Items → Term
  length_term typed.Absent is = Evaluated (Num (pos (long_enough is)))
  length_term (typed.Present e) is = term_of e

  pub items_of : typed.Items → Items
  items_of typed.NoItems = NoItems
  items_of (typed.MoreItems i e is) = MoreItems i (term_of e) (items_of is)

  pub printed_of : typed.Exprs → Terms
  printed_of typed.NoExprs = NoTerms
  printed_of (typed.MoreExprs (Of t n) es) = MoreTerms (as_printed t (node_of t n)) (printed_of es)

  -- the operands of a place, and those of the places of a pattern, from left to right
  pub operands_at : typed.PlaceNode → Terms
  operands_at (typed.Local x) = NoTerms
  operands_at (typed.Global x) = NoTerms
  operands_at (typed.Field (typed.At t p) n) = operands_at p
  operands_at (typed.Element a i) = MoreTerms (term_of a) (only_term (term_of i))
  operands_at (typed.Character (typed.At t p) i) = terms_before (operands_at p) (only_term (term_of i))
  operands_at (typed.Target e) = only_term (term_of e)

  pub operands_to : typed.Pattern → Terms
  operands_to (typed.ToPlace (typed.At t p)) = operands_at p
  operands_to typed.ToNothing = NoTerms
  operands_to (typed.ToParts ps) = operands_among ps

  pub operands_among : typed.Patterns → Terms
  operands_among typed.NoPatterns = NoTerms
  operands_among (typed.MorePatterns p ps) = terms_before (operands_to p) (operands_among ps)

-- ---- statements

-- An assignment of what `load` gives leaves no trace in this part: the module that is loaded is `Sys`, which is there from the start.
abbrev pub is_load : typed.Node → Option Stm
is_load (typed.Assign p (Of t (typed.Load i e))) = Some Over
is_load _ = None

abbrev pub evaluated : typed.Expr → Stm
evaluated (Of t n) = elim (is_load n) [ None ↦ Eval (node_of t n) | Some s ↦ s ]

abbrev pub optional : Option typed.Expr → Option Term
optional e = option_map term_of e

abbrev pub return_of : Option typed.Expr → Stm
return_of None = Leave
return_of (Some e) = Return (term_of e)

-- What a `for` begins with is a statement of its own.
abbrev pub first_of : Option typed.Expr → Block → Block
first_of None rest = rest
first_of (Some e) rest = Then (evaluated e) rest

module _ (types : List Ty) where
  -- The variable of this number, where the whole value goes.
  abbrev pub local : ℕ → Aim
  local x = record { part = []; type = slice_index_or types x Int; way = began (Local x) }

  -- Of a declaration each variable gets the value; without one it gets zero or `nil` each time.
  abbrev pub declared_value : Option typed.Expr → Term
  declared_value None = Evaluated nothing
  declared_value (Some e) = term_of e

  -- A statement in front of what follows it, and statements in front of what follows them. A block, and a loop, end in a step of their own.
  abbrev mutual
    pub before : typed.Stmt → Block → Block
    before typed.Empty rest = Then Over rest
    before (typed.Block ss) rest = all_before ss (Then Over rest)
    before (typed.Declare xs e) rest = Then (Eval (Node Int (Assign (map local xs)) (only_term (declared_value e)))) rest
    before (typed.Eval e) rest = Then (evaluated e) rest
    before (typed.If c ss others) rest = Then (If (term_of c) (all_before ss Done) (all_before others Done)) rest
    before (typed.While c ss) rest = tested (Looping (optional c) None (all_before ss Done)) (Then Over rest)
    before (typed.Do ss c) rest = Then (Enter (Looping (optional c) None (all_before ss Done))) (Then Over rest)
    before (typed.For first c n ss) rest =
        first_of first (tested (Looping (optional c) (optional n) (all_before ss Done)) (Then Over rest))
    before (typed.Break n) rest = Then (Break n) rest
    before (typed.Continue n) rest = Then (Continue n) rest
    before (typed.Return e) rest = Then (return_of e) rest
    before _ rest = Then (Eval Missing) rest

    pub all_before : typed.Stmts → Block → Block
    all_before typed.NoStmts rest = rest
    all_before (typed.MoreStmts s ss) rest = before s (all_before ss rest)

-- ---- modules

-- A function: the types of its variables, the parameters first, and what its body does.
pub record Routine : Type 0 where
  pub variables : List Ty
  pub body : Block

-- A program: the adts that its types name, and its functions by their numbers.
pub record Program : Type 0 where
  pub adts : List Def
  pub routines : List Routine

abbrev pub routine_of : typed.Function → Routine
routine_of f =
    let types = map (λ v. v.ty) f.variables in
    record { variables = types; body = all_before types f.body Done }

abbrev pub program_of : typed.Module → Program
program_of m = record { adts = m.adts; routines = map routine_of m.functions }

-- A variable of the module begins with the constant that it is declared with, or with zero or `nil`.
abbrev pub initial_of : ℕ → List Initial → Value
initial_of n [] = nothing
initial_of n (i ∷ is) = if nat_eq i.global n then constant_value i.value else initial_of n is

abbrev pub initials_from : List Def → ℕ → List typed.Var → List Initial → List Value
initials_from defs n [] is = []
initials_from defs n (v ∷ vs) is = fitted defs v.ty (initial_of n is) ∷ initials_from defs (suc n) vs is

abbrev pub globals_of : typed.Module → List Value
globals_of m = initials_from m.adts 0 m.globals m.initials
