-- The form of trees by which each has a slot behind those of its operands: an assignment, a copy and a part that is taken have operands. Trees
-- that are made of typed statements have it.
use Rattle.std.proofs.Common.{◌≡◌, List, map, Option, Some, None, refl, subst}
use Rattle.limbo_types.specs.Types as ty
use Rattle.limbo_types.specs.Types.{Ty}
use Rattle.limbo_typed.specs.Typed as typed
use Rattle.limbo_typed.specs.Typed.{Of}
use Rattle.limbo_typed.specs.declared.operation.Operation.{Operation}
use Rattle.limbo_typed.specs.declared.operation.Operation.TheVariants as operation
use Rattle.limbo_typed.specs.declared.print.Printed.{Printed}
use Rattle.limbo_typed.specs.declared.print.Printed.TheVariants as printed
use Rattle.limbo_typed.specs.declared.print.Piece.{Piece}
use Rattle.limbo_meaning.specs.Trees as tree
use Rattle.limbo_meaning.specs.Trees.{Work, Operate, Term, Evaluated, Missing, Node, Lazy, Update, Fill, Terms, NoTerms, MoreTerms, Items, NoItems, MoreItems}
use Rattle.limbo_meaning.specs.Trees.{Stm, Over, Eval, If, While, Enter, Loop, Looping, Block, Done, Then, Turn, Again, tested}
use Rattle.limbo_meaning.specs.Program.{terms_before, only_term, term_of, node_of, terms_of, terms_if, length_term, items_of, printed_of, operands_at}
use Rattle.limbo_meaning.specs.Program.{operands_to, operands_among, as_printed, operating, printing, evaluated, optional, return_of, first_of, is_load}
use Rattle.limbo_meaning.specs.Program.{before, all_before, declared_value, routine_of}

abbrev pub IsSome : Terms → Type 0
IsSome NoTerms = ⊥
IsSome (MoreTerms t ts) = Unit {0}

abbrev pub Needs : Work → Terms → Type 0
Needs (tree.Assign aims) ts = IsSome ts
Needs (tree.TakePart n) ts = IsSome ts
Needs tree.Copy ts = IsSome ts
Needs o ts = Unit {0}

abbrev mutual
  pub Shaped : Term → Type 0
  Shaped (Node t o ts) = Needs o ts × AllShaped ts
  Shaped (Lazy c l r) = Shaped l × Shaped r
  Shaped (Update o g t w ts us) = AllShaped ts × AllShaped us
  Shaped (Fill t l is rest) = Shaped l × ItemsShaped is × AllShaped rest
  Shaped t = Unit {0}

  pub AllShaped : Terms → Type 0
  AllShaped NoTerms = Unit {0}
  AllShaped (MoreTerms t ts) = Shaped t × AllShaped ts

  pub ItemsShaped : Items → Type 0
  ItemsShaped NoItems = Unit {0}
  ItemsShaped (MoreItems z t is) = Shaped t × ItemsShaped is

abbrev pub ShapedIf : Option Term → Type 0
ShapedIf None = Unit {0}
ShapedIf (Some t) = Shaped t

abbrev mutual
  pub StmShaped : Stm → Type 0
  StmShaped (Eval t) = Shaped t
  StmShaped (If t a b) = Shaped t × BlockShaped a × BlockShaped b
  StmShaped (While t l) = LoopShaped l
  StmShaped (Enter l) = LoopShaped l
  StmShaped (tree.Return t) = Shaped t
  StmShaped s = Unit {0}

  pub LoopShaped : Loop → Type 0
  LoopShaped (Looping c n body) = ShapedIf c × ShapedIf n × BlockShaped body

  pub BlockShaped : Block → Type 0
  BlockShaped (Then s b) = StmShaped s × BlockShaped b
  BlockShaped (Turn l b) = BlockShaped b
  BlockShaped (Again l b) = BlockShaped b
  BlockShaped b = Unit {0}

-- ---- trees of typed expressions

some_before : (ts us : Terms) → IsSome us → IsSome (terms_before ts us)
some_before NoTerms us h = h
some_before (MoreTerms t ts) us h = tt

shaped_before : (ts us : Terms) → AllShaped ts → AllShaped us → AllShaped (terms_before ts us)
shaped_before NoTerms us f g = g
shaped_before (MoreTerms t ts) us f g = (f.0, shaped_before ts us f.1 g)

operate_needs : (o : Operation) (ts : Terms) → Needs (operating o) ts
operate_needs operation.List ts = tt
operate_needs o ts = tt

print_shaped : (w : Printed) (t : Ty) (ps : List Piece) (ts : Terms) → AllShaped ts → Shaped (printing w t ps ts)
print_shaped printed.Print t ps ts f = (tt, f)
print_shaped printed.Sprint t ps ts f = (tt, f)
print_shaped printed.Fprint t ps ts f = tt

as_shaped : (t : Ty) (e : Term) → Shaped e → Shaped (as_printed t e)
as_shaped ty.Byte e f = (tt, (f, tt))
as_shaped t e f = f

mutual
  term_shaped : (e : typed.Expr) → Shaped (term_of e)
  term_shaped (Of t n) = node_shaped t n

  node_shaped : (t : Ty) (n : typed.Node) → Shaped (node_of t n)
  node_shaped t (typed.Number n) = (tt, tt)
  node_shaped t (typed.Chars s) = (tt, tt)
  node_shaped t typed.Nil = (tt, tt)
  node_shaped t (typed.Read (typed.At u p)) = (tt, place_shaped p)
  node_shaped t (typed.Part e n) = (tt, (term_shaped e, tt))
  node_shaped t (typed.Apply o es) = (operate_needs o (terms_of es), terms_shaped es)
  node_shaped t (typed.Lazy c l r) = (term_shaped l, term_shaped r)
  node_shaped t (typed.Assign p e) =
      (some_before (operands_to p) (only_term (term_of e)) tt, shaped_before (operands_to p) (only_term (term_of e)) (pattern_shaped p) (term_shaped e, tt))
  node_shaped t (typed.Update o (typed.At u p) e) = (place_shaped p, (term_shaped e, tt))
  node_shaped t (typed.Step o g (typed.At u p)) = (place_shaped p, tt)
  node_shaped t (typed.Copy a i e) = (tt, (term_shaped a, (term_shaped i, (term_shaped e, tt))))
  node_shaped t (typed.Filled l is rest) = (length_shaped l is, items_shaped is, rest_shaped rest)
  node_shaped t (typed.Channel typed.Absent) = (tt, tt)
  node_shaped t (typed.Call f es) = (tt, terms_shaped es)
  node_shaped t (typed.Print w m typed.Absent ps es) = print_shaped w t ps (printed_of es) (printed_shaped es)
  node_shaped t _ = tt

  terms_shaped : (es : typed.Exprs) → AllShaped (terms_of es)
  terms_shaped typed.NoExprs = tt
  terms_shaped (typed.MoreExprs e es) = (term_shaped e, terms_shaped es)

  rest_shaped : (e : typed.Optional) → AllShaped (terms_if e)
  rest_shaped typed.Absent = tt
  rest_shaped (typed.Present e) = (term_shaped e, tt)

  length_shaped : (l : typed.Optional) (is : typed.Items) → Shaped (length_term l is)
  length_shaped typed.Absent is = tt
  length_shaped (typed.Present e) is = term_shaped e

  items_shaped : (is : typed.Items) → ItemsShaped (items_of is)
  items_shaped typed.NoItems = tt
  items_shaped (typed.MoreItems i e is) = (term_shaped e, items_shaped is)

  printed_shaped : (es : typed.Exprs) → AllShaped (printed_of es)
  printed_shaped typed.NoExprs = tt
  printed_shaped (typed.MoreExprs (Of t n) es) = (as_shaped t (node_of t n) (node_shaped t n), printed_shaped es)

  place_shaped : (p : typed.PlaceNode) → AllShaped (operands_at p)
  place_shaped (typed.Local x) = tt
  place_shaped (typed.Global x) = tt
  place_shaped (typed.Field (typed.At t p) n) = place_shaped p
  place_shaped (typed.Element a i) = (term_shaped a, (term_shaped i, tt))
  place_shaped (typed.Character (typed.At t p) i) = shaped_before (operands_at p) (only_term (term_of i)) (place_shaped p) (term_shaped i, tt)
  place_shaped (typed.Target e) = (term_shaped e, tt)

  pattern_shaped : (p : typed.Pattern) → AllShaped (operands_to p)
  pattern_shaped (typed.ToPlace (typed.At t p)) = place_shaped p
  pattern_shaped typed.ToNothing = tt
  pattern_shaped (typed.ToParts ps) = patterns_shaped ps

  patterns_shaped : (ps : typed.Patterns) → AllShaped (operands_among ps)
  patterns_shaped typed.NoPatterns = tt
  patterns_shaped (typed.MorePatterns p ps) = shaped_before (operands_to p) (operands_among ps) (pattern_shaped p) (patterns_shaped ps)

-- ---- and of typed statements

eval_shaped : (t : Ty) (n : typed.Node) (o : Option Stm) → ((s : Stm) → o ≡ Some s → StmShaped s) → StmShaped (elim o [ None ↦ Eval (node_of t n) | Some s ↦ s ])
eval_shaped t n None f = node_shaped t n
eval_shaped t n (Some s) f = f s refl

load_shaped : (n : typed.Node) (s : Stm) → is_load n ≡ Some s → StmShaped s
load_shaped (typed.Assign p (Of t (typed.Load i e))) s g = let same : Over ≡ s = cc in subst StmShaped same tt
load_shaped (typed.Assign p (Of t n)) s g = absurd cc
load_shaped n s g = absurd cc

evaluated_shaped : (e : typed.Expr) → StmShaped (evaluated e)
evaluated_shaped (Of t n) = eval_shaped t n (is_load n) (load_shaped n)

optional_shaped : (e : Option typed.Expr) → ShapedIf (optional e)
optional_shaped None = tt
optional_shaped (Some e) = term_shaped e

return_shaped : (e : Option typed.Expr) → StmShaped (return_of e)
return_shaped None = tt
return_shaped (Some e) = term_shaped e

declared_shaped : (types : List Ty) (e : Option typed.Expr) → Shaped (declared_value types e)
declared_shaped types None = tt
declared_shaped types (Some e) = term_shaped e

first_shaped : (e : Option typed.Expr) (rest : Block) → BlockShaped rest → BlockShaped (first_of e rest)
first_shaped None rest f = f
first_shaped (Some e) rest f = (evaluated_shaped e, f)

tested_shaped : (l : Loop) (rest : Block) → LoopShaped l → BlockShaped rest → BlockShaped (tested l rest)
tested_shaped (Looping None n body) rest f g = (f, g)
tested_shaped (Looping (Some c) n body) rest f g = (f, g)

module _ (types : List Ty) where
  mutual
    before_shaped : (s : typed.Stmt) (rest : Block) → BlockShaped rest → BlockShaped (before types s rest)
    before_shaped typed.Empty rest f = (tt, f)
    before_shaped (typed.Block ss) rest f = all_shaped ss (Then Over rest) (tt, f)
    before_shaped (typed.Declare xs e) rest f = ((tt, (declared_shaped types e, tt)), f)
    before_shaped (typed.Eval e) rest f = (evaluated_shaped e, f)
    before_shaped (typed.If c ss others) rest f = ((term_shaped c, all_shaped ss Done tt, all_shaped others Done tt), f)
    before_shaped (typed.While c ss) rest f =
        tested_shaped (Looping (optional c) None (all_before types ss Done)) (Then Over rest) (optional_shaped c, tt, all_shaped ss Done tt) (tt, f)
    before_shaped (typed.Do ss c) rest f = ((optional_shaped c, tt, all_shaped ss Done tt), (tt, f))
    before_shaped (typed.For first c n ss) rest f =
        first_shaped first (tested (Looping (optional c) (optional n) (all_before types ss Done)) (Then Over rest))
        (tested_shaped (Looping (optional c) (optional n) (all_before types ss Done)) (Then Over rest)
        (optional_shaped c, optional_shaped n, all_shaped ss Done tt) (tt, f))
    before_shaped (typed.Break n) rest f = (tt, f)
    before_shaped (typed.Continue n) rest f = (tt, f)
    before_shaped (typed.Return e) rest f = (return_shaped e, f)
    before_shaped _ rest f = (tt, f)

    all_shaped : (ss : typed.Stmts) (rest : Block) → BlockShaped rest → BlockShaped (all_before types ss rest)
    all_shaped typed.NoStmts rest f = f
    all_shaped (typed.MoreStmts s ss) rest f = before_shaped s (all_before types ss rest) (all_shaped ss rest f)

pub routines_shaped : (f : typed.Function) → BlockShaped (routine_of f).body
routines_shaped f = all_shaped (map (λ v. v.ty) f.variables) f.body Done tt
