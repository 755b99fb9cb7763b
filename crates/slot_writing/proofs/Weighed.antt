-- What weights are, and that they are no more than sizes.
use Rattle.std.proofs.Common.{◌≡◌, suc, ◌+◌, ◌≤◌, List, [], ◌∷◌, Option, None, Some, length, refl, ap, ◌∙◌, arith}
use Rattle.limbo_types.specs.Types as types
use Rattle.limbo_types.specs.Types.{Ty}
use Rattle.limbo_typed.specs.declared.operation.Operation.{Operation}
use Rattle.limbo_typed.specs.declared.operation.Given.{Given}
use Rattle.limbo_typed.specs.declared.operation.Given.TheVariants as given
use Rattle.limbo_typed.specs.declared.print.Piece.{Piece}
use Rattle.limbo_typed.specs.declared.print.Printed.{Printed}
use Rattle.limbo_typed.specs.declared.print.Printed.TheVariants as printed
use Rattle.limbo_typed.specs.declared.expr.TExpr as code_expr
use Rattle.limbo_typed.specs.Typed as typed
use Rattle.limbo_typed.specs.View.{view_expr, view_exprs}
use Rattle.typed_meaning.specs.Trees.{Place, Term, Evaluated, Awaiting, Missing, Literal, Read, Apply, Lazy, Deciding, Store, Change, Put}
use Rattle.typed_meaning.specs.Trees.{Call, Print, Terms, NoTerms, MoreTerms}
use Rattle.typed_meaning.specs.Program.{term_of, node_of, terms_of, printed_of, place_of, place_to, as_printed, at_place, printing}
use Rattle.typed_lower.specs.Terms.{count}
use Rattle.typed_lower.specs.Sizes as sizes
use Rattle.slot_writing.specs.declared.terms.Taker.{Taker}
use Rattle.slot_writing.specs.declared.terms.Taker.TheVariants as taker
use Rattle.slot_writing.specs.Terms.{argument, arguments}
use Rattle.slot_writing.specs.Terms as terms
use Rattle.slot_writing.specs.Weights.{weight, weights}

pub weight_least : (t : Term) → 3 ≤ weight t
weight_least (Evaluated v) = omega arith
weight_least (Awaiting t) = omega arith
weight_least Missing = omega arith
weight_least (Literal t v) = omega arith
weight_least (Read p) = omega arith
weight_least (Apply o ts) = omega arith
weight_least (Lazy c l r) = omega arith
weight_least (Deciding r) = omega arith
weight_least (Store p t) = omega arith
weight_least (Change o g p ts) = omega arith
weight_least (Put p v w) = omega arith
weight_least (Call t f ts) = omega arith
weight_least (Print ps ts) = omega arith

-- ---- arguments

printed_more : (e : typed.Expr) (es : typed.Exprs) → printed_of (typed.MoreExprs e es) ≡ MoreTerms (terms.printed e) (printed_of es)
printed_more (typed.Of t n) es = refl

pub arguments_more : (k : Taker) (e : typed.Expr) (es : typed.Exprs)
    → arguments k (typed.MoreExprs e es) ≡ MoreTerms (argument k e) (arguments k es)
arguments_more (taker.Function f) e es = refl
arguments_more (taker.Format ps) e es = printed_more e es

pub arguments_none : (k : Taker) → arguments k typed.NoExprs ≡ NoTerms
arguments_none (taker.Function f) = refl
arguments_none (taker.Format ps) = refl

pub count_terms : (es : List code_expr.TExpr) → count (terms_of (view_exprs es)) ≡ length es
count_terms [] = refl
count_terms (e ∷ es) = ap suc (count_terms es)

pub count_printed : (es : List code_expr.TExpr) → count (printed_of (view_exprs es)) ≡ length es
count_printed [] = refl
count_printed (e ∷ es) = ap count (printed_more (view_expr e) (view_exprs es)) ∙ ap suc (count_printed es)

-- ---- sizes

node_least : (t : Ty) → 16 ≤ sizes.node_size t
node_least types.Nothing = omega arith
node_least t = omega arith

weight_printed : (t : Ty) (u : Term) → weight (as_printed t u) ≤ weight u + 3
weight_printed types.Byte u = omega arith
weight_printed t u = omega arith

read_weight : (p : Option Place) → weight (at_place p Read) ≤ 3
read_weight None = omega arith
read_weight (Some p) = omega arith

stored_weight : (p : Option Place) (t : Term) → weight (at_place p (λ q. Store q t)) ≤ weight t + 3
stored_weight None t = omega arith
stored_weight (Some p) t = omega arith

updated_weight : (o : Operation) (p : Option Place) (t : Term)
    → weight (at_place p (λ q. Change o given.New q (MoreTerms (Read q) (MoreTerms t NoTerms)))) ≤ weight t + 6
updated_weight o None t = omega arith
updated_weight o (Some p) t = omega arith

stepped_weight : (o : Operation) (g : Given) (p : Option Place) → weight (at_place p (λ q. Change o g q (MoreTerms (Read q) NoTerms))) ≤ 6
stepped_weight o g None = omega arith
stepped_weight o g (Some p) = omega arith

printing_weight : (w : Printed) (file : typed.Optional) (ps : List Piece) (ts : Terms) → weight (printing w file ps ts) ≤ 3 + weights ts
printing_weight printed.Print typed.Absent ps ts = omega arith
printing_weight printed.Print (typed.Present e) ps ts = omega arith
printing_weight printed.Fprint file ps ts = omega arith
printing_weight printed.Sprint file ps ts = omega arith

mutual
  pub weight_size : (e : typed.Expr) → weight (term_of e) + 3 ≤ sizes.expr_size e
  weight_size (typed.Of t n) = omega (arith, node_least t, node_weight t n)

  node_weight : (t : Ty) (n : typed.Node) → weight (node_of t n) ≤ 6 + sizes.inner_size n
  node_weight t (typed.Read p) = omega (arith, read_weight (place_of p))
  node_weight t (typed.Apply o es) = omega (arith, terms_weight es)
  node_weight t (typed.Lazy c l r) = omega (arith, weight_size l, weight_size r)
  node_weight t (typed.Assign p e) = omega (arith, stored_weight (place_to p) (term_of e), weight_size e)
  node_weight t (typed.Update o p e) = omega (arith, updated_weight o (place_of p) (term_of e), weight_size e)
  node_weight t (typed.Step o g p) = omega (arith, stepped_weight o g (place_of p))
  node_weight t (typed.Call f es) = omega (arith, terms_weight es)
  node_weight t (typed.Print w m file ps es) = omega (arith, printing_weight w file ps (printed_of es), printed_weight es)
  node_weight t n = omega arith

  terms_weight : (es : typed.Exprs) → weights (terms_of es) ≤ sizes.exprs_size es
  terms_weight typed.NoExprs = omega arith
  terms_weight (typed.MoreExprs e es) = omega (arith, weight_size e, terms_weight es)

  printed_weight : (es : typed.Exprs) → weights (printed_of es) ≤ sizes.exprs_size es
  printed_weight typed.NoExprs = omega arith
  printed_weight (typed.MoreExprs (typed.Of t n) es) =
      omega (arith, node_least t, weight_printed t (node_of t n), node_weight t n, printed_weight es)
