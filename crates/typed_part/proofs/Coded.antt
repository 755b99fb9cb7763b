-- All that stands in the functions of a module of the part has code.
use Rattle.std.proofs.Common.{◌≡◌, ℕ, suc, true, ◌&&◌, ◌⊎◌, inl, inr, List, Option, None, Some, map}
use Rattle.std.proofs.Common.{refl, sym, ap, ◌∙◌, subst}
use Rattle.std.specs.Prelude.{not}
use Rattle.std.proofs.lemmas.Bool.{false≢true}
use Rattle.limbo_types.specs.Types.{Ty, Byte}
use Rattle.limbo_typed.specs.declared.operation.Operation.{Operation}
use Rattle.limbo_typed.specs.declared.operation.Given.{Given}
use Rattle.limbo_typed.specs.declared.operation.Given.TheVariants as given
use Rattle.limbo_typed.specs.declared.print.Printed.{Printed}
use Rattle.limbo_typed.specs.declared.print.Printed.TheVariants as printed
use Rattle.limbo_typed.specs.declared.print.Piece.{Piece}
use Rattle.limbo_typed.specs.Typed as typed
use Rattle.limbo_typed.specs.Typed.{Of, At}
use Rattle.limbo_typed.specs.Sound.{types_of}
use Rattle.typed_meaning.specs.Trees as tree
use Rattle.typed_meaning.specs.Trees.{Term, Terms, Read, Store, Change, MoreTerms, NoTerms, Stm, Eval}
use Rattle.typed_meaning.specs.Program as program
use Rattle.typed_meaning.specs.Program.{term_of, terms_of, node_of, evaluated, at_place, place_of, place_to, printing}
use Rattle.typed_meaning.specs.Program.{as_printed, printed_of}
use Rattle.typed_lower.specs.Stands.{Fresh, AllFresh, IsOne, FreshOption, FreshOptional, FreshStm, Handled, AllHandled}
use Rattle.typed_part.specs.Part as part
use Rattle.typed_part.specs.Part.{Inside}
use Rattle.typed_part.specs.Laws.{PartHasCode}
use Rattle.typed_part.proofs.Operands.{takes_none, takes_no_more}
use Rattle.typed_part.proofs.Tests.{left, right, one_holds, less, all_at}

-- ---- places

at_fresh : (i : Inside) (p : typed.Place) (made : tree.Place → Term) → part.is_place i p ≡ true → ((q : tree.Place) → Fresh (made q))
    → Fresh (at_place (place_of p) made)
at_fresh i (At t (typed.Local x)) made h f = f (tree.At t (tree.Local x))
at_fresh i (At t (typed.Global x)) made h f = f (tree.At t (tree.Global x))
at_fresh i (At t _) made h f = absurd (false≢true h)

assign_fresh : (i : Inside) (p : typed.Pattern) (u t : Ty) (e : Term) → part.assigns i p u t ≡ true → Fresh e
    → Fresh (at_place (place_to p) (λ q. Store q e))
assign_fresh i (typed.ToPlace q) u t e h f = at_fresh i q (λ r. Store r e) (left _ _ (left _ _ h)) (λ r. f)
assign_fresh i _ u t e h f = absurd (false≢true h)

-- `++` and `--` read their place alone
step_fresh : (o : Operation) (g : Given) (q : tree.Place) → Fresh (Change o g q (MoreTerms (Read q) NoTerms))
step_fresh o given.Old q = ((tt, tt), tt, refl)
step_fresh o given.New q = ((tt, tt), tt, refl)

-- ---- operands: one or two

one_or_two : (o : Operation) (es : typed.Exprs) (t : Ty) → part.gives o (types_of es) t ≡ true → IsOne (terms_of es)
one_or_two o typed.NoExprs t h = absurd (false≢true (sym (takes_none o) ∙ left _ _ h))
one_or_two o (typed.MoreExprs e typed.NoExprs) t h = tt
one_or_two o (typed.MoreExprs e (typed.MoreExprs f typed.NoExprs)) t h = tt
one_or_two o (typed.MoreExprs e (typed.MoreExprs f (typed.MoreExprs g es))) t h =
    absurd (false≢true (sym (takes_no_more o _ _ _ _) ∙ left _ _ h))

-- ---- prints

print_fresh : (w : Printed) (file : typed.Optional) (ps : List Piece) (ts : Terms) → (part.is_print w && part.is_absent file) ≡ true
    → AllFresh ts → Fresh (printing w file ps ts)
print_fresh printed.Print typed.Absent ps ts h f = f
print_fresh printed.Print (typed.Present e) ps ts h f = absurd (false≢true h)
print_fresh _ file ps ts h f = absurd (false≢true h)

-- a byte is converted first
printed_one : (t : Ty) (x : Term) → Fresh x → Fresh (as_printed t x)
printed_one Byte x f = ((f, tt), tt)
printed_one _ x f = f

-- ---- expressions

mutual
  expr_fresh : (i : Inside) (e : typed.Expr) → part.is_expr i e ≡ true → Fresh (term_of e)
  expr_fresh i (Of t n) h = node_fresh i t n h

  node_fresh : (i : Inside) (t : Ty) (n : typed.Node) → part.is_node i t n ≡ true → Fresh (node_of t n)
  node_fresh i t (typed.Number n) h = tt
  node_fresh i t (typed.Read p) h = at_fresh i p Read (left _ _ h) (λ q. tt)
  node_fresh i t (typed.Apply o es) h = (exprs_fresh i es (left _ _ h), one_or_two o es t (right _ _ h))
  node_fresh i t (typed.Lazy c l r) h = (expr_fresh i l (left _ _ (left _ _ h)), expr_fresh i r (right _ _ (left _ _ h)))
  node_fresh i t (typed.Assign p e) h = assign_fresh i p _ t (term_of e) (right _ _ h) (expr_fresh i e (left _ _ h))
  node_fresh i t (typed.Update o p e) h =
      at_fresh i p _ (left _ _ (left _ _ (left _ _ h)))
      (λ q. ((tt, (expr_fresh i e (right _ _ (left _ _ (left _ _ h))), tt)), tt, refl))
  node_fresh i t (typed.Step o g p) h = at_fresh i p _ (left _ _ (left _ _ h)) (λ q. step_fresh o g q)
  node_fresh i t (typed.Call f es) h = exprs_fresh i es (left _ _ h)
  node_fresh i t (typed.Print w m file ps es) h =
      print_fresh w file ps (printed_of es) (left _ _ (left _ _ (left _ _ (left _ _ h))))
      (printed_fresh i es (right _ _ (left _ _ (left _ _ h))))
  node_fresh i t _ h = absurd (false≢true h)

  exprs_fresh : (i : Inside) (es : typed.Exprs) → part.are_exprs i es ≡ true → AllFresh (terms_of es)
  exprs_fresh i typed.NoExprs h = tt
  exprs_fresh i (typed.MoreExprs e es) h = (expr_fresh i e (left _ _ h), exprs_fresh i es (right _ _ h))

  printed_fresh : (i : Inside) (es : typed.Exprs) → part.are_exprs i es ≡ true → AllFresh (printed_of es)
  printed_fresh i typed.NoExprs h = tt
  printed_fresh i (typed.MoreExprs (Of t n) es) h =
      (printed_one t (node_of t n) (node_fresh i t n (left _ _ h)), printed_fresh i es (right _ _ h))

-- ---- expressions that stand alone

no_load : (i : Inside) (t : Ty) (n : typed.Node) → part.is_node i t n ≡ true → program.is_load n ≡ None
no_load i t (typed.Assign p (Of u (typed.Load k e))) h = absurd (false≢true h)
no_load i t _ h = refl

is_evaluated : (i : Inside) (e : typed.Expr) → part.is_expr i e ≡ true → evaluated e ≡ Eval (term_of e)
is_evaluated i (Of t n) h = ap (λ (o : Option Stm). elim o [ None ↦ Eval (node_of t n) | Some s ↦ s ]) (no_load i t n h)

load_fresh : (system : Option ℕ) (e : typed.Expr) → not (part.is_none (part.loads system e)) ≡ true → FreshStm (evaluated e)
load_fresh system (Of t (typed.Assign p (Of u (typed.Load k e)))) h = tt
load_fresh system _ h = absurd (false≢true h)

action_fresh : (i : Inside) (e : typed.Expr) → part.is_action i e ≡ true → FreshStm (evaluated e)
action_fresh i e h = go (one_holds (not (part.is_none (part.loads i.system e))) (part.is_expr i e) h)
  where
    go : (not (part.is_none (part.loads i.system e)) ≡ true) ⊎ (part.is_expr i e ≡ true) → FreshStm (evaluated e)
    go (inl a) = load_fresh i.system e a
    go (inr b) = subst FreshStm (sym (is_evaluated i e b)) (expr_fresh i e b)

value_fresh : (i : Inside) (e : Option typed.Expr) → part.is_value i e ≡ true → FreshOptional e
value_fresh i None h = tt
value_fresh i (Some e) h = (expr_fresh i e h, is_evaluated i e h)

test_fresh : (i : Inside) (e : Option typed.Expr) → part.is_test i e ≡ true → FreshOption e
test_fresh i None h = tt
test_fresh i (Some e) h = expr_fresh i e (left _ _ h)

return_fresh : (i : Inside) (e : Option typed.Expr) → part.returns i e ≡ true → FreshOption e
return_fresh i None h = tt
return_fresh i (Some e) h = expr_fresh i e (left _ _ h)

-- ---- statements

module _ (types : List Ty) (i : Inside) where
  declare_fresh : (xs : List ℕ) (e : Option typed.Expr) → part.declares i xs e ≡ true → Fresh (program.declared_value types e)
  declare_fresh xs None h = tt
  declare_fresh xs (Some e) h = expr_fresh i e (left _ _ h)

  mutual
    stmt_handled : (n : ℕ) (s : typed.Stmt) → part.is_stmt i n s ≡ true → Handled types n s
    stmt_handled n typed.Empty h = tt
    stmt_handled n (typed.Block ss) h = stmts_handled n ss h
    stmt_handled n (typed.Declare xs e) h = declare_fresh xs e h
    stmt_handled n (typed.Eval e) h = action_fresh i e h
    stmt_handled n (typed.If c ss others) h = (
      expr_fresh i c (left _ _ (left _ _ (left _ _ h))),
      stmts_handled n ss (right _ _ (left _ _ h)),
      stmts_handled n others (right _ _ h),
    )
    stmt_handled n (typed.While c ss) h = (test_fresh i c (left _ _ h), stmts_handled (suc n) ss (right _ _ h))
    stmt_handled n (typed.Do ss c) h = (test_fresh i c (right _ _ h), stmts_handled (suc n) ss (left _ _ h))
    stmt_handled n (typed.For first c next ss) h = (
      value_fresh i first (left _ _ (left _ _ (left _ _ h))),
      test_fresh i c (right _ _ (left _ _ (left _ _ h))),
      value_fresh i next (right _ _ (left _ _ h)),
      stmts_handled (suc n) ss (right _ _ h),
    )
    stmt_handled n (typed.Break k) h = less k n h
    stmt_handled n (typed.Continue k) h = less k n h
    stmt_handled n (typed.Return e) h = return_fresh i e h
    stmt_handled n _ h = absurd (false≢true h)

    pub stmts_handled : (n : ℕ) (ss : typed.Stmts) → part.are_stmts i n ss ≡ true → AllHandled types n ss
    stmts_handled n typed.NoStmts h = tt
    stmts_handled n (typed.MoreStmts s ss) h = (stmt_handled n s (left _ _ h), stmts_handled n ss (right _ _ h))

-- ---- modules

pub part_has_code : PartHasCode
part_has_code m h n f e =
    stmts_handled (map (λ v. v.ty) f.variables) (part.inside m f) 0 f.body
    (right _ _ (all_at (part.is_function m) m.functions n f e (right _ _ h)))
