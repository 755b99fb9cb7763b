-- The trees of a checked module name nothing.
use Rattle.std.proofs.Common.{◌≡◌, ℕ, zero, suc, List, [], ◌∷◌, ◌++◌, map, Option, None, Some, inl, inr, refl, subst}
use Rattle.std.specs.Prelude.{slice_get}
use Rattle.limbo_types.specs.Types.{Ty, Byte}
use Rattle.limbo_typed.specs.declared.print.Printed.{Printed}
use Rattle.limbo_typed.specs.declared.print.Printed.TheVariants as printed
use Rattle.limbo_typed.specs.declared.print.Piece.{Piece}
use Rattle.limbo_typed.specs.Typed as typed
use Rattle.limbo_typed.specs.Typed.{Of}
use Rattle.limbo_meaning.specs.Trees.{Term, Terms, NoTerms, MoreTerms, Items}
use Rattle.limbo_meaning.specs.Trees.{Stm, Over, Eval, Loop, Looping, Block, Done, Then, tested}
use Rattle.limbo_meaning.specs.Program.{terms_before, only_term, as_printed, printing, term_of, node_of, terms_of, terms_if, length_term}
use Rattle.limbo_meaning.specs.Program.{items_of, printed_of}
use Rattle.limbo_meaning.specs.Program.{operands_at, operands_to, operands_among, is_load, evaluated, optional, return_of, first_of}
use Rattle.limbo_meaning.specs.Program.{declared_value}
use Rattle.limbo_meaning.specs.Program.{before, all_before, routine_of, program_of, Routine}
use Rattle.limbo_meaning.specs.Origins.{Name, term_references, terms_references, items_references}
use Rattle.limbo_meaning.specs.Owning.{IsFresh, IsFreshIf, FreshStm, FreshLoop, FreshBlock, FreshProgram}
use Rattle.limbo_meaning.proofs.Names.{none, either, left, right}

abbrev AllFresh : Terms → Type 0
AllFresh ts = (n : ℕ) → Name (terms_references ts) n → ⊥

abbrev ItemsFresh : Items → Type 0
ItemsFresh is = (n : ℕ) → Name (items_references is) n → ⊥

-- neither of two lists of words names anything
neither : (rs ss : List (Option ℕ)) → ((n : ℕ) → Name rs n → ⊥) → ((n : ℕ) → Name ss n → ⊥) → (n : ℕ) → Name (rs ++ ss) n → ⊥
neither rs ss f g n h = elim (either rs ss n h) [ inl y ↦ f n y | inr y ↦ g n y ]

more_fresh : (t : Term) (ts : Terms) → IsFresh t → AllFresh ts → AllFresh (MoreTerms t ts)
more_fresh t ts f g = neither (term_references t) (terms_references ts) f g

only_fresh : (t : Term) → IsFresh t → AllFresh (only_term t)
only_fresh t f = more_fresh t NoTerms f (λ n h. none n h)

before_fresh : (ts us : Terms) → AllFresh ts → AllFresh us → AllFresh (terms_before ts us)
before_fresh NoTerms us f g = g
before_fresh (MoreTerms t ts) us f g =
    more_fresh t (terms_before ts us) (λ n h. f n (first n h)) (before_fresh ts us (λ n h. f n (rest n h)) g)
  where
    first : (n : ℕ) → Name (term_references t) n → Name (terms_references (MoreTerms t ts)) n
    first n h = left (term_references t) (terms_references ts) n h

    rest : (n : ℕ) → Name (terms_references ts) n → Name (terms_references (MoreTerms t ts)) n
    rest n h = right (term_references t) (terms_references ts) n h

printed_fresh : (t : Ty) (u : Term) → IsFresh u → IsFresh (as_printed t u)
printed_fresh Byte u f = only_fresh u f
printed_fresh t u f = f

print_fresh : (w : Printed) (t : Ty) (ps : List Piece) (ts : Terms) → AllFresh ts → IsFresh (printing w t ps ts)
print_fresh printed.Print t ps ts f = f
print_fresh printed.Sprint t ps ts f = f
print_fresh printed.Fprint t ps ts f = λ n h. none n h

mutual
  term_fresh : (e : typed.Expr) → IsFresh (term_of e)
  term_fresh (Of t n) = node_fresh t n

  node_fresh : (t : Ty) (n : typed.Node) → IsFresh (node_of t n)
  node_fresh t (typed.Number k) = λ n h. none n h
  node_fresh t (typed.Chars s) = λ n h. none n h
  node_fresh t typed.Nil = λ n h. none n h
  node_fresh t (typed.Read (typed.At u p)) = place_fresh p
  node_fresh t (typed.Part e k) = only_fresh (term_of e) (term_fresh e)
  node_fresh t (typed.Apply o es) = all_fresh es
  node_fresh t (typed.Lazy c l r) = neither (term_references (term_of l)) (term_references (term_of r)) (term_fresh l) (term_fresh r)
  node_fresh t (typed.Assign p e) = before_fresh (operands_to p) (only_term (term_of e)) (pattern_fresh p)
      (only_fresh (term_of e) (term_fresh e))
  node_fresh t (typed.Update o (typed.At u p) e) =
      neither (terms_references (operands_at p)) (terms_references (only_term (term_of e))) (place_fresh p)
      (only_fresh (term_of e) (term_fresh e))
  node_fresh t (typed.Step o g (typed.At u p)) = neither (terms_references (operands_at p)) [] (place_fresh p) (λ n h. none n h)
  node_fresh t (typed.Copy a i e) =
      more_fresh (term_of a) (MoreTerms (term_of i) (only_term (term_of e))) (term_fresh a)
      (more_fresh (term_of i) (only_term (term_of e)) (term_fresh i) (only_fresh (term_of e) (term_fresh e)))
  node_fresh t (typed.Filled l is rest) =
      neither (term_references (length_term l is)) (items_references (items_of is) ++ terms_references (terms_if rest)) (length_fresh l is)
      (neither (items_references (items_of is)) (terms_references (terms_if rest)) (items_fresh is) (optional_fresh rest))
  node_fresh t (typed.Channel typed.Absent) = λ n h. none n h
  node_fresh t (typed.Call f es) = all_fresh es
  node_fresh t (typed.Print w m typed.Absent ps es) = print_fresh w t ps (printed_of es) (prints_fresh es)
  node_fresh t n = λ k h. none k h

  all_fresh : (es : typed.Exprs) → AllFresh (terms_of es)
  all_fresh typed.NoExprs = λ n h. none n h
  all_fresh (typed.MoreExprs e es) = more_fresh (term_of e) (terms_of es) (term_fresh e) (all_fresh es)

  optional_fresh : (o : typed.Optional) → AllFresh (terms_if o)
  optional_fresh typed.Absent = λ n h. none n h
  optional_fresh (typed.Present e) = only_fresh (term_of e) (term_fresh e)

  length_fresh : (o : typed.Optional) (is : typed.Items) → IsFresh (length_term o is)
  length_fresh typed.Absent is = λ n h. none n h
  length_fresh (typed.Present e) is = term_fresh e

  items_fresh : (is : typed.Items) → ItemsFresh (items_of is)
  items_fresh typed.NoItems = λ n h. none n h
  items_fresh (typed.MoreItems i e is) = neither (term_references (term_of e)) (items_references (items_of is)) (term_fresh e)
      (items_fresh is)

  prints_fresh : (es : typed.Exprs) → AllFresh (printed_of es)
  prints_fresh typed.NoExprs = λ n h. none n h
  prints_fresh (typed.MoreExprs (Of t n) es) =
      more_fresh (as_printed t (node_of t n)) (printed_of es) (printed_fresh t (node_of t n) (node_fresh t n)) (prints_fresh es)

  place_fresh : (p : typed.PlaceNode) → AllFresh (operands_at p)
  place_fresh (typed.Local x) = λ n h. none n h
  place_fresh (typed.Global x) = λ n h. none n h
  place_fresh (typed.Field (typed.At t p) k) = place_fresh p
  place_fresh (typed.Element a i) = more_fresh (term_of a) (only_term (term_of i)) (term_fresh a) (only_fresh (term_of i) (term_fresh i))
  place_fresh (typed.Character (typed.At t p) i) =
      before_fresh (operands_at p) (only_term (term_of i)) (place_fresh p) (only_fresh (term_of i) (term_fresh i))
  place_fresh (typed.Target e) = only_fresh (term_of e) (term_fresh e)

  pattern_fresh : (p : typed.Pattern) → AllFresh (operands_to p)
  pattern_fresh (typed.ToPlace (typed.At t p)) = place_fresh p
  pattern_fresh typed.ToNothing = λ n h. none n h
  pattern_fresh (typed.ToParts ps) = patterns_fresh ps

  patterns_fresh : (ps : typed.Patterns) → AllFresh (operands_among ps)
  patterns_fresh typed.NoPatterns = λ n h. none n h
  patterns_fresh (typed.MorePatterns p ps) = before_fresh (operands_to p) (operands_among ps) (pattern_fresh p) (patterns_fresh ps)

-- ---- statements

load_fresh : (t : Ty) (n : typed.Node) (o : Option Stm) → is_load n ≡ o → FreshStm (elim o [ None ↦ Eval (node_of t n) | Some s ↦ s ])
load_fresh t n None e = node_fresh t n
load_fresh t n (Some s) e = over n s e
  where
    over : (n : typed.Node) (s : Stm) → is_load n ≡ Some s → FreshStm s
    over (typed.Assign p (Of u (typed.Load i x))) s e = let z : Over ≡ s = cc in subst FreshStm z tt
    over n s e = absurd cc

evaluated_fresh : (e : typed.Expr) → FreshStm (evaluated e)
evaluated_fresh (Of t n) = load_fresh t n (is_load n) refl

if_fresh : (e : Option typed.Expr) → IsFreshIf (optional e)
if_fresh None = tt
if_fresh (Some e) = term_fresh e

return_fresh : (e : Option typed.Expr) → FreshStm (return_of e)
return_fresh None = tt
return_fresh (Some e) = term_fresh e

first_fresh : (e : Option typed.Expr) (b : Block) → FreshBlock b → FreshBlock (first_of e b)
first_fresh None b f = f
first_fresh (Some e) b f = (evaluated_fresh e, f)

pub tested_fresh : (l : Loop) (b : Block) → FreshLoop l → FreshBlock b → FreshBlock (tested l b)
tested_fresh (Looping None n body) b f g = (f, g)
tested_fresh (Looping (Some c) n body) b f g = ((f.0, f), g)

declared_fresh : (e : Option typed.Expr) (types : List Ty) → IsFresh (declared_value types e)
declared_fresh None types = λ n h. none n h
declared_fresh (Some e) types = term_fresh e

module _ (types : List Ty) where
  mutual
    stm_fresh : (s : typed.Stmt) (b : Block) → FreshBlock b → FreshBlock (before types s b)
    stm_fresh typed.Empty b f = (tt, f)
    stm_fresh (typed.Block ss) b f = stms_fresh ss (Then Over b) (tt, f)
    stm_fresh (typed.Declare xs e) b f = (only_fresh (declared_value types e) (declared_fresh e types), f)
    stm_fresh (typed.Eval e) b f = (evaluated_fresh e, f)
    stm_fresh (typed.If c ss others) b f = ((term_fresh c, stms_fresh ss Done tt, stms_fresh others Done tt), f)
    stm_fresh (typed.While c ss) b f =
        tested_fresh (Looping (optional c) None (all_before types ss Done)) (Then Over b) (if_fresh c, tt, stms_fresh ss Done tt) (tt, f)
    stm_fresh (typed.Do ss c) b f = ((if_fresh c, tt, stms_fresh ss Done tt), (tt, f))
    stm_fresh (typed.For first c n ss) b f =
        first_fresh first (tested (Looping (optional c) (optional n) (all_before types ss Done)) (Then Over b))
        (tested_fresh (Looping (optional c) (optional n) (all_before types ss Done)) (Then Over b)
        (if_fresh c, if_fresh n, stms_fresh ss Done tt) (tt, f))
    stm_fresh (typed.Break k) b f = (tt, f)
    stm_fresh (typed.Continue k) b f = (tt, f)
    stm_fresh (typed.Return e) b f = (return_fresh e, f)
    stm_fresh s b f = ((λ n h. none n h), f)

    stms_fresh : (ss : typed.Stmts) (b : Block) → FreshBlock b → FreshBlock (all_before types ss b)
    stms_fresh typed.NoStmts b f = f
    stms_fresh (typed.MoreStmts s ss) b f = stm_fresh s (all_before types ss b) (stms_fresh ss b f)

bodies_fresh : (fs : List typed.Function) (k : ℕ) (r : Routine) → slice_get (map routine_of fs) k ≡ Some r → FreshBlock r.body
bodies_fresh [] k r e = absurd cc
bodies_fresh (f ∷ fs) zero r e =
    let types = map (λ v. v.ty) f.variables in
    let z : routine_of f ≡ r = cc in
    subst (λ r. FreshBlock r.body) z (stms_fresh types f.body Done tt)
bodies_fresh (f ∷ fs) (suc k) r e = bodies_fresh fs k r e

pub modules_fresh : (m : typed.Module) → FreshProgram (program_of m)
modules_fresh m k r e = bodies_fresh m.functions k r e
