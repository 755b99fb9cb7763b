-- The code of every tree leaves its value at its place, and goes on where it leads as a condition.
use Rattle.std.proofs.Common.{false, List, sym, subst}
use Rattle.limbo_typed.specs.declared.operation.Operation.{Operation}
use Rattle.limbo_typed.specs.declared.operation.Operation.TheVariants as operation
use Rattle.limbo_typed.specs.declared.operation.Given.{Given}
use Rattle.limbo_typed.specs.declared.operation.Given.TheVariants as given
use Rattle.typed_meaning.specs.Trees.{Local, Place, Term, Evaluated, Literal, Read, Apply, Lazy, Store, Change}
use Rattle.typed_meaning.specs.Trees.{Call, Print, Terms, NoTerms, MoreTerms}
use Rattle.typed_meaning.specs.Program.{Routine}
use Rattle.slot_code.specs.Code.{Inst, Function}
use Rattle.typed_lower.specs.Kinds.{writes, kind_given}
use Rattle.typed_lower.specs.Stands.{Fresh, AllFresh}
use Rattle.typed_lower.proofs.Operands.{applying}
use Rattle.typed_lower.proofs.Parts.{ValueGoes, BranchGoes, Written, either_false}
use Rattle.typed_lower.proofs.Values.{literal_goes, read_goes, applied_one, applied_two, store_goes, new_one_goes, new_two_goes, old_goes}
use Rattle.typed_lower.proofs.Values.{two_few}
use Rattle.typed_lower.proofs.Conditions.{plain_branch, kept_branch, compared_branch}
use Rattle.typed_lower.proofs.Connected.{lazy_goes, lazy_branch}
use Rattle.typed_lower.proofs.Arguments.{AllGo}
use Rattle.typed_lower.proofs.Calls.{call_goes, print_goes}

module _ (routines : List Routine) (functions : List Function) (codes : List Inst) where
  abbrev V : Term → Type 0
  V t = ValueGoes routines functions codes t

  abbrev B : Term → Type 0
  B t = BranchGoes routines functions codes t

  -- ---- operations

  one_goes : (o : Operation) (a : Term) → V a → V (Apply o (MoreTerms a NoTerms))
  one_goes o a goes d s within g cx has arrives =
      applied_one routines functions codes (Apply o) o (λ vs v. Evaluated v) a (applying routines functions codes o) goes
      (Written routines functions codes (Apply o (MoreTerms a NoTerms)))
      (λ x e. (either_false (writes (Local x) a) false e).0) d s within g cx has
      (λ g' a1 w vs v. arrives g' a1 w v)

  two_goes : (o : Operation) (a b : Term) → Fresh b → V a → V b → V (Apply o (MoreTerms a (MoreTerms b NoTerms)))
  two_goes o a b fresh goes_a goes_b d s within g cx has arrives =
      applied_two routines functions codes (Apply o) o (λ vs v. Evaluated v) a b (applying routines functions codes o) fresh goes_a goes_b
      (Written routines functions codes (Apply o (MoreTerms a (MoreTerms b NoTerms))))
      (λ x e. two_few (writes (Local x) a) (writes (Local x) b) e) d s within g cx has
      (λ g' a1 w vs v. arrives g' a1 w v)

  one_branch : (o : Operation) (a : Term) → V (Apply o (MoreTerms a NoTerms)) → B (Apply o (MoreTerms a NoTerms))
  one_branch (operation.Compare x k) a goes wt d n within g cx has leads =
      kept_branch routines functions codes (Apply (operation.Compare x k) (MoreTerms a NoTerms)) goes (kind_given (operation.Compare x k))
      wt d n
      within g cx has leads
  one_branch o a goes wt d n within g cx has leads =
      kept_branch routines functions codes (Apply o (MoreTerms a NoTerms)) goes (kind_given o) wt d n within g cx has leads

  two_branch : (o : Operation) (a b : Term) → Fresh b → V a → V b → V (Apply o (MoreTerms a (MoreTerms b NoTerms)))
      → B (Apply o (MoreTerms a (MoreTerms b NoTerms)))
  two_branch (operation.Compare x k) a b fresh goes_a goes_b goes wt d n within g cx has leads =
      compared_branch routines functions codes x k a b fresh goes_a goes_b wt d n within g cx has leads
  two_branch o a b fresh goes_a goes_b goes wt d n within g cx has leads =
      kept_branch routines functions codes (Apply o (MoreTerms a (MoreTerms b NoTerms))) goes (kind_given o) wt d n within g cx has leads

  -- ---- all trees

  abbrev pub Both : Term → Type 0
  Both t = V t × B t

  plainly : (t : Term) → V t → (V t → B t) → Both t
  plainly t g b = (g, b g)

  both_one : (o : Operation) (a : Term) → V a → Both (Apply o (MoreTerms a NoTerms))
  both_one o a g = plainly (Apply o (MoreTerms a NoTerms)) (one_goes o a g) (one_branch o a)

  both_two : (o : Operation) (a b : Term) → Fresh b → V a → V b → Both (Apply o (MoreTerms a (MoreTerms b NoTerms)))
  both_two o a b f g h = plainly (Apply o (MoreTerms a (MoreTerms b NoTerms))) (two_goes o a b f g h) (two_branch o a b f g h)

  both_changed : (o : Operation) (m : Given) (p : Place) (ts : Terms) → V (Change o m p ts) → Both (Change o m p ts)
  both_changed o m p ts g = plainly (Change o m p ts) g (plain_branch routines functions codes (Change o m p ts))

  mutual
    pub goes : (t : Term) → Fresh t → Both t
    goes (Literal t v) f =
        plainly (Literal t v) (literal_goes routines functions codes t v) (plain_branch routines functions codes (Literal t v))
    goes (Read p) f = plainly (Read p) (read_goes routines functions codes p) (plain_branch routines functions codes (Read p))
    goes (Apply o (MoreTerms a NoTerms)) f = both_one o a (goes a f.0.0).0
    goes (Apply o (MoreTerms a (MoreTerms b NoTerms))) f = both_two o a b f.0.1.0 (goes a f.0.0).0 (goes b f.0.1.0).0
    goes (Apply o ts) f = absurd f.1
    goes (Lazy c l r) f = (
      lazy_goes routines functions codes c l r (goes l f.0).1 (goes r f.1).1,
      lazy_branch routines functions codes c l r (goes l f.0).1 (goes r f.1).1,
    )
    goes (Store p t) f =
        plainly (Store p t) (store_goes routines functions codes p t (goes t f).0) (plain_branch routines functions codes (Store p t))
    goes (Change o given.Old p (MoreTerms t NoTerms)) f =
        both_changed o given.Old p (MoreTerms t NoTerms)
        (subst (λ u. V (Change o given.Old p (MoreTerms u NoTerms))) (sym f.2) (old_goes routines functions codes o p))
    goes (Change o given.New p (MoreTerms a NoTerms)) f =
        both_changed o given.New p (MoreTerms a NoTerms) (new_one_goes routines functions codes o p a (goes a f.0.0).0)
    goes (Change o given.New p (MoreTerms a (MoreTerms b NoTerms))) f =
        both_changed o given.New p (MoreTerms a (MoreTerms b NoTerms))
        (new_two_goes routines functions codes o p a b f.0.1.0 (goes a f.0.0).0 (goes b f.0.1.0).0)
    goes (Change o given.Old p ts) f = absurd f.2
    goes (Change o given.New p ts) f = absurd f.1
    goes (Call ty h ts) f =
        plainly (Call ty h ts) (call_goes routines functions codes ty h ts f (all_go ts f))
        (plain_branch routines functions codes (Call ty h ts))
    goes (Print ps ts) f =
        plainly (Print ps ts) (print_goes routines functions codes ps ts f (all_go ts f))
        (plain_branch routines functions codes (Print ps ts))
    goes _ f = absurd f

    pub all_go : (ts : Terms) → AllFresh ts → AllGo routines functions codes ts
    all_go NoTerms f = tt
    all_go (MoreTerms t ts) f = ((goes t f.0).0, all_go ts f.1)
