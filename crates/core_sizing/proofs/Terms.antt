-- What is told of typed trees is what is told of the terms that they stand for.
use Rattle.std.proofs.Common.{◌≡◌, Bool, true, false, ◌||◌, List, refl, sym, ap, ◌∙◌}
use Rattle.limbo_types.specs.Types as ty
use Rattle.limbo_types.specs.Types.{Ty}
use Rattle.limbo_layout.specs.Adts.{Def}
use Rattle.limbo_typed.specs.declared.print.Printed.TheVariants as printed
use Rattle.limbo_typed.specs.Typed as typed
use Rattle.limbo_typed.specs.Typed.{Of, At}
use Rattle.limbo_meaning.specs.Evaluation.{refers, work_refers, may_hold, some_may_hold}
use Rattle.limbo_meaning.specs.Trees.{Term, Terms, NoTerms, MoreTerms}
use Rattle.limbo_meaning.specs.Program.{term_of, node_of, terms_of, printed_of, as_printed, operands_at, operands_to, operands_among}
use Rattle.limbo_meaning.specs.Program.{terms_before, operating}
use Rattle.core_sizing.specs.Holding.{expr_holds, node_holds, exprs_hold, way_holds, pattern_holds}
use Rattle.core_sizing.specs.Holding.{patterns_hold}

or_false : (b : Bool) → b || false ≡ b
or_false true = refl
or_false false = refl

or_assoc : (a b c : Bool) → (a || b) || c ≡ a || (b || c)
or_assoc true b c = refl
or_assoc false b c = refl

two : {a b c d : Bool} → a ≡ b → c ≡ d → a || c ≡ b || d
two e f = cc

module _ (defs : List Def) where
  before_hold : (ts us : Terms) → some_may_hold defs (terms_before ts us) ≡ some_may_hold defs ts || some_may_hold defs us
  before_hold NoTerms us = refl
  before_hold (MoreTerms t ts) us =
      ap (λ b. may_hold defs t || b) (before_hold ts us) ∙ sym (or_assoc (may_hold defs t) (some_may_hold defs ts) (some_may_hold defs us))

  as_int : (t : Ty) (u : Term) → may_hold defs (as_printed t u) ≡ may_hold defs u
  as_int ty.Byte u = or_false (may_hold defs u)
  as_int _ u = refl

  mutual
    pub same_expr : (e : typed.Expr) → expr_holds defs e ≡ may_hold defs (term_of e)
    same_expr (Of t n) = same_node t n

    same_node : (t : Ty) (n : typed.Node) → node_holds defs t n ≡ may_hold defs (node_of t n)
    same_node t (typed.Read (At u p)) = ap (λ b. refers defs u || b) (same_way p)
    same_node t (typed.Part e n) = same_expr e ∙ sym (or_false (may_hold defs (term_of e)))
    same_node t (typed.Apply o es) = ap (λ b. work_refers defs t (operating o) || b) (same_exprs es)
    same_node t (typed.Lazy c l r) = two (same_expr l) (same_expr r)
    same_node t (typed.Assign p e) =
        two (same_pattern p) (same_expr e ∙ sym (or_false (may_hold defs (term_of e)))) ∙ sym (before_hold (operands_to p) _)
    same_node t (typed.Update o (At u p) e) =
        or_assoc (refers defs u) (way_holds defs p) (expr_holds defs e)
        ∙ ap (λ b. refers defs u || b) (two (same_way p) (same_expr e ∙ sym (or_false (may_hold defs (term_of e)))))
    same_node t (typed.Step o g (At u p)) =
        ap (λ b. refers defs u || b) (same_way p ∙ sym (or_false (some_may_hold defs (operands_at p))))
    same_node t (typed.Copy a i e) =
        two (same_expr a) (two (same_expr i) (same_expr e ∙ sym (or_false (may_hold defs (term_of e)))))
    same_node t (typed.Filled l is rest) = refl
    same_node t (typed.Channel typed.Absent) = refl
    same_node t (typed.Channel (typed.Present e)) = refl
    same_node t (typed.Call f es) = ap (λ b. refers defs t || b) (same_exprs es)
    same_node t (typed.Print printed.Print m typed.Absent ps es) = same_printed es
    same_node t (typed.Print printed.Sprint m typed.Absent ps es) = same_printed es
    same_node t (typed.Print printed.Fprint m typed.Absent ps es) = refl
    same_node t (typed.Print printed.Print m (typed.Present e) ps es) = refl
    same_node t (typed.Print printed.Sprint m (typed.Present e) ps es) = refl
    same_node t (typed.Print printed.Fprint m (typed.Present e) ps es) = refl
    same_node t _ = refl

    pub same_exprs : (es : typed.Exprs) → exprs_hold defs es ≡ some_may_hold defs (terms_of es)
    same_exprs typed.NoExprs = refl
    same_exprs (typed.MoreExprs e es) = two (same_expr e) (same_exprs es)

    pub same_printed : (es : typed.Exprs) → exprs_hold defs es ≡ some_may_hold defs (printed_of es)
    same_printed typed.NoExprs = refl
    same_printed (typed.MoreExprs (Of t n) es) = two (same_node t n ∙ sym (as_int t (node_of t n))) (same_printed es)

    pub same_way : (p : typed.PlaceNode) → way_holds defs p ≡ some_may_hold defs (operands_at p)
    same_way (typed.Local x) = refl
    same_way (typed.Global x) = refl
    same_way (typed.Field (At t p) n) = same_way p
    same_way (typed.Element a i) = two (same_expr a) (same_expr i ∙ sym (or_false (may_hold defs (term_of i))))
    same_way (typed.Character (At t p) i) =
        two (same_way p) (same_expr i ∙ sym (or_false (may_hold defs (term_of i)))) ∙ sym (before_hold (operands_at p) _)
    same_way (typed.Target e) = same_expr e ∙ sym (or_false (may_hold defs (term_of e)))

    pub same_pattern : (p : typed.Pattern) → pattern_holds defs p ≡ some_may_hold defs (operands_to p)
    same_pattern (typed.ToPlace (At t p)) = same_way p
    same_pattern typed.ToNothing = refl
    same_pattern (typed.ToParts ps) = same_patterns ps

    same_patterns : (ps : typed.Patterns) → patterns_hold defs ps ≡ some_may_hold defs (operands_among ps)
    same_patterns typed.NoPatterns = refl
    same_patterns (typed.MorePatterns p ps) =
        two (same_pattern p) (same_patterns ps) ∙ sym (before_hold (operands_to p) (operands_among ps))
