-- Operands in a row.
use Rattle.std.proofs.Common.{◌≡◌, ℕ, suc, ◌+◌, ◌<◌, ◌≤◌, Bool, true, false, List, [], ◌∷◌, ◌++◌, drop, map, length, get_or, refl, sym, ap}
use Rattle.std.proofs.Common.{◌∙◌}
use Rattle.std.proofs.Common.{arith, add-one}
use Rattle.std.proofs.Math.Seq.{drop-cons}
use Rattle.limbo_types.specs.Types.{Ty}
use Rattle.limbo_layout.specs.Adts.{Def}
use Rattle.limbo_typed.specs.Typed as typed
use Rattle.limbo_typed.specs.declared.expr.TExpr as code_expr
use Rattle.limbo_typed.specs.declared.expr.Pattern as code_pattern
use Rattle.limbo_typed.specs.declared.print.Printed.{Printed}
use Rattle.limbo_typed.specs.declared.print.Piece.{Piece}
use Rattle.limbo_typed.specs.View.{view_expr, view_exprs, view_pattern, patterns_of}
use Rattle.limbo_meaning.specs.Trees.{Terms, NoTerms, MoreTerms}
use Rattle.limbo_meaning.specs.Program.{terms_before, only_term, node_of, operands_to, operands_among}
use Rattle.core_frames.specs.Sizes.{expr_size, exprs_size, pattern_size, patterns_size}
use Rattle.core_writing.specs.declared.operands.Operand.{Operand}
use Rattle.core_writing.specs.Operands.{view_operand, term_as, terms_as, terms_in, operands_size, operands_in, printed_operands}

pub before_none : (ts : Terms) → terms_before ts NoTerms ≡ ts
before_none NoTerms = refl
before_none (MoreTerms t ts) = ap (λ us. MoreTerms t us) (before_none ts)

pub before_before : (ts us vs : Terms) → terms_before (terms_before ts us) vs ≡ terms_before ts (terms_before us vs)
before_before NoTerms us vs = refl
before_before (MoreTerms t ts) us vs = ap (λ ws. MoreTerms t ws) (before_before ts us vs)

pub terms_push : (os : List Operand) (o : Operand) → terms_in (os ++ o ∷ []) ≡ terms_before (terms_in os) (only_term (view_operand o))
terms_push [] o = refl
terms_push (p ∷ os) o = ap (λ ts. MoreTerms (view_operand p) ts) (terms_push os o)

pub size_push : (defs : List Def) (os : List Operand) (o : Operand)
    → operands_size defs (os ++ o ∷ []) ≡ operands_size defs os + expr_size defs (view_expr o.expr.now)
size_push defs [] o = omega arith
size_push defs (p ∷ os) o = let e = size_push defs os o in omega (arith, e)

-- ---- expressions, one by one

as_more : (p : Bool) (e : typed.Expr) (es : typed.Exprs)
    → terms_as p (typed.MoreExprs e es) ≡ MoreTerms (term_as p e) (terms_as p es)
as_more true (typed.Of t n) es = refl
as_more false e es = refl

pub as_none : (p : Bool) (ts : Terms) → terms_before ts (terms_as p typed.NoExprs) ≡ ts
as_none true ts = before_none ts
as_none false ts = before_none ts

next_there : (es : List code_expr.TExpr) (i : ℕ) (e : code_expr.TExpr) → i < length es → e ≡ get_or es i e
    → view_exprs (drop i es) ≡ typed.MoreExprs (view_expr e) (view_exprs (drop (i + 1) es))
next_there es i e below at =
    ap view_exprs (drop-cons es i e below ∙ ap (λ x. x ∷ drop (suc i) es) (sym at) ∙ ap (λ k. e ∷ drop k es) (sym (add-one i)))

pub terms_on : (os next : List Operand) (o : Operand) (es : List code_expr.TExpr) (i : ℕ) → i < length es
    → o.expr.now ≡ get_or es i o.expr.now → next ≡ os ++ o ∷ []
    → terms_before (terms_in next) (terms_as o.printed (view_exprs (drop (i + 1) es)))
    ≡ terms_before (terms_in os) (terms_as o.printed (view_exprs (drop i es)))
terms_on os next o es i below at e =
    let rest = terms_as o.printed (view_exprs (drop (i + 1) es)) in
    ap (λ xs. terms_before (terms_in xs) rest) e ∙ ap (λ ts. terms_before ts rest) (terms_push os o)
    ∙ before_before (terms_in os) (only_term (view_operand o)) rest
    ∙ ap (λ ts. terms_before (terms_in os) ts) (sym (ap (terms_as o.printed) (next_there es i o.expr.now below at)
    ∙ as_more o.printed (view_expr o.expr.now) (view_exprs (drop (i + 1) es))))

pub sizes_on : (defs : List Def) (os next : List Operand) (o : Operand) (es : List code_expr.TExpr) (i : ℕ) → i < length es
    → o.expr.now ≡ get_or es i o.expr.now → next ≡ os ++ o ∷ []
    → operands_size defs next + exprs_size defs (view_exprs (drop (i + 1) es))
    ≡ operands_size defs os + exprs_size defs (view_exprs (drop i es))
sizes_on defs os next o es i below at e =
    let n = ap (operands_size defs) e ∙ size_push defs os o in
    let m = ap (exprs_size defs) (next_there es i o.expr.now below at) in
    omega (arith, n, m)

-- ---- patterns, one by one

pattern_next : (ps : List code_pattern.Pattern) (i : ℕ) (p : code_pattern.Pattern) → i < length ps → p ≡ get_or ps i p
    → patterns_of (map view_pattern (drop i ps)) ≡ typed.MorePatterns (view_pattern p) (patterns_of (map view_pattern (drop (i + 1) ps)))
pattern_next ps i p below at =
    ap (λ qs. patterns_of (map view_pattern qs)) (drop-cons ps i p below ∙ ap (λ x. x ∷ drop (suc i) ps) (sym at)
    ∙ ap (λ k. p ∷ drop k ps) (sym (add-one i)))

pub patterns_on : (os next : List Operand) (ps : List code_pattern.Pattern) (i : ℕ) (p : code_pattern.Pattern) → i < length ps
    → p ≡ get_or ps i p → terms_in next ≡ terms_before (terms_in os) (operands_to (view_pattern p))
    → terms_before (terms_in next) (operands_among (patterns_of (map view_pattern (drop (i + 1) ps))))
    ≡ terms_before (terms_in os) (operands_among (patterns_of (map view_pattern (drop i ps))))
patterns_on os next ps i p below at e =
    rw (e, pattern_next ps i p below at)
    (before_before (terms_in os) (operands_to (view_pattern p)) (operands_among (patterns_of (map view_pattern (drop (i + 1) ps)))))

pub pattern_sizes_on : (defs : List Def) (os next : List Operand) (ps : List code_pattern.Pattern) (i : ℕ) (p : code_pattern.Pattern)
    → i < length ps → p ≡ get_or ps i p → operands_size defs next ≤ operands_size defs os + pattern_size defs (view_pattern p)
    → operands_size defs next + patterns_size defs (patterns_of (map view_pattern (drop (i + 1) ps)))
    ≤ operands_size defs os + patterns_size defs (patterns_of (map view_pattern (drop i ps)))
pattern_sizes_on defs os next ps i p below at e = let n = ap (patterns_size defs) (pattern_next ps i p below at) in omega (arith, n, e)

-- ---- prints

pub print_is : (t : Ty) (w : Printed) (m : typed.Expr) (file : typed.Optional) (ps : List Piece) (es : typed.Exprs)
    → operands_in (node_of t (typed.Print w m file ps es)) ≡ printed_operands w t ps file es
print_is t w m typed.Absent ps es = refl
print_is t w m (typed.Present f) ps es = refl

pub ruleset collecting = (before_none, before_before, print_is)
