use Rattle.std.proofs.Common.{arith}
use Rattle.std.proofs.lemmas.Result.{err_from_is_err_and}
use Rattle.limbo_lexer.specs.declared.token.Key.TheVariants as key
use Rattle.limbo_tree.specs.View.{view_pattern}
use Rattle.limbo_reading.specs.Reading.{kinds, after_key}
use Rattle.limbo_reading.proofs.Steps.{key_shorter}
use Rattle.limbo_reading.proofs.Loops.{items_start, items_fail, reading_more, reading_end, reading_fails}
use Rattle.limbo_stmt_parts.specs.Heads.{case_pattern_at}
use Rattle.limbo_stmt_parts.proofs.Patterns.{pattern_shorter}
use Rattle.limbo_stmt_parts.proofs.heads.case_patterns_at.Goals as goal

pub returns-in_err-first : goal.returns-in_err-first
returns-in_err-first c =
    let p = err_from_is_err_and c.from_residual.result c.from_residual.ensures.1 in
    rw (p.1, p.2) (items_fail c.in_err-first.field-0.0 (case_pattern_at c.args.budget) (after_key key.Or) (kinds c.args.tokens.now) c.in_err-first.ensures)

pub patterns-init : goal.patterns-init
patterns-init c =
    rw (c.in_ok-push.ensures.items, c.new-patterns.ensures.items) (items_start view_pattern (case_pattern_at c.args.budget) (after_key key.Or) (kinds c.args.tokens.now) c.in_ok-first.first (kinds c.in_ok-first.rest.now) c.in_ok-first.ensures)

pub returns-in_err-pattern : goal.returns-in_err-pattern
returns-in_err-pattern c =
    let p = err_from_is_err_and c.from_residual-in_err-pattern.result c.from_residual-in_err-pattern.ensures.1 in
    rw (p.1, p.2) (reading_fails c.in_err-pattern.field-0.0 view_pattern (case_pattern_at c.args.budget) (after_key key.Or) _ c.patterns.patterns.items (kinds c.patterns.rest.now) (kinds c.in-Some.behind.now) c.in-Some.ensures (key_shorter key.Or _ _ c.in-Some.ensures) c.in_err-pattern.ensures c.patterns.invariant)

pub patterns-preserved : goal.patterns-preserved
patterns-preserved c =
    rw c.in_ok-push-2.ensures.items (reading_more view_pattern (case_pattern_at c.args.budget) (after_key key.Or) _ c.patterns.patterns.items (kinds c.patterns.rest.now) (kinds c.in-Some.behind.now) (kinds c.in_ok-pattern.after.now) c.in_ok-pattern.pattern c.in-Some.ensures c.in_ok-pattern.ensures (omega (arith, key_shorter key.Or (kinds c.patterns.rest.now) (kinds c.in-Some.behind.now) c.in-Some.ensures, pattern_shorter c.args.budget (kinds c.in-Some.behind.now) (view_pattern c.in_ok-pattern.pattern) (kinds c.in_ok-pattern.after.now) c.in_ok-pattern.ensures)) c.patterns.invariant)

pub patterns-smaller : goal.patterns-smaller
patterns-smaller c = omega (arith, key_shorter key.Or (kinds c.patterns.rest.now) (kinds c.in-Some.behind.now) c.in-Some.ensures, pattern_shorter c.args.budget (kinds c.in-Some.behind.now) (view_pattern c.in_ok-pattern.pattern) (kinds c.in_ok-pattern.after.now) c.in_ok-pattern.ensures)

pub returns : goal.returns
returns c = reading_end view_pattern (case_pattern_at c.args.budget) (after_key key.Or) _ c.patterns.patterns.items (kinds c.patterns.rest.now) c.in_default.ensures c.patterns.invariant
