use Rattle.std.proofs.Common.{◌≡◌, ◌+◌, ◌*◌, ◌-◌, ◌≤◌, length}
use Rattle.limbo_lexer.specs.declared.token.Mark.TheVariants as mark
use Rattle.limbo_tree.specs.View.{view_expr, view_init}
use Rattle.limbo_reading.specs.Reading.{kinds, after_mark}
use Rattle.limbo_reading.proofs.Loops.{Reading}
use Rattle.limbo_expr_parts.specs.Parts.{after_comma_inside}
use Rattle.limbo_expr_parser.specs.Exprs.{readers, list_at, inits_at, init_at}
use Rattle.limbo_expr_parser.proofs.ExprSteps.{exprs_size, inits_size, Chained, Postfixed}
use Rattle.limbo_expr_parser.proofs.+exprs.Given as goal

-- ---- measures: first the budget, and then who calls whom

abbrev pub decreases-expr::expr_in : goal.decreases-expr::expr_in
decreases-expr::expr_in l = l.budget * 64 + 12

abbrev pub decreases-expr::chain_at : goal.decreases-expr::chain_at
decreases-expr::chain_at l = l.budget * 64 + 10

abbrev pub decreases-expr::chain_above : goal.decreases-expr::chain_above
decreases-expr::chain_above l = l.inner * 64 + 60

abbrev pub decreases-expr::load_at : goal.decreases-expr::load_at
decreases-expr::load_at l = l.inner * 64 + 50

abbrev pub decreases-expr::unary_above : goal.decreases-expr::unary_above
decreases-expr::unary_above l = l.inner * 64 + 56

abbrev pub decreases-postfix::postfixed_at : goal.decreases-postfix::postfixed_at
decreases-postfix::postfixed_at l = l.inner * 64 + 54

abbrev pub decreases-postfix::primary_at : goal.decreases-postfix::primary_at
decreases-postfix::primary_at l = l.inner * 64 + 40

abbrev pub decreases-postfix::one_behind : goal.decreases-postfix::one_behind
decreases-postfix::one_behind l = l.inner * 64 + 48

abbrev pub decreases-postfix::index_at : goal.decreases-postfix::index_at
decreases-postfix::index_at l = l.inner * 64 + 44

abbrev pub decreases-postfix::slice_at : goal.decreases-postfix::slice_at
decreases-postfix::slice_at l = l.inner * 64 + 42

abbrev pub decreases-lists::list_at : goal.decreases-lists::list_at
decreases-lists::list_at l = l.budget * 64 + 20

abbrev pub decreases-lists::list_before : goal.decreases-lists::list_before
decreases-lists::list_before l = l.budget * 64 + 30

abbrev pub decreases-lists::part_before : goal.decreases-lists::part_before
decreases-lists::part_before l = l.budget * 64 + 30

abbrev pub decreases-lists::listed_at : goal.decreases-lists::listed_at
decreases-lists::listed_at l = l.inner * 64 + 52

abbrev pub decreases-arrays::array_at : goal.decreases-arrays::array_at
decreases-arrays::array_at l = l.inner * 64 + 52

abbrev pub decreases-arrays::filled_at : goal.decreases-arrays::filled_at
decreases-arrays::filled_at l = l.inner * 64 + 40

abbrev pub decreases-arrays::inits_at : goal.decreases-arrays::inits_at
decreases-arrays::inits_at l = l.budget * 64 + 30

abbrev pub decreases-arrays::init_at : goal.decreases-arrays::init_at
decreases-arrays::init_at l = l.budget * 64 + 20

-- ---- loops

abbrev pub invariant-expr::chain_above-ops : goal.invariant-expr::chain_above-ops
invariant-expr::chain_above-ops l = Chained l.inner l.level (kinds l.tokens) (view_expr l.left.value) l.size (kinds l.rest)

abbrev pub decreases-expr::chain_above-ops : goal.decreases-expr::chain_above-ops
decreases-expr::chain_above-ops l = l.inner + 2 - l.size

abbrev pub invariant-postfix::postfixed_at-postfixes : goal.invariant-postfix::postfixed_at-postfixes
invariant-postfix::postfixed_at-postfixes l = Postfixed l.inner (kinds l.tokens) (view_expr l.tree.value) l.size (kinds l.rest)

abbrev pub decreases-postfix::postfixed_at-postfixes : goal.decreases-postfix::postfixed_at-postfixes
decreases-postfix::postfixed_at-postfixes l = l.inner + 2 - l.size

abbrev pub invariant-lists::list_at-all : goal.invariant-lists::list_at-all
invariant-lists::list_at-all l =
    Reading view_expr (readers l.budget).expr (after_mark mark.Comma) (list_at (readers l.budget) (kinds l.tokens)) l.items.items (kinds l.rest)
    × (l.size ≡ exprs_size l.items.items)
    × (l.size ≤ l.budget)

abbrev pub decreases-lists::list_at-all : goal.decreases-lists::list_at-all
decreases-lists::list_at-all l = length (kinds l.rest)

abbrev pub invariant-arrays::inits_at-all : goal.invariant-arrays::inits_at-all
invariant-arrays::inits_at-all l =
    Reading view_init (init_at (readers l.budget)) after_comma_inside (inits_at (readers l.budget) (kinds l.tokens)) l.items.items (kinds l.rest)
    × (l.size ≡ inits_size l.items.items)
    × (l.size ≤ l.budget)

abbrev pub decreases-arrays::inits_at-all : goal.decreases-arrays::inits_at-all
decreases-arrays::inits_at-all l = length (kinds l.rest)
