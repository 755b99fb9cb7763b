use Rattle.std.proofs.Common.{ℕ, ◌+◌, ◌*◌, max, Option, Box, Global}
use Rattle.limbo_tree.proofs.expr.Expr.TheLaws.{the_size}
use Rattle.limbo_tree.proofs.expr.Init.TheLaws.{the_size as init_size}
use Rattle.limbo_tree.specs.declared.expr.Expr.TheShapes
use Rattle.limbo_tree.specs.declared.expr.Expr.{Expr}
use Rattle.limbo_context.specs.View.{view_context, view_body}
use Rattle.limbo_exprs.specs.Parts.{view_filling}
use Rattle.limbo_exprs.proofs.Loops.{Valued, Patterned, Filled}
use Rattle.limbo_exprs.proofs.+exprs.Given as goal
use denote.Param.Weighed.{most}

-- ---- measures: first how deep the deepest part is, and then who calls whom

abbrev part_size : Option (Box Expr Global) → ℕ
part_size = (TheShapes.weighed-Expr-Filled-0).weight _ the_size

abbrev pub decreases-forms::form : goal.decreases-forms::form
decreases-forms::form l = the_size l.e.now * 16

abbrev pub decreases-valuing::check : goal.decreases-valuing::check
decreases-valuing::check l = the_size l.e.now * 16 + 1

abbrev pub decreases-valuing::value : goal.decreases-valuing::value
decreases-valuing::value l = the_size l.e.now * 16 + 2

abbrev pub decreases-valuing::values : goal.decreases-valuing::values
decreases-valuing::values l = most the_size l.es.now * 16 + 3

abbrev pub decreases-valuing::maybe : goal.decreases-valuing::maybe
decreases-valuing::maybe l = part_size l.part.now * 16 + 3

abbrev pub decreases-naming::denote : goal.decreases-naming::denote
decreases-naming::denote l = the_size l.e.now * 16 + 3

abbrev pub decreases-naming::member_of : goal.decreases-naming::member_of
decreases-naming::member_of l = the_size l.base.now * 16 + 4

abbrev pub decreases-naming::part_of : goal.decreases-naming::part_of
decreases-naming::part_of l = the_size l.base.now * 16 + 4

abbrev pub decreases-forms::made_of_one : goal.decreases-forms::made_of_one
decreases-forms::made_of_one l = the_size l.e.now * 16 + 7

abbrev pub decreases-forms::made_of_two : goal.decreases-forms::made_of_two
decreases-forms::made_of_two l = max (the_size l.left.now) (the_size l.right.now) * 16 + 7

abbrev pub decreases-forms::listed : goal.decreases-forms::listed
decreases-forms::listed l = most the_size l.items.now * 16 + 4

abbrev pub decreases-forms::grouped : goal.decreases-forms::grouped
decreases-forms::grouped l = most the_size l.items.now * 16 + 4

abbrev pub decreases-forms::sliced : goal.decreases-forms::sliced
decreases-forms::sliced l = max (the_size l.base.now) (max (part_size l.from.now) (part_size l.to.now)) * 16 + 4

abbrev pub decreases-targets::named_target : goal.decreases-targets::named_target
decreases-targets::named_target l = the_size l.e.now * 16 + 4

abbrev pub decreases-targets::target : goal.decreases-targets::target
decreases-targets::target l = the_size l.e.now * 16 + 5

abbrev pub decreases-targets::part : goal.decreases-targets::part
decreases-targets::part l = the_size l.e.now * 16 + 6

abbrev pub decreases-arrays::sized : goal.decreases-arrays::sized
decreases-arrays::sized l = the_size l.len.now * 16 + 3

abbrev pub decreases-arrays::indexed : goal.decreases-arrays::indexed
decreases-arrays::indexed l = the_size l.e.now * 16 + 3

abbrev pub decreases-arrays::fill_one : goal.decreases-arrays::fill_one
decreases-arrays::fill_one l = init_size l.item.now * 16 + 4

abbrev pub decreases-arrays::fill : goal.decreases-arrays::fill
decreases-arrays::fill l = most init_size l.items.now * 16 + 5

abbrev pub decreases-arrays::filled : goal.decreases-arrays::filled
decreases-arrays::filled l = max (part_size l.len.now) (most init_size l.items.now) * 16 + 6

abbrev pub decreases-calling::loaded : goal.decreases-calling::loaded
decreases-calling::loaded l = the_size l.path.now * 16 + 3

abbrev pub decreases-calling::printed_first : goal.decreases-calling::printed_first
decreases-calling::printed_first l = most the_size l.args.now * 16 + 4

abbrev pub decreases-calling::printed_to_file : goal.decreases-calling::printed_to_file
decreases-calling::printed_to_file l = most the_size l.args.now * 16 + 4

abbrev pub decreases-calling::printed_call : goal.decreases-calling::printed_call
decreases-calling::printed_call l = most the_size l.args.now * 16 + 5

abbrev pub decreases-calling::applied : goal.decreases-calling::applied
decreases-calling::applied l = most the_size l.args.now * 16 + 4

abbrev pub decreases-calling::called : goal.decreases-calling::called
decreases-calling::called l = max (the_size l.function.now) (most the_size l.args.now) * 16 + 6

abbrev pub decreases-assigning::pattern : goal.decreases-assigning::pattern
decreases-assigning::pattern l = the_size l.e.now * 16 + 6

abbrev pub decreases-assigning::grouped_pattern : goal.decreases-assigning::grouped_pattern
decreases-assigning::grouped_pattern l = most the_size l.items.now * 16 + 8

abbrev pub decreases-assigning::patterns : goal.decreases-assigning::patterns
decreases-assigning::patterns l = most the_size l.es.now * 16 + 7

abbrev pub decreases-assigning::copied_into : goal.decreases-assigning::copied_into
decreases-assigning::copied_into l = max (the_size l.array.now) (max (the_size l.from.now) (the_size l.right.now)) * 16 + 3

abbrev pub decreases-assigning::stored : goal.decreases-assigning::stored
decreases-assigning::stored l = max (the_size l.left.now) (the_size l.right.now) * 16 + 7

abbrev pub decreases-assigning::defined : goal.decreases-assigning::defined
decreases-assigning::defined l = max (the_size l.left.now) (the_size l.right.now) * 16 + 3

abbrev pub decreases-assigning::assigned : goal.decreases-assigning::assigned
decreases-assigning::assigned l = max (the_size l.left.now) (the_size l.right.now) * 16 + 8

-- ---- what holds in the loops

abbrev pub invariant-valuing::values-loop-e : goal.invariant-valuing::values-loop-e
invariant-valuing::values-loop-e l = Valued (view_context l.context) (view_body l.fn.body) (view_body l.body) l.es l.e-index l.xs.items

abbrev pub invariant-assigning::patterns-loop-e : goal.invariant-assigning::patterns-loop-e
invariant-assigning::patterns-loop-e l =
    Patterned (view_context l.context) (view_body l.fn.body) (view_body l.body) l.es l.e-index l.ps.items

abbrev pub invariant-arrays::fill-loop-item : goal.invariant-arrays::fill-loop-item
invariant-arrays::fill-loop-item l =
    Filled (view_context l.context) (view_body l.fn.body) (view_body l.body) (view_filling l.initial.filling) (view_filling l.filling)
    l.items
    l.item-index
