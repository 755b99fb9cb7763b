use Rattle.std.proofs.Common.{refl}
use Rattle.limbo_tree.specs.View as tree
use Rattle.limbo_types.specs.View.{view_fn}
use Rattle.limbo_context.specs.View.{view_callee}
use Rattle.limbo_entries.specs.View.{entries_of}
use Rattle.limbo_outline.proofs.Places.{item_at}
use Rattle.limbo_bodies.proofs.Declaring.{of_function}
use Rattle.limbo_bodies.proofs.defining.head_definition.Goals as goal

pub returns-then-is_same-clause-defines : goal.returns-then-is_same-clause-defines
returns-then-is_same-clause-defines c =
    let r = c.in-Some.ensures.some in
    let f = c.in-Some-get.callee.now in
    let w = c.in-Some-get.ensures.lookup in
    let there = item_at c.args.functions.now c.in-Some.place f w.3.0 w.1 in
    record {
      callee = view_callee f;
      is_of = of_function (entries_of c.args.table.now.entries.items) c.args.implemented c.args.function.now.name.text (tree.name_of
          c.args.function.now.part) c.args.functions.now
          c.in-Some._number c.in-Some.place r.0 f c.requires.functions r.1 r.2 r.3 there;
      takes = c.in_ok-of.ensures.takes;
      same = c.if-is_same.ensures.yes refl;
    }

pub returns-else-is_same-clause-fails : goal.returns-else-is_same-clause-fails
returns-else-is_same-clause-fails c =
    let r = c.in-Some.ensures.some in
    let f = c.in-Some-get.callee.now in
    let w = c.in-Some-get.ensures.lookup in
    let there = item_at c.args.functions.now c.in-Some.place f w.3.0 w.1 in
    record {
      function = c.in-Some.place;
      callee = view_callee f;
      of = view_fn c.in_ok-of.of;
      is_of = of_function (entries_of c.args.table.now.entries.items) c.args.implemented c.args.function.now.name.text (tree.name_of
          c.args.function.now.part) c.args.functions.now
          c.in-Some._number c.in-Some.place r.0 f c.requires.functions r.1 r.2 r.3 there;
      takes = c.in_ok-of.ensures.takes;
      other = c.if-is_same.ensures.no refl;
    }
