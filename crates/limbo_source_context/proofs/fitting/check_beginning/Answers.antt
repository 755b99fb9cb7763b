use Rattle.std.proofs.Common.{◌≡◌, Some, true, false, map, refl, sym, ◌∙◌}
use Rattle.limbo_tree.specs.View.{view_expr}
use Rattle.limbo_types.specs.View.{view_ty}
use Rattle.limbo_typed.specs.View.{view_var}
use Rattle.limbo_entries.specs.View.{entries_of, view_entry}
use Rattle.limbo_meanings.proofs.Places.{entry_at}
use Rattle.limbo_outline.proofs.Places.{item_at}
use Rattle.limbo_imports.specs.Imports.{meaning_at}
use Rattle.limbo_source_context.specs.Beginning.{global_in}
use Rattle.limbo_source_context.proofs.Suiting.{it_may, it_may_not, begins_here, begins_otherwise, mapped_at}
use Rattle.limbo_source_context.proofs.fitting.check_beginning.Goals as goal

pub returns-then-may_begin-clause-begins : goal.returns-then-may_begin-clause-begins
returns-then-may_begin-clause-begins c =
    let all = c.args.table.now.entries.items in
    let es = entries_of all in
    let m = c.args.implemented in
    let k = c.args.number in
    let s = c.args.known.now in
    let means = s.meant.meanings.items in
    let x = view_entry c.index.result.now in
    let at = entry_at all k c.index.result.now c.requires.there c.index.ensures in
    let g = c.in-Some.global in
    let v = c.in-Some-get.variable.now in
    let w = c.in-Some-get.ensures.lookup in
    let global : global_in (meaning_at means k) ≡ Some g = rw c.deref.ensures.value at (sym c.global_at.ensures ∙ c.in-Some.is) in
    let there = mapped_at view_var c.args.globals.now g v (item_at c.args.globals.now g v w.3.0 w.1) in
    begins_here es m k means c.requires.known.meant.meant.meanings (map view_var c.args.globals.now) x at g (view_var v) global there
    (it_may es m k s.initials.items c.requires.known.initials x at (view_expr c.in-Some-initial_in.value.now)
    c.in-Some-initial_in.ensures.some (view_ty v.ty) c.initial_at.result
    (rw c.deref-in-Some-get.ensures.value at c.initial_at.ensures.some) (rw c.deref-in-Some-get.ensures.value at
    c.initial_at.ensures.none) true
    c.if-may_begin.ensures.some c.if-may_begin.ensures.none refl)

pub returns-else-may_begin-clause-fails : goal.returns-else-may_begin-clause-fails
returns-else-may_begin-clause-fails c =
    let all = c.args.table.now.entries.items in
    let es = entries_of all in
    let m = c.args.implemented in
    let k = c.args.number in
    let s = c.args.known.now in
    let means = s.meant.meanings.items in
    let x = view_entry c.index.result.now in
    let at = entry_at all k c.index.result.now c.requires.there c.index.ensures in
    let g = c.in-Some.global in
    let v = c.in-Some-get.variable.now in
    let w = c.in-Some-get.ensures.lookup in
    let global : global_in (meaning_at means k) ≡ Some g = rw c.deref.ensures.value at (sym c.global_at.ensures ∙ c.in-Some.is) in
    let there = mapped_at view_var c.args.globals.now g v (item_at c.args.globals.now g v w.3.0 w.1) in
    begins_otherwise es m k means c.requires.known.meant.meant.meanings (map view_var c.args.globals.now) x at g (view_var v) global there
    c.requires.globals
    (it_may_not es m k s.initials.items c.requires.known.initials x at (view_expr c.in-Some-initial_in.value.now)
    c.in-Some-initial_in.ensures.some (view_ty v.ty) c.initial_at.result
    (rw c.deref-in-Some-get.ensures.value at c.initial_at.ensures.some) (rw c.deref-in-Some-get.ensures.value at
    c.initial_at.ensures.none) false
    c.if-may_begin.ensures.some c.if-may_begin.ensures.none refl)
