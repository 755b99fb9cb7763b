use Rattle.std.proofs.Common.{◌≡◌, List, length, replicate, Bool, true, false, sym, ap, ◌∙◌, arith, rules}
use Rattle.std.proofs.Math.ListN.{set}
use Rattle.std.proofs.lemmas.List.{length-map}
use Rattle.std.proofs.lemmas.Option.{slice_get_within}
use Rattle.limbo_layout.specs.View.{view_def, view_defs}
use Rattle.limbo_layout.proofs.Climbing.{seen_at}
use Rattle.limbo_adts.proofs.Found.{search_begun, search_more, search_done, here}
use Rattle.limbo_adts.proofs.closing.closure.Goals as goal

pub looking-init : goal.looking-init
looking-init c =
    let m : length (view_defs c.args.defs.now) ≡ length c.args.defs.now = length-map c.args.defs.now view_def in
    let r : c.in_ok-vec.field-0.items ≡ replicate (length c.args.defs.now) false = search rules in
    search_begun (view_defs c.args.defs.now) c.args.from _ _
    (ap (λ (xs : List Bool). set xs c.args.from true) (r ∙ ap (λ n. replicate n false) (sym m)))
    c.in_ok-vec-2.ensures.items (let f = c.requires.from in omega arith)

pub bounds-defs-number : goal.bounds-defs-number
bounds-defs-number c =
    let m : length (view_defs c.args.defs.now) ≡ length c.args.defs.now = length-map c.args.defs.now view_def in
    let h = here c.looking.search.found.items c.looking.next c.index.result.now (omega arith) c.index.ensures in
    let w = slice_get_within c.looking.search.marks.items c.index.result.now true (c.looking.invariant.marked c.looking.next c.index.result.now h) in
    let s = c.looking.invariant.same_length in
    omega arith

pub looking-preserved : goal.looking-preserved
looking-preserved c =
    let m : length (view_defs c.args.defs.now) ≡ length c.args.defs.now = length-map c.args.defs.now view_def in
    let h = here c.looking.search.found.items c.looking.next c.index.result.now (omega arith) c.index.ensures in
    let w = slice_get_within c.looking.search.marks.items c.index.result.now true (c.looking.invariant.marked c.looking.next c.index.result.now h) in
    let s = c.looking.invariant.same_length in
    let e = seen_at c.args.defs.now c.index.result.now c.index-defs-number.result (omega arith) c.index-defs-number.is in
    search_more (view_defs c.args.defs.now) c.args.from (view_def c.index-defs-number.result) c.index.result.now c.looking.next _ _ _ _ c.requires.named h e c.in_ok-visit_def.ensures c.looking.invariant

pub returns : goal.returns
returns c = search_done (view_defs c.args.defs.now) c.args.from c.looking.search.marks.items c.looking.search.found.items c.looking.next (omega arith) c.looking.invariant
