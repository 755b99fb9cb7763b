use Rattle.std.proofs.Common.{rules, ◌≡◌, ◌+◌, ◌≤◌, ◌^◌, [], ◌∷◌, ◌++◌, map, drop, sym, ap, ◌∙◌}
use Rattle.std.proofs.lemmas.List.{nil_from_length, append-nil, get_or_default}
use Rattle.std.proofs.lemmas.List.Elements.{All-append, All-cons, All-nil}
use Rattle.limbo_types.specs.View.{view_ty}
use Rattle.limbo_layout.specs.View.{view_defs}
use Rattle.core_code.specs.Terms.{part_types, moves_into}
use Rattle.core_parts.specs.declared.drops.Moved.{Moved}
use Rattle.core_parts.specs.Nodes.{view_moved}
use Rattle.core_writing.proofs.Numbered.{moves_on, moves_none}
use Rattle.core_writing.proofs.moves.moves_into.Goals as goal

pub returns-in_default-clause-exact : goal.returns-in_default-clause-exact
returns-in_default-clause-exact c =
    let defs = view_defs c.args.extents.now in
    let ts = part_types defs (view_ty c.args.whole.now) in
    let ns = drop c.loop-number.number-index c.args.numbers.now in
    let none = nil_from_length c.loop-number.rest.now (c.in_default.ensures {u = tt}).cases in
    let ms = map view_moved c.loop-number.moves.items in
    sym (append-nil ms) ∙ ap (λ xs. ms ++ xs) (sym (ap (λ ss. moves_into defs ts c.args.into ns ss) none
    ∙ moves_none defs ts c.args.into ns)) ∙ c.loop-number.invariant.told

pub loop-number-preserved : goal.loop-number-preserved
loop-number-preserved c =
    let defs = view_defs c.args.extents.now in
    let ts = part_types defs (view_ty c.args.whole.now) in
    let m = c.in_ok-moved.moved in
    let fits : Moved → Type 0 = λ v. v.at + v.count ≤ 2 ^ 32 in
    let ms = c.loop-number.moves.items in
    let told = c.in_ok-moved.ensures {u = tt} in
    let there : c.loop-number.rest.now ≡ c.in-Some.slot.now ∷ c.in-Some.more.now = search rules in
    record {
      told = moves_on defs ts c.args.into c.args.numbers.now c.loop-number.number-index _ c.in-Some.slot.now c.loop-number.rest.now
          c.in-Some.more.now c.loop-number.moves.items _ m c.loop-number-test.true
          (get_or_default c.args.numbers.now c.loop-number.number-index 0 _ c.loop-number-test.true) there
          (c.in_ok-push.ensures {u = tt}).items told.exact
          ∙ c.loop-number.invariant.told;
      fits = rw (c.in_ok-push.ensures {u = tt}).items (All-append fits ms (m ∷ []) c.loop-number.invariant.fits
          (All-cons fits m [] told.fits (All-nil fits)));
    }
