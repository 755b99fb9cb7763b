use Rattle.std.proofs.Common.{rules, arith, ◌≡◌, ◌∷◌, ◌++◌, length, refl, sym, ap, ◌∙◌}
use Rattle.std.proofs.lemmas.List.{nil_from_length}
use Rattle.std.specs.Vec.Iter.{into_iter_items}
use Rattle.limbo_types.specs.View.{view_ty}
use Rattle.core_code.specs.Terms.{placed}
use Rattle.core_parts.specs.Lowered.{code_of, codes_of}
use Rattle.core_parts.proofs.Coded.{code_of_none, codes_of_none, codes_of_more}
use Rattle.core_parts.proofs.Coming.{placed_on, placed_no_code, placed_no_slots, none_left}
use Rattle.core_parts.proofs.together.place.Goals as goal

pub loop-own-init : goal.loop-own-init
loop-own-init c = record {
  told = λ defs. rw (c.new-code.ensures.items, code_of_none, c.as_slice-parts.ensures.value) refl;
  counted = search rules;
}

pub loop-own-preserved : goal.loop-own-preserved
loop-own-preserved c =
    let w = c.args.whole.now in
    let t = view_ty w.ty in
    let l = c.loop-own in
    let steps = (c.in-Some.ensures).steps in
    let left = into_iter_items c.next.new.self in
    let code = code_of l.code.items in
    let long = ap length steps.0 in
    let part = c.in-Some-split_first in
    let slot = c.in-Some-split_first-2 in
    let parts : l.parts.now ≡ part.part.now ∷ part.more.now = search rules in
    let slots : l.rest.now ≡ slot.from.now ∷ slot.others.now = search rules in
    record {
      told = λ defs. placed_on defs t w.variant c.args.into l.operand c.in-Some-checked_add.next part.part.now slot.from.now l.parts.now
          part.more.now l.rest.now slot.others.now (code_of c.in-Some.own.items) (codes_of left) code _ _ parts slots
          (search rules)
          (c.in_ok-put_all.ensures {u = tt}) (c.in_ok-put_place.ensures {u = tt})
          ∙ ap (λ cs. code ++ placed defs t w.variant c.args.into l.operand l.parts.now cs l.rest.now)
          (sym (ap codes_of steps.0 ∙ codes_of_more c.in-Some.own left))
          ∙ l.invariant.told defs;
      counted = omega (arith, long, steps.1, l.invariant.counted);
    }

pub returns-in_default : goal.returns-in_default
returns-in_default c = λ defs.
    let w = c.args.whole.now in
    let l = c.loop-own in
    let none = nil_from_length l.parts.now (c.in_default.ensures {u = tt}).cases in
    let given = c.into_iter-own-iterator.ensures.into_iter_gives in
    let cs = codes_of (into_iter_items l.own-iterator) in
    none_left (code_of l.code.items) _ _
    (ap (λ ks. placed defs (view_ty w.ty) w.variant c.args.into l.operand ks cs l.rest.now) none) (l.invariant.told defs)
    ∙ ap (λ xs. placed defs (view_ty w.ty) w.variant c.args.into 0 w.parts.items (codes_of xs) c.args.slots.now) given.0

pub returns-in_default-split_first : goal.returns-in_default-split_first
returns-in_default-split_first c = λ defs.
    let w = c.args.whole.now in
    let l = c.loop-own in
    let none = nil_from_length l.rest.now (c.in_default-split_first.ensures {u = tt}).cases in
    let given = c.into_iter-own-iterator.ensures.into_iter_gives in
    let cs = codes_of (into_iter_items l.own-iterator) in
    none_left (code_of l.code.items) _ _
    (ap (λ ss. placed defs (view_ty w.ty) w.variant c.args.into l.operand l.parts.now cs ss) none
    ∙ placed_no_slots defs (view_ty w.ty) w.variant c.args.into l.operand l.parts.now cs) (l.invariant.told defs)
    ∙ ap (λ xs. placed defs (view_ty w.ty) w.variant c.args.into 0 w.parts.items (codes_of xs) c.args.slots.now) given.0

pub returns : goal.returns
returns c = λ defs.
    let w = c.args.whole.now in
    let l = c.loop-own in
    let items = into_iter_items l.own-iterator in
    let none = nil_from_length items (sym l.invariant.counted ∙ (c.in-None.ensures {u = tt}).steps.0) in
    let given = c.into_iter-own-iterator.ensures.into_iter_gives in
    none_left (code_of l.code.items) _ _
    (ap (λ cs. placed defs (view_ty w.ty) w.variant c.args.into l.operand l.parts.now cs l.rest.now) (ap codes_of none ∙ codes_of_none)
    ∙ placed_no_code defs (view_ty w.ty) w.variant c.args.into l.operand l.parts.now l.rest.now) (l.invariant.told defs)
    ∙ ap (λ xs. placed defs (view_ty w.ty) w.variant c.args.into 0 w.parts.items (codes_of xs) c.args.slots.now) given.0
