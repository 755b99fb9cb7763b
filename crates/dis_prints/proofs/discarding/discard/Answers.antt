use Rattle.std.proofs.Common.{ap, sym, ◌∙◌, subst, arith, refl}
use Rattle.dis_meaning.specs.Counts.{in_frames}
use Rattle.dis_meaning.specs.Process.{with_frames}
use Rattle.dis_meaning.specs.Step.{without}
use Rattle.dis_places.specs.Frames.{view_frames, count, IsAt}
use Rattle.dis_places.specs.View.{view_process}
use Rattle.dis_stores.proofs.Written.{within}
use Rattle.dis_calls.proofs.Made.{without_none}
use Rattle.dis_calls.proofs.Calling.{count_without, named_without, made_without}
use Rattle.dis_calls.proofs.Quiet.{quiet_settles}
use Rattle.dis_prints.proofs.discarding.discard.Goals as goal

pub invariant_of-process : goal.invariant_of-process
invariant_of-process c =
    let p = c.args.process.now in
    let s = c.args.serial in
    let k = c.in-Some.k in
    let at : IsAt s (view_frames p.made.items) k = subst (λ fs. IsAt s (view_frames fs) k) c.deref.ensures.value c.in-Some.ensures.found in
    record {
      once = λ n.
          let o = p.once n in
          let m = ap (λ fs. count n (view_frames fs)) c.remove-frame.ensures.items in
          let w = count_without n p.made.items k c.remove-frame.result (within s p.made.items k at) c.remove-frame.ensures.value in
          omega (arith, o, m, w);
    }

pub let_go-requires-clause-held : goal.let_go-requires-clause-held
let_go-requires-clause-held c =
    let p = c.args.process.now in
    let s = c.args.serial in
    let k = c.in-Some.k in
    let at : IsAt s (view_frames p.made.items) k = subst (λ fs. IsAt s (view_frames fs) k) c.deref.ensures.value c.in-Some.ensures.found in
    λ n.
    let h = c.requires.held n in
    let w = named_without n p.made.items k c.remove-frame.result (within s p.made.items k at) c.remove-frame.ensures.value in
    omega (arith, h, w)

pub returns-in-Some-clause-gone : goal.returns-in-Some-clause-gone
returns-in-Some-clause-gone c =
    let p = c.args.process.now in
    let P = view_process p in
    let s = c.args.serial in
    let k = c.in-Some.k in
    let at : IsAt s (view_frames p.made.items) k = subst (λ fs. IsAt s (view_frames fs) k) c.deref.ensures.value c.in-Some.ensures.found in
    ap (λ made. with_frames P P.frame P.below made)
    (ap view_frames c.remove-frame.ensures.items ∙ made_without p k at.frame at.there ∙ ap (λ s. without s P.made) at.same)

pub returns-in-Some-clause-settles : goal.returns-in-Some-clause-settles
returns-in-Some-clause-settles c =
    let m = c.args.memory.now in
    let p = c.args.process.now in
    let s = c.args.serial in
    let k = c.in-Some.k in
    let at : IsAt s (view_frames p.made.items) k = subst (λ fs. IsAt s (view_frames fs) k) c.deref.ensures.value c.in-Some.ensures.found in
    record {
      held = λ n.
          let g = c.let_go.ensures.held n in
          let i = ap (λ fs. in_frames n (view_frames fs)) c.remove-frame.ensures.items in
          let w = named_without n p.made.items k c.remove-frame.result (within s p.made.items k at) c.remove-frame.ensures.value in
          omega (arith, g, i, w);
      heap = c.let_go.ensures.blocks m.tables;
      outer = refl;
      tables = refl;
    }

pub returns-in-None-clause-gone : goal.returns-in-None-clause-gone
returns-in-None-clause-gone c =
    let P = view_process c.args.process.now in
    ap (λ made. with_frames P P.frame P.below made)
    (sym (without_none c.args.serial P.made (ap (λ fs. count c.args.serial (view_frames fs)) (sym c.deref.ensures.value) ∙ c.in-None.ensures.absent)))

pub returns-in-None-clause-settles : goal.returns-in-None-clause-settles
returns-in-None-clause-settles c = quiet_settles c.args.memory.now c.args.process.now _ c.stands.ensures (λ n. refl)
