use Rattle.std.proofs.Common.{◌≡◌, length, ap, sym, arith, ◌∙◌, refl}
use Rattle.std.proofs.lemmas.Grind.{common_steps}
use Rattle.std.specs.Prelude.{reverse}
use Rattle.process_model.specs.Process.{Went}
use Rattle.dis_meaning.specs.Counts.{in_frame}
use Rattle.dis_meaning.specs.Process.{with_frames}
use Rattle.dis_meaning.specs.Words.{Found}
use Rattle.dis_memory.specs.Control.{returns}
use Rattle.dis_places.specs.Frames.{view_frame, view_frames, count, one}
use Rattle.dis_places.specs.View.{view_process, view_world}
use Rattle.dis_calls.proofs.Calling.{count_pushed, pushed_front, back_names, no_below}
use Rattle.dis_calls.proofs.Quiet.{quiet_settles}
use Rattle.dis_calls.proofs.calls.give_back.Goals as goal

pub invariant_of-process : goal.invariant_of-process
invariant_of-process c =
    record {
      once = λ n.
          let o = c.args.process.now.once n in
          let e = ap (λ fs. count n (view_frames fs)) c.in-Some.ensures.items in
          let r = count_pushed n c.pop.new.self.items c.in-Some.frame in
          let a = ap (λ f. one n (view_frame f)) c.replace-gone.ensures.after in
          omega (arith, o, e, r, a);
    }

pub returns-clause-comes : goal.returns-clause-comes
returns-clause-comes c =
    let m = c.args.memory.now in
    let x = view_world m in
    let p = c.args.process.now in
    let P = view_process p in
    let below = c.pop.new.self.items in
    let f = c.in-Some.frame in
    λ limit o i. (
      x,
      ap (λ fs. Found (returns x P (reverse (view_frames fs)))) c.in-Some.ensures.items
          ∙ ap (λ fs. Found (returns x P fs)) (pushed_front below f)
          ∙ ap (λ f. Found (Went x (with_frames P (view_frame f) (reverse (view_frames below)) P.made))) (sym c.replace-gone.ensures.after),
      record {
        held = λ n.
            let a = back_names n p below f c.in-Some.ensures.items in
            let b = c.let_go.ensures.held n in
            let d = ap (λ f. in_frame n (view_frame f)) c.replace-gone.ensures.value in
            let e = ap (λ f. in_frame n (view_frame f)) c.replace-gone.ensures.after in
            omega (arith, a, b, d, e);
        heap = c.let_go.ensures.blocks m.tables;
        outer = refl;
        tables = refl;
      },
    )

pub returns-then-is_empty-clause-comes : goal.returns-then-is_empty-clause-comes
returns-then-is_empty-clause-comes c =
    let m = c.args.memory.now in
    let x = view_world m in
    let p = c.args.process.now in
    let none : length p.below.items ≡ 0 = grind (arith, common_steps) in
    λ limit o i. (
      x,
      ap (λ fs. Found (returns x (view_process p) fs)) (no_below p none),
      quiet_settles m p p c.stands.ensures (λ n. refl),
    )
