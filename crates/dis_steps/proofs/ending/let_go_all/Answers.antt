use Rattle.std.proofs.Common.{refl, ap, arith}
use Rattle.dis_meaning.specs.Counts.{in_frames}
use Rattle.dis_places.specs.Frames.{view_frames}
use Rattle.dis_stores.proofs.Cuts.{view_uncut}
use Rattle.dis_steps.proofs.Letting.{cut_again}
use Rattle.dis_steps.proofs.ending.let_go_all.Goals as goal

pub loop-frame-init : goal.loop-frame-init
loop-frame-init c = ((λ n. refl), (λ t. view_uncut t c.args.heap.now c.stands.ensures c.requires.proper), c.requires.proper)

pub loop-frame-preserved : goal.loop-frame-preserved
loop-frame-preserved c =
    let rest = c.in-Some.ensures.cases.0 in (
      (λ n.
          let a = c.loop-frame.invariant.0 n in
          let b = c.let_go.ensures.held n in
          let d = ap (λ fs. in_frames n (view_frames fs)) rest in
          omega (arith, a, b, d)),
      (λ t.
          cut_again t c.args.heap.now c.loop-frame.heap c.let_go.new.heap (c.loop-frame.invariant.1 t) (c.let_go.ensures.blocks t)
          (λ n. let b = c.let_go.ensures.held n in omega (arith, b))),
      c.let_go.ensures.proper,
    )
