use Rattle.std.proofs.Common.{refl, ap, arith}
use Rattle.dis_meaning.specs.Counts.{in_frames}
use Rattle.dis_places.specs.Frames.{view_frames}
use Rattle.dis_stores.proofs.Named.{frames_reverse}
use Rattle.dis_steps.proofs.Letting.{cut_again}
use Rattle.dis_steps.proofs.ending.end.Goals as goal

pub let_go_all-requires-clause-held : goal.let_go_all-requires-clause-held
let_go_all-requires-clause-held c = λ n.
    let a = c.requires.held n in
    let r = frames_reverse (view_frames c.args.process.now.below.items) n in
    let b = c.let_go.ensures.held n in
    let d = ap (λ fs. in_frames n (view_frames fs)) c.deref.ensures.value in
    omega (arith, a, r, b, d)

pub let_go_all-requires-2-clause-held : goal.let_go_all-requires-2-clause-held
let_go_all-requires-2-clause-held c = λ n.
    let a = c.requires.held n in
    let r = frames_reverse (view_frames c.args.process.now.below.items) n in
    let b = c.let_go.ensures.held n in
    let d = ap (λ fs. in_frames n (view_frames fs)) c.deref.ensures.value in
    let e = c.let_go_all.ensures.held n in
    let f = ap (λ fs. in_frames n (view_frames fs)) c.deref-2.ensures.value in
    omega (arith, a, r, b, d, e, f)

pub returns : goal.returns
returns c =
    let t = c.args.memory.now.tables in
    let first = c.let_go.new.heap in
    let second = c.let_go_all.new.heap in record {
      held = λ n.
          let r = frames_reverse (view_frames c.args.process.now.below.items) n in
          let b = c.let_go.ensures.held n in
          let d = ap (λ fs. in_frames n (view_frames fs)) c.deref.ensures.value in
          let e = c.let_go_all.ensures.held n in
          let f = ap (λ fs. in_frames n (view_frames fs)) c.deref-2.ensures.value in
          let g = c.let_go_all-2.ensures.held n in
          omega (arith, r, b, d, e, f, g);
      heap = cut_again t c.args.memory.now.heap second c.let_go_all-2.new.heap
          (cut_again t c.args.memory.now.heap first second (c.let_go.ensures.blocks t) (c.let_go_all.ensures.blocks t)
          (λ n. let e = c.let_go_all.ensures.held n in omega (arith, e)))
          (c.let_go_all-2.ensures.blocks t)
          (λ n. let g = c.let_go_all-2.ensures.held n in omega (arith, g));
      outer = refl;
      tables = refl;
    }
