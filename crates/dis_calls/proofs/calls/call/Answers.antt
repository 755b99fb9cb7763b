use Rattle.std.proofs.Common.{◌≡◌, true, false, refl, ap, sym, ◌∙◌, arith, rules, tests}
use Rattle.std.specs.Prelude.{nat_lt, reverse}
use Rattle.process_model.specs.Process.{Went, Ends}
use Rattle.system_model.specs.Ending.{Broken}
use Rattle.dis_meaning.specs.Process.{height}
use Rattle.dis_meaning.specs.Words.{Found}
use Rattle.dis_memory.specs.Naming.{names}
use Rattle.dis_places.specs.Frames.{view_frames}
use Rattle.dis_places.specs.View.{view_process, view_world}
use Rattle.dis_calls.specs.Made.{entered}
use Rattle.dis_calls.proofs.Calling.{called, called_if, made_within, over, not_over, still_below}
use Rattle.dis_calls.proofs.Quiet.{quiet_settles}
use Rattle.dis_calls.proofs.calls.call.Goals as goal

pub returns-then-len-limit-clause-comes : goal.returns-then-len-limit-clause-comes
returns-then-len-limit-clause-comes c =
    let m = c.args.memory.now in
    let x = view_world m in
    let p = c.args.process.now in
    let P = view_process p in
    let o = c.args.code.now.object in
    let f = (c.in_ok-made.ensures {u = tt}).found.frame in
    let pc = c.in_ok-pc.pc in
    let t = c.in_ok-overflow.field-0 in
    let high : nat_lt (height P) c.args.limit ≡ false = over p c.args.limit (search (rules, tests)) in (
      x,
      called x P o c.args.limit c.args.inst _ f pc (c.in_ok-word.ensures {u = tt}) ((c.in_ok-made.ensures {u = tt}).found.found) (c.in_ok-pc.ensures {u = tt})
          ∙ ap (λ b. Found (called_if b x P f pc)) high
          ∙ ap (λ t. Found (Ends x (Broken t))) (sym (c.in_ok-overflow.ensures {u = tt})),
      quiet_settles m p p c.stands.ensures (λ n. refl),
    )

pub enter-requires-clause-made : goal.enter-requires-clause-made
enter-requires-clause-made c =
    let p = c.args.process.now in
    let there = (c.in_ok-made.ensures {u = tt}).found.there in
    let w = made_within p c.in_ok-made.made (c.in_ok-made.ensures {u = tt}).found.frame there in
    let l = p.made.ok.0 in
    omega (arith, w, l)

pub returns-in-Err-clause-kept : goal.returns-in-Err-clause-kept
returns-in-Err-clause-kept c =
    record { process = ap (λ fs. still_below c.args.process.now (reverse (view_frames fs))) (c.in-Err.ensures {u = tt}).items; printing = refl }

pub returns-in-Ok-clause-comes : goal.returns-in-Ok-clause-comes
returns-in-Ok-clause-comes c =
    let m = c.args.memory.now in
    let x = view_world m in
    let p = c.args.process.now in
    let P = view_process p in
    let o = c.args.code.now.object in
    let made = (c.in_ok-made.ensures {u = tt}).found in
    let f = made.frame in
    let pc = c.in_ok-pc.pc in
    let same : still_below p (reverse (view_frames c.reserve.new.self.items)) ≡ P =
    ap (λ fs. still_below p (reverse (view_frames fs))) (c.in-Ok.ensures {u = tt}).items in
    let low : nat_lt (height P) c.args.limit ≡ true = not_over p c.args.limit (search (rules, tests)) in (
      x,
      called x P o c.args.limit c.args.inst _ f pc (c.in_ok-word.ensures {u = tt}) made.found (c.in_ok-pc.ensures {u = tt})
          ∙ ap (λ b. Found (called_if b x P f pc)) low
          ∙ ap (λ q. Found (Went x (entered q f pc))) (sym same)
          ∙ ap (λ q. Found (Went x q)) (sym (c.enter.ensures.enters f made.there)),
      quiet_settles m p c.enter.new.process c.stands.ensures (λ n. c.enter.ensures.names n ∙ ap (λ q. names q n) same),
    )
