-- Serials of frames, behind steps and replies.
use Rattle.std.proofs.Common.{◌≡◌, ◌<◌, ℕ, List, sym, subst, ap}
use Rattle.styx_msg.specs.declared.message.Rmsg.{Rmsg}
use Rattle.process_model.specs.Process.{Went, Asks}
use Rattle.dis_file.specs.declared.object.Object.{Object}
use Rattle.system_model.specs.Prints.{Request}
use Rattle.sys_print.specs.Printing.{view_request}
use Rattle.dis_meaning.specs.Process.{Process}
use Rattle.dis_memory.specs.Blocks.{World}
use Rattle.dis_memory.specs.Control.{answer}
use Rattle.dis_memory.specs.Process.{Does}
use Rattle.dis_memory.specs.Step.{step}
use Rattle.dis_serials.specs.Given.{AreGiven, HasGiven, IsGivenAfter, StaysGiven}
use Rattle.dis_serials.proofs.Given.{serials_are_given}
use Rattle.dis_places.specs.declared.memory.Memory.{Memory}
use Rattle.dis_places.specs.declared.process.Process as code_process
use Rattle.dis_places.specs.View.{view_process, view_world}
use Rattle.dis_calls.specs.Coming.{LeftAlone}
use Rattle.dis_prints.specs.declared.heard.Heard.{Heard}
use Rattle.dis_prints.specs.declared.heard.Heard.TheVariants as heard
use Rattle.dis_steps.specs.declared.outcome.Stepped.{Stepped}
use Rattle.dis_steps.specs.declared.outcome.Stepped.TheVariants as stepped
use Rattle.dis_steps.specs.Hearing.{Replies}
use Rattle.dis_steps.specs.Stepping.{Steps}
use Rattle.dis_turns.specs.Turns.{doing_after}
use Rattle.dis_turns.specs.Replies.{doing_heard}
use Rattle.dis_turns.specs.Given.{IsGiven, KeepsGiven}

-- What was given is told by the outside alone.
given_there : (x y : World) (q : Process) → y.outside ≡ x.outside → HasGiven x q → HasGiven y q
given_there x y q e h =
    let same = sym (ap (λ o. o.frames) e) in record {
      running = subst (λ n. q.frame.serial < n) same h.running;
      waiting = subst (λ n. AreGiven n q.below) same h.waiting;
      made = subst (λ n. AreGiven n q.made) same h.made;
    }

went_given : (x y z : World) (q : Process) (does : Does) → does ≡ Went y q → z.outside ≡ y.outside → IsGivenAfter x does → HasGiven z q
went_given x y z q does e o g = let s : StaysGiven x y q = subst (IsGivenAfter x) e g in given_there y z q o s.given

asks_given : (x y z : World) (q : Process) (r : Request) (does : Does) → does ≡ Asks y r q → z.outside ≡ y.outside →
    IsGivenAfter x does → HasGiven z q
asks_given x y z q r does e o g = let s : StaysGiven x y q = subst (IsGivenAfter x) e g in given_there y z q o s.given

left_given : (m m' : Memory) (p p' : code_process.Process) → LeftAlone m p m' p' → HasGiven (view_world m) (view_process p) →
    HasGiven (view_world m') (view_process p')
left_given m m' p p' l h =
    subst (λ x. HasGiven x (view_process p')) (sym l.world) (subst (HasGiven (view_world m)) (sym l.process.process) h)

same_given : (m m' : Memory) (p p' : code_process.Process) → (m' ≡ m) × (p' ≡ p) → HasGiven (view_world m) (view_process p) →
    HasGiven (view_world m') (view_process p')
same_given m m' p p' s h =
    subst (λ m. HasGiven (view_world m) (view_process p')) (sym s.0) (subst (λ p. HasGiven (view_world m) (view_process p)) (sym s.1) h)

steps : (limit : ℕ) (objects : List Object) (m m' : Memory) (p p' : code_process.Process) (s : Stepped) →
    HasGiven (view_world m) (view_process p) → Steps m p s (step limit objects (view_world m) (view_process p)) m' p' →
    IsGiven (view_world m') (doing_after s (view_process p'))
steps limit objects m m' p p' stepped.Went h s =
    went_given (view_world m) s.0 (view_world m') (view_process p') _ s.1 s.2.outer
    (serials_are_given.steps limit objects (view_world m) (view_process p) h)
steps limit objects m m' p p' (stepped.Asked r) h s =
    asks_given (view_world m) s.0 (view_world m') (view_process p') (view_request r) _ s.1 s.2.outer
    (serials_are_given.steps limit objects (view_world m) (view_process p) h)
steps limit objects m m' p p' stepped.Ended h s = tt
steps limit objects m m' p p' (stepped.Broken text) h s = tt
steps limit objects m m' p p' (stepped.Fault f) h s = tt
steps limit objects m m' p p' stepped.NoMemory h s = left_given m m' p p' s h

replies : (a : Rmsg) (m m' : Memory) (p p' : code_process.Process) (h : Heard) → HasGiven (view_world m) (view_process p) →
    Replies m p h (answer a (view_world m) (view_process p)) m' p' → IsGiven (view_world m') (doing_heard h (view_process p'))
replies a m m' p p' heard.Went h s =
    went_given (view_world m) s.0 (view_world m') (view_process p') _ s.1 s.2.outer
    (serials_are_given.replies a (view_world m) (view_process p) h)
replies a m m' p p' (heard.Asked r) h s =
    asks_given (view_world m) s.0 (view_world m') (view_process p') (view_request r) _ s.1 s.2.outer
    (serials_are_given.replies a (view_world m) (view_process p) h)
replies a m m' p p' (heard.Fault f) h s = tt
replies a m m' p p' heard.Refused h s = same_given m m' p p' (s.1, s.2) h
replies a m m' p p' heard.NoMemory h s = same_given m m' p p' s h

pub keeps_given : KeepsGiven
keeps_given = record { steps = steps; replies = replies }
