-- A reply does the same on both machines.
use Rattle.std.proofs.Common.{◌≡◌, ℤ, refl, sym, ap, subst, inl}
use Rattle.std.specs.Prelude.{Option, Some, None}
use Rattle.styx_msg.specs.declared.message.Rmsg.{Rmsg}
use Rattle.process_model.specs.Process.{Went}
use Rattle.system_model.specs.Values.{Value}
use Rattle.system_model.specs.World as outside
use Rattle.system_model.specs.Prints.{Printing, Answers, Requests, NoReply, hear}
use Rattle.dis_meaning.specs.Words.{Place, Found, ◌>>=◌}
use Rattle.dis_meaning.specs.World as today
use Rattle.dis_meaning.specs.Process as process
use Rattle.dis_meaning.specs.Process.{Process, with_frames}
use Rattle.dis_meaning.specs.Step as step
use Rattle.dis_memory.specs.Blocks.{World}
use Rattle.dis_memory.specs.Control as control
use Rattle.dis_memory.specs.Sound.{IsThere}
use Rattle.dis_counts.proofs.Replies.{hears_keep}
use Rattle.dis_agreement.specs.Agreement.{WaitsInside, Agrees, IsRight, SameDone}
use Rattle.dis_agreement.specs.Laws.{AnswersAgree}
use Rattle.dis_agreement.proofs.Following.{found, chain}
use Rattle.dis_agreement.proofs.Storing.{Obeys}
use Rattle.dis_agreement.proofs.Controlling.{outside_agrees, answered_follows}
use Rattle.dis_agreement.proofs.Steps.{or_faults}

module _ (x : today.World) (y : World) (p : Process) (a : Agrees x y p) where
  answer_stored : IsThere y 0 → (u : outside.World) (place : Place) (at : ℤ) (v : Value)
      → Obeys
      (step.answered (step.outside_is x u) p place at v >>= λ m.
      Found (Went m.world (with_frames m.process m.process.frame m.process.below m.process.made)))
      (control.answered (control.with_outside y u) p place at v >>= λ m.
      Found (Went m.world (with_frames m.process m.process.frame m.process.below m.process.made)))
  answer_stored here u place at v =
      chain _ _ (answered_follows x y a.worlds here p u place at v) (λ m n e f r.
      found _ _ (ap (λ (q : Process). with_frames q q.frame q.below q.made) r.process, r.worlds, tt))

  hears_same : p.frame.instance ≡ 0 → (place : Place) (at : ℤ) (g : Printing) → IsRight (step.hears x p place at g)
      → SameDone (step.hears x p place at g) (control.hears y p place at g)
  hears_same inside place at (Answers u v) right =
      let here : IsThere y 0 = subst (λ n. IsThere y n) inside (a.there.process p.frame.instance (inl (inl refl))) in
      or_faults x y p _ _ a.worlds (answer_stored here u place at v) right (hears_keep y p place at (Answers u v) a.there)
  hears_same inside place at (Requests u m k) right = (
    refl,
    refl,
    record { worlds = outside_agrees x y u a.worlds; there = hears_keep y p place at (Requests u m k) a.there; waits = inside },
  )
  hears_same inside place at NoReply right = (refl, refl, a)

  pub answer_same : (reply : Rmsg) → IsRight (step.answer reply x p) → SameDone (step.answer reply x p) (control.answer reply y p)
  answer_same reply right = go p.printing a.waits right
    where
      go : (o : Option process.Printing) → WaitsInside p.frame.instance o → IsRight (step.heard reply x p o)
          → SameDone (step.heard reply x p o) (control.heard reply y p o)
      go None inside right = (refl, refl, a)
      go (Some k) inside right =
          subst (λ u. SameDone (step.hears x p k.place k.at (hear reply x.outside k.writing))
          (control.hears y p k.place k.at (hear reply u k.writing)))
          (sym a.worlds.outside) (hears_same inside k.place k.at (hear reply x.outside k.writing) right)

pub answers_agree : AnswersAgree
answers_agree reply x y p a right = answer_same x y p a reply right
