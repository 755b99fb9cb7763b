-- Instructions and replies of the one process, as what its machine comes to.
use Rattle.std.proofs.Common.{◌≡◌, List, None, refl, ap, ◌∙◌, subst}
use Rattle.styx_msg.specs.declared.message.Rmsg.{Rmsg}
use Rattle.process_model.specs.Process.{Ready, Asking}
use Rattle.dis_file.specs.declared.object.Object.{Object}
use Rattle.system_model.specs.Trace.{Trace}
use Rattle.system_model.specs.Limits.{frames_limit}
use Rattle.dis_memory.specs.Control.{answer}
use Rattle.dis_memory.specs.Step.{step}
use Rattle.dis_counts.specs.Told as traces
use Rattle.dis_places.specs.View.{view_process, view_world}
use Rattle.dis_prints.specs.declared.heard.Heard.{Heard}
use Rattle.dis_prints.specs.declared.heard.Heard.TheVariants as heard
use Rattle.dis_serials.specs.Given.{HasGiven}
use Rattle.dis_steps.specs.declared.outcome.Stepped.{Stepped}
use Rattle.dis_steps.specs.Stepping.{Steps}
use Rattle.dis_steps.specs.Hearing.{Replies}
use Rattle.dis_turns.specs.Turns.{alone, doing_after, told_by, IsExact, HadMemory}
use Rattle.dis_turns.specs.Replies.{doing_heard, told_heard, WasTaken}
use Rattle.dis_turns.specs.Given.{IsGiven}
use Rattle.dis_turns.proofs.Turning.{steps_obey}
use Rattle.dis_turns.proofs.Replying.{replies_obey}
use Rattle.dis_machine.specs.declared.state.Running.{Running}
use Rattle.dis_machine.specs.declared.doing.Doing.TheVariants as code
use Rattle.dis_machine.specs.Doings.{view_doing}
use Rattle.dis_machine.specs.Running.{state_with, obeyed, hears, ComesTo}
use Rattle.dis_machine.proofs.Turning.{comes}

module _ (objects : List Object) (r : Running) (is_ready : r.doing ≡ code.Ready) where
  pub exact_before : IsExact r.memory (Ready (view_process r.process))
  exact_before = subst (λ d. IsExact r.memory (view_doing d (view_process r.process))) is_ready r.exact

  pub given_before : HasGiven (view_world r.memory) (view_process r.process)
  given_before = subst (λ d. IsGiven (view_world r.memory) (view_doing d (view_process r.process))) is_ready r.given

  pub step_comes : (r' : Running) (s : Stepped) → HadMemory s →
      Steps r.memory r.process s (step frames_limit objects (view_world r.memory) (view_process r.process)) r'.memory r'.process →
      view_doing r'.doing (view_process r'.process) ≡ doing_after s (view_process r'.process) →
      (this : Trace) → told_by s r.process.frame.pc ≡ this → traces.told (told_by s r.process.frame.pc) ≡ told_by s r.process.frame.pc →
      (told : Trace) → ComesTo (obeyed objects (state_with r told)) r' told this
  step_comes r' s had steps stands this is plain told =
      subst (λ t. ComesTo (obeyed objects (state_with r told)) r' told t) is (
      let o = steps_obey.obeys frames_limit objects r.memory r'.memory r.process r'.process s had exact_before steps told in
      comes r' told (told_by s r.process.frame.pc) o.gone (obeyed objects (state_with r told)) (doing_after s (view_process r'.process)) (view_world r'.memory)
      plain stands refl
      (ap (λ d. obeyed objects (alone (view_doing d (view_process r.process)) (view_world r.memory) told)) is_ready ∙ o.turn))

-- ---- replies

module _ (objects : List Object) (a : Rmsg) (r : Running) (is_asking : r.doing ≡ code.Asking) where
  pub exact_asking : IsExact r.memory (Asking (view_process r.process))
  exact_asking = subst (λ d. IsExact r.memory (view_doing d (view_process r.process))) is_asking r.exact

  pub given_asking : HasGiven (view_world r.memory) (view_process r.process)
  given_asking = subst (λ d. IsGiven (view_world r.memory) (view_doing d (view_process r.process))) is_asking r.given

  asks_so : (told : Trace) → hears objects a (state_with r told) ≡ hears objects a (alone (Asking (view_process r.process)) (view_world r.memory) told)
  asks_so told = ap (λ d. hears objects a (alone (view_doing d (view_process r.process)) (view_world r.memory) told)) is_asking

  pub reply_comes : (r' : Running) (h : Heard) → WasTaken h →
      Replies r.memory r.process h (answer a (view_world r.memory) (view_process r.process)) r'.memory r'.process →
      view_doing r'.doing (view_process r'.process) ≡ doing_heard h (view_process r'.process) →
      (this : Trace) → told_heard a h r.process.frame.pc ≡ this → traces.told (told_heard a h r.process.frame.pc) ≡ told_heard a h r.process.frame.pc →
      (told : Trace) → ComesTo (hears objects a (state_with r told)) r' told this
  reply_comes r' h had replies stands this is plain told =
      subst (λ t. ComesTo (hears objects a (state_with r told)) r' told t) is (
      let o = replies_obey.obeys frames_limit objects a r.memory r'.memory r.process r'.process h had exact_asking replies told in
      comes r' told (told_heard a h r.process.frame.pc) o.gone (hears objects a (state_with r told)) (doing_heard h (view_process r'.process)) (view_world r'.memory)
      plain stands refl (asks_so told ∙ o.event))

  pub reply_refused : (r' : Running) → Replies r.memory r.process heard.Refused (answer a (view_world r.memory) (view_process r.process)) r'.memory r'.process →
      (told : Trace) → hears objects a (state_with r told) ≡ None
  reply_refused r' replies told = asks_so told ∙ replies_obey.refused frames_limit objects a r.memory r'.memory r.process r'.process replies told
