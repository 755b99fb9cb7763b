use Rattle.std.proofs.Common.{[], ◌∷◌, refl, sym, ap, subst}
use Rattle.process_model.specs.Process.{Over, Replied}
use Rattle.system_model.specs.Ending.{Faulted}
use Rattle.dis_places.specs.View.{view_process, view_world}
use Rattle.dis_prints.specs.declared.heard.Heard.TheVariants as heard
use Rattle.dis_turns.specs.Turns.{IsExact}
use Rattle.dis_turns.specs.Given.{IsGiven}
use Rattle.dis_turns.proofs.Replying.{replies_obey}
use Rattle.dis_turns.proofs.Serials.{keeps_given}
use Rattle.dis_machine.specs.Doings.{view_doing}
use Rattle.dis_machine.proofs.Stepping.{exact_asking, given_asking, reply_comes}
use Rattle.dis_machine.proofs.state.Running.hear.Goals as goal

pub hear-requires : goal.hear-requires
hear-requires c =
    let r = c.args.self.now in
    record { held = replies_obey.held r.memory r.process (exact_asking [] c.args.reply.now r c.requires) }

pub invariant_of-self-in-Fault : goal.invariant_of-self-in-Fault
invariant_of-self-in-Fault c =
    let r = c.args.self.now in
    let a = c.args.reply.now in
    record {
      exact = replies_obey.exact a r.memory c.hear.new.memory r.process c.hear.new.process (heard.Fault c.in-Fault.fault) (exact_asking [] a r c.requires) c.in-Fault.ensures.hears;
      given = tt;
    }

pub invariant_of-self-in-Refused : goal.invariant_of-self-in-Refused
invariant_of-self-in-Refused c =
    let r = c.args.self.now in
    let a = c.args.reply.now in
    let m = c.hear.new.memory in
    let p = c.hear.new.process in
    record {
      exact = subst (λ d. IsExact m (view_doing d (view_process p))) (sym c.requires) (replies_obey.exact a r.memory m r.process p heard.Refused (exact_asking [] a r c.requires) c.in-Refused.ensures.hears);
      given = subst (λ d. IsGiven (view_world m) (view_doing d (view_process p))) (sym c.requires) (keeps_given.replies a r.memory m r.process p heard.Refused (given_asking [] a r c.requires) c.in-Refused.ensures.hears);
    }

pub invariant_of-self-in-NoMemory : goal.invariant_of-self-in-NoMemory
invariant_of-self-in-NoMemory c =
    let r = c.args.self.now in
    let a = c.args.reply.now in
    let m = c.hear.new.memory in
    let p = c.hear.new.process in
    record {
      exact = subst (λ d. IsExact m (view_doing d (view_process p))) (sym c.requires) (replies_obey.exact a r.memory m r.process p heard.NoMemory (exact_asking [] a r c.requires) c.in-NoMemory.ensures.hears);
      given = subst (λ d. IsGiven (view_world m) (view_doing d (view_process p))) (sym c.requires) (keeps_given.replies a r.memory m r.process p heard.NoMemory (given_asking [] a r c.requires) c.in-NoMemory.ensures.hears);
    }

pub returns-in-Went-clause-heard : goal.returns-in-Went-clause-heard
returns-in-Went-clause-heard c = λ objects told.
    reply_comes objects c.args.reply.now c.args.self.now c.requires _ heard.Went tt c.in-Went.ensures.hears refl _ refl refl told

pub returns-in-Asked-clause-heard : goal.returns-in-Asked-clause-heard
returns-in-Asked-clause-heard c = λ objects told.
    reply_comes objects c.args.reply.now c.args.self.now c.requires _ (heard.Asked c.in-Asked.request) tt c.in-Asked.ensures.hears
    (ap (λ d. view_doing d (view_process c.hear.new.process)) c.requires) _ refl refl told

pub returns-in-Fault-clause-heard : goal.returns-in-Fault-clause-heard
returns-in-Fault-clause-heard c = λ objects told.
    reply_comes objects c.args.reply.now c.args.self.now c.requires _ (heard.Fault c.in-Fault.fault) tt c.in-Fault.ensures.hears refl
    (Replied 0 c.args.reply.now ∷ Over 0 (Faulted c.number.result c.args.self.now.process.frame.pc) ∷ [])
    (ap (λ n. Replied 0 c.args.reply.now ∷ Over 0 (Faulted n c.args.self.now.process.frame.pc) ∷ []) (sym c.number.ensures)) refl told

pub invariant_of-self : goal.invariant_of-self
invariant_of-self c =
    let r = c.args.self.now in
    let a = c.args.reply.now in
    let m = c.hear.new.memory in
    let p = c.hear.new.process in
    record {
      exact = replies_obey.exact a r.memory m r.process p heard.Went (exact_asking [] a r c.requires) c.in-Went.ensures.hears;
      given = keeps_given.replies a r.memory m r.process p heard.Went (given_asking [] a r c.requires) c.in-Went.ensures.hears;
    }

pub invariant_of-self-in-Asked-1 : goal.invariant_of-self-in-Asked-1
invariant_of-self-in-Asked-1 c =
    let r = c.args.self.now in
    let a = c.args.reply.now in
    let m = c.hear.new.memory in
    let p = c.hear.new.process in
    let h = heard.Asked c.in-Asked.request in
    record {
      exact = subst (λ d. IsExact m (view_doing d (view_process p))) (sym c.requires) (replies_obey.exact a r.memory m r.process p h (exact_asking [] a r c.requires) c.in-Asked.ensures.hears);
      given = subst (λ d. IsGiven (view_world m) (view_doing d (view_process p))) (sym c.requires) (keeps_given.replies a r.memory m r.process p h (given_asking [] a r c.requires) c.in-Asked.ensures.hears);
    }
