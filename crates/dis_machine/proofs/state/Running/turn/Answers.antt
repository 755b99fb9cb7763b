use Rattle.std.proofs.Common.{[], ◌∷◌, refl, sym, ap, subst}
use Rattle.process_model.specs.Process.{Over}
use Rattle.system_model.specs.Ending.{Faulted}
use Rattle.system_model.specs.Limits.{frames_limit}
use Rattle.dis_places.specs.View.{view_process, view_world}
use Rattle.dis_steps.specs.Codes.{objects_of}
use Rattle.dis_steps.specs.declared.outcome.Stepped.TheVariants as stepped
use Rattle.dis_turns.specs.Turns.{IsExact}
use Rattle.dis_turns.specs.Given.{IsGiven}
use Rattle.dis_turns.proofs.Turning.{steps_obey}
use Rattle.dis_turns.proofs.Serials.{keeps_given}
use Rattle.dis_machine.specs.Doings.{view_doing}
use Rattle.dis_machine.proofs.Stepping.{exact_before, given_before, step_comes}
use Rattle.dis_machine.proofs.state.Running.turn.Goals as goal

pub step-requires : goal.step-requires
step-requires c =
    let r = c.args.self.now in
    record {
      loaded = c.requires.loaded;
      given = given_before (objects_of c.args.codes.now) r c.requires.ready;
      held = steps_obey.held r.memory r.process (exact_before (objects_of c.args.codes.now) r c.requires.ready);
    }

pub invariant_of-self-in-Asked : goal.invariant_of-self-in-Asked
invariant_of-self-in-Asked c =
    let r = c.args.self.now in
    let objects = objects_of c.args.codes.now in
    let m = c.step.new.memory in
    let p = c.step.new.process in
    record {
      exact = steps_obey.exact frames_limit objects r.memory m r.process p (stepped.Asked c.in-Asked.request) (exact_before objects r c.requires.ready) c.in-Asked.ensures.steps;
      given = keeps_given.steps frames_limit objects r.memory m r.process p (stepped.Asked c.in-Asked.request) (given_before objects r c.requires.ready) c.in-Asked.ensures.steps;
    }

pub invariant_of-self-in-Ended : goal.invariant_of-self-in-Ended
invariant_of-self-in-Ended c =
    let r = c.args.self.now in
    let objects = objects_of c.args.codes.now in
    record {
      exact = steps_obey.exact frames_limit objects r.memory c.step.new.memory r.process c.step.new.process stepped.Ended (exact_before objects r c.requires.ready) c.in-Ended.ensures.steps;
      given = tt;
    }

pub invariant_of-self-in-Broken : goal.invariant_of-self-in-Broken
invariant_of-self-in-Broken c =
    let r = c.args.self.now in
    let objects = objects_of c.args.codes.now in
    record {
      exact = steps_obey.exact frames_limit objects r.memory c.step.new.memory r.process c.step.new.process (stepped.Broken c.in-Broken.text) (exact_before objects r c.requires.ready) c.in-Broken.ensures.steps;
      given = tt;
    }

pub invariant_of-self-in-Fault : goal.invariant_of-self-in-Fault
invariant_of-self-in-Fault c =
    let r = c.args.self.now in
    let objects = objects_of c.args.codes.now in
    record {
      exact = steps_obey.exact frames_limit objects r.memory c.step.new.memory r.process c.step.new.process (stepped.Fault c.in-Fault.fault) (exact_before objects r c.requires.ready) c.in-Fault.ensures.steps;
      given = tt;
    }

pub invariant_of-self-in-NoMemory : goal.invariant_of-self-in-NoMemory
invariant_of-self-in-NoMemory c =
    let r = c.args.self.now in
    let objects = objects_of c.args.codes.now in
    let m = c.step.new.memory in
    let p = c.step.new.process in
    record {
      exact =
          subst (λ d. IsExact m (view_doing d (view_process p))) (sym c.requires.ready)
          (steps_obey.exact frames_limit objects r.memory m r.process p stepped.NoMemory (exact_before objects r c.requires.ready) c.in-NoMemory.ensures.steps);
      given =
          subst (λ d. IsGiven (view_world m) (view_doing d (view_process p))) (sym c.requires.ready)
          (keeps_given.steps frames_limit objects r.memory m r.process p stepped.NoMemory (given_before objects r c.requires.ready) c.in-NoMemory.ensures.steps);
    }

pub returns-in-Went-clause-turn : goal.returns-in-Went-clause-turn
returns-in-Went-clause-turn c = λ told.
    let r = c.args.self.now in
    step_comes (objects_of c.args.codes.now) r c.requires.ready _ stepped.Went tt c.in-Went.ensures.steps
    (ap (λ d. view_doing d (view_process c.step.new.process)) c.requires.ready) _ refl refl told

pub returns-in-Asked-clause-turn : goal.returns-in-Asked-clause-turn
returns-in-Asked-clause-turn c = λ told.
    step_comes (objects_of c.args.codes.now) c.args.self.now c.requires.ready _ (stepped.Asked c.in-Asked.request) tt c.in-Asked.ensures.steps refl _ refl refl told

pub returns-in-Ended-clause-turn : goal.returns-in-Ended-clause-turn
returns-in-Ended-clause-turn c = λ told.
    step_comes (objects_of c.args.codes.now) c.args.self.now c.requires.ready _ stepped.Ended tt c.in-Ended.ensures.steps refl _ refl refl told

pub returns-in-Broken-clause-turn : goal.returns-in-Broken-clause-turn
returns-in-Broken-clause-turn c = λ told.
    step_comes (objects_of c.args.codes.now) c.args.self.now c.requires.ready _ (stepped.Broken c.in-Broken.text) tt c.in-Broken.ensures.steps refl _ refl refl told

pub returns-in-Fault-clause-turn : goal.returns-in-Fault-clause-turn
returns-in-Fault-clause-turn c = λ told.
    step_comes (objects_of c.args.codes.now) c.args.self.now c.requires.ready _ (stepped.Fault c.in-Fault.fault) tt c.in-Fault.ensures.steps refl
    (Over 0 (Faulted c.number.result c.args.self.now.process.frame.pc) ∷ [])
    (ap (λ n. Over 0 (Faulted n c.args.self.now.process.frame.pc) ∷ []) (sym c.number.ensures)) refl told

pub invariant_of-self : goal.invariant_of-self
invariant_of-self c =
    let r = c.args.self.now in
    let objects = objects_of c.args.codes.now in
    let m = c.step.new.memory in
    let p = c.step.new.process in
    record {
      exact =
          subst (λ d. IsExact m (view_doing d (view_process p))) (sym c.requires.ready)
          (steps_obey.exact frames_limit objects r.memory m r.process p stepped.Went (exact_before objects r c.requires.ready) c.in-Went.ensures.steps);
      given =
          subst (λ d. IsGiven (view_world m) (view_doing d (view_process p))) (sym c.requires.ready)
          (keeps_given.steps frames_limit objects r.memory m r.process p stepped.Went (given_before objects r c.requires.ready) c.in-Went.ensures.steps);
    }
