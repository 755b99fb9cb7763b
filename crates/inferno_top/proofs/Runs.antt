-- What a run of a program leaves, from what the run of its machine does.
use Rattle.std.proofs.Common.{◌≡◌, ◌≢◌, ℕ, List, [], ◌∷◌, map, Bool, true, false, Option, Some, None, ◌⊎◌, inl, inr, refl, subst, sym, ap}
use Rattle.std.proofs.Common.{◌∙◌, if◌then◌else◌}
use Rattle.std.specs.Prelude.{IsSome, nat_le, ◌&&◌}
use Rattle.inf_ports.specs.Outside.{Told, Rose}
use Rattle.dis_file.specs.declared.object.Object.{Object}
use Rattle.dis_format.specs.Objects.{Spells, written_form}
use Rattle.limbo_typed.specs.Typed.{Module}
use Rattle.dis_meaning.specs.Opening.{StringsSpell}
use Rattle.code_sim.specs.Keeps.{object_for}
use Rattle.dis_machine.specs.declared.event.Event.{Event}
use Rattle.dis_machine.specs.declared.event.Journal.{Journal}
use Rattle.dis_machine.specs.declared.end.End.{End}
use Rattle.dis_machine.specs.declared.end.End.TheVariants as end
use Rattle.dis_machine.specs.declared.machine.Machine.{Machine}
use Rattle.dis_machine.specs.Journal.{State, Fault, fault_in, quanta, or_else}
use Rattle.dis_machine.specs.Ends.{Breach, breaches, ended_in, any_live, faulted, over}
use Rattle.dis_machine.specs.Kept.{view_broken}
use Rattle.dis_machine.specs.Standing.{codes, objects}
use Rattle.machine_host.specs.declared.run.Ran.{Ran}
use Rattle.machine_host.specs.Leading.{Leads}
use Rattle.limbo_compiler.specs.Means.{Means}
use Rattle.limbo_compiler.proofs.Means.{journals_mean, none_fault}
use Rattle.inferno_top.specs.Outcome.{IsAccepted, IsRefusal, IsRunEnd, IsUnrun, HasRun, TellsProgram, is_run_out, lacks_memory}
use Rattle.inferno_top.specs.Running.{IsCompiled, IsOwnCause, IsOwnEnd, IsRun, IsStarted, NothingRan, Says}
use Rattle.inferno_command.specs.Base.{base_name}
use Rattle.inferno_command.specs.Words.{limit_of}
use Rattle.inferno_top.specs.declared.cause.Cause.{Cause}
use Rattle.inferno_top.specs.declared.cause.Cause.TheVariants.{Done, Broke, Usage, BadSource, Clashing, BadObject, Limit, Host, SinkFault}
use Rattle.inferno_top.specs.declared.cause.Cause.TheVariants.{NoMemory}
use Rattle.inferno_top.specs.declared.cause.Aim.TheVariants.{Run}
use Rattle.inferno_top.proofs.Programs.{part_of}

-- ---- how a run of a program ends

own_end : (limit n : ℕ) (t : State) (how : End) → fault_in t.trace ≡ None → (how ≡ end.NoMemory) ⊎ (ended_in limit n t ≡ Some how) →
    IsOwnEnd how
own_end limit n t how sound (inl e) = subst IsOwnEnd (sym e) tt
own_end limit n t how sound (inr e) = by_limit (nat_le limit n && any_live t.processes) e
  where
    by_over : (live : Bool) (bs : List Breach) → over live bs ≡ Some how → IsOwnEnd how
    by_over true bs e = absurd cc
    by_over false [] e = let same : end.Done ≡ how = cc in subst IsOwnEnd same tt
    by_over false (b ∷ bs) e = let same : end.Broke ≡ how = cc in subst IsOwnEnd same tt

    by_fault : (f : Option Fault) → f ≡ None → or_else (faulted f) (over (any_live t.processes) (breaches t.trace)) ≡ Some how → IsOwnEnd
        how
    by_fault None s e = by_over (any_live t.processes) (breaches t.trace) e
    by_fault (Some f) s e = absurd cc

    by_limit : (b : Bool) → or_else (if b then Some end.Limit else None) (or_else (faulted (fault_in t.trace)) (over (any_live
        t.processes) (breaches t.trace))) ≡ Some how → IsOwnEnd how
    by_limit true e = let same : end.Limit ≡ how = cc in subst IsOwnEnd same tt
    by_limit false e = by_fault (fault_in t.trace) sound e

-- ---- the run

-- what a machine of the program's object leads to is told of a run of the module, and ends as one may
pub record Led (limit : ℕ) (m : Module) (o : Object) (r : Ran) (old new : Option (List ℕ)) (faults_before faults_after : ℕ) : Type 0 where
  pub leads : Leads (object_for m ∷ []) limit r old new faults_before faults_after
  pub means : (c : IsCompiled m o) → Means m c.init r.journal.events leads.state
  pub own : IsOwnEnd r.end

pub led : (limit : ℕ) (m : Module) (o : Object) (r : Ran) (old new : Option (List ℕ)) (before after : ℕ) → IsCompiled m o → Leads (o ∷ [])
    limit r old new before after → Led limit m o r old new before after
led limit m o r old new before after c l =
    let there : Leads (object_for m ∷ []) limit r old new before after = subst (λ (x : Object). Leads (x ∷ []) limit r old new before
    after) c.made.same l in
    let reached = there.conversation.reached in
    let spell : StringsSpell (object_for m) = subst StringsSpell c.made.same c.made.spelled in
    record {
      leads = there;
      means = λ d. subst (λ (es : List Event). Means m d.init es there.state) (sym reached.all) (journals_mean m (part_of Run m c.made.has.part) c.made.has.within.frames
          spell d.init d.first d.enters reached.journal reached.cut there.state reached.reaches);
      own = own_end limit (quanta r.journal.events) there.state r.end (none_fault m (part_of Run m c.made.has.part) c.made.has.within.frames spell c.init c.first
          c.enters reached.journal reached.cut there.state reached.reaches) there.conversation.ended;
    }

pub started_codes : (limit : ℕ) (path : List ℕ) (o : Object) (machine : Machine) → IsStarted limit path o machine → codes machine ≡ o ∷ []
started_codes limit path o machine s = s.begun.codes ∙ ap (λ (x : Object). x ∷ []) s.same

pub run_as : (limit : ℕ) (path : List ℕ) (m : Module) (o : Object) (machine : Machine) (r : Ran) (cause : Cause) (old new : Option (List
    ℕ)) (before after : ℕ) →
    IsCompiled m o → IsStarted limit path o machine → Leads (codes machine) machine.limit r old new before after → r.objects.items ≡
    objects machine →
    ((t : State) → map view_broken r.broken.items ≡ breaches t.trace → Says limit t r.end cause) →
    IsRun limit path m (Some r.journal) r.objects.items old new before after cause
run_as limit path m o machine r cause old new before after c s l same says =
    let at : Leads (o ∷ []) limit r old new before after = subst (λ (n : ℕ). Leads (o ∷ []) n r old new before after) s.begun.same.1 (subst (λ
    (os : List Object). Leads os machine.limit r old new before after) (started_codes limit path o machine s) l) in
    let k = led limit m o r old new before after c at in (
      record {
        object = s.read;
        named = same ∙ s.begun.same.0;
        spelled = subst (λ (x : Object). Spells s.read (written_form x)) c.made.same s.spelled;
      },
      record {
        state = k.leads.state;
        how = r.end;
        conversation = k.leads.conversation;
        init = c.init;
        begins = c.begins;
        means = k.means c;
        says = says k.leads.state k.leads.broken;
      },
    )

pub own_of : (limit : ℕ) (path : List ℕ) (m : Module) (o : Object) (machine : Machine) (r : Ran) (old new : Option (List ℕ)) (before after
    : ℕ) →
    IsCompiled m o → IsStarted limit path o machine → Leads (codes machine) machine.limit r old new before after → IsOwnEnd r.end
own_of limit path m o machine r old new before after c s l =
    let at : Leads (o ∷ []) limit r old new before after = subst (λ (n : ℕ). Leads (o ∷ []) n r old new before after) s.begun.same.1 (subst (λ
    (os : List Object). Leads os machine.limit r old new before after) (started_codes limit path o machine s) l) in
    (led limit m o r old new before after c at).own

-- ---- the same run, told as another end

-- a run for so many quanta is one for as many as the words say, where those are as many
pub run_within : (limit quanta : ℕ) (path : List ℕ) (m : Module) (journal : Option Journal) (objects : List (List ℕ × Object))
    (old new : Option (List ℕ)) (before after : ℕ) (cause : Cause) → quanta ≡ limit
    → IsRun limit path m journal objects old new before after cause → IsRun quanta path m journal objects old new before after cause
run_within limit quanta path m journal objects old new before after cause same r =
    subst (λ (n : ℕ). IsRun n path m journal objects old new before after cause) (sym same) r

-- a write of output failed, and memory didn't run out
lasted : (limit : ℕ) (t : State) (how : End) (cause : Cause) → Says limit t how cause → lacks_memory cause ≡ false → how ≢ end.NoMemory
lasted limit t how Done says e = λ bad. let both : end.Done ≡ end.NoMemory = sym says ∙ bad in cc
lasted limit t how (Broke broken) says e = λ bad. let both : end.Broke ≡ end.NoMemory = sym says.0 ∙ bad in cc
lasted limit t how (Limit quanta) says e = λ bad. let both : end.Limit ≡ end.NoMemory = sym says.0 ∙ bad in cc
lasted limit t how (SinkFault out err) says e = says
lasted limit t how NoMemory says e = absurd cc
lasted limit t how Usage says e = absurd says
lasted limit t how (BadSource file fault) says e = absurd says
lasted limit t how (Clashing clash) says e = absurd says
lasted limit t how (BadObject file fault) says e = absurd says
lasted limit t how (Host path missing) says e = absurd says

module _ (limit : ℕ) (path : List ℕ) (m : Module) (objects : List (List ℕ × Object)) (old new : Option (List ℕ)) (before after : ℕ) where
  pub run_failed : (journal : Option Journal) (cause : Cause) (out err : ℕ) → IsRun limit path m journal objects old new before after
      cause → lacks_memory cause ≡ false → IsRun limit path m journal objects old new before after (SinkFault out err)
  run_failed None cause out err r e = absurd (let bad : true ≡ false = sym (ap lacks_memory r.1) ∙ e in cc)
  run_failed (Some journal) cause out err r e = (
    r.0,
    record {
      state = r.1.state;
      how = r.1.how;
      conversation = r.1.conversation;
      init = r.1.init;
      begins = r.1.begins;
      means = r.1.means;
      says = lasted limit r.1.state r.1.how cause r.1.says e;
    },
  )

  pub run_unsaid : (journal : Option Journal) (cause : Cause) → IsRun limit path m journal objects old new before after cause → IsRun
      limit path m journal objects old new before after NoMemory
  run_unsaid None cause r = (r.0, refl)
  run_unsaid (Some journal) cause r = (
    r.0,
    record {
      state = r.1.state;
      how = r.1.how;
      conversation = r.1.conversation;
      init = r.1.init;
      begins = r.1.begins;
      means = r.1.means;
      says = tt;
    },
  )

  run_starts : (journal : Option Journal) (cause : Cause) → IsRun limit path m journal objects old new before after cause → is_run_out
      cause ≡ true → IsSome journal
  run_starts None cause r out = absurd (let bad : false ≡ true = sym (ap is_run_out r.1) ∙ out in cc)
  run_starts (Some journal) cause r out = refl

  says_unrun : {A : Type 0} (t : State) (how : End) (cause : Cause) → Says limit t how cause → IsUnrun cause → A
  says_unrun t how Done says un = absurd un
  says_unrun t how (Broke broken) says un = absurd un
  says_unrun t how (Limit quanta) says un = absurd un
  says_unrun t how (SinkFault out err) says un = absurd un
  says_unrun t how NoMemory says un = absurd un
  says_unrun t how Usage says un = absurd says
  says_unrun t how (BadSource file fault) says un = absurd says
  says_unrun t how (Clashing clash) says un = absurd says
  says_unrun t how (BadObject file fault) says un = absurd says
  says_unrun t how (Host path missing) says un = absurd says

  run_not_unrun : {A : Type 0} (journal : Option Journal) (cause : Cause) → IsRun limit path m journal objects old new before after cause
      → IsUnrun cause → A
  run_not_unrun None cause r un = absurd (subst IsUnrun r.1 un)
  run_not_unrun (Some journal) cause r un = says_unrun r.1.state r.1.how cause r.1.says un

  nothing_run : (journal : Option Journal) (cause : Cause) → NothingRan journal objects old new → cause ≡ NoMemory → IsRun limit path m
      journal objects old new before after cause
  nothing_run None cause n e = (n, e)
  nothing_run (Some journal) cause n e = absurd cc

-- ---- how a run's cause ends it

pub end_of_run : (before after err : ℕ) (cause : Cause) → IsOwnCause cause → (Rose before after → ⊥) → (Rose err err → ⊥) → IsRunEnd
    before after err cause
end_of_run before after err Done own a b = (a, b)
end_of_run before after err (Broke broken) own a b = (a, b)
end_of_run before after err (Limit quanta) own a b = (a, b)
end_of_run before after err NoMemory own a b = tt
end_of_run before after err Usage own a b = absurd own
end_of_run before after err (BadSource file fault) own a b = absurd own
end_of_run before after err (Clashing clash) own a b = absurd own
end_of_run before after err (BadObject file fault) own a b = absurd own
end_of_run before after err (Host path missing) own a b = absurd own
end_of_run before after err (SinkFault o e) own a b = absurd own

pub lacking_end : (before after err : ℕ) (cause : Cause) → lacks_memory cause ≡ true → IsRunEnd before after err cause
lacking_end before after err NoMemory e = tt
lacking_end before after err Done e = absurd cc
lacking_end before after err (Broke broken) e = absurd cc
lacking_end before after err (Limit quanta) e = absurd cc
lacking_end before after err Usage e = absurd cc
lacking_end before after err (BadSource file fault) e = absurd cc
lacking_end before after err (Clashing clash) e = absurd cc
lacking_end before after err (BadObject file fault) e = absurd cc
lacking_end before after err (Host path missing) e = absurd cc
lacking_end before after err (SinkFault o f) e = absurd cc

-- ---- the whole command

module _ (words : List (List ℕ)) (told : Told) (journal : Option Journal) (objects : List (List ℕ × Object)) (old new : Option (List ℕ))
    (before after files_before files_after : ℕ) where
  -- a program was run, or nothing
  abbrev pub Happened : Cause → Type 0
  Happened cause = HasRun words told journal objects old new before after cause ⊎ (NothingRan journal objects old new × IsRefusal words
      told files_before files_after cause)

  pub closed_ran : (cause last : Cause) → Happened cause → (last ≡ cause) ⊎ (last ≡ NoMemory) → Happened last
  closed_ran cause last h (inl same) = subst Happened (sym same) h
  closed_ran cause last (inl run) (inr memory) =
      subst Happened (sym memory) (inl (record {
        file = run.file;
        program = run.program;
        accepted = run.accepted;
        run = run_unsaid
            (limit_of words) run.file run.program objects old new before after journal cause run.run;
      }))
  closed_ran cause last (inr none) (inr memory) = subst Happened (sym memory) (inr (none.0, tt))

  refused_out : {A : Type 0} (cause : Cause) → IsRefusal words told files_before files_after cause → is_run_out cause ≡ true → A
  refused_out Done is out = absurd is
  refused_out (Broke broken) is out = absurd is
  refused_out (Limit quanta) is out = absurd is
  refused_out (SinkFault o e) is out = absurd is
  refused_out NoMemory is out = absurd cc
  refused_out Usage is out = absurd cc
  refused_out (BadSource file fault) is out = absurd cc
  refused_out (Clashing clash) is out = absurd cc
  refused_out (BadObject file fault) is out = absurd is
  refused_out (Host path missing) is out = absurd cc

  pub started : (cause : Cause) → Happened cause → is_run_out cause ≡ true → IsSome journal
  started cause (inl run) out = run_starts (limit_of words) run.file run.program objects old new before after journal cause run.run out
  started cause (inr none) out = refused_out cause none.1 out

  pub quiet : (cause : Cause) → Happened cause → IsUnrun cause → NothingRan journal objects old new
  quiet cause (inl run) un = run_not_unrun (limit_of words) run.file run.program objects old new before after journal cause run.run un
  quiet cause (inr none) un = none.0

  pub told_ran : (cause : Cause) (m : Module) (t : TellsProgram Run words told m) → Happened cause →
      ((file : List ℕ) (n : Module) → IsAccepted words told file n → (file ≡ t.file) × (n ≡ m)) →
      (IsRefusal words told files_before files_after cause → cause ≡ NoMemory) →
      IsRun (limit_of words) t.file m journal objects old new before after cause
  told_ran cause m t (inl run) same calm =
      let both = same run.file run.program run.accepted in
      subst (λ (n : Module). IsRun (limit_of words) t.file n journal objects old new before after cause) both.1 (subst (λ (f : List ℕ).
      IsRun (limit_of words) f run.program journal objects old new before after cause) both.0 run.run)
  told_ran cause m t (inr none) same calm = nothing_run (limit_of words) t.file m objects old new before after journal cause none.0 (calm
      none.1)
