-- What a compiled program does on the machine with memory it does on the machine of numbers, so its module means it.
use Rattle.std.proofs.Common.{◌≡◌, ℕ, true, List, [], ◌∷◌, refl, sym, subst, ◌∙◌}
use Rattle.styx_msg.specs.declared.message.Rmsg.{Rmsg}
use Rattle.process_model.specs.Process.{Requested, Replied, Passed, Over, Released, Lost}
use Rattle.process_model.specs.Machine.{Event, replay}
use Rattle.process_model.specs.Plain.{no_names}
use Rattle.process_model.specs.Law.{begins_code}
use Rattle.system_model.specs.Ending.{Ended, Broken, Faulted}
use Rattle.system_model.specs.Limits.{frames_limit}
use Rattle.limbo_typed.specs.Typed.{Module}
use Rattle.typed_meaning.specs.Program.{Routine, routines_of}
use Rattle.typed_part.specs.Part.{is_part}
use Rattle.typed_lower.specs.Sizes.{FrameTooLarge}
use Rattle.dis_meaning.specs.Opening.{StringsSpell}
use Rattle.dis_meaning.specs.Words.{Found}
use Rattle.dis_meaning.specs.Rules as today_rules
use Rattle.dis_counts.specs.Opening.{Opened, opened}
use Rattle.dis_counts.specs.Counts.{Machine, CountsAreExact}
use Rattle.dis_counts.proofs.Exact.{counts_stay_exact}
use Rattle.dis_counts.proofs.Beginning.{begins_alike}
use Rattle.dis_agreement.specs.Runs.{NoFault, NeverFaults, ComesAlike}
use Rattle.dis_counts.specs.Told.{Trace, told}
use Rattle.dis_agreement.proofs.Openings.{programs_run_alike}
use Rattle.code_sim.specs.Keeps.{object_for, BeginsWith}
use Rattle.code_sim.specs.Begins.{begins_with}
use Rattle.code_sim.proofs.Together.{journals}
use Rattle.code_sim.proofs.Beginning.{begins}
use Rattle.memory_sim.proofs.Faultless.{matched_so}
use Rattle.memory_sim.specs.Keeps.{IsAfter, RunWithMemory, KeepsWithMemory}

-- Where no fault is told beside which blocks went, none is told.
none_behind : (es : Trace) → NoFault (told es) → NoFault es
none_behind [] h = tt
none_behind (Requested i m ∷ es) h = none_behind es h
none_behind (Replied i a ∷ es) h = none_behind es h
none_behind (Passed channel v i k j l ∷ es) h = none_behind es h
none_behind (Released i names ∷ es) h = none_behind es h
none_behind (Lost l ∷ es) h = none_behind es h
none_behind (Over i Ended ∷ es) h = none_behind es h
none_behind (Over i (Broken text) ∷ es) h = none_behind es h
none_behind (Over i (Faulted number pc) ∷ es) h = h

module _ (m : Module) (part : is_part m ≡ true) (small : FrameTooLarge m → ⊥) (spell : StringsSpell (object_for m)) where
  module _ (init : ℕ) (first : Routine) (so : BeginsWith m init first) where
    -- No journal of today's machine comes to a fault, as no run of the module tells of one.
    faultless : (longest : ℕ) → NeverFaults frames_limit longest (object_for m ∷ []) (begins_code (begins_with m).world (begins_with m).first)
    faultless longest journal u e =
        let run = journals m part init first so longest journal u e in
        subst (λ es. NoFault es) run.told (matched_so frames_limit (routines_of m) _ run.config run.turns run.run.run tt)

    module _ (n : Opened) (opens_so : opened (object_for m) ≡ Found n) (longest : ℕ) (journal : List (Event Rmsg)) (last : Machine)
        (after : IsAfter m n longest journal last) where
      alike : ComesAlike (replay (today_rules.rules frames_limit (object_for m ∷ [])) no_names longest
          (begins_code (begins_with m).world (begins_with m).first) journal) last
      alike =
          programs_run_alike frames_limit longest (object_for m) [] (begins_with m) n (begins m part small spell) opens_so
          (faultless longest) journal last after

      run_of : RunWithMemory m init journal last
      run_of =
          let run = journals m part init first so longest journal alike.after alike.is in
          record {
            turns = run.turns;
            config = run.config;
            run = run.run;
            makers = run.makers;
            paced = run.paced;
            told = run.told ∙ sym alike.agrees.trace;
          }

      none_faults : NoFault last.trace
      none_faults =
          none_behind last.trace
          (subst (λ es. NoFault es) (sym alike.agrees.trace) (faultless longest journal alike.after alike.is))

      exact : CountsAreExact last
      exact = counts_stay_exact frames_limit longest (object_for m) [] n opens_so journal last after 0 0 last refl

  keeps : KeepsWithMemory m
  keeps = record {
    begins = begins_alike (object_for m) (begins_with m) (begins m part small spell);
    journals = λ init first so n o longest journal last h. run_of init first so n o longest journal last h;
    never_faults = λ init first so n o longest journal last h. none_faults init first so n o longest journal last h;
    counts = λ init first so n o longest journal last h. exact init first so n o longest journal last h;
  }

pub memory_keeps_meaning : (m : Module) → is_part m ≡ true → (FrameTooLarge m → ⊥) → StringsSpell (object_for m) → KeepsWithMemory m
memory_keeps_meaning m part small spell = keeps m part small spell
