-- Both passes of the compiler together.
use Rattle.std.proofs.Common.{◌≡◌, ℕ, [], ◌∷◌, ◌*◌, true, List, map, Option, Some, None, refl, sym, ap, ◌∙◌, subst}
use Rattle.std.specs.Prelude.{slice_get}
use Rattle.std.specs.Option.{option_map}
use Rattle.std.proofs.lemmas.Option.{slice_get-map}
use Rattle.process_model.specs.Process as doing
use Rattle.process_model.specs.Process.{Doing, Ends}
use Rattle.process_model.specs.Follows.{StandsAlike}
use Rattle.process_model.specs.Law.{Paced}
use Rattle.process_model.specs.Passes.{unshared, FollowsWithin}
use Rattle.process_model.proofs.Journals.{every_journal}
use Rattle.process_model.proofs.NoHeap.{trace_equal}
use Rattle.process_model.proofs.Unshared.{plain_shared}
use Rattle.process_model.proofs.Passes.{passes_compose}
use Rattle.limbo_typed.specs.Typed as typed
use Rattle.limbo_typed.specs.Typed.{Module}
use Rattle.system_model.specs.Values.{Value}
use Rattle.system_model.specs.Ending.{Faulted}
use Rattle.system_model.specs.Limits.{frames_limit}
use Rattle.typed_meaning.specs.World as program
use Rattle.typed_meaning.specs.Program.{Routine, routine_of, routines_of}
use Rattle.typed_meaning.specs.Process as source
use Rattle.typed_meaning.specs.Runs.{first_world, first_process}
use Rattle.slot_code.specs.Code as slot
use Rattle.slot_code.specs.Code.{Function}
use Rattle.slot_code.specs.Machine as machine
use Rattle.slot_code.specs.Rules as slot_rules
use Rattle.typed_lower.specs.Statements.{function_code, functions_code, module_code}
use Rattle.typed_lower.specs.Stands as lower
use Rattle.typed_lower.proofs.Follows.{code_place}
use Rattle.typed_lower.proofs.Keeps as first_pass
use Rattle.typed_part.specs.Part.{is_part}
use Rattle.typed_part.proofs.Coded.{part_has_code}
use Rattle.part_code.proofs.Functions.{part_is_proper}
use Rattle.dis_meaning.specs.World.{World}
use Rattle.dis_meaning.specs.Process.{Process}
use Rattle.dis_meaning.specs.Step.{step}
use Rattle.dis_follows.specs.Start as start
use Rattle.dis_follows.specs.Start.{opening}
use Rattle.dis_follows.specs.Standing.{standing_at}
use Rattle.dis_follows.specs.Stands as upper
use Rattle.dis_follows.specs.Stands.{Known, Grows, Ready}
use Rattle.dis_follows.specs.Laws.{at_first}
use Rattle.dis_follows.proofs.Kept as second_pass
use Rattle.dis_follows.proofs.Under as second_under
use Rattle.code_sim.specs.Keeps.{object_for, sides, BeginsWith, Keeps, JournalsAreRuns, NeverFaults}
use Rattle.code_sim.proofs.Opening.{opens}

-- The code of the function that a module begins with.
there : (m : Module) (init : ℕ) (first : Routine) → slice_get (routines_of m) init ≡ Some first
    → (f : Function) × (slice_get (functions_code m) init ≡ Some f)
there m init first e = go (slice_get m.functions init) refl (sym (slice_get-map routine_of m.functions init) ∙ e)
  where
    go : (o : Option typed.Function) → slice_get m.functions init ≡ o → option_map routine_of (slice_get m.functions init) ≡ Some first
        → (f : Function) × (slice_get (functions_code m) init ≡ Some f)
    go None q h = let no : None ≡ Some first = sym (ap (option_map routine_of) q) ∙ h in absurd cc
    go (Some f) q h = (function_code f, slice_get-map function_code m.functions init ∙ ap (option_map function_code) q)

module _ (m : Module) (part : is_part m ≡ true) where
  abbrev code : slot.Module
  code = module_code m

  -- How far along the three-address code is, as a process of the object tells.
  abbrev along : Process → ℕ
  along r = code_place (routines_of m) (functions_code m) (slice_get (functions_code m) (standing_at code r).function) (standing_at code r).pc

  tells : (f : first_pass.FollowsBy m) (k : Known) (q : machine.Process) (r : Process) → Ready code k q r → along r ≡ f.follows.place q
  tells f k q r h =
      ap (λ (s : Rattle.dis_follows.specs.Standing.Standing). code_place (routines_of m) (functions_code m) (slice_get (functions_code m) s.function) s.pc)
      (second_under.tells code (part_is_proper m part) k q r h)
      ∙ sym (f.placed q)

  joined : FollowsWithin (unshared (lower.sides (routines_of m) (functions_code m))) (upper.sides code) 56
  joined =
      let f = first_pass.follows_by m (part_has_code m part) in
      let g = second_pass.keeps code (part_is_proper m part) in
      let first = lower.sides (routines_of m) (functions_code m) in
      let both = passes_compose (unshared first) (upper.sides code) (plain_shared first f.follows) g.follows
      (record { middle = refl; names = refl; under = along; tells = λ k i x q r h. tells f k q r h }) in
      record { follows = both.follows; pace = both.pace ∙ ap (λ b. b * g.follows.bound) f.pace ∙ ap (λ b. 7 * b) g.pace }

pub keeps : (m : Module) → is_part m ≡ true → Keeps m
keeps m part =
    let both = joined m part in
    let f = first_pass.keeps m (part_has_code m part) in
    let g = second_pass.keeps (module_code m) (part_is_proper m part) in
    record {
      follows = both.follows;
      pace = both.pace;
      begins = λ init first h.
          let c = there m init first h.there in
          (slot_rules.first_process init c.0, f.begins init first c.0 h.there c.1, g.begins init c.0 h.named c.1);
      begins_in = (first_world m, refl, g.begins_in (first_world m) (opens m));
    }

pub journals : (m : Module) → is_part m ≡ true → JournalsAreRuns m
journals m part init first h longest journal t e =
    let kept = keeps m part in
    let b = every_journal (sides m) kept.follows at_first (first_world m) (opening (module_code m)) (first_process first)
    (start.first_process (module_code m)) (kept.begins init first h) kept.begins_in (record { kept = refl; none = refl }) longest journal t e in
    record {
      turns = b.turns;
      config = b.config;
      run = record { first = first; there = h.there; run = b.run };
      makers = b.makers;
      paced = subst (λ bound. Paced bound (λ j. 0) b.turns) kept.pace b.paced;
      told = trace_equal Grows b.now b.config.trace t.trace b.trace;
    }

module _ (m : Module) (part : is_part m ≡ true) (k : Known) (j : ℕ) (w : program.World) (x y : World) (number pc : ℕ) (r : Process) where
  -- A process that stands for one of the module isn't at a wrong instruction.
  never_wrong : (o : Option (Doing source.Process Value)) → StandsAlike (sides m) k j x o (Some (doing.Ready r)) → (sides m).worlds k w x
      → step frames_limit (object_for m ∷ []) x r ≡ Ends y (Faulted number pc) → ⊥
  never_wrong (Some (doing.Ready p)) h e does =
      second_pass.never_faults (module_code m) (part_is_proper m part) k e.0 x y h.0 r number pc h.2 e.2 does
  never_wrong None h e does = h
  never_wrong (Some (doing.Waiting bs p)) h e does = h
  never_wrong (Some (doing.Asking p)) h e does = h
  never_wrong (Some doing.Gone) h e does = h

pub never_faults : (m : Module) → is_part m ≡ true → NeverFaults m
never_faults m part init first h longest journal t e j r at y number pc does =
    let kept = keeps m part in
    let b = every_journal (sides m) kept.follows at_first (first_world m) (opening (module_code m)) (first_process first)
    (start.first_process (module_code m)) (kept.begins init first h) kept.begins_in (record { kept = refl; none = refl }) longest journal t e in
    never_wrong m part b.now j b.config.world t.world y number pc r (slice_get b.config.processes j)
    (subst (λ o. StandsAlike (sides m) b.now j t.world (slice_get b.config.processes j) o) at (b.processes j)) b.worlds does
