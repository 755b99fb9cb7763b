-- Journals of the machine are runs of the code, and those of the module.
use Rattle.std.proofs.Common.{◌≡◌, ℕ, ◌*◌, List, [], ◌∷◌, None, Some, refl, sym, ap, subst, ◌∙◌}
use Rattle.std.specs.Prelude.{map, slice_get}
use Rattle.process_model.specs.Naming.{Still}
use Rattle.process_model.specs.Passes.{through}
use Rattle.process_model.proofs.Totals.{fun_ext}
use Rattle.process_model.specs.Law.{EveryJournal}
use Rattle.process_runs.proofs.Composed.{journals_composed}
use Rattle.limbo_typed.specs.Typed as typed
use Rattle.system_model.specs.Limits.{frames_limit}
use Rattle.limbo_types.specs.Types.{Nothing}
use Rattle.limbo_meaning.specs.Values.{Ref}
use Rattle.limbo_meaning.specs.Program.{routine_of, program_of}
use Rattle.limbo_meaning.specs.Runs.{first_world, first_process, list_from}
use Rattle.core_code.specs.Code.{Function, Program}
use Rattle.core_code.specs.Machine as code
use Rattle.core_code.specs.Statements.{code_of, function_of}
use Rattle.core_follows.proofs.Modules.{modules_keep}
use Rattle.value_code.specs.Objects.{of_function}
use Rattle.value_code.proofs.Lists.{get_map}
use Rattle.value_entry.specs.Entry.{CanBegin, first_core}
use Rattle.value_entry.proofs.Entry.{entries_lead}
use Rattle.rows_calling.proofs.Sound.{sound_functions_begin}
use Rattle.value_follows.specs.Sides.{program}
use Rattle.rows_leading.proofs.Leading.{suiting_follow}
use Rattle.rows_leading.specs.Leading.{Suits}
use Rattle.value_sim.specs.Meaning.{over_values, over_words, SuitingMean, ModulesMean, CanOpen}

module _ (m : typed.Module) where
  maps : (fs : List typed.Function)
      → map (λ (f : typed.Function). function_of m.adts (routine_of f)) fs ≡ map (function_of m.adts) (map routine_of fs)
  maps [] = refl
  maps (f ∷ fs) = ap (λ (gs : List Function). function_of m.adts (routine_of f) ∷ gs) (maps fs)

  program_same : program m ≡ code_of (program_of m)
  program_same = ap (λ (fs : List Function). record { adts = m.adts; functions = fs }) (maps m.functions)

pub suiting_mean : SuitingMean
suiting_mean m suits k w x p q r ready ready_too worlds still =
    let first = modules_keep frames_limit m suits.sound suits.laid suits.part in
    let second = suiting_follow m suits in
    subst (λ (n : ℕ). EveryJournal (through (over_values m) (over_words m)) k w x p r n)
    (ap (λ (n : ℕ). n * second.follows.bound) first.pace ∙ ap (λ (n : ℕ). 3 * n) second.pace)
    (journals_composed (over_values m) (over_words m) first.follows second.follows (ap (code.rules frames_limit) (program_same m)) refl
    k w w x p q r ready ready_too refl worlds still)

begins_so : (m : typed.Module) → Suits m → CanOpen m → CanBegin m
begins_so m s c = record {
  sound = s.sound;
  adts = s.laid;
  written = s.written;
  spelled = c.spelled;
  short = c.short;
  once = c.once;
  ints = c.ints;
  begins = sound_functions_begin m s.sound s.laid s.few s.written s.part s.runs;
}

pub modules_mean : ModulesMean
modules_mean m suits opens init f first words strings =
    let entry = entries_lead m (begins_so m suits opens) init f first words strings in
    let keeps = modules_keep frames_limit m suits.sound suits.laid suits.part in
    let there = get_map routine_of m.functions init f first.there in
    let ready =
    keeps.begins 1 0 init (routine_of f) (of_function m f) Nothing (Ref None ∷ Ref (list_from 1 words) ∷ []) there
    (subst (λ (p : Program). slice_get p.functions init ≡ Some (of_function m f)) (program_same m)
    (get_map (λ (g : typed.Function). function_of m.adts (routine_of g)) m.functions init f first.there)) in
    let leads = entry.2 in
    let still =
    subst (λ (named : ℕ → ℕ). Still (over_values m).naming named (first_world m words))
    (sym (fun_ext (keeps.follows.heap.names (first_process m words (routine_of f)) (first_core m f words) ready)))
    (record { kept = leads.still.kept; none = leads.still.none }) in (
      entry.0,
      entry.1,
      λ longest journal t replays.
          let beside =
          suiting_mean m suits leads.known (first_world m words) entry.0.world (first_process m words (routine_of f)) (first_core m f words)
          entry.0.first ready (2, leads.way) leads.worlds still longest journal t replays in
          record {
            turns = beside.turns;
            config = beside.config;
            run = record { first = routine_of f; there = there; run = beside.run };
            makers = beside.makers;
            paced = beside.paced;
            known = beside.now;
            told = beside.trace;
          },
    )
