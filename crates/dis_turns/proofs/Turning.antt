-- Steps as turns of the whole.
use Rattle.std.proofs.Common.{◌≡◌, ℕ, List, [], ◌∷◌, ◌++◌, Some, sym, ap, ◌∙◌, arith, append-nil}
use Rattle.heap_model.specs.Heap.{stays, gone}
use Rattle.heap_cuts.proofs.Told.{stays_same}
use Rattle.process_model.specs.Process.{Doing, Ready, Asking, Gone, Went, Asks, Ends, Requested, Over, released}
use Rattle.process_model.specs.Naming.{total}
use Rattle.process_model.specs.Machine.{does, cut}
use Rattle.ref_heap.specs.Store.{AreHeld, outside}
use Rattle.dis_file.specs.declared.object.Object.{Object}
use Rattle.system_model.specs.Values.{Value}
use Rattle.system_model.specs.Ending.{Ending, Ended, Broken, Faulted}
use Rattle.system_model.specs.Prints.{Request}
use Rattle.system_model.specs.Trace.{Trace}
use Rattle.sys_print.specs.Printing.{view_request}
use Rattle.dis_meaning.specs.Process.{Process}
use Rattle.dis_memory.specs.Blocks.{World}
use Rattle.dis_memory.specs.Naming.{inside, naming, names}
use Rattle.dis_memory.specs.Process.{Does}
use Rattle.dis_memory.specs.Rules.{rules}
use Rattle.dis_memory.specs.Step.{step}
use Rattle.dis_counts.specs.Counts.{Machine}
use Rattle.dis_places.specs.declared.memory.Memory.{Memory}
use Rattle.dis_places.specs.declared.process.Process as code_process
use Rattle.dis_places.specs.View.{view_process, view_world}
use Rattle.dis_places.specs.Words.{number_of}
use Rattle.dis_stores.specs.Storing.{Settles}
use Rattle.dis_steps.specs.declared.outcome.Stepped.{Stepped}
use Rattle.dis_steps.specs.declared.outcome.Stepped.TheVariants as stepped
use Rattle.dis_steps.specs.Ending.{LetsGo}
use Rattle.dis_steps.specs.Stepping.{Steps}
use Rattle.dis_turns.specs.Turns.{alone, doing_after, IsExact, Obeys, HadMemory, StepsObey}

-- A world of which so much is named, cut.
abbrev pub trimmed : (d : Doing Process Value) → World → World
trimmed d x = record { heap = stays inside (total naming (d ∷ [])) x.heap; outside = x.outside }

-- It is the memory that stands as that world does, cut by what is held outside of blocks, where that is what the process refers to.
pub cut_world : (m' : Memory) (d : Doing Process Value) (x : World) → IsExact m' d → (view_world m').heap ≡ stays inside (outside m'.heap) x.heap →
    (view_world m').outside ≡ x.outside → trimmed d x ≡ view_world m'
cut_world m' d x exact heap outer =
    let same : (view_world m').heap ≡ stays inside (total naming (d ∷ [])) x.heap =
    heap ∙ stays_same inside (outside m'.heap) (total naming (d ∷ [])) x.heap (λ n. let e = exact n in omega (arith, e)) in
    ap (λ h. let w : World = record { heap = h; outside = x.outside } in w) (sym same)
    ∙ ap (λ o. let w : World = record { heap = (view_world m').heap; outside = o } in w) (sym outer)

module _ (limit : ℕ) (objects : List Object) (m : Memory) (p : code_process.Process) (told : Trace) where
  abbrev before : Machine
  before = alone (Ready (view_process p)) (view_world m) told

  -- The turn, by what the process does.
  abbrev after : Does → Machine
  after d = cut naming 0 (does (rules limit objects) before 0 d)

  abbrev went_from : World → Doing Process Value → List ℕ
  went_from x d = gone inside (total naming (d ∷ [])) x.heap

  turn_went : (m' : Memory) (q : Process) (x : World) (does : Does) → does ≡ Went x q → trimmed (Ready q) x ≡ view_world m' →
      after does ≡ alone (Ready q) (view_world m') (told ++ [] ++ released 0 (went_from x (Ready q)))
  turn_went m' q x does e w =
      ap after e
      ∙ ap (λ t. alone (Ready q) (trimmed (Ready q) x) (t ++ released 0 (went_from x (Ready q)))) (sym (append-nil told))
      ∙ ap (λ y. alone (Ready q) y (told ++ [] ++ released 0 (went_from x (Ready q)))) w

  turn_asks : (m' : Memory) (q : Process) (r : Request) (x : World) (does : Does) → does ≡ Asks x r q → trimmed (Asking q) x ≡ view_world m' →
      after does ≡ alone (Asking q) (view_world m') (told ++ Requested 0 r ∷ [] ++ released 0 (went_from x (Asking q)))
  turn_asks m' q r x does e w =
      ap after e ∙ ap (λ y. alone (Asking q) y (told ++ Requested 0 r ∷ [] ++ released 0 (went_from x (Asking q)))) w

  turn_ends : (m' : Memory) (how : Ending) (x : World) (does : Does) → does ≡ Ends x how → trimmed Gone x ≡ view_world m' →
      after does ≡ alone Gone (view_world m') (told ++ Over 0 how ∷ [] ++ released 0 (went_from x Gone))
  turn_ends m' how x does e w =
      ap after e ∙ ap (λ y. alone Gone y (told ++ Over 0 how ∷ [] ++ released 0 (went_from x Gone))) w

-- ---- counts

pub exact_held : (m : Memory) (p : code_process.Process) → IsExact m (Ready (view_process p)) → AreHeld m.heap (names (view_process p))
exact_held m p e = λ n. let a = e n in omega (arith, a)

pub goes_exact : (m m' : Memory) (p p' : code_process.Process) (x : World) → IsExact m (Ready (view_process p)) → Settles m p x m' p' →
    (n : ℕ) → outside m'.heap n ≡ names (view_process p') n
goes_exact m m' p p' x e s n = let a = e n in let b = s.held n in omega (arith, a, b)

pub ends_exact : (m m' : Memory) (p : code_process.Process) (x : World) → IsExact m (Ready (view_process p)) → LetsGo m p x m' →
    (n : ℕ) → outside m'.heap n ≡ 0
ends_exact m m' p x e l n = let a = e n in let b = l.held n in omega (arith, a, b)

exact : (limit : ℕ) (objects : List Object) (m m' : Memory) (p p' : code_process.Process) (s : Stepped) →
    IsExact m (Ready (view_process p)) → Steps m p s (step limit objects (view_world m) (view_process p)) m' p' →
    IsExact m' (doing_after s (view_process p'))
exact limit objects m m' p p' stepped.Went e s = goes_exact m m' p p' s.0 e s.2
exact limit objects m m' p p' (stepped.Asked r) e s = goes_exact m m' p p' s.0 e s.2
exact limit objects m m' p p' stepped.Ended e s = ends_exact m m' p s.0 e s.2
exact limit objects m m' p p' (stepped.Broken text) e s = ends_exact m m' p s.0 e s.2
exact limit objects m m' p p' (stepped.Fault f) e s = ends_exact m m' p s.0 e s.2
exact limit objects m m' p p' stepped.NoMemory e s = λ n.
    let a = e n in
    let b = s.held n in
    let d = ap (λ q. names q n) s.process.process in
    omega (arith, a, b, d)

obeys : (limit : ℕ) (objects : List Object) (m m' : Memory) (p p' : code_process.Process) (s : Stepped) → HadMemory s →
    IsExact m (Ready (view_process p)) → Steps m p s (step limit objects (view_world m) (view_process p)) m' p' →
    (told : Trace) → Obeys limit objects m p s m' p' told
obeys limit objects m m' p p' stepped.Went h e s told =
    let q = view_process p' in
    let x = s.0 in record {
      gone = gone inside (total naming (Ready q ∷ [])) x.heap;
      turn = ap Some (turn_went limit objects m p told m' q x _ s.1 (cut_world m' (Ready q) x (goes_exact m m' p p' x e s.2) s.2.heap s.2.outer));
    }
obeys limit objects m m' p p' (stepped.Asked r) h e s told =
    let q = view_process p' in
    let x = s.0 in record {
      gone = gone inside (total naming (Asking q ∷ [])) x.heap;
      turn = ap Some
          (turn_asks limit objects m p told m' q (view_request r) x _ s.1
          (cut_world m' (Asking q) x (goes_exact m m' p p' x e s.2) s.2.heap s.2.outer));
    }
obeys limit objects m m' p p' stepped.Ended h e s told =
    let x = s.0 in record {
      gone = gone inside (total naming (Gone ∷ [])) x.heap;
      turn = ap Some (turn_ends limit objects m p told m' Ended x _ s.1 (cut_world m' Gone x (ends_exact m m' p x e s.2) s.2.heap s.2.outer));
    }
obeys limit objects m m' p p' (stepped.Broken text) h e s told =
    let x = s.0 in record {
      gone = gone inside (total naming (Gone ∷ [])) x.heap;
      turn = ap Some
          (turn_ends limit objects m p told m' (Broken text) x _ s.1 (cut_world m' Gone x (ends_exact m m' p x e s.2) s.2.heap s.2.outer));
    }
obeys limit objects m m' p p' (stepped.Fault f) h e s told =
    let x = s.0 in record {
      gone = gone inside (total naming (Gone ∷ [])) x.heap;
      turn = ap Some
          (turn_ends limit objects m p told m' (Faulted (number_of f) p.frame.pc) x _ s.1
          (cut_world m' Gone x (ends_exact m m' p x e s.2) s.2.heap s.2.outer));
    }
obeys limit objects m m' p p' stepped.NoMemory h e s told = absurd h

pub steps_obey : StepsObey
steps_obey = record { held = exact_held; obeys = obeys; exact = exact }
