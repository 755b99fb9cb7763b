-- Replies as events of the whole.
use Rattle.std.proofs.Common.{◌≡◌, ℕ, List, [], ◌∷◌, ◌++◌, Option, Some, None, sym, ap, ◌∙◌, subst}
use Rattle.styx_msg.specs.declared.message.Rmsg.{Rmsg}
use Rattle.heap_model.specs.Heap.{gone}
use Rattle.process_model.specs.Process.{Doing, Ready, Asking, Gone, Went, Parks, Asks, Ends, Requested, Replied, Over, released}
use Rattle.process_model.specs.Naming.{total}
use Rattle.process_model.specs.Machine.{answered, cut}
use Rattle.dis_file.specs.declared.object.Object.{Object}
use Rattle.system_model.specs.Values.{Value}
use Rattle.system_model.specs.Ending.{Ending, Faulted}
use Rattle.system_model.specs.Prints.{Request}
use Rattle.system_model.specs.Trace.{Trace}
use Rattle.sys_print.specs.Printing.{view_request}
use Rattle.dis_meaning.specs.Process.{Process}
use Rattle.dis_memory.specs.Blocks.{World}
use Rattle.dis_memory.specs.Control.{answer}
use Rattle.dis_memory.specs.Naming.{inside, naming}
use Rattle.dis_memory.specs.Process.{Does}
use Rattle.dis_counts.specs.Counts.{Machine}
use Rattle.dis_places.specs.declared.memory.Memory.{Memory}
use Rattle.dis_places.specs.declared.process.Process as code_process
use Rattle.dis_places.specs.View.{view_process, view_world}
use Rattle.dis_places.specs.Words.{number_of}
use Rattle.dis_prints.specs.declared.heard.Heard.{Heard}
use Rattle.dis_prints.specs.declared.heard.Heard.TheVariants as heard
use Rattle.dis_steps.specs.Hearing.{Replies}
use Rattle.dis_turns.specs.Turns.{alone, IsExact}
use Rattle.dis_turns.specs.Replies.{doing_heard, IsRefused, ObeysReply, RepliesObey, WasTaken}
use Rattle.dis_turns.proofs.Turning.{cut_world, ends_exact, exact_held, goes_exact, trimmed}

module _ (limit : ℕ) (objects : List Object) (a : Rmsg) (m : Memory) (p : code_process.Process) (told : Trace) where
  abbrev before : Machine
  before = alone (Asking (view_process p)) (view_world m) told

  -- The event, by what the reply does.
  abbrev after : Does → Option Machine
  after d = elim (answered before 0 a d) [
    | None ↦ None
    | Some t ↦ Some (cut naming 0 t)
  ]

  abbrev went_from : World → Doing Process Value → List ℕ
  went_from x d = gone inside (total naming (d ∷ [])) x.heap

  event_went : (m' : Memory) (q : Process) (x : World) (does : Does) → does ≡ Went x q → trimmed (Ready q) x ≡ view_world m' →
      after does ≡ Some (alone (Ready q) (view_world m') (told ++ Replied 0 a ∷ [] ++ released 0 (went_from x (Ready q))))
  event_went m' q x does e w =
      ap after e ∙ ap (λ y. Some (alone (Ready q) y (told ++ Replied 0 a ∷ [] ++ released 0 (went_from x (Ready q))))) w

  event_asks : (m' : Memory) (q : Process) (r : Request) (x : World) (does : Does) → does ≡ Asks x r q →
      trimmed (Asking q) x ≡ view_world m' →
      after does
      ≡ Some (alone (Asking q) (view_world m') (told ++ Replied 0 a ∷ Requested 0 r ∷ [] ++ released 0 (went_from x (Asking q))))
  event_asks m' q r x does e w =
      ap after e
      ∙ ap (λ y. Some (alone (Asking q) y (told ++ Replied 0 a ∷ Requested 0 r ∷ [] ++ released 0 (went_from x (Asking q))))) w

  event_ends : (m' : Memory) (how : Ending) (x : World) (does : Does) → does ≡ Ends x how → trimmed Gone x ≡ view_world m' →
      after does ≡ Some (alone Gone (view_world m') (told ++ Replied 0 a ∷ Over 0 how ∷ [] ++ released 0 (went_from x Gone)))
  event_ends m' how x does e w =
      ap after e ∙ ap (λ y. Some (alone Gone y (told ++ Replied 0 a ∷ Over 0 how ∷ [] ++ released 0 (went_from x Gone)))) w

  event_refused : (does : Does) → does ≡ Parks (view_world m) [] (view_process p) → after does ≡ None
  event_refused does e = ap after e

-- ---- counts

same_exact : (m m' : Memory) (p p' : code_process.Process) → (m' ≡ m) × (p' ≡ p) → IsExact m (Asking (view_process p)) →
    IsExact m' (Asking (view_process p'))
same_exact m m' p p' s e =
    let By : Memory → Type 0 = λ m. IsExact m (Asking (view_process p')) in
    let Of : code_process.Process → Type 0 = λ p. IsExact m (Asking (view_process p)) in
    subst By (sym s.0) (subst Of (sym s.1) e)

exact : (a : Rmsg) (m m' : Memory) (p p' : code_process.Process) (h : Heard) → IsExact m (Asking (view_process p)) →
    Replies m p h (answer a (view_world m) (view_process p)) m' p' → IsExact m' (doing_heard h (view_process p'))
exact a m m' p p' heard.Went e s = goes_exact m m' p p' s.0 e s.2
exact a m m' p p' (heard.Asked r) e s = goes_exact m m' p p' s.0 e s.2
exact a m m' p p' (heard.Fault f) e s = ends_exact m m' p (view_world m) e s.1
exact a m m' p p' heard.Refused e s = same_exact m m' p p' (s.1, s.2) e
exact a m m' p p' heard.NoMemory e s = same_exact m m' p p' s e

obeys : (limit : ℕ) (objects : List Object) (a : Rmsg) (m m' : Memory) (p p' : code_process.Process) (h : Heard) → WasTaken h →
    IsExact m (Asking (view_process p)) → Replies m p h (answer a (view_world m) (view_process p)) m' p' →
    (told : Trace) → ObeysReply limit objects a m p h m' p' told
obeys limit objects a m m' p p' heard.Went h e s told =
    let q = view_process p' in
    let x = s.0 in record {
      gone = gone inside (total naming (Ready q ∷ [])) x.heap;
      event = event_went limit objects a m p told m' q x _ s.1 (cut_world m' (Ready q) x (goes_exact m m' p p' x e s.2) s.2.heap s.2.outer);
    }
obeys limit objects a m m' p p' (heard.Asked r) h e s told =
    let q = view_process p' in
    let x = s.0 in record {
      gone = gone inside (total naming (Asking q ∷ [])) x.heap;
      event = event_asks limit objects a m p told m' q (view_request r) x _ s.1
          (cut_world m' (Asking q) x (goes_exact m m' p p' x e s.2) s.2.heap s.2.outer);
    }
obeys limit objects a m m' p p' (heard.Fault f) h e s told =
    let x = view_world m in record {
      gone = gone inside (total naming (Gone ∷ [])) x.heap;
      event = event_ends limit objects a m p told m' (Faulted (number_of f) p.frame.pc) x _ s.0
          (cut_world m' Gone x (ends_exact m m' p x e s.1) s.1.heap s.1.outer);
    }
obeys limit objects a m m' p p' heard.Refused h e s told = absurd h
obeys limit objects a m m' p p' heard.NoMemory h e s told = absurd h

refused : (limit : ℕ) (objects : List Object) (a : Rmsg) (m m' : Memory) (p p' : code_process.Process) →
    Replies m p heard.Refused (answer a (view_world m) (view_process p)) m' p' → (told : Trace) → IsRefused limit objects a m p told
refused limit objects a m m' p p' s told = event_refused limit objects a m p told _ s.0

pub replies_obey : RepliesObey
replies_obey = record { held = exact_held; obeys = obeys; refused = refused; exact = exact }
