-- Where a process goes on: at another place of its code, with other numbers.
use Rattle.std.proofs.Common.{◌≡◌, ℕ, zero, suc, ◌+◌, ◌<◌, pos, List, [], ◌∷◌, length, Some, None, refl, sym, ap, ◌∙◌, subst, arith}
use Rattle.std.specs.Prelude.{slice_get}
use Rattle.process_model.specs.Process.{Effect, Went}
use Rattle.process_model.specs.Alone.{no_loss, one_loss, Comes}
use Rattle.process_model.specs.Plain.{no_names}
use Rattle.process_model.proofs.Quiet.{quiets_none}
use Rattle.process_model.specs.Follows.{Moves}
use Rattle.system_model.specs.Values.{Value}
use Rattle.system_model.specs.Prints.{Request}
use Rattle.system_model.specs.Ending.{Ending}
use Rattle.system_model.specs.Limits.{frames_limit}
use Rattle.typed_meaning.specs.World as program
use Rattle.slot_code.specs.Code.{Inst, Function, Module}
use Rattle.slot_code.specs.Machine as machine
use Rattle.slot_code.specs.Step as slot_step
use Rattle.slot_code.specs.Rules as slot_rules
use Rattle.dis_meaning.specs.Words.{InFrame, Word, Address}
use Rattle.dis_meaning.specs.World.{World}
use Rattle.dis_meaning.specs.Process.{Frame, Process}
use Rattle.dis_objects.specs.Frames.{Callee, passing_place}
use Rattle.dis_objects.specs.Code.{place}
use Rattle.dis_objects.specs.Objects.{context}
use Rattle.dis_objects.specs.Proper.{GoesOn}
use Rattle.dis_follows.specs.Stands.{Known, Grows, HasNumbers, StackStands, Running, Ready, WorldStands, sides}
use Rattle.dis_follows.proofs.Runs.{as_known}

-- The frames below are below any frame with the same serial and the same place for its answer.
pub stack_same : (m : Module) (f : Function) (r r' : Frame) (gs : List machine.Frame) (rs : List Frame) → r'.serial ≡ r.serial
    → slice_get r'.words 4 ≡ slice_get r.words 4 → StackStands m f r gs rs → StackStands m f r' gs rs
stack_same m f r r' [] [] es e h = e ∙ h ∙ ap (λ s. Some (Address (InFrame s) (pos passing_place))) (sym es)
stack_same m f r r' (g ∷ gs) (s ∷ rs) es e h = (h.0, e ∙ h.1, h.2, subst (λ n. s.serial < n) (sym es) h.3, h.4)
stack_same m f r r' [] (s ∷ rs) es e h = absurd h
stack_same m f r r' (g ∷ gs) [] es e h = absurd h

-- An instruction is there.
pub there : (is : List Inst) (pc : ℕ) → pc < length is → (i : Inst) × (slice_get is pc ≡ Some i)
there [] pc l = absurd (omega (arith, l))
there (i ∷ is) zero l = (i, refl)
there (i ∷ is) (suc pc) l = there is pc (omega (arith, l))

module _ (m : Module) (k : Known) (p : machine.Process) (r : Process) (offset : ℕ) (made : List Frame)
    (h : Running m k p r offset made) where
  -- The same process of the other code, with this frame at a place, and that of the machine with these words.
  abbrev pub at_slot : machine.Frame → (pc : ℕ) → machine.Process
  at_slot g pc = machine.with_frames p (machine.moved g pc) p.below

  abbrev pub at_word : List Word → (pc : ℕ) → Process
  at_word words pc = record {
    number = r.number;
    frame = record { serial = r.frame.serial; instance = r.frame.instance; pc = pc; words = words };
    below = r.below;
    made = r.made;
    printing = None;
  }

  pub advanced : (g : machine.Frame) (words : List Word) (pc offset' : ℕ) (cs : List Callee) → g.function ≡ p.frame.function
      → g.instance ≡ p.frame.instance
      → GoesOn m h.frame.function cs pc → HasNumbers m h.frame.function cs g words → slice_get words 4 ≡ slice_get r.frame.words 4
      → Running m k (at_slot g pc) (at_word words (offset' + place (context m p.frame.function h.frame.function) pc)) offset' made
  advanced g words pc offset' cs ef ei on has linkage =
      let i = there h.frame.function.code pc on.within in
      record {
        loaded = h.loaded;
        number = h.number;
        frame = record {
          function = h.frame.function;
          found = ap (slice_get m.functions) ef ∙ h.frame.found;
          inst = i.0;
          there = i.1;
          here = ap (λ n. offset' + place (context m n h.frame.function) pc) (sym ef);
          instance = h.frame.instance;
          first = ei ∙ h.frame.first;
          has = subst (λ cs. HasNumbers m h.frame.function cs (machine.moved g pc) words) (sym on.made)
              (record {
                long = has.long;
                plain = has.plain;
                many = has.many;
                variables = has.variables;
                temporaries = has.temporaries;
                made = has.made;
              });
        };
        stack = stack_same m h.frame.function r.frame _ p.below r.below refl linkage h.stack;
        frames = h.frames;
        fresh = h.fresh;
      }

-- ---- who moves

module _ (m : Module) (place_of : Process → ℕ) (k : Known) (i : ℕ) (x0 : World) (w : program.World) (p : machine.Process) (at : ℕ) where
  -- The other code stands still, and the place rises.
  pub rests : (now : Known) (x : World) (r : Process) → Grows k now → Ready m now p r → WorldStands m now w x → at < place_of r
      → Moves (sides m) place_of at k i w x0 p x r
  rests now x r g h ws lt = record {
    now = now;
    changes = g;
    steps = 0;
    world = w;
    after = p;
    burst = no_loss (quiets_none (slot_rules.rules frames_limit m.functions) no_names w p);
    related = h;
    worlds = ws;
    pace = λ e. lt;
  }

  -- What it does at once.
  pub at_once : (e : Effect program.World machine.Process Value Request Ending) → slot_step.step frames_limit m.functions w p ≡ e
      → Comes (slot_rules.rules frames_limit m.functions) no_names w p e
  at_once e st = record {
    steps = 0;
    world = w;
    before = p;
    quiets = quiets_none (slot_rules.rules frames_limit m.functions) no_names w p;
    does = st;
  }

  -- It makes one step.
  pub steps_once : (w' : program.World) (p' : machine.Process) (x : World) (r : Process)
      → slot_step.step frames_limit m.functions w p ≡ Went w' p'
      → Ready m k p' r → WorldStands m k w' x → Moves (sides m) place_of at k i w x0 p x r
  steps_once w' p' x r st h ws = record {
    now = k;
    changes = as_known k;
    steps = 1;
    world = w';
    after = p';
    burst = one_loss (quiets_none (slot_rules.rules frames_limit m.functions) no_names w p) st;
    related = h;
    worlds = ws;
    pace = λ e. absurd cc;
  }
