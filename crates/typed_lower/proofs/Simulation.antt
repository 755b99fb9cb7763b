-- The code follows the program.
use Rattle.std.proofs.Common.{◌≡◌, ℕ, ◌<◌, List, Option, Some, None, refl, sym, ap, ◌∙◌, subst}
use Rattle.std.proofs.lemmas.Option.{none-some}
use Rattle.std.specs.Prelude.{slice_get}
use Rattle.styx_msg.specs.declared.message.Rmsg.{Rmsg}
use Rattle.process_model.specs.Plain.{PlainSides, PlainFollows, PlainMatches, PlainMatchesReply}
use Rattle.system_model.specs.Values.{Value}
use Rattle.system_model.specs.Prints.{Request, Writing, Printing, Answers, Requests, NoReply, hear}
use Rattle.system_model.specs.Ending.{Ending}
use Rattle.system_model.specs.Limits.{frames_limit}
use Rattle.typed_meaning.specs.Values.{number_of}
use Rattle.typed_meaning.specs.World.{World, with_outside}
use Rattle.typed_meaning.specs.Trees.{Block}
use Rattle.typed_meaning.specs.Program.{Routine}
use Rattle.typed_meaning.specs.Evaluation.{fill_block}
use Rattle.typed_meaning.specs.Process as source
use Rattle.typed_meaning.specs.Step as source_step
use Rattle.slot_code.specs.Code.{Function}
use Rattle.slot_code.specs.Machine as machine
use Rattle.slot_code.specs.Machine.{Frame, stored, goes_with, put}
use Rattle.slot_code.specs.Step as code_step
use Rattle.typed_lower.specs.Stands as stands
use Rattle.typed_lower.specs.Stands.{run_to, beside, sourced, coded, Hears, Runs, AllWait, Ready, Asking, Compiled, FewSilent, sides}
use Rattle.typed_lower.proofs.Follows.{place, place_is, each_stands}
use Rattle.typed_lower.proofs.Begun.{begins}

module _ (routines : List Routine) (functions : List Function) where
  abbrev both : PlainSides World World source.Process machine.Process Value Request Rmsg Ending
  both = sides routines functions

  abbrev Replied : source.Does → machine.Does → Type 0
  Replied e d = PlainMatchesReply both e d

  -- ---- steps

  pub each_by : (same : (f : ℕ) → Compiled routines functions f) (w : World) (p : source.Process) (q : machine.Process)
      → Ready routines functions p q
      → PlainMatches both (place routines functions) (place routines functions q) w p (code_step.step frames_limit functions w q)
  each_by same w p q r =
      let h = r.runs.function in
      let d = each_stands routines functions same h (λ g todo none d. begins routines functions h.code g.pc todo d g none refl) q.number w
      q.frame
      r.todo p.below q.below q.printing r.runs.found r.below r.stands in
      subst (λ (x : source.Process). PlainMatches both (place routines functions) (place routines functions q) w x
      (code_step.step frames_limit functions w q)) (sym r.same)
      (subst (λ (at : ℕ). PlainMatches both (place routines functions) at w (sourced q.number (beside q.frame r.todo) p.below)
      (code_step.step frames_limit functions w q)) (sym (place_is routines functions q h r.runs.found)) d)

  -- ---- replies

  abbrev asks : (number : ℕ) → source.Frame → List source.Frame → Option Writing → source.Process
  asks n f below p = record { number = n; frame = f; below = below; printing = p }

  as_asked : (p : source.Process) (n : ℕ) (f : source.Frame) (o : Option Writing) → p.number ≡ n → p.frame ≡ f → p.printing ≡ o
      → p ≡ asks n f p.below o
  as_asked p n f o a b c =
      ap (λ m. asks m p.frame p.below p.printing) a ∙ ap (λ g. asks n g p.below p.printing) b ∙ ap (λ x. asks n f p.below x) c

  -- What is heard comes to its temporary.
  comes : (w : World) (v : Value) (n : ℕ) (g : Frame) (fs : List source.Frame) (gs : List Frame) (p : Option Writing) (todo : Block)
      (h : Function) → slice_get functions g.function ≡ Some h → Hears routines functions h.code g todo → AllWait routines functions fs gs
      → Replied (source.goes w (asks n (beside g todo) fs p) (fill_block v todo))
      (goes_with (coded n g gs p) gs g.pc (stored w g g.into (number_of g.answer v)))
  comes w v n g fs gs p todo h found (stands.hears _ _ k m into its) below =
      subst (λ s. Replied (source.goes w (asks n (beside g todo) fs p) (fill_block v todo))
      (goes_with (coded n g gs p) gs g.pc (stored w g s (number_of g.answer v)))) (sym into) (record {
        world = w;
        after = sourced n (beside g (fill_block v todo)) fs;
        does = refl;
        related = record {
          todo = fill_block v todo;
          same = refl;
          runs = record { function = h; found = found };
          stands = its v;
          below = below;
        };
        worlds = refl;
      })

  heard_by : (x : Printing) (w : World) (n : ℕ) (g : Frame) (fs : List source.Frame) (gs : List Frame) (p : Option Writing) (todo : Block)
      (h : Function) → slice_get functions g.function ≡ Some h → Hears routines functions h.code g todo → AllWait routines functions fs gs
      → Replied (source.hears w (asks n (beside g todo) fs p) x) (machine.prints w (coded n g gs p) g x)
  heard_by (Answers o v) w n g fs gs p todo h found its below = comes (with_outside w o) v n g fs gs p todo h found its below
  heard_by (Requests o m k) w n g fs gs p todo h found its below = record {
    world = with_outside w o;
    after = asks n (beside g todo) fs (Some k);
    does = refl;
    related = record {
      todo = todo;
      number = refl;
      frame = refl;
      printing = refl;
      runs = record { function = h; found = found };
      hears = its;
      below = below;
    };
    worlds = refl;
  }
  heard_by NoReply w n g fs gs p todo h found its below = tt

  answered_by : (a : Rmsg) (w : World) (n : ℕ) (g : Frame) (fs : List source.Frame) (gs : List Frame) (p : Option Writing) (todo : Block)
      (h : Function) → slice_get functions g.function ≡ Some h → Hears routines functions h.code g todo → AllWait routines functions fs gs
      → Replied (source_step.answer a w (asks n (beside g todo) fs p)) (code_step.answer a w (coded n g gs p))
  answered_by a w n g fs gs None todo h found its below = tt
  answered_by a w n g fs gs (Some k) todo h found its below = heard_by (hear a w.outside k) w n g fs gs (Some k) todo h found its below

  pub answers_by : (a : Rmsg) (w : World) (p : source.Process) (q : machine.Process) → Asking routines functions p q
      → Replied (source_step.answer a w p) (code_step.answer a w q)
  answers_by a w p q k =
      subst (λ (x : source.Process). Replied (source_step.answer a w x) (code_step.answer a w q))
      (sym (as_asked p q.number (beside q.frame k.todo) q.printing k.number k.frame k.printing))
      (answered_by a w q.number q.frame p.below q.below q.printing k.todo k.runs.function k.runs.found k.hears k.below)

  -- ---- the simulation

  unfoldable pub follows : ((f : ℕ) → Compiled routines functions f) → (bound : ℕ) → 0 < bound → FewSilent functions bound
      → PlainFollows both
  follows same bound some few = record {
    place = place routines functions;
    bound = bound;
    some = some;
    within = λ p q r. subst (λ n. n < bound) (sym (place_is routines functions q r.runs.function r.runs.found))
        (few q.frame.function r.runs.function r.runs.found q.frame.pc);
    each = λ w x p q r e. subst (λ y. PlainMatches both (place routines functions) (place routines functions q) w p
        (code_step.step frames_limit functions y q)) e (each_by same w p q r);
    answers = λ a w x p q k e. subst (λ y. Replied (source_step.answer a w p) (code_step.answer a y q)) e (answers_by a w p q k);
    downs = λ l w x x' e f. absurd (none-some x' f);
  }
