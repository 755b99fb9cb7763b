-- Whatever the code does next, the program does too.
use Rattle.std.proofs.Common.{◌≡◌, ℕ, zero, suc, ◌+◌, ◌-◌, ◌<◌, Bool, true, false, List, [], ◌∷◌, ◌++◌, length, Option, Some, None, refl}
use Rattle.std.proofs.Common.{sym, ap, ◌∙◌, subst, arith}
use Rattle.std.specs.Prelude.{slice_get, nat_lt, replicate, codes, if◌then◌else◌}
use Rattle.std.proofs.lemmas.Option.{none-some, same_Some}
use Rattle.styx_msg.specs.declared.message.Rmsg.{Rmsg}
use Rattle.process_model.specs.Process.{Rules, Went, Parks, Polls, Spawns, Asks, Ends}
use Rattle.process_model.specs.Alone.{Goes, here, on}
use Rattle.process_model.specs.Plain.{PlainSides, PlainComes, PlainMatches}
use Rattle.system_model.specs.Values.{Value, zero_value}
use Rattle.system_model.specs.Prints.{Request, Writing, Printing, Answers, Requests, NoReply, print}
use Rattle.system_model.specs.Ending.{Ending, Broken}
use Rattle.system_model.specs.Limits.{frames_limit}
use Rattle.typed_meaning.specs.Values.{number_of}
use Rattle.typed_meaning.specs.World.{World, with_outside}
use Rattle.typed_meaning.specs.Trees.{Block}
use Rattle.typed_meaning.specs.Program.{Routine}
use Rattle.typed_meaning.specs.Evaluation.{fill_block}
use Rattle.typed_meaning.specs.Process as source
use Rattle.typed_meaning.specs.Rules as source_rules
use Rattle.slot_code.specs.Code.{Spot, Variable, Global, Temporary, Argument, Inst, Function}
use Rattle.slot_code.specs.Machine as machine
use Rattle.slot_code.specs.Machine.{Frame, moved, stored}
use Rattle.slot_code.specs.Step as code_step
use Rattle.typed_lower.specs.Stands as stands
use Rattle.typed_lower.specs.Stands.{is_silent, run_to, beside, sourced, coded, sstep, obeys, Bursts, Quiet, Does, Stands, Going, Next}
use Rattle.typed_lower.specs.Stands.{Arrives, Waits, Hears}
use Rattle.typed_lower.specs.Stands.{Runs, FrameWaits, AllWait, Ready, Asking, Compiled, FewSilent, sides}

-- ---- places of code

silent_more : (n pc : ℕ) (code : List Inst) (i : Inst) → slice_get code pc ≡ Some i → is_silent i ≡ true
    → run_to n code (suc pc) ≡ suc (run_to n code pc)
silent_more n pc [] i e s = absurd (none-some i e)
silent_more n zero (j ∷ is) i e s = ap (λ b. if b then suc n else 0) (ap is_silent (same_Some j i e) ∙ s)
silent_more n (suc pc) (j ∷ is) i e s = silent_more (if is_silent j then suc n else 0) pc is i e s

pub silent_rises : (pc : ℕ) (code : List Inst) (i : Inst) → slice_get code pc ≡ Some i → is_silent i ≡ true
    → run_to 0 code pc < run_to 0 code (suc pc)
silent_rises pc code i e s = omega (arith, silent_more 0 pc code i e s)

-- ---- frames

pub same_function : (w : World) (g : Frame) (s : Spot) (v : Value) → (stored w g s v).frame.function ≡ g.function
same_function w g (Variable k x) v = refl
same_function w g (Global k x) v = refl
same_function w g (Temporary k n) v = refl
same_function w g (Argument k n) v = refl

pub same_world : (w : World) (g : Frame) (pc : ℕ) (s : Spot) (v : Value) → (stored w (moved g pc) s v).world ≡ (stored w g s v).world
same_world w g pc (Variable k x) v = refl
same_world w g pc (Global k x) v = refl
same_world w g pc (Temporary k n) v = refl
same_world w g pc (Argument k n) v = refl

pub same_frame : (w : World) (g : Frame) (pc : ℕ) (s : Spot) (v : Value)
    → (stored w (moved g pc) s v).frame ≡ moved (stored w g s v).frame pc
same_frame w g pc (Variable k x) v = refl
same_frame w g pc (Global k x) v = refl
same_frame w g pc (Temporary k n) v = refl
same_frame w g pc (Argument k n) v = refl

same_moved : (w : World) (g : Frame) (s : Spot) (v : Value) → moved (stored w g s v).frame g.pc ≡ (stored w g s v).frame
same_moved w g (Variable k x) v = refl
same_moved w g (Global k x) v = refl
same_moved w g (Temporary k n) v = refl
same_moved w g (Argument k n) v = refl

module _ (routines : List Routine) (functions : List Function) where
  abbrev both : PlainSides World World source.Process machine.Process Value Request Rmsg Ending
  both = sides routines functions

  abbrev its_rules : Rules World source.Process Value Request Rmsg Ending
  its_rules = source_rules.rules frames_limit routines

  abbrev Gone : ℕ → World → source.Process → World → source.Process → Type 0
  Gone k w p w' p' = Goes its_rules k w p w' p'

  as_many : (j k : ℕ) (w w1 : World) (p p1 : source.Process) → j ≡ k → Gone j w p w1 p1 → Gone k w p w1 p1
  as_many j k w w1 p p1 e g = subst (λ m. Gone m w p w1 p1) e g

  pub goes_then : (w w1 w2 : World) (p p1 p2 : source.Process) (j k : ℕ) → Gone j w p w1 p1 → Gone k w1 p1 w2 p2 → Gone (j + k) w p w2 p2
  goes_then w _ w2 p _ p2 _ k here h = as_many k (0 + k) w w2 p p2 (omega arith) h
  goes_then w w1 w2 p p1 p2 _ k (on {w1 = w'} {n = n} {p1 = p'} e g) h =
      as_many (suc (n + k)) (suc n + k) w w2 p p2 (omega arith) (on e (goes_then w' w1 w2 p' p1 p2 n k g h))

  abbrev pub code_place : Option Function → ℕ → ℕ
  code_place None pc = 0
  code_place (Some h) pc = run_to 0 h.code pc

  -- How many instructions that may stand for no step lie right before a process's place.
  abbrev pub place : machine.Process → ℕ
  place q = code_place (slice_get functions q.frame.function) q.frame.pc

  pub place_is : (q : machine.Process) (h : Function) → slice_get functions q.frame.function ≡ Some h → place q ≡ run_to 0 h.code q.frame.pc
  place_is q h e = ap (λ o. code_place o q.frame.pc) e

  -- ---- steps in front of what the program does

  abbrev Matched : ℕ → World → source.Process → machine.Does → Type 0
  Matched at w p e = PlainMatches both place at w p e

  comes_later : (k : ℕ) (w w1 : World) (p p1 : source.Process) (e : source.Does) → Gone k w p w1 p1 → PlainComes both w1 p1 e
      → PlainComes both w p e
  comes_later k w w1 p p1 e g c =
      record {
        steps = k + c.steps;
        world = c.world;
        before = c.before;
        goes = goes_then w w1 c.world p p1 c.before k c.steps g c.goes;
        does = c.does;
      }

  later : (k at : ℕ) (w w1 : World) (p p1 : source.Process) (e : machine.Does) → Gone k w p w1 p1 → (k ≡ 0 → ⊥) → Matched at w1 p1 e
      → Matched at w p e
  later k at w w1 p p1 (Went x q) g n m = record {
    steps = k + m.steps;
    world = m.world;
    after = m.after;
    goes = goes_then w w1 m.world p p1 m.after k m.steps g m.goes;
    related = m.related;
    worlds = m.worlds;
    pace = λ z. absurd (n (omega (arith, z)));
  }
  later k at w w1 p p1 (Parks x bs q) g n m = record {
    world = m.world;
    after = m.after;
    comes = comes_later k w w1 p p1 _ g m.comes;
    waits = m.waits;
    worlds = m.worlds;
  }
  later k at w w1 p p1 (Polls x bs q q') g n m = record {
    world = m.world;
    after = m.after;
    by_itself = m.by_itself;
    comes = comes_later k w w1 p p1 _ g m.comes;
    waits = m.waits;
    related = m.related;
    worlds = m.worlds;
  }
  later k at w w1 p p1 (Spawns x child q) g n m = record {
    world = m.world;
    own = m.own;
    after = m.after;
    comes = comes_later k w w1 p p1 _ g m.comes;
    related_child = m.related_child;
    related = m.related;
    worlds = m.worlds;
  }
  later k at w w1 p p1 (Asks x r q) g n m = record {
    world = m.world;
    after = m.after;
    comes = comes_later k w w1 p p1 _ g m.comes;
    related = m.related;
    worlds = m.worlds;
  }
  later k at w w1 p p1 (Ends x how) g n m =
      record { world = m.world; comes = comes_later k w w1 p p1 _ g m.comes; worlds = m.worlds }

  never_none : (k j : ℕ) → k + 1 + j ≡ zero → ⊥
  never_none k j z = omega (arith, z)

  one_zero : suc zero ≡ zero → ⊥
  one_zero e = omega (arith, e)

  quiet_first : (at : ℕ) (w w1 : World) (p p1 : source.Process) (e : machine.Does) → (its_rules).step w p ≡ Went w1 p1
      → Matched at w1 p1 e → Matched at w p e
  quiet_first at w w1 p p1 e s m = later 1 at w w1 p p1 e (on s here) one_zero m

  -- ---- frames that wait

  same_height : (fs : List source.Frame) (gs : List Frame) → AllWait routines functions fs gs → length fs ≡ length gs
  same_height [] [] h = refl
  same_height (f ∷ fs) (g ∷ gs) h = ap suc (same_height fs gs h.1)
  same_height [] (g ∷ gs) h = absurd h
  same_height (f ∷ fs) [] h = absurd h

  runs_as : (g g' : Frame) (h : Function) → slice_get functions g.function ≡ Some h → g'.function ≡ g.function
      → slice_get functions g'.function ≡ Some h
  runs_as g g' h e same = ap (slice_get functions) same ∙ e

  -- Two that go on where a value has come to its place.
  arrived : (at n j : ℕ) (w : World) (g : Frame) (s : Spot) (v : Value) (todo : Block) (h : Function) (fs : List source.Frame)
      (gs : List Frame) → slice_get functions g.function ≡ Some h → AllWait routines functions fs gs
      → Arrives routines functions h.code j w g s v todo → (j ≡ 0 → at < run_to 0 h.code g.pc)
      → Matched at w (sourced n (beside g todo) fs)
      (Went (stored w g s v).world (record { number = n; frame = moved (stored w g s v).frame g.pc; below = gs; printing = None }))
  arrived at n j w g s v todo h fs gs found below (stands.arrives _ _ _ _ _ _ after bursts st) pace =
      let frame = moved (stored w g s v).frame g.pc in
      let same : frame ≡ (stored w g s v).frame = same_moved w g s v in
      let runs : slice_get functions frame.function ≡ Some h = runs_as g frame h found (same_function w g s v) in
      record {
        steps = j;
        world = (stored w g s v).world;
        after = sourced n (beside (stored w g s v).frame after) fs;
        goes = bursts n fs;
        related = record {
          todo = after;
          same = ap (λ (f : Frame). sourced n (beside f after) fs) (sym same);
          runs = record { function = h; found = runs };
          stands = subst (λ (f : Frame). Stands routines functions h.code f after) (sym same) st;
          below = below;
        };
        worlds = refl;
        pace = λ z. subst (λ m. at < m) (sym (ap (λ o. code_place o frame.pc) runs)) (pace z);
      }

  -- The same whatever the place, where the program took a step before.
  abbrev Moved : World → source.Process → World → machine.Process → Type 0
  Moved w p x q = (k : ℕ) × (w' : World) × (p' : source.Process) × Gone k w p w' p' × Ready routines functions p' q × (w' ≡ x)

  arrives_at : (n j : ℕ) (w : World) (g : Frame) (s : Spot) (v : Value) (todo : Block) (h : Function) (fs : List source.Frame)
      (gs : List Frame) → slice_get functions g.function ≡ Some h → AllWait routines functions fs gs
      → Arrives routines functions h.code j w g s v todo
      → Moved w (sourced n (beside g todo) fs) (stored w g s v).world
      (record { number = n; frame = moved (stored w g s v).frame g.pc; below = gs; printing = None })
  arrives_at n j w g s v todo h fs gs found below (stands.arrives _ _ _ _ _ _ after bursts st) =
      let frame = moved (stored w g s v).frame g.pc in
      let same : frame ≡ (stored w g s v).frame = same_moved w g s v in (
        j,
        (stored w g s v).world,
        sourced n (beside (stored w g s v).frame after) fs,
        bursts n fs,
        record {
          todo = after;
          same = ap (λ (f : Frame). sourced n (beside f after) fs) (sym same);
          runs = record { function = h; found = runs_as g frame h found (same_function w g s v) };
          stands = subst (λ (f : Frame). Stands routines functions h.code f after) (sym same) st;
          below = below;
        },
        refl,
      )

  -- Where the program took some steps, and then came to where a value is at its place.
  arrived_later : (at k : ℕ) (w w1 : World) (p p1 : source.Process) (x : World) (q : machine.Process) → Gone (k + 1) w p w1 p1
      → Moved w1 p1 x q → Matched at w p (Went x q)
  arrived_later at k w w1 p p1 x q g m = record {
    steps = k + 1 + m.0;
    world = m.1;
    after = m.2;
    goes = goes_then w w1 m.1 p p1 m.2 (k + 1) m.0 g m.3;
    related = m.4;
    worlds = m.5;
    pace = λ z. absurd (never_none k m.0 z);
  }

  -- ---- what an instruction does

  module _ (same : (f : ℕ) → Compiled routines functions f) (h : Function) where
    abbrev C : List Inst
    C = h.code

    -- Two that stand still.
    still : (at k n : ℕ) (w : World) (g : Frame) (todo before : Block) (fs : List source.Frame) (q : machine.Process)
        → Gone k w (sourced n (beside g todo) fs) w (sourced n (beside g before) fs)
        → (its_rules).step w (sourced n (beside g before) fs) ≡ source.stands_still w (sourced n (beside g before) fs)
        → Matched at w (sourced n (beside g todo) fs) (machine.stands_still w q)
    still at k n w g todo before fs q gone does = record {
      world = w;
      after = sourced n (beside g before) fs;
      comes = record { steps = k; world = w; before = sourced n (beside g before) fs; goes = gone; does = does };
      waits = λ j a v w1 x e. absurd (none-some a e);
      worlds = refl;
    }

    framed_same : (g g' : Frame) (before waits : Block) → g'.instance ≡ g.instance → g'.variables ≡ g.variables
        → beside g' waits ≡ source.framed (beside g before) g.variables waits
    framed_same g g' before waits ei ev =
        ap (λ (i : ℕ). record { instance = i; variables = g'.variables; todo = waits }) ei
        ∙ ap (λ (vs : List Value). record { instance = g.instance; variables = vs; todo = waits }) ev

    one_more : (c : ℕ) → c + 1 ≡ zero → ⊥
    one_more c z = omega (arith, z)

    -- The frame of a call.
    abbrev entered_frame : (instance : ℕ) → (variables : ℕ) → List Value → Block → source.Frame
    entered_frame i c arguments todo =
        record { instance = i; variables = arguments ++ replicate (c - length arguments) zero_value; todo = todo }

    -- A call of a function that is there, whether there is room for one more frame or not.
    enters : (at k n : ℕ) (w : World) (g g' : Frame) (todo before waits : Block) (f : ℕ) (arguments : List Value) (fs : List source.Frame)
        (gs : List Frame) (p : Option Writing) (r : Routine) (m : Function) → AllWait routines functions fs gs
        → Gone k w (sourced n (beside g todo) fs) w (sourced n (beside g before) fs) → slice_get functions f ≡ Some m
        → r.variables ≡ length m.variables → Does routines functions m.code 0 r.body → FrameWaits routines functions (beside g' waits) g'
        → g'.instance ≡ g.instance → g'.variables ≡ g.variables → (b : Bool)
        → (its_rules).step w (sourced n (beside g before) fs)
        ≡ (if b
        then Went w (source.with_frames (sourced n (beside g before) fs) (source.frame_of g.instance r arguments)
        (source.framed (beside g before) g.variables waits ∷ fs)) else Ends w (Broken (codes "stack overflow")))
        → Matched at w (sourced n (beside g todo) fs)
        (if b then Went w (machine.with_frames (coded n g gs p) (machine.entered f g.instance m arguments) (g' ∷ gs))
        else Ends w (Broken (codes "stack overflow")))
    enters at k n w g g' todo before waits f arguments fs gs p r m below gone found variables does_body its ei ev true e = record {
      steps = k + 1;
      world = w;
      after = sourced n (source.frame_of g.instance r arguments) (source.framed (beside g before) g.variables waits ∷ fs);
      goes = goes_then w w w (sourced n (beside g todo) fs) (sourced n (beside g before) fs) _ k 1 gone (on e here);
      related = record {
        todo = r.body;
        same = ap (λ (c : ℕ). sourced n (entered_frame g.instance c arguments r.body)
            (source.framed (beside g before) g.variables waits ∷ fs)) variables;
        runs = record { function = m; found = found };
        stands = stands.outside _ r.body refl does_body;
        below = (
          subst (λ (x : source.Frame). FrameWaits routines functions x g') (framed_same g g' before waits ei ev) its,
          below,
        );
      };
      worlds = refl;
      pace = λ z. absurd (one_more k z);
    }
    enters at k n w g g' todo before waits f arguments fs gs p r m below gone found variables does_body its ei ev false e = record {
      world = w;
      comes = record { steps = k; world = w; before = sourced n (beside g before) fs; goes = gone; does = e };
      worlds = refl;
    }

    called : (at k n : ℕ) (w : World) (g g' : Frame) (todo before waits : Block) (f : ℕ) (arguments : List Value) (fs : List source.Frame)
        (gs : List Frame) (p : Option Writing) → AllWait routines functions fs gs
        → Gone k w (sourced n (beside g todo) fs) w (sourced n (beside g before) fs)
        → (its_rules).step w (sourced n (beside g before) fs)
        ≡ source.calls frames_limit w (sourced n (beside g before) fs) waits (slice_get routines f) arguments
        → FrameWaits routines functions (beside g' waits) g' → g'.instance ≡ g.instance → g'.variables ≡ g.variables
        → Compiled routines functions f
        → Matched at w (sourced n (beside g todo) fs)
        (machine.calls frames_limit w (coded n g gs p) g' f (slice_get functions f) arguments)
    called at k n w g g' todo before waits f arguments fs gs p below gone does its ei ev (stands.missing er em) =
        subst (λ o. Matched at w (sourced n (beside g todo) fs) (machine.calls frames_limit w (coded n g gs p) g' f o arguments)) (sym em)
        (still at k n w g todo before fs (coded n g gs p) gone
        (does ∙ ap (λ o. source.calls frames_limit w (sourced n (beside g before) fs) waits o arguments) er))
    called at k n w g g' todo before waits f arguments fs gs p below gone does its ei ev (stands.there r m er em variables d) =
        subst (λ o. Matched at w (sourced n (beside g todo) fs) (machine.calls frames_limit w (coded n g gs p) g' f o arguments)) (sym em)
        (subst (λ (c : ℕ). Matched at w (sourced n (beside g todo) fs) (if nat_lt (suc c) frames_limit
        then Went w (machine.with_frames (coded n g gs p) (machine.entered f g.instance m arguments) (g' ∷ gs))
        else Ends w (Broken (codes "stack overflow")))) (same_height fs gs below)
        (enters at k n w g g' todo before waits f arguments fs gs p r m below gone em variables d its ei ev
        (nat_lt (suc (length fs)) frames_limit)
        (does ∙ ap (λ o. source.calls frames_limit w (sourced n (beside g before) fs) waits o arguments) er)))

    -- ---- prints

    -- An answer that comes to its temporary.
    heard_arrives : (g : Frame) (todo : Block) → Hears routines functions C g todo → (w : World) (v : Value)
        → Arrives routines functions C 0 w g g.into (number_of g.answer v) (fill_block v todo)
    heard_arrives g todo (stands.hears _ _ k n into its) w v =
        subst (λ s. Arrives routines functions C 0 w g s (number_of g.answer v) (fill_block v todo)) (sym into)
        (stands.arrives 0 w g (Temporary k n) (number_of g.answer v) (fill_block v todo) (fill_block v todo) (λ m below. here) (its v))

    printed : (at k n : ℕ) (w : World) (g g' : Frame) (todo before todo' : Block) (fs : List source.Frame) (gs : List Frame)
        (p : Option Writing) (x : Printing) → slice_get functions g'.function ≡ Some h → AllWait routines functions fs gs
        → Gone k w (sourced n (beside g todo) fs) w (sourced n (beside g before) fs)
        → (its_rules).step w (sourced n (beside g before) fs) ≡ source.prints w (sourced n (beside g before) fs) todo' x
        → Hears routines functions C g' todo' → g'.instance ≡ g.instance → g'.variables ≡ g.variables
        → Matched at w (sourced n (beside g todo) fs) (machine.prints w (coded n g gs p) g' x)
    printed at k n w g g' todo before todo' fs gs p (Answers o v) found below gone does its ei ev =
        arrived_later at k w (with_outside w o) (sourced n (beside g todo) fs) (sourced n (beside g' (fill_block v todo')) fs) _ _
        (goes_then w w (with_outside w o) (sourced n (beside g todo) fs) (sourced n (beside g before) fs) _ k 1 gone
        (on (does ∙ ap (λ (f : source.Frame). Went (with_outside w o) (sourced n f fs))
        (sym (framed_same g g' before (fill_block v todo') ei ev))) here))
        (arrives_at n 0 (with_outside w o) g' g'.into (number_of g'.answer v) (fill_block v todo') h fs gs found
        below (heard_arrives g' todo' its (with_outside w o) v))
    printed at k n w g g' todo before todo' fs gs p (Requests o r c) found below gone does its ei ev = record {
      world = with_outside w o;
      after = record { number = n; frame = beside g' todo'; below = fs; printing = Some c };
      comes = record {
        steps = k;
        world = w;
        before = sourced n (beside g before) fs;
        goes = gone;
        does = does ∙ ap (λ (f : source.Frame). Asks (with_outside w o) r (record { number = n; frame = f; below = fs; printing = Some c }))
            (sym (framed_same g g' before todo' ei ev));
      };
      related = record {
        todo = todo';
        number = refl;
        frame = refl;
        printing = refl;
        runs = record { function = h; found = found };
        hears = its;
        below = below;
      };
      worlds = refl;
    }
    printed at k n w g g' todo before todo' fs gs p NoReply found below gone does its ei ev =
        still at k n w g todo before fs (coded n g gs p) gone does

    -- ---- returns

    returned : (at k n : ℕ) (w : World) (g : Frame) (todo before : Block) (v : Value) (fs : List source.Frame) (gs : List Frame)
        (p : Option Writing) → AllWait routines functions fs gs → Gone k w (sourced n (beside g todo) fs) w (sourced n (beside g before) fs)
        → (its_rules).step w (sourced n (beside g before) fs) ≡ source.returns w (sourced n (beside g before) fs) fs v
        → Matched at w (sourced n (beside g todo) fs) (machine.returns w (coded n g gs p) gs v)
    returned at k n w g todo before v [] [] p below gone does = record {
      world = w;
      comes = record { steps = k; world = w; before = sourced n (beside g before) []; goes = gone; does = does };
      worlds = refl;
    }
    returned at k n w g todo before v (f ∷ fs) (g' ∷ gs) p below gone does =
        back below.0
      where
        back : FrameWaits routines functions f g'
            → Matched at w (sourced n (beside g todo) (f ∷ fs)) (machine.returns w (coded n g (g' ∷ gs) p) (g' ∷ gs) v)
        back its = waiting its its.waits
          where
            waiting : (x : FrameWaits routines functions f g') → Waits routines functions x.runs.function.code g' x.todo
                → Matched at w (sourced n (beside g todo) (f ∷ fs)) (machine.returns w (coded n g (g' ∷ gs) p) (g' ∷ gs) v)
            waiting x (stands.waits _ _ count arrives) =
                arrived_later at k w w (sourced n (beside g todo) (f ∷ fs)) (sourced n (beside g' (fill_block v x.todo)) fs) _ _
                (goes_then w w w (sourced n (beside g todo) (f ∷ fs)) (sourced n (beside g before) (f ∷ fs)) _ k 1 gone
                (on (does ∙ ap (λ (y : source.Frame). Went w (sourced n (source.framed y y.variables (fill_block v y.todo)) fs)) x.same)
                here))
                (arrives_at n (count w v) w g' g'.into (number_of g'.answer v) (fill_block v x.todo) x.runs.function fs gs x.runs.found
                below.1
                (arrives w v))
    returned at k n w g todo before v [] (g' ∷ gs) p below gone does = absurd below
    returned at k n w g todo before v (f ∷ fs) [] p below gone does = absurd below

    -- ---- an instruction, in a world

    moved_on : (w : World) (g : Frame) (s : Spot) (v : Value) (n : ℕ) (gs : List Frame) (p : Option Writing)
        → machine.next w (coded n g gs p) s v ≡ Went (stored w (moved g (suc g.pc)) s v).world (record {
          number = n;
          frame = moved (stored w (moved g (suc g.pc)) s v).frame (suc g.pc);
          below = gs;
          printing = None;
        })
    moved_on w g s v n gs p =
        ap (λ x. Went x (record { number = n; frame = moved (stored w g s v).frame (suc g.pc); below = gs; printing = None }))
        (sym (same_world w g (suc g.pc) s v))
        ∙ ap (λ (f : Frame). Went (stored w (moved g (suc g.pc)) s v).world
        (record { number = n; frame = moved f (suc g.pc); below = gs; printing = None })) (sym (same_frame w g (suc g.pc) s v))

    rises_by : (k j pc : ℕ) (i : Inst) → slice_get C pc ≡ Some i → (k + j ≡ 0 → is_silent i ≡ true) → k + j ≡ 0
        → run_to 0 C pc < run_to 0 C (suc pc)
    rises_by k j pc i e silent z = silent_rises pc C i e (silent z)

    each_next : (n : ℕ) (w : World) (g : Frame) (todo : Block) (i : Inst) (fs : List source.Frame) (gs : List Frame) (p : Option Writing)
        → slice_get functions g.function ≡ Some h → slice_get C g.pc ≡ Some i → AllWait routines functions fs gs
        → Next routines functions C w g todo i
        → Matched (run_to 0 C g.pc) w (sourced n (beside g todo) fs) (obeys routines functions w (coded n g gs p) i)
    each_next n w g todo i fs gs p found there below
        (stands.stores _ _ _ before _ s v k j does bursts (stands.arrives _ _ _ _ _ _ after moves st) silent) =
        let g' = moved g (suc g.pc) in
        let frame = moved (stored w g' s v).frame g'.pc in
        let same_it : frame ≡ (stored w g' s v).frame = same_moved w g' s v in
        let runs : slice_get functions frame.function ≡ Some h = runs_as g' frame h found (same_function w g' s v) in
        subst (λ e. Matched (run_to 0 C g.pc) w (sourced n (beside g todo) fs) e) (sym (does n gs p ∙ moved_on w g s v n gs p)) (record {
          steps = k + j;
          world = (stored w g' s v).world;
          after = sourced n (beside (stored w g' s v).frame after) fs;
          goes = goes_then w w (stored w g' s v).world (sourced n (beside g todo) fs) (sourced n (beside g before) fs) _ k j (bursts n fs)
              (moves n fs);
          related = record {
            todo = after;
            same = ap (λ (f : Frame). sourced n (beside f after) fs) (sym same_it);
            runs = record { function = h; found = runs };
            stands = subst (λ (f : Frame). Stands routines functions C f after) (sym same_it) st;
            below = below;
          };
          worlds = refl;
          pace = λ z. subst (λ m. run_to 0 C g.pc < m) (sym (ap (λ o. code_place o frame.pc) runs)) (rises_by k j g.pc i there silent z);
        })
    each_next n w g todo i fs gs p found there below (stands.passes _ _ g' _ after _ k function does bursts rises st) =
        let runs : slice_get functions g'.function ≡ Some h = runs_as g g' h found function in
        subst (λ e. Matched (run_to 0 C g.pc) w (sourced n (beside g todo) fs) e) (sym (does n gs p)) (record {
          steps = k;
          world = w;
          after = sourced n (beside g' after) fs;
          goes = bursts n fs;
          related = record { todo = after; same = refl; runs = record { function = h; found = runs }; stands = st; below = below };
          worlds = refl;
          pace = λ z. subst (λ m. run_to 0 C g.pc < m) (sym (ap (λ o. code_place o g'.pc) runs)) (rises z);
        })
    each_next n w g todo i fs gs p found there below
        (stands.calls _ _ g' _ before waits _ k f arguments does bursts comes function ei ev its) =
        subst (λ e. Matched (run_to 0 C g.pc) w (sourced n (beside g todo) fs) e) (sym (does n gs p))
        (called (run_to 0 C g.pc) k n w g g' todo before waits f arguments fs gs p below (bursts n fs) (comes n fs)
        (record { todo = waits; same = refl; runs = record { function = h; found = runs_as g g' h found function }; waits = its }) ei ev
        (same f))
    each_next n w g todo i fs gs p found there below (stands.prints _ _ g' _ before waits _ k text does bursts comes function ei ev its) =
        subst (λ e. Matched (run_to 0 C g.pc) w (sourced n (beside g todo) fs) e) (sym (does n gs p))
        (printed (run_to 0 C g.pc) k n w g g' todo before waits fs gs p (print w.outside text) (runs_as g g' h found function) below
        (bursts n fs) (comes n fs) its ei ev)
    each_next n w g todo i fs gs p found there below (stands.answers _ _ _ before _ k v does bursts comes) =
        subst (λ e. Matched (run_to 0 C g.pc) w (sourced n (beside g todo) fs) e) (sym (does n gs p))
        (returned (run_to 0 C g.pc) k n w g todo before v fs gs p below (bursts n fs) (comes n fs))
    each_next n w g todo i fs gs p found there below (stands.raises _ _ _ before _ k text does bursts comes) =
        subst (λ e. Matched (run_to 0 C g.pc) w (sourced n (beside g todo) fs) e) (sym (does n gs p)) (record {
          world = w;
          comes = record { steps = k; world = w; before = sourced n (beside g before) fs; goes = bursts n fs; does = comes n fs };
          worlds = refl;
        })

    -- What the instruction at a frame's place does.
    abbrev At : World → machine.Process → machine.Does
    At w q = code_step.step frames_limit functions w q

    at_instruction : (n : ℕ) (w : World) (g : Frame) (i : Inst) (gs : List Frame) (p : Option Writing)
        → slice_get functions g.function ≡ Some h → slice_get C g.pc ≡ Some i
        → At w (coded n g gs p) ≡ obeys routines functions w (coded n g gs p) i
    at_instruction n w g i gs p found there =
        ap (λ o. code_step.work frames_limit functions w (coded n g gs p) (code_step.fetch o g.pc)) found
        ∙ ap (λ o. code_step.work frames_limit functions w (coded n g gs p) o) there

    pub each_going : (n : ℕ) (w : World) (g : Frame) (todo : Block) (fs : List source.Frame) (gs : List Frame) (p : Option Writing)
        → slice_get functions g.function ≡ Some h → AllWait routines functions fs gs → Going routines functions C g todo
        → Matched (run_to 0 C g.pc) w (sourced n (beside g todo) fs) (At w (coded n g gs p))
    each_going n w g todo fs gs p found below (stands.quietly _ _ todo' quiet x) =
        quiet_first (run_to 0 C g.pc) w w (sourced n (beside g todo) fs) (sourced n (beside g todo') fs) _ (quiet w n fs)
        (each_going n w g todo' fs gs p found below x)
    each_going n w g todo fs gs p found below (stands.instruction _ _ i there ways) =
        subst (λ e. Matched (run_to 0 C g.pc) w (sourced n (beside g todo) fs) e) (sym (at_instruction n w g i gs p found there))
        (each_next n w g todo i fs gs p found there below (ways w))

    -- Where the code is right behind a quiet step, or begins a statement.
    pub each_stands : ((g : Frame) (todo : Block) → g.made ≡ [] → Does routines functions C g.pc todo → Going routines functions C g todo)
        → (n : ℕ) (w : World) (g : Frame) (todo : Block) (fs : List source.Frame) (gs : List Frame) (p : Option Writing)
        → slice_get functions g.function ≡ Some h → AllWait routines functions fs gs → Stands routines functions C g todo
        → Matched (run_to 0 C g.pc) w (sourced n (beside g todo) fs) (At w (coded n g gs p))
    each_stands begins n w g todo fs gs p found below (stands.outside _ _ none d) =
        each_going n w g todo fs gs p found below (begins g todo none d)
    each_stands begins n w g todo fs gs p found below (stands.going _ _ x) = each_going n w g todo fs gs p found below x
    each_stands begins n w g todo fs gs p found below (stands.softly _ _ todo' quiet x) =
        quiet_first (run_to 0 C g.pc) w w (sourced n (beside g todo) fs) (sourced n (beside g todo') fs) _ (quiet w n fs)
        (each_stands begins n w g todo' fs gs p found below x)
