-- When a process of the code stands for one of the program. Its frames have the same variables; what is left to do in the program is what
-- the code does from its place on, whatever the world then is.
use Rattle.std.specs.Prelude.{ℕ, suc, ◌+◌, ◌≡◌, ◌<◌, zero, if◌then◌else◌, Bool, true, false, List, [], ◌∷◌, length, Option, Some, None}
use Rattle.std.specs.Prelude.{slice_get}
use Rattle.styx_msg.specs.declared.message.Rmsg.{Rmsg}
use Rattle.process_model.specs.Process.{Went, Ends}
use Rattle.process_model.specs.Alone.{Goes}
use Rattle.process_model.specs.Plain.{PlainSides}
use Rattle.limbo_types.specs.Types.{Ty}
use Rattle.limbo_typed.specs.Typed as typed
use Rattle.limbo_typed.specs.declared.operation.Given.{Given}
use Rattle.limbo_typed.specs.declared.operation.Given.TheVariants as given
use Rattle.system_model.specs.Values.{Value}
use Rattle.system_model.specs.Prints.{Request, Writing, print}
use Rattle.system_model.specs.Ending.{Ending, Broken}
use Rattle.system_model.specs.Limits.{frames_limit}
use Rattle.typed_meaning.specs.Values.{number_of}
use Rattle.typed_meaning.specs.World.{World}
use Rattle.typed_meaning.specs.Trees.{Place, Term, Evaluated, Awaiting, Missing, Literal, Read, Apply, Lazy, Deciding, Store, Change, Put}
use Rattle.typed_meaning.specs.Trees.{Call, Print, Terms, NoTerms, MoreTerms, Stm, Over, Eval, Set, If, While, Enter, Break, Continue}
use Rattle.typed_meaning.specs.Trees.{Return, Leave}
use Rattle.typed_meaning.specs.Trees.{Loop, Looping, Block, Done, Then, Turn, Again, join, entered, behind, at_turn}
use Rattle.typed_meaning.specs.Program.{Routine, term_of, evaluated, declared_value, all_before, optional}
use Rattle.typed_meaning.specs.Evaluation.{fill_block}
use Rattle.typed_meaning.specs.Process as source
use Rattle.typed_meaning.specs.Step as source_step
use Rattle.typed_meaning.specs.Rules as source_rules
use Rattle.limbo_values.specs.declared.number.Kind.{Kind}
use Rattle.slot_code.specs.Code.{Spot, Temporary, Operand, In, Inst, Hand, Jump, Skip, Back, Begin, Format, Function}
use Rattle.slot_code.specs.Code as code
use Rattle.slot_code.specs.Machine as machine
use Rattle.slot_code.specs.Machine.{Frame, moved, stored, value_of, put}
use Rattle.slot_code.specs.Step as code_step
use Rattle.slot_code.specs.Rules as code_rules
use Rattle.typed_lower.specs.Kinds.{leaf}
use Rattle.typed_lower.specs.Terms.{part_of, branches, one, ready}
use Rattle.typed_lower.specs.Statements as lower
use Rattle.typed_lower.specs.Statements.{Around, around_at, effects, sets, condition, inside, while_loop, do_loop, stmts_code}

-- ---- what is there before a function begins

-- A tree of which nothing is evaluated, and of which no part is missing. A change reads its place first, and `++` and `--` nothing else.
abbrev pub Changes : Given → Place → Terms → Type 0
Changes given.Old p (MoreTerms t NoTerms) = t ≡ Read p
Changes given.Old p ts = ⊥
Changes given.New p (MoreTerms t ts) = t ≡ Read p
Changes given.New p NoTerms = ⊥

abbrev pub IsOne : Terms → Type 0
IsOne (MoreTerms t NoTerms) = Unit {0}
IsOne (MoreTerms t (MoreTerms u NoTerms)) = Unit {0}
IsOne ts = ⊥

abbrev mutual
  pub Fresh : Term → Type 0
  Fresh (Evaluated v) = ⊥
  Fresh (Awaiting t) = ⊥
  Fresh Missing = ⊥
  Fresh (Literal t v) = Unit {0}
  Fresh (Read p) = Unit {0}
  Fresh (Apply o ts) = AllFresh ts × IsOne ts
  Fresh (Lazy c l r) = Fresh l × Fresh r
  Fresh (Deciding r) = ⊥
  Fresh (Store p t) = Fresh t
  Fresh (Change o g p ts) = AllFresh ts × IsOne ts × Changes g p ts
  Fresh (Put p v w) = ⊥
  Fresh (Call t f ts) = AllFresh ts
  Fresh (Print ps ts) = AllFresh ts

  pub AllFresh : Terms → Type 0
  AllFresh NoTerms = Unit {0}
  AllFresh (MoreTerms t ts) = Fresh t × AllFresh ts

-- ---- code at places

-- These instructions stand in the code, from this place on.
abbrev pub HasAt : List Inst → (pc : ℕ) → List Inst → Type 0
HasAt codes pc [] = Unit {0}
HasAt codes pc (i ∷ is) = (slice_get codes pc ≡ Some i) × HasAt codes (suc pc) is

-- An instruction that may stand for no step of the program.
abbrev pub is_silent : Inst → Bool
is_silent (Hand s x) = true
is_silent (Skip n) = true
is_silent (Begin f) = true
is_silent (Format ps) = true
is_silent _ = false

-- How many such instructions stand in a row right before a place, behind so many.
abbrev pub run_to : ℕ → List Inst → (pc : ℕ) → ℕ
run_to n codes zero = n
run_to n [] (suc pc) = 0
run_to n (i ∷ is) (suc pc) = run_to (if is_silent i then suc n else 0) is pc

-- ---- frames and processes of both

-- The program's frame with this to do, beside one of the code.
abbrev pub beside : Frame → Block → source.Frame
beside g todo = record { instance = g.instance; variables = g.variables; todo = todo }

abbrev pub sourced : (number : ℕ) → source.Frame → List source.Frame → source.Process
sourced n f below = record { number = n; frame = f; below = below; printing = None }

abbrev pub coded : (number : ℕ) → Frame → List Frame → Option Writing → machine.Process
coded n g below p = record { number = n; frame = g; below = below; printing = p }

-- ---- loops

-- A loop of the source, with the loops around it and the types of the variables.
pub record Looped : Type 0 where
  pub types : List Ty
  pub arounds : List Around
  pub condition : Option typed.Expr
  pub next : Option typed.Expr
  pub body : typed.Stmts

abbrev pub loop_of : Looped → Loop
loop_of l = Looping (optional l.condition) (optional l.next) (all_before l.types l.body Done)

abbrev pub body_code : (turn : List Inst) → Looped → List Inst
body_code turn l = stmts_code l.types (inside turn l.arounds) l.body

abbrev pub while_code : Looped → List Inst
while_code l = while_loop l.condition (lower.optional l.next) (body_code (lower.optional l.next) l)

abbrev pub do_code : Looped → List Inst
do_code l = do_loop (condition l.condition 1) (body_code (condition l.condition 1) l)

-- Where its next turn begins, and where its way back is; and the test of one that tests last.
abbrev pub first_test : Looped → List Inst
first_test l = condition l.condition (suc (length (body_code (lower.optional l.next) l) + length (lower.optional l.next)))

abbrev pub turn_of : (start : ℕ) → Looped → ℕ
turn_of start l = start + length (first_test l) + length (body_code (lower.optional l.next) l)

abbrev pub back_of : (start : ℕ) → Looped → ℕ
back_of start l = turn_of start l + length (lower.optional l.next)

abbrev pub test_of : (start : ℕ) → Looped → ℕ
test_of start l = start + length (body_code (condition l.condition 1) l)

-- ---- statements that have code

abbrev pub FreshOption : Option typed.Expr → Type 0
FreshOption None = Unit {0}
FreshOption (Some e) = Fresh (term_of e)

-- An expression that stands alone: a load, or a tree.
abbrev pub FreshStm : Stm → Type 0
FreshStm Over = Unit {0}
FreshStm (Eval t) = Fresh t
FreshStm s = ⊥

abbrev pub FreshOptional : Option typed.Expr → Type 0
FreshOptional None = Unit {0}
FreshOptional (Some e) = Fresh (term_of e) × (evaluated e ≡ Eval (term_of e))

-- All expressions in a statement are fresh, and what it breaks or continues is a loop around it, of which there are so many.
module _ (types : List Ty) where
  abbrev mutual
    pub Handled : (loops : ℕ) → typed.Stmt → Type 0
    Handled n typed.Empty = Unit {0}
    Handled n (typed.Block ss) = AllHandled n ss
    Handled n (typed.Declare xs e) = Fresh (declared_value types e)
    Handled n (typed.Eval e) = FreshStm (evaluated e)
    Handled n (typed.If c ss others) = Fresh (term_of c) × AllHandled n ss × AllHandled n others
    Handled n (typed.While c ss) = FreshOption c × AllHandled (suc n) ss
    Handled n (typed.Do ss c) = FreshOption c × AllHandled (suc n) ss
    Handled n (typed.For first c next ss) =
        FreshOptional first × FreshOption c × FreshOptional next × AllHandled (suc n) ss
    Handled n (typed.Break k) = k < n
    Handled n (typed.Continue k) = k < n
    Handled n (typed.Return e) = FreshOption e
    Handled n s = ⊥

    pub AllHandled : (loops : ℕ) → typed.Stmts → Type 0
    AllHandled n typed.NoStmts = Unit {0}
    AllHandled n (typed.MoreStmts s ss) = Handled n s × AllHandled n ss

abbrev pub Well : Looped → Type 0
Well l = FreshOption l.condition × FreshOptional l.next × AllHandled l.types (suc (length l.arounds)) l.body

module _ (routines : List Routine) (functions : List Function) where
  abbrev pub sstep : World → source.Process → source.Does
  sstep w p = source_step.step frames_limit routines w p

  abbrev pub obeys : World → machine.Process → Inst → machine.Does
  obeys w q i = code_step.obey frames_limit functions w q i

  -- So many steps of the program, of its running frame alone, whatever is below it.
  abbrev pub Bursts : ℕ → World → Frame → Block → World → Frame → Block → Type 0
  Bursts k w g todo w' g' todo' =
      (n : ℕ) (below : List source.Frame)
      → Goes (source_rules.rules frames_limit routines) k w (sourced n (beside g todo) below) w' (sourced n (beside g' todo') below)

  -- One such step that changes neither the world nor a variable.
  abbrev pub Quiet : Frame → Block → Block → Type 0
  Quiet g todo todo' =
      (w : World) (n : ℕ) (below : List source.Frame)
      → sstep w (sourced n (beside g todo) below) ≡ Went w (sourced n (beside g todo') below)

  module _ (codes : List Inst) where
    -- From this place on the code does what is left to do, of which nothing is begun. Of a loop its code is known, which begins at some
    -- place, and what stands behind it.
    mutual
      pub data Does : (pc : ℕ) → Block → Type 0 where
        ends : (pc : ℕ) → slice_get codes pc ≡ Some code.Leave → Does pc Done
        over : (pc : ℕ) (rest : Block) → Does pc rest → Does pc (Then Over rest)
        jumps : (pc n : ℕ) (rest : Block) → slice_get codes pc ≡ Some (Jump n) → Does (suc pc + n) rest → Does pc (Then Over rest)
        evaluates : (pc : ℕ) (t : Term) (rest : Block) → Fresh t → HasAt codes pc (effects t) → Does (pc + length (effects t)) rest
            → Does pc (Then (Eval t) rest)
        gives : (pc : ℕ) (ps : List Place) (t : Term) (rest : Block) → Fresh t → HasAt codes pc (sets ps t (leaf t))
            → Does (pc + length (sets ps t (leaf t))) rest → Does pc (Then (Set ps t) rest)
        chooses : (pc n : ℕ) (t : Term) (a b rest : Block) → Fresh t → HasAt codes pc (branches false 0 t n)
            → Does (pc + length (branches false 0 t n)) (join a (Then Over rest))
            → Does (pc + length (branches false 0 t n) + n) (join b (Then Over rest)) → Does pc (Then (If t a b) rest)
        breaks : (pc n k : ℕ) (rest : Block) → slice_get codes pc ≡ Some (Jump k) → Does (suc pc + k) (behind n rest)
            → Does pc (Then (Break n) rest)
        continues : (pc n k : ℕ) (rest : Block) → slice_get codes pc ≡ Some (Jump k) → Does (suc pc + k) (at_turn n rest)
            → Does pc (Then (Continue n) rest)
        returns : (pc : ℕ) (t : Term) (rest : Block) → Fresh t → HasAt codes pc (one (ready 0 (part_of t)) code.Return)
            → Does pc (Then (Return t) rest)
        leaves : (pc : ℕ) (rest : Block) → slice_get codes pc ≡ Some code.Leave → Does pc (Then Leave rest)
        enters : (pc : ℕ) (l : Loop) (rest : Block) → Does pc (entered l rest) → Does pc (Then (Enter l) rest)
        whiles : (start : ℕ) (l : Looped) (e : typed.Expr) (rest : Block) → l.condition ≡ Some e → WhileAt start l rest
            → Does start (Then (While (term_of e) (loop_of l)) rest)
        while_turns : (start : ℕ) (l : Looped) (rest : Block) → WhileAt start l rest → Does (turn_of start l) (Turn (loop_of l) rest)
        agains : (start : ℕ) (l : Looped) (rest : Block) → WhileAt start l rest → Does (back_of start l) (Again (loop_of l) rest)
        do_tests : (start : ℕ) (l : Looped) (e : typed.Expr) (rest : Block) → l.condition ≡ Some e → DoAt start l rest
            → Does (test_of start l) (Then (While (term_of e) (loop_of l)) rest)
        do_turns : (start : ℕ) (l : Looped) (rest : Block) → DoAt start l rest → Does (test_of start l) (Turn (loop_of l) rest)

      -- A loop that tests first, and one that tests last.
      pub data WhileAt : (start : ℕ) → Looped → Block → Type 0 where
        while_at : (start : ℕ) (l : Looped) (rest : Block) → Well l → HasAt codes start (while_code l)
            → Does (start + length (while_code l)) rest
            → Exits (start + length (while_code l)) l.arounds rest → WhileAt start l rest

      pub data DoAt : (start : ℕ) → Looped → Block → Type 0 where
        do_at : (start : ℕ) (l : Looped) (rest : Block) → Well l → l.next ≡ None → HasAt codes start (do_code l)
            → Does (start + length (do_code l)) rest → Exits (start + length (do_code l)) l.arounds rest → DoAt start l rest

      -- Where control goes on behind each loop around, and at its next turn, from this place on.
      pub data Exits : (end : ℕ) → List Around → Block → Type 0 where
        exits : (end : ℕ) (arounds : List Around) (rest : Block)
            → ((n : ℕ) (a : Around) → slice_get arounds n ≡ Some a → Does (end + a.end) (behind n rest))
            → ((n : ℕ) (a : Around) → slice_get arounds n ≡ Some a → Does (end + a.turn) (at_turn n rest)) → Exits end arounds rest

    -- What the code does from a frame's place on, where it may be in the midst of a statement. `Stands` is so before any instruction,
    -- `Going` has one to run: each way that this may go, in whatever world, is told by `Next`. `Arrives` says what follows where a value
    -- comes to its place.
    mutual
      pub data Stands : Frame → Block → Type 0 where
        outside : (g : Frame) (todo : Block) → g.made ≡ [] → Does g.pc todo → Stands g todo
        going : (g : Frame) (todo : Block) → Going g todo → Stands g todo
        softly : (g : Frame) (todo todo' : Block) → Quiet g todo todo' → Stands g todo' → Stands g todo

      pub data Going : Frame → Block → Type 0 where
        quietly : (g : Frame) (todo todo' : Block) → Quiet g todo todo' → Going g todo' → Going g todo
        instruction : (g : Frame) (todo : Block) (i : Inst) → slice_get codes g.pc ≡ Some i → ((w : World) → Next w g todo i) → Going g todo

      pub data Next : World → Frame → Block → Inst → Type 0 where
        stores : (w : World) (g : Frame) (todo before : Block) (i : Inst) (s : Spot) (v : Value) (k j : ℕ)
            → ((n : ℕ) (below : List Frame) (p : Option Writing) → obeys w (coded n g below p) i ≡ machine.next w (coded n g below p) s v)
            → Bursts k w g todo w g before → Arrives j w (moved g (suc g.pc)) s v before → (k + j ≡ 0 → is_silent i ≡ true)
            → Next w g todo i
        passes : (w : World) (g g' : Frame) (todo after : Block) (i : Inst) (k : ℕ) → g'.function ≡ g.function
            → ((n : ℕ) (below : List Frame) (p : Option Writing)
            → obeys w (coded n g below p) i ≡ Went w (machine.with_frames (coded n g below p) g' below))
            → Bursts k w g todo w g' after → (k ≡ 0 → run_to 0 codes g.pc < run_to 0 codes g'.pc) → Stands g' after → Next w g todo i
        calls : (w : World) (g g' : Frame) (todo before waits : Block) (i : Inst) (k f : ℕ) (arguments : List Value)
            → ((n : ℕ) (below : List Frame) (p : Option Writing) → obeys w (coded n g below p) i
            ≡ machine.calls frames_limit w (coded n g below p) g' f (slice_get functions f) arguments)
            → Bursts k w g todo w g before
            → ((n : ℕ) (below : List source.Frame) → sstep w (sourced n (beside g before) below)
            ≡ source.calls frames_limit w (sourced n (beside g before) below) waits (slice_get routines f) arguments)
            → g'.function ≡ g.function → g'.instance ≡ g.instance → g'.variables ≡ g.variables → Waits g' waits → Next w g todo i
        prints : (w : World) (g g' : Frame) (todo before waits : Block) (i : Inst) (k : ℕ) (text : List ℕ)
            → ((n : ℕ) (below : List Frame) (p : Option Writing)
            → obeys w (coded n g below p) i ≡ machine.prints w (coded n g below p) g' (print w.outside text))
            → Bursts k w g todo w g before
            → ((n : ℕ) (below : List source.Frame) → sstep w (sourced n (beside g before) below)
            ≡ source.prints w (sourced n (beside g before) below) waits (print w.outside text))
            → g'.function ≡ g.function → g'.instance ≡ g.instance → g'.variables ≡ g.variables → Hears g' waits → Next w g todo i
        answers : (w : World) (g : Frame) (todo before : Block) (i : Inst) (k : ℕ) (v : Value)
            → ((n : ℕ) (below : List Frame) (p : Option Writing)
            → obeys w (coded n g below p) i ≡ machine.returns w (coded n g below p) below v)
            → Bursts k w g todo w g before
            → ((n : ℕ) (below : List source.Frame)
            → sstep w (sourced n (beside g before) below) ≡ source.returns w (sourced n (beside g before) below) below v) → Next w g todo i
        raises : (w : World) (g : Frame) (todo before : Block) (i : Inst) (k : ℕ) (text : List ℕ)
            → ((n : ℕ) (below : List Frame) (p : Option Writing) → obeys w (coded n g below p) i ≡ Ends w (Broken text))
            → Bursts k w g todo w g before
            → ((n : ℕ) (below : List source.Frame) → sstep w (sourced n (beside g before) below) ≡ Ends w (Broken text)) → Next w g todo i

      -- The program takes so many steps once the value is there, a write perhaps, and stands as the code does where it has stored the
      -- value.
      pub data Arrives : (k : ℕ) → World → Frame → Spot → Value → Block → Type 0 where
        arrives : (k : ℕ) (w : World) (g : Frame) (s : Spot) (v : Value) (todo after : Block)
            → Bursts k w g todo (stored w g s v).world (stored w g s v).frame after → Stands (stored w g s v).frame after
            → Arrives k w g s v todo

      -- Two frames that wait for an answer, whatever it will be.
      pub data Waits : Frame → Block → Type 0 where
        waits : (g : Frame) (todo : Block) (k : World → Value → ℕ)
            → ((w : World) (v : Value) → Arrives (k w v) w g g.into (number_of g.answer v) (fill_block v todo)) → Waits g todo

      -- What a print answers, at once or by a reply, comes to a temporary, which is no step of the program.
      pub data Hears : Frame → Block → Type 0 where
        hears : (g : Frame) (todo : Block) (k : Kind) (n : ℕ) → g.into ≡ Temporary k n
            → ((v : Value) → Stands (record g { temporaries = put g.temporaries k n (number_of g.answer v) }) (fill_block v todo))
            → Hears g todo

  -- ---- processes

  -- The code of the function that a frame runs.
  pub record Runs (g : Frame) : Type 0 where
    pub function : Function
    pub found : slice_get functions g.function ≡ Some function

  -- Frames that wait, one beside the other.
  pub record FrameWaits (f : source.Frame) (g : Frame) : Type 0 where
    pub todo : Block
    pub same : f ≡ beside g todo
    pub runs : Runs g
    pub waits : Waits runs.function.code g todo

  abbrev pub AllWait : List source.Frame → List Frame → Type 0
  AllWait [] [] = Unit {0}
  AllWait (f ∷ fs) (g ∷ gs) = FrameWaits f g × AllWait fs gs
  AllWait [] (g ∷ gs) = ⊥
  AllWait (f ∷ fs) [] = ⊥

  -- Two processes that are ready.
  pub record Ready (p : source.Process) (q : machine.Process) : Type 0 where
    pub todo : Block
    pub same : p ≡ sourced q.number (beside q.frame todo) p.below
    pub runs : Runs q.frame
    pub stands : Stands runs.function.code q.frame todo
    pub below : AllWait p.below q.below

  -- Two that wait for a reply.
  pub record Asking (p : source.Process) (q : machine.Process) : Type 0 where
    pub todo : Block
    pub number : p.number ≡ q.number
    pub frame : p.frame ≡ beside q.frame todo
    pub printing : p.printing ≡ q.printing
    pub runs : Runs q.frame
    pub hears : Hears runs.function.code q.frame todo
    pub below : AllWait p.below q.below

-- A function of the program and its code: of the same number, or none of it.
pub data Compiled (routines : List Routine) (functions : List Function) (f : ℕ) : Type 0 where
  missing : slice_get routines f ≡ None → slice_get functions f ≡ None → Compiled routines functions f
  there : (r : Routine) (h : Function) → slice_get routines f ≡ Some r → slice_get functions f ≡ Some h → r.variables ≡ length h.variables
      → Does routines functions h.code 0 r.body → Compiled routines functions f

-- No function has more than so many instructions in a row that may stand for no step.
abbrev pub FewSilent : List Function → (bound : ℕ) → Type 0
FewSilent functions bound = (f : ℕ) (h : Function) → slice_get functions f ≡ Some h → (pc : ℕ) → run_to 0 h.code pc < bound

-- The program and its code, which share one world.
abbrev pub sides : List Routine → List Function → PlainSides World World source.Process machine.Process Value Request Rmsg Ending
sides routines functions = record {
  program = source_rules.rules frames_limit routines;
  code = code_rules.rules frames_limit functions;
  ready = Ready routines functions;
  asking = Asking routines functions;
  worlds = λ w x. w ≡ x;
}
