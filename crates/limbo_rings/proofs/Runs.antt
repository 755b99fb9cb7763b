-- From each step to whole runs: no run makes a ring.
use Rattle.std.proofs.Common.{◌≡◌, ℕ, zero, suc, inl, inr, List, [], ◌∷◌, Option, None, Some, refl, sym, ap, subst, ◌∙◌}
use Rattle.std.proofs.Common.{arith, nat_lt, Bool, true, false}
use Rattle.std.specs.Prelude.{slice_get, if◌then◌else◌}
use Rattle.std.proofs.Math.ListN.{set}
use Rattle.styx_msg.specs.declared.message.Rmsg.{Rmsg}
use Rattle.process_model.specs.Naming.{total}
use Rattle.process_model.specs.Process.{Went, Parks, Polls, Spawns, Asks, Ends, Doing, Ready, Waiting, Asking, Gone}
use Rattle.process_model.specs.Source.{Turn, Steps, goes, waits, meets, polls, passes, spawns, asks, ends}
use Rattle.process_model.specs.Source.{Hears, goes_on, asks_again, is_over, Run, still, next, Matched, begun, turn, down, reply}
use Rattle.process_model.specs.Law.{begins}
use Rattle.heap_model.specs.Heap.{Heap, graph, stays}
use Rattle.system_model.specs.Limits.{frames_limit}
use Rattle.system_model.specs.Prints.{Printing, Answers, Requests, NoReply, Writing, print, hear}
use Rattle.limbo_types.specs.Types as ty
use Rattle.limbo_types.specs.Types.{Ty}
use Rattle.limbo_layout.specs.Adts.{Def}
use Rattle.limbo_typed.specs.Typed.{Module}
use Rattle.limbo_typed.specs.Sound.{IsSound}
use Rattle.limbo_meaning.specs.Values.{Value, nothing}
use Rattle.limbo_meaning.specs.Memory.{HeapValue, inside, Memory}
use Rattle.limbo_meaning.specs.Trees.{Term, Stm, Over, Eval, If, While, Enter, Break, Continue, Return, Leave, Block, Done, Then, Again}
use Rattle.limbo_meaning.specs.Trees as trees
use Rattle.limbo_meaning.specs.Evaluation.{Progress, Finished, Stepped, Calls, Prints, Raises, Blocked}
use Rattle.limbo_meaning.specs.Evaluation as evaluation
use Rattle.limbo_meaning.specs.Program.{Routine, Program, program_of}
use Rattle.limbo_meaning.specs.Process.{Shared, Frame, Process, Does, memory_of, drops, returns, calls, prints, hears, height}
use Rattle.limbo_meaning.specs.Step.{evaluate, progress, act, work, step, heard, answer}
use Rattle.limbo_meaning.specs.Rules.{rules, naming}
use Rattle.limbo_meaning.specs.Runs.{Meaning, MeaningRun, first_world, first_process}
use Rattle.limbo_meaning.specs.Owning.{FreshProgram}
use Rattle.limbo_meaning.proofs.Owning.{processes_own}
use Rattle.limbo_meaning.proofs.Steps as made
use Rattle.limbo_meaning.proofs.Steps.{Made}
use Rattle.limbo_owned.specs.Owned.{AllOwn}
use Rattle.limbo_owned.proofs.Owned.{runs_own}
use Rattle.limbo_kept.specs.Values.{Store}
use Rattle.limbo_kept.specs.Stores.{HeapIsOf, MemoryIsOf}
use Rattle.limbo_kept.specs.Permitting.{NeverBack}
use Rattle.limbo_kept.specs.Storing.{StoresAllowed}
use Rattle.limbo_kept.specs.Trees.{Scope, TermIs}
use Rattle.limbo_kept.specs.Processes.{Outline, scope_of, ProgramIs, ProcessIs, StmIs, BlockIs, IsTyped}
use Rattle.limbo_kept.specs.Modules.{AdtsAreLaid, TextsAreWritten, WordsAre, TakesWords, outline_with}
use Rattle.limbo_kept.proofs.Processes.{types_are_kept}
use Rattle.limbo_kept.proofs.Opening.{modules_keep_types}
use Rattle.limbo_filling.specs.Filling.{FillsApart}
use Rattle.limbo_filling.specs.Laws.{IsBounded}
use Rattle.limbo_filling.specs.Processes.{ProcessApart, StmFillsApart, BlockFillsApart}
use Rattle.limbo_filling.proofs.Trees.{fills_stay_apart}
use Rattle.limbo_filling.specs.Processes.{ProcessesStayApart}
use Rattle.limbo_filling.proofs.Processes as filling
use Rattle.limbo_rings.specs.Rings.{HasNoRing}
use Rattle.limbo_rings.specs.Running.{SoundModulesMakeNoRing}
use Rattle.limbo_rings.proofs.Known.{all_known}
use Rattle.limbo_rings.proofs.Changing.{named_there, names_out, says_below}
use Rattle.limbo_rings.proofs.Stepping.{steps_make_no_ring}
use Rattle.limbo_rings.proofs.Running.{cuts_make_no_ring, openings_have_no_ring}
use Rattle.limbo_rings.proofs.Finite.{no_rings_none_lost}

processes_apart : ProcessesStayApart
processes_apart = filling.processes_stay_apart fills_stay_apart

abbrev Clean : Shared → Type 0
Clean w = HasNoRing (graph inside w.heap)

abbrev CleanIn : Does → Type 0
CleanIn (Went v q) = Clean v
CleanIn (Parks v bs q) = Clean v
CleanIn (Asks v m q) = Clean v
CleanIn (Ends v how) = Clean v
CleanIn _ = Unit {0}

-- ---- what a typed memory names is taken

bounded : (defs : List Def) (globals : List Ty) (store : Store) (types : List Ty) (m : Memory) → MemoryIsOf defs globals store types m
    → IsBounded m
bounded defs globals store types m is n (inl h) =
    let k = all_known defs store types m.variables n is.variables h in
    let l = says_below store n k.2.stands k.2.said in
    let e = is.heap.long in
    omega arith
bounded defs globals store types m is n (inr (a, u, e, l)) =
    let k = named_there defs globals store m.heap is.heap a n (names_out m.heap a n u e l) in
    let b = says_below store n k.0 k.1 in
    let f = is.heap.long in
    omega arith

-- ---- one step of a process

module _ (limit : ℕ) (o : Outline) (program : Program) (is_program : ProgramIs o program) (never : o.stores ≡ NeverBack) (store : Store)
    (w : Shared) (p : Process) (heap : HeapIsOf o.adts o.globals store w.heap) (is : ProcessIs o store None p)
    (apart : ProcessApart w.heap p) (clean : Clean w) where
  abbrev scope : Scope
  scope = scope_of o is.frame.types

  memory_is : MemoryIsOf o.adts o.globals store is.frame.types (memory_of w p.frame)
  memory_is = record { variables = is.frame.variables; instance = is.frame.instance; heap = heap }

  clean_drops : (held : List (Option ℕ)) (done : Does) → CleanIn done → CleanIn (drops w p held done)
  clean_drops [] done k = k
  clean_drops (r ∷ rs) done k = clean

  clean_returns : (below : List Frame) (v : Value) → CleanIn (returns program.adts w p below v)
  clean_returns [] v = clean
  clean_returns (f ∷ below) v = clean

  clean_either : (b : Bool) (d e : Does) → CleanIn d → CleanIn e → CleanIn (if b then d else e)
  clean_either true d e k l = k
  clean_either false d e k l = l

  clean_calls : (waiting : Block) (t : Ty) (r : Option Routine) (args : List Value)
      → CleanIn (calls program.adts limit w p waiting t r args)
  clean_calls waiting t None args = clean
  clean_calls waiting t (Some r) args = clean_either (nat_lt (height p) limit) _ _ clean clean

  clean_prints : (waiting : Block) (printing : Printing) → CleanIn (prints w p waiting printing)
  clean_prints waiting (Answers v z) = clean
  clean_prints waiting (Requests v m k) = clean
  clean_prints waiting NoReply = clean

  clean_evaluate : (rest : Block) (t : Term) (u : Ty) → TermIs scope store None t u → FillsApart (memory_of w p.frame) t
      → (within : Term → Stm) (use_it : Value → Does) → ((v : Value) → CleanIn (use_it v)) → (pr : Progress Value Term)
      → progress limit program w p t ≡ pr → CleanIn (evaluate limit program w p rest pr within use_it)
  clean_evaluate rest t u typed fills within use_it k (Finished v) e = k v
  clean_evaluate rest t u typed fills within use_it k (Stepped m got x) e =
      steps_make_no_ring scope never store (memory_of w p.frame) memory_is t u typed fills m got x
      (subst (λ (defs : List Def). evaluation.next defs (memory_of w p.frame) t ≡ Stepped m got x) is_program.adts e) clean
  clean_evaluate rest t u typed fills within use_it k (Calls a f args x) e =
      clean_calls (Then (within x) rest) a (slice_get program.routines f) args
  clean_evaluate rest t u typed fills within use_it k (Prints text x) e = clean_prints (Then (within x) rest) (print w.outside text)
  clean_evaluate rest t u typed fills within use_it k (Raises text) e = clean
  clean_evaluate rest t u typed fills within use_it k Blocked e = clean

  clean_act : (s : Stm) (rest : Block) → StmIs scope store is.frame.gives None s → StmFillsApart (memory_of w p.frame) s
      → CleanIn (act limit program w p s rest)
  clean_act Over rest h a = clean_drops p.frame.held _ clean
  clean_act (Eval t) rest h a =
      clean_evaluate rest t h.0 h.1 a Eval _ (λ v. clean_drops p.frame.held _ clean) (progress limit program w p t) refl
  clean_act (If t x y) rest h a =
      clean_evaluate rest t ty.Int h.0 a (λ t. If t x y) _ (λ v. clean_drops p.frame.held _ clean) (progress limit program w p t) refl
  clean_act (While t l) rest h a =
      clean_evaluate rest t ty.Int h.0 a (λ t. While t l) _ (λ v. clean_drops p.frame.held _ clean) (progress limit program w p t) refl
  clean_act (Enter l) rest h a = clean
  clean_act (Break n) rest h a = clean
  clean_act (Continue n) rest h a = clean
  clean_act (Return t) rest h a =
      clean_evaluate rest t is.frame.gives h a Return _ (λ v. clean_returns p.below v) (progress limit program w p t) refl
  clean_act Leave rest h a = clean_returns p.below nothing

  clean_work : (todo : Block) → BlockIs scope store is.frame.gives None todo → BlockFillsApart (memory_of w p.frame) todo
      → CleanIn (work limit program w p todo)
  clean_work Done h a = clean_returns p.below nothing
  clean_work (Then s rest) h a = clean_act s rest h.0 a
  clean_work (trees.Turn l rest) h a = clean
  clean_work (Again l rest) h a = clean

  clean_step : CleanIn (step limit program w p)
  clean_step = clean_work p.frame.todo is.frame.todo apart.frame

  clean_effect : (e : Does) → step limit program w p ≡ e → CleanIn e
  clean_effect e f = subst CleanIn f clean_step

-- ---- a reply

module _ (w : Shared) (p : Process) (clean : Clean w) where
  abbrev CleanBehind : Does → Type 0
  CleanBehind (Went v q) = Clean v
  CleanBehind (Asks v m q) = Clean v
  CleanBehind (Ends v how) = Clean v
  CleanBehind _ = Unit {0}

  clean_hears : (printing : Printing) → CleanBehind (hears w p printing)
  clean_hears (Answers v z) = clean
  clean_hears (Requests v m k) = clean
  clean_hears NoReply = tt

  clean_heard : (a : Rmsg) (k : Option Writing) → CleanBehind (heard a w p k)
  clean_heard a None = tt
  clean_heard a (Some k) = clean_hears (hear a w.outside k)

  clean_reply : (a : Rmsg) (e : Does) → answer a w p ≡ e → CleanBehind e
  clean_reply a e f = subst CleanBehind f (clean_heard a p.printing)

-- ---- processes that wait

module _ (limit : ℕ) (program : Program) (w : Shared) (p : Process) where
  -- one that waits is as it was, and so is the world; none looks round or starts another
  abbrev Stays : Does → Type 0
  Stays (Parks v bs q) = (w ≡ v) × (p ≡ q)
  Stays (Polls v bs q r) = ⊥
  Stays (Spawns v child q) = ⊥
  Stays _ = Unit {0}

  stays_printed : (todo : Block) (printing : Printing) → Stays (prints w p todo printing)
  stays_printed todo (Answers v z) = tt
  stays_printed todo (Requests v m k) = tt
  stays_printed todo NoReply = (refl, refl)

  stays_returned : (below : List Frame) (v : Value) → Stays (returns program.adts w p below v)
  stays_returned [] v = tt
  stays_returned (f ∷ below) v = tt

  stays_made : (e : Does) → Made limit program w p e → Stays e
  stays_made e made.stood = (refl, refl)
  stays_made e (made.went_on todo) = tt
  stays_made e (made.let_one_go r rs end is) = tt
  stays_made e (made.made_step t t' m got todo is) = tt
  stays_made e (made.called t r args todo is) = tt
  stays_made e (made.overflowed is) = tt
  stays_made e (made.printed todo printing) = stays_printed todo printing
  stays_made e (made.raised t text is) = tt
  stays_made e (made.returned v) = stays_returned p.below v

  stays_as : (e : Does) → step limit program w p ≡ e → Stays e
  stays_as e is = subst Stays is (stays_made (step limit program w p) (made.made limit program w p))

-- ---- configurations

abbrev Doings : Type 0
Doings = List (Doing Process Value)

abbrev ApartDoing : Heap HeapValue → Doing Process Value → Type 0
ApartDoing h (Ready p) = ProcessApart h p
ApartDoing h (Waiting bs p) = ProcessApart h p
ApartDoing h (Asking p) = ProcessApart h p
ApartDoing h Gone = Unit {0}

-- There is one process.
record Stands (o : Outline) (c : Meaning) : Type 0 where
  typed : IsTyped o c
  own : AllOwn c
  clean : Clean c.world
  doing : Doing Process Value
  single : c.processes ≡ doing ∷ []
  apart : ApartDoing c.world.heap doing

only_at : (ds : Doings) (d x : Doing Process Value) (i : ℕ) → ds ≡ d ∷ [] → slice_get ds i ≡ Some x → (i ≡ 0) × (d ≡ x)
only_at [] d x i e f = absurd cc
only_at (y ∷ ys) d x zero e f = (refl, cc)
only_at (y ∷ ys) d x (suc i) e f = let none : ys ≡ [] = cc in absurd (nothing_at ys i x none f)
  where
    nothing_at : (ys : Doings) (i : ℕ) (x : Doing Process Value) → ys ≡ [] → slice_get ys i ≡ Some x → ⊥
    nothing_at [] i x e f = cc
    nothing_at (y ∷ ys) i x e f = cc

only_set : (ds : Doings) (d x y : Doing Process Value) (i : ℕ) → ds ≡ d ∷ [] → slice_get ds i ≡ Some x → set ds i y ≡ y ∷ []
only_set ds d x y i e f =
    let a = only_at ds d x i e f in
    ap (λ (es : Doings). set es i y) e ∙ ap (λ (j : ℕ). set (d ∷ []) j y) a.0

-- what the processes don't name goes
apart_cut : (roots : ℕ → ℕ) (h : Heap HeapValue) (d : Doing Process Value) → ApartDoing h d → ApartDoing (stays inside roots h) d
apart_cut roots h (Ready p) a = processes_apart.cuts roots h p a
apart_cut roots h (Waiting bs p) a = processes_apart.cuts roots h p a
apart_cut roots h (Asking p) a = processes_apart.cuts roots h p a
apart_cut roots h Gone a = tt

module _ (limit : ℕ) (o : Outline) (program : Program) (is_program : ProgramIs o program) (never : o.stores ≡ NeverBack)
    (fresh : FreshProgram program) where
  module _ (c : Meaning) (h : Stands o c) where
    doing_at : (i : ℕ) (d : Doing Process Value) → slice_get c.processes i ≡ Some d → ApartDoing c.world.heap d
    doing_at i d at = subst (ApartDoing c.world.heap) (only_at c.processes h.doing d i h.single at).1 h.apart

    -- what stands behind an event in which process i came to do this
    stands_then : (e : Meaning) (i : ℕ) (was now : Doing Process Value) (v : Shared) (roots : ℕ → ℕ) → IsTyped o e → AllOwn e
        → slice_get c.processes i ≡ Some was → e.processes ≡ set c.processes i now → e.world.heap ≡ stays inside roots v.heap
        → Clean v → ApartDoing v.heap now → Stands o e
    stands_then e i was now v roots typed own at same cut clean apart = record {
      typed = typed;
      own = own;
      clean = subst (λ (x : Heap HeapValue). HasNoRing (graph inside x)) (sym cut) (cuts_make_no_ring roots v.heap clean);
      doing = now;
      single = same ∙ only_set c.processes h.doing was now i h.single at;
      apart = subst (λ (x : Heap HeapValue). ApartDoing x now) (sym cut) (apart_cut roots v.heap now apart);
    }

    process_bounded : (p : Process) → ProcessIs o h.typed.store None p → IsBounded (memory_of c.world p.frame)
    process_bounded p is =
        bounded o.adts o.globals h.typed.store is.frame.types (memory_of c.world p.frame)
        (record { variables = is.frame.variables; instance = is.frame.instance; heap = h.typed.heap })

    step_clean : (i : ℕ) (p : Process) → slice_get c.processes i ≡ Some (Ready p) → (e : Does)
        → step limit program c.world p ≡ e → CleanIn e
    step_clean i p at e does =
        clean_effect limit o program is_program never h.typed.store c.world p h.typed.heap (h.typed.processes i (Ready p) at)
        (doing_at i (Ready p) at) h.clean e does

    -- two processes don't meet where there is one
    no_other : (i j : ℕ) (x y : Doing Process Value) → slice_get c.processes i ≡ Some x → slice_get c.processes j ≡ Some y → j ≡ i
    no_other i j x y at there =
        let a = only_at c.processes h.doing x i h.single at in
        let b = only_at c.processes h.doing y j h.single there in
        b.0 ∙ sym a.0

    stands_step : (i : ℕ) (e : Meaning) → IsTyped o e → AllOwn e → Steps (rules limit program) naming c i e → Stands o e
    stands_step i0 e typed own (goes i p w q at does) =
        stands_then e i (Ready p) (Ready q) w (total naming (set c.processes i (Ready q))) typed own at refl refl
        (step_clean i p at (Went w q) does)
        (processes_apart.goes limit program fresh c.world w p q (h.own i (Ready p) at)
        (process_bounded p (h.typed.processes i (Ready p) at)) (doing_at i (Ready p) at) does)
    stands_step i0 e typed own (waits i p w bs q at does) =
        let stays = stays_as limit program c.world p (Parks w bs q) does in
        stands_then e i (Ready p) (Waiting bs q) w (total naming (set c.processes i (Waiting bs q))) typed own at refl refl
        (step_clean i p at (Parks w bs q) does)
        (subst (λ (v : Shared). ProcessApart v.heap q) stays.0 (subst (ProcessApart c.world.heap) stays.1 (doing_at i (Ready p) at)))
    stands_step i0 e typed own (meets i p bs k a j l b q at branch fit) =
        absurd (fit.other (no_other i j (Waiting bs p) (Waiting fit.branches q) at fit.waits))
    stands_step i0 e typed own (polls i p w bs q r k a j l b s at does branch fit) =
        absurd (stays_as limit program c.world p (Polls w bs q r) does)
    stands_step i0 e typed own (passes i p w bs q r at does none) = absurd (stays_as limit program c.world p (Polls w bs q r) does)
    stands_step i0 e typed own (spawns i p w child q at does) = absurd (stays_as limit program c.world p (Spawns w child q) does)
    stands_step i0 e typed own (asks i p w m q at does) =
        stands_then e i (Ready p) (Asking q) w (total naming (set c.processes i (Asking q))) typed own at refl refl
        (step_clean i p at (Asks w m q) does)
        (processes_apart.asks limit program fresh c.world w p q m (h.own i (Ready p) at) (doing_at i (Ready p) at) does)
    stands_step i0 e typed own (ends i p w how at does) =
        stands_then e i (Ready p) Gone w (total naming (set c.processes i Gone)) typed own at refl refl
        (step_clean i p at (Ends w how) does) tt

    stands_reply : (i : ℕ) (a : Rmsg) (e : Meaning) → IsTyped o e → AllOwn e → Hears (rules limit program) naming c i a e → Stands o e
    stands_reply i a e typed own (goes_on p w q at does) =
        stands_then e i (Asking p) (Ready q) w (total naming (set c.processes i (Ready q))) typed own at refl refl
        (clean_reply c.world p h.clean a (Went w q) does)
        (processes_apart.hears a c.world w p q (doing_at i (Asking p) at) does)
    stands_reply i a e typed own (asks_again p w m q at does) =
        stands_then e i (Asking p) (Asking q) w (total naming (set c.processes i (Asking q))) typed own at refl refl
        (clean_reply c.world p h.clean a (Asks w m q) does)
        (processes_apart.asks_again a c.world w p q m (doing_at i (Asking p) at) does)
    stands_reply i a e typed own (is_over p w how at does) =
        stands_then e i (Asking p) Gone w (total naming (set c.processes i Gone)) typed own at refl refl
        (clean_reply c.world p h.clean a (Ends w how) does) tt

  one_more : (c e : Meaning) (i : ℕ) → Stands o c → Steps (rules limit program) naming c i e → Stands o e
  one_more c e i h s =
      stands_step c h i e (types_are_kept.steps limit o program is_program c e i h.typed s).typed
      (runs_own.steps limit program fresh c e i h.own s) s

  one_reply : (c e : Meaning) (i : ℕ) (a : Rmsg) → Stands o c → Hears (rules limit program) naming c i a e → Stands o e
  one_reply c e i a h s =
      stands_reply c h i a e (types_are_kept.replies limit o program is_program c e i a h.typed s).typed
      (runs_own.replies limit program fresh c e i a h.own s) s

  stands_run : (i : ℕ) (c e : Meaning) (n : ℕ) → Stands o c → Run (rules limit program) naming i c n e → Stands o e
  stands_run i c e n h still = h
  stands_run i c e n h (next {d = d} run last) = one_more d e i (stands_run i c d _ h run) last

  stands_matched : (c e : Meaning) (turns : List Turn) → Stands o c → Matched (rules limit program) naming c turns e → Stands o e
  stands_matched c e turns h begun = h
  stands_matched c e turns h (turn {d = d} i n before run) = stands_run i d e n (stands_matched c d _ h before) run
  stands_matched c e turns h (down {d = d} l w before lost) = absurd cc
  stands_matched c e turns h (reply {d = d} i a before heard) = one_reply d e i a (stands_matched c d _ h before) heard

-- ---- from the opening on

module _ (m : Module) (sound : IsSound m) (laid : AdtsAreLaid m.adts) (written : TextsAreWritten m) (allowed : StoresAllowed NeverBack m)
    (words : List (List ℕ)) (are : WordsAre words) (init : ℕ) (turns : List Turn) (c : Meaning) (run : MeaningRun m words init turns c)
    (takes : TakesWords run.first) where
  abbrev opening : Meaning
  opening = begins (first_world m words) (first_process m words run.first)

  opening_stands : Stands (outline_with NeverBack m) opening
  opening_stands = record {
    typed = modules_keep_types.runs NeverBack m sound laid written allowed words are init [] opening
        (record { first = run.first; there = run.there; run = begun }) takes;
    own = runs_own.opening m words init run.first run.there;
    clean = openings_have_no_ring m words;
    doing = Ready (first_process m words run.first);
    single = refl;
    apart = processes_apart.first m words run.first (first_world m words).heap (processes_own.modules m init run.first run.there);
  }

  run_stands : Stands (outline_with NeverBack m) c
  run_stands =
      stands_matched frames_limit (outline_with NeverBack m) (program_of m)
      (modules_keep_types.programs NeverBack m sound laid written allowed) refl (processes_own.modules m) opening c turns
      opening_stands run.run

pub sound_modules_make_no_ring : SoundModulesMakeNoRing
sound_modules_make_no_ring m sound laid written allowed = record {
  clean = λ words are init turns c run takes. (run_stands m sound laid written allowed words are init turns c run takes).clean;
  reached = λ words are init turns c run takes.
      no_rings_none_lost inside (total naming c.processes) c.world.heap
      (run_stands m sound laid written allowed words are init turns c run takes).clean;
}
