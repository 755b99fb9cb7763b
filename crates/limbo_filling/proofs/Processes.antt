-- Each step, each reply and each cut leaves what the frames of a process fill apart.
use Rattle.std.proofs.Common.{◌≡◌, ℕ, Bool, true, false, List, [], ◌∷◌, ◌++◌, length, ◌≤◌, Option, None, Some, ◌⊎◌, inl, inr, refl, sym}
use Rattle.std.proofs.Common.{subst, arith, nat_lt}
use Rattle.std.specs.Prelude.{slice_get, if◌then◌else◌}
use Rattle.styx_msg.specs.declared.message.Rmsg.{Rmsg}
use Rattle.process_model.specs.Process.{Went, Asks, Ends}
use Rattle.heap_model.specs.Heap.{Heap, stays}
use Rattle.heap_model.proofs.Heap.{stays_length, stays_part}
use Rattle.limbo_types.specs.Types.{Ty}
use Rattle.limbo_layout.specs.Adts.{Def}
use Rattle.system_model.specs.Values as system
use Rattle.system_model.specs.Prints.{Printing, Answers, Requests, NoReply, Writing, print, hear}
use Rattle.system_model.specs.Ending.{Broken}
use Rattle.limbo_meaning.specs.Values.{Value, nothing, fitted, all_fitted, references, references_in}
use Rattle.limbo_meaning.specs.Memory.{HeapValue, inside, Memory}
use Rattle.limbo_meaning.specs.Exceptions.{stack_overflow}
use Rattle.limbo_meaning.specs.Operations.{holds}
use Rattle.limbo_meaning.specs.Trees.{Term, Stm, Over, Eval, If, While, Enter, Break, Continue, Return, Leave, Block, Done, Then, Turn}
use Rattle.limbo_meaning.specs.Trees.{Again, join, tested, entered, turned, behind, at_turn}
use Rattle.limbo_meaning.specs.Evaluation.{Progress, Finished, Stepped, Calls, Prints, Raises, Blocked, next, fill_block}
use Rattle.limbo_meaning.specs.Program.{Routine, Program}
use Rattle.limbo_meaning.specs.Process.{Shared, Frame, Process, Does, memory_of, framed, frame_of, with_frames, height}
use Rattle.limbo_meaning.specs.Process.{goes, drops, stepped, answered, returns, calls, prints, hears, value_of}
use Rattle.limbo_meaning.specs.Step.{chosen, evaluate, progress, act, work, step, heard}
use Rattle.limbo_meaning.specs.Origins.{Name, InMemory, NamesComeFrom, term_references, stm_references}
use Rattle.limbo_meaning.specs.Owning.{FreshBlock, FreshProgram, OwnStm, OwnBlock, OwnProcess}
use Rattle.limbo_meaning.proofs.Names.{Sub, none, either, left, right, in_fitted, zero_names}
use Rattle.limbo_meaning.proofs.TreeNames.{SoBy, tree_so, trees_name_so}
use Rattle.limbo_meaning.proofs.Touching.{Leaves, touches}
use Rattle.limbo_meaning.proofs.Naming.{adds_touched}
use Rattle.limbo_filling.specs.Filling.{Fills, FillsApart}
use Rattle.limbo_filling.specs.Laws.{IsBounded, FillsStayApart}
use Rattle.limbo_filling.specs.Processes.{StmFills, BlockFills, StmFillsApart, BlockFillsApart, block_references}
use Rattle.limbo_filling.specs.Processes.{memory_in, FrameNames, FramesApart, ProcessApart, ProcessesStayApart}
use Rattle.limbo_filling.proofs.ProcessesFrames.{BeginsFresh, begins, entered_begins, tested_begins, turned_begins, behind_begins}
use Rattle.limbo_filling.proofs.ProcessesFrames.{at_turn_begins, begins_names, block_names, Inside, fresh_block, block_answers}
use Rattle.limbo_filling.proofs.ProcessesFrames.{block_elsewhere, frames_on}

in_all_fitted : (defs : List Def) (ts : List Ty) (vs : List Value) → Sub (references_in (all_fitted defs ts vs)) (references_in vs)
in_all_fitted defs [] vs n h = none n h
in_all_fitted defs (t ∷ ts) [] n h = elim (either (references (fitted defs t nothing)) (references_in (all_fitted defs ts [])) n h) [
  | inl y ↦ zero_names defs t n y
  | inr y ↦ in_all_fitted defs ts [] n y
]
in_all_fitted defs (t ∷ ts) (v ∷ vs) n h = elim (either (references (fitted defs t v)) (references_in (all_fitted defs ts vs)) n h) [
  | inl y ↦ left (references v) (references_in vs) n (in_fitted defs t v n y)
  | inr y ↦ right (references v) (references_in vs) n (in_all_fitted defs ts vs n y)
]

number_names : (x : system.Value) (n : ℕ) → Name (references (value_of x)) n → ⊥
number_names (system.Num z) n h = none n h

longer : (defs : List Def) (m m' : Memory) (t u : Term) (got : List (Option ℕ)) → next defs m t ≡ Stepped m' got u
    → length m.heap ≤ length m'.heap
longer defs m m' t u got e = (adds_touched m m' (subst (Leaves m defs) e (touches m defs t))).longer

-- a statement around a tree
record Around (within : Term → Stm) : Type 0 where
  puts : (m : Memory) (u : Term) → FillsApart m u → StmFillsApart m (within u)
  fills : (u : Term) (n : ℕ) → StmFills (within u) n → Fills u n
  names : (u : Term) → Sub (stm_references (within u)) (term_references u)

module _ (trees : FillsStayApart) where
  -- ---- where the heap stays as it is

  module _ (w : Shared) (p : Process) (apart : ProcessApart w.heap p) where
    abbrev mine : Memory
    mine = memory_of w p.frame

    -- a frame in place of the one that runs, which names no more
    still : (f : Frame) → ((n : ℕ) → FrameNames f n → FrameNames p.frame n) → FramesApart w.heap (FrameNames f) p.below
    still f names =
        frames_on trees w.heap w.heap (omega arith) p.below (FrameNames p.frame) (FrameNames f) (λ n y. inr y) (λ n y. inl (names n y))
        apart.below

    -- what it has to do is other, and names no more
    same : (held : List (Option ℕ)) (todo : Block) → BlockFillsApart mine todo
        → ((n : ℕ) → Name (block_references todo) n → FrameNames p.frame n)
        → ProcessApart w.heap (with_frames p (framed p.frame p.frame.variables held todo) p.below)
    same held todo f names = record {
      frame = f;
      below = still (framed p.frame p.frame.variables held todo) (λ n h. elim h [ inl y ↦ inl y | inr y ↦ names n y ]);
    }

    -- a number in place of the wait for it
    numbered : (x : system.Value) (todo : Block) → BlockFillsApart mine todo
        → ((n : ℕ) → Name (block_references todo) n → FrameNames p.frame n)
        → ProcessApart w.heap (with_frames p (framed p.frame p.frame.variables p.frame.held (fill_block (value_of x) todo)) p.below)
    numbered x todo f names =
        same p.frame.held (fill_block (value_of x) todo)
        (block_answers trees mine todo (value_of x) f (λ n y h. number_names x n h))
        (λ n h. elim (block_names (value_of x) todo n h) [ inl y ↦ names n y | inr y ↦ absurd (number_names x n y) ])

    abbrev ApartThen : Does → Type 0
    ApartThen (Went v q) = ProcessApart v.heap q
    ApartThen (Asks v m q) = ProcessApart v.heap q
    ApartThen _ = Unit {0}

    apart_hears : (printing : Printing) → ApartThen (hears w p printing)
    apart_hears (Answers o v) = numbered v p.frame.todo apart.frame (λ n h. inr h)
    apart_hears (Requests o m k) = record { frame = apart.frame; below = apart.below }
    apart_hears NoReply = tt

    apart_heard : (a : Rmsg) (k : Option Writing) → ApartThen (heard a w p k)
    apart_heard a None = tt
    apart_heard a (Some k) = apart_hears (hear a w.outside k)

  -- ---- one step

  module _ (limit : ℕ) (program : Program) (fresh : FreshProgram program) (w : Shared) (p : Process) (own : OwnProcess p)
      (apart : ProcessApart w.heap p) where
    -- what a step in a tree makes is asked for only where the memory is bounded
    abbrev ApartIn : Does → Type 0
    ApartIn (Went v q) = IsBounded (memory_of w p.frame) → ProcessApart v.heap q
    ApartIn (Asks v m q) = ProcessApart v.heap q
    ApartIn _ = Unit {0}

    apart_goes : (todo : Block) → BeginsFresh todo → ApartIn (goes w p todo)
    apart_goes todo f bounded =
        same w p apart p.frame.held todo (fresh_block trees (memory_of w p.frame) todo f) (λ n h. absurd (begins_names todo f n h))

    apart_drops : (held : List (Option ℕ)) (done : Does) → ApartIn done → ApartIn (drops w p held done)
    apart_drops [] done k = k
    apart_drops (r ∷ rs) done k = λ bounded. record { frame = apart.frame; below = apart.below }

    apart_prints : (todo : Block) (printing : Printing) → BlockFillsApart (memory_of w p.frame) todo
        → ((n : ℕ) → Name (block_references todo) n → FrameNames p.frame n) → ApartIn (prints w p todo printing)
    apart_prints todo (Answers o v) f names = λ bounded. numbered w p apart v todo f names
    apart_prints todo (Requests o m k) f names =
        let s = same w p apart p.frame.held todo f names in record { frame = s.frame; below = s.below }
    apart_prints todo NoReply f names = tt

    apart_returns : (v : Value) → ((n : ℕ) → Name (references v) n → FrameNames p.frame n) → (below : List Frame) → p.below ≡ below
        → ApartIn (returns program.adts w p below v)
    apart_returns v names [] e = tt
    apart_returns v names (g ∷ below) e = λ bounded.
        let k : FramesApart w.heap (FrameNames p.frame) (g ∷ below) = subst (FramesApart w.heap (FrameNames p.frame)) e apart.below in
        let u = fitted program.adts p.frame.answer v in
        let named : (n : ℕ) → Name (references u) n → FrameNames p.frame n = λ n h. names n (in_fitted program.adts p.frame.answer v n h) in
        record {
          frame = block_answers trees (memory_in w.heap g) g.todo u k.0 (λ n f h. k.1 n f (named n h));
          below = frames_on trees w.heap w.heap (omega arith) below (λ n. FrameNames p.frame n ⊎ FrameNames g n) (FrameNames (answered g u))
              (λ n y. inr y)
              (λ n h. inl (elim h [
                | inl y ↦ inr (inl y)
                | inr y ↦ elim (block_names u g.todo n y) [ inl z ↦ inr (inr z) | inr z ↦ inl (named n z) ]
              ])) k.2;
        }

    -- the frame that calls waits with this, in which it fills nothing that the arguments name
    module _ (waits : Block) (a : Ty) (args : List Value) (filled : BlockFillsApart (memory_of w p.frame) waits)
        (others : (n : ℕ) → BlockFills waits n → Name (references_in args) n → ⊥)
        (names : (n : ℕ) → Name (block_references waits) n → FrameNames p.frame n)
        (passed : (n : ℕ) → Name (references_in args) n → FrameNames p.frame n) where
      abbrev caller : Frame
      caller = framed p.frame p.frame.variables p.frame.held waits

      abbrev callee : Routine → Frame
      callee r = frame_of program.adts p.frame.instance r a args

      caller_names : (n : ℕ) → FrameNames caller n → FrameNames p.frame n
      caller_names n (inl h) = inl h
      caller_names n (inr h) = names n h

      callee_names : (r : Routine) → FreshBlock r.body → (n : ℕ) → FrameNames (callee r) n → Name (references_in args) n
      callee_names r f n (inl h) = in_all_fitted program.adts r.variables args n h
      callee_names r f n (inr h) = absurd (begins_names r.body (begins r.body f) n h)

      apart_called : (r : Routine) → FreshBlock r.body → ProcessApart w.heap (with_frames p (callee r) (caller ∷ p.below))
      apart_called r f = record {
        frame = fresh_block trees (memory_in w.heap (callee r)) r.body (begins r.body f);
        below = (
          filled,
          (λ n x h. others n x (callee_names r f n h)),
          frames_on trees w.heap w.heap (omega arith) p.below (FrameNames p.frame) (λ n. FrameNames (callee r) n ⊎ FrameNames caller n)
              (λ n y. inr y)
              (λ n h. inl (elim h [ inl y ↦ passed n (callee_names r f n y) | inr y ↦ caller_names n y ])) apart.below,
        );
      }

      apart_calls : (r : Option Routine) → ((r' : Routine) → r ≡ Some r' → FreshBlock r'.body)
          → ApartIn (calls program.adts limit w p waits a r args)
      apart_calls None k = tt
      apart_calls (Some r) k = go (nat_lt (height p) limit)
        where
          go : (b : Bool) → ApartIn (if b then Went w (with_frames p (callee r) (caller ∷ p.below)) else Ends w (Broken stack_overflow))
          go true = λ bounded. apart_called r (k r refl)
          go false = tt

    -- a tree of the statement, in which a step is made
    module _ (t : Term) (filled : FillsApart (memory_of w p.frame) t)
        (mine : (n : ℕ) → Name (term_references t) n → FrameNames p.frame n) where
      known : (n : ℕ) → InMemory (memory_of w p.frame) n → FrameNames p.frame n ⊎ Inside w.heap n
      known n (inl h) = inl (inl h)
      known n (inr h) = inr h

      apart_stepped : (rest : Block) (within : Term → Stm) → Around within → (m : Memory) (got : List (Option ℕ)) (u : Term)
          → progress limit program w p t ≡ Stepped m got u → ApartIn (stepped w p m got (Then (within u) rest))
      apart_stepped rest within around m got u e bounded =
          let here = memory_of w p.frame in
          let next_frame = framed p.frame m.variables (p.frame.held ++ got) (Then (within u) rest) in
          let s : NamesComeFrom here t m got u = trees_name_so program.adts here m t u got e in
          let behind : FillsApart m u = trees.steps program.adts here m t u got bounded filled e in
          record {
            frame = around.puts (memory_in m.heap next_frame) u
                (trees.elsewhere m (memory_in m.heap next_frame) u (omega arith) (λ n f h. h) behind);
            below = frames_on trees w.heap m.heap (longer program.adts here m t u got e) p.below
                (FrameNames p.frame) (FrameNames next_frame)
                (λ n y. elim (s.in_memory n (inr y)) [ inl z ↦ known n z | inr z ↦ inl (mine n z) ])
                (λ n h. elim h [
                  | inl y ↦ elim (s.in_memory n (inl y)) [
                    | inl z ↦ elim (known n z) [ inl x ↦ inl x | inr x ↦ inr (inl x) ]
                    | inr z ↦ inl (mine n z)
                  ]
                  | inr y ↦ elim (s.in_tree n (around.names u n y)) [
                    | inl z ↦ inl (mine n z)
                    | inr z ↦ elim (s.in_got n z) [
                      | inl x ↦ inl (mine n x)
                      | inr x ↦ elim x [
                        | inl k ↦ elim (known n k) [ inl i ↦ inl i | inr i ↦ inr (inl i) ]
                        | inr k ↦ inr (inr k)
                      ]
                    ]
                  ]
                ]) apart.below;
          }

      so : (pr : Progress Value Term) → progress limit program w p t ≡ pr
          → SoBy (memory_of w p.frame) references term_references (term_references t) pr
      so pr e =
          subst (SoBy (memory_of w p.frame) references term_references (term_references t)) e
          (tree_so program.adts (memory_of w p.frame) t)

      apart_evaluate : (rest : Block) (pr : Progress Value Term) → progress limit program w p t ≡ pr → (within : Term → Stm) → Around within
          → (use_it : Value → Does) → ((v : Value) → Sub (references v) (term_references t) → ApartIn (use_it v))
          → ApartIn (evaluate limit program w p rest pr within use_it)
      apart_evaluate rest (Finished v) e within around use_it k = k v (so (Finished v) e)
      apart_evaluate rest (Stepped m got u) e within around use_it k = apart_stepped rest within around m got u e
      apart_evaluate rest (Calls a c args u) e within around use_it k =
          let called = trees.calls program.adts (memory_of w p.frame) t u a c args filled e in
          let s = so (Calls a c args u) e in
          apart_calls (Then (within u) rest) a args (around.puts (memory_of w p.frame) u called.0)
          (λ n f h. called.1 n (around.fills u n f) h) (λ n h. mine n (s.1 n (around.names u n h))) (λ n h. mine n (s.0 n h))
          (slice_get program.routines c) (λ r there. fresh c r there)
      apart_evaluate rest (Prints text u) e within around use_it k =
          let s = so (Prints text u) e in
          apart_prints (Then (within u) rest) (print w.outside text)
          (around.puts (memory_of w p.frame) u (trees.prints program.adts (memory_of w p.frame) t u text filled e))
          (λ n h. mine n (s n (around.names u n h)))
      apart_evaluate rest (Raises text) e within around use_it k = tt
      apart_evaluate rest Blocked e within around use_it k = tt

    -- the first statement: what it fills is apart, what it names its frame names, and what follows isn't begun
    first_apart : (s : Stm) (rest : Block) → p.frame.todo ≡ Then s rest → StmFillsApart (memory_of w p.frame) s
    first_apart s rest e = subst (BlockFillsApart (memory_of w p.frame)) e apart.frame

    first_names : (s : Stm) (rest : Block) → p.frame.todo ≡ Then s rest → (n : ℕ) → Name (stm_references s) n → FrameNames p.frame n
    first_names s rest e n h = inr (subst (λ b. Name (block_references b) n) (sym e) h)

    first_own : (s : Stm) (rest : Block) → p.frame.todo ≡ Then s rest → OwnStm p.frame.held s × FreshBlock rest
    first_own s rest e = subst (OwnBlock p.frame.held) e own.frame

    apart_act : (s : Stm) (rest : Block) → p.frame.todo ≡ Then s rest → ApartIn (act limit program w p s rest)
    apart_act Over rest e = apart_drops p.frame.held _ (apart_goes rest (begins rest (first_own Over rest e).1))
    apart_act (Eval t) rest e =
        apart_evaluate t (first_apart (Eval t) rest e) (first_names (Eval t) rest e) rest (progress limit program w p t) refl Eval
        (record { puts = λ m u f. f; fills = λ u n f. f; names = λ u n h. h }) _
        (λ v s. apart_drops p.frame.held _ (apart_goes rest (begins rest (first_own (Eval t) rest e).1)))
    apart_act (If t a b) rest e =
        apart_evaluate t (first_apart (If t a b) rest e) (first_names (If t a b) rest e) rest (progress limit program w p t) refl
        (λ t. If t a b) (record { puts = λ m u f. f; fills = λ u n f. f; names = λ u n h. h }) _
        (λ v s. apart_drops p.frame.held _ (apart_goes (Then Over (join (chosen (holds v) a b) (Then Over rest))) tt))
    apart_act (While t l) rest e =
        apart_evaluate t (first_apart (While t l) rest e) (first_names (While t l) rest e) rest (progress limit program w p t) refl
        (λ t. While t l) (record { puts = λ m u f. f; fills = λ u n f. f; names = λ u n h. h }) _
        (λ v s. apart_drops p.frame.held _ (apart_goes (Then Over (chosen (holds v) (entered l rest) rest)) tt))
    apart_act (Enter l) rest e = apart_goes (entered l rest) (entered_begins l rest (first_own (Enter l) rest e).0)
    apart_act (Break k) rest e = apart_goes (behind k rest) (behind_begins k rest (first_own (Break k) rest e).1)
    apart_act (Continue k) rest e = apart_goes (at_turn k rest) (at_turn_begins k rest)
    apart_act (Return t) rest e =
        apart_evaluate t (first_apart (Return t) rest e) (first_names (Return t) rest e) rest (progress limit program w p t) refl Return
        (record { puts = λ m u f. f; fills = λ u n f. f; names = λ u n h. h }) _
        (λ v s. apart_returns v (λ n h. first_names (Return t) rest e n (s n h)) p.below refl)
    apart_act Leave rest e = apart_returns nothing (λ n h. none n h) p.below refl

    apart_work : (todo : Block) → p.frame.todo ≡ todo → ApartIn (work limit program w p todo)
    apart_work Done e = apart_returns nothing (λ n h. none n h) p.below refl
    apart_work (Then s rest) e = apart_act s rest e
    apart_work (Turn l rest) e =
        let f = subst (OwnBlock p.frame.held) e own.frame in apart_goes (turned l rest) (turned_begins l rest f.0)
    apart_work (Again l rest) e =
        let f = subst (OwnBlock p.frame.held) e own.frame in apart_goes (tested l rest) (tested_begins l rest f.0)

    apart_step : ApartIn (step limit program w p)
    apart_step = apart_work p.frame.todo refl

  -- ---- cuts

  cut_names : (roots : ℕ → ℕ) (h : Heap HeapValue) (n : ℕ) → Inside (stays inside roots h) n → Inside h n
  cut_names roots h n (a, u, e, x) = (a, u, stays_part inside roots h a u e, x)

  apart_cut : (roots : ℕ → ℕ) (h : Heap HeapValue) (p : Process) → ProcessApart h p → ProcessApart (stays inside roots h) p
  apart_cut roots h p apart =
      let less = stays inside roots h in
      let same_length = stays_length inside roots h in
      let long : length h ≤ length less = omega arith in
      record {
        frame = block_elsewhere trees (memory_in h p.frame) (memory_in less p.frame) long p.frame.todo
            (λ n f y. elim y [ inl z ↦ inl z | inr z ↦ inr (cut_names roots h n z) ]) apart.frame;
        below = frames_on trees h less long p.below (FrameNames p.frame) (FrameNames p.frame) (λ n y. inr (cut_names roots h n y))
            (λ n y. inl y) apart.below;
      }

pub processes_stay_apart : FillsStayApart → ProcessesStayApart
processes_stay_apart trees = record {
  first = λ m words r h f. record { frame = fresh_block trees _ r.body (begins r.body f); below = tt };
  goes = λ limit program fresh w v p q own bounded apart e.
      subst (ApartIn trees limit program fresh w p own apart) e (apart_step trees limit program fresh w p own apart) bounded;
  asks = λ limit program fresh w v p q m own apart e.
      subst (ApartIn trees limit program fresh w p own apart) e (apart_step trees limit program fresh w p own apart);
  hears = λ a w v p q apart e. subst (ApartThen trees w p apart) e (apart_heard trees w p apart a p.printing);
  asks_again = λ a w v p q m apart e. subst (ApartThen trees w p apart) e (apart_heard trees w p apart a p.printing);
  cuts = apart_cut trees;
}
