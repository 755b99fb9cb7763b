-- Steps of processes, one and many, keep types.
use Rattle.std.proofs.Common.{◌≡◌, ℕ, zero, suc, Bool, true, false, List, [], ◌∷◌, length, Option, Some, None, refl, sym, subst, ◌∙◌}
use Rattle.std.proofs.Common.{inl, inr, ◌⊎◌, take, nat_lt}
use Rattle.std.specs.Prelude.{slice_get, if◌then◌else◌}
use Rattle.std.proofs.Math.ListN.{set}
use Rattle.styx_msg.specs.declared.message.Rmsg.{Rmsg}
use Rattle.process_model.specs.Process.{Went, Parks, Polls, Spawns, Asks, Ends, Doing, Ready, Waiting, Asking, Gone}
use Rattle.process_model.specs.Naming.{total}
use Rattle.process_model.specs.Source.{Turn as RunTurn, Steps, goes, waits, meets, polls, passes, spawns, asks, ends}
use Rattle.process_model.specs.Source.{Hears, goes_on, asks_again, is_over, Run, still, next, Matched, begun, turn, down, reply}
use Rattle.heap_model.specs.Heap.{Heap, at, stays}
use Rattle.heap_model.proofs.Heap.{stays_part, stays_length}
use Rattle.limbo_types.specs.Types as ty
use Rattle.limbo_types.specs.Types.{Ty}
use Rattle.limbo_layout.specs.Adts.{Def}
use Rattle.system_model.specs.Values as system
use Rattle.system_model.specs.Prints.{Printing, Answers, Requests, NoReply, Writing, print, hear}
use Rattle.system_model.specs.Ending.{Broken}
use Rattle.limbo_meaning.specs.Values.{Value, nothing, fitted, all_fitted}
use Rattle.limbo_meaning.specs.Memory.{HeapValue, inside}
use Rattle.limbo_meaning.specs.Exceptions.{stack_overflow}
use Rattle.limbo_meaning.specs.Operations.{holds}
use Rattle.limbo_meaning.specs.Trees.{Term, Stm, Over, Eval, If, While, Enter, Break, Continue, Return, Leave, Loop, Looping, Block, Done}
use Rattle.limbo_meaning.specs.Trees.{Then}
use Rattle.limbo_meaning.specs.Trees.{Turn, Again, join, tested, entered, turned, behind, at_turn}
use Rattle.limbo_meaning.specs.Evaluation.{Progress, Finished, Stepped, Calls, Prints, Raises, Blocked, fill_stm, fill_block, next as nexts}
use Rattle.limbo_meaning.specs.Program.{Routine, Program}
use Rattle.limbo_meaning.specs.Process.{Shared, Frame, Process, Does, memory_of, framed, frame_of, with_frames, height, stands_still}
use Rattle.limbo_meaning.specs.Process.{goes as goes_to, drops, answered, returns, calls, value_of, with_outside, prints, hears}
use Rattle.limbo_meaning.specs.Step.{chosen, evaluate, progress, act, work, step, heard, answer}
use Rattle.limbo_meaning.specs.Rules.{rules, naming}
use Rattle.limbo_meaning.specs.Runs.{Meaning}
use Rattle.limbo_kept.specs.Values.{Store, Instances, AllAreOf, none_of, more_of, Fits, AllFit}
use Rattle.limbo_kept.specs.Stores.{HeapIsOf, MemoryIsOf, Grows}
use Rattle.limbo_kept.specs.Operating.{HasRoom}
use Rattle.limbo_kept.specs.Trees.{Signature, Scope, AnswerIs, TermIs}
use Rattle.limbo_kept.specs.Stepping.{Keeps}
use Rattle.limbo_kept.specs.Processes.{TermIfAny, TestIs, StmIs, LoopIs, BlockIs, Outline, scope_of, AllHaveRooms, RoutineIs, ProgramIs}
use Rattle.limbo_kept.specs.Processes.{FrameIs, BelowIs, ProcessIs, DoingIs, IsTyped, StaysTyped, LeftSo, EffectIs, TypesAreKept}
use Rattle.limbo_kept.proofs.Fitted.{zero_fits, is_fit, int_fits, all_later}
use Rattle.limbo_kept.proofs.Carrying.{term_on, term_move, filled}
use Rattle.limbo_kept.proofs.Evaluating.{trees_keep_types}

-- ---- blocks

module _ (s : Scope) (store : Store) (gives : Ty) where
  abbrev Fresh : Block → Type 0
  Fresh b = BlockIs s store gives None b

  join_is : (w : Option Ty) (a b : Block) → BlockIs s store gives w a → (a ≡ Done → BlockIs s store gives w b) → Fresh b
      → BlockIs s store gives w (join a b)
  join_is w Done b f g h = g refl
  join_is w (Then x a) b f g h = (f.0, join_is None a b f.1 (λ e. h) h)
  join_is w (Turn l a) b f g h = (f.0, join_is None a b f.1 (λ e. h) h)
  join_is w (Again l a) b f g h = (f.0, join_is None a b f.1 (λ e. h) h)

  pub joined : (a b : Block) → Fresh a → Fresh b → Fresh (join a b)
  joined a b f g = join_is None a b f (λ e. g) g

  pub entered_is : (l : Loop) (b : Block) → LoopIs s store gives l → Fresh b → Fresh (entered l b)
  entered_is (Looping c n body) b f g = joined body (Turn (Looping c n body) b) f.2 (f, g)

  pub tested_is : (l : Loop) (b : Block) → LoopIs s store gives l → Fresh b → Fresh (tested l b)
  tested_is (Looping None n body) b f g = (f, g)
  tested_is (Looping (Some c) n body) b f g = ((f.0, f), g)

  pub turned_is : (l : Loop) (b : Block) → LoopIs s store gives l → Fresh b → Fresh (turned l b)
  turned_is (Looping c None body) b f g = tested_is (Looping c None body) b f g
  turned_is (Looping c (Some n) body) b f g = (f.1, (f, g))

  pub behind_is : (k : ℕ) (b : Block) → Fresh b → Fresh (behind k b)
  behind_is k Done f = f
  behind_is k (Then x b) f = behind_is k b f.1
  behind_is k (Again l b) f = behind_is k b f.1
  behind_is zero (Turn l b) f = f.1
  behind_is (suc k) (Turn l b) f = behind_is k b f.1

  pub at_turn_is : (k : ℕ) (b : Block) → Fresh b → Fresh (at_turn k b)
  at_turn_is k Done f = f
  at_turn_is k (Then x b) f = at_turn_is k b f.1
  at_turn_is k (Again l b) f = at_turn_is k b f.1
  at_turn_is zero (Turn l b) f = f
  at_turn_is (suc k) (Turn l b) f = at_turn_is k b f.1

  chosen_is : (b : Bool) (a c : Block) → Fresh a → Fresh c → Fresh (chosen b a c)
  chosen_is true a c f g = f
  chosen_is false a c f g = g

  -- an answer in place of the wait for it
  module _ (a : Ty) (v : Value) (fit : Fits s.adts store a v) where
    stm_filled : (x : Stm) → StmIs s store gives (Some a) x → StmIs s store gives None (fill_stm v x)
    stm_filled Over h = tt
    stm_filled (Eval e) h = (h.0, filled s store a v fit e h.0 h.1)
    stm_filled (If e b c) h = (filled s store a v fit e ty.Int h.0, h.1, h.2)
    stm_filled (While e l) h = (filled s store a v fit e ty.Int h.0, h.1)
    stm_filled (Enter l) h = h
    stm_filled (Break k) h = tt
    stm_filled (Continue k) h = tt
    stm_filled (Return e) h = filled s store a v fit e gives h
    stm_filled Leave h = tt

    block_filled : (b : Block) → BlockIs s store gives (Some a) b → Fresh (fill_block v b)
    block_filled Done h = h
    block_filled (Then x b) h = (stm_filled x h.0, h.1)
    block_filled (Turn l b) h = h
    block_filled (Again l b) h = h

module _ (s : Scope) (store later : Store) (grows : Grows store later) (gives : Ty) where
  test_on : (c : Option Term) → TestIs s store gives c → TestIs s later gives c
  test_on None h = tt
  test_on (Some e) h = term_on s store later grows None e ty.Int h

  term_if_on : (c : Option Term) → TermIfAny s store gives c → TermIfAny s later gives c
  term_if_on None h = tt
  term_if_on (Some e) h = (h.0, term_on s store later grows None e h.0 h.1)

  mutual
    stm_move : (v w : Option Ty) → ((t : Ty) → AnswerIs v t → AnswerIs w t)
        → (x : Stm) → StmIs s store gives v x → StmIs s later gives w x
    stm_move v w k Over h = tt
    stm_move v w k (Eval e) h = (h.0, term_move s store later grows v w k e h.0 h.1)
    stm_move v w k (If e a b) h = (
      term_move s store later grows v w k e ty.Int h.0,
      block_move None None (λ t h. h) a h.1,
      block_move
          None None (λ t h. h) b h.2,
    )
    stm_move v w k (While e l) h = (term_move s store later grows v w k e ty.Int h.0, loop_on l h.1)
    stm_move v w k (Enter l) h = loop_on l h
    stm_move v w k (Break n) h = tt
    stm_move v w k (Continue n) h = tt
    stm_move v w k (Return e) h = term_move s store later grows v w k e gives h
    stm_move v w k Leave h = tt

    loop_on : (l : Loop) → LoopIs s store gives l → LoopIs s later gives l
    loop_on (Looping c n body) h = (test_on c h.0, term_if_on n h.1, block_move None None (λ t h. h) body h.2)

    pub block_move : (v w : Option Ty) → ((t : Ty) → AnswerIs v t → AnswerIs w t)
        → (b : Block) → BlockIs s store gives v b → BlockIs s later gives w b
    block_move v w k Done h = tt
    block_move v w k (Then x b) h = (stm_move v w k x h.0, block_move None None (λ t h. h) b h.1)
    block_move v w k (Turn l b) h = (loop_on l h.0, block_move None None (λ t h. h) b h.1)
    block_move v w k (Again l b) h = (loop_on l h.0, block_move None None (λ t h. h) b h.1)

  pub block_on : (w : Option Ty) (b : Block) → BlockIs s store gives None b → BlockIs s later gives w b
  block_on w b h = block_move None w (λ t h. absurd h) b h

-- ---- frames

module _ (o : Outline) (store later : Store) (grows : Grows store later) where
  abbrev frame_on : (w : Option Ty) (f : Frame) → FrameIs o store w f → FrameIs o later w f
  frame_on w f h = record {
    types = h.types;
    gives = h.gives;
    declared = h.declared;
    variables = all_later o.adts store later grows h.types f.variables h.variables;
    instance = grows f.instance Instances h.instance;
    answer = h.answer;
    todo = block_move (scope_of o h.types) store later grows h.gives w w (λ t k. k) f.todo h.todo;
  }

  below_on : (gives answer : Ty) (fs : List Frame) → BelowIs o store gives answer fs → BelowIs o later gives answer fs
  below_on gives a [] h = tt
  below_on gives a (f ∷ fs) h = (h.0, (frame_on (Some a) f h.1.0, below_on h.1.0.gives f.answer fs h.1.1))

pub nothing_said : (store : Store) → Grows [] store
nothing_said store n q e = absurd cc

-- the variables of a call
module _ (defs : List Def) (store : Store) where
  zeros : (ts : List Ty) → AllHaveRooms defs ts → AllAreOf defs store ts (all_fitted defs ts [])
  zeros [] r = none_of
  zeros (t ∷ ts) r = more_of t ts (fitted defs t nothing) (all_fitted defs ts []) (zero_fits defs store t r.0) (zeros ts r.1)

  pub arguments : (ts us : List Ty) (vs : List Value) → AllHaveRooms defs ts → take (length us) ts ≡ us → AllFit defs store us vs
      → AllAreOf defs store ts (all_fitted defs ts vs)
  arguments ts [] [] r e f = zeros ts r
  arguments ts [] (v ∷ vs) r e f = absurd f
  arguments ts (u ∷ us) [] r e f = absurd f
  arguments [] (u ∷ us) (v ∷ vs) r e f = absurd cc
  arguments (t ∷ ts) (u ∷ us) (v ∷ vs) r e f =
      let same : u ≡ t = cc in
      let rest : take (length us) ts ≡ us = cc in
      more_of t ts (fitted defs t v) (all_fitted defs ts vs) (subst (λ (x : Ty). Fits defs store x v) same f.0)
      (arguments ts us vs r.1 rest f.1)

-- ---- one step

module _ (limit : ℕ) (o : Outline) (program : Program) (good : ProgramIs o program) (store : Store) (w : Shared) (p : Process)
    (heap : HeapIsOf o.adts o.globals store w.heap) (is : ProcessIs o store None p) where
  abbrev types : List Ty
  types = is.frame.types

  abbrev s : Scope
  s = scope_of o types

  abbrev gives : Ty
  gives = is.frame.gives

  abbrev Ready_to : Block → Type 0
  Ready_to b = BlockIs s store gives None b

  abbrev frame_with : (u : Option Ty) (held : List (Option ℕ)) (b : Block) → BlockIs s store gives u b
      → FrameIs o store u (framed p.frame p.frame.variables held b)
  frame_with u held b h = record {
    types = types;
    gives = gives;
    declared = is.frame.declared;
    variables = is.frame.variables;
    instance = is.frame.instance;
    answer = is.frame.answer;
    todo = h;
  }

  stays_so : (u : Option Ty) (v : Shared) (q : Process) → v.heap ≡ w.heap → ProcessIs o store u q → LeftSo o store u v q
  stays_so u v q e h = record {
    later = store;
    grows = λ n k x. x;
    heap = subst (HeapIsOf o.adts o.globals store) (sym e) heap;
    process = h;
  }

  gone_on : (b : Block) → Ready_to b → EffectIs o store (goes_to w p b)
  gone_on b h =
      stays_so None w (with_frames p (framed p.frame p.frame.variables p.frame.held b) p.below) refl
      (record { frame = frame_with None p.frame.held b h; below = is.below })

  dropped : (b : Block) → p.frame.todo ≡ b → (held : List (Option ℕ)) (done : Does) → EffectIs o store done
      → EffectIs o store (drops w p held done)
  dropped b e [] done k = k
  dropped b e (r ∷ rs) done k =
      stays_so None w (with_frames p (framed p.frame p.frame.variables rs p.frame.todo) p.below) refl
      (record { frame = frame_with None rs p.frame.todo is.frame.todo; below = is.below })

  parked : EffectIs o store (stands_still w p)
  parked = stays_so None w p refl is

  -- ---- calls, prints and returns

  abbrev new_frame : (n : ℕ) (a : Ty) (g : Signature) (r : Routine) (args : List Value) → slice_get o.signatures n ≡ Some g
      → RoutineIs o g r → AllFit o.adts store g.takes args
      → FrameIs o store None (frame_of program.adts p.frame.instance r a args)
  new_frame n a g r args there routine f = record {
    types = r.variables;
    gives = g.answer;
    declared = record { number = n; function = g; there = there; variables = routine.variables; answer = refl };
    variables =
        subst (λ (defs : List Def). AllAreOf o.adts store r.variables (all_fitted defs r.variables args)) (sym good.adts)
        (arguments o.adts store r.variables g.takes args routine.rooms routine.parameters f);
    instance = is.frame.instance;
    answer = routine.answer;
    todo = block_on (scope_of o r.variables) [] store (nothing_said store) g.answer None r.body routine.body;
  }

  called : (b : Block) (n : ℕ) (a : Ty) (g : Signature) (r : Option Routine) (args : List Value)
      → slice_get o.signatures n ≡ Some g → BlockIs s store gives (Some a) b
      → AllFit o.adts store g.takes args → g.answer ≡ a → ((r' : Routine) → r ≡ Some r' → RoutineIs o g r')
      → EffectIs o store (calls program.adts limit w p b a r args)
  called b n a g None args there h f e k = parked
  called b n a g (Some r) args there h f e k = go (nat_lt (height p) limit)
    where
      go : (c : Bool) → EffectIs o store (if c
          then Went w (with_frames p (frame_of program.adts p.frame.instance r a args)
          (framed p.frame p.frame.variables p.frame.held b ∷ p.below))
          else Ends w (Broken stack_overflow))
      go true = stays_so None w _ refl (record {
        frame = new_frame n a g r args there (k r refl) f;
        below =
            (e, (frame_with (Some a) p.frame.held b h, is.below));
      })
      go false = heap

  filled_todo : (v : system.Value) (b : Block) → BlockIs s store gives (Some ty.Int) b → Ready_to (fill_block (value_of v) b)
  filled_todo v b h = block_filled s store gives ty.Int (value_of v) (int_fits o.adts store (value_of v)) b h

  printed : (b : Block) (printing : Printing) → BlockIs s store gives (Some ty.Int) b → EffectIs o store (prints w p b printing)
  printed b (Answers x v) h =
      stays_so None (with_outside w x) (with_frames p (framed p.frame p.frame.variables p.frame.held (fill_block (value_of v) b)) p.below)
      refl (record { frame = frame_with None p.frame.held (fill_block (value_of v) b) (filled_todo v b h); below = is.below })
  printed b (Requests x m k) h =
      stays_so (Some ty.Int) (with_outside w x) _ refl (record { frame = frame_with (Some ty.Int) p.frame.held b h; below = is.below })
  printed b NoReply h = parked

  returned : (v : Value) (below : List Frame) → Fits o.adts store gives v → p.below ≡ below
      → EffectIs o store (returns program.adts w p below v)
  returned v [] f e = heap
  returned v (g ∷ below) f e =
      let h : BelowIs o store gives p.frame.answer (g ∷ below) = subst (BelowIs o store gives p.frame.answer) e is.below in
      let c = h.1.0 in
      let fits : Fits o.adts store p.frame.answer (fitted program.adts p.frame.answer v) =
      subst (λ (defs : List Def). Fits o.adts store p.frame.answer (fitted defs p.frame.answer v)) (sym good.adts)
      (is_fit o.adts store p.frame.answer (fitted o.adts p.frame.answer v) (subst (HasRoom o.adts) h.0 is.frame.answer)
      (subst (λ (t : Ty). Fits o.adts store t v) h.0 f)) in
      stays_so None w (with_frames p (answered g (fitted program.adts p.frame.answer v)) below) refl (record {
        frame = record {
          types = c.types;
          gives = c.gives;
          declared = c.declared;
          variables = c.variables;
          instance = c.instance;
          answer = c.answer;
          todo =
              block_filled (scope_of o c.types) store c.gives p.frame.answer (fitted program.adts p.frame.answer v) fits g.todo c.todo;
        };
        below = h.1.1;
      })

  nothing_returned : (below : List Frame) → p.below ≡ below → EffectIs o store (returns program.adts w p below nothing)
  nothing_returned below e = returned nothing below (zero_fits o.adts store gives is.frame.answer) e

  -- ---- statements

  memory : MemoryIsOf s.adts s.globals store s.variables (memory_of w p.frame)
  memory = record { variables = is.frame.variables; instance = is.frame.instance; heap = heap }

  evaluated : (rest : Block) (t : Ty) (pr : Progress Value Term) → Ready_to rest
      → Keeps s store (λ v. Fits s.adts store t v) (λ later w x. TermIs s later w x t) pr → (within : Term → Stm)
      → ((later : Store) (v : Option Ty) (x : Term) → Grows store later → TermIs s later v x t → StmIs s later gives v (within x))
      → (use_it : Value → Does) → ((v : Value) → Fits s.adts store t v → EffectIs o store (use_it v))
      → EffectIs o store (evaluate limit program w p rest pr within use_it)
  evaluated rest t (Finished v) r h within into use_it k = k v h
  evaluated rest t (Stepped m got x) r h within into use_it k = record {
    later = h.later;
    grows = h.grows;
    heap = h.memory.heap;
    process = record {
      frame = record {
        types = types;
        gives = gives;
        declared = is.frame.declared;
        variables = h.memory.variables;
        instance = h.grows p.frame.instance Instances is.frame.instance;
        answer = is.frame.answer;
        todo = (into h.later None x h.grows h.left, block_on s store h.later h.grows gives None rest r);
      };
      below = below_on o store h.later h.grows gives p.frame.answer p.below is.below;
    };
  }
  evaluated rest t (Calls a f args x) r h within into use_it k =
      let c = h.0 in
      called (Then (within x) rest) f a c.signature (slice_get program.routines f) args c.there
      (into store (Some a) x (λ n q e. e) h.1, r) c.takes c.gives
      (λ r' e. good.routines f c.signature r' c.there e)
  evaluated rest t (Prints text x) r h within into use_it k =
      printed (Then (within x) rest) (print w.outside text) (into store (Some ty.Int) x (λ n q e. e) h, r)
  evaluated rest t (Raises text) r h within into use_it k = heap
  evaluated rest t Blocked r h within into use_it k = parked

  kept_tree : (e : Term) (t : Ty) → TermIs s store None e t
      → Keeps s store (λ v. Fits s.adts store t v) (λ later w x. TermIs s later w x t) (progress limit program w p e)
  kept_tree e t h =
      subst (λ (defs : List Def). Keeps s store (λ v. Fits s.adts store t v) (λ later w x. TermIs s later w x t)
      (nexts defs (memory_of w p.frame) e)) (sym good.adts) (trees_keep_types s store (memory_of w p.frame) memory e t h)

  acted : (x : Stm) (rest : Block) → p.frame.todo ≡ Then x rest → StmIs s store gives None x → Ready_to rest
      → EffectIs o store (act limit program w p x rest)
  acted Over rest e h r = dropped (Then Over rest) e p.frame.held (goes_to w p rest) (gone_on rest r)
  acted (Eval y) rest e h r =
      evaluated rest h.0 (progress limit program w p y) r (kept_tree y h.0 h.1) Eval (λ later v x g k. (h.0, k)) _
      (λ v f. dropped (Then (Eval y) rest) e p.frame.held (goes_to w p rest) (gone_on rest r))
  acted (If y a b) rest e h r =
      evaluated rest ty.Int (progress limit program w p y) r (kept_tree y ty.Int h.0) (λ y. If y a b)
      (λ later v x g k. (k, block_on s store later g gives None a h.1, block_on s store later g gives None b h.2)) _
      (λ v f. dropped (Then (If y a b) rest) e p.frame.held _ (gone_on (Then Over (join (chosen (holds v) a b) (Then Over rest)))
      (tt, joined s store gives (chosen (holds v) a b) (Then Over rest) (chosen_is s store gives (holds v) a b h.1 h.2) (tt, r))))
  acted (While y l) rest e h r =
      evaluated rest ty.Int (progress limit program w p y) r (kept_tree y ty.Int h.0) (λ y. While y l)
      (λ later v x g k. (k, loop_on s store later g gives l h.1)) _
      (λ v f. dropped (Then (While y l) rest) e p.frame.held _ (gone_on (Then Over (chosen (holds v) (entered l rest) rest))
      (tt, chosen_is s store gives (holds v) (entered l rest) rest (entered_is s store gives l rest h.1 r) r)))
  acted (Enter l) rest e h r = gone_on (entered l rest) (entered_is s store gives l rest h r)
  acted (Break k) rest e h r = gone_on (behind k rest) (behind_is s store gives k rest r)
  acted (Continue k) rest e h r = gone_on (at_turn k rest) (at_turn_is s store gives k rest r)
  acted (Return y) rest e h r =
      evaluated rest gives (progress limit program w p y) r (kept_tree y gives h) Return (λ later v x g k. k) _
      (λ v f. returned v p.below f refl)
  acted Leave rest e h r = nothing_returned p.below refl

  worked : (b : Block) → p.frame.todo ≡ b → Ready_to b → EffectIs o store (work limit program w p b)
  worked Done e h = nothing_returned p.below refl
  worked (Then x rest) e h = acted x rest e h.0 h.1
  worked (Turn l rest) e h = gone_on (turned l rest) (turned_is s store gives l rest h.0 h.1)
  worked (Again l rest) e h = gone_on (tested l rest) (tested_is s store gives l rest h.0 h.1)

  pub step_kept : EffectIs o store (step limit program w p)
  step_kept = worked p.frame.todo refl is.frame.todo

-- ---- replies

module _ (o : Outline) (store : Store) (w : Shared) (p : Process) (heap : HeapIsOf o.adts o.globals store w.heap)
    (is : ProcessIs o store (Some ty.Int) p) where
  abbrev heard_frame : (u : Option Ty) (held : List (Option ℕ)) (b : Block)
      → BlockIs (scope_of o is.frame.types) store is.frame.gives u b → FrameIs o store u (framed p.frame p.frame.variables held b)
  heard_frame u held b h = record {
    types = is.frame.types;
    gives = is.frame.gives;
    declared = is.frame.declared;
    variables = is.frame.variables;
    instance = is.frame.instance;
    answer = is.frame.answer;
    todo = h;
  }

  -- what a reply comes to: the process goes on, asks again, or waits as it did
  abbrev ReplyIs : Does → Type 0
  ReplyIs (Went v q) = LeftSo o store None v q
  ReplyIs (Asks v m q) = LeftSo o store (Some ty.Int) v q
  ReplyIs (Ends v how) = HeapIsOf o.adts o.globals store v.heap
  ReplyIs _ = Unit {0}

  hears_kept : (printing : Printing) → ReplyIs (hears w p printing)
  hears_kept (Answers x v) = record {
    later = store;
    grows = λ n q e. e;
    heap = heap;
    process = record {
      frame =
          heard_frame None p.frame.held (fill_block (value_of v) p.frame.todo)
          (block_filled (scope_of o is.frame.types) store is.frame.gives ty.Int (value_of v) (int_fits o.adts store (value_of v))
          p.frame.todo
          is.frame.todo);
      below = is.below;
    };
  }
  hears_kept (Requests x m k) = record {
    later = store;
    grows = λ n q e. e;
    heap = heap;
    process = record { frame = is.frame; below = is.below };
  }
  hears_kept NoReply = tt

  heard_kept : (a : Rmsg) (k : Option Writing) → ReplyIs (heard a w p k)
  heard_kept a None = tt
  heard_kept a (Some k) = hears_kept (hear a w.outside k)

  pub reply_kept : (a : Rmsg) → ReplyIs (answer a w p)
  reply_kept a = heard_kept a p.printing

-- ---- many processes

module _ (o : Outline) where
  process_on : (store later : Store) → Grows store later → (u : Option Ty) (p : Process) → ProcessIs o store u p → ProcessIs o later u p
  process_on store later grows u p h = record {
    frame = frame_on o store later grows u p.frame h.frame;
    below = below_on o store later grows h.frame.gives p.frame.answer p.below h.below;
  }

  doing_on : (store later : Store) → Grows store later → (d : Doing Process Value) → DoingIs o store d → DoingIs o later d
  doing_on store later grows (Ready p) h = process_on store later grows None p h
  doing_on store later grows (Waiting bs p) h = process_on store later grows None p h
  doing_on store later grows (Asking p) h = process_on store later grows (Some ty.Int) p h
  doing_on store later grows Gone h = tt

  abbrev EachIs : Store → List (Doing Process Value) → Type 0
  EachIs store ds = (i : ℕ) (d : Doing Process Value) → slice_get ds i ≡ Some d → DoingIs o store d

  set_cases : (ds : List (Doing Process Value)) (i j : ℕ) (x y : Doing Process Value) → slice_get (set ds i x) j ≡ Some y
      → (x ≡ y) ⊎ (slice_get ds j ≡ Some y)
  set_cases [] i j x y e = inr e
  set_cases (a ∷ ds) zero zero x y e = inl cc
  set_cases (a ∷ ds) zero (suc j) x y e = inr e
  set_cases (a ∷ ds) (suc i) zero x y e = inr e
  set_cases (a ∷ ds) (suc i) (suc j) x y e = set_cases ds i j x y e

  each_set : (store : Store) (ds : List (Doing Process Value)) (i : ℕ) (x : Doing Process Value) → EachIs store ds → DoingIs o store x
      → EachIs store (set ds i x)
  each_set store ds i x h new j y e = elim (set_cases ds i j x y e) [ inl same ↦ subst (DoingIs o store) same new | inr was ↦ h j y was ]

  -- what nobody names goes, and what stays is as it was
  heap_cut : (store : Store) (roots : ℕ → ℕ) (h : Heap HeapValue) → HeapIsOf o.adts o.globals store h
      → HeapIsOf o.adts o.globals store (stays inside roots h)
  heap_cut store roots h is = record {
    long = is.long ∙ sym (stays_length inside roots h);
    each = λ n u e. is.each n u (stays_part inside roots h n u e);
  }

  each_on : (store later : Store) → Grows store later → (ds : List (Doing Process Value)) → EachIs store ds → EachIs later ds
  each_on store later grows ds h i d e = doing_on store later grows d (h i d e)

  module _ (limit : ℕ) (program : Program) (good : ProgramIs o program) where
    -- one after the other
    and_on : (d e : Meaning) (store : Store) → (f : StaysTyped o store d) → StaysTyped o f.typed.store e → StaysTyped o store e
    and_on d e store f g = record { typed = g.typed; grows = λ n k x. g.grows n k (f.grows n k x) }

    -- process i has become this, in this world
    becomes : (c e : Meaning) (i : ℕ) (u : Option Ty) (v : Shared) (q : Process) (d : Doing Process Value) → (h : IsTyped o c)
        → LeftSo o h.store u v q → ((later : Store) → ProcessIs o later u q → DoingIs o later d) → e.processes ≡ set c.processes i d
        → e.world.heap ≡ stays inside (total naming (set c.processes i d)) v.heap → StaysTyped o h.store e
    becomes c e i u v q d h l make ps world = record {
      typed = record {
        store = l.later;
        heap =
            subst (HeapIsOf o.adts o.globals l.later) (sym world) (heap_cut l.later (total naming (set c.processes i d)) v.heap l.heap);
        processes =
            subst (EachIs l.later) (sym ps)
            (each_set l.later c.processes i d (each_on h.store l.later l.grows c.processes h.processes) (make l.later l.process));
      };
      grows = l.grows;
    }

    does : (c : Meaning) (h : IsTyped o c) (i : ℕ) (p : Process) (e : Does) → slice_get c.processes i ≡ Some (Ready p)
        → step limit program c.world p ≡ e → EffectIs o h.store e
    does c h i p e at is =
        subst (EffectIs o h.store) is (step_kept limit o program good h.store c.world p h.heap (h.processes i (Ready p) at))

    over : (c e : Meaning) (i : ℕ) (v : Shared) → (h : IsTyped o c) → HeapIsOf o.adts o.globals h.store v.heap
        → e.processes ≡ set c.processes i Gone → e.world.heap ≡ stays inside (total naming (set c.processes i Gone)) v.heap → StaysTyped o
        h.store e
    over c e i v h heap ps world = record {
      typed = record {
        store = h.store;
        heap = subst (HeapIsOf o.adts o.globals h.store) (sym world) (heap_cut h.store (total naming (set c.processes i Gone)) v.heap heap);
        processes = subst (EachIs h.store) (sym ps) (each_set h.store c.processes i Gone h.processes tt);
      };
      grows = λ n k x. x;
    }

    steps_kept : (c e : Meaning) (i : ℕ) → (h : IsTyped o c) → Steps (rules limit program) naming c i e → StaysTyped o h.store e
    steps_kept c e i0 h (goes i p w q at is) = becomes c e i None w q (Ready q) h (does c h i p (Went w q) at is) (λ l k. k) refl refl
    steps_kept c e i0 h (waits i p w bs q at is) =
        becomes c e i None w q (Waiting bs q) h (does c h i p (Parks w bs q) at is) (λ l k. k) refl refl
    steps_kept c e i0 h (meets i p bs k a j l b q at branch fit) = record {
      typed = record {
        store = h.store;
        heap = heap_cut h.store (total naming e.processes) c.world.heap h.heap;
        processes =
            each_set h.store (set c.processes i (Ready p)) j (Ready q)
            (each_set h.store c.processes i (Ready p) h.processes (h.processes i (Waiting bs p) at))
            (h.processes j (Waiting fit.branches q) fit.waits);
      };
      grows = λ n k x. x;
    }
    steps_kept c e i0 h (polls i p w bs q r k a j l b t at is branch fit) = absurd (does c h i p (Polls w bs q r) at is)
    steps_kept c e i0 h (passes i p w bs q r at is none) = absurd (does c h i p (Polls w bs q r) at is)
    steps_kept c e i0 h (spawns i p w child q at is) = absurd (does c h i p (Spawns w child q) at is)
    steps_kept c e i0 h (asks i p w m q at is) =
        becomes c e i (Some ty.Int) w q (Asking q) h (does c h i p (Asks w m q) at is) (λ l k. k) refl refl
    steps_kept c e i0 h (ends i p w how at is) = over c e i w h (does c h i p (Ends w how) at is) refl refl

    said : (c : Meaning) (h : IsTyped o c) (i : ℕ) (p : Process) (a : Rmsg) (e : Does) → (at : slice_get c.processes i ≡ Some (Asking p))
        → answer a c.world p ≡ e → ReplyIs o h.store c.world p h.heap (h.processes i (Asking p) at) e
    said c h i p a e at is =
        subst (ReplyIs o h.store c.world p h.heap (h.processes i (Asking p) at)) is
        (reply_kept o h.store c.world p h.heap (h.processes i (Asking p) at) a)

    replies_kept : (c e : Meaning) (i : ℕ) (a : Rmsg) → (h : IsTyped o c) → Hears (rules limit program) naming c i a e
        → StaysTyped o h.store e
    replies_kept c e i a h (goes_on p w q at is) =
        becomes c e i None w q (Ready q) h (said c h i p a (Went w q) at is) (λ l k. k) refl refl
    replies_kept c e i a h (asks_again p w m q at is) =
        becomes c e i (Some ty.Int) w q (Asking q) h (said c h i p a (Asks w m q) at is) (λ l k. k) refl refl
    replies_kept c e i a h (is_over p w how at is) = over c e i w h (said c h i p a (Ends w how) at is) refl refl

    run_kept : (i : ℕ) (c e : Meaning) (n : ℕ) → (h : IsTyped o c) → Run (rules limit program) naming i c n e → StaysTyped o h.store e
    run_kept i c e n h still = record { typed = h; grows = λ n k x. x }
    run_kept i c e n h (next {d = d} run last) =
        let f = run_kept i c d _ h run in and_on d e h.store f (steps_kept d e i f.typed last)

    matched_kept : (c e : Meaning) (turns : List RunTurn) → (h : IsTyped o c) → Matched (rules limit program) naming c turns e
        → StaysTyped o h.store e
    matched_kept c e turns h begun = record { typed = h; grows = λ n k x. x }
    matched_kept c e turns h (turn {d = d} i n before run) =
        let f = matched_kept c d _ h before in and_on d e h.store f (run_kept i d e n f.typed run)
    matched_kept c e turns h (down {d = d} l w before lost) = absurd cc
    matched_kept c e turns h (reply {d = d} i a before heard) =
        let f = matched_kept c d _ h before in and_on d e h.store f (replies_kept d e i a f.typed heard)

pub types_are_kept : TypesAreKept
types_are_kept = record {
  step = λ limit o program good store w p heap is. step_kept limit o program good store w p heap is;
  steps = λ limit o program good c e i h x. steps_kept o limit program good c e i h x;
  replies = λ limit o program good c e i a h x. replies_kept o limit program good c e i a h x;
  runs = λ limit o program good c e turns h x. matched_kept o limit program good c e turns h x;
}
