-- What the first statement of a frame fills, and what the frames that wait for others fill.
use Rattle.std.proofs.Common.{ℕ, zero, suc, ◌≡◌, ◌<◌, ◌≤◌, List, [], ◌∷◌, length, Option, None, Some, ◌⊎◌, inl, inr, arith}
use Rattle.heap_model.specs.Heap.{Heap, at}
use Rattle.limbo_meaning.specs.Values.{Value, references}
use Rattle.limbo_meaning.specs.Memory.{HeapValue, inside, Memory}
use Rattle.limbo_meaning.specs.Trees.{Stm, Over, Eval, If, While, Enter, Break, Continue, Return, Leave}
use Rattle.limbo_meaning.specs.Trees.{Loop, Looping, Block, Done, Then, Turn, Again, join, tested, entered, turned, behind, at_turn}
use Rattle.limbo_meaning.specs.Evaluation.{fill_stm, fill_block}
use Rattle.limbo_meaning.specs.Process.{Frame}
use Rattle.limbo_meaning.specs.Origins.{Name, InMemory, stm_references}
use Rattle.limbo_meaning.specs.Owning.{FreshStm, FreshLoop, FreshBlock}
use Rattle.limbo_meaning.proofs.Names.{none}
use Rattle.limbo_filling.specs.Laws.{FillsStayApart}
use Rattle.limbo_filling.specs.Processes.{StmFills, BlockFills, StmFillsApart, BlockFillsApart, block_references}
use Rattle.limbo_filling.specs.Processes.{memory_in, FrameNames, FramesApart}
use Rattle.limbo_filling.proofs.Answered.{names_answered}

-- ---- blocks whose first statement isn't begun

abbrev pub BeginsFresh : Block → Type 0
BeginsFresh (Then s rest) = FreshStm s
BeginsFresh _ = Unit {0}

pub begins : (b : Block) → FreshBlock b → BeginsFresh b
begins Done f = tt
begins (Then s rest) f = f.0
begins (Turn l rest) f = tt
begins (Again l rest) f = tt

pub entered_begins : (l : Loop) (b : Block) → FreshLoop l → BeginsFresh (entered l b)
entered_begins (Looping c n body) b f = go body f.2
  where
    go : (a : Block) → FreshBlock a → BeginsFresh (join a (Turn (Looping c n body) b))
    go Done g = tt
    go (Then s a) g = g.0
    go (Turn l a) g = tt
    go (Again l a) g = tt

pub tested_begins : (l : Loop) (b : Block) → FreshLoop l → BeginsFresh (tested l b)
tested_begins (Looping None n body) b f = f
tested_begins (Looping (Some c) n body) b f = (f.0, f)

pub turned_begins : (l : Loop) (b : Block) → FreshLoop l → BeginsFresh (turned l b)
turned_begins (Looping c None body) b f = tested_begins (Looping c None body) b f
turned_begins (Looping c (Some n) body) b f = f.1

pub behind_begins : (k : ℕ) (b : Block) → FreshBlock b → BeginsFresh (behind k b)
behind_begins k Done f = tt
behind_begins k (Then s b) f = behind_begins k b f.1
behind_begins k (Again l b) f = behind_begins k b f.1
behind_begins zero (Turn l b) f = begins b f.1
behind_begins (suc k) (Turn l b) f = behind_begins k b f.1

pub at_turn_begins : (k : ℕ) (b : Block) → BeginsFresh (at_turn k b)
at_turn_begins k Done = tt
at_turn_begins k (Then s b) = at_turn_begins k b
at_turn_begins k (Again l b) = at_turn_begins k b
at_turn_begins zero (Turn l b) = tt
at_turn_begins (suc k) (Turn l b) = at_turn_begins k b

fresh_names : (s : Stm) → FreshStm s → (n : ℕ) → Name (stm_references s) n → ⊥
fresh_names Over f n h = none n h
fresh_names (Eval t) f n h = f n h
fresh_names (If t a b) f n h = f.0 n h
fresh_names (While t l) f n h = f.0 n h
fresh_names (Enter l) f n h = none n h
fresh_names (Break k) f n h = none n h
fresh_names (Continue k) f n h = none n h
fresh_names (Return t) f n h = f n h
fresh_names Leave f n h = none n h

pub begins_names : (b : Block) → BeginsFresh b → (n : ℕ) → Name (block_references b) n → ⊥
begins_names Done f n h = none n h
begins_names (Then s rest) f n h = fresh_names s f n h
begins_names (Turn l rest) f n h = none n h
begins_names (Again l rest) f n h = none n h

-- ---- what is named behind an answer

module _ (v : Value) where
  abbrev Either : List (Option ℕ) → ℕ → Type 0
  Either rs n = Name rs n ⊎ Name (references v) n

  stm_names : (s : Stm) (n : ℕ) → Name (stm_references (fill_stm v s)) n → Either (stm_references s) n
  stm_names Over n h = inl h
  stm_names (Eval t) n h = names_answered v t n h
  stm_names (If t a b) n h = names_answered v t n h
  stm_names (While t l) n h = names_answered v t n h
  stm_names (Enter l) n h = inl h
  stm_names (Break k) n h = inl h
  stm_names (Continue k) n h = inl h
  stm_names (Return t) n h = names_answered v t n h
  stm_names Leave n h = inl h

  pub block_names : (b : Block) (n : ℕ) → Name (block_references (fill_block v b)) n → Either (block_references b) n
  block_names Done n h = inl h
  block_names (Then s rest) n h = stm_names s n h
  block_names (Turn l rest) n h = inl h
  block_names (Again l rest) n h = inl h

-- n is named inside a heap
abbrev pub Inside : Heap HeapValue → ℕ → Type 0
Inside h n = (a : ℕ) × (u : HeapValue) × (at h a ≡ Some u) × (0 < inside u n)

module _ (trees : FillsStayApart) where
  -- ---- the first statement, as its tree

  fresh_stm : (m : Memory) (s : Stm) → FreshStm s → StmFillsApart m s
  fresh_stm m Over f = tt
  fresh_stm m (Eval t) f = trees.fresh m t f
  fresh_stm m (If t a b) f = trees.fresh m t f.0
  fresh_stm m (While t l) f = trees.fresh m t f.0
  fresh_stm m (Enter l) f = tt
  fresh_stm m (Break k) f = tt
  fresh_stm m (Continue k) f = tt
  fresh_stm m (Return t) f = trees.fresh m t f
  fresh_stm m Leave f = tt

  pub fresh_block : (m : Memory) (b : Block) → BeginsFresh b → BlockFillsApart m b
  fresh_block m Done f = tt
  fresh_block m (Then s rest) f = fresh_stm m s f
  fresh_block m (Turn l rest) f = tt
  fresh_block m (Again l rest) f = tt

  stm_apart : (m : Memory) (s : Stm) (n : ℕ) → StmFillsApart m s → StmFills s n → (n < length m.heap) × (InMemory m n → ⊥)
  stm_apart m Over n f x = absurd x
  stm_apart m (Eval t) n f x = trees.apart m t n f x
  stm_apart m (If t a b) n f x = trees.apart m t n f x
  stm_apart m (While t l) n f x = trees.apart m t n f x
  stm_apart m (Enter l) n f x = absurd x
  stm_apart m (Break k) n f x = absurd x
  stm_apart m (Continue k) n f x = absurd x
  stm_apart m (Return t) n f x = trees.apart m t n f x
  stm_apart m Leave n f x = absurd x

  block_apart : (m : Memory) (b : Block) (n : ℕ) → BlockFillsApart m b → BlockFills b n → (n < length m.heap) × (InMemory m n → ⊥)
  block_apart m Done n f x = absurd x
  block_apart m (Then s rest) n f x = stm_apart m s n f x
  block_apart m (Turn l rest) n f x = absurd x
  block_apart m (Again l rest) n f x = absurd x

  stm_answers : (m : Memory) (s : Stm) (v : Value) → StmFillsApart m s → ((n : ℕ) → StmFills s n → Name (references v) n → ⊥)
      → StmFillsApart m (fill_stm v s)
  stm_answers m Over v f k = tt
  stm_answers m (Eval t) v f k = trees.answers m t v f k
  stm_answers m (If t a b) v f k = trees.answers m t v f k
  stm_answers m (While t l) v f k = trees.answers m t v f k
  stm_answers m (Enter l) v f k = tt
  stm_answers m (Break n) v f k = tt
  stm_answers m (Continue n) v f k = tt
  stm_answers m (Return t) v f k = trees.answers m t v f k
  stm_answers m Leave v f k = tt

  pub block_answers : (m : Memory) (b : Block) (v : Value) → BlockFillsApart m b
      → ((n : ℕ) → BlockFills b n → Name (references v) n → ⊥) → BlockFillsApart m (fill_block v b)
  block_answers m Done v f k = tt
  block_answers m (Then s rest) v f k = stm_answers m s v f k
  block_answers m (Turn l rest) v f k = tt
  block_answers m (Again l rest) v f k = tt

  -- another memory, which has come to name nothing that is filled
  module _ (m m' : Memory) (long : length m.heap ≤ length m'.heap) where
    stm_elsewhere : (s : Stm) → ((n : ℕ) → StmFills s n → InMemory m' n → InMemory m n) → StmFillsApart m s → StmFillsApart m' s
    stm_elsewhere Over k f = tt
    stm_elsewhere (Eval t) k f = trees.elsewhere m m' t long k f
    stm_elsewhere (If t a b) k f = trees.elsewhere m m' t long k f
    stm_elsewhere (While t l) k f = trees.elsewhere m m' t long k f
    stm_elsewhere (Enter l) k f = tt
    stm_elsewhere (Break n) k f = tt
    stm_elsewhere (Continue n) k f = tt
    stm_elsewhere (Return t) k f = trees.elsewhere m m' t long k f
    stm_elsewhere Leave k f = tt

    pub block_elsewhere : (b : Block) → ((n : ℕ) → BlockFills b n → InMemory m' n → InMemory m n) → BlockFillsApart m b
        → BlockFillsApart m' b
    block_elsewhere Done k f = tt
    block_elsewhere (Then s rest) k f = stm_elsewhere s k f
    block_elsewhere (Turn l rest) k f = tt
    block_elsewhere (Again l rest) k f = tt

  -- ---- frames that wait

  -- What the heap names behind it was named in it or above; what is named above behind it was so, or is new.
  module _ (h h' : Heap HeapValue) (long : length h ≤ length h') where
    pub frames_on : (fs : List Frame) (Above Above' : ℕ → Type 0) → ((n : ℕ) → Inside h' n → Above n ⊎ Inside h n)
        → ((n : ℕ) → Above' n → Above n ⊎ (Inside h n ⊎ (length h ≤ n))) → FramesApart h Above fs → FramesApart h' Above' fs
    frames_on [] Above Above' in_heap above k = tt
    frames_on (f ∷ fs) Above Above' in_heap above k = (
      block_elsewhere (memory_in h f) (memory_in h' f) long f.todo
          (λ n x now. elim now [ inl y ↦ inl y | inr y ↦ elim (in_heap n y) [ inl z ↦ absurd (k.1 n x z) | inr z ↦ inr z ] ]) k.0,
      (λ n x up. elim (above n up) [
        | inl y ↦ k.1 n x y
        | inr y ↦
            let a = block_apart (memory_in h f) f.todo n k.0 x in
            elim y [ inl z ↦ a.1 (inr z) | inr z ↦ let taken : n < length h = a.0 in omega arith ]
      ]),
      frames_on fs (λ n. Above n ⊎ FrameNames f n) (λ n. Above' n ⊎ FrameNames f n)
          (λ n y. elim (in_heap n y) [ inl z ↦ inl (inl z) | inr z ↦ inr z ])
          (λ n up. elim up [ inl y ↦ elim (above n y) [ inl z ↦ inl (inl z) | inr z ↦ inr z ] | inr y ↦ inl (inr y) ]) k.2,
    )
