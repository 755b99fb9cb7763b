-- Runs that compute. Two processes make a block each, the first one first, and name them in the other order; a value that is made anew
-- goes on both sides in the same step; and the law holds of it all.
use Rattle.std.proofs.Common.{◌≡◌, ℕ, List, [], ◌∷◌, Option, Some, None, refl, arith}
use Rattle.process_model.specs.Process.{Gone, Entry, Over, Released}
use Rattle.process_model.specs.Machine.{Event, Quantum, State, replay}
use Rattle.process_model.specs.Law.{Beside, begins_code}
use Rattle.heap_model.specs.Facts.{Fact, Named, Facts}
use Rattle.heap_model.specs.Worlds.{WorldsAlike}
use Rattle.heap_model.specs.Joined.{World, sides}
use Rattle.heap_model.proofs.Values.{Num, Plain, Form, Block, contents}
use Rattle.heap_model.proofs.Makers.{Ops, Done, Make, Fork, Program, Code, code_of, W, X, program, code, parts, IsReady, begins, law}

-- it starts a child that makes a value, makes one itself, lets it go for a second one, and both end
abbrev pub todo : Ops
todo = Fork (Make Done) (Make (Make Done))

abbrev pub start : Program
start = record { first = Num 1; second = Num 7; todo = todo }

abbrev pub code_start : Code
code_start = record { first = Plain 1 ∷ []; second = Plain 7 ∷ []; temp = None; todo = code_of todo }

abbrev pub empty : {A : Type 0} → World A ℕ
empty = record { heap = []; outside = 0 }

abbrev pub told : Option (State X Code ℕ ℕ ℕ ℕ) → Option (List (Entry ℕ ℕ ℕ ℕ))
told None = None
told (Some s) = Some s.trace

-- quanta of two instructions at most
abbrev pub run : List (Event ℕ) → Option (State X Code ℕ ℕ ℕ ℕ)
run es = replay code (sides parts).code_naming 2 (begins_code empty code_start) es

-- Process 0 starts its child and makes block 0; the child makes block 1 and fills it; then process 0 fills block 0, makes and fills
-- block 2, at which block 0 goes, and ends; at last the child ends.
abbrev pub turns : List (Event ℕ)
turns = Quantum 0 2 ∷ Quantum 1 2 ∷ Quantum 0 2 ∷ Quantum 0 2 ∷ Quantum 1 1 ∷ []

abbrev pub after : State X Code ℕ ℕ ℕ ℕ
after = record {
  processes = Gone ∷ Gone ∷ [];
  world = record { heap = None ∷ None ∷ None ∷ []; outside = 0 };
  waiters = [];
  trace = Released 0 (0 ∷ []) ∷ Over 0 0 ∷ Released 0 (2 ∷ []) ∷ Over 1 0 ∷ Released 1 (1 ∷ []) ∷ [];
}

computed : run turns ≡ Some after
computed = refl

told_so : told (run turns) ≡ Some (Released 0 (0 ∷ []) ∷ Over 0 0 ∷ Released 0 (2 ∷ []) ∷ Over 1 0 ∷ Released 1 (1 ∷ []) ∷ [])
told_so = refl

-- The source, step by step in the order in which blocks were filled: the child's value is 0, process 0's are 1 and 2. So block 1 is
-- value 0, and block 0 is value 1.
abbrev pub source_told : Option (State W Program ℕ ℕ ℕ ℕ) → Option (List (Entry ℕ ℕ ℕ ℕ))
source_told None = None
source_told (Some s) = Some s.trace

source_run : source_told (replay program (sides parts).naming 1 (begins_code empty start) (Quantum 0 1 ∷ Quantum 1 1 ∷ Quantum 0 1 ∷ Quantum 0 1 ∷ Quantum 0 1 ∷ Quantum 1 1 ∷ []))
    ≡ Some (Released 0 (1 ∷ []) ∷ Over 0 0 ∷ Released 0 (2 ∷ []) ∷ Over 1 0 ∷ Released 1 (0 ∷ []) ∷ [])
source_run = refl

-- ---- by the law

pub no_two : (m n n' : ℕ) → ◌≡◌ {A = Option (Fact Block)} None (Some (Named m)) → ◌≡◌ {A = Option (Fact Block)} None (Some (Named m)) → n ≡ n'
no_two m n n' e f = absurd cc

abbrev pub nothing_known : Facts Block Form
nothing_known = record { fact = λ n. None; maker = λ n. None; form = λ n. None; once = no_two }

empty_alike : WorldsAlike contents nothing_known [] []
empty_alike = record {
  unmade = λ n l. record { fact = refl; maker = refl; form = refl };
  unnamed = λ m n l e. cc;
  there = λ m v e. absurd cc;
  here = λ m n b e f. absurd cc;
  texts = λ n t b f e. absurd cc;
  parts = λ n m s l b f e. absurd cc;
  carriers = λ n d b f e. absurd cc;
  frees = λ n q b f g e u. absurd cc;
  bares = λ n b f e. absurd cc;
  closed = record { closed = λ a b e u. absurd cc };
}

start_ready : IsReady nothing_known 0 [] start code_start
start_ready = record { first = refl; second = refl; live = λ n p. absurd (omega arith); place = begins }

-- The run of the source beside that journal, with the same told.
runs_beside : Beside (sides parts) nothing_known empty start 2 turns after
runs_beside = law nothing_known empty empty start code_start start_ready empty_alike refl (record { kept = refl; none = refl }) 2 turns after computed
