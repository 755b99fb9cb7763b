-- An example under the law, and a run of it that computes: a language that adds 2 in one step, and a machine that adds 1 twice.
-- Processes start others, which the world counts; so between the two instructions of one the others may change the world.
use Rattle.std.proofs.Common.{◌≡◌, ℕ, zero, suc, ◌<◌, List, [], ◌∷◌, Some, None, refl, sym, ap, subst, arith}
use Rattle.process_model.specs.Process.{Effect, Went, Spawns, Ends, Doing, Ready, Waiting, Asking, Gone, Rules, Over}
use Rattle.process_model.specs.Machine.{State, Event, Quantum, replay}
use Rattle.process_model.specs.Law.{Beside, EveryJournal, begins_code}
use Rattle.process_model.specs.Follows.{Sides, StandsAlike}
use Rattle.process_model.specs.Plain.{no_names, opened}
use Rattle.process_model.proofs.NoHeap.{no_heap}
use Rattle.process_model.proofs.Quiet.{quiets_none}
use Rattle.process_model.proofs.Journals.{every_journal}
use Rattle.process_ways.specs.Ways.{Does, Way, with_ways, Steps}
use Rattle.process_ways.proofs.On.{way_on, silent, stepped}
use Rattle.process_ways.proofs.Follows.{ways_follow}

-- What is to be done: 2 is added; a child begins with the sum so far.
pub data Task : Type 0 where
  Done : Task
  Two : Task → Task
  Start : Task → Task → Task

pub record Sum : Type 0 where
  pub sum : ℕ
  pub todo : Task

abbrev pub sum : ℕ → Task → Sum
sum n t = record { sum = n; todo = t }

-- The world counts the children.
abbrev pub acts : ℕ → ℕ → Task → Effect ℕ Sum ℕ ℕ ℕ
acts w n Done = Ends w n
acts w n (Two t) = Went w (sum (suc (suc n)) t)
acts w n (Start child t) = Spawns (suc w) (sum n child) (sum n t)

pub data Code : Type 0 where
  Stop : Code
  One : Code → Code
  Fork : Code → Code → Code

pub record Register : Type 0 where
  pub value : ℕ
  pub code : Code

abbrev pub register : ℕ → Code → Register
register n c = record { value = n; code = c }

abbrev pub obeys : ℕ → ℕ → Code → Effect ℕ Register ℕ ℕ ℕ
obeys x n Stop = Ends x n
obeys x n (One c) = Went x (register (suc n) c)
obeys x n (Fork child c) = Spawns (suc x) (register n child) (register n c)

abbrev pub compile : Task → Code
compile Done = Stop
compile (Two t) = One (One (compile t))
compile (Start child t) = Fork (compile child) (compile t)

abbrev pub program : Rules ℕ Sum ℕ ℕ ℕ ℕ
program = record { step = λ w p. acts w p.sum p.todo; wake = λ j v w p. record { world = w; process = p }; answer = λ a w p. Ends w a; down = λ l w. None }

abbrev pub code : Rules ℕ Register ℕ ℕ ℕ ℕ
code = record { step = λ x q. obeys x q.value q.code; wake = λ j v x q. record { world = x; process = q }; answer = λ a x q. Ends x a; down = λ l x. None }

abbrev pub compiled : Sum → Register
compiled p = register p.sum (compile p.todo)

-- They stand alike where the machine's process is what the source's is compiled to.
abbrev pub sides : Sides (Unit {0}) ℕ ℕ Sum Register ℕ ℕ ℕ ℕ ℕ
sides = opened (record {
  grows = λ a b. Unit {0};
  program = program;
  code = code;
  ready = λ k p q. q ≡ compiled p;
  asking = λ k p q. ⊥;
  waiting = λ k bs p q. ⊥;
  worlds = λ k w x. w ≡ x;
})

-- 1 where an odd number of instructions add 1 from here on, so where the first of two was made.
abbrev pub other : ℕ → ℕ
other zero = 1
other (suc n) = 0

abbrev pub odd : Code → ℕ
odd Stop = 0
odd (One c) = other (odd c)
odd (Fork child c) = 0

abbrev pub place : Register → ℕ
place q = odd q.code

even : (t : Task) → odd (compile t) ≡ 0
even Done = refl
even (Two t) = ap (λ n. other (other n)) (even t)
even (Start child t) = refl

other_two : (n : ℕ) → other n < 2
other_two zero = omega arith
other_two (suc n) = omega arith

within : (c : Code) → odd c < 2
within Stop = omega arith
within (One c) = other_two (odd c)
within (Fork child c) = omega arith

module _ (i n : ℕ) (t : Task) where
  -- behind the first of two instructions
  abbrev between : Register
  between = register (suc n) (One (compile t))

  last : (k : Unit {0}) (x : ℕ) → Way sides place 1 k i x (sum n (Two t)) between
  last k x =
      way_on sides place 0 i (sum n (Two t)) (λ k x q. q ≡ between) (λ k x p q. q ≡ compiled p)
      (λ k now x y q a l h. a)
      (λ k x q a. tt)
      (λ k w x q a e.
      subst (λ q. Does sides place (λ k x p q. q ≡ compiled p) (place q) k i w x (sum n (Two t)) (code.step x q)) (sym a)
      (stepped sides place (λ k x p q. q ≡ compiled p) k tt i w x x (sum n (Two t)) between (compiled (sum (suc (suc n)) t)) refl tt w (sum (suc (suc n)) t) refl e refl))
      (λ k x p q b. b)
      k x between refl

  rises : place (compiled (sum n (Two t))) < place between
  rises = let e = even t in subst (λ m. other (other m) < other m) (sym e) (omega arith)

  both : (k : Unit {0}) (x : ℕ) → Way sides place 2 k i x (sum n (Two t)) (compiled (sum n (Two t)))
  both k x =
      way_on sides place 1 i (sum n (Two t)) (λ k x q. q ≡ compiled (sum n (Two t))) (λ k x p q. Way sides place 1 k i x p q)
      (λ k now x y q a l h. a)
      (λ k x q a. tt)
      (λ k w x q a e.
      subst (λ q. Does sides place (λ k x p q. Way sides place 1 k i x p q) (place q) k i w x (sum n (Two t)) (code.step x q)) (sym a)
      (silent sides place (λ k x p q. Way sides place 1 k i x p q) k tt i w x x (sum n (Two t)) (compiled (sum n (Two t))) between refl tt e rises (last tt x)))
      (λ k x p q b. b)
      k x (compiled (sum n (Two t))) refl

each : (k : Unit {0}) (i x n : ℕ) (t : Task) → (m : ℕ) × Way sides place (suc m) k i x (sum n t) (compiled (sum n t))
each k i x n Done = (
  0,
  (
    tt,
    λ now y w l h e. record {
      now = tt;
      changes = tt;
      world = w;
      comes = record { steps = 0; world = w; before = sum n Done; quiets = quiets_none program no_names w (sum n Done); does = refl };
      worlds = e;
    },
  ),
)
each k i x n (Two t) = (1, both i n t k x)
each k i x n (Start child t) = (
  0,
  (
    tt,
    λ now y w l h e. record {
      now = tt;
      changes = tt;
      world = suc w;
      own = sum n child;
      after = sum n t;
      comes = record { steps = 0; world = w; before = sum n (Start child t); quiets = quiets_none program no_names w (sum n (Start child t)); does = refl };
      related_child = λ j. refl;
      related = refl;
      worlds = ap suc e;
    },
  ),
)

keeps : (k now : Unit {0}) (i x x' : ℕ) (d : Doing Sum ℕ) (e : Doing Register ℕ) → StandsAlike sides k i x (Some d) (Some e) → StandsAlike sides now i x' (Some d) (Some e)
keeps k now i x x' (Ready p) (Ready q) r = r
keeps k now i x x' (Waiting bs p) (Waiting cs q) r = r
keeps k now i x x' (Asking p) (Asking q) r = r
keeps k now i x x' Gone Gone r = tt
keeps k now i x x' _ _ r = absurd r

unfoldable steps : Steps sides place
steps = record {
  heaps = no_heap _ (λ k. tt) (λ a b c g h. tt);
  same = λ i k x. tt;
  on = λ i a b c x y z l m. tt;
  table = λ k i x bs cs p q h. absurd h.1;
  rooted = λ k i x d e r. tt;
  keeps = λ k now i x x' d e r l h. keeps k now i x x' d e r;
  bound = 2;
  some = omega arith;
  within = λ q. within q.code;
  each = λ k i x p q r. subst (λ q. (m : ℕ) × Way sides place (suc m) k i x p q) (sym r) (each k i x p.sum p.todo);
  answers = λ k i a w x p q h. absurd h;
  downs = λ k l w x x' e f. absurd cc;
  meets = λ k i j w x bs cs p q n a a' bs' cs' p' q' l b b' ne h. absurd h.1;
}

-- Every journal of the code is a run of the program, and of two instructions in a row of one process one is a step.
pub law : (w : ℕ) (p : Sum) → EveryJournal (with_ways sides place) tt w w p (compiled p) 2
unfolding steps
law w p =
    let f = ways_follow sides place steps in
    subst (λ b. EveryJournal (with_ways sides place) tt w w p (compiled p) b) f.pace
    (every_journal (with_ways sides place) f.follows tt w w p (compiled p) (0, refl) refl (record { kept = refl; none = refl }))

-- ---- a run that computes

-- a child is started, and both add 2
abbrev pub todo : Task
todo = Start (Two Done) (Two Done)

-- quanta of one instruction; each makes its first addition before the other makes its second
abbrev pub turns : List (Event ℕ)
turns = Quantum 0 1 ∷ Quantum 0 1 ∷ Quantum 1 1 ∷ Quantum 0 1 ∷ Quantum 1 1 ∷ Quantum 0 1 ∷ Quantum 1 1 ∷ []

abbrev pub after : State ℕ Register ℕ ℕ ℕ ℕ
after = record { processes = Gone ∷ Gone ∷ []; world = 1; waiters = []; trace = Over 0 7 ∷ Over 1 7 ∷ [] }

pub computed : replay code no_names 1 (begins_code 0 (compiled (sum 5 todo))) turns ≡ Some after
computed = refl

-- The run of the program beside that journal, with the same told.
pub runs_beside : Beside (with_ways sides place) tt 0 (sum 5 todo) 2 turns after
runs_beside = law 0 (sum 5 todo) 1 turns after computed
