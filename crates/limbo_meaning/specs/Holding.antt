-- What the statements of a process hold: a statement's references go in the order got, each in a step of its own.
use Rattle.std.specs.Prelude.{ℕ, ◌≡◌, ◌⊎◌, Bool, true, false, List, [], ◌∷◌, ◌++◌, length, Option, None}
use Rattle.process_model.specs.Process.{Went}
use Rattle.process_model.specs.Alone.{Goes}
use Rattle.limbo_meaning.specs.Values.{Value, references}
use Rattle.limbo_meaning.specs.Trees.{Term, Evaluated, Stm, Over, Eval, If, While, Block, Then}
use Rattle.limbo_meaning.specs.Program.{Program}
use Rattle.limbo_meaning.specs.Process.{Shared, Frame, Process, framed, with_frames}
use Rattle.limbo_meaning.specs.Step.{step}
use Rattle.limbo_meaning.specs.Rules.{rules}

abbrev pub is_evaluated : Term → Bool
is_evaluated (Evaluated v) = true
is_evaluated _ = false

-- Only the end of the statement is left to do, or the decision of a condition.
abbrev pub is_at_end : Stm → Bool
is_at_end Over = true
is_at_end (Eval t) = is_evaluated t
is_at_end (If t a b) = is_evaluated t
is_at_end (While t l) = is_evaluated t
is_at_end _ = false

abbrev pub ends_first : Block → Bool
ends_first (Then s rest) = is_at_end s
ends_first _ = false

-- The first statement of the frame that runs is at its end.
abbrev pub IsAtEnd : Process → Type 0
IsAtEnd p = ends_first p.frame.todo ≡ true

-- The process as it is, but for what it holds.
abbrev pub holding : Process → List (Option ℕ) → Process
holding p held = with_frames p (framed p.frame p.frame.variables held p.frame.todo) p.below

-- What a frame holds after a step that isn't a call or a return: in addition, at the end, what was got; or all but the first, where a
-- statement is at its end.
pub data HoldsThen (p q : Process) : Type 0 where
  got_more : (got : List (Option ℕ)) → q.frame.held ≡ p.frame.held ++ got → HoldsThen p q
  let_go : (r : Option ℕ) → IsAtEnd p → p.frame.held ≡ r ∷ q.frame.held → HoldsThen p q

-- What waits below after a call: the frame that called, which holds what it held. The new one holds nothing.
pub record HoldsBelow (p q : Process) : Type 0 where
  pub caller : Frame
  pub waits : q.below ≡ caller ∷ p.below
  pub still : caller.held ≡ p.frame.held
  pub nothing : q.frame.held ≡ []

-- What the frame below holds after a return: in addition the references of the answer.
pub record HoldsAnswer (p q : Process) : Type 0 where
  pub caller : Frame
  pub waited : p.below ≡ caller ∷ q.below
  pub answer : Value
  pub more : q.frame.held ≡ caller.held ++ references answer

pub record HeldInOrder : Type 0 where
  -- at a statement's end the first reference goes, and nothing else is done
  pub first : (limit : ℕ) (program : Program) (w : Shared) (p : Process) (r : Option ℕ) (rs : List (Option ℕ)) →
      IsAtEnd p → p.frame.held ≡ r ∷ rs → step limit program w p ≡ Went w (holding p rs)
  -- so all go, one by one, until nothing is held
  pub all : (limit : ℕ) (program : Program) (w : Shared) (p : Process) →
      IsAtEnd p → p.printing ≡ None → Goes (rules limit program) (length p.frame.held) w p w (holding p [])
  -- no other step lets go anything that a frame holds, until the frame returns
  pub steps : (limit : ℕ) (program : Program) (w v : Shared) (p q : Process) → step limit program w p ≡ Went v q →
      HoldsThen p q ⊎ (HoldsBelow p q ⊎ HoldsAnswer p q)
