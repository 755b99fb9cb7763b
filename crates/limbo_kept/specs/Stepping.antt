-- What a step in a tree leaves.
use Rattle.std.specs.Prelude.{ℕ, ◌≡◌, List, Option, None, Some, slice_get}
use Rattle.limbo_types.specs.Types as ty
use Rattle.limbo_types.specs.Types.{Ty}
use Rattle.limbo_meaning.specs.Values.{Value}
use Rattle.limbo_meaning.specs.Memory.{Memory}
use Rattle.limbo_meaning.specs.Trees.{Term}
use Rattle.limbo_meaning.specs.Evaluation.{Progress, Finished, Stepped, Calls, Prints, next}
use Rattle.limbo_kept.specs.Values.{Store, Fits, AllFit}
use Rattle.limbo_kept.specs.Stores.{MemoryIsOf, Grows}
use Rattle.limbo_kept.specs.Trees.{Signature, Scope, TermIs}

module _ (s : Scope) (store : Store) where
  -- The store has grown, the memory is as it says then, and what is left is so too.
  pub record StepsTo (is : Store → Type 0) (m : Memory) : Type 0 where
    pub later : Store
    pub grows : Grows store later
    pub memory : MemoryIsOf s.adts s.globals later s.variables m
    pub left : is later

  -- A function is called that takes these values and has this answer.
  pub record CallsOne (f : ℕ) (answer : Ty) (args : List Value) : Type 0 where
    pub signature : Signature
    pub there : slice_get s.signatures f ≡ Some signature
    pub takes : AllFit s.adts store signature.takes args
    pub gives : signature.answer ≡ answer

  -- What is evaluated is so; what is left behind a step is so, and what waits for an answer of a function, or of a print.
  abbrev pub Keeps : {R X : Type 0} → (R → Type 0) → (Store → Option Ty → X → Type 0) → Progress R X → Type 0
  Keeps done is (Finished r) = done r
  Keeps done is (Stepped m got x) = StepsTo (λ later. is later None x) m
  Keeps done is (Calls a f args x) = CallsOne f a args × is store (Some a) x
  Keeps done is (Prints text x) = is store (Some ty.Int) x
  Keeps done is _ = Unit {0}

-- A tree that gives a value which fits a type keeps so with each step, and so does what it leaves.
abbrev pub TreesKeepTypes : Type 0
TreesKeepTypes =
    (s : Scope) (store : Store) (m : Memory) → MemoryIsOf s.adts s.globals store s.variables m → (e : Term) (t : Ty) →
    TermIs s store None e t → Keeps s store (λ v. Fits s.adts store t v) (λ later w x. TermIs s later w x t) (next s.adts m e)
