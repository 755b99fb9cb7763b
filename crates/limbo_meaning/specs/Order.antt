-- In which order the parts of an expression are evaluated, and what their steps change.
use Rattle.std.specs.Prelude.{ℕ, ◌≡◌, ◌⊎◌, Bool, true, false, List, [], ◌∷◌, Option}
use Rattle.limbo_layout.specs.Adts.{Def}
use Rattle.limbo_types.specs.Types.{Ty}
use Rattle.limbo_meaning.specs.Values.{Value}
use Rattle.limbo_meaning.specs.Memory.{HeapValue, Memory, made}
use Rattle.limbo_meaning.specs.Places.{Way}
use Rattle.limbo_meaning.specs.Trees.{Work, Read, Assign, Copy, Term, Evaluated, Terms, MoreTerms}
use Rattle.limbo_meaning.specs.Evaluation.{Progress, Stepped, Calls, Prints, performed, next, next_all, fill, fill_all}

-- Operands of which the first are values, and then comes this one.
abbrev pub behind_values : List Value → Term → Terms → Terms
behind_values [] t ts = MoreTerms t ts
behind_values (v ∷ vs) t ts = MoreTerms (Evaluated v) (behind_values vs t ts)

-- A step among operands is a step of the first that isn't a value. Those before it are values and stay so, and those behind it are as they
-- were.
pub record OfFirst (defs : List Def) (m : Memory) (ts us : Terms) (comes_to : Term → Progress Value Term) : Type 0 where
  pub values : List Value
  pub ready : Term
  pub becomes : Term
  pub rest : Terms
  pub before : ts ≡ behind_values values ready rest
  pub after : us ≡ behind_values values becomes rest
  pub step : next defs m ready ≡ comes_to becomes

-- From left to right: in `y + f()` the value of y is there before f is called, and no answer changes it.
pub record LeftToRight : Type 0 where
  pub steps : (defs : List Def) (m m' : Memory) (ts us : Terms) (got : List (Option ℕ)) →
      next_all defs m ts ≡ Stepped m' got us → OfFirst defs m ts us (Stepped m' got)
  pub calls : (defs : List Def) (m : Memory) (ts us : Terms) (a : Ty) (f : ℕ) (args : List Value) →
      next_all defs m ts ≡ Calls a f args us → OfFirst defs m ts us (Calls a f args)
  pub prints : (defs : List Def) (m : Memory) (ts us : Terms) (text : List ℕ) →
      next_all defs m ts ≡ Prints text us → OfFirst defs m ts us (Prints text)
  pub answers : (v : Value) (vs : List Value) (t : Term) (ts : Terms) →
      fill_all v (behind_values vs t ts) ≡ behind_values vs (fill v t) (fill_all v ts)

-- The memory is as it was, or has one value of the heap more.
abbrev pub AddsAtMost : Memory → Memory → Type 0
AddsAtMost m m' = (m' ≡ m) ⊎ ((v : HeapValue) × (m' ≡ made m v))

abbrev pub is_write : Work → Bool
is_write (Assign aims) = true
is_write Copy = true
is_write _ = false

-- Reading changes nothing; and only assignments and copies change what is there.
pub record OnlyWritesChange : Type 0 where
  pub reads : (defs : List Def) (m m' : Memory) (t : Ty) (w : Way) (vs : List Value) (got : List (Option ℕ)) (u : Term) →
      performed defs m t (Read w) vs ≡ Stepped m' got u → m' ≡ m
  pub others : (defs : List Def) (m m' : Memory) (t : Ty) (o : Work) (vs : List Value) (got : List (Option ℕ)) (u : Term) →
      is_write o ≡ false → performed defs m t o vs ≡ Stepped m' got u → AddsAtMost m m'
