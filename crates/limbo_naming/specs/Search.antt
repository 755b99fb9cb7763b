-- What is known while it is looked for what each declaration leads to.
use Rattle.std.specs.Prelude.{◌≡◌, ℕ, ◌+◌, ◌<◌, List, [], ◌∷◌, Option, None, Some, length, slice_get}
use Rattle.limbo_entries.specs.Entries.{Entry, AreOnce}
use Rattle.limbo_naming.specs.declared.state.State.{State}
use Rattle.limbo_naming.specs.declared.state.State.TheVariants.{NotYet, Entered, Done}
use Rattle.limbo_naming.specs.declared.state.Found.{Found}
use Rattle.limbo_naming.specs.declared.state.Found.TheVariants as found
use Rattle.limbo_naming.specs.Qualified.{Qualified}
use Rattle.limbo_naming.specs.Naming.{Leads, Names, Lacks}
use Rattle.limbo_naming.specs.Depth.{GoesThrough, NamesThrough}

abbrev pub HasState : List State → ℕ → State → Type 0
HasState states k state = slice_get states k ≡ Some state

-- It isn't known where it leads.
abbrev pub IsOpen : List State → ℕ → Type 0
IsOpen states k = (r : Option ℕ) → HasState states k (Done r) → ⊥

-- What is done leads where its state says.
pub record AreKnown (es : List Entry) (m : ℕ) (states : List State) : Type 0 where
  pub same_length : length states ≡ length es
  pub leads : (j r : ℕ) → HasState states j (Done (Some r)) → Leads es m j r
  pub nowhere : (j r : ℕ) → HasState states j (Done None) → Leads es m j r → ⊥

-- Each scope has each name once, and what is done leads where its state says.
pub record IsSight (es : List Entry) (m : ℕ) (states : List State) : Type 0 where
  pub once : AreOnce es
  pub known : AreKnown es m states

-- What was found of a name that is written in a scope: what it names; that it isn't there; that it names nothing; or a declaration
-- through which it leads and that isn't done.
abbrev pub Says : List Entry → (m : ℕ) → List State → Option ℕ → Qualified → Found → Type 0
Says es m states scope q (found.Named r) = Names es m scope q r
Says es m states scope q found.Unknown = Lacks es m scope q
Says es m states scope q found.Nothing = (Lacks es m scope q → ⊥) × ((r : ℕ) → Names es m scope q r → ⊥)
Says es m states scope q (found.Needs k) = (k < length es) × IsOpen states k × NamesThrough es m scope q k

-- The same of what a declaration leads to, by its state alone.
abbrev pub SaysOf : List Entry → (m : ℕ) → List State → (j : ℕ) → Found → Type 0
SaysOf es m states j (found.Named r) = Leads es m j r
SaysOf es m states j found.Unknown = ⊥
SaysOf es m states j found.Nothing = (r : ℕ) → Leads es m j r → ⊥
SaysOf es m states j (found.Needs k) = (k ≡ j) × IsOpen states k

-- The same by what the declaration stands for.
abbrev pub Tries : List Entry → (m : ℕ) → List State → (j : ℕ) → Found → Type 0
Tries es m states j (found.Named r) = Leads es m j r
Tries es m states j found.Unknown = (r : ℕ) → Leads es m j r → ⊥
Tries es m states j found.Nothing = (r : ℕ) → Leads es m j r → ⊥
Tries es m states j (found.Needs k) = (k < length es) × IsOpen states k × GoesThrough es m j k

-- A path leads from each declaration that stands on it to the next. Those on the path are entered, and no other.
pub record IsSearch (es : List Entry) (m : ℕ) (states : List State) (path : List ℕ) : Type 0 where
  pub known : AreKnown es m states
  pub way : (i j k : ℕ) → slice_get path i ≡ Some j → slice_get path (i + 1) ≡ Some k → GoesThrough es m j k
  pub entered : (i j : ℕ) → slice_get path i ≡ Some j → HasState states j Entered
  pub on_path : (j : ℕ) → HasState states j Entered → (i : ℕ) × (slice_get path i ≡ Some j)
  pub once : (i j k : ℕ) → slice_get path i ≡ Some k → slice_get path j ≡ Some k → i ≡ j

-- A declaration leads to this one, or nowhere.
abbrev pub LeadsTo : List Entry → (m j : ℕ) → Option ℕ → Type 0
LeadsTo es m j None = (r : ℕ) → Leads es m j r → ⊥
LeadsTo es m j (Some r) = Leads es m j r

-- it is known of each where it leads
abbrev pub AreDone : List State → Type 0
AreDone states = (j : ℕ) (state : State) → HasState states j state → (to : Option ℕ) × (state ≡ Done to)

-- how many weren't looked at
abbrev pub unseen : List State → ℕ
unseen [] = 0
unseen (NotYet ∷ states) = 1 + unseen states
unseen (Entered ∷ states) = unseen states
unseen (Done r ∷ states) = unseen states

-- what is left to do: each declaration is entered once and left once
abbrev pub left : List State → List ℕ → ℕ
left states path = unseen states + unseen states + length path
