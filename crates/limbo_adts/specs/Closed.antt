-- Lists that say for each adt which adts its values may come to hold.
use Rattle.std.specs.Global.{Global}
use Rattle.std.specs.Prelude.{Vec, ◌≡◌, ℕ, ◌+◌, ◌<◌, ◌≤◌, ◌⊎◌, Bool, true, List, [], ◌∷◌, ◌++◌, length, Some, slice_get, slice_index_or, if◌then◌else◌}
use Rattle.limbo_types.specs.Types.{Ty, Tys, ArrayOf, ListOf, ChanOf, Tuple, Adt, RefAdt, RefPick, NoTys, MoreTys}
use Rattle.limbo_layout.specs.Adts.{Def, Has, field_types}

-- the adts that a type names
abbrev mutual
  pub named : Ty → List ℕ
  named (ArrayOf t) = named t
  named (ListOf t) = named t
  named (ChanOf t) = named t
  named (Tuple ts) = all_named ts
  named (Adt n) = n ∷ []
  named (RefAdt n) = n ∷ []
  named (RefPick n v) = n ∷ []
  named t = []

  pub all_named : Tys → List ℕ
  all_named NoTys = []
  all_named (MoreTys t ts) = named t ++ all_named ts

abbrev pub named_in : List Ty → List ℕ
named_in [] = []
named_in (t ∷ ts) = named t ++ named_in ts

-- A field of adt n names adt m.
pub record Names (defs : List Def) (n m : ℕ) : Type 0 where
  pub def : Def
  pub there : slice_get defs n ≡ Some def
  pub has : Has (named_in (field_types def)) m

-- the way from an adt to one that it names, and so on
pub data Walk (defs : List Def) : ℕ → ℕ → Type 0 where
  stays : (n : ℕ) → Walk defs n n
  walks : (n m k : ℕ) → Walk defs n m → Names defs m k → Walk defs n k

abbrev pub row_of : List (List ℕ) → ℕ → List ℕ
row_of closed n = slice_index_or closed n []

abbrev pub rows : List (Vec ℕ Global) → List (List ℕ)
rows [] = []
rows (v ∷ vs) = v.items ∷ rows vs

-- the list of an adt has exactly those to which a way leads
pub record IsClosed (defs : List Def) (n : ℕ) (row : List ℕ) : Type 0 where
  pub sound : (k : ℕ) → Has row k → Walk defs n k
  pub whole : (k : ℕ) → Walk defs n k → Has row k

pub record AreClosed (defs : List Def) (closed : List (List ℕ)) : Type 0 where
  pub same_length : length closed ≡ length defs
  pub each : (n : ℕ) → n < length defs → IsClosed defs n (row_of closed n)

abbrev pub IsAt : {A : Type 0} → List A → ℕ → A → Type 0
IsAt xs i x = slice_get xs i ≡ Some x

abbrev pub unmarked : List Bool → ℕ
unmarked [] = 0
unmarked (b ∷ bs) = (if b then 0 else 1) + unmarked bs

-- What changes where the adts of a row are marked, and those put to what was found that weren't marked yet.
pub record Visited (row : List ℕ) (old : List Bool) (before : List ℕ) (new : List Bool) (after : List ℕ) : Type 0 where
  pub same_length : length new ≡ length old
  pub keeps : (k : ℕ) → IsAt old k true → IsAt new k true
  pub only : (k : ℕ) → IsAt new k true → IsAt old k true ⊎ Has row k
  pub all : (k : ℕ) → Has row k → k < length old → IsAt new k true
  pub stay : (i k : ℕ) → IsAt before i k → IsAt after i k
  pub longer : length before ≤ length after
  pub found : (k : ℕ) → IsAt new k true → IsAt old k true ⊎ ((i : ℕ) × IsAt after i k)
  pub marked : (i k : ℕ) → IsAt after i k → IsAt before i k ⊎ IsAt new k true
  pub count : unmarked new + length after ≡ unmarked old + length before

-- What is known while the adts are found to which a way leads from one: those before `next` were looked at.
pub record Searches (defs : List Def) (from : ℕ) (marks : List Bool) (queue : List ℕ) (next : ℕ) : Type 0 where
  pub same_length : length marks ≡ length defs
  pub first : IsAt marks from true
  pub walks : (k : ℕ) → IsAt marks k true → Walk defs from k
  pub done : (i k m : ℕ) → i < next → IsAt queue i k → Names defs k m → IsAt marks m true
  pub queued : (k : ℕ) → IsAt marks k true → (i : ℕ) × IsAt queue i k
  pub marked : (i k : ℕ) → IsAt queue i k → IsAt marks k true
  pub within : next ≤ length queue
  pub count : unmarked marks + length queue ≡ length defs

-- What is named is there.
abbrev pub NamesOnly : List Def → Type 0
NamesOnly defs = (n m : ℕ) → Names defs n m → m < length defs
