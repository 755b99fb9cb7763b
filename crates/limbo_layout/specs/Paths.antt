-- What is known while the adts' rooms are laid out, one after the other.
use Rattle.std.specs.Prelude.{◌≡◌, ℕ, ◌+◌, ◌*◌, ◌<◌, ◌⊎◌, Bool, true, false, List, [], ◌∷◌, length, reverse, Some, slice_get, if◌then◌else◌}
use Rattle.limbo_types.specs.Types.{Ty}
use Rattle.limbo_layout.specs.Adts.{Def, Has, parts, held_in}
use Rattle.limbo_layout.specs.Layout.{Room}
use Rattle.limbo_layout.specs.Laying.{IsLaid}

abbrev pub IsAt : {A : Type 0} → List A → ℕ → A → Type 0
IsAt xs i x = slice_get xs i ≡ Some x

-- A value of adt n holds one of adt m, itself or in tuples.
pub record Holds (defs : List Def) (n m : ℕ) : Type 0 where
  pub def : Def
  pub there : slice_get defs n ≡ Some def
  pub has : Has (held_in (parts def)) m

-- the same through further adts
pub data HoldsWithin (defs : List Def) : ℕ → ℕ → Type 0 where
  at_once : (n m : ℕ) → Holds defs n m → HoldsWithin defs n m
  further : (n m k : ℕ) → Holds defs n m → HoldsWithin defs m k → HoldsWithin defs n k

-- What is held is there.
abbrev pub HoldsOnly : List Def → Type 0
HoldsOnly defs = (n m : ℕ) → Holds defs n m → m < length defs

-- A way from an adt to one that it holds, and so on; the last first.
pub data Path (defs : List Def) (first : ℕ) : List ℕ → Type 0 where
  is_done : Path defs first []
  is_begun : Path defs first (first ∷ [])
  goes_on : (n m : ℕ) (ns : List ℕ) → Holds defs n m → Path defs first (n ∷ ns) → Path defs first (m ∷ n ∷ ns)

-- The adts that are marked as laid have their rooms in the table.
pub record IsTable (defs : List Def) (rooms : List Room) (laid : List Bool) : Type 0 where
  pub rooms_length : length rooms ≡ length defs
  pub laid_length : length laid ≡ length defs
  pub each : (n : ℕ) → IsAt laid n true → IsLaid defs rooms n

-- No way is begun: what was entered is laid.
pub record IsReady (defs : List Def) (rooms : List Room) (laid entered : List Bool) : Type 0 where
  pub table : IsTable defs rooms laid
  pub entered_length : length entered ≡ length defs
  pub all_laid : (n : ℕ) → IsAt entered n true → IsAt laid n true

-- The path stands where it stands: what was entered is laid, or on the path.
pub record Climbs (defs : List Def) (first : ℕ) (rooms : List Room) (laid entered : List Bool) (path : List ℕ) : Type 0 where
  pub table : IsTable defs rooms laid
  pub entered_length : length entered ≡ length defs
  pub way : Path defs first (reverse path)
  pub within : (n : ℕ) → Has path n → n < length defs
  pub on_path : (n : ℕ) → IsAt entered n true → IsAt laid n true ⊎ Has path n
  pub ends : path ≡ [] → IsAt laid first true

abbrev pub unmarked : List Bool → ℕ
unmarked [] = 0
unmarked (b ∷ bs) = (if b then 0 else 1) + unmarked bs

-- what is left to do: each adt is entered once and left once
abbrev pub left : List Bool → List ℕ → ℕ
left entered path = 2 * unmarked entered + length path
