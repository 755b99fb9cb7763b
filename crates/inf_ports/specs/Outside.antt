-- What calls that reach the outside may answer, and when.
use Rattle.std.specs.Prelude.{◌≡◌, ◌≢◌, ℕ, ◌+◌, ◌-◌, ◌^◌, ◌≤◌, min, take, List, ⊤, Option, None, Some}
use Rattle.std.specs.Io.KnownBytes.{Appends}

-- the bytes that stand at each path, where an object tells them; a path is the list of its character codes
abbrev pub Told : Type 0
Told = Option (List ℕ → Option (List ℕ))

-- the file at the path has these bytes, as far as files are told
abbrev pub Has : Told → List ℕ → List ℕ → Type 0
Has None path bytes = ⊤
Has (Some files) path bytes = files path ≡ Some bytes

-- no file is at the path, as far as files are told
abbrev pub Lacks : Told → List ℕ → Type 0
Lacks None path = ⊤
Lacks (Some files) path = files path ≡ None

-- What files tell before and after the file at this path alone was written: there stand these bytes now, or no file, and at each other
-- path stands what stood there.
abbrev pub Stands : (old new : Told) → (path : List ℕ) → Option (List ℕ) → Type 0
Stands None new path bytes = new ≡ None
Stands (Some files) new path bytes =
    (now : List ℕ → Option (List ℕ))
    × (new ≡ Some now) × (now path ≡ bytes) × ((other : List ℕ) → other ≢ path → now other ≡ files other)

-- The same where any bytes or no file may stand at the path.
abbrev pub AnythingStands : (old new : Told) → (path : List ℕ) → Type 0
AnythingStands old new path = (left : Option (List ℕ)) × Stands old new path left

-- a count of faults has risen, or it stands at the end of its 64 bits
abbrev pub Rose : ℕ → ℕ → Type 0
Rose before now = min (before + 1) (2 ^ 64 - 1) ≤ now

-- the bytes that a sink has taken, where it tells them, have grown by a first part of these
pub record AppendsPart (old new : Option (List ℕ)) (bytes : List ℕ) : Type 0 where
  pub count : ℕ
  pub grown : Appends old new (take count bytes)
