-- Writing parts behind what is written already, or the place of the first one that has a number that doesn't fit.
use Rattle.std.specs.Prelude.{◌≡◌, ⊤, ℕ, true, false, List, [], ◌∷◌, ◌++◌, length, Result, Ok, Err, if◌then◌else◌}
use Rattle.std.specs.List.{flat_map, AllByRecursion}
use Rattle.inf_text.specs.Steps.{◌>>=◌}
use Rattle.dis_file.specs.declared.object.Object.{Object}
use Rattle.dis_format.specs.declared.fault.FileFault.{FileFault}
use Rattle.dis_format.specs.declared.fault.FileFault.TheVariants as fault
use Rattle.dis_format.specs.Parts.{Part, written, fits, object_parts}

abbrev pub put : List ℕ → Part → Result (List ℕ) ℕ
put out part = if fits part then Ok (out ++ written part) else Err (length out)

abbrev pub put_all : List ℕ → List Part → Result (List ℕ) ℕ
put_all out [] = Ok out
put_all out (part ∷ parts) = do
  more ← put out part
  put_all more parts

-- What writing an object gives.
abbrev pub write_of : Object → Result (List ℕ) ℕ
write_of o = put_all [] (object_parts o)

-- What a call answered, seen by view, is what is stated, a fault being BadOperand at the stated place, unless memory
-- ran out.
abbrev pub FailsAt : {Y : Type 0} → FileFault → Result Y ℕ → Type 0
FailsAt fault.NoMemory stated = ⊤
FailsAt (fault.BadOperand at) stated = stated ≡ Err at
FailsAt _ stated = ⊥

abbrev pub Writes : {X Y : Type 0} → (X → Y) → Result X FileFault → Result Y ℕ → Type 0
Writes view (Ok x) stated = stated ≡ Ok (view x)
Writes view (Err e) stated = FailsAt e stated

-- Each part's numbers fit their fields.
abbrev pub AllFit : List Part → Type 0
AllFit parts = AllByRecursion (λ part. fits part ≡ true) parts

-- The first part that doesn't fit would stand at this place, behind the ones before it as they are written.
pub record IsFirstMisfit (parts : List Part) (at : ℕ) : Type 0 where
  pub before : List Part
  pub part : Part
  pub after : List Part
  pub parts_are : parts ≡ before ++ part ∷ after
  pub before_fit : AllFit before
  pub misfit : fits part ≡ false
  pub place : at ≡ length (flat_map written before)

-- The refusal of an object's first number that doesn't fit.
abbrev pub IsMisfit : Object → FileFault → Type 0
IsMisfit o e = (at : ℕ) × ((e ≡ fault.BadOperand at) × IsFirstMisfit (object_parts o) at)
