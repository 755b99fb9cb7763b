-- Words of a type stay of it where one is replaced, and where all may be others.
use Rattle.std.specs.Prelude.{ℕ, ℤ, ◌≡◌, ◌⊎◌, List, length, Option, Some, slice_get, slice_set}
use Rattle.limbo_values.specs.declared.number.Kind.TheVariants as kind
use Rattle.limbo_values.specs.Numbers.{InRange}
use Rattle.dis_meaning.specs.Words.{Word, Plain, Refer}
use Rattle.value_words.specs.Contents.{AreInRange}
use Rattle.value_frames.specs.Types.{AreOf}

abbrev pub DoesRefer : Word → Type 0
DoesRefer w = (r : Option ℕ) × (w ≡ Refer r)

-- One word may take the place of another: both refer, or neither does and a number has 32 bits.
abbrev pub MayReplace : (old new : Word) → Type 0
MayReplace old new =
    (DoesRefer old × DoesRefer new)
    ⊎ ((DoesRefer old → ⊥) × (DoesRefer new → ⊥) × ((z : ℤ) → new ≡ Plain z → InRange kind.Int z))

-- Where the first words refer the second do.
abbrev pub ReferAlike : (words others : List Word) → Type 0
ReferAlike words others =
    (w : ℕ) (r : Option ℕ) → slice_get words w ≡ Some (Refer r) → (s : Option ℕ) × (slice_get others w ≡ Some (Refer s))

pub record KindsStay : Type 0 where
  pub set : (size : ℕ) (offsets : List ℕ) (words : List Word) (w : ℕ) (old new : Word) → AreOf size offsets words →
      slice_get words w ≡ Some old → MayReplace old new → AreOf size offsets (slice_set words w new)
  pub all : (size : ℕ) (offsets : List ℕ) (words others : List Word) → AreOf size offsets words → length others ≡ length words →
      ReferAlike others words → ReferAlike words others → AreInRange others → AreOf size offsets others
