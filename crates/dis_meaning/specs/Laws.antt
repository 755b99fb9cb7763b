-- What holds of every instruction.
use Rattle.std.specs.Prelude.{ℕ, ℤ, ◌+◌, ◌≡◌, List}
use Rattle.process_model.specs.Process.{Ends}
use Rattle.dis_file.specs.declared.object.Object.{Object}
use Rattle.limbo_values.specs.declared.number.Kind.{Kind}
use Rattle.limbo_values.specs.declared.number.Kind.TheVariants.{Byte}
use Rattle.limbo_values.specs.Numbers.{InRange}
use Rattle.system_model.specs.Ending.{Broken, Faulted}
use Rattle.dis_meaning.specs.Words.{Word, Access, Found, Wrong, Raises, word_at, stored}
use Rattle.dis_meaning.specs.Numbers.{number_at, with_number_at}
use Rattle.dis_meaning.specs.World.{World}
use Rattle.dis_meaning.specs.Process.{Process}
use Rattle.dis_meaning.specs.Step.{step}
use Rattle.dis_meaning.specs.Counts.{refers, in_words}

-- An instruction that faults changes nothing else, and the fault tells where it stands.
abbrev pub FaultsChangeNothing : Type 0
FaultsChangeNothing =
    (limit : ℕ) (objects : List Object) (x y : World) (p : Process) (number pc : ℕ) →
    step limit objects x p ≡ Ends y (Faulted number pc) → (y ≡ x) × (pc ≡ p.frame.pc)

-- An instruction that breaks its process changes nothing else either.
abbrev pub BreaksChangeNothing : Type 0
BreaksChangeNothing =
    (limit : ℕ) (objects : List Object) (x y : World) (p : Process) (text : List ℕ)
    → step limit objects x p ≡ Ends y (Broken text) → y ≡ x

-- The word that stood where one is stored.
pub record Replaced (words after : List Word) (at : ℤ) (new : Word) : Type 0 where
  pub old : Word
  pub stood : word_at words at ≡ Found old
  pub counts : (n : ℕ) → in_words n after + refers n old ≡ in_words n words + refers n new

-- A word that is stored counts for the block that it names, and what stood there counts no more.
abbrev pub StoresCount : Type 0
StoresCount = (words after : List Word) (at : ℤ) (new : Word) → stored words at new ≡ Found after → Replaced words after at new

-- A number that is stored is read again.
abbrev pub NumbersAreReadBack : Type 0
NumbersAreReadBack =
    (kind : Kind) (words after : List Word) (at z : ℤ) → InRange kind z → with_number_at kind words at z ≡ Found after
    → number_at kind after at ≡ Found z

-- A byte that is stored leaves the others as they were read.
abbrev pub BytesStay : Type 0
BytesStay =
    (words after : List Word) (at z other : ℤ) → InRange Byte z → with_number_at Byte words at z ≡ Found after → (other ≡ at → ⊥)
    → number_at Byte after other ≡ number_at Byte words other

-- Both are found, or the same fault comes of both.
abbrev pub ComeAlike : {S T : Type 0} → Access S → Access T → Type 0
ComeAlike (Found s) (Found t) = Unit {0}
ComeAlike (Wrong n) (Wrong m) = n ≡ m
ComeAlike (Raises text) (Raises other) = text ≡ other
ComeAlike _ _ = ⊥

-- A number is stored exactly where one of its kind is read, whatever number it is: so a look tells whether a result can go there.
abbrev pub NumbersAreReplaced : Type 0
NumbersAreReplaced = (kind : Kind) (words : List Word) (at z : ℤ) → ComeAlike (number_at kind words at) (with_number_at kind words at z)
