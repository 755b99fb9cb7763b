-- What references of the machine stand for, by what is known of its blocks.
use Rattle.std.specs.Prelude.{ℕ, ◌+◌, ◌≡◌, ◌≤◌, ◌⊎◌, List, [], length, Option, None, Some}
use Rattle.heap_model.specs.Facts as known
use Rattle.heap_model.specs.Facts.{Named, Chars, Part}
use Rattle.limbo_types.specs.Types.{Ty}
use Rattle.limbo_values.specs.Texts.{longest}
use Rattle.limbo_kept.specs.Values.{AreCharacters}
use Rattle.limbo_meaning.specs.Values as value
use Rattle.dis_memory.specs.Blocks.{Block}
use Rattle.value_words.specs.Forms.{Form, Elements}

abbrev pub Facts : Type 0
Facts = known.Facts Block Form

abbrev pub Grows : (facts later : Facts) → Type 0
Grows facts later = known.Grows facts later

-- A string is of characters, and no longer than strings may be.
abbrev pub IsString : List ℕ → Type 0
IsString s = AreCharacters s × (length s ≤ longest)

module _ (facts : Facts) where
  -- This block stands for the value of this name, and is of this form.
  pub record IsFormed (form : Form) (block name : ℕ) : Type 0 where
    pub fact : facts.fact block ≡ Some (Named name)
    pub formed : facts.form block ≡ Some form

  -- A word that refers to this block, or to nothing, stands for a name, or for `nil`, where a form is asked of the block. Where none is,
  -- it stands for `nil` alone.
  abbrev pub IsName : (asked : Option Form) → Option ℕ → Option ℕ → Type 0
  IsName asked None None = Unit {0}
  IsName asked (Some b) None = ⊥
  IsName asked None (Some n) = ⊥
  IsName None (Some b) (Some n) = ⊥
  IsName (Some form) (Some b) (Some n) = IsFormed form b n

  -- Some block has the elements of the array of this name, of this type: as many as this, or more.
  abbrev pub IsArray : (item : Ty) → (name many : ℕ) → Type 0
  IsArray item n many = (block : ℕ) × ((long : ℕ) × (IsFormed (Elements item long) block n × (many ≤ long)))

  -- For part of an array of a type: the whole of it, as long as the block is, or a part that lies in it.
  abbrev pub IsPart : (item : Ty) → Option ℕ → Option value.Part → Type 0
  IsPart item None None = Unit {0}
  IsPart item (Some b) (Some p) =
      (IsFormed (Elements item p.long) b p.array × (p.start ≡ 0))
      ⊎ ((facts.fact b ≡ Some (Part p.array p.start p.long)) × IsArray item p.array (p.start + p.long))
  IsPart item _ _ = ⊥

  -- For a text: nothing stands for the empty one.
  abbrev pub IsText : Option ℕ → List ℕ → Type 0
  IsText None s = s ≡ []
  IsText (Some b) s = (facts.fact b ≡ Some (Chars s)) × IsString s

  -- For a name, also where it is that of an array of which it stands for a part.
  abbrev pub IsNamed : Option ℕ → Option ℕ → Type 0
  IsNamed None None = Unit {0}
  IsNamed (Some b) (Some n) = (facts.fact b ≡ Some (Named n)) ⊎ ((start : ℕ) × ((long : ℕ) × (facts.fact b ≡ Some (Part n start long))))
  IsNamed _ _ = ⊥
