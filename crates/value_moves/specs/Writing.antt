-- What is written among words, and what the instruction that moves a value writes.
use Rattle.std.specs.Prelude.{ℕ, pos, ◌+◌, ◌*◌, ◌≡◌, ◌<◌, ◌≤◌, ◌⊎◌, ◌%◌, ◌/◌, ℤ, List, [], ◌∷◌, ◌++◌, length, Option, Some, slice_get}
use Rattle.std.specs.Int.{next_multiple_of}
use Rattle.limbo_types.specs.Types.{Ty}
use Rattle.limbo_layout.specs.Adts.{Def, Has}
use Rattle.limbo_layout.specs.Layout.{Room, Laid}
use Rattle.limbo_meaning.specs.Values.{Value}
use Rattle.limbo_values.specs.declared.number.Kind.TheVariants.{Int}
use Rattle.dis_isa.specs.declared.inst.Inst.{Inst}
use Rattle.dis_isa.specs.declared.inst.Operand.{Operand}
use Rattle.dis_file.specs.declared.object.Object.{Object}
use Rattle.dis_meaning.specs.Words.{Word, Refer, Found, ◌>>=◌, word_at}
use Rattle.dis_meaning.specs.Numbers.{nth_number}
use Rattle.dis_meaning.specs.Process.{Process}
use Rattle.dis_memory.specs.Blocks.{World}
use Rattle.dis_memory.specs.Places.{given_of, with_words_at}
use Rattle.dis_memory.specs.Process.{next}
use Rattle.dis_memory.specs.Step.{obey}
use Rattle.value_words.specs.Facts.{Facts}
use Rattle.value_words.specs.Stands.{Stands}
use Rattle.value_words.specs.Contents.{content, SameBytes, AreInRange}
use Rattle.value_heaps.specs.Blocks.{ReferOnlyThere, AreWhole}
use Rattle.value_frames.specs.Types.{desc}
use Rattle.value_moves.specs.Operands.{Code, moved, size_middle}
use Rattle.value_moves.specs.Spots.{Leads}

-- So many bytes at a place are those of other words from a byte on; all other bytes are as they were, words of which no byte was written
-- are the very same, and each word keeps its kind.
pub record Writes (target others : List Word) (to : ℕ) (source : List Word) (from size : ℕ) : Type 0 where
  pub many : length others ≡ length target
  pub there : SameBytes source from others to size
  pub bytes : (b : ℕ) → (b < to) ⊎ (to + size ≤ b) → content others b ≡ content target b
  pub words : (w : ℕ) → (4 * w + 4 ≤ to) ⊎ (to + size ≤ 4 * w) → slice_get others w ≡ slice_get target w
  pub refer : (w : ℕ) (r : Option ℕ) → slice_get others w ≡ Some (Refer r) → (s : Option ℕ) × (slice_get target w ≡ Some (Refer s))
  pub referred : (w : ℕ) (s : Option ℕ) → slice_get target w ≡ Some (Refer s) → (r : Option ℕ) × (slice_get others w ≡ Some (Refer r))
  pub ranged : AreInRange source → AreInRange target → AreInRange others

-- A value lies there as its type lays it out: whole, with references where it has some and nowhere else.
pub record Lies (defs : List Def) (k : Facts) (words : List Word) (at : ℕ) (t : Ty) (r : Room) (v : Value) : Type 0 where
  pub laid : Laid defs t r
  pub aligned : at % r.align ≡ 0
  pub whole : AreWhole words at r.size
  pub only : ReferOnlyThere words at r
  pub stands : Stands defs k words at t v

-- A value of so many bytes begins with a word, or within one that has a number, unless it has no bytes at all.
abbrev pub BeginsPlain : List Word → (at size : ℕ) → Type 0
BeginsPlain words at size = 0 < size → (at % 4 ≡ 0) ⊎ ((z : ℤ) × (nth_number words (at / 4) ≡ Found z))

-- There is room for one, as its type lays it out.
pub record HasRoom (defs : List Def) (words : List Word) (at : ℕ) (t : Ty) (r : Room) : Type 0 where
  pub laid : Laid defs t r
  pub aligned : at % r.align ≡ 0
  pub whole : AreWhole words at r.size
  pub begins : BeginsPlain words at r.size
  pub only : ReferOnlyThere words at r
  pub refer : (o : ℕ) → Has r.references o → (s : Option ℕ) × (word_at words (pos (at + o)) ≡ Found (Refer s))

pub record ValuesMove : Type 0 where
  -- one instruction moves a value of whatever type
  pub moves : (defs : List Def) (k : Facts) (limit : ℕ) (o : Object) (x : World) (p : Process) (t : Ty) (r : Room) (v : Value) (n : ℕ)
      (a b : Operand) (source target : List Word) (from to : ℕ) (s : Leads x p a source from) (d : Leads x p b target to) →
      Lies defs k source from t r v → HasRoom defs target to t r →
      (front : Code) (i : Inst) → moved defs t n a b ≡ front ++ i ∷ [] →
      slice_get o.types n ≡ Some (desc (next_multiple_of r.size 4) r.references) →
      given_of Int x p (size_middle r.size) ≡ Found (pos r.size) →
      (others : List Word) × Writes target others to source from r.size
      × (obey limit o x p i i.op ≡ (with_words_at x p d.place others >>= λ m. Found (next m)))
  -- where a value lies there is room for one
  pub room : (defs : List Def) (k : Facts) (words : List Word) (at : ℕ) (t : Ty) (r : Room) (v : Value) → Lies defs k words at t r v →
      HasRoom defs words at t r
  -- what was written lies there then, and there is room for another
  pub stands : (defs : List Def) (k : Facts) (source target others : List Word) (from to : ℕ) (t : Ty) (r : Room) (v : Value) →
      Lies defs k source from t r v → HasRoom defs target to t r → Writes target others to source from r.size →
      Lies defs k others to t r v × HasRoom defs others to t r
  -- other values stand as they stood
  pub apart : (defs : List Def) (k : Facts) (target others : List Word) (to : ℕ) (source : List Word) (from size at : ℕ) (t : Ty) (r : Room)
      (v : Value) → Writes target others to source from size → Laid defs t r → at % r.align ≡ 0 →
      (at + r.size ≤ to) ⊎ (to + size ≤ at) → AreInRange target → AreInRange others → Stands defs k target at t v →
      Stands defs k others at t v
