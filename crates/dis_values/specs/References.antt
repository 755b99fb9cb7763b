-- Elements with references copied into another array, and the counts of the blocks that they name.
use Rattle.std.specs.Prelude.{◌≡◌, ◌⊎◌, ℕ, ◌+◌, ◌*◌, ◌/◌, ◌%◌, ◌<◌, ◌≤◌, Bool, List, [], ◌∷◌, take, drop, length, slice_get, slice_range}
use Rattle.std.specs.Prelude.{Option, Some, None}
use Rattle.ref_heap.specs.Words.{Cell, Content, wide, naming, is_reference}
use Rattle.ref_heap.specs.Store.{Store, Block, at, count, outside, words_of, with_block, with_content}
use Rattle.ref_heap.specs.declared.kind.HeapFault.{HeapFault}
use Rattle.ref_heap.specs.declared.kind.HeapFault.TheVariants.{Dead, NoMemory, Full, OutOfBlock, NotPointer, NotData}
use Rattle.ref_heap.specs.Answers.{most}
use Rattle.ref_heap.specs.Drops.{Drops, Lists}
use Rattle.dis_values.specs.Arrays.{elements, is_marked, part_of, IsWhole}
use Rattle.dis_values.specs.Copies.{overwritten}

-- how often these elements name block n
abbrev pub naming_all : List (List Cell) → ℕ → ℕ
naming_all [] n = 0
naming_all (x ∷ xs) n = naming x n + naming_all xs n

-- Why words aren't held: 94 only where a block would have more references than there may be.
abbrev pub IsHoldFault : Store → (ℕ → ℕ) → HeapFault → Type 0
IsHoldFault h given NoMemory = Unit {0}
IsHoldFault h given Full = (n : ℕ) × (most < count (at h) n + given n)
IsHoldFault h given Dead = ⊥
IsHoldFault h given NotPointer = ⊥
IsHoldFault h given NotData = ⊥
IsHoldFault h given OutOfBlock = ⊥

-- A reference to an array, or to a slice of one, of elements of whole words. In each, those words are references that the map marks.
pub record IsMarked (h : Store) (s size : ℕ) (marks : List Bool) : Type 0 where
  pub all : ℕ
  pub whole : IsWhole h (part_of h s).array size all
  pub within : (part_of h s).from + (part_of h s).length ≤ all
  pub even : size % 4 ≡ 0
  pub words : List Cell
  pub content : whole.block.content ≡ wide words
  pub enough : size * all ≤ 4 * length words
  pub marked : (i r : ℕ) (c : Cell) → r < size / 4 → slice_get words (i * (size / 4) + r) ≡ Some c → is_reference c ≡ is_marked marks r

-- A block with so many references more.
abbrev pub raised : ℕ → Option Block → Option Block
raised k None = None
raised k (Some b) = Some (record b { count = b.count + k })

-- Each block has so many references more; all else is as it was.
pub record Holds (old new : Store) (given : ℕ → ℕ) : Type 0 where
  pub made : new.made ≡ old.made
  pub lost : new.lost ≡ old.lost
  pub each : (n : ℕ) → at new n ≡ raised (given n) (at old n)

-- Each block that is named is live, and may have so many references more.
abbrev pub HaveRoom : Store → (ℕ → ℕ) → Type 0
HaveRoom h given = (n : ℕ) → 0 < given n → (0 < count (at h) n) × (count (at h) n + given n ≤ most)

-- Block k is live, and has so many words or more.
pub record HasWords (h : Store) (k n : ℕ) : Type 0 where
  pub block : Block
  pub live : at h k ≡ Some block
  pub enough : n ≤ length (words_of block)

-- Words may stand in block k from place `from` on: references where references stand.
pub record CanPut (h : Store) (k from : ℕ) (cs : List Cell) : Type 0 where
  pub block : Block
  pub live : at h k ≡ Some block
  pub words : List Cell
  pub content : block.content ≡ wide words
  pub room : from + length cs ≤ length words
  pub fits : (q : ℕ) (a c : Cell) → slice_get words (from + q) ≡ Some a → slice_get cs q ≡ Some c → is_reference a ≡ is_reference c

-- They are put there, and what they name is given away for what the others named; all else is as it was.
pub record Puts (old new : Store) (k from : ℕ) (cs : List Cell) : Type 0 where
  pub block : Block
  pub live : at old k ≡ Some block
  pub words : List Cell
  pub content : block.content ≡ wide words
  pub put : List Cell
  pub changed : new ≡ with_block old k (with_content block (wide put))
  pub size : length put ≡ length words
  pub here : (q : ℕ) → q < length cs → slice_get put (from + q) ≡ slice_get cs q
  pub apart : (i : ℕ) → (i < from) ⊎ (from + length cs ≤ i) → slice_get put i ≡ slice_get words i
  pub held : (n : ℕ) → outside new n + naming cs n ≡ outside old n + naming (take (length cs) (drop from words)) n

-- So many words of block s, from one on, may be put into block k.
pub record CanCopy (h : Store) (k to s from n : ℕ) : Type 0 where
  pub source : HasWords h s (from + n)
  pub put : CanPut h k to (take n (drop from (words_of source.block)))

-- They are put there, what they name is held once more for each of them, and what those named that stood there is given away.
pub record Moves (old new : Store) (k from : ℕ) (cs : List Cell) : Type 0 where
  pub block : Block
  pub live : at old k ≡ Some block
  pub words : List Cell
  pub content : block.content ≡ wide words
  pub put : List Cell
  pub here : (q : ℕ) → q < length cs → slice_get put (from + q) ≡ slice_get cs q
  pub apart : (i : ℕ) → (i < from) ⊎ (from + length cs ≤ i) → slice_get put i ≡ slice_get words i
  pub middle : Store
  pub made : middle.made ≡ old.made
  pub held : (n : ℕ) → at middle n ≡ raised (naming cs n) (at (with_block old k (with_content block (wide put))) n)
  pub drops : Drops middle new (naming (take (length cs) (drop from words)))
  pub lists : Lists middle new

-- Elements are copied over those of an array, where reference t stands, from element `from` on. Each block that the copied ones name has
-- a reference more for each time, and what the others named is given away.
pub record CopiesHeld (old new : Store) (t from : ℕ) (ys : List (List Cell)) : Type 0 where
  pub block : Block
  pub live : at old (part_of old t).array ≡ Some block
  pub content : Content
  pub middle : Store
  pub made : middle.made ≡ old.made
  pub held : (n : ℕ) → at middle n ≡ raised (naming_all ys n) (at (with_block old (part_of old t).array (with_content block content)) n)
  pub array : elements middle (part_of old t).array ≡ overwritten (elements old (part_of old t).array) ((part_of old t).from + from) ys
  pub shown : elements middle t ≡ overwritten (elements old t) from ys
  pub drops : Drops middle new (naming_all (slice_range (elements old t) from (from + length ys)))
  pub lists : Lists middle new

-- Nil, or an array of such elements.
abbrev pub IsMarkedOrNil : Store → ℕ → List Bool → Option ℕ → Type 0
IsMarkedOrNil h size marks None = Unit {0}
IsMarkedOrNil h size marks (Some s) = IsMarked h s size marks

-- Elements are copied over those of an array. Nil has none, and nothing is copied over it.
abbrev pub CopiesOrNone : Store → Store → Option ℕ → ℕ → Option ℕ → Type 0
CopiesOrNone old new None from s = new ≡ old
CopiesOrNone old new (Some t) from None = new ≡ old
CopiesOrNone old new (Some t) from (Some s) = CopiesHeld old new t from (elements old s)

-- how often the elements of an array that may be nil name block n
abbrev pub naming_or_none : Store → Option ℕ → ℕ → ℕ
naming_or_none h None n = 0
naming_or_none h (Some s) n = naming_all (elements h s) n
