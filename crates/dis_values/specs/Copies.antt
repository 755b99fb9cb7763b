-- Elements of an array copied into another (Limbo Language Reference, slices in assignments).
use Rattle.std.specs.Prelude.{◌≡◌, ◌⊎◌, ℕ, ◌+◌, ◌<◌, ◌≤◌, List, [], ◌++◌, take, drop, length, Option, Some, None}
use Rattle.ref_heap.specs.Words.{Cell, Content, compact, cells}
use Rattle.ref_heap.specs.Store.{Store, Block, at, words_of, with_block, with_content}
use Rattle.dis_values.specs.Arrays.{elements, part_of}
use Rattle.dis_values.specs.Bytes.{IsPlain}

-- xs with ys from place i on in place of as many elements
abbrev pub overwritten : {A : Type 0} → List A → ℕ → List A → List A
overwritten xs i ys = take i xs ++ (ys ++ drop (i + length ys) xs)

-- The elements of an array that may be nil, which has none.
abbrev pub elements_or_none : Store → Option ℕ → List (List Cell)
elements_or_none h None = []
elements_or_none h (Some s) = elements h s

-- Nil, or an array whose elements take so many bytes and hold no references.
abbrev pub IsPlainOrNil : Store → ℕ → Option ℕ → Type 0
IsPlainOrNil h size None = Unit {0}
IsPlainOrNil h size (Some s) = IsPlain h s size

-- Words of block k change from place `base` on, so many of those that `read` reads; no other does, and all other blocks are as they were.
pub record Writes {A : Type 0} (read : List Cell → ℕ → A) (old new : Store) (k base n : ℕ) (values : ℕ → A) : Type 0 where
  pub block : Block
  pub live : at old k ≡ Some block
  pub numbers : List ℕ
  pub changed : new ≡ with_block old k (with_content block (compact numbers))
  pub size : length numbers ≡ length (words_of block)
  pub here : (q : ℕ) → q < n → read (cells (compact numbers)) (base + q) ≡ values q
  pub apart : (i : ℕ) → (i < base) ⊎ (base + n ≤ i) → read (cells (compact numbers)) i ≡ read (words_of block) i

-- Elements are written over those of an array, where reference t stands, from element `from` on; all other blocks are as they were.
pub record ArrayTakes (old new : Store) (t from : ℕ) (ys : List (List Cell)) : Type 0 where
  pub block : Block
  pub live : at old (part_of old t).array ≡ Some block
  pub content : Content
  pub changed : new ≡ with_block old (part_of old t).array (with_content block content)
  pub array : elements new (part_of old t).array ≡ overwritten (elements old (part_of old t).array) ((part_of old t).from + from) ys

-- The same where the array may be nil, which nothing is written over.
abbrev pub TakesOrNone : Store → Store → Option ℕ → ℕ → List (List Cell) → Type 0
TakesOrNone old new None from ys = new ≡ old
TakesOrNone old new (Some t) from ys = ArrayTakes old new t from ys
