-- Strings on blocks (Limbo Language Reference, strings).
use Rattle.std.specs.Prelude.{◌≡◌, ℕ, ◌+◌, ◌<◌, ◌==◌, ◌||◌, ◌&&◌, nat_lt, nat_le, if◌then◌else◌, List, [], ◌∷◌, ◌++◌, length, slice_set, Option, Some, None}
use Rattle.ref_heap.specs.declared.kind.Kind.TheVariants.{Text}
use Rattle.ref_heap.specs.Words.{compact, IsCompact}
use Rattle.ref_heap.specs.Store.{Store, Block, at, count, live_numbers, fresh, one_less, with_block, with_new, with_content}

abbrev pub numbers_or_none : Option (List ℕ) → List ℕ
numbers_or_none None = []
numbers_or_none (Some numbers) = numbers

-- The codes of a text's characters; nil is the empty text.
abbrev pub text_of : Store → Option ℕ → List ℕ
text_of h None = []
text_of h (Some s) = numbers_or_none (live_numbers (at h s))

-- Block s is a live text.
pub record IsTextBlock (h : Store) (s : ℕ) : Type 0 where
  pub block : Block
  pub live : at h s ≡ Some block
  pub kind : block.kind ≡ Text
  pub compact : IsCompact block.content

abbrev pub IsText : Store → Option ℕ → Type 0
IsText h None = Unit {0}
IsText h (Some s) = IsTextBlock h s

abbrev pub count_of_text : Store → Option ℕ → ℕ
count_of_text h None = 0
count_of_text h (Some s) = count (at h) s

-- A code that no character has is U+FFFD.
abbrev pub character : ℕ → ℕ
character code = if nat_lt code 0xD800 || (nat_le 0xE000 code && nat_le code 0x10FFFF) then code else 65533

-- The text with another character i, or with one more where i is its length.
abbrev pub with_code : List ℕ → ℕ → ℕ → List ℕ
with_code text i code = if i == length text then text ++ code ∷ [] else slice_set text i code

-- A text is made, and one of several references to another is given away: that one and all other blocks are as they were.
pub record Apart (old new : Store) (s made : ℕ) (text : List ℕ) : Type 0 where
  pub block : Block
  pub live : at old s ≡ Some block
  pub shared : 1 < block.count
  pub serial : made ≡ old.made
  pub rest : (n : ℕ) → at new n ≡ at (with_block (with_new old (fresh Text (compact text))) s (one_less block)) n
  pub count : new.made ≡ old.made + 1

-- The only reference to a text is there: the text itself becomes another, and all other blocks are as they were.
pub record InPlace (old new : Store) (s : ℕ) (text : List ℕ) : Type 0 where
  pub block : Block
  pub live : at old s ≡ Some block
  pub alone : block.count ≡ 1
  pub changed : new ≡ with_block old s (with_content block (compact text))

-- A reference to a text is given away for one to another text. What others see stays as it is.
pub data Becomes (old new : Store) : Option ℕ → ℕ → List ℕ → Type 0 where
  Made : {made : ℕ} {text : List ℕ} → made ≡ old.made → new ≡ with_new old (fresh Text (compact text)) → Becomes old new None made text
  Grown : {s : ℕ} {text : List ℕ} → InPlace old new s text → Becomes old new (Some s) s text
  Copied : {s made : ℕ} {text : List ℕ} → Apart old new s made text → Becomes old new (Some s) made text
