-- A heap: live blocks by their serials, and how often each is named. Where a block lies is no part of it.
use Rattle.std.specs.Prelude.{◌≡◌, ℕ, zero, suc, ◌+◌, ◌-◌, ◌<◌, ◌≤◌, Bool, true, false, cond, eqb, List, [], ◌∷◌, map, slice_get, Option, Some, None, refl}
use Rattle.std.specs.Ordering.{nat_cmp}
use Rattle.std.specs.FinMap.{FinMap, get, insert, remove, code}
use Rattle.std.specs.Coded.{Coded, code_by, coded_ℕ, coded×, coded_list}
use Rattle.ref_heap.specs.declared.kind.Kind.{Kind}
use Rattle.ref_heap.specs.Kinds.{kind_code}
use Rattle.ref_heap.specs.Words.{Cell, Content, content_code, cells, naming, numbers_in, plain, refer, wide}

-- A block: what it is, how many references to it there are, and what it holds.
pub record Block : Type 0 where
  pub kind : Kind
  pub count : ℕ
  pub content : Content

abbrev pub block_code : Coded Block
block_code =
    code_by (Kind × (ℕ × Content)) (coded× kind_code (coded× coded_ℕ content_code))
    (λ b. (b.kind, (b.count, b.content))) (λ p. record { kind = p.0; count = p.1.0; content = p.1.1 }) (λ _. refl)

-- A heap: how many blocks were made, the live ones by their serials, and the numbers of open files that the last drop lost.
pub record Store : Type 0 where
  pub made : ℕ
  pub blocks : FinMap nat_cmp Block
  pub lost : List ℕ

abbrev pub store_code : Coded Store
store_code =
    code_by (ℕ × (FinMap nat_cmp Block × List ℕ)) (coded× coded_ℕ (coded× (code coded_ℕ block_code) (coded_list coded_ℕ)))
    (λ h. (h.made, (h.blocks, h.lost))) (λ p. record { made = p.0; blocks = p.1.0; lost = p.1.1 }) (λ _. refl)

-- The block of each serial, where it is live.
abbrev pub Blocks : Type 0
Blocks = ℕ → Option Block

abbrev pub at : Store → Blocks
at h s = get h.blocks s

abbrev pub words_of : Block → List Cell
words_of b = cells b.content

abbrev pub count_in : Option Block → ℕ
count_in None = 0
count_in (Some b) = b.count

-- A block's count, and 0 where none is live.
abbrev pub count : Blocks → ℕ → ℕ
count m n = count_in (m n)

abbrev pub naming_in : Option Block → ℕ → ℕ
naming_in None n = 0
naming_in (Some b) n = naming (words_of b) n

abbrev pub sum_below : ℕ → (ℕ → ℕ) → ℕ
sum_below zero f = 0
sum_below (suc n) f = f n + sum_below n f

-- How many words in blocks of serials below the limit name block n.
abbrev pub names : ℕ → Blocks → ℕ → ℕ
names limit m n = sum_below limit (λ s. naming_in (m s) n)

-- Serials begin with 0, so each is below the number of blocks made.
abbrev pub limit : Store → ℕ
limit h = h.made

-- How many words in blocks name block n.
abbrev pub inside : Store → ℕ → ℕ
inside h n = names (limit h) (at h) n

-- How many references to block n are held outside of blocks.
abbrev pub outside : Store → ℕ → ℕ
outside h n = count (at h) n - inside h n

-- What is true of every heap. A count is never below the number of words in blocks that name the block.
pub record IsHeap (h : Store) : Type 0 where
  pub bounded : (n : ℕ) (b : Block) → at h n ≡ Some b → n < h.made
  pub counted : (n : ℕ) (b : Block) → at h n ≡ Some b → 0 < b.count
  pub enough : (n : ℕ) → inside h n ≤ count (at h) n

-- References that are given away are among those that are held outside of blocks. Nothing outside holds one to a block that isn't live.
abbrev pub AreHeld : Store → (ℕ → ℕ) → Type 0
AreHeld h given = (n : ℕ) → given n ≤ outside h n

-- The numbers of a live compact block.
abbrev pub live_numbers : Option Block → Option (List ℕ)
live_numbers None = None
live_numbers (Some b) = numbers_in b.content

-- Word i of a live block, alone in a list; the empty list where there is none.
abbrev pub alone : Option Cell → List Cell
alone None = []
alone (Some c) = c ∷ []

abbrev pub word_in : Option Block → ℕ → List Cell
word_in None i = []
word_in (Some b) i = alone (slice_get (words_of b) i)

pub record IsLive (h : Store) (k : ℕ) : Type 0 where
  pub block : Block
  pub live : at h k ≡ Some block

-- Block k is live, the only reference to it is held outside of blocks, and it holds none.
pub record IsAlone (h : Store) (k : ℕ) : Type 0 where
  pub block : Block
  pub live : at h k ≡ Some block
  pub only : block.count ≡ 1
  pub unnamed : inside h k ≡ 0
  pub bare : (n : ℕ) → naming (words_of block) n ≡ 0

-- Block k is live, and the only reference to it is held outside of blocks.
pub record IsSole (h : Store) (k : ℕ) : Type 0 where
  pub block : Block
  pub live : at h k ≡ Some block
  pub only : block.count ≡ 1
  pub unnamed : inside h k ≡ 0

-- 1 at k and 0 elsewhere
abbrev pub one : ℕ → ℕ → ℕ
one k n = cond (eqb k n) 1 0

-- The heap with this block there.
abbrev pub with_block : Store → ℕ → Block → Store
with_block h s b = record h { blocks = insert h.blocks s b }

-- The heap without the block there.
abbrev pub without_block : Store → ℕ → Store
without_block h s = record h { blocks = remove h.blocks s }

-- The heap in which one more block was made; its serial is the number of blocks made before, and was never used.
abbrev pub with_new : Store → Block → Store
with_new h b = with_block (record h { made = h.made + 1 }) h.made b

-- A new block, to which its maker has the only reference.
abbrev pub fresh : Kind → Content → Block
fresh kind content = record { kind = kind; count = 1; content = content }

-- A zeroed word: nil where a reference is marked, and else 0.
abbrev pub blank : Bool → Cell
blank true = refer None
blank false = plain 0

-- The zeroed words of a map.
abbrev pub blank_cells : List Bool → List Cell
blank_cells marks = map blank marks

abbrev pub one_more : Block → Block
one_more b = record b { count = b.count + 1 }

abbrev pub one_less : Block → Block
one_less b = record b { count = b.count - 1 }

abbrev pub with_content : Block → Content → Block
with_content b content = record b { content = content }

-- The same block, kept in words that take addresses too.
abbrev pub widened : Block → Block
widened b = with_content b (wide (words_of b))
