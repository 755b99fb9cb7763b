-- Words of a block that take the place of others.
use Rattle.std.specs.Prelude.{◌≡◌, ◌≢◌, ℕ, List, [], ◌∷◌, Some, slice_set}
use Rattle.ref_heap.specs.declared.word.Word as code_word
use Rattle.ref_heap.specs.Words.{Content, cells, cell_of, MayTake}
use Rattle.ref_heap.specs.Store.{Block, Store, at, outside}
use Rattle.heap_cuts.specs.Shapes.{shape_of, shapes}
use Rattle.dis_meaning.specs.Words.{Word}
use Rattle.dis_places.specs.Blocks.{words_of}

-- A block takes these words as it is kept.
abbrev pub TakesAll : Content → List code_word.Word → Type 0
TakesAll c [] = Unit {0}
TakesAll c (w ∷ ws) = MayTake c (cell_of w) × TakesAll c ws

-- The block holds what it held, and takes these words. All other blocks are as they were, and so is what is held outside of blocks.
pub record TakesAllNow (old new : Store) (serial : ℕ) (words : List code_word.Word) : Type 0 where
  pub block : Block
  pub there : at old serial ≡ Some block
  pub now : Block
  pub is : at new serial ≡ Some now
  pub kind : now.kind ≡ block.kind
  pub cells : cells now.content ≡ cells block.content
  pub takes : TakesAll now.content words
  pub apart : (n : ℕ) → n ≢ serial → at new n ≡ at old n
  pub shapes : shapes new ≡ slice_set (shapes old) serial (Some (shape_of now))
  pub outside : (n : ℕ) → outside new n ≡ outside old n

-- The block has these words, and keeps its kind. All other blocks are as they were.
pub record Changed (old new : Store) (serial : ℕ) (words : List Word) : Type 0 where
  pub block : Block
  pub there : at old serial ≡ Some block
  pub now : Block
  pub is : at new serial ≡ Some now
  pub kind : now.kind ≡ block.kind
  pub holds : words_of now.content ≡ words
  pub apart : (n : ℕ) → n ≢ serial → at new n ≡ at old n
  pub shapes : shapes new ≡ slice_set (shapes old) serial (Some (shape_of now))
