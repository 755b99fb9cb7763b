-- One word of a block that takes the place of another.
use Rattle.std.specs.Prelude.{◌≡◌, ◌≢◌, ℕ, ◌+◌, Some, slice_get, slice_set, true}
use Rattle.ref_heap.specs.declared.word.Word as code_word
use Rattle.ref_heap.specs.Words.{Cell, cells, cell_of, MayTake}
use Rattle.ref_heap.specs.Store.{Block, Store, at, outside}
use Rattle.heap_cuts.specs.Shapes.{shape_of, shapes}
use Rattle.dis_meaning.specs.Words.{fits}
use Rattle.dis_places.specs.Words.{view_word}
use Rattle.dis_stores.specs.Storing.{named}

-- The block holds what it held, and takes this word. All other blocks are as they were, and so is what is held outside of blocks.
pub record TakesNow (old new : Store) (serial : ℕ) (word : Cell) : Type 0 where
  pub block : Block
  pub there : at old serial ≡ Some block
  pub now : Block
  pub is : at new serial ≡ Some now
  pub kind : now.kind ≡ block.kind
  pub cells : cells now.content ≡ cells block.content
  pub takes : MayTake now.content word
  pub apart : (n : ℕ) → n ≢ serial → at new n ≡ at old n
  pub shapes : shapes new ≡ slice_set (shapes old) serial (Some (shape_of now))
  pub outside : (n : ℕ) → outside new n ≡ outside old n

-- A word of the block is another, of the same kind. The reference in the new one was given away for it, and the one in the old word is
-- held outside of blocks from then on.
pub record Exchanged (old new : Store) (serial k : ℕ) (word was : code_word.Word) : Type 0 where
  pub block : Block
  pub there : at old serial ≡ Some block
  pub now : Block
  pub is : at new serial ≡ Some now
  pub kind : now.kind ≡ block.kind
  pub stood : slice_get (cells block.content) k ≡ Some (cell_of was)
  pub fits : fits (view_word was) (view_word word) ≡ true
  pub cells : cells now.content ≡ slice_set (cells block.content) k (cell_of word)
  pub apart : (n : ℕ) → n ≢ serial → at new n ≡ at old n
  pub shapes : shapes new ≡ slice_set (shapes old) serial (Some (shape_of now))
  pub outside : (n : ℕ) → outside new n + named word n ≡ outside old n + named was n
