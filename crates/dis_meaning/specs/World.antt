-- What the processes of a machine share.
use Rattle.std.specs.Prelude.{ℕ, List, [], ◌∷◌, ◌++◌, slice_get, slice_set}
use Rattle.system_model.specs.World as outside
use Rattle.dis_meaning.specs.Words.{Word, Access, or_wrong, dead_address}

-- What a block holds: a string's characters; the data of an instance of an object of the program; or the built-in module Sys, linked
-- to the names of an import table. Later kinds of blocks are records, arrays, list cells and channels.
pub data Content : Type 0 where
  Text : List ℕ → Content
  Instance : (object : ℕ) → List Word → Content
  Sys : List (List ℕ) → Content

-- The blocks by their serials, each of which is used once; how many frames were made so far, by all processes: the next one gets this
-- number as its serial; and the outside: open files and links. No instruction of this part lets a block go.
pub record World : Type 0 where
  pub blocks : List Content
  pub frames : ℕ
  pub outside : outside.World

-- The block of this serial.
abbrev pub block : World → ℕ → Access Content
block x n = or_wrong dead_address (slice_get x.blocks n)

-- A new block, which gets the next serial.
abbrev pub with_block : World → Content → World
with_block x c = record { blocks = x.blocks ++ c ∷ []; frames = x.frames; outside = x.outside }

-- The block of this serial has another content.
abbrev pub with_content : World → ℕ → Content → World
with_content x n c = record { blocks = slice_set x.blocks n c; frames = x.frames; outside = x.outside }
