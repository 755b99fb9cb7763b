-- The machine of numbers begins as the machine with memory does.
use Rattle.std.specs.Prelude.{◌≡◌, map, Some}
use Rattle.dis_file.specs.declared.object.Object.{Object}
use Rattle.dis_meaning.specs.Words.{Found}
use Rattle.dis_meaning.specs.World as today
use Rattle.dis_meaning.specs.Opening as beginning
use Rattle.dis_memory.specs.Blocks.{Block, Text, Instance, Sys, World}
use Rattle.dis_counts.specs.Opening.{opens, opened}

-- A block of that machine as one of this, and what its processes share.
abbrev pub block_of : today.Content → Block
block_of (today.Text chars) = Text chars
block_of (today.Instance object words) = Instance object words
block_of (today.Sys names) = Sys names

abbrev pub world_of : today.World → World
world_of x = record {
  heap = map (λ c. Some (block_of c)) x.blocks;
  outside = record { frames = x.frames; outside = x.outside };
}

-- Where that machine begins, this one does, with the same process and the same blocks, of which those go that nothing names.
abbrev pub BeginsAlike : Type 0
BeginsAlike = (o : Object) (m : beginning.Opened) → beginning.opened o ≡ Some m → opened o ≡ Found (opens (world_of m.world) m.first)
