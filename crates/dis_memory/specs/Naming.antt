-- Which blocks words name, and how often: the count of a block is the number of reference words that name it, over frames, also those
-- that are made and not yet called, and over blocks. A frame names its instance. What nobody names goes behind each step.
use Rattle.std.specs.Prelude.{ℕ, ◌+◌, List}
use Rattle.process_model.specs.Process.{Branch}
use Rattle.process_model.specs.Naming.{Naming, total}
use Rattle.process_model.specs.Process.{Doing}
use Rattle.heap_model.specs.Heap.{in_all}
use Rattle.heap_model.specs.Joined.{heap_naming}
use Rattle.system_model.specs.Values.{Value}
use Rattle.dis_meaning.specs.Counts.{in_words, in_frame, in_frames}
use Rattle.dis_meaning.specs.Process.{Process}
use Rattle.dis_memory.specs.Blocks.{Block, World, words_in}

abbrev pub inside : Block → ℕ → ℕ
inside b n = in_words n (words_in b)

abbrev pub names : Process → ℕ → ℕ
names p n = in_frame n p.frame + (in_frames n p.below + in_frames n p.made)

-- No process waits for another yet.
abbrev pub held : List (Branch Value) → ℕ → ℕ
held bs n = 0

abbrev pub naming : Naming World Process Value
naming = heap_naming inside names held

-- The count of a block, in a world with these processes.
abbrev pub count : World → List (Doing Process Value) → (serial : ℕ) → ℕ
count x ps n = total naming ps n + in_all inside x.heap n
