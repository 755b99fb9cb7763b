use Rattle.std.proofs.Common.{◌≡◌, ◌+◌, ◌*◌, ◌≤◌, length}
use Rattle.dis_meaning.specs.Formats.{in_front}
use Rattle.dis_memory.specs.Formats as meaning
use Rattle.dis_places.specs.Regions.{words_here}
use Rattle.dis_places.specs.View.{view_world}
use Rattle.dis_formats.proofs.formats.formatted.Given as goal

-- The text so far, in front of what is made of the rest and the arguments from the next word on, is the whole. No more words were passed
-- over than characters.
abbrev pub invariant-loop-c : goal.invariant-loop-c
invariant-loop-c l = record {
  whole :
      in_front l.text (meaning.formatted (view_world l.memory) (words_here l.memory.heap l.process l.region) l.rest (4 * l.next))
      ≡ meaning.formatted (view_world l.fn.memory) (words_here l.fn.memory.heap l.fn.process l.fn.region) l.fn.format 36;
  few : l.next + length l.rest ≤ 9 + length l.fn.format;
}

abbrev pub decreases-loop-c : goal.decreases-loop-c
decreases-loop-c l = length l.rest
