use Rattle.std.proofs.Common.{◌≡◌, ◌+◌, drop}
use Rattle.dis_memory.specs.Copies.{put_bytes}
use Rattle.dis_places.specs.Words.{view_words}
use Rattle.dis_moves.proofs.bytes.set_bytes.Given as goal

-- What is left to do leads where all of it does.
abbrev pub invariant-loop-k : goal.invariant-loop-k
invariant-loop-k l = put_bytes (view_words l.row.items) (l.from + l.k) (drop l.k l.bytes) ≡ put_bytes (view_words l.initial.row.items) l.from l.bytes
