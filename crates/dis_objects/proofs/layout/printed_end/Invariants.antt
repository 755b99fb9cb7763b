use Rattle.std.proofs.Common.{◌≡◌, drop, map, Some}
use Rattle.slot_code.specs.Layout.{end_of}
use Rattle.dis_objects.specs.Frames.{printed_kinds, print_parameters}
use Rattle.dis_objects.proofs.layout.printed_end.Given as goal

abbrev pub invariant-loop-piece : goal.invariant-loop-piece
invariant-loop-piece l = end_of l.end (map Some (printed_kinds (drop l.piece-index l.pieces))) ≡ end_of 32 (print_parameters l.pieces)
