use Rattle.std.proofs.Common.{◌≡◌, ◌+◌, drop, map, Some}
use Rattle.slot_code.specs.Layout.{end_of, place_in}
use Rattle.dis_objects.specs.Frames.{printed_kinds, print_parameters}
use Rattle.dis_objects.proofs.layout.printed_place.Given as goal

abbrev pub invariant-loop-piece : goal.invariant-loop-piece
invariant-loop-piece l = record {
  ends : end_of l.at (map Some (printed_kinds (drop l.piece-index l.pieces))) ≡ end_of 32 (print_parameters l.pieces);
  stands : place_in l.at (map Some (printed_kinds (drop l.piece-index l.pieces))) l.left
      ≡ place_in 32 (print_parameters l.pieces) (1 + l.number);
}
