use Rattle.std.proofs.Common.{◌≡◌, ◌++◌, map, drop}
use Rattle.limbo_types.specs.View.{view_ty}
use Rattle.limbo_layout.specs.View.{view_defs}
use Rattle.core_code.specs.Terms.{moves_into, part_types}
use Rattle.core_parts.specs.Nodes.{view_moved, AllFit}
use Rattle.core_writing.proofs.moves.moves_into.Given as goal

abbrev pub invariant-loop-number : goal.invariant-loop-number
invariant-loop-number l =
    let defs = view_defs l.extents in
    let ts = part_types defs (view_ty l.whole) in
    record {
      told : map view_moved l.moves.items ++ moves_into defs ts l.into (drop l.number-index l.numbers) l.rest
          ≡ moves_into defs ts l.into l.numbers l.slots;
      fits : AllFit l.moves.items;
    }
