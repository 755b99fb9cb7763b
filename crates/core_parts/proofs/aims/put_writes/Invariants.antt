use Rattle.std.proofs.Common.{◌≡◌, ◌++◌, List, map, length}
use Rattle.std.specs.Vec.Iter.{into_iter_items, into_iter_len}
use Rattle.limbo_layout.specs.Adts.{Def}
use Rattle.core_code.specs.Terms.{writes}
use Rattle.core_parts.specs.Aims.{view_aim}
use Rattle.core_parts.specs.Lowered.{code_of}
use Rattle.core_parts.proofs.aims.put_writes.Given as goal

-- What is written, and what is left.
abbrev pub invariant-loop-aim : goal.invariant-loop-aim
invariant-loop-aim l = record {
  told : (defs : List Def) → code_of l.code.items ++ writes defs (map view_aim (into_iter_items l.aim-iterator)) l.rest l.from
      ≡ code_of l.initial.code.items ++ writes defs (map view_aim (into_iter_items l.initial.aim-iterator)) l.slots l.from;
  counted : into_iter_len l.aim-iterator ≡ length (into_iter_items l.aim-iterator);
}
