use Rattle.std.proofs.Common.{◌≡◌, ◌++◌, List, length}
use Rattle.std.specs.Vec.Iter.{into_iter_items, into_iter_len}
use Rattle.limbo_types.specs.View.{view_ty}
use Rattle.limbo_layout.specs.Adts.{Def}
use Rattle.core_code.specs.Terms.{placed}
use Rattle.core_parts.specs.Lowered.{code_of, codes_of}
use Rattle.core_parts.proofs.together.place.Given as goal

-- What is written, and what is left.
abbrev pub invariant-loop-own : goal.invariant-loop-own
invariant-loop-own l =
    let t = view_ty l.whole.ty in
    record {
      told : (defs : List Def) → code_of l.code.items
          ++ placed defs t l.whole.variant l.into l.operand l.parts (codes_of (into_iter_items l.own-iterator)) l.rest
          ≡ placed defs t l.whole.variant l.into 0 l.whole.parts.items (codes_of (into_iter_items l.initial.own-iterator)) l.slots;
      counted : into_iter_len l.own-iterator ≡ length (into_iter_items l.own-iterator);
    }
