-- What operands are put together as, and where each of them moves.
use Rattle.std.specs.Prelude.{ℕ, List, length, Option, None, take, slice_index_or}
use Rattle.limbo_types.specs.Types as ty
use Rattle.limbo_types.specs.Types.{Ty}
use Rattle.limbo_types.specs.View.{tys_of}
use Rattle.limbo_layout.specs.Adts.{Def}
use Rattle.core_code.specs.Terms.{Moved, count_of, count_all, part_types, moves_into, numbers_from}
use Rattle.core_parts.specs.Nodes.{Whole}

abbrev pub move_into : List Def → List Ty → (into number slot : ℕ) → Moved
move_into defs ts into n s =
    record { slot = s; first = 0; count = count_of defs (slice_index_or ts n ty.Int); into = into; at = count_all defs (take n ts) }

-- A value of a type, of the parts of these numbers, in a slot.
abbrev pub whole_of : List Def → Ty → (variant : Option ℕ) → (parts : List ℕ) → (into : ℕ) → (slots : List ℕ) → Whole
whole_of defs t v ns into ss = record { type = t; variant = v; parts = ns; moves = moves_into defs (part_types defs t) into ns ss }

-- The tuple of these types whose parts, from one on, the operands of a call and of a print are.
abbrev pub tuple_of : List Def → (from : ℕ) → List Ty → (into : ℕ) → (slots : List ℕ) → Whole
tuple_of defs from ts into ss =
    let ns = numbers_from defs from (length ss) in
    record { type = ty.Tuple (tys_of ts); variant = None; parts = ns; moves = moves_into defs ts into ns ss }
