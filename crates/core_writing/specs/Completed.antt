-- A tree behind its operands, of whose code nothing else is written.
use Rattle.std.specs.Prelude.{ℕ, suc, List, [], ◌++◌, if◌then◌else◌}
use Rattle.limbo_layout.specs.Adts.{Def}
use Rattle.limbo_types.specs.Types as ty
use Rattle.limbo_types.specs.Types.{Ty}
use Rattle.limbo_meaning.specs.Trees.{Term, Node, NewChannel, Operate, Terms}
use Rattle.limbo_values.specs.declared.number.Kind.TheVariants as kind
use Rattle.limbo_typed.specs.declared.operation.Operation.{Operation}
use Rattle.limbo_typed.specs.declared.operation.Operation.TheVariants as operation
use Rattle.limbo_typed.specs.Typed as typed
use Rattle.limbo_meaning.specs.Evaluation.{passes_on}
use Rattle.core_code.specs.Terms.{Lowered, LoweredAll, lower_all, node, types_in, count_of}
use Rattle.core_parts.specs.Lowered.{none_from, added}
use Rattle.core_parts.specs.Nodes.{gave}

-- what isn't of this part of the language has a slot, and no code
abbrev pub unlowered : LoweredAll → Lowered
unlowered l = record { code = l.code; drops = l.drops; value = l.free; free = suc l.free }

-- a byte that is printed stands there as an int
abbrev pub widened : Ty → Lowered → Lowered
widened ty.Byte l = gave ty.Int (Operate (operation.Convert kind.Byte kind.Int)) 0 (added (none_from l.free) l)
widened t l = l

module _ (defs : List Def) where
  -- how many references an operation gets
  abbrev pub got : Ty → Operation → ℕ
  got t o = if passes_on o then 0 else count_of defs t

  abbrev pub completed : Term → LoweredAll → Lowered
  completed (Node t o ts) l = node defs (types_in defs ts) t o l
  completed t l = unlowered l

  -- operands behind those that are there
  abbrev pub continued : LoweredAll → Terms → LoweredAll
  continued l ts =
      let m = lower_all defs l.free ts in
      record {
        each = l.each ++ m.each;
        code = l.code ++ m.code;
        drops = l.drops ++ m.drops;
        values = l.values ++ m.values;
        free = m.free;
      }

  abbrev pub channelled : Ty → (size : typed.Optional) → LoweredAll → Lowered
  channelled t typed.Absent l = node defs [] t NewChannel l
  channelled t (typed.Present n) l = unlowered l
