-- The code's data, without how they lie in memory.
use Rattle.std.specs.Prelude.{pos, List, None, map}
use Rattle.limbo_types.specs.View.{view_ty}
use Rattle.limbo_layout.specs.Adts.{Def}
use Rattle.limbo_typed.specs.declared.stmt.Constant.TheVariants as constant
use Rattle.limbo_meaning.specs.Values.{Value, Num, Ref, nothing}
use Rattle.limbo_meaning.specs.Places as places
use Rattle.limbo_meaning.specs.Trees as tree
use Rattle.core_code.specs.Code as code
use Rattle.core_code.specs.Code.{Instr, Function, Program}
use Rattle.core_data.specs.declared.code.Root as code_root
use Rattle.core_data.specs.declared.code.Root.TheVariants as root
use Rattle.core_data.specs.declared.code.Way as code_way
use Rattle.core_data.specs.declared.code.Work as code_work
use Rattle.core_data.specs.declared.code.Work.TheVariants as work
use Rattle.core_data.specs.declared.code.Known as code_known
use Rattle.core_data.specs.declared.code.Known.TheVariants as known
use Rattle.core_data.specs.declared.code.Inst as code_inst
use Rattle.core_data.specs.declared.code.Inst.TheVariants as inst
use Rattle.core_data.specs.declared.code.CoreFn as code_fn
use Rattle.core_data.specs.declared.code.CoreProgram as code_program

abbrev pub view_root : code_root.Root → places.Root
view_root (root.Local x) = places.Local x
view_root (root.Global x) = places.Global x
view_root root.Element = places.Element
view_root root.Target = places.Target

abbrev pub view_way : code_way.Way → places.Way
view_way w = record { root = view_root w.root; parts = w.parts.items; character = w.character }

abbrev pub view_work : code_work.Work → tree.Work
view_work (work.Number n) = tree.Literal (constant.Number n)
view_work (work.Chars s) = tree.Literal (constant.Chars s)
view_work work.Nil = tree.Nil
view_work (work.Operate o) = tree.Operate o
view_work (work.Read w) = tree.Read (view_way w)
view_work work.Channel = tree.NewChannel
view_work (work.Sprint ps) = tree.Sprint ps.items

abbrev pub view_known : code_known.Known → Value
view_known (known.Length n) = Num (pos n)
view_known known.NoCell = Ref None
view_known known.Nothing = nothing

abbrev pub view_inst : code_inst.Inst → Instr
view_inst (inst.Give t o into from) = code.Give (view_ty t) (view_work o) into from.items
view_inst (inst.Place t v j k into from) = code.Place (view_ty t) v j k into from
view_inst (inst.Gather t o into n) = code.Gather (view_ty t) (tree.Operate o) into n
view_inst (inst.Pick t n into from) = code.Pick (view_ty t) n into from
view_inst (inst.Known v into) = code.Known (view_known v) into
view_inst (inst.Write t w operands part from) = code.Write (view_ty t) (view_way w) operands.items part.items from
view_inst (inst.CopyInto array start from) = code.CopyInto array start from
view_inst (inst.Cell t into item behind) = code.Cell (view_ty t) into item behind
view_inst (inst.Call t f into operands) = code.Call (view_ty t) f into operands
view_inst (inst.Print ps into operands) = code.Print ps.items into operands
view_inst (inst.Skip c into decision from n) = code.Skip c into decision from n
view_inst (inst.Truth into from) = code.Truth into from
view_inst (inst.Element t array index from) = code.Element (view_ty t) array index from
view_inst (inst.Start turns) = code.Start turns
view_inst (inst.Next array turns named n) = code.Next array turns named.items n
view_inst (inst.Other t array turns from) = code.Other (view_ty t) array turns from
view_inst (inst.Keep turns from words) = code.Keep turns from words
view_inst (inst.Take turns from words n) = code.Take turns from words n
view_inst (inst.Drop s k) = code.Drop s k
view_inst (inst.Mirror d n) = code.Mirror d n
view_inst (inst.Unless s n) = code.Unless s n
view_inst (inst.Jump n) = code.Jump n
view_inst (inst.Back n) = code.Back n
view_inst (inst.Return from) = code.Return from

abbrev pub view_function : code_fn.CoreFn → Function
view_function f = record { variables = map view_ty f.variables.items; slots = f.slots; code = map view_inst f.code.items }

-- A program over these adts.
abbrev pub view_program : List Def → code_program.CoreProgram → Program
view_program defs p = record { adts = defs; functions = map view_function p.functions.items }
