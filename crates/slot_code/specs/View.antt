-- The code's data, without how they lie in memory.
use Rattle.std.specs.Prelude.{map}
use Rattle.slot_code.specs.declared.code.Spot as code_spot
use Rattle.slot_code.specs.declared.code.Spot.TheVariants as spot
use Rattle.slot_code.specs.declared.code.Operand as code_operand
use Rattle.slot_code.specs.declared.code.Operand.TheVariants as operand
use Rattle.slot_code.specs.declared.code.Inst as code_inst
use Rattle.slot_code.specs.declared.code.Inst.TheVariants as inst
use Rattle.slot_code.specs.declared.code.SlotFn as code_fn
use Rattle.slot_code.specs.declared.code.GlobalVariable as code_global
use Rattle.slot_code.specs.declared.code.SlotModule as code_module
use Rattle.slot_code.specs.Code as code
use Rattle.slot_code.specs.Code.{Spot, Operand, Inst, Function, Module}

abbrev pub view_spot : code_spot.Spot → Spot
view_spot (spot.Variable k n) = code.Variable k n
view_spot (spot.Global k n) = code.Global k n
view_spot (spot.Temporary k n) = code.Temporary k n
view_spot (spot.Argument k n) = code.Argument k n

abbrev pub view_operand : code_operand.Operand → Operand
view_operand (operand.In s) = code.In (view_spot s)
view_operand (operand.Number n) = code.Number n

abbrev pub view_inst : code_inst.Inst → Inst
view_inst (inst.Move s x) = code.Move (view_spot s) (view_operand x)
view_inst (inst.Hand s x) = code.Hand (view_spot s) (view_operand x)
view_inst (inst.Alter o s x) = code.Alter o (view_spot s) (view_operand x)
view_inst (inst.Operate o s x y) = code.Operate o (view_spot s) (view_operand x) (view_operand y)
view_inst (inst.Branch k c x y n) = code.Branch k c (view_operand x) (view_operand y) n
view_inst (inst.Jump n) = code.Jump n
view_inst (inst.Skip n) = code.Skip n
view_inst (inst.Back n) = code.Back n
view_inst (inst.Begin f) = code.Begin f
view_inst (inst.Call k f n s) = code.Call k f n (view_spot s)
view_inst (inst.Format pieces) = code.Format pieces.items
view_inst (inst.Print n s) = code.Print n (view_spot s)
view_inst (inst.Return x) = code.Return (view_operand x)
view_inst inst.Leave = code.Leave

abbrev pub view_function : code_fn.SlotFn → Function
view_function f = record {
  name = f.name;
  variables = f.variables.items;
  parameters = f.parameters;
  answer = f.answer;
  code = map view_inst f.code.items;
}

abbrev pub view_global : code_global.GlobalVariable → code.GlobalVariable
view_global v = record { kind = v.kind; initial = v.initial }

abbrev pub view_module : code_module.SlotModule → Module
view_module m = record {
  name = m.name;
  globals = map view_global m.globals.items;
  functions = map view_function m.functions.items;
}
