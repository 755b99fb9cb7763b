-- What is lowered, without how it lies in memory.
use Rattle.std.specs.Prelude.{ℕ, List, [], ◌∷◌, ◌++◌, map, Vec}
use Rattle.std.specs.Global.{Global}
use Rattle.core_data.specs.declared.code.Inst as code_inst
use Rattle.core_data.specs.View.{view_inst}
use Rattle.core_code.specs.Code.{Instr}
use Rattle.core_code.specs.Terms.{Lowered, LoweredAll}
use Rattle.core_parts.specs.declared.lowered.Lowered as code_lowered
use Rattle.core_parts.specs.declared.lowered.LoweredAll as code_lowered_all

unfoldable pub code_of : List code_inst.Inst → List Instr
code_of is = map view_inst is

-- The code of trees in a row, of each and all of it.
unfoldable pub codes_of : List (Vec code_inst.Inst Global) → List (List Instr)
codes_of cs = map (λ c. code_of c.items) cs

abbrev pub joined : List (List Instr) → List Instr
joined [] = []
joined (c ∷ cs) = c ++ joined cs

abbrev pub view_lowered : code_lowered.Lowered → Lowered
view_lowered l = record { code = code_of l.code.items; drops = code_of l.drops.items; value = l.value; free = l.free }

abbrev pub view_lowered_all : code_lowered_all.LoweredAll → LoweredAll
view_lowered_all l = record {
  each = codes_of l.each.items;
  code = joined (codes_of l.each.items);
  drops = code_of l.drops.items;
  values = l.values.items;
  free = l.free;
}

-- No operand yet, and one operand more.
abbrev pub none_from : ℕ → LoweredAll
none_from lo = record { each = []; code = []; drops = []; values = []; free = lo }

abbrev pub added : LoweredAll → Lowered → LoweredAll
added a b = record {
  each = a.each ++ b.code ∷ [];
  code = a.code ++ b.code;
  drops = a.drops ++ b.drops;
  values = a.values ++ b.value ∷ [];
  free = b.free;
}
