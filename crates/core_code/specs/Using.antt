-- Which slots instructions name.
use Rattle.std.specs.Prelude.{◌≡◌, ℕ, ◌+◌, ◌<◌, ◌≤◌, List, Option, Some, None, slice_get}
use Rattle.limbo_layout.specs.Adts.{Def}
use Rattle.limbo_layout.specs.Laying.{AllBelow}
use Rattle.limbo_meaning.specs.Program.{Routine}
use Rattle.core_code.specs.Code.{Instr, Give, Place, Gather, Pick, Known, Write, CopyInto, Cell, Call, Print, Skip, Truth, Element, Next}
use Rattle.core_code.specs.Code.{Other}
use Rattle.core_code.specs.Code.{Start, Keep, Take, Drop, Mirror, Unless, Jump, Back, Return}
use Rattle.core_code.specs.Statements.{function_of}

-- A slot, where there is one, is among so many.
abbrev pub IfBelow : ℕ → Option ℕ → Type 0
IfBelow n None = Unit {0}
IfBelow n (Some s) = s < n

-- An instruction names slots among so many alone.
abbrev pub Uses : ℕ → Instr → Type 0
Uses n (Give t o into from) = (into < n) × AllBelow n from
Uses n (Place t v j k into from) = (into < n) × (from < n)
Uses n (Gather t o into k) = into < n
Uses n (Pick t k into from) = (into < n) × (from < n)
Uses n (Known v into) = into < n
Uses n (Write t w operands part from) = AllBelow n operands × (from < n)
Uses n (CopyInto array start from) = (array < n) × (start < n) × (from < n)
Uses n (Cell t into item behind) = (into < n) × (item < n) × IfBelow n behind
Uses n (Call t f into o) = (into < n) × IfBelow n o
Uses n (Print ps into o) = (into < n) × IfBelow n o
Uses n (Skip c into decision from passes) = (into < n) × IfBelow n decision × (from < n)
Uses n (Truth into from) = (into < n) × (from < n)
Uses n (Element t array index from) = (array < n) × (from < n)
Uses n (Start loop) = loop < n
Uses n (Next array loop named passes) = (array < n) × (loop < n)
Uses n (Other t array loop from) = (array < n) × (loop < n) × (from < n)
Uses n (Keep loop from words) = (loop < n) × (from + words ≤ n)
Uses n (Take loop from words passes) = (loop < n) × (from + words ≤ n)
Uses n (Drop s k) = s < n
Uses n (Mirror d passes) = d < n
Uses n (Unless s passes) = s < n
Uses n (Jump passes) = Unit {0}
Uses n (Back steps) = Unit {0}
Uses n (Return from) = IfBelow n from

-- Instructions of a function name slots that it has.
abbrev pub SlotsAreThere : Type 0
SlotsAreThere =
    (defs : List Def) (r : Routine) (pc : ℕ) (i : Instr) → slice_get (function_of defs r).code pc ≡ Some i →
    Uses (function_of defs r).slots i
