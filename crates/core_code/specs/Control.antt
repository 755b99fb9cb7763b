-- Where control goes on from an instruction.
use Rattle.std.specs.Prelude.{◌≡◌, ℕ, suc, ◌+◌, ◌-◌, ◌<◌, ◌≤◌, List, [], ◌∷◌, length, Some, slice_get, All}
use Rattle.limbo_layout.specs.Adts.{Def}
use Rattle.limbo_meaning.specs.Program.{Routine}
use Rattle.core_code.specs.Code.{Instr, Skip, Next, Take, Mirror, Unless, Jump, Back, Return}
use Rattle.core_code.specs.Statements.{function_of}

-- To the next instruction, or over so many.
abbrev pub on_or_past : (pc passes : ℕ) → List ℕ
on_or_past pc n = suc pc ∷ (suc pc + n) ∷ []

-- The places at which control may go on in the code from an instruction at this place; from a return it goes on in another frame.
abbrev pub leads_to : (pc : ℕ) → Instr → List ℕ
leads_to pc (Skip c into d from n) = on_or_past pc n
leads_to pc (Next a loop named n) = on_or_past pc n
leads_to pc (Take loop from words n) = on_or_past pc n
leads_to pc (Mirror d n) = on_or_past pc n
leads_to pc (Unless s n) = on_or_past pc n
leads_to pc (Jump n) = (suc pc + n) ∷ []
leads_to pc (Back n) = (pc - n) ∷ []
leads_to pc (Return from) = []
leads_to pc i = suc pc ∷ []

-- Code that control leaves by a return alone.
pub record IsClosed (code : List Instr) : Type 0 where
  pub begins : 0 < length code
  -- from each instruction control goes on to one of the code
  pub inside : (pc : ℕ) (i : Instr) → slice_get code pc ≡ Some i → All (λ to. to < length code) (leads_to pc i)
  -- and back over no more than stand in front of it
  pub back : (pc n : ℕ) → slice_get code pc ≡ Some (Back n) → n ≤ pc

-- So is the code of each function.
abbrev pub FunctionsAreClosed : Type 0
FunctionsAreClosed = (defs : List Def) (r : Routine) → IsClosed (function_of defs r).code
