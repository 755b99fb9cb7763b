-- What an operation that makes a string comes to.
use Rattle.std.specs.Prelude.{ℕ, List, Option, Vec, Result}
use Rattle.std.specs.Global.{Global}
use Rattle.dis_places.specs.declared.fault.Raise.{Raise}
use Rattle.dis_meaning.specs.Words.{Access, Found, ◌>>=◌}
use Rattle.dis_meaning.specs.Process.{Process}
use Rattle.dis_isa.specs.declared.inst.Middle.{Middle}
use Rattle.dis_isa.specs.declared.inst.Middle.TheVariants as middle
use Rattle.dis_isa.specs.declared.inst.Operand.{Operand}
use Rattle.dis_memory.specs.Blocks.{Block, Text, World}
use Rattle.dis_memory.specs.Places.{middle_reference, reference_at, spot}
use Rattle.dis_results.specs.Going.{told}

-- Its characters, or what is raised.
abbrev pub told_text : Result (Vec ℕ Global) Raise → Access (List ℕ)
told_text outcome = told (λ (t : Vec ℕ Global). t.items) outcome

-- A block of these characters.
abbrev pub as_block : Access (List ℕ) → Access Block
as_block a = a >>= λ t. Found (Text t)

-- What the middle refers to; where there is none, the destination.
abbrev pub left_reference : World → Process → Middle → Operand → Access (Option ℕ)
left_reference x p middle.None dst = spot x p dst >>= reference_at x p
left_reference x p m dst = middle_reference x p m
