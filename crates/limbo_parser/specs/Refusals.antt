-- The numbers under which refusals of tokens are told.
use Rattle.std.specs.Prelude.{ℕ}
use Rattle.limbo_parser.specs.declared.tree.ParseFault.{ParseFault}
use Rattle.limbo_parser.specs.declared.tree.ParseFault.TheVariants.{NoMemory, Syntax, TooDeep}

-- Want of memory is no refusal, and has 0.
abbrev pub number_of : ParseFault → ℕ
number_of NoMemory = 0
number_of (Syntax token) = 30
number_of (TooDeep token) = 31
