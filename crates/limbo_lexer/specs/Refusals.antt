-- The numbers under which refusals of a source are told.
use Rattle.std.specs.Prelude.{ℕ}
use Rattle.limbo_lexer.specs.declared.fault.LexFault.{LexFault}
use Rattle.limbo_lexer.specs.declared.fault.LexFault.TheVariants.{NoMemory, BadUtf8, BadChar, BadEscape, NumberTooWide, Unclosed, SourceTooLong}

-- Want of memory is no refusal, and has 0.
abbrev pub number_of : LexFault → ℕ
number_of NoMemory = 0
number_of (BadUtf8 at) = 1
number_of (BadChar span) = 20
number_of (BadEscape span) = 21
number_of (NumberTooWide span) = 22
number_of (Unclosed span) = 23
number_of SourceTooLong = 24
