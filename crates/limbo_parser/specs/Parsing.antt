-- What the public call answers, by what was read.
use Rattle.std.specs.Prelude.{ℕ, ◌-◌, Result, Ok, Err}
use Rattle.limbo_tree.specs.declared.source.Source as code_source
use Rattle.limbo_reading.specs.declared.fault.Fault.TheVariants as fault
use Rattle.limbo_reading.specs.declared.fault.ReadError.{ReadError}
use Rattle.limbo_reading.specs.declared.fault.ReadError.TheVariants as errors
use Rattle.limbo_parser.specs.declared.tree.ParseFault.{ParseFault}
use Rattle.limbo_parser.specs.declared.tree.ParseFault.TheVariants as refusal

-- a fault among so many tokens: its place, counted from the front
abbrev pub told : Result code_source.Source ReadError → ℕ → Result code_source.Source ParseFault
told (Ok s) n = Ok s
told (Err errors.NoMemory) n = Err refusal.NoMemory
told (Err (errors.Fault (fault.Syntax left))) n = Err (refusal.Syntax (n - left))
told (Err (errors.Fault (fault.TooDeep left))) n = Err (refusal.TooDeep (n - left))
