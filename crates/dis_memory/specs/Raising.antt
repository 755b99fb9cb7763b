-- What is raised, by whatever instruction (Limbo Language Reference, exceptions; the texts are this profile's).
use Rattle.std.specs.Prelude.{ℕ, List, codes, Result, Ok, Err, Option, Some, None}
use Rattle.limbo_values.specs.declared.raised.Raised.{Raised}
use Rattle.limbo_values.specs.Operators.{text_of}
use Rattle.dis_meaning.specs.Words.{Access, Found, Raises}

abbrev pub nil_text : List ℕ
nil_text = codes "dereference of nil"

abbrev pub negative_text : List ℕ
negative_text = codes "negative array size"

abbrev pub large_text : List ℕ
large_text = codes "array too large"

-- What nil has none of is raised.
abbrev pub not_nil : {T : Type 0} → Option T → Access T
not_nil None = Raises nil_text
not_nil (Some t) = Found t

-- What an operation of numbers or strings raises, the instruction raises.
abbrev pub unless_raised : {T : Type 0} → Result T Raised → Access T
unless_raised (Ok t) = Found t
unless_raised (Err raised) = Raises (text_of raised)
