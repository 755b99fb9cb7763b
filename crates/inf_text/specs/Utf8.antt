-- Where bytes aren't well-formed UTF-8 (RFC 3629, section 4).
use Rattle.std.specs.Prelude.{List, ℕ}
use Rattle.std.specs.Str.{IsUtf8, IsValidUpTo}
use Rattle.inf_text.specs.declared.text.TextFault.{TextFault}
use Rattle.inf_text.specs.declared.text.TextFault.TheVariants.{NoMemory, BadUtf8}

-- A refusal names the first bad place: the bytes before it are the longest front that is well formed. Want of memory
-- says nothing of the bytes.
abbrev pub IsFirstBadPlace : List ℕ → TextFault → Type 0
IsFirstBadPlace bytes NoMemory = Unit {0}
IsFirstBadPlace bytes (BadUtf8 at) = (IsUtf8 bytes → ⊥) × IsValidUpTo bytes at
