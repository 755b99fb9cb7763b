-- What a call says of a value that is stated, where the call can run out of memory.
use Rattle.std.specs.Prelude.{◌≡◌, ◌⊎◌, ℕ, ◌-◌, Option, Some, None, Result, Err, List, length}
use Rattle.dis_format.specs.declared.fault.Cause.{Cause}
use Rattle.dis_format.specs.declared.fault.Cause.TheVariants as cause
use Rattle.dis_format.specs.declared.fault.Refusal.{Refusal}
use Rattle.dis_format.specs.declared.fault.FileFault.{FileFault}
use Rattle.dis_format.specs.declared.fault.FileFault.TheVariants as fault

-- The refusal of a field at a place.
abbrev pub refused_at : Cause → ℕ → FileFault
refused_at cause.Short at = fault.Short at
refused_at cause.Magic at = fault.Magic at
refused_at cause.Signed at = fault.Signed at
refused_at cause.BadOperand at = fault.BadOperand at
refused_at cause.BadOpcode at = fault.BadOpcode at
refused_at cause.BadType at = fault.BadType at
refused_at cause.BadData at = fault.BadData at
refused_at cause.BadLink at = fault.BadLink at
refused_at cause.Trailing at = fault.Trailing at
refused_at cause.BadFlags at = fault.BadFlags at

-- The number that a refusal is known by, and its place. Want of memory is no refusal.
abbrev pub refusal_number : FileFault → Option (ℕ × ℕ)
refusal_number fault.NoMemory = None
refusal_number (fault.Short at) = Some (80, at)
refusal_number (fault.Magic at) = Some (81, at)
refusal_number (fault.Signed at) = Some (82, at)
refusal_number (fault.BadOperand at) = Some (83, at)
refusal_number (fault.BadOpcode at) = Some (84, at)
refusal_number (fault.BadType at) = Some (85, at)
refusal_number (fault.BadData at) = Some (86, at)
refusal_number (fault.BadLink at) = Some (87, at)
refusal_number (fault.Trailing at) = Some (88, at)
refusal_number (fault.BadFlags at) = Some (89, at)

-- The place of a refusal's field in all of the bytes.
abbrev pub placed : List ℕ → Refusal → FileFault
placed bytes r = refused_at r.cause (length bytes - r.left)

-- The call answered this, unless memory ran out.
abbrev pub OrNoMemory : {X : Type 0} → Result X FileFault → Result X FileFault → Type 0
OrNoMemory result answer = (result ≡ answer) ⊎ (result ≡ Err fault.NoMemory)
