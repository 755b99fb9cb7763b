-- What is told of a written type that means none.
use Rattle.std.specs.Prelude.{◌≡◌}
use Rattle.inf_text.specs.declared.span.Span.{Span}
use Rattle.limbo_causes.specs.Causes.{Cause, nothing}
use Rattle.limbo_causes.specs.Causes as cause
use Rattle.limbo_body_types.specs.declared.fault.WrittenFault.{WrittenFault}
use Rattle.limbo_body_types.specs.declared.fault.WrittenFault.TheVariants.{NoMemory, Unknown, NotAType}

-- The cause of a fault. Want of memory has none.
abbrev pub IsCauseOf : WrittenFault → Cause → Type 0
IsCauseOf NoMemory k = ⊥
IsCauseOf (Unknown at) k = k ≡ cause.Unknown
IsCauseOf (NotAType at) k = k ≡ nothing

-- Where a fault is: at a name in the type, or of the whole type.
abbrev pub place_in : WrittenFault → (whole : Span) → Span
place_in NoMemory whole = whole
place_in (Unknown at) whole = at
place_in (NotAType at) whole = at
