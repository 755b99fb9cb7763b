-- What holds of every module of the part.
use Rattle.std.specs.Prelude.{◌≡◌, true}
use Rattle.limbo_typed.specs.Typed.{Module}
use Rattle.typed_lower.specs.Keeps.{HasCode}
use Rattle.typed_part.specs.Part.{is_part}

-- All that stands in its functions has code.
abbrev pub PartHasCode : Type 0
PartHasCode = (m : Module) → is_part m ≡ true → HasCode m
