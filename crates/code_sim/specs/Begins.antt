-- What a machine of a module's object begins with.
use Rattle.std.specs.Prelude.{◌≡◌, Some}
use Rattle.limbo_typed.specs.Typed.{Module}
use Rattle.typed_lower.specs.Statements.{module_code}
use Rattle.dis_meaning.specs.Opening.{Opened, opened}
use Rattle.dis_follows.specs.Start.{opening, first_process}
use Rattle.code_sim.specs.Keeps.{object_for}

-- The world and the process in which the object's keeping of the module begins.
abbrev pub begins_with : Module → Opened
begins_with m = record { world = opening (module_code m); first = first_process (module_code m) }

abbrev pub Begins : Module → Type 0
Begins m = opened (object_for m) ≡ Some (begins_with m)
