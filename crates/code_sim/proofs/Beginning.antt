-- What a machine of a module's object begins with.
use Rattle.std.proofs.Common.{◌≡◌, true}
use Rattle.limbo_typed.specs.Typed.{Module}
use Rattle.typed_lower.specs.Statements.{module_code}
use Rattle.typed_lower.specs.Sizes.{FrameTooLarge}
use Rattle.typed_part.specs.Part.{is_part}
use Rattle.part_code.proofs.Functions.{part_is_proper}
use Rattle.dis_meaning.specs.Opening.{StringsSpell}
use Rattle.dis_follows.proofs.Opens.{opens}
use Rattle.code_sim.specs.Keeps.{object_for}
use Rattle.code_sim.specs.Begins.{Begins}
use Rattle.code_sim.proofs.Small.{all_small}
use Rattle.code_sim.proofs.Strings.{all_spelled}

pub begins : (m : Module) → is_part m ≡ true → (FrameTooLarge m → ⊥) → StringsSpell (object_for m) → Begins m
begins m part fits spell =
    opens (module_code m) (part_is_proper m part) (all_small m part fits).frames (all_spelled (object_for m).items spell)
