-- How large a module may be, and what its object is then.
use Rattle.std.specs.Prelude.{◌<◌, ◌≡◌, true, length}
use Rattle.limbo_typed.specs.Typed.{Module}
use Rattle.typed_lower.specs.Statements.{module_code}
use Rattle.typed_lower.specs.Sizes.{FrameTooLarge}
use Rattle.typed_part.specs.Part.{is_part}
use Rattle.dis_format.specs.Objects.{IsValid}
use Rattle.dis_objects.specs.Objects.{all_code, most_instructions}
use Rattle.dis_meaning.specs.Opening.{StringsSpell}
use Rattle.code_sim.specs.Keeps.{object_for}

-- The object's code would have more than 1,048,576 instructions.
abbrev pub CodeTooLarge : Module → Type 0
CodeTooLarge m = most_instructions < length (all_code (module_code m))

-- Neither a frame nor the code is too large.
pub record IsWithin (m : Module) : Type 0 where
  pub frames : FrameTooLarge m → ⊥
  pub code : CodeTooLarge m → ⊥

-- The object of such a module of the part is valid where its strings are well-formed.
abbrev pub ObjectsValid : Type 0
ObjectsValid = (m : Module) → is_part m ≡ true → IsWithin m → StringsSpell (object_for m) → IsValid (object_for m)
