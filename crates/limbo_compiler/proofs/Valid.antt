-- The object of a module of the part that isn't too large is valid.
use Rattle.std.proofs.Common.{◌≡◌, ℕ, zero, suc, ◌+◌, ◌*◌, ◌<◌, ◌≤◌, true, ◌&&◌, ◌⊎◌, inl, inr, List, [], ◌∷◌, length, Some, refl, subst, arith}
use Rattle.std.specs.Prelude.{slice_get, not, nat_eq, ◌==◌}
use Rattle.std.specs.Str.{all_scalars}
use Rattle.std.proofs.lemmas.Bool.{and_from, and_parts}
use Rattle.limbo_typed.specs.Typed as typed
use Rattle.limbo_typed.specs.Typed.{Module}
use Rattle.slot_code.specs.Code.{Function}
use Rattle.typed_lower.specs.Sizes.{frame_size, largest_frame}
use Rattle.typed_lower.specs.Statements.{function_code, functions_code, module_code}
use Rattle.typed_part.specs.Part.{is_part, is_letter, is_name, is_function, all}
use Rattle.typed_part.proofs.Tests.{left, right}
use Rattle.dis_format.specs.Parts.{no_zero}
use Rattle.dis_objects.specs.Frames.{most_bytes}
use Rattle.dis_objects.specs.Objects.{all_code, most_instructions}
use Rattle.part_code.specs.Held.{AllHeld}
use Rattle.part_code.proofs.Functions.{part_is_proper}
use Rattle.part_code.proofs.Rooms.{instructions_held, arguments_few}
use Rattle.valid_objects.specs.Writable.{IsWritable, most_moved}
use Rattle.valid_objects.proofs.Whole.{object_is_valid}
use Rattle.code_sim.specs.Keeps.{object_for}
use Rattle.code_sim.proofs.Small.{at_most, lowered, all_small}
use Rattle.code_sim.proofs.Strings.{all_spelled}
use Rattle.limbo_compiler.specs.Limits.{IsWithin, ObjectsValid}

-- ---- names

scalars : (cs : List ℕ) → is_name cs ≡ true → all_scalars cs ≡ true
scalars [] h = refl
scalars (c ∷ cs) h =
    let a = and_parts (is_letter c) (is_name cs) h in and_from _ (all_scalars cs) (and_parts _ (not (nat_eq c 0)) a.0).0 (scalars cs a.1)

none_zero : (cs : List ℕ) → is_name cs ≡ true → no_zero cs ≡ true
none_zero [] h = refl
none_zero (c ∷ cs) h =
    let a = and_parts (is_letter c) (is_name cs) h in
    and_from (not (c == 0)) (no_zero cs) (and_parts _ (not (nat_eq c 0)) a.0).1 (none_zero cs a.1)

named : (m : Module) → is_part m ≡ true → is_name m.name ≡ true
named m part = right _ (is_name m.name) (left _ (all (is_function m) m.functions) part)

-- ---- functions

moved_few : (b f : ℕ) → 3 * b ≤ f → f ≤ largest_frame → b ≤ most_moved
moved_few b f h l = omega (arith, h, l)

module _ (m : Module) (part : is_part m ≡ true) (within : IsWithin m) where
  frame_few : (n : ℕ) (f : typed.Function) → slice_get m.functions n ≡ Some f → frame_size f ≤ largest_frame
  frame_few n f e = by (at_most (frame_size f) largest_frame)
    where
      by : (frame_size f ≤ largest_frame) ⊎ (largest_frame < frame_size f) → frame_size f ≤ largest_frame
      by (inl l) = l
      by (inr large) = absurd (within.frames (inl (record { number = n; function = f; there = e; large = large })))

  code_short : length (all_code (module_code m)) ≤ most_instructions
  code_short = by (at_most (length (all_code (module_code m))) most_instructions)
    where
      by : (length (all_code (module_code m)) ≤ most_instructions) ⊎ (most_instructions < length (all_code (module_code m)))
          → length (all_code (module_code m)) ≤ most_instructions
      by (inl l) = l
      by (inr large) = absurd (within.code large)

  held : (n : ℕ) (g : Function) → slice_get (functions_code m) n ≡ Some g → AllHeld g.code
  held n g e =
      let l = lowered m n g e in
      subst (λ (h : Function). AllHeld h.code) l.same (instructions_held m part n l.function l.there)

  moved : (n : ℕ) (g : Function) → slice_get (functions_code m) n ≡ Some g → most_bytes (functions_code m) [] g.code ≤ most_moved
  moved n g e =
      let l = lowered m n g e in
      subst (λ (h : Function). most_bytes (functions_code m) [] h.code ≤ most_moved) l.same
      (moved_few (most_bytes (functions_code m) [] (function_code l.function).code) (frame_size l.function)
      (arguments_few m part n l.function l.there) (frame_few n l.function l.there))

pub objects_valid : ObjectsValid
objects_valid m part within spell =
    object_is_valid (module_code m) (record {
      proper = part_is_proper m part;
      small = all_small m part within.frames;
      short = code_short m part within;
      held = held m part within;
      moved = moved m part within;
      name = scalars m.name (named m part);
      ended = none_zero m.name (named m part);
      texts = all_spelled (object_for m).items spell;
    })
