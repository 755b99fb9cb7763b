-- Rows of calls with operands.
use Rattle.std.specs.Prelude.{ℕ, pos, ◌≡◌, ◌<◌, List, Some, slice_get, length, take}
use Rattle.limbo_types.specs.Types as ty
use Rattle.limbo_types.specs.Types.{Ty}
use Rattle.limbo_types.specs.View.{tys_of}
use Rattle.limbo_values.specs.declared.number.Kind.TheVariants.{Int}
use Rattle.limbo_values.specs.Numbers.{InRange}
use Rattle.limbo_typed.specs.Typed as typed
use Rattle.limbo_typed.specs.Sound.{IsSound}
use Rattle.limbo_meaning.specs.Trees as tree
use Rattle.limbo_kept.specs.Trees.{WorkIs}
use Rattle.core_code.specs.Code as core
use Rattle.core_typing.specs.Written.{told}
use Rattle.value_frames.specs.Frames.{Boxed, form_of, room_for, row_of}
use Rattle.value_code.specs.Objects.{of_function}
use Rattle.value_follows.specs.Stands.{scope, types_of}
use Rattle.value_follows.specs.Rows.{Base, InstrGoes}
use Rattle.rows_calling.specs.Rows.{FunctionsBegin}

-- What is asked of the functions of a module for operands to come to parameters: parameters are the first variables, and the number of
-- their bytes is an int.
pub record ParametersPass (m : typed.Module) : Type 0 where
  pub first : (n : ℕ) (f : typed.Function) → slice_get m.functions n ≡ Some f → take (length f.of.args) (types_of m f) ≡ f.of.args
  pub fit : (n : ℕ) (f : typed.Function) → slice_get m.functions n ≡ Some f → InRange Int (pos (row_of m.adts f.of.args).size)

-- In front of a place of a function's code it is told that a slot's value is a tuple of such as a call takes.
abbrev pub IsToldSo : (m : typed.Module) → typed.Function → (pc : ℕ) → Ty → (fn slot : ℕ) → Type 0
IsToldSo m f pc t fn a =
    (us : List Ty) × (told (of_function m f).code pc a ≡ Some (ty.Tuple (tys_of us))) × WorkIs (scope m f) t (tree.Call fn) us t

-- A call of a function with operands, which were put together, goes on in the frame that is made for it, where the operands are its
-- parameters and its answer has no record of its own: it is nothing, a number or a reference. Where too many frames wait, both processes
-- end as broken.
abbrev pub ArgumentsGo : Type 0
ArgumentsGo =
    (m : typed.Module) → Base m → FunctionsBegin m → ParametersPass m → (t : Ty) (f into a : ℕ) →
    (form_of t ≡ Boxed → ⊥) → InstrGoes m (core.Call t f into (Some a))

-- So does one whose answer has a record of its own, which is made in front of the call, where values of its type take some room.
abbrev pub BoxedArgumentsGo : Type 0
BoxedArgumentsGo =
    (m : typed.Module) → Base m → FunctionsBegin m → ParametersPass m → (t : Ty) (f into a : ℕ) →
    form_of t ≡ Boxed → 0 < (room_for m.adts t).size → InstrGoes m (core.Call t f into (Some a))

-- In a sound module parameters are the first variables.
abbrev pub SoundParametersFirst : Type 0
SoundParametersFirst =
    (m : typed.Module) → IsSound m → (n : ℕ) (f : typed.Function) → slice_get m.functions n ≡ Some f →
    take (length f.of.args) (types_of m f) ≡ f.of.args
