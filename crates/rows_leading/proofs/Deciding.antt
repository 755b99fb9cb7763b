-- Cases of types.
use Rattle.std.proofs.Common.{◌≡◌, ◌⊎◌, inl, inr, refl}
use Rattle.limbo_types.specs.Types as ty
use Rattle.limbo_types.specs.Types.{Ty}
use Rattle.limbo_typed.specs.Typed as typed
use Rattle.limbo_typed.specs.Fitting.{HasNil}
use Rattle.value_frames.specs.Frames.{Form, Nowhere, AsNumber, AsReference, Boxed, form_of}
use Rattle.rows_leading.specs.Leading.{IsStored}

pub is_big : (t : Ty) → (t ≡ ty.Big) ⊎ (t ≡ ty.Big → ⊥)
is_big ty.Big = inl refl
is_big t = inr (λ e. cc)

-- How a value of a type that is stored stands in its slot.
pub data Stored (t : Ty) : Type 0 where
  number : form_of t ≡ AsNumber → Stored t
  reference : form_of t ≡ AsReference → Stored t
  box : form_of t ≡ Boxed → Stored t

nowhere : (t : Ty) → form_of t ≡ Nowhere → t ≡ ty.Nothing
nowhere ty.Nothing e = refl
nowhere t e = absurd cc

stored_so : (t : Ty) → (t ≡ ty.Nothing → ⊥) → (form : Form) → form_of t ≡ form → Stored t
stored_so t none Nowhere e = absurd (none (nowhere t e))
stored_so t none AsNumber e = number e
stored_so t none AsReference e = reference e
stored_so t none Boxed e = box e

pub stored : (m : typed.Module) (t : Ty) → IsStored m t → Stored t
stored m t is = stored_so t is.0 (form_of t) refl

-- A type that has `nil` is one of references.
pub nil_refers : (t : Ty) → HasNil t → form_of t ≡ AsReference
nil_refers ty.Byte h = absurd h
nil_refers ty.Int h = absurd h
nil_refers ty.Big h = absurd h
nil_refers ty.Nothing h = absurd h
nil_refers (ty.Tuple ts) h = absurd h
nil_refers (ty.Adt n) h = absurd h
nil_refers t h = refl

boxed_so : (form : Form) → (form ≡ Boxed) ⊎ (form ≡ Boxed → ⊥)
boxed_so Boxed = inl refl
boxed_so form = inr (λ e. cc)

pub is_boxed : (t : Ty) → (form_of t ≡ Boxed) ⊎ (form_of t ≡ Boxed → ⊥)
is_boxed t = boxed_so (form_of t)
