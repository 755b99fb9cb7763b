-- What is absent where a type of the code has another form.
use Rattle.std.proofs.Common.{◌≡◌, None, Box, Global, refl}
use Rattle.limbo_types.specs.declared.ty.Ty as code_ty
use Rattle.limbo_types.specs.declared.ty.Ty.TheVariants as make
use Rattle.limbo_types.specs.Types as ty
use Rattle.limbo_types.specs.View.{view_ty}
use Rattle.limbo_types.proofs.Forms.{HasForm, has_form}
use Rattle.limbo_channels.specs.Choosing.{carried, received_from_any}

pub none_carried : (u : code_ty.Ty) → ((b : Box code_ty.Ty Global) → u ≡ make.Chan b → ⊥) → None ≡ carried (view_ty u)
none_carried u never = go (view_ty u) (has_form u)
  where
    go : (t : ty.Ty) → HasForm u t → None ≡ carried t
    go (ty.ChanOf t) h = absurd (never h.0 h.1)
    go _ h = refl

pub none_received : (u : code_ty.Ty) → ((b : Box code_ty.Ty Global) → u ≡ make.Array b → ⊥)
    → None ≡ received_from_any (view_ty u)
none_received u never = go (view_ty u) (has_form u)
  where
    go : (t : ty.Ty) → HasForm u t → None ≡ received_from_any t
    go (ty.ArrayOf t) h = absurd (never h.0 h.1)
    go _ h = refl
