-- In a sound module parameters are the first variables.
use Rattle.std.proofs.Common.{◌≡◌, ℕ, zero, suc, List, [], ◌∷◌, Some, subst}
use Rattle.std.specs.Prelude.{slice_get}
use Rattle.limbo_typed.specs.Sound.{Each}
use Rattle.rows_passing.specs.Rows.{SoundParametersFirst}

each_there : {A : Type 0} (P : A → Type 0) (xs : List A) (n : ℕ) (x : A) → Each P xs → slice_get xs n ≡ Some x → P x
each_there P [] n x all e = absurd cc
each_there P (y ∷ ys) zero x all e = let same : y ≡ x = cc in subst P same all.0
each_there P (y ∷ ys) (suc n) x all e = each_there P ys n x all.1 e

pub sound_parameters_first : SoundParametersFirst
sound_parameters_first m sound n f there = (each_there _ m.functions n f sound.functions there).parameters
