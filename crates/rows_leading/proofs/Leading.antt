-- The rows of a module that suits.
use Rattle.std.proofs.Common.{ℕ, ◌≤◌, pos, arith}
use Rattle.std.proofs.lemmas.Int.{ints}
use Rattle.limbo_layout.specs.Layout.{limit}
use Rattle.limbo_values.specs.declared.number.Kind.TheVariants.{Int}
use Rattle.limbo_values.specs.Numbers.{InRange}
use Rattle.limbo_typed.specs.Typed as typed
use Rattle.rows_calling.proofs.Sound.{sound_functions_begin}
use Rattle.rows_passing.specs.Rows.{ParametersPass}
use Rattle.rows_passing.proofs.Sound.{sound_parameters_first}
use Rattle.value_steps.proofs.Steps.{rows_follow}
use Rattle.rows_leading.specs.Leading.{Suits, SuitingLead, SuitingFollow}
use Rattle.rows_leading.proofs.Rows.{leads}

small : (n : ℕ) → n ≤ limit → InRange Int (pos n)
small n l = record { above = omega (arith, ints, l); below = omega (arith, ints, l) }

parameters_pass : (m : typed.Module) → Suits m → ParametersPass m
parameters_pass m s = record {
  first = sound_parameters_first m s.sound;
  fit = λ n f e. small _ (s.parameters n f e);
}

pub suiting_lead : SuitingLead
suiting_lead m s k i x p q ready =
    leads m (sound_functions_begin m s.sound s.laid s.few s.written s.part s.runs) (parameters_pass m s) s.fits k i x p q ready

pub suiting_follow : SuitingFollow
suiting_follow m s = rows_follow m (suiting_lead m s)
