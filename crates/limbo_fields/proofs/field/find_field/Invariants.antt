use Rattle.std.proofs.Common.{◌≡◌, ◌<◌, ℕ, Some}
use Rattle.std.specs.Prelude.{slice_get}
use Rattle.limbo_layout.specs.declared.def.Field as code_field
use Rattle.limbo_fields.proofs.field.find_field.Given as goal

abbrev pub invariant-loop-place : goal.invariant-loop-place
invariant-loop-place l = (p : ℕ) (f : code_field.Field) → p < l.place → slice_get l.fields p ≡ Some f → f.name ≡ l.name → ⊥
