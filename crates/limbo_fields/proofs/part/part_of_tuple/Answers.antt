use Rattle.std.proofs.Common.{◌≡◌, ℕ, List, Some, map, sym, subst}
use Rattle.std.specs.Prelude.{slice_get}
use Rattle.limbo_types.specs.Types.{Ty}
use Rattle.limbo_types.specs.View.{view_ty}
use Rattle.limbo_fields.specs.Fields.{IsPlaceName}
use Rattle.limbo_fields.proofs.Named.{type_at, none_past}
use Rattle.limbo_fields.proofs.part.part_of_tuple.Goals as goal

pub returns-in_err-place-clause-absent : goal.returns-in_err-place-clause-absent
returns-in_err-place-clause-absent c =
    let k : (n : ℕ) (t : Ty) → IsPlaceName c.args.name.now n → slice_get (map view_ty c.args.parts.now) n ≡ Some t → ⊥ =
    λ n t p h. none_past c.args.parts.now n t ((c.in_err-place.ensures {u = tt}).none n (subst (λ (z : List ℕ). IsPlaceName z n) (sym c.as_slice.ensures) p)) h in
    rw c.from_residual.ensures k

pub returns-clause-found : goal.returns-clause-found
returns-clause-found c =
    let s = (c.in_ok-place.ensures {u = tt}).some in
    (subst (λ (z : List ℕ). IsPlaceName z c.in_ok-place.place) c.as_slice.ensures s.0, type_at c.args.parts.now c.in_ok-place.place c.index-parts-place.result s.1 c.index-parts-place.is)
