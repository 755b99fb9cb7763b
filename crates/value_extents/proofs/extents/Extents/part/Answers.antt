use Rattle.std.proofs.Common.{◌≡◌, ℕ, suc, ◌+◌, arith, take, ap, refl, List}
use Rattle.limbo_types.specs.Types as ty
use Rattle.limbo_types.specs.Types.{Ty}
use Rattle.limbo_types.specs.View.{view_ty}
use Rattle.limbo_layout.specs.Adts.{Def}
use Rattle.limbo_layout.specs.View.{view_defs}
use Rattle.core_code.specs.Terms.{count_all, part_types}
use Rattle.value_extents.proofs.Rounds.{count-next}
use Rattle.value_extents.proofs.extents.Extents.part.Goals as goal

one_more : (defs : List Def) (n : ℕ) (ts : List Ty) → count_all defs (take (n + 1) ts) ≡ count_all defs (take (suc n) ts)
one_more defs n ts = let e : n + 1 ≡ suc n = omega arith in ap (λ k. count_all defs (take k ts)) e

pub overflow_sub-result : goal.overflow_sub-result
overflow_sub-result c =
    let defs = view_defs c.args.self.now in
    let ts = part_types defs (view_ty c.args.t.now) in
    let a = one_more defs c.args.part ts in
    let b = count-next defs ts c.args.part ty.Int refl in
    omega arith

pub returns : goal.returns
returns c =
    let defs = view_defs c.args.self.now in
    let ts = part_types defs (view_ty c.args.t.now) in
    let a = one_more defs c.args.part ts in
    let b = count-next defs ts c.args.part ty.Int refl in
    let d = count-next defs ts c.args.part ty.Nothing refl in
    record { before = omega arith; or_int = omega arith; or_nothing = omega arith; within = omega arith }
