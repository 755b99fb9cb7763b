use Rattle.std.proofs.Common.{◌≡◌, ℕ, true, false, List, get_or, take, sym, subst, arith}
use Rattle.std.proofs.lemmas.List.{take_more}
use Rattle.limbo_layout.specs.Laying.{AllBelow}
use Rattle.limbo_layout.proofs.Sound.{below_at, below_push}
use Rattle.value_rooms.specs.Cut.{most}
use Rattle.value_rooms.proofs.names.are_told.Goals as goal

pub returns-then-name-gt-LIMIT : goal.returns-then-name-gt-LIMIT
returns-then-name-gt-LIMIT c = (
  λ t. absurd (let e : false ≡ true = t in cc),
  λ h. absurd (let b = below_at most c.args.names.now c.loop-name.name-index 0 h (omega arith) in omega arith),
)

pub loop-name-preserved : goal.loop-name-preserved
loop-name-preserved c =
    let ns = c.args.names.now in
    let i = c.loop-name.name-index in
    subst (λ (ks : List ℕ). AllBelow most ks) (sym (take_more ns i 0 (omega arith)))
    (below_push most (get_or ns i 0) (take i ns) (omega arith) c.loop-name.invariant)
