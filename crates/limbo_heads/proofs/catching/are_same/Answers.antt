use Rattle.std.proofs.Common.{refl, subst, ℕ, ◌<◌}
use Rattle.std.proofs.lemmas.Bool.{false≢true}
use Rattle.limbo_stmt_values.proofs.Told.{untrue}
use Rattle.limbo_heads.proofs.Carrying.{types_differ, same_more, all_same}
use Rattle.limbo_heads.proofs.catching.are_same.Goals as goal

pub returns-then-not-equal : goal.returns-then-not-equal
returns-then-not-equal c =
    let l = c.loop-i-test.true in
    let n = c.if-ts-us.false in (
      λ t. absurd (false≢true t),
      λ e.
          absurd (types_differ c.args.ts.now c.args.us.now c.loop-i.i c.index-ts-i.result c.index-us-i.result c.index-ts-i.is
          c.index-us-i.is l (subst (λ (k : ℕ). c.loop-i.i < k) n l) (untrue c.equal.result _ c.if-not-equal.true c.equal.ensures) e),
    )

pub loop-i-preserved : goal.loop-i-preserved
loop-i-preserved c =
    let l = c.loop-i-test.true in
    let n = c.if-ts-us.false in
    same_more c.args.ts.now c.args.us.now c.loop-i.i c.index-ts-i.result c.index-us-i.result c.index-ts-i.is c.index-us-i.is l
    (subst (λ (k : ℕ). c.loop-i.i < k) n l) (c.equal.ensures.0 c.if-not-equal.false) c.loop-i.invariant

pub returns : goal.returns
returns c = (
  λ t. all_same c.args.ts.now c.args.us.now c.loop-i.i c.if-ts-us.false c.loop-i-test.false c.loop-i.invariant,
  λ e. refl,
)
