use Rattle.std.proofs.Common.{◌≡◌, ℕ, ◌+◌, ◌<◌, ◌⊎◌, inl, inr, true, sym, subst, arith}
use Rattle.limbo_order.specs.Order.{StandsAt}
use Rattle.limbo_order.specs.View.{rows}
use Rattle.limbo_order.proofs.Places.{here, rows-length}
use Rattle.limbo_order.proofs.Orders.{not_itself}
use Rattle.limbo_order.proofs.Steps.{ordered}
use Rattle.limbo_order.proofs.ordering.order.Goals as goal
use Rattle.limbo_order.proofs.ordering.order.Goals.{then-not-index+in_ok-put, else-not-index}

pub loop-number-init : goal.loop-number-init
loop-number-init c = record {
  searches = c.in_ok-search.ensures (rows c.args.needs.now) (rows-length c.args.needs.now);
  below = λ n h. absurd (omega arith);
}

pub index-requires : goal.index-requires
index-requires c =
    let l = c.loop-number.invariant.searches.done_length in
    let r = rows-length c.args.needs.now in
    omega arith

pub put-requires-clause-undone : goal.put-requires-clause-undone
put-requires-clause-undone c =
    let l = c.loop-number.invariant.searches.done_length in
    let r = rows-length c.args.needs.now in
    rw c.if-not-index.true at (here c.loop-number.search.done.items c.loop-number.number c.index.result.now (omega arith) c.index.ensures)

at_or : (n m : ℕ) → n < m + 1 → (n < m) ⊎ (n ≡ m)
at_or n m h = grind arith

pub loop-number-preserved : goal.loop-number-preserved
loop-number-preserved c =
    let l = c.loop-number.invariant.searches.done_length in
    let r = rows-length c.args.needs.now in
    elim c.if-not-index.branch [
      | then-not-index+in_ok-put w ↦ rw w.search-is (record {
        searches = w.in_ok-put.ensures.searches;
        below = λ n h. elim (at_or n c.loop-number.number h) [
          | inl a ↦ w.in_ok-put.ensures.keeps n (c.loop-number.invariant.below n a)
          | inr e ↦ subst (λ (z : ℕ). StandsAt w.put.new.search.done.items z true) (sym e) w.in_ok-put.ensures.done
        ];
      })
      | else-not-index w ↦ rw w.search-is (record {
        searches = c.loop-number.invariant.searches;
        below = λ n h. elim (at_or n c.loop-number.number h) [
          | inl a ↦ c.loop-number.invariant.below n a
          | inr e ↦ subst (λ (z : ℕ). StandsAt c.loop-number.search.done.items z true) (sym e) (rw w.if-not-index.false at (here c.loop-number.search.done.items c.loop-number.number c.index.result.now (omega arith) c.index.ensures))
        ];
      })
    ]

pub returns-clause-order : goal.returns-clause-order
returns-clause-order c =
    let r = rows-length c.args.needs.now in
    ordered _ _ _ _ _ _ c.loop-number.invariant.searches (λ n h. c.loop-number.invariant.below n (omega arith))

pub returns-clause-no_cycle : goal.returns-clause-no_cycle
returns-clause-no_cycle c =
    let r = rows-length c.args.needs.now in
    not_itself _ _ (ordered _ _ _ _ _ _ c.loop-number.invariant.searches (λ n h. c.loop-number.invariant.below n (omega arith)))
