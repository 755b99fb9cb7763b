use Rattle.std.proofs.Common.{◌≡◌, ℕ, ◌-◌, ◌<◌, ◌≤◌, length, take, true, sym, ap, subst, ◌∙◌, arith}
use Rattle.limbo_order.specs.Order.{StandsAt, NeedsWithin}
use Rattle.limbo_order.specs.View.{rows}
use Rattle.limbo_order.proofs.Places.{set_keeps}
use Rattle.limbo_order.proofs.Stepping.{in_needs, in_cursors, in_done, row_in_done, row_in_entered, puts, circles, less, enters}
use Rattle.limbo_order.proofs.ordering.step.Goals as goal

pub bounds-needs-top : goal.bounds-needs-top
bounds-needs-top c = in_needs _ _ _ _ _ _ c.requires.searches c.len.result c.index-top.result.now c.requires.some (c.len.ensures ∙ c.args.path.now.ok.0) c.index-top.ensures

pub index-requires : goal.index-requires
index-requires c = rw c.args.search.now.cursors.ok.0 (in_cursors _ _ _ _ _ _ c.requires.searches c.len.result c.index-top.result.now c.requires.some (c.len.ensures ∙ c.args.path.now.ok.0) c.index-top.ensures)

pub first_undone-place-requires : goal.first_undone-place-requires
first_undone-place-requires c = record {
  there = λ k m h. rw c.deref-2.ensures.value (row_in_done _ _ _ _ _ _ c.requires.searches c.len.result c.index-top.result.now c.requires.some (c.len.ensures ∙ c.args.path.now.ok.0) c.index-top.ensures c.requires.there c.index-needs-top.result c.index-needs-top.is k m (rw c.deref.ensures.value at h));
}

pub index_mut-requires : goal.index_mut-requires
index_mut-requires c = rw c.args.search.now.cursors.ok.0 (in_cursors _ _ _ _ _ _ c.requires.searches c.len.result c.index-top.result.now c.requires.some (c.len.ensures ∙ c.args.path.now.ok.0) c.index-top.ensures)

pub index-requires-then-place-len : goal.index-requires-then-place-len
index-requires-then-place-len c =
    rw c.args.search.now.entered.ok.0 (row_in_entered _ _ _ _ _ _ c.requires.searches c.len.result c.index-top.result.now c.requires.some (c.len.ensures ∙ c.args.path.now.ok.0) c.index-top.ensures c.requires.there c.index-needs-top.result c.index-needs-top.is c.first_undone-place.result c.index-next.result.now
    (omega arith) c.index-next.ensures)

pub returns-then-index-clause-cycle : goal.returns-then-index-clause-cycle
returns-then-index-clause-cycle c = λ n y.
    let v = c.index-needs-top.result in
    let place = c.first_undone-place.result in
    let stops : (m : ℕ) → StandsAt v.items place m → StandsAt c.args.search.now.done.items m true → ⊥ = rw (c.deref.ensures.value, c.deref-2.ensures.value) at c.first_undone-place.ensures.stops in
    let i : place < length v.items = omega arith in
    let e : c.index-next.result.now ≡ n = cc in
    subst (λ (z : ℕ). NeedsWithin (rows c.args.needs.now) z z) e
    (circles _ _ _ _ _ _ c.requires.searches c.len.result c.index-top.result.now c.requires.some (c.len.ensures ∙ c.args.path.now.ok.0) c.index-top.ensures c.requires.there c.index-needs-top.result c.index-needs-top.is place c.index-next.result.now i c.index-next.ensures stops c.index-then-place-len.result.now c.index-then-place-len.ensures c.if-index.true)

pub index_mut-requires-then-place-len : goal.index_mut-requires-then-place-len
index_mut-requires-then-place-len c =
    rw c.args.search.now.entered.ok.0 (row_in_entered _ _ _ _ _ _ c.requires.searches c.len.result c.index-top.result.now c.requires.some (c.len.ensures ∙ c.args.path.now.ok.0) c.index-top.ensures c.requires.there c.index-needs-top.result c.index-needs-top.is c.first_undone-place.result c.index-next.result.now
    (omega arith) c.index-next.ensures)

pub index_mut-requires-else-place-len : goal.index_mut-requires-else-place-len
index_mut-requires-else-place-len c = rw c.args.search.now.done.ok.0 (in_done _ _ _ _ _ _ c.requires.searches c.len.result c.index-top.result.now c.requires.some (c.len.ensures ∙ c.args.path.now.ok.0) c.index-top.ensures)

pub returns-in_ok-push-clause-searches : goal.returns-in_ok-push-clause-searches
returns-in_ok-push-clause-searches c =
    let v = c.index-needs-top.result in
    let place = c.first_undone-place.result in
    let stops : (m : ℕ) → StandsAt v.items place m → StandsAt c.args.search.now.done.items m true → ⊥ = rw (c.deref.ensures.value, c.deref-2.ensures.value) at c.first_undone-place.ensures.stops in
    let passed : (k m : ℕ) → c.index.result.now ≤ k → k < place → StandsAt v.items k m → StandsAt c.args.search.now.done.items m true =
    rw (c.deref.ensures.value, c.deref-2.ensures.value) at c.first_undone-place.ensures.passed in
    let i : place < length v.items = omega arith in
    rw c.in_ok-push.ensures.items (enters _ _ _ _ _ _ c.requires.searches c.len.result c.index-top.result.now c.requires.some (c.len.ensures ∙ c.args.path.now.ok.0) c.index-top.ensures c.requires.there c.index-needs-top.result c.index-needs-top.is place c.index-next.result.now i c.index-next.ensures stops c.index-then-place-len.result.now c.index-then-place-len.ensures c.index.result.now c.index.ensures passed c.if-index.false)

pub returns-in_ok-push-clause-entered : goal.returns-in_ok-push-clause-entered
returns-in_ok-push-clause-entered c = set_keeps c.args.search.now.entered.items c.index-next.result.now

pub returns-in_ok-push-clause-less : goal.returns-in_ok-push-clause-less
returns-in_ok-push-clause-less c =
    let v = c.index-needs-top.result in
    let place = c.first_undone-place.result in
    let stops : (m : ℕ) → StandsAt v.items place m → StandsAt c.args.search.now.done.items m true → ⊥ = rw (c.deref.ensures.value, c.deref-2.ensures.value) at c.first_undone-place.ensures.stops in
    let i : place < length v.items = omega arith in
    rw c.in_ok-push.ensures.items (less _ _ _ _ _ _ c.requires.searches c.len.result c.index-top.result.now c.requires.some (c.len.ensures ∙ c.args.path.now.ok.0) c.index-top.ensures c.requires.there c.index-needs-top.result c.index-needs-top.is place c.index-next.result.now i c.index-next.ensures stops c.index-then-place-len.result.now c.index-then-place-len.ensures c.if-index.false)

pub returns-in_ok-push-2-clause-searches : goal.returns-in_ok-push-2-clause-searches
returns-in_ok-push-2-clause-searches c =
    let v = c.index-needs-top.result in
    let place = c.first_undone-place.result in
    let passed : (k m : ℕ) → c.index.result.now ≤ k → k < place → StandsAt v.items k m → StandsAt c.args.search.now.done.items m true =
    rw (c.deref.ensures.value, c.deref-2.ensures.value) at c.first_undone-place.ensures.passed in
    rw c.in_ok-push-2.ensures.items (puts _ _ _ _ _ _ c.requires.searches c.len.result c.index-top.result.now c.requires.some (c.len.ensures ∙ c.args.path.now.ok.0) c.index-top.ensures c.requires.there c.index-needs-top.result c.index-needs-top.is c.index.result.now place c.pop.new.self.items c.index.ensures passed (omega arith) (c.pop.ensures.rest ∙ ap (λ n. take (n - 1) c.args.path.now.items) (sym c.len.ensures)))

pub returns-in_ok-push-2-clause-keeps : goal.returns-in_ok-push-2-clause-keeps
returns-in_ok-push-2-clause-keeps c = set_keeps c.args.search.now.done.items c.index-top.result.now
