use Rattle.std.proofs.Common.{◌≡◌, ℕ, ◌+◌, ◌<◌, ◌⊎◌, inl, inr, length, true, false, sym, ap, subst, ◌∙◌, arith, rules}
use Rattle.std.proofs.lemmas.List.{length-map}
use Rattle.std.proofs.lemmas.Result.{err_from_is_err_and}
use Rattle.limbo_types.specs.Types.{Adt}
use Rattle.limbo_layout.specs.Layout.{Fits}
use Rattle.limbo_layout.specs.Paths.{IsAt, IsReady}
use Rattle.limbo_layout.specs.View.{view_def, view_defs}
use Rattle.limbo_layout.specs.declared.def.AdtsFault.TheVariants.{TooLarge}
use Rattle.limbo_layout.proofs.Climbing.{bool_at, laid_fits}
use Rattle.limbo_layout.proofs.order.lay_all.Goals as goal
use Rattle.limbo_layout.proofs.order.lay_all.Goals.{then-not-index+in_ok-lay, else-not-index}

pub loop-number-init : goal.loop-number-init
loop-number-init c = record {
  ready = c.in_ok-table.ensures (view_defs c.args.defs.now) (length-map c.args.defs.now view_def);
  below = λ n h. absurd (omega arith);
}

pub lay-requires-clause-first : goal.lay-requires-clause-first
lay-requires-clause-first c =
    let r = c.loop-number.invariant.ready.table.laid_length in
    let m : length (view_defs c.args.defs.now) ≡ length c.args.defs.now = length-map c.args.defs.now view_def in
    rw c.if-not-index.true at (bool_at c.loop-number.table.laid.items c.loop-number.number c.index.result.now (omega arith) c.index.ensures)

pub returns-in_err-lay-clause-there : goal.returns-in_err-lay-clause-there
returns-in_err-lay-clause-there c =
    let m : length (view_defs c.args.defs.now) ≡ length c.args.defs.now = length-map c.args.defs.now view_def in
    let k : (n : ℕ) → c.in_err-lay.field-0.0 ≡ TooLarge n → n < length c.args.defs.now =
    λ n e.
    let f : n ≡ c.loop-number.number = (c.in_err-lay.ensures.too_large n e).0 in
    omega arith in
    let p = err_from_is_err_and c.from_residual-in_err-lay.result c.from_residual-in_err-lay.ensures.1 in
    rw (p.1, p.2) k

pub returns-in_err-lay-clause-first : goal.returns-in_err-lay-clause-first
returns-in_err-lay-clause-first c =
    let k : (n m : ℕ) → c.in_err-lay.field-0.0 ≡ TooLarge n → m < n → Fits (view_defs c.args.defs.now) (Adt m) =
    λ n m e h.
    let f : n ≡ c.loop-number.number = (c.in_err-lay.ensures.too_large n e).0 in
    laid_fits (view_defs c.args.defs.now) c.loop-number.table.rooms.items c.loop-number.table.laid.items c.loop-number.invariant.ready.table m (c.loop-number.invariant.below m (omega arith)) in
    let p = err_from_is_err_and c.from_residual-in_err-lay.result c.from_residual-in_err-lay.ensures.1 in
    rw (p.1, p.2) k

at_or : (n m : ℕ) → n < m + 1 → (n < m) ⊎ (n ≡ m)
at_or n m h = grind arith

pub loop-number-preserved : goal.loop-number-preserved
loop-number-preserved c =
    let r = c.loop-number.invariant.ready.table.laid_length in
    let m : length (view_defs c.args.defs.now) ≡ length c.args.defs.now = length-map c.args.defs.now view_def in
    elim c.if-not-index.branch [
      | then-not-index+in_ok-lay w ↦ rw w.table-is (record {
        ready = w.in_ok-lay.ensures.ready;
        below = λ n h. elim (at_or n c.loop-number.number h) [
          | inl a ↦ w.in_ok-lay.ensures.keeps n (c.loop-number.invariant.below n a)
          | inr e ↦ subst (λ (z : ℕ). IsAt w.lay.new.table.laid.items z true) (sym e) w.in_ok-lay.ensures.first
        ];
      })
      | else-not-index w ↦ rw w.table-is (record {
        ready = c.loop-number.invariant.ready;
        below = λ n h. elim (at_or n c.loop-number.number h) [
          | inl a ↦ c.loop-number.invariant.below n a
          | inr e ↦ subst (λ (z : ℕ). IsAt c.loop-number.table.laid.items z true) (sym e) (rw w.if-not-index.false at (bool_at c.loop-number.table.laid.items c.loop-number.number c.index.result.now (omega arith) c.index.ensures))
        ];
      })
    ]
