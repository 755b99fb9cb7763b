use Rattle.std.proofs.Common.{ℕ, subst, sym, arith}
use Rattle.std.proofs.lemmas.List.{length-append}
use Rattle.limbo_type_names.specs.Working.{AreNeedsOf}
use Rattle.limbo_type_names.proofs.Needing.{each_pushed}
use Rattle.limbo_type_names.proofs.needs.all_needs.Goals as goal

pub loop-number-preserved : goal.loop-number-preserved
loop-number-preserved c = record {
  many = rw c.in_ok-push.ensures.items (simp length-append (let e = c.loop-number.invariant.many in omega arith));
  each = rw c.in_ok-push.ensures.items
      (each_pushed c.args.naming.now c.loop-number.all.items c.in_ok-row.row c.loop-number.invariant.each
      (subst (λ (z : ℕ). AreNeedsOf c.args.naming.now z c.in_ok-row.row.items) (sym c.loop-number.invariant.many) c.in_ok-row.ensures));
}
