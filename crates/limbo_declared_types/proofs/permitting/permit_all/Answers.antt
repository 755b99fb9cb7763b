use Rattle.std.proofs.Common.{◌<◌, ◌≤◌, ℕ, inl, inr, length, sym, subst, arith}
use Rattle.std.proofs.lemmas.Option.{slice_get_within}
use Rattle.limbo_entries.specs.Entries.{IsEntry}
use Rattle.limbo_entries.specs.View.{entries_of}
use Rattle.limbo_naming.proofs.Places.{as_many}
use Rattle.limbo_context.specs.View.{view_context}
use Rattle.limbo_declared_types.specs.Permitted.{IsPermittedAt}
use Rattle.limbo_declared_types.proofs.Lists.{below_or_last}
use Rattle.limbo_declared_types.proofs.permitting.permit_all.Goals as goal

pub loop-number-preserved : goal.loop-number-preserved
loop-number-preserved c = λ k e l i.
    let es = entries_of c.args.table.now.entries.items in
    elim (below_or_last k c.loop-number.number l) [
      | inl b ↦ c.loop-number.invariant k e b i
      | inr q ↦ subst (λ (z : ℕ). IsPermittedAt es c.args.implemented (view_context c.args.context.now) z e) (sym q)
          (c.in-Ok.ensures.permitted e (subst (λ (z : ℕ). IsEntry es z e) q i))
    ]

pub returns-clause-permitted : goal.returns-clause-permitted
returns-clause-permitted c = λ k e i.
    let all = c.args.table.now.entries.items in
    let a = as_many all in
    let l : length (entries_of all) ≤ c.loop-number.number = omega arith in
    let b : k < length (entries_of all) = slice_get_within (entries_of all) k e i in
    c.loop-number.invariant k e (omega arith) i
