use Rattle.std.proofs.Common.{◌≡◌, ◌≤◌, length, refl, sym, ◌∙◌, arith}
use Rattle.limbo_entries.specs.View.{entries_of}
use Rattle.limbo_meanings.specs.Kinds.{place, has_kind}
use Rattle.limbo_meanings.specs.Listed.{none_left}
use Rattle.limbo_meanings.proofs.Lists.{table_all}
use Rattle.limbo_meanings.proofs.Places.{as_many}
use Rattle.limbo_outline.specs.Outline.{IsScopeOf}
use Rattle.limbo_outline.proofs.members.list_scopes.Goals as goal

pub loop-number-init : goal.loop-number-init
loop-number-init c = record {
  many = c.requires.many;
  kept = λ a l. refl;
  listed = λ means inner. rw c.new-scopes.ensures.items (none_left 0);
}

pub loop-number-preserved : goal.loop-number-preserved
loop-number-preserved c =
    let k = c.loop-number.number in
    let i = c.loop-number.invariant in
    record {
      many = c.in_ok-push_scope.ensures.many ∙ i.many;
      kept = λ a l. let n : a ≡ k → ⊥ = (λ e. absurd (omega arith)) in let le : k ≤ a = omega arith in c.in_ok-push_scope.ensures.kept a n ∙ i.kept a le;
      listed = λ means inner. let le : k ≤ k = omega arith in
          c.in_ok-push_scope.ensures.scopes means (λ row h. inner.each k row (sym (i.kept k le) ∙ h)) (i.listed means inner);
    }

pub returns : goal.returns
returns c = λ means inner.
    let all = c.args.table.now.entries.items in
    let es = entries_of all in
    let s = as_many all in
    let e : c.len-number-end.result ≡ length all = c.len-number-end.ensures ∙ c.args.table.now.entries.ok.0 in
    let l : length es ≤ c.loop-number.number = omega arith in
    table_all (has_kind es c.args.implemented (place c.args.kind)) (IsScopeOf means es) es c.loop-number.number c.loop-number.scopes.items l
    (c.loop-number.invariant.listed means inner)
