use Rattle.std.proofs.Common.{rules, refl, sym, ap, subst, ◌≡◌, ◌+◌, ◌∙◌, ℕ, List}
use Rattle.limbo_scope.specs.Scopes.{Scope, declared}
use Rattle.limbo_tree.specs.View.{names_of}
use Rattle.limbo_locals.specs.Named.{means}
use Rattle.limbo_locals.proofs.Freed.{Placed, placed_more, placed_end, not_free, name_at, all_named, as_twice}
use Rattle.limbo_locals.proofs.names.declare_names.Goals as goal

pub returns-in-Err-Twice-clause-twice : goal.returns-in-Err-Twice-clause-twice
returns-in-Err-Twice-clause-twice c = (
  refl,
  not_free (means c.args.lead) c.args.first (names_of c.args.names.now) c.args.scopes.now c.loop-at.scopes c.loop-at.at
      c.index-names-at.result.text c.depth-depth.ensures.never_none
      (name_at c.args.names.now c.loop-at.at c.index-names-at.result c.index-names-at.is c.loop-at-test.true)
      (c.declare.ensures.twice.0 (as_twice c.declare.result c.in-Err-Twice.field-0 c.in-Err-Twice.is c.in-Err-Twice.field-0-is))
      c.loop-at.invariant,
)

pub loop-at-preserved : goal.loop-at-preserved
loop-at-preserved c =
    let number : c.in-Ok.number ≡ c.args.first + c.loop-at.at = search rules in
    subst
    (λ (ss : List Scope). Placed (means c.args.lead) c.args.first c.args.scopes.now ss (names_of c.args.names.now) (c.loop-at.at + 1))
    (ap (λ (n : ℕ). declared c.index-names-at.result.text (means c.args.lead n) c.loop-at.scopes) (sym number)
    ∙ ap (λ m. declared c.index-names-at.result.text m c.loop-at.scopes) (sym c.meaning.ensures)
    ∙ sym c.in-Ok-declare.ensures.declared)
    (placed_more (means c.args.lead) c.args.first (names_of c.args.names.now) c.args.scopes.now c.loop-at.scopes c.loop-at.at
    c.index-names-at.result.text c.depth-depth.ensures.never_none
    (name_at c.args.names.now c.loop-at.at c.index-names-at.result c.index-names-at.is c.loop-at-test.true)
    c.in-Ok-declare.ensures.once c.loop-at.invariant)

pub returns-clause-free : goal.returns-clause-free
returns-clause-free c =
    placed_end (means c.args.lead) c.args.first (names_of c.args.names.now) c.args.scopes.now c.loop-at.scopes c.loop-at.at
    (all_named c.args.names.now c.loop-at.at c.loop-at-test.false) c.loop-at.invariant
