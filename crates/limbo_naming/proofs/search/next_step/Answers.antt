use Rattle.std.proofs.Common.{refl, subst}
use Rattle.limbo_naming.specs.declared.state.Found.{Found}
use Rattle.limbo_naming.specs.declared.state.Found.TheVariants.{Needs}
use Rattle.limbo_naming.specs.Search.{Tries}
use Rattle.limbo_naming.proofs.Searching.{circles}
use Rattle.limbo_naming.proofs.Stepping.{state_or, fresh}
use Rattle.limbo_naming.proofs.search.next_step.Goals as goal

pub returns-then-is_entered : goal.returns-then-is_entered
returns-then-is_entered c = λ es m path front top s f t.
    let n : Tries es m c.args.states.now top (Needs c.in-Needs.next) = subst (λ (z : Found). Tries es m c.args.states.now top z) c.in-Needs.is t in
    circles es m c.args.states.now path s front top f c.in-Needs.next n.2
    (state_or c.args.states.now c.in-Needs.next _ _ (c.requires.there c.in-Needs.next c.in-Needs.is) (c.is_entered.ensures.yes c.if-is_entered.true))

pub returns-else-is_entered : goal.returns-else-is_entered
returns-else-is_entered c = λ es m path front top s f t.
    let n : Tries es m c.args.states.now top (Needs c.in-Needs.next) = subst (λ (z : Found). Tries es m c.args.states.now top z) c.in-Needs.is t in (
      n.2,
      fresh c.args.states.now c.in-Needs.next _ (state_or c.args.states.now c.in-Needs.next _ _ (c.requires.there c.in-Needs.next c.in-Needs.is) refl)
          (c.is_entered.ensures.no c.if-is_entered.false) n.1,
    )
