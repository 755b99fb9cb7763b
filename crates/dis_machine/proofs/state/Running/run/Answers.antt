use Rattle.std.proofs.Common.{arith, inl, inr, sym, subst, ◌∙◌}
use Rattle.dis_steps.specs.Codes.{objects_of}
use Rattle.dis_steps.specs.Stepping.{AreLoaded}
use Rattle.dis_machine.specs.Running.{HadTurns}
use Rattle.dis_machine.proofs.Stopping.{went_on, lacked, full, stopped}
use Rattle.dis_machine.proofs.state.Running.run.Goals as goal

pub loop-count-preserved : goal.loop-count-preserved
loop-count-preserved c =
    (c.in-Went.ensures.stands, omega (arith, c.loop-count-test.true), c.turn-last.ensures.tables ∙ c.loop-count.invariant.2, went_on (objects_of c.args.codes.now) c.args.self.now c.loop-count.self c.turn-last.new.self c.loop-count.count c.loop-count.invariant.3 c.in-Went.ensures.turn)

pub returns-in-NoMemory-clause-turns : goal.returns-in-NoMemory-clause-turns
returns-in-NoMemory-clause-turns c =
    subst (λ t. HadTurns (objects_of c.args.codes.now) c.args.self.now c.turn-last.new.self c.loop-count.count t) (sym c.in-NoMemory.is)
    (lacked (objects_of c.args.codes.now) c.args.self.now c.loop-count.self c.turn-last.new.self c.loop-count.count c.loop-count.invariant.3 c.in-NoMemory.ensures.turn)

pub returns-in-Asked-clause-turns : goal.returns-in-Asked-clause-turns
returns-in-Asked-clause-turns c =
    stopped (objects_of c.args.codes.now) c.args.self.now c.loop-count.self c.turn-last.new.self c.loop-count.count c.turn-last.result
    (λ e. elim c.in-Asked.is as (λ s. ⊥) [
      | inl m ↦ let h = m.1 in absurd cc
      | inr s ↦ elim s as (λ s. ⊥) [ inl h ↦ absurd cc | inr s ↦ elim s as (λ s. ⊥) [ inl t ↦ let h = t.1 in absurd cc | inr f ↦ let h = f.2 in absurd cc ] ]
    ])
    c.loop-count.invariant.3 c.turn-last.ensures.turn

pub returns-clause-turns : goal.returns-clause-turns
returns-clause-turns c = full (objects_of c.args.codes.now) c.args.self.now c.args.self.now c.loop-count.self c.loop-count.count c.loop-count.invariant.3

pub turn-last-requires-clause-loaded : goal.turn-last-requires-clause-loaded
turn-last-requires-clause-loaded c = subst (λ t. AreLoaded t c.args.codes.now) (sym c.loop-count.invariant.2) c.requires.loaded
