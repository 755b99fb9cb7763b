use Rattle.std.proofs.Common.{arith, ◌∙◌, ap, sym, map}
use Rattle.std.proofs.lemmas.List.{drop_all}
use Rattle.limbo_typed.specs.View.{view_pattern, patterns_of}
use Rattle.limbo_meaning.specs.Program.{terms_before, operands_among}
use Rattle.core_writing.specs.Operands.{terms_in}
use Rattle.core_writing.proofs.Collected.{before_none, patterns_on, pattern_sizes_on}
use Rattle.core_writing.proofs.operands.+patterns.Goals as goal

pub add_patterns-loop-pattern-preserved : goal.add_patterns-loop-pattern-preserved
add_patterns-loop-pattern-preserved t c =
    let ps = c.args.patterns.now in
    let os = c.loop-pattern.operands.items in
    let next = c.add_pattern.new.operands.items in
    let told = c.in_ok-add_pattern.ensures {u = tt} in
    let i = c.loop-pattern.pattern-index in
    record {
      terms = patterns_on os next ps i c.pattern-item.result c.loop-pattern-test.true c.pattern-item.is told.terms
          ∙ c.loop-pattern.invariant.terms;
      size = λ defs.
          let more = pattern_sizes_on defs os next ps i c.pattern-item.result c.loop-pattern-test.true c.pattern-item.is (told.size defs) in
          let all = c.loop-pattern.invariant.size defs in
          omega (arith, more, all);
    }

pub add_patterns-returns-clause-terms : goal.add_patterns-returns-clause-terms
add_patterns-returns-clause-terms t c =
    let none = drop_all c.loop-pattern.pattern-index c.args.patterns.now c.loop-pattern-test.false in
    let os = terms_in c.loop-pattern.operands.items in
    sym (ap (λ ps. terms_before os (operands_among (patterns_of (map view_pattern ps)))) none ∙ before_none os)
    ∙ c.loop-pattern.invariant.terms
