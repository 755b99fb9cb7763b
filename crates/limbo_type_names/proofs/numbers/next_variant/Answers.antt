use Rattle.std.proofs.Common.{refl, ◌∙◌}
use Rattle.limbo_naming.proofs.Places.{state_at}
use Rattle.limbo_type_names.proofs.Counting.{top_on, variant_on}
use Rattle.limbo_type_names.proofs.numbers.next_variant.Goals as goal

pub returns-in-None-clause-counts : goal.returns-in-None-clause-counts
returns-in-None-clause-counts c = λ e h w. top_on e c.args.counts.now h (w ∙ c.in-None.is)

pub returns-in-Some-clause-counts : goal.returns-in-Some-clause-counts
returns-in-Some-clause-counts c = λ e h w.
    variant_on e c.args.counts.now _ c.in-Some.outer c.index-number.result.now h (w ∙ c.in-Some.is)
    (state_at c.args.counts.now.variants.items c.in-Some.outer c.index-number.result.now (c.requires.there c.in-Some.outer c.in-Some.is) c.index-number.ensures) refl refl refl
