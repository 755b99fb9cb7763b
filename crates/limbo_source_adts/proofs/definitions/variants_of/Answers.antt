use Rattle.std.proofs.Common.{ℕ, List, map, take, sym, subst}
use Rattle.std.proofs.lemmas.List.{take_more, take_all}
use Rattle.std.proofs.lemmas.Option.{slice_get-get_or}
use Rattle.limbo_entries.specs.View.{entries_of}
use Rattle.limbo_layout.specs.View.{view_variant}
use Rattle.limbo_source_adts.specs.Definitions.{VariantsAre, no_variants}
use Rattle.limbo_source_adts.proofs.definitions.variants_of.Goals as goal

pub loop-number-init : goal.loop-number-init
loop-number-init c = λ m headed. rw c.new-variants.ensures.items no_variants

pub push_variant-requires-clause-there : goal.push_variant-requires-clause-there
push_variant-requires-clause-there c =
    c.requires.there c.loop-number.number-index _ (slice_get-get_or c.args.numbers.now c.loop-number.number-index 0 c.loop-number-test.true)

pub loop-number-preserved : goal.loop-number-preserved
loop-number-preserved c = λ m headed.
    subst (λ (z : List ℕ). VariantsAre (entries_of c.args.table.now.entries.items) m z (map view_variant c.push_variant.new.variants.items)) (sym (take_more c.args.numbers.now c.loop-number.number-index 0 c.loop-number-test.true))
    (c.in_ok-push_variant.ensures m (take c.loop-number.number-index c.args.numbers.now) headed (c.loop-number.invariant m headed))

pub returns : goal.returns
returns c = λ m headed.
    subst (λ (z : List ℕ). VariantsAre (entries_of c.args.table.now.entries.items) m z (map view_variant c.loop-number.variants.items)) (take_all c.loop-number.number-index c.args.numbers.now c.loop-number-test.false)
    (c.loop-number.invariant m headed)
