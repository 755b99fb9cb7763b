use Rattle.std.proofs.Common.{ℕ, List, take, sym, subst}
use Rattle.std.proofs.lemmas.List.{take_more, take_all}
use Rattle.std.proofs.lemmas.Option.{slice_get-get_or}
use Rattle.limbo_entries.specs.View.{entries_of}
use Rattle.limbo_layout.specs.View.{view_fields}
use Rattle.limbo_source_adts.specs.Definitions.{FieldsAre, no_fields}
use Rattle.limbo_source_adts.proofs.definitions.fields_of.Goals as goal

pub loop-number-init : goal.loop-number-init
loop-number-init c = λ m headed. rw c.new-fields.ensures.items no_fields

pub push_field-requires-clause-there : goal.push_field-requires-clause-there
push_field-requires-clause-there c =
    c.requires.there c.loop-number.number-index _ (slice_get-get_or c.args.numbers.now c.loop-number.number-index 0 c.loop-number-test.true)

pub loop-number-preserved : goal.loop-number-preserved
loop-number-preserved c = λ m headed.
    subst (λ (z : List ℕ). FieldsAre (entries_of c.args.table.now.entries.items) m z (view_fields c.push_field.new.fields.items)) (sym (take_more c.args.numbers.now c.loop-number.number-index 0 c.loop-number-test.true))
    (c.in_ok-push_field.ensures m (take c.loop-number.number-index c.args.numbers.now) headed (c.loop-number.invariant m headed))

pub returns : goal.returns
returns c = λ m headed.
    subst (λ (z : List ℕ). FieldsAre (entries_of c.args.table.now.entries.items) m z (view_fields c.loop-number.fields.items)) (take_all c.loop-number.number-index c.args.numbers.now c.loop-number-test.false)
    (c.loop-number.invariant m headed)
