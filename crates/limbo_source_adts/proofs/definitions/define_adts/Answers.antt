use Rattle.std.proofs.Common.{◌≡◌, ◌≤◌, List, length, subst, ◌∙◌, arith}
use Rattle.std.proofs.lemmas.List.{take_all}
use Rattle.limbo_entries.specs.Entries.{Entry}
use Rattle.limbo_entries.specs.View.{entries_of}
use Rattle.limbo_layout.specs.View.{view_defs}
use Rattle.limbo_naming.proofs.Places.{as_many}
use Rattle.limbo_source_adts.specs.Definitions.{AdtsAre, no_adts}
use Rattle.limbo_source_adts.proofs.definitions.define_adts.Goals as goal

pub loop-number-init : goal.loop-number-init
loop-number-init c = λ m headed. rw c.new-adts.ensures.items (no_adts 0)

pub returns : goal.returns
returns c = λ m headed.
    let all = c.args.table.now.entries.items in
    let es = entries_of all in
    let s = as_many all in
    let e : c.len-number-end.result ≡ length all = c.len-number-end.ensures ∙ c.args.table.now.entries.ok.0 in
    let l : length es ≤ c.loop-number.number = omega arith in
    subst (λ (z : List Entry). AdtsAre es m 0 z (view_defs c.loop-number.adts.items)) (take_all c.loop-number.number es l) (c.loop-number.invariant m headed)
