use Rattle.std.proofs.Common.{◌++◌, ap, ◌∙◌, subst, map, arith}
use Rattle.dis_meaning.specs.Step.{names}
use Rattle.dis_places.specs.declared.memory.Tables.{Tables}
use Rattle.dis_code.specs.declared.code.Code.{Code}
use Rattle.dis_loading.specs.Growing.{lists_of, HasAsked}
use Rattle.dis_loading.proofs.Entering.{Enters, enters}
use Rattle.dis_loading.proofs.loading.enter.Goals as goal
use Rattle.dis_loading.proofs.loading.enter.Goals.{In_ok-number-2}

abbrev entered_tables : In_ok-number-2 → Tables
entered_tables c = record { types = c.enter_plains.new.types; names = c.enter-2.new.lists }

abbrev entered_code : In_ok-number-2 → Code
entered_code c = record { object = c.args.object; types = c.in_ok-from.from; names = c.in_ok-named.named }

whole : (c : In_ok-number-2) → Enters c.args.tables.now (entered_tables c) (entered_code c)
whole c =
    let old = c.args.tables.now in
    let types = c.enter_plains.new.types.items in
    enters old (entered_tables c) c.enter.new.types.items (entered_code c) c.requires
    (c.in_ok-enter.ensures ∙ ap (λ more. old.types.items ++ more) c.as_slice.ensures)
    c.in_ok-enter_plains.ensures.extends
    (subst (HasAsked types) c.as_slice-2.ensures c.in_ok-enter_plains.ensures.there)
    (c.in_ok-enter-2.ensures ∙ ap (λ more. lists_of old.names ++ map names more) c.as_slice-3.ensures)
    (c.in_ok-from.ensures.number ∙ c.len.ensures ∙ old.types.ok.0) (c.in_ok-named.ensures.number ∙ c.len-2.ensures ∙ old.names.ok.0)
    (let long = c.len-3.ensures ∙ c.enter_plains.new.types.ok.0 in let few = c.in_ok-number.ensures.few in omega (arith, long, few))
    (let long = c.len-4.ensures ∙ c.enter-2.new.lists.ok.0 in let few = c.in_ok-number-2.ensures.few in omega (arith, long, few))

pub returns-clause-begun : goal.returns-clause-begun
returns-clause-begun c = (whole c).begun

pub returns-clause-grows : goal.returns-clause-grows
returns-clause-grows c = (whole c).grows

pub returns-clause-entered : goal.returns-clause-entered
returns-clause-entered c = (whole c).entered
