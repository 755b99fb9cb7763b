use Rattle.std.proofs.Common.{◌<◌, length, sym, subst, arith}
use Rattle.limbo_entries.specs.View.{entries_of}
use Rattle.limbo_headers.specs.declared.header.Heading.{Heading}
use Rattle.limbo_headers.specs.Headers.{Heads}
use Rattle.limbo_outline.proofs.Places.{entry_there, item_at}
use Rattle.limbo_types.specs.Types.{Ty}
use Rattle.limbo_outline.specs.Outline.{HasType, written, inferred}
use Rattle.limbo_outline.proofs.Telling.{by_value, no_type_at}
use Rattle.limbo_outline.proofs.globals.variable_type.Goals as goal

pub returns-in_ok-new-in-Variable-clause-typed : goal.returns-in_ok-new-in-Variable-clause-typed
returns-in_ok-new-in-Variable-clause-typed c = λ e i.
    let es = entries_of c.args.table.now.entries.items in
    let k = c.args.number in
    let h = c.index-headings-number.result in
    let a = c.requires.there in
    let b = c.requires.many in
    let l : k < length c.args.headings.now = omega arith in
    let w = c.requires.headed k e h i (item_at c.args.headings.now k h l c.index-headings-number.is) in
    let v = subst (λ (z : Heading). Heads es c.args.implemented e z) c.in-Variable.is w in
    rw c.in_ok-new-in-Variable.ensures.ok
    (subst (λ (z : Ty). HasType es c.args.implemented e z) (sym (rw c.deref.ensures at c.in_ok-ty-in-Variable.ensures)) (written v.0 v.1 _ v.2 v.3))

pub returns-in_ok-new-in-Some-clause-typed : goal.returns-in_ok-new-in-Some-clause-typed
returns-in_ok-new-in-Some-clause-typed c = λ e i.
    let es = entries_of c.args.table.now.entries.items in
    let k = c.args.number in
    let h = c.index-headings-number.result in
    let a = c.requires.there in
    let b = c.requires.many in
    let l : k < length c.args.headings.now = omega arith in
    let w = c.requires.headed k e h i (item_at c.args.headings.now k h l c.index-headings-number.is) in
    let v = by_value es c.args.implemented e h (c.requires.global e i) w c.in_default.not-Variable in
    rw c.in_ok-new-in-Some.ensures.ok
    (subst (λ (z : Ty). HasType es c.args.implemented e z) (sym c.type_of-ty.ensures)
    (inferred v.0 c.in-Some.constant.now v.1 (c.requires.initial k e v.0 c.in-Some.constant.now i v.1 (sym c.in-Some.ensures))))

pub returns-in-None-clause-no_type : goal.returns-in-None-clause-no_type
returns-in-None-clause-no_type c = λ n p.
    let all = c.args.table.now.entries.items in
    let es = entries_of all in
    let k = c.args.number in
    let x = entry_there all k c.requires.there in
    let h = c.index-headings-number.result in
    let a = c.requires.there in
    let b = c.requires.many in
    let l : k < length c.args.headings.now = omega arith in
    let w = c.requires.headed k x.0 h x.1 (item_at c.args.headings.now k h l c.index-headings-number.is) in
    let v = by_value es c.args.implemented x.0 h (c.requires.global x.0 x.1) w c.in_default.not-Variable in
    no_type_at es c.args.implemented c.args.initials.now k n x.0 v.0 p x.1 v.1 (sym c.in-None.ensures)
