use Rattle.std.proofs.Common.{◌≡◌, Some, None, arith, rules}
use Rattle.std.specs.Ordering.{nat_cmp}
use Rattle.std.specs.Cmp.Lexicographic.{slice_cmp}
use Rattle.std.specs.BTreeMap.{get_by}
use Rattle.limbo_declarations.specs.View.{texts_of}
use Rattle.limbo_declarations.proofs.Apart.{text_at, text_within, apart_more}
use Rattle.limbo_declarations.proofs.scopes.met.Goals as goal

pub returns-in-Some-clause-some : goal.returns-in-Some-clause-some
returns-in-Some-clause-some c =
    λ ns h a.
    let g : get_by (slice_cmp nat_cmp c.field-item.result.now.text) c.args.members.now ≡ Some c.in-Some._member = search rules in
    a c.in-Some._member c.loop-field.field-index c.field-item.result.now.text ((h c.field-item.result.now.text c.in-Some._member).0 g)
    (text_at c.loop-field.field-index c.args.fields.now c.field-item.result (omega arith) c.field-item.is)

pub loop-field-preserved : goal.loop-field-preserved
loop-field-preserved c =
    λ ns h.
    let g : get_by (slice_cmp nat_cmp c.field-item.result.now.text) c.args.members.now ≡ None = search rules in
    apart_more c.args.members.now ns (texts_of c.args.fields.now) c.loop-field.field-index c.field-item.result.now.text h
    (text_at c.loop-field.field-index c.args.fields.now c.field-item.result (omega arith) c.field-item.is) g (c.loop-field.invariant ns h)

pub returns-clause-none : goal.returns-clause-none
returns-clause-none c =
    λ ns h i j name f g.
    let l = text_within c.args.fields.now j name g in
    c.loop-field.invariant ns h i j name (omega arith) f g
