use Rattle.std.proofs.Common.{sym, ap, ◌∙◌, subst, arith}
use Rattle.std.specs.Prelude.{IfOk}
use Rattle.ref_heap.specs.declared.word.Ref.{Ref}
use Rattle.ref_heap.specs.declared.kind.Kind.TheVariants.{Array}
use Rattle.ref_heap.specs.Words.{Content, cells, naming}
use Rattle.ref_heap.specs.Store.{AreHeld, fresh}
use Rattle.dis_values.specs.Making.{Makes}
use Rattle.dis_values.specs.Arrays.{zeroed}
use Rattle.dis_values.proofs.Made.{makes, bare_held}
use Rattle.dis_values.proofs.Parts.{zeroed_bare}
use Rattle.dis_values.proofs.Sliced.{if_map, made_array}
use Rattle.dis_values.proofs.Packed.{made_plain}
use Rattle.dis_values.proofs.Marked.{made_marked}
use Rattle.dis_values.proofs.arrays.new_array.Goals as goal

pub add-requires-clause-held : goal.add-requires-clause-held
add-requires-clause-held c =
    subst (λ (w : Content). AreHeld c.args.heap.now (naming (cells w))) (sym c.in_ok-words.ensures)
    (bare_held c.args.heap.now (zeroed c.args.size c.args.marks.now c.args.length) (zeroed_bare c.args.size c.args.marks.now c.args.length))

pub returns-clause-ok : goal.returns-clause-ok
returns-clause-ok c =
    subst (λ (w : Content). IfOk c.add.result (λ (r : Ref). Makes c.args.heap.now c.add.new.self r.serial (fresh (Array c.args.size c.args.length) w))) c.in_ok-words.ensures
    (makes c.add.result c.args.heap.now c.add.new.self (Array c.args.size c.args.length) c.in_ok-words.words
    (λ n. ap (λ (w : Content). naming (cells w) n) c.in_ok-words.ensures ∙ zeroed_bare c.args.size c.args.marks.now c.args.length n)
    c.add.ensures.serial c.add.ensures.ok c.add.ensures.outside)

pub returns-clause-array : goal.returns-clause-array
returns-clause-array c =
    if_map c.add.result _ _ (λ r (m : Makes c.args.heap.now c.add.new.self r.serial (fresh (Array c.args.size c.args.length) (zeroed c.args.size c.args.marks.now c.args.length))).
    made_array c.args.heap.now c.add.new.self r.serial c.args.size c.args.length _ m.serial m.makes (λ i. Array c.args.size c.args.length) c.requires.bytes (omega (arith, c.ranges.length.fits)))
    (returns-clause-ok c)

pub returns-clause-plain : goal.returns-clause-plain
returns-clause-plain c = λ none.
    if_map c.add.result _ _ (λ r (m : Makes c.args.heap.now c.add.new.self r.serial
    (fresh (Array c.args.size c.args.length) (zeroed c.args.size c.args.marks.now c.args.length))).
    made_plain c.args.heap.now c.add.new.self r.serial c.args.size c.args.length c.args.marks.now none c.requires.bytes
    (omega (arith, c.ranges.length.fits)) m)
    (returns-clause-ok c)

pub returns-clause-marked : goal.returns-clause-marked
returns-clause-marked c = λ some even.
    if_map c.add.result _ _
    (λ r (m : Makes c.args.heap.now c.add.new.self r.serial (fresh (Array c.args.size c.args.length)
    (zeroed c.args.size c.args.marks.now c.args.length))).
    made_marked c.args.heap.now c.add.new.self r.serial c.args.size c.args.length c.args.marks.now some even c.requires.bytes
    (omega (arith, c.ranges.length.fits)) m)
    (returns-clause-ok c)
