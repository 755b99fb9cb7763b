use Rattle.std.proofs.Common.{rules, ◌<◌, ◌≤◌, length, get_or, refl, ap, arith}
use Rattle.value_tables.proofs.Marks.{next_marked, next_same, all_marked}
use Rattle.value_tables.proofs.descs.marks_of.Goals as goal
use Rattle.value_tables.proofs.descs.marks_of.Goals.{then-place-eq0+then-word-words, else-place-eq0}
use Rattle.value_tables.proofs.descs.marks_of.Goals.{else-place-eq0-via-then-place-eq0+else-word-words, else-place-eq0-via-else-place-eq0}

pub loop-place-preserved : goal.loop-place-preserved
loop-place-preserved c =
    let marks = c.loop-place.marks.items in
    let os = c.args.places.now in
    let k = c.loop-place.place-index in
    let o = get_or os k 0 in
    let inv = c.loop-place.invariant in
    let lt : k < length os = c.loop-place-test.true in
    elim c.if-place-eq0.branch [
      | then-place-eq0+then-word-words w ↦ next_marked marks c.args.words os k o inv.0 lt refl inv.1 c.if-place-eq0.marks.items
          (ap (λ v. v.items) w.marks-is) w.if-place-eq0.true w.if-word-words.true
      | else-place-eq0 w ↦ next_same marks c.args.words os k o inv.0 lt refl inv.1 c.if-place-eq0.marks.items (ap (λ v. v.items) w.marks-is)
          (λ whole within. elim w.else-place-eq0.branch [
            | else-place-eq0-via-then-place-eq0+else-word-words v ↦ absurd (omega (arith, v.if-word-words.false, within))
            | else-place-eq0-via-else-place-eq0 v ↦ absurd (v.if-place-eq0.false whole)
          ])
    ]

pub returns : goal.returns
returns c =
    let past : length c.args.places.now ≤ c.loop-place.place-index = search rules in
    all_marked c.loop-place.marks.items c.args.words c.args.places.now c.loop-place.place-index c.loop-place.invariant.0 past c.loop-place.invariant.1
