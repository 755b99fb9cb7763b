use Rattle.std.proofs.Common.{◌≡◌, length, Some, refl}
use Rattle.std.proofs.lemmas.Option.{slice_get_read}
use Rattle.std.specs.Borrow.{Bor}
use Rattle.std.specs.declared.cmp.Ordering.TheVariants.{Less}
use Rattle.limbo_cases.specs.declared.overlapping.Kept.{Kept}
use Rattle.limbo_cases.specs.Labels.{AtMost}
use Rattle.limbo_cases.specs.Keeping.{held}
use Rattle.limbo_cases.proofs.Orders.{lt_holds, lt_fails, le_holds, le_fails}
use Rattle.limbo_cases.proofs.Keeps.{skip, found, all_end, none_ends, grow, held_alike}
use Rattle.limbo_cases.proofs.overlapping.keep.Given.{Over}
use Rattle.limbo_cases.proofs.overlapping.keep.Goals as goal
use Rattle.limbo_cases.proofs.overlapping.keep.Goals.{in-Some+else-le, in_default}

pub returns-then-lt : goal.returns-then-lt
returns-then-lt g c =
    let here = slice_get_read c.args.labels.now (length c.args.labels.now) c.args.number c.index-labels-number.result refl c.requires.there c.index-labels-number.is in
    skip g.met.T.Ord.total c.args.labels.now c.args.number (held g.T.Ord.cmp c.args.kept.now) c.index-labels-number.result here
    (lt_holds g.met.T.Ord.total g.met.T.Ord.matches_partial_cmp _ _ c.lt.result c.lt.ensures c.if-lt.true) c.requires.kept

pub returns-then-le : goal.returns-then-le
returns-then-le g c =
    let here = slice_get_read c.args.labels.now (length c.args.labels.now) c.args.number c.index-labels-number.result refl c.requires.there c.index-labels-number.is in
    found g.met.T.Ord.total c.args.labels.now c.args.number (held g.T.Ord.cmp c.args.kept.now) c.index-labels-number.result c.in-Some.before.now here
    (lt_fails g.met.T.Ord.total g.met.T.Ord.matches_partial_cmp _ _ c.lt.result c.lt.ensures c.if-lt.false) c.in-Some.ensures
    (le_holds g.met.T.Ord.total g.met.T.Ord.matches_partial_cmp _ _ c.le.result c.le.ensures c.if-le.true) c.requires.kept

-- each label that begins at the high end or before it ends before the low one
ends : (g : Over) (c : goal.In_ok-insert g) → (p : Bor g.row.T.Denot) (k : Kept g.row.T.Denot) → held g.T.Ord.cmp c.args.kept.now p ≡ Some k
    → AtMost g.T.Ord.cmp p.now c.index-labels-number.result.high → g.T.Ord.cmp k.label.now.high c.index-labels-number.result.low ≡ Less
ends g c = elim c.match-last_begun.branch [
  | in-Some+else-le w ↦
      all_end g.met.T.Ord.total c.args.labels.now c.args.number (held g.T.Ord.cmp c.args.kept.now) (held_alike g.met.T.Ord.total c.args.kept.now)
      c.index-labels-number.result.high c.index-labels-number.result.low w.in-Some.before.now c.requires.kept.ordered w.in-Some.ensures
      (le_fails g.met.T.Ord.total g.met.T.Ord.matches_partial_cmp _ _ w.le.result w.le.ensures w.if-le.false)
  | in_default w ↦
      none_ends g.met.T.Ord.total c.args.labels.now c.args.number (held g.T.Ord.cmp c.args.kept.now) c.index-labels-number.result.high
      c.index-labels-number.result.low c.last_begun.result c.last_begun.ensures w.in_default.not-Some
]

pub returns : goal.returns
returns g c =
    let here = slice_get_read c.args.labels.now (length c.args.labels.now) c.args.number c.index-labels-number.result refl c.requires.there c.index-labels-number.is in
    grow g.met.T.Ord.total c.args.labels.now c.args.number (held g.T.Ord.cmp c.args.kept.now) _
    (record { ref_ptr = c.args.labels.ref_ptr; now = c.index-labels-number.result.low }) (held g.T.Ord.cmp c.insert.new.self)
    c.in_ok-insert.ensures.updates.0 refl here
    (lt_fails g.met.T.Ord.total g.met.T.Ord.matches_partial_cmp _ _ c.lt.result c.lt.ensures c.if-lt.false) refl (ends g c) c.requires.kept
