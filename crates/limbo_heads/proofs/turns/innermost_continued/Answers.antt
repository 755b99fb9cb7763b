use Rattle.std.proofs.Common.{refl, length}
use Rattle.std.proofs.lemmas.Option.{slice_get_read}
use Rattle.limbo_tree.specs.View.{name_of}
use Rattle.limbo_stmt_values.specs.limbo_stating.Around.{IsContinued}
use Rattle.limbo_stmt_values.proofs.Told.{untrue}
use Rattle.limbo_heads.proofs.Places.{innermost_at, none_at, none_more}
use Rattle.limbo_heads.proofs.turns.innermost_continued.Goals as goal

pub returns-then-is_continued-clause-found : goal.returns-then-is_continued-clause-found
returns-then-is_continued-clause-found c =
    let ts = c.args.turns.now in
    let n = c.loop-place.place in
    let t = c.index-turns-place.result in
    innermost_at ts (IsContinued (name_of c.args.label.now)) n t c.loop-place.invariant
    (slice_get_read ts (length ts) n t refl c.loop-place-test.true c.index-turns-place.is) (c.is_continued.ensures.0 c.if-is_continued.true)

pub loop-place-preserved : goal.loop-place-preserved
loop-place-preserved c =
    let ts = c.args.turns.now in
    let n = c.loop-place.place in
    let t = c.index-turns-place.result in
    none_more ts (IsContinued (name_of c.args.label.now)) n t c.loop-place.invariant
    (slice_get_read ts (length ts) n t refl c.loop-place-test.true c.index-turns-place.is)
    (untrue c.is_continued.result _ c.if-is_continued.false c.is_continued.ensures)

pub returns-clause-none : goal.returns-clause-none
returns-clause-none c =
    none_at c.args.turns.now (IsContinued (name_of c.args.label.now)) c.loop-place.place c.loop-place-test.false c.loop-place.invariant
