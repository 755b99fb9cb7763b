use Rattle.std.proofs.lemmas.Result.{err_from_is_err_and}
use Rattle.limbo_includes.specs.View.{given}
use Rattle.limbo_includes.proofs.Growing.{blames_deep, blames_lacks, blames_twice}
use Rattle.limbo_includes.proofs.flat.flatten.Goals as goal

pub returns-in_err-put_all-clause-too_deep : goal.returns-in_err-put_all-clause-too_deep
returns-in_err-put_all-clause-too_deep c =
    let p = err_from_is_err_and c.from_residual-in_err-put_all.result c.from_residual-in_err-put_all.ensures.1 in
    rw (p.1, p.2)
    (blames_deep (given c.args.path.now c.args.source.now c.args.included.now) (record { out = c.new-2.result; seen = c.in_ok-vec.field-0 }) c.in_err-put_all.field-0.0
    (rw (c.in_ok-shelf.ensures, c.deref.ensures.value) at c.in_err-put_all.ensures.refused))

pub returns-in_err-put_all-clause-lacks : goal.returns-in_err-put_all-clause-lacks
returns-in_err-put_all-clause-lacks c =
    let p = err_from_is_err_and c.from_residual-in_err-put_all.result c.from_residual-in_err-put_all.ensures.1 in
    rw (p.1, p.2)
    (blames_lacks (given c.args.path.now c.args.source.now c.args.included.now) (record { out = c.new-2.result; seen = c.in_ok-vec.field-0 }) c.in_err-put_all.field-0.0
    (rw (c.in_ok-shelf.ensures, c.deref.ensures.value) at c.in_err-put_all.ensures.refused))

pub returns-in_err-put_all-clause-twice : goal.returns-in_err-put_all-clause-twice
returns-in_err-put_all-clause-twice c =
    let p = err_from_is_err_and c.from_residual-in_err-put_all.result c.from_residual-in_err-put_all.ensures.1 in
    rw (p.1, p.2)
    (blames_twice (given c.args.path.now c.args.source.now c.args.included.now) (record { out = c.new-2.result; seen = c.in_ok-vec.field-0 }) c.in_err-put_all.field-0.0
    (rw c.in_ok-shelf.ensures at c.in_ok-check_nesting.ensures.whole) c.new-2.ensures.items (c.in_ok-vec.ensures.items_if_clones_equal (λ y h. h))
    (rw (c.in_ok-shelf.ensures, c.deref.ensures.value) at c.in_err-put_all.ensures.refused))
