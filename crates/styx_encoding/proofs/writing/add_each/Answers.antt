use Rattle.std.proofs.lemmas.Result.{err_from_is_err_and}
use Rattle.styx_msg.specs.Styx.{IsText}
use Rattle.styx_encoding.specs.Writing.{put_each}
use Rattle.styx_encoding.proofs.Sizes.{each_goes_on, each_ends, each_done, all_more, all_done}
use Rattle.styx_encoding.proofs.writing.add_each.Goals as goal

pub returns-in_err-add_text-clause-added : goal.returns-in_err-add_text-clause-added
returns-in_err-add_text-clause-added c =
    let p = err_from_is_err_and c.from_residual.result c.from_residual.ensures.1 in
    rw (p.1, p.2)
    (each_ends c.in_err-add_text.field-0.0 c.loop-name.out.items c.args.wname.now c.loop-name.name-index
    c.name-item.result
    (put_each c.args.out.now.items c.args.wname.now) c.loop-name-test.true c.name-item.is
    c.in_err-add_text.ensures.added c.loop-name.invariant.0)

pub loop-name-preserved : goal.loop-name-preserved
loop-name-preserved c = (
  each_goes_on c.loop-name.out.items c.add_text.new.out.items c.args.wname.now c.loop-name.name-index
      c.name-item.result
      (put_each c.args.out.now.items c.args.wname.now) c.loop-name-test.true c.name-item.is
      c.in_ok-add_text.ensures.added c.loop-name.invariant.0,
  all_more IsText c.args.wname.now c.loop-name.name-index c.name-item.result c.loop-name-test.true c.name-item.is
      c.loop-name.invariant.1 c.in_ok-add_text.ensures.fits,
)

pub returns-clause-added : goal.returns-clause-added
returns-clause-added c = each_done c.loop-name.out.items c.args.wname.now c.loop-name.name-index
    (put_each c.args.out.now.items c.args.wname.now) c.loop-name-test.false c.loop-name.invariant.0

pub returns-clause-fits : goal.returns-clause-fits
returns-clause-fits c =
    all_done IsText c.args.wname.now c.loop-name.name-index c.loop-name-test.false c.loop-name.invariant.1
