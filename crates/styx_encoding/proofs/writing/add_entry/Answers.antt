use Rattle.std.proofs.Common.{subst}
use Rattle.styx_msg.specs.declared.fault.StyxFault.TheVariants.{TooLong}
use Rattle.styx_msg.specs.Answers.{Gives}
use Rattle.styx_encoding.proofs.Sizes.{put_entry-is}
use Rattle.styx_encoding.proofs.Put.{entry_fits}
use Rattle.styx_encoding.proofs.writing.add_entry.Goals as goal

pub returns-clause-added : goal.returns-clause-added
returns-clause-added c = subst (λ f. Gives TooLong
    (λ _. c.add_sized_entry.new.out.items) c.add_sized_entry.result f)
    (put_entry-is c.args.out.now.items c.args.stat.now) c.add_sized_entry.ensures.added

pub returns-clause-fits : goal.returns-clause-fits
returns-clause-fits c =
    entry_fits c.add_sized_entry.result c.args.out.now.items c.add_sized_entry.new.out.items c.args.stat.now
    (returns-clause-added c) c.add_sized_entry.ensures.fits
