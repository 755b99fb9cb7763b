use Rattle.std.proofs.Common.{ap, sym, ◌∙◌}
use Rattle.std.specs.Option.{option_copied}
use Rattle.ref_heap.proofs.slots.find.Goals as goal

pub returns-then-block-r-clause-found : goal.returns-then-block-r-clause-found
returns-then-block-r-clause-found c = record { block = c.in-Some.block.now; is = sym c.get.ensures ∙ ap option_copied c.in-Some.is; has_serial = c.if-block-r.true }
