use Rattle.std.proofs.Common.{drop}
use Rattle.limbo_adts.specs.Table.{defs_of}
use Rattle.limbo_stores.proofs.Stored.{TellsRest}
use Rattle.limbo_stores.proofs.storing.+patterns.Given as goal

abbrev pub invariant-parts_store-loop-part : goal.invariant-parts_store-loop-part
invariant-parts_store-loop-part l = TellsRest (defs_of l.adts) l.fd l.told (drop l.part-index l.parts) l.parts
