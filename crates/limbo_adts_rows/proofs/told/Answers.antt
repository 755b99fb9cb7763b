use Rattle.std.proofs.Common.{arith}
use Rattle.std.proofs.lemmas.List.{length-map}
use Rattle.limbo_types.proofs.View.{view_ty-Adt}
use Rattle.limbo_layout.specs.View.{view_def}
use Rattle.limbo_adts_rows.proofs.told.Goals as goal

pub layout-requires : goal.layout-requires
layout-requires c = let m = length-map c.args.adts.now.adts view_def in let r = c.requires in rw view_ty-Adt (omega arith)
