use Rattle.std.proofs.Common.{◌≡◌, ◌<◌, length, arith}
use Rattle.std.proofs.lemmas.List.{length-map}
use Rattle.std.proofs.lemmas.Option.{slice_get_within}
use Rattle.limbo_layout.specs.View.{view_def, view_defs}
use Rattle.limbo_layout.proofs.Climbing.{climb_begun}
use Rattle.limbo_layout.proofs.order.lay.Goals as goal

pub climbing-init : goal.climbing-init
climbing-init c = record {
  climbs = climb_begun (view_defs c.args.defs.now) c.args.first c.args.table.now.rooms.items c.args.table.now.laid.items c.args.table.now.entered.items c.in_ok-path.path.items c.in_ok-path.ensures.items
      (let a = slice_get_within c.args.table.now.laid.items c.args.first _ c.requires.first in let b = c.requires.ready.table.laid_length in omega arith)
      c.requires.ready;
  keeps = λ n h. h;
}
