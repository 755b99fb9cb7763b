use Rattle.std.proofs.lemmas.Int.{to_z-of_z}
use Rattle.limbo_exprs.proofs.Tested.{put_behind}
use Rattle.limbo_exprs.proofs.arrays.Filling.put.Goals as goal

pub returns-clause-items : goal.returns-clause-items
returns-clause-items c =
    put_behind c.args.self.now.items.items c.reserve.new.self.items c.push_reserved.new.self.items _ c.args.index c.args.value.value
    c.push_reserved.ensures.items c.in_ok-reserve.ensures.items (to_z-of_z _ c.args.index c.ranges.index) c.into_inner.ensures
