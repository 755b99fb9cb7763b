use Rattle.slot_code.specs.View.{view_function}
use Rattle.dis_objects.proofs.Seen.{seen}
use Rattle.dis_objects.proofs.types.types_of.Goals as goal

pub frame_desc-requires : goal.frame_desc-requires
frame_desc-requires c =
    c.requires.small c.loop-f.f-index (view_function c.f-item.result)
    (seen c.args.functions.now c.loop-f.f-index c.f-item.result c.loop-f-test.true c.f-item.is)
