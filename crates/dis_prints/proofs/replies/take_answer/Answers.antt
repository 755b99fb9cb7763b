use Rattle.std.proofs.Common.{w32, w64, to_z, of_z}
use Rattle.sys_print.specs.Worlds as outside
use Rattle.dis_meaning.specs.Words.{Plain}
use Rattle.dis_memory.specs.Control.{with_outside}
use Rattle.dis_places.specs.View.{view_place, view_process, view_world}
use Rattle.dis_prints.proofs.Chains.{no_raise}
use Rattle.dis_prints.proofs.replies.take_answer.Goals as goal

pub unreachable-requires : goal.unreachable-requires
unreachable-requires c =
    no_raise (with_outside (view_world c.args.memory.now) (outside.view_world c.replace-before.new.dest)) (view_process c.args.process.now)
    (to_z w64 (of_z w64 c.args.at)) (Plain (to_z w32 c.cast_unsigned.result)) (view_place c.args.place) c.in-Err.halt c.in-Raises.field-0 c.in-Raises.is
    c.in-Err.ensures.stores
