use Rattle.std.proofs.Common.{refl, rules}
use Rattle.sys_print.specs.Worlds as outside
use Rattle.dis_memory.specs.Control.{with_outside}
use Rattle.dis_places.specs.View.{view_world}
use Rattle.dis_stores.proofs.Cuts.{view_uncut}
use Rattle.dis_prints.proofs.replies.answer.Goals as goal

pub returns-in-Requests-clause-hears : goal.returns-in-Requests-clause-hears
returns-in-Requests-clause-hears c =
    let m = c.args.memory.now in (
      with_outside (view_world m) (outside.view_world c.in-Requests.world),
      search rules,
      record { held = λ n. refl; heap = view_uncut m.tables m.heap c.stands.ensures m.proper; outer = refl; tables = refl },
    )
