use Rattle.std.proofs.Common.{ap, sym, ◌∙◌}
use Rattle.process_model.specs.Process.{Went}
use Rattle.dis_meaning.specs.Words.{Found, ◌>>=◌}
use Rattle.dis_memory.specs.Naming.{names}
use Rattle.dis_memory.specs.Process.{jumps}
use Rattle.dis_places.specs.View.{view_process, view_world}
use Rattle.dis_calls.proofs.Quiet.{quiet_settles}
use Rattle.dis_calls.proofs.jumps.jmp.Goals as goal

pub returns-in-Ok-clause-goes : goal.returns-in-Ok-clause-goes
returns-in-Ok-clause-goes c =
    let m = c.args.memory.now in
    let x = view_world m in
    λ limit. (
      x,
      ap (λ a. a >>= λ pc. Found (jumps x (view_process c.args.process.now) pc)) (c.in-Ok.ensures {u = tt})
          ∙ ap (λ q. Found (Went x q)) (sym c.jump_to.ensures),
      quiet_settles m c.args.process.now c.jump_to.new.process c.stands.ensures (λ n. ap (λ q. names q n) c.jump_to.ensures),
    )
