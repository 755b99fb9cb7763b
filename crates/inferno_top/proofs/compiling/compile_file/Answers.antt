use Rattle.std.proofs.Common.{subst}
use Rattle.inf_ports.specs.Outside.{Told}
use Rattle.dis_format.specs.Objects.{written_form}
use Rattle.limbo_command.specs.Write.{IsLeft}
use Rattle.inferno_top.proofs.Compiled.{unread_left, written_left}
use Rattle.inferno_top.proofs.compiling.compile_file.Goals as goal

pub write_at-requires : goal.write_at-requires
write_at-requires g c = record { valid = c.in-Ok.ensures.read.2.valid }

pub returns-in-Ok-clause-left : goal.returns-in-Ok-clause-left
returns-in-Ok-clause-left g c =
    let told = g.H.HostTree.told c.args.files.now in
    let after = g.H.HostTree.told c.write_at.new.files in
    let middle = g.H.HostTree.faults c.read_source.new.files in
    let now = g.H.HostTree.faults c.write_at.new.files in
    let r = c.in-Ok.ensures.read in
    written_left told after c.args.path.now c.args.out.now (g.H.HostTree.faults c.args.files.now) now middle r.0 c.in-Ok.object
    c.write_at.result c.write_cause.result c.read_source.ensures.later r.1 r.2
    (subst (λ (z : Told). IsLeft z after c.args.out.now (written_form c.in-Ok.object) middle now c.write_at.result)
    c.read_source.ensures.kept c.write_at.ensures.left)
    c.write_cause.ensures

pub returns-in-Err-clause-left : goal.returns-in-Err-clause-left
returns-in-Err-clause-left g c =
    unread_left (g.H.HostTree.told c.args.files.now) (g.H.HostTree.told c.read_source.new.files) c.args.path.now c.args.out.now
    (g.H.HostTree.faults c.args.files.now) (g.H.HostTree.faults c.read_source.new.files) c.in-Err.cause c.in-Err.ensures.unread
    c.read_source.ensures.kept
