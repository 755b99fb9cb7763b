use Rattle.inf_ports.proofs.Writing.{written, unwritten}
use Rattle.inf_ports.proofs.mem_tree.MemTreeHostTree.TheImpl.Goals as goal

pub write_file-tells : goal.write_file-tells
write_file-tells c = record {
  written = written c.args.self.now.files.items c.args.path.now c.args.bytes.now c.result c.new.self.now.files.items c.ensures.first;
  unwritten = unwritten c.args.self.now.files.items c.args.path.now c.args.bytes.now c.result c.new.self.now.files.items c.ensures.refused;
  unsought = c.ensures.unsought;
  failed = c.ensures.failed;
  later = c.ensures.later;
}
