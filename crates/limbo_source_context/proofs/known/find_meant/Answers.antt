use Rattle.limbo_entries.specs.View.{entries_of}
use Rattle.limbo_exports.specs.System.{is_system, is_fd}
use Rattle.limbo_source_context.proofs.Knowing.{found}
use Rattle.limbo_source_context.proofs.known.find_meant.Goals as goal

pub returns : goal.returns
returns c =
    let es = entries_of c.args.table.now.entries.items in
    let builtin = c.find_system-builtin.result in
    record {
      many = c.in_ok-meanings.ensures.many;
      many_others = c.in_ok-others.ensures.many;
      meant = record {
        system_is = found is_system es builtin c.find_system-builtin.ensures.found c.find_system-builtin.ensures.none;
        fd_is = found (is_fd builtin) es c.find_fd-fd.result c.find_fd-fd.ensures.found c.find_fd-fd.ensures.none;
        meanings = c.in_ok-meanings.ensures.meanings;
        exports = c.in_ok-others.ensures.exports c.args.implemented (rw c.deref.ensures.value c.in_ok-meanings.ensures.meanings);
      };
    }
