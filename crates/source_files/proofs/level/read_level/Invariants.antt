use Rattle.std.proofs.Common.{◌≡◌, ◌≤◌, List, ℕ, suc, length}
use Rattle.limbo_tree.specs.declared.source.Top.{Top}
use Rattle.source_files.specs.Levels.{IsLevel, IsAmid}
use Rattle.source_files.proofs.level.read_level.Given as goal

abbrev pub invariant-loop-index : goal.invariant-loop-index
invariant-loop-index g l = record {
  told : g.H.HostTree.told l.files ≡ g.H.HostTree.told l.fn.files;
  later : g.H.HostTree.faults l.fn.files ≤ g.H.HostTree.faults l.files;
  longer : l.end ≤ length l.reader.texts.items;
  amid :
      (first : List ℕ) (source : List Top) (before : ℕ) → l.depth ≡ suc before
      → IsLevel (g.H.HostTree.told l.fn.files) first source before l.begin l.fn.reader
      → IsAmid (g.H.HostTree.told l.fn.files) first source before l.index l.end l.reader;
}
