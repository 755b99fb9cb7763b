use Rattle.std.proofs.Common.{◌≡◌, ◌≤◌, List, ℕ}
use Rattle.limbo_tree.specs.declared.source.Top.{Top}
use Rattle.source_files.specs.Levels.{IsLevel}
use Rattle.source_files.proofs.level.read_levels.Given as goal

abbrev pub invariant-loop-depth : goal.invariant-loop-depth
invariant-loop-depth g l = record {
  told : g.H.HostTree.told l.files ≡ g.H.HostTree.told l.fn.files;
  later : g.H.HostTree.faults l.fn.files ≤ g.H.HostTree.faults l.files;
  reads :
      (first : List ℕ) (source : List Top) → IsLevel (g.H.HostTree.told l.fn.files) first source 1 0 l.fn.reader
      → IsLevel (g.H.HostTree.told l.fn.files) first source l.depth l.begin l.reader;
}
