use Rattle.source_files.specs.declared.fault.FilesFault.{FilesFault}
use Rattle.source_files.specs.Files.{AtPath}
use Rattle.std.specs.Option.{IfSome}
use Rattle.std.proofs.Common.{None, Some, ◌≡◌, ◌≤◌, List, ℕ, suc, true, take, length}
use Rattle.std.specs.List.{Contains}
use Rattle.limbo_tree.specs.declared.source.Top.{Top}
use Rattle.limbo_includes.specs.Includes.{Leads}
use Rattle.source_files.specs.Reading.{targets, is_asked, source_of, IsReading, Later}
use Rattle.source_files.proofs.reader.read_all.Given as goal

abbrev pub invariant-loop-path : goal.invariant-loop-path
invariant-loop-path g l = record {
  told : g.H.HostTree.told l.files ≡ g.H.HostTree.told l.fn.files;
  later : g.H.HostTree.faults l.fn.files ≤ g.H.HostTree.faults l.files;
  longer : length l.fn.reader.texts.items ≤ length l.reader.texts.items;
  asks : (q : List ℕ) → Contains (take l.path-index l.named) q → is_asked l.reader q ≡ true;
  firm : (e : FilesFault) → l.fn.reader.refused ≡ Some e → l.reader.refused ≡ Some e;
  fresh : l.fn.reader.refused ≡ None → IfSome l.reader.refused (AtPath (Contains l.named));
  reading :
      (first : List ℕ) (source : List Top) (n : ℕ) (path : List ℕ) (tops : List Top)
      → Leads (source_of first source l.fn.reader) n path tops → l.depth ≡ suc n
      → ((q : List ℕ) → Contains l.named q → Contains (targets path tops) q)
      → IsReading (g.H.HostTree.told l.fn.files) first source l.depth l.fn.reader
      → IsReading (g.H.HostTree.told l.fn.files) first source l.depth l.reader × Later l.depth l.fn.reader l.reader;
}
