use Rattle.std.proofs.Common.{◌≡◌, ◌++◌, drop}
use Rattle.source_files.specs.Reading.{targets}
use Rattle.source_files.proofs.reader.named_in.Given as goal

-- those so far and those that are left are all
abbrev pub invariant-loop-top : goal.invariant-loop-top
invariant-loop-top l = l.named.items ++ targets l.path (drop l.top-index l.tops) ≡ targets l.path l.tops
