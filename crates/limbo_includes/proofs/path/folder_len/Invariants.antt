use Rattle.std.proofs.Common.{◌≡◌, ◌≤◌, length, take}
use Rattle.limbo_includes.specs.Includes.{folder_of}
use Rattle.limbo_includes.proofs.path.folder_len.Given as goal

abbrev pub invariant-loop-end : goal.invariant-loop-end
invariant-loop-end l = record {
  within : l.end ≤ length l.path;
  same : folder_of l.path ≡ folder_of (take l.end l.path);
}

abbrev pub decreases-loop-end : goal.decreases-loop-end
decreases-loop-end l = l.end
