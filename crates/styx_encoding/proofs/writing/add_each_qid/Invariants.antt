use Rattle.std.proofs.Common.{◌≡◌, ◌++◌, take}
use Rattle.std.specs.List.{flat_map, AllByRecursion}
use Rattle.styx_msg.specs.Styx.{IsQid, qid_bytes}
use Rattle.styx_encoding.proofs.writing.add_each_qid.Given as goal

abbrev pub invariant-loop-qid : goal.invariant-loop-qid
invariant-loop-qid l = (l.out.items ≡ l.fn.out.items ++ flat_map qid_bytes (take l.qid-index l.wqid))
    × AllByRecursion IsQid (take l.qid-index l.wqid)
