use Rattle.std.proofs.Common.{◌∙◌, sym, arith}
use Rattle.limbo_includes.proofs.Folders.{folder_here, folder_before}
use Rattle.limbo_includes.proofs.path.folder_len.Goals as goal

pub loop-end-preserved : goal.loop-end-preserved
loop-end-preserved c = record {
  within = omega arith;
  same = c.loop-end.invariant.same ∙ folder_before c.args.path.now c.loop-end.end c.index-path-end.result (omega arith) (omega arith) c.index-path-end.is c.if-path-end-ne47.true;
}

pub returns-else-path-end-ne47-clause-folder : goal.returns-else-path-end-ne47-clause-folder
returns-else-path-end-ne47-clause-folder c =
    sym (c.loop-end.invariant.same ∙ folder_here c.args.path.now c.loop-end.end c.index-path-end.result (omega arith) (omega arith) c.index-path-end.is c.if-path-end-ne47.false)
