use Rattle.std.proofs.Common.{◌≡◌, true, false, sym, ap, ◌∙◌}
use Rattle.dis_memory.specs.Blocks.{refers}
use Rattle.dis_kinds.specs.Views.{view_elements}
use Rattle.dis_places.specs.View.{view_process, view_world}
use Rattle.dis_results.proofs.Onward.{goes_same}
use Rattle.dis_slices.proofs.Put.{copied_by, same_untouched}
use Rattle.dis_slices.proofs.slices.copy_over.Goals as goal

pub returns-then-refers-clause-goes : goal.returns-then-refers-clause-goes
returns-then-refers-clause-goes c =
    let m = c.args.memory.now in
    let s = view_elements m c.args.source in
    let e : refers s.element ≡ true = sym c.refers.ensures ∙ c.if-refers.true in
    goes_same m c.copy_words.new.memory c.args.process.now c.copy_words.new.process c.copy_words.result _ _
    (ap (copied_by (view_world m) (view_process c.args.process.now) s (view_elements m c.args.target) c.args.at) e) c.copy_words.ensures.goes

pub returns-else-refers-clause-goes : goal.returns-else-refers-clause-goes
returns-else-refers-clause-goes c =
    let m = c.args.memory.now in
    let s = view_elements m c.args.source in
    let e : refers s.element ≡ false = sym c.refers.ensures ∙ c.if-refers.false in
    goes_same m c.copy_bytes.new.memory c.args.process.now c.copy_bytes.new.process c.copy_bytes.result _ _
    (ap (copied_by (view_world m) (view_process c.args.process.now) s (view_elements m c.args.target) c.args.at) e) c.copy_bytes.ensures.goes

pub returns-else-refers-clause-kept : goal.returns-else-refers-clause-kept
returns-else-refers-clause-kept c =
    same_untouched c.args.memory.now c.copy_bytes.new.memory c.args.process.now c.copy_bytes.new.process c.copy_bytes.result c.copy_bytes.ensures.kept
