use Rattle.std.proofs.Common.{◌+◌, Some, arith}
use Rattle.limbo_tree.specs.View.{view_member}
use Rattle.limbo_declarations.specs.Rows.{rows_of_member}
use Rattle.limbo_defined.specs.View.{wanted_of, places_of}
use Rattle.limbo_defined.proofs.Walks.{next_rows, rows_from}
use Rattle.limbo_defined.proofs.Wanting.{functions_step, places_step}
use Rattle.limbo_defined.proofs.wants.push_members.Goals as goal

pub loop-m-preserved : goal.loop-m-preserved
loop-m-preserved c =
    let p = c.args.path.now in
    let adt = Some c.args.adt.now in
    let ms = c.args.members.now in
    let k = c.loop-m.m-index in
    let m = c.m-item.result in
    record {
      wanted = functions_step (wanted_of c.loop-m.all.items) (wanted_of c.push_member.new.all.items) _ adt (rows_from p k ms)
          (rows_of_member p (view_member m)) (rows_from p (k + 1) ms) (next_rows p k ms m (omega arith) c.m-item.is)
          c.in_ok-push_member.ensures.wanted c.loop-m.invariant.wanted;
      places = places_step (places_of c.loop-m.all.items) (places_of c.push_member.new.all.items) _ p adt k ms m (omega arith) c.m-item.is
          c.in_ok-push_member.ensures.places c.loop-m.invariant.places;
    }
