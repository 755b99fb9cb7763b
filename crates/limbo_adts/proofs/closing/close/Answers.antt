use Rattle.std.proofs.Common.{◌≡◌, length, ap, arith}
use Rattle.std.proofs.lemmas.List.{length-map, length-append}
use Rattle.limbo_layout.specs.View.{view_def, view_defs}
use Rattle.limbo_adts.specs.Closed.{rows}
use Rattle.limbo_adts.proofs.Found.{rows_more, rows-length}
use Rattle.limbo_adts.proofs.closing.close.Goals as goal

pub loop-number-preserved : goal.loop-number-preserved
loop-number-preserved c = record {
  same_length = let e = ap (λ xs. length xs) c.in_ok-push.ensures.items in let f = c.loop-number.invariant.same_length in rw c.in_ok-push.ensures.items (simp length-append (omega arith));
  each = rw c.in_ok-push.ensures.items (rows_more (view_defs c.args.defs.now) c.loop-number.closed.items c.in_ok-closure.field-0 c.loop-number.number c.loop-number.invariant.same_length c.loop-number.invariant.each c.in_ok-closure.ensures);
}

pub returns : goal.returns
returns c =
    let m : length (view_defs c.args.defs.now) ≡ length c.args.defs.now = length-map c.args.defs.now view_def in
    let r : length (rows c.loop-number.closed.items) ≡ length c.loop-number.closed.items = rows-length c.loop-number.closed.items in
    let s = c.loop-number.invariant.same_length in
    record {
      same_length = omega arith;
      each = λ n l. c.loop-number.invariant.each n (omega arith);
    }
