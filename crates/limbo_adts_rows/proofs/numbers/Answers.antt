use Rattle.limbo_types.proofs.View.{view_ty-Tuple, view_ty-Byte, view_ty-Big, view_ty-Int}
use Rattle.limbo_adts_rows.proofs.numbers.Goals as goal

pub returns : goal.returns
returns c = λ defs. rw view_ty-Tuple (rw c.in_ok-vec.ensures.items (rw (view_ty-Byte, view_ty-Big, view_ty-Int) (tt, (tt, (tt, tt)))))
