use Rattle.std.proofs.Common.{arith}
use Rattle.limbo_types.proofs.View.{view_ty-Adt, view_ty-RefAdt}
use Rattle.limbo_adts_rows.proofs.row.Goals as goal

pub made-requires : goal.made-requires
made-requires c = rw view_ty-Adt (omega arith)

pub made-requires-in-ref : goal.made-requires-in-ref
made-requires-in-ref c = rw view_ty-RefAdt (omega arith)

pub grown-requires : goal.grown-requires
grown-requires c = rw view_ty-RefAdt (omega arith)
