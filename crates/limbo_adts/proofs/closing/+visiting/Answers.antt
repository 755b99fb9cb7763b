use Rattle.std.proofs.Common.{◌≡◌, ◌+◌, ◌++◌, take, sym, ap, ◌∙◌, arith}
use Rattle.std.proofs.lemmas.List.{take_more}
use Rattle.limbo_types.specs.View.{view_ty, view_tys}
use Rattle.limbo_adts.specs.Closed.{named, all_named}
use Rattle.limbo_adts.proofs.Found.{visited_more, tuple-push}
use Rattle.limbo_adts.proofs.closing.+visiting.Goals as goal

pub visit_tuple-loop-t-preserved : goal.visit_tuple-loop-t-preserved
visit_tuple-loop-t-preserved t c =
    let ts = c.args.parts.now in
    let i = c.loop-t.t-index in
    let e : all_named (view_tys (take (i + 1) ts)) ≡ all_named (view_tys (take i ts)) ++ named (view_ty c.t-item.result) =
    ap (λ xs. all_named (view_tys xs)) (take_more ts i c.t-item.result (omega arith)) ∙ tuple-push (take i ts) _ ∙ ap (λ x. all_named (view_tys (take i ts)) ++ named (view_ty x)) (sym c.t-item.is) in
    rw e (visited_more _ _ _ _ _ _ _ _ c.loop-t.invariant c.in_ok-visit_type.ensures)
