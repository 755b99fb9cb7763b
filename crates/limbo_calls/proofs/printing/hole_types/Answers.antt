use Rattle.std.proofs.Common.{◌<◌, ◌++◌, ◌∙◌, [], ◌∷◌, length, sym, ap, arith}
use Rattle.std.proofs.lemmas.List.{take_all}
use Rattle.limbo_typed.specs.Sound.{holes}
use Rattle.limbo_calls.proofs.Prints.{holes_next}
use Rattle.limbo_calls.proofs.printing.hole_types.Goals as goal

pub loop-piece-preserved : goal.loop-piece-preserved
loop-piece-preserved c =
    let ps = c.args.pieces.now in
    let l : c.loop-piece.piece-index < length ps = omega arith in
    let p = c.piece-item.result in
    c.in_ok-add_hole.ensures
    ∙ ap (λ ts. ts ++ holes (p ∷ [])) c.loop-piece.invariant
    ∙ sym (holes_next ps c.loop-piece.piece-index p l c.piece-item.is)

pub returns : goal.returns
returns c = c.loop-piece.invariant ∙ ap holes (take_all c.loop-piece.piece-index c.args.pieces.now (omega arith))
