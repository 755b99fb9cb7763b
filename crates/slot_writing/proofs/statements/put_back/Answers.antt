use Rattle.std.proofs.Common.{arith, ◌≡◌, ◌-◌, ◌∷◌, ◌++◌, length, ap, ◌∙◌, length-append}
use Rattle.slot_code.specs.Code.{Back}
use Rattle.slot_code.specs.declared.code.Inst.TheVariants as inst
use Rattle.slot_writing.proofs.Looping.{written_anew}
use Rattle.slot_writing.proofs.Written.{length_written}
use Rattle.slot_writing.proofs.statements.put_back.Goals as goal

pub returns : goal.returns
returns c = λ front back last e l.
    let is = c.args.code.now.items in
    let by = c.len.result - c.args.mark - 1 in
    let n : by ≡ length front =
    omega (arith, length_written is, ap length e, length-append front (last ∷ back), l, c.len.ensures, c.args.code.now.ok.0) in
    written_anew is c.args.mark (inst.Back by) front back last e l ∙ ap (λ k. front ++ Back k ∷ back) n
