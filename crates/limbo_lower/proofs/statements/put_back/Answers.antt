use Rattle.std.proofs.Common.{arith, ◌≡◌, ◌-◌, ◌∷◌, ◌++◌, length, ap, ◌∙◌, length-append}
use Rattle.core_code.specs.Code.{Back}
use Rattle.core_data.specs.declared.code.Inst.TheVariants as inst
use Rattle.limbo_lower.proofs.Looping.{written_anew}
use Rattle.limbo_lower.proofs.Written.{length_written}
use Rattle.limbo_lower.proofs.statements.put_back.Goals as goal

pub returns-clause-back : goal.returns-clause-back
returns-clause-back c = λ front back last e l.
    let is = c.args.code.now.items in
    let steps = c.len.result - c.args.mark - 1 in
    let n : steps ≡ length front =
    omega (arith, length_written is, ap length e, length-append front (last ∷ back), l, c.len.ensures, c.args.code.now.ok.0) in
    written_anew is c.args.mark (inst.Back steps) front back last e l ∙ ap (λ k. front ++ Back k ∷ back) n
