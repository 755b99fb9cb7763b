use Rattle.std.proofs.Common.{◌≡◌, ◌<◌, true, false, length, refl, arith}
use Rattle.limbo_calls.proofs.Calls.{pass_here, pass_more, pass_over}
use Rattle.limbo_calls.proofs.calling.passes_none.Goals as goal

pub loop-param-preserved : goal.loop-param-preserved
loop-param-preserved c =
    let ts = c.args.params.now in
    let i = c.loop-param.param-index in
    let x = c.param-item.result in
    let l : i < length ts = omega arith in
    record {
      all = λ h. c.loop-param.invariant.all (pass_more c.args.system ts i x l c.param-item.is
          (λ u. let f : c.is_user_module.result ≡ true = c.is_user_module.ensures.1 u in
          let g : c.is_user_module.result ≡ false = c.if-is_user_module.false in
          absurd cc) h);
      left = λ h. (pass_here c.args.system ts i x l c.param-item.is (c.loop-param.invariant.left h)).1;
    }

pub returns-then-is_user_module : goal.returns-then-is_user_module
returns-then-is_user_module c =
    let ts = c.args.params.now in
    let i = c.loop-param.param-index in
    let x = c.param-item.result in
    let l : i < length ts = omega arith in (
      λ h. absurd (let f : false ≡ true = h in cc),
      λ h. absurd ((pass_here c.args.system ts i x l c.param-item.is (c.loop-param.invariant.left h)).0
          (c.is_user_module.ensures.0 c.if-is_user_module.true)),
    )

pub returns : goal.returns
returns c =
    (λ h. c.loop-param.invariant.all (pass_over c.args.system c.args.params.now c.loop-param.param-index (omega arith)), λ h. refl)
