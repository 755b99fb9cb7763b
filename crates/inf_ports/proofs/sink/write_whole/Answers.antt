use Rattle.std.proofs.Common.{◌≡◌, ◌-◌, arith, take, drop, length, length-drop}
use Rattle.std.proofs.lemmas.List.{take_all}
use Rattle.inf_ports.proofs.Growing.{Appends-next}
use Rattle.inf_ports.proofs.sink.write_whole.Goals as goal

pub loop-taken-preserved : goal.loop-taken-preserved
loop-taken-preserved g c =
    let before = c.loop-taken.invariant in
    let call = c.in_ok-taken.ensures in
    let bytes = c.args.bytes.now in
    let at = c.loop-taken.taken in
    let rest : take (length bytes - at) (drop at bytes) ≡ drop at bytes =
    take_all _ _ (omega (arith, length-drop at bytes)) in
    let within = rw rest at call.within in (
      omega (arith, within, length-drop at bytes),
      Appends-next _ _ _ bytes at c.in_ok-taken.field-0 before.1 (rw rest at call.taken),
      omega (arith, before.2, call.later),
    )
