use Rattle.std.proofs.Common.{arith, ◌≡◌, length, true}
use Rattle.core_parts.specs.Lowered.{code_of}
use Rattle.core_parts.proofs.Coded.{code_of_length}
use Rattle.core_parts.proofs.Joined.{mirrored_is}
use Rattle.core_parts.proofs.several.put_mirrored.Goals as goal

pub returns : goal.returns
returns c =
    let right = code_of c.args.right.items in
    let long : c.len.result ≡ length right = omega (arith, c.len.ensures, c.args.right.ok.0, code_of_length c.args.right.items) in
    let held : c.args.held ≡ true = c.if-not-held.false in
    mirrored_is c.args.held (code_of c.args.drops.now.items) _ _ right c.args.decision c.len.result held long
    (c.in_ok-put.ensures {u = tt}) (c.in_ok-put_all.ensures {u = tt})
