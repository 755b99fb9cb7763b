use Rattle.std.proofs.Common.{◌∙◌, ap, rules, FitsSigned}
use Rattle.std.specs.Int.{int_wrap, w32}
use Rattle.std.proofs.lemmas.Int.{to_z-of_z}
use Rattle.system_model.specs.Values.{Num}
use Rattle.sys_print.proofs.prints.int_of_count.Goals as goal

pub returns : goal.returns
unfolding int_wrap
returns c =
    let small : FitsSigned w32 c.cast_signed.result = search rules in
    ap Num (to_z-of_z w32 c.cast_signed.result small ∙ c.cast_signed.ensures)
