use Rattle.std.proofs.Common.{sym, ap, ◌∙◌, subst}
use Rattle.std.specs.Prelude.{slice_get}
use Rattle.dis_meaning.specs.Words.{◌>>=◌, type_check, or_wrong}
use Rattle.dis_memory.specs.Control.{function_of}
use Rattle.dis_places.specs.Blocks.{names_in}
use Rattle.dis_places.specs.Words.{GivesFault}
use Rattle.dis_prints.proofs.modules.function_of.Goals as goal

pub returns-in-Ok : goal.returns-in-Ok
returns-in-Ok c =
    let k = c.args.number in
    subst (λ a. GivesFault (λ name. name.now) c.nth_name.result a)
    (sym
    (ap (λ b. b >>= λ b. function_of b k) (c.in-Ok.ensures {u = tt}).linked
    ∙ ap (λ ns. or_wrong type_check (slice_get (names_in (slice_get ns c.in-Ok.names)) k)) (sym c.as_slice.ensures.value)
    ∙ ap (λ row. or_wrong type_check (slice_get row k)) (sym c.row.ensures)))
    c.nth_name.ensures

pub returns-in-Err : goal.returns-in-Err
returns-in-Err c = (c.in-Err.ensures {u = tt}).wrong c.args.number
