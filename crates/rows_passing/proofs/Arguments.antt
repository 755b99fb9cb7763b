-- Calls with operands, whose answers have no record of their own, or have one.
use Rattle.rows_passing.specs.Rows.{ArgumentsGo, BoxedArgumentsGo}
use Rattle.rows_passing.proofs.Boxed.{boxed_goes}
use Rattle.rows_passing.proofs.Standing.{plain_goes}
use Rattle.rows_passing.proofs.Starting.{row_goes}

pub arguments_go : ArgumentsGo
arguments_go m b begins pass t fn into a other =
    row_goes m b begins pass t fn into a
    (λ i p n f here g there apart f_there in_code told_so named answer.
    plain_goes m i p n f t fn into a here b pass begins g there apart f_there in_code told_so named other)

pub boxed_arguments_go : BoxedArgumentsGo
boxed_arguments_go m b begins pass t fn into a form some =
    row_goes m b begins pass t fn into a
    (λ i p n f here g there apart f_there in_code told_so named answer.
    boxed_goes m i p n f t fn into a here b pass begins g there apart f_there in_code told_so named answer form some)
