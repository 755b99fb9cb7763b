use Rattle.std.proofs.Common.{[]}
use Rattle.std.proofs.lemmas.Result.{IfOk-weaker}
use Rattle.limbo_forms.specs.ArgTypes.{arg_types}
use Rattle.limbo_formats.specs.FormatReading.{IsFitted, fitted}
use Rattle.limbo_formats.proofs.Formats.{found_pieces, no_pieces}
use Rattle.limbo_formats.proofs.format.fit.Goals as goal

pub returns-clause-found : goal.returns-clause-found
returns-clause-found c =
    IfOk-weaker c.pieces.result (λ ps. IsFitted (fitted [] c.args.parts.now (arg_types c.args.args.now)) ps) _
    (λ ps h. found_pieces c.args.parts.now (arg_types c.args.args.now) ps h) c.pieces.ensures

pub returns-clause-none : goal.returns-clause-none
returns-clause-none c =
    IfOk-weaker c.pieces.result (λ ps. IsFitted (fitted [] c.args.parts.now (arg_types c.args.args.now)) ps) _
    (λ ps h. no_pieces c.args.parts.now (arg_types c.args.args.now) ps h) c.pieces.ensures
