use Rattle.std.proofs.lemmas.Result.{IfOk-weaker}
use Rattle.limbo_formats.specs.FormatReading.{IsRead, format_of}
use Rattle.limbo_formats.proofs.Formats.{found_parts, no_parts}
use Rattle.limbo_formats.proofs.format.parts_of.Goals as goal

pub returns-clause-found : goal.returns-clause-found
returns-clause-found c =
    IfOk-weaker c.read.result (λ ps. IsRead (format_of c.args.text.now) ps) _ (λ ps h. found_parts c.args.text.now ps h)
    (rw c.as_slice.ensures at c.read.ensures)

pub returns-clause-none : goal.returns-clause-none
returns-clause-none c =
    IfOk-weaker c.read.result (λ ps. IsRead (format_of c.args.text.now) ps) _ (λ ps h. no_parts c.args.text.now ps h)
    (rw c.as_slice.ensures at c.read.ensures)
