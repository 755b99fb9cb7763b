use Rattle.std.proofs.Common.{◌≡◌, [], drop}
use Rattle.limbo_forms.specs.ArgTypes.{arg_types}
use Rattle.limbo_formats.specs.FormatReading.{fitted}
use Rattle.limbo_formats.proofs.format.pieces.Given as goal

abbrev pub invariant-loop-part : goal.invariant-loop-part
invariant-loop-part l =
    fitted l.pieces.items (drop l.part-index l.parts) (arg_types l.rest) ≡ fitted [] l.parts (arg_types l.args)
