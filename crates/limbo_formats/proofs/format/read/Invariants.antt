use Rattle.std.proofs.Common.{◌≡◌, drop}
use Rattle.limbo_formats.specs.FormatReading.{parts, format_of}
use Rattle.limbo_formats.proofs.format.read.Given as goal

abbrev pub invariant-loop-c : goal.invariant-loop-c
invariant-loop-c l = parts l.parts.items l.chars l.seen (drop l.c-index l.text) ≡ format_of l.text
