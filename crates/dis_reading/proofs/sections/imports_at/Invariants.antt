use Rattle.std.proofs.Common.{◌≡◌, ◌-◌}
use Rattle.dis_format.specs.Reading.{many, import_at}
use Rattle.dis_reading.specs.Body.{with_front}
use Rattle.dis_reading.proofs.sections.imports_at.Given as goal

abbrev pub invariant-loop : goal.invariant-loop
invariant-loop l = with_front l.imports.items (many import_at (l.count - l.counter) l.rest) ≡ many import_at l.count l.bytes
