use Rattle.std.proofs.Common.{◌≡◌, ◌-◌}
use Rattle.dis_format.specs.Reading.{many, link_at}
use Rattle.dis_reading.specs.Body.{with_front}
use Rattle.dis_reading.proofs.sections.links_at.Given as goal

abbrev pub invariant-loop : goal.invariant-loop
invariant-loop l = with_front l.links.items (many (link_at l.code l.types) (l.count - l.counter) l.rest)
    ≡ many (link_at l.code l.types) l.count l.bytes
