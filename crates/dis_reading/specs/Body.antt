-- What a reader has so far, as the definition of the format sees it.
use Rattle.std.specs.Prelude.{List, ◌++◌, Ok}
use Rattle.inf_text.specs.Steps.{◌>>=◌}
use Rattle.dis_format.specs.Reading.{Read, Body as Parts}
use Rattle.dis_reading.specs.declared.object.Body.{Body}

abbrev pub body_of : Body → Parts
body_of b = record { insts = b.insts; types = b.types; items = b.items; name = b.name; links = b.links }

-- What was read before, and what is still read.
abbrev pub with_front : {A : Type 0} → List A → Read (List A) → Read (List A)
with_front front read = read >>= λ x. Ok (front ++ x.0, x.1)
