-- What is known of a point that stands in a module, and the other way round.
use Rattle.limbo_typed.specs.Typed.{Module}
use Rattle.limbo_context.specs.Context.{Context, Body}
use Rattle.limbo_stating.specs.limbo_local.Points.{Point}
use Rattle.limbo_typed_sound.specs.Describing.{Describes, IsWell}
use Rattle.limbo_stated_sound.specs.Standing.{Covers, StandsIn}
use Rattle.limbo_stated_sound.proofs.Seen.{Known}
use Rattle.limbo_stated_sound.proofs.Staying.{KnownAt}

pub known_of : (m : Module) (p : Point) → StandsIn m p → KnownAt m p
known_of m p s = record {
  globals = s.describes.globals;
  functions = s.describes.functions;
  system = s.describes.system;
  fd = s.describes.fd;
  constants = s.describes.constants;
  types = s.describes.types;
  imports = s.describes.imports;
  named = s.well.named;
  imported = s.well.imported;
  raises = s.raises;
}

pub describes_of : (m : Module) (c : Context) (b : Body) → Covers m c → Known m c b → Describes m c
describes_of m c b h k = record {
  adts = h.adts;
  modules = h.modules;
  interfaces = h.interfaces;
  globals = k.globals;
  functions = k.functions;
  system = k.system;
  fd = k.fd;
  constants = k.constants;
  types = k.types;
  imports = k.imports;
}

pub well_of : (m : Module) (c : Context) (b : Body) → Known m c b → IsWell m c b
well_of m c b k = record { named = k.named; imported = k.imported }

pub stands_of : (m : Module) (q : Point) → Covers m q.context → KnownAt m q → StandsIn m q
stands_of m q h k = record {
  describes = describes_of m q.context q.body h k;
  well = well_of m q.context q.body k;
  raises = k.raises;
}
