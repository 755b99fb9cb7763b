-- What the code's functions that must be defined stand for.
use Rattle.std.specs.Prelude.{List, map, option_copied}
use Rattle.limbo_defined.specs.declared.wants.Wanted as code_wanted
use Rattle.limbo_defined.specs.Wanted.{Wanted}
use Rattle.limbo_defined.specs.Places.{Place}

abbrev pub view_wanted : code_wanted.Wanted → Wanted
view_wanted w = record { path = w.path.now; name = w.name.now; part = option_copied w.part }

abbrev pub wanted_of : List code_wanted.Wanted → List Wanted
wanted_of ws = map view_wanted ws

abbrev pub place_of : code_wanted.Wanted → Place
place_of w = record { of = view_wanted w; at = w.at }

abbrev pub places_of : List code_wanted.Wanted → List Place
places_of ws = map place_of ws
