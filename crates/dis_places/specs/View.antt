-- Processes and memory of the program, as the definitions have them.
use Rattle.std.specs.Prelude.{reverse}
use Rattle.std.specs.Option.{option_map}
use Rattle.dis_meaning.specs.Words.{Place, InBlock, InFrame}
use Rattle.dis_meaning.specs.Process.{Printing, Process}
use Rattle.dis_meaning.specs.Places.{Spot, Own, Data, Far}
use Rattle.dis_memory.specs.Blocks.{World}
use Rattle.ref_heap.specs.declared.word.Place as code_place
use Rattle.ref_heap.specs.declared.word.Place.TheVariants as place
use Rattle.sys_print.specs.Worlds as outside
use Rattle.sys_print.specs.Printing.{view_writing}
use Rattle.dis_places.specs.declared.memory.Memory as code_memory
use Rattle.dis_places.specs.declared.process.Asking as code_asking
use Rattle.dis_places.specs.declared.process.Process as code_process
use Rattle.dis_places.specs.declared.spots.Spot as code_spot
use Rattle.dis_places.specs.declared.spots.Spot.TheVariants as spot
use Rattle.dis_places.specs.Blocks.{view_heap}
use Rattle.dis_places.specs.Frames.{view_frame, view_frames}

abbrev pub view_place : code_place.Place → Place
view_place (place.Block r) = InBlock r.serial
view_place (place.Frame n) = InFrame n

abbrev pub view_spot : code_spot.Spot → Spot
view_spot (spot.Own at) = Own at
view_spot (spot.Data at) = Data at
view_spot (spot.Far place at) = Far (view_place place) at

abbrev pub view_asking : code_asking.Asking → Printing
view_asking a = record { writing = view_writing a.writing; place = view_place a.place; at = a.at }

-- Of the frames that wait the definition has the latest first.
abbrev pub view_process : code_process.Process → Process
view_process p = record {
  number = p.number;
  frame = view_frame p.frame;
  below = reverse (view_frames p.below.items);
  made = view_frames p.made.items;
  printing = option_map view_asking p.printing;
}

abbrev pub view_world : code_memory.Memory → World
view_world m = record {
  heap = view_heap m.tables m.heap;
  outside = record { frames = m.frames; outside = outside.view_world m.outside };
}
