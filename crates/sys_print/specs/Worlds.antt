-- What the processes of the program share, as the definitions have it.
use Rattle.system_model.specs.World.{Link, World}
use Rattle.sys_print.specs.declared.outside.Link as code_link
use Rattle.sys_print.specs.declared.outside.World as code_world

abbrev pub view_link : code_link.Link → Link
view_link l = record { waiting = l.waiting.items }

abbrev pub view_world : code_world.World → World
view_world w = record {
  files = record { output = record { fid = w.files.output.fid; offset = w.files.output.offset } };
  links = record { console = view_link w.links.console };
}
