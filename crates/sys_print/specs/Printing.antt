-- The prints of the program, as the definitions have them.
use Rattle.system_model.specs.Prints.{Request, Writing, Printing, Answers, Requests, NoReply}
use Rattle.system_model.specs.Values.{Num}
use Rattle.sys_print.specs.declared.writing.Request as code_request
use Rattle.sys_print.specs.declared.writing.Writing as code_writing
use Rattle.sys_print.specs.declared.prints.Printing as code_printing
use Rattle.sys_print.specs.declared.prints.Printing.TheVariants as printing
use Rattle.sys_print.specs.Worlds.{view_world}

abbrev pub view_request : code_request.Request → Request
view_request m = record { link = m.link; frame = m.frame.items }

abbrev pub view_writing : code_writing.Writing → Writing
view_writing k = record { tag = k.tag; written = k.written; asked = k.asked; left = k.left.items }

abbrev pub view_printing : code_printing.Printing → Printing
view_printing (printing.Answers w v) = Answers (view_world w) (Num v)
view_printing (printing.Requests w m k) = Requests (view_world w) (view_request m) (view_writing k)
view_printing printing.NoReply = NoReply
