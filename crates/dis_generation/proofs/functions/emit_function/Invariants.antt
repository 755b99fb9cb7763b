use Rattle.std.proofs.Common.{◌≡◌, ◌++◌, ◌+◌, [], map, drop}
use Rattle.slot_code.specs.View.{view_inst}
use Rattle.dis_objects.specs.Code.{insts_code, insts_data, data_bytes}
use Rattle.dis_objects.specs.Objects.{function_data}
use Rattle.dis_objects.specs.Sites.{made_of}
use Rattle.dis_generation.specs.Site.{context_of, function_of, functions_of, IsMakingAt}
use Rattle.dis_generation.proofs.functions.emit_function.Given as goal

-- The code so far and that of the instructions that are left are the whole; so are the data.
abbrev pub invariant-loop-pc : goal.invariant-loop-pc
invariant-loop-pc l = record {
  stands : IsMakingAt l.site l.making l.pc;
  made : l.insts.items ++ insts_code (context_of l.site) l.pc l.next (made_of l.making)
      (map view_inst (drop l.pc l.site.function.now.code.items))
      ≡ l.fn.insts.items ++ insts_code (context_of l.site) 0 l.at [] (function_of l.site).code;
  counted : l.next + data_bytes (insts_data (functions_of l.site) (function_of l.site).answer (made_of l.making)
      (map view_inst (drop l.pc l.site.function.now.code.items)))
      ≡ l.at + data_bytes (function_data (functions_of l.site) (function_of l.site));
}
