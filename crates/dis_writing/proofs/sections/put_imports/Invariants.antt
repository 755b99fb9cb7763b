use Rattle.std.proofs.Common.{◌≡◌, drop}
use Rattle.std.specs.List.{flat_map}
use Rattle.dis_format.specs.Parts.{import_parts}
use Rattle.dis_format.specs.Writing.{put_all}
use Rattle.dis_writing.proofs.sections.put_imports.Given as goal

abbrev pub invariant-loop-import : goal.invariant-loop-import
invariant-loop-import l = put_all l.out.items (flat_map import_parts (drop l.import-index l.imports))
    ≡ put_all l.fn.out.items (flat_map import_parts l.imports)
