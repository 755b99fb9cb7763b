-- The object of a module, from its parts.
use Rattle.std.proofs.Common.{◌≡◌, ℕ, ◌+◌, ◌≤◌, List, [], ◌∷◌, ◌++◌, length, map, Option, codes, refl, ap, ◌∙◌, arith}
use Rattle.dis_file.specs.declared.object.Item.{Item}
use Rattle.dis_file.specs.declared.object.Import.{Import}
use Rattle.dis_file.specs.declared.object.LinkEntry.{LinkEntry}
use Rattle.dis_file.specs.declared.object.Catch.{Catch}
use Rattle.dis_file.specs.declared.types.TypeDesc.{TypeDesc}
use Rattle.slot_code.specs.Code.{Function, Module}
use Rattle.dis_objects.specs.Code.{Code}
use Rattle.dis_objects.specs.Objects.{find, entry, functions_code, data_place, entry_type_of, data_size, data_desc, frame_desc, print_desc}
use Rattle.dis_objects.specs.Objects.{functions_data, string_item, globals_items, items_from, sys_imports, init_links, object_of}
use Rattle.dis_objects.specs.Objects.{entry_length, entry_size, init_of, all_code, most_instructions, zeros_place}
use Rattle.dis_objects.specs.Proper.{IsProper}
use Rattle.dis_objects.specs.Words.{AllSmall}
use Rattle.dis_objects.specs.Sites.{functions_size, code_size, entries_from}
use Rattle.dis_generation.specs.Site.{IsReady}
use Rattle.dis_generation.proofs.Ready.{code_long, zeros_near}

pub object_is : (m : Module) (o : Option ℕ) (size type : ℕ) (insts : Code) (types : List TypeDesc) (items : List Item) (name : List ℕ)
    (links : List LinkEntry) (imports : List (List Import)) (catches : List Catch) →
    o ≡ find 0 (codes "init") m.functions →
    size ≡ data_size m →
    type ≡ entry_type_of m.functions o →
    insts ≡ entry m.functions o ++ functions_code m 0 (data_place m) m.functions →
    types ≡ data_desc m ∷ (map (frame_desc m.functions) m.functions ++ print_desc m.functions ∷ []) →
    items ≡ string_item 0 (codes "$Sys") ∷ (globals_items 8 m.globals ++ items_from (data_place m) (functions_data m.functions m.functions))
    →
    name ≡ m.name →
    links ≡ init_links o →
    imports ≡ sys_imports ∷ [] →
    catches ≡ [] →
    record {
      flags = 0x100;
      stack = 0;
      data_size = size;
      entry_pc = 0;
      entry_type = type;
      insts = insts;
      types = types;
      items = items;
      «module» = name;
      links = links;
      imports = imports;
      catches = catches;
    } ≡ object_of m
object_is m o size type insts types items name links imports catches init sized typed coded described held named linked imported caught =
    let type_is : type ≡ entry_type_of m.functions (find 0 (codes "init") m.functions) = typed ∙ ap (entry_type_of m.functions) init in
    let insts_are : insts ≡ entry m.functions (find 0 (codes "init") m.functions) ++ functions_code m 0 (data_place m) m.functions = coded
    ∙ ap (λ o. entry m.functions o ++ functions_code m 0 (data_place m) m.functions) init in
    let links_are : links ≡ init_links (find 0 (codes "init") m.functions) = linked ∙ ap init_links init in
    rw (sized, type_is, insts_are, described, held, named, links_are, imported, caught)

-- ---- what is counted first

module _ (m : Module) (fs : List Function) (first : ℕ) (o : Option ℕ) (proper : IsProper m) (e : fs ≡ m.functions)
    (i : o ≡ find 0 (codes "init") fs) (f : first ≡ entry_length o) where
  first_is : first ≡ entry_size m.functions
  first_is = f ∙ ap entry_length i ∙ ap (λ gs. entry_length (find 0 (codes "init") gs)) e

  -- The code of the module has as many instructions as were counted.
  pub counted : length (all_code m) ≡ first + functions_size fs
  counted = let l = code_long m proper (init_of m) in let a = first_is in let s = ap functions_size e in omega (arith, l, a, s)

  -- Its code can be made where these are few enough.
  pub made_ready : (entries : List ℕ) → AllSmall m → entries ≡ entries_from first fs → first + functions_size fs ≤ most_instructions →
      IsReady m (zeros_place m) entries
  made_ready entries small es le =
      let a = first_is in
      let s = ap functions_size e in
      let short : code_size m.functions ≤ most_instructions = omega (arith, a, s, le) in
      record {
        proper = proper;
        small = small;
        short = short;
        entries_are = es ∙ ap (λ at. entries_from at fs) a ∙ ap (entries_from (entry_size m.functions)) e;
        zeros_are = refl;
        near = let n = zeros_near m proper small short in omega (arith, n);
      }
