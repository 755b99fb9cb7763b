-- Functions of sound modules begin well.
use Rattle.std.proofs.Common.{List, [], ◌∷◌, sym, subst}
use Rattle.limbo_types.specs.Types.{Ty}
use Rattle.limbo_layout.specs.Adts.{Def}
use Rattle.limbo_layout.specs.Layout.{Laid, AllLaid, more_laid, none_laid}
use Rattle.limbo_layout.specs.Laying.{rooms_of, room}
use Rattle.limbo_meaning.specs.Program.{routine_of, program_of}
use Rattle.limbo_kept.specs.Permitting.{Anything}
use Rattle.limbo_kept.specs.Processes.{AllHaveRooms, ProgramIs}
use Rattle.limbo_kept.specs.Modules.{signature_of, outline_of}
use Rattle.limbo_kept.proofs.Opening.{modules_keep_types}
use Rattle.core_code.specs.Rooms.{rooms_in}
use Rattle.core_code.proofs.Rounds.{rounds_give_rooms}
use Rattle.core_typing.proofs.Trees.{trees_go_well, values_go_well}
use Rattle.core_typing.proofs.Modules.{sound_modules_go_well}
use Rattle.value_code.proofs.Lists.{get_map}
use Rattle.rows_calling.specs.Rows.{SoundFunctionsBegin}

all_laid : (defs : List Def) (ts : List Ty) → AllHaveRooms defs ts → AllLaid defs ts (rooms_of (rooms_in defs) ts)
all_laid defs [] h = none_laid
all_laid defs (t ∷ ts) h =
    more_laid t ts (room (rooms_in defs) t) (rooms_of (rooms_in defs) ts)
    (subst (Laid defs t) (sym (rounds_give_rooms.rooms defs t h.0.0 h.0.1)) h.0.1) (all_laid defs ts h.1)

pub sound_functions_begin : SoundFunctionsBegin
sound_functions_begin m x laid few written part runs = record {
  laid = λ n f e.
      let is : ProgramIs (outline_of m) (program_of m) =
      modules_keep_types.programs Anything m x laid written (modules_keep_types.anything m) in
      all_laid m.adts (routine_of f).variables
      (is.routines n (signature_of f) (routine_of f) (get_map signature_of m.functions n f e) (get_map routine_of m.functions n f e)).rooms;
  answered = λ n f e.
      let is : ProgramIs (outline_of m) (program_of m) =
      modules_keep_types.programs Anything m x laid written (modules_keep_types.anything m) in
      let room = (is.routines n (signature_of f) (routine_of f) (get_map signature_of m.functions n f e) (get_map routine_of m.functions n f e)).answer in
      subst (Laid m.adts f.of.answer) (sym (rounds_give_rooms.rooms m.adts f.of.answer room.0 room.1)) room.1;
  goes = λ n f e.
      sound_modules_go_well trees_go_well values_go_well m x laid few written part runs n (signature_of f) (routine_of f)
      (get_map signature_of m.functions n f e) (get_map routine_of m.functions n f e);
}
