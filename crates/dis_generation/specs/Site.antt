-- A site of the code generator, in the words of the definitions.
use Rattle.std.specs.Prelude.{ℕ, ◌≡◌, ◌≤◌, List, [], length, Some, slice_get}
use Rattle.limbo_values.specs.declared.number.Kind.{Kind}
use Rattle.slot_code.specs.Code.{Spot, Operand, Inst, Function, Module}
use Rattle.slot_code.specs.View.{view_function, view_module}
use Rattle.dis_objects.specs.declared.ready.Making.{Making}
use Rattle.dis_objects.specs.Words.{globals_limit, data_limit, SmallFrame, AllSmall}
use Rattle.dis_objects.specs.Frames.{Room, room_of, all_bytes, most_bytes, made_at, spot_count, operand_count, count}
use Rattle.dis_objects.specs.Code.{Context, globals_bytes}
use Rattle.dis_objects.specs.Objects.{entry_size, base_of, context, zeros_place, most_instructions}
use Rattle.dis_objects.specs.Proper.{IsProper, ProperFunction}
use Rattle.dis_objects.specs.Sites.{view_room, made_of, IsCounted, code_size, entries_from, places_from}
use Rattle.dis_generation.specs.declared.site.Site.{Site}

-- The function of this number, with the places where the functions' code begins and where that of its instructions does, its frame and the
-- place of zeros. It is proper, its frame is small, the code of all isn't too long, and nor are the data.
pub record Stands (m : Module) (number : ℕ) (f : Function) (room : Room) (zeros : ℕ) (entries places : List ℕ) : Type 0 where
  pub there : slice_get m.functions number ≡ Some f
  pub proper : ProperFunction m f
  pub small : SmallFrame m.functions f
  pub globals : globals_bytes m.globals ≤ globals_limit
  pub short : code_size m.functions ≤ most_instructions
  pub few : length m.functions ≤ most_instructions
  pub entries_are : entries ≡ entries_from (entry_size m.functions) m.functions
  pub places_are : places ≡ places_from (base_of m.functions number) f.code
  pub room_is : room ≡ room_of m.functions f
  pub zeros_are : zeros ≡ zeros_place m
  pub near : zeros ≤ data_limit

-- A module whose code can be made: it is proper, its frames are small, and neither its code nor its data are too long. So begins the code
-- of each function.
pub record IsReady (m : Module) (zeros : ℕ) (entries : List ℕ) : Type 0 where
  pub proper : IsProper m
  pub small : AllSmall m
  pub short : code_size m.functions ≤ most_instructions
  pub entries_are : entries ≡ entries_from (entry_size m.functions) m.functions
  pub zeros_are : zeros ≡ zeros_place m
  pub near : zeros ≤ data_limit

abbrev pub module_of : Site → Module
module_of s = view_module s.whole.now

abbrev pub functions_of : Site → List Function
functions_of s = (module_of s).functions

abbrev pub function_of : Site → Function
function_of s = view_function s.function.now

abbrev pub context_of : Site → Context
context_of s = context (module_of s) s.number (function_of s)

-- Its function stands there.
abbrev pub IsSite : Site → Type 0
IsSite s = Stands (module_of s) s.number (function_of s) (view_room s.room) s.zeros s.entries.now s.places.now

-- The function has this instruction at this place.
abbrev pub HasInst : Site → (pc : ℕ) → Inst → Type 0
HasInst s pc i = slice_get (function_of s).code pc ≡ Some i

-- These are being made ready in the function, which has room for their arguments.
pub record IsMaking (s : Site) (m : Making) : Type 0 where
  pub counted : IsCounted (functions_of s) m
  pub fits : all_bytes (functions_of s) (made_of m) ≤ most_bytes (functions_of s) [] (function_of s).code

-- The function has these temporaries.
abbrev pub HasSpot : Site → Spot → Type 0
HasSpot s spot = (k : Kind) → spot_count k spot ≤ count k (function_of s).code

abbrev pub HasOperand : Site → Operand → Type 0
HasOperand s x = (k : Kind) → operand_count k x ≤ count k (function_of s).code

-- These are what is being made ready at a place of the function, and their arguments are counted.
pub record IsMakingAt (s : Site) (m : Making) (pc : ℕ) : Type 0 where
  pub counted : IsCounted (functions_of s) m
  pub made : made_of m ≡ made_at (function_of s).code pc
