-- When a process of Dis code stands for one of three-address code: each frame is at the place of the other's instruction, or some
-- instructions further, and the numbers of variables, temporaries and arguments stand at their places.
use Rattle.std.specs.Prelude.{ℕ, suc, ℤ, pos, ◌+◌, ◌-◌, ◌*◌, ◌<◌, ◌≤◌, ◌≡◌, Bool, true, false, Option, Some, None}
use Rattle.std.specs.Prelude.{List, [], ◌∷◌, ◌++◌, length, replicate, slice_get, slice_index_or, Ok}
use Rattle.styx_msg.specs.declared.message.Rmsg.{Rmsg}
use Rattle.process_model.specs.Follows.{Sides}
use Rattle.process_model.specs.Plain.{GrowingSides, opened}
use Rattle.limbo_values.specs.declared.number.Kind.{Kind}
use Rattle.limbo_values.specs.declared.number.Kind.TheVariants.{Byte, Int, Big}
use Rattle.limbo_values.specs.Numbers.{wrapped}
use Rattle.limbo_typed.specs.declared.operation.Operation.TheVariants as operation
use Rattle.limbo_typed.specs.declared.print.Piece.{Piece}
use Rattle.system_model.specs.Values.{Value, Num, zero_value}
use Rattle.system_model.specs.Prints.{Request, Writing}
use Rattle.system_model.specs.Ending.{Ending}
use Rattle.system_model.specs.Limits.{frames_limit}
use Rattle.typed_meaning.specs.Values.{number_of, result_of}
use Rattle.typed_meaning.specs.World as source
use Rattle.typed_meaning.specs.World.{instance_of, global_of}
use Rattle.slot_code.specs.Code as code
use Rattle.slot_code.specs.Code.{Spot, Temporary, Operand, Inst, Operate, Alter, Call, Print, Function, GlobalVariable, Module}
use Rattle.slot_code.specs.Layout.{number_size, end_of}
use Rattle.slot_code.specs.Machine as machine
use Rattle.slot_code.specs.Machine.{Made, taken, value_of}
use Rattle.slot_code.specs.Rules as slot_rules
use Rattle.dis_isa.specs.declared.inst.Operand as isa
use Rattle.dis_isa.specs.declared.inst.Operand.TheVariants as operand
use Rattle.dis_meaning.specs.Words.{Place, InBlock, InFrame, Word, Plain, Refer, Address, Found, word_at}
use Rattle.dis_meaning.specs.Numbers.{number_at}
use Rattle.dis_meaning.specs.World as memory
use Rattle.dis_meaning.specs.World.{Content, Instance, Sys, World}
use Rattle.dis_meaning.specs.Process.{Frame, Process, at_pc, with_frames}
use Rattle.dis_meaning.specs.Step.{names}
use Rattle.dis_isa.specs.declared.inst.Inst as code_inst
use Rattle.dis_isa.specs.declared.inst.Middle.TheVariants as middle
use Rattle.dis_isa.specs.declared.op.Op.TheVariants as op
use Rattle.dis_meaning.specs.Rules as dis_rules
use Rattle.dis_follows.specs.Paces as paces
use Rattle.dis_objects.specs.Frames.{Callee, Calls, Prints, Room, room_of, count, whole, linkage_bytes, variable_place, temporary_place}
use Rattle.dis_objects.specs.Frames.{block_place, first_place, argument_place, parameters_of, printed_kinds, made_at}
use Rattle.dis_objects.specs.Frames.{reference_words, passing_place}
use Rattle.dis_objects.specs.Code as dis
use Rattle.dis_objects.specs.Code.{Datum, Text, Long, Context, datum_bytes, global_place, place, place_of, spot_kind, format_text, jump_to}
use Rattle.dis_objects.specs.Objects.{entry_size, context, data_place, zeros_place, zeros_bytes, functions_data, sys_imports, init_of}
use Rattle.dis_objects.specs.Objects.{object_of}
use Rattle.dis_objects.specs.Objects.{most_of_all}
use Rattle.dis_objects.specs.Proper.{IsWritten}
use Rattle.dis_follows.specs.Numbers.{Holds, IsPlain}
use Rattle.dis_follows.specs.Start.{opening, opening_words}

-- What is known of the machine: whether Sys is loaded, and how many frames were made.
pub record Known : Type 0 where
  pub loaded : Bool
  pub frames : ℕ

-- Of a machine that went on as much is known, or more.
pub record Grows (a b : Known) : Type 0 where
  pub stays : a.loaded ≡ true → b.loaded ≡ true
  pub rises : a.frames ≤ b.frames

-- The address of a frame that is made.
abbrev pub made_at_address : Frame → Word
made_at_address n = Address (InFrame n.serial) (pos 0)

-- A frame that is made: its serial is one that was given after the running frame's.
pub record IsMade (k : Known) (r : Process) (n : Frame) : Type 0 where
  pub later : r.frame.serial < n.serial
  pub given : n.serial < k.frames
  pub instance : n.instance ≡ 0

-- The last instruction of a function.
abbrev pub return_inst : code_inst.Inst
return_inst = dis.inst op.Ret operand.None middle.None operand.None

-- Words that don't refer but at these places are plain.
abbrev pub ArePlain : List Bool → List Word → Type 0
ArePlain marks words =
    (j : ℕ) (w : Word) → slice_get words j ≡ Some w → (slice_get marks j ≡ Some true → ⊥) → IsPlain w

module _ (m : Module) where
  abbrev pub context_of : machine.Frame → Function → Context
  context_of g f = context m g.function f

  -- ---- the numbers of a frame

  -- A number that a callee's arguments have room for: its kind, and where it stands in the callee's frame. Variables behind the
  -- parameters, in the last word of these, have it too.
  abbrev pub HasRoom : Callee → (number : ℕ) → Kind → (at : ℕ) → Type 0
  HasRoom (Calls n) j k at =
      (f : Function) × (slice_get m.functions n ≡ Some f) × (slice_get f.variables j ≡ Some (Some k)) × (at ≡ variable_place f j)
      × (at + number_size k ≤ whole (end_of linkage_bytes (parameters_of (Some f))))
  HasRoom (Prints ps) j k at =
      (slice_get (printed_kinds ps) j ≡ Some k) × (at ≡ argument_place m.functions (Prints ps) j)

  -- Only so many arguments are given, and a print has its format.
  abbrev pub IsGiven : Callee → Made → Type 0
  IsGiven (Calls n) made =
      (f : Function) → slice_get m.functions n ≡ Some f → (j : ℕ) → f.parameters ≤ j → made.arguments j ≡ zero_value
  IsGiven (Prints ps) made = made.format ≡ ps

  -- The arguments of a callee that is being made ready, at a place among the words.
  pub record IsReady (words : List Word) (block : ℕ) (c : Callee) (made : Made) : Type 0 where
    pub each : (j : ℕ) (k : Kind) (at : ℕ) → HasRoom c j k at → Holds k words (block + (at - first_place c)) (made.arguments j)
    pub given : IsGiven c made

  abbrev pub AllReady : List Word → Room → List Callee → List Made → Type 0
  AllReady words r [] [] = Unit {0}
  AllReady words r (c ∷ cs) (made ∷ mades) = IsReady words (block_place m.functions r cs) c made × AllReady words r cs mades
  AllReady words r [] (made ∷ mades) = ⊥
  AllReady words r (c ∷ cs) [] = ⊥

  -- The words of a frame of a function, where these are being made ready.
  pub record HasNumbers (f : Function) (cs : List Callee) (g : machine.Frame) (words : List Word) : Type 0 where
    pub long : 4 * length words ≡ (room_of m.functions f).size
    pub plain : ArePlain (reference_words f.variables) words
    pub many : length g.variables ≡ length f.variables
    pub variables : (x : ℕ) (k : Kind) → slice_get f.variables x ≡ Some (Some k)
        → Holds k words (variable_place f x) (number_of k (slice_index_or g.variables x zero_value))
    pub temporaries : (k : Kind) (n : ℕ) → n < count k f.code
        → Holds k words (temporary_place (room_of m.functions f) k n) (g.temporaries k n)
    pub made : AllReady words (room_of m.functions f) cs g.made

  -- ---- frames

  -- A frame is so many instructions behind the begin of an instruction's code.
  pub record FrameStands (g : machine.Frame) (r : Frame) (offset : ℕ) : Type 0 where
    pub function : Function
    pub found : slice_get m.functions g.function ≡ Some function
    pub inst : Inst
    pub there : slice_get function.code g.pc ≡ Some inst
    pub here : r.pc ≡ offset + place (context_of g function) g.pc
    pub instance : r.instance ≡ 0
    pub first : g.instance ≡ 0
    pub has : HasNumbers function (made_at function.code g.pc) g r.words

  -- The address of a place of a frame.
  abbrev pub address_at : (serial : ℕ) → isa.Operand → Word
  address_at s (operand.Fp at) = Address (InFrame s) at
  address_at s (operand.Mp at) = Address (InBlock 0) at
  address_at s _ = Plain (pos 0)

  abbrev pub address_of : machine.Frame → Function → (serial : ℕ) → Spot → Word
  address_of g f s spot = address_at s (place_of (context_of g f) (made_at f.code g.pc) spot)

  -- A frame that waits for an answer.
  pub record FrameWaits (g : machine.Frame) (r : Frame) : Type 0 where
    pub stands : FrameStands g r 0
    pub into : IsWritten m stands.function (made_at stands.function.code g.pc) g.into
    pub kind : spot_kind g.into ≡ g.answer
    pub few : (j : Kind) (n : ℕ) → g.into ≡ Temporary j n → n < count j stands.function.code

  -- The frames below one, of this function: its answer goes to the place for which the next waits; that of the last to words of its own
  -- linkage. Serials fall from each to the next.
  abbrev pub StackStands : Function → Frame → List machine.Frame → List Frame → Type 0
  StackStands f r [] [] = slice_get r.words 4 ≡ Some (Address (InFrame r.serial) (pos passing_place))
  StackStands f r (g ∷ gs) (r' ∷ rs) =
      (w : FrameWaits g r') × (slice_get r.words 4 ≡ Some (address_of g w.stands.function r'.serial g.into)) × (f.answer ≡ g.answer)
      × (r'.serial < r.serial) × StackStands w.stands.function r' gs rs
  StackStands f r [] (r' ∷ rs) = ⊥
  StackStands f r (g ∷ gs) [] = ⊥

  -- A process whose frame is so many instructions behind, with these frames made.
  pub record Running (k : Known) (p : machine.Process) (r : Process) (offset : ℕ) (made : List Frame) : Type 0 where
    pub loaded : k.loaded ≡ true
    pub number : p.number ≡ r.number
    pub frame : FrameStands p.frame r.frame offset
    pub stack : StackStands frame.function r.frame p.below r.below
    pub frames : r.made ≡ made
    pub fresh : r.frame.serial < k.frames

  -- ---- within the code of an instruction

  -- What is decided, of operands that are the function's own, whatever the world then is.
  abbrev pub Decides : Inst → machine.Frame → Value → Type 0
  Decides (Operate (operation.Compare c k) into x y) g v =
      (w : source.World) → result_of (operation.Compare c k) (value_of w g x ∷ value_of w g y ∷ []) ≡ Ok v
  Decides (Alter operation.Not into x) g v = (w : source.World) → result_of operation.Not (value_of w g x ∷ []) ≡ Ok v
  Decides i g v = ⊥

  -- The int by way of which a byte becomes a big, or a big a byte.
  abbrev pub Passes : Inst → machine.Frame → ℤ → Type 0
  Passes (Alter (operation.Convert Byte Big) into x) g z =
      (w : source.World) → (a : ℤ) × (value_of w g x ≡ Num a) × (z ≡ wrapped Int a)
  Passes (Alter (operation.Convert Big Byte) into x) g z =
      (w : source.World) → (a : ℤ) × (value_of w g x ≡ Num a) × (z ≡ wrapped Int a)
  Passes i g z = ⊥

  -- An instruction that ends its function.
  abbrev pub IsReturn : Inst → Type 0
  IsReturn (code.Return x) = Unit {0}
  IsReturn code.Leave = Unit {0}
  IsReturn i = ⊥

  -- A frame that is made, whose address stands in the running frame.
  pub record Making (k : Known) (p : machine.Process) (r : Process) (offset : ℕ) (n : Frame) : Type 0 where
    pub running : Running k p r offset (n ∷ [])
    pub made : IsMade k r n
    pub address : word_at r.frame.words (pos (room_of m.functions running.frame.function).made) ≡ Found (made_at_address n)

  -- For a call: of which function, and what is being made ready, the arguments first.
  pub record Calling (k : Known) (p : machine.Process) (r : Process) (offset : ℕ) (n : Frame) : Type 0 where
    pub making : Making k p r offset n
    pub kind : Kind
    pub number : ℕ
    pub arguments : ℕ
    pub into : Spot
    pub is : making.running.frame.inst ≡ Call kind number arguments into
    pub callee : Function
    pub found : slice_get m.functions number ≡ Some callee
    pub ready : Made
    pub others : List Made
    pub first : p.frame.made ≡ ready ∷ others

  -- It has these numbers.
  abbrev pub HasArguments : Function → (number : ℕ) → List Value → Frame → Type 0
  HasArguments callee number values n = HasNumbers callee [] (machine.entered number 0 callee values) n.words

  -- The place for the answer of what an instruction calls.
  abbrev pub AnswersTo : machine.Process → Process → Function → Spot → Frame → Type 0
  AnswersTo p r f into n =
      slice_get n.words 4 ≡ Some (address_of (machine.moved p.frame (suc p.frame.pc)) f r.frame.serial into)

  -- For a print: its format, and how many arguments it has.
  pub record Printing (k : Known) (p : machine.Process) (r : Process) (offset : ℕ) (n : Frame) : Type 0 where
    pub making : Making k p r offset n
    pub arguments : ℕ
    pub into : Spot
    pub is : making.running.frame.inst ≡ Print arguments into
    pub pieces : List Piece
    pub cs : List Callee
    pub callee : made_at making.running.frame.function.code p.frame.pc ≡ Prints pieces ∷ cs
    pub ready : Made
    pub others : List Made
    pub first : p.frame.made ≡ ready ∷ others
    pub long : 4 * length n.words ≡ most_of_all m.functions
    pub plain : ArePlain (replicate 8 false ++ true ∷ []) n.words

  -- It has the text of the format.
  abbrev pub HasFormat : List Piece → Frame → Type 0
  HasFormat ps n =
      (serial : ℕ) × (slice_get n.words 8 ≡ Some (Refer (Some serial)))
      × (slice_get (opening m).blocks serial ≡ Some (memory.Text (format_text ps)))

  -- It has the numbers for the format's holes.
  abbrev pub HasPrinted : List Piece → Made → Frame → Type 0
  HasPrinted ps made n =
      (j : ℕ) (k : Kind) → slice_get (printed_kinds ps) j ≡ Some k
      → Holds k n.words (argument_place m.functions (Prints ps) j) (made.arguments j)

  -- The first process, in the entry of the code: its frame is at this instruction.
  pub record Entering (k : Known) (p : machine.Process) (r : Process) (pc : ℕ) : Type 0 where
    pub init : ℕ
    pub is_init : init_of m ≡ Some init
    pub function : Function
    pub found : slice_get m.functions init ≡ Some function
    pub number : p.number ≡ r.number
    pub frame : p.frame ≡ machine.entered init 0 function []
    pub alone : p.below ≡ []
    pub alone_too : r.below ≡ []
    pub here : r.frame.pc ≡ pc
    pub instance : r.frame.instance ≡ 0
    pub has : HasNumbers function [] p.frame r.frame.words
    pub frames : r.made ≡ []
    pub fresh : r.frame.serial < k.frames

  -- The process at another place of its code, and with the frame below in front.
  abbrev pub at_place : Process → (pc : ℕ) → Process
  at_place r pc = with_frames r (at_pc r.frame pc) r.below r.made

  -- It is in the code of a function, at an instruction that goes to where the other is on already.
  pub record GoesElsewhere (r : Process) : Type 0 where
    pub behind : entry_size m.functions ≤ r.frame.pc
    pub place : paces.place m r ≡ 0

  -- A process that is ready. Most instructions are one, or the last of some; the others stand for no instruction of the other code.
  pub data Ready (k : Known) (p : machine.Process) (r : Process) : Type 0 where
    -- in the entry: before Sys is loaded, and behind that
    enters : Entering k p r 0 → Ready k p r
    loads : k.loaded ≡ true → Entering k p r 1 → Ready k p r
    leaves : k.loaded ≡ true → Entering k p r 2
        → slice_get r.frame.words 4 ≡ Some (Address (InFrame r.frame.serial) (pos passing_place)) → Ready k p r
    -- at the begin of an instruction
    begins : Running k p r 0 [] → Ready k p r
    -- behind a comparison that failed, and behind one that held
    denies : (h : Running k p r 1 []) → Decides h.frame.inst p.frame (Num (pos 0)) → Ready k p r
    affirms : (h : Running k p r 3 []) → Decides h.frame.inst p.frame (Num (pos 1)) → Ready k p r
    -- between two conversions
    passes : (h : Running k p r 1 []) (z : ℤ) → Passes h.frame.inst p.frame z
        → number_at Int r.frame.words (pos passing_place) ≡ Found z → Ready k p r
    -- in front of a jump to where the other is already
    jumps_on : (pc : ℕ) → slice_get (object_of m).insts r.frame.pc ≡ Some (jump_to pc) → GoesElsewhere r → Running k p (at_place r pc) 0 []
        → Ready k p r
    -- in a call: the frame is made; it has the arguments; it has the place for the answer
    framed : (n : Frame) → (h : Calling k p r 1 n) → HasArguments h.callee h.number [] n → Ready k p r
    passed : (n : Frame) → (h : Calling k p r 2 n) → HasArguments h.callee h.number (taken h.ready.arguments 0 h.arguments) n → Ready k p r
    addressed : (n : Frame) → (h : Calling k p r 3 n) → HasArguments h.callee h.number (taken h.ready.arguments 0 h.arguments) n
        → AnswersTo p r h.making.running.frame.function h.into n → Ready k p r
    -- in a print: the frame is made; it has the format; the arguments; and the place for the answer
    prints : (n : Frame) → Printing k p r 1 n → slice_get n.words 8 ≡ Some (Refer None) → Ready k p r
    formatted : (n : Frame) → (h : Printing k p r 2 n) → HasFormat h.pieces n → Ready k p r
    printed : (n : Frame) → (h : Printing k p r 3 n) → HasFormat h.pieces n → HasPrinted h.pieces h.ready n → Ready k p r
    answering : (n : Frame) → (h : Printing k p r 4 n) → HasFormat h.pieces n → HasPrinted h.pieces h.ready n
        → AnswersTo p r h.making.running.frame.function h.into n → Ready k p r
    -- in a return: the frame below has the answer, and the other is back in it; and there is none below
    goes_back : (f : Frame) (fs : List Frame) → r.below ≡ f ∷ fs → slice_get (object_of m).insts r.frame.pc ≡ Some return_inst
        → GoesElsewhere r → r.frame.instance ≡ 0 → Running k p (with_frames r f fs r.made) 0 [] → Ready k p r
    ends : (h : Running k p r 1 []) → IsReturn h.frame.inst → p.below ≡ [] → Ready k p r

  -- A process that waits for a reply to its print.
  pub record Asking (k : Known) (p : machine.Process) (r : Process) : Type 0 where
    pub loaded : k.loaded ≡ true
    pub number : p.number ≡ r.number
    pub waits : FrameWaits p.frame r.frame
    pub int : p.frame.answer ≡ Int
    pub stack : StackStands waits.stands.function r.frame p.below r.below
    pub frames : r.made ≡ []
    pub fresh : r.frame.serial < k.frames
    pub writing : Writing
    pub place : Place
    pub at : ℤ
    pub answers : address_of p.frame waits.stands.function r.frame.serial p.frame.into ≡ Address place at
    pub printing : p.printing ≡ Some writing
    pub printing_too : r.printing ≡ Some (record { writing = writing; place = place; at = at })

  -- ---- the module's data

  -- A datum at a place of the data: a text is a block of the opening.
  abbrev pub HasDatum : List Word → (at : ℕ) → Datum → Type 0
  HasDatum words at (Text t) =
      (serial : ℕ) × (word_at words (pos at) ≡ Found (Refer (Some serial))) × (slice_get (opening m).blocks serial ≡ Some (memory.Text t))
  HasDatum words at (dis.Word z) = number_at Int words (pos at) ≡ Found z
  HasDatum words at (Long z) = number_at Big words (pos at) ≡ Found z

  abbrev pub HasData : List Word → (at : ℕ) → List Datum → Type 0
  HasData words at [] = Unit {0}
  HasData words at (d ∷ ds) = HasDatum words at d × HasData words (at + datum_bytes d) ds

  -- The words of the module's data: its variables have the values that they have in the program's instance, and the other numbers, texts
  -- and zeros are as they were at the opening. Sys is there once it is loaded.
  pub record HasGlobals (k : Known) (w : source.World) (blocks : List Content) (words : List Word) : Type 0 where
    pub path : slice_get words 0 ≡ Some (Refer (Some 1))
    pub sys : Option ℕ
    pub module_word : slice_get words 1 ≡ Some (Refer sys)
    pub loaded : k.loaded ≡ true → (n : ℕ) × (sys ≡ Some n) × (slice_get blocks n ≡ Some (Sys (names sys_imports)))
    pub many : length (instance_of w 0) ≡ length m.globals
    pub variables : (x : ℕ) (j : Kind) (g : GlobalVariable) → slice_get m.globals x ≡ Some g → g.kind ≡ Some j
        → Holds j words (global_place m.globals j x) (number_of j (global_of w 0 x))
    pub constants : HasData words (data_place m) (functions_data m.functions m.functions)
    pub zeros : (j : ℕ) → zeros_place m ≤ 4 * j → 4 * j < zeros_place m + zeros_bytes m.functions m.functions
        → slice_get words j ≡ Some (Plain (pos 0))

  -- More blocks may have come behind those of the opening.
  pub record WorldStands (k : Known) (w : source.World) (x : World) : Type 0 where
    pub outside : x.outside ≡ w.outside
    pub frames : x.frames ≡ k.frames
    pub some : 0 < length w.instances
    pub words : List Word
    pub texts : List Content
    pub more : List Content
    pub blocks : x.blocks ≡ Instance 0 words ∷ (texts ++ more)
    pub opened : (opening m).blocks ≡ Instance 0 (opening_words m) ∷ texts
    pub has : HasGlobals k w x.blocks words

  -- Three-address code and its object. No process waits for another yet.
  abbrev pub code_and_object : GrowingSides Known source.World World machine.Process Process Value Request Rmsg Ending
  code_and_object = record {
    grows = Grows;
    program = slot_rules.rules frames_limit m.functions;
    code = dis_rules.rules frames_limit (object_of m ∷ []);
    ready = Ready;
    asking = Asking;
    waiting = λ k bs p q. ⊥;
    worlds = WorldStands;
  }

  abbrev pub sides : Sides Known source.World World machine.Process Process Value Value Request Rmsg Ending
  sides = opened code_and_object
