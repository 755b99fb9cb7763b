-- One process of three-address code: its frames, and one instruction.
use Rattle.std.specs.Prelude.{ℕ, ℤ, suc, pos, ◌+◌, ◌-◌, Bool, true, false, List, [], ◌∷◌, ◌++◌, length, replicate, Option, Some, None, Ok}
use Rattle.std.specs.Prelude.{Err}
use Rattle.std.specs.Prelude.{slice_get, nat_lt, if◌then◌else◌}
use Rattle.std.specs.Ordering.{int_eq}
use Rattle.std.specs.List.{range_with_len}
use Rattle.styx_msg.specs.declared.message.Rmsg.{Rmsg}
use Rattle.process_model.specs.Process.{Effect, Went, Parks, Asks, Ends, Rules}
use Rattle.process_model.specs.Naming.{Naming}
use Rattle.heap_model.specs.Joined.{heap_naming}
use Rattle.limbo_types.specs.Types.{Ty}
use Rattle.limbo_layout.specs.Adts.{Def}
use Rattle.system_model.specs.Ending.{Ending, Ended, Broken}
use Rattle.system_model.specs.Prints.{Request, Writing, Printing, Answers, Requests, NoReply, print, hear}
use Rattle.limbo_meaning.specs.Values.{Part, Value, Num, Chars, Ref, Parts, nothing, parts_of, number_of, part_of, name_of, fitted}
use Rattle.limbo_meaning.specs.Values.{all_fitted}
use Rattle.limbo_meaning.specs.Values.{references_in, one, among, row}
use Rattle.limbo_meaning.specs.Memory.{Cell, inside, Memory, made, next_name}
use Rattle.limbo_meaning.specs.Exceptions.{Raising, dereference_of_nil, stack_overflow}
use Rattle.limbo_meaning.specs.Places.{Place, part_at, value_part, put_part, written}
use Rattle.limbo_meaning.specs.Operations.{copied, elements_of, holds, decides, truth_of}
use Rattle.limbo_meaning.specs.Formats.{formatted}
use Rattle.limbo_meaning.specs.Evaluation.{Progress, Stepped, Raises, performed, element_at}
use Rattle.limbo_meaning.specs.Trees.{Term, Evaluated}
use Rattle.limbo_meaning.specs.Process as meaning
use Rattle.limbo_meaning.specs.Process.{Shared, shared_with, table_names}
use Rattle.core_code.specs.Slots.{Holds, Forms, Turns, Slots, NoRegion, Regions, MoreRegions, empty, slot, put, value_of, chain_of, next_of}
use Rattle.core_code.specs.Slots.{index_of, values_of, operands_of, dropped, region, cleared, placed, chained, slots_name}
use Rattle.core_code.specs.Code as code
use Rattle.core_code.specs.Code.{Instr, Give, Gather, Pick, Known, Write, CopyInto, Call, Print, Skip, Truth, Element, Next, Other, Start}
use Rattle.core_code.specs.Code.{Keep}
use Rattle.core_code.specs.Code.{Take, Drop, Mirror, Unless, Jump, Back, Return, Function, Program}

-- A call of a function: its module instance, its code, where in it it is, its variables and slots, the type of its answer, and where the
-- answer goes that it waits for. That slot names nothing until then.
pub record Frame : Type 0 where
  pub instance : ℕ
  pub code : List Instr
  pub pc : ℕ
  pub variables : List Value
  pub slots : Slots
  pub answer : Ty
  pub into : ℕ

pub record Process : Type 0 where
  pub number : ℕ
  pub frame : Frame
  pub below : List Frame
  pub printing : Option Writing

abbrev pub Does : Type 0
Does = Effect Shared Process Value Request Ending

-- ---- what a process names: its frames' instances, variables and slots

abbrev pub frame_names : Frame → ℕ → ℕ
frame_names f n = one n (Some f.instance) + (among n (references_in f.variables) + slots_name f.slots n)

abbrev pub frames_name : List Frame → ℕ → ℕ
frames_name [] n = 0
frames_name (f ∷ fs) n = frame_names f n + frames_name fs n

abbrev pub process_names : Process → ℕ → ℕ
process_names p n = frame_names p.frame n + frames_name p.below n

-- ---- frames

abbrev pub memory_of : Shared → Frame → Memory
memory_of w f = record { variables = f.variables; instance = f.instance; heap = w.heap }

-- A frame at a place, with these variables and slots.
abbrev pub at : Frame → (pc : ℕ) → List Value → Slots → Frame
at f pc variables slots = record {
  instance = f.instance;
  code = f.code;
  pc = pc;
  variables = variables;
  slots = slots;
  answer = f.answer;
  into = f.into;
}

abbrev pub waiting : Frame → (into : ℕ) → Frame
waiting f into = record {
  instance = f.instance;
  code = f.code;
  pc = suc f.pc;
  variables = f.variables;
  slots = f.slots;
  answer = f.answer;
  into = into;
}

abbrev pub frame_of : List Def → (instance : ℕ) → Function → (answer : Ty) → List Value → Frame
frame_of defs i g t args = record {
  instance = i;
  code = g.code;
  pc = 0;
  variables = all_fitted defs g.variables args;
  slots = replicate g.slots empty;
  answer = t;
  into = 0;
}

abbrev pub with_frames : Process → Frame → List Frame → Process
with_frames p f below = record { number = p.number; frame = f; below = below; printing = None }

abbrev pub stands_still : Shared → Process → Does
stands_still w p = Parks w [] p

-- The next instruction, or one that lies so many further, with these slots.
abbrev pub goes_to : Shared → Process → (pc : ℕ) → Slots → Does
goes_to w p pc slots = Went w (with_frames p (at p.frame pc p.frame.variables slots) p.below)

abbrev pub goes_on : Shared → Process → Slots → Does
goes_on w p slots = goes_to w p (suc p.frame.pc) slots

-- The memory is another.
abbrev pub goes_with : Shared → Process → Memory → Slots → Does
goes_with w p m slots = Went (shared_with w m) (with_frames p (at p.frame (suc p.frame.pc) m.variables slots) p.below)

-- An answer comes into its slot.
abbrev pub answered : Frame → Value → Frame
answered f v = at f f.pc f.variables (put f.slots f.into (Holds v))

abbrev pub returns : List Def → Shared → Process → List Frame → Value → Does
returns defs w p [] v = Ends w Ended
returns defs w p (f ∷ below) v = Went w (with_frames p (answered f (fitted defs p.frame.answer v)) below)

abbrev pub calls : List Def → (limit : ℕ) → Shared → Process → Ty → (into : ℕ) → Option Function → List Value → Does
calls defs limit w p t into None args = stands_still w p
calls defs limit w p t into (Some g) args =
    if nat_lt (suc (length p.below)) limit
    then Went w (with_frames p (frame_of defs p.frame.instance g t args) (waiting p.frame into ∷ p.below))
    else Ends w (Broken stack_overflow)

abbrev pub prints : Shared → Process → Frame → Printing → Does
prints w p f (Answers o v) = Went (meaning.with_outside w o) (with_frames p (answered f (meaning.value_of v)) p.below)
prints w p f (Requests o m k) =
    Asks (meaning.with_outside w o) m (record { number = p.number; frame = f; below = p.below; printing = Some k })
prints w p f NoReply = stands_still w p

-- ---- one instruction

abbrev pub choice : {A : Type 0} → Bool → A → A → A
choice true a b = a
choice false a b = b

abbrev pub noted : Slots → Option ℕ → Bool → Slots
noted slots None b = slots
noted slots (Some d) b = put slots d (Holds (Num (choice b (pos 1) (pos 0))))

-- The first index from here on, of so many, that isn't among these.
abbrev pub is_named : List ℤ → ℕ → Bool
is_named [] n = false
is_named (z ∷ zs) n = if int_eq (pos n) z then true else is_named zs n

abbrev pub first_left : List ℤ → List ℕ → Option ℕ
first_left named [] = None
first_left named (n ∷ ns) = if is_named named n then first_left named ns else Some n

abbrev pub long_of : Option Part → ℕ
long_of None = 0
long_of (Some p) = p.long

-- The operands of a call and of a print, which stay in their slot as a tuple: that of a print begins with a text, which is empty.
abbrev pub operands : Slots → Option ℕ → List Value
operands slots None = []
operands slots (Some s) = operands_of (slot slots s)

abbrev pub together : (front : List Value) → Slots → Option ℕ → Slots
together front slots None = slots
together front slots (Some s) = put slots s (Holds (Parts (row (front ++ operands_of (slot slots s)))))

abbrev pub with_operands : (front : List Value) → Process → Option ℕ → Process
with_operands front p o = record {
  number = p.number;
  frame = at p.frame p.frame.pc p.frame.variables (together front p.frame.slots o);
  below = p.below;
  printing = p.printing;
}

module _ (limit : ℕ) (program : Program) (w : Shared) (p : Process) where
  abbrev pub slots : Slots
  slots = p.frame.slots

  abbrev pub memory : Memory
  memory = memory_of w p.frame

  abbrev pub slot_value : ℕ → Value
  slot_value s = value_of (slot slots s)

  abbrev pub unless_raised : {A : Type 0} → Raising A → (A → Does) → Does
  unless_raised (Ok x) go = go x
  unless_raised (Err text) go = Ends w (Broken text)

  -- What the step of a tree comes to, whose value goes into a slot.
  abbrev pub gives : (into : ℕ) → Progress Value Term → Does
  gives into (Stepped m got (Evaluated v)) = goes_with w p m (put slots into (Holds v))
  gives into (Raises text) = Ends w (Broken text)
  gives into _ = stands_still w p

  -- Of `nil` there are no elements.
  abbrev pub part_or_none : Option Part → (Part → Does) → Does
  part_or_none None go = Ends w (Broken dereference_of_nil)
  part_or_none (Some a) go = go a

  abbrev pub stores : Place → Value → Does
  stores place v = unless_raised (written program.adts memory place v) (λ m. goes_with w p m slots)

  -- A loop goes on to an index, or none is left. What its turns held stays in its chain.
  abbrev pub nexts : (loop passes : ℕ) → Regions → Option ℕ → Does
  nexts loop n rs None = goes_to w p (suc p.frame.pc + n) slots
  nexts loop n rs (Some i) = goes_on w p (put slots loop (Turns (suc i) rs))

  abbrev pub takes : (loop from passes : ℕ) → (next : ℕ) → Regions → Does
  takes loop from n i NoRegion = goes_to w p (suc p.frame.pc + n) (put slots loop empty)
  takes loop from n i (MoreRegions g rs) = goes_on w p (put (placed slots from g) loop (Turns i rs))

  abbrev pub behind_of : Option ℕ → Option ℕ
  behind_of None = None
  behind_of (Some s) = name_of (slot_value s)

  abbrev pub left_decides : (into : ℕ) → (decision : Option ℕ) → (from passes : ℕ) → Bool → Does
  left_decides into d from n true = goes_to w p (suc p.frame.pc + n) (put (noted slots d true) into (Holds (truth_of (slot_value from))))
  left_decides into d from n false = goes_on w p (noted slots d false)

  abbrev pub picked : Ty → ℕ → Value → Value
  picked t n v = fitted program.adts t (value_part n (parts_of v))

  abbrev pub left_whole : Ty → ℕ → Value → Value
  left_whole t n v = Parts (put_part n (fitted program.adts t nothing) (parts_of v))

  abbrev pub does : Instr → Does
  does (Give t o into from) = gives into (performed program.adts memory t o (values_of slots from))
  does (code.Place t v n k into from) =
      goes_on w p (put (put slots from empty) into (Forms (operands_of (slot slots into) ++ slot_value from ∷ [])))
  does (Gather t o into n) = gives into (performed program.adts memory t o (operands_of (slot slots into)))
  does (Pick t n into from) = goes_on w p (put (put slots from (Holds (left_whole t n (slot_value from)))) into
      (Holds (picked t n (slot_value from))))
  does (Known v into) = goes_on w p (put slots into (Holds v))
  does (Write t way ss part from) =
      stores (record { type = t; way = way; operands = values_of slots ss }) (part_at part (slot_value from))
  does (CopyInto a i from) =
      unless_raised (copied memory (part_of (slot_value a)) (number_of (slot_value i)) (elements_of memory (part_of (slot_value from))))
      (λ m. goes_with w p m slots)
  does (code.Cell t into item behind) =
      goes_with w p (made memory (Cell (fitted program.adts t (slot_value item)) (behind_of behind)))
      (put slots into (Holds (Ref (Some (next_name memory)))))
  does (Call t f into o) = calls program.adts limit w (with_operands [] p o) t into (slice_get program.functions f) (operands slots o)
  does (Print ps into o) =
      prints w p (waiting (with_operands (Chars [] ∷ []) p o).frame into) (print w.outside (formatted ps (operands slots o)))
  does (Skip c into d from n) = left_decides into d from n (decides c (slot_value from))
  does (Truth into from) = goes_on w p (put slots into (Holds (truth_of (slot_value from))))
  does (Element t a i from) = part_or_none (part_of (slot_value a)) (λ part. stores (element_at t part i) (slot_value from))
  does (Start loop) = goes_on w p (put slots loop (Turns 0 NoRegion))
  does (Next a loop named n) =
      let l = slot slots loop in
      nexts loop n (chain_of l) (first_left named (range_with_len (next_of l) (long_of (part_of (slot_value a)) - next_of l)))
  does (Other t a loop from) =
      part_or_none (part_of (slot_value a)) (λ part. stores (element_at t part (index_of (slot slots loop))) (slot_value from))
  does (Keep loop from words) =
      let l = slot slots loop in
      goes_on w p (put (cleared slots from words) loop (Turns (next_of l) (chained (chain_of l) (region slots from words))))
  does (Take loop from words n) = let l = slot slots loop in takes loop from n (next_of l) (chain_of l)
  does (Drop s k) = goes_on w p (put slots s (dropped k (slot slots s)))
  does (Mirror d n) = goes_to w p (suc p.frame.pc + choice (holds (slot_value d)) n 0) slots
  does (Unless s n) = goes_to w p (suc p.frame.pc + choice (holds (slot_value s)) 0 n) slots
  does (Jump n) = goes_to w p (suc p.frame.pc + n) slots
  does (Back n) = goes_to w p (p.frame.pc - n) slots
  does (Return None) = returns program.adts w p p.below nothing
  does (Return (Some s)) = returns program.adts w p p.below (slot_value s)

  abbrev pub next : Option Instr → Does
  next None = stands_still w p
  next (Some i) = does i

  abbrev pub step : Does
  step = next (slice_get p.frame.code p.frame.pc)

-- ---- replies, and the rules

abbrev pub hears : Shared → Process → Printing → Does
hears w p (Answers o v) = Went (meaning.with_outside w o) (with_frames p (answered p.frame (meaning.value_of v)) p.below)
hears w p (Requests o m k) =
    Asks (meaning.with_outside w o) m (record { number = p.number; frame = p.frame; below = p.below; printing = Some k })
hears w p NoReply = stands_still w p

abbrev pub heard : Rmsg → Shared → Process → Option Writing → Does
heard a w p None = stands_still w p
heard a w p (Some k) = hears w p (hear a w.outside k)

abbrev pub rules : (limit : ℕ) → Program → Rules Shared Process Value Request Rmsg Ending
rules limit program = record {
  step = step limit program;
  wake = λ k v w p. record { world = w; process = p };
  answer = λ a w p. heard a w p p.printing;
  down = λ l w. None;
}

abbrev pub naming : Naming Shared Process Value
naming = heap_naming inside process_names table_names
