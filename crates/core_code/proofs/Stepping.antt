-- No step and no reply leaves the code of a program.
use Rattle.std.proofs.Common.{◌≡◌, ℕ, zero, suc, ◌+◌, ◌-◌, ◌<◌, Bool, true, false, List, [], ◌∷◌, length, map}
use Rattle.std.proofs.Common.{Option, Some, None, Ok, Err, refl, sym, subst, ◌∙◌, arith}
use Rattle.std.proofs.lemmas.List.{length-set, length-replicate}
use Rattle.std.specs.Prelude.{slice_get, slice_index_or, All, nat_lt, if◌then◌else◌}
use Rattle.std.specs.List.{range_with_len}
use Rattle.styx_msg.specs.declared.message.Rmsg.{Rmsg}
use Rattle.system_model.specs.Prints.{Printing, Answers, Requests, NoReply, print, hear, Writing}
use Rattle.limbo_types.specs.Types.{Ty}
use Rattle.limbo_layout.specs.Adts.{Def}
use Rattle.limbo_meaning.specs.Values.{Part, Value, Chars, part_of, number_of}
use Rattle.limbo_meaning.specs.Exceptions.{Raising}
use Rattle.limbo_meaning.specs.Places.{Place, part_at, written}
use Rattle.limbo_meaning.specs.Operations.{copied, elements_of, decides, holds}
use Rattle.limbo_meaning.specs.Formats.{formatted}
use Rattle.limbo_meaning.specs.Evaluation.{Progress, Stepped, Raises, performed, element_at}
use Rattle.limbo_meaning.specs.Trees.{Term, Evaluated}
use Rattle.limbo_meaning.specs.Process.{Shared}
use Rattle.limbo_meaning.specs.Program as source
use Rattle.core_code.specs.Slots.{Slots, Region, NoSlot, MoreSlots, Regions, NoRegion, MoreRegions, slot, chain_of, put, cleared}
use Rattle.core_code.specs.Slots.{next_of, index_of, placed, values_of, operands_of}
use Rattle.core_code.specs.Code as code
use Rattle.core_code.specs.Code.{Instr, Give, Gather, Pick, Known, Write, CopyInto, Call, Print, Skip, Truth, Element, Next, Other}
use Rattle.core_code.specs.Code.{Start, Keep, Take, Drop, Mirror, Unless, Jump, Back, Return, Function, Program}
use Rattle.core_code.specs.Machine as machine
use Rattle.core_code.specs.Machine.{Frame, Process, Does, at, waiting, frame_of, with_frames, answered, returns, calls, prints, hears}
use Rattle.core_code.specs.Machine.{operands, together}
use Rattle.core_code.specs.Machine.{with_operands}
use Rattle.core_code.specs.Machine.{heard}
use Rattle.core_code.specs.Machine.{choice, noted, slot_value, memory, unless_raised, part_or_none, does, first_left, long_of}
use Rattle.core_code.specs.Machine.{step}
use Rattle.core_code.specs.Statements.{function_of, code_of}
use Rattle.core_code.specs.Control.{IsClosed, leads_to}
use Rattle.core_code.specs.Using.{Uses}
use Rattle.core_code.specs.Standing.{StandsAt, AllStand, Stands, LeavesStanding, CodeIsNotLeft}
use Rattle.core_code.proofs.Closed.{functions_are_closed}
use Rattle.core_code.proofs.Used.{slots_are_there}

-- ---- what holds of each function of a program

record IsSound (f : Function) : Type 0 where
  closed : IsClosed f.code
  slots : 0 < f.slots
  uses : (pc : ℕ) (i : Instr) → slice_get f.code pc ≡ Some i → Uses f.slots i

function_sound : (defs : List Def) (r : source.Routine) → IsSound (function_of defs r)
function_sound defs r = record { closed = functions_are_closed defs r; slots = omega arith; uses = slots_are_there defs r }

all_sound : (defs : List Def) (rs : List source.Routine) (n : ℕ) (f : Function) → slice_get (map (function_of defs) rs) n ≡ Some f
    → IsSound f
all_sound defs [] n f e = absurd cc
all_sound defs (r ∷ rs) zero f e = let g : function_of defs r ≡ f = cc in subst IsSound g (function_sound defs r)
all_sound defs (r ∷ rs) (suc n) f e = all_sound defs rs n f e

-- ---- slots stay as many

long_put : (slots : Slots) (s : ℕ) (v : _) → length (put slots s v) ≡ length slots
long_put slots s v = length-set slots s v

long_together : (front : List Value) (slots : Slots) (o : Option ℕ) → length (together front slots o) ≡ length slots
long_together front slots None = refl
long_together front slots (Some s) = long_put slots s _

long_cleared : (slots : Slots) (from words : ℕ) → length (cleared slots from words) ≡ length slots
long_cleared slots from zero = refl
long_cleared slots from (suc n) = long_put (cleared slots (suc from) n) from _ ∙ long_cleared slots (suc from) n

long_placed : (slots : Slots) (from : ℕ) (g : Region) → length (placed slots from g) ≡ length slots
long_placed slots from NoSlot = refl
long_placed slots from (MoreSlots s g) = long_put (placed slots (suc from) g) from s ∙ long_placed slots (suc from) g

long_noted : (slots : Slots) (d : Option ℕ) (b : Bool) → length (noted slots d b) ≡ length slots
long_noted slots None b = refl
long_noted slots (Some d) b = long_put slots d _

module _ (program : Program) (sound : (n : ℕ) (f : Function) → slice_get program.functions n ≡ Some f → IsSound f) where
  function_in : (f : Frame) (s : StandsAt program f) → IsSound s.function
  function_in f s = sound s.number s.function s.there

  inside : (f : Frame) (s : StandsAt program f) (i : Instr) → slice_get f.code f.pc ≡ Some i
      → All (λ to. to < length f.code) (leads_to f.pc i)
  inside f s i e =
      let h : IsClosed f.code = subst IsClosed (sym s.code) (function_in f s).closed in h.inside f.pc i e

  uses : (f : Frame) (s : StandsAt program f) (i : Instr) → slice_get f.code f.pc ≡ Some i → Uses s.function.slots i
  uses f s i e = (function_in f s).uses f.pc i (subst (λ (c : List Instr). slice_get c f.pc ≡ Some i) s.code e)

  abbrev moved : (f : Frame) → StandsAt program f → (pc : ℕ) (variables : List Value) (slots : Slots) → pc < length f.code
      → length slots ≡ length f.slots → StandsAt program (at f pc variables slots)
  moved f s pc variables slots l e = record {
    number = s.number;
    function = s.function;
    there = s.there;
    code = s.code;
    at = l;
    slots = e ∙ s.slots;
    answer = s.answer;
  }

  waits : (f : Frame) (s : StandsAt program f) (into : ℕ) → suc f.pc < length f.code → into < s.function.slots
      → StandsAt program (waiting f into)
  waits f s into l k = record {
    number = s.number;
    function = s.function;
    there = s.there;
    code = s.code;
    at = l;
    slots = s.slots;
    answer = k;
  }

  has_answer : (f : Frame) (v : Value) → StandsAt program f → StandsAt program (answered f v)
  has_answer f v s = moved f s f.pc f.variables _ s.at (long_put f.slots f.into _)

  begun : (defs : List Def) (n instance : ℕ) (g : Function) (t : Ty) (args : List Value) → slice_get program.functions n ≡ Some g
      → StandsAt program (frame_of defs instance g t args)
  begun defs n instance g t args e = record {
    number = n;
    function = g;
    there = e;
    code = refl;
    at = (sound n g e).closed.begins;
    slots = length-replicate g.slots _;
    answer = (sound n g e).slots;
  }

  -- with the operands of a call and of a print as one value
  abbrev stands_with : (front : List Value) (q : Process) → Stands program q → (o : Option ℕ) → Stands program (with_operands front q o)
  stands_with front q s o = record {
    frame = moved q.frame s.frame q.frame.pc q.frame.variables (together front q.frame.slots o) s.frame.at (long_together front q.frame.slots o);
    below = s.below;
  }

  either : (b : Bool) (x y : Does) → LeavesStanding program x → LeavesStanding program y → LeavesStanding program (if b then x else y)
  either true x y l k = l
  either false x y l k = k

  called : (limit : ℕ) (w : Shared) (q : Process) (s : Stands program q) (t : Ty) (into f : ℕ) (o : Option Function) (args : List Value)
      → slice_get program.functions f ≡ o → suc q.frame.pc < length q.frame.code → into < s.frame.function.slots
      → LeavesStanding program (calls program.adts limit w q t into o args)
  called limit w q s t into f None args e l k = s
  called limit w q s t into f (Some g) args e l k =
      either (nat_lt (suc (length q.below)) limit) _ _ (record {
        frame = begun program.adts f q.frame.instance g t args e;
        below = (waits q.frame s.frame into l k, s.below);
      }) tt

  printed : (w : Shared) (q : Process) → Stands program q → (f : Frame) (o : Printing) → StandsAt program f
      → LeavesStanding program (prints w q f o)
  printed w q s f (Answers o v) k = record { frame = has_answer f _ k; below = s.below }
  printed w q s f (Requests o m n) k = record { frame = k; below = s.below }
  printed w q s f NoReply k = s

  module _ (limit : ℕ) (w : Shared) (q : Process) (s : Stands program q) where
    abbrev Leaves : Does → Type 0
    Leaves d = LeavesStanding program d

    -- on at this place, with so many slots
    goes : (pc : ℕ) (variables : List Value) (slots : Slots) → pc < length q.frame.code
        → length slots ≡ length q.frame.slots → Stands program (with_frames q (at q.frame pc variables slots) q.below)
    goes pc variables slots l e = record { frame = moved q.frame s.frame pc variables slots l e; below = s.below }

    raised : {A : Type 0} (r : Raising A) (go : A → Does) → ((x : A) → Leaves (go x)) → Leaves (unless_raised limit program w q r go)
    raised (Ok x) go k = k x
    raised (Err text) go k = tt

    parted : (p : Option Part) (go : Part → Does) → ((x : Part) → Leaves (go x)) → Leaves (part_or_none limit program w q p go)
    parted None go k = tt
    parted (Some x) go k = k x

    given : (into : ℕ) (pr : Progress Value Term) → suc q.frame.pc < length q.frame.code
        → Leaves (machine.gives limit program w q into pr)
    given into (Stepped m got (Evaluated v)) l = goes _ _ _ l (long_put q.frame.slots into _)
    given into (Raises text) l = tt
    given into _ l = s

    stored : (place : Place) (v : Value) → suc q.frame.pc < length q.frame.code → Leaves (machine.stores limit program w q place v)
    stored place v l = raised (written program.adts (memory limit program w q) place v) _ (λ m. goes _ _ _ l refl)

    nexts : (loop passes : ℕ) (rs : Regions) (o : Option ℕ) → suc q.frame.pc < length q.frame.code
        → suc q.frame.pc + passes < length q.frame.code → Leaves (machine.nexts limit program w q loop passes rs o)
    nexts loop n rs None l k = goes _ _ _ k refl
    nexts loop n rs (Some i) l k = goes _ _ _ l (long_put q.frame.slots loop _)

    takes : (loop from passes next : ℕ) (rs : Regions) → suc q.frame.pc < length q.frame.code
        → suc q.frame.pc + passes < length q.frame.code → Leaves (machine.takes limit program w q loop from passes next rs)
    takes loop from n i NoRegion l k = goes _ _ _ k (long_put q.frame.slots loop _)
    takes loop from n i (MoreRegions g rs) l k =
        goes _ _ _ l (long_put (placed q.frame.slots from g) loop _ ∙ long_placed q.frame.slots from g)

    decides_so : (into : ℕ) (d : Option ℕ) (from passes : ℕ) (b : Bool) → suc q.frame.pc < length q.frame.code
        → suc q.frame.pc + passes < length q.frame.code → Leaves (machine.left_decides limit program w q into d from passes b)
    decides_so into d from n true l k = goes _ _ _ k (long_put (noted q.frame.slots d true) into _ ∙ long_noted q.frame.slots d true)
    decides_so into d from n false l k = goes _ _ _ l (long_noted q.frame.slots d false)

    heard_so : (o : Printing) → Leaves (hears w q o)
    heard_so (Answers o v) = record { frame = has_answer q.frame _ s.frame; below = s.below }
    heard_so (Requests o m n) = record { frame = s.frame; below = s.below }
    heard_so NoReply = s

    returned : (below : List Frame) (v : Value) → AllStand program below → Leaves (returns program.adts w q below v)
    returned [] v k = tt
    returned (f ∷ below) v k = record { frame = has_answer f _ k.0; below = k.1 }

    chosen : (b : Bool) (x y : ℕ) → suc q.frame.pc + x < length q.frame.code → suc q.frame.pc + y < length q.frame.code
        → suc q.frame.pc + choice b x y < length q.frame.code
    chosen true x y l k = l
    chosen false x y l k = k

    -- where a next instruction is, no more has to be passed
    plus_none : suc q.frame.pc < length q.frame.code → suc q.frame.pc + 0 < length q.frame.code
    plus_none l = omega arith

    on : (i : Instr) → slice_get q.frame.code q.frame.pc ≡ Some i → 0 < length (leads_to q.frame.pc i)
        → slice_index_or (leads_to q.frame.pc i) 0 0 < length q.frame.code
    on i e l = inside q.frame s.frame i e 0 0 l

    past : (i : Instr) → slice_get q.frame.code q.frame.pc ≡ Some i → 1 < length (leads_to q.frame.pc i)
        → slice_index_or (leads_to q.frame.pc i) 1 0 < length q.frame.code
    past i e l = inside q.frame s.frame i e 1 0 l

    done : (i : Instr) → slice_get q.frame.code q.frame.pc ≡ Some i → Leaves (does limit program w q i)
    done (Give t o into from) e =
        given into (performed program.adts (memory limit program w q) t o (values_of q.frame.slots from)) (on _ e (omega arith))
    done (code.Place t v n k into from) e =
        goes _ _ _ (on _ e (omega arith)) (long_put (put q.frame.slots from _) into _ ∙ long_put q.frame.slots from _)
    done (Gather t o into n) e =
        given into (performed program.adts (memory limit program w q) t o (operands_of (slot q.frame.slots into)))
        (on _ e (omega arith))
    done (Pick t n into from) e =
        goes _ _ _ (on _ e (omega arith)) (long_put (put q.frame.slots from _) into _ ∙ long_put q.frame.slots from _)
    done (Known v into) e = goes _ _ _ (on _ e (omega arith)) (long_put q.frame.slots into _)
    done (Write t way ss part from) e =
        stored (record { type = t; way = way; operands = values_of q.frame.slots ss })
        (part_at part (slot_value limit program w q from)) (on _ e (omega arith))
    done (CopyInto a i from) e =
        raised (copied (memory limit program w q) (part_of (slot_value limit program w q a)) (number_of (slot_value limit program w q i))
        (elements_of (memory limit program w q) (part_of (slot_value limit program w q from)))) _
        (λ m. goes _ _ _ (on _ e (omega arith)) refl)
    done (code.Cell t into item behind) e = goes _ _ _ (on _ e (omega arith)) (long_put q.frame.slots into _)
    done (Call t f into o) e =
        called limit w (with_operands [] q o) (stands_with [] q s o) t into f (slice_get program.functions f) (operands q.frame.slots o) refl
        (on _ e (omega arith)) (uses q.frame s.frame _ e).0
    done (Print ps into o) e =
        printed w q s (waiting (with_operands (Chars [] ∷ []) q o).frame into)
        (print w.outside (formatted ps (operands q.frame.slots o)))
        (waits (with_operands (Chars [] ∷ []) q o).frame (stands_with (Chars [] ∷ []) q s o).frame into (on _ e (omega arith)) (uses q.frame s.frame _ e).0)
    done (Skip c into d from n) e =
        decides_so into d from n (decides c (slot_value limit program w q from)) (on _ e (omega arith)) (past _ e (omega arith))
    done (Truth into from) e = goes _ _ _ (on _ e (omega arith)) (long_put q.frame.slots into _)
    done (Element t a i from) e =
        parted (part_of (slot_value limit program w q a)) _
        (λ p. stored (element_at t p i) (slot_value limit program w q from) (on _ e (omega arith)))
    done (Start loop) e = goes _ _ _ (on _ e (omega arith)) (long_put q.frame.slots loop _)
    done (Next a loop named n) e =
        let l = slot q.frame.slots loop in
        let i = next_of l in
        nexts loop n (chain_of l) (first_left named (range_with_len i (long_of (part_of (slot_value limit program w q a)) - i)))
        (on _ e (omega arith)) (past _ e (omega arith))
    done (Other t a loop from) e =
        parted (part_of (slot_value limit program w q a)) _
        (λ p. stored (element_at t p (index_of (slot q.frame.slots loop))) (slot_value limit program w q from)
        (on _ e (omega arith)))
    done (Keep loop from words) e =
        goes _ _ _ (on _ e (omega arith))
        (long_put (cleared q.frame.slots from words) loop _ ∙ long_cleared q.frame.slots from words)
    done (Take loop from words n) e =
        let l = slot q.frame.slots loop in takes loop from n (next_of l) (chain_of l) (on _ e (omega arith)) (past _ e (omega arith))
    done (Drop d k) e = goes _ _ _ (on _ e (omega arith)) (long_put q.frame.slots d _)
    done (Mirror d n) e =
        goes _ _ _
        (chosen (holds (slot_value limit program w q d)) n 0 (past _ e (omega arith)) (plus_none (on _ e (omega arith)))) refl
    done (Unless d n) e =
        goes _ _ _
        (chosen (holds (slot_value limit program w q d)) 0 n (plus_none (on _ e (omega arith))) (past _ e (omega arith))) refl
    done (Jump n) e = goes _ _ _ (on _ e (omega arith)) refl
    done (Back n) e = goes _ _ _ (on _ e (omega arith)) refl
    done (Return None) e = returned q.below _ s.below
    done (Return (Some r)) e = returned q.below _ s.below

    stepped : (o : Option Instr) → slice_get q.frame.code q.frame.pc ≡ o → Leaves (machine.next limit program w q o)
    stepped None e = s
    stepped (Some i) e = done i e

    replied : (a : Rmsg) (o : Option Writing) → Leaves (heard a w q o)
    replied a None = s
    replied a (Some k) = heard_so (hear a w.outside k)

there_is : (is : List Instr) (pc : ℕ) → pc < length is → (i : Instr) × (slice_get is pc ≡ Some i)
there_is [] pc l = absurd (omega arith)
there_is (i ∷ is) zero l = (i, refl)
there_is (i ∷ is) (suc pc) l = there_is is pc (omega arith)

pub code_is_not_left : CodeIsNotLeft
code_is_not_left = record {
  begins = λ p n instance f t args e. begun (code_of p) (all_sound p.adts p.routines) p.adts n instance f t args e;
  steps = λ p limit w q s.
      stepped (code_of p) (all_sound p.adts p.routines) limit w q s (slice_get q.frame.code q.frame.pc) refl;
  replies = λ p a w q s. replied (code_of p) (all_sound p.adts p.routines) 0 w q s a q.printing;
  instruction = λ p q s. there_is q.frame.code q.frame.pc s.frame.at;
}
