-- Only a fault ends a process as faulted, and what ends a process as faulted or broken changes nothing else.
use Rattle.std.proofs.Common.{◌≡◌, ℕ, ℤ, Bool, true, false, List, [], ◌∷◌, refl, sym, subst, if◌then◌else◌}
use Rattle.std.specs.Prelude.{Option, Some, None, Result, Ok, Err, nat_lt, pos, slice_get, codes}
use Rattle.std.specs.Str.{bytes_eq}
use Rattle.process_model.specs.Process.{Went, Ends}
use Rattle.limbo_values.specs.declared.number.Kind.{Kind}
use Rattle.limbo_values.specs.declared.number.Kind.TheVariants.{Int}
use Rattle.limbo_values.specs.declared.raised.Raised.{Raised}
use Rattle.limbo_values.specs.Numbers.{wrapped}
use Rattle.limbo_values.specs.Operators.{text_of, applied, shifted, compared}
use Rattle.dis_isa.specs.declared.inst.Inst.{Inst}
use Rattle.dis_isa.specs.declared.op.Op.{Op}
use Rattle.dis_isa.specs.declared.op.Op.TheVariants as op
use Rattle.dis_file.specs.declared.object.Object.{Object}
use Rattle.system_model.specs.Prints.{Printing, Answers, Requests, NoReply, print}
use Rattle.system_model.specs.Ending.{Ended, Broken, Faulted}
use Rattle.dis_meaning.specs.Words.{Place, InFrame, Refer, Address, Access, Found, Wrong, Raises, ◌>>=◌, type_check, bad_jump, or_wrong, reference, word_number, at_least_zero}
use Rattle.dis_meaning.specs.World.{World}
use Rattle.dis_meaning.specs.Process.{Frame, Process, Does, or_fault, with_frames, height}
use Rattle.dis_meaning.specs.Numbers.{Row, Calculates, Shifts, Converts, Moves, Branches, number_row}
use Rattle.dis_meaning.specs.Places.{around, Spot, spot, store, address, words_at, with_words_at, place_in, read_number, store_number, source_of, source_plain, source_word, given_of, middle_of}
use Rattle.dis_meaning.specs.Step.{immediate, target, middle_immediate, frame_at, plains, all_replaced, text_at, module_at, function_of, loaded, printed, answer_spot, place_of, outside_is, answered, without, branch, returns, calls, prints, print_call, sys_call, results, by_row, in_table, obey, work, code_of}
use Rattle.dis_meaning.specs.Laws.{FaultsChangeNothing, BreaksChangeNothing}

-- An effect that isn't a fault, and that changes nothing where the process breaks.
abbrev NoFault : World → Does → Type 0
NoFault x (Ends y Ended) = Unit {0}
NoFault x (Ends y (Broken text)) = y ≡ x
NoFault x (Ends y (Faulted number pc)) = ⊥
NoFault x _ = Unit {0}

data Clean (x : World) : Access Does → Type 0 where
  found : (d : Does) → NoFault x d → Clean x (Found d)
  wrong : (n : ℕ) → Clean x (Wrong n)
  raises : (text : List ℕ) → Clean x (Raises text)

clean_on : {T : Type 0} {x : World} (a : Access T) (f : T → Access Does) → ((t : T) → Clean x (f t)) → Clean x (a >>= f)
clean_on (Found t) f h = h t
clean_on (Wrong n) f h = wrong n
clean_on (Raises text) f h = raises text

branch_clean : (x : World) (p : Process) (b : Bool) (pc : ℕ) → NoFault x (branch x p b pc)
branch_clean x p true pc = tt
branch_clean x p false pc = tt

returns_clean : (x : World) (p : Process) (fs : List Frame) → NoFault x (returns x p fs)
returns_clean x p [] = tt
returns_clean x p (f ∷ fs) = tt

calls_clean : (limit : ℕ) (x : World) (p : Process) (f : Frame) (pc : ℕ) → NoFault x (calls limit x p f pc)
calls_clean limit x p f pc = go (nat_lt (height p) limit) _ _ tt
  where
    go : (b : Bool) (y : World) (q : Process) → Unit {0} → NoFault x (if b then Went y q else Ends x (Broken (codes "stack overflow")))
    go true y q t = tt
    go false y q t = refl

prints_clean : (x : World) (p : Process) (place : Place) (at : ℤ) (g : Printing) → Clean x (prints x p place at g)
prints_clean x p place at (Answers w v) = clean_on (answered (outside_is x w) p place at v) _ (λ m. found _ tt)
prints_clean x p place at (Requests w m k) = found _ tt
prints_clean x p place at NoReply = found _ tt

print_clean : (x : World) (p : Process) (f : Frame) → Clean x (print_call x p f)
print_clean x p f =
    clean_on (printed x f.words) _ (λ text. clean_on (answer_spot f.words) _ (λ s. clean_on (place_of s) _ (λ place.
    prints_clean x (with_frames p p.frame p.below (without f.serial p.made)) place (place_in s) (print x.outside text))))

sys_clean : (x : World) (p : Process) (name : List ℕ) (f : Frame) → Clean x (sys_call x p name f)
sys_clean x p name f = go (bytes_eq name (codes "print"))
  where
    go : (b : Bool) → Clean x (if b then print_call x p f else Wrong 110)
    go true = print_clean x p f
    go false = wrong 110

module _ (limit : ℕ) (o : Object) (x : World) (p : Process) (i : Inst) where
  results_clean : (kind : Kind) (d : Spot) (r : Result ℤ Raised) → Clean x (results kind x p d r)
  results_clean kind d (Ok z) = clean_on (store_number kind x p d z) _ (λ after. found _ tt)
  results_clean kind d (Err raised) = clean_on (read_number kind x p d) _ (λ old. raises (text_of raised))

  row_clean : (row : Row) → Clean x (by_row o x p i row)
  row_clean (Calculates kind operator) =
      clean_on (source_of kind x p i.src) _ (λ s. clean_on (middle_of kind x p i.middle i.dst) _ (λ m. clean_on (spot x p i.dst) _ (λ d. results_clean kind d (applied kind operator m s))))
  row_clean (Shifts kind shift) =
      clean_on (source_of Int x p i.src) _ (λ s. clean_on (middle_of kind x p i.middle i.dst) _ (λ m. clean_on (spot x p i.dst) _ (λ d. results_clean kind d (Ok (shifted kind shift m s)))))
  row_clean (Converts from to) = clean_on (source_of from x p i.src) _ (λ s. clean_on (spot x p i.dst) _ (λ d. results_clean to d (Ok (wrapped to s))))
  row_clean (Moves kind) = clean_on (source_of kind x p i.src) _ (λ s. clean_on (spot x p i.dst) _ (λ d. results_clean kind d (Ok s)))
  row_clean (Branches kind comparison) =
      clean_on (source_of kind x p i.src) _ (λ s. clean_on (given_of kind x p i.middle) _ (λ m. clean_on (target o i.dst) _ (λ pc. found _ (branch_clean x p (compared comparison s m) pc))))

  table_clean : (row : Option Row) → Clean x (in_table o x p i row)
  table_clean (Some row) = row_clean row
  table_clean None = wrong 110

  obey_clean : (c : Op) → Clean x (obey limit o x p i c)
  obey_clean op.Movw = clean_on (source_plain x p i.src) _ (λ w. clean_on (spot x p i.dst) _ (λ d. clean_on (store x p d w) _ (λ m. found _ tt)))
  obey_clean op.Movp = clean_on (source_word x p i.src >>= reference) _ (λ r. clean_on (spot x p i.dst) _ (λ d. clean_on (store x p d (Refer r)) _ (λ m. found _ tt)))
  obey_clean op.Movm =
      clean_on (spot x p i.src) _ (λ s. clean_on (words_at x p s) _ (λ from. clean_on (word_number (place_in s)) _ (λ k.
      clean_on (given_of Int x p i.middle >>= at_least_zero) _ (λ bytes. clean_on (word_number (pos bytes)) _ (λ count. clean_on (plains from k count) _ (λ vs.
      clean_on (spot x p i.dst) _ (λ d. clean_on (words_at x p d) _ (λ into. clean_on (word_number (place_in d)) _ (λ j. clean_on (all_replaced into j vs >>= with_words_at x p d) _ (λ m. found _ tt))))))))))
  obey_clean op.Lea = clean_on (spot x p i.src) _ (λ s. clean_on (around x p s) _ (λ w. clean_on (spot x p i.dst) _ (λ d. clean_on (store x p d (address p s)) _ (λ m. found _ tt))))
  obey_clean op.Jmp = clean_on (target o i.dst) _ (λ pc. found _ tt)
  obey_clean op.Frame = clean_on (immediate i.src) _ (λ n. clean_on (or_wrong type_check (slice_get o.types n)) _ (λ desc. clean_on (spot x p i.dst) _ (λ d. clean_on (store x p d (Address (InFrame x.frames) (pos 0))) _ (λ m. found _ tt))))
  obey_clean op.Call = clean_on (source_word x p i.src >>= frame_at x p) _ (λ f. clean_on (target o i.dst) _ (λ pc. found _ (calls_clean limit x p f pc)))
  obey_clean op.Ret = found _ (returns_clean x p p.below)
  obey_clean op.Load =
      clean_on (source_word x p i.src >>= reference >>= text_at x) _ (λ path. clean_on (middle_immediate i.middle) _ (λ n. clean_on (or_wrong type_check (slice_get o.imports n)) _ (λ table.
      clean_on (spot x p i.dst) _ (λ d. clean_on (loaded x p d path table) _ (λ m. found _ tt)))))
  obey_clean op.Mcall =
      clean_on (source_word x p i.src >>= frame_at x p) _ (λ f. clean_on (middle_immediate i.middle) _ (λ k. clean_on (source_word x p i.dst >>= reference >>= module_at x) _ (λ c.
      clean_on (function_of c k) _ (λ name. sys_clean x p name f))))
  obey_clean operation = table_clean (number_row operation)

work_clean : (limit : ℕ) (o : Object) (x : World) (p : Process) → Clean x (work limit o x p)
work_clean limit o x p = clean_on (or_wrong bad_jump (slice_get o.insts p.frame.pc)) _ (λ i. obey_clean limit o x p i i.op)

fault_is : (x y : World) (p : Process) (a : Access Does) (number pc : ℕ) → Clean x a → or_fault x p a ≡ Ends y (Faulted number pc) → (y ≡ x) × (pc ≡ p.frame.pc)
fault_is x y p (Found d) number pc (found d' c) e = absurd (subst (NoFault x) e c)
fault_is x y p (Wrong n) number pc (wrong n') e = (let a : x ≡ y = cc in sym a, let b : p.frame.pc ≡ pc = cc in sym b)
fault_is x y p (Raises text) number pc (raises text') e = absurd cc

pub faults_change_nothing : FaultsChangeNothing
faults_change_nothing limit objects x y p number pc e = fault_is x y p (code_of limit objects x p >>= λ o. work limit o x p) number pc (clean_on (code_of limit objects x p) _ (λ o. work_clean limit o x p)) e

break_is : (x y : World) (p : Process) (a : Access Does) (text : List ℕ) → Clean x a → or_fault x p a ≡ Ends y (Broken text) → y ≡ x
break_is x y p (Found d) text (found d' c) e = subst (NoFault x) e c
break_is x y p (Wrong n) text (wrong n') e = absurd cc
break_is x y p (Raises t) text (raises t') e = let a : x ≡ y = cc in sym a

pub breaks_change_nothing : BreaksChangeNothing
breaks_change_nothing limit objects x y p text e = break_is x y p (code_of limit objects x p >>= λ o. work limit o x p) text (clean_on (code_of limit objects x p) _ (λ o. work_clean limit o x p)) e
