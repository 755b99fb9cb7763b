-- What a process does keeps the serials of its frames among those that were given.
use Rattle.std.proofs.Common.{ℕ, suc, ℤ, ◌<◌, ◌≤◌, Bool, true, false, List, [], ◌∷◌, ◌++◌, length, map, Option, Some, None, arith, if◌then◌else◌}
use Rattle.std.specs.Prelude.{Result, Ok, Err, nat_eq, nat_lt, pos, slice_get, codes}
use Rattle.std.specs.Ordering.{int_eq}
use Rattle.std.specs.Str.{bytes_eq}
use Rattle.styx_msg.specs.declared.message.Rmsg.{Rmsg}
use Rattle.process_model.specs.Process.{Went, Ends}
use Rattle.limbo_values.specs.declared.number.Kind.{Kind}
use Rattle.limbo_values.specs.declared.number.Kind.TheVariants.{Int}
use Rattle.limbo_values.specs.declared.raised.Raised.{Raised}
use Rattle.limbo_values.specs.Numbers.{wrapped}
use Rattle.limbo_values.specs.Operators.{applied, shifted, compared}
use Rattle.dis_isa.specs.declared.inst.Inst.{Inst}
use Rattle.dis_isa.specs.declared.op.Op.{Op}
use Rattle.dis_isa.specs.declared.op.Op.TheVariants as op
use Rattle.dis_file.specs.declared.object.Import.{Import}
use Rattle.dis_file.specs.declared.object.Object.{Object}
use Rattle.system_model.specs.Values.{Value}
use Rattle.system_model.specs.Prints.{Printing, Answers, Requests, NoReply, print, hear}
use Rattle.system_model.specs.Ending.{Broken}
use Rattle.dis_meaning.specs.Words.{Place, InBlock, InFrame, Word, Plain, Refer, Address, Access, Found, Wrong, Raises, ◌>>=◌, type_check, bad_jump, or_wrong, stored, reference, word_number, at_least_zero, blank}
use Rattle.system_model.specs.World as outside
use Rattle.dis_meaning.specs.World.{Sys, World, block, with_block}
use Rattle.dis_meaning.specs.Process as process
use Rattle.dis_meaning.specs.Process.{Frame, Process, Does, or_fault, with_words, with_frames, height}
use Rattle.dis_meaning.specs.Numbers.{Row, Calculates, Shifts, Converts, Moves, Branches, number_row, with_number_at}
use Rattle.dis_meaning.specs.Places.{around, Spot, Own, Data, Far, Memory, spot, store, address, change, words_in, all_frames, words_at, with_data, with_words_at, place_in, read_number, store_number, source_of, source_plain, source_word, given_of, middle_of}
use Rattle.dis_meaning.specs.Step.{immediate, target, middle_immediate, next, made_frame, frame_at, framed, names, word_of, plains, all_replaced, text_at, module_at, function_of, loaded, path_of_sys, printed, answer_spot, place_of, outside_is, answered, without, branch, returns, calls, prints, print_call, sys_call, results, by_row, in_table, obey, code_of, step, hears, heard, answer}
use Rattle.dis_meaning.specs.Given.{AreGiven, HasGiven, StaysGiven, IsGivenAfter, SerialsAreGiven}
use Rattle.dis_meaning.proofs.Begins.{begins_given}

-- What is found has a property.
abbrev pub Finds : {T : Type 0} → (T → Type 0) → Access T → Type 0
Finds holds (Found t) = holds t
Finds holds (Wrong n) = Unit {0}
Finds holds (Raises text) = Unit {0}

pub finds_on : {S T : Type 0} (holds : S → Type 0) (after : T → Type 0) (a : Access S) (f : S → Access T) → Finds holds a → ((s : S) → holds s → Finds after (f s)) → Finds after (a >>= f)
finds_on holds after (Found s) f h g = g s h
finds_on holds after (Wrong n) f h g = tt
finds_on holds after (Raises text) f h g = tt

-- Whatever is found.
pub on_any : {S T : Type 0} (after : T → Type 0) (a : Access S) (f : S → Access T) → ((s : S) → Finds after (f s)) → Finds after (a >>= f)
on_any after (Found s) f g = g s
on_any after (Wrong n) f g = tt
on_any after (Raises text) f g = tt

-- ---- frames

more_given : (n m : ℕ) (fs : List Frame) → n ≤ m → AreGiven n fs → AreGiven m fs
more_given n m [] le h = tt
more_given n m (f ∷ fs) le h = (let lt = h.0 in omega (arith, lt, le), more_given n m fs le h.1)

one_more : (n : ℕ) (fs : List Frame) (f : Frame) → AreGiven n fs → f.serial < n → AreGiven n (fs ++ f ∷ [])
one_more n [] f h lt = (lt, tt)
one_more n (g ∷ fs) f h lt = (h.0, one_more n fs f h.1 lt)

change_given : (n s : ℕ) (words : List Word) (f : Frame) → f.serial < n → (change s words f).serial < n
change_given n s words f lt = go (nat_eq f.serial s)
  where
    go : (b : Bool) → (if b then with_words f words else f).serial < n
    go true = lt
    go false = lt

all_changed : (n s : ℕ) (words : List Word) (fs : List Frame) → AreGiven n fs → AreGiven n (map (change s words) fs)
all_changed n s words [] h = tt
all_changed n s words (f ∷ fs) h = (change_given n s words f h.0, all_changed n s words fs h.1)

without_given : (n s : ℕ) (fs : List Frame) → AreGiven n fs → AreGiven n (without s fs)
without_given n s [] h = tt
without_given n s (f ∷ fs) h = go (nat_eq f.serial s) (without_given n s fs h.1)
  where
    go : (b : Bool) → AreGiven n (without s fs) → AreGiven n (if b then without s fs else f ∷ without s fs)
    go true rest = rest
    go false rest = (h.0, rest)

made_given : (n : ℕ) (fs : List Frame) (s : ℕ) → AreGiven n fs → Finds (λ f. f.serial < n) (made_frame fs s)
made_given n [] s h = tt
made_given n (f ∷ fs) s h = go (nat_eq f.serial s) (made_given n fs s h.1)
  where
    go : (b : Bool) → Finds (λ (f : Frame). f.serial < n) (made_frame fs s) → Finds (λ (f : Frame). f.serial < n) (if b then Found f else made_frame fs s)
    go true rest = h.0
    go false rest = rest

-- ---- a world and a process

-- Nothing more was given, and the process has frames of these serials.
abbrev stays : (x : World) (p : Process) → HasGiven x p → StaysGiven x x p
stays x p h = record { rises = omega arith; given = h }

module _ (x : World) (p : Process) (h : HasGiven x p) where
  -- Memory after a store.
  abbrev pub Stays : Memory → Type 0
  Stays m = StaysGiven x m.world m.process

  data_given : (q : Process) (n : ℕ) (words : List Word) → HasGiven x q → Finds Stays (with_data x n words >>= λ y. Found (record { world = y; process = q }))
  data_given q n words g =
      finds_on (λ y. StaysGiven x y q) Stays (with_data x n words) _
      (on_any (λ y. StaysGiven x y q) (block x n) _ (λ c. record { rises = omega arith; given = record { running = g.running; waiting = g.waiting; made = g.made } }))
      (λ y g. g)

  pub words_given : (s : Spot) (words : List Word) → Finds Stays (with_words_at x p s words)
  words_given (Own at) words = record { rises = omega arith; given = record { running = h.running; waiting = h.waiting; made = h.made } }
  words_given (Data at) words = data_given p p.frame.instance words h
  words_given (Far (InFrame s) at) words = record {
    rises = omega arith;
    given = record {
      running = change_given x.frames s words p.frame h.running;
      waiting = all_changed x.frames s words p.below h.waiting;
      made = all_changed x.frames s words p.made h.made;
    };
  }
  words_given (Far (InBlock n) at) words = data_given p n words h

  stored_given : (s : Spot) (new : Word) → Finds Stays (store x p s new)
  stored_given s new = on_any Stays (words_at x p s) _ (λ words. on_any Stays (stored words (place_in s) new) _ (λ after. words_given s after))

  number_given : (kind : Kind) (s : Spot) (z : ℤ) → Finds Stays (store_number kind x p s z)
  number_given kind s z = on_any Stays (words_at x p s) _ (λ words. on_any Stays (with_number_at kind words (place_in s) z) _ (λ after. words_given s after))

  -- The process goes on with frames of these serials.
  goes_on : (f : Frame) (below made : List Frame) → f.serial < x.frames → AreGiven x.frames below → AreGiven x.frames made → StaysGiven x x (with_frames p f below made)
  goes_on f below made lt b m = record { rises = omega arith; given = record { running = lt; waiting = b; made = m } }

  -- An effect, or a fault.
  abbrev Good : Access Does → Type 0
  Good a = Finds (IsGivenAfter x) a

  any : {S : Type 0} (a : Access S) (f : S → Access Does) → ((s : S) → Good (f s)) → Good (a >>= f)
  any a f g = on_any (IsGivenAfter x) a f g

  -- The memory after a store, and what follows.
  then_next : (a : Access Memory) (f : Memory → Access Does) → Finds Stays a → ((m : Memory) → Stays m → Good (f m)) → Good (a >>= f)
  then_next a f h g = finds_on Stays (IsGivenAfter x) a f h g

  branch_given : (b : Bool) (pc : ℕ) → IsGivenAfter x (branch x p b pc)
  branch_given true pc = goes_on _ p.below p.made h.running h.waiting h.made
  branch_given false pc = goes_on _ p.below p.made h.running h.waiting h.made

  returns_given : (fs : List Frame) → AreGiven x.frames fs → IsGivenAfter x (returns x p fs)
  returns_given [] g = omega arith
  returns_given (f ∷ fs) g = goes_on f fs p.made g.0 g.1 h.made

  calls_given : (limit : ℕ) (f : Frame) (pc : ℕ) → f.serial < x.frames → IsGivenAfter x (calls limit x p f pc)
  calls_given limit f pc lt = go (nat_lt (height p) limit) _ (goes_on _ (_ ∷ p.below) (without f.serial p.made) lt (h.running, h.waiting) (without_given x.frames f.serial p.made h.made))
    where
      go : (b : Bool) (q : Process) → StaysGiven x x q → IsGivenAfter x (if b then Went x q else Ends x (Broken (codes "stack overflow")))
      go true q g = g
      go false q g = omega arith

  frame_given : (w : Word) → Finds (λ f. f.serial < x.frames) (frame_at x p w)
  frame_given (Address (InFrame s) at) =
      on_any (λ f. f.serial < x.frames) (words_in s (all_frames p)) _ (λ words. go (int_eq at (pos 0)))
    where
      go : (b : Bool) → Finds (λ f. f.serial < x.frames) (if b then made_frame p.made s else Wrong type_check)
      go true = made_given x.frames p.made s h.made
      go false = tt
  frame_given (Address (InBlock n) at) = on_any (λ f. f.serial < x.frames) (block x n) _ (λ c. tt)
  frame_given (Plain n) = tt
  frame_given (Refer r) = tt

-- Memory after a store, and the process that goes on in it.
next_given : (x : World) (m : Memory) → StaysGiven x m.world m.process → IsGivenAfter x (next m)
next_given x m g = record { rises = g.rises; given = record { running = g.given.running; waiting = g.given.waiting; made = g.given.made } }

answered_given : (x : World) (p : Process) (h : HasGiven x p) (w : outside.World) (place : Place) (at : ℤ) (v : Value) →
    Finds (λ m. StaysGiven x m.world m.process) (answered (outside_is x w) p place at v)
answered_given x p h w place at v =
    again (answered (outside_is x w) p place at v) (stored_given (outside_is x w) p (record { running = h.running; waiting = h.waiting; made = h.made }) (Far place at) (word_of v))
  where
    again : (a : Access Memory) → Finds (λ m. StaysGiven (outside_is x w) m.world m.process) a → Finds (λ m. StaysGiven x m.world m.process) a
    again (Found m) g = record { rises = g.rises; given = g.given }
    again (Wrong n) g = tt
    again (Raises text) g = tt

module _ (x : World) (p : Process) (h : HasGiven x p) where
  prints_given : (place : Place) (at : ℤ) (g : Printing) → Good x p h (prints x p place at g)
  prints_given place at (Answers w v) = then_next x p h (answered (outside_is x w) p place at v) _ (answered_given x p h w place at v) (λ m g. next_given x m g)
  prints_given place at (Requests w m k) = record { rises = omega arith; given = record { running = h.running; waiting = h.waiting; made = h.made } }
  prints_given place at NoReply = stays x p h

module _ (x : World) (p : Process) (h : HasGiven x p) where
  print_given : (f : Frame) → Good x p h (print_call x p f)
  print_given f =
      any x p h (printed x f.words) _ (λ text. any x p h (answer_spot f.words) _ (λ s. any x p h (place_of s) _ (λ place.
      prints_given x (with_frames p p.frame p.below (without f.serial p.made)) (record { running = h.running; waiting = h.waiting; made = without_given x.frames f.serial p.made h.made }) place (place_in s) (print x.outside text))))

  sys_given : (name : List ℕ) (f : Frame) → Good x p h (sys_call x p name f)
  sys_given name f = go (bytes_eq name (codes "print"))
    where
      go : (b : Bool) → Good x p h (if b then print_call x p f else Wrong type_check)
      go true = print_given f
      go false = tt

  -- A store, and the process goes on.
  stores_on : (s : Spot) (new : Word) → Good x p h (store x p s new >>= λ m. Found (next m))
  stores_on s new = then_next x p h (store x p s new) _ (stored_given x p h s new) (λ m g. next_given x m g)

  loads_on : (d : Spot) (path : List ℕ) (table : List Import) → Good x p h (loaded x p d path table >>= λ m. Found (next m))
  loads_on d path table = then_next x p h (loaded x p d path table) _ (go (bytes_eq path path_of_sys)) (λ m g. next_given x m g)
    where
      again : (a : Access Memory) → Finds (λ m. StaysGiven (with_block x (Sys (names table))) m.world m.process) a → Finds (λ m. StaysGiven x m.world m.process) a
      again (Found m) g = record { rises = g.rises; given = g.given }
      again (Wrong n) g = tt
      again (Raises text) g = tt

      go : (b : Bool) → Finds (λ m. StaysGiven x m.world m.process) (if b then store (with_block x (Sys (names table))) p d (Refer (Some (length x.blocks))) else store x p d (Refer None))
      go true = again _ (stored_given (with_block x (Sys (names table))) p (record { running = h.running; waiting = h.waiting; made = h.made }) d (Refer (Some (length x.blocks))))
      go false = stored_given x p h d (Refer None)

  -- A frame that is made has the next serial.
  framed_given : (m : Memory) (words : List Word) → StaysGiven x m.world m.process → IsGivenAfter x (next (framed m words))
  framed_given m words g =
      let n = m.world.frames in
      let r = g.rises in
      let lt = g.given.running in
      record {
        rises = omega arith;
        given = record {
          running = omega arith;
          waiting = more_given n (suc n) m.process.below (omega arith) g.given.waiting;
          made = one_more (suc n) m.process.made _ (more_given n (suc n) m.process.made (omega arith) g.given.made) (omega arith);
        };
      }

  module _ (limit : ℕ) (o : Object) (i : Inst) where
    results_given : (kind : Kind) (d : Spot) (r : Result ℤ Raised) → Good x p h (results kind x p d r)
    results_given kind d (Ok z) = then_next x p h (store_number kind x p d z) _ (number_given x p h kind d z) (λ m g. next_given x m g)
    results_given kind d (Err raised) = any x p h (read_number kind x p d) _ (λ old. tt)

    row_given : (row : Row) → Good x p h (by_row o x p i row)
    row_given (Calculates kind operator) =
        any x p h (source_of kind x p i.src) _ (λ s. any x p h (middle_of kind x p i.middle i.dst) _ (λ m. any x p h (spot x p i.dst) _ (λ d. results_given kind d (applied kind operator m s))))
    row_given (Shifts kind shift) =
        any x p h (source_of Int x p i.src) _ (λ s. any x p h (middle_of kind x p i.middle i.dst) _ (λ m. any x p h (spot x p i.dst) _ (λ d. results_given kind d (Ok (shifted kind shift m s)))))
    row_given (Converts from to) = any x p h (source_of from x p i.src) _ (λ s. any x p h (spot x p i.dst) _ (λ d. results_given to d (Ok (wrapped to s))))
    row_given (Moves kind) = any x p h (source_of kind x p i.src) _ (λ s. any x p h (spot x p i.dst) _ (λ d. results_given kind d (Ok s)))
    row_given (Branches kind comparison) =
        any x p h (source_of kind x p i.src) _ (λ s. any x p h (given_of kind x p i.middle) _ (λ m. any x p h (target o i.dst) _ (λ pc. branch_given x p h (compared comparison s m) pc)))

    table_given : (row : Option Row) → Good x p h (in_table o x p i row)
    table_given (Some row) = row_given row
    table_given None = tt

    obey_given : (c : Op) → Good x p h (obey limit o x p i c)
    obey_given op.Movw = any x p h (source_plain x p i.src) _ (λ w. any x p h (spot x p i.dst) _ (λ d. stores_on d w))
    obey_given op.Movp = any x p h (source_word x p i.src >>= reference) _ (λ r. any x p h (spot x p i.dst) _ (λ d. stores_on d (Refer r)))
    obey_given op.Movm =
        any x p h (spot x p i.src) _ (λ s. any x p h (words_at x p s) _ (λ from. any x p h (word_number (place_in s)) _ (λ k.
        any x p h (given_of Int x p i.middle >>= at_least_zero) _ (λ bytes. any x p h (word_number (pos bytes)) _ (λ count. any x p h (plains from k count) _ (λ vs.
        any x p h (spot x p i.dst) _ (λ d. any x p h (words_at x p d) _ (λ into. any x p h (word_number (place_in d)) _ (λ j.
        then_next x p h (all_replaced into j vs >>= with_words_at x p d) _
        (on_any (Stays x p h) (all_replaced into j vs) _ (λ words. words_given x p h d words)) (λ m g. next_given x m g))))))))))
    obey_given op.Lea = any x p h (spot x p i.src) _ (λ s. any x p h (around x p s) _ (λ w. any x p h (spot x p i.dst) _ (λ d. stores_on d (address p s))))
    obey_given op.Jmp = any x p h (target o i.dst) _ (λ pc. goes_on x p h _ p.below p.made h.running h.waiting h.made)
    obey_given op.Frame =
        any x p h (immediate i.src) _ (λ n. any x p h (or_wrong type_check (slice_get o.types n)) _ (λ desc. any x p h (spot x p i.dst) _ (λ d.
        then_next x p h (store x p d (Address (InFrame x.frames) (pos 0))) _ (stored_given x p h d _) (λ m g. framed_given m (blank desc) g))))
    obey_given op.Call =
        finds_on (λ f. f.serial < x.frames) (IsGivenAfter x) (source_word x p i.src >>= frame_at x p) _
        (on_any (λ f. f.serial < x.frames) (source_word x p i.src) _ (λ w. frame_given x p h w))
        (λ f lt. any x p h (target o i.dst) _ (λ pc. calls_given x p h limit f pc lt))
    obey_given op.Ret = returns_given x p h p.below h.waiting
    obey_given op.Load =
        any x p h (source_word x p i.src >>= reference >>= text_at x) _ (λ path. any x p h (middle_immediate i.middle) _ (λ n.
        any x p h (or_wrong type_check (slice_get o.imports n)) _ (λ table. any x p h (spot x p i.dst) _ (λ d. loads_on d path table))))
    obey_given op.Mcall =
        any x p h (source_word x p i.src >>= frame_at x p) _ (λ f. any x p h (middle_immediate i.middle) _ (λ k.
        any x p h (source_word x p i.dst >>= reference >>= module_at x) _ (λ c. any x p h (function_of c k) _ (λ name. sys_given name f))))
    obey_given operation = table_given (number_row operation)

  or_fault_given : (a : Access Does) → Good x p h a → IsGivenAfter x (or_fault x p a)
  or_fault_given (Found d) g = g
  or_fault_given (Wrong n) g = omega arith
  or_fault_given (Raises text) g = omega arith

  pub step_given : (limit : ℕ) (objects : List Object) → IsGivenAfter x (step limit objects x p)
  step_given limit objects =
      or_fault_given _ (any x p h (code_of limit objects x p) _ (λ o. any x p h (or_wrong bad_jump (slice_get o.insts p.frame.pc)) _ (λ i. obey_given limit o i i.op)))

  hears_given : (place : Place) (at : ℤ) (g : Printing) → IsGivenAfter x (hears x p place at g)
  hears_given place at (Answers w v) =
      or_fault_given _ (then_next x p h (answered (outside_is x w) p place at v) _ (answered_given x p h w place at v)
      (λ m g. record { rises = g.rises; given = record { running = g.given.running; waiting = g.given.waiting; made = g.given.made } }))
  hears_given place at (Requests w m k) = record { rises = omega arith; given = record { running = h.running; waiting = h.waiting; made = h.made } }
  hears_given place at NoReply = stays x p h

  pub answer_given : (a : Rmsg) → IsGivenAfter x (answer a x p)
  answer_given a = go p.printing
    where
      go : (k : Option process.Printing) → IsGivenAfter x (heard a x p k)
      go None = stays x p h
      go (Some k) = hears_given k.place k.at (hear a x.outside k.writing)

pub serials_are_given : SerialsAreGiven
serials_are_given = record { begins = begins_given; steps = λ limit objects x p h. step_given x p h limit objects; replies = λ a x p h. answer_given x p h a }
