-- What a process does keeps the serials of its frames among those that were given.
use Rattle.std.proofs.Common.{◌≡◌, ℕ, refl, suc, ℤ, ◌<◌, ◌≤◌, Bool, true, false, List, [], ◌∷◌, ◌++◌, map, Option, Some, None, arith}
use Rattle.std.proofs.Common.{if◌then◌else◌}
use Rattle.std.specs.Prelude.{encode_utf8_all, length, nat_eq, nat_lt, pos, slice_get, codes}
use Rattle.std.specs.Ordering.{int_eq}
use Rattle.std.specs.Str.{bytes_eq}
use Rattle.styx_msg.specs.declared.message.Rmsg.{Rmsg}
use Rattle.process_model.specs.Process.{Went, Ends}
use Rattle.limbo_values.specs.declared.number.Kind.{Kind}
use Rattle.limbo_values.specs.declared.number.Kind.TheVariants.{Byte, Int, Big}
use Rattle.limbo_values.specs.declared.operator.Comparison.{Comparison}
use Rattle.limbo_values.specs.Numbers.{wrapped}
use Rattle.limbo_values.specs.Operators.{applied, shifted, compared}
use Rattle.limbo_values.specs.Conversions.{number_text, number_read}
use Rattle.limbo_values.specs.Texts.{bounds_in, text_compared}
use Rattle.dis_isa.specs.declared.inst.Inst.{Inst}
use Rattle.dis_isa.specs.declared.inst.Middle.{Middle}
use Rattle.dis_isa.specs.declared.inst.Middle.TheVariants as middle
use Rattle.dis_isa.specs.declared.inst.Operand.{Operand}
use Rattle.dis_isa.specs.declared.op.Op.{Op}
use Rattle.dis_isa.specs.declared.op.Op.TheVariants as op
use Rattle.dis_file.specs.declared.object.Object.{Object}
use Rattle.dis_file.specs.declared.types.TypeDesc.{TypeDesc}
use Rattle.system_model.specs.Values.{Value}
use Rattle.system_model.specs.Prints.{Printing, Answers, Requests, NoReply, print, hear}
use Rattle.system_model.specs.Ending.{Broken}
use Rattle.system_model.specs.World as outside
use Rattle.dis_meaning.specs.Words.{Place, InBlock, InFrame, Word, Plain, Refer, Address, Access, Found, Wrong, Raises, ◌>>=◌, type_check}
use Rattle.dis_meaning.specs.Words.{bad_jump, or_wrong, stored, plain, word_number, at_least_zero, blank}
use Rattle.dis_meaning.specs.Process as process
use Rattle.dis_meaning.specs.Process.{Frame, Process, with_words, with_frames, height}
use Rattle.dis_meaning.specs.Numbers.{Row, Calculates, Shifts, Converts, Moves, Branches, number_row, with_number_at}
use Rattle.dis_meaning.specs.Places.{address, Spot, Own, Data, Far, change, words_in, all_frames, place_in}
use Rattle.dis_meaning.specs.Step.{without, made_frame, place_of, names, path_of_sys, word_of}
use Rattle.dis_memory.specs.Blocks.{Block, Record, Text, Channel, Sys, World, block, with_block, next_serial}
use Rattle.dis_memory.specs.Raising.{not_nil, unless_raised}
use Rattle.dis_memory.specs.Places.{Memory, memory, spot, read, store, words_at, with_data, with_words_at, read_number, store_number}
use Rattle.dis_memory.specs.Places.{source_of, source_plain, source_word, given_of, middle_of, middle_word, middle_spot, source_reference}
use Rattle.dis_memory.specs.Places.{middle_reference, reference_at, around}
use Rattle.dis_memory.specs.Operands.{immediate, middle_immediate, source_type, middle_type, target}
use Rattle.dis_memory.specs.Copies as copies
use Rattle.dis_memory.specs.Copies.{typed_words}
use Rattle.dis_memory.specs.Kinds.{Elements, Linked, elements_at, length_of, text_at, first_cell, list_length}
use Rattle.dis_memory.specs.Process.{Does, next, jumps, or_fault}
use Rattle.dis_memory.specs.Results.{gives_number, gives_number_at, gives_plain_at, gives_reference, gives_reference_at, gives_block}
use Rattle.dis_memory.specs.Results.{gives_block_at}
use Rattle.dis_memory.specs.Arrays as arrays
use Rattle.dis_memory.specs.Strings as strings
use Rattle.dis_memory.specs.Strings.{text_row}
use Rattle.dis_memory.specs.Lists as lists
use Rattle.dis_memory.specs.Numbers as numbers
use Rattle.dis_memory.specs.Control.{outside_of, with_outside, next_frame, framed, frame_at, returns, calls, printed, answer_spot}
use Rattle.dis_memory.specs.Control.{answered, prints, print_call, sys_call, function_of, loaded_module, hears, heard, answer}
use Rattle.dis_memory.specs.Step.{by_texts, by_numbers, obey, code_of, step}
use Rattle.dis_serials.specs.Given.{AreGiven, HasGiven, StaysGiven, IsGivenAfter, SerialsAreGiven}

-- What is found has a property.
abbrev pub Finds : {T : Type 0} → (T → Type 0) → Access T → Type 0
Finds holds (Found t) = holds t
Finds holds (Wrong n) = Unit {0}
Finds holds (Raises text) = Unit {0}

pub finds_on : {S T : Type 0} (holds : S → Type 0) (after : T → Type 0) (a : Access S) (f : S → Access T) → Finds holds a → ((s : S) →
    holds s → Finds after (f s)) → Finds after (a >>= f)
finds_on holds after (Found s) f h g = g s h
finds_on holds after (Wrong n) f h g = tt
finds_on holds after (Raises text) f h g = tt

-- Whatever is found.
pub on_any : {S T : Type 0} (after : T → Type 0) (a : Access S) (f : S → Access T) → ((s : S) → Finds after (f s)) → Finds after (a >>= f)
on_any after (Found s) f g = g s
on_any after (Wrong n) f g = tt
on_any after (Raises text) f g = tt

-- ---- frames

more_given : (n m : ℕ) (fs : List Frame) → n ≤ m → AreGiven n fs → AreGiven m fs
more_given n m [] le h = tt
more_given n m (f ∷ fs) le h = (let lt = h.0 in omega (arith, lt, le), more_given n m fs le h.1)

one_more : (n : ℕ) (fs : List Frame) (f : Frame) → AreGiven n fs → f.serial < n → AreGiven n (fs ++ f ∷ [])
one_more n [] f h lt = (lt, tt)
one_more n (g ∷ fs) f h lt = (h.0, one_more n fs f h.1 lt)

change_given : (n s : ℕ) (words : List Word) (f : Frame) → f.serial < n → (change s words f).serial < n
change_given n s words f lt = go (nat_eq f.serial s)
  where
    go : (b : Bool) → (if b then with_words f words else f).serial < n
    go true = lt
    go false = lt

all_changed : (n s : ℕ) (words : List Word) (fs : List Frame) → AreGiven n fs → AreGiven n (map (change s words) fs)
all_changed n s words [] h = tt
all_changed n s words (f ∷ fs) h = (change_given n s words f h.0, all_changed n s words fs h.1)

without_given : (n s : ℕ) (fs : List Frame) → AreGiven n fs → AreGiven n (without s fs)
without_given n s [] h = tt
without_given n s (f ∷ fs) h = go (nat_eq f.serial s) (without_given n s fs h.1)
  where
    go : (b : Bool) → AreGiven n (without s fs) → AreGiven n (if b then without s fs else f ∷ without s fs)
    go true rest = rest
    go false rest = (h.0, rest)

made_given : (n : ℕ) (fs : List Frame) (s : ℕ) → AreGiven n fs → Finds (λ f. f.serial < n) (made_frame fs s)
made_given n [] s h = tt
made_given n (f ∷ fs) s h = go (nat_eq f.serial s) (made_given n fs s h.1)
  where
    go : (b : Bool) → Finds (λ (f : Frame). f.serial < n) (made_frame fs s) → Finds
        (λ (f : Frame). f.serial < n) (if b then Found f else made_frame fs s)
    go true rest = h.0
    go false rest = rest

-- ---- a world and a process

module _ (x : World) (p : Process) (h : HasGiven x p) where
  -- Memory after a store: nothing more was given, and the process has frames of these serials.
  abbrev pub Stays : Memory → Type 0
  Stays m = StaysGiven x m.world m.process

  data_given : (q : Process) (n : ℕ) (words : List Word) → HasGiven x q → Finds Stays (with_data x n words >>= λ y. Found (memory y q))
  data_given q n words g =
      finds_on (λ y. StaysGiven x y q) Stays (with_data x n words) _
      (on_any (λ y. StaysGiven x y q) (block x n) _
      (λ b. record { rises = omega arith; given = record { running = g.running; waiting = g.waiting; made = g.made } }))
      (λ y g. g)

  words_given : (s : Spot) (words : List Word) → Finds Stays (with_words_at x p s words)
  words_given (Own at) words = record { rises = omega arith; given = record { running = h.running; waiting = h.waiting; made = h.made } }
  words_given (Data at) words = data_given p p.frame.instance words h
  words_given (Far (InFrame s) at) words = record {
    rises = omega arith;
    given = record {
      running = change_given x.outside.frames s words p.frame h.running;
      waiting = all_changed x.outside.frames s words p.below h.waiting;
      made = all_changed x.outside.frames s words p.made h.made;
    };
  }
  words_given (Far (InBlock n) at) words = data_given p n words h

  stored_given : (s : Spot) (new : Word) → Finds Stays (store x p s new)
  stored_given s new =
      on_any Stays (words_at x p s) _ (λ words. on_any Stays (stored words (place_in s) new) _ (λ after. words_given s after))

  number_given : (kind : Kind) (s : Spot) (z : ℤ) → Finds Stays (store_number kind x p s z)
  number_given kind s z = on_any Stays (words_at x p s) _ (λ words. on_any Stays (with_number_at kind words (place_in s) z) _
      (λ after. words_given s after))

  -- The process goes on with frames of these serials.
  goes_on : (f : Frame) (below made : List Frame) → f.serial < x.outside.frames → AreGiven x.outside.frames below →
      AreGiven x.outside.frames made →
      StaysGiven x x (with_frames p f below made)
  goes_on f below made lt b m = record { rises = omega arith; given = record { running = lt; waiting = b; made = m } }

  -- It stays where it is, or goes on with the next instruction or elsewhere.
  jumped : (pc : ℕ) → IsGivenAfter x (jumps x p pc)
  jumped pc = goes_on _ p.below p.made h.running h.waiting h.made

  -- An effect, or a fault.
  abbrev Good : Access Does → Type 0
  Good a = Finds (IsGivenAfter x) a

  any : {S : Type 0} (a : Access S) (f : S → Access Does) → ((s : S) → Good (f s)) → Good (a >>= f)
  any a f g = on_any (IsGivenAfter x) a f g

  -- The memory after a store, and what follows.
  then_next : (a : Access Memory) (f : Memory → Access Does) → Finds Stays a → ((m : Memory) → Stays m → Good (f m)) → Good (a >>= f)
  then_next a f h g = finds_on Stays (IsGivenAfter x) a f h g

  either : (b : Bool) (pc : ℕ) (m : Memory) → IsGivenAfter x (next m) → IsGivenAfter x (if b then jumps x p pc else next m)
  either true pc m g = jumped pc
  either false pc m g = g

  returns_given : (fs : List Frame) → AreGiven x.outside.frames fs → IsGivenAfter x (returns x p fs)
  returns_given [] g = omega arith
  returns_given (f ∷ fs) g = goes_on f fs p.made g.0 g.1 h.made

  calls_given : (limit : ℕ) (f : Frame) (pc : ℕ) → f.serial < x.outside.frames → IsGivenAfter x (calls limit x p f pc)
  calls_given limit f pc lt =
      go (nat_lt (height p) limit) _
      (goes_on _ (_ ∷ p.below) (without f.serial p.made) lt (h.running, h.waiting) (without_given x.outside.frames f.serial p.made h.made))
    where
      go : (b : Bool) (q : Process) → StaysGiven x x q → IsGivenAfter x (if b then Went x q else Ends x (Broken (codes "stack overflow")))
      go true q g = g
      go false q g = omega arith

  frame_given : (w : Word) → Finds (λ f. f.serial < x.outside.frames) (frame_at x p w)
  frame_given (Address (InFrame s) at) =
      on_any (λ f. f.serial < x.outside.frames) (words_in s (all_frames p)) _ (λ words. go (int_eq at (pos 0)))
    where
      go : (b : Bool) → Finds (λ f. f.serial < x.outside.frames) (if b then made_frame p.made s else Wrong type_check)
      go true = made_given x.outside.frames p.made s h.made
      go false = tt
  frame_given (Address (InBlock n) at) = on_any (λ f. f.serial < x.outside.frames) (block x n) _ (λ c. tt)
  frame_given (Plain n) = tt
  frame_given (Refer r) = tt

-- Memory after a store, and the process that goes on in it.
next_given : (x : World) (m : Memory) → StaysGiven x m.world m.process → IsGivenAfter x (next m)
next_given x m g =
    record { rises = g.rises; given = record { running = g.given.running; waiting = g.given.waiting; made = g.given.made } }

-- What was given in a world with another heap or another outside.
elsewhere : (x y : World) (a : Access Memory) → y.outside.frames ≡ x.outside.frames →
    Finds (λ m. StaysGiven y m.world m.process) a → Finds (λ m. StaysGiven x m.world m.process) a
elsewhere x y (Found m) e g = let r = g.rises in record { rises = omega arith; given = g.given }
elsewhere x y (Wrong n) e g = tt
elsewhere x y (Raises text) e g = tt

-- ---- results

module _ (x : World) (p : Process) (h : HasGiven x p) where
  -- A store, and the process goes on.
  stores_on : (s : Spot) (new : Word) → Good x p h (store x p s new >>= λ m. Found (next m))
  stores_on s new = then_next x p h (store x p s new) _ (stored_given x p h s new) (λ m g. next_given x m g)

  -- Words in place of others, and the process goes on.
  words_on : (d : Spot) (a : Access (List Word)) → Good x p h (a >>= with_words_at x p d >>= λ m. Found (next m))
  words_on d a =
      then_next x p h (a >>= with_words_at x p d) _ (on_any (Stays x p h) a _ (λ words. words_given x p h d words))
      (λ m g. next_given x m g)

  number_at_on : (kind : Kind) (d : Spot) (r : Access ℤ) → Good x p h (gives_number_at x p kind d r)
  number_at_on kind d r =
      any x p h (read_number kind x p d) _ (λ old. any x p h r _ (λ z.
      then_next x p h (store_number kind x p d z) _ (number_given x p h kind d z) (λ m g. next_given x m g)))

  number_on : (kind : Kind) (o : Operand) (r : Access ℤ) → Good x p h (gives_number x p kind o r)
  number_on kind o r = any x p h (spot x p o) _ (λ d. number_at_on kind d r)

  plain_on : (d : Spot) (r : Access Word) → Good x p h (gives_plain_at x p d r)
  plain_on d r = any x p h (read x p d >>= plain) _ (λ old. any x p h r _ (λ w. stores_on d w))

  reference_at_on : (d : Spot) (r : Access (Option ℕ)) → Good x p h (gives_reference_at x p d r)
  reference_at_on d r = any x p h (reference_at x p d) _ (λ old. any x p h r _ (λ k. stores_on d (Refer k)))

  reference_on : (o : Operand) (r : Access (Option ℕ)) → Good x p h (gives_reference x p o r)
  reference_on o r = any x p h (spot x p o) _ (λ d. reference_at_on d r)

  block_at_on : (d : Spot) (r : Access Block) → Good x p h (gives_block_at x p d r)
  block_at_on d r =
      any x p h (reference_at x p d) _ (λ old. any x p h r _ (λ b.
      then_next x p h (store (with_block x b) p d (Refer (Some (next_serial x)))) _
      (elsewhere x (with_block x b) _ refl
      (stored_given (with_block x b) p (record { running = h.running; waiting = h.waiting; made = h.made }) d (Refer (Some (next_serial x)))))
      (λ m g. next_given x m g)))

  block_on : (o : Operand) (r : Access Block) → Good x p h (gives_block x p o r)
  block_on o r = any x p h (spot x p o) _ (λ d. block_at_on d r)

  -- ---- prints

  answered_given : (w : outside.World) (place : Place) (at : ℤ) (v : Value) → Finds
      (λ m. StaysGiven x m.world m.process) (answered (with_outside x w) p place at v)
  answered_given w place at v =
      elsewhere x (with_outside x w) _ refl
      (stored_given (with_outside x w) p (record { running = h.running; waiting = h.waiting; made = h.made }) (Far place at) (word_of v))

  prints_given : (place : Place) (at : ℤ) (g : Printing) → Good x p h (prints x p place at g)
  prints_given place at (Answers w v) =
      then_next x p h (answered (with_outside x w) p place at v) _ (answered_given w place at v) (λ m g. next_given x m g)
  prints_given place at (Requests w m k) =
      record { rises = omega arith; given = record { running = h.running; waiting = h.waiting; made = h.made } }
  prints_given place at NoReply = record { rises = omega arith; given = h }

module _ (x : World) (p : Process) (h : HasGiven x p) where
  print_given : (f : Frame) → Good x p h (print_call x p f)
  print_given f =
      any x p h (printed x f.words) _ (λ text. any x p h (answer_spot f.words) _ (λ s. any x p h (place_of s) _ (λ place.
      prints_given x (with_frames p p.frame p.below (without f.serial p.made))
      (record { running = h.running; waiting = h.waiting; made = without_given x.outside.frames f.serial p.made h.made })
      place (place_in s) (print (outside_of x) text))))

  sys_given : (name : List ℕ) (f : Frame) → Good x p h (sys_call x p name f)
  sys_given name f = go (bytes_eq name (codes "print"))
    where
      go : (b : Bool) → Good x p h (if b then print_call x p f else Wrong type_check)
      go true = print_given f
      go false = tt

  -- A frame that is made has the next serial.
  framed_given : (m : Memory) (words : List Word) → StaysGiven x m.world m.process → IsGivenAfter x (next (framed m words))
  framed_given m words g =
      let n = m.world.outside.frames in
      let r = g.rises in
      let lt = g.given.running in
      record {
        rises = omega arith;
        given = record {
          running = omega arith;
          waiting = more_given n (suc n) m.process.below (omega arith) g.given.waiting;
          made = one_more (suc n) m.process.made _ (more_given n (suc n) m.process.made (omega arith) g.given.made) (omega arith);
        };
      }

-- ---- the instructions by families

module _ (x : World) (p : Process) (h : HasGiven x p) (o : Object) (i : Inst) where
  row_given : (row : Row) → Good x p h (numbers.by_row o x p i row)
  row_given (Calculates kind operator) =
      any x p h (source_of kind x p i.src) _ (λ s. any x p h (middle_of kind x p i.middle i.dst) _ (λ m.
      number_on x p h kind i.dst (unless_raised (applied kind operator m s))))
  row_given (Shifts kind shift) =
      any x p h (source_of Int x p i.src) _ (λ s. any x p h (middle_of kind x p i.middle i.dst) _ (λ m.
      number_on x p h kind i.dst (Found (shifted kind shift m s))))
  row_given (Converts from to) = any x p h (source_of from x p i.src) _ (λ s. number_on x p h to i.dst (Found (wrapped to s)))
  row_given (Moves kind) = any x p h (source_of kind x p i.src) _ (λ s. number_on x p h kind i.dst (Found s))
  row_given (Branches Int c) =
      any x p h (source_word x p i.src) _ (λ s. any x p h (middle_word x p i.middle) _ (λ m. any x p h (numbers.words_compared c s m) _
      (λ holds.
      any x p h (target o i.dst) _ (λ pc. either x p h holds pc (memory x p) (jumped x p h _)))))
  row_given (Branches Byte c) =
      any x p h (source_of Byte x p i.src) _ (λ s. any x p h (given_of Byte x p i.middle) _ (λ m. any x p h (target o i.dst) _ (λ pc.
      either x p h (compared c s m) pc (memory x p) (jumped x p h _))))
  row_given (Branches Big c) =
      any x p h (source_of Big x p i.src) _ (λ s. any x p h (given_of Big x p i.middle) _ (λ m. any x p h (target o i.dst) _ (λ pc.
      either x p h (compared c s m) pc (memory x p) (jumped x p h _))))

  texts_given : (c : Option Comparison) (limit : ℕ) → Good x p h (by_texts limit o x p i c)
  texts_given (Some c) limit =
      any x p h (source_reference x p i.src >>= text_at x) _ (λ s. any x p h (middle_reference x p i.middle >>= text_at x) _ (λ m.
      any x p h (target o i.dst) _ (λ pc. either x p h (text_compared c s m) pc (memory x p) (jumped x p h _))))
  texts_given None limit = tt

  table_given : (c : Op) (row : Option Row) (limit : ℕ) → Good x p h (by_numbers limit o x p i c row)
  table_given c (Some row) limit = row_given row
  table_given c None limit = texts_given (text_row c) limit

  copied_given : (s t : Option Elements) (at : ℕ) → Good x p h (arrays.copied x p s t at)
  copied_given (Some s) (Some t) at =
      any x p h (arrays.overwritten s t at) _ (λ words.
      finds_on (λ y. StaysGiven x y p) (IsGivenAfter x) (with_data x t.array words) _
      (on_any (λ y. StaysGiven x y p) (block x t.array) _
      (λ b. record { rises = omega arith; given = record { running = h.running; waiting = h.waiting; made = h.made } }))
      (λ y g. next_given x (memory y p) g))
  copied_given (Some s) None at = jumped x p h _
  copied_given None t at = jumped x p h _

  sliced_given : (d : Spot) (es : Option Elements) (from to : ℤ) → Good x p h (arrays.sliced o x p i d es from to)
  sliced_given d None from to = reference_at_on x p h d _
  sliced_given d (Some e) from to = block_at_on x p h d _

  indexed : (kind : Option Elements → Access (Option Elements)) → Good x p h (arrays.indexes o x p i kind)
  indexed kind =
      any x p h (source_reference x p i.src >>= elements_at x >>= kind) _ (λ es. any x p h (middle_spot i.middle) _ (λ d.
      any x p h (source_of Int x p i.dst) _ (λ index. plain_on x p h d _)))

  consed : (element : Access (List Word)) → Good x p h (lists.conses o x p i element)
  consed element =
      any x p h (spot x p i.dst) _ (λ d. any x p h (reference_at x p d) _ (λ rest. block_at_on x p h d _))

  channel_given : (m : Middle) (element : TypeDesc) → Good x p h (lists.channel o x p i m element)
  channel_given middle.None element = block_on x p h i.dst (Found (Channel element))
  channel_given (middle.Imm n) element = tt
  channel_given (middle.Fp at) element = tt
  channel_given (middle.Mp at) element = tt

  loaded_given : (b : Bool) (table : List (List ℕ)) →
      Good x p h (if b then gives_block x p i.dst (Found (Sys table)) else gives_reference x p i.dst (Found None))
  loaded_given true table = block_on x p h i.dst (Found (Sys table))
  loaded_given false table = reference_on x p h i.dst (Found None)

  abbrev first : Access (Option Linked)
  first = source_reference x p i.src >>= first_cell x

  obey_given : (limit : ℕ) (c : Op) → Good x p h (obey limit o x p i c)
  obey_given limit op.Movw = any x p h (source_plain x p i.src) _ (λ w. any x p h (spot x p i.dst) _ (λ d. plain_on x p h d (Found w)))
  obey_given limit op.Movp = any x p h (source_reference x p i.src) _ (λ r. reference_on x p h i.dst (Found r))
  obey_given limit op.Movm =
      any x p h (spot x p i.src) _ (λ s. any x p h (words_at x p s) _ (λ source. any x p h (at_least_zero (place_in s)) _ (λ from.
      any x p h (given_of Int x p i.middle >>= at_least_zero) _ (λ count. any x p h (spot x p i.dst) _ (λ d. any x p h (words_at x p d)
      _ (λ target.
      any x p h (at_least_zero (place_in d)) _ (λ to. words_on x p h d (copies.moved source from target to count))))))))
  obey_given limit op.Movmp =
      any x p h (spot x p i.src) _ (λ s. any x p h (words_at x p s) _ (λ source. any x p h (word_number (place_in s)) _ (λ from.
      any x p h (middle_type o i.middle) _ (λ desc. any x p h (typed_words desc source from) _ (λ vs. any x p h (spot x p i.dst) _ (λ d.
      any x p h (words_at x p d) _ (λ target. any x p h (word_number (place_in d)) _
      (λ to. words_on x p h d (copies.put target to vs)))))))))
  obey_given limit op.Lea =
      any x p h (spot x p i.src) _ (λ s. any x p h (around x p s) _ (λ w. any x p h (spot x p i.dst) _
      (λ d. plain_on x p h d (Found (address p s)))))
  obey_given limit op.New = any x p h (source_type o i.src) _ (λ desc. block_on x p h i.dst (Found (Record (blank desc))))
  obey_given limit op.Newz = any x p h (source_type o i.src) _ (λ desc. block_on x p h i.dst (Found (Record (blank desc))))
  obey_given limit op.Newa =
      any x p h (source_of Int x p i.src) _ (λ long. any x p h (middle_type o i.middle) _ (λ element. block_on x p h i.dst _))
  obey_given limit op.Newaz =
      any x p h (source_of Int x p i.src) _ (λ long. any x p h (middle_type o i.middle) _ (λ element. block_on x p h i.dst _))
  obey_given limit op.Indx = indexed _
  obey_given limit op.Indb = indexed _
  obey_given limit op.Indw = indexed _
  obey_given limit op.Indl = indexed _
  obey_given limit op.Lena =
      any x p h (source_reference x p i.src >>= elements_at x) _ (λ es. number_on x p h Int i.dst (Found (pos (length_of es))))
  obey_given limit op.Slicea =
      any x p h (source_of Int x p i.src) _ (λ from. any x p h (given_of Int x p i.middle) _ (λ to. any x p h (spot x p i.dst) _ (λ d.
      any x p h (reference_at x p d >>= elements_at x) _ (λ es. sliced_given d es from to))))
  obey_given limit op.Slicela =
      any x p h (source_reference x p i.src >>= elements_at x) _ (λ s. any x p h (given_of Int x p i.middle) _ (λ at.
      any x p h (source_reference x p i.dst >>= elements_at x >>= arrays.of_one_type s) _ (λ t.
      any x p h (unless_raised (bounds_in (length_of t) at (arrays.end_from at (length_of s)))) _ (λ b. copied_given s t b.0))))
  obey_given limit op.Addc =
      any x p h (source_reference x p i.src >>= text_at x) _ (λ s. any x p h (strings.left_text o x p i i.middle) _
      (λ m. block_on x p h i.dst _))
  obey_given limit op.Lenc =
      any x p h (source_reference x p i.src >>= text_at x) _ (λ s. number_on x p h Int i.dst (Found (pos (length s))))
  obey_given limit op.Indc =
      any x p h (source_reference x p i.src >>= text_at x) _ (λ s. any x p h (given_of Int x p i.middle) _
      (λ at. number_on x p h Int i.dst _))
  obey_given limit op.Insc =
      any x p h (source_of Int x p i.src) _ (λ code. any x p h (given_of Int x p i.middle) _ (λ at. any x p h (spot x p i.dst) _ (λ d.
      any x p h (reference_at x p d >>= text_at x) _ (λ s. block_at_on x p h d _))))
  obey_given limit op.Slicec =
      any x p h (source_of Int x p i.src) _ (λ from. any x p h (given_of Int x p i.middle) _ (λ to. any x p h (spot x p i.dst) _ (λ d.
      any x p h (reference_at x p d >>= text_at x) _ (λ s. block_at_on x p h d _))))
  obey_given limit op.Cvtwc = any x p h (source_of Int x p i.src) _ (λ z. block_on x p h i.dst (Found (Text (number_text z))))
  obey_given limit op.Cvtlc = any x p h (source_of Big x p i.src) _ (λ z. block_on x p h i.dst (Found (Text (number_text z))))
  obey_given limit op.Cvtcw =
      any x p h (source_reference x p i.src >>= text_at x) _ (λ s. number_on x p h Int i.dst (Found (number_read Int s)))
  obey_given limit op.Cvtcl =
      any x p h (source_reference x p i.src >>= text_at x) _ (λ s. number_on x p h Big i.dst (Found (number_read Big s)))
  obey_given limit op.Cvtca =
      any x p h (source_reference x p i.src >>= text_at x) _ (λ s. block_on x p h i.dst (strings.array_of (encode_utf8_all s)))
  obey_given limit op.Cvtac =
      any x p h (source_reference x p i.src >>= elements_at x >>= strings.bytes_in) _
      (λ bs. block_on x p h i.dst _)
  obey_given limit op.Consb = any x p h (source_of Byte x p i.src) _ (λ z. consed (with_number_at Byte (lists.holder_of Byte) (pos 0) z))
  obey_given limit op.Consw = any x p h (source_of Int x p i.src) _ (λ z. consed (with_number_at Int (lists.holder_of Int) (pos 0) z))
  obey_given limit op.Consl = any x p h (source_of Big x p i.src) _ (λ z. consed (with_number_at Big (lists.holder_of Big) (pos 0) z))
  obey_given limit op.Consp = any x p h (source_reference x p i.src) _ (λ r. consed (Found (Refer r ∷ [])))
  obey_given limit op.Consm =
      any x p h (spot x p i.src) _ (λ s. any x p h (words_at x p s) _ (λ source. any x p h (at_least_zero (place_in s)) _ (λ from.
      any x p h (given_of Int x p i.middle >>= at_least_zero) _ (λ count.
      any x p h (copies.moved source from (blank (lists.plain_type count)) 0 count) _ (λ element. consed (Found element))))))
  obey_given limit op.Consmp =
      any x p h (spot x p i.src) _ (λ s. any x p h (words_at x p s) _ (λ source. any x p h (word_number (place_in s)) _ (λ from.
      any x p h (middle_type o i.middle) _ (λ desc. any x p h (typed_words desc source from) _ (λ element. consed (Found element))))))
  obey_given limit op.Headb = any x p h first _ (λ c. number_on x p h Byte i.dst _)
  obey_given limit op.Headw = any x p h first _ (λ c. number_on x p h Int i.dst _)
  obey_given limit op.Headl = any x p h first _ (λ c. number_on x p h Big i.dst _)
  obey_given limit op.Headp = any x p h first _ (λ c. reference_on x p h i.dst _)
  obey_given limit op.Headm =
      any x p h first _ (λ c. any x p h (given_of Int x p i.middle >>= at_least_zero) _ (λ count. any x p h (spot x p i.dst) _ (λ d.
      any x p h (words_at x p d) _ (λ target. any x p h (at_least_zero (place_in d)) _ (λ to. any x p h (not_nil c) _ (λ c.
      words_on x p h d (copies.moved c.element 0 target to count)))))))
  obey_given limit op.Headmp =
      any x p h first _ (λ c. any x p h (middle_type o i.middle) _ (λ desc. any x p h (spot x p i.dst) _ (λ d.
      any x p h (words_at x p d) _ (λ target. any x p h (word_number (place_in d)) _ (λ to. any x p h (not_nil c) _ (λ c.
      words_on x p h d (typed_words desc c.element 0 >>= copies.put target to)))))))
  obey_given limit op.Tail = any x p h first _ (λ c. reference_on x p h i.dst _)
  obey_given limit op.Lenl = any x p h (source_reference x p i.src >>= list_length x) _ (λ n. number_on x p h Int i.dst (Found (wrapped Int (pos n))))
  obey_given limit op.Newcb = channel_given i.middle _
  obey_given limit op.Newcw = channel_given i.middle _
  obey_given limit op.Newcl = channel_given i.middle _
  obey_given limit op.Newcp = channel_given i.middle _
  obey_given limit op.Newcm = any x p h (immediate i.src) _ (λ size. channel_given i.middle _)
  obey_given limit op.Newcmp = any x p h (source_type o i.src) _ (λ desc. channel_given i.middle _)
  obey_given limit op.Jmp = any x p h (target o i.dst) _ (λ pc. jumped x p h pc)
  obey_given limit op.Frame =
      any x p h (source_type o i.src) _ (λ desc. any x p h (spot x p i.dst) _ (λ d.
      then_next x p h (store x p d (Address (InFrame (next_frame x)) (pos 0))) _ (stored_given x p h d _)
      (λ m g. framed_given x p h m (blank desc) g)))
  obey_given limit op.Call =
      finds_on (λ f. f.serial < x.outside.frames) (IsGivenAfter x) (source_word x p i.src >>= frame_at x p) _
      (on_any (λ f. f.serial < x.outside.frames) (source_word x p i.src) _ (λ w. frame_given x p h w))
      (λ f lt. any x p h (target o i.dst) _ (λ pc. calls_given x p h limit f pc lt))
  obey_given limit op.Ret = returns_given x p h p.below h.waiting
  obey_given limit op.Load =
      any x p h (source_reference x p i.src >>= text_at x) _ (λ path. any x p h (middle_immediate i.middle) _ (λ n.
      any x p h (or_wrong type_check (slice_get o.imports n)) _ (λ table. loaded_given (bytes_eq path path_of_sys) (names table))))
  obey_given limit op.Mcall =
      any x p h (source_word x p i.src >>= frame_at x p) _ (λ f. any x p h (middle_immediate i.middle) _ (λ k.
      any x p h (source_reference x p i.dst >>= loaded_module >>= block x) _ (λ b. any x p h (function_of b k) _
      (λ name. sys_given x p h name f))))
  obey_given limit operation = table_given operation (number_row operation) limit

module _ (x : World) (p : Process) (h : HasGiven x p) where
  or_fault_given : (q : Process) (a : Access Does) → Good x p h a → IsGivenAfter x (or_fault x q a)
  or_fault_given q (Found d) g = g
  or_fault_given q (Wrong n) g = omega arith
  or_fault_given q (Raises text) g = omega arith

  step_given : (limit : ℕ) (objects : List Object) → IsGivenAfter x (step limit objects x p)
  step_given limit objects =
      or_fault_given p _ (any x p h (code_of limit objects x p) _ (λ o. any x p h (or_wrong bad_jump (slice_get o.insts p.frame.pc)) _
      (λ i.
      obey_given x p h o i limit i.op)))

  hears_given : (place : Place) (at : ℤ) (g : Printing) → IsGivenAfter x (hears x p place at g)
  hears_given place at (Answers w v) =
      or_fault_given p _ (then_next x p h (answered (with_outside x w) p place at v) _ (answered_given x p h w place at v)
      (λ m g. record { rises = g.rises; given = record { running = g.given.running; waiting = g.given.waiting; made = g.given.made } }))
  hears_given place at (Requests w m k) =
      record { rises = omega arith; given = record { running = h.running; waiting = h.waiting; made = h.made } }
  hears_given place at NoReply = record { rises = omega arith; given = h }

  answer_given : (a : Rmsg) → IsGivenAfter x (answer a x p)
  answer_given a = go p.printing
    where
      go : (k : Option process.Printing) → IsGivenAfter x (heard a x p k)
      go None = record { rises = omega arith; given = h }
      go (Some k) = hears_given k.place k.at (hear a (outside_of x) k.writing)

pub serials_are_given : SerialsAreGiven
serials_are_given = record { steps = λ limit objects x p h. step_given x p h limit objects; replies = λ a x p h. answer_given x p h a }
