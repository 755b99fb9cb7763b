-- Each instruction faults without an effect, changes nothing where it breaks its process, lets no block go, and changes what the process
-- reaches alone.
use Rattle.std.proofs.Common.{◌≡◌, ℕ, ℤ, Bool, true, false, List, [], ◌∷◌, refl, sym, ap, subst, ◌∙◌, if◌then◌else◌}
use Rattle.std.specs.Prelude.{Option, Some, None, nat_lt, pos, codes, slice_get, length, encode_utf8_all}
use Rattle.std.specs.Str.{bytes_eq}
use Rattle.process_model.specs.Process.{Went, Ends}
use Rattle.limbo_values.specs.declared.number.Kind.{Kind}
use Rattle.limbo_values.specs.declared.number.Kind.TheVariants.{Byte, Int, Big}
use Rattle.limbo_values.specs.declared.operator.Comparison.{Comparison}
use Rattle.dis_isa.specs.declared.inst.Inst.{Inst}
use Rattle.dis_isa.specs.declared.inst.Middle.{Middle}
use Rattle.dis_isa.specs.declared.inst.Middle.TheVariants as middle
use Rattle.dis_isa.specs.declared.inst.Operand.{Operand}
use Rattle.dis_isa.specs.declared.op.Op.{Op}
use Rattle.dis_isa.specs.declared.op.Op.TheVariants as op
use Rattle.dis_file.specs.declared.object.Object.{Object}
use Rattle.dis_file.specs.declared.types.TypeDesc.{TypeDesc}
use Rattle.system_model.specs.Prints.{Printing, Answers, Requests, NoReply, print}
use Rattle.system_model.specs.World as outside
use Rattle.system_model.specs.Ending.{Ended, Broken, Faulted}
use Rattle.dis_meaning.specs.Words.{Place, InFrame, Word, Refer, Address, Access, Found, Wrong, Raises, ◌>>=◌, type_check, bad_jump}
use Rattle.dis_meaning.specs.Words.{or_wrong, at_least_zero, word_number, plain, blank}
use Rattle.dis_meaning.specs.Numbers.{Row, Calculates, Shifts, Converts, Moves, Branches, number_row, with_number_at}
use Rattle.dis_meaning.specs.Places.{Spot, Far, place_in, address}
use Rattle.dis_meaning.specs.Process.{Frame, Process, with_frames, height}
use Rattle.dis_meaning.specs.Step.{without, place_of, word_of, names, path_of_sys}
use Rattle.limbo_values.specs.Numbers.{wrapped}
use Rattle.limbo_values.specs.Operators.{shifted}
use Rattle.limbo_values.specs.Texts.{bounds_in}
use Rattle.limbo_values.specs.Conversions.{number_text, number_read}
use Rattle.dis_memory.specs.Blocks.{Block, Record, Text, Channel, Sys, World, block, with_block, next_serial}
use Rattle.dis_memory.specs.Raising.{not_nil, unless_raised}
use Rattle.dis_memory.specs.Kinds.{Elements, elements_at, length_of, text_at, list_length}
use Rattle.dis_memory.specs.Places.{Memory, memory, with_data, with_words_at, words_at, read, around, store, store_number, read_number}
use Rattle.dis_memory.specs.Places.{spot, middle_spot, source_of, given_of, middle_of, source_plain, source_word, middle_word, source_reference}
use Rattle.dis_memory.specs.Places.{reference_at}
use Rattle.dis_memory.specs.Operands.{immediate, middle_immediate, source_type, middle_type, target}
use Rattle.dis_memory.specs.Copies.{moved, put, typed_words}
use Rattle.dis_memory.specs.Process.{Does, next, jumps, or_fault}
use Rattle.dis_memory.specs.Results.{gives_number_at, gives_number, gives_plain_at, gives_reference_at, gives_reference, gives_block_at}
use Rattle.dis_memory.specs.Results.{gives_block}
use Rattle.dis_memory.specs.Data as data_ops
use Rattle.dis_memory.specs.Arrays as arrays
use Rattle.dis_memory.specs.Strings as strings
use Rattle.dis_memory.specs.Strings.{text_row}
use Rattle.dis_memory.specs.Lists as lists
use Rattle.dis_memory.specs.Numbers as numbers
use Rattle.dis_memory.specs.Control as control
use Rattle.dis_memory.specs.Step.{type_of_size, by_texts, by_numbers, obey, work, code_of}
use Rattle.dis_memory.specs.Laws.{FaultsChangeNothing, BreaksChangeNothing, Grown, GrownBy, NothingGoesWithin, Reaches, ChangesReached}
use Rattle.dis_memory.specs.Laws.{ReachedBy, OnlyReachedChanges}
use Rattle.dis_memory.proofs.Growing.{both, found_same, grown_same, grown_data, grown_put, grown_store, grown_number, grown_new}
use Rattle.dis_memory.proofs.Reaching.{ReachedSpot, spot_reached, middle_reached, elements_reached, put_changes, store_changes, number_changes}
use Rattle.dis_memory.proofs.Reaching.{far_changes, array_changes, none_changed, block_added, NearFrame, frame_near, answer_reached}
use Rattle.dis_memory.proofs.Reaching.{place_reached}
use Rattle.system_model.specs.Values.{Value}

-- An effect that isn't a fault, that changes nothing where the process breaks, of which the heap has grown, and that changed what the
-- process reaches alone.
abbrev NoFault : World → Does → Type 0
NoFault x (Ends y Ended) = Unit {0}
NoFault x (Ends y (Broken text)) = y ≡ x
NoFault x (Ends y (Faulted number pc)) = ⊥
NoFault x _ = Unit {0}

data Fair (x : World) (p : Process) : Access Does → Type 0 where
  found : (d : Does) → NoFault x d → GrownBy x d → ReachedBy x p d → Fair x p (Found d)
  wrong : (n : ℕ) → Fair x p (Wrong n)
  raises : (text : List ℕ) → Fair x p (Raises text)

chain : {T : Type 0} {x : World} {p : Process} (a : Access T) (f : T → Access Does) → ((t : T) → a ≡ Found t → Fair x p (f t))
    → Fair x p (a >>= f)
chain (Found t) f h = h t refl
chain (Wrong n) f h = wrong n
chain (Raises text) f h = raises text

-- The process goes on.
went : (x : World) (p : Process) (m : Memory) → Grown x m.world → ChangesReached x p m.world → Fair x p (Found (next m))
went x p m g c = found _ tt g c

module _ (x : World) (p : Process) where
  -- ---- results, in a place that the process reaches

  number_fair : (kind : Kind) (d : Spot) → ReachedSpot x p d → (r : Access ℤ) → Fair x p (gives_number_at x p kind d r)
  number_fair kind d n r =
      chain (read_number kind x p d) _ (λ old a. chain r _ (λ z b. chain (store_number kind x p d z) _ (λ m c.
      went x p m (grown_number kind x p d z m c) (number_changes x p x (none_changed x p) kind d z m n c))))

  to_number : (kind : Kind) (o : Operand) (r : Access ℤ) → Fair x p (gives_number x p kind o r)
  to_number kind o r = chain (spot x p o) _ (λ d a. number_fair kind d (spot_reached x p o d a) r)

  plain_fair : (d : Spot) → ReachedSpot x p d → (r : Access Word) → Fair x p (gives_plain_at x p d r)
  plain_fair d n r =
      chain (read x p d >>= plain) _ (λ old a. chain r _ (λ w b. chain (store x p d w) _ (λ m c.
      went x p m (grown_store x p d w m c) (store_changes x p x (none_changed x p) d w m n c))))

  reference_fair : (d : Spot) → ReachedSpot x p d → (r : Access (Option ℕ)) → Fair x p (gives_reference_at x p d r)
  reference_fair d n r =
      chain (reference_at x p d) _ (λ old a. chain r _ (λ w b. chain (store x p d (Refer w)) _ (λ m c.
      went x p m (grown_store x p d (Refer w) m c) (store_changes x p x (none_changed x p) d (Refer w) m n c))))

  to_reference : (o : Operand) (r : Access (Option ℕ)) → Fair x p (gives_reference x p o r)
  to_reference o r = chain (spot x p o) _ (λ d a. reference_fair d (spot_reached x p o d a) r)

  block_fair : (d : Spot) → ReachedSpot x p d → (r : Access Block) → Fair x p (gives_block_at x p d r)
  block_fair d n r =
      chain (reference_at x p d) _ (λ old a. chain r _ (λ b e.
      chain (store (with_block x b) p d (Refer (Some (next_serial x)))) _ (λ m c.
      went x p m (grown_new x b p d (Refer (Some (next_serial x))) m c)
      (store_changes x p (with_block x b) (block_added x p b) d (Refer (Some (next_serial x))) m n c))))

  to_block : (o : Operand) (r : Access Block) → Fair x p (gives_block x p o r)
  to_block o r = chain (spot x p o) _ (λ d a. block_fair d (spot_reached x p o d a) r)

  stays : Fair x p (Found (next (memory x p)))
  stays = went x p (memory x p) (grown_same x) (none_changed x p)

  -- ---- calls and prints

  returns_fair : (fs : List Frame) → Fair x p (Found (control.returns x p fs))
  returns_fair [] = found _ tt (grown_same x) (none_changed x p)
  returns_fair (f ∷ fs) = found _ tt (grown_same x) (none_changed x p)

  calls_fair : (limit : ℕ) (f : Frame) (pc : ℕ) → Fair x p (Found (control.calls limit x p f pc))
  calls_fair limit f pc = go (nat_lt (height p) limit) _
    where
      go : (b : Bool) (q : Process) → Fair x p (Found (if b then Went x q else Ends x (Broken (codes "stack overflow"))))
      go true q = found _ tt (grown_same x) (none_changed x p)
      go false q = found _ refl (grown_same x) (none_changed x p)

-- What is outside doesn't count.
grown_outside : (x y : World) (w : outside.World) → Grown (control.with_outside x w) y → Grown x y
grown_outside x y w g = record { longer = g.longer; there = g.there; empty = g.empty }

made_outside : (x y : World) → Grown x y → Grown x (control.with_frame_made y)
made_outside x y g = record { longer = g.longer; there = g.there; empty = g.empty }

-- The print of process p, one of whose frames is gone, q.
prints_fair : (x : World) (p q : Process) (place : Place) (at : ℤ) (g : Printing)
    → ((w : outside.World) (v : Value) (m : Memory) → control.answered (control.with_outside x w) q place at v ≡ Found m → ChangesReached x p m.world)
    → Fair x p (control.prints x q place at g)
prints_fair x p q place at (Answers w v) changes =
    chain (control.answered (control.with_outside x w) q place at v) _
    (λ m c. went x p m (grown_outside x m.world w (grown_store (control.with_outside x w) q (Far place at) (word_of v) m c)) (changes w v m c))
prints_fair x p q place at (Requests w m k) changes =
    found _ tt (record { longer = (grown_same x).longer; there = (grown_same x).there; empty = (grown_same x).empty }) (none_changed x p)
prints_fair x p q place at NoReply changes = found _ tt (grown_same x) (none_changed x p)

print_fair : (x : World) (p : Process) (f : Frame) → NearFrame x p f → Fair x p (control.print_call x p f)
print_fair x p f near =
    chain (control.printed x f.words) _ (λ text a. chain (control.answer_spot f.words) _ (λ s b. chain (place_of s) _ (λ place c.
    prints_fair x p q place (place_in s) (print (control.outside_of x) text)
    (λ w v m e. far_changes x p (control.with_outside x w) (none_changed x p) q place (place_in s) (word_of v) m
    (place_reached x p s place (place_in s) (answer_reached x p f s near b) c) e))))
  where
    q : Process
    q = with_frames p p.frame p.below (without f.serial p.made)

sys_fair : (x : World) (p : Process) (name : List ℕ) (f : Frame) → NearFrame x p f → Fair x p (control.sys_call x p name f)
sys_fair x p name f near = go (bytes_eq name (codes "print"))
  where
    go : (b : Bool) → Fair x p (if b then control.print_call x p f else Wrong 110)
    go true = print_fair x p f near
    go false = wrong 110

-- The array that is copied into is one that the process reaches.
abbrev NearTarget : World → Process → Option Elements → Type 0
NearTarget x p None = Unit {0}
NearTarget x p (Some e) = Reaches x p e.array

copied_fair : (x : World) (p : Process) (s t : Option Elements) (n : ℕ) → NearTarget x p t → Fair x p (arrays.copied x p s t n)
copied_fair x p (Some s) (Some t) n near =
    chain (arrays.overwritten s t n) _ (λ words a. chain (with_data x t.array words) _ (λ y b.
    went x p (memory y p) (grown_data x y t.array words b) (array_changes x p x (none_changed x p) y t.array words near b)))
copied_fair x p None t n near = stays x p
copied_fair x p (Some s) None n near = stays x p

pub one_type_same : (s t u : Option Elements) → arrays.of_one_type s t ≡ Found u → t ≡ u
one_type_same (Some s) (Some t) u e = go (arrays.are_alike s.element t.element) e
  where
    go : (b : Bool) → (if b then Found (Some t) else Wrong type_check) ≡ Found u → Some t ≡ u
    go true e = found_same (Some t) u e
    go false e = absurd cc
one_type_same None t u e = found_same t u e
one_type_same (Some s) None u e = found_same None u e

target_near : (x : World) (p : Process) (o : Operand) (s t : Option Elements)
    → source_reference x p o >>= elements_at x >>= arrays.of_one_type s ≡ Found t → NearTarget x p t
target_near x p o s t e =
    let h = both (source_reference x p o >>= elements_at x) (arrays.of_one_type s) t e in
    go t (h.is ∙ ap Found (one_type_same s h.first t h.then))
  where
    go : (u : Option Elements) → source_reference x p o >>= elements_at x ≡ Found u → NearTarget x p u
    go None e = tt
    go (Some u) e = elements_reached x p o u e

-- ---- the instructions

branch_fair : (x : World) (p : Process) (b : Bool) (pc : ℕ) → Fair x p (Found (if b then jumps x p pc else next (memory x p)))
branch_fair x p true pc = found _ tt (grown_same x) (none_changed x p)
branch_fair x p false pc = stays x p

module _ (limit : ℕ) (o : Object) (x : World) (p : Process) (i : Inst) where
  put_fair : (d : Spot) → ReachedSpot x p d → (a : Access (List Word)) → Fair x p (a >>= with_words_at x p d >>= λ m. Found (next m))
  put_fair d n a =
      chain (a >>= with_words_at x p d) _ (λ m c. went x p m (grown_put x p d a m c) (put_changes x p x (none_changed x p) d a m n c))

  row_fair : (row : Row) → Fair x p (numbers.by_row o x p i row)
  row_fair (Calculates kind operator) =
      chain (source_of kind x p i.src) _ (λ s a. chain (middle_of kind x p i.middle i.dst) _ (λ m b. to_number x p kind i.dst _))
  row_fair (Shifts kind shift) =
      chain (source_of Int x p i.src) _ (λ s a. chain (middle_of kind x p i.middle i.dst) _ (λ m b. to_number x p kind i.dst (Found (shifted kind shift m s))))
  row_fair (Converts from to) = chain (source_of from x p i.src) _ (λ s a. to_number x p to i.dst (Found (wrapped to s)))
  row_fair (Moves kind) = chain (source_of kind x p i.src) _ (λ s a. to_number x p kind i.dst (Found s))
  row_fair (Branches Int c) =
      chain (source_word x p i.src) _ (λ s a. chain (middle_word x p i.middle) _ (λ m b. chain (numbers.words_compared c s m) _ (λ holds d.
      chain (target o i.dst) _ (λ pc e. branch_fair x p holds pc))))
  row_fair (Branches Byte c) =
      chain (source_of Byte x p i.src) _ (λ s a. chain (given_of Byte x p i.middle) _ (λ m b. chain (target o i.dst) _ (λ pc e. branch_fair x p _ pc)))
  row_fair (Branches Big c) =
      chain (source_of Big x p i.src) _ (λ s a. chain (given_of Big x p i.middle) _ (λ m b. chain (target o i.dst) _ (λ pc e. branch_fair x p _ pc)))

  texts_fair : (row : Option Comparison) → Fair x p (by_texts limit o x p i row)
  texts_fair (Some c) =
      chain (strings.source_text o x p i) _ (λ s a. chain (strings.given_text o x p i) _ (λ m b. chain (target o i.dst) _ (λ pc e. branch_fair x p _ pc)))
  texts_fair None = wrong 110

  numbers_fair : (operation : Op) (row : Option Row) → Fair x p (by_numbers limit o x p i operation row)
  numbers_fair operation (Some row) = row_fair row
  numbers_fair operation None = texts_fair (text_row operation)

  ind_fair : (kind : Option Elements → Access (Option Elements)) → Fair x p (arrays.indexes o x p i kind)
  ind_fair kind =
      chain (source_reference x p i.src >>= elements_at x >>= kind) _ (λ es a. chain (middle_spot i.middle) _ (λ d b.
      chain (source_of Int x p i.dst) _ (λ index c. plain_fair x p d (middle_reached x p i.middle d b) _)))

  sliced_fair : (d : Spot) → ReachedSpot x p d → (es : Option Elements) (from to : ℤ) → Fair x p (arrays.sliced o x p i d es from to)
  sliced_fair d n None from to = reference_fair x p d n _
  sliced_fair d n (Some e) from to = block_fair x p d n _

  conses_fair : (element : Access (List Word)) → Fair x p (lists.conses o x p i element)
  conses_fair element = chain (spot x p i.dst) _ (λ d a. chain (reference_at x p d) _ (λ rest b. block_fair x p d (spot_reached x p i.dst d a) _))

  channel_fair : (m : Middle) (element : TypeDesc) → Fair x p (lists.channel o x p i m element)
  channel_fair middle.None element = to_block x p i.dst (Found (Channel element))
  channel_fair (middle.Imm n) element = wrong 110
  channel_fair (middle.Fp n) element = wrong 110
  channel_fair (middle.Mp n) element = wrong 110

  movm_fair : Fair x p (data_ops.movm o x p i)
  movm_fair =
      chain (spot x p i.src) _ (λ s a. chain (words_at x p s) _ (λ source b. chain (at_least_zero (place_in s)) _ (λ from c.
      chain (given_of Int x p i.middle >>= at_least_zero) _ (λ count e. chain (spot x p i.dst) _ (λ d f. chain (words_at x p d) _ (λ target g.
      chain (at_least_zero (place_in d)) _ (λ to h. put_fair d (spot_reached x p i.dst d f) (moved source from target to count))))))))

  movmp_fair : Fair x p (data_ops.movmp o x p i)
  movmp_fair =
      chain (spot x p i.src) _ (λ s a. chain (words_at x p s) _ (λ source b. chain (word_number (place_in s)) _ (λ from c.
      chain (middle_type o i.middle) _ (λ desc e. chain (typed_words desc source from) _ (λ vs k. chain (spot x p i.dst) _ (λ d f.
      chain (words_at x p d) _ (λ target g. chain (word_number (place_in d)) _ (λ to h. put_fair d (spot_reached x p i.dst d f) (put target to vs)))))))))

  headm_fair : Fair x p (lists.headm o x p i)
  headm_fair =
      chain (lists.first o x p i) _ (λ c a. chain (given_of Int x p i.middle >>= at_least_zero) _ (λ count b. chain (spot x p i.dst) _ (λ d e.
      chain (words_at x p d) _ (λ target f. chain (at_least_zero (place_in d)) _ (λ to g. chain (not_nil c) _ (λ cell h.
      put_fair d (spot_reached x p i.dst d e) (moved cell.element 0 target to count)))))))

  headmp_fair : Fair x p (lists.headmp o x p i)
  headmp_fair =
      chain (lists.first o x p i) _ (λ c a. chain (middle_type o i.middle) _ (λ desc b. chain (spot x p i.dst) _ (λ d e.
      chain (words_at x p d) _ (λ target f. chain (word_number (place_in d)) _ (λ to g. chain (not_nil c) _ (λ cell h.
      put_fair d (spot_reached x p i.dst d e) (typed_words desc cell.element 0 >>= put target to)))))))

  call_near : (f : Frame) → source_word x p i.src >>= control.frame_at x p ≡ Found f → NearFrame x p f
  call_near f e = let h = both (source_word x p i.src) (control.frame_at x p) f e in frame_near x p h.first f h.then

  load_fair : (b : Bool) (table : List (List ℕ)) → Fair x p (if b then gives_block x p i.dst (Found (Sys table)) else gives_reference x p i.dst (Found None))
  load_fair true table = to_block x p i.dst (Found (Sys table))
  load_fair false table = to_reference x p i.dst (Found None)

  data_fair : (op : Op) → Fair x p (obey limit o x p i op)
  data_fair op.Movw = chain (source_plain x p i.src) _ (λ w a. chain (spot x p i.dst) _ (λ d b. plain_fair x p d (spot_reached x p i.dst d b) (Found w)))
  data_fair op.Movp = chain (source_reference x p i.src) _ (λ r a. to_reference x p i.dst (Found r))
  data_fair op.Movm = movm_fair
  data_fair op.Movmp = movmp_fair
  data_fair op.Lea = chain (spot x p i.src) _ (λ s a. chain (around x p s) _ (λ w b. chain (spot x p i.dst) _ (λ d c. plain_fair x p d (spot_reached x p i.dst d c) (Found (address p s)))))
  data_fair op.New = chain (source_type o i.src) _ (λ desc a. to_block x p i.dst (Found (Record (blank desc))))
  data_fair op.Newz = chain (source_type o i.src) _ (λ desc a. to_block x p i.dst (Found (Record (blank desc))))
  data_fair op.Newa = chain (source_of Int x p i.src) _ (λ long a. chain (middle_type o i.middle) _ (λ element b. to_block x p i.dst (arrays.new_array element long)))
  data_fair op.Newaz = chain (source_of Int x p i.src) _ (λ long a. chain (middle_type o i.middle) _ (λ element b. to_block x p i.dst (arrays.new_array element long)))
  data_fair op.Indx = ind_fair (λ es. Found es)
  data_fair op.Indb = ind_fair (arrays.of_size o x p i 1)
  data_fair op.Indw = ind_fair (arrays.of_size o x p i 4)
  data_fair op.Indl = ind_fair (arrays.of_size o x p i 8)
  data_fair op.Lena = chain (source_reference x p i.src >>= elements_at x) _ (λ es a. to_number x p Int i.dst (Found (pos (length_of es))))
  data_fair op.Slicea =
      chain (source_of Int x p i.src) _ (λ from a. chain (given_of Int x p i.middle) _ (λ to b. chain (spot x p i.dst) _ (λ d c.
      chain (reference_at x p d >>= elements_at x) _ (λ es e. sliced_fair d (spot_reached x p i.dst d c) es from to))))
  data_fair op.Slicela =
      chain (source_reference x p i.src >>= elements_at x) _ (λ s a. chain (given_of Int x p i.middle) _ (λ at b.
      chain (source_reference x p i.dst >>= elements_at x >>= arrays.of_one_type s) _ (λ t c.
      chain (unless_raised (bounds_in (length_of t) at (arrays.end_from at (length_of s)))) _ (λ bounds e. copied_fair x p s t bounds.0 (target_near x p i.dst s t c)))))
  data_fair op.Addc = chain (strings.source_text o x p i) _ (λ s a. chain (strings.left_text o x p i i.middle) _ (λ m b. to_block x p i.dst _))
  data_fair op.Lenc = chain (strings.source_text o x p i) _ (λ s a. to_number x p Int i.dst (Found (pos (length s))))
  data_fair op.Indc = chain (strings.source_text o x p i) _ (λ s a. chain (given_of Int x p i.middle) _ (λ at b. to_number x p Int i.dst _))
  data_fair op.Insc =
      chain (source_of Int x p i.src) _ (λ code a. chain (given_of Int x p i.middle) _ (λ at b. chain (spot x p i.dst) _ (λ d c.
      chain (strings.text_there o x p i d) _ (λ s e. block_fair x p d (spot_reached x p i.dst d c) _))))
  data_fair op.Slicec =
      chain (source_of Int x p i.src) _ (λ from a. chain (given_of Int x p i.middle) _ (λ to b. chain (spot x p i.dst) _ (λ d c.
      chain (strings.text_there o x p i d) _ (λ s e. block_fair x p d (spot_reached x p i.dst d c) _))))
  data_fair op.Cvtwc = chain (source_of Int x p i.src) _ (λ z a. to_block x p i.dst (Found (Text (number_text z))))
  data_fair op.Cvtlc = chain (source_of Big x p i.src) _ (λ z a. to_block x p i.dst (Found (Text (number_text z))))
  data_fair op.Cvtcw = chain (strings.source_text o x p i) _ (λ s a. to_number x p Int i.dst (Found (number_read Int s)))
  data_fair op.Cvtcl = chain (strings.source_text o x p i) _ (λ s a. to_number x p Big i.dst (Found (number_read Big s)))
  data_fair op.Cvtca = chain (strings.source_text o x p i) _ (λ s a. to_block x p i.dst (strings.array_of (encode_utf8_all s)))
  data_fair op.Cvtac = chain (source_reference x p i.src >>= elements_at x >>= strings.bytes_in) _ (λ bs a. to_block x p i.dst _)
  data_fair op.Consb = chain (source_of Byte x p i.src) _ (λ z a. conses_fair (with_number_at Byte (lists.holder_of Byte) (pos 0) z))
  data_fair op.Consw = chain (source_of Int x p i.src) _ (λ z a. conses_fair (with_number_at Int (lists.holder_of Int) (pos 0) z))
  data_fair op.Consl = chain (source_of Big x p i.src) _ (λ z a. conses_fair (with_number_at Big (lists.holder_of Big) (pos 0) z))
  data_fair op.Consp = chain (source_reference x p i.src) _ (λ r a. conses_fair (Found (Refer r ∷ [])))
  data_fair op.Consm =
      chain (spot x p i.src) _ (λ s a. chain (words_at x p s) _ (λ source b. chain (at_least_zero (place_in s)) _ (λ from c.
      chain (given_of Int x p i.middle >>= at_least_zero) _ (λ count e.
      chain (moved source from (blank (lists.plain_type count)) 0 count) _ (λ element f. conses_fair (Found element))))))
  data_fair op.Consmp =
      chain (spot x p i.src) _ (λ s a. chain (words_at x p s) _ (λ source b. chain (word_number (place_in s)) _ (λ from c.
      chain (middle_type o i.middle) _ (λ desc e. chain (typed_words desc source from) _ (λ element f. conses_fair (Found element))))))
  data_fair op.Headb = chain (lists.first o x p i) _ (λ c a. to_number x p Byte i.dst _)
  data_fair op.Headw = chain (lists.first o x p i) _ (λ c a. to_number x p Int i.dst _)
  data_fair op.Headl = chain (lists.first o x p i) _ (λ c a. to_number x p Big i.dst _)
  data_fair op.Headp = chain (lists.first o x p i) _ (λ c a. to_reference x p i.dst _)
  data_fair op.Headm = headm_fair
  data_fair op.Headmp = headmp_fair
  data_fair op.Tail = chain (lists.first o x p i) _ (λ c a. to_reference x p i.dst _)
  data_fair op.Lenl = chain (source_reference x p i.src >>= list_length x) _ (λ n a. to_number x p Int i.dst (Found (wrapped Int (pos n))))
  data_fair op.Newcb = channel_fair i.middle (type_of_size 1 [])
  data_fair op.Newcw = channel_fair i.middle (type_of_size 4 [])
  data_fair op.Newcl = channel_fair i.middle (type_of_size 8 [])
  data_fair op.Newcp = channel_fair i.middle (type_of_size 4 (128 ∷ []))
  data_fair op.Newcm = chain (immediate i.src) _ (λ size a. channel_fair i.middle (type_of_size size []))
  data_fair op.Newcmp = chain (source_type o i.src) _ (λ element a. channel_fair i.middle element)
  data_fair op.Jmp = chain (target o i.dst) _ (λ pc a. found _ tt (grown_same x) (none_changed x p))
  data_fair op.Frame =
      chain (source_type o i.src) _ (λ desc a. chain (spot x p i.dst) _ (λ d b.
      chain (store x p d (Address (InFrame (control.next_frame x)) (pos 0))) _ (λ m c.
      found _ tt (made_outside x m.world (grown_store x p d (Address (InFrame (control.next_frame x)) (pos 0)) m c))
      (store_changes x p x (none_changed x p) d (Address (InFrame (control.next_frame x)) (pos 0)) m (spot_reached x p i.dst d b) c))))
  data_fair op.Call = chain (source_word x p i.src >>= control.frame_at x p) _ (λ f a. chain (target o i.dst) _ (λ pc b. calls_fair x p limit f pc))
  data_fair op.Ret = returns_fair x p p.below
  data_fair op.Load =
      chain (source_reference x p i.src >>= text_at x) _ (λ path a. chain (middle_immediate i.middle) _ (λ n b.
      chain (or_wrong type_check (slice_get o.imports n)) _ (λ table c. load_fair (bytes_eq path path_of_sys) (names table))))
  data_fair op.Mcall =
      chain (source_word x p i.src >>= control.frame_at x p) _ (λ f a. chain (middle_immediate i.middle) _ (λ k b.
      chain (source_reference x p i.dst >>= control.loaded_module >>= block x) _ (λ c e.
      chain (control.function_of c k) _ (λ name g. sys_fair x p name f (call_near f a)))))
  data_fair operation = numbers_fair operation (number_row operation)

work_fair : (limit : ℕ) (o : Object) (x : World) (p : Process) → Fair x p (work limit o x p)
work_fair limit o x p = chain (or_wrong bad_jump (slice_get o.insts p.frame.pc)) _ (λ i a. data_fair limit o x p i i.op)

all_fair : (limit : ℕ) (objects : List Object) (x : World) (p : Process) → Fair x p (code_of limit objects x p >>= λ o. work limit o x p)
all_fair limit objects x p = chain (code_of limit objects x p) _ (λ o a. work_fair limit o x p)

-- ---- the laws

fault_is : (x y : World) (p : Process) (a : Access Does) (number pc : ℕ) → Fair x p a → or_fault x p a ≡ Ends y (Faulted number pc) → (y ≡ x) × (pc ≡ p.frame.pc)
fault_is x y p (Found d) number pc (found d' c g h) e = absurd (subst (NoFault x) e c)
fault_is x y p (Wrong n) number pc (wrong n') e = (let a : x ≡ y = cc in sym a, let b : p.frame.pc ≡ pc = cc in sym b)
fault_is x y p (Raises text) number pc (raises text') e = absurd cc

pub faults_change_nothing : FaultsChangeNothing
faults_change_nothing limit objects x y p number pc e =
    fault_is x y p (code_of limit objects x p >>= λ o. work limit o x p) number pc (all_fair limit objects x p) e

break_is : (x y : World) (p : Process) (a : Access Does) (text : List ℕ) → Fair x p a → or_fault x p a ≡ Ends y (Broken text) → y ≡ x
break_is x y p (Found d) text (found d' c g h) e = subst (NoFault x) e c
break_is x y p (Wrong n) text (wrong n') e = absurd cc
break_is x y p (Raises t) text (raises t') e = let a : x ≡ y = cc in sym a

pub breaks_change_nothing : BreaksChangeNothing
breaks_change_nothing limit objects x y p text e =
    break_is x y p (code_of limit objects x p >>= λ o. work limit o x p) text (all_fair limit objects x p) e

grows : (x : World) (p : Process) (a : Access Does) → Fair x p a → GrownBy x (or_fault x p a)
grows x p (Found d) (found d' c g h) = g
grows x p (Wrong n) (wrong n') = grown_same x
grows x p (Raises t) (raises t') = grown_same x

pub nothing_goes_within : NothingGoesWithin
nothing_goes_within limit objects x p = grows x p (code_of limit objects x p >>= λ o. work limit o x p) (all_fair limit objects x p)

reaches : (x : World) (p : Process) (a : Access Does) → Fair x p a → ReachedBy x p (or_fault x p a)
reaches x p (Found d) (found d' c g h) = h
reaches x p (Wrong n) (wrong n') = none_changed x p
reaches x p (Raises t) (raises t') = none_changed x p

pub only_reached_changes : OnlyReachedChanges
only_reached_changes limit objects x p = reaches x p (code_of limit objects x p >>= λ o. work limit o x p) (all_fair limit objects x p)
