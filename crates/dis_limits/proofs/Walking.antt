-- Each instruction makes at most one block and one frame, and what it makes has few enough words.
use Rattle.std.proofs.Common.{◌≡◌, ℕ, suc, ◌+◌, ◌-◌, ◌*◌, ◌/◌, ◌≤◌, ℤ, Bool, true, false, List, [], ◌∷◌, length, refl, sym, ap}
use Rattle.std.proofs.Common.{subst, ◌∙◌, arith, if◌then◌else◌}
use Rattle.std.specs.Prelude.{Option, Some, None, nat_lt, nat_le, pos, negsuc, codes, slice_get, encode_utf8_all}
use Rattle.std.specs.Ordering.{int_eq}
use Rattle.std.specs.Str.{bytes_eq}
use Rattle.std.proofs.lemmas.List.{length-append}
use Rattle.process_model.specs.Process.{Went, Parks, Polls, Spawns, Asks, Ends}
use Rattle.limbo_values.specs.declared.number.Kind.{Kind}
use Rattle.limbo_values.specs.declared.number.Kind.TheVariants.{Byte, Int, Big}
use Rattle.limbo_values.specs.declared.operator.Comparison.{Comparison}
use Rattle.limbo_values.specs.Numbers.{wrapped}
use Rattle.limbo_values.specs.Operators.{shifted}
use Rattle.limbo_values.specs.Texts.{bounds_in, slice_in, joined}
use Rattle.limbo_values.specs.Conversions.{number_text, number_read}
use Rattle.limbo_bytes.specs.Bytes.{characters}
use Rattle.dis_isa.specs.declared.inst.Inst.{Inst}
use Rattle.dis_isa.specs.declared.inst.Middle.{Middle}
use Rattle.dis_isa.specs.declared.inst.Middle.TheVariants as middle
use Rattle.dis_isa.specs.declared.inst.Operand.{Operand}
use Rattle.dis_isa.specs.declared.op.Op.{Op}
use Rattle.dis_isa.specs.declared.op.Op.TheVariants as op
use Rattle.dis_file.specs.declared.object.Object.{Object}
use Rattle.dis_file.specs.declared.types.TypeDesc.{TypeDesc}
use Rattle.system_model.specs.Prints.{Printing, Answers, Requests, NoReply, print}
use Rattle.system_model.specs.Ending.{Broken}
use Rattle.dis_meaning.specs.Words.{Place, InBlock, InFrame, Word, Plain, Refer, Address, Access, Found, Wrong, Raises, ◌>>=◌, type_check}
use Rattle.dis_meaning.specs.Words.{bad_jump, or_wrong, at_least_zero, word_number, plain, blank}
use Rattle.dis_meaning.specs.Numbers.{Row, Calculates, Shifts, Converts, Moves, Branches, number_row, with_number_at}
use Rattle.dis_meaning.specs.Places.{Spot, Far, place_in, address, words_in, all_frames}
use Rattle.dis_meaning.specs.Process.{Frame, Process, with_frames, height, at_pc}
use Rattle.dis_meaning.specs.Step.{made_frame, without, place_of, word_of, names, path_of_sys}
use Rattle.dis_memory.specs.Blocks as blocks
use Rattle.dis_memory.specs.Blocks.{Block, Record, Text, Array, Part, Cell, Channel, Instance, Sys, World, block, with_block, next_serial}
use Rattle.dis_memory.specs.Raising.{not_nil, unless_raised, large_text}
use Rattle.dis_memory.specs.Kinds.{Elements, all_of, some_of, elements_in, elements_at, length_of, text_at, list_length}
use Rattle.dis_memory.specs.Places.{Memory, memory, with_data, with_words_at, words_at, read, around, store, store_number, read_number}
use Rattle.dis_memory.specs.Places.{spot, middle_spot, source_of, given_of, middle_of, source_plain, source_word, middle_word}
use Rattle.dis_memory.specs.Places.{source_reference, reference_at}
use Rattle.dis_memory.specs.Operands.{immediate, middle_immediate, type_of, source_type, middle_type, target}
use Rattle.dis_memory.specs.Copies.{moved, put, put_bytes, taken, typed_words}
use Rattle.dis_memory.specs.Process.{Does, next, jumps, or_fault}
use Rattle.dis_memory.specs.Results.{gives_number_at, gives_number, gives_plain_at, gives_reference_at, gives_reference, gives_block_at}
use Rattle.dis_memory.specs.Results.{gives_block}
use Rattle.dis_memory.specs.Data as data_ops
use Rattle.dis_memory.specs.Arrays as arrays
use Rattle.dis_memory.specs.Strings as strings
use Rattle.dis_memory.specs.Strings.{text_row}
use Rattle.dis_memory.specs.Lists as lists
use Rattle.dis_memory.specs.Numbers as numbers
use Rattle.dis_memory.specs.Control as control
use Rattle.dis_memory.specs.Step.{type_of_size, by_texts, by_numbers, obey, work, code_of, object_of, step}
use Rattle.dis_memory.proofs.Fair.{one_type_same}
use Rattle.dis_memory.proofs.Growing.{both, found_same}
use Rattle.dis_memory.proofs.Reaching.{or_found}
use Rattle.dis_limits.proofs.Lengths.{number_long, put_long, bytes_long, moved_long, typed_long, blank_long, array_long, copied_within}
use Rattle.dis_limits.proofs.Fitting.{without_long, Allows, FrameFits, FramesFit, frames_joined, frames_without, frame_made}
use Rattle.dis_limits.proofs.Fitting.{BlockFits, HeapWithin, heap_on, heap_with, block_fits, data_kept, Within, words_fit, words_kept}
use Rattle.dis_limits.proofs.Fitting.{store_kept, number_kept, within_on}

module _ (Fits : ℕ → Type 0) (n k : ℕ) where
  -- So it is after what a process does, which meets no other and starts none.
  abbrev pub LeftBy : Does → Type 0
  LeftBy (Went y q) = Within Fits n k y q
  LeftBy (Parks y [] q) = Within Fits n k y q
  LeftBy (Parks y (b ∷ bs) q) = ⊥
  LeftBy (Polls y bs q r) = ⊥
  LeftBy (Spawns y child q) = ⊥
  LeftBy (Asks y m q) = Within Fits n k y q
  LeftBy (Ends y how) = HeapWithin Fits n y.heap

  data Kept : Access Does → Type 0 where
    kept : (d : Does) → LeftBy d → Kept (Found d)
    wrong : (number : ℕ) → Kept (Wrong number)
    raises : (text : List ℕ) → Kept (Raises text)

chain : {T : Type 0} {Fits : ℕ → Type 0} {n k : ℕ} (v : Access T) (f : T → Access Does) → ((t : T) → v ≡ Found t → Kept Fits n k (f t))
    → Kept Fits n k (v >>= f)
chain (Found t) f h = h t refl
chain (Wrong number) f h = wrong number
chain (Raises text) f h = raises text

found_some : {T : Type 0} (s t : T) → Found (Some s) ≡ Found (Some t) → s ≡ t
found_some s t e = cc

module _ (Fits : ℕ → Type 0) (o : Object) (a : Allows Fits o) (n k : ℕ) (x : World) (p : Process) (w : Within Fits n k x p) where
  -- What an instruction leaves.
  abbrev After : Access Does → Type 0
  After v = Kept Fits (suc n) (suc k) v

  went : (m : Memory) → Within Fits (suc n) k m.world m.process → After (Found (next m))
  went m l =
      kept _
      (record {
        heap = l.heap;
        process = record {
          frame = l.process.frame;
          below = l.process.below;
          made = l.process.made;
          few = let z = l.process.few in omega arith;
        };
      })

  -- Where no block was made.
  moves : (m : Memory) → Within Fits n k m.world m.process → After (Found (next m))
  moves m l = went m (within_on Fits n (suc n) k k m.world m.process (omega arith) (omega arith) l)

  stays : After (Found (next (memory x p)))
  stays = moves (memory x p) w

  some_words : (us : List Word) (l : ℕ) → length us ≡ l → Fits l → Fits (length us)
  some_words us l e fit = subst Fits (sym e) fit

  few_words : (us : List Word) → length us ≤ 67108864 → Fits (length us)
  few_words us l = a.less (length us) 67108864 l a.array

  -- ---- what references lead to

  all_fit : (m : ℕ) (b : Block) (e : Elements) → BlockFits Fits b → all_of m b ≡ Found e → Fits (length e.words)
  all_fit m (Array element long words) e fit f = subst (λ (e : Elements). Fits (length e.words)) (found_same _ e f) fit
  all_fit m (Record words) e fit f = absurd cc
  all_fit m (Text chars) e fit f = absurd cc
  all_fit m (Part array start long) e fit f = absurd cc
  all_fit m (Cell element rest) e fit f = absurd cc
  all_fit m (Channel element) e fit f = absurd cc
  all_fit m (Instance object words) e fit f = absurd cc
  all_fit m (Sys table) e fit f = absurd cc

  in_fit : (m : ℕ) (b : Block) (e : Elements) → BlockFits Fits b → elements_in x m b ≡ Found e → Fits (length e.words)
  in_fit m (Part array start long) e fit f =
      let h = both (block x array >>= all_of array) (λ e. Found (some_of start long e)) e f in
      let g = both (block x array) (all_of array) h.first h.is in
      subst (λ (e : Elements). Fits (length e.words)) (found_same _ e h.then)
      (all_fit array g.first h.first (block_fits Fits n x array g.first w.heap g.is) g.then)
  in_fit m (Array element long words) e fit f = all_fit m (Array element long words) e fit f
  in_fit m (Record words) e fit f = absurd cc
  in_fit m (Text chars) e fit f = absurd cc
  in_fit m (Cell element rest) e fit f = absurd cc
  in_fit m (Channel element) e fit f = absurd cc
  in_fit m (Instance object words) e fit f = absurd cc
  in_fit m (Sys table) e fit f = absurd cc

  elements_fit : (v : Access (Option ℕ)) (e : Elements) → v >>= elements_at x ≡ Found (Some e) → Fits (length e.words)
  elements_fit v e f = let h = both v (elements_at x) (Some e) f in go h.first h.then
    where
      go : (r : Option ℕ) → elements_at x r ≡ Found (Some e) → Fits (length e.words)
      go None f = absurd cc
      go (Some m) f =
          let h = both (block x m >>= elements_in x m) (λ e. Found (Some e)) (Some e) f in
          let g = both (block x m) (elements_in x m) h.first h.is in
          subst (λ (e : Elements). Fits (length e.words)) (found_some _ e h.then)
          (in_fit m g.first h.first (block_fits Fits n x m g.first w.heap g.is) g.then)

  -- ---- results

  number_keeps : (kind : Kind) (s : Spot) (r : Access ℤ) → After (gives_number_at x p kind s r)
  number_keeps kind s r =
      chain (read_number kind x p s) _ (λ old b. chain r _ (λ z c. chain (store_number kind x p s z) _ (λ m e.
      moves m (number_kept Fits n k kind x p s z m w e))))

  to_number : (kind : Kind) (d : Operand) (r : Access ℤ) → After (gives_number x p kind d r)
  to_number kind d r = chain (spot x p d) _ (λ s b. number_keeps kind s r)

  plain_keeps : (s : Spot) (r : Access Word) → After (gives_plain_at x p s r)
  plain_keeps s r =
      chain (read x p s >>= plain) _ (λ old b. chain r _ (λ v c. chain (store x p s v) _ (λ m e.
      moves m (store_kept Fits n k x p s v m w e))))

  reference_keeps : (s : Spot) (r : Access (Option ℕ)) → After (gives_reference_at x p s r)
  reference_keeps s r =
      chain (reference_at x p s) _ (λ old b. chain r _ (λ u c. chain (store x p s (Refer u)) _ (λ m e.
      moves m (store_kept Fits n k x p s (Refer u) m w e))))

  to_reference : (d : Operand) (r : Access (Option ℕ)) → After (gives_reference x p d r)
  to_reference d r = chain (spot x p d) _ (λ s b. reference_keeps s r)

  -- A new block that fits.
  abbrev Makes : Access Block → Type 0
  Makes r = (b : Block) → r ≡ Found b → BlockFits Fits b

  block_keeps : (s : Spot) (r : Access Block) → Makes r → After (gives_block_at x p s r)
  block_keeps s r fit =
      chain (reference_at x p s) _ (λ old c. chain r _ (λ b e.
      chain (store (with_block x b) p s (Refer (Some (next_serial x)))) _ (λ m f.
      went m (store_kept Fits (suc n) k (with_block x b) p s (Refer (Some (next_serial x))) m
      (record { heap = heap_with Fits n x b w.heap (fit b e); process = w.process }) f))))

  to_block : (d : Operand) (r : Access Block) → Makes r → After (gives_block x p d r)
  to_block d r fit = chain (spot x p d) _ (λ s b. block_keeps s r fit)

  given : (c : Block) → BlockFits Fits c → Makes (Found c)
  given c fit b e = subst (BlockFits Fits) (found_same c b e) fit

  text_fits : (v : Access (List ℕ)) → Makes (v >>= λ t. Found (Text t))
  text_fits v b e = let h = both v (λ t. Found (Text t)) b e in given (Text h.first) tt b h.then

  new_fits : (element : TypeDesc) (long : ℤ) → Makes (arrays.new_array element long)
  new_fits element (negsuc m) b e = absurd cc
  new_fits element (pos m) b e = go (nat_le (blocks.bytes_for element m) blocks.most_bytes) refl e
    where
      go : (t : Bool) → nat_le (blocks.bytes_for element m) blocks.most_bytes ≡ t
          → (if t then Found (blocks.blank_array element m) else Raises large_text) ≡ Found b → BlockFits Fits b
      go true l e = given (blocks.blank_array element m) (few_words _ (array_long element m l)) b e
      go false l e = absurd cc

  bytes_fit : (bs : List ℕ) (c b : Block) → BlockFits Fits c → strings.with_bytes bs c ≡ Found b → BlockFits Fits b
  bytes_fit bs (Array element long words) b fit e =
      let h = both (put_bytes words 0 bs) (λ after. Found (Array element long after)) b e in
      given (Array element long h.first) (some_words h.first (length words) (bytes_long words 0 bs h.first h.is) fit) b h.then
  bytes_fit bs (Record words) b fit e = absurd cc
  bytes_fit bs (Text chars) b fit e = absurd cc
  bytes_fit bs (Part array start long) b fit e = absurd cc
  bytes_fit bs (Cell element rest) b fit e = absurd cc
  bytes_fit bs (Channel element) b fit e = absurd cc
  bytes_fit bs (Instance object words) b fit e = absurd cc
  bytes_fit bs (Sys table) b fit e = absurd cc

  array_fits : (bs : List ℕ) → Makes (strings.array_of bs)
  array_fits bs b e =
      let h = both (arrays.new_array strings.byte_type (pos (length bs))) (strings.with_bytes bs) b e in
      bytes_fit bs h.first b (new_fits strings.byte_type (pos (length bs)) h.first h.is) h.then

  type_fits : (v : Access ℕ) (desc : TypeDesc) → v >>= type_of o ≡ Found desc → Fits (desc.size / 4)
  type_fits v desc e =
      let h = both v (type_of o) desc e in a.types h.first desc (or_found type_check (slice_get o.types h.first) desc h.then)

  -- ---- calls and prints

  frame_is_made : (v : Word) (f : Frame) → control.frame_at x p v ≡ Found f → FrameFits Fits f
  frame_is_made (Address (InFrame s) i) f e =
      let h = both (words_in s (all_frames p)) (λ words. if int_eq i (pos 0) then made_frame p.made s else Wrong type_check) f e in
      go (int_eq i (pos 0)) h.then
    where
      go : (b : Bool) → (if b then made_frame p.made s else Wrong type_check) ≡ Found f → FrameFits Fits f
      go true e = frame_made Fits p.made s f e w.process.made
      go false e = absurd cc
  frame_is_made (Address (InBlock m) i) f e = let h = both (block x m) (λ b. Wrong type_check) f e in let g = h.then in absurd cc
  frame_is_made (Plain z) f e = absurd cc
  frame_is_made (Refer s) f e = absurd cc

  one_more : HeapWithin Fits (suc n) x.heap
  one_more = heap_on Fits n (suc n) x.heap (omega arith) w.heap

  with_kept : (f : Frame) (below made : List Frame) → FrameFits Fits f → FramesFit Fits below → FramesFit Fits made
      → suc (length below + length made) ≤ suc k → Within Fits (suc n) (suc k) x (with_frames p f below made)
  with_kept f below made b c d few = record { heap = one_more; process = record { frame = b; below = c; made = d; few = few } }

  returns_keep : (fs : List Frame) → FramesFit Fits fs → length fs ≤ length p.below → After (Found (control.returns x p fs))
  returns_keep [] fit l = kept _ one_more
  returns_keep (f ∷ fs) fit l =
      kept _ (with_kept f fs p.made fit.0 fit.1 w.process.made (let z = w.process.few in omega arith))

  calls_keep : (limit : ℕ) (v : Word) (f : Frame) (pc : ℕ) → control.frame_at x p v ≡ Found f → After (Found (control.calls limit x p f pc))
  calls_keep limit v f pc e = go (nat_lt (height p) limit)
    where
      go : (b : Bool)
          → After (Found (
          if b then Went x (with_frames p (at_pc f pc) (at_pc p.frame (suc p.frame.pc) ∷ p.below) (without f.serial p.made))
          else Ends x (Broken (codes "stack overflow"))))
      go true =
          kept _ (with_kept (at_pc f pc) (at_pc p.frame (suc p.frame.pc) ∷ p.below) (without f.serial p.made) (frame_is_made v f e)
          (w.process.frame, w.process.below) (frames_without Fits f.serial p.made w.process.made)
          (let z = w.process.few in let y = without_long f.serial p.made in omega arith))
      go false = kept _ one_more

  -- The print of the process, one of whose frames is gone.
  prints_keep : (q : Process) (place : Place) (i : ℤ) (g : Printing) → Within Fits n k x q → After (control.prints x q place i g)
  prints_keep q place i (Answers y v) l =
      chain (control.answered (control.with_outside x y) q place i v) _ (λ m c.
      moves m (store_kept Fits n k (control.with_outside x y) q (Far place i) (word_of v) m
      (record { heap = l.heap; process = l.process }) c))
  prints_keep q place i (Requests y m g) l =
      kept _
      (record {
        heap = one_more;
        process = record {
          frame = l.process.frame;
          below = l.process.below;
          made = l.process.made;
          few = let z = l.process.few in omega arith;
        };
      })
  prints_keep q place i NoReply l = kept _ (within_on Fits n (suc n) k (suc k) x q (omega arith) (omega arith) l)

  print_keeps : (f : Frame) → After (control.print_call x p f)
  print_keeps f =
      chain (control.printed x f.words) _ (λ text b. chain (control.answer_spot f.words) _ (λ s c. chain (place_of s) _ (λ place e.
      prints_keep (with_frames p p.frame p.below (without f.serial p.made)) place (place_in s) (print (control.outside_of x) text)
      (record {
        heap = w.heap;
        process = record {
          frame = w.process.frame;
          below = w.process.below;
          made = frames_without Fits f.serial p.made w.process.made;
          few = let z = w.process.few in let y = without_long f.serial p.made in omega arith;
        };
      }))))

  sys_keeps : (name : List ℕ) (f : Frame) → After (control.sys_call x p name f)
  sys_keeps name f = go (bytes_eq name (codes "print"))
    where
      go : (b : Bool) → After (if b then control.print_call x p f else Wrong 110)
      go true = print_keeps f
      go false = wrong 110

  branch_keeps : (b : Bool) (pc : ℕ) → After (Found (if b then jumps x p pc else next (memory x p)))
  branch_keeps true pc =
      kept _ (with_kept (at_pc p.frame pc) p.below p.made w.process.frame w.process.below w.process.made
      (let z = w.process.few in omega arith))
  branch_keeps false pc = stays

  -- ---- the instructions

  module _ (limit : ℕ) (i : Inst) where
    put_keeps : (s : Spot) (v : Access (List Word)) → ((us : List Word) → v ≡ Found us → Fits (length us))
        → After (v >>= with_words_at x p s >>= λ m. Found (next m))
    put_keeps s v fit =
        chain (v >>= with_words_at x p s) _ (λ m c. let h = both v (with_words_at x p s) m c in
        moves m (words_kept Fits n k x p s h.first m w (fit h.first h.is) h.then))

    row_keeps : (row : Row) → After (numbers.by_row o x p i row)
    row_keeps (Calculates kind operator) =
        chain (source_of kind x p i.src) _ (λ s b. chain (middle_of kind x p i.middle i.dst) _ (λ m c. to_number kind i.dst _))
    row_keeps (Shifts kind shift) =
        chain (source_of Int x p i.src) _ (λ s b. chain (middle_of kind x p i.middle i.dst) _ (λ m c.
        to_number kind i.dst (Found (shifted kind shift m s))))
    row_keeps (Converts from to) = chain (source_of from x p i.src) _ (λ s b. to_number to i.dst (Found (wrapped to s)))
    row_keeps (Moves kind) = chain (source_of kind x p i.src) _ (λ s b. to_number kind i.dst (Found s))
    row_keeps (Branches Int c) =
        chain (source_word x p i.src) _
        (λ s b. chain (middle_word x p i.middle) _ (λ m e. chain (numbers.words_compared c s m) _ (λ holds f.
        chain (target o i.dst) _ (λ pc g. branch_keeps holds pc))))
    row_keeps (Branches Byte c) =
        chain (source_of Byte x p i.src) _
        (λ s b. chain (given_of Byte x p i.middle) _ (λ m e. chain (target o i.dst) _ (λ pc f. branch_keeps _ pc)))
    row_keeps (Branches Big c) =
        chain (source_of Big x p i.src) _
        (λ s b. chain (given_of Big x p i.middle) _ (λ m e. chain (target o i.dst) _ (λ pc f. branch_keeps _ pc)))

    texts_keep : (row : Option Comparison) → After (by_texts limit o x p i row)
    texts_keep (Some c) =
        chain (strings.source_text o x p i) _
        (λ s b. chain (strings.given_text o x p i) _ (λ m e. chain (target o i.dst) _ (λ pc f. branch_keeps _ pc)))
    texts_keep None = wrong 110

    numbers_keep : (operation : Op) (row : Option Row) → After (by_numbers limit o x p i operation row)
    numbers_keep operation (Some row) = row_keeps row
    numbers_keep operation None = texts_keep (text_row operation)

    ind_keeps : (kind : Option Elements → Access (Option Elements)) → After (arrays.indexes o x p i kind)
    ind_keeps kind =
        chain (source_reference x p i.src >>= elements_at x >>= kind) _ (λ es b. chain (middle_spot i.middle) _ (λ s c.
        chain (source_of Int x p i.dst) _ (λ index e. plain_keeps s _)))

    -- ---- arrays and lists

    part_fits : (e : Elements) (from to : ℤ)
        → Makes (unless_raised (bounds_in e.long from to) >>= λ b. Found (Part e.array (e.start + b.0) (b.1 - b.0)))
    part_fits e from to b f =
        let h = both (unless_raised (bounds_in e.long from to)) (λ b. Found (Part e.array (e.start + b.0) (b.1 - b.0))) b f in
        given (Part e.array (e.start + h.first.0) (h.first.1 - h.first.0)) tt b h.then

    sliced_keeps : (s : Spot) (es : Option Elements) (from to : ℤ) → After (arrays.sliced o x p i s es from to)
    sliced_keeps s None from to = reference_keeps s _
    sliced_keeps s (Some e) from to = block_keeps s _ (part_fits e from to)

    conses_keep : (element : Access (List Word)) → ((ws : List Word) → element ≡ Found ws → Fits (length ws))
        → After (lists.conses o x p i element)
    conses_keep element fit =
        chain (spot x p i.dst) _ (λ s b. chain (reference_at x p s) _ (λ rest c. block_keeps s _ (cell rest)))
      where
        cell : (rest : Option ℕ) → Makes (element >>= λ ws. Found (Cell ws rest))
        cell rest b f = let h = both element (λ ws. Found (Cell ws rest)) b f in given (Cell h.first rest) (fit h.first h.is) b h.then

    channel_keeps : (m : Middle) (element : TypeDesc) → After (lists.channel o x p i m element)
    channel_keeps middle.None element = to_block i.dst (Found (Channel element)) (given (Channel element) tt)
    channel_keeps (middle.Imm z) element = wrong 110
    channel_keeps (middle.Fp z) element = wrong 110
    channel_keeps (middle.Mp z) element = wrong 110

    same_words : (element ws : List Word) → Fits (length element) → Found element ≡ Found ws → Fits (length ws)
    same_words element ws fit e = subst (λ (us : List Word). Fits (length us)) (found_same element ws e) fit

    holder_fits : (kind : Kind) (z : ℤ) (ws : List Word) → with_number_at kind (lists.holder_of kind) (pos 0) z ≡ Found ws
        → Fits (length ws)
    holder_fits kind z ws e =
        let long = number_long kind (lists.holder_of kind) (pos 0) z ws e in let few = short kind in few_words ws (omega arith)
      where
        short : (kind : Kind) → length (lists.holder_of kind) ≤ 2
        short Byte = omega arith
        short Int = omega arith
        short Big = omega arith

    -- ---- words that move

    movm_keeps : After (data_ops.movm o x p i)
    movm_keeps =
        chain (spot x p i.src) _ (λ s b. chain (words_at x p s) _ (λ source c. chain (at_least_zero (place_in s)) _ (λ from e.
        chain (given_of Int x p i.middle >>= at_least_zero) _
        (λ count f. chain (spot x p i.dst) _ (λ t g. chain (words_at x p t) _ (λ target h.
        chain (at_least_zero (place_in t)) _ (λ to j. put_keeps t (moved source from target to count) (λ us l.
        some_words us (length target) (moved_long source from target to count us l) (words_fit Fits n k x p t target w h)))))))))

    movmp_keeps : After (data_ops.movmp o x p i)
    movmp_keeps =
        chain (spot x p i.src) _ (λ s b. chain (words_at x p s) _ (λ source c. chain (word_number (place_in s)) _ (λ from e.
        chain (middle_type o i.middle) _ (λ desc f. chain (typed_words desc source from) _ (λ vs g. chain (spot x p i.dst) _ (λ t h.
        chain (words_at x p t) _ (λ target j. chain (word_number (place_in t)) _ (λ to l. put_keeps t (put target to vs) (λ us m.
        some_words us (length target) (put_long target to vs us m) (words_fit Fits n k x p t target w j))))))))))

    headm_keeps : After (lists.headm o x p i)
    headm_keeps =
        chain (lists.first o x p i) _
        (λ c b. chain (given_of Int x p i.middle >>= at_least_zero) _ (λ count e. chain (spot x p i.dst) _ (λ t f.
        chain (words_at x p t) _ (λ target g. chain (at_least_zero (place_in t)) _ (λ to h. chain (not_nil c) _ (λ cell j.
        put_keeps t (moved cell.element 0 target to count) (λ us l.
        some_words us (length target) (moved_long cell.element 0 target to count us l) (words_fit Fits n k x p t target w g))))))))

    headmp_keeps : After (lists.headmp o x p i)
    headmp_keeps =
        chain (lists.first o x p i) _ (λ c b. chain (middle_type o i.middle) _ (λ desc e. chain (spot x p i.dst) _ (λ t f.
        chain (words_at x p t) _ (λ target g. chain (word_number (place_in t)) _ (λ to h. chain (not_nil c) _ (λ cell j.
        put_keeps t (typed_words desc cell.element 0 >>= put target to) (λ us l.
        let m = both (typed_words desc cell.element 0) (put target to) us l in
        some_words us (length target) (put_long target to m.first us m.then) (words_fit Fits n k x p t target w g))))))))

    load_keeps : (b : Bool) (table : List (List ℕ))
        → After (if b then gives_block x p i.dst (Found (Sys table)) else gives_reference x p i.dst (Found None))
    load_keeps true table = to_block i.dst (Found (Sys table)) (given (Sys table) tt)
    load_keeps false table = to_reference i.dst (Found None)

    overwritten_long : (s t : Elements) (j : ℕ) (us : List Word) → arrays.overwritten s t j ≡ Found us → length us ≡ length t.words
    overwritten_long s t j us e = go (blocks.refers s.element) e
      where
        go : (b : Bool)
            → (if b
            then taken s.words (s.start * (s.element.size / 4)) (s.long * (s.element.size / 4)) >>= put t.words
            ((t.start + j) * (t.element.size / 4))
            else moved s.words (s.start * s.element.size) t.words ((t.start + j) * t.element.size) (s.long * s.element.size)) ≡ Found us
            → length us ≡ length t.words
        go true e =
            let h = both (taken s.words (s.start * (s.element.size / 4)) (s.long * (s.element.size / 4)))
            (put t.words ((t.start + j) * (t.element.size / 4))) us e in
            put_long t.words ((t.start + j) * (t.element.size / 4)) h.first us h.then
        go false e =
            moved_long s.words (s.start * s.element.size) t.words ((t.start + j) * t.element.size) (s.long * s.element.size) us e

    copied_keeps : (s t : Option Elements) (j : ℕ) → ((e : Elements) → t ≡ Some e → Fits (length e.words)) → After (arrays.copied x p s t j)
    copied_keeps (Some s) (Some t) j fit =
        chain (arrays.overwritten s t j) _ (λ us e. chain (with_data x t.array us) _ (λ y f.
        moves (memory y p) (record {
          heap = data_kept Fits n x y t.array us w.heap
              (some_words us (length t.words) (overwritten_long s t j us e) (fit t refl)) f;
          process = w.process;
        })))
    copied_keeps None t j fit = stays
    copied_keeps (Some s) None j fit = stays

    slicela_keeps : After (arrays.slicela o x p i)
    slicela_keeps =
        chain (source_reference x p i.src >>= elements_at x) _ (λ s b. chain (given_of Int x p i.middle) _ (λ j c.
        chain (source_reference x p i.dst >>= elements_at x >>= arrays.of_one_type s) _ (λ t e.
        chain (unless_raised (bounds_in (length_of t) j (arrays.end_from j (length_of s)))) _ (λ bounds f.
        copied_keeps s t bounds.0
        (λ u g. let h = both (source_reference x p i.dst >>= elements_at x) (arrays.of_one_type s) t e in
        elements_fit (source_reference x p i.dst) u (h.is ∙ ap Found (one_type_same s h.first t h.then ∙ g)))))))

    slicea_keeps : After (arrays.slicea o x p i)
    slicea_keeps =
        chain (source_of Int x p i.src) _ (λ from b. chain (given_of Int x p i.middle) _ (λ to c. chain (spot x p i.dst) _ (λ s e.
        chain (reference_at x p s >>= elements_at x) _ (λ es f. sliced_keeps s es from to))))

    consm_keeps : After (lists.consm o x p i)
    consm_keeps =
        chain (spot x p i.src) _ (λ s b. chain (words_at x p s) _ (λ source c. chain (at_least_zero (place_in s)) _ (λ from e.
        chain (given_of Int x p i.middle >>= at_least_zero) _ (λ count f.
        chain (moved source from (blank (lists.plain_type count)) 0 count) _ (λ element g. conses_keep (Found element) (λ ws h.
        same_words element ws
        (a.less (length element) (length source) (copied_within source from count element g) (words_fit Fits n k x p s source w c)) h))))))

    consmp_keeps : After (lists.consmp o x p i)
    consmp_keeps =
        chain (spot x p i.src) _ (λ s b. chain (words_at x p s) _ (λ source c. chain (word_number (place_in s)) _ (λ from e.
        chain (middle_type o i.middle) _
        (λ desc f. chain (typed_words desc source from) _ (λ element g. conses_keep (Found element) (λ ws h.
        same_words element ws
        (some_words element (desc.size / 4) (typed_long desc 0 source from (desc.size / 4) element g)
        (type_fits (middle_immediate i.middle) desc f)) h))))))

    blank_fits : (desc : TypeDesc) → Fits (desc.size / 4) → Fits (length (blank desc))
    blank_fits desc fit = some_words (blank desc) (desc.size / 4) (blank_long desc) fit

    new_keeps : After (arrays.new o x p i)
    new_keeps =
        chain (source_type o i.src) _ (λ desc b.
        to_block i.dst (Found (Record (blank desc))) (given (Record (blank desc)) (blank_fits desc (type_fits (immediate i.src) desc b))))

    newa_keeps : After (arrays.newa o x p i)
    newa_keeps =
        chain (source_of Int x p i.src) _ (λ long b. chain (middle_type o i.middle) _ (λ element c.
        to_block i.dst (arrays.new_array element long) (new_fits element long)))

    frame_keeps : After (control.frame limit o x p i)
    frame_keeps =
        chain (source_type o i.src) _ (λ desc b. chain (spot x p i.dst) _ (λ s c.
        chain (store x p s (Address (InFrame (control.next_frame x)) (pos 0))) _ (λ m e.
        kept _ (made desc (type_fits (immediate i.src) desc b) m
        (store_kept Fits n k x p s (Address (InFrame (control.next_frame x)) (pos 0)) m w e)))))
      where
        made : (desc : TypeDesc) → Fits (desc.size / 4) → (m : Memory) → Within Fits n k m.world m.process
            → LeftBy Fits (suc n) (suc k) (next (control.framed m (blank desc)))
        made desc fit m l = record {
          heap = heap_on Fits n (suc n) m.world.heap (omega arith) l.heap;
          process = record {
            frame = l.process.frame;
            below = l.process.below;
            made = frames_joined Fits m.process.made _ l.process.made (blank_fits desc fit, tt);
            few =
                let z = l.process.few in
                let new : Frame = record {
                  serial = control.next_frame m.world;
                  instance = m.process.frame.instance;
                  pc = 0;
                  words = blank desc;
                } in
                let y = length-append m.process.made (new ∷ []) in omega arith;
          };
        }

    call_keeps : After (control.call limit o x p i)
    call_keeps =
        chain (source_word x p i.src >>= control.frame_at x p) _ (λ f b. chain (target o i.dst) _ (λ pc c.
        let h = both (source_word x p i.src) (control.frame_at x p) f b in calls_keep limit h.first f pc h.then))

    data_keeps : (op : Op) → After (obey limit o x p i op)
    data_keeps op.Movw = chain (source_plain x p i.src) _ (λ v b. chain (spot x p i.dst) _ (λ s c. plain_keeps s (Found v)))
    data_keeps op.Movp = chain (source_reference x p i.src) _ (λ r b. to_reference i.dst (Found r))
    data_keeps op.Movm = movm_keeps
    data_keeps op.Movmp = movmp_keeps
    data_keeps op.Lea =
        chain (spot x p i.src) _ (λ s b. chain (around x p s) _ (λ v c. chain (spot x p i.dst) _ (λ t e.
        plain_keeps t (Found (address p s)))))
    data_keeps op.New = new_keeps
    data_keeps op.Newz = new_keeps
    data_keeps op.Newa = newa_keeps
    data_keeps op.Newaz = newa_keeps
    data_keeps op.Indx = ind_keeps (λ es. Found es)
    data_keeps op.Indb = ind_keeps (arrays.of_size o x p i 1)
    data_keeps op.Indw = ind_keeps (arrays.of_size o x p i 4)
    data_keeps op.Indl = ind_keeps (arrays.of_size o x p i 8)
    data_keeps op.Lena =
        chain (source_reference x p i.src >>= elements_at x) _ (λ es b. to_number Int i.dst (Found (pos (length_of es))))
    data_keeps op.Slicea = slicea_keeps
    data_keeps op.Slicela = slicela_keeps
    data_keeps op.Addc =
        chain (strings.source_text o x p i) _ (λ s b. chain (strings.left_text o x p i i.middle) _ (λ m c.
        to_block i.dst _ (text_fits (unless_raised (joined m s)))))
    data_keeps op.Lenc = chain (strings.source_text o x p i) _ (λ s b. to_number Int i.dst (Found (pos (length s))))
    data_keeps op.Indc = chain (strings.source_text o x p i) _ (λ s b. chain (given_of Int x p i.middle) _ (λ j c. to_number Int i.dst _))
    data_keeps op.Insc =
        chain (source_of Int x p i.src) _ (λ code b. chain (given_of Int x p i.middle) _ (λ j c. chain (spot x p i.dst) _ (λ t e.
        chain (strings.text_there o x p i t) _ (λ s f. block_keeps t _ (text_fits (strings.inserted s j code))))))
    data_keeps op.Slicec =
        chain (source_of Int x p i.src) _ (λ from b. chain (given_of Int x p i.middle) _ (λ to c. chain (spot x p i.dst) _ (λ t e.
        chain (strings.text_there o x p i t) _ (λ s f. block_keeps t _ (text_fits (unless_raised (slice_in s from to)))))))
    data_keeps op.Cvtwc =
        chain (source_of Int x p i.src) _ (λ z b. to_block i.dst (Found (Text (number_text z))) (given (Text (number_text z)) tt))
    data_keeps op.Cvtlc =
        chain (source_of Big x p i.src) _ (λ z b. to_block i.dst (Found (Text (number_text z))) (given (Text (number_text z)) tt))
    data_keeps op.Cvtcw = chain (strings.source_text o x p i) _ (λ s b. to_number Int i.dst (Found (number_read Int s)))
    data_keeps op.Cvtcl = chain (strings.source_text o x p i) _ (λ s b. to_number Big i.dst (Found (number_read Big s)))
    data_keeps op.Cvtca =
        chain (strings.source_text o x p i) _
        (λ s b. to_block i.dst (strings.array_of (encode_utf8_all s)) (array_fits (encode_utf8_all s)))
    data_keeps op.Cvtac =
        chain (source_reference x p i.src >>= elements_at x >>= strings.bytes_in) _ (λ bs b.
        to_block i.dst _ (text_fits (unless_raised (strings.not_longer (characters 0 bs)))))
    data_keeps op.Consb =
        chain (source_of Byte x p i.src) _ (λ z b. conses_keep (with_number_at Byte (lists.holder_of Byte) (pos 0) z) (holder_fits Byte z))
    data_keeps op.Consw =
        chain (source_of Int x p i.src) _ (λ z b. conses_keep (with_number_at Int (lists.holder_of Int) (pos 0) z) (holder_fits Int z))
    data_keeps op.Consl =
        chain (source_of Big x p i.src) _ (λ z b. conses_keep (with_number_at Big (lists.holder_of Big) (pos 0) z) (holder_fits Big z))
    data_keeps op.Consp =
        chain (source_reference x p i.src) _ (λ r b.
        conses_keep (Found (Refer r ∷ [])) (λ ws e. same_words (Refer r ∷ []) ws (few_words (Refer r ∷ []) (omega arith)) e))
    data_keeps op.Consm = consm_keeps
    data_keeps op.Consmp = consmp_keeps
    data_keeps op.Headb = chain (lists.first o x p i) _ (λ c b. to_number Byte i.dst _)
    data_keeps op.Headw = chain (lists.first o x p i) _ (λ c b. to_number Int i.dst _)
    data_keeps op.Headl = chain (lists.first o x p i) _ (λ c b. to_number Big i.dst _)
    data_keeps op.Headp = chain (lists.first o x p i) _ (λ c b. to_reference i.dst _)
    data_keeps op.Headm = headm_keeps
    data_keeps op.Headmp = headmp_keeps
    data_keeps op.Tail = chain (lists.first o x p i) _ (λ c b. to_reference i.dst _)
    data_keeps op.Lenl = chain (source_reference x p i.src >>= list_length x) _ (λ l b. to_number Int i.dst (Found (wrapped Int (pos l))))
    data_keeps op.Newcb = channel_keeps i.middle (type_of_size 1 [])
    data_keeps op.Newcw = channel_keeps i.middle (type_of_size 4 [])
    data_keeps op.Newcl = channel_keeps i.middle (type_of_size 8 [])
    data_keeps op.Newcp = channel_keeps i.middle (type_of_size 4 (128 ∷ []))
    data_keeps op.Newcm = chain (immediate i.src) _ (λ size b. channel_keeps i.middle (type_of_size size []))
    data_keeps op.Newcmp = chain (source_type o i.src) _ (λ element b. channel_keeps i.middle element)
    data_keeps op.Jmp = chain (target o i.dst) _ (λ pc b. branch_keeps true pc)
    data_keeps op.Frame = frame_keeps
    data_keeps op.Call = call_keeps
    data_keeps op.Ret = returns_keep p.below w.process.below (omega arith)
    data_keeps op.Load =
        chain (source_reference x p i.src >>= text_at x) _ (λ path b. chain (middle_immediate i.middle) _ (λ j c.
        chain (or_wrong type_check (slice_get o.imports j)) _ (λ table e. load_keeps (bytes_eq path path_of_sys) (names table))))
    data_keeps op.Mcall =
        chain (source_word x p i.src >>= control.frame_at x p) _ (λ f b. chain (middle_immediate i.middle) _ (λ j c.
        chain (source_reference x p i.dst >>= control.loaded_module >>= block x) _ (λ g e.
        chain (control.function_of g j) _ (λ name h. sys_keeps name f))))
    data_keeps operation = numbers_keep operation (number_row operation)

  work_keeps : (limit : ℕ) → After (work limit o x p)
  work_keeps limit = chain (or_wrong bad_jump (slice_get o.insts p.frame.pc)) _ (λ i b. data_keeps limit i i.op)

-- Where the types of each object fit.
pub step_within : (Fits : ℕ → Type 0) (limit : ℕ) (objects : List Object)
    → ((j : ℕ) (o : Object) → slice_get objects j ≡ Some o → Allows Fits o)
    → (n k : ℕ) (x : World) (p : Process) → Within Fits n k x p → LeftBy Fits (suc n) (suc k) (step limit objects x p)
step_within Fits limit objects allow n k x p w =
    after_it (code_of limit objects x p >>= λ o. work limit o x p)
    (chain (code_of limit objects x p) _ (λ o b. work_keeps Fits o (code_fits o b) n k x p w limit))
  where
    code_fits : (o : Object) → code_of limit objects x p ≡ Found o → Allows Fits o
    code_fits o e =
        let h = both (block x p.frame.instance >>= object_of) (λ j. or_wrong type_check (slice_get objects j)) o e in
        allow h.first o (or_found type_check (slice_get objects h.first) o h.then)

    after_it : (v : Access Does) → Kept Fits (suc n) (suc k) v → LeftBy Fits (suc n) (suc k) (or_fault x p v)
    after_it (Found e) (kept e' l) = l
    after_it (Wrong number) (wrong number') = heap_on Fits n (suc n) x.heap (omega arith) w.heap
    after_it (Raises text) (raises text') = heap_on Fits n (suc n) x.heap (omega arith) w.heap
