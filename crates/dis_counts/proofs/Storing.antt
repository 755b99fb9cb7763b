-- Each instruction stores words alone of each sort that its process may store.
use Rattle.std.proofs.Common.{◌≡◌, ℕ, suc, ◌+◌, ◌-◌, ◌*◌, ◌/◌, ℤ, Bool, true, false, List, [], ◌∷◌, inl, refl, ap}
use Rattle.std.proofs.Common.{subst, ◌∙◌, if◌then◌else◌}
use Rattle.std.specs.Prelude.{◌==◌, Option, Some, None, nat_lt, nat_le, pos, negsuc, codes, slice_get, length, encode_utf8_all}
use Rattle.std.specs.Ordering.{int_eq}
use Rattle.std.specs.Str.{bytes_eq}
use Rattle.process_model.specs.Process.{Went, Parks, Polls, Spawns, Asks, Ends}
use Rattle.limbo_values.specs.declared.number.Kind.{Kind}
use Rattle.limbo_values.specs.declared.number.Kind.TheVariants.{Byte, Int, Big}
use Rattle.limbo_values.specs.declared.operator.Comparison.{Comparison}
use Rattle.dis_isa.specs.declared.inst.Inst.{Inst}
use Rattle.dis_isa.specs.declared.inst.Middle.{Middle}
use Rattle.dis_isa.specs.declared.inst.Middle.TheVariants as middle
use Rattle.dis_isa.specs.declared.inst.Operand.{Operand}
use Rattle.dis_isa.specs.declared.inst.Operand.TheVariants as operand
use Rattle.dis_isa.specs.declared.op.Op.{Op}
use Rattle.dis_isa.specs.declared.op.Op.TheVariants as op
use Rattle.dis_file.specs.declared.object.Object.{Object}
use Rattle.dis_file.specs.declared.types.TypeDesc.{TypeDesc}
use Rattle.system_model.specs.Prints.{Printing, Answers, Requests, NoReply, print}
use Rattle.system_model.specs.Ending.{Broken}
use Rattle.dis_meaning.specs.Words.{Place, InBlock, InFrame, Word, Plain, Refer, Address, Access, Found, Wrong, Raises, ◌>>=◌, type_check}
use Rattle.dis_meaning.specs.Words.{bad_jump}
use Rattle.dis_meaning.specs.Words.{or_wrong, at_least_zero, word_number, word_at, plain, reference, blank}
use Rattle.dis_meaning.specs.Numbers.{Row, Calculates, Shifts, Converts, Moves, Branches, number_row, with_number_at}
use Rattle.dis_meaning.specs.Places.{Spot, Own, Data, Far, place_in, address, words_in, all_frames}
use Rattle.dis_meaning.specs.Process.{Frame, Process, with_frames, height, at_pc}
use Rattle.dis_meaning.specs.Step.{made_frame, without, place_of, word_of, names, path_of_sys}
use Rattle.limbo_values.specs.Numbers.{wrapped}
use Rattle.limbo_values.specs.Operators.{shifted}
use Rattle.limbo_values.specs.Texts.{bounds_in, index_in, slice_in, joined}
use Rattle.limbo_values.specs.Conversions.{number_text, number_read}
use Rattle.limbo_bytes.specs.Bytes.{characters}
use Rattle.dis_memory.specs.Blocks.{Block, World, block, with_block, next_serial}
use Rattle.dis_memory.specs.Raising.{not_nil, unless_raised, large_text}
use Rattle.dis_memory.specs.Kinds.{Elements, elements_at, length_of, text_at, list_length}
use Rattle.dis_memory.specs.Places.{Memory, memory, with_data, with_words_at, words_at, read, around, store, store_number, read_number}
use Rattle.dis_memory.specs.Places.{spot, middle_spot, source_of, given_of, middle_of, source_plain, source_word, middle_word}
use Rattle.dis_memory.specs.Places.{source_reference}
use Rattle.dis_memory.specs.Places.{reference_at}
use Rattle.dis_memory.specs.Operands.{immediate, middle_immediate, source_type, middle_type, target}
use Rattle.dis_memory.specs.Copies.{moved, put, put_bytes, taken, typed_words}
use Rattle.dis_memory.specs.Process.{Does, next, jumps, or_fault}
use Rattle.dis_memory.specs.Results.{gives_number_at, gives_number, gives_plain_at, gives_reference_at, gives_reference, gives_block_at}
use Rattle.dis_memory.specs.Results.{gives_block}
use Rattle.dis_memory.specs.Data as data_ops
use Rattle.dis_memory.specs.Arrays as arrays
use Rattle.dis_memory.specs.Strings as strings
use Rattle.dis_memory.specs.Strings.{text_row}
use Rattle.dis_memory.specs.Lists as lists
use Rattle.dis_memory.specs.Numbers as numbers
use Rattle.dis_memory.specs.Control as control
use Rattle.dis_memory.specs.Step.{type_of_size, by_texts, by_numbers, obey, work, code_of, step}
use Rattle.heap_model.specs.Heap.{at}
use Rattle.dis_memory.specs.Blocks as blocks
use Rattle.dis_memory.specs.Blocks.{Record, Text, Array, Part, Cell, Channel, Instance, Sys}
use Rattle.dis_memory.specs.Kinds.{Linked, all_of, some_of, elements_in, cell_in, first_cell}
use Rattle.dis_memory.proofs.Fair.{one_type_same}
use Rattle.dis_memory.proofs.Growing.{both, found_same, block_there}
use Rattle.system_model.specs.Values.{Value, Num}
use Rattle.dis_memory.proofs.Reaching.{ReachedSpot, spot_reached, middle_reached, NearFrame, frame_near, answer_reached, place_reached}
use Rattle.dis_memory.specs.Laws.{Reaches, on}
use Rattle.dis_counts.proofs.Words.{AllOk, word_ok, put_ok, taken_ok, plain_same, typed_ok, number_ok, bytes_ok, moved_ok, blank_ok}
use Rattle.dis_counts.proofs.Words.{array_ok}
use Rattle.dis_counts.proofs.Stores.{FrameOk, FramesOk, joined_ok, without_ok, made_is_ok, BlocksOk, Left, Allowed, near}
use Rattle.dis_counts.proofs.Stores.{Near, nothing_more, as_it_is, data_kept, words_kept, store_kept, number_kept, words_read, Held}
use Rattle.dis_counts.proofs.Stores.{source_held, there_held, block_kept}

module _ (Ok : Word → Type 0) (x : World) where
  -- So it is after what a process does.
  abbrev pub LeftBy : Does → Type 0
  LeftBy (Went y q) = Left Ok x y q
  LeftBy (Parks y bs q) = Left Ok x y q
  LeftBy (Polls y bs q r) = Left Ok x y q × Left Ok x y r
  LeftBy (Spawns y child q) = Left Ok x y child × Left Ok x y q
  LeftBy (Asks y m q) = Left Ok x y q
  LeftBy (Ends y how) = BlocksOk Ok x y

  data Kept : Access Does → Type 0 where
    kept : (d : Does) → LeftBy d → Kept (Found d)
    wrong : (n : ℕ) → Kept (Wrong n)
    raises : (text : List ℕ) → Kept (Raises text)

chain : {T : Type 0} {Ok : Word → Type 0} {x : World} (a : Access T) (f : T → Access Does) → ((t : T) → a ≡ Found t → Kept Ok x (f t))
    → Kept Ok x (a >>= f)
chain (Found t) f h = h t refl
chain (Wrong n) f h = wrong n
chain (Raises text) f h = raises text

found_some : {T : Type 0} (s t : T) → Found (Some s) ≡ Found (Some t) → s ≡ t
found_some s t e = cc

not_nil_some : {T : Type 0} (o : Option T) (t : T) → not_nil o ≡ Found t → o ≡ Some t
not_nil_some None t e = absurd cc
not_nil_some (Some s) t e = ap Some (found_same s t e)

module _ (Ok : Word → Type 0) (x : World) (p : Process) (a : Allowed Ok x p) where
  went : (m : Memory) → Left Ok x m.world m.process → Kept Ok x (Found (next m))
  went m k =
      kept _ (record { blocks = k.blocks; process = record { frame = k.process.frame; below = k.process.below; made = k.process.made } })

  -- ---- what references lead to

  -- Elements of an array that the process reaches, and a cell of a list, with words of the sort.
  record HeldElements (e : Elements) : Type 0 where
    reached : Reaches x p e.array
    array : Ok (Refer (Some e.array))
    words : AllOk Ok e.words

  record HeldCell (c : Linked) : Type 0 where
    element : AllOk Ok c.element
    rest : Ok (Refer c.rest)

  all_held : (n : ℕ) (b : Block) (e : Elements) → Reaches x p n → Ok (Refer (Some n)) → at x.heap n ≡ Some b → all_of n b ≡ Found e
      → HeldElements e
  all_held n (Array element long words) e r ok there f =
      subst HeldElements (found_same _ e f) (record { reached = r; array = ok; words = a.blocks n (Array element long words) r there })
  all_held n (Record words) e r ok there f = absurd cc
  all_held n (Text chars) e r ok there f = absurd cc
  all_held n (Part array start long) e r ok there f = absurd cc
  all_held n (Cell element rest) e r ok there f = absurd cc
  all_held n (Channel element) e r ok there f = absurd cc
  all_held n (Instance object words) e r ok there f = absurd cc
  all_held n (Sys table) e r ok there f = absurd cc

  in_held : (n : ℕ) (b : Block) (e : Elements) → Reaches x p n → Ok (Refer (Some n)) → at x.heap n ≡ Some b → elements_in x n b ≡ Found e
      → HeldElements e
  in_held n (Part array start long) e r ok there f =
      let h = both (block x array >>= all_of array) (λ e. Found (some_of start long e)) e f in
      let g = both (block x array) (all_of array) h.first h.is in
      let own = a.blocks n (Part array start long) r there in
      let s = all_held array g.first h.first (on n array (Part array start long) r there (inl refl)) own.0
      (block_there x array g.first g.is) g.then in
      subst HeldElements (found_same _ e h.then) (record { reached = s.reached; array = s.array; words = s.words })
  in_held n (Array element long words) e r ok there f = all_held n (Array element long words) e r ok there f
  in_held n (Record words) e r ok there f = absurd cc
  in_held n (Text chars) e r ok there f = absurd cc
  in_held n (Cell element rest) e r ok there f = absurd cc
  in_held n (Channel element) e r ok there f = absurd cc
  in_held n (Instance object words) e r ok there f = absurd cc
  in_held n (Sys table) e r ok there f = absurd cc

  at_held : (r : Option ℕ) (e : Elements) → Held Ok x p a r → elements_at x r ≡ Found (Some e) → HeldElements e
  at_held None e h f = absurd cc
  at_held (Some n) e own f =
      let h = both (block x n >>= elements_in x n) (λ e. Found (Some e)) (Some e) f in
      let g = both (block x n) (elements_in x n) h.first h.is in
      subst HeldElements (found_some _ e h.then)
      (in_held n g.first h.first (own.reached n refl) own.ok (block_there x n g.first g.is) g.then)

  -- What is read is held.
  abbrev IsHeld : Access (Option ℕ) → Type 0
  IsHeld v = (r : Option ℕ) → v ≡ Found r → Held Ok x p a r

  source_is_held : (o : Operand) → IsHeld (source_reference x p o)
  source_is_held o r e = source_held Ok x p a o r e

  there_is_held : (s : Spot) → ReachedSpot x p s → IsHeld (reference_at x p s)
  there_is_held s reach r e = there_held Ok x p a s r reach e

  elements_held : (v : Access (Option ℕ)) (e : Elements) → IsHeld v → v >>= elements_at x ≡ Found (Some e) → HeldElements e
  elements_held v e own f = let h = both v (elements_at x) (Some e) f in at_held h.first e (own h.first h.is) h.then

  cell_held : (n : ℕ) (b : Block) (c : Linked) → Reaches x p n → at x.heap n ≡ Some b → cell_in b ≡ Found c → HeldCell c
  cell_held n (Cell element rest) c r there f =
      let own = a.blocks n (Cell element rest) r there in subst HeldCell (found_same _ c f) (record { element = own.1; rest = own.0 })
  cell_held n (Record words) c r there f = absurd cc
  cell_held n (Text chars) c r there f = absurd cc
  cell_held n (Array element long words) c r there f = absurd cc
  cell_held n (Part array start long) c r there f = absurd cc
  cell_held n (Channel element) c r there f = absurd cc
  cell_held n (Instance object words) c r there f = absurd cc
  cell_held n (Sys table) c r there f = absurd cc

  first_held : (v : Access (Option ℕ)) (c : Linked) → IsHeld v → v >>= first_cell x ≡ Found (Some c) → HeldCell c
  first_held v c own f = let h = both v (first_cell x) (Some c) f in go h.first (own h.first h.is) h.then
    where
      go : (r : Option ℕ) → Held Ok x p a r → first_cell x r ≡ Found (Some c) → HeldCell c
      go None own f = absurd cc
      go (Some n) own f =
          let h = both (block x n >>= cell_in) (λ c. Found (Some c)) (Some c) f in
          let g = both (block x n) cell_in h.first h.is in
          subst HeldCell (found_some _ c h.then) (cell_held n g.first h.first (own.reached n refl) (block_there x n g.first g.is) g.then)

  -- ---- results, in a place that the process reaches

  number_keeps : (kind : Kind) (s : Spot) → ReachedSpot x p s → (r : Access ℤ) → Kept Ok x (gives_number_at x p kind s r)
  number_keeps kind s reach r =
      chain (read_number kind x p s) _ (λ old b. chain r _ (λ z c. chain (store_number kind x p s z) _ (λ m e.
      went m (number_kept Ok x p a x p (as_it_is Ok x p a) kind s z m (near Ok x p a s reach) e))))

  to_number : (kind : Kind) (o : Operand) (r : Access ℤ) → Kept Ok x (gives_number x p kind o r)
  to_number kind o r = chain (spot x p o) _ (λ s b. number_keeps kind s (spot_reached x p o s b) r)

  store_keeps : (s : Spot) → ReachedSpot x p s → (w : Word) → Ok w → (m : Memory) → store x p s w ≡ Found m → Left Ok x m.world m.process
  store_keeps s reach w ok m e = store_kept Ok x p a x p (as_it_is Ok x p a) s w m (near Ok x p a s reach) ok e

  plain_keeps : (s : Spot) → ReachedSpot x p s → (r : Access Word) → ((w : Word) → r ≡ Found w → Ok w) → Kept Ok x (gives_plain_at x p s r)
  plain_keeps s reach r ok =
      chain (read x p s >>= plain) _ (λ old b. chain r _ (λ w c. chain (store x p s w) _ (λ m e.
      went m (store_keeps s reach w (ok w c) m e))))

  -- A reference of the sort, and a block whose words are.
  abbrev Refers : Access (Option ℕ) → Type 0
  Refers r = (u : Option ℕ) → r ≡ Found u → Ok (Refer u)

  abbrev Fills : Access Block → Type 0
  Fills r = (b : Block) → r ≡ Found b → AllOk Ok (blocks.words_in b)

  reference_keeps : (s : Spot) → ReachedSpot x p s → (r : Access (Option ℕ)) → Refers r → Kept Ok x (gives_reference_at x p s r)
  reference_keeps s reach r ok =
      chain (reference_at x p s) _ (λ old b. chain r _ (λ u c. chain (store x p s (Refer u)) _ (λ m e.
      went m (store_keeps s reach (Refer u) (ok u c) m e))))

  to_reference : (o : Operand) (r : Access (Option ℕ)) → Refers r → Kept Ok x (gives_reference x p o r)
  to_reference o r ok = chain (spot x p o) _ (λ s b. reference_keeps s (spot_reached x p o s b) r ok)

  block_keeps : (s : Spot) → ReachedSpot x p s → (r : Access Block) → Fills r → Kept Ok x (gives_block_at x p s r)
  block_keeps s reach r ok =
      chain (reference_at x p s) _ (λ old c. chain r _ (λ b e.
      chain (store (with_block x b) p s (Refer (Some (next_serial x)))) _ (λ m f.
      went m (store_kept Ok x p a (with_block x b) p (block_kept Ok x p b a.process (ok b e)) s (Refer (Some (next_serial x))) m
      (near Ok x p a s reach) a.new f))))

  to_block : (o : Operand) (r : Access Block) → Fills r → Kept Ok x (gives_block x p o r)
  to_block o r ok = chain (spot x p o) _ (λ s b. block_keeps s (spot_reached x p o s b) r ok)

  stays : Kept Ok x (Found (next (memory x p)))
  stays = went (memory x p) (as_it_is Ok x p a)

  -- ---- blocks as they are made

  given : (c : Block) → AllOk Ok (blocks.words_in c) → Fills (Found c)
  given c ok b e = subst (λ u. AllOk Ok (blocks.words_in u)) (found_same c b e) ok

  text_fills : (v : Access (List ℕ)) → Fills (v >>= λ t. Found (Text t))
  text_fills v b e = let h = both v (λ t. Found (Text t)) b e in given (Text h.first) tt b h.then

  new_fills : (element : TypeDesc) (long : ℤ) → Fills (arrays.new_array element long)
  new_fills element (negsuc m) b e = absurd cc
  new_fills element (pos m) b e = go (nat_le (blocks.bytes_for element m) blocks.most_bytes) e
    where
      go : (t : Bool) → (if t then Found (blocks.blank_array element m) else Raises large_text) ≡ Found b → AllOk Ok (blocks.words_in b)
      go true e = given (blocks.blank_array element m) (array_ok Ok a.plain a.nil element m) b e
      go false e = absurd cc

  bytes_fill : (bs : List ℕ) (c b : Block) → AllOk Ok (blocks.words_in c) → strings.with_bytes bs c ≡ Found b → AllOk Ok (blocks.words_in b)
  bytes_fill bs (Array element long words) b ok e =
      let h = both (put_bytes words 0 bs) (λ after. Found (Array element long after)) b e in
      given (Array element long h.first) (bytes_ok Ok a.plain a.nil words 0 bs h.first ok h.is) b h.then
  bytes_fill bs (Record words) b ok e = absurd cc
  bytes_fill bs (Text chars) b ok e = absurd cc
  bytes_fill bs (Part array start long) b ok e = absurd cc
  bytes_fill bs (Cell element rest) b ok e = absurd cc
  bytes_fill bs (Channel element) b ok e = absurd cc
  bytes_fill bs (Instance object words) b ok e = absurd cc
  bytes_fill bs (Sys table) b ok e = absurd cc

  array_fills : (bs : List ℕ) → Fills (strings.array_of bs)
  array_fills bs b e =
      let h = both (arrays.new_array strings.byte_type (pos (length bs))) (strings.with_bytes bs) b e in
      bytes_fill bs h.first b (new_fills strings.byte_type (pos (length bs)) h.first h.is) h.then

  -- ---- calls and prints

  frame_is_made : (w : Word) (f : Frame) → control.frame_at x p w ≡ Found f → FrameOk Ok f
  frame_is_made (Address (InFrame s) k) f e =
      let h = both (words_in s (all_frames p)) (λ words. if int_eq k (pos 0) then made_frame p.made s else Wrong type_check) f e in
      go (int_eq k (pos 0)) h.then
    where
      go : (b : Bool) → (if b then made_frame p.made s else Wrong type_check) ≡ Found f → FrameOk Ok f
      go true e = made_is_ok Ok p.made s f e a.process.made
      go false e = absurd cc
  frame_is_made (Address (InBlock n) k) f e = let h = both (block x n) (λ b. Wrong type_check) f e in let g = h.then in absurd cc
  frame_is_made (Plain z) f e = absurd cc
  frame_is_made (Refer s) f e = absurd cc

  with_kept : (f : Frame) (below made : List Frame) → FrameOk Ok f → FramesOk Ok below → FramesOk Ok made
      → Left Ok x x (with_frames p f below made)
  with_kept f below made b c d = record { blocks = nothing_more Ok x p a; process = record { frame = b; below = c; made = d } }

  returns_keep : (fs : List Frame) → FramesOk Ok fs → Kept Ok x (Found (control.returns x p fs))
  returns_keep [] ok = kept _ (nothing_more Ok x p a)
  returns_keep (f ∷ fs) ok = kept _ (with_kept f fs p.made ok.0 ok.1 a.process.made)

  calls_keep : (limit : ℕ) (w : Word) (f : Frame) (pc : ℕ) → control.frame_at x p w ≡ Found f
      → Kept Ok x (Found (control.calls limit x p f pc))
  calls_keep limit w f pc e = go (nat_lt (height p) limit)
    where
      go : (b : Bool)
          → Kept Ok x (Found (
          if b then Went x (with_frames p (at_pc f pc) (at_pc p.frame (suc p.frame.pc) ∷ p.below) (without f.serial p.made))
          else Ends x (Broken (codes "stack overflow"))))
      go true =
          kept _ (with_kept (at_pc f pc) (at_pc p.frame (suc p.frame.pc) ∷ p.below) (without f.serial p.made) (frame_is_made w f e)
          (a.process.frame, a.process.below) (without_ok Ok f.serial p.made a.process.made))
      go false = kept _ (nothing_more Ok x p a)

  number_word : (v : Value) → Ok (word_of v)
  number_word (Num z) = a.plain z

  far_near : (q : Process) (place : Place) (k : ℤ) → ReachedSpot x p (Far place k) → Near Ok x p a q (Far place k)
  far_near q (InFrame s) k r = tt
  far_near q (InBlock n) k r = r

  -- The print of the process, one of whose frames is gone.
  prints_keep : (q : Process) (place : Place) (k : ℤ) (g : Printing) → ReachedSpot x p (Far place k) → Left Ok x x q
      → Kept Ok x (control.prints x q place k g)
  prints_keep q place k (Answers w v) reach d =
      chain (control.answered (control.with_outside x w) q place k v) _ (λ m c.
      went m (store_kept Ok x p a (control.with_outside x w) q (record { blocks = d.blocks; process = d.process }) (Far place k)
      (word_of v) m
      (far_near q place k reach) (number_word v) c))
  prints_keep q place k (Requests w m g) reach d =
      kept _ (record { blocks = d.blocks; process = record { frame = d.process.frame; below = d.process.below; made = d.process.made } })
  prints_keep q place k NoReply reach d = kept _ d

  print_keeps : (f : Frame) → NearFrame x p f → Kept Ok x (control.print_call x p f)
  print_keeps f n =
      chain (control.printed x f.words) _ (λ text b. chain (control.answer_spot f.words) _ (λ s c. chain (place_of s) _ (λ place e.
      prints_keep (with_frames p p.frame p.below (without f.serial p.made)) place (place_in s) (print (control.outside_of x) text)
      (place_reached x p s place (place_in s) (answer_reached x p f s n c) e)
      (with_kept p.frame p.below (without f.serial p.made) a.process.frame a.process.below
      (without_ok Ok f.serial p.made a.process.made)))))

  sys_keeps : (name : List ℕ) (f : Frame) → NearFrame x p f → Kept Ok x (control.sys_call x p name f)
  sys_keeps name f n = go (bytes_eq name (codes "print"))
    where
      go : (b : Bool) → Kept Ok x (if b then control.print_call x p f else Wrong 110)
      go true = print_keeps f n
      go false = wrong 110

  branch_keeps : (b : Bool) (pc : ℕ) → Kept Ok x (Found (if b then jumps x p pc else next (memory x p)))
  branch_keeps true pc = kept _ (with_kept (at_pc p.frame pc) p.below p.made a.process.frame a.process.below a.process.made)
  branch_keeps false pc = stays

  -- ---- the instructions

  module _ (limit : ℕ) (o : Object) (i : Inst) where
    put_keeps : (s : Spot) (v : Access (List Word)) → ((us : List Word) → v ≡ Found us → AllOk Ok us)
        → Kept Ok x (v >>= with_words_at x p s >>= λ m. Found (next m))
    put_keeps s v ok =
        chain (v >>= with_words_at x p s) _ (λ m c. let h = both v (with_words_at x p s) m c in
        went m (words_kept Ok x p a x p (as_it_is Ok x p a) s h.first m (ok h.first h.is) h.then))

    -- What stands in the place of an operand.
    there : (op : Operand) (s : Spot) (ws : List Word) → spot x p op ≡ Found s → words_at x p s ≡ Found ws → AllOk Ok ws
    there op s ws e f = words_read Ok x p a s ws (spot_reached x p op s e) f

    row_keeps : (row : Row) → Kept Ok x (numbers.by_row o x p i row)
    row_keeps (Calculates kind operator) =
        chain (source_of kind x p i.src) _ (λ s b. chain (middle_of kind x p i.middle i.dst) _ (λ m c. to_number kind i.dst _))
    row_keeps (Shifts kind shift) =
        chain (source_of Int x p i.src) _ (λ s b. chain (middle_of kind x p i.middle i.dst) _ (λ m c.
        to_number kind i.dst (Found (shifted kind shift m s))))
    row_keeps (Converts from to) = chain (source_of from x p i.src) _ (λ s b. to_number to i.dst (Found (wrapped to s)))
    row_keeps (Moves kind) = chain (source_of kind x p i.src) _ (λ s b. to_number kind i.dst (Found s))
    row_keeps (Branches Int c) =
        chain (source_word x p i.src) _
        (λ s b. chain (middle_word x p i.middle) _ (λ m e. chain (numbers.words_compared c s m) _ (λ holds f.
        chain (target o i.dst) _ (λ pc g. branch_keeps holds pc))))
    row_keeps (Branches Byte c) =
        chain (source_of Byte x p i.src) _
        (λ s b. chain (given_of Byte x p i.middle) _ (λ m e. chain (target o i.dst) _ (λ pc f. branch_keeps _ pc)))
    row_keeps (Branches Big c) =
        chain (source_of Big x p i.src) _
        (λ s b. chain (given_of Big x p i.middle) _ (λ m e. chain (target o i.dst) _ (λ pc f. branch_keeps _ pc)))

    texts_keep : (row : Option Comparison) → Kept Ok x (by_texts limit o x p i row)
    texts_keep (Some c) =
        chain (strings.source_text o x p i) _
        (λ s b. chain (strings.given_text o x p i) _ (λ m e. chain (target o i.dst) _ (λ pc f. branch_keeps _ pc)))
    texts_keep None = wrong 110

    numbers_keep : (operation : Op) (row : Option Row) → Kept Ok x (by_numbers limit o x p i operation row)
    numbers_keep operation (Some row) = row_keeps row
    numbers_keep operation None = texts_keep (text_row operation)

    -- ---- addresses

    element_ok : (es : Option Elements) → ((e : Elements) → es ≡ Some e → Reaches x p e.array) → (index : ℤ) (w : Word)
        → not_nil es >>= (λ e. arrays.element_address o x p i e index) ≡ Found w → Ok w
    element_ok es reach index w e =
        let h = both (not_nil es) (λ e. arrays.element_address o x p i e index) w e in
        let g = both (unless_raised (index_in h.first.long index)) _ w h.then in
        subst Ok (found_same _ w g.then) (a.block_address h.first.array _ (reach h.first (not_nil_some es h.first h.is)))

    -- Such a kind of elements is asked for, or another.
    abbrev Selects : (Option Elements → Access (Option Elements)) → Type 0
    Selects kind = (s t : Option Elements) → kind s ≡ Found t → s ≡ t

    any_selects : Selects (λ es. Found es)
    any_selects s t e = found_same s t e

    size_selects : (size : ℕ) → Selects (arrays.of_size o x p i size)
    size_selects size None t e = found_same None t e
    size_selects size (Some s) t e = go (s.element.size == size) e
      where
        go : (b : Bool) → (if b then Found (Some s) else Wrong type_check) ≡ Found t → Some s ≡ t
        go true e = found_same (Some s) t e
        go false e = absurd cc

    ind_keeps : (kind : Option Elements → Access (Option Elements)) → Selects kind → Kept Ok x (arrays.indexes o x p i kind)
    ind_keeps kind selects =
        chain (source_reference x p i.src >>= elements_at x >>= kind) _ (λ es b. chain (middle_spot i.middle) _ (λ s c.
        chain (source_of Int x p i.dst) _
        (λ index e. plain_keeps s (middle_reached x p i.middle s c) _ (element_ok es (reach es b) index))))
      where
        reach : (es : Option Elements) → source_reference x p i.src >>= elements_at x >>= kind ≡ Found es → (e : Elements) → es ≡ Some e
            → Reaches x p e.array
        reach es b e f =
            let h = both (source_reference x p i.src >>= elements_at x) kind es b in
            (elements_held (source_reference x p i.src) e (source_is_held i.src) (h.is ∙ ap Found (selects h.first es h.then ∙ f))).reached

    place_ok : (s : Spot) → ReachedSpot x p s → (w : Word) → Found (address p s) ≡ Found w → Ok w
    place_ok (Own k) r w e = subst Ok (found_same _ w e) (a.frame_address p.frame.serial k)
    place_ok (Data k) r w e = subst Ok (found_same _ w e) (a.block_address p.frame.instance k (near Ok x p a (Data k) tt))
    place_ok (Far (InFrame s) k) r w e = subst Ok (found_same _ w e) (a.frame_address s k)
    place_ok (Far (InBlock n) k) r w e = subst Ok (found_same _ w e) (a.block_address n k r)

    source_plain_ok : (op : Operand) (w : Word) → source_plain x p op ≡ Found w → Ok w
    source_plain_ok op w e = go op e
      where
        through : (op : Operand) → spot x p op >>= (λ s. read x p s >>= plain) ≡ Found w → Ok w
        through op e =
            let h = both (spot x p op) (λ s. read x p s >>= plain) w e in
            let g = both (read x p h.first) plain w h.then in
            let f = both (words_at x p h.first) (λ words. word_at words (place_in h.first)) g.first g.is in
            plain_same Ok g.first w g.then (word_ok Ok f.first (place_in h.first) g.first (there op h.first f.first h.is f.is) f.then)

        go : (op : Operand) → source_plain x p op ≡ Found w → Ok w
        go (operand.Imm z) e = subst Ok (found_same (Plain z) w e) (a.plain z)
        go (operand.Fp k) e = through (operand.Fp k) e
        go (operand.Mp k) e = through (operand.Mp k) e
        go (operand.IndFp inner outer) e = through (operand.IndFp inner outer) e
        go (operand.IndMp inner outer) e = through (operand.IndMp inner outer) e
        go operand.None e = absurd cc

    -- ---- arrays and lists

    part_fills : (e : Elements) → HeldElements e → (from to : ℤ)
        → Fills (unless_raised (bounds_in e.long from to) >>= λ b. Found (Part e.array (e.start + b.0) (b.1 - b.0)))
    part_fills e own from to b f =
        let h = both (unless_raised (bounds_in e.long from to)) (λ b. Found (Part e.array (e.start + b.0) (b.1 - b.0))) b f in
        given (Part e.array (e.start + h.first.0) (h.first.1 - h.first.0)) (own.array, tt) b h.then

    none_refers : (from to : ℤ) → Refers (unless_raised (bounds_in 0 from to) >>= λ b. Found None)
    none_refers from to u e =
        let h = both (unless_raised (bounds_in 0 from to)) (λ b. Found None) u e in
        subst (λ r. Ok (Refer r)) (found_same None u h.then) a.nil

    sliced_keeps : (s : Spot) → ReachedSpot x p s → (es : Option Elements) → reference_at x p s >>= elements_at x ≡ Found es → (from to : ℤ)
        → Kept Ok x (arrays.sliced o x p i s es from to)
    sliced_keeps s reach None e from to = reference_keeps s reach _ (none_refers from to)
    sliced_keeps s reach (Some es) e from to =
        block_keeps s reach _ (part_fills es (elements_held (reference_at x p s) es (there_is_held s reach) e) from to)

    conses_keep : (element : Access (List Word)) → ((ws : List Word) → element ≡ Found ws → AllOk Ok ws)
        → Kept Ok x (lists.conses o x p i element)
    conses_keep element ok =
        chain (spot x p i.dst) _ (λ s b. chain (reference_at x p s) _ (λ rest c.
        block_keeps s (spot_reached x p i.dst s b) _ (cell rest (there_is_held s (spot_reached x p i.dst s b) rest c))))
      where
        cell : (rest : Option ℕ) → Held Ok x p a rest → Fills (element >>= λ ws. Found (Cell ws rest))
        cell rest own b f =
            let h = both element (λ ws. Found (Cell ws rest)) b f in given (Cell h.first rest) (own.ok, ok h.first h.is) b h.then

    channel_keeps : (m : Middle) (element : TypeDesc) → Kept Ok x (lists.channel o x p i m element)
    channel_keeps middle.None element = to_block i.dst (Found (Channel element)) (given (Channel element) tt)
    channel_keeps (middle.Imm n) element = wrong 110
    channel_keeps (middle.Fp n) element = wrong 110
    channel_keeps (middle.Mp n) element = wrong 110

    -- ---- words that move

    movm_keeps : Kept Ok x (data_ops.movm o x p i)
    movm_keeps =
        chain (spot x p i.src) _ (λ s b. chain (words_at x p s) _ (λ source c. chain (at_least_zero (place_in s)) _ (λ from e.
        chain (given_of Int x p i.middle >>= at_least_zero) _
        (λ count f. chain (spot x p i.dst) _ (λ t g. chain (words_at x p t) _ (λ target h.
        chain (at_least_zero (place_in t)) _ (λ to k. put_keeps t (moved source from target to count) (λ us l.
        moved_ok Ok a.plain a.nil source from target to count us (there i.src s source b c) (there i.dst t target g h) l))))))))

    movmp_keeps : Kept Ok x (data_ops.movmp o x p i)
    movmp_keeps =
        chain (spot x p i.src) _ (λ s b. chain (words_at x p s) _ (λ source c. chain (word_number (place_in s)) _ (λ from e.
        chain (middle_type o i.middle) _ (λ desc f. chain (typed_words desc source from) _ (λ vs g. chain (spot x p i.dst) _ (λ t h.
        chain (words_at x p t) _ (λ target k. chain (word_number (place_in t)) _ (λ to l. put_keeps t (put target to vs) (λ us m.
        put_ok Ok target to vs us (there i.dst t target h k)
        (typed_ok Ok desc 0 source from (desc.size / 4) vs (there i.src s source b c) g) m)))))))))

    cell_of : (c : Option Linked) (cell : Linked) → lists.first o x p i ≡ Found c → not_nil c ≡ Found cell → HeldCell cell
    cell_of c cell b h = first_held (source_reference x p i.src) cell (source_is_held i.src) (b ∙ ap Found (not_nil_some c cell h))

    headm_keeps : Kept Ok x (lists.headm o x p i)
    headm_keeps =
        chain (lists.first o x p i) _
        (λ c b. chain (given_of Int x p i.middle >>= at_least_zero) _ (λ count e. chain (spot x p i.dst) _ (λ t f.
        chain (words_at x p t) _ (λ target g. chain (at_least_zero (place_in t)) _ (λ to h. chain (not_nil c) _ (λ cell k.
        put_keeps t (moved cell.element 0 target to count) (λ us l.
        moved_ok Ok a.plain a.nil cell.element 0 target to count us (cell_of c cell b k).element (there i.dst t target f g) l)))))))

    headmp_keeps : Kept Ok x (lists.headmp o x p i)
    headmp_keeps =
        chain (lists.first o x p i) _ (λ c b. chain (middle_type o i.middle) _ (λ desc e. chain (spot x p i.dst) _ (λ t f.
        chain (words_at x p t) _ (λ target g. chain (word_number (place_in t)) _ (λ to h. chain (not_nil c) _ (λ cell k.
        put_keeps t (typed_words desc cell.element 0 >>= put target to) (λ us l.
        let m = both (typed_words desc cell.element 0) (put target to) us l in
        put_ok Ok target to m.first us (there i.dst t target f g)
        (typed_ok Ok desc 0 cell.element 0 (desc.size / 4) m.first (cell_of c cell b k).element m.is) m.then)))))))

    headp_refers : (c : Option Linked) → lists.first o x p i ≡ Found c → Refers (not_nil c >>= λ c. word_at c.element (pos 0) >>= reference)
    headp_refers c b u e =
        let h = both (not_nil c) (λ c. word_at c.element (pos 0) >>= reference) u e in
        let g = both (word_at h.first.element (pos 0)) reference u h.then in
        go g.first g.then (word_ok Ok h.first.element (pos 0) g.first (cell_of c h.first b h.is).element g.is)
      where
        go : (w : Word) → reference w ≡ Found u → Ok w → Ok (Refer u)
        go (Refer s) e ok = subst (λ r. Ok (Refer r)) (found_same s u e) ok
        go (Plain z) e ok = absurd cc
        go (Address place k) e ok = absurd cc

    tail_refers : (c : Option Linked) → lists.first o x p i ≡ Found c → Refers (not_nil c >>= λ c. Found c.rest)
    tail_refers c b u e =
        let h = both (not_nil c) (λ c. Found c.rest) u e in
        subst (λ r. Ok (Refer r)) (found_same h.first.rest u h.then) (cell_of c h.first b h.is).rest

    load_keeps : (b : Bool) (table : List (List ℕ))
        → Kept Ok x (if b then gives_block x p i.dst (Found (Sys table)) else gives_reference x p i.dst (Found None))
    load_keeps true table = to_block i.dst (Found (Sys table)) (given (Sys table) tt)
    load_keeps false table = to_reference i.dst (Found None) (λ u e. subst (λ r. Ok (Refer r)) (found_same None u e) a.nil)

    overwritten_ok : (s t : Elements) (k : ℕ) (us : List Word) → AllOk Ok s.words → AllOk Ok t.words → arrays.overwritten s t k ≡ Found us
        → AllOk Ok us
    overwritten_ok s t k us from into e = go (blocks.refers s.element) e
      where
        go : (b : Bool)
            → (if b
            then taken s.words (s.start * (s.element.size / 4)) (s.long * (s.element.size / 4)) >>= put t.words
            ((t.start + k) * (t.element.size / 4))
            else moved s.words (s.start * s.element.size) t.words ((t.start + k) * t.element.size) (s.long * s.element.size)) ≡ Found us
            → AllOk Ok us
        go true e =
            let h = both (taken s.words (s.start * (s.element.size / 4)) (s.long * (s.element.size / 4)))
            (put t.words ((t.start + k) * (t.element.size / 4))) us e in
            put_ok Ok t.words ((t.start + k) * (t.element.size / 4)) h.first us into
            (taken_ok Ok (λ k w. Found w) (λ k w v e ok. subst Ok (found_same w v e) ok) s.words (s.start * (s.element.size / 4))
            (s.long * (s.element.size / 4)) h.first from h.is)
            h.then
        go false e =
            moved_ok Ok a.plain a.nil s.words (s.start * s.element.size) t.words ((t.start + k) * t.element.size)
            (s.long * s.element.size) us from into e

    copied_keeps : (s t : Option Elements) (k : ℕ) → ((e : Elements) → s ≡ Some e → HeldElements e)
        → ((e : Elements) → t ≡ Some e → HeldElements e)
        → Kept Ok x (arrays.copied x p s t k)
    copied_keeps (Some s) (Some t) k b c =
        chain (arrays.overwritten s t k) _ (λ us e. chain (with_data x t.array us) _ (λ y f.
        went (memory y p) (data_kept Ok x p a x p (as_it_is Ok x p a) y t.array us
        (overwritten_ok s t k us (b s refl).words (c t refl).words e) f)))
    copied_keeps None t k b c = stays
    copied_keeps (Some s) None k b c = stays

    slicela_keeps : Kept Ok x (arrays.slicela o x p i)
    slicela_keeps =
        chain (source_reference x p i.src >>= elements_at x) _ (λ s b. chain (given_of Int x p i.middle) _ (λ k c.
        chain (source_reference x p i.dst >>= elements_at x >>= arrays.of_one_type s) _ (λ t e.
        chain (unless_raised (bounds_in (length_of t) k (arrays.end_from k (length_of s)))) _ (λ bounds f.
        copied_keeps s t bounds.0 (λ u g. elements_held (source_reference x p i.src) u (source_is_held i.src) (b ∙ ap Found g))
        (λ u g. let h = both (source_reference x p i.dst >>= elements_at x) (arrays.of_one_type s) t e in
        elements_held (source_reference x p i.dst) u (source_is_held i.dst) (h.is ∙ ap Found (one_type_same s h.first t h.then ∙ g)))))))

    slicea_keeps : Kept Ok x (arrays.slicea o x p i)
    slicea_keeps =
        chain (source_of Int x p i.src) _ (λ from b. chain (given_of Int x p i.middle) _ (λ to c. chain (spot x p i.dst) _ (λ s e.
        chain (reference_at x p s >>= elements_at x) _ (λ es f. sliced_keeps s (spot_reached x p i.dst s e) es f from to))))

    same_words : (element ws : List Word) → AllOk Ok element → Found element ≡ Found ws → AllOk Ok ws
    same_words element ws ok e = subst (AllOk Ok) (found_same element ws e) ok

    consm_keeps : Kept Ok x (lists.consm o x p i)
    consm_keeps =
        chain (spot x p i.src) _ (λ s b. chain (words_at x p s) _ (λ source c. chain (at_least_zero (place_in s)) _ (λ from e.
        chain (given_of Int x p i.middle >>= at_least_zero) _ (λ count f.
        chain (moved source from (blank (lists.plain_type count)) 0 count) _ (λ element g. conses_keep (Found element) (λ ws h.
        same_words element ws
        (moved_ok Ok a.plain a.nil source from (blank (lists.plain_type count)) 0 count element (there i.src s source b c)
        (blank_ok Ok a.plain a.nil (lists.plain_type count)) g) h))))))

    consmp_keeps : Kept Ok x (lists.consmp o x p i)
    consmp_keeps =
        chain (spot x p i.src) _ (λ s b. chain (words_at x p s) _ (λ source c. chain (word_number (place_in s)) _ (λ from e.
        chain (middle_type o i.middle) _
        (λ desc f. chain (typed_words desc source from) _ (λ element g. conses_keep (Found element) (λ ws h.
        same_words element ws (typed_ok Ok desc 0 source from (desc.size / 4) element (there i.src s source b c) g) h))))))

    holder_ok : (kind : Kind) (z : ℤ) (ws : List Word) → with_number_at kind (lists.holder_of kind) (pos 0) z ≡ Found ws → AllOk Ok ws
    holder_ok kind z ws e = number_ok Ok a.plain a.nil kind (lists.holder_of kind) (pos 0) z ws (empty kind) e
      where
        empty : (kind : Kind) → AllOk Ok (lists.holder_of kind)
        empty Byte = (a.plain (pos 0), tt)
        empty Int = (a.plain (pos 0), tt)
        empty Big = (a.plain (pos 0), (a.plain (pos 0), tt))

    frame_keeps : Kept Ok x (control.frame limit o x p i)
    frame_keeps =
        chain (source_type o i.src) _ (λ desc b. chain (spot x p i.dst) _ (λ s c.
        chain (store x p s (Address (InFrame (control.next_frame x)) (pos 0))) _ (λ m e.
        kept _ (made desc m (store_keeps s (spot_reached x p i.dst s c) (Address (InFrame (control.next_frame x)) (pos 0))
        (a.frame_address (control.next_frame x) (pos 0)) m e)))))
      where
        made : (desc : TypeDesc) (m : Memory) → Left Ok x m.world m.process → LeftBy Ok x (next (control.framed m (blank desc)))
        made desc m k = record {
          blocks = k.blocks;
          process = record {
            frame = k.process.frame;
            below = k.process.below;
            made = joined_ok Ok m.process.made _ k.process.made ((k.process.frame.0, blank_ok Ok a.plain a.nil desc), tt);
          };
        }

    call_keeps : Kept Ok x (control.call limit o x p i)
    call_keeps =
        chain (source_word x p i.src >>= control.frame_at x p) _ (λ f b. chain (target o i.dst) _ (λ pc c.
        let h = both (source_word x p i.src) (control.frame_at x p) f b in calls_keep limit h.first f pc h.then))

    data_keeps : (op : Op) → Kept Ok x (obey limit o x p i op)
    data_keeps op.Movw =
        chain (source_plain x p i.src) _ (λ w b. chain (spot x p i.dst) _ (λ s c.
        plain_keeps s (spot_reached x p i.dst s c) (Found w) (λ v e. subst Ok (found_same w v e) (source_plain_ok i.src w b))))
    data_keeps op.Movp =
        chain (source_reference x p i.src) _ (λ r b.
        to_reference i.dst (Found r) (λ u e. subst (λ v. Ok (Refer v)) (found_same r u e) (source_is_held i.src r b).ok))
    data_keeps op.Movm = movm_keeps
    data_keeps op.Movmp = movmp_keeps
    data_keeps op.Lea =
        chain (spot x p i.src) _ (λ s b. chain (around x p s) _ (λ w c. chain (spot x p i.dst) _ (λ t e.
        plain_keeps t (spot_reached x p i.dst t e) (Found (address p s)) (place_ok s (spot_reached x p i.src s b)))))
    data_keeps op.New =
        chain (source_type o i.src) _
        (λ desc b. to_block i.dst (Found (Record (blank desc))) (given (Record (blank desc)) (blank_ok Ok a.plain a.nil desc)))
    data_keeps op.Newz =
        chain (source_type o i.src) _
        (λ desc b. to_block i.dst (Found (Record (blank desc))) (given (Record (blank desc)) (blank_ok Ok a.plain a.nil desc)))
    data_keeps op.Newa =
        chain (source_of Int x p i.src) _ (λ long b. chain (middle_type o i.middle) _ (λ element c.
        to_block i.dst (arrays.new_array element long) (new_fills element long)))
    data_keeps op.Newaz =
        chain (source_of Int x p i.src) _ (λ long b. chain (middle_type o i.middle) _ (λ element c.
        to_block i.dst (arrays.new_array element long) (new_fills element long)))
    data_keeps op.Indx = ind_keeps (λ es. Found es) any_selects
    data_keeps op.Indb = ind_keeps (arrays.of_size o x p i 1) (size_selects 1)
    data_keeps op.Indw = ind_keeps (arrays.of_size o x p i 4) (size_selects 4)
    data_keeps op.Indl = ind_keeps (arrays.of_size o x p i 8) (size_selects 8)
    data_keeps op.Lena =
        chain (source_reference x p i.src >>= elements_at x) _ (λ es b. to_number Int i.dst (Found (pos (length_of es))))
    data_keeps op.Slicea = slicea_keeps
    data_keeps op.Slicela = slicela_keeps
    data_keeps op.Addc =
        chain (strings.source_text o x p i) _ (λ s b. chain (strings.left_text o x p i i.middle) _ (λ m c.
        to_block i.dst _ (text_fills (unless_raised (joined m s)))))
    data_keeps op.Lenc = chain (strings.source_text o x p i) _ (λ s b. to_number Int i.dst (Found (pos (length s))))
    data_keeps op.Indc = chain (strings.source_text o x p i) _ (λ s b. chain (given_of Int x p i.middle) _ (λ k c. to_number Int i.dst _))
    data_keeps op.Insc =
        chain (source_of Int x p i.src) _ (λ code b. chain (given_of Int x p i.middle) _ (λ k c. chain (spot x p i.dst) _ (λ t e.
        chain (strings.text_there o x p i t) _
        (λ s f. block_keeps t (spot_reached x p i.dst t e) _ (text_fills (strings.inserted s k code))))))
    data_keeps op.Slicec =
        chain (source_of Int x p i.src) _ (λ from b. chain (given_of Int x p i.middle) _ (λ to c. chain (spot x p i.dst) _ (λ t e.
        chain (strings.text_there o x p i t) _ (λ s f.
        block_keeps t (spot_reached x p i.dst t e) _ (text_fills (unless_raised (slice_in s from to)))))))
    data_keeps op.Cvtwc =
        chain (source_of Int x p i.src) _ (λ z b. to_block i.dst (Found (Text (number_text z))) (given (Text (number_text z)) tt))
    data_keeps op.Cvtlc =
        chain (source_of Big x p i.src) _ (λ z b. to_block i.dst (Found (Text (number_text z))) (given (Text (number_text z)) tt))
    data_keeps op.Cvtcw = chain (strings.source_text o x p i) _ (λ s b. to_number Int i.dst (Found (number_read Int s)))
    data_keeps op.Cvtcl = chain (strings.source_text o x p i) _ (λ s b. to_number Big i.dst (Found (number_read Big s)))
    data_keeps op.Cvtca =
        chain (strings.source_text o x p i) _
        (λ s b. to_block i.dst (strings.array_of (encode_utf8_all s)) (array_fills (encode_utf8_all s)))
    data_keeps op.Cvtac =
        chain (source_reference x p i.src >>= elements_at x >>= strings.bytes_in) _ (λ bs b.
        to_block i.dst _ (text_fills (unless_raised (strings.not_longer (characters 0 bs)))))
    data_keeps op.Consb =
        chain (source_of Byte x p i.src) _ (λ z b. conses_keep (with_number_at Byte (lists.holder_of Byte) (pos 0) z) (holder_ok Byte z))
    data_keeps op.Consw =
        chain (source_of Int x p i.src) _ (λ z b. conses_keep (with_number_at Int (lists.holder_of Int) (pos 0) z) (holder_ok Int z))
    data_keeps op.Consl =
        chain (source_of Big x p i.src) _ (λ z b. conses_keep (with_number_at Big (lists.holder_of Big) (pos 0) z) (holder_ok Big z))
    data_keeps op.Consp =
        chain (source_reference x p i.src) _ (λ r b.
        conses_keep (Found (Refer r ∷ [])) (λ ws e. same_words (Refer r ∷ []) ws ((source_is_held i.src r b).ok, tt) e))
    data_keeps op.Consm = consm_keeps
    data_keeps op.Consmp = consmp_keeps
    data_keeps op.Headb = chain (lists.first o x p i) _ (λ c b. to_number Byte i.dst _)
    data_keeps op.Headw = chain (lists.first o x p i) _ (λ c b. to_number Int i.dst _)
    data_keeps op.Headl = chain (lists.first o x p i) _ (λ c b. to_number Big i.dst _)
    data_keeps op.Headp = chain (lists.first o x p i) _ (λ c b. to_reference i.dst _ (headp_refers c b))
    data_keeps op.Headm = headm_keeps
    data_keeps op.Headmp = headmp_keeps
    data_keeps op.Tail = chain (lists.first o x p i) _ (λ c b. to_reference i.dst _ (tail_refers c b))
    data_keeps op.Lenl = chain (source_reference x p i.src >>= list_length x) _ (λ n b. to_number Int i.dst (Found (wrapped Int (pos n))))
    data_keeps op.Newcb = channel_keeps i.middle (type_of_size 1 [])
    data_keeps op.Newcw = channel_keeps i.middle (type_of_size 4 [])
    data_keeps op.Newcl = channel_keeps i.middle (type_of_size 8 [])
    data_keeps op.Newcp = channel_keeps i.middle (type_of_size 4 (128 ∷ []))
    data_keeps op.Newcm = chain (immediate i.src) _ (λ size b. channel_keeps i.middle (type_of_size size []))
    data_keeps op.Newcmp = chain (source_type o i.src) _ (λ element b. channel_keeps i.middle element)
    data_keeps op.Jmp = chain (target o i.dst) _ (λ pc b. branch_keeps true pc)
    data_keeps op.Frame = frame_keeps
    data_keeps op.Call = call_keeps
    data_keeps op.Ret = returns_keep p.below a.process.below
    data_keeps op.Load =
        chain (source_reference x p i.src >>= text_at x) _ (λ path b. chain (middle_immediate i.middle) _ (λ n c.
        chain (or_wrong type_check (slice_get o.imports n)) _ (λ table e. load_keeps (bytes_eq path path_of_sys) (names table))))
    data_keeps op.Mcall =
        chain (source_word x p i.src >>= control.frame_at x p) _ (λ f b. chain (middle_immediate i.middle) _ (λ k c.
        chain (source_reference x p i.dst >>= control.loaded_module >>= block x) _ (λ g e.
        chain (control.function_of g k) _ (λ name h.
        let w = both (source_word x p i.src) (control.frame_at x p) f b in sys_keeps name f (frame_near x p w.first f w.then)))))
    data_keeps operation = numbers_keep operation (number_row operation)

  work_keeps : (limit : ℕ) (o : Object) → Kept Ok x (work limit o x p)
  work_keeps limit o = chain (or_wrong bad_jump (slice_get o.insts p.frame.pc)) _ (λ i b. data_keeps limit o i i.op)

  after_it : (v : Access Does) → Kept Ok x v → LeftBy Ok x (or_fault x p v)
  after_it (Found e) (kept e' k) = k
  after_it (Wrong n) (wrong n') = nothing_more Ok x p a
  after_it (Raises t) (raises t') = nothing_more Ok x p a

  -- An instruction stores words of such a sort alone.
  pub step_stores : (limit : ℕ) (objects : List Object) → LeftBy Ok x (step limit objects x p)
  step_stores limit objects =
      after_it (code_of limit objects x p >>= λ o. work limit o x p) (chain (code_of limit objects x p) _ (λ o b. work_keeps limit o))
