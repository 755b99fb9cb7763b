-- Each instruction leaves no word that refers to a block that isn't there.
use Rattle.std.proofs.Common.{◌≡◌, ℕ, suc, ◌+◌, ◌-◌, ◌*◌, ◌/◌, ℤ, Bool, true, false, List, [], ◌∷◌, ◌++◌, ◌⊎◌, inl, inr, refl, sym, ap, subst, ◌∙◌, if◌then◌else◌}
use Rattle.std.specs.Prelude.{Option, Some, None, nat_lt, nat_le, nat_eq, pos, negsuc, codes, slice_get, length, encode_utf8_all}
use Rattle.std.specs.Ordering.{int_eq}
use Rattle.std.specs.Str.{bytes_eq}
use Rattle.process_model.specs.Process.{Went, Ends}
use Rattle.limbo_values.specs.declared.number.Kind.{Kind}
use Rattle.limbo_values.specs.declared.number.Kind.TheVariants.{Byte, Int, Big}
use Rattle.limbo_values.specs.declared.operator.Comparison.{Comparison}
use Rattle.dis_isa.specs.declared.inst.Inst.{Inst}
use Rattle.dis_isa.specs.declared.inst.Middle.{Middle}
use Rattle.dis_isa.specs.declared.inst.Middle.TheVariants as middle
use Rattle.dis_isa.specs.declared.inst.Operand.{Operand}
use Rattle.dis_isa.specs.declared.inst.Operand.TheVariants as operand
use Rattle.dis_isa.specs.declared.op.Op.{Op}
use Rattle.dis_isa.specs.declared.op.Op.TheVariants as op
use Rattle.dis_file.specs.declared.object.Object.{Object}
use Rattle.dis_file.specs.declared.types.TypeDesc.{TypeDesc}
use Rattle.system_model.specs.Prints.{Printing, Answers, Requests, NoReply, print}
use Rattle.system_model.specs.World as outside
use Rattle.system_model.specs.Ending.{Broken}
use Rattle.dis_meaning.specs.Words.{Place, InBlock, InFrame, Word, Plain, Refer, Address, Access, Found, Wrong, Raises, ◌>>=◌, type_check, bad_jump}
use Rattle.dis_meaning.specs.Words.{or_wrong, at_least_zero, word_number, word_at, plain, reference, blank}
use Rattle.dis_meaning.specs.Numbers.{Row, Calculates, Shifts, Converts, Moves, Branches, number_row, with_number_at}
use Rattle.dis_meaning.specs.Places.{Spot, Own, Data, Far, place_in, address, words_in, all_frames}
use Rattle.dis_meaning.specs.Process.{Frame, Process, with_frames, height, at_pc}
use Rattle.dis_meaning.specs.Step.{made_frame, new_frame, without, place_of, word_of, names, path_of_sys}
use Rattle.limbo_values.specs.Numbers.{wrapped}
use Rattle.limbo_values.specs.Operators.{shifted}
use Rattle.limbo_values.specs.Texts.{bounds_in, index_in, slice_in, joined}
use Rattle.limbo_values.specs.Conversions.{number_text, number_read}
use Rattle.limbo_bytes.specs.Bytes.{characters}
use Rattle.dis_memory.specs.Blocks.{Block, World, block, with_block, next_serial}
use Rattle.dis_memory.specs.Raising.{not_nil, unless_raised, large_text}
use Rattle.dis_memory.specs.Kinds.{Elements, elements_at, length_of, text_at, list_length}
use Rattle.dis_memory.specs.Places.{Memory, memory, with_data, with_words_at, words_at, read, around, store, store_number, read_number}
use Rattle.dis_memory.specs.Places.{spot, middle_spot, source_of, given_of, middle_of, source_plain, source_word, middle_word, source_reference}
use Rattle.dis_memory.specs.Places.{reference_at}
use Rattle.dis_memory.specs.Operands.{immediate, middle_immediate, source_type, middle_type, target}
use Rattle.dis_memory.specs.Copies.{moved, put, put_bytes, taken, typed_words}
use Rattle.dis_memory.specs.Process.{Does, next, jumps, or_fault}
use Rattle.dis_memory.specs.Results.{gives_number_at, gives_number, gives_plain_at, gives_reference_at, gives_reference, gives_block_at}
use Rattle.dis_memory.specs.Results.{gives_block}
use Rattle.dis_memory.specs.Data as data_ops
use Rattle.dis_memory.specs.Arrays as arrays
use Rattle.dis_memory.specs.Strings as strings
use Rattle.dis_memory.specs.Strings.{text_row}
use Rattle.dis_memory.specs.Lists as lists
use Rattle.dis_memory.specs.Numbers as numbers
use Rattle.dis_memory.specs.Control as control
use Rattle.dis_memory.specs.Step.{type_of_size, by_texts, by_numbers, obey, work, code_of}
use Rattle.heap_model.specs.Heap.{at}
use Rattle.dis_memory.specs.Blocks as blocks
use Rattle.dis_memory.specs.Blocks.{Record, Text, Array, Part, Cell, Channel, Instance, Sys}
use Rattle.dis_memory.specs.Kinds.{Linked, all_of, some_of, elements_in, cell_in, first_cell}
use Rattle.dis_memory.specs.Sound.{IsThere, Refers, SomeRefers, FrameRefers, FramesRefer, IsClosed, NothingDangles, NothingDanglesAfter}
use Rattle.dis_memory.specs.Sound.{NothingComesToDangle}
use Rattle.dis_memory.proofs.Fair.{one_type_same}
use Rattle.dis_memory.proofs.Growing.{both, found_same, block_there}
use Rattle.dis_memory.proofs.Sound.{word_refers, number_refers, put_refers, bytes_refer, taken_refers, typed_refers, moved_refers, plain_none}
use Rattle.dis_memory.proofs.Sound.{blank_refers, array_refers, words_sound, reference_sound, there_sound}
use Rattle.dis_memory.proofs.Sound.{words_kept, data_kept, store_kept, number_kept, block_kept, new_there}
use Rattle.system_model.specs.Values.{Value, Num}

data Kept : Access Does → Type 0 where
  kept : (d : Does) → NothingDanglesAfter d → Kept (Found d)
  wrong : (n : ℕ) → Kept (Wrong n)
  raises : (text : List ℕ) → Kept (Raises text)

chain : {T : Type 0} (a : Access T) (f : T → Access Does) → ((t : T) → a ≡ Found t → Kept (f t)) → Kept (a >>= f)
chain (Found t) f h = h t refl
chain (Wrong n) f h = wrong n
chain (Raises text) f h = raises text

went : (m : Memory) → NothingDangles m.world m.process → Kept (Found (next m))
went m k = kept _ (record { heap = k.heap; process = k.process })

-- ---- what references lead to

found_some : {T : Type 0} (s t : T) → Found (Some s) ≡ Found (Some t) → s ≡ t
found_some s t e = cc

-- Elements of an array that is there, whose words refer to what is there.
record SoundElements (x : World) (e : Elements) : Type 0 where
  array : IsThere x e.array
  words : (n : ℕ) → SomeRefers e.words n → IsThere x n

record SoundCell (x : World) (c : Linked) : Type 0 where
  element : (n : ℕ) → SomeRefers c.element n → IsThere x n
  rest : (n : ℕ) → c.rest ≡ Some n → IsThere x n

module _ (x : World) (p : Process) (d : NothingDangles x p) where
  all_sound : (n : ℕ) (b : Block) (e : Elements) → at x.heap n ≡ Some b → all_of n b ≡ Found e → SoundElements x e
  all_sound n (Array element long words) e there f =
      subst (SoundElements x) (found_same _ e f) (record { array = (Array element long words, there); words = λ m r. d.heap n m (Array element long words) there r })
  all_sound n (Record words) e there f = absurd cc
  all_sound n (Text chars) e there f = absurd cc
  all_sound n (Part array start long) e there f = absurd cc
  all_sound n (Cell element rest) e there f = absurd cc
  all_sound n (Channel element) e there f = absurd cc
  all_sound n (Instance object words) e there f = absurd cc
  all_sound n (Sys names) e there f = absurd cc

  in_sound : (n : ℕ) (b : Block) (e : Elements) → at x.heap n ≡ Some b → elements_in x n b ≡ Found e → SoundElements x e
  in_sound n (Part array start long) e there f =
      let h = both (block x array >>= all_of array) (λ e. Found (some_of start long e)) e f in
      let g = both (block x array) (all_of array) h.first h.is in
      let s = all_sound array g.first h.first (block_there x array g.first g.is) g.then in
      subst (SoundElements x) (found_same _ e h.then) (record { array = s.array; words = s.words })
  in_sound n (Array element long words) e there f = all_sound n (Array element long words) e there f
  in_sound n (Record words) e there f = absurd cc
  in_sound n (Text chars) e there f = absurd cc
  in_sound n (Cell element rest) e there f = absurd cc
  in_sound n (Channel element) e there f = absurd cc
  in_sound n (Instance object words) e there f = absurd cc
  in_sound n (Sys names) e there f = absurd cc

  at_sound : (r : Option ℕ) (e : Elements) → elements_at x r ≡ Found (Some e) → SoundElements x e
  at_sound None e f = absurd cc
  at_sound (Some n) e f =
      let h = both (block x n >>= elements_in x n) (λ e. Found (Some e)) (Some e) f in
      let g = both (block x n) (elements_in x n) h.first h.is in
      subst (SoundElements x) (found_some _ e h.then) (in_sound n g.first h.first (block_there x n g.first g.is) g.then)

  elements_sound : (a : Access (Option ℕ)) (e : Elements) → a >>= elements_at x ≡ Found (Some e) → SoundElements x e
  elements_sound a e f = let h = both a (elements_at x) (Some e) f in at_sound h.first e h.then

  cell_sound : (n : ℕ) (b : Block) (c : Linked) → at x.heap n ≡ Some b → cell_in b ≡ Found c → SoundCell x c
  cell_sound n (Cell element rest) c there f =
      subst (SoundCell x) (found_same _ c f)
      (record {
        element = λ m r. d.heap n m (Cell element rest) there (inr r);
        rest = λ m e. d.heap n m (Cell element rest) there (inl e);
      })
  cell_sound n (Record words) c there f = absurd cc
  cell_sound n (Text chars) c there f = absurd cc
  cell_sound n (Array element long words) c there f = absurd cc
  cell_sound n (Part array start long) c there f = absurd cc
  cell_sound n (Channel element) c there f = absurd cc
  cell_sound n (Instance object words) c there f = absurd cc
  cell_sound n (Sys names) c there f = absurd cc

  first_sound : (a : Access (Option ℕ)) (c : Linked) → a >>= first_cell x ≡ Found (Some c) → SoundCell x c
  first_sound a c f = let h = both a (first_cell x) (Some c) f in go h.first h.then
    where
      go : (r : Option ℕ) → first_cell x r ≡ Found (Some c) → SoundCell x c
      go None f = absurd cc
      go (Some n) f =
          let h = both (block x n >>= cell_in) (λ c. Found (Some c)) (Some c) f in
          let g = both (block x n) cell_in h.first h.is in
          subst (SoundCell x) (found_some _ c h.then) (cell_sound n g.first h.first (block_there x n g.first g.is) g.then)

  -- ---- results

  number_keeps : (kind : Kind) (s : Spot) (r : Access ℤ) → Kept (gives_number_at x p kind s r)
  number_keeps kind s r =
      chain (read_number kind x p s) _ (λ old a. chain r _ (λ z b. chain (store_number kind x p s z) _ (λ m c.
      went m (number_kept x p d kind s z m c))))

  to_number : (kind : Kind) (o : Operand) (r : Access ℤ) → Kept (gives_number x p kind o r)
  to_number kind o r = chain (spot x p o) _ (λ s a. number_keeps kind s r)

  plain_keeps : (s : Spot) (r : Access Word) → ((w : Word) → r ≡ Found w → (n : ℕ) → Refers w n → ⊥) → Kept (gives_plain_at x p s r)
  plain_keeps s r none =
      chain (read x p s >>= plain) _ (λ old a. chain r _ (λ w b. chain (store x p s w) _ (λ m c.
      went m (store_kept x p d s w m (λ n f. absurd (none w b n f)) c))))

  reference_keeps : (s : Spot) (r : Access (Option ℕ)) → ((u : Option ℕ) → r ≡ Found u → (n : ℕ) → u ≡ Some n → IsThere x n)
      → Kept (gives_reference_at x p s r)
  reference_keeps s r sound =
      chain (reference_at x p s) _ (λ old a. chain r _ (λ u b. chain (store x p s (Refer u)) _ (λ m c.
      went m (store_kept x p d s (Refer u) m (λ n f. sound u b n f) c))))

  to_reference : (o : Operand) (r : Access (Option ℕ)) → ((u : Option ℕ) → r ≡ Found u → (n : ℕ) → u ≡ Some n → IsThere x n)
      → Kept (gives_reference x p o r)
  to_reference o r sound = chain (spot x p o) _ (λ s a. reference_keeps s r sound)

  block_keeps : (s : Spot) (r : Access Block) → ((b : Block) → r ≡ Found b → (n : ℕ) → SomeRefers (blocks.words_in b) n → IsThere x n)
      → Kept (gives_block_at x p s r)
  block_keeps s r sound =
      chain (reference_at x p s) _ (λ old a. chain r _ (λ b e.
      chain (store (with_block x b) p s (Refer (Some (next_serial x)))) _ (λ m c.
      went m (store_kept (with_block x b) p (block_kept x p b d (sound b e)) s (Refer (Some (next_serial x))) m
      (λ n f. subst (IsThere (with_block x b)) (let z : next_serial x ≡ n = cc in z) (new_there x b)) c))))

  to_block : (o : Operand) (r : Access Block) → ((b : Block) → r ≡ Found b → (n : ℕ) → SomeRefers (blocks.words_in b) n → IsThere x n)
      → Kept (gives_block x p o r)
  to_block o r sound = chain (spot x p o) _ (λ s a. block_keeps s r sound)

  -- A block that refers to nothing.
  to_new : (o : Operand) (r : Access Block) → ((b : Block) → r ≡ Found b → (n : ℕ) → SomeRefers (blocks.words_in b) n → ⊥)
      → Kept (gives_block x p o r)
  to_new o r none = to_block o r (λ b e n f. absurd (none b e n f))

  stays : Kept (Found (next (memory x p)))
  stays = went (memory x p) d

-- ---- what results refer to

not_nil_some : {T : Type 0} (o : Option T) (t : T) → not_nil o ≡ Found t → o ≡ Some t
not_nil_some None t e = absurd cc
not_nil_some (Some s) t e = ap Some (found_same s t e)

-- A block that is given as it is.
given_none : (c b : Block) → ((n : ℕ) → SomeRefers (blocks.words_in c) n → ⊥) → Found c ≡ Found b → (n : ℕ) → SomeRefers (blocks.words_in b) n → ⊥
given_none c b none e n r = none n (subst (λ u. SomeRefers (blocks.words_in u) n) (sym (found_same c b e)) r)

text_none : (a : Access (List ℕ)) (b : Block) → a >>= (λ t. Found (Text t)) ≡ Found b → (n : ℕ) → SomeRefers (blocks.words_in b) n → ⊥
text_none a b e n r = let h = both a (λ t. Found (Text t)) b e in given_none (Text h.first) b (λ n r. r) h.then n r

new_none : (element : TypeDesc) (long : ℤ) (b : Block) → arrays.new_array element long ≡ Found b → (n : ℕ) → SomeRefers (blocks.words_in b) n → ⊥
new_none element (negsuc m) b e n r = absurd cc
new_none element (pos m) b e n r = go (nat_le (blocks.bytes_for element m) blocks.most_bytes) e
  where
    go : (t : Bool) → (if t then Found (blocks.blank_array element m) else Raises large_text) ≡ Found b → ⊥
    go true e = given_none (blocks.blank_array element m) b (array_refers element m) e n r
    go false e = absurd cc

bytes_none : (bs : List ℕ) (c b : Block) → ((n : ℕ) → SomeRefers (blocks.words_in c) n → ⊥) → strings.with_bytes bs c ≡ Found b → (n : ℕ)
    → SomeRefers (blocks.words_in b) n → ⊥
bytes_none bs (Array element long words) b none e n r =
    let h = both (put_bytes words 0 bs) (λ after. Found (Array element long after)) b e in
    given_none (Array element long h.first) b (λ n r. none n (bytes_refer words 0 bs h.first n h.is r)) h.then n r
bytes_none bs (Record words) b none e n r = absurd cc
bytes_none bs (Text chars) b none e n r = absurd cc
bytes_none bs (Part array start long) b none e n r = absurd cc
bytes_none bs (Cell element rest) b none e n r = absurd cc
bytes_none bs (Channel element) b none e n r = absurd cc
bytes_none bs (Instance object words) b none e n r = absurd cc
bytes_none bs (Sys names) b none e n r = absurd cc

array_of_none : (bs : List ℕ) (b : Block) → strings.array_of bs ≡ Found b → (n : ℕ) → SomeRefers (blocks.words_in b) n → ⊥
array_of_none bs b e n r =
    let h = both (arrays.new_array strings.byte_type (pos (length bs))) (strings.with_bytes bs) b e in
    bytes_none bs h.first b (new_none strings.byte_type (pos (length bs)) h.first h.is) h.then n r

source_plain_none : (x : World) (p : Process) (o : Operand) (w : Word) (n : ℕ) → source_plain x p o ≡ Found w → Refers w n → ⊥
source_plain_none x p o w n e r = go o e
  where
    through : (o : Operand) → spot x p o >>= (λ s. read x p s >>= plain) ≡ Found w → ⊥
    through o e =
        let h = both (spot x p o) (λ s. read x p s >>= plain) w e in
        let g = both (read x p h.first) plain w h.then in
        plain_none g.first w n g.then r

    go : (o : Operand) → source_plain x p o ≡ Found w → ⊥
    go (operand.Imm z) e = subst (λ u. Refers u n) (sym (found_same (Plain z) w e)) r
    go (operand.Fp k) e = through (operand.Fp k) e
    go (operand.Mp k) e = through (operand.Mp k) e
    go (operand.IndFp inner outer) e = through (operand.IndFp inner outer) e
    go (operand.IndMp inner outer) e = through (operand.IndMp inner outer) e
    go operand.None e = absurd cc

-- ---- frames

without_refers : (s : ℕ) (fs : List Frame) (n : ℕ) → FramesRefer (without s fs) n → FramesRefer fs n
without_refers s [] n r = r
without_refers s (f ∷ fs) n r = go (nat_eq f.serial s) r (without_refers s fs n)
  where
    go : (b : Bool) → FramesRefer (if b then without s fs else f ∷ without s fs) n → (FramesRefer (without s fs) n → FramesRefer fs n) → FramesRefer (f ∷ fs) n
    go true r rest = inr (rest r)
    go false (inl r) rest = inl r
    go false (inr r) rest = inr (rest r)

made_refers : (fs : List Frame) (s : ℕ) (f : Frame) (n : ℕ) → made_frame fs s ≡ Found f → FrameRefers f n → FramesRefer fs n
made_refers [] s f n e r = absurd cc
made_refers (g ∷ fs) s f n e r = go (nat_eq g.serial s) e (λ h. made_refers fs s f n h r)
  where
    go : (b : Bool) → (if b then Found g else made_frame fs s) ≡ Found f → (made_frame fs s ≡ Found f → FramesRefer fs n) → FramesRefer (g ∷ fs) n
    go true e rest = inl (subst (λ h. FrameRefers h n) (sym (found_same g f e)) r)
    go false e rest = inr (rest e)

appended_cases : (fs gs : List Frame) (n : ℕ) → FramesRefer (fs ++ gs) n → FramesRefer fs n ⊎ FramesRefer gs n
appended_cases [] gs n r = inr r
appended_cases (f ∷ fs) gs n (inl r) = inl (inl r)
appended_cases (f ∷ fs) gs n (inr r) = go (appended_cases fs gs n r)
  where
    go : FramesRefer fs n ⊎ FramesRefer gs n → FramesRefer (f ∷ fs) n ⊎ FramesRefer gs n
    go (inl r) = inl (inr r)
    go (inr r) = inr r

first_part : (fs gs : List Frame) (n : ℕ) → FramesRefer fs n → FramesRefer (fs ++ gs) n
first_part (f ∷ fs) gs n (inl r) = inl r
first_part (f ∷ fs) gs n (inr r) = inr (first_part fs gs n r)
first_part [] gs n r = absurd r

last_part : (fs gs : List Frame) (n : ℕ) → FramesRefer gs n → FramesRefer (fs ++ gs) n
last_part [] gs n r = r
last_part (f ∷ fs) gs n r = inr (last_part fs gs n r)

-- What the frames of a process refer to: those that run and wait, and those that are made.
below_sound : (x : World) (p : Process) (d : NothingDangles x p) (n : ℕ) → FramesRefer p.below n → IsThere x n
below_sound x p d n r = d.process n (inr (first_part p.below p.made n r))

made_sound : (x : World) (p : Process) (d : NothingDangles x p) (n : ℕ) → FramesRefer p.made n → IsThere x n
made_sound x p d n r = d.process n (inr (last_part p.below p.made n r))

-- A process with these frames, each of which refers to what is there.
with_sound : (x : World) (p : Process) (f : Frame) (below made : List Frame) → IsClosed x → ((n : ℕ) → FrameRefers f n → IsThere x n)
    → ((n : ℕ) → FramesRefer below n → IsThere x n) → ((n : ℕ) → FramesRefer made n → IsThere x n) → NothingDangles x (with_frames p f below made)
with_sound x p f below made heap a b c = record { heap = heap; process = go }
  where
    more : (n : ℕ) → FramesRefer below n ⊎ FramesRefer made n → IsThere x n
    more n (inl r) = b n r
    more n (inr r) = c n r

    go : (n : ℕ) → FramesRefer (f ∷ below ++ made) n → IsThere x n
    go n (inl r) = a n r
    go n (inr r) = more n (appended_cases below made n r)

-- ---- prints and calls

outside_kept : (x : World) (p : Process) (w : outside.World) → NothingDangles x p → NothingDangles (control.with_outside x w) p
outside_kept x p w d = record { heap = d.heap; process = d.process }

prints_keep : (x : World) (q : Process) (place : Place) (at : ℤ) (g : Printing) → NothingDangles x q → Kept (control.prints x q place at g)
prints_keep x q place at (Answers w v) d =
    chain (control.answered (control.with_outside x w) q place at v) _ (λ m c.
    went m (store_kept (control.with_outside x w) q (outside_kept x q w d) (Far place at) (word_of v) m (number_none w v) c))
  where
    number_none : (w : outside.World) (v : Value) (n : ℕ) → Refers (word_of v) n → IsThere (control.with_outside x w) n
    number_none w (Num z) n r = absurd r
prints_keep x q place at (Requests w m k) d = kept _ (record { heap = d.heap; process = d.process })
prints_keep x q place at NoReply d = kept _ d

print_keeps : (x : World) (p : Process) (f : Frame) → NothingDangles x p → Kept (control.print_call x p f)
print_keeps x p f d =
    chain (control.printed x f.words) _ (λ text a. chain (control.answer_spot f.words) _ (λ s b. chain (place_of s) _ (λ place c.
    prints_keep x (with_frames p p.frame p.below (without f.serial p.made)) place (place_in s) (print (control.outside_of x) text)
    (with_sound x p p.frame p.below (without f.serial p.made) d.heap (λ n r. d.process n (inl r)) (below_sound x p d)
    (λ n r. made_sound x p d n (without_refers f.serial p.made n r))))))

sys_keeps : (x : World) (p : Process) (name : List ℕ) (f : Frame) → NothingDangles x p → Kept (control.sys_call x p name f)
sys_keeps x p name f d = go (bytes_eq name (codes "print"))
  where
    go : (b : Bool) → Kept (if b then control.print_call x p f else Wrong 110)
    go true = print_keeps x p f d
    go false = wrong 110

returns_keep : (x : World) (p : Process) → NothingDangles x p → Kept (Found (control.returns x p p.below))
returns_keep x p d = go p.below (below_sound x p d)
  where
    go : (fs : List Frame) → ((n : ℕ) → FramesRefer fs n → IsThere x n) → Kept (Found (control.returns x p fs))
    go [] s = kept _ d.heap
    go (f ∷ fs) s = kept _ (with_sound x p f fs p.made d.heap (λ n r. s n (inl r)) (λ n r. s n (inr r)) (made_sound x p d))

frame_is_made : (x : World) (p : Process) (w : Word) (f : Frame) (n : ℕ) → control.frame_at x p w ≡ Found f → FrameRefers f n → FramesRefer p.made n
frame_is_made x p (Address (InFrame s) at) f n e r =
    let h = both (words_in s (all_frames p)) (λ words. if int_eq at (pos 0) then made_frame p.made s else Wrong type_check) f e in
    go (int_eq at (pos 0)) h.then
  where
    go : (b : Bool) → (if b then made_frame p.made s else Wrong type_check) ≡ Found f → FramesRefer p.made n
    go true e = made_refers p.made s f n e r
    go false e = absurd cc
frame_is_made x p (Address (InBlock k) at) f n e r = let h = both (block x k) (λ b. Wrong type_check) f e in let g = h.then in absurd cc
frame_is_made x p (Plain z) f n e r = absurd cc
frame_is_made x p (Refer s) f n e r = absurd cc

calls_keep : (limit : ℕ) (x : World) (p : Process) (w : Word) (f : Frame) (pc : ℕ) → NothingDangles x p → control.frame_at x p w ≡ Found f
    → Kept (Found (control.calls limit x p f pc))
calls_keep limit x p w f pc d e = go (nat_lt (height p) limit)
  where
    waiting : (n : ℕ) → FramesRefer (at_pc p.frame (suc p.frame.pc) ∷ p.below) n → IsThere x n
    waiting n (inl r) = d.process n (inl r)
    waiting n (inr r) = below_sound x p d n r

    go : (b : Bool) → Kept (Found (if b then Went x (with_frames p (at_pc f pc) (at_pc p.frame (suc p.frame.pc) ∷ p.below) (without f.serial p.made)) else Ends x (Broken (codes "stack overflow"))))
    go true =
        kept _ (with_sound x p (at_pc f pc) (at_pc p.frame (suc p.frame.pc) ∷ p.below) (without f.serial p.made) d.heap
        (λ n r. made_sound x p d n (frame_is_made x p w f n e r)) waiting
        (λ n r. made_sound x p d n (without_refers f.serial p.made n r)))
    go false = kept _ d.heap

-- ---- the instructions

branch_keeps : (x : World) (p : Process) → NothingDangles x p → (b : Bool) (pc : ℕ) → Kept (Found (if b then jumps x p pc else next (memory x p)))
branch_keeps x p d true pc = kept _ (record { heap = d.heap; process = d.process })
branch_keeps x p d false pc = stays x p d

module _ (limit : ℕ) (o : Object) (x : World) (p : Process) (i : Inst) (d : NothingDangles x p) where
  put_keeps : (s : Spot) (a : Access (List Word)) → ((us : List Word) → a ≡ Found us → (n : ℕ) → SomeRefers us n → IsThere x n)
      → Kept (a >>= with_words_at x p s >>= λ m. Found (next m))
  put_keeps s a sound =
      chain (a >>= with_words_at x p s) _ (λ m c. let h = both a (with_words_at x p s) m c in went m (words_kept x p d s h.first m (sound h.first h.is) h.then))

  row_keeps : (row : Row) → Kept (numbers.by_row o x p i row)
  row_keeps (Calculates kind operator) =
      chain (source_of kind x p i.src) _ (λ s a. chain (middle_of kind x p i.middle i.dst) _ (λ m b. to_number x p d kind i.dst _))
  row_keeps (Shifts kind shift) =
      chain (source_of Int x p i.src) _ (λ s a. chain (middle_of kind x p i.middle i.dst) _ (λ m b. to_number x p d kind i.dst (Found (shifted kind shift m s))))
  row_keeps (Converts from to) = chain (source_of from x p i.src) _ (λ s a. to_number x p d to i.dst (Found (wrapped to s)))
  row_keeps (Moves kind) = chain (source_of kind x p i.src) _ (λ s a. to_number x p d kind i.dst (Found s))
  row_keeps (Branches Int c) =
      chain (source_word x p i.src) _ (λ s a. chain (middle_word x p i.middle) _ (λ m b. chain (numbers.words_compared c s m) _ (λ holds e.
      chain (target o i.dst) _ (λ pc f. branch_keeps x p d holds pc))))
  row_keeps (Branches Byte c) =
      chain (source_of Byte x p i.src) _ (λ s a. chain (given_of Byte x p i.middle) _ (λ m b. chain (target o i.dst) _ (λ pc e. branch_keeps x p d _ pc)))
  row_keeps (Branches Big c) =
      chain (source_of Big x p i.src) _ (λ s a. chain (given_of Big x p i.middle) _ (λ m b. chain (target o i.dst) _ (λ pc e. branch_keeps x p d _ pc)))

  texts_keep : (row : Option Comparison) → Kept (by_texts limit o x p i row)
  texts_keep (Some c) =
      chain (strings.source_text o x p i) _ (λ s a. chain (strings.given_text o x p i) _ (λ m b. chain (target o i.dst) _ (λ pc e. branch_keeps x p d _ pc)))
  texts_keep None = wrong 110

  numbers_keep : (operation : Op) (row : Option Row) → Kept (by_numbers limit o x p i operation row)
  numbers_keep operation (Some row) = row_keeps row
  numbers_keep operation None = texts_keep (text_row operation)

  address_none : (es : Option Elements) (index : ℤ) (w : Word) → not_nil es >>= (λ e. arrays.element_address o x p i e index) ≡ Found w → (n : ℕ) → Refers w n → ⊥
  address_none es index w e n r =
      let h = both (not_nil es) (λ e. arrays.element_address o x p i e index) w e in
      let g = both (unless_raised (index_in h.first.long index)) _ w h.then in
      subst (λ u. Refers u n) (sym (found_same _ w g.then)) r

  ind_keeps : (kind : Option Elements → Access (Option Elements)) → Kept (arrays.indexes o x p i kind)
  ind_keeps kind =
      chain (source_reference x p i.src >>= elements_at x >>= kind) _ (λ es a. chain (middle_spot i.middle) _ (λ s b.
      chain (source_of Int x p i.dst) _ (λ index c. plain_keeps x p d s _ (address_none es index))))

  part_sound : (e : Elements) → SoundElements x e → (from to : ℤ) (b : Block)
      → unless_raised (bounds_in e.long from to) >>= (λ b. Found (Part e.array (e.start + b.0) (b.1 - b.0))) ≡ Found b → (n : ℕ)
      → SomeRefers (blocks.words_in b) n → IsThere x n
  part_sound e sound from to b f n r =
      let h = both (unless_raised (bounds_in e.long from to)) (λ b. Found (Part e.array (e.start + b.0) (b.1 - b.0))) b f in
      go (subst (λ u. SomeRefers (blocks.words_in u) n) (sym (found_same _ b h.then)) r)
    where
      go : SomeRefers (Refer (Some e.array) ∷ []) n → IsThere x n
      go (inl r) = subst (IsThere x) (let z : e.array ≡ n = cc in z) sound.array
      go (inr r) = absurd r

  none_sound : (from to : ℤ) (u : Option ℕ) → unless_raised (bounds_in 0 from to) >>= (λ b. Found None) ≡ Found u → (n : ℕ) → u ≡ Some n → IsThere x n
  none_sound from to u e n f =
      let h = both (unless_raised (bounds_in 0 from to)) (λ b. Found None) u e in
      let z : None ≡ Some n = found_same None u h.then ∙ f in absurd cc

  sliced_keeps : (s : Spot) (es : Option Elements) → reference_at x p s >>= elements_at x ≡ Found es → (from to : ℤ) → Kept (arrays.sliced o x p i s es from to)
  sliced_keeps s None e from to = reference_keeps x p d s _ (none_sound from to)
  sliced_keeps s (Some es) e from to = block_keeps x p d s _ (part_sound es (elements_sound x p d (reference_at x p s) es e) from to)

  conses_keep : (element : Access (List Word)) → ((ws : List Word) → element ≡ Found ws → (n : ℕ) → SomeRefers ws n → IsThere x n)
      → Kept (lists.conses o x p i element)
  conses_keep element sound =
      chain (spot x p i.dst) _ (λ s a. chain (reference_at x p s) _ (λ rest b. block_keeps x p d s _ (cell s rest b)))
    where
      cell : (s : Spot) (rest : Option ℕ) → reference_at x p s ≡ Found rest → (b : Block) → element >>= (λ ws. Found (Cell ws rest)) ≡ Found b → (n : ℕ)
          → SomeRefers (blocks.words_in b) n → IsThere x n
      cell s rest e b f n r =
          let h = both element (λ ws. Found (Cell ws rest)) b f in
          go h.first h.is (subst (λ u. SomeRefers (blocks.words_in u) n) (sym (found_same _ b h.then)) r)
        where
          go : (ws : List Word) → element ≡ Found ws → SomeRefers (Refer rest ∷ ws) n → IsThere x n
          go ws is (inl r) = there_sound x p d s rest n e r
          go ws is (inr r) = sound ws is n r

  channel_keeps : (m : Middle) (element : TypeDesc) → Kept (lists.channel o x p i m element)
  channel_keeps middle.None element = to_new x p d i.dst (Found (Channel element)) (λ b e. given_none (Channel element) b (λ n r. r) e)
  channel_keeps (middle.Imm n) element = wrong 110
  channel_keeps (middle.Fp n) element = wrong 110
  channel_keeps (middle.Mp n) element = wrong 110

  -- What comes to words refers to what they refer to, or what was put there does.
  put_sound : (s : Spot) (target : List Word) → words_at x p s ≡ Found target → (to : ℕ) (vs us : List Word) (n : ℕ) → put target to vs ≡ Found us
      → (SomeRefers vs n → IsThere x n) → SomeRefers us n → IsThere x n
  put_sound s target f to vs us n e new r = go (put_refers target to vs us n e r)
    where
      go : SomeRefers target n ⊎ SomeRefers vs n → IsThere x n
      go (inl r) = words_sound x p d s target n f r
      go (inr r) = new r

  movm_keeps : Kept (data_ops.movm o x p i)
  movm_keeps =
      chain (spot x p i.src) _ (λ s a. chain (words_at x p s) _ (λ source b. chain (at_least_zero (place_in s)) _ (λ from c.
      chain (given_of Int x p i.middle >>= at_least_zero) _ (λ count e. chain (spot x p i.dst) _ (λ t f. chain (words_at x p t) _ (λ target g.
      chain (at_least_zero (place_in t)) _ (λ to h. put_keeps t (moved source from target to count)
      (λ us k n r. words_sound x p d t target n g (moved_refers source from target to count us n k r)))))))))

  movmp_keeps : Kept (data_ops.movmp o x p i)
  movmp_keeps =
      chain (spot x p i.src) _ (λ s a. chain (words_at x p s) _ (λ source b. chain (word_number (place_in s)) _ (λ from c.
      chain (middle_type o i.middle) _ (λ desc e. chain (typed_words desc source from) _ (λ vs k. chain (spot x p i.dst) _ (λ t f.
      chain (words_at x p t) _ (λ target g. chain (word_number (place_in t)) _ (λ to h. put_keeps t (put target to vs)
      (λ us l n r. put_sound t target g to vs us n l
      (λ q. words_sound x p d s source n b (typed_refers desc 0 source from (desc.size / 4) vs n k q)) r)))))))))

  headm_keeps : Kept (lists.headm o x p i)
  headm_keeps =
      chain (lists.first o x p i) _ (λ c a. chain (given_of Int x p i.middle >>= at_least_zero) _ (λ count b. chain (spot x p i.dst) _ (λ t e.
      chain (words_at x p t) _ (λ target f. chain (at_least_zero (place_in t)) _ (λ to g. chain (not_nil c) _ (λ cell h.
      put_keeps t (moved cell.element 0 target to count)
      (λ us k n r. words_sound x p d t target n f (moved_refers cell.element 0 target to count us n k r))))))))

  cell_of : (c : Option Linked) (cell : Linked) → lists.first o x p i ≡ Found c → not_nil c ≡ Found cell → SoundCell x cell
  cell_of c cell a h = first_sound x p d (source_reference x p i.src) cell (a ∙ ap Found (not_nil_some c cell h))

  headmp_keeps : Kept (lists.headmp o x p i)
  headmp_keeps =
      chain (lists.first o x p i) _ (λ c a. chain (middle_type o i.middle) _ (λ desc b. chain (spot x p i.dst) _ (λ t e.
      chain (words_at x p t) _ (λ target f. chain (word_number (place_in t)) _ (λ to g. chain (not_nil c) _ (λ cell h.
      put_keeps t (typed_words desc cell.element 0 >>= put target to) (λ us k n r.
      let l = both (typed_words desc cell.element 0) (put target to) us k in
      put_sound t target f to l.first us n l.then
      (λ q. (cell_of c cell a h).element n (typed_refers desc 0 cell.element 0 (desc.size / 4) l.first n l.is q)) r)))))))

  headp_sound : (c : Option Linked) → lists.first o x p i ≡ Found c → (u : Option ℕ)
      → not_nil c >>= (λ c. word_at c.element (pos 0) >>= reference) ≡ Found u → (n : ℕ) → u ≡ Some n → IsThere x n
  headp_sound c a u e n f =
      let h = both (not_nil c) (λ c. word_at c.element (pos 0) >>= reference) u e in
      let g = both (word_at h.first.element (pos 0)) reference u h.then in
      (cell_of c h.first a h.is).element n (word_refers h.first.element (pos 0) g.first n g.is (go g.first g.then))
    where
      go : (w : Word) → reference w ≡ Found u → Refers w n
      go (Refer s) e = found_same s u e ∙ f
      go (Plain z) e = absurd cc
      go (Address place at) e = absurd cc

  tail_sound : (c : Option Linked) → lists.first o x p i ≡ Found c → (u : Option ℕ) → not_nil c >>= (λ c. Found c.rest) ≡ Found u → (n : ℕ) → u ≡ Some n
      → IsThere x n
  tail_sound c a u e n f =
      let h = both (not_nil c) (λ c. Found c.rest) u e in (cell_of c h.first a h.is).rest n (found_same h.first.rest u h.then ∙ f)

  load_keeps : (b : Bool) (table : List (List ℕ)) → Kept (if b then gives_block x p i.dst (Found (Sys table)) else gives_reference x p i.dst (Found None))
  load_keeps true table = to_new x p d i.dst (Found (Sys table)) (λ b e. given_none (Sys table) b (λ n r. r) e)
  load_keeps false table = to_reference x p d i.dst (Found None) (λ u e n f. let z : None ≡ Some n = found_same None u e ∙ f in absurd cc)

  overwritten_refers : (s t : Elements) (k : ℕ) (us : List Word) (n : ℕ) → arrays.overwritten s t k ≡ Found us → SomeRefers us n
      → SomeRefers t.words n ⊎ SomeRefers s.words n
  overwritten_refers s t k us n e r = go (blocks.refers s.element) e
    where
      words : (vs : List Word) → taken s.words (s.start * (s.element.size / 4)) (s.long * (s.element.size / 4)) ≡ Found vs → SomeRefers t.words n ⊎ SomeRefers vs n
          → SomeRefers t.words n ⊎ SomeRefers s.words n
      words vs is (inl r) = inl r
      words vs is (inr r) =
          inr (taken_refers (λ k w. Found w) (λ k w v n e r. subst (λ u. Refers u n) (sym (found_same w v e)) r) s.words (s.start * (s.element.size / 4)) (s.long * (s.element.size / 4)) vs n is r)

      go : (b : Bool)
          → (if b
          then taken s.words (s.start * (s.element.size / 4)) (s.long * (s.element.size / 4)) >>= put t.words ((t.start + k) * (t.element.size / 4))
          else moved s.words (s.start * s.element.size) t.words ((t.start + k) * t.element.size) (s.long * s.element.size)) ≡ Found us
          → SomeRefers t.words n ⊎ SomeRefers s.words n
      go true e =
          let h = both (taken s.words (s.start * (s.element.size / 4)) (s.long * (s.element.size / 4))) (put t.words ((t.start + k) * (t.element.size / 4))) us e in
          words h.first h.is (put_refers t.words ((t.start + k) * (t.element.size / 4)) h.first us n h.then r)
      go false e =
          inl (moved_refers s.words (s.start * s.element.size) t.words ((t.start + k) * t.element.size) (s.long * s.element.size) us n e r)

  copied_keeps : (s t : Option Elements) (k : ℕ) → ((e : Elements) → s ≡ Some e → SoundElements x e) → ((e : Elements) → t ≡ Some e → SoundElements x e)
      → Kept (arrays.copied x p s t k)
  copied_keeps (Some s) (Some t) k a b =
      chain (arrays.overwritten s t k) _ (λ us e. chain (with_data x t.array us) _ (λ y f.
      went (memory y p) (data_kept x p d y t.array us (λ n r. go n (overwritten_refers s t k us n e r)) f)))
    where
      go : (n : ℕ) → SomeRefers t.words n ⊎ SomeRefers s.words n → IsThere x n
      go n (inl r) = (b t refl).words n r
      go n (inr r) = (a s refl).words n r
  copied_keeps None t k a b = stays x p d
  copied_keeps (Some s) None k a b = stays x p d

  slicela_keeps : Kept (arrays.slicela o x p i)
  slicela_keeps =
      chain (source_reference x p i.src >>= elements_at x) _ (λ s a. chain (given_of Int x p i.middle) _ (λ at b.
      chain (source_reference x p i.dst >>= elements_at x >>= arrays.of_one_type s) _ (λ t c.
      chain (unless_raised (bounds_in (length_of t) at (arrays.end_from at (length_of s)))) _ (λ bounds e.
      copied_keeps s t bounds.0 (λ u f. elements_sound x p d (source_reference x p i.src) u (a ∙ ap Found f))
      (λ u f. let h = both (source_reference x p i.dst >>= elements_at x) (arrays.of_one_type s) t c in
      elements_sound x p d (source_reference x p i.dst) u (h.is ∙ ap Found (one_type_same s h.first t h.then ∙ f)))))))

  slicea_keeps : Kept (arrays.slicea o x p i)
  slicea_keeps =
      chain (source_of Int x p i.src) _ (λ from a. chain (given_of Int x p i.middle) _ (λ to b. chain (spot x p i.dst) _ (λ s c.
      chain (reference_at x p s >>= elements_at x) _ (λ es e. sliced_keeps s es e from to))))

  consm_keeps : Kept (lists.consm o x p i)
  consm_keeps =
      chain (spot x p i.src) _ (λ s a. chain (words_at x p s) _ (λ source b. chain (at_least_zero (place_in s)) _ (λ from c.
      chain (given_of Int x p i.middle >>= at_least_zero) _ (λ count e.
      chain (moved source from (blank (lists.plain_type count)) 0 count) _ (λ element f. conses_keep (Found element)
      (λ ws g n r. absurd (blank_refers (lists.plain_type count) n
      (moved_refers source from (blank (lists.plain_type count)) 0 count element n f (subst (λ u. SomeRefers u n) (sym (found_same element ws g)) r)))))))))

  consmp_keeps : Kept (lists.consmp o x p i)
  consmp_keeps =
      chain (spot x p i.src) _ (λ s a. chain (words_at x p s) _ (λ source b. chain (word_number (place_in s)) _ (λ from c.
      chain (middle_type o i.middle) _ (λ desc e. chain (typed_words desc source from) _ (λ element f. conses_keep (Found element)
      (λ ws g n r. words_sound x p d s source n b
      (typed_refers desc 0 source from (desc.size / 4) element n f (subst (λ u. SomeRefers u n) (sym (found_same element ws g)) r))))))))

  consp_sound : (r : Option ℕ) → source_reference x p i.src ≡ Found r → (ws : List Word) → Found (Refer r ∷ []) ≡ Found ws → (n : ℕ)
      → SomeRefers ws n → IsThere x n
  consp_sound r a ws e n f = go (subst (λ u. SomeRefers u n) (sym (found_same _ ws e)) f)
    where
      go : SomeRefers (Refer r ∷ []) n → IsThere x n
      go (inl g) = reference_sound x p d i.src r n a g
      go (inr g) = absurd g

  holder_none : (kind : Kind) (z : ℤ) (ws : List Word) → with_number_at kind (lists.holder_of kind) (pos 0) z ≡ Found ws → (n : ℕ) → SomeRefers ws n → IsThere x n
  holder_none kind z ws e n r = absurd (none kind (number_refers kind (lists.holder_of kind) (pos 0) z ws n e r))
    where
      none : (kind : Kind) → SomeRefers (lists.holder_of kind) n → ⊥
      none Byte (inl r) = r
      none Byte (inr r) = r
      none Int (inl r) = r
      none Int (inr r) = r
      none Big (inl r) = r
      none Big (inr (inl r)) = r
      none Big (inr (inr r)) = r

  frame_keeps : Kept (control.frame limit o x p i)
  frame_keeps =
      chain (source_type o i.src) _ (λ desc a. chain (spot x p i.dst) _ (λ s b.
      chain (store x p s (Address (InFrame (control.next_frame x)) (pos 0))) _ (λ m c.
      kept _ (made_kept desc m (store_kept x p d s (Address (InFrame (control.next_frame x)) (pos 0)) m (λ n r. absurd r) c)))))
    where
      made_kept : (desc : TypeDesc) (m : Memory) → NothingDangles m.world m.process → NothingDanglesAfter (next (control.framed m (blank desc)))
      made_kept desc m k = record { heap = k.heap; process = go }
        where
          fresh : (n : ℕ) → FramesRefer (record { serial = control.next_frame m.world; instance = m.process.frame.instance; pc = 0; words = blank desc } ∷ []) n → IsThere m.world n
          fresh n (inl (inl r)) = k.process n (inl (inl r))
          fresh n (inl (inr r)) = absurd (blank_refers desc n r)
          fresh n (inr r) = absurd r

          more : (n : ℕ) → FramesRefer m.process.made n ⊎ FramesRefer (record { serial = control.next_frame m.world; instance = m.process.frame.instance; pc = 0; words = blank desc } ∷ []) n → IsThere m.world n
          more n (inl r) = made_sound m.world m.process k n r
          more n (inr r) = fresh n r

          rest : (n : ℕ) → FramesRefer m.process.below n ⊎ FramesRefer (m.process.made ++ record { serial = control.next_frame m.world; instance = m.process.frame.instance; pc = 0; words = blank desc } ∷ []) n → IsThere m.world n
          rest n (inl r) = below_sound m.world m.process k n r
          rest n (inr r) = more n (appended_cases m.process.made _ n r)

          go : (n : ℕ) → FramesRefer (all_frames (new_frame (control.next_frame m.world) m.process (blank desc))) n → IsThere m.world n
          go n (inl r) = k.process n (inl r)
          go n (inr r) = rest n (appended_cases m.process.below _ n r)

  call_keeps : Kept (control.call limit o x p i)
  call_keeps =
      chain (source_word x p i.src >>= control.frame_at x p) _ (λ f a. chain (target o i.dst) _ (λ pc b.
      let h = both (source_word x p i.src) (control.frame_at x p) f a in calls_keep limit x p h.first f pc d h.then))

  address_of_none : (s : Spot) (v : Word) → Found (address p s) ≡ Found v → (n : ℕ) → Refers v n → ⊥
  address_of_none (Own k) v e n r = subst (λ u. Refers u n) (sym (found_same _ v e)) r
  address_of_none (Data k) v e n r = subst (λ u. Refers u n) (sym (found_same _ v e)) r
  address_of_none (Far place k) v e n r = subst (λ u. Refers u n) (sym (found_same _ v e)) r

  data_keeps : (op : Op) → Kept (obey limit o x p i op)
  data_keeps op.Movw = chain (source_plain x p i.src) _ (λ w a. chain (spot x p i.dst) _ (λ s b. plain_keeps x p d s (Found w) (λ v e n r. source_plain_none x p i.src w n a (subst (λ u. Refers u n) (sym (found_same w v e)) r))))
  data_keeps op.Movp = chain (source_reference x p i.src) _ (λ r a. to_reference x p d i.dst (Found r) (λ u e n f. reference_sound x p d i.src r n a (found_same r u e ∙ f)))
  data_keeps op.Movm = movm_keeps
  data_keeps op.Movmp = movmp_keeps
  data_keeps op.Lea = chain (spot x p i.src) _ (λ s a. chain (around x p s) _ (λ w b. chain (spot x p i.dst) _ (λ t c. plain_keeps x p d t (Found (address p s)) (address_of_none s))))
  data_keeps op.New = chain (source_type o i.src) _ (λ desc a. to_new x p d i.dst (Found (Record (blank desc))) (λ b e. given_none (Record (blank desc)) b (blank_refers desc) e))
  data_keeps op.Newz = chain (source_type o i.src) _ (λ desc a. to_new x p d i.dst (Found (Record (blank desc))) (λ b e. given_none (Record (blank desc)) b (blank_refers desc) e))
  data_keeps op.Newa = chain (source_of Int x p i.src) _ (λ long a. chain (middle_type o i.middle) _ (λ element b. to_new x p d i.dst (arrays.new_array element long) (new_none element long)))
  data_keeps op.Newaz = chain (source_of Int x p i.src) _ (λ long a. chain (middle_type o i.middle) _ (λ element b. to_new x p d i.dst (arrays.new_array element long) (new_none element long)))
  data_keeps op.Indx = ind_keeps (λ es. Found es)
  data_keeps op.Indb = ind_keeps (arrays.of_size o x p i 1)
  data_keeps op.Indw = ind_keeps (arrays.of_size o x p i 4)
  data_keeps op.Indl = ind_keeps (arrays.of_size o x p i 8)
  data_keeps op.Lena = chain (source_reference x p i.src >>= elements_at x) _ (λ es a. to_number x p d Int i.dst (Found (pos (length_of es))))
  data_keeps op.Slicea = slicea_keeps
  data_keeps op.Slicela = slicela_keeps
  data_keeps op.Addc = chain (strings.source_text o x p i) _ (λ s a. chain (strings.left_text o x p i i.middle) _ (λ m b. to_new x p d i.dst _ (text_none (unless_raised (joined m s)))))
  data_keeps op.Lenc = chain (strings.source_text o x p i) _ (λ s a. to_number x p d Int i.dst (Found (pos (length s))))
  data_keeps op.Indc = chain (strings.source_text o x p i) _ (λ s a. chain (given_of Int x p i.middle) _ (λ at b. to_number x p d Int i.dst _))
  data_keeps op.Insc =
      chain (source_of Int x p i.src) _ (λ code a. chain (given_of Int x p i.middle) _ (λ at b. chain (spot x p i.dst) _ (λ t c.
      chain (strings.text_there o x p i t) _ (λ s e. block_keeps x p d t _ (λ b f n r. absurd (text_none (strings.inserted s at code) b f n r))))))
  data_keeps op.Slicec =
      chain (source_of Int x p i.src) _ (λ from a. chain (given_of Int x p i.middle) _ (λ to b. chain (spot x p i.dst) _ (λ t c.
      chain (strings.text_there o x p i t) _ (λ s e. block_keeps x p d t _ (λ b f n r. absurd (text_none (unless_raised (slice_in s from to)) b f n r))))))
  data_keeps op.Cvtwc = chain (source_of Int x p i.src) _ (λ z a. to_new x p d i.dst (Found (Text (number_text z))) (λ b e. given_none (Text (number_text z)) b (λ n r. r) e))
  data_keeps op.Cvtlc = chain (source_of Big x p i.src) _ (λ z a. to_new x p d i.dst (Found (Text (number_text z))) (λ b e. given_none (Text (number_text z)) b (λ n r. r) e))
  data_keeps op.Cvtcw = chain (strings.source_text o x p i) _ (λ s a. to_number x p d Int i.dst (Found (number_read Int s)))
  data_keeps op.Cvtcl = chain (strings.source_text o x p i) _ (λ s a. to_number x p d Big i.dst (Found (number_read Big s)))
  data_keeps op.Cvtca = chain (strings.source_text o x p i) _ (λ s a. to_new x p d i.dst (strings.array_of (encode_utf8_all s)) (array_of_none (encode_utf8_all s)))
  data_keeps op.Cvtac = chain (source_reference x p i.src >>= elements_at x >>= strings.bytes_in) _ (λ bs a. to_new x p d i.dst _ (text_none (unless_raised (strings.not_longer (characters 0 bs)))))
  data_keeps op.Consb = chain (source_of Byte x p i.src) _ (λ z a. conses_keep (with_number_at Byte (lists.holder_of Byte) (pos 0) z) (holder_none Byte z))
  data_keeps op.Consw = chain (source_of Int x p i.src) _ (λ z a. conses_keep (with_number_at Int (lists.holder_of Int) (pos 0) z) (holder_none Int z))
  data_keeps op.Consl = chain (source_of Big x p i.src) _ (λ z a. conses_keep (with_number_at Big (lists.holder_of Big) (pos 0) z) (holder_none Big z))
  data_keeps op.Consp = chain (source_reference x p i.src) _ (λ r a. conses_keep (Found (Refer r ∷ [])) (consp_sound r a))
  data_keeps op.Consm = consm_keeps
  data_keeps op.Consmp = consmp_keeps
  data_keeps op.Headb = chain (lists.first o x p i) _ (λ c a. to_number x p d Byte i.dst _)
  data_keeps op.Headw = chain (lists.first o x p i) _ (λ c a. to_number x p d Int i.dst _)
  data_keeps op.Headl = chain (lists.first o x p i) _ (λ c a. to_number x p d Big i.dst _)
  data_keeps op.Headp = chain (lists.first o x p i) _ (λ c a. to_reference x p d i.dst _ (headp_sound c a))
  data_keeps op.Headm = headm_keeps
  data_keeps op.Headmp = headmp_keeps
  data_keeps op.Tail = chain (lists.first o x p i) _ (λ c a. to_reference x p d i.dst _ (tail_sound c a))
  data_keeps op.Lenl = chain (source_reference x p i.src >>= list_length x) _ (λ n a. to_number x p d Int i.dst (Found (wrapped Int (pos n))))
  data_keeps op.Newcb = channel_keeps i.middle (type_of_size 1 [])
  data_keeps op.Newcw = channel_keeps i.middle (type_of_size 4 [])
  data_keeps op.Newcl = channel_keeps i.middle (type_of_size 8 [])
  data_keeps op.Newcp = channel_keeps i.middle (type_of_size 4 (128 ∷ []))
  data_keeps op.Newcm = chain (immediate i.src) _ (λ size a. channel_keeps i.middle (type_of_size size []))
  data_keeps op.Newcmp = chain (source_type o i.src) _ (λ element a. channel_keeps i.middle element)
  data_keeps op.Jmp = chain (target o i.dst) _ (λ pc a. kept _ (record { heap = d.heap; process = d.process }))
  data_keeps op.Frame = frame_keeps
  data_keeps op.Call = call_keeps
  data_keeps op.Ret = returns_keep x p d
  data_keeps op.Load =
      chain (source_reference x p i.src >>= text_at x) _ (λ path a. chain (middle_immediate i.middle) _ (λ n b.
      chain (or_wrong type_check (slice_get o.imports n)) _ (λ table c. load_keeps (bytes_eq path path_of_sys) (names table))))
  data_keeps op.Mcall =
      chain (source_word x p i.src >>= control.frame_at x p) _ (λ f a. chain (middle_immediate i.middle) _ (λ k b.
      chain (source_reference x p i.dst >>= control.loaded_module >>= block x) _ (λ c e.
      chain (control.function_of c k) _ (λ name g. sys_keeps x p name f d))))
  data_keeps operation = numbers_keep operation (number_row operation)

work_keeps : (limit : ℕ) (o : Object) (x : World) (p : Process) → NothingDangles x p → Kept (work limit o x p)
work_keeps limit o x p d = chain (or_wrong bad_jump (slice_get o.insts p.frame.pc)) _ (λ i a. data_keeps limit o x p i d i.op)

after_it : (x : World) (p : Process) (a : Access Does) → NothingDangles x p → Kept a → NothingDanglesAfter (or_fault x p a)
after_it x p (Found e) d (kept e' k) = k
after_it x p (Wrong n) d (wrong n') = d.heap
after_it x p (Raises t) d (raises t') = d.heap

pub nothing_comes_to_dangle : NothingComesToDangle
nothing_comes_to_dangle limit objects x p d =
    after_it x p (code_of limit objects x p >>= λ o. work limit o x p) d
    (chain (code_of limit objects x p) _ (λ o a. work_keeps limit o x p d))
