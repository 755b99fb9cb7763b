-- What two processes that stand for one another have, and that they do so at another place, with other slots.
use Rattle.std.proofs.Common.{◌≡◌, ℕ, suc, pos, ◌+◌, ◌<◌, true, List, [], ◌∷◌, length, Option, Some, None, refl, sym, ap, ◌∙◌, subst, arith}
use Rattle.std.specs.Prelude.{slice_get, slice_index_or}
use Rattle.std.specs.List.{All}
use Rattle.heap_model.specs.Heap.{Heap, at, there}
use Rattle.heap_model.specs.Facts.{Is}
use Rattle.heap_model.specs.Worlds.{WorldsAlike}
use Rattle.limbo_types.specs.Types.{Ty}
use Rattle.limbo_layout.specs.Adts.{Has}
use Rattle.limbo_typed.specs.Typed as typed
use Rattle.limbo_meaning.specs.Memory.{HeapValue}
use Rattle.limbo_meaning.specs.Process.{Shared}
use Rattle.limbo_meaning.specs.Values.{Value}
use Rattle.core_code.specs.Code.{Instr}
use Rattle.core_code.specs.Machine as code
use Rattle.core_code.specs.Slots as core
use Rattle.core_typing.specs.Held as held
use Rattle.core_typing.specs.Needs.{Finds}
use Rattle.core_typing.specs.Going.{Stand, stand, Goes, behind}
use Rattle.dis_isa.specs.declared.inst.Inst.{Inst}
use Rattle.dis_meaning.specs.Words.{Word, word_at}
use Rattle.dis_meaning.specs.Process.{Frame, Process, at_pc, with_words, with_frames}
use Rattle.dis_memory.specs.Blocks.{Block, World, Instance}
use Rattle.dis_memory.specs.Naming as machine
use Rattle.value_words.specs.Forms.{Instances}
use Rattle.value_words.specs.Facts.{Facts}
use Rattle.value_frames.specs.Frames.{Form, Nowhere, AsNumber, AsReference, Boxed, form_of, answer_place}
use Rattle.value_frames.specs.Standing.{WordsAre}
use Rattle.value_frames.specs.Later.{AreMadeBy}
use Rattle.value_heaps.proofs.Words.{refers_it}
use Rattle.value_heaps.specs.Blocks.{Constant, IsBlock, elements, cell, record_of, channel, instance_of, HasConstant}
use Rattle.value_code.specs.Objects.{of_function, object_of, constants, globals}
use Rattle.value_follows.specs.Stands.{scope, types_of, GoesOn, place_of, Answer, Awaited, FrameIs, spare_of, AnswerGoes, AllWait, none_waits, waits_below}
use Rattle.value_follows.specs.Stands.{Stands, Ready}
use Rattle.value_code.specs.Code.{code_of}
use Rattle.value_follows.specs.Rows.{RowStands, Base, site_of}
use Rattle.value_follows.specs.Sides.{contents, HoldTheSame, IsOfFirst}
use Rattle.number_effects.specs.Stepping.{Reaches}

-- ---- where code goes on

pub same_some : {A : Type 0} (a b : A) → Some a ≡ Some b → a ≡ b
same_some a b e = cc

module _ (m : typed.Module) (f : typed.Function) (pc : ℕ) (known : held.Slots) (instr : Instr) (goes : GoesOn m f pc known) (here : slice_get (of_function m f).code pc ≡ Some instr) where
  abbrev There : ℕ → Instr → Type 0
  There n i =
      Finds (scope m f) f.of.answer known i
      × All (λ (a : Stand). Goes (scope m f) f.of.answer (of_function m f).code n a.pc a.slots) (behind m.adts pc known i)

  -- the instruction there finds what it needs, and so does what stands behind it
  pub goes_there : (n : ℕ) → There n instr
  goes_there n = let g = goes (suc n) in subst (There n) (same_some g.0 instr (sym g.1 ∙ here)) (g.2, g.4)

  -- the code goes on at each place behind it
  pub goes_behind : (j pc' : ℕ) (slots : held.Slots) → j < length (behind m.adts pc known instr)
      → slice_index_or (behind m.adts pc known instr) j (stand pc' slots) ≡ stand pc' slots → GoesOn m f pc' slots
  goes_behind j pc' slots l e n =
      subst (λ (a : Stand). Goes (scope m f) f.of.answer (of_function m f).code n a.pc a.slots) e ((goes_there n).1 j (stand pc' slots) l)

  pub finds : Finds (scope m f) f.of.answer known instr
  finds = (goes_there 0).0

-- ---- frames that wait do so for a callee with other words, where its address for the answer is as it was

module _ (m : typed.Module) (k : Facts) (i : ℕ) (x : World) where
  answer_goes : (a : Answer) (form : Form) (t : Ty) (f : Frame) (types : List Ty) (into : ℕ) (callee other : Frame) (own : ℕ → List ℕ)
      → word_at other.words (pos answer_place) ≡ word_at callee.words (pos answer_place)
      → AnswerGoes m k i x a form t f types into callee own → AnswerGoes m k i x a form t f types into other own
  answer_goes a Nowhere t f types into callee other own e goes = goes
  answer_goes a AsNumber t f types into callee other own e goes = (goes.0, e ∙ goes.1)
  answer_goes a AsReference t f types into callee other own e goes = (goes.0, e ∙ goes.1)
  answer_goes a Boxed t f types into callee other own e goes = (goes.0, goes.1, goes.2, e ∙ goes.3, goes.4, goes.5, goes.6)

  pub all_wait : (a : Answer) (t : Ty) (callee other : Frame) (gs : List code.Frame) (fs : List Frame) → other.serial ≡ callee.serial
      → word_at other.words (pos answer_place) ≡ word_at callee.words (pos answer_place)
      → AllWait m k i x a t callee gs fs → AllWait m k i x a t other gs fs
  all_wait _ _ callee other _ _ same e (none_waits a c) = none_waits a other
  all_wait _ _ callee other _ _ same e (waits_below a t c g f gs fs w rest) =
      waits_below a t other g f gs fs (record {
        is = w.is;
        goes = w.goes;
        pc = w.pc;
        spare = w.spare;
        answer = answer_goes a (form_of t) t f (types_of m w.is.function) g.into callee other w.is.words.own e w.answer;
        older = subst (λ s. f.serial < s) (sym same) w.older;
        unnamed = w.unnamed;
      }) rest

-- ---- the code that a process runs

is_there : {A : Type 0} (o : Option A) → there o ≡ true → (a : A) × (o ≡ Some a)
is_there None e = absurd cc
is_there (Some a) e = (a, refl)

also : (h : Heap Block) (s : ℕ) (a b : Block) → at h s ≡ Some a → a ≡ b → at h s ≡ Some b
also h s a b e f = e ∙ ap (λ (c : Block). Some c) f

-- the instance of a frame is there
names_instance : (q : Process) → 0 < machine.names q q.frame.instance
names_instance q = let e = refers_it q.frame.instance in omega arith

module _ (m : typed.Module) (k : Facts) where
  -- a block of the form of instances is one of the one object, with all constants
  pub record InstanceIs (b : Block) : Type 0 where
    pub words : List Word
    pub is : b ≡ Instance 0 words
    pub constant : (c : Constant) → Has (constants m) c → HasConstant m.adts k words c

  instance_is : (n : ℕ) (v : HeapValue) (b : Block) → k.form n ≡ Some Instances
      → IsBlock m.adts (globals m) (constants m) k n v b → IsOfFirst b → InstanceIs b
  instance_is n _ _ f (elements t r words vs g l few w e o) first = absurd cc
  instance_is n _ _ f (cell t r words v tail rest g l w s o a e older) first = absurd cc
  instance_is n _ _ f (record_of a r words v g l w s o e) first = absurd cc
  instance_is n _ _ f (channel t desc g) first = absurd cc
  instance_is n _ _ f (instance_of object rs words vs g l w s o t c) first =
      record { words = words; is = ap (λ o. Instance o words) first; constant = c }

  module _ (w : Shared) (x : World) (alike : WorldsAlike (contents m) k w.heap x.heap) where
    pub instance_there : (n s : ℕ) → Is k n s → k.form s ≡ Some Instances → there (at x.heap s) ≡ true
        → (words : List Word) × (at x.heap s ≡ Some (Instance 0 words)) × ((c : Constant) → Has (constants m) c → HasConstant m.adts k words c)
    instance_there n s is f e =
        let b = is_there (at x.heap s) e in
        let v = alike.here n s b.0 is b.1 in
        let t = alike.there n v.0 v.1 in
        let same : t.0 ≡ s = k.once n t.0 s t.2 is in
        let there : at x.heap s ≡ Some t.1 = subst (λ r. at x.heap r ≡ Some t.1) same t.3 in
        let j = instance_is t.0 v.0 t.1 (subst (λ r. k.form r ≡ Some Instances) (sym same) f) t.4.0 t.4.1 in
        (j.words, also x.heap s t.1 (Instance 0 j.words) there j.is, j.constant)

-- an instruction of a row is what the process does next
module _ (m : typed.Module) (b : Base m) (k : Facts) (i : ℕ) (w : Shared) (x : World) (p : code.Process) (q : Process) (busy : List ℕ) (is : FrameIs m k i x busy p.frame q.frame) (hold : HoldTheSame m k i x p q) (alike : WorldsAlike (contents m) k w.heap x.heap) where
  pub instance_here : (words : List Word) × (at x.heap q.frame.instance ≡ Some (Instance 0 words)) × ((c : Constant) → Has (constants m) c → HasConstant m.adts k words c)
  instance_here = instance_there m k w x alike p.frame.instance q.frame.instance is.instance is.formed (hold.same.live q.frame.instance (hold.same.roots q.frame.instance (names_instance q)))

  pub reaches : (instr : Instr) (j : ℕ) (inst : Inst) → slice_get p.frame.code p.frame.pc ≡ Some instr
      → (row : RowStands m is.number is.function p.frame.pc instr)
      → slice_get (code_of (site_of m is.number is.function p.frame.pc row.at) instr) j ≡ Some inst
      → q.frame.pc ≡ place_of m is.number is.function p.frame.pc + j
      → Reaches (object_of m ∷ []) x q (object_of m) inst
  reaches instr j inst here row e pc = record {
    object = 0;
    words = instance_here.0;
    instance = instance_here.1;
    code = refl;
    here = ap (slice_get (object_of m).insts) pc ∙ row.insts j inst e;
  }

  pub row_here : (instr : Instr) → slice_get p.frame.code p.frame.pc ≡ Some instr → RowStands m is.number is.function p.frame.pc instr
  row_here instr here =
      b.row_stands is.number is.function p.frame.pc instr is.there (subst (λ c. slice_get c p.frame.pc ≡ Some instr) is.code here)

-- ---- two that stand for one another do so at another place, with other slots and words, where the answer's word is as it was

module _ (m : typed.Module) (k : Facts) (i : ℕ) (x : World) (busy : List ℕ) (a : Answer) (p : code.Process) (q : Process) (s : Stands m k i x busy a p q) where
  -- the process of the machine, at another place, with other words, and with these frames that are made
  abbrev pub moved_on : (to : ℕ) → List Word → (made : List Frame) → Process
  moved_on to words made = with_frames q (at_pc (with_words q.frame words) to) q.below made

  abbrev pub on_slots : (pc : ℕ) → List Value → core.Slots → code.Process
  on_slots pc vs slots = code.with_frames p (code.at p.frame pc vs slots) p.below

  -- The running frame then is of the same function, of whose slots this is known, and which have these blocks as their own.
  pub record StandsOn (now : Facts) (y : World) (busy' : List ℕ) (known' : held.Slots) (own' : ℕ → List ℕ) (r : code.Process) (t : Process) : Type 0 where
    pub stands : Stands m now i y busy' a r t
    pub number : stands.is.number ≡ s.is.number
    pub function : stands.is.function ≡ s.is.function
    pub known : stands.is.known ≡ known'
    pub own : stands.is.words.own ≡ own'

  pub stands_on : (busy' : List ℕ) (pc to : ℕ) (known : held.Slots) (vs : List Value) (slots : core.Slots) (words : List Word) (made : List Frame)
      → length slots ≡ length p.frame.slots
      → (are : WordsAre m.adts k x.heap q.frame.serial busy' (types_of m s.is.function) known vs slots words)
      → AreMadeBy k i are.own → GoesOn m s.is.function pc known
      → word_at words (pos answer_place) ≡ word_at q.frame.words (pos answer_place)
      → StandsOn k x busy' known are.own (on_slots pc vs slots) (moved_on to words made)
  stands_on busy' pc to known vs slots words made long are mine goes answer = record {
    stands = record {
      number = s.number;
      is = record {
        number = s.is.number;
        function = s.is.function;
        there = s.is.there;
        code = s.is.code;
        answer = s.is.answer;
        many = long ∙ s.is.many;
        instance = s.is.instance;
        formed = s.is.formed;
        known = known;
        words = are;
        mine = mine;
        fresh = s.is.fresh;
      };
      goes = goes;
      waits = all_wait m k i x a p.frame.answer q.frame (moved_on to words made).frame p.below q.below refl answer s.waits;
    };
    number = refl;
    function = refl;
    known = refl;
    own = refl;
  }

-- ---- two that are ready are so at another place, with other slots and words, where what lies in front of the slots is as it was

module _ (m : typed.Module) (k : Facts) (i : ℕ) (x : World) (p : code.Process) (q : Process) (r : Ready m k i x p q) where
  abbrev pub function : typed.Function
  function = r.stands.is.function

  abbrev pub at_slots : (pc : ℕ) → core.Slots → code.Process
  at_slots pc slots = code.with_frames p (code.at p.frame pc p.frame.variables slots) p.below

  abbrev pub at_words : (pc : ℕ) → List Word → Process
  at_words pc words = with_frames q (at_pc (with_words q.frame words) pc) q.below q.made

  -- the code of its function goes on so
  pub code_here : (instr : Instr) → slice_get p.frame.code p.frame.pc ≡ Some instr → slice_get (of_function m function).code p.frame.pc ≡ Some instr
  code_here instr e = subst (λ c. slice_get c p.frame.pc ≡ Some instr) r.stands.is.code e

  pub ready_on : (pc at : ℕ) (known : held.Slots) (slots : core.Slots) (words : List Word) → length slots ≡ length p.frame.slots
      → (are : WordsAre m.adts k x.heap q.frame.serial [] (types_of m function) known p.frame.variables slots words)
      → AreMadeBy k i are.own → GoesOn m function pc known → at ≡ place_of m r.stands.is.number function pc
      → word_at words (pos answer_place) ≡ word_at q.frame.words (pos answer_place)
      → word_at words (pos (spare_of m k i x function)) ≡ word_at q.frame.words (pos (spare_of m k i x function))
      → Ready m k i x (at_slots pc slots) (at_words at words)
  ready_on pc at known slots words long are mine goes there answer spare = record {
    stands = record {
      number = r.stands.number;
      is = record {
        number = r.stands.is.number;
        function = function;
        there = r.stands.is.there;
        code = r.stands.is.code;
        answer = r.stands.is.answer;
        many = long ∙ r.stands.is.many;
        instance = r.stands.is.instance;
        formed = r.stands.is.formed;
        known = known;
        words = are;
        mine = mine;
        fresh = r.stands.is.fresh;
      };
      goes = goes;
      waits = all_wait m k i x Awaited p.frame.answer q.frame (at_words at words).frame p.below q.below refl answer r.stands.waits;
    };
    pc = there;
    spare = spare ∙ r.spare;
    none_made = r.none_made;
  }

  -- nothing but the place is another
  pub ready_at : (pc at : ℕ) → GoesOn m function pc r.stands.is.known → at ≡ place_of m r.stands.is.number function pc
      → Ready m k i x (at_slots pc p.frame.slots) (at_words at q.frame.words)
  ready_at pc at goes there = ready_on pc at r.stands.is.known p.frame.slots q.frame.words refl r.stands.is.words r.stands.is.mine goes there refl refl
