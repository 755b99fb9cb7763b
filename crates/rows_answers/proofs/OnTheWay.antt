-- Two processes on their way through a row: what holds in front of each instruction of the machine, whatever others do.
use Rattle.std.proofs.Common.{◌≡◌, ℕ, zero, suc, pos, ◌+◌, ◌<◌, ◌&&◌, Bool, false, if◌then◌else◌, List, [], ◌∷◌, length, Option, Some, None, refl, ap, ◌∙◌, subst, arith}
use Rattle.std.specs.Prelude.{slice_get, nat_eq}
use Rattle.process_model.specs.Process.{Went}
use Rattle.process_model.specs.Follows.{Only}
use Rattle.process_ways.specs.Ways.{Way}
use Rattle.process_ways.proofs.On.{silent, stepped}
use Rattle.heap_model.specs.Facts.{Is}
use Rattle.limbo_typed.specs.Typed as typed
use Rattle.limbo_meaning.specs.Process.{Shared}
use Rattle.core_code.specs.Code.{Instr}
use Rattle.core_code.specs.Machine as code
use Rattle.core_typing.specs.Held as held
use Rattle.dis_isa.specs.declared.inst.Inst.{Inst}
use Rattle.dis_meaning.specs.Words.{Word, Refer, Found, word_at}
use Rattle.dis_meaning.specs.Process.{Process}
use Rattle.dis_memory.specs.Blocks.{World}
use Rattle.dis_memory.specs.Naming as machine
use Rattle.value_words.specs.Forms.{Instances}
use Rattle.value_words.specs.Facts.{Facts, Grows}
use Rattle.value_frames.specs.Frames.{spare_place}
use Rattle.value_frames.specs.Standing.{WordsAre}
use Rattle.value_frames.specs.Later.{AreMadeBy}
use Rattle.value_code.specs.Objects.{object_of, of_function, size_at}
use Rattle.value_code.specs.Code.{code_of}
use Rattle.number_effects.specs.Stepping.{Reaches}
use Rattle.value_follows.specs.Stands.{types_of, GoesOn, place_of, Answer, Awaited, FrameIs, AllWait, Stands, Ready}
use Rattle.value_follows.specs.Sides.{sides, HoldTheSame}
use Rattle.value_follows.specs.Rows.{place, Row, rank, row_of, is_tidied, Base, RowStands, site_of}
use Rattle.value_follows.proofs.Standing.{instance_here}
use Rattle.value_follows.proofs.Paces.{places_are}
use Rattle.value_follows.proofs.Several.{Next, moved_to, hold_as}
use Rattle.value_follows.proofs.Single.{Once}

-- In a function of this number two processes stand for one another, with this in the place of an answer, and the machine's is so many
-- instructions behind the begin of a row; no slot is busy.
pub record On (m : typed.Module) (k : Facts) (i : ℕ) (x : World) (a : Answer) (n : ℕ) (f : typed.Function) (j : ℕ) (p : code.Process)
    (q : Process) : Type 0 where
  pub process : p.number ≡ q.number
  pub there : slice_get m.functions n ≡ Some f
  pub code : p.frame.code ≡ (of_function m f).code
  pub answer : p.frame.answer ≡ f.of.answer
  pub many : length p.frame.slots ≡ (of_function m f).slots
  pub instance : Is k p.frame.instance q.frame.instance
  pub formed : k.form q.frame.instance ≡ Some Instances
  pub known : held.Slots
  pub words : WordsAre m.adts k x.heap q.frame.serial [] (types_of m f) known p.frame.variables p.frame.slots q.frame.words
  pub mine : AreMadeBy k i words.own
  pub fresh : q.frame.serial < x.outside.frames
  pub goes : GoesOn m f p.frame.pc known
  pub waits : AllWait m k i x a p.frame.answer q.frame p.below q.below
  pub pc : q.frame.pc ≡ place_of m n f p.frame.pc + j
  pub spare : word_at q.frame.words (pos (spare_place m.adts (types_of m f))) ≡ Found (Refer None)
  pub none_made : q.made ≡ []

module _ (m : typed.Module) (k : Facts) (i : ℕ) (x : World) (a : Answer) (n : ℕ) (f : typed.Function) (j : ℕ) (p : code.Process)
    (q : Process) (on : On m k i x a n f j p q) where
  abbrev pub frame_is : FrameIs m k i x [] p.frame q.frame
  frame_is = record {
    number = n;
    function = f;
    there = on.there;
    code = on.code;
    answer = on.answer;
    many = on.many;
    instance = on.instance;
    formed = on.formed;
    known = on.known;
    words = on.words;
    mine = on.mine;
    fresh = on.fresh;
  }

  abbrev pub stands : Stands m k i x [] a p q
  stands = record { number = on.process; is = frame_is; goes = on.goes; waits = on.waits }

  -- the code of its function goes on so
  pub row_code : (instr : Instr) → slice_get p.frame.code p.frame.pc ≡ Some instr → slice_get (of_function m f).code p.frame.pc ≡ Some instr
  row_code instr here = subst (λ c. slice_get c p.frame.pc ≡ Some instr) on.code here

-- At the begin of a row they are ready.
module _ (m : typed.Module) (k : Facts) (i : ℕ) (x : World) (n : ℕ) (f : typed.Function) (p : code.Process) (q : Process)
    (on : On m k i x Awaited n f 0 p q) where
  abbrev pub ready_of : Ready m k i x p q
  ready_of = record {
    stands = stands m k i x Awaited n f 0 p q on;
    pc = (let e = on.pc in omega (arith, e));
    spare = on.spare;
    none_made = on.none_made;
  }

module _ (m : typed.Module) (i : ℕ) (p : code.Process) (q : Process) where
  -- as two that stand for one another do so
  pub on_of : (k : Facts) (x : World) (a : Answer) (n : ℕ) (f : typed.Function) (j : ℕ) → (s : Stands m k i x [] a p q)
      → s.is.number ≡ n → s.is.function ≡ f → q.frame.pc ≡ place_of m n f p.frame.pc + j
      → word_at q.frame.words (pos (spare_place m.adts (types_of m f))) ≡ Found (Refer None) → q.made ≡ [] → On m k i x a n f j p q
  on_of k x a n f j s c e pc spare made =
      subst (λ (l : ℕ). (q.frame.pc ≡ place_of m l f p.frame.pc + j) → On m k i x a l f j p q) c
      (λ at. subst (λ (g : typed.Function). (q.frame.pc ≡ place_of m s.is.number g p.frame.pc + j)
      → (word_at q.frame.words (pos (spare_place m.adts (types_of m g))) ≡ Found (Refer None)) → On m k i x a s.is.number g j p q) e
      (λ pc spare. record {
        process = s.number;
        there = s.is.there;
        code = s.is.code;
        answer = s.is.answer;
        many = s.is.many;
        instance = s.is.instance;
        formed = s.is.formed;
        known = s.is.known;
        words = s.is.words;
        mine = s.is.mine;
        fresh = s.is.fresh;
        goes = s.goes;
        waits = s.waits;
        pc = pc;
        spare = spare;
        none_made = made;
      }) at spare)
      pc

  -- those that are ready
  pub on_ready : (k : Facts) (x : World) → (r : Ready m k i x p q) → On m k i x Awaited r.stands.is.number r.stands.is.function 0 p q
  on_ready k x r =
      let e = r.pc in
      on_of k x Awaited r.stands.is.number r.stands.is.function 0 r.stands refl refl (omega (arith, e)) r.spare r.none_made

  -- while others step
  module _ (b : Base m) (k now : Facts) (x y : World) (left : (sides m).leaves i k now x y) (holds : HoldTheSame m now i y p q) where
    pub on_later : (a : Answer) (n : ℕ) (f : typed.Function) (j : ℕ) → On m k i x a n f j p q → On m now i y a n f j p q
    on_later a n f j on =
        let later = b.stands_later k now i x y [] a p q (stands m k i x a n f j p q on) left holds in
        on_of now y a n f j later.0 later.1.number later.1.function on.pc on.spare on.none_made

-- ---- how far a process is

pub rank_is : (r : Row) (j : ℕ) → is_tidied r.instr ≡ false → rank r j ≡ 2 + j
rank_is r zero e = refl
rank_is r (suc j) e = ap (λ (c : Bool). if c && nat_eq (suc (suc j)) r.size then 1 else 2 + suc j) e

-- ---- a row of a function

module _ (m : typed.Module) (b : Base m) (i : ℕ) (p : code.Process) (n : ℕ) (f : typed.Function) (instr : Instr)
    (row : RowStands m n f p.frame.pc instr) where
  -- A way begins where two were on their way, of which one goes on with other words that refer to the same, as long as the next
  -- instruction leads on whatever others did.
  pub way_on : (a : Answer) (j : ℕ) (first q : Process) → ((c : ℕ) → machine.names q c ≡ machine.names first c) → (l : ℕ) (k : Facts) (x : World)
      → On m k i x a n f j p first → HoldTheSame m k i x p q
      → ((now : Facts) (w : Shared) (y : World) → Grows k now → On m now i y a n f j p first → HoldTheSame m now i y p first
      → HoldTheSame m now i y p q → (sides m).worlds now w y → Next m b i p l now w y q)
      → Way (sides m) (place m) (suc l) k i x p q
  way_on a j first q same l k x on hold does = (
    hold,
    λ now y w left h worlds.
        let h' = hold_as m b i p now y q first same h in
        does now w y left.0.grows (on_later m i p first b k now x y left h' a n f j on) h' h worlds,
  )

  -- an instruction of the row is what the process does next
  pub reaches_on : (a : Answer) (j l to : ℕ) → to ≡ j + l → (q : Process) (k : Facts) (w : Shared) (x : World) → On m k i x a n f j p q → HoldTheSame m k i x p q
      → (sides m).worlds k w x → (words : List Word) (inst : Inst)
      → slice_get (code_of (site_of m n f p.frame.pc row.at) instr) to ≡ Some inst
      → Reaches (object_of m ∷ []) x (moved_to q (q.frame.pc + l) words) (object_of m) inst
  reaches_on a j l to sum q k w x on hold worlds words inst e =
      let is = instance_here m b k i w x p q [] (frame_is m k i x a n f j p q on) hold worlds.0 in
      let at = on.pc in
      record {
        object = 0;
        words = is.0;
        instance = is.1;
        code = refl;
        here = ap (slice_get (object_of m).insts) (omega (arith, at, sum)) ∙ row.insts to inst e;
      }

  -- where it is there already
  pub reaches_first : (a : Answer) (j : ℕ) (q : Process) (k : Facts) (w : Shared) (x : World) → On m k i x a n f j p q → HoldTheSame m k i x p q
      → (sides m).worlds k w x → (inst : Inst) → slice_get (code_of (site_of m n f p.frame.pc row.at) instr) j ≡ Some inst
      → Reaches (object_of m ∷ []) x q (object_of m) inst
  reaches_first a j q k w x on hold worlds inst e =
      let is = instance_here m b k i w x p q [] (frame_is m k i x a n f j p q on) hold worlds.0 in
      record {
        object = 0;
        words = is.0;
        instance = is.1;
        code = refl;
        here = ap (slice_get (object_of m).insts) on.pc ∙ row.insts j inst e;
      }

  module _ (there : slice_get m.functions n ≡ Some f) (in_code : slice_get (of_function m f).code p.frame.pc ≡ Some instr)
      (plain : is_tidied instr ≡ false) where
    -- further behind the begin it is further
    pub further : (j l : ℕ) (q r : Process) → j < l → l < size_at m f.of.answer (of_function m f) p.frame.pc (Some instr)
        → q.frame.pc ≡ place_of m n f p.frame.pc + j → r.frame.pc ≡ place_of m n f p.frame.pc + l → place m q < place m r
    further j l q r less within e g =
        let here = (places_are m).ranked n f p.frame.pc instr j q there in_code (omega (arith, less, within)) e
        ∙ rank_is (row_of m f p.frame.pc instr) j plain in
        let next = (places_are m).ranked n f p.frame.pc instr l r there in_code within g ∙ rank_is (row_of m f p.frame.pc instr) l plain in
        omega (arith, here, next, less)

  -- the machine goes on, and the other doesn't
  pub goes_silently : (l : ℕ) (k now : Facts) (w : Shared) (x y : World) (q r : Process) → (sides m).code.step x q ≡ Went y r
      → (sides m).changes (Only i) k now x y → (sides m).worlds now w y → place m q < place m r → Way (sides m) (place m) l now i y p r
      → Next m b i p l k w x q
  goes_silently l k now w x y q r e changes worlds more way =
      silent (sides m) (place m) (λ l' z s t. Way (sides m) (place m) l l' i z s t) k now i w x y p q r e changes worlds more way

  -- both take a step, and are ready
  pub goes_both : (k now : Facts) (w v : Shared) (x y : World) (q : Process) → HoldTheSame m k i x p q → (sides m).worlds k w x
      → (sides m).changes (Only i) k now x y → (sides m).worlds now v y → (r : code.Process) (s : Process)
      → (sides m).code.step x q ≡ Went y s → (sides m).program.step w p ≡ Went v r → Ready m now i y r s → Once m b i p q k w x
  goes_both k now w v x y q hold worlds changes after r s e d ready =
      stepped (sides m) (place m) (λ l z r t. (sides m).ready l i z r t) k now i w x y p q s e changes v r d after
      (ready, b.holds_again now i v y r s ready after (b.there_again x y q s e worlds.0.closed (λ c h. hold.same.live c (hold.same.roots c h))))

  -- the next row begins behind it
  pub next_row : slice_get (of_function m f).code p.frame.pc ≡ Some instr → (size : ℕ)
      → size_at m f.of.answer (of_function m f) p.frame.pc (Some instr) ≡ size → place_of m n f (suc p.frame.pc) ≡ place_of m n f p.frame.pc + size
  next_row in_code size e =
      let g = ap (λ (o : Option Instr). size_at m f.of.answer (of_function m f) p.frame.pc o) in_code in
      omega (arith, e, g)
