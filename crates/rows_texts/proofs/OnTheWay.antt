-- Two processes on their way through a row: what holds in front of each instruction of the machine, whatever others do.
use Rattle.std.proofs.Common.{◌≡◌, ℕ, suc, pos, ◌+◌, ◌<◌, List, [], ◌∷◌, length, Some, None, refl, ap, ◌∙◌, subst, arith}
use Rattle.std.specs.Prelude.{slice_get}
use Rattle.process_model.specs.Process.{Went}
use Rattle.process_model.specs.Follows.{Only}
use Rattle.process_ways.specs.Ways.{Way}
use Rattle.process_ways.proofs.On.{stepped}
use Rattle.heap_model.specs.Facts.{Is}
use Rattle.limbo_typed.specs.Typed as typed
use Rattle.limbo_meaning.specs.Process.{Shared}
use Rattle.core_code.specs.Code.{Instr}
use Rattle.core_code.specs.Machine as code
use Rattle.core_typing.specs.Held as held
use Rattle.dis_isa.specs.declared.inst.Inst.{Inst}
use Rattle.dis_meaning.specs.Words.{Refer, Found, word_at}
use Rattle.dis_meaning.specs.Process.{Process}
use Rattle.dis_memory.specs.Blocks.{World}
use Rattle.value_words.specs.Forms.{Instances}
use Rattle.value_words.specs.Facts.{Facts, Grows}
use Rattle.value_frames.specs.Frames.{spare_place}
use Rattle.value_frames.specs.Standing.{WordsAre}
use Rattle.value_frames.specs.Later.{AreMadeBy}
use Rattle.value_code.specs.Objects.{object_of, of_function}
use Rattle.value_code.specs.Code.{code_of}
use Rattle.number_effects.specs.Stepping.{Reaches}
use Rattle.value_follows.specs.Stands.{types_of, GoesOn, place_of, Awaited, FrameIs, AllWait, Stands, Ready}
use Rattle.value_follows.specs.Sides.{sides, HoldTheSame}
use Rattle.value_follows.specs.Rows.{place, rank, row_of, Base, RowStands, site_of}
use Rattle.value_follows.proofs.Standing.{instance_here, all_wait}
use Rattle.value_follows.proofs.Paces.{places_are}
use Rattle.value_follows.proofs.Several.{Next, moved_to}
use Rattle.value_follows.proofs.Single.{Once}

-- In a function of this number two processes stand for one another, but for busy slots, and the machine's is so many instructions behind
-- the begin of a row; nothing else is on its way.
pub record On (m : typed.Module) (k : Facts) (i : ℕ) (x : World) (busy : List ℕ) (n : ℕ) (f : typed.Function) (j : ℕ) (p : code.Process)
    (q : Process) : Type 0 where
  pub process : p.number ≡ q.number
  pub there : slice_get m.functions n ≡ Some f
  pub code : p.frame.code ≡ (of_function m f).code
  pub answer : p.frame.answer ≡ f.of.answer
  pub many : length p.frame.slots ≡ (of_function m f).slots
  pub instance : Is k p.frame.instance q.frame.instance
  pub formed : k.form q.frame.instance ≡ Some Instances
  pub known : held.Slots
  pub words : WordsAre m.adts k x.heap q.frame.serial busy (types_of m f) known p.frame.variables p.frame.slots q.frame.words
  pub mine : AreMadeBy k i words.own
  pub fresh : q.frame.serial < x.outside.frames
  pub goes : GoesOn m f p.frame.pc known
  pub waits : AllWait m k i x Awaited p.frame.answer q.frame p.below q.below
  pub pc : q.frame.pc ≡ place_of m n f p.frame.pc + j
  pub spare : word_at q.frame.words (pos (spare_place m.adts (types_of m f))) ≡ Found (Refer None)
  pub none_made : q.made ≡ []

module _ (m : typed.Module) (k : Facts) (i : ℕ) (x : World) (busy : List ℕ) (n : ℕ) (f : typed.Function) (j : ℕ) (p : code.Process)
    (q : Process) (on : On m k i x busy n f j p q) where
  abbrev pub frame_is : FrameIs m k i x busy p.frame q.frame
  frame_is = record {
    number = n;
    function = f;
    there = on.there;
    code = on.code;
    answer = on.answer;
    many = on.many;
    instance = on.instance;
    formed = on.formed;
    known = on.known;
    words = on.words;
    mine = on.mine;
    fresh = on.fresh;
  }

  abbrev pub stands : Stands m k i x busy Awaited p q
  stands = record { number = on.process; is = frame_is; goes = on.goes; waits = on.waits }

  -- the code of its function goes on so
  pub row_code : (instr : Instr) → slice_get p.frame.code p.frame.pc ≡ Some instr → slice_get (of_function m f).code p.frame.pc ≡ Some instr
  row_code instr here = subst (λ c. slice_get c p.frame.pc ≡ Some instr) on.code here

-- Where no slot is busy they are ready at the begin of the row.
module _ (m : typed.Module) (k : Facts) (i : ℕ) (x : World) (n : ℕ) (f : typed.Function) (j : ℕ) (p : code.Process) (q : Process)
    (on : On m k i x [] n f j p q) where
  abbrev pub back : Ready m k i x p (moved_to q (place_of m n f p.frame.pc) q.frame.words)
  back = record {
    stands = record {
      number = on.process;
      is = record {
        number = n;
        function = f;
        there = on.there;
        code = on.code;
        answer = on.answer;
        many = on.many;
        instance = on.instance;
        formed = on.formed;
        known = on.known;
        words = on.words;
        mine = on.mine;
        fresh = on.fresh;
      };
      goes = on.goes;
      waits = all_wait m k i x Awaited p.frame.answer q.frame (moved_to q (place_of m n f p.frame.pc) q.frame.words).frame p.below q.below
          refl refl on.waits;
    };
    pc = refl;
    spare = on.spare;
    none_made = on.none_made;
  }

module _ (m : typed.Module) (i : ℕ) (p : code.Process) (q : Process) where
  -- as two that stand for one another do so
  pub on_of : (k : Facts) (x : World) (busy : List ℕ) (n : ℕ) (f : typed.Function) (j : ℕ) → (s : Stands m k i x busy Awaited p q)
      → s.is.number ≡ n → s.is.function ≡ f → q.frame.pc ≡ place_of m n f p.frame.pc + j
      → word_at q.frame.words (pos (spare_place m.adts (types_of m f))) ≡ Found (Refer None) → q.made ≡ [] → On m k i x busy n f j p q
  on_of k x busy n f j s a e pc spare made =
      subst (λ (l : ℕ). (q.frame.pc ≡ place_of m l f p.frame.pc + j) → On m k i x busy l f j p q) a
      (λ at. subst (λ (g : typed.Function). (q.frame.pc ≡ place_of m s.is.number g p.frame.pc + j)
      → (word_at q.frame.words (pos (spare_place m.adts (types_of m g))) ≡ Found (Refer None)) → On m k i x busy s.is.number g j p q) e
      (λ pc spare. record {
        process = s.number;
        there = s.is.there;
        code = s.is.code;
        answer = s.is.answer;
        many = s.is.many;
        instance = s.is.instance;
        formed = s.is.formed;
        known = s.is.known;
        words = s.is.words;
        mine = s.is.mine;
        fresh = s.is.fresh;
        goes = s.goes;
        waits = s.waits;
        pc = pc;
        spare = spare;
        none_made = made;
      }) at spare)
      pc

  -- those that are ready
  pub on_ready : (k : Facts) (x : World) → (r : Ready m k i x p q) → On m k i x [] r.stands.is.number r.stands.is.function 0 p q
  on_ready k x r =
      let e = r.pc in
      on_of k x [] r.stands.is.number r.stands.is.function 0 r.stands refl refl (omega (arith, e)) r.spare r.none_made

  -- while others step
  module _ (b : Base m) (k now : Facts) (x y : World) (left : (sides m).leaves i k now x y) (holds : HoldTheSame m now i y p q) where
    pub on_later : (busy : List ℕ) (n : ℕ) (f : typed.Function) (j : ℕ) → On m k i x busy n f j p q → On m now i y busy n f j p q
    on_later busy n f j on =
        let later = b.stands_later k now i x y busy Awaited p q (stands m k i x busy n f j p q on) left holds in
        on_of now y busy n f j later.0 later.1.number later.1.function on.pc on.spare on.none_made

module _ (m : typed.Module) (b : Base m) (i : ℕ) (p : code.Process) (q : Process) (busy : List ℕ) (n : ℕ) (f : typed.Function) (j : ℕ) where
  -- They are on their way where the next instruction leads on whatever others did, who take nothing from what is known.
  pub on_way : (l : ℕ) (k : Facts) (x : World) → On m k i x busy n f j p q → HoldTheSame m k i x p q
      → ((now : Facts) (w : Shared) (y : World) → Grows k now → On m now i y busy n f j p q → HoldTheSame m now i y p q → (sides m).worlds now w y
      → Next m b i p l now w y q)
      → Way (sides m) (place m) (suc l) k i x p q
  on_way l k x on hold does =
      (hold, λ now y w left h worlds. does now w y left.0.grows (on_later m i p q b k now x y left h busy n f j on) h worlds)

  module _ (k : Facts) (w : Shared) (x : World) (on : On m k i x busy n f j p q) (hold : HoldTheSame m k i x p q) (worlds : (sides m).worlds k w x)
      (instr : Instr) (here : slice_get p.frame.code p.frame.pc ≡ Some instr) where
    pub row_here : RowStands m n f p.frame.pc instr
    row_here = b.row_stands n f p.frame.pc instr on.there (row_code m k i x busy n f j p q on instr here)

    -- an instruction of the row is what the process does next
    pub reaches_it : (inst : Inst) → slice_get (code_of (site_of m n f p.frame.pc row_here.at) instr) j ≡ Some inst
        → Reaches (object_of m ∷ []) x q (object_of m) inst
    reaches_it inst e =
        let is = instance_here m b k i w x p q busy (frame_is m k i x busy n f j p q on) hold worlds.0 in
        record {
          object = 0;
          words = is.0;
          instance = is.1;
          code = refl;
          here = ap (slice_get (object_of m).insts) on.pc ∙ row_here.insts j inst e;
        }

    -- how far it is
    pub rank_here : j < (row_of m f p.frame.pc instr).size → place m q ≡ rank (row_of m f p.frame.pc instr) j
    rank_here l = (places_are m).ranked n f p.frame.pc instr j q on.there (row_code m k i x busy n f j p q on instr here) l on.pc

  -- both take a step, and are ready
  pub goes_so : (k now : Facts) (w v : Shared) (x y : World) → HoldTheSame m k i x p q → (sides m).worlds k w x
      → (sides m).changes (Only i) k now x y → (sides m).worlds now v y → (r : code.Process) (s : Process)
      → (sides m).code.step x q ≡ Went y s → (sides m).program.step w p ≡ Went v r → Ready m now i y r s → Once m b i p q k w x
  goes_so k now w v x y hold worlds changes after r s e d ready =
      stepped (sides m) (place m) (λ l z r t. (sides m).ready l i z r t) k now i w x y p q s e changes v r d after
      (ready, b.holds_again now i v y r s ready after (b.there_again x y q s e worlds.0.closed (λ n h. hold.same.live n (hold.same.roots n h))))
