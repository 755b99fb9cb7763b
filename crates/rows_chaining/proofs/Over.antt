-- Two processes on their way through a row, while the spare word refers to something.
use Rattle.std.proofs.Common.{◌≡◌, ℕ, pos, ◌+◌, ◌<◌, List, [], ◌∷◌, length, Option, Some, refl, sym, ap, ◌∙◌, subst}
use Rattle.std.specs.Prelude.{slice_get}
use Rattle.heap_model.specs.Heap.{at}
use Rattle.heap_model.specs.Facts.{Is}
use Rattle.heap_model.specs.Worlds.{WorldsAlike}
use Rattle.limbo_layout.specs.Adts.{Has}
use Rattle.limbo_typed.specs.Typed as typed
use Rattle.limbo_meaning.specs.Process.{Shared}
use Rattle.core_code.specs.Code.{Instr}
use Rattle.core_code.specs.Machine as code
use Rattle.core_code.specs.Slots as core
use Rattle.core_code.specs.Slots.{Slot, Turns, next_of, chain_of}
use Rattle.core_code.specs.Using.{Uses}
use Rattle.core_typing.specs.Held as held
use Rattle.core_typing.specs.Needs.{IsLoop, Finds}
use Rattle.core_typing.specs.Going.{Agrees}
use Rattle.dis_isa.specs.declared.inst.Inst.{Inst}
use Rattle.dis_meaning.specs.Words.{Word, Plain, Refer, Found, word_at}
use Rattle.dis_meaning.specs.Process.{Process}
use Rattle.dis_memory.specs.Blocks.{World}
use Rattle.value_words.specs.Forms.{Instances}
use Rattle.value_words.specs.Facts.{Facts}
use Rattle.value_frames.specs.Frames.{spare_place, number_place, reference_place}
use Rattle.value_frames.specs.Standing.{WordsAre, SlotStands, ChainStands}
use Rattle.value_frames.specs.Later.{AreMadeBy}
use Rattle.value_frames.proofs.Rest.{slots_rest}
use Rattle.value_code.specs.Objects.{object_of, of_function}
use Rattle.value_code.specs.Code.{code_of}
use Rattle.number_effects.specs.Stepping.{Reaches}
use Rattle.value_follows.specs.Stands.{types_of, scope, GoesOn, place_of, Awaited, FrameIs, AllWait, Stands}
use Rattle.value_follows.specs.Sides.{sides, of_values, HoldTheSame}
use Rattle.value_follows.specs.Rooted.{IsAmong}
use Rattle.value_follows.specs.Rows.{place, rank, row_of, Base, AreThere, RowStands, site_of}
use Rattle.value_follows.proofs.Standing.{instance_here, same_some}
use Rattle.value_follows.proofs.Slots.{slot_is, uses}
use Rattle.value_follows.proofs.Standing.{finds}
use Rattle.value_follows.proofs.Paces.{places_are}
use Rattle.value_follows.proofs.Several.{moved_to}

-- In a function of this number two processes stand for one another, but for busy slots, and the machine's is so many instructions behind
-- the begin of a row; the spare word refers to this.
pub record Over (m : typed.Module) (k : Facts) (i : ℕ) (x : World) (busy : List ℕ) (n : ℕ) (f : typed.Function) (j : ℕ) (r : Option ℕ)
    (p : code.Process) (q : Process) : Type 0 where
  pub process : p.number ≡ q.number
  pub there : slice_get m.functions n ≡ Some f
  pub code : p.frame.code ≡ (of_function m f).code
  pub answer : p.frame.answer ≡ f.of.answer
  pub many : length p.frame.slots ≡ (of_function m f).slots
  pub instance : Is k p.frame.instance q.frame.instance
  pub formed : k.form q.frame.instance ≡ Some Instances
  pub known : held.Slots
  pub words : WordsAre m.adts k x.heap q.frame.serial busy (types_of m f) known p.frame.variables p.frame.slots q.frame.words
  pub mine : AreMadeBy k i words.own
  pub fresh : q.frame.serial < x.outside.frames
  pub goes : GoesOn m f p.frame.pc known
  pub waits : AllWait m k i x Awaited p.frame.answer q.frame p.below q.below
  pub pc : q.frame.pc ≡ place_of m n f p.frame.pc + j
  pub spare : word_at q.frame.words (pos (spare_place m.adts (types_of m f))) ≡ Found (Refer r)
  pub none_made : q.made ≡ []

module _ (m : typed.Module) (k : Facts) (i : ℕ) (x : World) (busy : List ℕ) (n : ℕ) (f : typed.Function) (j : ℕ) (r : Option ℕ)
    (p : code.Process) (q : Process) (over : Over m k i x busy n f j r p q) where
  abbrev pub over_frame : FrameIs m k i x busy p.frame q.frame
  over_frame = record {
    number = n;
    function = f;
    there = over.there;
    code = over.code;
    answer = over.answer;
    many = over.many;
    instance = over.instance;
    formed = over.formed;
    known = over.known;
    words = over.words;
    mine = over.mine;
    fresh = over.fresh;
  }

  abbrev pub over_stands : Stands m k i x busy Awaited p q
  over_stands = record { number = over.process; is = over_frame; goes = over.goes; waits = over.waits }

  module _ (instr : Instr) (here : slice_get p.frame.code p.frame.pc ≡ Some instr) where
    -- the code of its function goes on so
    pub over_code : slice_get (of_function m f).code p.frame.pc ≡ Some instr
    over_code = subst (λ c. slice_get c p.frame.pc ≡ Some instr) over.code here

    pub over_used : Uses (length p.frame.slots) instr
    over_used = uses m k i x busy p.frame q.frame over_frame p.frame.pc instr over_code

    pub over_found : Finds (scope m f) f.of.answer over.known instr
    over_found = finds m f p.frame.pc over.known instr over.goes over_code

    pub over_agrees : Agrees (scope m f) f.of.answer (of_function m f).code p.frame.pc over.known instr
    over_agrees =
        let g = over.goes 1 in
        subst (Agrees (scope m f) f.of.answer (of_function m f).code p.frame.pc over.known) (same_some g.0 instr (sym g.1 ∙ over_code)) g.3

    -- how far it is
    pub over_rank : (to : ℕ) → to < (row_of m f p.frame.pc instr).size → (s : Process) → s.frame.pc ≡ place_of m n f p.frame.pc + to
        → place m s ≡ rank (row_of m f p.frame.pc instr) to
    over_rank to l s at = (places_are m).ranked n f p.frame.pc instr to s over.there over_code l at

    module _ (b : Base m) (w : Shared) (hold : HoldTheSame m k i x p q) (worlds : (sides m).worlds k w x) where
      pub over_row : RowStands m n f p.frame.pc instr
      over_row = b.row_stands n f p.frame.pc instr over.there over_code

      -- an instruction of the row is what the process does next, with whatever words
      pub over_reaches : (to : ℕ) (inst : Inst) (pc : ℕ) (words : List Word) → pc ≡ place_of m n f p.frame.pc + to
          → slice_get (code_of (site_of m n f p.frame.pc over_row.at) instr) to ≡ Some inst
          → Reaches (object_of m ∷ []) x (moved_to q pc words) (object_of m) inst
      over_reaches to inst pc words at e =
          let is = instance_here m b k i w x p q busy over_frame hold worlds.0 in
          record {
            object = 0;
            words = is.0;
            instance = is.1;
            code = refl;
            here = ap (slice_get (object_of m).insts) at ∙ over_row.insts to inst e;
          }

  -- ---- the slot of a loop

  module _ (s : ℕ) (l : s < length p.frame.slots) (idle : Has busy s → ⊥) (is : IsLoop over.known s) where
    abbrev here : Slot
    here = core.slot p.frame.slots s

    -- its number is the index that comes next, and its word refers to the chain
    pub record LoopSo : Type 0 where
      pub holds : here ≡ Turns (next_of here) (chain_of here)
      pub number : word_at q.frame.words (pos (number_place m.adts (types_of m f) s)) ≡ Found (Plain (pos (next_of here)))
      pub chain : ChainStands m.adts k x.heap q.frame.serial q.frame.words (reference_place m.adts (types_of m f) s) is.0 (chain_of here)
          (over.words.own s)

    pub loop_so : LoopSo
    loop_so =
        let n_at = number_place m.adts (types_of m f) s in
        let r_at = reference_place m.adts (types_of m f) s in
        let stands = subst (λ h. SlotStands m.adts k x.heap q.frame.serial q.frame.words n_at r_at h here (over.words.own s)) is.1
        (slot_is m k i x busy p.frame q.frame over_frame s l idle) in
        let a = slots_rest.is_loop m.adts k x.heap q.frame.serial q.frame.words n_at r_at is.0 here (over.words.own s) stands in
        let e : here ≡ Turns a.0 a.1 = a.2 in
        let next : a.0 ≡ next_of here = sym (ap next_of e) in
        let chain : a.1 ≡ chain_of here = sym (ap chain_of e) in
        record {
          holds = e ∙ ap (λ (n : ℕ). Turns n a.1) next ∙ ap (Turns (next_of here)) chain;
          number = a.3 ∙ ap (λ (n : ℕ). Found (Plain (pos n))) next;
          chain = subst (λ rs. ChainStands m.adts k x.heap q.frame.serial q.frame.words r_at is.0 rs (over.words.own s)) chain a.4;
        }

module _ (m : typed.Module) (i : ℕ) (p : code.Process) (q : Process) where
  -- as two that stand for one another do so
  pub over_of : (k : Facts) (x : World) (busy : List ℕ) (n : ℕ) (f : typed.Function) (j : ℕ) (r : Option ℕ) → (s : Stands m k i x busy Awaited p q)
      → s.is.number ≡ n → s.is.function ≡ f → q.frame.pc ≡ place_of m n f p.frame.pc + j
      → word_at q.frame.words (pos (spare_place m.adts (types_of m f))) ≡ Found (Refer r) → q.made ≡ [] → Over m k i x busy n f j r p q
  over_of k x busy n f j r s a e pc spare made =
      subst (λ (l : ℕ). (q.frame.pc ≡ place_of m l f p.frame.pc + j) → Over m k i x busy l f j r p q) a
      (λ at. subst (λ (g : typed.Function). (q.frame.pc ≡ place_of m s.is.number g p.frame.pc + j)
      → (word_at q.frame.words (pos (spare_place m.adts (types_of m g))) ≡ Found (Refer r)) → Over m k i x busy s.is.number g j r p q) e
      (λ pc spare. record {
        process = s.number;
        there = s.is.there;
        code = s.is.code;
        answer = s.is.answer;
        many = s.is.many;
        instance = s.is.instance;
        formed = s.is.formed;
        known = s.is.known;
        words = s.is.words;
        mine = s.is.mine;
        fresh = s.is.fresh;
        goes = s.goes;
        waits = s.waits;
        pc = pc;
        spare = spare;
        none_made = made;
      }) at spare)
      pc

  -- while others step
  pub over_later : (b : Base m) (k now : Facts) (x y : World) (left : (sides m).leaves i k now x y) (holds : HoldTheSame m now i y p q) (busy : List ℕ)
      (n : ℕ) (f : typed.Function) (j : ℕ) (r : Option ℕ) → Over m k i x busy n f j r p q → Over m now i y busy n f j r p q
  over_later b k now x y left holds busy n f j r over =
      let later = b.stands_later k now i x y busy Awaited p q (over_stands m k i x busy n f j r p q over) left holds in
      over_of now y busy n f j r later.0 later.1.number later.1.function over.pc over.spare over.none_made

-- Both heaps stand for one another, and what a process refers to is there.
pub is_among : (m : typed.Module) (k : Facts) (i : ℕ) (w : Shared) (x : World) (q : Process) → (sides m).worlds k w x → AreThere m x q
    → IsAmong m k i x w.heap q
is_among m k i w x q worlds live = record { alike = alike; live = live }
  where
    alike : WorldsAlike (of_values m) k w.heap x.heap
    alike = record {
      unmade = worlds.0.unmade;
      unnamed = worlds.0.unnamed;
      there = λ n v e. let h = worlds.0.there n v e in (h.0, h.1, h.2, h.3, h.4.0);
      here = worlds.0.here;
      texts = worlds.0.texts;
      parts = worlds.0.parts;
      carriers = worlds.0.carriers;
      frees = worlds.0.frees;
      bares = worlds.0.bares;
      closed = worlds.0.closed;
    }
