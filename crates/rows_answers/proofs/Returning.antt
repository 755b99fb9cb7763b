-- The last instruction of a return: the frame that waits goes on with an answer that is in its place.
use Rattle.std.proofs.Common.{◌≡◌, ℕ, Bool, pos, ◌/◌, ◌<◌, List, [], ◌∷◌, length, Option, Some, None, refl, sym, ap, ◌∙◌, subst, arith, inl, inr}
use Rattle.std.proofs.Common.{if◌then◌else◌}
use Rattle.std.specs.Prelude.{slice_get}
use Rattle.std.proofs.lemmas.Bool.Decides.{eqb_tells}
use Rattle.process_model.specs.Process.{Went}
use Rattle.process_model.specs.Follows.{Only}
use Rattle.heap_model.specs.Facts.{Free}
use Rattle.limbo_types.specs.Types.{Ty}
use Rattle.limbo_layout.specs.Adts.{Has}
use Rattle.limbo_typed.specs.Typed as typed
use Rattle.limbo_meaning.specs.Process.{Shared}
use Rattle.limbo_meaning.specs.Values.{Value, fitted}
use Rattle.system_model.specs.Limits.{frames_limit}
use Rattle.core_code.specs.Code.{Return}
use Rattle.core_code.specs.Machine as code
use Rattle.core_code.specs.Slots as core
use Rattle.core_code.specs.Slots.{Holds}
use Rattle.core_typing.specs.Held as held
use Rattle.core_typing.specs.Held.{Of}
use Rattle.core_typing.specs.Going.{all_of}
use Rattle.dis_meaning.specs.Words.{Refer, Found, word_at}
use Rattle.dis_meaning.specs.Process.{Frame, Process, with_frames}
use Rattle.dis_memory.specs.Blocks.{World}
use Rattle.value_words.specs.Facts.{Facts, Grows}
use Rattle.value_frames.specs.Frames.{Form, Nowhere, AsNumber, AsReference, Boxed, form_of, number_place, reference_place}
use Rattle.value_frames.specs.Standing.{SlotStands, WordsAre}
use Rattle.value_frames.specs.Later.{AreMadeBy}
use Rattle.value_frames.proofs.Slots.{slots_change, put_long}
use Rattle.value_moves.proofs.Changing.{low_or_high}
use Rattle.value_code.specs.Objects.{object_of}
use Rattle.value_code.specs.Code.{code_of}
use Rattle.number_effects.proofs.Control.{control_goes}
use Rattle.number_effects.proofs.Stepping.{steps_obey}
use Rattle.value_follows.specs.Stands.{types_of, Answer, Awaited, Referred, Filled, RefersSo, AnswerGoes, Waits, AllWait, none_waits, waits_below, Ready}
use Rattle.value_follows.specs.Sides.{sides, HoldTheSame, program}
use Rattle.value_follows.specs.Rows.{Base, RowStands, site_of}
use Rattle.value_follows.proofs.Single.{Once}
use Rattle.value_words.proofs.Bytes.{word_found}
use Rattle.value_words.proofs.Rows.{below}
use Rattle.rows_ending.proofs.Endings.{ret, given}
use Rattle.rows_answers.proofs.OnTheWay.{On, reaches_first, goes_both}

-- ---- the frame that waits

-- The latest of the frames that wait does so for an answer, which may be in its place.
pub record WaitsOn (m : typed.Module) (k : Facts) (i : ℕ) (x : World) (a : Answer) (p : code.Process) (q : Process) : Type 0 where
  pub above : code.Frame
  pub frame : Frame
  pub others : List code.Frame
  pub frames : List Frame
  pub below : p.below ≡ above ∷ others
  pub beneath : q.below ≡ frame ∷ frames
  pub waits : Waits m k i x a above frame p.frame.answer q.frame
  pub rest : AllWait m k i x Awaited above.answer frame others frames

module _ (m : typed.Module) (k : Facts) (i : ℕ) (x : World) (a : Answer) (p : code.Process) (q : Process)
    (some : form_of p.frame.answer ≡ Nowhere → ⊥) where
  pub waits_on : AllWait m k i x a p.frame.answer q.frame p.below q.below → WaitsOn m k i x a p q
  waits_on = go a p.frame.answer q.frame p.below q.below refl refl refl refl refl
    where
      go : (c : Answer) (t : Ty) (callee : Frame) (gs : List code.Frame) (fs : List Frame) → a ≡ c → p.frame.answer ≡ t → q.frame ≡ callee
          → p.below ≡ gs → q.below ≡ fs → AllWait m k i x c t callee gs fs → WaitsOn m k i x a p q
      go _ _ callee _ _ e s d f g (none_waits c o) = absurd (some (ap form_of s))
      go _ _ callee _ _ e s d f g (waits_below c u o h l gs fs waits rest) = record {
        above = h;
        frame = l;
        others = gs;
        frames = fs;
        below = f;
        beneath = g;
        waits = subst (λ o. Waits m k i x a h l o q.frame) (sym s)
            (subst (λ o. Waits m k i x a h l u o) (sym d) (subst (λ y. Waits m k i x y h l u o) (sym e) waits));
        rest = rest;
      }

-- its slot is one of the frame's
module _ (m : typed.Module) (k : Facts) (i : ℕ) (x : World) (t : Ty) (f : Frame) (types : List Ty) (into : ℕ) (callee : Frame) (own : ℕ → List ℕ) where
  so_there : (a : Answer) (place : ℕ) → RefersSo m k i x a f.words place → (r : Option ℕ) × (word_at f.words (pos place) ≡ Found (Refer r))
  so_there Awaited place h = (h.0, h.1)
  so_there (Referred r) place h = (r, h)
  so_there (Filled words) place h = (h.0, h.1)

  refers_there : (a : Answer) (form : Form) → AnswerGoes m k i x a form t f types into callee own
      → (r : Option ℕ) × (word_at f.words (pos (reference_place m.adts types into)) ≡ Found (Refer r))
  refers_there a Nowhere g = (g.0, g.1)
  refers_there a AsNumber g = (g.0.0, g.0.1)
  refers_there a AsReference g = so_there a (reference_place m.adts types into) g.0
  refers_there a Boxed g = (Some g.0, g.2.word)

pub slot_below : (m : typed.Module) (k : Facts) (i : ℕ) (x : World) (a : Answer) (g : code.Frame) (f : Frame) (t : Ty) (callee : Frame)
    → Waits m k i x a g f t callee → g.into < length g.slots
slot_below m k i x a g f t callee w =
    let types = types_of m w.is.function in
    let place = reference_place m.adts types g.into in
    let r = refers_there m k i x t f types g.into callee w.is.words.own a (form_of t) w.answer in
    let e = below f.words (place / 4) (Refer r.0) (word_found f.words place (Refer r.0) r.1).1 in
    let many = w.is.words.kind.many in
    omega (arith, e, many)

-- ---- it has its answer, where more is known and its own blocks still stand for nothing

alone : (s : ℕ) → held.without s (s ∷ []) ≡ []
alone s = elim (eqb_tells s s) [ inl y ↦ ap (λ (b : Bool). if b then [] else s ∷ []) y.0 | inr y ↦ absurd (y.1 refl) ]

module _ (m : typed.Module) (k k' : Facts) (i : ℕ) (x : World) (a : Answer) (g : code.Frame) (f : Frame) (t : Ty) (callee : Frame)
    (w : Waits m k i x a g f t callee) (grows : Grows k k') (kept : (s c : ℕ) → Has (w.is.words.own s) c → Free k' c) (v : Value) where
  abbrev pub held_then : held.Held
  held_then = Of t (all_of m.adts t)

  abbrev pub Answers : Type 0
  Answers =
      SlotStands m.adts k' x.heap f.serial f.words (number_place m.adts (types_of m w.is.function) g.into)
      (reference_place m.adts (types_of m w.is.function) g.into) held_then (Holds v) []

  answer_known : Answers
      → (after : WordsAre m.adts k' x.heap f.serial [] (types_of m w.is.function) (held.put w.is.known g.into held_then) g.variables
      (core.put g.slots g.into (Holds v)) f.words)
      × AreMadeBy k' i after.own
  answer_known stands =
      let types = types_of m w.is.function in
      let are = w.is.words in
      let l = slot_below m k i x a g f t callee w in
      let after = slots_change.slot m.adts k k' x.heap x.heap f.serial (g.into ∷ []) types w.is.known g.variables g.slots f.words f.words g.into
      held_then (Holds v) [] are grows l (record { each = λ w no. refl }) are.kind stands tt
      (λ u b ne h. (λ e. e, (kept u b h, refl))) in
      subst (λ (busy : List ℕ). (after : WordsAre m.adts k' x.heap f.serial busy types (held.put w.is.known g.into held_then) g.variables
      (core.put g.slots g.into (Holds v)) f.words)
      × AreMadeBy k' i after.own) (alone g.into) (
        after.after,
        λ u b h. elim (low_or_high u g.into) [
          | inl low ↦ grows.makers b i (w.is.mine u b (subst (λ o. Has o b) (after.elsewhere u (λ e. omega (arith, e, low))) h))
          | inr high ↦ elim (low_or_high g.into u) [
            | inl more ↦ grows.makers b i (w.is.mine u b (subst (λ o. Has o b) (after.elsewhere u (λ e. omega (arith, e, more))) h))
            | inr less ↦
                let same : u ≡ g.into = omega (arith, high, less) in
                absurd (subst (λ o. Has o b) (ap after.after.own same ∙ after.here) h)
          ]
        ],
      )

  pub ready_back : Answers → (p : code.Process) (q : Process) (gs : List code.Frame) (fs : List Frame) → p.number ≡ q.number → q.made ≡ []
      → AllWait m k' i x Awaited g.answer f gs fs
      → Ready m k' i x (code.with_frames p (code.answered g v) gs) (with_frames q f fs q.made)
  ready_back stands p q gs fs number none_made waits =
      let known = answer_known stands in
      record {
        stands = record {
          number = number;
          is = record {
            number = w.is.number;
            function = w.is.function;
            there = w.is.there;
            code = w.is.code;
            answer = w.is.answer;
            many = put_long g.slots g.into (Holds v) ∙ w.is.many;
            instance = grows.facts f.instance _ w.is.instance;
            formed = grows.forms f.instance _ w.is.formed;
            known = held.put w.is.known g.into held_then;
            words = known.0;
            mine = known.1;
            fresh = w.is.fresh;
          };
          goes = w.goes;
          waits = waits;
        };
        pc = w.pc;
        spare = w.spare;
        none_made = none_made;
      }

-- ---- the step

module _ (m : typed.Module) (b : Base m) (i : ℕ) (p : code.Process) (n : ℕ) (f : typed.Function) (from : Option ℕ)
    (here : slice_get p.frame.code p.frame.pc ≡ Some (Return from)) (row : RowStands m n f p.frame.pc (Return from)) where
  -- what the frame that waits gets
  abbrev pub answer_of : Value
  answer_of = fitted m.adts p.frame.answer (given p.frame.slots from)

  returns : (w : Shared) → (sides m).program.step w p ≡ code.returns m.adts w p p.below (given p.frame.slots from)
  returns w = ap (code.next frames_limit (program m) w p) here ∙ go from
    where
      go : (o : Option ℕ) → code.does frames_limit (program m) w p (Return o) ≡ code.returns m.adts w p p.below (given p.frame.slots o)
      go None = refl
      go (Some s) = refl

  module _ (a : Answer) (j : ℕ) (q : Process) (k : Facts) (w : Shared) (x : World) (on : On m k i x a n f j p q) (hold : HoldTheSame m k i x p q)
      (worlds : (sides m).worlds k w x) (is : slice_get (code_of (site_of m n f p.frame.pc row.at) (Return from)) j ≡ Some ret)
      (t : WaitsOn m k i x a p q) where
    pub goes_back : (k' : Facts) → (sides m).changes (Only i) k k' x x → (sides m).worlds k' w x → (grows : Grows k k')
        → (kept : (s c : ℕ) → Has (t.waits.is.words.own s) c → Free k' c)
        → Answers m k k' i x a t.above t.frame p.frame.answer q.frame t.waits grows kept answer_of
        → AllWait m k' i x Awaited t.above.answer t.frame t.others t.frames → Once m b i p q k w x
    goes_back k' changes after grows kept stands rest =
        goes_both m b i p n f (Return from) row k k' w w x x q hold worlds changes after
        (code.with_frames p (code.answered t.above answer_of) t.others) (with_frames q t.frame t.frames q.made)
        (steps_obey.does frames_limit (object_of m ∷ []) x q (object_of m) ret (Went x (with_frames q t.frame t.frames q.made))
        (reaches_first m b i p n f (Return from) row a j q k w x on hold worlds ret is)
        (control_goes.ret frames_limit (object_of m) x q ret t.frame t.frames refl t.beneath))
        (returns w ∙ ap (λ gs. code.returns m.adts w p gs (given p.frame.slots from)) t.below)
        (ready_back m k k' i x a t.above t.frame p.frame.answer q.frame t.waits grows kept answer_of stands p q t.others t.frames on.process on.none_made
        rest)
