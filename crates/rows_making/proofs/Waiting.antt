-- Two that stand for one another do so where the heap has changed, if no block has that a frame has as its own which waits. (As
-- `value_follows` has it, where all blocks are kept that aren't the running frame's own: here one may change that no frame owns.)
use Rattle.std.proofs.Common.{◌≡◌, ℕ, pos, ◌<◌, ◌≤◌, List, [], ◌∷◌, length, Option, Some, refl, ◌∙◌, subst, arith}
use Rattle.heap_model.specs.Facts.{Free}
use Rattle.limbo_types.specs.Types.{Ty}
use Rattle.limbo_layout.specs.Adts.{Def, Has}
use Rattle.limbo_typed.specs.Typed as typed
use Rattle.limbo_meaning.specs.Values.{Value}
use Rattle.core_code.specs.Machine as code
use Rattle.core_code.specs.Slots as core
use Rattle.core_typing.specs.Held as held
use Rattle.dis_meaning.specs.Words.{Word, word_at}
use Rattle.dis_meaning.specs.Process.{Frame, Process}
use Rattle.dis_memory.specs.Blocks.{World}
use Rattle.value_words.specs.Forms.{OwnedBy}
use Rattle.value_words.specs.Facts.{Facts, Grows}
use Rattle.value_frames.specs.Frames as frames
use Rattle.value_frames.specs.Frames.{Nowhere, AsNumber, AsReference, Boxed, form_of, answer_place, reference_place, box_bytes, room_for}
use Rattle.value_frames.specs.Standing.{IsIdle, nothing_there, text_left, carrier_left, RefersIdly, WordsAre}
use Rattle.value_frames.specs.Slots.{IsKept}
use Rattle.value_frames.specs.Later.{FrameLater, AreMadeBy}
use Rattle.value_frames.proofs.Later.{frames_later}
use Rattle.value_follows.specs.Stands.{types_of, GoesOn, Answer, Awaited, Referred, Filled, FrameIs, RefersSo, AnswerGoes, AllWait}
use Rattle.value_follows.specs.Stands.{none_waits, waits_below, Stands}
use Rattle.value_follows.proofs.Standing.{all_wait, moved_on, on_slots, StandsOn}

module _ (defs : List Def) (k k' : Facts) (grows : Grows k k') where
  idle_later : (r : Option ℕ) → IsIdle defs k r → IsIdle defs k' r
  idle_later _ nothing_there = nothing_there
  idle_later _ (text_left b text e) = text_left b text (grows.facts b _ e)
  idle_later _ (carrier_left b d e texts) = carrier_left b d (grows.facts b _ e) (λ q h. let t = texts q h in (t.0, grows.facts q _ t.1))

  idly_later : (words : List Word) (place : ℕ) → RefersIdly defs k words place → RefersIdly defs k' words place
  idly_later words place h = (h.0, h.1, idle_later h.0 h.2)

-- All free blocks that this process made for frames older than that of one serial are as they were.
module _ (m : typed.Module) (k k' : Facts) (i : ℕ) (x x' : World) (changed : ℕ) (grows : Grows k k') (more : x.outside.frames ≤ x'.outside.frames)
    (keeps : (b : ℕ) → Free k b → k.maker b ≡ Some i → (s : ℕ) → k.form b ≡ Some (OwnedBy s) → s < changed → IsKept k' x.heap x'.heap b) where
  module _ (busy : List ℕ) (g : code.Frame) (f : Frame) (older : f.serial < changed) (is : FrameIs m k i x busy g f) where
    later : FrameLater m.adts k x.heap f.serial busy (types_of m is.function) is.known g.variables g.slots f.words is.words
    later = frames_later m.adts k x.heap f.serial busy (types_of m is.function) is.known g.variables g.slots f.words is.words

    words_after : (after : WordsAre m.adts k' x'.heap f.serial busy (types_of m is.function) is.known g.variables g.slots f.words) × (after.own ≡ is.words.own)
    words_after = later.later k' x'.heap grows (λ s b h.
        let owned = later.owned s b h in
        keeps b owned.0 (is.mine s b h) f.serial owned.2 older)

    abbrev frame_after : FrameIs m k' i x' busy g f
    frame_after = record {
      number = is.number;
      function = is.function;
      there = is.there;
      code = is.code;
      answer = is.answer;
      many = is.many;
      instance = grows.facts f.instance _ is.instance;
      formed = grows.forms f.instance _ is.formed;
      known = is.known;
      words = words_after.0;
      mine = λ s b h. grows.makers b i (is.mine s b (subst (λ (o : ℕ → List ℕ). Has (o s) b) words_after.1 h));
      fresh = let l = is.fresh in omega (arith, l, more);
    }

  refers_later : (a : Answer) (words : List Word) (place : ℕ) → RefersSo m k i x a words place → RefersSo m k' i x' a words place
  refers_later Awaited words place h = idly_later m.adts k k' grows words place h
  refers_later (Referred r) words place h = h
  refers_later (Filled inner) words place h = idly_later m.adts k k' grows words place h

  answer_later : (a : Answer) (form : frames.Form) (t : Ty) (f : Frame) (types : List Ty) (into : ℕ) (callee : Frame) (own after : ℕ → List ℕ)
      → f.serial < changed → after ≡ own → AnswerGoes m k i x a form t f types into callee own
      → AnswerGoes m k' i x' a form t f types into callee after
  answer_later a Nowhere t f types into callee own after l e goes = idly_later m.adts k k' grows f.words (reference_place m.adts types into) goes
  answer_later a AsNumber t f types into callee own after l e goes =
      (idly_later m.adts k k' grows f.words (reference_place m.adts types into) goes.0, goes.1)
  answer_later a AsReference t f types into callee own after l e goes =
      (refers_later a f.words (reference_place m.adts types into) goes.0, goes.1)
  answer_later a Boxed t f types into callee own after l e goes =
      let box = goes.2 in
      let kept = keeps goes.0 box.free goes.4 f.serial box.formed l in (
        goes.0,
        goes.1,
        record { word = box.word; there = kept.1 ∙ box.there; free = kept.0; formed = grows.forms goes.0 _ box.formed; kind = box.kind },
        goes.3,
        grows.makers goes.0 i goes.4,
        λ s h. goes.5 s (subst (λ (o : ℕ → List ℕ). Has (o s) goes.0) e h),
        goes.6,
      )

  all_wait_later : (a : Answer) (t : Ty) (callee : Frame) (gs : List code.Frame) (fs : List Frame) → callee.serial ≤ changed
      → AllWait m k i x a t callee gs fs → AllWait m k' i x' a t callee gs fs
  all_wait_later _ _ _ _ _ l (none_waits a callee) = none_waits a callee
  all_wait_later _ _ _ _ _ l (waits_below a t callee g f gs fs w rest) =
      let less : f.serial < changed = let o = w.older in omega (arith, l, o) in
      waits_below a t callee g f gs fs (record {
        is = frame_after (g.into ∷ []) g f less w.is;
        goes = w.goes;
        pc = w.pc;
        spare = w.spare;
        answer = answer_later a (form_of t) t f (types_of m w.is.function) g.into callee w.is.words.own _ less
            (words_after (g.into ∷ []) g f less w.is).1 w.answer;
        older = w.older;
        unnamed = w.unnamed;
      }) (all_wait_later Awaited g.answer f gs fs (omega (arith, less)) rest)

-- ---- two that stand for one another do so where the heap has changed, with other variables, slots and words

module _ (m : typed.Module) (k k' : Facts) (i : ℕ) (x x' : World) (busy : List ℕ) (a : Answer) (p : code.Process) (q : Process) (s : Stands m k i x busy a p q)
    (grows : Grows k k') (more : x.outside.frames ≤ x'.outside.frames)
    (keeps : (b : ℕ) → Free k b → k.maker b ≡ Some i → (s : ℕ) → k.form b ≡ Some (OwnedBy s) → s < q.frame.serial → IsKept k' x.heap x'.heap b) where
  pub stands_anew : (busy' : List ℕ) (pc to : ℕ) (known : held.Slots) (vs : List Value) (slots : core.Slots) (words : List Word) (made : List Frame)
      → length slots ≡ length p.frame.slots
      → (are : WordsAre m.adts k' x'.heap q.frame.serial busy' (types_of m s.is.function) known vs slots words)
      → AreMadeBy k' i are.own → GoesOn m s.is.function pc known
      → word_at words (pos answer_place) ≡ word_at q.frame.words (pos answer_place)
      → StandsOn m k i x busy a p q s k' x' busy' known are.own (on_slots m k i x busy a p q s pc vs slots) (moved_on m k i x busy a p q s to words made)
  stands_anew busy' pc to known vs slots words made long are mine goes answer =
      let is = s.is in
      let callee = (moved_on m k i x busy a p q s to words made).frame in
      record {
        stands = record {
          number = s.number;
          is = record {
            number = is.number;
            function = is.function;
            there = is.there;
            code = is.code;
            answer = is.answer;
            many = long ∙ is.many;
            instance = grows.facts q.frame.instance _ is.instance;
            formed = grows.forms q.frame.instance _ is.formed;
            known = known;
            words = are;
            mine = mine;
            fresh = let l = is.fresh in omega (arith, l, more);
          };
          goes = goes;
          waits = all_wait m k' i x' a p.frame.answer q.frame callee p.below q.below refl answer
              (all_wait_later m k k' i x x' q.frame.serial grows more keeps a p.frame.answer q.frame p.below q.below (omega arith) s.waits);
        };
        number = refl;
        function = refl;
        known = refl;
        own = refl;
      }
