-- What a process reaches after an instruction, it reached before, or it made it.
use Rattle.std.proofs.Common.{◌≡◌, ℕ, List, [], ◌∷◌, ◌++◌, ◌⊎◌, inl, inr, subst, sym, ◌∙◌, arith}
use Rattle.std.specs.Prelude.{Some, None}
use Rattle.process_model.specs.Process.{Went, Parks, Polls, Spawns, Asks, Ends}
use Rattle.heap_model.specs.Heap.{at}
use Rattle.heap_model.proofs.Heap.{beyond}
use Rattle.dis_meaning.specs.Words.{Word}
use Rattle.dis_meaning.specs.Places.{all_frames}
use Rattle.dis_meaning.specs.Process.{Frame, Process}
use Rattle.dis_memory.specs.Blocks.{Block, World, next_serial, words_in}
use Rattle.dis_memory.specs.Laws.{Leads, SomeLeads, FramesLead, Reaches, own, on}
use Rattle.dis_memory.specs.Process.{Does}
use Rattle.dis_memory.specs.Step.{step}
use Rattle.dis_counts.specs.Reach.{ReachesNoMoreBy, NothingElseIsReached}
use Rattle.dis_counts.proofs.Words.{AllOk}
use Rattle.dis_counts.proofs.Stores.{FramesOk, all_ok, Left, Allowed}
use Rattle.dis_counts.proofs.Storing.{LeftBy, step_stores}

first_frames : (fs gs : List Frame) (n : ℕ) → FramesLead fs n → FramesLead (fs ++ gs) n
first_frames [] gs n r = absurd r
first_frames (f ∷ fs) gs n (inl r) = inl r
first_frames (f ∷ fs) gs n (inr r) = inr (first_frames fs gs n r)

last_frames : (fs gs : List Frame) (n : ℕ) → FramesLead gs n → FramesLead (fs ++ gs) n
last_frames [] gs n r = r
last_frames (f ∷ fs) gs n r = inr (last_frames fs gs n r)

module _ (x : World) (p : Process) where
  abbrev Known : ℕ → Type 0
  Known n = Reaches x p n ⊎ (n ≡ next_serial x)

  -- Words that lead to what the process reached or makes.
  abbrev Ok : Word → Type 0
  Ok w = (n : ℕ) → Leads w n → Known n

  words_ok : (ws : List Word) → ((n : ℕ) → SomeLeads ws n → Reaches x p n) → AllOk Ok ws
  words_ok [] h = tt
  words_ok (w ∷ ws) h = (λ n r. inl (h n (inl r)), words_ok ws (λ n r. h n (inr r)))

  frames_ok : (fs : List Frame) → ((n : ℕ) → FramesLead fs n → Reaches x p n) → FramesOk Ok fs
  frames_ok [] h = tt
  frames_ok (f ∷ fs) h = (
    (λ n r. inl (h n (inl (inl (let z : f.instance ≡ n = cc in z)))), words_ok f.words (λ n r. h n (inl (inr r)))),
    frames_ok fs (λ n r. h n (inr r)),
  )

  allowed : Allowed Ok x p
  allowed = record {
    plain = λ z n r. absurd r;
    nil = λ n r. absurd cc;
    new = λ n r. inr (let z : n ≡ next_serial x = cc in z);
    frame_address = λ s k n r. absurd r;
    block_address = λ m k reach n r. inl (subst (Reaches x p) r reach);
    process = record {
      frame = (frames_ok (p.frame ∷ []) (λ n. elim [ inl r ↦ own n (inl r) | inr r ↦ absurd r ])).0;
      below = frames_ok p.below (λ n r. own n (inr (first_frames p.below p.made n r)));
      made = frames_ok p.made (λ n r. own n (inr (last_frames p.below p.made n r)));
    };
    blocks = λ m b reach there. words_ok (words_in b) (λ n r. on m n b reach there r);
  }

  words_known : (ws : List Word) (n : ℕ) → AllOk Ok ws → SomeLeads ws n → Known n
  words_known [] n all r = absurd r
  words_known (w ∷ ws) n all (inl r) = all.0 n r
  words_known (w ∷ ws) n all (inr r) = words_known ws n all.1 r

  frames_known : (fs : List Frame) (n : ℕ) → FramesOk Ok fs → FramesLead fs n → Known n
  frames_known [] n all r = absurd r
  frames_known (f ∷ fs) n all (inl (inl r)) = all.0.0 n (let z : Some f.instance ≡ Some n = cc in z)
  frames_known (f ∷ fs) n all (inl (inr r)) = words_known f.words n all.0.1 r
  frames_known (f ∷ fs) n all (inr r) = frames_known fs n all.1 r

  none_new : (m : ℕ) (b : Block) → m ≡ next_serial x → at x.heap m ≡ Some b → ⊥
  none_new m b e there = let z : None ≡ Some b = sym (beyond x.heap m (omega (arith, e))) ∙ there in absurd cc

  module _ (y : World) (q : Process) (l : Left Ok x y q) where
    through : (m n : ℕ) (b : Block) → Known m → at x.heap m ≡ Some b → SomeLeads (words_in b) n → Known n
    through m n b (inl r) was s = inl (on m n b r was s)
    through m n b (inr e) was s = absurd (none_new m b e was)

    known : (n : ℕ) → Reaches y q n → Known n
    known n (own m r) = frames_known (all_frames q) m (all_ok Ok q l.process) r
    known n (on m k b r there s) = elim (l.blocks m b there) [
      | inl all ↦ words_known (words_in b) k all s
      | inr was ↦ through m k b (known m r) was s
    ]

  no_more_by : (e : Does) → LeftBy Ok x e → ReachesNoMoreBy x p e
  no_more_by (Went y q) l = known y q l
  no_more_by (Parks y bs q) l = known y q l
  no_more_by (Polls y bs q r) l = (known y q l.0, known y r l.1)
  no_more_by (Spawns y child q) l = (known y child l.0, known y q l.1)
  no_more_by (Asks y m q) l = known y q l
  no_more_by (Ends y how) l = tt

pub nothing_else_is_reached : NothingElseIsReached
nothing_else_is_reached limit objects x p = no_more_by x p (step limit objects x p) (step_stores (Ok x p) x p (allowed x p) limit objects)
