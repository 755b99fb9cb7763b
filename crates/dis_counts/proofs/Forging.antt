-- References come of references that a process holds, and of the block that it makes.
use Rattle.std.proofs.Common.{◌≡◌, ℕ, List, [], ◌∷◌, inl, inr}
use Rattle.std.specs.Prelude.{Some}
use Rattle.process_model.specs.Process.{Went, Parks, Polls, Spawns, Asks, Ends}
use Rattle.dis_meaning.specs.Words.{Word}
use Rattle.dis_meaning.specs.Places.{all_frames}
use Rattle.dis_meaning.specs.Process.{Frame, Process}
use Rattle.dis_memory.specs.Blocks.{World, next_serial, words_in}
use Rattle.dis_memory.specs.Process.{Does}
use Rattle.dis_memory.specs.Step.{step}
use Rattle.dis_memory.specs.Sound.{Refers, SomeRefers, FramesRefer}
use Rattle.dis_counts.specs.References.{Holds, in_frames, in_block, Gets, BlocksGet, GetsHeld, GetsHeldBy, NoReferenceIsForged}
use Rattle.dis_counts.proofs.Named.{first_refer, last_refer}
use Rattle.dis_counts.proofs.Words.{AllOk}
use Rattle.dis_counts.proofs.Stores.{FramesOk, all_ok, BlocksOk, Left, Allowed}
use Rattle.dis_counts.proofs.Storing.{LeftBy, step_stores}

module _ (x : World) (p : Process) where
  -- Words that refer to what the process held or makes.
  abbrev Ok : Word → Type 0
  Ok w = (n : ℕ) → Refers w n → Gets x p n

  words_ok : (ws : List Word) → ((n : ℕ) → SomeRefers ws n → Holds x p n) → AllOk Ok ws
  words_ok [] h = tt
  words_ok (w ∷ ws) h = (λ n r. inl (h n (inl r)), words_ok ws (λ n r. h n (inr r)))

  frames_ok : (fs : List Frame) → ((n : ℕ) → FramesRefer fs n → Holds x p n) → FramesOk Ok fs
  frames_ok [] h = tt
  frames_ok (f ∷ fs) h = (
    (λ n r. inl (h n (inl (inl (let z : f.instance ≡ n = cc in z)))), words_ok f.words (λ n r. h n (inl (inr r)))),
    frames_ok fs (λ n r. h n (inr r)),
  )

  allowed : Allowed Ok x p
  allowed = record {
    plain = λ z n r. absurd r;
    nil = λ n r. absurd cc;
    new = λ n r. inr (let z : n ≡ next_serial x = cc in z);
    frame_address = λ s k n r. absurd r;
    block_address = λ m k reach n r. absurd r;
    process = record {
      frame = (frames_ok (p.frame ∷ []) (λ n. elim [ inl r ↦ in_frames (inl r) | inr r ↦ absurd r ])).0;
      below = frames_ok p.below (λ n r. in_frames (inr (first_refer n p.below p.made r)));
      made = frames_ok p.made (λ n r. in_frames (inr (last_refer n p.below p.made r)));
    };
    blocks = λ m b reach there. words_ok (words_in b) (λ n r. in_block m b reach there r);
  }

  word_gets : (ws : List Word) (n : ℕ) → AllOk Ok ws → SomeRefers ws n → Gets x p n
  word_gets [] n all r = absurd r
  word_gets (w ∷ ws) n all (inl r) = all.0 n r
  word_gets (w ∷ ws) n all (inr r) = word_gets ws n all.1 r

  frames_get : (fs : List Frame) (n : ℕ) → FramesOk Ok fs → FramesRefer fs n → Gets x p n
  frames_get [] n all r = absurd r
  frames_get (f ∷ fs) n all (inl (inl r)) = all.0.0 n (let z : Some f.instance ≡ Some n = cc in z)
  frames_get (f ∷ fs) n all (inl (inr r)) = word_gets f.words n all.0.1 r
  frames_get (f ∷ fs) n all (inr r) = frames_get fs n all.1 r

  blocks_get : (y : World) → BlocksOk Ok x y → BlocksGet x p y
  blocks_get y ok m n b there r = elim (ok m b there) [ inl all ↦ inl (word_gets (words_in b) n all r) | inr was ↦ inr was ]

  gets : (y : World) (q : Process) → Left Ok x y q → GetsHeld x p y q
  gets y q l = record { blocks = blocks_get y l.blocks; frames = λ n r. frames_get (all_frames q) n (all_ok Ok q l.process) r }

  gets_by : (e : Does) → LeftBy Ok x e → GetsHeldBy x p e
  gets_by (Went y q) l = gets y q l
  gets_by (Parks y bs q) l = gets y q l
  gets_by (Polls y bs q r) l = (gets y q l.0, gets y r l.1)
  gets_by (Spawns y child q) l = (gets y child l.0, gets y q l.1)
  gets_by (Asks y m q) l = gets y q l
  gets_by (Ends y how) l = blocks_get y l

pub no_reference_is_forged : NoReferenceIsForged
no_reference_is_forged limit objects x p = gets_by x p (step limit objects x p) (step_stores (Ok x p) x p (allowed x p) limit objects)
