-- What a process has as its own: records that it made for its frames, which stand for nothing. So they are as they were where other
-- processes step, as long as they are there.
use Rattle.std.proofs.Common.{◌≡◌, ℕ, ◌<◌, List, Option, None, inl, inr, sym, subst, arith}
use Rattle.heap_model.specs.Heap.{at}
use Rattle.heap_model.specs.Facts.{Fact, IsFree}
use Rattle.heap_model.specs.Worlds.{Leaves}
use Rattle.limbo_types.specs.Types.{Ty}
use Rattle.limbo_typed.specs.Typed as typed
use Rattle.core_code.specs.Machine as code
use Rattle.dis_meaning.specs.Process.{Frame, Process}
use Rattle.dis_memory.specs.Blocks.{Block, World}
use Rattle.value_words.specs.Facts.{Facts}
use Rattle.value_frames.specs.Frames.{Form, Nowhere, AsNumber, AsReference, Boxed, form_of}
use Rattle.value_frames.specs.Slots.{IsKept}
use Rattle.value_frames.proofs.Later.{frames_later}
use Rattle.value_follows.specs.Stands.{types_of, Answer, FrameIs, AnswerGoes, AllWait, none_waits, waits_below, Stands, Asking}
use Rattle.value_follows.specs.Kept.{FrameOwns, IsAnswerBox, WaitingOwn, OwnedIn, OwnedAsking, IsMine}

module _ (m : typed.Module) (k : Facts) (i : ℕ) (x : World) where
  abbrev Mine : (serial b : ℕ) → Type 0
  Mine serial b = IsMine m k i x serial b

  pub frame_owned : {busy : List ℕ} {g : code.Frame} {f : Frame} (is : FrameIs m k i x busy g f) (b : ℕ) → FrameOwns m k i x is b
      → Mine f.serial b
  frame_owned {busy = busy} {g = g} {f = f} is b (s, h) =
      let l = frames_later m.adts k x.heap f.serial busy (types_of m is.function) is.known g.variables g.slots f.words is.words in
      let o = l.owned s b h in
      record { there = o.1; free = o.0; made = is.mine s b h; formed = o.2 }

  box_owned : (a : Answer) (form : Form) (t : Ty) (f : Frame) (types : List Ty) (into : ℕ) (callee : Frame) (own : ℕ → List ℕ)
      (goes : AnswerGoes m k i x a form t f types into callee own) (b : ℕ) → IsAnswerBox m k i x a form t f types into callee own goes b
      → Mine f.serial b
  box_owned a Nowhere t f types into callee own goes b h = absurd h
  box_owned a AsNumber t f types into callee own goes b h = absurd h
  box_owned a AsReference t f types into callee own goes b h = absurd h
  box_owned a Boxed t f types into callee own (q, inner, is, word, made, apart, fills) b h =
      subst (λ (n : ℕ). Mine f.serial n) h (record { there = (inner, is.there); free = is.free; made = made; formed = is.formed })

  pub waiting_owned : {a : Answer} {t : Ty} {callee : Frame} {gs : List code.Frame} {fs : List Frame}
      (ws : AllWait m k i x a t callee gs fs) (b : ℕ) → WaitingOwn m k i x ws b → (serial : ℕ) × (serial < callee.serial) × Mine serial b
  waiting_owned (none_waits a callee) b h = absurd h
  waiting_owned (waits_below a t callee g f gs fs w ws) b (inl h) = (f.serial, w.older, frame_owned w.is b h)
  waiting_owned (waits_below a t callee g f gs fs w ws) b (inr (inl h)) =
      (f.serial, w.older, box_owned a (form_of t) t f (types_of m w.is.function) g.into callee w.is.words.own w.answer b h)
  waiting_owned (waits_below a t callee g f gs fs w ws) b (inr (inr h)) =
      let o = waiting_owned ws b h in
      let older = w.older in
      let below = o.1 in
      (o.0, omega (arith, older, below), o.2)

  -- ---- while others step

  module _ (k' : Facts) (x' : World) (left : Leaves i k k' x.heap x'.heap) where
    mine_kept : (serial b : ℕ) → Mine serial b → (at x'.heap b ≡ None → ⊥) → IsKept k' x.heap x'.heap b
    mine_kept serial b mine there = elim (left.free b mine.free mine.made) [
      | inl w ↦ (subst (λ (o : Option (Fact Block)). IsFree o) (sym w.0) mine.free, w.1)
      | inr w ↦ absurd (there w.1)
    ]

    waiting_kept : {a : Answer} {t : Ty} {callee : Frame} {gs : List code.Frame} {fs : List Frame}
        (ws : AllWait m k i x a t callee gs fs) (b : ℕ) → WaitingOwn m k i x ws b → (at x'.heap b ≡ None → ⊥) → IsKept k' x.heap x'.heap b
    waiting_kept ws b h there = let o = waiting_owned ws b h in mine_kept o.0 b o.2 there

    pub stands_kept : {busy : List ℕ} {a : Answer} {p : code.Process} {q : Process} (s : Stands m k i x busy a p q) (b : ℕ)
        → OwnedIn m k i x s b → (at x'.heap b ≡ None → ⊥) → IsKept k' x.heap x'.heap b
    stands_kept {q = q} s b (inl h) there = mine_kept q.frame.serial b (frame_owned s.is b h) there
    stands_kept s b (inr h) there = waiting_kept s.waits b h there

    pub asking_kept : {p : code.Process} {q : Process} (a : Asking m k i x p q) (b : ℕ) → OwnedAsking m k i x a b
        → (at x'.heap b ≡ None → ⊥) → IsKept k' x.heap x'.heap b
    asking_kept {q = q} a b (inl h) there = mine_kept q.frame.serial b (frame_owned a.is b h) there
    asking_kept a b (inr h) there = waiting_kept a.waits b h there
