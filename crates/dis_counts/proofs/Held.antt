-- What a process holds, it reaches.
use Rattle.std.proofs.Common.{ℕ, List, [], ◌∷◌, inl, inr}
use Rattle.dis_meaning.specs.Words.{Word, Plain, Refer, Address}
use Rattle.dis_meaning.specs.Places.{all_frames}
use Rattle.dis_meaning.specs.Process.{Frame, Process}
use Rattle.dis_memory.specs.Blocks.{World, words_in}
use Rattle.dis_memory.specs.Laws.{Leads, SomeLeads, FrameLeads, FramesLead, Reaches, own, on}
use Rattle.dis_memory.specs.Sound.{Refers, SomeRefers, FrameRefers, FramesRefer}
use Rattle.dis_counts.specs.References.{Holds, in_frames, in_block, GetsHeld}

word_leads : (w : Word) (n : ℕ) → Refers w n → Leads w n
word_leads (Refer s) n r = r
word_leads (Plain z) n r = r
word_leads (Address place k) n r = absurd r

pub words_lead : (ws : List Word) (n : ℕ) → SomeRefers ws n → SomeLeads ws n
words_lead [] n r = r
words_lead (w ∷ ws) n (inl r) = inl (word_leads w n r)
words_lead (w ∷ ws) n (inr r) = inr (words_lead ws n r)

frame_leads : (f : Frame) (n : ℕ) → FrameRefers f n → FrameLeads f n
frame_leads f n (inl r) = inl r
frame_leads f n (inr r) = inr (words_lead f.words n r)

frames_lead : (fs : List Frame) (n : ℕ) → FramesRefer fs n → FramesLead fs n
frames_lead [] n r = r
frames_lead (f ∷ fs) n (inl r) = inl (frame_leads f n r)
frames_lead (f ∷ fs) n (inr r) = inr (frames_lead fs n r)

pub held_reached : (x : World) (p : Process) (n : ℕ) → Holds x p n → Reaches x p n
held_reached x p n (in_frames r) = own n (frames_lead (all_frames p) n r)
held_reached x p n (in_block m b r there s) = on m n b r there (words_lead (words_in b) n s)

-- As a process begins.
pub as_it_is : (x : World) (p : Process) → GetsHeld x p x p
as_it_is x p = record { blocks = λ m n b there r. inr there; frames = λ n r. inl (in_frames r) }
