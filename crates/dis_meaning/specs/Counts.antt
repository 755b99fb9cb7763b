-- How many references to a block there are: over the data of instances, and over the frames of each process, also those that are made. A
-- frame refers to the instance that it runs in.
use Rattle.std.specs.Prelude.{ℕ, ◌+◌, List, [], ◌∷◌, Some, nat_eq, if◌then◌else◌}
use Rattle.dis_meaning.specs.Words.{Word, Refer}
use Rattle.dis_meaning.specs.World.{Content, Instance, World}
use Rattle.dis_meaning.specs.Process.{Frame, Process}

-- An address is no reference.
abbrev pub refers : (serial : ℕ) → Word → ℕ
refers n (Refer (Some m)) = if nat_eq m n then 1 else 0
refers n _ = 0

abbrev pub in_words : (serial : ℕ) → List Word → ℕ
in_words n [] = 0
in_words n (w ∷ ws) = refers n w + in_words n ws

abbrev pub in_content : (serial : ℕ) → Content → ℕ
in_content n (Instance object ws) = in_words n ws
in_content n _ = 0

abbrev pub in_blocks : (serial : ℕ) → List Content → ℕ
in_blocks n [] = 0
in_blocks n (c ∷ cs) = in_content n c + in_blocks n cs

abbrev pub in_frame : (serial : ℕ) → Frame → ℕ
in_frame n f = (if nat_eq f.instance n then 1 else 0) + in_words n f.words

abbrev pub in_frames : (serial : ℕ) → List Frame → ℕ
in_frames n [] = 0
in_frames n (f ∷ fs) = in_frame n f + in_frames n fs

abbrev pub in_process : (serial : ℕ) → Process → ℕ
in_process n p = in_frames n (p.frame ∷ p.below) + in_frames n p.made

abbrev pub in_processes : (serial : ℕ) → List Process → ℕ
in_processes n [] = 0
in_processes n (p ∷ ps) = in_process n p + in_processes n ps

abbrev pub count : World → List Process → (serial : ℕ) → ℕ
count x ps n = in_blocks n x.blocks + in_processes n ps
