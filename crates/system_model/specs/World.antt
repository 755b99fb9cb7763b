-- The outside, as all processes share it: open files, and links to servers.
use Rattle.std.specs.Prelude.{ℕ, zero, suc, ◌+◌, ◌-◌, ◌^◌, min, Bool, false, List, [], ◌∷◌, length, ◌==◌, ◌||◌, if◌then◌else◌}

-- An open file: its fid, and where in it the next byte goes.
pub record File : Type 0 where
  pub fid : ℕ
  pub offset : ℕ

-- The open files: so far the output.
pub record Files : Type 0 where
  pub output : File

-- A link to a server: the tags of the requests that wait for their replies.
pub record Link : Type 0 where
  pub waiting : List ℕ

-- The links: so far link 1, to the console.
pub record Links : Type 0 where
  pub console : Link

pub record World : Type 0 where
  pub files : Files
  pub links : Links

-- When a program begins: the output is fid 2 of the console, and nothing was asked.
abbrev pub opening_world : World
opening_world = record {
  files = record { output = record { fid = 2; offset = 0 } };
  links = record { console = record { waiting = [] } };
}

abbrev pub is_among : ℕ → List ℕ → Bool
is_among n [] = false
is_among n (m ∷ ms) = (n == m) || is_among n ms

-- The least number from n on that isn't among these, found by so many tries.
abbrev pub least_from : (tries n : ℕ) → List ℕ → ℕ
least_from zero n taken = n
least_from (suc k) n taken = if is_among n taken then least_from k (suc n) taken else n

-- The smallest free tag.
abbrev pub free_tag : Link → ℕ
free_tag l = least_from (length l.waiting) 0 l.waiting

abbrev pub without : ℕ → List ℕ → List ℕ
without n [] = []
without n (m ∷ ms) = if n == m then without n ms else m ∷ without n ms

-- A request waits on the console's link under this tag.
abbrev pub begin_wait : ℕ → World → World
begin_wait tag w = record w { links = record { console = record { waiting = tag ∷ w.links.console.waiting } } }

-- Its reply is there, and the tag is free again.
abbrev pub end_wait : ℕ → World → World
end_wait tag w = record w { links = record { console = record { waiting = without tag w.links.console.waiting } } }

-- An offset stands still at the greatest number of 64 bits.
abbrev pub last_offset : ℕ
last_offset = 2 ^ 64 - 1

-- So many bytes more were written to the output.
abbrev pub wrote : ℕ → World → World
wrote n w = record w { files = record { output = record { fid = w.files.output.fid; offset = min (w.files.output.offset + n) last_offset } } }
