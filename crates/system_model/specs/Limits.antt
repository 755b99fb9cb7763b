-- Limits of a process.
use Rattle.std.specs.Prelude.{ℕ}

-- How many frames a process may have.
abbrev pub frames_limit : ℕ
frames_limit = 10000
