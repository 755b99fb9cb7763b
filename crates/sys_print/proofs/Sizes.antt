-- A request of a print is short enough for a message.
use Rattle.std.proofs.Common.{◌≡◌, ℕ, ◌≤◌, List, [], ◌++◌, length, ap, append-nil, arith, refl, Err}
use Rattle.styx_msg.specs.declared.fault.StyxFault.{StyxFault}
use Rattle.styx_msg.specs.declared.fault.StyxFault.TheVariants.{NoMemory, BadSize, BadType, BadBody, TooLong}
use Rattle.styx_msg.specs.declared.message.Tmsg.TheVariants as t
use Rattle.styx_msg.specs.Styx.{Row, t_row, IsShortEnough}
use Rattle.styx_msg.specs.Answers.{IsEncoding}

pub short_write : (fid offset : ℕ) (piece : List ℕ) → length piece ≤ 8192 → IsShortEnough (t_row (t.Write fid offset piece))
short_write fid offset piece few =
    let bare : length (piece ++ []) ≡ length piece = ap length (append-nil piece) in
    ((tt, (tt, (tt, tt))), omega (arith, bare))

pub only_memory : (tag : ℕ) (m : Row) (fault : StyxFault) → IsShortEnough m → IsEncoding tag m (Err fault) → fault ≡ NoMemory
only_memory tag m NoMemory short h = refl
only_memory tag m BadSize short h = absurd h
only_memory tag m BadType short h = absurd h
only_memory tag m BadBody short h = absurd h
only_memory tag m TooLong short h = absurd (h short)
