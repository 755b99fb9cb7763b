-- The console (Inferno manual, cons): a write to its file `cons` goes to the output's sink whole.
use Rattle.std.specs.Prelude.{◌≡◌, ◌<◌, ◌^◌, ◌==◌, ℕ, List, [], ◌∷◌, ◌++◌, length, take, Bool, true, false, Option}
use Rattle.std.specs.Prelude.{Some, None, if◌then◌else◌, MatchOption, IfSome, codes, ◌≤◌, encode_utf8_all}
use Rattle.styx_msg.specs.declared.message.Tmsg.{Tmsg}
use Rattle.styx_msg.specs.declared.message.Tmsg.TheVariants as t
use Rattle.styx_msg.specs.declared.message.Rmsg.{Rmsg}
use Rattle.styx_msg.specs.declared.message.Rmsg.TheVariants as r
use Rattle.styx_msg.specs.Styx.{t_row, r_row, spelling}

-- The piece that a request writes to the output: that of a Twrite of the fid 2.
abbrev pub output_of : Tmsg → Option (List ℕ)
output_of (t.Write fid offset piece) = if fid == 2 then Some piece else None
output_of _ = None

-- A write of a piece, from where the sink is whole, or has failed: what it answers, the bytes that the sink takes, and
-- whether the sink has failed then. It is taken whole and answered by its count; or the sink fails with a first part of
-- it taken, and from then on each write is answered `i/o error` and nothing is taken.
abbrev pub Writes : Bool → List ℕ → Rmsg → List ℕ → Bool → Type 0
Writes false piece (r.Write count) bytes failed = (count ≡ length piece) × (bytes ≡ piece) × (failed ≡ false)
Writes false piece (r.Error ename) bytes failed = (ename ≡ codes "i/o error") × ((n : ℕ) × (bytes ≡ take n piece)) × (failed ≡ true)
Writes true piece (r.Error ename) bytes failed = (ename ≡ codes "i/o error") × (bytes ≡ []) × (failed ≡ true)
Writes before piece _ bytes failed = ⊥

-- Any request: another than such a write is refused, and writes nothing.
abbrev pub Answers : Bool → Tmsg → Rmsg → List ℕ → Bool → Type 0
Answers before request reply bytes failed =
    MatchOption (output_of request) ((reply ≡ r.Error (codes "unknown fid")) × (bytes ≡ []) × (failed ≡ before))
    (λ piece. Writes before piece reply bytes failed)

-- A request and its reply as they are sent, under one tag.
pub record Exchange (before : Bool) (request reply : List ℕ) (bytes : List ℕ) (failed : Bool) : Type 0 where
  pub tag : ℕ
  pub asked : Tmsg
  pub answered : Rmsg
  pub request_is : request ≡ spelling tag (t_row asked)
  pub reply_is : reply ≡ spelling tag (r_row answered)
  pub answers : Answers before asked answered bytes failed

-- The console's replies to requests in order, the bytes that they write, and whether the sink has failed then.
abbrev pub Serves : Bool → List (List ℕ) → List (List ℕ) → List ℕ → Bool → Type 0
Serves before [] [] bytes failed = (bytes ≡ []) × (failed ≡ before)
Serves before (request ∷ requests) (reply ∷ replies) bytes failed =
    (first : List ℕ) × (between : Bool) × (rest : List ℕ) × Exchange before request reply first between
    × Serves between requests replies rest failed × (bytes ≡ first ++ rest)
Serves before _ _ bytes failed = ⊥

-- What a request writes can be counted.
abbrev pub IsSmall : Tmsg → Type 0
IsSmall request = IfSome (output_of request) (λ piece. length piece < 2 ^ 32)

-- The console's replies are short: a count, or a text.
abbrev pub IsShortReply : Rmsg → Type 0
IsShortReply (r.Write count) = Unit {0}
IsShortReply (r.Error ename) = length (encode_utf8_all ename) ≤ 255
IsShortReply _ = ⊥
