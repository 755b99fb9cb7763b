-- What `sys->print` asks of the outside, and what the replies to it come to (Inferno manual, sys-print(2), sys-read(2)).
use Rattle.std.specs.Prelude.{ℕ, zero, suc, pos, negsuc, ◌+◌, List, [], ◌∷◌, ◌++◌, length, take, drop, encode_utf8_all, nat_lt, if◌then◌else◌}
use Rattle.styx_msg.specs.Styx.{spelling, t_row}
use Rattle.styx_msg.specs.declared.message.Tmsg.TheVariants as t
use Rattle.styx_msg.specs.declared.message.Rmsg.{Rmsg}
use Rattle.styx_msg.specs.declared.message.Rmsg.TheVariants as r
use Rattle.system_model.specs.Values.{Value, int_of}
use Rattle.system_model.specs.World.{World, free_tag, begin_wait, end_wait, wrote}

-- A request: the link that it goes over, and the bytes of its message.
pub record Request : Type 0 where
  pub link : ℕ
  pub frame : List ℕ

-- The most bytes that one request carries.
abbrev pub longest_piece : ℕ
longest_piece = 8192

-- A print that waits for a reply: its request's tag, how many bytes the requests before it wrote, how many this one is to write,
-- and the bytes behind those.
pub record Writing : Type 0 where
  pub tag : ℕ
  pub written : ℕ
  pub asked : ℕ
  pub left : List ℕ

-- What a print comes to: it answers, asks, or is given a reply that is none to its request.
pub data Printing : Type 0 where
  Answers : World → Value → Printing
  Requests : World → Request → Writing → Printing
  NoReply : Printing

-- The Twrite of these bytes to the output, where it stands, with this tag.
abbrev pub twrite : World → ℕ → List ℕ → Request
twrite w tag bytes = record {
  link = 1;
  frame = spelling tag (t_row (t.Write w.files.output.fid w.files.output.offset bytes));
}

-- The first piece of these bytes is asked for, under the smallest free tag.
abbrev pub ask_piece : World → (written : ℕ) → List ℕ → Printing
ask_piece w written bytes =
    let tag = free_tag w.links.console in
    let piece = take longest_piece bytes in
    Requests (begin_wait tag w) (twrite w tag piece)
    (record { tag = tag; written = written; asked = length piece; left = drop longest_piece bytes })

-- A print of this text: an empty one asks nothing and answers 0.
abbrev pub print : World → List ℕ → Printing
print w [] = Answers w (int_of (pos 0))
print w (c ∷ cs) = ask_piece w 0 (encode_utf8_all (c ∷ cs))

-- So many bytes of the piece were written. Where that was all of it and more is left, the next piece is asked for; else the print
-- answers how many bytes were written.
abbrev pub go_on : World → (total : ℕ) → List ℕ → Printing
go_on w total [] = Answers w (int_of (pos total))
go_on w total (b ∷ bs) = ask_piece w total (b ∷ bs)

abbrev pub took : World → Writing → (count : ℕ) → Printing
took w k count =
    if nat_lt count k.asked then Answers w (int_of (pos (k.written + count)))
    else go_on w (k.written + count) k.left

-- A piece was refused: the print answers -1 where it was the first, and else how many bytes were written before it.
abbrev pub refused : World → (written : ℕ) → Printing
refused w zero = Answers w (int_of (negsuc 0))
refused w (suc n) = Answers w (int_of (pos (suc n)))

-- The reply to a print's request: an Rwrite of at most the bytes that were asked, or an Rerror. Its tag is free then, before the
-- next piece is asked for. No other reply is one to this request.
abbrev pub hear : Rmsg → World → Writing → Printing
hear (r.Write count) w k =
    if nat_lt k.asked count then NoReply else took (wrote count (end_wait k.tag w)) k count
hear (r.Error ename) w k = refused (end_wait k.tag w) k.written
hear _ w k = NoReply
