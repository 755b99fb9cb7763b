-- Reading fields from left to right: a value and the bytes after it, or None where the bytes don't begin with one.
use Rattle.std.specs.Prelude.{ℕ, zero, suc, ◌+◌, List, [], ◌∷◌, length, take, drop, Option, Some, None, nat_lt}
use Rattle.std.specs.Prelude.{◌==◌, if◌then◌else◌, find}
use Rattle.std.specs.Str.{chars, is_utf8}
use Rattle.byteorder.specs.Endian.{little_number}
use Rattle.inf_text.specs.Options.{◌>>=◌}
use Rattle.styx_msg.specs.declared.message.Qid.{Qid}
use Rattle.styx_msg.specs.declared.message.Stat.{Stat}
use Rattle.styx_msg.specs.declared.message.Tmsg.{Tmsg}
use Rattle.styx_msg.specs.declared.message.Tmsg.TheVariants as t
use Rattle.styx_msg.specs.declared.message.Rmsg.{Rmsg}
use Rattle.styx_msg.specs.declared.message.Rmsg.TheVariants as r
use Rattle.styx_decoding.specs.declared.kind.TKind.{TKind}
use Rattle.styx_decoding.specs.declared.kind.TKind.TheVariants as tk
use Rattle.styx_decoding.specs.declared.kind.RKind.{RKind}
use Rattle.styx_decoding.specs.declared.kind.RKind.TheVariants as rk

-- What a reader of fields gives.
abbrev pub Read : Type 0 → Type 0
Read A = Option (A × List ℕ)

-- The number in the first bytes, the lowest byte first.
abbrev pub number_at : ℕ → List ℕ → Read ℕ
number_at width bytes =
    if nat_lt (length bytes) width then None else Some (little_number width bytes, drop width bytes)

-- The characters that the bytes spell, where they are well-formed UTF-8 (RFC 3629).
unfoldable pub characters : List ℕ → Option (List ℕ)
characters bytes = if is_utf8 bytes then Some (chars bytes) else None

-- The characters behind the length of their UTF-8 in two bytes.
unfoldable pub text_at : List ℕ → Read (List ℕ)
text_at bytes = do
  n ← number_at 2 bytes
  if nat_lt (length n.1) n.0 then None else (do
    cs ← characters (take n.0 n.1)
    Some (cs, drop n.0 n.1))

unfoldable pub qid_at : List ℕ → Read Qid
qid_at bytes = do
  kind ← number_at 1 bytes
  vers ← number_at 4 kind.1
  path ← number_at 8 vers.1
  Some (record { kind = kind.0; vers = vers.0; path = path.0 }, path.1)

-- So many items, one after the other.
unfoldable pub items_at : {A : Type 0} → (List ℕ → Read A) → ℕ → List ℕ → Read (List A)
items_at item_at zero bytes = Some ([], bytes)
items_at item_at (suc n) bytes = do
  first ← item_at bytes
  others ← items_at item_at n first.1
  Some (first.0 ∷ others.0, others.1)

-- The names or qids of a walk behind their count in two bytes: at most 16.
unfoldable pub walk_at : {A : Type 0} → (List ℕ → Read A) → List ℕ → Read (List A)
walk_at item_at bytes = do
  n ← number_at 2 bytes
  if nat_lt 16 n.0 then None else items_at item_at n.0 n.1

-- Bytes behind their count in four bytes.
unfoldable pub counted_at : List ℕ → Read (List ℕ)
counted_at bytes = do
  n ← number_at 4 bytes
  if nat_lt (length n.1) n.0 then None else Some (take n.0 n.1, drop n.0 n.1)

-- An entry's fields without the sizes before them.
unfoldable pub entry_fields_at : List ℕ → Read Stat
entry_fields_at bytes = do
  kind ← number_at 2 bytes
  dev ← number_at 4 kind.1
  qid ← qid_at dev.1
  mode ← number_at 4 qid.1
  atime ← number_at 4 mode.1
  mtime ← number_at 4 atime.1
  len ← number_at 8 mtime.1
  name ← text_at len.1
  uid ← text_at name.1
  gid ← text_at uid.1
  muid ← text_at gid.1
  Some (
    record {
      kind = kind.0;
      dev = dev.0;
      qid = qid.0;
      mode = mode.0;
      atime = atime.0;
      mtime = mtime.0;
      length = len.0;
      name = name.0;
      uid = uid.0;
      gid = gid.0;
      muid = muid.0;
    },
    muid.1,
  )

-- An entry behind both its sizes. Its fields take all of its bytes.
unfoldable pub entry_at : List ℕ → Read Stat
entry_at bytes = do
  whole ← number_at 2 bytes
  size ← number_at 2 whole.1
  if whole.0 == size.0 + 2 then (if nat_lt (length size.1) size.0 then None else (do
    s ← entry_fields_at (take size.0 size.1)
    if length s.1 == 0 then Some (s.0, drop size.0 size.1) else None)) else None

-- The number of a request's type.
abbrev pub t_number : TKind → ℕ
t_number tk.Version = 100
t_number tk.Auth = 102
t_number tk.Attach = 104
t_number tk.Flush = 108
t_number tk.Walk = 110
t_number tk.Open = 112
t_number tk.Create = 114
t_number tk.Read = 116
t_number tk.Write = 118
t_number tk.Clunk = 120
t_number tk.Remove = 122
t_number tk.Stat = 124
t_number tk.Wstat = 126

-- The types of requests.
abbrev pub t_kinds : List TKind
t_kinds =
    tk.Version ∷ tk.Auth ∷ tk.Attach ∷ tk.Flush ∷ tk.Walk ∷ tk.Open ∷ tk.Create ∷ tk.Read
    ∷ tk.Write ∷ tk.Clunk ∷ tk.Remove ∷ tk.Stat ∷ tk.Wstat ∷ []

-- The request's type that has this number.
unfoldable pub t_kind_of : ℕ → Option TKind
t_kind_of n = find (λ k. t_number k == n) t_kinds

-- The request of a type whose body the bytes begin with.
abbrev pub t_body_at : TKind → List ℕ → Read Tmsg
t_body_at tk.Version bytes = do
  msize ← number_at 4 bytes
  version ← text_at msize.1
  Some (t.Version msize.0 version.0, version.1)
t_body_at tk.Auth bytes = do
  afid ← number_at 4 bytes
  uname ← text_at afid.1
  aname ← text_at uname.1
  Some (t.Auth afid.0 uname.0 aname.0, aname.1)
t_body_at tk.Attach bytes = do
  fid ← number_at 4 bytes
  afid ← number_at 4 fid.1
  uname ← text_at afid.1
  aname ← text_at uname.1
  Some (t.Attach fid.0 afid.0 uname.0 aname.0, aname.1)
t_body_at tk.Flush bytes = do
  oldtag ← number_at 2 bytes
  Some (t.Flush oldtag.0, oldtag.1)
t_body_at tk.Walk bytes = do
  fid ← number_at 4 bytes
  newfid ← number_at 4 fid.1
  wname ← walk_at text_at newfid.1
  Some (t.Walk fid.0 newfid.0 wname.0, wname.1)
t_body_at tk.Open bytes = do
  fid ← number_at 4 bytes
  mode ← number_at 1 fid.1
  Some (t.Open fid.0 mode.0, mode.1)
t_body_at tk.Create bytes = do
  fid ← number_at 4 bytes
  name ← text_at fid.1
  perm ← number_at 4 name.1
  mode ← number_at 1 perm.1
  Some (t.Create fid.0 name.0 perm.0 mode.0, mode.1)
t_body_at tk.Read bytes = do
  fid ← number_at 4 bytes
  offset ← number_at 8 fid.1
  count ← number_at 4 offset.1
  Some (t.Read fid.0 offset.0 count.0, count.1)
t_body_at tk.Write bytes = do
  fid ← number_at 4 bytes
  offset ← number_at 8 fid.1
  piece ← counted_at offset.1
  Some (t.Write fid.0 offset.0 piece.0, piece.1)
t_body_at tk.Clunk bytes = do
  fid ← number_at 4 bytes
  Some (t.Clunk fid.0, fid.1)
t_body_at tk.Remove bytes = do
  fid ← number_at 4 bytes
  Some (t.Remove fid.0, fid.1)
t_body_at tk.Stat bytes = do
  fid ← number_at 4 bytes
  Some (t.Stat fid.0, fid.1)
t_body_at tk.Wstat bytes = do
  fid ← number_at 4 bytes
  stat ← entry_at fid.1
  Some (t.Wstat fid.0 stat.0, stat.1)

-- The number of a reply's type.
abbrev pub r_number : RKind → ℕ
r_number rk.Version = 101
r_number rk.Auth = 103
r_number rk.Attach = 105
r_number rk.Error = 107
r_number rk.Flush = 109
r_number rk.Walk = 111
r_number rk.Open = 113
r_number rk.Create = 115
r_number rk.Read = 117
r_number rk.Write = 119
r_number rk.Clunk = 121
r_number rk.Remove = 123
r_number rk.Stat = 125
r_number rk.Wstat = 127

-- The types of replies.
abbrev pub r_kinds : List RKind
r_kinds =
    rk.Version ∷ rk.Auth ∷ rk.Attach ∷ rk.Error ∷ rk.Flush ∷ rk.Walk ∷ rk.Open ∷ rk.Create
    ∷ rk.Read ∷ rk.Write ∷ rk.Clunk ∷ rk.Remove ∷ rk.Stat ∷ rk.Wstat ∷ []

-- The reply's type that has this number.
unfoldable pub r_kind_of : ℕ → Option RKind
r_kind_of n = find (λ k. r_number k == n) r_kinds

-- The reply of a type whose body the bytes begin with.
abbrev pub r_body_at : RKind → List ℕ → Read Rmsg
r_body_at rk.Version bytes = do
  msize ← number_at 4 bytes
  version ← text_at msize.1
  Some (r.Version msize.0 version.0, version.1)
r_body_at rk.Auth bytes = do
  aqid ← qid_at bytes
  Some (r.Auth aqid.0, aqid.1)
r_body_at rk.Attach bytes = do
  qid ← qid_at bytes
  Some (r.Attach qid.0, qid.1)
r_body_at rk.Error bytes = do
  ename ← text_at bytes
  Some (r.Error ename.0, ename.1)
r_body_at rk.Flush bytes = Some (r.Flush, bytes)
r_body_at rk.Walk bytes = do
  wqid ← walk_at qid_at bytes
  Some (r.Walk wqid.0, wqid.1)
r_body_at rk.Open bytes = do
  qid ← qid_at bytes
  iounit ← number_at 4 qid.1
  Some (r.Open qid.0 iounit.0, iounit.1)
r_body_at rk.Create bytes = do
  qid ← qid_at bytes
  iounit ← number_at 4 qid.1
  Some (r.Create qid.0 iounit.0, iounit.1)
r_body_at rk.Read bytes = do
  piece ← counted_at bytes
  Some (r.Read piece.0, piece.1)
r_body_at rk.Write bytes = do
  count ← number_at 4 bytes
  Some (r.Write count.0, count.1)
r_body_at rk.Clunk bytes = Some (r.Clunk, bytes)
r_body_at rk.Remove bytes = Some (r.Remove, bytes)
r_body_at rk.Stat bytes = do
  stat ← entry_at bytes
  Some (r.Stat stat.0, stat.1)
r_body_at rk.Wstat bytes = Some (r.Wstat, bytes)
