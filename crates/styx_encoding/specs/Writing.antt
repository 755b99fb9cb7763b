-- Writing fields behind what is written already, or None where one is too long.
use Rattle.std.specs.Prelude.{ℕ, ◌+◌, List, [], ◌∷◌, ◌++◌, length, Option, Some, None, nat_lt, if◌then◌else◌}
use Rattle.std.specs.Prelude.{encode_utf8_all}
use Rattle.std.specs.List.{flat_map}
use Rattle.byteorder.specs.Endian.{little_bytes}
use Rattle.styx_msg.specs.declared.message.Qid.{Qid}
use Rattle.styx_msg.specs.declared.message.Stat.{Stat}
use Rattle.inf_text.specs.Options.{◌>>=◌}
use Rattle.styx_msg.specs.Styx.{Field, number, size, text, qid, names, qids, counted, qid_bytes, entry_fields}

-- How many bytes the UTF-8 of a text takes, of at most 65,535.
unfoldable pub text_size : List ℕ → Option ℕ
text_size chars =
    if nat_lt 65535 (length (encode_utf8_all chars)) then None else Some (length (encode_utf8_all chars))

unfoldable pub put_text : List ℕ → List ℕ → Option (List ℕ)
put_text out chars = do
  n ← text_size chars
  Some ((out ++ little_bytes 2 n) ++ encode_utf8_all chars)

unfoldable pub put_each : List ℕ → List (List ℕ) → Option (List ℕ)
put_each out [] = Some out
put_each out (n ∷ ns) = do
  after ← put_text out n
  put_each after ns

unfoldable pub put_names : List ℕ → List (List ℕ) → Option (List ℕ)
put_names out ns = if nat_lt 16 (length ns) then None else put_each (out ++ little_bytes 2 (length ns)) ns

unfoldable pub put_qids : List ℕ → List Qid → Option (List ℕ)
put_qids out qs =
    if nat_lt 16 (length qs) then None else Some ((out ++ little_bytes 2 (length qs)) ++ flat_map qid_bytes qs)

-- A piece longer than any message is refused before its count is written.
unfoldable pub put_counted : List ℕ → List ℕ → Option (List ℕ)
put_counted out piece =
    if nat_lt 8216 (length piece) then None else Some ((out ++ little_bytes 4 (length piece)) ++ piece)

abbrev pub put : List ℕ → Field → Option (List ℕ)
put out (number width n) = Some (out ++ little_bytes width n)
put out (size n) = if nat_lt 65535 n then None else Some (out ++ little_bytes 2 n)
put out (text chars) = put_text out chars
put out (qid q) = Some (out ++ qid_bytes q)
put out (names ns) = put_names out ns
put out (qids qs) = put_qids out qs
put out (counted piece) = put_counted out piece

-- One field after the other.
abbrev pub put_all : List ℕ → List Field → Option (List ℕ)
put_all out [] = Some out
put_all out (field ∷ fields) = do
  after ← put out field
  put_all after fields

-- How many bytes an entry's fields take.
unfoldable pub entry_size : Stat → Option ℕ
entry_size s = do
  name ← text_size s.name
  uid ← text_size s.uid
  gid ← text_size s.gid
  muid ← text_size s.muid
  Some (47 + name + uid + gid + muid)

-- An entry behind both its sizes.
unfoldable pub put_entry : List ℕ → Stat → Option (List ℕ)
put_entry out s = do
  n ← entry_size s
  if nat_lt 65535 (n + 2) then None
      else put_all ((out ++ little_bytes 2 (n + 2)) ++ little_bytes 2 n) (entry_fields s)
