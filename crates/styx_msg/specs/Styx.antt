-- The messages of Styx (9P2000), as section 5 of the Inferno manual lays them out. All numbers are little-endian.
use Rattle.std.specs.Prelude.{◌≡◌, ◌≢◌, ◌⊎◌, ℕ, ◌+◌, ◌^◌, ◌<◌, ◌≤◌, List, [], ◌∷◌, ◌++◌, length, drop}
use Rattle.std.specs.Prelude.{slice_index, true, encode_utf8_all, ⊤}
use Rattle.std.specs.List.{flat_map, AllByRecursion}
use Rattle.std.specs.Str.{all_scalars}
use Rattle.byteorder.specs.Endian.{little_bytes, little_number}
use Rattle.styx_msg.specs.declared.message.Qid.{Qid}
use Rattle.styx_msg.specs.declared.message.Stat.{Stat}
use Rattle.styx_msg.specs.declared.message.Tmsg.{Tmsg}
use Rattle.styx_msg.specs.declared.message.Tmsg.TheVariants as t
use Rattle.styx_msg.specs.declared.message.Rmsg.{Rmsg}
use Rattle.styx_msg.specs.declared.message.Rmsg.TheVariants as r

-- A field of a body: a number of so many bytes, an entry's size, a text, a qid, the names or the qids of a walk, or
-- bytes behind their count.
pub data Field : Type 0 where
  number : (width n : ℕ) → Field
  size : (n : ℕ) → Field
  text : (chars : List ℕ) → Field
  qid : (q : Qid) → Field
  names : (ns : List (List ℕ)) → Field
  qids : (qs : List Qid) → Field
  counted : (piece : List ℕ) → Field

-- A text is the length of its UTF-8 in two bytes, and the UTF-8.
abbrev pub text_bytes : List ℕ → List ℕ
text_bytes chars = little_bytes 2 (length (encode_utf8_all chars)) ++ encode_utf8_all chars

-- A qid is its type, its version and its path: 13 bytes.
abbrev pub qid_bytes : Qid → List ℕ
qid_bytes q = little_bytes 1 q.kind ++ little_bytes 4 q.vers ++ little_bytes 8 q.path

-- The bytes that spell a field.
abbrev pub field_bytes : Field → List ℕ
field_bytes (number width n) = little_bytes width n
field_bytes (size n) = little_bytes 2 n
field_bytes (text chars) = text_bytes chars
field_bytes (qid q) = qid_bytes q
field_bytes (names ns) = little_bytes 2 (length ns) ++ flat_map text_bytes ns
field_bytes (qids qs) = little_bytes 2 (length qs) ++ flat_map qid_bytes qs
field_bytes (counted piece) = little_bytes 4 (length piece) ++ piece

-- The bytes that spell fields, one after the other.
abbrev pub fields_bytes : List Field → List ℕ
fields_bytes fields = flat_map field_bytes fields

-- An entry's fields without the sizes before them.
abbrev pub entry_fields : Stat → List Field
entry_fields s =
    number 2 s.kind ∷ number 4 s.dev ∷ qid s.qid ∷ number 4 s.mode ∷ number 4 s.atime ∷ number 4 s.mtime
    ∷ number 8 s.length ∷ text s.name ∷ text s.uid ∷ text s.gid ∷ text s.muid ∷ []

unfoldable pub entry_bytes : Stat → List ℕ
entry_bytes s = fields_bytes (entry_fields s)

-- An entry: how many bytes it takes with its own size, that size, which doesn't count itself, and its fields.
unfoldable pub entry : Stat → List Field
entry s = size (length (entry_bytes s) + 2) ∷ size (length (entry_bytes s)) ∷ entry_fields s

-- A message but for its tag: the number of its type, and the fields of its body.
pub record Row : Type 0 where
  pub type : ℕ
  pub fields : List Field

abbrev pub row : ℕ → List Field → Row
row type fields = record { type = type; fields = fields }

-- The requests.
abbrev pub t_row : Tmsg → Row
t_row (t.Version msize version) = row 100 (number 4 msize ∷ text version ∷ [])
t_row (t.Auth afid uname aname) = row 102 (number 4 afid ∷ text uname ∷ text aname ∷ [])
t_row (t.Attach fid afid uname aname) = row 104 (number 4 fid ∷ number 4 afid ∷ text uname ∷ text aname ∷ [])
t_row (t.Flush oldtag) = row 108 (number 2 oldtag ∷ [])
t_row (t.Walk fid newfid wname) = row 110 (number 4 fid ∷ number 4 newfid ∷ names wname ∷ [])
t_row (t.Open fid mode) = row 112 (number 4 fid ∷ number 1 mode ∷ [])
t_row (t.Create fid name perm mode) = row 114 (number 4 fid ∷ text name ∷ number 4 perm ∷ number 1 mode ∷ [])
t_row (t.Read fid offset count) = row 116 (number 4 fid ∷ number 8 offset ∷ number 4 count ∷ [])
t_row (t.Write fid offset piece) = row 118 (number 4 fid ∷ number 8 offset ∷ counted piece ∷ [])
t_row (t.Clunk fid) = row 120 (number 4 fid ∷ [])
t_row (t.Remove fid) = row 122 (number 4 fid ∷ [])
t_row (t.Stat fid) = row 124 (number 4 fid ∷ [])
t_row (t.Wstat fid stat) = row 126 (number 4 fid ∷ entry stat)

-- The replies. No message has the type 106.
abbrev pub r_row : Rmsg → Row
r_row (r.Version msize version) = row 101 (number 4 msize ∷ text version ∷ [])
r_row (r.Auth aqid) = row 103 (qid aqid ∷ [])
r_row (r.Attach q) = row 105 (qid q ∷ [])
r_row (r.Error ename) = row 107 (text ename ∷ [])
r_row r.Flush = row 109 []
r_row (r.Walk wqid) = row 111 (qids wqid ∷ [])
r_row (r.Open q iounit) = row 113 (qid q ∷ number 4 iounit ∷ [])
r_row (r.Create q iounit) = row 115 (qid q ∷ number 4 iounit ∷ [])
r_row (r.Read piece) = row 117 (counted piece ∷ [])
r_row (r.Write count) = row 119 (number 4 count ∷ [])
r_row r.Clunk = row 121 []
r_row r.Remove = row 123 []
r_row (r.Stat stat) = row 125 (entry stat)
r_row r.Wstat = row 127 []

-- The one spelling of a tagged message: its size, which counts itself, its type, its tag and its body.
abbrev pub spelling : ℕ → Row → List ℕ
spelling tag m =
    little_bytes 4 (7 + length (fields_bytes m.fields))
    ++ (little_bytes 1 m.type ++ (little_bytes 2 tag ++ fields_bytes m.fields))

-- A text that has a spelling: Unicode characters, of at most 65,535 bytes of UTF-8.
pub record IsText (chars : List ℕ) : Type 0 where
  pub scalars : all_scalars chars ≡ true
  pub short : length (encode_utf8_all chars) ≤ 65535

pub record IsQid (q : Qid) : Type 0 where
  pub kind : q.kind < 2 ^ 8
  pub vers : q.vers < 2 ^ 32
  pub path : q.path < 2 ^ 64

-- What a field may hold: a number or a size that its bytes can hold, a text that has a spelling, at most 16 names or
-- qids, bytes whose count four bytes can hold.
abbrev pub IsField : Field → Type 0
IsField (number width n) = n < 256 ^ width
IsField (size n) = n < 2 ^ 16
IsField (text chars) = IsText chars
IsField (qid q) = IsQid q
IsField (names ns) = (length ns ≤ 16) × AllByRecursion IsText ns
IsField (qids qs) = (length qs ≤ 16) × AllByRecursion IsQid qs
IsField (counted piece) = (length piece < 2 ^ 32) × AllByRecursion (λ b. b < 256) piece

-- What has a spelling.
pub record Fits (tag : ℕ) (m : Row) : Type 0 where
  pub type_fits : m.type < 2 ^ 8
  pub tag_fits : tag < 2 ^ 16
  pub fields_fit : AllByRecursion IsField m.fields
  pub short : length (spelling tag m) ≤ 8216

-- The bytes begin with this message under this tag, which takes so many of them.
pub record Begins {M : Type 0} (table : M → Row) (bytes : List ℕ) (tag : ℕ) (m : M) (used : ℕ) : Type 0 where
  pub fits : Fits tag (table m)
  pub used_is : used ≡ length (spelling tag (table m))
  pub spelled : bytes ≡ spelling tag (table m) ++ drop used bytes

-- The size that the first four bytes state.
abbrev pub stated_size : List ℕ → ℕ
stated_size bytes = little_number 4 bytes

-- What a message's size may be.
abbrev pub IsSize : ℕ → Type 0
IsSize n = (7 ≤ n) × (n ≤ 8216)

-- The bytes are fewer than a size takes, or than a size within the limits states.
abbrev pub IsShort : List ℕ → Type 0
IsShort bytes =
    (length bytes < 4) ⊎ ((4 ≤ length bytes) × IsSize (stated_size bytes) × (length bytes < stated_size bytes))

-- The stated size is outside the limits.
abbrev pub HasBadSize : List ℕ → Type 0
HasBadSize bytes = (4 ≤ length bytes) × (IsSize (stated_size bytes) → ⊥)

-- The bytes are as many as their size states, or more, and the size is within the limits.
abbrev pub IsFramed : List ℕ → Type 0
IsFramed bytes = (4 ≤ length bytes) × IsSize (stated_size bytes) × (stated_size bytes ≤ length bytes)

-- The number of the type, which stands behind the size.
abbrev pub stated_type : List ℕ → ℕ
stated_type bytes = slice_index bytes 4

-- No message of the direction has the type.
abbrev pub HasBadType : {M : Type 0} → (M → Row) → List ℕ → Type 0
HasBadType {M} table bytes = IsFramed bytes × ((m : M) → (table m).type ≢ stated_type bytes)

-- Some message of the direction has the type.
abbrev pub HasType : {M : Type 0} → (M → Row) → List ℕ → Type 0
HasType {M} table bytes = IsFramed bytes × ((m : M) × ((table m).type ≡ stated_type bytes))

-- The type is known, but the bytes begin with no message.
abbrev pub HasBadBody : {M : Type 0} → (M → Row) → List ℕ → Type 0
HasBadBody {M} table bytes = HasType table bytes × ((tag : ℕ) (m : M) (used : ℕ) → Begins table bytes tag m used → ⊥)

-- What keeps a field from being too long: a text has at most 65,535 bytes, a walk at most 16 names or qids.
abbrev pub IsShortField : Field → Type 0
IsShortField (number width n) = ⊤
IsShortField (size n) = ⊤
IsShortField (text chars) = length (encode_utf8_all chars) ≤ 65535
IsShortField (qid q) = ⊤
IsShortField (names ns) = (length ns ≤ 16) × AllByRecursion (λ n. length (encode_utf8_all n) ≤ 65535) ns
IsShortField (qids qs) = length qs ≤ 16
IsShortField (counted piece) = ⊤

-- The message isn't too long: no text, no walk is, and it has at most 8,216 bytes.
abbrev pub IsShortEnough : Row → Type 0
IsShortEnough m = AllByRecursion IsShortField m.fields × (7 + length (fields_bytes m.fields) ≤ 8216)
