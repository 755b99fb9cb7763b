-- Words and bytes that are copied from one place to another.
use Rattle.std.specs.Prelude.{ℕ, zero, suc, ◌/◌, ◌%◌, ℤ, pos, negsuc, Bool, ◌==◌, ◌&&◌, List, [], ◌∷◌, slice_get, if◌then◌else◌}
use Rattle.dis_file.specs.declared.types.TypeDesc.{TypeDesc}
use Rattle.dis_file.specs.References.{marks}
use Rattle.limbo_values.specs.declared.number.Kind.TheVariants.{Byte}
use Rattle.dis_meaning.specs.Words.{Word, Refer, Access, Found, Wrong, ◌>>=◌, type_check, or_wrong, plain, reference, replaced}
use Rattle.dis_meaning.specs.Numbers.{number_at, with_number_at}

-- ---- words

-- So many words of a list, from one on, each of which is as it has to be.
abbrev pub taken_by : (ℕ → Word → Access Word) → List Word → (from count : ℕ) → Access (List Word)
taken_by kind words from zero = Found []
taken_by kind words from (suc n) =
    or_wrong type_check (slice_get words from) >>= λ w.
    kind from w >>= λ v.
    taken_by kind words (suc from) n >>= λ vs.
    Found (v ∷ vs)

-- Whatever they are; plain ones; such as a type marks them, which begins at a word.
abbrev pub taken : List Word → (from count : ℕ) → Access (List Word)
taken words from count = taken_by (λ k w. Found w) words from count

abbrev pub plain_words : List Word → (from count : ℕ) → Access (List Word)
plain_words words from count = taken_by (λ k w. plain w) words from count

abbrev pub referring : Word → Access Word
referring w = reference w >>= λ r. Found (Refer r)

abbrev pub as_marked : Bool → Word → Access Word
as_marked b w = if b then referring w else plain w

abbrev pub typed_from : TypeDesc → (word : ℕ) → List Word → (from count : ℕ) → Access (List Word)
typed_from desc k words from zero = Found []
typed_from desc k words from (suc n) =
    or_wrong type_check (slice_get words from) >>= as_marked (marks desc.map k) >>= λ v.
    typed_from desc (suc k) words (suc from) n >>= λ vs.
    Found (v ∷ vs)

-- The words of a value of a type.
abbrev pub typed_words : TypeDesc → List Word → (from : ℕ) → Access (List Word)
typed_words desc words from = typed_from desc 0 words from (desc.size / 4)

-- These words in place of those from one on, each of the kind of the one that stood there.
abbrev pub put : List Word → (from : ℕ) → List Word → Access (List Word)
put words from [] = Found words
put words from (v ∷ vs) = replaced words from v >>= λ after. put after (suc from) vs

-- ---- bytes

-- So many bytes, from one on, and bytes in place of those from one on.
abbrev pub byte_of : ℤ → Access ℕ
byte_of (pos b) = Found b
byte_of (negsuc b) = Wrong type_check

abbrev pub bytes_from : List Word → (from count : ℕ) → Access (List ℕ)
bytes_from words from zero = Found []
bytes_from words from (suc n) =
    number_at Byte words (pos from) >>= byte_of >>= λ b. bytes_from words (suc from) n >>= λ bs. Found (b ∷ bs)

abbrev pub put_bytes : List Word → (from : ℕ) → List ℕ → Access (List Word)
put_bytes words from [] = Found words
put_bytes words from (b ∷ bs) = with_number_at Byte words (pos from) (pos b) >>= λ after. put_bytes after (suc from) bs

-- A whole number of words.
abbrev pub is_whole : ℕ → Bool
is_whole n = n % 4 == 0

-- So many bytes of plain words, from one on, over those of other words from one on. Whole words go as they are, with the addresses that
-- stand in them; of others each byte goes.
abbrev pub moved : (source : List Word) → (from : ℕ) → (target : List Word) → (to count : ℕ) → Access (List Word)
moved source from target to count =
    if is_whole from && is_whole to && is_whole count
    then plain_words source (from / 4) (count / 4) >>= put target (to / 4)
    else bytes_from source from count >>= put_bytes target to
