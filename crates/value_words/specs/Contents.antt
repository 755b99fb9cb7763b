-- What stands in a byte of memory; memory that is as it is made; and where the words that refer lie in a value.
use Rattle.std.specs.Prelude.{ℕ, ℤ, ◌+◌, ◌≡◌, ◌<◌, ◌≤◌, ◌⊎◌, ◌%◌, ◌/◌, List, [], ◌∷◌, ◌++◌, map, Option, None, Some}
use Rattle.std.specs.Int.{next_multiple_of}
use Rattle.std.specs.Prelude.{slice_get, slice_index}
use Rattle.limbo_types.specs.Types as ty
use Rattle.limbo_types.specs.Types.{Ty, Tys}
use Rattle.limbo_layout.specs.Adts.{Def, Has, parts, listed}
use Rattle.limbo_layout.specs.Layout.{Room, nothing, behind, AllLaid}
use Rattle.limbo_values.specs.declared.number.Kind.TheVariants as kind
use Rattle.limbo_values.specs.Numbers.{InRange}
use Rattle.dis_meaning.specs.Words.{Word, Plain, Refer, Address}
use Rattle.dis_meaning.specs.Numbers.{bytes_of}
use Rattle.value_words.specs.Stands.{IsReference}

-- ---- bytes

-- A byte of a number, or one of the four of a reference.
pub data Content : Type 0 where
  Byte : ℕ → Content
  Reference : Option ℕ → (within : ℕ) → Content

abbrev pub content_of : Word → (within : ℕ) → Content
content_of (Plain z) k = Byte (slice_index (bytes_of z) k)
content_of (Refer r) k = Reference r k
content_of (Address place at) k = Byte 0

abbrev pub content_in : Option Word → (within : ℕ) → Option Content
content_in None k = None
content_in (Some w) k = Some (content_of w k)

abbrev pub content : List Word → (byte : ℕ) → Option Content
content words n = content_in (slice_get words (n / 4)) (n % 4)

-- So many bytes from one on are the same as those from another on.
abbrev pub SameBytes : List Word → (at : ℕ) → List Word → (there size : ℕ) → Type 0
SameBytes words at others there size = (o : ℕ) → o < size → content others (there + o) ≡ content words (at + o)

-- Numbers in words are of 32 bits.
abbrev pub AreInRange : List Word → Type 0
AreInRange words = (k : ℕ) (z : ℤ) → slice_get words k ≡ Some (Plain z) → InRange kind.Int z

-- A byte of a word that refers.
abbrev pub IsOfReference : Room → (byte : ℕ) → Type 0
IsOfReference r o = (p : ℕ) × Has r.references p × (p ≤ o) × (o < p + 4)

-- Memory as it is made for a value, from a byte on: at the offsets of what refers a reference to nothing; else zeros.
pub record AreBlank (words : List Word) (at : ℕ) (r : Room) : Type 0 where
  pub refer : (o : ℕ) → Has r.references o → slice_get words ((at + o) / 4) ≡ Some (Refer None)
  pub zeros : (o : ℕ) → o < r.size → (content words (at + o) ≡ Some (Byte 0)) ⊎ IsOfReference r o

-- ---- references

-- The offsets of the words that name a value of the source's heap, in order. Those of strings aren't among them.
mutual
  pub data NamesAt (defs : List Def) : Ty → List ℕ → Type 0 where
    one_name : (t : Ty) → IsReference t → NamesAt defs t (0 ∷ [])
    of_array : (t : Ty) → NamesAt defs (ty.ArrayOf t) (0 ∷ [])
    of_byte : NamesAt defs ty.Byte []
    of_int : NamesAt defs ty.Int []
    of_big : NamesAt defs ty.Big []
    of_text : NamesAt defs ty.Chars []
    of_nothing : NamesAt defs ty.Nothing []
    of_tuple : (ts : Tys) (rs : List Room) (os : List ℕ) → AllLaid defs (listed ts) rs → AllNamesAt defs nothing (listed ts) rs os
        → NamesAt defs (ty.Tuple ts) os
    of_adt : (n : ℕ) (d : Def) (rs : List Room) (os : List ℕ) → slice_get defs n ≡ Some d → AllLaid defs (parts d) rs
        → AllNamesAt defs nothing (parts d) rs os → NamesAt defs (ty.Adt n) os

  pub data AllNamesAt (defs : List Def) : (before : Room) → List Ty → List Room → List ℕ → Type 0 where
    none_names : (w : Room) → AllNamesAt defs w [] [] []
    more_names : (w : Room) (t : Ty) (ts : List Ty) (r : Room) (rs : List Room) (os more : List ℕ) → NamesAt defs t os
        → AllNamesAt defs (behind w r) ts rs more
        → AllNamesAt defs w (t ∷ ts) (r ∷ rs) (map (λ o. next_multiple_of w.size r.align + o) os ++ more)
