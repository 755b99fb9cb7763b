-- The text of a function's type, from which its signature comes.
use Rattle.std.specs.Prelude.{◌≡◌, ℕ, suc, Bool, ◌==◌, if◌then◌else◌, List, [], ◌∷◌, ◌++◌, map, Option, None, Some, option_map}
use Rattle.std.specs.Prelude.{slice_index_or, codes, encode_utf8_all}
use Rattle.std.specs.List.{flat_map}
use Rattle.std.specs.Fmt.{decimal}
use Rattle.limbo_types.specs.Types.{Ty, Tys, FnTy, Byte, Int, Big, Chars, Nothing, Nil, ArrayOf, ListOf, ChanOf, Tuple, Adt, RefAdt}
use Rattle.limbo_types.specs.Types.{RefPick, Module, NoTys, MoreTys}
use Rattle.limbo_layout.specs.Adts.{Field, Variant, Def}

-- What a text is put together from, from left to right: letters in UTF-8, and adts by their numbers.
pub data Piece : Type 0 where
  Letter : (byte : ℕ) → Piece
  Whole : (adt : ℕ) → Piece

abbrev pub letters : List ℕ → List Piece
letters bytes = map Letter bytes

abbrev pub word : List ℕ → List Piece
word name = letters (encode_utf8_all name)

-- what stands behind the first: each behind a comma
abbrev pub after_commas : List (List Piece) → List Piece
after_commas ps = flat_map (λ p. Letter 44 ∷ p) ps

abbrev pub with_commas : List (List Piece) → List Piece
with_commas [] = []
with_commas (p ∷ ps) = p ++ after_commas ps

-- the name of a module type, by its number
abbrev pub name_at : List (List ℕ) → ℕ → List ℕ
name_at modules n = slice_index_or modules n []

-- A type's pieces, by its form. `N` stands for a `nil` that is still open, which no function has that a source declares.
abbrev mutual
  pub pieces : (modules : List (List ℕ)) → Ty → List Piece
  pieces modules Byte = letters (codes "b")
  pieces modules Int = letters (codes "i")
  pieces modules Big = letters (codes "B")
  pieces modules Chars = letters (codes "s")
  pieces modules Nothing = letters (codes "n")
  pieces modules Nil = letters (codes "N")
  pieces modules (ArrayOf t) = letters (codes "A") ++ pieces modules t
  pieces modules (ListOf t) = letters (codes "L") ++ pieces modules t
  pieces modules (ChanOf t) = letters (codes "C") ++ pieces modules t
  pieces modules (Tuple ts) = letters (codes "(") ++ (with_commas (all_pieces modules ts) ++ letters (codes ")"))
  pieces modules (Adt n) = Whole n ∷ []
  pieces modules (RefAdt n) = letters (codes "R") ++ (Whole n ∷ [])
  pieces modules (RefPick n v) = letters (codes "V") ++ (letters (decimal v) ++ (letters (codes ";") ++ (Whole n ∷ [])))
  pieces modules (Module n) = letters (codes "M") ++ (word (name_at modules n) ++ letters (codes ";"))

  pub all_pieces : (modules : List (List ℕ)) → Tys → List (List Piece)
  all_pieces modules NoTys = []
  all_pieces modules (MoreTys t ts) = pieces modules t ∷ all_pieces modules ts

-- `name:type;`
abbrev pub field_pieces : (modules : List (List ℕ)) → Field → List Piece
field_pieces modules f = word f.name ++ (letters (codes ":") ++ (pieces modules f.ty ++ letters (codes ";")))

abbrev pub fields_pieces : (modules : List (List ℕ)) → List Field → List Piece
fields_pieces modules fs = flat_map (field_pieces modules) fs

-- `|name{`, its fields, `}`
abbrev pub variant_pieces : (modules : List (List ℕ)) → Variant → List Piece
variant_pieces modules v =
    letters (codes "|") ++ (word v.name ++ (letters (codes "{") ++ (fields_pieces modules v.fields ++ letters (codes "}"))))

abbrev pub variants_pieces : (modules : List (List ℕ)) → List Variant → List Piece
variants_pieces modules vs = flat_map (variant_pieces modules) vs

-- `a{`, the common fields, the variants, `}`
abbrev pub adt_pieces : (modules : List (List ℕ)) → Def → List Piece
adt_pieces modules d =
    letters (codes "a{") ++ (fields_pieces modules d.fields ++ (variants_pieces modules d.picks ++ letters (codes "}")))

-- `f(`, the types of the arguments, `)`, the type of the answer
abbrev pub fn_pieces : (modules : List (List ℕ)) → FnTy → List Piece
fn_pieces modules f =
    letters (codes "f(") ++ (with_commas (map (pieces modules) f.args) ++ (letters (codes ")") ++ pieces modules f.answer))

-- an adt by its number; one that isn't there has no fields
abbrev pub adt_at : List Def → ℕ → Def
adt_at defs n = slice_index_or defs n (record { name = []; fields = []; picks = [] })

-- the place of the first that passes a test
abbrev pub place : {A : Type 0} → (A → Bool) → List A → Option ℕ
place test [] = None
place test (x ∷ xs) = if test x then Some 0 else option_map suc (place test xs)

-- the number under which an adt was opened, if it was: its place among those that were
abbrev pub opened_as : (opened : List ℕ) → ℕ → Option ℕ
opened_as opened n = place (λ m. m == n) opened

-- `@`, that number, `;`
abbrev pub repeated : ℕ → List ℕ
repeated k = codes "@" ++ (decimal k ++ codes ";")

-- The text that pieces spell, where these adts were opened before, in their order. An adt is opened where it is met for the first
-- time: its own pieces stand in its place. Wherever it is met again, its number stands for it.
pub data Spells (defs : List Def) (modules : List (List ℕ)) : (opened : List ℕ) → List Piece → List ℕ → Type 0 where
  ends : (opened : List ℕ) → Spells defs modules opened [] []
  writes : (opened : List ℕ) (c : ℕ) (ps : List Piece) (text : List ℕ) →
      Spells defs modules opened ps text → Spells defs modules opened (Letter c ∷ ps) (c ∷ text)
  opens : (opened : List ℕ) (n : ℕ) (ps : List Piece) (text : List ℕ) → opened_as opened n ≡ None →
      Spells defs modules (opened ++ (n ∷ [])) (adt_pieces modules (adt_at defs n) ++ ps) text →
      Spells defs modules opened (Whole n ∷ ps) text
  repeats : (opened : List ℕ) (n k : ℕ) (ps : List Piece) (text : List ℕ) → opened_as opened n ≡ Some k →
      Spells defs modules opened ps text → Spells defs modules opened (Whole n ∷ ps) (repeated k ++ text)

-- the text of a function's type
abbrev pub IsText : List Def → (modules : List (List ℕ)) → FnTy → List ℕ → Type 0
IsText defs modules f text = Spells defs modules [] (fn_pieces modules f) text
