-- What a machine begins with that gets words: the list of them is made behind the blocks of the items, the last word first, since a cell is
-- younger than the list that it is put in front of; and the second parameter of the first function refers to it.
use Rattle.std.specs.Prelude.{ℕ, suc, pos, ◌≡◌, List, [], ◌∷◌, Option, None, Some}
use Rattle.dis_file.specs.declared.object.Object.{Object}
use Rattle.dis_meaning.specs.Words.{Word, Refer, Access, Found, ◌>>=◌, stored, blank}
use Rattle.dis_meaning.specs.Opening.{entered}
use Rattle.dis_memory.specs.Blocks.{Text, Cell, World, with_block, next_serial}
use Rattle.dis_memory.specs.Operands.{type_of}
use Rattle.dis_counts.specs.Opening.{Opened, loading, instance_of, with_items, opens, opened}

-- A list of words that is made: the world with it, and what refers to it.
pub record Listed : Type 0 where
  pub world : World
  pub list : Option ℕ

-- A word in front of it gets a text, and behind that the cell, which is the list's first.
abbrev pub with_word : List ℕ → Listed → Listed
with_word w l = record {
  world = with_block (with_block l.world (Text w)) (Cell (Refer (Some (next_serial l.world)) ∷ []) l.list);
  list = Some (suc (next_serial l.world));
}

abbrev pub listed : World → (words : List (List ℕ)) → Listed
listed x [] = record { world = x; list = None }
listed x (w ∷ ws) = with_word w (listed x ws)

-- Behind the linkage the first function has a word for its first parameter, and then one for the list.
abbrev pub list_place : ℕ
list_place = 36

-- The first frame's words with the list, if there is one.
abbrev pub with_words : List Word → Option ℕ → Access (List Word)
with_words words None = Found words
with_words words (Some r) = stored words (pos list_place) (Refer (Some r))

abbrev pub opened_with : Object → (words : List (List ℕ)) → Access Opened
opened_with o ws =
    type_of o 0 >>= λ type.
    type_of o o.entry_type >>= λ frame_type.
    with_items o (loading (instance_of type) (record { serial = 0; from = 0 }) []) o.items >>= λ l.
    with_words (blank frame_type) (listed l.world ws).list >>= λ words.
    Found (opens (listed l.world ws).world (entered o words))

-- One that gets none begins as it does otherwise.
abbrev pub WithoutWords : Type 0
WithoutWords = (o : Object) → opened_with o [] ≡ opened o
