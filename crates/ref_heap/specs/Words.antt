-- Words of memory, and what a block holds (Dis Virtual Machine Specification, "Data representations"). A reference is told by its
-- block's serial alone: where the block lies is no part of it.
use Rattle.std.specs.Prelude.{◌≡◌, ℕ, Bool, true, false, List, map, ◌++◌, slice_set, Option, Some, None, eqb, ◌⊎◌, refl}
use Rattle.std.specs.Option.{option_map}
use Rattle.std.specs.List.{count_by}
use Rattle.std.specs.Coded.{Coded, code_by, coded_ℕ, coded×, coded⊎, coded_list, coded_option}
use Rattle.std.proofs.Common.{inl, inr}
use Rattle.ref_heap.specs.declared.word.Word.{Word}
use Rattle.ref_heap.specs.declared.word.Word.TheVariants.{Plain, Refer, Address}
use Rattle.ref_heap.specs.declared.word.Place.TheVariants.{Block as InBlock, Frame}
use Rattle.ref_heap.specs.declared.word.Ref.{Ref}

-- One word: a plain number, a reference word with a block's serial or nil, or an address in a block or a frame.
pub data Cell : Type 0 where
  plain : ℕ → Cell
  refer : Option ℕ → Cell
  in_block : ℕ → ℕ → Cell
  in_frame : ℕ → ℕ → Cell

abbrev pub cell_of : Word → Cell
cell_of (Plain n) = plain n
cell_of (Refer r) = refer (option_map (λ (x : Ref). x.serial) r)
cell_of (Address (InBlock r) at) = in_block r.serial at
cell_of (Address (Frame n) at) = in_frame n at

abbrev pub is_reference : Cell → Bool
is_reference (plain v) = false
is_reference (refer r) = true
is_reference (in_block s v) = false
is_reference (in_frame s v) = false

-- The block that a word holds a reference to: an address is no reference.
abbrev pub name_of : Cell → Option ℕ
name_of (plain v) = None
name_of (refer r) = r
name_of (in_block s v) = None
name_of (in_frame s v) = None

abbrev pub is_serial : ℕ → Option ℕ → Bool
is_serial n None = false
is_serial n (Some s) = eqb s n

-- The word is a reference to block n.
abbrev pub refers : ℕ → Cell → Bool
refers n c = is_serial n (name_of c)

-- How many of these words name block n.
abbrev pub naming : List Cell → ℕ → ℕ
naming words n = count_by (refers n) words

-- What a block holds: words of any kind, or numbers alone, which are kept compactly.
pub data Content : Type 0 where
  wide : List Cell → Content
  compact : List ℕ → Content

-- A block's words. Each number of a compact block is a plain word.
abbrev pub cells : Content → List Cell
cells (wide words) = words
cells (compact numbers) = map plain numbers

abbrev pub numbers_in : Content → Option (List ℕ)
numbers_in (wide words) = None
numbers_in (compact numbers) = Some numbers

abbrev pub IsCompact : Content → Type 0
IsCompact (wide words) = ⊥
IsCompact (compact numbers) = Unit {0}

-- A compact block takes no address.
abbrev pub MayTake : Content → Cell → Type 0
MayTake (wide words) c = Unit {0}
MayTake (compact numbers) (plain v) = Unit {0}
MayTake (compact numbers) (refer r) = Unit {0}
MayTake (compact numbers) (in_block s v) = ⊥
MayTake (compact numbers) (in_frame s v) = ⊥

-- The same with another word i. A compact block has plain words alone.
abbrev pub with_cell : Content → ℕ → Cell → Content
with_cell (wide words) i c = wide (slice_set words i c)
with_cell (compact numbers) i (plain v) = compact (slice_set numbers i v)
with_cell (compact numbers) i (refer r) = compact numbers
with_cell (compact numbers) i (in_block s v) = compact numbers
with_cell (compact numbers) i (in_frame s v) = compact numbers

-- A compact block with more numbers behind its own.
abbrev pub with_more : Content → List ℕ → Content
with_more (wide words) more = wide words
with_more (compact numbers) more = compact (numbers ++ more)

abbrev pub cell_parts : Cell → ℕ ⊎ (Option ℕ ⊎ ((ℕ × ℕ) ⊎ (ℕ × ℕ)))
cell_parts (plain v) = inl v
cell_parts (refer r) = inr (inl r)
cell_parts (in_block s v) = inr (inr (inl (s, v)))
cell_parts (in_frame s v) = inr (inr (inr (s, v)))

abbrev pub cell_whole : ℕ ⊎ (Option ℕ ⊎ ((ℕ × ℕ) ⊎ (ℕ × ℕ))) → Cell
cell_whole (inl v) = plain v
cell_whole (inr (inl r)) = refer r
cell_whole (inr (inr (inl p))) = in_block p.0 p.1
cell_whole (inr (inr (inr p))) = in_frame p.0 p.1

pub cell_again : (c : Cell) → cell_whole (cell_parts c) ≡ c
cell_again (plain v) = refl
cell_again (refer r) = refl
cell_again (in_block s v) = refl
cell_again (in_frame s v) = refl

abbrev pub cell_code : Coded Cell
cell_code =
    code_by (ℕ ⊎ (Option ℕ ⊎ ((ℕ × ℕ) ⊎ (ℕ × ℕ)))) (coded⊎ coded_ℕ (coded⊎ (coded_option coded_ℕ) (coded⊎ (coded× coded_ℕ coded_ℕ) (coded× coded_ℕ coded_ℕ))))
    cell_parts cell_whole cell_again

abbrev pub content_parts : Content → List Cell ⊎ List ℕ
content_parts (wide words) = inl words
content_parts (compact numbers) = inr numbers

abbrev pub content_whole : List Cell ⊎ List ℕ → Content
content_whole (inl words) = wide words
content_whole (inr numbers) = compact numbers

pub content_again : (c : Content) → content_whole (content_parts c) ≡ c
content_again (wide words) = refl
content_again (compact numbers) = refl

abbrev pub content_code : Coded Content
content_code = code_by (List Cell ⊎ List ℕ) (coded⊎ (coded_list cell_code) (coded_list coded_ℕ)) content_parts content_whole content_again
