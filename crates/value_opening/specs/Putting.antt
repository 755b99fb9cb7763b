-- What items change in the data of a module's instance, and what stands there then.
use Rattle.std.specs.Prelude.{ℕ, suc, pos, ◌+◌, ◌≡◌, ◌≤◌, ◌⊎◌, List, [], ◌∷◌, ◌++◌, map, length, Some, slice_get}
use Rattle.heap_model.specs.Heap.{Heap}
use Rattle.dis_file.specs.declared.object.Object.{Object}
use Rattle.dis_meaning.specs.Words.{Word, Refer, Found, word_at}
use Rattle.dis_meaning.specs.Numbers.{number_at}
use Rattle.dis_memory.specs.Blocks.{Block, Text, Instance, Outer}
use Rattle.dis_counts.specs.Opening.{Loading, loading, with_item, with_items}
use Rattle.value_frames.specs.Types.{AreOf}
use Rattle.value_moves.specs.Changing.{Changes}
use Rattle.value_opening.specs.Puts.{Put, OfText, OfNumber, item_of, place, extent, text_of, texts_of, Takes, TakesAll}

-- The blocks while items are put in: the instance is the first, and behind it are the texts that were put so far.
abbrev pub blocks : List Word → List (List ℕ) → Heap Block
blocks words texts = Some (Instance 0 words) ∷ map (λ t. Some (Text t)) texts

abbrev pub state : Outer → List Word → List (List ℕ) → Loading
state outer words texts =
    loading (record { heap = blocks words texts; outside = outer }) (record { serial = 0; from = 0 }) []

-- It stands where it was put, behind so many texts.
abbrev pub IsThere : (texts : ℕ) → List Word → Put → Type 0
IsThere n words (OfText at t) = word_at words (pos at) ≡ Found (Refer (Some (suc n)))
IsThere n words (OfNumber at k z) = number_at k words (pos at) ≡ Found z

-- One is put: it stands there, nothing else changes, and the only reference that is new is that to the text, if it is one.
pub record IsPut (size : ℕ) (references : List ℕ) (words others : List Word) (texts : ℕ) (p : Put) : Type 0 where
  pub kind : AreOf size references others
  pub changes : Changes words others (place p) (extent p)
  pub there : IsThere texts others p
  pub named : (w b : ℕ) → slice_get others w ≡ Some (Refer (Some b)) →
      (slice_get words w ≡ Some (Refer (Some b))) ⊎ ((t : List ℕ) × (text_of p ≡ t ∷ []) × (b ≡ suc texts))

-- Many are, one after the other.
pub data ArePut (size : ℕ) (references : List ℕ) : (words others : List Word) → (texts : ℕ) → List Put → Type 0 where
  none_put : (words : List Word) (n : ℕ) → ArePut size references words words n []
  more_put : (words between others : List Word) (n : ℕ) (p : Put) (ps : List Put) → IsPut size references words between n p
      → ArePut size references between others (n + length (text_of p)) ps → ArePut size references words others n (p ∷ ps)

-- A put doesn't touch so many bytes from one on.
abbrev pub IsApart : (at size : ℕ) → Put → Type 0
IsApart at size p = (at + size ≤ place p) ⊎ (place p + extent p ≤ at)

abbrev pub AllApart : (at size : ℕ) → List Put → Type 0
AllApart at size [] = Unit {0}
AllApart at size (p ∷ ps) = IsApart at size p × AllApart at size ps

pub record PutsChange : Type 0 where
  -- an item that the data take is put
  pub one : (o : Object) (outer : Outer) (size : ℕ) (references : List ℕ) (words : List Word) (texts : List (List ℕ)) (p : Put) →
      AreOf size references words → Takes size references p →
      (others : List Word) × IsPut size references words others (length texts) p
      × (with_item o (state outer words texts) (item_of p) ≡ Found (state outer others (texts ++ text_of p)))
  -- so are many, in turn
  pub many : (o : Object) (outer : Outer) (size : ℕ) (references : List ℕ) (words : List Word) (texts : List (List ℕ)) (ps : List Put) →
      AreOf size references words → TakesAll size references ps →
      (others : List Word) × ArePut size references words others (length texts) ps
      × (with_items o (state outer words texts) (map item_of ps) ≡ Found (state outer others (texts ++ texts_of ps)))
