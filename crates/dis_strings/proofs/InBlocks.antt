-- A word of a block that takes the place of another.
use Rattle.std.proofs.Common.{◌≡◌, ℕ, true, false, List, Option, Some, None, refl, sym, ap, ◌∙◌, if◌then◌else◌}
use Rattle.std.specs.Prelude.{slice_get, slice_set}
use Rattle.heap_model.specs.Heap as heap_list
use Rattle.dis_meaning.specs.Counts.{in_words}
use Rattle.dis_meaning.specs.Places.{Spot, Own, Data, Far, place_in}
use Rattle.dis_meaning.specs.Process.{Process}
use Rattle.dis_meaning.specs.Words.{InBlock, InFrame, Word, Access, Found, Wrong, Raises, ◌>>=◌, dead_address, type_check, fits, or_wrong, word_number, word_at, stored}
use Rattle.dis_memory.specs.Blocks.{Block, Record, Text, Array, Part, Cell, Channel, Instance, Sys, World, reached, with_changed, with_words}
use Rattle.dis_memory.specs.Naming.{inside}
use Rattle.dis_memory.specs.Places.{data_at, memory, read, store, with_data, with_words_at, words_at}
use Rattle.dis_stores.specs.Storing.{rested, settled}
use Rattle.dis_results.proofs.Again.{put_settled, words_settled}
use Rattle.dis_strings.specs.Renewing.{in_frame}

-- A byte lies among the words of the block of this serial.
pub record LiesIn (q : Process) (d : Spot) (n : ℕ) : Type 0 where
  pub words : (y : World) → words_at y q d ≡ data_at y n
  pub back : (y : World) (ws : List Word) → with_words_at y q d ws ≡ (with_data y n ws >>= λ z. Found (memory z q))

pub lies_in : (q : Process) (d : Spot) → in_frame d ≡ false → (n : ℕ) × LiesIn q d n
lies_in q (Own byte) f = absurd cc
lies_in q (Data byte) f = (q.frame.instance, record { words = λ y. refl; back = λ y ws. refl })
lies_in q (Far (InFrame s) byte) f = absurd cc
lies_in q (Far (InBlock n) byte) f = (n, record { words = λ y. refl; back = λ y ws. refl })

-- A word of a block that operands reach.
pub record Stands (y : World) (n : ℕ) (d : Spot) (w : Word) : Type 0 where
  pub block : Block
  pub there : heap_list.at y.heap n ≡ Some block
  pub words : List Word
  pub reached : reached block ≡ Found words
  pub number : ℕ
  pub placed : word_number (place_in d) ≡ Found number
  pub word : slice_get words number ≡ Some w

pub stands : (y : World) (q : Process) (d : Spot) (n : ℕ) (w : Word) → LiesIn q d n → read y q d ≡ Found w → Stands y n d w
stands y q d n w l e = block_is (heap_list.at y.heap n) refl (sym (ap (λ a. a >>= λ ws. word_at ws (place_in d)) (l.words y)) ∙ e)
  where
    block_is : (o : Option Block) → heap_list.at y.heap n ≡ o → (or_wrong dead_address o >>= reached >>= λ ws. word_at ws (place_in d)) ≡ Found w → Stands y n d w
    block_is None is e = absurd cc
    block_is (Some b) is e = words_are (reached b) refl e
      where
        words_are : (a : Access (List Word)) → reached b ≡ a → (a >>= λ ws. word_at ws (place_in d)) ≡ Found w → Stands y n d w
        words_are (Found ws) are e = number_is (word_number (place_in d)) refl e
          where
            number_is : (a : Access ℕ) → word_number (place_in d) ≡ a → (a >>= λ k. or_wrong type_check (slice_get ws k)) ≡ Found w → Stands y n d w
            number_is (Found k) at e = word_is (slice_get ws k) refl e
              where
                word_is : (o : Option Word) → slice_get ws k ≡ o → or_wrong type_check o ≡ Found w → Stands y n d w
                word_is None got e = absurd cc
                word_is (Some v) got e =
                    let same : v ≡ w = cc in
                    record { block = b; there = is; words = ws; reached = are; number = k; placed = at; word = got ∙ ap Some same }
            number_is (Wrong m) at e = absurd cc
            number_is (Raises text) at e = absurd cc
        words_are (Wrong m) are e = absurd cc
        words_are (Raises text) are e = absurd cc

-- The block with another word there, and the world with that block.
module _ (y : World) (n : ℕ) (d : Spot) (w : Word) (s : Stands y n d w) where
  abbrev pub rewritten : Word → List Word
  rewritten v = slice_set s.words s.number v

  abbrev pub put : Word → Block
  put v = with_words (rewritten v) s.block

  pub read_is : (q : Process) → LiesIn q d n → read y q d ≡ Found w
  read_is q l =
      ap (λ a. a >>= λ ws. word_at ws (place_in d)) (l.words y)
      ∙ ap (λ o. or_wrong dead_address o >>= reached >>= λ ws. word_at ws (place_in d)) s.there
      ∙ ap (λ a. a >>= λ ws. word_at ws (place_in d)) s.reached
      ∙ ap (λ a. a >>= λ k. or_wrong type_check (slice_get s.words k)) s.placed
      ∙ ap (or_wrong type_check) s.word

  pub store_is : (q : Process) (v : Word) → LiesIn q d n → fits w v ≡ true → store y q d v ≡ Found (memory (with_changed y n (put v)) q)
  store_is q v l f =
      ap (λ a. a >>= λ ws. stored ws (place_in d) v >>= with_words_at y q d) (l.words y)
      ∙ ap (λ o. or_wrong dead_address o >>= reached >>= λ ws. stored ws (place_in d) v >>= with_words_at y q d) s.there
      ∙ ap (λ a. a >>= λ ws. stored ws (place_in d) v >>= with_words_at y q d) s.reached
      ∙ ap (λ a. a >>= (λ k. or_wrong type_check (slice_get s.words k) >>= λ old. if fits old v then Found (slice_set s.words k v) else Wrong type_check) >>= with_words_at y q d) s.placed
      ∙ ap (λ o. or_wrong type_check o >>= (λ old. if fits old v then Found (rewritten v) else Wrong type_check) >>= with_words_at y q d) s.word
      ∙ ap (λ b. (if b then Found (rewritten v) else Wrong type_check) >>= with_words_at y q d) f
      ∙ l.back y (rewritten v)
      ∙ ap (λ o. or_wrong dead_address o >>= (λ b. Found (with_changed y n (with_words (rewritten v) b))) >>= λ z. Found (memory z q)) s.there

-- ---- words of blocks

pub reached_put : (b : Block) (ws vs : List Word) → reached b ≡ Found ws → reached (with_words vs b) ≡ Found vs
reached_put (Record words) ws vs e = refl
reached_put (Text chars) ws vs e = absurd cc
reached_put (Array element long words) ws vs e = refl
reached_put (Part array start long) ws vs e = absurd cc
reached_put (Cell element rest) ws vs e = absurd cc
reached_put (Channel element) ws vs e = absurd cc
reached_put (Instance object words) ws vs e = refl
reached_put (Sys names) ws vs e = absurd cc

pub put_twice : (b : Block) (us vs : List Word) → with_words vs (with_words us b) ≡ with_words vs b
put_twice (Record words) us vs = refl
put_twice (Text chars) us vs = refl
put_twice (Array element long words) us vs = refl
put_twice (Part array start long) us vs = refl
put_twice (Cell element rest) us vs = refl
put_twice (Channel element) us vs = refl
put_twice (Instance object words) us vs = refl
put_twice (Sys names) us vs = refl

pub reached_named : (b : Block) (ws : List Word) (n : ℕ) → reached b ≡ Found ws → inside b n ≡ in_words n ws
reached_named (Record words) ws n e = let same : words ≡ ws = cc in ap (in_words n) same
reached_named (Text chars) ws n e = absurd cc
reached_named (Array element long words) ws n e = let same : words ≡ ws = cc in ap (in_words n) same
reached_named (Part array start long) ws n e = absurd cc
reached_named (Cell element rest) ws n e = absurd cc
reached_named (Channel element) ws n e = absurd cc
reached_named (Instance object words) ws n e = let same : words ≡ ws = cc in ap (in_words n) same
reached_named (Sys names) ws n e = absurd cc

-- ---- a process that doesn't wait for a reply

pub store_settled : (y : World) (q : Process) (d : Spot) (v : Word) → rested (store y q d v) ≡ rested (store y (settled q) d v)
store_settled y q d v = ap (λ a. rested (a >>= λ ws. stored ws (place_in d) v >>= with_words_at y q d)) (words_settled y q d) ∙ go (words_at y (settled q) d)
  where
    among : (a : Access (List Word)) → rested (a >>= with_words_at y q d) ≡ rested (a >>= with_words_at y (settled q) d)
    among (Found ws) = put_settled y q d ws
    among (Wrong n) = refl
    among (Raises text) = refl

    go : (a : Access (List Word)) → rested (a >>= λ ws. stored ws (place_in d) v >>= with_words_at y q d) ≡ rested (a >>= λ ws. stored ws (place_in d) v >>= with_words_at y (settled q) d)
    go (Found ws) = among (stored ws (place_in d) v)
    go (Wrong n) = refl
    go (Raises text) = refl

pub read_settled : (y : World) (q : Process) (d : Spot) → read y q d ≡ read y (settled q) d
read_settled y q d = ap (λ a. a >>= λ ws. word_at ws (place_in d)) (words_settled y q d)
