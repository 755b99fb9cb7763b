-- What operands read, and what is there once a result was stored.
use Rattle.std.proofs.Common.{◌≡◌, ℕ, zero, suc, ℤ, pos, ◌/◌, true, List, [], ◌∷◌, ◌++◌, Option, None, Some, Result, Ok, Err, refl, ap, ◌∙◌}
use Rattle.std.specs.Prelude.{slice_set}
use Rattle.heap_model.specs.Heap.{Heap, at}
use Rattle.dis_isa.specs.declared.inst.Operand.{Operand}
use Rattle.dis_isa.specs.declared.inst.Operand.TheVariants as operand
use Rattle.limbo_values.specs.declared.number.Kind.{Kind}
use Rattle.limbo_values.specs.declared.raised.Raised.{Raised}
use Rattle.limbo_values.specs.Operators.{text_of}
use Rattle.dis_meaning.specs.Words.{Word, Plain, Refer, Address, InBlock, InFrame, Access, Found, Raises, ◌>>=◌}
use Rattle.dis_meaning.specs.Words.{dead_address, or_wrong, word_at, plain, reference, fits, stored}
use Rattle.dis_meaning.specs.Numbers.{number_at, with_number_at}
use Rattle.dis_meaning.specs.Process.{Process, with_words, with_frames}
use Rattle.dis_meaning.specs.Places.{Spot, Own, Data, Far, place_in, with_frame_words}
use Rattle.dis_memory.specs.Blocks as blocks
use Rattle.dis_memory.specs.Blocks.{Block, World, with_heap, with_block, with_changed, next_serial, reached}
use Rattle.dis_memory.specs.Raising.{unless_raised}
use Rattle.dis_memory.specs.Places.{memory, with_data}
use Rattle.dis_memory.specs.Places.{Memory, spot, words_at, with_words_at, read, store, store_number, read_number, source_of, data_at}
use Rattle.dis_memory.specs.Places.{source_word, reference_at}
use Rattle.dis_memory.specs.Process.{next}
use Rattle.dis_memory.specs.Results.{gives_number, gives_number_at, gives_plain_at, gives_reference, gives_reference_at}
use Rattle.dis_memory.specs.Results.{gives_block, gives_block_at}
use Rattle.dis_memory.proofs.Growing.{more_there}
use Rattle.value_words.proofs.Bytes.{word_found}
use Rattle.value_moves.specs.Spots.{Leads}
use Rattle.value_moves.proofs.Obeying.{on}
use Rattle.value_moves.proofs.Changing.{stored_is}
use Rattle.block_effects.specs.Stored.{After, NumberThere, ReferenceThere, PlainThere, AfterReference, AfterBlock, AfterPlain}
use Rattle.block_effects.specs.Stored.{OperandsReadAll, StoresBehind}

-- ---- accesses

pub stops : {S T : Type 0} (a : Access S) (text : List ℕ) (f : S → Access T) → a ≡ Raises text → (a >>= f) ≡ Raises text
stops a text f e = ap (λ (b : Access _). b >>= f) e

pub gone_well : {T : Type 0} (r : Result T Raised) (t : T) → r ≡ Ok t → unless_raised r ≡ Found t
gone_well r t e = ap unless_raised e

pub raises : {T : Type 0} (r : Result T Raised) (raised : Raised) → r ≡ Err raised → unless_raised r ≡ Raises (text_of raised)
raises r raised e = ap unless_raised e

module _ (x : World) (p : Process) where
  -- ---- operands that lead somewhere are no immediates

  source_number : (k : Kind) (a : Operand) (s : Spot) → spot x p a ≡ Found s → source_of k x p a ≡ read_number k x p s
  source_number k operand.None s e = absurd cc
  source_number k (operand.Imm n) s e = absurd cc
  source_number k (operand.Fp n) s e = ap (λ (b : Access Spot). b >>= read_number k x p) e
  source_number k (operand.Mp n) s e = ap (λ (b : Access Spot). b >>= read_number k x p) e
  source_number k (operand.IndFp m n) s e = ap (λ (b : Access Spot). b >>= read_number k x p) e
  source_number k (operand.IndMp m n) s e = ap (λ (b : Access Spot). b >>= read_number k x p) e

  word_source : (a : Operand) (s : Spot) → spot x p a ≡ Found s → source_word x p a ≡ read x p s
  word_source operand.None s e = absurd cc
  word_source (operand.Imm n) s e = absurd cc
  word_source (operand.Fp n) s e = ap (λ (b : Access Spot). b >>= read x p) e
  word_source (operand.Mp n) s e = ap (λ (b : Access Spot). b >>= read x p) e
  word_source (operand.IndFp m n) s e = ap (λ (b : Access Spot). b >>= read x p) e
  word_source (operand.IndMp m n) s e = ap (λ (b : Access Spot). b >>= read x p) e

  -- ---- what is read and stored where one leads

  pub read_is : (a : Operand) (words : List Word) (n : ℕ) (l : Leads x p a words n) → read x p l.place ≡ word_at words (pos n)
  read_is a words n l =
      on (words_at x p l.place) words (λ ws. word_at ws (place_in l.place)) l.among ∙ ap (word_at words) l.byte

  number_is : (k : Kind) (a : Operand) (words : List Word) (n : ℕ) (l : Leads x p a words n)
      → read_number k x p l.place ≡ number_at k words (pos n)
  number_is k a words n l =
      on (words_at x p l.place) words (λ ws. number_at k ws (place_in l.place)) l.among ∙ ap (number_at k words) l.byte

  store_number_is : (k : Kind) (a : Operand) (words others : List Word) (n : ℕ) (z : ℤ) (l : Leads x p a words n)
      → with_number_at k words (pos n) z ≡ Found others → store_number k x p l.place z ≡ with_words_at x p l.place others
  store_number_is k a words others n z l e =
      on (words_at x p l.place) words (λ ws. with_number_at k ws (place_in l.place) z >>= with_words_at x p l.place) l.among
      ∙ on (with_number_at k words (place_in l.place) z) others (with_words_at x p l.place)
      (ap (λ (m : ℤ). with_number_at k words m z) l.byte ∙ e)

  -- A reference is stored where another one stands, in a world that has the same words there.
  refer_stored : (y : World) (b : Operand) (d : ReferenceThere x p b) (r : Option ℕ) → words_at y p d.leads.place ≡ Found d.words
      → (store y p d.leads.place (Refer r) >>= λ m. Found (next m))
      ≡ After y p d.leads.place (slice_set d.words (d.byte / 4) (Refer r))
  refer_stored y b d r e =
      let w = word_found d.words d.byte (Refer d.old) d.stands in
      let f = ap (λ (m : ℤ). stored d.words m (Refer r)) d.leads.byte ∙ stored_is d.words d.byte (Refer d.old) (Refer r) w.0 w.1 refl in
      ap (λ (c : Access Memory). c >>= λ m. Found (next m))
      (on (words_at y p d.leads.place) d.words _ e ∙ on (stored d.words (place_in d.leads.place) (Refer r)) _ _ f)

  pub old_reference : (b : Operand) (d : ReferenceThere x p b) → reference_at x p d.leads.place ≡ Found d.old
  old_reference b d = ap (λ (c : Access Word). c >>= reference) (read_is b d.words d.byte d.leads ∙ d.stands)

  -- A new block changes no words.
  more_data : (n : ℕ) (new : Block) (o : Option Block) (words : List Word) → at x.heap n ≡ o
      → (or_wrong dead_address o >>= reached) ≡ Found words → data_at (with_block x new) n ≡ Found words
  more_data n new None words e f = absurd cc
  more_data n new (Some b) words e f =
      ap (λ (c : Option Block). or_wrong dead_address c >>= reached) (more_there x.heap (Some new) n b e) ∙ f

  same_words : (s : Spot) (new : Block) (words : List Word) → words_at x p s ≡ Found words → words_at (with_block x new) p s ≡ Found words
  same_words (Own m) new words e = e
  same_words (Data m) new words e = more_data p.frame.instance new (at x.heap p.frame.instance) words refl e
  same_words (Far (InFrame f) m) new words e = e
  same_words (Far (InBlock n) m) new words e = more_data n new (at x.heap n) words refl e

  -- ---- results

  pub number_given : (k : Kind) (b : Operand) (d : NumberThere x p k b) (result : Access ℤ) (z : ℤ) (others : List Word)
      → result ≡ Found z → with_number_at k d.words (pos d.byte) z ≡ Found others
      → gives_number x p k b result ≡ After x p d.leads.place others
  number_given k b d result z others e f =
      on (spot x p b) d.leads.place (λ t. gives_number_at x p k t result) d.leads.found
      ∙ on (read_number k x p d.leads.place) d.old _ (number_is k b d.words d.byte d.leads ∙ d.stands)
      ∙ on result z _ e
      ∙ ap (λ (c : Access Memory). c >>= λ m. Found (next m)) (store_number_is k b d.words others d.byte z d.leads f)

  pub number_raised : (k : Kind) (b : Operand) (d : NumberThere x p k b) (result : Access ℤ) (text : List ℕ) → result ≡ Raises text
      → gives_number x p k b result ≡ Raises text
  number_raised k b d result text e =
      on (spot x p b) d.leads.place (λ t. gives_number_at x p k t result) d.leads.found
      ∙ on (read_number k x p d.leads.place) d.old _ (number_is k b d.words d.byte d.leads ∙ d.stands)
      ∙ stops result text _ e

  pub reference_at_is : (b : Operand) (d : ReferenceThere x p b) (result : Access (Option ℕ)) (r : Option ℕ) → result ≡ Found r
      → gives_reference_at x p d.leads.place result ≡ AfterReference x p d r
  reference_at_is b d result r e =
      on (reference_at x p d.leads.place) d.old _ (old_reference b d) ∙ on result r _ e ∙ refer_stored x b d r d.leads.among

  pub reference_at_raised : (b : Operand) (d : ReferenceThere x p b) (result : Access (Option ℕ)) (text : List ℕ) → result ≡ Raises text
      → gives_reference_at x p d.leads.place result ≡ Raises text
  reference_at_raised b d result text e = on (reference_at x p d.leads.place) d.old _ (old_reference b d) ∙ stops result text _ e

  pub reference_given : (b : Operand) (d : ReferenceThere x p b) (result : Access (Option ℕ)) (r : Option ℕ) → result ≡ Found r
      → gives_reference x p b result ≡ AfterReference x p d r
  reference_given b d result r e =
      on (spot x p b) d.leads.place (λ t. gives_reference_at x p t result) d.leads.found ∙ reference_at_is b d result r e

  pub reference_raised : (b : Operand) (d : ReferenceThere x p b) (result : Access (Option ℕ)) (text : List ℕ) → result ≡ Raises text
      → gives_reference x p b result ≡ Raises text
  reference_raised b d result text e =
      on (spot x p b) d.leads.place (λ t. gives_reference_at x p t result) d.leads.found ∙ reference_at_raised b d result text e

  pub block_at_is : (b : Operand) (d : ReferenceThere x p b) (result : Access Block) (new : Block) → result ≡ Found new
      → gives_block_at x p d.leads.place result ≡ AfterBlock x p d new
  block_at_is b d result new e =
      on (reference_at x p d.leads.place) d.old _ (old_reference b d) ∙ on result new _ e
      ∙ refer_stored (with_block x new) b d (Some (next_serial x)) (same_words d.leads.place new d.words d.leads.among)

  pub block_at_raised : (b : Operand) (d : ReferenceThere x p b) (result : Access Block) (text : List ℕ) → result ≡ Raises text
      → gives_block_at x p d.leads.place result ≡ Raises text
  block_at_raised b d result text e = on (reference_at x p d.leads.place) d.old _ (old_reference b d) ∙ stops result text _ e

  pub block_given : (b : Operand) (d : ReferenceThere x p b) (result : Access Block) (new : Block) → result ≡ Found new
      → gives_block x p b result ≡ AfterBlock x p d new
  block_given b d result new e =
      on (spot x p b) d.leads.place (λ t. gives_block_at x p t result) d.leads.found ∙ block_at_is b d result new e

  pub block_raised : (b : Operand) (d : ReferenceThere x p b) (result : Access Block) (text : List ℕ) → result ≡ Raises text
      → gives_block x p b result ≡ Raises text
  block_raised b d result text e =
      on (spot x p b) d.leads.place (λ t. gives_block_at x p t result) d.leads.found ∙ block_at_raised b d result text e

  -- An address goes where a plain word stands.
  address_fits : (old : Word) (n : ℕ) (a : ℤ) → plain old ≡ Found old → fits old (Address (InBlock n) a) ≡ true
  address_fits (Plain z) n a e = refl
  address_fits (Refer r) n a e = absurd cc
  address_fits (Address q b) n a e = refl

  pub address_given : (n : ℕ) (d : PlainThere x p n) (result : Access Word) (block : ℕ) (a : ℤ) → result ≡ Found (Address (InBlock block) a)
      → gives_plain_at x p (Own (pos n)) result ≡ AfterPlain x p n (Address (InBlock block) a)
  address_given n d result block a e =
      let w = word_found p.frame.words n d.old d.stands in
      on (word_at p.frame.words (pos n) >>= plain) d.old _ (ap (λ (c : Access Word). c >>= plain) d.stands ∙ d.is_plain)
      ∙ on result (Address (InBlock block) a) _ e
      ∙ ap (λ (c : Access (List Word)). c >>= with_words_at x p (Own (pos n)) >>= λ m. Found (next m))
      (stored_is p.frame.words n d.old (Address (InBlock block) a) w.0 w.1 (address_fits d.old block a d.is_plain))

  pub address_raised : (n : ℕ) (d : PlainThere x p n) (result : Access Word) (text : List ℕ) → result ≡ Raises text
      → gives_plain_at x p (Own (pos n)) result ≡ Raises text
  address_raised n d result text e =
      on (word_at p.frame.words (pos n) >>= plain) d.old _ (ap (λ (c : Access Word). c >>= plain) d.stands ∙ d.is_plain)
      ∙ stops result text _ e

-- ---- what is stored beside a new block

set_more : {A : Type 0} (h : Heap A) (o v : Option A) (n : ℕ) (b : A) → at h n ≡ Some b → slice_set (h ++ o ∷ []) n v ≡ slice_set h n v ++ o ∷ []
set_more [] o v n b e = absurd cc
set_more (q ∷ os) o v zero b e = refl
set_more (q ∷ os) o v (suc n) b e = ap (λ (h : Heap _). q ∷ h) (set_more os o v n b e)

module _ (x : World) (p : Process) (new : Block) (others : List Word) (m : Memory) where
  data_behind : (n : ℕ) (o : Option Block) → at x.heap n ≡ o
      → (or_wrong dead_address o >>= (λ b. Found (with_changed x n (blocks.with_words others b))) >>= λ y. Found (memory y p)) ≡ Found m
      → (with_data (with_block x new) n others >>= λ y. Found (memory y p)) ≡ Found (memory (with_block m.world new) m.process)
  data_behind n None e f = absurd cc
  data_behind n (Some b) e f =
      let c = blocks.with_words others b in
      let is : memory (with_changed x n c) p ≡ m = cc in
      ap (λ (o : Option Block). or_wrong dead_address o >>= (λ b. Found (with_changed (with_block x new) n (blocks.with_words others b)))
      >>= λ y. Found (memory y p)) (more_there x.heap (Some new) n b e)
      ∙ ap (λ (h : Heap Block). Found (memory (with_heap x h) p)) (set_more x.heap (Some new) (Some c) n b e)
      ∙ ap (λ (m : Memory). Found (memory (with_block m.world new) m.process)) is

  behind_all : (s : Spot) → with_words_at x p s others ≡ Found m
      → with_words_at (with_block x new) p s others ≡ Found (memory (with_block m.world new) m.process)
  behind_all (Own a) e =
      let is : memory x (with_frames p (with_words p.frame others) p.below p.made) ≡ m = cc in
      ap (λ (m : Memory). Found (memory (with_block m.world new) m.process)) is
  behind_all (Data a) e = data_behind p.frame.instance (at x.heap p.frame.instance) refl e
  behind_all (Far (InFrame f) a) e =
      let is : memory x (with_frame_words p f others) ≡ m = cc in
      ap (λ (m : Memory). Found (memory (with_block m.world new) m.process)) is
  behind_all (Far (InBlock n) a) e = data_behind n (at x.heap n) refl e

pub stores_behind : StoresBehind
stores_behind x p new place others m = behind_all x p new others m place

pub operands_read : OperandsReadAll
operands_read x p = record {
  number = λ k a words n z l e. source_number x p k a l.place l.found ∙ number_is x p k a words n l ∙ e;
  reference = λ a words n r l e.
      ap (λ (c : Access Word). c >>= reference) (word_source x p a l.place l.found ∙ read_is x p a words n l ∙ e);
  given = λ k n z e. e;
  given_reference = λ n r e. ap (λ (c : Access Word). c >>= reference) e;
}
