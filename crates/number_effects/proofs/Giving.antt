-- Where results go.
use Rattle.std.proofs.Common.{◌≡◌, ℕ, zero, suc, ℤ, pos, ◌/◌, true, ◌⊎◌, inl, inr, List, [], ◌∷◌, Option, Some, refl, sym, ap, ◌∙◌}
use Rattle.std.specs.Prelude.{slice_get, slice_set}
use Rattle.limbo_values.specs.declared.number.Kind.{Kind}
use Rattle.limbo_values.specs.declared.number.Kind.TheVariants.{Int}
use Rattle.limbo_values.specs.Numbers.{InRange}
use Rattle.dis_isa.specs.declared.inst.Operand.{Operand}
use Rattle.dis_meaning.specs.Words.{Word, Plain, Refer, Address, Access, Found, Raises, ◌>>=◌, word_at, plain, reference, fits}
use Rattle.dis_meaning.specs.Numbers.{number_at}
use Rattle.dis_meaning.specs.Process.{Process}
use Rattle.dis_meaning.specs.Places.{Spot, place_in}
use Rattle.dis_memory.specs.Blocks.{Block, World, with_block, next_serial}
use Rattle.dis_memory.specs.Places.{Memory, spot, words_at, with_words_at, read, store, read_number, store_number, reference_at}
use Rattle.dis_memory.specs.Process.{Does, next}
use Rattle.dis_memory.specs.Results.{gives_number, gives_number_at, gives_plain_at, gives_reference, gives_reference_at}
use Rattle.dis_memory.specs.Results.{gives_block, gives_block_at}
use Rattle.heap_model.proofs.Heap.{at_last, at_more}
use Rattle.dis_memory.proofs.Growing.{both}
use Rattle.value_words.specs.Contents.{AreInRange}
use Rattle.value_moves.specs.Spots.{Leads}
use Rattle.value_moves.proofs.Obeying.{on}
use Rattle.value_moves.proofs.Changing.{words_change}
use Rattle.number_effects.specs.Giving.{StoresNumber, StoresWord, WordStored, LeadsStill, ResultsGo, with_word}
use Rattle.number_effects.proofs.Leading.{read_is, number_is, store_is, store_number_is, words_later, spot_later}

some_same : (w v : Word) → Some v ≡ Some w → w ≡ v
some_same w v e = cc

fits_plain : (v old new w : Word) → plain v ≡ Found old → plain new ≡ Found w → fits v new ≡ true
fits_plain (Plain n) old (Plain m) w e f = refl
fits_plain (Plain n) old (Address place at) w e f = refl
fits_plain (Plain n) old (Refer r) w e f = absurd cc
fits_plain (Address place at) old (Plain m) w e f = refl
fits_plain (Address place at) old (Address place' at') w e f = refl
fits_plain (Address place at) old (Refer r) w e f = absurd cc
fits_plain (Refer r) old new w e f = absurd cc

set_or_there : (words : List Word) (k j : ℕ) (new w : Word) → slice_get (slice_set words k new) j ≡ Some w
    → (w ≡ new) ⊎ (slice_get words j ≡ Some w)
set_or_there [] k j new w e = inr e
set_or_there (v ∷ vs) zero zero new w e = inl (some_same w new e)
set_or_there (v ∷ vs) zero (suc j) new w e = inr e
set_or_there (v ∷ vs) (suc k) zero new w e = inr e
set_or_there (v ∷ vs) (suc k) (suc j) new w e = set_or_there vs k j new w e

still_ranged : (target : List Word) (to : ℕ) (new : Word) → ((z : ℤ) → new ≡ Plain z → InRange Int z) → AreInRange target
    → AreInRange (with_word target to new)
still_ranged target to new h ranges k z e = elim (set_or_there target (to / 4) k new (Plain z) e) [
  | inl is ↦ h z (sym is)
  | inr there ↦ ranges k z there
]

word_stored : (target : List Word) (to : ℕ) (v new : Word) → word_at target (pos to) ≡ Found v → fits v new ≡ true → WordStored target to new
word_stored target to v new e f = let c = words_change.word target to v new e f in record { there = c.1; changes = c.2; ranged = still_ranged target to new }

-- What is at hand once a result was found.
abbrev goes_on : Access Memory → Access Does
goes_on a = a >>= λ m. Found (next m)

-- A word is stored in a world, in the place of another that takes it.
pub word_goes : (y : World) (p : Process) (place : Spot) (target : List Word) (to : ℕ) (v new : Word) → words_at y p place ≡ Found target
    → place_in place ≡ pos to → word_at target (pos to) ≡ Found v → fits v new ≡ true
    → WordStored target to new × (store y p place new ≡ with_words_at y p place (with_word target to new))
word_goes y p place target to v new among byte e f =
    (word_stored target to v new e f, store_is y p place target (with_word target to new) to new among byte (words_change.word target to v new e f).0)

module _ (x : World) (p : Process) (o : Operand) (target : List Word) (to : ℕ) (d : Leads x p o target to) where
  number_over : (k : Kind) (old : ℤ) → number_at k target (pos to) ≡ Found old → (result : Access ℤ)
      → gives_number x p k o result ≡ (result >>= λ z. goes_on (store_number k x p d.place z))
  number_over k old e result =
      on (spot x p o) d.place (λ t. gives_number_at x p k t result) d.found
      ∙ on (read_number k x p d.place) old (λ y. result >>= λ z. goes_on (store_number k x p d.place z)) (number_is x p o target to d k ∙ e)

  number_goes : (k : Kind) (old z : ℤ) → number_at k target (pos to) ≡ Found old
      → StoresNumber (gives_number x p k o (Found z)) x p d.place k target to z
  number_goes k old z e =
      let n = words_change.number k target to old z e in
      (n, number_over k old e (Found z) ∙ ap goes_on (store_number_is x p o target to d k n.others z n.found))

  pub plain_goes : (old new w : Word) → word_at target (pos to) >>= plain ≡ Found old → plain new ≡ Found w
      → WordStored target to new × (store x p d.place new ≡ with_words_at x p d.place (with_word target to new))
  plain_goes old new w e f =
      let h = both (word_at target (pos to)) plain old e in
      word_goes x p d.place target to h.first new d.among d.byte h.is (fits_plain h.first old new w h.then f)

  word_over : (old : Word) → word_at target (pos to) >>= plain ≡ Found old → (result : Access Word)
      → gives_plain_at x p d.place result ≡ (result >>= λ w. goes_on (store x p d.place w))
  word_over old e result =
      on (read x p d.place >>= plain) old (λ y. result >>= λ w. goes_on (store x p d.place w))
      (ap (λ (c : Access Word). c >>= plain) (read_is x p o target to d) ∙ e)

  word_given : (old new : Word) → word_at target (pos to) >>= plain ≡ Found old → plain new ≡ Found new
      → StoresWord (gives_plain_at x p d.place (Found new)) x p d.place target to new
  word_given old new e f = let g = plain_goes old new new e f in (g.0, word_over old e (Found new) ∙ ap goes_on g.1)

  refers_there : (old : Option ℕ) → word_at target (pos to) ≡ Found (Refer old) → reference_at x p d.place ≡ Found old
  refers_there old e = ap (λ (c : Access Word). c >>= reference) (read_is x p o target to d ∙ e)

  reference_over : (old : Option ℕ) → word_at target (pos to) ≡ Found (Refer old) → (result : Access (Option ℕ))
      → gives_reference x p o result ≡ (result >>= λ r. goes_on (store x p d.place (Refer r)))
  reference_over old e result =
      on (spot x p o) d.place (λ t. gives_reference_at x p t result) d.found
      ∙ on (reference_at x p d.place) old (λ y. result >>= λ r. goes_on (store x p d.place (Refer r))) (refers_there old e)

  reference_goes : (old new : Option ℕ) → word_at target (pos to) ≡ Found (Refer old)
      → StoresWord (gives_reference x p o (Found new)) x p d.place target to (Refer new)
  reference_goes old new e =
      let g = word_goes x p d.place target to (Refer old) (Refer new) d.among d.byte e refl in
      (g.0, reference_over old e (Found new) ∙ ap goes_on g.1)

  block_over : (old : Option ℕ) → word_at target (pos to) ≡ Found (Refer old) → (result : Access Block)
      → gives_block x p o result ≡ (result >>= λ b. goes_on (store (with_block x b) p d.place (Refer (Some (next_serial x)))))
  block_over old e result =
      on (spot x p o) d.place (λ t. gives_block_at x p t result) d.found
      ∙ on (reference_at x p d.place) old (λ y. result >>= λ b. goes_on (store (with_block x b) p d.place (Refer (Some (next_serial x)))))
      (refers_there old e)

  block_goes : (old : Option ℕ) (b : Block) → word_at target (pos to) ≡ Found (Refer old)
      → StoresWord (gives_block x p o (Found b)) (with_block x b) p d.place target to (Refer (Some (next_serial x)))
  block_goes old b e =
      let g = word_goes (with_block x b) p d.place target to (Refer old) (Refer (Some (next_serial x))) (words_later x b p d.place target d.among)
      d.byte e refl
      in
      (g.0, block_over old e (Found b) ∙ ap goes_on g.1)

still : (x : World) (b : Block) (p : Process) (o : Operand) (words : List Word) (n : ℕ) (l : Leads x p o words n) → LeadsStill x b p o words n l
still x b p o words n l = (
  record {
    place = l.place;
    found = spot_later x b p o l.place l.found;
    among = words_later x b p l.place words l.among;
    byte = l.byte;
  },
  refl,
)

pub results_go : ResultsGo
results_go = record {
  number_place = λ x p o target to d kind result. on (spot x p o) d.place (λ t. gives_number_at x p kind t result) d.found;
  reference_place = λ x p o target to d result. on (spot x p o) d.place (λ t. gives_reference_at x p t result) d.found;
  block_place = λ x p o target to d result. on (spot x p o) d.place (λ t. gives_block_at x p t result) d.found;
  number = λ x p o target to d kind old z e. number_goes x p o target to d kind old z e;
  number_raised = λ x p o target to d kind old text e. number_over x p o target to d kind old e (Raises text);
  word = λ x p o target to d old new e f. word_given x p o target to d old new e f;
  word_raised = λ x p o target to d old text e. word_over x p o target to d old e (Raises text);
  reference = λ x p o target to d old new e. reference_goes x p o target to d old new e;
  reference_raised = λ x p o target to d old text e. reference_over x p o target to d old e (Raises text);
  block = λ x p o target to d old b e. block_goes x p o target to d old b e;
  block_raised = λ x p o target to d old text e. block_over x p o target to d old e (Raises text);
  new_block = λ x b. at_last x.heap (Some b) (next_serial x) refl;
  other_blocks = λ x b n ne. at_more x.heap (Some b) n ne;
  later = still;
}
