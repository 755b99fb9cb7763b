-- What sources and middles are read as.
use Rattle.std.proofs.Common.{◌≡◌, ℕ, ℤ, pos, List, Option, Some, refl, ap, ◌∙◌}
use Rattle.heap_model.specs.Heap.{at}
use Rattle.dis_meaning.specs.Words.{Word, Plain, Refer, Address, Access, Found, ◌>>=◌, dead_address, or_wrong, word_at, number_in, plain, reference}
use Rattle.dis_meaning.specs.Numbers.{number_at}
use Rattle.dis_meaning.specs.Process.{Process}
use Rattle.dis_memory.specs.Blocks.{World, Block, Instance, reached}
use Rattle.dis_memory.specs.Places.{data_at}
use Rattle.dis_memory.proofs.Growing.{both}
use Rattle.number_effects.specs.Reading.{OperandsAreRead}
use Rattle.number_effects.proofs.Leading.{source_number, plain_source, word_source, read_is, number_is}

module _ (x : World) (p : Process) (object : ℕ) (words : List Word) (e : at x.heap p.frame.instance ≡ Some (Instance object words)) where
  data_there : data_at x p.frame.instance ≡ Found words
  data_there = ap (λ (c : Option Block). or_wrong dead_address c >>= reached) e

plain_read : (words : List Word) (n : ℕ) (z : ℤ) (w : Word) → word_at words (pos n) ≡ Found w → number_in w ≡ Found z
    → (v : Word) × (word_at words (pos n) >>= plain ≡ Found v) × (number_in v ≡ Found z)
plain_read words n z (Plain m) e f = (Plain m, ap (λ (c : Access Word). c >>= plain) e, f)
plain_read words n z (Address place at) e f = (Address place at, ap (λ (c : Access Word). c >>= plain) e, f)
plain_read words n z (Refer r) e f = absurd cc

pub operands_are_read : OperandsAreRead
operands_are_read = record {
  source_number = λ x p o words n kind l. source_number x p kind o l.place l.found ∙ number_is x p o words n l kind;
  source_plain_word = λ x p o words n l.
      plain_source x p o l.place l.found ∙ ap (λ (c : Access Word). c >>= plain) (read_is x p o words n l);
  source_any_word = λ x p o words n l. word_source x p o l.place l.found ∙ read_is x p o words n l;
  source_referring = λ x p o words n l.
      ap (λ (c : Access Word). c >>= reference) (word_source x p o l.place l.found ∙ read_is x p o words n l);
  source_given = λ x p kind z. refl;
  source_plain_given = λ x p z. refl;
  source_word_given = λ x p z. refl;
  own_number = λ x p kind n. refl;
  own_word = λ x p n. refl;
  own_reference = λ x p n. refl;
  module_number = λ x p kind object words n e.
      ap (λ (c : Access (List Word)). c >>= λ ws. number_at kind ws (pos n)) (data_there x p object words e);
  module_word = λ x p object words n e. ap (λ (c : Access (List Word)). c >>= λ ws. word_at ws (pos n)) (data_there x p object words e);
  module_reference = λ x p object words n e.
      ap (λ (c : Access (List Word)). c >>= (λ ws. word_at ws (pos n)) >>= reference) (data_there x p object words e);
  middle_given = λ x p kind z. refl;
  middle_word_given = λ x p z. refl;
  no_middle = λ x p kind o. refl;
  own_middle = λ x p kind z o. refl;
  module_middle = λ x p kind z o. refl;
  given_middle = λ x p kind z o. refl;
  int_is_plain = λ words n z e.
      let h = both (word_at words (pos n)) number_in z e in plain_read words n z h.first h.is h.then;
}
