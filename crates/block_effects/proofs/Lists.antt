-- What instructions on lists come to, and those that make channels.
use Rattle.std.proofs.Common.{◌≡◌, ℕ, ℤ, pos, ◌/◌, List, [], ◌∷◌, Option, None, Some, refl, ap, ◌∙◌}
use Rattle.dis_isa.specs.declared.inst.Inst.{Inst}
use Rattle.dis_isa.specs.declared.inst.Middle.TheVariants as middle
use Rattle.dis_isa.specs.declared.inst.Operand.{Operand}
use Rattle.dis_isa.specs.declared.op.Op.TheVariants as op
use Rattle.dis_file.specs.declared.object.Object.{Object}
use Rattle.limbo_values.specs.declared.number.Kind.{Kind}
use Rattle.limbo_values.specs.declared.number.Kind.TheVariants as kind
use Rattle.limbo_values.specs.declared.number.Kind.TheVariants.{Int}
use Rattle.limbo_values.specs.Numbers.{wrapped}
use Rattle.dis_meaning.specs.Words.{Word, Refer, Access, Found, ◌>>=◌, at_least_zero, word_number, reference, blank}
use Rattle.dis_meaning.specs.Numbers.{with_number_at}
use Rattle.dis_meaning.specs.Process.{Process}
use Rattle.dis_meaning.specs.Places.{place_in}
use Rattle.dis_memory.specs.Blocks.{Cell, Channel, World}
use Rattle.dis_memory.specs.Raising.{nil_text}
use Rattle.dis_memory.specs.Places.{spot, words_at, with_words_at, source_of, given_of, source_reference, reference_at}
use Rattle.dis_memory.specs.Operands.{immediate, middle_type, source_type}
use Rattle.dis_memory.specs.Kinds.{Linked, first_cell, list_length}
use Rattle.dis_memory.specs.Copies.{moved, put, typed_words}
use Rattle.dis_memory.specs.Lists as lists
use Rattle.dis_memory.specs.Lists.{plain_type, holder_of, conses, cons_at, channel}
use Rattle.dis_memory.specs.Process.{next}
use Rattle.dis_memory.specs.Step.{obey, type_of_size}
use Rattle.value_moves.specs.Operands.{inst}
use Rattle.value_moves.proofs.Obeying.{on, even_word}
use Rattle.block_effects.specs.Stored.{ReferenceThere, AfterBlock, ReadsCell}
use Rattle.block_effects.specs.Lists.{number_words, cons_of, head_of}
use Rattle.block_effects.specs.Lists.{CellsAreMade, HeadsAreRead, ListsAreRead, ChannelsAreMade, ListsComeAll}
use Rattle.block_effects.proofs.Giving.{number_given, number_raised, reference_given, reference_raised, block_at_is, block_given, old_reference}

module _ (limit : ℕ) (o : Object) (x : World) (p : Process) where
  -- ---- cells

  cons_obeys : (k : Kind) (i : Inst) → obey limit o x p i (cons_of k) ≡ lists.cons_number o x p i k
  cons_obeys kind.Byte i = refl
  cons_obeys kind.Int i = refl
  cons_obeys kind.Big i = refl

  number_cell : (k : Kind) (z : ℤ) → with_number_at k (holder_of k) (pos 0) z ≡ Found (number_words k z)
  number_cell kind.Byte z = refl
  number_cell kind.Int z = refl
  number_cell kind.Big z = refl

  conses_is : (i : Inst) (d : ReferenceThere x p i.dst) (element : Access (List Word)) (ws : List Word) → element ≡ Found ws
      → conses o x p i element ≡ AfterBlock x p d (Cell ws d.old)
  conses_is i d element ws e =
      on (spot x p i.dst) d.leads.place (λ t. cons_at o x p i t element) d.leads.found
      ∙ on (reference_at x p d.leads.place) d.old _ (old_reference x p i.dst d)
      ∙ block_at_is x p i.dst d _ (Cell ws d.old) (on element ws _ e)

  make : CellsAreMade limit o x p
  make = record {
    number = λ k a b m z d r.
        let i = inst (cons_of k) a m b in
        cons_obeys k i ∙ on (source_of k x p a) z _ r
        ∙ conses_is i d (with_number_at k (holder_of k) (pos 0) z) (number_words k z) (number_cell k z);
    reference = λ a b m r d e.
        on (source_reference x p a) r _ e ∙ conses_is (inst op.Consp a m b) d (Found (Refer r ∷ [])) (Refer r ∷ []) refl;
    bytes = λ a b m source element from n d s g e.
        on (spot x p a) s.place _ s.found
        ∙ on (words_at x p s.place) source _ s.among
        ∙ on (at_least_zero (place_in s.place)) from _ (ap at_least_zero s.byte)
        ∙ on (given_of Int x p m >>= at_least_zero) n _ (ap (λ (c : Access ℤ). c >>= at_least_zero) g)
        ∙ on (moved source from (blank (plain_type n)) 0 n) element _ e
        ∙ conses_is (inst op.Consm a m b) d (Found element) element refl;
    typed = λ a b m source element from desc d s even g e.
        on (spot x p a) s.place _ s.found
        ∙ on (words_at x p s.place) source _ s.among
        ∙ on (word_number (place_in s.place)) (from / 4) _ (ap word_number s.byte ∙ even_word from even)
        ∙ on (middle_type o m) desc _ g
        ∙ on (typed_words desc source (from / 4)) element _ e
        ∙ conses_is (inst op.Consmp a m b) d (Found element) element refl;
  }

  -- ---- heads

  cell_read : (a : Operand) (c : Option Linked) → ReadsCell x p a c → (source_reference x p a >>= first_cell x) ≡ Found c
  cell_read a c r = on (source_reference x p a) r.0 (first_cell x) r.1 ∙ r.2

  head_obeys : (k : Kind) (i : Inst) → obey limit o x p i (head_of k) ≡ lists.head_number o x p i k
  head_obeys kind.Byte i = refl
  head_obeys kind.Int i = refl
  head_obeys kind.Big i = refl

  head : HeadsAreRead limit o x p
  head = record {
    number = λ k a b m c z others d r e f.
        head_obeys k (inst (head_of k) a m b)
        ∙ on (source_reference x p a >>= first_cell x) (Some c) _ (cell_read a (Some c) r)
        ∙ number_given x p k b d _ z others e f;
    no_number = λ k a b m d r.
        head_obeys k (inst (head_of k) a m b)
        ∙ on (source_reference x p a >>= first_cell x) None _ (cell_read a None r)
        ∙ number_raised x p k b d _ nil_text refl;
    reference = λ a b m c r d s e.
        on (source_reference x p a >>= first_cell x) (Some c) _ (cell_read a (Some c) s)
        ∙ reference_given x p b d _ r (ap (λ (w : Access Word). w >>= reference) e);
    no_reference = λ a b m d r.
        on (source_reference x p a >>= first_cell x) None _ (cell_read a None r) ∙ reference_raised x p b d _ nil_text refl;
    bytes = λ a b m c target others to n d r g e.
        on (source_reference x p a >>= first_cell x) (Some c) _ (cell_read a (Some c) r)
        ∙ on (given_of Int x p m >>= at_least_zero) n _ (ap (λ (c : Access ℤ). c >>= at_least_zero) g)
        ∙ on (spot x p b) d.place _ d.found
        ∙ on (words_at x p d.place) target _ d.among
        ∙ on (at_least_zero (place_in d.place)) to _ (ap at_least_zero d.byte)
        ∙ ap (λ (ws : Access (List Word)). ws >>= with_words_at x p d.place >>= λ m. Found (next m)) e;
    no_bytes = λ a b m target to n d r g.
        on (source_reference x p a >>= first_cell x) None _ (cell_read a None r)
        ∙ on (given_of Int x p m >>= at_least_zero) n _ (ap (λ (c : Access ℤ). c >>= at_least_zero) g)
        ∙ on (spot x p b) d.place _ d.found
        ∙ on (words_at x p d.place) target _ d.among
        ∙ on (at_least_zero (place_in d.place)) to _ (ap at_least_zero d.byte);
    typed = λ a b m c target vs others to desc d even r g e f.
        on (source_reference x p a >>= first_cell x) (Some c) _ (cell_read a (Some c) r)
        ∙ on (middle_type o m) desc _ g
        ∙ on (spot x p b) d.place _ d.found
        ∙ on (words_at x p d.place) target _ d.among
        ∙ on (word_number (place_in d.place)) (to / 4) _ (ap word_number d.byte ∙ even_word to even)
        ∙ ap (λ (ws : Access (List Word)). ws >>= put target (to / 4) >>= with_words_at x p d.place >>= λ m. Found (next m)) e
        ∙ ap (λ (ws : Access (List Word)). ws >>= with_words_at x p d.place >>= λ m. Found (next m)) f;
    no_typed = λ a b m target to desc d even r g.
        on (source_reference x p a >>= first_cell x) None _ (cell_read a None r)
        ∙ on (middle_type o m) desc _ g
        ∙ on (spot x p b) d.place _ d.found
        ∙ on (words_at x p d.place) target _ d.among
        ∙ on (word_number (place_in d.place)) (to / 4) _ (ap word_number d.byte ∙ even_word to even);
  }

  -- ---- tails and lengths

  read : ListsAreRead limit o x p
  read = record {
    tail = λ a b m c d r.
        on (source_reference x p a >>= first_cell x) (Some c) _ (cell_read a (Some c) r) ∙ reference_given x p b d _ c.rest refl;
    no_tail = λ a b m d r.
        on (source_reference x p a >>= first_cell x) None _ (cell_read a None r) ∙ reference_raised x p b d _ nil_text refl;
    long = λ a b m r n others d e f g.
        on (source_reference x p a >>= list_length x) n _ (on (source_reference x p a) r (list_length x) e ∙ f)
        ∙ number_given x p Int b d _ (wrapped Int (pos n)) others refl g;
  }

  -- ---- channels

  make_channel : ChannelsAreMade limit o x p
  make_channel = record {
    bytes = λ a b d. block_given x p b d _ (Channel (type_of_size 1 [])) refl;
    ints = λ a b d. block_given x p b d _ (Channel (type_of_size 4 [])) refl;
    bigs = λ a b d. block_given x p b d _ (Channel (type_of_size 8 [])) refl;
    references = λ a b d. block_given x p b d _ (Channel (type_of_size 4 (128 ∷ []))) refl;
    plain = λ a b size d e. on (immediate a) size _ e ∙ block_given x p b d _ (Channel (type_of_size size [])) refl;
    typed = λ a b desc d e.
        on (source_type o a) desc (channel o x p (inst op.Newcmp a middle.None b) middle.None) e
        ∙ block_given x p b d _ (Channel desc) refl;
  }

pub lists_come : ListsComeAll
lists_come limit o x p = record {
  make = make limit o x p;
  head = head limit o x p;
  read = read limit o x p;
  channel = make_channel limit o x p;
}
