-- What instructions on strings come to.
use Rattle.std.proofs.Common.{◌≡◌, ℕ, ℤ, pos, suc, List, length, Option, Some, Result, Ok, Err, refl, ap, ◌∙◌}
use Rattle.std.specs.Prelude.{encode_utf8_all}
use Rattle.dis_isa.specs.declared.inst.Inst.{Inst}
use Rattle.dis_isa.specs.declared.inst.Middle.{Middle}
use Rattle.dis_isa.specs.declared.inst.Middle.TheVariants as middle
use Rattle.dis_isa.specs.declared.inst.Operand.{Operand}
use Rattle.dis_isa.specs.declared.op.Op.{Op}
use Rattle.dis_isa.specs.declared.op.Op.TheVariants as op
use Rattle.dis_file.specs.declared.object.Object.{Object}
use Rattle.limbo_values.specs.declared.number.Kind.TheVariants.{Int, Big}
use Rattle.limbo_values.specs.declared.operator.Comparison.{Comparison}
use Rattle.limbo_values.specs.declared.raised.Raised.{Raised}
use Rattle.limbo_values.specs.Operators.{text_of}
use Rattle.limbo_values.specs.Texts.{index_in, character_in, slice_in, joined}
use Rattle.limbo_values.specs.Conversions.{number_text, number_read}
use Rattle.system_model.specs.Verbs.{character}
use Rattle.limbo_bytes.specs.Bytes.{characters}
use Rattle.dis_meaning.specs.Words.{Access, Found, Raises, ◌>>=◌}
use Rattle.dis_meaning.specs.Process.{Process}
use Rattle.dis_memory.specs.Blocks.{Text, World}
use Rattle.dis_memory.specs.Raising.{unless_raised}
use Rattle.dis_memory.specs.Places.{spot, source_of, given_of, source_reference, middle_reference, reference_at}
use Rattle.dis_memory.specs.Operands.{target}
use Rattle.dis_memory.specs.Kinds.{Elements, text_at, elements_at}
use Rattle.dis_memory.specs.Strings.{not_longer, with_character, inserted, bytes_in, array_of, text_row, left_text, compares}
use Rattle.dis_memory.specs.Results.{gives_block, gives_block_at}
use Rattle.dis_memory.specs.Step.{obey, by_texts}
use Rattle.value_moves.specs.Operands.{inst}
use Rattle.value_moves.proofs.Obeying.{on}
use Rattle.block_effects.specs.Stored.{Comes, ReferenceThere, ReadsText, GivesText, ReadsElements, AfterBlock}
use Rattle.block_effects.specs.Strings.{TextsJoin, TextsAreRead, CharactersInsert, TextsCompare, TextsConvert, StringsComeAll}
use Rattle.block_effects.proofs.Giving.{stops, gone_well, raises, number_given, number_raised, block_at_is, block_at_raised, block_given}
use Rattle.block_effects.proofs.Giving.{block_raised, old_reference}

-- A text that comes out makes a block, or is raised.
made : (r : Result (List ℕ) Raised) (t : List ℕ) → r ≡ Ok t → (unless_raised r >>= λ t. Found (Text t)) ≡ Found (Text t)
made r t e = ap (λ (a : Access (List ℕ)). a >>= λ t. Found (Text t)) (gone_well r t e)

module _ (limit : ℕ) (o : Object) (x : World) (p : Process) where
  text_read : (a : Operand) (s : List ℕ) → ReadsText x p a s → (source_reference x p a >>= text_at x) ≡ Found s
  text_read a s r = on (source_reference x p a) r.0 (text_at x) r.1 ∙ r.2

  text_given : (m : Middle) (s : List ℕ) → GivesText x p m s → (middle_reference x p m >>= text_at x) ≡ Found s
  text_given m s r = on (middle_reference x p m) r.0 (text_at x) r.1 ∙ r.2

  own_text : (b : Operand) (s : List ℕ) (d : ReferenceThere x p b) → text_at x d.old ≡ Found s
      → (reference_at x p d.leads.place >>= text_at x) ≡ Found s
  own_text b s d e = on (reference_at x p d.leads.place) d.old (text_at x) (old_reference x p b d) ∙ e

  -- ---- joining

  left_given : (a b : Operand) (m : Middle) (s : List ℕ) → GivesText x p m s → left_text o x p (inst op.Addc a m b) m ≡ Found s
  left_given a b middle.None s r = absurd cc
  left_given a b (middle.Imm n) s r = text_given (middle.Imm n) s r
  left_given a b (middle.Fp n) s r = text_given (middle.Fp n) s r
  left_given a b (middle.Mp n) s r = text_given (middle.Mp n) s r

  left_own : (a b : Operand) (s : List ℕ) (d : ReferenceThere x p b) → text_at x d.old ≡ Found s
      → left_text o x p (inst op.Addc a middle.None b) middle.None ≡ Found s
  left_own a b s d e = on (spot x p b) d.leads.place _ d.leads.found ∙ own_text b s d e

  joins : (a b : Operand) (m : Middle) (s t both : List ℕ) (d : ReferenceThere x p b) → ReadsText x p a s
      → left_text o x p (inst op.Addc a m b) m ≡ Found t → joined t s ≡ Ok both
      → Comes limit o x p (inst op.Addc a m b) (AfterBlock x p d (Text both))
  joins a b m s t both d r e f =
      on (source_reference x p a >>= text_at x) s _ (text_read a s r)
      ∙ on (left_text o x p (inst op.Addc a m b) m) t _ e
      ∙ block_given x p b d _ (Text both) (made (joined t s) both f)

  join_raises : (a b : Operand) (m : Middle) (s t : List ℕ) (raised : Raised) → ReferenceThere x p b → ReadsText x p a s
      → left_text o x p (inst op.Addc a m b) m ≡ Found t → joined t s ≡ Err raised
      → Comes limit o x p (inst op.Addc a m b) (Raises (text_of raised))
  join_raises a b m s t raised d r e f =
      on (source_reference x p a >>= text_at x) s _ (text_read a s r)
      ∙ on (left_text o x p (inst op.Addc a m b) m) t _ e
      ∙ block_raised x p b d _ (text_of raised) (stops (unless_raised (joined t s)) _ _ (raises (joined t s) raised f))

  join : TextsJoin limit o x p
  join = record {
    both = λ a b m s t both d r g f. joins a b m s t both d r (left_given a b m t g) f;
    both_raise = λ a b m s t raised d r g f. join_raises a b m s t raised d r (left_given a b m t g) f;
    own = λ a b s t both d r g f. joins a b middle.None s t both d r (left_own a b t d g) f;
    own_raises = λ a b s t raised d r g f. join_raises a b middle.None s t raised d r (left_own a b t d g) f;
  }

  -- ---- what a text has

  read : TextsAreRead limit o x p
  read = record {
    long = λ a b m s others d r e.
        on (source_reference x p a >>= text_at x) s _ (text_read a s r) ∙ number_given x p Int b d _ (pos (length s)) others refl e;
    character = λ a b m s at code others d r g e f.
        on (source_reference x p a >>= text_at x) s _ (text_read a s r)
        ∙ on (given_of Int x p m) at _ g
        ∙ number_given x p Int b d _ code others (gone_well (character_in s at) code e) f;
    no_character = λ a b m s at raised d r g e.
        on (source_reference x p a >>= text_at x) s _ (text_read a s r)
        ∙ on (given_of Int x p m) at _ g
        ∙ number_raised x p Int b d _ (text_of raised) (raises (character_in s at) raised e);
    slice = λ a b m from to s part d r g e f.
        on (source_of Int x p a) from _ r
        ∙ on (given_of Int x p m) to _ g
        ∙ on (spot x p b) d.leads.place _ d.leads.found
        ∙ on (reference_at x p d.leads.place >>= text_at x) s _ (own_text b s d e)
        ∙ block_at_is x p b d _ (Text part) (made (slice_in s from to) part f);
    no_slice = λ a b m from to s raised d r g e f.
        on (source_of Int x p a) from _ r
        ∙ on (given_of Int x p m) to _ g
        ∙ on (spot x p b) d.leads.place _ d.leads.found
        ∙ on (reference_at x p d.leads.place >>= text_at x) s _ (own_text b s d e)
        ∙ block_at_raised x p b d _ (text_of raised) (stops (unless_raised (slice_in s from to)) _ _ (raises (slice_in s from to) raised f));
  }

  -- ---- a character more, or another

  module _ (a b : Operand) (m : Middle) (code at : ℤ) (s : List ℕ) (d : ReferenceThere x p b) (r : source_of Int x p a ≡ Found code)
      (g : given_of Int x p m ≡ Found at) (e : text_at x d.old ≡ Found s) where
    insert_at : obey limit o x p (inst op.Insc a m b) op.Insc
        ≡ gives_block_at x p d.leads.place (inserted s at code >>= λ t. Found (Text t))
    insert_at =
        on (source_of Int x p a) code _ r
        ∙ on (given_of Int x p m) at _ g
        ∙ on (spot x p b) d.leads.place _ d.leads.found
        ∙ on (reference_at x p d.leads.place >>= text_at x) s _ (own_text b s d e)

    insert_is : (k : ℕ) (t : List ℕ) → index_in (suc (length s)) at ≡ Ok k → not_longer (with_character s k (character code)) ≡ Ok t
        → (inserted s at code >>= λ t. Found (Text t)) ≡ Found (Text t)
    insert_is k t f h =
        on (inserted s at code) t _
        (on (unless_raised (index_in (suc (length s)) at)) k _ (gone_well (index_in (suc (length s)) at) k f)
        ∙ gone_well (not_longer (with_character s k (character code))) t h)

    insert_off : (raised : Raised) → index_in (suc (length s)) at ≡ Err raised
        → (inserted s at code >>= λ t. Found (Text t)) ≡ Raises (text_of raised)
    insert_off raised f =
        stops (inserted s at code) (text_of raised) _
        (stops (unless_raised (index_in (suc (length s)) at)) (text_of raised) _ (raises (index_in (suc (length s)) at) raised f))

    insert_more : (k : ℕ) (raised : Raised) → index_in (suc (length s)) at ≡ Ok k
        → not_longer (with_character s k (character code)) ≡ Err raised
        → (inserted s at code >>= λ t. Found (Text t)) ≡ Raises (text_of raised)
    insert_more k raised f h =
        stops (inserted s at code) (text_of raised) _
        (on (unless_raised (index_in (suc (length s)) at)) k _ (gone_well (index_in (suc (length s)) at) k f)
        ∙ raises (not_longer (with_character s k (character code))) raised h)

  insert : CharactersInsert limit o x p
  insert = record {
    inserted = λ a b m code at k s t d r g e f h.
        insert_at a b m code at s d r g e ∙ block_at_is x p b d _ (Text t) (insert_is a b m code at s d r g e k t f h);
    no_index = λ a b m code at s raised d r g e f.
        insert_at a b m code at s d r g e
        ∙ block_at_raised x p b d _ (text_of raised) (insert_off a b m code at s d r g e raised f);
    too_long = λ a b m code at k s raised d r g e f h.
        insert_at a b m code at s d r g e
        ∙ block_at_raised x p b d _ (text_of raised) (insert_more a b m code at s d r g e k raised f h);
  }

  -- ---- conversions

  bytes_given : (a b : Operand) (m : Middle) (es : Option Elements) (bytes : List ℕ) → ReadsElements x p a es → bytes_in es ≡ Found bytes
      → obey limit o x p (inst op.Cvtac a m b) op.Cvtac
      ≡ gives_block x p b (unless_raised (not_longer (characters 0 bytes)) >>= λ t. Found (Text t))
  bytes_given a b m es bytes r e =
      on (source_reference x p a >>= elements_at x >>= bytes_in) bytes
      (λ bs. gives_block x p b (unless_raised (not_longer (characters 0 bs)) >>= λ t. Found (Text t)))
      (on (source_reference x p a >>= elements_at x) es bytes_in (on (source_reference x p a) r.0 (elements_at x) r.1 ∙ r.2) ∙ e)

  convert : TextsConvert limit o x p
  convert = record {
    of_int = λ a b m z d r. on (source_of Int x p a) z _ r ∙ block_given x p b d _ (Text (number_text z)) refl;
    of_big = λ a b m z d r. on (source_of Big x p a) z _ r ∙ block_given x p b d _ (Text (number_text z)) refl;
    as_int = λ a b m s others d r e.
        on (source_reference x p a >>= text_at x) s _ (text_read a s r) ∙ number_given x p Int b d _ (number_read Int s) others refl e;
    as_big = λ a b m s others d r e.
        on (source_reference x p a >>= text_at x) s _ (text_read a s r) ∙ number_given x p Big b d _ (number_read Big s) others refl e;
    as_bytes = λ a b m s new d r e.
        on (source_reference x p a >>= text_at x) s _ (text_read a s r) ∙ block_given x p b d (array_of (encode_utf8_all s)) new e;
    as_bytes_raises = λ a b m s text d r e.
        on (source_reference x p a >>= text_at x) s _ (text_read a s r) ∙ block_raised x p b d (array_of (encode_utf8_all s)) text e;
    of_bytes = λ a b m es bytes s d r e f.
        bytes_given a b m es bytes r e ∙ block_given x p b d _ (Text s) (made (not_longer (characters 0 bytes)) s f);
    of_bytes_raises = λ a b m es bytes raised d r e f.
        bytes_given a b m es bytes r e
        ∙ block_raised x p b d _ (text_of raised)
        (stops (unless_raised (not_longer (characters 0 bytes))) _ _ (raises (not_longer (characters 0 bytes)) raised f));
  }

  -- ---- comparisons

  text_obeys : (f : Op) (c : Comparison) (i : Inst) → text_row f ≡ Some c → obey limit o x p i f ≡ compares o x p i c
  text_obeys op.Beqc c i e = ap (by_texts limit o x p i) e
  text_obeys op.Bnec c i e = ap (by_texts limit o x p i) e
  text_obeys op.Bltc c i e = ap (by_texts limit o x p i) e
  text_obeys op.Blec c i e = ap (by_texts limit o x p i) e
  text_obeys op.Bgtc c i e = ap (by_texts limit o x p i) e
  text_obeys op.Bgec c i e = ap (by_texts limit o x p i) e
  text_obeys f c i e = absurd cc

  compare : TextsCompare limit o x p
  compare = record {
    compares = λ f c a b m s t pc row r g e.
        text_obeys f c (inst f a m b) row
        ∙ on (source_reference x p a >>= text_at x) s _ (text_read a s r)
        ∙ on (middle_reference x p m >>= text_at x) t _ (text_given m t g)
        ∙ on (target o b) pc _ e;
  }

pub strings_come : StringsComeAll
strings_come limit o x p = record {
  join = join limit o x p;
  read = read limit o x p;
  insert = insert limit o x p;
  compare = compare limit o x p;
  convert = convert limit o x p;
}
