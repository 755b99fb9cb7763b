-- Texts to which words of places refer.
use Rattle.std.proofs.Common.{◌≡◌, ℕ, true, pos, List, Option, Some, refl, ap, ◌∙◌, subst}
use Rattle.heap_model.specs.Heap.{at, there as is_live}
use Rattle.limbo_types.specs.Types as ty
use Rattle.limbo_types.specs.Types.{Ty}
use Rattle.limbo_values.specs.declared.number.Kind.TheVariants as kind
use Rattle.limbo_values.specs.declared.number.Kind.TheVariants.{Int}
use Rattle.limbo_typed.specs.Typed as typed
use Rattle.limbo_meaning.specs.Process.{Shared}
use Rattle.limbo_meaning.specs.Values.{Value, Chars}
use Rattle.core_code.specs.Machine as code
use Rattle.dis_isa.specs.declared.inst.Operand as isa
use Rattle.dis_meaning.specs.Words.{Word, Refer, Found, ◌>>=◌, word_at, reference}
use Rattle.dis_meaning.specs.Process.{Process, Printing}
use Rattle.dis_memory.specs.Blocks.{World}
use Rattle.dis_memory.specs.Kinds as kinds
use Rattle.value_words.specs.Facts.{Facts, IsText}
use Rattle.value_words.specs.Stands.{Stands, a_number, a_text, a_name, an_array, no_words, a_tuple, an_adt}
use Rattle.value_moves.specs.Spots.{Leads}
use Rattle.value_follows.specs.Stands.{Ready}
use Rattle.value_follows.specs.Sides.{sides, contents, HoldTheSame}
use Rattle.number_effects.proofs.Reading.{operands_are_read}
use Rattle.block_effects.specs.Stored.{ReadsText}
use Rattle.block_effects.proofs.Referring.{references_lead}
use Rattle.value_words.specs.Stands.{IsReference}
use Rattle.rows_places.proofs.Going.{at_place_of}
use Rattle.rows_places.proofs.Arrays.{are_blocks}

-- ---- the text of a place

module _ (m : typed.Module) (k : Facts) (words : List Word) where
  pub record TextIs (at : ℕ) (v : Value) : Type 0 where
    pub refers : Option ℕ
    pub chars : List ℕ
    pub is : v ≡ Chars chars
    pub word : word_at words (pos at) ≡ Found (Refer refers)
    pub text : IsText k refers chars

  pub text_is : (at : ℕ) (t : Ty) (v : Value) → t ≡ ty.Chars → Stands m.adts k words at t v → TextIs at v
  text_is _ _ _ e (a_number at kind.Byte z g i) = absurd cc
  text_is _ _ _ e (a_number at kind.Int z g i) = absurd cc
  text_is _ _ _ e (a_number at kind.Big z g i) = absurd cc
  text_is _ _ _ e (a_text at r s g i) = record { refers = r; chars = s; is = refl; word = g; text = i }
  text_is _ _ _ e (a_name at t r n i g h) = absurd (subst IsReference e i)
  text_is _ _ _ e (an_array at t r p g i) = absurd cc
  text_is _ _ _ e (no_words at) = absurd cc
  text_is _ _ _ e (a_tuple at ts rs vs l all) = absurd cc
  text_is _ _ _ e (an_adt at n d rs vs g l all) = absurd cc

module _ (m : typed.Module) (k : Facts) (i : ℕ) (w : Shared) (x : World) (p : code.Process) (q : Process) (ready : Ready m k i x p q) (hold : HoldTheSame m k i x p q) (worlds : (sides m).worlds k w x) (pc : ℕ) (pr : Option Printing) where
  abbrev now : Process
  now = at_place_of q pc pr

  -- an operand that leads there reads the text
  pub reads_text : (o : isa.Operand) (words : List Word) (byte : ℕ) → Leads x now o words byte → (v : Value) → (text : TextIs m k words byte v)
      → ((u : ℕ) → word_at words (pos byte) ≡ Found (Refer (Some u)) → is_live (at x.heap u) ≡ true) → ReadsText x now o text.chars
  reads_text o words byte leads v text lives = (
    text.refers,
    operands_are_read.source_referring x now o words byte leads ∙ ap (λ a. a >>= reference) text.word,
    (references_lead m.adts (contents m) (are_blocks m) k w.heap x worlds.0).text text.refers text.chars text.text
        (λ u g. lives u (text.word ∙ ap (λ (r : Option ℕ). Found (Refer r)) g)),
  )

  -- the block that it refers to has it
  pub text_there : (words : List Word) (byte : ℕ) (v : Value) → (text : TextIs m k words byte v)
      → ((u : ℕ) → word_at words (pos byte) ≡ Found (Refer (Some u)) → is_live (at x.heap u) ≡ true) → kinds.text_at x text.refers ≡ Found text.chars
  text_there words byte v text lives =
      (references_lead m.adts (contents m) (are_blocks m) k w.heap x worlds.0).text text.refers text.chars text.text
      (λ u g. lives u (text.word ∙ ap (λ (r : Option ℕ). Found (Refer r)) g))
