-- What a source gives to a place of one word: part of what a slot has, or zero.
use Rattle.std.proofs.Common.{◌≡◌, ℕ, ℤ, true, pos, ◌/◌, ◌<◌, List, [], ◌∷◌, length, Option, Some, None, refl, sym, ap, ◌∙◌, subst, arith, inl, inr}
use Rattle.std.proofs.lemmas.Int.{ints}
use Rattle.heap_model.specs.Heap.{at, there as is_live}
use Rattle.limbo_types.specs.Types as ty
use Rattle.limbo_types.specs.Types.{Ty}
use Rattle.limbo_values.specs.declared.number.Kind.TheVariants as kind
use Rattle.limbo_values.specs.Numbers.{InRange}
use Rattle.limbo_values.proofs.Ranges.{within}
use Rattle.limbo_typed.specs.Typed as typed
use Rattle.limbo_kept.specs.Operating.{HasRoom}
use Rattle.limbo_kept.specs.Places.{Leads}
use Rattle.limbo_meaning.specs.Places.{part_at}
use Rattle.limbo_meaning.specs.Process.{Shared}
use Rattle.limbo_meaning.specs.Values.{Value, Num, Ref, nothing, fitted}
use Rattle.core_code.specs.Machine as code
use Rattle.core_code.specs.Slots as core
use Rattle.core_typing.specs.Held as held
use Rattle.core_typing.specs.Held.{type_held}
use Rattle.core_typing.specs.Needs.{StandsAs}
use Rattle.dis_isa.specs.declared.inst.Operand as isa
use Rattle.dis_isa.specs.declared.inst.Operand.TheVariants as operand
use Rattle.dis_isa.specs.declared.inst.Middle.TheVariants as middle
use Rattle.dis_meaning.specs.Words.{Word, Plain, Refer, Access, Found, ◌>>=◌, word_at, number_in, reference}
use Rattle.dis_meaning.specs.Process.{Process, Printing}
use Rattle.dis_memory.specs.Blocks.{World}
use Rattle.dis_memory.specs.Places.{source_of, source_plain, source_reference}
use Rattle.value_words.specs.Facts.{Facts}
use Rattle.value_words.specs.Stands.{Stands}
use Rattle.value_words.proofs.Bytes.{word_found}
use Rattle.value_words.proofs.Wholes.{stands_whole}
use Rattle.value_frames.specs.Frames.{AsReference, form_of}
use Rattle.value_moves.specs.Operands.{inst}
use Rattle.value_moves.proofs.Leading.{spots_lead}
use Rattle.value_code.specs.Data.{nil_word}
use Rattle.value_code.specs.Objects.{globals, placed}
use Rattle.value_code.specs.Operands.{part_in_slot}
use Rattle.value_code.specs.Code.{Site, put, put_or_zero}
use Rattle.number_effects.proofs.Reading.{operands_are_read}
use Rattle.value_follows.specs.Stands.{Ready}
use Rattle.value_follows.specs.Sides.{sides, HoldTheSame}
use Rattle.value_follows.specs.Rows.{Base}
use Rattle.value_follows.proofs.Standing.{instance_here}
use Rattle.value_follows.proofs.Slots.{number_there}
use Rattle.rows_places.specs.Rows.{IsSimple}
use Rattle.rows_places.proofs.Words.{zero_stands, fits_word, same_form, same_number_type, nil_word_refers}
use Rattle.rows_places.proofs.Going.{at_place_of}
use Rattle.rows_places.proofs.Last.{simple_op}
use Rattle.rows_places.proofs.Sources.{scene, slot_reads, source_is, SourceIs}

-- ---- the instruction

pub put_simple : (c : Site) (t : Ty) (d : isa.Operand) (taken : List ℕ) (from : ℕ) → IsSimple t
    → put c t d taken from ≡ inst (simple_op t) (part_in_slot c.scene (c.told from) taken from) middle.None d ∷ []
put_simple c ty.Byte d taken from s = refl
put_simple c ty.Int d taken from s = refl
put_simple c ty.Chars d taken from s = refl
put_simple c ty.Nil d taken from s = refl
put_simple c (ty.ArrayOf t) d taken from s = refl
put_simple c (ty.ListOf t) d taken from s = refl
put_simple c (ty.ChanOf t) d taken from s = refl
put_simple c (ty.RefAdt a) d taken from s = refl
put_simple c (ty.RefPick a j) d taken from s = refl
put_simple c (ty.Module a) d taken from s = refl
put_simple c t d taken from (inl e) = absurd cc
put_simple c t d taken from (inr e) = absurd cc

pub put_value : (c : Site) (u t : Ty) (d : isa.Operand) (taken : List ℕ) (from : ℕ) → (u ≡ ty.Nothing → ⊥)
    → put_or_zero c u t d taken from ≡ put c t d taken from
put_value c ty.Nothing t d taken from some = absurd (some refl)
put_value c u t d taken from some = refl

-- zero of a type, as a source
abbrev pub zero_source : Ty → isa.Operand
zero_source ty.Byte = operand.Imm (pos 0)
zero_source ty.Int = operand.Imm (pos 0)
zero_source t = nil_word

pub zero_simple : (c : Site) (t : Ty) (d : isa.Operand) (taken : List ℕ) (from : ℕ) → IsSimple t
    → put_or_zero c ty.Nothing t d taken from ≡ inst (simple_op t) (zero_source t) middle.None d ∷ []
zero_simple c ty.Byte d taken from s = refl
zero_simple c ty.Int d taken from s = refl
zero_simple c ty.Chars d taken from s = refl
zero_simple c ty.Nil d taken from s = refl
zero_simple c (ty.ArrayOf t) d taken from s = refl
zero_simple c (ty.ListOf t) d taken from s = refl
zero_simple c (ty.ChanOf t) d taken from s = refl
zero_simple c (ty.RefAdt a) d taken from s = refl
zero_simple c (ty.RefPick a j) d taken from s = refl
zero_simple c (ty.Module a) d taken from s = refl
zero_simple c t d taken from (inl e) = absurd cc
zero_simple c t d taken from (inr e) = absurd cc

-- ---- what it gives

module _ (m : typed.Module) (k : Facts) (i : ℕ) (w : Shared) (x : World) (p : code.Process) (q : Process) (ready : Ready m k i x p q) (hold : HoldTheSame m k i x p q) (worlds : (sides m).worlds k w x) (pc : ℕ) (pr : Option Printing) where
  abbrev now : Process
  now = at_place_of q pc pr

  pub record GivesByte (o : isa.Operand) (v : Value) : Type 0 where
    pub z : ℤ
    pub read : source_of kind.Byte x now o ≡ Found z
    pub range : InRange kind.Byte z
    pub is : v ≡ Num z

  pub record GivesInt (o : isa.Operand) (v : Value) : Type 0 where
    pub z : ℤ
    pub word : Word
    pub plainly : source_plain x now o ≡ Found word
    pub number : number_in word ≡ Found z
    pub range : InRange kind.Int z
    pub is : v ≡ Num z

  pub record GivesReference (o : isa.Operand) (t : Ty) (v : Value) : Type 0 where
    pub refers : Option ℕ
    pub read : source_reference x now o ≡ Found refers
    pub stands : (others : List Word) (to : ℕ) → word_at others (pos to) ≡ Found (Refer refers) → Stands m.adts k others to t v
    pub lives : (b : ℕ) → refers ≡ Some b → is_live (at x.heap b) ≡ true

  -- A source gives a value of a type, by its form.
  pub record Gives (o : isa.Operand) (t : Ty) (v : Value) : Type 0 where
    pub byte : t ≡ ty.Byte → GivesByte o v
    pub int : t ≡ ty.Int → GivesInt o v
    pub reference : form_of t ≡ AsReference → GivesReference o t v

  -- part of what a slot has
  module _ (from : ℕ) (below : from < length p.frame.slots) (u : Ty) (known : type_held (held.slot ready.stands.is.known from) ≡ Some u)
      (room : HasRoom m.adts u) (taken : List ℕ) (y t : Ty) (leads : Leads m.adts u taken y) (fits : StandsAs y t) (simple : IsSimple t) where
    abbrev val : Value
    val = part_at taken (core.value_of (core.slot p.frame.slots from))

    abbrev pub source_here : isa.Operand
    source_here = part_in_slot (scene m k i w x p q ready hold worlds pc pr from below u known room (globals m)) u taken from

    is_simple : IsSimple t → IsSimple y
    is_simple (inl e) = inl (same_form y t fits ∙ e)
    is_simple (inr e) = inr (same_form y t fits ∙ e)

    source : SourceIs m k i w x p q ready hold worlds pc pr source_here y val
    source =
        let slot = slot_reads m k i w x p q ready hold worlds pc pr from below u known in
        subst (λ z. SourceIs m k i w x p q ready hold worlds pc pr source_here y (part_at taken z)) (sym slot.holds)
        (source_is m k i w x p q ready hold worlds pc pr from below u known room (globals m) slot taken y leads (is_simple simple))

    pub slot_gives : Gives source_here t (fitted m.adts t val)
    slot_gives =
        let s = source in
        let whole : y ≡ t → val ≡ fitted m.adts t val = λ e.
        stands_whole m.adts k s.words s.at t val (subst (λ n. Stands m.adts k s.words s.at n val) e s.stands) in
        record {
          byte = λ e.
              let same : y ≡ ty.Byte = same_number_type y t (ap form_of e) fits ∙ e in
              let z = number_there m.adts k s.words s.at y val kind.Byte same s.stands in
              record {
                z = z.number;
                read = operands_are_read.source_number x now source_here s.words s.at kind.Byte s.leads ∙ z.found;
                range = z.range;
                is = sym (whole (same ∙ sym e)) ∙ z.is;
              };
          int = λ e.
              let same : y ≡ ty.Int = same_number_type y t (ap form_of e) fits ∙ e in
              let z = number_there m.adts k s.words s.at y val kind.Int same s.stands in
              let plainly = operands_are_read.int_is_plain s.words s.at z.number z.found in
              record {
                z = z.number;
                word = plainly.0;
                plainly = operands_are_read.source_plain_word x now source_here s.words s.at s.leads ∙ plainly.1;
                number = plainly.2;
                range = z.range;
                is = sym (whole (same ∙ sym e)) ∙ z.is;
              };
          reference = λ form.
              let one = fits_word m.adts k s.words s.at y t val form fits s.stands in
              record {
                refers = one.refers;
                read = operands_are_read.source_referring x now source_here s.words s.at s.leads
                    ∙ ap (λ (a : Access Word). a >>= reference) one.word;
                stands = one.elsewhere;
                lives = λ b e. s.lives b (s.at / 4)
                    (word_found s.words s.at (Refer (Some b)) (one.word ∙ ap (λ (r : Option ℕ). Found (Refer r)) e)).1;
              };
        }

  -- or zero
  module _ (b : Base m) (t : Ty) (simple : IsSimple t) where
    zero_range_byte : InRange kind.Byte (pos 0)
    zero_range_byte = record { above = omega (arith, ints); below = omega (arith, ints) }

    zero_range_int : InRange kind.Int (pos 0)
    zero_range_int = record { above = omega (arith, ints); below = omega (arith, ints) }

    nil_read : source_reference x now nil_word ≡ Found None
    nil_read =
        let instance = instance_here m b k i w x p q [] ready.stands.is hold worlds.0 in
        operands_are_read.source_referring x now nil_word instance.0 4 (spots_lead.of_module x now 0 instance.0 4 instance.1).0
        ∙ ap (λ (a : Access Word). a >>= reference)
        (nil_word_refers m.adts k instance.0 4 ty.Nil (Ref None) refl (instance.2 (placed m 4 ty.Nil (Ref None)) (inr (inl refl))).stands)

    pub zero_gives : Gives (zero_source t) t (fitted m.adts t nothing)
    zero_gives = record {
      byte = λ e. subst (λ u. GivesByte (zero_source u) (fitted m.adts u nothing)) (sym e) (record {
        z = pos 0;
        read = operands_are_read.source_given x now kind.Byte (pos 0) ∙ ap (λ (z : ℤ). Found z) (within kind.Byte (pos 0) zero_range_byte);
        range = zero_range_byte;
        is = ap (λ (z : ℤ). Num z) (within kind.Byte (pos 0) zero_range_byte);
      });
      int = λ e. subst (λ u. GivesInt (zero_source u) (fitted m.adts u nothing)) (sym e) (record {
        z = pos 0;
        word = Plain (pos 0);
        plainly = operands_are_read.source_plain_given x now (pos 0);
        number = refl;
        range = zero_range_int;
        is = ap (λ (z : ℤ). Num z) (within kind.Int (pos 0) zero_range_int);
      });
      reference = λ form. subst (λ o. GivesReference o t (fitted m.adts t nothing)) (sym (nil_source t form)) (record {
        refers = None;
        read = nil_read;
        stands = λ others to e. zero_stands m.adts k others to t form e;
        lives = λ b e. absurd cc;
      });
    }
      where
        nil_source : (t : Ty) → form_of t ≡ AsReference → zero_source t ≡ nil_word
        nil_source ty.Byte e = absurd cc
        nil_source ty.Int e = absurd cc
        nil_source t e = refl
