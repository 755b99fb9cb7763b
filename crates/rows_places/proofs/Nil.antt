-- What instructions raise where a word refers to nothing.
use Rattle.std.proofs.Common.{◌≡◌, ℕ, ℤ, pos, Option, None, refl, sym, ap, ◌∙◌, subst, inl, inr}
use Rattle.limbo_types.specs.Types as ty
use Rattle.limbo_types.specs.Types.{Ty}
use Rattle.limbo_values.specs.declared.number.Kind.{Kind}
use Rattle.limbo_values.specs.declared.number.Kind.TheVariants as kind
use Rattle.limbo_typed.specs.Typed as typed
use Rattle.limbo_meaning.specs.Process.{Shared}
use Rattle.limbo_meaning.specs.Values.{Value}
use Rattle.core_code.specs.Machine as code
use Rattle.dis_isa.specs.declared.inst.Operand as isa
use Rattle.dis_isa.specs.declared.inst.Middle.TheVariants as middle
use Rattle.dis_isa.specs.declared.op.Op.TheVariants as op
use Rattle.dis_file.specs.declared.object.Object.{Object}
use Rattle.dis_meaning.specs.Words.{Word, Refer, Access, Found, Raises, ◌>>=◌, word_at, plain, reference}
use Rattle.dis_meaning.specs.Process.{Process}
use Rattle.dis_meaning.specs.Places.{Spot}
use Rattle.dis_memory.specs.Blocks.{World}
use Rattle.dis_memory.specs.Raising.{nil_text, unless_raised}
use Rattle.dis_memory.specs.Kinds.{text_at}
use Rattle.limbo_values.specs.Texts.{character_in}
use Rattle.dis_isa.specs.declared.inst.Middle.{Middle}
use Rattle.dis_memory.specs.Places as places
use Rattle.dis_memory.specs.Places.{read_number}
use Rattle.dis_memory.specs.Results.{gives_number, gives_number_at, gives_plain_at, gives_reference, gives_reference_at}
use Rattle.dis_meaning.specs.Process.{Printing}
use Rattle.rows_places.proofs.Going.{at_place_of}
use Rattle.rows_places.proofs.Last.{reference_op}
use Rattle.rows_places.proofs.Giving.{Gives, GivesByte, GivesInt, GivesReference}
use Rattle.dis_memory.specs.Step.{obey}
use Rattle.value_words.specs.Facts.{Facts}
use Rattle.value_frames.specs.Frames.{AsNumber, AsReference, form_of}
use Rattle.value_moves.specs.Operands.{inst, behind}
use Rattle.value_follows.specs.Stands.{Ready}
use Rattle.value_follows.specs.Sides.{sides, HoldTheSame}
use Rattle.rows_places.specs.Rows.{IsSimple}
use Rattle.rows_places.proofs.Last.{simple_op}

-- ---- what raises where a word refers to nothing

module _ (limit : ℕ) (o : Object) (x : World) (p : Process) (r off : ℕ) (none : word_at p.frame.words (pos r) ≡ Found (Refer None)) (d : isa.Operand) where
  nil_kind : (j : Kind) → (places.source_of j x p (behind r off) >>= λ s. gives_number x p j d (Found s)) ≡ Raises nil_text
  nil_kind j =
      ap (λ (a : Access Word). ((a >>= λ w. places.behind w (pos off)) >>= read_number j x p) >>= λ s. gives_number x p j d (Found s)) none

  pub nil_raises : (t : Ty) → IsSimple t → obey limit o x p (inst (simple_op t) (behind r off) middle.None d) (simple_op t) ≡ Raises nil_text
  nil_raises t (inl e) = go t e
    where
      go : (t : Ty) → form_of t ≡ AsNumber → obey limit o x p (inst (simple_op t) (behind r off) middle.None d) (simple_op t) ≡ Raises nil_text
      go ty.Byte e = nil_kind kind.Byte
      go ty.Int e =
          ap (λ (a : Access Word). ((a >>= λ w. places.behind w (pos off)) >>= λ s. places.read x p s >>= plain) >>= λ v.
          places.spot x p d >>= λ e. gives_plain_at x p e (Found v)) none
      go t e = absurd cc
  nil_raises t (inr e) = go t e
    where
      by_reference : obey limit o x p (inst op.Movp (behind r off) middle.None d) op.Movp ≡ Raises nil_text
      by_reference =
          ap (λ (a : Access Word). (((a >>= λ w. places.behind w (pos off)) >>= places.read x p) >>= reference) >>= λ v.
          gives_reference x p d (Found v)) none

      go : (t : Ty) → form_of t ≡ AsReference → obey limit o x p (inst (simple_op t) (behind r off) middle.None d) (simple_op t) ≡ Raises nil_text
      go ty.Chars e = by_reference
      go ty.Nil e = by_reference
      go (ty.ArrayOf t) e = by_reference
      go (ty.ListOf t) e = by_reference
      go (ty.ChanOf t) e = by_reference
      go (ty.RefAdt a) e = by_reference
      go (ty.RefPick a j) e = by_reference
      go (ty.Module a) e = by_reference
      go t e = absurd cc

  -- ---- the same of a string's character

  pub nil_indexed : (mid : Middle) → obey limit o x p (inst op.Indc (behind r off) mid d) op.Indc ≡ Raises nil_text
  nil_indexed mid =
      ap (λ (a : Access Word). ((((a >>= λ w. places.behind w (pos off)) >>= places.read x p) >>= reference) >>= text_at x) >>= λ s.
      places.given_of kind.Int x p mid >>= λ at. gives_number x p kind.Int d (unless_raised (character_in s at))) none

-- ---- the same of destinations, once the source is read

module _ (m : typed.Module) (k : Facts) (i : ℕ) (w : Shared) (x : World) (p : code.Process) (q : Process) (ready : Ready m k i x p q) (hold : HoldTheSame m k i x p q) (worlds : (sides m).worlds k w x) (pc : ℕ) (pr : Option Printing)
    (limit : ℕ) (o : Object) (r off : ℕ) (none : word_at q.frame.words (pos r) ≡ Found (Refer None)) (source : isa.Operand) (t : Ty) (v : Value) where
  abbrev now : Process
  now = at_place_of q pc pr

  abbrev into : Access Word → Access Spot
  into a = a >>= λ w. places.behind w (pos off)

  byte_stops : GivesByte m k i w x p q ready hold worlds pc pr source v → obey limit o x now (inst op.Movb source middle.None (behind r off)) op.Movb ≡ Raises nil_text
  byte_stops g =
      ap (λ (a : Access ℤ). a >>= λ s. gives_number x now kind.Byte (behind r off) (Found s)) g.read
      ∙ ap (λ (a : Access Word). into a >>= λ d. gives_number_at x now kind.Byte d (Found g.z)) none

  int_stops : GivesInt m k i w x p q ready hold worlds pc pr source v → obey limit o x now (inst op.Movw source middle.None (behind r off)) op.Movw ≡ Raises nil_text
  int_stops g =
      ap (λ (a : Access Word). a >>= λ c. places.spot x now (behind r off) >>= λ d. gives_plain_at x now d (Found c)) g.plainly
      ∙ ap (λ (a : Access Word). into a >>= λ d. gives_plain_at x now d (Found g.word)) none

  reference_stops : GivesReference m k i w x p q ready hold worlds pc pr source t v
      → obey limit o x now (inst op.Movp source middle.None (behind r off)) op.Movp ≡ Raises nil_text
  reference_stops g =
      ap (λ (a : Access (Option ℕ)). a >>= λ c. gives_reference x now (behind r off) (Found c)) g.read
      ∙ ap (λ (a : Access Word). into a >>= λ d. gives_reference_at x now d (Found g.refers)) none

  pub nil_stores : IsSimple t → Gives m k i w x p q ready hold worlds pc pr source t v
      → obey limit o x now (inst (simple_op t) source middle.None (behind r off)) (simple_op t) ≡ Raises nil_text
  nil_stores (inl e) g = go t refl e
    where
      go : (u : Ty) → t ≡ u → form_of u ≡ AsNumber → obey limit o x now (inst (simple_op u) source middle.None (behind r off)) (simple_op u) ≡ Raises nil_text
      go ty.Byte f h = byte_stops (g.byte f)
      go ty.Int f h = int_stops (g.int f)
      go u f h = absurd cc
  nil_stores (inr e) g =
      subst (λ c. obey limit o x now (inst c source middle.None (behind r off)) c ≡ Raises nil_text) (sym (reference_op t e)) (reference_stops (g.reference e))
