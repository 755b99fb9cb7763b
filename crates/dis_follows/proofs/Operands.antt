-- What an instruction reads.
use Rattle.std.proofs.Common.{◌≡◌, ℕ, ◌<◌, ◌≤◌, ℤ, pos, negsuc, Bool, true, false, List, [], refl, sym, ap, ◌∙◌, subst, arith}
use Rattle.std.specs.Prelude.{slice_get, nat_le}
use Rattle.std.proofs.lemmas.Int.{ints}
use Rattle.std.proofs.lemmas.Bool.{le-leb}
use Rattle.limbo_values.specs.declared.number.Kind.{Kind}
use Rattle.limbo_values.specs.declared.number.Kind.TheVariants.{Byte, Int, Big}
use Rattle.limbo_values.specs.Numbers.{InRange}
use Rattle.limbo_values.proofs.Ranges.{within}
use Rattle.system_model.specs.Values.{Num}
use Rattle.typed_meaning.specs.World as program
use Rattle.typed_meaning.specs.World.{global_of}
use Rattle.typed_meaning.specs.Values.{number_of}
use Rattle.slot_code.specs.Code.{Spot, Variable, Global, Temporary, Argument, Operand, In, Number, Function, Module}
use Rattle.slot_code.specs.Machine as machine
use Rattle.slot_code.specs.Machine.{value_of}
use Rattle.dis_meaning.specs.Words.{Found, ◌>>=◌, dead_address, or_wrong}
use Rattle.dis_meaning.specs.Numbers.{number_at, immediate_as}
use Rattle.dis_meaning.specs.World.{World}
use Rattle.dis_meaning.specs.Process.{Process}
use Rattle.dis_meaning.specs.Places.{Data, data_at, data_of, read_number, source_of, given_of}
use Rattle.dis_objects.specs.Frames.{Callee, count}
use Rattle.dis_objects.specs.Code.{Context, spot_kind, place_of, as_middle, global_place, source, middle_of, number_source, number_middle}
use Rattle.dis_objects.specs.Code.{fits_source, fits_middle, source_data, middle_data, unless_fits, number_datum}
use Rattle.dis_objects.specs.Proper.{IsRead, IsTaken}
use Rattle.dis_follows.specs.Stands.{Known, HasNumbers, HasData, HasDatum, WorldStands, context_of}

-- The data are the words of the first block.
pub data_are : (m : Module) (k : Known) (w : program.World) (x : World) → (s : WorldStands m k w x) → data_at x 0 ≡ Found s.words
data_are m k w x s = ap (λ bs. or_wrong dead_address (slice_get bs 0) >>= data_of) s.blocks

-- What fits no immediate is no byte.
byte_fits : (z : ℤ) → InRange Byte z → (fits_source z ≡ true) × (fits_middle z ≡ true)
byte_fits (pos n) r =
    let below = r.below in
    let few : n ≤ 255 = omega (arith, ints, below) in
    (le_true n 536870911 (omega (arith, few)), le_true n 32767 (omega (arith, few)))
  where
    le_true : (a b : ℕ) → a ≤ b → nat_le a b ≡ true
    le_true a b l = le-leb a b l
byte_fits (negsuc n) r = let above = r.above in absurd (omega (arith, ints, above))

module _ (m : Module) (k : Known) (w : program.World) (x : World) (ws : WorldStands m k w x) (g : machine.Frame) (r : Process)
    (f : Function)
    (cs : List Callee) (h : HasNumbers m f cs g r.frame.words) (instance : r.frame.instance ≡ 0) (first : g.instance ≡ 0) where
  abbrev C : Context
  C = context_of m g f

  -- What stands at a place of the data, and of the frame.
  pub at_data : (j : Kind) (at : ℕ) (z : ℤ) → number_at j ws.words (pos at) ≡ Found z → read_number j x r (Data (pos at)) ≡ Found z
  at_data j at z e =
      ap (λ n. data_at x n >>= λ words. number_at j words (pos at)) instance
      ∙ ap (λ a. a >>= λ words. number_at j words (pos at)) (data_are m k w x ws) ∙ e

  -- A place that is read, with its number.
  pub record Reads (j : Kind) (s : Spot) : Type 0 where
    pub number : ℤ
    pub range : InRange j number
    pub is : value_of w g (In s) ≡ Num number
    pub as_source : source_of j x r (place_of C [] s) ≡ Found number
    pub as_given : given_of j x r (as_middle (place_of C [] s)) ≡ Found number

  pub reads : (s : Spot) → IsRead m f s → ((j : Kind) (n : ℕ) → s ≡ Temporary j n → n < count j f.code) → Reads (spot_kind s) s
  reads (Variable j y) e few =
      let v = h.variables y j e in record { number = v.number; range = v.range; is = v.is; as_source = v.there; as_given = v.there }
  reads (Global j y) e few =
      let v = ws.has.variables y j e.0 e.1 e.2 in
      let there = at_data j (global_place m.globals j y) v.number v.there in
      record {
        number = v.number;
        range = v.range;
        is = ap (λ i. number_of j (global_of w i y)) first ∙ v.is;
        as_source = there;
        as_given = there;
      }
  reads (Temporary j n) e few =
      let v = h.temporaries j n (few j n refl) in
      record { number = v.number; range = v.range; is = v.is; as_source = v.there; as_given = v.there }
  reads (Argument j i) e few = absurd e

  -- ---- an operand of a kind, whose number is an immediate or stands in the data

  pub record Taken (j : Kind) (o : Operand) (at : ℕ) : Type 0 where
    pub number : ℤ
    pub range : InRange j number
    pub is : value_of w g o ≡ Num number
    pub reads : source_of j x r (source C o at) ≡ Found number

  pub record Middled (j : Kind) (o : Operand) (at : ℕ) : Type 0 where
    pub number : ℤ
    pub range : InRange j number
    pub is : value_of w g o ≡ Num number
    pub reads : given_of j x r (middle_of C o at) ≡ Found number

  immediate_is : (j : Kind) (z : ℤ) → InRange j z → immediate_as j z ≡ z
  immediate_is Byte z r = within Byte z r
  immediate_is Int z r = refl
  immediate_is Big z r = refl

  -- A datum of a kind other than byte.
  datum_is : (j : Kind) (z : ℤ) (at : ℕ) → (j ≡ Byte → ⊥) → HasDatum m ws.words at (number_datum j z)
      → number_at j ws.words (pos at) ≡ Found z
  datum_is Byte z at ne d = absurd (ne refl)
  datum_is Int z at ne d = d
  datum_is Big z at ne d = d

  abbrev pub Few : Operand → Type 0
  Few o = (j : Kind) (n : ℕ) → o ≡ In (Temporary j n) → n < count j f.code

  pub taken : (j : Kind) (o : Operand) (at : ℕ) → IsTaken m f j o → Few o → HasData m ws.words at (source_data j o) → Taken j o at
  taken j (In s) at t few d =
      let v = reads s t.0 (λ i n e. few i n (ap In e)) in
      let kind : spot_kind s ≡ j = t.1 in
      record {
        number = v.number;
        range = subst (λ i. InRange i v.number) kind v.range;
        is = v.is;
        reads = subst (λ i. source_of i x r (place_of C [] s) ≡ Found v.number) kind v.as_source;
      }
  taken j (Number z) at t few d = record { number = z; range = t; is = refl; reads = go (fits_source z) refl d }
    where
      go : (b : Bool) → fits_source z ≡ b → HasData m ws.words at (unless_fits b (number_datum j z))
          → source_of j x r (number_source b z at) ≡ Found z
      go true e d = ap Found (immediate_is j z t)
      go false e d = at_data j at z (datum_is j z at (λ q. no_byte q) d.0)
        where
          no_byte : j ≡ Byte → ⊥
          no_byte q = let b : true ≡ false = sym (byte_fits z (subst (λ i. InRange i z) q t)).0 ∙ e in cc

  pub middled : (j : Kind) (o : Operand) (at : ℕ) → IsTaken m f j o → Few o → HasData m ws.words at (middle_data j o) → Middled j o at
  middled j (In s) at t few d =
      let v = reads s t.0 (λ i n e. few i n (ap In e)) in
      let kind : spot_kind s ≡ j = t.1 in
      record {
        number = v.number;
        range = subst (λ i. InRange i v.number) kind v.range;
        is = v.is;
        reads = subst (λ i. given_of i x r (as_middle (place_of C [] s)) ≡ Found v.number) kind v.as_given;
      }
  middled j (Number z) at t few d = record { number = z; range = t; is = refl; reads = go (fits_middle z) refl d }
    where
      go : (b : Bool) → fits_middle z ≡ b → HasData m ws.words at (unless_fits b (number_datum j z))
          → given_of j x r (number_middle b z at) ≡ Found z
      go true e d = ap Found (immediate_is j z t)
      go false e d = at_data j at z (datum_is j z at (λ q. no_byte q) d.0)
        where
          no_byte : j ≡ Byte → ⊥
          no_byte q = let b : true ≡ false = sym (byte_fits z (subst (λ i. InRange i z) q t)).1 ∙ e in cc
