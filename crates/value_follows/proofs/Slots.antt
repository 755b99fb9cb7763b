-- What slots have that an instruction reads: numbers, and decisions.
use Rattle.std.proofs.Common.{◌≡◌, ℕ, ℤ, Bool, zero, suc, pos, ◌<◌, List, [], ◌∷◌, length, Some, refl, sym, ap, ◌∙◌, subst, arith, inl, inr}
use Rattle.std.specs.Prelude.{slice_get, slice_index_or}
use Rattle.limbo_types.specs.Types as ty
use Rattle.limbo_types.specs.Types.{Ty}
use Rattle.limbo_layout.specs.Adts.{Def, Has}
use Rattle.limbo_values.specs.declared.number.Kind.{Kind}
use Rattle.limbo_values.specs.declared.number.Kind.TheVariants as kind
use Rattle.limbo_values.specs.Numbers.{InRange}
use Rattle.limbo_typed.specs.Typed as typed
use Rattle.limbo_typed.specs.Fitting.{of_kind, IsVariantOf}
use Rattle.limbo_meaning.specs.Values.{Value, Num}
use Rattle.core_code.specs.Machine as code
use Rattle.core_code.specs.Slots as core
use Rattle.core_code.specs.Slots.{Slot, Holds}
use Rattle.core_code.specs.Code.{Instr}
use Rattle.core_code.specs.Using.{Uses}
use Rattle.core_code.proofs.Used.{slots_are_there}
use Rattle.core_typing.specs.Held as held
use Rattle.core_typing.specs.Held.{Held, Of, Forming, Decided, Turns, type_held}
use Rattle.core_typing.specs.Needs.{IsA, StandsAs}
use Rattle.limbo_meaning.specs.Program.{routine_of}
use Rattle.dis_meaning.specs.Words.{Word, Access, Found, ◌>>=◌, number_in}
use Rattle.dis_meaning.specs.Numbers.{number_at}
use Rattle.dis_meaning.specs.Process.{Frame}
use Rattle.dis_memory.specs.Blocks.{World}
use Rattle.value_words.specs.Facts.{Facts}
use Rattle.value_words.specs.Stands.{IsReference, Stands, a_number, a_text, a_name, an_array, no_words, a_tuple, an_adt}
use Rattle.value_frames.specs.Frames.{AsNumber, form_of, number_place, reference_place}
use Rattle.value_frames.specs.Standing.{SlotStands, truth}
use Rattle.value_frames.proofs.Rest.{slots_rest}
use Rattle.value_code.specs.Objects.{of_function}
use Rattle.value_follows.specs.Stands.{types_of, FrameIs}
use Rattle.value_follows.proofs.Standing.{same_some}

pub there_below : {A : Type 0} (xs : List A) (s : ℕ) (d : A) → s < length xs → slice_get xs s ≡ Some (slice_index_or xs s d)
there_below [] s d l = absurd (omega (arith, l))
there_below (x ∷ xs) zero d l = refl
there_below (x ∷ xs) (suc s) d l = there_below xs s d (omega (arith, l))

-- ---- types of numbers

no_variant : (u : Ty) (k : Kind) → IsVariantOf u (of_kind k) → ⊥
no_variant (ty.RefPick n v) kind.Byte e = absurd cc
no_variant (ty.RefPick n v) kind.Int e = absurd cc
no_variant (ty.RefPick n v) kind.Big e = absurd cc
no_variant _ k e = e

no_nil : (u : Ty) (k : Kind) → StandsAs u (of_kind k) → u ≡ of_kind k
no_nil u k (inl (inl e)) = e
no_nil u k (inl (inr v)) = absurd (no_variant u k v)
no_nil u kind.Byte (inr n) = absurd n.1
no_nil u kind.Int (inr n) = absurd n.1
no_nil u kind.Big (inr n) = absurd n.1

pub of_type : (h : Held) (u : Ty) → type_held h ≡ Some u → (live : List ℕ) × (h ≡ Of u live)
of_type (Of t ns) u e = (ns, ap (λ v. Of v ns) (same_some t u e))
of_type (Forming t v ks us ns) u e = absurd cc
of_type (Decided b) u e = absurd cc
of_type (Turns rs) u e = absurd cc

same_kind : (j k : Kind) → of_kind j ≡ of_kind k → j ≡ k
same_kind kind.Byte kind.Byte e = refl
same_kind kind.Byte kind.Int e = absurd cc
same_kind kind.Byte kind.Big e = absurd cc
same_kind kind.Int kind.Byte e = absurd cc
same_kind kind.Int kind.Int e = refl
same_kind kind.Int kind.Big e = absurd cc
same_kind kind.Big kind.Byte e = absurd cc
same_kind kind.Big kind.Int e = absurd cc
same_kind kind.Big kind.Big e = refl

module _ (defs : List Def) (k : Facts) (words : List Word) where
  -- a number stands at a byte
  pub record NumberAt (at : ℕ) (j : Kind) (v : Value) : Type 0 where
    pub number : ℤ
    pub is : v ≡ Num number
    pub found : number_at j words (pos at) ≡ Found number
    pub range : InRange j number

  pub number_there : (at : ℕ) (t : Ty) (v : Value) (j : Kind) → t ≡ of_kind j → Stands defs k words at t v → NumberAt at j v
  number_there _ _ _ j e (a_number at l z f r) =
      subst (λ h. NumberAt at h (Num z)) (same_kind l j e) (record { number = z; is = refl; found = f; range = r })
  number_there _ _ _ kind.Byte e (a_text at r s f i) = absurd cc
  number_there _ _ _ kind.Int e (a_text at r s f i) = absurd cc
  number_there _ _ _ kind.Big e (a_text at r s f i) = absurd cc
  number_there _ _ _ kind.Byte e (a_name at t r n i f g) = absurd (subst IsReference e i)
  number_there _ _ _ kind.Int e (a_name at t r n i f g) = absurd (subst IsReference e i)
  number_there _ _ _ kind.Big e (a_name at t r n i f g) = absurd (subst IsReference e i)
  number_there _ _ _ kind.Byte e (an_array at t r p f i) = absurd cc
  number_there _ _ _ kind.Int e (an_array at t r p f i) = absurd cc
  number_there _ _ _ kind.Big e (an_array at t r p f i) = absurd cc
  number_there _ _ _ kind.Byte e (no_words at) = absurd cc
  number_there _ _ _ kind.Int e (no_words at) = absurd cc
  number_there _ _ _ kind.Big e (no_words at) = absurd cc
  number_there _ _ _ kind.Byte e (a_tuple at ts rs vs l a) = absurd cc
  number_there _ _ _ kind.Int e (a_tuple at ts rs vs l a) = absurd cc
  number_there _ _ _ kind.Big e (a_tuple at ts rs vs l a) = absurd cc
  number_there _ _ _ kind.Byte e (an_adt at n d rs vs f l a) = absurd cc
  number_there _ _ _ kind.Int e (an_adt at n d rs vs f l a) = absurd cc
  number_there _ _ _ kind.Big e (an_adt at n d rs vs f l a) = absurd cc

held_number : (l : Slot) (v : Value) (z : ℤ) → l ≡ Holds v → v ≡ Num z → l ≡ Holds (Num z)
held_number l v z e f = e ∙ ap Holds f

-- ---- slots of a frame

module _ (m : typed.Module) (k : Facts) (i : ℕ) (x : World) (busy : List ℕ) (g : code.Frame) (f : Frame) (is : FrameIs m k i x busy g f) where
  abbrev pub types : List Ty
  types = types_of m is.function

  -- an instruction there names slots that the frame has
  pub uses : (pc : ℕ) (instr : Instr) → slice_get (of_function m is.function).code pc ≡ Some instr → Uses (length g.slots) instr
  uses pc instr e = subst (λ n. Uses n instr) (sym is.many) (slots_are_there m.adts (routine_of is.function) pc instr e)

  pub slot_is : (s : ℕ) → s < length g.slots → (Has busy s → ⊥)
      → SlotStands m.adts k x.heap f.serial f.words (number_place m.adts types s) (reference_place m.adts types s)
      (held.slot is.known s) (core.slot g.slots s) (is.words.own s)
  slot_is s l free =
      let e = is.words.as_many in
      is.words.each s (held.slot is.known s) (core.slot g.slots s) free (there_below is.known s held.empty (omega (arith, l, e)))
      (there_below g.slots s core.empty l)

  -- A slot has a number where one is asked for.
  pub record NumberIs (j : Kind) (s : ℕ) : Type 0 where
    pub number : ℤ
    pub holds : core.slot g.slots s ≡ Holds (Num number)
    pub found : number_at j f.words (pos (number_place m.adts types s)) ≡ Found number
    pub range : InRange j number

  pub number_is : (j : Kind) (s : ℕ) → form_of (of_kind j) ≡ AsNumber → s < length g.slots → (Has busy s → ⊥) → IsA is.known s (of_kind j)
      → NumberIs j s
  number_is j s form l free a =
      let u : a.0 ≡ of_kind j = no_nil a.0 j a.2 in
      let h = of_type (held.slot is.known s) a.0 a.1 in
      let same : held.slot is.known s ≡ Of (of_kind j) h.0 = h.1 ∙ ap (λ t. Of t h.0) u in
      let n = number_place m.adts types s in
      let r = reference_place m.adts types s in
      let own = is.words.own s in
      let stands = subst (λ h. SlotStands m.adts k x.heap f.serial f.words n r h (core.slot g.slots s) own) same (slot_is s l free) in
      let v = slots_rest.is_value m.adts k x.heap f.serial f.words n r (of_kind j) h.0 (core.slot g.slots s) own stands in
      let reads = slots_rest.reads m.adts k x.heap f.serial f.words n r (of_kind j) h.0 v.0 own
      (subst (λ o. SlotStands m.adts k x.heap f.serial f.words n r (Of (of_kind j) h.0) o own) v.1 stands) in
      let z = number_there m.adts k f.words n (of_kind j) v.0 j refl (reads.number form) in
      record {
        number = z.number;
        holds = held_number (core.slot g.slots s) v.0 z.number v.1 z.is;
        found = z.found;
        range = z.range;
      }

  -- Or what was decided.
  pub record DecisionIs (b : Bool) (s : ℕ) : Type 0 where
    pub holds : core.slot g.slots s ≡ Holds (Num (truth b))
    pub found : number_at kind.Int f.words (pos (number_place m.adts types s)) ≡ Found (truth b)

  pub decision_is : (b : Bool) (s : ℕ) → s < length g.slots → (Has busy s → ⊥) → held.slot is.known s ≡ Decided b → DecisionIs b s
  decision_is b s l free e =
      let n = number_place m.adts types s in
      let r = reference_place m.adts types s in
      let d = slots_rest.is_decision m.adts k x.heap f.serial f.words n r b (core.slot g.slots s) (is.words.own s)
      (subst (λ h. SlotStands m.adts k x.heap f.serial f.words n r h (core.slot g.slots s) (is.words.own s)) e (slot_is s l free)) in
      record { holds = d.0; found = ap (λ (a : Access Word). a >>= number_in) d.1 }
