-- Values that have a record of their own in slots, moved by one instruction: where they come from, and that they lie where they go.
use Rattle.std.proofs.Common.{◌≡◌, ◌⊎◌, ℕ, true, pos, ◌+◌, ◌*◌, ◌/◌, ◌%◌, ◌<◌, ◌≤◌, List, [], ◌∷◌, length, Option, Some, None, refl, sym, ap, ◌∙◌, subst, arith, inl, inr}
use Rattle.std.specs.Prelude.{slice_get, ◌-◌}
use Rattle.heap_model.specs.Heap.{at, there as is_live}
use Rattle.limbo_types.specs.Types as ty
use Rattle.limbo_types.specs.Types.{Ty}
use Rattle.limbo_typed.specs.Typed as typed
use Rattle.limbo_kept.specs.Operating.{HasRoom}
use Rattle.limbo_kept.specs.Places.{Leads}
use Rattle.limbo_meaning.specs.Places.{part_at}
use Rattle.limbo_meaning.specs.Process.{Shared}
use Rattle.limbo_meaning.specs.Values.{Value, fitted}
use Rattle.core_code.specs.Machine as code
use Rattle.core_code.specs.Slots.{slot, value_of}
use Rattle.core_typing.specs.Held as held
use Rattle.core_typing.specs.Held.{type_held}
use Rattle.core_typing.specs.Needs.{StandsAs, MayBeNil}
use Rattle.dis_isa.specs.declared.inst.Operand as isa
use Rattle.dis_isa.specs.declared.inst.Operand.TheVariants as operand
use Rattle.dis_meaning.specs.Words.{Word, Plain, Refer, Address}
use Rattle.dis_meaning.specs.Process.{Process, Printing}
use Rattle.dis_memory.specs.Blocks.{World}
use Rattle.value_words.specs.Contents.{content, content_of, content_in, Reference}
use Rattle.value_words.specs.Facts.{Facts}
use Rattle.value_words.proofs.Wholes.{stands_whole}
use Rattle.value_frames.specs.Frames.{Boxed, form_of, room_for, within, reference_place}
use Rattle.value_moves.specs.Operands.{moved}
use Rattle.value_moves.specs.Spots as spots
use Rattle.value_moves.specs.Writing.{Lies, Writes}
use Rattle.value_moves.proofs.Changing.{low_or_high}
use Rattle.value_code.specs.Data.{OfRecord}
use Rattle.value_code.specs.Objects.{globals}
use Rattle.value_code.specs.Operands.{Scene, part_in_slot, by_form}
use Rattle.value_code.specs.Code.{Site, put}
use Rattle.value_follows.specs.Stands.{Ready, types_of}
use Rattle.value_follows.specs.Sides.{sides, HoldTheSame}
use Rattle.rows_places.proofs.Words.{has_parts}
use Rattle.rows_places.proofs.Going.{at_place_of}
use Rattle.rows_places.proofs.Sources.{slot_reads, boxed}

-- ---- words that refer, where bytes were written

refers_so : (o : Option Word) (n : ℕ) (r : Option ℕ) (j : ℕ) → content_in o n ≡ Some (Reference r j) → o ≡ Some (Refer r)
refers_so None n r j e = absurd cc
refers_so (Some (Plain z)) n r j e = absurd cc
refers_so (Some (Refer s)) n r j e = let same : s ≡ r = cc in ap (λ (q : Option ℕ). Some (Refer q)) same
refers_so (Some (Address place to)) n r j e = absurd cc

-- each comes from what was there, or from what was written
pub written_from : (target others source : List Word) (to from size : ℕ) → Writes target others to source from size → (u wd : ℕ)
    → slice_get others wd ≡ Some (Refer (Some u))
    → (slice_get target wd ≡ Some (Refer (Some u))) ⊎ ((v : ℕ) × (slice_get source v ≡ Some (Refer (Some u))))
written_from target others source to from size w u wd e = by_byte (low_or_high (4 * wd) to)
  where
    first : content others (4 * wd) ≡ Some (Reference (Some u) 0)
    first =
        ap (λ n. content_in (slice_get others n) ((4 * wd) % 4)) (omega arith) ∙ ap (λ c. content_in c ((4 * wd) % 4)) e
        ∙ ap (λ n. Some (content_of (Refer (Some u)) n)) (omega arith)

    unwritten : (4 * wd < to) ⊎ (to + size ≤ 4 * wd) → slice_get target wd ≡ Some (Refer (Some u))
    unwritten l =
        ap (slice_get target) (omega arith)
        ∙ refers_so (slice_get target ((4 * wd) / 4)) ((4 * wd) % 4) (Some u) 0 (sym (w.bytes (4 * wd) l) ∙ first)

    by_byte : (4 * wd < to) ⊎ (to ≤ 4 * wd) → (slice_get target wd ≡ Some (Refer (Some u))) ⊎ ((v : ℕ) × (slice_get source v ≡ Some (Refer (Some u))))
    by_byte (inl low) = inl (unwritten (inl low))
    by_byte (inr high) = within (low_or_high (4 * wd) (to + size))
      where
        within : (4 * wd < to + size) ⊎ (to + size ≤ 4 * wd)
            → (slice_get target wd ≡ Some (Refer (Some u))) ⊎ ((v : ℕ) × (slice_get source v ≡ Some (Refer (Some u))))
        within (inr past) = inl (unwritten (inr past))
        within (inl inside) =
            let o = 4 * wd - to in
            let same : to + o ≡ 4 * wd = omega (arith, high) in
            inr (
              (from + o) / 4,
              refers_so (slice_get source ((from + o) / 4)) ((from + o) % 4) (Some u) 0
                  (sym (w.there o (omega (arith, high, inside))) ∙ ap (content others) same ∙ first),
            )

-- ---- types and instructions

pub whole_type : (u t : Ty) → form_of t ≡ Boxed → StandsAs u t → u ≡ t
whole_type u t e (inl (inl f)) = f
whole_type (ty.RefPick a j) t e (inl (inr f)) = absurd (let g = ap form_of f in cc)
whole_type u t e (inl (inr f)) = absurd f
whole_type u t e (inr n) = absurd (nil_form t n.1 e)
  where
    nil_form : (t : Ty) → MayBeNil t → form_of t ≡ Boxed → ⊥
    nil_form (ty.ArrayOf t) h e = absurd cc
    nil_form (ty.ListOf t) h e = absurd cc
    nil_form (ty.ChanOf t) h e = absurd cc
    nil_form (ty.RefAdt a) h e = absurd cc
    nil_form (ty.RefPick a j) h e = absurd cc
    nil_form (ty.Module a) h e = absurd cc
    nil_form t h e = absurd h

pub put_whole : (c : Site) (t : Ty) (d : isa.Operand) (taken : List ℕ) (from : ℕ) → form_of t ≡ Boxed
    → put c t d taken from ≡ moved c.scene.adts t (c.type_number (OfRecord t)) (part_in_slot c.scene (c.told from) taken from) d
put_whole c ty.Big d taken from e = refl
put_whole c (ty.Tuple ts) d taken from e = refl
put_whole c (ty.Adt j) d taken from e = refl
put_whole c t d taken from e = absurd cc

-- ---- a value that lies somewhere, as a source

module _ (m : typed.Module) (k : Facts) (i : ℕ) (w : Shared) (x : World) (p : code.Process) (q : Process) (ready : Ready m k i x p q) (hold : HoldTheSame m k i x p q) (worlds : (sides m).worlds k w x) (pc : ℕ) (pr : Option Printing) where
  abbrev now : Process
  now = at_place_of q pc pr

  pub record LiesThere (o : isa.Operand) (t : Ty) (v : Value) : Type 0 where
    pub words : List Word
    pub byte : ℕ
    pub leads : spots.Leads x now o words byte
    pub lies : Lies m.adts k words byte t (room_for m.adts t) v
    pub lives : (u wd : ℕ) → slice_get words wd ≡ Some (Refer (Some u)) → is_live (at x.heap u) ≡ true

  -- part of what a slot has
  module _ (from : ℕ) (below : from < length p.frame.slots) (u : Ty) (known : type_held (held.slot ready.stands.is.known from) ≡ Some u)
      (room : HasRoom m.adts u) (taken : List ℕ) (y t : Ty) (leads : Leads m.adts u taken y) (fits : StandsAs y t) (form : form_of t ≡ Boxed) where
    abbrev val : Value
    val = part_at taken (value_of (slot p.frame.slots from))

    abbrev sight : Scene
    sight = record { adts = m.adts; globals = globals m; variables = types_of m ready.stands.is.function }

    boxed_form : (taken : List ℕ) → Leads m.adts u taken t → form_of u ≡ Boxed
    boxed_form [] l = ap form_of l ∙ form
    boxed_form (n ∷ ns) l = has_parts m.adts u n l.0 l.1

    operand_is : (taken : List ℕ) → form_of u ≡ Boxed
        → operand.IndFp (pos (reference_place m.adts (types_of m ready.stands.is.function) from)) (pos (within m.adts u taken)) ≡ part_in_slot sight u taken from
    operand_is [] e = ap (λ f. by_form sight f from) (sym e)
    operand_is (n ∷ ns) e = refl

    pub whole_form : form_of u ≡ Boxed
    whole_form = boxed_form taken (subst (Leads m.adts u taken) (whole_type y t form fits) leads)

    pub slot_lies : LiesThere (part_in_slot sight u taken from) t (fitted m.adts t val)
    slot_lies =
        let same = whole_type y t form fits in
        let leads' = subst (Leads m.adts u taken) same leads in
        let e = boxed_form taken leads' in
        let is = slot_reads m k i w x p q ready hold worlds pc pr from below u known in
        let s = boxed m k i w x p q ready hold worlds pc pr from below u known room (globals m) is taken t e leads' in
        subst (λ o. LiesThere o t (fitted m.adts t val)) (operand_is taken e)
        (subst (λ v. LiesThere (operand.IndFp (pos (reference_place m.adts (types_of m ready.stands.is.function) from)) (pos (within m.adts u taken))) t v)
        (stands_whole m.adts k s.words s.at t (part_at taken is.value) s.lies.stands ∙ ap (λ v. fitted m.adts t (part_at taken v)) (sym is.holds))
        (record { words = s.words; byte = s.at; leads = s.leads; lies = s.lies; lives = s.lives }))
