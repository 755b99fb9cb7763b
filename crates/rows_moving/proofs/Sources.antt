-- Where a value that is read from a slot, or part of it, stands in the machine.
use Rattle.std.proofs.Common.{◌≡◌, ℕ, pos, ◌+◌, ◌*◌, ◌/◌, ◌<◌, true, List, [], ◌∷◌, length, Option, Some, None, refl, sym, ap, ◌∙◌, subst, arith, inl, inr}
use Rattle.std.proofs.Math.Nat.{zero-mod}
use Rattle.heap_model.specs.Heap.{at, there}
use Rattle.limbo_types.specs.Types as ty
use Rattle.limbo_types.specs.Types.{Ty}
use Rattle.limbo_layout.specs.Adts.{Def}
use Rattle.limbo_layout.specs.Layout.{Laid}
use Rattle.limbo_values.specs.declared.number.Kind.TheVariants as kind
use Rattle.limbo_typed.specs.Typed as typed
use Rattle.limbo_typed.specs.Fitting.{HasPart}
use Rattle.limbo_kept.specs.Operating.{HasRoom}
use Rattle.limbo_kept.specs.Places.{Leads}
use Rattle.limbo_meaning.specs.Process.{Shared}
use Rattle.limbo_meaning.specs.Places.{part_at}
use Rattle.limbo_meaning.specs.Values.{Value, Ref, fitted, zero_of}
use Rattle.core_code.specs.Machine as code
use Rattle.core_code.specs.Slots as core
use Rattle.core_code.specs.Slots.{Slot, Holds}
use Rattle.core_code.proofs.Rounds.{rounds_give_rooms}
use Rattle.core_typing.specs.Held as held
use Rattle.core_typing.specs.Held.{Held, Of, Forming, Decided, Turns, type_held}
use Rattle.core_typing.specs.Needs.{StandsAs, MayBeNil}
use Rattle.dis_isa.specs.declared.inst.Operand as isa
use Rattle.dis_isa.specs.declared.inst.Operand.TheVariants as operand
use Rattle.dis_meaning.specs.Words.{Word, Refer, Found, word_at}
use Rattle.dis_meaning.specs.Process.{Process}
use Rattle.dis_memory.specs.Blocks.{Block, World, Record}
use Rattle.value_words.specs.Facts.{Facts}
use Rattle.value_words.specs.Stands.{Stands, a_number, a_text, a_name, an_array, no_words, a_tuple, an_adt}
use Rattle.value_words.proofs.Bytes.{word_found}
use Rattle.value_words.proofs.Wholes.{stands_whole}
use Rattle.value_heaps.proofs.Words.{named_by}
use Rattle.value_frames.specs.Frames.{AsNumber, AsReference, Boxed, form_of, number_place, reference_place, room_for, within}
use Rattle.value_frames.specs.Standing.{SlotStands, IsBox}
use Rattle.value_frames.specs.Rest.{SlotReads}
use Rattle.value_frames.proofs.Rest.{slots_rest}
use Rattle.value_moves.specs.Spots as spots
use Rattle.value_moves.specs.Writing.{Lies}
use Rattle.value_moves.proofs.Leading.{spots_lead}
use Rattle.value_stores.proofs.Parts.{parts_lie}
use Rattle.value_code.specs.Operands.{Scene, part_in_slot, in_slot, by_form}
use Rattle.value_follows.specs.Stands.{Ready, types_of}
use Rattle.value_follows.specs.Sides.{sides, HoldTheSame}
use Rattle.value_follows.proofs.Standing.{same_some}
use Rattle.value_follows.proofs.Slots.{slot_is}
use Rattle.rows_moving.specs.Rows.{IsSimple}
use Rattle.rows_moving.proofs.References.{one_word, zero_stands}
use Rattle.rows_moving.proofs.Variables.{has_path}

-- ---- types that stand where others are asked for

pub of_type : (h : Held) (u : Ty) → type_held h ≡ Some u → (live : List ℕ) × (h ≡ Of u live)
of_type (Of t ns) u e = (ns, ap (λ v. Of v ns) (same_some t u e))
of_type (Forming t v ks us ns) u e = absurd cc
of_type (Decided b) u e = absurd cc
of_type (Turns rs) u e = absurd cc

nil_form : (t : Ty) → MayBeNil t → form_of t ≡ AsReference
nil_form (ty.ArrayOf t) h = refl
nil_form (ty.ListOf t) h = refl
nil_form (ty.ChanOf t) h = refl
nil_form (ty.RefAdt a) h = refl
nil_form (ty.RefPick a j) h = refl
nil_form (ty.Module a) h = refl
nil_form t h = absurd h

-- a value that stands for one of a type has its form
pub same_form : (u t : Ty) → StandsAs u t → form_of u ≡ form_of t
same_form u t (inl (inl e)) = ap form_of e
same_form (ty.RefPick a j) t (inl (inr e)) = sym (ap form_of e)
same_form u t (inl (inr e)) = absurd e
same_form u t (inr n) = ap form_of n.0 ∙ sym (nil_form t n.1)

-- and a number is of the type itself
pub same_number_type : (u t : Ty) → form_of t ≡ AsNumber → StandsAs u t → u ≡ t
same_number_type u t e (inl (inl f)) = f
same_number_type (ty.RefPick a j) t e (inl (inr f)) = absurd (let g = ap form_of f in cc)
same_number_type u t e (inl (inr f)) = absurd f
same_number_type u t e (inr n) = absurd (let g = nil_form t n.1 in cc)

nil_fits : (defs : List Def) (t : Ty) → MayBeNil t → fitted defs t (Ref None) ≡ zero_of defs t
nil_fits defs (ty.ArrayOf t) h = refl
nil_fits defs (ty.ListOf t) h = refl
nil_fits defs (ty.ChanOf t) h = refl
nil_fits defs (ty.RefAdt a) h = refl
nil_fits defs (ty.RefPick a j) h = refl
nil_fits defs (ty.Module a) h = refl
nil_fits defs t h = absurd h

module _ (defs : List Def) (k : Facts) (words : List Word) where
  -- a reference stands in one word, also for the type where it is asked for
  pub record FitsWord (at : ℕ) (t : Ty) (v : Value) : Type 0 where
    pub refers : Option ℕ
    pub word : word_at words (pos at) ≡ Found (Refer refers)
    pub elsewhere : (others : List Word) (to : ℕ) → word_at others (pos to) ≡ Found (Refer refers) → Stands defs k others to t (fitted defs t v)

  same_type : (at : ℕ) (t : Ty) (v : Value) → form_of t ≡ AsReference → Stands defs k words at t v → FitsWord at t v
  same_type at t v form s =
      let one = one_word defs k words at t v form s in
      record {
        refers = one.refers;
        word = one.word;
        elsewhere = λ others to e.
            subst (λ u. Stands defs k others to t u) (stands_whole defs k words at t v s) (one.elsewhere others to e);
      }

  variant : (at : ℕ) (u : Ty) (a j : ℕ) (v : Value) → u ≡ ty.RefPick a j → Stands defs k words at u v → FitsWord at (ty.RefAdt a) v
  variant _ _ a j _ e (a_number at kind.Byte z f i) = absurd cc
  variant _ _ a j _ e (a_number at kind.Int z f i) = absurd cc
  variant _ _ a j _ e (a_number at kind.Big z f i) = absurd cc
  variant _ _ a j _ e (a_text at r s f i) = absurd cc
  variant _ _ a j _ e (a_name at (ty.RefPick c l) r n i f h) =
      let same : c ≡ a = cc in
      subst (λ d. FitsWord at (ty.RefAdt d) (Ref n)) same
      (record { refers = r; word = f; elsewhere = λ others to g. a_name to (ty.RefAdt c) r n tt g h })
  variant _ _ a j _ e (a_name at t r n i f h) = absurd cc
  variant _ _ a j _ e (an_array at t r p f i) = absurd cc
  variant _ _ a j _ e (no_words at) = absurd cc
  variant _ _ a j _ e (a_tuple at ts rs vs l all) = absurd cc
  variant _ _ a j _ e (an_adt at n d rs vs f l all) = absurd cc

  nil_word : (at : ℕ) (t : Ty) → MayBeNil t → word_at words (pos at) ≡ Found (Refer None) → FitsWord at t (Ref None)
  nil_word at t h w = record {
    refers = None;
    word = w;
    elsewhere = λ others to e.
        subst (λ v. Stands defs k others to t v) (sym (nil_fits defs t h)) (zero_stands defs k others to t (nil_form t h) e);
  }

  nil_there : (at : ℕ) (u t : Ty) (v : Value) → u ≡ ty.Nil → MayBeNil t → Stands defs k words at u v → FitsWord at t v
  nil_there _ _ t _ e h (a_number at kind.Byte z f i) = absurd cc
  nil_there _ _ t _ e h (a_number at kind.Int z f i) = absurd cc
  nil_there _ _ t _ e h (a_number at kind.Big z f i) = absurd cc
  nil_there _ _ t _ e h (a_text at r s f i) = absurd cc
  nil_there _ _ t _ e h (a_name at ty.Nil None None i f g) = nil_word at t h f
  nil_there _ _ t _ e h (a_name at ty.Nil (Some b) None i f g) = absurd g
  nil_there _ _ t _ e h (a_name at ty.Nil None (Some n) i f g) = absurd g
  nil_there _ _ t _ e h (a_name at ty.Nil (Some b) (Some n) i f g) = absurd g
  nil_there _ _ t _ e h (a_name at u r n i f g) = absurd cc
  nil_there _ _ t _ e h (an_array at u r p f i) = absurd cc
  nil_there _ _ t _ e h (no_words at) = absurd cc
  nil_there _ _ t _ e h (a_tuple at ts rs vs l all) = absurd cc
  nil_there _ _ t _ e h (an_adt at n d rs vs f l all) = absurd cc

  pub fits_word : (at : ℕ) (u t : Ty) (v : Value) → form_of t ≡ AsReference → StandsAs u t → Stands defs k words at u v → FitsWord at t v
  fits_word at u t v form (inl (inl e)) s = same_type at t v form (subst (λ y. Stands defs k words at y v) e s)
  fits_word at (ty.RefPick a j) t v form (inl (inr e)) s = subst (λ y. FitsWord at y v) (sym e) (variant at (ty.RefPick a j) a j v refl s)
  fits_word at u t v form (inl (inr e)) s = absurd e
  fits_word at u t v form (inr n) s = nil_there at u t v n.0 n.1 s

-- ---- what stands in a slot, and where part of it does

pub has_parts : (defs : List Def) (t : Ty) (n : ℕ) (u : Ty) → HasPart defs t n u → form_of t ≡ Boxed
has_parts defs (ty.Tuple ts) n u h = refl
has_parts defs (ty.Adt a) n u h = refl
has_parts defs t n u h = absurd h

pub there_is : {A : Type 0} (o : Option A) → there o ≡ true → (a : A) × (o ≡ Some a)
there_is None e = absurd cc
there_is (Some a) e = (a, refl)

module _ (m : typed.Module) (k : Facts) (i : ℕ) (w : Shared) (x : World) (p : code.Process) (q : Process) (ready : Ready m k i x p q) (hold : HoldTheSame m k i x p q) (worlds : (sides m).worlds k w x) where
  abbrev types : List Ty
  types = types_of m ready.stands.is.function

  -- A value of a type stands where an operand leads to.
  pub record SourceIs (o : isa.Operand) (u : Ty) (v : Value) : Type 0 where
    pub words : List Word
    pub at : ℕ
    pub leads : spots.Leads x q o words at
    pub stands : Stands m.adts k words at u v

  -- the box of a slot has its words
  box_there : (r b : ℕ) (inner : List Word) (t : Ty) → word_at q.frame.words (pos r) ≡ Found (Refer (Some b)) → IsBox m.adts k t b inner
      → at x.heap b ≡ Some (Record inner)
  box_there r b inner t e box =
      let named = named_by q.frame.words (r / 4) b (word_found q.frame.words r (Refer (Some b)) e).1 in
      let block = there_is (at x.heap b) (hold.same.live b (omega (arith, named))) in
      block.1 ∙ ap (λ (c : Block). Some c) (worlds.0.carriers b (Record inner) block.0 box.carries block.1).0

  box_lies : (inner : List Word) (b : ℕ) (t : Ty) (v : Value) → HasRoom m.adts t → IsBox m.adts k t b inner → Stands m.adts k inner 0 t v
      → Lies m.adts k inner 0 t (room_for m.adts t) v
  box_lies inner b t v room box stands =
      let many = box.kind.many in
      record {
        laid = subst (Laid m.adts t) (sym (rounds_give_rooms.rooms m.adts t room.0 room.1)) room.1;
        aligned = zero-mod (room_for m.adts t).align;
        whole = (λ w h. let below = h.1 in omega (arith, many, below), box.kind.ranged);
        only = λ w to e h. (4 * w, box.kind.only w to e, omega arith);
        stands = stands;
      }

  module _ (s : ℕ) (l : s < length p.frame.slots) (t : Ty) (known : type_held (held.slot ready.stands.is.known s) ≡ Some t) (room : HasRoom m.adts t) where
    abbrev n_at : ℕ
    n_at = number_place m.adts types s

    abbrev r_at : ℕ
    r_at = reference_place m.adts types s

    abbrev own_blocks : List ℕ
    own_blocks = ready.stands.is.words.own s

    pub record SlotIs : Type 0 where
      pub value : Value
      pub live : List ℕ
      pub holds : core.value_of (core.slot p.frame.slots s) ≡ value
      pub reads : SlotReads m.adts k q.frame.words n_at r_at t live value own_blocks

    pub slot_reads : SlotIs
    slot_reads =
        let h = of_type (held.slot ready.stands.is.known s) t known in
        let stands = subst (λ h. SlotStands m.adts k x.heap q.frame.serial q.frame.words n_at r_at h (core.slot p.frame.slots s) own_blocks) h.1
        (slot_is m k i x [] p.frame q.frame ready.stands.is s l (λ e. e)) in
        let v = slots_rest.is_value m.adts k x.heap q.frame.serial q.frame.words n_at r_at t h.0 (core.slot p.frame.slots s) own_blocks stands in
        record {
          value = v.0;
          live = h.0;
          holds = ap core.value_of v.1;
          reads = slots_rest.reads m.adts k x.heap q.frame.serial q.frame.words n_at r_at t h.0 v.0 own_blocks
              (subst (λ o. SlotStands m.adts k x.heap q.frame.serial q.frame.words n_at r_at (Of t h.0) o own_blocks) v.1 stands);
        }

    module _ (globals : List Ty) where
      abbrev scene : Scene
      scene = record { adts = m.adts; globals = globals; variables = types }

      whole : (is : SlotIs) → IsSimple t → SourceIs (in_slot scene t s) t is.value
      whole is (inl form) =
          subst (λ f. SourceIs (by_form scene f s) t is.value) (sym form)
          (record { words = q.frame.words; at = n_at; leads = (spots_lead.own x q n_at).0; stands = is.reads.number form })
      whole is (inr form) =
          subst (λ f. SourceIs (by_form scene f s) t is.value) (sym form)
          (record { words = q.frame.words; at = r_at; leads = (spots_lead.own x q r_at).0; stands = is.reads.reference form })

      boxed : (is : SlotIs) (part : List ℕ) (u : Ty) → form_of t ≡ Boxed → Leads m.adts t part u
          → SourceIs (operand.IndFp (pos r_at) (pos (within m.adts t part))) u (part_at part is.value)
      boxed is part u form leads =
          let box = is.reads.boxed form in
          let path = has_path m.adts t part u leads in
          let lies = parts_lie.there m.adts k box.1 0 t part is.value path.0 (box_lies box.1 box.0 t is.value room box.3 box.4) in
          record {
            words = box.1;
            at = within m.adts t part;
            leads = (spots_lead.inner x q r_at box.0 box.1 (within m.adts t part) box.2 (box_there r_at box.0 box.1 t box.2 box.3)).0;
            stands = subst (λ o. Stands m.adts k box.1 o u (part_at part is.value)) (omega arith)
                (subst (λ y. Stands m.adts k box.1 (0 + within m.adts t part) y (part_at part is.value)) path.1 lies.stands);
          }

      pub source_is : (is : SlotIs) (part : List ℕ) (u : Ty) → Leads m.adts t part u → IsSimple u
          → SourceIs (part_in_slot scene t part s) u (part_at part is.value)
      source_is is [] u leads simple =
          subst (λ y. SourceIs (in_slot scene t s) y is.value) leads (whole is (subst IsSimple (sym leads) simple))
      source_is is (n ∷ ns) u leads simple =
          boxed is (n ∷ ns) u (has_parts m.adts t n leads.0 leads.1) leads
