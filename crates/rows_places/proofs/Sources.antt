-- Where a value that is read from a slot, or part of it, stands in the machine.
use Rattle.std.proofs.Common.{◌≡◌, ℕ, pos, ◌+◌, ◌*◌, ◌/◌, ◌<◌, true, List, [], ◌∷◌, length, Option, Some, sym, ap, ◌∙◌, subst, arith, inl, inr}
use Rattle.std.proofs.Math.Nat.{zero-mod}
use Rattle.heap_model.specs.Heap.{at, in_one, there as is_live}
use Rattle.std.specs.Prelude.{slice_get}
use Rattle.limbo_types.specs.Types.{Ty}
use Rattle.limbo_layout.specs.Layout.{Laid}
use Rattle.limbo_typed.specs.Typed as typed
use Rattle.limbo_kept.specs.Operating.{HasRoom}
use Rattle.limbo_kept.specs.Places.{Leads}
use Rattle.limbo_meaning.specs.Process.{Shared}
use Rattle.limbo_meaning.specs.Places.{part_at}
use Rattle.limbo_meaning.specs.Values.{Value}
use Rattle.core_code.specs.Machine as code
use Rattle.core_code.specs.Slots as core
use Rattle.core_code.specs.Slots.{Slot, Holds}
use Rattle.core_code.proofs.Rounds.{rounds_give_rooms}
use Rattle.core_typing.specs.Held as held
use Rattle.core_typing.specs.Held.{Held, Of, Decided, Turns, type_held}
use Rattle.dis_isa.specs.declared.inst.Operand as isa
use Rattle.dis_isa.specs.declared.inst.Operand.TheVariants as operand
use Rattle.dis_meaning.specs.Words.{Word, Refer, Found, word_at}
use Rattle.dis_meaning.specs.Process.{Process, Printing}
use Rattle.dis_memory.specs.Blocks.{Block, World, Record}
use Rattle.value_words.specs.Facts.{Facts}
use Rattle.value_words.specs.Stands.{Stands}
use Rattle.value_words.proofs.Bytes.{word_found}
use Rattle.value_heaps.proofs.Words.{named_by}
use Rattle.value_frames.specs.Frames.{Boxed, form_of, number_place, reference_place, room_for, within}
use Rattle.value_frames.specs.Standing.{SlotStands, IsBox}
use Rattle.value_frames.specs.Rest.{SlotReads}
use Rattle.value_frames.proofs.Rest.{slots_rest}
use Rattle.value_moves.specs.Spots as spots
use Rattle.value_moves.specs.Writing.{Lies}
use Rattle.value_moves.proofs.Leading.{spots_lead}
use Rattle.value_stores.proofs.Parts.{parts_lie}
use Rattle.value_code.specs.Operands.{Scene, part_in_slot, in_slot, by_form}
use Rattle.value_follows.specs.Stands.{Ready, types_of}
use Rattle.value_follows.specs.Sides.{sides, contents, HoldTheSame}
use Rattle.value_follows.proofs.Slots.{slot_is}
use Rattle.rows_places.proofs.Going.{at_place_of}
use Rattle.rows_places.specs.Rows.{IsSimple}
use Rattle.rows_places.proofs.Words.{has_path, has_parts, there_is, of_type}

module _ (m : typed.Module) (k : Facts) (i : ℕ) (w : Shared) (x : World) (p : code.Process) (q : Process) (ready : Ready m k i x p q) (hold : HoldTheSame m k i x p q) (worlds : (sides m).worlds k w x) (pc : ℕ) (pr : Option Printing) where
  abbrev there : Process
  there = at_place_of q pc pr

  abbrev types : List Ty
  types = types_of m ready.stands.is.function

  abbrev at_heap : ℕ → Option Block
  at_heap n = at x.heap n

  -- what the frame refers to is there, and what a block that is there does
  own_lives : (b wd : ℕ) → slice_get q.frame.words wd ≡ Some (Refer (Some b)) → is_live (at_heap b) ≡ true
  own_lives b wd e =
      let named = named_by q.frame.words wd b e in
      hold.same.live b (hold.same.roots b (omega (arith, named)))

  pub inner_lives : (n b wd : ℕ) (inner : List Word) → at x.heap n ≡ Some (Record inner) → slice_get inner wd ≡ Some (Refer (Some b))
      → is_live (at_heap b) ≡ true
  inner_lives n b wd inner e f =
      worlds.0.closed.closed n b (ap is_live e)
      (subst (λ (o : Option Block). 0 < in_one (contents m).words o b) (sym e) (named_by inner wd b f))

  -- A value of a type stands where an operand leads to.
  pub record SourceIs (o : isa.Operand) (u : Ty) (v : Value) : Type 0 where
    pub words : List Word
    pub at : ℕ
    pub leads : spots.Leads x there o words at
    pub stands : Stands m.adts k words at u v
    pub lives : (b wd : ℕ) → slice_get words wd ≡ Some (Refer (Some b)) → is_live (at_heap b) ≡ true

  pub record SourceLies (o : isa.Operand) (u : Ty) (v : Value) : Type 0 where
    pub words : List Word
    pub at : ℕ
    pub leads : spots.Leads x there o words at
    pub lies : Lies m.adts k words at u (room_for m.adts u) v
    pub lives : (b wd : ℕ) → slice_get words wd ≡ Some (Refer (Some b)) → is_live (at_heap b) ≡ true

  -- the box of a slot has its words
  box_there : (r b : ℕ) (inner : List Word) (t : Ty) → word_at q.frame.words (pos r) ≡ Found (Refer (Some b)) → IsBox m.adts k t b inner
      → at x.heap b ≡ Some (Record inner)
  box_there r b inner t e box =
      let named = named_by q.frame.words (r / 4) b (word_found q.frame.words r (Refer (Some b)) e).1 in
      let block = there_is (at x.heap b) (hold.same.live b (omega (arith, named))) in
      block.1 ∙ ap (λ (c : Block). Some c) (worlds.0.carriers b (Record inner) block.0 box.carries block.1).0

  box_lies : (inner : List Word) (b : ℕ) (t : Ty) (v : Value) → HasRoom m.adts t → IsBox m.adts k t b inner → Stands m.adts k inner 0 t v
      → Lies m.adts k inner 0 t (room_for m.adts t) v
  box_lies inner b t v room box stands =
      let many = box.kind.many in
      record {
        laid = subst (Laid m.adts t) (sym (rounds_give_rooms.rooms m.adts t room.0 room.1)) room.1;
        aligned = zero-mod (room_for m.adts t).align;
        whole = (λ w h. let below = h.1 in omega (arith, many, below), box.kind.ranged);
        only = λ w to e h. (4 * w, box.kind.only w to e, omega arith);
        stands = stands;
      }

  module _ (s : ℕ) (l : s < length p.frame.slots) (t : Ty) (known : type_held (held.slot ready.stands.is.known s) ≡ Some t) where
    abbrev n_at : ℕ
    n_at = number_place m.adts types s

    abbrev r_at : ℕ
    r_at = reference_place m.adts types s

    abbrev own_blocks : List ℕ
    own_blocks = ready.stands.is.words.own s

    pub record SlotIs : Type 0 where
      pub value : Value
      pub live : List ℕ
      pub holds : core.value_of (core.slot p.frame.slots s) ≡ value
      pub reads : SlotReads m.adts k q.frame.words n_at r_at t live value own_blocks

    pub slot_reads : SlotIs
    slot_reads =
        let h = of_type (held.slot ready.stands.is.known s) t known in
        let stands = subst (λ h. SlotStands m.adts k x.heap q.frame.serial q.frame.words n_at r_at h (core.slot p.frame.slots s) own_blocks) h.1
        (slot_is m k i x [] p.frame q.frame ready.stands.is s l (λ e. e)) in
        let v = slots_rest.is_value m.adts k x.heap q.frame.serial q.frame.words n_at r_at t h.0 (core.slot p.frame.slots s) own_blocks stands in
        record {
          value = v.0;
          live = h.0;
          holds = ap core.value_of v.1;
          reads = slots_rest.reads m.adts k x.heap q.frame.serial q.frame.words n_at r_at t h.0 v.0 own_blocks
              (subst (λ o. SlotStands m.adts k x.heap q.frame.serial q.frame.words n_at r_at (Of t h.0) o own_blocks) v.1 stands);
        }

    module _ (room : HasRoom m.adts t) (globals : List Ty) where
      abbrev pub scene : Scene
      scene = record { adts = m.adts; globals = globals; variables = types }

      whole : (is : SlotIs) → IsSimple t → SourceIs (in_slot scene t s) t is.value
      whole is (inl form) =
          subst (λ f. SourceIs (by_form scene f s) t is.value) (sym form)
          (record { words = q.frame.words; at = n_at; leads = (spots_lead.own x there n_at).0; stands = is.reads.number form; lives = own_lives })
      whole is (inr form) =
          subst (λ f. SourceIs (by_form scene f s) t is.value) (sym form)
          (record { words = q.frame.words; at = r_at; leads = (spots_lead.own x there r_at).0; stands = is.reads.reference form; lives = own_lives })

      -- part of a value that has a record of its own lies in that
      pub boxed : (is : SlotIs) (part : List ℕ) (u : Ty) → form_of t ≡ Boxed → Leads m.adts t part u
          → SourceLies (operand.IndFp (pos r_at) (pos (within m.adts t part))) u (part_at part is.value)
      boxed is part u form leads =
          let box = is.reads.boxed form in
          let path = has_path m.adts t part u leads in
          let lies = parts_lie.there m.adts k box.1 0 t part is.value path.0 (box_lies box.1 box.0 t is.value room box.3 box.4) in
          record {
            words = box.1;
            at = within m.adts t part;
            leads = (spots_lead.inner x there r_at box.0 box.1 (within m.adts t part) box.2 (box_there r_at box.0 box.1 t box.2 box.3)).0;
            lives = λ b wd e. inner_lives box.0 b wd box.1 (box_there r_at box.0 box.1 t box.2 box.3) e;
            lies = subst (λ o. Lies m.adts k box.1 o u (room_for m.adts u) (part_at part is.value)) (omega arith)
                (subst (λ y. Lies m.adts k box.1 (0 + within m.adts t part) y (room_for m.adts y) (part_at part is.value)) path.1 lies);
          }

      pub source_is : (is : SlotIs) (part : List ℕ) (u : Ty) → Leads m.adts t part u → IsSimple u
          → SourceIs (part_in_slot scene t part s) u (part_at part is.value)
      source_is is [] u leads simple =
          subst (λ y. SourceIs (in_slot scene t s) y is.value) leads (whole is (subst IsSimple (sym leads) simple))
      source_is is (n ∷ ns) u leads simple =
          let b = boxed is (n ∷ ns) u (has_parts m.adts t n leads.0 leads.1) leads in
          record { words = b.words; at = b.at; leads = b.leads; stands = b.lies.stands; lives = b.lives }
