-- What is known of a row that takes a part, where two processes are ready in front of it; and so that it goes.
use Rattle.std.proofs.Common.{◌≡◌, ℕ, suc, ◌+◌, ◌-◌, ◌*◌, ◌/◌, ◌<◌, ◌≤◌, Bool, List, [], ◌∷◌, length, Option, Some, None}
use Rattle.std.proofs.Common.{refl, sym, ap, ◌∙◌, subst, arith, inl, inr, if◌then◌else◌}
use Rattle.std.specs.Prelude.{slice_get}
use Rattle.std.specs.Int.{next_multiple_of}
use Rattle.std.proofs.lemmas.Bool.Decides.{eqb_tells}
use Rattle.heap_model.proofs.Growing.{grows_same}
use Rattle.limbo_types.specs.Types as ty
use Rattle.limbo_types.specs.Types.{Ty}
use Rattle.limbo_layout.specs.Adts.{Def, Has}
use Rattle.limbo_layout.specs.Layout.{Room, alone, Laid, is_alone, of_tuple, of_adt, in_order, limit}
use Rattle.limbo_typed.specs.Typed as typed
use Rattle.limbo_meaning.specs.Places.{part_at}
use Rattle.limbo_meaning.specs.Values.{row, references, all_fitted, fitted, one, among}
use Rattle.core_code.specs.Code.{Pick}
use Rattle.core_code.specs.Machine as code
use Rattle.core_code.specs.Slots as core
use Rattle.core_code.specs.Slots.{Slot, Holds, slot_names, regions_name}
use Rattle.core_code.specs.Terms.{part_types}
use Rattle.core_follows.specs.Handled.{HasLayout}
use Rattle.core_follows.proofs.Picks.{taken, whole_of}
use Rattle.core_typing.specs.Held as held
use Rattle.core_typing.specs.Held.{Held, Of, Decided, Turns, type_held}
use Rattle.core_typing.specs.Needs.{IsClean}
use Rattle.dis_meaning.specs.Words.{Word}
use Rattle.dis_meaning.specs.Process.{Process}
use Rattle.dis_memory.specs.Blocks.{World}
use Rattle.value_words.specs.Facts.{Facts}
use Rattle.value_words.proofs.Wholes.{stands_whole}
use Rattle.value_frames.specs.Frames.{number_place, reference_place, room_for, within}
use Rattle.value_frames.specs.Standing.{SlotStands, ChainStands, no_chain, a_chain, NamesOnly}
use Rattle.value_frames.specs.Rest.{SlotReads}
use Rattle.value_frames.proofs.Rest.{slots_rest}
use Rattle.value_frames.proofs.Slots.{slots_change}
use Rattle.value_frames.proofs.Later.{frames_later}
use Rattle.value_heaps.specs.Blocks.{IsWithin}
use Rattle.value_moves.specs.Writing.{Lies}
use Rattle.value_moves.proofs.Changing.{low_or_high}
use Rattle.value_stores.proofs.Parts.{parts_lie}
use Rattle.value_code.specs.Code.{code_of}
use Rattle.value_follows.specs.Stands.{types_of, Ready}
use Rattle.value_follows.specs.Rows.{Base}
use Rattle.value_follows.proofs.Standing.{finds, code_here}
use Rattle.value_follows.proofs.Slots.{uses, slot_is, of_type}
use Rattle.value_follows.proofs.Putting.{at_rest}
use Rattle.value_follows.proofs.RootedValues.{stands_laid}
use Rattle.rows_moving.proofs.Sources.{has_parts}
use Rattle.rows_moving.proofs.Variables.{has_path}
use Rattle.rows_dropping.specs.Rows.{SlotFits, PicksGo}
use Rattle.rows_dropping.proofs.Boxes.{lies_in}
use Rattle.rows_dropping.proofs.Picking.{Picks, Starts}
use Rattle.rows_dropping.proofs.PickGo.{row_is, all_leads}

-- ---- a slot that names nothing

other_one : (r n : ℕ) → (r ≡ n → ⊥) → one n (Some r) ≡ 0
other_one r n ne = elim (eqb_tells n r) [
  | inl y ↦ absurd (ne (sym y.1))
  | inr y ↦ ap (λ (b : Bool). if b then 1 else 0) y.0
]

none_among : (rs : List (Option ℕ)) (n : ℕ) → ((k : ℕ) → slice_get rs k ≡ Some (Some n) → ⊥) → among n rs ≡ 0
none_among [] n none = refl
none_among (None ∷ rs) n none = let h = none_among rs n (λ k e. none (suc k) e) in omega (arith, h)
none_among (Some r ∷ rs) n none =
    let h = none_among rs n (λ k e. none (suc k) e) in
    let z = other_one r n (λ e. none 0 (ap (λ (a : ℕ). Some (Some a)) e)) in
    omega (arith, h, z)

module _ (defs : List Def) (k : Facts) (x : World) (frame : ℕ) where
  chain_none : (words : List Word) (p : ℕ) (gs : held.Regions) (rs : core.Regions) (own : List ℕ) → gs ≡ held.NoRegion
      → ChainStands defs k x.heap frame words p gs rs own → (n : ℕ) → regions_name rs n ≡ 0
  chain_none _ _ _ _ _ e (no_chain words p f) n = refl
  chain_none _ _ _ _ _ e (a_chain words inner p b last h hs g gs own more is l s t) n = absurd cc

  names_none : (words : List Word) (a r : ℕ) (h : Held) (l : Slot) (own : List ℕ) → IsClean h → SlotStands defs k x.heap frame words a r h l own
      → (n : ℕ) → slot_names l n ≡ 0
  names_none words a r (Of t live) l own clean s n =
      let v = slots_rest.is_value defs k x.heap frame words a r t live l own s in
      let reads = slots_rest.reads defs k x.heap frame words a r t live v.0 own (subst (λ o. SlotStands defs k x.heap frame words a r (Of t live) o own) v.1 s) in
      ap (λ (o : Slot). slot_names o n) v.1
      ∙ none_among (references v.0) n (λ j e. subst (λ (ns : List ℕ). held.Has ns j) clean (reads.names j n e))
  names_none words a r (held.Forming t v ks us live) l own clean s n = absurd clean
  names_none words a r (Decided b) l own clean s n =
      let d = slots_rest.is_decision defs k x.heap frame words a r b l own s in ap (λ (o : Slot). slot_names o n) d.0
  names_none words a r (Turns held.NoRegion) l own clean s n =
      let t = slots_rest.is_loop defs k x.heap frame words a r held.NoRegion l own s in
      ap (λ (o : Slot). slot_names o n) t.2 ∙ chain_none words r held.NoRegion t.1 own refl t.4 n
  names_none words a r (Turns (held.MoreRegions g gs)) l own clean s n = absurd clean

-- ---- a type with parts has a layout as such

has_layout : (defs : List Def) (z : Ty) (n : ℕ) (l : Laid defs z (room_for defs z)) → n < length (part_types defs z) → HasLayout defs z
has_layout defs (ty.Tuple ts) n l few = tt
has_layout defs (ty.Adt c) n l few = adt_layout defs c _ _ refl l
  where
    adt_layout : (defs : List Def) (c : ℕ) (z : Ty) (r : Room) → z ≡ ty.Adt c → Laid defs z r → HasLayout defs (ty.Adt c)
    adt_layout defs c _ _ e (is_alone t r f) = absurd (let g : alone (ty.Adt c) ≡ Some r = sym (ap alone e) ∙ f in cc)
    adt_layout defs c _ _ e (of_tuple ts rs h) = absurd cc
    adt_layout defs c _ _ e (of_adt j d rs f h) =
        let same : j ≡ c = cc in
        subst (λ y. HasLayout defs (ty.Adt y)) same (d, f, (in_order rs, of_adt j d rs f h))
has_layout defs z n l few = absurd (omega (arith, few))

-- ---- what is known

module _ (m : typed.Module) (b : Base m) (t : Ty) (n into from : ℕ) (apart : into ≡ from → ⊥) (k : Facts) (i : ℕ) (x : World) (p : code.Process)
    (q : Process) (ready : Ready m k i x p q) (fits : SlotFits m ready from) (here : slice_get p.frame.code p.frame.pc ≡ Some (Pick t n into from)) where
  abbrev types : List Ty
  types = types_of m ready.stands.is.function

  abbrev known : held.Slots
  known = ready.stands.is.known

  abbrev facts : Picks m p t n into from known
  facts =
      let is = ready.stands.is in
      let in_it = code_here m k i x p q ready (Pick t n into from) here in
      let found = finds m is.function p.frame.pc known (Pick t n into from) ready.stands.goes in_it in
      let slots = uses m k i x [] p.frame q.frame is p.frame.pc (Pick t n into from) in_it in
      let whole = found.0 in
      let form = has_parts m.adts whole n t found.3 in
      let path = has_path m.adts whole (n ∷ []) t (t, found.3, refl) in
      let n_at = number_place m.adts types from in
      let r_at = reference_place m.adts types from in
      let own_blocks = is.words.own from in
      let h = of_type (held.slot known from) whole found.1 in
      let stands = subst (λ h. SlotStands m.adts k x.heap q.frame.serial q.frame.words n_at r_at h (core.slot p.frame.slots from) own_blocks) h.1
      (slot_is m k i x [] p.frame q.frame is from slots.1 (λ e. e)) in
      let val = slots_rest.is_value m.adts k x.heap q.frame.serial q.frame.words n_at r_at whole h.0 (core.slot p.frame.slots from) own_blocks stands in
      let reads : SlotReads m.adts k q.frame.words n_at r_at whole h.0 val.0 own_blocks =
      slots_rest.reads m.adts k x.heap q.frame.serial q.frame.words n_at r_at whole h.0 val.0 own_blocks
      (subst (λ o. SlotStands m.adts k x.heap q.frame.serial q.frame.words n_at r_at (Of whole h.0) o own_blocks) val.1 stands) in
      let box = reads.boxed form in
      let laid = stands_laid m.adts k box.1 0 whole val.0 box.4 in
      let rows = whole_of m.adts whole n val.0 (has_layout m.adts whole n laid path.0.0) path.0.0
      (inl (val.0, stands_whole m.adts k box.1 0 whole val.0 box.4)) in
      let part = parts_lie.there m.adts k box.1 0 whole (n ∷ []) val.0 path.0 (lies_in m.adts whole laid k box.1 val.0 (box.3.kind, box.4)) in
      let part_so : Lies m.adts k box.1 (0 + within m.adts whole (n ∷ [])) t (room_for m.adts t) (part_at (n ∷ []) val.0) =
      subst (λ y. Lies m.adts k box.1 (0 + within m.adts whole (n ∷ [])) y (room_for m.adts y) (part_at (n ∷ []) val.0)) path.1 part in
      record {
        here = here;
        apart = apart;
        below_into = slots.0;
        below_from = slots.1;
        whole = whole;
        form = form;
        known_so = found.1;
        laid = laid;
        small = fits whole found.1;
        path = path.0;
        ends = path.1;
        part_laid = part_so.laid;
        part_small = small_part box.1 (0 + within m.adts whole (n ∷ [])) (room_for m.adts t).size (room_for m.adts whole).size part_so.whole.0
            box.3.kind.many (fits whole found.1);
        values = row (all_fitted m.adts (part_types m.adts whole) rows.0);
        holds_so = val.1 ∙ ap Holds rows.1;
        live = h.0;
        live_so = h.1;
        names = subst (λ y. NamesOnly h.0 y) rows.1 reads.names;
        taken = taken m.adts (part_types m.adts whole) rows.0 n path.0.0;
        fits = subst (λ y. part_at (n ∷ []) y ≡ fitted m.adts t (part_at (n ∷ []) y)) rows.1
            (stands_whole m.adts k box.1 (0 + within m.adts whole (n ∷ [])) t (part_at (n ∷ []) val.0) part_so.stands);
        unnamed = names_none m.adts k x q.frame.serial q.frame.words (number_place m.adts types into) (reference_place m.adts types into)
            (held.slot known into) (core.slot p.frame.slots into) (is.words.own into) found.4
            (slot_is m k i x [] p.frame q.frame is into slots.0 (λ e. e));
      }
    where
      small_part : (ws : List Word) (at size whole : ℕ) → ((w : ℕ) → IsWithin at size w → w < length ws)
          → length ws ≡ next_multiple_of whole 4 / 4 → whole ≤ limit → size ≤ 4 * limit
      small_part ws at size whole inside many few = elim (low_or_high size 8) [
        | inl low ↦ omega (arith, low)
        | inr high ↦
            let w : ℕ = (at + size - 1) / 4 in
            let l = inside w (omega (arith, high), omega (arith, high)) in
            omega (arith, l, many, few, high)
      ]

  -- the slot into which the part comes is busy from the begin on
  starts_here : Starts m b i p t n into from known facts 0 k x q
  starts_here =
      let is = ready.stands.is in
      let in_it = code_here m k i x p q ready (Pick t n into from) here in
      let found = finds m is.function p.frame.pc known (Pick t n into from) ready.stands.goes in_it in
      let rest = at_rest m k i x p q ready into facts.below_into found.4 in
      let owned = (frames_later m.adts k x.heap q.frame.serial [] types known p.frame.variables p.frame.slots q.frame.words is.words).owned in
      let busy = slots_change.leaves m.adts k k x.heap x.heap q.frame.serial [] types known p.frame.variables p.frame.slots q.frame.words q.frame.words into
      is.words (grows_same k) rest.1 (record { each = λ c h. refl }) is.words.kind (λ r c h. ((owned r c h).0, refl)) in
      record {
        way = record {
          stands = record {
            number = ready.stands.number;
            is = record {
              number = is.number;
              function = is.function;
              there = is.there;
              code = is.code;
              answer = is.answer;
              many = is.many;
              instance = is.instance;
              formed = is.formed;
              known = is.known;
              words = busy.0;
              mine = λ r c h. is.mine r c (subst (λ (o : ℕ → List ℕ). Has (o r) c) busy.1 h);
              fresh = is.fresh;
            };
            goes = ready.stands.goes;
            waits = ready.stands.waits;
          };
          known_so = refl;
          none_made = ready.none_made;
          pc = let e = ready.pc in omega (arith, e);
        };
        idle = rest.0;
        spare = ready.spare;
      }

pub picks_go : PicksGo
picks_go m b t n into from apart k i x p q ready fits here =
    let a = facts m b t n into from apart k i x p q ready.0 fits here in
    let known = ready.0.stands.is.known in
    let leads = all_leads m b i p t n into from known a in (
      leads.0,
      leads.1 0
          (λ c e f.
          let is = row_is m b i p t n into from known a c e f in (
            (λ j. let on : 0 + j ≡ j = omega arith in ap (λ (l : ℕ). slice_get (code_of c (Pick t n into from)) l) on ∙ ap (λ l. slice_get l j) is),
            ap (λ l. length l) is ∙ omega arith,
          ))
          k x q (starts_here m b t n into from apart k i x p q ready.0 fits here) ready.1,
    )
