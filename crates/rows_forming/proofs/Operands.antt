-- An operand that is in a slot lies where the code says, as a value of the type of the part that it comes to.
use Rattle.std.proofs.Common.{◌≡◌, ℕ, pos, ◌*◌, ◌/◌, ◌%◌, ◌<◌, ◌≤◌, true, List, [], length, Option, Some, None, refl, sym, ap, subst}
use Rattle.std.proofs.Common.{◌∙◌, arith, inl, inr}
use Rattle.std.proofs.Math.Nat.{zero-mod}
use Rattle.std.specs.Prelude.{slice_get, slice_index}
use Rattle.heap_model.specs.Heap.{at, there, in_one}
use Rattle.limbo_types.specs.Types as ty
use Rattle.limbo_types.specs.Types.{Ty}
use Rattle.limbo_layout.specs.Adts.{Def, Has}
use Rattle.limbo_values.specs.declared.number.Kind.TheVariants as kind
use Rattle.limbo_typed.specs.Typed as typed
use Rattle.limbo_meaning.specs.Process.{Shared}
use Rattle.limbo_meaning.specs.Values.{Value, Ref}
use Rattle.core_code.specs.Machine as code
use Rattle.core_code.specs.Slots as core
use Rattle.core_code.specs.Slots.{Slot, Holds}
use Rattle.core_typing.specs.Held as held
use Rattle.core_typing.specs.Held.{Held, Of, type_held}
use Rattle.core_typing.specs.Needs.{StandsAs, MayBeNil}
use Rattle.dis_isa.specs.declared.inst.Operand as isa
use Rattle.dis_meaning.specs.Words.{Word, Refer, Access, Found, Wrong, ◌>>=◌, or_wrong, type_check, number_in, word_at}
use Rattle.dis_meaning.specs.Numbers.{number_at, bytes_of}
use Rattle.dis_meaning.specs.Process.{Process}
use Rattle.dis_memory.specs.Blocks.{Block, World, Record}
use Rattle.dis_memory.specs.Naming.{inside}
use Rattle.value_words.specs.Facts.{Facts}
use Rattle.value_words.specs.Contents.{AreInRange}
use Rattle.value_words.specs.Stands.{Stands, a_number, a_text, a_name, an_array, no_words, a_tuple, an_adt}
use Rattle.value_words.proofs.Bytes.{word_there}
use Rattle.value_roots.proofs.Words.{has_counts}
use Rattle.value_frames.specs.Frames.{Form, Nowhere, AsNumber, AsReference, Boxed, form_of, number_place, reference_place, room_for, box_bytes}
use Rattle.value_frames.specs.Types.{AreOf}
use Rattle.value_frames.specs.Standing.{SlotStands, NamesOnly}
use Rattle.value_frames.specs.Rest.{SlotReads}
use Rattle.value_frames.proofs.Rest.{slots_rest}
use Rattle.value_moves.specs.Spots.{Leads}
use Rattle.value_moves.specs.Writing.{Lies}
use Rattle.value_moves.proofs.Leading.{spots_lead}
use Rattle.value_code.specs.Operands.{Scene, in_slot, by_form}
use Rattle.value_follows.specs.Stands.{types_of, FrameIs}
use Rattle.value_follows.specs.Sides.{sides, HoldTheSame}
use Rattle.value_follows.proofs.Slots.{slot_is, of_type}
use Rattle.value_follows.proofs.RootedValues.{stands_laid, word_has}
use Rattle.rows_forming.specs.Rows.{IsNoNilArray}

-- ---- types that stand where others are asked for

nil_form : (t : Ty) → MayBeNil t → form_of t ≡ AsReference
nil_form (ty.ArrayOf t) h = refl
nil_form (ty.ListOf t) h = refl
nil_form (ty.ChanOf t) h = refl
nil_form (ty.RefAdt a) h = refl
nil_form (ty.RefPick a j) h = refl
nil_form (ty.Module a) h = refl
nil_form t h = absurd h

-- a value that stands for one of a type has its form
pub same_form : (u t : Ty) → StandsAs u t → form_of u ≡ form_of t
same_form u t (inl (inl e)) = ap form_of e
same_form (ty.RefPick a j) t (inl (inr e)) = sym (ap form_of e)
same_form u t (inl (inr e)) = absurd e
same_form u t (inr n) = ap form_of n.0 ∙ sym (nil_form t n.1)

-- and is of the type itself, where that doesn't refer
pub same_type : (u t : Ty) → (form_of t ≡ AsReference → ⊥) → StandsAs u t → u ≡ t
same_type u t safe (inl (inl f)) = f
same_type (ty.RefPick a j) t safe (inl (inr f)) = absurd (safe (ap form_of f))
same_type u t safe (inl (inr f)) = absurd f
same_type u t safe (inr n) = absurd (safe (nil_form t n.1))

module _ (defs : List Def) (k : Facts) (words : List Word) where
  -- A reference stands in one word, also for the type where it is asked for.
  pub record FitsWord (at : ℕ) (t : Ty) (v : Value) : Type 0 where
    pub refers : Option ℕ
    pub word : word_at words (pos at) ≡ Found (Refer refers)
    pub stands : Stands defs k words at t v

  itself : (at : ℕ) (t : Ty) (v : Value) → form_of t ≡ AsReference → Stands defs k words at t v → FitsWord at t v
  itself _ _ _ form (a_number at kind.Byte z f i) = absurd cc
  itself _ _ _ form (a_number at kind.Int z f i) = absurd cc
  itself _ _ _ form (a_number at kind.Big z f i) = absurd cc
  itself _ _ _ form (a_text at r s f i) = record { refers = r; word = f; stands = a_text at r s f i }
  itself _ _ _ form (a_name at t r n i f h) = record { refers = r; word = f; stands = a_name at t r n i f h }
  itself _ _ _ form (an_array at t r p f i) = record { refers = r; word = f; stands = an_array at t r p f i }
  itself _ _ _ form (no_words at) = absurd cc
  itself _ _ _ form (a_tuple at ts rs vs l all) = absurd cc
  itself _ _ _ form (an_adt at n d rs vs f l all) = absurd cc

  variant : (at : ℕ) (u : Ty) (a j : ℕ) (v : Value) → u ≡ ty.RefPick a j → Stands defs k words at u v → FitsWord at (ty.RefAdt a) v
  variant _ _ a j _ e (a_number at kind.Byte z f i) = absurd cc
  variant _ _ a j _ e (a_number at kind.Int z f i) = absurd cc
  variant _ _ a j _ e (a_number at kind.Big z f i) = absurd cc
  variant _ _ a j _ e (a_text at r s f i) = absurd cc
  variant _ _ a j _ e (a_name at (ty.RefPick c l) r n i f h) =
      let same : c ≡ a = cc in
      subst (λ d. FitsWord at (ty.RefAdt d) (Ref n)) same (record { refers = r; word = f; stands = a_name at (ty.RefAdt c) r n tt f h })
  variant _ _ a j _ e (a_name at t r n i f h) = absurd cc
  variant _ _ a j _ e (an_array at t r p f i) = absurd cc
  variant _ _ a j _ e (no_words at) = absurd cc
  variant _ _ a j _ e (a_tuple at ts rs vs l all) = absurd cc
  variant _ _ a j _ e (an_adt at n d rs vs f l all) = absurd cc

  nil_word : (at : ℕ) (t : Ty) → MayBeNil t → IsNoNilArray ty.Nil t → word_at words (pos at) ≡ Found (Refer None) → FitsWord at t (Ref None)
  nil_word at (ty.ArrayOf t) h safe f = absurd safe
  nil_word at (ty.ListOf t) h safe f = record { refers = None; word = f; stands = a_name at (ty.ListOf t) None None tt f tt }
  nil_word at (ty.ChanOf t) h safe f = record { refers = None; word = f; stands = a_name at (ty.ChanOf t) None None tt f tt }
  nil_word at (ty.RefAdt a) h safe f = record { refers = None; word = f; stands = a_name at (ty.RefAdt a) None None tt f tt }
  nil_word at (ty.RefPick a j) h safe f = record { refers = None; word = f; stands = a_name at (ty.RefPick a j) None None tt f tt }
  nil_word at (ty.Module a) h safe f = record { refers = None; word = f; stands = a_name at (ty.Module a) None None tt f tt }
  nil_word at t h safe f = absurd h

  nil_there : (at : ℕ) (u t : Ty) (v : Value) → u ≡ ty.Nil → MayBeNil t → IsNoNilArray ty.Nil t → Stands defs k words at u v → FitsWord at t v
  nil_there _ _ t _ e h safe (a_number at kind.Byte z f i) = absurd cc
  nil_there _ _ t _ e h safe (a_number at kind.Int z f i) = absurd cc
  nil_there _ _ t _ e h safe (a_number at kind.Big z f i) = absurd cc
  nil_there _ _ t _ e h safe (a_text at r s f i) = absurd cc
  nil_there _ _ t _ e h safe (a_name at ty.Nil None None i f g) = nil_word at t h safe f
  nil_there _ _ t _ e h safe (a_name at ty.Nil (Some b) None i f g) = absurd g
  nil_there _ _ t _ e h safe (a_name at ty.Nil None (Some n) i f g) = absurd g
  nil_there _ _ t _ e h safe (a_name at ty.Nil (Some b) (Some n) i f g) = absurd g
  nil_there _ _ t _ e h safe (a_name at u r n i f g) = absurd cc
  nil_there _ _ t _ e h safe (an_array at u r p f i) = absurd cc
  nil_there _ _ t _ e h safe (no_words at) = absurd cc
  nil_there _ _ t _ e h safe (a_tuple at ts rs vs l all) = absurd cc
  nil_there _ _ t _ e h safe (an_adt at n d rs vs f l all) = absurd cc

  pub fits_word : (at : ℕ) (u t : Ty) (v : Value) → form_of t ≡ AsReference → StandsAs u t → IsNoNilArray u t → Stands defs k words at u v
      → FitsWord at t v
  fits_word at u t v form (inl (inl e)) safe s = itself at t v form (subst (λ y. Stands defs k words at y v) e s)
  fits_word at (ty.RefPick a j) t v form (inl (inr e)) safe s = subst (λ y. FitsWord at y v) (sym e) (variant at (ty.RefPick a j) a j v refl s)
  fits_word at u t v form (inl (inr e)) safe s = absurd e
  fits_word at u t v form (inr n) safe s = nil_there at u t v n.0 n.1 (subst (λ y. IsNoNilArray y t) n.0 safe) s

  -- ---- numbers and references lie in the words of a frame

  byte_no_refer : (n : ℕ) (z : _) (r : Option ℕ) → number_at kind.Byte words (pos n) ≡ Found z → slice_get words (n / 4) ≡ Some (Refer r) → ⊥
  byte_no_refer n z r e f =
      let g : number_at kind.Byte words (pos n) ≡ Wrong type_check =
      ap (λ (o : Option Word). (or_wrong type_check o >>= number_in) >>= λ y. Found (pos (slice_index (bytes_of y) (n % 4)))) f in
      absurd cc

  int_no_refer : (n : ℕ) (z : _) (r : Option ℕ) → number_at kind.Int words (pos n) ≡ Found z → n % 4 ≡ 0 → slice_get words (n / 4) ≡ Some (Refer r) → ⊥
  int_no_refer n z r e whole f =
      let g : number_at kind.Int words (pos n) ≡ Wrong type_check = ap (λ (a : Access Word). a >>= number_in) (word_there words n (Refer r) whole f) in
      absurd cc

  number_only : (at : ℕ) (t : Ty) (v : Value) → form_of t ≡ AsNumber → at % 4 ≡ 0 → Stands defs k words at t v → (r : Option ℕ)
      → slice_get words (at / 4) ≡ Some (Refer r) → ⊥
  number_only _ _ _ form even (a_number at kind.Byte z f i) r e = byte_no_refer at z r f e
  number_only _ _ _ form even (a_number at kind.Int z f i) r e = int_no_refer at z r f even e
  number_only _ _ _ form even (a_number at kind.Big z f i) r e = absurd cc
  number_only _ _ _ form even (a_text at s u f i) r e = absurd cc
  number_only _ _ _ form even (a_name at ty.Nil s n i f h) r e = absurd cc
  number_only _ _ _ form even (a_name at (ty.ListOf y) s n i f h) r e = absurd cc
  number_only _ _ _ form even (a_name at (ty.ChanOf y) s n i f h) r e = absurd cc
  number_only _ _ _ form even (a_name at (ty.RefAdt y) s n i f h) r e = absurd cc
  number_only _ _ _ form even (a_name at (ty.RefPick y z) s n i f h) r e = absurd cc
  number_only _ _ _ form even (a_name at (ty.Module y) s n i f h) r e = absurd cc
  number_only _ _ _ form even (a_name at y s n i f h) r e = absurd i
  number_only _ _ _ form even (an_array at t s p f i) r e = absurd cc
  number_only _ _ _ form even (no_words at) r e = absurd cc
  number_only _ _ _ form even (a_tuple at ts rs vs l all) r e = absurd cc
  number_only _ _ _ form even (an_adt at n d rs vs f l all) r e = absurd cc

  number_small : (t : Ty) → form_of t ≡ AsNumber → ((room_for defs t).size ≤ 4) × (0 < (room_for defs t).size)
  number_small ty.Byte e = (omega arith, omega arith)
  number_small ty.Int e = (omega arith, omega arith)
  number_small t e = absurd cc

  number_aligned : (t : Ty) (at : ℕ) → form_of t ≡ AsNumber → at % 4 ≡ 0 → at % (room_for defs t).align ≡ 0
  number_aligned ty.Byte at e g = omega arith
  number_aligned ty.Int at e g = g
  number_aligned t at e g = absurd cc

  pub number_lies : (at : ℕ) (t : Ty) (v : Value) → form_of t ≡ AsNumber → at % 4 ≡ 0 → at / 4 < length words → AreInRange words
      → Stands defs k words at t v → Lies defs k words at t (room_for defs t) v
  number_lies at t v form even below ranged s =
      let small = number_small t form in
      let most = small.0 in
      record {
        laid = stands_laid defs k words at t v s;
        aligned = number_aligned t at form even;
        whole = (λ w h. let a = h.0 in let c = h.1 in omega (arith, a, c, most, even, below), ranged);
        only = λ w to e h.
            let a = h.0 in
            let c = h.1 in
            let same : w ≡ at / 4 = omega (arith, a, c, most, even) in
            absurd (number_only at t v form even s to (ap (λ (n : ℕ). slice_get words n) (sym same) ∙ e));
        stands = s;
      }

  reference_room : (t : Ty) → form_of t ≡ AsReference
      → ((room_for defs t).size ≡ 4) × ((room_for defs t).align ≡ 4) × Has (room_for defs t).references 0
  reference_room ty.Chars e = (refl, refl, inl refl)
  reference_room ty.Nil e = (refl, refl, inl refl)
  reference_room (ty.ArrayOf t) e = (refl, refl, inl refl)
  reference_room (ty.ListOf t) e = (refl, refl, inl refl)
  reference_room (ty.ChanOf t) e = (refl, refl, inl refl)
  reference_room (ty.RefAdt a) e = (refl, refl, inl refl)
  reference_room (ty.RefPick a j) e = (refl, refl, inl refl)
  reference_room (ty.Module a) e = (refl, refl, inl refl)
  reference_room t e = absurd cc

  pub reference_lies : (at : ℕ) (t : Ty) (v : Value) → form_of t ≡ AsReference → at % 4 ≡ 0 → at / 4 < length words → AreInRange words
      → Stands defs k words at t v → Lies defs k words at t (room_for defs t) v
  reference_lies at t v form even below ranged s =
      let room = reference_room t form in
      let size = room.0 in
      record {
        laid = stands_laid defs k words at t v s;
        aligned = ap (λ (n : ℕ). at % n) room.1 ∙ even;
        whole = (λ w h. let a = h.0 in let c = h.1 in omega (arith, a, c, size, even, below), ranged);
        only = λ w to e h.
            let a = h.0 in
            let c = h.1 in
            (0, room.2, omega (arith, a, c, size, even));
        stands = s;
      }

-- ---- an operand

there_is : {A : Type 0} (o : Option A) → there o ≡ true → (a : A) × (o ≡ Some a)
there_is None e = absurd cc
there_is (Some a) e = (a, refl)

module _ (m : typed.Module) (k : Facts) (i : ℕ) (w : Shared) (x : World) (p : code.Process) (q : Process) (busy : List ℕ)
    (is : FrameIs m k i x busy p.frame q.frame) (hold : HoldTheSame m k i x p q) (worlds : (sides m).worlds k w x) where
  abbrev types : List Ty
  types = types_of m is.function

  abbrev pub scene : List Ty → Scene
  scene globals = record { adts = m.adts; globals = globals; variables = types }

  -- what a word of the frame refers to is there
  pub word_there_is : (n : ℕ) → Has q.frame.words (Refer (Some n)) → there (at x.heap n) ≡ true
  word_there_is n h = let c = has_counts q.frame.words n h in hold.same.live n (hold.same.roots n (omega (arith, c)))

  -- and what a record that is there refers to
  pub inner_there_is : (c : ℕ) (inner : List Word) → at x.heap c ≡ Some (Record inner) → (n : ℕ) → Has inner (Refer (Some n))
      → there (at x.heap n) ≡ true
  inner_there_is c inner e n h =
      worlds.0.closed.closed c n (ap there e) (subst (λ (o : Option Block). 0 < in_one inside o n) (sym e) (has_counts inner n h))

  module _ (globals : List Ty) (r : ℕ) (below : r < length p.frame.slots) (idle : Has busy r → ⊥) (u t : Ty)
      (known_so : type_held (held.slot is.known r) ≡ Some u) (fits : StandsAs u t) (safe : IsNoNilArray u t) where
    abbrev n_at : ℕ
    n_at = number_place m.adts types r

    abbrev r_at : ℕ
    r_at = reference_place m.adts types r

    -- What a slot has that is an operand for a part of this type.
    pub record OperandIs : Type 0 where
      pub value : Value
      pub live : List ℕ
      pub known : held.slot is.known r ≡ Of u live
      pub holds : core.slot p.frame.slots r ≡ Holds value
      pub names : NamesOnly live value
      pub bare : is.words.own r ≡ []
      pub reads : SlotReads m.adts k q.frame.words n_at r_at u live value []

    pub operand_is : OperandIs
    operand_is =
        let own_blocks = is.words.own r in
        let h = of_type (held.slot is.known r) u known_so in
        let stands = subst (λ h. SlotStands m.adts k x.heap q.frame.serial q.frame.words n_at r_at h (core.slot p.frame.slots r) own_blocks) h.1
        (slot_is m k i x busy p.frame q.frame is r below idle) in
        let v = slots_rest.is_value m.adts k x.heap q.frame.serial q.frame.words n_at r_at u h.0 (core.slot p.frame.slots r) own_blocks stands in
        let held_so = subst (λ o. SlotStands m.adts k x.heap q.frame.serial q.frame.words n_at r_at (Of u h.0) o own_blocks) v.1 stands in
        let reads : SlotReads m.adts k q.frame.words n_at r_at u h.0 v.0 own_blocks =
        slots_rest.reads m.adts k x.heap q.frame.serial q.frame.words n_at r_at u h.0 v.0 own_blocks held_so in
        record {
          value = v.0;
          live = h.0;
          known = h.1;
          holds = v.1;
          names = reads.names;
          bare = reads.bare;
          reads = slots_rest.reads m.adts k x.heap q.frame.serial q.frame.words n_at r_at u h.0 v.0 []
              (subst (λ o. SlotStands m.adts k x.heap q.frame.serial q.frame.words n_at r_at (Of u h.0) (Holds v.0) o) reads.bare held_so);
        }

    -- It lies where the operand of the code leads, among words that refer to what is there.
    pub record Lying (v : Value) : Type 0 where
      pub words : List Word
      pub place : ℕ
      pub leads : Leads x q (in_slot (scene globals) t r) words place
      pub lies : Lies m.adts k words place t (room_for m.adts t) v
      pub led : (n : ℕ) → Has words (Refer (Some n)) → there (at x.heap n) ≡ true

    -- a word of a slot is among those of the frame
    slot_below : (s : ℕ) → s < length p.frame.slots → (reference_place m.adts types s / 4 < length q.frame.words)
        × (number_place m.adts types s / 4 < length q.frame.words)
    slot_below s l = let many = is.words.kind.many in (omega (arith, many, l), omega (arith, many, l))

    in_frame : (n : ℕ) (v : Value) → Lies m.adts k q.frame.words n t (room_for m.adts t) v → (o : isa.Operand) → in_slot (scene globals) t r ≡ o
        → (l : Leads x q o q.frame.words n) → Lying v
    in_frame n v lies o e l = record {
      words = q.frame.words;
      place = n;
      leads = subst (λ y. Leads x q y q.frame.words n) (sym e) l;
      lies = lies;
      led = word_there_is;
    }

    pub lying : (f : Form) → form_of t ≡ f → (f ≡ Nowhere → ⊥) → (o : OperandIs) → Lying o.value
    lying Nowhere form some o = absurd (some refl)
    lying AsNumber form some o =
        let same = same_type u t (λ e. let g : AsNumber ≡ AsReference = sym form ∙ e in cc) fits in
        let stands = subst (λ y. Stands m.adts k q.frame.words n_at y o.value) same (o.reads.number (ap form_of same ∙ form)) in
        in_frame n_at o.value
        (number_lies m.adts k q.frame.words n_at t o.value form (omega arith) (slot_below r below).1 is.words.kind.ranged stands)
        (by_form (scene globals) AsNumber r) (ap (λ f. by_form (scene globals) f r) form) (spots_lead.own x q n_at).0
    lying AsReference form some o =
        let stands = o.reads.reference (same_form u t fits ∙ form) in
        let one = fits_word m.adts k q.frame.words r_at u t o.value form fits safe stands in
        in_frame r_at o.value
        (reference_lies m.adts k q.frame.words r_at t o.value form (omega arith) (slot_below r below).0 is.words.kind.ranged one.stands)
        (by_form (scene globals) AsReference r) (ap (λ f. by_form (scene globals) f r) form) (spots_lead.own x q r_at).0
    lying Boxed form some o =
        let same = same_type u t (λ e. let g : Boxed ≡ AsReference = sym form ∙ e in cc) fits in
        let box = o.reads.boxed (ap form_of same ∙ form) in
        let live = word_there_is box.0 (word_has q.frame.words r_at (Refer (Some box.0)) box.2) in
        let block = there_is (at x.heap box.0) live in
        let there_now : at x.heap box.0 ≡ Some (Record box.1) =
        block.1 ∙ ap (λ (c : Block). Some c) (worlds.0.carriers box.0 (Record box.1) block.0 box.3.carries block.1).0 in
        let kind = subst (λ y. AreOf (box_bytes m.adts y) (room_for m.adts y).references box.1) same box.3.kind in
        let stands = subst (λ y. Stands m.adts k box.1 0 y o.value) same box.4 in
        let many = kind.many in
        record {
          words = box.1;
          place = 0;
          leads = subst (λ f. Leads x q (by_form (scene globals) f r) box.1 0) (sym form) (spots_lead.inner x q r_at box.0 box.1 0 box.2 there_now).0;
          lies = record {
            laid = stands_laid m.adts k box.1 0 t o.value stands;
            aligned = zero-mod (room_for m.adts t).align;
            whole = (λ w h. let low = h.1 in omega (arith, many, low), kind.ranged);
            only = λ w to e h. (4 * w, kind.only w to e, omega arith);
            stands = stands;
          };
          led = inner_there_is box.0 box.1 there_now;
        }
