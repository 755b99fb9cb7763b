-- Places in blocks of values of the heap: where they lie, what is read there, and what a block stands for once something else does.
use Rattle.std.proofs.Common.{◌≡◌, ◌⊎◌, ℕ, true, pos, ◌+◌, ◌/◌, ◌<◌, List, [], ◌∷◌, length, Option, Some, None, refl, sym, ap, ◌∙◌, subst, arith, inl, inr}
use Rattle.std.specs.Prelude.{Ok, Err, slice_get}
use Rattle.heap_model.specs.Heap.{at, there, in_one}
use Rattle.heap_model.specs.Facts.{Is}
use Rattle.heap_model.specs.Worlds.{WorldsAlike}
use Rattle.limbo_types.specs.Types as ty
use Rattle.limbo_types.specs.Types.{Ty}
use Rattle.limbo_values.specs.declared.number.Kind.TheVariants as kind
use Rattle.limbo_typed.specs.Typed as typed
use Rattle.limbo_typed.specs.Fitting.{IsRefOf}
use Rattle.limbo_kept.specs.Places as kept
use Rattle.limbo_kept.specs.Trees.{WayIs}
use Rattle.limbo_meaning.specs.Places.{Root, Target, part_at, with_part, root_value, root_put}
use Rattle.limbo_meaning.specs.Memory as source
use Rattle.limbo_meaning.specs.Memory.{HeapValue, Memory, with_heap, changed}
use Rattle.limbo_meaning.specs.Process.{Shared}
use Rattle.limbo_meaning.specs.Values.{Value, Ref}
use Rattle.limbo_meaning.specs.Exceptions.{dereference_of_nil}
use Rattle.core_code.specs.Machine as code
use Rattle.core_code.specs.Slots as core
use Rattle.core_code.specs.Slots.{Holds}
use Rattle.core_typing.specs.Held as held
use Rattle.core_typing.specs.Held.{type_held}
use Rattle.core_typing.specs.Needs.{StandsAs, IsA, AreThese}
use Rattle.dis_isa.specs.declared.inst.Operand as isa
use Rattle.dis_meaning.specs.Counts.{in_words}
use Rattle.dis_meaning.specs.Words.{Word, Refer, Found, word_at}
use Rattle.dis_meaning.specs.Process.{Process, Printing}
use Rattle.dis_memory.specs.Blocks.{Block, World, Record, with_changed}
use Rattle.dis_memory.specs.Places.{memory}
use Rattle.dis_memory.specs.Naming as machine
use Rattle.value_words.specs.Forms.{Adts}
use Rattle.value_words.specs.Facts.{Facts, Grows, IsName}
use Rattle.value_words.specs.Stands.{Stands, a_number, a_text, a_name, an_array, no_words, a_tuple, an_adt}
use Rattle.value_words.proofs.Bytes.{word_found}
use Rattle.value_heaps.specs.Blocks.{IsBlock, elements, cell, record_of, channel, instance_of}
use Rattle.value_heaps.proofs.Words.{named_by}
use Rattle.value_frames.specs.Frames.{AsReference, form_of, reference_place, room_for, within, type_within}
use Rattle.value_moves.specs.Operands.{behind}
use Rattle.value_moves.specs.Spots.{LeadsAndStores}
use Rattle.value_moves.specs.Writing.{Lies, Writes}
use Rattle.value_moves.proofs.Leading.{spots_lead}
use Rattle.value_stores.proofs.Parts.{parts_lie}
use Rattle.value_stores.proofs.Stores.{blocks_change}
use Rattle.value_code.specs.Objects.{globals, constants}
use Rattle.value_code.specs.Operands.{Scene, adt_of}
use Rattle.value_follows.specs.Stands.{Ready, scope, types_of}
use Rattle.value_follows.specs.Sides.{sides, contents, HoldTheSame}
use Rattle.rows_places.proofs.Going.{at_place_of}
use Rattle.rows_places.specs.Rows.{way_from}
use Rattle.value_follows.proofs.Standing.{same_some}
use Rattle.rows_places.proofs.Words.{has_path, there_is}
use Rattle.rows_places.proofs.Sources.{slot_reads}

-- nothing more is known
pub grows_same : {k : Facts} → Grows k k
grows_same = record { facts = λ n f e. e; makers = λ n g e. e; forms = λ n g e. e }

-- ---- types of references to adts

is_ref : (n : ℕ) (u r : Ty) → StandsAs u r → IsRefOf n r → (u ≡ ty.Nil) ⊎ IsRefOf n u
is_ref n u r (inl (inl e)) h = inr (subst (IsRefOf n) (sym e) h)
is_ref n (ty.RefPick a j) r (inl (inr e)) h = inr (subst (IsRefOf n) e h)
is_ref n u r (inl (inr e)) h = absurd e
is_ref n u r (inr e) h = inl e.0

pub ref_form : (n : ℕ) (u r : Ty) → StandsAs u r → IsRefOf n r → form_of u ≡ AsReference
ref_form n u r s h = elim (is_ref n u r s h) [ inl e ↦ ap form_of e | inr j ↦ of_ref u j ]
  where
    of_ref : (u : Ty) → IsRefOf n u → form_of u ≡ AsReference
    of_ref (ty.RefAdt a) h = refl
    of_ref (ty.RefPick a j) h = refl
    of_ref u h = absurd h

adt_is : (c : Scene) (n : ℕ) (u : Ty) → IsRefOf n u → adt_of c u ≡ ty.Adt n
adt_is c n (ty.RefAdt a) h = ap (λ (j : ℕ). ty.Adt j) h
adt_is c n (ty.RefPick a j) h = ap (λ (l : ℕ). ty.Adt l) h
adt_is c n u h = absurd h

module _ (m : typed.Module) (k : Facts) (words : List Word) where
  -- A word that stands for a reference to an adt of this number, or to nothing.
  pub record RefIs (at n : ℕ) (u : Ty) (v : Value) : Type 0 where
    pub refers : Option ℕ
    pub name : Option ℕ
    pub is : v ≡ Ref name
    pub word : word_at words (pos at) ≡ Found (Refer refers)
    pub named : IsName k (Some (Adts n)) refers name
    pub adt : (c : Scene) (b : ℕ) → refers ≡ Some b → adt_of c u ≡ ty.Adt n

  of_adt : (n at : ℕ) (u : Ty) (v : Value) → IsRefOf n u → Stands m.adts k words at u v → RefIs at n u v
  of_adt n _ _ _ h (a_number at kind.Byte z f i) = absurd h
  of_adt n _ _ _ h (a_number at kind.Int z f i) = absurd h
  of_adt n _ _ _ h (a_number at kind.Big z f i) = absurd h
  of_adt n _ _ _ h (a_text at r s f i) = absurd h
  of_adt n _ _ _ h (a_name at (ty.RefAdt a) r o i f g) = record {
    refers = r;
    name = o;
    is = refl;
    word = f;
    named = subst (λ (j : ℕ). IsName k (Some (Adts j)) r o) h g;
    adt = λ c b e. adt_is c n (ty.RefAdt a) h;
  }
  of_adt n _ _ _ h (a_name at (ty.RefPick a j) r o i f g) = record {
    refers = r;
    name = o;
    is = refl;
    word = f;
    named = subst (λ (j : ℕ). IsName k (Some (Adts j)) r o) h g;
    adt = λ c b e. adt_is c n (ty.RefPick a j) h;
  }
  of_adt n _ _ _ h (a_name at t r o i f g) = absurd h
  of_adt n _ _ _ h (an_array at t r p f i) = absurd h
  of_adt n _ _ _ h (no_words at) = absurd h
  of_adt n _ _ _ h (a_tuple at ts rs vs l all) = absurd h
  of_adt n _ _ _ h (an_adt at a d rs vs f l all) = absurd h

  of_nil : (n at : ℕ) (u : Ty) (v : Value) → u ≡ ty.Nil → Stands m.adts k words at u v → RefIs at n u v
  of_nil n _ _ _ h (a_number at kind.Byte z f i) = absurd cc
  of_nil n _ _ _ h (a_number at kind.Int z f i) = absurd cc
  of_nil n _ _ _ h (a_number at kind.Big z f i) = absurd cc
  of_nil n _ _ _ h (a_text at r s f i) = absurd cc
  of_nil n _ _ _ h (a_name at ty.Nil None None i f g) =
      record { refers = None; name = None; is = refl; word = f; named = tt; adt = λ c b e. absurd cc }
  of_nil n _ _ _ h (a_name at ty.Nil (Some b) None i f g) = absurd g
  of_nil n _ _ _ h (a_name at ty.Nil None (Some o) i f g) = absurd g
  of_nil n _ _ _ h (a_name at ty.Nil (Some b) (Some o) i f g) = absurd g
  of_nil n _ _ _ h (a_name at t r o i f g) = absurd cc
  of_nil n _ _ _ h (an_array at t r p f i) = absurd cc
  of_nil n _ _ _ h (no_words at) = absurd cc
  of_nil n _ _ _ h (a_tuple at ts rs vs l all) = absurd cc
  of_nil n _ _ _ h (an_adt at a d rs vs f l all) = absurd cc

  pub ref_is : (n at : ℕ) (u r : Ty) (v : Value) → StandsAs u r → IsRefOf n r → Stands m.adts k words at u v → RefIs at n u v
  ref_is n at u r v fits h s = elim (is_ref n u r fits h) [ inl e ↦ of_nil n at u v e s | inr j ↦ of_adt n at u v j s ]

-- ---- the record that such a word refers to

module _ (m : typed.Module) (k : Facts) where
  record IsRecord (n : ℕ) (v : HeapValue) (b : Block) : Type 0 where
    words : List Word
    value : Value
    is : v ≡ source.Record value
    block : b ≡ Record words

  is_record : (n a : ℕ) (v : HeapValue) (b : Block) → k.form n ≡ Some (Adts a) → IsBlock m.adts (globals m) (constants m) k n v b → IsRecord n v b
  is_record n a _ _ f (elements t r words vs g l counted w e o) = absurd cc
  is_record n a _ _ f (cell t r words v tail rest g l w s o c e older) = absurd cc
  is_record n a _ _ f (record_of j r words v g l w s o e) = record { words = words; value = v; is = refl; block = refl }
  is_record n a _ _ f (channel t desc g) = absurd cc
  is_record n a _ _ f (instance_of object rs words vs g l w s o t c) = absurd cc

  pub record RecordThere (w : Shared) (x : World) (n s : ℕ) : Type 0 where
    pub words : List Word
    pub value : Value
    pub there : at w.heap n ≡ Some (source.Record value)
    pub block : at x.heap s ≡ Some (Record words)
    pub stands : IsBlock m.adts (globals m) (constants m) k s (source.Record value) (Record words)

  pub record_there : (w : Shared) (x : World) → WorldsAlike (contents m) k w.heap x.heap → (n s a : ℕ) → Is k n s → k.form s ≡ Some (Adts a)
      → there (at x.heap s) ≡ true → RecordThere w x n s
  record_there w x alike n s a is f e =
      let b = there_is (at x.heap s) e in
      let v = alike.here n s b.0 is b.1 in
      let t = alike.there n v.0 v.1 in
      let same : t.0 ≡ s = k.once n t.0 s t.2 is in
      let stands = subst (λ r. IsBlock m.adts (globals m) (constants m) k r v.0 t.1) same t.4.0 in
      let j = is_record s a v.0 t.1 f stands in
      record {
        words = j.words;
        value = j.value;
        there = v.1 ∙ ap (λ (u : HeapValue). Some u) j.is;
        block = subst (λ r. at x.heap r ≡ Some t.1) same t.3 ∙ ap (λ (c : Block). Some c) j.block;
        stands = subst (λ u. IsBlock m.adts (globals m) (constants m) k s u (Record j.words)) j.is
            (subst (λ c. IsBlock m.adts (globals m) (constants m) k s v.0 c) j.block stands);
      }

-- ---- places

module _ (m : typed.Module) (k : Facts) (i : ℕ) (w : Shared) (x : World) (p : code.Process) (q : Process) (ready : Ready m k i x p q) (hold : HoldTheSame m k i x p q) (worlds : (sides m).worlds k w x) (pc : ℕ) (pr : Option Printing) where
  abbrev now : Process
  now = at_place_of q pc pr

  abbrev types : List Ty
  types = types_of m ready.stands.is.function

  abbrev pub scene : Scene
  scene = record { adts = m.adts; globals = globals m; variables = types }

  abbrev store : Memory
  store = code.memory_of w p.frame

  -- An operand leads to part of the value that stands where a place begins, in the block of a value of the heap.
  pub record HeapPlace (root : Root) (operands : List Value) (o : isa.Operand) (t : Ty) (part : List ℕ) : Type 0 where
    pub name : ℕ
    pub serial : ℕ
    pub named : Is k name serial
    pub words : List Word
    pub byte : ℕ
    pub value : Value
    pub becomes : Value → HeapValue
    pub held : List Word → Block
    pub old : HeapValue
    pub there : at w.heap name ≡ Some old
    pub block : at x.heap serial ≡ Some (held words)
    pub leads : LeadsAndStores x now o words byte (λ new. memory (with_changed x serial (held new)) now)
    pub lies : Lies m.adts k words byte t (room_for m.adts t) (part_at part value)
    pub rooted : root_value store root operands ≡ Ok value
    pub rooting : (new : Value) → root_put store root operands new ≡ Ok (with_heap store (changed w.heap name (becomes new)))
    -- for what the block stands with another part there, also once more is known
    pub anew : (later : Facts) → Grows k later → (others source : List Word) (from : ℕ) (u : Value)
        → Writes words others byte source from (room_for m.adts t).size → Lies m.adts later others byte t (room_for m.adts t) u
        → (contents m).stands later serial (becomes (with_part part u value)) (held others)
    pub names : (ws : List Word) (n : ℕ) → machine.inside (held ws) n ≡ in_words n ws

  -- what its block refers to is there
  pub place_lives : (root : Root) (operands : List Value) (o : isa.Operand) (t : Ty) (part : List ℕ) → (is : HeapPlace root operands o t part) → (u wd : ℕ)
      → slice_get is.words wd ≡ Some (Refer (Some u)) → there (at x.heap u) ≡ true
  place_lives root operands o t part is u wd e =
      let named = named_by is.words wd u e in
      let same = is.names is.words u in
      worlds.0.closed.closed is.serial u (ap there is.block)
      (subst (λ (c : Option Block). 0 < in_one (contents m).words c u) (sym is.block) (omega (arith, named, same)))

  -- what a reference names is there
  pub refers_there : (r s : ℕ) → word_at q.frame.words (pos r) ≡ Found (Refer (Some s)) → there (at x.heap s) ≡ true
  refers_there r s e =
      let named = named_by q.frame.words (r / 4) s (word_found q.frame.words r (Refer (Some s)) e).1 in
      hold.same.live s (hold.same.roots s (omega (arith, named)))

  module _ (part : List ℕ) (us : List Ty) (t : Ty) (is : WayIs (scope m ready.stands.is.function) (way_from Target part) us t)
      (r0 : ℕ) (rs : List ℕ) (below : r0 < length p.frame.slots) (these : AreThese ready.stands.is.known (r0 ∷ rs) us) where
    abbrev r_at : ℕ
    r_at = reference_place m.adts types r0

    pub record TargetIs : Type 0 where
      pub type : Ty
      pub known : type_held (held.slot ready.stands.is.known r0) ≡ Some type
      pub value : Value
      pub holds : core.value_of (core.slot p.frame.slots r0) ≡ value
      pub ref : RefIs m k q.frame.words r_at is.begins.0 type value

    first_type : (u : List Ty) → AreThese ready.stands.is.known (r0 ∷ rs) u → (r : Ty) → slice_get u 0 ≡ Some r → IsA ready.stands.is.known r0 r
    first_type [] a r e = absurd cc
    first_type (u ∷ us) a r e = subst (IsA ready.stands.is.known r0) (same_some u r e) a.0

    pub target_is : TargetIs
    target_is =
        let begins = is.begins in
        let a = first_type us these begins.2.0 begins.2.1 in
        let s = slot_reads m k i w x p q ready hold worlds pc pr r0 below a.0 a.1 in
        record {
          type = a.0;
          known = a.1;
          value = s.value;
          holds = s.holds;
          ref = ref_is m k q.frame.words begins.0 r_at a.0 begins.2.0 s.value a.2 begins.2.2
              (s.reads.reference (ref_form begins.0 a.0 begins.2.0 a.2 begins.2.2));
        }

    abbrev operands : List Value
    operands = core.values_of p.frame.slots (r0 ∷ rs)

    abbrev pub at_target : Ty → isa.Operand
    at_target u = behind r_at (within m.adts (adt_of scene u) part)

    module _ (target : TargetIs) where
      holds_ref : (o : Option ℕ) → target.ref.name ≡ o → core.value_of (core.slot p.frame.slots r0) ≡ Ref o
      holds_ref o e = target.holds ∙ target.ref.is ∙ ap (λ (n : Option ℕ). Ref n) e

      pub no_target : target.ref.name ≡ None → root_value store Target operands ≡ Err dereference_of_nil
      no_target e = ap (λ (v : Value). root_value store Target (v ∷ core.values_of p.frame.slots rs)) (holds_ref None e)

      pub target_place : (s n : ℕ) → target.ref.refers ≡ Some s → target.ref.name ≡ Some n → HeapPlace Target operands (at_target target.type) t part
      target_place s n e f =
          let adt = is.begins.0 in
          let formed = subst (λ o. IsName k (Some (Adts adt)) (Some s) o) f (subst (λ o. IsName k (Some (Adts adt)) o target.ref.name) e target.ref.named) in
          let word = target.ref.word ∙ ap (λ (o : Option ℕ). Found (Refer o)) e in
          let j = record_there m k w x worlds.0 n s adt formed.fact formed.formed (refers_there r_at s word) in
          let change = blocks_change m.adts (globals m) (constants m) k s in
          let whole = (change.record_lies adt j.words j.value j.stands formed.formed).0 in
          let leads = subst (λ y. kept.Leads m.adts y part is.inner) is.begins.1 is.leads in
          let path = has_path m.adts (ty.Adt adt) part is.inner leads in
          let ends = path.1 ∙ is.ends in
          let byte = within m.adts (ty.Adt adt) part in
          let lies = parts_lie.there m.adts k j.words 0 (ty.Adt adt) part j.value path.0 whole in
          record {
            name = n;
            serial = s;
            named = formed.fact;
            words = j.words;
            byte = byte;
            value = j.value;
            becomes = λ v. source.Record v;
            held = λ ws. Record ws;
            old = source.Record j.value;
            there = j.there;
            block = j.block;
            leads = subst (λ y. LeadsAndStores x now (behind r_at (within m.adts y part)) j.words byte
                (λ new. memory (with_changed x s (Record new)) now)) (sym (target.ref.adt scene s e))
                (spots_lead.inner x now r_at s j.words byte word j.block);
            lies = subst (λ o. Lies m.adts k j.words o t (room_for m.adts t) (part_at part j.value)) (omega arith)
                (subst (λ y. Lies m.adts k j.words (0 + byte) y (room_for m.adts y) (part_at part j.value)) ends lies);
            rooted = ap (λ (v : Value). root_value store Target (v ∷ core.values_of p.frame.slots rs)) (holds_ref (Some n) f)
                ∙ ap (λ (o : Option HeapValue). Ok (source.record_in o)) j.there;
            rooting = λ new. ap (λ (v : Value). root_put store Target (v ∷ core.values_of p.frame.slots rs) new) (holds_ref (Some n) f);
            anew = λ later grows others from_words from u writes there. (
              (blocks_change m.adts (globals m) (constants m) later s).record_part adt j.words others j.value u part
                  ((contents m).grows k later s (source.Record j.value) (Record j.words) grows (j.stands, tt)).0 (grows.forms s _ formed.formed) (record {
                    source = from_words;
                    from = from;
                    path = path.0;
                    writes = subst (λ o. Writes j.words others o from_words from (room_for m.adts (type_within m.adts (ty.Adt adt) part)).size) (omega arith)
                        (subst (λ y. Writes j.words others byte from_words from (room_for m.adts y).size) (sym ends) writes);
                    lies = subst (λ o. Lies m.adts later others o (type_within m.adts (ty.Adt adt) part) (room_for m.adts (type_within m.adts (ty.Adt adt) part)) u)
                        (omega arith) (subst (λ y. Lies m.adts later others byte y (room_for m.adts y) u) (sym ends) there);
                  }),
              tt,
            );
            names = λ ws q. refl;
          }
