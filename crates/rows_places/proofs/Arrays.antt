-- Arrays in slots, to which elements they refer, and words of the linkage.
use Rattle.std.proofs.Common.{◌≡◌, ℕ, pos, ◌+◌, ◌*◌, ◌/◌, ◌%◌, ◌<◌, List, ◌∷◌, length, map, Option, Some, None, refl, ap, ◌∙◌, subst, arith, inl, inr}
use Rattle.std.specs.Prelude.{slice_get}
use Rattle.std.specs.List.{range_with_len}
use Rattle.heap_model.specs.Heap.{at, there}
use Rattle.limbo_types.specs.Types as ty
use Rattle.limbo_types.specs.Types.{Ty}
use Rattle.limbo_layout.specs.Adts.{Has}
use Rattle.limbo_layout.proofs.Rooms.{has_cases}
use Rattle.limbo_values.specs.declared.number.Kind.TheVariants as kind
use Rattle.limbo_typed.specs.Typed as typed
use Rattle.limbo_meaning.specs.Operations.{item_of}
use Rattle.limbo_meaning.specs.Process.{Shared}
use Rattle.limbo_meaning.specs.Values as value
use Rattle.limbo_meaning.specs.Values.{Value, part_of}
use Rattle.core_code.specs.Machine as code
use Rattle.core_code.specs.Slots as core
use Rattle.core_typing.specs.Held as held
use Rattle.core_typing.specs.Held.{type_held}
use Rattle.core_typing.specs.Needs.{StandsAs, IsA}
use Rattle.dis_meaning.specs.Words.{Word, Plain, Refer, Address, Access, Found, ◌>>=◌, word_at, plain, reference}
use Rattle.dis_meaning.specs.Process.{Process, Printing}
use Rattle.dis_memory.specs.Blocks.{World}
use Rattle.dis_memory.specs.Kinds.{Elements, elements_at}
use Rattle.value_words.specs.Facts.{Facts, IsPart}
use Rattle.value_words.specs.Stands.{Stands, a_number, a_text, a_name, an_array, no_words, a_tuple, an_adt}
use Rattle.value_words.proofs.Blank.{mapped}
use Rattle.value_words.proofs.Bytes.{word_there}
use Rattle.value_words.proofs.Rows.{is_there}
use Rattle.value_heaps.proofs.Contents.{contents_are}
use Rattle.value_frames.specs.Frames.{AsReference, form_of, linkage_bytes, spare_place, reference_place, row_of, frame_references}
use Rattle.value_code.specs.Objects.{globals, constants}
use Rattle.value_moves.specs.Operands.{own}
use Rattle.value_moves.proofs.Leading.{spots_lead}
use Rattle.number_effects.proofs.Reading.{operands_are_read}
use Rattle.block_effects.specs.Contents.{AreBlocks, LeadsTo, IsThere}
use Rattle.block_effects.specs.Stored.{ReadsElements}
use Rattle.block_effects.proofs.Referring.{references_lead, blocks_are_such}
use Rattle.value_follows.specs.Stands.{Ready, types_of}
use Rattle.value_follows.specs.Sides.{sides, contents, HoldTheSame}
use Rattle.rows_places.proofs.Going.{at_place_of}
use Rattle.rows_places.proofs.Sources.{slot_reads}
use Rattle.rows_places.proofs.Places.{refers_there}

-- what is said of blocks is such also where instances are those of the first object
pub are_blocks : (m : typed.Module) → AreBlocks m.adts (contents m)
are_blocks m =
    let such = blocks_are_such contents_are m.adts (globals m) (constants m) in
    record {
      text = such.text;
      part = such.part;
      elements = λ k n t long v b f s.
          let e = such.elements k n t long v b f s.0 in
          record { vs = e.vs; is = e.is; many = e.many; counted = e.counted; room = e.room; laid = e.laid; words = e.words; found = e.found };
      cell = λ k n t v b f s.
          let c = such.cell k n t v b f s.0 in
          record {
            head = c.head;
            behind = c.behind;
            is = c.is;
            words = c.words;
            rest = c.rest;
            named = c.named;
            found = c.found;
            holds = c.holds;
            older = c.older;
          };
    }

-- ---- arrays in words

pub array_form : (u t : Ty) → StandsAs u (ty.ArrayOf t) → form_of u ≡ AsReference
array_form u t (inl (inl e)) = ap form_of e
array_form (ty.RefPick a j) t (inl (inr e)) = refl
array_form u t (inl (inr e)) = absurd e
array_form u t (inr e) = ap form_of e.0

module _ (m : typed.Module) (k : Facts) (words : List Word) where
  -- A word that stands for part of an array, or for none.
  pub record ArrayIs (at : ℕ) (t : Ty) (u : Ty) (v : Value) : Type 0 where
    pub refers : Option ℕ
    pub part : Option value.Part
    pub is : part_of v ≡ part
    pub word : word_at words (pos at) ≡ Found (Refer refers)
    pub stands : IsPart k t refers part
    pub item : (p : value.Part) → part ≡ Some p → item_of u ≡ t

  of_array : (at : ℕ) (u t : Ty) (v : Value) → u ≡ ty.ArrayOf t → Stands m.adts k words at u v → ArrayIs at t u v
  of_array _ _ t _ h (a_number at kind.Byte z f i) = absurd cc
  of_array _ _ t _ h (a_number at kind.Int z f i) = absurd cc
  of_array _ _ t _ h (a_number at kind.Big z f i) = absurd cc
  of_array _ _ t _ h (a_text at r s f i) = absurd cc
  of_array _ _ t _ h (a_name at ty.Nil r o i f g) = absurd cc
  of_array _ _ t _ h (a_name at (ty.ListOf j) r o i f g) = absurd cc
  of_array _ _ t _ h (a_name at (ty.ChanOf j) r o i f g) = absurd cc
  of_array _ _ t _ h (a_name at (ty.RefAdt a) r o i f g) = absurd cc
  of_array _ _ t _ h (a_name at (ty.RefPick a j) r o i f g) = absurd cc
  of_array _ _ t _ h (a_name at (ty.Module a) r o i f g) = absurd cc
  of_array _ _ t _ h (a_name at j r o i f g) = absurd i
  of_array _ _ t _ h (an_array at s r p f i) =
      let same : s ≡ t = cc in
      record {
        refers = r;
        part = p;
        is = refl;
        word = f;
        stands = subst (λ (j : Ty). IsPart k j r p) same i;
        item = λ q e. same;
      }
  of_array _ _ t _ h (no_words at) = absurd cc
  of_array _ _ t _ h (a_tuple at ts rs vs l all) = absurd cc
  of_array _ _ t _ h (an_adt at a d rs vs f l all) = absurd cc

  of_nil : (at : ℕ) (u t : Ty) (v : Value) → u ≡ ty.Nil → Stands m.adts k words at u v → ArrayIs at t u v
  of_nil _ _ t _ h (a_number at kind.Byte z f i) = absurd cc
  of_nil _ _ t _ h (a_number at kind.Int z f i) = absurd cc
  of_nil _ _ t _ h (a_number at kind.Big z f i) = absurd cc
  of_nil _ _ t _ h (a_text at r s f i) = absurd cc
  of_nil _ _ t _ h (a_name at ty.Nil None o i f g) = record { refers = None; part = None; is = refl; word = f; stands = tt; item = λ q e. absurd cc }
  of_nil _ _ t _ h (a_name at ty.Nil (Some b) None i f g) = absurd g
  of_nil _ _ t _ h (a_name at ty.Nil (Some b) (Some o) i f g) = absurd g
  of_nil _ _ t _ h (a_name at j r o i f g) = absurd cc
  of_nil _ _ t _ h (an_array at j r p f i) = absurd cc
  of_nil _ _ t _ h (no_words at) = absurd cc
  of_nil _ _ t _ h (a_tuple at ts rs vs l all) = absurd cc
  of_nil _ _ t _ h (an_adt at a d rs vs f l all) = absurd cc

  pub array_is : (at : ℕ) (u t : Ty) (v : Value) → StandsAs u (ty.ArrayOf t) → Stands m.adts k words at u v → ArrayIs at t u v
  array_is at u t v (inl (inl e)) s = of_array at u t v e s
  array_is at (ty.RefPick a j) t v (inl (inr e)) s = absurd cc
  array_is at u t v (inl (inr e)) s = absurd e
  array_is at u t v (inr e) s = of_nil at u t v e.0 s

-- ---- a slot that has one

module _ (m : typed.Module) (k : Facts) (i : ℕ) (w : Shared) (x : World) (p : code.Process) (q : Process) (ready : Ready m k i x p q) (hold : HoldTheSame m k i x p q) (worlds : (sides m).worlds k w x) (pc : ℕ) (pr : Option Printing) where
  abbrev now : Process
  now = at_place_of q pc pr

  abbrev types : List Ty
  types = types_of m ready.stands.is.function

  module _ (r0 : ℕ) (item : Ty) where
    abbrev r_at : ℕ
    r_at = reference_place m.adts types r0

    pub record ArrayHere : Type 0 where
      pub type : Ty
      pub known : type_held (held.slot ready.stands.is.known r0) ≡ Some type
      pub value : Value
      pub holds : core.value_of (core.slot p.frame.slots r0) ≡ value
      pub array : ArrayIs m k q.frame.words r_at item type value

    pub array_here : r0 < length p.frame.slots → IsA ready.stands.is.known r0 (ty.ArrayOf item) → ArrayHere
    array_here below a =
        let s = slot_reads m k i w x p q ready hold worlds pc pr r0 below a.0 a.1 in
        record {
          type = a.0;
          known = a.1;
          value = s.value;
          holds = s.holds;
          array = array_is m k q.frame.words r_at a.0 item s.value a.2 (s.reads.reference (array_form a.0 item a.2));
        }

    module _ (a : ArrayHere) where
      is_there_now : IsThere x a.array.refers
      is_there_now b e = refers_there m k i w x p q ready hold worlds pc pr r_at b (a.array.word ∙ ap (λ (o : Option ℕ). Found (Refer o)) e)

      read_so : (es : Option Elements) → elements_at x a.array.refers ≡ Found es → ReadsElements x now (own r_at) es
      read_so es e = (
        a.array.refers,
        operands_are_read.source_referring x now (own r_at) q.frame.words r_at (spots_lead.own x now r_at).0
            ∙ ap (λ (c : Access Word). c >>= reference) a.array.word,
        e,
      )

      -- what an instruction reads there: nothing, or elements of the array
      pub reads_none : a.array.part ≡ None → ReadsElements x now (own r_at) None
      reads_none e =
          read_so None ((references_lead m.adts (contents m) (are_blocks m) k w.heap x worlds.0).no_array item a.array.refers
          (subst (IsPart k item a.array.refers) e a.array.stands))

      pub record ElementsRead (part : value.Part) : Type 0 where
        pub es : Elements
        pub read : ReadsElements x now (own r_at) (Some es)
        pub leads : LeadsTo m.adts (contents m) k w.heap x item part es

      pub reads_some : (part : value.Part) → a.array.part ≡ Some part → ElementsRead part
      reads_some part e =
          let r = (references_lead m.adts (contents m) (are_blocks m) k w.heap x worlds.0).array item a.array.refers part
          (subst (IsPart k item a.array.refers) e a.array.stands) is_there_now in
          record { es = r.0; read = read_so (Some r.0) r.1; leads = r.2 }

-- ---- words of the linkage

is_plain : (w : Word) → ((r : Option ℕ) → w ≡ Refer r → ⊥) → plain w ≡ Found w
is_plain (Plain z) none = refl
is_plain (Refer r) none = absurd (none r refl)
is_plain (Address place to) none = refl

module _ (m : typed.Module) (k : Facts) (i : ℕ) (x : World) (p : code.Process) (q : Process) (ready : Ready m k i x p q) where
  abbrev variables : List Ty
  variables = types_of m ready.stands.is.function

  abbrev slots_many : ℕ
  slots_many = length p.frame.slots

  in_front : (o at : ℕ) → at < linkage_bytes → Has (frame_references m.adts variables slots_many) o → o ≡ at → ⊥
  in_front o at low h e = elim (has_cases (map (λ o. linkage_bytes + o) (row_of m.adts variables).references)
      (spare_place m.adts variables ∷ map (λ s. reference_place m.adts variables s) (range_with_len 0 slots_many)) o h) [
        | inl there ↦
            let a = mapped (λ o. linkage_bytes + o) (row_of m.adts variables).references o there in
            let f = a.2 in
            absurd (omega (arith, e, f, low))
        | inr (inl f) ↦ absurd (omega (arith, e, f, low))
        | inr (inr there) ↦
            let a = mapped (λ s. reference_place m.adts variables s) (range_with_len 0 slots_many) o there in
            let f = a.2 in
            absurd (omega (arith, e, f, low))
      ]

  -- A word in front of the variables refers to nothing.
  pub record LinkageWord (at : ℕ) : Type 0 where
    pub old : Word
    pub there : slice_get q.frame.words (at / 4) ≡ Some old
    pub found : word_at q.frame.words (pos at) ≡ Found old
    pub no_refer : (r : Option ℕ) → old ≡ Refer r → ⊥
    pub is_plain : plain old ≡ Found old

  pub linkage_word : (at : ℕ) → at % 4 ≡ 0 → at < linkage_bytes → LinkageWord at
  linkage_word at whole low =
      let are = ready.stands.is.words.kind in
      let many = are.many in
      let old = is_there q.frame.words (at / 4) (omega (arith, many, low)) in
      let no : (r : Option ℕ) → old.0 ≡ Refer r → ⊥ = λ r e.
      in_front (4 * (at / 4)) at low (are.only (at / 4) r (old.1 ∙ ap (λ (w : Word). Some w) e)) (omega (arith, whole)) in
      record {
        old = old.0;
        there = old.1;
        found = word_there q.frame.words at old.0 whole old.1;
        no_refer = no;
        is_plain = is_plain old.0 no;
      }
