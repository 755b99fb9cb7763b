-- What slots have that are arrays, and the bytes of those whose elements are bytes.
use Rattle.std.proofs.Common.{◌≡◌, ℕ, ℤ, zero, suc, pos, negsuc, ◌+◌, ◌-◌, ◌*◌, ◌<◌, ◌≤◌, List, [], ◌∷◌, length, map, take, drop, Option, Some, None, refl, sym, ap, ◌∙◌, subst, arith, inl, inr}
use Rattle.std.specs.Prelude.{slice_get, slice_range, unsigned_abs}
use Rattle.std.proofs.lemmas.Int.{ints}
use Rattle.limbo_types.specs.Types as ty
use Rattle.limbo_types.specs.Types.{Ty}
use Rattle.limbo_layout.specs.Adts.{Def, Has}
use Rattle.limbo_layout.specs.Layout.{Room, Laid, is_alone, of_tuple, of_adt}
use Rattle.limbo_values.specs.declared.number.Kind.TheVariants as kind
use Rattle.limbo_values.specs.Numbers.{InRange}
use Rattle.limbo_typed.specs.Typed as typed
use Rattle.limbo_typed.specs.Fitting.{IsVariantOf}
use Rattle.limbo_meaning.specs.Memory as source
use Rattle.limbo_meaning.specs.Memory.{HeapValue}
use Rattle.limbo_meaning.specs.Process.{Shared}
use Rattle.limbo_meaning.specs.Values.{Part, Value, part_of, number_of}
use Rattle.core_code.specs.Machine as code
use Rattle.core_code.specs.Slots as core
use Rattle.core_code.specs.Slots.{Holds}
use Rattle.core_typing.specs.Held as held
use Rattle.core_typing.specs.Held.{Of, type_held}
use Rattle.core_typing.specs.Needs.{IsA}
use Rattle.dis_meaning.specs.Words.{Word, Refer, Found, word_at}
use Rattle.dis_meaning.specs.Numbers.{number_at}
use Rattle.dis_meaning.specs.Process.{Process}
use Rattle.dis_memory.specs.Blocks as block
use Rattle.dis_memory.specs.Blocks.{Block, World}
use Rattle.dis_file.specs.declared.types.TypeDesc.{TypeDesc}
use Rattle.dis_memory.specs.Kinds.{Elements}
use Rattle.dis_memory.specs.Strings.{bytes_in}
use Rattle.heap_model.specs.Heap.{at}
use Rattle.value_words.specs.Forms as forms
use Rattle.value_words.specs.Facts.{Facts, IsPart, IsName}
use Rattle.value_words.specs.Stands.{Stands, IsReference, a_number, a_text, a_name, an_array, no_words, a_tuple, an_adt}
use Rattle.value_heaps.specs.Blocks as blocks
use Rattle.value_heaps.specs.Blocks.{Constant, IsBlock}
use Rattle.value_heaps.proofs.Contents.{contents_are}
use Rattle.value_frames.specs.Frames.{AsReference, form_of, number_place, reference_place}
use Rattle.value_frames.specs.Standing.{SlotStands}
use Rattle.value_frames.proofs.Rest.{slots_rest}
use Rattle.value_code.specs.Objects.{globals, constants}
use Rattle.block_effects.specs.Contents.{AreBlocks, ReferencesLead, LeadsTo}
use Rattle.block_effects.proofs.ByteArrays.{bytes_are_copied}
use Rattle.block_effects.proofs.Referring.{references_lead, blocks_are_such}
use Rattle.value_follows.specs.Stands.{types_of}
use Rattle.value_follows.specs.Sides.{sides, contents}
use Rattle.value_follows.proofs.Slots.{slot_is, of_type, number_there}
use Rattle.rows_texts.proofs.OnTheWay.{On, frame_is}

-- ---- part of an array in a slot

module _ (defs : List Def) (k : Facts) (words : List Word) where
  -- A word refers to part of an array, or to nothing.
  record ArrayAt (at : ℕ) (t : Ty) (v : Value) : Type 0 where
    refers : Option ℕ
    word : word_at words (pos at) ≡ Found (Refer refers)
    array : IsPart k t refers (part_of v)

  array_there : (at : ℕ) (u t : Ty) (v : Value) → u ≡ ty.ArrayOf t → Stands defs k words at u v → ArrayAt at t v
  array_there _ _ t _ e (a_number at kind.Byte z g i) = absurd cc
  array_there _ _ t _ e (a_number at kind.Int z g i) = absurd cc
  array_there _ _ t _ e (a_number at kind.Big z g i) = absurd cc
  array_there _ _ t _ e (a_text at r s g i) = absurd cc
  array_there _ _ t _ e (a_name at u r n i g h) = absurd (subst IsReference e i)
  array_there _ _ t _ e (an_array at u r p g i) =
      let same : u ≡ t = cc in record { refers = r; word = g; array = subst (λ (u : Ty). IsPart k u r p) same i }
  array_there _ _ t _ e (no_words at) = absurd cc
  array_there _ _ t _ e (a_tuple at ts rs vs l all) = absurd cc
  array_there _ _ t _ e (an_adt at n d rs vs g l all) = absurd cc

  nil_name : (r n : Option ℕ) (t : Ty) → IsName k None r n → (r ≡ None) × (n ≡ None)
  nil_name None None t i = (refl, refl)
  nil_name None (Some n) t i = absurd i
  nil_name (Some b) None t i = absurd i
  nil_name (Some b) (Some n) t i = absurd i

  nil_there : (at : ℕ) (u t : Ty) (v : Value) → u ≡ ty.Nil → Stands defs k words at u v → ArrayAt at t v
  nil_there _ _ t _ e (a_number at kind.Byte z g i) = absurd cc
  nil_there _ _ t _ e (a_number at kind.Int z g i) = absurd cc
  nil_there _ _ t _ e (a_number at kind.Big z g i) = absurd cc
  nil_there _ _ t _ e (a_text at r s g i) = absurd cc
  nil_there _ _ t _ e (a_name at u r n i g h) =
      let none = nil_name r n t (subst (λ (u : Ty). IsName k (forms.form_of u) r n) e h) in
      record { refers = r; word = g; array = subst (λ (o : Option ℕ). IsPart k t o None) (sym none.0) tt }
  nil_there _ _ t _ e (an_array at u r p g i) = absurd cc
  nil_there _ _ t _ e (no_words at) = absurd cc
  nil_there _ _ t _ e (a_tuple at ts rs vs l all) = absurd cc
  nil_there _ _ t _ e (an_adt at n d rs vs g l all) = absurd cc

no_variant : (u t : Ty) → IsVariantOf u (ty.ArrayOf t) → ⊥
no_variant (ty.RefPick n v) t e = absurd cc
no_variant _ t e = e

module _ (m : typed.Module) (k : Facts) (i : ℕ) (x : World) (busy : List ℕ) (n : ℕ) (f : typed.Function) (j : ℕ) (p : code.Process)
    (q : Process) (on : On m k i x busy n f j p q) where
  abbrev r_at : ℕ → ℕ
  r_at s = reference_place m.adts (types_of m f) s

  -- A slot has part of an array where one is asked for.
  pub record ArrayIs (t : Ty) (s : ℕ) : Type 0 where
    pub value : Value
    pub holds : core.slot p.frame.slots s ≡ Holds value
    pub refers : Option ℕ
    pub word : word_at q.frame.words (pos (r_at s)) ≡ Found (Refer refers)
    pub array : IsPart k t refers (part_of value)

  record Referring (s : ℕ) (t : Ty) : Type 0 where
    value : Value
    holds : core.slot p.frame.slots s ≡ Holds value
    stands : Stands m.adts k q.frame.words (r_at s) t value

  referring : (s : ℕ) (t : Ty) → s < length p.frame.slots → (Has busy s → ⊥) → type_held (held.slot on.known s) ≡ Some t → form_of t ≡ AsReference
      → Referring s t
  referring s t l free e form =
      let h = of_type (held.slot on.known s) t e in
      let at = number_place m.adts (types_of m f) s in
      let own = on.words.own s in
      let stands = subst (λ h. SlotStands m.adts k x.heap q.frame.serial q.frame.words at (r_at s) h (core.slot p.frame.slots s) own) h.1
      (slot_is m k i x busy p.frame q.frame (frame_is m k i x busy n f j p q on) s l free) in
      let v = slots_rest.is_value m.adts k x.heap q.frame.serial q.frame.words at (r_at s) t h.0 (core.slot p.frame.slots s) own stands in
      let reads = slots_rest.reads m.adts k x.heap q.frame.serial q.frame.words at (r_at s) t h.0 v.0 own
      (subst (λ o. SlotStands m.adts k x.heap q.frame.serial q.frame.words at (r_at s) (Of t h.0) o own) v.1 stands) in
      record { value = v.0; holds = v.1; stands = reads.reference form }

  with_part : (t : Ty) (s : ℕ) (v : Value) → core.slot p.frame.slots s ≡ Holds v → ArrayAt m.adts k q.frame.words (r_at s) t v → ArrayIs t s
  with_part t s v holds a = record { value = v; holds = holds; refers = a.refers; word = a.word; array = a.array }

  pub array_is : (t : Ty) (s : ℕ) → s < length p.frame.slots → (Has busy s → ⊥) → IsA on.known s (ty.ArrayOf t) → ArrayIs t s
  array_is t s l free (u, held_so, inl (inl e)) =
      let r = referring s (ty.ArrayOf t) l free (held_so ∙ ap (λ (v : Ty). Some v) e) refl in
      with_part t s r.value r.holds (array_there m.adts k q.frame.words (r_at s) (ty.ArrayOf t) t r.value refl r.stands)
  array_is t s l free (u, held_so, inl (inr v)) = absurd (no_variant u t v)
  array_is t s l free (u, held_so, inr nil) =
      let r = referring s ty.Nil l free (held_so ∙ ap (λ (v : Ty). Some v) nil.0) refl in
      with_part t s r.value r.holds (nil_there m.adts k q.frame.words (r_at s) ty.Nil t r.value refl r.stands)

-- ---- to which blocks references lead

module _ (m : typed.Module) where
  are_blocks : AreBlocks m.adts (contents m)
  are_blocks =
      let such = blocks_are_such contents_are m.adts (globals m) (constants m) in
      record {
        text = such.text;
        part = such.part;
        elements = λ k n t long v b f s.
            let e = such.elements k n t long v b f s.0 in
            record { vs = e.vs; is = e.is; many = e.many; counted = e.counted; room = e.room; laid = e.laid; words = e.words; found = e.found };
        cell = λ k n t v b f s.
            let c = such.cell k n t v b f s.0 in
            record {
              head = c.head;
              behind = c.behind;
              is = c.is;
              words = c.words;
              rest = c.rest;
              named = c.named;
              found = c.found;
              holds = c.holds;
              older = c.older;
            };
      }

  pub lead : (k : Facts) (w : Shared) (x : World) → (sides m).worlds k w x → ReferencesLead m.adts (contents m) k w.heap x
  lead k w x worlds = references_lead m.adts (contents m) are_blocks k w.heap x worlds.0

-- ---- elements that are bytes

module _ (defs : List Def) where
  pub byte_size : (t : Ty) (r : Room) → t ≡ ty.Byte → Laid defs t r → r.size ≡ 1
  byte_size _ _ e (is_alone ty.Byte r f) = let g : Some r.size ≡ Some 1 = sym (ap sizes f) in cc
    where
      sizes : Option Room → Option ℕ
      sizes None = None
      sizes (Some r) = Some r.size
  byte_size _ _ e (is_alone t r f) = absurd cc
  byte_size _ _ e (of_tuple ts rs l) = absurd cc
  byte_size _ _ e (of_adt n d rs f l) = absurd cc

-- ---- part of a list

taken : {A : Type 0} (n : ℕ) (xs : List A) (j : ℕ) (v : A) → slice_get (take n xs) j ≡ Some v → slice_get xs j ≡ Some v
taken zero xs j v e = absurd cc
taken (suc n) [] j v e = absurd cc
taken (suc n) (x ∷ xs) zero v e = e
taken (suc n) (x ∷ xs) (suc j) v e = taken n xs j v e

dropped : {A : Type 0} (n : ℕ) (xs : List A) (j : ℕ) → slice_get (drop n xs) j ≡ slice_get xs (n + j)
dropped zero xs j = ap (slice_get xs) (omega arith)
dropped (suc n) [] j = let e : suc n + j ≡ suc (n + j) = omega arith in sym (ap (slice_get []) e)
dropped (suc n) (x ∷ xs) j = let e : suc (n + j) ≡ suc n + j = omega arith in dropped n xs j ∙ ap (slice_get (x ∷ xs)) e

long_dropped : {A : Type 0} (n : ℕ) (xs : List A) → length (drop n xs) ≡ length xs - n
long_dropped zero xs = omega arith
long_dropped (suc n) [] = omega arith
long_dropped (suc n) (x ∷ xs) = let h = long_dropped n xs in omega (arith, h)

long_taken : {A : Type 0} (n : ℕ) (xs : List A) → n ≤ length xs → length (take n xs) ≡ n
long_taken zero xs l = refl
long_taken (suc n) [] l = absurd (omega (arith, l))
long_taken (suc n) (x ∷ xs) l = let h = long_taken n xs (omega (arith, l)) in omega (arith, h)

pub in_range : {A : Type 0} (xs : List A) (from long j : ℕ) (v : A) → slice_get (slice_range xs from (from + long)) j ≡ Some v
    → slice_get xs (from + j) ≡ Some v
in_range xs from long j v e = sym (dropped from xs j) ∙ taken (from + long - from) (drop from xs) j v e

pub long_range : {A : Type 0} (xs : List A) (from long : ℕ) → from + long ≤ length xs → length (slice_range xs from (from + long)) ≡ long
long_range xs from long l =
    let d = long_dropped from xs in
    let h = long_taken (from + long - from) (drop from xs) (omega (arith, d, l)) in
    omega (arith, h)

pub mapped : {A B : Type 0} (g : A → B) (xs : List A) (j : ℕ) (b : B) → slice_get (map g xs) j ≡ Some b → (v : A) × (slice_get xs j ≡ Some v) × (g v ≡ b)
mapped g [] j b e = absurd cc
mapped g (x ∷ xs) zero b e = (x, refl, same (g x) b e)
  where
    same : {B : Type 0} (a b : B) → Some a ≡ Some b → a ≡ b
    same a b e = cc
mapped g (x ∷ xs) (suc j) b e = mapped g xs j b e

pub long_map : {A B : Type 0} (g : A → B) (xs : List A) → length (map g xs) ≡ length xs
long_map g [] = refl
long_map g (x ∷ xs) = ap suc (long_map g xs)

-- ---- elements that are bytes

-- a byte is a number from 0 on
natural : (z : ℤ) → InRange kind.Byte z → pos (unsigned_abs z) ≡ z
natural (pos n) range = refl
natural (negsuc n) range = let a = range.above in absurd (omega (arith, ints, a))

pub record ByteAt (words : List Word) (i : ℕ) (v : Value) : Type 0 where
  pub found : number_at kind.Byte words (pos i) ≡ Found (pos (unsigned_abs (number_of v)))

module _ (defs : List Def) (types : List Ty) (known : List Constant) (k : Facts) (serial : ℕ) where
  byte_there : (words : List Word) (i : ℕ) (t : Ty) (v : Value) → t ≡ ty.Byte → Stands defs k words i t v → ByteAt words i v
  byte_there words i t v e stands =
      let n = number_there defs k words i t v kind.Byte e stands in
      record {
        found = n.found ∙ ap (λ (z : ℤ). Found z) (sym (natural n.number n.range))
            ∙ ap (λ (v : Value). Found (pos (unsigned_abs (number_of v)))) (sym n.is);
      }

  -- in the block of an array of bytes they lie one behind the other
  pub byte_elements : (v : HeapValue) (b : Block) → IsBlock defs types known k serial v b → (vs : List Value) → v ≡ source.Elements vs → (words : List Word)
      → block.reached b ≡ Found words → (long : ℕ) → k.form serial ≡ Some (forms.Elements ty.Byte long)
      → (i : ℕ) (u : Value) → slice_get vs i ≡ Some u → ByteAt words i u
  byte_elements _ _ (blocks.elements t r inner us g l few whole each refer) vs is words reached long formed i u e =
      let same : us ≡ vs = cc in
      let words_same : inner ≡ words = cc in
      let forms_same : Some (forms.Elements t (length us)) ≡ Some (forms.Elements ty.Byte long) = sym g ∙ formed in
      let type_is : t ≡ ty.Byte = cc in
      let one = byte_size defs t r type_is l in
      let here = each i u (ap (λ (xs : List Value). slice_get xs i) same ∙ e) in
      let place : i * r.size ≡ i = ap (λ (n : ℕ). i * n) one ∙ omega arith in
      subst (λ (ws : List Word). ByteAt ws i u) words_same (subst (λ (n : ℕ). ByteAt inner n u) place (byte_there inner (i * r.size) t u type_is here))
  byte_elements _ _ (blocks.cell t r inner v tail rest g l whole s o a n older) vs is words reached long formed i u e = absurd cc
  byte_elements _ _ (blocks.record_of a r inner v g l whole s o n) vs is words reached long formed i u e = absurd cc
  byte_elements _ _ (blocks.channel t desc g) vs is words reached long formed i u e = absurd cc
  byte_elements _ _ (blocks.instance_of object rs inner us g l whole s o t c) vs is words reached long formed i u e = absurd cc

abbrev pub byte_of : Value → ℕ
byte_of v = unsigned_abs (number_of v)

-- What is read of part of an array of bytes.
module _ (m : typed.Module) (k : Facts) (w : Shared) (x : World) (p : Part) (e : Elements) (leads : LeadsTo m.adts (contents m) k w.heap x ty.Byte p e)
  where
    abbrev pub bytes : List ℕ
    bytes = map byte_of (slice_range (source.elements_in (at w.heap p.array)) p.start (p.start + p.long))

    pub bytes_read : bytes_in (Some e) ≡ Found bytes
    bytes_read =
        bytes_are_copied.read_in e (map byte_of (slice_range leads.vs p.start (p.start + p.long)))
        (ap (λ (d : TypeDesc). d.size) leads.element ∙ byte_size m.adts ty.Byte leads.room refl leads.laid)
        (leads.long ∙ sym (long_map byte_of (slice_range leads.vs p.start (p.start + p.long)) ∙ long_range leads.vs p.start p.long leads.within))
        each
        ∙ ap (λ (o : Option HeapValue). Found (map byte_of (slice_range (source.elements_in o) p.start (p.start + p.long)))) (sym leads.is)
      where
        each : (j b : ℕ) → slice_get (map byte_of (slice_range leads.vs p.start (p.start + p.long))) j ≡ Some b
            → number_at kind.Byte e.words (pos (e.start + j)) ≡ Found (pos b)
        each j b h =
            let v = mapped byte_of (slice_range leads.vs p.start (p.start + p.long)) j b h in
            let at = byte_elements m.adts (globals m) (constants m) k e.array (source.Elements leads.vs) (block.Array e.element (length leads.vs) e.words)
            leads.stands.0 leads.vs refl e.words refl (length leads.vs) leads.formed (p.start + j) v.0 (in_range leads.vs p.start p.long j v.0 v.1) in
            ap (λ (n : ℕ). number_at kind.Byte e.words (pos (n + j))) leads.start ∙ at.found ∙ ap (λ (n : ℕ). Found (pos n)) v.2
