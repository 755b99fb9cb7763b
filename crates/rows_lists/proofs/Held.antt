-- What slots have that an instruction reads: names of values of the heap, and parts of arrays.
use Rattle.std.proofs.Common.{◌≡◌, ℕ, pos, ◌<◌, List, [], ◌∷◌, length, Option, Some, None, refl, sym, ap, ◌∙◌, subst, inl, inr}
use Rattle.limbo_types.specs.Types as ty
use Rattle.limbo_types.specs.Types.{Ty}
use Rattle.limbo_layout.specs.Adts.{Def, Has}
use Rattle.limbo_values.specs.declared.number.Kind.TheVariants as kind
use Rattle.limbo_typed.specs.Typed as typed
use Rattle.limbo_typed.specs.Fitting as fitting
use Rattle.limbo_typed.specs.Fitting.{IsVariantOf}
use Rattle.limbo_meaning.specs.Values as value
use Rattle.limbo_meaning.specs.Values.{Value, Ref, Array, part_of, fitted}
use Rattle.core_code.specs.Machine as code
use Rattle.core_code.specs.Slots as core
use Rattle.core_code.specs.Slots.{Slot, Holds}
use Rattle.core_typing.specs.Held as held
use Rattle.core_typing.specs.Held.{Of, type_held}
use Rattle.core_typing.specs.Needs.{IsA, IsClean}
use Rattle.dis_meaning.specs.Words.{Word, Refer, Found, word_at}
use Rattle.dis_meaning.specs.Process.{Frame}
use Rattle.dis_memory.specs.Blocks.{World}
use Rattle.value_words.specs.Forms as forms
use Rattle.value_words.specs.Forms.{Form}
use Rattle.value_words.specs.Facts.{Facts, IsName, IsPart}
use Rattle.value_words.specs.Stands.{IsReference, Stands, a_number, a_text, a_name, an_array, no_words, a_tuple, an_adt}
use Rattle.value_words.proofs.Wholes.{stands_whole}
use Rattle.value_frames.specs.Frames.{AsReference, form_of, number_place, reference_place}
use Rattle.value_frames.specs.Standing.{SlotStands, NamesOnly}
use Rattle.value_frames.proofs.Rest.{slots_rest}
use Rattle.value_follows.specs.Stands.{types_of, FrameIs}
use Rattle.value_follows.proofs.Slots.{slot_is, of_type}
use Rattle.rows_moving.proofs.References.{one_word}

pub as_reference : (t : Ty) → IsReference t → form_of t ≡ AsReference
as_reference ty.Nil i = refl
as_reference (ty.ListOf t) i = refl
as_reference (ty.ChanOf t) i = refl
as_reference (ty.RefAdt n) i = refl
as_reference (ty.RefPick n k) i = refl
as_reference (ty.Module n) i = refl
as_reference t i = absurd i

-- A reference stands for a name, or for part of an array.
pub data RefersTo (k : Facts) : Value → Option ℕ → Type 0 where
  a_named : (asked : Option Form) (r n : Option ℕ) → IsName k asked r n → RefersTo k (Ref n) r
  a_part : (item : Ty) (r : Option ℕ) (p : Option value.Part) → IsPart k item r p → RefersTo k (Array p) r

module _ (k : Facts) where
  -- what stands for `nil` alone does so for each form
  any_form : (asked : Option Form) (r n : Option ℕ) → IsName k None r n → IsName k asked r n
  any_form asked None None i = tt
  any_form asked (Some b) None i = absurd i
  any_form asked None (Some n) i = absurd i
  any_form asked (Some b) (Some n) i = absurd i

  module _ (defs : List Def) (words : List Word) where
    -- A name stands at a byte, of a block of a form.
    pub record NameAt (at : ℕ) (asked : Option Form) (v : Value) : Type 0 where
      pub name : Option ℕ
      pub refers : Option ℕ
      pub is : v ≡ Ref name
      pub word : word_at words (pos at) ≡ Found (Refer refers)
      pub named : IsName k asked refers name

    pub name_there : (at : ℕ) (t : Ty) (v : Value) → IsReference t → Stands defs k words at t v → NameAt at (forms.form_of t) v
    name_there _ _ _ i (a_number at kind.Byte z f r) = absurd i
    name_there _ _ _ i (a_number at kind.Int z f r) = absurd i
    name_there _ _ _ i (a_number at kind.Big z f r) = absurd i
    name_there _ _ _ i (a_text at r s f h) = absurd i
    name_there _ _ _ i (a_name at t r n j f h) = record { name = n; refers = r; is = refl; word = f; named = h }
    name_there _ _ _ i (an_array at t r p f h) = absurd i
    name_there _ _ _ i (no_words at) = absurd i
    name_there _ _ _ i (a_tuple at ts rs vs l all) = absurd i
    name_there _ _ _ i (an_adt at n d rs vs f l all) = absurd i

    -- Part of an array stands at a byte, or `nil`.
    pub record PartAt (at : ℕ) (item : Ty) (v : Value) : Type 0 where
      pub part : Option value.Part
      pub refers : Option ℕ
      pub is : part_of v ≡ part
      pub word : word_at words (pos at) ≡ Found (Refer refers)
      pub stands : IsPart k item refers part

    part_there : (at : ℕ) (t item : Ty) (v : Value) → t ≡ ty.ArrayOf item → Stands defs k words at t v → PartAt at item v
    part_there _ _ item _ e (a_number at kind.Byte z f r) = absurd cc
    part_there _ _ item _ e (a_number at kind.Int z f r) = absurd cc
    part_there _ _ item _ e (a_number at kind.Big z f r) = absurd cc
    part_there _ _ item _ e (a_text at r s f h) = absurd cc
    part_there _ _ item _ e (a_name at t r n j f h) = absurd (subst IsReference e j)
    part_there _ _ item _ e (an_array at t r p f h) =
        let same : t ≡ item = cc in
        record { part = p; refers = r; is = refl; word = f; stands = subst (λ (u : Ty). IsPart k u r p) same h }
    part_there _ _ item _ e (no_words at) = absurd cc
    part_there _ _ item _ e (a_tuple at ts rs vs l all) = absurd cc
    part_there _ _ item _ e (an_adt at n d rs vs f l all) = absurd cc

    array_there : (at : ℕ) (t item : Ty) (v : Value) → t ≡ ty.ArrayOf item → Stands defs k words at t v
        → (r : Option ℕ) × (word_at words (pos at) ≡ Found (Refer r)) × RefersTo k v r
    array_there _ _ item _ e (a_number at kind.Byte z f r) = absurd cc
    array_there _ _ item _ e (a_number at kind.Int z f r) = absurd cc
    array_there _ _ item _ e (a_number at kind.Big z f r) = absurd cc
    array_there _ _ item _ e (a_text at r s f h) = absurd cc
    array_there _ _ item _ e (a_name at t r n j f h) = absurd (subst IsReference e j)
    array_there _ _ item _ e (an_array at t r p f h) = (r, f, a_part t r p h)
    array_there _ _ item _ e (no_words at) = absurd cc
    array_there _ _ item _ e (a_tuple at ts rs vs l all) = absurd cc
    array_there _ _ item _ e (an_adt at n d rs vs f l all) = absurd cc

    no_part : (at : ℕ) (item : Ty) (v : Value) → NameAt at None v → PartAt at item v
    no_part at item v n = go n.name n.refers n.is n.word n.named
      where
        go : (name refers : Option ℕ) → v ≡ Ref name → word_at words (pos at) ≡ Found (Refer refers) → IsName k None refers name → PartAt at item v
        go None None is word i = record { part = None; refers = None; is = ap part_of is; word = word; stands = tt }
        go None (Some b) is word i = absurd i
        go (Some n) None is word i = absurd i
        go (Some n) (Some b) is word i = absurd i

module _ (m : typed.Module) (k : Facts) (i : ℕ) (x : World) (busy : List ℕ) (g : code.Frame) (f : Frame) (is : FrameIs m k i x busy g f) where
  abbrev types : List Ty
  types = types_of m is.function

  abbrev place : ℕ → ℕ
  place s = reference_place m.adts types s

  -- the value of a slot that has one of a type which refers
  record Referring (s : ℕ) (t : Ty) : Type 0 where
    v : Value
    holds : core.slot g.slots s ≡ Holds v
    stands : Stands m.adts k f.words (place s) t v
    live : List ℕ
    known : held.slot is.known s ≡ Of t live
    names : NamesOnly live v

  referring : (s : ℕ) (t : Ty) → s < length g.slots → (Has busy s → ⊥) → type_held (held.slot is.known s) ≡ Some t → form_of t ≡ AsReference
      → Referring s t
  referring s t l free e form =
      let h = of_type (held.slot is.known s) t e in
      let n = number_place m.adts types s in
      let own = is.words.own s in
      let stands = subst (λ h. SlotStands m.adts k x.heap f.serial f.words n (place s) h (core.slot g.slots s) own) h.1
      (slot_is m k i x busy g f is s l free) in
      let v = slots_rest.is_value m.adts k x.heap f.serial f.words n (place s) t h.0 (core.slot g.slots s) own stands in
      let reads = slots_rest.reads m.adts k x.heap f.serial f.words n (place s) t h.0 v.0 own
      (subst (λ o. SlotStands m.adts k x.heap f.serial f.words n (place s) (Of t h.0) o own) v.1 stands) in
      record { v = v.0; holds = v.1; stands = reads.reference form; live = h.0; known = h.1; names = reads.names }

  -- A slot has a name where one is asked for.
  pub record NameIs (t : Ty) (s : ℕ) : Type 0 where
    pub name : Option ℕ
    pub refers : Option ℕ
    pub holds : core.slot g.slots s ≡ Holds (Ref name)
    pub word : word_at f.words (pos (place s)) ≡ Found (Refer refers)
    pub named : IsName k (forms.form_of t) refers name

  by_name : (s : ℕ) (t u : Ty) → (r : Referring s u) → IsReference u
      → ((a c : Option ℕ) → IsName k (forms.form_of u) a c → IsName k (forms.form_of t) a c) → NameIs t s
  by_name s t u r i to =
      let n = name_there k m.adts f.words (place s) u r.v i r.stands in
      record { name = n.name; refers = n.refers; holds = r.holds ∙ ap Holds n.is; word = n.word; named = to n.refers n.name n.named }

  variant_is : (u t : Ty) → IsVariantOf u t → IsReference u × ((a c : Option ℕ) → IsName k (forms.form_of u) a c → IsName k (forms.form_of t) a c)
  variant_is (ty.RefPick n v) t e = (tt, λ a c h. subst (λ (l : Ty). IsName k (forms.form_of l) a c) (sym e) h)
  variant_is u t e = absurd e

  pub name_is : (t : Ty) (s : ℕ) → IsReference t → s < length g.slots → (Has busy s → ⊥) → IsA is.known s t → NameIs t s
  name_is t s i l free (u, held_so, inl (inl e)) =
      let h = held_so ∙ ap (λ (v : Ty). Some v) e in
      by_name s t t (referring s t l free h (as_reference t i)) i (λ a c h. h)
  name_is t s i l free (u, held_so, inl (inr v)) =
      let r = variant_is u t v in
      by_name s t u (referring s u l free held_so (as_reference u r.0)) r.0 r.1
  name_is t s i l free (u, held_so, inr n) =
      by_name s t ty.Nil (referring s ty.Nil l free (held_so ∙ ap (λ (v : Ty). Some v) n.0) refl) tt (λ a c h. any_form k (forms.form_of t) a c h)

  -- Or part of an array.
  pub record PartIs (item : Ty) (s : ℕ) : Type 0 where
    pub v : Value
    pub part : Option value.Part
    pub refers : Option ℕ
    pub holds : core.slot g.slots s ≡ Holds v
    pub is_part : part_of v ≡ part
    pub word : word_at f.words (pos (place s)) ≡ Found (Refer refers)
    pub stands : IsPart k item refers part

  by_part : (s : ℕ) (item : Ty) (v : Value) → core.slot g.slots s ≡ Holds v → PartAt k m.adts f.words (place s) item v → PartIs item s
  by_part s item v holds a = record { v = v; part = a.part; refers = a.refers; holds = holds; is_part = a.is; word = a.word; stands = a.stands }

  no_variant : (u t : Ty) → IsVariantOf u (ty.ArrayOf t) → ⊥
  no_variant (ty.RefPick n v) t e = absurd cc
  no_variant u t e = absurd e

  pub part_is : (item : Ty) (s : ℕ) → s < length g.slots → (Has busy s → ⊥) → IsA is.known s (ty.ArrayOf item) → PartIs item s
  part_is item s l free (u, held_so, inl (inl e)) =
      let r = referring s (ty.ArrayOf item) l free (held_so ∙ ap (λ (v : Ty). Some v) e) refl in
      by_part s item r.v r.holds (part_there k m.adts f.words (place s) (ty.ArrayOf item) item r.v refl r.stands)
  part_is item s l free (u, held_so, inl (inr v)) = absurd (no_variant u item v)
  part_is item s l free (u, held_so, inr n) =
      let r = referring s ty.Nil l free (held_so ∙ ap (λ (v : Ty). Some v) n.0) refl in
      by_part s item r.v r.holds (no_part k m.adts f.words (place s) item r.v (name_there k m.adts f.words (place s) ty.Nil r.v tt r.stands))

  -- ---- any reference

  -- A slot refers to something or to nothing.
  pub record RefersIs (s : ℕ) : Type 0 where
    pub value_there : Value
    pub refers : Option ℕ
    pub holds : core.slot g.slots s ≡ Holds value_there
    pub word : word_at f.words (pos (place s)) ≡ Found (Refer refers)
    pub to : RefersTo k value_there refers

  of_name : (t : Ty) (s : ℕ) → NameIs t s → RefersIs s
  of_name t s n =
      record { value_there = Ref n.name; refers = n.refers; holds = n.holds; word = n.word; to = a_named (forms.form_of t) n.refers n.name n.named }

  of_array : (item : Ty) (s : ℕ) → s < length g.slots → (Has busy s → ⊥) → IsA is.known s (ty.ArrayOf item) → RefersIs s
  of_array item s l free (u, held_so, inl (inl e)) =
      let r = referring s (ty.ArrayOf item) l free (held_so ∙ ap (λ (v : Ty). Some v) e) refl in
      let a = array_there k m.adts f.words (place s) (ty.ArrayOf item) item r.v refl r.stands in
      record { value_there = r.v; refers = a.0; holds = r.holds; word = a.1; to = a.2 }
  of_array item s l free (u, held_so, inl (inr v)) = absurd (no_variant u item v)
  of_array item s l free (u, held_so, inr n) =
      of_name ty.Nil s (by_name s ty.Nil ty.Nil (referring s ty.Nil l free (held_so ∙ ap (λ (v : Ty). Some v) n.0) refl) tt (λ a c h. h))

  pub refers_is : (t : Ty) (s : ℕ) → fitting.IsReference t → s < length g.slots → (Has busy s → ⊥) → IsA is.known s t → RefersIs s
  refers_is (ty.ArrayOf t) s i l free a = of_array t s l free a
  refers_is (ty.ListOf t) s i l free a = of_name (ty.ListOf t) s (name_is (ty.ListOf t) s tt l free a)
  refers_is (ty.ChanOf t) s i l free a = of_name (ty.ChanOf t) s (name_is (ty.ChanOf t) s tt l free a)
  refers_is (ty.RefAdt n) s i l free a = of_name (ty.RefAdt n) s (name_is (ty.RefAdt n) s tt l free a)
  refers_is (ty.RefPick n v) s i l free a = of_name (ty.RefPick n v) s (name_is (ty.RefPick n v) s tt l free a)
  refers_is (ty.Module n) s i l free a = of_name (ty.Module n) s (name_is (ty.Module n) s tt l free a)
  refers_is t s i l free a = absurd i

  -- ---- references by what is known of their slots

  is_array : (words : List Word) (at : ℕ) (t item : Ty) (v : Value) → t ≡ ty.ArrayOf item → Stands m.adts k words at t v
      → (p : Option value.Part) × (v ≡ Array p)
  is_array words _ _ item _ e (a_number at kind.Byte z f r) = absurd cc
  is_array words _ _ item _ e (a_number at kind.Int z f r) = absurd cc
  is_array words _ _ item _ e (a_number at kind.Big z f r) = absurd cc
  is_array words _ _ item _ e (a_text at r s f h) = absurd cc
  is_array words _ _ item _ e (a_name at t r n j f h) = absurd (subst IsReference e j)
  is_array words _ _ item _ e (an_array at t r p f h) = (p, refl)
  is_array words _ _ item _ e (no_words at) = absurd cc
  is_array words _ _ item _ e (a_tuple at ts rs vs l all) = absurd cc
  is_array words _ _ item _ e (an_adt at n d rs vs f l all) = absurd cc

  -- An array, which is nothing where the slot names nothing.
  pub record ArrayIs (s : ℕ) : Type 0 where
    pub part : Option value.Part
    pub holds : core.slot g.slots s ≡ Holds (Array part)
    pub none : IsClean (held.slot is.known s) → part ≡ None

  no_names : (p : Option value.Part) → NamesOnly [] (Array p) → p ≡ None
  no_names None names = refl
  no_names (Some p) names = absurd (names 0 p.array refl)

  pub array_known : (item : Ty) (s : ℕ) → s < length g.slots → (Has busy s → ⊥) → type_held (held.slot is.known s) ≡ Some (ty.ArrayOf item)
      → ArrayIs s
  array_known item s l free e =
      let r = referring s (ty.ArrayOf item) l free e refl in
      let a = is_array f.words (place s) (ty.ArrayOf item) item r.v refl r.stands in
      record {
        part = a.0;
        holds = r.holds ∙ ap Holds a.1;
        none = λ clean. no_names a.0 (subst (λ (ns : List ℕ). NamesOnly ns (Array a.0)) (subst IsClean r.known clean) (subst (NamesOnly r.live) a.1 r.names));
      }

  -- a name, where no array is known
  of_nil : (item : Ty) (s : ℕ) → s < length g.slots → (Has busy s → ⊥) → IsA is.known s (ty.ArrayOf item)
      → ((t : Ty) × (type_held (held.slot is.known s) ≡ Some (ty.ArrayOf t)) → ⊥) → (n : Option ℕ) × (core.slot g.slots s ≡ Holds (Ref n))
  of_nil item s l free (u, held_so, inl (inl e)) none = absurd (none (item, held_so ∙ ap (λ (v : Ty). Some v) e))
  of_nil item s l free (u, held_so, inl (inr v)) none = absurd (no_variant u item v)
  of_nil item s l free (u, held_so, inr n) none =
      let name = by_name s ty.Nil ty.Nil (referring s ty.Nil l free (held_so ∙ ap (λ (v : Ty). Some v) n.0) refl) tt (λ a c h. h) in
      (name.name, name.holds)

  pub name_known : (t : Ty) (s : ℕ) → fitting.IsReference t → s < length g.slots → (Has busy s → ⊥) → IsA is.known s t
      → ((t : Ty) × (type_held (held.slot is.known s) ≡ Some (ty.ArrayOf t)) → ⊥) → (n : Option ℕ) × (core.slot g.slots s ≡ Holds (Ref n))
  name_known (ty.ArrayOf t) s i l free a none = of_nil t s l free a none
  name_known (ty.ListOf t) s i l free a none = let n = name_is (ty.ListOf t) s tt l free a in (n.name, n.holds)
  name_known (ty.ChanOf t) s i l free a none = let n = name_is (ty.ChanOf t) s tt l free a in (n.name, n.holds)
  name_known (ty.RefAdt c) s i l free a none = let n = name_is (ty.RefAdt c) s tt l free a in (n.name, n.holds)
  name_known (ty.RefPick c v) s i l free a none = let n = name_is (ty.RefPick c v) s tt l free a in (n.name, n.holds)
  name_known (ty.Module c) s i l free a none = let n = name_is (ty.Module c) s tt l free a in (n.name, n.holds)
  name_known t s i l free a none = absurd i

  -- ---- what may be put into a cell, or into an element

  -- A slot has a value which stands as one of a type, once it is brought to that.
  pub record ItemIs (t : Ty) (s : ℕ) : Type 0 where
    pub item : Value
    pub refers : Option ℕ
    pub holds : core.slot g.slots s ≡ Holds item
    pub word : word_at f.words (pos (place s)) ≡ Found (Refer refers)
    pub stands : Stands m.adts k (Refer refers ∷ []) 0 t (fitted m.adts t item)

  item_named : (t : Ty) (s : ℕ) → IsReference t → ((n : Option ℕ) → fitted m.adts t (Ref n) ≡ Ref n) → NameIs t s → ItemIs t s
  item_named t s i whole n = record {
    item = Ref n.name;
    refers = n.refers;
    holds = n.holds;
    word = n.word;
    stands = subst (λ (v : Value). Stands m.adts k (Refer n.refers ∷ []) 0 t v) (sym (whole n.name)) (a_name 0 t n.refers n.name i refl n.named);
  }

  item_text : (s : ℕ) → s < length g.slots → (Has busy s → ⊥) → IsA is.known s ty.Chars → ItemIs ty.Chars s
  item_text s l free (u, held_so, inl (inl e)) =
      let r = referring s ty.Chars l free (held_so ∙ ap (λ (v : Ty). Some v) e) refl in
      let one = one_word m.adts k f.words (place s) ty.Chars r.v refl r.stands in
      let stands = one.elsewhere (Refer one.refers ∷ []) 0 refl in
      record {
        item = r.v;
        refers = one.refers;
        holds = r.holds;
        word = one.word;
        stands = subst (λ (v : Value). Stands m.adts k (Refer one.refers ∷ []) 0 ty.Chars v)
            (stands_whole m.adts k (Refer one.refers ∷ []) 0 ty.Chars r.v stands) stands;
      }
  item_text s l free (ty.RefPick n v, held_so, inl (inr e)) = absurd cc
  item_text s l free (u, held_so, inl (inr e)) = absurd e
  item_text s l free (u, held_so, inr n) = absurd n.1

  pub item_is : (t : Ty) (s : ℕ) → form_of t ≡ AsReference → s < length g.slots → (Has busy s → ⊥) → IsA is.known s t → ItemIs t s
  item_is ty.Chars s form l free a = item_text s l free a
  item_is ty.Nil s form l free a = item_named ty.Nil s tt (λ n. refl) (name_is ty.Nil s tt l free a)
  item_is (ty.ArrayOf t) s form l free a =
      let p = part_is t s l free a in
      record {
        item = p.v;
        refers = p.refers;
        holds = p.holds;
        word = p.word;
        stands = an_array 0 t p.refers (part_of p.v) refl (subst (λ (o : Option value.Part). IsPart k t p.refers o) (sym p.is_part) p.stands);
      }
  item_is (ty.ListOf t) s form l free a = item_named (ty.ListOf t) s tt (λ n. refl) (name_is (ty.ListOf t) s tt l free a)
  item_is (ty.ChanOf t) s form l free a = item_named (ty.ChanOf t) s tt (λ n. refl) (name_is (ty.ChanOf t) s tt l free a)
  item_is (ty.RefAdt n) s form l free a = item_named (ty.RefAdt n) s tt (λ n. refl) (name_is (ty.RefAdt n) s tt l free a)
  item_is (ty.RefPick n v) s form l free a = item_named (ty.RefPick n v) s tt (λ n. refl) (name_is (ty.RefPick n v) s tt l free a)
  item_is (ty.Module n) s form l free a = item_named (ty.Module n) s tt (λ n. refl) (name_is (ty.Module n) s tt l free a)
  item_is t s form l free a = absurd cc
