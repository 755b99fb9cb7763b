-- Words that refer, types that stand where others are asked for, and parts of values, as rows read and write them.
use Rattle.core_code.specs.Terms.{part_types, parts_there}
use Rattle.core_typing.specs.Going.{got_by}
use Rattle.core_typing.specs.Held.{Decided, Forming, Held, Of, Turns, type_held}
use Rattle.core_typing.specs.Needs.{MayBeNil, StandsAs}
use Rattle.dis_meaning.specs.Words.{Found, Refer, Word, word_at}
use Rattle.heap_model.specs.Heap.{at, there}
use Rattle.limbo_kept.specs.Places.{Leads}
use Rattle.limbo_layout.specs.Adts.{Def}
use Rattle.limbo_layout.specs.Layout.{Room}
use Rattle.limbo_meaning.specs.Places.{Way}
use Rattle.limbo_meaning.specs.Trees.{Read}
use Rattle.limbo_meaning.specs.Values.{Ref, Value, array_named, fitted, zero_of}
use Rattle.limbo_typed.specs.Fitting.{HasPart}
use Rattle.limbo_types.specs.Types.{Ty}
use Rattle.std.proofs.Common.{List, None, Option, Some, [], ap, arith, inl, inr, length, pos, refl, subst, suc, sym, true, zero, ℕ, ◌<◌, ◌∙◌, ◌∷◌, ◌≡◌}
use Rattle.std.specs.Prelude.{slice_get, slice_index_or}
use Rattle.value_follows.proofs.Standing.{same_some}
use Rattle.value_frames.specs.Frames.{AsNumber, AsReference, Boxed, form_of, room_for, type_within}
use Rattle.value_frames.specs.Standing.{NamesOnly}
use Rattle.value_stores.specs.Paths.{HasPath}
use Rattle.value_words.proofs.Wholes.{stands_whole}
use Rattle.value_words.specs.Facts.{Facts}
use Rattle.value_words.specs.Stands.{AllStand, IsReference, Stands, a_name, a_number, a_text, a_tuple, an_adt, an_array, more_stand, no_words, none_stand}
use Rattle.core_typing.specs.Held as held
use Rattle.limbo_types.specs.Types as ty
use Rattle.limbo_values.specs.declared.number.Kind.TheVariants as kind

-- ---- words that refer, and what stands there

module _ (defs : List Def) (k : Facts) (words : List Word) where
  -- A reference stands in one word, and wherever else that is.
  pub record OneWord (at : ℕ) (t : Ty) (v : Value) : Type 0 where
    pub refers : Option ℕ
    pub word : word_at words (pos at) ≡ Found (Refer refers)
    pub elsewhere : (others : List Word) (to : ℕ) → word_at others (pos to) ≡ Found (Refer refers) → Stands defs k others to t v

  pub one_word : (at : ℕ) (t : Ty) (v : Value) → form_of t ≡ AsReference → Stands defs k words at t v → OneWord at t v
  one_word _ _ _ e (a_number at kind.Byte z f i) = absurd cc
  one_word _ _ _ e (a_number at kind.Int z f i) = absurd cc
  one_word _ _ _ e (a_number at kind.Big z f i) = absurd cc
  one_word _ _ _ e (a_text at r s f i) = record { refers = r; word = f; elsewhere = λ others to g. a_text to r s g i }
  one_word _ _ _ e (a_name at t r n i f h) = record { refers = r; word = f; elsewhere = λ others to g. a_name to t r n i g h }
  one_word _ _ _ e (an_array at t r p f i) = record { refers = r; word = f; elsewhere = λ others to g. an_array to t r p g i }
  one_word _ _ _ e (no_words at) = absurd cc
  one_word _ _ _ e (a_tuple at ts rs vs l all) = absurd cc
  one_word _ _ _ e (an_adt at n d rs vs f l all) = absurd cc

  -- a word that stands for `nil` refers to nothing
  pub nil_word_refers : (at : ℕ) (t : Ty) (v : Value) → v ≡ Ref None → Stands defs k words at t v → word_at words (pos at) ≡ Found (Refer None)
  nil_word_refers _ _ _ e (a_number at j z f i) = absurd cc
  nil_word_refers _ _ _ e (a_text at r s f i) = absurd cc
  nil_word_refers _ _ _ e (a_name at t None n i f h) = f
  nil_word_refers _ _ _ e (a_name at t (Some b) None i f h) = absurd h
  nil_word_refers _ _ _ e (a_name at t (Some b) (Some n) i f h) = absurd cc
  nil_word_refers _ _ _ e (an_array at t r p f i) = absurd cc
  nil_word_refers _ _ _ e (no_words at) = absurd cc
  nil_word_refers _ _ _ e (a_tuple at ts rs vs l all) = absurd cc
  nil_word_refers _ _ _ e (an_adt at n d rs vs f l all) = absurd cc

  -- where a word refers to nothing, the zero of each type of references stands
  pub zero_stands : (at : ℕ) (t : Ty) → form_of t ≡ AsReference → word_at words (pos at) ≡ Found (Refer None)
      → Stands defs k words at t (zero_of defs t)
  zero_stands at ty.Chars e w = a_text at None [] w refl
  zero_stands at ty.Nil e w = a_name at ty.Nil None None tt w tt
  zero_stands at (ty.ArrayOf t) e w = an_array at t None None w tt
  zero_stands at (ty.ListOf t) e w = a_name at (ty.ListOf t) None None tt w tt
  zero_stands at (ty.ChanOf t) e w = a_name at (ty.ChanOf t) None None tt w tt
  zero_stands at (ty.RefAdt n) e w = a_name at (ty.RefAdt n) None None tt w tt
  zero_stands at (ty.RefPick n j) e w = a_name at (ty.RefPick n j) None None tt w tt
  zero_stands at (ty.Module n) e w = a_name at (ty.Module n) None None tt w tt
  zero_stands at t e w = absurd cc

one_name : (n : ℕ) (r : Option ℕ) (k : ℕ) → slice_get (r ∷ []) k ≡ Some (Some n) → held.Has (0 ∷ []) k
one_name n r zero e = inl refl
one_name n r (suc k) e = absurd cc

name_names : (defs : List Def) (w : Way) (t : Ty) (n : Option ℕ) → IsReference t → NamesOnly (got_by defs t (Read w)) (Ref n)
name_names defs w ty.Nil n i k a e = one_name a n k e
name_names defs w (ty.ListOf t) n i k a e = one_name a n k e
name_names defs w (ty.ChanOf t) n i k a e = one_name a n k e
name_names defs w (ty.RefAdt b) n i k a e = one_name a n k e
name_names defs w (ty.RefPick b j) n i k a e = one_name a n k e
name_names defs w (ty.Module b) n i k a e = one_name a n k e
name_names defs w t n i k a e = absurd i

pub read_names : (defs : List Def) (f : Facts) (words : List Word) (w : Way) (at : ℕ) (t : Ty) (v : Value) → form_of t ≡ AsReference
    → Stands defs f words at t v → NamesOnly (got_by defs t (Read w)) v
read_names defs f words w _ _ _ e (a_number at kind.Byte z g i) = absurd cc
read_names defs f words w _ _ _ e (a_number at kind.Int z g i) = absurd cc
read_names defs f words w _ _ _ e (a_number at kind.Big z g i) = absurd cc
read_names defs f words w _ _ _ e (a_text at r s g i) = λ k a h. absurd cc
read_names defs f words w _ _ _ e (a_name at t r n i g h) = name_names defs w t n i
read_names defs f words w _ _ _ e (an_array at t r p g i) = λ k a h. one_name a (array_named p) k h
read_names defs f words w _ _ _ e (no_words at) = absurd cc
read_names defs f words w _ _ _ e (a_tuple at ts rs vs l all) = absurd cc
read_names defs f words w _ _ _ e (an_adt at n d rs vs g l all) = absurd cc

-- ---- types that stand where others are asked for

pub of_type : (h : Held) (u : Ty) → type_held h ≡ Some u → (live : List ℕ) × (h ≡ Of u live)
of_type (Of t ns) u e = (ns, ap (λ v. Of v ns) (same_some t u e))
of_type (Forming t v ks us ns) u e = absurd cc
of_type (Decided b) u e = absurd cc
of_type (Turns rs) u e = absurd cc

nil_form : (t : Ty) → MayBeNil t → form_of t ≡ AsReference
nil_form (ty.ArrayOf t) h = refl
nil_form (ty.ListOf t) h = refl
nil_form (ty.ChanOf t) h = refl
nil_form (ty.RefAdt a) h = refl
nil_form (ty.RefPick a j) h = refl
nil_form (ty.Module a) h = refl
nil_form t h = absurd h

-- a value that stands for one of a type has its form
pub same_form : (u t : Ty) → StandsAs u t → form_of u ≡ form_of t
same_form u t (inl (inl e)) = ap form_of e
same_form (ty.RefPick a j) t (inl (inr e)) = sym (ap form_of e)
same_form u t (inl (inr e)) = absurd e
same_form u t (inr n) = ap form_of n.0 ∙ sym (nil_form t n.1)

-- and a number is of the type itself
pub same_number_type : (u t : Ty) → form_of t ≡ AsNumber → StandsAs u t → u ≡ t
same_number_type u t e (inl (inl f)) = f
same_number_type (ty.RefPick a j) t e (inl (inr f)) = absurd (let g = ap form_of f in cc)
same_number_type u t e (inl (inr f)) = absurd f
same_number_type u t e (inr n) = absurd (let g = nil_form t n.1 in cc)

nil_fits : (defs : List Def) (t : Ty) → MayBeNil t → fitted defs t (Ref None) ≡ zero_of defs t
nil_fits defs (ty.ArrayOf t) h = refl
nil_fits defs (ty.ListOf t) h = refl
nil_fits defs (ty.ChanOf t) h = refl
nil_fits defs (ty.RefAdt a) h = refl
nil_fits defs (ty.RefPick a j) h = refl
nil_fits defs (ty.Module a) h = refl
nil_fits defs t h = absurd h

module _ (defs : List Def) (k : Facts) (words : List Word) where
  -- a reference stands in one word, also for the type where it is asked for
  pub record FitsWord (at : ℕ) (t : Ty) (v : Value) : Type 0 where
    pub refers : Option ℕ
    pub word : word_at words (pos at) ≡ Found (Refer refers)
    pub elsewhere : (others : List Word) (to : ℕ) → word_at others (pos to) ≡ Found (Refer refers) → Stands defs k others to t (fitted defs t v)

  same_type : (at : ℕ) (t : Ty) (v : Value) → form_of t ≡ AsReference → Stands defs k words at t v → FitsWord at t v
  same_type at t v form s =
      let one = one_word defs k words at t v form s in
      record {
        refers = one.refers;
        word = one.word;
        elsewhere = λ others to e.
            subst (λ u. Stands defs k others to t u) (stands_whole defs k words at t v s) (one.elsewhere others to e);
      }

  variant : (at : ℕ) (u : Ty) (a j : ℕ) (v : Value) → u ≡ ty.RefPick a j → Stands defs k words at u v → FitsWord at (ty.RefAdt a) v
  variant _ _ a j _ e (a_number at kind.Byte z f i) = absurd cc
  variant _ _ a j _ e (a_number at kind.Int z f i) = absurd cc
  variant _ _ a j _ e (a_number at kind.Big z f i) = absurd cc
  variant _ _ a j _ e (a_text at r s f i) = absurd cc
  variant _ _ a j _ e (a_name at (ty.RefPick c l) r n i f h) =
      let same : c ≡ a = cc in
      subst (λ d. FitsWord at (ty.RefAdt d) (Ref n)) same
      (record { refers = r; word = f; elsewhere = λ others to g. a_name to (ty.RefAdt c) r n tt g h })
  variant _ _ a j _ e (a_name at t r n i f h) = absurd cc
  variant _ _ a j _ e (an_array at t r p f i) = absurd cc
  variant _ _ a j _ e (no_words at) = absurd cc
  variant _ _ a j _ e (a_tuple at ts rs vs l all) = absurd cc
  variant _ _ a j _ e (an_adt at n d rs vs f l all) = absurd cc

  nil_fitting : (at : ℕ) (t : Ty) → MayBeNil t → word_at words (pos at) ≡ Found (Refer None) → FitsWord at t (Ref None)
  nil_fitting at t h w = record {
    refers = None;
    word = w;
    elsewhere = λ others to e.
        subst (λ v. Stands defs k others to t v) (sym (nil_fits defs t h)) (zero_stands defs k others to t (nil_form t h) e);
  }

  nil_there : (at : ℕ) (u t : Ty) (v : Value) → u ≡ ty.Nil → MayBeNil t → Stands defs k words at u v → FitsWord at t v
  nil_there _ _ t _ e h (a_number at kind.Byte z f i) = absurd cc
  nil_there _ _ t _ e h (a_number at kind.Int z f i) = absurd cc
  nil_there _ _ t _ e h (a_number at kind.Big z f i) = absurd cc
  nil_there _ _ t _ e h (a_text at r s f i) = absurd cc
  nil_there _ _ t _ e h (a_name at ty.Nil None None i f g) = nil_fitting at t h f
  nil_there _ _ t _ e h (a_name at ty.Nil (Some b) None i f g) = absurd g
  nil_there _ _ t _ e h (a_name at ty.Nil None (Some n) i f g) = absurd g
  nil_there _ _ t _ e h (a_name at ty.Nil (Some b) (Some n) i f g) = absurd g
  nil_there _ _ t _ e h (a_name at u r n i f g) = absurd cc
  nil_there _ _ t _ e h (an_array at u r p f i) = absurd cc
  nil_there _ _ t _ e h (no_words at) = absurd cc
  nil_there _ _ t _ e h (a_tuple at ts rs vs l all) = absurd cc
  nil_there _ _ t _ e h (an_adt at n d rs vs f l all) = absurd cc

  pub fits_word : (at : ℕ) (u t : Ty) (v : Value) → form_of t ≡ AsReference → StandsAs u t → Stands defs k words at u v → FitsWord at t v
  fits_word at u t v form (inl (inl e)) s = same_type at t v form (subst (λ y. Stands defs k words at y v) e s)
  fits_word at (ty.RefPick a j) t v form (inl (inr e)) s = subst (λ y. FitsWord at y v) (sym e) (variant at (ty.RefPick a j) a j v refl s)
  fits_word at u t v form (inl (inr e)) s = absurd e
  fits_word at u t v form (inr n) s = nil_there at u t v n.0 n.1 s

-- ---- what stands in a slot, and where part of it does

pub has_parts : (defs : List Def) (t : Ty) (n : ℕ) (u : Ty) → HasPart defs t n u → form_of t ≡ Boxed
has_parts defs (ty.Tuple ts) n u h = refl
has_parts defs (ty.Adt a) n u h = refl
has_parts defs t n u h = absurd h

pub there_is : {A : Type 0} (o : Option A) → there o ≡ true → (a : A) × (o ≡ Some a)
there_is None e = absurd cc
there_is (Some a) e = (a, refl)

pub found_there : {A : Type 0} (xs : List A) (n : ℕ) (d y : A) → slice_get xs n ≡ Some y → (n < length xs) × (slice_index_or xs n d ≡ y)
found_there [] n d y e = absurd cc
found_there (x ∷ xs) zero d y e = (omega arith, same_some x y e)
found_there (x ∷ xs) (suc n) d y e = let r = found_there xs n d y e in let l = r.0 in (omega (arith, l), r.1)

module _ (defs : List Def) where
  part_here : (t : Ty) (n : ℕ) (u : Ty) → HasPart defs t n u → slice_get (part_types defs t) n ≡ Some u
  part_here (ty.Tuple ts) n u h = h
  part_here (ty.Adt a) n u h = ap (λ (o : Option Def). slice_get (parts_there defs o) n) h.1 ∙ h.2
  part_here t n u h = absurd h

  -- numbers that lead to a part are a path to one of its type
  pub has_path : (t : Ty) (part : List ℕ) (u : Ty) → Leads defs t part u → HasPath defs t part × (type_within defs t part ≡ u)
  has_path t [] u e = (tt, e)
  has_path t (n ∷ ns) u h =
      let there = found_there (part_types defs t) n ty.Nothing h.0 (part_here t n h.0 h.1) in
      let on = has_path (slice_index_or (part_types defs t) n ty.Nothing) ns u (subst (λ s. Leads defs s ns u) (sym there.1) h.2) in
      ((there.0, on.0), on.1)

  -- a variable of a type has a value
  pub value_there : (k : Facts) (words : List Word) (at : ℕ) (w : Room) (ts : List Ty) (rs : List Room) (vs : List Value) (x : ℕ) (t : Ty)
      → AllStand defs k words at w ts rs vs → slice_get ts x ≡ Some t → (v : Value) × (slice_get vs x ≡ Some v)
  value_there k words _ _ _ _ _ x t (none_stand at w) e = absurd cc
  value_there k words _ _ _ _ _ zero t (more_stand at w u ts r rs v vs a more) e = (v, refl)
  value_there k words _ _ _ _ _ (suc x) t (more_stand at w u ts r rs v vs a more) e = value_there k words at _ ts rs vs x t more e

pub reference_room : (defs : List Def) (t : Ty) → form_of t ≡ AsReference → (room_for defs t).size ≡ 4
reference_room defs ty.Chars e = refl
reference_room defs ty.Nil e = refl
reference_room defs (ty.ArrayOf t) e = refl
reference_room defs (ty.ListOf t) e = refl
reference_room defs (ty.ChanOf t) e = refl
reference_room defs (ty.RefAdt a) e = refl
reference_room defs (ty.RefPick a j) e = refl
reference_room defs (ty.Module a) e = refl
reference_room defs t e = absurd cc
