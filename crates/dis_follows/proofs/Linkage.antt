-- The words of a frame's linkage are plain, and what is written there changes no number of the frame.
use Rattle.std.proofs.Common.{◌≡◌, ℕ, zero, suc, ◌+◌, ◌<◌, ◌≤◌, ℤ, pos, ◌*◌, ◌/◌, ◌%◌, Bool, true, false, List, [], ◌∷◌, length, map}
use Rattle.std.proofs.Common.{Option, Some, None, refl, ap, ◌∙◌, arith, inl, if◌then◌else◌}
use Rattle.std.specs.Prelude.{◌==◌, ◌||◌, slice_get, nat_eq}
use Rattle.std.specs.List.{range_with_len}
use Rattle.std.specs.Int.{next_multiple_of}
use Rattle.std.proofs.lemmas.Bool.{eqb-true}
use Rattle.limbo_values.specs.declared.number.Kind.{Kind}
use Rattle.limbo_values.specs.declared.number.Kind.TheVariants.{Byte, Int, Big}
use Rattle.slot_code.specs.Code.{Function, Module}
use Rattle.slot_code.specs.Layout.{number_size, end_of}
use Rattle.slot_code.specs.Machine as machine
use Rattle.dis_meaning.specs.Words.{Word, Plain, Refer, Address, Found, Wrong, ◌>>=◌, type_check, or_wrong, number_in}
use Rattle.dis_meaning.specs.Numbers.{number_at}
use Rattle.dis_objects.specs.Frames.{Callee, Room, room_of, whole, linkage_bytes, variable_place, temporary_place, reference_places}
use Rattle.dis_objects.specs.Frames.{reference_words, is_in}
use Rattle.dis_follows.specs.Numbers.{IsPlain}
use Rattle.dis_follows.specs.Stands.{HasNumbers}
use Rattle.dis_follows.proofs.Places.{end_least}
use Rattle.dis_follows.proofs.Rooms.{variable_first, temporary_first, whole_least}
use Rattle.dis_follows.proofs.Written.{Stored, holds_on}
use Rattle.dis_follows.proofs.Blocks.{all_same}

-- ---- no reference in the linkage

this_or : (n from : ℕ) (more : Bool) → (more ≡ true → next_multiple_of from 4 + 4 ≤ n) → (b : Bool) → nat_eq n (next_multiple_of from 4) ≡ b
    → (b || more) ≡ true → from ≤ n
this_or n from more f true q e = let same : n ≡ next_multiple_of from 4 = eqb-true n (next_multiple_of from 4) q in omega (arith, same)
this_or n from more f false q e = let l = f e in omega (arith, l)

in_least : (n from : ℕ) (ks : List (Option Kind)) → is_in n (reference_places from ks) ≡ true → from ≤ n
in_least n from [] e = absurd cc
in_least n from (None ∷ ks) e =
    this_or n from (is_in n (reference_places (next_multiple_of from 4 + 4) ks)) (λ e. in_least n (next_multiple_of from 4 + 4) ks e)
    (nat_eq n (next_multiple_of from 4)) refl e
in_least n from (Some Byte ∷ ks) e = let l = in_least n (next_multiple_of from 1 + 1) ks e in omega (arith, l)
in_least n from (Some Int ∷ ks) e = let l = in_least n (next_multiple_of from 4 + 4) ks e in omega (arith, l)
in_least n from (Some Big ∷ ks) e = let l = in_least n (next_multiple_of from 8 + 8) ks e in omega (arith, l)

pub range_get : {A : Type 0} (f : ℕ → A) (from count j : ℕ) (x : A) → slice_get (map f (range_with_len from count)) j ≡ Some x
    → f (from + j) ≡ x
range_get f from zero j x e = absurd cc
range_get f from (suc n) zero x e = let same : f from ≡ x = cc in ap f (omega arith) ∙ same
range_get f from (suc n) (suc j) x e = ap f (let q : from + suc j ≡ from + 1 + j = omega arith in q) ∙ range_get f (from + 1) n j x e

pub not_marked : (ks : List (Option Kind)) (j : ℕ) → j < 8 → slice_get (reference_words ks) j ≡ Some true → ⊥
not_marked ks j l e =
    let r = range_get (λ w. is_in (4 * w) (reference_places linkage_bytes ks)) 0 (whole (end_of linkage_bytes ks) / 4) j true e in
    let zero_plus : 0 + j ≡ j = omega arith in
    let least = in_least (4 * (0 + j)) linkage_bytes ks r in
    omega (arith, least, l)

-- ---- a word of the linkage

pub get_some : {A : Type 0} (xs : List A) (j : ℕ) → j < length xs → (x : A) × (slice_get xs j ≡ Some x)
get_some [] j l = absurd (omega (arith, l))
get_some (x ∷ xs) zero l = (x, refl)
get_some (x ∷ xs) (suc j) l = get_some xs j (omega (arith, l))

module _ (m : Module) (f : Function) (cs : List Callee) (g : machine.Frame) (words : List Word) (h : HasNumbers m f cs g words) where
  abbrev R : Room
  R = room_of m.functions f

  long : 32 ≤ 4 * length words
  long =
      let l = h.long in
      let e = end_least linkage_bytes f.variables in
      let w = whole_least (end_of linkage_bytes f.variables) in
      let s = whole_least (R.bytes) in
      omega (arith, l, e, w, s)

  pub linkage_word : (j : ℕ) → j < 8 → (w : Word) × (slice_get words j ≡ Some w) × IsPlain w
  linkage_word j l =
      let s = get_some words j (omega (arith, long, l)) in
      (s.0, s.1, h.plain j s.0 s.1 (not_marked f.variables j l))

  pub number_of_plain : (w : Word) → IsPlain w → (z : ℤ) × (number_in w ≡ Found z)
  number_of_plain (Plain n) p = (n, refl)
  number_of_plain (Address q a) p = (pos 0, refl)
  number_of_plain (Refer q) p = absurd p

  -- The number of such a word.
  pub linkage_there : (j : ℕ) → j < 8 → (z : ℤ) × (number_at Int words (pos (4 * j)) ≡ Found z)
  linkage_there j l =
      let s = linkage_word j l in
      let n = number_of_plain s.0 s.2 in
      let r : (4 * j) % 4 ≡ 0 = omega arith in
      let d : (4 * j) / 4 ≡ j = omega arith in (
        n.0,
        ap (λ m. ((if m == 0 then Found ((4 * j) / 4) else Wrong type_check) >>= λ k.
            or_wrong type_check (slice_get words k)) >>= number_in) r
            ∙ ap (λ k. or_wrong type_check (slice_get words k) >>= number_in) d ∙ ap (λ o. or_wrong type_check o >>= number_in) s.1 ∙ n.1,
      )

  -- Another number there.
  pub kind_written : (k : Kind) (at : ℕ) → at + number_size k ≤ 32 → (z : ℤ) (t : Stored k words at z) → HasNumbers m f cs g t.after
  kind_written k at low z t = record {
    long = ap (λ n. 4 * n) t.words_stay.long ∙ h.long;
    plain = t.still _ h.plain;
    many = h.many;
    variables = λ y j e. holds_on j words t.after (variable_place f y) _
        (t.others j (variable_place f y) (inl (omega (arith, low, variable_first f y)))) (h.variables y j e);
    temporaries = λ j n l. holds_on j words t.after (temporary_place R j n) _
        (t.others j (temporary_place R j n)
        (inl (omega (arith, low, end_least linkage_bytes f.variables, temporary_first m.functions f j n))))
        (h.temporaries j n l);
    made = all_same m words t.after R cs g.made
        (λ j bt a b. t.others j bt
        (inl (omega (arith, a, low, end_least linkage_bytes f.variables, whole_least (end_of linkage_bytes f.variables)))))
        h.made;
  }

  pub linkage_written : (at : ℕ) → at + 4 ≤ 32 → (z : ℤ) (t : Stored Int words at z) → HasNumbers m f cs g t.after
  linkage_written at low z t = kind_written Int at low z t

  -- The number that is on its way between two conversions.
  pub passing_there : (z : ℤ) × (number_at Int words (pos 20) ≡ Found z)
  passing_there = linkage_there 5 (omega arith)

  -- Another number there.
  pub passing_written : (z : ℤ) (t : Stored Int words 20 z) → HasNumbers m f cs g t.after
  passing_written z t = linkage_written 20 (omega arith) z t
