-- Frames as they are made: zeros, and references to nothing.
use Rattle.std.proofs.Common.{◌≡◌, ℕ, zero, suc, ◌+◌, ◌-◌, ◌<◌, ◌≤◌, pos, ◌%◌, ◌/◌, ◌*◌, Bool, true, false, inl, inr, List, [], ◌∷◌, length}
use Rattle.std.proofs.Common.{Option, Some, None, refl, sym, ap, ◌∙◌, subst, arith, if◌then◌else◌}
use Rattle.std.specs.Prelude.{◌⊎◌, ◌||◌, slice_get, slice_index_or, replicate, nat_eq}
use Rattle.std.specs.Int.{next_multiple_of}
use Rattle.std.proofs.lemmas.Bool.{eqb-true}
use Rattle.dis_file.specs.declared.types.TypeDesc.{TypeDesc}
use Rattle.limbo_values.specs.declared.number.Kind.{Kind}
use Rattle.limbo_values.specs.declared.number.Kind.TheVariants.{Byte, Int, Big}
use Rattle.system_model.specs.Values.{zero_value}
use Rattle.typed_meaning.specs.Values.{number_of}
use Rattle.slot_code.specs.Code.{Function, Module}
use Rattle.slot_code.specs.Layout.{number_size, size_of, place_for, place_in, end_of}
use Rattle.slot_code.specs.Machine as machine
use Rattle.dis_meaning.specs.Words.{Plain, Refer, blank_word, blanks, blank}
use Rattle.dis_objects.specs.Frames.{Room, room_of, whole, linkage_bytes, variable_place, temporary_place, count, reference_places}
use Rattle.dis_objects.specs.Frames.{reference_words, is_in}
use Rattle.dis_objects.specs.Objects.{map_of, frame_desc}
use Rattle.dis_follows.specs.Numbers.{Holds, IsPlain}
use Rattle.dis_follows.specs.Stands.{ArePlain, HasNumbers}
use Rattle.dis_follows.proofs.Marks.{marks_is}
use Rattle.dis_follows.proofs.Places.{which, apart_in}
use Rattle.dis_follows.proofs.Rooms.{whole_least, variable_last, temporary_last}
use Rattle.dis_follows.proofs.Frames.{get_within, number_within}
use Rattle.dis_follows.proofs.Linkage.{range_get}
use Rattle.dis_follows.proofs.Begins.{unmarked}
use Rattle.dis_follows.proofs.Zeros.{is_zero, zero_within, in_aligned}

-- ---- blank words

pub length_blanks : (desc : TypeDesc) (from count : ℕ) → length (blanks desc from count) ≡ count
length_blanks desc from zero = refl
length_blanks desc from (suc n) = ap suc (length_blanks desc (suc from) n)

pub get_blanks : (desc : TypeDesc) (from count k : ℕ) → k < count → slice_get (blanks desc from count) k ≡ Some (blank_word desc (from + k))
get_blanks desc from zero k lt = absurd (omega (arith, lt))
get_blanks desc from (suc n) zero lt = ap (λ k. Some (blank_word desc k)) (omega arith)
get_blanks desc from (suc n) (suc k) lt =
    get_blanks desc (suc from) n k (omega (arith, lt))
    ∙ ap (λ k. Some (blank_word desc k)) (let q : suc from + k ≡ from + suc k = omega arith in q)

index_unmarked : (bs : List Bool) (k : ℕ) → (slice_get bs k ≡ Some true → ⊥) → slice_index_or bs k false ≡ false
index_unmarked [] zero h = refl
index_unmarked [] (suc k) h = refl
index_unmarked (true ∷ bs) zero h = absurd (h refl)
index_unmarked (false ∷ bs) zero h = refl
index_unmarked (b ∷ bs) (suc k) h = index_unmarked bs k h

-- A word that isn't marked.
pub blank_plain : (bs : List Bool) (size k : ℕ) → (slice_get bs k ≡ Some true → ⊥)
    → blank_word (record { size = size; map = map_of bs }) k ≡ Plain (pos 0)
blank_plain bs size k h = ap (λ b. if b then Refer None else Plain (pos 0)) (marks_is bs k ∙ index_unmarked bs k h)

-- ---- numbers don't lie where references do

pub record IsReference (from : ℕ) (ks : List (Option Kind)) (n : ℕ) : Type 0 where
  pub number : ℕ
  pub is : slice_get ks number ≡ Some None
  pub place : place_in from ks number ≡ n

later : (from : ℕ) (k : Option Kind) (ks : List (Option Kind)) (n : ℕ) → IsReference (place_for k from + size_of k) ks n
    → IsReference from (k ∷ ks) n
later from k ks n r = record { number = suc r.number; is = r.is; place = r.place }

pub reference_is : (from : ℕ) (ks : List (Option Kind)) (n : ℕ) → is_in n (reference_places from ks) ≡ true → IsReference from ks n
reference_is from [] n e = absurd cc
reference_is from (None ∷ ks) n e = go (reference_is (next_multiple_of from 4 + 4) ks n) (nat_eq n (next_multiple_of from 4)) refl e
  where
    go : (is_in n (reference_places (next_multiple_of from 4 + 4) ks) ≡ true → IsReference (next_multiple_of from 4 + 4) ks n) → (b : Bool)
        → nat_eq n (next_multiple_of from 4) ≡ b → (b || is_in n (reference_places (next_multiple_of from 4 + 4) ks)) ≡ true
        → IsReference from (None ∷ ks) n
    go f true q e = record { number = 0; is = refl; place = sym (eqb-true n (next_multiple_of from 4) q) }
    go f false q e = later from None ks n (f e)
reference_is from (Some k ∷ ks) n e = later from (Some k) ks n (reference_is (next_multiple_of from (number_size k) + number_size k) ks n e)

number_unmarked : (ks : List (Option Kind)) (x : ℕ) (k : Kind) (i : ℕ) → slice_get ks x ≡ Some (Some k)
    → place_in linkage_bytes ks x < 4 * i + 4
    → 4 * i < place_in linkage_bytes ks x + number_size k → slice_get (reference_words ks) i ≡ Some true → ⊥
number_unmarked ks x k i e low high marked = go (which x r.number)
  where
    r : IsReference linkage_bytes ks (4 * i)
    r =
        let is = range_get (λ w. is_in (4 * w) (reference_places linkage_bytes ks)) 0 (whole (end_of linkage_bytes ks) / 4) i true marked in
        reference_is linkage_bytes ks (4 * i) (ap (λ n. is_in (4 * n) (reference_places linkage_bytes ks)) (let q : i ≡ 0 + i =
        omega arith in q) ∙ is)

    go : (x ≡ r.number) ⊎ ((x < r.number) ⊎ (r.number < x)) → ⊥
    go (inl same) = let no : Some (Some k) ≡ Some None = sym e ∙ ap (slice_get ks) same ∙ r.is in cc
    go (inr (inl l)) = let a = apart_in linkage_bytes ks x r.number (Some k) e l in let p = r.place in omega (arith, a, p, high)
    go (inr (inr l)) = let a = apart_in linkage_bytes ks r.number x None r.is l in let p = r.place in omega (arith, a, p, low)

-- ---- the frame of a function

replicate_long : {A : Type 0} (n : ℕ) (x : A) → length (replicate n x) ≡ n
replicate_long zero x = refl
replicate_long (suc n) x = ap suc (replicate_long n x)

replicate_index : {A : Type 0} (n i : ℕ) (x : A) → slice_index_or (replicate n x) i x ≡ x
replicate_index zero zero x = refl
replicate_index zero (suc i) x = refl
replicate_index (suc n) zero x = refl
replicate_index (suc n) (suc i) x = replicate_index n i x

module _ (m : Module) (f : Function) where
  abbrev R : Room
  R = room_of m.functions f

  abbrev D : TypeDesc
  D = frame_desc m.functions f

  abbrev M : List Bool
  M = reference_words f.variables

  words_count : 4 * (R.size / 4) ≡ R.size
  words_count = omega arith

  blank_get : (i : ℕ) → 4 * i < R.size → (slice_get M i ≡ Some true → ⊥) → slice_get (blank D) i ≡ Some (Plain (pos 0))
  blank_get i l h =
      let zero_plus : 0 + i ≡ i = omega arith in
      get_blanks D 0 (R.size / 4) i (let c = words_count in omega (arith, c, l)) ∙ ap (λ j. Some (blank_word D j)) zero_plus
      ∙ ap Some (blank_plain M R.size i h)

  blank_number : (k : Kind) (at : ℕ) → ((k ≡ Byte → ⊥) → at % 4 ≡ 0) → at + number_size k ≤ R.size
      → ((i : ℕ) → at < 4 * i + 4 → 4 * i < at + number_size k → slice_get M i ≡ Some true → ⊥) → Holds k (blank D) at zero_value
  blank_number k at aligned last free = record {
    number = pos 0;
    is = refl;
    range = zero_within k;
    there = is_zero k (blank D) at aligned (λ i low high. blank_get i (omega (arith, last, high)) (free i low high));
  }

  temporary_aligned : (k : Kind) (n : ℕ) → (k ≡ Byte → ⊥) → temporary_place R k n % 4 ≡ 0
  temporary_aligned Byte n ne = absurd (ne refl)
  temporary_aligned Int n ne = omega arith
  temporary_aligned Big n ne = omega arith

  start_place : whole (end_of linkage_bytes f.variables) ≤ R.bigs
  start_place = omega arith

  temporary_start : (k : Kind) (n : ℕ) → R.bigs ≤ temporary_place R k n
  temporary_start Byte n = omega arith
  temporary_start Int n = omega arith
  temporary_start Big n = omega arith

  size_least : R.bigs ≤ R.size
  size_least = let w = whole_least (R.bytes + count Byte f.code) in omega (arith, w)

  -- All its numbers are 0.
  pub blank_frame : (number : ℕ) → HasNumbers m f [] (machine.entered number 0 f []) (blank D)
  blank_frame number = record {
    long = ap (λ n. 4 * n) (length_blanks D 0 (R.size / 4)) ∙ words_count;
    plain = plain;
    many = replicate_long (length f.variables - 0) zero_value ∙ (let z : length f.variables - 0 ≡ length f.variables = omega arith in z);
    variables = variables;
    temporaries = λ k n l.
        blank_number k (temporary_place R k n) (temporary_aligned k n) (temporary_last m.functions f k n l)
        (λ i low high marked. unmarked f.variables i
        (let a = temporary_start k n in let s = start_place in by_words i (temporary_place R k n) low (omega (arith, a, s))) marked);
    made = tt;
  }
    where
      by_words : (i at : ℕ) → at < 4 * i + 4 → whole (end_of linkage_bytes f.variables) ≤ at
          → whole (end_of linkage_bytes f.variables) ≤ 4 * i
      by_words i at low l = omega (arith, low, l)

      plain : ArePlain M (blank D)
      plain j w e free =
          let l = get_within (blank D) j w e in
          let c = length_blanks D 0 (R.size / 4) in
          let is = blank_get j (let q = words_count in omega (arith, l, c, q)) free in
          let same : Some (Plain (pos 0)) ≡ Some w = sym is ∙ e in
          let same' : Plain (pos 0) ≡ w = cc in subst IsPlain same' tt

      variables : (x : ℕ) (k : Kind) → slice_get f.variables x ≡ Some (Some k)
          → Holds k (blank D) (variable_place f x)
          (number_of k (slice_index_or (replicate (length f.variables - 0) zero_value) x zero_value))
      variables x k e =
          let zero_is : number_of k (slice_index_or (replicate (length f.variables - 0) zero_value) x zero_value) ≡ zero_value =
          ap (number_of k) (replicate_index (length f.variables - 0) x zero_value) ∙ number_within k (pos 0) (zero_within k) in
          let last = variable_last f x k e in
          let s = start_place in
          let b = size_least in
          let w = whole_least (end_of linkage_bytes f.variables) in
          subst (Holds k (blank D) (variable_place f x)) (sym zero_is)
          (blank_number k (variable_place f x) (in_aligned k linkage_bytes f.variables x e) (omega (arith, last, s, b, w))
          (λ i low high. number_unmarked f.variables x k i e low high))
