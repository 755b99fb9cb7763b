-- A number is written to a variable, a temporary or an argument: the frame has its numbers as the other frame does then.
use Rattle.std.proofs.Common.{◌≡◌, ℕ, zero, suc, ◌+◌, ◌<◌, ◌≤◌, ℤ, ◌*◌, true, false, List, [], ◌∷◌, length, Some, refl, sym, ap, ◌∙◌, subst}
use Rattle.std.proofs.Common.{arith, inl, inr, if◌then◌else◌}
use Rattle.std.specs.Prelude.{◌⊎◌, ◌&&◌, slice_get, slice_set, slice_index_or, nat_eq}
use Rattle.std.proofs.lemmas.Bool.{ne_eqb}
use Rattle.std.proofs.lemmas.Bool.Decides.{eqb_tells}
use Rattle.limbo_values.specs.declared.number.Kind.{Kind}
use Rattle.limbo_values.specs.declared.number.Kind.TheVariants.{Byte, Int, Big}
use Rattle.limbo_values.specs.Numbers.{InRange}
use Rattle.limbo_values.proofs.Ranges.{within}
use Rattle.system_model.specs.Values.{Num, zero_value}
use Rattle.typed_meaning.specs.Values.{number_of}
use Rattle.slot_code.specs.Code.{Function, Module}
use Rattle.slot_code.specs.Layout.{number_size, end_of}
use Rattle.slot_code.specs.Machine as machine
use Rattle.slot_code.specs.Machine.{Made, put, stored, with_argument, same_kind}
use Rattle.dis_meaning.specs.Words.{Word}
use Rattle.dis_objects.specs.Frames.{Callee, Room, room_of, count, linkage_bytes, variable_place, temporary_place, all_bytes, most_bytes}
use Rattle.dis_follows.specs.Numbers.{Holds}
use Rattle.dis_follows.specs.Stands.{HasNumbers}
use Rattle.dis_follows.proofs.Places.{which}
use Rattle.dis_follows.proofs.Rooms.{variable_last, variables_apart, temporary_first, temporary_outside, same_apart, kinds_apart}
use Rattle.dis_follows.proofs.Rooms.{whole_least}
use Rattle.dis_follows.proofs.Stores.{Apart}
use Rattle.dis_follows.proofs.Written.{Stored, holds_on, holds_new, holds_as}
use Rattle.dis_follows.proofs.Blocks.{SameIn, all_same}

-- ---- lists and maps

pub set_same : {A : Type 0} (xs : List A) (x : ℕ) (y old : A) → x < length xs → slice_index_or (slice_set xs x y) x old ≡ y
set_same [] x y old l = absurd (omega (arith, l))
set_same (z ∷ xs) zero y old l = refl
set_same (z ∷ xs) (suc x) y old l = set_same xs x y old (omega (arith, l))

pub set_other : {A : Type 0} (xs : List A) (x n : ℕ) (y d : A) → (n ≡ x → ⊥) → slice_index_or (slice_set xs x y) n d ≡ slice_index_or xs n d
set_other [] zero n y d ne = refl
set_other [] (suc x) n y d ne = refl
set_other (z ∷ xs) zero zero y d ne = absurd (ne refl)
set_other (z ∷ xs) zero (suc n) y d ne = refl
set_other (z ∷ xs) (suc x) zero y d ne = refl
set_other (z ∷ xs) (suc x) (suc n) y d ne = set_other xs x n y d (λ e. ne (ap suc e))

pub set_long : {A : Type 0} (xs : List A) (x : ℕ) (y : A) → length (slice_set xs x y) ≡ length xs
set_long [] zero y = refl
set_long [] (suc x) y = refl
set_long (z ∷ xs) zero y = refl
set_long (z ∷ xs) (suc x) y = ap suc (set_long xs x y)

pub get_within : {A : Type 0} (xs : List A) (n : ℕ) (x : A) → slice_get xs n ≡ Some x → n < length xs
get_within [] n x e = absurd cc
get_within (y ∷ xs) zero x e = omega arith
get_within (y ∷ xs) (suc n) x e = omega (arith, get_within xs n x e)

pub eqb-refl : (n : ℕ) → nat_eq n n ≡ true
eqb-refl n = go (eqb_tells n n)
  where
    go : ((nat_eq n n ≡ true) × (n ≡ n)) ⊎ ((nat_eq n n ≡ false) × (n ≡ n → ⊥)) → nat_eq n n ≡ true
    go (inl h) = h.0
    go (inr h) = absurd (h.1 refl)

-- A number in its range is what is left of it.
pub number_within : (k : Kind) (z : ℤ) → InRange k z → number_of k (Num z) ≡ Num z
number_within k z r = ap Num (within k z r)

module _ (m : Module) (f : Function) (cs : List Callee) (g : machine.Frame) (words : List Word) (h : HasNumbers m f cs g words)
    (fits : all_bytes m.functions cs ≤ most_bytes m.functions [] f.code) where
  abbrev R : Room
  R = room_of m.functions f

  blocks_after : (x : ℕ) (k : Kind) (z : ℤ) → (s : Stored k words x z)
      → (x + number_size k ≤ R.made) ⊎ (R.arguments + most_bytes m.functions [] f.code ≤ x)
      → SameIn words s.after R.arguments (R.arguments + all_bytes m.functions cs)
  blocks_after x k z s out j bt a b = s.others j bt (go out)
    where
      go : (x + number_size k ≤ R.made) ⊎ (R.arguments + most_bytes m.functions [] f.code ≤ x) → Apart k x j bt
      go (inl l) = inl (omega (arith, l, a))
      go (inr l) = inr (omega (arith, l, b, fits))

  -- ---- a variable

  pub variable_written : (x : ℕ) (k : Kind) (z : ℤ) → InRange k z → slice_get f.variables x ≡ Some (Some k)
      → (s : Stored k words (variable_place f x) z)
      → HasNumbers m f cs (record g { variables = slice_set g.variables x (number_of k (Num z)) }) s.after
  variable_written x k z r e s =
      let last : variable_place f x + number_size k ≤ end_of linkage_bytes f.variables = variable_last f x k e in
      let start = whole_least (end_of linkage_bytes f.variables) in
      record {
        long = ap (λ n. 4 * n) s.words_stay.long ∙ h.long;
        plain = s.still _ h.plain;
        many = set_long g.variables x (number_of k (Num z)) ∙ h.many;
        variables = λ y j e'. go y j e' (which y x);
        temporaries = λ j n l.
            holds_on j words s.after (temporary_place R j n) (g.temporaries j n)
            (s.others j (temporary_place R j n) (inl (omega (arith, last, temporary_first m.functions f j n)))) (h.temporaries j n l);
        made = all_same m words s.after R cs g.made
            (blocks_after (variable_place f x) k z s (inl (omega (arith, last, start)))) h.made;
      }
    where
      new : (y : ℕ) (j : Kind) → y ≡ x → slice_get f.variables y ≡ Some (Some j)
          → Holds j s.after (variable_place f y) (number_of j (slice_index_or (slice_set g.variables x (number_of k (Num z))) y zero_value))
      new y j same e' =
          let kind : k ≡ j = let a = sym e ∙ ap (slice_get f.variables) (sym same) ∙ e' in cc in
          let l : x < length g.variables = omega (arith, h.many, get_within f.variables x (Some k) e) in
          subst (λ y. Holds j s.after (variable_place f y)
          (number_of j (slice_index_or (slice_set g.variables x (number_of k (Num z))) y zero_value)))
          (sym same)
          (subst (λ i. Holds i s.after (variable_place f x)
          (number_of i (slice_index_or (slice_set g.variables x (number_of k (Num z))) x zero_value)))
          kind
          (holds_as k s.after (variable_place f x) (Num z) _
          (sym (ap (number_of k) (set_same g.variables x (number_of k (Num z)) zero_value l ∙ number_within k z r) ∙ number_within k z r))
          (holds_new k words (variable_place f x) z r s)))

      go : (y : ℕ) (j : Kind) → slice_get f.variables y ≡ Some (Some j) → (y ≡ x) ⊎ ((y < x) ⊎ (x < y))
          → Holds j s.after (variable_place f y) (number_of j (slice_index_or (slice_set g.variables x (number_of k (Num z))) y zero_value))
      go y j e' (inl same) = new y j same e'
      go y j e' (inr o) =
          let ne : y ≡ x → ⊥ = apart o in
          holds_as j s.after (variable_place f y) _ _
          (ap (number_of j) (sym (set_other g.variables x y (number_of k (Num z)) zero_value ne)))
          (holds_on j words s.after (variable_place f y) _
          (s.others j (variable_place f y) (variables_apart f x y k j e e' (λ q. ne (sym q)))) (h.variables y j e'))
        where
          apart : (y < x) ⊎ (x < y) → y ≡ x → ⊥
          apart (inl l) q = omega (arith, l, q)
          apart (inr l) q = omega (arith, l, q)

  -- ---- a temporary

  same_kind_is : (k : Kind) → same_kind k k ≡ true
  same_kind_is Byte = refl
  same_kind_is Int = refl
  same_kind_is Big = refl

  pub temporary_written : (k : Kind) (n : ℕ) (z : ℤ) → InRange k z → n < count k f.code → (s : Stored k words (temporary_place R k n) z)
      → HasNumbers m f cs (record g { temporaries = put g.temporaries k n (Num z) }) s.after
  temporary_written k n z r l s = record {
    long = ap (λ n. 4 * n) s.words_stay.long ∙ h.long;
    plain = s.still _ h.plain;
    many = h.many;
    variables = λ y j e. holds_on j words s.after (variable_place f y) _
        (s.others j (variable_place f y) (inr (omega (arith, variable_last f y j e, temporary_first m.functions f k n))))
        (h.variables y j e);
    temporaries = λ j i l'. by_kind j i l' (kinds k j);
    made = all_same m words s.after R cs g.made (blocks_after (temporary_place R k n) k z s (temporary_outside m.functions f k n l)) h.made;
  }
    where
      kinds : (k j : Kind) → (k ≡ j) ⊎ (same_kind k j ≡ false)
      kinds Byte Byte = inl refl
      kinds Byte Int = inr refl
      kinds Byte Big = inr refl
      kinds Int Byte = inr refl
      kinds Int Int = inl refl
      kinds Int Big = inr refl
      kinds Big Byte = inr refl
      kinds Big Int = inr refl
      kinds Big Big = inl refl

      differ : (j : Kind) → same_kind k j ≡ false → k ≡ j → ⊥
      differ j e q = let a : true ≡ false = sym (same_kind_is k) ∙ ap (same_kind k) q ∙ e in cc

      by_number : (i : ℕ) → i < count k f.code → (n ≡ i) ⊎ ((n < i) ⊎ (i < n))
          → Holds k s.after (temporary_place R k i) (put g.temporaries k n (Num z) k i)
      by_number i l' (inl same) =
          subst (λ i. Holds k s.after (temporary_place R k i) (put g.temporaries k n (Num z) k i)) same
          (holds_as k s.after (temporary_place R k n) (Num z) _
          (sym (ap (λ b. if b && nat_eq n n then Num z else g.temporaries k n) (same_kind_is k)
          ∙ ap (λ b. if b then Num z else g.temporaries k n) (eqb-refl n)))
          (holds_new k words (temporary_place R k n) z r s))
      by_number i l' (inr o) =
          let ne : n ≡ i → ⊥ = apart o in
          holds_as k s.after (temporary_place R k i) (g.temporaries k i) _
          (sym (ap (λ b. if b && nat_eq n i then Num z else g.temporaries k i) (same_kind_is k)
          ∙ ap (λ b. if b then Num z else g.temporaries k i) (ne_eqb n i ne)))
          (holds_on k words s.after (temporary_place R k i) _
          (s.others k (temporary_place R k i) (same_apart m.functions f k n i ne)) (h.temporaries k i l'))
        where
          apart : (n < i) ⊎ (i < n) → n ≡ i → ⊥
          apart (inl l) q = omega (arith, l, q)
          apart (inr l) q = omega (arith, l, q)

      by_kind : (j : Kind) (i : ℕ) → i < count j f.code → (k ≡ j) ⊎ (same_kind k j ≡ false)
          → Holds j s.after (temporary_place R j i) (put g.temporaries k n (Num z) j i)
      by_kind j i l' (inl same) =
          subst (λ j. i < count j f.code → Holds j s.after (temporary_place R j i) (put g.temporaries k n (Num z) j i)) same
          (λ l'. by_number i l' (which n i)) l'
      by_kind j i l' (inr e) =
          holds_as j s.after (temporary_place R j i) (g.temporaries j i) _
          (sym (ap (λ b. if b && nat_eq n i then Num z else g.temporaries j i) e))
          (holds_on j words s.after (temporary_place R j i) _
          (s.others j (temporary_place R j i) (kinds_apart m.functions f k j n i l l' (differ j e))) (h.temporaries j i l'))
