-- Where the numbers of a frame stand: variables, temporaries and arguments have regions of their own.
use Rattle.std.proofs.Common.{◌≡◌, ℕ, zero, suc, ◌+◌, ◌<◌, ◌≤◌, List, [], ◌∷◌, length, Option, Some, refl, arith, inl, inr}
use Rattle.std.specs.Prelude.{◌⊎◌, slice_get, take}
use Rattle.limbo_values.specs.declared.number.Kind.{Kind}
use Rattle.limbo_values.specs.declared.number.Kind.TheVariants.{Byte, Int, Big}
use Rattle.slot_code.specs.Code.{Function}
use Rattle.slot_code.specs.Layout.{number_size, size_of, place_for, place_in, end_of}
use Rattle.dis_objects.specs.Frames.{Callee, Room, room_of, count, whole, linkage_bytes, variable_place, temporary_place, all_bytes}
use Rattle.dis_objects.specs.Frames.{most_bytes, parameters_of, made_from, made_by}
use Rattle.dis_follows.proofs.Places.{in_least, within_end, apart_in, which}
use Rattle.dis_follows.proofs.Stores.{Apart}

pub whole_least : (n : ℕ) → n ≤ whole n
whole_least n = omega arith

pub whole_most : (n : ℕ) → whole n < n + 4
whole_most n = omega arith

pub whole_mono : (a b : ℕ) → a ≤ b → whole a ≤ whole b
whole_mono a b l = omega (arith, l)

-- ---- variables

pub variable_first : (f : Function) (x : ℕ) → 32 ≤ variable_place f x
variable_first f x = in_least linkage_bytes f.variables x

pub variable_last : (f : Function) (x : ℕ) (k : Kind) → slice_get f.variables x ≡ Some (Some k)
    → variable_place f x + number_size k ≤ end_of linkage_bytes f.variables
variable_last f x k e = within_end linkage_bytes f.variables x (Some k) e

pub variables_apart : (f : Function) (x y : ℕ) (k j : Kind) → slice_get f.variables x ≡ Some (Some k)
    → slice_get f.variables y ≡ Some (Some j)
    → (x ≡ y → ⊥) → Apart k (variable_place f x) j (variable_place f y)
variables_apart f x y k j e h ne = go (which x y)
  where
    go : (x ≡ y) ⊎ ((x < y) ⊎ (y < x)) → Apart k (variable_place f x) j (variable_place f y)
    go (inl same) = absurd (ne same)
    go (inr (inl l)) = inl (apart_in linkage_bytes f.variables x y (Some k) e l)
    go (inr (inr l)) = inr (apart_in linkage_bytes f.variables y x (Some j) h l)

-- ---- temporaries

module _ (fs : List Function) (f : Function) where
  abbrev pub R : Room
  R = room_of fs f

  pub temporary_first : (k : Kind) (n : ℕ) → end_of linkage_bytes f.variables ≤ temporary_place R k n
  temporary_first Big n = omega (arith, whole_least (end_of linkage_bytes f.variables))
  temporary_first Int n = omega (arith, whole_least (end_of linkage_bytes f.variables))
  temporary_first Byte n = omega (arith, whole_least (end_of linkage_bytes f.variables))

  pub temporary_last : (k : Kind) (n : ℕ) → n < count k f.code → temporary_place R k n + number_size k ≤ R.size
  temporary_last Big n l = omega (arith, l, whole_least (R.bytes + count Byte f.code))
  temporary_last Int n l = omega (arith, l, whole_least (R.bytes + count Byte f.code))
  temporary_last Byte n l = omega (arith, l, whole_least (R.bytes + count Byte f.code))

  -- Arguments lie between ints and bytes.
  pub temporary_outside : (k : Kind) (n : ℕ) → n < count k f.code
      → (temporary_place R k n + number_size k ≤ R.made) ⊎ (R.arguments + most_bytes fs [] f.code ≤ temporary_place R k n)
  temporary_outside Big n l = inl (omega (arith, l))
  temporary_outside Int n l = inl (omega (arith, l))
  temporary_outside Byte n l = inr (omega arith)

  pub same_apart : (k : Kind) (n i : ℕ) → (n ≡ i → ⊥) → Apart k (temporary_place R k n) k (temporary_place R k i)
  same_apart k n i ne = go k (which n i)
    where
      go : (k : Kind) → (n ≡ i) ⊎ ((n < i) ⊎ (i < n)) → Apart k (temporary_place R k n) k (temporary_place R k i)
      go k (inl e) = absurd (ne e)
      go Byte (inr (inl l)) = inl (omega (arith, l))
      go Byte (inr (inr l)) = inr (omega (arith, l))
      go Int (inr (inl l)) = inl (omega (arith, l))
      go Int (inr (inr l)) = inr (omega (arith, l))
      go Big (inr (inl l)) = inl (omega (arith, l))
      go Big (inr (inr l)) = inr (omega (arith, l))

  pub kinds_apart : (k j : Kind) (n i : ℕ) → n < count k f.code → i < count j f.code → (k ≡ j → ⊥)
      → Apart k (temporary_place R k n) j (temporary_place R j i)
  kinds_apart Byte Byte n i l h ne = absurd (ne refl)
  kinds_apart Byte Int n i l h ne = inr (omega (arith, h))
  kinds_apart Byte Big n i l h ne = inr (omega (arith, h))
  kinds_apart Int Byte n i l h ne = inl (omega (arith, l))
  kinds_apart Int Int n i l h ne = absurd (ne refl)
  kinds_apart Int Big n i l h ne = inr (omega (arith, h))
  kinds_apart Big Byte n i l h ne = inl (omega (arith, l))
  kinds_apart Big Int n i l h ne = inl (omega (arith, l))
  kinds_apart Big Big n i l h ne = absurd (ne refl)

-- ---- arguments

pub most_least : (fs : List Function) (cs : List Callee) (is : List _) (pc : ℕ) → pc ≤ length is
    → all_bytes fs (made_from cs is pc) ≤ most_bytes fs cs is
most_least fs cs [] zero l = omega arith
most_least fs cs [] (suc pc) l = absurd (omega (arith, l))
most_least fs cs (i ∷ is) zero l = omega arith
most_least fs cs (i ∷ is) (suc pc) l = omega (arith, most_least fs (made_by cs i) is pc (omega (arith, l)))

get_take : {A : Type 0} (xs : List A) (n i : ℕ) (x : A) → slice_get (take n xs) i ≡ Some x → slice_get xs i ≡ Some x
get_take [] zero i x e = absurd cc
get_take [] (suc n) i x e = absurd cc
get_take (y ∷ xs) zero i x e = absurd cc
get_take (y ∷ xs) (suc n) zero x e = e
get_take (y ∷ xs) (suc n) (suc i) x e = get_take xs n i x e

pub place_take : (from : ℕ) (ks : List (Option Kind)) (n i : ℕ) (k : Option Kind) → slice_get (take n ks) i ≡ Some k
    → place_in from (take n ks) i ≡ place_in from ks i
place_take from [] zero i k e = absurd cc
place_take from [] (suc n) i k e = absurd cc
place_take from (j ∷ ks) zero i k e = absurd cc
place_take from (j ∷ ks) (suc n) zero k e = refl
place_take from (j ∷ ks) (suc n) (suc i) k e = place_take (place_for j from + size_of j) ks n i k e

pub parameter_is : (f : Function) (i : ℕ) (k : Kind) → slice_get (parameters_of (Some f)) i ≡ Some (Some k)
    → slice_get f.variables i ≡ Some (Some k)
parameter_is f i k e = get_take f.variables f.parameters i (Some k) e
