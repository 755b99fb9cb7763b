-- Slots lie one behind the other.
use Rattle.std.proofs.Common.{◌≡◌, ℕ, ◌+◌, ◌%◌, ◌<◌, ◌≤◌, List, max, arith, refl, ap, ◌∙◌, inl, inr}
use Rattle.std.specs.Int.{next_multiple_of}
use Rattle.limbo_layout.specs.Adts.{Def}
use Rattle.core_frames.specs.Fits.{Slot, Value, Word, Slots, NoSlots, One, Both, Either, number, room_for, bytes, HasSlot}
use Rattle.core_frames.specs.Places.{LiesAt, LieBoth, LiesWithin, SlotsLieApart}

-- multiples of 8
next_of_8 : (n : ℕ) → next_multiple_of n 8 % 8 ≡ 0
next_of_8 n = omega arith

sum_of_8 : (a b : ℕ) → a % 8 ≡ 0 → b % 8 ≡ 0 → (a + b) % 8 ≡ 0
sum_of_8 a b e f = omega arith

max_of_8 : (a b : ℕ) → a % 8 ≡ 0 → b % 8 ≡ 0 → max a b % 8 ≡ 0
max_of_8 a b e f = omega arith

module _ (defs : List Def) where
  there : (lo at : ℕ) (slots : Slots) (n : ℕ) (s : Slot) → HasSlot lo slots n s → (p : ℕ) × LiesAt defs lo at slots n p s
  there lo at NoSlots n s h = absurd h
  there lo at (One r) n s h = (at, (h.0, refl, h.1))
  there lo at (Both a b) n s (inl h) = let x = there lo at a n s h in (x.0, inl x.1)
  there lo at (Both a b) n s (inr h) = let x = there (lo + number a) (at + bytes defs a) b n s h in (x.0, inr x.1)
  there lo at (Either a b) n s (inl h) = let x = there lo at a n s h in (x.0, inl x.1)
  there lo at (Either a b) n s (inr h) = let x = there lo at b n s h in (x.0, inr x.1)

  room_of_8 : (s : Slot) → room_for defs s % 8 ≡ 0
  room_of_8 (Value t) = next_of_8 _
  room_of_8 Word = refl

  bytes_of_8 : (slots : Slots) → bytes defs slots % 8 ≡ 0
  bytes_of_8 NoSlots = refl
  bytes_of_8 (One s) = room_of_8 s
  bytes_of_8 (Both a b) = sum_of_8 (bytes defs a) (bytes defs b) (bytes_of_8 a) (bytes_of_8 b)
  bytes_of_8 (Either a b) = max_of_8 (bytes defs a) (bytes defs b) (bytes_of_8 a) (bytes_of_8 b)

  within : (lo at : ℕ) (slots : Slots) (n p : ℕ) (s : Slot) → LiesAt defs lo at slots n p s → LiesWithin defs lo at slots n p s
  within lo at NoSlots n p s h = absurd h
  within lo at (One r) n p s h =
      let e = h.0 in
      let f = h.1 in
      let g = ap (room_for defs) h.2 in
      record {
        from = omega arith;
        below = omega arith;
        begins = omega arith;
        ends = omega arith;
        aligned = λ z. ap (λ (k : ℕ). k % 8) f ∙ z;
      }
  within lo at (Both a b) n p s (inl h) =
      let x = within lo at a n p s h in
      record {
        from = x.from;
        below = let y = x.below in omega arith;
        begins = x.begins;
        ends = let y = x.ends in omega arith;
        aligned = x.aligned;
      }
  within lo at (Both a b) n p s (inr h) =
      let x = within (lo + number a) (at + bytes defs a) b n p s h in
      record {
        from = let y = x.from in omega arith;
        below = let y = x.below in omega arith;
        begins = let y = x.begins in omega arith;
        ends = let y = x.ends in omega arith;
        aligned = λ z. x.aligned (sum_of_8 at (bytes defs a) z (bytes_of_8 a));
      }
  within lo at (Either a b) n p s (inl h) =
      let x = within lo at a n p s h in
      record {
        from = x.from;
        below = let y = x.below in omega arith;
        begins = x.begins;
        ends = let y = x.ends in omega arith;
        aligned = x.aligned;
      }
  within lo at (Either a b) n p s (inr h) =
      let x = within lo at b n p s h in
      record {
        from = x.from;
        below = let y = x.below in omega arith;
        begins = x.begins;
        ends = let y = x.ends in omega arith;
        aligned = x.aligned;
      }

  apart : (lo at : ℕ) (slots : Slots) (n p m q : ℕ) (s r : Slot) → LieBoth defs lo at slots n p s m q r
      → (n < m) × (p + room_for defs s ≤ q)
  apart lo at NoSlots n p m q s r h = absurd h
  apart lo at (One t) n p m q s r h = absurd h
  apart lo at (Both a b) n p m q s r (inl h) = apart lo at a n p m q s r h
  apart lo at (Both a b) n p m q s r (inr (inl h)) = apart (lo + number a) (at + bytes defs a) b n p m q s r h
  apart lo at (Both a b) n p m q s r (inr (inr h)) =
      let x = within lo at a n p s h.0 in
      let y = within (lo + number a) (at + bytes defs a) b m q r h.1 in
      let c = x.below in
      let d = x.ends in
      let e = y.from in
      let f = y.begins in
      (omega arith, omega arith)
  apart lo at (Either a b) n p m q s r (inl h) = apart lo at a n p m q s r h
  apart lo at (Either a b) n p m q s r (inr h) = apart lo at b n p m q s r h

pub slots_lie_apart : SlotsLieApart
slots_lie_apart = record { there = there; within = within; apart = apart }
