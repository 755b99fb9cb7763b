-- Where slots lie, from a byte on.
use Rattle.std.specs.Prelude.{◌≡◌, ℕ, ◌+◌, ◌%◌, ◌<◌, ◌≤◌, List, ◌⊎◌}
use Rattle.limbo_layout.specs.Adts.{Def}
use Rattle.core_frames.specs.Fits.{Slot, Slots, NoSlots, One, Both, Either, number, room_for, bytes, HasSlot}

module _ (defs : List Def) where
  -- Among slots that are numbered from one on, and lie from a byte on, one of this number lies there, with room for that.
  abbrev pub LiesAt : (lo at : ℕ) → Slots → (number place : ℕ) → Slot → Type 0
  LiesAt lo at NoSlots n p s = ⊥
  LiesAt lo at (One r) n p s = (n ≡ lo) × (p ≡ at) × (s ≡ r)
  LiesAt lo at (Both a b) n p s = LiesAt lo at a n p s ⊎ LiesAt (lo + number a) (at + bytes defs a) b n p s
  LiesAt lo at (Either a b) n p s = LiesAt lo at a n p s ⊎ LiesAt lo at b n p s

  -- Two lie there that are used at one time.
  abbrev pub LieBoth : (lo at : ℕ) → Slots → (number place : ℕ) → Slot → (other behind : ℕ) → Slot → Type 0
  LieBoth lo at NoSlots n p s m q r = ⊥
  LieBoth lo at (One t) n p s m q r = ⊥
  LieBoth lo at (Both a b) n p s m q r =
      LieBoth lo at a n p s m q r ⊎ (LieBoth (lo + number a) (at + bytes defs a) b n p s m q r ⊎
      (LiesAt lo at a n p s × LiesAt (lo + number a) (at + bytes defs a) b m q r))
  LieBoth lo at (Either a b) n p s m q r = LieBoth lo at a n p s m q r ⊎ LieBoth lo at b n p s m q r

  -- A slot is among so many, and its room among so many bytes.
  pub record LiesWithin (lo at : ℕ) (slots : Slots) (n p : ℕ) (s : Slot) : Type 0 where
    pub from : lo ≤ n
    pub below : n < lo + number slots
    pub begins : at ≤ p
    pub ends : p + room_for defs s ≤ at + bytes defs slots
    pub aligned : at % 8 ≡ 0 → p % 8 ≡ 0

-- Each slot has its room in the bytes of all, at a multiple of 8, and of two that are used at one time none lies in the other's.
pub record SlotsLieApart : Type 0 where
  pub there : (defs : List Def) (lo at : ℕ) (slots : Slots) (n : ℕ) (s : Slot) → HasSlot lo slots n s →
      (p : ℕ) × LiesAt defs lo at slots n p s
  pub within : (defs : List Def) (lo at : ℕ) (slots : Slots) (n p : ℕ) (s : Slot) → LiesAt defs lo at slots n p s →
      LiesWithin defs lo at slots n p s
  pub apart : (defs : List Def) (lo at : ℕ) (slots : Slots) (n p m q : ℕ) (s r : Slot) → LieBoth defs lo at slots n p s m q r →
      (n < m) × (p + room_for defs s ≤ q)
