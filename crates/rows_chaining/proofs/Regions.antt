-- Slots of a region one by one, with the blocks that each has as its own, and regions in lists of slots.
use Rattle.std.proofs.Common.{◌≡◌, ◌≢◌, ◌⊎◌, ℕ, zero, suc, ◌+◌, ◌*◌, ◌<◌, ◌≤◌, List, [], ◌∷◌, ◌++◌, length, Option, Some, None, refl, sym, ap, ◌∙◌, subst, arith, inl, inr}
use Rattle.std.specs.Prelude.{slice_get, slice_set}
use Rattle.heap_model.specs.Heap.{Heap}
use Rattle.limbo_layout.specs.Adts.{Def, Has}
use Rattle.limbo_layout.proofs.Rooms.{has_left, has_right}
use Rattle.core_code.specs.Slots as core
use Rattle.core_code.specs.Slots.{Slot, slot_names, region_names}
use Rattle.core_typing.specs.Held as held
use Rattle.core_typing.specs.Held.{Held, slots_in}
use Rattle.dis_meaning.specs.Words.{Word}
use Rattle.dis_memory.specs.Blocks.{Block}
use Rattle.value_words.specs.Facts.{Facts}
use Rattle.value_frames.specs.Standing.{Single, SlotStands, RegionStands, no_slot, more_slots}

-- ---- lists in which one is another

pub set_here : {A : Type 0} (xs : List A) (s : ℕ) (a : A) → s < length xs → slice_get (slice_set xs s a) s ≡ Some a
set_here [] s a l = absurd (omega (arith, l))
set_here (x ∷ xs) zero a l = refl
set_here (x ∷ xs) (suc s) a l = set_here xs s a (omega (arith, l))

pub set_apart : {A : Type 0} (xs : List A) (s r : ℕ) (a : A) → r ≢ s → slice_get (slice_set xs s a) r ≡ slice_get xs r
set_apart [] s r a ne = refl
set_apart (x ∷ xs) zero zero a ne = absurd (ne refl)
set_apart (x ∷ xs) zero (suc r) a ne = refl
set_apart (x ∷ xs) (suc s) zero a ne = refl
set_apart (x ∷ xs) (suc s) (suc r) a ne = set_apart xs s r a (λ e. ne (ap suc e))

pub set_long : {A : Type 0} (xs : List A) (s : ℕ) (a : A) → length (slice_set xs s a) ≡ length xs
set_long [] s a = refl
set_long (x ∷ xs) zero a = refl
set_long (x ∷ xs) (suc s) a = ap suc (set_long xs s a)

-- ---- a region in a list

abbrev pub held_at : held.Region → ℕ → Option Held
held_at held.NoSlot d = None
held_at (held.MoreSlots h g) zero = Some h
held_at (held.MoreSlots h g) (suc d) = held_at g d

abbrev pub slot_at : core.Region → ℕ → Option Slot
slot_at core.NoSlot d = None
slot_at (core.MoreSlots l g) zero = Some l
slot_at (core.MoreSlots l g) (suc d) = slot_at g d

abbrev pub long : core.Region → ℕ
long core.NoSlot = 0
long (core.MoreSlots l g) = suc (long g)

pub placed_long : (slots : core.Slots) (from : ℕ) (g : core.Region) → length (core.placed slots from g) ≡ length slots
placed_long slots from core.NoSlot = refl
placed_long slots from (core.MoreSlots l g) = set_long (core.placed slots (suc from) g) from l ∙ placed_long slots (suc from) g

pub placed_out : (slots : core.Slots) (from : ℕ) (g : core.Region) (s : ℕ) → (s < from) ⊎ (from + long g ≤ s)
    → slice_get (core.placed slots from g) s ≡ slice_get slots s
placed_out slots from core.NoSlot s out = refl
placed_out slots from (core.MoreSlots l g) s (inl low) =
    set_apart (core.placed slots (suc from) g) from s l (λ e. omega (arith, e, low))
    ∙ placed_out slots (suc from) g s (inl (omega (arith, low)))
placed_out slots from (core.MoreSlots l g) s (inr high) =
    set_apart (core.placed slots (suc from) g) from s l (λ e. omega (arith, e, high))
    ∙ placed_out slots (suc from) g s (inr (omega (arith, high)))

pub placed_in : (slots : core.Slots) (from : ℕ) (g : core.Region) (d : ℕ) → d < long g → from + long g ≤ length slots
    → slice_get (core.placed slots from g) (from + d) ≡ slot_at g d
placed_in slots from core.NoSlot d l fits = absurd (omega (arith, l))
placed_in slots from (core.MoreSlots v g) zero l fits =
    let e = placed_long slots (suc from) g in
    let z : from ≡ from + 0 = omega arith in
    subst (λ s. slice_get (slice_set (core.placed slots (suc from) g) from v) s ≡ Some v) z
    (set_here (core.placed slots (suc from) g) from v (omega (arith, fits, e)))
placed_in slots from (core.MoreSlots v g) (suc d) l fits =
    let z : suc from + d ≡ from + suc d = omega arith in
    set_apart (core.placed slots (suc from) g) from (from + suc d) v (λ e. omega (arith, e))
    ∙ subst (λ s. slice_get (core.placed slots (suc from) g) s ≡ slot_at g d) z
    (placed_in slots (suc from) g d (omega (arith, l)) (omega (arith, fits)))

pub held_long : (slots : held.Slots) (from : ℕ) (g : held.Region) → length (held.placed slots from g) ≡ length slots
held_long slots from held.NoSlot = refl
held_long slots from (held.MoreSlots l g) = set_long (held.placed slots (suc from) g) from l ∙ held_long slots (suc from) g

pub held_out : (slots : held.Slots) (from : ℕ) (g : held.Region) (s : ℕ) → (s < from) ⊎ (from + slots_in g ≤ s)
    → slice_get (held.placed slots from g) s ≡ slice_get slots s
held_out slots from held.NoSlot s out = refl
held_out slots from (held.MoreSlots l g) s (inl low) =
    set_apart (held.placed slots (suc from) g) from s l (λ e. omega (arith, e, low))
    ∙ held_out slots (suc from) g s (inl (omega (arith, low)))
held_out slots from (held.MoreSlots l g) s (inr high) =
    set_apart (held.placed slots (suc from) g) from s l (λ e. omega (arith, e, high))
    ∙ held_out slots (suc from) g s (inr (omega (arith, high)))

pub held_in : (slots : held.Slots) (from : ℕ) (g : held.Region) (d : ℕ) → d < slots_in g → from + slots_in g ≤ length slots
    → slice_get (held.placed slots from g) (from + d) ≡ held_at g d
held_in slots from held.NoSlot d l fits = absurd (omega (arith, l))
held_in slots from (held.MoreSlots v g) zero l fits =
    let e = held_long slots (suc from) g in
    let z : from ≡ from + 0 = omega arith in
    subst (λ s. slice_get (slice_set (held.placed slots (suc from) g) from v) s ≡ Some v) z
    (set_here (held.placed slots (suc from) g) from v (omega (arith, fits, e)))
held_in slots from (held.MoreSlots v g) (suc d) l fits =
    let z : suc from + d ≡ from + suc d = omega arith in
    set_apart (held.placed slots (suc from) g) from (from + suc d) v (λ e. omega (arith, e))
    ∙ subst (λ s. slice_get (held.placed slots (suc from) g) s ≡ held_at g d) z
    (held_in slots (suc from) g d (omega (arith, l)) (omega (arith, fits)))

-- ---- what a region names one of its slots does

pub record NamesSo (g : core.Region) (n : ℕ) : Type 0 where
  pub number : ℕ
  pub within : number < long g
  pub held : Slot
  pub there : slot_at g number ≡ Some held
  pub names : 0 < slot_names held n

pub region_named : (g : core.Region) (n : ℕ) → 0 < region_names g n → NamesSo g n
region_named core.NoSlot n h = absurd (omega (arith, h))
region_named (core.MoreSlots l g) n h = go (slot_names l n) refl (λ u. region_named g n u)
  where
    go : (c : ℕ) → slot_names l n ≡ c → (0 < region_names g n → NamesSo g n) → NamesSo (core.MoreSlots l g) n
    go zero e rec =
        let r = rec (omega (arith, h, e)) in
        let w = r.within in
        record { number = suc r.number; within = omega (arith, w); held = r.held; there = r.there; names = r.names }
    go (suc c) e rec = record { number = 0; within = omega arith; held = l; there = refl; names = omega (arith, e) }

-- ---- the blocks of each slot

abbrev pick : List ℕ → (ℕ → List ℕ) → ℕ → List ℕ
pick own rest zero = own
pick own rest (suc d) = rest d

single_left : (xs ys : List ℕ) → Single (xs ++ ys) → Single xs
single_left [] ys s = tt
single_left (x ∷ xs) ys s = (λ h. s.0 (has_left xs ys x h), single_left xs ys s.1)

single_right : (xs ys : List ℕ) → Single (xs ++ ys) → Single ys
single_right [] ys s = s
single_right (x ∷ xs) ys s = single_right xs ys s.1

pub single_apart : (xs ys : List ℕ) (b : ℕ) → Single (xs ++ ys) → Has xs b → Has ys b → ⊥
single_apart [] ys b s h g = absurd h
single_apart (x ∷ xs) ys b s (inl e) g = s.0 (has_right xs ys x (subst (Has ys) (sym e) g))
single_apart (x ∷ xs) ys b s (inr h) g = single_apart xs ys b s.1 h g

pub singles : (xs ys : List ℕ) → Single (xs ++ ys) → Single xs × Single ys
singles xs ys s = (single_left xs ys s, single_right xs ys s)

module _ (defs : List Def) (k : Facts) (x : Heap Block) (frame : ℕ) where
  pub record EachOwn (words : List Word) (p : ℕ) (hs : held.Region) (g : core.Region) (own : List ℕ) : Type 0 where
    pub as_many : long g ≡ slots_in hs
    pub of : ℕ → List ℕ
    pub past : (d : ℕ) → slots_in hs ≤ d → of d ≡ []
    pub among : (d b : ℕ) → Has (of d) b → Has own b
    pub stands : (d : ℕ) (h : Held) (l : Slot) → held_at hs d ≡ Some h → slot_at g d ≡ Some l →
        SlotStands defs k x frame words (p + 8 * d) (p + 8 * d + 4) h l (of d)
    pub single : Single own → (d : ℕ) → Single (of d)
    pub apart : Single own → (d e b : ℕ) → Has (of d) b → Has (of e) b → d ≡ e

  pub each_own : (words : List Word) (p : ℕ) (hs : held.Region) (g : core.Region) (own : List ℕ) → RegionStands defs k x frame words p hs g own
      → EachOwn words p hs g own
  each_own _ _ _ _ _ (no_slot words p) = record {
    as_many = refl;
    of = λ d. [];
    past = λ d l. refl;
    among = λ d b h. h;
    stands = λ d h l e f. absurd cc;
    single = λ s d. tt;
    apart = λ s d e b h g. absurd h;
  }
  each_own _ _ _ _ _ (more_slots words p h hs l g own more one others) =
      let rest = each_own words (p + 8) hs g more others in
      record {
        as_many = ap suc rest.as_many;
        of = pick own rest.of;
        past = past rest.of rest.past;
        among = among rest.of rest.among;
        stands = stands rest.of rest.stands;
        single = λ s. single rest.of s (rest.single (single_right own more s));
        apart = λ s. apart rest.of rest.among s (rest.apart (single_right own more s));
      }
    where
      past : (of : ℕ → List ℕ) → ((d : ℕ) → slots_in hs ≤ d → of d ≡ []) → (d : ℕ) → suc (slots_in hs) ≤ d → pick own of d ≡ []
      past of rest zero l = absurd (omega (arith, l))
      past of rest (suc d) l = rest d (omega (arith, l))

      among : (of : ℕ → List ℕ) → ((d b : ℕ) → Has (of d) b → Has more b) → (d b : ℕ) → Has (pick own of d) b → Has (own ++ more) b
      among of rest zero b h = has_left own more b h
      among of rest (suc d) b h = has_right own more b (rest d b h)

      stands : (of : ℕ → List ℕ)
          → ((d : ℕ) (u : Held) (v : Slot) → held_at hs d ≡ Some u → slot_at g d ≡ Some v → SlotStands defs k x frame words (p + 8 + 8 * d) (p + 8 + 8 * d + 4) u v (of d))
          → (d : ℕ) (u : Held) (v : Slot) → held_at (held.MoreSlots h hs) d ≡ Some u → slot_at (core.MoreSlots l g) d ≡ Some v
          → SlotStands defs k x frame words (p + 8 * d) (p + 8 * d + 4) u v (pick own of d)
      stands of rest zero u v e f =
          let a : h ≡ u = cc in
          let c : l ≡ v = cc in
          let z : p ≡ p + 8 * 0 = omega arith in
          subst (λ n. SlotStands defs k x frame words n (n + 4) u v own) z
          (subst (λ w. SlotStands defs k x frame words p (p + 4) u w own) c (subst (λ w. SlotStands defs k x frame words p (p + 4) w l own) a one))
      stands of rest (suc d) u v e f =
          let z : p + 8 + 8 * d ≡ p + 8 * suc d = omega arith in
          subst (λ n. SlotStands defs k x frame words n (n + 4) u v (of d)) z (rest d u v e f)

      single : (of : ℕ → List ℕ) → Single (own ++ more) → ((d : ℕ) → Single (of d)) → (d : ℕ) → Single (pick own of d)
      single of s rest zero = single_left own more s
      single of s rest (suc d) = rest d

      apart : (of : ℕ → List ℕ) → ((d b : ℕ) → Has (of d) b → Has more b) → Single (own ++ more)
          → ((d e b : ℕ) → Has (of d) b → Has (of e) b → d ≡ e) → (d e b : ℕ) → Has (pick own of d) b → Has (pick own of e) b → d ≡ e
      apart of within s rest zero zero b h g = refl
      apart of within s rest zero (suc e) b h g = absurd (single_apart own more b s h (within e b g))
      apart of within s rest (suc d) zero b h g = absurd (single_apart own more b s g (within d b h))
      apart of within s rest (suc d) (suc e) b h g = ap suc (rest d e b h g)
