-- Slots as one is written, and how often those in a row name a value.
use Rattle.std.proofs.Common.{◌≡◌, ℕ, zero, suc, ◌+◌, ◌-◌, ◌<◌, ◌≤◌, List, [], ◌∷◌, ◌++◌, length, Option}
use Rattle.std.proofs.Common.{refl, sym, ap, subst, ◌∙◌, arith, length-set, get_or-set_same, get_or-set_other, inl, inr, ⊎_elim}
use Rattle.std.proofs.lemmas.Bool.{cases_eq}
use Rattle.limbo_meaning.specs.Values.{among}
use Rattle.core_code.specs.Slots.{Slot, Slots, Region, NoSlot, MoreSlots, empty, slot, put, region, placed, operands_of}
use Rattle.core_code.specs.Slots.{slot_names, region_names, slots_name}
use Rattle.core_code.specs.Naming.{size}
use Rattle.core_code.proofs.Names.{long_placed}
use Rattle.core_follows.specs.Drops.{IsWhole, Clean, Name, Beside}
use Rattle.core_follows.specs.Stands.{SlotsName}

pub among_join : (n : ℕ) (rs ss : List (Option ℕ)) → among n (rs ++ ss) ≡ among n rs + among n ss
among_join n [] ss = omega arith
among_join n (r ∷ rs) ss = let a = among_join n rs ss in omega arith

-- ---- one slot

pub put_same : (slots : Slots) (s : ℕ) (v : Slot) → s < length slots → slot (put slots s v) s ≡ v
put_same slots s v l = get_or-set_same slots s v empty l

pub put_other : (slots : Slots) (s d : ℕ) (v : Slot) → (d ≡ s → ⊥) → slot (put slots s v) d ≡ slot slots d
put_other slots s d v e = get_or-set_other slots s d v empty e

pub put_long : (slots : Slots) (s : ℕ) (v : Slot) → length (put slots s v) ≡ length slots
put_long slots s v = length-set slots s v

-- a whole value comes into a slot
pub put_whole : (slots : Slots) (s : ℕ) (v : Slot) → IsWhole v → (d : ℕ) → IsWhole (slot slots d) → IsWhole (slot (put slots s v) d)
put_whole [] s v w d h = h
put_whole (x ∷ slots) zero v w zero h = w
put_whole (x ∷ slots) zero v w (suc d) h = h
put_whole (x ∷ slots) (suc s) v w zero h = h
put_whole (x ∷ slots) (suc s) v w (suc d) h = put_whole slots s v w d h

-- ---- slots in a row

abbrev pub total : Slots → (from count : ℕ) → ℕ → ℕ
total slots a k n = region_names (region slots a k) n

pub total_split : (n : ℕ) (slots : Slots) (a k l : ℕ) → total slots a (k + l) n ≡ total slots a k n + total slots (a + k) l n
total_split n slots a zero l =
    let e : zero + l ≡ l = omega arith in
    let f : a ≡ a + zero = omega arith in
    let g : total slots a l n ≡ zero + total slots a l n = omega arith in
    ap (λ (j : ℕ). total slots a j n) e ∙ g ∙ ap (λ (b : ℕ). zero + total slots b l n) f
total_split n slots a (suc k) l =
    let e : suc k + l ≡ suc (k + l) = omega arith in
    let f : suc a + k ≡ a + suc k = omega arith in
    let h = total_split n slots (suc a) k l in
    let g : slot_names (slot slots a) n + total slots (suc a) (k + l) n
    ≡ slot_names (slot slots a) n + total slots (suc a) k n + total slots (suc a + k) l n = omega arith in
    ap (λ (j : ℕ). total slots a j n) e ∙ g
    ∙ ap (λ (b : ℕ). slot_names (slot slots a) n + total slots (suc a) k n + total slots b l n) f

pub total_same : (n : ℕ) (slots slots' : Slots) (a k : ℕ) → ((s : ℕ) → a ≤ s → s < a + k → slot slots' s ≡ slot slots s)
    → total slots' a k n ≡ total slots a k n
total_same n slots slots' a zero h = refl
total_same n slots slots' a (suc k) h =
    let x = ap (λ (s : Slot). slot_names s n) (h a (omega arith) (omega arith)) in
    let y = total_same n slots slots' (suc a) k (λ s l m. h s (omega arith) (omega arith)) in
    omega arith

pub clean_total : (n : ℕ) (slots : Slots) (a k : ℕ) → Clean slots a (a + k) → total slots a k n ≡ 0
clean_total n slots a zero c = refl
clean_total n slots a (suc k) c =
    let x = (c a (omega arith) (omega arith)).0 n in
    let y = clean_total n slots (suc a) k (λ s l m. c s (omega arith) (omega arith)) in
    omega arith

total_none : (slots : Slots) (a k : ℕ) → ((n : ℕ) → total slots a k n ≡ 0) → (s : ℕ) → a ≤ s → s < a + k → (n : ℕ)
    → slot_names (slot slots s) n ≡ 0
total_none slots a zero h s l m n = absurd (omega arith)
total_none slots a (suc k) h s l m n = ⊎_elim
    (λ (e : s ≡ a). let z = h n in let w : slot_names (slot slots a) n ≡ 0 = omega arith in
    subst (λ (s : ℕ). slot_names (slot slots s) n ≡ 0) (sym e) w)
    (λ (e : s ≡ a → ⊥). total_none slots (suc a) k (λ n. let z = h n in omega arith) s (omega (arith, e)) (omega arith) n)
    (cases_eq s a)

pub total_clean : (slots : Slots) (a k : ℕ) → ((n : ℕ) → total slots a k n ≡ 0)
    → ((s : ℕ) → a ≤ s → s < a + k → IsWhole (slot slots s)) → Clean slots a (a + k)
total_clean slots a k h w s l m = (total_none slots a k h s l m, w s l m)

total_tail : (n : ℕ) (x : Slot) (slots : Slots) (a k : ℕ) → total (x ∷ slots) (suc a) k n ≡ total slots a k n
total_tail n x slots a zero = refl
total_tail n x slots a (suc k) = ap (λ (j : ℕ). slot_names (slot slots a) n + j) (total_tail n x slots (suc a) k)

pub slots_total : (n : ℕ) (slots : Slots) → slots_name slots n ≡ total slots 0 (length slots) n
slots_total n [] = refl
slots_total n (x ∷ slots) =
    ap (λ (j : ℕ). slot_names x n + j) (slots_total n slots ∙ sym (total_tail n x slots 0 (length slots)))

-- all slots: those below, those between, and those above
pub slots_split : (n : ℕ) (slots : Slots) (a b : ℕ) → a ≤ b → b ≤ length slots
    → slots_name slots n ≡ total slots 0 a n + total slots a (b - a) n + total slots b (length slots - b) n
slots_split n slots a b l m =
    let e : length slots ≡ (a + (b - a)) + (length slots - b) = omega arith in
    let f = total_split n slots 0 (a + (b - a)) (length slots - b) in
    let g = total_split n slots 0 a (b - a) in
    let h : 0 + (a + (b - a)) ≡ b = omega arith in
    let i : 0 + a ≡ a = omega arith in
    let j = ap (λ (x : ℕ). total slots x (length slots - b) n) h in
    let k = ap (λ (x : ℕ). total slots x (b - a) n) i in
    let z = ap (λ (x : ℕ). total slots 0 x n) e in
    slots_total n slots ∙ omega arith

-- Where only slots between change, which named nothing, what they name then comes in addition.
pub names_between : (slots slots' : Slots) (a b : ℕ) (held got : List (Option ℕ)) → a ≤ b → b ≤ length slots
    → length slots' ≡ length slots → ((s : ℕ) → Beside a b s → slot slots' s ≡ slot slots s) → Clean slots a b → Name slots' a b got
    → SlotsName slots held → SlotsName slots' (held ++ got)
names_between slots slots' a b held got l m e same c nm h n =
    let x = slots_split n slots a b l m in
    let y = slots_split n slots' a b l (omega arith) in
    let i = total_same n slots slots' 0 a (λ s p q. same s (inl (omega arith))) in
    let j = total_same n slots slots' b (length slots - b) (λ s p q. same s (inr p)) in
    let f : a + (b - a) ≡ b = omega arith in
    let k = clean_total n slots a (b - a) (subst (λ (z : ℕ). Clean slots a z) (sym f) c) in
    let o = nm n in
    let p = h n in
    let q = among_join n held got in
    let r = ap (λ (z : ℕ). total slots' b (z - b) n) e in
    omega arith

pub clean_same : (slots slots' : Slots) (a b : ℕ) → ((s : ℕ) → a ≤ s → s < b → slot slots' s ≡ slot slots s) → Clean slots a b
    → Clean slots' a b
clean_same slots slots' a b same c s l m =
    let x = c s l m in ((λ n. ap (λ (x : Slot). slot_names x n) (same s l m) ∙ x.0 n), ap operands_of (same s l m) ∙ x.1)

-- Where only slots between change, which named nothing, what they name is what all name in addition.
pub name_between : (slots slots' : Slots) (a b : ℕ) (held got : List (Option ℕ)) → a ≤ b → b ≤ length slots
    → length slots' ≡ length slots → ((s : ℕ) → Beside a b s → slot slots' s ≡ slot slots s) → Clean slots a b → SlotsName slots held
    → SlotsName slots' (held ++ got) → Name slots' a b got
name_between slots slots' a b held got l m e same c h h' n =
    let x = slots_split n slots a b l m in
    let y = slots_split n slots' a b l (omega arith) in
    let i = total_same n slots slots' 0 a (λ s p q. same s (inl (omega arith))) in
    let j = total_same n slots slots' b (length slots - b) (λ s p q. same s (inr p)) in
    let f : a + (b - a) ≡ b = omega arith in
    let k = clean_total n slots a (b - a) (subst (λ (z : ℕ). Clean slots a z) (sym f) c) in
    let o = h n in
    let p = h' n in
    let q = among_join n held got in
    let r = ap (λ (z : ℕ). total slots' b (z - b) n) e in
    omega arith

pub clean_within : (slots : Slots) (a b c d : ℕ) → a ≤ c → d ≤ b → Clean slots a b → Clean slots c d
clean_within slots a b c d l m h s p q = h s (omega arith) (omega arith)

-- ---- what slots between name

pub name_none : (slots : Slots) (a : ℕ) → Name slots a a []
name_none slots a n = let e : a - a ≡ 0 = omega arith in ap (λ (k : ℕ). total slots a k n) e

pub name_more : (slots : Slots) (a b c : ℕ) (held got : List (Option ℕ)) → a ≤ b → b ≤ c → Name slots a b held → Name slots b c got
    → Name slots a c (held ++ got)
name_more slots a b c held got l m h k n =
    let e : c - a ≡ (b - a) + (c - b) = omega arith in
    let f : a + (b - a) ≡ b = omega arith in
    let x = h n in
    let y = k n in
    let z = among_join n held got in
    let s = total_split n slots a (b - a) (c - b) in
    let t = ap (λ (j : ℕ). total slots j (c - b) n) f in
    ap (λ (j : ℕ). total slots a j n) e ∙ omega arith

pub name_same : (slots slots' : Slots) (a b : ℕ) (held : List (Option ℕ)) → ((s : ℕ) → a ≤ s → s < b → slot slots' s ≡ slot slots s)
    → Name slots a b held → Name slots' a b held
name_same slots slots' a b held same h n = total_same n slots slots' a (b - a) (λ s l m. same s l (omega arith)) ∙ h n

pub name_at : (slots : Slots) (s : ℕ) (held : List (Option ℕ)) → ((n : ℕ) → slot_names (slot slots s) n ≡ among n held)
    → Name slots s (suc s) held
name_at slots s held h n =
    let e : suc s - s ≡ 1 = omega arith in
    let x = h n in
    ap (λ (k : ℕ). total slots s k n) e ∙ omega arith

pub name_clean : (slots : Slots) (a b : ℕ) → a ≤ b → Clean slots a b → Name slots a b []
name_clean slots a b l c n =
    let e : b ≡ a + (b - a) = omega arith in
    clean_total n slots a (b - a) (subst (λ (z : ℕ). Clean slots a z) e c)

-- ---- a region in its place

pub region_size : (slots : Slots) (a k : ℕ) → size (region slots a k) ≡ k
region_size slots a zero = refl
region_size slots a (suc k) = ap suc (region_size slots (suc a) k)

pub placed_region : (base slots : Slots) (a k s : ℕ) → a + k ≤ length base → a ≤ s → s < a + k → slot (placed base a (region slots a k)) s ≡
    slot slots s
placed_region base slots a zero s m l lt = absurd (omega arith)
placed_region base slots a (suc k) s m l lt =
    let back = placed base (suc a) (region slots (suc a) k) in
    let long = long_placed base (suc a) (region slots (suc a) k) in
    ⊎_elim
    (λ (e : s ≡ a). subst (λ (s : ℕ). slot (put back a (slot slots a)) s ≡ slot slots s) (sym e)
    (put_same back a (slot slots a) (omega arith)))
    (λ (e : s ≡ a → ⊥). put_other back a s (slot slots a) e ∙ placed_region base slots (suc a) k s (omega arith) (omega (arith, e))
    (omega arith))
    (cases_eq s a)

pub placed_above : (slots : Slots) (a : ℕ) (g : Region) (s : ℕ) → a + size g ≤ s → slot (placed slots a g) s ≡ slot slots s
placed_above slots a NoSlot s l = refl
placed_above slots a (MoreSlots x g) s l =
    put_other (placed slots (suc a) g) a s x (λ e. absurd (omega (arith, e, l))) ∙ placed_above slots (suc a) g s (omega arith)
