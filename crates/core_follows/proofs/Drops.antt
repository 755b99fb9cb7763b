-- Drops as slots change elsewhere, one behind the other, and behind one that is done.
use Rattle.std.proofs.Common.{◌≡◌, ℕ, zero, suc, ◌+◌, ◌-◌, ◌<◌, ◌≤◌, Bool, true, false, List, [], ◌∷◌, ◌++◌, length, Option}
use Rattle.std.proofs.Common.{None, refl, sym, ap, subst, ◌∙◌, arith, get_or-set_other, inl, inr, ⊎_elim, ◌⊎◌, append_assoc}
use Rattle.std.proofs.lemmas.Bool.{cases_eq, ltb-true, ltb-false}
use Rattle.std.specs.Prelude.{pos, nat_lt, slice_set, slice_index_or, if◌then◌else◌}
use Rattle.limbo_meaning.specs.Values.{Value, Num, Chars, Ref, Array, Parts, Values, NoValues, MoreValues, references, all_references}
use Rattle.limbo_meaning.specs.Values.{one, among}
use Rattle.core_code.specs.Slots.{Slot, Holds, Forms, Turns, Slots, slot, put, without, all_without}
use Rattle.core_code.specs.Slots.{operands_of, dropped, slot_names}
use Rattle.core_code.specs.Code.{Instr, Drop, Mirror, Take, Back}
use Rattle.core_code.specs.Naming.{reference}
use Rattle.core_follows.specs.Drops as drops
use Rattle.core_follows.specs.Drops.{IsWhole, Clean, Between, Apart, Touches, AllTouch, Misses, AllMiss, HasAt, Dropping, none, enters}
use Rattle.core_follows.specs.Drops.{passes}
use Rattle.core_follows.specs.Drops.{takes, HasTurns, last, more}
use Rattle.core_follows.proofs.Slots.{put_other, clean_same}

-- ---- one reference of a value goes

set_left : (rs ss : List (Option ℕ)) (k : ℕ) → k < length rs → slice_set (rs ++ ss) k None ≡ slice_set rs k None ++ ss
set_left [] ss k l = absurd (omega arith)
set_left (r ∷ rs) ss zero l = refl
set_left (r ∷ rs) ss (suc k) l = ap (λ (xs : List (Option ℕ)). r ∷ xs) (set_left rs ss k (omega arith))

set_right : (rs ss : List (Option ℕ)) (k : ℕ) → length rs ≤ k → slice_set (rs ++ ss) k None ≡ rs ++ slice_set ss (k - length rs) None
set_right [] ss k l = let e : k ≡ k - 0 = omega arith in ap (λ (j : ℕ). slice_set ss j None) e
set_right (r ∷ rs) ss zero l = absurd (omega arith)
set_right (r ∷ rs) ss (suc k) l =
    let e : k - length rs ≡ suc k - suc (length rs) = omega arith in
    ap (λ (xs : List (Option ℕ)). r ∷ xs) (set_right rs ss k (omega arith) ∙ ap (λ (j : ℕ). rs ++ slice_set ss j None) e)

chosen : (k : ℕ) (v : Value) (vs : Values) (b : Bool) → nat_lt k (length (references v)) ≡ b
    → references (without k v) ≡ slice_set (references v) k None
    → all_references (all_without (k - length (references v)) vs) ≡ slice_set (all_references vs) (k - length (references v)) None
    → all_references (if b then MoreValues (without k v) vs else MoreValues v (all_without (k - length (references v)) vs))
    ≡ slice_set (references v ++ all_references vs) k None
chosen k v vs true e f g =
    ap (λ (rs : List (Option ℕ)). rs ++ all_references vs) f
    ∙ sym (set_left (references v) (all_references vs) k (ltb-true _ _ e))
chosen k v vs false e f g =
    ap (λ (rs : List (Option ℕ)). references v ++ rs) g
    ∙ sym (set_right (references v) (all_references vs) k (ltb-false _ _ e))

mutual
  pub without_references : (k : ℕ) (v : Value) → references (without k v) ≡ slice_set (references v) k None
  without_references k (Num z) = refl
  without_references k (Chars s) = refl
  without_references zero (Ref r) = refl
  without_references (suc k) (Ref r) = refl
  without_references zero (Array p) = refl
  without_references (suc k) (Array p) = refl
  without_references k (Parts vs) = without_all k vs

  without_all : (k : ℕ) (vs : Values) → all_references (all_without k vs) ≡ slice_set (all_references vs) k None
  without_all k NoValues = refl
  without_all k (MoreValues v vs) =
      chosen k v vs (nat_lt k (length (references v))) refl (without_references k v) (without_all (k - length (references v)) vs)

set_names : (n : ℕ) (rs : List (Option ℕ)) (k : ℕ) → among n (slice_set rs k None) + one n (slice_index_or rs k None) ≡ among n rs
set_names n [] k = omega arith
set_names n (r ∷ rs) zero = omega arith
set_names n (r ∷ rs) (suc k) = let a = set_names n rs k in omega arith

pub dropped_names : (n k : ℕ) (x : Slot) → slot_names (dropped k x) n + one n (reference k x) ≡ slot_names x n
dropped_names n k (Holds v) = let a = set_names n (references v) k in let b = ap (among n) (without_references k v) in omega arith
dropped_names n k (Forms vs) = omega arith
dropped_names n k (Turns i rs) = omega arith

dropped_other : (j k : ℕ) (x : Slot) → (j ≡ k → ⊥) → reference j (dropped k x) ≡ reference j x
dropped_other j k (Holds v) e =
    ap (λ (rs : List (Option ℕ)). slice_index_or rs j None) (without_references k v) ∙ get_or-set_other (references v) k j None None e
dropped_other j k (Forms vs) e = refl
dropped_other j k (Turns i rs) e = refl

pub dropped_whole : (k : ℕ) (x : Slot) → IsWhole x → IsWhole (dropped k x)
dropped_whole k (Holds v) e = refl
dropped_whole k (Forms vs) e = e
dropped_whole k (Turns i rs) e = refl

-- ---- which slots drops touch

pub touch_more : (own : ℕ → Type 0) (is js : List Instr) → AllTouch own is → AllTouch own js → AllTouch own (is ++ js)
touch_more own [] js h k = k
touch_more own (i ∷ is) js h k = (h.0, touch_more own is js h.1 k)

pub touch_front : (own : ℕ → Type 0) (is js : List Instr) → AllTouch own (is ++ js) → AllTouch own is
touch_front own [] js h = tt
touch_front own (i ∷ is) js h = (h.0, touch_front own is js h.1)

pub touch_back : (own : ℕ → Type 0) (is js : List Instr) → AllTouch own (is ++ js) → AllTouch own js
touch_back own [] js h = h
touch_back own (i ∷ is) js h = touch_back own is js h.1

touch_one : (own other : ℕ → Type 0) (i : Instr) → ((s : ℕ) → own s → other s) → Touches own i → Touches other i
touch_one own other (Drop s k) f h = f s h
touch_one own other (Mirror d n) f h = f d h
touch_one own other (Take c from words n) f h = (f c h.0, h.1, λ s l m. f s (h.2 s l m))
touch_one own other _ f h = tt

pub touch_others : (own other : ℕ → Type 0) (is : List Instr) → ((s : ℕ) → own s → other s) → AllTouch own is → AllTouch other is
touch_others own other [] f h = tt
touch_others own other (i ∷ is) f h = (touch_one own other i f h.0, touch_others own other is f h.1)

miss_one : (a b s k : ℕ) (i : Instr) → s < a → Touches (Between a b) i → Misses s k i
miss_one a b s k (Drop r j) l h = λ e f. absurd (let x = h.0 in omega (arith, x, l, e))
miss_one a b s k _ l h = tt

pub miss_between : (a b s k : ℕ) (is : List Instr) → s < a → AllTouch (Between a b) is → AllMiss s k is
miss_between a b s k [] l h = tt
miss_between a b s k (i ∷ is) l h = (miss_one a b s k i l h.0, miss_between a b s k is l h.1)

pub miss_more : (s k : ℕ) (is js : List Instr) → AllMiss s k is → AllMiss s k js → AllMiss s k (is ++ js)
miss_more s k [] js h m = m
miss_more s k (i ∷ is) js h m = (h.0, miss_more s k is js h.1 m)

miss_back : (s k : ℕ) (is js : List Instr) → AllMiss s k (is ++ js) → AllMiss s k js
miss_back s k [] js h = h
miss_back s k (i ∷ is) js h = miss_back s k is js h.1

-- ---- slots change that the drops don't touch

pub dropping_kept : (own : ℕ → Type 0) (slots slots' : Slots) (is : List Instr) (held : List (Option ℕ)) → AllTouch own is
    → ((s : ℕ) → own s → slot slots' s ≡ slot slots s) → Dropping slots is held → Dropping slots' is held
dropping_kept own slots slots' is held t same none = none
dropping_kept own slots slots' is held t same (drops.one {is = js} {held = rest} s k r e m d) =
    drops.one s k r (ap (reference k) (same s t.0) ∙ e) m (dropping_kept own slots slots' js rest t.1 same d)
dropping_kept own slots slots' is held t same (enters {is = js} {held = rest} d n e x) =
    enters d n (same d t.0 ∙ e) (dropping_kept own slots slots' js rest t.1 same x)
dropping_kept own slots slots' is held t same (passes {held = rest} d n skipped js e f l x) =
    passes d n skipped js (same d t.0 ∙ e) f l
    (dropping_kept own slots slots' js rest (touch_back own skipped js (subst (AllTouch own) f t.1)) same x)
dropping_kept own slots slots' is held t same (takes c from words n i es js rs turned later e l wl cl te tj ts x f ln h) =
    takes c from words n i es js rs turned later (same c t.0.0 ∙ e) l wl
    (clean_same slots slots' from (from + words) (λ s p q. same s (t.0.2 s p q)) cl) te tj ts
    (dropping_kept own slots slots' js later
    ((touch_back own es (Back (suc (length es)) ∷ js) (subst (AllTouch own) f t.1)).1) same x) f ln h

-- ---- one behind the other

pub dropping_more : (slots : Slots) (lo mid hi : ℕ) (is js : List Instr) (held later : List (Option ℕ)) → AllTouch (Between lo mid) is
    → AllTouch (Between mid hi) js → Dropping slots is held → Dropping slots js later → Dropping slots (is ++ js) (held ++ later)
dropping_more slots lo mid hi is js held later t u none y = y
dropping_more slots lo mid hi is js held later t u (drops.one {is = xs} {held = rest} s k r e m d) y =
    drops.one s k r e (miss_more s k xs js m (miss_between mid hi s k js t.0.1 u))
    (dropping_more slots lo mid hi xs js rest later t.1 u d y)
dropping_more slots lo mid hi is js held later t u (enters {is = xs} {held = rest} d n e x) y =
    enters d n e (dropping_more slots lo mid hi xs js rest later t.1 u x y)
dropping_more slots lo mid hi is js held later t u (passes {held = rest} d n skipped xs e f l x) y =
    passes d n skipped (xs ++ js) e (ap (λ (zs : List Instr). zs ++ js) f ∙ append_assoc skipped xs js) l
    (dropping_more slots lo mid hi xs js rest later (touch_back (Between lo mid) skipped xs (subst (AllTouch (Between lo mid)) f t.1)) u
    x y)
dropping_more slots lo mid hi is js held later t u (takes c from words n i es xs rs turned rest e l wl cl te tx ts x f ln h) y =
    takes c from words n i es (xs ++ js) rs turned (rest ++ later) e l wl cl te
    (touch_more (Apart c from words) xs js tx (touch_others (Between mid hi) (Apart c from words) js
    (λ s b. (
      λ e. absurd (let p = b.0 in let q = t.0.0.1 in omega (arith, p, q, e)),
      λ p q. absurd (let o = b.0 in let r = (t.0.2 s p q).1 in omega (arith, o, r)),
    )) u)) ts
    (dropping_more slots lo mid hi xs js rest later
    ((touch_back (Between lo mid) es (Back (suc (length es)) ∷ xs) (subst (AllTouch (Between lo mid)) f t.1)).1) u x y)
    (ap (λ (zs : List Instr). zs ++ js) f ∙ append_assoc es (Back (suc (length es)) ∷ xs) js) ln
    (ap (λ (zs : List (Option ℕ)). zs ++ later) h ∙ append_assoc turned rest later)

-- ---- one of them is done

put_dropped : (slots : Slots) (s k : ℕ) → slot (put slots s (dropped k (slot slots s))) s ≡ dropped k (slot slots s)
put_dropped [] s k = refl
put_dropped (x ∷ slots) zero k = refl
put_dropped (x ∷ slots) (suc s) k = put_dropped slots s k

pub after_drop : (slots : Slots) (s k d : ℕ) → (slot (put slots s (dropped k (slot slots s))) d ≡ slot slots d)
    ⊎ ((d ≡ s) × (slot (put slots s (dropped k (slot slots s))) d ≡ dropped k (slot slots d)))
after_drop slots s k d = ⊎_elim
    (λ (e : d ≡ s). inr (
      e,
      subst (λ (r : ℕ). slot (put slots s (dropped k (slot slots s))) r ≡ dropped k (slot slots r)) (sym e)
          (put_dropped slots s k),
    ))
    (λ (e : d ≡ s → ⊥). inl (put_other slots s d (dropped k (slot slots s)) e))
    (cases_eq d s)

keeps_number : (slots : Slots) (s k d : ℕ) (v : Slot) → dropped k v ≡ v → slot slots d ≡ v
    → slot (put slots s (dropped k (slot slots s))) d ≡ v
keeps_number slots s k d v same e = ⊎_elim
    (λ (f : slot (put slots s (dropped k (slot slots s))) d ≡ slot slots d). f ∙ e)
    (λ (f : (d ≡ s) × (slot (put slots s (dropped k (slot slots s))) d ≡ dropped k (slot slots d))). f.1 ∙ ap (dropped k) e ∙ same)
    (after_drop slots s k d)

keeps_reference : (slots : Slots) (s k d j : ℕ) → (d ≡ s → j ≡ k → ⊥)
    → reference j (slot (put slots s (dropped k (slot slots s))) d) ≡ reference j (slot slots d)
keeps_reference slots s k d j ne = ⊎_elim
    (λ (f : slot (put slots s (dropped k (slot slots s))) d ≡ slot slots d). ap (reference j) f)
    (λ (f : (d ≡ s) × (slot (put slots s (dropped k (slot slots s))) d ≡ dropped k (slot slots d))).
    ap (reference j) f.1 ∙ dropped_other j k (slot slots d) (λ e. ne f.0 e))
    (after_drop slots s k d)

pub keeps_clean : (slots : Slots) (s k d n : ℕ) → slot_names (slot slots d) n ≡ 0
    → slot_names (slot (put slots s (dropped k (slot slots s))) d) n ≡ 0
keeps_clean slots s k d n z = ⊎_elim
    (λ (f : slot (put slots s (dropped k (slot slots s))) d ≡ slot slots d). ap (λ (x : Slot). slot_names x n) f ∙ z)
    (λ (f : (d ≡ s) × (slot (put slots s (dropped k (slot slots s))) d ≡ dropped k (slot slots d))).
    let a = dropped_names n k (slot slots d) in let b = ap (λ (x : Slot). slot_names x n) f.1 in omega arith)
    (after_drop slots s k d)

pub drop_whole : (slots : Slots) (s k d : ℕ) → IsWhole (slot slots d) → IsWhole (slot (put slots s (dropped k (slot slots s))) d)
drop_whole slots s k d w = ⊎_elim
    (λ (f : slot (put slots s (dropped k (slot slots s))) d ≡ slot slots d). ap operands_of f ∙ w)
    (λ (f : (d ≡ s) × (slot (put slots s (dropped k (slot slots s))) d ≡ dropped k (slot slots d))).
    ap operands_of f.1 ∙ dropped_whole k (slot slots d) w)
    (after_drop slots s k d)

-- A drop leaves the others as they were that don't drop the same.
pub dropping_behind : (slots : Slots) (s k : ℕ) (is : List Instr) (held : List (Option ℕ)) → AllMiss s k is → Dropping slots is held
    → Dropping (put slots s (dropped k (slot slots s))) is held
dropping_behind slots s k is held m none = none
dropping_behind slots s k is held m (drops.one {is = js} {held = rest} d j r e n x) =
    drops.one d j r (keeps_reference slots s k d j m.0 ∙ e) n (dropping_behind slots s k js rest m.1 x)
dropping_behind slots s k is held m (enters {is = js} {held = rest} d n e x) =
    enters d n (keeps_number slots s k d (Holds (Num (pos 0))) refl e) (dropping_behind slots s k js rest m.1 x)
dropping_behind slots s k is held m (passes {held = rest} d n skipped js e f l x) =
    passes d n skipped js (keeps_number slots s k d (Holds (Num (pos 1))) refl e) f l
    (dropping_behind slots s k js rest (miss_back s k skipped js (subst (AllMiss s k) f m.1)) x)
dropping_behind slots s k is held m (takes c from words n i es js rs turned later e l wl cl te tj ts x f ln h) =
    takes c from words n i es js rs turned later (keeps_number slots s k c (Turns i rs) refl e) l wl
    (λ d p q. let z = cl d p q in ((λ o. keeps_clean slots s k d o (z.0 o)), drop_whole slots s k d z.1)) te tj ts
    (dropping_behind slots s k js later ((miss_back s k es (Back (suc (length es)) ∷ js) (subst (AllMiss s k) f m.1)).1) x) f ln h
