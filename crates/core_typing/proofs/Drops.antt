-- Drops go well, whatever the values are that they let go, and leave slots that name nothing.
use Rattle.std.proofs.Common.{◌≡◌, ℕ, zero, suc, ◌+◌, ◌<◌, ◌≤◌, Bool, true, false, List, [], ◌∷◌, ◌++◌, length, Option, Some}
use Rattle.std.proofs.Common.{refl, sym, ap, subst, ◌∙◌, arith, inl, inr, ⊎_elim, ◌⊎◌, append_assoc, length-append}
use Rattle.std.proofs.lemmas.Bool.{cases_eq, cases_lt}
use Rattle.limbo_types.specs.Types.{Ty}
use Rattle.limbo_layout.specs.Adts.{Def}
use Rattle.limbo_kept.specs.Trees.{Scope}
use Rattle.core_code.specs.Code.{Instr, Drop, Mirror, Take, Back}
use Rattle.core_code.specs.Terms.{count_of, drops_from, drops_if}
use Rattle.core_follows.specs.Drops.{Between, Beside, Apart, AllTouch, AllSpare, HasAt}
use Rattle.core_follows.proofs.Drops.{touch_more, touch_back, touch_others}
use Rattle.core_follows.proofs.Holding.{has_front, has_back}
use Rattle.core_follows.proofs.Moves.{spare_tail}
use Rattle.core_typing.specs.Held.{Held, Of, Decided, Turns, Region, NoSlot, MoreSlots, Regions, NoRegion, MoreRegions, Slots, empty, slot}
use Rattle.core_typing.specs.Held.{put, chain_of, region, cleared, placed, chained, slots_in, EachHas, type_held, Has, without, dropped}
use Rattle.core_typing.specs.Needs.{IsClean}
use Rattle.core_typing.specs.Written.{told}
use Rattle.core_typing.specs.Going.{taken, mirrored, Goes}
use Rattle.core_typing.proofs.Going.{put_same, put_other, put_long, shorter, same_place, goes_next, goes_back}
use Rattle.core_typing.proofs.Cleaning.{none_has, has_without, dropped_type, clean_same, put_equal, put_type, put_clean, drop_clean, Alike}
use Rattle.core_typing.proofs.Cleaning.{alike_put, put_alike, drop_alike}
use Rattle.core_typing.proofs.Telling.{Quiet, quiet_front, quiet_back, told_same, told_over}

-- ---- what is known of the slots lets the drops of a row go well, and behind them nothing is named from one slot on and below another

mutual
  pub data Lets (defs : List Def) : (lo hi : ℕ) → (tells : ℕ → Option Ty) → Slots → List Instr → Type 0 where
    none : {lo hi : ℕ} {tells : ℕ → Option Ty} {slots : Slots} → ((r : ℕ) → lo ≤ r → r < hi → IsClean (slot slots r))
        → Lets defs lo hi tells slots []
    one : {lo hi : ℕ} {tells : ℕ → Option Ty} {slots : Slots} {is : List Instr} (s k : ℕ) (t : Ty)
        → type_held (slot slots s) ≡ Some t → tells s ≡ Some t → k < count_of defs t
        → Lets defs lo hi tells (put slots s (dropped k (slot slots s))) is → Lets defs lo hi tells slots (Drop s k ∷ is)
    enters : {lo hi : ℕ} {tells : ℕ → Option Ty} {slots : Slots} {is : List Instr} (d n : ℕ) → slot slots d ≡ Decided false
        → Lets defs lo hi tells slots is → Lets defs lo hi tells slots (Mirror d n ∷ is)
    passes : {lo hi : ℕ} {tells : ℕ → Option Ty} {slots : Slots} {rest : List Instr} (d n : ℕ) (skipped is : List Instr)
        → slot slots d ≡ Decided true → rest ≡ skipped ++ is → n ≡ length skipped → Lets defs lo hi tells slots is
        → Lets defs lo hi tells slots (Mirror d n ∷ rest)
    takes : {lo hi : ℕ} {tells : ℕ → Option Ty} {slots : Slots} {rest : List Instr} (c from words n : ℕ) (es is : List Instr)
        (rs : Regions) (turned : ℕ → Option Ty) → slot slots c ≡ Turns rs
        → c < from → 0 < words → ((r : ℕ) → from ≤ r → r < from + words → IsClean (slot slots r))
        → AllTouch (Between from (from + words)) es → AllTouch (Apart c from words) is
        → ((s : ℕ) → from ≤ s → s < from + words → tells s ≡ turned s)
        → HasTurns defs turned from words es rs → Lets defs lo hi tells (put slots c empty) is
        → rest ≡ es ++ (Back (suc (length es)) ∷ is) → n ≡ suc (length es) → Lets defs lo hi tells slots (Take c from words n ∷ rest)

  -- Wherever a region of the chain comes back, the drops of a turn go well, and the region's slots name nothing then.
  pub data HasTurns (defs : List Def) : (tells : ℕ → Option Ty) → (from words : ℕ) → List Instr → Regions → Type 0 where
    last : {tells : ℕ → Option Ty} {from words : ℕ} {es : List Instr} → HasTurns defs tells from words es NoRegion
    more : {tells : ℕ → Option Ty} {from words : ℕ} {es : List Instr} {g : Region} {rs : Regions} → slots_in g ≡ words
        → ((slots : Slots) → from + words ≤ length slots → Lets defs from (from + words) tells (placed slots from g) es)
        → HasTurns defs tells from words es rs → HasTurns defs tells from words es (MoreRegions g rs)

-- ---- regions

pub long_placed : (slots : Slots) (a : ℕ) (g : Region) → length (placed slots a g) ≡ length slots
long_placed slots a NoSlot = refl
long_placed slots a (MoreSlots h g) = put_long (placed slots (suc a) g) a h ∙ long_placed slots (suc a) g

pub placed_below : (slots : Slots) (a s : ℕ) (g : Region) → s < a → slot (placed slots a g) s ≡ slot slots s
placed_below slots a s NoSlot l = refl
placed_below slots a s (MoreSlots h g) l =
    put_other (placed slots (suc a) g) a s h (λ e. absurd (omega (arith, e, l))) ∙ placed_below slots (suc a) s g (omega arith)

pub placed_above : (slots : Slots) (a : ℕ) (g : Region) (s : ℕ) → a + slots_in g ≤ s → slot (placed slots a g) s ≡ slot slots s
placed_above slots a NoSlot s l = refl
placed_above slots a (MoreSlots h g) s l =
    put_other (placed slots (suc a) g) a s h (λ e. absurd (omega (arith, e, l))) ∙ placed_above slots (suc a) g s (omega arith)

pub outside : (from words s : ℕ) → (from ≤ s → s < from + words → ⊥) → Beside from (from + words) s
outside from words s f = ⊎_elim
    (λ (l : s < from). inl l)
    (λ (l : from ≤ s). inr (⊎_elim (λ (m : s < from + words). absurd (f l m)) (λ (m : from + words ≤ s). m) (cases_lt s (from + words))))
    (cases_lt s from)

within : (from words r : ℕ) → ((from ≤ r) × (r < from + words)) ⊎ (from ≤ r → r < from + words → ⊥)
within from words r = ⊎_elim
    (λ (l : r < from). inr (λ p q. absurd (omega arith)))
    (λ (l : from ≤ r). ⊎_elim (λ (m : r < from + words). inl (l, m)) (λ (m : from + words ≤ r). inr (λ p q. absurd (omega arith)))
    (cases_lt r (from + words)))
    (cases_lt r from)

pub placed_other : (slots : Slots) (from words : ℕ) (g : Region) → slots_in g ≡ words → (s : ℕ) → (from ≤ s → s < from + words → ⊥)
    → slot (placed slots from g) s ≡ slot slots s
placed_other slots from words g sz s f = elim (outside from words s f) [
  | inl l ↦ placed_below slots from s g l
  | inr l ↦ placed_above slots from g s (omega (arith, l, sz))
]

pub region_size : (slots : Slots) (a k : ℕ) → slots_in (region slots a k) ≡ k
region_size slots a zero = refl
region_size slots a (suc k) = ap suc (region_size slots (suc a) k)

pub placed_region : (base slots : Slots) (a k s : ℕ) → a + k ≤ length base → a ≤ s → s < a + k
    → slot (placed base a (region slots a k)) s ≡ slot slots s
placed_region base slots a zero s m l lt = absurd (omega arith)
placed_region base slots a (suc k) s m l lt =
    let back = placed base (suc a) (region slots (suc a) k) in
    let long = long_placed base (suc a) (region slots (suc a) k) in
    ⊎_elim
    (λ (e : s ≡ a). subst (λ (s : ℕ). slot (put back a (slot slots a)) s ≡ slot slots s) (sym e)
    (put_same back a (slot slots a) (omega arith)))
    (λ (e : s ≡ a → ⊥). put_other back a s (slot slots a) e ∙ placed_region base slots (suc a) k s (omega arith) (omega (arith, e))
    (omega arith))
    (cases_eq s a)

pub long_cleared : (slots : Slots) (a k : ℕ) → length (cleared slots a k) ≡ length slots
long_cleared slots a zero = refl
long_cleared slots a (suc k) = put_long (cleared slots (suc a) k) a empty ∙ long_cleared slots (suc a) k

pub cleared_below : (slots : Slots) (a k s : ℕ) → s < a → slot (cleared slots a k) s ≡ slot slots s
cleared_below slots a zero s l = refl
cleared_below slots a (suc k) s l =
    put_other (cleared slots (suc a) k) a s empty (λ e. absurd (omega (arith, e, l))) ∙ cleared_below slots (suc a) k s (omega arith)

pub cleared_above : (slots : Slots) (a k s : ℕ) → a + k ≤ s → slot (cleared slots a k) s ≡ slot slots s
cleared_above slots a zero s l = refl
cleared_above slots a (suc k) s l =
    put_other (cleared slots (suc a) k) a s empty (λ e. absurd (omega (arith, e, l))) ∙ cleared_above slots (suc a) k s (omega arith)

upto : (from words hi : ℕ) → 0 < words → ((s : ℕ) → from ≤ s → s < from + words → s < hi) → from + words ≤ hi
upto from zero hi l f = absurd (omega arith)
upto from (suc words) hi l f = let a = f (from + words) (omega arith) (omega arith) in omega arith

module _ (defs : List Def) where
  -- ---- slots change that the drops don't touch

  -- Of the slots that are to name nothing in the end each is as it was, or names nothing.
  pub lets_kept : (lo hi : ℕ) (own : ℕ → Type 0) (tells tells' : ℕ → Option Ty) (slots slots' : Slots) (is : List Instr)
      → AllTouch own is → Alike own slots slots' → ((s : ℕ) → own s → slot slots' s ≡ slot slots s)
      → ((s : ℕ) → own s → tells' s ≡ tells s)
      → ((s : ℕ) → lo ≤ s → s < hi → (slot slots' s ≡ slot slots s) ⊎ IsClean (slot slots' s))
      → Lets defs lo hi tells slots is → Lets defs lo hi tells' slots' is
  lets_kept lo hi own tells tells' slots slots' is t long same kept fine (none f) =
      none (λ r p q. ⊎_elim (λ (e : slot slots' r ≡ slot slots r). clean_same (slot slots r) (slot slots' r) e (f r p q))
      (λ (c : IsClean (slot slots' r)). c) (fine r p q))
  lets_kept lo hi own tells tells' slots slots' is t long same kept fine (one {is = js} s k u e w l d) =
      one s k u (ap type_held (same s t.0) ∙ e) (kept s t.0 ∙ w) l
      (lets_kept lo hi own tells tells' (put slots s (dropped k (slot slots s))) (put slots' s (dropped k (slot slots' s))) js t.1
      (alike_put own slots slots' s (dropped k (slot slots s)) (dropped k (slot slots' s)) long)
      (λ r o. drop_alike own slots slots' s k r t.0 long (same s t.0) (same r o)) kept
      (λ r p q. ⊎_elim (λ (e : slot slots' r ≡ slot slots r). inl (drop_alike own slots slots' s k r t.0 long (same s t.0) e))
      (λ (c : IsClean (slot slots' r)). inr (drop_clean slots' s k r c)) (fine r p q)) d)
  lets_kept lo hi own tells tells' slots slots' is t long same kept fine (enters {is = js} d n e x) =
      enters d n (same d t.0 ∙ e) (lets_kept lo hi own tells tells' slots slots' js t.1 long same kept fine x)
  lets_kept lo hi own tells tells' slots slots' is t long same kept fine (passes d n skipped js e f l x) =
      passes d n skipped js (same d t.0 ∙ e) f l
      (lets_kept lo hi own tells tells' slots slots' js (touch_back own skipped js (subst (AllTouch own) f t.1)) long same kept fine x)
  lets_kept lo hi own tells tells' slots slots' is t long same kept fine (takes c from words n es js rs turned e l wl cl te tj tu ts x f
      ln) =
      takes c from words n es js rs turned (same c t.0.0 ∙ e) l wl
      (λ r p q. clean_same (slot slots r) (slot slots' r) (same r (t.0.2 r p q)) (cl r p q)) te tj
      (λ s p q. kept s (t.0.2 s p q) ∙ tu s p q) ts
      (lets_kept lo hi own tells tells' (put slots c empty) (put slots' c empty) js
      ((touch_back own es (Back (suc (length es)) ∷ js) (subst (AllTouch own) f t.1)).1)
      (alike_put own slots slots' c empty empty long)
      (λ r o. put_alike own slots slots' c r empty t.0.0 long (same r o)) kept
      (λ r p q. ⊎_elim (λ (e : slot slots' r ≡ slot slots r). inl (put_alike own slots slots' c r empty t.0.0 long e))
      (λ (g : IsClean (slot slots' r)). inr (put_clean slots' c r empty g (λ z. refl))) (fine r p q)) x) f ln

  pub lets_same : (lo hi : ℕ) (tells tells' : ℕ → Option Ty) (slots slots' : Slots) (is : List Instr) → AllTouch (Between lo hi) is
      → length slots' ≡ length slots → ((s : ℕ) → Between lo hi s → slot slots' s ≡ slot slots s)
      → ((s : ℕ) → Between lo hi s → tells' s ≡ tells s) → Lets defs lo hi tells slots is → Lets defs lo hi tells' slots' is
  lets_same lo hi tells tells' slots slots' is t long same kept x =
      lets_kept lo hi (Between lo hi) tells tells' slots slots' is t (inl long) same kept (λ r p q. inl (same r (p, q))) x

  -- nothing is named where no drops are left
  pub lets_nothing : (lo hi : ℕ) (tells : ℕ → Option Ty) (slots : Slots) → Lets defs lo hi tells slots []
      → (r : ℕ) → lo ≤ r → r < hi → IsClean (slot slots r)
  lets_nothing lo hi tells slots (none f) = f

  -- the same is told
  pub lets_told : (lo hi : ℕ) (tells tells' : ℕ → Option Ty) (slots : Slots) (is : List Instr) → ((s : ℕ) → tells' s ≡ tells s)
      → Lets defs lo hi tells slots is → Lets defs lo hi tells' slots is
  lets_told lo hi tells tells' slots is kept (none f) = none f
  lets_told lo hi tells tells' slots is kept (one {is = js} s k u e w l d) =
      one s k u e (kept s ∙ w) l (lets_told lo hi tells tells' (put slots s (dropped k (slot slots s))) js kept d)
  lets_told lo hi tells tells' slots is kept (enters {is = js} d n e x) =
      enters d n e (lets_told lo hi tells tells' slots js kept x)
  lets_told lo hi tells tells' slots is kept (passes d n skipped js e f l x) =
      passes d n skipped js e f l (lets_told lo hi tells tells' slots js kept x)
  lets_told lo hi tells tells' slots is kept (takes c from words n es js rs turned e l wl cl te tj tu ts x f ln) =
      takes c from words n es js rs turned e l wl cl te tj (λ s p q. kept s ∙ tu s p q) ts
      (lets_told lo hi tells tells' (put slots c empty) js kept x) f ln

  -- ---- one behind the other

  -- among more slots, of which the others name nothing
  pub lets_wide : (lo hi a b : ℕ) (tells : ℕ → Option Ty) (slots : Slots) (is : List Instr)
      → ((r : ℕ) → a ≤ r → r < b → Beside lo hi r → IsClean (slot slots r)) → Lets defs lo hi tells slots is
      → Lets defs a b tells slots is
  lets_wide lo hi a b tells slots is c (none f) = none (λ r p q. ⊎_elim
      (λ (l : r < lo). c r p q (inl l))
      (λ (l : lo ≤ r). ⊎_elim (λ (m : r < hi). f r l m) (λ (m : hi ≤ r). c r p q (inr m)) (cases_lt r hi))
      (cases_lt r lo))
  lets_wide lo hi a b tells slots is c (one {is = js} s k u e w l d) =
      one s k u e w l (lets_wide lo hi a b tells (put slots s (dropped k (slot slots s))) js
      (λ r p q o. drop_clean slots s k r (c r p q o)) d)
  lets_wide lo hi a b tells slots is c (enters {is = js} d n e x) = enters d n e (lets_wide lo hi a b tells slots js c x)
  lets_wide lo hi a b tells slots is c (passes d n skipped js e f l x) =
      passes d n skipped js e f l (lets_wide lo hi a b tells slots js c x)
  lets_wide lo hi a b tells slots is c (takes i from words n es js rs turned e l wl cl te tj tu ts x f ln) =
      takes i from words n es js rs turned e l wl cl te tj tu ts
      (lets_wide lo hi a b tells (put slots i empty) js (λ r p q o. put_clean slots i r empty (c r p q o) (λ z. refl)) x) f ln

  pub lets_more : (tells : ℕ → Option Ty) (slots : Slots) (lo mid hi : ℕ) (is js : List Instr) → AllTouch (Between lo mid) is
      → AllTouch (Between mid hi) js → Lets defs lo mid tells slots is → Lets defs mid hi tells slots js
      → Lets defs lo hi tells slots (is ++ js)
  lets_more tells slots lo mid hi is js t u (none f) y =
      lets_wide mid hi lo hi tells slots js (λ r p q b. ⊎_elim (λ (l : r < mid). f r p l) (λ (l : hi ≤ r). absurd (omega arith)) b) y
  lets_more tells slots lo mid hi is js t u (one {is = xs} s k v e w l d) y =
      one s k v e w l (lets_more tells (put slots s (dropped k (slot slots s))) lo mid hi xs js t.1 u d
      (lets_same mid hi tells tells slots (put slots s (dropped k (slot slots s))) js u (put_long slots s (dropped k (slot slots s)))
      (λ r b. put_other slots s r (dropped k (slot slots s)) (λ q. absurd (let m = b.0 in let n = t.0.1 in omega (arith, m, n, q))))
      (λ r b. refl) y))
  lets_more tells slots lo mid hi is js t u (enters {is = xs} d n e x) y = enters d n e (lets_more tells slots lo mid hi xs js t.1 u x y)
  lets_more tells slots lo mid hi is js t u (passes d n skipped xs e f l x) y =
      passes d n skipped (xs ++ js) e (ap (λ (zs : List Instr). zs ++ js) f ∙ append_assoc skipped xs js) l
      (lets_more tells slots lo mid hi xs js (touch_back (Between lo mid) skipped xs (subst (AllTouch (Between lo mid)) f t.1)) u x y)
  lets_more tells slots lo mid hi is js t u (takes c from words n es xs rs turned e l wl cl te tx tu ts x f ln) y =
      takes c from words n es (xs ++ js) rs turned e l wl cl te
      (touch_more (Apart c from words) xs js tx (touch_others (Between mid hi) (Apart c from words) js
      (λ s b. (
        λ e. absurd (let p = b.0 in let q = t.0.0.1 in omega (arith, p, q, e)),
        λ p q. absurd (let o = b.0 in let r = (t.0.2 s p q).1 in omega (arith, o, r)),
      )) u)) tu ts
      (lets_more tells (put slots c empty) lo mid hi xs js
      ((touch_back (Between lo mid) es (Back (suc (length es)) ∷ xs) (subst (AllTouch (Between lo mid)) f t.1)).1) u x
      (lets_same mid hi tells tells slots (put slots c empty) js u (put_long slots c empty)
      (λ r b. put_other slots c r empty (λ q. absurd (let m = b.0 in let n = t.0.0.1 in omega (arith, m, n, q)))) (λ r b. refl) y))
      (ap (λ (zs : List Instr). zs ++ js) f ∙ append_assoc es (Back (suc (length es)) ∷ xs) js) ln

  -- the references of a slot's value, of which no other may name something
  pub lets_from : (tells : ℕ → Option Ty) (slots : Slots) (s k n : ℕ) (t : Ty) (ns : List ℕ) → slot slots s ≡ Of t ns
      → s < length slots → tells s ≡ Some t → k + n ≤ count_of defs t → ((j : ℕ) → Has ns j → (k ≤ j) × (j < k + n))
      → Lets defs s (suc s) tells slots (drops_from s k n)
  lets_from tells slots s k zero t ns e in_it w l f =
      let c : (r : ℕ) → s ≤ r → r < suc s → IsClean (slot slots r) = λ r p q.
      let z : r ≡ s = omega arith in
      clean_same (Of t ns) (slot slots r) (ap (slot slots) z ∙ e) (none_has ns (λ j h. absurd (let y = f j h in omega (arith, y)))) in
      none c
  lets_from tells slots s k (suc n) t ns e in_it w l f =
      let next = put slots s (dropped k (slot slots s)) in
      let long = put_long slots s (dropped k (slot slots s)) in
      one s k t (ap type_held e) w (omega arith)
      (lets_from tells next s (suc k) n t (without k ns) (put_same slots s (dropped k (slot slots s)) in_it ∙ ap (dropped k) e)
      (omega (arith, long, in_it)) w (omega arith)
      (λ j h. let x = has_without k ns j h in let y = f j x.0 in let z = x.1 in (omega (arith, y, z), omega (arith, y))))

  pub lets_if : (lo hi : ℕ) (tells : ℕ → Option Ty) (slots : Slots) (b : Bool) (is : List Instr)
      → (b ≡ false → (r : ℕ) → lo ≤ r → r < hi → IsClean (slot slots r)) → Lets defs lo hi tells slots is
      → Lets defs lo hi tells slots (drops_if b is)
  lets_if lo hi tells slots true is c h = h
  lets_if lo hi tells slots false is c h = none (c refl)

  pub turns_add : (tells : ℕ → Option Ty) (from words : ℕ) (es : List Instr) (rs : Regions) (g : Region)
      → HasTurns defs tells from words es rs → slots_in g ≡ words
      → ((slots : Slots) → from + words ≤ length slots → Lets defs from (from + words) tells (placed slots from g) es)
      → HasTurns defs tells from words es (chained rs g)
  turns_add tells from words es rs g last e f = more e f last
  turns_add tells from words es rs g (more {g = h} {rs = rest} e' f' ts) e f = more e' f' (turns_add tells from words es rest g ts e f)

-- Each region has as many slots.
pub turns_have : (defs : List Def) (tells : ℕ → Option Ty) (from words : ℕ) (es : List Instr) (rs : Regions)
    → HasTurns defs tells from words es rs → EachHas words rs
turns_have defs tells from words es rs last = tt
turns_have defs tells from words es rs (more {rs = rest} e f ts) = (e, turns_have defs tells from words es rest ts)

pub chain_has : (words : ℕ) (h : Held) (rs : Regions) → h ≡ Turns rs → EachHas words rs → EachHas words (chain_of h)
chain_has words h rs e w = subst (λ (x : Held). EachHas words (chain_of x)) (sym e) w

-- ---- they go

module _ (s : Scope) (answer : Ty) (code : List Instr) where
  -- What goes well behind the drops of slots from one on and below another, which name nothing then; the others are as they were.
  abbrev pub Done : (n lo hi pc : ℕ) → List Instr → Slots → Type 0
  Done n lo hi pc ds slots =
      (after : Slots) → length after ≡ length slots
      → ((r : ℕ) → AllSpare r ds → type_held (slot after r) ≡ type_held (slot slots r))
      → ((r : ℕ) → Beside lo hi r → slot after r ≡ slot slots r)
      → ((r : ℕ) → lo ≤ r → r < hi → IsClean (slot after r))
      → Goes s answer code n (pc + length ds) after

  pub drops_go : (fuel n lo hi pc : ℕ) (tells : ℕ → Option Ty) (slots : Slots) (ds : List Instr) → n ≤ fuel
      → Lets s.adts lo hi tells slots ds
      → ((r : ℕ) → told code pc r ≡ tells r) → ((r : ℕ) → Quiet r ds) → AllTouch (Between lo hi) ds
      → hi ≤ length slots → HasAt code pc ds → Done n lo hi pc ds slots → Goes s answer code n pc slots
  drops_go fuel zero lo hi pc tells slots ds l d o h t m has k = tt
  drops_go zero (suc n) lo hi pc tells slots ds l d o h t m has k = absurd (omega arith)
  drops_go (suc f) (suc n) lo hi pc tells slots ds l (none c) o h t m has k =
      same_place s answer code (suc n) (pc + 0) pc slots (omega arith) (k slots refl (λ r z. refl) (λ r z. refl) c)
  drops_go (suc f) (suc n) lo hi pc tells slots ds l (one {is = is} r j u e w c d) o h t m has k =
      let gone = dropped j (slot slots r) in
      let slots1 = put slots r gone in
      let long1 = put_long slots r gone in
      goes_next s answer code n pc (suc pc) slots slots1 (Drop r j) has.0 (u, e, c) (u, e, o r ∙ w) refl
      (drops_go f n lo hi (suc pc) tells slots1 is (omega arith) d (λ d. told_same code pc d (Drop r j) has.0 refl ∙ o d) (λ d. (h d).1)
      t.1 (omega (arith, m, long1)) has.1
      (λ after long types same clean. same_place s answer code n (pc + suc (length is)) (suc pc + length is) after (omega arith)
      (shorter s answer code n (suc n) _ after (omega arith) (k after (long ∙ long1)
      (λ q z. types q z.1 ∙ put_type slots r q gone (dropped_type j (slot slots r)))
      (λ q b. same q b ∙ put_other slots r q gone
      (λ g. absurd (let x = t.0.0 in let y = t.0.1 in elim b [ inl z ↦ omega (arith, x, z, g) | inr z ↦ omega (arith, y, z, g) ])))
      clean))))
  drops_go (suc f) (suc n) lo hi pc tells slots ds l (enters {is = is} d c e x) o h t m has k =
      goes_next s answer code n pc (suc pc) slots slots (Mirror d c) has.0 (false, e) tt (ap (mirrored pc c slots) e)
      (drops_go f n lo hi (suc pc) tells slots is (omega arith) x (λ r. told_same code pc r (Mirror d c) has.0 refl ∙ o r) (λ r. (h r).1)
      t.1 m has.1
      (λ after long types same clean. same_place s answer code n (pc + suc (length is)) (suc pc + length is) after (omega arith)
      (shorter s answer code n (suc n) _ after (omega arith) (k after long (λ r z. types r z.1) same clean))))
  drops_go (suc f) (suc n) lo hi pc tells slots ds l (passes {rest = body} d c skipped is e g ln x) o h t m has k =
      let has1 = subst (HasAt code (suc pc)) g has.1 in
      let h1 = has_back code (suc pc) skipped is has1 in
      let u = touch_back (Between lo hi) skipped is (subst (AllTouch (Between lo hi)) g t.1) in
      let a : length body ≡ length skipped + length is = ap length g ∙ length-append skipped is in
      let quiet : (r : ℕ) → Quiet r (skipped ++ is) = λ r. subst (Quiet r) g (h r).1 in
      goes_next s answer code n pc (suc pc + c) slots slots (Mirror d c) has.0 (true, e) tt (ap (mirrored pc c slots) e)
      (same_place s answer code n (suc pc + length skipped) (suc pc + c) slots (omega arith)
      (drops_go f n lo hi (suc pc + length skipped) tells slots is (omega arith) x
      (λ r. told_over code (suc pc) r skipped (has_front code (suc pc) skipped is has1) (quiet_front r skipped is (quiet r))
      ∙ told_same code pc r (Mirror d c) has.0 refl ∙ o r) (λ r. quiet_back r skipped is (quiet r)) u m h1
      (λ after long types same clean. same_place s answer code n (pc + suc (length body)) (suc pc + length skipped + length is) after
      (omega arith)
      (shorter s answer code n (suc n) _ after (omega arith)
      (k after long (λ r z. types r (spare_tail r skipped is (subst (AllSpare r) g z.1))) same clean)))))
  drops_go (suc f) (suc n) lo hi pc tells slots ds l (takes {rest = body} c from words p es is NoRegion turned e lt wl cl te tj tu last x g
      ln) o h t m has k =
      let slots1 = put slots c empty in
      let back = Back (suc (length es)) in
      let has1 = subst (HasAt code (suc pc)) g has.1 in
      let h1 = has_back code (suc pc) es (back ∷ is) has1 in
      let u = touch_back (Between lo hi) es (back ∷ is) (subst (AllTouch (Between lo hi)) g t.1) in
      let a : length body ≡ length es + suc (length is) = ap length g ∙ length-append es (back ∷ is) in
      let quiet : (r : ℕ) → Quiet r (es ++ (back ∷ is)) = λ r. subst (Quiet r) g (h r).1 in
      goes_next s answer code n pc (suc pc + p) slots slots1 (Take c from words p) has.0 ((NoRegion, e), cl)
      (lt, wl, chain_has words (slot slots c) NoRegion e tt)
      (ap (λ (h : Held). taken pc p slots c from (chain_of h)) e)
      (same_place s answer code n (suc (suc pc + length es)) (suc pc + p) slots1 (omega arith)
      (drops_go f n lo hi (suc (suc pc + length es)) tells slots1 is (omega arith) x
      (λ r. told_same code (suc pc + length es) r back h1.0 refl
      ∙ told_over code (suc pc) r es (has_front code (suc pc) es (back ∷ is) has1) (quiet_front r es (back ∷ is) (quiet r))
      ∙ told_same code pc r (Take c from words p) has.0 refl ∙ o r) (λ r. (quiet_back r es (back ∷ is) (quiet r)).1) u.1
      (let y = put_long slots c empty in omega arith) h1.1
      (λ after long types same clean. same_place s answer code n (pc + suc (length body)) (suc (suc pc + length es) + length is) after
      (omega arith)
      (shorter s answer code n (suc n) _ after (omega arith)
      (k after (long ∙ put_long slots c empty)
      (λ r z. types r (spare_tail r es (back ∷ is) (subst (AllSpare r) g z.1)).1 ∙ ap type_held (put_other slots c r empty z.0.0))
      (λ r b. same r b ∙ put_other slots c r empty
      (λ q. absurd (let y = t.0.0 in elim b [ inl z ↦ omega (arith, y, z, q) | inr z ↦ omega (arith, y, z, q) ])))
      clean)))))
  drops_go (suc f) (suc n) lo hi pc tells slots ds l (takes {rest = body} c from words p es is (MoreRegions y rs) turned e lt wl cl te tj tu
      (more sz fs ts) x g ln) o h t m has k =
      let back = placed slots from y in
      let slots1 = put back c (Turns rs) in
      let way = Back (suc (length es)) in
      let c_in : c < length slots = let b = t.0.0 in omega (arith, b.1, m) in
      let top : from + words ≤ hi = upto from words hi wl (λ s p q. (t.0.2 s p q).1) in
      let long_back = long_placed slots from y in
      let long1 : length slots1 ≡ length slots = put_long back c (Turns rs) ∙ long_back in
      let has_es = subst (HasAt code (suc pc)) g has.1 in
      let h1 = has_back code (suc pc) es (way ∷ is) has_es in
      let quiet : (r : ℕ) → Quiet r (es ++ (way ∷ is)) = λ r. subst (Quiet r) g (h r).1 in
      let inner : Lets s.adts from (from + words) tells slots1 es = lets_same s.adts from (from + words) turned tells back slots1 es te
      (put_long back c (Turns rs))
      (λ s b. put_other back c s (Turns rs) (λ q. absurd (let r = b.0 in omega (arith, q, r, lt)))) (λ s b. tu s b.0 b.1)
      (fs slots (omega arith)) in
      goes_next s answer code n pc (suc pc) slots slots1 (Take c from words p) has.0 ((MoreRegions y rs, e), cl)
      (lt, wl, chain_has words (slot slots c) (MoreRegions y rs) e (sz, turns_have s.adts turned from words es rs ts))
      (ap (λ (h : Held). taken pc p slots c from (chain_of h)) e)
      (drops_go f n from (from + words) (suc pc) tells slots1 es (omega arith) inner
      (λ r. told_same code pc r (Take c from words p) has.0 refl ∙ o r) (λ r. quiet_front r es (way ∷ is) (quiet r)) te (omega arith)
      (has_front code (suc pc) es (way ∷ is) has_es)
      (λ slots2 long types same cl2.
      let long2 : length slots2 ≡ length slots = long ∙ long1 in
      let same2 : (r : ℕ) → Apart c from words r → slot slots2 r ≡ slot slots r = λ r b.
      same r (outside from words r b.1) ∙ put_other back c r (Turns rs) b.0 ∙ placed_other slots from words y sz r b.1 in
      let here : slot slots2 c ≡ Turns rs = same c (inl lt) ∙ put_same back c (Turns rs) (omega arith) in
      let away : (r : ℕ) → Beside lo hi r → Apart c from words r = λ r b. (
        λ q. absurd (let y = t.0.0 in elim b [ inl z ↦ omega (arith, y, z, q) | inr z ↦ omega (arith, y, z, q) ]),
        λ u v. absurd (let y = t.0.2 r u v in elim b [ inl z ↦ omega (arith, y, z) | inr z ↦ omega (arith, y, z) ]),
      ) in
      let again : Lets s.adts lo hi tells (put slots2 c empty) is =
      lets_kept s.adts lo hi (Apart c from words) tells tells (put slots c empty) (put slots2 c empty) is tj
      (inl (put_long slots2 c empty ∙ long2 ∙ sym (put_long slots c empty))) (λ r b. put_equal slots slots2 c r empty long2 (same2 r b))
      (λ r b. refl)
      (λ r u v. ⊎_elim
      (λ (q : r ≡ c). inl (ap (slot (put slots2 c empty)) q ∙ put_same slots2 c empty (omega (arith, c_in, long2))
      ∙ sym (put_same slots c empty c_in) ∙ ap (slot (put slots c empty)) (sym q)))
      (λ (q : r ≡ c → ⊥). elim (within from words r) [
        | inl b ↦ inr (put_clean slots2 c r empty (cl2 r b.0 b.1) (λ z. refl))
        | inr b ↦ inl (put_equal slots slots2 c r empty long2 (same2 r (q, b)))
      ])
      (cases_eq r c)) x in
      goes_back s answer code n (suc pc + length es) pc (suc (length es)) slots2 h1.0 (omega arith)
      (λ j lj. drops_go f j lo hi pc tells slots2 (Take c from words p ∷ body) (omega arith)
      (takes c from words p es is rs turned here lt wl cl2 te tj tu ts again g ln)
      o h t (omega arith) has
      (λ slots3 long3 types3 same3 clean3. shorter s answer code j (suc n) _ slots3 (omega arith)
      (k slots3 (long3 ∙ long2) (λ r z. types3 r z ∙ ap type_held (same2 r z.0)) (λ r b. same3 r b ∙ same2 r (away r b)) clean3)))))
