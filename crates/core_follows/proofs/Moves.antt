-- Drops of references that moved into another slot.
use Rattle.std.proofs.Common.{◌≡◌, ℕ, suc, ◌+◌, ◌-◌, ◌<◌, ◌≤◌, Bool, true, false, ◌&&◌, List, [], ◌∷◌, ◌++◌, length, Option}
use Rattle.std.proofs.Common.{refl, sym, ap, subst, ◌∙◌, arith, inl, inr, ⊎_elim, ◌⊎◌}
use Rattle.std.proofs.lemmas.Bool.{eq-eqb, eqb-true, cases_eq, ltb-true, ltb-false, leb-true, leb-false}
use Rattle.std.specs.Prelude.{nat_eq, nat_le, nat_lt, if◌then◌else◌}
use Rattle.core_code.specs.Slots.{Slots, slot}
use Rattle.core_code.specs.Code.{Instr, Drop, Back}
use Rattle.core_code.specs.Naming.{reference}
use Rattle.core_code.specs.Terms.{Moved, is_moved, drop_after, drops_after}
use Rattle.core_follows.specs.Drops as drops
use Rattle.core_follows.specs.Drops.{Clean, Between, Apart, Touches, AllTouch, Misses, AllMiss, Spares, AllSpare, Dropping, none}
use Rattle.core_follows.specs.Drops.{enters, passes, takes}
use Rattle.core_follows.proofs.Slots.{clean_same}
use Rattle.core_follows.proofs.Static.{after_touch}

-- Only references of a slot below this number are dropped.
abbrev pub Under : (s b : ℕ) → Instr → Type 0
Under s b (Drop r j) = r ≡ s → j < b
Under s b i = Unit {0}

abbrev pub AllUnder : (s b : ℕ) → List Instr → Type 0
AllUnder s b [] = Unit {0}
AllUnder s b (i ∷ is) = Under s b i × AllUnder s b is

-- ---- whether a reference moved

pub record IsMoved (v : Moved) (s k : ℕ) : Type 0 where
  pub is : is_moved v s k ≡ true
  pub slot : v.slot ≡ s
  pub from : v.first ≤ k
  pub to : k < v.first + v.count

pub record IsNotMoved (v : Moved) (s k : ℕ) : Type 0 where
  pub is : is_moved v s k ≡ false
  pub apart : v.slot ≡ s → (k < v.first) ⊎ (v.first + v.count ≤ k)

is_by : (v : Moved) (s k : ℕ) (a b c : Bool) → nat_eq v.slot s ≡ a → nat_le v.first k ≡ b → nat_lt k (v.first + v.count) ≡ c
    → is_moved v s k ≡ (a && (b && c))
is_by v s k a b c e f g =
    ap (λ (x : Bool). x && (nat_le v.first k && nat_lt k (v.first + v.count))) e
    ∙ ap (λ (x : Bool). a && (x && nat_lt k (v.first + v.count))) f ∙ ap (λ (x : Bool). a && (b && x)) g

moved_by : (v : Moved) (s k : ℕ) (a b c : Bool) → nat_eq v.slot s ≡ a → nat_le v.first k ≡ b → nat_lt k (v.first + v.count) ≡ c
    → IsMoved v s k ⊎ IsNotMoved v s k
moved_by v s k true true true e f g = inl (record {
  is = is_by v s k true true true e f g;
  slot = eqb-true v.slot s e;
  from = leb-true v.first k f;
  to = ltb-true k (v.first + v.count) g;
})
moved_by v s k true true false e f g = inr (record {
  is = is_by v s k true true false e f g;
  apart = λ q. inr (ltb-false k (v.first + v.count) g);
})
moved_by v s k true false c e f g = inr (record { is = is_by v s k true false c e f g; apart = λ q. inl (leb-false v.first k f) })
moved_by v s k false b c e f g = inr (record {
  is = is_by v s k false b c e f g;
  apart = λ q. absurd (let x : false ≡ true = sym e ∙ eq-eqb v.slot s q in cc);
})

pub moved_or : (v : Moved) (s k : ℕ) → IsMoved v s k ⊎ IsNotMoved v s k
moved_or v s k = moved_by v s k (nat_eq v.slot s) (nat_le v.first k) (nat_lt k (v.first + v.count)) refl refl refl

pub to_moved : (v : Moved) (s k : ℕ) → is_moved v s k ≡ true → drop_after v (Drop s k) ≡ Drop v.into (v.at + (k - v.first))
to_moved v s k e = ap (λ (b : Bool). if b then Drop v.into (v.at + (k - v.first)) else Drop s k) e

pub to_same : (v : Moved) (s k : ℕ) → is_moved v s k ≡ false → drop_after v (Drop s k) ≡ Drop s k
to_same v s k e = ap (λ (b : Bool). if b then Drop v.into (v.at + (k - v.first)) else Drop s k) e

-- ---- the others

pub after_more : (v : Moved) (is js : List Instr) → drops_after v (is ++ js) ≡ drops_after v is ++ drops_after v js
after_more v [] js = refl
after_more v (i ∷ is) js = ap (λ (xs : List Instr). drop_after v i ∷ xs) (after_more v is js)

pub after_long : (v : Moved) (is : List Instr) → length (drops_after v is) ≡ length is
after_long v [] = refl
after_long v (i ∷ is) = ap suc (after_long v is)

pub after_apart : (v : Moved) (a b : ℕ) (is : List Instr) → (a ≤ v.slot → v.slot < b → ⊥) → AllTouch (Between a b) is → drops_after v is ≡ is
after_apart v a b [] f t = refl
after_apart v a b (i ∷ is) f t = ap (λ (j : Instr). j ∷ drops_after v is) (one i t.0) ∙ ap (λ (js : List Instr). i ∷ js)
    (after_apart v a b is f t.1)
  where
    one : (i : Instr) → Touches (Between a b) i → drop_after v i ≡ i
    one (Drop s k) t = ⊎_elim
        (λ (m : IsMoved v s k). absurd (let q = m.slot in let x = t.0 in let y = t.1 in f (omega (arith, q, x)) (omega (arith, q, y))))
        (λ (m : IsNotMoved v s k). to_same v s k m.is)
        (moved_or v s k)
    one _ t = refl

-- what moved misses what it missed
miss_moved : (v : Moved) (s k : ℕ) (is : List Instr) → IsMoved v s k → AllUnder v.into v.at is → AllMiss s k is
    → AllMiss v.into (v.at + (k - v.first)) (drops_after v is)
miss_moved v s k [] m u h = tt
miss_moved v s k (i ∷ is) m u h = (one i u.0 h.0, miss_moved v s k is m u.1 h.1)
  where
    one : (i : Instr) → Under v.into v.at i → Misses s k i → Misses v.into (v.at + (k - v.first)) (drop_after v i)
    one (Drop r j) u h = ⊎_elim
        (λ (n : IsMoved v r j). subst (Misses v.into (v.at + (k - v.first))) (sym (to_moved v r j n.is))
        (λ e f. absurd (h (sym n.slot ∙ m.slot) (let a = m.from in let b = n.from in omega (arith, a, b, f)))))
        (λ (n : IsNotMoved v r j). subst (Misses v.into (v.at + (k - v.first))) (sym (to_same v r j n.is))
        (λ e f. absurd (let a = u e in omega (arith, a, f))))
        (moved_or v r j)
    one _ u h = tt

miss_same : (v : Moved) (s k : ℕ) (is : List Instr) → (s ≡ v.into → k < v.at) → AllMiss s k is → AllMiss s k (drops_after v is)
miss_same v s k [] u h = tt
miss_same v s k (i ∷ is) u h = (one i h.0, miss_same v s k is u h.1)
  where
    one : (i : Instr) → Misses s k i → Misses s k (drop_after v i)
    one (Drop r j) h = ⊎_elim
        (λ (n : IsMoved v r j). subst (Misses s k) (sym (to_moved v r j n.is)) (λ e f. absurd (let a = u (sym e) in omega (arith, a, f))))
        (λ (n : IsNotMoved v r j). subst (Misses s k) (sym (to_same v r j n.is)) h)
        (moved_or v r j)
    one _ h = tt

pub spare_tail : (s : ℕ) (is js : List Instr) → AllSpare s (is ++ js) → AllSpare s js
spare_tail s [] js h = h
spare_tail s (i ∷ is) js h = spare_tail s is js h.1

under_tail : (s b : ℕ) (is js : List Instr) → AllUnder s b (is ++ js) → AllUnder s b js
under_tail s b [] js h = h
under_tail s b (i ∷ is) js h = under_tail s b is js h.1

-- ---- the drops let go the same, where references are that moved

pub record Goes_over (v : Moved) (slots slots' : Slots) : Type 0 where
  pub moved : (k : ℕ) → v.first ≤ k → k < v.first + v.count → reference (v.at + (k - v.first)) (slot slots' v.into) ≡ reference k
      (slot slots v.slot)
  pub left : (k : ℕ) → (k < v.first) ⊎ (v.first + v.count ≤ k) → reference k (slot slots' v.slot) ≡ reference k (slot slots v.slot)
  pub others : (d : ℕ) → (d ≡ v.slot → ⊥) → (d ≡ v.into → ⊥) → slot slots' d ≡ slot slots d
  pub below : (j : ℕ) → j < v.at → reference j (slot slots' v.into) ≡ reference j (slot slots v.into)
  pub apart : v.into ≡ v.slot → ⊥

unmoved : (v : Moved) (slots slots' : Slots) (s k : ℕ) → Goes_over v slots slots' → IsNotMoved v s k → (s ≡ v.into → k < v.at)
    → reference k (slot slots' s) ≡ reference k (slot slots s)
unmoved v slots slots' s k g m u = ⊎_elim
    (λ (e : s ≡ v.slot). subst (λ (r : ℕ). reference k (slot slots' r) ≡ reference k (slot slots r)) (sym e) (g.left k (m.apart (sym e))))
    (λ (e : s ≡ v.slot → ⊥). ⊎_elim
    (λ (f : s ≡ v.into). subst (λ (r : ℕ). reference k (slot slots' r) ≡ reference k (slot slots r)) (sym f) (g.below k (u f)))
    (λ (f : s ≡ v.into → ⊥). ap (reference k) (g.others s e f))
    (cases_eq s v.into))
    (cases_eq s v.slot)

pub move_dropping : (v : Moved) (slots slots' : Slots) (ds : List Instr) (got : List (Option ℕ)) → Goes_over v slots slots'
    → AllUnder v.into v.at ds
    → AllSpare v.slot ds → AllSpare v.into ds → Dropping slots ds got → Dropping slots' (drops_after v ds) got
move_dropping v slots slots' ds got g u sp si none = none
move_dropping v slots slots' ds got g u sp si (drops.one {is = is} {held = rest} s k r e m d) =
    let next = move_dropping v slots slots' is rest g u.1 sp.1 si.1 d in
    ⊎_elim
    (λ (n : IsMoved v s k). subst (λ (i : Instr). Dropping slots' (i ∷ drops_after v is) (r ∷ rest)) (sym (to_moved v s k n.is))
    (drops.one v.into (v.at + (k - v.first)) r
    (g.moved k n.from n.to ∙ subst (λ (q : ℕ). reference k (slot slots q) ≡ r) (sym n.slot) e) (miss_moved v s k is n u.1 m) next))
    (λ (n : IsNotMoved v s k). subst (λ (i : Instr). Dropping slots' (i ∷ drops_after v is) (r ∷ rest)) (sym (to_same v s k n.is))
    (drops.one s k r (unmoved v slots slots' s k g n u.0 ∙ e) (miss_same v s k is u.0 m) next))
    (moved_or v s k)
move_dropping v slots slots' ds got g u sp si (enters {is = is} {held = rest} d n e x) =
    enters d n (g.others d (λ q. sp.0 (sym q)) (λ q. si.0 (sym q)) ∙ e) (move_dropping v slots slots' is rest g u.1 sp.1 si.1 x)
move_dropping v slots slots' ds got g u sp si (passes {rest = body} {held = rest} d n skipped is e f l x) =
    passes d n (drops_after v skipped) (drops_after v is) (g.others d (λ q. sp.0 (sym q)) (λ q. si.0 (sym q)) ∙ e)
    (ap (drops_after v) f ∙ after_more v skipped is) (l ∙ sym (after_long v skipped))
    (move_dropping v slots slots' is rest g (under_tail v.into v.at skipped is (subst (AllUnder v.into v.at) f u.1))
    (spare_tail v.slot skipped is (subst (AllSpare v.slot) f sp.1)) (spare_tail v.into skipped is (subst (AllSpare v.into) f si.1)) x)
move_dropping v slots slots' ds got g u sp si (takes {rest = body} c from words n i es is rs turned later e l wl cl te tj ts x f ln h) =
    let same_es = after_apart v from (from + words) es (λ p q. sp.0.1 p q) te in
    let back = Back (suc (length es)) ∷ is in
    takes c from words n i es (drops_after v is) rs turned later (g.others c (λ q. sp.0.0 (sym q)) (λ q. si.0.0 (sym q)) ∙ e) l wl
    (clean_same slots slots' from (from + words)
    (λ s p q. g.others s (λ r. sp.0.1 (omega (arith, r, p)) (omega (arith, r, q))) (λ r. si.0.1 (omega (arith, r, p)) (omega (arith, r, q))))
    cl)
    te (after_touch (Apart c from words) v is si.0 tj) ts
    (move_dropping v slots slots' is later g ((under_tail v.into v.at es back (subst (AllUnder v.into v.at) f u.1)).1)
    ((spare_tail v.slot es back (subst (AllSpare v.slot) f sp.1)).1) ((spare_tail v.into es back (subst (AllSpare v.into) f si.1)).1) x)
    (ap (drops_after v) f ∙ after_more v es back ∙ ap (λ (xs : List Instr). xs ++ drops_after v back) same_es) ln h
