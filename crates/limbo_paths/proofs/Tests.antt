-- What the tests on heads, types and jumps say.
use Rattle.std.proofs.Common.{◌≡◌, ℕ, zero, suc, ◌<◌, ◌⊎◌, inl, inr, Bool, true, false, not, ◌&&◌, ◌||◌, nat_eq, List, [], ◌∷◌, Option, None, Some, slice_get, refl, sym, ap, subst, arith}
use Rattle.std.proofs.lemmas.Bool.Decides.{nat_tests}
use Rattle.limbo_types.specs.Types.{Ty, RefAdt, RefPick}
use Rattle.limbo_layout.specs.Adts.{Def, Has}
use Rattle.limbo_forms.specs.Forms.{ref_of}
use Rattle.limbo_typed.specs.declared.stmt.CasePattern.{CasePattern}
use Rattle.limbo_typed.specs.declared.stmt.CasePattern.TheVariants as case
use Rattle.limbo_typed.specs.Fitting.{IsRefOf}
use Rattle.limbo_typed.specs.Typed.{PickHead}
use Rattle.limbo_paths.specs.declared.jumps.Jump.{Jump}
use Rattle.limbo_paths.specs.declared.jumps.Jump.TheVariants as jump
use Rattle.limbo_paths.specs.Paths.{IsJump, outward, TakesRest, Takes, HasVariant}
use Rattle.limbo_paths.specs.Walking.{way, has_star, takes_rest, has_number, is_none, takes, takes_each, picks_of, variants}

pub or_split : (a b : Bool) → (a || b) ≡ true → (a ≡ true) ⊎ (b ≡ true)
or_split true b h = inl refl
or_split false b h = inr h

pub or_left : (a b : Bool) → a ≡ true → (a || b) ≡ true
or_left true b h = refl
or_left false b h = absurd cc

pub or_right : (a b : Bool) → b ≡ true → (a || b) ≡ true
or_right true b h = refl
or_right false b h = h

pub and_split : (a b : Bool) → (a && b) ≡ true → (a ≡ true) × (b ≡ true)
and_split true b h = (refl, h)
and_split false b h = absurd cc

pub and_join : (a b : Bool) → a ≡ true → b ≡ true → (a && b) ≡ true
and_join true b h k = k
and_join false b h k = absurd cc

pub not_false : (a : Bool) → (a ≡ true → ⊥) → not a ≡ true
not_false true h = absurd (h refl)
not_false false h = refl

pub not_true : (a : Bool) → not a ≡ true → a ≡ true → ⊥
not_true true h k = absurd cc
not_true false h k = absurd cc

pub same_number : (m n : ℕ) → nat_eq m n ≡ true → m ≡ n
same_number m n h = grind (arith, nat_tests)

pub number_same : (n : ℕ) → nat_eq n n ≡ true
number_same n = grind (arith, nat_tests)

-- ---- jumps

pub out : (j : Jump) (n : ℕ) → outward (way j (suc n)) ≡ Some (way j n)
out jump.Break n = refl
out jump.Continue n = refl

pub is_jump : (j : Jump) (n : ℕ) → IsJump (way j n)
is_jump jump.Break n = tt
is_jump jump.Continue n = tt

-- ---- heads

star_sound : (ps : List CasePattern) → has_star ps ≡ true → Has ps case.Any
star_sound [] h = absurd cc
star_sound (case.One c ∷ ps) h = inr (star_sound ps h)
star_sound (case.Range c d ∷ ps) h = inr (star_sound ps h)
star_sound (case.Any ∷ ps) h = inl refl

star_whole : (ps : List CasePattern) → Has ps case.Any → has_star ps ≡ true
star_whole [] h = absurd h
star_whole (case.One c ∷ ps) (inl e) = absurd cc
star_whole (case.One c ∷ ps) (inr h) = star_whole ps h
star_whole (case.Range c d ∷ ps) (inl e) = absurd cc
star_whole (case.Range c d ∷ ps) (inr h) = star_whole ps h
star_whole (case.Any ∷ ps) h = refl

pub rest_sound : (heads : List (List CasePattern)) → takes_rest heads ≡ true → TakesRest heads
rest_sound [] h = absurd cc
rest_sound (ps ∷ heads) h = elim (or_split (has_star ps) (takes_rest heads) h) [
  | inl a ↦ record { head = ps; there = inl refl; any = star_sound ps a }
  | inr b ↦ let t = rest_sound heads b in record { head = t.head; there = inr t.there; any = t.any }
]

rest_there : (heads : List (List CasePattern)) (ps : List CasePattern) → Has heads ps → Has ps case.Any → takes_rest heads ≡ true
rest_there [] ps h k = absurd h
rest_there (qs ∷ heads) ps (inl e) k = or_left (has_star qs) (takes_rest heads) (star_whole qs (subst (λ (z : List CasePattern). Has z case.Any) (sym e) k))
rest_there (qs ∷ heads) ps (inr h) k = or_right (has_star qs) (takes_rest heads) (rest_there heads ps h k)

pub rest_whole : (heads : List (List CasePattern)) → TakesRest heads → takes_rest heads ≡ true
rest_whole heads t = rest_there heads t.head t.there t.any

number_sound : (v : ℕ) (ns : List ℕ) → has_number v ns ≡ true → Has ns v
number_sound v [] h = absurd cc
number_sound v (n ∷ ns) h = elim (or_split (nat_eq n v) (has_number v ns) h) [
  | inl a ↦ inl (same_number n v a)
  | inr b ↦ inr (number_sound v ns b)
]

number_whole : (v : ℕ) (ns : List ℕ) → Has ns v → has_number v ns ≡ true
number_whole v [] h = absurd h
number_whole v (n ∷ ns) (inl e) = or_left (nat_eq n v) (has_number v ns) (subst (λ (z : ℕ). nat_eq n z ≡ true) e (number_same n))
number_whole v (n ∷ ns) (inr h) = or_right (nat_eq n v) (has_number v ns) (number_whole v ns h)

none_is : (ns : List ℕ) → is_none ns ≡ true → ns ≡ []
none_is [] h = refl
none_is (n ∷ ns) h = absurd cc

is_named : (v : ℕ) (ns : List ℕ) → (ns ≡ []) ⊎ Has ns v → (is_none ns || has_number v ns) ≡ true
is_named v [] h = refl
is_named v (n ∷ ns) (inl e) = absurd cc
is_named v (n ∷ ns) (inr h) = number_whole v (n ∷ ns) h

pub takes_sound : (v : ℕ) (heads : List PickHead) → takes v heads ≡ true → Takes heads v
takes_sound v [] h = absurd cc
takes_sound v (p ∷ heads) h = elim (or_split (is_none p.variants || has_number v p.variants) (takes v heads) h) [
  | inl a ↦ record {
    head = p;
    there = inl refl;
    named = elim (or_split (is_none p.variants) (has_number v p.variants) a) [ inl n ↦ inl (none_is p.variants n) | inr n ↦ inr (number_sound v p.variants n) ];
  }
  | inr b ↦ let t = takes_sound v heads b in record { head = t.head; there = inr t.there; named = t.named }
]

takes_there : (v : ℕ) (heads : List PickHead) (p : PickHead) → Has heads p → (p.variants ≡ []) ⊎ Has p.variants v → takes v heads ≡ true
takes_there v [] p h k = absurd h
takes_there v (q ∷ heads) p (inl e) k =
    or_left (is_none q.variants || has_number v q.variants) (takes v heads)
    (is_named v q.variants (subst (λ (z : PickHead). (z.variants ≡ []) ⊎ Has z.variants v) (sym e) k))
takes_there v (q ∷ heads) p (inr h) k = or_right (is_none q.variants || has_number v q.variants) (takes v heads) (takes_there v heads p h k)

pub takes_whole : (v : ℕ) (heads : List PickHead) → Takes heads v → takes v heads ≡ true
takes_whole v heads t = takes_there v heads t.head t.there t.named

-- a variant that no arm takes, if not all are taken
pub each_missed : (n : ℕ) (heads : List PickHead) → takes_each n heads ≡ false → (v : ℕ) × (v < n) × (takes v heads ≡ true → ⊥)
each_missed zero heads h = absurd cc
each_missed (suc n) heads h = go (λ e. each_missed n heads e) (takes_each n heads) (takes n heads) refl refl h where
  go : (takes_each n heads ≡ false → (v : ℕ) × (v < n) × (takes v heads ≡ true → ⊥)) → (a b : Bool) → takes_each n heads ≡ a → takes n heads ≡ b → (a && b) ≡ false → (v : ℕ) × (v < suc n) × (takes v heads ≡ true → ⊥)
  go before false b e f k = let m = before e in (m.0, omega arith, m.2)
  go before true false e f k = (n, omega arith, λ t. absurd cc)
  go before true true e f k = absurd cc

pub each_taken : (n : ℕ) (heads : List PickHead) → takes_each n heads ≡ true → (v : ℕ) → v < n → takes v heads ≡ true
each_taken zero heads h v l = absurd (omega arith)
each_taken (suc n) heads h v l =
    let s = and_split (takes_each n heads) (takes n heads) h in
    elim (at_or v n l) [ inl below ↦ each_taken n heads s.0 v below | inr e ↦ subst (λ (z : ℕ). takes z heads ≡ true) (sym e) s.1 ] where
      at_or : (v n : ℕ) → v < suc n → (v < n) ⊎ (v ≡ n)
      at_or v n h = grind arith

pub not_each : (n : ℕ) (heads : List PickHead) (v : ℕ) → v < n → takes v heads ≡ false → false ≡ takes_each n heads
not_each n heads v l h = go (takes_each n heads) refl where
  go : (b : Bool) → takes_each n heads ≡ b → false ≡ b
  go false e = refl
  go true e = let t = each_taken n heads e v l in absurd cc

-- ---- variants

by_ref : (defs : List Def) (t : Ty) (o : Option Def) (n v : ℕ) → IsRefOf n t → slice_get defs n ≡ o → v < picks_of o → HasVariant defs t v
by_ref defs t None n v r e l = absurd (omega arith)
by_ref defs t (Some d) n v r e l = record { adt = n; of = r; def = d; there = e; below = l }

pub variant_sound : (defs : List Def) (t : Ty) (v : ℕ) → v < variants defs t → HasVariant defs t v
variant_sound defs (RefAdt n) v l = by_ref defs (RefAdt n) (slice_get defs n) n v refl refl l
variant_sound defs (RefPick n w) v l = by_ref defs (RefPick n w) (slice_get defs n) n v refl refl l
variant_sound defs t v l = absurd (omega arith)

ref_is : (n : ℕ) (t : Ty) → IsRefOf n t → ref_of t ≡ Some n
ref_is n (RefAdt m) h = ap Some h
ref_is n (RefPick m w) h = ap Some h
ref_is n t h = absurd h

pub variant_whole : (defs : List Def) (t : Ty) (v : ℕ) → HasVariant defs t v → v < variants defs t
variant_whole defs t v h = rw (ref_is h.adt t h.of, h.there) h.below
