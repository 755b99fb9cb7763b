-- Words that name a block, and lists of values that name a value.
use Rattle.std.proofs.Common.{◌≡◌, ℕ, zero, suc, ◌<◌, Bool, true, false, List, [], ◌∷◌, Some, None, refl, ap, subst, arith, inl, inr}
use Rattle.std.proofs.lemmas.Bool.{eqb-true}
use Rattle.std.specs.Prelude.{nat_eq, slice_get, if◌then◌else◌}
use Rattle.limbo_meaning.specs.Values.{Value, references, references_in}
use Rattle.limbo_meaning.specs.Origins.{Name}
use Rattle.limbo_meaning.proofs.Names.{none, either, left, right}
use Rattle.dis_meaning.specs.Words.{Word, Plain, Refer, Address}
use Rattle.dis_meaning.specs.Counts.{refers, in_words}
use Rattle.value_words.proofs.Covered.{same_names}

pub refers_it : (q : ℕ) → refers q (Refer (Some q)) ≡ 1
refers_it q = ap (λ (b : Bool). if b then 1 else 0) (same_names q)

pub named_by : (words : List Word) (w q : ℕ) → slice_get words w ≡ Some (Refer (Some q)) → 0 < in_words q words
named_by [] w q e = absurd cc
named_by (x ∷ words) zero q e =
    let f : refers q x ≡ refers q (Refer (Some q)) = let g : x ≡ Refer (Some q) = cc in ap (refers q) g in
    let h = refers_it q in
    omega arith
named_by (x ∷ words) (suc w) q e = let f = named_by words w q e in omega arith

refers_to : (q : ℕ) (x : Word) → 0 < refers q x → x ≡ Refer (Some q)
refers_to q (Plain z) h = absurd (omega (arith, h))
refers_to q (Address p z) h = absurd (omega (arith, h))
refers_to q (Refer None) h = absurd (omega (arith, h))
refers_to q (Refer (Some n)) h = go (nat_eq n q) refl h
  where
    go : (b : Bool) → nat_eq n q ≡ b → 0 < (if b then 1 else 0) → Refer (Some n) ≡ Refer (Some q)
    go true e h = ap (λ k. Refer (Some k)) (eqb-true n q e)
    go false e h = absurd (omega (arith, h))

pub named_where : (words : List Word) (q : ℕ) → 0 < in_words q words → (w : ℕ) × (slice_get words w ≡ Some (Refer (Some q)))
named_where [] q h = absurd (omega (arith, h))
named_where (x ∷ words) q h = go (refers q x) refl (named_where words q)
  where
    go : (k : ℕ) → refers q x ≡ k → (0 < in_words q words → (w : ℕ) × (slice_get words w ≡ Some (Refer (Some q))))
        → (w : ℕ) × (slice_get (x ∷ words) w ≡ Some (Refer (Some q)))
    go (suc k) e rest = (0, ap Some (refers_to q x (omega arith)))
    go zero e rest = let i = rest (omega arith) in (suc i.0, i.1)

-- A value of these that names one.
pub record SomeNames (vs : List Value) (m : ℕ) : Type 0 where
  pub number : ℕ
  pub value : Value
  pub there : slice_get vs number ≡ Some value
  pub names : Name (references value) m

pub some_names : (vs : List Value) (m : ℕ) → Name (references_in vs) m → SomeNames vs m
some_names [] m h = none m h
some_names (v ∷ vs) m h = elim (either (references v) (references_in vs) m h) [
  | inl i ↦ record { number = 0; value = v; there = refl; names = i }
  | inr i ↦ let s = some_names vs m i in record { number = suc s.number; value = s.value; there = s.there; names = s.names }
]

-- So does a list that has such a value.
pub names_among : (vs : List Value) (i : ℕ) (v : Value) (m : ℕ) → slice_get vs i ≡ Some v → Name (references v) m
    → Name (references_in vs) m
names_among [] i v m e h = absurd cc
names_among (u ∷ vs) zero v m e h =
    left (references u) (references_in vs) m
    (subst (λ (x : Value). Name (references x) m) (let f : v ≡ u = cc in f) h)
names_among (u ∷ vs) (suc i) v m e h = right (references u) (references_in vs) m (names_among vs i v m e h)
