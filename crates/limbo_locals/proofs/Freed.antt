-- Names that were declared one after the other in the innermost scope.
use Rattle.std.proofs.Common.{◌≡◌, ◌⊎◌, inl, inr, ◌<◌, ◌≤◌, ◌+◌, ℕ, zero, suc, Bool, true, false, List, [], ◌∷◌, ◌++◌, Option, Some, None}
use Rattle.std.proofs.Common.{cond, slice_get, length, take, get_or, refl, sym, ap, subst, ◌∙◌, arith}
use Rattle.std.specs.Prelude.{IsSome, is_some}
use Rattle.std.proofs.lemmas.Bool.{false≢true}
use Rattle.std.specs.Prelude.{option_map, Result, Err}
use Rattle.limbo_scope.specs.declared.scopes.ScopeFault.{ScopeFault}
use Rattle.limbo_scope.specs.declared.scopes.ScopeFault.TheVariants as scope_fault
use Rattle.std.proofs.lemmas.List.{take_more, length-take, length-map}
use Rattle.std.proofs.lemmas.Option.{get_or_from_slice_get, slice_get-get_or, slice_get-map}
use Rattle.limbo_tree.specs.declared.name.Name as code_name
use Rattle.limbo_tree.specs.View.{view_name, names_of}
use Rattle.std.specs.Ordering.{nat_cmp, eq_by_cmp}
use Rattle.std.specs.Cmp.Lexicographic.{slice_cmp, nat_list_cmp_total}
use Rattle.std.specs.FinMap.{get, insert, get-insert}
use Rattle.std.specs.Cmp.{eq_by_cmp_equiv, Equal-is}
use Rattle.limbo_scope.specs.declared.meaning.Meaning.{Meaning}
use Rattle.limbo_scope.specs.Scopes.{Scope, declared, declared_here}
use Rattle.limbo_scope.specs.Laws.{declared_all}
use Rattle.limbo_scope.proofs.Maps.{antisymmetric}
use Rattle.limbo_declarations.specs.Names.{IsAt}
use Rattle.limbo_typed.specs.Sound.{Each}
use Rattle.limbo_local.specs.Points.{meaning_from}
use Rattle.limbo_locals.specs.Named.{AreFree}

abbrev pub Names : Type 0
Names = List (List ℕ)

-- ---- one name in one scope

same_name : (name : List ℕ) → eq_by_cmp (slice_cmp nat_cmp) name name ≡ true
same_name name = (eq_by_cmp_equiv nat_list_cmp_total).refl name

decide : (a b : List ℕ) → (eq_by_cmp (slice_cmp nat_cmp) a b ≡ true) × (a ≡ b) ⊎ (eq_by_cmp (slice_cmp nat_cmp) a b ≡ false) × (a ≡ b → ⊥)
decide a b = go (eq_by_cmp (slice_cmp nat_cmp) a b) refl
  where
    go : (r : Bool) → eq_by_cmp (slice_cmp nat_cmp) a b ≡ r
        → (eq_by_cmp (slice_cmp nat_cmp) a b ≡ true) × (a ≡ b) ⊎ (eq_by_cmp (slice_cmp nat_cmp) a b ≡ false) × (a ≡ b → ⊥)
    go true h = inl (h, antisymmetric a b ((Equal-is (slice_cmp nat_cmp a b)).0 h))
    go false h =
        inr (
          h,
          λ e.
              let x : true ≡ false = sym (subst (λ (z : List ℕ). eq_by_cmp (slice_cmp nat_cmp) a z ≡ true) e (same_name a)) ∙ h in absurd
              cc,
        )

read : (s : Scope) (n name : List ℕ) (x : Meaning) (b : Bool) → eq_by_cmp (slice_cmp nat_cmp) name n ≡ b
    → get (insert s n x) name ≡ cond b (Some x) (get s name)
read s n name x b h = get-insert nat_list_cmp_total s n x name ∙ ap (λ b. cond b (Some x) (get s name)) h

-- ---- names in a row

-- none of these names is this one
abbrev pub IsOther : List ℕ → Names → Type 0
IsOther name ns = (k : ℕ) (n : List ℕ) → IsAt ns k n → n ≡ name → ⊥

module _ (means : ℕ → Meaning) where
  -- a name that isn't declared behind some is none of them, and wasn't before
  pub was_free : (name : List ℕ) (first : ℕ) (ns : Names) (s : Scope) (outer : List Scope)
      → declared_here name (declared_all (meaning_from means first ns) (s ∷ outer)) ≡ None → (get s name ≡ None) × IsOther name ns
  was_free name first [] s outer h = (h, λ k n at is. absurd cc)
  was_free name first (m ∷ ns) s outer h =
      let r = was_free name (suc first) ns (insert s m (means first)) outer h in
      elim (decide name m) [
        | inl e ↦ let x : Some (means first) ≡ None = sym (read s m name (means first) true e.0) ∙ r.0 in absurd cc
        | inr n ↦ (sym (read s m name (means first) false n.0) ∙ r.0, others m ns n.1 r.1)
      ]
    where
      others : (m : List ℕ) (ns : Names) → (name ≡ m → ⊥) → IsOther name ns → IsOther name (m ∷ ns)
      others m ns d r zero n at is = let x : m ≡ n = cc in d (sym (x ∙ is))
      others m ns d r (suc k) n at is = r k n at is

  -- and one that wasn't, and is none of them, isn't
  pub still_free : (name : List ℕ) (first : ℕ) (ns : Names) (s : Scope) (outer : List Scope) → get s name ≡ None → IsOther name ns
      → declared_here name (declared_all (meaning_from means first ns) (s ∷ outer)) ≡ None
  still_free name first [] s outer h o = h
  still_free name first (m ∷ ns) s outer h o =
      still_free name (suc first) ns (insert s m (means first)) outer
      (elim (decide name m) [
        | inl e ↦ absurd (o 0 m refl (sym e.1))
        | inr n ↦ read s m name (means first) false n.0 ∙ h
      ]) (λ k n at is. o (suc k) n at is)

  -- one more
  pub one_more : (first : ℕ) (ns : Names) (n : List ℕ) (ss : List Scope)
      → declared_all (meaning_from means first (ns ++ n ∷ [])) ss
      ≡ declared n (means (first + length ns)) (declared_all (meaning_from means first ns) ss)
  one_more first [] n ss = ap (λ (k : ℕ). declared n (means k) ss) (omega arith)
  one_more first (m ∷ ns) n ss =
      one_more (suc first) ns n (declared m (means first) ss)
      ∙ ap (λ (k : ℕ). declared n (means k) (declared_all (meaning_from means (suc first) ns) (declared m (means first) ss))) (omega arith)

-- ---- the first names, so many

-- They are declared, and were free.
pub record Placed (means : ℕ → Meaning) (first : ℕ) (old now : List Scope) (ns : Names) (i : ℕ) : Type 0 where
  pub scopes : now ≡ declared_all (meaning_from means first (take i ns)) old
  pub free : (k : ℕ) (n : List ℕ) → k < i → IsAt ns k n → declared_here n old ≡ None
  pub once : (k l : ℕ) (n : List ℕ) → k < i → l < i → IsAt ns k n → IsAt ns l n → k ≡ l

in_take : (i k : ℕ) (ns : Names) (n : List ℕ) → IsAt (take i ns) k n → (k < i) × IsAt ns k n
in_take zero k ns n at = absurd cc
in_take (suc i) k [] n at = absurd cc
in_take (suc i) zero (x ∷ xs) n at = (omega arith, at)
in_take (suc i) (suc k) (x ∷ xs) n at = let r = in_take i k xs n at in let l : k < i = r.0 in (omega arith, r.1)

each_at : {A : Type 0} (P : A → Type 0) (xs : List A) (k : ℕ) (x : A) → slice_get xs k ≡ Some x → Each P xs → P x
each_at P [] k x at h = absurd cc
each_at P (y ∷ ys) zero x at h = let e : y ≡ x = cc in subst P e h.0
each_at P (y ∷ ys) (suc k) x at h = each_at P ys k x at h.1

at_each : {A : Type 0} (P : A → Type 0) (xs : List A) → ((k : ℕ) (x : A) → slice_get xs k ≡ Some x → P x) → Each P xs
at_each P [] h = tt
at_each P (y ∷ ys) h = (h 0 y refl, at_each P ys (λ k x at. h (suc k) x at))

-- what is one of the first names isn't a later one
others_before : (ns : Names) (i : ℕ) (n : List ℕ) → ((k : ℕ) → k < i → IsAt ns k n → ⊥) → IsOther n (take i ns)
others_before ns i n none k m at is =
    let r = in_take i k ns m at in none k r.0 (subst (λ (z : List ℕ). IsAt ns k z) is r.1)

pub placed_start : (means : ℕ → Meaning) (first : ℕ) (old : List Scope) (ns : Names) → Placed means first old old ns 0
placed_start means first old ns = record {
  scopes = refl;
  free = λ k n l at. absurd (omega arith);
  once = λ k l n p q at and_at. absurd (omega arith);
}

at_last : (k i : ℕ) → k < i + 1 → (k < i → ⊥) → k ≡ i
at_last k i l n = omega arith

below : (k i : ℕ) → (k < i) ⊎ (k < i → ⊥)
below k i = elim (lt_or_not k i) [ inl p ↦ inl p | inr q ↦ inr q ]
  where
    lt_or_not : (k i : ℕ) → (k < i) ⊎ (k < i → ⊥)
    lt_or_not k zero = inr (λ l. absurd (omega arith))
    lt_or_not zero (suc i) = inl (omega arith)
    lt_or_not (suc k) (suc i) = elim (lt_or_not k i) [ inl p ↦ inl (omega arith) | inr q ↦ inr (λ l. q (omega arith)) ]

module _ (means : ℕ → Meaning) (first : ℕ) (ns : Names) where
  -- a name at a place that the innermost scope doesn't declare behind those before it
  fresh : (old now : List Scope) (i : ℕ) (n : List ℕ) → 0 < length old → Placed means first old now ns i → declared_here n now ≡ None
      → (declared_here n old ≡ None) × IsOther n (take i ns)
  fresh [] now i n l p h = absurd (omega arith)
  fresh (s ∷ outer) now i n l p h =
      was_free means n first (take i ns) s outer (subst (λ (ss : List Scope). declared_here n ss ≡ None) p.scopes h)

  pub placed_more : (old now : List Scope) (i : ℕ) (n : List ℕ) → 0 < length old → IsAt ns i n → declared_here n now ≡ None
      → Placed means first old now ns i → Placed means first old (declared n (means (first + i)) now) ns (i + 1)
  placed_more old now i n l at h p =
      let f = fresh old now i n l p h in
      let there : i < length ns = slice_get_below ns i n at in
      let len : length (take i ns) ≡ i = length-take i ns ∙ (omega arith) in
      let ahead : take (i + 1) ns ≡ take i ns ++ n ∷ [] =
      take_more ns i n there ∙ ap (λ (z : List ℕ). take i ns ++ z ∷ []) (get_or_from_slice_get ns i n n at) in
      let none : (k : ℕ) → k < i → IsAt ns k n → ⊥ = λ k b here. f.1 k n (to_take i k ns n b here) refl in
      record {
        scopes =
            ap (declared n (means (first + i))) p.scopes
            ∙ ap (λ (k : ℕ). declared n (means (first + k)) (declared_all (meaning_from means first (take i ns)) old)) (sym len)
            ∙ sym (one_more means first (take i ns) n old)
            ∙ ap (λ (zs : Names). declared_all (meaning_from means first zs) old) (sym ahead);
        free = λ k m b here.
            elim (below k i) [
              | inl c ↦ p.free k m c here
              | inr c ↦
                  let e : k ≡ i = at_last k i b c in
                  let x : Some m ≡ Some n = sym (subst (λ (z : ℕ). IsAt ns z m) e here) ∙ at in
                  let y : m ≡ n = cc in subst (λ (z : List ℕ). declared_here z old ≡ None) (sym y) f.0
            ];
        once = λ k j m b c here there_too.
            elim (below k i) [
              | inl p1 ↦ elim (below j i) [
                | inl q1 ↦ p.once k j m p1 q1 here there_too
                | inr q1 ↦
                    let e : j ≡ i = at_last j i c q1 in
                    let x : Some m ≡ Some n = sym (subst (λ (z : ℕ). IsAt ns z m) e there_too) ∙ at in
                    let y : m ≡ n = cc in absurd (none k p1 (subst (λ (z : List ℕ). IsAt ns k z) y here))
              ]
              | inr p1 ↦ elim (below j i) [
                | inl q1 ↦
                    let e : k ≡ i = at_last k i b p1 in
                    let x : Some m ≡ Some n = sym (subst (λ (z : ℕ). IsAt ns z m) e here) ∙ at in
                    let y : m ≡ n = cc in absurd (none j q1 (subst (λ (z : List ℕ). IsAt ns j z) y there_too))
                | inr q1 ↦ at_last k i b p1 ∙ sym (at_last j i c q1)
              ]
            ];
      }
    where
      slice_get_below : (ms : Names) (k : ℕ) (m : List ℕ) → IsAt ms k m → k < length ms
      slice_get_below [] k m at = absurd cc
      slice_get_below (x ∷ xs) zero m at = omega arith
      slice_get_below (x ∷ xs) (suc k) m at = let r : k < length xs = slice_get_below xs k m at in omega arith

      to_take : (i k : ℕ) (ms : Names) (m : List ℕ) → k < i → IsAt ms k m → IsAt (take i ms) k m
      to_take zero k ms m b at = absurd (omega arith)
      to_take (suc i) k [] m b at = absurd cc
      to_take (suc i) zero (x ∷ xs) m b at = at
      to_take (suc i) (suc k) (x ∷ xs) m b at = to_take i k xs m (omega arith) at

  pub placed_end : (old now : List Scope) (i : ℕ) → length ns ≤ i → Placed means first old now ns i → AreFree ns old
  placed_end old now i l p = (
    at_each (λ n. declared_here n old ≡ None) ns (λ k n at. p.free k n (before k n at) at),
    λ k j n at and_at. p.once k j n (before k n at) (before j n and_at) at and_at,
  )
    where
      below_length : (ms : Names) (k : ℕ) (m : List ℕ) → IsAt ms k m → k < length ms
      below_length [] k m at = absurd cc
      below_length (x ∷ xs) zero m at = omega arith
      below_length (x ∷ xs) (suc k) m at = let r : k < length xs = below_length xs k m at in omega arith

      before : (k : ℕ) (n : List ℕ) → IsAt ns k n → k < i
      before k n at = let r : k < length ns = below_length ns k n at in omega arith

  pub not_free : (old now : List Scope) (i : ℕ) (n : List ℕ) → 0 < length old → IsAt ns i n → IsSome (declared_here n now)
      → Placed means first old now ns i → AreFree ns old → ⊥
  not_free [] now i n l at h p f = absurd (omega arith)
  not_free (s ∷ outer) now i n l at h p f =
      let none : declared_here n (declared_all (meaning_from means first (take i ns)) (s ∷ outer)) ≡ None =
      still_free means n first (take i ns) s outer (each_at (λ m. declared_here m (s ∷ outer) ≡ None) ns i n at f.0)
      (others_before ns i n (λ k b here. let e : k ≡ i = f.1 k i n here at in absurd (omega arith))) in
      let r : is_some (declared_here n now) ≡ false = ap is_some (ap (declared_here n) p.scopes ∙ none) in
      false≢true (sym r ∙ h)

-- ---- names of the code

pub name_at : (xs : List code_name.Name) (i : ℕ) (x : code_name.Name) → x ≡ get_or xs i x → i < length xs → IsAt (names_of xs) i x.text
name_at xs i x is l =
    slice_get-map view_name xs i
    ∙ ap (λ (o : Option code_name.Name). option_map view_name o)
    (slice_get-get_or xs i x l ∙ ap (λ (z : code_name.Name). let r : Option code_name.Name = Some z in r) (sym is))

pub all_named : (xs : List code_name.Name) (i : ℕ) → length xs ≤ i → length (names_of xs) ≤ i
all_named xs i l = subst (λ (n : ℕ). n ≤ i) (sym (length-map xs view_name)) l

pub as_twice : {T : Type 0} (r : Result T ScopeFault) (f : ScopeFault) → r ≡ Err f → f ≡ scope_fault.Twice → r ≡ Err scope_fault.Twice
as_twice {T} r f p q = p ∙ ap (λ (g : ScopeFault). let z : Result T ScopeFault = Err g in z) q
