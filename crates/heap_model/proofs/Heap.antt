-- What stays of a list of places is the greatest part that is named.
use Rattle.std.proofs.Common.{◌≡◌, ◌≢◌, ℕ, zero, suc, ◌+◌, ◌<◌, ◌≤◌, Bool, true, false, cond, List, [], ◌∷◌, ◌++◌, length, Option, Some, None, refl, sym, ap, subst, ◌∙◌, arith, ◌⊎◌, inl, inr}
use Rattle.std.specs.Prelude.{eqb}
use Rattle.std.proofs.lemmas.Bool.Decides.{eqb_tells}
use Rattle.process_model.specs.Renaming.{Has}
use Rattle.heap_model.specs.Kept.{Held, IsKept, times, only}
use Rattle.heap_model.specs.Heap.{Heap, at, there, went, listed, lost_from, in_one, in_all, if_named, named_of, round, number, rounds, stays, gone, graph}

pub fun_ext : {A B : Type 0} {f g : A → B} → ((x : A) → f x ≡ g x) → f ≡ g
fun_ext h = λ i x. h x i

pub bool_or : (b : Bool) → (b ≡ true) ⊎ (b ≡ false)
bool_or true = inl refl
bool_or false = inr refl

pub there_is : {A : Type 0} (o : Option A) → there o ≡ true → (a : A) × (o ≡ Some a)
there_is None e = absurd cc
there_is (Some a) e = (a, refl)

pub there_of : {A : Type 0} (o : Option A) (a : A) → o ≡ Some a → there o ≡ true
there_of o a e = ap there e

pub within : {A : Type 0} (h : Heap A) (n : ℕ) → there (at h n) ≡ true → n < length h
within [] n e = absurd cc
within (o ∷ os) zero e = omega arith
within (o ∷ os) (suc n) e = let z = within os n e in omega arith

pub beyond : {A : Type 0} (h : Heap A) (n : ℕ) → length h ≤ n → at h n ≡ None
beyond [] n l = refl
beyond (o ∷ os) zero l = absurd (omega arith)
beyond (o ∷ os) (suc n) l = beyond os n (omega arith)

-- one more place
pub at_last : {A : Type 0} (h : Heap A) (o : Option A) (n : ℕ) → n ≡ length h → at (h ++ o ∷ []) n ≡ o
at_last [] o zero e = refl
at_last [] o (suc n) e = absurd (omega arith)
at_last (p ∷ os) o zero e = absurd (omega arith)
at_last (p ∷ os) o (suc n) e = at_last os o n (omega arith)

pub at_more : {A : Type 0} (h : Heap A) (o : Option A) (n : ℕ) → n ≢ length h → at (h ++ o ∷ []) n ≡ at h n
at_more [] o zero ne = absurd (ne refl)
at_more [] o (suc n) ne = refl
at_more (p ∷ os) o zero ne = refl
at_more (p ∷ os) o (suc n) ne = at_more os o n (λ e. ne (ap suc e))

-- heaps are equal place by place
pub same_places : {A : Type 0} (g h : Heap A) → length g ≡ length h → ((n : ℕ) → at g n ≡ at h n) → g ≡ h
same_places [] [] l e = refl
same_places [] (o ∷ os) l e = absurd (omega arith)
same_places (o ∷ os) [] l e = absurd (omega arith)
same_places (o ∷ os) (p ∷ ps) l e = let z = e 0 in let y = same_places os ps (omega arith) (λ n. e (suc n)) in λ i. z i ∷ y i

module _ {A : Type 0} (inside : A → ℕ → ℕ) (roots : ℕ → ℕ) where
  named_at : (count : ℕ → ℕ) (from : ℕ) (h : Heap A) (n : ℕ) → at (named_of inside count from h) n ≡ if_named inside (count (from + n)) (at h n)
  named_at count from [] n = sym (none (count (from + n)))
    where
      none : (c : ℕ) → if_named inside c None ≡ None
      none zero = refl
      none (suc c) = refl
  named_at count from (o ∷ os) zero = ap (λ m. if_named inside (count m) o) (let z : from ≡ from + 0 = omega arith in z)
  named_at count from (o ∷ os) (suc n) = named_at count (suc from) os n ∙ ap (λ m. if_named inside (count m) (at os n)) (let z : suc from + n ≡ from + suc n = omega arith in z)

  round_at : (h : Heap A) (n : ℕ) → at (round inside roots h) n ≡ if_named inside (roots n + in_all inside h n) (at h n)
  round_at h n = named_at (λ n. roots n + in_all inside h n) 0 h n ∙ ap (λ m. if_named inside (roots m + in_all inside h m) (at h n)) (let z : 0 + n ≡ n = omega arith in z)

  stays_named : (c : ℕ) (o : Option A) (a : A) → if_named inside c o ≡ Some a → (0 < c) × (o ≡ Some a)
  stays_named zero o a e = absurd cc
  stays_named (suc c) o a e = (omega arith, e)

  named_stays : (c : ℕ) (o : Option A) → 0 < c → if_named inside c o ≡ o
  named_stays zero o p = absurd (omega arith)
  named_stays (suc c) o p = refl

  -- some value names n, where all together do
  names_some : (h : Heap A) (n : ℕ) → 0 < in_all inside h n → (a : ℕ) × (0 < in_one inside (at h a) n)
  names_some [] n p = absurd (omega arith)
  names_some (o ∷ os) n p = go (in_one inside o n) refl (names_some os n)
    where
      go : (v : ℕ) → in_one inside o n ≡ v → (0 < in_all inside os n → (a : ℕ) × (0 < in_one inside (at os a) n)) → (a : ℕ) × (0 < in_one inside (at (o ∷ os) a) n)
      go zero e rest = let r = rest (omega arith) in (suc r.0, r.1)
      go (suc v) e rest = (0, omega arith)

  some_names : (h : Heap A) (a n : ℕ) → 0 < in_one inside (at h a) n → 0 < in_all inside h n
  some_names [] a n p = absurd (omega arith)
  some_names (o ∷ os) zero n p = omega arith
  some_names (o ∷ os) (suc a) n p = let z = some_names os a n p in omega arith

  in_there : (o : Option A) (n : ℕ) → 0 < in_one inside o n → there o ≡ true
  in_there None n p = absurd (omega arith)
  in_there (Some a) n p = refl

  -- a part of a heap: what is there is as it was
  IsPart : Heap A → Heap A → Type 0
  IsPart t h = (n : ℕ) (a : A) → at t n ≡ Some a → at h n ≡ Some a

  round_part : (h : Heap A) → IsPart (round inside roots h) h
  unfolding IsPart
  round_part h n a e = (stays_named _ (at h n) a (sym (round_at h n) ∙ e)).1

  part_on : (r t h : Heap A) → IsPart r t → IsPart t h → IsPart r h
  unfolding IsPart
  part_on r t h p q n a e = q n a (p n a e)

  part_same : (h : Heap A) → IsPart h h
  unfolding IsPart
  part_same h n a e = e

  number_less : (count : ℕ → ℕ) (from : ℕ) (h : Heap A) → number inside (named_of inside count from h) ≤ number inside h
  number_less count from [] = omega arith
  number_less count from (o ∷ os) = go (count from) o (number_less count (suc from) os)
    where
      go : (c : ℕ) (o : Option A) → number inside (named_of inside count (suc from) os) ≤ number inside os → number inside (if_named inside c o ∷ named_of inside count (suc from) os) ≤ number inside (o ∷ os)
      go zero None l = l
      go zero (Some a) l = omega arith
      go (suc c) None l = l
      go (suc c) (Some a) l = omega arith

  -- where as many are there after a round, nothing went
  number_same : (count : ℕ → ℕ) (from : ℕ) (h : Heap A) → number inside (named_of inside count from h) ≡ number inside h → named_of inside count from h ≡ h
  number_same count from [] e = refl
  number_same count from (o ∷ os) e = go (count from) o (number_less count (suc from) os) (number_same count (suc from) os) e
    where
      go : (c : ℕ) (o : Option A) → number inside (named_of inside count (suc from) os) ≤ number inside os → (number inside (named_of inside count (suc from) os) ≡ number inside os → named_of inside count (suc from) os ≡ os)
          → number inside (if_named inside c o ∷ named_of inside count (suc from) os) ≡ number inside (o ∷ os) → if_named inside c o ∷ named_of inside count (suc from) os ≡ o ∷ os
      go zero None l rest e = ap (λ l. None ∷ l) (rest e)
      go zero (Some a) l rest e = absurd (omega arith)
      go (suc c) None l rest e = ap (λ l. None ∷ l) (rest e)
      go (suc c) (Some a) l rest e = ap (λ l. Some a ∷ l) (rest (omega arith))

  -- the end of the rounds
  record IsEnd (h t : Heap A) : Type 0 where
    part : IsPart t h
    fixed : round inside roots t ≡ t

  number_length : (h : Heap A) → number inside h ≤ length h
  number_length [] = omega arith
  number_length (None ∷ os) = let z = number_length os in omega arith
  number_length (Some a ∷ os) = let z = number_length os in omega arith

  number_none : (h : Heap A) → number inside h ≡ 0 → round inside roots h ≡ h
  number_none h e = number_same (λ n. roots n + in_all inside h n) 0 h (let z = number_less (λ n. roots n + in_all inside h n) 0 h in omega arith)

  rounds_end : (f : ℕ) (h : Heap A) → number inside h ≤ f → IsEnd h (rounds inside roots f h)
  rounds_end zero h l = record { part = part_same h; fixed = number_none h (omega arith) }
  rounds_end (suc f) h l = go (eqb (number inside (round inside roots h)) (number inside h)) refl (λ m. rounds_end f (round inside roots h) m)
    where
      go : (b : Bool) → eqb (number inside (round inside roots h)) (number inside h) ≡ b → (number inside (round inside roots h) ≤ f → IsEnd (round inside roots h) (rounds inside roots f (round inside roots h))) → IsEnd h (elim b [ true ↦ h | false ↦ rounds inside roots f (round inside roots h) ])
      go true e rest = record { part = part_same h; fixed = number_same (λ n. roots n + in_all inside h n) 0 h (elim (eqb_tells (number inside (round inside roots h)) (number inside h)) [ inl y ↦ y.1 | inr y ↦ absurd (let z : true ≡ false = sym e ∙ y.0 in cc) ]) }
      go false e rest =
          let less = number_less (λ n. roots n + in_all inside h n) 0 h in
          let other : number inside (round inside roots h) ≢ number inside h = elim (eqb_tells (number inside (round inside roots h)) (number inside h)) [ inl y ↦ absurd (let z : true ≡ false = sym y.0 ∙ e in cc) | inr y ↦ y.1 ] in
          let r = rest (omega arith) in
          record { part = part_on _ _ h r.part (round_part h); fixed = r.fixed }

  -- what must stay is there after any number of rounds
  module _ (h : Heap A) (some : ℕ → Type 0) (held : (n : ℕ) → some n → (there (at h n) ≡ true) × Held (graph inside h) roots some n) where
    AsWas : Heap A → Type 0
    AsWas t = (n : ℕ) → some n → at t n ≡ at h n

    has_round : (t : Heap A) → AsWas t → AsWas (round inside roots t)
    unfolding AsWas
    has_round t k n x = round_at t n ∙ (named_stays _ (at t n) (elim (held n x).1 [
      | inl r ↦ omega arith
      | inr r ↦ let z = some_names t r.0 n (subst (λ o. 0 < in_one inside o n) (sym (k r.0 r.1)) r.2) in omega arith
    ]) ∙ k n x)

    has_rounds : (f : ℕ) (t : Heap A) → AsWas t → AsWas (rounds inside roots f t)
    has_rounds zero t k = k
    has_rounds (suc f) t k = go (eqb (number inside (round inside roots t)) (number inside t)) (has_rounds f (round inside roots t) (has_round t k))
      where
        go : (b : Bool) → AsWas (rounds inside roots f (round inside roots t)) → AsWas (elim b [ true ↦ t | false ↦ rounds inside roots f (round inside roots t) ])
        go true r = k
        go false r = r

    has_stays : (n : ℕ) → some n → at (stays inside roots h) n ≡ at h n
    unfolding AsWas
    has_stays = has_rounds (length h) h (λ n x. refl)

  stays_end : (h : Heap A) → IsEnd h (stays inside roots h)
  stays_end h = rounds_end (length h) h (number_length h)

  pub stays_part : (h : Heap A) (n : ℕ) (a : A) → at (stays inside roots h) n ≡ Some a → at h n ≡ Some a
  unfolding IsPart
  stays_part h = (stays_end h).part

  -- which places stay
  abbrev pub part : Heap A → ℕ → Bool
  part h n = there (at (stays inside roots h) n)

  pub stays_is : (h : Heap A) → IsKept (graph inside h) roots (part h)
  stays_is h = record {
    alive = λ n e. let b = there_is (at (stays inside roots h) n) e in ap there (stays_part h n b.0 b.1);
    held = λ n e.
        let b = there_is (at (stays inside roots h) n) e in
        let f = stays_named _ (at (stays inside roots h) n) b.0 (sym (round_at (stays inside roots h) n) ∙ (ap (λ t. at t n) (stays_end h).fixed ∙ b.1)) in
        held n (roots n) refl f.0;
    greatest = λ some k n x. ap there (has_stays h some k n x) ∙ (k n x).0;
  }
    where
      held : (n v : ℕ) → roots n ≡ v → 0 < roots n + in_all inside (stays inside roots h) n → Held (graph inside h) roots (λ n. there (at (stays inside roots h) n) ≡ true) n
      held n (suc v) e p = inl (omega arith)
      held n zero e p =
          let r = names_some (stays inside roots h) n (omega arith) in
          let t = in_there (at (stays inside roots h) r.0) n r.1 in
          let b = there_is (at (stays inside roots h) r.0) t in
          inr (r.0, t, subst (λ o. 0 < in_one inside o n) (b.1 ∙ sym (stays_part h r.0 b.0 b.1)) r.1)

  -- a place is as it was, or empty
  pub stays_at : (h : Heap A) (n : ℕ) → at (stays inside roots h) n ≡ cond {A = Option A} (part h n) (at h n) None
  stays_at h n = go (at (stays inside roots h) n) refl
    where
      go : (o : Option A) → at (stays inside roots h) n ≡ o → at (stays inside roots h) n ≡ cond {A = Option A} (there (at (stays inside roots h) n)) (at h n) None
      go None e = e ∙ ap (λ b. cond {A = Option A} b (at h n) None) (sym (ap there e))
      go (Some a) e = e ∙ (sym (stays_part h n a e) ∙ ap (λ b. cond {A = Option A} b (at h n) None) (sym (ap there e)))

  named_length : (count : ℕ → ℕ) (from : ℕ) (h : Heap A) → length (named_of inside count from h) ≡ length h
  named_length count from [] = refl
  named_length count from (o ∷ os) = ap suc (named_length count (suc from) os)

  rounds_length : (f : ℕ) (h : Heap A) → length (rounds inside roots f h) ≡ length h
  rounds_length zero h = refl
  rounds_length (suc f) h = go (eqb (number inside (round inside roots h)) (number inside h)) (rounds_length f (round inside roots h))
    where
      go : (b : Bool) → length (rounds inside roots f (round inside roots h)) ≡ length (round inside roots h) → length (elim b as (λ _. Heap A) [ true ↦ h | false ↦ rounds inside roots f (round inside roots h) ]) ≡ length h
      go true e = refl
      go false e = e ∙ named_length (λ n. roots n + in_all inside h n) 0 h

  pub stays_length : (h : Heap A) → length (stays inside roots h) ≡ length h
  stays_length h = rounds_length (length h) h

  -- the references of what stays
  pub graph_after : (h : Heap A) → graph inside (stays inside roots h) ≡ only (graph inside h) (part h)
  graph_after h =
      let u : (λ a n. in_one inside (at (stays inside roots h) a) n) ≡ (λ a n. times (part h a) (in_one inside (at h a) n)) = fun_ext (λ a. fun_ext (λ n. ap (λ o. in_one inside o n) (stays_at h a) ∙ cut (at h a) (part h a) n)) in
      λ i. record { live = part h; uses = u i }
    where
      cut : (o : Option A) (b : Bool) (n : ℕ) → in_one inside (cond {A = Option A} b o None) n ≡ times b (in_one inside o n)
      cut o true n = refl
      cut o false n = refl

  -- a heap of which a round takes nothing is left by all of them
  rounds_fixed : (f : ℕ) (h : Heap A) → round inside roots h ≡ h → rounds inside roots f h ≡ h
  rounds_fixed zero h e = refl
  rounds_fixed (suc f) h e = go (eqb (number inside (round inside roots h)) (number inside h)) (rounds_fixed f h e)
    where
      go : (b : Bool) → rounds inside roots f h ≡ h → (elim b as (λ _. Heap A) [ true ↦ h | false ↦ rounds inside roots f (round inside roots h) ]) ≡ h
      go true s = refl
      go false s = ap (λ t. rounds inside roots f t) e ∙ s

  -- what stays has nothing more to lose
  pub stays_twice : (h : Heap A) → stays inside roots (stays inside roots h) ≡ stays inside roots h
  stays_twice h = rounds_fixed (length (stays inside roots h)) (stays inside roots h) (stays_end h).fixed

  -- where all that is there stays, nothing goes
  pub all_stay : (h : Heap A) → ((n : ℕ) → there (at h n) ≡ true → part h n ≡ true) → stays inside roots h ≡ h
  all_stay h all = same_places (stays inside roots h) h (stays_length h) (λ n. stays_at h n ∙ same n (at h n) refl)
    where
      same : (n : ℕ) (o : Option A) → at h n ≡ o → cond {A = Option A} (part h n) (at h n) None ≡ at h n
      same n None e = ap (λ o. cond {A = Option A} (part h n) o None) e ∙ (none (part h n) ∙ sym e)
        where
          none : (b : Bool) → cond {A = Option A} b None None ≡ None
          none true = refl
          none false = refl
      same n (Some a) e = ap (λ b. cond {A = Option A} b (at h n) None) (all n (ap there e))

  pub stay_all : (h : Heap A) → stays inside roots h ≡ h → (n : ℕ) → there (at h n) ≡ true → part h n ≡ true
  stay_all h e n l = ap (λ t. there (at t n)) e ∙ l

-- ---- what goes

pub went_is : (l b : Bool) → went l b ≡ true → (l ≡ true) × (b ≡ false)
went_is true false e = (refl, refl)
went_is true true e = absurd cc
went_is false b e = absurd cc

pub is_went : (l b : Bool) → l ≡ true → b ≡ false → went l b ≡ true
is_went true false e f = refl
is_went true true e f = absurd cc
is_went false b e f = absurd cc

has_append : (xs ys : List ℕ) (n : ℕ) → Has (xs ++ ys) n → Has xs n ⊎ Has ys n
has_append [] ys n h = inr h
has_append (x ∷ xs) ys n (inl e) = inl (inl e)
has_append (x ∷ xs) ys n (inr h) = elim (has_append xs ys n h) [ inl y ↦ inl (inr y) | inr y ↦ inr y ]

has_first : (xs ys : List ℕ) (n : ℕ) → Has xs n → Has (xs ++ ys) n
has_first [] ys n h = absurd h
has_first (x ∷ xs) ys n (inl e) = inl e
has_first (x ∷ xs) ys n (inr h) = inr (has_first xs ys n h)

has_second : (xs ys : List ℕ) (n : ℕ) → Has ys n → Has (xs ++ ys) n
has_second [] ys n h = h
has_second (x ∷ xs) ys n h = inr (has_second xs ys n h)

listed_has : (b : Bool) (m n : ℕ) → Has (listed b m) n → (b ≡ true) × (m ≡ n)
listed_has true m n (inl e) = (refl, e)
listed_has true m n (inr h) = absurd h
listed_has false m n h = absurd h

listed_of : (b : Bool) (n : ℕ) → b ≡ true → Has (listed b n) n
listed_of true n e = inl refl
listed_of false n e = absurd cc

-- a place whose value is in the first and not in the second
pub record Lost {A : Type 0} (os ps : Heap A) (from n : ℕ) : Type 0 where
  pub place : ℕ
  pub is : n ≡ from + place
  pub was : there (at os place) ≡ true
  pub no_more : there (at ps place) ≡ false

pub lost_has : {A : Type 0} (from : ℕ) (os ps : Heap A) (n : ℕ) → Has (lost_from from os ps) n → Lost os ps from n
lost_has from [] ps n h = absurd h
lost_has from (o ∷ os) [] n h = absurd h
lost_has from (o ∷ os) (p ∷ ps) n h = go (lost_has (suc from) os ps n) (has_append (listed (went (there o) (there p)) from) (lost_from (suc from) os ps) n h)
  where
    go : (Has (lost_from (suc from) os ps) n → Lost os ps (suc from) n) → Has (listed (went (there o) (there p)) from) n ⊎ Has (lost_from (suc from) os ps) n → Lost (o ∷ os) (p ∷ ps) from n
    go rest (inl x) =
        let t = listed_has (went (there o) (there p)) from n x in
        let w = went_is (there o) (there p) t.0 in
        record { place = 0; is = omega (arith, t.1); was = w.0; no_more = w.1 }
    go rest (inr y) = let r = rest y in record { place = suc r.place; is = omega (arith, r.is); was = r.was; no_more = r.no_more }

pub has_lost : {A : Type 0} (from : ℕ) (os ps : Heap A) (n : ℕ) → length ps ≡ length os → there (at os n) ≡ true → there (at ps n) ≡ false → Has (lost_from from os ps) (from + n)
has_lost from [] ps n l e f = absurd cc
has_lost from (o ∷ os) [] n l e f = absurd (omega arith)
has_lost from (o ∷ os) (p ∷ ps) zero l e f = has_first _ _ (from + 0) (subst (λ m. Has (listed (went (there o) (there p)) from) m) (let z : from ≡ from + 0 = omega arith in z) (listed_of _ from (is_went (there o) (there p) e f)))
has_lost from (o ∷ os) (p ∷ ps) (suc n) l e f =
    has_second (listed (went (there o) (there p)) from) _ (from + suc n) (subst (λ m. Has (lost_from (suc from) os ps) m) (let z : suc from + n ≡ from + suc n = omega arith in z) (has_lost (suc from) os ps n (omega arith) e f))

lost_same : {A : Type 0} (from : ℕ) (os : Heap A) → lost_from from os os ≡ []
lost_same from [] = refl
lost_same from (o ∷ os) = go (there o) (lost_same (suc from) os)
  where
    go : (b : Bool) → lost_from (suc from) os os ≡ [] → listed (went b b) from ++ lost_from (suc from) os os ≡ []
    go true e = e
    go false e = e

module _ {A : Type 0} (inside : A → ℕ → ℕ) (roots : ℕ → ℕ) where
  pub gone_has : (h : Heap A) (n : ℕ) → Has (gone inside roots h) n → (there (at h n) ≡ true) × (part inside roots h n ≡ false)
  gone_has h n x =
      let l = lost_has 0 h (stays inside roots h) n x in
      let same : l.place ≡ n = omega (arith, l.is) in
      (subst (λ n. there (at h n) ≡ true) same l.was, subst (λ n. part inside roots h n ≡ false) same l.no_more)

  pub has_gone : (h : Heap A) (n : ℕ) → there (at h n) ≡ true → part inside roots h n ≡ false → Has (gone inside roots h) n
  has_gone h n e f = subst (λ m. Has (gone inside roots h) m) (let z : 0 + n ≡ n = omega arith in z) (has_lost 0 h (stays inside roots h) n (stays_length inside roots h) e f)

  pub none_gone : (h : Heap A) → stays inside roots h ≡ h → gone inside roots h ≡ []
  none_gone h e = ap (λ t. lost_from 0 h t) e ∙ lost_same 0 h
