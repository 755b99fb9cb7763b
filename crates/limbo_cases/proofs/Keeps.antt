-- What is known of the kept labels as one after the other comes.
use Rattle.std.proofs.Common.{◌≡◌, ℕ, ◌+◌, ◌<◌, ◌≤◌, ◌⊎◌, inl, inr, Bool, false, Option, Some, None, List, length, cond, is_eq, option_map, refl, sym, ap, subst, ◌∙◌, arith}
use Rattle.std.specs.Borrow.{Bor}
use Rattle.std.specs.BTreeMap.{BTreeMap, get_by}
use Rattle.std.specs.Cmp.{IsTotalOrder}
use Rattle.std.specs.declared.cmp.Ordering.{Ordering}
use Rattle.std.specs.declared.cmp.Ordering.TheVariants.{Less, Equal, Greater}
use Rattle.limbo_cases.specs.declared.label.Label.{Label}
use Rattle.limbo_cases.specs.declared.overlapping.Kept.{Kept}
use Rattle.limbo_cases.specs.Labels.{StandsAt, AtMost, Overlap, OverlapsAt, ApartBefore, Apart}
use Rattle.limbo_cases.specs.Keeping.{IsFilled, InOrder, IsKept, IsLast, IsLastBegun, held}
use Rattle.limbo_cases.proofs.Places.{same_there, inside}
use Rattle.std.proofs.lemmas.Cmp.{alike_right}
use Rattle.limbo_cases.proofs.Orders.{chain, either, not_before, before_at_most, at_most_before, overlap_filled, overlap_ends, overlap_by_ends, less_at_most, equal_at_most, equal_back, equal_itself, rank, before, level, behind}

at_or : (n m : ℕ) → n < m + 1 → (n < m) ⊎ (n ≡ m)
at_or n m h = grind arith

unequal : (o : Ordering) → (o ≡ Equal → ⊥) → is_eq o ≡ false
unequal Less never = refl
unequal Equal never = absurd (never refl)
unequal Greater never = refl

-- a map has the same at ends that compare alike
abbrev pub IsAlike : {A : Type 0} → (A → A → Ordering) → (Bor A → Option (Kept A)) → Type 0
IsAlike {A} order at = (p q : Bor A) → order p.now q.now ≡ Equal → at p ≡ at q

pub held_alike : {A : Type 0} {order : A → A → Ordering} → IsTotalOrder order → (m : BTreeMap (Bor A) (Kept A)) → IsAlike order (held order m)
held_alike {A} total m p q e = λ i. get_by (λ (z : Bor A). total.congr p.now q.now z.now e i) m

module _ {A : Type 0} {order : A → A → Ordering} (total : IsTotalOrder order) (labels : List (Label A)) (n : ℕ) (at : Bor A → Option (Kept A)) where
  -- what is kept of a label of the list
  record Own (i : ℕ) (a : Label A) : Type 0 where
    q : Bor A
    k : Kept A
    stands : at q ≡ Some k
    number : k.number ≡ i
    same : k.label.now ≡ a

  own : IsKept order labels n at → (i : ℕ) (a : Label A) → i < n → StandsAt labels i a → IsFilled order a → Own i a
  own w i a l h f =
      let s = w.whole i a l h f in
      record {
        q = s.0;
        k = s.1;
        stands = s.2;
        number = s.3;
        same = same_there labels i s.1.label.now a (subst (λ (z : ℕ). StandsAt labels z s.1.label.now) s.3 (w.there s.0 s.1 s.2).1) h;
      }

  clash : (a b : Label A) (k m : Kept A) → k.label.now ≡ a → m.label.now ≡ b → Overlap (AtMost order) a b → order k.label.now.high m.label.now.low ≡ Less → ⊥
  clash a b k m e f o h =
      not_before total b.low a.high (overlap_ends total a b o).1
      (subst (λ (z : Label A). order z.high b.low ≡ Less) e (subst (λ (z : Label A). order k.label.now.high z.low ≡ Less) f h))

  clash_back : (a b : Label A) (k m : Kept A) → k.label.now ≡ a → m.label.now ≡ b → Overlap (AtMost order) a b → order m.label.now.high k.label.now.low ≡ Less → ⊥
  clash_back a b k m e f o h =
      not_before total a.low b.high (overlap_ends total a b o).0
      (subst (λ (z : Label A). order b.high z.low ≡ Less) e (subst (λ (z : Label A). order z.high k.label.now.low ≡ Less) f h))

  pub kept_apart : IsAlike order at → IsKept order labels n at → ApartBefore (AtMost order) labels n
  kept_apart alike w i j l o =
      let f = overlap_filled total o.label o.other o.overlap in
      let b = o.before in
      let u = own w i o.label (omega arith) o.stands f.0 in
      let v = own w j o.other l o.stands_later f.1 in
      elim (rank total u.q.now v.q.now) [
        | before h ↦ clash o.label o.other u.k v.k u.same v.same o.overlap (w.ordered.apart u.q v.q u.k v.k u.stands v.stands h)
        | level h ↦
            let e : Some u.k ≡ Some v.k = sym u.stands ∙ alike u.q v.q h ∙ v.stands in
            let same : u.k ≡ v.k = cc in
            let number : i ≡ j = cc (u.number, v.number) in
            omega arith
        | behind h ↦ clash_back o.label o.other u.k v.k u.same v.same o.overlap (w.ordered.apart v.q u.q v.k u.k v.stands u.stands h)
      ]

  -- a label that no value fits isn't kept
  pub skip : (a : Label A) → StandsAt labels n a → order a.high a.low ≡ Less → IsKept order labels n at → IsKept order labels (n + 1) at
  skip a h empty w = record {
    ordered = w.ordered;
    there = λ q k s. let t = w.there q k s in (omega arith, t.1);
    whole = λ i b l s f. elim (at_or i n l) [
      | inl less ↦ w.whole i b less s f
      | inr e ↦
          let same : b ≡ a = same_there labels n b a (subst (λ (z : ℕ). StandsAt labels z b) e s) h in
          absurd (not_before total a.low a.high (subst (IsFilled order) same f) empty)
    ];
  }

  -- where the last label that begins before a value ends before another, each that begins before the first ends before the second
  pub all_end : IsAlike order at → (high value : A) (m : Kept A) → InOrder order at → IsLast order at high m → order m.label.now.high value ≡ Less
      → (p : Bor A) (k : Kept A) → at p ≡ Some k → AtMost order p.now high → order k.label.now.high value ≡ Less
  all_end alike high value m o last h p k s l = elim (rank total p.now last.place.now) [
    | before less ↦
        before_at_most total k.label.now.high m.label.now.low value (o.apart p last.place k m s last.there less)
        (less_at_most total m.label.now.low value (at_most_before total m.label.now.low m.label.now.high value (o.filled last.place m last.there) h))
    | level e ↦
        let f : Some k ≡ Some m = sym s ∙ alike p last.place e ∙ last.there in
        let same : m ≡ k = cc in
        subst (λ (z : Kept A). order z.label.now.high value ≡ Less) same h
    | behind more ↦ absurd (not_before total p.now last.place.now (last.last p k s l) more)
  ]

  -- where no label begins at a value or before it, each that does ends before another
  pub none_ends : (high value : A) (r : Option (Bor (Kept A))) → IsLastBegun order at high (option_map (λ k. k.now) r)
      → ((k : Bor (Kept A)) → r ≡ Some k → ⊥)
      → (p : Bor A) (k : Kept A) → at p ≡ Some k → AtMost order p.now high → order k.label.now.high value ≡ Less
  none_ends high value None none never p k s l = let f : Some k ≡ None = sym s ∙ none p l in absurd cc
  none_ends high value (Some m) none never p k s l = absurd (never m refl)

  -- the last label that begins at the high end or before it overlaps one that it doesn't end before
  pub found : (a : Label A) (m : Kept A) → StandsAt labels n a → IsFilled order a → IsLast order at a.high m
      → AtMost order a.low m.label.now.high → IsKept order labels n at → OverlapsAt (AtMost order) labels m.number n
  found a m s f last k w =
      let there = w.there last.place m last.there in
      record {
        before = there.0;
        label = m.label.now;
        stands = there.1;
        other = a;
        stands_later = s;
        overlap = overlap_by_ends total m.label.now a (w.ordered.filled last.place m last.there) f
            (equal_at_most total last.place.now m.label.now.low a.high (w.ordered.own last.place m last.there) last.begun) k;
      }

  -- a label is kept where each that is held at its high end or before it ends before it
  module _ (new : Kept A) (key : Bor A) (after : Bor A → Option (Kept A))
      (put : (q : Bor A) → after q ≡ cond (is_eq (order key.now q.now)) (Some new) (at q))
      (number : new.number ≡ n) (stands : StandsAt labels n new.label.now)
      (full : IsFilled order new.label.now) (low : key.now ≡ new.label.now.low)
      (ends : (p : Bor A) (k : Kept A) → at p ≡ Some k → AtMost order p.now new.label.now.high → order k.label.now.high new.label.now.low ≡ Less)
      (w : IsKept order labels n at) where
    here : (q : Bor A) → order key.now q.now ≡ Equal → after q ≡ Some new
    here q e = put q ∙ ap (λ (o : Ordering). cond (is_eq o) (Some new) (at q)) e

    elsewhere : (q : Bor A) → (order key.now q.now ≡ Equal → ⊥) → after q ≡ at q
    elsewhere q never = put q ∙ ap (λ (b : Bool). cond b (Some new) (at q)) (unequal (order key.now q.now) never)

    -- what is held is the new label, or was held
    data Held (q : Bor A) (k : Kept A) : Type 0 where
      now_held : order key.now q.now ≡ Equal → new ≡ k → Held q k
      was_held : (order key.now q.now ≡ Equal → ⊥) → at q ≡ Some k → Held q k

    held_as : (q : Bor A) (k : Kept A) → after q ≡ Some k → Held q k
    held_as q k s = elim (rank total key.now q.now) [
      | before h ↦ let never : order key.now q.now ≡ Equal → ⊥ = λ e. absurd cc in was_held never (sym (elsewhere q never) ∙ s)
      | level h ↦ let f : Some new ≡ Some k = sym (here q h) ∙ s in now_held h cc
      | behind h ↦
          let never : order key.now q.now ≡ Equal → ⊥ = λ e. let f = equal_back total key.now q.now e in absurd cc in
          was_held never (sym (elsewhere q never) ∙ s)
    ]

    -- nothing was held at the new key
    fresh : (q : Bor A) (k : Kept A) → at q ≡ Some k → order key.now q.now ≡ Equal → ⊥
    fresh q k s e =
        let own = w.ordered.own q k s in
        let back = equal_back total key.now q.now e in
        let begun : AtMost order q.now new.label.now.high = equal_at_most total key.now q.now new.label.now.high e (subst (λ (z : A). AtMost order z new.label.now.high) (sym low) full) in
        let less = ends q k s begun in
        let filled = w.ordered.filled q k s in
        let less_low = at_most_before total k.label.now.low k.label.now.high new.label.now.low filled less in
        let from : order q.now key.now ≡ Less = total.congr q.now k.label.now.low key.now own ∙ subst (λ (z : A). order k.label.now.low z ≡ Less) (sym low) less_low in
        absurd cc

    new_before : (p q : Bor A) (m : Kept A) → order key.now p.now ≡ Equal → at q ≡ Some m → order p.now q.now ≡ Less
        → order new.label.now.high m.label.now.low ≡ Less
    new_before p q m e s less = elim (either total q.now new.label.now.high) [
      | inl up ↦
          let m_low = at_most_before total m.label.now.low m.label.now.high new.label.now.low (w.ordered.filled q m s) (ends q m s up) in
          let q_low = total.congr q.now m.label.now.low new.label.now.low (w.ordered.own q m s) ∙ m_low in
          let key_q = total.congr key.now p.now q.now e ∙ less in
          absurd (not_before total key.now q.now (less_at_most total key.now q.now key_q) (subst (λ (z : A). order q.now z ≡ Less) (sym low) q_low))
      | inr beyond ↦ sym (alike_right total q.now m.label.now.low new.label.now.high (w.ordered.own q m s)) ∙ beyond
    ]

    new_behind : (p q : Bor A) (k : Kept A) → at p ≡ Some k → order key.now q.now ≡ Equal → order p.now q.now ≡ Less
        → order k.label.now.high new.label.now.low ≡ Less
    new_behind p q k s f less =
        let p_key = alike_right total key.now q.now p.now f ∙ less in
        let p_low : order p.now new.label.now.low ≡ Less = subst (λ (z : A). order p.now z ≡ Less) low p_key in
        ends p k s (chain total p.now new.label.now.low new.label.now.high (less_at_most total p.now new.label.now.low p_low) full)

    ordered : InOrder order after
    ordered = record { own = own_after; filled = filled_after; apart = apart_after } where
      own_after : (q : Bor A) (k : Kept A) → after q ≡ Some k → order q.now k.label.now.low ≡ Equal
      own_after q k s = elim (held_as q k s) [
        | now_held e same ↦ subst (λ (z : Kept A). order q.now z.label.now.low ≡ Equal) same (subst (λ (z : A). order q.now z ≡ Equal) low (equal_back total key.now q.now e))
        | was_held never h ↦ w.ordered.own q k h
      ]

      filled_after : (q : Bor A) (k : Kept A) → after q ≡ Some k → IsFilled order k.label.now
      filled_after q k s = elim (held_as q k s) [
        | now_held e same ↦ subst (λ (z : Kept A). IsFilled order z.label.now) same full
        | was_held never h ↦ w.ordered.filled q k h
      ]

      apart_after : (p q : Bor A) (k m : Kept A) → after p ≡ Some k → after q ≡ Some m → order p.now q.now ≡ Less → order k.label.now.high m.label.now.low ≡ Less
      apart_after p q k m s t less = elim (held_as p k s) [
        | now_held e same ↦ elim (held_as q m t) [
          | now_held f also ↦ let g = total.congr key.now p.now q.now e in absurd cc
          | was_held never h ↦ subst (λ (z : Kept A). order z.label.now.high m.label.now.low ≡ Less) same (new_before p q m e h less)
        ]
        | was_held never h ↦ elim (held_as q m t) [
          | now_held f also ↦ subst (λ (z : Kept A). order k.label.now.high z.label.now.low ≡ Less) also (new_behind p q k h f less)
          | was_held never_too g ↦ w.ordered.apart p q k m h g less
        ]
      ]

    pub grow : IsKept order labels (n + 1) after
    grow = record {
      ordered = ordered;
      there = λ q k s. elim (held_as q k s) [
        | now_held e same ↦ subst (λ (z : Kept A). (z.number < n + 1) × StandsAt labels z.number z.label.now) same (omega arith, subst (λ (z : ℕ). StandsAt labels z new.label.now) (sym number) stands)
        | was_held never h ↦ let t = w.there q k h in (omega arith, t.1)
      ];
      whole = λ i b less s g. elim (at_or i n less) [
        | inl below ↦ let t = w.whole i b below s g in (t.0, t.1, elsewhere t.0 (fresh t.0 t.1 t.2) ∙ t.2, t.3)
        | inr same ↦ (key, new, here key (equal_itself total key.now), number ∙ sym same)
      ];
    }

pub apart_whole : {A : Type 0} (at_most : A → A → Type 0) (labels : List (Label A)) (n : ℕ) → length labels ≤ n → ApartBefore at_most labels n → Apart at_most labels
apart_whole at_most labels n l h i j o = let b = inside labels j o.other o.stands_later in h i j (omega arith) o
