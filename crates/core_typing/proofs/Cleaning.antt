-- Slots that name nothing, and which references of a slot's value may name something when one goes or some move.
use Rattle.std.proofs.Common.{◌≡◌, ℕ, zero, suc, ◌+◌, ◌-◌, ◌<◌, ◌≤◌, Bool, true, false, List, [], ◌∷◌, ◌++◌, length, Some}
use Rattle.std.proofs.Common.{refl, sym, ap, subst, ◌∙◌, arith, inl, inr, ⊎_elim, ◌⊎◌}
use Rattle.std.proofs.lemmas.Bool.{cases_eq, eq-eqb, ne_eqb}
use Rattle.std.specs.Prelude.{nat_eq, if◌then◌else◌}
use Rattle.limbo_types.specs.Types.{Ty}
use Rattle.limbo_layout.specs.Adts.{Def}
use Rattle.core_code.specs.Terms.{Moved, is_moved, numbers_from}
use Rattle.core_follows.proofs.Moves.{IsMoved, IsNotMoved, moved_or}
use Rattle.core_typing.specs.Held.{Held, Of, Forming, Decided, Turns, Slots, empty, slot, put, type_held, live_in, Has}
use Rattle.core_typing.specs.Held.{without, dropped, moved, staying, left_by}
use Rattle.core_typing.specs.Needs.{IsClean}
use Rattle.core_typing.proofs.Going.{put_same, put_other, put_long}

-- ---- lists of numbers

pub none_has : (ns : List ℕ) → ((j : ℕ) → Has ns j → ⊥) → ns ≡ []
none_has [] f = refl
none_has (n ∷ ns) f = absurd (f n (inl refl))

pub has_none : (ns : List ℕ) (j : ℕ) → ns ≡ [] → Has ns j → ⊥
has_none ns j e h = subst (λ (xs : List ℕ). Has xs j) e h

pub has_either : (xs ys : List ℕ) (j : ℕ) → Has (xs ++ ys) j → Has xs j ⊎ Has ys j
has_either [] ys j h = inr h
has_either (x ∷ xs) ys j (inl e) = inl (inl e)
has_either (x ∷ xs) ys j (inr h) = ⊎_elim (λ (a : Has xs j). inl (inr a)) (λ (a : Has ys j). inr a) (has_either xs ys j h)

pub has_number : (defs : List Def) (a n j : ℕ) → Has (numbers_from defs a n) j → (a ≤ j) × (j < a + n)
has_number defs a zero j h = absurd h
has_number defs a (suc n) j (inl e) = (omega (arith, e), omega (arith, e))
has_number defs a (suc n) j (inr h) = let x = has_number defs (suc a) n j h in (omega (arith, x), omega (arith, x))

without_more : (k n : ℕ) (ns : List ℕ) (b : Bool) → nat_eq k n ≡ b → without k (n ∷ ns) ≡ (if b then without k ns else n ∷ without k ns)
without_more k n ns b e = ap (λ (b : Bool). if b then without k ns else n ∷ without k ns) e

pub has_without : (k : ℕ) (ns : List ℕ) (j : ℕ) → Has (without k ns) j → Has ns j × (j ≡ k → ⊥)
has_without k [] j h = absurd h
has_without k (n ∷ ns) j h = ⊎_elim
    (λ (e : k ≡ n).
    let x = has_without k ns j (subst (λ (xs : List ℕ). Has xs j) (without_more k n ns true (eq-eqb k n e)) h) in (inr x.0, x.1))
    (λ (f : k ≡ n → ⊥). elim (subst (λ (xs : List ℕ). Has xs j) (without_more k n ns false (ne_eqb k n f)) h) [
      | inl e ↦ (inl e, λ q. f (sym q ∙ sym e))
      | inr g ↦ let x = has_without k ns j g in (inr x.0, x.1)
    ])
    (cases_eq k n)

pub has_others : (k : ℕ) (ns : List ℕ) (j : ℕ) → Has ns j → (j ≡ k → ⊥) → Has (without k ns) j
has_others k [] j h f = h
has_others k (n ∷ ns) j h f = ⊎_elim
    (λ (e : k ≡ n). subst (λ (xs : List ℕ). Has xs j) (sym (without_more k n ns true (eq-eqb k n e)))
    (elim h [ inl g ↦ absurd (f (sym g ∙ sym e)) | inr g ↦ has_others k ns j g f ]))
    (λ (e : k ≡ n → ⊥). subst (λ (xs : List ℕ). Has xs j) (sym (without_more k n ns false (ne_eqb k n e)))
    (elim h [ inl g ↦ inl g | inr g ↦ inr (has_others k ns j g f) ]))
    (cases_eq k n)

moved_more : (v : Moved) (k : ℕ) (ks : List ℕ) (b : Bool) → is_moved v v.slot k ≡ b
    → moved v (k ∷ ks) ≡ (if b then (v.at + (k - v.first)) ∷ moved v ks else moved v ks)
moved_more v k ks b e = ap (λ (b : Bool). if b then (v.at + (k - v.first)) ∷ moved v ks else moved v ks) e

staying_more : (v : Moved) (k : ℕ) (ks : List ℕ) (b : Bool) → is_moved v v.slot k ≡ b
    → staying v (k ∷ ks) ≡ (if b then staying v ks else k ∷ staying v ks)
staying_more v k ks b e = ap (λ (b : Bool). if b then staying v ks else k ∷ staying v ks) e

-- a reference that came by a move
abbrev pub Came : Moved → List ℕ → ℕ → Type 0
Came v ks j = (k : ℕ) × Has ks k × (v.first ≤ k) × (k < v.first + v.count) × (j ≡ v.at + (k - v.first))

pub has_moved : (v : Moved) (ks : List ℕ) (j : ℕ) → Has (moved v ks) j → Came v ks j
has_moved v [] j h = absurd h
has_moved v (k ∷ ks) j h = ⊎_elim
    (λ (m : IsMoved v v.slot k). elim (subst (λ (xs : List ℕ). Has xs j) (moved_more v k ks true m.is) h) [
      | inl f ↦ (k, inl refl, m.from, m.to, sym f)
      | inr f ↦ let x = has_moved v ks j f in (x.0, inr x.1, x.2, x.3, x.4)
    ])
    (λ (m : IsNotMoved v v.slot k).
    let x = has_moved v ks j (subst (λ (xs : List ℕ). Has xs j) (moved_more v k ks false m.is) h) in (x.0, inr x.1, x.2, x.3, x.4))
    (moved_or v v.slot k)

pub has_stayed : (v : Moved) (ks : List ℕ) (j : ℕ) → Has (staying v ks) j → Has ks j × (v.first ≤ j → j < v.first + v.count → ⊥)
has_stayed v [] j h = absurd h
has_stayed v (k ∷ ks) j h = ⊎_elim
    (λ (m : IsMoved v v.slot k).
    let x = has_stayed v ks j (subst (λ (xs : List ℕ). Has xs j) (staying_more v k ks true m.is) h) in (inr x.0, x.1))
    (λ (m : IsNotMoved v v.slot k). elim (subst (λ (xs : List ℕ). Has xs j) (staying_more v k ks false m.is) h) [
      | inl f ↦ (inl f, λ p q. absurd (let a = m.apart refl in elim a [ inl y ↦ omega (arith, y, f, p) | inr y ↦ omega (arith, y, f, q) ]))
      | inr f ↦ let x = has_stayed v ks j f in (inr x.0, x.1)
    ])
    (moved_or v v.slot k)

-- ---- what is known of a slot

pub clean_none : (h : Held) (j : ℕ) → IsClean h → Has (live_in h) j → ⊥
clean_none (Of t ns) j c h = has_none ns j c h
clean_none (Forming t v ks us ns) j c h = c
clean_none (Decided b) j c h = h
clean_none (Turns rs) j c h = h

pub clean_by : (h : Held) (t : Ty) → type_held h ≡ Some t → ((j : ℕ) → Has (live_in h) j → ⊥) → IsClean h
clean_by (Of u ns) t e f = none_has ns f
clean_by (Forming u v ks us ns) t e f = absurd cc
clean_by (Decided b) t e f = tt
clean_by (Turns rs) t e f = absurd cc

pub dropped_type : (k : ℕ) (h : Held) → type_held (dropped k h) ≡ type_held h
dropped_type k (Of t ns) = refl
dropped_type k (Forming t v ks us ns) = refl
dropped_type k (Decided b) = refl
dropped_type k (Turns rs) = refl

pub dropped_live : (k : ℕ) (h : Held) (t : Ty) → type_held h ≡ Some t → (j : ℕ) → Has (live_in (dropped k h)) j
    → Has (live_in h) j × (j ≡ k → ⊥)
dropped_live k (Of u ns) t e j h = has_without k ns j h
dropped_live k (Forming u v ks us ns) t e j h = absurd cc
dropped_live k (Decided b) t e j h = absurd h
dropped_live k (Turns rs) t e j h = absurd h

pub live_without : (k : ℕ) (h : Held) (j : ℕ) → Has (live_in h) j → (j ≡ k → ⊥) → Has (live_in (dropped k h)) j
live_without k (Of t ns) j h n = has_others k ns j h n
live_without k (Forming t v ks us ns) j h n = h
live_without k (Decided b) j h n = h
live_without k (Turns rs) j h n = h

pub dropped_clean : (k : ℕ) (h : Held) → IsClean h → IsClean (dropped k h)
dropped_clean k (Of t ns) c = ap (without k) c
dropped_clean k (Forming t v ks us ns) c = c
dropped_clean k (Decided b) c = tt
dropped_clean k (Turns rs) c = c

pub left_type : (v : Moved) (h : Held) → type_held (left_by v h) ≡ type_held h
left_type v (Of t ns) = refl
left_type v (Forming t x ks us ns) = refl
left_type v (Decided b) = refl
left_type v (Turns rs) = refl

pub left_live : (v : Moved) (h : Held) (t : Ty) → type_held h ≡ Some t → (j : ℕ) → Has (live_in (left_by v h)) j
    → Has (live_in h) j × (v.first ≤ j → j < v.first + v.count → ⊥)
left_live v (Of u ns) t e j h = has_stayed v ns j h
left_live v (Forming u x ks us ns) t e j h = absurd cc
left_live v (Decided b) t e j h = absurd h
left_live v (Turns rs) t e j h = absurd h

pub clean_same : (h h' : Held) → h' ≡ h → IsClean h → IsClean h'
clean_same h h' e c = subst IsClean (sym e) c

-- ---- slots that are put

pub put_equal : (xs ys : Slots) (s r : ℕ) (h : Held) → length ys ≡ length xs → slot ys r ≡ slot xs r
    → slot (put ys s h) r ≡ slot (put xs s h) r
put_equal [] [] s r h l e = e
put_equal [] (y ∷ ys) s r h l e = absurd cc
put_equal (x ∷ xs) [] s r h l e = absurd cc
put_equal (x ∷ xs) (y ∷ ys) zero zero h l e = refl
put_equal (x ∷ xs) (y ∷ ys) zero (suc r) h l e = e
put_equal (x ∷ xs) (y ∷ ys) (suc s) zero h l e = e
put_equal (x ∷ xs) (y ∷ ys) (suc s) (suc r) h l e = put_equal xs ys s r h (omega (arith, l)) e

pub put_type : (xs : Slots) (s r : ℕ) (h : Held) → type_held h ≡ type_held (slot xs s)
    → type_held (slot (put xs s h) r) ≡ type_held (slot xs r)
put_type [] s r h e = refl
put_type (x ∷ xs) zero zero h e = e
put_type (x ∷ xs) zero (suc r) h e = refl
put_type (x ∷ xs) (suc s) zero h e = refl
put_type (x ∷ xs) (suc s) (suc r) h e = put_type xs s r h e

pub put_clean : (xs : Slots) (s r : ℕ) (h : Held) → IsClean (slot xs r) → (r ≡ s → IsClean h) → IsClean (slot (put xs s h) r)
put_clean [] s r h c f = c
put_clean (x ∷ xs) zero zero h c f = f refl
put_clean (x ∷ xs) zero (suc r) h c f = c
put_clean (x ∷ xs) (suc s) zero h c f = c
put_clean (x ∷ xs) (suc s) (suc r) h c f = put_clean xs s r h c (λ e. f (ap suc e))

pub drop_equal : (xs ys : Slots) (s k r : ℕ) → length ys ≡ length xs → slot ys s ≡ slot xs s → slot ys r ≡ slot xs r
    → slot (put ys s (dropped k (slot ys s))) r ≡ slot (put xs s (dropped k (slot xs s))) r
drop_equal xs ys s k r l e f =
    put_equal xs ys s r (dropped k (slot ys s)) l f ∙ ap (λ (h : Held). slot (put xs s (dropped k h)) r) e

pub drop_clean : (xs : Slots) (s k r : ℕ) → IsClean (slot xs r) → IsClean (slot (put xs s (dropped k (slot xs s))) r)
drop_clean xs s k r c = put_clean xs s r _ c (λ e. dropped_clean k (slot xs s) (subst (λ (q : ℕ). IsClean (slot xs q)) e c))

pub put_empty : (xs : Slots) (s r : ℕ) → r ≡ s → IsClean (slot (put xs s empty) r)
put_empty xs s r e = subst (λ (q : ℕ). IsClean (slot (put xs s empty) q)) (sym e) (here xs s)
  where
    here : (xs : Slots) (s : ℕ) → IsClean (slot (put xs s empty) s)
    here [] s = refl
    here (x ∷ xs) zero = refl
    here (x ∷ xs) (suc s) = here xs s

-- Slots of which there are as many, or of which these are all there.
abbrev pub Alike : (own : ℕ → Type 0) → Slots → Slots → Type 0
Alike own xs ys = (length ys ≡ length xs) ⊎ ((s : ℕ) → own s → (s < length xs) × (s < length ys))

pub alike_put : (own : ℕ → Type 0) (xs ys : Slots) (s : ℕ) (g h : Held) → Alike own xs ys → Alike own (put xs s g) (put ys s h)
alike_put own xs ys s g h (inl l) = inl (put_long ys s h ∙ l ∙ sym (put_long xs s g))
alike_put own xs ys s g h (inr f) = inr (λ r o.
    let x = f r o in let a = put_long xs s g in let b = put_long ys s h in (omega (arith, x, a), omega (arith, x, b)))

pub put_alike : (own : ℕ → Type 0) (xs ys : Slots) (s r : ℕ) (h : Held) → own s → Alike own xs ys → slot ys r ≡ slot xs r
    → slot (put ys s h) r ≡ slot (put xs s h) r
put_alike own xs ys s r h o (inl l) e = put_equal xs ys s r h l e
put_alike own xs ys s r h o (inr f) e = ⊎_elim
    (λ (q : r ≡ s). ap (slot (put ys s h)) q ∙ put_same ys s h (f s o).1 ∙ sym (put_same xs s h (f s o).0) ∙ ap (slot (put xs s h)) (sym q))
    (λ (q : r ≡ s → ⊥). put_other ys s r h q ∙ e ∙ sym (put_other xs s r h q))
    (cases_eq r s)

pub drop_alike : (own : ℕ → Type 0) (xs ys : Slots) (s k r : ℕ) → own s → Alike own xs ys → slot ys s ≡ slot xs s → slot ys r ≡ slot xs r
    → slot (put ys s (dropped k (slot ys s))) r ≡ slot (put xs s (dropped k (slot xs s))) r
drop_alike own xs ys s k r o l e f =
    put_alike own xs ys s r (dropped k (slot ys s)) o l f ∙ ap (λ (h : Held). slot (put xs s (dropped k h)) r) e
