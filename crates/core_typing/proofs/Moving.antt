-- Drops of references that moved into another slot go well.
use Rattle.std.proofs.Common.{◌≡◌, ◌≢◌, ℕ, zero, suc, ◌+◌, ◌-◌, ◌<◌, ◌≤◌, List, [], ◌∷◌, ◌++◌, length, Option, Some}
use Rattle.std.proofs.Common.{refl, sym, ap, subst, ◌∙◌, arith, inl, inr, ⊎_elim, ◌⊎◌, take, append-nil, append_assoc}
use Rattle.std.proofs.lemmas.Bool.{cases_eq}
use Rattle.std.specs.Prelude.{slice_set, slice_index_or}
use Rattle.limbo_types.specs.Types as ty
use Rattle.limbo_types.specs.Types.{Ty}
use Rattle.limbo_layout.specs.Adts.{Def}
use Rattle.limbo_typed.specs.declared.operation.Operation.{Operation}
use Rattle.limbo_typed.specs.declared.operation.Operation.TheVariants as operation
use Rattle.limbo_meaning.specs.Values.{nothing, fitted}
use Rattle.core_code.specs.Code.{Instr, Back}
use Rattle.core_code.specs.Terms.{Moved, drops_after, drops_after_all, moves_into, moves_out, count_of, count_all, part_types}
use Rattle.core_code.proofs.Whole.{values_are_whole}
use Rattle.core_follows.specs.Drops.{Between, Apart, AllSpare}
use Rattle.core_follows.specs.Handled.{StandsFor, HasLayout, Makes, Takes}
use Rattle.core_follows.proofs.Static.{after_touch}
use Rattle.core_follows.proofs.Moves.{IsMoved, IsNotMoved, moved_or, to_moved, to_same, after_more, after_long, after_apart, spare_tail}
use Rattle.core_follows.proofs.Valued.{spare_after_one}
use Rattle.core_follows.proofs.Given.{counted}
use Rattle.core_typing.specs.Held.{Held, Of, Slots, empty, slot, put, type_held, live_in, Has, dropped, moved, left_by}
use Rattle.core_typing.specs.Needs.{IsClean}
use Rattle.core_typing.proofs.Cleaning.{Came, has_moved, has_either, clean_by, clean_none, clean_same, dropped_type, dropped_live}
use Rattle.core_typing.proofs.Cleaning.{live_without, left_type, left_live, put_equal, drop_equal}
use Rattle.core_typing.proofs.Going.{put_same, put_other, put_long}
use Rattle.core_typing.proofs.Drops.{Lets, none, one, enters, passes, takes}

-- ---- one move

-- What is known of a slot and of the one that its references move into, before and after; there is a value of this type then.
pub record Moves (defs : List Def) (v : Moved) (type : Ty) (from into from' into' : Held) : Type 0 where
  pub there : type_held into' ≡ Some type
  pub moved : (k : ℕ) → v.first ≤ k → k < v.first + v.count → v.at + (k - v.first) < count_of defs type
  pub came : (j : ℕ) → Has (live_in into') j → Has (live_in into) j ⊎ Came v (live_in from) j
  pub left : (k : ℕ) (u : Ty) → (k < v.first) ⊎ (v.first + v.count ≤ k) → type_held from ≡ Some u → k < count_of defs u
      → type_held from' ≡ Some u
  pub held : (w : Ty) × (type_held from' ≡ Some w)
  pub stays : (j : ℕ) → Has (live_in from') j → Has (live_in from) j × (v.first ≤ j → j < v.first + v.count → ⊥)

moves_same : (defs : List Def) (v : Moved) (t : Ty) (from into from' into' f i f' i' : Held) → from ≡ f → into ≡ i → from' ≡ f' → into' ≡ i'
    → Moves defs v t f i f' i' → Moves defs v t from into from' into'
moves_same defs v t from into from' into' f i f' i' a b c d m =
    subst (λ (x : Held). Moves defs v t x into from' into') (sym a) (subst (λ (x : Held). Moves defs v t f x from' into') (sym b)
    (subst (λ (x : Held). Moves defs v t f i x into') (sym c) (subst (λ (x : Held). Moves defs v t f i f' x) (sym d) m)))

module _ (defs : List Def) (v : Moved) (t : Ty) (from into from' into' : Held) (m : Moves defs v t from into from' into') where
  -- A reference that moved goes.
  moved_goes : (k : ℕ) → v.first ≤ k → k < v.first + v.count
      → Moves defs v t (dropped k from) into from' (dropped (v.at + (k - v.first)) into')
  moved_goes k p q = record {
    there = dropped_type (v.at + (k - v.first)) into' ∙ m.there;
    moved = m.moved;
    came = λ j h. let x = dropped_live (v.at + (k - v.first)) into' t m.there j h in elim (m.came j x.0) [
      | inl y ↦ inl y
      | inr y ↦ inr (y.0, live_without k from y.0 y.1 (λ e. x.1 (y.4 ∙ ap (λ (z : ℕ). v.at + (z - v.first)) e)), y.2, y.3, y.4)
    ];
    left = λ i u o e l. m.left i u o (sym (dropped_type k from) ∙ e) l;
    held = m.held;
    stays = λ j h. let x = m.stays j h in (
      live_without k from j x.0
          (λ e. x.1 (subst (λ (z : ℕ). v.first ≤ z) (sym e) p) (subst (λ (z : ℕ). z < v.first + v.count) (sym e) q)),
      x.1,
    );
  }

  -- One that stayed goes.
  stayed_goes : (k : ℕ) → (k < v.first) ⊎ (v.first + v.count ≤ k) → Moves defs v t (dropped k from) into (dropped k from') into'
  stayed_goes k o = record {
    there = m.there;
    moved = m.moved;
    came = λ j h. elim (m.came j h) [
      | inl y ↦ inl y
      | inr y ↦ inr (
        y.0,
        live_without k from y.0 y.1
            (λ e. absurd (let a = y.2 in let b = y.3 in elim o [ inl x ↦ omega (arith, x, a, e) | inr x ↦ omega (arith, x, b, e) ])),
        y.2,
        y.3,
        y.4,
      )
    ];
    left = λ i u o e l. dropped_type k from' ∙ m.left i u o (sym (dropped_type k from) ∙ e) l;
    held = (m.held.0, dropped_type k from' ∙ m.held.1);
    stays = λ j h. let x = dropped_live k from' m.held.0 m.held.1 j h in let y = m.stays j x.0 in (live_without k from j y.0 x.1, y.1);
  }

  -- One of those that were there goes.
  old_goes : (k : ℕ) → Moves defs v t from (dropped k into) from' (dropped k into')
  old_goes k = record {
    there = dropped_type k into' ∙ m.there;
    moved = m.moved;
    came = λ j h. let x = dropped_live k into' t m.there j h in elim (m.came j x.0) [
      | inl y ↦ inl (live_without k into j y x.1)
      | inr y ↦ inr y
    ];
    left = m.left;
    held = m.held;
    stays = m.stays;
  }

  -- Where nothing is named before, nothing is behind.
  came_clean : IsClean from → IsClean into → IsClean into'
  came_clean c d =
      clean_by into' t m.there (λ j h. elim (m.came j h) [ inl y ↦ clean_none into j d y | inr y ↦ clean_none from y.0 c y.1 ])

  stay_clean : IsClean from → IsClean from'
  stay_clean c = clean_by from' m.held.0 m.held.1 (λ j h. clean_none from j c (m.stays j h).0)

drop_here : (slots : Slots) (s k r : ℕ) → s < length slots → r ≡ s
    → slot (put slots s (dropped k (slot slots s))) r ≡ dropped k (slot slots r)
drop_here slots s k r l e =
    ap (slot (put slots s (dropped k (slot slots s)))) e ∙ put_same slots s (dropped k (slot slots s)) l
    ∙ ap (λ (q : ℕ). dropped k (slot slots q)) (sym e)

pub record GoesOver (defs : List Def) (tells : ℕ → Option Ty) (v : Moved) (slots slots' : Slots) : Type 0 where
  pub long : length slots' ≡ length slots
  pub apart : v.slot ≡ v.into → ⊥
  pub here : v.slot < length slots
  pub inside : v.into < length slots
  pub type : Ty
  pub told : tells v.into ≡ Some type
  pub moves : Moves defs v type (slot slots v.slot) (slot slots v.into) (slot slots' v.slot) (slot slots' v.into)
  pub others : (d : ℕ) → (d ≡ v.slot → ⊥) → (d ≡ v.into → ⊥) → slot slots' d ≡ slot slots d

module _ (defs : List Def) (tells : ℕ → Option Ty) (v : Moved) (slots slots' : Slots) (g : GoesOver defs tells v slots slots') where
  abbrev M : Held → Held → Held → Held → Type 0
  M a b c d = Moves defs v g.type a b c d

  -- A slot is put there and one here.
  over_put : (s s' : ℕ) (h h' from into from' into' : Held) → slot (put slots s h) v.slot ≡ from → slot (put slots s h) v.into ≡ into
      → slot (put slots' s' h') v.slot ≡ from' → slot (put slots' s' h') v.into ≡ into' → M from into from' into'
      → ((d : ℕ) → (d ≡ v.slot → ⊥) → (d ≡ v.into → ⊥) → slot (put slots' s' h') d ≡ slot (put slots s h) d)
      → GoesOver defs tells v (put slots s h) (put slots' s' h')
  over_put s s' h h' from into from' into' a b c d m f =
      let long1 = put_long slots s h in
      let i = g.here in
      let j = g.inside in
      record {
        long = put_long slots' s' h' ∙ g.long ∙ sym long1;
        apart = g.apart;
        here = omega (arith, long1, i);
        inside = omega (arith, long1, j);
        type = g.type;
        told = g.told;
        moves = moves_same defs v g.type _ _ _ _ from into from' into' a b c d m;
        others = f;
      }

  over_moved : (s k : ℕ) → IsMoved v s k
      → GoesOver defs tells v (put slots s (dropped k (slot slots s)))
      (put slots' v.into (dropped (v.at + (k - v.first)) (slot slots' v.into)))
  over_moved s k n =
      let e = n.slot in
      let j : ℕ = v.at + (k - v.first) in
      let long = g.long in
      let here = g.here in
      let inside = g.inside in
      over_put s v.into (dropped k (slot slots s)) (dropped j (slot slots' v.into)) (dropped k (slot slots v.slot)) (slot slots v.into)
      (slot slots' v.slot) (dropped j (slot slots' v.into))
      (drop_here slots s k v.slot (subst (λ (q : ℕ). q < length slots) e here) e)
      (put_other slots s v.into _ (λ q. g.apart (e ∙ sym q)))
      (put_other slots' v.into v.slot _ g.apart)
      (put_same slots' v.into _ (omega (arith, long, inside)))
      (moved_goes defs v g.type _ _ _ _ g.moves k n.from n.to)
      (λ d p q. put_other slots' v.into d _ q ∙ g.others d p q ∙ sym (put_other slots s d _ (λ z. p (z ∙ sym e))))

  over_stayed : (s k : ℕ) → s ≡ v.slot → (k < v.first) ⊎ (v.first + v.count ≤ k)
      → GoesOver defs tells v (put slots s (dropped k (slot slots s))) (put slots' s (dropped k (slot slots' s)))
  over_stayed s k e o =
      let long = g.long in
      let here = g.here in
      let in_it : s < length slots = subst (λ (q : ℕ). q < length slots) (sym e) here in
      over_put s s (dropped k (slot slots s)) (dropped k (slot slots' s)) (dropped k (slot slots v.slot)) (slot slots v.into)
      (dropped k (slot slots' v.slot)) (slot slots' v.into)
      (drop_here slots s k v.slot in_it (sym e))
      (put_other slots s v.into _ (λ q. g.apart (sym (q ∙ e))))
      (drop_here slots' s k v.slot (omega (arith, long, in_it)) (sym e))
      (put_other slots' s v.into _ (λ q. g.apart (sym (q ∙ e))))
      (stayed_goes defs v g.type _ _ _ _ g.moves k o)
      (λ d p q. put_other slots' s d _ (λ z. p (z ∙ e)) ∙ g.others d p q ∙ sym (put_other slots s d _ (λ z. p (z ∙ e))))

  over_old : (s k : ℕ) → s ≡ v.into
      → GoesOver defs tells v (put slots s (dropped k (slot slots s))) (put slots' s (dropped k (slot slots' s)))
  over_old s k e =
      let long = g.long in
      let inside = g.inside in
      let in_it : s < length slots = subst (λ (q : ℕ). q < length slots) (sym e) inside in
      over_put s s (dropped k (slot slots s)) (dropped k (slot slots' s)) (slot slots v.slot) (dropped k (slot slots v.into))
      (slot slots' v.slot) (dropped k (slot slots' v.into))
      (put_other slots s v.slot _ (λ q. g.apart (q ∙ e)))
      (drop_here slots s k v.into in_it (sym e))
      (put_other slots' s v.slot _ (λ q. g.apart (q ∙ e)))
      (drop_here slots' s k v.into (omega (arith, long, in_it)) (sym e))
      (old_goes defs v g.type _ _ _ _ g.moves k)
      (λ d p q. put_other slots' s d _ (λ z. q (z ∙ e)) ∙ g.others d p q ∙ sym (put_other slots s d _ (λ z. q (z ∙ e))))

  over_other : (s k : ℕ) → (s ≡ v.slot → ⊥) → (s ≡ v.into → ⊥)
      → GoesOver defs tells v (put slots s (dropped k (slot slots s))) (put slots' s (dropped k (slot slots' s)))
  over_other s k e f =
      over_put s s (dropped k (slot slots s)) (dropped k (slot slots' s)) (slot slots v.slot) (slot slots v.into)
      (slot slots' v.slot) (slot slots' v.into)
      (put_other slots s v.slot _ (λ q. e (sym q))) (put_other slots s v.into _ (λ q. f (sym q)))
      (put_other slots' s v.slot _ (λ q. e (sym q))) (put_other slots' s v.into _ (λ q. f (sym q))) g.moves
      (λ d p q. drop_equal slots slots' s k d g.long (g.others s e f) (g.others d p q))

  over_loop : (c : ℕ) → (c ≡ v.slot → ⊥) → (c ≡ v.into → ⊥) → GoesOver defs tells v (put slots c empty) (put slots' c empty)
  over_loop c e f =
      over_put c c empty empty (slot slots v.slot) (slot slots v.into) (slot slots' v.slot) (slot slots' v.into)
      (put_other slots c v.slot _ (λ q. e (sym q))) (put_other slots c v.into _ (λ q. f (sym q)))
      (put_other slots' c v.slot _ (λ q. e (sym q))) (put_other slots' c v.into _ (λ q. f (sym q))) g.moves
      (λ d p q. put_equal slots slots' c d empty g.long (g.others d p q))

module _ (defs : List Def) (tells : ℕ → Option Ty) where
  pub move_lets : (lo hi : ℕ) (v : Moved) (slots slots' : Slots) (ds : List Instr) → Between lo hi v.slot
      → GoesOver defs tells v slots slots' → AllSpare v.slot ds
      → AllSpare v.into ds → Lets defs lo hi tells slots ds → Lets defs lo hi tells slots' (drops_after v ds)
  move_lets lo hi v slots slots' ds b g sp si (none f) = none (λ r p q. ⊎_elim
      (λ (e : r ≡ v.slot). subst (λ (z : ℕ). IsClean (slot slots' z)) (sym e)
      (stay_clean defs v g.type _ _ _ _ g.moves (f v.slot b.0 b.1)))
      (λ (e : r ≡ v.slot → ⊥). ⊎_elim
      (λ (i : r ≡ v.into). subst (λ (z : ℕ). IsClean (slot slots' z)) (sym i)
      (came_clean defs v g.type _ _ _ _ g.moves (f v.slot b.0 b.1) (subst (λ (z : ℕ). IsClean (slot slots z)) i (f r p q))))
      (λ (i : r ≡ v.into → ⊥). clean_same (slot slots r) (slot slots' r) (g.others r e i) (f r p q))
      (cases_eq r v.into))
      (cases_eq r v.slot))
  move_lets lo hi v slots slots' ds b g sp si (one {is = is} s k t e o c d) =
      let slots1 = put slots s (dropped k (slot slots s)) in
      let here1 = put slots' s (dropped k (slot slots' s)) in
      let j : ℕ = v.at + (k - v.first) in
      ⊎_elim
      (λ (n : IsMoved v s k). subst (λ (i : Instr). Lets defs lo hi tells slots' (i ∷ drops_after v is)) (sym (to_moved v s k n.is))
      (one v.into j g.type g.moves.there g.told (g.moves.moved k n.from n.to)
      (move_lets lo hi v slots1 (put slots' v.into (dropped j (slot slots' v.into))) is b
      (over_moved defs tells v slots slots' g s k n) sp.1 si.1 d)))
      (λ (n : IsNotMoved v s k). subst (λ (i : Instr). Lets defs lo hi tells slots' (i ∷ drops_after v is)) (sym (to_same v s k n.is))
      (⊎_elim
      (λ (f : s ≡ v.slot).
      let x = g.moves.left k t (n.apart (sym f)) (subst (λ (r : ℕ). type_held (slot slots r) ≡ Some t) f e) c in
      one s k t (subst (λ (r : ℕ). type_held (slot slots' r) ≡ Some t) (sym f) x) o c
      (move_lets lo hi v slots1 here1 is b (over_stayed defs tells v slots slots' g s k f (n.apart (sym f))) sp.1 si.1 d))
      (λ (f : s ≡ v.slot → ⊥). ⊎_elim
      (λ (i : s ≡ v.into).
      let x : Some t ≡ Some g.type = sym o ∙ subst (λ (r : ℕ). tells r ≡ Some g.type) (sym i) g.told in
      let y : t ≡ g.type = cc in
      one s k g.type (subst (λ (r : ℕ). type_held (slot slots' r) ≡ Some g.type) (sym i) g.moves.there) (o ∙ x)
      (subst (λ (z : Ty). k < count_of defs z) y c)
      (move_lets lo hi v slots1 here1 is b (over_old defs tells v slots slots' g s k i) sp.1 si.1 d))
      (λ (i : s ≡ v.into → ⊥). one s k t (ap type_held (g.others s f i) ∙ e) o c
      (move_lets lo hi v slots1 here1 is b (over_other defs tells v slots slots' g s k f i) sp.1 si.1 d))
      (cases_eq s v.into))
      (cases_eq s v.slot)))
      (moved_or v s k)
  move_lets lo hi v slots slots' ds b g sp si (enters {is = is} d n e x) =
      enters d n (g.others d (λ q. sp.0 (sym q)) (λ q. si.0 (sym q)) ∙ e) (move_lets lo hi v slots slots' is b g sp.1 si.1 x)
  move_lets lo hi v slots slots' ds b g sp si (passes d n skipped is e f l x) =
      passes d n (drops_after v skipped) (drops_after v is) (g.others d (λ q. sp.0 (sym q)) (λ q. si.0 (sym q)) ∙ e)
      (ap (drops_after v) f ∙ after_more v skipped is) (l ∙ sym (after_long v skipped))
      (move_lets lo hi v slots slots' is b g (spare_tail v.slot skipped is (subst (AllSpare v.slot) f sp.1))
      (spare_tail v.into skipped is (subst (AllSpare v.into) f si.1)) x)
  move_lets lo hi v slots slots' ds b g sp si (takes c from words n es is rs turned e l wl cl te tj tu ts x f ln) =
      let back = Back (suc (length es)) ∷ is in
      takes c from words n es (drops_after v is) rs turned (g.others c (λ q. sp.0.0 (sym q)) (λ q. si.0.0 (sym q)) ∙ e) l wl
      (λ r p q. clean_same (slot slots r) (slot slots' r) (g.others r
      (λ z. sp.0.1 (subst (λ (y : ℕ). from ≤ y) z p) (subst (λ (y : ℕ). y < from + words) z q))
      (λ z. si.0.1 (subst (λ (y : ℕ). from ≤ y) z p) (subst (λ (y : ℕ). y < from + words) z q))) (cl r p q)) te
      (after_touch (Apart c from words) v is si.0 tj) tu ts
      (move_lets lo hi v (put slots c empty) (put slots' c empty) is b
      (over_loop defs tells v slots slots' g c (λ q. sp.0.0 (sym q)) (λ q. si.0.0 (sym q)))
      ((spare_tail v.slot es back (subst (AllSpare v.slot) f sp.1)).1) ((spare_tail v.into es back (subst (AllSpare v.into) f si.1)).1) x)
      (ap (drops_after v) f ∙ after_more v es back
      ∙ ap (λ (xs : List Instr). xs ++ drops_after v back) (after_apart v from (from + words) es (λ p q. sp.0.1 p q) te)) ln

-- ---- slots that are emptied

pub set_again : (xs : Slots) (s : ℕ) (a b : Held) → slice_set (slice_set xs s a) s b ≡ slice_set xs s b
set_again [] s a b = refl
set_again (x ∷ xs) zero a b = refl
set_again (x ∷ xs) (suc s) a b = ap (λ (ys : Slots). x ∷ ys) (set_again xs s a b)

pub set_itself : (xs : Slots) (s : ℕ) → put xs s (slot xs s) ≡ xs
set_itself [] s = refl
set_itself (x ∷ xs) zero = refl
set_itself (x ∷ xs) (suc s) = ap (λ (ys : Slots). x ∷ ys) (set_itself xs s)

set_apart : (xs : Slots) (s r : ℕ) (a b : Held) → (s ≡ r → ⊥) → slice_set (slice_set xs s a) r b ≡ slice_set (slice_set xs r b) s a
set_apart [] s r a b n = refl
set_apart (x ∷ xs) zero zero a b n = absurd (n refl)
set_apart (x ∷ xs) zero (suc r) a b n = refl
set_apart (x ∷ xs) (suc s) zero a b n = refl
set_apart (x ∷ xs) (suc s) (suc r) a b n = ap (λ (ys : Slots). x ∷ ys) (set_apart xs s r a b (λ e. n (ap suc e)))

-- None of the slots is another one of them.
abbrev pub DiffersFrom : ℕ → List ℕ → Type 0
DiffersFrom s [] = Unit {0}
DiffersFrom s (d ∷ ds) = (s ≢ d) × DiffersFrom s ds

abbrev pub AllDiffer : List ℕ → Type 0
AllDiffer [] = Unit {0}
AllDiffer (s ∷ ss) = DiffersFrom s ss × AllDiffer ss

abbrev pub emptied : Slots → List ℕ → Slots
emptied slots [] = slots
emptied slots (s ∷ ss) = put (emptied slots ss) s empty

pub emptied_put : (slots : Slots) (s : ℕ) (h : Held) (ss : List ℕ) → DiffersFrom s ss
    → emptied (put slots s h) ss ≡ put (emptied slots ss) s h
emptied_put slots s h [] d = refl
emptied_put slots s h (r ∷ ss) d =
    ap (λ (xs : Slots). put xs r empty) (emptied_put slots s h ss d.1) ∙ set_apart (emptied slots ss) s r h empty d.0

pub emptied_other : (slots : Slots) (ss : List ℕ) (d : ℕ) → DiffersFrom d ss → slot (emptied slots ss) d ≡ slot slots d
emptied_other slots [] d h = refl
emptied_other slots (s ∷ ss) d h = put_other (emptied slots ss) s d empty h.0 ∙ emptied_other slots ss d h.1

pub long_emptied : (slots : Slots) (ss : List ℕ) → length (emptied slots ss) ≡ length slots
long_emptied slots [] = refl
long_emptied slots (s ∷ ss) = put_long (emptied slots ss) s empty ∙ long_emptied slots ss

-- ---- all moves, one after the other

-- All that move from slots into one.
abbrev pub all_moved : List Moved → Slots → List ℕ
all_moved [] slots = []
all_moved (v ∷ vs) slots = moved v (live_in (slot slots v.slot)) ++ all_moved vs slots

-- No drop brings anything back into one of these slots.
abbrev pub SpareEach : List ℕ → List Instr → Type 0
SpareEach [] ds = Unit {0}
SpareEach (s ∷ ss) ds = AllSpare s ds × SpareEach ss ds

spare_each_after : (v : Moved) (ss : List ℕ) (ds : List Instr) → SpareEach ss ds → SpareEach ss (drops_after v ds)
spare_each_after v [] ds h = tt
spare_each_after v (s ∷ ss) ds h = (spare_after_one s v ds h.0, spare_each_after v ss ds h.1)

abbrev pub EachIn : (lo hi : ℕ) → List ℕ → Type 0
EachIn lo hi [] = Unit {0}
EachIn lo hi (s ∷ ss) = Between lo hi s × EachIn lo hi ss

module _ (defs : List Def) (P : List Ty) where
  -- values in slots have no more references than the parts that they become
  abbrev pub Suit : Slots → (numbers from : List ℕ) → Type 0
  Suit slots [] [] = Unit {0}
  Suit slots (n ∷ ns) (s ∷ ss) =
      ((u : Ty) × (type_held (slot slots s) ≡ Some u) × (count_of defs u ≤ count_of defs (slice_index_or P n ty.Int))) × Suit slots ns ss
  Suit slots _ _ = ⊥

  suit_put : (slots : Slots) (s : ℕ) (h : Held) (ns ss : List ℕ) → DiffersFrom s ss → Suit slots ns ss → Suit (put slots s h) ns ss
  suit_put slots s h [] [] d f = tt
  suit_put slots s h [] (r ∷ ss) d f = absurd f
  suit_put slots s h (n ∷ ns) [] d f = absurd f
  suit_put slots s h (n ∷ ns) (r ∷ ss) d f = (
    (f.0.0, ap type_held (put_other slots s r h (λ e. d.0 (sym e))) ∙ f.0.1, f.0.2),
    suit_put slots s h ns ss d.1 f.1,
  )

  pub moved_same : (slots : Slots) (d into : ℕ) (h : Held) (ns ss : List ℕ) → DiffersFrom d ss
      → all_moved (moves_into defs P into ns ss) (put slots d h) ≡ all_moved (moves_into defs P into ns ss) slots
  moved_same slots d into h [] ss f = refl
  moved_same slots d into h (n ∷ ns) [] f = refl
  moved_same slots d into h (n ∷ ns) (s ∷ ss) f =
      let at : ℕ = count_all defs (take n P) in
      let c : ℕ = count_of defs (slice_index_or P n ty.Int) in
      let m : Moved = record { slot = s; first = 0; count = c; into = into; at = at } in
      ap (λ (x : Held). moved m (live_in x) ++ all_moved (moves_into defs P into ns ss) (put slots d h))
      (put_other slots d s h (λ e. f.0 (sym e)))
      ∙ ap (λ (xs : List ℕ). moved m (live_in (slot slots s)) ++ xs) (moved_same slots d into h ns ss f.1)

  pub moves_lets : (tells : ℕ → Option Ty) (lo hi : ℕ) (t : Ty) (into : ℕ) (ns ss : List ℕ) (slots : Slots) (live : List ℕ)
      (ds : List Instr)
      → ((n : ℕ) → count_all defs (take n P) + count_of defs (slice_index_or P n ty.Int) ≤ count_of defs t) → slot slots into ≡ Of t live
      → into < length slots → hi ≤ length slots
      → tells into ≡ Some t → Suit slots ns ss → EachIn lo hi ss → AllDiffer ss → DiffersFrom into ss → SpareEach ss ds → AllSpare into ds
      → Lets defs lo hi tells slots ds
      → Lets defs lo hi tells (put (emptied slots ss) into (Of t (live ++ all_moved (moves_into defs P into ns ss) slots)))
      (drops_after_all (moves_into defs P into ns ss) ds)
  moves_lets tells lo hi t into [] [] slots live ds b e i j o f w a ai sp si d =
      subst (λ (xs : Slots). Lets defs lo hi tells xs ds)
      (sym (ap (λ (ns : List ℕ). put slots into (Of t ns)) (append-nil live) ∙ ap (put slots into) (sym e) ∙ set_itself slots into)) d
  moves_lets tells lo hi t into [] (s ∷ ss) slots live ds b e i j o f w a ai sp si d = absurd f
  moves_lets tells lo hi t into (n ∷ ns) [] slots live ds b e i j o f w a ai sp si d = absurd f
  moves_lets tells lo hi t into (n ∷ ns) (s ∷ ss) slots live ds b e i j o f w a ai sp si d =
      let at : ℕ = count_all defs (take n P) in
      let c : ℕ = count_of defs (slice_index_or P n ty.Int) in
      let m : Moved = record { slot = s; first = 0; count = c; into = into; at = at } in
      let came = moved m (live_in (slot slots s)) in
      let now = Of t (live ++ came) in
      let out = put slots s empty in
      let next = put out into now in
      let rest = moves_into defs P into ns ss in
      let long1 = put_long slots s empty in
      let long2 = put_long out into now in
      let s_in : s < length slots = let y = w.0.1 in omega (arith, y, j) in
      let here : slot next into ≡ now = put_same out into now (omega (arith, long1, i)) in
      let moves : Moves defs m t (slot slots s) (slot slots into) (slot next s) (slot next into) =
      moves_same defs m t (slot slots s) (slot slots into) (slot next s) (slot next into) (slot slots s) (Of t live) empty now refl e
      (put_other out into s now (λ z. ai.0 (sym z)) ∙ put_same slots s empty s_in) here
      (record {
        there = refl;
        moved = λ k p q. let x = b n in omega (arith, x, q);
        came = λ k h. elim (has_either live came k h) [ inl y ↦ inl y | inr y ↦ inr (has_moved m (live_in (slot slots s)) k y) ];
        left = λ k u p g l. absurd
            (let x = f.0.2 in
            let y : Some u ≡ Some f.0.0 = sym g ∙ f.0.1 in
            let z : u ≡ f.0.0 = cc in
            let w = ap (count_of defs) z in
            elim p [ inl h ↦ omega (arith, h) | inr h ↦ omega (arith, h, x, w, l) ]);
        held = (ty.Nothing, refl);
        stays = λ k h. absurd h;
      }) in
      let over : GoesOver defs tells m slots next = record {
        long = long2 ∙ long1;
        apart = λ z. ai.0 (sym z);
        here = s_in;
        inside = i;
        type = t;
        told = o;
        moves = moves;
        others = λ r p q. put_other out into r now q ∙ put_other slots s r empty p;
      } in
      let same : put (emptied next ss) into (Of t ((live ++ came) ++ all_moved rest next))
      ≡ put (put (emptied slots ss) s empty) into (Of t (live ++ (came ++ all_moved rest slots))) =
      ap (λ (xs : Slots). put xs into (Of t ((live ++ came) ++ all_moved rest next)))
      (emptied_put out into now ss ai.1 ∙ ap (λ (xs : Slots). put xs into now) (emptied_put slots s empty ss a.0))
      ∙ set_again (put (emptied slots ss) s empty) into now (Of t ((live ++ came) ++ all_moved rest next))
      ∙ ap (λ (xs : List ℕ). put (put (emptied slots ss) s empty) into (Of t xs))
      (ap (λ (xs : List ℕ). (live ++ came) ++ xs) (moved_same out into into now ns ss ai.1 ∙ moved_same slots s into empty ns ss a.0)
      ∙ append_assoc live came (all_moved rest slots)) in
      subst (λ (xs : Slots). Lets defs lo hi tells xs (drops_after_all rest (drops_after m ds))) same
      (moves_lets tells lo hi t into ns ss next (live ++ came) (drops_after m ds) b here (omega (arith, long1, long2, i))
      (omega (arith, long1, long2, j)) o
      (suit_put out into now ns ss ai.1 (suit_put slots s empty ns ss a.0 f.1)) w.1 a.1 ai.1
      (spare_each_after m ss ds sp.1) (spare_after_one into m ds si) (move_lets defs tells lo hi m slots next ds w.0 over sp.0 si d))

  -- What moves into a new slot, which names nothing before.
  pub gather_lets : (tells : ℕ → Option Ty) (lo mid : ℕ) (t : Ty) (ns ss : List ℕ) (slots : Slots) (ds : List Instr)
      → ((n : ℕ) → count_all defs (take n P) + count_of defs (slice_index_or P n ty.Int) ≤ count_of defs t) → mid < length slots
      → tells mid ≡ Some t → Suit (put slots mid (Of t [])) ns ss → EachIn lo (suc mid) ss → AllDiffer ss → DiffersFrom mid ss
      → SpareEach ss ds → AllSpare mid ds → Lets defs lo (suc mid) tells (put slots mid (Of t [])) ds
      → Lets defs lo (suc mid) tells (put (emptied slots ss) mid (Of t (all_moved (moves_into defs P mid ns ss) slots)))
      (drops_after_all (moves_into defs P mid ns ss) ds)
  gather_lets tells lo mid t ns ss slots ds b i o f w a ai sp si d =
      let h = Of t [] in
      let ms = moves_into defs P mid ns ss in
      let long = put_long slots mid h in
      subst (λ (xs : Slots). Lets defs lo (suc mid) tells xs (drops_after_all ms ds))
      (ap (λ (xs : Slots). put xs mid (Of t (all_moved ms (put slots mid h)))) (emptied_put slots mid h ss ai)
      ∙ set_again (emptied slots ss) mid h (Of t (all_moved ms (put slots mid h)))
      ∙ ap (λ (xs : List ℕ). put (emptied slots ss) mid (Of t xs)) (moved_same slots mid mid h ns ss ai))
      (moves_lets tells lo (suc mid) t mid ns ss (put slots mid h) [] ds b (put_same slots mid h i) (omega (arith, long, i))
      (omega (arith, long, i)) o f w a ai sp si d)

-- ---- the parts of tuples and of adts' values

module _ (defs : List Def) where
  pub part_below : (P : List Ty) (n : ℕ) → count_all defs (take n P) + count_of defs (slice_index_or P n ty.Int) ≤ count_all defs P
  part_below [] zero = omega arith
  part_below [] (suc n) = omega arith
  part_below (t ∷ P) zero = omega arith
  part_below (t ∷ P) (suc n) = let a = part_below P n in omega arith

  pub whole_counted : (t : Ty) → HasLayout defs t → count_of defs t ≡ count_all defs (part_types defs t)
  whole_counted (ty.Tuple us) h = values_are_whole.counts_of_tuples defs us
  whole_counted (ty.Adt n) h = values_are_whole.counts_of_adts defs n h.2.0 h.2.1
  whole_counted _ h = absurd h

  pub made_laid : (t : Ty) (o : Operation) (ts : List Ty) → Makes defs t o ts → HasLayout defs t
  made_laid (ty.Tuple us) operation.Tuple ts m = tt
  made_laid (ty.Adt k) (operation.Adt n v) ts m = (m.1.0, m.1.1, m.1.2)
  made_laid _ _ ts m = absurd m

  -- ---- a part that is taken out

  stands_counted : (t u : Ty) → StandsFor defs t u → count_of defs t ≡ count_of defs u
  stands_counted t u s = sym (ap length (s (fitted defs t nothing) (inl (nothing, refl)))) ∙ counted defs u (fitted defs t nothing)

  pub pick_lets : (tells : ℕ → Option Ty) (u v t : Ty) (k : ℕ) (slots : Slots) (lo mid from : ℕ) (ds : List Instr)
      → tells mid ≡ Some t → mid < length slots → Between lo mid from → type_held (slot slots from) ≡ Some v
      → AllSpare from ds → AllSpare mid ds → Takes defs u k t → Lets defs lo (suc mid) tells (put slots mid (Of t [])) ds
      → Lets defs lo (suc mid) tells (put (put slots from (left_by (moves_out defs u k from mid) (slot slots from))) mid
      (Of t (moved (moves_out defs u k from mid) (live_in (slot slots from))))) (drops_after (moves_out defs u k from mid) ds)
  pick_lets tells u v t k slots lo mid from ds o l b e sp si s d =
      let m : Moved = moves_out defs u k from mid in
      let h = slot slots from in
      let now = Of t (moved m (live_in h)) in
      let out = put slots from (left_by m h) in
      let first = put slots mid (Of t []) in
      let last = put out mid now in
      let long0 = put_long slots mid (Of t []) in
      let long1 = put_long slots from (left_by m h) in
      let long2 = put_long out mid now in
      let n = stands_counted (slice_index_or (part_types defs u) k ty.Nothing) t s.2 in
      let apart : from ≡ mid → ⊥ = λ z. absurd (let y = b.1 in omega (arith, y, z)) in
      let from_in : from < length slots = let y = b.1 in omega (arith, y, l) in
      let over : GoesOver defs tells m first last = record {
        long = long2 ∙ long1 ∙ sym long0;
        apart = apart;
        here = omega (arith, long0, from_in);
        inside = omega (arith, long0, l);
        type = t;
        told = o;
        moves = moves_same defs m t (slot first from) (slot first mid) (slot last from) (slot last mid) h (Of t []) (left_by m h) now
            (put_other slots mid from (Of t []) apart) (put_same slots mid (Of t []) l)
            (put_other out mid from now apart ∙ put_same slots from (left_by m h) from_in)
            (put_same out mid now (omega (arith, long1, l)))
            (record {
              there = refl;
              moved = λ j p q. omega (arith, p, q, n);
              came = λ j y. inr (has_moved m (live_in h) j y);
              left = λ j w p z c. left_type m h ∙ z;
              held = (v, left_type m h ∙ e);
              stays = λ j y. left_live m h v e j y;
            });
        others = λ r p q. put_other out mid r now q ∙ put_other slots from r (left_by m h) p ∙ sym (put_other slots mid r (Of t []) q);
      } in
      move_lets defs tells lo (suc mid) m first last ds (b.0, let y = b.1 in omega (arith, y)) over sp si d
