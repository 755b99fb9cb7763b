-- Total orders: at most, and before.
use Rattle.std.proofs.Common.{Option, Some, None, Bool, ◌∙◌, ◌≡◌, ◌↔◌, ◌⊎◌, inl, inr, true, false, IsTrue, refl, sym, ap, subst, arith, cond, is_le, is_gt, is_lt}
use Rattle.std.specs.Cmp.{IsTotalOrder}
use Rattle.std.specs.declared.cmp.Ordering.{Ordering}
use Rattle.std.specs.declared.cmp.Ordering.TheVariants.{Less, Equal, Greater}
use Rattle.std.specs.Ordering.{ordering_reverse, ord_max, ord_min, is_some_and, partial_lt, partial_le}
use Rattle.std.proofs.lemmas.Cmp.{upto, tied_back, tied_itself}
use Rattle.limbo_cases.specs.declared.label.Label.{Label}
use Rattle.limbo_cases.specs.Labels.{AtMost, Overlap}

pub not_above : (o : Ordering) → IsTrue (is_le o) → is_gt o ≡ false
not_above Less h = refl
not_above Equal h = refl
not_above Greater h = grind arith

pub at_most : (o : Ordering) → is_gt o ≡ false → IsTrue (is_le o)
at_most Less e = refl
at_most Equal e = refl
at_most Greater e = grind arith

split : (o p : Ordering) → o ≡ ordering_reverse p → IsTrue (is_le o) ⊎ (p ≡ Less)
split Less p e = inl refl
split Equal p e = inl refl
split Greater Less e = inr refl
split Greater Equal e = absurd cc
split Greater Greater e = absurd cc

never : (o p : Ordering) → o ≡ ordering_reverse p → IsTrue (is_le o) → p ≡ Less → ⊥
never Less p e h k = grind arith
never Equal p e h k = grind arith
never Greater p e h k = grind arith

less_is : (o : Ordering) → o ≡ Less → IsTrue (is_le o)
less_is Less e = refl
less_is Equal e = refl
less_is Greater e = absurd cc

at_most_greater : (o : Ordering) → IsTrue (is_le o) → o ≡ Greater → ⊥
at_most_greater Less h e = absurd cc
at_most_greater Equal h e = absurd cc
at_most_greater Greater h e = grind arith

is_less : (c : Option Ordering) (o : Ordering) → c ≡ Some o → is_some_and is_lt c ≡ true → o ≡ Less
is_less None o e h = absurd cc
is_less (Some p) Less e h = refl
is_less (Some Less) Equal e h = absurd cc
is_less (Some Equal) Equal e h = absurd cc
is_less (Some Greater) Equal e h = absurd cc
is_less (Some Less) Greater e h = absurd cc
is_less (Some Equal) Greater e h = absurd cc
is_less (Some Greater) Greater e h = absurd cc

isnt_less : (c : Option Ordering) (o : Ordering) → c ≡ Some o → is_some_and is_lt c ≡ false → o ≡ Less → ⊥
isnt_less c o e h k = let f : is_some_and is_lt (Some Less) ≡ false = subst (λ (z : Option Ordering). is_some_and is_lt z ≡ false) (e ∙ ap Some k) h in absurd cc

is_at_most : (c : Option Ordering) (o : Ordering) → c ≡ Some o → is_some_and is_le c ≡ true → IsTrue (is_le o)
is_at_most c o e h = rw e at h

isnt_at_most : (c : Option Ordering) (o : Ordering) → c ≡ Some o → is_some_and is_le c ≡ false → IsTrue (is_le o) → ⊥
isnt_at_most c o e h k = let f : is_le o ≡ false = rw e at h in absurd cc

-- how two values compare
pub data Rank {A : Type 0} (order : A → A → Ordering) (x y : A) : Type 0 where
  before : order x y ≡ Less → Rank order x y
  level : order x y ≡ Equal → Rank order x y
  behind : order y x ≡ Less → Rank order x y

module _ {A : Type 0} {order : A → A → Ordering} (total : IsTotalOrder order) where
  pub chain : (x y z : A) → AtMost order x y → AtMost order y z → AtMost order x z
  chain x y z h k = at_most (order x z) (upto total x y z (not_above (order x y) h) (not_above (order y z) k))

  pub either : (x y : A) → AtMost order x y ⊎ (order y x ≡ Less)
  either x y = split (order x y) (order y x) (total.antisymm x y)

  pub not_less : (x y : A) → is_lt (order x y) ≡ false → AtMost order y x
  not_less x y h = elim (either y x) [ inl up ↦ up | inr less ↦ let f : is_lt Less ≡ false = subst (λ (o : Ordering). is_lt o ≡ false) less h in absurd cc ]

  pub not_before : (x y : A) → AtMost order x y → order y x ≡ Less → ⊥
  not_before x y h k = never (order x y) (order y x) (total.antisymm x y) h k

  pub before_at_most : (x y z : A) → order x y ≡ Less → AtMost order y z → order x z ≡ Less
  before_at_most x y z h k = elim (either z x) [
    | inl up ↦ absurd (not_before y x (chain y z x k up) h)
    | inr less ↦ less
  ]

  pub at_most_before : (x y z : A) → AtMost order x y → order y z ≡ Less → order x z ≡ Less
  at_most_before x y z h k = elim (either z x) [
    | inl up ↦ absurd (not_before z y (chain z x y up h) k)
    | inr less ↦ less
  ]

  pub less_at_most : (x y : A) → order x y ≡ Less → AtMost order x y
  less_at_most x y h = less_is (order x y) h

  pub rank : (x y : A) → Rank order x y
  rank x y = go (order x y) refl where
    go : (o : Ordering) → order x y ≡ o → Rank order x y
    go Less e = before e
    go Equal e = level e
    go Greater e = behind (total.antisymm y x ∙ ap ordering_reverse e)

  pub equal_back : (x y : A) → order x y ≡ Equal → order y x ≡ Equal
  equal_back x y e = tied_back total x y e

  pub equal_itself : (x : A) → order x x ≡ Equal
  equal_itself x = tied_itself total x

  pub equal_at_most : (x y z : A) → order x y ≡ Equal → AtMost order x z → AtMost order y z
  equal_at_most x y z e h = subst (λ (o : Ordering). is_le o ≡ true) (total.congr x y z e) h

  pub reflexive : (x : A) → AtMost order x x
  reflexive x = elim (either x x) [ inl h ↦ h | inr h ↦ less_is (order x x) h ]

  pub overlap_filled : (a b : Label A) → Overlap (AtMost order) a b → AtMost order a.low a.high × AtMost order b.low b.high
  overlap_filled a b o =
      (chain a.low o.value a.high o.fits.low o.fits.high, chain b.low o.value b.high o.fits_too.low o.fits_too.high)

  pub overlap_ends : (a b : Label A) → Overlap (AtMost order) a b → AtMost order a.low b.high × AtMost order b.low a.high
  overlap_ends a b o =
      (chain a.low o.value b.high o.fits.low o.fits_too.high, chain b.low o.value a.high o.fits_too.low o.fits.high)

  pub overlap_by_ends : (a b : Label A) → AtMost order a.low a.high → AtMost order b.low b.high → AtMost order a.low b.high → AtMost order b.low a.high → Overlap (AtMost order) a b
  overlap_by_ends a b f g h k = elim (either a.low b.low) [
    | inl up ↦ record { value = b.low; fits = record { low = up; high = k }; fits_too = record { low = reflexive b.low; high = g } }
    | inr less ↦ record {
      value = a.low;
      fits = record { low = reflexive a.low; high = f };
      fits_too = record { low = less_is (order b.low a.low) less; high = h };
    }
  ]

  turned : (x y : A) → order x y ≡ Greater → order y x ≡ Less
  turned x y e = elim (either x y) [ inl up ↦ absurd (at_most_greater (order x y) up e) | inr less ↦ less ]

  same_at_most : (x y : A) → order x y ≡ Equal → AtMost order y x
  same_at_most x y e = elim (either y x) [ inl up ↦ up | inr less ↦ absurd cc ]

  -- of the greater and the lesser of two: each is one of them, and stands beyond both
  greater : (a b : A) → AtMost order a (ord_max order a b) × AtMost order b (ord_max order a b)
  greater a b = by (order b a) refl where
    by : (o : Ordering) → order b a ≡ o → AtMost order a (cond (is_lt o) a b) × AtMost order b (cond (is_lt o) a b)
    by Less e = (reflexive a, less_at_most b a e)
    by Equal e = (same_at_most b a e, reflexive b)
    by Greater e = (less_at_most a b (turned b a e), reflexive b)

  lesser : (a b : A) → AtMost order (ord_min order a b) a × AtMost order (ord_min order a b) b
  lesser a b = by (order b a) refl where
    by : (o : Ordering) → order b a ≡ o → AtMost order (cond (is_lt o) b a) a × AtMost order (cond (is_lt o) b a) b
    by Less e = (less_at_most b a e, reflexive b)
    by Equal e = (reflexive a, same_at_most b a e)
    by Greater e = (reflexive a, less_at_most a b (turned b a e))

  greater_below : (a b c : A) → AtMost order a c → AtMost order b c → AtMost order (ord_max order a b) c
  greater_below a b c h k = by (order b a) where
    by : (o : Ordering) → AtMost order (cond (is_lt o) a b) c
    by Less = h
    by Equal = k
    by Greater = k

  lesser_above : (a b c : A) → AtMost order c a → AtMost order c b → AtMost order c (ord_min order a b)
  lesser_above a b c h k = by (order b a) where
    by : (o : Ordering) → AtMost order c (cond (is_lt o) b a)
    by Less = k
    by Equal = h
    by Greater = h

  pub ends_decide : (a b : Label A) → Overlap (AtMost order) a b ↔ AtMost order (ord_max order a.low b.low) (ord_min order a.high b.high)
  ends_decide a b = (
    λ o. greater_below a.low b.low (ord_min order a.high b.high)
        (lesser_above a.high b.high a.low (overlap_filled a b o).0 (overlap_ends a b o).0)
        (lesser_above a.high b.high b.low (overlap_ends a b o).1 (overlap_filled a b o).1),
    λ h.
        let low = ord_max order a.low b.low in
        let high = ord_min order a.high b.high in
        record {
          value = low;
          fits = record { low = (greater a.low b.low).0; high = chain low high a.high h (lesser a.high b.high).0 };
          fits_too = record { low = (greater a.low b.low).1; high = chain low high b.high h (lesser a.high b.high).1 };
        },
  )

  -- what the tests of the code say
  module _ {partial : A → A → Option Ordering} (agrees : (x y : A) → partial x y ≡ Some (order x y)) where
    pub lt_holds : (x y : A) (b : Bool) → b ≡ partial_lt partial x y → b ≡ true → order x y ≡ Less
    lt_holds x y b e h = is_less (partial x y) (order x y) (agrees x y) (sym e ∙ h)

    pub lt_fails : (x y : A) (b : Bool) → b ≡ partial_lt partial x y → b ≡ false → AtMost order y x
    lt_fails x y b e h = elim (either y x) [ inl up ↦ up | inr less ↦ absurd (isnt_less (partial x y) (order x y) (agrees x y) (sym e ∙ h) less) ]

    pub le_holds : (x y : A) (b : Bool) → b ≡ partial_le partial x y → b ≡ true → AtMost order x y
    le_holds x y b e h = is_at_most (partial x y) (order x y) (agrees x y) (sym e ∙ h)

    pub le_fails : (x y : A) (b : Bool) → b ≡ partial_le partial x y → b ≡ false → order y x ≡ Less
    le_fails x y b e h = elim (either x y) [ inl up ↦ absurd (isnt_at_most (partial x y) (order x y) (agrees x y) (sym e ∙ h) up) | inr less ↦ less ]
