-- Initialisers go well: a new array, its elements, and the element of the others, turn by turn.
use Rattle.std.proofs.Common.{◌≡◌, ℕ, ℤ, zero, suc, ◌+◌, ◌-◌, ◌<◌, ◌≤◌, Bool, true, false, List, [], ◌∷◌, ◌++◌, length}
use Rattle.std.proofs.Common.{refl, sym, ap, subst, ◌∙◌, arith, inl, inr, ⊎_elim, length-append, Option, Some}
use Rattle.std.proofs.lemmas.Bool.{cases_eq, cases_lt}
use Rattle.std.specs.Prelude.{slice_get, if◌then◌else◌}
use Rattle.limbo_types.specs.Types as ty
use Rattle.limbo_types.specs.Types.{Ty}
use Rattle.limbo_layout.specs.Adts.{Def}
use Rattle.limbo_layout.specs.Layout.{reference, is_alone}
use Rattle.limbo_typed.specs.Fitting.{Stands}
use Rattle.limbo_typed.specs.declared.operation.Operation.TheVariants as operation
use Rattle.limbo_meaning.specs.Trees.{Operate, Term}
use Rattle.limbo_meaning.specs.Evaluation.{may_hold}
use Rattle.limbo_kept.specs.Operating.{HasRoom}
use Rattle.limbo_kept.specs.Trees.{Scope}
use Rattle.core_code.specs.Code.{Instr, Give, Start, Next, Other, Keep, Take, Drop, Back}
use Rattle.core_code.specs.Terms.{Lowered, lower, others}
use Rattle.core_code.proofs.Used.{term_up}
use Rattle.core_follows.specs.Drops.{Between, Beside, AllTouch, HasAt}
use Rattle.core_follows.proofs.Drops.{touch_more, touch_others}
use Rattle.core_follows.proofs.Holding.{has_front, has_back}
use Rattle.core_follows.proofs.Static.{no_drops, drops_within, touch_wide}
use Rattle.core_typing.specs.Held.{Of, Turns, Regions, NoRegion, Slots, empty, slot, put, chain_of, region, cleared, placed, chained}
use Rattle.core_typing.specs.Held.{type_held}
use Rattle.core_typing.specs.Needs.{IsA, IsClean, AreClean}
use Rattle.core_typing.specs.Written.{told}
use Rattle.core_typing.specs.Going.{Goes, got_by}
use Rattle.core_typing.proofs.Telling.{gave, told_same, told_over, told_at, Quiet}
use Rattle.core_typing.proofs.Going.{put_same, put_other, put_long, shorter, same_place, goes_to, goes_back, two_places}
use Rattle.core_typing.proofs.Cleaning.{clean_same, put_clean, put_empty}
use Rattle.core_typing.proofs.Drops.{Lets, HasTurns, none, takes, last, lets_kept, lets_same, lets_told, lets_wide, lets_more, lets_from}
use Rattle.core_typing.proofs.Drops.{lets_nothing, turns_add, turns_have, chain_has, long_placed}
use Rattle.core_typing.proofs.Drops.{region_size, placed_region, long_cleared, cleared_below, cleared_above}
use Rattle.core_typing.proofs.Chains.{TakesNone, lets_bare}
use Rattle.core_typing.proofs.Standing.{itself, is_on}
use Rattle.core_typing.proofs.Nodes.{Left, GoesBy, got_below}

-- What elements leave behind those before them: of the slots that they share none names anything.
pub record Grown (defs : List Def) (tells : ℕ → Option Ty) (before after : Slots) (shared from lo hi : ℕ) (drops : List Instr)
    : Type 0 where
  pub long : length after ≡ length before
  pub same : (r : ℕ) → Beside shared from r → Beside lo hi r → slot after r ≡ slot before r
  pub lets : Lets defs lo hi tells after drops
  pub clean : AreClean after shared from

pub grown_none : (defs : List Def) (tells : ℕ → Option Ty) (slots : Slots) (shared from lo : ℕ) → AreClean slots shared from
    → Grown defs tells slots slots shared from lo lo []
grown_none defs tells slots shared from lo c =
    record { long = refl; same = λ r b d. refl; lets = none (λ r p q. absurd (omega (arith, p, q))); clean = c }

pub grown_on : (defs : List Def) (tells tells' : ℕ → Option Ty) (before after : Slots) (shared from lo hi : ℕ) (ds : List Instr)
    → ((r : ℕ) → tells' r ≡ tells r) → Grown defs tells before after shared from lo hi ds
    → Grown defs tells' before after shared from lo hi ds
grown_on defs tells tells' before after shared from lo hi ds e g =
    record { long = g.long; same = g.same; lets = lets_told defs lo hi tells tells' after ds e g.lets; clean = g.clean }

pub grown_more : (defs : List Def) (tells tells' : ℕ → Option Ty) (first second third : Slots) (shared from lo mid hi : ℕ)
    (ds es : List Instr) → from ≤ lo → lo ≤ mid
    → mid ≤ hi → AllTouch (Between lo mid) ds → AllTouch (Between mid hi) es → ((r : ℕ) → Between lo mid r → tells' r ≡ tells r)
    → Grown defs tells first second shared from lo mid ds
    → Grown defs tells' second third shared from mid hi es → Grown defs tells' first third shared from lo hi (ds ++ es)
grown_more defs tells tells' first second third shared from lo mid hi ds es f l m wd we kept h k = record {
  long = k.long ∙ h.long;
  same = λ r b d. elim d [
    | inl x ↦ k.same r b (inl (omega arith)) ∙ h.same r b (inl x)
    | inr x ↦ k.same r b (inr x) ∙ h.same r b (inr (omega arith))
  ];
  lets = lets_more defs tells' third lo mid hi ds es wd we
      (lets_same defs lo mid tells tells' second third ds wd k.long
      (λ r b. k.same r (inr (let x = b.0 in omega (arith, x, f))) (inl b.1)) kept h.lets) k.lets;
  clean = k.clean;
}

-- Where the slots of an element are, which are its own or shared.
pub record Sides (defs : List Def) (h : Bool) (a shared from lo : ℕ) (e : Term) : Type 0 where
  pub low : a < (if h then lo else shared)
  pub up : lo ≤ (if h then (lower defs (if h then lo else shared) e).free else lo)
  pub fits : (lower defs (if h then lo else shared) e).free ≤ (if h then (lower defs (if h then lo else shared) e).free else lo)
  pub beside : (r : ℕ) → Beside shared from r → Beside lo (if h then (lower defs (if h then lo else shared) e).free else lo) r
      → Beside (if h then lo else shared) (lower defs (if h then lo else shared) e).free r
  pub touch : AllTouch (Between lo (if h then (lower defs (if h then lo else shared) e).free else lo))
      (lower defs (if h then lo else shared) e).drops
  -- they name nothing where neither the shared ones nor its own do
  pub clean : (slots : Slots) (hi : ℕ) → (if h then (lower defs (if h then lo else shared) e).free else lo) ≤ hi
      → AreClean slots shared from → AreClean slots lo hi
      → AreClean slots (if h then lo else shared) (lower defs (if h then lo else shared) e).free
  -- and what the element leaves there is dropped among its own, or is nothing
  pub lets : (tells : ℕ → Option Ty) (after : Slots)
      → Lets defs (if h then lo else shared) (lower defs (if h then lo else shared) e).free tells after
      (lower defs (if h then lo else shared) e).drops
      → Lets defs lo (if h then (lower defs (if h then lo else shared) e).free else lo) tells after
      (lower defs (if h then lo else shared) e).drops
  pub shares : (tells : ℕ → Option Ty) (before after : Slots) → AreClean before shared from
      → ((r : ℕ) → Beside (if h then lo else shared) (lower defs (if h then lo else shared) e).free r → slot after r ≡ slot before r)
      → Lets defs (if h then lo else shared) (lower defs (if h then lo else shared) e).free tells after
      (lower defs (if h then lo else shared) e).drops
      → AreClean after shared from

-- The slots of what holds nothing name nothing when it is evaluated.
shared_clean : (defs : List Def) (tells : ℕ → Option Ty) (before after : Slots) (shared from free : ℕ) (ds : List Instr) → ds ≡ []
    → AreClean before shared from → ((r : ℕ) → Beside shared free r → slot after r ≡ slot before r)
    → Lets defs shared free tells after ds → AreClean after shared from
shared_clean defs tells before after shared from free ds e c same x r p q = ⊎_elim
    (λ (l : r < free). lets_nothing defs shared free tells after (subst (Lets defs shared free tells after) e x) r p l)
    (λ (l : free ≤ r). clean_same (slot before r) (slot after r) (same r (inr l)) (c r p q))
    (cases_lt r free)

pub sides : (defs : List Def) (h : Bool) (a shared from lo : ℕ) (e : Term) → may_hold defs e ≡ h → a < shared → shared ≤ from
    → from ≤ lo → (if h then shared else (lower defs shared e).free) ≤ from → Sides defs h a shared from lo e
sides defs true a shared from lo e eh l m f s = record {
  low = omega arith;
  up = term_up defs lo e;
  fits = omega arith;
  beside = λ r b d. d;
  touch = drops_within defs lo e;
  clean = λ slots hi u c d r p q. d r p (omega (arith, u, q));
  lets = λ tells after x. x;
  shares = λ tells before after c same x r p q. clean_same (slot before r) (slot after r) (same r (inl (omega (arith, q, f)))) (c r p q);
}
sides defs false a shared from lo e eh l m f s = record {
  low = l;
  up = omega arith;
  fits = omega arith;
  beside = λ r b d. elim b [ inl x ↦ inl x | inr x ↦ inr (omega arith) ];
  touch = subst (AllTouch (Between lo lo)) (sym (no_drops defs shared e eh)) tt;
  clean = λ slots hi u c d r p q. c r p (omega (arith, q, s));
  lets = λ tells after x. subst (Lets defs lo lo tells after) (sym (no_drops defs shared e eh))
      (none (λ r p q. absurd (omega (arith, p, q))));
  shares = λ tells before after c same x.
      shared_clean defs tells before after shared from (lower defs shared e).free (lower defs shared e).drops (no_drops defs shared e eh)
      c same x;
}

-- what is kept in a chain leaves slots that name nothing
cleared_clean : (slots : Slots) (from words r : ℕ) → from ≤ r → r < from + words → IsClean (slot (cleared slots from words) r)
cleared_clean slots from zero r p q = absurd (omega arith)
cleared_clean slots from (suc words) r p q = ⊎_elim
    (λ (e : r ≡ from). put_empty (cleared slots (suc from) words) from r e)
    (λ (e : r ≡ from → ⊥). put_clean (cleared slots (suc from) words) from r empty
    (cleared_clean slots (suc from) words r (omega (arith, e)) (omega arith)) (λ z. refl))
    (cases_eq r from)

module _ (s : Scope) (answer : Ty) (code : List Instr) where
  -- ---- the turns of an element that holds something

  abbrev pub turn_own : (t : Ty) (a lo : ℕ) → Lowered → List Instr
  turn_own t a lo x = x.code ++ (Other t a lo x.value ∷ Keep lo (suc lo) (x.free - suc lo) ∷ [])

  abbrev pub loop_own : (t : Ty) (a lo : ℕ) → List ℤ → Lowered → List Instr
  loop_own t a lo zs x = (Next a lo zs (suc (length (turn_own t a lo x))) ∷ turn_own t a lo x) ++
      (Back (suc (length (turn_own t a lo x))) ∷ [])

  abbrev pub drops_own : (lo : ℕ) → Lowered → List Instr
  drops_own lo x = (Take lo (suc lo) (x.free - suc lo) (suc (length x.drops)) ∷ x.drops) ++
      (Back (suc (length x.drops)) ∷ [])

  -- What is fixed in all turns: the array, the element, its code and where it goes.
  pub record Own (t u : Ty) (x : Lowered) (a lo pc : ℕ) (zs : List ℤ) : Type 0 where
    pub element : GoesBy s answer code (suc lo) x u
    pub stands : Stands u t
    pub room : HasRoom s.adts t
    pub below : a < lo
    pub value : Between (suc lo) x.free x.value
    pub touches : AllTouch (Between (suc lo) x.free) x.drops
    pub chainless : TakesNone x.drops
    pub has : HasAt code pc (loop_own t a lo zs x)

  -- In front of the decision whether another turn follows.
  pub record InTurns (turned : ℕ → Option Ty) (before slots : Slots) (t : Ty) (x : Lowered) (a lo : ℕ) (rs : Regions) : Type 0 where
    pub long : length slots ≡ length before
    pub fits : x.free ≤ length before
    pub same : (r : ℕ) → Beside lo x.free r → slot slots r ≡ slot before r
    pub array : type_held (slot slots a) ≡ Some (ty.ArrayOf t)
    pub loop : slot slots lo ≡ Turns rs
    pub turns : HasTurns s.adts turned (suc lo) (x.free - suc lo) x.drops rs
    pub clean : AreClean slots (suc lo) x.free

  own_lets : (tells turned : ℕ → Option Ty) (before slots : Slots) (t : Ty) (x : Lowered) (a lo : ℕ) (rs : Regions)
      → Between (suc lo) x.free x.value → AllTouch (Between (suc lo) x.free) x.drops → ((r : ℕ) → tells r ≡ turned r)
      → InTurns turned before slots t x a lo rs → Lets s.adts lo x.free tells slots (drops_own lo x)
  own_lets tells turned before slots t x a lo rs v w e b =
      let v0 = v.0 in
      let v1 = v.1 in
      let fin : suc lo + (x.free - suc lo) ≡ x.free = omega arith in
      takes lo (suc lo) (x.free - suc lo) (suc (length x.drops)) x.drops [] rs turned b.loop (omega arith) (omega arith)
      (λ r p q. b.clean r p (omega (arith, q, fin)))
      (touch_others (Between (suc lo) x.free) (Between (suc lo) (suc lo + (x.free - suc lo))) x.drops
      (λ r d. (d.0, let y = d.1 in omega (arith, y, fin))) w) tt (λ r p q. e r) b.turns
      (none (λ r p q. ⊎_elim
      (λ (z : r ≡ lo). put_empty slots lo r z)
      (λ (z : r ≡ lo → ⊥). put_clean slots lo r empty (b.clean r (omega (arith, z, p)) q) (λ y. refl))
      (cases_eq r lo))) refl refl

  -- A turn is over, and its slots are kept in the chain.
  kept_turn : (turned : ℕ → Option Ty) (before slots two : Slots) (t u : Ty) (x : Lowered) (a lo : ℕ) (rs : Regions)
      → a < lo → Between (suc lo) x.free x.value
      → AllTouch (Between (suc lo) x.free) x.drops → InTurns turned before slots t x a lo rs
      → Left s.adts turned slots two (suc lo) x.free x.value x.drops u
      → InTurns turned before (put (cleared two (suc lo) (x.free - suc lo)) lo
      (Turns (chained (chain_of (slot two lo)) (region two (suc lo) (x.free - suc lo))))) t x a lo
      (chained (chain_of (slot two lo)) (region two (suc lo) (x.free - suc lo)))
  kept_turn turned before slots two t u x a lo rs la v w b left =
      let from : ℕ = suc lo in
      let words : ℕ = x.free - from in
      let g = region two from words in
      let wiped = cleared two from words in
      let loop = Turns (chained (chain_of (slot two lo)) g) in
      let three = put wiped lo loop in
      let v0 = v.0 in
      let v1 = v.1 in
      let fits = b.fits in
      let fin : from + words ≡ x.free = omega arith in
      let long2 : length two ≡ length slots = left.long in
      let long3 : length wiped ≡ length two = long_cleared two from words in
      let long1 = b.long in
      let low : (r : ℕ) → r < lo → slot three r ≡ slot slots r = λ r l.
      put_other wiped lo r loop (λ e. absurd (omega (arith, e, l))) ∙ cleared_below two from words r (omega arith)
      ∙ left.same r (inl (omega arith)) in
      let chain : chain_of (slot two lo) ≡ rs = ap chain_of (left.same lo (inl (omega arith)) ∙ b.loop) in
      record {
        long = put_long wiped lo loop ∙ long3 ∙ long2 ∙ long1;
        fits = fits;
        same = λ r d. elim d [
          | inl y ↦ low r y ∙ b.same r (inl y)
          | inr y ↦ put_other wiped lo r loop (λ e. absurd (omega (arith, e, y))) ∙ cleared_above two from words r (omega arith)
              ∙ left.same r (inr y) ∙ b.same r (inr y)
        ];
        array = ap type_held (low a la) ∙ b.array;
        loop = put_same wiped lo loop (omega arith);
        turns = subst (λ (c : Regions). HasTurns s.adts turned from words x.drops (chained c g)) (sym chain)
            (turns_add s.adts turned from words x.drops rs g b.turns (region_size two from words)
            (λ base l. subst (λ (z : ℕ). Lets s.adts from z turned (placed base from g) x.drops) (sym fin)
            (let long_base = long_placed base from g in
            let same : (r : ℕ) → Between from x.free r → slot (placed base from g) r ≡ slot two r =
            λ r d. placed_region base two from words r l d.0 (let y = d.1 in omega (arith, y, fin)) in
            lets_kept s.adts from x.free (Between from x.free) turned turned two (placed base from g) x.drops w
            (inr (λ r d. (let y = d.1 in omega (arith, y, fits, long1, long2), let y = d.1 in omega (arith, y, l, fin, long_base))))
            same (λ r d. refl) (λ r p q. inl (same r (p, q))) left.lets)));
        clean = λ r p q. put_clean wiped lo r loop (cleared_clean two from words r p (omega (arith, q, fin)))
            (λ e. absurd (omega (arith, e, p)));
      }

  pub turns_own : (fuel n : ℕ) (t u : Ty) (x : Lowered) (a lo pc : ℕ) (zs : List ℤ) → Own t u x a lo pc zs → n ≤ fuel
      → (before slots : Slots) (rs : Regions) → InTurns (told code (suc pc + length x.code)) before slots t x a lo rs
      → ((after : Slots) → length after ≡ length before → ((r : ℕ) → Beside lo x.free r → slot after r ≡ slot before r)
      → Lets s.adts lo x.free (told code (pc + length (loop_own t a lo zs x))) after (drops_own lo x)
      → Goes s answer code n (pc + length (loop_own t a lo zs x)) after)
      → Goes s answer code n pc slots
  turns_own fuel zero t u x a lo pc zs own l before slots rs b k = tt
  turns_own zero (suc n) t u x a lo pc zs own l before slots rs b k = absurd (omega arith)
  turns_own (suc f) (suc n) t u x a lo pc zs own l before slots rs b k =
      let turn = turn_own t a lo x in
      let m : ℕ = suc (length turn) in
      let from : ℕ = suc lo in
      let words : ℕ = x.free - from in
      let v0 = own.value.0 in
      let v1 = own.value.1 in
      let fits = b.fits in
      let la = own.below in
      let long = b.long in
      let store = Other t a lo x.value in
      let keep = Keep lo from words in
      let e1 = length-append turn (Back m ∷ []) in
      let e2 = length-append x.code (store ∷ keep ∷ []) in
      let has_turn = has_front code (suc pc) turn (Back m ∷ []) own.has.1 in
      let has_back_way = has_back code (suc pc) turn (Back m ∷ []) own.has.1 in
      let has_store = has_back code (suc pc) x.code (store ∷ keep ∷ []) has_turn in
      let pc2 : ℕ = suc pc + length x.code in
      let to_back : suc pc + length turn ≡ suc (suc pc2) = omega arith in
      let at_back = subst (λ (q : ℕ). slice_get code q ≡ Some (Back m)) to_back has_back_way.0 in
      let at_end : ℕ = pc + length (loop_own t a lo zs x) in
      let told_end : (r : ℕ) → told code at_end r ≡ told code pc2 r = λ r.
      told_at code at_end (suc (suc (suc pc2))) r (omega arith) ∙ told_same code (suc (suc pc2)) r (Back m) at_back refl
      ∙ told_same code (suc pc2) r keep has_store.1.0 refl ∙ told_same code pc2 r store has_store.0 refl in
      let is_array : IsA slots a (ty.ArrayOf t) = (ty.ArrayOf t, b.array, itself (ty.ArrayOf t)) in (
        Next a lo zs m,
        own.has.0,
        (t, is_array, (rs, b.loop)),
        tt,
        two_places s answer code n (suc pc + m) (suc pc) slots slots
            (same_place s answer code n (pc + length (loop_own t a lo zs x)) (suc pc + m) slots (omega arith)
            (shorter s answer code n (suc n) _ slots (omega arith) (k slots b.long b.same
            (own_lets (told code at_end) (told code pc2) before slots t x a lo rs own.value own.touches told_end b))))
            (own.element (suc pc) slots n (has_front code (suc pc) x.code (store ∷ keep ∷ []) has_turn) (omega arith) b.clean
            (λ two left.
            let array2 : type_held (slot two a) ≡ Some (ty.ArrayOf t) = ap type_held (left.same a (inl (omega arith))) ∙ b.array in
            let loop2 : slot two lo ≡ Turns rs = left.same lo (inl (omega arith)) ∙ b.loop in
            let rs3 = chained (chain_of (slot two lo)) (region two from words) in
            let three = put (cleared two from words) lo (Turns rs3) in
            goes_to s answer code n pc2 (suc pc2) two two store has_store.0
            (own.room, (ty.ArrayOf t, array2, itself (ty.ArrayOf t)), (rs, loop2), is_on two x.value u t left.is own.stands) tt refl
            (goes_to s answer code n (suc pc2) (suc (suc pc2)) two three keep has_store.1.0 (rs, loop2) (
              (
                omega arith,
                omega arith,
                chain_has words (slot two lo) rs loop2 (turns_have s.adts (told code pc2) from words x.drops rs b.turns),
              ),
              λ r p q. lets_bare s.adts from x.free (told code pc2) two x.drops own.chainless left.lets r p (omega (arith, q, v0, v1)),
            ) refl
            (goes_back s answer code n (suc (suc pc2)) pc m three at_back (omega arith)
            (λ j lj. turns_own f j t u x a lo pc zs own (omega arith) before three rs3
            (kept_turn (told code pc2) before slots two t u x a lo rs la own.value own.touches b left)
            (λ after long3 same3 lets3. shorter s answer code j (suc n) _ after (omega arith) (k after long3 same3 lets3))))))),
      )

  -- ---- the turns of an element that holds nothing

  abbrev pub turn_shared : (t : Ty) (a lo : ℕ) → Lowered → List Instr
  turn_shared t a lo x = x.code ++ (Other t a lo x.value ∷ [])

  abbrev pub loop_shared : (t : Ty) (a lo : ℕ) → List ℤ → Lowered → List Instr
  loop_shared t a lo zs x =
      (Next a lo zs (suc (length (turn_shared t a lo x))) ∷ turn_shared t a lo x) ++ (Back (suc (length (turn_shared t a lo x))) ∷ [])

  pub record Shares (t u : Ty) (x : Lowered) (a shared from lo pc : ℕ) (zs : List ℤ) : Type 0 where
    pub element : GoesBy s answer code shared x u
    pub stands : Stands u t
    pub room : HasRoom s.adts t
    pub below : a < shared
    pub up : shared ≤ x.free
    pub end : x.free ≤ from
    pub mid : from ≤ lo
    pub nothing : x.drops ≡ []
    pub has : HasAt code pc (loop_shared t a lo zs x)

  pub turns_shared : (fuel n : ℕ) (t u : Ty) (x : Lowered) (a shared from lo pc : ℕ) (zs : List ℤ) → Shares t u x a shared from lo pc zs
      → n ≤ fuel → (before slots : Slots) → length slots ≡ length before → lo < length before
      → ((r : ℕ) → Beside shared from r → Beside lo (suc lo) r → slot slots r ≡ slot before r)
      → type_held (slot slots a) ≡ Some (ty.ArrayOf t)
      → slot slots lo ≡ Turns NoRegion → AreClean slots shared from
      → ((after : Slots) → Grown s.adts (told code (pc + length (loop_shared t a lo zs x))) before after shared from lo (suc lo) []
      → Goes s answer code n (pc + length (loop_shared t a lo zs x)) after)
      → Goes s answer code n pc slots
  turns_shared fuel zero t u x a shared from lo pc zs own l before slots long fits same array loop clean k = tt
  turns_shared zero (suc n) t u x a shared from lo pc zs own l before slots long fits same array loop clean k = absurd (omega arith)
  turns_shared (suc f) (suc n) t u x a shared from lo pc zs own l before slots long fits same array loop clean k =
      let turn = turn_shared t a lo x in
      let m : ℕ = suc (length turn) in
      let la = own.below in
      let up = own.up in
      let end = own.end in
      let mid = own.mid in
      let store = Other t a lo x.value in
      let e1 = length-append turn (Back m ∷ []) in
      let e2 = length-append x.code (store ∷ []) in
      let has_turn = has_front code (suc pc) turn (Back m ∷ []) own.has.1 in
      let has_back_way = has_back code (suc pc) turn (Back m ∷ []) own.has.1 in
      let has_store = has_back code (suc pc) x.code (store ∷ []) has_turn in
      let is_array : IsA slots a (ty.ArrayOf t) = (ty.ArrayOf t, array, itself (ty.ArrayOf t)) in (
        Next a lo zs m,
        own.has.0,
        (t, is_array, (NoRegion, loop)),
        tt,
        two_places s answer code n (suc pc + m) (suc pc) slots slots
            (same_place s answer code n (pc + length (loop_shared t a lo zs x)) (suc pc + m) slots (omega arith)
            (shorter s answer code n (suc n) _ slots (omega arith) (k slots (record {
              long = long;
              same = same;
              lets = none (λ r p q. let e : r ≡ lo = omega arith in
                  clean_same (Turns NoRegion) (slot slots r) (ap (slot slots) e ∙ loop) tt);
              clean = clean;
            }))))
            (own.element (suc pc) slots n (has_front code (suc pc) x.code (store ∷ []) has_turn) (omega arith)
            (λ r p q. clean r p (omega (arith, q, end)))
            (λ two left.
            let pc2 : ℕ = suc pc + length x.code in
            let array2 : type_held (slot two a) ≡ Some (ty.ArrayOf t) = ap type_held (left.same a (inl la)) ∙ array in
            let loop2 : slot two lo ≡ Turns NoRegion = left.same lo (inr (omega arith)) ∙ loop in
            let to_back : suc pc + length turn ≡ suc pc2 = omega arith in
            let at_back = subst (λ (q : ℕ). slice_get code q ≡ Some (Back m)) to_back has_back_way.0 in
            goes_to s answer code n pc2 (suc pc2) two two store has_store.0
            (own.room, (ty.ArrayOf t, array2, itself (ty.ArrayOf t)), (NoRegion, loop2), is_on two x.value u t left.is own.stands) tt refl
            (goes_back s answer code n (suc pc2) pc m two at_back (omega arith)
            (λ j lj. turns_shared f j t u x a shared from lo pc zs own (omega arith) before two (left.long ∙ long) fits
            (λ r b d. left.same r (elim b [ inl y ↦ inl y | inr y ↦ inr (omega arith) ]) ∙ same r b d) array2 loop2
            (shared_clean s.adts (told code (suc pc + length x.code)) slots two shared from x.free x.drops own.nothing clean left.same
            left.lets)
            (λ after grown. shorter s answer code j (suc n) _ after (omega arith) (k after grown)))))),
      )

  -- ---- the others

  pub others_go : (h : Bool) (t u : Ty) (a shared from lo : ℕ) (zs : List ℤ) (e : Term) → may_hold s.adts e ≡ h
      → HasRoom s.adts t → Stands u t → a < shared → shared ≤ from → from ≤ lo
      → (if h then shared else (lower s.adts shared e).free) ≤ from
      → (h ≡ true → (base : ℕ) → TakesNone (lower s.adts base e).drops)
      → ((base : ℕ) → GoesBy s answer code base (lower s.adts base e) u)
      → ((base : ℕ) → Between base (lower s.adts base e).free (lower s.adts base e).value)
      → (pc : ℕ) (slots : Slots) (n : ℕ) → type_held (slot slots a) ≡ Some (ty.ArrayOf t)
      → HasAt code pc (others s.adts h t a zs lo (lower s.adts (if h then suc lo else shared) e)).code
      → (others s.adts h t a zs lo (lower s.adts (if h then suc lo else shared) e)).free ≤ length slots
      → AreClean slots shared from → AreClean slots lo (others s.adts h t a zs lo (lower s.adts (if h then suc lo else shared) e)).free
      → ((after : Slots) → Grown s.adts
      (told code (pc + length (others s.adts h t a zs lo (lower s.adts (if h then suc lo else shared) e)).code)) slots after shared from lo
      (others s.adts h t a zs lo (lower s.adts (if h then suc lo else shared) e)).free
      (others s.adts h t a zs lo (lower s.adts (if h then suc lo else shared) e)).drops
      → Goes s answer code n (pc + length (others s.adts h t a zs lo (lower s.adts (if h then suc lo else shared) e)).code) after)
      → Goes s answer code n pc slots
  others_go true t u a shared from lo zs e eh room st l m f end chainless go val pc slots n array has fits clean fresh k =
      let x = lower s.adts (suc lo) e in
      let v = val (suc lo) in
      let v0 = v.0 in
      let v1 = v.1 in
      let next = put slots lo (Turns NoRegion) in
      goes_to s answer code n pc (suc pc) slots next (Start lo) has.0 (fresh lo (omega arith) (omega arith)) tt refl
      (turns_own n n t u x a lo (suc pc) zs (record {
        element = go (suc lo);
        stands = st;
        room = room;
        below = omega arith;
        value = v;
        touches = drops_within s.adts (suc lo) e;
        chainless = chainless refl (suc lo);
        has = has.1;
      }) (omega arith) slots next NoRegion (record {
        long = put_long slots lo (Turns NoRegion);
        fits = fits;
        same = λ r d. put_other slots lo r (Turns NoRegion)
            (λ q. absurd (elim d [ inl y ↦ omega (arith, y, q) | inr y ↦ omega (arith, y, q) ]));
        array = ap type_held (put_other slots lo a (Turns NoRegion) (λ q. absurd (omega (arith, q, l, m, f)))) ∙ array;
        loop = put_same slots lo (Turns NoRegion) (omega arith);
        turns = last;
        clean = λ r p q. put_clean slots lo r (Turns NoRegion) (fresh r (omega (arith, p)) q) (λ e. tt);
      })
      (λ after long same lets. same_place s answer code n
      (pc + suc (length (loop_own t a lo zs x))) (suc pc + length (loop_own t a lo zs x)) after (omega arith)
      (k after (record {
        long = long;
        same = λ r b d. same r d;
        lets = lets_told s.adts lo x.free (told code (suc pc + length (loop_own t a lo zs x)))
            (told code (pc + suc (length (loop_own t a lo zs x))))
            after (drops_own lo x)
            (λ r. told_at code (pc + suc (length (loop_own t a lo zs x))) (suc pc + length (loop_own t a lo zs x)) r (omega arith)) lets;
        clean = λ r p q. clean_same (slot slots r) (slot after r) (same r (inl (omega (arith, q, f)))) (clean r p q);
      }))))
  others_go false t u a shared from lo zs e eh room st l m f end chainless go val pc slots n array has fits clean fresh k =
      let x = lower s.adts shared e in
      let next = put slots lo (Turns NoRegion) in
      goes_to s answer code n pc (suc pc) slots next (Start lo) has.0 (fresh lo (omega arith) (omega arith)) tt refl
      (turns_shared n n t u x a shared from lo (suc pc) zs (record {
        element = go shared;
        stands = st;
        room = room;
        below = l;
        up = term_up s.adts shared e;
        end = end;
        mid = f;
        nothing = no_drops s.adts shared e eh;
        has = has.1;
      }) (omega arith) slots next (put_long slots lo (Turns NoRegion)) (omega arith)
      (λ r b d. put_other slots lo r (Turns NoRegion)
      (λ q. absurd (elim d [ inl y ↦ omega (arith, y, q) | inr y ↦ omega (arith, y, q) ])))
      (ap type_held (put_other slots lo a (Turns NoRegion) (λ q. absurd (omega (arith, q, l, m, f)))) ∙ array)
      (put_same slots lo (Turns NoRegion) (omega arith))
      (λ r p q. put_clean slots lo r (Turns NoRegion) (clean r p q) (λ e. tt))
      (λ after grown. same_place s answer code n
      (pc + suc (length (loop_shared t a lo zs x))) (suc pc + length (loop_shared t a lo zs x)) after (omega arith)
      (k after (record {
        long = grown.long;
        same = grown.same;
        lets = none (lets_nothing s.adts lo (suc lo) _ after grown.lets);
        clean = grown.clean;
      }))))

  -- ---- the whole initialiser

  abbrev pub ElementsGo : (t : Ty) (a shared from lo : ℕ) → Lowered → Type 0
  ElementsGo t a shared from lo x =
      (pc : ℕ) (slots : Slots) (n : ℕ) → type_held (slot slots a) ≡ Some (ty.ArrayOf t) → HasAt code pc x.code → x.free ≤ length slots
      → AreClean slots shared from → AreClean slots lo x.free
      → ((after : Slots) → Grown s.adts (told code (pc + length x.code)) slots after shared from lo x.free x.drops
      → Goes s answer code n (pc + length x.code) after)
      → Goes s answer code n pc slots

  abbrev pub fill_code : Ty → (l es os : Lowered) → List Instr
  fill_code t l es os = l.code ++ Give (ty.ArrayOf t) (Operate operation.NewArray) l.free (l.value ∷ []) ∷ es.code ++ os.code

  abbrev pub fill_drops : (l es os : Lowered) → List Instr
  fill_drops l es os = l.drops ++ Drop l.free 0 ∷ es.drops ++ os.drops

  pub fill_goes : (t : Ty) (lo from : ℕ) (l es os : Lowered) → lo ≤ l.free → suc l.free ≤ from → from ≤ es.free → es.free ≤ os.free
      → AllTouch (Between lo l.free) l.drops → AllTouch (Between from es.free) es.drops → AllTouch (Between es.free os.free) os.drops
      → ((r : ℕ) → Beside (suc l.free) from r → Beside from es.free r → Quiet r es.code)
      → ((r : ℕ) → Beside (suc l.free) from r → Beside es.free os.free r → Quiet r os.code) → l.value < l.free → HasRoom s.adts t
      → GoesBy s answer code lo l ty.Int → ElementsGo t l.free (suc l.free) from from es
      → ElementsGo t l.free (suc l.free) from es.free os
      → GoesBy s answer code lo (record {
        code = fill_code t l es os;
        drops = fill_drops l es os;
        value = l.free;
        free = os.free;
      }) (ty.ArrayOf t)
  fill_goes t lo from l es os p q m r wl we wo qe qo up room gl ge go pc slots n has fits clean k =
      let give = Give (ty.ArrayOf t) (Operate operation.NewArray) l.free (l.value ∷ []) in
      let has1 = has_front code pc (l.code ++ (give ∷ es.code)) os.code has in
      let has2 = has_back code pc (l.code ++ (give ∷ es.code)) os.code has in
      let has3 = has_back code pc l.code (give ∷ es.code) has1 in
      let e1 = length-append l.code (give ∷ es.code) in
      let e2 = length-append (l.code ++ (give ∷ es.code)) os.code in
      let live = got_by s.adts (ty.ArrayOf t) (Operate operation.NewArray) in
      let i = Of (ty.ArrayOf t) live in
      gl pc slots n (has_front code pc l.code (give ∷ es.code) has1) (omega arith) (λ d y z. clean d y (omega arith))
      (λ first left.
      let pc1 : ℕ = pc + length l.code in
      let long1 = left.long in
      let next = put first l.free i in
      let long_next = put_long first l.free i in
      let array : slot next l.free ≡ i = put_same first l.free i (omega arith) in
      let clean_first : (d : ℕ) → l.free ≤ d → d < os.free → IsClean (slot first d) = λ d y z.
      clean_same (slot slots d) (slot first d) (left.same d (inr y)) (clean d (omega (arith, y, p)) z) in
      let clean_next : (d : ℕ) → suc l.free ≤ d → d < os.free → IsClean (slot next d) = λ d y z.
      clean_same (slot first d) (slot next d) (put_other first l.free d i (λ e. absurd (omega (arith, e, y))))
      (clean_first d (omega (arith, y)) z) in
      goes_to s answer code n pc1 (suc pc1) first next give has3.0 (
        ty.Int ∷ [],
        (left.is, tt),
        ((t, refl, refl), (reference, is_alone (ty.ArrayOf t) reference refl), room, inl refl),
        clean_first l.free (omega arith) (omega arith),
        (up, tt),
      ) (refl, tt) refl
      (ge (suc pc1) next n (ap type_held array) has3.1 (omega arith) (λ d y z. clean_next d y (omega (arith, z, m, r)))
      (λ d y z. clean_next d (omega (arith, y, q)) (omega (arith, z, r)))
      (λ two g2.
      let pc2 : ℕ = suc pc1 + length es.code in
      let to_rest : pc + length (l.code ++ (give ∷ es.code)) ≡ pc2 = omega arith in
      let long2 = g2.long in
      let array2 : slot two l.free ≡ i = g2.same l.free (inl (omega arith)) (inl (omega arith)) ∙ array in
      let has_rest = subst (λ (z : ℕ). HasAt code z os.code) to_rest has2 in
      go pc2 two n (ap type_held array2) has_rest (omega arith) g2.clean
      (λ d y z. clean_same (slot next d) (slot two d) (g2.same d (inr (omega (arith, y, m))) (inr y))
      (clean_next d (omega (arith, y, q, m)) z))
      (λ three g3.
      let array3 : slot three l.free ≡ i = g3.same l.free (inl (omega arith)) (inl (omega arith)) ∙ array2 in
      let below : (d : ℕ) → d < l.free → slot three d ≡ slot first d = λ d y.
      g3.same d (inl (omega arith)) (inl (omega arith)) ∙ g2.same d (inl (omega arith)) (inl (omega arith))
      ∙ put_other first l.free d i (λ e. absurd (omega (arith, e, y))) in
      let in_three : l.free < length three = let y = g3.long in omega (arith, y, long1, long2, long_next, fits, m, q, r) in
      let at_end : ℕ = pc + length (fill_code t l es os) in
      let tells = told code at_end in
      let g1 = gave code pc1 l.free (ty.ArrayOf t) give has3.0 (λ d. refl) in
      let to_end : (d : ℕ) → tells d ≡ told code (pc2 + length os.code) d = λ d.
      told_at code at_end (pc2 + length os.code) d (omega arith) in
      let over : (d : ℕ) → Beside (suc l.free) from d → Beside es.free os.free d → tells d ≡ told code pc2 d = λ d b c.
      to_end d ∙ told_over code pc2 d os.code has_rest (qo d b c) in
      let below_told : (d : ℕ) → d < suc l.free → tells d ≡ told code (suc pc1) d = λ d y.
      over d (inl y) (inl (omega arith)) ∙ told_over code (suc pc1) d es.code has3.1 (qe d (inl y) (inl (omega arith))) in
      let array_told : tells l.free ≡ Some (ty.ArrayOf t) = below_told l.free (omega arith) ∙ g1.there in
      same_place s answer code n at_end (pc2 + length os.code) three (omega arith)
      (k three (record {
        long = g3.long ∙ long2 ∙ long_next ∙ long1;
        same = λ d b. elim b [
          | inl y ↦ below d (omega arith) ∙ left.same d (inl y)
          | inr y ↦ g3.same d (inr (omega arith)) (inr y) ∙ g2.same d (inr (omega arith)) (inr (omega arith))
              ∙ put_other first l.free d i (λ e. absurd (omega (arith, e, y, p, q, m, r))) ∙ left.same d (inr (omega arith))
        ];
        lets = lets_more s.adts tells three lo es.free os.free (l.drops ++ (Drop l.free 0 ∷ es.drops)) os.drops
            (touch_more (Between lo es.free) l.drops (Drop l.free 0 ∷ es.drops)
            (touch_wide lo l.free lo es.free l.drops (omega arith) (omega arith) wl)
            ((p, omega arith), touch_wide from es.free lo es.free es.drops (omega arith) (omega arith) we)) wo
            (lets_more s.adts tells three lo l.free es.free l.drops (Drop l.free 0 ∷ es.drops) wl
            ((omega arith, omega arith), touch_wide from es.free l.free es.free es.drops (omega arith) (omega arith) we)
            (lets_same s.adts lo l.free (told code pc1) tells first three l.drops wl (g3.long ∙ long2 ∙ long_next) (λ d b. below d b.1)
            (λ d b. below_told d (let y = b.1 in omega (arith, y))
            ∙ g1.others d (λ e. absurd (let y = b.1 in omega (arith, y, e)))) left.lets)
            (lets_more s.adts tells three l.free from es.free (Drop l.free 0 ∷ []) es.drops ((omega arith, omega arith), tt) we
            (lets_wide s.adts l.free (suc l.free) l.free from tells three (Drop l.free 0 ∷ [])
            (λ d y z b. g3.clean d (elim b [ inl u ↦ absurd (omega (arith, u, y)) | inr u ↦ u ]) z)
            (lets_from s.adts tells three l.free 0 1 (ty.ArrayOf t) live array3 in_three array_told (omega arith)
            (λ j y. (omega arith, let x = got_below s.adts (ty.ArrayOf t) (Operate operation.NewArray) j y in omega (arith, x)))))
            (lets_same s.adts from es.free (told code pc2) tells two three es.drops we g3.long (λ d b. g3.same d (inr b.0) (inl b.1))
            (λ d b. over d (inr b.0) (inl b.1)) g2.lets)))
            (lets_told s.adts es.free os.free (told code (pc2 + length os.code)) tells three os.drops to_end g3.lets);
        is = (ty.ArrayOf t, ap type_held array3, itself (ty.ArrayOf t));
        agrees = (ty.ArrayOf t, ap type_held array3, array_told);
      }))))))
