-- Nodes behind their operands go well.
use Rattle.std.proofs.Common.{◌≡◌, ℕ, zero, suc, ◌+◌, ◌-◌, ◌<◌, ◌≤◌, Bool, true, List, [], ◌∷◌, ◌++◌, length, Option, Some, None, false}
use Rattle.std.proofs.Common.{refl, sym, ap, subst, ◌∙◌, arith, inl, inr, ⊎_elim, take, drop, append-nil, length-append}
use Rattle.std.proofs.lemmas.Bool.{cases_eq}
use Rattle.std.proofs.lemmas.List.{reverse-append, length-reverse}
use Rattle.std.specs.Prelude.{slice_get, reverse, if◌then◌else◌}
use Rattle.limbo_types.specs.Types as ty
use Rattle.limbo_types.specs.Types.{Ty}
use Rattle.limbo_layout.specs.Adts.{Def}
use Rattle.limbo_typed.specs.Fitting.{HasPart, Stands, AllStand, EachStands}
use Rattle.limbo_meaning.specs.Values.{Ref}
use Rattle.limbo_meaning.specs.Places.{Root, Local, Global, Element, Target, Way, operands_of}
use Rattle.limbo_meaning.specs.Trees as tree
use Rattle.limbo_meaning.specs.Trees.{Aim, Work, Operate, Node, Terms}
use Rattle.limbo_meaning.specs.Evaluation.{work_refers, operands_for}
use Rattle.limbo_kept.specs.Operating.{HasRoom}
use Rattle.limbo_kept.specs.Places.{Leads, Ends}
use Rattle.limbo_kept.specs.Trees.{Scope, BeginsAt, WayIs, AimsAre, DeclaresAll}
use Rattle.core_code.specs.Code.{Instr, Give, Pick, Known, Write, CopyInto, Cell, Drop}
use Rattle.core_code.specs.Terms.{Lowered, LoweredAll, count_of, slot_at, drops_from, drops_if, drops_after}
use Rattle.core_code.specs.Terms.{gives}
use Rattle.core_code.specs.Terms.{writes, cells, cell_drops, list_code, picks, moves_out, node, type_at}
use Rattle.core_code.specs.Terms.{types_in}
use Rattle.core_follows.specs.Drops.{Between, Beside, AllTouch, HasAt}
use Rattle.core_follows.specs.Handled.{Suits, count}
use Rattle.core_follows.proofs.Drops.{touch_others}
use Rattle.core_follows.proofs.Holding.{has_front, has_back}
use Rattle.core_follows.proofs.Static.{touch_if, touch_wide}
use Rattle.core_follows.proofs.Valued.{AllValued, valued_at, spare_outside}
use Rattle.core_typing.specs.Held.{Held, Of, Slots, slot, put, type_held, live_in, Has, moved, left_by}
use Rattle.core_typing.specs.Needs.{StandsAs, IsA, AreThese, Below, IsAIf, Fills, Finds, IsClean, AreClean}
use Rattle.core_typing.specs.Written.{told}
use Rattle.core_typing.specs.Going.{stand, behind, IsTold, RootIsTold, HasSome, IfCharacter, Agrees, Goes, all_of, got_by, picked, out_of}
use Rattle.core_typing.proofs.Telling.{Gave, gave, told_same, told_over, told_at, writes_quiet, cells_quiet, cells_told}
use Rattle.core_typing.proofs.Going.{put_same, put_other, put_long, same_place, goes_to}
use Rattle.core_typing.proofs.Cleaning.{clean_same, has_number}
use Rattle.core_typing.proofs.Drops.{Lets, none, lets_same, lets_told, lets_wide, lets_more, lets_from, lets_if}
use Rattle.core_typing.proofs.Standing.{as_on, itself, solid_part, exactly, room_as, is_on, is_same, these_on}
use Rattle.core_typing.proofs.Standing.{these_at, these_take, these_drop, type_at_in, type_at_stands}
use Rattle.core_typing.proofs.Moving.{pick_lets}

-- What is told of values in slots, one after the other.
abbrev pub AllTold : (tells : ℕ → Option Ty) → Slots → List ℕ → Type 0
AllTold tells slots [] = Unit {0}
AllTold tells slots (s ∷ ss) = IsTold tells slots s × AllTold tells slots ss

pub these_told : (tells : ℕ → Option Ty) (slots : Slots) (ss : List ℕ) (ts : List Ty) (k : ℕ) (t : Ty) → AllTold tells slots ss
    → AreThese slots ss ts → slice_get ts k ≡ Some t → IsTold tells slots (slot_at k ss)
these_told tells slots [] [] k t w a e = absurd cc
these_told tells slots [] (u ∷ ts) k t w a e = absurd a
these_told tells slots (s ∷ ss) [] k t w a e = absurd a
these_told tells slots (s ∷ ss) (u ∷ ts) zero t w a e = w.0
these_told tells slots (s ∷ ss) (u ∷ ts) (suc k) t w a e = these_told tells slots ss ts k t w.1 a.1 e

pub told_on : (tells tells' : ℕ → Option Ty) (slots slots' : Slots) (r : ℕ) → slot slots' r ≡ slot slots r → tells' r ≡ tells r
    → IsTold tells slots r → IsTold tells' slots' r
told_on tells tells' slots slots' r e f w = (w.0, ap type_held e ∙ w.1, f ∙ w.2)

pub all_told_on : (tells tells' : ℕ → Option Ty) (slots : Slots) (ss : List ℕ) → ((r : ℕ) → tells' r ≡ tells r)
    → AllTold tells slots ss → AllTold tells' slots ss
all_told_on tells tells' slots [] e w = tt
all_told_on tells tells' slots (s ∷ ss) e w = (told_on tells tells' slots slots s refl (e s) w.0, all_told_on tells tells' slots ss e w.1)

pub all_told_in : (tells tells' : ℕ → Option Ty) (slots slots' : Slots) (lo hi : ℕ) (ds : List Instr) (ss : List ℕ)
    → AllValued lo hi ds ss → ((r : ℕ) → r < hi → slot slots' r ≡ slot slots r) → ((r : ℕ) → r < hi → tells' r ≡ tells r)
    → AllTold tells slots ss → AllTold tells' slots' ss
all_told_in tells tells' slots slots' lo hi ds [] v e f w = tt
all_told_in tells tells' slots slots' lo hi ds (s ∷ ss) v e f w = (
  told_on tells tells' slots slots' s (e s v.0.0.1) (f s v.0.0.1) w.0,
  all_told_in tells tells' slots slots' lo hi ds ss v.1 e f w.1,
)

told_take : (tells : ℕ → Option Ty) (slots : Slots) (n : ℕ) (ss : List ℕ) → AllTold tells slots ss → AllTold tells slots (take n ss)
told_take tells slots zero [] w = tt
told_take tells slots zero (s ∷ ss) w = tt
told_take tells slots (suc n) [] w = tt
told_take tells slots (suc n) (s ∷ ss) w = (w.0, told_take tells slots n ss w.1)

told_drop : (tells : ℕ → Option Ty) (slots : Slots) (n : ℕ) (ss : List ℕ) → AllTold tells slots ss → AllTold tells slots (drop n ss)
told_drop tells slots zero [] w = tt
told_drop tells slots zero (s ∷ ss) w = w
told_drop tells slots (suc n) [] w = tt
told_drop tells slots (suc n) (s ∷ ss) w = told_drop tells slots n ss w.1

-- So it is told in what a place begins.
pub root_told : (s : Scope) (tells : ℕ → Option Ty) (slots : Slots) (r : Root) (ss : List ℕ) (us : List Ty) (t : Ty)
    → AllTold tells slots ss → AreThese slots ss us → BeginsAt s r us t → RootIsTold tells slots r ss
root_told s tells slots (Local x) ss us t w a b = tt
root_told s tells slots (Global x) ss us t w a b = tt
root_told s tells slots Element ss us t w a b = these_told tells slots ss us 0 (ty.ArrayOf t) w a b.0
root_told s tells slots Target ss us t w a b = these_told tells slots ss us 0 b.2.0 w a b.2.1

-- of no operands, only in variables
root_alone : (s : Scope) (tells : ℕ → Option Ty) (slots : Slots) (r : Root) (ss : List ℕ) (t : Ty) → BeginsAt s r [] t
    → RootIsTold tells slots r ss
root_alone s tells slots (Local x) ss t b = tt
root_alone s tells slots (Global x) ss t b = tt
root_alone s tells slots Element ss t b = absurd (let e = b.0 in cc)
root_alone s tells slots Target ss t b = absurd (let e = b.2.1 in cc)

-- Operands' slots are below those behind them.
pub are_below : (lo hi : ℕ) (ds : List Instr) (ss : List ℕ) → AllValued lo hi ds ss → Below hi ss
are_below lo hi ds [] v = tt
are_below lo hi ds (s ∷ ss) v = (v.0.0.1, are_below lo hi ds ss v.1)

-- What the evaluation of a tree leaves, and of trees in a row: as many slots as before, the others as they were, drops that go well, and
-- values of these types, which are told.
pub record Left (defs : List Def) (tells : ℕ → Option Ty) (before after : Slots) (lo hi value : ℕ) (drops : List Instr) (t : Ty)
    : Type 0 where
  pub long : length after ≡ length before
  pub same : (r : ℕ) → Beside lo hi r → slot after r ≡ slot before r
  pub lets : Lets defs lo hi tells after drops
  pub is : IsA after value t
  pub agrees : IsTold tells after value

pub record AllLeft (defs : List Def) (tells : ℕ → Option Ty) (before after : Slots) (lo hi : ℕ) (values : List ℕ) (drops : List Instr)
    (ts : List Ty) : Type 0 where
  pub long : length after ≡ length before
  pub same : (r : ℕ) → Beside lo hi r → slot after r ≡ slot before r
  pub lets : Lets defs lo hi tells after drops
  pub these : AreThese after values ts
  pub agree : AllTold tells after values

pub left_on : (defs : List Def) (tells tells' : ℕ → Option Ty) (before after : Slots) (lo hi value : ℕ) (drops : List Instr) (t : Ty)
    → ((r : ℕ) → tells' r ≡ tells r) → Left defs tells before after lo hi value drops t
    → Left defs tells' before after lo hi value drops t
left_on defs tells tells' before after lo hi value drops t e left = record {
  long = left.long;
  same = left.same;
  lets = lets_told defs lo hi tells tells' after drops e left.lets;
  is = left.is;
  agrees = told_on tells tells' after after value refl (e value) left.agrees;
}

pub touch_row : (d k n : ℕ) → AllTouch (Between d (suc d)) (drops_from d k n)
touch_row d k zero = tt
touch_row d k (suc n) = ((omega arith, omega arith), touch_row d (suc k) n)

-- A value comes into the slot behind.
pub left_put : (defs : List Def) (tells tells' : ℕ → Option Ty) (before after : Slots) (lo mid : ℕ) (values : List ℕ) (ds es : List Instr)
    (ts : List Ty) (t : Ty) (live : List ℕ) → Gave tells tells' mid t
    → lo ≤ mid → mid < length before → AllLeft defs tells before after lo mid values ds ts
    → Lets defs lo (suc mid) tells' (put after mid (Of t live)) es
    → Left defs tells' before (put after mid (Of t live)) lo (suc mid) mid es t
left_put defs tells tells' before after lo mid values ds es ts t live g p l a lets =
    let there = put_same after mid (Of t live) (let q = a.long in omega arith) in
    record {
      long = put_long after mid (Of t live) ∙ a.long;
      same = λ r b. put_other after mid r (Of t live)
          (λ e. absurd (elim b [ inl y ↦ omega (arith, y, e, p) | inr y ↦ omega (arith, y, e) ]))
          ∙ a.same r (elim b [ inl y ↦ inl y | inr y ↦ inr (omega arith) ]);
      lets = lets;
      is = (t, ap type_held there, itself t);
      agrees = (t, ap type_held there, g.there);
    }

pub lets_put : (defs : List Def) (tells tells' : ℕ → Option Ty) (after : Slots) (lo mid : ℕ) (t : Ty) (live : List ℕ) (ds : List Instr)
    → Gave tells tells' mid t → AllTouch (Between lo mid) ds → Lets defs lo mid tells after ds
    → Lets defs lo mid tells' (put after mid (Of t live)) ds
lets_put defs tells tells' after lo mid t live ds g w d =
    lets_same defs lo mid tells tells' after (put after mid (Of t live)) ds w (put_long after mid (Of t live))
    (λ r b. put_other after mid r (Of t live) (λ e. absurd (let y = b.1 in omega (arith, y, e))))
    (λ r b. g.others r (λ e. absurd (let y = b.1 in omega (arith, y, e)))) d

-- the same, and what came there names nothing
pub lets_up : (defs : List Def) (tells tells' : ℕ → Option Ty) (after : Slots) (lo mid : ℕ) (t : Ty) (ds : List Instr)
    → Gave tells tells' mid t → mid < length after → AllTouch (Between lo mid) ds → Lets defs lo mid tells after ds
    → Lets defs lo (suc mid) tells' (put after mid (Of t [])) ds
lets_up defs tells tells' after lo mid t ds g l w d =
    lets_wide defs lo mid lo (suc mid) tells' (put after mid (Of t [])) ds
    (λ r p q b. let e : r ≡ mid = elim b [ inl y ↦ absurd (omega (arith, y, p)) | inr y ↦ omega (arith, y, q) ] in
    clean_same (Of t []) (slot (put after mid (Of t [])) r) (ap (slot (put after mid (Of t []))) e ∙ put_same after mid (Of t []) l) refl)
    (lets_put defs tells tells' after lo mid t [] ds g w d)

-- all references of what came there
pub lets_own : (defs : List Def) (tells tells' : ℕ → Option Ty) (after : Slots) (lo mid : ℕ) (t : Ty) (b : Bool) (live : List ℕ)
    (ds : List Instr) → (b ≡ false → live ≡ []) → ((j : ℕ) → Has live j → j < count_of defs t)
    → Gave tells tells' mid t → lo ≤ mid → mid < length after → AllTouch (Between lo mid) ds → Lets defs lo mid tells after ds
    → Lets defs lo (suc mid) tells' (put after mid (Of t live)) (ds ++ drops_if b (drops_from mid 0 (count_of defs t)))
lets_own defs tells tells' after lo mid t b live ds f h g p l w d =
    let last = put after mid (Of t live) in
    let long = put_long after mid (Of t live) in
    let there = put_same after mid (Of t live) l in
    let clean : b ≡ false → (r : ℕ) → mid ≤ r → r < suc mid → IsClean (slot last r) = λ e r p q.
    let z : r ≡ mid = omega arith in clean_same (Of t live) (slot last r) (ap (slot last) z ∙ there) (f e) in
    lets_more defs tells' last lo mid (suc mid) ds _ w (touch_if (Between mid (suc mid)) b _ (touch_row mid 0 (count_of defs t)))
    (lets_put defs tells tells' after lo mid t live ds g w d)
    (lets_if defs mid (suc mid) tells' last b _ clean
    (lets_from defs tells' last mid 0 (count_of defs t) t live there (omega (arith, long, l)) g.there
    (omega arith) (λ j y. (omega arith, let x = h j y in omega (arith, x)))))

-- ---- references that a value has

pub got_none : (defs : List Def) (t : Ty) (o : Work) → work_refers defs t o ≡ false → got_by defs t o ≡ []
got_none defs t o e = ap (λ (b : Bool). if b then all_of defs t else []) e

pub all_below : (defs : List Def) (t : Ty) (j : ℕ) → Has (all_of defs t) j → j < count_of defs t
all_below defs t j h = let x = has_number defs 0 (count_of defs t) j h in omega (arith, x)

got_if : (defs : List Def) (t : Ty) (b : Bool) (j : ℕ) → Has (if b then all_of defs t else []) j → j < count_of defs t
got_if defs t true j h = all_below defs t j h
got_if defs t false j h = absurd h

pub got_below : (defs : List Def) (t : Ty) (o : Work) (j : ℕ) → Has (got_by defs t o) j → j < count_of defs t
got_below defs t o j h = got_if defs t (work_refers defs t o) j h

-- ---- items of a list

EachIs : (mid : ℕ) → Ty → Slots → List ℕ → Type 0
EachIs mid i slots [] = Unit {0}
EachIs mid i slots (s ∷ ss) = (s < mid) × IsA slots s i × EachIs mid i slots ss

each_put : (mid : ℕ) (i : Ty) (slots : Slots) (d : ℕ) (h : Held) (ss : List ℕ) → mid ≤ d → EachIs mid i slots ss
    → EachIs mid i (put slots d h) ss
unfolding EachIs
each_put mid i slots d h [] l e = tt
each_put mid i slots d h (s ∷ ss) l e = (
  e.0,
  is_same slots (put slots d h) s i (put_other slots d s h (λ q. absurd (let x = e.0 in omega (arith, q, l, x)))) e.1,
  each_put mid i slots d h ss l e.2,
)

each_more : (mid : ℕ) (i : Ty) (slots : Slots) (xs ys : List ℕ) → EachIs mid i slots xs → EachIs mid i slots ys
    → EachIs mid i slots (xs ++ ys)
unfolding EachIs
each_more mid i slots [] ys e f = f
each_more mid i slots (x ∷ xs) ys e f = (e.0, e.1, each_more mid i slots xs ys e.2 f)

each_reverse : (mid : ℕ) (i : Ty) (slots : Slots) (ss : List ℕ) → EachIs mid i slots ss → EachIs mid i slots (reverse ss)
unfolding EachIs
each_reverse mid i slots [] e = tt
each_reverse mid i slots (s ∷ ss) e =
    subst (EachIs mid i slots) (sym (reverse-append (s ∷ []) ss))
    (each_more mid i slots (reverse ss) (s ∷ []) (each_reverse mid i slots ss e.2) (e.0, e.1, tt))

each_these : (lo mid : ℕ) (ds : List Instr) (i : Ty) (slots : Slots) (ss : List ℕ) (us : List Ty) → AllValued lo mid ds ss
    → AreThese slots ss us → EachStands us i → EachIs mid i slots ss
unfolding EachIs
each_these lo mid ds i slots [] us v a e = tt
each_these lo mid ds i slots (s ∷ ss) [] v a e = absurd a
each_these lo mid ds i slots (s ∷ ss) (u ∷ us) v a e =
    (v.0.0.1, is_on slots s u i a.0 e.0, each_these lo mid ds i slots ss us v.1 a.1 e.1)

-- ---- what is written

pub fills_from : (s : Scope) (slots : Slots) (from : ℕ) (v t u : Ty) (part : List ℕ) → IsA slots from v → HasRoom s.adts v
    → Leads s.adts v part t → Stands t u → Fills s slots u part from
fills_from s slots from v t u [] a r l k =
    inl (a.0, a.1, room_as s.adts a.0 v r a.2, (a.0, refl, as_on a.0 t u (subst (StandsAs a.0) l a.2) k))
fills_from s slots from v t u (n ∷ ns) a r l k =
    let e = exactly a.0 v (solid_part s.adts v n l.0 l.1) a.2 in
    inl (v, a.1 ∙ ap (λ (x : Ty). Some x) e, r, (t, l, inl k))

-- ---- characters that are written

if_character : (b : Bool) (A : Type 0) → (b ≡ true → A) → IfCharacter b A
if_character true A f = f refl
if_character false A f = tt

ends_int : (b : Bool) (t u : Ty) → b ≡ true → Ends b t u → u ≡ ty.Int
ends_int true t u e w = w.1
ends_int false t u e w = absurd cc

nothing_leads : (defs : List Def) (part : List ℕ) (t : Ty) → Leads defs ty.Nothing part t → t ≡ ty.Nothing
nothing_leads defs [] t l = sym l
nothing_leads defs (n ∷ ns) t l = absurd l.1

nothing_stands : (t : Ty) → Stands ty.Nothing t → t ≡ ty.Nothing
nothing_stands t (inl e) = sym e
nothing_stands t (inr e) = absurd e

nothing_as : (t : Ty) → StandsAs ty.Nothing t → t ≡ ty.Nothing
nothing_as t (inl a) = nothing_stands t a
nothing_as t (inr a) = absurd (let e = a.0 in cc)

-- A part that stands for an int is part of a value.
has_some : (defs : List Def) (slots : Slots) (from : ℕ) (v t u : Ty) (part : List ℕ) → IsA slots from v → Leads defs v part t → Stands t u
    → u ≡ ty.Int → HasSome slots from
has_some defs slots from v t u part a l k e held =
    let same : a.0 ≡ ty.Nothing = let f = a.1 in cc in
    let whole : v ≡ ty.Nothing = nothing_as v (subst (λ (x : Ty). StandsAs x v) same a.2) in
    let inner : t ≡ ty.Nothing = nothing_leads defs part t (subst (λ (x : Ty). Leads defs x part t) whole l) in
    let outer : u ≡ ty.Nothing = nothing_stands u (subst (λ (x : Ty). Stands x u) inner k) in
    cc

pub writes_some : (s : Scope) (slots : Slots) (from : ℕ) (v t u : Ty) (part : List ℕ) (w : Way) (us : List Ty) → WayIs s w us u
    → IsA slots from v → Leads s.adts v part t → Stands t u → IfCharacter w.character (HasSome slots from)
writes_some s slots from v t u part w us way a l k =
    if_character w.character (HasSome slots from)
    (λ e. has_some s.adts slots from v t u part a l k (ends_int w.character way.inner u e way.ends))

-- Where a variable is declared no character is written.
declares_some : (s : Scope) (slots : Slots) (from : ℕ) (u : Ty) (w : Way) → WayIs s w [] u → IfCharacter w.character (HasSome slots from)
declares_some s slots from u w way =
    if_character w.character (HasSome slots from) (λ e. absurd (let f = way.indexed e in cc))

-- ---- code in front of what goes well

module _ (s : Scope) (answer : Ty) (code : List Instr) where
  abbrev pub GoesBy : (lo : ℕ) → Lowered → Ty → Type 0
  GoesBy lo x t =
      (pc : ℕ) (slots : Slots) (n : ℕ) → HasAt code pc x.code → x.free ≤ length slots → AreClean slots lo x.free
      → ((after : Slots) → Left s.adts (told code (pc + length x.code)) slots after lo x.free x.value x.drops t
      → Goes s answer code n (pc + length x.code) after)
      → Goes s answer code n pc slots

  abbrev pub AllBy : (lo : ℕ) → LoweredAll → List Ty → Type 0
  AllBy lo x ts =
      (pc : ℕ) (slots : Slots) (n : ℕ) → HasAt code pc x.code → x.free ≤ length slots → AreClean slots lo x.free
      → ((after : Slots) → AllLeft s.adts (told code (pc + length x.code)) slots after lo x.free x.values x.drops ts
      → Goes s answer code n (pc + length x.code) after)
      → Goes s answer code n pc slots

  -- The same where more is known of the slots behind them.
  abbrev pub GoesWith : (Q : Slots → Type 0) → (lo : ℕ) → Lowered → Ty → Type 0
  GoesWith Q lo x t =
      (pc : ℕ) (slots : Slots) (n : ℕ) → HasAt code pc x.code → x.free ≤ length slots → AreClean slots lo x.free
      → ((after : Slots) → Left s.adts (told code (pc + length x.code)) slots after lo x.free x.value x.drops t → Q after
      → Goes s answer code n (pc + length x.code) after)
      → Goes s answer code n pc slots

  abbrev pub AllWith : (Q : Slots → Type 0) → (lo : ℕ) → LoweredAll → List Ty → Type 0
  AllWith Q lo x ts =
      (pc : ℕ) (slots : Slots) (n : ℕ) → HasAt code pc x.code → x.free ≤ length slots → AreClean slots lo x.free
      → ((after : Slots) → AllLeft s.adts (told code (pc + length x.code)) slots after lo x.free x.values x.drops ts → Q after
      → Goes s answer code n (pc + length x.code) after)
      → Goes s answer code n pc slots

  pub all_plain : (Q : Slots → Type 0) (lo : ℕ) (x : LoweredAll) (ts : List Ty) → AllWith Q lo x ts → AllBy lo x ts
  all_plain Q lo x ts all pc slots n has fits clean k = all pc slots n has fits clean (λ after left q. k after left)

  -- Instructions go well in front of what goes well behind them.
  abbrev pub Leaves : (pc : ℕ) (before after : Slots) → (lo hi value : ℕ) → (is ds : List Instr) → Ty → Type 0
  Leaves pc before after lo hi value is ds t =
      (n : ℕ) → HasAt code pc is
      → ((last : Slots) → Left s.adts (told code (pc + length is)) before last lo hi value ds t
      → Goes s answer code n (pc + length is) last)
      → Goes s answer code n pc after

  pub left_at : (pc pc' : ℕ) (before after : Slots) (lo hi value : ℕ) (ds : List Instr) (t : Ty) → pc ≡ pc'
      → Left s.adts (told code pc') before after lo hi value ds t → Left s.adts (told code pc) before after lo hi value ds t
  left_at pc pc' before after lo hi value ds t e left =
      left_on s.adts (told code pc') (told code pc) before after lo hi value ds t (λ r. told_at code pc pc' r e) left

  -- Instructions behind operands.
  pub behind_with : (Q : Slots → Type 0) (lo : ℕ) (t : Ty) (l : LoweredAll) (ts : List Ty) (is ds : List Instr) (value free : ℕ)
      → lo ≤ l.free → l.free ≤ free → AllWith Q lo l ts
      → ((pc : ℕ) (before after : Slots) → AllLeft s.adts (told code pc) before after lo l.free l.values l.drops ts → Q after
      → free ≤ length before → AreClean after l.free free → Leaves pc before after lo free value is ds t)
      → GoesBy lo (record { code = l.code ++ is; drops = ds; value = value; free = free }) t
  behind_with Q lo t l ts is ds value free up u all f pc slots n has fits clean k =
      let e : pc + length (l.code ++ is) ≡ pc + length l.code + length is = let e = length-append l.code is in omega arith in
      all pc slots n (has_front code pc l.code is has) (omega arith) (λ r p q. clean r p (omega arith))
      (λ after left more. f (pc + length l.code) slots after left more fits
      (λ r p q. clean_same (slot slots r) (slot after r) (left.same r (inr p)) (clean r (omega (arith, up, p)) q)) n
      (has_back code pc l.code is has)
      (λ last left2. same_place s answer code n (pc + length (l.code ++ is)) (pc + length l.code + length is) last e
      (k last (left_at (pc + length (l.code ++ is)) (pc + length l.code + length is) slots last lo free value ds t e left2))))

  pub behind_all : (lo : ℕ) (t : Ty) (l : LoweredAll) (ts : List Ty) (is ds : List Instr) (value free : ℕ) → lo ≤ l.free → l.free ≤ free
      → AllBy lo l ts
      → ((pc : ℕ) (before after : Slots) → AllLeft s.adts (told code pc) before after lo l.free l.values l.drops ts
      → free ≤ length before → AreClean after l.free free → Leaves pc before after lo free value is ds t)
      → GoesBy lo (record { code = l.code ++ is; drops = ds; value = value; free = free }) t
  behind_all lo t l ts is ds value free up u all f =
      behind_with (λ after. Unit {0}) lo t l ts is ds value free up u
      (λ pc slots n has fits clean k. all pc slots n has fits clean (λ after left. k after left tt))
      (λ pc before after left more. f pc before after left)

  -- One instruction, which changes slots in one way.
  pub one_leaves : (pc : ℕ) (before after last : Slots) (lo hi value : ℕ) (i : Instr) (ds : List Instr) (t : Ty)
      → Finds s answer after i → Agrees s answer code pc after i → behind s.adts pc after i ≡ stand (suc pc) last ∷ []
      → (slice_get code pc ≡ Some i → Left s.adts (told code (suc pc)) before last lo hi value ds t)
      → Leaves pc before after lo hi value (i ∷ []) ds t
  one_leaves pc before after last lo hi value i ds t f a b left n has k =
      goes_to s answer code n pc (suc pc) after last i has.0 f a b
      (same_place s answer code n (pc + 1) (suc pc) last (omega arith)
      (k last (left_at (pc + 1) (suc pc) before last lo hi value ds t (omega arith) (left has.0))))

  -- ---- one instruction that gives a value

  pub gives_with : (Q : Slots → Type 0) (lo : ℕ) (t : Ty) (o : Work) (l : LoweredAll) (ts : List Ty) → lo ≤ l.free
      → AllTouch (Between lo l.free) l.drops
      → ((pc : ℕ) (after : Slots) → AreThese after l.values ts → AllTold (told code pc) after l.values → IsClean (slot after l.free)
      → Q after
      → Finds s answer after (Give t o l.free l.values) × Agrees s answer code pc after (Give t o l.free l.values))
      → AllWith Q lo l ts
      → GoesBy lo (gives s.adts t o l) t
  gives_with Q lo t o l ts p w f all =
      behind_with Q lo t l ts (Give t o l.free l.values ∷ []) _ l.free (suc l.free) p (omega arith) all
      (λ pc before after left more fits clean.
      let needs = f pc after left.these left.agree (clean l.free (omega arith) (omega arith)) more in
      one_leaves pc before after (put after l.free (Of t (got_by s.adts t o))) lo (suc l.free) l.free _ _ t needs.0 needs.1 refl
      (λ e. let g = gave code pc l.free t (Give t o l.free l.values) e (λ r. refl) in
      left_put s.adts (told code pc) (told code (suc pc)) before after lo l.free l.values l.drops _ ts t (got_by s.adts t o) g p
      (omega arith) left
      (lets_own s.adts (told code pc) (told code (suc pc)) after lo l.free t (work_refers s.adts t o) (got_by s.adts t o) l.drops
      (got_none s.adts t o) (got_below s.adts t o) g p
      (let q = left.long in omega arith) w left.lets)))

  pub gives_goes : (lo : ℕ) (t : Ty) (o : Work) (l : LoweredAll) (ts : List Ty) → lo ≤ l.free → AllTouch (Between lo l.free) l.drops
      → ((pc : ℕ) (after : Slots) → AreThese after l.values ts → AllTold (told code pc) after l.values → IsClean (slot after l.free)
      → Finds s answer after (Give t o l.free l.values) × Agrees s answer code pc after (Give t o l.free l.values))
      → AllBy lo l ts
      → GoesBy lo (gives s.adts t o l) t
  gives_goes lo t o l ts p w f all =
      gives_with (λ after. Unit {0}) lo t o l ts p w (λ pc after a agree c more. f pc after a agree c)
      (λ pc slots n has fits clean k. all pc slots n has fits clean (λ after left. k after left tt))

  pub channel_goes : (lo : ℕ) (u : List Ty) (t : Ty) (l : LoweredAll) (ts : List Ty) (i : Ty) → lo ≤ l.free
      → AllTouch (Between lo l.free) l.drops → t ≡ ty.ChanOf i → AllBy lo l ts → GoesBy lo (node s.adts u t tree.NewChannel l) t
  channel_goes lo u t l ts i p w e all =
      behind_all lo t l ts (Give t tree.NewChannel l.free [] ∷ []) _ l.free (suc l.free) p (omega arith) all
      (λ pc before after left fits clean.
      let live = all_of s.adts t in
      let last = put after l.free (Of t live) in
      let long = put_long after l.free (Of t live) in
      let inside : l.free < length after = let q = left.long in omega arith in
      let there : slot last l.free ≡ Of t live = put_same after l.free (Of t live) inside in
      let one_reference : count_of s.adts t ≡ 1 = ap (count_of s.adts) e in
      one_leaves pc before after last lo (suc l.free) l.free _ _ t
      ([], tt, (i, e, inl refl), clean l.free (omega arith) (omega arith), tt) tt refl
      (λ h. let g = gave code pc l.free t (Give t tree.NewChannel l.free []) h (λ r. refl) in
      left_put s.adts (told code pc) (told code (suc pc)) before after lo l.free l.values l.drops _ ts t live g p (omega arith) left
      (lets_more s.adts (told code (suc pc)) last lo l.free (suc l.free) l.drops (Drop l.free 0 ∷ []) w ((omega arith, omega arith), tt)
      (lets_put s.adts (told code pc) (told code (suc pc)) after lo l.free t live l.drops g w left.lets)
      (lets_from s.adts (told code (suc pc)) last l.free 0 1 t live there (omega (arith, long, inside)) g.there
      (omega (arith, one_reference)) (λ j y. (omega arith, let x = all_below s.adts t j y in omega (arith, x, one_reference)))))))

  -- ---- assignments and copies

  pub writes_go : (aims : List Aim) (slots : Slots) (us : List Ty) (ss : List ℕ) (value : ℕ) (v : Ty) (n pc : ℕ)
      → AreThese slots ss us → AllTold (told code pc) slots ss → IsA slots value v → IsTold (told code pc) slots value → HasRoom s.adts v
      → AimsAre s aims us v → HasAt code pc (writes s.adts aims ss value)
      → Goes s answer code n (pc + length (writes s.adts aims ss value)) slots → Goes s answer code n pc slots
  writes_go [] slots us ss value v n pc a ts e z r w has k = same_place s answer code n (pc + 0) pc slots (omega arith) k
  writes_go (x ∷ aims) slots us ss value v n pc a ts e z r w has k =
      let rest = writes s.adts aims (drop (operands_of x.way) ss) value in
      let write = Write x.type x.way (take (operands_of x.way) ss) x.part value in
      goes_to s answer code n pc (suc pc) slots slots write has.0 (
        take (operands_of x.way) us,
        these_take slots (operands_of x.way) ss us a,
        w.0,
        fills_from s slots value v w.2.0 x.type x.part e r w.2.1 w.2.2,
      ) (
        z,
        root_told s (told code pc) slots x.way.root (take (operands_of x.way) ss) (take (operands_of x.way) us) w.0.root
            (told_take (told code pc) slots (operands_of x.way) ss ts) (these_take slots (operands_of x.way) ss us a) w.0.begins,
        writes_some s slots value v w.2.0 x.type x.part x.way (take (operands_of x.way) us) w.0 e w.2.1 w.2.2,
      ) refl
      (writes_go aims slots (drop (operands_of x.way) us) (drop (operands_of x.way) ss) value v n (suc pc)
      (these_drop slots (operands_of x.way) ss us a)
      (all_told_on (told code pc) (told code (suc pc)) slots (drop (operands_of x.way) ss)
      (λ q. told_same code pc q write has.0 refl) (told_drop (told code pc) slots (operands_of x.way) ss ts)) e
      (z.0, z.1, told_same code pc value write has.0 refl ∙ z.2) r w.3 has.1
      (same_place s answer code n (pc + suc (length rest)) (suc pc + length rest) slots (omega arith) k))

  pub declares_go : (aims : List Aim) (slots : Slots) (ss : List ℕ) (value : ℕ) (n pc : ℕ) → type_held (slot slots value) ≡ Some ty.Nothing
      → told code pc value ≡ Some ty.Nothing → DeclaresAll s aims → HasAt code pc (writes s.adts aims ss value)
      → Goes s answer code n (pc + length (writes s.adts aims ss value)) slots → Goes s answer code n pc slots
  declares_go [] slots ss value n pc e z w has k = same_place s answer code n (pc + 0) pc slots (omega arith) k
  declares_go (x ∷ aims) slots ss value n pc e z w has k =
      let rest = writes s.adts aims (drop (operands_of x.way) ss) value in
      goes_to s answer code n pc (suc pc) slots slots (Write x.type x.way (take (operands_of x.way) ss) x.part value) has.0 (
        [],
        subst (λ (k : ℕ). AreThese slots (take k ss) []) (sym w.0.1) tt,
        w.0.0,
        inr (e, w.0.2, w.0.3),
      ) (
        (ty.Nothing, e, z),
        root_alone s (told code pc) slots x.way.root (take (operands_of x.way) ss) w.0.0.root w.0.0.begins,
        declares_some s slots value x.type x.way w.0.0,
      ) refl
      (declares_go aims slots (drop (operands_of x.way) ss) value n (suc pc) e
      (told_same code pc value (Write x.type x.way (take (operands_of x.way) ss) x.part value) has.0 refl ∙ z) w.1 has.1
      (same_place s answer code n (pc + suc (length rest)) (suc pc + length rest) slots (omega arith) k))

  pub assign_goes : (lo : ℕ) (u : List Ty) (t : Ty) (aims : List Aim) (ts : Terms) (us : List Ty) (v : Ty) (l : LoweredAll)
      → lo ≤ l.free → operands_for aims < count ts → AllStand (types_in s.adts ts) us → slice_get us (operands_for aims) ≡ Some v
      → HasRoom s.adts v
      → AimsAre s aims us v → AllBy lo l (types_in s.adts ts)
      → GoesBy lo (node s.adts u t (tree.Assign aims) l) (type_at s.adts (operands_for aims) ts)
  assign_goes lo u t aims ts us v l p c st e r w all =
      let value = slot_at (operands_for aims) l.values in
      let is = writes s.adts aims l.values value in
      behind_all lo (type_at s.adts (operands_for aims) ts) l (types_in s.adts ts) is l.drops value l.free
      p (omega arith) all
      (λ pc before after left fits clean n has k.
      let those = these_on after l.values (types_in s.adts ts) us left.these st in
      let agrees = these_told (told code pc) after l.values us (operands_for aims) v left.agree those e in
      writes_go aims after us l.values value v n pc those left.agree (these_at after l.values us (operands_for aims) v those e) agrees r w
      has
      (k after (left_on s.adts (told code pc) (told code (pc + length is)) before after lo l.free value l.drops _
      (λ q. told_over code pc q is has (writes_quiet s.adts q aims l.values value)) (record {
        long = left.long;
        same = left.same;
        lets = left.lets;
        is = these_at after l.values (types_in s.adts ts) (operands_for aims) _ left.these (type_at_in s ts (operands_for aims) c);
        agrees = agrees;
      }))))

  pub copy_goes : (lo : ℕ) (u : List Ty) (t : Ty) (ts : Terms) (us : List Ty) (i : Ty) (l : LoweredAll) → lo ≤ l.free → 2 < count ts
      → AllStand (types_in s.adts ts) us → slice_get us 0 ≡ Some (ty.ArrayOf i) → slice_get us 2 ≡ Some (ty.ArrayOf i)
      → slice_get (types_in s.adts ts) 1 ≡ Some ty.Int → AllBy lo l (types_in s.adts ts)
      → GoesBy lo (node s.adts u t tree.Copy l) (type_at s.adts 2 ts)
  copy_goes lo u t ts us i l p c st e g f all =
      let copy = CopyInto (slot_at 0 l.values) (slot_at 1 l.values) (slot_at 2 l.values) in
      behind_all lo (type_at s.adts 2 ts) l (types_in s.adts ts) (copy ∷ []) l.drops (slot_at 2 l.values) l.free p (omega arith) all
      (λ pc before after left fits clean.
      let those = these_on after l.values (types_in s.adts ts) us left.these st in
      one_leaves pc before after after lo l.free (slot_at 2 l.values) _ l.drops (type_at s.adts 2 ts) (
        i,
        these_at after l.values us 0 (ty.ArrayOf i) those e,
        these_at after l.values (types_in s.adts ts) 1 ty.Int left.these f,
        these_at after l.values us 2 (ty.ArrayOf i) those g,
      ) tt refl (λ h. left_on s.adts (told code pc) (told code (suc pc)) before after lo l.free (slot_at 2 l.values) l.drops _
      (λ r. told_same code pc r copy h refl) (record {
        long = left.long;
        same = left.same;
        lets = left.lets;
        is = these_at after l.values (types_in s.adts ts) 2 _ left.these (type_at_in s ts 2 c);
        agrees = these_told (told code pc) after l.values us 2 (ty.ArrayOf i) left.agree those g;
      })))

  -- ---- lists

  -- a list's cell, with its reference
  abbrev cell : Ty → Held
  cell i = Of (ty.ListOf i) (all_of s.adts (ty.ListOf i))

  cells_go : (i : Ty) (mid : ℕ) (ss : List ℕ) (b : Option ℕ) (free : ℕ) (slots : Slots) (n pc : ℕ) → HasRoom s.adts i
      → EachIs mid i slots ss → mid ≤ free → IsAIf slots b (ty.ListOf i) → free + length ss ≤ length slots
      → AreClean slots free (free + length ss) → HasAt code pc (cells s.adts i ss b free)
      → ((after : Slots) → length after ≡ length slots
      → ((r : ℕ) → Beside free (free + length ss) r → slot after r ≡ slot slots r)
      → ((r : ℕ) → free ≤ r → r < free + length ss → slot after r ≡ cell i)
      → Goes s answer code n (pc + length (cells s.adts i ss b free)) after)
      → Goes s answer code n pc slots
  unfolding EachIs
  cells_go i mid [] b free slots n pc r e l a fits clean has k =
      same_place s answer code n (pc + 0) pc slots (omega arith)
      (k slots refl (λ r b. refl) (λ r p q. absurd (omega arith)))
  cells_go i mid (x ∷ ss) b free slots n pc r e l a fits clean has k =
      let h = cell i in
      let next = put slots free h in
      let long = put_long slots free h in
      let there : slot next free ≡ h = put_same slots free h (omega arith) in
      let rest = cells s.adts i ss (Some free) (suc free) in
      goes_to s answer code n pc (suc pc) slots next (Cell i free x b) has.0
      (r, e.1, a, clean free (omega arith) (omega arith), (let y = e.0 in omega (arith, y, l))) tt refl
      (cells_go i mid ss (Some free) (suc free) next n (suc pc) r (each_put mid i slots free h ss l e.2) (omega arith)
      (ty.ListOf i, ap type_held there, itself (ty.ListOf i)) (omega arith)
      (λ r p q. clean_same (slot slots r) (slot next r) (put_other slots free r h (λ f. absurd (omega (arith, f, p))))
      (clean r (omega (arith, p)) (omega (arith, q)))) has.1
      (λ after long2 same filled. same_place s answer code n (pc + suc (length rest)) (suc pc + length rest) after (omega arith)
      (k after (long2 ∙ long)
      (λ q c. same q (elim c [ inl y ↦ inl (omega arith) | inr y ↦ inr (omega arith) ])
      ∙ put_other slots free q h (λ f. absurd (elim c [ inl y ↦ omega (arith, y, f) | inr y ↦ omega (arith, y, f) ])))
      (λ q p m. ⊎_elim
      (λ (f : q ≡ free). subst (λ (z : ℕ). slot after z ≡ h) (sym f) (same free (inl (omega arith)) ∙ there))
      (λ (f : q ≡ free → ⊥). filled q (omega (arith, f)) (omega arith))
      (cases_eq q free)))))

  touch_cells : (n free : ℕ) → AllTouch (Between free (free + n)) (cell_drops s.adts n free)
  touch_cells zero free = tt
  touch_cells (suc n) free = (
    (omega arith, omega arith),
    touch_others (Between (suc free) (suc free + n)) (Between free (free + suc n))
        (cell_drops s.adts n (suc free)) (λ r b. (let x = b.0 in omega (arith, x), let x = b.1 in omega (arith, x)))
        (touch_cells n (suc free)),
  )

  lets_cells : (tells : ℕ → Option Ty) (slots : Slots) (i : Ty) (count free hi : ℕ) → free + count ≡ hi → hi ≤ length slots
      → ((r : ℕ) → free ≤ r → r < hi → slot slots r ≡ cell i)
      → ((r : ℕ) → free ≤ r → r < hi → tells r ≡ Some (ty.ListOf i))
      → Lets s.adts free hi tells slots (cell_drops s.adts count free)
  lets_cells tells slots i zero free hi e l h w = none (λ r p q. absurd (omega (arith, e, p, q)))
  lets_cells tells slots i (suc n) free hi e l h w =
      let rest = cell_drops s.adts n (suc free) in
      lets_more s.adts tells slots free (suc free) hi (Drop free 0 ∷ []) rest ((omega arith, omega arith), tt)
      (touch_wide (suc free) (suc free + n) (suc free) hi rest (omega arith) (omega arith) (touch_cells n (suc free)))
      (lets_from s.adts tells slots free 0 1 (ty.ListOf i) (all_of s.adts (ty.ListOf i)) (h free (omega arith) (omega arith)) (omega arith)
      (w free (omega arith) (omega arith)) (omega arith)
      (λ j y. (omega arith, let x = all_below s.adts (ty.ListOf i) j y in omega (arith, x))))
      (lets_cells tells slots i n (suc free) hi (omega arith) l (λ r p q. h r (omega arith) (omega arith))
      (λ r p q. w r (omega arith) (omega arith)))

  list_leaves : (i : Ty) (pc : ℕ) (before after : Slots) (lo mid : ℕ) (ss : List ℕ) (ds : List Instr) (ts : List Ty) → lo ≤ mid
      → AllTouch (Between lo mid) ds → HasRoom s.adts i → AllLeft s.adts (told code pc) before after lo mid ss ds ts → EachIs mid i after ss
      → suc (mid + (length ss - 1)) ≤ length before → AreClean after mid (suc (mid + (length ss - 1)))
      → Leaves pc before after lo (suc (mid + (length ss - 1))) (mid + (length ss - 1)) (list_code s.adts i ss mid)
      (ds ++ cell_drops s.adts (length ss) mid) (ty.ListOf i)
  list_leaves i pc before after lo mid [] ds ts p w r left each fits clean n has k =
      let last = put after mid (Of ty.Nil []) in
      let e : mid ≡ mid + (0 - 1) = omega arith in
      subst (λ (z : ℕ). Leaves pc before after lo (suc z) z (Known (Ref None) mid ∷ []) (ds ++ []) (ty.ListOf i)) e
      (one_leaves pc before after last lo (suc mid) mid (Known (Ref None) mid) (ds ++ []) (ty.ListOf i)
      (tt, λ n. refl, clean mid (omega arith) (omega arith)) tt refl
      (λ h.
      let g = gave code pc mid ty.Nil (Known (Ref None) mid) h (λ r. refl) in
      let x = left_put s.adts (told code pc) (told code (suc pc)) before after lo mid [] ds (ds ++ []) ts ty.Nil [] g p (omega arith) left
      (subst (Lets s.adts lo (suc mid) (told code (suc pc)) last) (sym (append-nil ds))
      (lets_up s.adts (told code pc) (told code (suc pc)) after lo mid ty.Nil ds g (let q = left.long in omega arith) w left.lets)) in
      record {
        long = x.long;
        same = x.same;
        lets = x.lets;
        is = (ty.Nil, ap type_held (put_same after mid (Of ty.Nil []) (let q = left.long in omega arith)), inr (refl, tt));
        agrees = x.agrees;
      })) n has k
  list_leaves i pc before after lo mid (x ∷ ss) ds ts p w r left each fits clean n has k =
      let items = reverse (x ∷ ss) in
      let m : length items ≡ suc (length ss) = length-reverse (x ∷ ss) in
      let long = left.long in
      let is = cells s.adts i items None mid in
      let end : ℕ = pc + length is in
      let hi : ℕ = suc (mid + (suc (length ss) - 1)) in
      cells_go i mid items None mid after n pc r (each_reverse mid i after (x ∷ ss) each) (omega arith) tt (omega arith)
      (λ q y z. clean q y (omega (arith, z, m))) has
      (λ last long2 same filled. k last (record {
        long = long2 ∙ long;
        same = λ q b. same q (elim b [ inl y ↦ inl (omega arith) | inr y ↦ inr (omega arith) ])
            ∙ left.same q (elim b [ inl y ↦ inl y | inr y ↦ inr (omega arith) ]);
        lets = lets_more s.adts (told code end) last lo mid hi ds _ w
            (touch_wide mid (mid + suc (length ss)) mid hi (cell_drops s.adts (suc (length ss)) mid) (omega arith) (omega arith)
            (touch_cells (suc (length ss)) mid))
            (lets_same s.adts lo mid (told code pc) (told code end) after last ds w long2 (λ q b. same q (inl b.1))
            (λ q b. told_over code pc q is has (cells_quiet s.adts q i items None mid (inl b.1))) left.lets)
            (lets_cells (told code end) last i (suc (length ss)) mid hi (omega arith) (omega arith) (λ q y z. filled q y (omega arith))
            (λ q y z. cells_told s.adts code pc i items None mid q has y (omega arith)));
        is = (
          ty.ListOf i,
          ap type_held (filled (mid + (suc (length ss) - 1)) (omega arith) (omega arith)),
          itself (ty.ListOf i),
        );
        agrees = (
          ty.ListOf i,
          ap type_held (filled (mid + (suc (length ss) - 1)) (omega arith) (omega arith)),
          cells_told s.adts code pc i items None mid (mid + (suc (length ss) - 1)) has (omega arith) (omega arith),
        );
      }))

  pub link_goes : (lo : ℕ) (u : List Ty) (t : Ty) (i : Ty) (l : LoweredAll) (ts us : List Ty) → lo ≤ l.free
      → AllTouch (Between lo l.free) l.drops → AllValued lo l.free l.drops l.values
      → t ≡ ty.ListOf i → HasRoom s.adts i → AllStand ts us → EachStands us i → AllBy lo l ts
      → GoesBy lo (node s.adts u t tree.Link l) t
  link_goes lo u t i l ts us p w v e r st each all =
      subst (λ (x : Ty). GoesBy lo (node s.adts u x tree.Link l) x) (sym e)
      (behind_all lo (ty.ListOf i) l ts (list_code s.adts i l.values l.free) (l.drops ++ cell_drops s.adts (length l.values) l.free)
      (l.free + (length l.values - 1)) (suc (l.free + (length l.values - 1))) p (omega arith) all
      (λ pc before after left fits clean. list_leaves i pc before after lo l.free l.values l.drops ts p w r left
      (each_these lo l.free l.drops i after l.values us v (these_on after l.values ts us left.these st) each) fits clean))

  -- ---- parts that move

  pub pick_goes : (lo : ℕ) (t v : Ty) (k : ℕ) (ts : Terms) (l : LoweredAll) (us : List Ty) → lo ≤ l.free
      → AllTouch (Between lo l.free) l.drops → AllValued lo l.free l.drops l.values → length l.values ≡ count ts
      → Suits s.adts t (tree.TakePart k) ts
      → AllStand (types_in s.adts ts) us → slice_get us 0 ≡ Some v → HasRoom s.adts v → HasPart s.adts v k t
      → AllBy lo l (types_in s.adts ts) → GoesBy lo (picks s.adts (type_at s.adts 0 ts) t k l) t
  pick_goes lo t v k ts l us p w vd c h st e r part all =
      let mid = l.free in
      let from = slot_at 0 l.values in
      let u = type_at s.adts 0 ts in
      let es = drops_after (moves_out s.adts u k from mid) l.drops in
      behind_all lo t l (types_in s.adts ts) (Pick t k mid from ∷ []) es mid (suc mid) p (omega arith) all
      (λ pc before after left fits clean.
      let inside : mid < length after = let q = left.long in omega arith in
      let those = these_on after l.values (types_in s.adts ts) us left.these st in
      let a = these_at after l.values us 0 v those e in
      let solid = solid_part s.adts v k t part in
      let same = exactly a.0 v solid a.2 in
      let whole = exactly u v solid (inl (type_at_stands s ts us 0 v st e)) in
      let some : 0 < length l.values = first us l.values after those e in
      let at0 = valued_at lo mid l.drops l.values 0 some vd in
      let m = moves_out s.adts u k from mid in
      let held : type_held (slot after from) ≡ Some v = a.1 ∙ ap (λ (x : Ty). Some x) same in
      let out = put after from (left_by m (slot after from)) in
      let now = Of t (moved m (live_in (slot after from))) in
      let last = put out mid now in
      let long_out = put_long after from (left_by m (slot after from)) in
      let there = put_same out mid now (omega (arith, long_out, inside)) in
      one_leaves pc before after last lo (suc mid) mid _ es t (v, held, r, part, clean mid (omega arith) (omega arith))
      (these_told (told code pc) after l.values us 0 v left.agree those e)
      (ap (λ (x : Option Ty). picked s.adts pc after t mid from (out_of s.adts x k from mid))
      (held ∙ ap (λ (x : Ty). Some x) (sym whole)))
      (λ z. let g = gave code pc mid t (Pick t k mid from) z (λ r. refl) in
      record {
        long = put_long out mid now ∙ long_out ∙ left.long;
        same = λ r b. put_other out mid r now
            (λ e. absurd (elim b [ inl y ↦ omega (arith, y, e, p) | inr y ↦ omega (arith, y, e) ]))
            ∙ put_other after from r (left_by m (slot after from))
            (λ e. absurd (let x = at0.0 in elim b [ inl y ↦ omega (arith, y, e, x) | inr y ↦ omega (arith, y, e, x) ]))
            ∙ left.same r (elim b [ inl y ↦ inl y | inr y ↦ inr (omega arith) ]);
        lets = pick_lets s.adts (told code (suc pc)) u v t k after lo mid from l.drops g.there inside at0.0 held at0.1
            (spare_outside lo mid mid l.drops (inr (omega arith)) w) h
            (lets_up s.adts (told code pc) (told code (suc pc)) after lo mid t l.drops g inside w left.lets);
        is = (t, ap type_held there, itself t);
        agrees = (t, ap type_held there, g.there);
      }))
    where
      first : (us : List Ty) (ss : List ℕ) (slots : Slots) → AreThese slots ss us → slice_get us 0 ≡ Some v → 0 < length ss
      first [] [] slots a e = absurd cc
      first [] (s ∷ ss) slots a e = absurd a
      first (u ∷ us) [] slots a e = absurd a
      first (u ∷ us) (s ∷ ss) slots a e = omega arith
