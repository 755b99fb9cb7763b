-- Which types stand where others are asked for, and of which type the value of a tree is.
use Rattle.std.proofs.Common.{◌≡◌, ℕ, zero, suc, ◌<◌, ◌≤◌, List, [], ◌∷◌, length, Some, None, refl, sym, ap, subst}
use Rattle.std.proofs.Common.{◌∙◌, arith, inl, inr, ⊎_elim, take, drop}
use Rattle.std.specs.Prelude.{slice_get}
use Rattle.limbo_types.specs.Types as ty
use Rattle.limbo_types.specs.Types.{Ty}
use Rattle.limbo_types.specs.View.{tys_of}
use Rattle.limbo_layout.specs.Adts.{Def, listed}
use Rattle.limbo_layout.specs.Layout.{Room, number, reference, in_order, is_alone, of_tuple, AllLaid, none_laid, more_laid}
use Rattle.limbo_typed.specs.Fitting.{HasPart, Stands, AllStand}
use Rattle.limbo_meaning.specs.Trees as tree
use Rattle.limbo_meaning.specs.Trees.{Work, Operate, Term, Evaluated, Awaiting, Missing, Node, Lazy, Deciding, Update, Change, Put, Linking}
use Rattle.limbo_meaning.specs.Trees.{Fill, Filling, Turning, Repeating, Terms, NoTerms, MoreTerms, Items, NoItems, MoreItems}
use Rattle.limbo_meaning.specs.Evaluation.{operands_for}
use Rattle.limbo_kept.specs.Operating.{HasRoom}
use Rattle.limbo_kept.specs.Trees.{Scope, WorkIs, DeclaresFor, TermIs, TermsAre}
use Rattle.limbo_kept.specs.Processes.{AllHaveRooms}
use Rattle.limbo_kept.proofs.Fitted.{room_of_part}
use Rattle.core_code.specs.Code.{Instr}
use Rattle.core_code.specs.Terms.{count_of, slot_at, type_of, type_at, types_in}
use Rattle.core_follows.specs.Handled.{HasLayout, Suits, Declares, Handled, AllHandled, count}
use Rattle.core_follows.proofs.Valued.{AllValued}
use Rattle.core_typing.specs.Held.{Slots, slot, type_held}
use Rattle.core_typing.specs.Needs.{MayBeNil, StandsAs, AllStandAs, IsA, AreThese}
use Rattle.core_typing.specs.Trees.{HasValue, Formed, AllFormed}
use Rattle.core_typing.specs.Functions.{AnswersAreLaid}

-- ---- types

from_adt : (n : ℕ) (v : Ty) → Stands (ty.RefAdt n) v → v ≡ ty.RefAdt n
from_adt n v (inl e) = sym e
from_adt n v (inr e) = absurd e

pub stands_on : (t u v : Ty) → Stands t u → Stands u v → Stands t v
stands_on t u v (inl e) k = subst (λ (x : Ty). Stands x v) (sym e) k
stands_on (ty.RefPick n j) u v (inr e) k = inr (from_adt n v (subst (λ (x : Ty). Stands x v) e k))
stands_on _ u v (inr e) k = absurd e

nil_on : (t u : Ty) → MayBeNil t → Stands t u → MayBeNil u
nil_on t u m (inl e) = subst MayBeNil e m
nil_on (ty.RefPick n j) u m (inr e) = subst MayBeNil (sym e) tt
nil_on _ u m (inr e) = absurd e

pub as_on : (w t u : Ty) → StandsAs w t → Stands t u → StandsAs w u
as_on w t u (inl a) k = inl (stands_on w t u a k)
as_on w t u (inr a) k = inr (a.0, nil_on t u a.1 k)

pub itself : (t : Ty) → StandsAs t t
itself t = inl (inl refl)

-- Types whose values have parts.
abbrev pub Solid : Ty → Type 0
Solid (ty.Tuple ts) = Unit {0}
Solid (ty.Adt n) = Unit {0}
Solid t = ⊥

pub solid_part : (defs : List Def) (v : Ty) (n : ℕ) (t : Ty) → HasPart defs v n t → Solid v
solid_part defs (ty.Tuple ts) n t h = tt
solid_part defs (ty.Adt k) n t h = tt
solid_part defs _ n t h = absurd h

pub solid_laid : (defs : List Def) (v : Ty) → HasLayout defs v → Solid v
solid_laid defs (ty.Tuple ts) h = tt
solid_laid defs (ty.Adt k) h = tt
solid_laid defs _ h = absurd h

not_nil : (v : Ty) → Solid v → MayBeNil v → ⊥
not_nil (ty.Tuple ts) s m = m
not_nil (ty.Adt n) s m = m
not_nil _ s m = s

-- Only itself stands for such a type.
pub exactly : (w v : Ty) → Solid v → StandsAs w v → w ≡ v
exactly w v s (inl (inl e)) = e
exactly (ty.RefPick n k) v s (inl (inr e)) = absurd (subst Solid e s)
exactly _ v s (inl (inr e)) = absurd e
exactly w v s (inr e) = absurd (not_nil v s e.1)

pub room_as : (defs : List Def) (w v : Ty) → HasRoom defs v → StandsAs w v → HasRoom defs w
room_as defs w v r (inl (inl e)) = subst (HasRoom defs) (sym e) r
room_as defs (ty.RefPick n k) v r (inl (inr e)) = (reference, is_alone (ty.RefPick n k) reference refl)
room_as defs _ v r (inl (inr e)) = absurd e
room_as defs w v r (inr e) = subst (HasRoom defs) (sym e.0) (reference, is_alone ty.Nil reference refl)

nil_counts : (defs : List Def) (t : Ty) → MayBeNil t → count_of defs ty.Nil ≡ count_of defs t
nil_counts defs (ty.ListOf t) m = refl
nil_counts defs (ty.ChanOf t) m = refl
nil_counts defs (ty.RefAdt n) m = refl
nil_counts defs (ty.RefPick n k) m = refl
nil_counts defs (ty.Module n) m = refl
nil_counts defs _ m = absurd m

-- Values that stand for one another have as many references.
pub count_as : (defs : List Def) (w t : Ty) → StandsAs w t → count_of defs w ≡ count_of defs t
count_as defs w t (inl (inl e)) = ap (count_of defs) e
count_as defs (ty.RefPick n k) t (inl (inr e)) = ap (count_of defs) (sym e)
count_as defs _ t (inl (inr e)) = absurd e
count_as defs w t (inr e) = ap (count_of defs) e.0 ∙ nil_counts defs t e.1

-- ---- slots

pub is_on : (slots : Slots) (s : ℕ) (t u : Ty) → IsA slots s t → Stands t u → IsA slots s u
is_on slots s t u a k = (a.0, a.1, as_on a.0 t u a.2 k)

pub is_same : (slots slots' : Slots) (s : ℕ) (t : Ty) → slot slots' s ≡ slot slots s → IsA slots s t → IsA slots' s t
is_same slots slots' s t e a = (a.0, ap type_held e ∙ a.1, a.2)

-- the same where drops let go of references alone
pub is_kept : (slots slots' : Slots) (s : ℕ) (t : Ty) → type_held (slot slots' s) ≡ type_held (slot slots s) → IsA slots s t
    → IsA slots' s t
is_kept slots slots' s t e a = (a.0, e ∙ a.1, a.2)

pub these_on : (slots : Slots) (ss : List ℕ) (ts us : List Ty) → AreThese slots ss ts → AllStand ts us → AreThese slots ss us
these_on slots [] [] [] a k = tt
these_on slots [] [] (u ∷ us) a k = absurd k
these_on slots [] (t ∷ ts) us a k = absurd a
these_on slots (s ∷ ss) [] us a k = absurd a
these_on slots (s ∷ ss) (t ∷ ts) [] a k = absurd k
these_on slots (s ∷ ss) (t ∷ ts) (u ∷ us) a k = (is_on slots s t u a.0 k.0, these_on slots ss ts us a.1 k.1)

pub these_same : (slots slots' : Slots) (lo hi : ℕ) (ds : List Instr) (ss : List ℕ) (ts : List Ty) → AllValued lo hi ds ss
    → ((s : ℕ) → lo ≤ s → s < hi → slot slots' s ≡ slot slots s) → AreThese slots ss ts → AreThese slots' ss ts
these_same slots slots' lo hi ds [] [] v same a = tt
these_same slots slots' lo hi ds [] (t ∷ ts) v same a = absurd a
these_same slots slots' lo hi ds (s ∷ ss) [] v same a = absurd a
these_same slots slots' lo hi ds (s ∷ ss) (t ∷ ts) v same a = (
  is_same slots slots' s t (same s v.0.0.0 v.0.0.1) a.0,
  these_same slots slots' lo hi ds ss ts v.1 same a.1,
)

pub these_at : (slots : Slots) (ss : List ℕ) (ts : List Ty) (k : ℕ) (t : Ty) → AreThese slots ss ts → slice_get ts k ≡ Some t
    → IsA slots (slot_at k ss) t
these_at slots [] [] k t a e = absurd cc
these_at slots [] (u ∷ ts) k t a e = absurd a
these_at slots (s ∷ ss) [] k t a e = absurd a
these_at slots (s ∷ ss) (u ∷ ts) zero t a e = let f : u ≡ t = cc in subst (IsA slots s) f a.0
these_at slots (s ∷ ss) (u ∷ ts) (suc k) t a e = these_at slots ss ts k t a.1 e

pub these_take : (slots : Slots) (k : ℕ) (ss : List ℕ) (ts : List Ty) → AreThese slots ss ts → AreThese slots (take k ss) (take k ts)
these_take slots zero ss ts a = tt
these_take slots (suc k) [] [] a = tt
these_take slots (suc k) [] (t ∷ ts) a = absurd a
these_take slots (suc k) (s ∷ ss) [] a = absurd a
these_take slots (suc k) (s ∷ ss) (t ∷ ts) a = (a.0, these_take slots k ss ts a.1)

pub these_drop : (slots : Slots) (k : ℕ) (ss : List ℕ) (ts : List Ty) → AreThese slots ss ts → AreThese slots (drop k ss) (drop k ts)
these_drop slots zero ss ts a = a
these_drop slots (suc k) [] [] a = tt
these_drop slots (suc k) [] (t ∷ ts) a = absurd a
these_drop slots (suc k) (s ∷ ss) [] a = absurd a
these_drop slots (suc k) (s ∷ ss) (t ∷ ts) a = these_drop slots k ss ts a.1

-- ---- trees

module _ (s : Scope) where
  pub type_at_in : (ts : Terms) (k : ℕ) → k < count ts → slice_get (types_in s.adts ts) k ≡ Some (type_at s.adts k ts)
  type_at_in NoTerms k l = absurd (omega arith)
  type_at_in (MoreTerms t ts) zero l = refl
  type_at_in (MoreTerms t ts) (suc k) l = type_at_in ts k (omega arith)

  pub type_at_stands : (ts : Terms) (us : List Ty) (k : ℕ) (v : Ty) → AllStand (types_in s.adts ts) us → slice_get us k ≡ Some v
      → Stands (type_at s.adts k ts) v
  type_at_stands NoTerms [] k v a e = absurd cc
  type_at_stands NoTerms (u ∷ us) k v a e = absurd a
  type_at_stands (MoreTerms t ts) [] k v a e = absurd a
  type_at_stands (MoreTerms t ts) (u ∷ us) zero v a e = let f : u ≡ v = cc in subst (Stands (type_of s.adts t)) f a.0
  type_at_stands (MoreTerms t ts) (u ∷ us) (suc k) v a e = type_at_stands ts us k v a.1 e

  node_stands : (t : Ty) (o : Work) (ts : Terms) (us : List Ty) (u : Ty) → WorkIs s t o us u → AllStand (types_in s.adts ts) us
      → Suits s.adts t o ts → Stands (type_of s.adts (Node t o ts)) u
  node_stands t (tree.Literal c) ts us u w a h = w.3
  node_stands t tree.Nil ts us u w a h = w.2
  node_stands t (Operate o) ts us u w a h = w.3
  node_stands t (tree.Read r) ts us u w a h = w.2
  node_stands t (tree.Assign aims) ts us u w a h =
      stands_on (type_at s.adts (operands_for aims) ts) w.0 u (type_at_stands ts us (operands_for aims) w.0 a w.1) w.4
  node_stands t (tree.TakePart n) ts us u w a h = w.4
  node_stands t tree.Copy ts us u w a h =
      stands_on (type_at s.adts 2 ts) (ty.ArrayOf w.0) u (type_at_stands ts us 2 (ty.ArrayOf w.0) a w.2) w.4
  node_stands t tree.Link ts us u w a h = w.4
  node_stands t tree.NewChannel ts us u w a h = w.2
  node_stands t (tree.Call f) ts us u w a h = w.4
  node_stands t (tree.Print ps) ts us u w a h = subst (λ (x : Ty). Stands x u) (sym h) w
  node_stands t (tree.Sprint ps) ts us u w a h = w.2

  declares_none : (t : Ty) (o : Work) (ts : Terms) → HasValue (Node t o ts) → Declares o ts → ⊥
  declares_none t (tree.Assign (x ∷ aims)) (MoreTerms (Evaluated v) NoTerms) h d = h
  declares_none t _ _ h d = d

  declared_none : (t : Ty) (o : Work) (ts : Terms) (u : Ty) → HasValue (Node t o ts) → DeclaresFor s o ts u → ⊥
  declared_none t (tree.Assign aims) (MoreTerms (Evaluated v) NoTerms) u h d = h
  declared_none t _ _ u h d = d

  mutual
    -- The value of a tree is of a type that stands where the tree's is asked for.
    pub term_stands : (t : Term) (u : Ty) → TermIs s [] None t u → Handled s.adts t → HasValue t → Formed s t
        → Stands (type_of s.adts t) u
    term_stands (Node t o ts) u is h v f = ⊎_elim
        (λ (x : Suits s.adts t o ts × AllHandled s.adts ts). ⊎_elim
        (λ (w : WorkIs s t o is.0 u). node_stands t o ts is.0 u w (terms_stand ts is.0 is.1 x.1 f.2) x.0)
        (λ (w : DeclaresFor s o ts u). absurd (declared_none t o ts u v w)) is.2)
        (λ (x : Declares o ts). absurd (declares_none t o ts v x)) h
    term_stands (Lazy c l r) u is h v f = is.2
    term_stands (Update o g t w ts us) u is h v f = is.9
    term_stands (Fill t l items rest) u is h v f = is.4
    term_stands _ u is h v f = absurd h

    pub terms_stand : (ts : Terms) (us : List Ty) → TermsAre s [] None ts us → AllHandled s.adts ts → AllFormed s ts
        → AllStand (types_in s.adts ts) us
    terms_stand NoTerms [] is h f = tt
    terms_stand NoTerms (u ∷ us) is h f = absurd is
    terms_stand (MoreTerms t ts) [] is h f = absurd is
    terms_stand (MoreTerms t ts) (u ∷ us) is h f = (term_stands t u is.0 h.0 f.0 f.1, terms_stand ts us is.1 h.1 f.2)

-- ---- what stands in a row

pub all_stand_itself : (ts : List Ty) → AllStand ts ts
all_stand_itself [] = tt
all_stand_itself (t ∷ ts) = (inl refl, all_stand_itself ts)

pub all_stand_on : (ts us vs : List Ty) → AllStand ts us → AllStand us vs → AllStand ts vs
all_stand_on [] [] [] a b = tt
all_stand_on [] [] (v ∷ vs) a b = absurd b
all_stand_on [] (u ∷ us) vs a b = absurd a
all_stand_on (t ∷ ts) [] vs a b = absurd a
all_stand_on (t ∷ ts) (u ∷ us) [] a b = absurd b
all_stand_on (t ∷ ts) (u ∷ us) (v ∷ vs) a b = (stands_on t u v a.0 b.0, all_stand_on ts us vs a.1 b.1)

pub all_as_on : (ws ts us : List Ty) → AllStandAs ws ts → AllStand ts us → AllStandAs ws us
all_as_on [] [] [] a b = tt
all_as_on [] [] (u ∷ us) a b = absurd b
all_as_on [] (t ∷ ts) us a b = absurd a
all_as_on (w ∷ ws) [] us a b = absurd a
all_as_on (w ∷ ws) (t ∷ ts) [] a b = absurd b
all_as_on (w ∷ ws) (t ∷ ts) (u ∷ us) a b = (as_on w t u a.0 b.0, all_as_on ws ts us a.1 b.1)

pub all_stand_long : (ts us : List Ty) → AllStand ts us → length us ≡ length ts
all_stand_long [] [] a = refl
all_stand_long [] (u ∷ us) a = absurd a
all_stand_long (t ∷ ts) [] a = absurd a
all_stand_long (t ∷ ts) (u ∷ us) a = ap suc (all_stand_long ts us a.1)

-- ---- the type of a tree's value has a layout

module _ (s : Scope) (answers : AnswersAreLaid s) where
  list_room : (t : Ty) → HasRoom s.adts (ty.ListOf t)
  list_room t = (reference, is_alone (ty.ListOf t) reference refl)

  array_room : (t : Ty) → HasRoom s.adts (ty.ArrayOf t)
  array_room t = (reference, is_alone (ty.ArrayOf t) reference refl)

  int_room : HasRoom s.adts ty.Int
  int_room = (number 4, is_alone ty.Int (number 4) refl)

  room_at : (ts : Terms) (k : ℕ) → k < count ts → AllHaveRooms s.adts (types_in s.adts ts) → HasRoom s.adts (type_at s.adts k ts)
  room_at NoTerms k l r = absurd (omega arith)
  room_at (MoreTerms t ts) zero l r = r.0
  room_at (MoreTerms t ts) (suc k) l r = room_at ts k (omega arith) r.1

  node_room : (t : Ty) (o : Work) (ts : Terms) (us : List Ty) (u : Ty) → WorkIs s t o us u → Suits s.adts t o ts
      → AllHaveRooms s.adts (types_in s.adts ts) → HasRoom s.adts (type_of s.adts (Node t o ts))
  node_room t (tree.Literal c) ts us u w h r = w.2
  node_room t tree.Nil ts us u w h r = w.1
  node_room t (Operate o) ts us u w h r = w.1
  node_room t (tree.Read x) ts us u w h r = w.1
  node_room t (tree.Assign aims) ts us u w h r = room_at ts (operands_for aims) h r
  node_room t (tree.TakePart n) ts us u w h r = room_of_part s.adts [] w.0 n t w.2 w.3
  node_room t tree.Copy ts us u w h r = room_at ts 2 h r
  node_room t tree.Link ts us u w h r = subst (HasRoom s.adts) (sym w.1) (list_room w.0)
  node_room t tree.NewChannel ts us u w h r =
      subst (HasRoom s.adts) (sym w.1) (reference, is_alone (ty.ChanOf w.0) reference refl)
  node_room t (tree.Call f) ts us u w h r = subst (HasRoom s.adts) w.3 (answers f w.0 w.1)
  node_room t (tree.Print ps) ts us u w h r = subst (HasRoom s.adts) (sym h) int_room
  node_room t (tree.Sprint ps) ts us u w h r = subst (HasRoom s.adts) (sym w.1) (reference, is_alone ty.Chars reference refl)

  mutual
    term_room : (t : Term) (u : Ty) → TermIs s [] None t u → Handled s.adts t → HasValue t → Formed s t → HasRoom s.adts (type_of s.adts t)
    term_room (Node t o ts) u is h v f = ⊎_elim
        (λ (x : Suits s.adts t o ts × AllHandled s.adts ts). ⊎_elim
        (λ (w : WorkIs s t o is.0 u). node_room t o ts is.0 u w x.0 (terms_room ts is.0 is.1 x.1 f.2))
        (λ (w : DeclaresFor s o ts u). absurd (declared_none s t o ts u v w)) is.2)
        (λ (x : Declares o ts). absurd (declares_none s t o ts v x)) h
    term_room (Lazy c l r) u is h v f = int_room
    term_room (Update o g t w ts us) u is h v f = is.7
    term_room (Fill t l items rest) u is h v f = array_room t
    term_room _ u is h v f = absurd h

    pub terms_room : (ts : Terms) (us : List Ty) → TermsAre s [] None ts us → AllHandled s.adts ts → AllFormed s ts
        → AllHaveRooms s.adts (types_in s.adts ts)
    terms_room NoTerms us is h f = tt
    terms_room (MoreTerms t ts) [] is h f = absurd is
    terms_room (MoreTerms t ts) (u ∷ us) is h f = (term_room t u is.0 h.0 f.0 f.1, terms_room ts us is.1 h.1 f.2)

-- ---- the layout of what is put together of operands

pub listed_types : (us : List Ty) → listed (tys_of us) ≡ us
listed_types [] = refl
listed_types (u ∷ us) = ap (λ (ts : List Ty). u ∷ ts) (listed_types us)

all_laid : (defs : List Def) (us : List Ty) → AllHaveRooms defs us → (rs : List Room) × AllLaid defs (listed (tys_of us)) rs
all_laid defs [] r = ([], none_laid)
all_laid defs (u ∷ us) r =
    let a = all_laid defs us r.1 in
    (r.0.0 ∷ a.0, more_laid u (listed (tys_of us)) r.0.0 a.0 r.0.1 a.1)

pub tuple_room : (defs : List Def) (us : List Ty) → AllHaveRooms defs us → HasRoom defs (ty.Tuple (tys_of us))
tuple_room defs us r = let a = all_laid defs us r in (in_order a.0, of_tuple (tys_of us) a.0 a.1)
