-- The references of values are counted by types, and what a tree gets is told by the tree.
use Rattle.std.proofs.Common.{◌≡◌, ℕ, zero, suc, pos, Bool, true, false, ◌||◌, List, [], ◌∷◌, ◌++◌, length, Option, None, Some, Ok, Err}
use Rattle.std.proofs.Common.{refl, ap, subst, ◌∙◌, arith}
use Rattle.std.specs.Prelude.{if◌then◌else◌, slice_get}
use Rattle.limbo_layout.specs.Adts.{Def, parts}
use Rattle.limbo_types.specs.Types as ty
use Rattle.limbo_types.specs.Types.{Ty, Tys, NoTys, MoreTys}
use Rattle.limbo_types.specs.View.{tys_of}
use Rattle.limbo_typed.specs.declared.operation.Operation.{Operation}
use Rattle.limbo_typed.specs.declared.operation.Given.{Given}
use Rattle.limbo_meaning.specs.Values.{Part, Value, Values, nothing, first_in, rest_in, parts_of, part_of, number_of, formed, all_formed}
use Rattle.limbo_meaning.specs.Values.{by_def, adt_formed, fitted}
use Rattle.limbo_meaning.specs.Values.{references, all_references, zero_of}
use Rattle.limbo_meaning.specs.Memory.{Memory}
use Rattle.limbo_meaning.specs.Exceptions.{Raising}
use Rattle.limbo_meaning.specs.Places.{Place, operand, read, written, not_longer}
use Rattle.limbo_meaning.specs.Operations.{result_of, copied, elements_of, decides}
use Rattle.limbo_meaning.specs.Formats.{formatted}
use Rattle.limbo_meaning.specs.Trees.{Pending, Work, Literal, Nil, Operate, Read, Assign, TakePart, Copy, Link, NewChannel, Call, Print}
use Rattle.limbo_meaning.specs.Trees.{Sprint}
use Rattle.limbo_meaning.specs.Trees.{Term, Evaluated, Awaiting, Missing, Node, Lazy, Deciding, Update, Change, Put, Linking}
use Rattle.limbo_meaning.specs.Trees.{Fill, Filling, Turning, Repeating, Terms, NoTerms, MoreTerms, Items, NoItems, MoreItems}
use Rattle.limbo_meaning.specs.Evaluation.{Progress, Finished, Stepped, Calls, Prints, Raises, Blocked, after, unless_raised, next}
use Rattle.limbo_meaning.specs.Evaluation.{next_all, fill, fill_all, fill_items}
use Rattle.limbo_meaning.specs.Evaluation.{passes_on, got_by, is_some, note, refers, work_refers, may_hold, some_may_hold, items_may_hold}
use Rattle.limbo_meaning.specs.Evaluation.{pending_for, assigned, put_rest, fill_rest, fill_on}
use Rattle.limbo_meaning.specs.Evaluation.{element_at, writes, stores, performed, decided, turns, reads_first, changes}
use Rattle.limbo_meaning.specs.Kinds.{KindsAreStatic}

-- ---- as many references

same_append : {A : Type 0} (xs xs' ys ys' : List A) → length xs ≡ length xs' → length ys ≡ length ys'
    → length (xs ++ ys) ≡ length (xs' ++ ys')
same_append [] [] ys ys' e f = f
same_append [] (x ∷ xs') ys ys' e f = absurd (omega (arith, e))
same_append (x ∷ xs) [] ys ys' e f = absurd (omega (arith, e))
same_append (x ∷ xs) (x' ∷ xs') ys ys' e f = ap suc (same_append xs xs' ys ys' (omega (arith, e)) f)

module _ (adt : ℕ → Value → Value) (adts : (k : ℕ) (v u : Value) → length (references (adt k v)) ≡ length (references (adt k u))) where
  mutual
    alike : (t : Ty) (v u : Value) → length (references (formed adt t v)) ≡ length (references (formed adt t u))
    alike ty.Byte v u = refl
    alike ty.Int v u = refl
    alike ty.Big v u = refl
    alike ty.Chars v u = refl
    alike ty.Nothing v u = refl
    alike ty.Nil v u = refl
    alike (ty.ArrayOf t) v u = refl
    alike (ty.ListOf t) v u = refl
    alike (ty.ChanOf t) v u = refl
    alike (ty.Tuple ts) v u = all_alike ts (parts_of v) (parts_of u)
    alike (ty.Adt k) v u = adts k v u
    alike (ty.RefAdt k) v u = refl
    alike (ty.RefPick k j) v u = refl
    alike (ty.Module k) v u = refl

    all_alike : (ts : Tys) (vs us : Values) → length (all_references (all_formed adt ts vs)) ≡ length
        (all_references (all_formed adt ts us))
    all_alike NoTys vs us = refl
    all_alike (MoreTys t ts) vs us =
        same_append (references (formed adt t (first_in vs))) (references (formed adt t (first_in us)))
        (all_references (all_formed adt ts (rest_in vs))) (all_references (all_formed adt ts (rest_in us)))
        (alike t (first_in vs) (first_in us)) (all_alike ts (rest_in vs) (rest_in us))

  by_def_alike : (o : Option Def) (v u : Value) → length (references (by_def (formed adt) (all_formed adt) o v)) ≡ length
      (references (by_def (formed adt) (all_formed adt) o u))
  by_def_alike None v u = refl
  by_def_alike (Some d) v u = all_alike (tys_of (parts d)) (parts_of v) (parts_of u)

adt_alike : (defs : List Def) (depth k : ℕ) (v u : Value) → length (references (adt_formed defs depth k v)) ≡ length
    (references (adt_formed defs depth k u))
adt_alike defs zero k v u = refl
adt_alike defs (suc d) k v u = by_def_alike (adt_formed defs d) (adt_alike defs d) (slice_get defs k) v u

values_alike : (defs : List Def) (t : Ty) (v u : Value) → length (references (fitted defs t v)) ≡ length (references (fitted defs t u))
values_alike defs t v u = alike (adt_formed defs (length defs)) (adt_alike defs (length defs)) t v u

none_there : (rs : List (Option ℕ)) → is_some rs ≡ false → length rs ≡ 0
none_there [] e = refl
none_there (r ∷ rs) e = absurd cc

no_length : (rs : List (Option ℕ)) → length rs ≡ 0 → rs ≡ []
no_length [] e = refl
no_length (r ∷ rs) e = absurd (omega (arith, e))

-- a value of a type without references has none
no_references : (defs : List Def) (t : Ty) (v : Value) → refers defs t ≡ false → references (fitted defs t v) ≡ []
no_references defs t v e = no_length _ (values_alike defs t v nothing ∙ none_there (references (zero_of defs t)) e)

-- ---- what a tree gets

or_false : (a b : Bool) → (a || b) ≡ false → (a ≡ false) × (b ≡ false)
or_false false b e = (refl, e)
or_false true b e = absurd cc

both_false : (a b : Bool) → a ≡ false → b ≡ false → (a || b) ≡ false
both_false false b e f = f
both_false true b e f = absurd cc

module _ (defs : List Def) (m : Memory) where
  abbrev Plain : {R T : Type 0} → (T → Bool) → Progress R T → Type 0
  Plain mh (Stepped m' got u) = (got ≡ []) × (mh u ≡ false)
  Plain mh (Calls a f args u) = (refers defs a ≡ false) × (mh u ≡ false)
  Plain mh (Prints text u) = mh u ≡ false
  Plain mh _ = Unit {0}

  plain_after : {R S T U : Type 0} (mt : T → Bool) (mu : U → Bool) (pr : Progress R T) (go : R → Progress S U) (within : T → U)
      → Plain mt pr → ((r : R) → Plain mu (go r)) → ((u : T) → mt u ≡ false → mu (within u) ≡ false) → Plain mu (after pr go within)
  plain_after mt mu (Finished r) go within h k into = k r
  plain_after mt mu (Stepped m' got u) go within h k into = (h.0, into u h.1)
  plain_after mt mu (Calls a f args u) go within h k into = (h.0, into u h.1)
  plain_after mt mu (Prints text u) go within h k into = into u h
  plain_after mt mu (Raises text) go within h k into = tt
  plain_after mt mu Blocked go within h k into = tt

  abbrev PlainTerm : Progress Value Term → Type 0
  PlainTerm pr = Plain (may_hold defs) pr

  plain_unless : {A : Type 0} (r : Raising A) (go : A → Progress Value Term) → ((x : A) → PlainTerm (go x)) → PlainTerm (unless_raised r go)
  plain_unless (Ok x) go k = k x
  plain_unless (Err text) go k = tt

  plain_rest : (ps : List Pending) (v : Value) → may_hold defs (put_rest ps v) ≡ false
  plain_rest [] v = refl
  plain_rest (p ∷ ps) v = refl

  plain_writes : (ps : List Pending) (v : Value) → PlainTerm (writes defs m ps v)
  plain_writes [] v = (refl, refl)
  plain_writes (p ∷ ps) v = plain_unless (written defs m p.place p.value) _ (λ m'. (refl, plain_rest ps v))

  plain_got : (o : Operation) (t : Ty) (v : Value) → (if passes_on o then false else refers defs t) ≡ false
      → got_by o (fitted defs t v) ≡ []
  plain_got o t v e = go (passes_on o) e
    where
      go : (b : Bool) → (if b then false else refers defs t) ≡ false → (if b then [] else references (fitted defs t v)) ≡ []
      go true e = refl
      go false e = no_references defs t v e

  plain_gotten : (o : Operation) (t : Ty) (v : Value) → refers defs t ≡ false → got_by o (fitted defs t v) ≡ []
  plain_gotten o t v e = plain_got o t v (go (passes_on o))
    where
      go : (b : Bool) → (if b then false else refers defs t) ≡ false
      go true = refl
      go false = e

  plain_performed : (t : Ty) (o : Work) (vs : List Value) → work_refers defs t o ≡ false → PlainTerm (performed defs m t o vs)
  plain_performed t (Literal c) vs e = (refl, refl)
  plain_performed t Nil vs e = (refl, refl)
  plain_performed t (Operate o) vs e = plain_unless (result_of defs m t o vs) _ (λ r. (plain_got o t r.value e, refl))
  plain_performed t (Read w) vs e =
      plain_unless (read m (record { type = t; way = w; operands = vs })) _ (λ v. (no_references defs t v e, refl))
  plain_performed t (Assign aims) vs e = plain_writes (pending_for aims vs (assigned aims vs)) _
  plain_performed t (TakePart n) vs e = (refl, refl)
  plain_performed t Copy vs e =
      plain_unless (copied m (part_of (operand 0 vs)) (number_of (operand 1 vs)) (elements_of m (part_of (operand 2 vs)))) _
      (λ m'. (refl, refl))
  plain_performed t Link vs e = absurd cc
  plain_performed t NewChannel vs e = absurd cc
  plain_performed t (Call f) vs e = (e, refl)
  plain_performed t (Print ps) vs e = refl
  plain_performed t (Sprint ps) vs e = plain_unless (not_longer (formatted ps vs)) _ (λ text. (refl, refl))

  noted : (b : Bool) → b ≡ false → note b ≡ []
  noted true e = absurd cc
  noted false e = refl

  plain_decided : (b : Bool) (v : Value) (r : Term) → may_hold defs r ≡ false → PlainTerm (decided defs m b v r)
  plain_decided true v r e = (noted (may_hold defs r) e, refl)
  plain_decided false v r e = (noted (may_hold defs r) e, e)

  plain_turns : (t : Ty) (p : Part) (ns : List ℕ) (x : Term) → may_hold defs x ≡ false → PlainTerm (turns defs m t p ns x)
  plain_turns t p [] x e = (noted (may_hold defs x) e, refl)
  plain_turns t p (n ∷ ns) x e = (noted (may_hold defs x) e, both_false (may_hold defs x) (may_hold defs x) e e)

  plain_stores : (p : Place) (v : Value) (t : Term) → may_hold defs t ≡ false → PlainTerm (stores defs m p v t)
  plain_stores p v t e = plain_unless (written defs m p v) _ (λ m'. (refl, e))

  plain_fill_rest : (t : Ty) (p : Part) (ns : List ℕ) (rest : Terms) → some_may_hold defs rest ≡ false
      → may_hold defs (fill_rest t p ns rest) ≡ false
  plain_fill_rest t p ns NoTerms e = refl
  plain_fill_rest t p ns (MoreTerms x xs) e = (or_false (may_hold defs x) (some_may_hold defs xs) e).0

  plain_fill_on : (t : Ty) (p : Part) (is : Items) (ns : List ℕ) (rest : Terms) → items_may_hold defs is ≡ false
      → some_may_hold defs rest ≡ false
      → may_hold defs (fill_on t p is ns rest) ≡ false
  plain_fill_on t p NoItems ns rest e f = plain_fill_rest t p ns rest f
  plain_fill_on t p (MoreItems i x is) ns rest e f = both_false (items_may_hold defs (MoreItems i x is)) (some_may_hold defs rest) e f

  plain_reads : (o : Operation) (g : Given) (p : Place) (us : Terms) → refers defs p.type ≡ false → some_may_hold defs us ≡ false
      → PlainTerm (reads_first defs m o g p us)
  plain_reads o g p us e f =
      plain_unless (read m p) _ (λ v. (no_references defs p.type v e, both_false (refers defs p.type) (some_may_hold defs us) e f))

  plain_changes : (o : Operation) (g : Given) (p : Place) (vs : List Value) → refers defs p.type ≡ false
      → PlainTerm (changes defs m o g p vs)
  plain_changes o g p vs e = plain_unless (result_of defs m p.type o vs) _ (λ r. (plain_gotten o p.type r.value e, refl))

  mutual
    plain : (t : Term) → may_hold defs t ≡ false → PlainTerm (next defs m t)
    plain (Evaluated v) e = tt
    plain Awaiting e = tt
    plain Missing e = tt
    plain (Node t o ts) e =
        let b = or_false (work_refers defs t o) (some_may_hold defs ts) e in
        plain_after (some_may_hold defs) (may_hold defs) (next_all defs m ts) _ _ (all_plain ts b.1) (λ vs. plain_performed t o vs b.0)
        (λ u f. both_false (work_refers defs t o) (some_may_hold defs u) b.0 f)
    plain (Lazy c l r) e =
        let b = or_false (may_hold defs l) (may_hold defs r) e in
        plain_after (may_hold defs) (may_hold defs) (next defs m l) _ _ (plain l b.0) (λ v. plain_decided (decides c v) v r b.1)
        (λ u f. both_false (may_hold defs u) (may_hold defs r) f b.1)
    plain (Deciding r) e = plain_after (may_hold defs) (may_hold defs) (next defs m r) _ _ (plain r e) (λ v. (refl, refl)) (λ u f. f)
    plain (Update o g t w ts us) e =
        let b = or_false (refers defs t) (some_may_hold defs ts || some_may_hold defs us) e in
        let c = or_false (some_may_hold defs ts) (some_may_hold defs us) b.1 in
        plain_after (some_may_hold defs) (may_hold defs) (next_all defs m ts) _ _ (all_plain ts c.0)
        (λ vs. plain_reads o g (record { type = t; way = w; operands = vs }) us b.0 c.1)
        (λ u f. both_false (refers defs t) (some_may_hold defs u || some_may_hold defs us) b.0
        (both_false (some_may_hold defs u) (some_may_hold defs us) f c.1))
    plain (Change o g p ts) e =
        let b = or_false (refers defs p.type) (some_may_hold defs ts) e in
        plain_after (some_may_hold defs) (may_hold defs) (next_all defs m ts) _ _ (all_plain ts b.1) (λ vs. plain_changes o g p vs b.0)
        (λ u f. both_false (refers defs p.type) (some_may_hold defs u) b.0 f)
    plain (Put ps v) e = plain_writes ps v
    plain (Linking t vs r) e = absurd cc
    plain (Fill t l is rest) e = absurd cc
    plain (Filling t p NoItems ns rest) e = (refl, refl)
    plain (Filling t p (MoreItems i x is) ns rest) e =
        let b = or_false (may_hold defs x || items_may_hold defs is) (some_may_hold defs rest) e in
        let c = or_false (may_hold defs x) (items_may_hold defs is) b.0 in
        plain_after (may_hold defs) (may_hold defs) (next defs m x) _ _ (plain x c.0)
        (λ v. plain_stores (element_at t p i) v (fill_on t p is ns rest) (plain_fill_on t p is ns rest c.1 b.1))
        (λ u f. both_false (may_hold defs u || items_may_hold defs is) (some_may_hold defs rest)
        (both_false (may_hold defs u) (items_may_hold defs is) f c.1) b.1)
    plain (Turning t p ns x) e = plain_turns t p ns x e
    plain (Repeating t p i ns x now) e =
        let b = or_false (may_hold defs x) (may_hold defs now) e in
        plain_after (may_hold defs) (may_hold defs) (next defs m now) _ _ (plain now b.1)
        (λ v. plain_stores (element_at t p (pos i)) v (Turning t p ns x) b.0)
        (λ u f. both_false (may_hold defs x) (may_hold defs u) b.0 f)

    all_plain : (ts : Terms) → some_may_hold defs ts ≡ false → Plain (some_may_hold defs) (next_all defs m ts)
    all_plain NoTerms e = tt
    all_plain (MoreTerms t ts) e =
        let b = or_false (may_hold defs t) (some_may_hold defs ts) e in
        plain_after (may_hold defs) (some_may_hold defs) (next defs m t) _ _ (plain t b.0)
        (λ v. plain_after (some_may_hold defs) (some_may_hold defs) (next_all defs m ts) _ _ (all_plain ts b.1) (λ vs. tt) (λ u f. f))
        (λ u f. both_false (may_hold defs u) (some_may_hold defs ts) f b.1)

-- ---- answers

module _ (defs : List Def) (v : Value) where
  mutual
    answered : (t : Term) → may_hold defs (fill v t) ≡ may_hold defs t
    answered (Evaluated u) = refl
    answered Awaiting = refl
    answered Missing = refl
    answered (Node t o ts) = ap (λ b. work_refers defs t o || b) (all_answered ts)
    answered (Lazy c l r) = ap (λ b. b || may_hold defs r) (answered l)
    answered (Deciding r) = answered r
    answered (Update o g t w ts us) = ap (λ b. refers defs t || (b || some_may_hold defs us)) (all_answered ts)
    answered (Change o g p ts) = ap (λ b. refers defs p.type || b) (all_answered ts)
    answered (Put ps u) = refl
    answered (Linking t vs r) = refl
    answered (Fill t l is rest) = refl
    answered (Filling t p is ns rest) = ap (λ b. b || some_may_hold defs rest) (items_answered is)
    answered (Turning t p ns x) = refl
    answered (Repeating t p i ns x now) = ap (λ b. may_hold defs x || b) (answered now)

    all_answered : (ts : Terms) → some_may_hold defs (fill_all v ts) ≡ some_may_hold defs ts
    all_answered NoTerms = refl
    all_answered (MoreTerms t ts) = λ i. answered t i || all_answered ts i

    items_answered : (is : Items) → items_may_hold defs (fill_items v is) ≡ items_may_hold defs is
    items_answered NoItems = refl
    items_answered (MoreItems i t is) = ap (λ b. b || items_may_hold defs is) (answered t)

pub kinds_are_static : KindsAreStatic
kinds_are_static = record {
  values = values_alike;
  steps = λ defs m m' t u got e f. subst (Plain defs m (may_hold defs)) f (plain defs m t e);
  calls = λ defs m t u a g args e f. subst (Plain defs m (may_hold defs)) f (plain defs m t e);
  prints = λ defs m t u text e f. subst (Plain defs m (may_hold defs)) f (plain defs m t e);
  answers = answered;
}
