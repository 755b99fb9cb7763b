-- Operands are evaluated from left to right, and only writes change what is there.
use Rattle.std.proofs.Common.{◌≡◌, ℕ, true, false, List, [], ◌∷◌, Option, Ok, Err, inl, inr, refl, ap, subst}
use Rattle.limbo_layout.specs.Adts.{Def}
use Rattle.limbo_types.specs.Types.{Ty}
use Rattle.limbo_meaning.specs.Values.{Value}
use Rattle.limbo_meaning.specs.Memory.{Memory}
use Rattle.limbo_meaning.specs.Exceptions.{Raising}
use Rattle.limbo_meaning.specs.Places.{read, not_longer}
use Rattle.limbo_meaning.specs.Operations.{Outcome, result_of, item_of}
use Rattle.limbo_meaning.specs.Formats.{formatted}
use Rattle.limbo_meaning.specs.Trees.{Work, Literal, Nil, Operate, Read, Assign, TakePart, Copy, Link, NewChannel, Call, Print, Sprint}
use Rattle.limbo_meaning.specs.Trees.{Term, Evaluated, Terms, NoTerms, MoreTerms}
use Rattle.limbo_meaning.specs.Evaluation.{Progress, Finished, Stepped, Calls, Prints, Raises, Blocked, after, unless_raised}
use Rattle.limbo_meaning.specs.Evaluation.{performed, links, next, next_all, fill, fill_all}
use Rattle.limbo_meaning.specs.Holding.{is_evaluated}
use Rattle.limbo_meaning.specs.Order.{behind_values, OfFirst, LeftToRight, AddsAtMost, is_write, OnlyWritesChange}
use Rattle.limbo_meaning.proofs.Busy.{finished}
use Rattle.limbo_meaning.proofs.Touching.{Added, same_memory, one_more, TouchedIn, touched_result}

-- ---- from left to right

module _ (defs : List Def) (m : Memory) where
  -- what each kind of progress among operands tells
  abbrev Tells : Terms → Progress (List Value) Terms → Type 0
  Tells ts (Stepped m' got us) = OfFirst defs m ts us (Stepped m' got)
  Tells ts (Calls a f args us) = OfFirst defs m ts us (Calls a f args)
  Tells ts (Prints text us) = OfFirst defs m ts us (Prints text)
  Tells ts _ = Unit {0}

  abbrev value_in : Value → Progress Value Term → Value
  value_in u (Finished w) = w
  value_in u _ = u

  -- the first operand is a value
  is_value : (t : Term) (v : Value) → next defs m t ≡ Finished v → t ≡ Evaluated v
  is_value t v e = go t e (finished defs m t v e)
    where
      go : (t : Term) → next defs m t ≡ Finished v → is_evaluated t ≡ true → t ≡ Evaluated v
      go (Evaluated u) e x = ap (λ pr. Evaluated (value_in u pr)) e
      go t e x = absurd cc

  more_values : (t : Term) (ts us : Terms) (v : Value) (comes_to : Term → Progress Value Term) → t ≡ Evaluated v
      → OfFirst defs m ts us comes_to → OfFirst defs m (MoreTerms t ts) (MoreTerms (Evaluated v) us) comes_to
  more_values t ts us v comes_to e r = record {
    values = v ∷ r.values;
    ready = r.ready;
    becomes = r.becomes;
    rest = r.rest;
    before = λ i. MoreTerms (e i) (r.before i);
    after = ap (λ us. MoreTerms (Evaluated v) us) r.after;
    step = r.step;
  }

  behind : (t : Term) (ts : Terms) (v : Value) → t ≡ Evaluated v → (pr : Progress (List Value) Terms) → Tells ts pr
      → Tells (MoreTerms t ts) (after pr (λ vs. Finished (v ∷ vs)) (MoreTerms (Evaluated v)))
  behind t ts v e (Finished vs) h = tt
  behind t ts v e (Stepped m' got us) h = more_values t ts us v _ e h
  behind t ts v e (Calls a f args us) h = more_values t ts us v _ e h
  behind t ts v e (Prints text us) h = more_values t ts us v _ e h
  behind t ts v e (Raises text) h = tt
  behind t ts v e Blocked h = tt

  at_first : (t : Term) (ts : Terms) (pr : Progress Value Term) → next defs m t ≡ pr → Tells ts (next_all defs m ts)
      → Tells (MoreTerms t ts) (after pr (λ v. after (next_all defs m ts) (λ vs. Finished (v ∷ vs)) (MoreTerms (Evaluated v)))
      (λ t. MoreTerms t ts))
  at_first t ts (Finished v) e h = behind t ts v (is_value t v e) (next_all defs m ts) h
  at_first t ts (Stepped m' got t') e h =
      record { values = []; ready = t; becomes = t'; rest = ts; before = refl; after = refl; step = e }
  at_first t ts (Calls a f args t') e h =
      record { values = []; ready = t; becomes = t'; rest = ts; before = refl; after = refl; step = e }
  at_first t ts (Prints text t') e h =
      record { values = []; ready = t; becomes = t'; rest = ts; before = refl; after = refl; step = e }
  at_first t ts (Raises text) e h = tt
  at_first t ts Blocked e h = tt

  tells : (ts : Terms) → Tells ts (next_all defs m ts)
  tells NoTerms = tt
  tells (MoreTerms t ts) = at_first t ts (next defs m t) refl (tells ts)

filled : (v : Value) (vs : List Value) (t : Term) (ts : Terms)
    → fill_all v (behind_values vs t ts) ≡ behind_values vs (fill v t) (fill_all v ts)
filled v [] t ts = refl
filled v (u ∷ vs) t ts = ap (λ ts. MoreTerms (Evaluated u) ts) (filled v vs t ts)

pub left_to_right : LeftToRight
left_to_right = record {
  steps = λ defs m m' ts us got e. subst (Tells defs m ts) e (tells defs m ts);
  calls = λ defs m ts us a f args e. subst (Tells defs m ts) e (tells defs m ts);
  prints = λ defs m ts us text e. subst (Tells defs m ts) e (tells defs m ts);
  answers = filled;
}

-- ---- what changes

module _ (m : Memory) where
  abbrev Same : Progress Value Term → Type 0
  Same (Stepped m' got u) = m' ≡ m
  Same _ = Unit {0}

  same_read : (r : Raising Value) (got : Value → List (Option ℕ)) (t : Value → Term) → Same (unless_raised r (λ v. Stepped m (got v) (t v)))
  same_read (Ok v) got t = refl
  same_read (Err text) got t = tt

  abbrev AtMost : Progress Value Term → Type 0
  AtMost (Stepped m' got u) = AddsAtMost m m'
  AtMost _ = Unit {0}

  most_of : (m' : Memory) → Added m m' → AddsAtMost m m'
  most_of m' same_memory = inl refl
  most_of m' (one_more v) = inr (v, refl)

  most_outcome : (r : Raising Outcome) → TouchedIn m r → (got : Outcome → List (Option ℕ)) (t : Outcome → Term)
      → AtMost (unless_raised r (λ o. Stepped o.memory (got o) (t o)))
  most_outcome (Ok r) h got t = most_of r.memory h
  most_outcome (Err text) h got t = tt

  most_same : {A : Type 0} (r : Raising A) (got : A → List (Option ℕ)) (t : A → Term)
      → AtMost (unless_raised r (λ x. Stepped m (got x) (t x)))
  most_same (Ok x) got t = inl refl
  most_same (Err text) got t = tt

  module _ (defs : List Def) where
    most_links : (t : Ty) (vs : List Value) (r : Option ℕ) → AtMost (links defs m t vs r)
    most_links t [] r = inl refl
    most_links t (v ∷ vs) r = inr (_, refl)

    most : (t : Ty) (o : Work) (vs : List Value) → is_write o ≡ false → AtMost (performed defs m t o vs)
    most t (Literal c) vs e = inl refl
    most t Nil vs e = inl refl
    most t (Operate o) vs e = most_outcome (result_of defs m t o vs) (touched_result m defs t o vs) _ _
    most t (Read w) vs e = most_same (read m (record { type = t; way = w; operands = vs })) _ _
    most t (Assign aims) vs e = absurd cc
    most t (TakePart n) vs e = inl refl
    most t Copy vs e = absurd cc
    most t Link vs e = most_links (item_of t) _ _
    most t NewChannel vs e = inr (_, refl)
    most t (Call f) vs e = tt
    most t (Print ps) vs e = tt
    most t (Sprint ps) vs e = most_same (not_longer (formatted ps vs)) _ _

pub only_writes_change : OnlyWritesChange
only_writes_change = record {
  reads = λ defs m m' t w vs got u e. subst (Same m) e (same_read m (read m (record { type = t; way = w; operands = vs })) _ _);
  others = λ defs m m' t o vs got u is e. subst (AtMost m) e (most m defs t o vs is);
}
