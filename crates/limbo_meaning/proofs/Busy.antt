-- Only a tree that is a value has come to one: in each other a step is still to be done.
use Rattle.std.proofs.Common.{◌≡◌, ℕ, pos, Bool, true, false, List, [], ◌∷◌, Option, Ok, Err, refl, subst}
use Rattle.limbo_layout.specs.Adts.{Def}
use Rattle.limbo_types.specs.Types.{Ty}
use Rattle.limbo_meaning.specs.Values.{Part, Value, number_of, part_of}
use Rattle.limbo_meaning.specs.Memory.{Memory}
use Rattle.limbo_meaning.specs.Exceptions.{Raising}
use Rattle.limbo_meaning.specs.Places.{Place, operand, read, written, not_longer}
use Rattle.limbo_meaning.specs.Operations.{result_of, new_array, copied, elements_of, decides, item_of}
use Rattle.limbo_meaning.specs.Formats.{formatted}
use Rattle.limbo_meaning.specs.Trees.{Pending, Work, Literal, Nil, Operate, Read, Assign, TakePart, Copy, Link, NewChannel, Call, Print}
use Rattle.limbo_meaning.specs.Trees.{Sprint}
use Rattle.limbo_meaning.specs.Trees.{Term, Evaluated, Awaiting, Missing, Node, Lazy, Deciding, Update, Change, Put, Linking}
use Rattle.limbo_meaning.specs.Trees.{Fill, Filling, Turning, Repeating, NoItems, MoreItems}
use Rattle.limbo_meaning.specs.Evaluation.{Progress, Finished, Stepped, Calls, Prints, Raises, Blocked, after, unless_raised, next}
use Rattle.limbo_meaning.specs.Evaluation.{next_all}
use Rattle.limbo_meaning.specs.Evaluation.{performed, writes, stores, links, decided, turns, pending_for, assigned, element_at, fill_on}
use Rattle.limbo_meaning.specs.Holding.{is_evaluated}

abbrev pub IsBusy : {R T : Type 0} → Progress R T → Type 0
IsBusy (Finished r) = ⊥
IsBusy _ = Unit {0}

module _ (defs : List Def) (m : Memory) where
  busy_after : {R T : Type 0} (pr : Progress R T) (go : R → Progress Value Term) (within : T → Term) → ((r : R) → IsBusy (go r))
      → IsBusy (after pr go within)
  busy_after (Finished r) go within k = k r
  busy_after (Stepped m got t) go within k = tt
  busy_after (Calls a f vs t) go within k = tt
  busy_after (Prints text t) go within k = tt
  busy_after (Raises text) go within k = tt
  busy_after Blocked go within k = tt

  busy_unless : {A : Type 0} (r : Raising A) (go : A → Progress Value Term) → ((x : A) → IsBusy (go x)) → IsBusy (unless_raised r go)
  busy_unless (Ok x) go k = k x
  busy_unless (Err text) go k = tt

  busy_writes : (ps : List Pending) (v : Value) → IsBusy (writes defs m ps v)
  busy_writes [] v = tt
  busy_writes (p ∷ ps) v = busy_unless (written defs m p.place p.value) _ (λ m'. tt)

  busy_stores : (p : Place) (v : Value) (t : Term) → IsBusy (stores defs m p v t)
  busy_stores p v t = busy_unless (written defs m p v) _ (λ m'. tt)

  busy_links : (t : Ty) (vs : List Value) (r : Option ℕ) → IsBusy (links defs m t vs r)
  busy_links t [] r = tt
  busy_links t (v ∷ vs) r = tt

  busy_decided : (b : Bool) (v : Value) (r : Term) → IsBusy (decided defs m b v r)
  busy_decided true v r = tt
  busy_decided false v r = tt

  busy_turns : (t : Ty) (p : Part) (ns : List ℕ) (e : Term) → IsBusy (turns defs m t p ns e)
  busy_turns t p [] e = tt
  busy_turns t p (n ∷ ns) e = tt

  busy_performed : (t : Ty) (o : Work) (vs : List Value) → IsBusy (performed defs m t o vs)
  busy_performed t (Literal c) vs = tt
  busy_performed t Nil vs = tt
  busy_performed t (Operate o) vs = busy_unless (result_of defs m t o vs) _ (λ r. tt)
  busy_performed t (Read w) vs = busy_unless (read m (record { type = t; way = w; operands = vs })) _ (λ r. tt)
  busy_performed t (Assign aims) vs = busy_writes (pending_for aims vs (assigned aims vs)) _
  busy_performed t (TakePart n) vs = tt
  busy_performed t Copy vs =
      busy_unless (copied m (part_of (operand 0 vs)) (number_of (operand 1 vs)) (elements_of m (part_of (operand 2 vs)))) _ (λ r. tt)
  busy_performed t Link vs = busy_links (item_of t) _ _
  busy_performed t NewChannel vs = tt
  busy_performed t (Call f) vs = tt
  busy_performed t (Print ps) vs = tt
  busy_performed t (Sprint ps) vs = busy_unless (not_longer (formatted ps vs)) _ (λ r. tt)

  pub busy : (t : Term) → is_evaluated t ≡ false → IsBusy (next defs m t)
  busy (Evaluated v) e = absurd cc
  busy Awaiting e = tt
  busy Missing e = tt
  busy (Node t o ts) e = busy_after (next_all defs m ts) _ _ (busy_performed t o)
  busy (Lazy c l r) e = busy_after (next defs m l) _ _ (λ v. busy_decided (decides c v) v r)
  busy (Deciding r) e = busy_after (next defs m r) _ _ (λ v. tt)
  busy (Update o g t w ts us) e = busy_after (next_all defs m ts) _ _
      (λ vs. busy_unless (read m (record { type = t; way = w; operands = vs })) _ (λ v. tt))
  busy (Change o g p ts) e = busy_after (next_all defs m ts) _ _ (λ vs. busy_unless (result_of defs m p.type o vs) _ (λ v. tt))
  busy (Put ps v) e = busy_writes ps v
  busy (Linking t vs r) e = busy_links t vs r
  busy (Fill t l is rest) e = busy_after (next defs m l) _ _ (λ v. busy_unless (new_array defs m t (number_of v)) _ (λ r. tt))
  busy (Filling t p NoItems ns rest) e = tt
  busy (Filling t p (MoreItems i x is) ns rest) e = busy_after (next defs m x) _ _
      (λ v. busy_stores (element_at t p i) v (fill_on t p is ns rest))
  busy (Turning t p ns x) e = busy_turns t p ns x
  busy (Repeating t p i ns x now) e = busy_after (next defs m now) _ _ (λ v. busy_stores (element_at t p (pos i)) v (Turning t p ns x))

  -- a tree whose value is there
  pub finished : (t : Term) (v : Value) → next defs m t ≡ Finished v → is_evaluated t ≡ true
  finished t v e = go (is_evaluated t) refl
    where
      go : (b : Bool) → is_evaluated t ≡ b → b ≡ true
      go true f = refl
      go false f = absurd (subst IsBusy e (busy t f))

  abbrev IsFinished : Progress Value Term → Type 0
  IsFinished (Finished v) = Unit {0}
  IsFinished _ = ⊥

  value_finishes : (t : Term) → is_evaluated t ≡ true → IsFinished (next defs m t)
  value_finishes (Evaluated v) e = tt
  value_finishes t e = absurd cc

  not_both : (pr : Progress Value Term) → IsFinished pr → IsBusy pr → ⊥
  not_both (Finished v) f b = b
  not_both (Stepped m got t) f b = f
  not_both (Calls a g vs t) f b = f
  not_both (Prints text t) f b = f
  not_both (Raises text) f b = f
  not_both Blocked f b = f

  -- a tree that makes a step is no value
  pub not_value : (t : Term) (pr : Progress Value Term) → next defs m t ≡ pr → IsBusy pr → is_evaluated t ≡ false
  not_value t pr e b = go (is_evaluated t) refl
    where
      go : (c : Bool) → is_evaluated t ≡ c → c ≡ false
      go false f = refl
      go true f = absurd (not_both pr (subst IsFinished e (value_finishes t f)) b)
