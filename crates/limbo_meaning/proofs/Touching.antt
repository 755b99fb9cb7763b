-- What a step inside an expression does to the memory: nothing, or it adds one value to the heap, or it writes variables or one value of
-- the heap.
use Rattle.std.proofs.Common.{ℕ, ℤ, pos, negsuc, ◌+◌, length, Bool, true, false, List, [], ◌∷◌, Option, None, Some, Ok, Err}
use Rattle.inf_text.specs.Steps.{◌>>=◌}
use Rattle.limbo_layout.specs.Adts.{Def}
use Rattle.limbo_types.specs.Types.{Ty}
use Rattle.limbo_typed.specs.declared.operation.Operation.{Operation}
use Rattle.limbo_typed.specs.declared.operation.Operation.TheVariants as operation
use Rattle.limbo_typed.specs.declared.operation.Sequence.{Sequence}
use Rattle.limbo_typed.specs.declared.operation.Sequence.TheVariants as sequence
use Rattle.limbo_values.specs.Operators.{applied}
use Rattle.limbo_values.specs.Texts.{bounds_in, slice_in, joined, character_in}
use Rattle.limbo_meaning.specs.Bytes.{string_of}
use Rattle.limbo_meaning.specs.Values.{Part, Value, number_of, part_of, name_of, text_of}
use Rattle.limbo_meaning.specs.Memory.{HeapValue, Memory, with_variables, with_heap, made, changed}
use Rattle.limbo_meaning.specs.Exceptions.{Raising, with_text}
use Rattle.limbo_meaning.specs.Places.{Root, Local, Global, Element, Target, Place, operand, read, written, root_value, root_put}
use Rattle.limbo_meaning.specs.Places.{stored_at, element_of, target_of, not_longer}
use Rattle.limbo_meaning.specs.Operations.{Outcome, result_of, new_array, length_for, copied, elements_of, long_of, decides, item_of}
use Rattle.limbo_meaning.specs.Operations.{slice_of, from_bound, to_bound}
use Rattle.limbo_meaning.specs.Formats.{formatted}
use Rattle.limbo_meaning.specs.Trees.{Pending, Work, Literal, Nil, Operate, Read, Assign, TakePart, Copy, Link, NewChannel, Call, Print}
use Rattle.limbo_meaning.specs.Trees.{Sprint}
use Rattle.limbo_meaning.specs.Trees.{Term, Evaluated, Awaiting, Missing, Node, Lazy, Deciding, Update, Change, Put, Linking}
use Rattle.limbo_meaning.specs.Trees.{Fill, Filling, Turning, Repeating, Terms, NoTerms, MoreTerms, NoItems, MoreItems}
use Rattle.limbo_meaning.specs.Evaluation.{Progress, Finished, Stepped, Calls, Prints, Raises, Blocked, after, unless_raised, next}
use Rattle.limbo_meaning.specs.Evaluation.{next_all}
use Rattle.limbo_meaning.specs.Evaluation.{performed, writes, stores, links, decided, turns, pending_for, assigned, element_at, fill_on}

module _ (m : Memory) where
  pub data Touched : Memory → Type 0 where
    as_it_was : Touched m
    added : (v : HeapValue) → Touched (made m v)
    wrote : (variables : List Value) → Touched (with_variables m variables)
    changed_value : (n : ℕ) (v : HeapValue) → Touched (with_heap m (changed m.heap n v))

  -- nothing, or one value more
  pub data Added : Memory → Type 0 where
    same_memory : Added m
    one_more : (v : HeapValue) → Added (made m v)

  touched_of : (m' : Memory) → Added m' → Touched m'
  touched_of m' same_memory = as_it_was
  touched_of m' (one_more v) = added v

  -- what is raised touches nothing
  abbrev pub TouchedBy : Raising Memory → Type 0
  TouchedBy (Ok m') = Touched m'
  TouchedBy (Err text) = Unit {0}

  abbrev pub TouchedIn : Raising Outcome → Type 0
  TouchedIn (Ok r) = Added r.memory
  TouchedIn (Err text) = Unit {0}

  touched_behind : {A : Type 0} (r : Raising A) (f : A → Raising Memory) → ((x : A) → TouchedBy (f x)) → TouchedBy (r >>= f)
  touched_behind (Ok x) f k = k x
  touched_behind (Err text) f k = tt

  within : {A : Type 0} (r : Raising A) (f : A → Raising Outcome) → ((x : A) → TouchedIn (f x)) → TouchedIn (r >>= f)
  within (Ok x) f k = k x
  within (Err text) f k = tt

  touched_put : (r : Root) (vs : List Value) (v : Value) → TouchedBy (root_put m r vs v)
  touched_put (Local x) vs v = wrote _
  touched_put (Global x) vs v = changed_value m.instance _
  touched_put Element vs v = touched_behind (element_of (part_of (operand 0 vs)) (number_of (operand 1 vs))) _ (λ e. changed_value e.0 _)
  touched_put Target vs v = touched_behind (target_of (name_of (operand 0 vs))) _ (λ n. changed_value n _)

  touched_copied : (a : Option Part) (i : ℤ) (ys : List Value) → TouchedBy (copied m a i ys)
  touched_copied None (pos i) ys = touched_behind (with_text (bounds_in 0 (pos i) (pos (i + length ys)))) _ (λ b. as_it_was)
  touched_copied (Some p) (pos i) ys =
      touched_behind (with_text (bounds_in p.long (pos i) (pos (i + length ys)))) _ (λ b. changed_value p.array _)
  touched_copied a (negsuc i) ys = tt

  module _ (defs : List Def) where
    touched_written : (p : Place) (v : Value) → TouchedBy (written defs m p v)
    touched_written p v =
        touched_behind (root_value m p.way.root p.operands) _
        (λ old. touched_behind (stored_at defs m p old v) _ (λ new. touched_put p.way.root p.operands new))

    touched_array : (t : Ty) (n : ℤ) → TouchedIn (new_array defs m t n)
    touched_array t n = within (length_for defs t n) _ (λ l. one_more _)

    abbrev text : List Value → List ℕ
    text vs = text_of (operand 0 vs)

    abbrev long : List Value → ℕ
    long vs = long_of (part_of (operand 0 vs))

    abbrev whole_number : ℕ → List Value → ℤ
    whole_number n vs = number_of (operand n vs)

    touched_slice : (q : Sequence) (f g : Bool) (vs : List Value) → TouchedIn (slice_of defs m q f g vs)
    touched_slice sequence.Chars f g vs = within (with_text (slice_in (text vs) (from_bound f vs)
        (to_bound f g (length (text vs)) vs))) _ (λ t. same_memory)
    touched_slice sequence.Array f g vs = within (with_text (bounds_in (long vs) (from_bound f vs) (to_bound f g (long vs) vs))) _
        (λ b. same_memory)
    touched_slice sequence.List f g vs = within (with_text (bounds_in (long vs) (from_bound f vs) (to_bound f g (long vs) vs))) _
        (λ b. same_memory)

    pub touched_result : (t : Ty) (o : Operation) (vs : List Value) → TouchedIn (result_of defs m t o vs)
    touched_result t (operation.Arithmetic o k) vs = within (with_text (applied k o (whole_number 0 vs) (whole_number 1 vs))) _
        (λ z. same_memory)
    touched_result t (operation.Shift h k) vs = same_memory
    touched_result t (operation.Alter u k) vs = same_memory
    touched_result t (operation.Compare c k) vs = same_memory
    touched_result t (operation.CompareChars c) vs = same_memory
    touched_result t operation.Identical vs = same_memory
    touched_result t operation.Distinct vs = same_memory
    touched_result t operation.Not vs = same_memory
    touched_result t (operation.Convert from to) vs = same_memory
    touched_result t (operation.ReadNumber k) vs = same_memory
    touched_result t (operation.NumberText k) vs = same_memory
    touched_result t operation.BytesText vs = within (not_longer (string_of (elements_of m (part_of (operand 0 vs))))) _ (λ z. same_memory)
    touched_result t operation.TextBytes vs = one_more _
    touched_result t operation.Join vs = within (with_text (joined (text vs) (text_of (operand 1 vs)))) _ (λ z. same_memory)
    touched_result t operation.Cons vs = one_more _
    touched_result t operation.Head vs = within (target_of (name_of (operand 0 vs))) _ (λ n. same_memory)
    touched_result t operation.Tail vs = within (target_of (name_of (operand 0 vs))) _ (λ n. same_memory)
    touched_result t (operation.Length q) vs = same_memory
    touched_result t operation.Tag vs = within (target_of (name_of (operand 0 vs))) _ (λ n. same_memory)
    touched_result t operation.Ref vs = one_more _
    touched_result t operation.Tuple vs = same_memory
    touched_result t (operation.Adt n v) vs = same_memory
    touched_result t operation.List vs = same_memory
    touched_result t operation.NewArray vs = touched_array (item_of t) (number_of (operand 0 vs))
    touched_result t (operation.Slice q f g) vs = touched_slice q f g vs
    touched_result t operation.Character vs = within (with_text (character_in (text vs) (whole_number 1 vs))) _ (λ z. same_memory)

    -- ---- steps of trees

    abbrev pub Leaves : {R T : Type 0} → Progress R T → Type 0
    Leaves (Stepped m' got t) = Touched m'
    Leaves _ = Unit {0}

    leaves_after : {R S T U : Type 0} (pr : Progress R T) (go : R → Progress S U) (within : T → U) → Leaves pr → ((r : R) → Leaves (go r))
        → Leaves (after pr go within)
    leaves_after (Finished r) go within h k = k r
    leaves_after (Stepped m got t) go within h k = h
    leaves_after (Calls a f vs t) go within h k = tt
    leaves_after (Prints text t) go within h k = tt
    leaves_after (Raises text) go within h k = tt
    leaves_after Blocked go within h k = tt

    leaves_written : (r : Raising Memory) → TouchedBy r → (got : List (Option ℕ)) (t : Term)
        → Leaves (unless_raised r (λ m'. Stepped m' got t))
    leaves_written (Ok m') h got t = h
    leaves_written (Err text) h got t = tt

    leaves_outcome : (r : Raising Outcome) → TouchedIn r → (got : Outcome → List (Option ℕ)) (t : Outcome → Term)
        → Leaves (unless_raised r (λ o. Stepped o.memory (got o) (t o)))
    leaves_outcome (Ok r) h got t = touched_of r.memory h
    leaves_outcome (Err text) h got t = tt

    leaves_same : {A : Type 0} (r : Raising A) (got : A → List (Option ℕ)) (t : A → Term)
        → Leaves (unless_raised r (λ x. Stepped m (got x) (t x)))
    leaves_same (Ok x) got t = as_it_was
    leaves_same (Err text) got t = tt

    leaves_writes : (ps : List Pending) (v : Value) → Leaves (writes defs m ps v)
    leaves_writes [] v = as_it_was
    leaves_writes (p ∷ ps) v = leaves_written (written defs m p.place p.value) (touched_written p.place p.value) [] _

    leaves_stores : (p : Place) (v : Value) (t : Term) → Leaves (stores defs m p v t)
    leaves_stores p v t = leaves_written (written defs m p v) (touched_written p v) [] t

    leaves_links : (t : Ty) (vs : List Value) (r : Option ℕ) → Leaves (links defs m t vs r)
    leaves_links t [] r = as_it_was
    leaves_links t (v ∷ vs) r = added _

    leaves_decided : (b : Bool) (v : Value) (r : Term) → Leaves (decided defs m b v r)
    leaves_decided true v r = as_it_was
    leaves_decided false v r = as_it_was

    leaves_turns : (t : Ty) (p : Part) (ns : List ℕ) (e : Term) → Leaves (turns defs m t p ns e)
    leaves_turns t p [] e = as_it_was
    leaves_turns t p (n ∷ ns) e = as_it_was

    leaves_performed : (t : Ty) (o : Work) (vs : List Value) → Leaves (performed defs m t o vs)
    leaves_performed t (Literal c) vs = as_it_was
    leaves_performed t Nil vs = as_it_was
    leaves_performed t (Operate o) vs = leaves_outcome (result_of defs m t o vs) (touched_result t o vs) _ _
    leaves_performed t (Read w) vs = leaves_same (read m (record { type = t; way = w; operands = vs })) _ _
    leaves_performed t (Assign aims) vs = leaves_writes (pending_for aims vs (assigned aims vs)) _
    leaves_performed t (TakePart n) vs = as_it_was
    leaves_performed t Copy vs =
        leaves_written (copied m (part_of (operand 0 vs)) (number_of (operand 1 vs)) (elements_of m (part_of (operand 2 vs))))
        (touched_copied (part_of (operand 0 vs)) (number_of (operand 1 vs)) (elements_of m (part_of (operand 2 vs)))) [] _
    leaves_performed t Link vs = leaves_links (item_of t) _ _
    leaves_performed t NewChannel vs = added _
    leaves_performed t (Call f) vs = tt
    leaves_performed t (Print ps) vs = tt
    leaves_performed t (Sprint ps) vs = leaves_same (not_longer (formatted ps vs)) _ _

    mutual
      pub touches : (t : Term) → Leaves (next defs m t)
      touches (Evaluated v) = tt
      touches Awaiting = tt
      touches Missing = tt
      touches (Node t o ts) = leaves_after (next_all defs m ts) _ _ (all_touch ts) (leaves_performed t o)
      touches (Lazy c l r) = leaves_after (next defs m l) _ _ (touches l) (λ v. leaves_decided (decides c v) v r)
      touches (Deciding r) = leaves_after (next defs m r) _ _ (touches r) (λ v. as_it_was)
      touches (Update o g t w ts us) =
          leaves_after (next_all defs m ts) _ _ (all_touch ts)
          (λ vs. leaves_same (read m (record { type = t; way = w; operands = vs })) _ _)
      touches (Change o g p ts) =
          leaves_after (next_all defs m ts) _ _ (all_touch ts)
          (λ vs. leaves_outcome (result_of defs m p.type o vs) (touched_result p.type o vs) _ _)
      touches (Put ps v) = leaves_writes ps v
      touches (Linking t vs r) = leaves_links t vs r
      touches (Fill t l is rest) =
          leaves_after (next defs m l) _ _ (touches l)
          (λ v. leaves_outcome (new_array defs m t (number_of v)) (touched_array t (number_of v)) _ _)
      touches (Filling t p NoItems ns rest) = as_it_was
      touches (Filling t p (MoreItems i x is) ns rest) =
          leaves_after (next defs m x) _ _ (touches x) (λ v. leaves_stores (element_at t p i) v (fill_on t p is ns rest))
      touches (Turning t p ns x) = leaves_turns t p ns x
      touches (Repeating t p i ns x now) =
          leaves_after (next defs m now) _ _ (touches now) (λ v. leaves_stores (element_at t p (pos i)) v (Turning t p ns x))

      pub all_touch : (ts : Terms) → Leaves (next_all defs m ts)
      all_touch NoTerms = tt
      all_touch (MoreTerms t ts) =
          leaves_after (next defs m t) _ _ (touches t) (λ v. leaves_after (next_all defs m ts) _ _ (all_touch ts) (λ vs. tt))
