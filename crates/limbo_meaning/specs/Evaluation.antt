-- One step inside an expression: the leftmost part that is ready.
use Rattle.std.specs.Prelude.{ℕ, ℤ, pos, ◌+◌, Bool, true, false, ◌||◌, List, [], ◌∷◌, drop, take, reverse, Option, Some, None, Ok, Err}
use Rattle.std.specs.Prelude.{if◌then◌else◌}
use Rattle.std.specs.List.{range_with_len}
use Rattle.std.specs.Ordering.{int_eq}
use Rattle.limbo_types.specs.Types.{Ty}
use Rattle.limbo_layout.specs.Adts.{Def}
use Rattle.limbo_typed.specs.declared.operation.Operation.{Operation}
use Rattle.limbo_typed.specs.declared.operation.Operation.TheVariants as operation
use Rattle.limbo_typed.specs.declared.operation.Given.{Given}
use Rattle.limbo_typed.specs.declared.operation.Given.TheVariants as given
use Rattle.limbo_meaning.specs.Values.{Part, Value, Num, Chars, Ref, Array, nothing, parts_of, number_of, part_of, fitted, zero_of}
use Rattle.limbo_meaning.specs.Values.{references}
use Rattle.limbo_meaning.specs.Memory.{Cell, Channel, Memory, made, next_name}
use Rattle.limbo_meaning.specs.Exceptions.{Raising}
use Rattle.limbo_meaning.specs.Places.{Element, Place, operand, operands_of, part_at, value_part, read, written, not_longer}
use Rattle.limbo_meaning.specs.Operations.{Outcome, result_of, new_array, copied, elements_of, item_of, constant_value, decides, truth_of}
use Rattle.limbo_meaning.specs.Formats.{formatted}
use Rattle.limbo_meaning.specs.Trees.{Aim, Pending, Work, Literal, Nil, Operate, Read, Assign, TakePart, Copy, Link, NewChannel, Call}
use Rattle.limbo_meaning.specs.Trees.{Print}
use Rattle.limbo_meaning.specs.Trees.{Sprint}
use Rattle.limbo_meaning.specs.Trees.{Term, Evaluated, Awaiting, Missing, Node, Lazy, Deciding, Update, Change, Put, Linking}
use Rattle.limbo_meaning.specs.Trees.{Fill, Filling, Turning, Repeating, Terms, NoTerms, MoreTerms, Items, NoItems, MoreItems}
use Rattle.limbo_meaning.specs.Trees.{Stm, Over, Eval, If, While, Enter, Break, Continue, Return, Leave}
use Rattle.limbo_meaning.specs.Trees.{Block, Done, Then, Turn, Again}

-- What a step comes to in a tree. The tree is evaluated already; the step makes it another tree, leaves this memory, and gets these
-- references, each a name or nothing, which the statement holds from now on; it calls a function with these values, for an answer of this
-- type, or prints this text, and the tree waits for the answer; it raises an exception with this text; or nothing in it is ready.
pub data Progress (R T : Type 0) : Type 0 where
  Finished : R → Progress R T
  Stepped : Memory → (got : List (Option ℕ)) → T → Progress R T
  Calls : Ty → (function : ℕ) → List Value → T → Progress R T
  Prints : List ℕ → T → Progress R T
  Raises : (text : List ℕ) → Progress R T
  Blocked : Progress R T

-- A part of a tree comes first, and the rest once the part is evaluated: `go` says what then, `within` puts the part back.
abbrev pub after : {R S T U : Type 0} → Progress R T → (R → Progress S U) → (T → U) → Progress S U
after (Finished v) go within = go v
after (Stepped m got t) go within = Stepped m got (within t)
after (Calls a f vs t) go within = Calls a f vs (within t)
after (Prints text t) go within = Prints text (within t)
after (Raises text) go within = Raises text
after Blocked go within = Blocked

-- What may be raised instead.
abbrev pub unless_raised : {A : Type 0} → Raising A → (A → Progress Value Term) → Progress Value Term
unless_raised (Ok x) go = go x
unless_raised (Err text) go = Raises text

-- ---- which parts of a tree may get references

-- Tuples and adts pass on what was got for their parts.
abbrev pub passes_on : Operation → Bool
passes_on operation.Tuple = true
passes_on (operation.Adt n v) = true
passes_on _ = false

-- What a value that an operation gives gets: each reference in it.
abbrev pub got_by : Operation → Value → List (Option ℕ)
got_by o v = if passes_on o then [] else references v

abbrev pub is_some : List (Option ℕ) → Bool
is_some [] = false
is_some (r ∷ rs) = true

-- Nothing is got by the decision of what may hold no reference.
abbrev pub note : Bool → List (Option ℕ)
note true = None ∷ []
note false = []

module _ (defs : List Def) where
  -- Whether values of a type have references: as many as its zero has.
  abbrev pub refers : Ty → Bool
  refers t = is_some (references (zero_of defs t))

  abbrev pub work_refers : Ty → Work → Bool
  work_refers t (Operate o) = if passes_on o then false else refers t
  work_refers t (Read w) = refers t
  work_refers t (Call f) = refers t
  work_refers t Link = true
  work_refers t NewChannel = true
  work_refers t _ = false

  abbrev mutual
    -- The evaluation of a tree may get references.
    pub may_hold : Term → Bool
    may_hold (Node t o ts) = work_refers t o || some_may_hold ts
    may_hold (Lazy c l r) = may_hold l || may_hold r
    may_hold (Deciding r) = may_hold r
    may_hold (Update o g t w ts us) = refers t || (some_may_hold ts || some_may_hold us)
    may_hold (Change o g p ts) = refers p.type || some_may_hold ts
    may_hold (Linking t vs r) = true
    may_hold (Fill t l is ts) = true
    may_hold (Filling t p is ns ts) = items_may_hold is || some_may_hold ts
    may_hold (Turning t p ns e) = may_hold e
    may_hold (Repeating t p i ns e now) = may_hold e || may_hold now
    may_hold _ = false

    pub some_may_hold : Terms → Bool
    some_may_hold NoTerms = false
    some_may_hold (MoreTerms t ts) = may_hold t || some_may_hold ts

    pub items_may_hold : Items → Bool
    items_may_hold NoItems = false
    items_may_hold (MoreItems i t is) = may_hold t || items_may_hold is

-- ---- assignments

-- The writes of an assignment: each place takes its operands from the front, and the value stands behind them all.
abbrev pub pending_for : List Aim → (operands : List Value) → (value : Value) → List Pending
pending_for [] vs v = []
pending_for (a ∷ aims) vs v =
    record { place = record { type = a.type; way = a.way; operands = take (operands_of a.way) vs }; value = part_at a.part v }
    ∷ pending_for aims (drop (operands_of a.way) vs) v

abbrev pub operands_for : List Aim → ℕ
operands_for [] = 0
operands_for (a ∷ aims) = operands_of a.way + operands_for aims

abbrev pub assigned : List Aim → List Value → Value
assigned aims vs = operand (operands_for aims) vs

-- What is left behind a write, and behind a cell of a list.
abbrev pub put_rest : List Pending → Value → Term
put_rest [] v = Evaluated v
put_rest (p ∷ ps) v = Put (p ∷ ps) v

abbrev pub link_rest : Ty → List Value → Option ℕ → Term
link_rest t [] r = Evaluated (Ref r)
link_rest t (v ∷ vs) r = Linking t (v ∷ vs) r

-- What `p op= e`, `p++` and `++p` give: the value that the place has then, or the one that it had, which is the first operand.
abbrev pub given_by : Given → (old new : Value) → Value
given_by given.Old old new = old
given_by given.New old new = new

-- ---- initialisers

abbrev pub is_index : ℕ → ℤ → Bool
is_index n z = int_eq (pos n) z

abbrev pub names_index : Items → ℕ → Bool
names_index NoItems n = false
names_index (MoreItems i t is) n = is_index n i || names_index is n

abbrev pub left_of : Items → List ℕ → List ℕ
left_of is [] = []
left_of is (n ∷ ns) = if names_index is n then left_of is ns else n ∷ left_of is ns

-- The indices of an array that no element names.
abbrev pub others_of : Items → (length : ℕ) → List ℕ
others_of is n = left_of is (range_with_len 0 n)

-- Behind the last element that is written: the turns of the one for the others, or else the array.
abbrev pub fill_rest : Ty → Part → List ℕ → Terms → Term
fill_rest t p ns NoTerms = Evaluated (Array (Some p))
fill_rest t p ns (MoreTerms e es) = Turning t p ns e

abbrev pub fill_on : Ty → Part → Items → List ℕ → Terms → Term
fill_on t p NoItems ns rest = fill_rest t p ns rest
fill_on t p (MoreItems i e is) ns rest = Filling t p (MoreItems i e is) ns rest

abbrev pub fill_made : Ty → Option Part → Items → Terms → Term
fill_made t None is rest = Missing
fill_made t (Some p) is rest = fill_on t p is (others_of is p.long) rest

-- An element of a new array, as a place.
abbrev pub element_at : Ty → Part → ℤ → Place
element_at t p i = record {
  type = t;
  way = record { root = Element; parts = []; character = false };
  operands = Array (Some p) ∷ Num i ∷ [];
}

-- ---- the steps

-- Each of these is one step: the value of a constant; a read and a write of one place; an operation on values, a part of a value, a copy; a
-- new array, a new cell, a new channel; a stored element; the decision of a connective, the truth of its right operand, and the decision
-- whether an initialiser has one element more; a call and a print. Operands and arguments are evaluated from left to right. A value is
-- brought to the type of the node, or of the place that it is written to; assignments and copies pass on their value as it is.
module _ (defs : List Def) (m : Memory) where
  -- A value that is got, and one that passes on what was got, each as one of a type.
  abbrev pub gets : Ty → Value → Progress Value Term
  gets t v = Stepped m (references (fitted defs t v)) (Evaluated (fitted defs t v))

  abbrev pub passes : Ty → Value → Progress Value Term
  passes t v = Stepped m [] (Evaluated (fitted defs t v))

  -- What an operation leaves, and what is got of what it gives.
  abbrev pub leaves : Ty → Operation → Outcome → Progress Value Term
  leaves t o r = Stepped r.memory (got_by o (fitted defs t r.value)) (Evaluated (fitted defs t r.value))

  -- One write is a step; behind the last the expression has its value.
  abbrev pub writes : List Pending → Value → Progress Value Term
  writes [] v = Stepped m [] (Evaluated v)
  writes (p ∷ ps) v = unless_raised (written defs m p.place p.value) (λ m'. Stepped m' [] (put_rest ps v))

  abbrev pub stores : Place → Value → Term → Progress Value Term
  stores p v t = unless_raised (written defs m p v) (λ m'. Stepped m' [] t)

  -- The cell of the last item that is left; the last cell of all is in front of nothing.
  abbrev pub links : Ty → List Value → Option ℕ → Progress Value Term
  links t [] r = Stepped m [] (Evaluated (Ref r))
  links t (v ∷ vs) r = Stepped (made m (Cell (fitted defs t v) r)) (Some (next_name m) ∷ []) (link_rest t vs (Some (next_name m)))

  -- What becomes of the values of all operands.
  abbrev pub performed : Ty → Work → List Value → Progress Value Term
  performed t (Literal c) vs = passes t (constant_value c)
  performed t Nil vs = passes t nothing
  performed t (Operate o) vs = unless_raised (result_of defs m t o vs) (leaves t o)
  performed t (Read w) vs = unless_raised (read m (record { type = t; way = w; operands = vs })) (gets t)
  performed t (Assign aims) vs = writes (pending_for aims vs (assigned aims vs)) (assigned aims vs)
  performed t (TakePart n) vs = passes t (value_part n (parts_of (operand 0 vs)))
  performed t Copy vs =
      unless_raised (copied m (part_of (operand 0 vs)) (number_of (operand 1 vs)) (elements_of m (part_of (operand 2 vs))))
      (λ m'. Stepped m' [] (Evaluated (operand 2 vs)))
  performed t Link vs = links (item_of t) (reverse vs) None
  performed t NewChannel vs = Stepped (made m Channel) (Some (next_name m) ∷ []) (Evaluated (Ref (Some (next_name m))))
  performed t (Call f) vs = Calls t f vs Awaiting
  performed t (Print ps) vs = Prints (formatted ps vs) Awaiting
  performed t (Sprint ps) vs = unless_raised (not_longer (formatted ps vs)) (λ text. passes t (Chars text))

  abbrev pub decided : Bool → Value → Term → Progress Value Term
  decided true v r = Stepped m (note (may_hold defs r)) (Evaluated (truth_of v))
  decided false v r = Stepped m (note (may_hold defs r)) (Deciding r)

  -- A new array, of whose elements the first that is written comes next.
  abbrev pub fills : Ty → Items → Terms → Value → Progress Value Term
  fills t is rest v =
      unless_raised (new_array defs m t (number_of v))
      (λ r. Stepped r.memory (references r.value) (fill_made t (part_of r.value) is rest))

  -- Whether there is one element more.
  abbrev pub turns : Ty → Part → List ℕ → Term → Progress Value Term
  turns t p [] e = Stepped m (note (may_hold defs e)) (Evaluated (Array (Some p)))
  turns t p (i ∷ is) e = Stepped m (note (may_hold defs e)) (Repeating t p i is e e)

  -- The place of an assignment with an operator is read.
  abbrev pub reads_first : Operation → Given → Place → Terms → Progress Value Term
  reads_first o g p us =
      unless_raised (read m p)
      (λ v. Stepped m (references (fitted defs p.type v)) (Change o g p (MoreTerms (Evaluated (fitted defs p.type v)) us)))

  abbrev pub changes : Operation → Given → Place → List Value → Progress Value Term
  changes o g p vs =
      unless_raised (result_of defs m p.type o vs)
      (λ r. Stepped r.memory (got_by o (fitted defs p.type r.value))
      (Put (record { place = p; value = fitted defs p.type r.value } ∷ []) (given_by g (operand 0 vs) (fitted defs p.type r.value))))

  abbrev mutual
    pub next : Term → Progress Value Term
    next (Evaluated v) = Finished v
    next Awaiting = Blocked
    next Missing = Blocked
    next (Node t o ts) = after (next_all ts) (performed t o) (Node t o)
    next (Lazy c l r) = after (next l) (λ v. decided (decides c v) v r) (λ l. Lazy c l r)
    next (Deciding r) = after (next r) (λ v. Stepped m [] (Evaluated (truth_of v))) Deciding
    next (Update o g t w ts us) =
        after (next_all ts) (λ vs. reads_first o g (record { type = t; way = w; operands = vs }) us) (λ ts. Update o g t w ts us)
    next (Change o g p ts) = after (next_all ts) (changes o g p) (Change o g p)
    next (Put ps v) = writes ps v
    next (Linking t vs r) = links t vs r
    next (Fill t l is rest) = after (next l) (fills t is rest) (λ l. Fill t l is rest)
    next (Filling t p NoItems ns rest) = Stepped m [] (Evaluated (Array (Some p)))
    next (Filling t p (MoreItems i e is) ns rest) =
        after (next e) (λ v. stores (element_at t p i) v (fill_on t p is ns rest)) (λ e. Filling t p (MoreItems i e is) ns rest)
    next (Turning t p ns e) = turns t p ns e
    next (Repeating t p i ns e now) =
        after (next now) (λ v. stores (element_at t p (pos i)) v (Turning t p ns e)) (Repeating t p i ns e)

    pub next_all : Terms → Progress (List Value) Terms
    next_all NoTerms = Finished []
    next_all (MoreTerms t ts) =
        after (next t) (λ v. after (next_all ts) (λ vs. Finished (v ∷ vs)) (MoreTerms (Evaluated v))) (λ t. MoreTerms t ts)

-- ---- the answer in place of the wait for it

abbrev mutual
  pub fill : Value → Term → Term
  fill v (Evaluated w) = Evaluated w
  fill v Awaiting = Evaluated v
  fill v Missing = Missing
  fill v (Node t o ts) = Node t o (fill_all v ts)
  fill v (Lazy c l r) = Lazy c (fill v l) r
  fill v (Deciding r) = Deciding (fill v r)
  fill v (Update o g t w ts us) = Update o g t w (fill_all v ts) us
  fill v (Change o g p ts) = Change o g p (fill_all v ts)
  fill v (Put ps w) = Put ps w
  fill v (Linking t vs r) = Linking t vs r
  fill v (Fill t l is rest) = Fill t (fill v l) is rest
  fill v (Filling t p is ns rest) = Filling t p (fill_items v is) ns rest
  fill v (Turning t p ns e) = Turning t p ns e
  fill v (Repeating t p i ns e now) = Repeating t p i ns e (fill v now)

  pub fill_all : Value → Terms → Terms
  fill_all v NoTerms = NoTerms
  fill_all v (MoreTerms t ts) = MoreTerms (fill v t) (fill_all v ts)

  -- only the first element is in evaluation
  pub fill_items : Value → Items → Items
  fill_items v NoItems = NoItems
  fill_items v (MoreItems i t is) = MoreItems i (fill v t) is

abbrev pub fill_stm : Value → Stm → Stm
fill_stm v Over = Over
fill_stm v (Eval t) = Eval (fill v t)
fill_stm v (If t a b) = If (fill v t) a b
fill_stm v (While t l) = While (fill v t) l
fill_stm v (Enter l) = Enter l
fill_stm v (Break n) = Break n
fill_stm v (Continue n) = Continue n
fill_stm v (Return t) = Return (fill v t)
fill_stm v Leave = Leave

-- Only the first statement of a block is in evaluation.
abbrev pub fill_block : Value → Block → Block
fill_block v Done = Done
fill_block v (Then m rest) = Then (fill_stm v m) rest
fill_block v (Turn l rest) = Turn l rest
fill_block v (Again l rest) = Again l rest
