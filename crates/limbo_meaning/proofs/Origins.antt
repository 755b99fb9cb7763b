-- What a step of a tree names was named by the tree, or is in the memory, or is new.
use Rattle.std.proofs.Common.{◌≡◌, ℕ, ℤ, zero, suc, pos, negsuc, ◌+◌, ◌<◌, ◌≤◌, Bool, true, false, List, [], ◌∷◌, length, Option, None}
use Rattle.std.proofs.Common.{Some, Ok, Err, ◌⊎◌, inl, inr, refl, sym, subst, ◌∙◌, arith}
use Rattle.std.specs.Prelude.{encode_utf8_all, slice_set, slice_get, replicate, map, if◌then◌else◌}
use Rattle.std.proofs.lemmas.Bool.{cases_eq}
use Rattle.inf_text.specs.Steps.{◌>>=◌}
use Rattle.limbo_layout.specs.Adts.{Def}
use Rattle.limbo_types.specs.Types.{Ty}
use Rattle.limbo_values.specs.Operators.{applied}
use Rattle.limbo_values.specs.Texts.{index_in, bounds_in, slice_in, joined, character_in}
use Rattle.limbo_typed.specs.declared.operation.Operation.{Operation}
use Rattle.limbo_typed.specs.declared.operation.Operation.TheVariants as operation
use Rattle.limbo_typed.specs.declared.operation.Sequence.{Sequence}
use Rattle.limbo_typed.specs.declared.operation.Sequence.TheVariants as sequence
use Rattle.system_model.specs.Verbs.{character}
use Rattle.heap_model.specs.Heap.{Heap, at}
use Rattle.heap_model.proofs.Heap.{at_last, at_more}
use Rattle.limbo_meaning.specs.Values.{Part, Value, Num, Chars, Ref, Array, Parts, row, first_in, parts_of, part_of, name_of, text_of}
use Rattle.limbo_meaning.specs.Values.{number_of, fitted, zero_of}
use Rattle.limbo_meaning.specs.Values.{references, references_in, array_named, one, among}
use Rattle.limbo_meaning.specs.Memory.{HeapValue, Elements, Cell, Record, Channel, Instance, inside, Memory, with_variables, with_heap}
use Rattle.limbo_meaning.specs.Memory.{next_name, made, changed, changed_to}
use Rattle.limbo_meaning.specs.Memory.{elements_in, head_in, tail_in, record_in, variables_in, globals_of}
use Rattle.limbo_meaning.specs.Exceptions.{Raising, with_text}
use Rattle.limbo_meaning.specs.Bytes.{bytes_of, string_of}
use Rattle.limbo_meaning.specs.Places.{Root, Local, Global, Element, Target, Place, operand, part_at, element_of, target_of, not_longer}
use Rattle.limbo_meaning.specs.Places.{root_value, root_put, index_of, character_at, part_read, read, new_part, stored_at, written}
use Rattle.limbo_meaning.specs.Places.{with_character, put_character}
use Rattle.limbo_meaning.specs.Operations.{Outcome, new_array, length_for, elements_of, long_of, sliced, copied}
use Rattle.limbo_meaning.specs.Operations.{adt_parts, result_of, slice_of, from_bound, to_bound, item_of}
use Rattle.limbo_meaning.specs.Evaluation.{passes_on}
use Rattle.limbo_meaning.specs.Origins.{Name, InMemory}
use Rattle.limbo_meaning.proofs.Naming.{set_apart}
use Rattle.limbo_meaning.proofs.Names.{Sub, none, is_one, nil_names, either, in_row, in_get, in_set, in_range, in_copies, in_fitted}
use Rattle.limbo_meaning.proofs.Names.{zero_names, in_value_part}
use Rattle.limbo_meaning.proofs.Names.{in_the_parts, in_the_array, in_the_name, in_part, in_with_part, in_adt_parts, in_overwritten}

-- what isn't raised is so
abbrev pub OnOk : {A : Type 0} → (A → Type 0) → Raising A → Type 0
OnOk P (Ok x) = P x
OnOk P (Err text) = Unit {0}

behind : {A B : Type 0} (Q : A → Type 0) (P : B → Type 0) (r : Raising A) (f : A → Raising B) → OnOk Q r → ((x : A) → Q x → OnOk P (f x))
    → OnOk P (r >>= f)
behind Q P (Ok x) f q k = k x q
behind Q P (Err text) f q k = tt

pub any : {A : Type 0} (r : Raising A) → OnOk (λ x. Unit {0}) r
any (Ok x) = tt
any (Err text) = tt

pub of_two : (a b : ℕ) → 0 < a + b → (0 < a) ⊎ (0 < b)
of_two zero b h = inr (omega (arith, h))
of_two (suc a) b h = inl (omega arith)

-- what a cell names
pub of_cell : (v : Value) (r : Option ℕ) (n : ℕ) → 0 < inside (Cell v r) n → Name (references v) n ⊎ Name (r ∷ []) n
of_cell v r n h = elim (of_two (among n (references v)) (one n r) h) [ inl y ↦ inl y | inr y ↦ inr (omega (arith, y)) ]

module _ (m : Memory) where
  -- ---- what is in the memory

  in_elements : (a n : ℕ) → Name (references_in (elements_in (at m.heap a))) n → InMemory m n
  in_elements a n h = go (at m.heap a) refl h
    where
      go : (o : Option HeapValue) → at m.heap a ≡ o → Name (references_in (elements_in o)) n → InMemory m n
      go (Some (Elements vs)) e h = inr (a, Elements vs, e, h)
      go None e h = none n h
      go (Some (Cell v r)) e h = none n h
      go (Some (Record v)) e h = none n h
      go (Some Channel) e h = none n h
      go (Some (Instance vs)) e h = none n h

  in_globals : (n : ℕ) → Name (references_in (globals_of m)) n → InMemory m n
  in_globals n h = go (at m.heap m.instance) refl h
    where
      go : (o : Option HeapValue) → at m.heap m.instance ≡ o → Name (references_in (variables_in o)) n → InMemory m n
      go (Some (Instance vs)) e h = inr (m.instance, Instance vs, e, h)
      go None e h = none n h
      go (Some (Cell v r)) e h = none n h
      go (Some (Record v)) e h = none n h
      go (Some Channel) e h = none n h
      go (Some (Elements vs)) e h = none n h

  in_head : (a n : ℕ) → Name (references (head_in (at m.heap a))) n → InMemory m n
  in_head a n h = go (at m.heap a) refl h
    where
      go : (o : Option HeapValue) → at m.heap a ≡ o → Name (references (head_in o)) n → InMemory m n
      go (Some (Cell v r)) e h = inr (a, Cell v r, e, omega (arith, h))
      go None e h = none n h
      go (Some (Elements vs)) e h = none n h
      go (Some (Record v)) e h = none n h
      go (Some Channel) e h = none n h
      go (Some (Instance vs)) e h = none n h

  in_tail : (a n : ℕ) → Name (tail_in (at m.heap a) ∷ []) n → InMemory m n
  in_tail a n h = go (at m.heap a) refl h
    where
      go : (o : Option HeapValue) → at m.heap a ≡ o → Name (tail_in o ∷ []) n → InMemory m n
      go (Some (Cell v r)) e h = inr (a, Cell v r, e, omega (arith, h))
      go None e h = nil_names n h
      go (Some (Elements vs)) e h = nil_names n h
      go (Some (Record v)) e h = nil_names n h
      go (Some Channel) e h = nil_names n h
      go (Some (Instance vs)) e h = nil_names n h

  in_record : (a n : ℕ) → Name (references (record_in (at m.heap a))) n → InMemory m n
  in_record a n h = go (at m.heap a) refl h
    where
      go : (o : Option HeapValue) → at m.heap a ≡ o → Name (references (record_in o)) n → InMemory m n
      go (Some (Record v)) e h = inr (a, Record v, e, h)
      go None e h = none n h
      go (Some (Elements vs)) e h = none n h
      go (Some (Cell v r)) e h = none n h
      go (Some Channel) e h = none n h
      go (Some (Instance vs)) e h = none n h

  -- ---- reads

  abbrev pub FromMemory : Value → Type 0
  FromMemory v = (n : ℕ) → Name (references v) n → InMemory m n

  root_from : (r : Root) (vs : List Value) → OnOk FromMemory (root_value m r vs)
  root_from (Local x) vs = λ n h. inl (in_get m.variables x n h)
  root_from (Global x) vs = λ n h. in_globals n (in_get (globals_of m) x n h)
  root_from Element vs =
      behind _ FromMemory (element_of (part_of (operand 0 vs)) (number_of (operand 1 vs))) _
      (any (element_of (part_of (operand 0 vs)) (number_of (operand 1 vs))))
      (λ e u n h. in_elements e.0 n (in_get (elements_in (at m.heap e.0)) e.1 n h))
  root_from Target vs =
      behind _ FromMemory (target_of (name_of (operand 0 vs))) _ (any (target_of (name_of (operand 0 vs)))) (λ a u n h. in_record a n h)

  part_from : (p : Place) (v : Value) → FromMemory v → OnOk FromMemory (part_read p v)
  part_from p v f = go p.way.character
    where
      go : (b : Bool) → OnOk FromMemory (if b then character_at (text_of v) (index_of p) else Ok v)
      go true = behind _ FromMemory (with_text (character_in (text_of v) (index_of p))) _
          (any (with_text (character_in (text_of v) (index_of p)))) (λ c u n h. none n h)
      go false = f

  pub read_from : (p : Place) → OnOk FromMemory (read m p)
  read_from p =
      behind FromMemory FromMemory (root_value m p.way.root p.operands) _ (root_from p.way.root p.operands)
      (λ v f. part_from p (part_at p.way.parts v) (λ n h. f n (in_part p.way.parts v n h)))

  pub elements_from : (p : Option Part) (n : ℕ) → Name (references_in (elements_of m p)) n → InMemory m n
  elements_from None n h = none n h
  elements_from (Some p) n h = in_elements p.array n (in_range (elements_in (at m.heap p.array)) p.start (p.start + p.long) n h)

  -- ---- what a step leaves in the memory

  -- what the memory has behind a step that it hadn't before is among these words
  abbrev pub KeepsTo : List (Option ℕ) → Memory → Type 0
  KeepsTo rs m' = (n : ℕ) → InMemory m' n → InMemory m n ⊎ Name rs n

  pub keeps_same : (rs : List (Option ℕ)) → KeepsTo rs m
  keeps_same rs n h = inl h

  pub keeps_made : (rs : List (Option ℕ)) (v : HeapValue) → ((n : ℕ) → 0 < inside v n → InMemory m n ⊎ Name rs n) → KeepsTo rs (made m v)
  keeps_made rs v k n (inl h) = inl (inl h)
  keeps_made rs v k n (inr (a, u, e, h)) = elim (cases_eq a (length m.heap)) [
    | inl same ↦ k n (subst (λ u. 0 < inside u n) (value_is (sym e ∙ at_last m.heap (Some v) a same)) h)
    | inr other ↦ inl (inr (a, u, sym (at_more m.heap (Some v) a other) ∙ e, h))
  ]
    where
      value_is : Some u ≡ Some v → u ≡ v
      value_is e = cc

  keeps_variables : (rs : List (Option ℕ)) (vs : List Value) → ((n : ℕ) → Name (references_in vs) n → InMemory m n ⊎ Name rs n)
      → KeepsTo rs (with_variables m vs)
  keeps_variables rs vs k n (inl h) = k n h
  keeps_variables rs vs k n (inr h) = inl (inr h)

  set_here : (h : Heap HeapValue) (a : ℕ) (o : Option HeapValue) (u : HeapValue) → at (slice_set h a o) a ≡ Some u → o ≡ Some u
  set_here [] a o u e = absurd cc
  set_here (p ∷ os) zero o u e = e
  set_here (p ∷ os) (suc a) o u e = set_here os a o u e

  keeps_changed : (rs : List (Option ℕ)) (a : ℕ) (v : HeapValue) → ((n : ℕ) → 0 < inside v n → InMemory m n ⊎ Name rs n)
      → KeepsTo rs (with_heap m (changed m.heap a v))
  keeps_changed rs a v k n (inl h) = inl (inl h)
  keeps_changed rs a v k n (inr (b, u, e, h)) = go (at m.heap a) e
    where
      go : (o : Option HeapValue) → at (changed_to m.heap a o v) b ≡ Some u → InMemory m n ⊎ Name rs n
      go None e = inl (inr (b, u, e, h))
      go (Some x) e = elim (cases_eq b a) [
        | inl same ↦
            let here : Some v ≡ Some u = set_here m.heap a (Some v) u (subst (λ b. at (slice_set m.heap a (Some v)) b ≡ Some u) same e) in
            let is : v ≡ u = cc in
            k n (subst (λ u. 0 < inside u n) (sym is) h)
        | inr other ↦ inl (inr (b, u, sym (set_apart m.heap a (Some v) b other) ∙ e, h))
      ]

  -- ---- writes

  -- a value whose names are in the memory or among these words
  abbrev pub FromBoth : List (Option ℕ) → Value → Type 0
  FromBoth rs v = (n : ℕ) → Name (references v) n → InMemory m n ⊎ Name rs n

  set_from : (rs : List (Option ℕ)) (vs : List Value) (x : ℕ) (v : Value) → FromBoth rs v
      → ((n : ℕ) → Name (references_in vs) n → InMemory m n)
      → (n : ℕ) → Name (references_in (slice_set vs x v)) n → InMemory m n ⊎ Name rs n
  set_from rs vs x v f g n h = elim (either (references v) (references_in vs) n (in_set vs x v n h)) [ inl y ↦ f n y | inr y ↦ inl (g n y) ]

  put_keeps : (rs : List (Option ℕ)) (r : Root) (vs : List Value) (v : Value) → FromBoth rs v → OnOk (KeepsTo rs) (root_put m r vs v)
  put_keeps rs (Local x) vs v f = keeps_variables rs (slice_set m.variables x v) (set_from rs m.variables x v f (λ n h. inl h))
  put_keeps rs (Global x) vs v f =
      keeps_changed rs m.instance (Instance (slice_set (globals_of m) x v)) (set_from rs (globals_of m) x v f in_globals)
  put_keeps rs Element vs v f =
      behind _ (KeepsTo rs) (element_of (part_of (operand 0 vs)) (number_of (operand 1 vs))) _
      (any (element_of (part_of (operand 0 vs)) (number_of (operand 1 vs))))
      (λ e u. keeps_changed rs e.0 (Elements (slice_set (elements_in (at m.heap e.0)) e.1 v))
      (set_from rs (elements_in (at m.heap e.0)) e.1 v f (in_elements e.0)))
  put_keeps rs Target vs v f =
      behind _ (KeepsTo rs) (target_of (name_of (operand 0 vs))) _ (any (target_of (name_of (operand 0 vs))))
      (λ a u. keeps_changed rs a (Record v) f)

  module _ (defs : List Def) where
    abbrev Within : Value → Value → Type 0
    Within v u = Sub (references u) (references v)

    character_from : (v : Value) (s : List ℕ) (i c : ℤ) → OnOk (Within v) (with_character s i c)
    character_from v s i c =
        behind _ (Within v) (with_text (index_in (length s + 1) i)) _ (any (with_text (index_in (length s + 1) i)))
        (λ k u. behind _ (Within v) (not_longer (put_character s k (character c))) _ (any (not_longer (put_character s k (character c))))
        (λ t x n h. none n h))

    new_from : (p : Place) (old v : Value) → OnOk (Within v) (new_part defs m p old v)
    new_from p old v = go p.way.character
      where
        go : (b : Bool) → OnOk (Within v) (if b then with_character (text_of old) (index_of p) (number_of v) else Ok (fitted defs p.type v))
        go true = character_from v (text_of old) (index_of p) (number_of v)
        go false = in_fitted defs p.type v

    stored_from : (p : Place) (old v : Value) → FromMemory old → OnOk (FromBoth (references v)) (stored_at defs m p old v)
    stored_from p old v f =
        behind _ (FromBoth (references v)) (new_part defs m p (part_at p.way.parts old) v) _ (new_from p (part_at p.way.parts old) v)
        (λ u sub n h. elim (in_with_part p.way.parts u old n h) [ inl y ↦ inr (sub n y) | inr y ↦ inl (f n y) ])

    pub written_keeps : (p : Place) (v : Value) → OnOk (KeepsTo (references v)) (written defs m p v)
    written_keeps p v =
        behind FromMemory (KeepsTo (references v)) (root_value m p.way.root p.operands) _ (root_from p.way.root p.operands)
        (λ old f. behind (FromBoth (references v)) (KeepsTo (references v)) (stored_at defs m p old v) _ (stored_from p old v f)
        (λ new g. put_keeps (references v) p.way.root p.operands new g))

  pub copied_keeps : (a b : Option Part) (i : ℤ) → OnOk (KeepsTo []) (copied m a i (elements_of m b))
  copied_keeps None b (pos i) =
      behind _ (KeepsTo []) (with_text (bounds_in 0 (pos i) (pos (i + length (elements_of m b))))) _
      (any (with_text (bounds_in 0 (pos i) (pos (i + length (elements_of m b)))))) (λ x u. keeps_same [])
  copied_keeps (Some p) b (pos i) =
      behind _ (KeepsTo []) (with_text (bounds_in p.long (pos i) (pos (i + length (elements_of m b))))) _
      (any (with_text (bounds_in p.long (pos i) (pos (i + length (elements_of m b))))))
      (λ x u. keeps_changed [] p.array _ (λ n h. elim (in_overwritten (elements_in (at m.heap p.array)) (p.start + x.0)
      (elements_of m b) n h) [
        | inl y ↦ inl (in_elements p.array n y)
        | inr y ↦ inl (elements_from b n y)
      ]))
  copied_keeps a b (negsuc i) = tt

  -- ---- operations

  abbrev pub Known : List (Option ℕ) → ℕ → Type 0
  Known rs n = Name rs n ⊎ (InMemory m n ⊎ (length m.heap ≤ n))

  pub record OutcomeSo (o : Operation) (vs : List Value) (r : Outcome) : Type 0 where
    pub value : (n : ℕ) → Name (references r.value) n → Known (references_in vs) n
    pub memory : KeepsTo (references_in vs) r.memory
    pub passing : passes_on o ≡ true → Sub (references r.value) (references_in vs)

  not_passing : {A : Type 0} (o : Operation) → passes_on o ≡ false → passes_on o ≡ true → A
  not_passing o e f = let z : false ≡ true = sym e ∙ f in absurd cc

  module _ (o : Operation) (vs : List Value) where
    -- a value that is there; one that names nothing; one that passes on
    so_value : (v : Value) → passes_on o ≡ false → ((n : ℕ) → Name (references v) n → Known (references_in vs) n)
        → OutcomeSo o vs (record { memory = m; value = v })
    so_value v e f = record { value = f; memory = keeps_same _; passing = λ g. not_passing o e g }

    so_plain : (v : Value) → passes_on o ≡ false → ((n : ℕ) → Name (references v) n → ⊥) → OutcomeSo o vs (record { memory = m; value = v })
    so_plain v e f = so_value v e (λ n h. absurd (f n h))

    so_passed : (v : Value) → Sub (references v) (references_in vs) → OutcomeSo o vs (record { memory = m; value = v })
    so_passed v f = record { value = λ n h. inl (f n h); memory = keeps_same _; passing = λ g. f }

    so_number : (r : Raising ℤ) → passes_on o ≡ false → OnOk (OutcomeSo o vs) (r >>= λ z. Ok (record { memory = m; value = Num z }))
    so_number r e = behind _ (OutcomeSo o vs) r _ (any r) (λ z u. so_plain (Num z) e (λ n h. none n h))

    so_string : (r : Raising (List ℕ)) → passes_on o ≡ false
        → OnOk (OutcomeSo o vs) (r >>= λ t. Ok (record { memory = m; value = Chars t }))
    so_string r e = behind _ (OutcomeSo o vs) r _ (any r) (λ z u. so_plain (Chars z) e (λ n h. none n h))

    -- a new name
    pub is_new : (n : ℕ) → Name (Some (next_name m) ∷ []) n → length m.heap ≤ n
    is_new n h = let z = is_one n (length m.heap) h in omega (arith, z)

    so_new : (v : HeapValue) (u : Value) → passes_on o ≡ false → ((n : ℕ) → 0 < inside v n → InMemory m n ⊎ Name (references_in vs) n)
        → references u ≡ Some (next_name m) ∷ [] → OutcomeSo o vs (record { memory = made m v; value = u })
    so_new v u e f is = record {
      value = λ n h. inr (inr (is_new n (subst (λ rs. Name rs n) is h)));
      memory = keeps_made (references_in vs) v f;
      passing = λ g. not_passing o e g;
    }

    -- what is in what a reference names
    so_inner : (inner : Option HeapValue → Value) → passes_on o ≡ false
        → ((a n : ℕ) → Name (references (inner (at m.heap a))) n → InMemory m n)
        → OnOk (OutcomeSo o vs) (target_of (name_of (operand 0 vs)) >>= λ a. Ok (record { memory = m; value = inner (at m.heap a) }))
    so_inner inner e f =
        behind _ (OutcomeSo o vs) (target_of (name_of (operand 0 vs))) _ (any (target_of (name_of (operand 0 vs))))
        (λ a u. so_value (inner (at m.heap a)) e (λ n h. inr (inl (f a n h))))

  bytes_plain : (s : List ℕ) (n : ℕ) → Name (references_in (bytes_of s)) n → ⊥
  bytes_plain s n h = plain (encode_utf8_all s) h
    where
      plain : (bs : List ℕ) → Name (references_in (map (λ b. Num (pos b)) bs)) n → ⊥
      plain [] h = none n h
      plain (b ∷ bs) h = plain bs h

  -- the names of a row of operands, and of one
  pub in_operand : (k : ℕ) (vs : List Value) → Sub (references (operand k vs)) (references_in vs)
  in_operand k vs = in_get vs k

  module _ (defs : List Def) (t : Ty) (vs : List Value) where
    abbrev text : List ℕ
    text = text_of (operand 0 vs)

    abbrev part : Option Part
    part = part_of (operand 0 vs)

    abbrev whole_number : ℕ → ℤ
    whole_number k = number_of (operand k vs)

    -- a part of a part names the same array
    sliced_names : (o : Operation) → passes_on o ≡ false → (b : ℕ × ℕ)
        → OutcomeSo o vs (record { memory = m; value = Array (sliced part b) })
    sliced_names o e b = so_value o vs (Array (sliced part b)) e
        (λ n h. inl (in_operand 0 vs n (in_the_array (operand 0 vs) n (go part n h))))
      where
        go : (p : Option Part) (n : ℕ) → Name (array_named (sliced p b) ∷ []) n → Name (array_named p ∷ []) n
        go None n h = h
        go (Some p) n h = h

    slice_so : (o : Operation) → passes_on o ≡ false → (q : Sequence) (f g : Bool) → OnOk (OutcomeSo o vs) (slice_of defs m q f g vs)
    slice_so o e sequence.Chars f g = so_string o vs (with_text (slice_in text (from_bound f vs) (to_bound f g (length text) vs))) e
    slice_so o e sequence.Array f g =
        behind _ (OutcomeSo o vs) (with_text (bounds_in (long_of part) (from_bound f vs) (to_bound f g (long_of part) vs))) _
        (any (with_text (bounds_in (long_of part) (from_bound f vs) (to_bound f g (long_of part) vs)))) (λ b u. sliced_names o e b)
    slice_so o e sequence.List f g =
        behind _ (OutcomeSo o vs) (with_text (bounds_in (long_of part) (from_bound f vs) (to_bound f g (long_of part) vs))) _
        (any (with_text (bounds_in (long_of part) (from_bound f vs) (to_bound f g (long_of part) vs)))) (λ b u. sliced_names o e b)

    pub array_so : (o : Operation) → passes_on o ≡ false → (u : Ty) (k : ℤ) → OnOk (OutcomeSo o vs) (new_array defs m u k)
    array_so o e u k =
        behind _ (OutcomeSo o vs) (length_for defs u k) _ (any (length_for defs u k))
        (λ l x. so_new o vs (Elements (replicate l (zero_of defs u))) _ e
        (λ n h. zero_names defs u n (in_copies l (zero_of defs u) n h)) refl)

    pub result_so : (o : Operation) → OnOk (OutcomeSo o vs) (result_of defs m t o vs)
    result_so (operation.Arithmetic o k) = so_number _ vs (with_text (applied k o (whole_number 0) (whole_number 1))) refl
    result_so (operation.Shift h k) = so_plain _ vs _ refl none
    result_so (operation.Alter u k) = so_plain _ vs _ refl none
    result_so (operation.Compare c k) = so_plain _ vs _ refl none
    result_so (operation.CompareChars c) = so_plain _ vs _ refl none
    result_so operation.Identical = so_plain _ vs _ refl none
    result_so operation.Distinct = so_plain _ vs _ refl none
    result_so operation.Not = so_plain _ vs _ refl none
    result_so (operation.Convert from to) = so_plain _ vs _ refl none
    result_so (operation.ReadNumber k) = so_plain _ vs _ refl none
    result_so (operation.NumberText k) = so_plain _ vs _ refl none
    result_so operation.BytesText = so_string _ vs (not_longer (string_of (elements_of m part))) refl
    result_so operation.TextBytes = so_new _ vs (Elements (bytes_of text)) _ refl (λ n h. absurd (bytes_plain text n h)) refl
    result_so operation.Join = so_string _ vs (with_text (joined text (text_of (operand 1 vs)))) refl
    result_so operation.Cons =
        so_new _ vs (Cell (fitted defs (item_of t) (operand 0 vs)) (name_of (operand 1 vs))) _ refl
        (λ n h. elim (of_cell (fitted defs (item_of t) (operand 0 vs)) (name_of (operand 1 vs)) n h) [
          | inl y ↦ inr (in_operand 0 vs n (in_fitted defs (item_of t) (operand 0 vs) n y))
          | inr y ↦ inr (in_operand 1 vs n (in_the_name (operand 1 vs) n y))
        ]) refl
    result_so operation.Head = so_inner _ vs head_in refl in_head
    result_so operation.Tail = so_inner _ vs (λ h. Ref (tail_in h)) refl in_tail
    result_so (operation.Length q) = so_plain _ vs _ refl none
    result_so operation.Tag = so_inner _ vs (λ h. first_in (parts_of (record_in h))) refl
        (λ a n h. in_record a n (in_the_parts (record_in (at m.heap a)) n (in_value_part 0 (parts_of (record_in (at m.heap a))) n h)))
    result_so operation.Ref =
        so_new _ vs (Record (fitted defs (item_of t) (operand 0 vs))) _ refl
        (λ n h. inr (in_operand 0 vs n (in_fitted defs (item_of t) (operand 0 vs) n h))) refl
    result_so operation.Tuple = so_passed _ vs (Parts (row vs)) (in_row vs)
    result_so (operation.Adt k v) =
        so_passed _ vs (Parts (row (adt_parts (slice_get defs k) v vs)))
        (λ n h. in_adt_parts (slice_get defs k) v vs n (in_row (adt_parts (slice_get defs k) v vs) n h))
    result_so operation.List = so_plain _ vs (Ref None) refl nil_names
    result_so operation.NewArray = array_so _ refl (item_of t) (whole_number 0)
    result_so (operation.Slice q f g) = slice_so _ refl q f g
    result_so operation.Character = so_number _ vs (with_text (character_in text (whole_number 1))) refl
