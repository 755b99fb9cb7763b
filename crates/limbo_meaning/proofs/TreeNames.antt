-- Where the names come from that a step of a tree gets, keeps and writes.
use Rattle.std.proofs.Common.{◌≡◌, ℕ, ℤ, pos, ◌<◌, Bool, true, false, List, [], ◌∷◌, ◌++◌, reverse, take, drop, Option, None, Some, Ok}
use Rattle.std.proofs.Common.{Err, ◌⊎◌, inl, inr, refl, subst, arith}
use mathlib.Core.List.{reverse-cons}
use Rattle.std.specs.Prelude.{if◌then◌else◌}
use Rattle.limbo_layout.specs.Adts.{Def}
use Rattle.limbo_types.specs.Types.{Ty}
use Rattle.limbo_typed.specs.declared.operation.Operation.{Operation}
use Rattle.limbo_typed.specs.declared.operation.Operation.TheVariants as operation
use Rattle.limbo_typed.specs.declared.operation.Given.{Given}
use Rattle.limbo_typed.specs.declared.operation.Given.TheVariants as given
use Rattle.limbo_typed.specs.declared.stmt.Constant.{Constant}
use Rattle.limbo_typed.specs.declared.stmt.Constant.TheVariants as constant
use Rattle.limbo_meaning.specs.Values.{Part, Value, Chars, nothing, parts_of, part_of, number_of, fitted, references, references_in}
use Rattle.limbo_meaning.specs.Values.{array_named}
use Rattle.limbo_meaning.specs.Memory.{HeapValue, Cell, Channel, inside, Memory, made, next_name}
use Rattle.limbo_meaning.specs.Exceptions.{Raising}
use Rattle.limbo_meaning.specs.Places.{Place, operand, operands_of, part_at, read, written, not_longer}
use Rattle.limbo_meaning.specs.Operations.{Outcome, result_of, new_array, copied, elements_of, item_of, decides, truth_of, constant_value}
use Rattle.limbo_meaning.specs.Formats.{formatted}
use Rattle.limbo_meaning.specs.Trees.{Aim, Pending, Work, Literal, Nil, Operate, Read, Assign, TakePart, Copy, Link, NewChannel, Call}
use Rattle.limbo_meaning.specs.Trees.{Print, Sprint}
use Rattle.limbo_meaning.specs.Trees.{Term, Evaluated, Awaiting, Missing, Node, Lazy, Deciding, Update, Change, Put, Linking}
use Rattle.limbo_meaning.specs.Trees.{Fill, Filling, Turning, Repeating, Terms, NoTerms, MoreTerms, Items, NoItems, MoreItems}
use Rattle.limbo_meaning.specs.Evaluation.{Progress, Finished, Stepped, Calls, Prints, Raises, Blocked, after, unless_raised, next}
use Rattle.limbo_meaning.specs.Evaluation.{next_all}
use Rattle.limbo_meaning.specs.Evaluation.{passes_on, got_by, note, may_hold, pending_for, assigned, put_rest, link_rest, given_by}
use Rattle.limbo_meaning.specs.Evaluation.{others_of, fill_rest, fill_on, fill_made, element_at}
use Rattle.limbo_meaning.specs.Evaluation.{writes, stores, links, performed, decided, fills, turns, reads_first, changes}
use Rattle.limbo_meaning.specs.Origins.{Name, pending_references, term_references, terms_references, items_references, InMemory}
use Rattle.limbo_meaning.specs.Origins.{TreesNameSo}
use Rattle.limbo_meaning.proofs.Names.{Sub, none, nil_names, either, left, right, join, in_both, in_take, in_drop, in_fitted}
use Rattle.limbo_meaning.proofs.Names.{in_value_part, in_part, in_the_parts, in_the_array}
use Rattle.limbo_meaning.proofs.Origins.{OnOk, any, Known, KeepsTo, keeps_same, keeps_made, read_from, FromMemory, written_keeps}
use Rattle.limbo_meaning.proofs.Origins.{copied_keeps, OutcomeSo, result_so, array_so, is_new, in_operand, of_cell}

module _ (m : Memory) where
  -- a step from a tree with these words to one with those
  pub record So (rs : List (Option ℕ)) (m' : Memory) (got us : List (Option ℕ)) : Type 0 where
    pub in_got : (n : ℕ) → Name got n → Known m rs n
    pub in_tree : (n : ℕ) → Name us n → Name rs n ⊎ Name got n
    pub in_memory : KeepsTo m rs m'

  module _ {R T : Type 0} (value_words : R → List (Option ℕ)) (tree_words : T → List (Option ℕ)) where
    abbrev pub SoBy : List (Option ℕ) → Progress R T → Type 0
    SoBy rs (Finished r) = Sub (value_words r) rs
    SoBy rs (Stepped m' got u) = So rs m' got (tree_words u)
    SoBy rs (Calls a f vs u) = Sub (references_in vs) rs × Sub (tree_words u) rs
    SoBy rs (Prints text u) = Sub (tree_words u) rs
    SoBy rs _ = Unit {0}

  -- ---- parts of trees

  -- the words of the tree around a part are those of the part, and others that stay
  wider : (rs rs' : List (Option ℕ)) (m' : Memory) (got us us' : List (Option ℕ)) → Sub rs rs'
      → ((n : ℕ) → Name us' n → Name us n ⊎ Name rs' n) → So rs m' got us → So rs' m' got us'
  wider rs rs' m' got us us' sub into s = record {
    in_got = λ n h. elim (s.in_got n h) [ inl y ↦ inl (sub n y) | inr y ↦ inr y ];
    in_tree = λ n h. elim (into n h) [
      | inl y ↦ elim (s.in_tree n y) [ inl z ↦ inl (sub n z) | inr z ↦ inr z ]
      | inr y ↦ inl y
    ];
    in_memory = λ n h. elim (s.in_memory n h) [ inl y ↦ inl y | inr y ↦ inr (sub n y) ];
  }

  under : (us us' rs rs' : List (Option ℕ)) → Sub rs rs' → ((n : ℕ) → Name us' n → Name us n ⊎ Name rs' n) → Sub us rs → Sub us' rs'
  under us us' rs rs' sub into f n h = elim (into n h) [ inl y ↦ sub n (f n y) | inr y ↦ y ]

  so_after : {R S T U : Type 0} (vr : R → List (Option ℕ)) (tr : T → List (Option ℕ)) (vs : S → List (Option ℕ)) (tu : U → List (Option ℕ))
      (rs rs' : List (Option ℕ)) (pr : Progress R T) (go : R → Progress S U) (within : T → U) → SoBy vr tr rs pr → Sub rs rs'
      → ((r : R) → Sub (vr r) rs → SoBy vs tu rs' (go r)) → ((u : T) (n : ℕ) → Name (tu (within u)) n → Name (tr u) n ⊎ Name rs' n)
      → SoBy vs tu rs' (after pr go within)
  so_after vr tr vs tu rs rs' (Finished r) go within h sub k into = k r h
  so_after vr tr vs tu rs rs' (Stepped m' got u) go within h sub k into = wider rs rs' m' got (tr u) (tu (within u)) sub (into u) h
  so_after vr tr vs tu rs rs' (Calls a f args u) go within h sub k into =
      (λ n x. sub n (h.0 n x), under (tr u) (tu (within u)) rs rs' sub (into u) h.1)
  so_after vr tr vs tu rs rs' (Prints text u) go within h sub k into = under (tr u) (tu (within u)) rs rs' sub (into u) h
  so_after vr tr vs tu rs rs' (Raises text) go within h sub k into = tt
  so_after vr tr vs tu rs rs' Blocked go within h sub k into = tt

  abbrev TermSo : List (Option ℕ) → Progress Value Term → Type 0
  TermSo rs pr = SoBy references term_references rs pr

  -- ---- what steps come to

  -- the memory stays, and what is got is known; or nothing is got, and no more is in the tree
  so_got : (rs got us : List (Option ℕ)) → ((n : ℕ) → Name got n → Known m rs n) → ((n : ℕ) → Name us n → Name rs n ⊎ Name got n)
      → So rs m got us
  so_got rs got us f g = record { in_got = f; in_tree = g; in_memory = keeps_same m rs }

  so_same : (rs us : List (Option ℕ)) → Sub us rs → So rs m [] us
  so_same rs us f = so_got rs [] us (λ n h. none n h) (λ n h. inl (f n h))

  noted : (b : Bool) (n : ℕ) → Name (note b) n → ⊥
  noted true n h = nil_names n h
  noted false n h = none n h

  so_noted : (b : Bool) (rs us : List (Option ℕ)) → Sub us rs → So rs m (note b) us
  so_noted b rs us f = so_got rs (note b) us (λ n h. absurd (noted b n h)) (λ n h. inl (f n h))

  so_unless : {A : Type 0} (P : A → Type 0) (r : Raising A) (go : A → Progress Value Term) (rs : List (Option ℕ)) → OnOk P r
      → ((x : A) → P x → TermSo rs (go x)) → TermSo rs (unless_raised r go)
  so_unless P (Ok x) go rs p k = k x p
  so_unless P (Err text) go rs p k = tt

  -- behind a write of this value
  so_written : (defs : List Def) (p : Place) (v : Value) (t : Term) (rs : List (Option ℕ)) → Sub (references v) rs
      → Sub (term_references t) rs
      → TermSo rs (unless_raised (written defs m p v) (λ m'. Stepped m' [] t))
  so_written defs p v t rs f g =
      so_unless (KeepsTo m (references v)) (written defs m p v) (λ m'. Stepped m' [] t) rs (written_keeps m defs p v)
      (λ m' k. record {
        in_got = λ n h. none n h;
        in_tree = λ n h. inl (g n h);
        in_memory = λ n h. elim (k n h) [ inl y ↦ inl y | inr y ↦ inr (f n y) ];
      })

  in_put_rest : (ps : List Pending) (v : Value) (rs : List (Option ℕ)) → Sub (pending_references ps) rs → Sub (references v) rs
      → Sub (term_references (put_rest ps v)) rs
  in_put_rest [] v rs f g = g
  in_put_rest (p ∷ ps) v rs f g = join (pending_references (p ∷ ps)) (references v) rs f g

  pending_value : (p : Pending) (ps : List Pending) → Sub (references p.value) (pending_references (p ∷ ps))
  pending_value p ps n h =
      right (references_in p.place.operands) (references p.value ++ pending_references ps) n
      (left (references p.value) (pending_references ps) n h)

  pending_rest : (p : Pending) (ps : List Pending) → Sub (pending_references ps) (pending_references (p ∷ ps))
  pending_rest p ps n h =
      right (references_in p.place.operands) (references p.value ++ pending_references ps) n
      (right (references p.value) (pending_references ps) n h)

  so_writes : (defs : List Def) (ps : List Pending) (v : Value) (rs : List (Option ℕ)) → Sub (pending_references ps) rs
      → Sub (references v) rs
      → TermSo rs (writes defs m ps v)
  so_writes defs [] v rs f g = so_same rs (references v) g
  so_writes defs (p ∷ ps) v rs f g =
      so_written defs p.place p.value (put_rest ps v) rs (λ n h. f n (pending_value p ps n h))
      (in_put_rest ps v rs (λ n h. f n (pending_rest p ps n h)) g)

  in_pending_for : (aims : List Aim) (vs us : List Value) (v : Value) → Sub (references_in us) (references_in vs)
      → Sub (references v) (references_in vs) → Sub (pending_references (pending_for aims us v)) (references_in vs)
  in_pending_for [] vs us v f g = λ n h. none n h
  in_pending_for (a ∷ aims) vs us v f g =
      let k = operands_of a.way in
      join (references_in (take k us)) (references (part_at a.part v) ++ pending_references (pending_for aims (drop k us) v))
      (references_in vs)
      (λ n h. f n (in_take k us n h))
      (join (references (part_at a.part v)) (pending_references (pending_for aims (drop k us) v)) (references_in vs)
      (λ n h. g n (in_part a.part v n h))
      (in_pending_for aims vs (drop k us) v (λ n h. f n (in_drop k us n h)) g))

  -- a value that is new, and is all that is got and all that is left
  so_new : (rs us : List (Option ℕ)) (v : HeapValue) → ((n : ℕ) → 0 < inside v n → InMemory m n ⊎ Name rs n)
      → ((n : ℕ) → Name us n → Name rs n ⊎ Name (Some (next_name m) ∷ []) n) → So rs (made m v) (Some (next_name m) ∷ []) us
  so_new rs us v f g = record { in_got = λ n h. inr (inr (is_new m operation.Not [] n h)); in_tree = g; in_memory = keeps_made m rs v f }

  in_link_rest : (t : Ty) (vs : List Value) (r : Option ℕ) (n : ℕ) → Name (term_references (link_rest t vs r)) n
      → Name (references_in vs) n ⊎ Name (r ∷ []) n
  in_link_rest t [] r n h = inr h
  in_link_rest t (v ∷ vs) r n h = either (references_in (v ∷ vs)) (r ∷ []) n h

  so_links : (defs : List Def) (t : Ty) (vs : List Value) (r : Option ℕ) (rs : List (Option ℕ)) → Sub (references_in vs) rs
      → Sub (r ∷ []) rs
      → TermSo rs (links defs m t vs r)
  so_links defs t [] r rs f g = so_same rs (r ∷ []) g
  so_links defs t (v ∷ vs) r rs f g =
      so_new rs _ (Cell (fitted defs t v) r)
      (λ n h. elim (of_cell (fitted defs t v) r n h) [
        | inl y ↦ inr (f n (left (references v) (references_in vs) n (in_fitted defs t v n y)))
        | inr y ↦ inr (g n y)
      ])
      (λ n h. elim (in_link_rest t vs (Some (next_name m)) n h) [
        | inl y ↦ inl (f n (right (references v) (references_in vs) n y))
        | inr y ↦ inr y
      ])

  got_of : (o : Operation) (v : Value) (n : ℕ) → (P : Type 0) → Name (got_by o v) n → (passes_on o ≡ false → Name (references v) n → P) → P
  got_of o v n P h k = go (passes_on o) refl h
    where
      go : (b : Bool) → passes_on o ≡ b → Name (if b then [] else references v) n → P
      go true e h = none n h
      go false e h = k e h

  tree_of : (o : Operation) (v : Value) (n : ℕ) (P : Type 0) → (passes_on o ≡ true → P) → Name (references v) n → P ⊎ Name (got_by o v) n
  tree_of o v n P k h = go (passes_on o) refl
    where
      go : (b : Bool) → passes_on o ≡ b → P ⊎ Name (if b then [] else references v) n
      go true e = inl (k e)
      go false e = inr h

  so_outcome : (defs : List Def) (t : Ty) (o : Operation) (vs : List Value) (r : Outcome) → OutcomeSo m o vs r → (u : Term)
      → Sub (term_references u) (references (fitted defs t r.value) ++ references_in vs)
      → So (references_in vs) r.memory (got_by o (fitted defs t r.value)) (term_references u)
  so_outcome defs t o vs r k u sub = record {
    in_got = λ n h. got_of o (fitted defs t r.value) n (Known m (references_in vs) n) h (λ e y. k.value n (in_fitted defs t r.value n y));
    in_tree = λ n h. elim (either (references (fitted defs t r.value)) (references_in vs) n (sub n h)) [
      | inl y ↦ tree_of o (fitted defs t r.value) n (Name (references_in vs) n) (λ e. k.passing e n (in_fitted defs t r.value n y)) y
      | inr y ↦ inl y
    ];
    in_memory = k.memory;
  }

  in_reverse : (vs : List Value) → Sub (references_in (reverse vs)) (references_in vs)
  in_reverse [] n h = h
  in_reverse (v ∷ vs) n h = elim (in_both (reverse vs) (v ∷ []) n (subst (λ us. Name (references_in us) n) (reverse-cons v vs) h)) [
    | inl y ↦ right (references v) (references_in vs) n (in_reverse vs n y)
    | inr y ↦ elim (either (references v) [] n y) [ inl z ↦ left (references v) (references_in vs) n z | inr z ↦ none n z ]
  ]

  -- others in front of a part of a part, which becomes another
  swapped : (a x x' y z : List (Option ℕ)) (n : ℕ) → Name (a ++ ((x ++ y) ++ z)) n → Name x n ⊎ Name (a ++ ((x' ++ y) ++ z)) n
  swapped a x x' y z n h = elim (either a ((x ++ y) ++ z) n h) [
    | inl e ↦ inr (left a ((x' ++ y) ++ z) n e)
    | inr e ↦ elim (either (x ++ y) z n e) [
      | inl f ↦ elim (either x y n f) [
        | inl g ↦ inl g
        | inr g ↦ inr (right a ((x' ++ y) ++ z) n (left (x' ++ y) z n (right x' y n g)))
      ]
      | inr f ↦ inr (right a ((x' ++ y) ++ z) n (right (x' ++ y) z n f))
    ]
  ]

  so_wider : (rs rs' : List (Option ℕ)) (pr : Progress Value Term) → Sub rs rs' → TermSo rs pr → TermSo rs' pr
  so_wider rs rs' (Finished v) sub h = λ n x. sub n (h n x)
  so_wider rs rs' (Stepped m' got u) sub h = wider rs rs' m' got (term_references u) (term_references u) sub (λ n x. inl x) h
  so_wider rs rs' (Calls a f vs u) sub h = ((λ n x. sub n (h.0 n x)), (λ n x. sub n (h.1 n x)))
  so_wider rs rs' (Prints text u) sub h = λ n x. sub n (h n x)
  so_wider rs rs' (Raises text) sub h = tt
  so_wider rs rs' Blocked sub h = tt

  module _ (defs : List Def) where
    so_performed : (t : Ty) (o : Work) (vs : List Value) → TermSo (references_in vs) (performed defs m t o vs)
    so_performed t (Literal c) vs = so_same (references_in vs) _ (λ n h. plain c n (in_fitted defs t (constant_value c) n h))
      where
        plain : (c : Constant) → Sub (references (constant_value c)) (references_in vs)
        plain (constant.Number k) n h = none n h
        plain (constant.Chars s) n h = none n h
    so_performed t Nil vs = so_same (references_in vs) _ (λ n h. none n (in_fitted defs t nothing n h))
    so_performed t (Operate o) vs =
        so_unless (OutcomeSo m o vs) (result_of defs m t o vs) _ (references_in vs) (result_so m defs t vs o)
        (λ r k. so_outcome defs t o vs r k (Evaluated (fitted defs t r.value)) (left _ (references_in vs)))
    so_performed t (Read w) vs =
        so_unless (FromMemory m) (read m (record { type = t; way = w; operands = vs })) _ (references_in vs)
        (read_from m (record { type = t; way = w; operands = vs }))
        (λ v f. so_got (references_in vs) _ _ (λ n h. inr (inl (f n (in_fitted defs t v n h)))) (λ n h. inr h))
    so_performed t (Assign aims) vs =
        so_writes defs (pending_for aims vs (assigned aims vs)) (assigned aims vs) (references_in vs)
        (in_pending_for aims vs vs (assigned aims vs) (λ n h. h) (in_operand m _ vs))
        (in_operand m _ vs)
    so_performed t (TakePart k) vs =
        so_same (references_in vs) _
        (λ n h. in_operand m 0 vs n (in_the_parts (operand 0 vs) n (in_value_part k (parts_of (operand 0 vs)) n (in_fitted defs t _ n h))))
    so_performed t Copy vs =
        so_unless (KeepsTo m []) (copied m (part_of (operand 0 vs)) (number_of (operand 1 vs))
        (elements_of m (part_of (operand 2 vs)))) _ (references_in vs)
        (copied_keeps m (part_of (operand 0 vs)) (part_of (operand 2 vs)) (number_of (operand 1 vs)))
        (λ m' k. record {
          in_got = λ n h. none n h;
          in_tree = λ n h. inl (in_operand m 2 vs n h);
          in_memory = λ n h. elim (k n h) [ inl y ↦ inl y | inr y ↦ none n y ];
        })
    so_performed t Link vs = so_links defs (item_of t) (reverse vs) None (references_in vs) (in_reverse vs) (λ n h. nil_names n h)
    so_performed t NewChannel vs = so_new (references_in vs) _ Channel (λ n h. absurd (omega (arith, h))) (λ n h. inr h)
    so_performed t (Call f) vs = ((λ n h. h), (λ n h. none n h))
    so_performed t (Print ps) vs = λ n h. none n h
    so_performed t (Sprint ps) vs =
        so_unless (λ x. Unit {0}) (not_longer (formatted ps vs)) _ (references_in vs) (any (not_longer (formatted ps vs)))
        (λ text u. so_same (references_in vs) _ (λ n h. none n (in_fitted defs t (Chars text) n h)))

    so_decided : (b : Bool) (v : Value) (r : Term) (rs : List (Option ℕ)) → Sub (term_references r) rs → TermSo rs (decided defs m b v r)
    so_decided true v r rs f = so_noted (may_hold defs r) rs _ (λ n h. none n h)
    so_decided false v r rs f = so_noted (may_hold defs r) rs _ f

    so_turns : (t : Ty) (p : Part) (ns : List ℕ) (e : Term) → TermSo (Some p.array ∷ term_references e) (turns defs m t p ns e)
    so_turns t p [] e = so_noted (may_hold defs e) _ _ (left (Some p.array ∷ []) (term_references e))
    so_turns t p (i ∷ ns) e =
        so_noted (may_hold defs e) _ _
        (join (Some p.array ∷ term_references e) (term_references e) (Some p.array ∷ term_references e) (λ n h. h)
        (right (Some p.array ∷ []) (term_references e)))

    -- an element of a new array is stored
    so_stores : (t : Ty) (p : Part) (i : ℤ) (v : Value) (u : Term) (rs : List (Option ℕ)) → Sub (references v) rs
        → Sub (term_references u) rs
        → TermSo rs (stores defs m (element_at t p i) v u)
    so_stores t p i v u rs f g = so_written defs (element_at t p i) v u rs f g

    in_fill_rest : (t : Ty) (p : Part) (ns : List ℕ) (rest : Terms)
        → Sub (term_references (fill_rest t p ns rest)) (Some p.array ∷ terms_references rest)
    in_fill_rest t p ns NoTerms = λ n h. h
    in_fill_rest t p ns (MoreTerms e es) =
        join (Some p.array ∷ []) (term_references e) (Some p.array ∷ terms_references (MoreTerms e es))
        (left (Some p.array ∷ []) (terms_references (MoreTerms e es)))
        (λ n h. right (Some p.array ∷ []) (terms_references (MoreTerms e es)) n (left (term_references e) (terms_references es) n h))

    in_fill_on : (t : Ty) (p : Part) (is : Items) (ns : List ℕ) (rest : Terms)
        → Sub (term_references (fill_on t p is ns rest)) (Some p.array ∷ items_references is ++ terms_references rest)
    in_fill_on t p NoItems ns rest = in_fill_rest t p ns rest
    in_fill_on t p (MoreItems i e is) ns rest = λ n h. h

    in_fill_made : (t : Ty) (a : Option Part) (is : Items) (rest : Terms) (n : ℕ) → Name (term_references (fill_made t a is rest)) n
        → Name (items_references is ++ terms_references rest) n ⊎ Name (array_named a ∷ []) n
    in_fill_made t None is rest n h = none n h
    in_fill_made t (Some p) is rest n h =
        elim (either (Some p.array ∷ []) (items_references is ++ terms_references rest) n
        (in_fill_on t p is (others_of is p.long) rest n h)) [ inl y ↦ inr y | inr y ↦ inl y ]

    so_fills : (t : Ty) (is : Items) (rest : Terms) (v : Value) (rs : List (Option ℕ))
        → Sub (items_references is ++ terms_references rest) rs
        → TermSo rs (fills defs m t is rest v)
    so_fills t is rest v rs f =
        so_unless (OutcomeSo m operation.Not []) (new_array defs m t (number_of v)) _ rs
        (array_so m defs t [] operation.Not refl t (number_of v))
        (λ r k. record {
          in_got = λ n h. elim (k.value n h) [ inl y ↦ none n y | inr y ↦ inr y ];
          in_tree = λ n h. elim (in_fill_made t (part_of r.value) is rest n h)
              [ inl y ↦ inl (f n y) | inr y ↦ inr (in_the_array r.value n y) ];
          in_memory = λ n h. elim (k.memory n h) [ inl y ↦ inl y | inr y ↦ none n y ];
        })

    so_reads_first : (o : Operation) (g : Given) (p : Place) (us : Terms) (rs : List (Option ℕ)) → Sub (references_in p.operands) rs
        → Sub (terms_references us) rs
        → TermSo rs (reads_first defs m o g p us)
    so_reads_first o g p us rs f k =
        so_unless (FromMemory m) (read m p) _ rs (read_from m p)
        (λ v from. so_got rs _ _ (λ n h. inr (inl (from n (in_fitted defs p.type v n h))))
        (λ n h. elim (either (references_in p.operands) _ n h) [
          | inl y ↦ inl (f n y)
          | inr y ↦ elim (either (references (fitted defs p.type v)) (terms_references us) n y) [ inl z ↦ inr z | inr z ↦ inl (k n z) ]
        ]))

    in_given : (g : Given) (old new : Value) (n : ℕ) → Name (references (given_by g old new)) n
        → Name (references old) n ⊎ Name (references new) n
    in_given given.Old old new n h = inl h
    in_given given.New old new n h = inr h

    so_changed : (o : Operation) (g : Given) (p : Place) (vs : List Value) (r : Outcome) → OutcomeSo m o vs r
        → TermSo (references_in p.operands ++ references_in vs) (Stepped r.memory (got_by o (fitted defs p.type r.value))
        (Put (record { place = p; value = fitted defs p.type r.value } ∷ []) (given_by g (operand 0 vs) (fitted defs p.type r.value))))
    so_changed o g p vs r k =
        let v = fitted defs p.type r.value in
        let ops = references_in p.operands in
        let rs = ops ++ references_in vs in
        let sub : Sub (references_in vs) rs = right ops (references_in vs) in
        let mine : (n : ℕ) → Name (references v) n → Name rs n ⊎ Name (got_by o v) n =
        λ n y. tree_of o v n (Name rs n) (λ e. sub n (k.passing e n (in_fitted defs p.type r.value n y))) y in
        record {
          in_got = λ n h. got_of o v n (Known m rs n) h
              (λ e y. elim (k.value n (in_fitted defs p.type r.value n y)) [ inl z ↦ inl (sub n z) | inr z ↦ inr z ]);
          in_tree = λ n h. elim (either (ops ++ (references v ++ [])) (references (given_by g (operand 0 vs) v)) n h) [
            | inl y ↦ elim (either ops (references v ++ []) n y) [
              | inl z ↦ inl (left ops (references_in vs) n z)
              | inr z ↦ elim (either (references v) [] n z) [ inl x ↦ mine n x | inr x ↦ none n x ]
            ]
            | inr y ↦ elim (in_given g (operand 0 vs) v n y) [ inl z ↦ inl (sub n (in_operand m 0 vs n z)) | inr z ↦ mine n z ]
          ];
          in_memory = λ n h. elim (k.memory n h) [ inl y ↦ inl y | inr y ↦ inr (sub n y) ];
        }

    so_changes : (o : Operation) (g : Given) (p : Place) (vs : List Value)
        → TermSo (references_in p.operands ++ references_in vs) (changes defs m o g p vs)
    so_changes o g p vs =
        so_unless (OutcomeSo m o vs) (result_of defs m p.type o vs) _ (references_in p.operands ++ references_in vs)
        (result_so m defs p.type vs o)
        (so_changed o g p vs)

    mutual
      so_next : (t : Term) → TermSo (term_references t) (next defs m t)
      so_next (Evaluated v) = λ n h. h
      so_next Awaiting = tt
      so_next Missing = tt
      so_next (Node t o ts) =
          so_after (λ vs. references_in vs) terms_references references term_references (terms_references ts) (terms_references ts)
          (next_all defs m ts) (performed defs m t o) (Node t o) (so_all ts) (λ n h. h)
          (λ vs f. so_wider (references_in vs) (terms_references ts) (performed defs m t o vs) f (so_performed t o vs)) (λ u n h. inl h)
      so_next (Lazy c l r) =
          let rs = term_references l ++ term_references r in
          so_after references term_references references term_references (term_references l) rs
          (next defs m l) (λ v. decided defs m (decides c v) v r) (λ l. Lazy c l r) (so_next l)
          (left (term_references l) (term_references r))
          (λ v f. so_decided (decides c v) v r rs (right (term_references l) (term_references r)))
          (λ u n h. elim (either (term_references u) (term_references r) n h)
          [ inl y ↦ inl y | inr y ↦ inr (right (term_references l) (term_references r) n y) ])
      so_next (Deciding r) =
          so_after references term_references references term_references (term_references r) (term_references r)
          (next defs m r) (λ v. Stepped m [] (Evaluated (truth_of v))) Deciding (so_next r) (λ n h. h)
          (λ v f. so_same (term_references r) [] (λ n h. none n h)) (λ u n h. inl h)
      so_next (Update o g t w ts us) =
          let rs = terms_references ts ++ terms_references us in
          so_after (λ vs. references_in vs) terms_references references term_references (terms_references ts) rs
          (next_all defs m ts) (λ vs. reads_first defs m o g (record { type = t; way = w; operands = vs }) us) (λ ts. Update o g t w ts us)
          (so_all ts) (left (terms_references ts) (terms_references us))
          (λ vs f. so_reads_first o g (record { type = t; way = w; operands = vs }) us rs
          (λ n h. left (terms_references ts) (terms_references us) n (f n h)) (right (terms_references ts) (terms_references us)))
          (λ u n h. elim (either (terms_references u) (terms_references us) n h)
          [ inl y ↦ inl y | inr y ↦ inr (right (terms_references ts) (terms_references us) n y) ])
      so_next (Change o g p ts) =
          let rs = references_in p.operands ++ terms_references ts in
          so_after (λ vs. references_in vs) terms_references references term_references (terms_references ts) rs
          (next_all defs m ts) (changes defs m o g p) (Change o g p) (so_all ts) (right (references_in p.operands) (terms_references ts))
          (λ vs f. so_wider (references_in p.operands ++ references_in vs) rs (changes defs m o g p vs)
          (join (references_in p.operands) (references_in vs) rs (left (references_in p.operands) (terms_references ts))
          (λ n h. right (references_in p.operands) (terms_references ts) n (f n h))) (so_changes o g p vs))
          (λ u n h. elim (either (references_in p.operands) (terms_references u) n h)
          [ inl y ↦ inr (left (references_in p.operands) (terms_references ts) n y) | inr y ↦ inl y ])
      so_next (Put ps v) =
          so_writes defs ps v (pending_references ps ++ references v) (left (pending_references ps) (references v))
          (right (pending_references ps) (references v))
      so_next (Linking t vs r) = so_links defs t vs r (references_in vs ++ r ∷ []) (left (references_in vs) (r ∷ []))
          (right (references_in vs) (r ∷ []))
      so_next (Fill t l is rest) =
          let more = items_references is ++ terms_references rest in
          so_after references term_references references term_references (term_references l) (term_references l ++ more)
          (next defs m l) (fills defs m t is rest) (λ l. Fill t l is rest) (so_next l) (left (term_references l) more)
          (λ v f. so_fills t is rest v (term_references l ++ more) (right (term_references l) more))
          (λ u n h. elim (either (term_references u) more n h) [ inl y ↦ inl y | inr y ↦ inr (right (term_references l) more n y) ])
      so_next (Filling t p NoItems ns rest) = so_same (Some p.array ∷ terms_references rest) (Some p.array ∷ [])
          (left (Some p.array ∷ []) (terms_references rest))
      so_next (Filling t p (MoreItems i x is) ns rest) =
          let a = Some p.array ∷ [] in
          let items = items_references is in
          let ends = terms_references rest in
          let rs = Some p.array ∷ (term_references x ++ items) ++ ends in
          let part : Sub (term_references x) rs = λ n h. right a ((term_references x ++ items) ++ ends) n
          (left (term_references x ++ items) ends n (left (term_references x) items n h)) in
          so_after references term_references references term_references (term_references x) rs
          (next defs m x) (λ v. stores defs m (element_at t p i) v (fill_on t p is ns rest))
          (λ x. Filling t p (MoreItems i x is) ns rest) (so_next x) part
          (λ v f. so_stores t p i v (fill_on t p is ns rest) rs (λ n h. part n (f n h))
          (λ n h. join a (items ++ ends) rs (left a ((term_references x ++ items) ++ ends))
          (join items ends rs
          (λ n h. right a ((term_references x ++ items) ++ ends) n
          (left (term_references x ++ items) ends n (right (term_references x) items n h)))
          (λ n h. right a ((term_references x ++ items) ++ ends) n (right (term_references x ++ items) ends n h)))
          n (in_fill_on t p is ns rest n h)))
          (λ u n h. swapped a (term_references u) (term_references x) items ends n h)
      so_next (Turning t p ns e) = so_turns t p ns e
      so_next (Repeating t p i ns e now) =
          let a = Some p.array ∷ [] in
          let rs = Some p.array ∷ term_references e ++ term_references now in
          let part : Sub (term_references now) rs = λ n h. right a (term_references e ++ term_references now) n
          (right (term_references e) (term_references now) n h) in
          let turn : Sub (Some p.array ∷ term_references e) rs =
          join a (term_references e) rs (left a (term_references e ++ term_references now))
          (λ n h. right a (term_references e ++ term_references now) n (left (term_references e) (term_references now) n h)) in
          so_after references term_references references term_references (term_references now) rs
          (next defs m now) (λ v. stores defs m (element_at t p (pos i)) v (Turning t p ns e)) (Repeating t p i ns e) (so_next now) part
          (λ v f. so_stores t p (pos i) v (Turning t p ns e) rs (λ n h. part n (f n h)) turn)
          (λ u n h. elim (either (Some p.array ∷ term_references e) (term_references u) n h) [ inl y ↦ inr (turn n y) | inr y ↦ inl y ])

      so_all : (ts : Terms) → SoBy (λ vs. references_in vs) terms_references (terms_references ts) (next_all defs m ts)
      so_all NoTerms = λ n h. none n h
      so_all (MoreTerms t ts) =
          let rs = term_references t ++ terms_references ts in
          so_after references term_references (λ vs. references_in vs) terms_references (term_references t) rs
          (next defs m t) (λ v. after (next_all defs m ts) (λ vs. Finished (v ∷ vs)) (MoreTerms (Evaluated v))) (λ t. MoreTerms t ts)
          (so_next t) (left (term_references t) (terms_references ts))
          (λ v f. so_after (λ vs. references_in vs) terms_references (λ vs. references_in vs) terms_references (terms_references ts) rs
          (next_all defs m ts) (λ vs. Finished (v ∷ vs)) (MoreTerms (Evaluated v)) (so_all ts)
          (right (term_references t) (terms_references ts))
          (λ vs g. join (references v) (references_in vs) rs (λ n h. left (term_references t) (terms_references ts) n (f n h))
          (λ n h. right (term_references t) (terms_references ts) n (g n h)))
          (λ u n h. elim (either (references v) (terms_references u) n h)
          [ inl y ↦ inr (left (term_references t) (terms_references ts) n (f n y)) | inr y ↦ inl y ]))
          (λ u n h. elim (either (term_references u) (terms_references ts) n h)
          [ inl y ↦ inl y | inr y ↦ inr (right (term_references t) (terms_references ts) n y) ])

pub tree_so : (defs : List Def) (m : Memory) (t : Term) → SoBy m references term_references (term_references t) (next defs m t)
tree_so defs m t = so_next m defs t

pub trees_name_so : TreesNameSo
trees_name_so defs m m' t u got e =
    let s = subst (SoBy m references term_references (term_references t)) e (tree_so defs m t) in
    record { in_got = s.in_got; in_tree = s.in_tree; in_memory = s.in_memory }
