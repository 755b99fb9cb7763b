-- Arrays that initialisers fill stay apart, step by step of a tree.
use Rattle.std.proofs.Common.{◌≡◌, ℕ, ℤ, pos, ◌≤◌, Bool, true, false, List, [], ◌∷◌, length, replicate, Option, Some}
use Rattle.std.proofs.Common.{Ok, Err, ◌⊎◌, inl, inr, refl, sym, ap, subst, arith}
use Rattle.std.proofs.lemmas.List.{length-append}
use Rattle.inf_text.specs.Steps.{◌>>=◌}
use Rattle.limbo_types.specs.Types.{Ty}
use Rattle.limbo_layout.specs.Adts.{Def}
use Rattle.limbo_typed.specs.declared.operation.Operation.{Operation}
use Rattle.limbo_typed.specs.declared.operation.Given.{Given}
use Rattle.limbo_meaning.specs.Values.{Part, Value, number_of, part_of, references, references_in, zero_of, fitted}
use Rattle.limbo_meaning.specs.Memory.{Elements, Memory, made, next_name}
use Rattle.limbo_meaning.specs.Exceptions.{Raising}
use Rattle.limbo_meaning.specs.Places.{Place, operand, read, written, not_longer}
use Rattle.limbo_meaning.specs.Operations.{result_of, new_elements, length_for, copied, elements_of, item_of, decides}
use Rattle.limbo_meaning.specs.Operations.{truth_of}
use Rattle.limbo_meaning.specs.Formats.{formatted}
use Rattle.limbo_meaning.specs.Trees.{Pending, Work, Literal, Nil, Operate, Read, Assign, TakePart, Copy, Link, NewChannel, Call, Print}
use Rattle.limbo_meaning.specs.Trees.{Sprint}
use Rattle.limbo_meaning.specs.Trees.{Term, Evaluated, Awaiting, Missing, Node, Lazy, Deciding, Update, Change, Put, Linking}
use Rattle.limbo_meaning.specs.Trees.{Fill, Filling, Turning, Repeating, Terms, NoTerms, MoreTerms, Items, NoItems, MoreItems}
use Rattle.limbo_meaning.specs.Evaluation.{Progress, Finished, Stepped, Calls, Prints, Raises, Blocked, after, unless_raised, next}
use Rattle.limbo_meaning.specs.Evaluation.{next_all, others_of, fill_on, fill_made, element_at, put_rest, link_rest, pending_for}
use Rattle.limbo_meaning.specs.Evaluation.{assigned, writes, stores, links, performed, decided, fills, turns, reads_first, changes}
use Rattle.limbo_meaning.specs.Origins.{Name, term_references, terms_references, items_references}
use Rattle.limbo_meaning.specs.Owning.{IsFresh}
use Rattle.limbo_meaning.specs.Holding.{is_evaluated}
use Rattle.limbo_meaning.proofs.Names.{Sub, none, left, right, in_copies, zero_names}
use Rattle.limbo_meaning.proofs.Origins.{OnOk, KeepsTo, keeps_made, written_keeps}
use Rattle.limbo_meaning.proofs.TreeNames.{So, SoBy, tree_so}
use Rattle.limbo_meaning.proofs.Touching.{Leaves, touches}
use Rattle.limbo_meaning.proofs.Naming.{adds_touched}
use Rattle.limbo_meaning.proofs.Busy.{finished}
use Rattle.limbo_filling.specs.Filling.{AreFresh, ItemsAreFresh, Fills, SomeFills, IsApart, FillsApart, AllFillApart}
use Rattle.limbo_filling.specs.Laws.{IsBounded, FillsStayApart}
use Rattle.limbo_filling.proofs.Fillings.{fresh_fills, all_fresh_fill, fresh_apart, all_fresh_apart, are_apart, apart_elsewhere}
use Rattle.limbo_filling.proofs.Fillings.{all_apart_elsewhere}
use Rattle.limbo_filling.proofs.Answered.{fills_before, apart_answered}

-- ---- trees that fill nothing, wherever they stand

abbrev IsPlain : Term → Type 0
IsPlain (Evaluated v) = Unit {0}
IsPlain Awaiting = Unit {0}
IsPlain (Put ps v) = Unit {0}
IsPlain (Linking t vs r) = Unit {0}
IsPlain _ = ⊥

plain_apart : (m : Memory) (u : Term) → IsPlain u → FillsApart m u
plain_apart m (Evaluated v) p = tt
plain_apart m Awaiting p = tt
plain_apart m (Put ps v) p = tt
plain_apart m (Linking t vs r) p = tt
plain_apart m u p = absurd p

plain_fills : (u : Term) (n : ℕ) → IsPlain u → Fills u n → ⊥
plain_fills (Evaluated v) n p x = x
plain_fills Awaiting n p x = x
plain_fills (Put ps v) n p x = x
plain_fills (Linking t vs r) n p x = x
plain_fills u n p x = p

abbrev PlainBy : Progress Value Term → Type 0
PlainBy (Stepped m' got u) = IsPlain u
PlainBy (Calls a f args u) = IsPlain u
PlainBy (Prints text u) = IsPlain u
PlainBy _ = Unit {0}

plain_unless : {A : Type 0} (r : Raising A) (go : A → Progress Value Term) → ((x : A) → PlainBy (go x)) → PlainBy (unless_raised r go)
plain_unless (Ok x) go k = k x
plain_unless (Err text) go k = tt

plain_put : (ps : List Pending) (v : Value) → IsPlain (put_rest ps v)
plain_put [] v = tt
plain_put (p ∷ ps) v = tt

plain_link : (t : Ty) (vs : List Value) (r : Option ℕ) → IsPlain (link_rest t vs r)
plain_link t [] r = tt
plain_link t (v ∷ vs) r = tt

module _ (defs : List Def) (m : Memory) where
  plain_writes : (ps : List Pending) (v : Value) → PlainBy (writes defs m ps v)
  plain_writes [] v = tt
  plain_writes (p ∷ ps) v = plain_unless (written defs m p.place p.value) _ (λ m'. plain_put ps v)

  plain_links : (t : Ty) (vs : List Value) (r : Option ℕ) → PlainBy (links defs m t vs r)
  plain_links t [] r = tt
  plain_links t (v ∷ vs) r = plain_link t vs (Some (next_name m))

  plain_performed : (t : Ty) (o : Work) (vs : List Value) → PlainBy (performed defs m t o vs)
  plain_performed t (Literal c) vs = tt
  plain_performed t Nil vs = tt
  plain_performed t (Operate o) vs = plain_unless (result_of defs m t o vs) _ (λ r. tt)
  plain_performed t (Read w) vs = plain_unless (read m (record { type = t; way = w; operands = vs })) _ (λ r. tt)
  plain_performed t (Assign aims) vs = plain_writes (pending_for aims vs (assigned aims vs)) _
  plain_performed t (TakePart n) vs = tt
  plain_performed t Copy vs =
      plain_unless (copied m (part_of (operand 0 vs)) (number_of (operand 1 vs)) (elements_of m (part_of (operand 2 vs)))) _ (λ r. tt)
  plain_performed t Link vs = plain_links (item_of t) _ _
  plain_performed t NewChannel vs = tt
  plain_performed t (Call f) vs = tt
  plain_performed t (Print ps) vs = tt
  plain_performed t (Sprint ps) vs = plain_unless (not_longer (formatted ps vs)) _ (λ r. tt)

  plain_changes : (o : Operation) (g : Given) (p : Place) (vs : List Value) → PlainBy (changes defs m o g p vs)
  plain_changes o g p vs = plain_unless (result_of defs m p.type o vs) _ (λ r. tt)

-- ---- what a step of a part of a tree keeps

module _ (m : Memory) where
  -- a name that is apart from the part stays so
  record ComesTo (rs : List (Option ℕ)) (m' : Memory) (us : List (Option ℕ)) : Type 0 where
    longer : length m.heap ≤ length m'.heap
    apart : (n : ℕ) → IsApart m rs n → IsApart m' us n

  module _ {R T : Type 0} (done : R → Type 0) (comes : Memory → T → Type 0) (passed : ℕ → Type 0) where
    abbrev KeptBy : Progress R T → Type 0
    KeptBy (Finished r) = done r
    KeptBy (Stepped m' got u) = comes m' u
    KeptBy (Calls a f args u) = comes m u × ((n : ℕ) → Name (references_in args) n → passed n)
    KeptBy (Prints text u) = comes m u
    KeptBy _ = Unit {0}

  comes_on : (rs : List (Option ℕ)) (m' : Memory) (got us : List (Option ℕ)) → So m rs m' got us → length m.heap ≤ length m'.heap
      → ComesTo rs m' us
  comes_on rs m' got us s longer = record {
    longer = longer;
    apart = λ n g. record {
      taken = let z = g.taken in omega arith;
      unnamed = λ h. elim (s.in_memory n h) [ inl y ↦ g.unnamed y | inr y ↦ g.elsewhere y ];
      elsewhere = λ h. elim (s.in_tree n h) [
        | inl y ↦ g.elsewhere y
        | inr y ↦ elim (s.in_got n y) [
          | inl z ↦ g.elsewhere z
          | inr z ↦ elim z [ inl w ↦ g.unnamed w | inr w ↦ let z = g.taken in omega arith ]
        ]
      ];
    };
  }

  comes_still : (rs us : List (Option ℕ)) → Sub us rs → ComesTo rs m us
  comes_still rs us sub = record {
    longer = omega arith;
    apart = λ n g. record { taken = g.taken; unnamed = g.unnamed; elsewhere = λ h. g.elsewhere (sub n h) };
  }

  -- ---- what is filled, and apart, behind a step

  module _ {R T : Type 0} (good : Memory → T → Type 0) (filled : T → ℕ → Type 0) where
    abbrev ApartBy : (before : ℕ → Type 0) → Progress R T → Type 0
    ApartBy before (Stepped m' got u) = (IsBounded m → good m' u) × ((n : ℕ) → filled u n → before n ⊎ (length m.heap ≤ n))
    ApartBy before (Calls a f args u) = good m u × ((n : ℕ) → filled u n → Name (references_in args) n → ⊥)
    ApartBy before (Prints text u) = good m u
    ApartBy before _ = Unit {0}

  -- a part of a tree, around which these are filled
  apart_after : {R S T U : Type 0} (done : R → Type 0) (comes : Memory → T → Type 0) (passed : ℕ → Type 0) (good : Memory → T → Type 0)
      (filled : T → ℕ → Type 0) (good' : Memory → U → Type 0) (filled' : U → ℕ → Type 0) (before around before' : ℕ → Type 0)
      (pr : Progress R T) (go : R → Progress S U) (within : T → U) → KeptBy done comes passed pr → ApartBy good filled before pr
      → ((r : R) → done r → ApartBy good' filled' before' (go r))
      → ((m' : Memory) (u : T) → comes m' u → good m' u → good' m' (within u))
      → ((u : T) (n : ℕ) → filled' (within u) n → filled u n ⊎ around n) → ((n : ℕ) → before n → before' n)
      → ((n : ℕ) → around n → before' n)
      → ((n : ℕ) → around n → passed n → ⊥) → ApartBy good' filled' before' (after pr go within)
  apart_after done comes passed good filled good' filled' before around before' (Finished r) go within k h now keep parts sub more out =
      now r k
  apart_after done comes passed good filled good' filled' before around before' (Stepped m' got u) go within k h now keep parts sub more out
      = (
        (λ b. keep m' u k (h.0 b)),
        (λ n x. elim (parts u n x) [
          | inl y ↦ elim (h.1 n y) [ inl z ↦ inl (sub n z) | inr z ↦ inr z ]
          | inr y ↦ inl (more n y)
        ]),
      )
  apart_after done comes passed good filled good' filled' before around before' (Calls a f args u) go within k h now keep parts sub more out
      = (
        keep m u k.0 h.0,
        (λ n x y. elim (parts u n x) [ inl z ↦ h.1 n z y | inr z ↦ out n z (k.1 n y) ]),
      )
  apart_after done comes passed good filled good' filled' before around before' (Prints text u) go within k h now keep parts sub more out =
      keep m u k h
  apart_after done comes passed good filled good' filled' before around before' (Raises text) go within k h now keep parts sub more out = tt
  apart_after done comes passed good filled good' filled' before around before' Blocked go within k h now keep parts sub more out = tt

  abbrev TermBy : (before : ℕ → Type 0) → Progress Value Term → Type 0
  TermBy before pr = ApartBy FillsApart Fills before pr

  by_plain : (before : ℕ → Type 0) (pr : Progress Value Term) → PlainBy pr → TermBy before pr
  by_plain before (Finished v) p = tt
  by_plain before (Stepped m' got u) p = ((λ b. plain_apart m' u p), (λ n x. absurd (plain_fills u n p x)))
  by_plain before (Calls a f args u) p = (plain_apart m u p, (λ n x y. plain_fills u n p x))
  by_plain before (Prints text u) p = plain_apart m u p
  by_plain before (Raises text) p = tt
  by_plain before Blocked p = tt

  -- where no more is asked of the part
  by_any : {R T : Type 0} (pr : Progress R T) → KeptBy (λ r. Unit {0}) (λ m' u. Unit {0}) (λ n. Unit {0}) pr
  by_any (Finished r) = tt
  by_any (Stepped m' got u) = tt
  by_any (Calls a f args u) = (tt, (λ n x. tt))
  by_any (Prints text u) = tt
  by_any (Raises text) = tt
  by_any Blocked = tt

  module _ (defs : List Def) where
    abbrev value_in : Value → Progress Value Term → Value
    value_in u (Finished w) = w
    value_in u _ = u

    is_value : (t : Term) (v : Value) → next defs m t ≡ Finished v → t ≡ Evaluated v
    is_value t v e = go t e (finished defs m t v e)
      where
        go : (t : Term) → next defs m t ≡ Finished v → is_evaluated t ≡ true → t ≡ Evaluated v
        go (Evaluated u) e x = ap (λ pr. Evaluated (value_in u pr)) e
        go t e x = absurd cc

    abbrev TermKept : Term → Progress Value Term → Type 0
    TermKept t pr =
        KeptBy (λ v. t ≡ Evaluated v) (λ m' u. ComesTo (term_references t) m' (term_references u)) (Name (term_references t)) pr

    term_kept : (t : Term) → TermKept t (next defs m t)
    term_kept t = go (next defs m t) refl (tree_so defs m t) (touches m defs t)
      where
        go : (pr : Progress Value Term) → next defs m t ≡ pr → SoBy m references term_references (term_references t) pr
            → Leaves m defs pr
            → TermKept t pr
        go (Finished v) e s l = is_value t v e
        go (Stepped m' got u) e s l =
            comes_on (term_references t) m' got (term_references u) s (adds_touched m m' l).longer
        go (Calls a f args u) e s l = (comes_still (term_references t) (term_references u) s.1, s.0)
        go (Prints text u) e s l = comes_still (term_references t) (term_references u) s
        go (Raises text) e s l = tt
        go Blocked e s l = tt

    -- ---- initialisers

    fill_on_apart : (m' : Memory) (t : Ty) (p : Part) (is : Items) (ns : List ℕ) (rest : Terms) → IsApart m' [] p.array
        → ItemsAreFresh is → AreFresh rest → FillsApart m' (fill_on t p is ns rest)
    fill_on_apart m' t p NoItems ns NoTerms g f h = tt
    fill_on_apart m' t p NoItems ns (MoreTerms e es) g f h = (g, (λ n x. h n (left (term_references e) (terms_references es) n x)))
    fill_on_apart m' t p (MoreItems i e is) ns rest g f h =
        let here : IsFresh e = λ n x. f n (left (term_references e) (items_references is) n x) in (
          (
            record { taken = g.taken; unnamed = g.unnamed; elsewhere = λ x. here p.array x },
            fresh_apart m' e here,
            (λ n x. f n (right (term_references e) (items_references is) n x)),
          ),
          h,
        )

    fill_on_fills : (t : Ty) (p : Part) (is : Items) (ns : List ℕ) (rest : Terms) (n : ℕ) → ItemsAreFresh is
        → Fills (fill_on t p is ns rest) n → n ≡ p.array
    fill_on_fills t p NoItems ns NoTerms n f x = absurd x
    fill_on_fills t p NoItems ns (MoreTerms e es) n f x = x
    fill_on_fills t p (MoreItems i e is) ns rest n f (inl x) = x
    fill_on_fills t p (MoreItems i e is) ns rest n f (inr x) =
        absurd (fresh_fills e n (λ k h. f k (left (term_references e) (items_references is) k h)) x)

    -- behind the store of an element the array is still apart
    by_stored : (r : Raising Memory) (u w : Term) (v : Value) (a : ℕ) (before : ℕ → Type 0) → OnOk (KeepsTo m (references v)) r
        → Leaves m defs (unless_raised r (λ m'. Stepped m' [] w)) → IsApart m (references v) a
        → ((m' : Memory) → IsApart m' [] a → FillsApart m' u)
        → ((n : ℕ) → Fills u n → before n)
        → TermBy before (unless_raised r (λ m'. Stepped m' [] u))
    by_stored (Ok m') u w v a before keep l g good sub = (
      (λ b. good m' (record {
        taken = let y = g.taken in let z = (adds_touched m m' l).longer in omega arith;
        unnamed = λ h. elim (keep a h) [ inl y ↦ g.unnamed y | inr y ↦ g.elsewhere y ];
        elsewhere = λ h. none a h;
      })),
      (λ n x. inl (sub n x)),
    )
    by_stored (Err text) u w v a before keep l g good sub = tt

    by_stores : (t : Ty) (p : Part) (i : ℤ) (v : Value) (u : Term) (before : ℕ → Type 0) → IsApart m (references v) p.array
        → ((m' : Memory) → IsApart m' [] p.array → FillsApart m' u)
        → ((n : ℕ) → Fills u n → before n)
        → TermBy before (stores defs m (element_at t p i) v u)
    by_stores t p i v u before g good sub =
        by_stored (written defs m (element_at t p i) v) u (fill_on t p NoItems [] NoTerms) v p.array before
        (written_keeps m defs (element_at t p i) v) (touches m defs (Filling t p (MoreItems i (Evaluated v) NoItems) [] NoTerms)) g good sub

    -- a new array
    new_apart : (l : ℕ) (t : Ty) → IsBounded m → IsApart (made m (Elements (replicate l (zero_of defs t)))) [] (length m.heap)
    new_apart l t bounded =
        let zeros = replicate l (zero_of defs t) in
        record {
          taken = let z = length-append m.heap (Some (Elements zeros) ∷ []) in omega arith;
          unnamed = λ h. elim (keeps_made m [] (Elements zeros)
              (λ n x. zero_names defs t n (in_copies l (zero_of defs t) n x)) (length m.heap) h) [
                | inl y ↦ let z = bounded (length m.heap) y in omega arith
                | inr y ↦ none (length m.heap) y
              ];
          elsewhere = λ h. none (length m.heap) h;
        }

    by_fills : (t : Ty) (is : Items) (rest : Terms) (v : Value) (before : ℕ → Type 0) → ItemsAreFresh is → AreFresh rest
        → TermBy before (fills defs m t is rest v)
    by_fills t is rest v before f g = go (length_for defs t (number_of v))
      where
        go : (q : Raising ℕ) → TermBy before (unless_raised (q >>= λ l. Ok (new_elements m (replicate l (zero_of defs t))))
            (λ r. Stepped r.memory (references r.value) (fill_made t (part_of r.value) is rest)))
        go (Ok l) =
            let zeros = replicate l (zero_of defs t) in
            let p : Part = record { array = length m.heap; start = 0; long = length zeros } in (
              (λ b. fill_on_apart (made m (Elements zeros)) t p is (others_of is p.long) rest (new_apart l t b) f g),
              (λ n x. let z = fill_on_fills t p is (others_of is p.long) rest n f x in inr (omega (arith, z))),
            )
        go (Err text) = tt

    -- the element for the next index that is left, which isn't begun
    by_turns : (t : Ty) (p : Part) (ns : List ℕ) (e : Term) → FillsApart m (Turning t p ns e)
        → TermBy (Fills (Turning t p ns e)) (turns defs m t p ns e)
    by_turns t p [] e g = ((λ b. tt), (λ n x. absurd x))
    by_turns t p (i ∷ ns) e g = (
      (λ b. (
        record { taken = g.0.taken; unnamed = g.0.unnamed; elsewhere = λ x. g.1 p.array x },
        fresh_apart m e g.1,
        g.1,
      )),
      (λ n x. elim x [ inl y ↦ inl y | inr y ↦ absurd (fresh_fills e n g.1 y) ]),
    )

    by_decided : (c : Bool) (v : Value) (r : Term) (before : ℕ → Type 0) → IsFresh r → TermBy before (decided defs m c v r)
    by_decided true v r before f = ((λ b. tt), (λ n x. absurd x))
    by_decided false v r before f = ((λ b. fresh_apart m r f), (λ n x. absurd (fresh_fills r n f x)))

    by_reads : (o : Operation) (g : Given) (p : Place) (us : Terms) (before : ℕ → Type 0) → AreFresh us
        → TermBy before (reads_first defs m o g p us)
    by_reads o g p us before f = go (read m p)
      where
        go : (r : Raising Value) → TermBy before (unless_raised r
            (λ v. Stepped m (references (fitted defs p.type v)) (Change o g p (MoreTerms (Evaluated (fitted defs p.type v)) us))))
        go (Ok v) = (
          (λ b. inl ((fitted defs p.type v, refl), all_fresh_apart m us f)),
          (λ n x. elim x [ inl y ↦ absurd y | inr y ↦ absurd (all_fresh_fill us n f y) ]),
        )
        go (Err text) = tt

    -- ---- a step of a tree

    abbrev AllBy : (before : ℕ → Type 0) → Progress (List Value) Terms → Type 0
    AllBy before pr = ApartBy AllFillApart SomeFills before pr

    -- among operands: only the operands are filled
    among : {S U : Type 0} (good' : Memory → U → Type 0) (filled' : U → ℕ → Type 0) (before before' : ℕ → Type 0)
        (pr : Progress (List Value) Terms) (go : List Value → Progress S U) (within : Terms → U) → AllBy before pr
        → ((vs : List Value) → ApartBy good' filled' before' (go vs))
        → ((m' : Memory) (us : Terms) → AllFillApart m' us → good' m' (within us))
        → ((us : Terms) (n : ℕ) → filled' (within us) n → SomeFills us n) → ((n : ℕ) → before n → before' n)
        → ApartBy good' filled' before' (after pr go within)
    among good' filled' before before' pr go within h now keep parts sub =
        apart_after (λ r. Unit {0}) (λ m' u. Unit {0}) (λ n. Unit {0}) AllFillApart SomeFills good' filled' before (λ n. ⊥) before'
        pr go within (by_any pr) h (λ vs d. now vs) (λ m' us c x. keep m' us x) (λ us n x. inl (parts us n x)) sub (λ n x. absurd x)
        (λ n x y. x)

    behind_value : (v : Value) (ts : Terms) (before' : ℕ → Type 0) → AllBy (SomeFills ts) (next_all defs m ts)
        → ((n : ℕ) → SomeFills ts n → before' n)
        → AllBy before' (after (next_all defs m ts) (λ vs. Finished (v ∷ vs)) (MoreTerms (Evaluated v)))
    behind_value v ts before' h sub =
        among AllFillApart SomeFills (SomeFills ts) before' (next_all defs m ts) (λ vs. Finished (v ∷ vs)) (MoreTerms (Evaluated v)) h
        (λ vs. tt) (λ m' us x. inl ((v, refl), x)) (λ us n x. elim x [ inl y ↦ absurd y | inr y ↦ y ]) sub

    -- in a part: around it these are filled
    inside_of : {S U : Type 0} (good' : Memory → U → Type 0) (filled' : U → ℕ → Type 0) (around before' : ℕ → Type 0) (t : Term)
        (go : Value → Progress S U) (within : Term → U) → TermBy (Fills t) (next defs m t)
        → ((v : Value) → t ≡ Evaluated v → ApartBy good' filled' before' (go v))
        → ((m' : Memory) (u : Term) → ComesTo (term_references t) m' (term_references u) → FillsApart m' u → good' m' (within u))
        → ((u : Term) (n : ℕ) → filled' (within u) n → Fills u n ⊎ around n) → ((n : ℕ) → Fills t n → before' n)
        → ((n : ℕ) → around n → before' n)
        → ((n : ℕ) → around n → Name (term_references t) n → ⊥) → ApartBy good' filled' before' (after (next defs m t) go within)
    inside_of good' filled' around before' t go within h now keep parts sub more out =
        apart_after (λ v. t ≡ Evaluated v) (λ m' u. ComesTo (term_references t) m' (term_references u)) (Name (term_references t))
        FillsApart Fills good' filled' (Fills t) around before' (next defs m t) go within (term_kept t) h now keep parts sub more out

    -- a part around which nothing is filled
    alone_in : {S U : Type 0} (good' : Memory → U → Type 0) (filled' : U → ℕ → Type 0) (t : Term)
        (go : Value → Progress S U) (within : Term → U) → TermBy (Fills t) (next defs m t)
        → ((v : Value) → ApartBy good' filled' (Fills t) (go v))
        → ((m' : Memory) (u : Term) → FillsApart m' u → good' m' (within u))
        → ((u : Term) (n : ℕ) → filled' (within u) n → Fills u n) → ApartBy good' filled' (Fills t) (after (next defs m t) go within)
    alone_in good' filled' t go within h now keep parts =
        inside_of good' filled' (λ n. ⊥) (Fills t) t go within h (λ v e. now v) (λ m' u c x. keep m' u x) (λ u n x. inl (parts u n x))
        (λ n x. x)
        (λ n x. absurd x)
        (λ n x y. x)

    -- what is apart from an element in evaluation is apart from its value
    of_value : (t : Term) (v : Value) (a : ℕ) → t ≡ Evaluated v → IsApart m (term_references t) a → IsApart m (references v) a
    of_value t v a e g = subst (λ t. IsApart m (term_references t) a) e g

    mutual
      by_next : (t : Term) → FillsApart m t → TermBy (Fills t) (next defs m t)
      by_next (Evaluated v) g = tt
      by_next Awaiting g = tt
      by_next Missing g = tt
      by_next (Node t o ts) g =
          among FillsApart Fills (SomeFills ts) (SomeFills ts) (next_all defs m ts) (performed defs m t o) (Node t o) (by_all ts g)
          (λ vs. by_plain (SomeFills ts) (performed defs m t o vs) (plain_performed defs m t o vs)) (λ m' us x. x) (λ us n x. x) (λ n x. x)
      by_next (Lazy c l r) g =
          alone_in FillsApart Fills l (λ v. decided defs m (decides c v) v r) (λ l. Lazy c l r) (by_next l g.0)
          (λ v. by_decided (decides c v) v r (Fills l) g.1) (λ m' u x. (x, g.1)) (λ u n x. x)
      by_next (Deciding r) g =
          alone_in FillsApart Fills r (λ v. Stepped m [] (Evaluated (truth_of v))) Deciding (by_next r g)
          (λ v. ((λ b. tt), (λ n x. absurd x))) (λ m' u x. x) (λ u n x. x)
      by_next (Update o h t w ts us) g =
          among FillsApart Fills (SomeFills ts) (SomeFills ts) (next_all defs m ts)
          (λ vs. reads_first defs m o h (record { type = t; way = w; operands = vs }) us) (λ ts. Update o h t w ts us) (by_all ts g.0)
          (λ vs. by_reads o h (record { type = t; way = w; operands = vs }) us (SomeFills ts) g.1) (λ m' us x. (x, g.1)) (λ us n x. x)
          (λ n x. x)
      by_next (Change o h p ts) g =
          among FillsApart Fills (SomeFills ts) (SomeFills ts) (next_all defs m ts) (changes defs m o h p) (Change o h p) (by_all ts g)
          (λ vs. by_plain (SomeFills ts) (changes defs m o h p vs) (plain_changes defs m o h p vs)) (λ m' us x. x) (λ us n x. x) (λ n x. x)
      by_next (Put ps v) g = by_plain (λ n. ⊥) (writes defs m ps v) (plain_writes defs m ps v)
      by_next (Linking t vs r) g = by_plain (λ n. ⊥) (links defs m t vs r) (plain_links defs m t vs r)
      by_next (Fill t l is rest) g =
          alone_in FillsApart Fills l (fills defs m t is rest) (λ l. Fill t l is rest) (by_next l g.0)
          (λ v. by_fills t is rest v (Fills l) g.1 g.2) (λ m' u x. (x, g.1, g.2)) (λ u n x. x)
      by_next (Filling t p NoItems ns rest) g = ((λ b. tt), (λ n x. absurd x))
      by_next (Filling t p (MoreItems i e is) ns rest) g =
          let before : ℕ → Type 0 = λ n. (n ≡ p.array) ⊎ Fills e n in
          inside_of FillsApart Fills (λ n. n ≡ p.array) before e
          (λ v. stores defs m (element_at t p i) v (fill_on t p is ns rest)) (λ e. Filling t p (MoreItems i e is) ns rest)
          (by_next e g.0.1)
          (λ v is_there. by_stores t p i v (fill_on t p is ns rest) before (of_value e v p.array is_there g.0.0)
          (λ m' x. fill_on_apart m' t p is ns rest x g.0.2 g.1) (λ n x. inl (fill_on_fills t p is ns rest n g.0.2 x)))
          (λ m' u c x. ((c.apart p.array g.0.0, x, g.0.2), g.1)) (λ u n x. elim x [ inl y ↦ inr y | inr y ↦ inl y ]) (λ n x. inr x)
          (λ n x. inl x)
          (λ n x y. g.0.0.elsewhere (subst (Name (term_references e)) x y))
      by_next (Turning t p ns e) g = by_turns t p ns e g
      by_next (Repeating t p i ns e now) g =
          let before : ℕ → Type 0 = λ n. (n ≡ p.array) ⊎ Fills now n in
          inside_of FillsApart Fills (λ n. n ≡ p.array) before now
          (λ v. stores defs m (element_at t p (pos i)) v (Turning t p ns e)) (Repeating t p i ns e) (by_next now g.1)
          (λ v is_there. by_stores t p (pos i) v (Turning t p ns e) before (of_value now v p.array is_there g.0)
          (λ m' x. (x, g.2)) (λ n x. inl x))
          (λ m' u c x. (c.apart p.array g.0, x, g.2)) (λ u n x. elim x [ inl y ↦ inr y | inr y ↦ inl y ]) (λ n x. inr x)
          (λ n x. inl x)
          (λ n x y. g.0.elsewhere (subst (Name (term_references now)) x y))

      by_all : (ts : Terms) → AllFillApart m ts → AllBy (SomeFills ts) (next_all defs m ts)
      by_all NoTerms g = tt
      by_all (MoreTerms t ts) g = elim g [
        | inl h ↦
            subst (λ t. AllBy (SomeFills (MoreTerms t ts)) (next_all defs m (MoreTerms t ts))) (sym h.0.1)
            (behind_value h.0.0 ts (SomeFills (MoreTerms (Evaluated h.0.0) ts)) (by_all ts h.1) (λ n x. inr x))
        | inr h ↦
            inside_of AllFillApart SomeFills (SomeFills ts) (SomeFills (MoreTerms t ts)) t
            (λ v. after (next_all defs m ts) (λ vs. Finished (v ∷ vs)) (MoreTerms (Evaluated v))) (λ t. MoreTerms t ts) (by_next t h.0)
            (λ v e. behind_value v ts (SomeFills (MoreTerms t ts)) (by_all ts h.1) (λ n x. inr x))
            (λ m' u c x. inr (x, all_apart_elsewhere m m' c.longer ts (λ n y z. absurd (h.2 n y)) h.1, h.2)) (λ u n x. x) (λ n x. inl x)
            (λ n x. inr x)
            (λ n x y. h.2 n x)
      ]

pub fills_stay_apart : FillsStayApart
fills_stay_apart = record {
  fresh = fresh_apart;
  fills_none = fresh_fills;
  apart = are_apart;
  steps = λ defs m m' t u got b g e. (subst (ApartBy m FillsApart Fills (Fills t)) e (by_next m defs t g)).0 b;
  fills_more = λ defs m m' t u got n g e. (subst (ApartBy m FillsApart Fills (Fills t)) e (by_next m defs t g)).1 n;
  calls = λ defs m t u a f args g e. subst (ApartBy m FillsApart Fills (Fills t)) e (by_next m defs t g);
  prints = λ defs m t u text g e. subst (ApartBy m FillsApart Fills (Fills t)) e (by_next m defs t g);
  answers = λ m t v g f. apart_answered v m t g f;
  fills_as_before = λ t v n x. fills_before v t n x;
  elsewhere = λ m m' t longer f g. apart_elsewhere m m' longer t f g;
}
