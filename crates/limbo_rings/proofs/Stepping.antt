-- What one step of a well-typed tree does to the memory.
use Rattle.std.proofs.Common.{◌≡◌, ℕ, ℤ, pos, ◌≤◌, Bool, true, false, List, [], ◌∷◌, Option, None, Some, Ok, Err, inl, inr, refl, sym, ap}
use Rattle.std.proofs.Common.{subst, ◌∙◌, arith, length, reverse}
use Rattle.heap_model.specs.Heap.{at, graph}
use Rattle.heap_model.proofs.Heap.{at_last}
use Rattle.limbo_types.specs.Types as ty
use Rattle.limbo_types.specs.Types.{Ty}
use Rattle.limbo_typed.specs.declared.operation.Operation.TheVariants as operation
use Rattle.limbo_meaning.specs.Values.{Part, Value, nothing, number_of, part_of, fitted, references}
use Rattle.limbo_meaning.specs.Memory.{HeapValue, Cell, Channel, inside, Memory}
use Rattle.limbo_meaning.specs.Origins.{term_references}
use Rattle.limbo_meaning.proofs.Names.{Sub}
use Rattle.limbo_meaning.proofs.TreeNames.{SoBy, tree_so}
use Rattle.limbo_meaning.specs.Exceptions.{Raising}
use Rattle.limbo_meaning.specs.Places.{operand, read, written, not_longer}
use Rattle.limbo_meaning.specs.Operations.{Outcome, result_of, new_array, copied, elements_of, decides, item_of}
use Rattle.limbo_meaning.specs.Formats.{formatted}
use Rattle.limbo_meaning.specs.Trees.{Pending, Work, Literal, Nil, Operate, Read, Assign, TakePart, Copy, Link, NewChannel, Call, Print}
use Rattle.limbo_meaning.specs.Trees.{Sprint}
use Rattle.limbo_meaning.specs.Trees.{Term, Evaluated, Awaiting, Missing, Node, Lazy, Deciding, Update, Change, Put, Linking}
use Rattle.limbo_meaning.specs.Trees.{Fill, Filling, Turning, Repeating, Terms, NoTerms, MoreTerms, NoItems, MoreItems}
use Rattle.limbo_meaning.specs.Evaluation.{Progress, Finished, Stepped, Calls, Prints, Raises, Blocked, after, unless_raised, next}
use Rattle.limbo_meaning.specs.Evaluation.{next_all, performed, writes, stores, links, decided, turns, pending_for, assigned, element_at}
use Rattle.limbo_meaning.specs.Evaluation.{operands_for}
use Rattle.limbo_meaning.proofs.Touching.{Added, same_memory, one_more, TouchedIn, touched_result}
use Rattle.limbo_kept.specs.Values.{Standing, Cells, Channels, Store, Refers, Fits, AllFit, EachFits}
use Rattle.limbo_kept.specs.Stores.{Contains, MemoryIsOf}
use Rattle.limbo_kept.specs.Operating.{IsLeft}
use Rattle.limbo_kept.specs.Permitting.{Stores, NeverBack, MayStore}
use Rattle.limbo_kept.proofs.Operating.{Unless, left, new_array_left}
use Rattle.limbo_kept.specs.Trees.{Scope, TermIs, TermsAre, WorkIs, DeclaresFor, PendingAre}
use Rattle.limbo_kept.proofs.Fitted.{part_named}
use Rattle.limbo_kept.specs.Stepping.{Keeps}
use Rattle.limbo_kept.proofs.Evaluating.{trees_keep_types, operand_is, pendings, elements_are, declared_pending, none_for, array_room}
use Rattle.limbo_kept.proofs.Evaluating.{each_reverse, each_fits_item}
use Rattle.limbo_filling.specs.Filling.{IsApart, FillsApart, AllFillApart}
use Rattle.limbo_rings.specs.Rings.{HasNoRing}
use Rattle.limbo_rings.specs.Storing.{IsUnnamed}
use Rattle.limbo_rings.specs.Stepping.{Does, as_it_was, added, wrote, filled, copied_to, StepsDo, StepsMakeNoRing}
use Rattle.limbo_rings.proofs.Changing.{named_in, new_makes_no_ring}
use Rattle.limbo_rings.proofs.Writing.{writes_make_no_ring, copies_make_no_ring, fills_make_no_ring}

module _ (s : Scope) (store : Store) (m : Memory) (mem : MemoryIsOf s.adts s.globals store s.variables m) where
  abbrev Leaves : {R T : Type 0} → Progress R T → Type 0
  Leaves (Stepped m' got t) = Does s store m m'
  Leaves _ = Unit {0}

  -- what is finished is so
  abbrev EndsSo : {R T : Type 0} → (R → Type 0) → Progress R T → Type 0
  EndsSo done (Finished r) = done r
  EndsSo done _ = Unit {0}

  leaves_after : {R S T U : Type 0} (done : R → Type 0) (pr : Progress R T) (go : R → Progress S U) (within : T → U) → EndsSo done pr
      → Leaves pr → ((r : R) → done r → Leaves (go r)) → Leaves (after pr go within)
  leaves_after done (Finished r) go within e h k = k r e
  leaves_after done (Stepped m' got t) go within e h k = h
  leaves_after done (Calls a f vs t) go within e h k = tt
  leaves_after done (Prints text t) go within e h k = tt
  leaves_after done (Raises text) go within e h k = tt
  leaves_after done Blocked go within e h k = tt

  ends_after : {R S T U : Type 0} (done : R → Type 0) (done' : S → Type 0) (pr : Progress R T) (go : R → Progress S U) (within : T → U)
      → EndsSo done pr → ((r : R) → done r → EndsSo done' (go r)) → EndsSo done' (after pr go within)
  ends_after done done' (Finished r) go within e k = k r e
  ends_after done done' (Stepped m' got t) go within e k = tt
  ends_after done done' (Calls a f vs t) go within e k = tt
  ends_after done done' (Prints text t) go within e k = tt
  ends_after done done' (Raises text) go within e k = tt
  ends_after done done' Blocked go within e k = tt

  ends_of : {R T : Type 0} (done : R → Type 0) (is : Store → Option Ty → T → Type 0) (pr : Progress R T) → Keeps s store done is pr
      → EndsSo done pr
  ends_of done is (Finished r) h = h
  ends_of done is (Stepped m' got t) h = tt
  ends_of done is (Calls a f vs t) h = tt
  ends_of done is (Prints text t) h = tt
  ends_of done is (Raises text) h = tt
  ends_of done is Blocked h = tt

  abbrev One : Progress Value Term → Type 0
  One pr = Leaves pr

  of_raising : (r : Raising Memory) → ((m' : Memory) → r ≡ Ok m' → Does s store m m') → (got : List (Option ℕ)) (t : Term)
      → One (unless_raised r (λ m'. Stepped m' got t))
  of_raising (Ok m') k got t = k m' refl
  of_raising (Err text) k got t = tt

  -- a new value names what the store knew
  abbrev News : Memory → Type 0
  News m' =
      (n : ℕ) (u : HeapValue) → length store ≤ n → at m'.heap n ≡ Some u → (k : Standing) × Contains s.adts s.globals store k u

  of_added : (m' : Memory) → Added m m' → News m' → Does s store m m'
  of_added _ same_memory news = as_it_was
  of_added _ (one_more u) news =
      let c = news (length m.heap) u (let l = mem.heap.long in omega arith) (at_last m.heap (Some u) (length m.heap) refl) in
      added c.0 u c.1

  of_outcome : (u : Ty) (r : Raising Outcome) → TouchedIn m r → Unless (IsLeft s.adts s.globals store s.variables u) r
      → (got : Outcome → List (Option ℕ)) (t : Outcome → Term) → One (unless_raised r (λ o. Stepped o.memory (got o) (t o)))
  of_outcome u (Ok r) h is got t = of_added r.memory h is.news
  of_outcome u (Err text) h is got t = tt

  of_same : {A : Type 0} (r : Raising A) (got : A → List (Option ℕ)) (t : A → Term) → One (unless_raised r (λ x. Stepped m (got x) (t x)))
  of_same (Ok x) got t = as_it_was
  of_same (Err text) got t = tt

  do_writes : (ps : List Pending) (v : Value) → PendingAre s store ps → One (writes s.adts m ps v)
  do_writes [] v h = as_it_was
  do_writes (p ∷ ps) v h = of_raising (written s.adts m p.place p.value) (λ m' e. wrote p.place h.0.0 h.0.1 p.value h.0.2 m' e) [] _

  unnamed : (words : List (Option ℕ)) (n : ℕ) → IsApart m words n → IsUnnamed m.heap n
  unnamed words n apart a l = let u = named_in m.heap a n l in apart.unnamed (inr (a, u.0, u.1, u.2))

  do_fills : (i : Ty) (p : Part) (z : ℤ) (words : List (Option ℕ)) (v : Value) (x : Term) → IsApart m words p.array
      → Sub (references v) words
      → One (stores s.adts m (element_at i p z) v x)
  do_fills i p z words v x apart sub =
      of_raising (written s.adts m (element_at i p z) v)
      (λ m' e. filled i p z v (unnamed words p.array apart) (λ h. apart.elsewhere (sub p.array h)) m' e) [] x

  do_links : (t : Ty) (vs : List Value) (r : Option ℕ) → EachFits s.adts store t vs → Refers store (Cells t) r → One (links s.adts m t vs r)
  do_links t [] r f a = as_it_was
  do_links t (v ∷ vs) r f a = added (Cells t) (Cell (fitted s.adts t v) r) (f.0, a)

  do_decided : (b : Bool) (v : Value) (r : Term) → One (decided s.adts m b v r)
  do_decided true v r = as_it_was
  do_decided false v r = as_it_was

  do_turns : (t : Ty) (p : Part) (ns : List ℕ) (e : Term) → One (turns s.adts m t p ns e)
  do_turns t p [] e = as_it_was
  do_turns t p (n ∷ ns) e = as_it_was

  do_performed : (u t : Ty) (o : Work) (us : List Ty) (vs : List Value) → AllFit s.adts store us vs → WorkIs s u o us t
      → One (performed s.adts m u o vs)
  do_performed u t (Literal c) us vs f w = as_it_was
  do_performed u t Nil us vs f w = as_it_was
  do_performed u t (Operate o) us vs f w =
      of_outcome u (result_of s.adts m u o vs) (touched_result m s.adts u o vs)
      (left s.adts s.globals store s.variables m mem u w.1 w.2 o us vs w.0 f) _ _
  do_performed u t (Read way) us vs f w = of_same (read m (record { type = u; way = way; operands = vs })) _ _
  do_performed u t (Assign aims) us vs f w =
      let g = operand_is s store us vs (operands_for aims) w.0 f w.1 in
      do_writes (pending_for aims vs (assigned aims vs)) (assigned aims vs) (pendings s store aims us vs w.0 (assigned aims vs) f w.3 w.2 g)
  do_performed u t (TakePart n) us vs f w = as_it_was
  do_performed u t Copy us vs f w =
      let a = part_named s.adts store w.0 (operand 0 vs) (operand_is s store us vs 0 (ty.ArrayOf w.0) f w.1) in
      let b = operand_is s store us vs 2 (ty.ArrayOf w.0) f w.2 in
      let ys = elements_of m (part_of (operand 2 vs)) in
      of_raising (copied m (part_of (operand 0 vs)) (number_of (operand 1 vs)) ys)
      (λ m' e. copied_to w.0 (part_of (operand 0 vs)) a w.3 (number_of (operand 1 vs)) ys
      (elements_are s store m mem w.0 (part_of (operand 2 vs)) (part_named s.adts store w.0 (operand 2 vs) b)) m' e) [] _
  do_performed u t Link us vs f w =
      subst (λ (x : Ty). One (links s.adts m x (reverse vs) None)) (sym (ap item_of w.1))
      (do_links w.0 (reverse vs) None (each_reverse s store w.0 vs (each_fits_item s store us vs w.0 w.3 f)) tt)
  do_performed u t NewChannel us vs f w = added (Channels w.0) Channel tt
  do_performed u t (Call g) us vs f w = tt
  do_performed u t (Print ps) us vs f w = tt
  do_performed u t (Sprint ps) us vs f w = of_same (not_longer (formatted ps vs)) _ _

  do_declares : (u t : Ty) (o : Work) (ts : Terms) → DeclaresFor s o ts t → One (next s.adts m (Node u o ts))
  do_declares u t (Assign aims) (MoreTerms (Evaluated v) NoTerms) d =
      let is : assigned aims (v ∷ []) ≡ nothing =
      ap (λ (k : ℕ). operand k (v ∷ [])) (none_for s store m mem aims d.1) ∙ d.0 in
      subst (λ (x : Value). One (writes s.adts m (pending_for aims (v ∷ []) x) x)) (sym is)
      (subst (λ (x : Value). One (writes s.adts m (pending_for aims (x ∷ []) nothing) nothing)) (sym d.0)
      (do_writes (pending_for aims (nothing ∷ []) nothing) nothing (declared_pending s store m mem aims d.1)))
  do_declares u t _ _ d = absurd d

  abbrev FitOne : Ty → Value → Type 0
  FitOne t v = Fits s.adts store t v

  abbrev FitAll : List Ty → List Value → Type 0
  FitAll ts vs = AllFit s.adts store ts vs

  ends : (e : Term) (t : Ty) → TermIs s store None e t → EndsSo (FitOne t) (next s.adts m e)
  ends e t h = ends_of (FitOne t) (λ later w x. TermIs s later w x t) (next s.adts m e) (trees_keep_types s store m mem e t h)

  all_end : (es : Terms) (ts : List Ty) → TermsAre s store None es ts → EndsSo (FitAll ts) (next_all s.adts m es)
  all_end NoTerms [] h = tt
  all_end NoTerms (t ∷ ts) h = absurd h
  all_end (MoreTerms e es) [] h = absurd h
  all_end (MoreTerms e es) (t ∷ ts) h =
      ends_after (FitOne t) (FitAll (t ∷ ts)) (next s.adts m e) _ _ (ends e t h.0)
      (λ v f. ends_after (FitAll ts) (FitAll (t ∷ ts)) (next_all s.adts m es) _ _ (all_end es ts h.1) (λ vs k. (f, k)))

  -- what is finished names what the tree named
  names_also : (rs : List (Option ℕ)) (done : Value → Type 0) (pr : Progress Value Term) → EndsSo done pr
      → SoBy m references term_references rs pr → EndsSo (λ v. done v × Sub (references v) rs) pr
  names_also rs done (Finished v) e h = (e, h)
  names_also rs done (Stepped m' got x) e h = tt
  names_also rs done (Calls a f vs x) e h = tt
  names_also rs done (Prints text x) e h = tt
  names_also rs done (Raises text) e h = tt
  names_also rs done Blocked e h = tt

  ends_named : (e : Term) (t : Ty) → TermIs s store None e t
      → EndsSo (λ v. FitOne t v × Sub (references v) (term_references e)) (next s.adts m e)
  ends_named e t h = names_also (term_references e) (FitOne t) (next s.adts m e) (ends e t h) (tree_so s.adts m e)

  first_apart : (e : Term) (es : Terms) → AllFillApart m (MoreTerms e es) → FillsApart m e × AllFillApart m es
  first_apart e es a = elim a [
    | inl v ↦ (subst (FillsApart m) (sym v.0.1) tt, v.1)
    | inr b ↦ (b.0, b.1)
  ]

  mutual
    does : (e : Term) (t : Ty) → TermIs s store None e t → FillsApart m e → One (next s.adts m e)
    does (Evaluated v) t h a = tt
    does Awaiting t h a = tt
    does Missing t h a = tt
    does (Node u o ts) t h a = elim h.2 [
      | inl k ↦ leaves_after (FitAll h.0) (next_all s.adts m ts) (performed s.adts m u o) (Node u o) (all_end ts h.0 h.1)
          (all_do ts h.0 h.1 a) (λ vs f. do_performed u t o h.0 vs f k)
      | inr d ↦ do_declares u t o ts d
    ]
    does (Lazy c l r) t h a =
        leaves_after (FitOne ty.Int) (next s.adts m l) _ _ (ends l ty.Int h.0) (does l ty.Int h.0 a.0) (λ v f. do_decided (decides c v) v r)
    does (Deciding r) t h a =
        leaves_after (FitOne ty.Int) (next s.adts m r) _ _ (ends r ty.Int h.0) (does r ty.Int h.0 a) (λ v f. as_it_was)
    does (Update o g p way ts us) t h a =
        leaves_after (FitAll h.0) (next_all s.adts m ts) _ _ (all_end ts h.0 h.2) (all_do ts h.0 h.2 a.0)
        (λ vs f. of_same (read m (record { type = p; way = way; operands = vs })) _ _)
    does (Change o g p ts) t h a =
        leaves_after (FitAll (p.type ∷ h.0)) (next_all s.adts m ts) _ _ (all_end ts (p.type ∷ h.0) h.1) (all_do ts (p.type ∷ h.0) h.1 a)
        (λ vs f. of_outcome p.type (result_of s.adts m p.type o vs) (touched_result m s.adts p.type o vs)
        (left s.adts s.globals store s.variables m mem p.type h.5 h.6 o (p.type ∷ h.0) vs h.4 f) _ _)
    does (Put ps v) t h a = do_writes ps v h.0
    does (Linking i vs r) t h a = do_links i vs r h.1 h.2
    does (Fill i l is rest) t h a =
        leaves_after (FitOne ty.Int) (next s.adts m l) _ _ (ends l ty.Int h.1) (does l ty.Int h.1 a.0)
        (λ v f. of_outcome (ty.ArrayOf i) (new_array s.adts m i (number_of v))
        (touched_result m s.adts (ty.ArrayOf i) operation.NewArray (v ∷ []))
        (new_array_left s.adts s.globals store s.variables m mem (ty.ArrayOf i) (array_room s i) h.0 i (number_of v) refl h.0) _ _)
    does (Filling i p NoItems ns rest) t h a = as_it_was
    does (Filling i p (MoreItems z e is) ns rest) t h a =
        leaves_after (λ v. FitOne i v × Sub (references v) (term_references e)) (next s.adts m e) _ _ (ends_named e i h.1.0)
        (does e i h.1.0 a.0.1) (λ v f. do_fills i p z (term_references e) v _ a.0.0 f.1)
    does (Turning i p ns e) t h a = do_turns i p ns e
    does (Repeating i p n ns e now) t h a =
        leaves_after (λ v. FitOne i v × Sub (references v) (term_references now)) (next s.adts m now) _ _ (ends_named now i h.2)
        (does now i h.2 a.1) (λ v f. do_fills i p (pos n) (term_references now) v _ a.0 f.1)

    all_do : (es : Terms) (ts : List Ty) → TermsAre s store None es ts → AllFillApart m es → Leaves (next_all s.adts m es)
    all_do NoTerms ts h a = tt
    all_do (MoreTerms e es) [] h a = absurd h
    all_do (MoreTerms e es) (t ∷ ts) h a =
        let b = first_apart e es a in
        leaves_after (FitOne t) (next s.adts m e) _ _ (ends e t h.0) (does e t h.0 b.0)
        (λ v f. leaves_after (FitAll ts) (next_all s.adts m es) _ _ (all_end es ts h.1) (all_do es ts h.1 b.1) (λ vs k. tt))

pub steps_do : StepsDo
steps_do s store m mem e t h a m' got x step =
    subst (λ (pr : Progress Value Term). Leaves s store m mem pr) step (does s store m mem e t h a)

-- ---- so no step makes a ring

pub steps_make_no_ring : StepsMakeNoRing
steps_make_no_ring s never store m mem e t h a m' got x step clean = go m' (steps_do s store m mem e t h a m' got x step)
  where
    may : (object part : Ty) → MayStore s.stores s.adts object part → MayStore NeverBack s.adts object part
    may object part k = subst (λ (r : Stores). MayStore r s.adts object part) never k

    go : (m' : Memory) → Does s store m m' → HasNoRing (graph inside m'.heap)
    go _ as_it_was = clean
    go _ (added k u c) = new_makes_no_ring s.adts s.globals store s.variables m mem k u c clean
    go _ (wrote p is k v f m' e) =
        writes_make_no_ring s.adts s.globals store s.variables m mem p is (λ object held. may object p.type (k object held)) v f m' e clean
    go _ (filled t part index v free other m' e) = fills_make_no_ring s.adts m t part index free v other m' e clean
    go _ (copied_to t array said k from vs are m' e) =
        copies_make_no_ring s.adts s.globals store s.variables m mem t array said (may (ty.ArrayOf t) t k) from vs are m' e clean
