-- In every run each act of its history may come, and its meetings are those that the trace tells of.
use Rattle.std.proofs.Common.{◌≡◌, ℕ, zero, suc, ◌⊎◌, inl, inr, Bool, true, false, List, [], ◌∷◌, ◌++◌, Option, Some, None, refl, sym, ap, ◌∙◌, subst, ⊎_elim, append-nil, append_assoc}
use Rattle.std.specs.Prelude.{slice_get, nat_eq, if◌then◌else◌}
use Rattle.std.proofs.Math.ListN.{set}
use Rattle.std.proofs.lemmas.Bool.{cases_eq, eqb-true, eq-eqb}
use Rattle.process_model.specs.Process.{Branch, Doing, Ready, Waiting, Asking, Gone, Rules, Entry, Requested, Replied, Passed, Over, Released, Lost, both, differ, fits, told, both_wake, both_go, released}
use Rattle.process_model.specs.Naming.{Naming, total}
use Rattle.process_model.specs.Source.{Config, settled, Fitting, offering, meeting, Hears, goes_on, asks_again, is_over, Steps, goes, waits, meets, polls, passes, spawns, asks, ends, Run, still, next, Turn, Matched, begun, turn, down, reply, lost}
use Rattle.process_model.specs.Naming.{Still}
use Rattle.process_model.specs.Renaming.{Renaming, SameEntry, SameTrace, nothing, told_too, passed_over}
use Rattle.process_model.specs.Follows.{Sides, Follows}
use Rattle.process_model.specs.Law.{begins}
use Rattle.process_model.specs.Once.{Meeting, Act, Offers, Meets, Withdraws, Standing, nobody, with_offer, after_act, after_acts, MayCome, EachOnce, meetings, passed, meeting_of, acts_of_step, acts_of_run, acts_of, offer, TakenOnce, RunsTakeOnce, SameMeetings, JournalsTakeOnce}
use Rattle.process_model.proofs.Lists.{set_same, set_other, set_set}
use Rattle.process_model.proofs.Journals.{every_journal}

-- ---- histories

after_more : {D : Type 0} (o : Standing D) (xs ys : List (Act D)) → after_acts o (xs ++ ys) ≡ after_acts (after_acts o xs) ys
after_more o [] ys = refl
after_more o (x ∷ xs) ys = after_more (after_act o x) xs ys

once_more : {D : Type 0} (o : Standing D) (xs ys : List (Act D)) → EachOnce o xs → EachOnce (after_acts o xs) ys → EachOnce o (xs ++ ys)
once_more o [] ys h k = k
once_more o (x ∷ xs) ys h k = (h.0, once_more (after_act o x) xs ys h.1 k)

meetings_more : {D : Type 0} (xs ys : List (Act D)) → meetings (xs ++ ys) ≡ meetings xs ++ meetings ys
meetings_more [] ys = refl
meetings_more (Offers i bs ∷ xs) ys = meetings_more xs ys
meetings_more (Meets m ∷ xs) ys = ap (λ l. m ∷ l) (meetings_more xs ys)
meetings_more (Withdraws i ∷ xs) ys = meetings_more xs ys

passed_more : {D M A H : Type 0} (es fs : List (Entry D M A H)) → passed (es ++ fs) ≡ passed es ++ passed fs
passed_more [] fs = refl
passed_more (Requested i m ∷ es) fs = passed_more es fs
passed_more (Replied i a ∷ es) fs = passed_more es fs
passed_more (Passed c v i k j l ∷ es) fs = ap (λ ms. record { channel = c; value = v; sender = i; its_branch = k; receiver = j; branch = l } ∷ ms) (passed_more es fs)
passed_more (Over i how ∷ es) fs = passed_more es fs
passed_more (Released i ns ∷ es) fs = passed_more es fs
passed_more (Lost l ∷ es) fs = passed_more es fs

none_passed : (D M A H : Type 0) (i : ℕ) (ns : List ℕ) → ◌≡◌ {A = List (Meeting D)} (passed (released {D = D} {M = M} {A = A} {H = H} i ns)) []
none_passed D M A H i [] = refl
none_passed D M A H i (n ∷ ns) = refl

told_passed : (D M A H : Type 0) (i k : ℕ) (a : Branch D) (j l : ℕ) (b : Branch D) → passed (told {D = D} {M = M} {A = A} {H = H} i k a j l b ∷ []) ≡ meeting_of i k a j l b ∷ []
told_passed D M A H i k a j l b = go a.sends
  where
    passes_by : Bool → Entry D M A H
    passes_by s = if s then Passed a.channel a.value i k j l else Passed a.channel b.value j l i k

    go : (s : Bool) → passed (passes_by s ∷ [])
        ≡ (if s then record { channel = a.channel; value = a.value; sender = i; its_branch = k; receiver = j; branch = l } else record { channel = a.channel; value = b.value; sender = j; its_branch = l; receiver = i; branch = k }) ∷ []
    go true = refl
    go false = refl

-- ---- offers

offered_same : {D : Type 0} (o : Standing D) (i : ℕ) (x : Option (List (Branch D))) → with_offer o i x i ≡ x
offered_same o i x = let e : nat_eq i i ≡ true = eq-eqb i i refl in rw e

offered_other : {D : Type 0} (o : Standing D) (i j : ℕ) (x : Option (List (Branch D))) → (j ≡ i → ⊥) → with_offer o i x j ≡ o j
offered_other {D = D} o i j x ne = go (nat_eq i j) refl
  where
    go : (b : Bool) → nat_eq i j ≡ b → (if b then x else o j) ≡ o j
    go true e = absurd (ne (sym (eqb-true i j e)))
    go false e = refl

-- what is offered is what the waiting processes offer
abbrev Open : {P D : Type 0} → List (Doing P D) → Standing D → Type 0
Open ps o = (i : ℕ) → o i ≡ offer (slice_get ps i)

open_set : {P D : Type 0} (ps : List (Doing P D)) (o : Standing D) (i : ℕ) (x y : Doing P D) → Open ps o → slice_get ps i ≡ Some y → Open (set ps i x) (with_offer o i (offer (Some x)))
open_set ps o i x y h e j =
    ⊎_elim
    (λ (same : j ≡ i). subst (λ j. with_offer o i (offer (Some x)) j ≡ offer (slice_get (set ps i x) j)) (sym same) (offered_same o i (offer (Some x)) ∙ sym (ap (λ u. offer u) (set_same ps i x y e))))
    (λ (ne : j ≡ i → ⊥). offered_other o i j (offer (Some x)) ne ∙ h j ∙ ap (λ u. offer u) (sym (set_other ps i j x ne)))
    (cases_eq j i)

-- a process that offers nothing before and after
open_on : {P D : Type 0} (ps : List (Doing P D)) (o : Standing D) (i : ℕ) (x y : Doing P D) → Open ps o → slice_get ps i ≡ Some y → offer (Some y) ≡ offer (Some x) → Open (set ps i x) o
open_on ps o i x y h e s j =
    ⊎_elim
    (λ (same : j ≡ i). subst (λ j. o j ≡ offer (slice_get (set ps i x) j)) (sym same) (h i ∙ ap (λ u. offer u) e ∙ s ∙ sym (ap (λ u. offer u) (set_same ps i x y e))))
    (λ (ne : j ≡ i → ⊥). h j ∙ ap (λ u. offer u) (sym (set_other ps i j x ne)))
    (cases_eq j i)

open_more : {P D : Type 0} (ps : List (Doing P D)) (child : P) (j : ℕ) → offer (slice_get (ps ++ Ready child ∷ []) j) ≡ offer (slice_get ps j)
open_more [] child zero = refl
open_more [] child (suc j) = refl
open_more (p ∷ ps) child zero = refl
open_more (p ∷ ps) child (suc j) = open_more ps child j

-- the same offers end, whoever of the two sent
swapped : {D : Type 0} (o : Standing D) (i j n : ℕ) → with_offer (with_offer o i None) j None n ≡ with_offer (with_offer o j None) i None n
swapped {D = D} o i j n = go (nat_eq i n) (nat_eq j n)
  where
    go : (a b : Bool) → (if b then None else if a then None else o n) ≡ (if a then None else if b then None else o n)
    go true true = refl
    go true false = refl
    go false true = refl
    go false false = refl

-- ---- two branches that fit

record Fit {D : Type 0} (a b : Branch D) : Type 0 where
  channel : a.channel ≡ b.channel
  differ : (a.sends ≡ true) × (b.sends ≡ false) ⊎ (a.sends ≡ false) × (b.sends ≡ true)

fit_of : {D : Type 0} (a b : Branch D) → fits a b ≡ true → Fit a b
fit_of {D = D} a b e = go (nat_eq a.channel b.channel) refl e
  where
    sides : (x y : Bool) → a.sends ≡ x → b.sends ≡ y → differ x y ≡ true → (a.sends ≡ true) × (b.sends ≡ false) ⊎ (a.sends ≡ false) × (b.sends ≡ true)
    sides true true p q e = absurd cc
    sides true false p q e = inl (p, q)
    sides false true p q e = inr (p, q)
    sides false false p q e = absurd cc

    go : (t : Bool) → nat_eq a.channel b.channel ≡ t → both t (differ a.sends b.sends) ≡ true → Fit a b
    go true f e = record { channel = eqb-true a.channel b.channel f; differ = sides a.sends b.sends refl refl e }
    go false f e = absurd cc

branch_is : {D : Type 0} (b : Branch D) (c : ℕ) (s : Bool) → c ≡ b.channel → b.sends ≡ s → b ≡ record { channel = c; sends = s; value = b.value }
branch_is b c s e f = ap (λ x. record { channel = x; sends = b.sends; value = b.value }) (sym e) ∙ ap (λ x. record { channel = c; sends = x; value = b.value }) f

-- a meeting may come, and ends both offers
record Told {D : Type 0} (o : Standing D) (i k : ℕ) (a : Branch D) (j l : ℕ) (b : Branch D) : Type 0 where
  may : MayCome o (Meets (meeting_of i k a j l b))
  then_open : (n : ℕ) → after_act o (Meets (meeting_of i k a j l b)) n ≡ with_offer (with_offer o i None) j None n

meets_told : {D : Type 0} (o : Standing D) (i k : ℕ) (a : Branch D) (j l : ℕ) (b : Branch D) (own theirs : List (Branch D)) → o i ≡ Some own → slice_get own k ≡ Some a → o j ≡ Some theirs → slice_get theirs l ≡ Some b → fits a b ≡ true → (j ≡ i → ⊥) → Told o i k a j l b
meets_told {D = D} o i k a j l b own theirs oi ak oj bl fit ne =
    let f = fit_of a b fit in
    ⊎_elim
    (λ (d : (a.sends ≡ true) × (b.sends ≡ false)).
    let ea = branch_is a a.channel true refl d.0 in
    let eb = branch_is b a.channel false f.channel d.1 in
    let e : meeting_of i k a j l b ≡ record { channel = a.channel; value = a.value; sender = i; its_branch = k; receiver = j; branch = l } =
    ap (λ s. if s then record { channel = a.channel; value = a.value; sender = i; its_branch = k; receiver = j; branch = l } else record { channel = a.channel; value = b.value; sender = j; its_branch = l; receiver = i; branch = k }) d.0 in
    record {
      may = subst (λ m. MayCome o (Meets m)) (sym e) (record { table = own; standing = oi; branch = ak ∙ ap (λ x. Some x) ea }, record { table = theirs; unread = b.value; standing = oj; branch = bl ∙ ap (λ x. Some x) eb }, λ x. ne (sym x));
      then_open = λ n. ap (λ m. after_act o (Meets m) n) e;
    })
    (λ (d : (a.sends ≡ false) × (b.sends ≡ true)).
    let ea = branch_is a a.channel false refl d.0 in
    let eb = branch_is b a.channel true f.channel d.1 in
    let e : meeting_of i k a j l b ≡ record { channel = a.channel; value = b.value; sender = j; its_branch = l; receiver = i; branch = k } =
    ap (λ s. if s then record { channel = a.channel; value = a.value; sender = i; its_branch = k; receiver = j; branch = l } else record { channel = a.channel; value = b.value; sender = j; its_branch = l; receiver = i; branch = k }) d.0 in
    record {
      may = subst (λ m. MayCome o (Meets m)) (sym e) (record { table = theirs; standing = oj; branch = bl ∙ ap (λ x. Some x) eb }, record { table = own; unread = a.value; standing = oi; branch = ak ∙ ap (λ x. Some x) ea }, ne);
      then_open = λ n. ap (λ m. after_act o (Meets m) n) e ∙ swapped o j i n;
    })
    f.differ

module _ {W P D M A H : Type 0} (rules : Rules W P D M A H) (naming : Naming W P D) where
  -- a history that leads to a configuration
  pub record Good (acts : List (Act D)) (c : Config W P D M A H) : Type 0 where
    pub once : EachOnce nobody acts
    pub told : meetings acts ≡ passed c.trace
    pub offered : (i : ℕ) → after_acts nobody acts i ≡ offer (slice_get c.processes i)

  -- some acts more, and some told more
  good_more : (acts more : List (Act D)) (c : Config W P D M A H) (ps : List (Doing P D)) (w : W) (es : List (Entry D M A H)) → Good acts c
      → EachOnce (after_acts nobody acts) more → meetings more ≡ passed es → Open ps (after_acts (after_acts nobody acts) more)
      → Good (acts ++ more) (record { processes = ps; world = w; trace = c.trace ++ es })
  good_more acts more c ps w es g once told still_offered = record {
    once = once_more nobody acts more g.once once;
    told = meetings_more acts more ∙ (ap (λ l. l ++ meetings more) g.told ∙ (ap (λ l. passed c.trace ++ l) told ∙ sym (passed_more c.trace es)));
    offered = λ i. ap (λ o. o i) (after_more nobody acts more) ∙ still_offered i;
  }

  -- what goes from the heap is no meeting
  good_settled : (acts : List (Act D)) (i : ℕ) (ps : List (Doing P D)) (w : W) (trace : List (Entry D M A H)) → Good acts (record { processes = ps; world = w; trace = trace }) → Good acts (settled naming i ps w trace)
  good_settled acts i ps w trace g = record {
    once = g.once;
    told = g.told ∙ (sym (append-nil (passed trace)) ∙ (ap (λ l. passed trace ++ l) (sym (none_passed D M A H i (naming.gone (total naming ps) w))) ∙ sym (passed_more trace (released i (naming.gone (total naming ps) w)))));
    offered = g.offered;
  }

  -- a step that is no matter of offers
  good_on : (acts : List (Act D)) (c : Config W P D M A H) (i : ℕ) (ps : List (Doing P D)) (w : W) (es : List (Entry D M A H)) → Good acts c → passed es ≡ [] → Open ps (after_acts nobody acts) → Good acts (settled naming i ps w (c.trace ++ es))
  good_on acts c i ps w es g none still_offered =
      subst (λ acts. Good acts (settled naming i ps w (c.trace ++ es))) (append-nil acts)
      (good_settled (acts ++ []) i ps w (c.trace ++ es) (good_more acts [] c ps w es g tt (sym none) still_offered))

  -- process i offers
  good_offers : (acts : List (Act D)) (c : Config W P D M A H) (i : ℕ) (w : W) (bs : List (Branch D)) (p p' : P) → Good acts c → slice_get c.processes i ≡ Some (Ready p)
      → Good (acts ++ Offers i bs ∷ []) (record { processes = set c.processes i (Waiting bs p'); world = w; trace = c.trace ++ [] })
  good_offers acts c i w bs p p' g e =
      good_more acts (Offers i bs ∷ []) c (set c.processes i (Waiting bs p')) w [] g
      (g.offered i ∙ ap (λ u. offer u) e, tt) refl (open_set c.processes (after_acts nobody acts) i (Waiting bs p') (Ready p) g.offered e)

  good_meets : (acts : List (Act D)) (c : Config W P D M A H) (i k : ℕ) (a : Branch D) (p : P) (bs : List (Branch D)) (j l : ℕ) (b : Branch D) (q : P) → Good acts c
      → slice_get c.processes i ≡ Some (Waiting bs p) → slice_get bs k ≡ Some a → Fitting c i a j l b q
      → Good (acts ++ Meets (meeting_of i k a j l b) ∷ []) (meeting rules naming c i k a p j l b q)
  good_meets acts c i k a p bs j l b q g e h f =
      let o = after_acts nobody acts in
      let m = both_wake rules c.world k a p l b q in
      let t = meets_told o i k a j l b bs f.branches (g.offered i ∙ ap (λ u. offer u) e) h (g.offered j ∙ ap (λ u. offer u) f.waits) f.branch f.fit f.other in
      let k1 = open_set c.processes o i (Ready m.one) (Waiting bs p) g.offered e in
      let k2 = open_set (set c.processes i (Ready m.one)) (with_offer o i None) j (Ready m.other) (Waiting f.branches q) k1 (set_other c.processes i j (Ready m.one) f.other ∙ f.waits) in
      good_settled _ i (both_go m c.processes i j) m.world _
      (good_more acts (Meets (meeting_of i k a j l b) ∷ []) c (both_go m c.processes i j) m.world (told i k a j l b ∷ []) g (t.may, tt) (sym (told_passed D M A H i k a j l b)) (λ n. t.then_open n ∙ k2 n))

  same_trace : (acts : List (Act D)) (ps : List (Doing P D)) (w : W) (trace : List (Entry D M A H)) → Good acts (record { processes = ps; world = w; trace = trace ++ [] }) → Good acts (record { processes = ps; world = w; trace = trace })
  same_trace acts ps w trace g = subst (λ t. Good acts (record { processes = ps; world = w; trace = t })) (append-nil trace) g

  good_step : (acts : List (Act D)) (c e : Config W P D M A H) (i : ℕ) (step : Steps rules naming c i e) → Good acts c → Good (acts ++ acts_of_step step) e
  good_step acts c e i0 (goes i p w p' at does) g = plain acts c i p (Ready p') w g at refl
    where
      plain : (acts : List (Act D)) (c : Config W P D M A H) (i : ℕ) (p : P) (x : Doing P D) (w : W) → Good acts c → slice_get c.processes i ≡ Some (Ready p) → ◌≡◌ {A = Option (List (Branch D))} None (offer (Some x)) → Good (acts ++ []) (settled naming i (set c.processes i x) w c.trace)
      plain acts c i p x w g e s =
          subst (λ acts. Good acts (settled naming i (set c.processes i x) w c.trace)) (sym (append-nil acts))
          (subst (λ t. Good acts (settled naming i (set c.processes i x) w t)) (append-nil c.trace)
          (good_on acts c i (set c.processes i x) w [] g refl (open_on c.processes (after_acts nobody acts) i x (Ready p) g.offered e s)))
  good_step acts c e i0 (waits i p w bs p' at does) g =
      good_settled _ i (set c.processes i (Waiting bs p')) w c.trace
      (same_trace _ (set c.processes i (Waiting bs p')) w c.trace (good_offers acts c i w bs p p' g at))
  good_step acts c e i0 (meets i p bs k a j l b q at branch fit) g = good_meets acts c i k a p bs j l b q g at branch fit
  good_step acts c e i0 (polls i p w bs p' p'' k a j l b q at does branch fit) g =
      let g1 = same_trace _ (set c.processes i (Waiting bs p')) w c.trace (good_offers acts c i w bs p p' g at) in
      let g2 = good_meets (acts ++ Offers i bs ∷ []) (offering c i w bs p') i k a p' bs j l b q g1 (set_same c.processes i (Waiting bs p') (Ready p) at) branch fit in
      subst (λ acts. Good acts (meeting rules naming (offering c i w bs p') i k a p' j l b q)) (append_assoc acts (Offers i bs ∷ []) (Meets (meeting_of i k a j l b) ∷ [])) g2
  good_step acts c e i0 (passes i p w bs p' p'' at does none) g =
      let g1 = same_trace _ (set c.processes i (Waiting bs p')) w c.trace (good_offers acts c i w bs p p' g at) in
      let at1 = set_same c.processes i (Waiting bs p') (Ready p) at in
      let o1 = after_acts nobody (acts ++ Offers i bs ∷ []) in
      let k = open_set (set c.processes i (Waiting bs p')) o1 i (Ready p'') (Waiting bs p') g1.offered at1 in
      let g2 = good_more (acts ++ Offers i bs ∷ []) (Withdraws i ∷ []) (offering c i w bs p') (set (set c.processes i (Waiting bs p')) i (Ready p'')) w [] g1 ((bs, g1.offered i ∙ ap (λ u. offer u) at1), tt) refl k in
      let g3 = subst (λ ps. Good ((acts ++ Offers i bs ∷ []) ++ Withdraws i ∷ []) (record { processes = ps; world = w; trace = c.trace ++ [] })) (set_set c.processes i (Waiting bs p') (Ready p'')) g2 in
      subst (λ acts. Good acts (settled naming i (set c.processes i (Ready p'')) w c.trace)) (append_assoc acts (Offers i bs ∷ []) (Withdraws i ∷ []))
      (good_settled _ i (set c.processes i (Ready p'')) w c.trace (same_trace _ (set c.processes i (Ready p'')) w c.trace g3))
  good_step acts c e i0 (spawns i p w child p' at does) g =
      let k = open_on c.processes (after_acts nobody acts) i (Ready p') (Ready p) g.offered at refl in
      subst (λ acts. Good acts (settled naming i (set c.processes i (Ready p') ++ Ready child ∷ []) w c.trace)) (sym (append-nil acts))
      (subst (λ t. Good acts (settled naming i (set c.processes i (Ready p') ++ Ready child ∷ []) w t)) (append-nil c.trace)
      (good_on acts c i (set c.processes i (Ready p') ++ Ready child ∷ []) w [] g refl (λ j. k j ∙ sym (open_more (set c.processes i (Ready p')) child j))))
  good_step acts c e i0 (asks i p w m p' at does) g =
      subst (λ acts. Good acts (settled naming i (set c.processes i (Asking p')) w (c.trace ++ Requested i m ∷ []))) (sym (append-nil acts))
      (good_on acts c i (set c.processes i (Asking p')) w (Requested i m ∷ []) g refl (open_on c.processes (after_acts nobody acts) i (Asking p') (Ready p) g.offered at refl))
  good_step acts c e i0 (ends i p w how at does) g =
      subst (λ acts. Good acts (settled naming i (set c.processes i Gone) w (c.trace ++ Over i how ∷ []))) (sym (append-nil acts))
      (good_on acts c i (set c.processes i Gone) w (Over i how ∷ []) g refl (open_on c.processes (after_acts nobody acts) i Gone (Ready p) g.offered at refl))

  good_heard : (acts : List (Act D)) (c : Config W P D M A H) (i : ℕ) (a : A) (e : Config W P D M A H) → Hears rules naming c i a e → Good acts c → Good acts e
  good_heard acts c i a e (goes_on p w p' at does) g = good_on acts c i (set c.processes i (Ready p')) w (Replied i a ∷ []) g refl (open_on c.processes (after_acts nobody acts) i (Ready p') (Asking p) g.offered at refl)
  good_heard acts c i a e (asks_again p w m p' at does) g = good_on acts c i (set c.processes i (Asking p')) w (Replied i a ∷ Requested i m ∷ []) g refl (open_on c.processes (after_acts nobody acts) i (Asking p') (Asking p) g.offered at refl)
  good_heard acts c i a e (is_over p w how at does) g = good_on acts c i (set c.processes i Gone) w (Replied i a ∷ Over i how ∷ []) g refl (open_on c.processes (after_acts nobody acts) i Gone (Asking p) g.offered at refl)

  good_run : (acts : List (Act D)) (c : Config W P D M A H) (i : ℕ) (e : Config W P D M A H) (n : ℕ) (run : Run rules naming i c n e) → Good acts c → Good (acts ++ acts_of_run run) e
  good_run acts c i e n still g = subst (λ acts. Good acts e) (sym (append-nil acts)) g
  good_run acts c i e n (next {d = d} run step) g =
      subst (λ acts. Good acts e) (append_assoc acts (acts_of_run run) (acts_of_step step))
      (good_step (acts ++ acts_of_run run) d e i step (good_run acts c i d _ run g))

  good_lost : (acts : List (Act D)) (d : Config W P D M A H) (l : ℕ) (w : W) → Good acts d → Good acts (lost l d w)
  good_lost acts d l w g = record { once = g.once; told = g.told ∙ (sym (append-nil (passed d.trace)) ∙ sym (passed_more d.trace (Lost l ∷ []))); offered = g.offered }

  good_matched : (c e : Config W P D M A H) (turns : List Turn) (run : Matched rules naming c turns e) → Good [] c → Good (acts_of run) e
  good_matched c e turns begun g = g
  good_matched c e turns (turn {d = d} i n before run) g = good_run (acts_of before) d i e n run (good_matched c d _ before g)
  good_matched c e turns (down {d = d} l w before does) g = good_lost (acts_of before) d l w (good_matched c d _ before g)
  good_matched c e turns (reply {d = d} i a before heard) g = good_heard (acts_of before) d i a e heard (good_matched c d _ before g)

  good_begins : (w : W) (p : P) → Good [] (begins w p)
  good_begins w p = record { once = tt; told = refl; offered = none }
    where
      only : List (Doing P D)
      only = Ready p ∷ []

      none : (i : ℕ) → ◌≡◌ {A = Option (List (Branch D))} None (offer (slice_get only i))
      none zero = refl
      none (suc i) = refl

  taken_once : (w : W) (p : P) (e : Config W P D M A H) (turns : List Turn) (run : Matched rules naming (begins w p) turns e) → TakenOnce w p e turns run
  taken_once w p e turns run = let g = good_matched (begins w p) e turns run (good_begins w p) in record { once = g.once; told = g.told; offered = g.offered }

pub runs_take_once : (W P D M A H : Type 0) → RunsTakeOnce W P D M A H
runs_take_once W P D M A H rules naming w p e turns run = taken_once rules naming w p e turns run

-- ---- what is told on both sides is told of the same meetings

module _ {K D U M A H : Type 0} (map : Renaming K D U) (k : K) where
  same_passed : (es : List (Entry D M A H)) (fs : List (Entry U M A H)) → SameTrace map k es fs → SameMeetings map k (passed es) (passed fs)
  same_passed es fs nothing = tt
  same_passed es fs (told_too {e = e} {f = f} {es = es1} {fs = fs1} h rest) = one e f h (same_passed es1 fs1 rest)
    where
      one : (e : Entry D M A H) (f : Entry U M A H) → SameEntry map k e f → SameMeetings map k (passed es1) (passed fs1) → SameMeetings map k (passed (e ∷ es1)) (passed (f ∷ fs1))
      one (Requested i m) (Requested j n) h r = r
      one (Replied i a) (Replied j b) h r = r
      one (Passed c v s b p o) (Passed c' v' s' b' p' o') h r = (record { channel = h.0; value = h.1; sender = h.2; its_branch = h.3; receiver = h.4; branch = h.5 }, r)
      one (Over i how) (Over j its) h r = r
      one (Released i ns) (Released j ms) h r = r
      one (Lost l) (Lost m) h r = r
      one _ _ h r = absurd h
  same_passed es fs (passed_over {fs = fs1} i m ms h rest) = same_passed es fs1 rest

module _ {K W X P Q D U M A H : Type 0} (s : Sides K W X P Q D U M A H) (follows : Follows s) where
  pub journals_take_once : (k : K) (w : W) (x : X) (p : P) (q : Q) → s.ready k 0 x p q → s.worlds k w x → Still s.naming (s.naming.names p) w → JournalsTakeOnce s k x q
  journals_take_once k w x p q ready worlds nothing_lost longest journal t leads =
      let b = every_journal s follows k w x p q ready worlds nothing_lost longest journal t leads in
      let o = taken_once s.program s.naming w p b.config b.turns b.run in
      record {
        now = b.now;
        grown = b.grown;
        acts = acts_of b.run;
        once = o.once;
        told = subst (λ ms. SameMeetings s.map b.now ms (passed t.trace)) (sym o.told) (same_passed s.map b.now b.config.trace t.trace b.trace);
      }
