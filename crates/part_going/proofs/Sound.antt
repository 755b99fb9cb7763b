-- What is left to do is always ready for its next step: nothing in the frame on top waits, each frame below waits for one answer, nothing
-- is missing, whatever is called is there, and each value that stands in a tree has the kind that the tree has.
use Rattle.std.proofs.Common.{◌≡◌, ℕ, zero, suc, Bool, true, false, List, [], ◌∷◌, map, Option, Some, None, Result, Ok, Err, IfOk}
use Rattle.std.proofs.Common.{nat_lt, if◌then◌else◌, refl, sym, ap, ◌∙◌, subst}
use Rattle.std.proofs.lemmas.Option.{none-some}
use Rattle.std.specs.Prelude.{slice_get}
use Rattle.styx_msg.specs.declared.message.Rmsg.{Rmsg}
use Rattle.process_model.specs.Process.{Doing, Ready, Waiting, Asking, Gone}
use Rattle.limbo_types.specs.Types.{Ty, Int}
use Rattle.limbo_values.specs.declared.number.Kind.{Kind}
use Rattle.limbo_values.specs.declared.number.Kind.TheVariants as kind
use Rattle.limbo_values.specs.declared.raised.Raised.{Raised}
use Rattle.limbo_typed.specs.Typed.{Function}
use Rattle.system_model.specs.Values.{Value, zero_value}
use Rattle.system_model.specs.World as outside
use Rattle.system_model.specs.Prints.{Writing, Printing, Answers, Requests, NoReply, print, hear}
use Rattle.typed_meaning.specs.Values.{kind_of, fitted, holds, decides, truth_of, result_of}
use Rattle.typed_meaning.specs.Formats.{text_of}
use Rattle.typed_meaning.specs.Trees.{Local, Global, Place, At, Term, Evaluated, Awaiting, Missing, Literal, Read, Apply, Lazy}
use Rattle.typed_meaning.specs.Trees.{Deciding, Store, Change, Put, Call, Print, Terms, NoTerms, MoreTerms}
use Rattle.typed_meaning.specs.Trees.{Stm, Over, Eval, Set, If, While, Enter, Break, Continue, Return, Leave}
use Rattle.typed_meaning.specs.Trees.{Loop, Looping, Block, Done, Then, Turn, Again, join, tested, entered, turned, behind, at_turn}
use Rattle.typed_meaning.specs.World.{World}
use Rattle.typed_meaning.specs.Program.{Routine, routine_of}
use Rattle.typed_meaning.specs.Evaluation.{Progress, Finished, Stepped, Writes, Calls, Prints, Raises, Blocked, after, gives, decided}
use Rattle.typed_meaning.specs.Evaluation.{next, next_all, read_at, stored_at, given_by, fill, fill_all, fill_stm, fill_block}
use Rattle.typed_meaning.specs.Process.{Frame, Process, Does, height, reads, written, returns, calls, prints, hears}
use Rattle.typed_meaning.specs.Step.{chosen, evaluate, sets, act, work, step, heard, answer}
use Rattle.typed_meaning.proofs.Kept.{After, AfterReply}
use Rattle.typed_lower.specs.Kinds.{kind_at, kind_given}
use Rattle.typed_part.specs.Part.{operands}
use Rattle.part_going.specs.Fitting.{IsOf, AreOf, Called, Passes}
use Rattle.part_going.proofs.Results.{fitted_of, truth_is_int, result_in, BeginsWith, given_in}

-- a list made from another has at each place what is made of what stands there
get_mapped : {X Y : Type 0} (f : X → Y) (xs : List X) (i : ℕ) (x : X) → slice_get xs i ≡ Some x → slice_get (map f xs) i ≡ Some (f x)
get_mapped f [] i x e = absurd cc
get_mapped f (y ∷ ys) zero x e = let same : y ≡ x = cc in ap (λ x. Some (f x)) same
get_mapped f (y ∷ ys) (suc i) x e = get_mapped f ys i x e

module _ (functions : List Function) where
  abbrev pub rs : List Routine
  rs = map routine_of functions

  abbrev passed : ℕ → List Value → Called
  passed f vs = record { function = f; arguments = vs }

  -- a tree whose value is a number of this kind, or will be one; trees of such kinds
  abbrev mutual
    pub HasKind : Term → Kind → Type 0
    HasKind (Evaluated v) k = IsOf k v
    HasKind (Awaiting t) k = ⊥
    HasKind Missing k = ⊥
    HasKind (Literal t v) k = IsOf k v
    HasKind (Read p) k = kind_at p ≡ k
    HasKind (Apply o ts) k = (kind_given o ≡ k) × ((ks : List Kind) × (operands o ≡ Some ks) × HaveKinds ts ks)
    HasKind (Lazy c l r) k = (kind.Int ≡ k) × HasKind l kind.Int × HasKind r kind.Int
    HasKind (Deciding r) k = (kind.Int ≡ k) × HasKind r kind.Int
    HasKind (Store p t) k = HasKind t k
    HasKind (Change o g p ts) k =
        (kind_given o ≡ k) × ((ks : List Kind) × (operands o ≡ Some ks) × HaveKinds ts ks × BeginsWith ks k)
    HasKind (Put p v w) k = IsOf k w
    HasKind (Call t f ts) k =
        (kind_of t ≡ k) × ((g : Function) × (slice_get functions f ≡ Some g) × HaveKinds ts (map kind_of g.of.args))
    HasKind (Print ps ts) k = (kind.Int ≡ k) × ((ks : List Kind) × HaveKinds ts ks)

    pub HaveKinds : Terms → List Kind → Type 0
    HaveKinds NoTerms [] = Unit {0}
    HaveKinds NoTerms (k ∷ ks) = ⊥
    HaveKinds (MoreTerms t ts) [] = ⊥
    HaveKinds (MoreTerms t ts) (k ∷ ks) = HasKind t k × HaveKinds ts ks

  -- of some kind
  abbrev pub SoundTerm : Term → Type 0
  SoundTerm t = (k : Kind) × HasKind t k

  abbrev pub SoundOption : Option Term → Type 0
  SoundOption None = Unit {0}
  SoundOption (Some t) = SoundTerm t

  abbrev mutual
    pub SoundStm : Stm → Type 0
    SoundStm Over = Unit {0}
    SoundStm (Eval t) = SoundTerm t
    SoundStm (Set qs t) = SoundTerm t
    SoundStm (If t a b) = SoundTerm t × SoundBlock a × SoundBlock b
    SoundStm (While t l) = SoundTerm t × SoundLoop l
    SoundStm (Enter l) = SoundLoop l
    SoundStm (Break n) = Unit {0}
    SoundStm (Continue n) = Unit {0}
    SoundStm (Return t) = SoundTerm t
    SoundStm Leave = Unit {0}

    pub SoundLoop : Loop → Type 0
    SoundLoop (Looping c n body) = SoundOption c × SoundOption n × SoundBlock body

    pub SoundBlock : Block → Type 0
    SoundBlock Done = Unit {0}
    SoundBlock (Then s rest) = SoundStm s × SoundBlock rest
    SoundBlock (Turn l rest) = SoundLoop l × SoundBlock rest
    SoundBlock (Again l rest) = SoundLoop l × SoundBlock rest

  abbrev pub SoundRoutines : Type 0
  SoundRoutines = (f : ℕ) (r : Routine) → slice_get rs f ≡ Some r → SoundBlock r.body

  -- it waits for one answer, whatever that is
  abbrev pub WaitsWell : Frame → Type 0
  WaitsWell f = (v : Value) → SoundBlock (fill_block v f.todo)

  abbrev pub AllWait : List Frame → Type 0
  AllWait [] = Unit {0}
  AllWait (f ∷ fs) = WaitsWell f × AllWait fs

  abbrev pub IsSound : Doing Process Value → Type 0
  IsSound (Ready p) = SoundBlock p.frame.todo × AllWait p.below
  IsSound (Waiting branches p) = ⊥
  IsSound (Asking p) = WaitsWell p.frame × AllWait p.below
  IsSound Gone = Unit {0}

  -- ---- expressions

  mutual
    fill_keeps : (v : Value) (t : Term) (k : Kind) → HasKind t k → HasKind (fill v t) k
    fill_keeps v (Evaluated w) k h = h
    fill_keeps v (Awaiting t) k h = absurd h
    fill_keeps v Missing k h = absurd h
    fill_keeps v (Literal t w) k h = h
    fill_keeps v (Read p) k h = h
    fill_keeps v (Apply o ts) k h = (h.0, (h.1.0, h.1.1, fill_all_keeps v ts h.1.0 h.1.2))
    fill_keeps v (Lazy c l r) k h = (h.0, fill_keeps v l kind.Int h.1, h.2)
    fill_keeps v (Deciding r) k h = (h.0, fill_keeps v r kind.Int h.1)
    fill_keeps v (Store p t) k h = fill_keeps v t k h
    fill_keeps v (Change o g p ts) k h = (h.0, (h.1.0, h.1.1, fill_all_keeps v ts h.1.0 h.1.2, h.1.3))
    fill_keeps v (Put p x y) k h = h
    fill_keeps v (Call t f ts) k h = (h.0, (h.1.0, h.1.1, fill_all_keeps v ts (map kind_of h.1.0.of.args) h.1.2))
    fill_keeps v (Print ps ts) k h = (h.0, (h.1.0, fill_all_keeps v ts h.1.0 h.1.1))

    fill_all_keeps : (v : Value) (ts : Terms) (ks : List Kind) → HaveKinds ts ks → HaveKinds (fill_all v ts) ks
    fill_all_keeps v NoTerms ks h = h
    fill_all_keeps v (MoreTerms t ts) [] h = absurd h
    fill_all_keeps v (MoreTerms t ts) (k ∷ ks) h = (fill_keeps v t k h.0, fill_all_keeps v ts ks h.1)

  -- a step of a tree leaves it of its kind, or comes to a value of the kind; or it calls what is there, or prints, and waits for one answer
  abbrev pub Good : {R T : Type 0} → (T → Type 0) → (Value → T → T) → (R → Type 0) → Progress R T → Type 0
  Good S F V (Finished v) = V v
  Good S F V (Stepped t) = S t
  Good S F V (Writes q v t) = S t
  Good S F V (Calls f vs t) = Passes functions (passed f vs) × ((v : Value) → S (F v t))
  Good S F V (Prints ps vs t) = (v : Value) → S (F v t)
  Good S F V (Raises text) = Unit {0}
  Good S F V Blocked = ⊥

  abbrev pub GoodTerm : Kind → Progress Value Term → Type 0
  GoodTerm k = Good (λ t. HasKind t k) fill (IsOf k)

  abbrev pub GoodTerms : List Kind → Progress (List Value) Terms → Type 0
  GoodTerms ks = Good (λ ts. HaveKinds ts ks) fill_all (AreOf ks)

  after_good : {R S T U : Type 0} (A : T → Type 0) (F : Value → T → T) (V : R → Type 0)
      (B : U → Type 0) (G : Value → U → U) (W : S → Type 0) (g : Progress R T) (go : R → Progress S U) (within : T → U)
      → Good A F V g → ((v : R) → V v → Good B G W (go v)) → ((t : T) → A t → B (within t))
      → ((v : Value) (t : T) → A (F v t) → B (G v (within t))) → Good B G W (after g go within)
  after_good A F V B G W (Finished v) go within h k s c = k v h
  after_good A F V B G W (Stepped t) go within h k s c = s t h
  after_good A F V B G W (Writes q v t) go within h k s c = s t h
  after_good A F V B G W (Calls f vs t) go within h k s c = (h.0, λ v. c v t (h.1 v))
  after_good A F V B G W (Prints ps vs t) go within h k s c = λ v. c v t (h v)
  after_good A F V B G W (Raises text) go within h k s c = tt
  after_good A F V B G W Blocked go within h k s c = absurd h

  gives_good : (r : Result Value Raised) (j k : Kind) (use_it : Value → Term) → IfOk r (IsOf j)
      → ((v : Value) → IsOf j v → HasKind (use_it v) k) → GoodTerm k (gives r use_it)
  gives_good (Ok v) j k use_it f h = h v f
  gives_good (Err e) j k use_it f h = tt

  decided_has : (b : Bool) (v : Value) (r : Term) → HasKind r kind.Int → HasKind (decided b v r) kind.Int
  decided_has true v r h = truth_is_int v
  decided_has false v r h = (refl, h)

  -- the answer, brought to the type that is waited for
  answer_has : (t : Ty) (k : Kind) → kind_of t ≡ k → (v : Value) → HasKind (fill v (Awaiting t)) k
  answer_has t k e v = subst (λ k. IsOf k (fitted t v)) e (fitted_of t v)

  read_has : (reads : Place → Value) (p : Place) → IsOf (kind_at p) (read_at reads p)
  read_has reads (At t n) = fitted_of t (reads (At t n))

  module _ (reads : Place → Value) where
    abbrev of_one : (t : Term) (j k : Kind) (go : Value → Progress Value Term) (within : Term → Term) → GoodTerm j (next reads t)
        → ((v : Value) → IsOf j v → GoodTerm k (go v)) → ((t : Term) → HasKind t j → HasKind (within t) k)
        → ((v : Value) (t : Term) → HasKind (fill v t) j → HasKind (fill v (within t)) k) → GoodTerm k (after (next reads t) go within)
    of_one t j k go within =
        after_good (λ t. HasKind t j) fill (IsOf j) (λ t. HasKind t k) fill (IsOf k) (next reads t) go within

    abbrev of_all : (ts : Terms) (ks : List Kind) (k : Kind) (go : List Value → Progress Value Term) (within : Terms → Term)
        → GoodTerms ks (next_all reads ts) → ((vs : List Value) → AreOf ks vs → GoodTerm k (go vs))
        → ((ts : Terms) → HaveKinds ts ks → HasKind (within ts) k)
        → ((v : Value) (ts : Terms) → HaveKinds (fill_all v ts) ks → HasKind (fill v (within ts)) k)
        → GoodTerm k (after (next_all reads ts) go within)
    of_all ts ks k go within =
        after_good (λ ts. HaveKinds ts ks) fill_all (AreOf ks) (λ t. HasKind t k) fill (IsOf k) (next_all reads ts) go within

    mutual
      pub next_good : (t : Term) (k : Kind) → HasKind t k → GoodTerm k (next reads t)
      next_good (Evaluated v) k h = h
      next_good (Awaiting t) k h = absurd h
      next_good Missing k h = absurd h
      next_good (Literal t v) k h = h
      next_good (Read p) k h = subst (λ k. IsOf k (read_at reads p)) h (read_has reads p)
      next_good (Apply o ts) k h =
          let ks = h.1.0 in
          of_all ts ks k _ (λ ts. Apply o ts) (next_all_good ts ks h.1.2)
          (λ vs f.
          gives_good (result_of o vs) (kind_given o) k Evaluated (result_in o ks vs h.1.1 f)
          (λ v g. subst (λ k. IsOf k v) h.0 g))
          (λ ts' s. (h.0, (ks, h.1.1, s))) (λ v ts' s. (h.0, (ks, h.1.1, s)))
      next_good (Lazy c l r) k h =
          of_one l kind.Int k _ (λ l. Lazy c l r) (next_good l kind.Int h.1)
          (λ v f. subst (HasKind (decided (decides c v) v r)) h.0 (decided_has (decides c v) v r h.2))
          (λ l' s. (h.0, s, h.2)) (λ v l' s. (h.0, s, h.2))
      next_good (Deciding r) k h =
          of_one r kind.Int k _ Deciding (next_good r kind.Int h.1) (λ v f. subst (λ k. IsOf k (truth_of v)) h.0 (truth_is_int v))
          (λ r' s. (h.0, s)) (λ v r' s. (h.0, s))
      next_good (Store p t) k h = of_one t k k _ (λ t. Store p t) (next_good t k h) (λ v f. f) (λ t' s. s) (λ v t' s. s)
      next_good (Change o g p ts) k h =
          let ks = h.1.0 in
          of_all ts ks k _ (λ ts. Change o g p ts) (next_all_good ts ks h.1.2)
          (λ vs f.
          gives_good (result_of o vs) (kind_given o) k (λ w. Put p (stored_at p w) (given_by g vs w)) (result_in o ks vs h.1.1 f)
          (λ w d. given_in g ks vs w k f h.1.3 (subst (λ k. IsOf k w) h.0 d)))
          (λ ts' s. (h.0, (ks, h.1.1, s, h.1.3))) (λ v ts' s. (h.0, (ks, h.1.1, s, h.1.3)))
      next_good (Put p v w) k h = h
      next_good (Call t f ts) k h =
          let g = h.1.0 in
          let ks = map kind_of g.of.args in
          of_all ts ks k _ (λ ts. Call t f ts) (next_all_good ts ks h.1.2)
          (λ vs d. (record { function = g; there = h.1.1; given = d }, answer_has t k h.0))
          (λ ts' s. (h.0, (g, h.1.1, s))) (λ v ts' s. (h.0, (g, h.1.1, s)))
      next_good (Print ps ts) k h =
          let ks = h.1.0 in
          of_all ts ks k _ (λ ts. Print ps ts) (next_all_good ts ks h.1.1) (λ vs d. answer_has Int k h.0)
          (λ ts' s. (h.0, (ks, s))) (λ v ts' s. (h.0, (ks, s)))

      pub next_all_good : (ts : Terms) (ks : List Kind) → HaveKinds ts ks → GoodTerms ks (next_all reads ts)
      next_all_good NoTerms [] h = tt
      next_all_good NoTerms (k ∷ ks) h = absurd h
      next_all_good (MoreTerms t ts) [] h = absurd h
      next_all_good (MoreTerms t ts) (k ∷ ks) h =
          after_good (λ t. HasKind t k) fill (IsOf k) (λ ts. HaveKinds ts (k ∷ ks)) fill_all (AreOf (k ∷ ks)) (next reads t) _
          (λ t. MoreTerms t ts) (next_good t k h.0)
          (λ v f.
          after_good (λ ts. HaveKinds ts ks) fill_all (AreOf ks) (λ ts. HaveKinds ts (k ∷ ks)) fill_all (AreOf (k ∷ ks))
          (next_all reads ts) _ (λ ts. MoreTerms (Evaluated v) ts) (next_all_good ts ks h.1) (λ vs fs. (f, fs))
          (λ ts' s. (f, s)) (λ u ts' s. (f, s)))
          (λ t' s. (s, h.1)) (λ u t' s. (s, fill_all_keeps u ts ks h.1))

  -- ---- blocks

  join_sound : (b rest : Block) → SoundBlock b → SoundBlock rest → SoundBlock (join b rest)
  join_sound Done rest h k = k
  join_sound (Then s b) rest h k = (h.0, join_sound b rest h.1 k)
  join_sound (Turn l b) rest h k = (h.0, join_sound b rest h.1 k)
  join_sound (Again l b) rest h k = (h.0, join_sound b rest h.1 k)

  chosen_sound : (choice : Bool) (a b : Block) → SoundBlock a → SoundBlock b → SoundBlock (chosen choice a b)
  chosen_sound true a b h k = h
  chosen_sound false a b h k = k

  pub tested_sound : (l : Loop) (rest : Block) → SoundLoop l → SoundBlock rest → SoundBlock (tested l rest)
  tested_sound (Looping None n body) rest h k = (h, k)
  tested_sound (Looping (Some c) n body) rest h k = ((h.0, h), k)

  entered_sound : (l : Loop) (rest : Block) → SoundLoop l → SoundBlock rest → SoundBlock (entered l rest)
  entered_sound (Looping c n body) rest h k = join_sound body (Turn (Looping c n body) rest) h.2 (h, k)

  turned_sound : (l : Loop) (rest : Block) → SoundLoop l → SoundBlock rest → SoundBlock (turned l rest)
  turned_sound (Looping c None body) rest h k = tested_sound (Looping c None body) rest h k
  turned_sound (Looping c (Some n) body) rest h k = (h.1, (h, k))

  behind_sound : (n : ℕ) (b : Block) → SoundBlock b → SoundBlock (behind n b)
  behind_sound n Done h = tt
  behind_sound n (Then s b) h = behind_sound n b h.1
  behind_sound n (Again l b) h = behind_sound n b h.1
  behind_sound zero (Turn l b) h = h.1
  behind_sound (suc n) (Turn l b) h = behind_sound n b h.1

  at_turn_sound : (n : ℕ) (b : Block) → SoundBlock b → SoundBlock (at_turn n b)
  at_turn_sound n Done h = tt
  at_turn_sound n (Then s b) h = at_turn_sound n b h.1
  at_turn_sound n (Again l b) h = at_turn_sound n b h.1
  at_turn_sound zero (Turn l b) h = h
  at_turn_sound (suc n) (Turn l b) h = at_turn_sound n b h.1

  -- ---- a process

  -- a print answers or asks
  abbrev IsPrinting : Printing → Type 0
  IsPrinting NoReply = ⊥
  IsPrinting _ = Unit {0}

  print_asks : (w : outside.World) (text : List ℕ) → IsPrinting (print w text)
  print_asks w [] = tt
  print_asks w (c ∷ cs) = tt

  module _ (limit : ℕ) (all : SoundRoutines) (w : World) (p : Process) (below : AllWait p.below) where
    returns_sound : (v : Value) (fs : List Frame) → AllWait fs → After IsSound (returns w p fs v)
    returns_sound v [] h = tt
    returns_sound v (f ∷ fs) h = (h.0 v, h.1)

    enters_sound : (b : Bool) (x y : Does) → After IsSound x → After IsSound y → After IsSound (if b then x else y)
    enters_sound true x y h k = h
    enters_sound false x y h k = k

    calls_sound : (waits : Block) (f : ℕ) (r : Option Routine) (args : List Value) → slice_get rs f ≡ r → Passes functions (passed f args)
        → ((v : Value) → SoundBlock (fill_block v waits)) → After IsSound (calls limit w p waits r args)
    calls_sound waits f None args e there h =
        absurd (none-some (routine_of there.function) (sym e ∙ get_mapped routine_of functions f there.function there.there))
    calls_sound waits f (Some r) args e there h = enters_sound (nat_lt (height p) limit) _ _ (all f r e, (h, below)) tt

    prints_sound : (waits : Block) (g : Printing) → ((v : Value) → SoundBlock (fill_block v waits)) → IsPrinting g
        → After IsSound (prints w p waits g)
    prints_sound waits (Answers o v) h k = (h v, below)
    prints_sound waits (Requests o m x) h k = (h, below)
    prints_sound waits NoReply h k = absurd k

    written_sound : (q : Place) (v : Value) (todo : Block) → SoundBlock todo → After IsSound (written w p q v todo)
    written_sound (At t (Local x)) v todo h = (h, below)
    written_sound (At t (Global x)) v todo h = (h, below)

    evaluate_sound : (rest : Block) (t : Term) (k : Kind) (within : Term → Stm) (use_it : Value → Does) → SoundBlock rest → HasKind t k
        → ((t : Term) → HasKind t k → SoundStm (within t))
        → ((v : Value) (t : Term) → HasKind (fill v t) k → SoundStm (fill_stm v (within t)))
        → ((v : Value) → IsOf k v → After IsSound (use_it v))
        → After IsSound (evaluate limit rs w p rest (next (reads w p.frame) t) within use_it)
    evaluate_sound rest t k within use_it d h s c u = go (next (reads w p.frame) t) (next_good (reads w p.frame) t k h)
      where
        go : (g : Progress Value Term) → GoodTerm k g → After IsSound (evaluate limit rs w p rest g within use_it)
        go (Finished v) h = u v h
        go (Stepped t) h = ((s t h, d), below)
        go (Writes q v t) h = written_sound q v (Then (within t) rest) (s t h, d)
        go (Calls f args t) h = calls_sound (Then (within t) rest) f (slice_get rs f) args refl h.0 (λ v. (c v t (h.1 v), d))
        go (Prints ps vs t) h =
            prints_sound (Then (within t) rest) (print w.outside (text_of ps vs)) (λ v. (c v t (h v), d))
            (print_asks w.outside (text_of ps vs))
        go (Raises text) h = tt
        go Blocked h = absurd h

    sets_sound : (rest : Block) (qs : List Place) (v : Value) (k : Kind) → SoundBlock rest → IsOf k v
        → After IsSound (sets limit rs w p rest qs v)
    sets_sound rest [] v k d f = (d, below)
    sets_sound rest (q ∷ qs) v k d f = written_sound q (stored_at q v) (Then (Set qs (Evaluated v)) rest) ((k, f), d)

    act_sound : (s : Stm) (rest : Block) → SoundStm s → SoundBlock rest → After IsSound (act limit rs w p s rest)
    act_sound Over rest h k = (k, below)
    act_sound (Eval t) rest h d =
        let k = h.0 in
        evaluate_sound rest t k _ _ d h.1 (λ t' s. (k, s)) (λ v t' s. (k, s)) (λ v f. (d, below))
    act_sound (Set qs t) rest h d =
        let k = h.0 in
        evaluate_sound rest t k _ _ d h.1 (λ t' s. (k, s)) (λ v t' s. (k, s)) (λ v f. sets_sound rest qs v k d f)
    act_sound (If t a b) rest h d =
        let k = h.0.0 in
        evaluate_sound rest t k _ _ d h.0.1 (λ t' s. ((k, s), h.1, h.2)) (λ v t' s. ((k, s), h.1, h.2))
        (λ v f. ((tt, join_sound (chosen (holds v) a b) (Then Over rest) (chosen_sound (holds v) a b h.1 h.2) (tt, d)), below))
    act_sound (While t l) rest h d =
        let k = h.0.0 in
        evaluate_sound rest t k _ _ d h.0.1 (λ t' s. ((k, s), h.1)) (λ v t' s. ((k, s), h.1))
        (λ v f. ((tt, chosen_sound (holds v) (entered l rest) rest (entered_sound l rest h.1 d) d), below))
    act_sound (Enter l) rest h k = (entered_sound l rest h k, below)
    act_sound (Break n) rest h k = (behind_sound n rest k, below)
    act_sound (Continue n) rest h k = (at_turn_sound n rest k, below)
    act_sound (Return t) rest h d =
        let k = h.0 in
        evaluate_sound rest t k _ _ d h.1 (λ t' s. (k, s)) (λ v t' s. (k, s)) (λ v f. returns_sound v p.below below)
    act_sound Leave rest h k = returns_sound zero_value p.below below

    work_sound : (todo : Block) → SoundBlock todo → After IsSound (work limit rs w p todo)
    work_sound Done h = returns_sound zero_value p.below below
    work_sound (Then s rest) h = act_sound s rest h.0 h.1
    work_sound (Turn l rest) h = (turned_sound l rest h.0 h.1, below)
    work_sound (Again l rest) h = (tested_sound l rest h.0 h.1, below)

  pub step_sound : (limit : ℕ) → SoundRoutines → (w : World) (p : Process) → IsSound (Ready p) → After IsSound (step limit rs w p)
  step_sound limit all w p h = work_sound limit all w p h.1 p.frame.todo h.0

  hears_sound : (w : World) (p : Process) (g : Printing) → IsSound (Asking p) → AfterReply IsSound (hears w p g)
  hears_sound w p (Answers o v) h = (h.0 v, h.1)
  hears_sound w p (Requests o m k) h = h
  hears_sound w p NoReply h = tt

  heard_sound : (a : Rmsg) (w : World) (p : Process) (k : Option Writing) → IsSound (Asking p) → AfterReply IsSound (heard a w p k)
  heard_sound a w p None h = tt
  heard_sound a w p (Some k) h = hears_sound w p (hear a w.outside k) h

  pub answer_sound : (a : Rmsg) (w : World) (p : Process) → IsSound (Asking p) → AfterReply IsSound (answer a w p)
  answer_sound a w p h = heard_sound a w p p.printing h
