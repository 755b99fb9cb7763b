-- Each step and each reply leaves a process that holds what its trees name such a process.
use Rattle.std.proofs.Common.{◌≡◌, ℕ, zero, suc, Bool, true, false, List, [], ◌∷◌, ◌++◌, Option, None, Some, ◌⊎◌, inl, inr, refl, sym}
use Rattle.std.proofs.Common.{subst, ◌∙◌, nat_lt, append-nil}
use Rattle.std.specs.Prelude.{slice_get, if◌then◌else◌}
use Rattle.styx_msg.specs.declared.message.Rmsg.{Rmsg}
use Rattle.process_model.specs.Process.{Went, Asks, Ends}
use Rattle.limbo_types.specs.Types.{Ty}
use Rattle.system_model.specs.Values as system
use Rattle.system_model.specs.Prints.{Printing, Answers, Requests, NoReply, Writing, print, hear}
use Rattle.system_model.specs.Ending.{Broken}
use Rattle.limbo_meaning.specs.Values.{Value, nothing, fitted, references, references_in}
use Rattle.limbo_meaning.specs.Exceptions.{stack_overflow}
use Rattle.limbo_meaning.specs.Operations.{holds}
use Rattle.limbo_meaning.specs.Trees.{Term, Evaluated, Awaiting, Missing, Node, Lazy, Deciding, Update, Change, Put, Linking}
use Rattle.limbo_meaning.specs.Trees.{Fill, Filling, Turning, Repeating, Terms, NoTerms, MoreTerms, Items, NoItems, MoreItems}
use Rattle.limbo_meaning.specs.Trees.{Stm, Over, Eval, If, While, Enter, Break, Continue, Return, Leave, Loop, Looping, Block, Done, Then}
use Rattle.limbo_meaning.specs.Trees.{Turn, Again}
use Rattle.limbo_meaning.specs.Trees.{join, tested, entered, turned, behind, at_turn}
use Rattle.limbo_meaning.specs.Evaluation.{Progress, Finished, Stepped, Calls, Prints, Raises, Blocked, fill, fill_all, fill_items}
use Rattle.limbo_meaning.specs.Evaluation.{fill_stm, fill_block}
use Rattle.limbo_meaning.specs.Program.{Routine, Program}
use Rattle.limbo_meaning.specs.Process.{Shared, Frame, Process, Does, memory_of, framed, frame_of, with_frames, height, goes, drops}
use Rattle.limbo_meaning.specs.Process.{returns, calls, prints, hears}
use Rattle.limbo_meaning.specs.Process.{value_of}
use Rattle.limbo_meaning.specs.Step.{chosen, evaluate, progress, act, work, step, heard}
use Rattle.limbo_meaning.specs.Holding.{is_evaluated, is_at_end}
use Rattle.limbo_meaning.specs.Origins.{Name, term_references, terms_references, items_references, stm_references, statement_references}
use Rattle.limbo_meaning.specs.Owning.{FreshStm, FreshLoop, FreshBlock, FreshProgram, Within, WithinUnlessValue, OwnStm, OwnBlock}
use Rattle.limbo_meaning.specs.Owning.{OwnFrames, OwnProcess, ProcessesOwn}
use Rattle.limbo_meaning.proofs.Busy.{finished, not_value}
use Rattle.limbo_meaning.proofs.Names.{Sub, none, either, left, right}
use Rattle.limbo_meaning.proofs.TreeNames.{SoBy, tree_so}
use Rattle.limbo_meaning.proofs.Fresh.{modules_fresh, tested_fresh}

-- ---- blocks that aren't begun

join_fresh : (a b : Block) → FreshBlock a → FreshBlock b → FreshBlock (join a b)
join_fresh Done b f g = g
join_fresh (Then s a) b f g = (f.0, join_fresh a b f.1 g)
join_fresh (Turn l a) b f g = (f.0, join_fresh a b f.1 g)
join_fresh (Again l a) b f g = (f.0, join_fresh a b f.1 g)

entered_fresh : (l : Loop) (b : Block) → FreshLoop l → FreshBlock b → FreshBlock (entered l b)
entered_fresh (Looping c n body) b f g = join_fresh body (Turn (Looping c n body) b) f.2 (f, g)

turned_fresh : (l : Loop) (b : Block) → FreshLoop l → FreshBlock b → FreshBlock (turned l b)
turned_fresh (Looping c None body) b f g = tested_fresh (Looping c None body) b f g
turned_fresh (Looping c (Some n) body) b f g = (f.1, (f, g))

behind_fresh : (k : ℕ) (b : Block) → FreshBlock b → FreshBlock (behind k b)
behind_fresh k Done f = f
behind_fresh k (Then s b) f = behind_fresh k b f.1
behind_fresh k (Again l b) f = behind_fresh k b f.1
behind_fresh zero (Turn l b) f = f.1
behind_fresh (suc k) (Turn l b) f = behind_fresh k b f.1

at_turn_fresh : (k : ℕ) (b : Block) → FreshBlock b → FreshBlock (at_turn k b)
at_turn_fresh k Done f = f
at_turn_fresh k (Then s b) f = at_turn_fresh k b f.1
at_turn_fresh k (Again l b) f = at_turn_fresh k b f.1
at_turn_fresh zero (Turn l b) f = f
at_turn_fresh (suc k) (Turn l b) f = at_turn_fresh k b f.1

chosen_fresh : (b : Bool) (a c : Block) → FreshBlock a → FreshBlock c → FreshBlock (chosen b a c)
chosen_fresh true a c f g = f
chosen_fresh false a c f g = g

-- what isn't begun is a process's own, whatever it holds
own_fresh : (held : List (Option ℕ)) (b : Block) → FreshBlock b → OwnBlock held b
own_fresh held Done f = f
own_fresh held (Then s rest) f = (own_stm s f.0, f.1)
  where
    own_stm : (s : Stm) → FreshStm s → OwnStm held s
    own_stm Over f = tt
    own_stm (Eval t) f = λ e n h. absurd (f n h)
    own_stm (If t a b) f = ((λ e n h. absurd (f.0 n h)), f.1, f.2)
    own_stm (While t l) f = ((λ e n h. absurd (f.0 n h)), f.1)
    own_stm (Enter l) f = f
    own_stm (Break k) f = tt
    own_stm (Continue k) f = tt
    own_stm (Return t) f = λ n h. absurd (f n h)
    own_stm Leave f = tt
own_fresh held (Turn l b) f = f
own_fresh held (Again l b) f = f

-- ---- an answer

module _ (v : Value) where
  abbrev Both : List (Option ℕ) → ℕ → Type 0
  Both rs n = Name rs n ⊎ Name (references v) n

  -- a part that is answered, beside others
  first_part : (xs xs' ys : List (Option ℕ)) (n : ℕ) → (Name xs' n → Both xs n) → Name (xs' ++ ys) n → Both (xs ++ ys) n
  first_part xs xs' ys n f h = elim (either xs' ys n h) [
    | inl y ↦ elim (f y) [ inl z ↦ inl (left xs ys n z) | inr z ↦ inr z ]
    | inr y ↦ inl (right xs ys n y)
  ]

  second_part : (xs ys ys' : List (Option ℕ)) (n : ℕ) → (Name ys' n → Both ys n) → Name (xs ++ ys') n → Both (xs ++ ys) n
  second_part xs ys ys' n f h = elim (either xs ys' n h) [
    | inl y ↦ inl (left xs ys n y)
    | inr y ↦ elim (f y) [ inl z ↦ inl (right xs ys n z) | inr z ↦ inr z ]
  ]

  mutual
    filled : (t : Term) (n : ℕ) → Name (term_references (fill v t)) n → Both (term_references t) n
    filled (Evaluated u) n h = inl h
    filled Awaiting n h = inr h
    filled Missing n h = inl h
    filled (Node t o ts) n h = all_filled ts n h
    filled (Lazy c l r) n h = first_part (term_references l) (term_references (fill v l)) (term_references r) n (filled l n) h
    filled (Deciding r) n h = filled r n h
    filled (Update o g t w ts us) n h = first_part (terms_references ts) (terms_references (fill_all v ts)) (terms_references us) n
        (all_filled ts n) h
    filled (Change o g p ts) n h = second_part (references_in p.operands) (terms_references ts) (terms_references (fill_all v ts)) n
        (all_filled ts n) h
    filled (Put ps u) n h = inl h
    filled (Linking t vs r) n h = inl h
    filled (Fill t l is rest) n h =
        first_part (term_references l) (term_references (fill v l)) (items_references is ++ terms_references rest) n (filled l n) h
    filled (Filling t p is ns rest) n h =
        second_part (Some p.array ∷ []) (items_references is ++ terms_references rest)
        (items_references (fill_items v is) ++ terms_references rest) n
        (first_part (items_references is) (items_references (fill_items v is)) (terms_references rest) n (items_filled is n)) h
    filled (Turning t p ns e) n h = inl h
    filled (Repeating t p i ns e now) n h =
        second_part (Some p.array ∷ []) (term_references e ++ term_references now) (term_references e ++ term_references (fill v now)) n
        (second_part (term_references e) (term_references now) (term_references (fill v now)) n (filled now n)) h

    all_filled : (ts : Terms) (n : ℕ) → Name (terms_references (fill_all v ts)) n → Both (terms_references ts) n
    all_filled NoTerms n h = inl h
    all_filled (MoreTerms t ts) n h = elim (either (term_references (fill v t)) (terms_references (fill_all v ts)) n h) [
      | inl y ↦ elim (filled t n y) [ inl z ↦ inl (left (term_references t) (terms_references ts) n z) | inr z ↦ inr z ]
      | inr y ↦ elim (all_filled ts n y) [ inl z ↦ inl (right (term_references t) (terms_references ts) n z) | inr z ↦ inr z ]
    ]

    items_filled : (is : Items) (n : ℕ) → Name (items_references (fill_items v is)) n → Both (items_references is) n
    items_filled NoItems n h = inl h
    items_filled (MoreItems i t is) n h = first_part (term_references t) (term_references (fill v t)) (items_references is) n (filled t n) h

  still_none : (t : Term) → is_evaluated (fill v t) ≡ false → is_evaluated t ≡ false
  still_none (Evaluated u) e = e
  still_none t e = refl

  module _ (held : List (Option ℕ)) where
    within_filled : (t : Term) → Within held t → Within (held ++ references v) (fill v t)
    within_filled t f n h = elim (filled t n h) [ inl y ↦ left held (references v) n (f n y) | inr y ↦ right held (references v) n y ]

    unless_filled : (t : Term) → WithinUnlessValue held t → WithinUnlessValue (held ++ references v) (fill v t)
    unless_filled t f e = within_filled t (f (still_none t e))

    own_filled : (s : Stm) → OwnStm held s → OwnStm (held ++ references v) (fill_stm v s)
    own_filled Over f = tt
    own_filled (Eval t) f = unless_filled t f
    own_filled (If t a b) f = (unless_filled t f.0, f.1, f.2)
    own_filled (While t l) f = (unless_filled t f.0, f.1)
    own_filled (Enter l) f = f
    own_filled (Break k) f = tt
    own_filled (Continue k) f = tt
    own_filled (Return t) f = within_filled t f
    own_filled Leave f = tt

    own_block_filled : (b : Block) → OwnBlock held b → OwnBlock (held ++ references v) (fill_block v b)
    own_block_filled Done f = f
    own_block_filled (Then s rest) f = (own_filled s f.0, f.1)
    own_block_filled (Turn l rest) f = f
    own_block_filled (Again l rest) f = f

-- a number that the outside answers names nothing
number_filled : (x : system.Value) (held : List (Option ℕ)) (b : Block) → OwnBlock held b → OwnBlock held (fill_block (value_of x) b)
number_filled (system.Num z) held b f =
    subst (λ rs. OwnBlock rs (fill_block (value_of (system.Num z)) b)) (append-nil held)
    (own_block_filled (value_of (system.Num z)) held b f)

-- ---- one step

module _ (limit : ℕ) (program : Program) (fresh : FreshProgram program) (w : Shared) (p : Process) (own : OwnProcess p) where
  abbrev OwnIn : Does → Type 0
  OwnIn (Went v q) = OwnProcess q
  OwnIn (Asks v m q) = OwnProcess q
  OwnIn _ = Unit {0}

  own_goes : (todo : Block) → FreshBlock todo → OwnIn (goes w p todo)
  own_goes todo f = record { frame = own_fresh p.frame.held todo f; below = own.below }

  -- at a statement's end nothing is asked of its value
  own_end : (held rs : List (Option ℕ)) (s : Stm) → is_at_end s ≡ true → OwnStm held s → OwnStm rs s
  own_end held rs Over e f = tt
  own_end held rs (Eval t) e f = λ x. absurd (let z : true ≡ false = sym e ∙ x in cc)
  own_end held rs (If t a b) e f = ((λ x. absurd (let z : true ≡ false = sym e ∙ x in cc)), f.1, f.2)
  own_end held rs (While t l) e f = ((λ x. absurd (let z : true ≡ false = sym e ∙ x in cc)), f.1)
  own_end held rs (Enter l) e f = absurd cc
  own_end held rs (Break k) e f = absurd cc
  own_end held rs (Continue k) e f = absurd cc
  own_end held rs (Return t) e f = absurd cc
  own_end held rs Leave e f = absurd cc

  own_first : (s : Stm) (rest : Block) → p.frame.todo ≡ Then s rest → OwnStm p.frame.held s × FreshBlock rest
  own_first s rest e = subst (OwnBlock p.frame.held) e own.frame

  own_drops : (s : Stm) (rest : Block) → p.frame.todo ≡ Then s rest → is_at_end s ≡ true → (held : List (Option ℕ)) (done : Does)
      → OwnIn done
      → OwnIn (drops w p held done)
  own_drops s rest e end [] done k = k
  own_drops s rest e end (r ∷ rs) done k =
      let f = own_first s rest e in
      record { frame = subst (OwnBlock rs) (sym e) (own_end p.frame.held rs s end f.0, f.1); below = own.below }

  -- the statement with another tree in it, whose names are held
  abbrev Puts : (Term → Stm) → Type 0
  Puts within = (held : List (Option ℕ)) (u : Term) → Sub (term_references u) held → OwnStm held (within u)

  own_calls : (waits : Block) (a : Ty) (r : Option Routine) (args : List Value) → OwnBlock p.frame.held waits
      → ((r' : Routine) → r ≡ Some r' → FreshBlock r'.body) → OwnIn (calls program.adts limit w p waits a r args)
  own_calls waits a None args f k = tt
  own_calls waits a (Some r) args f k = go (nat_lt (height p) limit)
    where
      go : (b : Bool) → OwnIn (if b
          then Went w (with_frames p (frame_of program.adts p.frame.instance r a args)
          (framed p.frame p.frame.variables p.frame.held waits ∷ p.below))
          else Ends w (Broken stack_overflow))
      go true = record { frame = own_fresh [] r.body (k r refl); below = (f, own.below) }
      go false = tt

  own_prints : (todo : Block) (printing : Printing) → OwnBlock p.frame.held todo → OwnIn (prints w p todo printing)
  own_prints todo (Answers o v) f = record { frame = number_filled v p.frame.held todo f; below = own.below }
  own_prints todo (Requests o m k) f = record { frame = f; below = own.below }
  own_prints todo NoReply f = tt

  own_returns : (v : Value) (below : List Frame) → p.below ≡ below → OwnIn (returns program.adts w p below v)
  own_returns v [] e = tt
  own_returns v (g ∷ below) e =
      let f : OwnFrames (g ∷ below) = subst OwnFrames e own.below in
      record { frame = own_block_filled (fitted program.adts p.frame.answer v) g.held g.todo f.0; below = f.1 }

  own_evaluate : (rest : Block) (t : Term) → FreshBlock rest → WithinUnlessValue p.frame.held t → (pr : Progress Value Term)
      → progress limit program w p t ≡ pr → SoBy (memory_of w p.frame) references term_references (term_references t) pr
      → (within : Term → Stm)
      → Puts within → (use_it : Value → Does) → ((v : Value) → is_evaluated t ≡ true → OwnIn (use_it v))
      → OwnIn (evaluate limit program w p rest pr within use_it)
  own_evaluate rest t g mine (Finished v) e s within puts use_it k = k v (finished program.adts (memory_of w p.frame) t v e)
  own_evaluate rest t g mine (Stepped m got u) e s within puts use_it k =
      let f = mine (not_value program.adts (memory_of w p.frame) t (Stepped m got u) e tt) in
      record {
        frame = (
          puts (p.frame.held ++ got) u (λ n h. elim (s.in_tree n h) [
            | inl y ↦ left p.frame.held got n (f n y)
            | inr y ↦ right p.frame.held got n y
          ]),
          g,
        );
        below = own.below;
      }
  own_evaluate rest t g mine (Calls a c args u) e s within puts use_it k =
      let f = mine (not_value program.adts (memory_of w p.frame) t (Calls a c args u) e tt) in
      own_calls (Then (within u) rest) a (slice_get program.routines c) args (puts p.frame.held u (λ n h. f n (s.1 n h)), g)
      (λ r there. fresh c r there)
  own_evaluate rest t g mine (Prints text u) e s within puts use_it k =
      let f = mine (not_value program.adts (memory_of w p.frame) t (Prints text u) e tt) in
      own_prints (Then (within u) rest) (print w.outside text) (puts p.frame.held u (λ n h. f n (s n h)), g)
  own_evaluate rest t g mine (Raises text) e s within puts use_it k = tt
  own_evaluate rest t g mine Blocked e s within puts use_it k = tt

  so : (t : Term) → SoBy (memory_of w p.frame) references term_references (term_references t) (progress limit program w p t)
  so t = tree_so program.adts (memory_of w p.frame) t

  own_act : (s : Stm) (rest : Block) → p.frame.todo ≡ Then s rest → OwnIn (act limit program w p s rest)
  own_act Over rest e = own_drops Over rest e refl p.frame.held _ (own_goes rest (own_first Over rest e).1)
  own_act (Eval t) rest e =
      let f = own_first (Eval t) rest e in
      own_evaluate rest t f.1 f.0 (progress limit program w p t) refl (so t) Eval (λ held u sub x. sub) _
      (λ v end. own_drops (Eval t) rest e end p.frame.held _ (own_goes rest f.1))
  own_act (If t a b) rest e =
      let f = own_first (If t a b) rest e in
      own_evaluate rest t f.1 f.0.0 (progress limit program w p t) refl (so t) (λ t. If t a b) (λ held u sub. ((λ x. sub), f.0.1, f.0.2)) _
      (λ v end. own_drops (If t a b) rest e end p.frame.held _ (own_goes (Then Over (join (chosen (holds v) a b) (Then Over rest)))
      (tt, join_fresh (chosen (holds v) a b) (Then Over rest) (chosen_fresh (holds v) a b f.0.1 f.0.2) (tt, f.1))))
  own_act (While t l) rest e =
      let f = own_first (While t l) rest e in
      own_evaluate rest t f.1 f.0.0 (progress limit program w p t) refl (so t) (λ t. While t l) (λ held u sub. ((λ x. sub), f.0.1)) _
      (λ v end. own_drops (While t l) rest e end p.frame.held _ (own_goes (Then Over (chosen (holds v) (entered l rest) rest))
      (tt, chosen_fresh (holds v) (entered l rest) rest (entered_fresh l rest f.0.1 f.1) f.1)))
  own_act (Enter l) rest e = let f = own_first (Enter l) rest e in own_goes (entered l rest) (entered_fresh l rest f.0 f.1)
  own_act (Break k) rest e = own_goes (behind k rest) (behind_fresh k rest (own_first (Break k) rest e).1)
  own_act (Continue k) rest e = own_goes (at_turn k rest) (at_turn_fresh k rest (own_first (Continue k) rest e).1)
  own_act (Return t) rest e =
      let f = own_first (Return t) rest e in
      own_evaluate rest t f.1 (λ x. f.0) (progress limit program w p t) refl (so t) Return (λ held u sub. sub) _
      (λ v end. own_returns v p.below refl)
  own_act Leave rest e = own_returns nothing p.below refl

  own_work : (todo : Block) → p.frame.todo ≡ todo → OwnIn (work limit program w p todo)
  own_work Done e = own_returns nothing p.below refl
  own_work (Then s rest) e = own_act s rest e
  own_work (Turn l rest) e = let f = subst (OwnBlock p.frame.held) e own.frame in own_goes (turned l rest) (turned_fresh l rest f.0 f.1)
  own_work (Again l rest) e = let f = subst (OwnBlock p.frame.held) e own.frame in own_goes (tested l rest) (tested_fresh l rest f.0 f.1)

  own_step : OwnIn (step limit program w p)
  own_step = own_work p.frame.todo refl

-- ---- replies

module _ (w : Shared) (p : Process) (own : OwnProcess p) where
  abbrev OwnThen : Does → Type 0
  OwnThen (Went v q) = OwnProcess q
  OwnThen (Asks v m q) = OwnProcess q
  OwnThen _ = Unit {0}

  own_hears : (printing : Printing) → OwnThen (hears w p printing)
  own_hears (Answers o v) = record { frame = number_filled v p.frame.held p.frame.todo own.frame; below = own.below }
  own_hears (Requests o m k) = record { frame = own.frame; below = own.below }
  own_hears NoReply = tt

  own_heard : (a : Rmsg) (k : Option Writing) → OwnThen (heard a w p k)
  own_heard a None = tt
  own_heard a (Some k) = own_hears (hear a w.outside k)

-- ---- what is held

held_by : (held : List (Option ℕ)) (b : Block) → OwnBlock held b → (n : ℕ) → Name (statement_references b) n → Name held n
held_by held Done f n h = none n h
held_by held (Turn l b) f n h = none n h
held_by held (Again l b) f n h = none n h
held_by held (Then s rest) f n h = go (is_at_end s) refl h
  where
    by_stm : (s : Stm) → is_at_end s ≡ false → OwnStm held s → Name (stm_references s) n → Name held n
    by_stm Over e f h = none n h
    by_stm (Eval t) e f h = f e n h
    by_stm (If t a b) e f h = f.0 e n h
    by_stm (While t l) e f h = f.0 e n h
    by_stm (Enter l) e f h = none n h
    by_stm (Break k) e f h = none n h
    by_stm (Continue k) e f h = none n h
    by_stm (Return t) e f h = f n h
    by_stm Leave e f h = none n h

    go : (b : Bool) → is_at_end s ≡ b → Name (if b then [] else stm_references s) n → Name held n
    go true e h = none n h
    go false e h = by_stm s e f.0 h

pub processes_own : ProcessesOwn
processes_own = record {
  modules = modules_fresh;
  first = λ m words r f. record { frame = own_fresh [] r.body f; below = tt };
  goes = λ limit program fresh w v p q own e. subst (OwnIn limit program fresh w p own) e (own_step limit program fresh w p own);
  asks = λ limit program fresh w v p q m own e. subst (OwnIn limit program fresh w p own) e (own_step limit program fresh w p own);
  hears = λ a w v p q own e. subst (OwnThen w p own) e (own_heard w p own a p.printing);
  asks_again = λ a w v p q m own e. subst (OwnThen w p own) e (own_heard w p own a p.printing);
  held = λ p own. held_by p.frame.held p.frame.todo own.frame;
}
