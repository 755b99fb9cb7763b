-- What a process comes to name by a step was named by it, or is in the heap, or is new.
use Rattle.std.proofs.Common.{◌≡◌, ℕ, ◌+◌, ◌<◌, ◌≤◌, Bool, true, false, List, [], ◌∷◌, ◌++◌, length, Option, None, Some, ◌⊎◌, inl, inr}
use Rattle.std.proofs.Common.{refl, sym, ap, subst, ◌∙◌, arith, nat_lt}
use Rattle.std.specs.Prelude.{slice_get, if◌then◌else◌}
use Rattle.process_model.specs.Process.{Went, Ends}
use Rattle.limbo_layout.specs.Adts.{Def}
use Rattle.limbo_types.specs.Types.{Ty}
use Rattle.system_model.specs.Prints.{Printing, Answers, Requests, NoReply, print}
use Rattle.system_model.specs.Ending.{Broken}
use Rattle.limbo_meaning.specs.Values.{Value, nothing, fitted, all_fitted, references, references_in, one, among}
use Rattle.limbo_meaning.specs.Memory.{Memory}
use Rattle.limbo_meaning.specs.Exceptions.{stack_overflow}
use Rattle.limbo_meaning.specs.Operations.{holds}
use Rattle.limbo_meaning.specs.Trees.{Term, Stm, Over, Eval, If, While, Enter, Break, Continue, Return, Leave, Block, Done, Then, Turn}
use Rattle.limbo_meaning.specs.Trees.{Again}
use Rattle.limbo_meaning.specs.Trees.{join, tested, entered, turned, behind, at_turn}
use Rattle.limbo_meaning.specs.Evaluation.{Progress, Finished, Stepped, Calls, Prints, Raises, Blocked, fill_block}
use Rattle.limbo_meaning.specs.Program.{Routine, Program}
use Rattle.limbo_meaning.specs.Process.{Shared, Frame, Process, Does, memory_of, frame_names, frames_name, process_names, framed}
use Rattle.limbo_meaning.specs.Process.{frame_of, with_frames, height}
use Rattle.limbo_meaning.specs.Process.{value_of, goes, drops, stepped, returns, calls, prints, answered}
use Rattle.limbo_meaning.specs.Step.{chosen, evaluate, progress, act, work}
use Rattle.limbo_meaning.specs.Origins.{Name, term_references, stm_references, statement_references, InMemory, TreeIsHeld, InHeap}
use Rattle.limbo_meaning.specs.Origins.{ProcessesNameSo}
use Rattle.limbo_meaning.specs.Holding.{is_evaluated, is_at_end}
use Rattle.limbo_meaning.proofs.Busy.{IsBusy, not_value}
use Rattle.limbo_meaning.proofs.Names.{Sub, none, either, left, right, in_fitted, zero_names}
use Rattle.limbo_meaning.proofs.Origins.{of_two}
use Rattle.limbo_meaning.proofs.TreeNames.{So, SoBy, tree_so}

-- a frame names n: its instance, its variables or what it holds
pub data FrameNames (f : Frame) (n : ℕ) : Type 0 where
  by_instance : Name (Some f.instance ∷ []) n → FrameNames f n
  by_variables : Name (references_in f.variables) n → FrameNames f n
  by_held : Name f.held n → FrameNames f n

names_of : (f : Frame) (n : ℕ) → 0 < frame_names f n → FrameNames f n
names_of f n h = elim (of_two (one n (Some f.instance)) (among n (references_in f.variables) + among n f.held) h) [
  | inl y ↦ by_instance (omega (arith, y))
  | inr y ↦ elim (of_two (among n (references_in f.variables)) (among n f.held) y) [ inl z ↦ by_variables z | inr z ↦ by_held z ]
]

of_names : (f : Frame) (n : ℕ) → FrameNames f n → 0 < frame_names f n
of_names f n (by_instance h) = omega (arith, h)
of_names f n (by_variables h) = omega (arith, h)
of_names f n (by_held h) = omega (arith, h)

in_all_fitted : (defs : List Def) (ts : List Ty) (vs : List Value) → Sub (references_in (all_fitted defs ts vs)) (references_in vs)
in_all_fitted defs [] vs n h = none n h
in_all_fitted defs (t ∷ ts) [] n h = elim (either (references (fitted defs t nothing)) (references_in (all_fitted defs ts [])) n h) [
  | inl y ↦ zero_names defs t n y
  | inr y ↦ in_all_fitted defs ts [] n y
]
in_all_fitted defs (t ∷ ts) (v ∷ vs) n h = elim (either (references (fitted defs t v)) (references_in (all_fitted defs ts vs)) n h) [
  | inl y ↦ left (references v) (references_in vs) n (in_fitted defs t v n y)
  | inr y ↦ right (references v) (references_in vs) n (in_all_fitted defs ts vs n y)
]

module _ (limit : ℕ) (program : Program) (w : Shared) (p : Process) (held : TreeIsHeld p) where
  abbrev Was : ℕ → Type 0
  Was n = (0 < process_names p n) ⊎ (InHeap w n ⊎ (length w.heap ≤ n))

  abbrev NamesSo : Does → Type 0
  NamesSo (Went v q) = (n : ℕ) → 0 < process_names q n → Was n
  NamesSo _ = Unit {0}

  -- what the frame that runs named, and those below
  own : (n : ℕ) → FrameNames p.frame n → Was n
  own n h = let z = of_names p.frame n h in inl (omega (arith, z))

  lower : (n : ℕ) → 0 < frames_name p.below n → Was n
  lower n h = inl (omega (arith, h))

  -- a frame in place of the one that runs
  in_place : (f : Frame) → ((n : ℕ) → FrameNames f n → Was n) → (n : ℕ) → 0 < frame_names f n + frames_name p.below n → Was n
  in_place f k n h = elim (of_two (frame_names f n) (frames_name p.below n) h) [ inl y ↦ k n (names_of f n y) | inr y ↦ lower n y ]

  same_names : (todo : Block) (n : ℕ) → FrameNames (framed p.frame p.frame.variables p.frame.held todo) n → Was n
  same_names todo n (by_instance h) = own n (by_instance h)
  same_names todo n (by_variables h) = own n (by_variables h)
  same_names todo n (by_held h) = own n (by_held h)

  so_goes : (todo : Block) → NamesSo (goes w p todo)
  so_goes todo = in_place (framed p.frame p.frame.variables p.frame.held todo) (same_names todo)

  so_drops : (rs : List (Option ℕ)) → p.frame.held ≡ rs → (done : Does) → NamesSo done → NamesSo (drops w p rs done)
  so_drops [] e done k = k
  so_drops (r ∷ rs) e done k = in_place (framed p.frame p.frame.variables rs p.frame.todo) fewer
    where
      fewer : (n : ℕ) → FrameNames (framed p.frame p.frame.variables rs p.frame.todo) n → Was n
      fewer n (by_instance h) = own n (by_instance h)
      fewer n (by_variables h) = own n (by_variables h)
      fewer n (by_held h) = own n (by_held (subst (λ held. Name held n) (sym e) (right (r ∷ []) rs n h)))

  -- what the tree of the statement names is held
  module _ (t : Term) (mine : Sub (term_references t) (statement_references p.frame.todo)) where
    by_tree : (n : ℕ) → Name (term_references t) n → Was n
    by_tree n h = own n (by_held (held n (mine n h)))

    by_memory : (n : ℕ) → InMemory (memory_of w p.frame) n → Was n
    by_memory n (inl h) = own n (by_variables h)
    by_memory n (inr h) = inr (inl h)

    so_stepped : (m : Memory) (got : List (Option ℕ)) (us : List (Option ℕ)) (todo : Block)
        → So (memory_of w p.frame) (term_references t) m got us → NamesSo (stepped w p m got todo)
    so_stepped m got us todo s = in_place (framed p.frame m.variables (p.frame.held ++ got) todo) now
      where
        now : (n : ℕ) → FrameNames (framed p.frame m.variables (p.frame.held ++ got) todo) n → Was n
        now n (by_instance h) = own n (by_instance h)
        now n (by_variables h) = elim (s.in_memory n (inl h)) [ inl y ↦ by_memory n y | inr y ↦ by_tree n y ]
        now n (by_held h) = elim (either p.frame.held got n h) [
          | inl y ↦ own n (by_held y)
          | inr y ↦ elim (s.in_got n y) [ inl z ↦ by_tree n z | inr z ↦ elim z [ inl x ↦ by_memory n x | inr x ↦ inr (inr x) ] ]
        ]

    so_calls : (waits : Block) (a : Ty) (r : Option Routine) (args : List Value) → Sub (references_in args) (term_references t)
        → NamesSo (calls program.adts limit w p waits a r args)
    so_calls waits a None args sub = tt
    so_calls waits a (Some r) args sub = go (nat_lt (height p) limit)
      where
        callee : (n : ℕ) → FrameNames (frame_of program.adts p.frame.instance r a args) n → Was n
        callee n (by_instance h) = own n (by_instance h)
        callee n (by_variables h) = by_tree n (sub n (in_all_fitted program.adts r.variables args n h))
        callee n (by_held h) = none n h

        go : (b : Bool) → NamesSo (if b
            then Went w (with_frames p (frame_of program.adts p.frame.instance r a args)
            (framed p.frame p.frame.variables p.frame.held waits ∷ p.below))
            else Ends w (Broken stack_overflow))
        go true = λ n h. elim (of_two (frame_names (frame_of program.adts p.frame.instance r a args) n)
            (frames_name (framed p.frame p.frame.variables p.frame.held waits ∷ p.below) n) h) [
              | inl y ↦ callee n (names_of (frame_of program.adts p.frame.instance r a args) n y)
              | inr y ↦ in_place (framed p.frame p.frame.variables p.frame.held waits) (same_names waits) n y
            ]
        go false = tt

  module _ (v : Value) (f : (n : ℕ) → Name (references v) n → Was n) (g : Frame) (waited : (n : ℕ) → FrameNames g n → Was n) where
    caller : (n : ℕ) → FrameNames (answered g (fitted program.adts p.frame.answer v)) n → Was n
    caller n (by_instance y) = waited n (by_instance y)
    caller n (by_variables y) = waited n (by_variables y)
    caller n (by_held y) = elim (either g.held (references (fitted program.adts p.frame.answer v)) n y) [
      | inl z ↦ waited n (by_held z)
      | inr z ↦ f n (in_fitted program.adts p.frame.answer v n z)
    ]

  so_returns : (v : Value) → ((n : ℕ) → Name (references v) n → Was n) → (below : List Frame) → p.below ≡ below
      → NamesSo (returns program.adts w p below v)
  so_returns v f [] e = tt
  so_returns v f (g ∷ below) e = λ n h.
      let u = fitted program.adts p.frame.answer v in
      elim (of_two (frame_names (answered g u) n) (frames_name below n) h) [
        | inl y ↦ caller v f g (λ n x. let z = of_names g n x in lower n
            (subst (λ fs. 0 < frames_name fs n) (sym e) (omega (arith, z)))) n (names_of (answered g u) n y)
        | inr y ↦ lower n (subst (λ fs. 0 < frames_name fs n) (sym e) (omega (arith, y)))
      ]

  so_prints : (todo : Block) (printing : Printing) → NamesSo (prints w p todo printing)
  so_prints todo (Answers o v) =
      in_place (framed p.frame p.frame.variables p.frame.held (fill_block (value_of v) todo)) (same_names (fill_block (value_of v) todo))
  so_prints todo (Requests o m k) = tt
  so_prints todo NoReply = tt

  -- unless the tree is a value, it is the one that is spoken of
  abbrev Mine : Term → Type 0
  Mine t = is_evaluated t ≡ false → Sub (term_references t) (statement_references p.frame.todo)

  mine_by : (t : Term) (pr : Progress Value Term) → Mine t → progress limit program w p t ≡ pr → IsBusy pr
      → Sub (term_references t) (statement_references p.frame.todo)
  mine_by t pr mine e b = mine (not_value program.adts (memory_of w p.frame) t pr e b)

  so_evaluate : (rest : Block) (t : Term) → Mine t → (pr : Progress Value Term) → progress limit program w p t ≡ pr
      → SoBy (memory_of w p.frame) references term_references (term_references t) pr → (within : Term → Stm) (use_it : Value → Does)
      → ((v : Value) → Sub (references v) (term_references t) → NamesSo (use_it v))
      → NamesSo (evaluate limit program w p rest pr within use_it)
  so_evaluate rest t mine (Finished v) e s within use_it k = k v s
  so_evaluate rest t mine (Stepped m got u) e s within use_it k =
      so_stepped t (mine_by t (Stepped m got u) mine e tt) m got (term_references u) (Then (within u) rest) s
  so_evaluate rest t mine (Calls a f args u) e s within use_it k =
      so_calls t (mine_by t (Calls a f args u) mine e tt) (Then (within u) rest) a (slice_get program.routines f) args s.0
  so_evaluate rest t mine (Prints text u) e s within use_it k = so_prints (Then (within u) rest) (print w.outside text)
  so_evaluate rest t mine (Raises text) e s within use_it k = tt
  so_evaluate rest t mine Blocked e s within use_it k = tt

  progress_so : (t : Term) → SoBy (memory_of w p.frame) references term_references (term_references t) (progress limit program w p t)
  progress_so t = tree_so program.adts (memory_of w p.frame) t

  -- the statement's words, where it isn't at its end
  words_are : (s : Stm) (rest : Block) (rs : List (Option ℕ)) → p.frame.todo ≡ Then s rest → is_at_end s ≡ false → stm_references s ≡ rs
      → Sub rs (statement_references p.frame.todo)
  words_are s rest rs e f g n h = subst (λ rs. Name rs n) (sym
      (ap statement_references e ∙ (ap (λ b. if b then [] else stm_references s) f ∙ g))) h

  so_act : (s : Stm) (rest : Block) → p.frame.todo ≡ Then s rest → NamesSo (act limit program w p s rest)
  so_act Over rest e = so_drops p.frame.held refl _ (so_goes rest)
  so_act (Eval t) rest e =
      so_evaluate rest t (λ x. words_are (Eval t) rest _ e x refl) (progress limit program w p t) refl (progress_so t) Eval _
      (λ v f. so_drops p.frame.held refl _ (so_goes rest))
  so_act (If t a b) rest e =
      so_evaluate rest t (λ x. words_are (If t a b) rest _ e x refl) (progress limit program w p t) refl (progress_so t) (λ t. If t a b) _
      (λ v f. so_drops p.frame.held refl _ (so_goes (Then Over (join (chosen (holds v) a b) (Then Over rest)))))
  so_act (While t l) rest e =
      so_evaluate rest t (λ x. words_are (While t l) rest _ e x refl) (progress limit program w p t) refl (progress_so t) (λ t. While t l) _
      (λ v f. so_drops p.frame.held refl _ (so_goes (Then Over (chosen (holds v) (entered l rest) rest))))
  so_act (Enter l) rest e = so_goes (entered l rest)
  so_act (Break n) rest e = so_goes (behind n rest)
  so_act (Continue n) rest e = so_goes (at_turn n rest)
  so_act (Return t) rest e =
      let mine = words_are (Return t) rest _ e refl refl in
      so_evaluate rest t (λ x. mine) (progress limit program w p t) refl (progress_so t) Return _
      (λ v f. so_returns v (λ n h. by_tree t mine n (f n h)) p.below refl)
  so_act Leave rest e = so_returns nothing (λ n h. none n h) p.below refl

  so_work : (todo : Block) → p.frame.todo ≡ todo → NamesSo (work limit program w p todo)
  so_work Done e = so_returns nothing (λ n h. none n h) p.below refl
  so_work (Then s rest) e = so_act s rest e
  so_work (Turn l rest) e = so_goes (turned l rest)
  so_work (Again l rest) e = so_goes (tested l rest)

pub processes_name_so : ProcessesNameSo
processes_name_so limit program w v p q held e = subst (NamesSo limit program w p held) e (so_work limit program w p held p.frame.todo refl)
