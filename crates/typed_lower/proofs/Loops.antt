-- Where the code begins a loop, or a turn of one, it goes on as the program does.
use Rattle.std.proofs.Common.{◌≡◌, ℕ, suc, ◌+◌, Bool, true, false, List, [], ◌∷◌, ◌++◌, length, Option, Some, None, refl, sym, ap, ◌∙◌}
use Rattle.std.proofs.Common.{subst, arith}
use Rattle.std.proofs.Common.{length-append}
use Rattle.std.specs.Prelude.{slice_get}
use Rattle.process_model.specs.Process.{Went}
use Rattle.process_model.specs.Alone.{here, on}
use Rattle.limbo_typed.specs.Typed as typed
use Rattle.system_model.specs.Values.{Value}
use Rattle.typed_meaning.specs.Values.{holds}
use Rattle.typed_meaning.specs.World.{World}
use Rattle.typed_meaning.specs.Trees.{Evaluated, Over, Eval, While, Enter, Loop, Looping, Block, Done, Then, Turn, Again, tested}
use Rattle.typed_meaning.specs.Trees.{entered, turned}
use Rattle.typed_meaning.specs.Program.{Routine, term_of, optional, all_before}
use Rattle.typed_meaning.specs.Step.{chosen as source_chosen}
use Rattle.slot_code.specs.Code.{Inst, Back, Function}
use Rattle.slot_code.specs.Machine.{Frame, moved, with_frames}
use Rattle.typed_lower.specs.Terms.{branches}
use Rattle.typed_lower.specs.Statements as lower
use Rattle.typed_lower.specs.Statements.{effects, done, condition, inside}
use Rattle.typed_lower.specs.Stands as stands
use Rattle.typed_lower.specs.Stands.{Fresh, FreshOption, FreshOptional, AllHandled, HasAt, beside, sourced, coded, obeys, Quiet, Does}
use Rattle.typed_lower.specs.Stands.{WhileAt, DoAt}
use Rattle.typed_lower.specs.Stands.{Stands, Going, Looped, Well, loop_of, body_code, while_code, do_code, first_test, turn_of, back_of}
use Rattle.typed_lower.specs.Stands.{test_of}
use Rattle.typed_lower.proofs.Contexts.{in_while}
use Rattle.typed_lower.proofs.Places.{has_front, has_back, has_at}
use Rattle.typed_lower.proofs.Parts.{Decides, Written}
use Rattle.typed_lower.proofs.Expressions.{goes}
use Rattle.typed_lower.proofs.Bodies.{further_many, does_at, BodyDoes, while_body, do_body, while_begins, does_stmts}
use Rattle.typed_lower.proofs.Begins.{stands_at, jump_going, over_there, effects_going}

module _ (routines : List Routine) (functions : List Function) (codes : List Inst) where
  abbrev D : ℕ → Block → Type 0
  D pc todo = Does routines functions codes pc todo

  abbrev G : Frame → Block → Type 0
  G g todo = Going routines functions codes g todo

  abbrev Q : Frame → Block → Block → Type 0
  Q g todo todo' = Quiet routines functions g todo todo'

  body_does : (l : Looped) → Well l → BodyDoes routines functions codes l
  body_does l well turn q rest has d x =
      does_stmts routines functions codes l.types l.body (inside turn l.arounds)
      (subst (λ n. AllHandled l.types n l.body) (ap suc (sym (further_many (suc (length turn)) l.arounds))) well.2) q rest has d x

  -- Back to this place.
  back_going : (m start : ℕ) (g : Frame) (todo after : Block) → slice_get codes g.pc ≡ Some (Back m) → g.pc ≡ start + m
      → ((w : World) (n : ℕ) (below : List _)
      → stands.sstep routines functions w (sourced n (beside g todo) below) ≡ Went w (sourced n (beside g after) below)) → g.made ≡ []
      → D start after → G g todo
  back_going m start g todo after there at step none d =
      jump_going routines functions codes (Back m) g start todo after there
      (λ w n gs p. ap (λ q. Went w (with_frames (coded n g gs p) (moved g q) gs)) (omega (arith, at)))
      (λ w n below. on (step w n below) here) (stands_at routines functions codes (moved g start) start after none refl d)

  -- ---- loops that test first

  while_chooses : (g : Frame) (v : Value) (b : Bool) (l : Loop) (rest : Block) → holds v ≡ b
      → Q g (Then (While (Evaluated v) l) rest) (Then Over (source_chosen b (entered l rest) rest))
  while_chooses g v b l rest e w n below =
      ap (λ c. Went w (sourced n (beside g (Then Over (source_chosen c (entered l rest) rest))) below)) e

  abbrev passes_of : Looped → ℕ
  passes_of l = suc (length (body_code (lower.optional l.next) l) + length (lower.optional l.next))

  pub while_going : (start : ℕ) (l : Looped) (e : typed.Expr) (rest : Block) → l.condition ≡ Some e
      → WhileAt routines functions codes start l rest
      → (g : Frame) → g.made ≡ [] → g.pc ≡ start → G g (Then (While (term_of e) (loop_of l)) rest)
  while_going start l e rest c its g none at = by its
    where
      N : List Inst
      N = lower.optional l.next

      B : List Inst
      B = body_code N l

      T : List Inst
      T = first_test l

      K : List Inst
      K = Back (length T + length B + length N) ∷ []

      n : ℕ
      n = passes_of l

      many : length (while_code l) ≡ length T + (length B + (length N + 1))
      many = omega (arith, length-append (T ++ B ++ N) K, length-append (T ++ B) N, length-append T B)

      same : T ≡ branches false 0 (term_of e) n
      same = ap (λ o. condition o n) c

      by : WhileAt routines functions codes start l rest → G g (Then (While (term_of e) (loop_of l)) rest)
      by (stands.while_at _ _ _ well has d x) =
          (goes routines functions codes (term_of e) (subst FreshOption c well.0)).1 false 0 n (λ u. Then (While u (loop_of l)) rest) g
          (in_while routines (loop_of l) rest)
          (has_at codes _ _ (branches false 0 (term_of e) n) (sym at)
          (subst (λ t. HasAt codes start t) same
          (has_front codes start T B (has_front codes start (T ++ B) N (has_front codes start (T ++ B ++ N) K has)))))
          leads
        where
          long : length (branches false 0 (term_of e) n) ≡ length T
          long = ap length (sym same)

          leads : Decides routines functions codes (λ u. Then (While u (loop_of l)) rest) (Written routines functions codes (term_of e))
              false 0
              (g.pc + length (branches false 0 (term_of e) n)) n g
          leads g' true v a h = (
            Then Over (entered (loop_of l) rest),
            while_chooses g' v true (loop_of l) rest h,
            over_there routines functions codes g' (start + length T) (entered (loop_of l) rest) (a.made ∙ none)
                (a.place ∙ omega (arith, at, long))
                (while_body routines functions codes l (body_does l well) start rest its),
          )
          leads g' false v a h = (
            Then Over rest,
            while_chooses g' v false (loop_of l) rest h,
            over_there routines functions codes g' (start + length (while_code l)) rest (a.made ∙ none)
                (a.place ∙ omega (arith, at, long, many)) d,
          )

  -- Its way back.
  pub again_going : (start : ℕ) (l : Looped) (rest : Block) → WhileAt routines functions codes start l rest → (g : Frame) → g.made ≡ []
      → g.pc ≡ back_of start l → G g (Again (loop_of l) rest)
  again_going start l rest its g none at = by its
    where
      N : List Inst
      N = lower.optional l.next

      B : List Inst
      B = body_code N l

      T : List Inst
      T = first_test l

      m : ℕ
      m = length T + length B + length N

      many : length (T ++ B ++ N) ≡ length T + length B + length N
      many = omega (arith, length-append (T ++ B) N, length-append T B)

      by : WhileAt routines functions codes start l rest → G g (Again (loop_of l) rest)
      by (stands.while_at _ _ _ well has d x) =
          back_going m start g (Again (loop_of l) rest) (tested (loop_of l) rest)
          (has_at codes _ _ (Back m ∷ []) (omega (arith, many, at)) (has_back codes start (T ++ B ++ N) (Back m ∷ []) has)).0
          (omega (arith, at)) (λ w n below. refl) none
          (while_begins routines functions codes l (body_does l well) start rest l.condition refl its)

  -- Its next turn.
  turn_by : (start : ℕ) (l : Looped) (rest : Block) → WhileAt routines functions codes start l rest → (g : Frame) → g.made ≡ []
      → g.pc ≡ turn_of start l → (o : Option typed.Expr) → l.next ≡ o → G g (Turn (loop_of l) rest)
  turn_by start l rest its g none at None e = by its
    where
      N : List Inst
      N = lower.optional l.next

      B : List Inst
      B = body_code N l

      T : List Inst
      T = first_test l

      m : ℕ
      m = length T + length B + length N

      many : length (T ++ B ++ N) ≡ length T + length B + length N
      many = omega (arith, length-append (T ++ B) N, length-append T B)

      nothing : length N ≡ 0
      nothing = ap (λ o. length (lower.optional o)) e

      turns : turned (loop_of l) rest ≡ tested (loop_of l) rest
      turns =
          ap (λ o. turned (Looping (optional l.condition) (optional o) (all_before l.types l.body Done)) rest) e
          ∙ ap (λ o. tested (Looping (optional l.condition) (optional o) (all_before l.types l.body Done)) rest) (sym e)

      by : WhileAt routines functions codes start l rest → G g (Turn (loop_of l) rest)
      by (stands.while_at _ _ _ well has d x) =
          back_going m start g (Turn (loop_of l) rest) (tested (loop_of l) rest)
          (has_at codes _ _ (Back m ∷ []) (omega (arith, many, at, nothing)) (has_back codes start (T ++ B ++ N) (Back m ∷ []) has)).0
          (omega (arith, at, nothing)) (λ w n below. ap (λ x. Went w (sourced n (beside g x) below)) turns) none
          (while_begins routines functions codes l (body_does l well) start rest l.condition refl its)
  turn_by start l rest its g none at (Some e) next = by its
    where
      N : List Inst
      N = lower.optional l.next

      B : List Inst
      B = body_code N l

      T : List Inst
      T = first_test l

      K : List Inst
      K = Back (length T + length B + length N) ∷ []

      turns : turned (loop_of l) rest ≡ Then (Eval (term_of e)) (Again (loop_of l) rest)
      turns =
          ap (λ o. turned (Looping (optional l.condition) (optional o) (all_before l.types l.body Done)) rest) next
          ∙ ap (λ o. Then (Eval (term_of e)) (Again (Looping (optional l.condition) (optional o) (all_before l.types l.body Done)) rest))
          (sym next)

      by : WhileAt routines functions codes start l rest → G g (Turn (loop_of l) rest)
      by (stands.while_at _ _ _ well has d x) =
          stands.quietly g (Turn (loop_of l) rest) (Then (Eval (term_of e)) (Again (loop_of l) rest))
          (λ w n below. ap (λ x. Went w (sourced n (beside g x) below)) turns)
          (effects_going routines functions codes (term_of e) fresh.0 g (Again (loop_of l) rest) none
          (has_at codes _ _ (effects (term_of e)) (omega (arith, length-append T B, at))
          (subst (λ i. HasAt codes (start + length (T ++ B)) i) same
          (has_back codes start (T ++ B) N (has_front codes start (T ++ B ++ N) K has))))
          (does_at routines functions codes (back_of start l) _ (Again (loop_of l) rest)
          (ap (λ i. turn_of start l + length i) same ∙ ap (λ q. q + length (effects (term_of e))) (sym at))
          (stands.agains start l rest its)))
        where
          fresh : FreshOptional (Some e)
          fresh = subst FreshOptional next well.1

          same : N ≡ effects (term_of e)
          same = ap lower.optional next ∙ ap done fresh.1

  pub turn_going : (start : ℕ) (l : Looped) (rest : Block) → WhileAt routines functions codes start l rest → (g : Frame) → g.made ≡ []
      → g.pc ≡ turn_of start l → G g (Turn (loop_of l) rest)
  turn_going start l rest its g none at = turn_by start l rest its g none at l.next refl

  -- ---- loops that test last

  pub do_test_going : (start : ℕ) (l : Looped) (e : typed.Expr) (rest : Block) → l.condition ≡ Some e
      → DoAt routines functions codes start l rest
      → (g : Frame) → g.made ≡ [] → g.pc ≡ test_of start l → G g (Then (While (term_of e) (loop_of l)) rest)
  do_test_going start l e rest c its g none at = by its
    where
      T : List Inst
      T = condition l.condition 1

      B : List Inst
      B = body_code T l

      m : ℕ
      m = length B + length T

      K : List Inst
      K = Back m ∷ []

      C : List Inst
      C = branches false 0 (term_of e) 1

      many : length (do_code l) ≡ length B + (length T + 1)
      many = omega (arith, length-append (B ++ T) K, length-append B T)

      same : T ≡ C
      same = ap (λ o. condition o 1) c

      long : length C ≡ length T
      long = ap length (sym same)

      by : DoAt routines functions codes start l rest → G g (Then (While (term_of e) (loop_of l)) rest)
      by (stands.do_at _ _ _ well next has d x) =
          (goes routines functions codes (term_of e) (subst FreshOption c well.0)).1 false 0 1 (λ u. Then (While u (loop_of l)) rest) g
          (in_while routines (loop_of l) rest)
          (has_at codes _ _ C (sym at) (subst (λ t. HasAt codes (start + length B) t) same
          (has_back codes start B T (has_front codes start (B ++ T) K has))))
          leads
        where
          leads : Decides routines functions codes (λ u. Then (While u (loop_of l)) rest) (Written routines functions codes (term_of e))
              false 0
              (g.pc + length C) 1 g
          leads g' true v a h = (
            Then Over (entered (loop_of l) rest),
            while_chooses g' v true (loop_of l) rest h,
            stands.going g' (Then Over (entered (loop_of l) rest))
                (back_going m start g' (Then Over (entered (loop_of l) rest)) (entered (loop_of l) rest)
                (has_at codes _ _ K (omega (arith, at, long, a.place, length-append B T)) (has_back codes start (B ++ T) K has)).0
                (omega (arith, at, long, a.place)) (λ w n below. refl) (a.made ∙ none)
                (do_body routines functions codes l (body_does l well) start rest its)),
          )
          leads g' false v a h = (
            Then Over rest,
            while_chooses g' v false (loop_of l) rest h,
            over_there routines functions codes g' (start + length (do_code l)) rest (a.made ∙ none)
                (a.place ∙ omega (arith, at, long, many)) d,
          )

  do_turn_by : (start : ℕ) (l : Looped) (rest : Block) → DoAt routines functions codes start l rest → (g : Frame) → g.made ≡ []
      → g.pc ≡ test_of start l → (o : Option typed.Expr) → l.condition ≡ o → G g (Turn (loop_of l) rest)
  do_turn_by start l rest its g none at (Some e) c = by its
    where
      by : DoAt routines functions codes start l rest → G g (Turn (loop_of l) rest)
      by (stands.do_at _ _ _ well next has d x) =
          stands.quietly g (Turn (loop_of l) rest) (Then (While (term_of e) (loop_of l)) rest)
          (λ w n below. ap (λ x. Went w (sourced n (beside g x) below)) turns) (do_test_going start l e rest c its g none at)
        where
          turns : turned (loop_of l) rest ≡ Then (While (term_of e) (loop_of l)) rest
          turns =
              ap (λ o. turned (Looping (optional l.condition) (optional o) (all_before l.types l.body Done)) rest) next
              ∙ ap (λ o. tested (Looping (optional o) None (all_before l.types l.body Done)) rest) c
              ∙ ap (λ o. Then (While (term_of e) (Looping (optional o) None (all_before l.types l.body Done))) rest) (sym c)
              ∙ ap (λ o. Then (While (term_of e) (Looping (optional l.condition) (optional o) (all_before l.types l.body Done))) rest)
              (sym next)
  do_turn_by start l rest its g none at None c = by its
    where
      T : List Inst
      T = condition l.condition 1

      B : List Inst
      B = body_code T l

      m : ℕ
      m = length B + length T

      nothing : length T ≡ 0
      nothing = ap (λ o. length (condition o 1)) c

      by : DoAt routines functions codes start l rest → G g (Turn (loop_of l) rest)
      by (stands.do_at _ _ _ well next has d x) =
          back_going m start g (Turn (loop_of l) rest) (Then (Enter (loop_of l)) rest)
          (has_at codes _ _ (Back m ∷ []) (omega (arith, at, nothing, length-append B T))
          (has_back codes start (B ++ T) (Back m ∷ []) has)).0
          (omega (arith, at, nothing)) (λ w n below. ap (λ x. Went w (sourced n (beside g x) below)) turns) none
          (stands.enters start (loop_of l) rest (do_body routines functions codes l (body_does l well) start rest its))
        where
          turns : turned (loop_of l) rest ≡ Then (Enter (loop_of l)) rest
          turns =
              ap (λ o. turned (Looping (optional l.condition) (optional o) (all_before l.types l.body Done)) rest) next
              ∙ ap (λ o. tested (Looping (optional o) None (all_before l.types l.body Done)) rest) c
              ∙ ap (λ o. Then (Enter (Looping (optional o) None (all_before l.types l.body Done))) rest) (sym c)
              ∙ ap (λ o. Then (Enter (Looping (optional l.condition) (optional o) (all_before l.types l.body Done))) rest) (sym next)

  pub do_turn_going : (start : ℕ) (l : Looped) (rest : Block) → DoAt routines functions codes start l rest → (g : Frame) → g.made ≡ []
      → g.pc ≡ test_of start l → G g (Turn (loop_of l) rest)
  do_turn_going start l rest its g none at = do_turn_by start l rest its g none at l.condition refl
