-- Wherever the code begins what is left to do, it goes on as the program does.
use Rattle.std.proofs.Common.{◌≡◌, ℕ, ℤ, suc, ◌+◌, false, List, [], ◌∷◌, length, Some, refl, sym, ap, ◌∙◌, arith}
use Rattle.std.specs.Prelude.{slice_get}
use Rattle.process_model.specs.Process.{Went}
use Rattle.process_model.specs.Alone.{here, on}
use Rattle.limbo_types.specs.Types.{Ty}
use Rattle.system_model.specs.Values.{Num, zero_value}
use Rattle.typed_meaning.specs.World.{World}
use Rattle.typed_meaning.specs.Trees.{Local, Place, Evaluated, Literal, Over, Set, Enter, Break, Continue, Leave, Block}
use Rattle.typed_meaning.specs.Trees.{Done, Then, behind, at_turn}
use Rattle.typed_meaning.specs.Program.{Routine}
use Rattle.typed_meaning.specs.Process as source
use Rattle.slot_code.specs.Code.{Operand, Number, Inst, Jump, Function}
use Rattle.slot_code.specs.Code as code
use Rattle.slot_code.specs.Machine.{Frame, moved, stored}
use Rattle.typed_lower.specs.Kinds.{spot_of, leaf, kind_in, is_at}
use Rattle.typed_lower.specs.Terms.{part_of, ready, one, branches}
use Rattle.typed_lower.specs.Statements.{effects, sets, moves}
use Rattle.typed_lower.specs.Stands as stands
use Rattle.typed_lower.specs.Stands.{Fresh, HasAt, beside, sourced, coded, sstep, Does, Stands, Going}
use Rattle.typed_lower.proofs.Contexts.{in_set}
use Rattle.typed_lower.proofs.Places.{has_at}
use Rattle.typed_lower.proofs.Operands.{no_steps}
use Rattle.typed_lower.proofs.Parts.{quiet_step}
use Rattle.typed_lower.proofs.Values.{stored_after}
use Rattle.typed_lower.proofs.Expressions.{goes}
use Rattle.typed_lower.proofs.Bodies.{does_at}
use Rattle.typed_lower.proofs.Begins.{stands_at, jump_going, over_ends, effects_going, if_going, return_going, set_ends, one_set, kept_sets}
use Rattle.typed_lower.proofs.Begins.{first_move, moves_stand, number_firm}
use Rattle.typed_lower.proofs.Loops.{while_going, again_going, turn_going, do_test_going, do_turn_going}

module _ (routines : List Routine) (functions : List Function) (codes : List Inst) where
  abbrev D : ℕ → Block → Type 0
  D pc todo = Does routines functions codes pc todo

  abbrev G : Frame → Block → Type 0
  G g todo = Going routines functions codes g todo

  here_at : (pc : ℕ) (g : Frame) (i : Inst) → slice_get codes pc ≡ Some i → g.pc ≡ pc → slice_get codes g.pc ≡ Some i
  here_at pc g i there at = ap (slice_get codes) at ∙ there

  -- A function's return.
  leave : (g : Frame) (todo : Block) → slice_get codes g.pc ≡ Some code.Leave
      → ((w : World) (n : ℕ) (below : List source.Frame)
      → sstep routines functions w (sourced n (beside g todo) below) ≡ source.returns w (sourced n (beside g todo) below) below zero_value)
      → G g todo
  leave g todo there step =
      stands.instruction g todo code.Leave there (λ w.
      stands.answers w g todo todo code.Leave 0 zero_value (λ n gs p. refl) (no_steps routines functions codes w g todo) (step w))

  -- A jump forward.
  forward : (k pc : ℕ) (g : Frame) (todo after : Block) → slice_get codes g.pc ≡ Some (Jump k) → g.pc ≡ pc → g.made ≡ []
      → ((w : World) (n : ℕ) (below : List _)
      → sstep routines functions w (sourced n (beside g todo) below) ≡ Went w (sourced n (beside g after) below))
      → D (suc pc + k) after → G g todo
  forward k pc g todo after there at none step d =
      jump_going routines functions codes (Jump k) g (suc g.pc + k) todo after there (λ w n gs p. refl)
      (λ w n below. on (step w n below) here)
      (stands_at routines functions codes (moved g (suc g.pc + k)) (suc pc + k) after none (ap (λ q. suc q + k) at) d)

  -- A constant, which several places get as it is.
  number_sets : (p q : Place) (ps : List Place) (ty : Ty) (z : ℤ) (rest : Block) (g : Frame) → g.made ≡ []
      → HasAt codes g.pc (moves (p ∷ q ∷ ps) (Number z)) → D (g.pc + length (moves (p ∷ q ∷ ps) (Number z))) rest
      → G g (Then (Set (p ∷ q ∷ ps) (Literal ty (Num z))) rest)
  number_sets p q ps ty z rest g none has d =
      stands.quietly g (Then (Set (p ∷ q ∷ ps) (Literal ty (Num z))) rest) (Then (Set (p ∷ q ∷ ps) (Evaluated (Num z))) rest)
      (quiet_step routines functions codes (λ u. Then (Set (p ∷ q ∷ ps) u) rest) (in_set routines (p ∷ q ∷ ps) rest) g (Literal ty (Num z))
      (Evaluated (Num z)) (λ w. refl))
      (first_move routines functions codes p (q ∷ ps) (Number z) (Num z) rest g (λ w. refl) has.0 (λ w.
      let g1 = moved g (suc g.pc) in
      let g2 = (stored w g1 (spot_of p) (Num z)).frame in
      let a = stored_after (λ x. is_at (Local x) p) 0 w g1 p (Num z) (λ x e. e) in
      moves_stand routines functions codes (q ∷ ps) (Number z) (number_firm routines functions codes z) (Num z) rest g2 (λ w1. refl)
      (a.made ∙ none)
      (has_at codes _ _ (moves (q ∷ ps) (Number z)) (sym a.place) has.1)
      (does_at routines functions codes _ _ rest (omega (arith, a.place)) d)))

  pub begins : (pc : ℕ) (todo : Block) → D pc todo → (g : Frame) → g.made ≡ [] → g.pc ≡ pc → G g todo
  begins pc _ (stands.ends _ there) g none at = leave g Done (here_at pc g code.Leave there at) (λ w n below. refl)
  begins pc _ (stands.over _ rest d) g none at =
      stands.quietly g (Then Over rest) rest (over_ends routines functions codes g rest) (begins pc rest d g none at)
  begins pc _ (stands.jumps _ k rest there d) g none at =
      forward k pc g (Then Over rest) rest (here_at pc g (Jump k) there at) at none (λ w n below. refl) d
  begins pc _ (stands.evaluates _ t rest f has d) g none at =
      effects_going routines functions codes t f g rest none (has_at codes _ _ (effects t) (sym at) has)
      (does_at routines functions codes _ _ rest (ap (λ q. q + length (effects t)) (sym at)) d)
  begins pc _ (stands.gives _ (p ∷ []) t rest f has d) g none at =
      one_set routines functions codes p t (goes routines functions codes t f).0 g rest none
      (has_at codes _ _ ((part_of t).value 0 (spot_of p)) (sym at) has)
      (does_at routines functions codes _ _ rest (ap (λ q. q + length ((part_of t).value 0 (spot_of p))) (sym at)) d)
  begins pc _ (stands.gives _ [] (Literal ty (Num z)) rest f has d) g none at =
      stands.quietly g (Then (Set [] (Literal ty (Num z))) rest) (Then (Set [] (Evaluated (Num z))) rest)
      (quiet_step routines functions codes (λ u. Then (Set [] u) rest) (in_set routines [] rest) g (Literal ty (Num z)) (Evaluated (Num z))
      (λ w. refl))
      (stands.quietly g (Then (Set [] (Evaluated (Num z))) rest) rest (set_ends routines functions codes g (Num z) rest)
      (begins (pc + 0) rest d g none (omega (arith, at))))
  begins pc _ (stands.gives _ (p ∷ q ∷ ps) (Literal ty (Num z)) rest f has d) g none at =
      number_sets p q ps ty z rest g none (has_at codes _ _ (moves (p ∷ q ∷ ps) (Number z)) (sym at) has)
      (does_at routines functions codes _ _ rest (ap (λ x. x + length (moves (p ∷ q ∷ ps) (Number z))) (sym at)) d)
  begins pc _ (stands.gives _ ps t rest f has d) g none at =
      kept_sets routines functions codes ps t (goes routines functions codes t f).0 (kind_in t) g rest none
      (has_at codes _ _ (sets ps t (leaf t)) (sym at) has)
      (does_at routines functions codes _ _ rest (ap (λ x. x + length (sets ps t (leaf t))) (sym at)) d)
  begins pc _ (stands.chooses _ n t a b rest f has d e) g none at =
      if_going routines functions codes n t a b rest f g none (has_at codes _ _ (branches false 0 t n) (sym at) has)
      (does_at routines functions codes _ _ _ (ap (λ q. q + length (branches false 0 t n)) (sym at)) d)
      (does_at routines functions codes _ _ _ (ap (λ q. q + length (branches false 0 t n) + n) (sym at)) e)
  begins pc _ (stands.breaks _ n k rest there d) g none at =
      forward k pc g (Then (Break n) rest) (behind n rest) (here_at pc g (Jump k) there at) at none (λ w m below. refl) d
  begins pc _ (stands.continues _ n k rest there d) g none at =
      forward k pc g (Then (Continue n) rest) (at_turn n rest) (here_at pc g (Jump k) there at) at none (λ w m below. refl) d
  begins pc _ (stands.returns _ t rest f has) g none at =
      return_going routines functions codes t rest f g (has_at codes _ _ (one (ready 0 (part_of t)) code.Return) (sym at) has)
  begins pc _ (stands.leaves _ rest there) g none at = leave g (Then Leave rest) (here_at pc g code.Leave there at) (λ w n below. refl)
  begins pc _ (stands.enters _ l rest d) g none at =
      stands.quietly g (Then (Enter l) rest) _ (λ w n below. refl) (begins pc _ d g none at)
  begins pc _ (stands.whiles _ l e rest c its) g none at = while_going routines functions codes pc l e rest c its g none at
  begins pc _ (stands.while_turns start l rest its) g none at = turn_going routines functions codes start l rest its g none at
  begins pc _ (stands.agains start l rest its) g none at = again_going routines functions codes start l rest its g none at
  begins pc _ (stands.do_tests start l e rest c its) g none at = do_test_going routines functions codes start l e rest c its g none at
  begins pc _ (stands.do_turns start l rest its) g none at = do_turn_going routines functions codes start l rest its g none at
