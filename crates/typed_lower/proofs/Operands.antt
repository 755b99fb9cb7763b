-- Operands, and instructions that leave a value at its place.
use Rattle.std.proofs.Common.{◌≡◌, ℕ, suc, ◌+◌, Bool, true, List, [], ◌∷◌, Some, refl, sym, ap, ◌∙◌, subst, arith}
use Rattle.std.proofs.lemmas.Option.{none-some, same_Some}
use Rattle.std.specs.Prelude.{slice_get, Result, Ok, Err}
use Rattle.process_model.specs.Alone.{here, on}
use Rattle.limbo_values.specs.declared.raised.Raised.{Raised}
use Rattle.limbo_values.specs.Operators.{text_of}
use Rattle.limbo_typed.specs.declared.operation.Operation.{Operation}
use Rattle.limbo_typed.specs.declared.operation.Given.{Given}
use Rattle.system_model.specs.Values.{Value, Num}
use Rattle.typed_meaning.specs.Values.{result_of}
use Rattle.typed_meaning.specs.World.{World}
use Rattle.typed_meaning.specs.Trees.{Local, Global, Place, At, Term, Evaluated, Literal, Read, Apply, Change, Put, Terms, NoTerms}
use Rattle.typed_meaning.specs.Trees.{MoreTerms, Block}
use Rattle.typed_meaning.specs.Program.{Routine}
use Rattle.typed_meaning.specs.Evaluation.{Stepped, gives, given_by, stored_at, next, fill, fill_all}
use Rattle.typed_meaning.specs.Process.{reads}
use Rattle.slot_code.specs.Code.{Spot, Operand, In, Number, Inst, Move, Hand, Alter, Operate, Function}
use Rattle.slot_code.specs.Machine.{Frame, moved, stored, value_of, held_in}
use Rattle.slot_code.specs.Machine as machine
use Rattle.slot_code.specs.Step as code_step
use Rattle.typed_lower.specs.Kinds.{spot_at, leaf}
use Rattle.typed_lower.specs.Stands as stands
use Rattle.typed_lower.specs.Stands.{Fresh, HasAt, is_silent, beside, sourced, coded, sstep, obeys, Bursts, Quiet, Stands, Going, Next}
use Rattle.typed_lower.specs.Stands.{Arrives}
use Rattle.typed_lower.proofs.Contexts.{NotDone, Hole, HoleAmong, Context, stepped, within_hole, first_among, later_among, in_apply}
use Rattle.typed_lower.proofs.Contexts.{in_change}
use Rattle.typed_lower.proofs.Follows.{goes_then}
use Rattle.typed_lower.proofs.Places.{After}

-- ---- operands

-- An operand is what a tree is or will be: a leaf that is still to be read, or a value, whatever the world then is.
pub data Holds (g : Frame) (x : Operand) : Term → Type 0 where
  a_leaf : (u : Term) → leaf u ≡ Some x → Holds g x u
  a_value : (v : Value) → ((w : World) → value_of w g x ≡ v) → Holds g x (Evaluated v)

-- What a leaf steps to.
pub leaf_step : (w : World) (g : Frame) (todo : Block) (x : Operand) (u : Term) → leaf u ≡ Some x
    → next (reads w (beside g todo)) u ≡ Stepped (Evaluated (value_of w g x))
leaf_step w g todo x (Literal t (Num z)) e = ap (λ y. Stepped (Evaluated (value_of w g y))) (same_Some (Number z) x e)
leaf_step w g todo x (Read (At t (Local n))) e =
    ap (λ y. Stepped (Evaluated (value_of w g y))) (same_Some (In (spot_at t (Local n))) x e)
leaf_step w g todo x (Read (At t (Global n))) e =
    ap (λ y. Stepped (Evaluated (value_of w g y))) (same_Some (In (spot_at t (Global n))) x e)
leaf_step w g todo x _ e = absurd (none-some x e)

pub leaf_still : (v : Value) (u : Term) (x : Operand) → leaf u ≡ Some x → fill v u ≡ u
leaf_still v (Literal t (Num z)) x e = refl
leaf_still v (Read p) x e = refl
leaf_still v _ x e = absurd (none-some x e)

pub holds_still : (g : Frame) (x : Operand) (u : Term) → Holds g x u → (v : Value) → fill v u ≡ u
holds_still g x _ (a_leaf u e) v = leaf_still v u x e
holds_still g x _ (a_value y e) v = refl

pub not_done : (r : Place → Value) (t u : Term) → next r t ≡ Stepped u → NotDone (next r t)
not_done r t u e = subst NotDone (sym e) tt

pub no_terms : (v : Value) → fill_all v NoTerms ≡ NoTerms
no_terms v = refl

module _ (routines : List Routine) (functions : List Function) (codes : List Inst) where
  -- ---- steps of trees

  abbrev pub Steps : ℕ → World → Frame → Block → Block → Type 0
  Steps k w g todo todo' = Bursts routines functions k w g todo w g todo'

  pub no_steps : (w : World) (g : Frame) (todo : Block) → Steps 0 w g todo todo
  no_steps w g todo n below = here

  pub one_step : (within : Term → Block) → Context routines within → (w : World) (g : Frame) (t u : Term)
      → next (reads w (beside g (within t))) t ≡ Stepped u → Steps 1 w g (within t) (within u)
  one_step within c w g t u e n below =
      on (c.acts w g n below t (not_done (reads w (beside g (within t))) t u e)
      ∙ ap (λ x. stepped routines w (sourced n (beside g (within t)) below) x within) e) here

  pub as_many : (j k : ℕ) (w w' : World) (g g' : Frame) (a b : Block) → j ≡ k → Bursts routines functions j w g a w' g' b
      → Bursts routines functions k w g a w' g' b
  as_many j k w w' g g' a b e h = subst (λ m. Bursts routines functions m w g a w' g' b) e h

  pub steps_then : (j k : ℕ) (w w1 w2 : World) (g g1 g2 : Frame) (a b c : Block) → Bursts routines functions j w g a w1 g1 b
      → Bursts routines functions k w1 g1 b w2 g2 c → Bursts routines functions (j + k) w g a w2 g2 c
  steps_then j k w w1 w2 g g1 g2 a b c h i n below =
      goes_then routines functions w w1 w2 (sourced n (beside g a) below) (sourced n (beside g1 b) below)
      (sourced n (beside g2 c) below) j k (h n below) (i n below)

  -- An operand's tree becomes its value, in a step or in none.
  pub read_it : (within : Term → Block) → Context routines within → (w : World) (g : Frame) (x : Operand) (u : Term) → Holds g x u
      → (j : ℕ) × Steps j w g (within u) (within (Evaluated (value_of w g x)))
  read_it within c w g x _ (a_leaf u e) = (1, one_step within c w g u (Evaluated (value_of w g x)) (leaf_step w g (within u) x u e))
  read_it within c w g x _ (a_value v e) = (
    0,
    subst (λ (y : Value). Steps 0 w g (within (Evaluated v)) (within (Evaluated y))) (sym (e w))
        (no_steps w g (within (Evaluated v))),
  )

  -- ---- a value comes to its place

  abbrev pub Comes : World → Frame → Spot → Value → Block → Type 0
  Comes w g s v todo = (j : ℕ) × Arrives routines functions codes j w g s v todo

  -- What stands behind some code that leaves a value there, whatever the value and the world.
  abbrev pub Delivers : Spot → (Term → Block) → (written : ℕ → Bool) → (d pc : ℕ) → Frame → Type 0
  Delivers s within written d pc g =
      (g' : Frame) → After written d pc g g' → (w : World) (v : Value) → Comes w g' s v (within (Evaluated v))

  pub moved_on : (written : ℕ → Bool) (d : ℕ) (g : Frame) → After written d (suc g.pc) g (moved g (suc g.pc))
  moved_on written d g =
      record { place = refl; function = refl; instance = refl; made = refl; low = λ k n l. refl; kept = λ x e. refl }

  abbrev pub IsNext : Inst → Frame → Spot → (World → Value) → Type 0
  IsNext i g s v =
      (w : World) (n : ℕ) (gs : List Frame) (p : _)
      → obeys routines functions w (coded n g gs p) i ≡ machine.next w (coded n g gs p) s (v w)

  -- An instruction that moves an operand to its place.
  pub put_going : (i : Inst) (s : Spot) (x : Operand) (u : Term) (within : Term → Block) (g : Frame) → Context routines within
      → slice_get codes g.pc ≡ Some i → IsNext i g s (λ w. value_of w g x)
      → (reading : (w : World) → (j : ℕ) × Steps j w g (within u) (within (Evaluated (value_of w g x))))
      → (arrives : (w : World) → Comes w (moved g (suc g.pc)) s (value_of w g x) (within (Evaluated (value_of w g x))))
      → ((w : World) → (reading w).0 + (arrives w).0 ≡ 0 → is_silent i ≡ true) → Going routines functions codes g (within u)
  put_going i s x u within g c there does reading arrives silent =
      stands.instruction g (within u) i there (λ w.
      stands.stores w g (within u) (within (Evaluated (value_of w g x))) i s (value_of w g x) (reading w).0 (arrives w).0
      (does w) (reading w).1 (arrives w).1 (silent w))

  one_and : (j : ℕ) (b : Bool) → 1 + j ≡ 0 → b ≡ true
  one_and j b e = absurd (omega (arith, e))

  -- A leaf is moved there.
  pub leaf_going : (s : Spot) (x : Operand) (u : Term) (within : Term → Block) (g : Frame) → Context routines within → leaf u ≡ Some x
      → slice_get codes g.pc ≡ Some (Move s x)
      → ((w : World) → Comes w (moved g (suc g.pc)) s (value_of w g x) (within (Evaluated (value_of w g x))))
      → Going routines functions codes g (within u)
  leaf_going s x u within g c e there arrives =
      put_going (Move s x) s x u within g c there (λ w n gs p. refl)
      (λ w. (1, one_step within c w g u (Evaluated (value_of w g x)) (leaf_step w g (within u) x u e))) arrives
      (λ w. one_and (arrives w).0 (is_silent (Move s x)))

  -- A value is handed on.
  pub hand_going : (s : Spot) (x : Operand) (v : Value) (within : Term → Block) (g : Frame) → Context routines within
      → ((w : World) → value_of w g x ≡ v) → slice_get codes g.pc ≡ Some (Hand s x)
      → ((w : World) → Comes w (moved g (suc g.pc)) s v (within (Evaluated v))) → Going routines functions codes g (within (Evaluated v))
  hand_going s x v within g c e there arrives =
      put_going (Hand s x) s x (Evaluated v) within g c there (λ w n gs p. refl) (λ w. read_it within c w g x (Evaluated v) (a_value v e))
      (λ w. subst (λ (y : Value). Comes w (moved g (suc g.pc)) s y (within (Evaluated y))) (sym (e w)) (arrives w)) (λ w z. refl)

  -- A value is written to its place: the program's step too.
  pub write_going : (s : Spot) (x : Operand) (v : Value) (t : Term) (within : Term → Block) (g : Frame)
      → ((w : World) → value_of w g x ≡ v) → slice_get codes g.pc ≡ Some (Move s x)
      → ((w : World) → (j : ℕ) × (Arrives routines functions codes j w (moved g (suc g.pc)) s v (within t)) × (j ≡ 0 → ⊥))
      → Going routines functions codes g (within t)
  write_going s x v t within g e there arrives =
      stands.instruction g (within t) (Move s x) there (λ w.
      let a = arrives w in
      stands.stores w g (within t) (within t) (Move s x) s v 0 a.0
      (λ n gs p. ap (λ y. machine.next w (coded n g gs p) s y) (e w)) (no_steps w g (within t)) a.1
      (λ z. absurd (a.2 (omega (arith, z)))))

  -- ---- operations

  -- A tree that does an operation on its parts, and what it is then.
  pub record Applying (whole : Terms → Term) (o : Operation) (then : List Value → Value → Term) : Type 0 where
    pub holes : (wrap : Term → Terms) → HoleAmong wrap → Hole (λ t. whole (wrap t))
    pub of_one : (r : Place → Value) (a : Value)
        → next r (whole (MoreTerms (Evaluated a) NoTerms)) ≡ gives (result_of o (a ∷ [])) (then (a ∷ []))
    pub of_two : (r : Place → Value) (a b : Value) → next r (whole (MoreTerms (Evaluated a) (MoreTerms (Evaluated b) NoTerms)))
        ≡ gives (result_of o (a ∷ b ∷ [])) (then (a ∷ b ∷ []))

  pub applying : (o : Operation) → Applying (Apply o) o (λ vs v. Evaluated v)
  applying o = record { holes = in_apply o; of_one = λ r a. refl; of_two = λ r a b. refl }

  pub changing : (o : Operation) (m : Given) (p : Place) → Applying (Change o m p) o (λ vs v. Put p (stored_at p v) (given_by m vs v))
  changing o m p = record { holes = in_change o m p; of_one = λ r a. refl; of_two = λ r a b. refl }

  -- What an operation gives comes to its place, or the exception that it raises ends both.
  pub operated : (w : World) (g : Frame) (i : Inst) (s : Spot) (k : ℕ) (todo : Block) (within : Term → Block) (t : Term) (use_it : Value
      → Term)
      → (res : Result Value Raised) → Context routines within → Steps k w g todo (within t)
      → next (reads w (beside g (within t))) t ≡ gives res use_it
      → ((n : ℕ) (gs : List Frame) (p : _) → obeys routines functions w (coded n g gs p) i ≡ code_step.gives w (coded n g gs p) s res)
      → ((v : Value) → res ≡ Ok v → Comes w (moved g (suc g.pc)) s v (within (use_it v))) → Next routines functions codes w g todo i
  operated w g i s k todo within t use_it (Ok v) c steps e does arrives =
      let a = arrives v refl in
      stands.stores w g todo (within (use_it v)) i s v (k + 1) a.0 does
      (steps_then k 1 w w w g g g todo (within t) (within (use_it v)) steps (one_step within c w g t (use_it v) e)) a.1
      (λ z. absurd (omega (arith, z)))
  operated w g i s k todo within t use_it (Err r) c steps e does arrives =
      stands.raises w g todo (within t) i k (text_of r) does steps
      (λ n below. c.acts w g n below t (subst NotDone (sym e) tt)
      ∙ ap (λ x. stepped routines w (sourced n (beside g (within t)) below) x within) e)

  -- An operation on one operand.
  pub one_going : (whole : Terms → Term) (o : Operation) (then : List Value → Value → Term) (s : Spot) (x : Operand) (u : Term)
      (within : Term → Block) (g : Frame) → Applying whole o then → Context routines within → Holds g x u
      → slice_get codes g.pc ≡ Some (Alter o s x)
      → ((w : World) (v : Value) → result_of o (value_of w g x ∷ []) ≡ Ok v
      → Comes w (moved g (suc g.pc)) s v (within (then (value_of w g x ∷ []) v)))
      → Going routines functions codes g (within (whole (MoreTerms u NoTerms)))
  one_going whole o then s x u within g a c h there arrives =
      let hole = a.holes (λ t. MoreTerms t NoTerms) (first_among NoTerms no_terms) in
      stands.instruction g (within (whole (MoreTerms u NoTerms))) (Alter o s x) there (λ w.
      let r = read_it (λ t. within (whole (MoreTerms t NoTerms))) (within_hole routines within _ c hole) w g x u h in
      operated w g (Alter o s x) s r.0 (within (whole (MoreTerms u NoTerms))) within
      (whole (MoreTerms (Evaluated (value_of w g x)) NoTerms)) (then (value_of w g x ∷ [])) (result_of o (value_of w g x ∷ [])) c r.1
      (a.of_one (reads w (beside g (within (whole (MoreTerms (Evaluated (value_of w g x)) NoTerms))))) (value_of w g x))
      (λ n gs p. refl) (arrives w))

  -- An operation on two.
  pub two_reads : (whole : Terms → Term) (o : Operation) (then : List Value → Value → Term) (x y : Operand) (u v : Term)
      (within : Term → Block) (g : Frame) → Applying whole o then → Context routines within → Holds g x u → Holds g y v → (w : World)
      → (j : ℕ) × Steps j w g (within (whole (MoreTerms u (MoreTerms v NoTerms))))
      (within (whole (MoreTerms (Evaluated (value_of w g x)) (MoreTerms (Evaluated (value_of w g y)) NoTerms))))
  two_reads whole o then x y u v within g a c h i w =
      let X = value_of w g x in
      let left = a.holes (λ t. MoreTerms t (MoreTerms v NoTerms))
      (first_among (MoreTerms v NoTerms) (λ z. ap (λ t. MoreTerms t NoTerms) (holds_still g y v i z))) in
      let right = a.holes (λ t. MoreTerms (Evaluated X) (MoreTerms t NoTerms))
      (later_among X (λ t. MoreTerms t NoTerms) (first_among NoTerms no_terms)) in
      let r = read_it (λ t. within (whole (MoreTerms t (MoreTerms v NoTerms)))) (within_hole routines within _ c left) w g x u h in
      let q = read_it (λ t. within (whole (MoreTerms (Evaluated X) (MoreTerms t NoTerms)))) (within_hole routines within _ c right) w g y v
      i in (
        r.0 + q.0,
        steps_then r.0 q.0 w w w g g g (within (whole (MoreTerms u (MoreTerms v NoTerms))))
            (within (whole (MoreTerms (Evaluated X) (MoreTerms v NoTerms))))
            (within (whole (MoreTerms (Evaluated X) (MoreTerms (Evaluated (value_of w g y)) NoTerms)))) r.1 q.1,
      )

  pub two_going : (whole : Terms → Term) (o : Operation) (then : List Value → Value → Term) (s : Spot) (x y : Operand) (u v : Term)
      (within : Term → Block) (g : Frame) → Applying whole o then → Context routines within → Holds g x u → Holds g y v
      → slice_get codes g.pc ≡ Some (Operate o s x y)
      → ((w : World) (z : Value) → result_of o (value_of w g x ∷ value_of w g y ∷ []) ≡ Ok z
      → Comes w (moved g (suc g.pc)) s z (within (then (value_of w g x ∷ value_of w g y ∷ []) z)))
      → Going routines functions codes g (within (whole (MoreTerms u (MoreTerms v NoTerms))))
  two_going whole o then s x y u v within g a c h i there arrives =
      stands.instruction g (within (whole (MoreTerms u (MoreTerms v NoTerms)))) (Operate o s x y) there (λ w.
      let X = value_of w g x in
      let Y = value_of w g y in
      let r = two_reads whole o then x y u v within g a c h i w in
      operated w g (Operate o s x y) s r.0 (within (whole (MoreTerms u (MoreTerms v NoTerms)))) within
      (whole (MoreTerms (Evaluated X) (MoreTerms (Evaluated Y) NoTerms))) (then (X ∷ Y ∷ [])) (result_of o (X ∷ Y ∷ [])) c r.1
      (a.of_two (reads w (beside g (within (whole (MoreTerms (Evaluated X) (MoreTerms (Evaluated Y) NoTerms)))))) X Y) (λ n gs p. refl)
      (arrives w))
