-- The code of conditions goes on where they lead, and the code of calls waits for their answers.
use Rattle.std.proofs.Common.{◌≡◌, ℕ, pos, zero, suc, ◌+◌, Bool, true, false, List, [], ◌∷◌, ◌++◌, length, Some, refl, sym, ap, ◌∙◌}
use Rattle.std.proofs.Common.{subst, arith}
use Rattle.std.proofs.Common.{length-append}
use Rattle.std.specs.Prelude.{slice_get, not, if◌then◌else◌, Ok}
use Rattle.process_model.specs.Process.{Went}
use Rattle.process_model.specs.Alone.{here, on}
use Rattle.limbo_values.specs.declared.number.Kind.{Kind}
use Rattle.limbo_values.specs.declared.operator.Comparison.{Comparison}
use Rattle.limbo_values.specs.declared.operator.Comparison.TheVariants as c
use Rattle.limbo_values.specs.Operators.{compared, truth}
use Rattle.limbo_typed.specs.declared.operation.Operation.TheVariants as operation
use Rattle.system_model.specs.Values.{Value, Num}
use Rattle.typed_meaning.specs.Values.{holds, result_of}
use Rattle.typed_meaning.specs.World.{World}
use Rattle.typed_meaning.specs.Trees.{Local, Term, Evaluated, Apply, NoTerms, MoreTerms, Block}
use Rattle.typed_meaning.specs.Program.{Routine}
use Rattle.typed_meaning.specs.Evaluation.{gives}
use Rattle.slot_code.specs.Code.{Operand, Number, Inst, Function}
use Rattle.slot_code.specs.Machine.{Frame, moved, stored, value_of}
use Rattle.slot_code.specs.Machine as machine
use Rattle.slot_code.specs.Step as code_step
use Rattle.slot_code.specs.Step.{compared_values}
use Rattle.typed_lower.specs.Kinds.{kind_in, writes}
use Rattle.typed_lower.specs.declared.taking.Taking.TheVariants.{Own, Short}
use Rattle.typed_lower.specs.Terms.{Ready, part_of, ready, ready_before, branch, tested, compared as compared_code, kept, taken_by, seen_by}
use Rattle.typed_lower.specs.Stands as stands
use Rattle.typed_lower.specs.Stands.{Fresh, HasAt, run_to, beside, sourced, coded, obeys, Bursts, Quiet, Stands, Going, Next}
use Rattle.typed_lower.proofs.Contexts.{Context}
use Rattle.typed_lower.proofs.Places.{has_front, has_back, has_at, After, after_weaker}
use Rattle.typed_lower.proofs.Operands.{Holds, a_value, Steps, applying, read_it, two_reads}
use Rattle.typed_lower.proofs.Operands.{one_step, steps_then}
use Rattle.typed_lower.proofs.Parts.{ValueGoes, BranchGoes, Decides, landing, Written, kept_goes, ready_goes, two_ready}
use Rattle.typed_lower.proofs.Parts.{taken_is, taken_alone}
use Rattle.typed_lower.proofs.Values.{opposite_compared, test_holds, two_few}

truth_holds : (b : Bool) → holds (Num (truth b)) ≡ b
truth_holds true = refl
truth_holds false = refl

never_zero : (j : ℕ) → j + 1 ≡ zero → ⊥
never_zero j e = omega (arith, e)

module _ (routines : List Routine) (functions : List Function) (codes : List Inst) where
  abbrev V : Term → Type 0
  V t = ValueGoes routines functions codes t

  abbrev B : Term → Type 0
  B t = BranchGoes routines functions codes t

  abbrev G : Frame → Block → Type 0
  G g todo = Going routines functions codes g todo

  abbrev S : Frame → Block → Type 0
  S g todo = Stands routines functions codes g todo

  abbrev lands : Bool → Bool → ℕ → ℕ → ℕ
  lands = landing

  -- ---- a branch

  chosen_place : (wt b : Bool) (pc n : ℕ) → code_step.chosen (if wt then b else not b) (suc pc + n) (suc pc) ≡ lands wt b (suc pc) n
  chosen_place true true pc n = refl
  chosen_place true false pc n = refl
  chosen_place false true pc n = refl
  chosen_place false false pc n = refl

  -- What the branch does.
  branched : (wt : Bool) (kind : Kind) (x : Comparison) (X Y : Operand) (k : ℕ) (w : World) (g : Frame) (n : ℕ) (gs : List Frame) (p : _)
      → obeys routines functions w (coded n g gs p) (branch wt kind x X Y k)
      ≡ Went w (machine.with_frames (coded n g gs p)
      (moved g (lands wt (compared_values x (value_of w g X) (value_of w g Y)) (suc g.pc) k)) gs)
  branched true kind x X Y k w g n gs p =
      ap (λ q. Went w (machine.with_frames (coded n g gs p) (moved g q) gs))
      (chosen_place true (compared_values x (value_of w g X) (value_of w g Y)) g.pc k)
  branched false kind x X Y k w g n gs p =
      ap (λ b. Went w (machine.with_frames (coded n g gs p) (moved g (code_step.chosen b (suc g.pc + k) (suc g.pc))) gs))
      (opposite_compared x (value_of w g X) (value_of w g Y))
      ∙ ap (λ q. Went w (machine.with_frames (coded n g gs p) (moved g q) gs))
      (chosen_place false (compared_values x (value_of w g X) (value_of w g Y)) g.pc k)

  -- The tree is evaluated by then, in some steps, and holds where the comparison does; then the program decides.
  branch_going : (wt : Bool) (kind : Kind) (x : Comparison) (X Y : Operand) (k : ℕ) (tree : Term) (within : Term → Block) (g : Frame)
      → slice_get codes g.pc ≡ Some (branch wt kind x X Y k)
      → ((w : World) → (j : ℕ) × (v : Value) × (holds v ≡ compared_values x (value_of w g X) (value_of w g Y))
      × Steps routines functions codes j w g (within tree) (within (Evaluated v)))
      → ((b : Bool) (v : Value) → holds v ≡ b → (after : Block)
      × Quiet routines functions (moved g (lands wt b (suc g.pc) k)) (within (Evaluated v)) after
      × S (moved g (lands wt b (suc g.pc) k)) after) → G g (within tree)
  branch_going wt kind x X Y k tree within g there reading leads =
      stands.instruction g (within tree) (branch wt kind x X Y k) there (λ w.
      let r = reading w in
      let b = compared_values x (value_of w g X) (value_of w g Y) in
      let l = leads b r.1 r.2 in
      stands.passes w g (moved g (lands wt b (suc g.pc) k)) (within tree) l.0 (branch wt kind x X Y k) (r.0 + 1) refl
      (branched wt kind x X Y k w g)
      (steps_then routines functions codes r.0 1 w w w g g (moved g (lands wt b (suc g.pc) k)) (within tree) (within (Evaluated r.1)) l.0
      r.3
      (λ n below. on (l.1 w n below) here)) (λ z. absurd (never_zero r.0 z)) l.2)

  landed : (written : ℕ → Bool) (d pc n : ℕ) (g g' : Frame) (wt b : Bool) (k : ℕ) → After written d pc g g' → suc pc ≡ n
      → After written d (lands wt b n k) g (moved g' (lands wt b (suc g'.pc) k))
  landed written d pc n g g' wt b k a e = record {
    place = ap (λ q. lands wt b q k) (ap suc a.place ∙ e);
    function = a.function;
    instance = a.instance;
    made = a.made;
    low = a.low;
    kept = a.kept;
  }

  -- A value is tested.
  pub tested_goes : (k : Kind) (r : Ready) (written : ℕ → Bool) (wt : Bool) (d n : ℕ) (within : Term → Block) (g g1 : Frame) (u : Term)
      → Context routines within → Holds g1 r.operand u → After written d (g.pc + length r.before) g g1
      → HasAt codes g.pc (tested wt k r n)
      → Decides routines functions codes within written wt d (g.pc + length (tested wt k r n)) n g → G g1 (within u)
  tested_goes k r written wt d n within g g1 u cx h a1 has leads =
      let i = branch wt k c.Unequal r.operand (Number (pos 0)) n in
      let end : suc (g.pc + length r.before) ≡ g.pc + length (tested wt k r n) = omega (arith, length-append r.before (i ∷ [])) in
      branch_going wt k c.Unequal r.operand (Number (pos 0)) n u within g1
      (has_at codes _ _ (i ∷ []) (sym a1.place) (has_back codes g.pc r.before (i ∷ []) has)).0 (λ w.
      let q = read_it routines functions codes within cx w g1 r.operand u h in
      (q.0, value_of w g1 r.operand, sym (test_holds (value_of w g1 r.operand)), q.1))
      (λ b v e. leads (moved g1 (lands wt b (suc g1.pc) n)) b v
      (subst (λ p. After written d (lands wt b p n) g (moved g1 (lands wt b (suc g1.pc) n))) end
      (landed written d (g.pc + length r.before) (suc (g.pc + length r.before)) g g1 wt b n a1 refl)) e)

  -- A part whose value is tested.
  pub plain_branch : (t : Term) → V t → (wt : Bool) (d n : ℕ) (within : Term → Block) (g : Frame) → Context routines within
      → HasAt codes g.pc (tested wt (kind_in t) (ready d (part_of t)) n)
      → Decides routines functions codes within (Written routines functions codes t) wt d
      (g.pc + length (tested wt (kind_in t) (ready d (part_of t)) n)) n g → G g (within t)
  plain_branch t goes wt d n within g cx has leads =
      let r = ready d (part_of t) in
      ready_goes routines functions codes t goes d within g cx (has_front codes g.pc r.before _ has)
      (λ g1 u a1 h. tested_goes (kind_in t) r (Written routines functions codes t) wt d n within g g1 u cx h a1 has leads)

  -- A value that is kept, and then tested.
  pub kept_branch : (t : Term) → V t → (k : Kind) (wt : Bool) (d n : ℕ) (within : Term → Block) (g : Frame) → Context routines within
      → HasAt codes g.pc (tested wt k (kept d k (part_of t).value) n)
      → Decides routines functions codes within (Written routines functions codes t) wt d
      (g.pc + length (tested wt k (kept d k (part_of t).value) n)) n g → G g (within t)
  kept_branch t goes k wt d n within g cx has leads =
      let r = kept d k (part_of t).value in
      kept_goes routines functions codes t goes k d within g cx (has_front codes g.pc r.before _ has)
      (λ g1 v a1 h. tested_goes k r (Written routines functions codes t) wt d n within g g1 (Evaluated v) cx (a_value v h) a1 has leads)

  -- Two numbers are compared.
  compared_holds : (x : Comparison) (k : Kind) (X Y : Value) → (v : Value)
      × (result_of (operation.Compare x k) (X ∷ Y ∷ []) ≡ Ok v) × (holds v ≡ compared_values x X Y)
  compared_holds x k (Num a) (Num b) = (Num (truth (compared x a b)), refl, truth_holds (compared x a b))

  pub compared_branch : (x : Comparison) (k : Kind) (a b : Term) → Fresh b → V a → V b → (wt : Bool) (d n : ℕ) (within : Term → Block)
      (g : Frame) → Context routines within
      → HasAt codes g.pc (compared_code (operation.Compare x k) (part_of a ∷ part_of b ∷ []) k (part_of a).value wt d n)
      → Decides routines functions codes within
      (Written routines functions codes (Apply (operation.Compare x k) (MoreTerms a (MoreTerms b NoTerms)))) wt d
      (g.pc + length (compared_code (operation.Compare x k) (part_of a ∷ part_of b ∷ []) k (part_of a).value wt d n)) n g
      → G g (within (Apply (operation.Compare x k) (MoreTerms a (MoreTerms b NoTerms))))
  compared_branch x k a b fresh goes_a goes_b wt d n within g cx has leads =
      let o = operation.Compare x k in
      let A = ready_before d (seen_by Own (part_of a)) (seen_by Short (part_of b)) in
      let C = ready (suc d) (seen_by Short (part_of b)) in
      let i = branch wt k x A.operand C.operand n in
      let W = Written routines functions codes (Apply o (MoreTerms a (MoreTerms b NoTerms))) in
      let end : suc (g.pc + length (A.before ++ C.before)) ≡ g.pc + length ((A.before ++ C.before) ++ i ∷ []) =
      omega (arith, length-append (A.before ++ C.before) (i ∷ [])) in
      two_ready routines functions codes (Apply o) o (λ vs v. Evaluated v) a b (applying routines functions codes o) fresh goes_a goes_b
      (taken_by Own (part_of a).leaf) (taken_by Short (part_of b).leaf) (taken_is Own (part_of a).leaf) (taken_is Short (part_of b).leaf)
      (taken_alone o a b) d within cx g (has_front codes g.pc (A.before
      ++ C.before) (i ∷ []) has) (λ g1 u v a1 h h2.
      branch_going wt k x A.operand C.operand n (Apply o (MoreTerms u (MoreTerms v NoTerms))) within g1
      (has_at codes _ _ (i ∷ []) (sym a1.place) (has_back codes g.pc (A.before ++ C.before) (i ∷ []) has)).0 (λ w.
      let X = value_of w g1 A.operand in
      let Y = value_of w g1 C.operand in
      let r = two_reads routines functions codes (Apply o) o (λ vs v. Evaluated v) A.operand C.operand u v within g1
      (applying routines functions codes o) cx h h2 w in
      let q = compared_holds x k X Y in (
        r.0 + 1,
        q.0,
        q.2,
        steps_then routines functions codes r.0 1 w w w g1 g1 g1 (within (Apply o (MoreTerms u (MoreTerms v NoTerms))))
            (within (Apply o (MoreTerms (Evaluated X) (MoreTerms (Evaluated Y) NoTerms)))) (within (Evaluated q.0)) r.1
            (one_step routines functions codes within cx w g1 (Apply o (MoreTerms (Evaluated X) (MoreTerms (Evaluated Y) NoTerms)))
            (Evaluated q.0) (ap (λ z. gives z Evaluated) q.1)),
      ))
      (λ e v1 f. leads (moved g1 (lands wt e (suc g1.pc) n)) e v1
      (subst (λ p. After W d (lands wt e p n) g (moved g1 (lands wt e (suc g1.pc) n))) end
      (landed W d _ _ g g1 wt e n
      (after_weaker _ W d d _ g g1 (λ y z. two_few (writes (Local y) a) (writes (Local y) b) z) (omega arith) a1)
      refl)) f))
