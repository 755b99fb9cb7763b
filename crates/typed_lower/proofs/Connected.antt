-- The code of `&&` and `||` goes on where they lead, and leaves 1 or 0 at its place.
use Rattle.std.proofs.Common.{◌≡◌, ℕ, pos, suc, ◌+◌, ◌<◌, Bool, true, false, List, [], ◌∷◌, ◌++◌, length, Some, refl, sym, ap, ◌∙◌, subst}
use Rattle.std.proofs.Common.{arith}
use Rattle.std.proofs.Common.{length-append}
use Rattle.std.proofs.lemmas.Bool.{true≢false}
use Rattle.std.specs.Prelude.{slice_get, not, if◌then◌else◌}
use Rattle.process_model.specs.Process.{Went}
use Rattle.process_model.specs.Alone.{here}
use Rattle.limbo_values.specs.Operators.{truth}
use Rattle.limbo_typed.specs.declared.operation.Connective.{Connective}
use Rattle.limbo_typed.specs.declared.operation.Connective.TheVariants as connective
use Rattle.system_model.specs.Values.{Value, Num}
use Rattle.typed_meaning.specs.Values.{holds, truth_of, decides}
use Rattle.typed_meaning.specs.World.{World}
use Rattle.typed_meaning.specs.Trees.{Local, Term, Evaluated, Lazy, Deciding, Block}
use Rattle.typed_meaning.specs.Program.{Routine}
use Rattle.typed_meaning.specs.Evaluation.{decided}
use Rattle.slot_code.specs.Code.{Spot, Number, Inst, Hand, Skip, Function}
use Rattle.slot_code.specs.Machine.{Frame, moved, stored, value_of}
use Rattle.slot_code.specs.Machine as machine
use Rattle.typed_lower.specs.Kinds.{writes}
use Rattle.typed_lower.specs.Terms.{part_of, connected}
use Rattle.typed_lower.specs.Stands as stands
use Rattle.typed_lower.specs.Stands.{HasAt, run_to, beside, coded, Bursts, Quiet, Stands, Going}
use Rattle.typed_lower.proofs.Contexts.{Context, within_hole, in_left, in_right}
use Rattle.typed_lower.proofs.Places.{has_front, has_back, has_at, After, after_then, after_weaker}
use Rattle.typed_lower.proofs.Follows.{silent_rises, same_frame, same_world}
use Rattle.typed_lower.proofs.Operands.{Delivers, Comes, hand_going}
use Rattle.typed_lower.proofs.Parts.{ValueGoes, BranchGoes, landing, Written, either_false, quiet_step}

-- What is left where the left operand decides, and where it doesn't.
data Outcome (decided : Bool) (place end pc : ℕ) : Type 0 where
  short : decided ≡ true → place ≡ end → Outcome decided place end pc
  long : decided ≡ false → place ≡ pc → Outcome decided place end pc

and_decides : (v : Value) (b : Bool) → holds v ≡ b → decides connective.And v ≡ not b
and_decides v true e = ap (λ x. if x then false else true) e
and_decides v false e = ap (λ x. if x then false else true) e

held_truth : (v : Value) (b : Bool) → holds v ≡ b → truth_of v ≡ Num (truth b)
held_truth v b e = ap (λ x. Num (truth x)) e

truth_holds : (b : Bool) → holds (Num (truth b)) ≡ b
truth_holds true = refl
truth_holds false = refl

-- The same frame at another place.
placed : (written : ℕ → Bool) (d pc pc' : ℕ) (g g' : Frame) → After written d pc g g' → After written d pc' g (moved g' pc')
placed written d pc pc' g g' a = record {
  place = refl;
  function = a.function;
  instance = a.instance;
  made = a.made;
  low = a.low;
  kept = a.kept;
}

module _ (routines : List Routine) (functions : List Function) (codes : List Inst) where
  abbrev V : Term → Type 0
  V t = ValueGoes routines functions codes t

  abbrev B : Term → Type 0
  B t = BranchGoes routines functions codes t

  abbrev G : Frame → Block → Type 0
  G g todo = Going routines functions codes g todo

  abbrev S : Frame → Block → Type 0
  S g todo = Stands routines functions codes g todo

  abbrev lands : Bool → Bool → ℕ → ℕ → ℕ
  lands = landing

  abbrev W : Term → ℕ → Bool
  W t = Written routines functions codes t

  -- Where control is behind a condition, its 1 or 0 is there.
  abbrev Leads : (within : Term → Block) → (written : ℕ → Bool) → (where_true : Bool) → (d pc passes : ℕ) → Frame → Type 0
  Leads within written wt d pc n g =
      (g' : Frame) (b : Bool) → After written d (lands wt b pc n) g g' → S g' (within (Evaluated (Num (truth b))))

  module _ (c : Connective) (l r : Term) (goes_l : B l) (goes_r : B r) (wt lw : Bool) (d m n : ℕ) (within : Term → Block) (g : Frame)
      (cx : Context routines within) where
    abbrev L : List Inst
    L = (part_of l).branches lw d m

    abbrev R : List Inst
    R = (part_of r).branches wt d n

    abbrev whole : ℕ → Bool
    whole = W (Lazy c l r)

    left : Context routines (λ t. within (Lazy c t r))
    left = within_hole routines within (λ t. Lazy c t r) cx (in_left c r)

    right : Context routines (λ t. within (Deciding t))
    right = within_hole routines within Deciding cx in_right

    -- The step that decides.
    decide : (g' : Frame) (v : Value) (x : Bool) → decides c v ≡ x
        → Quiet routines functions g' (within (Lazy c (Evaluated v) r)) (within (decided x v r))
    decide g' v x e =
        subst (λ y. Quiet routines functions g' (within (Lazy c (Evaluated v) r)) (within (decided y v r))) e
        (quiet_step routines functions codes within cx g' (Lazy c (Evaluated v) r) (decided (decides c v) v r) (λ w. refl))

    -- The right operand.
    right_goes : (g' : Frame) → After (W l) d (g.pc + length L) g g' → HasAt codes (g.pc + length L) R
        → Leads within whole wt d (g.pc + length (L ++ R)) n g → G g' (within (Deciding r))
    right_goes g' a has leads =
        goes_r wt d n (λ t. within (Deciding t)) g' right (has_at codes _ _ R (sym a.place) has) (λ g2 b v a2 e. (
          within (Evaluated (truth_of v)),
          quiet_step routines functions codes within cx g2 (Deciding (Evaluated v)) (Evaluated (truth_of v)) (λ w. refl),
          subst (λ (y : Value). S g2 (within (Evaluated y))) (sym (held_truth v b e))
              (leads g2 b
              (subst (λ q. After whole d (lands wt b q n) g g2) (omega (arith, a.place, length-append L R))
              (after_then whole d (g.pc + length L) (lands wt b (g'.pc + length R) n) g g' g2
              (after_weaker (W l) whole d d _ g g' (λ x f. (either_false (writes (Local x) l) _ f).0)
              (omega arith) a)
              (after_weaker (W r) whole d d _ g' g2 (λ x f. (either_false (writes (Local x) l) _ f).1)
              (omega arith) a2)))),
        ))

    -- What the left one leads to.
    by_outcome : HasAt codes (g.pc + length L) R → Leads within whole wt d (g.pc + length (L ++ R)) n g
        → (g' : Frame) (b : Bool) (v : Value)
        → After (W l) d (lands lw b (g.pc + length L) m) g g' → holds v ≡ b
        → Outcome (decides c v) (lands lw b (g.pc + length L) m) (lands wt b (g.pc + length (L ++ R)) n) (g.pc + length L)
        → (after : Block) × Quiet routines functions g' (within (Lazy c (Evaluated v) r)) after × S g' after
    by_outcome has leads g' b v a e (short s at) = (
      within (Evaluated (truth_of v)),
      decide g' v true s,
      subst (λ (y : Value). S g' (within (Evaluated y))) (sym (held_truth v b e))
          (leads g' b
          (subst (λ q. After whole d q g g') at
          (after_weaker (W l) whole d d _ g g' (λ x f. (either_false (writes (Local x) l) _ f).0) (omega arith)
          a))),
    )
    by_outcome has leads g' b v a e (long s at) = (
      within (Deciding r),
      decide g' v false s,
      stands.going g' (within (Deciding r)) (right_goes g' (subst (λ q. After (W l) d q g g') at a) has leads),
    )

    -- Both.
    connected_goes : ((b : Bool) (v : Value) → holds v ≡ b
        → Outcome (decides c v) (lands lw b (g.pc + length L) m) (lands wt b (g.pc + length (L ++ R)) n) (g.pc + length L))
        → HasAt codes g.pc (L ++ R) → Leads within whole wt d (g.pc + length (L ++ R)) n g → G g (within (Lazy c l r))
    connected_goes outcome has leads =
        goes_l lw d m (λ t. within (Lazy c t r)) g left (has_front codes g.pc L R has)
        (λ g' b v a e. by_outcome (has_back codes g.pc L R has) leads g' b v a e (outcome b v e))

  -- Each connective, as it is used.
  and_outcome : (lw : Bool) → lw ≡ false → (pc end m n : ℕ) (wt : Bool) → pc + m ≡ lands wt false end n → (b : Bool) (v : Value)
      → holds v ≡ b
      → Outcome (decides connective.And v) (lands lw b pc m) (lands wt b end n) pc
  and_outcome true i pc end m n wt at b v e = absurd (true≢false i)
  and_outcome false i pc end m n wt at true v e = long (and_decides v true e) refl
  and_outcome false i pc end m n wt at false v e = short (and_decides v false e) at

  or_outcome : (lw : Bool) → lw ≡ true → (pc end m n : ℕ) (wt : Bool) → pc + m ≡ lands wt true end n → (b : Bool) (v : Value) → holds v ≡ b
      → Outcome (decides connective.Or v) (lands lw b pc m) (lands wt b end n) pc
  or_outcome false i pc end m n wt at b v e = absurd (true≢false (sym i))
  or_outcome true i pc end m n wt at true v e = short e at
  or_outcome true i pc end m n wt at false v e = long e refl

  lazy_leads : (c : Connective) (l r : Term) → B l → B r → (wt : Bool) (d n : ℕ) (within : Term → Block) (g : Frame)
      → Context routines within
      → HasAt codes g.pc (connected c (part_of l) (part_of r) wt d n)
      → Leads within (W (Lazy c l r)) wt d (g.pc + length (connected c (part_of l) (part_of r) wt d n)) n g → G g (within (Lazy c l r))
  lazy_leads connective.And l r goes_l goes_r true d n within g cx has leads =
      let R = (part_of r).branches true d n in
      let L = (part_of l).branches false d (length R) in
      connected_goes connective.And l r goes_l goes_r true false d (length R) n within g cx
      (and_outcome false refl (g.pc + length L) (g.pc + length (L ++ R)) (length R) n true (omega (arith, length-append L R))) has leads
  lazy_leads connective.Or l r goes_l goes_r true d n within g cx has leads =
      let R = (part_of r).branches true d n in
      let L = (part_of l).branches true d (length R + n) in
      connected_goes connective.Or l r goes_l goes_r true true d (length R + n) n within g cx
      (or_outcome true refl (g.pc + length L) (g.pc + length (L ++ R)) (length R + n) n true (omega (arith, length-append L R))) has leads
  lazy_leads connective.And l r goes_l goes_r false d n within g cx has leads =
      let R = (part_of r).branches false d n in
      let L = (part_of l).branches false d (length R + n) in
      connected_goes connective.And l r goes_l goes_r false false d (length R + n) n within g cx
      (and_outcome false refl (g.pc + length L) (g.pc + length (L ++ R)) (length R + n) n false (omega (arith, length-append L R))) has
      leads
  lazy_leads connective.Or l r goes_l goes_r false d n within g cx has leads =
      let R = (part_of r).branches false d n in
      let L = (part_of l).branches true d (length R) in
      connected_goes connective.Or l r goes_l goes_r false true d (length R) n within g cx
      (or_outcome true refl (g.pc + length L) (g.pc + length (L ++ R)) (length R) n false (omega (arith, length-append L R))) has leads

  -- As a condition.
  pub lazy_branch : (c : Connective) (l r : Term) → B l → B r → B (Lazy c l r)
  lazy_branch c l r goes_l goes_r wt d n within g cx has leads =
      lazy_leads c l r goes_l goes_r wt d n within g cx has (λ g' b a.
      let x = leads g' b (Num (truth b)) a (truth_holds b) in stands.softly g' (within (Evaluated (Num (truth b)))) x.0 x.1 x.2)

  -- Where a value that is at its place is passed on behind more code that does nothing.
  arrives_behind : (w : World) (g : Frame) (s : Spot) (v : Value) (todo : Block) (pc pc' : ℕ) → slice_get codes pc ≡ Some (Skip 1)
      → run_to 0 codes pc < run_to 0 codes pc' → suc pc + 1 ≡ pc' → Comes routines functions codes w (moved g pc') s v todo
      → Comes routines functions codes w (moved g pc) s v todo
  arrives_behind w g s v todo pc pc' there rises at (j, stands.arrives _ _ _ _ _ _ after bursts st) =
      let f = (stored w (moved g pc) s v).frame in
      let behind = moved (stored w g s v).frame pc' in
      let same : f ≡ moved (stored w g s v).frame pc = same_frame w g pc s v in (
        j,
        stands.arrives j w (moved g pc) s v todo after
            (subst (λ x. Bursts routines functions j w g todo x f after) (same_world w g pc' s v ∙ sym (same_world w g pc s v))
            (subst (λ (h : Frame). Bursts routines functions j w g todo (stored w (moved g pc') s v).world h after) (sym same)
            (subst (λ (h : Frame). Bursts routines functions j w g todo (stored w (moved g pc') s v).world h after)
            (same_frame w g pc' s v) bursts)))
            (subst (λ (h : Frame). S h after) (sym same)
            (stands.going (moved (stored w g s v).frame pc) after
            (stands.instruction (moved (stored w g s v).frame pc) after (Skip 1) there (λ w1.
            stands.passes w1 (moved (stored w g s v).frame pc) behind after after (Skip 1) 0 refl
            (λ n gs p. ap (λ q. Went w1 (machine.with_frames (coded n (moved (stored w g s v).frame pc) gs p)
            (moved (stored w g s v).frame q) gs)) at) (λ n below. here) (λ z. rises)
            (subst (λ (h : Frame). S h after) (same_frame w g pc' s v) st))))),
      )

  rises : (s : Spot) (pc : ℕ) → HasAt codes (suc pc) (Skip 1 ∷ Hand s (Number (pos 0)) ∷ [])
      → run_to 0 codes (suc pc) < run_to 0 codes (pc + 3)
  rises s pc has =
      let one = silent_rises (suc pc) codes (Skip 1) has.0 refl in
      let two = silent_rises (suc (suc pc)) codes (Hand s (Number (pos 0))) has.1.0 refl in
      let at : suc (suc (suc pc)) ≡ pc + 3 = omega arith in
      subst (λ q. run_to 0 codes (suc pc) < run_to 0 codes q) at (omega (arith, one, two))

  -- The 1 or 0 goes to its place.
  truth_arrives : (s : Spot) (pc : ℕ) (within : Term → Block) (written : ℕ → Bool) (d : ℕ) (g g' : Frame) (b : Bool)
      → Context routines within
      → HasAt codes pc (Hand s (Number (pos 1)) ∷ Skip 1 ∷ Hand s (Number (pos 0)) ∷ []) → After written d (lands false b pc 2) g g'
      → Delivers routines functions codes s within written d (pc + 3) g → S g' (within (Evaluated (Num (truth b))))
  truth_arrives s pc within written d g g' false cx has a arrives =
      stands.going g' (within (Evaluated (Num (pos 0))))
      (hand_going routines functions codes s (Number (pos 0)) (Num (pos 0)) within g' cx (λ w. refl)
      (has_at codes _ _ (Hand s (Number (pos 0)) ∷ []) (omega (arith, a.place)) has.1.1).0 (λ w.
      arrives (moved g' (suc g'.pc))
      (subst (λ q. After written d q g (moved g' (suc g'.pc))) (omega (arith, a.place)) (placed written d _ (suc g'.pc) g g' a)) w
      (Num (pos 0))))
  truth_arrives s pc within written d g g' true cx has a arrives =
      stands.going g' (within (Evaluated (Num (pos 1))))
      (hand_going routines functions codes s (Number (pos 1)) (Num (pos 1)) within g' cx (λ w. refl)
      (has_at codes _ _ (Hand s (Number (pos 1)) ∷ []) (sym a.place) (has.0, tt)).0 (λ w.
      arrives_behind w g' s (Num (pos 1)) (within (Evaluated (Num (pos 1)))) (suc g'.pc) (pc + 3)
      (has_at codes _ _ (Skip 1 ∷ []) (ap suc (sym a.place)) (has.1.0, tt)).0
      (subst (λ q. run_to 0 codes (suc q) < run_to 0 codes (pc + 3)) (sym a.place) (rises s pc has.1)) (omega (arith, a.place))
      (arrives (moved g' (pc + 3)) (placed written d _ (pc + 3) g g' a) w (Num (pos 1)))))

  -- As a value.
  pub lazy_goes : (c : Connective) (l r : Term) → B l → B r → V (Lazy c l r)
  lazy_goes c l r goes_l goes_r d s within g cx has arrives =
      let C = connected c (part_of l) (part_of r) false d 2 in
      let T = Hand s (Number (pos 1)) ∷ Skip 1 ∷ Hand s (Number (pos 0)) ∷ [] in
      lazy_leads c l r goes_l goes_r false d 2 within g cx (has_front codes g.pc C T has) (λ g' b a.
      truth_arrives s (g.pc + length C) within (W (Lazy c l r)) d g g' b cx (has_back codes g.pc C T has) a
      (subst (λ q. Delivers routines functions codes s within (W (Lazy c l r)) d q g) (omega (arith, length-append C T)) arrives))
