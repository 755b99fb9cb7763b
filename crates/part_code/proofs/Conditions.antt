-- Operations, conditions, connectives and assignments.
use Rattle.std.proofs.Common.{◌≡◌, ℕ, suc, pos, ◌+◌, Bool, true, false, List, [], ◌∷◌, ◌++◌, length, Option, Some, None, refl, sym, ◌∙◌}
use Rattle.std.proofs.Common.{subst, arith}
use Rattle.std.proofs.lemmas.Bool.{false≢true}
use Rattle.std.proofs.lemmas.Option.{none-some}
use Rattle.limbo_values.specs.declared.number.Kind.{Kind}
use Rattle.limbo_values.specs.declared.number.Kind.TheVariants as kind
use Rattle.limbo_typed.specs.declared.operation.Operation.{Operation}
use Rattle.limbo_typed.specs.declared.operation.Operation.TheVariants as operation
use Rattle.limbo_typed.specs.declared.operation.Connective.{Connective}
use Rattle.limbo_typed.specs.declared.operation.Connective.TheVariants as connective
use Rattle.limbo_typed.specs.declared.operation.Given.TheVariants as given
use Rattle.typed_meaning.specs.Trees.{Term}
use Rattle.slot_code.specs.Code.{Spot, Temporary, Operand, In, Number, Inst, Move, Hand, Alter, Operate, Skip, Function, Module}
use Rattle.dis_objects.specs.Frames.{Callee}
use Rattle.dis_objects.specs.Code.{spot_kind, operand_kind, right_kind}
use Rattle.dis_objects.specs.Proper.{IsRead, IsWritten, IsOfOne, IsOfTwo, IsOwn}
use Rattle.typed_lower.specs.Kinds.{kind_in, kind_given, leaf}
use Rattle.typed_lower.specs.declared.taking.Taking.TheVariants.{Own, Short}
use Rattle.typed_lower.specs.Terms.{Part, ready, ready_before, ready_of, kept, takes_long, left_taking, right_taking, seen_by}
use Rattle.typed_lower.specs.Terms.{branch, tested, compared, connected, truth_of, applied, assigned_first, changed, from_leaf, part, plain}
use Rattle.part_code.proofs.Level.{No, Piece, Plain, both, both_plain, none, single, at_front, goes_behind, goes_at}
use Rattle.part_code.proofs.Alike.{zero_in, one_in, given_same}
use Rattle.part_code.proofs.Operands.{reads_own, left_own, own_taken, own_before, written, taken_as, move, hand, then_one, Passing, ProperValue}
use Rattle.part_code.proofs.Operands.{ProperBranches, ProperLeaf, ProperPart, seen, ProperReady, is_kept, is_ready, part_ready, is_before}
use Rattle.part_code.proofs.Operands.{of_one, of_two, branching, testing}

-- The right operand of one that takes long, which is a comparison.
right_reads : (o : Operation) → IsOfTwo o → (q : Part) (d : ℕ) → takes_long o ≡ true
    → IsOwn (ready (suc d) (seen_by (right_taking o) q)).operand
right_reads (operation.Compare x k) i q d e = own_taken Short q.leaf (suc d) q.kind q.value tt
right_reads (operation.Arithmetic x k) i q d e = absurd (false≢true e)
right_reads (operation.Shift x k) i q d e = absurd (false≢true e)
right_reads o i q d e = absurd i

module _ (m : Module) (f : Function) where
  -- ---- operations

  pub one_applied : (o : Operation) (p : Part) → IsOfOne o → ProperPart m f (operand_kind o) p
      → ProperValue m f (kind_given o) (applied o (p ∷ []))
  one_applied o p i h cs d s w e =
      let q = seen_by (left_taking o) p in
      let x = ready d q in
      let r : ProperReady m f (operand_kind o) x = part_ready m f d (operand_kind o) q (seen m f (left_taking o) (operand_kind o) p h) in
      of_one m f No cs cs (operand_kind o) x (λ y. Alter o s y) r
      (single m f No cs (Alter o s x.operand)
      (λ pc g a. (
        i,
        w,
        e ∙ given_same o,
        r.taken,
        reads_own o x.operand (λ b. own_taken (left_taking o) p.leaf d p.kind p.value (left_own o b)),
        g,
      )))

  pub two_applied : (o : Operation) (p q : Part) → IsOfTwo o → ProperPart m f (operand_kind o) p → ProperPart m f (right_kind o) q
      → ProperValue m f (kind_given o) (applied o (p ∷ q ∷ []))
  two_applied o p q i h g cs d s w e =
      let a = seen_by (left_taking o) p in
      let b = seen_by (right_taking o) q in
      let x = ready_before d a b in
      let y = ready (suc d) b in
      let sa = seen m f (left_taking o) (operand_kind o) p h in
      let rx : ProperReady m f (operand_kind o) x = is_before m f d (operand_kind o) a a.leaf b.changes sa sa.leaf in
      let ry : ProperReady m f (right_kind o) y = part_ready m f (suc d) (right_kind o) b (seen m f (right_taking o) (right_kind o) q g) in
      of_two m f No cs cs (operand_kind o) (right_kind o) x y (λ u v. Operate o s u v) rx ry
      (single m f No cs (Operate o s x.operand y.operand)
      (λ pc n k. (
        i,
        w,
        e ∙ given_same o,
        rx.taken,
        ry.taken,
        reads_own o x.operand (λ t. own_before (left_taking o) p.leaf d a b.changes (left_own o t)),
        reads_own o y.operand (λ t. right_reads o i q d t),
        n,
      )))

  -- ---- conditions

  -- A comparison of two numbers needs no value; what else there is is tested.
  kept_tested : (k : Kind) (value : ℕ → Spot → List Inst) → ProperValue m f k value
      → ProperBranches m f (λ w d n. tested w k (kept d k value) n)
  kept_tested k value h cs w d n = testing m f cs w k (kept d k value) n (is_kept m f d k k value refl h)

  pub one_compared : (o : Operation) (p : Part) (k : Kind) (value : ℕ → Spot → List Inst) → ProperValue m f k value
      → ProperBranches m f (compared o (p ∷ []) k value)
  one_compared (operation.Compare x j) p k value h = kept_tested k value h
  one_compared _ p k value h = kept_tested k value h

  pub two_compared : (o : Operation) (p q : Part) (k : Kind) (value : ℕ → Spot → List Inst) → ProperPart m f (operand_kind o) p
      → ProperPart m f (right_kind o) q → ProperValue m f k value → ProperBranches m f (compared o (p ∷ q ∷ []) k value)
  two_compared (operation.Compare x j) p q k value a b h = λ cs w d n.
      let e = seen_by Own p in
      let g = seen_by Short q in
      let ea = seen m f Own j p a in
      let u = ready_before d e g in
      let v = ready (suc d) g in
      let ru : ProperReady m f j u = is_before m f d j e e.leaf g.changes ea ea.leaf in
      let rv : ProperReady m f j v = part_ready m f (suc d) j g (seen m f Short j q b) in
      of_two m f (Passing m f cs n) cs cs j j u v (λ y z. branch w j x y z n) ru rv
      (branching m f cs w j x u.operand v.operand n ru.taken rv.taken)
  two_compared _ p q k value a b h = kept_tested k value h

  -- to the end of the right operand, or past it
  over : (cs : List Callee) (a b : List Inst) (n : ℕ) → Piece m f (Passing m f cs (length b)) cs cs a → Piece m f (Passing m f cs n) cs cs b
      → Piece m f (Passing m f cs n) cs cs (a ++ b)
  over cs a b n p r =
      both m f (Passing m f cs (length b)) (Passing m f cs n) (Passing m f cs n) cs cs cs a b p r
      (λ q h k. goes_behind m f cs cs b q r.level h) (λ q k. k)

  past : (cs : List Callee) (a b : List Inst) (n : ℕ) → Piece m f (Passing m f cs (length b + n)) cs cs a
      → Piece m f (Passing m f cs n) cs cs b → Piece m f (Passing m f cs n) cs cs (a ++ b)
  past cs a b n p r =
      both m f (Passing m f cs (length b + n)) (Passing m f cs n) (Passing m f cs n) cs cs cs a b p r
      (λ q h k. goes_at m f cs (q + length b + n) (q + (length b + n)) (omega arith) k) (λ q k. k)

  pub connecting : (c : Connective) (l r : Part) → ProperBranches m f l.branches → ProperBranches m f r.branches
      → ProperBranches m f (connected c l r)
  connecting connective.And l r a b cs true d n = over cs _ _ n (a cs false d (length (r.branches true d n))) (b cs true d n)
  connecting connective.Or l r a b cs true d n = past cs _ _ n (a cs true d (length (r.branches true d n) + n)) (b cs true d n)
  connecting connective.And l r a b cs false d n = past cs _ _ n (a cs false d (length (r.branches false d n) + n)) (b cs false d n)
  connecting connective.Or l r a b cs false d n = over cs _ _ n (a cs true d (length (r.branches false d n))) (b cs false d n)

  -- the 1, and past the 0
  ones : (cs : List Callee) (s : Spot) → IsWritten m f cs s → spot_kind s ≡ kind.Int
      → Piece m f (Passing m f cs 1) cs cs (Hand s (Number (pos 1)) ∷ Skip 1 ∷ [])
  ones cs s w e =
      both m f No (Passing m f cs 1) (Passing m f cs 1) cs cs cs (Hand s (Number (pos 1)) ∷ []) (Skip 1 ∷ [])
      (hand m f cs s (Number (pos 1)) w (taken_as m f kind.Int (spot_kind s) (Number (pos 1)) (sym e) one_in))
      (single m f (Passing m f cs 1) cs (Skip 1) (λ pc g a. a)) (λ q h k. tt) (λ q k. k)

  truths : (cs : List Callee) (s : Spot) → IsWritten m f cs s → spot_kind s ≡ kind.Int
      → Plain m f cs (Hand s (Number (pos 1)) ∷ Skip 1 ∷ Hand s (Number (pos 0)) ∷ [])
  truths cs s w e =
      let z : Plain m f cs (Hand s (Number (pos 0)) ∷ []) = hand m f cs s (Number (pos 0)) w (zero_in (spot_kind s)) in
      both m f (Passing m f cs 1) No No cs cs cs (Hand s (Number (pos 1)) ∷ Skip 1 ∷ []) (Hand s (Number (pos 0)) ∷ []) (ones cs s w e) z
      (λ q h k. goes_behind m f cs cs (Hand s (Number (pos 0)) ∷ []) q z.level h) (λ q k. k)

  pub truth_value : (branches : Bool → ℕ → ℕ → List Inst) → ProperBranches m f branches → ProperValue m f kind.Int (truth_of branches)
  truth_value branches h cs d s w e =
      both m f (Passing m f cs 2) No No cs cs cs (branches false d 2) (Hand s (Number (pos 1)) ∷ Skip 1 ∷ Hand s (Number (pos 0)) ∷ [])
      (h cs false d 2) (truths cs s w e)
      (λ q a k.
      goes_behind m f cs cs (Hand s (Number (pos 1)) ∷ Skip 1 ∷ []) q refl
      (at_front m f cs (Hand s (Number (pos 1)) ∷ Skip 1 ∷ []) (Hand s (Number (pos 0)) ∷ []) q a))
      (λ q k. k)

  -- ---- assignments

  -- a place gets what a temporary has, which is handed on
  stored_handed : (cs : List Callee) (k : Kind) (d : ℕ) (to s : Spot) → IsRead m f to → spot_kind to ≡ k → IsWritten m f cs s
      → spot_kind s ≡ k → Plain m f cs (Move to (In (Temporary k d)) ∷ Hand s (In (Temporary k d)) ∷ [])
  stored_handed cs k d to s r t w e =
      then_one m f cs (Move to (In (Temporary k d))) (Hand s (In (Temporary k d)))
      (move m f cs to (In (Temporary k d)) (written m f cs to r) (tt, sym t)) (hand m f cs s (In (Temporary k d)) w (tt, sym e))

  pub assigning : (k : Kind) (p : Part) (to : Spot) → ProperPart m f k p → IsRead m f to → spot_kind to ≡ k
      → ProperValue m f k (assigned_first p to)
  assigning k p to h r t cs d s w e =
      both_plain m f cs cs cs (p.value (suc d) (Temporary p.kind d)) (Move to (In (Temporary p.kind d)) ∷ Hand s
      (In (Temporary p.kind d)) ∷ [])
      (h.value cs (suc d) (Temporary p.kind d) tt h.kind)
      (stored_handed cs p.kind d to s r (t ∙ sym h.kind) w (e ∙ sym h.kind))

  pub new_changed : (o : Operation) (k : Kind) (to : Spot) (ps : List Part) → ProperValue m f k (applied o ps) → IsRead m f to
      → spot_kind to ≡ k → ProperValue m f k (changed given.New o k to ps)
  new_changed o k to ps h r t cs d s w e =
      both_plain m f cs cs cs (applied o ps d (Temporary k d)) (Move to (In (Temporary k d)) ∷ Hand s (In (Temporary k d)) ∷ [])
      (h cs d (Temporary k d) tt refl) (stored_handed cs k d to s r t w e)

  pub old_changed : (o : Operation) (k : Kind) (to : Spot) (ps : List Part) → IsOfOne o → k ≡ operand_kind o → k ≡ kind_given o
      → IsRead m f to → spot_kind to ≡ k → ProperValue m f k (changed given.Old o k to ps)
  old_changed o k to ps i a b r t cs d s w e =
      both_plain m f cs cs cs (Move (Temporary k d) (In to) ∷ []) (Alter o to (In (Temporary k d)) ∷ Hand s (In (Temporary k d)) ∷ [])
      (move m f cs (Temporary k d) (In to) tt (r, t))
      (then_one m f cs (Alter o to (In (Temporary k d))) (Hand s (In (Temporary k d)))
      (single m f No cs (Alter o to (In (Temporary k d)))
      (λ pc g q. (
        i,
        written m f cs to r,
        t ∙ b ∙ given_same o,
        (tt, a),
        reads_own o (In (Temporary k d)) (λ l. tt),
        g,
      )))
      (hand m f cs s (In (Temporary k d)) w (tt, sym e)))

  -- ---- whole parts

  pub moved_leaf : (k : Kind) (l : Option Operand) → ProperLeaf m f k l → ProperValue m f k (λ d s. from_leaf l s)
  moved_leaf k None h cs d s w e = none m f No cs
  moved_leaf k (Some x) h cs d s w e = move m f cs s x w (taken_as m f k (spot_kind s) x (sym e) (h x refl))

  pub plain_part : (k : Kind) (t : Term) (value : ℕ → Spot → List Inst) → kind_in t ≡ k → ProperLeaf m f k (leaf t)
      → ProperValue m f k value → ProperPart m f k (plain t value)
  plain_part k t value e l h = record {
    kind = e;
    leaf = l;
    value = h;
    branches = λ cs w d n.
        let x = ready_of d (kind_in t) (leaf t) value in
        let r : ProperReady m f k x = is_ready m f d (kind_in t) k (leaf t) value e l h in
        testing m f cs w (kind_in t) x n (subst (λ j. ProperReady m f j x) (sym e) r);
  }

  pub whole_part : (k : Kind) (t : Term) (value : ℕ → Spot → List Inst) (branches : Bool → ℕ → ℕ → List Inst) → kind_in t ≡ k
      → leaf t ≡ None → ProperValue m f k value → ProperBranches m f branches → ProperPart m f k (part t value branches)
  whole_part k t value branches e l h b =
      record { kind = e; leaf = λ x n. absurd (none-some x (sym l ∙ n)); value = h; branches = b }
