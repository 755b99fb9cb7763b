-- How many temporaries the code of parts needs, by how many nodes their trees have.
use Rattle.std.proofs.Common.{◌≡◌, ℕ, suc, ◌+◌, ◌*◌, ◌≤◌, pos, max, Bool, true, false, List, [], ◌∷◌, ◌++◌, length, Option, Some, None}
use Rattle.std.proofs.Common.{refl, subst, ℤ}
use Rattle.std.proofs.Common.{arith}
use Rattle.std.specs.Prelude.{if◌then◌else◌}
use Rattle.std.proofs.lemmas.Option.{none-some, same_Some}
use Rattle.limbo_values.specs.declared.number.Kind.{Kind}
use Rattle.limbo_values.specs.declared.operator.Comparison.{Comparison}
use Rattle.limbo_values.specs.declared.operator.Comparison.TheVariants as c
use Rattle.limbo_typed.specs.declared.operation.Operation.{Operation}
use Rattle.limbo_typed.specs.declared.operation.Operation.TheVariants as operation
use Rattle.limbo_typed.specs.declared.operation.Connective.{Connective}
use Rattle.limbo_typed.specs.declared.operation.Connective.TheVariants as connective
use Rattle.limbo_typed.specs.declared.operation.Given.TheVariants as given
use Rattle.typed_meaning.specs.Trees.{Term}
use Rattle.slot_code.specs.Machine.{same_kind}
use Rattle.slot_code.specs.Code.{Spot, Variable, Global, Temporary, Argument, Operand, In, Number, Inst, Move, Hand, Alter, Operate}
use Rattle.slot_code.specs.Code.{Branch, Skip}
use Rattle.slot_code.specs.Code.{Function}
use Rattle.dis_objects.specs.Frames.{Callee, spot_count, operand_count, all_bytes}
use Rattle.typed_lower.specs.Kinds.{kind_in, leaf}
use Rattle.typed_lower.specs.declared.taking.Taking.{Taking}
use Rattle.typed_lower.specs.declared.taking.Taking.TheVariants.{Any, Own, Short}
use Rattle.typed_lower.specs.Terms.{Ready, Part, ready, ready_before, ready_of, kept, unless_changed, own, is_short, short, taken_by}
use Rattle.typed_lower.specs.Terms.{left_taking, right_taking, seen_by}
use Rattle.typed_lower.specs.Terms.{one, two}
use Rattle.typed_lower.specs.Terms.{branch, opposite, tested, compared, connected, truth_of, applied, assigned_first, changed, from_leaf}
use Rattle.typed_lower.specs.Terms.{plain}
use Rattle.part_code.specs.Held.{IsMiddle, IsHeld}
use Rattle.part_code.proofs.Held.{Held, held_both, held_none, held_one, at_most}

-- ---- what instructions name

one_count : (b : Bool) (d top : ℕ) → suc d ≤ top → (if b then suc d else 0) ≤ top
one_count true d top l = l
one_count false d top l = omega arith

pub temporary_count : (k j : Kind) (d top : ℕ) → suc d ≤ top → spot_count k (Temporary j d) ≤ top
temporary_count k j d top l = one_count (same_kind k j) d top l

-- An operand that is no temporary.
abbrev pub NoTemporary : Option Operand → Type 0
NoTemporary l = (x : Operand) → l ≡ Some x → (k : Kind) → operand_count k x ≤ 0

own_none : (l : Option Operand) → NoTemporary l → NoTemporary (own l)
own_none (Some (In (Global j y))) h x e k = absurd (none-some x e)
own_none (Some (In (Variable j y))) h x e k = h x e k
own_none (Some (In (Temporary j y))) h x e k = h x e k
own_none (Some (In (Argument j y))) h x e k = h x e k
own_none (Some (Number z)) h x e k = h x e k
own_none None h x e k = h x e k

short_some : (b : Bool) (z : ℤ) → NoTemporary (if b then Some (Number z) else None)
short_some true z x e k = subst (λ (y : Operand). operand_count k y ≤ 0) (same_Some (Number z) x e) (omega arith)
short_some false z x e k = absurd (none-some x e)

short_none : (l : Option Operand) → NoTemporary l → NoTemporary (short l)
short_none (Some (In (Global j y))) h x e k = absurd (none-some x e)
short_none (Some (In (Variable j y))) h x e k = h x e k
short_none (Some (In (Temporary j y))) h x e k = h x e k
short_none (Some (In (Argument j y))) h x e k = h x e k
short_none (Some (Number z)) h x e k = short_some (is_short z) z x e k
short_none None h x e k = h x e k

taken_none : (y : Taking) (l : Option Operand) → NoTemporary l → NoTemporary (taken_by y l)
taken_none Any l h = h
taken_none Own l h = own_none l h
taken_none Short l h = short_none l h

-- ---- operands in the middle

-- What stands in the middle is short, or a temporary.
short_number : (b : Bool) (z : ℤ) → is_short z ≡ b → (d : ℕ) (k : Kind) (value : ℕ → Spot → List Inst)
    → IsMiddle (ready_of d k (if b then Some (Number z) else None) value).operand
short_number true z e d k value = e
short_number false z e d k value = tt

pub short_ready : (l : Option Operand) (d : ℕ) (k : Kind) (value : ℕ → Spot → List Inst) → IsMiddle (ready_of d k (short l) value).operand
short_ready (Some (In (Global j y))) d k value = tt
short_ready (Some (In (Variable j y))) d k value = tt
short_ready (Some (In (Temporary j y))) d k value = tt
short_ready (Some (In (Argument j y))) d k value = tt
short_ready (Some (Number z)) d k value = short_number (is_short z) z refl d k value
short_ready None d k value = tt

chosen_middle : (b : Bool) (d : ℕ) (p : Part) (x : Operand) → IsMiddle x
    → IsMiddle (if b then kept d p.kind p.value else record { before = []; operand = x }).operand
chosen_middle true d p x h = tt
chosen_middle false d p x h = h

number_before : (b : Bool) (z : ℤ) → is_short z ≡ b → (d : ℕ) (p : Part) (changes : Operand → Bool)
    → IsMiddle (unless_changed d p (if b then Some (Number z) else None) changes).operand
number_before true z e d p changes = chosen_middle (changes (Number z)) d p (Number z) e
number_before false z e d p changes = tt

pub short_before : (l : Option Operand) (d : ℕ) (p : Part) (changes : Operand → Bool) → IsMiddle (unless_changed d p (short l) changes).operand
short_before (Some (In (Global j y))) d p changes = tt
short_before (Some (In (Variable j y))) d p changes = chosen_middle (changes (In (Variable j y))) d p (In (Variable j y)) tt
short_before (Some (In (Temporary j y))) d p changes = chosen_middle (changes (In (Temporary j y))) d p (In (Temporary j y)) tt
short_before (Some (In (Argument j y))) d p changes = chosen_middle (changes (In (Argument j y))) d p (In (Argument j y)) tt
short_before (Some (Number z)) d p changes = number_before (is_short z) z refl d p changes
short_before None d p changes = tt

-- So the machine can hold an operation on two operands.
pub operated : (o : Operation) (s : Spot) (d : ℕ) (p q : Part)
    → IsHeld (Operate o s (ready_before d (seen_by (left_taking o) p) (seen_by (right_taking o) q)).operand
    (ready (suc d) (seen_by (right_taking o) q)).operand)
operated (operation.Arithmetic u k) s d p q = short_before p.leaf d (seen_by Short p) q.changes
operated (operation.Shift u k) s d p q = short_before p.leaf d (seen_by Short p) q.changes
operated (operation.Compare u k) s d p q = short_ready q.leaf (suc d) q.kind q.value
operated o s d p q = tt

module _ (fs : List Function) where
  abbrev pub FitsValue : ℕ → (ℕ → Spot → List Inst) → Type 0
  FitsValue w value =
      (cs : List Callee) (d : ℕ) (s : Spot) (T L : ℕ) → d + w ≤ suc T → ((k : Kind) → spot_count k s ≤ T) → all_bytes fs cs + 8 * w ≤ L + 8
      → Held fs T L cs cs (value d s)

  abbrev pub FitsBranches : ℕ → (Bool → ℕ → ℕ → List Inst) → Type 0
  FitsBranches w branches =
      (cs : List Callee) (b : Bool) (d n : ℕ) (T L : ℕ) → d + w ≤ T → all_bytes fs cs + 8 * w ≤ L + 8 → Held fs T L cs cs (branches b d n)

  -- The code of a tree of so many nodes.
  pub record Fits (w : ℕ) (p : Part) : Type 0 where
    pub some : 1 ≤ w
    pub leaf : NoTemporary p.leaf
    pub value : FitsValue w p.value
    pub branches : FitsBranches w p.branches

  seen_fits : (y : Taking) (w : ℕ) (p : Part) → Fits w p → Fits w (seen_by y p)
  seen_fits y w p h = record { some = h.some; leaf = taken_none y p.leaf h.leaf; value = h.value; branches = h.branches }

  -- ---- operands

  pub record Prepared (T L : ℕ) (cs : List Callee) (r : Ready) : Type 0 where
    pub before : Held fs T L cs cs r.before
    pub operand : (k : Kind) → operand_count k r.operand ≤ T

  pub kept_prepared : (T L : ℕ) (cs : List Callee) (d w : ℕ) (j : Kind) (value : ℕ → Spot → List Inst) → FitsValue w value → 1 ≤ w
      → d + w ≤ T
      → all_bytes fs cs + 8 * w ≤ L + 8 → Prepared T L cs (kept d j value)
  kept_prepared T L cs d w j value h s l b = record {
    before = h cs (suc d) (Temporary j d) T L (omega (arith, l)) (λ k. temporary_count k j d T (omega (arith, l, s))) b;
    operand = λ k. temporary_count k j d T (omega (arith, l, s));
  }

  leaf_prepared : (T L : ℕ) (cs : List Callee) (x : Operand) → ((k : Kind) → operand_count k x ≤ 0) → all_bytes fs cs ≤ L
      → Prepared T L cs (record { before = []; operand = x })
  leaf_prepared T L cs x h b = record { before = held_none fs T L cs b; operand = λ k. let l = h k in omega (arith, l) }

  pub ready_prepared : (T L : ℕ) (cs : List Callee) (d w : ℕ) (j : Kind) (l : Option Operand) (value : ℕ → Spot → List Inst) → NoTemporary l
      → FitsValue w value → 1 ≤ w → d + w ≤ T → all_bytes fs cs + 8 * w ≤ L + 8 → Prepared T L cs (ready_of d j l value)
  ready_prepared T L cs d w j (Some x) value n h s l b = leaf_prepared T L cs x (n x refl) (omega (arith, b, s))
  ready_prepared T L cs d w j None value n h s l b = kept_prepared T L cs d w j value h s l b

  chosen : (T L : ℕ) (cs : List Callee) (b : Bool) (d w : ℕ) (p : Part) (x : Operand) → Fits w p → ((k : Kind) → operand_count k x ≤ 0)
      → d + w ≤ T → all_bytes fs cs + 8 * w ≤ L + 8
      → Prepared T L cs (if b then kept d p.kind p.value else record { before = []; operand = x })
  chosen T L cs true d w p x h n l b = kept_prepared T L cs d w p.kind p.value h.value h.some l b
  chosen T L cs false d w p x h n l b = let s = h.some in leaf_prepared T L cs x n (omega (arith, b, s))

  before_prepared : (T L : ℕ) (cs : List Callee) (d w : ℕ) (p : Part) (l : Option Operand) (changes : Operand → Bool) → Fits w p
      → NoTemporary l → d + w ≤ T → all_bytes fs cs + 8 * w ≤ L + 8 → Prepared T L cs (unless_changed d p l changes)
  before_prepared T L cs d w p (Some x) changes h n l b = chosen T L cs (changes x) d w p x h (n x refl) l b
  before_prepared T L cs d w p None changes h n l b = kept_prepared T L cs d w p.kind p.value h.value h.some l b

  pub one_held : (T L : ℕ) (cs to : List Callee) (x : Ready) (last : Operand → Inst) → Prepared T L cs x
      → Held fs T L cs to (last x.operand ∷ []) → Held fs T L cs to (one x last)
  one_held T L cs to x last h g = held_both fs T L cs cs to x.before (last x.operand ∷ []) h.before g

  two_held : (T L : ℕ) (cs to : List Callee) (x y : Ready) (last : Operand → Operand → Inst) → Prepared T L cs x → Prepared T L cs y
      → Held fs T L cs to (last x.operand y.operand ∷ []) → Held fs T L cs to (two x y last)
  two_held T L cs to x y last h g i =
      held_both fs T L cs cs to (x.before ++ y.before) (last x.operand y.operand ∷ [])
      (held_both fs T L cs cs cs x.before y.before h.before g.before) i

  -- ---- instructions

  pub moved : (T L : ℕ) (cs : List Callee) (s : Spot) (x : Operand) → ((k : Kind) → spot_count k s ≤ T)
      → ((k : Kind) → operand_count k x ≤ T)
      → all_bytes fs cs ≤ L → Held fs T L cs cs (Move s x ∷ [])
  moved T L cs s x h g b = held_one fs T L cs (Move s x) tt (λ k. at_most (spot_count k s) (operand_count k x) T (h k) (g k)) b b

  pub handed : (T L : ℕ) (cs : List Callee) (s : Spot) (x : Operand) → ((k : Kind) → spot_count k s ≤ T)
      → ((k : Kind) → operand_count k x ≤ T)
      → all_bytes fs cs ≤ L → Held fs T L cs cs (Hand s x ∷ [])
  handed T L cs s x h g b = held_one fs T L cs (Hand s x) tt (λ k. at_most (spot_count k s) (operand_count k x) T (h k) (g k)) b b

  branched : (T L : ℕ) (cs : List Callee) (w : Bool) (j : Kind) (o : Comparison) (x y : Operand) (n : ℕ)
      → ((k : Kind) → operand_count k x ≤ T) → ((k : Kind) → operand_count k y ≤ T) → all_bytes fs cs ≤ L → IsMiddle y
      → Held fs T L cs cs (branch w j o x y n ∷ [])
  branched T L cs true j o x y n h g b m =
      held_one fs T L cs (Branch j o x y n) m (λ k. at_most (operand_count k x) (operand_count k y) T (h k) (g k)) b b
  branched T L cs false j o x y n h g b m =
      held_one fs T L cs (Branch j (opposite o) x y n) m (λ k. at_most (operand_count k x) (operand_count k y) T (h k) (g k)) b b

  pub tested_held : (T L : ℕ) (cs : List Callee) (w : Bool) (j : Kind) (x : Ready) (n : ℕ) → Prepared T L cs x → all_bytes fs cs ≤ L
      → Held fs T L cs cs (tested w j x n)
  tested_held T L cs w j x n h b =
      one_held T L cs cs x (λ y. branch w j c.Unequal y (Number (pos 0)) n) h
      (branched T L cs w j c.Unequal x.operand (Number (pos 0)) n h.operand (λ k. omega arith) b refl)

  -- ---- operations

  pub one_fits : (o : Operation) (w : ℕ) (p : Part) → Fits w p → FitsValue (suc w) (applied o (p ∷ []))
  one_fits o w p h cs d s T L l t b =
      let q = seen_by (left_taking o) p in
      let x = ready d q in
      let g = seen_fits (left_taking o) w p h in
      let a = h.some in
      let r : Prepared T L cs x = ready_prepared T L cs d w q.kind q.leaf q.value g.leaf g.value a (omega (arith, l)) (omega (arith, b)) in
      one_held T L cs cs x (λ y. Alter o s y) r
      (held_one fs T L cs (Alter o s x.operand) tt (λ k. at_most (spot_count k s) (operand_count k x.operand) T (t k) (r.operand k))
      (omega (arith, b)) (omega (arith, b)))

  pub two_fits : (o : Operation) (w v : ℕ) (p q : Part) → Fits w p → Fits v q → FitsValue (suc (w + v)) (applied o (p ∷ q ∷ []))
  two_fits o w v p q h g cs d s T L l t b =
      let a = seen_by (left_taking o) p in
      let e = seen_by (right_taking o) q in
      let x = ready_before d a e in
      let y = ready (suc d) e in
      let ha = seen_fits (left_taking o) w p h in
      let ge = seen_fits (right_taking o) v q g in
      let hs = h.some in
      let gs = g.some in
      let rx : Prepared T L cs x = before_prepared T L cs d w a a.leaf e.changes ha ha.leaf (omega (arith, l)) (omega (arith, b)) in
      let ry : Prepared T L cs y =
      ready_prepared T L cs (suc d) v e.kind e.leaf e.value ge.leaf ge.value gs (omega (arith, l, hs)) (omega (arith, b)) in
      two_held T L cs cs x y (λ i j. Operate o s i j) rx ry
      (held_one fs T L cs (Operate o s x.operand y.operand) (operated o s d p q)
      (λ k.
      at_most (spot_count k s) (max (operand_count k x.operand) (operand_count k y.operand)) T (t k)
      (at_most (operand_count k x.operand) (operand_count k y.operand) T (rx.operand k) (ry.operand k)))
      (omega (arith, b)) (omega (arith, b)))

  -- ---- conditions

  kept_tested : (w : ℕ) (j : Kind) (value : ℕ → Spot → List Inst) → 1 ≤ w → FitsValue w value
      → FitsBranches w (λ b d n. tested b j (kept d j value) n)
  kept_tested w j value s h cs b d n T L l a =
      tested_held T L cs b j (kept d j value) n (kept_prepared T L cs d w j value h s l a) (omega (arith, a, s))

  pub one_compared : (o : Operation) (p : Part) (w : ℕ) (j : Kind) (value : ℕ → Spot → List Inst) → 1 ≤ w → FitsValue w value
      → FitsBranches w (compared o (p ∷ []) j value)
  one_compared (operation.Compare x k) p w j value s h = kept_tested w j value s h
  one_compared _ p w j value s h = kept_tested w j value s h

  pub two_compared : (o : Operation) (p q : Part) (w v : ℕ) (j : Kind) (value : ℕ → Spot → List Inst) → Fits w p → Fits v q
      → FitsValue (suc (w + v)) value → FitsBranches (suc (w + v)) (compared o (p ∷ q ∷ []) j value)
  two_compared (operation.Compare x k) p q w v j value h g i = λ cs b d n T L l a.
      let hs = h.some in
      let gs = g.some in
      let i = seen_by Own p in
      let j = seen_by Short q in
      let hi = seen_fits Own w p h in
      let gj = seen_fits Short v q g in
      let y = ready_before d i j in
      let z = ready (suc d) j in
      let ry : Prepared T L cs y = before_prepared T L cs d w i i.leaf j.changes hi hi.leaf (omega (arith, l)) (omega (arith, a)) in
      let rz : Prepared T L cs z =
      ready_prepared T L cs (suc d) v j.kind j.leaf j.value gj.leaf gj.value gs (omega (arith, l, hs)) (omega (arith, a)) in
      two_held T L cs cs y z (λ e r. branch b k x e r n) ry rz
      (branched T L cs b k x y.operand z.operand n ry.operand rz.operand (omega (arith, a)) (short_ready q.leaf (suc d) q.kind q.value))
  two_compared _ p q w v j value h g i = kept_tested (suc (w + v)) j value (omega arith) i

  pub connected_fits : (x : Connective) (w v : ℕ) (l r : Part) → FitsBranches w l.branches → FitsBranches v r.branches
      → FitsBranches (w + v) (connected x l r)
  connected_fits connective.And w v l r h g cs true d n T L a b =
      held_both fs T L cs cs cs _ _ (h cs false d (length (r.branches true d n)) T L (omega (arith, a)) (omega (arith, b)))
      (g cs true d n T L (omega (arith, a)) (omega (arith, b)))
  connected_fits connective.Or w v l r h g cs true d n T L a b =
      held_both fs T L cs cs cs _ _ (h cs true d (length (r.branches true d n) + n) T L (omega (arith, a)) (omega (arith, b)))
      (g cs true d n T L (omega (arith, a)) (omega (arith, b)))
  connected_fits connective.And w v l r h g cs false d n T L a b =
      held_both fs T L cs cs cs _ _ (h cs false d (length (r.branches false d n) + n) T L (omega (arith, a)) (omega (arith, b)))
      (g cs false d n T L (omega (arith, a)) (omega (arith, b)))
  connected_fits connective.Or w v l r h g cs false d n T L a b =
      held_both fs T L cs cs cs _ _ (h cs true d (length (r.branches false d n)) T L (omega (arith, a)) (omega (arith, b)))
      (g cs false d n T L (omega (arith, a)) (omega (arith, b)))

  pub truth_fits : (w : ℕ) (branches : Bool → ℕ → ℕ → List Inst) → FitsBranches w branches → FitsValue (suc w) (truth_of branches)
  truth_fits w branches h cs d s T L l t b =
      let a : all_bytes fs cs ≤ L = omega (arith, b) in
      let i = Hand s (Number (pos 1)) in
      let j = Hand s (Number (pos 0)) in
      held_both fs T L cs cs cs (branches false d 2) (i ∷ Skip 1 ∷ j ∷ []) (h cs false d 2 T L (omega (arith, l)) (omega (arith, b)))
      (held_both fs T L cs cs cs (i ∷ []) (Skip 1 ∷ j ∷ []) (handed T L cs s (Number (pos 1)) t (λ k. omega arith) a)
      (held_both fs T L cs cs cs (Skip 1 ∷ []) (j ∷ []) (held_one fs T L cs (Skip 1) tt (λ k. omega arith) a a)
      (handed T L cs s (Number (pos 0)) t (λ k. omega arith) a)))

  -- ---- assignments

  -- a place that is no temporary
  abbrev pub Fixed : Spot → Type 0
  Fixed s = (k : Kind) → spot_count k s ≤ 0

  stored_handed : (T L : ℕ) (cs : List Callee) (j : Kind) (d : ℕ) (to s : Spot) → suc d ≤ T → Fixed to → ((k : Kind) → spot_count k s ≤ T)
      → all_bytes fs cs ≤ L → Held fs T L cs cs (Move to (In (Temporary j d)) ∷ Hand s (In (Temporary j d)) ∷ [])
  stored_handed T L cs j d to s l f t a =
      let x = In (Temporary j d) in
      held_both fs T L cs cs cs (Move to x ∷ []) (Hand s x ∷ [])
      (moved T L cs to x (λ k. let z = f k in omega (arith, z)) (λ k. temporary_count k j d T l) a)
      (handed T L cs s x t (λ k. temporary_count k j d T l) a)

  pub assigned_fits : (w : ℕ) (p : Part) (to : Spot) → Fits w p → Fixed to → FitsValue (suc (suc w)) (assigned_first p to)
  assigned_fits w p to h f cs d s T L l t b =
      let hs = h.some in
      held_both fs T L cs cs cs (p.value (suc d) (Temporary p.kind d)) (Move to (In (Temporary p.kind d)) ∷ Hand s
      (In (Temporary p.kind d)) ∷ [])
      (h.value cs (suc d) (Temporary p.kind d) T L (omega (arith, l)) (λ k. temporary_count k p.kind d T (omega (arith, l, hs)))
      (omega (arith, b)))
      (stored_handed T L cs p.kind d to s (omega (arith, l, hs)) f t (omega (arith, b)))

  pub new_fits : (o : Operation) (w : ℕ) (j : Kind) (to : Spot) (ps : List Part) → 2 ≤ w → FitsValue w (applied o ps) → Fixed to
      → FitsValue w (changed given.New o j to ps)
  new_fits o w j to ps ws h f cs d s T L l t b =
      held_both fs T L cs cs cs (applied o ps d (Temporary j d)) (Move to (In (Temporary j d)) ∷ Hand s (In (Temporary j d)) ∷ [])
      (h cs d (Temporary j d) T L l (λ k. temporary_count k j d T (omega (arith, l, ws))) b)
      (stored_handed T L cs j d to s (omega (arith, l, ws)) f t (omega (arith, b, ws)))

  pub old_fits : (o : Operation) (w : ℕ) (j : Kind) (to : Spot) (ps : List Part) → 2 ≤ w → Fixed to
      → FitsValue w (changed given.Old o j to ps)
  old_fits o w j to ps ws f cs d s T L l t b =
      let x = In (Temporary j d) in
      let a : all_bytes fs cs ≤ L = omega (arith, b, ws) in
      let e : suc d ≤ T = omega (arith, l, ws) in
      let z : (k : Kind) → spot_count k to ≤ T = λ k. let y = f k in omega (arith, y) in
      held_both fs T L cs cs cs (Move (Temporary j d) (In to) ∷ []) (Alter o to x ∷ Hand s x ∷ [])
      (moved T L cs (Temporary j d) (In to) (λ k. temporary_count k j d T e) z a)
      (held_both fs T L cs cs cs (Alter o to x ∷ []) (Hand s x ∷ [])
      (held_one fs T L cs (Alter o to x) tt (λ k. at_most (spot_count k to) (operand_count k x) T (z k) (temporary_count k j d T e)) a a)
      (handed T L cs s x t (λ k. temporary_count k j d T e) a))

  -- ---- whole parts

  pub leaf_fits : (w : ℕ) (l : Option Operand) → 1 ≤ w → NoTemporary l → FitsValue w (λ d s. from_leaf l s)
  leaf_fits w None ws n cs d s T L l t b = held_none fs T L cs (omega (arith, b, ws))
  leaf_fits w (Some x) ws n cs d s T L l t b =
      moved T L cs s x t (λ k. let z = n x refl k in omega (arith, z)) (omega (arith, b, ws))

  pub plain_fits : (w : ℕ) (t : Term) (value : ℕ → Spot → List Inst) → 1 ≤ w → NoTemporary (leaf t) → FitsValue w value
      → Fits w (plain t value)
  plain_fits w t value s n h = record {
    some = s;
    leaf = n;
    value = h;
    branches = λ cs b d i T L l a.
        tested_held T L cs b (kind_in t) (ready_of d (kind_in t) (leaf t) value) i
        (ready_prepared T L cs d w (kind_in t) (leaf t) value n h s l a) (omega (arith, a, s));
  }
