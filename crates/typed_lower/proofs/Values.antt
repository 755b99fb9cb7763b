-- The code of each form leaves its value at its place.
use Rattle.std.proofs.Common.{◌≡◌, ℕ, pos, zero, suc, ◌+◌, Bool, true, false, List, [], ◌∷◌, ◌++◌, length, refl, sym, ap, ◌∙◌, subst, arith}
use Rattle.std.proofs.Common.{length-append}
use Rattle.std.proofs.lemmas.Bool.{false≢true, eq-eqb}
use Rattle.std.proofs.lemmas.List.{get_or-set_other}
use Rattle.std.specs.Prelude.{slice_index_or, slice_set, nat_eq, not, ◌||◌, if◌then◌else◌}
use Rattle.std.specs.declared.cmp.Ordering.{Ordering}
use Rattle.std.specs.declared.cmp.Ordering.TheVariants as order
use Rattle.std.specs.Ordering.{int_cmp, is_eq, is_ne}
use Rattle.process_model.specs.Alone.{here, on}
use Rattle.limbo_values.specs.declared.number.Kind.{Kind}
use Rattle.limbo_values.specs.declared.operator.Comparison.{Comparison}
use Rattle.limbo_values.specs.declared.operator.Comparison.TheVariants as c
use Rattle.limbo_values.specs.Operators.{meets}
use Rattle.limbo_typed.specs.declared.operation.Operation.{Operation}
use Rattle.limbo_typed.specs.declared.operation.Given.TheVariants as given
use Rattle.system_model.specs.Values.{Value, Num, zero_value}
use Rattle.typed_meaning.specs.Values.{number_of, kind_of, holds}
use Rattle.typed_meaning.specs.World.{World}
use Rattle.typed_meaning.specs.Trees.{Local, Global, Place, At, Term, Evaluated, Literal, Read, Store, Change, Put, Terms, NoTerms}
use Rattle.typed_meaning.specs.Trees.{MoreTerms, Block}
use Rattle.typed_meaning.specs.Program.{Routine}
use Rattle.typed_meaning.specs.Evaluation.{stored_at, given_by}
use Rattle.slot_code.specs.Code.{Spot, Temporary, Operand, In, Number, Inst, Move, Hand, Alter, Branch, Function}
use Rattle.slot_code.specs.Code as code
use Rattle.slot_code.specs.Machine.{Frame, moved, stored, value_of}
use Rattle.slot_code.specs.Step.{compared_values}
use Rattle.typed_lower.specs.Kinds.{spot_of, writes, is_at, kind_at}
use Rattle.typed_lower.specs.Terms.{part_of, ready, ready_before, applied, opposite, left_taking, right_taking, taken_by, seen_by}
use Rattle.typed_lower.specs.Stands as stands
use Rattle.typed_lower.specs.Stands.{Fresh, AllFresh, IsOne, HasAt, beside, sourced, coded, obeys, Bursts, Stands, Going, Next}
use Rattle.typed_lower.proofs.Contexts.{Context, within_hole, in_store, first_among}
use Rattle.typed_lower.proofs.Places.{has_front, has_back, has_at, put_same, After, after_itself, after_then, after_weaker}
use Rattle.typed_lower.proofs.Operands.{a_value, Delivers, Comes, Applying, changing, no_terms}
use Rattle.typed_lower.proofs.Operands.{leaf_going, hand_going, write_going, one_going, two_going}
use Rattle.typed_lower.proofs.Parts.{ValueGoes, Written, with_temporary, temporary_after, kept_goes, ready_by}
use Rattle.typed_lower.proofs.Parts.{two_ready, either_false, taken_is, taken_alone}

-- ---- comparisons

opposite_meets : (x : Comparison) (o : Ordering) → meets (opposite x) o ≡ not (meets x o)
opposite_meets c.Equal order.Less = refl
opposite_meets c.Equal order.Equal = refl
opposite_meets c.Equal order.Greater = refl
opposite_meets c.Unequal order.Less = refl
opposite_meets c.Unequal order.Equal = refl
opposite_meets c.Unequal order.Greater = refl
opposite_meets c.Less order.Less = refl
opposite_meets c.Less order.Equal = refl
opposite_meets c.Less order.Greater = refl
opposite_meets c.AtMost order.Less = refl
opposite_meets c.AtMost order.Equal = refl
opposite_meets c.AtMost order.Greater = refl
opposite_meets c.Greater order.Less = refl
opposite_meets c.Greater order.Equal = refl
opposite_meets c.Greater order.Greater = refl
opposite_meets c.AtLeast order.Less = refl
opposite_meets c.AtLeast order.Equal = refl
opposite_meets c.AtLeast order.Greater = refl

pub opposite_compared : (x : Comparison) (a b : Value) → compared_values (opposite x) a b ≡ not (compared_values x a b)
opposite_compared x (Num a) (Num b) = opposite_meets x (int_cmp a b)

unequal_holds : (o : Ordering) → is_ne o ≡ (if is_eq o then false else true)
unequal_holds order.Less = refl
unequal_holds order.Equal = refl
unequal_holds order.Greater = refl

-- A value is tested by a comparison with 0.
pub test_holds : (v : Value) → compared_values c.Unequal v (Num (pos 0)) ≡ holds v
test_holds (Num z) = unequal_holds (int_cmp z (pos 0))

-- ---- variables that a write leaves

other_variable : (vs : List Value) (x y : ℕ) (v : Value) → nat_eq x y ≡ false
    → slice_index_or (slice_set vs y v) x zero_value ≡ slice_index_or vs x zero_value
other_variable vs x y v e =
    get_or-set_other vs y x v zero_value (λ same. false≢true (sym e ∙ eq-eqb x y same))

-- A write to a place leaves the variables that it isn't.
pub stored_keeps : (w : World) (g : Frame) (p : Place) (v : Value) (x : ℕ) → is_at (Local x) p ≡ false
    → slice_index_or (stored w g (spot_of p) v).frame.variables x zero_value ≡ slice_index_or g.variables x zero_value
stored_keeps w g (At t (Local y)) v x e = other_variable g.variables x y (number_of (kind_of t) v) e
stored_keeps w g (At t (Global y)) v x e = refl

-- What else it leaves.
pub stored_after : (written : ℕ → Bool) (d : ℕ) (w : World) (g : Frame) (p : Place) (v : Value)
    → ((x : ℕ) → written x ≡ false → is_at (Local x) p ≡ false) → After written d g.pc g (stored w g (spot_of p) v).frame
stored_after written d w g (At t (Local y)) v f = record {
  place = refl;
  function = refl;
  instance = refl;
  made = refl;
  low = λ k n l. refl;
  kept = λ x e. stored_keeps w g (At t (Local y)) v x (f x e);
}
stored_after written d w g (At t (Global y)) v f = after_itself written d g

pub stored_temporaries : (w : World) (g : Frame) (p : Place) (v : Value) (k : Kind) (n : ℕ)
    → (stored w g (spot_of p) v).frame.temporaries k n ≡ g.temporaries k n
stored_temporaries w g (At t (Local y)) v k n = refl
stored_temporaries w g (At t (Global y)) v k n = refl

pub two_few : (a b : Bool) → (a || (b || false)) ≡ false → (a || b) ≡ false
two_few true b e = e
two_few false true e = e
two_few false false e = e

module _ (routines : List Routine) (functions : List Function) (codes : List Inst) where
  abbrev V : Term → Type 0
  V t = ValueGoes routines functions codes t

  abbrev G : Frame → Block → Type 0
  G g todo = Going routines functions codes g todo

  -- Behind one instruction more.
  pub one_more : (written : ℕ → Bool) (d pc n : ℕ) (g g' : Frame) → After written d pc g g' → suc pc ≡ n
      → After written d n g (moved g' (suc g'.pc))
  one_more written d pc n g g' a e = record {
    place = ap suc a.place ∙ e;
    function = a.function;
    instance = a.instance;
    made = a.made;
    low = a.low;
    kept = a.kept;
  }

  -- ---- leaves

  pub literal_goes : (t : _) (v : Value) → V (Literal t v)
  literal_goes t (Num z) d s within g cx has arrives =
      leaf_going routines functions codes s (Number z) (Literal t (Num z)) within g cx refl has.0
      (λ w. arrives (moved g (suc g.pc)) (one_more (λ x. false) d g.pc (g.pc + 1) g g (after_itself (λ x. false) d g) (omega arith)) w
      (Num z))

  pub read_goes : (p : Place) → V (Read p)
  read_goes p d s within g cx has arrives =
      leaf_going routines functions codes s (In (spot_of p)) (Read p) within g cx refl has.0
      (λ w. arrives (moved g (suc g.pc)) (one_more (λ x. false) d g.pc (g.pc + 1) g g (after_itself (λ x. false) d g) (omega arith)) w
      (value_of w g (In (spot_of p))))

  -- ---- operations

  -- What stands behind an operation, whatever its operands were.
  abbrev pub Becomes : (become : List Value → Value → Term) → Spot → (Term → Block) → (written : ℕ → Bool) → (d pc : ℕ) → Frame → Type 0
  Becomes become s within written d pc g =
      (g' : Frame) → After written d pc g g' → (w : World) (vs : List Value) (v : Value)
      → Comes routines functions codes w g' s v (within (become vs v))

  or_false : (a : Bool) → (a || false) ≡ a
  or_false true = refl
  or_false false = refl

  pub applied_one : (whole : Terms → Term) (o : Operation) (become : List Value → Value → Term) (a : Term)
      → Applying routines functions codes whole o become → V a → (written : ℕ → Bool)
      → ((x : ℕ) → written x ≡ false → writes (Local x) a ≡ false) → (d : ℕ) (s : Spot) (within : Term → Block) (g : Frame)
      → Context routines within → HasAt codes g.pc (applied o (part_of a ∷ []) d s)
      → Becomes become s within written d (g.pc + length (applied o (part_of a ∷ []) d s)) g → G g (within (whole (MoreTerms a NoTerms)))
  applied_one whole o become a its goes written few d s within g cx has arrives =
      let y = left_taking o in
      let r = ready d (seen_by y (part_of a)) in
      let hole = its.holes (λ t. MoreTerms t NoTerms) (first_among NoTerms (no_terms)) in
      ready_by routines functions codes a goes (taken_by y (part_of a).leaf) (taken_is y (part_of a).leaf) d
      (λ t. within (whole (MoreTerms t NoTerms))) g (within_hole routines within _ cx hole)
      (has_front codes g.pc r.before (Alter o s r.operand ∷ []) has) (λ g1 u a1 h.
      one_going routines functions codes whole o become s r.operand u within g1 its cx h
      (has_at codes _ _ (Alter o s r.operand ∷ []) (sym a1.place) (has_back codes g.pc r.before (Alter o s r.operand ∷ []) has)).0
      (λ w v e. arrives (moved g1 (suc g1.pc))
      (one_more written d _ _ g g1 (after_weaker (Written routines functions codes a) written d d _ g g1 few (omega arith) a1)
      (omega (arith, length-append r.before (Alter o s r.operand ∷ [])))) w (value_of w g1 r.operand ∷ []) v))

  pub applied_two : (whole : Terms → Term) (o : Operation) (become : List Value → Value → Term) (a b : Term)
      → Applying routines functions codes whole o become → Fresh b → V a → V b → (written : ℕ → Bool)
      → ((x : ℕ) → written x ≡ false → (writes (Local x) a || writes (Local x) b) ≡ false) → (d : ℕ) (s : Spot) (within : Term → Block)
      (g : Frame) → Context routines within → HasAt codes g.pc (applied o (part_of a ∷ part_of b ∷ []) d s)
      → Becomes become s within written d (g.pc + length (applied o (part_of a ∷ part_of b ∷ []) d s)) g
      → G g (within (whole (MoreTerms a (MoreTerms b NoTerms))))
  applied_two whole o become a b its fresh goes_a goes_b written few d s within g cx has arrives =
      let y = left_taking o in
      let z = right_taking o in
      let A = ready_before d (seen_by y (part_of a)) (seen_by z (part_of b)) in
      let B = ready (suc d) (seen_by z (part_of b)) in
      let i = code.Operate o s A.operand B.operand in
      let l = length-append (A.before ++ B.before) (i ∷ []) in
      two_ready routines functions codes whole o become a b its fresh goes_a goes_b (taken_by y (part_of a).leaf)
      (taken_by z (part_of b).leaf) (taken_is y (part_of a).leaf) (taken_is z (part_of b).leaf) (taken_alone o a b) d within cx g
      (has_front codes g.pc (A.before ++ B.before) (i ∷ []) has) (λ g1 u v a1 h h2.
      two_going routines functions codes whole o become s A.operand B.operand u v within g1 its cx h h2
      (has_at codes _ _ (i ∷ []) (sym a1.place) (has_back codes g.pc (A.before ++ B.before) (i ∷ []) has)).0
      (λ w z e. arrives (moved g1 (suc g1.pc))
      (one_more written d _ _ g g1 (after_weaker _ written d d _ g g1 few (omega arith) a1) (omega (arith, l))) w
      (value_of w g1 A.operand ∷ value_of w g1 B.operand ∷ []) z))

  -- ---- assignments

  -- A write to a place, with the value that is left.
  pub store_step : (p : Place) (v : Value) (within : Term → Block) → Context routines within → (w : World) (g : Frame)
      → Bursts routines functions 1 w g (within (Store p (Evaluated v))) (stored w g (spot_of p) v).world (stored w g (spot_of p) v).frame
      (within (Evaluated v))
  store_step (At t (Local x)) v within cx w g n below = on (cx.acts w g n below (Store (At t (Local x)) (Evaluated v)) tt) here
  store_step (At t (Global x)) v within cx w g n below = on (cx.acts w g n below (Store (At t (Global x)) (Evaluated v)) tt) here

  pub put_step : (p : Place) (v y : Value) (within : Term → Block) → Context routines within → (w : World) (g : Frame)
      → Bursts routines functions 1 w g (within (Put p (stored_at p v) y)) (stored w g (spot_of p) v).world (stored w g (spot_of p) v).frame
      (within (Evaluated y))
  put_step (At t (Local x)) v y within cx w g n below = on (cx.acts w g n below (Put (At t (Local x)) (number_of (kind_of t) v) y) tt) here
  put_step (At t (Global x)) v y within cx w g n below =
      on (cx.acts w g n below (Put (At t (Global x)) (number_of (kind_of t) v) y) tt) here

  one_is_some : suc zero ≡ zero → ⊥
  one_is_some e = omega (arith, e)

  -- A value in a temporary is written to its place, and the value that the whole has is handed on from a temporary.
  written_on : (p : Place) (k j : Kind) (d : ℕ) (s : Spot) (v y : Value) (tree : Term) (within : Term → Block) (written : ℕ → Bool)
      (g g1 : Frame) → Context routines within → ((x : ℕ) → written x ≡ false → is_at (Local x) p ≡ false)
      → ((w : World) (g2 : Frame) → Bursts routines functions 1 w g2 (within tree) (stored w g2 (spot_of p) v).world
      (stored w g2 (spot_of p) v).frame (within (Evaluated y)))
      → ((w : World) → value_of w g1 (In (Temporary k d)) ≡ v) → ((w : World) → value_of w g1 (In (Temporary j d)) ≡ y)
      → After written d g1.pc g g1
      → HasAt codes g1.pc (Move (spot_of p) (In (Temporary k d)) ∷ Hand s (In (Temporary j d)) ∷ [])
      → Delivers routines functions codes s within written d (suc (suc g1.pc)) g → G g1 (within tree)
  written_on p k j d s v y tree within written g g1 cx few step hv hy a1 has arrives =
      write_going routines functions codes (spot_of p) (In (Temporary k d)) v tree within g1 hv has.0 (λ w.
      let g2 = moved g1 (suc g1.pc) in
      let g3 = (stored w g2 (spot_of p) v).frame in
      let a2 : After written d (suc g1.pc) g g2 = one_more written d g1.pc (suc g1.pc) g g1 a1 refl in
      let a3 : After written d g2.pc g g3 = after_then written d (suc g1.pc) g2.pc g g2 g3 a2 (stored_after written d w g2 p v few) in (
        1,
        stands.arrives 1 w g2 (spot_of p) v (within tree) (within (Evaluated y)) (step w g2)
            (stands.going g3 (within (Evaluated y))
            (hand_going routines functions codes s (In (Temporary j d)) y within g3 cx
            (λ w1. stored_temporaries w g2 p v j d ∙ hy w1)
            (has_at codes _ _ (Hand s (In (Temporary j d)) ∷ []) (sym a3.place) has.1).0
            (λ w1. arrives (moved g3 (suc g3.pc)) (one_more written d g2.pc (suc (suc g1.pc)) g g3 a3 refl) w1 y))),
        one_is_some,
      ))

  pub store_goes : (p : Place) (t : Term) → V t → V (Store p t)
  store_goes p t goes d s within g cx has arrives =
      let k = (part_of t).kind in
      let A = (part_of t).value (suc d) (Temporary k d) in
      let B = Move (spot_of p) (In (Temporary k d)) ∷ Hand s (In (Temporary k d)) ∷ [] in
      let W = Written routines functions codes (Store p t) in
      let few : (x : ℕ) → W x ≡ false → (is_at (Local x) p ≡ false) × (writes (Local x) t ≡ false) =
      λ x e. either_false (is_at (Local x) p) (writes (Local x) t) e in
      kept_goes routines functions codes t goes k d (λ u. within (Store p u)) g (within_hole routines within (Store p) cx (in_store p))
      (has_front codes g.pc A B has) (λ g1 v a1 h.
      written_on p k k d s v v (Store p (Evaluated v)) within W g g1 cx (λ x e. (few x e).0)
      (λ w g2. store_step p v within cx w g2) h h
      (subst (λ q. After W d q g g1) (sym a1.place)
      (after_weaker (Written routines functions codes t) W d d _ g g1 (λ x e. (few x e).1) (omega arith) a1))
      (has_at codes _ _ B (sym a1.place) (has_back codes g.pc A B has))
      (subst (λ q. Delivers routines functions codes s within W d q g)
      (omega (arith, length-append A B, a1.place)) arrives))

  -- An assignment with an operator, whose value is looked at.
  new_ending : (p : Place) (k : Kind) (d pc : ℕ) (s : Spot) (within : Term → Block) (written : ℕ → Bool) (g : Frame)
      → Context routines within → ((x : ℕ) → written x ≡ false → is_at (Local x) p ≡ false)
      → HasAt codes pc (Move (spot_of p) (In (Temporary k d)) ∷ Hand s (In (Temporary k d)) ∷ [])
      → Delivers routines functions codes s within written d (suc (suc pc)) g
      → Becomes (λ vs v. Put p (stored_at p v) v) (Temporary k d) within written d pc g
  new_ending p k d pc s within written g cx few has arrives g' a w vs v =
      let g1 = with_temporary routines functions codes g' k d v in
      let a1 : After written d pc g g1 = temporary_after routines functions codes written d pc k v g g' a in
      let held : (w1 : World) → value_of w1 g1 (In (Temporary k d)) ≡ v = λ w1. put_same g'.temporaries k d v in (
        0,
        stands.arrives 0 w g' (Temporary k d) v (within (Put p (stored_at p v) v)) (within (Put p (stored_at p v) v)) (λ n below. here)
            (stands.going g1 (within (Put p (stored_at p v) v))
            (written_on p k k d s v v (Put p (stored_at p v) v) within written g g1 cx few
            (λ w1 g2. put_step p v v within cx w1 g2) held held (subst (λ q. After written d q g g1) (sym a1.place) a1)
            (has_at codes _ _ (Move (spot_of p) (In (Temporary k d)) ∷ Hand s (In (Temporary k d)) ∷ []) (sym a1.place) has)
            (subst (λ q. Delivers routines functions codes s within written d q g) (ap (λ q. suc (suc q)) (sym a1.place)) arrives))),
      )

  pub new_one_goes : (o : Operation) (p : Place) (a : Term) → V a → V (Change o given.New p (MoreTerms a NoTerms))
  new_one_goes o p a goes d s within g cx has arrives =
      let k = kind_at p in
      let A = applied o (part_of a ∷ []) d (Temporary k d) in
      let B = Move (spot_of p) (In (Temporary k d)) ∷ Hand s (In (Temporary k d)) ∷ [] in
      let W = Written routines functions codes (Change o given.New p (MoreTerms a NoTerms)) in
      let few : (x : ℕ) → W x ≡ false → (is_at (Local x) p ≡ false) × ((writes (Local x) a || false) ≡ false) =
      λ x e. either_false (is_at (Local x) p) (writes (Local x) a || false) e in
      applied_one (Change o given.New p) o (λ vs v. Put p (stored_at p v) v) a (changing routines functions codes o given.New p) goes W
      (λ x e. (either_false (writes (Local x) a) false (few x e).1).0) d (Temporary k d) within g cx
      (has_front codes g.pc A B has)
      (new_ending p k d (g.pc + length A) s within W g cx (λ x e. (few x e).0) (has_back codes g.pc A B has)
      (subst (λ q. Delivers routines functions codes s within W d q g) (omega (arith, length-append A B)) arrives))

  pub new_two_goes : (o : Operation) (p : Place) (a b : Term) → Fresh b → V a → V b
      → V (Change o given.New p (MoreTerms a (MoreTerms b NoTerms)))
  new_two_goes o p a b fresh goes_a goes_b d s within g cx has arrives =
      let k = kind_at p in
      let A = applied o (part_of a ∷ part_of b ∷ []) d (Temporary k d) in
      let B = Move (spot_of p) (In (Temporary k d)) ∷ Hand s (In (Temporary k d)) ∷ [] in
      let W = Written routines functions codes (Change o given.New p (MoreTerms a (MoreTerms b NoTerms))) in
      let few : (x : ℕ) → W x ≡ false
      → (is_at (Local x) p ≡ false) × ((writes (Local x) a || (writes (Local x) b || false)) ≡ false) =
      λ x e. either_false (is_at (Local x) p) (writes (Local x) a || (writes (Local x) b || false)) e in
      applied_two (Change o given.New p) o (λ vs v. Put p (stored_at p v) v) a b (changing routines functions codes o given.New p) fresh
      goes_a goes_b W (λ x e. two_few (writes (Local x) a) (writes (Local x) b) (few x e).1) d (Temporary k d) within g cx
      (has_front codes g.pc A B has)
      (new_ending p k d (g.pc + length A) s within W g cx (λ x e. (few x e).0) (has_back codes g.pc A B has)
      (subst (λ q. Delivers routines functions codes s within W d q g) (omega (arith, length-append A B)) arrives))

  -- `++` and `--` behind their place.
  pub old_goes : (o : Operation) (p : Place) → V (Change o given.Old p (MoreTerms (Read p) NoTerms))
  old_goes o p d s within g cx has arrives =
      let k = kind_at p in
      let T = In (Temporary k d) in
      let whole = Change o given.Old p in
      let its = changing routines functions codes o given.Old p in
      let hole = its.holes (λ t. MoreTerms t NoTerms) (first_among NoTerms (no_terms)) in
      let W = Written routines functions codes (whole (MoreTerms (Read p) NoTerms)) in
      let few : (x : ℕ) → W x ≡ false → is_at (Local x) p ≡ false =
      λ x e. (either_false (is_at (Local x) p) (false || false) e).0 in
      leaf_going routines functions codes (Temporary k d) (In (spot_of p)) (Read p) (λ t. within (whole (MoreTerms t NoTerms))) g
      (within_hole routines within _ cx hole) refl has.0 (λ w.
      let X = value_of w g (In (spot_of p)) in
      let g1 = with_temporary routines functions codes (moved g (suc g.pc)) k d X in
      let a1 : After W d (suc g.pc) g g1 =
      temporary_after routines functions codes W d (suc g.pc) k X g (moved g (suc g.pc))
      (one_more W d g.pc (suc g.pc) g g (after_itself W d g) refl) in
      let Y = value_of w g1 T in (
        0,
        stands.arrives 0 w (moved g (suc g.pc)) (Temporary k d) X (within (whole (MoreTerms (Evaluated X) NoTerms)))
            (within (whole (MoreTerms (Evaluated X) NoTerms))) (λ n below. here)
            (stands.going g1 (within (whole (MoreTerms (Evaluated X) NoTerms)))
            (one_going routines functions codes whole o (λ vs v. Put p (stored_at p v) (given_by given.Old vs v)) (spot_of p) T
            (Evaluated X)
            within g1 its cx (a_value X (λ w1. put_same g.temporaries k d X)) has.1.0 (λ w2 v e.
            let g2 = moved g1 (suc g1.pc) in
            let g3 = (stored w2 g2 (spot_of p) v).frame in
            let a3 : After W d g2.pc g g3 =
            after_then W d (suc (suc g.pc)) g2.pc g g2 g3 (one_more W d (suc g.pc) (suc (suc g.pc)) g g1 a1 refl)
            (stored_after W d w2 g2 p v few) in (
              1,
              stands.arrives 1 w2 g2 (spot_of p) v (within (Put p (stored_at p v) Y)) (within (Evaluated Y))
                  (put_step p v Y within cx w2 g2)
                  (stands.going g3 (within (Evaluated Y))
                  (hand_going routines functions codes s T Y within g3 cx (λ w1. stored_temporaries w2 g2 p v k d)
                  (has_at codes _ _ (Hand s T ∷ []) (sym a3.place) has.1.1).0
                  (λ w1. arrives (moved g3 (suc g3.pc)) (one_more W d g2.pc (g.pc + 3) g g3 a3 (omega arith)) w1 Y))),
            )))),
      ))
