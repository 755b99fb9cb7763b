-- The code of operands leads to where they are read.
use Rattle.std.proofs.Common.{◌≡◌, ℕ, suc, ℤ, ◌+◌, Bool, true, false, List, [], ◌++◌, length, Option, Some, None, refl, sym, ap, ◌∙◌, subst}
use Rattle.std.proofs.Common.{arith}
use Rattle.std.proofs.Common.{length-append}
use Rattle.std.proofs.lemmas.Bool.{false≢true}
use Rattle.std.proofs.lemmas.Option.{none-some, same_Some}
use Rattle.std.specs.Prelude.{slice_index_or, not, ◌||◌, if◌then◌else◌}
use Rattle.process_model.specs.Alone.{here}
use Rattle.limbo_values.specs.declared.number.Kind.{Kind}
use Rattle.limbo_typed.specs.declared.operation.Operation.{Operation}
use Rattle.limbo_typed.specs.declared.operation.Operation.TheVariants as operation
use Rattle.system_model.specs.Values.{Value, Num, zero_value}
use Rattle.typed_meaning.specs.Values.{number_of, kind_of, holds}
use Rattle.typed_meaning.specs.World.{World}
use Rattle.typed_meaning.specs.Trees.{Local, Global, At, Term, Evaluated, Awaiting, Missing, Literal, Read, Apply, Lazy, Deciding, Store}
use Rattle.typed_meaning.specs.Trees.{Change, Put, Call, Print, Terms, NoTerms, MoreTerms, Block}
use Rattle.typed_meaning.specs.Program.{Routine}
use Rattle.typed_meaning.specs.Evaluation.{Stepped, next}
use Rattle.typed_meaning.specs.Process.{reads}
use Rattle.slot_code.specs.Code.{Spot, Temporary, Operand, In, Number, Inst, Function}
use Rattle.limbo_types.specs.Types.{Ty}
use Rattle.slot_code.specs.Code as code
use Rattle.slot_code.specs.Machine.{Frame, value_of, put}
use Rattle.typed_lower.specs.Kinds.{spot_at, leaf, is_leaf, changes, writes}
use Rattle.typed_lower.specs.declared.taking.Taking.{Taking}
use Rattle.typed_lower.specs.declared.taking.Taking.TheVariants.{Any, Own, Short}
use Rattle.typed_lower.specs.Terms.{Ready, part_of, ready, ready_of, unless_changed, kept, own, is_short, short, taken_by, left_taking}
use Rattle.typed_lower.specs.Terms.{right_taking}
use Rattle.typed_lower.specs.Stands as stands
use Rattle.typed_lower.specs.Stands.{Fresh, HasAt, beside, sourced, Quiet, Stands, Going}
use Rattle.typed_lower.proofs.Contexts.{Context, stepped, within_hole, first_among, later_among, fresh_fill}
use Rattle.typed_lower.proofs.Places.{has_front, has_back, has_at, put_same, put_below, After, after_itself, after_then, after_weaker}
use Rattle.typed_lower.proofs.Operands.{Holds, a_leaf, a_value, leaf_step, not_done, Delivers, Applying, no_terms}

-- ---- what a part says of its tree

pub part_leaf : (t : Term) → (part_of t).leaf ≡ leaf t
part_leaf (Evaluated v) = refl
part_leaf (Awaiting t) = refl
part_leaf Missing = refl
part_leaf (Literal t v) = refl
part_leaf (Read p) = refl
part_leaf (Apply o ts) = refl
part_leaf (Lazy c l r) = refl
part_leaf (Deciding r) = refl
part_leaf (Store p t) = refl
part_leaf (Change o g p ts) = refl
part_leaf (Put p v w) = refl
part_leaf (Call t f ts) = refl
part_leaf (Print ps ts) = refl

pub part_changes : (t : Term) (x : Operand) → (part_of t).changes x ≡ changes x t
part_changes (Evaluated v) x = refl
part_changes (Awaiting t) x = refl
part_changes Missing x = refl
part_changes (Literal t v) x = refl
part_changes (Read p) x = refl
part_changes (Apply o ts) x = refl
part_changes (Lazy c l r) x = refl
part_changes (Deciding r) x = refl
part_changes (Store p t) x = refl
part_changes (Change o g p ts) x = refl
part_changes (Put p v w) x = refl
part_changes (Call t f ts) x = refl
part_changes (Print ps ts) x = refl

-- ---- a leaf that stays what it is

-- Whatever the world, and whatever code runs that keeps the variables which a tree doesn't write, an operand has this value.
pub record Stays (g : Frame) (x : Operand) (b : Term) (v : Value) : Type 0 where
  pub now : (w : World) → value_of w g x ≡ v
  pub later : (g' : Frame)
      → ((n : ℕ) → writes (Local n) b ≡ false → slice_index_or g'.variables n zero_value ≡ slice_index_or g.variables n zero_value)
      → (w : World) → value_of w g' x ≡ v

-- The other tree is no leaf, or the operand is the function's own.
pub data Alone (x : Operand) (b : Term) : Type 0 where
  no_leaf : leaf b ≡ None → Alone x b
  its_own : own (Some x) ≡ Some x → Alone x b

not_global : (t : Ty) (i : ℕ) (b : Term) → not (is_leaf (leaf b)) ≡ false → Alone (In (code.Global (kind_of t) i)) b → ⊥
not_global t i b unread (no_leaf none) = false≢true (sym unread ∙ ap (λ o. not (is_leaf o)) none)
not_global t i b unread (its_own e) = none-some _ e

leaf_stays : (g : Frame) (x : Operand) (a b : Term) → leaf a ≡ Some x → changes x b ≡ false → Alone x b → (v : Value) × Stays g x b v
leaf_stays g x (Literal t (Num z)) b e n none =
    let same : Number z ≡ x = same_Some (Number z) x e in
    subst (λ y. (v : Value) × Stays g y b v) same (Num z, record { now = λ w. refl; later = λ g' k w. refl })
leaf_stays g x (Read (At t (Local i))) b e n none =
    let same : In (code.Variable (kind_of t) i) ≡ x = same_Some (In (spot_at t (Local i))) x e in
    let unwritten : writes (Local i) b ≡ false = subst (λ y. changes y b ≡ false) (sym same) n in
    subst (λ y. (v : Value) × Stays g y b v) same (
      number_of (kind_of t) (slice_index_or g.variables i zero_value),
      record { now = λ w. refl; later = λ g' k w. ap (number_of (kind_of t)) (k i unwritten) },
    )
leaf_stays g x (Read (At t (Global i))) b e n none =
    let same : In (code.Global (kind_of t) i) ≡ x = same_Some (In (spot_at t (Global i))) x e in
    let no : not (is_leaf (leaf b)) ≡ false = subst (λ y. changes y b ≡ false) (sym same) n in
    absurd (not_global t i b no (subst (λ y. Alone y b) (sym same) none))
leaf_stays g x _ b e n none = absurd (none-some x e)

pub either_false : (a b : Bool) → (a || b) ≡ false → (a ≡ false) × (b ≡ false)
either_false true b e = absurd (false≢true (sym e))
either_false false b e = (refl, e)

-- Where control is behind a condition.
abbrev pub landing : (where_true holds : Bool) → (pc passes : ℕ) → ℕ
landing true true pc n = pc + n
landing true false pc n = pc
landing false true pc n = pc
landing false false pc n = pc + n

module _ (routines : List Routine) (functions : List Function) (codes : List Inst) where
  abbrev pub Goes : Frame → Block → Type 0
  Goes g todo = Going routines functions codes g todo

  -- ---- what is to be shown of a tree

  abbrev pub Written : Term → ℕ → Bool
  Written t x = writes (Local x) t

  -- Its code leaves its value there.
  abbrev pub ValueGoes : Term → Type 0
  ValueGoes t =
      (d : ℕ) (s : Spot) (within : Term → Block) (g : Frame) → Context routines within → HasAt codes g.pc ((part_of t).value d s)
      → Delivers routines functions codes s within (Written t) d (g.pc + length ((part_of t).value d s)) g → Goes g (within t)

  -- Its code as a condition goes on at one place or the other, and what the program does next is to decide by the value.
  abbrev pub Decides : (within : Term → Block) → (written : ℕ → Bool) → (where_true : Bool) → (d pc passes : ℕ) → Frame → Type 0
  Decides within written wt d pc n g =
      (g' : Frame) (b : Bool) (v : Value) → After written d (landing wt b pc n) g g' → holds v ≡ b
      → (after : Block) × Quiet routines functions g' (within (Evaluated v)) after × Stands routines functions codes g' after

  abbrev pub BranchGoes : Term → Type 0
  BranchGoes t =
      (wt : Bool) (d n : ℕ) (within : Term → Block) (g : Frame) → Context routines within
      → HasAt codes g.pc ((part_of t).branches wt d n)
      → Decides within (Written t) wt d (g.pc + length ((part_of t).branches wt d n)) n g → Goes g (within t)

  -- ---- operands

  -- A step that changes nothing but the tree.
  pub quiet_step : (within : Term → Block) → Context routines within → (g : Frame) (t u : Term)
      → ((w : World) → next (reads w (beside g (within t))) t ≡ Stepped u) → Quiet routines functions g (within t) (within u)
  quiet_step within c g t u e w n below =
      c.acts w g n below t (not_done (reads w (beside g (within t))) t u (e w))
      ∙ ap (λ x. stepped routines w (sourced n (beside g (within t)) below) x within) (e w)

  -- The frame where a temporary has a value.
  abbrev pub with_temporary : Frame → Kind → ℕ → Value → Frame
  with_temporary g k n v = record g { temporaries = put g.temporaries k n v }

  pub temporary_after : (written : ℕ → Bool) (d pc : ℕ) (k : Kind) (v : Value) (g g' : Frame) → After written d pc g g'
      → After written d pc g (with_temporary g' k d v)
  temporary_after written d pc k v g g' a = record {
    place = a.place;
    function = a.function;
    instance = a.instance;
    made = a.made;
    low = λ j n l. put_below g'.temporaries k d v j n l ∙ a.low j n l;
    kept = a.kept;
  }

  -- A value that is kept in a temporary.
  pub kept_goes : (t : Term) → ValueGoes t → (k : Kind) (d : ℕ) (within : Term → Block) (g : Frame) → Context routines within
      → HasAt codes g.pc ((part_of t).value (suc d) (Temporary k d))
      → ((g' : Frame) (v : Value) → After (Written t) d (g.pc + length ((part_of t).value (suc d) (Temporary k d))) g g'
      → ((w : World) → value_of w g' (In (Temporary k d)) ≡ v) → Goes g' (within (Evaluated v))) → Goes g (within t)
  kept_goes t goes k d within g c has on_it =
      goes (suc d) (Temporary k d) within g c has (λ g' a w v.
      let g1 = with_temporary g' k d v in
      let end = g.pc + length ((part_of t).value (suc d) (Temporary k d)) in
      let a1 = after_weaker (Written t) (Written t) d (suc d) end g g' (λ x e. e) (omega arith) a in (
        0,
        stands.arrives 0 w g' (Temporary k d) v (within (Evaluated v)) (within (Evaluated v)) (λ n below. here)
            (stands.going g1 (within (Evaluated v))
            (on_it g1 v (temporary_after (Written t) d end k v g g' a1) (λ w1. put_same g'.temporaries k d v))),
      ))

  stays_here : (written : ℕ → Bool) (d : ℕ) (g : Frame) → After written d (g.pc + 0) g g
  stays_here written d g = subst (λ p. After written d p g g) (omega arith) (after_itself written d g)

  -- It is taken as the leaf that it is, or as none.
  abbrev pub IsLeaf : Term → Option Operand → Type 0
  IsLeaf t o = (x : Operand) → o ≡ Some x → (part_of t).leaf ≡ Some x

  -- An operand.
  pub ready_by : (t : Term) → ValueGoes t → (o : Option Operand) → IsLeaf t o → (d : ℕ) (within : Term → Block) (g : Frame)
      → Context routines within → HasAt codes g.pc (ready_of d (part_of t).kind o (part_of t).value).before
      → ((g' : Frame) (u : Term)
      → After (Written t) d (g.pc + length (ready_of d (part_of t).kind o (part_of t).value).before) g g'
      → Holds g' (ready_of d (part_of t).kind o (part_of t).value).operand u → Goes g' (within u)) → Goes g (within t)
  ready_by t goes (Some x) e d within g c has on_it = on_it g t (stays_here (Written t) d g) (a_leaf t (sym (part_leaf t) ∙ e x refl))
  ready_by t goes None e d within g c has on_it =
      kept_goes t goes (part_of t).kind d within g c has (λ g' v a h. on_it g' (Evaluated v) a (a_value v h))

  pub ready_goes : (t : Term) → ValueGoes t → (d : ℕ) (within : Term → Block) (g : Frame) → Context routines within
      → HasAt codes g.pc (ready d (part_of t)).before
      → ((g' : Frame) (u : Term) → After (Written t) d (g.pc + length (ready d (part_of t)).before) g g'
      → Holds g' (ready d (part_of t)).operand u → Goes g' (within u)) → Goes g (within t)
  ready_goes t goes d within g c has on_it = ready_by t goes (part_of t).leaf (λ x e. e) d within g c has on_it

  -- ---- two operands

  module _ (whole : Terms → Term) (o : Operation) (become : List Value → Value → Term) (a b : Term)
      (its : Applying routines functions codes whole o become)
      (fresh : Fresh b) (goes_a : ValueGoes a) (goes_b : ValueGoes b) (left_leaf right_leaf : Option Operand)
      (its_left : IsLeaf a left_leaf)
      (its_right : IsLeaf b right_leaf) (alone : (x : Operand) → left_leaf ≡ Some x → right_leaf ≡ None → Alone x b) (d : ℕ)
      (within : Term → Block) (c : Context routines within) where
    abbrev W : ℕ → Bool
    W x = Written a x || Written b x

    abbrev two : Term → Term → Block
    two u v = within (whole (MoreTerms u (MoreTerms v NoTerms)))

    left : Context routines (λ t. two t b)
    left = within_hole routines within _ c (its.holes (λ t. MoreTerms t (MoreTerms b NoTerms))
        (first_among (MoreTerms b NoTerms) (λ z. ap (λ t. MoreTerms t NoTerms) (fresh_fill z b fresh))))

    right : (v : Value) → Context routines (λ t. two (Evaluated v) t)
    right v = within_hole routines within _ c (its.holes (λ t. MoreTerms (Evaluated v) (MoreTerms t NoTerms))
        (later_among v (λ t. MoreTerms t NoTerms) (first_among NoTerms (no_terms))))

    abbrev B : Ready
    B = ready_of (suc d) (part_of b).kind right_leaf (part_of b).value

    -- Behind both.
    abbrev Then : (before : List Inst) → Operand → Frame → Type 0
    Then before x g =
        (g' : Frame) (u v : Term) → After W d (g.pc + length (before ++ B.before)) g g' → Holds g' x u → Holds g' B.operand v
        → Goes g' (two u v)

    -- The left one is kept in a temporary.
    two_kept : (k : Kind) (g : Frame) → HasAt codes g.pc ((part_of a).value (suc d) (Temporary k d) ++ B.before)
        → Then ((part_of a).value (suc d) (Temporary k d)) (In (Temporary k d)) g → Goes g (two a b)
    two_kept k g has on_it =
        let A = (part_of a).value (suc d) (Temporary k d) in
        kept_goes a goes_a k d (λ t. two t b) g left (has_front codes g.pc A B.before has) (λ g1 v a1 h.
        let at : g.pc + length A ≡ g1.pc = sym a1.place in
        ready_by b goes_b right_leaf its_right (suc d) (λ t. two (Evaluated v) t) g1 (right v)
        (has_at codes _ _ B.before at (has_back codes g.pc A B.before has))
        (λ g2 u a2 h2.
        let w1 : After W d (g.pc + length A) g g1 = after_weaker (Written a) W d d _ g g1 (λ x e. (either_false _ _ e).0) (omega arith) a1
        in
        let w2 : After W d (g1.pc + length B.before) g1 g2 =
        after_weaker (Written b) W d (suc d) _ g1 g2 (λ x e. (either_false (Written a x) _ e).1) (omega arith) a2 in
        let end : g1.pc + length B.before ≡ g.pc + length (A ++ B.before) =
        omega (arith, at, length-append A B.before) in
        on_it g2 (Evaluated v) u (subst (λ p. After W d p g g2) end (after_then W d _ _ g g1 g2 w1 w2))
        (a_value v (λ w. a2.low k d (omega arith) ∙ h w)) h2))

    leaf_left : (x : Operand) → left_leaf ≡ Some x → leaf a ≡ Some x
    leaf_left x e = sym (part_leaf a) ∙ its_left x e

    -- The left one stays where it is.
    two_stay : (x : Operand) → left_leaf ≡ Some x → changes x b ≡ false → (p : Option Operand) → right_leaf ≡ p → (g : Frame)
        → HasAt codes g.pc (ready_of (suc d) (part_of b).kind p (part_of b).value).before
        → ((g' : Frame) (u v : Term)
        → After W d (g.pc + length (ready_of (suc d) (part_of b).kind p (part_of b).value).before) g g' → Holds g' x u
        → Holds g' (ready_of (suc d) (part_of b).kind p (part_of b).value).operand v → Goes g' (two u v)) → Goes g (two a b)
    two_stay x e n (Some y) eb g has on_it =
        on_it g a b (stays_here W d g) (a_leaf a (leaf_left x e)) (a_leaf b (sym (part_leaf b) ∙ its_right y eb))
    two_stay x e n None eb g has on_it =
        let s = leaf_stays g x a b (leaf_left x e) n (alone x e eb) in
        stands.quietly g (two a b) (two (Evaluated s.0) b)
        (quiet_step (λ t. two t b) left g a (Evaluated s.0)
        (λ w. leaf_step w g (two a b) x a (leaf_left x e) ∙ ap (λ v. Stepped (Evaluated v)) (s.1.now w)))
        (kept_goes b goes_b (part_of b).kind (suc d) (λ t. two (Evaluated s.0) t) g (right s.0) has (λ g1 v a1 h.
        on_it g1 (Evaluated s.0) (Evaluated v)
        (after_weaker (Written b) W d (suc d) _ g g1 (λ z f. (either_false (Written a z) _ f).1) (omega arith) a1)
        (a_value s.0 (s.1.later g1 a1.kept)) (a_value v h)))

    abbrev Chosen : Operand → Bool → Ready
    Chosen x ch = if ch then kept d (part_of a).kind (part_of a).value else record { before = []; operand = x }

    by_change : (x : Operand) → left_leaf ≡ Some x → (ch : Bool) → (part_of b).changes x ≡ ch → (g : Frame)
        → HasAt codes g.pc ((Chosen x ch).before ++ B.before) → Then (Chosen x ch).before (Chosen x ch).operand g → Goes g (two a b)
    by_change x e true ec g h t = two_kept (part_of a).kind g h t
    by_change x e false ec g h t = two_stay x e (sym (part_changes b x) ∙ ec) right_leaf refl g h t

    two_by : (p : Option Operand) → left_leaf ≡ p → (g : Frame)
        → HasAt codes g.pc ((unless_changed d (part_of a) p (part_of b).changes).before ++ B.before)
        → Then (unless_changed d (part_of a) p (part_of b).changes).before (unless_changed d (part_of a) p (part_of b).changes).operand g
        → Goes g (two a b)
    two_by None e g has on_it = two_kept (part_of a).kind g has on_it
    two_by (Some x) e g has on_it = by_change x e ((part_of b).changes x) refl g has on_it

    abbrev A : Ready
    A = unless_changed d (part_of a) left_leaf (part_of b).changes

    pub two_ready : (g : Frame) → HasAt codes g.pc (A.before ++ B.before) → Then A.before A.operand g → Goes g (two a b)
    two_ready g has on_it = two_by left_leaf refl g has on_it

-- ---- operands that an operation takes as they are

own_again : (l : Option Operand) (x : Operand) → own l ≡ Some x → own (Some x) ≡ Some x
own_again (Some (In (code.Global k i))) x e = absurd (none-some x e)
own_again None x e = absurd (none-some x e)
own_again (Some (In (code.Variable k i))) x e = ap own (sym e) ∙ e
own_again (Some (In (code.Temporary k i))) x e = ap own (sym e) ∙ e
own_again (Some (In (code.Argument k i))) x e = ap own (sym e) ∙ e
own_again (Some (Number z)) x e = ap own (sym e) ∙ e

own_is : (l : Option Operand) (x : Operand) → own l ≡ Some x → l ≡ Some x
own_is (Some (In (code.Global k i))) x e = absurd (none-some x e)
own_is None x e = absurd (none-some x e)
own_is (Some (In (code.Variable k i))) x e = e
own_is (Some (In (code.Temporary k i))) x e = e
own_is (Some (In (code.Argument k i))) x e = e
own_is (Some (Number z)) x e = e

short_number : (b : Bool) (z : ℤ) (x : Operand) → (if b then Some (Number z) else None) ≡ Some x → Some (Number z) ≡ Some x
short_number true z x e = e
short_number false z x e = absurd (none-some x e)

short_is : (l : Option Operand) (x : Operand) → short l ≡ Some x → l ≡ Some x
short_is (Some (In (code.Global k i))) x e = absurd (none-some x e)
short_is None x e = absurd (none-some x e)
short_is (Some (In (code.Variable k i))) x e = e
short_is (Some (In (code.Temporary k i))) x e = e
short_is (Some (In (code.Argument k i))) x e = e
short_is (Some (Number z)) x e = short_number (is_short z) z x e

short_own : (l : Option Operand) (x : Operand) → short l ≡ Some x → own (Some x) ≡ Some x
short_own (Some (In (code.Global k i))) x e = absurd (none-some x e)
short_own None x e = absurd (none-some x e)
short_own (Some (In (code.Variable k i))) x e = ap own (sym e) ∙ e
short_own (Some (In (code.Temporary k i))) x e = ap own (sym e) ∙ e
short_own (Some (In (code.Argument k i))) x e = ap own (sym e) ∙ e
short_own (Some (Number z)) x e = let f = short_number (is_short z) z x e in ap own (sym f) ∙ f

pub taken_is : (y : Taking) (l : Option Operand) (x : Operand) → taken_by y l ≡ Some x → l ≡ Some x
taken_is Any l x e = e
taken_is Own l x e = own_is l x e
taken_is Short l x e = short_is l x e

-- Where the right operand is no leaf any more, the left one is the function's own, or the right one never was.
alone_by : (y z : Taking) → (y ≡ Any → z ≡ Any) → (a b : Term) (x : Operand) → taken_by y (part_of a).leaf ≡ Some x
    → taken_by z (part_of b).leaf ≡ None → Alone x b
alone_by Any z any a b x e n =
    no_leaf (sym (part_leaf b) ∙ subst (λ (u : Taking). taken_by u (part_of b).leaf ≡ None) (any refl) n)
alone_by Own z any a b x e n = its_own (own_again (part_of a).leaf x e)
alone_by Short z any a b x e n = its_own (short_own (part_of a).leaf x e)

own_any : Own ≡ Any → ⊥
own_any e = cc

right_any : (o : Operation) → left_taking o ≡ Any → right_taking o ≡ Any
right_any (operation.Compare y k) e = absurd (own_any e)
right_any o e = refl

pub taken_alone : (o : Operation) (a b : Term) (x : Operand) → taken_by (left_taking o) (part_of a).leaf ≡ Some x
    → taken_by (right_taking o) (part_of b).leaf ≡ None → Alone x b
taken_alone o a b x e n = alone_by (left_taking o) (right_taking o) (right_any o) a b x e n
