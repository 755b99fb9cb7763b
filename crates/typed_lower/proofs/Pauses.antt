-- Few instructions in a row stand for no step.
use Rattle.std.proofs.Common.{◌≡◌, ℕ, pos, zero, suc, ◌≤◌, Bool, true, false, List, [], ◌∷◌, ◌++◌, Option, Some, None, refl, sym, ap, ◌∙◌}
use Rattle.std.proofs.Common.{subst, arith}
use Rattle.std.proofs.lemmas.Bool.{false≢true}
use Rattle.std.specs.Prelude.{◌||◌, if◌then◌else◌}
use Rattle.limbo_values.specs.declared.number.Kind.{Kind}
use Rattle.limbo_values.specs.declared.number.Kind.TheVariants as kind
use Rattle.limbo_values.specs.declared.operator.Comparison.{Comparison}
use Rattle.limbo_values.specs.declared.operator.Comparison.TheVariants as c
use Rattle.limbo_typed.specs.declared.operation.Operation.{Operation}
use Rattle.limbo_typed.specs.declared.operation.Operation.TheVariants as operation
use Rattle.limbo_typed.specs.declared.operation.Connective.{Connective}
use Rattle.limbo_typed.specs.declared.operation.Connective.TheVariants as connective
use Rattle.limbo_typed.specs.declared.operation.Given.TheVariants as given
use Rattle.system_model.specs.Values.{Num}
use Rattle.typed_meaning.specs.Values.{kind_of}
use Rattle.typed_meaning.specs.Trees.{Place, Term, Literal, Read, Apply, Lazy, Store, Change, Call, Print, Terms, NoTerms, MoreTerms}
use Rattle.slot_code.specs.Code.{Spot, Temporary, Argument, Operand, In, Number, Inst, Move, Hand, Alter, Operate, Branch, Skip, Begin}
use Rattle.slot_code.specs.Code.{Format}
use Rattle.slot_code.specs.Code as code
use Rattle.typed_lower.specs.Kinds.{leaf, makes_call, make_call, kind_in, kind_at, kind_given, spot_of}
use Rattle.typed_lower.specs.Terms.{Part, part_of, parts_of, ready, ready_of, ready_before, unless_changed, kept, applied, branch, tested}
use Rattle.typed_lower.specs.declared.taking.Taking.TheVariants.{Own, Short}
use Rattle.typed_lower.specs.Terms.{left_taking, right_taking, taken_by, seen_by}
use Rattle.typed_lower.specs.Terms.{compared, connected, changed, first_put, all_put, made_ready, count}
use Rattle.typed_lower.specs.Stands.{Fresh, AllFresh, is_silent, run_to}

-- ---- runs of such instructions

abbrev further : ℕ → Inst → ℕ
further n i = if is_silent i then suc n else 0

-- Behind so many of them, no run gets longer than six.
abbrev pub Few : ℕ → List Inst → Type 0
Few n [] = n ≤ 6
Few n (i ∷ is) = (n ≤ 6) × Few (further n i) is

-- How long the run is at the end.
abbrev pub ending : ℕ → List Inst → ℕ
ending n [] = n
ending n (i ∷ is) = ending (further n i) is

pub few_both : (n : ℕ) (a b : List Inst) → Few n a → Few (ending n a) b → Few n (a ++ b)
few_both n [] b f g = g
few_both n (i ∷ a) b f g = (f.0, few_both (further n i) a b f.1 g)

pub ending_both : (n : ℕ) (a b : List Inst) → ending n (a ++ b) ≡ ending (ending n a) b
ending_both n [] b = refl
ending_both n (i ∷ a) b = ending_both (further n i) a b

further_less : (m n : ℕ) (b : Bool) → m ≤ n → (if b then suc m else 0) ≤ (if b then suc n else 0)
further_less m n true l = omega (arith, l)
further_less m n false l = omega arith

pub few_less : (m n : ℕ) (a : List Inst) → m ≤ n → Few n a → Few m a
few_less m n [] l f = omega (arith, l, f)
few_less m n (i ∷ a) l f = (omega (arith, l, f.0), few_less (further m i) (further n i) a (further_less m n (is_silent i) l) f.1)

pub ending_less : (m n : ℕ) (a : List Inst) → m ≤ n → ending m a ≤ ending n a
ending_less m n [] l = l
ending_less m n (i ∷ a) l = ending_less (further m i) (further n i) a (further_less m n (is_silent i) l)

pub few_runs : (n : ℕ) (a : List Inst) → Few n a → (pc : ℕ) → run_to n a pc ≤ 6
few_runs n [] f zero = f
few_runs n (i ∷ a) f zero = f.0
few_runs n [] f (suc pc) = omega arith
few_runs n (i ∷ a) f (suc pc) = few_runs (further n i) a f.1 pc

-- ---- code that keeps runs short

-- From a run of so many on, and with one of at most so many at its end.
pub record Calm (n most : ℕ) (a : List Inst) : Type 0 where
  pub few : Few n a
  pub end : ending n a ≤ most

pub calm_both : (n m most : ℕ) (a b : List Inst) → Calm n m a → Calm m most b → Calm n most (a ++ b)
calm_both n m most a b x y = record {
  few = few_both n a b x.few (few_less (ending n a) m b x.end y.few);
  end = subst (λ k. k ≤ most) (sym (ending_both n a b)) (omega (arith, ending_less (ending n a) m b x.end, y.end));
}

pub calm_less : (m n most : ℕ) (a : List Inst) → m ≤ n → Calm n most a → Calm m most a
calm_less m n most a l x = record { few = few_less m n a l x.few; end = omega (arith, ending_less m n a l, x.end) }

pub calm_more : (n m most : ℕ) (a : List Inst) → m ≤ most → Calm n m a → Calm n most a
calm_more n m most a l x = record { few = x.few; end = omega (arith, l, x.end) }

pub calm_none : (n : ℕ) → n ≤ 6 → Calm n n []
calm_none n l = record { few = l; end = omega arith }

-- One instruction that stands for a step.
pub calm_step : (n : ℕ) (i : Inst) → is_silent i ≡ false → n ≤ 6 → Calm n 0 (i ∷ [])
calm_step n i e l =
    let z : further n i ≡ 0 = ap (λ b. if b then suc n else 0) e in
    record { few = (l, subst (λ k. k ≤ 6) (sym z) (omega arith)); end = subst (λ k. k ≤ 0) (sym z) (omega arith) }

-- One that may stand for none.
pub calm_silent : (n : ℕ) (i : Inst) → is_silent i ≡ true → n ≤ 5 → Calm n (suc n) (i ∷ [])
calm_silent n i e l =
    let z : further n i ≡ suc n = ap (λ b. if b then suc n else 0) e in
    record { few = (omega (arith, l), subst (λ k. k ≤ 6) (sym z) (omega (arith, l))); end = subst (λ k. k ≤ suc n) (sym z) (omega arith) }

-- ---- trees

-- A tree that makes a call may begin with such an instruction.
abbrev pub Starts : Bool → ℕ → Type 0
Starts calls n = (n ≤ 6) × (calls ≡ true → n ≤ 5)

pub record CalmTree (t : Term) : Type 0 where
  pub value : (d : ℕ) (s : Spot) (n : ℕ) → Starts (makes_call t) n → Calm n 3 ((part_of t).value d s)
  pub branches : (w : Bool) (d k : ℕ) (n : ℕ) → Starts (makes_call t) n → Calm n 0 ((part_of t).branches w d k)

or_left : (a b : Bool) → a ≡ true → (a || b) ≡ true
or_left true b e = refl
or_left false b e = absurd (false≢true e)

or_right : (a b : Bool) → b ≡ true → (a || b) ≡ true
or_right true b e = refl
or_right false b e = e

starts_left : (a b : Bool) (n : ℕ) → Starts (a || b) n → Starts a n
starts_left a b n s = (s.0, λ e. s.1 (or_left a b e))

starts_right : (a b : Bool) (n : ℕ) → Starts (a || b) n → Starts b n
starts_right a b n s = (s.0, λ e. s.1 (or_right a b e))

pub starts_low : (a : Bool) (n : ℕ) → n ≤ 5 → Starts a n
starts_low a n l = (omega (arith, l), λ e. l)

-- Where the value of a tree is kept, or is a leaf: another part begins then.
abbrev Before : ℕ → List Inst → Type 0
Before n a = (m : ℕ) → n ≤ m → 3 ≤ m → m ≤ 6 → Calm n m a

kept_before : (t : Term) → CalmTree t → (d : ℕ) (k : Kind) (n : ℕ) → Starts (makes_call t) n
    → Before n ((part_of t).value (suc d) (Temporary k d))
kept_before t its d k n s m l l3 l6 = calm_more n 3 m _ l3 (its.value (suc d) (Temporary k d) n s)

none_before : (n : ℕ) → Before n []
none_before n m l l3 l6 = calm_more n n m [] l (calm_none n (omega (arith, l, l6)))

ready_calm : (t : Term) → CalmTree t → (o : Option Operand) (d : ℕ) (k : Kind) (n : ℕ) → Starts (makes_call t) n
    → Before n (ready_of d k o (part_of t).value).before
ready_calm t its (Some x) d k n s = none_before n
ready_calm t its None d k n s = kept_before t its d k n s

choice_calm : (t : Term) → CalmTree t → (b : Bool) (x : Operand) (d n : ℕ) → Starts (makes_call t) n
    → Before n (if b then kept d (part_of t).kind (part_of t).value else record { before = []; operand = x }).before
choice_calm t its true x d n s = kept_before t its d (part_of t).kind n s
choice_calm t its false x d n s = none_before n

unless_calm : (t : Term) → CalmTree t → (o : Option Operand) (changes : Operand → Bool) (d n : ℕ) → Starts (makes_call t) n
    → Before n (unless_changed d (part_of t) o changes).before
unless_calm t its (Some x) changes d n s = choice_calm t its (changes x) x d n s
unless_calm t its None changes d n s = kept_before t its d (part_of t).kind n s

-- Two operands, and an instruction that stands for a step.
two_calm : (a b : Term) → CalmTree a → CalmTree b → (p q : Option Operand) (d n : ℕ) (i : Inst) → is_silent i ≡ false
    → Starts (makes_call a || makes_call b) n
    → Calm n 0 ((unless_changed d (part_of a) p (part_of b).changes).before
    ++ (ready_of (suc d) (part_of b).kind q (part_of b).value).before ++ i ∷ [])
two_calm a b ia ib p q d n i e s =
    by (makes_call b) refl
  where
    A : List Inst
    A = (unless_changed d (part_of a) p (part_of b).changes).before

    B : List Inst
    B = (ready_of (suc d) (part_of b).kind q (part_of b).value).before

    first : Before n A
    first = unless_calm a ia p (part_of b).changes d n (starts_left (makes_call a) (makes_call b) n s)

    second : (m : ℕ) → Starts (makes_call b) m → 3 ≤ m → Calm m 6 B
    second m t l = ready_calm b ib q (suc d) (part_of b).kind m t 6 t.0 (omega arith) (omega arith)

    whole : (m : ℕ) → n ≤ m → 3 ≤ m → Starts (makes_call b) m → Calm n 0 (A ++ B ++ i ∷ [])
    whole m l l3 t =
        calm_both n 6 0 (A ++ B) (i ∷ []) (calm_both n m 6 A B (first m l l3 t.0) (second m t l3)) (calm_step 6 i e (omega arith))

    by : (calls : Bool) → makes_call b ≡ calls → Calm n 0 (A ++ B ++ i ∷ [])
    by true f =
        whole 5 ((starts_right (makes_call a) (makes_call b) n s).1 f) (omega arith) (omega arith, λ e. omega arith)
    by false f = whole 6 s.0 (omega arith) (omega arith, λ e. absurd (false≢true (sym f ∙ e)))

pub one_calm : (a : Term) → CalmTree a → (o : Option Operand) (d : ℕ) (k : Kind) (n : ℕ) (i : Inst) → is_silent i ≡ false
    → Starts (makes_call a) n
    → Calm n 0 ((ready_of d k o (part_of a).value).before ++ i ∷ [])
one_calm a its o d k n i e s =
    calm_both n 6 0 (ready_of d k o (part_of a).value).before (i ∷ []) (ready_calm a its o d k n s 6 s.0 (omega arith) (omega arith))
    (calm_step 6 i e (omega arith))

branch_loud : (w : Bool) (k : Kind) (x : Comparison) (a b : Operand) (n : ℕ) → is_silent (branch w k x a b n) ≡ false
branch_loud true k x a b n = refl
branch_loud false k x a b n = refl

starts_two : (a b : Bool) (n : ℕ) → Starts (a || (b || false)) n → Starts (a || b) n
starts_two true b n s = s
starts_two false true n s = s
starts_two false false n s = s

-- A value, and an instruction that stands for a step.
valued : (a : List Inst) (n : ℕ) (i : Inst) → is_silent i ≡ false → Calm n 3 a → Calm n 0 (a ++ i ∷ [])
valued a n i e x = calm_both n 3 0 a (i ∷ []) x (calm_step 3 i e (omega arith))

abbrev Values : Bool → (ℕ → Spot → List Inst) → Type 0
Values calls value = (d : ℕ) (s : Spot) (n : ℕ) → Starts calls n → Calm n 3 (value d s)

plain_branches : (calls : Bool) (value : ℕ → Spot → List Inst) → Values calls value → (o : Option Operand) (k : Kind) (w : Bool) (d m n : ℕ)
    → Starts calls n → Calm n 0 (tested w k (ready_of d k o value) m)
plain_branches calls value v (Some x) k w d m n s = calm_step n (branch w k c.Unequal x (Number (pos 0)) m) (branch_loud w k _ _ _ m) s.0
plain_branches calls value v None k w d m n s =
    valued (value (suc d) (Temporary k d)) n (branch w k c.Unequal (In (Temporary k d)) (Number (pos 0)) m) (branch_loud w k _ _ _ m)
    (v (suc d) (Temporary k d) n s)

-- ---- operations

pub one_value : (o : Operation) (a : Term) → CalmTree a → (calls : Bool) → calls ≡ (makes_call a || false)
    → Values calls (applied o (part_of a ∷ []))
one_value o a its calls e d s n t =
    calm_more n 0 3 _ (omega arith)
    (one_calm a its (taken_by (left_taking o) (part_of a).leaf) d (part_of a).kind n
    (Alter o s (ready d (seen_by (left_taking o) (part_of a))).operand) refl
    (starts_left (makes_call a) false n (subst (λ b. Starts b n) e t)))

pub two_value : (o : Operation) (a b : Term) → CalmTree a → CalmTree b → (calls : Bool) → calls ≡ (makes_call a || (makes_call b || false))
    → Values calls (applied o (part_of a ∷ part_of b ∷ []))
two_value o a b ia ib calls e d s n t =
    calm_more n 0 3 _ (omega arith)
    (two_calm a b ia ib (taken_by (left_taking o) (part_of a).leaf) (taken_by (right_taking o) (part_of b).leaf) d n
    (Operate o s (ready_before d (seen_by (left_taking o) (part_of a)) (seen_by (right_taking o) (part_of b))).operand
    (ready (suc d) (seen_by (right_taking o) (part_of b))).operand) refl
    (starts_two (makes_call a) (makes_call b) n (subst (λ x. Starts x n) e t)))

one_branches : (o : Operation) (a : Term) (calls : Bool) → Values calls (applied o (part_of a ∷ [])) → (w : Bool) (d m n : ℕ)
    → Starts calls n
    → Calm n 0 (compared o (part_of a ∷ []) (kind_given o) (applied o (part_of a ∷ [])) w d m)
one_branches (operation.Compare x k) a calls v w d m n s =
    plain_branches calls (applied (operation.Compare x k) (part_of a ∷ [])) v None (kind_given (operation.Compare x k)) w d m n s
one_branches o a calls v w d m n s = plain_branches calls (applied o (part_of a ∷ [])) v None (kind_given o) w d m n s

two_branches : (o : Operation) (a b : Term) → CalmTree a → CalmTree b → (calls : Bool) → calls ≡ (makes_call a || (makes_call b || false))
    → Values calls (applied o (part_of a ∷ part_of b ∷ [])) → (w : Bool) (d m n : ℕ) → Starts calls n
    → Calm n 0 (compared o (part_of a ∷ part_of b ∷ []) (kind_given o) (applied o (part_of a ∷ part_of b ∷ [])) w d m)
two_branches (operation.Compare x k) a b ia ib calls e v w d m n s =
    let p = seen_by Own (part_of a) in
    let q = seen_by Short (part_of b) in
    two_calm a b ia ib p.leaf q.leaf d n (branch w k x (ready_before d p q).operand (ready (suc d) q).operand m)
    (branch_loud w k x _ _ m) (starts_two (makes_call a) (makes_call b) n (subst (λ y. Starts y n) e s))
two_branches o a b ia ib calls e v w d m n s =
    plain_branches calls (applied o (part_of a ∷ part_of b ∷ [])) v None (kind_given o) w d m n s

-- ---- connectives

connected_calm : (x : Connective) (l r : Term) → CalmTree l → CalmTree r → (w : Bool) (d m n : ℕ) → Starts (makes_call l || makes_call r) n
    → Calm n 0 (connected x (part_of l) (part_of r) w d m)
connected_calm connective.And l r il ir true d m n s =
    calm_both n 0 0 _ _ (il.branches false d _ n (starts_left (makes_call l) (makes_call r) n s))
    (ir.branches true d m 0 (starts_low _ 0 (omega arith)))
connected_calm connective.Or l r il ir true d m n s =
    calm_both n 0 0 _ _ (il.branches true d _ n (starts_left (makes_call l) (makes_call r) n s))
    (ir.branches true d m 0 (starts_low _ 0 (omega arith)))
connected_calm connective.And l r il ir false d m n s =
    calm_both n 0 0 _ _ (il.branches false d _ n (starts_left (makes_call l) (makes_call r) n s))
    (ir.branches false d m 0 (starts_low _ 0 (omega arith)))
connected_calm connective.Or l r il ir false d m n s =
    calm_both n 0 0 _ _ (il.branches true d _ n (starts_left (makes_call l) (makes_call r) n s))
    (ir.branches false d m 0 (starts_low _ 0 (omega arith)))

-- ---- arguments

part_calls : (t : Term) → Fresh t → (part_of t).calls ≡ makes_call t
part_calls (Literal t v) f = refl
part_calls (Read p) f = refl
part_calls (Apply o ts) f = refl
part_calls (Lazy x l r) f = refl
part_calls (Store p t) f = refl
part_calls (Change o m p ts) f = refl
part_calls (Call t g ts) f = refl
part_calls (Print ps ts) f = refl
part_calls _ f = absurd f

abbrev AllCalm : Terms → Type 0
AllCalm NoTerms = Unit {0}
AllCalm (MoreTerms t ts) = CalmTree t × AllCalm ts

puts_calm : (ts : Terms) → AllCalm ts → (i d : ℕ) → Calm 5 5 (all_put i (parts_of ts) d)
puts_calm NoTerms h i d = calm_none 5 (omega arith)
puts_calm (MoreTerms t ts) h i d =
    calm_both 5 5 5 ((part_of t).value d (Argument (part_of t).kind i)) (all_put (suc i) (parts_of ts) d)
    (calm_more 5 3 5 _ (omega arith) (h.0.value d (Argument (part_of t).kind i) 5 (starts_low (makes_call t) 5 (omega arith))))
    (puts_calm ts h.1 (suc i) d)

first_calm : (c : Bool) (t : Term) → CalmTree t → makes_call t ≡ c → (i : Inst) → is_silent i ≡ true → (d n : ℕ) → n ≤ 5
    → Calm n 5 (first_put c (part_of t) i d)
first_calm true t its e i silent d n l =
    let k = (part_of t).kind in
    let X = (part_of t).value (suc d) (Temporary k d) in
    calm_both n 3 5 X (i ∷ Hand (Argument k 0) (In (Temporary k d)) ∷ [])
    (its.value (suc d) (Temporary k d) n (starts_low (makes_call t) n l))
    (calm_both 3 4 5 (i ∷ []) (Hand (Argument k 0) (In (Temporary k d)) ∷ []) (calm_silent 3 i silent (omega arith))
    (calm_silent 4 (Hand (Argument k 0) (In (Temporary k d))) refl (omega arith)))
first_calm false t its e i silent d n l =
    let k = (part_of t).kind in
    calm_both n (suc n) 5 (i ∷ []) ((part_of t).value d (Argument k 0)) (calm_silent n i silent l)
    (calm_more (suc n) 3 5 _ (omega arith)
    (its.value d (Argument k 0) (suc n) (omega (arith, l), λ f. absurd (false≢true (sym e ∙ f)))))

made_calm : (ts : Terms) → AllFresh ts → AllCalm ts → (i : Inst) → is_silent i ≡ true → (d n : ℕ) → n ≤ 5
    → Calm n 6 (made_ready i (parts_of ts) d)
made_calm NoTerms f h i silent d n l = calm_more n (suc n) 6 (i ∷ []) (omega (arith, l)) (calm_silent n i silent l)
made_calm (MoreTerms t ts) f h i silent d n l =
    calm_both n 5 6 (first_put (part_of t).calls (part_of t) i d) (all_put 1 (parts_of ts) d)
    (first_calm (part_of t).calls t h.0 (sym (part_calls t f.0)) i silent d n l)
    (calm_more 5 5 6 _ (omega arith) (puts_calm ts h.1 1 d))

-- ---- all trees

moved_calm : (s : Spot) (x : Operand) (n : ℕ) → n ≤ 6 → Calm n 3 (Move s x ∷ [])
moved_calm s x n l = calm_more n 0 3 (Move s x ∷ []) (omega arith) (calm_step n (Move s x) refl l)

-- A write and a value that is handed on.
stored_calm : (to s : Spot) (x : Operand) → Calm 3 1 (Move to x ∷ Hand s x ∷ [])
stored_calm to s x =
    calm_both 3 0 1 (Move to x ∷ []) (Hand s x ∷ []) (calm_step 3 (Move to x) refl (omega arith))
    (calm_silent 0 (Hand s x) refl (omega arith))

tree_of : (t : Term) → Values (makes_call t) ((part_of t).value)
    → (Values (makes_call t) ((part_of t).value) → (w : Bool) (d m n : ℕ) → Starts (makes_call t) n → Calm n 0 ((part_of t).branches w d m))
    → CalmTree t
tree_of t v b = record { value = v; branches = b v }

lazy_value : (x : Connective) (l r : Term) → CalmTree l → CalmTree r → Values (makes_call l || makes_call r) ((part_of (Lazy x l r)).value)
lazy_value x l r il ir d s n t =
    calm_both n 0 3 (connected x (part_of l) (part_of r) false d 2) (Hand s (Number (pos 1)) ∷ Skip 1 ∷ Hand s (Number (pos 0)) ∷ [])
    (connected_calm x l r il ir false d 2 n t)
    (calm_both 0 1 3 (Hand s (Number (pos 1)) ∷ []) (Skip 1 ∷ Hand s (Number (pos 0)) ∷ [])
    (calm_silent 0 (Hand s (Number (pos 1))) refl (omega arith))
    (calm_both 1 2 3 (Skip 1 ∷ []) (Hand s (Number (pos 0)) ∷ []) (calm_silent 1 (Skip 1) refl (omega arith))
    (calm_silent 2 (Hand s (Number (pos 0))) refl (omega arith))))

store_value : (p : Place) (t : Term) → CalmTree t → Values (makes_call t) ((part_of (Store p t)).value)
store_value p t its d s n h =
    let k = (part_of t).kind in
    calm_more n 1 3 _ (omega arith)
    (calm_both n 3 1 ((part_of t).value (suc d) (Temporary k d)) (Move (spot_of p) (In (Temporary k d)) ∷ Hand s (In (Temporary k d)) ∷ [])
    (its.value (suc d) (Temporary k d) n h) (stored_calm (spot_of p) s (In (Temporary k d))))

new_value : (o : Operation) (p : Place) (ps : List Part) (calls : Bool) → Values calls (applied o ps)
    → Values calls (changed given.New o (kind_at p) (spot_of p) ps)
new_value o p ps calls v d s n h =
    let k = kind_at p in
    calm_more n 1 3 _ (omega arith)
    (calm_both n 3 1 (applied o ps d (Temporary k d)) (Move (spot_of p) (In (Temporary k d)) ∷ Hand s (In (Temporary k d)) ∷ [])
    (v d (Temporary k d) n h) (stored_calm (spot_of p) s (In (Temporary k d))))

old_value : (o : Operation) (p : Place) (ps : List Part) (calls : Bool) → Values calls (changed given.Old o (kind_at p) (spot_of p) ps)
old_value o p ps calls d s n h =
    let k = kind_at p in
    let X = In (Temporary k d) in
    calm_more n 1 3 _ (omega arith)
    (calm_both n 0 1 (Move (Temporary k d) (In (spot_of p)) ∷ []) (Alter o (spot_of p) X ∷ Hand s X ∷ [])
    (calm_step n (Move (Temporary k d) (In (spot_of p))) refl h.0)
    (calm_both 0 0 1 (Alter o (spot_of p) X ∷ []) (Hand s X ∷ []) (calm_step 0 (Alter o (spot_of p) X) refl (omega arith))
    (calm_silent 0 (Hand s X) refl (omega arith))))

call_value : (ty : _) (f : ℕ) (ts : Terms) → AllFresh ts → AllCalm ts → Values true ((part_of (Call ty f ts)).value)
call_value ty f ts fresh h d s n t =
    let i = code.Call (kind_of ty) f (count ts) s in
    calm_more n 0 3 _ (omega arith)
    (calm_both n 6 0 (made_ready (Begin f) (parts_of ts) d) (i ∷ []) (made_calm ts fresh h (Begin f) refl d n (t.1 refl))
    (calm_step 6 i refl (omega arith)))

print_value : (ps : _) (ts : Terms) → AllFresh ts → AllCalm ts → Values true ((part_of (Print ps ts)).value)
print_value ps ts fresh h d s n t =
    let i = code.Print (count ts) (Temporary kind.Int d) in
    let j = Hand s (In (Temporary kind.Int d)) in
    calm_more n 1 3 _ (omega arith)
    (calm_both n 6 1 (made_ready (Format ps) (parts_of ts) d) (i ∷ j ∷ []) (made_calm ts fresh h (Format ps) refl d n (t.1 refl))
    (calm_both 6 0 1 (i ∷ []) (j ∷ []) (calm_step 6 i refl (omega arith)) (calm_silent 0 j refl (omega arith))))

mutual
  pub calm : (t : Term) → Fresh t → CalmTree t
  calm (Literal t (Num z)) f =
      tree_of (Literal t (Num z)) (λ d s n h. moved_calm s (Number z) n h.0)
      (λ v. plain_branches false ((part_of (Literal t (Num z))).value) v (leaf (Literal t (Num z))) (kind_in (Literal t (Num z))))
  calm (Read p) f =
      tree_of (Read p) (λ d s n h. moved_calm s (In (spot_of p)) n h.0)
      (λ v. plain_branches false ((part_of (Read p)).value) v (leaf (Read p)) (kind_in (Read p)))
  calm (Apply o (MoreTerms a NoTerms)) f =
      tree_of (Apply o (MoreTerms a NoTerms)) (one_value o a (calm a f.0.0) (makes_call a || false) refl)
      (λ v. one_branches o a (makes_call a || false) v)
  calm (Apply o (MoreTerms a (MoreTerms b NoTerms))) f =
      tree_of (Apply o (MoreTerms a (MoreTerms b NoTerms)))
      (two_value o a b (calm a f.0.0) (calm b f.0.1.0) (makes_call a || (makes_call b || false)) refl)
      (λ v. two_branches o a b (calm a f.0.0) (calm b f.0.1.0) (makes_call a || (makes_call b || false)) refl v)
  calm (Apply o ts) f = absurd f.1
  calm (Lazy x l r) f =
      tree_of (Lazy x l r) (lazy_value x l r (calm l f.0) (calm r f.1))
      (λ v w d m n h. connected_calm x l r (calm l f.0) (calm r f.1) w d m n h)
  calm (Store p t) f =
      tree_of (Store p t) (store_value p t (calm t f))
      (λ v. plain_branches (makes_call t) ((part_of (Store p t)).value) v None (kind_in (Store p t)))
  calm (Change o given.Old p ts) f =
      tree_of (Change o given.Old p ts) (old_value o p (parts_of ts) (make_call ts))
      (λ v. plain_branches (make_call ts) ((part_of (Change o given.Old p ts)).value) v None (kind_at p))
  calm (Change o given.New p (MoreTerms a NoTerms)) f =
      tree_of (Change o given.New p (MoreTerms a NoTerms))
      (new_value o p (part_of a ∷ []) (makes_call a || false) (one_value o a (calm a f.0.0) (makes_call a || false) refl))
      (λ v. plain_branches (makes_call a || false) ((part_of (Change o given.New p (MoreTerms a NoTerms))).value) v None (kind_at p))
  calm (Change o given.New p (MoreTerms a (MoreTerms b NoTerms))) f =
      tree_of (Change o given.New p (MoreTerms a (MoreTerms b NoTerms)))
      (new_value o p (part_of a ∷ part_of b ∷ []) (makes_call a || (makes_call b || false))
      (two_value o a b (calm a f.0.0) (calm b f.0.1.0) (makes_call a || (makes_call b || false)) refl))
      (λ v. plain_branches (makes_call a || (makes_call b || false))
      ((part_of (Change o given.New p (MoreTerms a (MoreTerms b NoTerms)))).value)
      v None (kind_at p))
  calm (Change o given.New p ts) f = absurd f.1
  calm (Call ty g ts) f =
      tree_of (Call ty g ts) (call_value ty g ts f (all_calm ts f))
      (λ v. plain_branches true ((part_of (Call ty g ts)).value) v None (kind_of ty))
  calm (Print ps ts) f =
      tree_of (Print ps ts) (print_value ps ts f (all_calm ts f)) (λ v. plain_branches true ((part_of (Print ps ts)).value) v None kind.Int)
  calm _ f = absurd f

  pub all_calm : (ts : Terms) → AllFresh ts → AllCalm ts
  all_calm NoTerms f = tt
  all_calm (MoreTerms t ts) f = (calm t f.0, all_calm ts f.1)
