-- What a term's part is, and its operands.
use Rattle.std.specs.Prelude.{if◌then◌else◌}
use Rattle.std.proofs.Common.{◌≡◌, ℕ, suc, ◌+◌, ◌≤◌, arith, Bool, true, false, List, [], ◌∷◌, ◌++◌, Option, None, Some, length, refl, sym}
use Rattle.std.proofs.Common.{ap, ◌∙◌, append_assoc}
use Rattle.limbo_values.specs.declared.number.Kind.{Kind}
use Rattle.limbo_values.specs.declared.operator.Comparison.{Comparison}
use Rattle.limbo_typed.specs.declared.operation.Operation.{Operation}
use Rattle.limbo_typed.specs.declared.operation.Operation.TheVariants as operation
use Rattle.limbo_typed.specs.declared.operation.Connective.{Connective}
use Rattle.limbo_typed.specs.declared.operation.Connective.TheVariants as connective
use Rattle.typed_meaning.specs.Trees.{Term, Evaluated, Awaiting, Missing, Literal, Read, Apply, Lazy, Deciding, Store, Change, Put, Call}
use Rattle.typed_meaning.specs.Trees.{Print}
use Rattle.typed_meaning.specs.Trees.{Terms, NoTerms, MoreTerms}
use Rattle.slot_code.specs.Code.{Spot, Operand, Inst, Alter, Operate}
use Rattle.typed_lower.specs.Kinds.{kind_in, leaf, makes_call, changes}
use Rattle.typed_lower.specs.Terms.{Part, Ready, part_of, parts_of, ready_of, ready, ready_before, kept, unless_changed, applied, one, two}
use Rattle.typed_lower.specs.declared.taking.Taking.{Taking}
use Rattle.typed_lower.specs.declared.taking.Taking.TheVariants.{Own, Short}
use Rattle.typed_lower.specs.Terms.{left_taking, right_taking, taken_by, seen_by, two_taken, connected, branch, branches}
use Rattle.slot_writing.specs.Operands as written
use Rattle.slot_writing.specs.Operands.{ready_at, taken, standing}
use Rattle.slot_writing.specs.Conditions.{IsOther, decides, passed}

pub part_kind : (t : Term) → (part_of t).kind ≡ kind_in t
part_kind (Evaluated v) = refl
part_kind (Awaiting t) = refl
part_kind Missing = refl
part_kind (Literal t v) = refl
part_kind (Read p) = refl
part_kind (Apply o ts) = refl
part_kind (Lazy c l r) = refl
part_kind (Deciding r) = refl
part_kind (Store p t) = refl
part_kind (Change o g p ts) = refl
part_kind (Put p v w) = refl
part_kind (Call t f ts) = refl
part_kind (Print ps ts) = refl

pub part_leaf : (t : Term) → (part_of t).leaf ≡ leaf t
part_leaf (Evaluated v) = refl
part_leaf (Awaiting t) = refl
part_leaf Missing = refl
part_leaf (Literal t v) = refl
part_leaf (Read p) = refl
part_leaf (Apply o ts) = refl
part_leaf (Lazy c l r) = refl
part_leaf (Deciding r) = refl
part_leaf (Store p t) = refl
part_leaf (Change o g p ts) = refl
part_leaf (Put p v w) = refl
part_leaf (Call t f ts) = refl
part_leaf (Print ps ts) = refl

pub part_calls : (t : Term) → (part_of t).calls ≡ makes_call t
part_calls (Evaluated v) = refl
part_calls (Awaiting t) = refl
part_calls Missing = refl
part_calls (Literal t v) = refl
part_calls (Read p) = refl
part_calls (Apply o ts) = refl
part_calls (Lazy c l r) = refl
part_calls (Deciding r) = refl
part_calls (Store p t) = refl
part_calls (Change o g p ts) = refl
part_calls (Put p v w) = refl
part_calls (Call t f ts) = refl
part_calls (Print ps ts) = refl

part_changes : (t : Term) → (part_of t).changes ≡ (λ x. changes x t)
part_changes (Evaluated v) = refl
part_changes (Awaiting t) = refl
part_changes Missing = refl
part_changes (Literal t v) = refl
part_changes (Read p) = refl
part_changes (Apply o ts) = refl
part_changes (Lazy c l r) = refl
part_changes (Deciding r) = refl
part_changes (Store p t) = refl
part_changes (Change o g p ts) = refl
part_changes (Put p v w) = refl
part_changes (Call t f ts) = refl
part_changes (Print ps ts) = refl

-- ---- operands

pub ready_is : (d : ℕ) (t : Term) → ready d (part_of t) ≡ ready_at d t (leaf t)
ready_is d t =
    ap (λ (k : Kind). ready_of d k (part_of t).leaf (part_of t).value) (part_kind t)
    ∙ ap (λ (x : Option Operand). ready_at d t x) (part_leaf t)

taken_is : (d : ℕ) (y : Taking) (t : Term) → ready d (seen_by y (part_of t)) ≡ ready_at d t (taken y t)
taken_is d y t =
    ap (λ (k : Kind). ready_of d k (taken_by y (part_of t).leaf) (part_of t).value) (part_kind t)
    ∙ ap (λ (x : Option Operand). ready_at d t (taken_by y x)) (part_leaf t)

chosen : (d : ℕ) (p : Part) (k : Kind) → p.kind ≡ k → (x : Operand) (b : Bool)
    → (if b then kept d p.kind p.value else record { before = []; operand = x }) ≡ ready_of d k (if b then None else Some x) p.value
chosen d p k e x true = ap (λ (j : Kind). kept d j p.value) e
chosen d p k e x false = refl

stands : (d : ℕ) (p : Part) (k : Kind) → p.kind ≡ k → (u : Term) (o : Option Operand)
    → unless_changed d p o (λ x. changes x u) ≡ ready_of d k (written.unless_changed o u) p.value
stands d p k e u None = ap (λ (j : Kind). kept d j p.value) e
stands d p k e u (Some x) = chosen d p k e x (changes x u)

seen_before : (d : ℕ) (y z : Taking) (t u : Term)
    → ready_before d (seen_by y (part_of t)) (seen_by z (part_of u)) ≡ ready_at d t (standing y t u)
seen_before d y z t u =
    ap (λ (f : Operand → Bool). unless_changed d (seen_by y (part_of t)) (taken_by y (part_of t).leaf) f) (part_changes u)
    ∙ ap (λ (x : Option Operand). unless_changed d (seen_by y (part_of t)) (taken_by y x) (λ v. changes v u)) (part_leaf t)
    ∙ stands d (seen_by y (part_of t)) (kind_in t) (part_kind t) u (taken y t)

-- what an instruction on two operands takes
two_is : (o : Operation) (d : ℕ) (t u : Term) (last : Operand → Operand → Inst)
    → two (ready_at d t (standing (left_taking o) t u)) (ready_at (suc d) u (taken (right_taking o) u)) last
    ≡ two_taken o d (part_of t) (part_of u) last
two_is o d t u last =
    ap (λ (r : Ready). two r (ready_at (suc d) u (taken (right_taking o) u)) last) (sym (seen_before d (left_taking o) (right_taking o) t u))
    ∙ ap (λ (r : Ready). two (ready_before d (seen_by (left_taking o) (part_of t)) (seen_by (right_taking o) (part_of u))) r last)
    (sym (taken_is (suc d) (right_taking o) u))

-- ---- operations

pub applied_one : (o : Operation) (d : ℕ) (s : Spot) (t : Term) (ts : Terms) → ts ≡ MoreTerms t NoTerms
    → one (ready_at d t (taken (left_taking o) t)) (λ x. Alter o s x) ≡ applied o (parts_of ts) d s
applied_one o d s t ts e =
    ap (λ (r : Ready). one r (λ x. Alter o s x)) (sym (taken_is d (left_taking o) t)) ∙ ap (λ (us : Terms). applied o (parts_of us) d s) (sym e)

pub applied_two : (o : Operation) (d : ℕ) (s : Spot) (t u : Term) (ts : Terms) → ts ≡ MoreTerms t (MoreTerms u NoTerms)
    → two (ready_at d t (standing (left_taking o) t u)) (ready_at (suc d) u (taken (right_taking o) u)) (λ x y. Operate o s x y)
    ≡ applied o (parts_of ts) d s
applied_two o d s t u ts e =
    two_is o d t u (λ x y. Operate o s x y) ∙ ap (λ (us : Terms). applied o (parts_of us) d s) (sym e)

pub applied_other : (o : Operation) (d : ℕ) (s : Spot) (ts : Terms) → IsOther ts → [] ≡ applied o (parts_of ts) d s
applied_other o d s NoTerms h = refl
applied_other o d s (MoreTerms t NoTerms) h = absurd h
applied_other o d s (MoreTerms t (MoreTerms u NoTerms)) h = absurd h
applied_other o d s (MoreTerms t (MoreTerms u (MoreTerms v ts))) h = refl

-- ---- conditions

pub compared_two : (c : Comparison) (k : Kind) (w : Bool) (d n : ℕ) (t u a : Term)
    → a ≡ Apply (operation.Compare c k) (MoreTerms t (MoreTerms u NoTerms))
    → two (ready_at d t (standing Own t u)) (ready_at (suc d) u (taken Short u)) (λ x y. branch w k c x y n) ≡ branches w d a n
compared_two c k w d n t u a e =
    two_is (operation.Compare c k) d t u (λ x y. branch w k c x y n) ∙ ap (λ (b : Term). branches w d b n) (sym e)

-- the left operand's code passes as it should
pub connected_is : (c : Connective) (l r : Part) (w : Bool) (d n : ℕ)
    → connected c l r w d n ≡ l.branches (decides c) d (passed c w (length (r.branches w d n)) n) ++ r.branches w d n
connected_is connective.And l r true d n = refl
connected_is connective.And l r false d n = refl
connected_is connective.Or l r true d n = refl
connected_is connective.Or l r false d n = refl

-- ---- lists

pub one_before : (r : Ready) (last : Operand → Inst) (rest : List Inst) → r.before ++ last r.operand ∷ rest ≡ one r last ++ rest
one_before r last rest = sym (append_assoc r.before (last r.operand ∷ []) rest)

pub two_before : (x y : Ready) (last : Operand → Operand → Inst) (rest : List Inst)
    → x.before ++ y.before ++ (last x.operand y.operand ∷ rest) ≡ two x y last ++ rest
two_before x y last rest = sym (append_assoc (x.before ++ y.before) (last x.operand y.operand ∷ []) rest)

pub passed_most : (c : Connective) (w : Bool) (m n : ℕ) → passed c w m n ≤ m + n
passed_most connective.And true m n = omega arith
passed_most connective.And false m n = omega arith
passed_most connective.Or true m n = omega arith
passed_most connective.Or false m n = omega arith
