-- The code of terms, from that of their parts, as it is written.
use Rattle.std.proofs.Common.{◌≡◌, ℕ, suc, pos, Bool, true, false, List, [], ◌∷◌, ◌++◌, Option, None, length, refl, sym, ap, ◌∙◌}
use Rattle.std.proofs.Common.{append_assoc}
use Rattle.limbo_values.specs.declared.number.Kind.{Kind}
use Rattle.limbo_values.specs.declared.operator.Comparison.{Comparison}
use Rattle.limbo_values.specs.declared.operator.Comparison.TheVariants.{Unequal}
use Rattle.limbo_types.specs.Types.{Ty}
use Rattle.limbo_typed.specs.declared.operation.Operation.{Operation}
use Rattle.limbo_typed.specs.declared.operation.Operation.TheVariants as operation
use Rattle.limbo_typed.specs.declared.operation.Connective.{Connective}
use Rattle.limbo_typed.specs.declared.operation.Given.TheVariants as given
use Rattle.limbo_typed.specs.declared.print.Piece.{Piece}
use Rattle.typed_meaning.specs.Values.{kind_of}
use Rattle.typed_meaning.specs.Trees.{Place, Term, Read, Apply, Lazy, Store, Change, Terms, NoTerms, MoreTerms}
use Rattle.typed_meaning.specs.Trees as tree
use Rattle.slot_code.specs.Code.{Spot, Operand, Inst, Temporary, Argument, In, Number, Move, Hand, Skip, Alter, Operate, Begin, Format}
use Rattle.slot_code.specs.Code as slot
use Rattle.typed_lower.specs.Kinds.{kind_in, kind_at, spot_of, leaf, makes_call}
use Rattle.typed_lower.specs.Terms.{Ready, part_of, parts_of, code_of, branches, one, two, left_taking, right_taking, branch, connected}
use Rattle.typed_lower.specs.Terms.{applied}
use Rattle.typed_lower.specs.declared.taking.Taking.TheVariants.{Own, Short}
use Rattle.typed_lower.specs.Terms.{first_put, all_put, made_ready, answered, count}
use Rattle.slot_writing.specs.Operands.{ready_at, taken, standing}
use Rattle.slot_writing.specs.Conditions.{IsTested, decides, passed}
use Rattle.slot_writing.specs.Terms.{update, step}
use Rattle.slot_writing.proofs.Parts.{part_kind, part_calls, applied_one, applied_two, compared_two, connected_is, one_before, two_before}

-- ---- operands

pub ready_code : (d n : ℕ) (t : Term) (k : Kind) (x : Option Operand) (base : List Inst) → n ≡ suc d → k ≡ kind_in t → x ≡ None
    → code_of n t (Temporary k d) ++ base ≡ (ready_at d t x).before ++ base
ready_code d n t k x base en ek ex = rw (en, ek, ex) refl

pub altered_code : (x : Ready) (o : Operation) (s : Spot) (a : Operand) (w base : List Inst) → w ≡ Alter o s a ∷ base → a ≡ x.operand
    → x.before ++ w ≡ one x (λ y. Alter o s y) ++ base
altered_code x o s a w base ew ea = rw (ew, ea) (one_before x (λ y. Alter o s y) base)

pub operands_code : (x y : Ready) (w base : List Inst) → w ≡ y.before ++ base → x.before ++ w ≡ x.before ++ y.before ++ base
operands_code x y w base ew = rw ew (sym (append_assoc x.before y.before base))

pub operated_code : (x y : Ready) (o : Operation) (s : Spot) (a b : Operand) (w base : List Inst) → w ≡ Operate o s a b ∷ base
    → a ≡ x.operand → b ≡ y.operand → x.before ++ y.before ++ w ≡ two x y (λ p q. Operate o s p q) ++ base
operated_code x y o s a b w base ew ea eb = rw (ew, ea, eb) (two_before x y (λ p q. Operate o s p q) base)

-- ---- conditions

pub connected_code : (c : Connective) (l r : Term) (w b : Bool) (d n m k : ℕ) (mid base : List Inst)
    → mid ≡ branches w d r n ++ base → m ≡ length (branches w d r n) → b ≡ decides c → k ≡ passed c w m n
    → branches b d l k ++ mid ≡ connected c (part_of l) (part_of r) w d n ++ base
connected_code c l r w b d n m k mid base em el eb ek =
    rw (em, eb, ek, el) (sym (append_assoc (branches (decides c) d l (passed c w (length (branches w d r n)) n)) (branches w d r n) base)
    ∙ ap (λ xs. xs ++ base) (sym (connected_is c (part_of l) (part_of r) w d n)))

pub lazy_branches : (c : Connective) (l r u v t : Term) (w : Bool) (d n : ℕ) (base : List Inst) → l ≡ u → r ≡ v → t ≡ Lazy c u v
    → connected c (part_of l) (part_of r) w d n ++ base ≡ branches w d t n ++ base
lazy_branches c l r u v t w d n base el er et = rw (el, er, et) refl

pub compared_code : (c : Comparison) (k : Kind) (l r u v t : Term) (w : Bool) (d n : ℕ) (a b : Operand) (mid base : List Inst)
    → l ≡ u → r ≡ v → t ≡ Apply (operation.Compare c k) (MoreTerms u (MoreTerms v NoTerms)) → mid ≡ branch w k c a b n ∷ base
    → a ≡ (ready_at d l (standing Own l r)).operand → b ≡ (ready_at (suc d) r (taken Short r)).operand
    → (ready_at d l (standing Own l r)).before ++ (ready_at (suc d) r (taken Short r)).before ++ mid ≡ branches w d t n ++ base
compared_code c k l r u v t w d n a b mid base el er et em ea eb =
    rw (em, ea, eb) (two_before (ready_at d l (standing Own l r)) (ready_at (suc d) r (taken Short r)) (λ x y. branch w k c x y n) base
    ∙ ap (λ xs. xs ++ base) (compared_two c k w d n l r t
    (et ∙ ap (λ x. Apply (operation.Compare c k) (MoreTerms x (MoreTerms v NoTerms))) (sym el)
    ∙ ap (λ x. Apply (operation.Compare c k) (MoreTerms l (MoreTerms x NoTerms))) (sym er))))

pub tested_code : (t : Term) (w : Bool) (d n : ℕ) (mid base : List Inst) → IsTested t
    → mid ≡ branch w (kind_in t) Unequal (ready_at d t (leaf t)).operand (Number (pos 0)) n ∷ base
    → (ready_at d t (leaf t)).before ++ mid ≡ branches w d t n ++ base
tested_code t w d n mid base h em =
    rw em (one_before (ready_at d t (leaf t)) (λ x. branch w (kind_in t) Unequal x (Number (pos 0)) n) base
    ∙ ap (λ xs. xs ++ base) (sym (h w d n)))

-- ---- arguments

pub rest_code : (t : Term) (ts us : Terms) (k : Kind) (i n d : ℕ) (mid base : List Inst) → us ≡ MoreTerms t ts → k ≡ kind_in t → n ≡ suc i
    → mid ≡ all_put n (parts_of ts) d ++ base → code_of d t (Argument k i) ++ mid ≡ all_put i (parts_of us) d ++ base
rest_code t ts us k i n d mid base eu ek en em =
    rw (em, eu, en, ek ∙ sym (part_kind t))
    (sym (append_assoc (code_of d t (Argument (part_of t).kind i)) (all_put (suc i) (parts_of ts) d) base))

pub first_calls : (t : Term) (k : Kind) (n d : ℕ) (begin : Inst) (b : Bool) (mid base : List Inst) → b ≡ true → b ≡ makes_call t
    → k ≡ kind_in t → n ≡ suc d → mid ≡ begin ∷ Hand (Argument k 0) (In (Temporary k d)) ∷ base
    → code_of n t (Temporary k d) ++ mid ≡ first_put (makes_call t) (part_of t) begin d ++ base
first_calls t k n d begin b mid base eb ec ek en em =
    rw (em, sym ec ∙ eb, en, ek ∙ sym (part_kind t))
    (sym (append_assoc (code_of (suc d) t (Temporary (part_of t).kind d))
    (begin ∷ Hand (Argument (part_of t).kind 0) (In (Temporary (part_of t).kind d)) ∷ []) base))

pub first_not : (t : Term) (k : Kind) (d : ℕ) (begin : Inst) (b : Bool) (mid base : List Inst) → b ≡ false → b ≡ makes_call t
    → k ≡ kind_in t → mid ≡ code_of d t (Argument k 0) ++ base → begin ∷ mid ≡ first_put (makes_call t) (part_of t) begin d ++ base
first_not t k d begin b mid base eb ec ek em = rw (em, sym ec ∙ eb, ek ∙ sym (part_kind t)) refl

pub made_code : (t : Term) (ts us : Terms) (begin : Inst) (d : ℕ) (mid base : List Inst) → us ≡ MoreTerms t ts
    → mid ≡ all_put 1 (parts_of ts) d ++ base
    → first_put (makes_call t) (part_of t) begin d ++ mid ≡ made_ready begin (parts_of us) d ++ base
made_code t ts us begin d mid base eu em =
    rw (em, eu, sym (part_calls t)) (sym (append_assoc (first_put (part_of t).calls (part_of t) begin d) (all_put 1 (parts_of ts) d) base))

-- ---- values

pub one_applied : (o : Operation) (d : ℕ) (s : Spot) (t u : Term) (ts : Terms) (base : List Inst) → t ≡ u → ts ≡ MoreTerms u NoTerms
    → one (ready_at d t (taken (left_taking o) t)) (λ x. Alter o s x) ++ base ≡ applied o (parts_of ts) d s ++ base
one_applied o d s t u ts base et es = ap (λ xs. xs ++ base) (applied_one o d s t ts (es ∙ ap (λ x. MoreTerms x NoTerms) (sym et)))

pub two_applied : (o : Operation) (d : ℕ) (s : Spot) (t u v w : Term) (ts : Terms) (base : List Inst) → t ≡ v → u ≡ w
    → ts ≡ MoreTerms v (MoreTerms w NoTerms)
    → two (ready_at d t (standing (left_taking o) t u)) (ready_at (suc d) u (taken (right_taking o) u)) (λ x y. Operate o s x y) ++ base
    ≡ applied o (parts_of ts) d s ++ base
two_applied o d s t u v w ts base et eu es =
    ap (λ xs. xs ++ base) (applied_two o d s t u ts
    (es ∙ ap (λ x. MoreTerms x (MoreTerms w NoTerms)) (sym et) ∙ ap (λ x. MoreTerms t (MoreTerms x NoTerms)) (sym eu)))

pub lazy_code : (c : Connective) (l r u v t : Term) (d : ℕ) (s : Spot) (mid base : List Inst) → l ≡ u → r ≡ v → t ≡ Lazy c u v
    → mid ≡ Hand s (Number (pos 1)) ∷ Skip 1 ∷ Hand s (Number (pos 0)) ∷ base
    → connected c (part_of l) (part_of r) false d 2 ++ mid ≡ code_of d t s ++ base
lazy_code c l r u v t d s mid base el er et em =
    rw (em, el, er, et) (sym (append_assoc (connected c (part_of u) (part_of v) false d 2)
    (Hand s (Number (pos 1)) ∷ Skip 1 ∷ Hand s (Number (pos 0)) ∷ []) base))

pub store_code : (p : Place) (u v t : Term) (k : Kind) (n d : ℕ) (to s : Spot) (mid base : List Inst) → u ≡ v → t ≡ Store p v
    → k ≡ kind_in u → n ≡ suc d → to ≡ spot_of p → mid ≡ Move to (In (Temporary k d)) ∷ Hand s (In (Temporary k d)) ∷ base
    → code_of n u (Temporary k d) ++ mid ≡ code_of d t s ++ base
store_code p u v t k n d to s mid base eu et ek en eo em =
    rw (em, et, en, eo, ek ∙ sym (part_kind u), eu) (sym (append_assoc (code_of (suc d) v (Temporary (part_of v).kind d))
    (Move (spot_of p) (In (Temporary (part_of v).kind d)) ∷ Hand s (In (Temporary (part_of v).kind d)) ∷ []) base))

kept_tail : (a : List Inst) (k : Kind) (d : ℕ) (to s : Spot) (base : List Inst)
    → a ++ (Move to (In (Temporary k d)) ∷ Hand s (In (Temporary k d)) ∷ base)
    ≡ (a ++ Move to (In (Temporary k d)) ∷ Hand s (In (Temporary k d)) ∷ []) ++ base
kept_tail a k d to s base = sym (append_assoc a (Move to (In (Temporary k d)) ∷ Hand s (In (Temporary k d)) ∷ []) base)

pub update_code : (o : Operation) (p : Place) (u v t : Term) (k : Kind) (d : ℕ) (to s : Spot) (mid base : List Inst) → u ≡ v
    → t ≡ update o p v → k ≡ kind_at p → to ≡ spot_of p
    → mid ≡ Move to (In (Temporary k d)) ∷ Hand s (In (Temporary k d)) ∷ base
    → two (ready_at d (Read p) (standing (left_taking o) (Read p) u)) (ready_at (suc d) u (taken (right_taking o) u))
    (λ x y. Operate o (Temporary k d) x y) ++ mid ≡ code_of d t s ++ base
update_code o p u v t k d to s mid base eu et ek eo em =
    rw (em, et, eo, ek, eu)
    (two_applied o d (Temporary (kind_at p) d) (Read p) v (Read p) v (MoreTerms (Read p) (MoreTerms v NoTerms)) _ refl refl refl
    ∙ kept_tail (applied o (parts_of (MoreTerms (Read p) (MoreTerms v NoTerms))) d (Temporary (kind_at p) d)) (kind_at p) d
    (spot_of p) s base)

pub step_code : (o : Operation) (p : Place) (t : Term) (k : Kind) (d : ℕ) (to s : Spot) (mid base : List Inst) → t ≡ step o given.New p
    → k ≡ kind_at p → to ≡ spot_of p → mid ≡ Move to (In (Temporary k d)) ∷ Hand s (In (Temporary k d)) ∷ base
    → one (ready_at d (Read p) (taken (left_taking o) (Read p))) (λ x. Alter o (Temporary k d) x) ++ mid ≡ code_of d t s ++ base
step_code o p t k d to s mid base et ek eo em =
    rw (em, et, eo, ek)
    (one_applied o d (Temporary (kind_at p) d) (Read p) (Read p) (MoreTerms (Read p) NoTerms) _ refl refl
    ∙ kept_tail (applied o (parts_of (MoreTerms (Read p) NoTerms)) d (Temporary (kind_at p) d)) (kind_at p) d (spot_of p) s base)

pub call_code : (ty : Ty) (f n : ℕ) (ts : Terms) (t : Term) (k : Kind) (d : ℕ) (s : Spot) (mid base : List Inst) → t ≡ tree.Call ty f ts
    → k ≡ kind_of ty → n ≡ count ts → mid ≡ slot.Call k f n s ∷ base
    → made_ready (Begin f) (parts_of ts) d ++ mid ≡ code_of d t s ++ base
call_code ty f n ts t k d s mid base et ek en em =
    rw (em, et, ek, en) (sym (append_assoc (made_ready (Begin f) (parts_of ts) d) (slot.Call (kind_of ty) f (count ts) s ∷ []) base))

pub print_code : (ps : List Piece) (n : ℕ) (ts : Terms) (t : Term) (d : ℕ) (s : Spot) (mid base : List Inst) → t ≡ tree.Print ps ts
    → n ≡ count ts → mid ≡ answered n d s ++ base → made_ready (Format ps) (parts_of ts) d ++ mid ≡ code_of d t s ++ base
print_code ps n ts t d s mid base et en em =
    rw (em, et, en) (sym (append_assoc (made_ready (Format ps) (parts_of ts) d) (answered (count ts) d s) base))
