-- How many instructions a module's code has.
use Rattle.std.proofs.Common.{◌≡◌, ℕ, suc, ◌+◌, ◌*◌, ◌≤◌, Bool, true, false, List, [], ◌∷◌, ◌++◌, Option, None, Some, length, arith}
use Rattle.std.proofs.Common.{length-append}
use Rattle.limbo_types.specs.Types as types
use Rattle.limbo_types.specs.Types.{Ty}
use Rattle.limbo_values.specs.declared.number.Kind.{Kind}
use Rattle.limbo_typed.specs.declared.operation.Operation.{Operation}
use Rattle.limbo_typed.specs.declared.operation.Operation.TheVariants as operation
use Rattle.limbo_typed.specs.declared.operation.Connective.{Connective}
use Rattle.limbo_typed.specs.declared.operation.Connective.TheVariants as connective
use Rattle.limbo_typed.specs.declared.operation.Given.{Given}
use Rattle.limbo_typed.specs.declared.operation.Given.TheVariants as given
use Rattle.limbo_typed.specs.declared.print.Printed.{Printed}
use Rattle.limbo_typed.specs.declared.print.Printed.TheVariants as printed
use Rattle.limbo_typed.specs.Typed as typed
use Rattle.typed_meaning.specs.Trees.{Place, Term, Evaluated, Awaiting, Missing, Literal, Read, Apply, Lazy, Deciding, Store, Change, Put}
use Rattle.typed_meaning.specs.Trees.{Call, Print, Terms, NoTerms, MoreTerms}
use Rattle.typed_meaning.specs.Program.{term_of, node_of, terms_of, printed_of, place_of, place_to, as_printed, at_place, printing}
use Rattle.slot_code.specs.Code.{Spot, Operand, Inst, Begin, Format, In, Temporary, Hand, Skip, Number}
use Rattle.slot_code.specs.Code as code
use Rattle.typed_lower.specs.Kinds.{kind_in, kind_at, kind_given, spot_of, leaf}
use Rattle.typed_meaning.specs.Values.{kind_of}
use Rattle.limbo_typed.specs.declared.print.Piece.{Piece}
use Rattle.limbo_values.specs.declared.operator.Comparison.TheVariants as unequal
use Rattle.std.specs.Prelude.{if◌then◌else◌, pos}
use Rattle.typed_lower.specs.Terms.{Part, Ready, part_of, parts_of, kept, ready, ready_of, ready_before, unless_changed, one, two}
use Rattle.typed_lower.specs.Terms.{applied, tested}
use Rattle.typed_lower.specs.Terms.{compared, connected, branch, truth_of, assigned_first, changed, first_put, all_put, made_ready}
use Rattle.typed_lower.specs.Terms.{answered}
use Rattle.typed_lower.specs.declared.taking.Taking.{Taking}
use Rattle.typed_lower.specs.declared.taking.Taking.TheVariants.{Own, Short}
use Rattle.typed_lower.specs.Terms.{from_leaf, plain, count, seen_by, left_taking, right_taking}
use Rattle.typed_lower.specs.Sizes.{expr_nodes, inner_nodes, exprs_nodes}

-- ---- terms

abbrev mutual
  pub size : Term → ℕ
  size (Apply o ts) = suc (sizes ts)
  size (Lazy c l r) = suc (size l + size r)
  size (Deciding r) = suc (size r)
  size (Store p t) = suc (size t)
  size (Change o g p ts) = suc (sizes ts)
  size (Call t f ts) = suc (sizes ts)
  size (Print ps ts) = suc (sizes ts)
  size t = 1

  pub sizes : Terms → ℕ
  sizes NoTerms = 0
  sizes (MoreTerms t ts) = size t + sizes ts

-- a part has at most four instructions for each of so many nodes
pub record Few (p : Part) (n : ℕ) : Type 0 where
  pub value : (d : ℕ) (s : Spot) → suc (length (p.value d s)) ≤ 4 * n
  pub branches : (w : Bool) (d m : ℕ) → length (p.branches w d m) ≤ 4 * n

abbrev pub AllFew : Terms → Type 0
AllFew NoTerms = Unit {0}
AllFew (MoreTerms t ts) = Few (part_of t) (size t) × AllFew ts

pub ready_few : (d : ℕ) (k : Kind) (o : Option Operand) (value : ℕ → Spot → List Inst) (n : ℕ)
    → ((d : ℕ) (s : Spot) → suc (length (value d s)) ≤ 4 * n) → suc (length (ready_of d k o value).before) ≤ 4 * n
ready_few d k None value n h = h (suc d) (Temporary k d)
ready_few d k (Some x) value n h = omega (arith, h d (Temporary k d))

-- an operand in front of another
before_few : (d : ℕ) (p q : Part) (n : ℕ) → Few p n → suc (length (ready_before d p q).before) ≤ 4 * n
before_few d p q n f = go p.leaf
  where
    picked : (x : Operand) (b : Bool) → suc (length (if b then kept d p.kind p.value else record { before = []; operand = x }).before) ≤
        4 * n
    picked x true = f.value (suc d) (Temporary p.kind d)
    picked x false = omega (arith, f.value d (Temporary p.kind d))

    go : (o : Option Operand) → suc (length (unless_changed d p o q.changes).before) ≤ 4 * n
    go None = f.value (suc d) (Temporary p.kind d)
    go (Some x) = picked x (q.changes x)

pub one_long : (x : Ready) (last : Operand → Inst) → length (one x last) ≡ suc (length x.before)
one_long x last = omega (arith, length-append x.before (last x.operand ∷ []))

two_long : (x y : Ready) (last : Operand → Operand → Inst) → length (two x y last) ≡ suc (length x.before + length y.before)
two_long x y last =
    omega (arith, length-append (x.before ++ y.before) (last x.operand y.operand ∷ []), length-append x.before y.before)

-- an operation may see less of a leaf
seen_few : (y : Taking) (p : Part) (n : ℕ) → Few p n → Few (seen_by y p) n
seen_few y p n f = record { value = f.value; branches = f.branches }

pub applied_few : (o : Operation) (ts : Terms) → AllFew ts → (d : ℕ) (s : Spot) → length (applied o (parts_of ts) d s) ≤ 4 * sizes ts
applied_few o NoTerms h d s = omega arith
applied_few o (MoreTerms t NoTerms) h d s =
    let p = seen_by (left_taking o) (part_of t) in
    omega (arith, one_long (ready d p) (λ x. code.Alter o s x), ready_few d p.kind p.leaf p.value (size t) h.0.value)
applied_few o (MoreTerms t (MoreTerms u NoTerms)) h d s =
    let p = seen_by (left_taking o) (part_of t) in
    let q = seen_by (right_taking o) (part_of u) in
    omega (
      arith,
      two_long (ready_before d p q) (ready (suc d) q) (λ x y. code.Operate o s x y),
      before_few d p q (size t) (seen_few (left_taking o) (part_of t) (size t) h.0),
      ready_few (suc d) q.kind q.leaf q.value (size u) h.1.0.value,
    )
applied_few o (MoreTerms t (MoreTerms u (MoreTerms v ts))) h d s = omega arith

tested_few : (w : Bool) (k : Kind) (x : Ready) (m n : ℕ) → suc (length x.before) ≤ 4 * n → length (tested w k x m) ≤ 4 * n
tested_few w k x m n h = omega (arith, one_long x (λ y. branch w k unequal.Unequal y (Number (pos 0)) m))

-- a comparison, or the value of an operation that is tested
kept_few : (o : Operation) (ts : Terms) → AllFew ts → (k : Kind) (w : Bool) (d m : ℕ)
    → length (tested w k (kept d k (applied o (parts_of ts))) m) ≤ 4 * suc (sizes ts)
kept_few o ts h k w d m =
    tested_few w k (kept d k (applied o (parts_of ts))) m (suc (sizes ts)) (omega (arith, applied_few o ts h (suc d) (Temporary k d)))

compared_few : (o : Operation) (ts : Terms) → AllFew ts → (k : Kind) (w : Bool) (d m : ℕ)
    → length (compared o (parts_of ts) k (applied o (parts_of ts)) w d m) ≤ 4 * suc (sizes ts)
compared_few (operation.Compare c j) NoTerms h k w d m = kept_few (operation.Compare c j) NoTerms h k w d m
compared_few (operation.Compare c j) (MoreTerms t NoTerms) h k w d m = kept_few (operation.Compare c j) (MoreTerms t NoTerms) h k w d m
compared_few (operation.Compare c j) (MoreTerms t (MoreTerms u NoTerms)) h k w d m =
    let p = seen_by Own (part_of t) in
    let q = seen_by Short (part_of u) in
    omega (
      arith,
      two_long (ready_before d p q) (ready (suc d) q) (λ x y. branch w j c x y m),
      before_few d p q (size t) (seen_few Own (part_of t) (size t) h.0),
      ready_few (suc d) q.kind q.leaf q.value (size u) h.1.0.value,
    )
compared_few (operation.Compare c j) (MoreTerms t (MoreTerms u (MoreTerms v ts))) h k w d m =
    kept_few (operation.Compare c j) (MoreTerms t (MoreTerms u (MoreTerms v ts))) h k w d m
compared_few o ts h k w d m = kept_few o ts h k w d m

connected_few : (c : Connective) (l r : Part) (a b : ℕ) → Few l a → Few r b → (w : Bool) (d m : ℕ)
    → length (connected c l r w d m) ≤ 4 * (a + b)
connected_few connective.And l r a b f g true d m =
    let n = length (r.branches true d m) in
    omega (arith, length-append (l.branches false d n) (r.branches true d m), f.branches false d n, g.branches true d m)
connected_few connective.And l r a b f g false d m =
    let n = length (r.branches false d m) + m in
    omega (arith, length-append (l.branches false d n) (r.branches false d m), f.branches false d n, g.branches false d m)
connected_few connective.Or l r a b f g true d m =
    let n = length (r.branches true d m) + m in
    omega (arith, length-append (l.branches true d n) (r.branches true d m), f.branches true d n, g.branches true d m)
connected_few connective.Or l r a b f g false d m =
    let n = length (r.branches false d m) in
    omega (arith, length-append (l.branches true d n) (r.branches false d m), f.branches true d n, g.branches false d m)

-- what stands in front of a call
first_few : (calls : Bool) (p : Part) (n : ℕ) → Few p n → (begin : Inst) (d : ℕ) → length (first_put calls p begin d) ≤ 4 * n + 1
first_few true p n f begin d =
    let s = Temporary p.kind d in
    omega (arith, length-append (p.value (suc d) s) (begin ∷ Hand (code.Argument p.kind 0) (In s) ∷ []), f.value (suc d) s)
first_few false p n f begin d = omega (arith, f.value d (code.Argument p.kind 0))

rest_few : (ts : Terms) → AllFew ts → (i d : ℕ) → length (all_put i (parts_of ts) d) ≤ 4 * sizes ts
rest_few NoTerms h i d = omega arith
rest_few (MoreTerms t ts) h i d =
    let s = code.Argument (part_of t).kind i in
    omega (arith, length-append ((part_of t).value d s) (all_put (suc i) (parts_of ts) d), h.0.value d s, rest_few ts h.1 (suc i) d)

made_few : (begin : Inst) (ts : Terms) → AllFew ts → (d : ℕ) → length (made_ready begin (parts_of ts) d) ≤ 4 * sizes ts + 1
made_few begin NoTerms h d = omega arith
made_few begin (MoreTerms t ts) h d =
    let p = part_of t in
    omega (
      arith,
      length-append (first_put p.calls p begin d) (all_put 1 (parts_of ts) d),
      first_few p.calls p (size t) h.0 begin d,
      rest_few ts h.1 1 d,
    )

plain_few : (t : Term) (value : ℕ → Spot → List Inst) (n : ℕ) → ((d : ℕ) (s : Spot) → suc (length (value d s)) ≤ 4 * n)
    → Few (plain t value) n
plain_few t value n h = record {
  value = h;
  branches = λ w d m. tested_few w (kind_in t) (ready_of d (kind_in t) (leaf t) value) m n (ready_few d (kind_in t) (leaf t) value n h);
}

leaf_long : (o : Option Operand) (s : Spot) → length (from_leaf o s) ≤ 1
leaf_long None s = omega arith
leaf_long (Some x) s = omega arith

changed_few : (g : Given) (o : Operation) (k : Kind) (to : Spot) (ts : Terms) → AllFew ts → (d : ℕ) (s : Spot)
    → suc (length (changed g o k to (parts_of ts) d s)) ≤ 4 * suc (sizes ts)
changed_few given.Old o k to ts h d s = omega arith
changed_few given.New o k to ts h d s =
    let a = applied o (parts_of ts) d (Temporary k d) in
    omega (
      arith,
      length-append a (code.Move to (In (Temporary k d)) ∷ Hand s (In (Temporary k d)) ∷ []),
      applied_few o ts h d (Temporary k d),
    )

truth_few : (branches : Bool → ℕ → ℕ → List Inst) (n : ℕ) → ((w : Bool) (d m : ℕ) → length (branches w d m) ≤ 4 * n) → (d : ℕ) (s : Spot)
    → suc (length (truth_of branches d s)) ≤ 4 * suc n
truth_few branches n h d s =
    omega (arith, length-append (branches false d 2) (Hand s (Number (pos 1)) ∷ Skip 1 ∷ Hand s (Number (pos 0)) ∷ []), h false d 2)

stored_few : (t : Term) → Few (part_of t) (size t) → (to : Spot) (d : ℕ) (s : Spot)
    → suc (length (assigned_first (part_of t) to d s)) ≤ 4 * suc (size t)
stored_few t f to d s =
    let k = (part_of t).kind in
    omega (
      arith,
      length-append ((part_of t).value (suc d) (Temporary k d)) (code.Move to (In (Temporary k d)) ∷ Hand s (In (Temporary k d)) ∷ []),
      f.value (suc d) (Temporary k d),
    )

call_few : (t : Ty) (f : ℕ) (ts : Terms) → AllFew ts → (d : ℕ) (s : Spot)
    → suc (length (made_ready (Begin f) (parts_of ts) d ++ code.Call (kind_of t) f (count ts) s ∷ [])) ≤ 4 * suc (sizes ts)
call_few t f ts h d s =
    omega (
      arith,
      length-append (made_ready (Begin f) (parts_of ts) d) (code.Call (kind_of t) f (count ts) s ∷ []),
      made_few
          (Begin f) ts h d,
    )

print_few : (ps : List Piece) (ts : Terms) → AllFew ts → (d : ℕ) (s : Spot)
    → suc (length (made_ready (Format ps) (parts_of ts) d ++ answered (count ts) d s)) ≤ 4 * suc (sizes ts)
print_few ps ts h d s =
    omega (arith, length-append (made_ready (Format ps) (parts_of ts) d) (answered (count ts) d s), made_few (Format ps) ts h d)

mutual
  pub term_few : (t : Term) → Few (part_of t) (size t)
  term_few (Evaluated v) = plain_few (Evaluated v) _ 1 (λ d s. omega arith)
  term_few (Awaiting t) = plain_few (Awaiting t) _ 1 (λ d s. omega arith)
  term_few Missing = plain_few Missing _ 1 (λ d s. omega arith)
  term_few (Literal t v) = plain_few (Literal t v) _ 1 (λ d s. omega (arith, leaf_long (leaf (Literal t v)) s))
  term_few (Read p) = plain_few (Read p) _ 1 (λ d s. omega arith)
  term_few (Apply o ts) = record {
    value = λ d s. omega (arith, applied_few o ts (terms_few ts) d s);
    branches = λ w d m. compared_few o ts (terms_few ts) (kind_given o) w d m;
  }
  term_few (Lazy c l r) = record {
    value = truth_few (connected c (part_of l) (part_of r)) (size l + size r)
        (connected_few c (part_of l) (part_of r) (size l) (size r) (term_few l) (term_few r));
    branches = λ w d m. omega (arith, connected_few c (part_of l) (part_of r) (size l) (size r) (term_few l) (term_few r) w d m);
  }
  term_few (Deciding r) = plain_few (Deciding r) _ (suc (size r)) (λ d s. omega arith)
  term_few (Store p t) = plain_few (Store p t) _ (suc (size t)) (λ d s. stored_few t (term_few t) (spot_of p) d s)
  term_few (Change o g p ts) = plain_few (Change o g p ts) _ (suc (sizes ts)) (changed_few g o (kind_at p) (spot_of p) ts (terms_few ts))
  term_few (Put p v w) = plain_few (Put p v w) _ 1 (λ d s. omega arith)
  term_few (Call t f ts) = plain_few (Call t f ts) _ (suc (sizes ts)) (λ d s. call_few t f ts (terms_few ts) d s)
  term_few (Print ps ts) = plain_few (Print ps ts) _ (suc (sizes ts)) (λ d s. print_few ps ts (terms_few ts) d s)

  pub terms_few : (ts : Terms) → AllFew ts
  terms_few NoTerms = tt
  terms_few (MoreTerms t ts) = (term_few t, terms_few ts)

-- ---- expressions

or_one : (t : Ty) (u : Term) → size (as_printed t u) ≤ suc (size u)
or_one types.Byte u = omega arith
or_one t u = omega arith

read_size : (p : Option Place) → suc (size (at_place p Read)) ≤ 2
read_size None = omega arith
read_size (Some p) = omega arith

stored_size : (p : Option Place) (t : Term) (n : ℕ) → suc (size t) ≤ 2 * n → suc (size (at_place p (λ q. Store q t))) ≤ 2 * suc (suc n)
stored_size None t n h = omega arith
stored_size (Some p) t n h = omega arith

updated_size : (o : Operation) (p : Option Place) (t : Term) (n : ℕ) → suc (size t) ≤ 2 * n
    → suc (size (at_place p (λ q. Change o given.New q (MoreTerms (Read q) (MoreTerms t NoTerms))))) ≤ 2 * suc (suc n)
updated_size o None t n h = omega arith
updated_size o (Some p) t n h = omega arith

stepped_size : (o : Operation) (g : Given) (p : Option Place) → suc (size (at_place p (λ q. Change o g q (MoreTerms (Read q) NoTerms)))) ≤ 4
stepped_size o g None = omega arith
stepped_size o g (Some p) = omega arith

printing_size : (w : Printed) (file : typed.Optional) (ps : List Piece) (ts : Terms) (n : ℕ) → sizes ts ≤ 2 * n
    → suc (size (printing w file ps ts)) ≤ 2 * suc (2 + n)
printing_size printed.Print typed.Absent ps ts n h = omega arith
printing_size printed.Print (typed.Present e) ps ts n h = omega arith
printing_size printed.Fprint file ps ts n h = omega arith
printing_size printed.Sprint file ps ts n h = omega arith

mutual
  pub expr_size : (e : typed.Expr) → suc (size (term_of e)) ≤ 2 * expr_nodes e
  expr_size (typed.Of t n) = node_size t n

  node_size : (t : Ty) (n : typed.Node) → suc (size (node_of t n)) ≤ 2 * suc (inner_nodes n)
  node_size t (typed.Read p) = read_size (place_of p)
  node_size t (typed.Apply o es) = omega (arith, terms_size es)
  node_size t (typed.Lazy c l r) = omega (arith, expr_size l, expr_size r)
  node_size t (typed.Assign p e) = stored_size (place_to p) (term_of e) (expr_nodes e) (expr_size e)
  node_size t (typed.Update o p e) = updated_size o (place_of p) (term_of e) (expr_nodes e) (expr_size e)
  node_size t (typed.Step o g p) = stepped_size o g (place_of p)
  node_size t (typed.Call f es) = omega (arith, terms_size es)
  node_size t (typed.Print w m file ps es) = printing_size w file ps (printed_of es) (exprs_nodes es) (printed_size es)
  node_size t n = omega arith

  terms_size : (es : typed.Exprs) → sizes (terms_of es) ≤ 2 * exprs_nodes es
  terms_size typed.NoExprs = omega arith
  terms_size (typed.MoreExprs e es) = omega (arith, expr_size e, terms_size es)

  printed_size : (es : typed.Exprs) → sizes (printed_of es) ≤ 2 * exprs_nodes es
  printed_size typed.NoExprs = omega arith
  printed_size (typed.MoreExprs (typed.Of t n) es) = omega (arith, or_one t (node_of t n), node_size t n, printed_size es)
