-- What a tree is in which a part was found.
use Rattle.std.proofs.Common.{◌≡◌, ℕ, ℤ, List, Bool, Some, ap}
use Rattle.limbo_tree.specs.declared.operators.AssignOp.{AssignOp}
use Rattle.limbo_tree.specs.declared.operators.AssignOp.TheVariants as assign
use Rattle.limbo_tree.specs.declared.operators.BinaryOp.{BinaryOp}
use Rattle.limbo_tree.specs.declared.operators.UnaryOp.{UnaryOp}
use Rattle.limbo_tree.specs.declared.operators.UnaryOp.TheVariants as unary
use Rattle.limbo_tree.specs.Exprs.{Expr, Exprs, NoExprs, MoreExprs}
use Rattle.limbo_tree.specs.Exprs as tree
use Rattle.limbo_tree.specs.Parts as parts

same : {A : Type 0} {x y : A} → Some x ≡ Some y → x ≡ y
same h = cc

pair : {A B : Type 0} {p q : A × B} → Some p ≡ Some q → (p.0 ≡ q.0) × (p.1 ≡ q.1)
pair h = (ap (λ r. r.0) (same h), ap (λ r. r.1) (same h))

triple : {A B C : Type 0} {p q : A × B × C} → Some p ≡ Some q → (p.0 ≡ q.0) × (p.1 ≡ q.1) × (p.2 ≡ q.2)
triple h = (ap (λ r. r.0) (same h), ap (λ r. r.1) (same h), ap (λ r. r.2) (same h))

pub is_name : (e : Expr) (n : List ℕ) → Some n ≡ parts.name_in e → e ≡ tree.Name n
is_name (tree.Name m) n h = cc
is_name _ n h = absurd cc

pub is_chars : (e : Expr) (t : List ℕ) → Some t ≡ parts.chars_in e → e ≡ tree.Chars t
is_chars (tree.Chars u) t h = cc
is_chars _ t h = absurd cc

pub is_number : (e : Expr) (v : ℤ) (wide : Bool) → Some (v, wide) ≡ parts.number_in e → e ≡ tree.Number v wide
is_number (tree.Number w b) v wide h = let p = pair h in cc
is_number _ v wide h = absurd cc

pub is_call : (e f : Expr) (xs : Exprs) → Some (f, xs) ≡ parts.call_in e → e ≡ tree.Call f xs
is_call (tree.Call g ys) f xs h = let p = pair h in cc
is_call _ f xs h = absurd cc

pub is_dot : (e x : Expr) (n : List ℕ) → Some (x, n) ≡ parts.dot_in e → e ≡ tree.Dot x n
is_dot (tree.Dot y m) x n h = let p = pair h in cc
is_dot _ x n h = absurd cc

pub is_arrow : (e x : Expr) (n : List ℕ) → Some (x, n) ≡ parts.arrow_in e → e ≡ tree.Arrow x n
is_arrow (tree.Arrow y m) x n h = let p = pair h in cc
is_arrow _ x n h = absurd cc

pub is_member : (e : Expr) (m n : List ℕ) → Some (m, n) ≡ parts.member_in e → e ≡ tree.Arrow (tree.Name m) n
is_member (tree.Arrow (tree.Name k) l) m n h = let p = pair h in cc
is_member _ m n h = absurd cc

pub is_index : (e x i : Expr) → Some (x, i) ≡ parts.index_in e → e ≡ tree.Index x i
is_index (tree.Index y j) x i h = let p = pair h in cc
is_index _ x i h = absurd cc

pub is_unary : (e : Expr) (o : UnaryOp) (x : Expr) → Some (o, x) ≡ parts.unary_in e → e ≡ tree.Unary o x
is_unary (tree.Unary p y) o x h = let p = pair h in cc
is_unary _ o x h = absurd cc

pub is_binary : (e : Expr) (o : BinaryOp) (l r : Expr) → Some (o, l, r) ≡ parts.binary_in e → e ≡ tree.Binary o l r
is_binary (tree.Binary p a b) o l r h = let p = triple h in cc
is_binary _ o l r h = absurd cc

pub is_assign : (e : Expr) (o : AssignOp) (l r : Expr) → Some (o, l, r) ≡ parts.assign_in e → e ≡ tree.Assign o l r
is_assign (tree.Assign p a b) o l r h = let p = triple h in cc
is_assign _ o l r h = absurd cc

pub is_group : (e : Expr) (xs : Exprs) → Some xs ≡ parts.group_in e → e ≡ tree.Group xs
is_group (tree.Group ys) xs h = cc
is_group _ xs h = absurd cc

pub is_single : (e x : Expr) → Some x ≡ parts.single_in e → e ≡ tree.Group (MoreExprs x NoExprs)
is_single (tree.Group (MoreExprs y NoExprs)) x h = cc
is_single _ x h = absurd cc

pub is_receive : (e x : Expr) → Some x ≡ parts.received_in e → e ≡ tree.Unary unary.Receive x
is_receive (tree.Unary unary.Receive y) x h = cc
is_receive _ x h = absurd cc

pub is_send : (e l r : Expr) → Some (l, r) ≡ parts.sent_in e → e ≡ tree.Assign assign.Send l r
is_send (tree.Assign assign.Send a b) l r h = let p = pair h in cc
is_send _ l r h = absurd cc
