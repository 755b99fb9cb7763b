-- What is put together by a row, or refused.
use Rattle.std.proofs.Common.{◌≡◌, Result, List, Option, Some, None, true, false, Box, Global, refl, sym, ap, subst, ◌∙◌}
use Rattle.std.specs.Prelude.{IfSome, IfNone, IfOk, IfErr}
use Rattle.std.proofs.lemmas.Result.{IfOk-weaker, IfErr-weaker}
use Rattle.limbo_types.specs.Types.{Ty, Int}
use Rattle.limbo_types.specs.View.{view_ty}
use Rattle.limbo_layout.specs.Adts.{Def}
use Rattle.limbo_tree.specs.declared.operators.BinaryOp.{BinaryOp}
use Rattle.limbo_tree.specs.declared.operators.UnaryOp.{UnaryOp}
use Rattle.limbo_typed.specs.declared.operation.Connective.{Connective}
use Rattle.limbo_typed.specs.Typed.{Expr}
use Rattle.limbo_typed.specs.declared.expr.TExpr as code_expr
use Rattle.limbo_typed.specs.View.{view_expr}
use Rattle.limbo_typed.specs.Sound.{type_of}
use Rattle.limbo_typed.proofs.View.{view_expr-out}
use Rattle.limbo_operands.specs.limbo_standing.Standing.{Settles}
use Rattle.limbo_refusals.specs.declared.fault.ExprFault.{ExprFault}
use Rattle.limbo_refusals.specs.Refusals.{Refuses, NoneIs}
use Rattle.limbo_operands.proofs.Refused.{refuses_so}
use Rattle.limbo_operands.proofs.limbo_standing_lemmas.Settled.{settled_once}
use Rattle.limbo_operators.specs.declared.signs.Binary.{Binary}
use Rattle.limbo_operators.specs.declared.signs.Binary.TheVariants as binary
use Rattle.limbo_operators.specs.Rows.{Row, BinaryRow, LazyRow, ints, binary_of}
use Rattle.limbo_operators.proofs.Table.{binary_once, binary_found, lazy_found}
use Rattle.limbo_prefixes.specs.Rows.{OneRow, BytesRow, text_bytes}
use Rattle.limbo_prefixes.proofs.OneTable.{unary_once}
use Rattle.limbo_combining.specs.Combining.{ByRow, as_asked, HasRow, IsLazy, Combines, by_row, lazily, applied, lazy, types_of, asked}
use Rattle.limbo_combining.specs.Combining.{CombiningClashes, of_operands, of_row, changes, asked_one, ByOneRow, as_one_asked, applied_to}
use Rattle.limbo_combining.specs.Combining.{HasOneRow, HasBytesRow, Operates, by_one_row, BytesOf, by_bytes_row}
use Rattle.limbo_combining.specs.Combining.{OperandClashes, of_operand, of_its_row}

-- the type of an expression of the code
pub type_in_view : (e : code_expr.TExpr) → type_of (view_expr e) ≡ view_ty e.ty
type_in_view e = ap type_of (view_expr-out e)

-- ---- what is said of parts, said of the parts that they are

pub at : {A : Type 0} (P : A → Type 0) (x y : A) → x ≡ y → P x → P y
at P x y e h = subst P e h

pub both_at : {A B : Type 0} (P : A → B → Type 0) (x y : A) (u v : B) → x ≡ y → u ≡ v → P x u → P y v
both_at P x y u v e f h = subst (λ z. P y z) f (subst (λ z. P z u) e h)

pub some_is : {A : Type 0} (o : Option A) (x : A) (P : A → Type 0) → o ≡ Some x → IfSome o P → P x
some_is {A} o x P e h = subst (λ (z : Option A). IfSome z P) e h

pub none_is : {A : Type 0} (o : Option A) (P : Type 0) → o ≡ None → IfNone o P → P
none_is {A} o P e h = subst (λ (z : Option A). IfNone z P) e h

-- ---- between two operands

pub by_row_so : (row : Row) (l r f g x : Expr) → Settles row.left l f → Settles row.right r g → x ≡ applied row.operation row.result f g → ByRow row l r x
by_row_so row l r f g x h i e = subst (λ z. ByRow row l r z) (sym e) (as_asked f g h i)

pub lazily_so : (o : BinaryOp) (l r x : Expr) (k : Connective) → IsLazy o l r k → x ≡ lazy k l r → Combines o l r x
lazily_so o l r x k h e = subst (λ z. Combines o l r z) (sym e) (lazily k h)

-- no row but this one, and no connective
pub none_combines : (o : BinaryOp) (l r : Expr) (row : Row) → HasRow o l r row → NoneIs (IsLazy o l r) → NoneIs (ByRow row l r) → NoneIs (Combines o l r)
none_combines o l r row h no_lazy none _ (by_row other e i b) =
    let same : other ≡ row = binary_once (binary_of o) (type_of l) (type_of r) other row i h in
    none e (subst (λ (z : Row). ByRow z l r e) same b)
none_combines o l r row h no_lazy none _ (lazily k i) = no_lazy k i

pub nothing_combines : (o : BinaryOp) (l r : Expr) → NoneIs (HasRow o l r) → NoneIs (IsLazy o l r) → NoneIs (Combines o l r)
nothing_combines o l r no_row no_lazy _ (by_row row e i b) = no_row row i
nothing_combines o l r no_row no_lazy _ (lazily k i) = no_lazy k i

pub combined : {E : Type 0} (res : Result (Box code_expr.TExpr Global) E) (o : BinaryOp) (l r : Expr) (row : Row) → HasRow o l r row
    → IfOk res (λ e. ByRow row l r (view_expr e.value)) → IfOk res (λ e. Combines o l r (view_expr e.value))
combined res o l r row h i = IfOk-weaker res _ _ (λ e b. by_row row (view_expr e.value) h b) i

pub combining_refused : {T : Type 0} (res : Result T ExprFault) (o : BinaryOp) (l r : Expr) (row : Row) → HasRow o l r row → NoneIs (IsLazy o l r)
    → IfErr res (λ f. Refuses f (λ q. (q ≡ asked row) × NoneIs (ByRow row l r)))
    → IfErr res (λ f. Refuses f (λ q. CombiningClashes o l r q × NoneIs (Combines o l r)))
combining_refused res o l r row h no_lazy i =
    IfErr-weaker res _ _
    (λ f j. refuses_so f _ _ (λ q k. (subst (λ z. CombiningClashes o l r z) (sym k.0) (of_row row h), none_combines o l r row h no_lazy k.1)) j) i

pub combining_none : (f : ExprFault) (o : BinaryOp) (l r : Expr) → NoneIs (HasRow o l r) → NoneIs (IsLazy o l r)
    → Refuses f (λ q. q ≡ types_of l r) → Refuses f (λ q. CombiningClashes o l r q × NoneIs (Combines o l r))
combining_none f o l r no_row no_lazy i =
    refuses_so f _ _ (λ q e. (subst (λ z. CombiningClashes o l r z) (sym e) of_operands, nothing_combines o l r no_row no_lazy)) i

-- ---- before one operand

pub by_one_row_so : (row : OneRow) (e f x : Expr) → Settles row.operand e f → x ≡ applied_to row.operation row.result f → ByOneRow row e x
by_one_row_so row e f x h i = subst (λ z. ByOneRow row e z) (sym i) (as_one_asked f h)

pub operated : {E : Type 0} (res : Result (Box code_expr.TExpr Global) E) (defs : List Def) (o : UnaryOp) (e : Expr) (row : OneRow) → changes o ≡ false
    → HasOneRow defs o e row → IfOk res (λ x. ByOneRow row e (view_expr x.value)) → IfOk res (λ x. Operates defs o e (view_expr x.value))
operated res defs o e row c h i = IfOk-weaker res _ _ (λ x b. by_one_row row (view_expr x.value) c h b) i

none_operates : (defs : List Def) (o : UnaryOp) (e : Expr) (row : OneRow) → HasOneRow defs o e row → NoneIs (ByOneRow row e) → NoneIs (Operates defs o e)
none_operates defs o e row h none _ (by_one_row other x c i b) =
    none x (subst (λ (z : OneRow). ByOneRow z e x) (unary_once defs o (type_of e) other row i h) b)

nothing_operates : (defs : List Def) (o : UnaryOp) (e : Expr) → NoneIs (HasOneRow defs o e) → NoneIs (Operates defs o e)
nothing_operates defs o e no_row _ (by_one_row row x c i b) = no_row row i

changing : (defs : List Def) (o : UnaryOp) (e : Expr) → changes o ≡ true → NoneIs (Operates defs o e)
changing defs o e c _ (by_one_row row x d i b) = cc

pub operating_refused : {T : Type 0} (res : Result T ExprFault) (defs : List Def) (o : UnaryOp) (e : Expr) (row : OneRow) → HasOneRow defs o e row
    → IfErr res (λ f. Refuses f (λ q. (q ≡ asked_one row) × NoneIs (ByOneRow row e)))
    → IfErr res (λ f. Refuses f (λ q. OperandClashes (HasOneRow defs o e) e q × NoneIs (Operates defs o e)))
operating_refused res defs o e row h i =
    IfErr-weaker res _ _
    (λ f j. refuses_so f _ _
    (λ q k. (subst (λ z. OperandClashes (HasOneRow defs o e) e z) (sym k.0) (of_its_row row h), none_operates defs o e row h k.1)) j) i

pub operating_none : (f : ExprFault) (defs : List Def) (o : UnaryOp) (e : Expr) → NoneIs (HasOneRow defs o e)
    → Refuses f (λ q. q ≡ types_of e e) → Refuses f (λ q. OperandClashes (HasOneRow defs o e) e q × NoneIs (Operates defs o e))
operating_none f defs o e no_row i =
    refuses_so f _ _ (λ q k. (subst (λ z. OperandClashes (HasOneRow defs o e) e z) (sym k) of_operand, nothing_operates defs o e no_row)) i

pub operating_changes : (f : ExprFault) (defs : List Def) (o : UnaryOp) (e : Expr) → changes o ≡ true
    → Refuses f (λ q. q ≡ types_of e e) → Refuses f (λ q. OperandClashes (HasOneRow defs o e) e q × NoneIs (Operates defs o e))
operating_changes f defs o e c i =
    refuses_so f _ _ (λ q k. (subst (λ z. OperandClashes (HasOneRow defs o e) e z) (sym k) of_operand, changing defs o e c)) i

-- ---- array of byte

bytes_once : (t : Ty) (r s : OneRow) → BytesRow t r → BytesRow t s → r ≡ s
bytes_once t _ _ (text_bytes _ h) (text_bytes _ i) = refl

pub bytes_made : {E : Type 0} (res : Result (Box code_expr.TExpr Global) E) (e : Expr) (row : OneRow) → HasBytesRow e row
    → IfOk res (λ x. ByOneRow row e (view_expr x.value)) → IfOk res (λ x. BytesOf e (view_expr x.value))
bytes_made res e row h i = IfOk-weaker res _ _ (λ x b. by_bytes_row row (view_expr x.value) h b) i

none_bytes : (e : Expr) (row : OneRow) → HasBytesRow e row → NoneIs (ByOneRow row e) → NoneIs (BytesOf e)
none_bytes e row h none _ (by_bytes_row other x i b) =
    none x (subst (λ (z : OneRow). ByOneRow z e x) (bytes_once (type_of e) other row i h) b)

nothing_bytes : (e : Expr) → NoneIs (HasBytesRow e) → NoneIs (BytesOf e)
nothing_bytes e no_row _ (by_bytes_row row x i b) = no_row row i

pub bytes_refused : {T : Type 0} (res : Result T ExprFault) (e : Expr) (row : OneRow) → HasBytesRow e row
    → IfErr res (λ f. Refuses f (λ q. (q ≡ asked_one row) × NoneIs (ByOneRow row e)))
    → IfErr res (λ f. Refuses f (λ q. OperandClashes (HasBytesRow e) e q × NoneIs (BytesOf e)))
bytes_refused res e row h i =
    IfErr-weaker res _ _
    (λ f j. refuses_so f _ _ (λ q k. (subst (λ z. OperandClashes (HasBytesRow e) e z) (sym k.0) (of_its_row row h), none_bytes e row h k.1)) j) i

pub bytes_none : (f : ExprFault) (e : Expr) → NoneIs (HasBytesRow e)
    → Refuses f (λ q. q ≡ types_of e e) → Refuses f (λ q. OperandClashes (HasBytesRow e) e q × NoneIs (BytesOf e))
bytes_none f e no_row i =
    refuses_so f _ _ (λ q k. (subst (λ z. OperandClashes (HasBytesRow e) e z) (sym k) of_operand, nothing_bytes e no_row)) i

-- ---- one expression at most

row_once : (row : Row) (l r e f : Expr) → ByRow row l r e → ByRow row l r f → e ≡ f
row_once row l r _ _ (as_asked a b h i) (as_asked c d j k) =
    ap (λ z. applied row.operation row.result z b) (settled_once row.left l a c h j)
    ∙ ap (λ z. applied row.operation row.result c z) (settled_once row.right r b d i k)

one_row_once : (row : OneRow) (e f g : Expr) → ByOneRow row e f → ByOneRow row e g → f ≡ g
one_row_once row e _ _ (as_one_asked a h) (as_one_asked b i) =
    ap (λ z. applied_to row.operation row.result z) (settled_once row.operand e a b h i)

-- no operator is lazy and has a row too
no_lazy_row : (c : Connective) (row : Row) → BinaryRow (binary.Lazy c) Int Int row → ⊥
no_lazy_row c row h = let f : None ≡ Some row = binary_found (binary.Lazy c) Int Int row h in cc

apart : (b : Binary) (t u : Ty) (row : Row) (k : Connective) → BinaryRow b t u row → LazyRow b t u k → ⊥
apart _ _ _ row k h (ints c) = no_lazy_row c row h

lazy_once : (b : Binary) (t u : Ty) (k m : Connective) → LazyRow b t u k → LazyRow b t u m → k ≡ m
lazy_once b t u k m h i = let f : Some k ≡ Some m = sym (lazy_found b t u k h) ∙ lazy_found b t u m i in cc

pub combined_once : (o : BinaryOp) (l r e f : Expr) → Combines o l r e → Combines o l r f → e ≡ f
combined_once o l r _ _ (by_row row e h b) (by_row other f i d) =
    row_once row l r e f b
    (subst (λ (z : Row). ByRow z l r f) (binary_once (binary_of o) (type_of l) (type_of r) other row i h) d)
combined_once o l r _ _ (by_row row e h b) (lazily k i) = absurd (apart (binary_of o) (type_of l) (type_of r) row k h i)
combined_once o l r _ _ (lazily k i) (by_row row e h b) = absurd (apart (binary_of o) (type_of l) (type_of r) row k h i)
combined_once o l r _ _ (lazily k i) (lazily m j) = ap (λ z. lazy z l r) (lazy_once (binary_of o) (type_of l) (type_of r) k m i j)

pub operated_once : (defs : List Def) (o : UnaryOp) (e f g : Expr) → Operates defs o e f → Operates defs o e g → f ≡ g
operated_once defs o e _ _ (by_one_row row f c h b) (by_one_row other g d i k) =
    one_row_once row e f g b (subst (λ (z : OneRow). ByOneRow z e g) (unary_once defs o (type_of e) other row i h) k)

pub bytes_are_once : (e f g : Expr) → BytesOf e f → BytesOf e g → f ≡ g
bytes_are_once e _ _ (by_bytes_row row f h b) (by_bytes_row other g i k) =
    one_row_once row e f g b (subst (λ (z : OneRow). ByOneRow z e g) (bytes_once (type_of e) other row i h) k)
