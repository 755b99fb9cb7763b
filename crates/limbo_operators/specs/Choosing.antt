-- The rows of the table as functions; that they give the rows that the table has is proved of them.
use Rattle.std.specs.Prelude.{Bool, true, false, [], ◌∷◌, Option, None, Some, ◌&&◌, ◌==◌, if◌then◌else◌}
use Rattle.limbo_values.specs.declared.operator.Operator.{Operator}
use Rattle.limbo_values.specs.declared.operator.Operator.TheVariants as operator
use Rattle.limbo_values.specs.declared.operator.Shift.{Shift}
use Rattle.limbo_values.specs.declared.operator.Comparison.{Comparison}
use Rattle.limbo_values.specs.declared.operator.Comparison.TheVariants as comparison
use Rattle.limbo_types.specs.Types.{Ty, Int, Chars, Nil, ListOf}
use Rattle.limbo_types.specs.Same.{same}
use Rattle.limbo_tree.specs.declared.operators.AssignOp.{AssignOp}
use Rattle.limbo_typed.specs.declared.operation.Operation.{Operation}
use Rattle.limbo_typed.specs.declared.operation.Operation.TheVariants as op
use Rattle.limbo_typed.specs.declared.operation.Connective.{Connective}
use Rattle.limbo_typed.specs.Fitting.{of_kind}
use Rattle.limbo_operators.specs.declared.signs.Binary.{Binary}
use Rattle.limbo_operators.specs.declared.signs.Binary.TheVariants as binary
use Rattle.limbo_forms.specs.Forms.{kind_of, same_kind, is_int, is_nil, is_text, is_reference}
use Rattle.limbo_forms.specs.Forms.{is_channel, ref_of, item_of, is_settled}
use Rattle.limbo_standing.specs.Joining.{joined}
use Rattle.limbo_forms.specs.Forms.{choose}
use Rattle.limbo_operators.specs.Rows.{Row, row, updating}

abbrev pub is_add : Operator → Bool
is_add operator.Add = true
is_add _ = false

abbrev pub numbers : Operator → Ty → Ty → Option Row
numbers o t u = choose (same_kind t u) None (λ k. Some (row (of_kind k) (of_kind k) (op.Arithmetic o k) (of_kind k)))

abbrev pub arithmetic_row : Operator → Ty → Ty → Option Row
arithmetic_row o t u = if is_text t && (is_text u && is_add o) then Some (row Chars Chars op.Join Chars) else numbers o t u

abbrev pub shift_row : Shift → Ty → Ty → Option Row
shift_row s t u = choose (kind_of t) None (λ k. if is_int u then Some (row (of_kind k) Int (op.Shift s k) (of_kind k)) else None)

-- `==` and `!=`, as they compare references
abbrev pub identifying : Comparison → Option Operation
identifying comparison.Equal = Some op.Identical
identifying comparison.Unequal = Some op.Distinct
identifying _ = None

abbrev pub are_like : Ty → Ty → Bool
are_like t u = choose (ref_of t) (is_channel t && same t u) (λ n. choose (ref_of u) false (λ m. m == n))

-- a reference that can be compared with `nil`
abbrev pub may_be_nil : Ty → Bool
may_be_nil t = is_reference t && is_settled t

abbrev pub reference_row : Operation → Ty → Ty → Option Row
reference_row o t u =
    if is_nil u then if may_be_nil t then Some (row t t o Int) else None
    else if is_nil t then if may_be_nil u then Some (row u u o Int) else None
    else if are_like t u then Some (row t u o Int)
    else None

abbrev pub is_order : Comparison → Bool
is_order comparison.Equal = false
is_order comparison.Unequal = false
is_order _ = true

-- of two that are strings or open `nil`s, one is to be a string for `==` and `!=`
abbrev pub text_row : Comparison → Ty → Ty → Option Row
text_row c t u =
    if is_order c then Some (row Chars Chars (op.CompareChars c) Int)
    else if is_nil t && is_nil u then None
    else Some (row Chars Chars (op.CompareChars c) Int)

abbrev pub compare_row : Comparison → Ty → Ty → Option Row
compare_row c t u =
    if is_text t && is_text u then text_row c t u
    else choose (kind_of t) (choose (identifying c) None (λ o. reference_row o t u))
    (λ k. if same t u then Some (row (of_kind k) (of_kind k) (op.Compare c k) Int) else None)

abbrev pub cons_of : Ty → Ty → Ty → Row
cons_of t u j = if is_settled j then row j (ListOf j) op.Cons (ListOf j) else row t u op.Cons (ListOf Nil)

abbrev pub cons_row : Ty → Ty → Option Row
cons_row t u = choose (item_of u) None (λ i. choose (joined None (t ∷ i ∷ [])) None (λ j. Some (cons_of t u j)))

abbrev pub binary_row : Binary → Ty → Ty → Option Row
binary_row (binary.Arithmetic o) t u = arithmetic_row o t u
binary_row (binary.Shift s) t u = shift_row s t u
binary_row (binary.Compare c) t u = compare_row c t u
binary_row binary.Cons t u = cons_row t u
binary_row (binary.Lazy c) t u = None

abbrev pub lazy_row : Binary → Ty → Ty → Option Connective
lazy_row (binary.Lazy c) t u = if is_int t && is_int u then Some c else None
lazy_row (binary.Arithmetic o) t u = None
lazy_row (binary.Shift s) t u = None
lazy_row (binary.Compare c) t u = None
lazy_row binary.Cons t u = None

-- a row whose left operand and whose result have this type
abbrev pub into_place : Ty → Row → Option Row
into_place place r = if same r.left place && same r.result place then Some r else None

abbrev pub update_row : AssignOp → Ty → Ty → Option Row
update_row o place value = choose (updating o) None (λ b. choose (binary_row b place value) None (λ r. into_place place r))
