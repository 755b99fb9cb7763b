-- What operands and conditions are, by the forms that have code of their own.
use Rattle.std.specs.Prelude.{ℕ, ◌+◌, ◌≡◌, Bool, true, false}
use Rattle.limbo_typed.specs.declared.operation.Operation.TheVariants as operation
use Rattle.limbo_typed.specs.declared.operation.Connective.{Connective}
use Rattle.limbo_typed.specs.declared.operation.Connective.TheVariants as connective
use Rattle.limbo_typed.specs.View.{view_expr}
use Rattle.typed_meaning.specs.Trees.{Term, Apply, Lazy, Terms, NoTerms, MoreTerms}
use Rattle.typed_meaning.specs.Program.{term_of}
use Rattle.typed_lower.specs.Kinds.{kind_in, leaf}
use Rattle.typed_lower.specs.Terms.{branches, tested}
use Rattle.slot_writing.specs.declared.conditions.Operands.{Operands}
use Rattle.slot_writing.specs.declared.conditions.Operands.TheVariants as operands
use Rattle.slot_writing.specs.declared.conditions.Condition.{Condition}
use Rattle.slot_writing.specs.declared.conditions.Condition.TheVariants as condition
use Rattle.slot_writing.specs.Operands.{ready_at}

-- neither one term nor two
abbrev pub IsOther : Terms → Type 0
IsOther (MoreTerms t NoTerms) = ⊥
IsOther (MoreTerms t (MoreTerms u NoTerms)) = ⊥
IsOther ts = Unit {0}

abbrev pub AreOperands : Operands → Terms → Type 0
AreOperands (operands.One e) ts = ts ≡ MoreTerms (term_of (view_expr e.now)) NoTerms
AreOperands (operands.Two l r) ts = ts ≡ MoreTerms (term_of (view_expr l.now)) (MoreTerms (term_of (view_expr r.now)) NoTerms)
AreOperands operands.Other ts = IsOther ts

-- a condition whose value is tested
abbrev pub IsTested : Term → Type 0
IsTested t = (w : Bool) (d n : ℕ) → branches w d t n ≡ tested w (kind_in t) (ready_at d t (leaf t)) n

abbrev pub IsCondition : Condition → Term → Type 0
IsCondition (condition.Connected c l r) t = t ≡ Lazy c (term_of (view_expr l.now)) (term_of (view_expr r.now))
IsCondition (condition.Compared o k l r) t =
    t ≡ Apply (operation.Compare o k) (MoreTerms (term_of (view_expr l.now)) (MoreTerms (term_of (view_expr r.now)) NoTerms))
IsCondition condition.Tested t = IsTested t

-- Where a connective's left operand decides, and how many instructions are passed there: with so many in the right operand's code, and so
-- many behind it that are passed where the whole holds, or where it doesn't.
abbrev pub decides : Connective → Bool
decides connective.And = false
decides connective.Or = true

abbrev pub passed : Connective → (where_true : Bool) → (right passes : ℕ) → ℕ
passed connective.And true m n = m
passed connective.And false m n = m + n
passed connective.Or true m n = m + n
passed connective.Or false m n = m
