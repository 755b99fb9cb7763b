-- The reader of adts, of a budget that is not used up, and of one that is.
use Rattle.std.proofs.Common.{◌≡◌, ℕ, zero, suc, ◌-◌, List, length, Err, refl, arith}
use Rattle.limbo_lexer.specs.declared.token.Kind.{Kind}
use Rattle.limbo_reading.specs.declared.fault.Fault.TheVariants.{TooDeep}
use Rattle.limbo_decl_parser.specs.Decls.{adt_at, adt_of_at, member_at}

pub adt_used : (n : ℕ) (ts : List Kind) → n ≡ 0 → adt_at n ts ≡ Err (TooDeep (length ts))
unfolding adt_at
adt_used zero ts h = refl
adt_used (suc n) ts h = absurd (omega arith)

pub adt_left : (n : ℕ) (ts : List Kind) → (n ≡ 0 → ⊥) → adt_at n ts ≡ adt_of_at (member_at (n - 1)) (n - 1) ts
unfolding adt_at member_at
adt_left zero ts h = absurd (h refl)
adt_left (suc n) ts h = let e : suc n - 1 ≡ n = omega arith in rw e refl

pub ruleset the_budget = (adt_used, adt_left)
