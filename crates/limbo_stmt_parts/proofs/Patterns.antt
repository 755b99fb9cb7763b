-- What the loops and the calls that read heads need of readers: a pattern takes a token, and a fault says that there is no head.
use Rattle.std.proofs.Common.{◌≡◌, ℕ, ◌+◌, ◌≤◌, ◌<◌, Bool, List, [], ◌∷◌, length, Result, Ok, Err, refl, arith}
use Rattle.limbo_lexer.specs.declared.token.Kind.{Kind}
use Rattle.limbo_lexer.specs.declared.token.Kind.TheVariants as kind
use Rattle.limbo_lexer.specs.declared.token.Mark.TheVariants as mark
use Rattle.limbo_lexer.specs.declared.token.Key.TheVariants as key
use Rattle.limbo_tree.specs.Stmts.{Head, Pattern, HandlerPattern}
use Rattle.limbo_reading.specs.declared.fault.Fault.{Fault}
use Rattle.limbo_reading.specs.declared.fault.Fault.TheVariants.{Syntax, TooDeep}
use Rattle.limbo_reading.specs.declared.fault.ReadError.{ReadError}
use Rattle.limbo_reading.specs.declared.fault.ReadError.TheVariants as errors
use Rattle.limbo_reading.specs.Reading.{after_key, Fails, Gives}
use Rattle.limbo_reading.proofs.Steps.{Keeps, keeps_bind, keeps_choose, after_key_length, kept_shorter}
use Rattle.limbo_expr_parser.specs.Exprs.{readers}
use Rattle.limbo_expr_parser.proofs.Laws.{expr_keeps}
use Rattle.limbo_stmt_parts.specs.Heads.{star_alone, case_pattern_at, handler_pattern_at, is_read, no_head}
use Rattle.limbo_stmt_parts.proofs.Fronts.{star_length}

-- a reader of fewer tokens, where a fault of depth stands behind fewer of them or before more
pub keeps_to : {A : Type 0} (b p c d m n : ℕ) (r : Result (A × List Kind) Fault) → Keeps b c m r → m + d ≤ n + c → p + m ≤ b + n → Keeps p d n r
keeps_to b p c d m n (Ok x) h le up = omega arith
keeps_to b p c d m n (Err (Syntax k)) h le up = tt
keeps_to b p c d m n (Err (TooDeep k)) h le up = omega arith

pub pattern_keeps : (b : ℕ) (ts : List Kind) → Keeps b 1 (length ts) (case_pattern_at b ts)
pattern_keeps b ts =
    keeps_choose b 1 (length ts) (star_alone ts) _ _
    (λ n. keeps_bind b 1 0 1 (length ts) ((readers b).expr ts) _ (expr_keeps b ts) (λ e h.
    keeps_choose b 0 (length e.1) (after_key key.To e.1) _ _ (λ k. omega arith) λ us k.
    keeps_to b b 1 0 (length us) (length e.1) _
    (keeps_bind b 1 0 1 (length us) ((readers b).expr us) _ (expr_keeps b us) (λ f i. omega arith) (omega arith))
    (omega (arith, after_key_length key.To e.1 us k)) (omega (arith, after_key_length key.To e.1 us k))) (omega arith))
    (λ us e. omega (arith, star_length ts us e))

pub handler_pattern_keeps : (b : ℕ) (ts : List Kind) → Keeps b 1 (length ts) (handler_pattern_at ts)
handler_pattern_keeps b [] = tt
handler_pattern_keeps b (kind.Chars s ∷ ts) = omega arith
handler_pattern_keeps b (kind.Name n ∷ ts) = omega arith
handler_pattern_keeps b (kind.Mark mark.Star ∷ ts) = omega arith
handler_pattern_keeps b (kind.Mark _ ∷ ts) = tt
handler_pattern_keeps b (_ ∷ ts) = tt

pub pattern_shorter : (b : ℕ) (ts : List Kind) (p : Pattern) (us : List Kind) → case_pattern_at b ts ≡ Ok (p, us) → length us < length ts
pattern_shorter b ts p us e = omega (arith, kept_shorter b 1 (length ts) (case_pattern_at b ts) p us (pattern_keeps b ts) e)

pub handler_pattern_shorter : (ts : List Kind) (p : HandlerPattern) (us : List Kind) → handler_pattern_at ts ≡ Ok (p, us) → length us < length ts
handler_pattern_shorter ts p us e = omega (arith, kept_shorter 0 1 (length ts) (handler_pattern_at ts) p us (handler_pattern_keeps 0 ts) e)

-- what a head that isn't read tells
pub headless : (e : ReadError) (r : Result (Head × List Kind) Fault) → Fails e r → Gives (λ (x : Bool). x) (no_head e) (is_read r)
headless errors.NoMemory r f = tt
headless (errors.Fault (Syntax n)) r f = rw f refl
headless (errors.Fault (TooDeep n)) r f = rw f refl
