-- Further steps of laws: tables of first tokens, signs that stop, and faults of depth one nesting further in.
use Rattle.std.proofs.Common.{◌≡◌, ℕ, suc, ◌+◌, ◌≤◌, Bool, true, false, ◌&&◌, cond, List, [], ◌∷◌, length, Option, Some, None, Result, Ok, Err, refl, ap, subst, arith, inl, inr}
use Rattle.std.specs.Prelude.{IfOk}
use Rattle.limbo_lexer.specs.declared.token.Kind.{Kind}
use Rattle.limbo_lexer.specs.declared.token.Mark.{Mark}
use Rattle.limbo_reading.specs.declared.fault.Fault.{Fault}
use Rattle.limbo_reading.specs.declared.fault.Fault.TheVariants.{Syntax, TooDeep}
use Rattle.limbo_reading.specs.Reading.{◌>>=◌, choose, after_mark}
use Rattle.limbo_reading.proofs.Steps.{tell, after_mark_is, Keeps}
use Rattle.limbo_expr_parts.specs.Front.{front}
use Rattle.limbo_expr_parts.specs.Strength.{strength_of, Stops}

pub some_same : {A : Type 0} (x y : A) → Some x ≡ Some y → x ≡ y
some_same x y e = cc

pub if_some : {A : Type 0} (b : Bool) (x y : A) → cond b (Some x) None ≡ Some y → (b ≡ true) × (x ≡ y)
if_some true x y e = (refl, cc)
if_some false x y e = absurd cc

pub and_true : (a b : Bool) → (a && b) ≡ true → (a ≡ true) × (b ≡ true)
and_true true true e = (refl, refl)
and_true true false e = absurd cc
and_true false b e = absurd cc

-- ---- tables of first tokens

pub record FrontIs {A : Type 0} (table : Kind → Option A) (ts : List Kind) (x : A × List Kind) : Type 0 where
  pub first : Kind
  pub parts : ts ≡ first ∷ x.1
  pub stands : table first ≡ Some x.0

pub front_is : {A : Type 0} (table : Kind → Option A) (ts : List Kind) (x : A × List Kind) → front table ts ≡ Some x → FrontIs table ts x
front_is table [] x e = absurd cc
front_is table (t ∷ ts) x e = go (table t) refl e
  where
    go : (o : Option _) → table t ≡ o → choose o None (λ y. Some (y, ts)) ≡ Some x → FrontIs table (t ∷ ts) x
    go None is f = absurd cc
    go (Some y) is f = record { first = t; parts = let same = some_same (y, ts) x f in cc; stands = let same = some_same (y, ts) x f in cc }

pub front_length : {A : Type 0} (table : Kind → Option A) (ts : List Kind) (x : A × List Kind) → front table ts ≡ Some x → length x.1 + 1 ≡ length ts
front_length table ts x e = omega (arith, ap length (front_is table ts x e).parts)

-- ---- signs that stop

pub stops_mark : (m : Mark) (k : ℕ) (ts : List Kind) → strength_of m ≤ k → Stops k ts → after_mark m ts ≡ None
stops_mark m k ts le s = elim (tell (after_mark m ts)) [
  | inr e ↦ e
  | inl (us, e) ↦ let h = subst (Stops k) (after_mark_is m ts us e) s in absurd (omega arith)
]

-- ---- faults of depth

-- behind a token, within one nesting more
pub keeps_in : {A : Type 0} (b c d m n : ℕ) (r : Result (A × List Kind) Fault) → Keeps b c m r → m + 1 ≤ n → d ≤ c + 1 → Keeps (suc b) d n r
keeps_in b c d m n (Ok x) h le up = omega arith
keeps_in b c d m n (Err (Syntax k)) h le up = tt
keeps_in b c d m n (Err (TooDeep k)) h le up = omega arith

-- with what else is known of an answer
pub keeps_took : {A B : Type 0} (b c d e n : ℕ) (r : Result (A × List Kind) Fault) (k : A × List Kind → Result (B × List Kind) Fault) (P : A × List Kind → Type 0) → IfOk r P → Keeps b c n r → ((x : A × List Kind) → P x → length x.1 + c ≤ n → Keeps b e n (k x)) → Keeps b e n (r >>= k)
keeps_took b c d e n (Ok x) k P p h f = f x p h
keeps_took b c d e n (Err (Syntax m)) k P p h f = tt
keeps_took b c d e n (Err (TooDeep m)) k P p h f = h

-- ---- what an answer has, of two kinds, or of none

pub took_both : {A : Type 0} (r : Result A Fault) (P Q : A → Type 0) → IfOk r P → IfOk r Q → IfOk r (λ x. P x × Q x)
took_both (Ok x) P Q p q = (p, q)
took_both (Err f) P Q p q = tt

pub took_any : {A : Type 0} (r : Result A Fault) → IfOk r (λ x. Unit {0})
took_any (Ok x) = tt
took_any (Err f) = tt

pub took_is : {A : Type 0} (r : Result A Fault) (P : A → Type 0) (x : A) → IfOk r P → r ≡ Ok x → P x
took_is r P x p e = subst (λ (y : Result _ Fault). IfOk y P) e p

pub took_first : {A : Type 0} (P Q : A → Type 0) (r : Result A Fault) → IfOk r (λ x. P x × Q x) → IfOk r P
took_first P Q (Ok x) t = t.0
took_first P Q (Err f) t = tt
