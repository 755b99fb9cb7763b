-- The clauses of `parse`, from what reading gives.
use Rattle.std.proofs.Common.{◌≡◌, ◌≢◌, ℕ, suc, ◌≤◌, ◌<◌, ◌+◌, ◌-◌, Bool, arith, List, [], ◌∷◌, length, Result, Ok, Err, ◌⊎◌, inl, inr, refl}
use Rattle.std.specs.Prelude.{IfOk, IfErr, MatchResult}
use Rattle.limbo_lexer.specs.declared.token.Token.{Token}
use Rattle.limbo_lexer.specs.declared.token.Kind.{Kind}
use Rattle.limbo_tree.specs.declared.source.Source as code_source
use Rattle.limbo_tree.specs.Sources.{Source, IsTree, source_nesting}
use Rattle.limbo_tree.specs.View.{view_source}
use Rattle.limbo_reading.specs.declared.fault.Fault.TheVariants.{Syntax, TooDeep}
use Rattle.limbo_reading.specs.declared.fault.ReadError.{ReadError}
use Rattle.limbo_reading.specs.declared.fault.ReadError.TheVariants as errors
use Rattle.limbo_reading.specs.Reading.{kinds, Gives}
use Rattle.limbo_parser.specs.declared.tree.ParseFault.TheVariants as refusal
use Rattle.limbo_parser.specs.Sources.{tree_at}
use Rattle.limbo_parser.specs.Parsing.{told}
use Rattle.limbo_parser.proofs.Keeps.{KeepsAll, tree_keeps}
use Rattle.limbo_parser.proofs.Trees.{tree_took, tree_again, none_at_all}

abbrev Read : Bool → List Kind → Result code_source.Source ReadError → Type 0
Read i ts r = Gives view_source r (tree_at 256 i ts)

pub is_found : (i : Bool) (ts : List Kind) (n : ℕ) (r : Result code_source.Source ReadError) → Read i ts r → IfOk (told r n) (λ s. IsTree i ts (view_source s) × (source_nesting (view_source s) ≤ 256))
is_found i ts k (Ok s) g = rw g at (tree_took 256 i ts)
is_found i ts k (Err errors.NoMemory) g = tt
is_found i ts k (Err (errors.Fault (Syntax n))) g = tt
is_found i ts k (Err (errors.Fault (TooDeep n))) g = tt

pub is_only : (i : Bool) (ts : List Kind) (n : ℕ) (r : Result code_source.Source ReadError) → Read i ts r → (s : Source) → IsTree i ts s → source_nesting s ≤ 256 → MatchResult (told r n) (λ x. view_source x ≡ s) (λ e. e ≡ refusal.NoMemory)
is_only i ts k (Ok x) g s t d = let h = tree_again 256 i ts s t d in cc
is_only i ts k (Err errors.NoMemory) g s t d = refl
is_only i ts k (Err (errors.Fault (Syntax n))) g s t d = let h = tree_again 256 i ts s t d in absurd cc
is_only i ts k (Err (errors.Fault (TooDeep n))) g s t d = let h = tree_again 256 i ts s t d in absurd cc

pub is_refused : (i : Bool) (ts : List Kind) (n : ℕ) (r : Result code_source.Source ReadError) → Read i ts r → IfErr (told r n) (λ e. e ≢ refusal.NoMemory → (s : Source) → IsTree i ts s → source_nesting s ≤ 256 → ⊥)
is_refused i ts k (Ok x) g = tt
is_refused i ts k (Err errors.NoMemory) g = λ n s t d. absurd (n refl)
is_refused i ts k (Err (errors.Fault (Syntax n))) g = λ m s t d. let h = tree_again 256 i ts s t d in absurd cc
is_refused i ts k (Err (errors.Fault (TooDeep n))) g = λ m s t d. let h = tree_again 256 i ts s t d in absurd cc

pub is_syntax : (i : Bool) (ts : List Kind) (n : ℕ) (r : Result code_source.Source ReadError) → Read i ts r → (token : ℕ) → told r n ≡ Err (refusal.Syntax token) → (s : Source) → IsTree i ts s → ⊥
is_syntax i ts k (Ok x) g n e s t = absurd cc
is_syntax i ts k (Err errors.NoMemory) g n e s t = absurd cc
is_syntax i ts k (Err (errors.Fault (Syntax m))) g n e s t = none_at_all 256 m i ts g s t
is_syntax i ts k (Err (errors.Fault (TooDeep m))) g n e s t = absurd cc

deep_at : (n m token : ℕ) → m + 257 ≤ n → told (Err (errors.Fault (TooDeep m))) n ≡ Err (refusal.TooDeep token) → 256 < token
deep_at n m token h e = let q : n - m ≡ token = cc in omega arith

pub is_deep : (i : Bool) (ts : List Kind) (n : ℕ) (r : Result code_source.Source ReadError) → Read i ts r → n ≡ length ts → (token : ℕ) → told r n ≡ Err (refusal.TooDeep token) → 256 < token
is_deep i ts k (Ok x) g l n e = absurd cc
is_deep i ts k (Err errors.NoMemory) g l n e = absurd cc
is_deep i ts k (Err (errors.Fault (Syntax m))) g l n e = absurd cc
is_deep i ts k (Err (errors.Fault (TooDeep m))) g l n e =
    let kept : KeepsAll (suc 255 + 1) (length ts) (tree_at 256 i ts) = tree_keeps 255 i ts in
    let h : m + (suc 255 + 1) ≤ length ts = rw g at kept in
    deep_at k m n (omega arith) e

pub kinds_length : (ts : List Token) → length ts ≡ length (kinds ts)
kinds_length [] = refl
kinds_length (t ∷ ts) = omega (arith, kinds_length ts)

-- the token of a fault stands among the tokens, or behind the last
pub is_within : (n : ℕ) (r : Result code_source.Source ReadError) (token : ℕ) → (told r n ≡ Err (refusal.Syntax token)) ⊎ (told r n ≡ Err (refusal.TooDeep token)) → token ≤ n
is_within n (Ok x) token (inl e) = absurd cc
is_within n (Ok x) token (inr e) = absurd cc
is_within n (Err errors.NoMemory) token (inl e) = absurd cc
is_within n (Err errors.NoMemory) token (inr e) = absurd cc
is_within n (Err (errors.Fault (Syntax m))) token (inl e) = let q : n - m ≡ token = cc in omega arith
is_within n (Err (errors.Fault (Syntax m))) token (inr e) = absurd cc
is_within n (Err (errors.Fault (TooDeep m))) token (inl e) = absurd cc
is_within n (Err (errors.Fault (TooDeep m))) token (inr e) = let q : n - m ≡ token = cc in omega arith
