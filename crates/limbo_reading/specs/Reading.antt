-- Reading from left to right, with the first fault that is met.
use Rattle.std.specs.Prelude.{◌≡◌, ℕ, List, [], ◌∷◌, length, map, Bool, true, false, Option, Some, None, Result, Ok, Err, if◌then◌else◌}
use Rattle.limbo_lexer.specs.declared.token.Token.{Token}
use Rattle.limbo_lexer.specs.declared.token.Kind.{Kind}
use Rattle.limbo_lexer.specs.declared.token.Kind.TheVariants as kind
use Rattle.limbo_lexer.specs.declared.token.Mark.{Mark}
use Rattle.limbo_lexer.specs.declared.token.Key.{Key}
use Rattle.limbo_lexer.specs.contracts.token.Mark as the_mark
use Rattle.limbo_lexer.specs.contracts.token.Key as the_key
use denote.Enum.Bare.{sameb}
use Rattle.inf_text.specs.Steps as steps
pub use Rattle.inf_text.specs.Steps.{◌>>=◌, choose}
use Rattle.limbo_reading.specs.declared.fault.Fault.{Fault}
use Rattle.limbo_reading.specs.declared.fault.Fault.TheVariants.{Syntax, TooDeep}
use Rattle.limbo_reading.specs.declared.fault.ReadError.{ReadError}
use Rattle.limbo_reading.specs.declared.fault.ReadError.TheVariants as errors

-- tokens without where they stand
abbrev pub kinds : List Token → List Kind
kinds tokens = map (λ t. t.kind) tokens

-- what reads the front of a list of tokens: a value and the rest, or the first fault
abbrev pub Reader : Type 0 → Type 0
Reader A = List Kind → Result (A × List Kind) Fault

abbrev pub same_mark : Mark → Mark → Bool
same_mark a b = sameb the_mark.the_type a b

abbrev pub same_key : Key → Key → Bool
same_key a b = sameb the_key.the_type a b

-- what stands behind the sign, where it is the first token
abbrev pub after_mark : Mark → List Kind → Option (List Kind)
after_mark m (kind.Mark n ∷ ts) = if same_mark n m then Some ts else None
after_mark m _ = None

-- what stands behind the keyword, where it is the first token
abbrev pub after_key : Key → List Kind → Option (List Kind)
after_key k (kind.Key l ∷ ts) = if same_key l k then Some ts else None
after_key k _ = None

-- the name that is the first token
abbrev pub after_name : List Kind → Option (List ℕ × List Kind)
after_name (kind.Name n ∷ ts) = Some (n, ts)
after_name _ = None

abbrev pub expect_mark : Mark → List Kind → Result (List Kind) Fault
expect_mark m ts = choose (after_mark m ts) (Err (Syntax (length ts))) λ rest. Ok rest

abbrev pub expect_key : Key → List Kind → Result (List Kind) Fault
expect_key k ts = choose (after_key k ts) (Err (Syntax (length ts))) λ rest. Ok rest

abbrev pub expect_name : Reader (List ℕ)
expect_name ts = choose (after_name ts) (Err (Syntax (length ts))) λ x. Ok x

-- the fault that an error tells, if it isn't want of memory
abbrev pub fault_of : ReadError → Option Fault
fault_of errors.NoMemory = None
fault_of (errors.Fault f) = Some f

-- What a function returned, seen by view, is what reading gives, unless memory ran out.
abbrev pub Fails : {Y : Type 0} → ReadError → Result Y Fault → Type 0
Fails e read = steps.Refuses (fault_of e) read

abbrev pub Gives : {X Y : Type 0} → (X → Y) → Result X ReadError → Result Y Fault → Type 0
Gives see result read = steps.Gives fault_of see result read
