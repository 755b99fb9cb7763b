-- The same as tests, between the rules and the code.
use Rattle.std.specs.Prelude.{ℕ, zero, suc, ◌≡◌, ◌≤◌, ◌^◌, Bool, true, false, not, ◌&&◌, ◌||◌, nat_eq}
use Rattle.std.specs.Prelude.{List, [], ◌∷◌, length, Option, None, Some, slice_get}
use Rattle.limbo_types.specs.Types.{Ty}
use Rattle.limbo_layout.specs.Adts.{Def}
use Rattle.limbo_forms.specs.Forms.{ref_of, choose}
use Rattle.limbo_typed.specs.declared.stmt.CasePattern.{CasePattern}
use Rattle.limbo_typed.specs.declared.stmt.CasePattern.TheVariants as case
use Rattle.limbo_typed.specs.Sound.{type_of}
use Rattle.limbo_typed.specs.Typed.{PickHead, Stmt, Stmts, NoStmts, MoreStmts, Bodies, NoBodies, MoreBodies}
use Rattle.limbo_typed.specs.Typed.{Empty, Block, Declare, Eval, If, While, Do, For, Case, Alt, Pick, Break, Continue, Spawn, Handle}
use Rattle.limbo_paths.specs.declared.jumps.Jump.{Jump}
use Rattle.limbo_paths.specs.declared.jumps.Jump.TheVariants as jump
use Rattle.limbo_paths.specs.Paths.{Way, Breaks, Continues}

abbrev pub way : Jump → ℕ → Way
way jump.Break n = Breaks n
way jump.Continue n = Continues n

abbrev pub is_break : Jump → Bool
is_break jump.Break = true
is_break jump.Continue = false

-- How far out a loop or branch stands: `None` is further than any jump goes, whose number has 32 bits.
abbrev pub IsLevel : Option ℕ → ℕ → Type 0
IsLevel (Some level) n = n ≡ level
IsLevel None n = 2 ^ 32 ≤ n

-- a statement is a jump to the loop or branch n
abbrev pub jumps : Jump → ℕ → Stmt → Bool
jumps j n (Break m) = is_break j && nat_eq m n
jumps j n (Continue m) = not (is_break j) && nat_eq m n
jumps j n _ = false

-- a jump to the loop or branch n stands in a statement
abbrev mutual
  pub has : Jump → ℕ → Stmt → Bool
  has j n (Block ss) = has_any j n ss
  has j n (If c ss others) = has_any j n ss || has_any j n others
  has j n (While c ss) = has_any j (suc n) ss
  has j n (Do ss c) = has_any j (suc n) ss
  has j n (For first c next ss) = has_any j (suc n) ss
  has j n (Case e heads arms) = has_in j (suc n) arms
  has j n (Alt heads arms) = has_in j (suc n) arms
  has j n (Pick e heads arms) = has_in j (suc n) arms
  has j n (Handle ss k heads arms) = has_any j n ss || has_in j n arms
  has j n (Break m) = is_break j && nat_eq m n
  has j n (Continue m) = not (is_break j) && nat_eq m n
  has j n _ = false

  pub has_any : Jump → ℕ → Stmts → Bool
  has_any j n NoStmts = false
  has_any j n (MoreStmts s ss) = has j n s || has_any j n ss

  pub has_in : Jump → ℕ → Bodies → Bool
  has_in j n NoBodies = false
  has_in j n (MoreBodies ss arms) = has_any j n ss || has_in j n arms

abbrev pub is_some : {A : Type 0} → Option A → Bool
is_some None = false
is_some (Some a) = true

abbrev pub has_star : List CasePattern → Bool
has_star [] = false
has_star (case.One c ∷ ps) = has_star ps
has_star (case.Range c d ∷ ps) = has_star ps
has_star (case.Any ∷ ps) = true

abbrev pub takes_rest : List (List CasePattern) → Bool
takes_rest [] = false
takes_rest (head ∷ heads) = has_star head || takes_rest heads

abbrev pub has_number : ℕ → List ℕ → Bool
has_number n [] = false
has_number n (m ∷ ms) = nat_eq m n || has_number n ms

abbrev pub is_none : List ℕ → Bool
is_none [] = true
is_none (n ∷ ns) = false

-- of the variants that an arm names, none of which are `*`
abbrev pub names : ℕ → List ℕ → Bool
names v ns = is_none ns || has_number v ns

abbrev pub takes : ℕ → List PickHead → Bool
takes v [] = false
takes v (h ∷ heads) = names v h.variants || takes v heads

-- each variant below a number
abbrev pub takes_each : ℕ → List PickHead → Bool
takes_each zero heads = true
takes_each (suc v) heads = takes_each v heads && takes v heads

abbrev pub picks_of : Option Def → ℕ
picks_of None = 0
picks_of (Some d) = length d.picks

-- how many variants the adt has that the type is a `ref` of
abbrev pub variants : List Def → Ty → ℕ
variants defs t = choose (ref_of t) 0 (λ n. picks_of (slice_get defs n))

-- a statement is gone through
abbrev mutual
  pub falls : List Def → Stmt → Bool
  falls defs Empty = true
  falls defs (Declare xs e) = true
  falls defs (Eval e) = true
  falls defs (Spawn e) = true
  falls defs (Block ss) = all_fall defs ss
  falls defs (If c ss others) = all_fall defs ss || all_fall defs others
  falls defs (While c ss) = is_some c || has_any jump.Break 0 ss
  falls defs (For first c next ss) = is_some c || has_any jump.Break 0 ss
  falls defs (Do ss c) = has_any jump.Break 0 ss || (is_some c && (has_any jump.Continue 0 ss || all_fall defs ss))
  falls defs (Case e heads arms) = not (takes_rest heads) || (some_falls defs arms || has_in jump.Break 0 arms)
  falls defs (Alt heads arms) = some_falls defs arms || has_in jump.Break 0 arms
  falls defs (Pick e heads arms) =
      not (takes_each (variants defs (type_of e)) heads) || (some_falls defs arms || has_in jump.Break 0 arms)
  falls defs (Handle ss n heads arms) = all_fall defs ss || some_falls defs arms
  falls defs _ = false

  pub all_fall : List Def → Stmts → Bool
  all_fall defs NoStmts = true
  all_fall defs (MoreStmts s ss) = falls defs s && all_fall defs ss

  pub some_falls : List Def → Bodies → Bool
  some_falls defs NoBodies = false
  some_falls defs (MoreBodies ss arms) = all_fall defs ss || some_falls defs arms

-- a loop whose condition, if it has one, is tested behind its body
abbrev pub turn_falls : List Def → Stmts → (condition : Bool) → Bool
turn_falls defs ss c = has_any jump.Break 0 ss || (c && (has_any jump.Continue 0 ss || all_fall defs ss))

-- the arms of a branch, of which a `break` ends it
abbrev pub arms_fall : List Def → Bodies → Bool
arms_fall defs arms = some_falls defs arms || has_in jump.Break 0 arms
