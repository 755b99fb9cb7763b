-- What three-address code asks of trees and of modules beside their types: of two arrays that are compared one is a `nil` that is written
-- there, no text is made by a format, where the element of an initialiser's others may hold something no such initialiser is in it, and
-- each adt has fewer variants than ints count.
use Rattle.std.specs.Prelude.{ℕ, ◌≡◌, ◌<◌, ◌⊎◌, true, false, List, Option, Some, None, length, slice_get}
use Rattle.limbo_types.specs.Types as ty
use Rattle.limbo_types.specs.Types.{Ty}
use Rattle.limbo_layout.specs.Adts.{Def}
use Rattle.limbo_typed.specs.declared.operation.Operation.TheVariants as operation
use Rattle.limbo_meaning.specs.Trees.{Work, Nil, Operate, Sprint, Term, Node, Lazy, Update, Fill, Terms, NoTerms, MoreTerms}
use Rattle.limbo_meaning.specs.Trees.{Items, NoItems, MoreItems}
use Rattle.limbo_meaning.specs.Trees.{Stm, Eval, If, While, Enter, Return, Loop, Looping, Block, Then, Turn, Again}
use Rattle.limbo_meaning.specs.Evaluation.{may_hold}
use Rattle.limbo_meaning.specs.Program.{Routine, Program}
use Rattle.core_code.specs.Terms.{type_of}

-- The number of each variant is an int.
abbrev pub VariantsAreFew : List Def → Type 0
VariantsAreFew defs = (n : ℕ) (d : Def) → slice_get defs n ≡ Some d → length d.picks < 2147483648

abbrev pub IsArray : Ty → Type 0
IsArray (ty.ArrayOf t) = Unit {0}
IsArray t = ⊥

-- A `nil` that is written.
abbrev pub IsNil : Term → Type 0
IsNil (Node t Nil NoTerms) = Unit {0}
IsNil t = ⊥

module _ (defs : List Def) where
  -- Two arrays are compared only where one of them is `nil`.
  abbrev pub ComparesNil : Terms → Type 0
  ComparesNil (MoreTerms a (MoreTerms b ts)) = IsArray (type_of defs a) → IsArray (type_of defs b) → IsNil a ⊎ IsNil b
  ComparesNil ts = Unit {0}

  abbrev pub NodeRuns : Work → Terms → Type 0
  NodeRuns (Operate operation.Identical) ts = ComparesNil ts
  NodeRuns (Operate operation.Distinct) ts = ComparesNil ts
  NodeRuns (Sprint ps) ts = ⊥
  NodeRuns o ts = Unit {0}

  -- Trees without chains: wherever an initialiser is in them, the element of its others holds nothing, and so no initialiser is in that.
  abbrev pub OthersHoldNothing : Terms → Type 0
  OthersHoldNothing NoTerms = Unit {0}
  OthersHoldNothing (MoreTerms e es) = may_hold defs e ≡ false

  abbrev mutual
    pub NoChains : Term → Type 0
    NoChains (Node t o ts) = NoneChains ts
    NoChains (Lazy c l r) = NoChains l × NoChains r
    NoChains (Update o g t w ts us) = NoneChains ts × NoneChains us
    NoChains (Fill t l is rest) = NoChains l × NoItemChains is × OthersHoldNothing rest
    NoChains t = Unit {0}

    pub NoneChains : Terms → Type 0
    NoneChains NoTerms = Unit {0}
    NoneChains (MoreTerms t ts) = NoChains t × NoneChains ts

    pub NoItemChains : Items → Type 0
    NoItemChains NoItems = Unit {0}
    NoItemChains (MoreItems z t is) = NoChains t × NoItemChains is

  -- Trees of which nothing is evaluated yet that are run so. Where the element of an initialiser's others may hold something, a chain keeps
  -- what its turns held, and no chain is in it.
  abbrev mutual
    pub Runs : Term → Type 0
    Runs (Node t o ts) = NodeRuns o ts × AllRun ts
    Runs (Lazy c l r) = Runs l × Runs r
    Runs (Update o g t w ts us) = AllRun ts × AllRun us
    Runs (Fill t l is rest) = Runs l × ItemsRun is × RestRuns rest
    Runs t = Unit {0}

    pub AllRun : Terms → Type 0
    AllRun NoTerms = Unit {0}
    AllRun (MoreTerms t ts) = Runs t × AllRun ts

    pub ItemsRun : Items → Type 0
    ItemsRun NoItems = Unit {0}
    ItemsRun (MoreItems z t is) = Runs t × ItemsRun is

    pub RestRuns : Terms → Type 0
    RestRuns NoTerms = Unit {0}
    RestRuns (MoreTerms e es) = Runs e × (may_hold defs e ≡ true → NoChains e)

  abbrev pub RunsIf : Option Term → Type 0
  RunsIf None = Unit {0}
  RunsIf (Some t) = Runs t

  abbrev mutual
    pub StmRuns : Stm → Type 0
    StmRuns (Eval t) = Runs t
    StmRuns (If t a b) = Runs t × BlockRuns a × BlockRuns b
    StmRuns (While t l) = Runs t × LoopRuns l
    StmRuns (Enter l) = LoopRuns l
    StmRuns (Return t) = Runs t
    StmRuns s = Unit {0}

    pub LoopRuns : Loop → Type 0
    LoopRuns (Looping c n body) = RunsIf c × RunsIf n × BlockRuns body

    pub BlockRuns : Block → Type 0
    BlockRuns (Then s b) = StmRuns s × BlockRuns b
    BlockRuns (Turn l b) = LoopRuns l × BlockRuns b
    BlockRuns (Again l b) = LoopRuns l × BlockRuns b
    BlockRuns b = Unit {0}

-- So is the body of each function.
abbrev pub ProgramRuns : List Def → Program → Type 0
ProgramRuns defs program = (f : ℕ) (r : Routine) → slice_get program.routines f ≡ Some r → BlockRuns defs r.body
