-- The form of trees of which nothing is evaluated yet: prints get what their formats ask for, a copy begins at an int, a length that isn't
-- evaluated is a number, and a declaration without a value stands alone, of whole variables.
use Rattle.std.specs.Prelude.{◌≡◌, List, Option, None, Some, slice_get}
use Rattle.limbo_types.specs.Types as ty
use Rattle.limbo_types.specs.Types.{Ty}
use Rattle.limbo_meaning.specs.Values.{Num}
use Rattle.limbo_meaning.specs.Trees.{Work, Assign, Copy, Print, Term, Evaluated, Node, Lazy, Update, Fill, Terms, NoTerms, MoreTerms}
use Rattle.limbo_meaning.specs.Trees.{Items, NoItems, MoreItems}
use Rattle.limbo_meaning.specs.Trees.{Stm, Eval, If, While, Enter, Return, Loop, Looping, Block, Then, Turn, Again}
use Rattle.limbo_kept.specs.Trees.{Scope, DeclaresAll}
use Rattle.core_code.specs.Terms.{types_in}
use Rattle.core_typing.specs.Needs.{printed}

abbrev pub TakesSo : List Ty → Work → Type 0
TakesSo us (Print ps) = us ≡ printed ps
TakesSo us Copy = slice_get us 1 ≡ Some ty.Int
TakesSo us o = Unit {0}

-- A declaration without a value gives none, so that it is no part of a tree.
abbrev pub HasValue : Term → Type 0
HasValue (Node t (Assign aims) (MoreTerms (Evaluated v) NoTerms)) = ⊥
HasValue t = Unit {0}

abbrev pub LengthSo : Term → Type 0
LengthSo (Evaluated (Num z)) = Unit {0}
LengthSo (Evaluated v) = ⊥
LengthSo t = HasValue t

module _ (s : Scope) where
  abbrev pub DeclaresSo : Work → Terms → Type 0
  DeclaresSo (Assign aims) (MoreTerms (Evaluated v) NoTerms) = DeclaresAll s aims
  DeclaresSo o ts = Unit {0}

  abbrev mutual
    pub Formed : Term → Type 0
    Formed (Node t o ts) = TakesSo (types_in s.adts ts) o × DeclaresSo o ts × AllFormed ts
    Formed (Lazy c l r) = HasValue l × Formed l × HasValue r × Formed r
    Formed (Update o g t w ts us) = AllFormed ts × AllFormed us
    Formed (Fill t l is rest) = LengthSo l × Formed l × ItemsFormed is × AllFormed rest
    Formed t = Unit {0}

    pub AllFormed : Terms → Type 0
    AllFormed NoTerms = Unit {0}
    AllFormed (MoreTerms t ts) = HasValue t × Formed t × AllFormed ts

    pub ItemsFormed : Items → Type 0
    ItemsFormed NoItems = Unit {0}
    ItemsFormed (MoreItems z t is) = HasValue t × Formed t × ItemsFormed is

  abbrev pub FormedIf : Option Term → Type 0
  FormedIf None = Unit {0}
  FormedIf (Some t) = Formed t

  -- A condition, whose value is used.
  abbrev pub TestFormed : Option Term → Type 0
  TestFormed None = Unit {0}
  TestFormed (Some t) = HasValue t × Formed t

  abbrev mutual
    pub StmFormed : Stm → Type 0
    StmFormed (Eval t) = Formed t
    StmFormed (If t a b) = HasValue t × Formed t × BlockFormed a × BlockFormed b
    StmFormed (While t l) = HasValue t × Formed t × LoopFormed l
    StmFormed (Enter l) = LoopFormed l
    StmFormed (Return t) = HasValue t × Formed t
    StmFormed s = Unit {0}

    pub LoopFormed : Loop → Type 0
    LoopFormed (Looping c n body) = TestFormed c × FormedIf n × BlockFormed body

    pub BlockFormed : Block → Type 0
    BlockFormed (Then s b) = StmFormed s × BlockFormed b
    BlockFormed (Turn l b) = LoopFormed l × BlockFormed b
    BlockFormed (Again l b) = LoopFormed l × BlockFormed b
    BlockFormed b = Unit {0}
