-- When the trees of a checked module are such as the law speaks of.
use Rattle.std.specs.Prelude.{◌≡◌, ℕ, List, [], Option, Some, None, slice_get}
use Rattle.limbo_types.specs.Types as ty
use Rattle.limbo_layout.specs.Adts.{Def}
use Rattle.limbo_layout.specs.Layout.{Room, Laid}
use Rattle.limbo_typed.specs.Typed as typed
use Rattle.limbo_typed.specs.Sound.{IsSound}
use Rattle.limbo_meaning.specs.Trees.{Assign, Term, Evaluated, Missing, Node, Lazy, Update, Fill, Terms, NoTerms, MoreTerms, Items, NoItems}
use Rattle.limbo_meaning.specs.Trees.{MoreItems, Stm, Eval, If, While, Enter, Return, Loop, Looping, Block, Then}
use Rattle.limbo_meaning.specs.Program.{Routine, Program, program_of}
use Rattle.core_follows.specs.Follows.{Keeps}

-- A tree of this part of the language: nothing in it is missing.
abbrev mutual
  pub IsPart : Term → Type 0
  IsPart Missing = ⊥
  IsPart (Node t o ts) = AllPart ts
  IsPart (Lazy c l r) = IsPart l × IsPart r
  IsPart (Update o g t w ts us) = AllPart ts × AllPart us
  IsPart (Fill t l is rest) = IsPart l × ItemsPart is × AllPart rest
  IsPart t = Unit {0}

  pub AllPart : Terms → Type 0
  AllPart NoTerms = Unit {0}
  AllPart (MoreTerms t ts) = IsPart t × AllPart ts

  pub ItemsPart : Items → Type 0
  ItemsPart NoItems = Unit {0}
  ItemsPart (MoreItems z e is) = IsPart e × ItemsPart is

-- A declaration names a variable.
abbrev pub NamesSome : Term → Type 0
NamesSome (Node t (Assign []) (MoreTerms (Evaluated v) ts)) = ⊥
NamesSome t = Unit {0}

abbrev pub PartIf : Option Term → Type 0
PartIf None = Unit {0}
PartIf (Some t) = IsPart t

abbrev mutual
  pub StmPart : Stm → Type 0
  StmPart (Eval t) = IsPart t × NamesSome t
  StmPart (If t a b) = IsPart t × BlockPart a × BlockPart b
  StmPart (While t l) = LoopPart l
  StmPart (Enter l) = LoopPart l
  StmPart (Return t) = IsPart t
  StmPart s = Unit {0}

  pub LoopPart : Loop → Type 0
  LoopPart (Looping c n body) = PartIf c × PartIf n × BlockPart body

  pub BlockPart : Block → Type 0
  BlockPart (Then s b) = StmPart s × BlockPart b
  BlockPart b = Unit {0}

-- Each adt of a module has a layout.
abbrev pub AdtsAreLaid : List Def → Type 0
AdtsAreLaid defs = (n : ℕ) (d : Def) → slice_get defs n ≡ Some d → (r : Room) × Laid defs (ty.Adt n) r

abbrev pub ProgramPart : Program → Type 0
ProgramPart program = (f : ℕ) (r : Routine) → slice_get program.routines f ≡ Some r → BlockPart r.body

-- The code of each checked module of this part of the language, whose adts have layouts, keeps what the module means.
abbrev pub ModulesKeep : Type 0
ModulesKeep =
    (limit : ℕ) (m : typed.Module) → IsSound m → AdtsAreLaid m.adts → ProgramPart (program_of m) → Keeps limit (program_of m)
