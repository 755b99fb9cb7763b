-- What holds of the typed statements and functions that the rules give.
use Rattle.std.specs.Prelude.{◌≡◌, ◌≤◌, ℕ, List, map, length}
use Rattle.limbo_lexer.specs.declared.token.Kind.{Kind}
use Rattle.limbo_tree.specs.Decls.{Decl}
use Rattle.limbo_tree.specs.Stmts as tree
use Rattle.limbo_tree.specs.Stmts.{spell_block}
use Rattle.limbo_typed.specs.Typed.{Stmt, Stmts, Bodies, Function, Module}
use Rattle.limbo_typed.specs.Fitting.{IsPick}
use Rattle.limbo_typed.specs.Sound.{Each, HasOwner, bodies, SoundStmt, SoundStmts, SoundBodies, SoundFunction, SoundInitial}
use Rattle.limbo_typed.specs.Sound.{SoundDeclaration, IsSound}
use Rattle.limbo_typed.specs.Sound.{SoundCasePattern, SoundAltHead, SoundPickHead, SoundHandlerHead}
use Rattle.limbo_scope.specs.Scopes.{Scope}
use Rattle.limbo_context.specs.Context.{Context, Callee}
use Rattle.limbo_stating.specs.limbo_local.Points.{Point}
use Rattle.limbo_stating.specs.limbo_local.Declaring.{Declares}
use Rattle.limbo_stating.specs.Around.{Around}
use Rattle.limbo_stating.specs.Stating.{Branch, OfCase, OfAlt, OfPick, OfHandler, HeadOf, States, StatesAll, StatesBlock, StatesArms}
use Rattle.limbo_stating.specs.Functions.{Definition, IsFunction, AreFunctions}
use Rattle.limbo_typed_sound.specs.Describing.{Describes}
use Rattle.limbo_typed_sound.specs.Proper.{TokenInRange}
use Rattle.limbo_stated_sound.specs.Growing.{Extends, LeadsTo}
use Rattle.limbo_stated_sound.specs.Proper.{IsProperDecl, IsProperStmt, AreProperStmts, IsProperBlock, AreProperArms}
use Rattle.limbo_stated_sound.specs.Named.{IsNamedThroughout, IsMadeOf, IsReady}
use Rattle.limbo_stated_sound.specs.Standing.{HasAllTypes, Covers, StandsIn, IsAround, Reaches, Opens}

-- ---- points grow

-- Behind a declaration, a statement, statements in a row, a block and arms there is what was there before, and maybe more.
abbrev pub DeclarationsGrow : Type 0
DeclarationsGrow = (name : List ℕ) (d : Decl) (p q : Point) (z : Stmt) → Declares name d p z q → LeadsTo p q

abbrev pub StatementsGrow : Type 0
StatementsGrow = (v : Around) (s : tree.Stmt) (p q : Point) (z : Stmt) → States v p s z q → LeadsTo p q

abbrev pub RowsGrow : Type 0
RowsGrow = (v : Around) (ss : tree.Stmts) (p q : Point) (zs : Stmts) → StatesAll v p ss zs q → LeadsTo p q

abbrev pub BlocksGrow : Type 0
BlocksGrow = (v : Around) (b : tree.Block) (p q : Point) (z : Stmt) → StatesBlock v p b z q → LeadsTo p q

abbrev pub ArmsGrow : Type 0
ArmsGrow =
    (o : Branch) (v : Around) (arms : tree.Arms) (p q : Point) (hs : List (HeadOf o)) (bs : Bodies) → StatesArms o v p arms hs bs q
    → LeadsTo p q

-- What describes or covers a longer context does so with one that it extends.
abbrev pub DescribedBefore : Type 0
DescribedBefore = (m : Module) (c d : Context) → Extends c d → Describes m d → Describes m c

abbrev pub CoveredBefore : Type 0
CoveredBefore = (m : Module) (c d : Context) → Extends c d → Covers m d → Covers m c

-- ---- points stay well

-- A point that stands in a module stands in it behind a declaration, a statement, statements in a row, a block and arms, where the module
-- has what they add.
abbrev pub DeclarationsStay : Type 0
DeclarationsStay =
    (m : Module) (name : List ℕ) (d : Decl) (p q : Point) (z : Stmt) → HasAllTypes m → StandsIn m p → Covers m q.context → IsProperDecl d
    → Declares name d p z q → StandsIn m q

abbrev pub StatementsStay : Type 0
StatementsStay =
    (m : Module) (v : Around) (s : tree.Stmt) (p q : Point) (z : Stmt) → HasAllTypes m → StandsIn m p → Covers m q.context
    → IsProperStmt s → States v p s z q → StandsIn m q

abbrev pub RowsStay : Type 0
RowsStay =
    (m : Module) (v : Around) (ss : tree.Stmts) (p q : Point) (zs : Stmts) → HasAllTypes m → StandsIn m p → Covers m q.context
    → AreProperStmts ss → StatesAll v p ss zs q → StandsIn m q

abbrev pub BlocksStay : Type 0
BlocksStay =
    (m : Module) (v : Around) (b : tree.Block) (p q : Point) (z : Stmt) → HasAllTypes m → StandsIn m p → Covers m q.context
    → IsProperBlock b → StatesBlock v p b z q → StandsIn m q

-- ---- blocks as they are written

-- A block is proper where the tokens that spell it have their numbers in range and aren't more than this many.
abbrev pub SpelledProperly : Type 0
SpelledProperly =
    (b : tree.Block) (behind : List Kind) → Each TokenInRange (spell_block b behind) → length (spell_block b behind) ≤ 2147483648
    → IsProperBlock b

-- ---- arms

-- Of a `pick` its adt is a pick adt.
abbrev pub IsBranch : Context → Branch → Type 0
IsBranch c (OfPick name adt) = IsPick c.adts adt
IsBranch c _ = Unit {0}

abbrev pub SoundHead : Module → Function → (o : Branch) → HeadOf o → Type 0
SoundHead m f (OfCase t) h = Each (SoundCasePattern m f.variables t) h
SoundHead m f OfAlt h = SoundAltHead m f.variables h
SoundHead m f (OfPick name adt) h = SoundPickHead m f.variables adt h
SoundHead m f (OfHandler name) h = SoundHandlerHead m f.variables h

-- Arms: sound heads, as many as bodies, and sound bodies.
pub record SoundArms (m : Module) (f : Function) (o : Branch) (v : Around) (hs : List (HeadOf o)) (bs : Bodies) : Type 0 where
  pub heads : Each (SoundHead m f o) hs
  pub as_many : length hs ≡ bodies bs
  pub bodies : SoundBodies m f (map (λ t. t.is_loop) v.turns) bs

abbrev pub ArmsStay : Type 0
ArmsStay =
    (m : Module) (o : Branch) (v : Around) (arms : tree.Arms) (p q : Point) (hs : List (HeadOf o)) (bs : Bodies) → HasAllTypes m
    → StandsIn m p → Covers m q.context → IsBranch p.context o → AreProperArms arms → StatesArms o v p arms hs bs q → StandsIn m q

-- ---- statements are sound

-- In a function that has what there is behind it, a statement is sound, and so are statements in a row, a block, and arms.
abbrev pub StatementsAreSound : Type 0
StatementsAreSound =
    (m : Module) (f : Function) (v : Around) (s : tree.Stmt) (p q : Point) (z : Stmt) → HasAllTypes m → StandsIn m p → Covers m q.context
    → IsAround m f v → Reaches f q → IsProperStmt s → States v p s z q → SoundStmt m f (map (λ t. t.is_loop) v.turns) z

abbrev pub RowsAreSound : Type 0
RowsAreSound =
    (m : Module) (f : Function) (v : Around) (ss : tree.Stmts) (p q : Point) (zs : Stmts) → HasAllTypes m → StandsIn m p
    → Covers m q.context → IsAround m f v → Reaches f q → AreProperStmts ss → StatesAll v p ss zs q
    → SoundStmts m f (map (λ t. t.is_loop) v.turns) zs

abbrev pub BlocksAreSound : Type 0
BlocksAreSound =
    (m : Module) (f : Function) (v : Around) (b : tree.Block) (p q : Point) (z : Stmt) → HasAllTypes m → StandsIn m p → Covers m q.context
    → IsAround m f v → Reaches f q → IsProperBlock b → StatesBlock v p b z q → SoundStmt m f (map (λ t. t.is_loop) v.turns) z

abbrev pub ArmsAreSound : Type 0
ArmsAreSound =
    (m : Module) (f : Function) (o : Branch) (v : Around) (arms : tree.Arms) (p q : Point) (hs : List (HeadOf o)) (bs : Bodies)
    → HasAllTypes m → StandsIn m p → Covers m q.context → IsBranch p.context o → IsAround m f v → Reaches f q → AreProperArms arms
    → StatesArms o v p arms hs bs q → SoundArms m f o v hs bs

-- ---- functions are sound

-- A function is sound, and leads to a context that opens the next.
abbrev pub OneIsSound : Type 0
OneIsSound =
    (m : Module) (name : List ℕ) (scopes : List Scope) (f : Callee) (d : Definition) (c e : Context) (g : Function) → HasAllTypes m
    → Opens m scopes c → Covers m e → HasOwner m f.owner → IsProperBlock d.block → IsFunction name scopes f d c g e
    → SoundFunction m g × Opens m scopes e

-- All functions of a module are.
abbrev pub FunctionsAreSound : Type 0
FunctionsAreSound =
    (m : Module) (name : List ℕ) (scopes : List Scope) (fs : List Callee) (ds : List Definition) (c e : Context) (gs : List Function)
    → HasAllTypes m → Opens m scopes c → Covers m e → Each (λ f. HasOwner m f.owner) fs → Each (λ d. IsProperBlock d.block) ds
    → AreFunctions name scopes fs ds c gs e → Each (SoundFunction m) gs × Opens m scopes e

-- ---- whole modules

-- What the lists of a context speak of stays named behind a declaration, a statement, statements in a row, a block, arms and functions.
abbrev pub DeclarationsStayNamed : Type 0
DeclarationsStayNamed =
    (name : List ℕ) (d : Decl) (p q : Point) (z : Stmt) → IsNamedThroughout p.context → Declares name d p z q → IsNamedThroughout q.context

abbrev pub StatementsStayNamed : Type 0
StatementsStayNamed =
    (v : Around) (s : tree.Stmt) (p q : Point) (z : Stmt) → IsNamedThroughout p.context → States v p s z q → IsNamedThroughout q.context

abbrev pub BlocksStayNamed : Type 0
BlocksStayNamed =
    (v : Around) (b : tree.Block) (p q : Point) (z : Stmt) → IsNamedThroughout p.context → StatesBlock v p b z q
    → IsNamedThroughout q.context

abbrev pub FunctionsStayNamed : Type 0
FunctionsStayNamed =
    (name : List ℕ) (scopes : List Scope) (fs : List Callee) (ds : List Definition) (c e : Context) (gs : List Function)
    → IsNamedThroughout c → AreFunctions name scopes fs ds c gs e → IsNamedThroughout e

-- A module that is made of all functions of its source, and of the context that they lead to, has named types and sound functions.
abbrev pub ModulesAreSound : Type 0
ModulesAreSound =
    (m : Module) (name : List ℕ) (scopes : List Scope) (ds : List Definition) (c e : Context) (gs : List Function) → IsReady scopes c
    → Each (λ d. IsProperBlock d.block) ds → AreFunctions name scopes c.functions ds c gs e → IsMadeOf m e gs
    → HasAllTypes m × Each (SoundFunction m) m.functions × Describes m e

-- With initial values of the types of its globals, and declarations that are those of its functions, it is sound.
abbrev pub CheckedModulesAreSound : Type 0
CheckedModulesAreSound =
    (m : Module) (name : List ℕ) (scopes : List Scope) (ds : List Definition) (c e : Context) (gs : List Function) → IsReady scopes c
    → Each (λ d. IsProperBlock d.block) ds → AreFunctions name scopes c.functions ds c gs e → IsMadeOf m e gs
    → Each (SoundInitial m) m.initials → Each (SoundDeclaration m) m.declared → IsSound m
