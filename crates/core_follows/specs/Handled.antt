-- Trees of which nothing is evaluated yet.
use Rattle.std.specs.Prelude.{◌++◌, slice_get, ◌≡◌, ℕ, ℤ, suc, ◌<◌, ◌⊎◌, true, false, List, [], ◌∷◌, Option, Some, None, length}
use Rattle.std.specs.Prelude.{slice_index_or}
use Rattle.limbo_types.specs.Types as ty
use Rattle.limbo_types.specs.Types.{Ty}
use Rattle.limbo_layout.specs.Adts.{Def, Variant, listed, types_of}
use Rattle.limbo_layout.specs.Layout.{Room, Laid}
use Rattle.limbo_typed.specs.declared.operation.Operation.{Operation}
use Rattle.limbo_typed.specs.declared.operation.Operation.TheVariants as operation
use Rattle.limbo_meaning.specs.Values.{Value, Num, nothing, references, fitted}
use Rattle.limbo_meaning.specs.Trees.{Work, Operate, Assign, TakePart, Copy, Link, NewChannel, Print, Term, Evaluated, Node, Lazy}
use Rattle.limbo_meaning.specs.Trees.{Update, Fill, Terms, NoTerms}
use Rattle.limbo_meaning.specs.Trees.{MoreTerms, Items, NoItems, MoreItems}
use Rattle.limbo_meaning.specs.Trees.{Stm, Over, Eval, If, While, Enter, Break, Continue, Return, Leave, Loop, Looping, Block, Done}
use Rattle.limbo_meaning.specs.Trees.{Then, Turn, Again}
use Rattle.core_code.specs.Terms.{type_at, types_in, part_types}
use Rattle.limbo_meaning.specs.Evaluation.{passes_on, operands_for}

abbrev pub count : Terms → ℕ
count NoTerms = 0
count (MoreTerms t ts) = suc (count ts)

-- Variables that are declared without a value get one that is known.
abbrev pub Declares : Work → Terms → Type 0
Declares (Assign (a ∷ aims)) (MoreTerms (Evaluated v) NoTerms) = (operands_for (a ∷ aims) ≡ 0) × (v ≡ nothing)
Declares o ts = ⊥

-- The length of an array may be known.
abbrev pub IsKnown : Term → Type 0
IsKnown (Evaluated v) = references v ≡ []
IsKnown t = ⊥

-- Values of this type: each is brought to it; but what a print answers is any number.
abbrev pub Fits : List Def → Ty → Value → Type 0
Fits defs t v = ((x : Value) × (v ≡ fitted defs t x)) ⊎ ((t ≡ ty.Int) × (z : ℤ) × (v ≡ Num z))

abbrev pub AllFit : List Def → List Ty → List Value → Type 0
AllFit defs [] [] = Unit {0}
AllFit defs [] (v ∷ vs) = ⊥
AllFit defs (t ∷ ts) [] = ⊥
AllFit defs (t ∷ ts) (v ∷ vs) = Fits defs t v × AllFit defs ts vs

-- A value of the first type refers to the same as one of the second.
abbrev pub StandsFor : List Def → (is for : Ty) → Type 0
StandsFor defs t u = (v : Value) → Fits defs t v → references (fitted defs u v) ≡ references v

abbrev pub AllStandFor : List Def → (are for : List Ty) → Type 0
AllStandFor defs [] [] = Unit {0}
AllStandFor defs [] (u ∷ us) = ⊥
AllStandFor defs (t ∷ ts) [] = ⊥
AllStandFor defs (t ∷ ts) (u ∷ us) = StandsFor defs t u × AllStandFor defs ts us

abbrev pub IsChannel : Ty → Type 0
IsChannel (ty.ChanOf t) = Unit {0}
IsChannel t = ⊥

abbrev pub IsList : Ty → Type 0
IsList (ty.ListOf t) = Unit {0}
IsList t = ⊥

module _ (defs : List Def) where
  -- Types whose values have their parts: tuples, and adts that have a layout.
  abbrev pub HasLayout : Ty → Type 0
  HasLayout (ty.Tuple us) = Unit {0}
  HasLayout (ty.Adt n) = (d : Def) × (slice_get defs n ≡ Some d) × ((r : Room) × Laid defs (ty.Adt n) r)
  HasLayout t = ⊥

  -- The fields of an adt's value: the common ones, and then those of its variant, where it is a pick adt.
  abbrev pub TakesFields : Def → (variant : Option ℕ) → List Ty → Type 0
  TakesFields d None ts = (d.picks ≡ []) × AllStandFor defs ts (types_of d.fields)
  TakesFields d (Some v) ts =
      (w : Variant) × (slice_get d.picks v ≡ Some w) × AllStandFor defs ts (types_of d.fields ++ types_of w.fields)

  -- What tuples and adts' values are made of stands for what their type says.
  abbrev pub Makes : Ty → Operation → List Ty → Type 0
  Makes (ty.Tuple us) operation.Tuple ts = AllStandFor defs ts (listed us)
  Makes (ty.Adt k) (operation.Adt n v) ts =
      (k ≡ n) × ((d : Def) × (slice_get defs k ≡ Some d) × ((r : Room) × Laid defs (ty.Adt k) r) × TakesFields d v ts)
  Makes t o ts = ⊥

  -- A part that is taken is there, and stands for one of the type that the node says.
  abbrev pub Takes : (whole : Ty) → ℕ → Ty → Type 0
  Takes u k t =
      HasLayout u × (k < length (part_types defs u)) × StandsFor defs (slice_index_or (part_types defs u) k ty.Nothing) t

  -- An assignment has its value behind the operands of its places, and a copy three operands.
  abbrev pub Suits : Ty → Work → Terms → Type 0
  Suits t (Operate o) ts = (passes_on o ≡ false) ⊎ ((passes_on o ≡ true) × Makes t o (types_in defs ts))
  Suits t (Assign aims) ts = operands_for aims < count ts
  Suits t (TakePart k) ts = Takes (type_at defs 0 ts) k t
  Suits t Copy ts = 2 < count ts
  Suits t Link ts = IsList t
  Suits t NewChannel ts = IsChannel t
  Suits t (Print ps) ts = t ≡ ty.Int
  Suits t o ts = Unit {0}

  abbrev mutual
    pub Handled : Term → Type 0
    Handled (Node t o ts) = (Suits t o ts × AllHandled ts) ⊎ Declares o ts
    Handled (Lazy c l r) = Handled l × Handled r
    Handled (Update o g t w ts us) = (passes_on o ≡ false) × AllHandled ts × AllHandled us
    Handled (Fill t l is rest) = (IsKnown l ⊎ Handled l) × HandledItems is × HandledRest rest
    Handled t = ⊥

    pub AllHandled : Terms → Type 0
    AllHandled NoTerms = Unit {0}
    AllHandled (MoreTerms t ts) = Handled t × AllHandled ts

    pub HandledItems : Items → Type 0
    HandledItems NoItems = Unit {0}
    HandledItems (MoreItems z e is) = Handled e × HandledItems is

    -- the element of the others, if there is one
    pub HandledRest : Terms → Type 0
    HandledRest NoTerms = Unit {0}
    HandledRest (MoreTerms e es) = Handled e

  abbrev pub HandledIf : Option Term → Type 0
  HandledIf None = Unit {0}
  HandledIf (Some t) = Handled t

  -- A loop that begins with its test stands with its own condition; what is broken or continued is a loop around, of which there are so
  -- many.
  abbrev pub BeginsWith : Term → Loop → Type 0
  BeginsWith t (Looping (Some c) n body) = t ≡ c
  BeginsWith t (Looping None n body) = ⊥

  abbrev mutual
    pub HandledStm : (loops : ℕ) → Stm → Type 0
    HandledStm k Over = Unit {0}
    HandledStm k (Eval t) = Handled t
    HandledStm k (If t a b) = Handled t × HandledBlock k a × HandledBlock k b
    HandledStm k (While t l) = BeginsWith t l × HandledLoop k l
    HandledStm k (Enter l) = HandledLoop k l
    HandledStm k (Break n) = n < k
    HandledStm k (Continue n) = n < k
    HandledStm k (Return t) = Handled t
    HandledStm k Leave = Unit {0}

    pub HandledLoop : (loops : ℕ) → Loop → Type 0
    HandledLoop k (Looping c n body) = HandledIf c × HandledIf n × HandledBlock (suc k) body

    pub HandledBlock : (loops : ℕ) → Block → Type 0
    HandledBlock k Done = Unit {0}
    HandledBlock k (Then s b) = HandledStm k s × HandledBlock k b
    HandledBlock k (Turn l b) = ⊥
    HandledBlock k (Again l b) = ⊥
