-- Arrays that initialisers fill: until one is full nothing names it but the tree that fills it.
use Rattle.std.specs.Prelude.{ℕ, ◌≡◌, ◌<◌, ◌⊎◌, List, [], length, Option}
use Rattle.limbo_meaning.specs.Values.{Value}
use Rattle.limbo_meaning.specs.Memory.{Memory}
use Rattle.limbo_meaning.specs.Trees.{Term, Evaluated, Node, Lazy, Deciding, Update, Change}
use Rattle.limbo_meaning.specs.Trees.{Fill, Filling, Turning, Repeating, Terms, NoTerms, MoreTerms, Items, NoItems, MoreItems}
use Rattle.limbo_meaning.specs.Origins.{Name, InMemory, term_references, terms_references, items_references}
use Rattle.limbo_meaning.specs.Owning.{IsFresh}

-- ---- what isn't begun names nothing, so nothing is filled in it

abbrev pub AreFresh : Terms → Type 0
AreFresh ts = (n : ℕ) → Name (terms_references ts) n → ⊥

abbrev pub ItemsAreFresh : Items → Type 0
ItemsAreFresh is = (n : ℕ) → Name (items_references is) n → ⊥

abbrev pub IsValue : Term → Type 0
IsValue t = (v : Value) × (t ≡ Evaluated v)

-- ---- the arrays that a tree fills

abbrev mutual
  -- n is the name of one.
  pub Fills : Term → ℕ → Type 0
  Fills (Node t o ts) n = SomeFills ts n
  Fills (Lazy c l r) n = Fills l n
  Fills (Deciding r) n = Fills r n
  Fills (Update o g t w ts us) n = SomeFills ts n
  Fills (Change o g p ts) n = SomeFills ts n
  Fills (Fill t l is rest) n = Fills l n
  Fills (Filling t p is ns rest) n = (n ≡ p.array) ⊎ FirstFills is n
  Fills (Turning t p ns e) n = n ≡ p.array
  Fills (Repeating t p i ns e now) n = (n ≡ p.array) ⊎ Fills now n
  Fills _ n = ⊥

  pub SomeFills : Terms → ℕ → Type 0
  SomeFills NoTerms n = ⊥
  SomeFills (MoreTerms t ts) n = Fills t n ⊎ SomeFills ts n

  -- only the first element is in evaluation
  pub FirstFills : Items → ℕ → Type 0
  FirstFills NoItems n = ⊥
  FirstFills (MoreItems i t is) n = Fills t n

abbrev pub FillNothing : Terms → Type 0
FillNothing ts = (n : ℕ) → SomeFills ts n → ⊥

-- A name is taken that neither the memory nor these words have.
pub record IsApart (m : Memory) (words : List (Option ℕ)) (n : ℕ) : Type 0 where
  pub taken : n < length m.heap
  pub unnamed : InMemory m n → ⊥
  pub elsewhere : Name words n → ⊥

module _ (m : Memory) where
  abbrev mutual
    -- No array that a tree fills is named by the memory, or by an element that is in evaluation; and what comes later isn't begun.
    pub FillsApart : Term → Type 0
    FillsApart (Node t o ts) = AllFillApart ts
    FillsApart (Lazy c l r) = FillsApart l × IsFresh r
    FillsApart (Deciding r) = FillsApart r
    FillsApart (Update o g t w ts us) = AllFillApart ts × AreFresh us
    FillsApart (Change o g p ts) = AllFillApart ts
    FillsApart (Fill t l is rest) = FillsApart l × ItemsAreFresh is × AreFresh rest
    FillsApart (Filling t p is ns rest) = FirstFillsApart p.array is × AreFresh rest
    FillsApart (Turning t p ns e) = IsApart m [] p.array × IsFresh e
    FillsApart (Repeating t p i ns e now) = IsApart m (term_references now) p.array × FillsApart now × IsFresh e
    FillsApart _ = Unit {0}

    -- of operands those before the first that isn't a value are values, and those behind it fill nothing yet; an answer may be put among
    -- these, so that they needn't be fresh
    pub AllFillApart : Terms → Type 0
    AllFillApart NoTerms = Unit {0}
    AllFillApart (MoreTerms t ts) = (IsValue t × AllFillApart ts) ⊎ (FillsApart t × AllFillApart ts × FillNothing ts)

    pub FirstFillsApart : (array : ℕ) → Items → Type 0
    FirstFillsApart a NoItems = IsApart m [] a
    FirstFillsApart a (MoreItems i t is) = IsApart m (term_references t) a × FillsApart t × ItemsAreFresh is
