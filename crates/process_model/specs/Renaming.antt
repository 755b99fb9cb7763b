-- Channels and heap values have numbers on both sides, and not the same ones. A map that only grows joins them, and through it
-- branches, tables and traces are the same.
use Rattle.std.specs.Prelude.{ℕ, ◌≡◌, ◌⊎◌, List, [], ◌∷◌}
use Rattle.process_model.specs.Process.{Branch, Entry, Requested, Replied, Passed, Over, Released, Lost}

-- What joins the names of the two sides: K are the maps; one may have grown into another; a map relates numbers, of channels
-- and of heap values, and the values that pass. Of a number of the machine that is known it is settled what it stands for, a value
-- of the source or none: the machine has blocks that stand for no value of the source's heap, and their going is not told there.
pub record Renaming (K D U : Type 0) : Type 1 where
  pub grows : K → K → Type 0
  pub name : K → ℕ → ℕ → Type 0
  pub known : K → ℕ → Type 0
  pub value : K → D → U → Type 0

-- What a renaming keeps: a map grows from itself and by stages; what it relates stays related; it is one to one on numbers; and a
-- number that is known never comes to stand for anything else.
pub record Link {K D U : Type 0} (map : Renaming K D U) : Type 0 where
  pub same : (k : K) → map.grows k k
  pub on : (a b c : K) → map.grows a b → map.grows b c → map.grows a c
  pub name_on : (a b : K) (x y : ℕ) → map.grows a b → map.name a x y → map.name b x y
  pub value_on : (a b : K) (x : D) (y : U) → map.grows a b → map.value a x y → map.value b x y
  pub known_on : (a b : K) (y : ℕ) → map.grows a b → map.known a y → map.known b y
  pub name_back : (a b : K) (x y : ℕ) → map.grows a b → map.known a y → map.name b x y → map.name a x y
  pub one : (k : K) (x y y' : ℕ) → map.name k x y → map.name k x y' → y ≡ y'
  pub other : (k : K) (x x' y : ℕ) → map.name k x y → map.name k x' y → x ≡ x'

-- The list has this number.
abbrev pub Has : List ℕ → ℕ → Type 0
Has [] n = ⊥
Has (m ∷ ms) n = (m ≡ n) ⊎ Has ms n

module _ {K D U : Type 0} (map : Renaming K D U) where
  -- Both send, or both receive, over the same channel, with the same value.
  abbrev pub SameBranch : K → Branch D → Branch U → Type 0
  SameBranch k a b = map.name k a.channel b.channel × (a.sends ≡ b.sends) × map.value k a.value b.value

  -- The same branches in the same order.
  abbrev pub SameTable : K → List (Branch D) → List (Branch U) → Type 0
  SameTable k [] [] = Unit {0}
  SameTable k (a ∷ bs) (b ∷ cs) = SameBranch k a b × SameTable k bs cs
  SameTable k _ _ = ⊥

  -- The same went from both heaps, in whatever order: each value of the source that went is a block that did, each such block is
  -- a value that did, and of the other blocks it is known that they stand for none.
  pub record SameReleased (k : K) (names serials : List ℕ) : Type 0 where
    pub to : (n : ℕ) → Has names n → (m : ℕ) × map.name k n m × Has serials m
    pub from : (n m : ℕ) → map.name k n m → Has serials m → Has names n
    pub known : (m : ℕ) → Has serials m → map.known k m

  -- The same is told. Requests, replies and ends are equal; so are the numbers of processes and of branches.
  abbrev pub SameEntry : {M A H : Type 0} → K → Entry D M A H → Entry U M A H → Type 0
  SameEntry k (Requested i m) (Requested j n) = (i ≡ j) × (m ≡ n)
  SameEntry k (Replied i a) (Replied j b) = (i ≡ j) × (a ≡ b)
  SameEntry k (Passed c v s b r o) (Passed c' v' s' b' r' o') =
      map.name k c c' × map.value k v v' × (s ≡ s') × (b ≡ b') × (r ≡ r') × (o ≡ o')
  SameEntry k (Over i how) (Over j its) = (i ≡ j) × (how ≡ its)
  SameEntry k (Released i ns) (Released j ms) = (i ≡ j) × SameReleased k ns ms
  SameEntry k (Lost l) (Lost m) = l ≡ m
  SameEntry k _ _ = ⊥

  -- The same is told, entry by entry, but for entries of the machine that tell only of blocks that stand for no value: those are
  -- passed over.
  pub data SameTrace {M A H : Type 0} (k : K) : List (Entry D M A H) → List (Entry U M A H) → Type 0 where
    nothing : SameTrace k [] []
    told_too : {e : Entry D M A H} {f : Entry U M A H} {es : List (Entry D M A H)} {fs : List (Entry U M A H)} →
        SameEntry k e f → SameTrace k es fs → SameTrace k (e ∷ es) (f ∷ fs)
    passed_over : {es : List (Entry D M A H)} {fs : List (Entry U M A H)} (i m : ℕ) (ms : List ℕ) →
        SameReleased k [] (m ∷ ms) → SameTrace k es fs → SameTrace k es (Released i (m ∷ ms) ∷ fs)
