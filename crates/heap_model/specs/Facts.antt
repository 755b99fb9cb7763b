-- What a machine's blocks stand for. It is known of some blocks and not yet of others, and what is known stays so: all of it is of
-- what never changes, so the words of a frame can be read by it without a heap.
use Rattle.std.specs.Prelude.{ℕ, ◌≡◌, List, Option, Some, None}

-- What a block stands for: the heap value of this name; a string; part of an array, by the array's name, from where on and how long;
-- nothing, for good; or it is this block for good, which carries a value and stands for no heap value.
pub data Fact (B : Type 0) : Type 0 where
  Named : ℕ → Fact B
  Chars : List ℕ → Fact B
  Part : (name start length : ℕ) → Fact B
  Bare : Fact B
  Carrier : B → Fact B

-- What is known of blocks by their serials: what each stands for, which process made it, and of which form the block of a heap value
-- is, so how its words are read. Of a block without a fact it is open what it will stand for. A heap value has one block.
pub record Facts (B F : Type 0) : Type 0 where
  pub fact : ℕ → Option (Fact B)
  pub maker : ℕ → Option ℕ
  pub form : ℕ → Option F
  pub once : (m n n' : ℕ) → fact n ≡ Some (Named m) → fact n' ≡ Some (Named m) → n ≡ n'

-- Nothing is known of this block.
pub record IsUnmade {B F : Type 0} (k : Facts B F) (n : ℕ) : Type 0 where
  pub fact : k.fact n ≡ None
  pub maker : k.maker n ≡ None
  pub form : k.form n ≡ None

-- The second knows all that the first knows.
pub record Grows {B F : Type 0} (a b : Facts B F) : Type 0 where
  pub facts : (n : ℕ) (f : Fact B) → a.fact n ≡ Some f → b.fact n ≡ Some f
  pub makers : (n i : ℕ) → a.maker n ≡ Some i → b.maker n ≡ Some i
  pub forms : (n : ℕ) (o : F) → a.form n ≡ Some o → b.form n ≡ Some o

-- The second knows of block n in addition that it stands for this. Of which form it is was known when it was made.
pub record Learns {B F : Type 0} (k k' : Facts B F) (n : ℕ) (f : Fact B) : Type 0 where
  pub before : k.fact n ≡ None
  pub now : k'.fact n ≡ Some f
  pub apart : (q : ℕ) → (q ≡ n → ⊥) → k'.fact q ≡ k.fact q
  pub makers : (q : ℕ) → k'.maker q ≡ k.maker q
  pub forms : (q : ℕ) → k'.form q ≡ k.form q

-- A fact may mean that the block stands for nothing now.
abbrev pub IsFree : {B : Type 0} → Option (Fact B) → Type 0
IsFree None = Unit {0}
IsFree (Some Bare) = Unit {0}
IsFree _ = ⊥

-- Or that it stands for no value of the heap or string, but may hold values for whoever holds it.
abbrev pub IsInner : {B : Type 0} → Option (Fact B) → Type 0
IsInner None = Unit {0}
IsInner (Some Bare) = Unit {0}
IsInner (Some (Carrier b)) = Unit {0}
IsInner _ = ⊥

module _ {B F : Type 0} (k : Facts B F) where
  -- Block n stands for heap value m.
  abbrev pub Is : ℕ → ℕ → Type 0
  Is m n = k.fact n ≡ Some (Named m)

  abbrev pub Free : ℕ → Type 0
  Free q = IsFree (k.fact q)

  abbrev pub Inner : ℕ → Type 0
  Inner q = IsInner (k.fact q)

  -- A reference to block q refers to heap value m: the block is the value, or part of the value.
  pub data Refers (m q : ℕ) : Type 0 where
    itself : Is m q → Refers m q
    slice : (start length : ℕ) → k.fact q ≡ Some (Part m start length) → Refers m q

  -- A reference to block q is accounted for where these heap values are named.
  pub data Covers (named : ℕ → Type 0) (q : ℕ) : Type 0 where
    refers : (m : ℕ) → named m → Refers m q → Covers named q
    chars : (text : List ℕ) → k.fact q ≡ Some (Chars text) → Covers named q
