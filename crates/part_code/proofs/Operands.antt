-- Parts of expressions whose code is proper, and operands.
use Rattle.std.proofs.Common.{◌≡◌, ℕ, suc, pos, ◌+◌, Bool, true, false, List, [], ◌∷◌, ◌++◌, Option, Some, None, refl, subst, sym, ℤ}
use Rattle.std.specs.Prelude.{if◌then◌else◌}
use Rattle.std.proofs.lemmas.Option.{none-some}
use Rattle.limbo_values.specs.declared.number.Kind.{Kind}
use Rattle.limbo_values.specs.declared.number.Kind.TheVariants as kind
use Rattle.limbo_values.specs.declared.operator.Comparison.{Comparison}
use Rattle.limbo_values.specs.declared.operator.Comparison.TheVariants as c
use Rattle.limbo_typed.specs.declared.operation.Operation.{Operation}
use Rattle.limbo_typed.specs.declared.operation.Operation.TheVariants as operation
use Rattle.slot_code.specs.Code.{Spot, Variable, Global, Temporary, Argument, Operand, In, Number, Inst, Move, Hand, Branch, Function}
use Rattle.slot_code.specs.Code.{Module}
use Rattle.dis_objects.specs.Frames.{Callee}
use Rattle.dis_objects.specs.Code.{spot_kind}
use Rattle.dis_objects.specs.Proper.{IsRead, IsWritten, IsTaken, GoesOn, IsOwn, ReadsOwn}
use Rattle.typed_lower.specs.declared.taking.Taking.{Taking}
use Rattle.typed_lower.specs.declared.taking.Taking.TheVariants.{Any, Own, Short}
use Rattle.typed_lower.specs.Terms.{Ready, Part, ready, ready_of, kept, unless_changed, own, is_short, short, taken_by, takes_long}
use Rattle.typed_lower.specs.Terms.{long_taking, left_taking, seen_by, one, two}
use Rattle.typed_lower.specs.Terms.{branch, opposite, tested}
use Rattle.part_code.proofs.Level.{No, Piece, Plain, both, both_plain, none, single}
use Rattle.part_code.proofs.Alike.{zero_in}

-- ---- operands that are the function's own

reads_convert : (j k : Kind) (x : Operand) → (takes_long (operation.Convert j k) ≡ true → IsOwn x) → ReadsOwn (operation.Convert j k) x
reads_convert kind.Byte kind.Big x h = h refl
reads_convert kind.Big kind.Byte x h = h refl
reads_convert kind.Byte kind.Byte x h = tt
reads_convert kind.Byte kind.Int x h = tt
reads_convert kind.Int kind.Byte x h = tt
reads_convert kind.Int kind.Int x h = tt
reads_convert kind.Int kind.Big x h = tt
reads_convert kind.Big kind.Int x h = tt
reads_convert kind.Big kind.Big x h = tt

pub reads_own : (o : Operation) (x : Operand) → (takes_long o ≡ true → IsOwn x) → ReadsOwn o x
reads_own (operation.Compare y k) x h = h refl
reads_own operation.Not x h = h refl
reads_own (operation.Convert j k) x h = reads_convert j k x h
reads_own _ x h = tt

own_operand : (l : Option Operand) (d : ℕ) (k : Kind) (value : ℕ → Spot → List Inst) → IsOwn (ready_of d k (own l) value).operand
own_operand (Some (In (Global j x))) d k value = tt
own_operand (Some (In (Variable j x))) d k value = tt
own_operand (Some (In (Temporary j x))) d k value = tt
own_operand (Some (In (Argument j x))) d k value = tt
own_operand (Some (Number z)) d k value = tt
own_operand None d k value = tt

short_number : (b : Bool) (z : ℤ) (d : ℕ) (k : Kind) (value : ℕ → Spot → List Inst)
    → IsOwn (ready_of d k (if b then Some (Number z) else None) value).operand
short_number true z d k value = tt
short_number false z d k value = tt

short_operand : (l : Option Operand) (d : ℕ) (k : Kind) (value : ℕ → Spot → List Inst) → IsOwn (ready_of d k (short l) value).operand
short_operand (Some (In (Global j x))) d k value = tt
short_operand (Some (In (Variable j x))) d k value = tt
short_operand (Some (In (Temporary j x))) d k value = tt
short_operand (Some (In (Argument j x))) d k value = tt
short_operand (Some (Number z)) d k value = short_number (is_short z) z d k value
short_operand None d k value = tt

-- What is taken so is the function's own.
abbrev pub TakesOwn : Taking → Type 0
TakesOwn Any = ⊥
TakesOwn y = Unit {0}

pub left_own : (o : Operation) → takes_long o ≡ true → TakesOwn (left_taking o)
left_own (operation.Arithmetic x k) e = tt
left_own (operation.Shift x k) e = tt
left_own o e = subst (λ (b : Bool). TakesOwn (long_taking b)) (sym e) tt

pub own_taken : (y : Taking) (l : Option Operand) (d : ℕ) (k : Kind) (value : ℕ → Spot → List Inst) → TakesOwn y
    → IsOwn (ready_of d k (taken_by y l) value).operand
own_taken Any l d k value e = absurd e
own_taken Own l d k value e = own_operand l d k value
own_taken Short l d k value e = short_operand l d k value

own_choice : (b : Bool) (d : ℕ) (p : Part) (x : Operand) → IsOwn x
    → IsOwn (if b then kept d p.kind p.value else record { before = []; operand = x }).operand
own_choice true d p x h = tt
own_choice false d p x h = h

own_unless : (l : Option Operand) (d : ℕ) (p : Part) (changes : Operand → Bool) → IsOwn (unless_changed d p (own l) changes).operand
own_unless (Some (In (Global j x))) d p changes = tt
own_unless (Some (In (Variable j x))) d p changes = own_choice (changes (In (Variable j x))) d p (In (Variable j x)) tt
own_unless (Some (In (Temporary j x))) d p changes = own_choice (changes (In (Temporary j x))) d p (In (Temporary j x)) tt
own_unless (Some (In (Argument j x))) d p changes = own_choice (changes (In (Argument j x))) d p (In (Argument j x)) tt
own_unless (Some (Number z)) d p changes = own_choice (changes (Number z)) d p (Number z) tt
own_unless None d p changes = tt

number_unless : (b : Bool) (z : ℤ) (d : ℕ) (p : Part) (changes : Operand → Bool)
    → IsOwn (unless_changed d p (if b then Some (Number z) else None) changes).operand
number_unless true z d p changes = own_choice (changes (Number z)) d p (Number z) tt
number_unless false z d p changes = tt

short_unless : (l : Option Operand) (d : ℕ) (p : Part) (changes : Operand → Bool) → IsOwn (unless_changed d p (short l) changes).operand
short_unless (Some (In (Global j x))) d p changes = tt
short_unless (Some (In (Variable j x))) d p changes = own_choice (changes (In (Variable j x))) d p (In (Variable j x)) tt
short_unless (Some (In (Temporary j x))) d p changes = own_choice (changes (In (Temporary j x))) d p (In (Temporary j x)) tt
short_unless (Some (In (Argument j x))) d p changes = own_choice (changes (In (Argument j x))) d p (In (Argument j x)) tt
short_unless (Some (Number z)) d p changes = number_unless (is_short z) z d p changes
short_unless None d p changes = tt

pub own_before : (y : Taking) (l : Option Operand) (d : ℕ) (p : Part) (changes : Operand → Bool) → TakesOwn y
    → IsOwn (unless_changed d p (taken_by y l) changes).operand
own_before Any l d p changes e = absurd e
own_before Own l d p changes e = own_unless l d p changes
own_before Short l d p changes e = short_unless l d p changes

own_some : (l : Option Operand) (x : Operand) → own l ≡ Some x → l ≡ Some x
own_some (Some (In (Global j y))) x e = absurd (none-some x e)
own_some (Some (In (Variable j y))) x e = e
own_some (Some (In (Temporary j y))) x e = e
own_some (Some (In (Argument j y))) x e = e
own_some (Some (Number z)) x e = e
own_some None x e = e

number_some : (b : Bool) (z : ℤ) (x : Operand) → (if b then Some (Number z) else None) ≡ Some x → Some (Number z) ≡ Some x
number_some true z x e = e
number_some false z x e = absurd (none-some x e)

short_some : (l : Option Operand) (x : Operand) → short l ≡ Some x → l ≡ Some x
short_some (Some (In (Global j y))) x e = absurd (none-some x e)
short_some (Some (In (Variable j y))) x e = e
short_some (Some (In (Temporary j y))) x e = e
short_some (Some (In (Argument j y))) x e = e
short_some (Some (Number z)) x e = number_some (is_short z) z x e
short_some None x e = e

taken_some : (y : Taking) (l : Option Operand) (x : Operand) → taken_by y l ≡ Some x → l ≡ Some x
taken_some Any l x e = e
taken_some Own l x e = own_some l x e
taken_some Short l x e = short_some l x e

module _ (m : Module) (f : Function) where
  -- ---- places

  pub written : (cs : List Callee) (s : Spot) → IsRead m f s → IsWritten m f cs s
  written cs (Variable k x) h = h
  written cs (Global k x) h = h
  written cs (Temporary k n) h = h
  written cs (Argument k i) h = absurd h

  pub taken_as : (j k : Kind) (x : Operand) → j ≡ k → IsTaken m f j x → IsTaken m f k x
  taken_as j k x e h = subst (λ i. IsTaken m f i x) e h

  pub move : (cs : List Callee) (s : Spot) (x : Operand) → IsWritten m f cs s → IsTaken m f (spot_kind s) x → Plain m f cs (Move s x ∷ [])
  move cs s x w t = single m f No cs (Move s x) (λ pc g a. (w, t, g))

  pub hand : (cs : List Callee) (s : Spot) (x : Operand) → IsWritten m f cs s → IsTaken m f (spot_kind s) x → Plain m f cs (Hand s x ∷ [])
  hand cs s x w t = single m f No cs (Hand s x) (λ pc g a. (w, t, g))

  pub then_one : (cs : List Callee) (i j : Inst) → Plain m f cs (i ∷ []) → Plain m f cs (j ∷ []) → Plain m f cs (i ∷ j ∷ [])
  then_one cs i j p q = both_plain m f cs cs cs (i ∷ []) (j ∷ []) p q

  -- ---- parts

  abbrev pub Passing : List Callee → (passes : ℕ) → ℕ → Type 0
  Passing cs n q = GoesOn m f cs (q + n)

  -- Code that leaves a number of this kind at a place, code of a condition, and both.
  abbrev pub ProperValue : Kind → (ℕ → Spot → List Inst) → Type 0
  ProperValue k value = (cs : List Callee) (d : ℕ) (s : Spot) → IsWritten m f cs s → spot_kind s ≡ k → Plain m f cs (value d s)

  abbrev pub ProperBranches : (Bool → ℕ → ℕ → List Inst) → Type 0
  ProperBranches branches = (cs : List Callee) (w : Bool) (d n : ℕ) → Piece m f (Passing cs n) cs cs (branches w d n)

  abbrev pub ProperLeaf : Kind → Option Operand → Type 0
  ProperLeaf k l = (x : Operand) → l ≡ Some x → IsTaken m f k x

  pub record ProperPart (k : Kind) (p : Part) : Type 0 where
    pub kind : p.kind ≡ k
    pub leaf : ProperLeaf k p.leaf
    pub value : ProperValue k p.value
    pub branches : ProperBranches p.branches

  pub part_as : (j k : Kind) (p : Part) → j ≡ k → ProperPart j p → ProperPart k p
  part_as j k p e h = subst (λ i. ProperPart i p) e h

  pub seen : (y : Taking) (k : Kind) (p : Part) → ProperPart k p → ProperPart k (seen_by y p)
  seen y k p h = record {
    kind = h.kind;
    leaf = λ x e. h.leaf x (taken_some y p.leaf x e);
    value = h.value;
    branches = h.branches;
  }

  -- ---- operands

  pub record ProperReady (k : Kind) (r : Ready) : Type 0 where
    pub before : (cs : List Callee) → Plain m f cs r.before
    pub taken : IsTaken m f k r.operand

  pub is_kept : (d : ℕ) (j k : Kind) (value : ℕ → Spot → List Inst) → j ≡ k → ProperValue k value → ProperReady k (kept d j value)
  is_kept d j k value e h = record { before = λ cs. h cs (suc d) (Temporary j d) tt e; taken = (tt, e) }

  as_it_is : (k : Kind) (x : Operand) → IsTaken m f k x → ProperReady k (record { before = []; operand = x })
  as_it_is k x h = record { before = λ cs. none m f No cs; taken = h }

  pub is_ready : (d : ℕ) (j k : Kind) (l : Option Operand) (value : ℕ → Spot → List Inst) → j ≡ k → ProperLeaf k l → ProperValue k value
      → ProperReady k (ready_of d j l value)
  is_ready d j k (Some x) value e t h = as_it_is k x (t x refl)
  is_ready d j k None value e t h = is_kept d j k value e h

  pub part_ready : (d : ℕ) (k : Kind) (p : Part) → ProperPart k p → ProperReady k (ready d p)
  part_ready d k p h = is_ready d p.kind k p.leaf p.value h.kind h.leaf h.value

  chosen : (b : Bool) (d : ℕ) (k : Kind) (p : Part) (x : Operand) → ProperPart k p → IsTaken m f k x
      → ProperReady k (if b then kept d p.kind p.value else record { before = []; operand = x })
  chosen true d k p x h t = is_kept d p.kind k p.value h.kind h.value
  chosen false d k p x h t = as_it_is k x t

  pub is_before : (d : ℕ) (k : Kind) (p : Part) (l : Option Operand) (changes : Operand → Bool) → ProperPart k p → ProperLeaf k l
      → ProperReady k (unless_changed d p l changes)
  is_before d k p (Some x) changes h t = chosen (changes x) d k p x h (t x refl)
  is_before d k p None changes h t = is_kept d p.kind k p.value h.kind h.value

  -- an instruction behind what its operands need
  pub of_one : (z : ℕ → Type 0) (cs to : List Callee) (k : Kind) (x : Ready) (last : Operand → Inst) → ProperReady k x
      → Piece m f z cs to (last x.operand ∷ []) → Piece m f z cs to (one x last)
  of_one z cs to k x last h p =
      both m f No z z cs cs to x.before (last x.operand ∷ []) (h.before cs) p (λ q a b. tt) (λ q a. a)

  pub of_two : (z : ℕ → Type 0) (cs to : List Callee) (j k : Kind) (x y : Ready) (last : Operand → Operand → Inst) → ProperReady j x
      → ProperReady k y → Piece m f z cs to (last x.operand y.operand ∷ []) → Piece m f z cs to (two x y last)
  of_two z cs to j k x y last h g p =
      both m f No z z cs cs to (x.before ++ y.before) (last x.operand y.operand ∷ [])
      (both_plain m f cs cs cs x.before y.before (h.before cs) (g.before cs)) p (λ q a b. tt) (λ q a. a)

  -- ---- branches

  pub branching : (cs : List Callee) (w : Bool) (k : Kind) (o : Comparison) (x y : Operand) (n : ℕ) → IsTaken m f k x → IsTaken m f k y
      → Piece m f (Passing cs n) cs cs (branch w k o x y n ∷ [])
  branching cs true k o x y n h g = single m f (Passing cs n) cs (Branch k o x y n) (λ pc a b. (h, g, a, b))
  branching cs false k o x y n h g = single m f (Passing cs n) cs (Branch k (opposite o) x y n) (λ pc a b. (h, g, a, b))

  pub testing : (cs : List Callee) (w : Bool) (k : Kind) (x : Ready) (n : ℕ) → ProperReady k x
      → Piece m f (Passing cs n) cs cs (tested w k x n)
  testing cs w k x n h =
      of_one (Passing cs n) cs cs k x (λ y. branch w k c.Unequal y (Number (pos 0)) n) h
      (branching cs w k c.Unequal x.operand (Number (pos 0)) n h.taken (zero_in k))
