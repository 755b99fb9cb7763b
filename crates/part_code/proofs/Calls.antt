-- Arguments, calls and prints.
use Rattle.std.proofs.Common.{◌≡◌, ℕ, suc, ◌+◌, ◌<◌, ◌≤◌, Bool, true, false, List, [], ◌∷◌, ◌++◌, length, Some, refl, sym, subst}
use Rattle.std.proofs.Common.{arith}
use Rattle.std.specs.Prelude.{slice_get}
use Rattle.limbo_values.specs.declared.number.Kind.{Kind}
use Rattle.limbo_values.specs.declared.number.Kind.TheVariants as kind
use Rattle.limbo_typed.specs.declared.print.Piece.{Piece as Written}
use Rattle.slot_code.specs.Code as code
use Rattle.slot_code.specs.Code.{Spot, Temporary, Argument, In, Inst, Hand, Begin, Format, Function, Module}
use Rattle.dis_objects.specs.Frames.{Callee, Calls, Prints, printed_kinds}
use Rattle.dis_objects.specs.Proper.{IsArgument, AllTellNumbers}
use Rattle.typed_lower.specs.Terms.{Part, first_put, all_put, made_ready, answered}
use Rattle.part_code.proofs.Level.{No, Piece, Plain, both_plain, none, single}
use Rattle.part_code.proofs.Operands.{hand, ProperValue, ProperPart}

module _ (m : Module) (f : Function) where
  abbrev pub ProperParts : List Kind → List Part → Type 0
  ProperParts [] [] = Unit {0}
  ProperParts [] (p ∷ ps) = ⊥
  ProperParts (k ∷ ks) [] = ⊥
  ProperParts (k ∷ ks) (p ∷ ps) = ProperPart m f k p × ProperParts ks ps

  -- Numbers of these kinds are arguments of what is being made ready, from this one on.
  abbrev pub Given : List Callee → ℕ → List Kind → Type 0
  Given cs i [] = Unit {0}
  Given cs i (k ∷ ks) = IsArgument m f cs k i × Given cs (suc i) ks

  given_by : (cs : List Callee) (i : ℕ) (ks : List Kind) → ((j : ℕ) (k : Kind) → slice_get ks j ≡ Some k → IsArgument m f cs k (i + j))
      → Given cs i ks
  given_by cs i [] h = tt
  given_by cs i (k ∷ ks) h = (
    subst (λ j. IsArgument m f cs k j) (omega arith) (h 0 k refl),
    given_by cs (suc i) ks (λ j n e. subst (λ l. IsArgument m f cs n l) (omega arith) (h (suc j) n e)),
  )

  pub given_first : (cs : List Callee) (ks : List Kind) → ((j : ℕ) (k : Kind) → slice_get ks j ≡ Some k → IsArgument m f cs k j)
      → Given cs 0 ks
  given_first cs ks h = given_by cs 0 ks (λ j k e. subst (λ l. IsArgument m f cs k l) (omega arith) (h j k e))

  argument : (cs : List Callee) (j k : Kind) (i : ℕ) → j ≡ k → IsArgument m f cs k i → IsArgument m f cs j i
  argument cs j k i e h = subst (λ n. IsArgument m f cs n i) (sym e) h

  put_all : (cs : List Callee) (i : ℕ) (ks : List Kind) (ps : List Part) (d : ℕ) → ProperParts ks ps → Given cs i ks
      → Plain m f cs (all_put i ps d)
  put_all cs i [] [] d h g = none m f No cs
  put_all cs i [] (p ∷ ps) d h g = absurd h
  put_all cs i (k ∷ ks) [] d h g = absurd h
  put_all cs i (k ∷ ks) (p ∷ ps) d h g =
      both_plain m f cs cs cs (p.value d (Argument p.kind i)) (all_put (suc i) ps d)
      (h.0.value cs d (Argument p.kind i) (argument cs p.kind k i h.0.kind g.0) h.0.kind) (put_all cs (suc i) ks ps d h.1 g.1)

  put_first : (b : Bool) (cs : List Callee) (to : Callee) (begin : Inst) (k : Kind) (p : Part) (d : ℕ)
      → Piece m f No cs (to ∷ cs) (begin ∷ []) → ProperPart m f k p → IsArgument m f (to ∷ cs) k 0
      → Piece m f No cs (to ∷ cs) (first_put b p begin d)
  put_first true cs to begin k p d o h g =
      let i = Hand (Argument p.kind 0) (In (Temporary p.kind d)) in
      both_plain m f cs cs (to ∷ cs) (p.value (suc d) (Temporary p.kind d)) (begin ∷ i ∷ [])
      (h.value cs (suc d) (Temporary p.kind d) tt h.kind)
      (both_plain m f cs (to ∷ cs) (to ∷ cs) (begin ∷ []) (i ∷ []) o
      (hand m f (to ∷ cs) (Argument p.kind 0) (In (Temporary p.kind d)) (argument (to ∷ cs) p.kind k 0 h.kind g) (tt, refl)))
  put_first false cs to begin k p d o h g =
      both_plain m f cs (to ∷ cs) (to ∷ cs) (begin ∷ []) (p.value d (Argument p.kind 0)) o
      (h.value (to ∷ cs) d (Argument p.kind 0) (argument (to ∷ cs) p.kind k 0 h.kind g) h.kind)

  making : (cs : List Callee) (to : Callee) (begin : Inst) (ks : List Kind) (ps : List Part) (d : ℕ)
      → Piece m f No cs (to ∷ cs) (begin ∷ []) → ProperParts ks ps → Given (to ∷ cs) 0 ks
      → Piece m f No cs (to ∷ cs) (made_ready begin ps d)
  making cs to begin [] [] d o h g = o
  making cs to begin [] (p ∷ ps) d o h g = absurd h
  making cs to begin (k ∷ ks) [] d o h g = absurd h
  making cs to begin (k ∷ ks) (p ∷ ps) d o h g =
      both_plain m f cs (to ∷ cs) (to ∷ cs) (first_put p.calls p begin d) (all_put 1 ps d)
      (put_first p.calls cs to begin k p d o h.0 g.0) (put_all (to ∷ cs) 1 ks ps d h.1 g.1)

  -- ---- calls

  -- A function that takes so many arguments, and has an answer of this kind.
  pub record Callable (number : ℕ) (k : Kind) (arguments : ℕ) : Type 0 where
    pub function : Function
    pub there : slice_get m.functions number ≡ Some function
    pub answer : function.answer ≡ k
    pub takes : function.parameters ≡ arguments
    pub has : function.parameters ≤ length function.variables
    pub numbers : (j : ℕ) → j < function.parameters → (i : Kind) × (slice_get function.variables j ≡ Some (Some i))

  pub calling : (g : ℕ) (k : Kind) (n : ℕ) (ks : List Kind) (ps : List Part) → Callable g k n → ProperParts ks ps
      → ((cs : List Callee) → Given (Calls g ∷ cs) 0 ks) → ProperValue m f k (λ d s. made_ready (Begin g) ps d ++ code.Call k g n s ∷ [])
  calling g k n ks ps c h a cs d s w e =
      both_plain m f cs (Calls g ∷ cs) cs (made_ready (Begin g) ps d) (code.Call k g n s ∷ [])
      (making cs (Calls g) (Begin g) ks ps d (single m f No cs (Begin g) (λ pc x y. (c.function, c.there, x))) h (a cs))
      (single m f No (Calls g ∷ cs) (code.Call k g n s)
      (λ pc x y. (
        record {
          others = cs;
          last = refl;
          function = c.function;
          there = c.there;
          answer = c.answer;
          takes = c.takes;
          has = c.has;
          numbers = c.numbers;
          written = w;
          kind = e;
        },
        x,
      )))

  -- ---- prints

  pub prints : (pieces : List Written) (n : ℕ) (ps : List Part) → AllTellNumbers pieces → length (printed_kinds pieces) ≡ n → ProperParts (printed_kinds pieces) ps
      → ProperValue m f kind.Int (λ d s. made_ready (Format pieces) ps d ++ answered n d s)
  prints pieces n ps t l h cs d s w e =
      let i = code.Print n (Temporary kind.Int d) in
      let j = Hand s (In (Temporary kind.Int d)) in
      both_plain m f cs (Prints pieces ∷ cs) cs (made_ready (Format pieces) ps d) (i ∷ j ∷ [])
      (making cs (Prints pieces) (Format pieces) (printed_kinds pieces) ps d (single m f No cs (Format pieces) (λ pc x y. x)) h
      (given_first (Prints pieces ∷ cs) (printed_kinds pieces) (λ q k z. z)))
      (both_plain m f (Prints pieces ∷ cs) cs cs (i ∷ []) (j ∷ [])
      (single m f No (Prints pieces ∷ cs) i
      (λ pc x y. (record { others = cs; pieces = pieces; last = refl; holes = t; takes = l; written = tt; kind = refl }, x)))
      (hand m f cs s (In (Temporary kind.Int d)) w (tt, sym e)))
