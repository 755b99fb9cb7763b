-- What the machine does with numbers, once its operands are read.
use Rattle.std.proofs.Common.{◌≡◌, ℕ, ℤ, pos, List, Ok, refl, ap, ◌∙◌}
use Rattle.dis_isa.specs.declared.inst.Middle.{Middle}
use Rattle.dis_isa.specs.declared.inst.Middle.TheVariants as middle
use Rattle.dis_isa.specs.declared.inst.Operand as isa
use Rattle.dis_isa.specs.declared.inst.Operand.TheVariants as operand
use Rattle.dis_isa.specs.declared.op.Op.TheVariants as op
use Rattle.dis_file.specs.declared.object.Object.{Object}
use Rattle.limbo_values.specs.declared.number.Kind.{Kind}
use Rattle.limbo_values.specs.declared.number.Kind.TheVariants.{Byte, Int, Big}
use Rattle.limbo_values.specs.declared.operator.Operator.{Operator}
use Rattle.limbo_values.specs.declared.operator.Operator.TheVariants as operator
use Rattle.limbo_values.specs.declared.operator.Shift.{Shift}
use Rattle.limbo_values.specs.declared.operator.Shift.TheVariants as shift
use Rattle.limbo_values.specs.declared.operator.Comparison.{Comparison}
use Rattle.limbo_values.specs.declared.operator.Comparison.TheVariants as comparison
use Rattle.limbo_values.specs.Operators.{applied, shifted, compared}
use Rattle.dis_meaning.specs.Words.{Word, Plain, Refer, Address, Access, Found, Raises, ◌>>=◌, number_in, plain, word_at}
use Rattle.dis_meaning.specs.World.{World}
use Rattle.dis_meaning.specs.Process.{Process, Does}
use Rattle.dis_meaning.specs.Places.{Spot, Memory, spot, read, store, store_number, read_number, words_at, place_in, source_of}
use Rattle.dis_meaning.specs.Places.{source_plain, given_of, middle_of}
use Rattle.dis_meaning.specs.Step.{obey, next, results, target, branch, jumps}
use Rattle.dis_objects.specs.Code.{inst, move_op, arithmetic_op, shift_op, branch_op}
use Rattle.dis_follows.specs.Numbers.{IsPlain}
use Rattle.dis_follows.proofs.Stores.{goes_on}

module _ (limit : ℕ) (o : Object) (x : World) (r : Process) where
  -- ---- the plain word of a source

  pub record PlainSource (s : isa.Operand) (z : ℤ) : Type 0 where
    pub word : Word
    pub is : source_plain x r s ≡ Found word
    pub is_plain : IsPlain word
    pub reads : number_in word ≡ Found z

  plain_of : (w : Word) (z : ℤ) → number_in w ≡ Found z → (plain w ≡ Found w) × IsPlain w
  plain_of (Plain n) z e = (refl, tt)
  plain_of (Address p a) z e = (refl, tt)
  plain_of (Refer q) z e = absurd (no_number e)
    where
      no_number : number_in (Refer q) ≡ Found z → ⊥
      no_number e = cc

  far : (a : Access Spot) (z : ℤ) → (a >>= read_number Int x r) ≡ Found z
      → (w : Word) × ((a >>= λ s. read x r s >>= plain) ≡ Found w) × IsPlain w × (number_in w ≡ Found z)
  far a z e =
      let g = goes_on a (read_number Int x r) z e in
      let h = goes_on (words_at x r g.found) (λ words. word_at words (place_in g.found) >>= number_in) z g.on in
      let i = goes_on (word_at h.found (place_in g.found)) number_in z h.on in
      let q = plain_of i.found z i.on in (
        i.found,
        ap (λ a. a >>= λ s. read x r s >>= plain) g.is
            ∙ ap (λ a. (a >>= λ words. word_at words (place_in g.found)) >>= plain) h.is
            ∙ ap (λ a. a >>= plain) i.is ∙ q.0,
        q.1,
        i.on,
      )

  pub plain_source : (s : isa.Operand) (z : ℤ) → source_of Int x r s ≡ Found z → PlainSource s z
  plain_source (operand.Imm n) z e = record { word = Plain n; is = refl; is_plain = tt; reads = e }
  plain_source (operand.Fp at) z e =
      let f = far (spot x r (operand.Fp at)) z e in record { word = f.0; is = f.1; is_plain = f.2; reads = f.3 }
  plain_source (operand.Mp at) z e =
      let f = far (spot x r (operand.Mp at)) z e in record { word = f.0; is = f.1; is_plain = f.2; reads = f.3 }
  plain_source (operand.IndFp i at) z e =
      let f = far (spot x r (operand.IndFp i at)) z e in record { word = f.0; is = f.1; is_plain = f.2; reads = f.3 }
  plain_source (operand.IndMp i at) z e =
      let f = far (spot x r (operand.IndMp i at)) z e in record { word = f.0; is = f.1; is_plain = f.2; reads = f.3 }
  plain_source operand.None z e =
      let f = far (spot x r operand.None) z e in record { word = f.0; is = f.1; is_plain = f.2; reads = f.3 }

  -- ---- moves

  pub moves_int : (s d : isa.Operand) (w : Word) (t : Spot) (after : Memory) → source_plain x r s ≡ Found w → spot x r d ≡ Found t
      → store x r t w ≡ Found after → obey limit o x r (inst op.Movw s middle.None d) op.Movw ≡ Found (next after)
  moves_int s d w t after a b c =
      ap (λ a. a >>= λ w. spot x r d >>= λ d. store x r d w >>= λ m. Found (next m)) a
      ∙ ap (λ a. a >>= λ d. store x r d w >>= λ m. Found (next m)) b ∙ ap (λ a. a >>= λ m. Found (next m)) c

  abbrev pub Moves : Kind → Type 0
  Moves k =
      (s d : isa.Operand) (z : ℤ) (t : Spot) (after : Memory) → source_of k x r s ≡ Found z → spot x r d ≡ Found t
      → store_number k x r t z ≡ Found after → obey limit o x r (inst (move_op k) s middle.None d) (move_op k) ≡ Found (next after)

  by_moves : (k : Kind) (s d : isa.Operand) (z : ℤ) (t : Spot) (after : Memory) → source_of k x r s ≡ Found z → spot x r d ≡ Found t
      → store_number k x r t z ≡ Found after
      → (source_of k x r s >>= λ s. spot x r d >>= λ d. results k x r d (Ok s)) ≡ Found (next after)
  by_moves k s d z t after a b c =
      ap (λ a. a >>= λ s. spot x r d >>= λ d. results k x r d (Ok s)) a ∙ ap (λ a. a >>= λ d. results k x r d (Ok z)) b
      ∙ ap (λ a. a >>= λ m. Found (next m)) c

  pub moves_byte : Moves Byte
  moves_byte s d z t after a b c = by_moves Byte s d z t after a b c

  pub moves_big : Moves Big
  moves_big s d z t after a b c = by_moves Big s d z t after a b c

  -- ---- operations on two numbers

  by_row : (k : Kind) (n : Operator) (s d : isa.Operand) (mid : Middle) (a b : ℤ) (t : Spot) (does : Access Does)
      → source_of k x r s ≡ Found b
      → middle_of k x r mid d ≡ Found a → spot x r d ≡ Found t → results k x r t (applied k n a b) ≡ does
      → (source_of k x r s >>= λ s. middle_of k x r mid d >>= λ m. spot x r d >>= λ d. results k x r d (applied k n m s)) ≡ does
  by_row k n s d mid a b t does e f g h =
      ap (λ e. e >>= λ s. middle_of k x r mid d >>= λ m. spot x r d >>= λ d. results k x r d (applied k n m s)) e
      ∙ ap (λ e. e >>= λ m. spot x r d >>= λ d. results k x r d (applied k n m b)) f
      ∙ ap (λ e. e >>= λ d. results k x r d (applied k n a b)) g ∙ h

  calculates_to : (n : Operator) (k : Kind) (s d : isa.Operand) (mid : Middle) (a b : ℤ) (t : Spot) (does : Access Does)
      → source_of k x r s ≡ Found b → middle_of k x r mid d ≡ Found a → spot x r d ≡ Found t → results k x r t (applied k n a b) ≡ does
      → obey limit o x r (inst (arithmetic_op n k) s mid d) (arithmetic_op n k) ≡ does
  calculates_to operator.Add Byte s d mid a b t does e f g h = by_row Byte operator.Add s d mid a b t does e f g h
  calculates_to operator.Add Int s d mid a b t does e f g h = by_row Int operator.Add s d mid a b t does e f g h
  calculates_to operator.Add Big s d mid a b t does e f g h = by_row Big operator.Add s d mid a b t does e f g h
  calculates_to operator.Subtract Byte s d mid a b t does e f g h = by_row Byte operator.Subtract s d mid a b t does e f g h
  calculates_to operator.Subtract Int s d mid a b t does e f g h = by_row Int operator.Subtract s d mid a b t does e f g h
  calculates_to operator.Subtract Big s d mid a b t does e f g h = by_row Big operator.Subtract s d mid a b t does e f g h
  calculates_to operator.Multiply Byte s d mid a b t does e f g h = by_row Byte operator.Multiply s d mid a b t does e f g h
  calculates_to operator.Multiply Int s d mid a b t does e f g h = by_row Int operator.Multiply s d mid a b t does e f g h
  calculates_to operator.Multiply Big s d mid a b t does e f g h = by_row Big operator.Multiply s d mid a b t does e f g h
  calculates_to operator.Divide Byte s d mid a b t does e f g h = by_row Byte operator.Divide s d mid a b t does e f g h
  calculates_to operator.Divide Int s d mid a b t does e f g h = by_row Int operator.Divide s d mid a b t does e f g h
  calculates_to operator.Divide Big s d mid a b t does e f g h = by_row Big operator.Divide s d mid a b t does e f g h
  calculates_to operator.Remainder Byte s d mid a b t does e f g h = by_row Byte operator.Remainder s d mid a b t does e f g h
  calculates_to operator.Remainder Int s d mid a b t does e f g h = by_row Int operator.Remainder s d mid a b t does e f g h
  calculates_to operator.Remainder Big s d mid a b t does e f g h = by_row Big operator.Remainder s d mid a b t does e f g h
  calculates_to operator.And Byte s d mid a b t does e f g h = by_row Byte operator.And s d mid a b t does e f g h
  calculates_to operator.And Int s d mid a b t does e f g h = by_row Int operator.And s d mid a b t does e f g h
  calculates_to operator.And Big s d mid a b t does e f g h = by_row Big operator.And s d mid a b t does e f g h
  calculates_to operator.Xor Byte s d mid a b t does e f g h = by_row Byte operator.Xor s d mid a b t does e f g h
  calculates_to operator.Xor Int s d mid a b t does e f g h = by_row Int operator.Xor s d mid a b t does e f g h
  calculates_to operator.Xor Big s d mid a b t does e f g h = by_row Big operator.Xor s d mid a b t does e f g h
  calculates_to operator.Or Byte s d mid a b t does e f g h = by_row Byte operator.Or s d mid a b t does e f g h
  calculates_to operator.Or Int s d mid a b t does e f g h = by_row Int operator.Or s d mid a b t does e f g h
  calculates_to operator.Or Big s d mid a b t does e f g h = by_row Big operator.Or s d mid a b t does e f g h

  pub calculates : (n : Operator) (k : Kind) (s d : isa.Operand) (mid : Middle) (a b : ℤ) (t : Spot) (does : Does)
      → source_of k x r s ≡ Found b → middle_of k x r mid d ≡ Found a → spot x r d ≡ Found t
      → results k x r t (applied k n a b) ≡ Found does
      → obey limit o x r (inst (arithmetic_op n k) s mid d) (arithmetic_op n k) ≡ Found does
  calculates n k s d mid a b t does e f g h = calculates_to n k s d mid a b t (Found does) e f g h

  pub calculates_raises : (n : Operator) (k : Kind) (s d : isa.Operand) (mid : Middle) (a b : ℤ) (t : Spot) (text : List ℕ)
      → source_of k x r s ≡ Found b → middle_of k x r mid d ≡ Found a → spot x r d ≡ Found t
      → results k x r t (applied k n a b) ≡ Raises text
      → obey limit o x r (inst (arithmetic_op n k) s mid d) (arithmetic_op n k) ≡ Raises text
  calculates_raises n k s d mid a b t text e f g h = calculates_to n k s d mid a b t (Raises text) e f g h

  by_shift : (k : Kind) (n : Shift) (s d : isa.Operand) (mid : Middle) (a b : ℤ) (t : Spot) (does : Access Does)
      → source_of Int x r s ≡ Found b
      → middle_of k x r mid d ≡ Found a → spot x r d ≡ Found t → results k x r t (Ok (shifted k n a b)) ≡ does
      → (source_of Int x r s >>= λ s. middle_of k x r mid d >>= λ m. spot x r d >>= λ d. results k x r d (Ok (shifted k n m s))) ≡ does
  by_shift k n s d mid a b t does e f g h =
      ap (λ e. e >>= λ s. middle_of k x r mid d >>= λ m. spot x r d >>= λ d. results k x r d (Ok (shifted k n m s))) e
      ∙ ap (λ e. e >>= λ m. spot x r d >>= λ d. results k x r d (Ok (shifted k n m b))) f
      ∙ ap (λ e. e >>= λ d. results k x r d (Ok (shifted k n a b))) g ∙ h

  shifts_to : (n : Shift) (k : Kind) (s d : isa.Operand) (mid : Middle) (a b : ℤ) (t : Spot) (does : Access Does)
      → source_of Int x r s ≡ Found b → middle_of k x r mid d ≡ Found a → spot x r d ≡ Found t
      → results k x r t (Ok (shifted k n a b)) ≡ does → obey limit o x r (inst (shift_op n k) s mid d) (shift_op n k) ≡ does
  shifts_to shift.Left Byte s d mid a b t does e f g h = by_shift Byte shift.Left s d mid a b t does e f g h
  shifts_to shift.Left Int s d mid a b t does e f g h = by_shift Int shift.Left s d mid a b t does e f g h
  shifts_to shift.Left Big s d mid a b t does e f g h = by_shift Big shift.Left s d mid a b t does e f g h
  shifts_to shift.Right Byte s d mid a b t does e f g h = by_shift Byte shift.Right s d mid a b t does e f g h
  shifts_to shift.Right Int s d mid a b t does e f g h = by_shift Int shift.Right s d mid a b t does e f g h
  shifts_to shift.Right Big s d mid a b t does e f g h = by_shift Big shift.Right s d mid a b t does e f g h

  pub shifts : (n : Shift) (k : Kind) (s d : isa.Operand) (mid : Middle) (a b : ℤ) (t : Spot) (does : Does)
      → source_of Int x r s ≡ Found b → middle_of k x r mid d ≡ Found a → spot x r d ≡ Found t
      → results k x r t (Ok (shifted k n a b)) ≡ Found does → obey limit o x r (inst (shift_op n k) s mid d) (shift_op n k) ≡ Found does
  shifts n k s d mid a b t does e f g h = shifts_to n k s d mid a b t (Found does) e f g h

  pub shifts_raise : (n : Shift) (k : Kind) (s d : isa.Operand) (mid : Middle) (a b : ℤ) (t : Spot) (text : List ℕ)
      → source_of Int x r s ≡ Found b → middle_of k x r mid d ≡ Found a → spot x r d ≡ Found t
      → results k x r t (Ok (shifted k n a b)) ≡ Raises text → obey limit o x r (inst (shift_op n k) s mid d) (shift_op n k) ≡ Raises text
  shifts_raise n k s d mid a b t text e f g h = shifts_to n k s d mid a b t (Raises text) e f g h

  -- ---- branches

  by_test : (k : Kind) (c : Comparison) (s d : isa.Operand) (mid : Middle) (a b : ℤ) (pc : ℕ) → source_of k x r s ≡ Found a
      → given_of k x r mid ≡ Found b → target o d ≡ Found pc
      → (source_of k x r s >>= λ s. given_of k x r mid >>= λ m. target o d >>= λ pc. Found (branch x r (compared c s m) pc))
      ≡ Found (branch x r (compared c a b) pc)
  by_test k c s d mid a b pc e f g =
      ap (λ e. e >>= λ s. given_of k x r mid >>= λ m. target o d >>= λ pc. Found (branch x r (compared c s m) pc)) e
      ∙ ap (λ e. e >>= λ m. target o d >>= λ pc. Found (branch x r (compared c a m) pc)) f
      ∙ ap (λ e. e >>= λ pc. Found (branch x r (compared c a b) pc)) g

  pub branches : (c : Comparison) (k : Kind) (s d : isa.Operand) (mid : Middle) (a b : ℤ) (pc : ℕ) → source_of k x r s ≡ Found a
      → given_of k x r mid ≡ Found b → target o d ≡ Found pc
      → obey limit o x r (inst (branch_op c k) s mid d) (branch_op c k) ≡ Found (branch x r (compared c a b) pc)
  branches comparison.Equal Byte s d mid a b pc e f g = by_test Byte comparison.Equal s d mid a b pc e f g
  branches comparison.Equal Int s d mid a b pc e f g = by_test Int comparison.Equal s d mid a b pc e f g
  branches comparison.Equal Big s d mid a b pc e f g = by_test Big comparison.Equal s d mid a b pc e f g
  branches comparison.Unequal Byte s d mid a b pc e f g = by_test Byte comparison.Unequal s d mid a b pc e f g
  branches comparison.Unequal Int s d mid a b pc e f g = by_test Int comparison.Unequal s d mid a b pc e f g
  branches comparison.Unequal Big s d mid a b pc e f g = by_test Big comparison.Unequal s d mid a b pc e f g
  branches comparison.Less Byte s d mid a b pc e f g = by_test Byte comparison.Less s d mid a b pc e f g
  branches comparison.Less Int s d mid a b pc e f g = by_test Int comparison.Less s d mid a b pc e f g
  branches comparison.Less Big s d mid a b pc e f g = by_test Big comparison.Less s d mid a b pc e f g
  branches comparison.AtMost Byte s d mid a b pc e f g = by_test Byte comparison.AtMost s d mid a b pc e f g
  branches comparison.AtMost Int s d mid a b pc e f g = by_test Int comparison.AtMost s d mid a b pc e f g
  branches comparison.AtMost Big s d mid a b pc e f g = by_test Big comparison.AtMost s d mid a b pc e f g
  branches comparison.Greater Byte s d mid a b pc e f g = by_test Byte comparison.Greater s d mid a b pc e f g
  branches comparison.Greater Int s d mid a b pc e f g = by_test Int comparison.Greater s d mid a b pc e f g
  branches comparison.Greater Big s d mid a b pc e f g = by_test Big comparison.Greater s d mid a b pc e f g
  branches comparison.AtLeast Byte s d mid a b pc e f g = by_test Byte comparison.AtLeast s d mid a b pc e f g
  branches comparison.AtLeast Int s d mid a b pc e f g = by_test Int comparison.AtLeast s d mid a b pc e f g
  branches comparison.AtLeast Big s d mid a b pc e f g = by_test Big comparison.AtLeast s d mid a b pc e f g

  -- ---- conversions

  pub converts_by : (from to : Kind) (z : ℤ) (s d : isa.Operand) (a : ℤ) (t : Spot) (after : Memory) → source_of from x r s ≡ Found a
      → spot x r d ≡ Found t → store_number to x r t z ≡ Found after
      → (source_of from x r s >>= λ s. spot x r d >>= λ d. results to x r d (Ok z)) ≡ Found (next after)
  converts_by from to z s d a t after e f g =
      ap (λ e. e >>= λ s. spot x r d >>= λ d. results to x r d (Ok z)) e ∙ ap (λ e. e >>= λ d. results to x r d (Ok z)) f
      ∙ ap (λ e. e >>= λ m. Found (next m)) g

  -- ---- jumps

  pub jumps_to : (pc : ℕ) → target o (operand.Imm (pos pc)) ≡ Found pc
      → obey limit o x r (inst op.Jmp operand.None middle.None (operand.Imm (pos pc))) op.Jmp ≡ Found (jumps x r pc)
  jumps_to pc e = ap (λ e. e >>= λ pc. Found (jumps x r pc)) e
