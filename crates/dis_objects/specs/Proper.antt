-- Proper code: what its instructions name is there and of the kind that is asked for, control stays in the code, and each call and print is
-- made ready first.
use Rattle.std.specs.Prelude.{ℕ, suc, ◌+◌, ◌-◌, ◌≡◌, ◌<◌, ◌≤◌, List, [], ◌∷◌, length, Some, slice_get}
use Rattle.limbo_values.specs.declared.number.Kind.{Kind}
use Rattle.limbo_values.specs.declared.number.Kind.TheVariants.{Byte, Int, Big}
use Rattle.limbo_values.specs.Numbers.{InRange}
use Rattle.limbo_typed.specs.declared.operation.Operation.{Operation}
use Rattle.limbo_typed.specs.declared.operation.Operation.TheVariants as operation
use Rattle.limbo_typed.specs.declared.print.Hole.{Hole}
use Rattle.limbo_typed.specs.declared.print.Hole.TheVariants as hole
use Rattle.limbo_typed.specs.declared.print.Piece.{Piece}
use Rattle.limbo_typed.specs.declared.print.Piece.TheVariants as piece
use Rattle.slot_code.specs.Code.{Spot, Variable, Global, Temporary, Argument, Operand, In, Number, Inst, Move, Hand, Alter, Operate, Branch}
use Rattle.slot_code.specs.Code.{Jump, Skip, Back, Begin, Call, Format, Print, Return, Leave, Function, GlobalVariable, Module}
use Rattle.dis_objects.specs.Frames.{Callee, Calls, Prints, made_at, printed_kinds, parameters}
use Rattle.dis_objects.specs.Code.{spot_kind, operand_kind, right_kind}

-- What an operation gives is of this kind.
abbrev pub kind_given : Operation → Kind
kind_given (operation.Arithmetic o k) = k
kind_given (operation.Shift s k) = k
kind_given (operation.Alter u k) = k
kind_given (operation.Convert from to) = to
kind_given o = Int

-- Operations on one number, and on two.
abbrev pub IsOfOne : Operation → Type 0
IsOfOne (operation.Alter u k) = Unit {0}
IsOfOne operation.Not = Unit {0}
IsOfOne (operation.Convert from to) = Unit {0}
IsOfOne o = ⊥

abbrev pub IsOfTwo : Operation → Type 0
IsOfTwo (operation.Arithmetic o k) = Unit {0}
IsOfTwo (operation.Shift s k) = Unit {0}
IsOfTwo (operation.Compare c k) = Unit {0}
IsOfTwo o = ⊥

-- Where an operation becomes several instructions, the first of which reads its operands, these are the function's own.
abbrev pub IsOwn : Operand → Type 0
IsOwn (In (Global k x)) = ⊥
IsOwn x = Unit {0}

abbrev pub ReadsOwn : Operation → Operand → Type 0
ReadsOwn (operation.Compare c k) x = IsOwn x
ReadsOwn operation.Not x = IsOwn x
ReadsOwn (operation.Convert Byte Big) x = IsOwn x
ReadsOwn (operation.Convert Big Byte) x = IsOwn x
ReadsOwn o x = Unit {0}

-- Holes of a format that each tell a number.
abbrev pub TellsNumber : Hole → Type 0
TellsNumber (hole.Decimal k) = Unit {0}
TellsNumber hole.Character = Unit {0}
TellsNumber hole.Hexadecimal = Unit {0}
TellsNumber h = ⊥

abbrev pub AllTellNumbers : List Piece → Type 0
AllTellNumbers [] = Unit {0}
AllTellNumbers (piece.Chars s ∷ ps) = AllTellNumbers ps
AllTellNumbers (piece.Hole h ∷ ps) = TellsNumber h × AllTellNumbers ps

module _ (m : Module) (f : Function) where
  -- A variable of the function or of the module, or a temporary.
  abbrev pub IsRead : Spot → Type 0
  IsRead (Variable k x) = slice_get f.variables x ≡ Some (Some k)
  IsRead (Global k x) = (g : GlobalVariable) × (slice_get m.globals x ≡ Some g) × (g.kind ≡ Some k)
  IsRead (Temporary k n) = Unit {0}
  IsRead (Argument k i) = ⊥

  -- An argument of what was begun last: of a call, or the number for a hole of a format.
  abbrev pub IsArgument : List Callee → Kind → ℕ → Type 0
  IsArgument [] k i = ⊥
  IsArgument (Calls g ∷ cs) k i = slice_get (parameters m.functions (Calls g)) i ≡ Some (Some k)
  IsArgument (Prints ps ∷ cs) k i = slice_get (printed_kinds ps) i ≡ Some k

  -- A place that a number goes to, where these are being made ready.
  abbrev pub IsWritten : List Callee → Spot → Type 0
  IsWritten cs (Argument k i) = IsArgument cs k i
  IsWritten cs s = IsRead s

  -- An operand of a kind.
  abbrev pub IsTaken : Kind → Operand → Type 0
  IsTaken k (In s) = IsRead s × (spot_kind s ≡ k)
  IsTaken k (Number z) = InRange k z

  -- Control goes on at a place of the code where the same are being made ready.
  pub record GoesOn (cs : List Callee) (pc : ℕ) : Type 0 where
    pub within : pc < length f.code
    pub made : made_at f.code pc ≡ cs

  -- A call, with the arguments that it takes.
  pub record CallsFunction (cs : List Callee) (k : Kind) (number arguments : ℕ) (into : Spot) : Type 0 where
    pub others : List Callee
    pub last : cs ≡ Calls number ∷ others
    pub function : Function
    pub there : slice_get m.functions number ≡ Some function
    pub answer : function.answer ≡ k
    pub takes : function.parameters ≡ arguments
    pub has : function.parameters ≤ length function.variables
    pub numbers : (j : ℕ) → j < function.parameters → (i : Kind) × (slice_get function.variables j ≡ Some (Some i))
    pub written : IsWritten others into
    pub kind : spot_kind into ≡ k

  -- A print takes as many numbers as its format has holes: each hole tells one.
  pub record PrintsFormat (cs : List Callee) (arguments : ℕ) (into : Spot) : Type 0 where
    pub others : List Callee
    pub pieces : List Piece
    pub last : cs ≡ Prints pieces ∷ others
    pub holes : AllTellNumbers pieces
    pub takes : length (printed_kinds pieces) ≡ arguments
    pub written : IsRead into
    pub kind : spot_kind into ≡ Int

  -- The instruction at a place, where these are being made ready.
  abbrev pub ProperInst : List Callee → (pc : ℕ) → Inst → Type 0
  ProperInst cs pc (Move into x) = IsWritten cs into × IsTaken (spot_kind into) x × GoesOn cs (suc pc)
  ProperInst cs pc (Hand into x) = IsWritten cs into × IsTaken (spot_kind into) x × GoesOn cs (suc pc)
  ProperInst cs pc (Alter o into x) =
      IsOfOne o × IsWritten cs into × (spot_kind into ≡ kind_given o) × IsTaken (operand_kind o) x × ReadsOwn o x × GoesOn cs (suc pc)
  ProperInst cs pc (Operate o into x y) =
      IsOfTwo o × IsWritten cs into × (spot_kind into ≡ kind_given o) × IsTaken (operand_kind o) x × IsTaken (right_kind o) y
      × ReadsOwn o x × ReadsOwn o y × GoesOn cs (suc pc)
  ProperInst cs pc (Branch k c x y n) = IsTaken k x × IsTaken k y × GoesOn cs (suc pc) × GoesOn cs (suc pc + n)
  ProperInst cs pc (Jump n) = GoesOn cs (suc pc + n)
  ProperInst cs pc (Skip n) = GoesOn cs (suc pc + n)
  ProperInst cs pc (Back n) = GoesOn cs (pc - n)
  ProperInst cs pc (Begin g) = (h : Function) × (slice_get m.functions g ≡ Some h) × GoesOn (Calls g ∷ cs) (suc pc)
  ProperInst cs pc (Call k g n into) = (h : CallsFunction cs k g n into) × GoesOn h.others (suc pc)
  ProperInst cs pc (Format ps) = GoesOn (Prints ps ∷ cs) (suc pc)
  ProperInst cs pc (Print n into) = (h : PrintsFormat cs n into) × GoesOn h.others (suc pc)
  ProperInst cs pc (Return x) = IsTaken f.answer x × (cs ≡ [])
  ProperInst cs pc Leave = cs ≡ []

  -- Each instruction of the function is proper, and there is a first.
  pub record ProperFunction : Type 0 where
    pub some : 0 < length f.code
    pub each : (pc : ℕ) (i : Inst) → slice_get f.code pc ≡ Some i → ProperInst (made_at f.code pc) pc i

-- Its functions are, and its variables begin with numbers of their kinds.
pub record IsProper (m : Module) : Type 0 where
  pub functions : (n : ℕ) (f : Function) → slice_get m.functions n ≡ Some f → ProperFunction m f
  pub variables : (x : ℕ) (g : GlobalVariable) (k : Kind) → slice_get m.globals x ≡ Some g → g.kind ≡ Some k → InRange k g.initial
