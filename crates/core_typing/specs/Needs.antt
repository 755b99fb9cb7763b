-- Of which types an instruction finds what it reads, and that a slot names nothing where it gets a value. A `ref` of a variant stands where
-- one of its adt is asked for, and `nil` where any reference is.
use Rattle.std.specs.Prelude.{ℕ, ◌+◌, ◌≡◌, ◌≢◌, ◌<◌, ◌≤◌, ◌⊎◌, Bool, List, [], ◌∷◌, ◌++◌, length, Option, None, Some}
use Rattle.limbo_types.specs.Types as ty
use Rattle.limbo_types.specs.Types.{Ty}
use Rattle.limbo_types.specs.View.{tys_of}
use Rattle.limbo_layout.specs.Adts.{Def}
use Rattle.limbo_typed.specs.declared.print.Piece.{Piece}
use Rattle.limbo_typed.specs.declared.print.Piece.TheVariants as piece
use Rattle.limbo_typed.specs.Fitting.{HasPart, Stands}
use Rattle.limbo_typed.specs.Sound.{type_of_hole}
use Rattle.limbo_meaning.specs.Trees as tree
use Rattle.limbo_meaning.specs.Values.{Value, Num, Ref, nothing, among, references}
use Rattle.limbo_kept.specs.Operating.{HasRoom}
use Rattle.limbo_kept.specs.Places.{Leads}
use Rattle.limbo_kept.specs.Trees.{Scope, WayIs, WorkIs}
use Rattle.core_code.specs.Code.{Instr, Give, Place, Gather, Pick, Known, Write, CopyInto, Cell, Call, Print, Skip, Truth, Element, Start}
use Rattle.core_code.specs.Code.{Next}
use Rattle.core_code.specs.Code.{Other, Keep, Take, Drop, Mirror, Unless, Jump, Back, Return}
use Rattle.core_code.specs.Terms.{count_of, numbers_from, part_numbers, variant_of}
use Rattle.core_typing.specs.Held.{Held, Of, Forming, Decided, Turns, Regions, NoRegion, MoreRegions, Slots, slot, type_held}

-- Types whose values are references, or nothing. (Of an array a value says which part of it is meant, so `nil` of no type in particular is
-- none.)
abbrev pub MayBeNil : Ty → Type 0
MayBeNil (ty.ListOf t) = Unit {0}
MayBeNil (ty.ChanOf t) = Unit {0}
MayBeNil (ty.RefAdt n) = Unit {0}
MayBeNil (ty.RefPick n k) = Unit {0}
MayBeNil (ty.Module n) = Unit {0}
MayBeNil t = ⊥

-- A value of the first type stands where one of the second is asked for: also `nil` for each reference.
abbrev pub StandsAs : Ty → Ty → Type 0
StandsAs u t = Stands u t ⊎ ((u ≡ ty.Nil) × MayBeNil t)

abbrev pub AllStandAs : List Ty → List Ty → Type 0
AllStandAs [] [] = Unit {0}
AllStandAs (u ∷ us) (t ∷ ts) = StandsAs u t × AllStandAs us ts
AllStandAs _ _ = ⊥

-- In a slot stands a value where one of a type is asked for; in slots, one after the other.
abbrev pub IsA : Slots → ℕ → Ty → Type 0
IsA slots s t = (u : Ty) × (type_held (slot slots s) ≡ Some u) × StandsAs u t

abbrev pub AreThese : Slots → List ℕ → List Ty → Type 0
AreThese slots [] [] = Unit {0}
AreThese slots (s ∷ ss) (t ∷ ts) = IsA slots s t × AreThese slots ss ts
AreThese slots _ _ = ⊥

-- a loop's slot
abbrev pub IsLoop : Slots → ℕ → Type 0
IsLoop slots s = (rs : Regions) × (slot slots s ≡ Turns rs)

-- What a format asks for: a byte is printed as an int of the same value.
abbrev pub as_int : List Ty → List Ty
as_int (ty.Byte ∷ ts) = ty.Int ∷ ts
as_int ts = ts

abbrev pub printed : List Piece → List Ty
printed [] = []
printed (piece.Chars t ∷ ps) = printed ps
printed (piece.Hole h ∷ ps) = as_int (type_of_hole h) ++ printed ps

-- What is written at a place of a type: a part of a slot's value that stands for the type; or nothing, where a variable is declared
-- without a value.
abbrev pub Fills : Scope → Slots → Ty → (part : List ℕ) → ℕ → Type 0
Fills s slots t part from =
    ((v : Ty) × (type_held (slot slots from) ≡ Some v) × HasRoom s.adts v × ((u : Ty) × Leads s.adts v part u × StandsAs u t))
    ⊎ ((type_held (slot slots from) ≡ Some ty.Nothing) × (part ≡ []) × HasRoom s.adts t)

-- Each of these slots is below this one.
abbrev pub Below : (slot : ℕ) → List ℕ → Type 0
Below r [] = Unit {0}
Below r (s ∷ ss) = (s < r) × Below r ss

abbrev pub IsAIf : Slots → Option ℕ → Ty → Type 0
IsAIf slots None t = Unit {0}
IsAIf slots (Some s) t = IsA slots s t

-- ---- slots that name nothing

-- Nothing is named there any more.
abbrev pub IsClean : Held → Type 0
IsClean (Of t ns) = ns ≡ []
IsClean (Forming t v ks us ns) = ⊥
IsClean (Decided b) = Unit {0}
IsClean (Turns NoRegion) = Unit {0}
IsClean (Turns (MoreRegions g rs)) = ⊥

abbrev pub IsCleanIf : Slots → Option ℕ → Type 0
IsCleanIf slots None = Unit {0}
IsCleanIf slots (Some s) = IsClean (slot slots s)

-- So it is in each slot from one on, and below another; and in all slots.
abbrev pub AreClean : Slots → (from to : ℕ) → Type 0
AreClean slots a b = (r : ℕ) → a ≤ r → r < b → IsClean (slot slots r)

abbrev pub AllClean : Slots → Type 0
AllClean slots = (r : ℕ) → IsClean (slot slots r)

-- ---- slots that have values

-- A value stands there, or a decision, or a loop none of whose turns held anything.
abbrev pub IsBare : Held → Type 0
IsBare (Of t ns) = Unit {0}
IsBare (Forming t v ks us ns) = ⊥
IsBare (Decided b) = Unit {0}
IsBare (Turns NoRegion) = Unit {0}
IsBare (Turns (MoreRegions g rs)) = ⊥

-- So it is in so many slots, from one on.
abbrev pub AreBare : Slots → (from words : ℕ) → Type 0
AreBare slots from words = (r : ℕ) → from ≤ r → r < from + words → IsBare (slot slots r)

-- ---- values that are known

abbrev pub NamesNothing : Value → Type 0
NamesNothing v = (n : ℕ) → among n (references v) ≡ 0

-- A value that no step gives: a number, a reference, the value without parts.
abbrev pub IsKnown : Value → Type 0
IsKnown (Num z) = Unit {0}
IsKnown (Ref r) = Unit {0}
IsKnown v = v ≡ nothing

-- ---- slots in which values are put together

-- So many operands are there of what is put together as a value of a type, of this variant of an adt; where none is, nothing is named.
abbrev pub IsBegun : Held → Ty → (variant : Option ℕ) → (operands : ℕ) → Type 0
IsBegun h t v j =
    ((j ≡ 0) × IsClean h)
    ⊎ ((ks : List ℕ) × (us : List Ty) × (live : List ℕ) × (h ≡ Forming t v ks us live) × (length us ≡ j))

-- Operands are there, at the parts of these numbers, that stand where ones of these types are asked for.
abbrev pub AreTogether : Held → Ty → (variant : Option ℕ) → (parts : List ℕ) → List Ty → Type 0
AreTogether h t v ks us = (ws : List Ty) × AllStandAs ws us × ((live : List ℕ) × (h ≡ Forming t v ks ws live))

-- They are those of a tuple of these types, behind its parts of others in front.
abbrev pub AreArguments : List Def → Held → (front : List Ty) → List Ty → Type 0
AreArguments defs h front us =
    AreTogether h (ty.Tuple (tys_of (front ++ us))) None (numbers_from defs (length front) (length us)) us

-- Of which variant a node makes a value, and at which parts of it the operands are.
abbrev pub variant_made : List Def → tree.Work → Option ℕ
variant_made defs (tree.Operate o) = variant_of defs o
variant_made defs o = None

abbrev pub parts_made : List Def → tree.Work → (operands : ℕ) → List ℕ
parts_made defs (tree.Operate o) n = part_numbers defs o n
parts_made defs o n = []

module _ (s : Scope) (answer : Ty) (slots : Slots) where
  -- An instruction finds what it reads as it needs it, and nothing is named in a slot that it gives a value to, but for operands that are
  -- there. An operand stands where one of the part's type is asked for that it comes to. The slot of a node's value and of a list's cell is
  -- behind those of what it is made of.
  abbrev pub Finds : Instr → Type 0
  Finds (Give t o into from) =
      (us : List Ty) × AreThese slots from us × WorkIs s t o us t × IsClean (slot slots into) × Below into from
  Finds (Place t v j k into from) =
      (u : Ty) × (type_held (slot slots from) ≡ Some u) × HasRoom s.adts t × ((w : Ty) × HasPart s.adts t k w × StandsAs u w)
      × (from ≢ into) × IsBegun (slot slots into) t v j
  Finds (Gather t o into n) =
      (us : List Ty) × WorkIs s t o us t × (length us ≡ n)
      × (((n ≡ 0) × IsClean (slot slots into))
      ⊎ AreTogether (slot slots into) t (variant_made s.adts o) (parts_made s.adts o n) us)
  Finds (Pick t n into from) =
      (v : Ty) × (type_held (slot slots from) ≡ Some v) × HasRoom s.adts v × HasPart s.adts v n t × IsClean (slot slots into)
  Finds (Known v into) = IsKnown v × NamesNothing v × IsClean (slot slots into)
  Finds (Write t way operands part from) = (us : List Ty) × AreThese slots operands us × WayIs s way us t × Fills s slots t part from
  Finds (CopyInto array start from) = (i : Ty) × IsA slots array (ty.ArrayOf i) × IsA slots start ty.Int × IsA slots from (ty.ArrayOf i)
  Finds (Cell t into item behind) =
      HasRoom s.adts t × IsA slots item t × IsAIf slots behind (ty.ListOf t) × IsClean (slot slots into) × (item < into)
  Finds (Call t f into None) = WorkIs s t (tree.Call f) [] t × IsClean (slot slots into)
  Finds (Call t f into (Some a)) =
      (us : List Ty) × WorkIs s t (tree.Call f) us t × AreArguments s.adts (slot slots a) [] us × IsClean (slot slots into)
  Finds (Print ps into None) = (printed ps ≡ []) × IsClean (slot slots into)
  -- a text stands in front of what is printed
  Finds (Print ps into (Some a)) = AreArguments s.adts (slot slots a) (ty.Chars ∷ []) (printed ps) × IsClean (slot slots into)
  Finds (Skip c into decision from passes) = IsA slots from ty.Int × IsClean (slot slots into) × IsCleanIf slots decision
  Finds (Truth into from) = IsA slots from ty.Int × IsClean (slot slots into)
  Finds (Element t array index from) = HasRoom s.adts t × IsA slots array (ty.ArrayOf t) × IsA slots from t
  Finds (Start loop) = IsClean (slot slots loop)
  Finds (Next array loop named passes) = (t : Ty) × IsA slots array (ty.ArrayOf t) × IsLoop slots loop
  Finds (Other t array loop from) = HasRoom s.adts t × IsA slots array (ty.ArrayOf t) × IsLoop slots loop × IsA slots from t
  Finds (Keep loop from words) = IsLoop slots loop
  -- what comes back goes into slots that name nothing, too
  Finds (Take loop from words passes) = IsLoop slots loop × AreClean slots from (from + words)
  Finds (Drop r k) = (t : Ty) × (type_held (slot slots r) ≡ Some t) × (k < count_of s.adts t)
  Finds (Mirror d passes) = (b : Bool) × (slot slots d ≡ Decided b)
  Finds (Unless c passes) = IsA slots c ty.Int
  Finds (Jump passes) = Unit {0}
  Finds (Back steps) = Unit {0}
  Finds (Return None) = Unit {0}
  Finds (Return (Some r)) = IsA slots r answer
