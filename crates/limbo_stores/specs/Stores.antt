-- Which stores are refused (Limbo Language Reference, assignment; Sys). Values on the heap are reclaimed as soon as nothing names them, so
-- no store may make one reach itself: what is stored must be of a type that doesn't reach the object's type. A heap object is what a `ref`
-- of an adt names, or an array.
use Rattle.std.specs.Prelude.{ℕ, ◌≡◌, ◌⊎◌, List, Option, None, Some}
use Rattle.limbo_types.specs.Types.{Ty, ArrayOf, ChanOf, Adt}
use Rattle.limbo_layout.specs.Adts.{Def}
use Rattle.limbo_adts.specs.Reaches.{Reaches}
use Rattle.limbo_typed.specs.Typed.{Expr, Node, Assign, Update, Step, Copy, Send, Place, At, PlaceNode, Local, Global, Field, Element}
use Rattle.limbo_typed.specs.Typed.{Character, Target, Pattern, ToPlace, ToNothing, ToParts, Patterns, NoPatterns, MorePatterns}
use Rattle.limbo_typed.specs.Sound.{type_of, type_at}
use Rattle.limbo_refusals.specs.Refusals.{Refusal, NotPlace, CyclicStore}

-- ---- places

-- The type of the nearest heap object that holds a place. A variable lies in none; a field lies where its whole lies, an element in its
-- array, a character where its string lies, and what a `ref` names in the object of the `ref`.
abbrev mutual
  pub holder : Place → Option Ty
  holder (At t n) = holder_of n

  pub holder_of : PlaceNode → Option Ty
  holder_of (Local x) = None
  holder_of (Global x) = None
  holder_of (Field whole part) = holder whole
  holder_of (Element array index) = Some (type_of array)
  holder_of (Character text index) = holder text
  holder_of (Target reference) = Some (type_of reference)

-- What is stored into a place may name the object that holds the place.
pub record CanClose (defs : List Def) (p : Place) : Type 0 where
  pub object : Ty
  pub held : holder p ≡ Some object
  pub reaches : Reaches defs (type_at p) object

-- A type is the adt `FD` of `Sys`, whose number is told where it is there.
abbrev pub IsOfFd : (fd : Option ℕ) → Ty → Type 0
IsOfFd fd (Adt n) = fd ≡ Some n
IsOfFd fd _ = ⊥

-- A place is an `FD`, or a part of one.
abbrev mutual
  pub LiesInFd : (fd : Option ℕ) → Place → Type 0
  LiesInFd fd (At t n) = IsOfFd fd t ⊎ StandsInFd fd n

  pub StandsInFd : (fd : Option ℕ) → PlaceNode → Type 0
  StandsInFd fd (Field whole part) = LiesInFd fd whole
  StandsInFd fd (Character text index) = LiesInFd fd text
  StandsInFd fd _ = ⊥

-- Why nothing may be stored into a place.
abbrev pub RefusesPlace : List Def → (fd : Option ℕ) → Place → Refusal → Type 0
RefusesPlace defs fd p NotPlace = LiesInFd fd p
RefusesPlace defs fd p CyclicStore = CanClose defs p
RefusesPlace defs fd p _ = ⊥

-- ---- patterns

-- A place stands in a pattern.
abbrev mutual
  pub HasPlace : Pattern → Place → Type 0
  HasPlace (ToPlace q) p = q ≡ p
  HasPlace ToNothing p = ⊥
  HasPlace (ToParts qs) p = SomeHasPlace qs p

  pub SomeHasPlace : Patterns → Place → Type 0
  SomeHasPlace NoPatterns p = ⊥
  SomeHasPlace (MorePatterns q qs) p = HasPlace q p ⊎ SomeHasPlace qs p

-- Why values may not be stored as a pattern says: nothing may be stored into one of its places.
abbrev pub RefusesPattern : List Def → (fd : Option ℕ) → Pattern → Refusal → Type 0
RefusesPattern defs fd q r = (p : Place) × HasPlace q p × RefusesPlace defs fd p r

-- ---- expressions

-- An expression of this form stores into a place: an assignment into each place of its pattern.
abbrev pub StoresInto : Node → Place → Type 0
StoresInto (Assign pattern value) p = HasPlace pattern p
StoresInto (Update operation place value) p = place ≡ p
StoresInto (Step operation given place) p = place ≡ p
StoresInto _ p = ⊥

-- What is copied into an array, or sent on a channel, may name the array, or the channel.
abbrev pub CopyCloses : List Def → Ty → Type 0
CopyCloses defs (ArrayOf t) = Reaches defs t (ArrayOf t)
CopyCloses defs _ = ⊥

abbrev pub SendCloses : List Def → Ty → Type 0
SendCloses defs (ChanOf t) = Reaches defs t (ChanOf t)
SendCloses defs _ = ⊥

-- A store that could make a heap object reach itself: into a place, into an array by copying, into a channel by sending.
pub data Closes (defs : List Def) : Node → Type 0 where
  by_place : (n : Node) (p : Place) → StoresInto n p → CanClose defs p → Closes defs n
  by_copy : (array from value : Expr) → CopyCloses defs (type_of array) → Closes defs (Copy array from value)
  by_send : (channel value : Expr) → SendCloses defs (type_of channel) → Closes defs (Send channel value)

-- A store into an `FD`, which is opaque.
pub record StoresInFd (fd : Option ℕ) (n : Node) : Type 0 where
  pub place : Place
  pub stores : StoresInto n place
  pub inside : LiesInFd fd place

-- Why a store is refused.
abbrev pub RefusesStore : List Def → (fd : Option ℕ) → Node → Refusal → Type 0
RefusesStore defs fd n NotPlace = StoresInFd fd n
RefusesStore defs fd n CyclicStore = Closes defs n
RefusesStore defs fd n _ = ⊥
