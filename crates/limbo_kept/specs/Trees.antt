-- When a tree in evaluation gives a value of a type.
use Rattle.std.specs.Prelude.{ℕ, ◌≡◌, ◌⊎◌, true, List, [], ◌∷◌, Option, None, Some, take, drop, slice_get}
use Rattle.limbo_types.specs.Types as ty
use Rattle.limbo_types.specs.Types.{Ty}
use Rattle.limbo_layout.specs.Adts.{Def}
use Rattle.limbo_typed.specs.declared.print.Hole.{Hole}
use Rattle.limbo_typed.specs.declared.print.Hole.TheVariants as hole
use Rattle.limbo_typed.specs.declared.print.Piece.{Piece}
use Rattle.limbo_typed.specs.declared.print.Piece.TheVariants as piece
use Rattle.limbo_typed.specs.declared.stmt.Constant.{Constant}
use Rattle.limbo_typed.specs.declared.stmt.Constant.TheVariants as constant
use Rattle.limbo_typed.specs.Fitting.{HasPart, HasNil, IsRefOf, Stands, AllStand, EachStands, Gives, IsConstant}
use Rattle.limbo_meaning.specs.Values.{nothing}
use Rattle.limbo_meaning.specs.Places.{Root, Local, Global, Element, Target, Way, count_of, operands_of}
use Rattle.limbo_meaning.specs.Operations.{item_of}
use Rattle.limbo_meaning.specs.Trees.{Aim, Pending, Work, Literal, Nil, Operate, Read, Assign, TakePart, Copy, Link, NewChannel, Call}
use Rattle.limbo_meaning.specs.Trees.{Print}
use Rattle.limbo_meaning.specs.Trees.{Sprint}
use Rattle.limbo_meaning.specs.Trees.{Term, Evaluated, Awaiting, Missing, Node, Lazy, Deciding, Update, Change, Put, Linking}
use Rattle.limbo_meaning.specs.Trees.{Fill, Filling, Turning, Repeating, Terms, NoTerms, MoreTerms, Items, NoItems, MoreItems}
use Rattle.limbo_meaning.specs.Evaluation.{operands_for}
use Rattle.limbo_kept.specs.Values.{Store, AreCharacters, Refers, Fits, EachFits}
use Rattle.limbo_kept.specs.Values as standing
use Rattle.limbo_kept.specs.Operating.{HasRoom}
use Rattle.limbo_kept.specs.Places.{Leads, Ends, PlaceIs}
use Rattle.limbo_kept.specs.Permitting.{Stores, MayStore, MayWrite}

-- What a function takes and answers, and the types of its variables.
pub record Signature : Type 0 where
  pub takes : List Ty
  pub answer : Ty
  pub variables : List Ty

-- What the functions of a module see: its adts, the types of its variables, what its functions take and answer; the types of one
-- function's variables; and what they may store.
pub record Scope : Type 0 where
  pub adts : List Def
  pub globals : List Ty
  pub signatures : List Signature
  pub variables : List Ty
  pub stores : Stores

-- ---- places

module _ (s : Scope) where
  -- Where a place begins whose operands are of these types: an index of an array is an int.
  abbrev pub BeginsAt : Root → List Ty → Ty → Type 0
  BeginsAt (Local x) us t = slice_get s.variables x ≡ Some t
  BeginsAt (Global x) us t = slice_get s.globals x ≡ Some t
  BeginsAt Element us t = (slice_get us 0 ≡ Some (ty.ArrayOf t)) × (slice_get us 1 ≡ Some ty.Int)
  BeginsAt Target us t = (n : ℕ) × (t ≡ ty.Adt n) × ((r : Ty) × (slice_get us 0 ≡ Some r) × IsRefOf n r)

  pub record WayIs (w : Way) (us : List Ty) (t : Ty) : Type 0 where
    pub root : Ty
    pub room : HasRoom s.adts root
    pub begins : BeginsAt w.root us root
    pub inner : Ty
    pub leads : Leads s.adts root w.parts inner
    pub ends : Ends w.character inner t
    -- so is an index of a string, behind the operands of the root
    pub indexed : w.character ≡ true → slice_get us (count_of w.root) ≡ Some ty.Int

  -- Places that parts of a value go to, each of which stands for the place's type, and may be written there.
  abbrev pub AimsAre : List Aim → List Ty → (value : Ty) → Type 0
  AimsAre [] us v = Unit {0}
  AimsAre (a ∷ aims) us v =
      (is : WayIs a.way (take (operands_of a.way) us) a.type) × MayWrite s.stores s.adts a.way.root is.root a.type
      × ((t : Ty) × Leads s.adts v a.part t × Stands t a.type) × AimsAre aims (drop (operands_of a.way) us) v

  -- Variables that are declared, each of a type that has a zero.
  abbrev pub DeclaresAll : List Aim → Type 0
  DeclaresAll [] = Unit {0}
  DeclaresAll (a ∷ aims) = (WayIs a.way [] a.type × (operands_of a.way ≡ 0) × (a.part ≡ []) × HasRoom s.adts a.type) × DeclaresAll aims

-- ---- nodes

abbrev pub IsWritten : Constant → Type 0
IsWritten (constant.Number n) = Unit {0}
IsWritten (constant.Chars s) = AreCharacters s

-- An argument of a format, and all of them: a string where one is told.
abbrev pub IsTold : Hole → Ty → Type 0
IsTold hole.Chars t = t ≡ ty.Chars
IsTold _ t = Unit {0}

abbrev pub AreTold : List Piece → List Ty → Type 0
AreTold [] us = Unit {0}
AreTold (piece.Chars cs ∷ ps) us = AreCharacters cs × AreTold ps us
AreTold (piece.Hole h ∷ ps) [] = AreTold ps []
AreTold (piece.Hole h ∷ ps) (u ∷ us) = IsTold h u × AreTold ps us

module _ (s : Scope) where
  -- A node of a type gives, of operands of these types, what stands for the last type.
  abbrev pub WorkIs : Ty → Work → List Ty → Ty → Type 0
  WorkIs u (Literal c) us t = IsConstant u c × IsWritten c × HasRoom s.adts u × Stands u t
  WorkIs u Nil us t = HasNil u × HasRoom s.adts u × Stands u t
  WorkIs u (Operate o) us t = Gives s.adts o us u × HasRoom s.adts u × HasRoom s.adts (item_of u) × Stands u t
  WorkIs u (Read w) us t = WayIs s w us u × HasRoom s.adts u × Stands u t
  WorkIs u (Assign aims) us t =
      (v : Ty) × (slice_get us (operands_for aims) ≡ Some v) × HasRoom s.adts v × AimsAre s aims us v × Stands v t
  WorkIs u (TakePart n) us t =
      (v : Ty) × (slice_get us 0 ≡ Some v) × HasRoom s.adts v × HasPart s.adts v n u × Stands u t
  WorkIs u Copy us t =
      (i : Ty) × (slice_get us 0 ≡ Some (ty.ArrayOf i)) × (slice_get us 2 ≡ Some (ty.ArrayOf i))
      × MayStore s.stores s.adts (ty.ArrayOf i) i × Stands (ty.ArrayOf i) t
  WorkIs u Link us t = (i : Ty) × (u ≡ ty.ListOf i) × HasRoom s.adts i × EachStands us i × Stands u t
  WorkIs u NewChannel us t = (i : Ty) × (u ≡ ty.ChanOf i) × Stands u t
  WorkIs u (Call f) us t =
      (g : Signature) × (slice_get s.signatures f ≡ Some g) × AllStand us g.takes × (g.answer ≡ u) × Stands u t
  WorkIs u (Print ps) us t = Stands ty.Int t
  WorkIs u (Sprint ps) us t = AreTold ps us × (u ≡ ty.Chars) × Stands u t

-- Variables that are declared without a value.
abbrev pub DeclaresFor : Scope → Work → Terms → Ty → Type 0
DeclaresFor s (Assign aims) (MoreTerms (Evaluated v) NoTerms) t = (v ≡ nothing) × DeclaresAll s aims × (t ≡ ty.Int)
DeclaresFor s o ts t = ⊥

-- The answer that is waited for, if one is, stands for this type.
abbrev pub AnswerIs : Option Ty → Ty → Type 0
AnswerIs None t = ⊥
AnswerIs (Some a) t = Stands a t

module _ (s : Scope) (store : Store) where
  abbrev pub PendingAre : List Pending → Type 0
  PendingAre [] = Unit {0}
  PendingAre (p ∷ ps) =
      ((is : PlaceIs s.adts s.globals store s.variables p.place) × MayWrite s.stores s.adts p.place.way.root is.root p.place.type
      × Fits s.adts store p.place.type p.value) × PendingAre ps

  -- An array of items of a type, part of which an initialiser fills.
  abbrev pub FillsFor : Ty → ℕ → Ty → Type 0
  FillsFor i array t = HasRoom s.adts i × (slice_get store array ≡ Some (standing.Items i)) × Stands (ty.ArrayOf i) t

  abbrev mutual
    -- A tree gives a value that fits a type. What is Missing never comes to a value. At most one answer is waited for, in the part that
    -- is in evaluation.
    pub TermIs : (waits : Option Ty) → Term → Ty → Type 0
    TermIs w (Evaluated v) t = Fits s.adts store t v
    TermIs w Awaiting t = AnswerIs w t
    TermIs w Missing t = Unit {0}
    TermIs w (Node u o ts) t = (us : List Ty) × TermsAre w ts us × (WorkIs s u o us t ⊎ DeclaresFor s o ts t)
    TermIs w (Lazy c l r) t = TermIs w l ty.Int × TermIs None r ty.Int × Stands ty.Int t
    TermIs w (Deciding r) t = TermIs w r ty.Int × Stands ty.Int t
    TermIs w (Update o g p way ts us) t =
        (ps : List Ty) × (qs : List Ty) × TermsAre w ts ps × TermsAre None us qs × (is : WayIs s way ps p)
        × MayWrite s.stores s.adts way.root is.root p × Gives s.adts o (p ∷ qs) p × HasRoom s.adts p × HasRoom s.adts (item_of p)
        × Stands p t
    TermIs w (Change o g p ts) t =
        (qs : List Ty) × TermsAre w ts (p.type ∷ qs) × (is : PlaceIs s.adts s.globals store s.variables p)
        × MayWrite s.stores s.adts p.way.root is.root p.type × Gives s.adts o (p.type ∷ qs) p.type × HasRoom s.adts p.type
        × HasRoom s.adts (item_of p.type) × Stands p.type t
    TermIs w (Put ps v) t = PendingAre ps × Fits s.adts store t v
    TermIs w (Linking i vs r) t =
        HasRoom s.adts i × EachFits s.adts store i vs × Refers store (standing.Cells i) r × Stands (ty.ListOf i) t
    TermIs w (Fill i l is rest) t =
        HasRoom s.adts i × TermIs w l ty.Int × ItemsAre None is i × RestIs rest i × Stands (ty.ArrayOf i) t
    TermIs w (Filling i p is ns rest) t = FillsFor i p.array t × ItemsAre w is i × RestIs rest i
    TermIs w (Turning i p ns e) t = FillsFor i p.array t × TermIs None e i
    TermIs w (Repeating i p n ns e now) t = FillsFor i p.array t × TermIs None e i × TermIs w now i

    pub TermsAre : (waits : Option Ty) → Terms → List Ty → Type 0
    TermsAre w NoTerms [] = Unit {0}
    TermsAre w (MoreTerms e es) (t ∷ ts) = TermIs w e t × TermsAre w es ts
    TermsAre w _ _ = ⊥

    -- only the first is in evaluation
    pub ItemsAre : (waits : Option Ty) → Items → Ty → Type 0
    ItemsAre w NoItems t = Unit {0}
    ItemsAre w (MoreItems z e is) t = TermIs w e t × ItemsAre None is t

    -- the element for the others, if there is one
    pub RestIs : Terms → Ty → Type 0
    RestIs NoTerms t = Unit {0}
    RestIs (MoreTerms e es) t = TermIs None e t
