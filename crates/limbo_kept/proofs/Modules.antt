-- The trees of a sound module are well-typed.
use Rattle.std.proofs.Common.{◌≡◌, ℕ, zero, suc, pos, ◌+◌, ◌<◌, Bool, true, false, List, [], ◌∷◌, ◌++◌, length, take, drop, Option, Some}
use Rattle.std.proofs.Common.{None}
use Rattle.std.proofs.Common.{refl, sym, ap, subst, ◌∙◌, arith, inl, inr, ◌⊎◌, map, append_assoc, length-append}
use Rattle.std.specs.Prelude.{slice_get, slice_index_or, if◌then◌else◌}
use Rattle.limbo_types.specs.Types as ty
use Rattle.limbo_types.specs.Types.{Ty, Tys}
use Rattle.limbo_layout.specs.Adts as adts
use Rattle.limbo_layout.specs.Adts.{Def, listed}
use Rattle.limbo_layout.specs.Layout as layout
use Rattle.limbo_layout.specs.Layout.{Room, Laid, AllLaid}
use Rattle.limbo_typed.specs.declared.operation.Operation.{Operation}
use Rattle.limbo_typed.specs.declared.operation.Operation.TheVariants as operation
use Rattle.limbo_typed.specs.declared.print.Printed.TheVariants as printed
use Rattle.limbo_typed.specs.declared.print.Hole.TheVariants as hole
use Rattle.limbo_typed.specs.declared.print.Piece.{Piece}
use Rattle.limbo_typed.specs.declared.print.Piece.TheVariants as piece
use Rattle.limbo_typed.specs.Fitting.{Stands, Gives, HasPart, IsRefOf}
use Rattle.limbo_typed.specs.Sound as sound
use Rattle.limbo_typed.specs.Sound.{IsNamed, HasVariable, SoundExpr, SoundNode, SoundExprs, SoundInt, SoundOptional, SoundItems}
use Rattle.limbo_typed.specs.Sound.{SoundPlaceNode}
use Rattle.limbo_typed.specs.Sound.{SoundPattern, SoundPatterns, SoundStmt, SoundStmts, SoundDeclared, SoundCondition, SoundOption}
use Rattle.limbo_typed.specs.Sound.{SoundFunction, Each, type_of, types_of, type_at, holes, type_of_hole}
use Rattle.limbo_typed.specs.Typed as typed
use Rattle.limbo_typed.specs.Typed.{Expr, Of, Exprs, NoExprs, MoreExprs, Optional, Absent, Present, Place, PlaceNode, At, Pattern, Patterns}
use Rattle.limbo_typed.specs.Typed.{Stmt, Stmts, Var, Module}
use Rattle.limbo_adts.specs.Reaches.{plain}
use Rattle.limbo_stores.specs.Stores as stores
use Rattle.limbo_stores.specs.Stores.{HasPlace, SomeHasPlace}
use Rattle.limbo_stores.proofs.Reaching.{reaches_alike}
use Rattle.limbo_meaning.specs.Values.{Num, nothing}
use Rattle.limbo_meaning.specs.Places.{Root, Way, Local, Global, Element, Target, operands_of, count_of}
use Rattle.limbo_meaning.specs.Operations.{item_of}
use Rattle.limbo_meaning.specs.Trees.{Aim, Work, Operate, Assign, Link, Term, Evaluated, Node, Terms, NoTerms, MoreTerms, Stm, Over, Eval}
use Rattle.limbo_meaning.specs.Trees as tree
use Rattle.limbo_meaning.specs.Trees.{Looping, Block, Done, Then, tested}
use Rattle.limbo_meaning.specs.Evaluation.{operands_for}
use Rattle.limbo_meaning.specs.Program.{terms_before, only_term, way_of, aims_in, aims_among, node_of, terms_of, terms_if}
use Rattle.limbo_meaning.specs.Program.{long_enough, began, length_term, items_of, printed_of, as_printed, operands_at, operands_to}
use Rattle.limbo_meaning.specs.Program.{operands_among, operating}
use Rattle.limbo_meaning.specs.Program.{is_load, evaluated, optional, local, declared_value, before, all_before, Routine, routine_of}
use Rattle.limbo_meaning.specs.Program.{program_of}
use Rattle.limbo_kept.specs.Operating.{HasRoom}
use Rattle.limbo_kept.specs.Places.{Leads, Ends}
use Rattle.limbo_kept.specs.Permitting.{Stores, Anything, NeverBack, MayStore, MayWrite}
use Rattle.limbo_kept.specs.Nodes.{AllNodes, InEach, InOptional, InItems, InPlaceNode, InPattern, InPatterns, InOption, InStmt, InStmts}
use Rattle.limbo_kept.specs.Storing.{StoresWell, StoresAllowed}
use Rattle.limbo_kept.specs.Trees.{Signature, Scope, BeginsAt, WayIs, AimsAre, DeclaresAll, AreTold, WorkIs, TermIs, TermsAre, ItemsAre}
use Rattle.limbo_kept.specs.Trees.{RestIs}
use Rattle.limbo_kept.specs.Processes.{TermIfAny, TestIs, StmIs, BlockIs, scope_of, AllHaveRooms, RoutineIs, ProgramIs}
use Rattle.limbo_kept.specs.Modules.{PiecesWritten, Written, AllWritten, ItemsWritten, WrittenIf, StmWritten, BlockWritten}
use Rattle.limbo_kept.specs.Modules.{TextsAreWritten, AdtsAreLaid, signature_of, outline_with}
use Rattle.limbo_kept.proofs.Fitted.{int_fits}

-- ---- lists

there_map : {A B : Type 0} (f : A → B) (xs : List A) (n : ℕ) (x : A) → slice_get xs n ≡ Some x → slice_get (map f xs) n ≡ Some (f x)
there_map f [] n x e = absurd cc
there_map f (y ∷ xs) zero x e = let same : y ≡ x = cc in ap (λ z. Some (f z)) same
there_map f (y ∷ xs) (suc n) x e = there_map f xs n x e

there_last : {A : Type 0} (xs : List A) (x : A) → slice_get (xs ++ x ∷ []) (length xs) ≡ Some x
there_last [] x = refl
there_last (y ∷ xs) x = there_last xs x

there_front : {A : Type 0} (xs ys : List A) (n : ℕ) (x : A) → slice_get xs n ≡ Some x → slice_get (xs ++ ys) n ≡ Some x
there_front [] ys n x e = absurd cc
there_front (y ∷ xs) ys zero x e = e
there_front (y ∷ xs) ys (suc n) x e = there_front xs ys n x e

there_behind : {A : Type 0} (xs : List A) (x : A) (n : ℕ) → length xs ≡ n → slice_get (xs ++ x ∷ []) n ≡ Some x
there_behind [] x zero e = refl
there_behind [] x (suc n) e = absurd (omega (arith, e))
there_behind (y ∷ xs) x zero e = absurd (omega (arith, e))
there_behind (y ∷ xs) x (suc n) e = there_behind xs x n (omega arith)

take_front : {A : Type 0} (xs ys : List A) (n : ℕ) → length xs ≡ n → take n (xs ++ ys) ≡ xs
take_front [] ys zero e = refl
take_front [] ys (suc n) e = absurd (omega (arith, e))
take_front (x ∷ xs) ys zero e = absurd (omega (arith, e))
take_front (x ∷ xs) ys (suc n) e = ap (λ zs. x ∷ zs) (take_front xs ys n (omega arith))

drop_front : {A : Type 0} (xs ys : List A) (n : ℕ) → length xs ≡ n → drop n (xs ++ ys) ≡ ys
drop_front [] ys zero e = refl
drop_front [] ys (suc n) e = absurd (omega (arith, e))
drop_front (x ∷ xs) ys zero e = absurd (omega (arith, e))
drop_front (x ∷ xs) ys (suc n) e = drop_front xs ys n (omega arith)

drop_more : {A : Type 0} (a b : ℕ) (xs : List A) → drop (a + b) xs ≡ drop b (drop a xs)
drop_more zero b xs = let e : 0 + b ≡ b = omega arith in ap (λ n. drop n xs) e
drop_more (suc a) zero [] = ap (λ n. drop n []) (let e : suc a + 0 ≡ suc a = omega arith in e)
drop_more (suc a) (suc b) [] = let e : suc a + suc b ≡ suc (a + suc b) = omega arith in ap (λ n. drop n []) e
drop_more (suc a) b (x ∷ xs) = let e : suc a + b ≡ suc (a + b) = omega arith in ap (λ n. drop n (x ∷ xs)) e ∙ drop_more a b xs

-- what stands for what stands for a third
stands_on : (a b c : Ty) → Stands a b → Stands b c → Stands a c
stands_on a b c (inl e) h = subst (λ (x : Ty). Stands x c) (sym e) h
stands_on (ty.RefPick n k) b c (inr e) h =
    let f : Stands (ty.RefAdt n) c = subst (λ (x : Ty). Stands x c) e h in
    elim f [ inl g ↦ inr (sym g) | inr g ↦ absurd g ]
stands_on _ b c (inr e) h = absurd e

-- ---- rooms of types that are named

module _ (defs : List Def) (laid : AdtsAreLaid defs) (k : ℕ) where
  alone_room : (t : Ty) (r : Room) → layout.alone t ≡ Some r → HasRoom defs t
  alone_room t r e = (r, layout.is_alone t r e)

  def_at : (ds : List Def) (n : ℕ) → n < length ds → (d : Def) × (slice_get ds n ≡ Some d)
  def_at [] n l = absurd (omega arith)
  def_at (d ∷ ds) zero l = (d, refl)
  def_at (d ∷ ds) (suc n) l = def_at ds n (omega arith)

  mutual
    room_of : (t : Ty) → adts.Names defs k t → HasRoom defs t
    room_of ty.Byte h = alone_room ty.Byte (layout.number 1) refl
    room_of ty.Int h = alone_room ty.Int (layout.number 4) refl
    room_of ty.Big h = alone_room ty.Big (layout.number 8) refl
    room_of ty.Chars h = alone_room ty.Chars layout.reference refl
    room_of ty.Nothing h = alone_room ty.Nothing layout.nothing refl
    room_of ty.Nil h = alone_room ty.Nil layout.reference refl
    room_of (ty.ArrayOf t) h = alone_room (ty.ArrayOf t) layout.reference refl
    room_of (ty.ListOf t) h = alone_room (ty.ListOf t) layout.reference refl
    room_of (ty.ChanOf t) h = alone_room (ty.ChanOf t) layout.reference refl
    room_of (ty.Tuple ts) h = let r = rooms_of ts h in (layout.in_order r.0, layout.of_tuple ts r.0 r.1)
    room_of (ty.Adt n) h = let d = def_at defs n h in laid n d.0 d.1
    room_of (ty.RefAdt n) h = alone_room (ty.RefAdt n) layout.reference refl
    room_of (ty.RefPick n v) h = alone_room (ty.RefPick n v) layout.reference refl
    room_of (ty.Module n) h = alone_room (ty.Module n) layout.reference refl

    rooms_of : (ts : Tys) → adts.AllName defs k ts → (rs : List Room) × AllLaid defs (listed ts) rs
    rooms_of ty.NoTys h = ([], layout.none_laid)
    rooms_of (ty.MoreTys t ts) h =
        let r = room_of t h.0 in let q = rooms_of ts h.1 in (r.0 ∷ q.0, layout.more_laid t (listed ts) r.0 q.0 r.1 q.1)

  -- what values of a type are made of or name is named too
  room_of_item : (t : Ty) → adts.Names defs k t → HasRoom defs (item_of t)
  room_of_item (ty.ArrayOf t) h = room_of t h
  room_of_item (ty.ListOf t) h = room_of t h
  room_of_item (ty.RefAdt n) h = room_of (ty.Adt n) h
  room_of_item (ty.RefPick n v) h =
      laid n h.def h.there
  room_of_item ty.Byte h = room_of ty.Byte h
  room_of_item ty.Int h = room_of ty.Int h
  room_of_item ty.Big h = room_of ty.Big h
  room_of_item ty.Chars h = room_of ty.Chars h
  room_of_item ty.Nothing h = room_of ty.Nothing h
  room_of_item ty.Nil h = room_of ty.Nil h
  room_of_item (ty.ChanOf t) h = room_of (ty.ChanOf t) h
  room_of_item (ty.Tuple ts) h = room_of (ty.Tuple ts) h
  room_of_item (ty.Adt n) h = room_of (ty.Adt n) h
  room_of_item (ty.Module n) h = room_of (ty.Module n) h

-- ---- terms in a row

module _ (s : Scope) where
  abbrev Is : Term → Ty → Type 0
  Is e t = TermIs s [] None e t

  abbrev AreAll : Terms → List Ty → Type 0
  AreAll es ts = TermsAre s [] None es ts

  before_is : (es fs : Terms) (ts us : List Ty) → AreAll es ts → AreAll fs us → AreAll (terms_before es fs) (ts ++ us)
  before_is NoTerms fs [] us h k = k
  before_is NoTerms fs (t ∷ ts) us h k = absurd h
  before_is (MoreTerms e es) fs [] us h k = absurd h
  before_is (MoreTerms e es) fs (t ∷ ts) us h k = (h.0, before_is es fs ts us h.1 k)

  leads_more : (ns : List ℕ) (r t : Ty) (n : ℕ) (u : Ty) → Leads s.adts r ns t → HasPart s.adts t n u → Leads s.adts r (ns ++ n ∷ []) u
  leads_more [] r t n u l h = (u, subst (λ (x : Ty). HasPart s.adts x n u) (sym l) h, refl)
  leads_more (k ∷ ns) r t n u l h = (l.0, l.1, leads_more ns l.0 t n u l.2 h)

  begins_more : (r : Way) (us vs : List Ty) (t : Ty) → BeginsAt s r.root us t → BeginsAt s r.root (us ++ vs) t
  begins_more r us vs t b = go r.root b
    where
      go : (x : Root) → BeginsAt s x us t → BeginsAt s x (us ++ vs) t
      go (Local x) b = b
      go (Global x) b = b
      go Element b = (there_front us vs 0 (ty.ArrayOf t) b.0, there_front us vs 1 ty.Int b.1)
      go Target b = (b.0, b.1, (b.2.0, there_front us vs 0 b.2.0 b.2.1, b.2.2))

no_character : false ≡ true → ⊥
no_character e = cc

-- ---- what is written

written_front : (ts us : Terms) → AllWritten (terms_before ts us) → AllWritten ts
written_front NoTerms us h = tt
written_front (MoreTerms t ts) us h = (h.0, written_front ts us h.1)

written_back : (ts us : Terms) → AllWritten (terms_before ts us) → AllWritten us
written_back NoTerms us h = h
written_back (MoreTerms t ts) us h = written_back ts us h.1

-- a byte is told as an int
abbrev told_as : Ty → Ty
told_as ty.Byte = ty.Int
told_as t = t

written_told : (t : Ty) (u : Term) → Written (as_printed t u) → Written u
written_told ty.Byte u h = h.1.0
written_told _ u h = h

told_are : (ps : List Piece) (ts : List Ty) → ts ≡ holes ps → PiecesWritten ps → AreTold ps (map told_as ts)
told_are [] ts e w = tt
told_are (piece.Chars cs ∷ ps) ts e w = (w.0, told_are ps ts e w.1)
told_are (piece.Hole hole.Error ∷ ps) ts e w = absurd w
told_are (piece.Hole (hole.Decimal k) ∷ ps) [] e w = absurd cc
told_are (piece.Hole (hole.Decimal k) ∷ ps) (t ∷ ts) e w = (tt, told_are ps ts (cc) w)
told_are (piece.Hole hole.Chars ∷ ps) [] e w = absurd cc
told_are (piece.Hole hole.Chars ∷ ps) (t ∷ ts) e w = (ap told_as (let f : t ≡ ty.Chars = cc in f), told_are ps ts (cc) w)
told_are (piece.Hole hole.Character ∷ ps) [] e w = absurd cc
told_are (piece.Hole hole.Character ∷ ps) (t ∷ ts) e w = (tt, told_are ps ts (cc) w)
told_are (piece.Hole hole.Hexadecimal ∷ ps) [] e w = absurd cc
told_are (piece.Hole hole.Hexadecimal ∷ ps) (t ∷ ts) e w = (tt, told_are ps ts (cc) w)

-- ---- the types of operands

abbrev place_types : PlaceNode → List Ty
place_types (typed.Local x) = []
place_types (typed.Global x) = []
place_types (typed.Field (At t p) n) = place_types p
place_types (typed.Element a i) = type_of a ∷ ty.Int ∷ []
place_types (typed.Character (At t p) i) = place_types p ++ ty.Int ∷ []
place_types (typed.Target e) = type_of e ∷ []

abbrev mutual
  pattern_types : Pattern → List Ty
  pattern_types (typed.ToPlace (At t p)) = place_types p
  pattern_types typed.ToNothing = []
  pattern_types (typed.ToParts ps) = patterns_types ps

  patterns_types : Patterns → List Ty
  patterns_types typed.NoPatterns = []
  patterns_types (typed.MorePatterns p ps) = pattern_types p ++ patterns_types ps

aims_more : (xs ys : List Aim) → operands_for (xs ++ ys) ≡ operands_for xs + operands_for ys
aims_more [] ys = omega arith
aims_more (a ∷ xs) ys = let e = aims_more xs ys in omega arith

aims_both : (s : Scope) (xs ys : List Aim) (us : List Ty) (v : Ty) → AimsAre s xs us v → AimsAre s ys (drop (operands_for xs) us) v
    → AimsAre s (xs ++ ys) us v
aims_both s [] ys us v h k = k
aims_both s (a ∷ xs) ys us v h k = (
  h.0,
  h.1,
  h.2,
  aims_both s xs ys (drop (operands_of a.way) us) v h.3
      (subst (λ (ts : List Ty). AimsAre s ys ts v) (drop_more (operands_of a.way) (operands_for xs) us) k),
)

-- ---- what may be stored

ref_plain : (r : Ty) (n : ℕ) → IsRefOf n r → plain (ty.RefAdt n) ≡ plain r
ref_plain (ty.RefAdt m) n e = ap ty.RefAdt (sym e)
ref_plain (ty.RefPick m v) n e = ap ty.RefAdt (sym e)
ref_plain _ n e = absurd e

-- what may be stored into an object may be stored into one of the same type, but for variants
may_alike : (r : Stores) (defs : List Def) (object held part : Ty) → plain object ≡ plain held → MayStore r defs held part
    → MayStore r defs object part
may_alike Anything defs object held part e h = tt
may_alike NeverBack defs object held part e h = λ reach. h (reaches_alike defs part object held reach e)

module _ (r : Stores) (m : Module) (laid : AdtsAreLaid m.adts) (variables : List Var) where
  abbrev scope : Scope
  scope = scope_of (outline_with r m) (map (λ (v : Var). v.ty) variables)

  -- the nodes in a tree store what may be stored
  abbrev Well : typed.Node → Type 0
  Well n = StoresWell r m.adts n

  pub room : (t : Ty) → IsNamed m t → HasRoom m.adts t
  room t h = room_of m.adts laid (length m.interfaces) t h.0

  item_room : (t : Ty) → IsNamed m t → HasRoom m.adts (item_of t)
  item_room t h = room_of_item m.adts laid (length m.interfaces) t h.0

  int_named : (t : Ty) → t ≡ ty.Int → IsNamed m t
  int_named t e = subst (IsNamed m) (sym e) (tt, tt)

  variable_there : (vs : List Var) (x : ℕ) (t : Ty) → HasVariable vs x t → slice_get (map (λ (v : Var). v.ty) vs) x ≡ Some t
  variable_there vs x t h = there_map (λ (v : Var). v.ty) vs x h.0 h.1 ∙ ap Some h.2

  -- ---- ways

  field_ends : (b : Bool) (i u : Ty) (n : ℕ) (t : Ty) → HasPart m.adts u n t → Ends b i u → (b ≡ false) × (i ≡ u)
  field_ends true i u n t h e = absurd (subst (λ (x : Ty). HasPart m.adts x n t) e.1 h)
  field_ends false i u n t h e = (refl, e)

  text_ends : (b : Bool) (i u : Ty) → u ≡ ty.Chars → Ends b i u → (b ≡ false) × (i ≡ ty.Chars)
  text_ends true i u c e = absurd (let f : u ≡ ty.Int = e.1 in cc)
  text_ends false i u c e = (refl, e ∙ c)

  -- A place that is a character is an int, so that what is a string is none.
  character_int : (t : Ty) (p : PlaceNode) → SoundPlaceNode m variables t p → (way_of p).character ≡ true → t ≡ ty.Int
  character_int t (typed.Local x) s e = absurd cc
  character_int t (typed.Global x) s e = absurd cc
  character_int t (typed.Field (At u p) n) s e =
      absurd (subst (λ (x : Ty). HasPart m.adts x n t) (character_int u p s.0.1 e) s.1)
  character_int t (typed.Element a i) s e = absurd cc
  character_int t (typed.Character (At u p) i) s e = s.3
  character_int t (typed.Target x) s e = absurd cc

  text_whole : (b : Bool) (t : Ty) → t ≡ ty.Chars → (b ≡ true → t ≡ ty.Int) → b ≡ false
  text_whole true t c f = absurd (let e = f refl in cc)
  text_whole false t c f = refl

  text_count : (t : Ty) (p : PlaceNode) → SoundPlaceNode m variables t p → t ≡ ty.Chars
      → operands_of (way_of p) ≡ count_of (way_of p).root
  text_count t p s c =
      let w = way_of p in
      ap (λ (b : Bool). if b then count_of w.root + 1 else count_of w.root) (text_whole w.character t c (character_int t p s))

  -- how many operands a place has
  places_count : (t : Ty) (p : PlaceNode) → SoundPlaceNode m variables t p → length (place_types p) ≡ operands_of (way_of p)
  places_count t (typed.Local x) s = refl
  places_count t (typed.Global x) s = refl
  places_count t (typed.Field (At u p) n) s = places_count u p s.0.1
  places_count t (typed.Element a i) s = refl
  places_count t (typed.Character (At u p) i) s =
      let e1 = length-append (place_types p) (ty.Int ∷ []) in
      let e2 = places_count u p s.0.1 in
      let e3 = text_count u p s.0.1 s.2 in
      omega arith
  places_count t (typed.Target e) s = refl

  abbrev target_way : (t : Ty) (e : Expr) → IsNamed m t → sound.IsTarget (type_of e) t
      → WayIs scope (record { root = Target; parts = []; character = false }) (type_of e ∷ []) t
  target_way (ty.Adt n) e h g = record {
    root = ty.Adt n;
    room = room (ty.Adt n) h;
    begins = (n, refl, (type_of e, refl, g));
    inner = ty.Adt n;
    leads = refl;
    ends = refl;
    indexed = λ e. absurd (no_character e);
  }
  target_way _ e h g = absurd g

  abbrev place_way : (t : Ty) (p : PlaceNode) → IsNamed m t → SoundPlaceNode m variables t p → WayIs scope (way_of p) (place_types p) t
  place_way t (typed.Local x) h s = record {
    root = t;
    room = room t h;
    begins = variable_there variables x t s;
    inner = t;
    leads = refl;
    ends = refl;
    indexed = λ e. absurd (no_character e);
  }
  place_way t (typed.Global x) h s = record {
    root = t;
    room = room t h;
    begins = variable_there m.globals x t s;
    inner = t;
    leads = refl;
    ends = refl;
    indexed = λ e. absurd (no_character e);
  }
  place_way t (typed.Field (At u p) n) h s =
      let w = place_way u p s.0.0 s.0.1 in
      let e = field_ends (way_of p).character w.inner u n t s.1 w.ends in record {
        root = w.root;
        room = w.room;
        begins = w.begins;
        inner = t;
        leads = leads_more scope (way_of p).parts w.root w.inner n t w.leads (subst (λ (x : Ty). HasPart m.adts x n t) (sym e.1) s.1);
        ends = subst (λ (b : Bool). Ends b t t) (sym e.0) refl;
        indexed = w.indexed;
      }
  place_way t (typed.Element a i) h s = record {
    root = t;
    room = room t h;
    begins = (ap Some s.2, refl);
    inner = t;
    leads = refl;
    ends = refl;
    indexed = λ e. absurd (no_character e);
  }
  place_way t (typed.Character (At u p) i) h s =
      let w = place_way u p s.0.0 s.0.1 in
      let e = text_ends (way_of p).character w.inner u s.2 w.ends in record {
        root = w.root;
        room = w.room;
        begins = begins_more scope (way_of p) (place_types p) (ty.Int ∷ []) w.root w.begins;
        inner = w.inner;
        leads = w.leads;
        ends = (e.1, s.3);
        indexed = λ f.
            subst (λ (k : ℕ). slice_get (place_types p ++ ty.Int ∷ []) k ≡ Some ty.Int)
            (places_count u p s.0.1 ∙ text_count u p s.0.1 s.2) (there_last (place_types p) ty.Int);
      }
  place_way t (typed.Target e) h s = target_way t e h s.1

  -- what may be stored into the object that holds a place may be written there
  abbrev IntoHolder : PlaceNode → Ty → Type 0
  IntoHolder p part = (object : Ty) → stores.holder_of p ≡ Some object → MayStore r m.adts object part

  target_may : (t : Ty) (e : Expr) (h : IsNamed m t) (g : sound.IsTarget (type_of e) t) (part : Ty) → MayStore r m.adts (type_of e) part
      → MayWrite r m.adts Target (target_way t e h g).root part
  target_may (ty.Adt n) e h g part may object held =
      let same : ty.RefAdt n ≡ object = let f : Some (ty.RefAdt n) ≡ Some object = held in cc in
      may_alike r m.adts object (type_of e) part (sym (ap plain same) ∙ ref_plain (type_of e) n g) may
  target_may _ e h g part may object held = absurd g

  place_may : (t : Ty) (p : PlaceNode) (h : IsNamed m t) (s : SoundPlaceNode m variables t p) (part : Ty) → IntoHolder p part
      → MayWrite r m.adts (way_of p).root (place_way t p h s).root part
  place_may t (typed.Local x) h s part may object held = absurd cc
  place_may t (typed.Global x) h s part may object held = absurd cc
  place_may t (typed.Field (At u p) n) h s part may object held = place_may u p s.0.0 s.0.1 part may object held
  place_may t (typed.Element a i) h s part may object held =
      let same : ty.ArrayOf t ≡ object = let f : Some (ty.ArrayOf t) ≡ Some object = held in cc in
      subst (λ (x : Ty). MayStore r m.adts x part) (s.2 ∙ same) (may (type_of a) refl)
  place_may t (typed.Character (At u p) i) h s part may object held = place_may u p s.0.0 s.0.1 part may object held
  place_may t (typed.Target e) h s part may object held = target_may t e h s.1 part (may (type_of e) refl) object held

  -- ---- patterns

  mutual
    pattern_count : (p : Pattern) (t : Ty) (ns : List ℕ) → SoundPattern m variables p t
        → length (pattern_types p) ≡ operands_for (aims_in ns p)
    pattern_count (typed.ToPlace (At u p)) t ns s = let e = places_count u p s.0.1 in omega arith
    pattern_count typed.ToNothing t ns s = refl
    pattern_count (typed.ToParts ps) t ns s = patterns_count ps (listed s.0) ns 0 s.2

    patterns_count : (ps : Patterns) (ts : List Ty) (ns : List ℕ) (k : ℕ) → SoundPatterns m variables ps ts
        → length (patterns_types ps) ≡ operands_for (aims_among ns k ps)
    patterns_count typed.NoPatterns [] ns k s = refl
    patterns_count typed.NoPatterns (t ∷ ts) ns k s = absurd s
    patterns_count (typed.MorePatterns p ps) [] ns k s = absurd s
    patterns_count (typed.MorePatterns p ps) (t ∷ ts) ns k s =
        let e1 = length-append (pattern_types p) (patterns_types ps) in
        let e2 = pattern_count p t (ns ++ (k ∷ [])) s.0 in
        let e3 = patterns_count ps ts ns (suc k) s.1 in
        let e4 = aims_more (aims_in (ns ++ (k ∷ [])) p) (aims_among ns (suc k) ps) in
        omega arith

  -- part number k of a tuple, and those behind it
  abbrev Parts_from : List Ty → ℕ → List Ty → Type 0
  Parts_from all k ts = (j : ℕ) (t : Ty) → slice_get ts j ≡ Some t → slice_get all (k + j) ≡ Some t

  parts_next : (all : List Ty) (k : ℕ) (t : Ty) (ts : List Ty) → Parts_from all k (t ∷ ts) → Parts_from all (suc k) ts
  parts_next all k t ts h j u e =
      subst (λ (n : ℕ). slice_get all n ≡ Some u) (let f : k + suc j ≡ suc k + j = omega arith in f) (h (suc j) u e)

  -- into each of these places what is of its type may be stored
  abbrev IntoAll : (Place → Type 0) → Type 0
  IntoAll Here = (p : Place) → Here p → (object : Ty) → stores.holder p ≡ Some object → MayStore r m.adts object (type_at p)

  mutual
    pattern_aims : (p : Pattern) (t v : Ty) (ns : List ℕ) (more : List Ty) → SoundPattern m variables p t → Leads m.adts v ns t
        → IntoAll (HasPlace p) → AimsAre scope (aims_in ns p) (pattern_types p ++ more) v
    pattern_aims (typed.ToPlace (At u p)) t v ns more s l may =
        let k = places_count u p s.0.1 in
        let w = subst (λ (ts : List Ty). (is : WayIs scope (way_of p) ts u) × MayWrite r m.adts (way_of p).root is.root u)
        (sym (take_front (place_types p) more (operands_of (way_of p)) k))
        (place_way u p s.0.0 s.0.1, place_may u p s.0.0 s.0.1 u (may (At u p) refl)) in
        (w.0, w.1, (t, l, s.1), tt)
    pattern_aims typed.ToNothing t v ns more s l may = tt
    pattern_aims (typed.ToParts ps) t v ns more s l may =
        patterns_aims ps s.0 v ns 0 (listed s.0) more s.2 (subst (λ (x : Ty). Leads m.adts v ns x) s.1 l)
        (λ j u e. subst (λ (n : ℕ). slice_get (listed s.0) n ≡ Some u) (let f : j ≡ 0 + j = omega arith in f) e) may

    patterns_aims : (ps : Patterns) (all : Tys) (v : Ty) (ns : List ℕ) (k : ℕ) (ts more : List Ty) → SoundPatterns m variables ps ts
        → Leads m.adts v ns (ty.Tuple all) → Parts_from (listed all) k ts → IntoAll (SomeHasPlace ps)
        → AimsAre scope (aims_among ns k ps) (patterns_types ps ++ more) v
    patterns_aims typed.NoPatterns all v ns k ts more s l h may = tt
    patterns_aims (typed.MorePatterns p ps) all v ns k [] more s l h may = absurd s
    patterns_aims (typed.MorePatterns p ps) all v ns k (t ∷ ts) more s l h may =
        let there : slice_get (listed all) k ≡ Some t =
        subst (λ (n : ℕ). slice_get (listed all) n ≡ Some t) (let f : k + 0 ≡ k = omega arith in f) (h 0 t refl) in
        let xs = aims_in (ns ++ k ∷ []) p in
        let ys = aims_among ns (suc k) ps in
        let e = pattern_count p t (ns ++ k ∷ []) s.0 in
        subst (λ (us : List Ty). AimsAre scope (xs ++ ys) us v) (sym (append_assoc (pattern_types p) (patterns_types ps) more))
        (aims_both scope xs ys (pattern_types p ++ (patterns_types ps ++ more)) v
        (pattern_aims p t v (ns ++ k ∷ []) (patterns_types ps ++ more) s.0 (leads_more scope ns v (ty.Tuple all) k t l there)
        (λ x here. may x (inl here)))
        (subst (λ (us : List Ty). AimsAre scope ys us v)
        (sym (drop_front (pattern_types p) (patterns_types ps ++ more) (operands_for xs) e))
        (patterns_aims ps all v ns (suc k) ts more s.1 l (parts_next (listed all) k t ts h) (λ x here. may x (inr here)))))

  -- ---- expressions

  work_of : (o : Operation) (t : Ty) (us : List Ty) (u : Ty) → IsNamed m t → Gives m.adts o us t → Stands t u
      → WorkIs scope t (operating o) us u
  work_of operation.List t us u h g st =
      (g.0, g.1, subst (HasRoom m.adts) (ap item_of g.1) (item_room t h), g.2, st)
  work_of _ t us u h g st = (g, room t h, item_room t h, st)

  int_is : (t : Ty) (u : Term) → t ≡ ty.Int → Is scope u t → Is scope u ty.Int
  int_is t u e h = subst (Is scope u) e h

  array_of : (t : Ty) → sound.IsArray t → t ≡ ty.ArrayOf (item_of t)
  array_of (ty.ArrayOf t) h = refl
  array_of _ h = absurd h

  channel_of : (t : Ty) → sound.IsChannel t → (i : Ty) × (t ≡ ty.ChanOf i)
  channel_of (ty.ChanOf t) h = (t, refl)
  channel_of _ h = absurd h

  told_is : (t : Ty) (u : Term) → Is scope u t → Is scope (as_printed t u) (told_as t)
  told_is ty.Byte u h =
      (ty.Byte ∷ [], (h, tt), inl ((refl, refl), room ty.Int (tt, tt), room ty.Int (tt, tt), inl refl))
  told_is ty.Int u h = h
  told_is ty.Big u h = h
  told_is ty.Chars u h = h
  told_is ty.Nothing u h = h
  told_is ty.Nil u h = h
  told_is (ty.ArrayOf t) u h = h
  told_is (ty.ListOf t) u h = h
  told_is (ty.ChanOf t) u h = h
  told_is (ty.Tuple ts) u h = h
  told_is (ty.Adt n) u h = h
  told_is (ty.RefAdt n) u h = h
  told_is (ty.RefPick n k) u h = h
  told_is (ty.Module n) u h = h

  function_there : (f : ℕ) (us : List Ty) (t u : Ty) → sound.HasFunction m f us t → Stands t u
      → WorkIs scope t (tree.Call f) us u
  function_there f us t u h st = (
    signature_of h.function,
    there_map signature_of m.functions f h.function h.there,
    h.takes.0,
    h.takes.1,
    st,
  )

  mutual
    node_is : (t : Ty) (n : typed.Node) (u : Ty) → IsNamed m t → SoundNode m variables t n → Stands t u → Written (node_of t n)
        → AllNodes Well (Of t n) → Is scope (node_of t n) u
    node_is t (typed.Number n) u h s st w q = ([], tt, inl (s, tt, room t h, st))
    node_is t (typed.Chars x) u h s st w q = ([], tt, inl (s, w.0, room t h, st))
    node_is t typed.Nil u h s st w q = ([], tt, inl (s, room t h, st))
    node_is t (typed.Read (At v p)) u h s st w q = (
      place_types p,
      place_operands v p s.0.1 w.1 q.1,
      inl (place_way v p s.0.0 s.0.1, room v s.0.0, subst (λ (x : Ty). Stands x u) (sym s.1) st),
    )
    node_is t (typed.Part (Of v e) n) u h s st w q =
        (v ∷ [], (node_is v e v s.0.0 s.0.1 (inl refl) w.1.0 q.1, tt), inl (v, refl, room v s.0.0, s.1, st))
    node_is t (typed.Apply o es) u h s st w q = (types_of es, exprs_are es s.0 w.1 q.1, inl (work_of o t (types_of es) u h s.1 st))
    node_is t (typed.Lazy c (Of v l) (Of x r)) u h s st w q = (
      int_is v (node_of v l) s.0.0 (node_is v l v (int_named v s.0.0) s.0.1 (inl refl) w.0 q.1.0),
      int_is x (node_of x r) s.1.0 (node_is x r x (int_named x s.1.0) s.1.1 (inl refl) w.1 q.1.1),
      subst (λ (y : Ty). Stands y u) s.2 st,
    )
    node_is t (typed.Assign p (Of v n)) u h s st w q =
        let us = pattern_types p in (
          us ++ v ∷ [],
          before_is scope (operands_to p) (only_term (node_of v n)) us (v ∷ [])
              (pattern_operands p v s.1 (written_front (operands_to p) (only_term (node_of v n)) w.1) q.1.0)
              (node_is v n v s.0.0 s.0.1 (inl refl) (written_back (operands_to p) (only_term (node_of v n)) w.1).0 q.1.1, tt),
          inl (
            v,
            there_behind us v (operands_for (aims_in [] p)) (pattern_count p v [] s.1),
            room v s.0.0,
            pattern_aims p v v [] (v ∷ []) s.1 refl (λ x here. q.0.places x here),
            stands_on v t u s.2 st,
          ),
        )
    node_is t (typed.Update o (At v p) (Of x e)) u h s st w q = (
      place_types p,
      x ∷ [],
      place_operands v p s.0.1 w.0 q.1.0,
      (node_is x e x s.1.0 s.1.1 (inl refl) w.1.0 q.1.1, tt),
      place_way v p s.0.0 s.0.1,
      place_may v p s.0.0 s.0.1 v (q.0.places (At v p) refl),
      s.2,
      room v s.0.0,
      item_room v s.0.0,
      subst (λ (y : Ty). Stands y u) (sym s.3) st,
    )
    node_is t (typed.Step o g (At v p)) u h s st w q = (
      place_types p,
      [],
      place_operands v p s.0.1 w.0 q.1,
      tt,
      place_way v p s.0.0 s.0.1,
      place_may v p s.0.0 s.0.1 v (q.0.places (At v p) refl),
      s.1,
      room v s.0.0,
      item_room v s.0.0,
      subst (λ (y : Ty). Stands y u) (sym s.2) st,
    )
    node_is t (typed.Copy (Of a e) (Of i f) (Of b g)) u h s st w q =
        let array = array_of t s.3 in (
          a ∷ ty.Int ∷ b ∷ [],
          (
            node_is a e a s.0.0 s.0.1 (inl refl) w.1.0 q.1.0,
            (
              int_is i (node_of i f) s.1.0 (node_is i f i (int_named i s.1.0) s.1.1 (inl refl) w.1.1.0 q.1.1),
              (node_is b g b s.2.0 s.2.1 (inl refl) w.1.1.1.0 q.1.2, tt),
            ),
          ),
          inl (
            item_of t,
            ap Some (s.4 ∙ array),
            ap Some (s.5 ∙ array),
            q.0.copies (item_of t) (s.4 ∙ array),
            subst (λ (y : Ty). Stands y u) array st,
          ),
        )
    node_is t (typed.Filled l is rest) u h s st w q =
        let e : s.0 ≡ item_of t = sym (ap item_of s.1) in (
          item_room t h,
          length_is l is s.2 w.0 q.1.0,
          subst (ItemsAre scope [] None (items_of is)) e (items_are is s.0 s.3 w.1 q.1.1),
          subst (RestIs scope [] (terms_if rest)) e (rest_is rest s.0 s.4 w.2 q.1.2),
          subst (λ (y : Ty). Stands y u) (s.1 ∙ ap ty.ArrayOf e) st,
        )
    node_is t (typed.Channel Absent) u h s st w q = let c = channel_of t s.0 in ([], tt, inl (c.0, c.1, st))
    node_is t (typed.Call f es) u h s st w q = (types_of es, exprs_are es s.0 w.1 q.1, inl (function_there f (types_of es) t u s.1 st))
    node_is t (typed.Print printed.Print e Absent ps es) u h s st w q =
        (map told_as (types_of es), prints_are es s.3 w.1 q.1.2, inl (subst (λ (y : Ty). Stands y u) s.5 st))
    node_is t (typed.Print printed.Sprint e Absent ps es) u h s st w q =
        (map told_as (types_of es), prints_are es s.3 w.1 q.1.2, inl (told_are ps (types_of es) s.4 w.0, s.5, st))
    node_is t (typed.Print printed.Fprint e Absent ps es) u h s st w q = tt
    node_is t (typed.Print which e (Present x) ps es) u h s st w q = tt
    node_is t typed.OpenNil u h s st w q = tt
    node_is t (typed.Channel (Present x)) u h s st w q = tt
    node_is t (typed.CallThrough e n f es) u h s st w q = tt
    node_is t (typed.Load n e) u h s st w q = tt
    node_is t (typed.Send c e) u h s st w q = tt
    node_is t (typed.Receive c) u h s st w q = tt

    exprs_are : (es : Exprs) → SoundExprs m variables es → AllWritten (terms_of es) → InEach Well es
        → AreAll scope (terms_of es) (types_of es)
    exprs_are NoExprs s w q = tt
    exprs_are (MoreExprs (Of t n) es) s w q = (node_is t n t s.0.0 s.0.1 (inl refl) w.0 q.0, exprs_are es s.1 w.1 q.1)

    prints_are : (es : Exprs) → SoundExprs m variables es → AllWritten (printed_of es) → InEach Well es
        → AreAll scope (printed_of es) (map told_as (types_of es))
    prints_are NoExprs s w q = tt
    prints_are (MoreExprs (Of t n) es) s w q = (
      told_is t (node_of t n) (node_is t n t s.0.0 s.0.1 (inl refl) (written_told t (node_of t n) w.0) q.0),
      prints_are es s.1 w.1 q.1,
    )

    length_is : (l : Optional) (is : typed.Items) → SoundOptional m variables l ty.Int → Written (length_term l is)
        → InOptional Well l → Is scope (length_term l is) ty.Int
    length_is Absent is s w q = int_fits m.adts [] (Num (pos (long_enough is)))
    length_is (Present (Of t n)) is s w q = node_is t n ty.Int s.0.0 s.0.1 s.1 w q

    items_are : (is : typed.Items) (t : Ty) → SoundItems m variables is t → ItemsWritten (items_of is) → InItems Well is
        → ItemsAre scope [] None (items_of is) t
    items_are typed.NoItems t s w q = tt
    items_are (typed.MoreItems i (Of v n) is) t s w q = (node_is v n t s.0.0 s.0.1 s.1 w.0 q.0, items_are is t s.2 w.1 q.1)

    rest_is : (e : Optional) (t : Ty) → SoundOptional m variables e t → AllWritten (terms_if e) → InOptional Well e
        → RestIs scope [] (terms_if e) t
    rest_is Absent t s w q = tt
    rest_is (Present (Of v n)) t s w q = node_is v n t s.0.0 s.0.1 s.1 w.0 q

    place_operands : (t : Ty) (p : PlaceNode) → SoundPlaceNode m variables t p → AllWritten (operands_at p)
        → InPlaceNode Well p → AreAll scope (operands_at p) (place_types p)
    place_operands t (typed.Local x) s w q = tt
    place_operands t (typed.Global x) s w q = tt
    place_operands t (typed.Field (At v p) n) s w q = place_operands v p s.0.1 w q
    place_operands t (typed.Element (Of a e) (Of i f)) s w q = (
      node_is a e a s.0.0 s.0.1 (inl refl) w.0 q.0,
      (int_is i (node_of i f) s.1.0 (node_is i f i (int_named i s.1.0) s.1.1 (inl refl) w.1.0 q.1), tt),
    )
    place_operands t (typed.Character (At v p) (Of i f)) s w q =
        before_is scope (operands_at p) (only_term (node_of i f)) (place_types p) (ty.Int ∷ [])
        (place_operands v p s.0.1 (written_front (operands_at p) (only_term (node_of i f)) w) q.0) (
          int_is i (node_of i f) s.1.0
              (node_is i f i (int_named i s.1.0) s.1.1 (inl refl) (written_back (operands_at p) (only_term (node_of i f)) w).0 q.1),
          tt,
        )
    place_operands t (typed.Target (Of v e)) s w q = (node_is v e v s.0.0 s.0.1 (inl refl) w.0 q, tt)

    pattern_operands : (p : Pattern) (t : Ty) → SoundPattern m variables p t → AllWritten (operands_to p) → InPattern Well p
        → AreAll scope (operands_to p) (pattern_types p)
    pattern_operands (typed.ToPlace (At v p)) t s w q = place_operands v p s.0.1 w q
    pattern_operands typed.ToNothing t s w q = tt
    pattern_operands (typed.ToParts ps) t s w q = patterns_operands ps (listed s.0) s.2 w q

    patterns_operands : (ps : Patterns) (ts : List Ty) → SoundPatterns m variables ps ts → AllWritten (operands_among ps)
        → InPatterns Well ps → AreAll scope (operands_among ps) (patterns_types ps)
    patterns_operands typed.NoPatterns ts s w q = tt
    patterns_operands (typed.MorePatterns p ps) [] s w q = absurd s
    patterns_operands (typed.MorePatterns p ps) (t ∷ ts) s w q =
        before_is scope (operands_to p) (operands_among ps) (pattern_types p) (patterns_types ps)
        (pattern_operands p t s.0 (written_front (operands_to p) (operands_among ps) w) q.0)
        (patterns_operands ps ts s.1 (written_back (operands_to p) (operands_among ps) w) q.1)

-- ---- statements

load_or : (n : typed.Node) → (is_load n ≡ None) ⊎ (is_load n ≡ Some Over)
load_or (typed.Assign p (Of t (typed.Load i e))) = inr refl
load_or _ = inl refl

locals_none : (types : List Ty) (xs : List ℕ) → operands_for (map (local types) xs) ≡ 0
locals_none types [] = refl
locals_none types (x ∷ xs) = let e = locals_none types xs in omega arith

abbrev pub types_in : List Var → List Ty
types_in vs = map (λ (v : Var). v.ty) vs

some_there : (m : Module) (vs : List Var) (x : ℕ) → x < length vs → Each (λ (v : Var). IsNamed m v.ty) vs
    → (slice_get (types_in vs) x ≡ Some (slice_index_or (types_in vs) x ty.Int)) × IsNamed m (slice_index_or (types_in vs) x ty.Int)
some_there m [] x l h = absurd (omega arith)
some_there m (v ∷ vs) zero l h = (refl, h.0)
some_there m (v ∷ vs) (suc x) l h = some_there m vs x (omega arith) h.1

within : {A : Type 0} (xs : List A) (n : ℕ) (x : A) → slice_get xs n ≡ Some x → n < length xs
within [] n x e = absurd cc
within (y ∷ xs) zero x e = omega arith
within (y ∷ xs) (suc n) x e = let l = within xs n x e in omega arith

module _ (r : Stores) (m : Module) (laid : AdtsAreLaid m.adts) (f : typed.Function)
    (named : Each (λ (v : Var). IsNamed m v.ty) f.variables) where
  abbrev types : List Ty
  types = types_in f.variables

  abbrev here : Scope
  here = scope r m laid f.variables

  abbrev gives : Ty
  gives = f.of.answer

  abbrev Fine : typed.Node → Type 0
  Fine n = StoresWell r m.adts n

  abbrev Good : Block → Type 0
  Good b = BlockIs here [] gives None b

  local_way : (x : ℕ) → x < length f.variables → WayIs here (began (Local x)) [] (slice_index_or types x ty.Int)
  local_way x l = let h = some_there m f.variables x l named in record {
    root = slice_index_or types x ty.Int;
    room = room r m laid f.variables (slice_index_or types x ty.Int) h.1;
    begins = h.0;
    inner = slice_index_or types x ty.Int;
    leads = refl;
    ends = refl;
    indexed = λ e. absurd (no_character e);
  }

  pub declares_all : (xs : List ℕ) → Each (λ (x : ℕ). x < length f.variables) xs → DeclaresAll here (map (local types) xs)
  declares_all [] s = tt
  declares_all (x ∷ xs) s = (
    (
      local_way x s.0,
      refl,
      refl,
      room r m laid f.variables (slice_index_or types x ty.Int) (some_there m f.variables x s.0 named).1,
    ),
    declares_all xs s.1,
  )

  declared_aims : (xs : List ℕ) (t : Ty) (us : List Ty)
      → Each (λ (x : ℕ). (u : Ty) × HasVariable f.variables x u × Stands t u) xs → AimsAre here (map (local types) xs) us t
  declared_aims [] t us s = tt
  declared_aims (x ∷ xs) t us s =
      let h = some_there m f.variables x (within f.variables x s.0.1.0 s.0.1.1) named in
      let g = variable_there r m laid f.variables f.variables x s.0.0 s.0.1 in
      let same : s.0.0 ≡ slice_index_or types x ty.Int = let e = h.0 in cc in (
        local_way x (within f.variables x s.0.1.0 s.0.1.1),
        λ object held. absurd cc,
        (t, refl, subst (λ (u : Ty). Stands t u) same s.0.2),
        declared_aims xs t us s.1,
      )

  declared_is : (xs : List ℕ) (e : Option Expr) → SoundDeclared m f.variables xs e
      → Written (Node ty.Int (Assign (map (local types) xs)) (only_term (declared_value types e)))
      → InOption Fine e → (t : Ty) × Is here (Node ty.Int (Assign (map (local types) xs)) (only_term (declared_value types e))) t
  declared_is xs None s w q =
      (ty.Int, (ty.Int ∷ [], (int_fits m.adts [] nothing, tt), inr (refl, declares_all xs s, refl)))
  declared_is xs (Some (Of t n)) s w q = (
    t,
    (
      t ∷ [],
      (node_is r m laid f.variables t n t s.0.0 s.0.1 (inl refl) w.1.0 q, tt),
      inl (
        t,
        subst (λ (k : ℕ). slice_get (t ∷ []) k ≡ Some t) (sym (locals_none types xs)) refl,
        room r m laid f.variables t s.0.0,
        declared_aims xs t (t ∷ []) s.1,
        inl refl,
      ),
    ),
  )

  eval_is : (t : Ty) (n : typed.Node) → IsNamed m t → SoundNode m f.variables t n → AllNodes Fine (Of t n)
      → StmWritten (evaluated (Of t n)) → StmIs here [] gives None (evaluated (Of t n))
  eval_is t n h s q = elim (load_or n) [
    | inl e ↦ subst (λ (o : Option Stm). StmWritten (elim o [ None ↦ Eval (node_of t n) | Some x ↦ x ])
        → StmIs here [] gives None (elim o [ None ↦ Eval (node_of t n) | Some x ↦ x ])) (sym e)
        (λ w. (t, node_is r m laid f.variables t n t h s (inl refl) w q))
    | inr e ↦ subst (λ (o : Option Stm). StmWritten (elim o [ None ↦ Eval (node_of t n) | Some x ↦ x ])
        → StmIs here [] gives None (elim o [ None ↦ Eval (node_of t n) | Some x ↦ x ])) (sym e) (λ w. tt)
  ]

  -- a condition is an int
  test_of : (t : Ty) (n : typed.Node) → SoundInt m f.variables (Of t n) → Written (node_of t n) → AllNodes Fine (Of t n)
      → Is here (node_of t n) ty.Int
  test_of t n s w q =
      int_is r m laid f.variables t (node_of t n) s.0
      (node_is r m laid f.variables t n t (int_named r m laid f.variables t s.0) s.1 (inl refl) w q)

  condition_is : (c : Option Expr) → SoundCondition m f.variables c → WrittenIf (optional c) → InOption Fine c
      → TestIs here [] gives (optional c)
  condition_is None s w q = tt
  condition_is (Some (Of t n)) s w q = test_of t n s w q

  option_is : (c : Option Expr) → SoundOption m f.variables c → InOption Fine c → WrittenIf (optional c)
      → TermIfAny here [] gives (optional c)
  option_is None s q w = tt
  option_is (Some (Of t n)) s q w = (t, node_is r m laid f.variables t n t s.0 s.1 (inl refl) w q)

  loop_is : (c : Option Expr) (n : Option Term) (body rest : Block) → BlockWritten (tested (Looping (optional c) n body) rest)
      → SoundCondition m f.variables c → InOption Fine c → (WrittenIf n → TermIfAny here [] gives n) → (BlockWritten body → Good body)
      → (BlockWritten rest → Good rest) → Good (tested (Looping (optional c) n body) rest)
  loop_is None n body rest w s q hn hb hr = ((tt, hn w.0.1, hb w.0.2), hr w.1)
  loop_is (Some (Of t e)) n body rest w s q hn hb hr =
      ((test_of t e s w.0.0 q, (test_of t e s w.0.1.0 q, hn w.0.1.1, hb w.0.1.2)), hr w.1)

  mutual
    stmt_is : (around : List Bool) (x : Stmt) (rest : Block) → SoundStmt m f around x → InStmt Fine x → BlockWritten (before types x rest)
        → (BlockWritten rest → Good rest) → Good (before types x rest)
    stmt_is a typed.Empty rest s q w k = (tt, k w.1)
    stmt_is a (typed.Block ss) rest s q w k = stmts_are a ss (Then Over rest) s q w (λ v. (tt, k v.1))
    stmt_is a (typed.Declare xs e) rest s q w k = (declared_is xs e s w.0 q, k w.1)
    stmt_is a (typed.Eval (Of t n)) rest s q w k = (eval_is t n s.0 s.1 q w.0, k w.1)
    stmt_is a (typed.If (Of t c) ss others) rest s q w k = (
      (
        test_of t c s.0 w.0.0 q.0,
        stmts_are a ss Done s.1 q.1 w.0.1 (λ v. tt),
        stmts_are a others Done s.2 q.2 w.0.2 (λ v. tt),
      ),
      k w.1,
    )
    stmt_is a (typed.While c ss) rest s q w k =
        loop_is c None (all_before types ss Done) (Then Over rest) w s.0 q.0 (λ v. tt)
        (λ v. stmts_are (true ∷ a) ss Done s.1 q.1 v (λ x. tt)) (λ v. (tt, k v.1))
    stmt_is a (typed.Do ss c) rest s q w k =
        ((condition_is c s.1 w.0.0 q.1, tt, stmts_are (true ∷ a) ss Done s.0 q.0 w.0.2 (λ v. tt)), (tt, k w.1.1))
    stmt_is a (typed.For None c n ss) rest s q w k =
        loop_is c (optional n) (all_before types ss Done) (Then Over rest) w s.1 q.1 (option_is n s.2 q.2)
        (λ v. stmts_are (true ∷ a) ss Done s.3 q.3 v (λ x. tt)) (λ v. (tt, k v.1))
    stmt_is a (typed.For (Some (Of t e)) c n ss) rest s q w k = (
      eval_is t e s.0.0 s.0.1 q.0 w.0,
      loop_is c (optional n) (all_before types ss Done) (Then Over rest) w.1 s.1 q.1 (option_is n s.2 q.2)
          (λ v. stmts_are (true ∷ a) ss Done s.3 q.3 v (λ x. tt)) (λ v. (tt, k v.1)),
    )
    stmt_is a (typed.Break n) rest s q w k = (tt, k w.1)
    stmt_is a (typed.Continue n) rest s q w k = (tt, k w.1)
    stmt_is a (typed.Return None) rest s q w k = (tt, k w.1)
    stmt_is a (typed.Return (Some (Of t n))) rest s q w k =
        (node_is r m laid f.variables t n gives s.0.0 s.0.1 s.1 w.0 q, k w.1)
    stmt_is a (typed.Case e heads arms) rest s q w k = ((ty.Int, tt), k w.1)
    stmt_is a (typed.Alt heads arms) rest s q w k = ((ty.Int, tt), k w.1)
    stmt_is a (typed.Pick e heads arms) rest s q w k = ((ty.Int, tt), k w.1)
    stmt_is a typed.Exit rest s q w k = ((ty.Int, tt), k w.1)
    stmt_is a (typed.Spawn e) rest s q w k = ((ty.Int, tt), k w.1)
    stmt_is a (typed.Raise e) rest s q w k = ((ty.Int, tt), k w.1)
    stmt_is a (typed.RaiseDeclared n es) rest s q w k = ((ty.Int, tt), k w.1)
    stmt_is a (typed.RaiseAgain n) rest s q w k = ((ty.Int, tt), k w.1)
    stmt_is a (typed.Handle ss n heads arms) rest s q w k = ((ty.Int, tt), k w.1)

    stmts_are : (around : List Bool) (ss : Stmts) (rest : Block) → SoundStmts m f around ss → InStmts Fine ss
        → BlockWritten (all_before types ss rest) → (BlockWritten rest → Good rest) → Good (all_before types ss rest)
    stmts_are a typed.NoStmts rest s q w k = k w
    stmts_are a (typed.MoreStmts x ss) rest s q w k =
        stmt_is a x (all_before types ss rest) s.0 q.0 w (λ v. stmts_are a ss rest s.1 q.1 v k)

-- ---- functions

module _ (r : Stores) (m : Module) (laid : AdtsAreLaid m.adts) where
  rooms_all : (vs : List Var) → Each (λ (v : Var). IsNamed m v.ty) vs → AllHaveRooms m.adts (types_in vs)
  rooms_all [] h = tt
  rooms_all (v ∷ vs) h = (room r m laid [] v.ty h.0, rooms_all vs h.1)

  abbrev BodyWell : typed.Function → Type 0
  BodyWell f = InStmts (StoresWell r m.adts) f.body

  function_is : (f : typed.Function) → SoundFunction m f → BodyWell f → BlockWritten (routine_of f).body
      → RoutineIs (outline_with r m) (signature_of f) (routine_of f)
  function_is f s q w = record {
    variables = refl;
    parameters = s.parameters;
    rooms = rooms_all f.variables s.named;
    answer = room r m laid [] f.of.answer s.answer;
    body = stmts_are r m laid f s.named [] f.body Done s.body q w (λ v. tt);
  }

  functions_are : (fs : List typed.Function) → Each (SoundFunction m) fs → Each BodyWell fs → (k : ℕ) (g : Signature) (x : Routine)
      → slice_get (map signature_of fs) k ≡ Some g → slice_get (map routine_of fs) k ≡ Some x → BlockWritten x.body
      → RoutineIs (outline_with r m) g x
  functions_are [] s q k g x e h w = absurd cc
  functions_are (f ∷ fs) s q zero g x e h w =
      let a : signature_of f ≡ g = cc in
      let b : routine_of f ≡ x = cc in
      subst (λ (y : Signature). RoutineIs (outline_with r m) y x) a
      (subst (λ (y : Routine). BlockWritten y.body → RoutineIs (outline_with r m) (signature_of f) y) b
      (λ v. function_is f s.0 q.0 v) w)
  functions_are (f ∷ fs) s q (suc k) g x e h w = functions_are fs s.1 q.1 k g x e h w

pub program_is : (r : Stores) (m : Module) → sound.IsSound m → AdtsAreLaid m.adts → TextsAreWritten m → StoresAllowed r m
    → ProgramIs (outline_with r m) (program_of m)
program_is r m s laid w q = record {
  adts = refl;
  routines = λ f g x e h. functions_are r m laid m.functions s.functions q f g x e h (w.routines f x h);
}
