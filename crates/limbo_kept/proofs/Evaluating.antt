-- What each step of a tree leaves.
use Rattle.std.proofs.Common.{◌≡◌, ℕ, ℤ, zero, suc, pos, negsuc, ◌+◌, ◌-◌, Bool, true, false, List, [], ◌∷◌, ◌++◌, length, Option, Some}
use Rattle.std.proofs.Common.{None}
use Rattle.std.proofs.Common.{Ok, Err, refl, sym, ap, subst, ◌∙◌, arith, inl, inr, take, drop, reverse}
use Rattle.std.specs.Prelude.{slice_get, slice_range, Result, if◌then◌else◌}
use Rattle.inf_text.specs.Steps.{◌>>=◌}
use Rattle.heap_model.specs.Heap.{at}
use Rattle.limbo_types.specs.Types as ty
use Rattle.limbo_types.specs.Types.{Ty}
use Rattle.limbo_layout.specs.Layout as layout
use Rattle.limbo_values.specs.declared.raised.Raised.{Raised}
use Rattle.limbo_values.specs.declared.number.Kind.TheVariants as kind
use Rattle.limbo_values.specs.Texts.{bounds_in}
use Rattle.limbo_typed.specs.declared.operation.Operation.{Operation}
use Rattle.limbo_typed.specs.declared.operation.Given.{Given}
use Rattle.limbo_typed.specs.declared.operation.Given.TheVariants as given
use Rattle.limbo_typed.specs.declared.print.Hole.{Hole}
use Rattle.limbo_typed.specs.declared.print.Hole.TheVariants as hole
use Rattle.limbo_typed.specs.declared.print.Piece.{Piece}
use Rattle.limbo_typed.specs.declared.print.Piece.TheVariants as piece
use Rattle.limbo_typed.specs.declared.stmt.Constant.{Constant}
use Rattle.limbo_typed.specs.declared.stmt.Constant.TheVariants as constant
use Rattle.limbo_typed.specs.Fitting.{Stands, EachStands, Gives, IsConstant, IsNumber, IsRefOf}
use Rattle.limbo_meaning.specs.Values.{Part, Value, Num, Chars, Ref, Array, nothing, number_of, name_of, part_of, parts_of}
use Rattle.limbo_meaning.specs.Values.{array_named, fitted, references}
use Rattle.limbo_meaning.specs.Memory.{HeapValue, Elements, Cell, Channel, Memory, next_name, elements_in}
use Rattle.limbo_meaning.specs.Exceptions.{Raising, with_text}
use Rattle.limbo_meaning.specs.Places.{Root, Local, Global, Element, Target, Way, Place, operand, operands_of, read, written, not_longer}
use Rattle.limbo_meaning.specs.Places.{count_of, value_part}
use Rattle.limbo_meaning.specs.Places.{part_at}
use Rattle.limbo_meaning.specs.Operations.{result_of, new_array, copied, copied_into, overwritten, elements_of, long_of, item_of}
use Rattle.limbo_meaning.specs.Operations.{constant_value, decides, truth_of}
use Rattle.limbo_meaning.specs.Formats.{hole_text, formatted}
use Rattle.limbo_meaning.specs.Trees.{Aim, Pending, Work, Literal, Nil, Operate, Read, Assign, TakePart, Copy, Link, NewChannel, Call}
use Rattle.limbo_meaning.specs.Trees.{Print}
use Rattle.limbo_meaning.specs.Trees.{Sprint}
use Rattle.limbo_meaning.specs.Trees.{Term, Evaluated, Awaiting, Missing, Node, Lazy, Deciding, Update, Change, Put, Linking}
use Rattle.limbo_meaning.specs.Trees.{Fill, Filling, Turning, Repeating, Terms, NoTerms, MoreTerms, Items, NoItems, MoreItems}
use Rattle.limbo_meaning.specs.Evaluation.{Progress, Finished, Stepped, Calls, Prints, Raises, Blocked, after, unless_raised, next}
use Rattle.limbo_meaning.specs.Evaluation.{next_all}
use Rattle.limbo_meaning.specs.Evaluation.{performed, writes, stores, links, decided, fills, turns, reads_first, changes, leaves, passes}
use Rattle.limbo_meaning.specs.Evaluation.{gets}
use Rattle.limbo_meaning.specs.Evaluation.{pending_for, operands_for, assigned, put_rest, link_rest, given_by, fill_rest, fill_on}
use Rattle.limbo_meaning.specs.Evaluation.{fill_made}
use Rattle.limbo_meaning.specs.Evaluation.{element_at, others_of, got_by, note, may_hold}
use mathlib.Core.List.{reverse-cons}
use Rattle.limbo_kept.specs.Values.{Standing, Items as ItemsOf, Cells, Adts, Channels, Store, AreCharacters, Refers, Fits, AllFit, EachIsOf}
use Rattle.limbo_kept.specs.Values.{EachFits}
use Rattle.limbo_kept.specs.Stores.{Contains, MemoryIsOf, Grows}
use Rattle.limbo_kept.specs.Operating.{HasRoom, IsLeft}
use Rattle.limbo_kept.specs.Places.{Begins, PlaceIs}
use Rattle.limbo_kept.specs.Permitting.{MayStore, holder, MayWrite}
use Rattle.limbo_kept.specs.Trees.{Scope, BeginsAt, WayIs, AimsAre, DeclaresAll, IsWritten, IsTold, AreTold, WorkIs, DeclaresFor}
use Rattle.limbo_kept.specs.Trees.{PendingAre, FillsFor, TermIs, TermsAre, ItemsAre, RestIs}
use Rattle.limbo_kept.specs.Stepping.{Keeps, TreesKeepTypes}
use Rattle.limbo_kept.proofs.Fitted.{zero_fits, is_fit, number_fits, int_fits, text_fits, text_in, reference_fits, named_by, part_fits}
use Rattle.limbo_kept.proofs.Fitted.{part_named}
use Rattle.limbo_kept.proofs.Fitted.{stands_fits, all_stand_fit, taken_fits, fits_later, refers_later, room_of_part}
use Rattle.limbo_kept.proofs.Texts as texts
use Rattle.limbo_kept.proofs.Heaps.{more_says, last_says, contains_at, memory_made, memory_changed}
use Rattle.limbo_kept.proofs.Operating.{Unless, short_text, operand_fits, left, new_array_left}
use Rattle.limbo_kept.proofs.Placing.{part_fits_at, read_fits, written_kept}
use Rattle.limbo_kept.proofs.Carrying.{fills_on, place_on, each_fits_on, term_on, terms_on, items_on, rest_on}

-- ---- rooms

text_room : (s : Scope) → HasRoom s.adts ty.Chars
text_room s = (layout.reference, layout.is_alone ty.Chars layout.reference refl)

pub array_room : (s : Scope) (i : Ty) → HasRoom s.adts (ty.ArrayOf i)
array_room s i = (layout.reference, layout.is_alone (ty.ArrayOf i) layout.reference refl)

-- ---- operands

module _ (s : Scope) (store : Store) where
  abbrev FitsA : Ty → Value → Type 0
  FitsA t v = Fits s.adts store t v

  abbrev FitAll : List Ty → List Value → Type 0
  FitAll ts vs = AllFit s.adts store ts vs

  fit_take : (n : ℕ) (us : List Ty) (vs : List Value) → FitAll us vs → FitAll (take n us) (take n vs)
  fit_take zero us vs f = tt
  fit_take (suc n) [] [] f = tt
  fit_take (suc n) [] (v ∷ vs) f = absurd f
  fit_take (suc n) (u ∷ us) [] f = absurd f
  fit_take (suc n) (u ∷ us) (v ∷ vs) f = (f.0, fit_take n us vs f.1)

  fit_drop : (n : ℕ) (us : List Ty) (vs : List Value) → FitAll us vs → FitAll (drop n us) (drop n vs)
  fit_drop zero us vs f = f
  fit_drop (suc n) [] [] f = tt
  fit_drop (suc n) [] (v ∷ vs) f = absurd f
  fit_drop (suc n) (u ∷ us) [] f = absurd f
  fit_drop (suc n) (u ∷ us) (v ∷ vs) f = fit_drop n us vs f.1

  pub operand_is : (us : List Ty) (vs : List Value) (n : ℕ) (u : Ty) → FitAll us vs → slice_get us n ≡ Some u → FitsA u (operand n vs)
  operand_is us vs n u f e = operand_fits s.adts store us vs n u f e

  -- ---- places

  pub begins_there : (r : Root) (us : List Ty) (vs : List Value) (t : Ty) → FitAll us vs → BeginsAt s r us t
      → Begins s.adts s.globals store s.variables r vs t
  begins_there (Local x) us vs t f b = b
  begins_there (Global x) us vs t f b = b
  begins_there Element us vs t f b = operand_is us vs 0 (ty.ArrayOf t) f b.0
  begins_there Target us vs t f b =
      let g = operand_is us vs 0 b.2.0 f b.2.1 in
      (b.0, b.1, of_reference b.2.0 b.0 (operand 0 vs) b.2.2 g)
    where
      of_reference : (r : Ty) (n : ℕ) (v : Value) → IsRefOf n r → FitsA r v → Refers store (Adts n) (name_of v)
      of_reference (ty.RefAdt k) n v e g = named_by s.adts store (ty.RefAdt k) (Adts n) v (ap Adts (sym e)) g
      of_reference (ty.RefPick k j) n v e g = named_by s.adts store (ty.RefPick k j) (Adts n) v (ap Adts (sym e)) g
      of_reference _ n v e g = absurd e

  abbrev pub way_there : (w : Way) (us : List Ty) (vs : List Value) (t : Ty) → FitAll us vs → WayIs s w us t
      → PlaceIs s.adts s.globals store s.variables (record { type = t; way = w; operands = vs })
  way_there w us vs t f is = record {
    root = is.root;
    room = is.room;
    begins = begins_there w.root us vs is.root f is.begins;
    inner = is.inner;
    leads = is.leads;
    ends = is.ends;
  }

  pub pendings : (aims : List Aim) (us : List Ty) (vs : List Value) (u : Ty) (v : Value) → FitAll us vs → AimsAre s aims us u
      → HasRoom s.adts u → FitsA u v → PendingAre s store (pending_for aims vs v)
  pendings [] us vs u v f a r g = tt
  pendings (x ∷ aims) us vs u v f a r g = (
    (
      way_there x.way (take (operands_of x.way) us) (take (operands_of x.way) vs) x.type (fit_take (operands_of x.way) us vs f) a.0,
      a.1,
      stands_fits s.adts store a.2.0 x.type (part_at x.part v) a.2.2 (part_fits_at s.adts store x.part u a.2.0 v r a.2.1 g),
    ),
    pendings aims (drop (operands_of x.way) us) (drop (operands_of x.way) vs) u v (fit_drop (operands_of x.way) us vs f) a.3 r g,
  )

  -- ---- formats

  told : (ps : List Piece) (us : List Ty) (vs : List Value) → AreTold ps us → FitAll us vs → AreCharacters (formatted ps vs)
  told [] us vs a f = tt
  told (piece.Chars cs ∷ ps) us vs a f = texts.front_and_behind cs (formatted ps vs) a.0 (told ps us vs a.1 f)
  told (piece.Hole h ∷ ps) [] [] a f = told ps [] [] a tt
  told (piece.Hole h ∷ ps) [] (v ∷ vs) a f = absurd f
  told (piece.Hole h ∷ ps) (u ∷ us) [] a f = absurd f
  told (piece.Hole h ∷ ps) (u ∷ us) (v ∷ vs) a f =
      texts.front_and_behind (hole_text h v) (formatted ps vs) (one h u v a.0 f.0) (told ps us vs a.1 f.1)
    where
      one : (h : Hole) (u : Ty) (v : Value) → IsTold h u → FitsA u v → AreCharacters (hole_text h v)
      one (hole.Decimal k) u v a f = texts.decimal_is (number_of v)
      one hole.Chars u v a f = text_in s.adts store v (subst (λ (x : Ty). FitsA x v) a f)
      one hole.Character u v a f = (texts.character_is (number_of v), tt)
      one hole.Hexadecimal u v a f = texts.digits_are 16 _ (omega arith) (omega arith)
      one hole.Error u v a f = tt

  -- ---- constants, items of lists

  pub constant_fits : (u : Ty) (c : Constant) → IsConstant u c → IsWritten c → FitsA u (constant_value c)
  constant_fits u (constant.Number n) i w = of_number u i
    where
      of_number : (u : Ty) → IsNumber u n → FitsA u (Num n)
      of_number ty.Byte i = number_fits s.adts store ty.Byte kind.Byte (Num n) refl
      of_number ty.Int i = number_fits s.adts store ty.Int kind.Int (Num n) refl
      of_number ty.Big i = number_fits s.adts store ty.Big kind.Big (Num n) refl
      of_number _ i = absurd i
  constant_fits u (constant.Chars cs) i w = subst (λ (x : Ty). FitsA x (Chars cs)) (sym i) (text_fits s.adts store cs w)

  pub each_fits_item : (us : List Ty) (vs : List Value) (i : Ty) → EachStands us i → FitAll us vs → EachFits s.adts store i vs
  each_fits_item [] [] i e f = tt
  each_fits_item [] (v ∷ vs) i e f = absurd f
  each_fits_item (u ∷ us) [] i e f = absurd f
  each_fits_item (u ∷ us) (v ∷ vs) i e f = (stands_fits s.adts store u i v e.0 f.0, each_fits_item us vs i e.1 f.1)

  each_more : (i : Ty) (vs ws : List Value) → EachFits s.adts store i vs → EachFits s.adts store i ws → EachFits s.adts store i (vs ++ ws)
  each_more i [] ws f g = g
  each_more i (v ∷ vs) ws f g = (f.0, each_more i vs ws f.1 g)

  pub each_reverse : (i : Ty) (vs : List Value) → EachFits s.adts store i vs → EachFits s.adts store i (reverse vs)
  each_reverse i [] f = tt
  each_reverse i (v ∷ vs) f =
      subst (λ (us : List Value). EachFits s.adts store i us) (sym (reverse-cons v vs))
      (each_more i (reverse vs) (v ∷ []) (each_reverse i vs f.1) (f.0, tt))

  -- ---- elements

  abbrev Each : Ty → List Value → Type 0
  Each i vs = EachIsOf s.adts store i vs

  each_join : (i : Ty) (vs ws : List Value) → Each i vs → Each i ws → Each i (vs ++ ws)
  each_join i [] ws f g = g
  each_join i (v ∷ vs) ws f g = (f.0, each_join i vs ws f.1 g)

  each_take : (i : Ty) (n : ℕ) (vs : List Value) → Each i vs → Each i (take n vs)
  each_take i zero vs f = tt
  each_take i (suc n) [] f = tt
  each_take i (suc n) (v ∷ vs) f = (f.0, each_take i n vs f.1)

  each_drop : (i : Ty) (n : ℕ) (vs : List Value) → Each i vs → Each i (drop n vs)
  each_drop i zero vs f = f
  each_drop i (suc n) [] f = tt
  each_drop i (suc n) (v ∷ vs) f = each_drop i n vs f.1

module _ (s : Scope) (store : Store) (m : Memory) (mem : MemoryIsOf s.adts s.globals store s.variables m) where
  -- ---- progress

  kept_after : {R T S U : Type 0} (done : R → Type 0) (is : Store → Option Ty → T → Type 0) (done' : S → Type 0)
      (is' : Store → Option Ty → U → Type 0) (pr : Progress R T) (go : R → Progress S U) (within : T → U) → Keeps s store done is pr
      → ((r : R) → done r → Keeps s store done' is' (go r))
      → ((later : Store) (w : Option Ty) (x : T) → Grows store later → is later w x → is' later w (within x))
      → Keeps s store done' is' (after pr go within)
  kept_after done is done' is' (Finished r) go within h k into = k r h
  kept_after done is done' is' (Stepped m' got x) go within h k into =
      record { later = h.later; grows = h.grows; memory = h.memory; left = into h.later None x h.grows h.left }
  kept_after done is done' is' (Calls a f args x) go within h k into = (h.0, into store (Some a) x (λ n t e. e) h.1)
  kept_after done is done' is' (Prints text x) go within h k into = into store (Some ty.Int) x (λ n t e. e) h
  kept_after done is done' is' (Raises text) go within h k into = tt
  kept_after done is done' is' Blocked go within h k into = tt

  abbrev Kept : Ty → Progress Value Term → Type 0
  Kept t pr = Keeps s store (λ v. Fits s.adts store t v) (λ later w x. TermIs s later w x t) pr

  kept_unless : {A : Type 0} (P : A → Type 0) (t : Ty) (r : Raising A) (go : A → Progress Value Term) → Unless P r
      → ((x : A) → P x → Kept t (go x)) → Kept t (unless_raised r go)
  kept_unless P t (Ok x) go p k = k x p
  kept_unless P t (Err text) go p k = tt

  -- the memory stays
  still : (t : Ty) (got : List (Option ℕ)) (x : Term) → TermIs s store None x t → Kept t (Stepped m got x)
  still t got x is = record { later = store; grows = λ n k e. e; memory = mem; left = is }

  -- a value of a type, brought to it, stands for another
  brought : (later : Store) (u t : Ty) (v : Value) → HasRoom s.adts u → Stands u t → Fits s.adts later u v
      → Fits s.adts later t (fitted s.adts u v)
  brought later u t v r st f = stands_fits s.adts later u t (fitted s.adts u v) st (is_fit s.adts later u (fitted s.adts u v) r f)

  passed : (u t : Ty) (v : Value) → HasRoom s.adts u → Stands u t → Fits s.adts store u v → Kept t (passes s.adts m u v)
  passed u t v r st f = still t [] (Evaluated (fitted s.adts u v)) (brought store u t v r st f)

  -- ---- writes

  rest_put : (later : Store) (ps : List Pending) (v : Value) (t : Ty) → PendingAre s later ps → Fits s.adts later t v
      → TermIs s later None (put_rest ps v) t
  rest_put later [] v t h f = f
  rest_put later (p ∷ ps) v t h f = (h, f)

  written_one : (p : Place) (v : Value) (t : Ty) (x : Term) → PlaceIs s.adts s.globals store s.variables p → Fits s.adts store p.type v
      → TermIs s store None x t → Kept t (unless_raised (written s.adts m p v) (λ m'. Stepped m' [] x))
  written_one p v t x is f h =
      kept_unless (MemoryIsOf s.adts s.globals store s.variables) t (written s.adts m p v) (λ m'. Stepped m' [] x)
      (written_kept s.adts s.globals store s.variables m mem p is v f)
      (λ m' k. record { later = store; grows = λ n q e. e; memory = k; left = h })

  writes_kept : (ps : List Pending) (v : Value) (t : Ty) → PendingAre s store ps → Fits s.adts store t v → Kept t (writes s.adts m ps v)
  writes_kept [] v t h f = still t [] (Evaluated v) f
  writes_kept (p ∷ ps) v t h f = written_one p.place p.value t (put_rest ps v) h.0.0 h.0.2 (rest_put store ps v t h.1 f)

  -- ---- copies

  pub elements_are : (i : Ty) (p : Option Part) → Refers store (ItemsOf i) (array_named p) → EachIsOf s.adts store i (elements_of m p)
  elements_are i None a = tt
  elements_are i (Some p) a = go (at m.heap p.array) refl
    where
      inner : (u : HeapValue) → Contains s.adts s.globals store (ItemsOf i) u
          → EachIsOf s.adts store i (slice_range (elements_in (Some u)) p.start (p.start + p.long))
      inner (Elements vs) c = each_take s store i (p.start + p.long - p.start) (drop p.start vs) (each_drop s store i p.start vs c)
      inner _ c = absurd c

      go : (o : Option HeapValue) → at m.heap p.array ≡ o
          → EachIsOf s.adts store i (slice_range (elements_in o) p.start (p.start + p.long))
      go None e = each_take s store i (p.start + p.long - p.start) (drop p.start []) (each_drop s store i p.start [] tt)
      go (Some u) e = inner u (contains_at s.adts s.globals store m.heap p.array (ItemsOf i) u mem.heap a e)

  one_thing : (n : ℕ) (k k' : Standing) → slice_get store n ≡ Some k → slice_get store n ≡ Some k' → k ≡ k'
  one_thing n k k' e f = cc

  put_over : (i : Ty) (u : HeapValue) (n : ℕ) (ys : List Value) → Contains s.adts s.globals store (ItemsOf i) u → EachIsOf s.adts store i ys
      → Contains s.adts s.globals store (ItemsOf i) (Elements (overwritten (elements_in (Some u)) n ys))
  put_over i (Elements xs) n ys c f =
      each_join s store i (take n xs) (ys ++ drop (n + length ys) xs) (each_take s store i n xs c)
      (each_join s store i ys (drop (n + length ys) xs) f (each_drop s store i (n + length ys) xs c))
  put_over i _ n ys c f = absurd c

  copied_kept : (i : Ty) (p : Option Part) (from : ℤ) (ys : List Value) → Refers store (ItemsOf i) (array_named p)
      → EachIsOf s.adts store i ys → Unless (MemoryIsOf s.adts s.globals store s.variables) (copied m p from ys)
  copied_kept i p (negsuc k) ys a f = tt
  copied_kept i p (pos k) ys a f = go (bounds_in (long_of p) (pos k) (pos (k + length ys)))
    where
      into : (p : Option Part) (b : ℕ × ℕ) → Refers store (ItemsOf i) (array_named p)
          → MemoryIsOf s.adts s.globals store s.variables (copied_into m p ys b)
      into None b a = mem
      into (Some p) b a =
          memory_changed s.adts s.globals store s.variables m mem p.array
          (Elements (overwritten (elements_in (at m.heap p.array)) (p.start + b.0) ys))
          (λ k u has there c.
          let same = one_thing p.array (ItemsOf i) k a has in
          subst (λ (x : Standing). Contains s.adts s.globals store x
          (Elements (overwritten (elements_in (at m.heap p.array)) (p.start + b.0) ys))) same
          (subst (λ (o : Option HeapValue). Contains s.adts s.globals store (ItemsOf i)
          (Elements (overwritten (elements_in o) (p.start + b.0) ys))) (sym there)
          (put_over i u (p.start + b.0) ys (subst (λ (x : Standing). Contains s.adts s.globals store x u) (sym same) c) f)))

      go : (r : Result (ℕ × ℕ) Raised) → Unless (MemoryIsOf s.adts s.globals store s.variables)
          (with_text r >>= λ b. Ok (copied_into m p ys b))
      go (Ok b) = into p b a
      go (Err r) = tt

  -- ---- lists and channels

  new_there : (k : Standing) → Refers (store ++ k ∷ []) k (Some (next_name m))
  new_there k = last_says store k (next_name m) mem.heap.long

  rest_links : (later : Store) (i t : Ty) (vs : List Value) (r : Option ℕ) → HasRoom s.adts i → EachFits s.adts later i vs
      → Refers later (Cells i) r → Stands (ty.ListOf i) t → TermIs s later None (link_rest i vs r) t
  rest_links later i t [] r room f a st =
      stands_fits s.adts later (ty.ListOf i) t (Ref r) st (reference_fits s.adts later (ty.ListOf i) (Cells i) (Ref r) refl a)
  rest_links later i t (v ∷ vs) r room f a st = (room, f, a, st)

  links_kept : (i t : Ty) (vs : List Value) (r : Option ℕ) → HasRoom s.adts i → EachFits s.adts store i vs → Refers store (Cells i) r
      → Stands (ty.ListOf i) t → Kept t (links s.adts m i vs r)
  links_kept i t [] r room f a st = still t [] (Evaluated (Ref r)) (rest_links store i t [] r room tt a st)
  links_kept i t (v ∷ vs) r room f a st =
      let later = store ++ Cells i ∷ [] in
      let grows = more_says store (Cells i) in record {
        later = later;
        grows = grows;
        memory =
            memory_made s.adts s.globals store s.variables m mem (Cells i) (Cell (fitted s.adts i v) r)
            (fits_later s.adts store later grows i v f.0, refers_later s.adts store later grows (Cells i) r a);
        left =
            rest_links later i t vs (Some (next_name m)) room (each_fits_on s store later grows i vs f.1) (new_there (Cells i)) st;
      }

  -- ---- nodes

  performed_kept : (u t : Ty) (o : Work) (us : List Ty) (vs : List Value) → AllFit s.adts store us vs → WorkIs s u o us t
      → Kept t (performed s.adts m u o vs)
  performed_kept u t (Literal c) us vs f w = passed u t (constant_value c) w.2 w.3 (constant_fits s store u c w.0 w.1)
  performed_kept u t Nil us vs f w = passed u t nothing w.1 w.2 (zero_fits s.adts store u w.1)
  performed_kept u t (Operate o) us vs f w =
      kept_unless (IsLeft s.adts s.globals store s.variables u) t (result_of s.adts m u o vs) (leaves s.adts m u o)
      (left s.adts s.globals store s.variables m mem u w.1 w.2 o us vs w.0 f)
      (λ r is. record {
        later = is.later;
        grows = is.grows;
        memory = is.memory;
        left = brought is.later u t r.value w.1 w.3 is.value;
      })
  performed_kept u t (Read way) us vs f w =
      kept_unless (Fits s.adts store u) t (read m (record { type = u; way = way; operands = vs })) (gets s.adts m u)
      (read_fits s.adts s.globals store s.variables m mem (record { type = u; way = way; operands = vs })
      (way_there s store way us vs u f w.0))
      (λ v g. still t (references (fitted s.adts u v)) (Evaluated (fitted s.adts u v)) (brought store u t v w.1 w.2 g))
  performed_kept u t (Assign aims) us vs f w =
      let g = operand_is s store us vs (operands_for aims) w.0 f w.1 in
      writes_kept (pending_for aims vs (assigned aims vs)) (assigned aims vs) t
      (pendings s store aims us vs w.0 (assigned aims vs) f w.3 w.2 g) (stands_fits s.adts store w.0 t (assigned aims vs) w.4 g)
  performed_kept u t (TakePart n) us vs f w =
      passed u t (value_part n (parts_of (operand 0 vs))) (room_of_part s.adts store w.0 n u w.2 w.3) w.4
      (taken_fits s.adts store w.0 n u (operand 0 vs) w.2 w.3 (operand_is s store us vs 0 w.0 f w.1))
  performed_kept u t Copy us vs f w =
      let a = part_named s.adts store w.0 (operand 0 vs) (operand_is s store us vs 0 (ty.ArrayOf w.0) f w.1) in
      let b = operand_is s store us vs 2 (ty.ArrayOf w.0) f w.2 in
      kept_unless (MemoryIsOf s.adts s.globals store s.variables) t
      (copied m (part_of (operand 0 vs)) (number_of (operand 1 vs)) (elements_of m (part_of (operand 2 vs))))
      (λ m'. Stepped m' [] (Evaluated (operand 2 vs)))
      (copied_kept w.0 (part_of (operand 0 vs)) (number_of (operand 1 vs)) (elements_of m (part_of (operand 2 vs))) a
      (elements_are w.0 (part_of (operand 2 vs)) (part_named s.adts store w.0 (operand 2 vs) b)))
      (λ m' k. record {
        later = store;
        grows = λ n q e. e;
        memory = k;
        left = stands_fits s.adts store (ty.ArrayOf w.0) t (operand 2 vs) w.4 b;
      })
  performed_kept u t Link us vs f w =
      subst (λ (x : Ty). Kept t (links s.adts m x (reverse vs) None)) (sym (ap item_of w.1))
      (links_kept w.0 t (reverse vs) None w.2 (each_reverse s store w.0 vs (each_fits_item s store us vs w.0 w.3 f)) tt
      (subst (λ (x : Ty). Stands x t) w.1 w.4))
  performed_kept u t NewChannel us vs f w = record {
    later = store ++ Channels w.0 ∷ [];
    grows = more_says store (Channels w.0);
    memory = memory_made s.adts s.globals store s.variables m mem (Channels w.0) Channel tt;
    left =
        stands_fits s.adts (store ++ Channels w.0 ∷ []) (ty.ChanOf w.0) t (Ref (Some (next_name m)))
        (subst (λ (x : Ty). Stands x t) w.1 w.2)
        (reference_fits s.adts (store ++ Channels w.0 ∷ []) (ty.ChanOf w.0) (Channels w.0) (Ref (Some (next_name m))) refl
        (new_there (Channels w.0)));
  }
  performed_kept u t (Call g) us vs f w = (
    record { signature = w.0; there = w.1; takes = all_stand_fit s.adts store us w.0.takes vs w.2 f; gives = w.3 },
    w.4,
  )
  performed_kept u t (Print ps) us vs f w = w
  performed_kept u t (Sprint ps) us vs f w =
      kept_unless AreCharacters t (not_longer (formatted ps vs)) (λ text. passes s.adts m u (Chars text))
      (short_text (formatted ps vs) (told s store ps us vs w.0 f))
      (λ text a. passed u t (Chars text) (subst (HasRoom s.adts) (sym w.1) (text_room s)) w.2
      (subst (λ (x : Ty). Fits s.adts store x (Chars text)) (sym w.1) (text_fits s.adts store text a)))

  -- ---- variables that are declared without a value

  -- no heap object holds a place that has no operands
  variables_may : (w : Way) (root t : Ty) → operands_of w ≡ 0 → MayWrite s.stores s.adts w.root root t
  variables_may w root t e object held = go w.root w.character e held
    where
      go : (r : Root) (c : Bool) → (if c then count_of r + 1 else count_of r) ≡ 0 → holder r root ≡ Some object
          → MayStore s.stores s.adts object t
      go (Local x) c e h = absurd cc
      go (Global x) c e h = absurd cc
      go Element true e h = absurd (omega arith)
      go Element false e h = absurd (omega arith)
      go Target true e h = absurd (omega arith)
      go Target false e h = absurd (omega arith)

  pub declared_pending : (aims : List Aim) → DeclaresAll s aims → PendingAre s store (pending_for aims (nothing ∷ []) nothing)
  declared_pending [] d = tt
  declared_pending (x ∷ aims) d =
      subst (λ (k : ℕ). PendingAre s store (
      record { place = record { type = x.type; way = x.way; operands = take k (nothing ∷ []) }; value = part_at x.part nothing }
      ∷ pending_for aims (drop k (nothing ∷ [])) nothing)) (sym d.0.1) (
        (
          way_there s store x.way [] [] x.type tt d.0.0,
          variables_may x.way d.0.0.root x.type d.0.1,
          subst (λ (ns : List ℕ). Fits s.adts store x.type (part_at ns nothing)) (sym d.0.2) (zero_fits s.adts store x.type d.0.3),
        ),
        declared_pending aims d.1,
      )

  pub none_for : (aims : List Aim) → DeclaresAll s aims → operands_for aims ≡ 0
  none_for [] d = refl
  none_for (x ∷ aims) d = let e = none_for aims d.1 in let f = d.0.1 in omega arith

  declares_kept : (u t : Ty) (o : Work) (ts : Terms) → DeclaresFor s o ts t → Kept t (next s.adts m (Node u o ts))
  declares_kept u t (Assign aims) (MoreTerms (Evaluated v) NoTerms) d =
      let is : assigned aims (v ∷ []) ≡ nothing =
      ap (λ (k : ℕ). operand k (v ∷ [])) (none_for aims d.1) ∙ d.0 in
      subst (λ (x : Value). Kept t (writes s.adts m (pending_for aims (v ∷ []) x) x)) (sym is)
      (subst (λ (x : Value). Kept t (writes s.adts m (pending_for aims (x ∷ []) nothing) nothing)) (sym d.0)
      (writes_kept (pending_for aims (nothing ∷ []) nothing) nothing t (declared_pending aims d.1)
      (subst (λ (x : Ty). Fits s.adts store x nothing) (sym d.2) (int_fits s.adts store nothing))))
  declares_kept u t _ _ d = absurd d

  -- ---- decisions

  truth_is : (later : Store) (v : Value) (t : Ty) → Stands ty.Int t → Fits s.adts later t (truth_of v)
  truth_is later v t st = stands_fits s.adts later ty.Int t (truth_of v) st (int_fits s.adts later (truth_of v))

  decided_kept : (b : Bool) (v : Value) (r : Term) (t : Ty) → TermIs s store None r ty.Int → Stands ty.Int t
      → Kept t (decided s.adts m b v r)
  decided_kept true v r t h st = still t (note (may_hold s.adts r)) (Evaluated (truth_of v)) (truth_is store v t st)
  decided_kept false v r t h st = still t (note (may_hold s.adts r)) (Deciding r) (h, st)

  -- ---- initialisers

  array_is : (later : Store) (i t : Ty) (p : Part) → FillsFor s later i p.array t → Fits s.adts later t (Array (Some p))
  array_is later i t p h =
      stands_fits s.adts later (ty.ArrayOf i) t (Array (Some p)) h.2 (part_fits s.adts later i (Array (Some p)) h.1)

  fill_rest_is : (later : Store) (i t : Ty) (p : Part) (ns : List ℕ) (rest : Terms) → FillsFor s later i p.array t → RestIs s later rest i
      → TermIs s later None (fill_rest i p ns rest) t
  fill_rest_is later i t p ns NoTerms h r = array_is later i t p h
  fill_rest_is later i t p ns (MoreTerms e es) h r = (h, r)

  fill_on_is : (later : Store) (i t : Ty) (p : Part) (is : Items) (ns : List ℕ) (rest : Terms) → FillsFor s later i p.array t
      → ItemsAre s later None is i → RestIs s later rest i → TermIs s later None (fill_on i p is ns rest) t
  fill_on_is later i t p NoItems ns rest h k r = fill_rest_is later i t p ns rest h r
  fill_on_is later i t p (MoreItems z e is) ns rest h k r = (h, k, r)

  fill_made_is : (later : Store) (i t : Ty) (p : Option Part) (is : Items) (rest : Terms) → HasRoom s.adts i → Stands (ty.ArrayOf i) t
      → Refers later (ItemsOf i) (array_named p) → ItemsAre s later None is i → RestIs s later rest i
      → TermIs s later None (fill_made i p is rest) t
  fill_made_is later i t None is rest room st a k r = tt
  fill_made_is later i t (Some p) is rest room st a k r = fill_on_is later i t p is (others_of is p.long) rest (room, a, st) k r

  fills_kept : (i t : Ty) (is : Items) (rest : Terms) (v : Value) → HasRoom s.adts i → Stands (ty.ArrayOf i) t → ItemsAre s store None is i
      → RestIs s store rest i → Kept t (fills s.adts m i is rest v)
  fills_kept i t is rest v room st k r =
      kept_unless (IsLeft s.adts s.globals store s.variables (ty.ArrayOf i)) t (new_array s.adts m i (number_of v))
      (λ o. Stepped o.memory (references o.value) (fill_made i (part_of o.value) is rest))
      (new_array_left s.adts s.globals store s.variables m mem (ty.ArrayOf i) (array_room s i) room i (number_of v) refl room)
      (λ o l. record {
        later = l.later;
        grows = l.grows;
        memory = l.memory;
        left =
            fill_made_is l.later i t (part_of o.value) is rest room st (part_named s.adts l.later i o.value l.value)
            (items_on s store l.later l.grows None is i k) (rest_on s store l.later l.grows rest i r);
      })

  pub element_place : (i t : Ty) (p : Part) (z : ℤ) → FillsFor s store i p.array t
      → PlaceIs s.adts s.globals store s.variables (element_at i p z)
  element_place i t p z h = record {
    root = i;
    room = h.0;
    begins = part_fits s.adts store i (Array (Some p)) h.1;
    inner = i;
    leads = refl;
    ends = refl;
  }

  stores_kept : (i t : Ty) (p : Part) (z : ℤ) (v : Value) (x : Term) → FillsFor s store i p.array t → Fits s.adts store i v
      → TermIs s store None x t → Kept t (stores s.adts m (element_at i p z) v x)
  stores_kept i t p z v x h f k = written_one (element_at i p z) v t x (element_place i t p z h) f k

  turns_kept : (i t : Ty) (p : Part) (ns : List ℕ) (e : Term) → FillsFor s store i p.array t → TermIs s store None e i
      → Kept t (turns s.adts m i p ns e)
  turns_kept i t p [] e h k = still t (note (may_hold s.adts e)) (Evaluated (Array (Some p))) (array_is store i t p h)
  turns_kept i t p (n ∷ ns) e h k = still t (note (may_hold s.adts e)) (Repeating i p n ns e e) (h, k, k)

  -- ---- updates

  reads_kept : (o : Operation) (g : Given) (p : Place) (us : Terms) (t : Ty) (qs : List Ty)
      → (is : PlaceIs s.adts s.globals store s.variables p) → MayWrite s.stores s.adts p.way.root is.root p.type
      → TermsAre s store None us qs → Gives s.adts o (p.type ∷ qs) p.type
      → HasRoom s.adts p.type → HasRoom s.adts (item_of p.type) → Stands p.type t → Kept t (reads_first s.adts m o g p us)
  reads_kept o g p us t qs is may k gives room item st =
      kept_unless (Fits s.adts store p.type) t (read m p)
      (λ v. Stepped m (references (fitted s.adts p.type v)) (Change o g p (MoreTerms (Evaluated (fitted s.adts p.type v)) us)))
      (read_fits s.adts s.globals store s.variables m mem p is)
      (λ v f. still t (references (fitted s.adts p.type v)) (Change o g p (MoreTerms (Evaluated (fitted s.adts p.type v)) us))
      (qs, (is_fit s.adts store p.type (fitted s.adts p.type v) room f, k), is, may, gives, room, item, st))

  given_is : (later : Store) (g : Given) (u t : Ty) (old new : Value) → Stands u t → Fits s.adts later u old → Fits s.adts later u new
      → Fits s.adts later t (given_by g old new)
  given_is later given.Old u t old new st f h = stands_fits s.adts later u t old st f
  given_is later given.New u t old new st f h = stands_fits s.adts later u t new st h

  changes_kept : (o : Operation) (g : Given) (p : Place) (vs : List Value) (t : Ty) (qs : List Ty)
      → (is : PlaceIs s.adts s.globals store s.variables p) → MayWrite s.stores s.adts p.way.root is.root p.type
      → AllFit s.adts store (p.type ∷ qs) vs → Gives s.adts o (p.type ∷ qs) p.type
      → HasRoom s.adts p.type → HasRoom s.adts (item_of p.type) → Stands p.type t → Kept t (changes s.adts m o g p vs)
  changes_kept o g p vs t qs is may f gives room item st =
      kept_unless (IsLeft s.adts s.globals store s.variables p.type) t (result_of s.adts m p.type o vs)
      (λ r. Stepped r.memory (got_by o (fitted s.adts p.type r.value))
      (Put (record { place = p; value = fitted s.adts p.type r.value } ∷ []) (given_by g (operand 0 vs) (fitted s.adts p.type r.value))))
      (left s.adts s.globals store s.variables m mem p.type room item o (p.type ∷ qs) vs gives f)
      (λ r l.
      let new = is_fit s.adts l.later p.type (fitted s.adts p.type r.value) room l.value in
      let old = fits_later s.adts store l.later l.grows p.type (operand 0 vs) (operand_is s store (p.type ∷ qs) vs 0 p.type f refl) in
      record {
        later = l.later;
        grows = l.grows;
        memory = l.memory;
        left = (
          ((place_on s store l.later l.grows p is, may, new), tt),
          given_is l.later g p.type t (operand 0 vs) (fitted s.adts p.type r.value) st old new,
        );
      })

  -- ---- trees

  abbrev KeptAll : List Ty → Progress (List Value) Terms → Type 0
  KeptAll ts pr = Keeps s store (λ vs. AllFit s.adts store ts vs) (λ later w x. TermsAre s later w x ts) pr

  abbrev one : Ty → Store → Option Ty → Term → Type 0
  one t later w x = TermIs s later w x t

  abbrev many : List Ty → Store → Option Ty → Terms → Type 0
  many ts later w x = TermsAre s later w x ts

  abbrev fits : Ty → Value → Type 0
  fits t v = Fits s.adts store t v

  abbrev all_fit : List Ty → List Value → Type 0
  all_fit ts vs = AllFit s.adts store ts vs

  mutual
    kept : (e : Term) (t : Ty) → TermIs s store None e t → Kept t (next s.adts m e)
    kept (Evaluated v) t h = h
    kept Awaiting t h = tt
    kept Missing t h = tt
    kept (Node u o ts) t h = elim h.2 [
      | inl k ↦ kept_after (all_fit h.0) (many h.0) (fits t) (one t) (next_all s.adts m ts) (performed s.adts m u o) (Node u o)
          (all_kept ts h.0 h.1) (λ vs f. performed_kept u t o h.0 vs f k) (λ later w x g y. (h.0, y, inl k))
      | inr d ↦ declares_kept u t o ts d
    ]
    kept (Lazy c l r) t h =
        kept_after (fits ty.Int) (one ty.Int) (fits t) (one t) (next s.adts m l) (λ v. decided s.adts m (decides c v) v r) (λ l. Lazy c l r)
        (kept l ty.Int h.0) (λ v f. decided_kept (decides c v) v r t h.1 h.2)
        (λ later w x g y. (y, term_on s store later g None r ty.Int h.1, h.2))
    kept (Deciding r) t h =
        kept_after (fits ty.Int) (one ty.Int) (fits t) (one t) (next s.adts m r) (λ v. Stepped m [] (Evaluated (truth_of v))) Deciding
        (kept r ty.Int h.0) (λ v f. still t [] (Evaluated (truth_of v)) (truth_is store v t h.1)) (λ later w x g y. (y, h.1))
    kept (Update o g p way ts us) t h =
        kept_after (all_fit h.0) (many h.0) (fits t) (one t) (next_all s.adts m ts)
        (λ vs. reads_first s.adts m o g (record { type = p; way = way; operands = vs }) us) (λ ts. Update o g p way ts us)
        (all_kept ts h.0 h.2)
        (λ vs f. reads_kept o g (record { type = p; way = way; operands = vs }) us t h.1 (way_there s store way h.0 vs p f h.4) h.5 h.3 h.6
        h.7 h.8 h.9)
        (λ later w x gr y. (h.0, h.1, y, terms_on s store later gr None us h.1 h.3, h.4, h.5, h.6, h.7, h.8, h.9))
    kept (Change o g p ts) t h =
        kept_after (all_fit (p.type ∷ h.0)) (many (p.type ∷ h.0)) (fits t) (one t) (next_all s.adts m ts) (changes s.adts m o g p)
        (Change o g p) (all_kept ts (p.type ∷ h.0) h.1) (λ vs f. changes_kept o g p vs t h.0 h.2 h.3 f h.4 h.5 h.6 h.7)
        (λ later w x gr y. (h.0, y, place_on s store later gr p h.2, h.3, h.4, h.5, h.6, h.7))
    kept (Put ps v) t h = writes_kept ps v t h.0 h.1
    kept (Linking i vs r) t h = links_kept i t vs r h.0 h.1 h.2 h.3
    kept (Fill i l is rest) t h =
        kept_after (fits ty.Int) (one ty.Int) (fits t) (one t) (next s.adts m l) (fills s.adts m i is rest) (λ l. Fill i l is rest)
        (kept l ty.Int h.1) (λ v f. fills_kept i t is rest v h.0 h.4 h.2 h.3)
        (λ later w x g y. (h.0, y, items_on s store later g None is i h.2, rest_on s store later g rest i h.3, h.4))
    kept (Filling i p NoItems ns rest) t h = still t [] (Evaluated (Array (Some p))) (array_is store i t p h.0)
    kept (Filling i p (MoreItems z e is) ns rest) t h =
        kept_after (fits i) (one i) (fits t) (one t) (next s.adts m e)
        (λ v. stores s.adts m (element_at i p z) v (fill_on i p is ns rest)) (λ e. Filling i p (MoreItems z e is) ns rest) (kept e i h.1.0)
        (λ v f. stores_kept i t p z v (fill_on i p is ns rest) h.0 f (fill_on_is store i t p is ns rest h.0 h.1.1 h.2))
        (λ later w x g y. (
          fills_on s store later g i p.array t h.0,
          (y, items_on s store later g None is i h.1.1),
          rest_on s store later g rest i h.2,
        ))
    kept (Turning i p ns e) t h = turns_kept i t p ns e h.0 h.1
    kept (Repeating i p n ns e now) t h =
        kept_after (fits i) (one i) (fits t) (one t) (next s.adts m now)
        (λ v. stores s.adts m (element_at i p (pos n)) v (Turning i p ns e)) (λ now. Repeating i p n ns e now) (kept now i h.2)
        (λ v f. stores_kept i t p (pos n) v (Turning i p ns e) h.0 f (h.0, h.1))
        (λ later w x g y. (fills_on s store later g i p.array t h.0, term_on s store later g None e i h.1, y))

    all_kept : (es : Terms) (ts : List Ty) → TermsAre s store None es ts → KeptAll ts (next_all s.adts m es)
    all_kept NoTerms [] h = tt
    all_kept NoTerms (t ∷ ts) h = absurd h
    all_kept (MoreTerms e es) [] h = absurd h
    all_kept (MoreTerms e es) (t ∷ ts) h =
        kept_after (fits t) (one t) (all_fit (t ∷ ts)) (many (t ∷ ts)) (next s.adts m e)
        (λ v. after (next_all s.adts m es) (λ vs. Finished (v ∷ vs)) (MoreTerms (Evaluated v))) (λ e. MoreTerms e es) (kept e t h.0)
        (λ v f. kept_after (all_fit ts) (many ts) (all_fit (t ∷ ts)) (many (t ∷ ts)) (next_all s.adts m es) (λ vs. Finished (v ∷ vs))
        (MoreTerms (Evaluated v)) (all_kept es ts h.1) (λ vs k. (f, k)) (λ later w x g y. (fits_later s.adts store later g t v f, y)))
        (λ later w x g y. (y, terms_on s store later g w es ts h.1))

pub trees_keep_types : TreesKeepTypes
trees_keep_types s store m mem e t h = kept s store m mem e t h
