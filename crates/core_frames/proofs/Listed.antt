-- The code of a tree uses the slots that are listed of it.
use Rattle.std.proofs.Common.{◌≡◌, ℕ, ℤ, zero, suc, ◌+◌, ◌-◌, Bool, true, false, List, [], ◌∷◌, ◌++◌, length, max, Option, Some, None}
use Rattle.std.proofs.Common.{refl, sym, ap, subst, arith, inl, inr}
use Rattle.std.proofs.lemmas.List.{length-reverse}
use Rattle.std.proofs.Math.Dec.{eqb-suc-zero}
use Rattle.std.specs.Prelude.{◌<◌, ◌⊎◌, drop, reverse, nat_eq, if◌then◌else◌}
use Rattle.limbo_types.specs.Types as ty
use Rattle.limbo_types.specs.Types.{Ty}
use Rattle.limbo_types.specs.View.{tys_of}
use Rattle.limbo_layout.specs.Adts.{Def}
use Rattle.limbo_typed.specs.declared.operation.Connective.{Connective}
use Rattle.limbo_typed.specs.declared.operation.Operation.TheVariants as operation
use Rattle.limbo_meaning.specs.Trees as tree
use Rattle.limbo_meaning.specs.Trees.{Aim, Work, Operate, Term, Evaluated, Node, Lazy, Update, Fill, Terms, NoTerms, MoreTerms}
use Rattle.limbo_meaning.specs.Trees.{Items, NoItems, MoreItems}
use Rattle.limbo_meaning.specs.Trees.{Stm, Over, Eval, If, While, Enter, Break, Continue, Loop, Looping, Block, Done, Then, Turn, Again}
use Rattle.limbo_meaning.specs.Evaluation.{passes_on, may_hold, work_refers, operands_for}
use Rattle.limbo_meaning.specs.Places.{operands_of}
use Rattle.limbo_meaning.specs.Operations.{item_of}
use Rattle.limbo_meaning.specs.Program.{Routine}
use Rattle.core_code.specs.Code.{Instr, Give, Write, Skip, Truth, Element, Next, Other}
use Rattle.core_code.specs.Code.{Start, Keep, Take, Drop, Mirror, Unless, Jump, Back, Return}
use Rattle.core_code.specs.Terms as code
use Rattle.core_code.specs.Terms.{Lowered, LoweredAll, Moved, is_moved, drop_after, drops_after, drops_after_all, drops_from, drops_if}
use Rattle.core_code.specs.Terms.{count_of, gives, gathers, writes, list_code, cell_drops, slot_at, moves_out, moves_into}
use Rattle.core_code.specs.Terms.{node, others, lower, lower_all, lower_items, lower_rest, named, items_end, rest_end, part_types}
use Rattle.core_code.specs.Terms.{part_numbers, numbers_from, placed, variant_of, together, together_drops, value_slot, first_of, types_in}
use Rattle.core_code.specs.Statements as statements
use Rattle.core_code.specs.Statements.{Around, further, in_loop, whole, whole_if, test, loop_tested, loop_entered, stm_code}
use Rattle.core_code.specs.Statements.{loop_code_tested, loop_code_entered, block_code, free_after, function_of}
use Rattle.core_frames.specs.Fits.{Slot, Value, Word, Slots, NoSlots, One, Both, Either, number, count, cells, list_slots, own_slots}
use Rattle.core_frames.specs.Fits.{slots_of, all_slots, held_slots, alone_slots, rest_slots, rest_alone, slots_if, stm_slots, loop_slots}
use Rattle.core_frames.specs.Fits.{called_slots, IfHas, block_slots, HasSlot, PutsInto, AllPutInto, SlotsAreListed}

-- ---- slots that have room

-- Each slot of these, from one on, has what is said.
abbrev Gets : (ℕ → Slot → Type 0) → ℕ → Slots → Type 0
Gets P lo a = (n : ℕ) (s : Slot) → HasSlot lo a n s → P n s

one : (P : ℕ → Slot → Type 0) (lo : ℕ) (s : Slot) → Gets P lo (One s) → P lo s
one P lo s f = f lo s (refl, refl)

front : (P : ℕ → Slot → Type 0) (lo : ℕ) (a b : Slots) → Gets P lo (Both a b) → Gets P lo a
front P lo a b f n s h = f n s (inl h)

back : (P : ℕ → Slot → Type 0) (lo mid : ℕ) (a b : Slots) → lo + number a ≡ mid → Gets P lo (Both a b) → Gets P mid b
back P lo mid a b e f n s h = f n s (inr (subst (λ (k : ℕ). HasSlot k b n s) (sym e) h))

left : (P : ℕ → Slot → Type 0) (lo : ℕ) (a b : Slots) → Gets P lo (Either a b) → Gets P lo a
left P lo a b f n s h = f n s (inl h)

right : (P : ℕ → Slot → Type 0) (lo : ℕ) (a b : Slots) → Gets P lo (Either a b) → Gets P lo b
right P lo a b f n s h = f n s (inr h)

-- ---- code that puts something into them

abbrev AllPut : (ℕ → Slot → Type 0) → List Instr → Type 0
AllPut P [] = Unit {0}
AllPut P (i ∷ is) = PutsInto P i × AllPut P is

abbrev EachPut : (ℕ → Slot → Type 0) → List (List Instr) → Type 0
EachPut P [] = Unit {0}
EachPut P (c ∷ cs) = AllPut P c × EachPut P cs

put_at : (P : ℕ → Slot → Type 0) (is : List Instr) → AllPut P is → AllPutInto P is
put_at P [] h pc i e = absurd cc
put_at P (j ∷ is) h zero i e = let f : j ≡ i = cc in subst (λ (z : Instr). PutsInto P z) f h.0
put_at P (j ∷ is) h (suc pc) i e = put_at P is h.1 pc i e

module _ (P : ℕ → Slot → Type 0) where
  put_join : (xs ys : List Instr) → AllPut P xs → AllPut P ys → AllPut P (xs ++ ys)
  put_join [] ys h k = k
  put_join (x ∷ xs) ys h k = (h.0, put_join xs ys h.1 k)

  -- ---- drops put nothing

  drops_put : (s k count : ℕ) → AllPut P (drops_from s k count)
  drops_put s k zero = tt
  drops_put s k (suc count) = (tt, drops_put s (suc k) count)

  if_put : (h : Bool) (is : List Instr) → AllPut P is → AllPut P (drops_if h is)
  if_put true is u = u
  if_put false is u = tt

  either_put : (h : Bool) (i j : Instr) → PutsInto P i → PutsInto P j → PutsInto P (if h then i else j)
  either_put true i j u v = u
  either_put false i j u v = v

  one_after : (v : Moved) (i : Instr) → PutsInto P i → PutsInto P (drop_after v i)
  one_after v (Drop s k) u = either_put (is_moved v s k) _ _ tt tt
  one_after v i u = u

  put_after : (v : Moved) (is : List Instr) → AllPut P is → AllPut P (drops_after v is)
  put_after v [] u = tt
  put_after v (i ∷ is) u = (one_after v i u.0, put_after v is u.1)

  put_after_all : (vs : List Moved) (is : List Instr) → AllPut P is → AllPut P (drops_after_all vs is)
  put_after_all [] is u = u
  put_after_all (v ∷ vs) is u = put_after_all vs (drops_after v is) (put_after v is u)

  module _ (defs : List Def) where
    put_cell_drops : (count free : ℕ) → AllPut P (cell_drops defs count free)
    put_cell_drops zero free = tt
    put_cell_drops (suc count) free = (tt, put_cell_drops count (suc free))

    put_together_drops : (front us : List Ty) (l : LoweredAll) → AllPut P l.drops → AllPut P (together_drops defs front us l)
    put_together_drops front us l f =
        put_after_all (moves_into defs (front ++ us) l.free (numbers_from defs (length front) (length l.values)) l.values) l.drops f

    node_drops : (us : List Ty) (t : Ty) (o : Work) (l : LoweredAll) → AllPut P l.drops → AllPut P (node defs us t o l).drops
    node_drops us t (Operate o) l f = go (passes_on o)
      where
        go : (h : Bool) → AllPut P (if h then gathers defs t o l else gives defs t (Operate o) l).drops
        go true =
            put_after_all (moves_into defs (part_types defs t) l.free (part_numbers defs o (length l.values)) l.values) l.drops f
        go false =
            let own = drops_from l.free 0 (count_of defs t) in
            let h = work_refers defs t (Operate o) in
            put_join l.drops (drops_if h own) f (if_put h own (drops_put l.free 0 (count_of defs t)))
    node_drops us t (tree.Assign aims) l f = f
    node_drops us t (tree.TakePart k) l f = put_after (moves_out defs (first_of defs us) k (slot_at 0 l.values) l.free) l.drops f
    node_drops us t tree.Copy l f = f
    node_drops us t tree.Link l f = put_join l.drops _ f (put_cell_drops (length l.values) l.free)
    node_drops us t (tree.Call k) l f =
        put_join (together_drops defs [] us l) _ (put_together_drops [] us l f) (drops_put (value_slot defs l) 0 (count_of defs t))
    node_drops us t (tree.Print ps) l f = put_together_drops (ty.Chars ∷ []) us l f
    node_drops us t tree.NewChannel l f = put_join l.drops _ f (tt, tt)
    node_drops us t (tree.Literal c) l f =
        put_join l.drops _ f (if_put (work_refers defs t (tree.Literal c)) _ (drops_put l.free 0 (count_of defs t)))
    node_drops us t tree.Nil l f = put_join l.drops _ f (if_put (work_refers defs t tree.Nil) _ (drops_put l.free 0 (count_of defs t)))
    node_drops us t (tree.Read w) l f =
        put_join l.drops _ f (if_put (work_refers defs t (tree.Read w)) _ (drops_put l.free 0 (count_of defs t)))
    node_drops us t (tree.Sprint ps) l f =
        put_join l.drops _ f (if_put (work_refers defs t (tree.Sprint ps)) _ (drops_put l.free 0 (count_of defs t)))

    others_drops : (h : Bool) (t : Ty) (a : ℕ) (zs : List ℤ) (lo : ℕ) (x : Lowered) → AllPut P x.drops
        → AllPut P (others defs h t a zs lo x).drops
    others_drops true t a zs lo x f =
        put_join (Take lo (suc lo) (x.free - suc lo) (suc (length x.drops)) ∷ x.drops) (Back (suc (length x.drops)) ∷ []) (tt, f) (tt, tt)
    others_drops false t a zs lo x f = tt

    mutual
      term_drops : (lo : ℕ) (t : Term) → AllPut P (lower defs lo t).drops
      term_drops lo (Evaluated v) = tt
      term_drops lo (Node t o ts) = node_drops (types_in defs ts) t o (lower_all defs lo ts) (all_drops lo ts)
      term_drops lo (Lazy c l r) =
          let x = lower defs lo l in
          let y = lower defs (suc x.free) r in
          put_join x.drops _ (term_drops lo l)
          (if_put (may_hold defs r) (Mirror x.free (length y.drops) ∷ y.drops) (tt, term_drops (suc x.free) r))
      term_drops lo (Update o w t way ts us) =
          let x = lower_all defs lo ts in
          let y = lower_all defs (suc x.free) us in
          put_join x.drops _ (all_drops lo ts) (put_join (drops_from x.free 0 (count_of defs t)) _
          (drops_put x.free 0 (count_of defs t)) (put_join y.drops _ (all_drops (suc x.free) us)
          (if_put (work_refers defs t (Operate o)) _ (drops_put y.free 0 (count_of defs t)))))
      term_drops lo (Fill t l is rest) =
          let m = lower defs lo l in
          let s = suc m.free in
          let from = max (items_end defs s is) (rest_end defs s rest) in
          let x = lower_items defs t m.free s from is in
          put_join (m.drops ++ Drop m.free 0 ∷ x.drops) (lower_rest defs t m.free (named defs is) s x.free rest).drops
          (put_join m.drops (Drop m.free 0 ∷ x.drops) (term_drops lo l) (tt, items_drops t m.free s from is))
          (rest_drops t m.free (named defs is) s x.free rest)
      term_drops lo t = tt

      all_drops : (lo : ℕ) (ts : Terms) → AllPut P (lower_all defs lo ts).drops
      all_drops lo NoTerms = tt
      all_drops lo (MoreTerms t ts) =
          put_join (lower defs lo t).drops _ (term_drops lo t) (all_drops (lower defs lo t).free ts)

      items_drops : (t : Ty) (a s lo : ℕ) (is : Items) → AllPut P (lower_items defs t a s lo is).drops
      items_drops t a s lo NoItems = tt
      items_drops t a s lo (MoreItems i e is) =
          let from = if may_hold defs e then lo else s in
          let x = lower defs from e in
          put_join x.drops _ (term_drops from e) (items_drops t a s (if may_hold defs e then x.free else lo) is)

      rest_drops : (t : Ty) (a : ℕ) (zs : List ℤ) (s lo : ℕ) (ts : Terms) → AllPut P (lower_rest defs t a zs s lo ts).drops
      rest_drops t a zs s lo NoTerms = tt
      rest_drops t a zs s lo (MoreTerms e es) =
          let from = if may_hold defs e then suc lo else s in
          others_drops (may_hold defs e) t a zs lo (lower defs from e) (term_drops from e)

-- ---- how many slots

module _ (defs : List Def) where
  values_count : (lo : ℕ) (ts : Terms) → length (lower_all defs lo ts).values ≡ count ts
  values_count lo NoTerms = refl
  values_count lo (MoreTerms t ts) = ap suc (values_count (lower defs lo t).free ts)

  cells_number : (t : Ty) (n : ℕ) → number (cells t n) ≡ n
  cells_number t zero = refl
  cells_number t (suc n) = let e = cells_number t n in omega arith

  list_number : (t : Ty) (n : ℕ) → number (list_slots t n) ≡ suc (n - 1)
  list_number t zero = refl
  list_number t (suc n) = let e = cells_number t (suc n) in omega arith

  called_number : (s : Slot) (n free : ℕ) → suc (if nat_eq n 0 then free else suc free) ≡ free + number (called_slots s n)
  called_number s zero free = omega arith
  called_number s (suc k) free =
      subst (λ (b : Bool). suc (if b then free else suc free) ≡ free + number (called_slots s (suc k))) (sym (eqb-suc-zero k))
      (omega arith)

  node_number : (us : List Ty) (t : Ty) (o : Work) (l : LoweredAll) (n : ℕ) → length l.values ≡ n
      → (node defs us t o l).free ≡ l.free + number (own_slots t o n)
  node_number us t (Operate o) l n e = go (passes_on o)
    where
      go : (h : Bool) → (if h then gathers defs t o l else gives defs t (Operate o) l).free ≡ l.free + 1
      go true = omega arith
      go false = omega arith
  node_number us t (tree.Assign aims) l n e = omega arith
  node_number us t (tree.TakePart k) l n e = omega arith
  node_number us t tree.Copy l n e = omega arith
  node_number us t tree.Link l n e = let f = list_number t n in omega arith
  node_number us t (tree.Call k) l n e =
      subst (λ (m : ℕ). suc (value_slot defs l) ≡ l.free + number (called_slots (Value t) m)) e
      (called_number (Value t) (length l.values) l.free)
  node_number us t (tree.Print ps) l n e =
      subst (λ (m : ℕ). suc (value_slot defs l) ≡ l.free + number (called_slots (Value ty.Int) m)) e
      (called_number (Value ty.Int) (length l.values) l.free)
  node_number us t tree.NewChannel l n e = omega arith
  node_number us t (tree.Literal c) l n e = omega arith
  node_number us t tree.Nil l n e = omega arith
  node_number us t (tree.Read w) l n e = omega arith
  node_number us t (tree.Sprint ps) l n e = omega arith

  abbrev Numbered : Term → Type 0
  Numbered e = (lo : ℕ) → (lower defs lo e).free ≡ lo + number (slots_of defs e)

  own_number : (h : Bool) (lo s : ℕ) (e : Term) → Numbered e
      → (if h then (lower defs (if h then lo else s) e).free else lo) ≡ lo + number (if h then slots_of defs e else NoSlots)
  own_number true lo s e f = f lo
  own_number false lo s e f = omega arith

  alone_number : (h : Bool) (s : ℕ) (e : Term) → Numbered e
      → (if h then s else (lower defs s e).free) ≡ s + number (if h then NoSlots else slots_of defs e)
  alone_number true s e f = omega arith
  alone_number false s e f = f s

  others_number : (h : Bool) (t : Ty) (a : ℕ) (zs : List ℤ) (lo s : ℕ) (e : Term) → Numbered e
      → (others defs h t a zs lo (lower defs (if h then suc lo else s) e)).free
      ≡ lo + (1 + number (if h then slots_of defs e else NoSlots))
  others_number true t a zs lo s e f = let g = f (suc lo) in omega arith
  others_number false t a zs lo s e f = omega arith

  mutual
    pub term_number : (lo : ℕ) (t : Term) → (lower defs lo t).free ≡ lo + number (slots_of defs t)
    term_number lo (Evaluated v) = omega arith
    term_number lo (Node t o ts) =
        let a = all_number lo ts in
        let b = node_number (types_in defs ts) t o (lower_all defs lo ts) (count ts) (values_count lo ts) in
        omega arith
    term_number lo (Lazy c l r) =
        let a = term_number lo l in
        let b = term_number (suc (lower defs lo l).free) r in
        omega arith
    term_number lo (Update o g t w ts us) =
        let a = all_number lo ts in
        let b = all_number (suc (lower_all defs lo ts).free) us in
        omega arith
    term_number lo (Fill t l is rest) =
        let m = lower defs lo l in
        let s = suc m.free in
        let from = max (items_end defs s is) (rest_end defs s rest) in
        let x = lower_items defs t m.free s from is in
        let a = term_number lo l in
        let b = end_number s is in
        let c = rest_end_number s rest in
        let d = items_number t m.free s from is in
        let e = rest_number t m.free (named defs is) s x.free rest in
        omega arith
    term_number lo t = omega arith

    pub all_number : (lo : ℕ) (ts : Terms) → (lower_all defs lo ts).free ≡ lo + number (all_slots defs ts)
    all_number lo NoTerms = omega arith
    all_number lo (MoreTerms t ts) = let a = term_number lo t in let b = all_number (lower defs lo t).free ts in omega arith

    items_number : (t : Ty) (a s lo : ℕ) (is : Items) → (lower_items defs t a s lo is).free ≡ lo + number (held_slots defs is)
    items_number t a s lo NoItems = omega arith
    items_number t a s lo (MoreItems i e is) =
        let x = lower defs (if may_hold defs e then lo else s) e in
        let f = own_number (may_hold defs e) lo s e (λ from. term_number from e) in
        let g = items_number t a s (if may_hold defs e then x.free else lo) is in
        omega arith

    rest_number : (t : Ty) (a : ℕ) (zs : List ℤ) (s lo : ℕ) (ts : Terms) →
        (lower_rest defs t a zs s lo ts).free ≡ lo + number (rest_slots defs ts)
    rest_number t a zs s lo NoTerms = omega arith
    rest_number t a zs s lo (MoreTerms e es) = others_number (may_hold defs e) t a zs lo s e (λ from. term_number from e)

    end_number : (s : ℕ) (is : Items) → items_end defs s is ≡ s + number (alone_slots defs is)
    end_number s NoItems = omega arith
    end_number s (MoreItems i e is) =
        let a = alone_number (may_hold defs e) s e (λ from. term_number from e) in let b = end_number s is in omega arith

    rest_end_number : (s : ℕ) (ts : Terms) → rest_end defs s ts ≡ s + number (rest_alone defs ts)
    rest_end_number s NoTerms = omega arith
    rest_end_number s (MoreTerms e es) = alone_number (may_hold defs e) s e (λ from. term_number from e)

  -- ---- what the code of trees puts into them

  module _ (P : ℕ → Slot → Type 0) where
    writes_put : (aims : List Aim) (ss : List ℕ) (v : ℕ) → AllPut P (writes defs aims ss v)
    writes_put [] ss v = tt
    writes_put (a ∷ aims) ss v = (tt, writes_put aims (drop (operands_of a.way) ss) v)

    cells_put : (t : Ty) (ss : List ℕ) (behind : Option ℕ) (free : ℕ) → Gets P free (cells t (length ss))
        → AllPut P (code.cells defs (item_of t) ss behind free)
    cells_put t [] behind free f = tt
    cells_put t (s ∷ ss) behind free f =
        let cell = One (Value (ty.ListOf (item_of t))) in
        let more = cells t (length ss) in (
          one P free (Value (ty.ListOf (item_of t))) (front P free cell more f),
          cells_put t ss (Some free) (suc free) (back P free (suc free) cell more (omega arith) f),
        )

    list_put : (t : Ty) (ss : List ℕ) (free : ℕ) → Gets P free (list_slots t (length ss))
        → AllPut P (list_code defs (item_of t) ss free)
    list_put t [] free f = (one P free Word f, tt)
    list_put t (s ∷ ss) free f =
        cells_put t (reverse (s ∷ ss)) None free
        (subst (λ (n : ℕ). Gets P free (cells t n)) (sym (length-reverse (s ∷ ss))) f)

    placed_put : (t : Ty) (v : Option ℕ) (into n : ℕ) (ks : List ℕ) (cs : List (List Instr)) (ss : List ℕ) → EachPut P cs
        → (0 < length ss → P into (Value t) ⊎ P into Word) → AllPut P (placed defs t v into n ks cs ss)
    placed_put t v into n (k ∷ ks) (c ∷ cs) (s ∷ ss) g f =
        put_join P c _ g.0 (f (omega arith), placed_put t v into (suc n) ks cs ss g.1 (λ l. f (omega arith)))
    placed_put t v into n ks cs ss g f = tt

    -- the slot of operands, where there are any, and the value's
    operands_there : (s : Slot) (n free : ℕ) → Gets P free (called_slots s n) → 0 < n → P free Word
    operands_there s zero free f l = absurd (omega arith)
    operands_there s (suc k) free f l = one P free Word (front P free (One Word) (One s) f)

    called_put : (s : Slot) (n free : ℕ) → Gets P free (called_slots s n)
        → P (if nat_eq n 0 then free else suc free) s × IfHas P (if nat_eq n 0 then None else Some free) Word
    called_put s zero free f = (one P free s f, tt)
    called_put s (suc k) free f =
        subst (λ (b : Bool). P (if b then free else suc free) s × IfHas P (if b then None else Some free) Word) (sym (eqb-suc-zero k)) (
          one P (suc free) s (back P free (suc free) (One Word) (One s) (omega arith) f),
          one P free Word (front P free (One Word) (One s) f),
        )

    together_put : (front us : List Ty) (l : LoweredAll) (s : Slot) → EachPut P l.each → Gets P l.free (called_slots s (length l.values))
        → AllPut P (together defs front us l)
    together_put front us l s g f =
        placed_put (ty.Tuple (tys_of (front ++ us))) None l.free 0 (numbers_from defs (length front) (length l.values)) l.each l.values g
        (λ k. inr (operands_there s (length l.values) l.free f k))

    node_put : (us : List Ty) (t : Ty) (o : Work) (l : LoweredAll) → AllPut P l.code → EachPut P l.each
        → Gets P l.free (own_slots t o (length l.values))
        → AllPut P (node defs us t o l).code
    node_put us t (Operate o) l c g f = go (passes_on o)
      where
        go : (h : Bool) → AllPut P (if h then gathers defs t o l else gives defs t (Operate o) l).code
        go true =
            put_join P (placed defs t (variant_of defs o) l.free 0 (part_numbers defs o (length l.values)) l.each l.values) _
            (placed_put t (variant_of defs o) l.free 0 (part_numbers defs o (length l.values)) l.each l.values g
            (λ k. inl (one P l.free (Value t) f))) (one P l.free (Value t) f, tt)
        go false = put_join P l.code _ c (one P l.free (Value t) f, tt)
    node_put us t (tree.Assign aims) l c g f = put_join P l.code _ c (writes_put aims l.values (slot_at (operands_for aims) l.values))
    node_put us t (tree.TakePart k) l c g f = put_join P l.code _ c (one P l.free (Value t) f, tt)
    node_put us t tree.Copy l c g f = put_join P l.code _ c (tt, tt)
    node_put us t tree.Link l c g f = put_join P l.code _ c (list_put t l.values l.free f)
    node_put us t (tree.Call k) l c g f =
        put_join P (together defs [] us l) _ (together_put [] us l (Value t) g f) (called_put (Value t) (length l.values) l.free f, tt)
    node_put us t (tree.Print ps) l c g f =
        put_join P (together defs (ty.Chars ∷ []) us l) _ (together_put (ty.Chars ∷ []) us l (Value ty.Int) g f)
        (called_put (Value ty.Int) (length l.values) l.free f, tt)
    node_put us t tree.NewChannel l c g f = put_join P l.code _ c (one P l.free (Value t) f, tt)
    node_put us t (tree.Literal k) l c g f = put_join P l.code _ c (one P l.free (Value t) f, tt)
    node_put us t tree.Nil l c g f = put_join P l.code _ c (one P l.free (Value t) f, tt)
    node_put us t (tree.Read w) l c g f = put_join P l.code _ c (one P l.free (Value t) f, tt)
    node_put us t (tree.Sprint ps) l c g f = put_join P l.code _ c (one P l.free (Value t) f, tt)

    skip_put : (h : Bool) (c : Connective) (into decision from passes : ℕ) → P into (Value ty.Int) → P decision Word
        → PutsInto P (Skip c into (if h then Some decision else None) from passes)
    skip_put true c into decision from passes p q = (p, q)
    skip_put false c into decision from passes p q = (p, tt)

    abbrev Puts : Term → Type 0
    Puts e = (lo : ℕ) → Gets P lo (slots_of defs e) → AllPut P (lower defs lo e).code

    item_put : (h : Bool) (lo s : ℕ) (e : Term) → Puts e → Gets P s (if h then NoSlots else slots_of defs e)
        → Gets P lo (if h then slots_of defs e else NoSlots) → AllPut P (lower defs (if h then lo else s) e).code
    item_put true lo s e f a o = f lo o
    item_put false lo s e f a o = f s a

    others_put : (h : Bool) (t : Ty) (a : ℕ) (zs : List ℤ) (lo s : ℕ) (e : Term) → Puts e
        → Gets P s (if h then NoSlots else slots_of defs e) → Gets P lo (Both (One Word) (if h then slots_of defs e else NoSlots))
        → AllPut P (others defs h t a zs lo (lower defs (if h then suc lo else s) e)).code
    others_put true t a zs lo s e f alone own =
        let x = lower defs (suc lo) e in
        let behind = Other t a lo x.value ∷ Keep lo (suc lo) (x.free - suc lo) ∷ [] in
        let turn = x.code ++ behind in
        let word = one P lo Word (front P lo (One Word) (slots_of defs e) own) in
        let c = f (suc lo) (back P lo (suc lo) (One Word) (slots_of defs e) (omega arith) own) in
        put_join P (Start lo ∷ Next a lo zs (suc (length turn)) ∷ turn) (Back (suc (length turn)) ∷ [])
        (word, (tt, put_join P x.code behind c (tt, (tt, tt)))) (tt, tt)
    others_put false t a zs lo s e f alone own =
        let x = lower defs s e in
        let behind = Other t a lo x.value ∷ [] in
        let turn = x.code ++ behind in
        let word = one P lo Word (front P lo (One Word) NoSlots own) in
        put_join P (Start lo ∷ Next a lo zs (suc (length turn)) ∷ turn) (Back (suc (length turn)) ∷ [])
        (word, (tt, put_join P x.code behind (f s alone) (tt, tt))) (tt, tt)

    mutual
      term_put : (lo : ℕ) (t : Term) → Gets P lo (slots_of defs t) → AllPut P (lower defs lo t).code
      term_put lo (Evaluated v) f = (one P lo Word f, tt)
      term_put lo (Node t o ts) f =
          let l = lower_all defs lo ts in
          let own = back P lo l.free (all_slots defs ts) (own_slots t o (count ts)) (sym (all_number lo ts)) f in
          node_put (types_in defs ts) t o l (all_put lo ts (front P lo (all_slots defs ts) (own_slots t o (count ts)) f))
          (each_put lo ts (front P lo (all_slots defs ts) (own_slots t o (count ts)) f))
          (subst (λ (n : ℕ). Gets P l.free (own_slots t o n)) (sym (values_count lo ts)) own)
      term_put lo (Lazy c l r) f =
          let x = lower defs lo l in
          let y = lower defs (suc x.free) r in
          let R = slots_of defs r in
          let I = One (Value ty.Int) in
          let skip = Skip c y.free (if may_hold defs r then Some x.free else None) x.value (suc (length y.code)) in
          let f1 = back P lo x.free (slots_of defs l) (Both (One Word) (Both R I)) (sym (term_number lo l)) f in
          let f2 = back P x.free (suc x.free) (One Word) (Both R I) (omega arith) f1 in
          let word = one P x.free Word (front P x.free (One Word) (Both R I) f1) in
          let int = one P y.free (Value ty.Int) (back P (suc x.free) y.free R I (sym (term_number (suc x.free) r)) f2) in
          put_join P (x.code ++ skip ∷ y.code) (Truth y.free y.value ∷ [])
          (put_join P x.code (skip ∷ y.code) (term_put lo l (front P lo (slots_of defs l) (Both (One Word) (Both R I)) f)) (
            skip_put (may_hold defs r) c y.free x.free x.value (suc (length y.code)) int word,
            term_put (suc x.free) r (front P (suc x.free) R I f2),
          )) (int, tt)
      term_put lo (Update o w t way ts us) f =
          let x = lower_all defs lo ts in
          let y = lower_all defs (suc x.free) us in
          let A = all_slots defs ts in
          let U = all_slots defs us in
          let V = One (Value t) in
          let read = Give t (tree.Read way) x.free x.values in
          let f1 = back P lo x.free A (Both V (Both U V)) (sym (all_number lo ts)) f in
          let f2 = back P x.free (suc x.free) V (Both U V) (omega arith) f1 in
          let old = one P x.free (Value t) (front P x.free V (Both U V) f1) in
          let new = one P y.free (Value t) (back P (suc x.free) y.free U V (sym (all_number (suc x.free) us)) f2) in
          put_join P (x.code ++ read ∷ y.code) (Give t (Operate o) y.free (x.free ∷ y.values) ∷ Write t way x.values [] y.free ∷ [])
          (put_join P x.code (read ∷ y.code) (all_put lo ts (front P lo A (Both V (Both U V)) f))
          (old, all_put (suc x.free) us (front P (suc x.free) U V f2))) (new, (tt, tt))
      term_put lo (Fill t l is rest) f =
          let m = lower defs lo l in
          let s : ℕ = suc m.free in
          let from : ℕ = max (items_end defs s is) (rest_end defs s rest) in
          let x = lower_items defs t m.free s from is in
          let y = lower_rest defs t m.free (named defs is) s x.free rest in
          let L = slots_of defs l in
          let A = One (Value (ty.ArrayOf t)) in
          let S = Either (alone_slots defs is) (rest_alone defs rest) in
          let H = held_slots defs is in
          let O = rest_slots defs rest in
          let b = end_number s is in
          let c = rest_end_number s rest in
          let ends : s + number S ≡ from = omega arith in
          let f1 = back P lo m.free L (Both A (Both S (Both H O))) (sym (term_number lo l)) f in
          let f2 = back P m.free s A (Both S (Both H O)) (omega arith) f1 in
          let shared = front P s S (Both H O) f2 in
          let f3 = back P s from S (Both H O) ends f2 in
          let array = one P m.free (Value (ty.ArrayOf t)) (front P m.free A (Both S (Both H O)) f1) in
          let new = Give (ty.ArrayOf t) (Operate operation.NewArray) m.free (m.value ∷ []) in
          put_join P (m.code ++ new ∷ x.code) y.code
          (put_join P m.code (new ∷ x.code) (term_put lo l (front P lo L (Both A (Both S (Both H O))) f))
          (array, items_put t m.free s from is (left P s (alone_slots defs is) (rest_alone defs rest) shared) (front P from H O f3)))
          (rest_put t m.free (named defs is) s x.free rest (right P s (alone_slots defs is) (rest_alone defs rest) shared)
          (back P from x.free H O (sym (items_number t m.free s from is)) f3))
      term_put lo t f = tt

      all_put : (lo : ℕ) (ts : Terms) → Gets P lo (all_slots defs ts) → AllPut P (lower_all defs lo ts).code
      all_put lo NoTerms f = tt
      all_put lo (MoreTerms t ts) f =
          let x = lower defs lo t in
          put_join P x.code _ (term_put lo t (front P lo (slots_of defs t) (all_slots defs ts) f))
          (all_put x.free ts (back P lo x.free (slots_of defs t) (all_slots defs ts) (sym (term_number lo t)) f))

      each_put : (lo : ℕ) (ts : Terms) → Gets P lo (all_slots defs ts) → EachPut P (lower_all defs lo ts).each
      each_put lo NoTerms f = tt
      each_put lo (MoreTerms t ts) f = (
        term_put lo t (front P lo (slots_of defs t) (all_slots defs ts) f),
        each_put (lower defs lo t).free ts
            (back P lo (lower defs lo t).free (slots_of defs t) (all_slots defs ts) (sym (term_number lo t)) f),
      )

      items_put : (t : Ty) (a s lo : ℕ) (is : Items) → Gets P s (alone_slots defs is) → Gets P lo (held_slots defs is)
          → AllPut P (lower_items defs t a s lo is).code
      items_put t a s lo NoItems f g = tt
      items_put t a s lo (MoreItems i e is) f g =
          let h = may_hold defs e in
          let x = lower defs (if h then lo else s) e in
          let behind : ℕ = if h then x.free else lo in
          let alone = if h then NoSlots else slots_of defs e in
          let own = if h then slots_of defs e else NoSlots in
          put_join P x.code (Element t a i x.value ∷ (lower_items defs t a s behind is).code)
          (item_put h lo s e (λ from k. term_put from e k) (left P s alone (alone_slots defs is) f)
          (front P lo own (held_slots defs is) g)) (
            tt,
            items_put t a s behind is (right P s alone (alone_slots defs is) f)
                (back P lo behind own (held_slots defs is) (sym (own_number h lo s e (λ from. term_number from e))) g),
          )

      rest_put : (t : Ty) (a : ℕ) (zs : List ℤ) (s lo : ℕ) (ts : Terms) → Gets P s (rest_alone defs ts) → Gets P lo (rest_slots defs ts)
          → AllPut P (lower_rest defs t a zs s lo ts).code
      rest_put t a zs s lo NoTerms f g = tt
      rest_put t a zs s lo (MoreTerms e es) f g =
          others_put (may_hold defs e) t a zs lo s e (λ from k. term_put from e k) f g

    -- ---- and of statements

    whole_put : (t : Term) → Gets P 0 (slots_of defs t) → AllPut P (whole defs t)
    whole_put t f = put_join P (lower defs 0 t).code _ (term_put 0 t f) (term_drops P defs 0 t)

    whole_if_put : (t : Option Term) → Gets P 0 (slots_if defs t) → AllPut P (whole_if defs t)
    whole_if_put None f = tt
    whole_if_put (Some t) f = whole_put t f

    test_put : (c : Option Term) (passes : ℕ) → Gets P 0 (slots_if defs c) → AllPut P (test defs c passes)
    test_put None passes f = tt
    test_put (Some t) passes f = put_join P (whole defs t) _ (whole_put t f) (tt, tt)

    tested_put : (c : Option Term) (body next : List Instr) → Gets P 0 (slots_if defs c) → AllPut P body → AllPut P next
        → AllPut P (loop_tested defs c body next)
    tested_put c body next q f g =
        put_join P (test defs c (suc (length (body ++ next)))) _ (test_put c (suc (length (body ++ next))) q)
        (put_join P (body ++ next) _ (put_join P body next f g) (tt, tt))

    entered_put : (c : Option Term) (body next : List Instr) → Gets P 0 (slots_if defs c) → AllPut P body → AllPut P next
        → AllPut P (loop_entered defs c body next)
    entered_put c body next q f g =
        put_join P (body ++ next) _ (put_join P body next f g) (put_join P (test defs c 1) _ (test_put c 1 q) (tt, tt))

    mutual
      stm_put : (around : List Around) (rest : ℕ) (s : Stm) → Gets P 0 (stm_slots defs s) → AllPut P (stm_code defs around rest s)
      stm_put around rest Over f = tt
      stm_put around rest (Eval t) f = whole_put t f
      stm_put around rest (If t x y) f =
          let other = block_code defs (further rest around) y in
          let first = block_code defs (further (suc (length other) + rest) around) x in
          let unless = Unless (lower defs 0 t).value (suc (length first)) in
          let T = slots_of defs t in
          let X = block_slots defs x in
          let Y = block_slots defs y in
          let both = right P 0 T (Either X Y) f in
          put_join P (whole defs t ++ unless ∷ first) (Jump (length other) ∷ other)
          (put_join P (whole defs t) (unless ∷ first) (whole_put t (left P 0 T (Either X Y) f))
          (tt, block_put (further (suc (length other) + rest) around) x (left P 0 X Y both)))
          (tt, block_put (further rest around) y (right P 0 X Y both))
      stm_put around rest (While t k) f = tested_loop around rest k f
      stm_put around rest (Enter k) f = entered_loop around rest k f
      stm_put around rest (Break k) f = (tt, tt)
      stm_put around rest (Continue k) f = (tt, tt)
      stm_put around rest (tree.Return t) f = put_join P (lower defs 0 t).code _ (term_put 0 t f) (tt, tt)
      stm_put around rest tree.Leave f = (tt, tt)

      tested_loop : (around : List Around) (rest : ℕ) (k : Loop) → Gets P 0 (loop_slots defs k)
          → AllPut P (loop_code_tested defs around rest k)
      tested_loop around rest (Looping c next body) f =
          let behind = suc (length (whole_if defs next)) in
          let C = slots_if defs c in
          let N = slots_if defs next in
          let B = block_slots defs body in
          let both = left P 0 (Either C N) B f in
          tested_put c _ (whole_if defs next) (left P 0 C N both)
          (block_put (in_loop behind rest around) body (right P 0 (Either C N) B f)) (whole_if_put next (right P 0 C N both))

      entered_loop : (around : List Around) (rest : ℕ) (k : Loop) → Gets P 0 (loop_slots defs k)
          → AllPut P (loop_code_entered defs around rest k)
      entered_loop around rest (Looping c next body) f =
          let behind = length (whole_if defs next) + suc (length (test defs c 1)) in
          let C = slots_if defs c in
          let N = slots_if defs next in
          let B = block_slots defs body in
          let both = left P 0 (Either C N) B f in
          entered_put c _ (whole_if defs next) (left P 0 C N both)
          (block_put (in_loop behind rest around) body (right P 0 (Either C N) B f)) (whole_if_put next (right P 0 C N both))

      block_put : (around : List Around) (x : Block) → Gets P 0 (block_slots defs x) → AllPut P (block_code defs around x)
      block_put around Done f = tt
      block_put around (Then s x) f =
          let rest = block_code defs around x in
          let S = stm_slots defs s in
          let X = block_slots defs x in
          put_join P (stm_code defs around (length rest) s) rest (stm_put around (length rest) s (left P 0 S X f))
          (block_put around x (right P 0 S X f))
      block_put around (Turn k x) f = block_put around x f
      block_put around (Again k x) f = block_put around x f

  -- ---- how many slots functions have

  if_number : (t : Option Term) → free_after defs t ≡ number (slots_if defs t)
  if_number None = refl
  if_number (Some t) = let a = term_number 0 t in omega arith

  mutual
    stm_number : (s : Stm) → statements.stm_slots defs s ≡ number (stm_slots defs s)
    stm_number (Eval t) = let a = term_number 0 t in omega arith
    stm_number (If t x y) = let a = term_number 0 t in let b = block_number x in let c = block_number y in omega arith
    stm_number (While t l) = loop_number l
    stm_number (Enter l) = loop_number l
    stm_number (tree.Return t) = let a = term_number 0 t in omega arith
    stm_number s = refl

    loop_number : (l : Loop) → statements.loop_slots defs l ≡ number (loop_slots defs l)
    loop_number (Looping c n body) = let a = if_number c in let b = if_number n in let d = block_number body in omega arith

    pub block_number : (x : Block) → statements.block_slots defs x ≡ number (block_slots defs x)
    block_number Done = refl
    block_number (Then s x) = let a = stm_number s in let b = block_number x in omega arith
    block_number (Turn l x) = block_number x
    block_number (Again l x) = block_number x

  function_put : (r : Routine) → AllPut (HasSlot 0 (block_slots defs r.body)) (function_of defs r).code
  function_put r =
      let P = HasSlot 0 (block_slots defs r.body) in
      put_join P (block_code defs [] r.body) (Return None ∷ []) (block_put P [] r.body (λ n s h. h)) (tt, tt)

pub slots_are_listed : SlotsAreListed
slots_are_listed = record {
  numbers = term_number;
  puts = λ defs lo t. put_at (HasSlot lo (slots_of defs t)) (lower defs lo t).code
      (term_put defs (HasSlot lo (slots_of defs t)) lo t (λ n s h. h));
  functions = λ defs r. ap (λ (n : ℕ). max 1 n) (block_number defs r.body);
  function_puts = λ defs r. put_at (HasSlot 0 (block_slots defs r.body)) (function_of defs r).code (function_put defs r);
}
