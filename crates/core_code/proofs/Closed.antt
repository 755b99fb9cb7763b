-- Control stays in the code of a function.
use Rattle.std.proofs.Common.{◌≡◌, ℕ, ℤ, zero, suc, ◌+◌, ◌-◌, ◌<◌, ◌≤◌, Bool, true, false, List, [], ◌∷◌, ◌++◌, length, max}
use Rattle.std.proofs.Common.{Option, Some, None}
use Rattle.std.proofs.Common.{subst, arith, length-append}
use Rattle.std.proofs.lemmas.List.{length-map}
use Rattle.std.specs.Prelude.{reverse, slice_get, All, if◌then◌else◌}
use Rattle.limbo_types.specs.Types as ty
use Rattle.limbo_types.specs.Types.{Ty}
use Rattle.limbo_types.specs.View.{tys_of}
use Rattle.limbo_layout.specs.Adts.{Def}
use Rattle.limbo_typed.specs.declared.operation.Operation.{Operation}
use Rattle.limbo_typed.specs.declared.operation.Operation.TheVariants as operation
use Rattle.limbo_meaning.specs.Trees as tree
use Rattle.limbo_meaning.specs.Trees.{Aim, Work, Operate, Term, Evaluated, Node, Lazy, Update, Fill, Terms, NoTerms, MoreTerms}
use Rattle.limbo_meaning.specs.Trees.{Items, NoItems, MoreItems}
use Rattle.limbo_meaning.specs.Trees.{Stm, Over, Eval, If, While, Enter, Break, Continue, Loop, Looping, Block, Done, Then, Turn, Again}
use Rattle.limbo_meaning.specs.Evaluation.{passes_on, may_hold, work_refers}
use Rattle.limbo_meaning.specs.Operations.{item_of}
use Rattle.limbo_meaning.specs.Program.{Routine}
use Rattle.core_code.specs.Code.{Instr, Give, Skip, Truth, Next, Other}
use Rattle.core_code.specs.Code.{Start, Keep, Take, Drop, Mirror, Unless, Jump, Back, Return}
use Rattle.core_code.specs.Terms.{Lowered, LoweredAll, Moved, is_moved, drop_after, drops_after, drops_after_all, drops_from, drops_if}
use Rattle.core_code.specs.Terms.{count_of, gives, gathers, writes, cells, list_code, cell_drops, slot_at, moves_out, node, others}
use Rattle.core_code.specs.Terms.{lower, lower_all}
use Rattle.core_code.specs.Terms.{lower_items}
use Rattle.core_code.specs.Terms.{lower_rest}
use Rattle.core_code.specs.Terms.{named, items_end, rest_end, part_types, part_numbers, numbers_from, moves_into, placed, variant_of}
use Rattle.core_code.specs.Terms.{together, together_drops, value_slot, first_of, types_in}
use Rattle.core_code.specs.Statements.{Around, further, leaves_at, turns_at, in_loop, whole, whole_if, test, loop_tested, loop_entered}
use Rattle.core_code.specs.Statements.{stm_code, loop_code_tested, loop_code_entered, block_code, function_of}
use Rattle.core_code.specs.Control.{leads_to, IsClosed, FunctionsAreClosed}

-- ---- code with so many instructions in front of it and so many behind it

-- An instruction leads to one of them, or to the next.
abbrev Leads : (before behind : ℕ) → Instr → Type 0
Leads b r (Skip c into d from n) = n < r
Leads b r (Next a loop zs n) = n < r
Leads b r (Take loop from words n) = n < r
Leads b r (Mirror d n) = n < r
Leads b r (Unless s n) = n < r
Leads b r (Jump n) = n < r
Leads b r (Back n) = n ≤ b
Leads b r (Return from) = Unit {0}
Leads b r i = 0 < r

abbrev Within : (before behind : ℕ) → List Instr → Type 0
Within b r [] = Unit {0}
Within b r (i ∷ is) = Leads b (length is + r) i × Within (suc b) r is

within_join : (b r : ℕ) (xs ys : List Instr) → Within b (length ys + r) xs → Within (b + length xs) r ys → Within b r (xs ++ ys)
within_join b r [] ys h k = let e : b + 0 ≡ b = omega arith in subst (λ (n : ℕ). Within n r ys) e k
within_join b r (x ∷ xs) ys h k =
    let e : length xs + (length ys + r) ≡ length (xs ++ ys) + r = omega (arith, length-append {A = Instr}) in
    let f : b + suc (length xs) ≡ suc b + length xs = omega arith in (
      subst (λ (n : ℕ). Leads b n x) e h.0,
      within_join (suc b) r xs ys h.1 (subst (λ (n : ℕ). Within n r ys) f k),
    )

-- Code stays inside wherever it stands in front of another instruction.
abbrev Free : List Instr → Type 0
Free is = (b r : ℕ) → 0 < r → Within b r is

free_join : (xs ys : List Instr) → Free xs → Free ys → Free (xs ++ ys)
free_join xs ys f g b r l = within_join b r xs ys (f b (length ys + r) (omega arith)) (g (b + length xs) r l)

-- ---- drops

free_drops : (s k n : ℕ) → Free (drops_from s k n)
free_drops s k zero b r l = tt
free_drops s k (suc n) b r l = (omega arith, free_drops s (suc k) n (suc b) r l)

free_if : (h : Bool) (is : List Instr) → Free is → Free (drops_if h is)
free_if true is f = f
free_if false is f = λ b r l. tt

leads_if : (h : Bool) (b r : ℕ) (i j : Instr) → Leads b r i → Leads b r j → Leads b r (if h then i else j)
leads_if true b r i j k l = k
leads_if false b r i j k l = l

leads_after : (v : Moved) (b r : ℕ) (i : Instr) → Leads b r i → Leads b r (drop_after v i)
leads_after v b r (Drop s k) h = leads_if (is_moved v s k) b r _ _ h h
leads_after v b r i h = h

within_after : (v : Moved) (b r : ℕ) (is : List Instr) → Within b r is → Within b r (drops_after v is)
within_after v b r [] h = tt
within_after v b r (i ∷ is) h =
    let e : length is + r ≡ length (drops_after v is) + r = omega (arith, length-map is (drop_after v)) in
    (leads_after v b _ i (subst (λ (n : ℕ). Leads b n i) e h.0), within_after v (suc b) r is h.1)

within_after_all : (vs : List Moved) (b r : ℕ) (is : List Instr) → Within b r is → Within b r (drops_after_all vs is)
within_after_all [] b r is h = h
within_after_all (v ∷ vs) b r is h = within_after_all vs b r (drops_after v is) (within_after v b r is h)

-- ---- expressions

abbrev AllFree : List (List Instr) → Type 0
AllFree [] = Unit {0}
AllFree (c ∷ cs) = Free c × AllFree cs

record AreFree (l : LoweredAll) : Type 0 where
  each : AllFree l.each
  code : Free l.code
  drops : Free l.drops

module _ (defs : List Def) where
  abbrev IsFree : Lowered → Type 0
  IsFree l = Free l.code × Free l.drops

  either_free : (h : Bool) (l m : Lowered) → IsFree l → IsFree m → IsFree (if h then l else m)
  either_free true l m f g = f
  either_free false l m f g = g

  gives_free : (t : Ty) (o : Work) (l : LoweredAll) → AreFree l → IsFree (gives defs t o l)
  gives_free t o l f = (
    free_join l.code _ f.code (λ b r h. (omega arith, tt)),
    free_join l.drops _ f.drops (free_if (work_refers defs t o) _ (free_drops l.free 0 (count_of defs t))),
  )

  placed_free : (t : Ty) (v : Option ℕ) (into n : ℕ) (ks : List ℕ) (cs : List (List Instr)) (ss : List ℕ) → AllFree cs
      → Free (placed defs t v into n ks cs ss)
  placed_free t v into n (k ∷ ks) (c ∷ cs) (s ∷ ss) f =
      free_join c _ f.0 (λ b r h. (omega arith, placed_free t v into (suc n) ks cs ss f.1 (suc b) r h))
  placed_free t v into n ks cs ss f = λ b r h. tt

  gathers_free : (t : Ty) (o : Operation) (l : LoweredAll) → AreFree l → IsFree (gathers defs t o l)
  gathers_free t o l f = (
    free_join (placed defs t (variant_of defs o) l.free 0 (part_numbers defs o (length l.values)) l.each l.values) _
        (placed_free t (variant_of defs o) l.free 0 (part_numbers defs o (length l.values)) l.each l.values f.each)
        (λ b r h. (omega arith, tt)),
    λ b r h. within_after_all (moves_into defs (part_types defs t) l.free (part_numbers defs o (length l.values)) l.values) b r l.drops
        (f.drops b r h),
  )

  together_free : (front us : List Ty) (l : LoweredAll) → AllFree l.each → Free (together defs front us l)
  together_free front us l f =
      placed_free (ty.Tuple (tys_of (front ++ us))) None l.free 0 (numbers_from defs (length front) (length l.values)) l.each l.values f

  together_drops_free : (front us : List Ty) (l : LoweredAll) → Free l.drops → Free (together_drops defs front us l)
  together_drops_free front us l f b r h =
      within_after_all (moves_into defs (front ++ us) l.free (numbers_from defs (length front) (length l.values)) l.values) b r l.drops
      (f b r h)

  writes_free : (aims : List Aim) (ss : List ℕ) (v : ℕ) → Free (writes defs aims ss v)
  writes_free [] ss v b r h = tt
  writes_free (a ∷ aims) ss v b r h = (omega arith, writes_free aims _ v (suc b) r h)

  cells_free : (t : Ty) (ss : List ℕ) (behind : Option ℕ) (free : ℕ) → Free (cells defs t ss behind free)
  cells_free t [] behind free b r h = tt
  cells_free t (s ∷ ss) behind free b r h = (omega arith, cells_free t ss (Some free) (suc free) (suc b) r h)

  list_free : (t : Ty) (ss : List ℕ) (free : ℕ) → Free (list_code defs t ss free)
  list_free t [] free b r h = (omega arith, tt)
  list_free t (s ∷ ss) free b r h = cells_free t (reverse (s ∷ ss)) None free b r h

  cell_drops_free : (n free : ℕ) → Free (cell_drops defs n free)
  cell_drops_free zero free b r h = tt
  cell_drops_free (suc n) free b r h = (omega arith, cell_drops_free n (suc free) (suc b) r h)

  node_free : (us : List Ty) (t : Ty) (o : Work) (l : LoweredAll) → AreFree l → IsFree (node defs us t o l)
  node_free us t (Operate o) l f =
      either_free (passes_on o) (gathers defs t o l) (gives defs t (Operate o) l) (gathers_free t o l f) (gives_free t (Operate o) l f)
  node_free us t (tree.Assign aims) l f = (free_join l.code _ f.code (writes_free aims l.values _), f.drops)
  node_free us t (tree.TakePart n) l f = (
    free_join l.code _ f.code (λ b r h. (omega arith, tt)),
    λ b r h. within_after (moves_out defs (first_of defs us) n (slot_at 0 l.values) l.free) b r l.drops (f.drops b r h),
  )
  node_free us t tree.Copy l f = (free_join l.code _ f.code (λ b r h. (omega arith, tt)), f.drops)
  node_free us t tree.Link l f = (
    free_join l.code _ f.code (list_free (item_of t) l.values l.free),
    free_join l.drops _ f.drops (cell_drops_free (length l.values) l.free),
  )
  node_free us t (tree.Call n) l f = (
    free_join (together defs [] us l) _ (together_free [] us l f.each) (λ b r h. (omega arith, tt)),
    free_join (together_drops defs [] us l) _ (together_drops_free [] us l f.drops) (free_drops (value_slot defs l) 0 (count_of defs t)),
  )
  node_free us t (tree.Print ps) l f =
      (free_join (together defs (ty.Chars ∷ []) us l) _ (together_free (ty.Chars ∷ []) us l f.each) (λ b r h. (omega arith, tt)), together_drops_free (ty.Chars ∷ []) us l f.drops)
  node_free us t tree.NewChannel l f = (
    free_join l.code _ f.code (λ b r h. (omega arith, tt)),
    free_join l.drops _ f.drops (λ b r h. (omega arith, tt)),
  )
  node_free us t (tree.Literal c) l f = gives_free t (tree.Literal c) l f
  node_free us t tree.Nil l f = gives_free t tree.Nil l f
  node_free us t (tree.Read w) l f = gives_free t (tree.Read w) l f
  node_free us t (tree.Sprint ps) l f = gives_free t (tree.Sprint ps) l f

  -- one loop of the others' element
  others_free : (h : Bool) (t : Ty) (a : ℕ) (zs : List ℤ) (from : ℕ) (e : Lowered) → IsFree e → IsFree (others defs h t a zs from e)
  others_free true t a zs from e f =
      let own = Other t a from e.value ∷ Keep from (suc from) (e.free - suc from) ∷ [] in
      let turn = e.code ++ own in
      let turn_free : Free turn = free_join e.code own f.0 (λ b r h. (omega arith, (omega arith, tt))) in (
        λ b r h. within_join b r (Start from ∷ Next a from zs (suc (length turn)) ∷ turn) (Back (suc (length turn)) ∷ [])
            (omega arith, (omega arith, turn_free (suc (suc b)) _ (omega arith))) (omega arith, tt),
        λ b r h. within_join b r (Take from (suc from) (e.free - suc from) (suc (length e.drops)) ∷ e.drops)
            (Back (suc (length e.drops)) ∷ []) (omega arith, f.1 (suc b) _ (omega arith)) (omega arith, tt),
      )
  others_free false t a zs from e f =
      let turn = e.code ++ Other t a from e.value ∷ [] in
      let turn_free : Free turn = free_join e.code _ f.0 (λ b r h. (omega arith, tt)) in (
        λ b r h. within_join b r (Start from ∷ Next a from zs (suc (length turn)) ∷ turn) (Back (suc (length turn)) ∷ [])
            (omega arith, (omega arith, turn_free (suc (suc b)) _ (omega arith))) (omega arith, tt),
        λ b r h. tt,
      )

  mutual
    term_free : (lo : ℕ) (t : Term) → IsFree (lower defs lo t)
    term_free lo (Evaluated v) = (λ b r h. (omega arith, tt), λ b r h. tt)
    term_free lo (Node t o ts) = node_free (types_in defs ts) t o (lower_all defs lo ts) (terms_free lo ts)
    term_free lo (Lazy c l r) =
        let x = lower defs lo l in
        let y = lower defs (suc x.free) r in
        let f = term_free lo l in
        let g = term_free (suc x.free) r in
        let held = may_hold defs r in
        let skip = Skip c y.free (if held then Some x.free else None) x.value (suc (length y.code)) in (
          λ b n h. within_join b n (x.code ++ skip ∷ y.code) (Truth y.free y.value ∷ [])
              (within_join b _ x.code (skip ∷ y.code) (f.0 b _ (omega arith)) (omega arith, g.0 _ _ (omega arith))) (omega arith, tt),
          free_join x.drops _ f.1 (free_if held _ (λ b n h. (omega arith, g.1 (suc b) n h))),
        )
    term_free lo (Update o w t way ts us) =
        let x = lower_all defs lo ts in
        let y = lower_all defs (suc x.free) us in
        let f = terms_free lo ts in
        let g = terms_free (suc x.free) us in (
          free_join (x.code ++ Give t (tree.Read way) x.free x.values ∷ y.code) _
              (free_join x.code _ f.code (λ b r h. (omega arith, g.code (suc b) r h))) (λ b r h. (omega arith, (omega arith, tt))),
          free_join x.drops _ f.drops (free_join (drops_from x.free 0 (count_of defs t)) _ (free_drops x.free 0 (count_of defs t))
              (free_join y.drops _ g.drops (free_if (work_refers defs t (Operate o)) _ (free_drops y.free 0 (count_of defs t))))),
        )
    term_free lo (Fill t l is rest) =
        let n = lower defs lo l in
        let s = suc n.free in
        let from = max (items_end defs s is) (rest_end defs s rest) in
        let x = lower_items defs t n.free s from is in
        let y = lower_rest defs t n.free (named defs is) s x.free rest in
        let f = term_free lo l in
        let g = items_free t n.free s from is in
        let k = rest_free t n.free (named defs is) s x.free rest in (
          free_join (n.code ++ Give (ty.ArrayOf t) (Operate operation.NewArray) n.free (n.value ∷ []) ∷ x.code) y.code
              (free_join n.code _ f.0 (λ b r h. (omega arith, g.0 (suc b) r h))) k.0,
          free_join (n.drops ++ Drop n.free 0 ∷ x.drops) y.drops (free_join n.drops _ f.1 (λ b r h. (omega arith, g.1 (suc b) r h))) k.1,
        )
    term_free lo t = (λ b r h. tt, λ b r h. tt)

    terms_free : (lo : ℕ) (ts : Terms) → AreFree (lower_all defs lo ts)
    terms_free lo NoTerms = record { each = tt; code = λ b r h. tt; drops = λ b r h. tt }
    terms_free lo (MoreTerms t ts) =
        let x = lower defs lo t in
        let f = term_free lo t in
        let g = terms_free x.free ts in
        record {
          each = (f.0, g.each);
          code = free_join x.code _ f.0 g.code;
          drops = free_join x.drops _ f.1 g.drops;
        }

    items_free : (t : Ty) (a s lo : ℕ) (is : Items) → IsFree (lower_items defs t a s lo is)
    items_free t a s lo NoItems = (λ b r h. tt, λ b r h. tt)
    items_free t a s lo (MoreItems i e is) =
        let x = lower defs (if may_hold defs e then lo else s) e in
        let f = term_free (if may_hold defs e then lo else s) e in
        let g = items_free t a s (if may_hold defs e then x.free else lo) is in
        (free_join x.code _ f.0 (λ b r h. (omega arith, g.0 (suc b) r h)), free_join x.drops _ f.1 g.1)

    rest_free : (t : Ty) (a : ℕ) (zs : List ℤ) (s lo : ℕ) (ts : Terms) → IsFree (lower_rest defs t a zs s lo ts)
    rest_free t a zs s lo NoTerms = (λ b r h. tt, λ b r h. tt)
    rest_free t a zs s lo (MoreTerms e es) =
        others_free (may_hold defs e) t a zs lo _ (term_free (if may_hold defs e then suc lo else s) e)

-- ---- statements

-- The ways out of loops lead to one of so many instructions behind a block.
abbrev Fits : (behind : ℕ) → List Around → Type 0
Fits r around = (k : ℕ) → (leaves_at k around < r) × (turns_at k around < r)

further_at : (n k : ℕ) (around : List Around) → (leaves_at k (further n around) ≤ n + leaves_at k around)
    × (turns_at k (further n around) ≤ n + turns_at k around)
further_at n k [] = (omega arith, omega arith)
further_at n zero (a ∷ around) = (omega arith, omega arith)
further_at n (suc k) (a ∷ around) = further_at n k around

fits_further : (n r m : ℕ) (around : List Around) → n + r ≤ m → Fits r around → Fits m (further n around)
fits_further n r m around l f k = let a = f k in let b = further_at n k around in (omega arith, omega arith)

fits_in_loop : (behind rest r m : ℕ) (around : List Around) → behind + (rest + r) ≤ m → 0 < r → Fits r around
    → Fits m (in_loop behind rest around)
fits_in_loop behind rest r m around l p f zero = (omega arith, omega arith)
fits_in_loop behind rest r m around l p f (suc k) = fits_further (behind + rest) r m around (omega arith) f k

module _ (defs : List Def) where
  whole_free : (t : Term) → Free (whole defs t)
  whole_free t = let f = term_free defs 0 t in free_join (lower defs 0 t).code (lower defs 0 t).drops f.0 f.1

  whole_if_free : (t : Option Term) → Free (whole_if defs t)
  whole_if_free None = λ b r h. tt
  whole_if_free (Some t) = whole_free t

  test_within : (c : Option Term) (n b r : ℕ) → n < r → Within b r (test defs c n)
  test_within None n b r h = tt
  test_within (Some t) n b r h = within_join b r (whole defs t) _ (whole_free t b _ (omega arith)) (omega arith, tt)

  tested_within : (c : Option Term) (body next : List Instr) (b r : ℕ) → 0 < r → ((b' : ℕ) → Within b' (length next + suc r) body)
      → Free next → Within b r (loop_tested defs c body next)
  tested_within c body next b r l f g =
      let turn = body ++ next in
      let head = test defs c (suc (length turn)) in
      let tail = turn ++ Back (length head + length turn) ∷ [] in
      let long : length tail ≡ suc (length turn) = omega (arith, length-append turn (Back (length head + length turn) ∷ [])) in
      let e : length next + suc r ≡ length next + (1 + r) = omega arith in
      within_join b r head tail (test_within c (suc (length turn)) b (length tail + r) (omega arith))
      (within_join (b + length head) r turn _
      (within_join (b + length head) _ body next (subst (λ (n : ℕ). Within (b + length head) n body) e (f (b + length head)))
      (g (b + length head + length body) _ (omega arith))) (omega arith, tt))

  entered_within : (c : Option Term) (body next : List Instr) (b r : ℕ) → 0 < r
      → ((b' : ℕ) → Within b' (length next + (suc (length (test defs c 1)) + r)) body)
      → Free next → Within b r (loop_entered defs c body next)
  entered_within c body next b r l f g =
      let turn = body ++ next in
      let head = test defs c 1 in
      let tail = head ++ Back (length turn + length head) ∷ [] in
      let long : length tail ≡ suc (length head) = omega (arith, length-append head (Back (length turn + length head) ∷ [])) in
      let e : length next + (suc (length head) + r) ≡ length next + (length tail + r) = omega arith in
      within_join b r turn tail
      (within_join b _ body next (subst (λ (n : ℕ). Within b n body) e (f b)) (g (b + length body) _ (omega arith)))
      (within_join (b + length turn) r head _ (test_within c 1 (b + length turn) _ (omega arith)) (omega arith, tt))

  mutual
    stm_within : (around : List Around) (rest : ℕ) (s : Stm) (b r : ℕ) → 0 < r → Fits r around
        → Within b (rest + r) (stm_code defs around rest s)
    stm_within around rest Over b r l f = tt
    stm_within around rest (Eval t) b r l f = whole_free t b (rest + r) (omega arith)
    stm_within around rest (If t x y) b r l f =
        let other = block_code defs (further rest around) y in
        let first = block_code defs (further (suc (length other) + rest) around) x in
        let unless = Unless (lower defs 0 t).value (suc (length first)) in
        let e : suc (length other) + rest + r ≡ length (Jump (length other) ∷ other) + (rest + r) = omega arith in
        within_join b (rest + r) (whole defs t ++ unless ∷ first) (Jump (length other) ∷ other)
        (within_join b _ (whole defs t) (unless ∷ first) (whole_free t b _ (omega arith)) (
          omega arith,
          block_within (further (suc (length other) + rest) around) x _ _ (omega arith)
              (fits_further (suc (length other) + rest) r _ around (omega arith) f),
        )) (
          omega arith,
          block_within (further rest around) y _ (rest + r) (omega arith) (fits_further rest r (rest + r) around (omega arith) f),
        )
    stm_within around rest (While t k) b r l f = tested around rest k b r l f
    stm_within around rest (Enter k) b r l f = entered around rest k b r l f
    stm_within around rest (Break n) b r l f = let a = (f n).0 in (omega arith, tt)
    stm_within around rest (Continue n) b r l f = let a = (f n).1 in (omega arith, tt)
    stm_within around rest (tree.Return t) b r l f =
        within_join b (rest + r) (lower defs 0 t).code _ ((term_free defs 0 t).0 b _ (omega arith)) (tt, tt)
    stm_within around rest tree.Leave b r l f = (tt, tt)

    tested : (around : List Around) (rest : ℕ) (k : Loop) (b r : ℕ) → 0 < r → Fits r around
        → Within b (rest + r) (loop_code_tested defs around rest k)
    tested around rest (Looping c n body) b r l f =
        let next = whole_if defs n in
        tested_within c (block_code defs (in_loop (suc (length next)) rest around) body) next b (rest + r) (omega arith)
        (λ b'. block_within (in_loop (suc (length next)) rest around) body b' (length next + suc (rest + r)) (omega arith)
        (fits_in_loop (suc (length next)) rest r _ around (omega arith) l f)) (whole_if_free n)

    entered : (around : List Around) (rest : ℕ) (k : Loop) (b r : ℕ) → 0 < r → Fits r around
        → Within b (rest + r) (loop_code_entered defs around rest k)
    entered around rest (Looping c n body) b r l f =
        let next = whole_if defs n in
        let behind = length next + suc (length (test defs c 1)) in
        entered_within c (block_code defs (in_loop behind rest around) body) next b (rest + r) (omega arith)
        (λ b'. block_within (in_loop behind rest around) body b' (length next + (suc (length (test defs c 1)) + (rest + r))) (omega arith)
        (fits_in_loop behind rest r _ around (omega arith) l f)) (whole_if_free n)

    block_within : (around : List Around) (x : Block) (b r : ℕ) → 0 < r → Fits r around → Within b r (block_code defs around x)
    block_within around Done b r l f = tt
    block_within around (Then s x) b r l f =
        let rest = block_code defs around x in
        within_join b r (stm_code defs around (length rest) s) rest (stm_within around (length rest) s b r l f)
        (block_within around x (b + length (stm_code defs around (length rest) s)) r l f)
    block_within around (Turn k x) b r l f = block_within around x b r l f
    block_within around (Again k x) b r l f = block_within around x b r l f

  function_within : (r : Routine) → Within 0 0 (function_of defs r).code
  function_within r =
      within_join 0 0 (block_code defs [] r.body) (Return None ∷ [])
      (block_within [] r.body 0 _ (omega arith) (λ k. (omega arith, omega arith))) (tt, tt)

-- ---- by places

record At (is : List Instr) (b r k : ℕ) (i : Instr) : Type 0 where
  behind : ℕ
  leads : Leads (b + k) behind i
  all : suc k + behind ≡ length is + r

at : (is : List Instr) (b r k : ℕ) (i : Instr) → Within b r is → slice_get is k ≡ Some i → At is b r k i
at [] b r k i h e = absurd cc
at (j ∷ is) b r zero i h e =
    let f : j ≡ i = cc in
    let g : b ≡ b + 0 = omega arith in
    record {
      behind = length is + r;
      leads = subst (λ (n : ℕ). Leads n (length is + r) i) g (subst (λ (z : Instr). Leads b (length is + r) z) f h.0);
      all = omega arith;
    }
at (j ∷ is) b r (suc k) i h e =
    let a = at is (suc b) r k i h.1 e in
    let g : suc b + k ≡ b + suc k = omega arith in
    record { behind = a.behind; leads = subst (λ (n : ℕ). Leads n a.behind i) g a.leads; all = let f = a.all in omega arith }

all_one : (P : ℕ → Type 0) (x : ℕ) → P x → All P (x ∷ [])
all_one P x p zero d l = p
all_one P x p (suc k) d l = absurd (omega arith)

all_two : (P : ℕ → Type 0) (x y : ℕ) → P x → P y → All P (x ∷ y ∷ [])
all_two P x y p q zero d l = p
all_two P x y p q (suc zero) d l = q
all_two P x y p q (suc (suc k)) d l = absurd (omega arith)

inside : (n pc r : ℕ) (i : Instr) → Leads pc r i → suc pc + r ≡ n → All (λ to. to < n) (leads_to pc i)
inside n pc r (Skip c into d from k) h e = all_two (λ to. to < n) _ _ (omega arith) (omega arith)
inside n pc r (Next a loop zs k) h e = all_two (λ to. to < n) _ _ (omega arith) (omega arith)
inside n pc r (Take loop from words k) h e = all_two (λ to. to < n) _ _ (omega arith) (omega arith)
inside n pc r (Mirror d k) h e = all_two (λ to. to < n) _ _ (omega arith) (omega arith)
inside n pc r (Unless s k) h e = all_two (λ to. to < n) _ _ (omega arith) (omega arith)
inside n pc r (Jump k) h e = all_one (λ to. to < n) _ (omega arith)
inside n pc r (Back k) h e = all_one (λ to. to < n) _ (omega arith)
inside n pc r (Return from) h e = λ k d l. absurd (omega arith)
inside n pc r i h e = all_one (λ to. to < n) _ (omega arith)

closed : (is : List Instr) → 0 < length is → Within 0 0 is → IsClosed is
closed is l h = record {
  begins = l;
  inside = λ pc i e. let a = at is 0 0 pc i h e in let z : 0 + pc ≡ pc = omega arith in inside (length is) pc a.behind i
      (subst (λ (n : ℕ). Leads n a.behind i) z a.leads) (let f = a.all in omega arith);
  back = λ pc n e. let a = at is 0 0 pc (Back n) h e in let l : n ≤ 0 + pc = a.leads in omega arith;
}

pub functions_are_closed : FunctionsAreClosed
functions_are_closed defs r =
    closed (function_of defs r).code (omega (arith, length-append (block_code defs [] r.body) (Return None ∷ []))) (function_within defs r)
