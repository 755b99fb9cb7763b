-- In the code of functions a slot that gets a value is none of those that the instruction reads: a node's slot stands behind its operands'.
use Rattle.std.proofs.Common.{◌≡◌, ◌≢◌, ℕ, ℤ, zero, suc, ◌+◌, ◌-◌, ◌<◌, ◌≤◌, Bool, true, false, List, [], ◌∷◌, ◌++◌, length, max}
use Rattle.std.proofs.Common.{Option, Some, None, sym, subst, arith}
use Rattle.std.proofs.lemmas.List.{reverse-append}
use Rattle.std.specs.Prelude.{slice_get, drop, reverse, nat_eq, if◌then◌else◌}
use Rattle.limbo_types.specs.Types as ty
use Rattle.limbo_types.specs.Types.{Ty}
use Rattle.limbo_types.specs.View.{tys_of}
use Rattle.limbo_layout.specs.Adts.{Def}
use Rattle.limbo_layout.specs.Laying.{AllBelow}
use Rattle.limbo_typed.specs.declared.operation.Operation.{Operation}
use Rattle.limbo_typed.specs.declared.operation.Operation.TheVariants as operation
use Rattle.limbo_typed.specs.declared.operation.Given.{Given}
use Rattle.limbo_typed.specs.declared.operation.Given.TheVariants as given
use Rattle.limbo_meaning.specs.Trees as tree
use Rattle.limbo_meaning.specs.Trees.{Aim, Work, Operate, Term, Evaluated, Node, Lazy, Update, Fill, Terms, NoTerms, MoreTerms}
use Rattle.limbo_meaning.specs.Trees.{Items, NoItems, MoreItems}
use Rattle.limbo_meaning.specs.Trees.{Stm, Over, Eval, If, While, Enter, Break, Continue, Loop, Looping, Block, Done, Then, Turn, Again}
use Rattle.limbo_meaning.specs.Evaluation.{passes_on, may_hold, work_refers, operands_for}
use Rattle.limbo_meaning.specs.Places.{operands_of}
use Rattle.limbo_meaning.specs.Operations.{item_of}
use Rattle.limbo_meaning.specs.Program.{routine_of}
use Rattle.core_code.specs.Code.{Instr, Give, Write, Skip, Truth, Element, Next, Other}
use Rattle.core_code.specs.Code.{Start, Keep, Take, Drop, Mirror, Unless, Jump, Back, Return}
use Rattle.core_code.specs.Terms.{Lowered, LoweredAll, Moved, is_moved, drop_after, drops_after, drops_after_all, drops_from, drops_if}
use Rattle.core_code.specs.Terms.{count_of, gives, gathers, writes, cells, list_code, cell_drops, slot_at, moves_out, first_of, types_in, given_slot}
use Rattle.core_code.specs.Terms.{node, others, lower, lower_all, lower_items, lower_rest, named, items_end, rest_end, part_types, part_numbers}
use Rattle.core_code.specs.Terms.{numbers_from, moves_into, placed, variant_of, together, together_drops, value_slot, operands_slot}
use Rattle.core_code.specs.Statements.{Around, further, in_loop, whole, whole_if, test, loop_tested, loop_entered}
use Rattle.core_code.specs.Statements.{stm_code, loop_code_tested, loop_code_entered, block_code, function_of}
use Rattle.core_code.proofs.Used.{either_up, term_up, terms_up, items_up, rest_up, end_up}
use Rattle.rows_boxes.specs.Differing.{Apart, DiffersFrom, DiffersIf, SlotsDiffer}
use Rattle.rows_boxes.proofs.Shapes.{IsSome, Needs, Shaped, AllShaped, ItemsShaped, ShapedIf, StmShaped, LoopShaped, BlockShaped, routines_shaped}

abbrev AllApart : List Instr → Type 0
AllApart [] = Unit {0}
AllApart (i ∷ is) = Apart i × AllApart is

joined : (xs ys : List Instr) → AllApart xs → AllApart ys → AllApart (xs ++ ys)
joined [] ys h k = k
joined (x ∷ xs) ys h k = (h.0, joined xs ys h.1 k)

-- ---- numbers of slots

behind_is : (n d : ℕ) → d < n → n ≢ d
behind_is n d l e = omega arith

front_is : (n d : ℕ) → n < d → n ≢ d
front_is n d l e = omega arith

differs_below : (n : ℕ) (ss : List ℕ) → AllBelow n ss → DiffersFrom n ss
differs_below n [] h = tt
differs_below n (s ∷ ss) h = (behind_is n s h.0, differs_below n ss h.1)

further_below : (n k : ℕ) (ss : List ℕ) → n ≤ k → AllBelow n ss → AllBelow k ss
further_below n k [] l h = tt
further_below n k (s ∷ ss) l h = let a = h.0 in ((omega arith), further_below n k ss l h.1)

below_at : (n k : ℕ) (ss : List ℕ) → 0 < n → AllBelow n ss → slot_at k ss < n
below_at n k [] p h = p
below_at n zero (s ∷ ss) p h = h.0
below_at n (suc k) (s ∷ ss) p h = below_at n k ss p h.1

below_join : (n : ℕ) (xs ys : List ℕ) → AllBelow n xs → AllBelow n ys → AllBelow n (xs ++ ys)
below_join n [] ys h k = k
below_join n (x ∷ xs) ys h k = (h.0, below_join n xs ys h.1 k)

below_reverse : (n : ℕ) (ss : List ℕ) → AllBelow n ss → AllBelow n (reverse ss)
below_reverse n [] h = tt
below_reverse n (s ∷ ss) h =
    subst (λ (xs : List ℕ). AllBelow n xs) (sym (reverse-append (s ∷ []) ss))
    (below_join n (reverse ss) (s ∷ []) (below_reverse n ss h.1) (h.0, tt))

-- ---- drops

apart_drops : (s k count : ℕ) → AllApart (drops_from s k count)
apart_drops s k zero = tt
apart_drops s k (suc count) = (tt, apart_drops s (suc k) count)

apart_if : (h : Bool) (is : List Instr) → AllApart is → AllApart (drops_if h is)
apart_if true is u = u
apart_if false is u = tt

apart_either : (h : Bool) (i j : Instr) → Apart i → Apart j → Apart (if h then i else j)
apart_either true i j u v = u
apart_either false i j u v = v

apart_after : (v : Moved) (i : Instr) → Apart i → Apart (drop_after v i)
apart_after v (Drop s k) u = apart_either (is_moved v s k) _ _ tt tt
apart_after v i u = u

all_after : (v : Moved) (is : List Instr) → AllApart is → AllApart (drops_after v is)
all_after v [] u = tt
all_after v (i ∷ is) u = (apart_after v i u.0, all_after v is u.1)

all_after_all : (vs : List Moved) (is : List Instr) → AllApart is → AllApart (drops_after_all vs is)
all_after_all [] is u = u
all_after_all (v ∷ vs) is u = all_after_all vs (drops_after v is) (all_after v is u)

-- ---- expressions

-- The code and the drops are so, and the value's slot is one of those that are used.
record Fine (l : Lowered) : Type 0 where
  code : AllApart l.code
  drops : AllApart l.drops
  value : l.value < l.free

abbrev EachApart : List (List Instr) → Type 0
EachApart [] = Unit {0}
EachApart (c ∷ cs) = AllApart c × EachApart cs

record AllFine (l : LoweredAll) : Type 0 where
  each : EachApart l.each
  code : AllApart l.code
  drops : AllApart l.drops
  values : AllBelow l.free l.values

module _ (defs : List Def) where
  gives_fine : (t : Ty) (o : Work) (l : LoweredAll) → AllFine l → Fine (gives defs t o l)
  gives_fine t o l f = record {
    code = joined l.code _ f.code (differs_below l.free l.values f.values, tt);
    drops = joined l.drops _ f.drops (apart_if (work_refers defs t o) _ (apart_drops l.free 0 (count_of defs t)));
    value = omega arith;
  }

  -- operands stand in slots below the one in which they are put together
  apart_placed : (t : Ty) (v : Option ℕ) (into k : ℕ) (ks : List ℕ) (cs : List (List Instr)) (ss : List ℕ) → EachApart cs → AllBelow into ss
      → AllApart (placed defs t v into k ks cs ss)
  apart_placed t v into k (j ∷ ks) (c ∷ cs) (s ∷ ss) f h =
      joined c _ f.0 (behind_is into s h.0, apart_placed t v into (suc k) ks cs ss f.1 h.1)
  apart_placed t v into k ks cs ss f h = tt

  gathers_fine : (t : Ty) (o : Operation) (l : LoweredAll) → AllFine l → Fine (gathers defs t o l)
  gathers_fine t o l f = record {
    code = joined (placed defs t (variant_of defs o) l.free 0 (part_numbers defs o (length l.values)) l.each l.values) _
        (apart_placed t (variant_of defs o) l.free 0 (part_numbers defs o (length l.values)) l.each l.values f.each f.values) (tt, tt);
    drops = all_after_all (moves_into defs (part_types defs t) l.free (part_numbers defs o (length l.values)) l.values) l.drops f.drops;
    value = omega arith;
  }

  apart_together : (front us : List Ty) (l : LoweredAll) → AllFine l → AllApart (together defs front us l)
  apart_together front us l f =
      apart_placed (ty.Tuple (tys_of (front ++ us))) None l.free 0 (numbers_from defs (length front) (length l.values)) l.each l.values f.each f.values

  apart_together_drops : (front us : List Ty) (l : LoweredAll) → AllFine l → AllApart (together_drops defs front us l)
  apart_together_drops front us l f =
      all_after_all (moves_into defs (front ++ us) l.free (numbers_from defs (length front) (length l.values)) l.values) l.drops f.drops

  -- a value's slot stands behind the one of the operands, where there are any
  behind_operands : (b : Bool) (s : ℕ) → DiffersIf (if b then s else suc s) (if b then None else Some s)
  behind_operands true s = tt
  behind_operands false s = λ e. omega arith

  apart_operands : (l : LoweredAll) → DiffersIf (value_slot defs l) (operands_slot defs l)
  apart_operands l = behind_operands (nat_eq (length l.values) 0) l.free

  apart_writes : (aims : List Aim) (ss : List ℕ) (v : ℕ) → AllApart (writes defs aims ss v)
  apart_writes [] ss v = tt
  apart_writes (a ∷ aims) ss v = (tt, apart_writes aims (drop (operands_of a.way) ss) v)

  apart_behind : (t : Ty) (ss : List ℕ) (behind free : ℕ) → behind < free → AllBelow free ss → AllApart (cells defs t ss (Some behind) free)
  apart_behind t [] behind free l h = tt
  apart_behind t (s ∷ ss) behind free l h =
      ((behind_is free s h.0, behind_is free behind l), apart_behind t ss free (suc free) (omega arith) (further_below free (suc free) ss (omega arith) h.1))

  apart_cells : (t : Ty) (ss : List ℕ) (free : ℕ) → AllBelow free ss → AllApart (cells defs t ss None free)
  apart_cells t [] free h = tt
  apart_cells t (s ∷ ss) free h =
      ((behind_is free s h.0, tt), apart_behind t ss free (suc free) (omega arith) (further_below free (suc free) ss (omega arith) h.1))

  apart_list : (t : Ty) (ss : List ℕ) (free : ℕ) → AllBelow free ss → AllApart (list_code defs t ss free)
  apart_list t [] free h = (tt, tt)
  apart_list t (s ∷ ss) free h = apart_cells t (reverse (s ∷ ss)) free (below_reverse free (s ∷ ss) h)

  apart_cell_drops : (count free : ℕ) → AllApart (cell_drops defs count free)
  apart_cell_drops zero free = tt
  apart_cell_drops (suc count) free = (tt, apart_cell_drops count (suc free))

  some_used : (lo n : ℕ) (ts : Terms) → IsSome ts → AllBelow n (lower_all defs lo ts).values → 0 < n
  some_used lo n NoTerms s h = elim s [ ]
  some_used lo n (MoreTerms t ts) s h = let a = h.0 in omega arith

  node_fine : (us : List Ty) (t : Ty) (o : Work) (lo : ℕ) (ts : Terms) → Needs o ts → AllFine (lower_all defs lo ts)
      → Fine (node defs us t o (lower_all defs lo ts))
  node_fine us t (Operate o) lo ts s f = go (passes_on o)
    where
      go : (h : Bool) → Fine (if h then gathers defs t o (lower_all defs lo ts) else gives defs t (Operate o) (lower_all defs lo ts))
      go true = gathers_fine t o (lower_all defs lo ts) f
      go false = gives_fine t (Operate o) (lower_all defs lo ts) f
  node_fine us t (tree.Assign aims) lo ts s f = let l = lower_all defs lo ts in record {
    code = joined l.code _ f.code (apart_writes aims l.values (slot_at (operands_for aims) l.values));
    drops = f.drops;
    value = below_at l.free (operands_for aims) l.values (some_used lo l.free ts s f.values) f.values;
  }
  node_fine us t (tree.TakePart k) lo ts s f = let l = lower_all defs lo ts in record {
    code = joined l.code _ f.code
        (behind_is l.free (slot_at 0 l.values) (below_at l.free 0 l.values (some_used lo l.free ts s f.values) f.values), tt);
    drops = all_after (moves_out defs (first_of defs us) k (slot_at 0 l.values) l.free) l.drops f.drops;
    value = omega arith;
  }
  node_fine us t tree.Copy lo ts s f = let l = lower_all defs lo ts in record {
    code = joined l.code _ f.code (tt, tt);
    drops = f.drops;
    value = below_at l.free 2 l.values (some_used lo l.free ts s f.values) f.values;
  }
  node_fine us t tree.Link lo ts s f = let l = lower_all defs lo ts in record {
    code = joined l.code _ f.code (apart_list (item_of t) l.values l.free f.values);
    drops = joined l.drops _ f.drops (apart_cell_drops (length l.values) l.free);
    value = omega arith;
  }
  node_fine us t (tree.Call k) lo ts s f = let l = lower_all defs lo ts in record {
    code = joined (together defs [] us l) _ (apart_together [] us l f) (apart_operands l, tt);
    drops = joined (together_drops defs [] us l) _ (apart_together_drops [] us l f) (apart_drops (value_slot defs l) 0 (count_of defs t));
    value = omega arith;
  }
  node_fine us t (tree.Print ps) lo ts s f = let l = lower_all defs lo ts in record {
    code = joined (together defs (ty.Chars ∷ []) us l) _ (apart_together (ty.Chars ∷ []) us l f) (apart_operands l, tt);
    drops = apart_together_drops (ty.Chars ∷ []) us l f;
    value = omega arith;
  }
  node_fine us t tree.NewChannel lo ts s f = let l = lower_all defs lo ts in record {
    code = joined l.code _ f.code (tt, tt);
    drops = joined l.drops _ f.drops (tt, tt);
    value = omega arith;
  }
  node_fine us t (tree.Literal c) lo ts s f = gives_fine t (tree.Literal c) (lower_all defs lo ts) f
  node_fine us t tree.Nil lo ts s f = gives_fine t tree.Nil (lower_all defs lo ts) f
  node_fine us t (tree.Read w) lo ts s f = gives_fine t (tree.Read w) (lower_all defs lo ts) f
  node_fine us t (tree.Sprint ps) lo ts s f = gives_fine t (tree.Sprint ps) (lower_all defs lo ts) f

  others_fine : (h : Bool) (t : Ty) (a : ℕ) (zs : List ℤ) (lo s : ℕ) (e : Term) → a < lo → suc lo ≤ (lower defs (suc lo) e).free
      → ((from : ℕ) → Fine (lower defs from e)) → Fine (others defs h t a zs lo (lower defs (if h then suc lo else s) e))
  others_fine true t a zs lo s e p u f =
      let x = lower defs (suc lo) e in
      let g = f (suc lo) in
      let own = Other t a lo x.value ∷ Keep lo (suc lo) (x.free - suc lo) ∷ [] in
      let turn = x.code ++ own in
      record {
        code = joined (Start lo ∷ Next a lo zs (suc (length turn)) ∷ turn) (Back (suc (length turn)) ∷ [])
            (tt, (tt, joined x.code own g.code (tt, (omega arith, tt)))) (tt, tt);
        drops = joined (Take lo (suc lo) (x.free - suc lo) (suc (length x.drops)) ∷ x.drops)
            (Back (suc (length x.drops)) ∷ []) (omega arith, g.drops) (tt, tt);
        value = omega arith;
      }
  others_fine false t a zs lo s e p u f =
      let x = lower defs s e in
      let g = f s in
      let own = Other t a lo x.value ∷ [] in
      let turn = x.code ++ own in
      record {
        code = joined (Start lo ∷ Next a lo zs (suc (length turn)) ∷ turn) (Back (suc (length turn)) ∷ [])
            (tt, (tt, joined x.code own g.code (tt, tt))) (tt, tt);
        drops = tt;
        value = omega arith;
      }

  given_fine : (n : ℕ) (g : Given) (old new : ℕ) → old < n → new < n → given_slot defs g old new < n
  given_fine n given.Old old new l k = l
  given_fine n given.New old new l k = k

  decided : (h : Bool) (n s : ℕ) → s < n → DiffersIf n (if h then Some s else None)
  decided true n s l = behind_is n s l
  decided false n s l = tt

  undecided : (h : Bool) (n s : ℕ) → n < s → DiffersIf n (if h then Some s else None)
  undecided true n s l = front_is n s l
  undecided false n s l = tt

  mutual
    term_fine : (lo : ℕ) (t : Term) → Shaped t → Fine (lower defs lo t)
    term_fine lo (Evaluated v) s = record { code = (tt, tt); drops = tt; value = omega arith }
    term_fine lo (Node t o ts) s = node_fine (types_in defs ts) t o lo ts s.0 (terms_fine lo ts s.1)
    term_fine lo (Lazy c l r) s =
        let x = lower defs lo l in
        let y = lower defs (suc x.free) r in
        let u = term_up defs (suc x.free) r in
        let f = term_fine lo l s.0 in
        let g = term_fine (suc x.free) r s.1 in
        let held = may_hold defs r in
        let skip = Skip c y.free (if held then Some x.free else None) x.value (suc (length y.code)) in
        let known = f.value in
        record {
          code = joined (x.code ++ skip ∷ y.code) (Truth y.free y.value ∷ [])
              (joined x.code (skip ∷ y.code) f.code
              ((behind_is y.free x.value (omega arith), decided held y.free x.free (omega arith), undecided held x.value x.free known), g.code))
              (behind_is y.free y.value g.value, tt);
          drops = joined x.drops _ f.drops (apart_if held (Mirror x.free (length y.drops) ∷ y.drops) (tt, g.drops));
          value = omega arith;
        }
    term_fine lo (Update o w t way ts us) s =
        let x = lower_all defs lo ts in
        let y = lower_all defs (suc x.free) us in
        let u = terms_up defs (suc x.free) us in
        let f = terms_fine lo ts s.0 in
        let g = terms_fine (suc x.free) us s.1 in
        let read = Give t (tree.Read way) x.free x.values in
        record {
          code = joined (x.code ++ read ∷ y.code) (Give t (Operate o) y.free (x.free ∷ y.values) ∷ Write t way x.values [] y.free ∷ [])
              (joined x.code (read ∷ y.code) f.code (differs_below x.free x.values f.values, g.code))
              ((behind_is y.free x.free (omega arith), differs_below y.free y.values g.values), (tt, tt));
          drops = joined x.drops _ f.drops
              (joined (drops_from x.free 0 (count_of defs t)) _ (apart_drops x.free 0 (count_of defs t))
              (joined y.drops _ g.drops (apart_if (work_refers defs t (Operate o)) _ (apart_drops y.free 0 (count_of defs t)))));
          value = given_fine (suc y.free) w x.free y.free (omega arith) (omega arith);
        }
    term_fine lo (Fill t l is rest) s =
        let m = lower defs lo l in
        let shared = suc m.free in
        let from = max (items_end defs shared is) (rest_end defs shared rest) in
        let x = lower_items defs t m.free shared from is in
        let y = lower_rest defs t m.free (named defs is) shared x.free rest in
        let a = end_up defs shared is in
        let b = items_up defs t m.free shared from is in
        let c = rest_up defs t m.free (named defs is) shared x.free rest in
        let f = term_fine lo l s.0 in
        let g = items_fine t m.free shared from is (omega arith) s.1 in
        let k = rest_fine t m.free (named defs is) shared x.free rest (omega arith) s.2 in
        let new = Give (ty.ArrayOf t) (Operate operation.NewArray) m.free (m.value ∷ []) in
        record {
          code = joined (m.code ++ new ∷ x.code) y.code
              (joined m.code (new ∷ x.code) f.code ((behind_is m.free m.value f.value, tt), g.code)) k.code;
          drops = joined (m.drops ++ Drop m.free 0 ∷ x.drops) y.drops
              (joined m.drops (Drop m.free 0 ∷ x.drops) f.drops (tt, g.drops)) k.drops;
          value = omega arith;
        }
    term_fine lo t s = record { code = tt; drops = tt; value = omega arith }

    terms_fine : (lo : ℕ) (ts : Terms) → AllShaped ts → AllFine (lower_all defs lo ts)
    terms_fine lo NoTerms s = record { each = tt; code = tt; drops = tt; values = tt }
    terms_fine lo (MoreTerms t ts) s =
        let x = lower defs lo t in
        let u = terms_up defs x.free ts in
        let f = term_fine lo t s.0 in
        let g = terms_fine x.free ts s.1 in
        let own = f.value in
        record {
          each = (f.code, g.each);
          code = joined x.code _ f.code g.code;
          drops = joined x.drops _ f.drops g.drops;
          values = (omega arith, g.values);
        }

    items_fine : (t : Ty) (a s lo : ℕ) (is : Items) → a < lo → ItemsShaped is → Fine (lower_items defs t a s lo is)
    items_fine t a s lo NoItems l h = record { code = tt; drops = tt; value = l }
    items_fine t a s lo (MoreItems i e is) l h =
        let from = if may_hold defs e then lo else s in
        let x = lower defs from e in
        let behind = if may_hold defs e then x.free else lo in
        let y = lower_items defs t a s behind is in
        let u = items_up defs t a s behind is in
        let v = either_up defs (may_hold defs e) lo s e (term_up defs lo e) in
        let f = term_fine from e h.0 in
        let g = items_fine t a s behind is (omega arith) h.1 in
        record {
          code = joined x.code (Element t a i x.value ∷ y.code) f.code (tt, g.code);
          drops = joined x.drops y.drops f.drops g.drops;
          value = omega arith;
        }

    rest_fine : (t : Ty) (a : ℕ) (zs : List ℤ) (s lo : ℕ) (ts : Terms) → a < lo → AllShaped ts → Fine (lower_rest defs t a zs s lo ts)
    rest_fine t a zs s lo NoTerms l h = record { code = tt; drops = tt; value = l }
    rest_fine t a zs s lo (MoreTerms e es) l h =
        others_fine (may_hold defs e) t a zs lo s e l (term_up defs (suc lo) e) (λ from. term_fine from e h.0)

-- ---- statements

module _ (defs : List Def) where
  whole_apart : (t : Term) → Shaped t → AllApart (whole defs t)
  whole_apart t s = let f = term_fine defs 0 t s in joined (lower defs 0 t).code _ f.code f.drops

  whole_if_apart : (t : Option Term) → ShapedIf t → AllApart (whole_if defs t)
  whole_if_apart None s = tt
  whole_if_apart (Some t) s = whole_apart t s

  test_apart : (c : Option Term) (passes : ℕ) → ShapedIf c → AllApart (test defs c passes)
  test_apart None passes s = tt
  test_apart (Some t) passes s = joined (whole defs t) _ (whole_apart t s) (tt, tt)

  tested_apart : (c : Option Term) (body next : List Instr) → ShapedIf c → AllApart body → AllApart next → AllApart (loop_tested defs c body next)
  tested_apart c body next s f g =
      joined (test defs c (suc (length (body ++ next)))) _ (test_apart c (suc (length (body ++ next))) s)
      (joined (body ++ next) _ (joined body next f g) (tt, tt))

  entered_apart : (c : Option Term) (body next : List Instr) → ShapedIf c → AllApart body → AllApart next
      → AllApart (loop_entered defs c body next)
  entered_apart c body next s f g =
      joined (body ++ next) _ (joined body next f g) (joined (test defs c 1) _ (test_apart c 1 s) (tt, tt))

  mutual
    stm_apart : (around : List Around) (rest : ℕ) (s : Stm) → StmShaped s → AllApart (stm_code defs around rest s)
    stm_apart around rest Over q = tt
    stm_apart around rest (Eval t) q = whole_apart t q
    stm_apart around rest (If t x y) q =
        let other = block_code defs (further rest around) y in
        let first = block_code defs (further (suc (length other) + rest) around) x in
        let unless = Unless (lower defs 0 t).value (suc (length first)) in
        joined (whole defs t ++ unless ∷ first) (Jump (length other) ∷ other)
        (joined (whole defs t) (unless ∷ first) (whole_apart t q.0)
        (tt, block_apart (further (suc (length other) + rest) around) x q.1))
        (tt, block_apart (further rest around) y q.2)
    stm_apart around rest (While t k) q = tested_loop around rest k q
    stm_apart around rest (Enter k) q = entered_loop around rest k q
    stm_apart around rest (Break k) q = (tt, tt)
    stm_apart around rest (Continue k) q = (tt, tt)
    stm_apart around rest (tree.Return t) q = let f = term_fine defs 0 t q in joined (lower defs 0 t).code _ f.code (tt, tt)
    stm_apart around rest tree.Leave q = (tt, tt)

    tested_loop : (around : List Around) (rest : ℕ) (k : Loop) → LoopShaped k → AllApart (loop_code_tested defs around rest k)
    tested_loop around rest (Looping c next body) q =
        let behind = suc (length (whole_if defs next)) in
        tested_apart c _ (whole_if defs next) q.0 (block_apart (in_loop behind rest around) body q.2) (whole_if_apart next q.1)

    entered_loop : (around : List Around) (rest : ℕ) (k : Loop) → LoopShaped k → AllApart (loop_code_entered defs around rest k)
    entered_loop around rest (Looping c next body) q =
        let behind = length (whole_if defs next) + suc (length (test defs c 1)) in
        entered_apart c _ (whole_if defs next) q.0 (block_apart (in_loop behind rest around) body q.2) (whole_if_apart next q.1)

    block_apart : (around : List Around) (x : Block) → BlockShaped x → AllApart (block_code defs around x)
    block_apart around Done q = tt
    block_apart around (Then s x) q =
        let rest = block_code defs around x in
        joined (stm_code defs around (length rest) s) rest (stm_apart around (length rest) s q.0) (block_apart around x q.1)
    block_apart around (Turn k x) q = block_apart around x q
    block_apart around (Again k x) q = block_apart around x q

apart_at : (is : List Instr) (pc : ℕ) (i : Instr) → AllApart is → slice_get is pc ≡ Some i → Apart i
apart_at [] pc i h e = absurd cc
apart_at (j ∷ is) zero i h e = let f : j ≡ i = cc in subst (λ (z : Instr). Apart z) f h.0
apart_at (j ∷ is) (suc pc) i h e = apart_at is pc i h.1 e

pub slots_differ : SlotsDiffer
slots_differ m f pc i e =
    let r = routine_of f in
    apart_at (function_of m.adts r).code pc i
    (joined (block_code m.adts [] r.body) (Return None ∷ []) (block_apart m.adts [] r.body (routines_shaped f)) (tt, tt)) e
