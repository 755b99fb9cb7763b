-- The data of a sound module's code suit: bigs are in their range, and types of which the zero is read have layouts.
use Rattle.std.proofs.Common.{◌≡◌, ℕ, ℤ, zero, suc, ◌+◌, ◌-◌, Bool, true, false, List, [], ◌∷◌, ◌++◌, map, take, drop, reverse, length, Option}
use Rattle.std.proofs.Common.{Some, None, refl, sym, ap, subst, inl, inr, if◌then◌else◌}
use Rattle.std.specs.Prelude.{slice_get}
use Rattle.limbo_types.specs.Types as ty
use Rattle.limbo_types.specs.Types.{Ty}
use Rattle.limbo_types.specs.View.{tys_of}
use Rattle.limbo_layout.specs.Adts.{Def}
use Rattle.limbo_layout.specs.Layout.{is_alone, number}
use Rattle.limbo_values.specs.declared.number.Kind.TheVariants as kind
use Rattle.limbo_values.specs.Numbers.{InRange}
use Rattle.limbo_typed.specs.declared.operation.Operation.{Operation}
use Rattle.limbo_typed.specs.declared.operation.Operation.TheVariants as operation
use Rattle.limbo_typed.specs.declared.stmt.Constant.{Constant}
use Rattle.limbo_typed.specs.declared.stmt.Constant.TheVariants as constant
use Rattle.limbo_typed.specs.Fitting.{IsConstant}
use Rattle.limbo_typed.specs.Sound.{Each}
use Rattle.limbo_typed.specs.Typed as typed
use Rattle.limbo_meaning.specs.Places.{Way, operands_of}
use Rattle.limbo_meaning.specs.Evaluation.{passes_on, may_hold, work_refers, operands_for}
use Rattle.limbo_meaning.specs.Trees as tree
use Rattle.limbo_meaning.specs.Trees.{Aim, Work, Operate, Term, Evaluated, Node, Lazy, Update, Fill, Terms, NoTerms, MoreTerms}
use Rattle.limbo_meaning.specs.Trees.{Items, NoItems, MoreItems, Stm, Over, Eval, If, While, Enter, Break, Continue, Loop, Looping, Block}
use Rattle.limbo_meaning.specs.Trees.{Done, Then, Turn, Again}
use Rattle.limbo_meaning.specs.Program.{Routine, routine_of}
use Rattle.limbo_kept.specs.Operating.{HasRoom}
use Rattle.limbo_kept.specs.Places.{Leads, Ends}
use Rattle.limbo_kept.specs.Permitting.{Anything}
use Rattle.limbo_kept.specs.Trees.{Scope, WayIs, AimsAre, DeclaresAll, WorkIs, DeclaresFor, TermIs, TermsAre, ItemsAre, RestIs}
use Rattle.limbo_kept.specs.Processes.{TermIfAny, TestIs, StmIs, BlockIs, scope_of, RoutineIs}
use Rattle.limbo_kept.specs.Modules.{outline_of, signature_of}
use Rattle.limbo_kept.proofs.Fitted.{room_of_part}
use Rattle.limbo_kept.proofs.Opening.{modules_keep_types}
use Rattle.core_code.specs.Code.{Instr, Give, Place, Gather, Pick, Known, Write, CopyInto, Call, Print, Skip, Truth, Element}
use Rattle.core_code.specs.Code.{Next, Other, Keep, Drop, Mirror, Unless, Jump, Back, Return, Function}
use Rattle.core_code.specs.Terms as terms
use Rattle.core_code.specs.Terms.{Lowered, LoweredAll, Moved, is_moved, drop_after, drops_after, drops_after_all, drops_from, drops_if}
use Rattle.core_code.specs.Terms.{writes, cells, cell_drops, list_code, node, others, lower, lower_all, lower_items, lower_rest, slot_at}
use Rattle.core_code.specs.Statements.{Around, further, in_loop, whole, whole_if, test, loop_tested, loop_entered, stm_code, block_code}
use Rattle.core_code.specs.Statements.{function_of}
use Rattle.limbo_meaning.specs.Values.{Value, Num}
use Rattle.value_code.specs.Data.{Datum, Text, Word, Long, Zero, sorted}
use Rattle.value_code.specs.Code.{constant_data, zero_data}
use Rattle.value_code.specs.Objects.{data_at, all_data, function_data, of_function, in_all, all_data_of}
use Rattle.value_opening.specs.Opening.{Suits, IsOfInt}
use Rattle.value_opening.specs.Laws.{DataSuit}

each_both : {A : Type 0} (P : A → Type 0) (a b : List A) → Each P a → Each P b → Each P (a ++ b)
each_both P [] b g h = h
each_both P (x ∷ a) b g h = (g.0, each_both P a b g.1 h)

module _ (defs : List Def) where
  -- What an instruction has in the module's data suits, but for ints and the answer of a function.
  abbrev Good : Instr → Type 0
  Good (Give t (tree.Literal c) into from) = IsConstant t c
  Good (Pick t n into from) = HasRoom defs t
  Good (Write t w ops part from) = HasRoom defs t
  Good i = Unit {0}

  abbrev AllGood : List Instr → Type 0
  AllGood is = Each Good is

  both : (a b : List Instr) → AllGood a → AllGood b → AllGood (a ++ b)
  both a b g h = each_both Good a b g h

  abbrev LowersWell : Lowered → Type 0
  LowersWell l = AllGood l.code × AllGood l.drops

  abbrev AllLowerWell : LoweredAll → Type 0
  AllLowerWell l = AllGood l.code × AllGood l.drops × Each AllGood l.each

  -- ---- drops

  from_good : (s k n : ℕ) → AllGood (drops_from s k n)
  from_good s k zero = tt
  from_good s k (suc n) = (tt, from_good s (suc k) n)

  if_good : (b : Bool) (is : List Instr) → AllGood is → AllGood (drops_if b is)
  if_good true is h = h
  if_good false is h = tt

  one_after : (v : Moved) (i : Instr) → Good i → Good (drop_after v i)
  one_after v (Drop s r) h = go (is_moved v s r)
    where
      go : (b : Bool) → Good (if b then Drop v.into (v.at + (r - v.first)) else Drop s r)
      go true = tt
      go false = tt
  one_after v i h = h

  after_good : (v : Moved) (is : List Instr) → AllGood is → AllGood (drops_after v is)
  after_good v [] h = tt
  after_good v (i ∷ is) h = (one_after v i h.0, after_good v is h.1)

  all_after : (vs : List Moved) (is : List Instr) → AllGood is → AllGood (drops_after_all vs is)
  all_after [] is h = h
  all_after (v ∷ vs) is h = all_after vs (drops_after v is) (after_good v is h)

  cell_good : (n free : ℕ) → AllGood (cell_drops defs n free)
  cell_good zero free = tt
  cell_good (suc n) free = (tt, cell_good n (suc free))

  cells_good : (t : Ty) (ss : List ℕ) (b : Option ℕ) (free : ℕ) → AllGood (cells defs t ss b free)
  cells_good t [] b free = tt
  cells_good t (s ∷ ss) b free = (tt, cells_good t ss (Some free) (suc free))

  list_good : (t : Ty) (ss : List ℕ) (free : ℕ) → AllGood (list_code defs t ss free)
  list_good t [] free = (tt, tt)
  list_good t (s ∷ ss) free = cells_good t (reverse (s ∷ ss)) None free

  -- ---- nodes

  abbrev HaveRooms : List Aim → Type 0
  HaveRooms aims = Each (λ (a : Aim). HasRoom defs a.type) aims

  abbrev WorkGood : Ty → Work → Type 0
  WorkGood t (tree.Literal c) = IsConstant t c
  WorkGood t (tree.Assign aims) = HaveRooms aims
  WorkGood t (tree.TakePart n) = HasRoom defs t
  WorkGood t o = Unit {0}

  writes_good : (aims : List Aim) (ss : List ℕ) (v : ℕ) → HaveRooms aims → AllGood (writes defs aims ss v)
  writes_good [] ss v h = tt
  writes_good (a ∷ aims) ss v h = (h.0, writes_good aims (drop (operands_of a.way) ss) v h.1)

  gives_good : (t : Ty) (o : Work) (l : LoweredAll) → Good (Give t o l.free l.values) → AllLowerWell l → LowersWell (terms.gives defs t o l)
  gives_good t o l g h = (
    both l.code (Give t o l.free l.values ∷ []) h.0 (g, tt),
    both l.drops (drops_if (work_refers defs t o) (drops_from l.free 0 (terms.count_of defs t))) h.1
        (if_good (work_refers defs t o) (drops_from l.free 0 (terms.count_of defs t)) (from_good l.free 0 (terms.count_of defs t))),
  )

  placed_good : (t : Ty) (v : Option ℕ) (into n : ℕ) (ks : List ℕ) (cs : List (List Instr)) (ss : List ℕ) → Each AllGood cs
      → AllGood (terms.placed defs t v into n ks cs ss)
  placed_good t v into n (k ∷ ks) (c ∷ cs) (s ∷ ss) h =
      both c (Place t v n k into s ∷ terms.placed defs t v into (suc n) ks cs ss) h.0 (tt, placed_good t v into (suc n) ks cs ss h.1)
  placed_good t v into n [] cs ss h = tt
  placed_good t v into n (k ∷ ks) [] ss h = tt
  placed_good t v into n (k ∷ ks) (c ∷ cs) [] h = tt

  together_good : (front us : List Ty) (l : LoweredAll) → AllLowerWell l
      → AllGood (terms.together defs front us l) × AllGood (terms.together_drops defs front us l)
  together_good front us l h = (
    placed_good (ty.Tuple (tys_of (front ++ us))) None l.free 0 (terms.numbers_from defs (length front) (length l.values)) l.each l.values h.2,
    all_after (terms.moves_into defs (front ++ us) l.free (terms.numbers_from defs (length front) (length l.values)) l.values) l.drops h.1,
  )

  operated_good : (b : Bool) (t : Ty) (o : Operation) (l : LoweredAll) → AllLowerWell l
      → LowersWell (if b then terms.gathers defs t o l else terms.gives defs t (Operate o) l)
  operated_good true t o l h = (
    both (terms.placed defs t (terms.variant_of defs o) l.free 0 (terms.part_numbers defs o (length l.values)) l.each l.values)
        (Gather t (Operate o) l.free (length l.values) ∷ [])
        (placed_good t (terms.variant_of defs o) l.free 0 (terms.part_numbers defs o (length l.values)) l.each l.values h.2) (tt, tt),
    all_after (terms.moves_into defs (terms.part_types defs t) l.free (terms.part_numbers defs o (length l.values)) l.values) l.drops h.1,
  )
  operated_good false t o l h = gives_good t (Operate o) l tt h

  node_good : (us : List Ty) (t : Ty) (o : Work) (l : LoweredAll) → WorkGood t o → AllLowerWell l → LowersWell (node defs us t o l)
  node_good us t (Operate o) l g h = operated_good (passes_on o) t o l h
  node_good us t (tree.Assign aims) l g h = (
    both l.code (writes defs aims l.values (slot_at (operands_for aims) l.values)) h.0
        (writes_good aims l.values (slot_at (operands_for aims) l.values) g),
    h.1,
  )
  node_good us t (tree.TakePart n) l g h = (
    both l.code (Pick t n l.free (slot_at 0 l.values) ∷ []) h.0 (g, tt),
    after_good (terms.moves_out defs (terms.first_of defs us) n (slot_at 0 l.values) l.free) l.drops h.1,
  )
  node_good us t tree.Copy l g h =
      (both l.code (CopyInto (slot_at 0 l.values) (slot_at 1 l.values) (slot_at 2 l.values) ∷ []) h.0 (tt, tt), h.1)
  node_good us t tree.Link l g h = (
    both l.code (list_code defs (Rattle.limbo_meaning.specs.Operations.item_of t) l.values l.free) h.0
        (list_good (Rattle.limbo_meaning.specs.Operations.item_of t) l.values l.free),
    both l.drops (cell_drops defs (length l.values) l.free) h.1 (cell_good (length l.values) l.free),
  )
  node_good us t (tree.Call f) l g h = (
    both (terms.together defs [] us l) (Call t f (terms.value_slot defs l) (terms.operands_slot defs l) ∷ []) (together_good [] us l h).0 (tt, tt),
    both (terms.together_drops defs [] us l) (drops_from (terms.value_slot defs l) 0 (terms.count_of defs t)) (together_good [] us l h).1
        (from_good (terms.value_slot defs l) 0 (terms.count_of defs t)),
  )
  node_good us t (tree.Print ps) l g h = (
    both (terms.together defs (ty.Chars ∷ []) us l) (Print ps (terms.value_slot defs l) (terms.operands_slot defs l) ∷ []) (together_good (ty.Chars ∷ []) us l h).0
        (tt, tt),
    (together_good (ty.Chars ∷ []) us l h).1,
  )
  node_good us t tree.NewChannel l g h =
      (both l.code (Give t tree.NewChannel l.free [] ∷ []) h.0 (tt, tt), both l.drops (Drop l.free 0 ∷ []) h.1 (tt, tt))
  node_good us t (tree.Literal c) l g h = gives_good t (tree.Literal c) l g h
  node_good us t tree.Nil l g h = gives_good t tree.Nil l tt h
  node_good us t (tree.Read w) l g h = gives_good t (tree.Read w) l tt h
  node_good us t (tree.Sprint ps) l g h = gives_good t (tree.Sprint ps) l tt h

-- ---- typed trees

module _ (s : Scope) where
  leads_room : (ns : List ℕ) (t u : Ty) → HasRoom s.adts t → Leads s.adts t ns u → HasRoom s.adts u
  leads_room [] t u r h = subst (HasRoom s.adts) h r
  leads_room (n ∷ ns) t u r h = leads_room ns h.0 u (room_of_part s.adts [] t n h.0 r h.1) h.2

  way_room : (w : Way) (us : List Ty) (t : Ty) → WayIs s w us t → HasRoom s.adts t
  way_room w us t is = go w.character is.ends
    where
      go : (b : Bool) → Ends b is.inner t → HasRoom s.adts t
      go true e = subst (HasRoom s.adts) (sym e.1) (number 4, is_alone ty.Int (number 4) refl)
      go false e = subst (HasRoom s.adts) e (leads_room w.parts is.root is.inner is.room is.leads)

  aims_rooms : (aims : List Aim) (us : List Ty) (v : Ty) → AimsAre s aims us v → HaveRooms s.adts aims
  aims_rooms [] us v h = tt
  aims_rooms (a ∷ aims) us v h =
      (way_room a.way (take (operands_of a.way) us) a.type h.0, aims_rooms aims (drop (operands_of a.way) us) v h.3)

  declared_rooms : (aims : List Aim) → DeclaresAll s aims → HaveRooms s.adts aims
  declared_rooms [] h = tt
  declared_rooms (a ∷ aims) h = ((h.0).3, declared_rooms aims h.1)

  work_good : (u : Ty) (o : Work) (us : List Ty) (t : Ty) → WorkIs s u o us t → WorkGood s.adts u o
  work_good u (tree.Literal c) us t h = h.0
  work_good u (tree.Assign aims) us t h = aims_rooms aims us h.0 h.3
  work_good u (tree.TakePart n) us t h = room_of_part s.adts [] h.0 n u h.2 h.3
  work_good u _ us t h = tt

  declares_good : (u : Ty) (o : Work) (ts : Terms) (t : Ty) → DeclaresFor s o ts t → WorkGood s.adts u o
  declares_good u (tree.Assign aims) (MoreTerms (Evaluated v) NoTerms) t h = declared_rooms aims h.1
  declares_good u _ _ t h = absurd h

  -- a loop over the others of an initialiser
  others_good : (b : Bool) (t : Ty) (a : ℕ) (zs : List ℤ) (from : ℕ) (e : Lowered) → LowersWell s.adts e
      → LowersWell s.adts (others s.adts b t a zs from e)
  others_good true t a zs from e h =
      let turn = e.code ++ (Other t a from e.value ∷ Keep from (suc from) (e.free - suc from) ∷ []) in (
        (
          tt,
          (
            tt,
            both s.adts turn (Back (suc (length turn)) ∷ [])
                (both s.adts e.code (Other t a from e.value ∷ Keep from (suc from) (e.free - suc from) ∷ []) h.0 (tt, (tt, tt))) (tt, tt),
          ),
        ),
        (tt, both s.adts e.drops (Back (suc (length e.drops)) ∷ []) h.1 (tt, tt)),
      )
  others_good false t a zs from e h =
      let turn = e.code ++ Other t a from e.value ∷ [] in (
        (
          tt,
          (
            tt,
            both s.adts turn (Back (suc (length turn)) ∷ [])
                (both s.adts e.code (Other t a from e.value ∷ []) h.0 (tt, tt)) (tt, tt),
          ),
        ),
        tt,
      )

  mutual
    lower_good : (lo : ℕ) (t : Term) (u : Ty) → TermIs s [] None t u → LowersWell s.adts (lower s.adts lo t)
    lower_good lo (Evaluated v) u is = ((tt, tt), tt)
    lower_good lo (Node t o ts) u is =
        node_good s.adts (terms.types_in s.adts ts) t o (lower_all s.adts lo ts) (elim is.2 [
          | inl w ↦ work_good t o is.0 u w
          | inr w ↦ declares_good t o ts u w
        ]) (all_good lo ts is.0 is.1)
    lower_good lo (Lazy c l r) u is =
        let a = lower s.adts lo l in
        let b = lower s.adts (suc a.free) r in
        let held = may_hold s.adts r in
        let x = lower_good lo l ty.Int is.0 in
        let y = lower_good (suc a.free) r ty.Int is.1 in (
          both s.adts (a.code ++ Skip c b.free (if held then Some a.free else None) a.value (suc (length b.code)) ∷ b.code)
              (Truth b.free b.value ∷ []) (both s.adts a.code (Skip c b.free (if held then Some a.free else None) a.value
              (suc (length b.code)) ∷ b.code) x.0 (tt, y.0)) (tt, tt),
          both s.adts a.drops (drops_if held (Mirror a.free (length b.drops) ∷ b.drops)) x.1
              (if_good s.adts held (Mirror a.free (length b.drops) ∷ b.drops) (tt, y.1)),
        )
    lower_good lo (Update o g t w ts us) u is =
        let a = lower_all s.adts lo ts in
        let b = lower_all s.adts (suc a.free) us in
        let x = all_good lo ts is.0 is.2 in
        let y = all_good (suc a.free) us is.1 is.3 in
        let n = terms.count_of s.adts t in
        let last = Give t (Operate o) b.free (a.free ∷ b.values) ∷ Write t w a.values [] b.free ∷ [] in
        let held = work_refers s.adts t (Operate o) in (
          both s.adts (a.code ++ Give t (tree.Read w) a.free a.values ∷ b.code) last
              (both s.adts a.code (Give t (tree.Read w) a.free a.values ∷ b.code) x.0 (tt, y.0)) (tt, (way_room w is.0 t is.4, tt)),
          both s.adts a.drops (drops_from a.free 0 n ++ (b.drops ++ drops_if held (drops_from b.free 0 n))) x.1
              (both s.adts (drops_from a.free 0 n) (b.drops ++ drops_if held (drops_from b.free 0 n)) (from_good s.adts a.free 0 n)
              (both s.adts b.drops (drops_if held (drops_from b.free 0 n)) y.1
              (if_good s.adts held (drops_from b.free 0 n) (from_good s.adts b.free 0 n)))),
        )
    lower_good lo (Fill t l is rest) u h =
        let n = lower s.adts lo l in
        let shared = suc n.free in
        let start = Rattle.std.specs.Prelude.max (terms.items_end s.adts shared is) (terms.rest_end s.adts shared rest) in
        let es = lower_items s.adts t n.free shared start is in
        let os = lower_rest s.adts t n.free (terms.named s.adts is) shared es.free rest in
        let x = lower_good lo l ty.Int h.1 in
        let y = items_good t n.free shared start is h.2 in
        let z = rest_good t n.free (terms.named s.adts is) shared es.free rest h.3 in (
          both s.adts (n.code ++ Give (ty.ArrayOf t) (Operate operation.NewArray) n.free (n.value ∷ []) ∷ es.code) os.code
              (both s.adts n.code (Give (ty.ArrayOf t) (Operate operation.NewArray) n.free (n.value ∷ []) ∷ es.code) x.0 (tt, y.0)) z.0,
          both s.adts (n.drops ++ Drop n.free 0 ∷ es.drops) os.drops
              (both s.adts n.drops (Drop n.free 0 ∷ es.drops) x.1 (tt, y.1)) z.1,
        )
    lower_good lo _ u is = (tt, tt)

    all_good : (lo : ℕ) (ts : Terms) (us : List Ty) → TermsAre s [] None ts us → AllLowerWell s.adts (lower_all s.adts lo ts)
    all_good lo NoTerms us is = (tt, tt, tt)
    all_good lo (MoreTerms t ts) [] is = absurd is
    all_good lo (MoreTerms t ts) (u ∷ us) is =
        let a = lower s.adts lo t in
        let b = lower_all s.adts a.free ts in
        let x = lower_good lo t u is.0 in
        let y = all_good a.free ts us is.1 in
        (both s.adts a.code b.code x.0 y.0, both s.adts a.drops b.drops x.1 y.1, (x.0, y.2))

    items_good : (t : Ty) (a shared lo : ℕ) (is : Items) → ItemsAre s [] None is t
        → LowersWell s.adts (lower_items s.adts t a shared lo is)
    items_good t a shared lo NoItems h = (tt, tt)
    items_good t a shared lo (MoreItems i e is) h =
        let from = if may_hold s.adts e then lo else shared in
        let x = lower s.adts from e in
        let next = if may_hold s.adts e then x.free else lo in
        let y = lower_items s.adts t a shared next is in
        let v = lower_good from e t h.0 in
        let w = items_good t a shared next is h.1 in
        (both s.adts x.code (Element t a i x.value ∷ y.code) v.0 (tt, w.0), both s.adts x.drops y.drops v.1 w.1)

    rest_good : (t : Ty) (a : ℕ) (zs : List ℤ) (shared lo : ℕ) (es : Terms) → RestIs s [] es t
        → LowersWell s.adts (lower_rest s.adts t a zs shared lo es)
    rest_good t a zs shared lo NoTerms h = (tt, tt)
    rest_good t a zs shared lo (MoreTerms e es) h =
        let from = if may_hold s.adts e then suc lo else shared in
        others_good (may_hold s.adts e) t a zs lo (lower s.adts from e) (lower_good from e t h)

-- ---- statements

module _ (s : Scope) (answer : Ty) where
  whole_good : (t : Term) (u : Ty) → TermIs s [] None t u → AllGood s.adts (whole s.adts t)
  whole_good t u is =
      let l = lower s.adts 0 t in
      let h = lower_good s 0 t u is in
      both s.adts l.code l.drops h.0 h.1

  whole_if_good : (t : Option Term) → TermIfAny s [] answer t → AllGood s.adts (whole_if s.adts t)
  whole_if_good None h = tt
  whole_if_good (Some t) h = whole_good t h.0 h.1

  test_good : (c : Option Term) (n : ℕ) → TestIs s [] answer c → AllGood s.adts (test s.adts c n)
  test_good None n h = tt
  test_good (Some t) n h =
      both s.adts (whole s.adts t) (Unless (lower s.adts 0 t).value n ∷ []) (whole_good t ty.Int h) (tt, tt)

  tested_good : (c : Option Term) (body next : List Instr) → TestIs s [] answer c → AllGood s.adts body → AllGood s.adts next
      → AllGood s.adts (loop_tested s.adts c body next)
  tested_good c body next h g k =
      let turn = body ++ next in
      let head = test s.adts c (suc (length turn)) in
      both s.adts head (turn ++ Back (length head + length turn) ∷ []) (test_good c (suc (length turn)) h)
      (both s.adts turn (Back (length head + length turn) ∷ []) (both s.adts body next g k) (tt, tt))

  entered_good : (c : Option Term) (body next : List Instr) → TestIs s [] answer c → AllGood s.adts body → AllGood s.adts next
      → AllGood s.adts (loop_entered s.adts c body next)
  entered_good c body next h g k =
      let turn = body ++ next in
      let head = test s.adts c 1 in
      both s.adts turn (head ++ Back (length turn + length head) ∷ []) (both s.adts body next g k)
      (both s.adts head (Back (length turn + length head) ∷ []) (test_good c 1 h) (tt, tt))

  mutual
    stm_good : (around : List Around) (rest : ℕ) (x : Stm) → StmIs s [] answer None x → AllGood s.adts (stm_code s.adts around rest x)
    stm_good around rest Over h = tt
    stm_good around rest (Eval t) h = whole_good t h.0 h.1
    stm_good around rest (If t a b) h =
        let other = block_code s.adts (further rest around) b in
        let first = block_code s.adts (further (suc (length other) + rest) around) a in
        both s.adts (whole s.adts t ++ Unless (lower s.adts 0 t).value (suc (length first)) ∷ first) (Jump (length other) ∷ other)
        (both s.adts (whole s.adts t) (Unless (lower s.adts 0 t).value (suc (length first)) ∷ first) (whole_good t ty.Int h.0)
        (tt, block_good (further (suc (length other) + rest) around) a h.1))
        (tt, block_good (further rest around) b h.2)
    stm_good around rest (While t (Looping c n body)) h =
        let next = whole_if s.adts n in
        tested_good c (block_code s.adts (in_loop (suc (length next)) rest around) body) next h.1.0
        (block_good (in_loop (suc (length next)) rest around) body h.1.2) (whole_if_good n h.1.1)
    stm_good around rest (Enter (Looping c n body)) h =
        let next = whole_if s.adts n in
        let inside = in_loop (length next + suc (length (test s.adts c 1))) rest around in
        entered_good c (block_code s.adts inside body) next h.0 (block_good inside body h.2) (whole_if_good n h.1)
    stm_good around rest (Break n) h = (tt, tt)
    stm_good around rest (Continue n) h = (tt, tt)
    stm_good around rest (tree.Return t) h =
        both s.adts (lower s.adts 0 t).code (Return (Some (lower s.adts 0 t).value) ∷ []) (lower_good s 0 t answer h).0 (tt, tt)
    stm_good around rest tree.Leave h = (tt, tt)

    block_good : (around : List Around) (b : Block) → BlockIs s [] answer None b → AllGood s.adts (block_code s.adts around b)
    block_good around Done h = tt
    block_good around (Then x b) h =
        let rest = block_code s.adts around b in
        both s.adts (stm_code s.adts around (length rest) x) rest (stm_good around (length rest) x h.0) (block_good around b h.1)
    block_good around (Turn l b) h = block_good around b h.1
    block_good around (Again l b) h = block_good around b h.1

function_good : (s : Scope) (answer : Ty) (r : Routine) → BlockIs s [] answer None r.body → AllGood s.adts (function_of s.adts r).code
function_good s answer r h =
    both s.adts (block_code s.adts [] r.body) (Return None ∷ []) (block_good s answer [] r.body h) (tt, tt)

-- ---- data

module _ (m : typed.Module) where
  -- What suits of a datum but for ints.
  abbrev Fine : Datum → Type 0
  Fine (Long z) = InRange kind.Big z
  Fine (Zero t) = HasRoom m.adts t
  Fine d = Unit {0}

  zero_fine : (t : Ty) → HasRoom m.adts t → Each Fine (zero_data t)
  zero_fine (ty.Tuple ts) r = (r, tt)
  zero_fine (ty.Adt n) r = (r, tt)
  zero_fine _ r = tt

  constant_fine : (t : Ty) (c : Constant) → IsConstant t c → Each Fine (constant_data t c)
  constant_fine ty.Big (constant.Number z) i = (i, tt)
  constant_fine t (constant.Number z) i = (tt, tt)
  constant_fine t (constant.Chars cs) i = (tt, tt)

  words_fine : (zs : List ℤ) → Each Fine (map (λ z. Word z) zs)
  words_fine [] = tt
  words_fine (z ∷ zs) = (tt, words_fine zs)

  module _ (answer : Ty) (g : Function) (room : HasRoom m.adts answer) where
    given_fine : (pc : ℕ) (t : Ty) (o : Work) (into : ℕ) (from : List ℕ) → Good m.adts (Give t o into from)
        → Each Fine (data_at m answer g pc (Give t o into from))
    given_fine pc t (tree.Literal c) into from h = constant_fine t c h
    given_fine pc t _ into from h = tt

    known_fine : (pc : ℕ) (v : Value) (into : ℕ) → Each Fine (data_at m answer g pc (Known v into))
    known_fine pc (Num z) into = (tt, tt)
    known_fine pc _ into = tt

    instr_fine : (pc : ℕ) (i : Instr) → Good m.adts i → Each Fine (data_at m answer g pc i)
    instr_fine pc (Give t o into from) h = given_fine pc t o into from h
    instr_fine pc (Pick t k into from) h = zero_fine t h
    instr_fine pc (Known v into) h = known_fine pc v into
    instr_fine pc (Write t w ops part from) h = zero_fine t h
    instr_fine pc (Print ps into from) h = (tt, tt)
    instr_fine pc (Element t array index from) h = (tt, tt)
    instr_fine pc (Next array loop named n) h = words_fine (sorted named)
    instr_fine pc (Return None) h = zero_fine answer room
    instr_fine pc _ h = tt

    code_fine : (pc : ℕ) (is : List Instr) → AllGood m.adts is → Each Fine (all_data m answer g pc is)
    code_fine pc [] h = tt
    code_fine pc (i ∷ is) h =
        each_both Fine (data_at m answer g pc i) (all_data m answer g (suc pc) is) (instr_fine pc i h.0) (code_fine (suc pc) is h.1)

  functions_fine : (fs : List typed.Function)
      → ((i : ℕ) (f : typed.Function) → slice_get fs i ≡ Some f → RoutineIs (outline_of m) (signature_of f) (routine_of f))
      → Each Fine (in_all m (function_data m) fs)
  functions_fine [] h = tt
  functions_fine (f ∷ fs) h =
      let r = h 0 f refl in
      let g = of_function m f in
      each_both Fine (function_data m f) (in_all m (function_data m) fs)
      (code_fine f.of.answer g r.answer 0 g.code
      (function_good (scope_of (outline_of m) (routine_of f).variables) f.of.answer (routine_of f) r.body))
      (functions_fine fs (λ i e. h (suc i) e))

  all_suit : (ds : List Datum) → Each IsOfInt ds → Each Fine ds → Each (Suits m) ds
  all_suit [] i f = tt
  all_suit (Text t ∷ ds) i f = (tt, all_suit ds i.1 f.1)
  all_suit (Word z ∷ ds) i f = (i.0, all_suit ds i.1 f.1)
  all_suit (Long z ∷ ds) i f = (f.0, all_suit ds i.1 f.1)
  all_suit (Zero t ∷ ds) i f = (f.0, all_suit ds i.1 f.1)

map_get : {A B : Type 0} (f : A → B) (xs : List A) (i : ℕ) (x : A) → slice_get xs i ≡ Some x → slice_get (map f xs) i ≡ Some (f x)
map_get f [] i x e = absurd cc
map_get f (y ∷ xs) zero x e = let same : y ≡ x = cc in ap (λ z. Some (f z)) same
map_get f (y ∷ xs) (suc i) x e = map_get f xs i x e

pub data_suit : DataSuit
data_suit m sound laid written ints =
    let is = modules_keep_types.programs Anything m sound laid written (modules_keep_types.anything m) in
    all_suit m (all_data_of m) ints (functions_fine m m.functions (λ i f e.
    is.routines i (signature_of f) (routine_of f) (map_get signature_of m.functions i f e) (map_get routine_of m.functions i f e)))
