-- Where the value of a tree stands: among its own slots, and none of its drops brings anything back there.
use Rattle.std.proofs.Common.{◌≡◌, ℕ, zero, suc, ◌+◌, ◌-◌, ◌<◌, ◌≤◌, Bool, true, false, List, [], ◌∷◌, ◌++◌, length}
use Rattle.std.proofs.Common.{sym, ap, subst, arith, inl, inr, ⊎_elim}
use Rattle.std.specs.Prelude.{if◌then◌else◌}
use Rattle.limbo_types.specs.Types as ty
use Rattle.limbo_types.specs.Types.{Ty}
use Rattle.limbo_layout.specs.Adts.{Def}
use Rattle.limbo_typed.specs.declared.operation.Given.{Given}
use Rattle.limbo_typed.specs.declared.operation.Given.TheVariants as given_kind
use Rattle.limbo_meaning.specs.Trees as tree
use Rattle.limbo_meaning.specs.Trees.{Work, Operate, Term, Evaluated, Node, Lazy, Update, Fill, Terms, NoTerms, MoreTerms}
use Rattle.limbo_meaning.specs.Evaluation.{may_hold, work_refers, operands_for}
use Rattle.core_code.specs.Code.{Drop}
use Rattle.core_code.specs.Code.{Instr, Take}
use Rattle.core_code.specs.Terms.{Lowered, LoweredAll, drops_from, drops_if, count_of, gives, gathers, cell_drops, slot_at, types_in}
use Rattle.core_code.specs.Terms.{node, lower, first_of, moves_out, numbers_from, value_slot, together_drops}
use Rattle.core_code.specs.Terms.{lower_all, given_slot}
use Rattle.std.specs.Prelude.{max}
use Rattle.core_code.specs.Terms.{lower_items, lower_rest, items_end, rest_end, named}
use Rattle.core_code.proofs.Used.{value_from, end_up, items_up, rest_up, term_up, terms_up}
use Rattle.core_follows.specs.Drops.{Between, Beside, Touches, AllTouch, Spares, AllSpare}
use Rattle.core_follows.specs.Handled.{count, Suits, Declares, Handled, AllHandled}
use Rattle.core_follows.proofs.Static.{items_within, rest_within, drops_within, all_within, values_counted}
use Rattle.core_code.specs.Terms.{Moved, is_moved, drop_after, drops_after, drops_after_all, moves_into, part_types, part_numbers}
use Rattle.core_code.specs.Code.{Mirror}
use Rattle.core_follows.proofs.Nodes.{DiffersFrom, AllDiffer}

spare_one : (lo hi s : ℕ) (i : Instr) → Beside lo hi s → Touches (Between lo hi) i → Spares s i
spare_one lo hi s (Take c from words n) b t = (
  (λ e. absurd (let x = t.0 in elim b [ inl y ↦ omega (arith, y, e, x.0) | inr y ↦ omega (arith, y, e, x.1) ])),
  λ p q. absurd (let x = t.2 s p q in elim b [ inl y ↦ omega (arith, y, x.0) | inr y ↦ omega (arith, y, x.1) ]),
)
spare_one lo hi s (Mirror d n) b t =
    λ e. absurd (elim b [ inl y ↦ (let x = t.0 in omega (arith, y, e, x)) | inr y ↦ (let x = t.1 in omega (arith, y, e, x)) ])
spare_one lo hi s _ b t = tt

pub spare_outside : (lo hi s : ℕ) (is : List Instr) → Beside lo hi s → AllTouch (Between lo hi) is → AllSpare s is
spare_outside lo hi s [] b t = tt
spare_outside lo hi s (i ∷ is) b t = (spare_one lo hi s i b t.0, spare_outside lo hi s is b t.1)

pub spare_more : (s : ℕ) (is js : List Instr) → AllSpare s is → AllSpare s js → AllSpare s (is ++ js)
spare_more s [] js h k = k
spare_more s (i ∷ is) js h k = (h.0, spare_more s is js h.1 k)

spare_from : (s d k n : ℕ) → AllSpare s (drops_from d k n)
spare_from s d k zero = tt
spare_from s d k (suc n) = (tt, spare_from s d (suc k) n)

spare_if : (s : ℕ) (b : Bool) (is : List Instr) → AllSpare s is → AllSpare s (drops_if b is)
spare_if s true is h = h
spare_if s false is h = tt

spare_after : (s : ℕ) (v : Moved) (i : Instr) → Spares s i → Spares s (drop_after v i)
spare_after s v (Drop r j) h = either (is_moved v r j)
  where
    either : (b : Bool) → Spares s (if b then Drop v.into (v.at + (j - v.first)) else Drop r j)
    either true = tt
    either false = tt
spare_after s v (Mirror d n) h = h
spare_after s v (Take c from words n) h = h
spare_after s v _ h = tt

pub spare_after_one : (s : ℕ) (v : Moved) (is : List Instr) → AllSpare s is → AllSpare s (drops_after v is)
spare_after_one s v [] h = tt
spare_after_one s v (i ∷ is) h = (spare_after s v i h.0, spare_after_one s v is h.1)

spare_after_all : (s : ℕ) (vs : List Moved) (is : List Instr) → AllSpare s is → AllSpare s (drops_after_all vs is)
spare_after_all s [] is h = h
spare_after_all s (v ∷ vs) is h = spare_after_all s vs (drops_after v is) (spare_after_one s v is h)

pub record Valued (lo : ℕ) (x : Lowered) : Type 0 where
  pub between : Between lo x.free x.value
  pub spares : AllSpare x.value x.drops

abbrev pub AllValued : (lo hi : ℕ) → List Instr → List ℕ → Type 0
AllValued lo hi ds [] = Unit {0}
AllValued lo hi ds (s ∷ ss) = (Between lo hi s × AllSpare s ds) × AllValued lo hi ds ss

pub valued_at : (lo hi : ℕ) (ds : List Instr) (ss : List ℕ) (k : ℕ) → k < length ss → AllValued lo hi ds ss
    → Between lo hi (slot_at k ss) × AllSpare (slot_at k ss) ds
valued_at lo hi ds [] k l h = absurd (omega arith)
valued_at lo hi ds (s ∷ ss) zero l h = h.0
valued_at lo hi ds (s ∷ ss) (suc k) l h = valued_at lo hi ds ss k (omega arith) h.1

-- more drops in front, of slots below
valued_more : (lo lo' hi : ℕ) (ds es : List Instr) (ss : List ℕ) → lo' ≤ lo → AllTouch (Between lo' lo) ds → AllValued lo hi es ss
    → AllValued lo' hi (ds ++ es) ss
valued_more lo lo' hi ds es [] l t h = tt
valued_more lo lo' hi ds es (s ∷ ss) l t h = (
  (
    (let x = h.0.0.0 in omega (arith, x, l), h.0.0.1),
    spare_more s ds es (spare_outside lo' lo s ds (inr h.0.0.0) t) h.0.1,
  ),
  valued_more lo lo' hi ds es ss l t h.1,
)

module _ (defs : List Def) where
  spare_cells : (s n free : ℕ) → AllSpare s (cell_drops defs n free)
  spare_cells s zero free = tt
  spare_cells s (suc n) free = (tt, spare_cells s n (suc free))

  gives_valued : (lo : ℕ) (t : Ty) (o : Work) (l : LoweredAll) → lo ≤ l.free → AllTouch (Between lo l.free) l.drops
      → Valued lo (gives defs t o l)
  gives_valued lo t o l p w = record {
    between = (p, omega arith);
    spares = spare_more l.free l.drops _ (spare_outside lo l.free l.free l.drops (inr (omega arith)) w)
        (spare_if l.free (work_refers defs t o) _ (spare_from l.free l.free 0 (count_of defs t)));
  }

  together_spares : (lo : ℕ) (front us : List Ty) (l : LoweredAll) → AllTouch (Between lo l.free) l.drops
      → AllSpare (value_slot defs l) (together_drops defs front us l)
  together_spares lo front us l w =
      spare_after_all (value_slot defs l) (moves_into defs (front ++ us) l.free (numbers_from defs (length front) (length l.values)) l.values)
      l.drops
      (spare_outside lo l.free (value_slot defs l) l.drops (inr (value_from defs l)) w)

  node_valued : (lo : ℕ) (us : List Ty) (t : Ty) (o : Work) (ts : Terms) (l : LoweredAll) → lo ≤ l.free → AllTouch (Between lo l.free) l.drops
      → length l.values ≡ count ts
      → AllValued lo l.free l.drops l.values → Suits defs t o ts → Valued lo (node defs us t o l)
  node_valued lo us t (Operate o) ts l p w e v (inl s) =
      subst (λ (b : Bool). Valued lo (if b then gathers defs t o l else gives defs t (Operate o) l)) (sym s)
      (gives_valued lo t (Operate o) l p w)
  node_valued lo us t (Operate o) ts l p w e v (inr s) =
      subst (λ (b : Bool). Valued lo (if b then gathers defs t o l else gives defs t (Operate o) l)) (sym s.0)
      (record {
        between = (p, omega arith);
        spares = spare_after_all l.free (moves_into defs (part_types defs t) l.free (part_numbers defs o (length l.values)) l.values)
            l.drops
            (spare_outside lo l.free l.free l.drops (inr (omega arith)) w);
      })
  node_valued lo us t (tree.Assign aims) ts l p w e v s =
      let x = valued_at lo l.free l.drops l.values (operands_for aims) (omega (arith, e, s)) v in record { between = x.0; spares = x.1 }
  node_valued lo us t (tree.TakePart k) ts l p w e v s = record {
    between = (p, omega arith);
    spares = spare_after_one l.free (moves_out defs (first_of defs us) k (slot_at 0 l.values) l.free) l.drops
        (spare_outside lo l.free l.free l.drops (inr (omega arith)) w);
  }
  node_valued lo us t tree.Copy ts l p w e v s =
      let x = valued_at lo l.free l.drops l.values 2 (omega (arith, e, s)) v in record { between = x.0; spares = x.1 }
  node_valued lo us t tree.Link ts l p w e v s =
      let at = l.free + (length l.values - 1) in
      record {
        between = (omega arith, omega arith);
        spares = spare_more at l.drops _ (spare_outside lo l.free at l.drops (inr (omega arith)) w)
            (spare_cells at (length l.values) l.free);
      }
  node_valued lo us t (tree.Call f) ts l p w e v s =
      let at : ℕ = value_slot defs l in
      let q = value_from defs l in
      record {
        between = (omega arith, omega arith);
        spares = spare_more at (together_drops defs [] us l) _ (together_spares lo [] us l w) (spare_from at at 0 (count_of defs t));
      }
  node_valued lo us t (tree.Print ps) ts l p w e v s =
      let q = value_from defs l in record { between = (omega arith, omega arith); spares = together_spares lo (ty.Chars ∷ []) us l w }
  node_valued lo us t tree.NewChannel ts l p w e v s = record {
    between = (p, omega arith);
    spares = spare_more l.free l.drops _ (spare_outside lo l.free l.free l.drops (inr (omega arith)) w) (tt, tt);
  }
  node_valued lo us t (tree.Literal c) ts l p w e v s = gives_valued lo t (tree.Literal c) l p w
  node_valued lo us t tree.Nil ts l p w e v s = gives_valued lo t tree.Nil l p w
  node_valued lo us t (tree.Read r) ts l p w e v s = gives_valued lo t (tree.Read r) l p w
  node_valued lo us t (tree.Sprint ps) ts l p w e v s = gives_valued lo t (tree.Sprint ps) l p w

  declared_valued : (lo : ℕ) (t : Ty) (o : Work) (ts : Terms) → Declares o ts → Valued lo (lower defs lo (Node t o ts))
  declared_valued lo t (tree.Assign (a ∷ aims)) (MoreTerms (Evaluated v) NoTerms) d =
      let at : slot_at (operands_for (a ∷ aims)) (lo ∷ []) ≡ lo = ap (λ (k : ℕ). slot_at k (lo ∷ [])) d.0 in
      record { between = (let z = at in omega arith, let z = at in omega arith); spares = tt }
  declared_valued lo t _ _ d = absurd d

  given_valued : (k : Given) (lo s d hi : ℕ) (ds : List Instr) → Between lo hi s × AllSpare s ds → Between lo hi d × AllSpare d ds
      → Between lo hi (given_slot defs k s d) × AllSpare (given_slot defs k s d) ds
  given_valued given_kind.Old lo s d hi ds x y = x
  given_valued given_kind.New lo s d hi ds x y = y

  mutual
    pub value_stands : (t : Term) → Handled defs t → (lo : ℕ) → Valued lo (lower defs lo t)
    value_stands (Node t o ts) h lo = ⊎_elim
        (λ (x : Suits defs t o ts × AllHandled defs ts). node_valued lo (types_in defs ts) t o ts (lower_all defs lo ts)
        (terms_up defs lo ts)
        (all_within defs lo ts) (values_counted defs lo ts) (values_stand ts x.1 lo) x.0)
        (λ (x : Declares o ts). declared_valued lo t o ts x) h
    value_stands (Lazy k l r) h lo =
        let a = lower defs lo l in
        let b = lower defs (suc a.free) r in
        let p = term_up defs lo l in
        let q = term_up defs (suc a.free) r in
        record {
          between = (omega arith, omega arith);
          spares = spare_more b.free a.drops _ (spare_outside lo a.free b.free a.drops (inr (omega arith)) (drops_within defs lo l))
              (spare_if b.free (may_hold defs r) _ (
                (λ e. absurd (omega (arith, e, q))),
                spare_outside (suc a.free) b.free b.free b.drops (inr (omega arith))
                    (drops_within defs (suc a.free) r),
              ));
        }
    value_stands (Update o k t w ts us) h lo =
        let a = lower_all defs lo ts in
        let b = lower_all defs (suc a.free) us in
        let p = terms_up defs lo ts in
        let q = terms_up defs (suc a.free) us in
        let spares = λ (s : ℕ) (x : Beside lo a.free s) (y : Beside (suc a.free) b.free s).
        spare_more s a.drops _ (spare_outside lo a.free s a.drops x (all_within defs lo ts))
        (spare_more s (drops_from a.free 0 (count_of defs t)) _ (spare_from s a.free 0 (count_of defs t))
        (spare_more s b.drops _ (spare_outside (suc a.free) b.free s b.drops y (all_within defs (suc a.free) us))
        (spare_if s (work_refers defs t (Operate o)) _ (spare_from s b.free 0 (count_of defs t))))) in
        let v = given_valued k lo a.free b.free (suc b.free) _ ((p, omega arith), spares a.free (inr (omega arith)) (inl (omega arith)))
        ((omega arith, omega arith), spares b.free (inr (omega arith)) (inr (omega arith))) in
        record { between = v.0; spares = v.1 }
    value_stands (Fill t l is rest) h lo =
        let n = lower defs lo l in
        let s = suc n.free in
        let from = max (items_end defs s is) (rest_end defs s rest) in
        let es = lower_items defs t n.free s from is in
        let os = lower_rest defs t n.free (named defs is) s es.free rest in
        let p = term_up defs lo l in
        let q = end_up defs s is in
        let u = items_up defs t n.free s from is in
        let v = rest_up defs t n.free (named defs is) s es.free rest in
        record {
          between = (p, omega arith);
          spares = spare_more n.free (n.drops ++ (Drop n.free 0 ∷ es.drops)) os.drops
              (spare_more n.free n.drops (Drop n.free 0 ∷ es.drops) (spare_outside lo n.free n.free n.drops (inr (omega arith))
              (drops_within defs lo l)) (
                tt,
                spare_outside s os.free n.free es.drops (inl (omega arith)) (items_within defs s os.free t n.free s from is
                    (omega arith) v),
              ))
              (spare_outside s os.free n.free os.drops (inl (omega arith)) (rest_within defs s os.free t n.free (named defs is) s es.free
              rest (omega arith) (omega arith)));
        }
    value_stands _ h lo = absurd h

    pub values_stand : (ts : Terms) → AllHandled defs ts → (lo : ℕ) → AllValued lo (lower_all defs lo ts).free (lower_all defs lo ts).drops
        (lower_all defs lo ts).values
    values_stand NoTerms h lo = tt
    values_stand (MoreTerms t ts) h lo =
        let a = lower defs lo t in
        let b = lower_all defs a.free ts in
        let v = value_stands t h.0 lo in
        let q = terms_up defs a.free ts in (
          (
            (v.between.0, let x = v.between.1 in omega (arith, x, q)),
            spare_more a.value a.drops b.drops v.spares (spare_outside a.free b.free a.value b.drops (inl v.between.1)
                (all_within defs a.free ts)),
          ),
          valued_more a.free lo b.free a.drops b.drops b.values (term_up defs lo t) (drops_within defs lo t) (values_stand ts h.1 a.free),
        )

  -- ---- the values of operands stand apart

  differs_from : (s lo hi : ℕ) (ds : List Instr) (ss : List ℕ) → s < lo → AllValued lo hi ds ss → DiffersFrom s ss
  differs_from s lo hi ds [] l h = tt
  differs_from s lo hi ds (r ∷ ss) l h = ((λ e. absurd (let x = h.0.0.0 in omega (arith, x, l, e))), differs_from s lo hi ds ss l h.1)

  pub values_differ : (ts : Terms) → AllHandled defs ts → (lo : ℕ) → AllDiffer (lower_all defs lo ts).values
  values_differ NoTerms h lo = tt
  values_differ (MoreTerms t ts) h lo =
      let a = lower defs lo t in
      let b = lower_all defs a.free ts in
      let v = value_stands t h.0 lo in
      (differs_from a.value a.free b.free b.drops b.values v.between.1 (values_stand ts h.1 a.free), values_differ ts h.1 a.free)
