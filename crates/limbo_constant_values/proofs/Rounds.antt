-- A constant that needs itself has no value.
use Rattle.std.proofs.Common.{◌≡◌, ◌⊎◌, inl, inr, ℕ, List, Option, Some, refl, sym, ap, subst, ◌∙◌}
use Rattle.std.specs.List.{Contains}
use Rattle.limbo_tree.specs.Exprs.{Expr}
use Rattle.limbo_constants.specs.declared.constant.Constant as constant
use Rattle.limbo_constants.specs.Asked.{asked}
use Rattle.limbo_declarations.specs.Rows as rows
use Rattle.limbo_entries.specs.Entries.{Entry, IsEntry, AreOnce}
use Rattle.limbo_order.specs.Order.{Needs, NeedsWithin, at_once, further}
use Rattle.limbo_naming.specs.Qualified.{Qualified, Simple, of_expr}
use Rattle.limbo_naming.specs.Naming.{Names}
use Rattle.limbo_naming.proofs.Unique.{one_named}
use Rattle.limbo_constant_values.specs.Values.{HasValue, value, Comes, comes, IsMeant, named, counted, iota_name}
use Rattle.limbo_constant_values.specs.Needs.{NeedsValue}
use Rattle.limbo_constant_values.proofs.Meanings.{same_entry, no_iota, found_mean}

-- what needs one that needs another needs the other
within_more : (all : List (List ℕ)) (n k j : ℕ) → NeedsWithin all n k → Needs all k j → NeedsWithin all n j
within_more all _ _ j (at_once n k w) v = further n k j w (at_once k j v)
within_more all _ _ j (further n i k w u) v = further n i j w (within_more all i k j u v)

abbrev Far : List (List ℕ) → ℕ → ℕ → Type 0
Far all k j = (k ≡ j) ⊎ NeedsWithin all k j

-- the first step of a way
first_step : (all : List (List ℕ)) (k j : ℕ) → NeedsWithin all k j → (r : ℕ) × Needs all k r × Far all r j
first_step all _ _ (at_once k j w) = (j, w, inl refl)
first_step all _ _ (further k r j w v) = (r, w, inr v)

round_from : (all : List (List ℕ)) (k r : ℕ) → Needs all k r → Far all r k → NeedsWithin all r r
round_from all k r w (inl e) = subst (λ (z : ℕ). NeedsWithin all r z) (sym e) (at_once r k (subst (λ (z : ℕ). Needs all z k) (sym e) (subst (λ (z : ℕ). Needs all k z) e w)))
round_from all k r w (inr v) = within_more all r k r v w

module _ (es : List Entry) (m : ℕ) (once : AreOnce es) (all : List (List ℕ)) (sound : (k r : ℕ) → Needs all k r → NeedsValue es m k r) where
  at_entry : (k : ℕ) (e : Entry) (expr : Expr) (i : ℕ) → IsEntry es k e → e.row.means ≡ rows.Constant expr i → (r : ℕ) (n : NeedsValue es m k r)
      → Contains (asked expr) n.part × Names es m e.within n.name r
  at_entry k e expr i t w r n =
      let a : n.entry ≡ e = same_entry es k n.entry e n.there t in
      let b : rows.Constant n.expr n.iota ≡ rows.Constant expr i = sym n.means ∙ ap (λ (z : Entry). z.row.means) a ∙ w in
      let p : n.expr ≡ expr = cc in
      (subst (λ (z : Expr). Contains (asked z) n.part) p n.asks, subst (λ (z : Entry). Names es m z.within n.name r) a n.names)

  mutual
    pub no_round : (k : ℕ) (c : constant.Constant) → HasValue es m k c → (j : ℕ) → Far all k j → NeedsWithin all j j → ⊥
    no_round _ _ (value k e expr i c t w x) j (inl p) round =
        let s = first_step all k k (subst (λ (z : ℕ). NeedsWithin all z z) (sym p) round) in
        let n = sound k s.0 s.1 in
        let y = at_entry k e expr i t w s.0 n in
        from_coming e.within (Some i) expr c x n.part n.name s.0 y.0 n.is_name y.1 s.0 (inl refl) (round_from all k s.0 s.1 s.2)
    no_round _ _ (value k e expr i c t w x) j (inr v) round =
        let s = first_step all k j v in
        let n = sound k s.0 s.1 in
        let y = at_entry k e expr i t w s.0 n in
        from_coming e.within (Some i) expr c x n.part n.name s.0 y.0 n.is_name y.1 j s.2 round

    from_coming : (scope iota : Option ℕ) (expr : Expr) (c : constant.Constant) → Comes es m scope iota expr c → (part : Expr) (q : Qualified) (r : ℕ)
        → Contains (asked expr) part → of_expr part ≡ Some q → Names es m scope q r → (j : ℕ) → Far all r j → NeedsWithin all j j → ⊥
    from_coming _ _ _ _ (comes scope iota expr c meant f h) part q r at w n j far round =
        let a = found_mean meant expr c h part at in
        from_meaning scope iota part a.0 (f part a.0 at a.1) q r w n j far round

    from_meaning : (scope iota : Option ℕ) (part : Expr) (a : constant.Constant) → IsMeant es m scope iota part a → (q : Qualified) (r : ℕ)
        → of_expr part ≡ Some q → Names es m scope q r → (j : ℕ) → Far all r j → NeedsWithin all j j → ⊥
    from_meaning _ _ _ _ (named scope iota part q' r' a x y z) q r w n j far round =
        let p : q' ≡ q = cc in
        let s : r' ≡ r = one_named es m once scope q r' r (subst (λ (u : Qualified). Names es m scope u r') p y) n in
        no_round r' a z j (subst (λ (u : ℕ). Far all u j) (sym s) far) round
    from_meaning _ _ _ _ (counted scope i none) q r w n j far round =
        let p : q ≡ Simple iota_name = cc in
        no_iota es m once scope q r none p n
